-- The law of a scope with nil body: with a mark it runs a handler, else it ends, and inside another hands its own on.
-- Assumes nothing.
use Prim.Native.Nat.{ℕ, ◌+◌, ◌≤◌, ◌<◌}
use native.Mathlib.Omega.{arith}
use mathlib.Core.Path.{◌≡◌, refl, subst, sym}
use mathlib.Core.Bool.{Bool, true, false, not, cond}
use mathlib.Core.Option.{some}
use mathlib.Core.List.{List, ◌++◌}
use borrow.Author.Tests.{eq-eqb, ne_eqb}
use lib.Dec.{T, eqb}
use lib.ListN.{length, drop}
use Rattle.sock.specs.Words.{scope_key}
use Rattle.sock.specs.Term.{Entries, no_entries, entry}
use Rattle.sock.specs.Running.{Mark, unmarked, faulted, own_name, Run, nil, scope, run_words, size}
use Rattle.sock.specs.Handlers.{handler, update}
use Rattle.sock.specs.Frames.{Located, plug, on_nearest}
use Rattle.sock.specs.Rules.{ending}
use Rattle.sock.proofs.Fits.{FitsEntries, Sound, SoundFrames}
use Rattle.skipping.proofs.Notes.{Right}
use Rattle.finding.specs.declared.find.Site.{Site}
use Rattle.finding.proofs.Framing.{scoped, nearest_self}
use Rattle.finding.proofs.Spots.{Spotted}
use Rattle.finding.proofs.Edits.{scope_none}
use Rattle.writers.proofs.Laid.{Near}
use Rattle.rules.specs.Storing.{unchanged}
use Rattle.rules.specs.Editing.{nil_w}
use Rattle.rules.proofs.Outcomes.{Ruled}
use Rattle.rules.proofs.Depths.{Shallow}
use Rattle.scopes.specs.Ending.{ending_w, unmarked_w, ended_w}
use Rattle.scopes.proofs.ScopeLists.{nil_ruled, list_first}
use Rattle.scopes.proofs.ScopeWords.{inner_sound, scope_fits_lem, head_mark, head_zombie, head_at, own_key}
use Rattle.scopes.proofs.Resumes.{resumes}
use Rattle.scopes.proofs.Promotes.{promotes}
use Rattle.scopes.proofs.Scratch.{Roomy}

module _ (f target : ℕ) (r : Run) (start : ℕ) (l : Located) (s : Site) (ws notes : List ℕ) (right : Right ws notes)
    (words_at : drop start ws ≡ run_words r ++ drop (start + size r) ws)
    (spotted : Spotted f target r start 1 l s) (near : Near (length ws)) {n issued : ℕ} (frames : SoundFrames n issued l.frames)
    {most : ℕ} (deep : Shallow most r)
    (pos : 0 < start) (few : n ≤ 8) (small : issued < 65536) (short : length ws ≤ 8192)
    (fresh : List ℕ) (room : Roomy ws fresh) (big : Near (length fresh)) (sound : Sound n issued r) where
  abbrev Result : ℕ → Mark → Bool → Entries → Type 0
  Result name mark zombie h =
      (let u = ended_w ws notes start s fresh in
      Ruled most ws start (start + size r) u.edit u.fresh (some (ending name mark zombie h l.frames)) × (u.edit.store ≡ unchanged))

  module _ (name : ℕ) (mark : Mark) (zombie : Bool) (h : Entries) (is : l.process ≡ scope name mark zombie h nil) where
    inner : Sound n issued (scope name mark zombie h nil)
    inner = subst (Sound n issued) is (inner_sound l.frames l.process (subst (Sound n issued) (sym spotted.wraps) sound))

    pub low : name < 64
    low = (scope_fits_lem inner).0

    pub fit : FitsEntries true 0 h
    fit = (scope_fits_lem inner).1.1

  -- live and without a mark, inside another or not
  live :
      (name : ℕ) (h : Entries) → l.process ≡ scope name unmarked false h nil →
      (let u =
      cond (eqb s.scope 0) (nil_w s start start 0 unchanged fresh) (ending_w ws notes s (scope_key name) fresh) in
      Ruled most ws start (start + size r) u.edit u.fresh
      (some
      (plug (on_nearest (λ outer. update outer (entry (scope_key name) (handler (scope_key name) h) no_entries)) l.frames) nil))
      × (u.edit.store ≡ unchanged))
  live name h is = by (scoped l.frames) refl
    where
      by : (c : Bool) → scoped l.frames ≡ c →
          (let u =
          cond (eqb s.scope 0) (nil_w s start start 0 unchanged fresh) (ending_w ws notes s (scope_key name) fresh) in
          Ruled most ws start (start + size r) u.edit u.fresh
          (some
          (plug (on_nearest (λ outer. update outer (entry (scope_key name) (handler (scope_key name) h) no_entries)) l.frames) nil))
          × (u.edit.store ≡ unchanged))
      by true e =
          let t : T (scoped l.frames) = rw e tt in
          let first = list_first f target r start l s ws words_at spotted near frames deep t in
          rw (ne_eqb s.scope 0 (λ z. omega arith))
          (promotes f target r start l s ws notes right words_at spotted near frames deep few small short fresh room name unmarked false h is
          (low name unmarked false h is) (fit name unmarked false h is) t)
      by false e =
          let t : T (not (scoped l.frames)) = rw e tt in
          let z = scope_none f target r start 1 l s ws (drop (start + size r) ws) words_at spotted t in
          rw (
            eq-eqb s.scope 0 z,
            nearest_self (λ outer. update outer (entry (scope_key name) (handler (scope_key name) h) no_entries)) l.frames t,
          )
          (nil_ruled f target r start l s ws words_at spotted near frames deep fresh (omega arith) big)

  -- the rule
  pub ends : (name : ℕ) (mark : Mark) (zombie : Bool) (h : Entries) → l.process ≡ scope name mark zombie h nil → Result name mark zombie h
  unfolding ended_w unmarked_w ending
  ends name (faulted x) zombie h is =
      let b = low name (faulted x) zombie h is in
      rw (
        own_key f target r start l s ws words_at spotted near frames deep name (faulted x) zombie h is b,
        head_at f target r start l s ws words_at spotted near frames deep name (faulted x) zombie h is,
        head_mark name (faulted x) zombie b,
      )
      (resumes f target r start l s ws notes right words_at spotted near frames deep few small short fresh room big name (faulted x) zombie h is b
      (fit name (faulted x) zombie h is) x)
  ends name own_name zombie h is =
      let b = low name own_name zombie h is in
      rw (
        own_key f target r start l s ws words_at spotted near frames deep name own_name zombie h is b,
        head_at f target r start l s ws words_at spotted near frames deep name own_name zombie h is,
        head_mark name own_name zombie b,
      )
      (resumes f target r start l s ws notes right words_at spotted near frames deep few small short fresh room big name own_name zombie h is b
      (fit name own_name zombie h is) (scope_key name))
  ends name unmarked true h is =
      let b = low name unmarked true h is in
      rw (
        head_at f target r start l s ws words_at spotted near frames deep name unmarked true h is,
        head_mark name unmarked true b,
        head_zombie name unmarked true b,
      )
      (nil_ruled f target r start l s ws words_at spotted near frames deep fresh (omega arith) big)
  ends name unmarked false h is =
      let b = low name unmarked false h is in
      rw (
        own_key f target r start l s ws words_at spotted near frames deep name unmarked false h is b,
        head_at f target r start l s ws words_at spotted near frames deep name unmarked false h is,
        head_mark name unmarked false b,
        head_zombie name unmarked false b,
      )
      (live name h is)
