-- The law of a live scope with nil body and no mark, inside another: it becomes nil, and the nearest list is updated by its name and the
-- handler under it. Nothing gets deeper, since the handler moves outwards.
-- Assumes nothing.
use Prim.Native.Nat.{ℕ, zero, suc, ◌+◌, ◌-◌, ◌*◌, ◌≤◌, ◌<◌, max}
use native.Mathlib.Omega.{arith}
use mathlib.Core.Path.{◌≡◌, refl, sym, ap, ◌∙◌}
use mathlib.Core.Bool.{Bool, true, false}
use mathlib.Core.Option.{some}
use mathlib.Core.List.{List, [], ◌∷◌, ◌++◌, append-nil}
use borrow.Author.Tests.{eq-eqb, ne_eqb}
use lib.Dec.{T}
use lib.ListN.{length, take, drop, length-append, length-drop}
use lib.Seq.{drop-cons}
use Rattle.sock.specs.Words.{key_word, scope_key}
use Rattle.sock.specs.Term.{Node, Entries, no_entries, entry, nil_node}
use Rattle.sock.specs.Layout.{count, words, entries_words, depth, entries_depth}
use Rattle.sock.specs.Reading.{code, anywhere, holds, entry_fits}
use Rattle.sock.specs.Running.{Mark, Run, nil, scope, run_words, size, run_depth}
use Rattle.sock.specs.Handlers.{handler, without, update}
use Rattle.sock.specs.Frames.{Frame, seq_frame, left_frame, right_frame, scope_frame, executor_frame, Located, plug, nearest, on_nearest}
use Rattle.sock.proofs.Fits.{Fits, FitsEntries, empty_fits, entry_fits_on, SoundFrames}
use Rattle.sock.proofs.Nodes.{code_more}
use Rattle.sock.proofs.Handlers.{handler_fits}
use Rattle.sock.proofs.Frames.{nearest_fits, nearest_sound}
use Rattle.sock.proofs.Located.{wrap, size_positive}
use Rattle.sock.proofs.Measures.{size_nil, depth_nil}
use Rattle.sock.proofs.Shrinking.{NoLarger, plug_shrinks}
use Rattle.skipping.proofs.Notes.{Right}
use Rattle.finding.specs.declared.find.Site.{Site}
use Rattle.finding.proofs.Framing.{scoped, outside}
use Rattle.finding.proofs.Spots.{Spotted}
use Rattle.finding.proofs.Edits.{list_at, region_changed}
use Rattle.writers.proofs.Laid.{Near, near_of}
use Rattle.handling.specs.Taking.{Took, take_w}
use Rattle.handling.specs.Updating.{Update, update_by_w}
use Rattle.handling.proofs.Replaces.{replaces}
use Rattle.handling.proofs.Takes.{Takes, takes, Stands, Keyed}
use Rattle.handling.proofs.Updates.{Updates, updates_by}
use Rattle.handling.proofs.Stays.{one_shallow, one_short, update_nil, without_short}
use Rattle.rules.specs.Storing.{unchanged}
use Rattle.rules.specs.Editing.{Edited, nil_w}
use Rattle.rules.proofs.Depths.{wrap_depth, depth_some, Shallow}
use Rattle.rules.proofs.Outcomes.{Ruled, ruled}
use Rattle.scopes.specs.Installing.{updated_w}
use Rattle.scopes.specs.Ending.{promoted_to, promoted_w, ending_w}
use Rattle.scopes.proofs.NearestLists.{nearest_length, nearest_spread, nearest_within, update_keeps}
use Rattle.scopes.proofs.ScopeLists.{frames_deep, list_deep, region_length, list_before, to_list, list_ends}
use Rattle.scopes.proofs.NilLists.{list_edits}
use Rattle.scopes.proofs.ScopeWords.{node_some, handler_shallow, handler_short, its_place, its_inside, to_own, own_list}
use Rattle.scopes.proofs.Scratch.{Roomy}

-- fewer frames stand around the nearest scope than around the process
outside_less : (fs : List Frame) → T (scoped fs) → suc (outside fs) ≤ length fs
unfolding outside scoped
outside_less [] t = absurd t
outside_less (seq_frame q ∷ fs) t = let r = outside_less fs t in omega arith
outside_less (left_frame b ∷ fs) t = let r = outside_less fs t in omega arith
outside_less (right_frame b ∷ fs) t = let r = outside_less fs t in omega arith
outside_less (scope_frame name mark zombie h ∷ fs) t = omega arith
outside_less (executor_frame o y client serial ∷ fs) t = let r = outside_less fs t in omega arith

module _ (f target : ℕ) (r : Run) (start : ℕ) (l : Located) (s : Site) (ws notes : List ℕ) (right : Right ws notes)
    (words_at : drop start ws ≡ run_words r ++ drop (start + size r) ws)
    (spotted : Spotted f target r start 1 l s) (near : Near (length ws)) {n issued : ℕ} (frames : SoundFrames n issued l.frames)
    {most : ℕ} (deep : Shallow most r)
    (few : n ≤ 8) (small : issued < 65536) (short : length ws ≤ 8192)
    (fresh : List ℕ) (room : Roomy ws fresh)
    (name : ℕ) (mark : Mark) (zombie : Bool) (h : Entries) (is : l.process ≡ scope name mark zombie h nil)
    (low : name < 64) (fit : FitsEntries true zero h) (t : T (scoped l.frames)) where
  abbrev k : ℕ
  k = scope_key name

  abbrev m : Node
  m = handler k h

  abbrev es : Entries
  es = nearest l.frames

  abbrev lone : Entries
  lone = entry k m no_entries

  abbrev change : Entries → Entries
  change x = update x lone

  abbrev changed : List Frame
  changed = on_nearest change l.frames

  fitting : Fits (code false) anywhere m
  fitting = handler_fits true k fit

  lone_fits : FitsEntries false zero lone
  unfolding entry_fits
  lone_fits = entry_fits_on {least = 0} {k = k} (omega arith) (omega arith) tt (code_more fitting) empty_fits

  own_place : length l.frames + suc (max (entries_depth h) 1) ≤ most
  own_place = its_place f target r start l s ws words_at spotted near frames deep name mark zombie h is

  inside : target + 4 + length (entries_words h) ≤ length ws
  inside = its_inside f target r start l s ws words_at spotted near frames deep name mark zombie h is

  list_short : 3 + length (entries_words es) ≤ target
  list_short =
      omega (
        arith,
        list_before f target r start l s ws words_at spotted near frames deep t,
        region_length f target r start l s ws words_at spotted near frames deep t,
      )

  not_huge : 2 + length (entries_words (change es)) ≤ length ws
  not_huge = omega (arith, one_short k fitting es, handler_short k h, inside, list_short)

  changed_fits : run_depth (plug changed nil) ≤ most
  changed_fits =
      let a : NoLarger nil l.process =
      record {
        shorter = omega (arith, size_nil, size_positive l.process);
        shallower = omega (arith, depth_nil, depth_some l.process);
      } in
      let b : run_depth (plug changed nil) ≤ run_depth (wrap changed l.process) =
      (plug_shrinks (nearest_sound (update_keeps lone_fits) frames) a).shallower in
      let c = wrap_depth changed l.process in
      let d = frames_deep f target r start l s ws words_at spotted near frames deep in
      omega (
        arith,
        d.0,
        d.1,
        nearest_length change l.frames,
        nearest_spread change l.frames,
        nearest_within l.frames t,
        outside_less l.frames t,
        one_shallow k fitting es,
        handler_shallow k h,
        own_place,
      )

  abbrev Result : Edited → Type 0
  Result u = Ruled most ws start (start + size r) u.edit u.fresh (some (plug changed nil)) × (u.edit.store ≡ unchanged)

  -- once the new list stands in the fresh words
  placed :
      (to : ℕ) (out : List ℕ) → to ≡ 1 + length (entries_words (change es)) → length out ≡ length fresh →
      (to ≤ 8192 → take to out ≡ count (change es) ∷ entries_words (change es)) → Result (updated_w ws notes s (s.scope + 2) to out)
  unfolding updated_w nil_w
  placed to out reaches keeps laid =
      rw (list_ends f target r start l s ws words_at spotted near frames deep t notes right) (
        ruled refl
            (list_edits f target r start l s ws words_at spotted near frames deep t change to out reaches
            (near_of (to + 1) (omega (arith, not_huge))) (λ x. omega (arith, not_huge))
            (λ x. laid x ∙ sym (region_changed change l.frames t)) 32 0)
            changed_fits,
        refl,
      )

  abbrev taken : Took
  taken = take_w 64 ws (target + 2) k fresh

  taking : Takes ws k h fresh taken
  taking =
      let a = own_list f target r start l s ws words_at spotted near frames deep name mark zombie h is in
      takes ws near 64 k fit (omega (arith, own_place))
      (target + 2) a.0 a.1 fresh

  -- no handler: the name is dropped
  abbrev dropped : Took
  dropped = take_w 64 ws (s.scope + 2) k taken.out

  dropping : Takes ws k es taken.out dropped
  dropping =
      let a = list_at f target r start 1 l s ws (drop (start + size r) ws) words_at spotted t in
      takes ws near 64 k (nearest_fits frames)
      (list_deep f target r start l s ws words_at spotted near frames deep t) (s.scope + 2) a.0 a.1 taken.out

  drops : m ≡ nil_node → Result (updated_w ws notes s (s.scope + 2) dropped.answer.to dropped.out)
  drops e =
      let same : change es ≡ without k es = ap (λ p. update es (entry k p no_entries)) e ∙ update_nil k es (omega arith) in
      placed dropped.answer.to dropped.out (rw same dropping.reaches) (dropping.keeps ∙ taking.keeps)
      (λ x. rw same
      (ap (λ i. take i dropped.out) dropping.reaches ∙ dropping.laid (omega (arith, dropping.reaches, taking.keeps, without_short k es, list_short, inside))))

  -- a handler: it is put there
  module _ (there : holds k h ≡ true) where
    abbrev from : ℕ
    from = taken.answer.from

    entry_at : (rest : List ℕ) × (drop (from - 1) ws ≡ entries_words lone ++ rest)
    unfolding words
    entry_at =
        let x : Stands ws from taken.answer.upto m = taking.present there in
        let y : Keyed ws from k = taking.keyed there in
        let d : drop from ws ≡ words m ++ x.0 = x.1.0 in
        let len : length ws - from ≡ length (words m ++ x.0) = sym (length-drop from ws) ∙ ap length d in
        let some = node_some m in
        let back : suc (from - 1) ≡ from = omega (arith, y.0) in (
          x.0,
          drop-cons ws (from - 1) 0 (omega (arith, y.0, length-append (words m) x.0))
              ∙ (ap (λ w. w ∷ drop (suc (from - 1)) ws) y.1
              ∙ ap (λ w. key_word k ∷ w)
              (ap (λ i. drop i ws) back ∙ (d ∙ ap (λ w. w ++ x.0) (sym (append-nil (words m)))))),
        )

    abbrev given : Update
    given = update_by_w 64 ws (s.scope + 2) (from - 1) 1 taken.out

    giving : Updates 64 es lone taken.out given
    unfolding count depth
    giving =
        let a = list_at f target r start 1 l s ws (drop (start + size r) ws) words_at spotted t in
        updates_by ws near 64 (λ old o m c p. replaces ws near)
        (nearest_fits frames) lone_fits (list_deep f target r start l s ws words_at spotted near frames deep t)
        (omega (arith, handler_shallow k h, own_place))
        (s.scope + 2) a.0 a.1 (from - 1) entry_at.0 entry_at.1 taken.out
        (near_of (1 + length (entries_words (change es)) + 2 * 64 + 2) (omega (arith, not_huge)))

    gives : Result (updated_w ws notes s (s.scope + 2) given.answer.to given.out)
    gives =
        placed given.answer.to given.out giving.reaches (giving.keeps ∙ taking.keeps)
        (λ x. ap (λ i. take i given.out) giving.reaches ∙ giving.laid (omega (arith, giving.reaches, taking.keeps, not_huge)))

  pub promotes :
      (let u = ending_w ws notes s (scope_key name) fresh in
      Ruled most ws start (start + size r) u.edit u.fresh
      (some
      (plug (on_nearest (λ outer. update outer (entry (scope_key name) (handler (scope_key name) h) no_entries)) l.frames) nil))
      × (u.edit.store ≡ unchanged))
  unfolding ending_w promoted_to promoted_w
  promotes =
      rw (
        to_own f target r start l s ws words_at spotted near frames deep name mark zombie h is,
        to_list f target r start l s ws words_at spotted near frames deep t,
      )
      (by (holds k h) refl)
    where
      by : (b : Bool) → holds k h ≡ b →
          Result (updated_w ws notes s (s.scope + 2)
          (promoted_to ws (s.scope + 2) taken.answer k taken.out)
          (promoted_w ws (s.scope + 2) taken.answer k taken.out))
      by true e =
          let x : Stands ws taken.answer.from taken.answer.upto m = taking.present e in
          rw (ne_eqb taken.answer.upto 0 (λ z. omega (arith, x.1.1, node_some m))) (gives e)
      by false e = let a = taking.absent e in rw (eq-eqb taken.answer.upto 0 a.0) (drops a.1)
