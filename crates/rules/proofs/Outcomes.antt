-- What a rule alone makes of an engine's process, as an edit.
-- Assumes nothing.
use Prim.Native.Nat.{ℕ, suc, ◌+◌, ◌≤◌, ◌<◌}
use native.Mathlib.Omega.{arith}
use mathlib.Core.Path.{◌≡◌, refl, ap}
use mathlib.Core.Bool.{Bool, true, false}
use mathlib.Core.Option.{Option, none, some}
use mathlib.Core.List.{List, ◌++◌}
use lib.ListN.{length, drop}
use Rattle.sock.specs.Running.{Run, nil, run_words, size, run_depth}
use Rattle.sock.specs.Frames.{Located, is_done, plug}
use Rattle.sock.proofs.Fits.{SoundFrames}
use Rattle.sock.proofs.Located.{wrap, size_positive}
use Rattle.sock.proofs.Measures.{size_nil, depth_nil}
use Rattle.sock.proofs.Shrinking.{NoLarger, plug_shrinks}
use Rattle.finding.specs.declared.find.Site.{Site}
use Rattle.finding.proofs.Spots.{Spotted}
use Rattle.writers.proofs.Laid.{Near}
use Rattle.rules.specs.Rewriting.{Rewriting}
use Rattle.rules.specs.Editing.{Edit}
use Rattle.rules.specs.Editing.{plain_w}
use Rattle.rules.proofs.Rewrites.{Becomes, Outcome, deepens, becomes}
use Rattle.rules.proofs.Edits.{Edits, done_nil, plain_edits}
use Rattle.rules.proofs.Depths.{depth_some, plug_fits, plug_too_deep, Shallow}

-- the rule's result for the process start..end: none where something can't be killed, and refused where it is deeper than `most`
pub data Ruled (most : ℕ) (ws : List ℕ) (start end : ℕ) (p : Edit) (fresh : List ℕ) : Option Run → Type 0 where
  unkillable : p.number ≡ 6 → Ruled most ws start end p fresh none
  too_deep : {q : Run} → p.number ≡ 8 → most < run_depth q → Ruled most ws start end p fresh (some q)
  ruled : {q : Run} → p.number ≡ 0 → Edits ws start end p fresh q → run_depth q ≤ most → Ruled most ws start end p fresh (some q)

module _ (f target : ℕ) (r : Run) (start : ℕ) (l : Located) (s : Site) (ws : List ℕ) (words : drop start ws ≡ run_words r ++ drop (start + size r) ws)
    (spotted : Spotted f target r start 1 l s) (near : Near (length ws)) {n issued : ℕ} (frames : SoundFrames n issued l.frames) {most : ℕ} (deep : Shallow most r) where
  whole : wrap l.frames l.process ≡ r
  whole = spotted.wraps

  -- nil is no deeper than what it takes the place of
  nil_fits : run_depth (plug l.frames nil) ≤ most
  nil_fits =
      let s : NoLarger nil l.process = record { shorter = omega (arith, size_nil, size_positive l.process); shallower = omega (arith, depth_nil, depth_some l.process) } in
      let p : run_depth (plug l.frames nil) ≤ run_depth (wrap l.frames l.process) = (plug_shrinks frames s).shallower in
      omega (arith, p, ap run_depth whole)

  pub becomes_ruled :
      (q : Run) (t : Rewriting) (fresh : List ℕ) → 0 < length fresh → Near (length fresh) → Becomes l.process q t fresh → s.level + run_depth q ≤ suc most →
      (let u = plain_w s start t fresh in Ruled most ws start (start + size r) u.edit u.fresh (some (plug l.frames q)) × (u.edit.store ≡ t.store))
  becomes_ruled q t fresh room big b low =
      let p = plain_edits f target r start 1 l s ws words spotted near q t fresh room big b in
      (ruled p.1 p.0 (by (is_done q) refl), p.2)
    where
      by : (b : Bool) → is_done q ≡ b → run_depth (plug l.frames q) ≤ most
      by true e = rw (done_nil q e) nil_fits
      by false e = plug_fits frames l.process q most e (omega (arith, deep.kept, ap run_depth whole)) (omega (arith, spotted.level))

  pub outcome_ruled :
      (q : Run) (t : Rewriting) (fresh : List ℕ) → 0 < length fresh → Near (length fresh) → Outcome most l.process s.level q t fresh →
      (let u = plain_w s start t fresh in Ruled most ws start (start + size r) u.edit u.fresh (some (plug l.frames q)))
  unfolding plain_w
  outcome_ruled q t fresh room big (deepens a e d h) = rw a (too_deep refl (plug_too_deep frames q most d (omega (arith, spotted.level))))
  outcome_ruled q t fresh room big (becomes b x low) = (becomes_ruled q t fresh room big b low).0
