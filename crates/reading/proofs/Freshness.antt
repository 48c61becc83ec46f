-- The mirrored test that no engine's process is nil: it is one of all places where engines begin.
-- Assumes nothing.
use Prim.Native.Nat.{ℕ, zero, suc, ◌+◌, ◌≤◌}
use native.Mathlib.Omega.{arith}
use native.Mathlib.Numerals.{add-one}
use mathlib.Core.Path.{◌≡◌, refl}
use mathlib.Core.Bool.{Bool, true, false, not, cond, ◌&&◌}
use mathlib.Core.List.{List}
use lib.Dec.{eqb}
use lib.ListN.{length, get_or, take, drop}
use lib.Seq.{drop-cons}
use Rattle.std.specs.List.{list_all}
use Rattle.reading.specs.Walk.{at}
use Rattle.reading.specs.Tally.{none_nil}

module _ (ws starts : List ℕ) where
  nil_from : (n e : ℕ) → e + n ≤ length starts → none_nil ws starts n e ≡ list_all (λ i. not (eqb (at ws i) 0)) (take n (drop e starts))
  unfolding none_nil
  nil_from zero e h = refl
  nil_from (suc n) e h =
      rw (drop-cons starts e 0 (omega arith), nil_from n (e + 1) (omega arith), add-one e) (by (eqb (at ws (get_or starts e 0)) 0) _)
    where
      by : (a b : Bool) → cond a false b ≡ (not a && b)
      by true b = refl
      by false b = refl

  pub nil_all : (n : ℕ) → n ≤ length starts → none_nil ws starts n 0 ≡ list_all (λ i. not (eqb (at ws i) 0)) (take n starts)
  nil_all n h = nil_from n 0 (omega arith)
