-- The branches of a choice passed one by one.
-- Assumes nothing.
use Prim.Native.Nat.{ℕ, suc, ◌+◌, ◌-◌, ◌<◌, ◌≤◌}
use native.Mathlib.Omega.{arith}
use mathlib.Core.Path.{◌≡◌}
use mathlib.Core.List.{List}
use Rattle.rules.specs.Rewriting.{part_end}
use Rattle.rules.specs.Offering.{branch_at}

pub branch_turn : (ws : List ℕ) (n i at : ℕ) → i < n → branch_at ws (n - i) at ≡ branch_at ws (n - (i + 1)) (part_end ws (part_end ws at))
unfolding branch_at
branch_turn ws n i at h = let e : n - i ≡ suc (n - (i + 1)) = omega arith in rw e

pub branch_done : (ws : List ℕ) (n i at : ℕ) → n ≤ i → branch_at ws (n - i) at ≡ at
unfolding branch_at
branch_done ws n i at h = let e : n - i ≡ 0 = omega arith in rw e
