-- The number that a `match` leaves to its last arm is none of those before.
-- Assumes nothing.
use Prim.Native.Nat.{ℕ, zero, suc, ◌≤◌}
use native.Mathlib.Omega.{arith}
use mathlib.Core.Path.{◌≡◌}

-- what a `match` with keys 0 to n - 1 knows of a number that reached its last arm
abbrev Missed : ℕ → ℕ → Type 0
Missed zero k = Unit {0}
Missed (suc n) k = Missed n k × (k ≡ n → ⊥)

pub beyond : (n k : ℕ) → Missed n k → n ≤ k
beyond zero k r = omega arith
beyond (suc n) k r =
    let h : n ≤ k = beyond n k r.0 in
    let d : k ≡ n → ⊥ = r.1 in
    omega (arith, h, d)
