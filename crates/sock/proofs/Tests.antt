-- The tests of the mirrored walks, rewritten by what the code's branches know.
-- Assumes nothing.
use Prim.Native.Nat.{ℕ}
use native.Mathlib.Omega.{arith}
use mathlib.Core.Path.{◌≡◌}
use mathlib.Core.Bool.{true, false}
use lib.Arith.{lt_of_le-ne}
use lib.Dec.{ltb}
use borrow.Author.Tests.{lt-ltb, le-ltb, le-leb, lt-leb, eq-eqb, ne_eqb}

-- a number is above 0 unless it is 0
pub zero_ltb : (a : ℕ) → a ≡ 0 → ltb 0 a ≡ false
zero_ltb a e = le-ltb 0 a (omega arith)

pub some_ltb : (a : ℕ) → (a ≡ 0 → ⊥) → ltb 0 a ≡ true
some_ltb a e = lt-ltb 0 a (lt_of_le-ne (omega arith) (λ q. e (omega arith)))

pub ruleset tests = (lt-ltb, le-ltb, le-leb, lt-leb, eq-eqb, ne_eqb, zero_ltb, some_ltb)
