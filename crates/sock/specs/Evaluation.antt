-- Values and expressions (document 01, "Words"; document 02, a and d).
use Rattle.std.specs.Prelude.{ℕ, ◌+◌, ◌-◌, ◌%◌, Bool, not, ◌&&◌, cond, List, ltb, eqb, ℤ, pos, ◌-ℤ◌, get_or}
use Rattle.std.proofs.Math.Option.{Option, some}
use Rattle.std.specs.Int.Signed.{lt_z}
use Rattle.sock.specs.Words.{bit}
use Rattle.sock.specs.Term.{Operator, sum, difference, less, equal, decimal_sum, decimal_difference, Expr, constant, variable, apply}
use Rattle.sock.specs.Configuration.{guarded, also}
use Rattle.sock.specs.Digits.{decimal, digit_sum, digit_difference}

abbrev pub value_at : List ℕ → ℕ → ℕ
value_at vs x = get_or vs x 0

-- A value read with sign, in two's complement of 32 bits (document 02, a)
unfoldable pub signed : ℕ → ℤ
signed v = cond (ltb v 2147483648) (pos v) (pos v -ℤ pos 4294967296)

-- The value if each operand is eight decimal digits; an operand with a digit above 9 has no meaning
unfoldable pub of_digits : ℕ → ℕ → ℕ → Option ℕ
of_digits a b v = guarded (decimal 8 a && decimal 8 b) (some v)

-- Sum and difference modulo 4,294,967,296; less compares with sign; less and equal give 1 or 0; decimal sum and difference are of eight
-- packed digits, modulo 100,000,000
unfoldable pub operate : Operator → ℕ → ℕ → Option ℕ
operate sum a b = some ((a + b) % 4294967296)
operate difference a b = some ((a + 4294967296 - b) % 4294967296)
operate less a b = some (bit (lt_z (signed a) (signed b)))
operate equal a b = some (bit (eqb a b))
operate decimal_sum a b = of_digits a b (digit_sum 8 a b)
operate decimal_difference a b = of_digits a b (digit_difference 8 a b)

-- An expression's value, or none: every operand is evaluated
unfoldable pub evaluate : List ℕ → Expr → Option ℕ
evaluate vs (constant v) = some v
evaluate vs (variable x) = some (value_at vs x)
evaluate vs (apply o a b) = also (evaluate vs a) λ v. also (evaluate vs b) λ w. operate o v w

-- Non-zero is true
unfoldable pub is_true : ℕ → Bool
is_true v = not (eqb v 0)
