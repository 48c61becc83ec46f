-- Evaluation on words: one level of it, and the difference that runs round.
-- Assumes nothing.
use Rattle.std.proofs.Common.{◌≡◌, ℕ, zero, suc, ◌+◌, ◌-◌, ◌%◌, ◌<◌, cond, ltb, List, length, get_or, refl, sub-one, arith}
use Rattle.sock.specs.Digits.{digit_sum, digit_difference}
use Rattle.sock.specs.Evaluation.{of_digits}
use Rattle.layout.specs.Tags
use Rattle.evaluating.specs.Valuing.{value_as}
use Rattle.evaluating.specs.Evaluating.{operated, no_expression, evaluated_at, evaluated}

pub evaluated_step :
    (d : ℕ) (ws vs : List ℕ) (i : ℕ) →
    (d ≡ 0 → ⊥) →
    evaluated d ws vs i ≡ cond (ltb i (length ws)) (evaluated_at (evaluated (d - 1) ws vs) ws vs i (get_or ws i 0)) no_expression
unfolding evaluated
evaluated_step zero ws vs i h = absurd (h refl)
evaluated_step (suc d) ws vs i h = rw (sub-one (suc d))

pub operated_sum : (tag a b : ℕ) → tag ≡ Tags.decimal_sum → operated tag a b ≡ value_as (of_digits a b (digit_sum 8 a b))
unfolding operated
operated_sum tag a b e = rw e refl

pub operated_difference : (tag a b : ℕ) → tag ≡ Tags.decimal_difference → operated tag a b ≡ value_as (of_digits a b (digit_difference 8 a b))
unfolding operated
operated_difference tag a b e = rw e refl

-- the number that b added to wraps back to a
pub wrapped : (r a b : ℕ) → r < 4294967296 → a < 4294967296 → b < 4294967296 → (r + b) % 4294967296 ≡ a → r ≡ (a + 4294967296 - b) % 4294967296
wrapped r a b p q s e = omega arith
