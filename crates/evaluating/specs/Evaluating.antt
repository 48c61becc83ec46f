-- Evaluation on words, as the code goes. The proofs show that it is the definitions' evaluation; no contract of a call names it.
use Rattle.std.specs.Prelude.{ℕ, zero, suc, ◌+◌, ◌-◌, ◌*◌, ◌%◌, cond, List, length, Option, Some, None, option_and_then, ◌==◌, int_lt, nat_lt, slice_index}
use Rattle.sock.specs.Words.{tag_of, read_variable, value_of, bit}
use Rattle.sock.specs.Digits.{digit_sum, digit_difference}
use Rattle.sock.specs.Evaluation.{signed, of_digits}
use Rattle.layout.specs.Tags
use Rattle.evaluating.specs.Valuing.{value_as}
use Rattle.evaluating.specs.declared.evaluate.Evaluated.{Evaluated}

abbrev at : List ℕ → ℕ → ℕ
at ws i = slice_index ws i

-- a variable among 32 values of two words each
unfoldable pub value_in : List ℕ → ℕ → ℕ
value_in vs x = value_of (at vs (x * 2)) (at vs (x * 2 + 1))

unfoldable pub operated : ℕ → ℕ → ℕ → Option ℕ
operated tag a b =
    cond (tag == Tags.sum) (Some ((a + b) % 4294967296))
    (cond (tag == Tags.difference) (Some ((a + 4294967296 - b) % 4294967296))
    (cond (tag == Tags.less) (Some (bit (int_lt (signed a) (signed b))))
    (cond (tag == Tags.decimal_sum) (value_as (of_digits a b (digit_sum 8 a b)))
    (cond (tag == Tags.decimal_difference) (value_as (of_digits a b (digit_difference 8 a b)))
    (Some (bit (a == b)))))))

-- an expression that ends there, with a value or none
abbrev pub ended : ℕ → Option ℕ → Evaluated
ended end v = record { end = end; value = v }

abbrev pub no_expression : Evaluated
no_expression = ended 0 None

unfoldable pub combined : ℕ → Option ℕ → Option ℕ → Option ℕ
combined tag a b = option_and_then (λ v. option_and_then (λ w. operated tag v w) b) a

unfoldable pub constant_at : List ℕ → ℕ → Evaluated
constant_at ws i = cond (nat_lt (length ws - i) 3) no_expression (ended (i + 3) (Some (value_of (at ws (i + 1)) (at ws (i + 2)))))

unfoldable pub both : (ℕ → Evaluated) → ℕ → ℕ → Evaluated
both sub tag i = ended (sub (sub i).end).end (combined tag (sub i).value (sub (sub i).end).value)

unfoldable pub evaluated_at : (ℕ → Evaluated) → List ℕ → List ℕ → ℕ → ℕ → Evaluated
evaluated_at sub ws vs i w =
    cond (tag_of w == Tags.constant) (constant_at ws i)
    (cond (tag_of w == Tags.variable) (ended (i + 1) (Some (value_in vs (read_variable w)))) (both sub (tag_of w) (i + 1)))

unfoldable pub evaluated : ℕ → List ℕ → List ℕ → ℕ → Evaluated
evaluated zero ws vs i = no_expression
evaluated (suc d) ws vs i = cond (nat_lt i (length ws)) (evaluated_at (evaluated d ws vs) ws vs i (at ws i)) no_expression
