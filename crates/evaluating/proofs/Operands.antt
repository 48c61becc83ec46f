-- What is known of two operands once both were seen to be decimal, or not.
-- Assumes nothing.
use Rattle.std.proofs.Common.{◌≡◌, ℕ, ◌<◌, Bool, true, false, ◌&&◌, T, sym, refl, ap, ◌∙◌, subst}
use Rattle.std.specs.Prelude.{Option, Some, None}
use lib.Ieee.Fits.{and_l, and_r}
use Rattle.sock.specs.Configuration.{guarded}
use Rattle.sock.specs.Digits.{decimal, number_of, power}
use Rattle.sock.specs.Evaluation.{of_digits}
use Rattle.sock.proofs.Decimals.{number_below}
use Rattle.evaluating.specs.Valuing.{value_as}

module _ (a b : ℕ) {r : Bool} (e : r ≡ (decimal 8 a && decimal 8 b)) where
  both : r ≡ true → T (decimal 8 a && decimal 8 b)
  both t = subst T (sym (sym e ∙ t)) tt

  pub first_low : r ≡ true → number_of 8 a < 100000000
  unfolding power
  first_low t = number_below 8 a (and_l (decimal 8 a) (decimal 8 b) (both t))

  pub second_low : r ≡ true → number_of 8 b < 100000000
  unfolding power
  second_low t = number_below 8 b (and_r (decimal 8 a) (decimal 8 b) (both t))

  pub given : r ≡ true → (v w : ℕ) → v ≡ w → {x : Option ℕ} → x ≡ Some v → x ≡ value_as (of_digits a b w)
  unfolding of_digits guarded
  given t v w q p = p ∙ ap Some q ∙ rw (sym e ∙ t) refl

  pub missing : r ≡ false → (w : ℕ) → {x : Option ℕ} → x ≡ None → x ≡ value_as (of_digits a b w)
  unfolding of_digits guarded
  missing t w p = p ∙ rw (sym e ∙ t) refl
