-- `less` of `evaluating::evaluate` meets its contract: a value cast to i32 is the value that the definitions read with sign.
use Rattle.std.proofs.Common.{◌≡◌, ℕ, ◌<◌, Bool, true, false, refl, sym, ap, ap₂, ◌∙◌, ltb, ℤ, negsuc, int_lt, w32, to_z, of_z, arith}
use Rattle.std.proofs.lemmas.Int.{of_z-to_z}
use borrow.Author.Tests.{ltb-true, ltb-false}
use Rattle.sock.specs.Words.{bit}
use Rattle.sock.specs.Evaluation.{signed}
use Rattle.sock.proofs.Signs.{signed_low, signed_high}
use Rattle.evaluating.proofs.evaluate.less.Goals as goal

cast_is : (v : ℕ) → v < 4294967296 → to_z w32 v ≡ signed v
cast_is v k = by (ltb v 2147483648) refl
  where
    by : (s : Bool) → ltb v 2147483648 ≡ s → to_z w32 v ≡ signed v
    by true e = rw e (sym (signed_low v (ltb-true v 2147483648 e)))
    by false e = rw e (ap negsuc (omega arith) ∙ sym (signed_high v (ltb-false v 2147483648 e) k))

read_is : (v : ℕ) (z : ℤ) → v < 4294967296 → z ≡ to_z w32 v → to_z w32 (of_z w32 z) ≡ signed v
read_is v z k e = ap (λ y. to_z w32 (of_z w32 y)) e ∙ ap (to_z w32) (of_z-to_z w32 v k) ∙ cast_is v k

pub returns : goal.returns
returns c =
    c.from.ensures
    ∙ ap bit (ap₂ int_lt (read_is c.args.a _ c.ranges.a.fits c.cast_signed.ensures) (read_is c.args.b _ c.ranges.b.fits c.cast_signed-2.ensures))
