-- No refusal has the number of an answer that is none.
-- Assumes nothing.
use mathlib.Core.Path.{◌≡◌}
use mathlib.Core.Bool.{false}
use lib.Dec.{eqb}
use borrow.Author.Tests.{eqb-false}
use Rattle.sock.proofs.Accepted.{number_positive}
use Rattle.layout.specs.Refusals.{refusal_of, refusal_number}
use Rattle.layout.specs.declared.refusal.Refusal.{Refusal}

pub never_zero : (r : Refusal) → eqb (refusal_number r) 0 ≡ false
never_zero r = number_positive (refusal_of r)

pub some_number : (r : Refusal) → refusal_number r ≡ 0 → ⊥
some_number r = eqb-false (refusal_number r) 0 (never_zero r)
