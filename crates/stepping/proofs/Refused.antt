-- No refusal is an answer of 0.
-- Assumes nothing.
use native.Mathlib.Omega.{arith}
use mathlib.Core.Path.{◌≡◌}
use Rattle.sock.proofs.Rooms.{refusal_number as positive}
use Rattle.layout.specs.Refusals.{refusal_of, refusal_number}
use Rattle.layout.specs.declared.refusal.Refusal.{Refusal}

pub is_refused : (r : Refusal) → refusal_number r ≡ 0 → ⊥
is_refused r e = let h = positive (refusal_of r) in omega arith
