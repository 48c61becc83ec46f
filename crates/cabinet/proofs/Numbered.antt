-- An answer that is one word, packed: its number in the top 8 bits, as the definitions have it.
-- Assumes nothing.
use Prim.Native.Nat.{ℕ, ◌+◌, ◌*◌}
use native.Mathlib.Omega.{arith}
use mathlib.Core.Path.{◌≡◌}
use Rattle.std.specs.Prelude.{Result, Ok, Err}
use Rattle.layout.specs.declared.refusal.Refusal.{Refusal}
use Rattle.journal.specs.Answers.{taken_as}
use Rattle.index.specs.Form.{counted_as}
use Rattle.bytewise.specs.Held.{numbered_as}

pub taken_packed : (g : Result ℕ Refusal) → numbered_as g ≡ (taken_as g).number * 72057594037927936 + (taken_as g).length
taken_packed (Ok n) = omega arith
taken_packed (Err r) = omega arith

pub counted_packed : (g : Result ℕ Refusal) → numbered_as g ≡ (counted_as g).number * 72057594037927936 + (counted_as g).value
counted_packed (Ok n) = omega arith
counted_packed (Err r) = omega arith
