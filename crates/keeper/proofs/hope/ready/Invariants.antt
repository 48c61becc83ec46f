-- `ready` of `keeper::hope` meets its contract. The loop's invariant: no reply is ready at a place before.
use Prim.Native.Nat.{ℕ, ◌<◌}
use mathlib.Core.Path.{◌≡◌}
use mathlib.Core.Bool.{false}
use Rattle.keeper.specs.Hopes.{ready_at}
use Rattle.keeper.proofs.hope.ready.Given as goal

abbrev pub invariant-loop-at : goal.invariant-loop-at
invariant-loop-at l = (j : ℕ) → j < l.at → ready_at l.serial l.ws j ≡ false
