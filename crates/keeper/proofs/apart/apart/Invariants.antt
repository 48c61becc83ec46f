-- `apart` of `keeper::apart` meets its contract. The loop's invariant: no working end before has its waiter.
use Prim.Native.Nat.{ℕ, ◌<◌}
use mathlib.Core.Path.{◌≡◌}
use mathlib.Core.Bool.{false}
use Rattle.reading.specs.Answers.{starts_of}
use Rattle.keeper.specs.Pairs.{awaited_w}
use Rattle.keeper.proofs.apart.apart.Given as goal

abbrev pub invariant-loop-at : goal.invariant-loop-at
invariant-loop-at l = (i : ℕ) → i < l.at → awaited_w (starts_of l.s) l.serial l.ws i ≡ false
