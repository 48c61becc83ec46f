-- `awaited` of `keeper::apart` meets its contract. The loop's invariant: no waiter before makes a pair.
use Prim.Native.Nat.{ℕ, ◌<◌}
use mathlib.Core.Path.{◌≡◌}
use mathlib.Core.Bool.{false}
use Rattle.reading.specs.Answers.{starts_of}
use Rattle.keeper.specs.Pairs.{pair_w}
use Rattle.keeper.proofs.apart.awaited.Given as goal

abbrev pub invariant-loop-to : goal.invariant-loop-to
invariant-loop-to l = (j : ℕ) → j < l.to → pair_w (starts_of l.s) l.serial l.ws l.at j ≡ false
