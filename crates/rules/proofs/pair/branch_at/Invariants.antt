-- `branch_at` of `rules::pair` meets its contract: the branch sought is that of what is left to pass.
use mathlib.Core.Path.{◌≡◌}
use Prim.Native.Nat.{◌-◌}
use Rattle.rules.specs.Offering.{branch_at}
use Rattle.rules.proofs.pair.branch_at.Given as goal

abbrev pub invariant-loop : goal.invariant-loop
invariant-loop l = branch_at l.part l.before 1 ≡ branch_at l.part (l.before - l.counter) l.at
