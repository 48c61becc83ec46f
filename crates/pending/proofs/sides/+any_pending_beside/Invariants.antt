-- `any_pending` and `beside` of `pending::sides` meet their contracts. The measure is the depth left, times 2: a par goes through one more function.
use Prim.Native.Nat.{◌+◌, ◌*◌}
use Rattle.pending.proofs.sides.+any_pending_beside.Given as goal

abbrev pub decreases-any_pending : goal.decreases-any_pending
decreases-any_pending l = l.depth * 2

abbrev pub decreases-beside : goal.decreases-beside
decreases-beside l = l.depth * 2 + 1
