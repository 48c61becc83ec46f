-- `enabled`, `executor`, `node`, `noted`, `par`, `scope` and `seq` of `noting::enabled` meet their contracts. The measure is four times
-- the depth that is left, and for the same depth who calls whom.
use Prim.Native.Nat.{◌+◌, ◌*◌}
use Rattle.noting.proofs.enabled.+enabled_executor_node_noted_par_scope_seq.Given as goal

abbrev pub decreases-enabled : goal.decreases-enabled
decreases-enabled l = l.depth * 4

abbrev pub decreases-executor : goal.decreases-executor
decreases-executor l = l.depth * 4 + 2

abbrev pub decreases-node : goal.decreases-node
decreases-node l = l.depth * 4 + 3

abbrev pub decreases-noted : goal.decreases-noted
decreases-noted l = l.depth * 4 + 1

abbrev pub decreases-par : goal.decreases-par
decreases-par l = l.depth * 4 + 2

abbrev pub decreases-scope : goal.decreases-scope
decreases-scope l = l.depth * 4 + 2

abbrev pub decreases-seq : goal.decreases-seq
decreases-seq l = l.depth * 4 + 2
