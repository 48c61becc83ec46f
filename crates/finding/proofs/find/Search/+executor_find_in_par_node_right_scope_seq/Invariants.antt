-- The search, by what its calls give. The measure is the depth left, times 4: `find` goes to `node` with one level less, `node` to the way of
-- each kind, `in_par` to `right` too, and each of these back to `find`, with the same.
use Prim.Native.Nat.{◌+◌, ◌*◌}
use Rattle.finding.proofs.find.Search.+executor_find_in_par_node_right_scope_seq.Given as goal

abbrev pub decreases-executor : goal.decreases-executor
decreases-executor l = l.depth * 4 + 1

abbrev pub decreases-find : goal.decreases-find
decreases-find l = l.depth * 4

abbrev pub decreases-in_par : goal.decreases-in_par
decreases-in_par l = l.depth * 4 + 2

abbrev pub decreases-node : goal.decreases-node
decreases-node l = l.depth * 4 + 3

abbrev pub decreases-right : goal.decreases-right
decreases-right l = l.depth * 4 + 1

abbrev pub decreases-scope : goal.decreases-scope
decreases-scope l = l.depth * 4 + 1

abbrev pub decreases-seq : goal.decreases-seq
decreases-seq l = l.depth * 4 + 1
