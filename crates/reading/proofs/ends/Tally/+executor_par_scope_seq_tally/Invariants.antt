-- `tally`, `executor`, `par`, `scope` and `seq` of `reading::ends::Tally` meet their contracts. The measure is twice the depth, and
-- one more for a seq, par, scope or executor, which counts one level down. Counts do not run over: there are no more ends than words.
use Prim.Native.Nat.{◌+◌, ◌*◌}
use Rattle.reading.proofs.ends.Tally.+executor_par_scope_seq_tally.Given as goal

abbrev pub decreases-tally : goal.decreases-tally
decreases-tally l = l.depth * 2

abbrev pub decreases-executor : goal.decreases-executor
decreases-executor l = l.depth * 2 + 1

abbrev pub decreases-par : goal.decreases-par
decreases-par l = l.depth * 2 + 1

abbrev pub decreases-scope : goal.decreases-scope
decreases-scope l = l.depth * 2 + 1

abbrev pub decreases-seq : goal.decreases-seq
decreases-seq l = l.depth * 2 + 1
