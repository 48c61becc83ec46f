-- `killing::kill::kill` and the functions for single kinds that it goes round with. The measure is the depth left, times 4: `kill` goes to a
-- kind's function with one level less, and that back to `kill` with the same; a par, a scope and an executor go through one more function.
use Prim.Native.Nat.{◌+◌, ◌*◌}
use Rattle.killing.proofs.kill.Killing.+executor_kill_live_par_part_right_scope_seq_zombie.Given as goal

abbrev pub decreases-kill : goal.decreases-kill
decreases-kill l = l.depth * 4

abbrev pub decreases-executor : goal.decreases-executor
decreases-executor l = l.depth * 4 + 2

abbrev pub decreases-live : goal.decreases-live
decreases-live l = l.depth * 4 + 1

abbrev pub decreases-par : goal.decreases-par
decreases-par l = l.depth * 4 + 2

abbrev pub decreases-part : goal.decreases-part
decreases-part l = l.depth * 4 + 1

abbrev pub decreases-right : goal.decreases-right
decreases-right l = l.depth * 4 + 1

abbrev pub decreases-scope : goal.decreases-scope
decreases-scope l = l.depth * 4 + 2

abbrev pub decreases-seq : goal.decreases-seq
decreases-seq l = l.depth * 4 + 1

abbrev pub decreases-zombie : goal.decreases-zombie
decreases-zombie l = l.depth * 4 + 1
