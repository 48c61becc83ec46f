-- `planning::rewrite::Rewriting::process` and the methods that it goes round with. The measure is the depth left, times 5. The invariant of the
-- loop in `each`: the processes left, from here on, give what all give from the start.
use Prim.Native.Nat.{◌+◌, ◌-◌, ◌*◌}
use mathlib.Core.Path.{◌≡◌}
use Rattle.planning.specs.Walk.{spot_of, keys_of, process_w, each_w}
use Rattle.planning.proofs.rewrite.Rewriting.+block_body_each_fixed_listed_node_process_rest.Given as goal

abbrev pub decreases-block : goal.decreases-block
decreases-block l = l.place.depth * 5 + 3

abbrev pub decreases-body : goal.decreases-body
decreases-body l = l.place.depth * 5 + 1

abbrev pub decreases-each : goal.decreases-each
decreases-each l = l.place.depth * 5 + 1

abbrev pub decreases-fixed : goal.decreases-fixed
decreases-fixed l = l.place.depth * 5 + 3

abbrev pub decreases-listed : goal.decreases-listed
decreases-listed l = l.place.depth * 5 + 2

abbrev pub decreases-node : goal.decreases-node
decreases-node l = l.place.depth * 5 + 4

abbrev pub decreases-process : goal.decreases-process
decreases-process l = l.place.depth * 5

abbrev pub decreases-rest : goal.decreases-rest
decreases-rest l = l.place.depth * 5 + 2

abbrev pub invariant-each-loop : goal.invariant-each-loop
invariant-each-loop l =
    each_w (process_w l.place.depth l.self.join l.self.ws.now) l.self.ws.now l.place.free (keys_of l.keys) (l.count - l.counter) (spot_of l.x) l.a l.b l.spare
    ≡ each_w (process_w l.place.depth l.self.join l.self.ws.now) l.self.ws.now l.place.free (keys_of l.keys) l.count (spot_of l.initial.x) l.initial.a l.initial.b l.spare
