-- The functions of `Reader` that call each other meet their contracts. The measure is 8 times the depth, and for the same depth up to 7 for who
-- calls whom: node, then rest, then body, then solicit, waiter, marked and choice, then list, then those that call `process` alone. Invariants: in
-- `node`, the node that is reached ends where the whole does (`Turning.Going`); in `list` and `choice`, the entries or branches that are left end where
-- all of them do. The measure of the loop in `node` is the levels left.
use Prim.Native.Nat.{◌+◌, ◌*◌, ◌-◌, ◌<◌}
use mathlib.Core.Path.{◌≡◌}
use lib.ListN.{get_or}
use Rattle.reading.proofs.Turning.{headed, Going}
use Rattle.reading.specs.Sets.{context_in}
use Rattle.reading.specs.Walk.{process_end, branches_end, entries_end}
use Rattle.reading.proofs.reader.Reader.+body_choice_guarded_list_marked_node_process_rest_solicit_waiter.Given as goal

abbrev pub decreases-body : goal.decreases-body
decreases-body l = l.depth * 8 + 5

abbrev pub decreases-choice : goal.decreases-choice
decreases-choice l = l.depth * 8 + 4

abbrev pub decreases-guarded : goal.decreases-guarded
decreases-guarded l = l.depth * 8 + 1

abbrev pub decreases-list : goal.decreases-list
decreases-list l = l.depth * 8 + 3

abbrev pub decreases-marked : goal.decreases-marked
decreases-marked l = l.depth * 8 + 4

abbrev pub decreases-node : goal.decreases-node
decreases-node l = l.depth * 8 + 7

abbrev pub decreases-process : goal.decreases-process
decreases-process l = l.depth * 8

abbrev pub decreases-rest : goal.decreases-rest
decreases-rest l = l.depth * 8 + 6

abbrev pub decreases-solicit : goal.decreases-solicit
decreases-solicit l = l.depth * 8 + 4

abbrev pub decreases-waiter : goal.decreases-waiter
decreases-waiter l = l.depth * 8 + 4

abbrev pub invariant-choice-loop : goal.invariant-choice-loop
invariant-choice-loop l =
    (branches_end (process_end l.depth l.self.ws.now l.self.bound) (context_in l.c.kinds) (l.count - l.counter) l.a
    ≡ branches_end (process_end l.depth l.self.ws.now l.self.bound) (context_in l.c.kinds) l.count l.initial.a)
    × (0 < l.a)

abbrev pub invariant-list-loop : goal.invariant-list-loop
invariant-list-loop l =
    (entries_end (process_end l.depth l.self.ws.now l.self.bound) l.ws (context_in l.context.kinds) l.wanted (l.count - l.counter) l.least l.met l.a
    ≡ entries_end (process_end l.depth l.self.ws.now l.self.bound) l.ws (context_in l.context.kinds) l.wanted l.count l.initial.least l.initial.met l.initial.a)
    × (0 < l.a)

abbrev pub invariant-node-loop-end : goal.invariant-node-loop-end
invariant-node-loop-end l =
    Going l.self.ws.now l.self.bound (headed l.self.ws.now l.self.bound l.depth (context_in l.fn.context.kinds) (get_or l.self.ws.now l.at 0) l.at) l.depth l.a l.d (context_in l.c.kinds) l.k

abbrev pub decreases-node-loop-end : goal.decreases-node-loop-end
decreases-node-loop-end l = l.d
