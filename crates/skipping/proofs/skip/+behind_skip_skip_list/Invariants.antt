-- `behind`, `skip` and `skip_list` of `skipping::skip` meet their contracts. The invariants: the mirror's loop from here on gives the same end; the
-- measure of the loop in `skip` is the turns that are left. The measure of the calls is three times the depth, which falls from a process to
-- what its lists hold, and for the same depth who calls whom.
use mathlib.Core.Path.{◌≡◌}
use lib.ListN.{length}
use Rattle.skipping.specs.Skip.{entries_skip, skip_loop, skip_end, skip_list}
use Prim.Native.Nat.{◌+◌, ◌*◌, ◌-◌, ◌≤◌}
use Rattle.skipping.proofs.skip.+behind_skip_skip_list.Given as goal

abbrev pub decreases-behind : goal.decreases-behind
decreases-behind l =
    l.depth * 3 + 2

abbrev pub decreases-skip : goal.decreases-skip
decreases-skip l =
    l.depth * 3

abbrev pub decreases-skip_list : goal.decreases-skip_list
decreases-skip_list l =
    l.depth * 3 + 1

abbrev pub invariant-skip-loop-left : goal.invariant-skip-loop-left
invariant-skip-loop-left l =
    (l.turns ≤ length l.ws) × (skip_loop l.turns (skip_end (l.depth - 1) l.ws) l.ws l.left l.follows l.a ≡ skip_end l.depth l.ws l.at)

abbrev pub decreases-skip-loop-left : goal.decreases-skip-loop-left
decreases-skip-loop-left l =
    l.turns

abbrev pub invariant-skip_list-loop : goal.invariant-skip_list-loop
invariant-skip_list-loop l =
    entries_skip (skip_end l.depth l.ws) l.ws l.wanted (l.count - l.counter) l.met l.a ≡ skip_list l.depth l.ws l.wanted l.at
