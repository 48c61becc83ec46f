-- `look`, `seq` and `turn` of `pending::look` meet their contracts. The invariant: the mirror's loop from here on gives what it gives from the start;
-- its measure is the turns left. The measure of the calls is three times the depth, which falls from a process to the first of a seq in it, and
-- for the same depth who calls whom.
use mathlib.Core.Path.{◌≡◌}
use Rattle.pending.specs.Looking.{turn_w, loop_w, look_w}
use Prim.Native.Nat.{◌+◌, ◌-◌, ◌*◌}
use Rattle.pending.proofs.look.+look_seq_turn.Given as goal

abbrev pub decreases-look : goal.decreases-look
decreases-look l = l.depth * 3

abbrev pub decreases-seq : goal.decreases-seq
decreases-seq l = l.depth * 3 + 1

abbrev pub decreases-turn : goal.decreases-turn
decreases-turn l = l.depth * 3 + 2

abbrev pub invariant-look-loop-i : goal.invariant-look-loop-i
invariant-look-loop-i l =
    loop_w l.turns (turn_w (look_w (l.depth - 1) l.noted.ws.now l.noted.notes.now) l.noted.ws.now l.noted.notes.now) l.end l.i l.n ≡ look_w l.depth l.noted.ws.now l.noted.notes.now l.at l.end l.count

abbrev pub decreases-look-loop-i : goal.decreases-look-loop-i
decreases-look-loop-i l = l.turns
