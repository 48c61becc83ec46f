-- `handling::replace::Replacing::process` and the methods for single kinds that it goes round with. The measure is the depth left, times 3.
-- The invariant of the loop in `kept`: the parts left, written from here on, give what all give from the start.
use Prim.Native.Nat.{◌+◌, ◌-◌, ◌*◌}
use mathlib.Core.Path.{◌≡◌}
use Rattle.handling.specs.Replacing.{replace_w, parts_w}
use Rattle.handling.proofs.replace.Replacing.+condition_in_par_in_seq_kept_process.Given as goal

abbrev pub decreases-condition : goal.decreases-condition
decreases-condition l = l.depth * 3 + 2

abbrev pub decreases-in_par : goal.decreases-in_par
decreases-in_par l = l.depth * 3 + 1

abbrev pub decreases-in_seq : goal.decreases-in_seq
decreases-in_seq l = l.depth * 3 + 1

abbrev pub decreases-kept : goal.decreases-kept
decreases-kept l = l.depth * 3 + 1

abbrev pub decreases-process : goal.decreases-process
decreases-process l = l.depth * 3

abbrev pub invariant-kept-loop : goal.invariant-kept-loop
invariant-kept-loop l =
    parts_w (replace_w l.depth l.self.ws.now l.self.old) (l.count - l.counter) l.deepest l.a l.out l.t ≡ parts_w (replace_w l.depth l.self.ws.now l.self.old) l.count l.initial.deepest l.initial.a l.initial.out l.initial.t
