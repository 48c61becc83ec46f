-- `survey::engines` meets its contract. The loop's invariant: the walk from here gives what it gives from the start.
use Prim.Native.Nat.{◌-◌, ◌≤◌}
use mathlib.Core.Path.{◌≡◌}
use lib.ListN.{length, replicate}
use Rattle.reading.specs.Walk.{process_end}
use Rattle.reading.specs.Survey.{engines_from}
use Rattle.reading.proofs.survey.engines.Given as goal

abbrev pub invariant-loop-e : goal.invariant-loop-e
invariant-loop-e l =
    (engines_from (process_end l.deepest l.ws l.bound l.context) l.ws l.n (l.n - l.e) l.e l.at l.starts ≡ engines_from (process_end l.deepest l.ws l.bound l.context) l.ws l.n l.n 0 2 (replicate 9 0))
    × (l.at ≤ length l.ws)
