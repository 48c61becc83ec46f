-- `engines` of `noting::survey` meets its contract. The loop's invariant: the walk and the notes from here give what they give from the start.
use Prim.Native.Nat.{◌-◌, ◌≤◌}
use mathlib.Core.Path.{◌≡◌}
use lib.ListN.{length, replicate}
use Rattle.reading.specs.Walk.{process_end}
use Rattle.reading.specs.Survey.{engines_from}
use Rattle.noting.specs.Noting.{engines_notes}
use Rattle.noting.proofs.survey.engines.Given as goal

abbrev pub invariant-loop-e : goal.invariant-loop-e
invariant-loop-e l =
    (engines_from (process_end l.deepest l.ws l.reader.bound 11) l.ws l.n (l.n - l.e) l.e l.at l.starts ≡ engines_from (process_end l.deepest l.ws l.reader.bound 11) l.ws l.n l.n 0 2 (replicate 9 0))
    × (engines_notes l.deepest l.ws l.reader.bound l.named (l.n - l.e) l.e l.at l.notes ≡ engines_notes l.deepest l.ws l.reader.bound l.named l.n 0 2 l.initial.notes)
    × (l.at ≤ length l.ws)
