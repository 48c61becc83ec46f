-- `reading::reader::distinct`. The loop's invariant: those left are all different if all are.
use mathlib.Core.Path.{◌≡◌}
use mathlib.Core.List.{◌∷◌}
use lib.ListN.{drop}
use Rattle.sock.specs.Variables.{further_of, distinct}
use Rattle.reading.proofs.reader.distinct.Given as goal

abbrev pub invariant-loop-i : goal.invariant-loop-i
invariant-loop-i l = distinct (l.x ∷ further_of (drop l.i l.further)) ≡ distinct (l.first ∷ further_of l.further)
