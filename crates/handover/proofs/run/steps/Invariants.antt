-- The loop keeps what is printed of the input so far.
use Rattle.std.proofs.Common.{◌≡◌, ℕ, List, Some}
use Rattle.handover.proofs.Going.{Gone}
use Rattle.handover.proofs.run.steps.Given as goal

abbrev pub invariant-loop-number : goal.invariant-loop-number
invariant-loop-number g l =
    (bytes : List ℕ) → g.R.Read.remaining l.initial.input ≡ Some bytes →
    Gone l.initial.words bytes (g.W.Write.contents l.initial.output) (g.W.Write.contents l.output) (g.R.Read.remaining l.input) l.number l.words
