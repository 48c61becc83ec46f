-- `tally` of `window::counts` meets its contract. The loop's invariant: the entries before are counted, and none of them is above 64.
use mathlib.Core.Path.{◌≡◌}
use lib.ListN.{take}
use Rattle.window.specs.Window.{counts_from}
use Rattle.window.proofs.Tallying.{Passed}
use Rattle.window.proofs.counts.tally.Given as goal

abbrev pub invariant-loop-word : goal.invariant-loop-word
invariant-loop-word l = (l.counts ≡ counts_from 65 0 (take l.word-index l.words)) × Passed l.words l.word-index
