-- `evaluate`: an operand is one level less deep, so the levels left are the measure; the code is its mirror in specs/.
use Rattle.evaluating.proofs.evaluate.+evaluate.Given as goal

abbrev pub decreases-evaluate : goal.decreases-evaluate
decreases-evaluate l = l.depth
