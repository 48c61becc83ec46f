-- `handling::measure::expression_levels`, which calls itself for both operands. The measure is the depth left.
use Rattle.handling.proofs.measure.+expression_levels.Given as goal

abbrev pub decreases-expression_levels : goal.decreases-expression_levels
decreases-expression_levels l = l.depth
