-- `packed_of`: one digit fewer in each call, the count of digits is the measure. Seven digits leave room for one more.
use Rattle.evaluating.proofs.digits.+packed_of.Given as goal

abbrev pub decreases-packed_of : goal.decreases-packed_of
decreases-packed_of l = l.n
