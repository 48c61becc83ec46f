-- `number_of`: one digit fewer in each call, the count of digits is the measure. The number is at most the word, so nothing runs over.
use Rattle.evaluating.proofs.digits.+number_of.Given as goal

abbrev pub decreases-number_of : goal.decreases-number_of
decreases-number_of l = l.n
