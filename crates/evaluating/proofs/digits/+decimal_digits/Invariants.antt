-- `decimal_digits`: one digit fewer in each call, the count of digits is the measure.
use Rattle.evaluating.proofs.digits.+decimal_digits.Given as goal

abbrev pub decreases-decimal_digits : goal.decreases-decimal_digits
decreases-decimal_digits l = l.n
