-- What an expression is, by name; the operators are the definitions'.
use Rattle.std.specs.Prelude.{ℕ}
use Rattle.sock.specs.Term as term
use Rattle.sock.specs.Layout.{operator_tag}

abbrev pub constant : ℕ
constant = 0

abbrev pub variable : ℕ
variable = 1

abbrev pub sum : ℕ
sum = operator_tag term.sum

abbrev pub difference : ℕ
difference = operator_tag term.difference

abbrev pub less : ℕ
less = operator_tag term.less

abbrev pub equal : ℕ
equal = operator_tag term.equal

abbrev pub decimal_sum : ℕ
decimal_sum = operator_tag term.decimal_sum

abbrev pub decimal_difference : ℕ
decimal_difference = operator_tag term.decimal_difference
