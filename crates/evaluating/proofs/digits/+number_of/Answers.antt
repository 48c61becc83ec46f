-- `number_of`: one digit fewer in each call, the count of digits is the measure. The number is at most the word, so nothing runs over.
use Rattle.std.proofs.Common.{ℕ, ◌+◌, ◌*◌, ◌%◌, sym, ap, ◌∙◌, arith}
use Rattle.sock.proofs.Decimals.{number_none, number_more}
use Rattle.evaluating.proofs.digits.+number_of.Goals as goal

pub returns-then-n-eq0 : goal.returns-then-n-eq0
returns-then-n-eq0 t c = (sym (number_none c.args.n c.args.p c.if-n-eq0.true), omega arith)

pub returns : goal.returns
returns t c =
    let a = c.args in
    let e = c.number_of.ensures in
    (ap (λ (r : ℕ). r * 10 + a.p % 16) e.0 ∙ sym (number_more a.n a.p c.if-n-eq0.false), let h = e.1 in omega (arith, h))
