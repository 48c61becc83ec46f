-- `decimal_digits`: one digit fewer in each call, the count of digits is the measure.
use Rattle.std.proofs.Common.{◌-◌, ◌/◌, Bool, ◌&&◌, sym, ap, ◌∙◌, le-ltb, lt-ltb}
use Rattle.sock.specs.Digits.{decimal}
use Rattle.sock.proofs.Decimals.{decimal_none, decimal_more}
use Rattle.evaluating.proofs.digits.+decimal_digits.Goals as goal

pub returns-then-n-eq0 : goal.returns-then-n-eq0
returns-then-n-eq0 t c = sym (decimal_none c.args.n c.args.p c.if-n-eq0.true)

pub returns-then-p-lt10 : goal.returns-then-p-lt10
returns-then-p-lt10 t c =
    let a = c.args in
    c.decimal_digits.ensures
    ∙ sym (decimal_more a.n a.p c.if-n-eq0.false ∙ ap (λ (b : Bool). b && decimal (a.n - 1) (a.p / 16)) (lt-ltb _ 10 c.if-p-lt10.true))

pub returns : goal.returns
returns t c =
    let a = c.args in
    sym (decimal_more a.n a.p c.if-n-eq0.false ∙ ap (λ (b : Bool). b && decimal (a.n - 1) (a.p / 16)) (le-ltb _ 10 c.if-p-lt10.false))
