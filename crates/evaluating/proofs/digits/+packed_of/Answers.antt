-- `packed_of`: one digit fewer in each call, the count of digits is the measure. Seven digits leave room for one more.
use Rattle.std.proofs.Common.{ℕ, ◌+◌, ◌-◌, ◌*◌, ◌/◌, ◌%◌, sym, ap, ◌∙◌, arith}
use Rattle.sock.proofs.Decimals.{packed_none, packed_more, packed_seven}
use Rattle.evaluating.proofs.digits.+packed_of.Goals as goal

pub returns-then-n-eq0 : goal.returns-then-n-eq0
returns-then-n-eq0 t c = sym (packed_none c.args.n c.args.v c.if-n-eq0.true)

pub overflow_mul-result : goal.overflow_mul-result
overflow_mul-result t c =
    let a = c.args in
    let h = c.requires in
    let s = packed_seven (a.n - 1) (a.v / 10) (omega (arith, h)) in
    let e = c.packed_of.ensures in
    omega (arith, e, s)

pub overflow_add-result : goal.overflow_add-result
overflow_add-result t c =
    let a = c.args in
    let h = c.requires in
    let s = packed_seven (a.n - 1) (a.v / 10) (omega (arith, h)) in
    let e = c.packed_of.ensures in
    omega (arith, e, s)

pub returns : goal.returns
returns t c =
    let a = c.args in
    ap (λ (r : ℕ). r * 16 + a.v % 10) c.packed_of.ensures ∙ sym (packed_more a.n a.v c.if-n-eq0.false)
