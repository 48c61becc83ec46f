-- `decimal_sum`: both numbers are below 100,000,000 once their digits were seen to be decimal.
use Rattle.std.proofs.Common.{ℕ, refl, ◌+◌, ◌%◌, ◌∙◌, ap₂, arith}
use Rattle.sock.specs.Digits.{packed_of, power}
use Rattle.evaluating.proofs.Operands.{first_low, second_low, given, missing}
use Rattle.evaluating.proofs.digits.decimal_sum.Goals as goal

pub overflow_add-number_of : goal.overflow_add-number_of
overflow_add-number_of c =
    let t = c.if-both_decimal.true in
    let e = c.both_decimal.ensures in
    let x = c.number_of.ensures.0 in
    let y = c.number_of-then-both_decimal.ensures.0 in
    let f = first_low c.args.a c.args.b e t in
    let g = second_low c.args.a c.args.b e t in
    omega (arith, x, y, f, g)

pub returns-then-both_decimal : goal.returns-then-both_decimal
unfolding power
returns-then-both_decimal c =
    let e = c.both_decimal.ensures in
    let sum = ap₂ (λ (x y : ℕ). packed_of 8 ((x + y) % 100000000)) c.number_of.ensures.0 c.number_of-then-both_decimal.ensures.0 in
    given c.args.a c.args.b e c.if-both_decimal.true _ _ (c.packed_of.ensures ∙ sum) refl

pub returns : goal.returns
returns c = missing c.args.a c.args.b c.both_decimal.ensures c.if-both_decimal.false _ refl
