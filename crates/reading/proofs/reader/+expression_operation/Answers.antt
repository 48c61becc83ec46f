-- `expression` and `operation` of `reading::reader` meet their contracts. The measure is twice the depth, and one more for an operation, which
-- reads its operands one level down.
use Prim.Native.Nat.{◌-◌}
use mathlib.Core.Path.{refl}
use Rattle.layout.specs.declared.tag.Tag.TheVariants as tags
use Rattle.layout.proofs.Named.{not_tag}
use Rattle.reading.specs.Walk.{expr_end, when}
use Rattle.reading.proofs.Walks.{expr_step, leaf_at, operation_at}
use Rattle.sock.proofs.Tests.{tests}
use Rattle.reading.proofs.reader.+expression_operation.Goals as goal

pub expression-returns-in-Constant : goal.expression-returns-in-Constant
unfolding expr_end when
expression-returns-in-Constant t c =
    let f0 = leaf_at (expr_end (c.args.depth - 1) c.args.ws.now) c.args.ws.now c.args.at c.wide-w.ensures.0 c.of.ensures c.in-Constant.is in
    let f1 = c.if-ws-at.false in
    let f2 = c.if-depth-eq0.false in
    simp (tests, expr_step, ← c.leaf.ensures, f0, ← c.wide-w.ensures.0, f1, f2)

pub expression-returns-in_default : goal.expression-returns-in_default
unfolding expr_end when
expression-returns-in_default t c =
    let no_constant = not_tag tags.Constant c.of.ensures c.in_default.not-Constant refl in
    let no_variable = not_tag tags.Variable c.of.ensures c.in_default.not-Variable refl in
    let small = (c.type_inv.ws c.args.at).fits in
    let f0 = operation_at (expr_end (c.args.depth - 1) c.args.ws.now) c.args.ws.now c.args.at c.wide-w.ensures.0 no_constant no_variable small in
    let f1 = c.if-ws-at.false in
    let f2 = c.if-depth-eq0.false in
    simp (tests, expr_step, ← c.operation.ensures, f0, ← c.wide-w.ensures.0, f1, f2)
