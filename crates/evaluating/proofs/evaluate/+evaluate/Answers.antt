-- `evaluate`: an operand is one level less deep, so the levels left are the measure; the code is its mirror in specs/.
use Rattle.std.proofs.Common.{◌≡◌, ℕ, ◌/◌, ◌<◌, ◌∙◌, refl, ap, get_or, arith}
use Rattle.layout.specs.Kinds.{tag_number}
use Rattle.evaluating.specs.Evaluating.{evaluated, evaluated_at, both, combined}
use Rattle.evaluating.proofs.Evaluations.{evaluated_step}
use Rattle.layout.specs.declared.tag.Tag.TheVariants as tags
use Rattle.layout.proofs.Named.{tag_is, not_tag}
use Rattle.sock.proofs.Tests.{tests}
use Rattle.evaluating.proofs.evaluate.+evaluate.Goals as goal

pub returns-then-depth-eq0 : goal.returns-then-depth-eq0
unfolding evaluated
returns-then-depth-eq0 t c =
    let f0 = c.if-depth-eq0.true in
    simp (← c.nowhere.ensures, f0)

pub returns-in_default : goal.returns-in_default
unfolding evaluated_at both
returns-in_default t c =
    let w : ℕ = get_or c.args.ws.now c.args.at 0 in
    let small : w < 65536 = (c.type_inv.ws c.args.at).fits in
    let n : tag_number c.of-t.result ≡ w / 8192 = tag_is c.of-t.ensures (omega arith) in
    let g0 = not_tag tags.Constant c.of-t.ensures c.in_default.not-Constant refl in
    let g1 = not_tag tags.Variable c.of-t.ensures c.in_default.not-Variable refl in
    let f0 = c.if-ws-at.false in
    let f1 = c.if-depth-eq0.false in
    let v = c.combine.ensures ∙ ap (λ t. combined t c.evaluate-a.result.value c.evaluate-b.result.value) n in
    simp (tests, evaluated_step, f0, f1, g0, g1, ← c.evaluate-b.ensures, ← c.evaluate-a.ensures, ← v)
