-- `step_at` of `stepping::steps` meets its contract: the step on words is the definitions', however many notes there are.
use native.Mathlib.Omega.{arith}
use mathlib.Core.Path.{sym, subst, ◌∙◌}
use lib.ListN.{length}
use Rattle.skipping.proofs.Notes.{Right}
use Rattle.noting.proofs.Noted.{blank_right, survey_right}
use Rattle.layout.specs.Limits.{figures}
use Rattle.stepping.specs.Bundles.{named_by}
use Rattle.stepping.proofs.Law.{answer_law, output_law}
use Rattle.stepping.proofs.steps.step_at.Goals as goal

pub returns-clause-answered : goal.returns-clause-answered
returns-clause-answered c =
    let low = c.well_formed.1.0 in
    c.stepped.ensures.0 ∙ answer_law (record { low = c.args.m.low; few = c.args.m.few }) c.args.ws.now (λ i. (c.type_inv.ws i).fits) c.args.k (omega (arith, low)) (omega (arith, low)) c.args.out.now _ (survey_right (figures c.args.m.limits) (omega (arith, c.args.m.few)) (named_by c.args.k) c.args.ws.now (λ i. (c.type_inv.ws i).fits) _ (subst (Right c.args.ws.now) (sym c.requires) (blank_right c.args.ws.now (length c.args.notes.now))))

pub returns-clause-written : goal.returns-clause-written
returns-clause-written c =
    let low = c.well_formed.1.0 in
    c.stepped.ensures.1 ∙ output_law (record { low = c.args.m.low; few = c.args.m.few }) c.args.ws.now (λ i. (c.type_inv.ws i).fits) c.args.k (omega (arith, low)) (omega (arith, low)) c.args.out.now _ (survey_right (figures c.args.m.limits) (omega (arith, c.args.m.few)) (named_by c.args.k) c.args.ws.now (λ i. (c.type_inv.ws i).fits) _ (subst (Right c.args.ws.now) (sym c.requires) (blank_right c.args.ws.now (length c.args.notes.now))))
