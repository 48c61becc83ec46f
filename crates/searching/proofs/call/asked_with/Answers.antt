-- `asked_with` of `searching::call` meets its contract: the call on words is the definitions', whatever room the notes have.
use native.Mathlib.Omega.{arith}
use mathlib.Core.Path.{refl, ◌∙◌}
use Rattle.noting.proofs.Noted.{blank_right, survey_right}
use Rattle.stepping.proofs.Modest.{modest_standard}
use Rattle.sock.specs.Configuration.{standard}
use Rattle.searching.specs.Asking.{named_by}
use Rattle.searching.proofs.Law.{asked_law}
use Rattle.searching.proofs.call.asked_with.Goals as goal

pub returns : goal.returns
returns g c =
    c.asked.ensures.answered
    ∙ asked_law (modest_standard refl) c.args.ws.now (λ i. (c.type_inv.ws i).fits) c.args.engine c.args.position c.ranges.position.fits _
    (survey_right standard (omega arith) (named_by c.args.engine) c.args.ws.now (λ i. (c.type_inv.ws i).fits) _ (blank_right c.args.ws.now g.row.NOTES))
