-- `is_fresh` of `reading::calls` meets its contract: a serial is issued.
use Rattle.layout.specs.Limits.{figures}
use Rattle.reading.proofs.Checks.{some_issued}
use Rattle.reading.proofs.calls.is_fresh.Goals as goal

pub returns-else-word-eq0 : goal.returns-else-word-eq0
returns-else-word-eq0 c = some_issued (figures c.args.limits) _ (λ i. (c.type_inv.ws i).fits) _ c.survey.ensures _ c.in-Some.is _ c.word.ensures c.if-word-eq0.false
