-- `readable_at` of `reading::calls` meets its contract: what was surveyed is read.
use Rattle.layout.specs.Limits.{figures}
use Rattle.reading.proofs.Checks.{is_readable}
use Rattle.reading.proofs.calls.readable_at.Goals as goal

pub returns-in-Some : goal.returns-in-Some
returns-in-Some c = is_readable (figures c.args.limits) _ (λ i. (c.type_inv.ws i).fits) c.in-Some.field-0 c.in-Some.ensures
