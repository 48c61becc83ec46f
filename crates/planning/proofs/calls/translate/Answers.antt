-- `translate` of `planning::calls` meets its contract: more words than a configuration may have are no plan.
use mathlib.Core.Path.{refl}
use borrow.Author.Rules.{rules}
use Rattle.planning.proofs.Answers.{too_long}
use Rattle.planning.proofs.calls.translate.Goals as goal

pub returns-then-ws-gt-LONGEST-clause-answered : goal.returns-then-ws-gt-LONGEST-clause-answered
returns-then-ws-gt-LONGEST-clause-answered c = (too_long c.args.ws.now c.args.out.now c.if-ws-gt-LONGEST.true (search rules)).0

pub returns-then-ws-gt-LONGEST-clause-written : goal.returns-then-ws-gt-LONGEST-clause-written
returns-then-ws-gt-LONGEST-clause-written c = (too_long c.args.ws.now c.args.out.now c.if-ws-gt-LONGEST.true refl).1
