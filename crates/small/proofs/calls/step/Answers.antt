-- `step` of `small::calls` meets its contract.
use Rattle.small.proofs.calls.step.Goals as goal

pub returns-clause-answered : goal.returns-clause-answered
returns-clause-answered c = c.step_at.ensures.answered

pub returns-clause-wrote : goal.returns-clause-wrote
returns-clause-wrote c = c.step_at.ensures.written
