-- `check_readable` of `small::calls` meets its contract.
use Rattle.small.proofs.calls.check_readable.Goals as goal

pub returns : goal.returns
returns c = c.readable_at.ensures
