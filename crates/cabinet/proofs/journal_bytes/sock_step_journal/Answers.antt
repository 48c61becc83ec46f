-- `sock_step_journal` of `cabinet::journal_bytes` meets its contract.
use mathlib.Core.Path.{ap, ◌∙◌}
use Rattle.bytewise.specs.Held.{packed_as}
use Rattle.cabinet.proofs.Journaling.{journal_packed}
use Rattle.cabinet.proofs.journal_bytes.sock_step_journal.Goals as goal

pub returns : goal.returns
returns c = record { answered = c.pack.ensures ∙ ap packed_as c.step_journal.ensures.answered ∙ journal_packed _ _ c.args.out.now c.args.journal.now; wrote = c.step_journal.ensures.wrote; noted = c.step_journal.ensures.noted }
