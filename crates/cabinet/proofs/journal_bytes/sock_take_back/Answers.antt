-- `sock_take_back` of `cabinet::journal_bytes` meets its contract.
use mathlib.Core.Path.{◌∙◌}
use Rattle.cabinet.proofs.Numbered.{taken_packed}
use Rattle.cabinet.proofs.TakingBack.{back_packed}
use Rattle.cabinet.proofs.journal_bytes.sock_take_back.Goals as goal

pub returns : goal.returns
returns c =
    let t = c.take_back_bytes.ensures in
    record { answered = c.numbered.ensures ∙ taken_packed _ ∙ back_packed c.args.config.now c.args.journal.now c.args.out.now _ t.answered; wrote = t.wrote }
