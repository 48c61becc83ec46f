-- `sock_step_journal_small` of `cabinet::small_bytes` meets its contract.
use native.Mathlib.Omega.{arith}
use mathlib.Core.Path.{refl, ap, ◌∙◌}
use Rattle.bytewise.specs.Held.{packed_as}
use Rattle.sock.specs.Cabinets.{small}
use Rattle.cabinet.proofs.Journaling.{large_journal_answer, large_journal_output, large_journal_written}
use Rattle.cabinet.proofs.small_bytes.sock_step_journal_small.Goals as goal

pub returns : goal.returns
returns c =
    let j = c.journal_in.ensures in
    record {
      answered = c.pack.ensures ∙ ap packed_as j.answered ∙ large_journal_answer small (omega arith) 2048 4100 (omega arith) (omega arith) _ _ refl _ _ _ _ _ refl refl;
      wrote = j.wrote ∙ large_journal_output small (omega arith) 2048 4100 (omega arith) (omega arith) _ _ refl _ c.args.out.now _ _ _ refl refl;
      noted = j.noted ∙ large_journal_written small (omega arith) 2048 4100 (omega arith) (omega arith) _ _ refl _ _ c.args.journal.now _ _ refl refl;
    }
