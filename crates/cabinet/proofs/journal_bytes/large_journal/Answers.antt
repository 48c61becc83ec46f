-- `large_journal` of `cabinet::journal_bytes` meets its contract.
use native.Mathlib.Omega.{arith}
use mathlib.Core.Path.{refl, ◌∙◌}
use Rattle.sock.specs.Configuration.{standard}
use Rattle.cabinet.proofs.Journaling.{large_journal_given, large_journal_output, large_journal_written}
use Rattle.cabinet.proofs.journal_bytes.large_journal.Goals as goal

pub returns : goal.returns
returns c =
    let j = c.journal_in.ensures in
    record {
      answered = j.answered ∙ large_journal_given standard (omega arith) 8192 16388 (omega arith) (omega arith) _ _ refl _ c.args.out.now c.args.journal.now _ _ refl refl;
      wrote = j.wrote ∙ large_journal_output standard (omega arith) 8192 16388 (omega arith) (omega arith) _ _ refl _ c.args.out.now _ _ _ refl refl;
      noted = j.noted ∙ large_journal_written standard (omega arith) 8192 16388 (omega arith) (omega arith) _ _ refl _ _ c.args.journal.now _ _ refl refl;
    }
