-- `step_journal` of `cabinet::journal_bytes` meets its contract.
use mathlib.Core.Path.{sym, ◌∙◌}
use borrow.Author.Tests.{eqb-true, eqb-false}
use Rattle.cabinet.proofs.Journaling.{small_given, small_output, small_noted, tried_given, tried_output, tried_journal, tried_keeps, again_given, again_output, again_journal}
use Rattle.cabinet.proofs.journal_bytes.step_journal.Goals as goal

pub returns-then-output_short : goal.returns-then-output_short
returns-then-output_short c =
    let s = c.journal_in-given.ensures in
    let few = c.if-config-gt-SHORT_BYTES.false in
    let answer = s.answered ∙ small_given _ few _ _ _ in
    let k = tried_keeps _ few _ c.args.out.now c.args.journal.now _ answer (eqb-true _ 10 (sym c.output_short.ensures ∙ c.if-output_short.true)) in
    let o = s.wrote ∙ small_output _ few _ _ _ c.args.out.now ∙ k.0 in
    let j = s.noted ∙ small_noted _ few _ _ _ c.args.journal.now ∙ k.1 in
    let again = c.large_journal-then-output_short.ensures in
    record { answered = again.answered ∙ again_given _ _ o j; wrote = again.wrote ∙ again_output _ _ o j; noted = again.noted ∙ again_journal _ _ o j }

pub returns : goal.returns
returns c =
    let s = c.journal_in-given.ensures in
    let few = c.if-config-gt-SHORT_BYTES.false in
    let n = eqb-false _ 10 (sym c.output_short.ensures ∙ c.if-output_short.false) in
    let answer = s.answered ∙ small_given _ few _ _ _ in
    record {
      answered = tried_given _ few _ c.args.out.now c.args.journal.now _ answer n;
      wrote = s.wrote ∙ small_output _ few _ _ _ c.args.out.now ∙ tried_output _ few _ c.args.out.now c.args.journal.now _ answer n;
      noted = s.noted ∙ small_noted _ few _ _ _ c.args.journal.now ∙ tried_journal _ few _ c.args.out.now c.args.journal.now _ answer n;
    }
