-- `step` of `journal::steps` meets its contract.
use native.Mathlib.Omega.{arith}
use mathlib.Core.Path.{sym, ◌∙◌}
use borrow.Author.Tests.{eqb-true, eqb-false}
use Rattle.sock.specs.Configuration.{standard}
use Rattle.journal.proofs.Stepping.{small_answer, small_output, small_journal, small_keeps, again_answer, again_output, again_journal}
use Rattle.journal.proofs.steps.step.Goals as goal

pub returns-then-output_short : goal.returns-then-output_short
returns-then-output_short c =
    let s = c.step_in-given.ensures in
    let large = c.large-then-output_short.ensures in
    let k = small_keeps standard (omega arith) _ _ c.args.out.now c.args.journal.now _ s.answered (eqb-true _ 10 (sym c.output_short.ensures ∙ c.if-output_short.true)) in
    let o = s.wrote ∙ k.0 in
    let j = s.noted ∙ k.1 in
    record {
      answered = large.answered ∙ again_answer standard (omega arith) _ _ o j;
      wrote = large.wrote ∙ again_output standard (omega arith) _ _ o j;
      noted = large.noted ∙ again_journal standard (omega arith) _ _ o j;
    }

pub returns : goal.returns
returns c =
    let s = c.step_in-given.ensures in
    let n = eqb-false _ 10 (sym c.output_short.ensures ∙ c.if-output_short.false) in
    record {
      answered = small_answer standard (omega arith) _ _ c.args.out.now c.args.journal.now _ s.answered n;
      wrote = s.wrote ∙ small_output standard (omega arith) _ _ c.args.out.now c.args.journal.now _ s.answered n;
      noted = s.noted ∙ small_journal standard (omega arith) _ _ c.args.out.now c.args.journal.now _ s.answered n;
    }
