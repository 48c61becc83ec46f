-- `words_after` of `window::calls` meets its contract.
use native.Mathlib.Omega.{arith}
use mathlib.Core.Path.{ap}
use lib.ListN.{length}
use Rattle.std.proofs.lemmas.Result.{err_from_is_err_and}
use Rattle.window.proofs.Whole.{few_given}
use Rattle.window.proofs.Answering.{no_width, no_operation, not_given, left_out, has_entered}
use Rattle.window.proofs.calls.words_after.Goals as goal

pub returns-in_err-width : goal.returns-in_err-width
returns-in_err-width c =
    let p = err_from_is_err_and c.from_residual.result c.from_residual.ensures.1 in
    rw p.1 (no_width c.args.width c.args.answer c.args.words c.in_err-width.ensures)

pub returns-in_err-operation : goal.returns-in_err-operation
returns-in_err-operation c =
    let p = err_from_is_err_and c.from_residual-in_err-operation.result c.from_residual-in_err-operation.ensures.1 in
    rw p.1 (no_operation c.args.width c.args.answer c.args.words c.in_err-operation.ensures)

pub returns-in_err-window : goal.returns-in_err-window
returns-in_err-window c =
    let p = err_from_is_err_and c.from_residual-in_err-window.result c.from_residual-in_err-window.ensures.1 in
    rw p.1 (not_given c.args.width c.args.answer c.args.words (rw c.in_ok-width.ensures at c.in_err-window.ensures))

pub returns-then-answer-ne-ACCEPTED : goal.returns-then-answer-ne-ACCEPTED
returns-then-answer-ne-ACCEPTED c =
    left_out c.args.width c.args.answer c.args.words (omega (arith, c.in_ok-width.width.least, c.in_ok-width.ensures)) (omega (arith, c.in_ok-width.width.most, c.in_ok-width.ensures)) (omega (arith, c.in_ok-operation.operation.most, c.in_ok-operation.ensures)) (rw c.in_ok-width.ensures at c.in_ok-window.ensures.0) c.if-answer-ne-ACCEPTED.true

pub enter-requires : goal.enter-requires
enter-requires c =
    omega (arith, ap length c.in_ok-window.ensures.1, few_given c.in_ok-width.width.number c.args.words c.in_ok-width.width.most c.in_ok-window.ensures.0)

pub returns : goal.returns
returns c =
    has_entered c.args.width c.args.answer c.args.words (omega (arith, c.in_ok-width.width.least, c.in_ok-width.ensures)) (omega (arith, c.in_ok-width.width.most, c.in_ok-width.ensures)) (omega (arith, c.in_ok-operation.operation.most, c.in_ok-operation.ensures)) (rw c.in_ok-width.ensures at c.in_ok-window.ensures.0) c.if-answer-ne-ACCEPTED.false c.in_ok-window.window c.in_ok-window.ensures.1 c.entry.result.number (rw c.in_ok-operation.ensures at c.entry.ensures) c.enter.new.self c.into_words.result (rw c.in_ok-width.ensures at c.enter.ensures) c.into_words.ensures
