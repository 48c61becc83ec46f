-- `count_among` of `window::calls` meets its contract.
use native.Mathlib.Omega.{arith}
use Rattle.std.proofs.lemmas.Result.{err_from_is_err_and}
use Rattle.window.proofs.Answering.{count_unknown, count_refused, count_given}
use Rattle.window.proofs.calls.count_among.Goals as goal

pub returns-in_err-operation : goal.returns-in_err-operation
returns-in_err-operation c =
    let p = err_from_is_err_and c.from_residual.result c.from_residual.ensures.1 in
    rw p.1 (count_unknown c.args.operation c.args.words c.in_err-operation.ensures)

pub returns-in_err-window : goal.returns-in_err-window
returns-in_err-window c =
    let p = err_from_is_err_and c.from_residual-in_err-window.result c.from_residual-in_err-window.ensures.1 in
    rw p.1 (count_refused c.args.operation c.args.words c.in_err-window.ensures)

pub returns : goal.returns
returns c =
    count_given c.args.operation c.args.words (omega (arith, c.in_ok-operation.operation.most, c.in_ok-operation.ensures)) c.in_ok-window.ensures.0 c.in_ok-window.window c.in_ok-window.ensures.1 c.count.result (rw c.in_ok-operation.ensures at c.count.ensures)
