-- `next_bytes` of `window::on_bytes` meets its contract.
use native.Mathlib.Omega.{arith}
use mathlib.Core.Path.{◌≡◌, ap, ◌∙◌}
use Rattle.window.specs.Window.{answer}
use Rattle.window.specs.Bytes.{words_of, window_in}
use Rattle.window.proofs.Answering.{bytes_short, bytes_refused, bytes_passed, bytes_moved}
use Rattle.window.proofs.on_bytes.next_bytes.Goals as goal

pub returns-in_default : goal.returns-in_default
returns-in_default c =
    let r = bytes_short c.args.window.now c.args.width (answer c.args.number c.args.fault c.args.operation) c.in_default.ensures.cases in
    (c.from.ensures ∙ r.0, r.1)

pub returns-in-Ok-None : goal.returns-in-Ok-None
unfolding window_in
returns-in-Ok-None c =
    let words : c.words_in.result ≡ window_in c.args.window.now = c.words_in.ensures ∙ ap words_of c.in-Some.ensures.cases.0 in
    bytes_passed c.args.window.now c.args.width (answer c.args.number c.args.fault c.args.operation) (rw words at (rw c.in-Ok-None.field-0-is at c.in-Ok-None.ensures))

pub returns-in-Ok-Some : goal.returns-in-Ok-Some
unfolding window_in
returns-in-Ok-Some c =
    let words : c.words_in.result ≡ window_in c.args.window.now = c.words_in.ensures ∙ ap words_of c.in-Some.ensures.cases.0 in
    bytes_moved c.args.window.now c.args.width (answer c.args.number c.args.fault c.args.operation) (omega (arith, c.in-Some.ensures.cases.2)) c.in-Ok-Some.words (rw words at (rw c.in-Ok-Some.field-0-is at c.in-Ok-Some.ensures)) c.put.new.out c.put.ensures

pub returns-in-Err : goal.returns-in-Err
unfolding window_in
returns-in-Err c =
    let words : c.words_in.result ≡ window_in c.args.window.now = c.words_in.ensures ∙ ap words_of c.in-Some.ensures.cases.0 in
    let r = bytes_refused c.args.window.now c.args.width (answer c.args.number c.args.fault c.args.operation) (rw words at c.in-Err.ensures) in
    (c.from-in-Err.ensures ∙ r.0, r.1)
