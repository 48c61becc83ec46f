-- `tried` of `bytewise::stepping_bytes` meets its contract.
use mathlib.Core.Path.{sym, ap, ◌∙◌}
use borrow.Author.Tests.{eqb-true, eqb-false}
use Rattle.sock.specs.Bytes.{byte_answer, byte_output}
use Rattle.bytewise.proofs.Stepping.{small_answer, small_output, small_keeps}
use Rattle.bytewise.proofs.stepping_bytes.tried.Goals as goal

pub returns-then-output_short : goal.returns-then-output_short
returns-then-output_short g c =
    let e = c.step_in-given.ensures in
    let ten = eqb-true _ 10 (sym c.output_short.ensures ∙ c.if-output_short.true) in
    let kept = e.wrote ∙ small_keeps _ _ _ c.requires.3 _ _ _ e.answered ten in
    let large = c.large.ensures in
    (large.0 ∙ ap (byte_answer _ _ _) kept, large.1 ∙ ap (byte_output _ _ _) kept)

pub returns : goal.returns
returns g c =
    let e = c.step_in-given.ensures in
    let n = eqb-false _ 10 (sym c.output_short.ensures ∙ c.if-output_short.false) in
    let fits = c.requires.3 in
    (c.pack.ensures ∙ small_answer _ _ _ fits _ _ _ e.answered n, e.wrote ∙ small_output _ _ _ fits _ _ _ e.answered n)
