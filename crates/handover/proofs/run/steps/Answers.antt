-- `steps` prints what the definition says.
use Rattle.std.proofs.Common.{arith, sym, take}
use Rattle.std.specs.Io.KnownBytes.{Appends}
use Rattle.handover.specs.Printed.{steps_text, most_steps}
use Rattle.handover.proofs.Reading.{known, completed, reads}
use Rattle.handover.proofs.Going.{gone_none, gone_all, gone_last, gone_next}
use Rattle.handover.proofs.run.steps.Goals as goal

pub loop-number-init : goal.loop-number-init
loop-number-init g c = λ bytes e. gone_none _ bytes _ _ e

pub loop-number-preserved : goal.loop-number-preserved
loop-number-preserved g c =
    λ bytes e.
    let h = c.loop-number.invariant bytes e in
    let got = c.in_ok-got.ensures in
    let turn = c.in-More.ensures in
    let buf = c.read_full.new.bytes in
    let r = reads 10 c.in_ok-got.got h.rest buf _ _ got.same_length got.count h.left_is got.consumed got.ended in
    let line = rw turn.line at c.in_ok-print-in-More.ensures in
    rw turn.words (gone_next _ _ _ _ _ _ _ (omega arith) h (take c.in_ok-got.got buf) _ r (sym turn.last) _ line)

pub returns-in-Last : goal.returns-in-Last
returns-in-Last g c =
    let got = c.in_ok-got.ensures in
    let turn = c.in-Last.ensures in
    let buf = c.read_full.new.bytes in
    let new = g.W.Write.contents c.print-in-Last.new.output in
    completed c.print-in-Last.result _ (λ bytes. Appends _ new (steps_text most_steps 1 c.args.words bytes))
    (λ bytes e p.
    let h = c.loop-number.invariant bytes e in
    let r = reads 10 c.in_ok-got.got h.rest buf _ _ got.same_length got.count h.left_is got.consumed got.ended in
    let line = rw turn.line at p in
    gone_last _ _ _ _ _ _ _ (omega arith) h (take c.in_ok-got.got buf) _ r (sym turn.last) new line)
    c.print-in-Last.ensures

pub returns : goal.returns
returns g c = known _ λ bytes e. gone_all _ _ _ _ _ _ _ (omega arith) (c.loop-number.invariant bytes e)
