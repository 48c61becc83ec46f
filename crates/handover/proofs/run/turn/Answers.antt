-- `turn` meets its contract.
use Rattle.std.proofs.Common.{◌≡◌, sym, ap, ◌∙◌}
use Rattle.sock.specs.Bytes.{numbers_in}
use Rattle.handover.proofs.Turning.{last_words, last_text, step_words, step_text}
use Rattle.handover.proofs.Whole.{ten_numbers}
use Rattle.handover.proofs.run.turn.Goals as goal

pub returns-in-Some-clause-line : goal.returns-in-Some-clause-line
returns-in-Some-clause-line c =
    let front = c.in-Some.ensures.cases in
    let k : numbers_in c.in-Some.step.now ≡ numbers_in c.args.bytes.now = ap numbers_in front.same ∙ ten_numbers c.args.bytes.now in
    rw (step_text c.args.words.now c.args.bytes.now front.enough c.args.number, ← k, ← c.advance-given.ensures.answer) c.step_line.ensures

pub returns-in-Some-clause-words : goal.returns-in-Some-clause-words
returns-in-Some-clause-words c =
    let front = c.in-Some.ensures.cases in
    let k : numbers_in c.in-Some.step.now ≡ numbers_in c.args.bytes.now = ap numbers_in front.same ∙ ten_numbers c.args.bytes.now in
    rw (step_words c.args.words.now c.args.bytes.now front.enough, ← k) c.advance-given.ensures.words

pub returns-in-None-clause-line : goal.returns-in-None-clause-line
returns-in-None-clause-line c =
    let line = rw c.as_slice.ensures at c.last_line.ensures in line ∙ sym (last_text c.args.words.now c.args.bytes.now c.in-None.ensures.cases c.args.number)

pub returns-in-None-clause-words : goal.returns-in-None-clause-words
returns-in-None-clause-words c = sym (last_words c.args.words.now c.args.bytes.now c.in-None.ensures.cases)
