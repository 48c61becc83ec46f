-- `stepped` meets its contract: the five words are the definition's numbers.
use Rattle.std.proofs.Common.{ap, ◌∙◌}
use Rattle.sock.specs.Configuration.{standard}
use Rattle.sock.specs.Calls.{Numbers, step_answer, step_output}
use Rattle.stepping.specs.Answers.{numbers}
use Rattle.handover.proofs.Turning.{numbers_as, told_fits}
use Rattle.handover.proofs.state.stepped.Goals as goal

pub returns-clause-answer : goal.returns-clause-answer
returns-clause-answer c =
    let k = numbers_as c.args.bytes.now c.word.result c.word-2.result c.word-3.result c.word-4.result c.word-5.result c.word.ensures c.word-2.ensures c.word-3.ensures c.word-4.ensures c.word-5.ensures in
    c.step.ensures.0 ∙ ap (λ (n : Numbers). step_answer standard c.args.ws.now n c.args.out.now) k

pub returns-clause-words : goal.returns-clause-words
returns-clause-words c =
    let k = numbers_as c.args.bytes.now c.word.result c.word-2.result c.word-3.result c.word-4.result c.word-5.result c.word.ensures c.word-2.ensures c.word-3.ensures c.word-4.ensures c.word-5.ensures in
    c.step.ensures.1 ∙ ap (λ (n : Numbers). step_output standard c.args.ws.now n c.args.out.now) k

pub returns-clause-fits : goal.returns-clause-fits
returns-clause-fits c =
    let k = numbers c.word.result c.word-2.result c.word-3.result c.word-4.result c.word-5.result in
    told_fits c.args.ws.now k c.args.out.now c.step.result c.step.ensures.0
