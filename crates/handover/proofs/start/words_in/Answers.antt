-- `words_in` meets its contract.
use Rattle.std.proofs.Common.{◌≡◌, ◌*◌, arith, ap, take, ◌∙◌}
use Rattle.bytewise.specs.Held.{held}
use Rattle.handover.specs.Printed.{start_words, count_in}
use Rattle.handover.proofs.Starting.{too_many, some_missing, held_there}
use Rattle.handover.proofs.start.words_in.Goals as goal

pub returns-in_default : goal.returns-in_default
returns-in_default c = c.none.ensures ∙ too_many (count_in c.args.head.now) c.args.bytes.now c.in_default.ensures

pub returns-then-bytes-n : goal.returns-then-bytes-n
returns-then-bytes-n c =
    let bytes = c.args.bytes.now in
    c.none-then-bytes-n.ensures ∙ some_missing c.in-Some.n bytes (omega arith) ∙ ap (λ n. start_words n bytes) c.in-Some.ensures.0

pub returns : goal.returns
returns c =
    let n = c.in-Some.n in
    let bytes = c.args.bytes.now in
    let twice : 2 * n ≡ n * 2 = omega arith in
    c.of.ensures
    ∙ ap (λ k. held 8192 (take k bytes)) twice
    ∙ held_there n bytes c.in-Some.ensures.1 (omega arith)
    ∙ ap (λ n. start_words n bytes) c.in-Some.ensures.0
