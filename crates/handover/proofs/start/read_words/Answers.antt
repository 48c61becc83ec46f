-- `read_words` meets its contract: its two reads give the bytes that the definition asks for.
use Rattle.std.proofs.Common.{◌≡◌, ◌++◌, Some, rules, arith, length, take, drop, ap, ◌∙◌}
use lib.Seq.{take-append-le}
use Rattle.handover.specs.Printed.{start_words}
use Rattle.handover.proofs.Reading.{known, reads}
use Rattle.handover.proofs.Starting.{read_is, left_is}
use Rattle.handover.proofs.start.read_words.Goals as goal

pub returns : goal.returns
returns g c =
    known _ λ bytes e.
    let got = c.in_ok-got.ensures in
    let have = c.in_ok-have.ensures in
    let wanted = c.size-wanted.result in
    let buf = c.read_full-2.new.bytes in
    let size : length buf ≡ wanted = search rules in
    let first = reads 2 c.in_ok-got.got bytes c.read_full.new.bytes _ _ got.same_length got.count e got.consumed got.ended in
    let second =
    reads wanted c.in_ok-have.have (drop 2 bytes) buf _ _ size (omega (arith, have.count, size, have.same_length)) first.rest have.consumed
    (λ l. have.ended (omega (arith, l, size, have.same_length)))
    in
    let part : take c.in_ok-have.have (buf ++ _) ≡ take c.in_ok-have.have buf = take-append-le c.in_ok-have.have buf _ (omega (arith, have.count, size, have.same_length)) in
    (c.words_in.ensures ∙ ap (start_words _) part ∙ read_is bytes _ wanted first.front c.size-wanted.ensures.bytes _ second.front, second.rest ∙ ap Some (left_is bytes _ wanted first.front c.size-wanted.ensures.bytes))
