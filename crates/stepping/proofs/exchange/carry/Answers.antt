-- `carry` of `stepping::exchange` meets its contract: the code is its mirror in specs/.
use mathlib.Core.Path.{ap, ◌∙◌}
use Rattle.rules.specs.Offering.{standing}
use Rattle.stepping.specs.Answering.{Answered}
use Rattle.stepping.specs.Bundles.{met}
use Rattle.stepping.proofs.Carrying.{next_is, carry_first, carry_second}
use Rattle.stepping.proofs.exchange.carry.Goals as goal

pub returns-then-x : goal.returns-then-x
returns-then-x c =
    let a = c.args in
    let e =
    carry_first _ a.ws.now a.m.now.part.now a.m.now.values.now a.m.now.other.now (standing a.o) (met a.x) a.out.now _ _ _ _ _ _ _ _ _ _ _
    c.word-issued.ensures (next_is c.word-issued.result c.saturating_add-next.result c.word-issued.type_inv c.saturating_add-next.ensures) c.serial_of-serial.ensures c.sender-first.ensures.edited (c.changed-p.ensures.fresh ∙ c.sender-first.ensures.fresh)
    c.receiver-second.ensures.edited (c.changed-q.ensures.fresh ∙ c.receiver-second.ensures.fresh) c.delivers.ensures c.issued_of.ensures c.changed-p.ensures.change c.changed-q.ensures.change
    c.if-x.true in record { answered = c.two.ensures.answered ∙ ap (λ (w : Answered). w.answer) e; written = c.two.ensures.written ∙ ap (λ (w : Answered). w.out) e }

pub returns : goal.returns
returns c =
    let a = c.args in
    let e =
    carry_second _ a.ws.now a.m.now.part.now a.m.now.values.now a.m.now.other.now (standing a.o) (met a.x) a.out.now _ _ _ _ _ _ _ _ _ _ _
    c.word-issued.ensures (next_is c.word-issued.result c.saturating_add-next.result c.word-issued.type_inv c.saturating_add-next.ensures) c.serial_of-serial.ensures c.sender-first.ensures.edited (c.changed-p.ensures.fresh ∙ c.sender-first.ensures.fresh)
    c.receiver-second.ensures.edited (c.changed-q.ensures.fresh ∙ c.receiver-second.ensures.fresh) c.delivers.ensures c.issued_of.ensures c.changed-p.ensures.change c.changed-q.ensures.change
    c.if-x.false in record { answered = c.two-2.ensures.answered ∙ ap (λ (w : Answered). w.answer) e; written = c.two-2.ensures.written ∙ ap (λ (w : Answered). w.out) e }
