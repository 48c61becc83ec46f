-- A step between two different engines, as the code goes.
use Rattle.std.specs.Prelude.{ℕ, ◌+◌, ◌-◌, Bool, false, cond, List, ltb, eqb, length, replicate, take, drop}
use Rattle.sock.specs.Kind
use Rattle.rules.specs.Editing.{Edit}
use Rattle.rules.specs.Rewriting.{at}
use Rattle.rules.specs.Offering.{Offer, offer_w}
use Rattle.rules.specs.Editing.{Edited, plain_w}
use Rattle.layout.specs.declared.limit.Limits.{Limits}
use Rattle.stepping.specs.Bundles.{Encounter}
use Rattle.stepping.specs.Answering.{Answered, Told, answered, refusing, changed, two_w}
use Rattle.stepping.specs.Meeting.{fit_w, serial_w, send_w, receive_w}

unfoldable pub sender_w : List ℕ → Encounter → ℕ → List ℕ → Edited
sender_w ws x serial fresh =
    let t = send_w ws x.kind x.second serial fresh in
    plain_w x.sender.site x.sender.start t.rewriting t.fresh

unfoldable pub receiver_w : List ℕ → List ℕ → List ℕ → Offer → Encounter → ℕ → List ℕ → Edited
receiver_w ws vs other o x serial fresh =
    let t = receive_w ws vs other o x.kind x.engine serial fresh in
    plain_w x.receiver.site x.receiver.start t.rewriting t.fresh

-- the two edits in the order of the engines
unfoldable pub ordered_w : Limits → List ℕ → Encounter → Edit → List ℕ → Edit → List ℕ → Told → List ℕ → Answered
ordered_w limits ws x p fresh q fresh2 told out =
    let one = changed x.sender.start x.sender.end p in
    let other = changed x.receiver.start x.receiver.end q in
    cond (ltb x.engine x.second) (two_w limits ws one fresh other fresh2 told out) (two_w limits ws other fresh2 one fresh told out)

unfoldable pub next_of : ℕ → ℕ
next_of issued = cond (eqb issued 65535) issued (issued + 1)

unfoldable pub issued_of : ℕ → ℕ → ℕ → ℕ
issued_of kind issued next = cond (eqb kind Kind.solicit) next issued

unfoldable pub fault_of : ℕ → ℕ
fault_of kind = cond (eqb kind Kind.notice) 1 0

-- scratch: no process that sends or receives turns into more than a few words that are new
abbrev pub blank : List ℕ
blank = replicate 64 0

unfoldable pub carry_w : Limits → List ℕ → List ℕ → List ℕ → List ℕ → Offer → Encounter → List ℕ → Answered
carry_w limits ws part vs other o x out =
    let next = next_of (at ws 1) in
    let serial = serial_w part x.kind next in
    let p = sender_w part x serial blank in
    let q = receiver_w part vs other o x serial blank in
    ordered_w limits ws x p.edit p.fresh q.edit q.fresh
    (record { kind = x.kind; serial = serial; fault = fault_of x.kind; issued = issued_of x.kind (at ws 1) next }) out

unfoldable pub spent_w : List ℕ → ℕ → Bool
spent_w ws kind = cond (eqb kind Kind.solicit) (eqb (at ws 1) 65535) false

unfoldable pub meet_w : Limits → List ℕ → List ℕ → List ℕ → List ℕ → Encounter → List ℕ → Answered
meet_w limits ws part vs other x out =
    let o = offer_w other x.branch in
    cond (fit_w part vs other o x.kind x.branch x.engine x.second)
    (cond (spent_w ws x.kind) (answered (refusing 7) out) (carry_w limits ws part vs other o x out))
    (answered (refusing 5) out)

-- the words from..upto lent
abbrev pub lent : ℕ → ℕ → List ℕ → List ℕ
lent from upto ws = take (upto - from) (drop from ws)

unfoldable pub between_w : Limits → List ℕ → Encounter → List ℕ → Answered
between_w limits ws x out =
    let start = x.sender.start in
    let at = x.sender.site.at in
    let to = x.receiver.site.at in
    cond (eqb x.engine x.second) (answered (refusing 5) out)
    (cond (ltb start 64) (answered (refusing 5) out)
    (cond (ltb (length ws) start) (answered (refusing 5) out)
    (cond (ltb (length ws) at) (answered (refusing 5) out)
    (cond (ltb (length ws) to) (answered (refusing 5) out)
    (meet_w limits ws (lent at (length ws) ws) (lent (start - 64) start ws) (lent to (length ws) ws) x out)))))
