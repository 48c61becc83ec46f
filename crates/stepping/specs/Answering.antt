-- The answer of a step and the result written, as the code goes.
use Rattle.std.specs.Prelude.{ℕ, ◌-◌, ◌%◌, cond, List, ltb, eqb, length, set}
use Rattle.sock.specs.Words.{bit}
use Rattle.sock.specs.Calls.{Answer}
use Rattle.layout.specs.Positions.{onward}
use Rattle.rules.specs.Editing.{Edit}
use Rattle.layout.specs.declared.limit.Limits.{Limits}
use Rattle.layout.specs.Kinds.{number_of}
use Rattle.rules.specs.Editing.{made}
use Rattle.stepping.specs.declared.bundles.Change as code
use Rattle.stepping.specs.declared.answer.Told as given
use Rattle.stepping.specs.Writing.{Written, copy_w, engine_w}
use Rattle.stepping.specs.Serials.{serial_in}

-- an answer, and the output afterwards
pub record Answered : Type 0 where
  pub answer : Answer
  pub out : List ℕ

abbrev pub answered : Answer → List ℕ → Answered
answered a out = record { answer = a; out = out }

abbrev pub refusing : ℕ → Answer
refusing n = record { number = n; kind = 0; serial = 0; fault = 0; length = 0 }

abbrev pub accepting : ℕ → ℕ → ℕ → ℕ → Answer
accepting kind serial fault length = record { number = 0; kind = kind; serial = serial; fault = fault; length = length }

unfoldable pub sized_w : Limits → ℕ → Edit → ℕ
sized_w limits words p = cond (ltb limits.longest p.fresh) (onward limits.longest 1) (onward words p.fresh - (p.past - p.list) - (p.upto - p.from) - (p.end - p.gap))

unfoldable pub write_one_w : List ℕ → ℕ → ℕ → Edit → List ℕ → List ℕ → Written
write_one_w ws start end p fresh out = copy_w ws end (length ws) (engine_w ws 0 start end p fresh out 0)

unfoldable pub length_of : Limits → ℕ → ℕ → ℕ
length_of limits length room = cond (ltb limits.longest length) 9 (cond (ltb room length) 10 0)

unfoldable pub one_w : Limits → List ℕ → ℕ → ℕ → Edit → ℕ → List ℕ → List ℕ → Answered
one_w limits ws start end p kind fresh out =
    let size = sized_w limits (length ws) p in
    cond (eqb p.number 0)
    (cond (eqb (length_of limits size (length out)) 0)
    (answered (accepting kind 0 0 (size % 65536)) (write_one_w ws start end p fresh out).out)
    (answered (refusing (length_of limits size (length out))) out))
    (answered (refusing p.number) out)

-- a process start..end, and the edit of it
pub record Change : Type 0 where
  pub start : ℕ
  pub end : ℕ
  pub edit : Edit

-- the code's as that
abbrev pub changing : code.Change → Change
changing p = record { start = p.start; end = p.end; edit = made p.edit }

abbrev pub changed : ℕ → ℕ → Edit → Change
changed start end p = record { start = start; end = end; edit = p }

-- what an exchange answers, and the serials issued after it
pub record Told : Type 0 where
  pub kind : ℕ
  pub serial : ℕ
  pub fault : ℕ
  pub issued : ℕ

abbrev pub telling : given.Told → Told
telling t = record { kind = number_of t.kind; serial = serial_in t.serial; fault = bit t.fault; issued = t.issued }

unfoldable pub write_two_w : List ℕ → Change → List ℕ → Change → List ℕ → ℕ → List ℕ → List ℕ
write_two_w ws p fresh q fresh2 issued out =
    let w = engine_w ws 0 p.start p.end p.edit fresh out 0 in
    set (copy_w ws q.end (length ws) (engine_w ws p.end q.start q.end q.edit fresh2 w.out w.to)).out 1 issued

unfoldable pub two_w : Limits → List ℕ → Change → List ℕ → Change → List ℕ → Told → List ℕ → Answered
two_w limits ws p fresh q fresh2 told out =
    let size = sized_w limits (sized_w limits (length ws) p.edit) q.edit in
    cond (eqb (length_of limits size (length out)) 0)
    (answered (accepting told.kind told.serial told.fault (size % 65536)) (write_two_w ws p fresh q fresh2 told.issued out))
    (answered (refusing (length_of limits size (length out))) out)
