-- Writing the result, as the code goes.
use Rattle.std.specs.Prelude.{ℕ, ◌+◌, ◌-◌, ◌*◌, cond, List, ◌++◌, leb, ltb, length, take, drop, set}
use Rattle.sock.specs.Words.{high_word, low_word}
use Rattle.layout.specs.Positions.{onward}
use Rattle.writers.specs.Writing.{pasted, pasted_end}
use Rattle.rules.specs.Editing.{Edit}
use Rattle.rules.specs.Storing.{Store}
use Rattle.stepping.specs.declared.writing.Output.{Output}

-- a place in the output, and the output
pub record Written : Type 0 where
  pub to : ℕ
  pub out : List ℕ

abbrev pub written : ℕ → List ℕ → Written
written to out = record { to = to; out = out }

-- the code's output as that
abbrev pub reached : Output → Written
reached o = written o.to o.words.now

-- the words from..upto of ws behind what is written
unfoldable pub copy_w : List ℕ → ℕ → ℕ → Written → Written
copy_w ws from upto w = written (pasted_end ws from upto w.to) (pasted ws from upto w.out w.to)

unfoldable pub front_w : List ℕ → ℕ → Edit → List ℕ → List ℕ → Written
front_w ws start p fresh out = copy_w ws p.past p.from (copy_w fresh 0 p.listed (copy_w ws start p.list (written 0 out)))

unfoldable pub back_w : List ℕ → ℕ → Edit → List ℕ → List ℕ → ℕ → Written
back_w ws end p fresh out to = copy_w ws p.end end (copy_w ws p.upto p.gap (copy_w fresh p.listed p.fresh (written to out)))

unfoldable pub process_w : List ℕ → ℕ → ℕ → Edit → List ℕ → List ℕ → Written
process_w ws start end p fresh out =
    let w = front_w ws start p fresh out in
    back_w ws end p fresh w.out w.to

unfoldable pub value_w : List ℕ → ℕ → ℕ → ℕ → List ℕ
value_w out to x v =
    cond (leb 32 x) out
    (cond (ltb to 64) out
    (cond (ltb (length out) to) out (set (set out (to - 64 + x * 2) (high_word v)) (to - 64 + x * 2 + 1) (low_word v))))

unfoldable pub store_w : List ℕ → ℕ → Store → List ℕ
store_w out to s =
    cond (leb 32 s.variable) out
    (value_w
    (value_w (value_w (value_w out to s.variable s.value) to s.second.variable s.second.value) to s.third.variable s.third.value)
    to s.fourth.variable s.fourth.value)

-- the process into the part of the output behind a place
unfoldable pub lent_w : List ℕ → ℕ → ℕ → Edit → List ℕ → List ℕ → ℕ → Written
lent_w ws start end p fresh out t =
    let w = process_w ws start end p fresh (take (length out - t) (drop t out)) in
    cond (ltb (length out) t) (written t out) (written (onward t w.to) (take t out ++ (w.out ++ drop (length out - t) (drop t out))))

unfoldable pub engine_w : List ℕ → ℕ → ℕ → ℕ → Edit → List ℕ → List ℕ → ℕ → Written
engine_w ws from start end p fresh out to =
    let w = copy_w ws from start (written to out) in
    lent_w ws start end p fresh (store_w w.out w.to p.store) w.to
