-- Killing on words, as the code goes: where the source ends, where the writing has come to, and the output then. A piece for each kind
-- takes the killing one level down. The proofs show that it is the definitions' killing and climb; no contract of a call names it.
use Rattle.std.specs.Prelude.{ℕ, zero, suc, ◌+◌, ◌-◌, Bool, true, false, cond, List, ltb, leb, eqb, length, get_or, set}
use Rattle.sock.specs.Kind
use Rattle.sock.specs.Words.{kind_of, zombie_of, head_of}
use Rattle.sock.specs.Running.{unmarked, own_name, mark_number}
use Rattle.skipping.specs.Pass.{pass_end, pass_list}
use Rattle.layout.specs.Killed.{zombie_head, notice_head, notice_word, waiter_word}
use Rattle.layout.specs.Own.{own_end}
use Rattle.layout.specs.Positions.{onward}
use Rattle.writers.specs.Writing.{pasted, pasted_end, lowered}
use Rattle.killing.specs.declared.kill.Moved.{Moved}

-- what killing gives: the code's answer, and the output afterwards
pub record Killed : Type 0 where
  pub moved : Moved
  pub out : List ℕ

-- killing at a position, into an output from a place on
abbrev pub Walk : Type 0
Walk = ℕ → List ℕ → ℕ → Killed

abbrev at : List ℕ → ℕ → ℕ
at ws i = get_or ws i 0

abbrev pub stopped : Moved
stopped = record { end = 0; to = 0 }

-- something can't be killed
abbrev pub stuck_w : List ℕ → Killed
stuck_w out = record { moved = stopped; out = out }

abbrev pub made : ℕ → ℕ → List ℕ → Killed
made end to out = record { moved = record { end = end; to = to }; out = out }

-- only nil was written from a place on
abbrev pub vanished : Moved → ℕ → Bool
vanished p from = eqb p.to (onward from 1)

-- on to what follows, unless it can't be killed
unfoldable pub goes : Killed → Killed → Killed
goes k next = cond (eqb k.moved.end 0) (stuck_w k.out) next

-- ---- words that change

-- a scope's head as a zombie's, with mark 2 and with mark 0
abbrev pub own_zombie : ℕ → ℕ
own_zombie h = zombie_head h (mark_number own_name)

abbrev pub plain_zombie : ℕ → ℕ
plain_zombie h = zombie_head h (mark_number unmarked)

-- a waiter's first word with the bit dead
abbrev pub dead_word : ℕ → ℕ
dead_word w = waiter_word 1 w

-- ---- those without parts that are killed

unfoldable pub waiter_w : ℕ → List ℕ → List ℕ → Walk
waiter_w d ws notes i out to =
    cond (leb (length ws) i) (stuck_w out)
    (cond (ltb (length ws - i) 2) (stuck_w out)
    (cond (eqb (pass_end d ws notes i) 0) (stuck_w out)
    (made (pass_end d ws notes i) (pasted_end ws i (pass_end d ws notes i) to)
    (set (pasted ws i (pass_end d ws notes i) out to) (onward to 1) (dead_word (at ws (i + 1)))))))

unfoldable pub kept_w : List ℕ → Walk
kept_w ws i out to = cond (leb (length ws) i) (stuck_w out) (made (i + 3) (pasted_end ws i (i + 3) to) (pasted ws i (i + 3) out to))

unfoldable pub vanished_w : ℕ → List ℕ → List ℕ → Walk
vanished_w d ws notes i out to = made (pass_end d ws notes i) (onward to 1) (set out to 0)

-- ---- seq and par

unfoldable pub seq_on : ℕ → List ℕ → List ℕ → Killed → Killed
seq_on d ws notes k = goes k (made (pass_end d ws notes k.moved.end) k.moved.to k.out)

unfoldable pub seq_w : ℕ → Walk → List ℕ → List ℕ → Walk
seq_w d sub ws notes i out to = seq_on d ws notes (sub i out to)

-- whether what is of a kind, or stands at a position, just becomes nil
unfoldable pub gone_kind : ℕ → Bool
gone_kind kind =
    cond (eqb kind Kind.seq) false
    (cond (eqb kind Kind.par) false
    (cond (eqb kind Kind.scope) false
    (cond (eqb kind Kind.inst) false
    (cond (eqb kind Kind.executor) false
    (cond (eqb kind Kind.waiter) false
    (cond (eqb kind Kind.notice) false true))))))

unfoldable pub gone_w : List ℕ → ℕ → Bool
gone_w ws i = cond (leb (length ws) i) false (gone_kind (kind_of (at ws i)))

-- the right side is killed too; the left stands at one..to
unfoldable pub right_on : ℕ → ℕ → Killed → Killed
right_on one to k =
    goes k
    (cond (vanished k.moved to)
    (made k.moved.end (to - 1) (lowered k.out one to))
    k)

unfoldable pub right_w : ℕ → Walk → List ℕ → List ℕ → ℕ → List ℕ → ℕ → ℕ → Killed
right_w d sub ws notes i out one to =
    cond (gone_w ws i) (made (pass_end d ws notes i) (to - 1) (lowered out one to)) (right_on one to (sub i out to))

-- the left side is killed
unfoldable pub left_on : ℕ → Walk → List ℕ → List ℕ → ℕ → ℕ → Killed → Killed
left_on d sub ws notes one to k =
    goes k
    (cond (vanished k.moved one)
    (sub k.moved.end k.out to)
    (right_w d sub ws notes k.moved.end k.out one k.moved.to))

unfoldable pub par_w : ℕ → Walk → List ℕ → List ℕ → Walk
par_w d sub ws notes i out to =
    cond (gone_w ws i) (sub (pass_end d ws notes i) out to) (left_on d sub ws notes (onward to 1) to (sub i (set out to (head_of Kind.par 0)) (onward to 1)))

-- ---- scope

unfoldable pub head_for : List ℕ → ℕ → ℕ → ℕ → ℕ
head_for ws i hole end =
    cond (leb (length ws) i) 0
    (cond (leb hole i) (own_zombie (at ws i))
    (cond (leb end hole) (own_zombie (at ws i)) (plain_zombie (at ws i))))

-- the body of a zombie, and of a live scope, is killed
unfoldable pub zombie_on : List ℕ → ℕ → ℕ → Killed → Killed
zombie_on ws i to k = goes k (made k.moved.end (pasted_end ws i k.moved.end to) (pasted ws i k.moved.end k.out to))

unfoldable pub zombie_w : Walk → List ℕ → ℕ → ℕ → List ℕ → ℕ → Killed
zombie_w sub ws i body out to = zombie_on ws i to (sub body out to)

unfoldable pub live_on : List ℕ → ℕ → ℕ → ℕ → Killed → Killed
live_on ws hole i to k =
    goes k (made k.moved.end k.moved.to (set (set k.out to (head_for ws i hole k.moved.end)) (onward to 1) 0))

unfoldable pub live_w : Walk → List ℕ → ℕ → ℕ → ℕ → List ℕ → ℕ → Killed
live_w sub ws hole i body out to = live_on ws hole i to (sub body (pasted ws i body out to) (pasted_end ws i body to))

-- the words i..end of a list, of an empty one the count, and the place behind them
unfoldable pub list_w : List ℕ → ℕ → ℕ → List ℕ → ℕ → List ℕ
list_w ws i end out to = cond (leb (length ws) i) out (cond (eqb end (i + 1)) (set out to 0) (pasted ws i end out to))

unfoldable pub list_end_w : List ℕ → ℕ → ℕ → ℕ → ℕ
list_end_w ws i end to = cond (leb (length ws) i) to (cond (eqb end (i + 1)) (onward to 1) (pasted_end ws i end to))

-- a live scope's words before its list
unfoldable pub begun_w : List ℕ → ℕ → ℕ → ℕ → List ℕ → ℕ → List ℕ
begun_w ws hole i end out to = set (set out to (head_for ws i hole end)) (onward to 1) 0

-- a live scope whose body just becomes nil, and ends at `end`
unfoldable pub turned_on : List ℕ → ℕ → ℕ → ℕ → ℕ → List ℕ → ℕ → Killed
turned_on ws hole i body end out to =
    let two = onward (onward to 1) 1 in
    let behind = list_end_w ws (i + 2) body two in
    made end (onward behind 1) (set (list_w ws (i + 2) body (begun_w ws hole i end out to) two) behind 0)

unfoldable pub turned_w : ℕ → List ℕ → List ℕ → ℕ → ℕ → ℕ → List ℕ → ℕ → Killed
turned_w d ws notes hole i body out to =
    cond (leb (length ws) i) (stuck_w out) (turned_on ws hole i body (pass_end d ws notes body) out to)

unfoldable pub scope_at : ℕ → Walk → List ℕ → List ℕ → ℕ → ℕ → ℕ → List ℕ → ℕ → Killed
scope_at d sub ws notes hole i body out to =
    cond (eqb body 0) (stuck_w out)
    (cond (leb (length ws) body) (stuck_w out)
    (cond (eqb (zombie_of (at ws i)) 1) (zombie_w sub ws i body out to)
    (cond (eqb (at ws body) 0) (stuck_w out)
    (cond (gone_w ws body) (turned_w d ws notes hole i body out to) (live_w sub ws hole i body out to)))))

unfoldable pub scope_w : ℕ → Walk → List ℕ → List ℕ → ℕ → Walk
scope_w d sub ws notes hole i out to =
    cond (leb (length ws) i) (stuck_w out) (scope_at d sub ws notes hole i (pass_list d ws notes (i + 2)) out to)

-- ---- executor

unfoldable pub notice_w : List ℕ → ℕ → ℕ → ℕ → List ℕ → ℕ → Killed
notice_w ws fault i end out to =
    cond (leb (length ws) i) (stuck_w out)
    (cond (ltb (length ws - i) 3) (stuck_w out)
    (made end (onward (onward (onward to 1) 1) 1)
    (set (set (set out to (notice_head (at ws i))) (onward to 1) (notice_word fault (at ws (i + 1)))) (onward (onward to 1) 1) (at ws (i + 2)))))

-- the body is killed
unfoldable pub executor_on : List ℕ → ℕ → ℕ → ℕ → Killed → Killed
executor_on ws fault i to k =
    goes k (cond (vanished k.moved (onward to 1)) (notice_w ws fault i k.moved.end k.out to) (notice_w ws fault i k.moved.end k.out k.moved.to))

unfoldable pub executor_w : Walk → List ℕ → ℕ → Walk
executor_w sub ws fault i out to =
    cond (leb (length ws) i) (stuck_w out) (executor_on ws fault i to (sub (own_end ws i) (set out to (head_of Kind.par 0)) (onward to 1)))

-- ---- by kind

-- `d` levels, `sub` one less
unfoldable pub kind_w : ℕ → ℕ → Walk → List ℕ → List ℕ → ℕ → ℕ → ℕ → Walk
kind_w d below sub ws notes fault hole kind i out to =
    cond (eqb kind Kind.seq) (seq_w below sub ws notes (i + 1) out to)
    (cond (eqb kind Kind.par) (par_w below sub ws notes (i + 1) out to)
    (cond (eqb kind Kind.scope) (scope_w below sub ws notes hole i out to)
    (cond (eqb kind Kind.inst) (stuck_w out)
    (cond (eqb kind Kind.executor) (executor_w sub ws fault i out to)
    (cond (eqb kind Kind.waiter) (waiter_w d ws notes i out to)
    (cond (eqb kind Kind.notice) (kept_w ws i out to) (vanished_w d ws notes i out to)))))))

unfoldable pub kill_w : ℕ → List ℕ → List ℕ → ℕ → ℕ → Walk
kill_w zero ws notes fault hole i out to = stuck_w out
kill_w (suc d) ws notes fault hole i out to =
    cond (leb (length ws) i) (stuck_w out) (kind_w (suc d) d (kill_w d ws notes fault hole) ws notes fault hole (kind_of (at ws i)) i out to)
