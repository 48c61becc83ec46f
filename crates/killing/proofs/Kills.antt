-- Killing on words: one level of it, what just becomes nil, and an executor whose body is killed to nil.
-- Assumes nothing.
use Prim.Native.Nat.{ℕ, zero, suc, ◌-◌, ◌<◌}
use native.Mathlib.Numerals.{sub-one}
use mathlib.Core.Path.{◌≡◌, refl}
use mathlib.Core.Bool.{true, cond}
use mathlib.Core.List.{List}
use lib.Dec.{leb}
use lib.ListN.{length, get_or, set}
use borrow.Author.Tests.{lt-leb, ne_eqb}
use Rattle.sock.specs.Kind
use Rattle.sock.specs.Words.{kind_of, head_of}
use Rattle.layout.specs.Own.{own_end}
use Rattle.layout.specs.Positions.{onward}
use Rattle.killing.specs.Killing.{Walk, vanished, stuck_w, goes, notice_w, executor_on, executor_w, gone_kind, gone_w, kind_w, kill_w}
use Rattle.killing.specs.declared.kill.Moved.{Moved}

pub kill_step :
    (d : ℕ) (ws notes : List ℕ) (fault hole i : ℕ) (out : List ℕ) (to : ℕ) →
    (d ≡ 0 → ⊥) →
    kill_w d ws notes fault hole i out to
    ≡ cond (leb (length ws) i) (stuck_w out) (kind_w d (d - 1) (kill_w (d - 1) ws notes fault hole) ws notes fault hole (kind_of (get_or ws i 0)) i out to)
unfolding kill_w
kill_step zero ws notes fault hole i out to h = absurd (h refl)
kill_step (suc d) ws notes fault hole i out to h = rw (sub-one (suc d))

-- what just becomes nil, by the kind that the code knows
pub gone_at : (ws : List ℕ) (i k : ℕ) → i < length ws → k ≡ kind_of (get_or ws i 0) → gone_kind k ≡ gone_w ws i
unfolding gone_w
gone_at ws i k h e = rw (lt-leb (length ws) i h, ← e)

-- an executor whose body is killed to nil leaves its notice alone; the body stands behind the executor's own words
pub executor_alone :
    (sub : Walk) (ws : List ℕ) (fault i : ℕ) (out : List ℕ) (to one body : ℕ) (start : List ℕ) (p : Moved) (next : List ℕ) (r : Moved) (last : List ℕ)
    (inside : i < length ws) (a : one ≡ onward to 1) (b : start ≡ set out to (head_of Kind.par 0)) (own : body ≡ own_end ws i)
    (c : p ≡ (sub body start one).moved) (d : next ≡ (sub body start one).out) (e : p.end ≡ 0 → ⊥) →
    vanished p one ≡ true →
    r ≡ (notice_w ws fault i p.end next to).moved →
    last ≡ (notice_w ws fault i p.end next to).out →
    record { moved = r; out = last } ≡ executor_w sub ws fault i out to
unfolding executor_w executor_on goes
executor_alone sub ws fault i out to one body start p next r last inside a b own c d e n x y =
    rw (lt-leb (length ws) i inside, ← a, ← b, ← own, ← c, ← d, ne_eqb p.end 0 e, n, x, y)
