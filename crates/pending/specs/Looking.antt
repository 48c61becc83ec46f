-- The search for pending processes on words, as the code goes. The proofs show that it is the definitions' search; no contract of a call names it.
use Rattle.std.specs.Prelude.{ℕ, zero, suc, ◌+◌, Bool, false, ◌||◌, cond, List, ltb, leb, eqb, length, get_or}
use Rattle.sock.specs.Kind
use Rattle.sock.specs.Words.{kind_of, zombie_of}
use Rattle.skipping.specs.Pass.{pass_end, pass_list}
use Rattle.layout.specs.Own.{own_end}
use Rattle.layout.specs.Positions.{onward}
use Rattle.pending.specs.declared.look.Seen.{Seen}

abbrev pub made : ℕ → ℕ → Seen
made end count = record { end = end; count = count }

-- a search of the processes from a position to an end, with so many met before
abbrev pub Search : Type 0
Search = ℕ → ℕ → ℕ → Seen

unfoldable pub scope_w : List ℕ → List ℕ → ℕ → ℕ → ℕ → Seen
scope_w ws notes h i n =
    cond (eqb (zombie_of h) 1) (made (pass_list 64 ws notes i) n)
    (cond (eqb (get_or ws (pass_list 64 ws notes i) 0) 0) (made 0 n) (made (pass_list 64 ws notes i) n))

-- the second of a seq is passed, unless the search has ended
unfoldable pub seq_on : List ℕ → List ℕ → Seen → Seen
seq_on ws notes first = cond (eqb first.end 0) first (made (pass_end 64 ws notes first.end) first.count)

unfoldable pub seq_w : Search → List ℕ → List ℕ → ℕ → ℕ → Seen
seq_w sub ws notes i n = seq_on ws notes (sub i (pass_end 64 ws notes i) n)

-- behind the head of a par, else behind all of it
unfoldable pub behind_w : ℕ → ℕ → ℕ → ℕ
behind_w kind i end = cond (eqb kind Kind.par) (i + 1) end

unfoldable pub kind_w : Search → List ℕ → List ℕ → ℕ → ℕ → ℕ → Seen
kind_w sub ws notes kind i n =
    cond (eqb kind Kind.seq) (seq_w sub ws notes (i + 1) n)
    (cond (eqb kind Kind.scope) (scope_w ws notes (get_or ws i 0) (i + 2) n)
    (cond (eqb kind Kind.inst) (made 0 n)
    (cond (eqb kind Kind.executor) (made (own_end ws i) n)
    (made (behind_w kind i (pass_end 64 ws notes i)) n))))

unfoldable pub turn_w : Search → List ℕ → List ℕ → ℕ → ℕ → Seen
turn_w sub ws notes i n = cond (leb (length ws) i) (made 0 n) (kind_w sub ws notes (kind_of (get_or ws i 0)) i (onward n 1))

-- turn after turn up to the end
unfoldable pub goes_on : (ℕ → ℕ → Seen) → Seen → Seen
goes_on next t = cond (eqb t.end 0) t (next t.end t.count)

unfoldable pub loop_w : ℕ → (ℕ → ℕ → Seen) → ℕ → ℕ → ℕ → Seen
loop_w zero turn end i n = cond (ltb i end) (made 0 n) (made i n)
loop_w (suc turns) turn end i n = cond (ltb i end) (goes_on (loop_w turns turn end) (turn i n)) (made i n)

unfoldable pub look_w : ℕ → List ℕ → List ℕ → Search
look_w zero ws notes i end n = made 0 n
look_w (suc d) ws notes i end n = loop_w (length ws) (turn_w (look_w d ws notes) ws notes) end i n

unfoldable pub pending_w : List ℕ → List ℕ → ℕ → Seen
pending_w ws notes i = look_w 64 ws notes i (pass_end 64 ws notes i) 0

-- ---- the sides that a fault meets

unfoldable pub found_w : List ℕ → List ℕ → ℕ → Bool
found_w ws notes i = eqb (pending_w ws notes i).end 0

-- within the side that has the target, then the other side
unfoldable pub beside_w : (ℕ → Bool) → List ℕ → List ℕ → ℕ → ℕ → Bool
beside_w sub ws notes target i =
    cond (ltb target (pass_end 64 ws notes i)) (sub i || found_w ws notes (pass_end 64 ws notes i))
    (sub (pass_end 64 ws notes i) || found_w ws notes i)

unfoldable pub across_w : (ℕ → Bool) → List ℕ → List ℕ → ℕ → ℕ → ℕ → Bool
across_w sub ws notes target kind i =
    cond (eqb kind Kind.seq) (sub (i + 1))
    (cond (eqb kind Kind.par) (beside_w sub ws notes target (i + 1))
    (cond (eqb kind Kind.scope) (sub (pass_list 64 ws notes (i + 2)))
    (cond (eqb kind Kind.executor) (sub (own_end ws i)) false)))

unfoldable pub sides_w : ℕ → List ℕ → List ℕ → ℕ → ℕ → Bool
sides_w zero ws notes target i = false
sides_w (suc d) ws notes target i =
    cond (leb (length ws) i) false
    (cond (eqb i target) false (across_w (sides_w d ws notes target) ws notes target (kind_of (get_or ws i 0)) i))
