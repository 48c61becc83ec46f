-- What the search tells from words and notes alone, before it looks for a process. No contract of a call names it.
use Rattle.std.specs.Prelude.{ℕ, ◌-◌, Bool, true, false, cond, List, leb, ltb, eqb, length}
use Rattle.sock.specs.Kind
use Rattle.sock.specs.Words.{first_variable, executors_client, notices_client}
use Rattle.skipping.specs.Pass.{note_at}
use Rattle.layout.specs.Positions.{onward}
use Rattle.evaluating.specs.Evaluating.{value_in}
use Rattle.rules.specs.Rewriting.{at}
use Rattle.stepping.specs.Exchanging.{lent}

-- a process of this kind may move: 1, 4, 5, 9 to 14, 16, 18
unfoldable pub acts_w : ℕ → Bool
acts_w kind =
    cond (ltb kind Kind.notify)
    (cond (eqb kind Kind.assign) true (cond (eqb kind Kind.if) true (eqb kind Kind.while)))
    (cond (ltb kind Kind.cH) true (cond (eqb kind Kind.executor) true (eqb kind Kind.notice)))

-- one of this kind may receive: 6 to 8, 17
unfoldable pub hears_w : ℕ → Bool
hears_w kind = cond (eqb kind Kind.waiter) true (cond (ltb kind Kind.choice) false (ltb kind Kind.notify))

-- a place is behind the process that begins at a start, whose end is noted
unfoldable pub behind_w : List ℕ → ℕ → ℕ → Bool
behind_w notes start i = cond (eqb (note_at notes start) 0) false (cond (leb i start) false (leb (note_at notes start) i))

-- the sender at a place of the engine whose process begins at a start may name the engine e: by its client, or by z
unfoldable pub meant_w : List ℕ → ℕ → ℕ → ℕ → ℕ → Bool
meant_w ws start i kind e =
    let w = at ws (onward i 1) in
    cond (eqb kind Kind.executor) (eqb (executors_client w) e)
    (cond (eqb kind Kind.notice) (eqb (notices_client w) e)
    (cond (ltb start 64) true
    (cond (ltb (length ws) start) true (eqb (value_in (lent (start - 64) start ws) (first_variable w)) e))))
