-- Whether the last engine may leave, on positions, as the code goes. No contract of a call names it.
use Rattle.std.specs.Prelude.{ℕ, zero, suc, ◌+◌, ◌-◌, ◌*◌, Bool, true, false, ◌&&◌, cond, List, ltb, eqb, get_or}
use Rattle.reading.specs.Walk.{at, process_end}

-- of the processes that begin at these starts, the next `left` are read
unfoldable pub all_read : (ℕ → ℕ) → List ℕ → ℕ → ℕ → Bool
all_read sub starts zero e = true
all_read sub starts (suc left) e = cond (eqb (sub (get_or starts e 0)) 0) false (all_read sub starts left (e + 1))

-- the last of n engines has a nil, and the others are read among n - 1
unfoldable pub rests_w : List ℕ → List ℕ → ℕ → Bool
rests_w ws starts n =
    ltb 1 n
    && eqb (at ws (get_or starts (n - 1) 0)) 0
    && all_read (process_end 64 ws ((n - 1) * 65536 + at ws 1) 11) starts (n - 1) 0
