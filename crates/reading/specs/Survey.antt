-- The survey of a configuration on positions, as the code goes: how many engines there are, 0 if the words do not fit, and where each
-- one's process begins; behind the last, where the next would. No contract of a call names it.
use Rattle.std.specs.Prelude.{ℕ, zero, suc, ◌+◌, ◌-◌, ◌*◌, Bool, ◌&&◌, cond, List, leb, ltb, eqb, length, set, replicate}
use Rattle.sock.specs.Configuration.{Limits}
use Rattle.reading.specs.Walk.{at, process_end}

pub record Starts : Type 0 where
  pub engines : ℕ
  pub starts : List ℕ

unfoldable pub no_starts : Starts
no_starts = record { engines = 0; starts = replicate 9 0 }

-- n engines, of which `left` are still to come; e is the next one's number, i where its values begin
unfoldable pub engines_from : (ℕ → ℕ) → List ℕ → ℕ → ℕ → ℕ → ℕ → List ℕ → Starts
engines_from sub ws n zero e i starts = cond (eqb i (length ws)) (record { engines = n; starts = set starts n (i + 64) }) no_starts
engines_from sub ws n (suc left) e i starts =
    cond (ltb (length ws - i) 64) no_starts
    (cond (eqb (sub (i + 64)) 0) no_starts (engines_from sub ws n left (e + 1) (sub (i + 64)) (set starts e (i + 64))))

-- the words begin and end as a configuration may
unfoldable pub opens : Limits → List ℕ → Bool
opens limits ws = leb 2 (length ws) && leb (length ws) limits.longest && ltb 0 (at ws 0) && leb (at ws 0) 8

-- every process in one context
unfoldable pub surveyed : Limits → ℕ → List ℕ → Starts
surveyed limits c ws =
    cond (opens limits ws)
    (engines_from (process_end limits.deepest ws (at ws 0 * 65536 + at ws 1) c) ws (at ws 0) (at ws 0) 0 2 (replicate 9 0))
    no_starts
