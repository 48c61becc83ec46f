-- The mirrored survey, one engine at a time, and where a process that was read ends.
-- Assumes nothing.
use Prim.Native.Nat.{ℕ, suc, ◌+◌, ◌-◌, ◌*◌, ◌/◌, ◌%◌, ◌<◌, ◌≤◌}
use native.Mathlib.Omega.{arith}
use mathlib.Core.Path.{◌≡◌, sym, ◌∙◌}
use mathlib.Core.Bool.{Bool, true, ◌&&◌, cond}
use mathlib.Core.List.{List}
use lib.Dec.{T, leb, ltb, eqb, leb→le}
use lib.ListN.{length, set}
use Rattle.sock.specs.Reading.{Got}
use Rattle.sock.specs.Configuration.{Limits}
use Rattle.sock.proofs.Logic.{and_left, and_right, true_test}
use Rattle.reading.specs.Walk.{at, process_end}
use Rattle.reading.specs.Survey.{no_starts, engines_from, opens}
use Rattle.reading.proofs.Combining.{Words}
use Rattle.reading.proofs.Ending.{Ends, fails, reads}
use Rattle.reading.proofs.Processes.{process_ends}

-- ---- a process ends inside the words, past where it begins

ends_inside : {A : Type 0} {ws : List ℕ} {i e : ℕ} {g : Got A} → Ends ws i g e → e ≤ length ws
ends_inside fails = omega arith
ends_inside (reads p q) = q

pub process_inside : (ws : List ℕ) → Words ws → (d bound c : ℕ) → c < 12 → (i : ℕ) → process_end d ws bound c i ≤ length ws
process_inside ws ok d bound c h i =
    let whole : bound / 65536 * 65536 + bound % 65536 ≡ bound = omega arith in
    rw whole at (ends_inside (process_ends ws ok (bound / 65536) (bound % 65536) (omega arith) d c h i))

-- ---- one turn of the loop

pub engines_turn :
    (sub : ℕ → ℕ) (ws : List ℕ) (n e k i : ℕ) (starts : List ℕ) → e < n →
    engines_from sub ws n (n - e) k i starts
    ≡ cond (ltb (length ws - i) 64) no_starts
    (cond (eqb (sub (i + 64)) 0) no_starts (engines_from sub ws n (n - (e + 1)) (k + 1) (sub (i + 64)) (set starts k (i + 64))))
unfolding engines_from
engines_turn sub ws n e k i starts h = let f : n - e ≡ suc (n - (e + 1)) = omega arith in rw f

pub engines_done :
    (sub : ℕ → ℕ) (ws : List ℕ) (n e k i : ℕ) (starts : List ℕ) → n ≤ e →
    engines_from sub ws n (n - e) k i starts ≡ cond (eqb i (length ws)) (record { engines = n; starts = set starts n (i + 64) }) no_starts
unfolding engines_from
engines_done sub ws n e k i starts h = let f : n - e ≡ 0 = omega arith in rw f

-- ---- the whole

-- what is known of words that begin and end as a configuration may
pub record Opened (limits : Limits) (ws : List ℕ) : Type 0 where
  pub long : 2 ≤ length ws
  pub short : length ws ≤ limits.longest
  pub few : at ws 0 ≤ 8

pub is_open : (limits : Limits) (ws : List ℕ) (b : Bool) → b ≡ opens limits ws → b ≡ true → Opened limits ws
unfolding opens
is_open limits ws b same e =
    let long : Bool = leb 2 (length ws) in
    let short : Bool = leb (length ws) limits.longest in
    let some : Bool = ltb 0 (at ws 0) in
    let t : T (long && short && some && leb (at ws 0) 8) = true_test (sym same ∙ e) in
    let u : T (long && short) = and_left (long && short) some (and_left (long && short && some) (leb (at ws 0) 8) t) in
    record {
      long = leb→le 2 (length ws) (and_left long short u);
      short = leb→le (length ws) limits.longest (and_right long short u);
      few = leb→le (at ws 0) 8 (and_right (long && short && some) (leb (at ws 0) 8) t);
    }
