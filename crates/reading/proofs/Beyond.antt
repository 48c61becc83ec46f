-- In what is no context, from 12 on, nothing is read, and nothing stands behind the words.
-- Assumes nothing.
use Prim.Native.Nat.{ℕ, zero, suc, ◌+◌, ◌/◌, ◌%◌, ◌≤◌}
use native.Mathlib.Omega.{arith}
use mathlib.Core.Path.{◌≡◌, refl, sym, ◌∙◌}
use mathlib.Core.Bool.{Bool, true, false, cond}
use mathlib.Core.List.{List}
use lib.Bits.{bit_and, and_mask}
use lib.Dec.{ltb, eqb}
use lib.ListN.{length, get_or-eq_default}
use borrow.Author.Tests.{le-ltb, eqb-true, ltb-true, ltb-false}
use Rattle.reading.specs.Walk.{at, when, expr_end, process_end, node_end}
use Rattle.reading.proofs.Combining.{Words}
use Rattle.reading.specs.Tables.{head_mask}
use Rattle.reading.proofs.Surveys.{process_inside}

pub no_context : (x k : ℕ) → 12 ≤ x → 131071 ≡ head_mask x k
unfolding head_mask
no_context x k h = simp (le-ltb x 12 h)

-- a number from 65,536 on has no kind
node_beyond : (ex : ℕ → ℕ) (sub : ℕ → ℕ → ℕ) (ws : List ℕ) (c bound h i : ℕ) → 65536 ≤ h → node_end ex sub ws c bound h i ≡ 0
unfolding node_end
node_beyond ex sub ws c bound h i p = let over : 19 ≤ h / 2048 = omega arith in simp get_or-eq_default

pub read_beyond : (d : ℕ) (ws : List ℕ) (bound c i : ℕ) → 12 ≤ c → 0 ≡ process_end d ws bound c i
unfolding process_end when
read_beyond zero ws bound c i p = refl
read_beyond (suc d) ws bound c i p = rw (← no_context c (at ws i / 2048) p) (by (ltb i (length ws)) (eqb (bit_and (at ws i + 65536) 131071) 0) refl)
  where
    by : (a b : Bool) → eqb (bit_and (at ws i + 65536) 131071) 0 ≡ b → 0 ≡ cond a (cond b (node_end (expr_end d ws) (process_end d ws bound) ws c bound (at ws i) i) 0) 0
    by false b e = refl
    by true false e = refl
    by true true e =
        let clear : (at ws i + 65536) % 131072 ≡ 0 = sym (and_mask (at ws i + 65536) 17) ∙ eqb-true _ _ e in
        let high : 65536 ≤ at ws i = omega arith in
        sym (node_beyond _ _ ws c bound (at ws i) i high)

-- so what is read ends inside the words, whatever the context
pub read_inside : (ws : List ℕ) → Words ws → (d bound c i : ℕ) → process_end d ws bound c i ≤ length ws
read_inside ws ok d bound c i = by (ltb c 12) refl
  where
    by : (b : Bool) → ltb c 12 ≡ b → process_end d ws bound c i ≤ length ws
    by true e = process_inside ws ok d bound c (ltb-true c 12 e) i
    by false e = rw (← read_beyond d ws bound c i (ltb-false c 12 e)) (omega arith)
