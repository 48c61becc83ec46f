-- The mirrored count of ends: one level of it, and that it counts no more ends than the words it passes.
-- Assumes nothing.
use Prim.Native.Nat.{ℕ, zero, suc, ◌+◌, ◌-◌, ◌*◌, ◌/◌, ◌%◌, ◌<◌, ◌≤◌}
use native.Mathlib.Omega.{arith}
use native.Mathlib.Numerals.{sub-one}
use mathlib.Core.Path.{◌≡◌, refl, ◌∙◌}
use mathlib.Core.Bool.{Bool, true, false, cond}
use mathlib.Core.List.{List}
use lib.Dec.{T, ltb, eqb, lit<}
use lib.ListN.{length, get_or, take}
use Rattle.std.proofs.lemmas.List.{get_or-take, length-take}
use borrow.Author.Tests.{lt-ltb, ne_eqb}
use Rattle.std.specs.Prelude.{Option, Some, None}
use Rattle.sock.specs.Reading.{Got}
use Rattle.sock.proofs.Fields.{bit_below}
use Rattle.sock.proofs.Logic.{cond-case}
use Rattle.reading.specs.declared.ends.Counted.{Counted}
use Rattle.reading.specs.Walk.{end_as, when, at, list_end, end_after, executor_own, process_end}
use Rattle.reading.specs.Tally.{counted, after, waiters_in, workers_in, serial_at, seq_tally, par_tally, scope_tally, executor_tally, node_tally, tally_at, total_from}
use Rattle.reading.proofs.Combining.{Words}
use Rattle.reading.proofs.Given.{some_end}
use Rattle.reading.proofs.Ending.{Ends, fails, reads}
use Rattle.reading.proofs.Processes.{process_ends, list_ends}
use Rattle.reading.proofs.Variables.{list_test, list_when, list_some, list_inside}

-- ---- one level

pub tally_step :
    (d : ℕ) (ws : List ℕ) (serial bound i : ℕ) → (d ≡ 0 → ⊥) →
    tally_at d ws serial bound i
    ≡ cond (ltb i (length ws))
    (node_tally (tally_at (d - 1) ws serial bound) (process_end (d - 1) ws bound) (process_end d ws bound 8) ws serial bound (at ws i / 2048) i)
    None
unfolding tally_at
tally_step zero ws serial bound i h = absurd (h refl)
tally_step (suc d) ws serial bound i h = rw (sub-one (suc d))

-- what the code knows where it looks at the kind
pub tally_node :
    (d : ℕ) (ws : List ℕ) (serial bound i w : ℕ) →
    (d ≡ 0 → ⊥) →
    i < length ws →
    w ≡ at ws i →
    tally_at d ws serial bound i
    ≡ node_tally (tally_at (d - 1) ws serial bound) (process_end (d - 1) ws bound) (process_end d ws bound 8) ws serial bound (w / 2048) i
tally_node d ws serial bound i w p q r = tally_step d ws serial bound i p ∙ simp (← r, lt-ltb i (length ws) q)

-- ---- ends inside the words, past where it begins

pub data Forward (ws : List ℕ) (i : ℕ) : ℕ → Type 0 where
  stops : Forward ws i 0
  goes : {e : ℕ} → i < e → e ≤ length ws → Forward ws i e

ends_forward : {A : Type 0} {ws : List ℕ} {i e : ℕ} {g : Got A} → Ends ws i g e → Forward ws i e
ends_forward fails = stops
ends_forward (reads p q) = goes p q

forward_when : {ws : List ℕ} {i e : ℕ} (b : Bool) → (T b → Forward ws i e) → Forward ws i (when b e)
unfolding when
forward_when true f = f tt
forward_when false f = stops

-- the body of an executor begins behind its own words
pub own_forward : (ws : List ℕ) (bound i : ℕ) → Forward ws (i + 3) (executor_own ws bound i)
unfolding executor_own
own_forward ws bound i =
    forward_when (ltb i (length ws)) λ t.
    forward_when (end_after ws i 8192 bound) λ u.
    rw (list_when ws (i + 3))
    (forward_when (list_test ws (i + 3)) λ v.
    let some = list_some ws (i + 3) v in
    let within = list_inside ws (i + 3) v in
    goes {e = i + 3 + at ws (i + 3)} (omega arith) (omega arith))

module _ (ws : List ℕ) (ok : Words ws) (d bound : ℕ) where
  whole : bound / 65536 * 65536 + bound % 65536 ≡ bound
  whole = omega arith

  process_forward : (c : ℕ) → c < 12 → (i : ℕ) → Forward ws i (process_end d ws bound c i)
  process_forward c h i = rw whole at (ends_forward (process_ends ws ok (bound / 65536) (bound % 65536) (omega arith) d c h i))

  list_forward : (i : ℕ) → Forward ws i (list_end (process_end d ws bound) ws 0 128 i)
  list_forward i = ends_forward (list_ends ws ok bound d true i)

-- ---- no more ends than words

pub data Bounded (ws : List ℕ) (i : ℕ) : Option Counted → Type 0 where
  no_count : Bounded ws i None
  a_count : {e w k : ℕ} → i < e → e ≤ length ws → w + k ≤ e - i → Bounded ws i (Some (record { end = e; waiters = w; workers = k }))

counted_bounded : {ws : List ℕ} (i j e w k : ℕ) → i ≤ j → w + k ≤ j - i + 1 → Forward ws j e → Bounded ws i (counted e w k)
unfolding counted
counted_bounded i j e w k h b stops = no_count
counted_bounded i j e w k h b (goes p q) = rw (ne_eqb e 0 (omega arith)) (a_count {e = e} {w = w} {k = k} (omega arith) q (omega arith))

serial_below : (ws : List ℕ) (i serial : ℕ) → serial_at ws i serial < 2
unfolding serial_at
serial_below ws i serial = search bit_below

later : {ws : List ℕ} {i j : ℕ} {t : Option Counted} → i ≤ j → Bounded ws j t → Bounded ws i t
later h no_count = no_count
later h (a_count {e} {w} {k} p q b) = a_count {e = e} {w = w} {k = k} (omega arith) q (omega arith)

module _ (ws : List ℕ) (i : ℕ) where
  seq_bounded :
      (sub : ℕ → ℕ → ℕ) (t : Option Counted) → ((e : ℕ) → Forward ws e (sub 0 e)) → Bounded ws (i + 1) t →
      Bounded ws i (after t λ p. counted (sub 0 p.end) p.waiters p.workers)
  unfolding after
  seq_bounded sub t f no_count = no_count
  seq_bounded sub t f (a_count {e} {w} {k} p q b) = counted_bounded i e (sub 0 e) w k (omega arith) (omega arith) (f e)

  added_bounded :
      (e w k : ℕ) (t : Option Counted) → i < e → w + k ≤ e - (i + 1) → Bounded ws e t →
      Bounded ws i (after t λ q. Some (record { end = q.end; waiters = w + q.waiters; workers = k + q.workers }))
  unfolding after
  added_bounded e w k t h b no_count = no_count
  added_bounded e w k t h b (a_count {e = e'} {w = w'} {k = k'} p q b') =
      a_count {e = e'} {w = w + w'} {k = k + k'} (omega arith) q (omega arith)

  par_bounded :
      (tal : ℕ → Option Counted) (t : Option Counted) → ((e : ℕ) → Bounded ws e (tal e)) → Bounded ws (i + 1) t →
      Bounded ws i (after t λ p. after (tal p.end) λ q. Some (record { end = q.end; waiters = p.waiters + q.waiters; workers = p.workers + q.workers }))
  unfolding after
  par_bounded tal t f no_count = no_count
  par_bounded tal t f (a_count {e} {w} {k} p q b) = added_bounded e w k (tal e) (omega arith) b (f e)

  scope_bounded : (tal : ℕ → Option Counted) (e : ℕ) → ((e : ℕ) → Bounded ws e (tal e)) → Forward ws (i + 2) e → Bounded ws i (cond (eqb e 0) None (tal e))
  scope_bounded tal e f stops = no_count
  scope_bounded tal e f (goes p q) = rw (ne_eqb e 0 (omega arith)) (later {j = e} (omega arith) (f e))

  one_more_bounded : (b : ℕ) (t : Option Counted) → b < 2 → Bounded ws (i + 3) t → Bounded ws i (after t λ p. Some (record { end = p.end; waiters = p.waiters; workers = p.workers + b }))
  unfolding after
  one_more_bounded b t h no_count = no_count
  one_more_bounded b t h (a_count {e} {w} {k} p q c) = a_count {e = e} {w = w} {k = k + b} (omega arith) q (omega arith)

  executor_bounded :
      (tal : ℕ → Option Counted) (b e : ℕ) → b < 2 → ((e : ℕ) → Bounded ws e (tal e)) → Forward ws (i + 3) e →
      Bounded ws i (cond (eqb e 0) None (after (tal e) λ p. Some (record { end = p.end; waiters = p.waiters; workers = p.workers + b })))
  executor_bounded tal b e h t stops = no_count
  executor_bounded tal b e h t (goes p q) = rw (ne_eqb e 0 (omega arith)) (one_more_bounded b (tal e) h (later {j = e} (omega arith) (t e)))

  node_bounded :
      (tal : ℕ → Option Counted) (sub : ℕ → ℕ → ℕ) (skip : ℕ → ℕ) (serial bound k : ℕ) →
      ((e : ℕ) → Bounded ws e (tal e)) →
      ((e : ℕ) → Forward ws e (sub 0 e)) →
      ((e : ℕ) → Forward ws e (list_end sub ws 0 128 e)) →
      Forward ws i (skip i) →
      Bounded ws i (node_tally tal sub skip ws serial bound k i)
  unfolding node_tally seq_tally par_tally scope_tally executor_tally
  node_bounded tal sub skip serial bound k t f l s =
      let P : Option Counted → Type 0 = Bounded ws i in
      let b = serial_below ws i serial in
      cond-case P (eqb k 2) (λ z. seq_bounded sub (tal (i + 1)) f (t (i + 1))) λ z.
      cond-case P (eqb k 3) (λ z. par_bounded tal (tal (i + 1)) t (t (i + 1))) λ z.
      cond-case P (eqb k 11) (λ z. scope_bounded tal (list_end sub ws 0 128 (i + 2)) t (l (i + 2))) λ z.
      cond-case P (eqb k 16) (λ z. executor_bounded tal (serial_at ws i serial) (executor_own ws bound i) b t (own_forward ws bound i)) λ z.
      cond-case P (eqb k 17) (λ z. counted_bounded i i (skip i) (serial_at ws i serial) 0 (omega arith) (omega arith) s) λ z.
      cond-case P (eqb k 18) (λ z. counted_bounded i i (skip i) 0 (serial_at ws i serial) (omega arith) (omega arith) s) λ z.
      counted_bounded i i (skip i) 0 0 (omega arith) (omega arith) s

pub tally_bounded : (ws : List ℕ) → Words ws → (serial bound d i : ℕ) → Bounded ws i (tally_at d ws serial bound i)
unfolding tally_at
tally_bounded ws ok serial bound zero i = no_count
tally_bounded ws ok serial bound (suc d) i =
    cond-case (Bounded ws i) (ltb i (length ws))
    (λ z.
    node_bounded ws i (tally_at d ws serial bound) (process_end d ws bound) (process_end (suc d) ws bound 8) serial bound (at ws i / 2048)
    (tally_bounded ws ok serial bound d)
    (process_forward ws ok d bound 0 (lit< tt))
    (list_forward ws ok d bound)
    (process_forward ws ok (suc d) bound 8 (lit< tt) i))
    λ z. no_count

-- ---- so the sums fit

pub counts_below : {ws : List ℕ} {i : ℕ} {t : Option Counted} → Bounded ws i t → (waiters_in t ≤ length ws) × (workers_in t ≤ length ws)
unfolding waiters_in workers_in
counts_below no_count = (omega arith, omega arith)
counts_below (a_count {e} {w} {k} p q b) = (omega arith, omega arith)

pub sums_below :
    {ws : List ℕ} {i : ℕ} (p q : Counted) → Bounded ws i (Some p) → Bounded ws p.end (Some q) →
    (p.waiters + q.waiters ≤ length ws) × (p.workers + q.workers ≤ length ws)
sums_below p q (a_count {e} {w} {k} h i b) (a_count {e = e'} {w = w'} {k = k'} h' i' b') = (omega arith, omega arith)

pub one_more_below : {ws : List ℕ} (i : ℕ) (p : Counted) → Bounded ws (i + 3) (Some p) → p.workers + 1 ≤ length ws
one_more_below i p (a_count {e} {w} {k} h g b) = omega arith

-- an executor beside what is counted in its body, which begins at e
pub own_below : (ws : List ℕ) (bound i e : ℕ) (p : Counted) → e ≡ executor_own ws bound i → (e ≡ 0 → ⊥) → Bounded ws e (Some p) → p.workers + 1 ≤ length ws
own_below ws bound i e p q some b = by (rw (← q) at (own_forward ws bound i)) some b
  where
    by : {e : ℕ} → Forward ws (i + 3) e → (e ≡ 0 → ⊥) → Bounded ws e (Some p) → p.workers + 1 ≤ length ws
    by stops some b = absurd (some refl)
    by (goes {e} h g) some b = one_more_below i p (later {j = e} (omega arith) b)

module _ (ws : List ℕ) (ok : Words ws) (d serial bound i : ℕ) where
  bounded : (t : Option Counted) (e : ℕ) → t ≡ tally_at d ws serial bound e → Bounded ws e t
  bounded t e q = rw (← q) at (tally_bounded ws ok serial bound d e)

  pub par_below :
      (p q : Counted) → Some p ≡ tally_at d ws serial bound i → Some q ≡ tally_at d ws serial bound p.end →
      (p.waiters + q.waiters ≤ length ws) × (p.workers + q.workers ≤ length ws)
  par_below p q e f = sums_below p q (bounded (Some p) i e) (bounded (Some q) p.end f)

  pub executor_below : (e : ℕ) (p : Counted) → Some e ≡ end_as (executor_own ws bound i) → Some p ≡ tally_at d ws serial bound e → p.workers + 1 ≤ length ws
  executor_below e p own f = let h = some_end e _ own in own_below ws bound i e p h.0 h.1 (bounded (Some p) e f)

-- ---- one turn of the loop over the engines

pub total_turn :
    (tal : ℕ → Option Counted) (starts : List ℕ) (n i e waiters workers : ℕ) →
    i < n →
    total_from tal starts (n - i) e waiters workers
    ≡ total_from tal starts (n - (i + 1)) (e + 1) (waiters + waiters_in (tal (get_or starts e 0))) (workers + workers_in (tal (get_or starts e 0)))
unfolding total_from
total_turn tal starts n i e waiters workers h = let more : n - i ≡ suc (n - (i + 1)) = omega arith in rw more

pub total_end : (tal : ℕ → Option Counted) (starts : List ℕ) (n i e waiters workers : ℕ) → n ≤ i → total_from tal starts (n - i) e waiters workers ≡ (waiters, workers)
unfolding total_from
total_end tal starts n i e waiters workers h = let no : n - i ≡ 0 = omega arith in rw no

pub tally_below :
    (ws : List ℕ) (serial bound d i : ℕ) → Words ws →
    (waiters_in (tally_at d ws serial bound i) ≤ length ws) × (workers_in (tally_at d ws serial bound i) ≤ length ws)
tally_below ws serial bound d i ok = counts_below (tally_bounded ws ok serial bound d i)

-- ---- the places lent to the loop are the first ones

pub front_length : (n : ℕ) (starts : List ℕ) → length (take n starts) ≤ n
front_length n starts = omega (arith, length-take n starts)

pub front_at : (n : ℕ) (starts : List ℕ) (i : ℕ) → i < length (take n starts) → get_or (take n starts) i 0 ≡ get_or starts i 0
front_at n starts i h = get_or-take n starts i 0 (omega (arith, length-take n starts))
