-- The position reader of processes is the definitions' reader.
-- Assumes nothing.
use Prim.Native.Nat.{ℕ, zero, suc, ◌+◌, ◌*◌, ◌/◌, ◌%◌, ◌<◌}
use native.Mathlib.Omega.{arith}
use mathlib.Core.Logic.{◌≢◌}
use mathlib.Core.Path.{◌≡◌, refl}
use mathlib.Core.Bool.{Bool, true, false, not, ◌&&◌, and_assoc, and-true}
use mathlib.Core.List.{List}
use lib.Dec.{T, leb, ltb, eqb}
use lib.ListN.{length, drop}
use Rattle.sock.specs.Kind
use Rattle.sock.specs.Kind.{rows, row_of}
use Rattle.sock.specs.Words.{clear, kind_of, count_of}
use Rattle.sock.specs.Reading.{fail, check, Stratum, running, code, Place, anywhere, allowed, placed, branched, head_fits, block, expr, process}
use Rattle.sock.proofs.PartsTable.{node_same}
use Rattle.sock.proofs.Parts.{node_left}
use Rattle.sock.proofs.Fields.{From, end, ◌then◌, fact_at}
use Rattle.sock.proofs.Logic.{and_left, test_false}
use Rattle.sock.proofs.Reading.{tests}
use Rattle.reading.specs.Tables.{stratum_of, place_of, spare_of}
use Rattle.reading.specs.Walk.{when, at, expr_end, choice_end, list_end, node_end, process_end}
use Rattle.reading.proofs.Contexts.{number_of, context_back, rest_context, spare_for, allowed_kind, head_masked}
use Rattle.reading.proofs.Combining.{check_and, when_and, Words, at_next}
use Rattle.reading.proofs.Ending.{Ends, fails, ReadTo, ends_fail, ends_read, ends_check}
use Rattle.reading.proofs.Lists.{list_any}
use Rattle.reading.proofs.Parts.{Bounded, is_code, is_running, Below}
use Rattle.reading.proofs.Following.{Follows, nil_follows, assign_follows, seq_follows, par_follows, if_follows, while_follows, choice_follows, one_way_follows, request_follows, notify_follows, solicit_follows, inst_follows, throw_follows, comp_follows, cH_follows}
use Rattle.reading.proofs.Scopes.{running_follows, resting_follows}
use Rattle.reading.proofs.Serials.{executor_follows, waiter_follows, notice_follows}

-- what follows, and the rest of the head's test
abbrev Headed : List ℕ → ℕ → ℕ → Stratum → Place → ℕ → ℕ → Type 0
Headed ws bound d s p h i =
    Ends ws i (check (clear (row_of (kind_of h)).spare h && branched h) (node_left (expr d) (process d) s h (drop (i + 1) ws)))
    (when (clear (spare_for s (kind_of h)) h) (node_end (expr_end d ws) (process_end d ws bound) ws (number_of s p) bound h i))

module _
    (ws : List ℕ) (ok : Words ws) (bound d : ℕ) (below : Below ws bound d) (p : Place) (h i : ℕ) (inside : i < length ws)
  where
    -- a kind whose unused bits are the table's, and no choice
    plain :
        (s : Stratum) → spare_for s (kind_of h) ≡ (row_of (kind_of h)).spare → T (not (eqb (kind_of h) Kind.choice)) →
        Follows ws bound d s p h i →
        Headed ws bound d s p h i
    unfolding branched
    plain s e t r =
        let b : Bool = clear (row_of (kind_of h)).spare h in
        rw (test_false (eqb (kind_of h) Kind.choice) t, e, and-true) (ends_check b λ t. r)

    scope_headed : {s : Stratum} → Bounded bound s → kind_of h ≡ Kind.scope → Headed ws bound d s p h i
    unfolding branched spare_of row_of rows
    scope_headed (is_code {c = false}) e = rw (e, and-true) (resting_follows ws ok bound d below h i inside false p e)
    scope_headed (is_code {c = true}) e = rw (e, and-true) (resting_follows ws ok bound d below h i inside true p e)
    scope_headed is_running e = plain _ (rw e refl) (rw e tt) (running_follows ws ok bound d below h i inside p e)

    executor_headed : {s : Stratum} → Bounded bound s → kind_of h ≡ Kind.executor → T (allowed s Kind.executor) → Headed ws bound d s p h i
    unfolding allowed spare_of
    executor_headed (is_code {c = false}) e t = absurd t
    executor_headed (is_code {c = true}) e t = absurd t
    executor_headed is_running e t = plain _ (rw e refl) (rw e tt) (executor_follows ws ok bound d below p h i inside e)

    waiter_headed : {s : Stratum} → Bounded bound s → kind_of h ≡ Kind.waiter → T (allowed s Kind.waiter) → Headed ws bound d s p h i
    unfolding allowed spare_of
    waiter_headed (is_code {c = false}) e t = absurd t
    waiter_headed (is_code {c = true}) e t = absurd t
    waiter_headed is_running e t = plain _ (rw e refl) (rw e tt) (waiter_follows ws ok bound d below p h i inside e)

    notice_headed : {s : Stratum} → Bounded bound s → kind_of h ≡ Kind.notice → T (allowed s Kind.notice) → Headed ws bound d s p h i
    unfolding allowed spare_of
    notice_headed (is_code {c = false}) e t = absurd t
    notice_headed (is_code {c = true}) e t = absurd t
    notice_headed is_running e t = plain _ (rw e refl) (rw e tt) (notice_follows ws ok bound d below p h i inside e)

    choice_headed : (s : Stratum) → Bounded bound s → kind_of h ≡ Kind.choice → Headed ws bound d s p h i
    unfolding branched spare_of row_of rows node_end choice_end
    choice_headed s b e =
        let t : Bool = ltb 0 (count_of h) && leb (count_of h) 8 in
        rw (e, ← check_and (clear 1 h) t, rest_context s p) (ends_check (clear 1 h) λ u. ends_check t λ u. choice_follows ws ok bound d below s b p h i inside e)

    by_kind : (s : Stratum) → Bounded bound s → From (λ k. kind_of h ≡ k → T (allowed s k) → Headed ws bound d s p h i) 19 0
    unfolding spare_of
    by_kind s b =
        (λ e t. plain s (rw e refl) (rw e tt) (nil_follows ws ok bound d below s b p h i inside e))
        then (λ e t. plain s (rw e refl) (rw e tt) (assign_follows ws ok bound d below s b p h i inside e))
        then (λ e t. plain s (rw e refl) (rw e tt) (seq_follows ws ok bound d below s b p h i inside e))
        then (λ e t. plain s (rw e refl) (rw e tt) (par_follows ws ok bound d below s b p h i inside e))
        then (λ e t. plain s (rw e refl) (rw e tt) (if_follows ws ok bound d below s b p h i inside e))
        then (λ e t. plain s (rw e refl) (rw e tt) (while_follows ws ok bound d below s b p h i inside e))
        then (λ e t. choice_headed s b e)
        then (λ e t. plain s (rw e refl) (rw e tt) (one_way_follows ws ok bound d below s b p h i inside e))
        then (λ e t. plain s (rw e refl) (rw e tt) (request_follows ws ok bound d below s b p h i inside e))
        then (λ e t. plain s (rw e refl) (rw e tt) (notify_follows ws ok bound d below s b p h i inside e))
        then (λ e t. plain s (rw e refl) (rw e tt) (solicit_follows ws ok bound d below s b p h i inside e))
        then (λ e t. scope_headed b e)
        then (λ e t. plain s (rw e refl) (rw e tt) (inst_follows ws ok bound d below s b p h i inside e))
        then (λ e t. plain s (rw e refl) (rw e tt) (throw_follows ws ok bound d below s b p h i inside e))
        then (λ e t. plain s (rw e refl) (rw e tt) (comp_follows ws ok bound d below s b p h i inside e))
        then (λ e t. plain s (rw e refl) (rw e tt) (cH_follows ws ok bound d below s b p h i inside e))
        then executor_headed b then waiter_headed b then notice_headed b then end

    headed : (s : Stratum) → Bounded bound s → T (allowed s (kind_of h)) → Headed ws bound d s p h i
    headed s b t = fact_at (by_kind s b) (kind_of h) (omega arith) (allowed_kind s (kind_of h) t) refl t

-- ---- in a stratum and at a place

pub read_ends : (ws : List ℕ) → Words ws → (bound d : ℕ) → Below ws bound d
unfolding process process_end head_fits
read_ends ws ok bound zero s b p i = fails
read_ends ws ok bound (suc d) s b p i =
    let h : ℕ = at ws i in
    let k : ℕ = kind_of h in
    let a : Bool = allowed s k && placed p k in
    let c : Bool = clear (row_of k).spare h in
    rw (
      at_next (process (suc d) s p) refl ws i (i + 1) refl,
      head_masked s p h (ok i),
      when_and a (clear (spare_for s k) h),
      and_assoc a c (branched h),
      ← check_and a (c && branched h),
      node_same (expr d) (process d) s h (drop (i + 1) ws),
    )
    (ends_check (ltb i (length ws)) λ t.
    ends_check a λ u. headed ws ok bound d (read_ends ws ok bound d) p h i (omega tests) s b (and_left (allowed s k) (placed p k) u))

-- ---- in a context

bounded : (n issued : ℕ) → issued < 65536 → (x : ℕ) → Bounded (n * 65536 + issued) (stratum_of n issued x)
bounded n issued h zero = is_code
bounded n issued h (suc zero) = is_code
bounded n issued h (suc (suc x)) =
    let bound : ℕ = n * 65536 + issued in
    let over : bound / 65536 ≡ n = omega arith in
    let left : bound % 65536 ≡ issued = omega arith in
    let r : Bounded bound (running (bound / 65536) (bound % 65536)) = is_running in
    rw (over, left) at r

module _ (ws : List ℕ) (ok : Words ws) (n issued : ℕ) (small : issued < 65536) (d c : ℕ) (h : c < 12) (i : ℕ) where
  pub process_ends : Ends ws i (process d (stratum_of n issued (c / 4)) (place_of (c % 4)) (drop i ws)) (process_end d ws (n * 65536 + issued) c i)
  process_ends =
      rw (context_back n issued c h) at
      (read_ends ws ok (n * 65536 + issued) d (stratum_of n issued (c / 4)) (bounded n issued small (c / 4)) (place_of (c % 4)) i)

  pub process_fail : process d (stratum_of n issued (c / 4)) (place_of (c % 4)) (drop i ws) ≡ fail → process_end d ws (n * 65536 + issued) c i ≡ 0
  process_fail z = ends_fail process_ends z

  pub process_read :
      process_end d ws (n * 65536 + issued) c i ≢ 0 →
      ReadTo ws i (process d (stratum_of n issued (c / 4)) (place_of (c % 4)) (drop i ws)) (process_end d ws (n * 65536 + issued) c i)
  process_read z = ends_read process_ends z

-- ---- lists

-- the context of a list's entries: of a scope's, of another's
abbrev list_context : Bool → ℕ
list_context true = 0
list_context false = 4

list_context_lem : (o : Bool) → number_of (code (not o)) anywhere ≡ list_context o
unfolding number_of
list_context_lem true = refl
list_context_lem false = refl

module _ (ws : List ℕ) (ok : Words ws) (bound d : ℕ) (ofScope : Bool) where
  pub list_ends :
      (i : ℕ) → Ends ws i (block (process d (code (not ofScope)) anywhere) ofScope 1 (drop i ws)) (list_end (process_end d ws bound) ws (list_context ofScope) 128 i)
  list_ends i = rw (list_context_lem ofScope) at (list_any ws ok bound d (λ c. read_ends ws ok bound d (code c) is_code) ofScope i i (omega arith))
