-- A configuration has few open serials, so that an index always has room for them: each has a waiter, and a waiter has four words or more of
-- its own.
-- Assumes nothing.
use Prim.Native.Nat.{ℕ, zero, suc, ◌+◌, ◌*◌, ◌≤◌, ◌<◌}
use native.Mathlib.Omega.{arith}
use native.Mathlib.Decide.{ℕ_discrete, dec_le}
use mathlib.Core.Path.{◌≡◌, refl}
use mathlib.Core.Bool.{Bool, true, false, cond}
use mathlib.Core.List.{List, [], ◌∷◌}
use lib.Dec.{T, leb, ltb, eqb, ltb→lt}
use lib.ListN.{length, length-append}
use borrow.Author.Tests.{ne_eqb, eq-eqb, le-leb, lt-leb}
use Rattle.sock.specs.Words.{bit}
use Rattle.sock.specs.Running.{Run, nil, seq, par, scope, executor, waiter, notice, act, run_words, size}
use Rattle.sock.specs.Configuration.{Limits, Engine, Config, values_words, engine_words, engines_words, encode}
use Rattle.sock.specs.Calls.{End, waiting, working, tally, tally_all, waits}
use Rattle.sock.specs.Index.{up_to, has_waiter, open_serials}
use Rattle.sock.proofs.Fits.{Readable}
use Rattle.sock.proofs.Measures.{size_seq, size_par, size_scope, size_executor, size_waiter}

-- ---- four words for each waiter

module _ (t : End → Bool) (none : (s o g : ℕ) → t (working s o g) ≡ false) where
  waiter_words : (r : Run) → 4 * tally t r ≤ size r
  unfolding tally
  waiter_words nil = omega arith
  waiter_words (seq p q) = omega (arith, waiter_words p, size_seq p q)
  waiter_words (par p q) = omega (arith, waiter_words p, waiter_words q, size_par p q)
  waiter_words (scope name mark zombie h p) = omega (arith, waiter_words p, size_scope name mark zombie h p)
  waiter_words (executor o y client serial p) = rw (none serial o client) (omega (arith, waiter_words p, size_executor o y client serial p))
  waiter_words (waiter o x dead server serial l) = by (t (waiting serial o server))
    where
      by : (b : Bool) → 4 * bit b ≤ size (waiter o x dead server serial l)
      by true = omega (arith, size_waiter o x dead server serial l)
      by false = omega arith
  waiter_words (notice o f client serial) = rw (none serial o client) (omega arith)
  waiter_words (act p) = omega arith

  waiters_words : (es : List Engine) → 4 * tally_all t es ≤ length (engines_words es)
  unfolding tally_all engines_words engine_words size
  waiters_words [] = omega arith
  waiters_words (e ∷ es) =
      omega (
        arith,
        waiter_words e.process,
        waiters_words es,
        length-append (engine_words e) (engines_words es),
        length-append (values_words e.values) (run_words e.process),
      )

-- ---- at least one waiter for each open serial

module _ (t u v : End → Bool) (h : (x : End) → bit (t x) ≡ bit (u x) + bit (v x)) where
  tally_sum : (r : Run) → tally t r ≡ tally u r + tally v r
  unfolding tally
  tally_sum nil = refl
  tally_sum (seq p q) = tally_sum p
  tally_sum (par p q) = omega (arith, tally_sum p, tally_sum q)
  tally_sum (scope name mark zombie hs p) = tally_sum p
  tally_sum (executor o y client serial p) = omega (arith, h (working serial o client), tally_sum p)
  tally_sum (waiter o x dead server serial l) = h (waiting serial o server)
  tally_sum (notice o f client serial) = h (working serial o client)
  tally_sum (act p) = refl

  tallies_sum : (es : List Engine) → tally_all t es ≡ tally_all u es + tally_all v es
  unfolding tally_all
  tallies_sum [] = refl
  tallies_sum (e ∷ es) = omega (arith, tally_sum e.process, tallies_sum es)

-- a waiter of one of the serials up to n
abbrev waits_up_to : ℕ → End → Bool
waits_up_to n (waiting s o g) = leb s n
waits_up_to n (working s o g) = false

one_more_lem : (n s : ℕ) → bit (leb s (suc n)) ≡ bit (leb s n) + bit (eqb (suc n) s)
one_more_lem n s = by (dec_le s n) (ℕ_discrete (suc n) s)
  where
    by : Dec (s ≤ n) → Dec (suc n ≡ s) → bit (leb s (suc n)) ≡ bit (leb s n) + bit (eqb (suc n) s)
    by (yes a) d = rw (le-leb s (suc n) (omega arith), le-leb s n a, ne_eqb (suc n) s (λ e. omega arith))
    by (no a) (yes e) = rw (le-leb s (suc n) (omega arith), lt-leb s n (omega arith), eq-eqb (suc n) s e)
    by (no a) (no d) = rw (lt-leb s (suc n) (omega arith), lt-leb s n (omega arith), ne_eqb (suc n) s d)

up_to_more : (n : ℕ) (x : End) → bit (waits_up_to (suc n) x) ≡ bit (waits_up_to n x) + bit (waits (suc n) x)
unfolding waits
up_to_more n (waiting s o g) = one_more_lem n s
up_to_more n (working s o g) = refl

module _ (c : Config) where
  open_waiters : (n : ℕ) → length (up_to (has_waiter c) n) ≤ tally_all (waits_up_to n) c.engines
  unfolding up_to has_waiter
  open_waiters zero = omega arith
  open_waiters (suc n) =
      omega (
        arith,
        open_waiters n,
        tallies_sum (waits_up_to (suc n)) (waits_up_to n) (waits (suc n)) (up_to_more n) c.engines,
        length-append (up_to (has_waiter c) n) (cond (ltb 0 waiters) (suc n ∷ []) []),
        by (ltb 0 waiters) (ltb→lt 0 waiters),
      )
    where
      waiters : ℕ
      waiters = tally_all (waits (suc n)) c.engines

      by : (b : Bool) → (T b → 0 < waiters) → length (cond b (suc n ∷ []) []) ≤ waiters
      by true h = h tt
      by false h = omega arith

  pub few_open : length (encode c) ≤ 8192 → length (open_serials c) ≤ 2047
  unfolding open_serials encode
  few_open h = omega (arith, open_waiters c.issued, waiters_words (waits_up_to c.issued) (λ s o g. refl) c.engines)

pub readable_few : {limits : Limits} {c : Config} → Readable limits c → limits.longest ≤ 8192 → length (open_serials c) ≤ 2047
readable_few {c = c} r h = few_open c (omega (arith, r.short))
