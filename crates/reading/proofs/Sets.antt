-- The six contexts that are sets of kinds, and the test of a head by its set.
-- Assumes nothing.
use Prim.Native.Nat.{ℕ, ◌+◌, ◌*◌, ◌-◌, ◌/◌, ◌%◌, ◌^◌, ◌<◌, ◌≤◌}
use native.Mathlib.Omega.{arith}
use mathlib.Core.Path.{◌≡◌, refl, sym, subst, ap, ◌∙◌}
use mathlib.Core.Bool.{Bool, true, false, cond, and-false}
use borrow.Author.Tests.{le-leb, lt-leb}
use lib.Dec.{leb, ltb, eqb, lit<}
use lib.ListN.{get_or-eq_default}
use Rattle.layout.specs.Kinds.{kind_named, number_of}
use Rattle.layout.proofs.Named.{by_name}
use Rattle.sock.specs.Kind.{Row, rows, row_of, no_row}
use Rattle.sock.specs.Reading.{allowed, placed}
use Rattle.reading.specs.Walk.{context_of, rest_of, entry_context}
use Rattle.reading.specs.Sets.{kinds_in, context_in, unused}

abbrev pub Known : ℕ → Type 0
Known k = k ≡ kinds_in (context_in k)

-- what holds of each of the six
pub six : (P : ℕ → Type 0) → P 32767 → P 32766 → P 65535 → P 65534 → P 491519 → P 491518 → (k : ℕ) → Known k → P k
unfolding context_in kinds_in allowed placed
six P a b c d e f k known = by (eqb (k / 2 ^ 16 % 2) 1) (eqb (k / 2 ^ 15 % 2) 1) (eqb (k % 2) 1) known
  where
    by : (x y z : Bool) → k ≡ kinds_in (cond x 8 (cond y 4 0) + cond z 0 1) → P k
    by true y true q = subst P (sym q) e
    by true y false q = subst P (sym q) f
    by false true true q = subst P (sym q) c
    by false true false q = subst P (sym q) d
    by false false true q = subst P (sym q) a
    by false false false q = subst P (sym q) b

module _ (k : ℕ) (known : Known k) where
  pub anywhere_known : Known (k / 2 * 2 + 1)
  unfolding context_in kinds_in allowed placed
  anywhere_known = six (λ k. Known (k / 2 * 2 + 1)) refl refl refl refl refl refl k known

  pub anywhere_in : context_in (k / 2 * 2 + 1) ≡ context_of (context_in k)
  unfolding context_in
  anywhere_in = six (λ k. context_in (k / 2 * 2 + 1) ≡ context_of (context_in k)) refl refl refl refl refl refl k known

  pub not_nil_known : Known (k / 2 * 2)
  unfolding context_in kinds_in allowed placed
  not_nil_known = six (λ k. Known (k / 2 * 2)) refl refl refl refl refl refl k known

  pub not_nil_in : context_in (k / 2 * 2) ≡ context_of (context_in k) + 1
  unfolding context_in
  not_nil_in = six (λ k. context_in (k / 2 * 2) ≡ context_of (context_in k) + 1) refl refl refl refl refl refl k known

  pub code_known : Known (k / 2 * 2 % 65536 + 1)
  unfolding context_in kinds_in allowed placed
  code_known = six (λ k. Known (k / 2 * 2 % 65536 + 1)) refl refl refl refl refl refl k known

  pub code_in : context_in (k / 2 * 2 % 65536 + 1) ≡ rest_of (context_in k)
  unfolding context_in rest_of
  code_in = six (λ k. context_in (k / 2 * 2 % 65536 + 1) ≡ rest_of (context_in k)) refl refl refl refl refl refl k known

  pub runs_in : leb 65536 k ≡ leb 8 (context_in k)
  unfolding context_in
  runs_in = six (λ k. leb 65536 k ≡ leb 8 (context_in k)) refl refl refl refl refl refl k known

  pub below : context_in k < 12
  unfolding context_in
  below = six (λ k. context_in k < 12) (lit< tt) (lit< tt) (lit< tt) (lit< tt) (lit< tt) (lit< tt) k known

  -- in an entry of a list
  pub entry_stays : (key : ℕ) → (k ≡ 32767 → ⊥) → context_in k ≡ entry_context (context_in k) key
  unfolding context_in entry_context
  entry_stays key = six (λ k. (k ≡ 32767 → ⊥) → context_in k ≡ entry_context (context_in k) key) (λ n. absurd (n refl)) (λ n. refl) (λ n. refl) (λ n. refl) (λ n. refl) (λ n. refl) k known

  pub entry_below : (key : ℕ) → key < 64 → context_in k ≡ entry_context (context_in k) key
  unfolding entry_context
  entry_below key low = rw (lt-leb 64 key low, and-false) refl

  pub entry_full : (key : ℕ) → k ≡ 32767 → 64 ≤ key → (x : ℕ) → x ≡ context_of (context_in k) + 1 → x ≡ entry_context (context_in k) key
  unfolding context_in entry_context
  entry_full key q low x e = e ∙ rw (q, le-leb 64 key low) refl

-- what begins a branch stands beside what is code
pub code_guard : (c y : ℕ) → y ≡ rest_of c → context_of y + 2 ≡ y + 2
unfolding rest_of
code_guard c y e = rw e (by (ltb c 8))
  where
    by : (b : Bool) → cond b (c / 4 * 4) 0 / 4 * 4 + 2 ≡ cond b (c / 4 * 4) 0 + 2
    by true = omega arith
    by false = refl

-- ---- those that code names

pub code_is : Known 32767
unfolding context_in kinds_in allowed placed
code_is = refl

pub handlers_is : Known 65535
unfolding context_in kinds_in allowed placed
handlers_is = refl

pub running_is : Known 491519
unfolding context_in kinds_in allowed placed
running_is = refl

pub enabled_is : Known 491518
unfolding context_in kinds_in allowed placed
enabled_is = refl

pub code_context : context_in 32767 ≡ 0
unfolding context_in
code_context = refl

pub handlers_context : context_in 65535 ≡ 4
unfolding context_in
handlers_context = refl

pub running_context : context_in 491519 ≡ 8
unfolding context_in
running_context = refl

pub enabled_context : context_in 491518 ≡ 9
unfolding context_in
enabled_context = refl

-- ---- the test of a head

unused_beyond : (k : ℕ) → 19 ≤ k → unused k ≡ unused 19
unfolding unused row_of rows
unused_beyond k far = ap (λ (r : Row). r.spare - 1) (get_or-eq_default rows no_row far)

pub unused_named : (k : ℕ) → unused (number_of (kind_named k)) ≡ unused k
unused_named = by_name unused unused_beyond
