-- The test of a head by the set of kinds that may stand there is the definitions' test, but for the bits that a scope does not use where it is code.
-- Assumes nothing.
use Prim.Native.Nat.{ℕ, ◌+◌, ◌/◌, ◌%◌, ◌^◌, ◌<◌}
use native.Mathlib.Omega.{arith}
use mathlib.Core.Path.{◌≡◌, refl, sym, ap, ◌∙◌}
use mathlib.Core.Bool.{Bool, true, false, not, ◌&&◌, ◌||◌, cond, and-true, and-false}
use lib.Bits.{bit_and}
use lib.Dec.{T, ltb, eqb}
use lib.ListN.{get_or}
use borrow.Author.Tests.{eq-eqb, eqb-true}
use Rattle.sock.specs.Kind
use Rattle.sock.specs.Kind.{rows, row_of}
use Rattle.sock.specs.Words.{clear, kind_of}
use Rattle.sock.specs.Reading.{Stratum, running, code, Place, anywhere, not_nil, allowed, placed}
use Rattle.sock.proofs.Table.{table, table_at}
use Rattle.reading.specs.Tables.{spare_of, head_mask}
use Rattle.reading.specs.Sets.{context_in, unused, head_stands}
use Rattle.reading.specs.Walk.{rests}
use Rattle.reading.proofs.Contexts.{stratum_number, number_of, spare_for, head_masked, unused_clear, allowed_kind}
use Rattle.reading.proofs.Sets.{Known, six}

-- ---- which kinds stand there, computed for all 32

counted : Bool → ℕ
counted b = cond b 1 0

counted_same : (a b : Bool) → counted a ≡ counted b → a ≡ b
unfolding counted
counted_same true true e = refl
counted_same true false e = absurd (let z : ◌≡◌ {A = ℕ} 1 0 = e in omega arith)
counted_same false true e = absurd (let z : ◌≡◌ {A = ℕ} 0 1 = e in omega arith)
counted_same false false e = refl

bits : ℕ → ℕ → ℕ
bits kinds k = counted (eqb (kinds / 2 ^ k % 2) 1)

stood : Stratum → Place → ℕ → ℕ
stood s p k = counted (allowed s k && placed p k)

four : (h : ℕ) → kind_of h ≡ 11 → clear 32 h ≡ (clear (row_of (kind_of h)).spare h && clear 32 h)
unfolding row_of rows
four h e = rw e (by (eqb (h % 32) 0) refl)
  where
    by : (b : Bool) → eqb (h % 32) 0 ≡ b → b ≡ (eqb (h % 4) 0 && b)
    by true q = let z : h % 4 ≡ 0 = omega (arith, eqb-true _ _ q) in rw (eq-eqb (h % 4) 0 z) refl
    by false q = rw and-false refl

fewer : (h : ℕ) (a b : Bool) → eqb (kind_of h) 11 ≡ a → clear (cond (a && b) 32 (row_of (kind_of h)).spare) h ≡ (clear (row_of (kind_of h)).spare h && (not (a && b) || clear 32 h))
fewer h true true q = four h (eqb-true _ _ q)
fewer h true false q = rw and-true refl
fewer h false b q = rw and-true refl

module _ (kinds : ℕ) (s : Stratum) (p : Place) (same : table (bits kinds) 0 32 ≡ table (stood s p) 0 32) (code_too : ltb (stratum_number s) 2 ≡ ltb (number_of s p) 8) where
  bit_is : (k : ℕ) → k < 32 → eqb (kinds / 2 ^ k % 2) 1 ≡ (allowed s k && placed p k)
  unfolding bits stood
  bit_is k h =
      counted_same _ _ (sym (table_at (bits kinds) 32 k h) ∙ ap (λ l. get_or l k 0) same ∙ table_at (stood s p) 32 k h)

  -- a scope that is code uses fewer bits
  spare_rests : (h : ℕ) → T (allowed s (kind_of h)) → clear (spare_for s (kind_of h)) h ≡ (eqb (bit_and h (unused (kind_of h))) 0 && rests (number_of s p) h)
  unfolding rests spare_of unused
  spare_rests h t =
      rw (unused_clear (kind_of h) h (allowed_kind s (kind_of h) t), ← code_too) (fewer h (eqb (kind_of h) Kind.scope) (ltb (stratum_number s) 2) refl)

  tested : (h : ℕ) → h < 65536 → eqb (bit_and (h + 65536) (head_mask (number_of s p) (kind_of h))) 0 ≡ (head_stands kinds h && rests (number_of s p) h)
  unfolding head_stands
  tested h small =
      let k : ℕ = kind_of h in
      rw (head_masked s p h small, bit_is k (omega arith)) (by (allowed s k) (placed p k) λ t. spare_rests h t)
    where
      by :
          (a b : Bool) → (T a → clear (spare_for s (kind_of h)) h ≡ (eqb (bit_and h (unused (kind_of h))) 0 && rests (number_of s p) h)) →
          (a && b && clear (spare_for s (kind_of h)) h) ≡ (((a && b) && eqb (bit_and h (unused (kind_of h))) 0) && rests (number_of s p) h)
      by true true f = f tt
      by true false f = refl
      by false b f = refl

pub head_law : (kinds : ℕ) → Known kinds → (h : ℕ) → h < 65536 → eqb (bit_and (h + 65536) (head_mask (context_in kinds) (kind_of h))) 0 ≡ (head_stands kinds h && rests (context_in kinds) h)
unfolding context_in bits stood counted allowed placed number_of
head_law kinds known h small =
    six (λ kinds. eqb (bit_and (h + 65536) (head_mask (context_in kinds) (kind_of h))) 0 ≡ (head_stands kinds h && rests (context_in kinds) h))
    (tested 32767 (code false) anywhere refl refl h small)
    (tested 32766 (code false) not_nil refl refl h small)
    (tested 65535 (code true) anywhere refl refl h small)
    (tested 65534 (code true) not_nil refl refl h small)
    (tested 491519 (running 0 0) anywhere refl refl h small)
    (tested 491518 (running 0 0) not_nil refl refl h small)
    kinds known
