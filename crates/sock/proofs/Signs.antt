-- The order of values read with sign is the order of the values with their top bit turned.
-- Assumes nothing.
use Prim.Native.Nat.{ℕ, ◌+◌, ◌-◌, ◌%◌, ◌≤◌, ◌<◌}
use native.Mathlib.Omega.{arith}
use mathlib.Core.Path.{◌≡◌, refl, sym, ap, ◌∙◌}
use mathlib.Core.Bool.{Bool, true, false}
use lib.Dec.{ltb}
use lib.IntN.{pos, negsuc}
use lib.Signed.{lt_z}
use borrow.Author.Tests.{lt-ltb, le-ltb, ltb-true, ltb-false}
use Rattle.sock.specs.Words.{bit}
use Rattle.sock.specs.Evaluation.{signed}

-- the top bit turned
abbrev biased : ℕ → ℕ
biased v = (v + 2147483648) % 4294967296

pub signed_low : (v : ℕ) → v < 2147483648 → signed v ≡ pos v
unfolding signed
signed_low v h = rw (lt-ltb v 2147483648 h) refl

pub signed_high : (v : ℕ) → 2147483648 ≤ v → v < 4294967296 → signed v ≡ negsuc (4294967295 - v)
unfolding signed
signed_high v h k = rw (le-ltb v 2147483648 h, lt-ltb v 4294967296 k) (ap negsuc (omega arith))

same_order : (x y a b : ℕ) → (x < y → a < b) → (a < b → x < y) → ltb x y ≡ ltb a b
same_order x y a b f g = by (ltb x y) (ltb a b) refl refl
  where
    by : (s t : Bool) → ltb x y ≡ s → ltb a b ≡ t → s ≡ t
    by true t d e = sym (sym e ∙ lt-ltb a b (f (ltb-true x y d)))
    by false true d e = sym d ∙ lt-ltb x y (g (ltb-true a b e))
    by false false d e = refl

pub biased_order : (a b : ℕ) → a < 4294967296 → b < 4294967296 → ltb (biased a) (biased b) ≡ lt_z (signed a) (signed b)
biased_order a b p q = by (ltb a 2147483648) (ltb b 2147483648) refl refl
  where
    by : (s t : Bool) → ltb a 2147483648 ≡ s → ltb b 2147483648 ≡ t → ltb (biased a) (biased b) ≡ lt_z (signed a) (signed b)
    by true true s t =
        let f = ltb-true a 2147483648 s in
        let g = ltb-true b 2147483648 t in
        rw (signed_low a f, signed_low b g) (same_order (biased a) (biased b) a b (λ h. omega arith) (λ h. omega arith))
    by true false s t =
        let f = ltb-true a 2147483648 s in
        let g = ltb-false b 2147483648 t in
        rw (signed_low a f, signed_high b g q) (le-ltb (biased a) (biased b) (omega arith))
    by false true s t =
        let f = ltb-false a 2147483648 s in
        let g = ltb-true b 2147483648 t in
        rw (signed_high a f p, signed_low b g) (lt-ltb (biased a) (biased b) (omega arith))
    by false false s t =
        let f = ltb-false a 2147483648 s in
        let g = ltb-false b 2147483648 t in
        rw (signed_high a f p, signed_high b g q) (same_order (biased a) (biased b) (4294967295 - b) (4294967295 - a) (λ h. omega arith) (λ h. omega arith))

-- ---- as a test of two biased values says

module _ (a b x y : ℕ) (p : a < 4294967296) (q : b < 4294967296) (d : x ≡ biased a) (e : y ≡ biased b) where
  pub signed_less : x < y → 1 ≡ bit (lt_z (signed a) (signed b))
  signed_less h = ap bit (sym (lt-ltb (biased a) (biased b) (omega (arith, d, e, h))) ∙ biased_order a b p q)

  pub signed_not : y ≤ x → 0 ≡ bit (lt_z (signed a) (signed b))
  signed_not h = ap bit (sym (le-ltb (biased a) (biased b) (omega (arith, d, e, h))) ∙ biased_order a b p q)
