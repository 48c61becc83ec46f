-- Tests in a row, and tests over lists.
-- Assumes nothing.
use Prim.Native.Nat.{ℕ, zero, suc, ◌≤◌}
use native.Mathlib.Omega.{arith}
use mathlib.Core.Path.{◌≡◌, refl, ap, ◌∙◌}
use mathlib.Core.Bool.{Bool, true, ◌&&◌}
use mathlib.Core.List.{List, [], ◌∷◌, ◌++◌}
use lib.Dec.{leb, eqb}
use lib.ListN.{length, get_or, drop, replicate}
use Rattle.std.proofs.lemmas.Bool.{and_parts, and_from}
use borrow.Author.Tests.{leb-true, le-leb, eqb-true, eq-eqb}
use Rattle.window.specs.Window.{none_above, same}

-- ---- tests in a row

pub and_first : (a b : Bool) → a ≡ true → (a && b) ≡ b
and_first a b e = ap (λ (x : Bool). x && b) e

-- ---- no number above a bound

module _ (most : ℕ) where
  pub none_append : (l m : List ℕ) → none_above most l ≡ true → none_above most m ≡ true → none_above most (l ++ m) ≡ true
  unfolding none_above
  none_append [] m p q = q
  none_append (n ∷ l) m p q =
      and_from (leb n most) (none_above most (l ++ m)) (and_parts _ (none_above most l) p).0 (none_append l m (and_parts (leb n most) _ p).1 q)

  pub none_drop : (k : ℕ) (l : List ℕ) → none_above most l ≡ true → none_above most (drop k l) ≡ true
  unfolding none_above
  none_drop zero l p = p
  none_drop (suc k) [] p = refl
  none_drop (suc k) (n ∷ l) p = none_drop k l (and_parts (leb n most) _ p).1

  pub none_one : (n : ℕ) → n ≤ most → none_above most (n ∷ []) ≡ true
  unfolding none_above
  none_one n h = and_from (leb n most) true (le-leb n most h) refl

  pub none_at : (l : List ℕ) (k : ℕ) → none_above most l ≡ true → get_or l k 0 ≤ most
  unfolding none_above
  none_at [] k p = omega arith
  none_at (n ∷ l) zero p = leb-true n most (and_parts _ (none_above most l) p).0
  none_at (n ∷ l) (suc k) p = none_at l k (and_parts (leb n most) _ p).1

pub none_zeros : (most n : ℕ) → none_above most (replicate n 0) ≡ true
unfolding none_above
none_zeros most zero = refl
none_zeros most (suc n) = and_from (leb 0 most) (none_above most (replicate n 0)) (le-leb 0 most (omega arith)) (none_zeros most n)

pub all_zeros : (l : List ℕ) → none_above 0 l ≡ true → l ≡ replicate (length l) 0
unfolding none_above
all_zeros [] p = refl
all_zeros (n ∷ l) p =
    let h : n ≤ 0 = leb-true n 0 (and_parts _ (none_above 0 l) p).0 in
    let z : n ≡ 0 = omega arith in
    ap (λ (x : ℕ). x ∷ l) z ∙ ap (λ (t : List ℕ). 0 ∷ t) (all_zeros l (and_parts (leb n 0) _ p).1)

-- ---- the same numbers

pub same_true : (l m : List ℕ) → same l m ≡ true → l ≡ m
unfolding same
same_true [] [] e = refl
same_true [] (n ∷ m) e = cc
same_true (n ∷ l) [] e = cc
same_true (n ∷ l) (k ∷ m) e =
    ap (λ (x : ℕ). x ∷ l) (eqb-true n k (and_parts _ (same l m) e).0) ∙ ap (λ (t : List ℕ). k ∷ t) (same_true l m (and_parts (eqb n k) _ e).1)

pub same_refl : (l : List ℕ) → same l l ≡ true
unfolding same
same_refl [] = refl
same_refl (n ∷ l) = and_from (eqb n n) (same l l) (eq-eqb n n refl) (same_refl l)
