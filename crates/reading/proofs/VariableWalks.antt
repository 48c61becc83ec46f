-- The mirrored walks over the variables of a list, as the code takes them, by the words lent: all of them, those of a list that receives, and one
-- turn of the loop over them.
-- Assumes nothing.
use Prim.Native.Nat.{ℕ, zero, suc, ◌+◌, ◌-◌, ◌%◌, ◌<◌, ◌≤◌}
use native.Mathlib.Omega.{arith}
use native.Mathlib.Numerals.{add-one}
use mathlib.Core.Path.{◌≡◌, refl, ◌∙◌}
use mathlib.Core.Bool.{Bool, cond, true, false, not, ◌&&◌}
use mathlib.Core.List.{List, [], ◌∷◌}
use lib.Dec.{T, ltb, eqb}
use lib.ListN.{length, take, drop, length-drop, drop_of_length-le}
use lib.Seq.{drop-cons, take_all}
use borrow.Author.Tests.{lt-ltb, ltb-true, ne_eqb}
use Rattle.std.specs.Prelude.{Some}
use Rattle.std.specs.Bool.{then_some}
use Rattle.std.specs.List.{list_all, list_any}
use Rattle.sock.specs.Words.{first_variable}
use Rattle.sock.specs.Variables.{further_of, member, distinct}
use Rattle.reading.specs.Walk.{end_as, on, when, at, further_end, variables_end, among, distinct_from, receiving_end}
use Rattle.reading.proofs.Given.{some_end, as_when}
use Rattle.reading.proofs.Variables.{list_test, list_when, list_inside, list_some}

cond_same : (b : Bool) → ◌≡◌ {A = ℕ} (cond b 0 0) 0
cond_same true = refl
cond_same false = refl

module _ (ws : List ℕ) where
  pub further_all : (n i : ℕ) → i + n ≤ length ws → further_end n ws i ≡ when (list_all (λ w. eqb (w % 2048) 0) (take n (drop i ws))) (i + n)
  unfolding further_end when
  further_all zero i h = omega arith
  further_all (suc n) i h =
      let e : i + 1 + n ≡ i + suc n = omega arith in
      let more : i < length ws = omega arith in
      rw (drop-cons ws i 0 more, lt-ltb i (length ws) more, further_all n (i + 1) (omega arith), e, add-one i) (by (eqb (at ws i % 2048) 0) (list_all (λ w. eqb (w % 2048) 0) (take n (drop (suc i) ws))))
    where
      by : (a b : Bool) → cond a (cond b (i + suc n) 0) 0 ≡ cond (a && b) (i + suc n) 0
      by true b = refl
      by false b = refl

  pub further_short : (n i : ℕ) → i ≤ length ws → length ws - i < n → further_end n ws i ≡ 0
  unfolding further_end when
  further_short zero i g h = absurd (omega arith)
  further_short (suc n) i g h = by (ltb i (length ws)) refl (λ more. further_short n (i + 1) (omega arith) (omega arith))
    where
      by : (b : Bool) → ltb i (length ws) ≡ b → (i < length ws → further_end n ws (i + 1) ≡ 0) → cond (b && eqb (at ws i % 2048) 0) (further_end n ws (i + 1)) 0 ≡ 0
      by true e r = rw (r (ltb-true i (length ws) e)) (cond_same (eqb (at ws i % 2048) 0))
      by false e r = refl

  among_member : (n x i : ℕ) → i + n ≤ length ws → among n ws x i ≡ member x (further_of (take n (drop i ws)))
  unfolding among member further_of
  among_member zero x i h = refl
  among_member (suc n) x i h =
      let more : i < length ws = omega arith in
      rw (drop-cons ws i 0 more, lt-ltb i (length ws) more, among_member n x (i + 1) (omega arith), add-one i) refl

  -- the first and `n` further ones from a place on, as the words lent
  pub distinct_words : (n x i : ℕ) → i + n ≤ length ws → distinct_from n ws x i ≡ distinct (x ∷ further_of (take n (drop i ws)))
  unfolding distinct_from distinct member further_of
  distinct_words zero x i h = refl
  distinct_words (suc n) x i h =
      let more : i < length ws = omega arith in
      rw (among_member (suc n) x i h, lt-ltb i (length ws) more, distinct_words n (first_variable (at ws i)) (i + 1) (omega arith), drop-cons ws i 0 more, add-one i) refl

  -- a list that was read ends among the words
  pub list_lent : (i e : ℕ) → Some e ≡ end_as (variables_end ws i) → (i < e) × (e ≤ length ws) × (e ≡ i + at ws i)
  unfolding when
  list_lent i e s = let g = some_end e (variables_end ws i) s in by (list_test ws i) refl (g.0 ∙ list_when ws i) g.1
    where
      by : (b : Bool) → list_test ws i ≡ b → e ≡ when b (i + at ws i) → (e ≡ 0 → ⊥) → (i < e) × (e ≤ length ws) × (e ≡ i + at ws i)
      by true q same some =
          let t : T (list_test ws i) = rw q tt in
          let inside = list_inside ws i t in
          let more = list_some ws i t in
          (omega (arith, same, more), omega (arith, same, inside), same)
      by false q same some = absurd (some same)

  -- one that receives
  pub receiving_lent :
      (first i e : ℕ) (b : Bool) → Some e ≡ end_as (variables_end ws i) → b ≡ distinct (first ∷ further_of (take (e - (i + 1)) (drop (i + 1) ws))) →
      then_some b e ≡ end_as (receiving_end ws first i)
  unfolding receiving_end on
  receiving_lent first i e b s d =
      let l = list_lent i e s in
      let g = some_end e (variables_end ws i) s in
      let count : at ws i - 1 ≡ e - (i + 1) = omega (arith, l) in
      rw (← g.0, ne_eqb e 0 g.1, count, distinct_words (e - (i + 1)) first (i + 1) (omega (arith, l)), ← d) (as_when b e g.1)

  pub receiving_none : (first i : ℕ) → variables_end ws i ≡ 0 → 0 ≡ receiving_end ws first i
  unfolding receiving_end on
  receiving_none first i e = rw e refl

-- by the words lent alone: one turn of a loop, and its end
any_member : (x : ℕ) (ws : List ℕ) → list_any (λ w. eqb x (first_variable w)) ws ≡ member x (further_of ws)
unfolding member further_of
any_member x [] = refl
any_member x (w ∷ ws) = rw (any_member x ws) refl

pub distinct_turn :
    (ws : List ℕ) (x i : ℕ) (b : Bool) → i < length ws → b ≡ list_any (λ w. eqb x (first_variable w)) (take (length ws - i) (drop i ws)) →
    distinct (x ∷ further_of (drop i ws)) ≡ (not b && distinct (first_variable (at ws i) ∷ further_of (drop (i + 1) ws)))
unfolding distinct further_of
distinct_turn ws x i b more e =
    let all = take_all (length ws - i) (drop i ws) (omega (arith, length-drop i ws)) in
    rw (e, all, any_member x (drop i ws), drop-cons ws i 0 more, add-one i) refl

pub distinct_end : (ws : List ℕ) (x i : ℕ) → length ws ≤ i → distinct (x ∷ further_of (drop i ws)) ≡ true
unfolding distinct further_of member
distinct_end ws x i none = rw (drop_of_length-le ws none) refl
