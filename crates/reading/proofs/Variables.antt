-- Lists of variables at their positions: what the definitions read there is what the walk tests, and so is that no variable stands twice.
-- Assumes nothing.
use Prim.Native.Nat.{ℕ, zero, suc, ◌+◌, ◌-◌, ◌≤◌, ◌<◌}
use native.Mathlib.Omega.{arith}
use mathlib.Core.Path.{◌≡◌, refl, sym, ap, ◌∙◌}
use mathlib.Core.Bool.{Bool, true, false, ◌&&◌}
use mathlib.Core.List.{List, [], ◌∷◌, ◌++◌}
use lib.Dec.{T, leb, ltb}
use lib.ListN.{length, drop}
use lib.Seq.{take_at, drop_at}
use Rattle.sock.specs.Kind.{Own, variables}
use Rattle.sock.specs.Words.{is_word, clear, first_variable}
use Rattle.sock.specs.Variables.{further_of, variables_of, behind_variables, member, distinct}
use Rattle.sock.specs.Reading.{Got, got, and_then, check, further, fixed_words}
use Rattle.sock.proofs.Logic.{test_true}
use Rattle.sock.proofs.Reading.{tests, split, both}
use Rattle.reading.specs.Walk.{on, when, at, further_end, variables_end, among, distinct_from, receiving_end}
use Rattle.reading.proofs.Combining.{same_test, check_and, check_as, then_check, on_past, on_when, when_and, Words, at_next}

-- behind a test that holds
when_tested : {A : Type 0} (b : Bool) {g k : Got A} → (T b → g ≡ k) → check b g ≡ check b k
unfolding check
when_tested true e = e tt
when_tested false e = refl

when_same : (b : Bool) {d e : ℕ} → (T b → d ≡ e) → when b d ≡ when b e
unfolding when
when_same true q = q tt
when_same false q = refl

-- ---- the words of a list, and the walk's test of them

unfoldable pub words_at : ℕ → List ℕ → ℕ → List ℕ
words_at zero ws i = []
words_at (suc n) ws i = at ws i ∷ words_at n ws (i + 1)

unfoldable pub further_test : ℕ → List ℕ → ℕ → Bool
further_test zero ws i = true
further_test (suc n) ws i = ltb i (length ws) && clear 2048 (at ws i) && further_test n ws (i + 1)

-- the list whose count stands at i
unfoldable pub list_test : List ℕ → ℕ → Bool
list_test ws i = ltb i (length ws) && (ltb 0 (at ws i) && leb (at ws i) 4) && further_test (at ws i - 1) ws (i + 1)

-- its further variables
abbrev pub further_at : List ℕ → ℕ → List ℕ
further_at ws i = words_at (at ws i - 1) ws (i + 1)

pub words_length : (n : ℕ) (ws : List ℕ) (i : ℕ) → length (words_at n ws i) ≡ n
unfolding words_at
words_length zero ws i = refl
words_length (suc n) ws i = ap suc (words_length n ws (i + 1))

module _ (ws : List ℕ) where
  further_inside : (n i : ℕ) → T (further_test n ws i) → i ≤ length ws → i + n ≤ length ws
  unfolding further_test
  further_inside zero i t h = omega arith
  further_inside (suc n) i t h =
      let u = split (ltb i (length ws) && clear 2048 (at ws i)) (further_test n ws (i + 1)) t in
      let v = split (ltb i (length ws)) (clear 2048 (at ws i)) u.0 in
      let b : i + 1 ≤ length ws = omega tests in
      let r = further_inside n (i + 1) u.1 b in
      omega arith

  further_when : (n i : ℕ) → further_end n ws i ≡ when (further_test n ws i) (i + n)
  unfolding further_end further_test when
  further_when zero i = omega arith
  further_when (suc n) i =
      let e : i + 1 + n ≡ i + suc n = omega arith in
      rw (further_when n (i + 1), e) (sym (when_and (ltb i (length ws) && clear 2048 (at ws i)) (further_test n ws (i + 1)) (i + suc n)))

  pub list_inside : (i : ℕ) → T (list_test ws i) → i + at ws i ≤ length ws
  unfolding list_test
  list_inside i t =
      let c : ℕ = at ws i in
      let u = split (ltb i (length ws) && (ltb 0 c && leb c 4)) (further_test (c - 1) ws (i + 1)) t in
      let v = split (ltb i (length ws)) (ltb 0 c && leb c 4) u.0 in
      let w = split (ltb 0 c) (leb c 4) v.1 in
      let b : i + 1 ≤ length ws = omega tests in
      let r = further_inside (c - 1) (i + 1) u.1 b in
      omega tests

  list_further : (i : ℕ) → T (list_test ws i) → T (further_test (at ws i - 1) ws (i + 1))
  unfolding list_test
  list_further i t = (split (ltb i (length ws) && (ltb 0 (at ws i) && leb (at ws i) 4)) (further_test (at ws i - 1) ws (i + 1)) t).1

  pub list_some : (i : ℕ) → T (list_test ws i) → 0 < at ws i
  unfolding list_test
  list_some i t =
      let c : ℕ = at ws i in
      let u = split (ltb i (length ws) && (ltb 0 c && leb c 4)) (further_test (c - 1) ws (i + 1)) t in
      let v = split (ltb i (length ws)) (ltb 0 c && leb c 4) u.0 in
      let w = split (ltb 0 c) (leb c 4) v.1 in
      omega tests

  module _ (ok : Words ws) where
    word_test : (i : ℕ) → ltb i (length ws) && (is_word (at ws i) && clear 2048 (at ws i)) ≡ ltb i (length ws) && clear 2048 (at ws i)
    word_test i =
        let w : ℕ = at ws i in
        same_test (ltb i (length ws) && (is_word w && clear 2048 w)) (ltb i (length ws) && clear 2048 w)
        (λ t.
        let t = split (ltb i (length ws)) (is_word w && clear 2048 w) t in
        both (ltb i (length ws)) (clear 2048 w) t.0 (split (is_word w) (clear 2048 w) t.1).1)
        λ t.
        let t = split (ltb i (length ws)) (clear 2048 w) t in
        both (ltb i (length ws)) (is_word w && clear 2048 w) t.0 (both (is_word w) (clear 2048 w) (omega (tests, ok i)) t.1)

    further_at_lem : (n i : ℕ) → further n (drop i ws) ≡ check (further_test n ws i) (got (words_at n ws i) (drop (i + n) ws))
    unfolding further further_test words_at check and_then
    further_at_lem zero i = let e : i ≡ i + 0 = omega arith in ap (λ j. got [] (drop j ws)) e
    further_at_lem (suc n) i =
        let w : ℕ = at ws i in
        let e : i + 1 + n ≡ i + suc n = omega arith in
        at_next (further (suc n)) refl ws i (i + 1) refl
        ∙ check_and (ltb i (length ws)) (is_word w && clear 2048 w) _
        ∙ check_as _ (word_test i)
        ∙ ap (λ g. check (ltb i (length ws) && clear 2048 w) (and_then g λ v rest. got (w ∷ v) rest)) (further_at_lem n (i + 1))
        ∙ ap (check (ltb i (length ws) && clear 2048 w)) (then_check (further_test n ws (i + 1)) _ _)
        ∙ check_and (ltb i (length ws) && clear 2048 w) (further_test n ws (i + 1)) _
        ∙ ap (λ j. check (ltb i (length ws) && clear 2048 w && further_test n ws (i + 1)) (got (w ∷ words_at n ws (i + 1)) (drop j ws))) e

    -- own words that begin with a list of variables
    pub fixed_list :
        (os : List Own) (i : ℕ) →
        fixed_words (variables ∷ os) (drop i ws)
        ≡ check (list_test ws i) (and_then (fixed_words os (drop (i + at ws i) ws)) λ f rest. got (at ws i ∷ further_at ws i ++ f) rest)
    unfolding fixed_words list_test and_then
    fixed_list os i =
        let c : ℕ = at ws i in
        let some : Bool = ltb 0 c && leb c 4 in
        at_next (fixed_words (variables ∷ os)) refl ws i (i + 1) refl
        ∙ check_and (ltb i (length ws)) some _
        ∙ ap (λ g. check (ltb i (length ws) && some) (and_then g λ v then. and_then (fixed_words os then) λ f rest. got (c ∷ v ++ f) rest)) (further_at_lem (c - 1) (i + 1))
        ∙ ap (check (ltb i (length ws) && some)) (then_check (further_test (c - 1) ws (i + 1)) _ _)
        ∙ check_and (ltb i (length ws) && some) (further_test (c - 1) ws (i + 1)) _
        ∙ when_tested (list_test ws i) (λ t. let h = list_some i t in
        let e : i + 1 + (c - 1) ≡ i + c = omega arith in
        ap (λ j. and_then (fixed_words os (drop j ws)) λ f rest. got (c ∷ further_at ws i ++ f) rest) e)

  pub list_when : (i : ℕ) → variables_end ws i ≡ when (list_test ws i) (i + at ws i)
  unfolding variables_end list_test
  list_when i =
      let c : ℕ = at ws i in
      let some : Bool = ltb i (length ws) && (ltb 0 c && leb c 4) in
      ap (when some) (further_when (c - 1) (i + 1))
      ∙ sym (when_and some (further_test (c - 1) ws (i + 1)) (i + 1 + (c - 1)))
      ∙ when_same (list_test ws i) (λ t. let h = list_some i t in omega arith)

  -- ---- none twice

  among_member : (n i x : ℕ) → T (further_test n ws i) → among n ws x i ≡ member x (further_of (words_at n ws i))
  unfolding among further_test words_at further_of member
  among_member zero i x t = refl
  among_member (suc n) i x t =
      let u = split (ltb i (length ws) && clear 2048 (at ws i)) (further_test n ws (i + 1)) t in
      let v = split (ltb i (length ws)) (clear 2048 (at ws i)) u.0 in
      rw (test_true (ltb i (length ws)) v.0, among_member n (i + 1) x u.1) refl

  distinct_from_lem : (n i x : ℕ) → T (further_test n ws i) → distinct_from n ws x i ≡ distinct (x ∷ further_of (words_at n ws i))
  unfolding distinct_from distinct words_at further_of further_test member
  distinct_from_lem zero i x t = refl
  distinct_from_lem (suc n) i x t =
      let u = split (ltb i (length ws) && clear 2048 (at ws i)) (further_test n ws (i + 1)) t in
      let v = split (ltb i (length ws)) (clear 2048 (at ws i)) u.0 in
      rw (among_member (suc n) i x t, test_true (ltb i (length ws)) v.0, distinct_from_lem n (i + 1) (first_variable (at ws i)) u.1) refl

  pub receiving_when : (first i : ℕ) → receiving_end ws first i ≡ when (list_test ws i && distinct (first ∷ further_of (further_at ws i))) (i + at ws i)
  unfolding receiving_end
  receiving_when first i =
      let d : Bool = distinct_from (at ws i - 1) ws first (i + 1) in
      rw (list_when i, on_when (list_test ws i))
      (when_same (list_test ws i) (λ t. let h = list_some i t in
      on_past (i + at ws i) (when d) (omega arith)
      ∙ ap (λ b. when b (i + at ws i)) (distinct_from_lem (at ws i - 1) (i + 1) first (list_further i t)))
      ∙ sym (when_and (list_test ws i) (distinct (first ∷ further_of (further_at ws i))) (i + at ws i)))

  -- on behind a list
  pub on_list : (i : ℕ) (k : ℕ → ℕ) → on (variables_end ws i) k ≡ when (list_test ws i) (k (i + at ws i))
  on_list i k =
      rw (list_when i, on_when (list_test ws i))
      (when_same (list_test ws i) (λ t. let h = list_some i t in on_past (i + at ws i) k (omega arith)))

  pub on_receiving :
      (first i : ℕ) (k : ℕ → ℕ) →
      on (receiving_end ws first i) k ≡ when (list_test ws i && distinct (first ∷ further_of (further_at ws i))) (k (i + at ws i))
  on_receiving first i k =
      let x : Bool = distinct (first ∷ further_of (further_at ws i)) in
      rw (receiving_when first i, on_when (list_test ws i && x))
      (when_same (list_test ws i && x) (λ t. let h = list_some i (split (list_test ws i) x t).0 in on_past (i + at ws i) k (omega arith)))

-- ---- the variables of a list that was read, and what stands behind it

module _ (ws : List ℕ) (i : ℕ) where
  pub variables_at : (first : ℕ) (f : List ℕ) → variables_of first (at ws i ∷ further_at ws i ++ f) ≡ first ∷ further_of (further_at ws i)
  unfolding variables_of
  variables_at first f = ap (λ l. first ∷ further_of l) (take_at (further_at ws i) f (at ws i - 1) (words_length (at ws i - 1) ws (i + 1)))

  pub behind_at : (f : List ℕ) → behind_variables (at ws i ∷ further_at ws i ++ f) ≡ f
  unfolding behind_variables
  behind_at f = drop_at (further_at ws i) f (at ws i - 1) (words_length (at ws i - 1) ws (i + 1))
