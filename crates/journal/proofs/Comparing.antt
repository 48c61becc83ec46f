-- Words alike, counted on from any place: by blocks and word by word, from the front and from the back.
-- Assumes nothing.
use Prim.Native.Nat.{ℕ, ◌*◌, zero, suc, ◌+◌, ◌-◌, ◌≤◌, ◌<◌, min}
use native.Mathlib.Omega.{arith}
use mathlib.Core.Path.{◌≡◌, refl, sym, ap, subst, ◌∙◌}
use mathlib.Core.Bool.{Bool, true, false}
use mathlib.Core.List.{List, [], ◌∷◌, ◌++◌, append_assoc, reverse, reverse-append, reverse-cons}
use lib.Dec.{ltb}
use lib.ListN.{length, get_or, take, drop, length-drop, length-reverse, take-append-drop, drop_of_length-le, get_or-append}
use lib.Seq.{length-take-le, take_all, take_at, drop_at, drop-drop, drop-cons, get_or-append_seam}
use borrow.Author.Tests.{eq-eqb, ne_eqb, ltb-true, ltb-false}
use Rattle.sock.specs.Journal.{alike, alike_behind, same_words}
use Rattle.sock.proofs.Journal.{same_words_lem}
use Rattle.journal.specs.Comparing.{both_of}

-- ---- counted on

alike_none : (xs : List ℕ) → alike xs [] ≡ 0
unfolding alike
alike_none [] = refl
alike_none (x ∷ xs) = refl

none_alike : (ys : List ℕ) → alike [] ys ≡ 0
unfolding alike
none_alike ys = refl

-- so many words the same, and then what is alike behind them
pub alike_on :
    (n : ℕ) (xs ys : List ℕ) → n ≤ length xs → n ≤ length ys → take n xs ≡ take n ys → alike xs ys ≡ n + alike (drop n xs) (drop n ys)
unfolding alike
alike_on zero xs ys a b e = omega arith
alike_on (suc n) [] ys a b e = absurd (omega arith)
alike_on (suc n) (x ∷ xs) [] a b e = absurd (omega arith)
alike_on (suc n) (x ∷ xs) (y ∷ ys) a b e =
    let p : x ≡ y = cc in
    let q : take n xs ≡ take n ys = cc in
    rw (eq-eqb x y p) (omega (arith, alike_on n xs ys (omega arith) (omega arith) q))

alike_differs : (x y : ℕ) (xs ys : List ℕ) → (x ≡ y → ⊥) → alike (x ∷ xs) (y ∷ ys) ≡ 0
unfolding alike
alike_differs x y xs ys h = rw (ne_eqb x y h)

alike_same : (x y : ℕ) (xs ys : List ℕ) → x ≡ y → alike (x ∷ xs) (y ∷ ys) ≡ suc (alike xs ys)
unfolding alike
alike_same x y xs ys h = rw (eq-eqb x y h)

module _ (a b : List ℕ) (k : ℕ) where
  split : (c : List ℕ) → k < length c → drop k c ≡ get_or c k 0 ∷ drop (suc k) c
  split c h = drop-cons c k 0 h

  module _ (h : k < length a) (g : k < length b) where
    pub word_same : get_or a k 0 ≡ get_or b k 0 → alike (drop k a) (drop k b) ≡ suc (alike (drop (k + 1) a) (drop (k + 1) b))
    word_same e =
        let s : suc k ≡ k + 1 = omega arith in
        ap (λ (c : List ℕ). alike c (drop k b)) (split a h)
        ∙ ap (λ (c : List ℕ). alike (get_or a k 0 ∷ drop (suc k) a) c) (split b g)
        ∙ alike_same (get_or a k 0) (get_or b k 0) (drop (suc k) a) (drop (suc k) b) e
        ∙ ap (λ (n : ℕ). suc (alike (drop n a) (drop n b))) s

    pub word_differs : (get_or a k 0 ≡ get_or b k 0 → ⊥) → alike (drop k a) (drop k b) ≡ 0
    word_differs e =
        ap (λ (c : List ℕ). alike c (drop k b)) (split a h)
        ∙ ap (λ (c : List ℕ). alike (get_or a k 0 ∷ drop (suc k) a) c) (split b g)
        ∙ alike_differs (get_or a k 0) (get_or b k 0) (drop (suc k) a) (drop (suc k) b) e

  -- no word is left in one of them
  pub word_none : min (length a) (length b) ≤ k → alike (drop k a) (drop k b) ≡ 0
  word_none h = by (ltb (length a) (length b)) refl
    where
      by : (t : Bool) → ltb (length a) (length b) ≡ t → alike (drop k a) (drop k b) ≡ 0
      by true e =
          let less : length a ≤ k = omega (arith, ltb-true (length a) (length b) e) in
          ap (λ (c : List ℕ). alike c (drop k b)) (drop_of_length-le a less) ∙ none_alike (drop k b)
      by false e =
          let less : length b ≤ k = omega (arith, ltb-false (length a) (length b) e) in
          ap (alike (drop k a)) (drop_of_length-le b less) ∙ alike_none (drop k a)

  pub block_same :
      (n : ℕ) → k + n ≤ length a → k + n ≤ length b → take n (drop k a) ≡ take n (drop k b) →
      alike (drop k a) (drop k b) ≡ n + alike (drop (k + n) a) (drop (k + n) b)
  block_same n h g e =
      alike_on n (drop k a) (drop k b) (omega (arith, length-drop k a)) (omega (arith, length-drop k b)) e
      ∙ ap (λ (c : List ℕ). n + alike c (drop n (drop k b))) (drop-drop n k a)
      ∙ ap (λ (c : List ℕ). n + alike (drop (k + n) a) c) (drop-drop n k b)

-- ---- from the back

pub get_d_reverse : (a : List ℕ) (k : ℕ) → k < length a → get_or (reverse a) k 0 ≡ get_or a (length a - 1 - k) 0
get_d_reverse [] k h = absurd (omega arith)
get_d_reverse (x ∷ a) k h = by (ltb k (length a)) refl (λ g. get_d_reverse a k g)
  where
    by :
        (t : Bool) → ltb k (length a) ≡ t → (k < length a → get_or (reverse a) k 0 ≡ get_or a (length a - 1 - k) 0) →
        get_or (reverse (x ∷ a)) k 0 ≡ get_or (x ∷ a) (suc (length a) - 1 - k) 0
    by true e f =
        let g : k < length a = ltb-true k (length a) e in
        let s : suc (length a) - 1 - k ≡ suc (length a - 1 - k) = omega arith in
        ap (λ (l : List ℕ). get_or l k 0) (reverse-cons x a)
        ∙ get_or-append (reverse a) (x ∷ []) 0 k (omega (arith, length-reverse a))
        ∙ f g
        ∙ sym (ap (λ (n : ℕ). get_or (x ∷ a) n 0) s)
    by false e f =
        let g : length a ≤ k = ltb-false k (length a) e in
        let m : k ≡ length (reverse a) = omega (arith, length-reverse a) in
        let s : suc (length a) - 1 - k ≡ 0 = omega arith in
        ap (λ (l : List ℕ). get_or l k 0) (reverse-cons x a)
        ∙ ap (λ (n : ℕ). get_or (reverse a ++ x ∷ []) n 0) m
        ∙ get_or-append_seam (reverse a) x [] 0
        ∙ sym (ap (λ (n : ℕ). get_or (x ∷ a) n 0) s)

parts_reverse : (p m s : List ℕ) → take (length m) (drop (length s) (reverse (p ++ (m ++ s)))) ≡ reverse m
parts_reverse p m s =
    let e : reverse (p ++ (m ++ s)) ≡ reverse s ++ (reverse m ++ reverse p) =
    reverse-append p (m ++ s) ∙ ap (λ (l : List ℕ). l ++ reverse p) (reverse-append m s) ∙ append_assoc (reverse s) (reverse m) (reverse p) in
    ap (λ (l : List ℕ). take (length m) (drop (length s) l)) e
    ∙ ap (take (length m)) (drop_at (reverse s) (reverse m ++ reverse p) (length s) (length-reverse s))
    ∙ take_at (reverse m) (reverse p) (length m) (length-reverse m)

-- the block of n words that has i words behind it
block_reverse : (n i : ℕ) (a : List ℕ) → i + n ≤ length a → take n (drop i (reverse a)) ≡ reverse (take n (drop (length a - i - n) a))
block_reverse n i a h =
    let o = length a - i - n in
    let p = take o a in
    let m = take n (drop o a) in
    let s = drop n (drop o a) in
    let whole : p ++ (m ++ s) ≡ a = ap (λ (l : List ℕ). p ++ l) (take-append-drop n (drop o a)) ∙ take-append-drop o a in
    let lm : length m ≡ n = length-take-le n (drop o a) (omega (arith, length-drop o a)) in
    let ls : length s ≡ i = length-drop n (drop o a) ∙ omega (arith, length-drop o a) in
    sym
    (ap (λ (l : List ℕ). take (length m) (drop (length s) (reverse l))) whole
    ∙ ap (λ (k : ℕ). take k (drop (length s) (reverse a))) lm
    ∙ ap (λ (k : ℕ). take n (drop k (reverse a))) ls)
    ∙ parts_reverse p m s

-- ---- what a turn of a loop adds

module _ (a b : List ℕ) where
  -- by blocks: as many are alike, and then what is alike behind them
  pub first_turn :
      (block : ℕ) → block * 16 + 16 ≤ length a → block * 16 + 16 ≤ length b →
      true ≡ same_words (take 16 (drop (block * 16) a)) (take 16 (drop (block * 16) b)) →
      alike a b ≡ block * 16 + alike (drop (block * 16) a) (drop (block * 16) b) →
      alike a b ≡ (block + 1) * 16 + alike (drop ((block + 1) * 16) a) (drop ((block + 1) * 16) b)
  first_turn block h g e inv =
      let next : block * 16 + 16 ≡ (block + 1) * 16 = omega arith in
      rw (← next) (omega (arith, block_same a b (block * 16) 16 h g (same_words_lem _ _ (sym e))))

  pub last_turn :
      (block : ℕ) → block * 16 + 16 ≤ length a → block * 16 + 16 ≤ length b →
      true ≡ same_words (take 16 (drop (length a - block * 16 - 16) a)) (take 16 (drop (length b - block * 16 - 16) b)) →
      alike (reverse a) (reverse b) ≡ block * 16 + alike (drop (block * 16) (reverse a)) (drop (block * 16) (reverse b)) →
      alike (reverse a) (reverse b) ≡ (block + 1) * 16 + alike (drop ((block + 1) * 16) (reverse a)) (drop ((block + 1) * 16) (reverse b))
  last_turn block h g e inv =
      let next : block * 16 + 16 ≡ (block + 1) * 16 = omega arith in
      let same : take 16 (drop (block * 16) (reverse a)) ≡ take 16 (drop (block * 16) (reverse b)) =
      block_reverse 16 (block * 16) a h ∙ ap reverse (same_words_lem _ _ (sym e)) ∙ sym (block_reverse 16 (block * 16) b g) in
      rw (← next) (omega (
        arith,
        block_same (reverse a) (reverse b) (block * 16) 16 (omega (arith, length-reverse a)) (omega (arith, length-reverse b)) same,
      ))

  -- word by word
  pub first_word :
      (i k : ℕ) → k < length a → k < length b → get_or a k 0 ≡ get_or b k 0 → i + alike (drop i a) (drop i b) ≡ k + alike (drop k a) (drop k b) →
      i + alike (drop i a) (drop i b) ≡ k + 1 + alike (drop (k + 1) a) (drop (k + 1) b)
  first_word i k h g e inv = omega (arith, word_same a b k h g e)

  pub first_stop :
      (i k : ℕ) → k < length a → k < length b → (get_or a k 0 ≡ get_or b k 0 → ⊥) →
      i + alike (drop i a) (drop i b) ≡ k + alike (drop k a) (drop k b) → k ≡ i + alike (drop i a) (drop i b)
  first_stop i k h g e inv = omega (arith, word_differs a b k h g e)

  pub first_end :
      (i k : ℕ) → min (length a) (length b) ≤ k → i + alike (drop i a) (drop i b) ≡ k + alike (drop k a) (drop k b) →
      k ≡ i + alike (drop i a) (drop i b)
  first_end i k h inv = omega (arith, word_none a b k h)

  pub first_begin : alike a b ≡ 0 + alike (drop 0 a) (drop 0 b)
  first_begin = omega arith

  back_word : {k : ℕ} → k < length a → k < length b → get_or a (length a - 1 - k) 0 ≡ get_or b (length b - 1 - k) 0 → get_or (reverse a) k 0 ≡ get_or (reverse b) k 0
  back_word {k} h g e = get_d_reverse a k h ∙ e ∙ sym (get_d_reverse b k g)

  pub last_word :
      (i k : ℕ) → k < length a → k < length b → get_or a (length a - 1 - k) 0 ≡ get_or b (length b - 1 - k) 0 →
      i + alike (drop i (reverse a)) (drop i (reverse b)) ≡ k + alike (drop k (reverse a)) (drop k (reverse b)) →
      i + alike (drop i (reverse a)) (drop i (reverse b)) ≡ k + 1 + alike (drop (k + 1) (reverse a)) (drop (k + 1) (reverse b))
  last_word i k h g e inv =
      omega (arith, word_same (reverse a) (reverse b) k (omega (arith, length-reverse a)) (omega (arith, length-reverse b)) (back_word h g e))

  pub last_stop :
      (i k : ℕ) → k < length a → k < length b → (get_or a (length a - 1 - k) 0 ≡ get_or b (length b - 1 - k) 0 → ⊥) →
      i + alike (drop i (reverse a)) (drop i (reverse b)) ≡ k + alike (drop k (reverse a)) (drop k (reverse b)) →
      k ≡ i + alike (drop i (reverse a)) (drop i (reverse b))
  last_stop i k h g e inv =
      let differ : get_or (reverse a) k 0 ≡ get_or (reverse b) k 0 → ⊥ = λ w. e (sym (get_d_reverse a k h) ∙ w ∙ get_d_reverse b k g) in
      omega (arith, word_differs (reverse a) (reverse b) k (omega (arith, length-reverse a)) (omega (arith, length-reverse b)) differ)

  pub last_end :
      (i k : ℕ) → min (length a) (length b) ≤ k →
      i + alike (drop i (reverse a)) (drop i (reverse b)) ≡ k + alike (drop k (reverse a)) (drop k (reverse b)) →
      k ≡ i + alike (drop i (reverse a)) (drop i (reverse b))
  last_end i k h inv =
      let l : min (length (reverse a)) (length (reverse b)) ≤ k =
      subst (λ (n : ℕ). min n (length (reverse b)) ≤ k) (sym (length-reverse a))
      (subst (λ (n : ℕ). min (length a) n ≤ k) (sym (length-reverse b)) h) in
      omega (arith, word_none (reverse a) (reverse b) k l)

-- all words from a place on
pub rest_is : (n : ℕ) (a : List ℕ) → take (length a - n) (drop n a) ≡ drop n a
rest_is n a = take_all (length a - n) (drop n a) (omega (arith, length-drop n a))

-- both counts
pub both_is :
    (a b : List ℕ) (first last : ℕ) (x y : List ℕ) → first ≡ alike a b → x ≡ drop first a → y ≡ drop first b → last ≡ alike (reverse x) (reverse y) →
    record { first = first; last = last } ≡ both_of a b
unfolding alike_behind
both_is a b first last x y p u v q =
    let l : last ≡ alike (reverse (drop (alike a b) a)) (reverse (drop (alike a b) b)) =
    q
    ∙ ap (λ (z : List ℕ). alike (reverse z) (reverse y)) u
    ∙ ap (λ (z : List ℕ). alike (reverse (drop first a)) (reverse z)) v
    ∙ ap (λ (n : ℕ). alike (reverse (drop n a)) (reverse (drop n b))) p in
    ap (λ (n : ℕ). record { first = n; last = last }) p ∙ ap (λ (n : ℕ). record { first = alike a b; last = n }) l
