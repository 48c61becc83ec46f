-- What the calls answer, by the tests on the way.
-- Assumes nothing.
use Prim.Native.Nat.{ℕ, suc, ◌≤◌, ◌<◌}
use native.Mathlib.Omega.{arith}
use mathlib.Core.Path.{◌≡◌, refl, sym, ap, ◌∙◌}
use mathlib.Core.Bool.{Bool, true, false, ◌&&◌, cond}
use mathlib.Core.List.{List, [], ◌∷◌, ◌++◌}
use lib.Dec.{leb}
use lib.ListN.{length, get_or, take, drop, length-take}
use lib.Seq.{get_or-take, length-take-le}
use borrow.Author.Tests.{le-leb, leb-true, eq-eqb, ne_eqb}
use Rattle.std.proofs.lemmas.Grind.{common_steps}
use Rattle.window.specs.declared.answer.Answer.{Answer}
use Rattle.window.specs.Window.{answer, entry, times, window_of, entries_of, given, fits, next_number, last, enters, next_window, Count, count_of}
use Rattle.window.specs.Bytes.{bytes_of, window_in, byte_number, byte_window, packed, byte_count}
use Rattle.std.proofs.lemmas.Bool.{and_parts, and_from, and_left, and_right}
use Rattle.window.proofs.Given.{too_short}
use Rattle.window.proofs.Words.{given_formed}
use Rattle.window.proofs.Lasting.{last_length}
use Rattle.window.proofs.Whole.{whole, words_length, count_formed, fits_front, enters_front, given_front, entries_front}
use Rattle.window.proofs.Spelling.{words_count}

-- ---- handing an answer on

module _ (w : ℕ) (a : Answer) (words : List ℕ) where
  pub no_width : ¬ ((1 ≤ w) × (w ≤ 1024)) → fits w a words ≡ false
  unfolding fits
  no_width h = by (leb 1 w) refl (leb w 1024) refl
    where
      by : (b : Bool) → leb 1 w ≡ b → (c : Bool) → leb w 1024 ≡ c → (leb 1 w && (leb w 1024 && (leb a.operation 63 && given w words))) ≡ false
      by true p true q = absurd (h (leb-true 1 w p, leb-true w 1024 q))
      by true p false q = and_right (leb 1 w) _ (and_left (leb w 1024) _ q)
      by false p c q = and_left (leb 1 w) _ p

  pub no_operation : ¬ ((0 ≤ a.operation) × (a.operation ≤ 63)) → fits w a words ≡ false
  unfolding fits
  no_operation h = by (leb a.operation 63) refl
    where
      by : (b : Bool) → leb a.operation 63 ≡ b → (leb 1 w && (leb w 1024 && (leb a.operation 63 && given w words))) ≡ false
      by true p = absurd (h (omega arith, leb-true a.operation 63 p))
      by false p = and_right (leb 1 w) _ (and_right (leb w 1024) _ (and_left (leb a.operation 63) _ p))

  pub not_given : given w words ≡ false → fits w a words ≡ false
  unfolding fits
  not_given e = grind (arith, common_steps)

  module _ (low : 1 ≤ w) (high : w ≤ 1024) (known : a.operation ≤ 63) (is : given w words ≡ true) where
    pub it_fits : fits w a words ≡ true
    unfolding fits
    it_fits = grind (arith, common_steps)

    pub left_out : (a.number ≡ 0 → ⊥) → (fits w a words ≡ true) × (enters w a words ≡ false)
    unfolding enters
    left_out d = (it_fits, and_right (fits w a words) _ (ne_eqb a.number 0 d))

    pub not_accepted : (a.number ≡ 0 → ⊥) → (0 ≡ next_number w a words) × (words ≡ next_window w a words)
    unfolding next_number next_window
    not_accepted d = let (fit, out) = left_out d in (rw fit refl, rw out refl)

    pub has_entered :
        a.number ≡ 0 → (es : List ℕ) → es ≡ entries_of words → (e : ℕ) → e ≡ entry (answer 0 a.fault a.operation) → (after next : List ℕ) →
        after ≡ last w (es ++ (e ∷ [])) → next ≡ window_of after →
        (fits w a words ≡ true) × (enters w a words ≡ true) × (next ≡ window_of (last w (entries_of words ++ (entry a ∷ []))))
    unfolding enters entry
    has_entered z es p e q after next r s = (
      it_fits,
      and_from (fits w a words) _ it_fits (eq-eqb a.number 0 z),
      s ∙ ap window_of (r ∙ ap (λ (t : List ℕ). last w (t ++ (e ∷ []))) p) ∙ ap (λ (k : ℕ). window_of (last w (entries_of words ++ (k ∷ [])))) q,
    )

  pub next_length : fits w a words ≡ true → (next es : List ℕ) → next ≡ window_of (last w es) → length next ≡ 1089
  unfolding fits
  next_length f next es p =
      let high : w ≤ 1024 = leb-true w 1024 (and_parts (leb w 1024) _ (and_parts (leb 1 w) _ f).1).0 in
      let few : length (last w es) ≤ 1024 = omega (arith, last_length w es) in
      ap length p ∙ words_length (last w es) few

  -- what the tests say of the number and of the words

  refused : fits w a words ≡ false → (18 ≡ next_number w a words) × (enters w a words ≡ false)
  unfolding next_number enters
  refused e = grind (arith, common_steps)

  passed : fits w a words ≡ true → 0 ≡ next_number w a words
  unfolding next_number
  passed e = sym (ap (λ (t : Bool). cond t 0 18) e)

  stays : enters w a words ≡ false → words ≡ next_window w a words
  unfolding next_window
  stays e = grind (arith, common_steps)

  moves : enters w a words ≡ true → window_of (last w (entries_of words ++ (entry a ∷ []))) ++ drop 1089 words ≡ next_window w a words
  unfolding next_window
  moves e = grind (arith, common_steps)

  pub short : length words < 1089 → fits w a words ≡ false
  short h = not_given (sym (too_short w words h))

-- ---- on words

module _ (w : ℕ) (a : Answer) (window : List ℕ) where
  abbrev pub Next : ℕ → List ℕ → Type 0
  Next number after = (number ≡ next_number w a window) × (after ≡ next_window w a window)

  pub next_short : length window < 1089 → Next 18 window
  next_short h =
      let r = refused w a window (short w a window h) in
      (r.0, stays w a window r.1)

  module _ (room : 1089 ≤ length window) where
    pub next_refused : fits w a (take 1089 window) ≡ false → Next 18 window
    next_refused e =
        let r = refused w a window (sym (fits_front window room w a) ∙ e) in
        (r.0, stays w a window r.1)

    pub next_stays : (fits w a (take 1089 window) ≡ true) × (enters w a (take 1089 window) ≡ false) → Next 0 window
    next_stays e =
        (passed w a window (sym (fits_front window room w a) ∙ e.0), stays w a window (sym (enters_front window room w a) ∙ e.1))

    pub next_moves :
        (next : List ℕ) →
        (fits w a (take 1089 window) ≡ true) × (enters w a (take 1089 window) ≡ true)
        × (next ≡ window_of (last w (entries_of (take 1089 window) ++ (entry a ∷ [])))) →
        (after : List ℕ) → after ≡ next ++ drop 1089 window → Next 0 after
    unfolding fits
    next_moves next e after p =
        let f : fits w a window ≡ true = sym (fits_front window room w a) ∙ e.0 in
        let g = (and_parts (leb w 1024) _ (and_parts (leb 1 w) _ f).1).1 in
        let high : w ≤ 1024 = leb-true w 1024 (and_parts (leb w 1024) _ (and_parts (leb 1 w) _ f).1).0 in
        let es = entries_front window room w high (and_parts (leb a.operation 63) _ g).1 in (
          passed w a window f,
          p ∙ ap (λ (t : List ℕ). t ++ drop 1089 window) (e.2 ∙ ap (λ (t : List ℕ). window_of (last w (t ++ (entry a ∷ [])))) es)
              ∙ moves w a window (sym (enters_front window room w a) ∙ e.1),
        )

-- ---- the question

module _ (o : ℕ) (window : List ℕ) where
  count_by : (b : Bool) → (leb o 63 && given 1024 window) ≡ b → cond b (record { number = 0; count = get_or window o 0 }) (record { number = 18; count = 0 }) ≡ count_of o window
  unfolding count_of
  count_by b e = grind (arith, common_steps)

  abbrev pub counted : ℕ → ℕ → Count
  counted n k = record { number = n; count = k }

  pub count_unknown : ¬ ((0 ≤ o) × (o ≤ 63)) → counted 18 0 ≡ count_of o window
  count_unknown h = by (leb o 63) refl
    where
      by : (b : Bool) → leb o 63 ≡ b → counted 18 0 ≡ count_of o window
      by true p = absurd (h (omega arith, leb-true o 63 p))
      by false p = count_by false (and_left (leb o 63) _ p)

  pub count_refused : given 1024 window ≡ false → counted 18 0 ≡ count_of o window
  count_refused e = count_by false (and_right (leb o 63) _ e)

  pub count_short : length window < 1089 → counted 18 0 ≡ count_of o window
  count_short h = count_refused (sym (too_short 1024 window h))

  pub count_given : o ≤ 63 → given 1024 window ≡ true → (es : List ℕ) → es ≡ entries_of window → (k : ℕ) → k ≡ times (suc o) es → counted 0 k ≡ count_of o window
  count_given h e es p k q =
      ap (counted 0) (q ∙ ap (times (suc o)) p ∙ sym (count_formed window (given_formed 1024 window e (omega arith)) o h))
      ∙ count_by true (and_from _ _ (le-leb o 63 h) e)

  pub count_front : 1089 ≤ length window → count_of o (take 1089 window) ≡ count_of o window
  unfolding count_of
  count_front room = by (leb o 63) refl
    where
      by : (b : Bool) → leb o 63 ≡ b →
          cond (leb o 63 && given 1024 (take 1089 window)) (counted 0 (get_or (take 1089 window) o 0)) (counted 18 0)
          ≡ cond (leb o 63 && given 1024 window) (counted 0 (get_or window o 0)) (counted 18 0)
      by true p =
          let h : o ≤ 63 = leb-true o 63 p in
          ap (λ (t : Bool). cond (leb o 63 && t) (counted 0 (get_or (take 1089 window) o 0)) (counted 18 0)) (given_front window room 1024 (omega arith))
          ∙ ap (λ (k : ℕ). cond (leb o 63 && given 1024 window) (counted 0 k) (counted 18 0)) (get_or-take 1089 window o 0 (omega arith))
      by false p =
          ap (λ (t : Bool). cond (t && given 1024 (take 1089 window)) (counted 0 (get_or (take 1089 window) o 0)) (counted 18 0)) p
          ∙ sym (ap (λ (t : Bool). cond (t && given 1024 window) (counted 0 (get_or window o 0)) (counted 18 0)) p)

-- ---- on bytes

module _ (bytes : List ℕ) where
  few_words : length bytes < 2178 → length (window_in bytes) < 1089
  unfolding window_in
  few_words h = omega (arith, words_count (take 2178 bytes), length-take 2178 bytes)

  all_words : 2178 ≤ length bytes → length (window_in bytes) ≡ 1089
  unfolding window_in
  all_words h = omega (arith, words_count (take 2178 bytes), length-take-le 2178 bytes h)

  module _ (w : ℕ) (a : Answer) where
    abbrev pub NextBytes : ℕ → List ℕ → Type 0
    NextBytes number after = (number ≡ byte_number w a bytes) × (after ≡ byte_window w a bytes)

    pub bytes_stay : enters w a (window_in bytes) ≡ false → bytes ≡ byte_window w a bytes
    unfolding byte_window
    bytes_stay e = grind (arith, common_steps)

    pub bytes_refused : fits w a (window_in bytes) ≡ false → NextBytes 18 bytes
    unfolding byte_number
    bytes_refused e =
        let r = refused w a (window_in bytes) e in
        (r.0, bytes_stay r.1)

    pub bytes_short : length bytes < 2178 → NextBytes 18 bytes
    bytes_short h = bytes_refused (short w a (window_in bytes) (few_words h))

    pub bytes_passed : (fits w a (window_in bytes) ≡ true) × (enters w a (window_in bytes) ≡ false) → NextBytes 0 bytes
    unfolding byte_number
    bytes_passed e = (passed w a (window_in bytes) e.0, bytes_stay e.1)

    pub bytes_moved :
        2178 ≤ length bytes → (next : List ℕ) →
        (fits w a (window_in bytes) ≡ true) × (enters w a (window_in bytes) ≡ true)
        × (next ≡ window_of (last w (entries_of (window_in bytes) ++ (entry a ∷ [])))) →
        (after : List ℕ) → after ≡ bytes_of next ++ drop 2178 bytes → NextBytes 0 after
    unfolding byte_number byte_window
    bytes_moved room next e after p = (
      passed w a (window_in bytes) e.0,
      p ∙ ap (λ (t : List ℕ). bytes_of t ++ drop 2178 bytes)
          (e.2 ∙ sym (whole (window_in bytes) (window_of (last w (entries_of (window_in bytes) ++ (entry a ∷ [])))) (all_words room)) ∙ moves w a (window_in bytes) e.1)
          ∙ sym (ap (λ (t : Bool). cond t (bytes_of (next_window w a (window_in bytes)) ++ drop 2178 bytes) bytes) e.1),
    )

  pub count_bytes_short : (o : ℕ) → length bytes < 2178 → packed (record { number = 18; count = 0 }) ≡ byte_count o bytes
  unfolding byte_count
  count_bytes_short o h = ap packed (count_short o (window_in bytes) (few_words h))
