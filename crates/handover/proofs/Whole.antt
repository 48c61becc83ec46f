-- The program's way over its input, with the lines and words that the contracts give, prints the definitions' text. The contract of
-- `handover` says that the program goes this way. Its turns are 2^64 - 2.
-- Assumes nothing.
use Prim.Native.Nat.{ℕ, zero, suc, ◌+◌, ◌-◌, ◌*◌, ◌≤◌, ◌<◌}
use native.Mathlib.Omega.{arith}
use native.Mathlib.Decide.{dec_le}
use mathlib.Core.Path.{◌≡◌, refl, sym, ap, subst, ◌∙◌}
use mathlib.Core.Bool.{Bool, true, false, ◌||◌}
use mathlib.Core.List.{List, [], ◌∷◌, ◌++◌, append-nil}
use lib.Dec.{ltb}
use lib.ListN.{length, get_or, take, drop, length-drop}
use lib.Seq.{take_all, take-take, length-take-le, get_or-take}
use borrow.Author.Tests.{lt-ltb, le-ltb}
use Rattle.sock.specs.Configuration.{standard, read_config}
use Rattle.sock.specs.Calls.{step, answer_of, check_start, start, passed, ◌!◌, ◌>>=◌}
use Rattle.sock.specs.Bytes.{words_of, words_or_none, numbers_in, words_after, start_line, step_line, step_lines, started, configured, handover}
use Rattle.handover.specs.Printed.{count_in, wanted_for, start_words, last_line, turn_line, turn_words, steps_text, words_read, left_behind_words}
use Rattle.handover.proofs.Starting.{some_wanted, too_many, some_missing, all_there}
use Rattle.handover.proofs.Turning.{numbers_as}

-- ---- the program's way

-- it ends if the check's number is not 0
unfoldable pub unless_refused : ℕ → List ℕ → List ℕ
unless_refused zero text = text
unless_refused (suc n) text = []

unfoldable pub begun : ℕ → List ℕ → List ℕ → List ℕ
begun turns ws input = start_line (check_start standard ws) ++ unless_refused (check_start standard ws) (steps_text turns 1 ws input)

-- two bytes are read, then as many as the word that they are wants
unfoldable pub main_text : ℕ → List ℕ → List ℕ
main_text turns input =
    begun turns (words_read input) (left_behind_words input)

-- ---- the steps

pair_of : (input : List ℕ) (i j : ℕ) → i < 10 → j < 10 → get_or (take 10 input) i 0 * 256 + get_or (take 10 input) j 0 ≡ get_or input i 0 * 256 + get_or input j 0
pair_of input i j a b =
    ap (λ (x : ℕ). x * 256 + get_or (take 10 input) j 0) (get_or-take 10 input i 0 a) ∙ ap (λ (x : ℕ). get_or input i 0 * 256 + x) (get_or-take 10 input j 0 b)

pub ten_numbers : (input : List ℕ) → numbers_in (take 10 input) ≡ numbers_in input
unfolding numbers_in
ten_numbers input =
    numbers_as input _ _ _ _ _ (pair_of input 0 1 (omega arith) (omega arith)) (pair_of input 2 3 (omega arith) (omega arith))
    (pair_of input 4 5 (omega arith) (omega arith))
    (pair_of input 6 7 (omega arith) (omega arith))
    (pair_of input 8 9 (omega arith) (omega arith))

-- less than ten bytes are left
pub last_is : (turns i : ℕ) (ws input : List ℕ) → length input < 10 → steps_text (suc turns) i ws input ≡ last_line (length ws) input
unfolding steps_text turn_line
last_is turns i ws input h =
    let t : take 10 input ≡ input = take_all 10 input (omega (arith, h)) in
    let b : ltb (length input) 10 ≡ true = lt-ltb (length input) 10 h in
    rw (t, b) (append-nil (last_line (length ws) input))

lines_last : (fuel i : ℕ) (ws input : List ℕ) → length input < 10 → step_lines fuel i ws input ≡ last_line (length ws) input
unfolding step_lines last_line
lines_last zero i ws [] h = refl
lines_last zero i ws (b ∷ input) h = refl
lines_last (suc fuel) i ws [] h = refl
lines_last (suc fuel) i ws (b ∷ input) h = rw (lt-ltb (length (b ∷ input)) 10 h, step_lines) refl

ten_below : (input : List ℕ) → 10 ≤ length input → ltb (length (take 10 input)) 10 ≡ false
ten_below input h = let l : length (take 10 input) ≡ 10 = length-take-le 10 input h in le-ltb (length (take 10 input)) 10 (omega (arith, l))

ten_line : (i : ℕ) (ws input : List ℕ) → 10 ≤ length input → turn_line i ws (take 10 input) ≡ step_line i (answer_of (step standard ws (numbers_in input) 8192))
unfolding turn_line
ten_line i ws input h = rw (ten_below input h, ten_numbers input) refl

ten_words : (ws input : List ℕ) → 10 ≤ length input → turn_words ws (take 10 input) ≡ words_after (step standard ws (numbers_in input) 8192) ws
unfolding turn_words
ten_words ws input h = rw (ten_below input h, ten_numbers input) refl

pub next_is :
    (turns i : ℕ) (ws input : List ℕ) → 10 ≤ length input →
    steps_text (suc turns) i ws input
    ≡ step_line i (answer_of (step standard ws (numbers_in input) 8192))
    ++ steps_text turns (suc i) (words_after (step standard ws (numbers_in input) 8192) ws) (drop 10 input)
unfolding steps_text
next_is turns i ws input h = rw (ten_line i ws input h, ten_below input h, ten_words ws input h) refl

lines_next :
    (fuel i : ℕ) (ws input : List ℕ) → 10 ≤ length input →
    step_lines (suc fuel) i ws input
    ≡ step_line i (answer_of (step standard ws (numbers_in input) 8192))
    ++ step_lines fuel (suc i) (words_after (step standard ws (numbers_in input) 8192) ws) (drop 10 input)
unfolding step_lines
lines_next fuel i ws input h = rw (le-ltb (length input) 10 h, step_lines) refl

-- the same by the lines and words of each turn
module _ (turns i : ℕ) (ws input got : List ℕ) (front : got ≡ take 10 input) where
  pub turn_last : ltb (length got) 10 ≡ true → steps_text (suc turns) i ws input ≡ turn_line i ws got
  unfolding steps_text
  turn_last =
      let P : List ℕ → Type 0 = λ l. ltb (length l) 10 ≡ true → steps_text (suc turns) i ws input ≡ turn_line i ws l in
      subst P (sym front) (λ b. rw b (append-nil (turn_line i ws (take 10 input))))

  pub turn_next :
      ltb (length got) 10 ≡ false → steps_text (suc turns) i ws input ≡ turn_line i ws got ++ steps_text turns (suc i) (turn_words ws got) (drop 10 input)
  unfolding steps_text
  turn_next =
      let P : List ℕ → Type 0 =
      λ l. ltb (length l) 10 ≡ false → steps_text (suc turns) i ws input ≡ turn_line i ws l ++ steps_text turns (suc i) (turn_words ws l) (drop 10 input)
      in
      subst P (sym front) (λ b. rw b refl)

steps_is :
    (turns fuel i : ℕ) (ws input : List ℕ) → length input ≤ fuel → length input < turns → steps_text turns i ws input ≡ step_lines fuel i ws input
steps_is zero fuel i ws input a b = absurd (omega (arith, b))
steps_is (suc turns) zero i ws input a b = last_is turns i ws input (omega (arith, a)) ∙ sym (lines_last zero i ws input (omega (arith, a)))
steps_is (suc turns) (suc fuel) i ws input a b =
    by (dec_le 10 (length input)) (steps_is turns fuel (suc i) (words_after (step standard ws (numbers_in input) 8192) ws) (drop 10 input))
  where
    by :
        Dec (10 ≤ length input) →
        (length (drop 10 input) ≤ fuel → length (drop 10 input) < turns →
        steps_text turns (suc i) (words_after (step standard ws (numbers_in input) 8192) ws) (drop 10 input)
        ≡ step_lines fuel (suc i) (words_after (step standard ws (numbers_in input) 8192) ws) (drop 10 input)) →
        steps_text (suc turns) i ws input ≡ step_lines (suc fuel) i ws input
    by (yes h) rest =
        let l : length (drop 10 input) ≡ length input - 10 = length-drop 10 input in
        next_is turns i ws input h
        ∙ ap (λ (t : List ℕ). step_line i (answer_of (step standard ws (numbers_in input) 8192)) ++ t) (rest (omega (arith, a, l)) (omega (arith, b, h, l)))
        ∙ sym (lines_next fuel i ws input h)
    by (no h) rest = let l : length input < 10 = omega (arith, h) in last_is turns i ws input l ∙ sym (lines_last (suc fuel) i ws input l)

-- ---- the start

no_words : check_start standard [] ≡ 1
unfolding check_start start passed read_config ◌!◌ ◌>>=◌
no_words = refl

refused_is : (turns : ℕ) (ws input : List ℕ) → [] ≡ ws → begun turns ws input ≡ start_line 1
unfolding begun unless_refused
refused_is turns ws input e =
    let z : check_start standard ws ≡ 1 = ap (check_start standard) (sym e) ∙ no_words in rw z (append-nil (start_line 1))

started_by : (turns : ℕ) (ws input : List ℕ) → length input < turns → (m : ℕ) → start_line m ++ unless_refused m (steps_text turns 1 ws input) ≡ started m ws input
unfolding unless_refused started
started_by turns ws input h zero = ap (λ (l : List ℕ). start_line zero ++ l) (steps_is turns (length input) 1 ws input (omega arith) h)
started_by turns ws input h (suc m) = append-nil (start_line (suc m))

configured_by :
    (n : ℕ) (bytes : List ℕ) (b d : Bool) → ltb 8192 n ≡ b → ltb (length bytes) (2 * n) ≡ d →
    configured n bytes
    ≡ elim (b || d) [
      | true ↦ start_line 1
      | false ↦ started (check_start standard (words_or_none (words_of (take (2 * n) bytes)))) (words_or_none (words_of (take (2 * n) bytes))) (drop (2 * n) bytes)
    ]
unfolding configured
configured_by n bytes b d p q =
    let text : Bool → List ℕ =
    λ t.
    elim t [
      | true ↦ start_line 1
      | false ↦ started (check_start standard (words_or_none (words_of (take (2 * n) bytes)))) (words_or_none (words_of (take (2 * n) bytes))) (drop (2 * n) bytes)
    ]
    in
    ap (λ (t : Bool). text (t || ltb (length bytes) (2 * n))) p ∙ ap (λ (t : Bool). text (b || t)) q

begun_all : (turns : ℕ) (ws input : List ℕ) → length input < turns → begun turns ws input ≡ started (check_start standard ws) ws input
unfolding begun
begun_all turns ws input h = started_by turns ws input h (check_start standard ws)

all_words : (n : ℕ) (bytes : List ℕ) → n ≤ 8192 → n * 2 ≤ length bytes → start_words n (take (n * 2) bytes) ≡ words_or_none (words_of (take (n * 2) bytes))
all_words n bytes h l =
    let e : length (take (n * 2) bytes) ≡ n * 2 = length-take-le (n * 2) bytes l in
    all_there n (take (n * 2) bytes) h (omega (arith, e)) ∙ ap (λ (u : List ℕ). words_or_none (words_of u)) (take-take (n * 2) (n * 2) bytes (omega arith))

begun_is :
    (turns n : ℕ) (bytes : List ℕ) → length bytes < turns →
    begun turns (start_words n (take (wanted_for n) bytes)) (drop (wanted_for n) bytes) ≡ configured n bytes
begun_is turns n bytes t = by (dec_le n 8192) (dec_le (n * 2) (length bytes))
  where
    twice : n * 2 ≡ 2 * n
    twice = omega arith

    by : Dec (n ≤ 8192) → Dec (n * 2 ≤ length bytes) → begun turns (start_words n (take (wanted_for n) bytes)) (drop (wanted_for n) bytes) ≡ configured n bytes
    by (no h) l =
        let m : 8192 < n = omega (arith, h) in
        refused_is turns (start_words n (take (wanted_for n) bytes)) (drop (wanted_for n) bytes) (too_many n (take (wanted_for n) bytes) m)
        ∙ sym (configured_by n bytes true (ltb (length bytes) (2 * n)) (lt-ltb 8192 n m) refl)
    by (yes h) (no l) =
        let m : length bytes < n * 2 = omega (arith, l) in
        let w : n * 2 ≡ wanted_for n = some_wanted n h in
        let e : take (wanted_for n) bytes ≡ bytes = take_all (wanted_for n) bytes (omega (arith, m, w)) in
        refused_is turns (start_words n (take (wanted_for n) bytes)) (drop (wanted_for n) bytes) (some_missing n bytes m ∙ ap (start_words n) (sym e))
        ∙ sym (configured_by n bytes false true (le-ltb 8192 n h) (lt-ltb (length bytes) (2 * n) (omega (arith, m))))
    by (yes h) (yes l) =
        let w : wanted_for n ≡ n * 2 = sym (some_wanted n h) in
        let d : length (drop (n * 2) bytes) ≡ length bytes - n * 2 = length-drop (n * 2) bytes in
        ap (λ (m : ℕ). begun turns (start_words n (take m bytes)) (drop m bytes)) w
        ∙ ap (λ (ws : List ℕ). begun turns ws (drop (n * 2) bytes)) (all_words n bytes h l)
        ∙ begun_all turns (words_or_none (words_of (take (n * 2) bytes))) (drop (n * 2) bytes) (omega (arith, t, d))
        ∙ ap
        (λ (m : ℕ). started (check_start standard (words_or_none (words_of (take m bytes)))) (words_or_none (words_of (take m bytes))) (drop m bytes))
        twice
        ∙ sym (configured_by n bytes false false (le-ltb 8192 n h) (le-ltb (length bytes) (2 * n) (omega (arith, l))))

pub main_is : (turns : ℕ) (input : List ℕ) → length input < turns → main_text turns input ≡ handover input
unfolding main_text words_read left_behind_words handover count_in
main_is turns [] h = refused_is turns (start_words 8193 _) _ (too_many 8193 _ (omega arith))
main_is turns (high ∷ []) h = refused_is turns (start_words 8193 _) _ (too_many 8193 _ (omega arith))
main_is turns (high ∷ low ∷ bytes) h = begun_is turns (high * 256 + low) bytes (omega (arith, h))
