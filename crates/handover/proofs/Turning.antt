-- What a step leaves, in the code's terms: the answer, the words that the next step reads, and the line.
-- Assumes nothing.
use Prim.Native.Nat.{ℕ, ◌+◌, ◌*◌, ◌≤◌, ◌<◌}
use native.Mathlib.Omega.{arith}
use mathlib.Core.Path.{◌≡◌, refl, sym, ap, ◌∙◌}
use mathlib.Core.List.{List, [], ◌∷◌}
use lib.ListN.{length, get_or, take, drop}
use lib.Seq.{take-append_seam}
use borrow.Author.Tests.{lt-ltb, le-ltb}
use Rattle.sock.specs.Configuration.{standard, encode}
use Rattle.sock.specs.Calls.{Result, refused, done, Numbers, Stepped, step, Answer, answer_of, output_of, step_answer, step_output}
use Rattle.sock.specs.Bytes.{numbers_in, words_after, end_line, cut_line, step_line}
use Rattle.std.specs.Prelude as code
use Rattle.std.specs.Prelude.{Ok, Err, IfOk}
use Rattle.layout.specs.declared.refusal.Refusal.{Refusal}
use Rattle.stepping.specs.declared.answer.Accepted.{Accepted}
use Rattle.stepping.specs.Answers.{told, numbers}
use Rattle.sock.proofs.Rooms.{refusal_number, fits_room, step_agrees}
use Rattle.handover.specs.Printed.{last_line, turn_line, turn_words}

-- ---- the five numbers

pub numbers_as :
    (bytes : List ℕ) (a b c d e : ℕ) → a ≡ get_or bytes 0 0 * 256 + get_or bytes 1 0 → b ≡ get_or bytes 2 0 * 256 + get_or bytes 3 0 →
    c ≡ get_or bytes 4 0 * 256 + get_or bytes 5 0 → d ≡ get_or bytes 6 0 * 256 + get_or bytes 7 0 → e ≡ get_or bytes 8 0 * 256 + get_or bytes 9 0 →
    numbers a b c d e ≡ numbers_in bytes
unfolding numbers_in
numbers_as bytes a b c d e p q r s t =
    ap (λ (x : ℕ). numbers x b c d e) p
    ∙ ap (λ (x : ℕ). numbers (get_or bytes 0 0 * 256 + get_or bytes 1 0) x c d e) q
    ∙ ap (λ (x : ℕ). numbers (get_or bytes 0 0 * 256 + get_or bytes 1 0) (get_or bytes 2 0 * 256 + get_or bytes 3 0) x d e) r
    ∙ ap
    (λ (x : ℕ).
    numbers (get_or bytes 0 0 * 256 + get_or bytes 1 0) (get_or bytes 2 0 * 256 + get_or bytes 3 0) (get_or bytes 4 0 * 256 + get_or bytes 5 0) x e)
    s
    ∙ ap
    (λ (x : ℕ).
    numbers (get_or bytes 0 0 * 256 + get_or bytes 1 0) (get_or bytes 2 0 * 256 + get_or bytes 3 0) (get_or bytes 4 0 * 256 + get_or bytes 5 0)
    (get_or bytes 6 0 * 256 + get_or bytes 7 0) x)
    t

-- ---- the words

same_words_lem : (x : Result Stepped) → ((answer_of x).number ≡ 0 → ⊥) → (ws : List ℕ) → ws ≡ words_after x ws
unfolding answer_of words_after
same_words_lem (refused r) e ws = refl
same_words_lem (done s) e ws = absurd (e refl)

next_words_lem : (x : Result Stepped) → (answer_of x).number ≡ 0 → (o ws : List ℕ) → take (answer_of x).length (output_of x o) ≡ words_after x ws
unfolding answer_of output_of words_after
next_words_lem (refused r) e o ws = absurd (omega (arith, e, refusal_number r))
next_words_lem (done s) e o ws = take-append_seam (encode s.config) (drop (length (encode s.config)) o)

module _ (ws : List ℕ) (k : Numbers) (o : List ℕ) (a : Answer) (size : length o ≡ 8192) (p : a ≡ step_answer standard ws k o) where
  pub as_step : a ≡ answer_of (step standard ws k 8192)
  unfolding step_answer
  as_step = p ∙ ap (λ (m : ℕ). answer_of (step standard ws k m)) size

  pub refused_keeps : (a.number ≡ 0 → ⊥) → ws ≡ words_after (step standard ws k 8192) ws
  refused_keeps h = same_words_lem (step standard ws k 8192) (λ z. h (ap (λ (x : Answer). x.number) as_step ∙ z)) ws

  pub accepted_moves : a.number ≡ 0 → (o₁ : List ℕ) → o₁ ≡ step_output standard ws k o → take a.length o₁ ≡ words_after (step standard ws k 8192) ws
  unfolding step_output
  accepted_moves h o₁ q =
      let z = sym (ap (λ (x : Answer). x.number) as_step) ∙ h in
      let n = ap (λ (x : Answer). x.length) as_step in
      ap (λ (n : ℕ). take n o₁) n
      ∙ ap (λ (u : List ℕ). take (answer_of (step standard ws k 8192)).length u) (q ∙ ap (λ (n : ℕ). output_of (step standard ws k n) o) size)
      ∙ next_words_lem (step standard ws k 8192) z o ws

-- an answer's length is within the room
pub length_fits : (ws : List ℕ) (k : Numbers) (o : List ℕ) → length o ≤ 8192 → (step_answer standard ws k o).length ≤ length o
unfolding step_answer answer_of
length_fits ws k o h = fits (step standard ws k (length o)) (fits_room (step_agrees standard (length o) 8192 h ws k))
  where
    fits : (x : Result Stepped) → ((answer_of x).number ≡ 0 → (answer_of x).length ≤ length o) → (answer_of x).length ≤ length o
    fits (refused r) f = omega arith
    fits (done s) f = f refl

pub told_fits :
    (ws : List ℕ) (k : Numbers) (o : List ℕ) (g : code.Result Accepted Refusal) → told g ≡ step_answer standard ws k o →
    length o ≤ 8192 → IfOk g (λ a. a.length ≤ length o)
told_fits ws k o (Ok a) e h = let fits = length_fits ws k o h in omega (arith, ap (λ (b : Answer). b.length) e, fits)
told_fits ws k o (Err r) e h = tt

-- ---- the line

pub last_end : (n : ℕ) (bytes : List ℕ) → length bytes ≡ 0 → last_line n bytes ≡ end_line n
unfolding last_line
last_end n [] h = refl
last_end n (b ∷ bytes) h = absurd (omega arith)

pub last_cut : (n : ℕ) (bytes : List ℕ) → (length bytes ≡ 0 → ⊥) → last_line n bytes ≡ cut_line
unfolding last_line
last_cut n [] h = absurd (h refl)
last_cut n (b ∷ bytes) h = refl

module _ (ws bytes : List ℕ) (h : length bytes < 10) where
  pub last_words : turn_words ws bytes ≡ ws
  unfolding turn_words
  last_words = rw (lt-ltb (length bytes) 10 h) refl

  pub last_text : (i : ℕ) → turn_line i ws bytes ≡ last_line (length ws) bytes
  unfolding turn_line
  last_text i = rw (lt-ltb (length bytes) 10 h) refl

module _ (ws bytes : List ℕ) (h : 10 ≤ length bytes) where
  pub step_words : turn_words ws bytes ≡ words_after (step standard ws (numbers_in bytes) 8192) ws
  unfolding turn_words
  step_words = rw (le-ltb (length bytes) 10 h) refl

  pub step_text : (i : ℕ) → turn_line i ws bytes ≡ step_line i (answer_of (step standard ws (numbers_in bytes) 8192))
  unfolding turn_line
  step_text i = rw (le-ltb (length bytes) 10 h) refl
