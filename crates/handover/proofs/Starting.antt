-- The words of the start, in the code's terms.
-- Assumes nothing.
use Prim.Native.Nat.{ℕ, ◌+◌, ◌*◌, ◌≤◌, ◌<◌}
use native.Mathlib.Omega.{arith}
use mathlib.Core.Path.{◌≡◌, refl, sym, ap, ◌∙◌}
use mathlib.Core.Bool.{Bool, true, false, cond, ◌||◌}
use mathlib.Core.List.{List, [], ◌∷◌}
use lib.Dec.{ltb}
use lib.ListN.{length, get_or, take, drop}
use lib.Seq.{length-take-le}
use borrow.Author.Tests.{lt-ltb, le-ltb}
use Rattle.sock.specs.Bytes.{words_of, words_or_none}
use Rattle.bytewise.specs.Held.{held}
use Rattle.handover.specs.Printed.{count_in, wanted_for, start_words, words_read, left_behind_words}

pub count_missing : (head : List ℕ) → length head < 2 → 8193 ≡ count_in head
unfolding count_in
count_missing [] h = refl
count_missing (a ∷ []) h = refl
count_missing (a ∷ b ∷ head) h = absurd (omega arith)

pub count_found : (head : List ℕ) (w : ℕ) → 2 ≤ length head → w ≡ get_or head 0 0 * 256 + get_or head 1 0 → w ≡ count_in head
unfolding count_in
count_found [] w h e = absurd (omega arith)
count_found (a ∷ []) w h e = absurd (omega arith)
count_found (a ∷ b ∷ head) w h e = e

pub none_wanted : (n : ℕ) → 8192 < n → 0 ≡ wanted_for n
unfolding wanted_for
none_wanted n h = sym (ap (λ (b : Bool). cond b 0 (n * 2)) (lt-ltb 8192 n h))

pub some_wanted : (n : ℕ) → n ≤ 8192 → n * 2 ≡ wanted_for n
unfolding wanted_for
some_wanted n h = sym (ap (λ (b : Bool). cond b 0 (n * 2)) (le-ltb 8192 n h))

words_by :
    (n : ℕ) (bytes : List ℕ) (b d : Bool) → ltb 8192 n ≡ b → ltb (length bytes) (n * 2) ≡ d →
    start_words n bytes ≡ cond (b || d) [] (words_or_none (words_of (take (n * 2) bytes)))
unfolding start_words
words_by n bytes b d p q =
    ap (λ (t : Bool). cond (t || ltb (length bytes) (n * 2)) [] (words_or_none (words_of (take (n * 2) bytes)))) p
    ∙ ap (λ (t : Bool). cond (b || t) [] (words_or_none (words_of (take (n * 2) bytes)))) q

or_true : (b : Bool) → b || true ≡ true
or_true true = refl
or_true false = refl

pub too_many : (n : ℕ) (bytes : List ℕ) → 8192 < n → [] ≡ start_words n bytes
too_many n bytes h = sym (words_by n bytes true (ltb (length bytes) (n * 2)) (lt-ltb 8192 n h) refl)

pub some_missing : (n : ℕ) (bytes : List ℕ) → length bytes < n * 2 → [] ≡ start_words n bytes
some_missing n bytes h =
    sym
    (words_by n bytes (ltb 8192 n) true refl (lt-ltb (length bytes) (n * 2) h)
    ∙ ap (λ (t : Bool). cond t [] (words_or_none (words_of (take (n * 2) bytes)))) (or_true (ltb 8192 n)))

pub all_there : (n : ℕ) (bytes : List ℕ) → n ≤ 8192 → n * 2 ≤ length bytes → start_words n bytes ≡ words_or_none (words_of (take (n * 2) bytes))
all_there n bytes h l = words_by n bytes false false (le-ltb 8192 n h) (le-ltb (length bytes) (n * 2) l)

pub held_there : (n : ℕ) (bytes : List ℕ) → n ≤ 8192 → n * 2 ≤ length bytes → held 8192 (take (n * 2) bytes) ≡ start_words n bytes
unfolding held
held_there n bytes h l =
    let e : length (take (n * 2) bytes) ≡ n * 2 = length-take-le (n * 2) bytes l in
    ap (λ (b : Bool). cond b [] (words_or_none (words_of (take (n * 2) bytes)))) (le-ltb 16384 (length (take (n * 2) bytes)) (omega (arith, e)))
    ∙ sym (all_there n bytes h l)

-- ---- the words that are read

module _ (bytes head : List ℕ) (size : ℕ) (front : head ≡ take 2 bytes) (wanted : size ≡ wanted_for (count_in head)) where
  pub read_is : (got : List ℕ) → got ≡ take size (drop 2 bytes) → start_words (count_in head) got ≡ words_read bytes
  unfolding words_read
  read_is got second =
      ap (start_words (count_in head)) (second ∙ ap (λ n. take n (drop 2 bytes)) wanted)
      ∙ ap (λ h. start_words (count_in h) (take (wanted_for (count_in h)) (drop 2 bytes))) front

  pub left_is : drop size (drop 2 bytes) ≡ left_behind_words bytes
  unfolding left_behind_words
  left_is = ap (λ n. drop n (drop 2 bytes)) wanted ∙ ap (λ h. drop (wanted_for (count_in h)) (drop 2 bytes)) front
