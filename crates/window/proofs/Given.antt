-- The test of a window, as the code makes it: one test after the other.
-- Assumes nothing.
use Prim.Native.Nat.{ℕ, zero, suc, ◌+◌, ◌≤◌, ◌<◌}
use native.Mathlib.Omega.{arith}
use mathlib.Core.Path.{◌≡◌, refl, sym, ap, ◌∙◌}
use mathlib.Core.Bool.{Bool, true, false, ◌&&◌}
use mathlib.Core.List.{List, [], ◌∷◌}
use lib.Dec.{leb, eqb}
use lib.ListN.{length, take, drop, length-drop}
use lib.Seq.{drop-drop, take_all, length-take-le}
use borrow.Author.Tests.{le-leb, lt-leb, ne_eqb}
use Rattle.std.specs.List.{list_all, zip}
use Rattle.std.proofs.lemmas.Grind.{common_steps}
use Rattle.window.specs.Window.{counts_from, recount, held, entries_of, behind, none_above, same, given}
use Rattle.std.proofs.lemmas.Bool.{and_left}
use Rattle.window.proofs.Tests.{and_first}
use Rattle.window.proofs.Counting.{counts_length}

module _ (w : ℕ) (window : List ℕ) where
  entries_fit : Bool
  entries_fit = none_above 64 (entries_of window)

  zeros_follow : Bool
  zeros_follow = none_above 0 (behind window)

  counts_agree : Bool
  counts_agree = same (take 64 window) (recount (entries_of window))

  pub too_short : length window < 1089 → false ≡ given w window
  unfolding given
  too_short h = grind (arith, common_steps)

  module _ (room : 1089 ≤ length window) (n : ℕ) (is : n ≡ held window) where
    roomy : given w window ≡ (leb (held window) w && (entries_fit && (zeros_follow && counts_agree)))
    unfolding given entries_fit zeros_follow counts_agree
    roomy = grind (arith, common_steps)

    pub too_many : w < n → false ≡ given w window
    too_many h = sym (roomy ∙ and_left (leb (held window) w) _ (lt-leb (held window) w (omega (arith, is))))

    module _ (few : n ≤ w) where
      inside : given w window ≡ (entries_fit && (zeros_follow && counts_agree))
      inside = roomy ∙ and_first (leb (held window) w) _ (le-leb (held window) w (omega (arith, is)))

      entries_as : take n (drop 65 window) ≡ entries_of window
      unfolding entries_of
      entries_as = ap (λ (k : ℕ). take k (drop 65 window)) is

      module _ (a : Bool) (p : a ≡ none_above 64 (take n (drop 65 window))) where
        fit_as : entries_fit ≡ a
        unfolding entries_fit
        fit_as = sym (p ∙ ap (none_above 64) entries_as)

        pub entry_above : a ≡ false → false ≡ given w window
        entry_above e = sym (inside ∙ and_left entries_fit _ (fit_as ∙ e))

        module _ (fit : a ≡ true) (b : Bool) (q : b ≡ none_above 0 (drop (65 + n) (take 1089 window))) where
          zeros_as : zeros_follow ≡ b
          unfolding zeros_follow behind
          zeros_as = grind (arith, common_steps)

          fitting : given w window ≡ (zeros_follow && counts_agree)
          fitting = inside ∙ and_first entries_fit _ (fit_as ∙ fit)

          pub not_zero : b ≡ false → false ≡ given w window
          not_zero e = sym (fitting ∙ and_left zeros_follow _ (zeros_as ∙ e))

          pub agreed :
              b ≡ true → (counts : List ℕ) → counts ≡ counts_from 65 0 (take n (drop 65 window)) → (c : Bool) →
              c ≡ same (take 64 window) (drop 1 counts) → c ≡ given w window
          unfolding counts_agree recount counts_from
          agreed e counts s c r =
              r
              ∙ ap (λ (t : List ℕ). same (take 64 window) (drop 1 t)) (s ∙ ap (counts_from 65 0) entries_as)
              ∙ sym (fitting ∙ and_first zeros_follow _ (zeros_as ∙ e))

-- ---- what the parts of the test answer

zeros_alike : (l : List ℕ) → list_all (λ (n : ℕ). eqb n 0) l ≡ none_above 0 l
unfolding none_above
zeros_alike [] = refl
zeros_alike (zero ∷ l) = zeros_alike l
zeros_alike (suc n ∷ l) =
    and_left (eqb (suc n) 0) _ (ne_eqb (suc n) 0 (λ e. omega (arith, e))) ∙ sym (and_left (leb (suc n) 0) (none_above 0 l) (lt-leb (suc n) 0 (omega arith)))

counts_alike : (l m : List ℕ) → length l ≡ length m → list_all (λ (p : ℕ × ℕ). eqb p.0 p.1) (zip l m) ≡ same l m
unfolding same
counts_alike [] [] e = refl
counts_alike [] (n ∷ m) e = absurd (omega (arith, e))
counts_alike (n ∷ l) [] e = absurd (omega (arith, e))
counts_alike (n ∷ l) (k ∷ m) e = ap (λ (b : Bool). eqb n k && b) (counts_alike l m (omega (arith, e)))

-- ---- the words as the code parts them: the entries and what is behind them

module _ (w : ℕ) (words : List ℕ) (size : length words ≡ 1089) (n : ℕ) (is : n ≡ held words) where
  whole_room : 1089 ≤ length words
  whole_room = omega arith

  pub many_held : w < n → false ≡ given w words
  many_held h = too_many w words whole_room n is h

  module _ (few : n ≤ w) (entries zeros : List ℕ) (p : entries ≡ take n (take 1024 (drop 65 words))) (q : zeros ≡ drop n (take 1024 (drop 65 words))) where
    others_are : take 1024 (drop 65 words) ≡ drop 65 words
    others_are = take_all 1024 (drop 65 words) (omega (arith, length-drop 65 words))

    entries_are : entries ≡ take n (drop 65 words)
    entries_are = p ∙ ap (take n) others_are

    pub no_entries : none_above 64 entries ≡ false → false ≡ given w words
    no_entries e = entry_above w words whole_room n is few false (sym e ∙ ap (none_above 64) entries_are) refl

    module _ (small : none_above 64 entries ≡ true) (tally : List ℕ) (t : tally ≡ counts_from 65 0 entries) (b : Bool)
        (z : b ≡ list_all (λ (k : ℕ). eqb k 0) zeros) where
      fit : true ≡ none_above 64 (take n (drop 65 words))
      fit = sym small ∙ ap (none_above 64) entries_are

      zeros_are : b ≡ none_above 0 (drop (65 + n) (take 1089 words))
      zeros_are =
          z ∙ zeros_alike zeros ∙ ap (none_above 0) (q ∙ ap (drop n) others_are ∙ drop-drop n 65 words ∙ ap (drop (65 + n)) (sym (take_all 1089 words (omega arith))))

      pub some_behind : b ≡ false → b ≡ given w words
      some_behind e = e ∙ not_zero w words whole_room n is few true fit refl b zeros_are e

      pub counts_compared :
          b ≡ true → (c : Bool) → c ≡ list_all (λ (k : ℕ × ℕ). eqb k.0 k.1) (zip (take 64 words) (take 64 (drop 1 tally))) → c ≡ given w words
      counts_compared e c r =
          let m : length tally ≡ 65 = ap length t ∙ counts_length 65 0 entries in
          let l : length (drop 1 tally) ≡ 64 = omega (arith, length-drop 1 tally) in
          let k : length (take 64 words) ≡ length (drop 1 tally) = omega (arith, length-take-le 64 words (omega arith)) in
          agreed w words whole_room n is few true fit refl b zeros_are e tally (t ∙ ap (counts_from 65 0) entries_are) c
          (r ∙ ap (λ (v : List ℕ). list_all (λ (j : ℕ × ℕ). eqb j.0 j.1) (zip (take 64 words) v)) (take_all 64 (drop 1 tally) (omega arith)) ∙ counts_alike (take 64 words) (drop 1 tally) k)
