-- The words of a window: where its entries and counts stand, and that the test passes exactly the words of entries.
-- Assumes nothing.
use Prim.Native.Nat.{ℕ, ◌+◌, ◌-◌, ◌≤◌, ◌<◌}
use native.Mathlib.Omega.{arith}
use mathlib.Core.Path.{◌≡◌, refl, sym, ap, ◌∙◌}
use mathlib.Core.Bool.{true}
use mathlib.Core.List.{List, [], ◌∷◌, ◌++◌}
use lib.Dec.{leb}
use lib.ListN.{length, get_or, take, drop, replicate, length-append, length-replicate, length-drop, take-append-drop}
use lib.Seq.{drop-cons, drop-drop, drop-append-le, take_at, drop_at, get_or_at, get_or-drop, length-take-le, length-slice}
use borrow.Author.Tests.{leb-true, le-leb}
use Rattle.std.proofs.lemmas.Grind.{common_steps}
use Rattle.window.specs.Window.{times, counts_from, recount, window_of, empty_window, held, entries_of, behind, none_above, same, given}
use Rattle.window.specs.Entering.{Formed}
use Rattle.std.proofs.lemmas.Bool.{and_parts, and_from}
use Rattle.window.proofs.Tests.{none_zeros, all_zeros, same_refl, same_true}
use Rattle.window.proofs.Counting.{recount_length}

abbrev zeros_behind : List ℕ → List ℕ
zeros_behind es = replicate (1024 - length es) 0

slice_rest : (k : ℕ) (l : List ℕ) → k ≤ 1089 → 1089 ≤ length l → drop k l ≡ drop k (take 1089 l) ++ drop 1089 l
slice_rest k l a b =
    ap (drop k) (sym (take-append-drop 1089 l)) ∙ drop-append-le k (take 1089 l) (drop 1089 l) (omega (arith, length-take-le 1089 l b))

-- ---- the words of entries, with more words behind

module _ (es beyond : List ℕ) where
  pub laid_out : window_of es ++ beyond ≡ recount es ++ (length es ∷ (es ++ (zeros_behind es ++ beyond)))
  unfolding window_of
  laid_out = grind (arith, common_steps)

  pub held_is : held (window_of es ++ beyond) ≡ length es
  held_is =
      ap (λ (t : List ℕ). get_or t 64 0) laid_out
      ∙ get_or_at (recount es) (length es) (es ++ (zeros_behind es ++ beyond)) 0 64 (recount_length es)

  pub counts_are : take 64 (window_of es ++ beyond) ≡ recount es
  counts_are =
      ap (take 64) laid_out ∙ take_at (recount es) (length es ∷ (es ++ (zeros_behind es ++ beyond))) 64 (recount_length es)

  from_entries : drop 65 (window_of es ++ beyond) ≡ es ++ (zeros_behind es ++ beyond)
  from_entries =
      sym (drop-drop 1 64 (window_of es ++ beyond))
      ∙ ap (λ (t : List ℕ). drop 1 (drop 64 t)) laid_out
      ∙ ap (drop 1) (drop_at (recount es) (length es ∷ (es ++ (zeros_behind es ++ beyond))) 64 (recount_length es))

  pub entries_are : entries_of (window_of es ++ beyond) ≡ es
  unfolding entries_of
  entries_are =
      ap (λ (n : ℕ). take n (drop 65 (window_of es ++ beyond))) held_is
      ∙ ap (take (length es)) from_entries
      ∙ take_at es (zeros_behind es ++ beyond) (length es) refl

  behind_entries : drop (65 + length es) (window_of es ++ beyond) ≡ zeros_behind es ++ beyond
  behind_entries =
      sym (drop-drop (length es) 65 (window_of es ++ beyond))
      ∙ ap (drop (length es)) from_entries
      ∙ drop_at es (zeros_behind es ++ beyond) (length es) refl

  module _ (few : length es ≤ 1024) where
    pub beyond_is : drop 1089 (window_of es ++ beyond) ≡ beyond
    beyond_is =
        let s : 65 + length es + (1024 - length es) ≡ 1089 = omega arith in
        ap (λ (n : ℕ). drop n (window_of es ++ beyond)) (sym s)
        ∙ sym (drop-drop (1024 - length es) (65 + length es) (window_of es ++ beyond))
        ∙ ap (drop (1024 - length es)) behind_entries
        ∙ drop_at (zeros_behind es) beyond (1024 - length es) (length-replicate (1024 - length es) 0)

    pub window_length : length (window_of es ++ beyond) ≡ 1089 + length beyond
    window_length =
        let z : length (zeros_behind es ++ beyond) ≡ 1024 - length es + length beyond =
        length-append (zeros_behind es) beyond ∙ ap (λ (n : ℕ). n + length beyond) (length-replicate (1024 - length es) 0) in
        ap length laid_out
        ∙ length-append (recount es) (length es ∷ (es ++ (zeros_behind es ++ beyond)))
        ∙ omega (arith, recount_length es, length-append es (zeros_behind es ++ beyond), z)

    -- its zeros are the last of the 1,089 words
    behind_are : behind (window_of es ++ beyond) ≡ zeros_behind es
    unfolding behind
    behind_are =
        let window : List ℕ = window_of es ++ beyond in
        let s : 65 + length es + (1024 - length es) ≡ 1089 = omega arith in
        let k : length (drop (65 + length es) (take 1089 window)) ≡ 1024 - length es =
        length-slice (65 + length es) 1089 window (omega (arith, window_length)) ∙ omega arith in
        let both : drop (65 + length es) window ≡ drop (65 + length es) (take 1089 window) ++ drop 1089 window =
        slice_rest (65 + length es) window (omega arith) (omega (arith, window_length)) in
        ap (λ (n : ℕ). drop (65 + n) (take 1089 window)) held_is
        ∙ sym (take_at (drop (65 + length es) (take 1089 window)) (drop 1089 window) (1024 - length es) k)
        ∙ ap (take (1024 - length es)) (sym both ∙ behind_entries)
        ∙ take_at (zeros_behind es) beyond (1024 - length es) (length-replicate (1024 - length es) 0)

    pub window_given : (w : ℕ) → length es ≤ w → none_above 64 es ≡ true → given w (window_of es ++ beyond) ≡ true
    unfolding given
    window_given w fit small =
        let window : List ℕ = window_of es ++ beyond in
        let a : leb 1089 (length window) ≡ true = le-leb 1089 (length window) (omega (arith, window_length)) in
        let b : leb (held window) w ≡ true = le-leb (held window) w (omega (arith, held_is)) in
        let c : none_above 64 (entries_of window) ≡ true = ap (none_above 64) entries_are ∙ small in
        let d : none_above 0 (behind window) ≡ true = ap (none_above 0) behind_are ∙ none_zeros 0 (1024 - length es) in
        let e : same (take 64 window) (recount (entries_of window)) ≡ true =
        ap (λ (t : List ℕ). same t (recount (entries_of window))) counts_are ∙ ap (λ (t : List ℕ). same (recount es) (recount t)) entries_are
        ∙ same_refl (recount es) in
        and_from _ _ a (and_from _ _ b (and_from _ _ c (and_from _ _ d e)))

pub empty_window_lem : empty_window ≡ window_of []
unfolding window_of recount counts_from times
empty_window_lem = refl

pub first_is : (o : ℕ) (es beyond : List ℕ) → get_or (window_of (o ∷ es) ++ beyond) 65 0 ≡ o
first_is o es beyond =
    let window : List ℕ = window_of (o ∷ es) ++ beyond in
    sym (get_or-drop 65 window 0 0) ∙ ap (λ (t : List ℕ). get_or t 0 0) (from_entries (o ∷ es) beyond)

-- ---- words that pass the test

module _ (w : ℕ) (window : List ℕ) (pass : given w window ≡ true) where
  tests :
      (1089 ≤ length window) × (held window ≤ w) × (none_above 64 (entries_of window) ≡ true) × (none_above 0 (behind window) ≡ true)
      × (take 64 window ≡ recount (entries_of window))
  unfolding given
  tests =
      let p = and_parts (leb 1089 (length window)) _ pass in
      let q = and_parts (leb (held window) w) _ p.1 in
      let r = and_parts (none_above 64 (entries_of window)) _ q.1 in
      let s = and_parts (none_above 0 (behind window)) _ r.1 in
      (leb-true 1089 (length window) p.0, leb-true (held window) w q.0, r.0, s.0, same_true (take 64 window) (recount (entries_of window)) s.1)

  pub given_room : 1089 ≤ length window
  given_room = tests.0

  pub given_few : held window ≤ w
  given_few = tests.1

  module _ (m : w ≤ 1024) where
    length_is : length (entries_of window) ≡ held window
    unfolding entries_of
    length_is =
        length-take-le (held window) (drop 65 window) (omega (arith, length-drop 65 window, given_room, given_few))

    length_behind : length (behind window) ≡ 1024 - held window
    unfolding behind
    length_behind = length-slice (65 + held window) 1089 window given_room ∙ omega (arith, given_few)

    behind_zeros : behind window ≡ replicate (1024 - length (entries_of window)) 0
    behind_zeros =
        let s : length (behind window) ≡ 1024 - length (entries_of window) = length_behind ∙ ap (λ (n : ℕ). 1024 - n) (sym length_is) in
        all_zeros (behind window) tests.3 ∙ ap (λ (n : ℕ). replicate n 0) s

    from_behind : drop (65 + held window) window ≡ behind window ++ drop 1089 window
    unfolding behind
    from_behind = slice_rest (65 + held window) window (omega (arith, given_few)) given_room

    from_first : drop 65 window ≡ entries_of window ++ (behind window ++ drop 1089 window)
    unfolding entries_of
    from_first =
        sym (take-append-drop (held window) (drop 65 window))
        ∙ ap (λ (t : List ℕ). take (held window) (drop 65 window) ++ t) (drop-drop (held window) 65 window ∙ from_behind)

    words_are : window ≡ window_of (entries_of window) ++ drop 1089 window
    words_are =
        let es : List ℕ = entries_of window in
        let room : 64 < length window = omega (arith, given_room) in
        sym (take-append-drop 64 window)
        ∙ ap (λ (t : List ℕ). t ++ drop 64 window) tests.4
        ∙ ap (λ (t : List ℕ). recount es ++ t) (drop-cons window 64 0 room)
        ∙ ap (λ (t : List ℕ). recount es ++ (held window ∷ t)) from_first
        ∙ ap (λ (n : ℕ). recount es ++ (n ∷ (es ++ (behind window ++ drop 1089 window)))) (sym length_is)
        ∙ ap (λ (t : List ℕ). recount es ++ (length es ∷ (es ++ (t ++ drop 1089 window)))) behind_zeros
        ∙ sym (laid_out es (drop 1089 window))

    pub given_formed : Formed window
    given_formed = record { few = omega (arith, length_is, given_few); count = sym length_is; small = tests.2; words = words_are }
