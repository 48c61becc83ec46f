-- A window's own 1,089 words, as the code holds them: none behind, or the front of a longer row.
-- Assumes nothing.
use Prim.Native.Nat.{ℕ, suc, ◌+◌, ◌≤◌}
use native.Mathlib.Omega.{arith}
use mathlib.Core.Path.{◌≡◌, refl, sym, ap, subst, ◌∙◌}
use mathlib.Core.Bool.{Bool, true, false, ◌&&◌}
use mathlib.Core.List.{List, [], ◌++◌, append-nil}
use lib.Dec.{leb}
use lib.ListN.{length, get_or, take, drop, drop_of_length-le, take-append-drop}
use lib.Seq.{take_at, length-take-le}
use borrow.Author.Tests.{leb-true}
use Rattle.window.specs.declared.answer.Answer.{Answer}
use Rattle.window.specs.Window.{times, window_of, entries_of, none_above, given, fits, enters}
use Rattle.window.specs.Entering.{Formed}
use Rattle.window.proofs.Counting.{count_at}
use Rattle.window.proofs.Words.{held_is, entries_are, beyond_is, window_length, window_given, laid_out, given_few, given_formed}

pub whole : (window ts : List ℕ) → length window ≡ 1089 → ts ++ drop 1089 window ≡ ts
whole window ts s =
    let l : length window ≤ 1089 = omega arith in
    ap (λ (t : List ℕ). ts ++ t) (drop_of_length-le window l) ∙ append-nil ts

-- ---- the words of entries

pub words_length : (es : List ℕ) → length es ≤ 1024 → length (window_of es) ≡ 1089
words_length es few = sym (ap length (append-nil (window_of es))) ∙ window_length es [] few ∙ (let z : 1089 + 0 ≡ 1089 = omega arith in z)

module _ (es : List ℕ) (after : List ℕ) (is : after ≡ window_of es) where
  as_words : after ≡ window_of es ++ []
  as_words = is ∙ sym (append-nil (window_of es))

  pub entries_after : entries_of after ≡ es
  entries_after = ap entries_of as_words ∙ entries_are es []

  pub formed_after : length es ≤ 1024 → none_above 64 es ≡ true → Formed after
  formed_after few small =
      let words : List ℕ = window_of es ++ [] in
      let e : entries_of words ≡ es = entries_are es [] in
      subst Formed (sym as_words) (record {
        few = omega (arith, ap length e);
        count = held_is es [] ∙ sym (ap length e);
        small = ap (none_above 64) e ∙ small;
        words = ap (λ (t : List ℕ). window_of t ++ []) (sym e) ∙ ap (λ (t : List ℕ). window_of (entries_of words) ++ t) (sym (beyond_is es [] few));
      })

pub count_formed : (window : List ℕ) → Formed window → (o : ℕ) → o ≤ 63 → get_or window o 0 ≡ times (suc o) (entries_of window)
count_formed window f o h =
    ap (λ (t : List ℕ). get_or t o 0) (f.words ∙ laid_out (entries_of window) (drop 1089 window))
    ∙ count_at (entries_of window) _ o (omega arith)

pub few_given : (w : ℕ) (words : List ℕ) → w ≤ 1024 → given w words ≡ true → length (entries_of words) ≤ w
few_given w words high p =
    let f = given_formed w words p high in
    omega (arith, f.count, given_few w words p)

-- ---- the front of a longer row

both : (a b : Bool) → (a ≡ true → b ≡ true) → (b ≡ true → a ≡ true) → a ≡ b
both true b f g = sym (f refl)
both false true f g = g refl
both false false f g = refl

module _ (window : List ℕ) (room : 1089 ≤ length window) where
  module _ (w : ℕ) (high : w ≤ 1024) where
    front_of : given w window ≡ true → take 1089 window ≡ window_of (entries_of window) ++ []
    front_of p =
        let f = given_formed w window p high in
        let es : List ℕ = entries_of window in
        ap (take 1089) f.words ∙ take_at (window_of es) (drop 1089 window) 1089 (words_length es f.few) ∙ sym (append-nil (window_of es))

    pub entries_front : given w window ≡ true → entries_of (take 1089 window) ≡ entries_of window
    entries_front p = ap entries_of (front_of p) ∙ entries_are (entries_of window) []

    inward : given w window ≡ true → given w (take 1089 window) ≡ true
    inward p =
        let f = given_formed w window p high in
        let fit : length (entries_of window) ≤ w = omega (arith, f.count, given_few w window p) in
        ap (given w) (front_of p) ∙ window_given (entries_of window) [] f.few w fit f.small

    outward : given w (take 1089 window) ≡ true → given w window ≡ true
    outward p =
        let front : List ℕ = take 1089 window in
        let f = given_formed w front p high in
        let es : List ℕ = entries_of front in
        let fit : length es ≤ w = omega (arith, f.count, given_few w front p) in
        let s : front ≡ window_of es = f.words ∙ whole front (window_of es) (length-take-le 1089 window room) in
        ap (given w) (sym (take-append-drop 1089 window) ∙ ap (λ (t : List ℕ). t ++ drop 1089 window) s)
        ∙ window_given es (drop 1089 window) f.few w fit f.small

    pub given_front : given w (take 1089 window) ≡ given w window
    given_front = both _ _ outward inward

  module _ (w : ℕ) (a : Answer) where
    abbrev tests : Bool → Bool → Bool
    tests b c = leb 1 w && (b && (leb a.operation 63 && c))

    pub fits_front : fits w a (take 1089 window) ≡ fits w a window
    unfolding fits
    fits_front = by (leb w 1024) refl
      where
        by : (b : Bool) → leb w 1024 ≡ b → tests (leb w 1024) (given w (take 1089 window)) ≡ tests (leb w 1024) (given w window)
        by true e = ap (tests (leb w 1024)) (given_front w (leb-true w 1024 e))
        by false e =
            ap (λ (t : Bool). tests t (given w (take 1089 window))) e ∙ sym (ap (λ (t : Bool). tests t (given w window)) e)

    pub enters_front : enters w a (take 1089 window) ≡ enters w a window
    unfolding enters
    enters_front = rw fits_front refl
