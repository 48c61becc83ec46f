-- The variables of a message on words: how many there are, and what the receiver's values are once they took the sender's.
-- Assumes nothing.
use Prim.Native.Nat.{ℕ, zero, suc, ◌+◌, ◌*◌, ◌/◌, ◌≤◌, ◌<◌}
use native.Mathlib.Omega.{arith}
use mathlib.Core.Path.{◌≡◌, refl, sym, ap, ap₂, ◌∙◌}
use mathlib.Core.Bool.{Bool, true, false, cond}
use mathlib.Core.List.{List, [], ◌∷◌, ◌++◌}
use borrow.Author.Tests.{lt-leb, leb-true, leb-false, ne_eqb}
use lib.Dec.{leb, eqb}
use lib.ListN.{length, get_or, drop}
use Rattle.sock.specs.Words.{second_of, first_variable}
use Rattle.sock.specs.Variables.{first_of, further_words, variable_words, values_at, set_all}
use Rattle.sock.proofs.Fits.{AllBelow, none_below, one_below, FitsVariables}
use Rattle.sock.proofs.Positions.{at_head, stands_within, word_at}
use Rattle.sock.proofs.Variables.{laid}
use Rattle.layout.specs.Own.{variables_end}
use Rattle.layout.specs.Positions.{onward}
use Rattle.layout.proofs.Owns.{list_end_lem}
use Rattle.writers.proofs.Laid.{Near, onward_near}
use Rattle.evaluating.specs.Evaluating.{value_in}
use Rattle.rules.specs.Storing.{Store}
use Rattle.rules.specs.Rewriting.{at}
use Rattle.rules.specs.Messages.{listed_w, taking_w, carried_w, alike_w}
use Rattle.rules.proofs.Stores.{valued, stored}

-- the list x stands at a place, from its count on
pub record Listed (ws : List ℕ) (count : ℕ) (x : List ℕ) : Type 0 where
  pub fitting : FitsVariables x
  pub behind : List ℕ
  pub stands : drop count ws ≡ variable_words x ++ behind

variable_count : (x : List ℕ) → 0 < length x → (behind : List ℕ) → (rest : List ℕ) × (variable_words x ++ behind ≡ length x ∷ rest)
unfolding variable_words
variable_count [] h behind = absurd (omega arith)
variable_count (a ∷ x) h behind = (further_words x ++ behind, refl)

pub words_counted : (x : List ℕ) → length (variable_words x) ≡ length x
unfolding variable_words further_words
words_counted [] = refl
words_counted (a ∷ x) = ap suc (further x)
  where
    further : (y : List ℕ) → length (further_words y) ≡ length y
    further [] = refl
    further (b ∷ y) = ap suc (further y)

module _ {ws : List ℕ} {count : ℕ} {x : List ℕ} (l : Listed ws count x) where
  -- its count, and where it ends
  pub count_at : at ws count ≡ length x
  count_at =
      let v = variable_count x l.fitting.some l.behind in
      (at_head ws count (length x) v.0 (l.stands ∙ v.1)).word

  pub ends_at : variables_end ws count ≡ count + length x
  ends_at =
      let v = laid x l.fitting in
      list_end_lem ws v.counted v.fitting count l.behind (l.stands ∙ ap (λ w. w ++ l.behind) v.words)
      ∙ ap (λ w. count + length w) (sym v.words)
      ∙ ap (λ n. count + n) (words_counted x)

  pub inside : count + length x ≤ length ws
  inside =
      let n = words_counted x in
      let h = l.fitting.some in
      let w = stands_within ws (variable_words x) l.behind count l.stands (omega arith) in
      omega arith

-- as many variables
pub alike_counts : {ws other : List ℕ} {i j : ℕ} {y x : List ℕ} → Listed ws i y → Listed other j x → alike_w ws i other j ≡ eqb (length y) (length x)
unfolding alike_w
alike_counts l m = ap₂ (λ (a b : ℕ). eqb a b) (count_at l) (count_at m)

-- ---- one after the other

further_word : (x : List ℕ) (j : ℕ) → j < length x → get_or (further_words x) j 0 ≡ get_or x j 32 * 2048
unfolding further_words
further_word [] j h = absurd (omega arith)
further_word (a ∷ x) zero h = refl
further_word (a ∷ x) (suc j) h = further_word x j (omega arith)

behind_last : (x : List ℕ) (j : ℕ) → length x ≤ j → get_or x j 32 ≡ 32
behind_last [] j h = refl
behind_last (a ∷ x) zero h = absurd (omega arith)
behind_last (a ∷ x) (suc j) h = behind_last x j (omega arith)

module _ (ws : List ℕ) (near : Near (length ws)) (place count : ℕ) where
  pub listed_is : (x : List ℕ) → Listed ws count x → second_of (at ws place) ≡ first_of x → (i : ℕ) → listed_w ws place count i ≡ get_or x i 32
  unfolding listed_w variable_words
  listed_is [] l e i = absurd (let h = l.fitting.some in omega arith)
  listed_is (a ∷ x) l e zero = e
  listed_is (a ∷ x) l e (suc j) = by (leb (suc (length x)) (suc j)) refl
    where
      by :
          (b : Bool) → leb (suc (length x)) (suc j) ≡ b →
          cond (eqb (suc j) 0) (second_of (at ws place)) (cond (leb (at ws count) (suc j)) 32 (first_variable (at ws (onward count (suc j))))) ≡ get_or x j 32
      by true q = let h = leb-true (suc (length x)) (suc j) q in rw (ne_eqb (suc j) 0 (λ z. omega arith), count_at l, q) (sym (behind_last x j (omega arith)))
      by false q =
          let h = leb-false (suc (length x)) (suc j) q in
          let low : suc j < suc (length x) = omega arith in
          let on : onward count (suc j) ≡ count + suc j = onward_near count (suc j) (length ws) near (omega (arith, inside l)) in
          let w : at ws (count + suc j) ≡ get_or x j 32 * 2048 =
          word_at ws (variable_words (a ∷ x)) l.behind count l.stands (suc j) (omega (arith, words_counted (a ∷ x))) ∙ further_word x j (omega arith) in
          rw (ne_eqb (suc j) 0 (λ z. omega arith), count_at l, q, on, w) (let z : get_or x j 32 * 2048 / 2048 ≡ get_or x j 32 = omega arith in z)

-- ---- the receiver's values

module _ (vs values va : List ℕ) (same : (x : ℕ) → value_in values x ≡ get_or va x 0) where
  -- a store of up to four variables x, which take the values of the variables y
  abbrev four : List ℕ → List ℕ → Store
  four x y =
      record {
        variable = get_or x 0 32;
        value = value_in values (get_or y 0 32);
        second = record { variable = get_or x 1 32; value = value_in values (get_or y 1 32) };
        third = record { variable = get_or x 2 32; value = value_in values (get_or y 2 32) };
        fourth = record { variable = get_or x 3 32; value = value_in values (get_or y 3 32) };
      }

  all_stored : (x y : List ℕ) → 0 < length x → length x ≤ 4 → AllBelow 32 x → length y ≡ length x → stored vs (four x y) ≡ set_all vs x (values_at va y)
  unfolding stored valued set_all values_at
  all_stored [] y some few b e = absurd (omega arith)
  all_stored (x ∷ []) [] some few b e = absurd (omega arith)
  all_stored (x ∷ []) (v ∷ []) some few (one_below b none_below) e = rw (lt-leb 32 x b, same v)
  all_stored (x ∷ []) (v ∷ s ∷ us) some few b e = absurd (omega arith)
  all_stored (x ∷ y ∷ []) [] some few b e = absurd (omega arith)
  all_stored (x ∷ y ∷ []) (v ∷ []) some few b e = absurd (omega arith)
  all_stored (x ∷ y ∷ []) (v ∷ u ∷ []) some few (one_below b (one_below c none_below)) e = rw (lt-leb 32 x b, lt-leb 32 y c, same v, same u)
  all_stored (x ∷ y ∷ []) (v ∷ u ∷ s ∷ us) some few b e = absurd (omega arith)
  all_stored (x ∷ y ∷ z ∷ []) [] some few b e = absurd (omega arith)
  all_stored (x ∷ y ∷ z ∷ []) (v ∷ []) some few b e = absurd (omega arith)
  all_stored (x ∷ y ∷ z ∷ []) (v ∷ u ∷ []) some few b e = absurd (omega arith)
  all_stored (x ∷ y ∷ z ∷ []) (v ∷ u ∷ w ∷ []) some few (one_below b (one_below c (one_below d none_below))) e =
      rw (lt-leb 32 x b, lt-leb 32 y c, lt-leb 32 z d, same v, same u, same w)
  all_stored (x ∷ y ∷ z ∷ []) (v ∷ u ∷ w ∷ s ∷ us) some few b e = absurd (omega arith)
  all_stored (x ∷ y ∷ z ∷ a ∷ []) [] some few b e = absurd (omega arith)
  all_stored (x ∷ y ∷ z ∷ a ∷ []) (v ∷ []) some few b e = absurd (omega arith)
  all_stored (x ∷ y ∷ z ∷ a ∷ []) (v ∷ u ∷ []) some few b e = absurd (omega arith)
  all_stored (x ∷ y ∷ z ∷ a ∷ []) (v ∷ u ∷ w ∷ []) some few b e = absurd (omega arith)
  all_stored (x ∷ y ∷ z ∷ a ∷ []) (v ∷ u ∷ w ∷ t ∷ []) some few (one_below b (one_below c (one_below d (one_below f none_below)))) e =
      rw (lt-leb 32 x b, lt-leb 32 y c, lt-leb 32 z d, lt-leb 32 a f, same v, same u, same w, same t)
  all_stored (x ∷ y ∷ z ∷ a ∷ []) (v ∷ u ∷ w ∷ t ∷ s ∷ us) some few b e = absurd (omega arith)
  all_stored (x ∷ y ∷ z ∷ a ∷ o ∷ xs) y' some few b e = absurd (omega arith)

  -- the receiver's x take the values of the sender's y, if they are as many
  pub carried_stored :
      (ws other : List ℕ) → Near (length ws) → Near (length other) → (sent place heard : ℕ) (y x : List ℕ) →
      Listed ws sent y → second_of (at ws 0) ≡ first_of y → Listed other heard x → second_of (at other place) ≡ first_of x → length y ≡ length x →
      stored vs (carried_w ws sent values other place heard) ≡ set_all vs x (values_at va y)
  unfolding carried_w taking_w
  carried_stored ws other close near sent place heard y x l first m head e =
      let a = listed_is ws close 0 sent y l first in
      let b = listed_is other near place heard x m head in
      rw (a 0, a 1, a 2, a 3, b 0, b 1, b 2, b 3)
      (all_stored x y m.fitting.some m.fitting.few m.fitting.below e)
