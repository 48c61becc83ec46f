-- The own words of processes with lists of variables, at their positions: what the definitions read there, with the walk's tests.
-- Assumes nothing.
use Prim.Native.Nat.{ℕ, ◌+◌, ◌-◌}
use mathlib.Core.Path.{◌≡◌, refl, ap, ◌∙◌}
use mathlib.Core.Bool.{Bool, true, false, ◌&&◌}
use mathlib.Core.List.{List, [], ◌∷◌, ◌++◌}
use lib.Dec.{leb}
use lib.ListN.{length, drop}
use Rattle.sock.specs.Kind.{word, variables}
use Rattle.sock.specs.Words.{clear}
use Rattle.sock.specs.Reading.{got, and_then, check, fixed_words}
use Rattle.reading.specs.Walk.{at, fixed_after}
use Rattle.reading.proofs.Combining.{check_and, Words}
use Rattle.reading.proofs.Parts.{word_then, words_then}
use Rattle.reading.proofs.Variables.{list_test, further_at, fixed_list}

-- something put before what is read
made : {A B : Type 0} (b : Bool) (a : A) (rest : List ℕ) (f : A → B) → and_then (check b (got a rest)) (λ x last. got (f x) last) ≡ check b (got (f a) rest)
unfolding and_then check
made true a rest f = refl
made false a rest f = refl

module _ (ws : List ℕ) (ok : Words ws) where
  -- the words of the list whose count stands at i, and of the two of which the first stands there
  abbrev pub list_at : ℕ → List ℕ → List ℕ
  list_at i f = at ws i ∷ further_at ws i ++ f

  abbrev pub second : ℕ → ℕ
  second i = i + at ws i

  pub one_list_lem : (i : ℕ) → fixed_words (variables ∷ []) (drop i ws) ≡ check (list_test ws i) (got (list_at i []) (drop (i + at ws i) ws))
  unfolding fixed_words and_then
  one_list_lem i = fixed_list ws ok [] i

  pub two_lists :
      (i : ℕ) →
      fixed_words (variables ∷ variables ∷ []) (drop i ws)
      ≡ check (list_test ws i && list_test ws (second i)) (got (list_at i (list_at (second i) [])) (drop (second i + at ws (second i)) ws))
  two_lists i =
      fixed_list ws ok (variables ∷ []) i
      ∙ ap (λ g. check (list_test ws i) (and_then g λ f rest. got (list_at i f) rest)) (one_list_lem (second i))
      ∙ ap (check (list_test ws i)) (made (list_test ws (second i)) _ _ (list_at i))
      ∙ check_and (list_test ws i) (list_test ws (second i)) _

  -- behind a fixed word
  pub word_list :
      (i m : ℕ) →
      fixed_words (word m ∷ variables ∷ []) (drop (i + 1) ws)
      ≡ check (fixed_after ws i m && list_test ws (i + 2)) (got (at ws (i + 1) ∷ list_at (i + 2) []) (drop (i + 2 + at ws (i + 2)) ws))
  word_list i m =
      word_then ws ok i m (variables ∷ [])
      ∙ ap (λ g. check (fixed_after ws i m) (and_then g λ f rest. got (at ws (i + 1) ∷ f) rest)) (one_list_lem (i + 2))
      ∙ ap (check (fixed_after ws i m)) (made (list_test ws (i + 2)) _ _ (λ f. at ws (i + 1) ∷ f))
      ∙ check_and (fixed_after ws i m) (list_test ws (i + 2)) _

  pub word_lists :
      (i m : ℕ) →
      fixed_words (word m ∷ variables ∷ variables ∷ []) (drop (i + 1) ws)
      ≡ check (fixed_after ws i m && (list_test ws (i + 2) && list_test ws (second (i + 2))))
      (got (at ws (i + 1) ∷ list_at (i + 2) (list_at (second (i + 2)) [])) (drop (second (i + 2) + at ws (second (i + 2))) ws))
  word_lists i m =
      word_then ws ok i m (variables ∷ variables ∷ [])
      ∙ ap (λ g. check (fixed_after ws i m) (and_then g λ f rest. got (at ws (i + 1) ∷ f) rest)) (two_lists (i + 2))
      ∙ ap (check (fixed_after ws i m)) (made (list_test ws (i + 2) && list_test ws (second (i + 2))) _ _ (λ f. at ws (i + 1) ∷ f))
      ∙ check_and (fixed_after ws i m) (list_test ws (i + 2) && list_test ws (second (i + 2))) _

  -- behind the two fixed words of an end
  pub words_list :
      (i m : ℕ) →
      fixed_words (word m ∷ word 1 ∷ variables ∷ []) (drop (i + 1) ws)
      ≡ check (leb 3 (length ws - i) && clear m (at ws (i + 1)) && list_test ws (i + 3))
      (got (at ws (i + 1) ∷ at ws (i + 2) ∷ list_at (i + 3) []) (drop (i + 3 + at ws (i + 3)) ws))
  words_list i m =
      let t : Bool = leb 3 (length ws - i) && clear m (at ws (i + 1)) in
      words_then ws ok i m (variables ∷ [])
      ∙ ap (λ g. check t (and_then g λ f rest. got (at ws (i + 1) ∷ at ws (i + 2) ∷ f) rest)) (one_list_lem (i + 3))
      ∙ ap (check t) (made (list_test ws (i + 3)) _ _ (λ f. at ws (i + 1) ∷ at ws (i + 2) ∷ f))
      ∙ check_and t (list_test ws (i + 3)) _
