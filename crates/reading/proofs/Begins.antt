-- Where the body of an executor that fits begins: behind its own words, which the walk finds right.
-- Assumes nothing.
use Prim.Native.Nat.{ℕ, ◌+◌, ◌-◌, ◌*◌, ◌/◌, ◌%◌, ◌≤◌, ◌<◌}
use native.Mathlib.Omega.{arith}
use mathlib.Core.Path.{◌≡◌, refl, sym, ap, ◌∙◌}
use mathlib.Core.Bool.{Bool, true, false}
use mathlib.Core.List.{List, [], ◌∷◌, ◌++◌}
use lib.Dec.{T}
use lib.ListN.{length, drop}
use borrow.Author.Tests.{lt-ltb, le-leb, eq-eqb}
use Rattle.sock.specs.Kind
use Rattle.sock.specs.Kind.{variables}
use Rattle.sock.specs.Words.{head_of, name_fields}
use Rattle.sock.specs.Variables.{first_of, variable_words}
use Rattle.sock.specs.Reading.{Got, got, check, end_fits, fixed_words}
use Rattle.sock.proofs.Logic.{test_true}
use Rattle.sock.proofs.Fits.{FitsVariables}
use Rattle.sock.proofs.Positions.{at_head, at_past, stands_within, word_at}
use Rattle.sock.proofs.Reading.{fixed_finds}
use Rattle.sock.proofs.Variables.{laid, list_fits}
use Rattle.layout.proofs.Owns.{list_words}
use Rattle.reading.specs.Walk.{when, at, end_after, variables_end, executor_own}
use Rattle.reading.proofs.Combining.{Words}
use Rattle.reading.proofs.Owned.{one_list_lem}
use Rattle.reading.proofs.Serials.{end_test}
use Rattle.reading.proofs.Variables.{list_test, list_when}

-- a test behind which something is read
was_true : {A : Type 0} (b : Bool) (g : Got A) {a : A} {rest : List ℕ} → check b g ≡ got a rest → b ≡ true
unfolding check
was_true true g e = refl
was_true false g e = absurd (let z : ◌≡◌ {A = ℕ} 0 1 = cc in omega arith)

module _ (ws : List ℕ) (ok : Words ws) where
  -- a list of variables that fits stands where the walk finds one
  pub list_stands :
      (xs : List ℕ) → FitsVariables xs → (i : ℕ) (rest : List ℕ) → drop i ws ≡ variable_words xs ++ rest →
      variables_end ws i ≡ i + length (variable_words xs)
  unfolding when
  list_stands xs f i rest e =
      let l = laid xs f in
      let reads : fixed_words (variables ∷ []) (drop i ws) ≡ got (variable_words xs) rest = rw e (fixed_finds (list_fits xs f) rest) in
      let found : list_test ws i ≡ true = was_true (list_test ws i) _ (sym (one_list_lem ws ok i) ∙ reads) in
      let here = at_head ws i l.count (l.further ++ rest) (e ∙ ap (λ v. v ++ rest) l.words) in
      list_when ws i ∙ rw (found, here.word) (ap (λ n. i + n) (sym (ap length l.words ∙ list_words l.counted l.fitting)))

  pub own_begins :
      (n issued : ℕ) → issued < 65536 → (o : ℕ) (y : List ℕ) (client serial : ℕ) → FitsVariables y → client < 8 → T (end_fits n issued client serial) →
      (rest : List ℕ) (i : ℕ) →
      drop i ws ≡ (head_of Kind.executor (name_fields o (first_of y)) ∷ (client * 8192) ∷ serial ∷ []) ++ (variable_words y ++ rest) →
      executor_own ws (n * 65536 + issued) i ≡ i + 3 + length (variable_words y)
  unfolding executor_own when
  own_begins n issued small o y client serial f low end rest i e =
      let own : List ℕ = head_of Kind.executor (name_fields o (first_of y)) ∷ (client * 8192) ∷ serial ∷ [] in
      let inside : i + 3 ≤ length ws = stands_within ws own (variable_words y ++ rest) i e (omega arith) in
      let first : at ws (i + 1) ≡ client * 8192 = word_at ws own (variable_words y ++ rest) i e 1 (omega arith) in
      let second : at ws (i + 2) ≡ serial = word_at ws own (variable_words y ++ rest) i e 2 (omega arith) in
      let behind : drop (i + 3) ws ≡ variable_words y ++ rest = at_past ws own (variable_words y ++ rest) i e in
      let a : (n * 65536 + issued) / 65536 ≡ n = omega arith in
      let b : (n * 65536 + issued) % 65536 ≡ issued = omega arith in
      let c : client * 8192 / 8192 % 8 ≡ client = omega arith in
      let z : client * 8192 % 8192 ≡ 0 = omega arith in
      let after : end_after ws i 8192 (n * 65536 + issued) ≡ true =
      sym (end_test ws i 8192 (n * 65536 + issued))
      ∙ rw (first, second, a, b, c, le-leb 3 (length ws - i) (omega arith), eq-eqb (client * 8192 % 8192) 0 z) (test_true (end_fits n issued client serial) end) in
      rw (lt-ltb i (length ws) (omega arith), after) (list_stands y f (i + 3) rest behind)
