-- The parts of a node at their positions: fixed words, expressions, and processes, given their reader one level down.
-- Assumes nothing.
use Prim.Native.Nat.{ℕ, zero, suc, ◌+◌, ◌*◌, ◌-◌, ◌/◌, ◌%◌, ◌≤◌, ◌<◌}
use native.Mathlib.Omega.{arith}
use mathlib.Core.Path.{◌≡◌, refl, ap, ◌∙◌}
use mathlib.Core.Bool.{Bool, false, not, ◌&&◌, ◌||◌}
use mathlib.Core.List.{List, [], ◌∷◌}
use lib.Dec.{T, leb, ltb, eqb}
use lib.ListN.{length, drop}
use Rattle.sock.specs.Kind
use Rattle.sock.specs.Kind.{Own, word}
use Rattle.sock.specs.Words.{is_word, clear}
use Rattle.sock.specs.Term.{no_parts, ◌&◌}
use Rattle.sock.specs.Reading.{got, and_then, check, Stratum, running, code, Place, anywhere, guard, fixed_words, expr, exprs, process}
use Rattle.sock.proofs.Parts.{part_stratum, part_place, parts, part_by}
use Rattle.sock.proofs.Logic.{cond-case, test_true, test_false}
use Rattle.sock.proofs.Reading.{tests, split, both}
use Rattle.reading.specs.Walk.{at, expr_end, two_end, branches_end, fixed_after, process_end}
use Rattle.reading.proofs.Contexts.{number_of, code_of, guard_context}
use Rattle.reading.proofs.Combining.{same_test, check_and, check_as, then_check, then_assoc, on_assoc, Words, at_next}
use Rattle.reading.proofs.Ending.{Ends, reads, ends_then, ends_map, ends_before}
use Rattle.reading.proofs.Expressions.{expr_ends}

-- ---- fixed words

module _ (ws : List ℕ) (ok : Words ws) (i m : ℕ) where
  one_test : ltb (i + 1) (length ws) && (is_word (at ws (i + 1)) && clear m (at ws (i + 1))) ≡ fixed_after ws i m
  unfolding fixed_after
  one_test =
      let w : ℕ = at ws (i + 1) in
      let n : ℕ = length ws in
      same_test (ltb (i + 1) n && (is_word w && clear m w)) (leb 2 (n - i) && clear m w)
      (λ t.
      let t = split (ltb (i + 1) n) (is_word w && clear m w) t in
      both (leb 2 (n - i)) (clear m w) (omega tests) (split (is_word w) (clear m w) t.1).1)
      λ t.
      let t = split (leb 2 (n - i)) (clear m w) t in
      both (ltb (i + 1) n) (is_word w && clear m w) (omega tests) (both (is_word w) (clear m w) (omega (tests, ok (i + 1))) t.1)

  -- a fixed word, then the others of a process's own words
  pub word_then :
      (os : List Own) →
      fixed_words (word m ∷ os) (drop (i + 1) ws) ≡ check (fixed_after ws i m) (and_then (fixed_words os (drop (i + 2) ws)) λ f rest. got (at ws (i + 1) ∷ f) rest)
  unfolding fixed_words
  word_then os =
      at_next (fixed_words (word m ∷ os)) refl ws (i + 1) (i + 2) (omega arith)
      ∙ check_and (ltb (i + 1) (length ws)) (is_word (at ws (i + 1)) && clear m (at ws (i + 1))) _
      ∙ check_as _ one_test

  pub fixed_one : fixed_words (word m ∷ []) (drop (i + 1) ws) ≡ check (fixed_after ws i m) (got (at ws (i + 1) ∷ []) (drop (i + 2) ws))
  unfolding fixed_words and_then
  fixed_one = word_then []

  two_test :
      ltb (i + 1) (length ws) && (is_word (at ws (i + 1)) && clear m (at ws (i + 1))) && (ltb (i + 2) (length ws) && (is_word (at ws (i + 2)) && clear 1 (at ws (i + 2))))
      ≡ leb 3 (length ws - i) && clear m (at ws (i + 1))
  unfolding fixed_after
  two_test =
      let w : ℕ = at ws (i + 1) in
      let v : ℕ = at ws (i + 2) in
      let n : ℕ = length ws in
      let b : Bool = ltb (i + 2) n && (is_word v && clear 1 v) in
      rw one_test
      (same_test (fixed_after ws i m && b) (leb 3 (n - i) && clear m w)
      (λ t.
      let t = split (fixed_after ws i m) b t in
      let x = split (leb 2 (n - i)) (clear m w) t.0 in
      let y = split (ltb (i + 2) n) (is_word v && clear 1 v) t.1 in
      both (leb 3 (n - i)) (clear m w) (omega tests) x.1)
      λ t.
      let t = split (leb 3 (n - i)) (clear m w) t in
      both (fixed_after ws i m) b (both (leb 2 (n - i)) (clear m w) (omega tests) t.1)
      (both (ltb (i + 2) n) (is_word v && clear 1 v) (omega tests) (both (is_word v) (clear 1 v) (omega (tests, ok (i + 2))) (omega tests))))

  -- two fixed words, the second one whole, then the others
  pub words_then :
      (os : List Own) →
      fixed_words (word m ∷ word 1 ∷ os) (drop (i + 1) ws)
      ≡ check (leb 3 (length ws - i) && clear m (at ws (i + 1))) (and_then (fixed_words os (drop (i + 3) ws)) λ f rest. got (at ws (i + 1) ∷ at ws (i + 2) ∷ f) rest)
  unfolding fixed_words and_then
  words_then os =
      let w : ℕ = at ws (i + 1) in
      let v : ℕ = at ws (i + 2) in
      let n : ℕ = length ws in
      let a : Bool = ltb (i + 1) n && (is_word w && clear m w) in
      at_next (fixed_words (word m ∷ word 1 ∷ os)) refl ws (i + 1) (i + 2) (omega arith)
      ∙ check_and (ltb (i + 1) n) (is_word w && clear m w) _
      ∙ ap (check a)
      (at_next (λ l. and_then (fixed_words (word 1 ∷ os) l) λ f rest. got (w ∷ f) rest) refl ws (i + 2) (i + 3) (omega arith)
      ∙ ap (check (ltb (i + 2) n)) (then_check (is_word v && clear 1 v) _ _ ∙ ap (check (is_word v && clear 1 v)) (then_assoc (fixed_words os (drop (i + 3) ws)) _ _))
      ∙ check_and (ltb (i + 2) n) (is_word v && clear 1 v) _)
      ∙ check_and a (ltb (i + 2) n && (is_word v && clear 1 v)) _
      ∙ check_as _ two_test

  pub fixed_two :
      fixed_words (word m ∷ word 1 ∷ []) (drop (i + 1) ws)
      ≡ check (leb 3 (length ws - i) && clear m (at ws (i + 1))) (got (at ws (i + 1) ∷ at ws (i + 2) ∷ []) (drop (i + 3) ws))
  unfolding fixed_words and_then
  fixed_two = words_then []

-- ---- expressions

pub one_expr : (ws : List ℕ) → Words ws → (d i j : ℕ) → i ≤ j → Ends ws i (exprs (expr d) 1 (drop j ws)) (expr_end d ws j)
unfolding exprs and_then
one_expr ws ok d i j h = ends_map (λ e. e ∷ []) (ends_before h (expr_ends ws ok d j))

-- ---- processes

-- code, or running among the engines and serials of `bound`
pub data Bounded (bound : ℕ) : Stratum → Type 0 where
  is_code : {c : Bool} → Bounded bound (code c)
  is_running : Bounded bound (running (bound / 65536) (bound % 65536))

-- the reader of processes of depth d
abbrev pub Below : List ℕ → ℕ → ℕ → Type 0
Below ws bound d = (s : Stratum) → Bounded bound s → (p : Place) (i : ℕ) → Ends ws i (process d s p (drop i ws)) (process_end d ws bound (number_of s p) i)

-- a part that runs where its node does
abbrev keeps : ℕ → ℕ → Bool
keeps k left = eqb k Kind.scope || eqb k Kind.executor || eqb k Kind.par || eqb k Kind.seq && eqb left 1

pub kept : (s : Stratum) (k left : ℕ) → T (keeps k left) → part_stratum s k left ≡ s
unfolding part_stratum
kept (code c) k left t = refl
kept (running n issued) k left t = rw (test_true (keeps k left) t)

pub rested : (s : Stratum) (k left : ℕ) → T (not (keeps k left)) → part_stratum s k left ≡ code_of s
unfolding part_stratum
rested (code c) k left t = refl
rested (running n issued) k left t = rw (test_false (keeps k left) t)

part_bounded : {bound : ℕ} {s : Stratum} → Bounded bound s → (k left : ℕ) → Bounded bound (part_stratum s k left)
unfolding part_stratum
part_bounded is_code k left = is_code
part_bounded {bound} is_running k left = cond-case (Bounded bound) (keeps k left) {y = code false} (λ t. is_running) λ t. is_code

module _ (ws : List ℕ) (bound d : ℕ) (below : Below ws bound d) (s : Stratum) (b : Bounded bound s) where
  part_end :
      (k left i j : ℕ) → i ≤ j →
      Ends ws i (part_by (process d) s k left (drop j ws)) (process_end d ws bound (number_of (part_stratum s k left) (part_place k left)) j)
  unfolding part_by
  part_end k left i j h = ends_before h (below (part_stratum s k left) (part_bounded b k left) (part_place k left) j)

  pub one_part_lem :
      (k i j : ℕ) → i ≤ j →
      Ends ws i (parts (part_by (process d) s k) 1 (drop j ws)) (process_end d ws bound (number_of (part_stratum s k 0) (part_place k 0)) j)
  unfolding parts and_then
  one_part_lem k i j h = ends_map (λ m. m & no_parts) (part_end k 0 i j h)

  pub two_parts :
      (k i j : ℕ) → i ≤ j →
      Ends ws i (parts (part_by (process d) s k) 2 (drop j ws))
      (two_end (process_end d ws bound) (number_of (part_stratum s k 1) (part_place k 1)) (number_of (part_stratum s k 0) (part_place k 0)) j)
  unfolding parts two_end
  two_parts k i j h = ends_then _ _ (part_end k 1 i j h) λ m p q. ends_map (λ ms. m & ms) (one_part_lem k i _ (omega arith))

  -- a branch's guard, and its process
  guard_end :
      (n i j : ℕ) → i ≤ j → Ends ws i (part_by (process d) s Kind.choice (suc (n * 2)) (drop j ws)) (process_end d ws bound (number_of (code_of s) guard) j)
  unfolding part_place
  guard_end n i j h =
      let e : suc (n * 2) % 2 ≡ 1 = omega arith in
      rw (rested s Kind.choice (suc (n * 2)) tt, e) at (part_end Kind.choice (suc (n * 2)) i j h)

  body_end :
      (n i j : ℕ) → i ≤ j → Ends ws i (part_by (process d) s Kind.choice (n * 2) (drop j ws)) (process_end d ws bound (number_of (code_of s) anywhere) j)
  unfolding part_place
  body_end n i j h = let e : n * 2 % 2 ≡ 0 = omega arith in rw (rested s Kind.choice (n * 2) tt, e) at (part_end Kind.choice (n * 2) i j h)

  -- the branches of a choice
  pub branches_parts :
      (n i j : ℕ) → i < j → j ≤ length ws →
      Ends ws i (parts (part_by (process d) s Kind.choice) (n * 2) (drop j ws)) (branches_end (process_end d ws bound) (number_of (code_of s) anywhere) n j)
  unfolding parts branches_end two_end
  branches_parts zero i j h q = reads h q
  branches_parts (suc n) i j h q =
      let e : suc n * 2 ≡ suc (suc (n * 2)) = omega arith in
      rw (e, guard_context (code_of s), on_assoc)
      (ends_then _ _ (guard_end n i j (omega arith)) λ m p q.
      ends_map (λ ms. m & ms) (ends_then _ _ (body_end n i _ (omega arith)) λ m p q. ends_map (λ ms. m & ms) (branches_parts n i _ p q)))
