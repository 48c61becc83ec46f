-- The position reader of expressions is the definitions' reader.
-- Assumes nothing.
use Prim.Native.Nat.{ℕ, zero, suc, ◌+◌, ◌-◌, ◌/◌, ◌<◌}
use native.Mathlib.Omega.{arith}
use mathlib.Core.Path.{◌≡◌, refl, ap, ◌∙◌}
use mathlib.Core.Bool.{◌&&◌}
use mathlib.Core.List.{List, ◌∷◌}
use lib.Dec.{eqb, ltb}
use lib.ListN.{length, drop}
use Rattle.sock.specs.Words.{is_word, clear, tag_of, value_of}
use Rattle.sock.specs.Term.{Operator, Expr, sum, difference, less, equal, decimal_sum, decimal_difference}
use Rattle.sock.specs.Reading.{Got, got, check, wide, operands, expr_by, expr}
use Rattle.sock.proofs.Reading.{tests, split, both}
use Rattle.reading.specs.Walk.{when, at, constant_end, operation_end, expr_at, expr_end}
use Rattle.reading.proofs.Combining.{check_and, when_and, Words, at_next}
use Rattle.reading.proofs.Ending.{Ends, fails, reads, ends_then, ends_last, ends_check, ends_passed, ends_test, ends_before}

module _ (ws : List ℕ) (ok : Words ws) where
  -- a constant's two words
  wide_at :
      (i : ℕ) →
      wide (drop (i + 1) ws)
      ≡ check (ltb (i + 1) (length ws) && ltb (i + 2) (length ws))
      (check (is_word (at ws (i + 1)) && is_word (at ws (i + 2))) (got (value_of (at ws (i + 1)) (at ws (i + 2))) (drop (i + 3) ws)))
  unfolding wide
  wide_at i =
      at_next wide refl ws (i + 1) (i + 2) (omega arith)
      ∙ ap (check (ltb (i + 1) (length ws))) (at_next (λ l. wide (at ws (i + 1) ∷ l)) refl ws (i + 2) (i + 3) (omega arith))
      ∙ check_and _ _ _

  wide_ends : (i : ℕ) → Ends ws i (wide (drop (i + 1) ws)) (when (ltb 2 (length ws - i)) (i + 3))
  wide_ends i =
      let a : ℕ = at ws (i + 1) in
      let b : ℕ = at ws (i + 2) in
      let n : ℕ = length ws in
      rw (wide_at i)
      (ends_test (ltb (i + 1) n && ltb (i + 2) n) (ltb 2 (n - i))
      (λ t. let t = split (ltb (i + 1) n) (ltb (i + 2) n) t in omega tests)
      (λ t. both (ltb (i + 1) n) (ltb (i + 2) n) (omega tests) (omega tests))
      λ t.
      let t = split (ltb (i + 1) n) (ltb (i + 2) n) t in
      ends_passed (is_word a && is_word b) (both (is_word a) (is_word b) (omega (tests, ok (i + 1))) (omega (tests, ok (i + 2)))) (reads (omega arith) (omega tests)))

  operands_ends :
      (sub : List ℕ → Got Expr) (end : ℕ → ℕ) → ((i : ℕ) → Ends ws i (sub (drop i ws)) (end i)) →
      (o : Operator) (w i : ℕ) → i < length ws →
      Ends ws i (operands sub o w (drop (i + 1) ws)) (operation_end end i w)
  unfolding operands operation_end
  operands_ends sub end below o w i h =
      ends_check (clear 8192 w) λ t.
      ends_then _ end (ends_before {j = i + 1} (omega arith) (below (i + 1))) λ a p q.
      ends_last _ (ends_before {j = end (i + 1)} (omega arith) (below (end (i + 1)))) λ b p q.
      reads p q

  by_tag :
      (d : ℕ) → ((i : ℕ) → Ends ws i (expr d (drop i ws)) (expr_end d ws i)) →
      (i w t : ℕ) → w / 8192 ≡ t → i < length ws →
      Ends ws i (expr_by (expr d) (tag_of w) w (drop (i + 1) ws)) (expr_at (expr_end d ws) ws i w)
  unfolding expr_by expr_at constant_end
  by_tag d below i w zero e h =
      rw (e, when_and (eqb w 0) (ltb 2 (length ws - i)) (i + 3)) (ends_check (eqb w 0) λ t. ends_last _ (wide_ends i) λ v p q. reads p q)
  by_tag d below i w (suc zero) e h = rw e (ends_check (clear 256 w) λ t. reads (omega arith) (omega arith))
  by_tag d below i w (suc (suc zero)) e h = rw e (operands_ends (expr d) (expr_end d ws) below sum w i h)
  by_tag d below i w (suc (suc (suc zero))) e h = rw e (operands_ends (expr d) (expr_end d ws) below difference w i h)
  by_tag d below i w (suc (suc (suc (suc zero)))) e h = rw e (operands_ends (expr d) (expr_end d ws) below less w i h)
  by_tag d below i w (suc (suc (suc (suc (suc zero))))) e h = rw e (operands_ends (expr d) (expr_end d ws) below equal w i h)
  by_tag d below i w (suc (suc (suc (suc (suc (suc zero)))))) e h = rw e (operands_ends (expr d) (expr_end d ws) below decimal_sum w i h)
  by_tag d below i w (suc (suc (suc (suc (suc (suc (suc zero))))))) e h = rw e (operands_ends (expr d) (expr_end d ws) below decimal_difference w i h)
  by_tag d below i w (suc (suc (suc (suc (suc (suc (suc (suc t)))))))) e h = rw e fails

pub expr_ends : (ws : List ℕ) → Words ws → (d i : ℕ) → Ends ws i (expr d (drop i ws)) (expr_end d ws i)
unfolding expr expr_end
expr_ends ws ok zero i = fails
expr_ends ws ok (suc d) i =
    rw (at_next (expr (suc d)) refl ws i (i + 1) refl)
    (ends_check (ltb i (length ws)) λ t. by_tag ws ok d (expr_ends ws ok d) i (at ws i) (at ws i / 8192) refl (omega tests))
