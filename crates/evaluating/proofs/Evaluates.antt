-- Evaluation on words is the definitions' evaluation: on the words of an expression that fits, among 32 values laid out.
-- Assumes nothing.
use Rattle.std.proofs.Common.{◌≡◌, ℕ, zero, suc, ◌+◌, ◌-◌, ◌*◌, ◌/◌, ◌%◌, ◌<◌, ◌≤◌, List, ◌∷◌, ◌++◌, length, get_or, drop, refl, ap, ◌∙◌, ap₂, append_assoc, arith, length-append, le-ltb, lt-ltb, ne_eqb}
use mathlib.Core.Option.{Option, none, some}
use Rattle.sock.specs.Words.{value_of, high_word, low_word}
use Rattle.sock.specs.Term.{Operator, sum, difference, less, equal, decimal_sum, decimal_difference, Expr}
use Rattle.sock.specs.Layout.{operator_tag, expr_words, expr_depth}
use Rattle.sock.specs.Configuration.{values_words, also}
use Rattle.sock.specs.Evaluation.{value_at, operate, evaluate}
use Rattle.sock.proofs.Fits.{FitsExpr, constant_fits, variable_fits, apply_fits, AllBelow, none_below, one_below}
use Rattle.sock.proofs.Fields.{operator_tag_lem}
use Rattle.sock.proofs.Positions.{At, at_head, at_past}
use Rattle.evaluating.specs.declared.evaluate.Evaluated.{Evaluated}
use Rattle.evaluating.specs.Evaluating.{value_in, operated, ended, combined, constant_at, both, evaluated_at, evaluated}
use Rattle.std.specs.Prelude.{Some}
use Rattle.evaluating.specs.Valuing.{value_as}

-- ---- values

pub value_in_lem : {vs : List ℕ} → AllBelow 4294967296 vs → (x : ℕ) → value_in (values_words vs) x ≡ value_at vs x
unfolding value_in values_words
value_in_lem none_below x = refl
value_in_lem (one_below {v = v} b bs) zero = omega arith
value_in_lem (one_below {v = v} {vs = vs} b bs) (suc x) =
    let p : suc x * 2 ≡ suc (suc (x * 2)) = omega arith in
    let q : suc x * 2 + 1 ≡ suc (suc (x * 2 + 1)) = omega arith in
    ap₂ (λ (h l : ℕ). value_of (get_or (high_word v ∷ low_word v ∷ values_words vs) h 0) (get_or (high_word v ∷ low_word v ∷ values_words vs) l 0)) p q ∙ value_in_lem bs x

operated_as : (o : Operator) (a b : ℕ) → operated (operator_tag o) a b ≡ value_as (operate o a b)
unfolding operated operate
operated_as sum a b = refl
operated_as difference a b = refl
operated_as less a b = refl
operated_as equal a b = refl
operated_as decimal_sum a b = refl
operated_as decimal_difference a b = refl

-- two operands, each with a value or none
combined_as :
    (o : Operator) (x y : Option ℕ) → combined (operator_tag o) (value_as x) (value_as y) ≡ value_as (also x λ v. also y λ w. operate o v w)
unfolding combined also
combined_as o none y = refl
combined_as o (some v) none = refl
combined_as o (some v) (some w) = operated_as o v w

-- ---- expressions

abbrev Gives : List ℕ → Expr → ℕ → Evaluated → Type 0
Gives vs e i r = r ≡ ended (i + length (expr_words e)) (value_as (evaluate vs e))

-- one level: the word there, and what the next level gives
level : (ws vsw : List ℕ) (d i : ℕ) {w : ℕ} {rest : List ℕ} → At ws i w rest → evaluated (suc d) ws vsw i ≡ evaluated_at (evaluated d ws vsw) ws vsw i w
unfolding evaluated
level ws vsw d i h = simp (lt-ltb i (length ws) h.inside, h.word)

module _ (vs : List ℕ) (below : AllBelow 4294967296 vs) (ws : List ℕ) where
  pub evaluates :
      {e : Expr} → FitsExpr e → (d : ℕ) → expr_depth e ≤ d → (i : ℕ) (rest : List ℕ) → drop i ws ≡ expr_words e ++ rest →
      evaluated d ws (values_words vs) i ≡ ended (i + length (expr_words e)) (value_as (evaluate vs e))
  unfolding expr_depth expr_words evaluate evaluated_at constant_at both
  evaluates (constant_fits {v = v} b) zero h i rest e = absurd (omega arith)
  evaluates (constant_fits {v = v} b) (suc d) h i rest e =
      let p = at_head ws i 0 (high_word v ∷ low_word v ∷ rest) e in
      let q = at_head ws (i + 1) (high_word v) (low_word v ∷ rest) p.next in
      let r = at_head ws (i + 1 + 1) (low_word v) rest q.next in
      let k : i + 2 ≡ i + 1 + 1 = omega arith in
      let x : i + 1 + 1 < length ws = r.inside in
      let y : 3 ≤ length ws - i = omega arith in
      let z : value_of (high_word v) (low_word v) ≡ v = omega arith in
      level ws (values_words vs) d i p
      ∙ simp (le-ltb (length ws - i) 3 y, k, q.word, r.word) (ap (λ (u : ℕ). ended (i + 3) (Some u)) z)
  evaluates (variable_fits {x = x} b) zero h i rest e = absurd (omega arith)
  evaluates (variable_fits {x = x} b) (suc d) h i rest e =
      let p = at_head ws i (8192 + x * 256) rest e in
      let k : (8192 + x * 256) / 8192 ≡ 1 = omega arith in
      let y : (8192 + x * 256) / 256 % 32 ≡ x = omega arith in
      level ws (values_words vs) d i p ∙ simp (k, y) (ap (λ (v : ℕ). ended (i + 1) (Some v)) (value_in_lem below x))
  evaluates (apply_fits f g) zero h i rest e = absurd (omega arith)
  evaluates (apply_fits {o = o} {a = a} {b = b} f g) (suc d) h i rest e =
      let p = at_head ws i (operator_tag o * 8192) (expr_words a ++ expr_words b ++ rest) e in
      let x : drop (i + 1) ws ≡ expr_words a ++ (expr_words b ++ rest) = p.next ∙ append_assoc (expr_words a) (expr_words b) rest in
      let y = at_past ws (expr_words a) (expr_words b ++ rest) (i + 1) x in
      let da : expr_depth a ≤ d = omega arith in
      let db : expr_depth b ≤ d = omega arith in
      let ea = evaluates f d da (i + 1) (expr_words b ++ rest) x in
      let eb = evaluates g d db (i + 1 + length (expr_words a)) rest y in
      let t : (2 ≤ operator_tag o) × (operator_tag o ≤ 7) = operator_tag_lem o in
      let k : operator_tag o * 8192 / 8192 ≡ operator_tag o = omega arith in
      let n0 : operator_tag o ≡ 0 → ⊥ = λ q. omega arith in
      let n1 : operator_tag o ≡ 1 → ⊥ = λ q. omega arith in
      let l : i + 1 + length (expr_words a) + length (expr_words b) ≡ i + suc (length (expr_words a ++ expr_words b)) =
      (let q = length-append (expr_words a) (expr_words b) in omega arith) in
      level ws (values_words vs) d i p
      ∙ simp (k, ne_eqb (operator_tag o) 0 n0, ne_eqb (operator_tag o) 1 n1, ea, eb)
      (ap₂ (λ (n : ℕ) v. ended n v) l (combined_as o (evaluate vs a) (evaluate vs b)))
