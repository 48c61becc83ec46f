-- Own words at their positions: where the mirrored skip ends, the layout's reader has read them.
-- Assumes nothing.
use Prim.Native.Nat.{ℕ, zero, suc, ◌+◌, ◌-◌, ◌≤◌, ◌<◌}
use native.Mathlib.Omega.{arith}
use native.Mathlib.Nat.{add-zero}
use native.Mathlib.Numerals.{add-one}
use mathlib.Core.Path.{◌≡◌, refl, sym, ap, ◌∙◌}
use mathlib.Core.Bool.{Bool, true, false, cond}
use mathlib.Core.List.{List, [], ◌∷◌, ◌++◌, append_assoc, append-nil}
use lib.Dec.{eqb, ltb}
use lib.ListN.{length, take, drop, get_or, length-append, length-drop, drop_of_length-le}
use lib.Seq.{length-take-le, drop-drop, drop-cons}
use borrow.Author.Tests.{le-ltb, le-leb, lt-leb, ne_eqb, ltb-true, ltb-false}
use Rattle.sock.specs.Term.{Expr}
use Rattle.sock.specs.Layout.{expr_words, exprs_words}
use Rattle.sock.specs.Reading.{Got, fail, got, and_then, expr}
use Rattle.sock.specs.declared.Counts.{Counts}
use Rattle.sock.proofs.Reading.{Holds, holding, expr_found, ExprFound}
use Rattle.reading.specs.Walk.{expr_end}
use Rattle.reading.proofs.Combining.{Words}
use Rattle.reading.proofs.Ending.{Ends, fails, reads}
use Rattle.reading.proofs.Expressions.{expr_ends}
use Rattle.planning.specs.Plan.{first, lists, expressed, Own, own}
use Rattle.planning.proofs.Steps.{lists_lost}
use Rattle.planning.specs.Walk.{past, variables_past, lists_past, expression_past, own_past}

module _ (ws : List ℕ) where
  -- nothing and 0, or what stands at i and where it ends
  pub data Reach {A : Type 0} (laid : A → List ℕ) (i : ℕ) : Got A → ℕ → Type 0 where
    no : Reach laid i fail 0
    yes : {x : A} {rest : List ℕ} {e : ℕ} → drop i ws ≡ laid x ++ rest → e ≡ i + length (laid x) → drop e ws ≡ rest → e ≤ length ws → Reach laid i (got x rest) e

unfoldable pub own_words : Own → List ℕ
own_words o = o.fixed ++ exprs_words o.expressions

-- ---- words, and lists of variables

first_all : (n : ℕ) (l : List ℕ) → n ≤ length l → first n l ≡ got (take n l) (drop n l)
unfolding first and_then
first_all zero l h = refl
first_all (suc n) [] h = absurd (omega arith)
first_all (suc n) (w ∷ l) h = rw (first_all n l (omega arith))

first_none : (n : ℕ) (l : List ℕ) → length l < n → first n l ≡ fail
unfolding first and_then
first_none zero l h = absurd (omega arith)
first_none (suc n) [] h = refl
first_none (suc n) (w ∷ l) h = rw (first_none n l (omega arith))

take_drop : (n : ℕ) (l : List ℕ) → l ≡ take n l ++ drop n l
take_drop zero l = refl
take_drop (suc n) [] = refl
take_drop (suc n) (w ∷ l) = ap (λ x. w ∷ x) (take_drop n l)

abbrev pub itself : List ℕ → List ℕ
itself l = l

module _ (ws : List ℕ) (ok : Words ws) where
  past_is : (i n : ℕ) → 0 < i → i ≤ length ws → past ws i n ≡ cond (ltb (length ws - i) n) 0 (i + n)
  unfolding past
  past_is i n h l = rw (ne_eqb i 0 (λ e. omega arith), le-ltb (length ws) i l) refl

  pub first_reach : (i n : ℕ) → 0 < i → i ≤ length ws → Reach ws itself i (first n (drop i ws)) (past ws i n)
  first_reach i n h l = go (ltb (length ws - i) n) refl
    where
      len : length (drop i ws) ≡ length ws - i
      len = length-drop i ws

      go : (b : Bool) → ltb (length ws - i) n ≡ b → Reach ws itself i (first n (drop i ws)) (past ws i n)
      go true t =
          let s : length ws - i < n = ltb-true _ _ t in
          rw (past_is i n h l, t, first_none n (drop i ws) (omega (arith, len))) no
      go false t =
          let s : n ≤ length ws - i = ltb-false _ _ t in
          let k : length (take n (drop i ws)) ≡ n = length-take-le n (drop i ws) (omega (arith, len)) in
          rw (past_is i n h l, t, first_all n (drop i ws) (omega (arith, len)))
          (let u : i + n ≡ i + length (take n (drop i ws)) = omega arith in
          let m : i + n ≤ length ws = omega arith in
          yes (take_drop n (drop i ws)) u (sym (drop-drop n i ws)) m)

  -- a reader at a place where words end, or where a word stands
  lists_reach : (n i : ℕ) → 0 < i → i ≤ length ws → Reach ws itself i (lists n (drop i ws)) (lists_past ws n i)
  unfolding lists lists_past variables_past and_then
  lists_reach zero i h l = yes refl (sym (add-zero i)) refl l
  lists_reach (suc n) i h l = go (ltb i (length ws)) refl (λ k. lists_reach n k)
    where
      onward :
          (c e : ℕ) (v : List ℕ) {k : Got (List ℕ)} {x : ℕ} → drop i ws ≡ c ∷ v ++ drop e ws → e ≡ i + 1 + length v → Reach ws itself e k x →
          Reach ws itself i (and_then k λ f rest. got (c ∷ v ++ f) rest) x
      onward c e v q u no = no
      onward c e v q u (yes {x = f} {rest} {e = x} a b d m) =
          let n : x ≡ i + length (c ∷ v ++ f) = omega (arith, length-append v f) in
          yes (q ∙ ap (λ l. c ∷ v ++ l) a ∙ ap (λ l. c ∷ l) (sym (append_assoc v f rest))) n d m

      then : ((k : ℕ) → 0 < k → k ≤ length ws → Reach ws itself k (lists n (drop k ws)) (lists_past ws n k)) → (c : ℕ) {g : Got (List ℕ)} {e : ℕ} → Reach ws itself (i + 1) g e → drop i ws ≡ c ∷ drop (i + 1) ws →
          Reach ws itself i (and_then g λ v next. and_then (lists n next) λ f rest. got (c ∷ v ++ f) rest) (lists_past ws n e)
      then below c no q = rw (lists_lost ws n) no
      then below c (yes {x = v} {rest = next} {e} p u r m) q =
          onward c e v (q ∙ ap (λ l. c ∷ l) (p ∙ ap (λ l. v ++ l) (sym r))) u (rw r at (below e (omega arith) m))

      go : (b : Bool) → ltb i (length ws) ≡ b → ((k : ℕ) → 0 < k → k ≤ length ws → Reach ws itself k (lists n (drop k ws)) (lists_past ws n k)) → Reach ws itself i (lists (suc n) (drop i ws)) (lists_past ws n (variables_past ws i))
      go true t below =
          let s : i < length ws = ltb-true _ _ t in
          let q : drop i ws ≡ get_or ws i 0 ∷ drop (i + 1) ws = rw (add-one i) (drop-cons ws i 0 s) in
          rw (q, ne_eqb i 0 (λ e. omega arith), lt-leb (length ws) i s)
          (then below (get_or ws i 0) (first_reach (i + 1) (get_or ws i 0 - 1) (omega arith) (omega arith)) q)
      go false t below =
          let s : length ws ≤ i = ltb-false _ _ t in
          rw (drop_of_length-le ws s, ne_eqb i 0 (λ e. omega arith), le-leb (length ws) i s, lists_lost ws n) no

  expr_reach : (d i : ℕ) → i ≤ length ws → Reach ws expr_words i (expr d (drop i ws)) (expr_end d ws i)
  expr_reach d i l = go (expr_ends ws ok d i) (expr_found d (drop i ws))
    where
      go : {g : Got Expr} {e : ℕ} → Ends ws i g e → Holds (ExprFound d (drop i ws)) g → Reach ws expr_words i g e
      go fails f = no
      go (reads {a} {e} m n) f =
          let q = holding f in
          let s : length ws - i ≡ length (expr_words a) + (length ws - e) =
          sym (length-drop i ws) ∙ ap length q.0 ∙ length-append (expr_words a) (drop e ws) ∙ ap (λ k. length (expr_words a) + k) (length-drop e ws) in
          let u : e ≡ i + length (expr_words a) = omega arith in
          yes q.0 u refl n

  expressed_reach : (d i : ℕ) (b : Bool) → 0 < i → i ≤ length ws → Reach ws exprs_words i (expressed (expr d) b (drop i ws)) (expression_past d ws b i)
  unfolding expressed expression_past exprs_words and_then
  expressed_reach d i true h l = yes refl (sym (add-zero i)) refl l
  expressed_reach d i false h l = rw (ne_eqb i 0 (λ e. omega arith)) (go (expr_reach d i l))
    where
      go : {g : Got Expr} {e : ℕ} → Reach ws expr_words i g e → Reach ws exprs_words i (and_then g λ a rest. got (a ∷ []) rest) e
      go no = no
      go (yes {x = a} {rest} p q r m) = yes (p ∙ ap (λ l. l ++ rest) (sym (append-nil (expr_words a)))) (q ∙ ap (λ l. i + length l) (sym (append-nil (expr_words a)))) r m

  express_lost : (d : ℕ) (b : Bool) → expression_past d ws b 0 ≡ 0
  unfolding expression_past
  express_lost d true = refl
  express_lost d false = refl

  pub own_reach : (d i : ℕ) (c : Counts) → i < length ws → Reach ws own_words (i + 1) (own (expr d) c (drop (i + 1) ws)) (own_past d ws c i)
  unfolding own own_past own_words and_then
  own_reach d i c h = one (first_reach (i + 1) c.fixed (omega arith) (omega arith))
    where
      three :
          (f v : List ℕ) (x : ℕ) → drop (i + 1) ws ≡ (f ++ v) ++ drop x ws → x ≡ i + 1 + length (f ++ v) → {g : Got (List Expr)} {e : ℕ} → Reach ws exprs_words x g e →
          Reach ws own_words (i + 1) (and_then g λ es rest. got (record { fixed = f ++ v; expressions = es }) rest) e
      three f v x p q no = no
      three f v x p q (yes {x = es} {rest} {e} a b r n) =
          let u : e ≡ i + 1 + length ((f ++ v) ++ exprs_words es) = omega (arith, length-append (f ++ v) (exprs_words es)) in
          yes (p ∙ ap (λ l. (f ++ v) ++ l) a ∙ sym (append_assoc (f ++ v) (exprs_words es) rest)) u r n

      two :
          (f : List ℕ) (x : ℕ) → drop (i + 1) ws ≡ f ++ drop x ws → x ≡ i + 1 + length f → {g : Got (List ℕ)} {e : ℕ} → Reach ws itself x g e →
          Reach ws own_words (i + 1)
          (and_then g λ v w2. and_then (expressed (expr d) (eqb c.expressions 0) w2) λ es rest. got (record { fixed = f ++ v; expressions = es }) rest)
          (expression_past d ws (eqb c.expressions 0) e)
      two f x p q no = rw (express_lost d (eqb c.expressions 0)) no
      two f x p q (yes {x = v} {rest = next} {e} a b r m) =
          let u : e ≡ i + 1 + length (f ++ v) = omega (arith, length-append f v) in
          three f v e (p ∙ ap (λ l. f ++ l) (a ∙ ap (λ l. v ++ l) (sym r)) ∙ sym (append_assoc f v (drop e ws))) u
          (rw r at (expressed_reach d e (eqb c.expressions 0) (omega arith) m))

      one :
          {g : Got (List ℕ)} {e : ℕ} → Reach ws itself (i + 1) g e →
          Reach ws own_words (i + 1)
          (and_then g λ f w1.
          and_then (lists c.variables w1) λ v w2.
          and_then (expressed (expr d) (eqb c.expressions 0) w2) λ es rest.
          got (record { fixed = f ++ v; expressions = es }) rest)
          (expression_past d ws (eqb c.expressions 0) (lists_past ws c.variables e))
      one no = rw (lists_lost ws c.variables, express_lost d (eqb c.expressions 0)) no
      one (yes {x = f} {rest = next} {e} p q r m) = two f e (p ∙ ap (λ l. f ++ l) (sym r)) q (rw r at (lists_reach c.variables e (omega arith) m))
