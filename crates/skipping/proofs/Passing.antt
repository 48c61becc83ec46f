-- The skip's loops on the words of what fits: each turn passes over one process or expression, and what is left to pass is what the layout
-- has there.
-- Assumes nothing.
use Prim.Native.Nat.{ℕ, zero, suc, ◌+◌, ◌*◌, ◌/◌, ◌%◌, ◌≤◌, ◌<◌}
use native.Mathlib.Omega.{arith}
use mathlib.Core.Path.{◌≡◌, refl, ap, ◌∙◌}
use mathlib.Core.Bool.{Bool, true, ◌||◌, cond, or-false, or_assoc}
use mathlib.Core.List.{List, [], ◌∷◌, ◌++◌, append_assoc}
use borrow.Author.Tests.{lt-ltb}
use lib.Dec.{leb, eqb}
use lib.ListN.{length, drop, length-append}
use Rattle.sock.specs.Words.{kind_of, key_word}
use Rattle.sock.specs.Term.{Expr, apply, Operator, sum, difference, less, equal, decimal_sum, decimal_difference, Node, node, Block, Entries, Nodes, processes_of}
use Rattle.sock.specs.Layout.{operator_tag, expr_words, exprs_words, count, words, block_words, entries_words, nodes_words, depth, block_depth, entries_depth, nodes_depth}
use Rattle.sock.specs.Reading.{Stratum, Place, holds}
use Rattle.sock.proofs.Fits.{FitsExpr, constant_fits, variable_fits, apply_fits, FitsExprs, no_exprs, one_expr, Fits, fits, FitsBlock, no_list, a_list, FitsEntries, empty_fits, entry_fits_on, FitsParts, no_part, one_part}
use Rattle.sock.proofs.Fields.{turned_round}
use Rattle.sock.proofs.Nodes.{depth_some}
use Rattle.sock.proofs.Positions.{At, at_head, at_past}
use Rattle.sock.proofs.Reading.{in_order}
use Rattle.skipping.specs.Skip.{expr_form, expr_loop, expr_skip, entries_skip, list_by, after_by, behind_by, form_of, parts_by, turn_by, skip_loop, skip_end}
use Rattle.skipping.proofs.Forms.{Follows, nothing_follows, expression_follows, list_follows, known, formed, parts_of}
use Rattle.layout.specs.Own.{lists_end}
use Rattle.layout.proofs.Owns.{own_lists}
use Rattle.skipping.proofs.Turns.{expr_last, skip_last}

in_all : (a b c d : List ℕ) → length (a ++ (b ++ (c ++ d))) ≡ length a + (length b + (length c + length d))
in_all a b c d = simp length-append

in_entry : (i : ℕ) (a b : List ℕ) → i + 1 + length a + length b ≡ i + suc (length (a ++ b))
in_entry i a b = omega (arith, length-append a b)

grouped : (a b c : ℕ) → a + (b + c) ≡ a + b + c
grouped a b c = omega arith

no_more : (n : ℕ) → n ≡ n + 0
no_more n = omega arith

module _ (ws : List ℕ) where
  -- ---- expressions

  -- x is what the loop gives from e on, with `left` expressions to pass and turns enough
  record Exprs (left x e : ℕ) : Type 0 where
    pub turns : ℕ
    pub enough : length ws ≤ turns + e
    pub same : x ≡ expr_loop turns ws left e

  expr_next :
      {left x e : ℕ} (w : ℕ) (rest : List ℕ) (parts own : ℕ) →
      drop e ws ≡ w ∷ rest →
      expr_form (w / 8192) / 4 ≡ parts →
      expr_form (w / 8192) % 4 ≡ own →
      0 < own →
      Exprs (suc left) x e →
      Exprs (left + parts) x (e + own)
  unfolding expr_loop
  expr_next {left} {x} {e} w rest parts own at p q some h = by h.turns h.enough h.same
    where
      here : At ws e w rest
      here = at_head ws e w rest at

      by : (turns : ℕ) → length ws ≤ turns + e → x ≡ expr_loop turns ws (suc left) e → Exprs (left + parts) x (e + own)
      by zero enough same = absurd (omega (arith, here.inside))
      by (suc turns) enough same =
          record {
            turns = turns;
            enough = omega arith;
            same = same ∙ rw (lt-ltb e (length ws) here.inside, here.word, p, q);
          }

  expr_moved : {left x e : ℕ} (left' e' : ℕ) → left ≡ left' → e ≡ e' → Exprs left x e → Exprs left' x e'
  expr_moved left' e' p q h = rw (p, q) at h

  operator_form : (o : Operator) → expr_form (operator_tag o * 8192 / 8192) ≡ 9
  unfolding expr_form
  operator_form sum = refl
  operator_form difference = refl
  operator_form less = refl
  operator_form equal = refl
  operator_form decimal_sum = refl
  operator_form decimal_difference = refl

  expr_pass :
      {a : Expr} → FitsExpr a → {left x e : ℕ} (rest : List ℕ) →
      drop e ws ≡ expr_words a ++ rest →
      Exprs (suc left) x e →
      Exprs left x (e + length (expr_words a))
  unfolding expr_words expr_form
  expr_pass (constant_fits v) {left} {x} {e} rest at h = expr_moved left (e + 3) (omega arith) refl (expr_next 0 _ 0 3 at refl refl (omega arith) h)
  expr_pass (variable_fits {x = v} b) {left} {x} {e} rest at h =
      let tag : (8192 + v * 256) / 8192 ≡ 1 = omega arith in
      expr_moved left (e + 1) (omega arith) refl
      (expr_next (8192 + v * 256) rest 0 1 at (ap (λ t. expr_form t / 4) tag) (ap (λ t. expr_form t % 4) tag) (omega arith) h)
  expr_pass (apply_fits {o} {a} {b} f g) {left} {x} {e} rest at h =
      let w : ℕ = operator_tag o * 8192 in
      let start : At ws e w ((expr_words a ++ expr_words b) ++ rest) = at_head ws e w _ at in
      let first : drop (e + 1) ws ≡ expr_words a ++ (expr_words b ++ rest) = start.next ∙ append_assoc (expr_words a) (expr_words b) rest in
      let second : drop (e + 1 + length (expr_words a)) ws ≡ expr_words b ++ rest = at_past ws (expr_words a) (expr_words b ++ rest) (e + 1) first in
      let both : Exprs (suc (suc left)) x (e + 1) =
      expr_moved (suc (suc left)) (e + 1) (omega arith) refl
      (expr_next w _ 2 1 at (ap (λ f. f / 4) (operator_form o)) (ap (λ f. f % 4) (operator_form o)) (omega arith) h) in
      expr_moved left (e + length (expr_words (apply o a b))) refl (omega (arith, length-append (expr_words a) (expr_words b)))
      (expr_pass g rest second (expr_pass f (expr_words b ++ rest) first both))

  expr_skip_lem : {a : Expr} → FitsExpr a → (i : ℕ) (rest : List ℕ) → drop i ws ≡ expr_words a ++ rest → expr_skip ws i ≡ i + length (expr_words a)
  unfolding expr_skip
  expr_skip_lem {a} f i rest at =
      let h : Exprs 0 (expr_skip ws i) (i + length (expr_words a)) =
      expr_pass f rest at (record { turns = length ws; enough = omega arith; same = refl }) in
      h.same ∙ expr_last h.turns ws 0 (i + length (expr_words a)) refl

  -- ---- processes

  -- x is what the loop gives with `left` processes to pass from e on, behind what follows the words that end at `at`; turns are enough
  pub record Passing (sub : ℕ → ℕ) (left x e : ℕ) : Type 0 where
    pub turns : ℕ
    pub follows : ℕ
    pub at : ℕ
    pub behind : behind_by sub ws follows at ≡ e
    pub enough : length ws ≤ turns + e
    pub same : x ≡ skip_loop turns sub ws left follows at

  moved : {sub : ℕ → ℕ} {left x e : ℕ} (left' e' : ℕ) → left ≡ left' → e ≡ e' → Passing sub left x e → Passing sub left' x e'
  moved left' e' p q h = rw (p, q) at h

  next :
      {sub : ℕ → ℕ} {left x e : ℕ} (h : ℕ) (rest : List ℕ) (e' : ℕ) →
      drop e ws ≡ h ∷ rest →
      behind_by sub ws (form_of (kind_of h) / 8 % 16) (e + form_of (kind_of h) % 8) ≡ e' →
      e < e' →
      Passing sub (suc left) x e →
      Passing sub (left + parts_by h (form_of (kind_of h))) x e'
  unfolding skip_loop turn_by
  next {sub} {left} {x} {e} h rest e' there q far p = by p.turns p.enough p.same
    where
      here : At ws e h rest
      here = at_head ws e h rest there

      by : (turns : ℕ) → length ws ≤ turns + e → x ≡ skip_loop turns sub ws (suc left) p.follows p.at → Passing sub (left + parts_by h (form_of (kind_of h))) x e'
      by zero enough same = absurd (omega (arith, here.inside))
      by (suc turns) enough same =
          record {
            turns = turns;
            follows = form_of (kind_of h) / 8 % 16;
            at = e + form_of (kind_of h) % 8;
            behind = q;
            enough = omega arith;
            same = same ∙ rw (p.behind, lt-ltb e (length ws) here.inside, here.word);
          }

  -- behind a process's own words, which end at o
  behind_own :
      (sub : ℕ → ℕ) (form i o : ℕ) → lists_end ws i (form / 32 % 4) ≡ o → behind_by sub ws (form / 8 % 16) i ≡ after_by sub ws (form / 8 % 4) o
  unfolding behind_by
  behind_own sub form i o e =
      let lists : form / 8 % 16 / 4 ≡ form / 32 % 4 = omega arith in
      let kind : form / 8 % 16 % 4 ≡ form / 8 % 4 = omega arith in
      rw (lists, kind, e)

  -- a whole process
  pub whole : (d i e : ℕ) → ((x : ℕ) → Passing (skip_end d ws) 1 x i → Passing (skip_end d ws) 0 x e) → skip_end (suc d) ws i ≡ e
  unfolding skip_end behind_by after_by lists_end
  whole d i e pass =
      let h : Passing (skip_end d ws) 0 (skip_end (suc d) ws i) e =
      pass (skip_end (suc d) ws i) (record { turns = length ws; follows = 0; at = i; behind = refl; enough = omega arith; same = refl }) in
      h.same ∙ skip_last h.turns (skip_end d ws) ws 0 h.follows h.at refl ∙ h.behind

  pub list_by_lem :
      (sub : ℕ → ℕ) (wanted i n : ℕ) (rest : List ℕ) →
      drop i ws ≡ n ∷ rest →
      list_by sub ws wanted i ≡ entries_skip sub ws wanted n (leb 128 wanted) (i + 1)
  unfolding list_by
  list_by_lem sub wanted i n rest e = let here = at_head ws i n rest e in rw (lt-ltb i (length ws) here.inside, here.word)

  mutual
    unfolding words depth count holds entries_skip after_by exprs_words skip_end

    pub node_pass :
        {s : Stratum} {p : Place} {m : Node} → Fits s p m → (d : ℕ) → depth m ≤ suc d →
        {left x e : ℕ} (rest : List ℕ) → drop e ws ≡ words m ++ rest →
        Passing (skip_end d ws) (suc left) x e →
        Passing (skip_end d ws) left x (e + length (words m))
    node_pass (fits {s} {p} {h} {f} {es} {b} {ps} t fx ex bl pt nf) d shallow {left} {x} {e} rest there pass =
        let form : ℕ = form_of (kind_of h) in
        let k = formed s p h t in
        let o : ℕ = e + suc (length f) in
        let more : List ℕ = exprs_words es ++ (block_words b ++ (nodes_words ps ++ rest)) in
        let all : drop e ws ≡ (h ∷ f) ++ more = there ∙ ap (λ l. h ∷ l) (in_order f (exprs_words es) (block_words b) (nodes_words ps) rest) in
        let at_more : drop o ws ≡ more = at_past ws (h ∷ f) more e all in
        let e' : ℕ = o + (length (exprs_words es) + length (block_words b)) in
        let behind : behind_by (skip_end d ws) ws (form / 8 % 16) (e + form % 8) ≡ e' =
        behind_own (skip_end d ws) form (e + form % 8) o (rw (k.own, k.variables) (own_lists ws (known s p h t) fx e more all))
        ∙ block_pass bl k.follows ex d (omega arith) o (nodes_words ps ++ rest) at_more in
        let at_list : drop (o + length (exprs_words es)) ws ≡ block_words b ++ (nodes_words ps ++ rest) =
        at_past ws (exprs_words es) (block_words b ++ (nodes_words ps ++ rest)) o at_more in
        let at_parts : drop e' ws ≡ nodes_words ps ++ rest =
        ap (λ n. drop n ws) (grouped o (length (exprs_words es)) (length (block_words b)))
        ∙ at_past ws (block_words b) (nodes_words ps ++ rest) (o + length (exprs_words es)) at_list in
        let first : Passing (skip_end d ws) (left + processes_of h) x e' =
        moved (left + processes_of h) e' (ap (λ n. left + n) (parts_of s p h t)) refl (next h (f ++ more) e' all behind (omega arith) pass) in
        moved left (e + length (words (node h f es b ps))) refl (omega (arith, in_all f (exprs_words es) (block_words b) (nodes_words ps))) (parts_pass pt d (omega arith) rest at_parts first)

    parts_pass :
        {s : Stratum} {k c : ℕ} {ps : Nodes} → FitsParts s k c ps → (d : ℕ) → nodes_depth ps ≤ suc d →
        {left x e : ℕ} (rest : List ℕ) → drop e ws ≡ nodes_words ps ++ rest →
        Passing (skip_end d ws) (left + c) x e →
        Passing (skip_end d ws) left x (e + length (nodes_words ps))
    parts_pass no_part d shallow {left} {x} {e} rest there pass = moved left (e + 0) (omega arith) (omega arith) pass
    parts_pass (one_part {n = c} {p = m} {ps} f fs) d shallow {left} {x} {e} rest there pass =
        let first : drop e ws ≡ words m ++ (nodes_words ps ++ rest) = there ∙ append_assoc (words m) (nodes_words ps) rest in
        let second : drop (e + length (words m)) ws ≡ nodes_words ps ++ rest = at_past ws (words m) (nodes_words ps ++ rest) e first in
        let one : Passing (skip_end d ws) (left + c) x (e + length (words m)) =
        node_pass f d (omega arith) (nodes_words ps ++ rest) first (moved (suc (left + c)) e (omega arith) refl pass) in
        moved left (e + length (words m ++ nodes_words ps)) refl (omega (arith, length-append (words m) (nodes_words ps)))
        (parts_pass fs d (omega arith) rest second one)

    block_pass :
        {o : Bool} {n : ℕ} {b : Block} → FitsBlock o n b → {how m : ℕ} {es : List Expr} → Follows how m n → FitsExprs m es → (d : ℕ) → block_depth b ≤ d →
        (i : ℕ) (rest : List ℕ) → drop i ws ≡ exprs_words es ++ (block_words b ++ rest) →
        after_by (skip_end d ws) ws how i ≡ i + (length (exprs_words es) + length (block_words b))
    block_pass no_list nothing_follows no_exprs d shallow i rest there = omega arith
    block_pass no_list expression_follows (one_expr {e = a} f no_exprs) d shallow i rest there =
        expr_skip_lem f i rest (there ∙ append_assoc (expr_words a) [] rest) ∙ omega (arith, length-append (expr_words a) [])
    block_pass (a_list {l = l} f) list_follows no_exprs d shallow i rest there =
        let here = at_head ws i (count l) (entries_words l ++ rest) there in
        list_by_lem (skip_end d ws) 128 i (count l) (entries_words l ++ rest) there
        ∙ entries_pass f d shallow 128 true (i + 1) rest here.next
        ∙ omega arith

    pub entries_pass :
        {o : Bool} {least : ℕ} {l : Entries} → FitsEntries o least l → (d : ℕ) → entries_depth l ≤ d →
        (wanted : ℕ) (met : Bool) (i : ℕ) (rest : List ℕ) → drop i ws ≡ entries_words l ++ rest →
        entries_skip (skip_end d ws) ws wanted (count l) met i ≡ cond (met || holds wanted l) (i + length (entries_words l)) 0
    entries_pass empty_fits d shallow wanted met i rest there = rw (or-false met) (ap (λ n. cond met n 0) (no_more i))
    entries_pass (entry_fits_on {k = k} {p = m} {es = l} low high good f fs) zero shallow wanted met i rest there = absurd (omega (arith, depth_some m))
    entries_pass (entry_fits_on {k = k} {p = m} {es = l} low high good f fs) (suc d) shallow wanted met i rest there =
        let here : At ws i (key_word k) ((words m ++ entries_words l) ++ rest) = at_head ws i (key_word k) _ there in
        let first : drop (i + 1) ws ≡ words m ++ (entries_words l ++ rest) = here.next ∙ append_assoc (words m) (entries_words l) rest in
        let second : drop (i + 1 + length (words m)) ws ≡ entries_words l ++ rest = at_past ws (words m) (entries_words l ++ rest) (i + 1) first in
        let passed : skip_end (suc d) ws (i + 1) ≡ i + 1 + length (words m) =
        whole d (i + 1) (i + 1 + length (words m)) (λ x start. node_pass f d (omega arith) (entries_words l ++ rest) first start) in
        let key : key_word k / 512 ≡ k = omega arith in
        rw (lt-ltb i (length ws) here.inside, here.word, key, passed)
        (entries_pass fs (suc d) (omega arith) wanted (met || eqb k wanted) (i + 1 + length (words m)) rest second
        ∙ rw (or_assoc met (eqb k wanted) (holds wanted l), turned_round k wanted)
        (ap (λ n. cond (met || (eqb wanted k || holds wanted l)) n 0) (in_entry i (words m) (entries_words l))))
