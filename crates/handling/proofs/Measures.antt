-- How deep the words of an expression and of code that fit are, and where they end: as the definitions say.
-- Assumes nothing.
use Prim.Native.Nat.{ℕ, zero, suc, ◌+◌, ◌-◌, ◌*◌, ◌/◌, ◌≤◌, ◌<◌, max}
use native.Mathlib.Omega.{arith}
use mathlib.Core.Path.{◌≡◌, refl, sym, ap, ap₂, ◌∙◌}
use mathlib.Core.Bool.{Bool, true, false, not, cond}
use mathlib.Core.List.{List, [], ◌∷◌, ◌++◌, append_assoc}
use lib.Dec.{T, eqb, leb→le, ltb→lt}
use lib.ListN.{length, drop, length-append, length-drop}
use borrow.Author.Tests.{lt-leb, ne_eqb}
use Rattle.sock.specs.Kind
use Rattle.sock.specs.Kind.{word, rows, row_of}
use Rattle.sock.specs.Words.{kind_of, count_of, mark_of, zombie_of, first_name, high_word, low_word, key_word, tag_of}
use Rattle.sock.specs.Term.{Expr, constant, variable, apply, Node, node, Block, absent, list, Entries, no_entries, entry, Nodes, no_parts, ◌&◌, entries_of, processes_of}
use Rattle.sock.specs.Layout.{operator_tag, expr_words, expr_depth, exprs_words, exprs_depth, count, words, block_words, entries_words, nodes_words, depth, block_depth, entries_depth, nodes_depth}
use Rattle.sock.specs.Reading.{code, Place, anywhere, allowed, node_fits, fields_fit, resting_fits, is_empty, fixed_at}
use Rattle.sock.proofs.Parts.{part_stratum, part_place}
use Rattle.sock.proofs.Fits.{FitsExpr, constant_fits, variable_fits, apply_fits, FitsExprs, no_exprs, one_expr, FitsFixed, no_fixed, one_fixed, Fits, fits, FitsBlock, no_list, a_list, FitsEntries, empty_fits, entry_fits_on, FitsParts, no_part, one_part}
use Rattle.sock.proofs.Fields.{From, end, ◌then◌, fact_at, four, operator_tag_lem}
use Rattle.sock.proofs.Nodes.{fields_test}
use Rattle.sock.proofs.ByKind.{head_tests}
use Rattle.sock.proofs.Positions.{At, at_head, at_past}
use Rattle.handling.specs.declared.measure.Measured.{Measured}
use Rattle.layout.specs.Own.{own_end}
use Rattle.layout.specs.Positions.{onward}
use Rattle.layout.specs.Tags
use Rattle.handling.specs.Measuring.{measured, operand_levels, expression_levels, parts_levels, expressed_levels, entries_levels, list_levels, node_levels, code_levels}
use Rattle.layout.proofs.Owns.{own_end_lem}
use Rattle.writers.proofs.Laid.{Near, onward_near}

both : {a b x y : ℕ} → a ≡ b → x ≡ y → measured a x ≡ measured b y
both p q = ap₂ (λ (n v : ℕ). measured n v) p q

-- ---- no deeper than long

pub expr_shallow : (e : Expr) → expr_depth e ≤ length (expr_words e)
unfolding expr_depth expr_words
expr_shallow (constant v) = omega arith
expr_shallow (variable x) = omega arith
expr_shallow (apply o a b) =
    let p = expr_shallow a in
    let q = expr_shallow b in
    let l = length-append (expr_words a) (expr_words b) in
    omega arith

exprs_shallow : (es : List Expr) → exprs_depth es ≤ length (exprs_words es)
unfolding exprs_depth exprs_words
exprs_shallow [] = omega arith
exprs_shallow (e ∷ es) =
    let p = expr_shallow e in
    let q = exprs_shallow es in
    let l = length-append (expr_words e) (exprs_words es) in
    omega arith

mutual
  unfolding words depth

  pub shallow : (m : Node) → depth m ≤ length (words m)
  shallow (node h f es b ps) =
      let x = exprs_shallow es in
      let y = block_shallow b in
      let z = nodes_shallow ps in
      let k = length-append f (exprs_words es ++ (block_words b ++ nodes_words ps)) in
      let l = length-append (exprs_words es) (block_words b ++ nodes_words ps) in
      let n = length-append (block_words b) (nodes_words ps) in
      omega arith

  block_shallow : (b : Block) → block_depth b ≤ length (block_words b)
  block_shallow absent = omega arith
  block_shallow (list l) = let x = entries_shallow l in omega arith

  entries_shallow : (l : Entries) → entries_depth l ≤ length (entries_words l)
  entries_shallow no_entries = omega arith
  entries_shallow (entry k p es) =
      let x = shallow p in
      let y = entries_shallow es in
      let l = length-append (words p) (entries_words es) in
      omega arith

  nodes_shallow : (ps : Nodes) → nodes_depth ps ≤ length (nodes_words ps)
  nodes_shallow no_parts = omega arith
  nodes_shallow (p & ps) =
      let x = shallow p in
      let y = nodes_shallow ps in
      let l = length-append (words p) (nodes_words ps) in
      omega arith

pub code_bound : (c : Bool) (k : ℕ) → T (allowed (code c) k) → k < 16
unfolding allowed
code_bound true k t = let x : k ≤ 15 = leb→le k 15 t in omega arith
code_bound false k t = let x : k < 15 = ltb→lt k 15 t in omega arith

-- a node's own words end where the fixed table says
pub own_words :
    (ws : List ℕ) (h : ℕ) {k : ℕ} {f : List ℕ} → kind_of h ≡ k → k < 19 → FitsFixed (row_of k).fixed f → (es : List Expr) (b : Block) (ps : Nodes)
    (i : ℕ) (rest : List ℕ) → drop i ws ≡ words (node h f es b ps) ++ rest →
    own_end ws i ≡ i + 1 + length f
unfolding words
own_words ws h {f = f} q few fx es b ps i rest e =
    let x : List ℕ = exprs_words es ++ (block_words b ++ nodes_words ps) in
    let known : kind_of h < 19 = rw q few in
    let fixed : FitsFixed (row_of (kind_of h)).fixed f = rw q fx in
    own_end_lem ws known fixed i (x ++ rest) (e ∙ append_assoc (h ∷ f) x rest)

module _ (ws : List ℕ) (near : Near (length ws)) where
  pub left_over : (i : ℕ) (x rest : List ℕ) → drop i ws ≡ x ++ rest → length x + length rest ≡ length ws - i
  left_over i x rest e = sym (length-append x rest) ∙ sym (ap length e) ∙ length-drop i ws

  -- ---- expressions

  -- one level, at a known word
  expression_level :
      (d i : ℕ) {w : ℕ} {rest : List ℕ} → At ws i w rest →
      expression_levels (suc d) ws i
      ≡ cond (eqb (tag_of w) Tags.constant) (measured (onward i 3) 1) (cond (eqb (tag_of w) Tags.variable) (measured (i + 1) 1) (operand_levels (expression_levels d ws) (i + 1)))
  unfolding expression_levels
  expression_level d i h = simp (lt-leb (length ws) i h.inside, h.word)

  pub expression_measured :
      {e : Expr} → FitsExpr e → (d : ℕ) → expr_depth e ≤ d → (i : ℕ) (rest : List ℕ) → drop i ws ≡ expr_words e ++ rest →
      expression_levels d ws i ≡ measured (i + length (expr_words e)) (expr_depth e)
  unfolding expr_depth expr_words operand_levels
  expression_measured (constant_fits {v = v} b) zero h i rest e = absurd (omega arith)
  expression_measured (constant_fits {v = v} b) (suc d) h i rest e =
      let p = at_head ws i 0 (high_word v ∷ low_word v ∷ rest) e in
      let x : i < length ws = p.inside in
      let y : 3 + length rest ≡ length ws - i = left_over i (0 ∷ high_word v ∷ low_word v ∷ []) rest e in
      expression_level d i p ∙ ap (λ (n : ℕ). measured n 1) (onward_near i 3 (length ws) near (omega arith))
  expression_measured (variable_fits {x = x} b) zero h i rest e = absurd (omega arith)
  expression_measured (variable_fits {x = x} b) (suc d) h i rest e =
      let p = at_head ws i (8192 + x * 256) rest e in
      let k : (8192 + x * 256) / 8192 ≡ 1 = omega arith in
      expression_level d i p ∙ simp k
  expression_measured (apply_fits f g) zero h i rest e = absurd (omega arith)
  expression_measured (apply_fits {o = o} {a = a} {b = b} f g) (suc d) h i rest e =
      let p = at_head ws i (operator_tag o * 8192) (expr_words a ++ expr_words b ++ rest) e in
      let x : drop (i + 1) ws ≡ expr_words a ++ (expr_words b ++ rest) = p.next ∙ append_assoc (expr_words a) (expr_words b) rest in
      let y = at_past ws (expr_words a) (expr_words b ++ rest) (i + 1) x in
      let da : expr_depth a ≤ d = omega arith in
      let db : expr_depth b ≤ d = omega arith in
      let ea = expression_measured f d da (i + 1) (expr_words b ++ rest) x in
      let eb = expression_measured g d db (i + 1 + length (expr_words a)) rest y in
      let t : (2 ≤ operator_tag o) × (operator_tag o ≤ 7) = operator_tag_lem o in
      let k : operator_tag o * 8192 / 8192 ≡ operator_tag o = omega arith in
      let n0 : operator_tag o ≡ 0 → ⊥ = λ q. omega arith in
      let n1 : operator_tag o ≡ 1 → ⊥ = λ q. omega arith in
      let s = length-append (expr_words a) (expr_words b) in
      let l : i + 1 + length (expr_words a) + length (expr_words b) ≡ i + suc (length (expr_words a ++ expr_words b)) = omega arith in
      let u = expr_shallow (apply o a b) in
      let v = left_over i (expr_words (apply o a b)) rest e in
      let m : onward (max (expr_depth a) (expr_depth b)) 1 ≡ suc (max (expr_depth a) (expr_depth b)) =
      onward_near (max (expr_depth a) (expr_depth b)) 1 (length ws) near (omega arith) ∙ (let q : max (expr_depth a) (expr_depth b) + 1 ≡ suc (max (expr_depth a) (expr_depth b)) = omega arith in q) in
      expression_level d i p
      ∙ simp (k, ne_eqb (operator_tag o) 0 n0, ne_eqb (operator_tag o) 1 n1, ea, eb)
      (both l m)

  -- ---- what code holds, given its measure one level down

  abbrev Measures : ℕ → Type 0
  Measures d =
      (c : Bool) (p : Place) (m : Node) → Fits (code c) p m → depth m ≤ d → (i : ℕ) (rest : List ℕ) → drop i ws ≡ words m ++ rest →
      code_levels d ws i ≡ measured (i + length (words m)) (depth m)

  -- one level more
  deeper : (n : ℕ) → suc n ≤ length ws → onward n 1 ≡ suc n
  deeper n r = onward_near n 1 (length ws) near (omega arith) ∙ (let q : n + 1 ≡ suc n = omega arith in q)

  module _ (d : ℕ) (below : Measures d) where
    parts_measured :
        {c : Bool} {k n : ℕ} {ps : Nodes} → FitsParts (code c) k n ps → nodes_depth ps ≤ d →
        (deepest : ℕ) → suc (max deepest (nodes_depth ps)) ≤ length ws → (i : ℕ) (rest : List ℕ) → drop i ws ≡ nodes_words ps ++ rest →
        parts_levels (code_levels d ws) n deepest i ≡ measured (i + length (nodes_words ps)) (suc (max deepest (nodes_depth ps)))
    unfolding parts_levels words depth part_stratum
    parts_measured no_part h deepest r i rest e =
        let x : i ≡ i + 0 = omega arith in
        let y : suc deepest ≡ suc (max deepest 0) = omega arith in
        both x (deeper deepest (omega arith) ∙ y)
    parts_measured {c} {k} (one_part {n = n} {p = p} {ps = ps} f fs) h deepest r i rest e =
        let x : drop i ws ≡ words p ++ (nodes_words ps ++ rest) = e ∙ append_assoc (words p) (nodes_words ps) rest in
        let y = at_past ws (words p) (nodes_words ps ++ rest) i x in
        let m = below c (part_place k n) p f (omega arith) i (nodes_words ps ++ rest) x in
        let q = parts_measured fs (omega arith) (max deepest (depth p)) (omega arith) (i + length (words p)) rest y in
        let l = length-append (words p) (nodes_words ps) in
        let u : i + length (words p) + length (nodes_words ps) ≡ i + length (words p ++ nodes_words ps) = omega arith in
        let v : suc (max (max deepest (depth p)) (nodes_depth ps)) ≡ suc (max deepest (max (depth p) (nodes_depth ps))) = omega arith in
        rw m (q ∙ both u v)

    entries_measured :
        {o : Bool} {least : ℕ} {l : Entries} → FitsEntries o least l → entries_depth l ≤ d →
        (deepest : ℕ) → suc (max deepest (entries_depth l)) ≤ length ws → (i : ℕ) (rest : List ℕ) → drop i ws ≡ entries_words l ++ rest →
        entries_levels (code_levels d ws) (count l) deepest i ≡ measured (i + length (entries_words l)) (suc (max deepest (entries_depth l)))
    unfolding entries_levels words depth count
    entries_measured empty_fits h deepest r i rest e =
        let x : i ≡ i + 0 = omega arith in
        let y : suc deepest ≡ suc (max deepest 0) = omega arith in
        both x (deeper deepest (omega arith) ∙ y)
    entries_measured {o} (entry_fits_on {k = k} {p = p} {es = es} low high good f fs) h deepest r i rest e =
        let a = at_head ws i (key_word k) ((words p ++ entries_words es) ++ rest) e in
        let s : i < length ws = a.inside in
        let g : onward i 1 ≡ i + 1 = onward_near i 1 (length ws) near (omega arith) in
        let x : drop (i + 1) ws ≡ words p ++ (entries_words es ++ rest) = a.next ∙ append_assoc (words p) (entries_words es) rest in
        let y = at_past ws (words p) (entries_words es ++ rest) (i + 1) x in
        let m = below (not o) anywhere p f (omega arith) (i + 1) (entries_words es ++ rest) x in
        let q = entries_measured fs (omega arith) (max deepest (depth p)) (omega arith) (i + 1 + length (words p)) rest y in
        let l = length-append (words p) (entries_words es) in
        let u : i + 1 + length (words p) + length (entries_words es) ≡ i + suc (length (words p ++ entries_words es)) = omega arith in
        let v : suc (max (max deepest (depth p)) (entries_depth es)) ≡ suc (max deepest (max (depth p) (entries_depth es))) = omega arith in
        ap (λ (r : Measured). entries_levels (code_levels d ws) (count es) (max deepest r.levels) r.end) (ap (code_levels d ws) g ∙ m)
        ∙ q
        ∙ both u v

    -- ---- nodes, by what follows the head

    behind : (h : ℕ) (f x rest : List ℕ) (i : ℕ) → drop i ws ≡ (h ∷ f ++ x) ++ rest → drop (i + 1 + length f) ws ≡ x ++ rest
    behind h f x rest i e = at_past ws f (x ++ rest) (i + 1) ((at_head ws i h ((f ++ x) ++ rest) e).next ∙ append_assoc f x rest)

    room : (m : Node) (i : ℕ) (rest : List ℕ) → drop i ws ≡ words m ++ rest → depth m ≤ length ws
    room m i rest e =
        let x = shallow m in
        let y = left_over i (words m) rest e in
        omega arith

    -- processes behind fixed words
    with_parts :
        (h : ℕ) (f : List ℕ) {es : List Expr} {b : Block} {ps : Nodes} {c o : Bool} {k n : ℕ} →
        FitsExprs 0 es → FitsBlock o 0 b → FitsParts (code c) k n ps →
        depth (node h f es b ps) ≤ suc d → (i : ℕ) (rest : List ℕ) → drop i ws ≡ words (node h f es b ps) ++ rest →
        parts_levels (code_levels d ws) n 0 (i + 1 + length f) ≡ measured (i + length (words (node h f es b ps))) (depth (node h f es b ps))
    unfolding words depth exprs_words exprs_depth
    with_parts h f {ps = ps} no_exprs no_list pt low i rest e =
        let r = room (node h f [] absent ps) i rest e in
        let q = parts_measured pt (omega arith) 0 (omega arith) (i + 1 + length f) rest (behind h f (nodes_words ps) rest i e) in
        let l = length-append f (nodes_words ps) in
        let u : i + 1 + length f + length (nodes_words ps) ≡ i + suc (length (f ++ nodes_words ps)) = omega arith in
        let v : suc (max 0 (nodes_depth ps)) ≡ suc (max 0 (max 0 (nodes_depth ps))) = omega arith in
        q ∙ both u v

    -- an expression and processes
    with_expr :
        (h : ℕ) {f : List ℕ} {es : List Expr} {b : Block} {ps : Nodes} {c o : Bool} {k n : ℕ} →
        FitsFixed [] f → FitsExprs 1 es → FitsBlock o 0 b → FitsParts (code c) k n ps →
        depth (node h f es b ps) ≤ suc d → (i : ℕ) (rest : List ℕ) → drop i ws ≡ words (node h f es b ps) ++ rest →
        expressed_levels (expression_levels d ws) (code_levels d ws) n (i + 1) ≡ measured (i + length (words (node h f es b ps))) (depth (node h f es b ps))
    unfolding words depth exprs_words exprs_depth expressed_levels
    with_expr h {ps = ps} {n = n} no_fixed (one_expr {e = x} g no_exprs) no_list pt low i rest e =
        let r = room (node h [] (x ∷ []) absent ps) i rest e in
        let a = at_head ws i h (((expr_words x ++ []) ++ nodes_words ps) ++ rest) e in
        let t : drop (i + 1) ws ≡ expr_words x ++ (nodes_words ps ++ rest) =
        a.next ∙ append_assoc (expr_words x ++ []) (nodes_words ps) rest ∙ append_assoc (expr_words x) [] (nodes_words ps ++ rest) in
        let m = expression_measured g d (omega arith) (i + 1) (nodes_words ps ++ rest) t in
        let y = at_past ws (expr_words x) (nodes_words ps ++ rest) (i + 1) t in
        let q = parts_measured pt (omega arith) (expr_depth x) (omega arith) (i + 1 + length (expr_words x)) rest y in
        let l = length-append (expr_words x ++ []) (nodes_words ps) in
        let k : length (expr_words x ++ []) ≡ length (expr_words x) + 0 = length-append (expr_words x) [] in
        let u : i + 1 + length (expr_words x) + length (nodes_words ps) ≡ i + suc (length ((expr_words x ++ []) ++ nodes_words ps)) = omega arith in
        let v : suc (max (expr_depth x) (nodes_depth ps)) ≡ suc (max (max (expr_depth x) 0) (max 0 (nodes_depth ps))) = omega arith in
        ap (λ (r : Measured). parts_levels (code_levels d ws) n r.levels r.end) m ∙ q ∙ both u v

    -- a list behind fixed words
    with_list :
        (h : ℕ) (f : List ℕ) {es : List Expr} {b : Block} {ps : Nodes} {c o : Bool} {k : ℕ} →
        FitsExprs 0 es → FitsBlock o 1 b → FitsParts (code c) k 0 ps →
        depth (node h f es b ps) ≤ suc d → (i : ℕ) (rest : List ℕ) → drop i ws ≡ words (node h f es b ps) ++ rest →
        list_levels (code_levels d ws) ws (i + 1 + length f) ≡ measured (i + length (words (node h f es b ps))) (depth (node h f es b ps))
    unfolding words depth exprs_words exprs_depth list_levels
    with_list h f no_exprs (a_list {l = x} g) no_part low i rest e =
        let r = room (node h f [] (list x) no_parts) i rest e in
        let j : ℕ = i + 1 + length f in
        let a = at_head ws j (count x) ((entries_words x ++ []) ++ rest) (behind h f (count x ∷ entries_words x ++ []) rest i e) in
        let t : drop (j + 1) ws ≡ entries_words x ++ rest = a.next ∙ append_assoc (entries_words x) [] rest in
        let q = entries_measured g (omega arith) 0 (omega arith) (j + 1) rest t in
        let l = length-append f (count x ∷ entries_words x ++ []) in
        let k : length (entries_words x ++ []) ≡ length (entries_words x) + 0 = length-append (entries_words x) [] in
        let u : j + 1 + length (entries_words x) ≡ i + suc (length (f ++ (count x ∷ entries_words x ++ []))) = omega arith in
        let v : suc (max 0 (entries_depth x)) ≡ suc (max 0 (max (entries_depth x) 0)) = omega arith in
        simp (lt-leb (length ws) j a.inside, a.word) (q ∙ both u v)

    -- a scope's fixed word, its empty list, and a process
    with_scope :
        (h : ℕ) {f : List ℕ} {es : List Expr} {b : Block} {ps : Nodes} {c o : Bool} {k m : ℕ} →
        FitsFixed (word m ∷ []) f → FitsExprs 0 es → FitsBlock o 1 b → FitsParts (code c) k 1 ps → T (is_empty (entries_of b)) →
        depth (node h f es b ps) ≤ suc d → (i : ℕ) (rest : List ℕ) → drop i ws ≡ words (node h f es b ps) ++ rest →
        parts_levels (code_levels d ws) 1 0 (onward i 3) ≡ measured (i + length (words (node h f es b ps))) (depth (node h f es b ps))
    unfolding words depth exprs_words exprs_depth is_empty count
    with_scope h {ps = ps} (one_fixed {w = w} t no_fixed) no_exprs (a_list empty_fits) pt empty low i rest e =
        let r = room (node h (w ∷ []) [] (list no_entries) ps) i rest e in
        let q = parts_measured pt (omega arith) 0 (omega arith) (i + 3) rest (at_past ws (h ∷ w ∷ 0 ∷ []) (nodes_words ps ++ rest) i e) in
        let a : i < length ws = (at_head ws i h (w ∷ 0 ∷ nodes_words ps ++ rest) e).inside in
        let y = left_over i (h ∷ w ∷ 0 ∷ nodes_words ps) rest e in
        let u : i + 3 + length (nodes_words ps) ≡ i + suc (suc (suc (length (nodes_words ps)))) = omega arith in
        let v : suc (max 0 (nodes_depth ps)) ≡ suc (max 0 (max 0 (nodes_depth ps))) = omega arith in
        ap (λ (j : ℕ). parts_levels (code_levels d ws) 1 0 j) (onward_near i 3 (length ws) near (omega arith)) ∙ q ∙ both u v
    with_scope h fx ex (a_list (entry_fits_on low' high good g gs)) pt empty low i rest e = absurd empty

    module _
        (c : Bool) (h : ℕ) (f : List ℕ) (es : List Expr) (b : Block) (ps : Nodes) (low : depth (node h f es b ps) ≤ suc d) (i : ℕ) (rest : List ℕ)
        (e : drop i ws ≡ words (node h f es b ps) ++ rest)
      where
        abbrev Right : Measured → Type 0
        Right r = r ≡ measured (i + length (words (node h f es b ps))) (depth (node h f es b ps))

        inside : i < length ws
        unfolding words
        inside = (at_head ws i h ((f ++ (exprs_words es ++ (block_words b ++ nodes_words ps))) ++ rest) e).inside

        next : FitsFixed [] f → i + 1 ≡ i + 1 + length f
        next fx = none fx
          where
            none : {g : List ℕ} → FitsFixed [] g → i + 1 ≡ i + 1 + length g
            none no_fixed = omega arith

        onto : (k : ℕ) → kind_of h ≡ k → k < 19 → FitsFixed (row_of k).fixed f → own_end ws i ≡ i + 1 + length f
        onto k q few fx = own_words ws h q few fx es b ps i rest e

        at_parts : {j n k : ℕ} {o : Bool} → j ≡ i + 1 + length f → FitsExprs 0 es → FitsBlock o 0 b → FitsParts (code c) k n ps → Right (parts_levels (code_levels d ws) n 0 j)
        at_parts {n = n} q ex bl pt = ap (λ (j : ℕ). parts_levels (code_levels d ws) n 0 j) q ∙ with_parts h f ex bl pt low i rest e

        at_list : {j k : ℕ} {o : Bool} → j ≡ i + 1 + length f → FitsExprs 0 es → FitsBlock o 1 b → FitsParts (code c) k 0 ps → Right (list_levels (code_levels d ws) ws j)
        at_list q ex bl pt = ap (λ (j : ℕ). list_levels (code_levels d ws) ws j) q ∙ with_list h f ex bl pt low i rest e

        -- a process without parts and without a list
        bare : {k : ℕ} {o : Bool} → own_end ws i ≡ i + 1 + length f → FitsExprs 0 es → FitsBlock o 0 b → FitsParts (code c) k 0 ps → Right (measured (own_end ws i) 1)
        unfolding parts_levels
        bare q ex bl pt =
            let a = inside in
            ap (λ (v : ℕ). measured (own_end ws i) v) (sym (deeper 0 (omega arith))) ∙ at_parts q ex bl pt

        empty : kind_of h ≡ Kind.scope → T (node_fits (code c) h f b) → T (is_empty (entries_of b))
        unfolding fields_fit resting_fits
        empty q t =
            (four (eqb (mark_of h) 0) (eqb (zombie_of h) 0) (eqb (first_name (fixed_at f 0)) 0) (is_empty (entries_of b))
            (rw q at (fields_test (code c) h f b t))).3

        abbrev Case : ℕ → Type 0
        Case k =
            kind_of h ≡ k →
            FitsFixed (row_of k).fixed f →
            FitsExprs (row_of k).expressions es →
            FitsBlock (eqb k Kind.scope) (row_of k).lists b →
            FitsParts (code c) k (cond (eqb k Kind.choice) (count_of h * (row_of k).processes) (row_of k).processes) ps →
            T (node_fits (code c) h f b) →
            Right (node_levels (expression_levels d ws) (code_levels d ws) ws h i)

        by_kind : From Case 16 0
        unfolding node_levels row_of rows
        by_kind =
            (λ q fx ex bl pt t. rw q (bare (onto Kind.nil q (omega arith) fx) ex bl pt))
            then (λ q fx ex bl pt t. rw q (with_expr h fx ex bl pt low i rest e))
            then (λ q fx ex bl pt t. rw q (at_parts (next fx) ex bl pt))
            then (λ q fx ex bl pt t. rw q (at_parts (next fx) ex bl pt))
            then (λ q fx ex bl pt t. rw q (with_expr h fx ex bl pt low i rest e))
            then (λ q fx ex bl pt t. rw q (with_expr h fx ex bl pt low i rest e))
            then (λ q fx ex bl pt t. rw q (at_parts (next fx) ex bl pt))
            then (λ q fx ex bl pt t. rw q (bare (onto Kind.one_way q (omega arith) fx) ex bl pt))
            then (λ q fx ex bl pt t. rw q (at_parts (onto Kind.request q (omega arith) fx) ex bl pt))
            then (λ q fx ex bl pt t. rw q (bare (onto Kind.notify q (omega arith) fx) ex bl pt))
            then (λ q fx ex bl pt t. rw q (at_list (onto Kind.solicit q (omega arith) fx) ex bl pt))
            then (λ q fx ex bl pt t. rw q (with_scope h fx ex bl pt (empty q t) low i rest e))
            then (λ q fx ex bl pt t. rw q (at_list (next fx) ex bl pt))
            then (λ q fx ex bl pt t. rw q (bare (onto Kind.throw q (omega arith) fx) ex bl pt))
            then (λ q fx ex bl pt t. rw q (bare (onto Kind.comp q (omega arith) fx) ex bl pt))
            then (λ q fx ex bl pt t. rw q (bare (onto Kind.cH q (omega arith) fx) ex bl pt))
            then end

  -- ---- code

  -- one level, at a known word
  code_level :
      (d i : ℕ) {w : ℕ} {rest : List ℕ} → At ws i w rest → code_levels (suc d) ws i ≡ node_levels (expression_levels d ws) (code_levels d ws) ws w i
  unfolding code_levels
  code_level d i h = simp (lt-leb (length ws) i h.inside, h.word)

  measures : (d : ℕ) → Measures d
  unfolding words depth processes_of
  measures zero c p (node h f es b ps) (fits t fx ex bl pt nf) low i rest e = absurd (omega arith)
  measures (suc d) c p (node h f es b ps) (fits t fx ex bl pt nf) low i rest e =
      code_level d i (at_head ws i h ((f ++ (exprs_words es ++ (block_words b ++ nodes_words ps))) ++ rest) e)
      ∙ fact_at (by_kind d (measures d) c h f es b ps low i rest e) (kind_of h) (omega arith) (code_bound c (kind_of h) (head_tests (code c) p h t).0) refl fx ex bl pt nf

  pub code_measured :
      {c : Bool} {p : Place} {m : Node} → Fits (code c) p m → (d : ℕ) → depth m ≤ d → (i : ℕ) (rest : List ℕ) → drop i ws ≡ words m ++ rest →
      code_levels d ws i ≡ measured (i + length (words m)) (depth m)
  code_measured {c} {p} {m} f d low i rest e = measures d c p m f low i rest e
