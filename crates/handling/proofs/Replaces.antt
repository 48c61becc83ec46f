-- cH replaced on words is cH replaced on trees, laid out.
-- Assumes nothing.
use Prim.Native.Nat.{ℕ, zero, suc, ◌+◌, ◌*◌, ◌≤◌, ◌<◌, max}
use native.Mathlib.Omega.{arith}
use mathlib.Core.Path.{◌≡◌, refl, sym, ap, ap₂, ◌∙◌}
use mathlib.Core.Bool.{Bool, false, cond}
use mathlib.Core.List.{List, [], ◌∷◌, ◌++◌, append_assoc}
use lib.Dec.{T, eqb, eqb→eq}
use lib.ListN.{length, drop, length-append}
use borrow.Author.Tests.{lt-leb}
use Rattle.sock.specs.Kind
use Rattle.sock.specs.Kind.{word, rows, row_of}
use Rattle.sock.specs.Words.{kind_of, count_of, clear, mark_of, zombie_of, first_name}
use Rattle.sock.specs.Term.{Expr, Node, node, Block, absent, list, no_entries, Nodes, no_parts, entries_of, processes_of}
use Rattle.sock.specs.Layout.{expr_words, exprs_words, count, words, block_words, nodes_words, expr_depth, exprs_depth, depth, nodes_depth}
use Rattle.sock.specs.Reading.{code, Place, anywhere, node_fits, fields_fit, resting_fits, is_empty, fixed_at}
use Rattle.sock.specs.Handlers.{rebuilt, replaced, all_replaced}
use Rattle.sock.proofs.Parts.{part_stratum}
use Rattle.sock.proofs.Fits.{FitsExprs, no_exprs, one_expr, FitsFixed, no_fixed, one_fixed, Fits, fits, FitsBlock, no_list, a_list, empty_fits, entry_fits_on, FitsParts, no_part, one_part}
use Rattle.sock.proofs.Fields.{From, end, ◌then◌, fact_at, four}
use Rattle.sock.proofs.Nodes.{fields_test}
use Rattle.sock.proofs.ByKind.{head_tests}
use Rattle.sock.proofs.Positions.{At, at_head}
use Rattle.layout.specs.Own.{own_end}
use Rattle.layout.specs.Positions.{onward}
use Rattle.writers.proofs.Laid.{Near, onward_near}
use Rattle.handling.specs.declared.measure.Measured.{Measured}
use Rattle.handling.specs.declared.replace.Old.{Old}
use Rattle.handling.specs.Measuring.{measured, expression_levels, code_levels}
use Rattle.handling.specs.Replacing.{Wrote, seq_w, par_w, kept_w, condition_w, other_w, c_hw, nil_w, node_w, replace_w}
use Rattle.handling.proofs.Measures.{expr_shallow, code_bound, own_words, left_over, expression_measured, code_measured}
use Rattle.handling.proofs.Replaced.{OldIs, Replaced}
use Rattle.handling.proofs.Leaves.{onward_one, onward_suc}
use Rattle.handling.proofs.Pairs.{Right, turned, seq_right, par_right}
use Rattle.handling.proofs.Rebuilds.{relabel, Replaces, kept_written, whole_written, nil_written, old_written}

-- ---- what replacing does to a node, by its kind

-- neither nil, seq, par nor cH
abbrev Plain : ℕ → Type 0
Plain k = (eqb k 0 ≡ false) × (eqb k 2 ≡ false) × (eqb k 3 ≡ false) × (eqb k 15 ≡ false)

-- neither seq, par nor cH
stays :
    (o : Node) (h : ℕ) {k : ℕ} (f : List ℕ) (es : List Expr) (b : Block) (ps : Nodes) → kind_of h ≡ k → eqb k 2 ≡ false → eqb k 3 ≡ false →
    eqb k 15 ≡ false →
    replaced o (node h f es b ps) ≡ node h f es b (all_replaced o ps)
unfolding replaced rebuilt
stays o h f es b ps q x y z = rw (q, z, x, y)

becomes_old : (o : Node) (h : ℕ) (f : List ℕ) (es : List Expr) (b : Block) (ps : Nodes) → kind_of h ≡ 15 → replaced o (node h f es b ps) ≡ o
unfolding replaced
becomes_old o h f es b ps q = rw q

-- a head without fields
head_of_lem : (h k : ℕ) → kind_of h ≡ k → T (clear 2048 h) → h ≡ k * 2048
head_of_lem h k q t = let z : count_of h ≡ 0 = eqb→eq (count_of h) 0 t in omega arith

three_words :
    (h : ℕ) {f : List ℕ} {es : List Expr} {b : Block} {m : ℕ} {l : Bool} → FitsFixed (word m ∷ []) f → FitsExprs 0 es → FitsBlock l 1 b →
    (ps : Nodes) →
    3 ≤ length (words (node h f es b ps))
unfolding words exprs_words
three_words h (one_fixed t no_fixed) no_exprs (a_list g) ps = omega arith

levels_of : (a n : ℕ) → max (suc a) (suc n) ≡ suc (max (max a 0) (max 0 n))
levels_of a n = omega arith

parts_below : (a n d : ℕ) → suc (max (max a 0) (max 0 n)) ≤ suc d → n ≤ d
parts_below a n d h = omega arith

module _ (ws : List ℕ) (near : Near (length ws)) (old : Old) (o : Node) (fo : Fits (code false) anywhere o) (is : OldIs ws old o) where
  module _ (d : ℕ) (below : Replaces ws near old o d) where
    -- ---- nodes, by what follows the head

    -- processes behind fixed words
    with_parts :
        (h : ℕ) (f : List ℕ) {es : List Expr} {b : Block} {ps : Nodes} {c l : Bool} {k n : ℕ} → kind_of h ≡ k → Plain k →
        FitsExprs 0 es → FitsBlock l 0 b → FitsParts (code c) k n ps →
        depth (node h f es b ps) ≤ suc d → (i : ℕ) (rest : List ℕ) → drop i ws ≡ words (node h f es b ps) ++ rest →
        (out : List ℕ) (to : ℕ) →
        Right ws near old o fo (suc d) (node h f es b ps) i out to (kept_w (replace_w d ws old) ws i (i + suc (length f)) 1 n out to)
    unfolding words depth exprs_words exprs_depth
    with_parts h f {ps = ps} q plain no_exprs no_list pt low i rest e out to =
        turned ws near old o fo (suc d) (node h f [] absent ps) (node h f [] absent (all_replaced o ps)) i out to _
        (stays o h f [] absent ps q plain.1 plain.2 plain.3) λ room.
        let inside : i < length ws = (at_head ws i h ((f ++ nodes_words ps) ++ rest) e).inside in
        let l = length-append f (nodes_words ps) in
        let u : i + suc (length f) + length (nodes_words ps) ≡ i + suc (length (f ++ nodes_words ps)) = omega arith in
        let v : max 1 (suc (nodes_depth (all_replaced o ps))) ≡ suc (max 0 (max 0 (nodes_depth (all_replaced o ps)))) = omega arith in
        relabel u (sym (rw q plain.0)) v refl refl
        (kept_written ws near old o d below pt (omega arith) 1 (omega arith) (h ∷ f) i rest (e ∙ append_assoc (h ∷ f) (nodes_words ps) rest)
        (omega arith) out to room)

    -- an expression and processes
    with_expr :
        (h : ℕ) {f : List ℕ} {es : List Expr} {b : Block} {ps : Nodes} {c l : Bool} {k n : ℕ} → kind_of h ≡ k → Plain k →
        FitsFixed [] f → FitsExprs 1 es → FitsBlock l 0 b → FitsParts (code c) k n ps →
        depth (node h f es b ps) ≤ suc d → (i : ℕ) (rest : List ℕ) → drop i ws ≡ words (node h f es b ps) ++ rest →
        (out : List ℕ) (to : ℕ) →
        Right ws near old o fo (suc d) (node h f es b ps) i out to (condition_w (expression_levels d ws) (replace_w d ws old) ws i n out to)
    unfolding words depth exprs_words exprs_depth condition_w
    with_expr h {ps = ps} {n = n} q plain no_fixed (one_expr {e = x} g no_exprs) no_list pt low i rest e out to =
        turned ws near old o fo (suc d) (node h [] (x ∷ []) absent ps) (node h [] (x ∷ []) absent (all_replaced o ps)) i out to _
        (stays o h [] (x ∷ []) absent ps q plain.1 plain.2 plain.3) λ room.
        let a = at_head ws i h (((expr_words x ++ []) ++ nodes_words ps) ++ rest) e in
        let inside : i < length ws = a.inside in
        let t : drop (i + 1) ws ≡ expr_words x ++ (nodes_words ps ++ rest) =
        a.next ∙ append_assoc (expr_words x ++ []) (nodes_words ps) rest ∙ append_assoc (expr_words x) [] (nodes_words ps ++ rest) in
        let m = expression_measured ws near g d (omega arith) (i + 1) (nodes_words ps ++ rest) t in
        let l = length-append (expr_words x ++ []) (nodes_words ps) in
        let k : length (expr_words x ++ []) ≡ length (expr_words x) + 0 = length-append (expr_words x) [] in
        let within = left_over ws near (i + 1) (expr_words x) (nodes_words ps ++ rest) t in
        let s = expr_shallow x in
        let j = onward_one i (length ws) near (omega arith) in
        let y : i + 1 + length (expr_words x) ≡ i + length (h ∷ expr_words x ++ []) = omega arith in
        let z = onward_suc (expr_depth x) (length ws) near (omega arith) in
        let u : i + length (h ∷ expr_words x ++ []) + length (nodes_words ps) ≡ i + suc (length ((expr_words x ++ []) ++ nodes_words ps)) =
        omega arith in
        let v = levels_of (expr_depth x) (nodes_depth (all_replaced o ps)) in
        rw
        (ap (λ (j : ℕ). kept_w (replace_w d ws old) ws i (expression_levels d ws j).end
        (onward (expression_levels d ws j).levels 1) n out to) j
        ∙ ap (λ (r : Measured). kept_w (replace_w d ws old) ws i r.end (onward r.levels 1) n out to) m
        ∙ ap₂ (λ (from levels : ℕ). kept_w (replace_w d ws old) ws i from levels n out to) y z)
        (relabel u (sym (rw q plain.0)) v refl refl
        (kept_written ws near old o d below pt (parts_below (expr_depth x) (nodes_depth ps) d low) (suc (expr_depth x)) (omega arith)
        (h ∷ expr_words x ++ []) i rest
        (e ∙ append_assoc (h ∷ expr_words x ++ []) (nodes_words ps) rest) (omega arith) out to room))

    -- a scope's fixed word, its empty list, and a process
    with_scope :
        (h : ℕ) {f : List ℕ} {es : List Expr} {b : Block} {ps : Nodes} {c l : Bool} {k m : ℕ} → kind_of h ≡ k → Plain k →
        FitsFixed (word m ∷ []) f → FitsExprs 0 es → FitsBlock l 1 b → FitsParts (code c) k 1 ps → T (is_empty (entries_of b)) →
        depth (node h f es b ps) ≤ suc d → (i : ℕ) (rest : List ℕ) → drop i ws ≡ words (node h f es b ps) ++ rest →
        (out : List ℕ) (to : ℕ) →
        Right ws near old o fo (suc d) (node h f es b ps) i out to (kept_w (replace_w d ws old) ws i (i + 3) 1 1 out to)
    unfolding words depth exprs_words exprs_depth is_empty count
    with_scope h {ps = ps} q plain (one_fixed {w = w} t no_fixed) no_exprs (a_list empty_fits) pt empty low i rest e out to =
        turned ws near old o fo (suc d) (node h (w ∷ []) [] (list no_entries) ps)
        (node h (w ∷ []) [] (list no_entries) (all_replaced o ps)) i out to _
        (stays o h (w ∷ []) [] (list no_entries) ps q plain.1 plain.2 plain.3) λ room.
        let inside : i < length ws = (at_head ws i h (w ∷ 0 ∷ nodes_words ps ++ rest) e).inside in
        let u : i + 3 + length (nodes_words ps) ≡ i + suc (suc (suc (length (nodes_words ps)))) = omega arith in
        let v : max 1 (suc (nodes_depth (all_replaced o ps))) ≡ suc (max 0 (max 0 (nodes_depth (all_replaced o ps)))) = omega arith in
        relabel u (sym (rw q plain.0)) v refl refl
        (kept_written ws near old o d below pt (omega arith) 1 (omega arith) (h ∷ w ∷ 0 ∷ []) i rest e (omega arith) out to room)
    with_scope h q plain fx ex (a_list (entry_fits_on low' high good g gs)) pt empty low i rest e out to = absurd empty

    -- no processes
    whole :
        (h : ℕ) (f : List ℕ) (es : List Expr) (b : Block) {ps : Nodes} {c : Bool} {k : ℕ} → kind_of h ≡ k → Plain k →
        FitsParts (code c) k 0 ps →
        (i : ℕ) (rest : List ℕ) → drop i ws ≡ words (node h f es b ps) ++ rest → (out : List ℕ) (to : ℕ) →
        code_levels (suc d) ws i ≡ measured (i + length (words (node h f es b ps))) (depth (node h f es b ps)) →
        Right ws near old o fo (suc d) (node h f es b ps) i out to (other_w (code_levels (suc d) ws) ws i out to)
    unfolding words replaced
    whole h f es b q plain no_part i rest e out to m =
        let inside : i < length ws = (at_head ws i h ((f ++ (exprs_words es ++ (block_words b ++ []))) ++ rest) e).inside in
        turned ws near old o fo (suc d) (node h f es b no_parts) (node h f es b no_parts) i out to _
        (stays o h f es b no_parts q plain.1 plain.2 plain.3) λ room.
        relabel refl (sym (rw q plain.0)) refl refl refl
        (whole_written ws near old o (words (node h f es b no_parts)) (depth (node h f es b no_parts)) (2 * suc d) i rest e (omega arith)
        (code_levels (suc d) ws) m out to room)

    -- nil
    with_nil :
        (h : ℕ) {f : List ℕ} {es : List Expr} {b : Block} {ps : Nodes} {c l : Bool} {k : ℕ} → kind_of h ≡ 0 → h ≡ 0 →
        FitsFixed [] f → FitsExprs 0 es → FitsBlock l 0 b → FitsParts (code c) k 0 ps → (i : ℕ) → i < length ws → (out : List ℕ) (to : ℕ) →
        Right ws near old o fo (suc d) (node h f es b ps) i out to (nil_w i out to)
    unfolding words depth exprs_words exprs_depth replaced
    with_nil h q z no_fixed no_exprs no_list no_part i inside out to =
        turned ws near old o fo (suc d) (node h [] [] absent no_parts) (node h [] [] absent no_parts) i out to _
        (stays o h [] [] absent no_parts q refl refl refl) λ room.
        relabel refl (rw q) refl (ap (λ (n : ℕ). n ∷ []) (sym z)) refl (nil_written ws near old o (2 * suc d) i inside out to room)

    -- cH
    with_cH :
        (h : ℕ) {f : List ℕ} {es : List Expr} {b : Block} {ps : Nodes} {c l : Bool} {k : ℕ} → kind_of h ≡ 15 →
        FitsFixed [] f → FitsExprs 0 es → FitsBlock l 0 b → FitsParts (code c) k 0 ps → (i : ℕ) → i < length ws → (out : List ℕ) (to : ℕ) →
        Right ws near old o fo (suc d) (node h f es b ps) i out to (c_hw ws old i out to)
    unfolding words exprs_words
    with_cH h q no_fixed no_exprs no_list no_part i inside out to =
        turned ws near old o fo (suc d) (node h [] [] absent no_parts) o i out to _ (becomes_old o h [] [] absent no_parts q) λ room.
        old_written ws near old o fo is (2 * suc d) i inside out to room

    -- seq and par
    with_seq :
        (h : ℕ) {f : List ℕ} {es : List Expr} {b : Block} {ps : Nodes} {c l : Bool} {k : ℕ} → h ≡ 4096 →
        FitsFixed [] f → FitsExprs 0 es → FitsBlock l 0 b → FitsParts (code c) k 2 ps →
        depth (node h f es b ps) ≤ suc d → (i : ℕ) (rest : List ℕ) → drop i ws ≡ words (node h f es b ps) ++ rest →
        (out : List ℕ) (to : ℕ) →
        Right ws near old o fo (suc d) (node h f es b ps) i out to (seq_w (replace_w d ws old) i out to)
    unfolding part_stratum
    with_seq h z no_fixed no_exprs no_list (one_part {p = x} g (one_part {p = y} g' no_part)) low i rest e out to =
        seq_right ws near old o fo d below h x y g g' low i rest e out to z

    with_par :
        (h : ℕ) {f : List ℕ} {es : List Expr} {b : Block} {ps : Nodes} {c l : Bool} {k : ℕ} → h ≡ 6144 →
        FitsFixed [] f → FitsExprs 0 es → FitsBlock l 0 b → FitsParts (code c) k 2 ps →
        depth (node h f es b ps) ≤ suc d → (i : ℕ) (rest : List ℕ) → drop i ws ≡ words (node h f es b ps) ++ rest →
        (out : List ℕ) (to : ℕ) →
        Right ws near old o fo (suc d) (node h f es b ps) i out to (par_w (replace_w d ws old) i out to)
    unfolding part_stratum
    with_par h z no_fixed no_exprs no_list (one_part {p = x} g (one_part {p = y} g' no_part)) low i rest e out to =
        par_right ws near old o fo d below h x y g g' low i rest e out to z

    module _
        (c : Bool) (h : ℕ) (f : List ℕ) (es : List Expr) (b : Block) (ps : Nodes) (low : depth (node h f es b ps) ≤ suc d)
        (i : ℕ) (rest : List ℕ) (e : drop i ws ≡ words (node h f es b ps) ++ rest)
        (levels : code_levels (suc d) ws i ≡ measured (i + length (words (node h f es b ps))) (depth (node h f es b ps)))
        (out : List ℕ) (to : ℕ)
      where
        abbrev Holds : Wrote → Type 0
        Holds w = Right ws near old o fo (suc d) (node h f es b ps) i out to w

        inside : i < length ws
        unfolding words
        inside = (at_head ws i h ((f ++ (exprs_words es ++ (block_words b ++ nodes_words ps))) ++ rest) e).inside

        onto : (k : ℕ) → kind_of h ≡ k → k < 19 → FitsFixed (row_of k).fixed f → own_end ws i ≡ i + suc (length f)
        onto k q few fx =
            let one : i + 1 + length f ≡ i + suc (length f) = omega arith in
            own_words ws h q few fx es b ps i rest e ∙ one

        -- a fixed word and a list
        three : {m : ℕ} {l : Bool} → FitsFixed (word m ∷ []) f → FitsExprs 0 es → FitsBlock l 1 b → onward i 3 ≡ i + 3
        three fx ex bl =
            let a = inside in
            let y = left_over ws near i (words (node h f es b ps)) rest e in
            let k = three_words h fx ex bl ps in
            onward_near i 3 (length ws) near (omega arith)

        at_parts :
            {j n k : ℕ} {l : Bool} → j ≡ i + suc (length f) → kind_of h ≡ k → Plain k → FitsExprs 0 es → FitsBlock l 0 b →
            FitsParts (code c) k n ps →
            Holds (kept_w (replace_w d ws old) ws i j 1 n out to)
        at_parts z q plain ex bl pt = rw z (with_parts h f q plain ex bl pt low i rest e out to)

        at_whole : {k : ℕ} → kind_of h ≡ k → Plain k → FitsParts (code c) k 0 ps → Holds (other_w (code_levels (suc d) ws) ws i out to)
        at_whole q plain pt = whole h f es b q plain pt i rest e out to levels

        empty : kind_of h ≡ Kind.scope → T (node_fits (code c) h f b) → T (is_empty (entries_of b))
        unfolding fields_fit resting_fits
        empty q t =
            (four (eqb (mark_of h) 0) (eqb (zombie_of h) 0) (eqb (first_name (fixed_at f 0)) 0) (is_empty (entries_of b))
            (rw q at (fields_test (code c) h f b t))).3

        at_scope :
            {m : ℕ} {l : Bool} → kind_of h ≡ Kind.scope → FitsFixed (word m ∷ []) f → FitsExprs 0 es → FitsBlock l 1 b →
            FitsParts (code c) Kind.scope 1 ps →
            T (node_fits (code c) h f b) → Holds (kept_w (replace_w d ws old) ws i (onward i 3) 1 1 out to)
        at_scope q fx ex bl pt t = rw (three fx ex bl) (with_scope h q (refl, refl, refl, refl) fx ex bl pt (empty q t) low i rest e out to)

        abbrev Case : ℕ → Type 0
        Case k =
            kind_of h ≡ k →
            T (clear (row_of k).spare h) →
            FitsFixed (row_of k).fixed f →
            FitsExprs (row_of k).expressions es →
            FitsBlock (eqb k Kind.scope) (row_of k).lists b →
            FitsParts (code c) k (cond (eqb k Kind.choice) (count_of h * (row_of k).processes) (row_of k).processes) ps →
            T (node_fits (code c) h f b) →
            Holds (node_w (expression_levels d ws) (code_levels (suc d) ws) (replace_w d ws old) ws old h i out to)

        by_kind : From Case 16 0
        unfolding node_w row_of rows
        by_kind =
            (λ q cl fx ex bl pt t. rw q (with_nil h q (head_of_lem h 0 q cl) fx ex bl pt i inside out to))
            then (λ q cl fx ex bl pt t. rw q (at_whole q (refl, refl, refl, refl) pt))
            then (λ q cl fx ex bl pt t. rw q (with_seq h (head_of_lem h 2 q cl) fx ex bl pt low i rest e out to))
            then (λ q cl fx ex bl pt t. rw q (with_par h (head_of_lem h 3 q cl) fx ex bl pt low i rest e out to))
            then (λ q cl fx ex bl pt t. rw q (with_expr h q (refl, refl, refl, refl) fx ex bl pt low i rest e out to))
            then (λ q cl fx ex bl pt t. rw q (with_expr h q (refl, refl, refl, refl) fx ex bl pt low i rest e out to))
            then (λ q cl fx ex bl pt t. rw q (at_parts (onto Kind.choice q (omega arith) fx) q (refl, refl, refl, refl) ex bl pt))
            then (λ q cl fx ex bl pt t. rw q (at_whole q (refl, refl, refl, refl) pt))
            then (λ q cl fx ex bl pt t. rw q (at_parts (onto Kind.request q (omega arith) fx) q (refl, refl, refl, refl) ex bl pt))
            then (λ q cl fx ex bl pt t. rw q (at_whole q (refl, refl, refl, refl) pt))
            then (λ q cl fx ex bl pt t. rw q (at_whole q (refl, refl, refl, refl) pt))
            then (λ q cl fx ex bl pt t. rw q (at_scope q fx ex bl pt t))
            then (λ q cl fx ex bl pt t. rw q (at_whole q (refl, refl, refl, refl) pt))
            then (λ q cl fx ex bl pt t. rw q (at_whole q (refl, refl, refl, refl) pt))
            then (λ q cl fx ex bl pt t. rw q (at_whole q (refl, refl, refl, refl) pt))
            then (λ q cl fx ex bl pt t. rw q (with_cH h q fx ex bl pt i inside out to))
            then end

  -- one level, at a known word
  replace_level :
      (d i : ℕ) (out : List ℕ) (to : ℕ) {w : ℕ} {rest : List ℕ} → At ws i w rest →
      replace_w (suc d) ws old i out to ≡ node_w (expression_levels d ws) (code_levels (suc d) ws) (replace_w d ws old) ws old w i out to
  unfolding replace_w
  replace_level d i out to h = simp (lt-leb (length ws) i h.inside, h.word)

  all_replace : (d : ℕ) → Replaces ws near old o d
  unfolding words depth processes_of
  all_replace zero c p (node h f es b ps) (fits t fx ex bl pt nf) low i rest e out to room = absurd (omega arith)
  all_replace (suc d) c p (node h f es b ps) (fits t fx ex bl pt nf) low i rest e out to room =
      let levels = code_measured ws near (fits t fx ex bl pt nf) (suc d) low i rest e in
      rw (replace_level d i out to (at_head ws i h ((f ++ (exprs_words es ++ (block_words b ++ nodes_words ps))) ++ rest) e))
      (fact_at (by_kind d (all_replace d) c h f es b ps low i rest e levels out to) (kind_of h) (omega arith)
      (code_bound c (kind_of h) (head_tests (code c) p h t).0) refl (head_tests (code c) p h t).2 fx ex bl pt nf room)

module _ (ws : List ℕ) (near : Near (length ws)) where
  pub replaces :
      {old : Old} {o m : Node} {c : Bool} {p : Place} →
      Fits (code false) anywhere o →
      OldIs ws old o →
      Fits (code c) p m →
      (d : ℕ) → depth m ≤ d →
      (i : ℕ) (rest : List ℕ) → drop i ws ≡ words m ++ rest →
      (out : List ℕ) (to : ℕ) → Near (to + length (words (replaced o m)) + 2 * d) →
      Replaced o m d i out to (replace_w d ws old i out to)
  replaces {old} {o} {m} {c} {p} fo is f d low i rest e out to room =
      let x = all_replace ws near old o fo is d c p m f low i rest e out to room in
      record { ends = x.ends; empty = x.empty; deep = x.deep; reaches = x.reaches; keeps = x.keeps; laid = x.laid }
