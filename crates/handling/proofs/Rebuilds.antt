-- cH replaced on words, in pieces: parts one after the other, words kept before them, nodes kept whole, nil, and cH itself.
-- Assumes nothing.
use Prim.Native.Nat.{ℕ, suc, ◌+◌, ◌-◌, ◌*◌, ◌≤◌, ◌<◌, max}
use native.Mathlib.Omega.{arith}
use mathlib.Core.Path.{◌≡◌, refl, sym, ap, ◌∙◌}
use mathlib.Core.Bool.{Bool, true, false}
use mathlib.Core.List.{List, [], ◌∷◌, ◌++◌, append_assoc}
use lib.Dec.{T, eqb, eqb→eq}
use lib.ListN.{length, drop, length-append, length-drop, length-set}
use borrow.Author.Tests.{eqb-true}
use Rattle.sock.specs.Kind.{rows, row_of}
use Rattle.sock.specs.Words.{kind_of, count_of}
use Rattle.sock.specs.Term.{Expr, Node, node, Block, Nodes, is_nil, processes_of}
use Rattle.sock.specs.Layout.{exprs_words, words, nodes_words, depth, nodes_depth}
use Rattle.sock.specs.Reading.{Stratum, code, Place, anywhere}
use Rattle.sock.specs.Handlers.{replaced, all_replaced}
use Rattle.sock.proofs.Parts.{part_stratum, part_place}
use Rattle.sock.proofs.Fits.{FitsExprs, no_exprs, FitsFixed, no_fixed, Fits, fits, FitsBlock, no_list, FitsParts, no_part, one_part}
use Rattle.sock.proofs.Nodes.{code_more}
use Rattle.sock.proofs.Handlers.{replaced_fits}
use Rattle.sock.proofs.ByKind.{head_tests}
use Rattle.sock.proofs.Positions.{at_past}
use Rattle.sock.proofs.Located.{node_size}
use Rattle.layout.specs.Positions.{onward}
use Rattle.writers.specs.Writing.{pasted, pasted_end}
use Rattle.writers.proofs.Laid.{Near, near_below, laid_put, laid_then, laid_copy, copy_end}
use Rattle.handling.specs.declared.measure.Measured.{Measured}
use Rattle.handling.specs.declared.replace.Old.{Old}
use Rattle.handling.specs.Measuring.{measured}
use Rattle.handling.specs.Replacing.{Wrote, parts_w, kept_w, other_w, c_hw, nil_w, old_end, old_out, replace_w}
use Rattle.handling.proofs.Measures.{shallow}
use Rattle.handling.proofs.Replaced.{OldIs}
use Rattle.handling.proofs.Leaves.{Leaves, Does, onward_one, onward_suc, pasted_keeps, laid_none}

-- the same, otherwise said
pub relabel :
    {e e' : ℕ} {nil nil' : Bool} {levels levels' : ℕ} {new new' : List ℕ} {spare spare' : ℕ} {out : List ℕ} {to : ℕ} {w : Wrote} →
    e ≡ e' → nil ≡ nil' → levels ≡ levels' → new ≡ new' → spare ≡ spare' →
    Leaves e nil levels new spare out to w → Leaves e' nil' levels' new' spare' out to w
relabel a b c d s x = rw (a, b, c, d, s) at x

-- ---- nil

nil_word : (h : ℕ) {f : List ℕ} {es : List Expr} {b : Block} {ps : Nodes} {s : Stratum} {o : Bool} →
    kind_of h ≡ 0 → T (eqb (count_of h) 0) → FitsFixed [] f → FitsExprs 0 es → FitsBlock o 0 b → FitsParts s 0 0 ps →
    words (node h f es b ps) ≡ 0 ∷ []
unfolding words exprs_words
nil_word h q t no_fixed no_exprs no_list no_part =
    let z : count_of h ≡ 0 = eqb→eq (count_of h) 0 t in
    let y : h ≡ 0 = omega arith in
    ap (λ (n : ℕ). n ∷ []) y

-- nil that fits is the word 0
nil_words : {s : Stratum} {p : Place} {m : Node} → Fits s p m → is_nil m ≡ true → words m ≡ 0 ∷ []
unfolding row_of rows processes_of
nil_words {s} {p} (fits {h = h} t fx ex bl pt nf) z =
    let q : kind_of h ≡ 0 = eqb-true (kind_of h) 0 z in
    nil_word h q (rw q at (head_tests s p h t).2) (rw q at fx) (rw q at ex) (rw q at bl) (rw q at pt)

code_any : (c : Bool) {p : Place} {m : Node} → Fits (code c) p m → Fits (code true) p m
code_any true f = f
code_any false f = code_more f

-- what became nil is one word long
pub became_nil :
    {c : Bool} {p : Place} {m : Node} (o : Node) → Fits (code false) anywhere o → Fits (code c) p m →
    is_nil (replaced o m) ≡ true → length (words (replaced o m)) ≡ 1
became_nil {c} o g f z = ap length (nil_words (replaced_fits o g (code_any c f)) z)

deepest : (a b c : ℕ) → max (max a (suc b)) (suc c) ≡ max a (suc (max b c))
deepest a b c = omega arith

some_depth : (m : Node) → 1 ≤ depth m
unfolding depth
some_depth (node h f es b ps) = omega arith

module _ (ws : List ℕ) (near : Near (length ws)) (old : Old) (o : Node) where
  -- what is to hold of replacing, with d levels left
  abbrev pub Replaces : ℕ → Type 0
  Replaces d =
      (c : Bool) (p : Place) (m : Node) → Fits (code c) p m → depth m ≤ d → (i : ℕ) (rest : List ℕ) → drop i ws ≡ words m ++ rest →
      Does (replace_w d ws old) i (i + length (words m)) (is_nil (replaced o m)) (depth (replaced o m)) (words (replaced o m)) (2 * d)

  module _ (d : ℕ) (below : Replaces d) where
    parts_written :
        {c : Bool} {k n : ℕ} {ps : Nodes} → FitsParts (code c) k n ps → nodes_depth ps ≤ d → (levels : ℕ) → 1 ≤ levels →
        (i : ℕ) (rest : List ℕ) → drop i ws ≡ nodes_words ps ++ rest →
        (out : List ℕ) (to : ℕ) → Near (to + length (nodes_words (all_replaced o ps)) + 2 * d) →
        Leaves (i + length (nodes_words ps)) false (max levels (suc (nodes_depth (all_replaced o ps)))) (nodes_words (all_replaced o ps))
        (2 * d) out to
        (parts_w (replace_w d ws old) n levels i out to)
    unfolding parts_w words depth replaced part_stratum
    parts_written no_part h levels one i rest e out to room =
        record {
          ends = let q : i ≡ i + 0 = omega arith in q;
          empty = refl;
          deep = let q : levels ≡ max levels 1 = omega arith in q;
          reaches = let q : to ≡ to + 0 = omega arith in q;
          keeps = refl;
          laid = λ r. laid_none out to;
        }
    parts_written {c} {k} (one_part {n = n} {p = p} {ps = ps} f fs) h levels one i rest e out to room =
        let x : drop i ws ≡ words p ++ (nodes_words ps ++ rest) = e ∙ append_assoc (words p) (nodes_words ps) rest in
        let y = at_past ws (words p) (nodes_words ps ++ rest) i x in
        let a : List ℕ = words (replaced o p) in
        let b : List ℕ = nodes_words (all_replaced o ps) in
        let l : length (a ++ b) ≡ length a + length b = length-append a b in
        let k' : length (words p ++ nodes_words ps) ≡ length (words p) + length (nodes_words ps) = length-append (words p) (nodes_words ps) in
        let all : ℕ = to + length (a ++ b) + 2 * d in
        let s = shallow (replaced o p) in
        let s' = some_depth p in
        let g = below c (part_place k n) p f (omega arith) i (nodes_words ps ++ rest) x out to
        (near_below (to + length a + 2 * d) all room (omega arith)) in
        let deeper : onward (depth (replaced o p)) 1 ≡ suc (depth (replaced o p)) =
        onward_suc (depth (replaced o p)) all room (omega arith) in
        let q =
        parts_written fs (omega arith) (max levels (suc (depth (replaced o p)))) (omega arith) (i + length (words p)) rest y
        (replace_w d ws old i out to).out (to + length a) (near_below (to + length a + length b + 2 * d) all room (omega arith)) in
        let kept : length (replace_w d ws old i out to).out ≡ length out = g.keeps in
        let u : i + length (words p) + length (nodes_words ps) ≡ i + length (words p ++ nodes_words ps) = omega arith in
        rw (g.deep, deeper, g.ends, g.reaches)
        (record {
          ends = q.ends ∙ u;
          empty = q.empty;
          deep = q.deep ∙ deepest levels (depth (replaced o p)) (nodes_depth (all_replaced o ps));
          reaches = q.reaches ∙ (let u : to + length a + length b ≡ to + length (a ++ b) = omega arith in u);
          keeps = q.keeps ∙ kept;
          laid = λ r. laid_then (g.laid (omega arith)) (q.laid (omega arith));
        })

    -- the words x stay in front
    pub kept_written :
        {c : Bool} {k n : ℕ} {ps : Nodes} → FitsParts (code c) k n ps → nodes_depth ps ≤ d → (levels : ℕ) → 1 ≤ levels →
        (x : List ℕ) (i : ℕ) (rest : List ℕ) → drop i ws ≡ x ++ (nodes_words ps ++ rest) → i ≤ length ws →
        (out : List ℕ) (to : ℕ) → Near (to + length (x ++ nodes_words (all_replaced o ps)) + 2 * suc d) →
        Leaves (i + length x + length (nodes_words ps)) false (max levels (suc (nodes_depth (all_replaced o ps))))
        (x ++ nodes_words (all_replaced o ps)) (2 * suc d) out to
        (kept_w (replace_w d ws old) ws i (i + length x) levels n out to)
    unfolding kept_w
    kept_written {ps = ps} pt h levels one x i rest e inside out to room =
        let b : List ℕ = nodes_words (all_replaced o ps) in
        let l : length (x ++ b) ≡ length x + length b = length-append x b in
        let all : ℕ = to + length (x ++ b) + 2 * suc d in
        let t : pasted_end ws i (i + length x) to ≡ to + length x =
        copy_end ws x (nodes_words ps ++ rest) i (i + length x) to all e inside refl room (omega arith) in
        let kept = pasted_keeps ws i (i + length x) out to in
        let q =
        parts_written pt h levels one (i + length x) rest (at_past ws x (nodes_words ps ++ rest) i e) (pasted ws i (i + length x) out to)
        (to + length x)
        (near_below (to + length x + length b + 2 * d) all room (omega arith)) in
        rw t
        (record {
          ends = q.ends;
          empty = q.empty;
          deep = q.deep;
          reaches = q.reaches ∙ (let u : to + length x + length b ≡ to + length (x ++ b) = omega arith in u);
          keeps = q.keeps ∙ kept;
          laid = λ r.
              laid_then (laid_copy ws x (nodes_words ps ++ rest) i (i + length x) out to e inside refl (omega arith))
              (q.laid (omega arith));
        })

  -- a node that is kept whole
  pub whole_written :
      (x : List ℕ) (levels spare i : ℕ) (rest : List ℕ) → drop i ws ≡ x ++ rest → i ≤ length ws → (measure : ℕ → Measured) →
      measure i ≡ measured (i + length x) levels →
      (out : List ℕ) (to : ℕ) → Near (to + length x + spare) →
      Leaves (i + length x) false levels x spare out to (other_w measure ws i out to)
  unfolding other_w
  whole_written x levels spare i rest e inside measure m out to room =
      rw m
      (record {
        ends = refl;
        empty = refl;
        deep = refl;
        reaches = copy_end ws x rest i (i + length x) to (to + length x + spare) e inside refl room (omega arith);
        keeps = pasted_keeps ws i (i + length x) out to;
        laid = λ r. laid_copy ws x rest i (i + length x) out to e inside refl (omega arith);
      })

  -- nil
  pub nil_written :
      (spare i : ℕ) → i < length ws → (out : List ℕ) (to : ℕ) → Near (to + 1 + spare) →
      Leaves (i + 1) true 1 (0 ∷ []) spare out to (nil_w i out to)
  unfolding nil_w
  nil_written spare i inside out to room =
      record {
        ends = onward_one i (length ws) near (omega arith);
        empty = refl;
        deep = refl;
        reaches = onward_one to (to + 1 + spare) room (omega arith);
        keeps = length-set out to 0;
        laid = λ r. laid_put out to 0 (omega arith);
      }

  -- cH
  pub old_written :
      Fits (code false) anywhere o → OldIs ws old o → (spare i : ℕ) → i < length ws →
      (out : List ℕ) (to : ℕ) → Near (to + length (words o) + spare) →
      Leaves (i + 1) (is_nil o) (depth o) (words o) spare out to (c_hw ws old i out to)
  unfolding c_hw old_end old_out words
  old_written fo is spare i inside out to room = by (is_nil o) refl
    where
      by : (z : Bool) → is_nil o ≡ z → Leaves (i + 1) (is_nil o) (depth o) (words o) spare out to (c_hw ws old i out to)
      by true z =
          let w = nil_words fo z in
          let n : length (words o) ≡ 1 = ap length w in
          rw (is.empty ∙ z, w)
          (record {
            ends = onward_one i (length ws) near (omega arith);
            empty = sym z;
            deep = is.deep;
            reaches = onward_one to (to + length (words o) + spare) room (omega arith);
            keeps = length-set out to 0;
            laid = λ r. laid_put out to 0 (omega arith);
          })
      by false z =
          let s = is.stands z in
          let rest : List ℕ = s.0 in
          let e : drop old.from ws ≡ words o ++ rest = s.1.0 in
          let u : old.upto ≡ old.from + length (words o) = s.1.1 in
          let deep_enough : depth o ≤ length (words o) = shallow o in
          let some : 0 < length (words o) = node_size o in
          let l : length ws - old.from ≡ length (words o) + length rest =
          sym (length-drop old.from ws) ∙ ap length e ∙ length-append (words o) rest in
          rw (is.empty ∙ z)
          (record {
            ends = onward_one i (length ws) near (omega arith);
            empty = sym z;
            deep = is.deep;
            reaches = copy_end ws (words o) rest old.from old.upto to (to + length (words o) + spare) e (omega arith) u room
                (omega arith);
            keeps = pasted_keeps ws old.from old.upto out to;
            laid = λ r. laid_copy ws (words o) rest old.from old.upto out to e (omega arith) u (omega arith);
          })
