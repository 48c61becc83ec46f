-- What a rewriting says of the process before and after; and the laws of assign, if and while.
-- Assumes nothing.
use Prim.Native.Nat.{ℕ, suc, ◌+◌, ◌-◌, ◌*◌, ◌≤◌, ◌<◌}
use native.Mathlib.Omega.{arith}
use mathlib.Core.Path.{◌≡◌, refl, sym, ap, ◌∙◌}
use mathlib.Core.Bool.{Bool, true, false, not, cond}
use mathlib.Core.List.{List, [], ◌∷◌, ◌++◌, append-nil, append_assoc}
use borrow.Author.Tests.{ne_eqb, leb-true, leb-false}
use lib.Dec.{eqb, leb}
use lib.ListN.{length, get_or, take, drop, set, length-append, length-set}
use lib.Seq.{drop_at, get_or-drop}
use Rattle.sock.specs.Words.{kind_of, variable_of, bit}
use Rattle.sock.specs.Term.{Expr, Node, node, absent, Nodes, no_parts, ◌&◌, head_word, is_nil}
use Rattle.sock.specs.Layout.{expr_words, exprs_words, exprs_depth, words, nodes_words, depth}
use Rattle.sock.specs.Reading.{code, anywhere}
use Rattle.sock.specs.Running.{Run, nil, seq, act, as_node, run_words, size, run_depth, forms, in_form, opened, enable}
use Rattle.sock.specs.Configuration.{values_words}
use Rattle.sock.specs.Evaluation.{evaluate, is_true}
use Rattle.sock.specs.Frames.{is_done, seq_of}
use Rattle.sock.proofs.Fits.{Fits, FitsExpr, AllBelow}
use Rattle.sock.proofs.Running.{enable_as_node, enable_done}
use Rattle.sock.proofs.Measures.{words_act, words_seq, depth_nil, depth_seq, depth_act}
use Rattle.reading.proofs.Combining.{Words}
use Rattle.skipping.proofs.Skips.{code_end}
use Rattle.evaluating.specs.declared.evaluate.Valued.{Valued}
use Rattle.evaluating.specs.Valuing.{value_as}
use Rattle.evaluating.specs.Evaluating.{ended, evaluated}
use Rattle.evaluating.proofs.Evaluates.{evaluates}
use Rattle.writers.proofs.Laid.{Near, Laid, laid_put, laid_then, laid_copy, copy_end}
use Rattle.rules.specs.Storing.{takes, unchanged}
use Rattle.rules.specs.Storing.{Store}
use Rattle.rules.specs.Rewriting.{Rewriting}
use Rattle.layout.specs.declared.limit.Limits.{Limits}
use Rattle.rules.specs.Rewriting.{Rewritten, rewritten, vanishing, keeping, refused, at, part_w, assign_w, part_end, branch_w, unroll_w, repeat_w}
use Rattle.rules.proofs.Deep.{code_fits, head_nil}

-- the words of q, which is not nil: fresh ones, then a part of r's own
pub record Pieces (r q : Run) (t : Rewriting) (fresh : List ℕ) : Type 0 where
  pub before : List ℕ
  pub kept : List ℕ
  pub behind : List ℕ
  pub whole : run_words r ≡ before ++ (kept ++ behind)
  pub made : run_words q ≡ take t.fresh fresh ++ kept
  pub from : t.from ≡ length before
  pub upto : t.upto ≡ t.from + length kept
  pub ends : t.end ≡ t.upto + length behind
  pub room : t.fresh ≤ length fresh

pub both_ways : (b : Bool) → b ≡ true → b ≡ false → ⊥
both_ways b p q = let z : bit true ≡ bit false = ap bit (sym p ∙ q) in omega arith

-- r turns into q
pub record Becomes (r q : Run) (t : Rewriting) (fresh : List ℕ) : Type 0 where
  pub accepted : t.number ≡ 0
  pub empty : t.nil ≡ is_done q
  pub pieces : is_done q ≡ false → Pieces r q t fresh

-- r, `level` levels deep, turns into q and no value changes; or q would be deeper than `most`
pub data Outcome (most : ℕ) (r : Run) (level : ℕ) (q : Run) (t : Rewriting) (fresh : List ℕ) : Type 0 where
  deepens : t.number ≡ 8 → t.nil ≡ false → is_done q ≡ false → suc most < level + run_depth q → Outcome most r level q t fresh
  becomes : Becomes r q t fresh → t.store ≡ unchanged → level + run_depth q ≤ suc most → Outcome most r level q t fresh

pub becomes_nil : (r : Run) (store : Store) (fresh : List ℕ) → Becomes r nil (vanishing store) fresh
unfolding is_done
becomes_nil r store fresh = record { accepted = refl; empty = refl; pieces = λ z. absurd (both_ways true refl z) }

-- ---- a part of its own

-- words that stand at a place of a list, and what follows them
pub after : (ws a b : List ℕ) (i : ℕ) → ws ≡ a ++ b → i ≡ length a → drop i ws ≡ b
after ws a b i e p = ap (drop i) e ∙ drop_at a b i (sym p)

pub first_at : (ws : List ℕ) (i w : ℕ) (rest : List ℕ) → drop i ws ≡ w ∷ rest → at ws i ≡ w
first_at ws i w rest e = ap (λ k. get_or ws k 0) (let z : i ≡ i + 0 = omega arith in z) ∙ sym (get_or-drop i ws 0 0) ∙ ap (λ l. get_or l 0 0) e

node_head : (m : Node) (rest : List ℕ) → (tail : List ℕ) × (words m ++ rest ≡ head_word m ∷ tail)
unfolding words
node_head (node h f es b ps) rest = (_, refl)

pub head_on : (ws : List ℕ) (i : ℕ) (m : Node) (rest : List ℕ) → drop i ws ≡ words m ++ rest → at ws i ≡ head_word m
head_on ws i m rest e = let h = node_head m rest in first_at ws i (head_word m) h.0 (e ∙ h.1)

pub enable_words : {m : Node} → Fits (code false) anywhere m → run_words (enable m) ≡ words m
unfolding run_words
enable_words f = ap words (enable_as_node f)

-- code within r that becomes enabled
module _ (ws rest : List ℕ) (r : Run) (p : Node) (f : Fits (code false) anywhere p) (before behind : List ℕ)
    (stands : ws ≡ run_words r ++ rest) (whole : run_words r ≡ before ++ (words p ++ behind)) (store : Store) (fresh : List ℕ) where
  pub part_stands : drop (length before) ws ≡ words p ++ (behind ++ rest)
  part_stands =
      after ws before (words p ++ (behind ++ rest)) (length before)
      (stands ∙ (ap (λ l. l ++ rest) whole ∙ (append_assoc before (words p ++ behind) rest ∙ ap (λ l. before ++ l) (append_assoc (words p) behind rest)))) refl

  pub part_becomes :
      (from upto end : ℕ) → from ≡ length before → upto ≡ from + length (words p) → end ≡ upto + length behind →
      Becomes r (enable p) (part_w ws from upto end store) fresh
  unfolding part_w
  part_becomes from upto end a b c =
      let head : at ws from ≡ head_word p = head_on ws from p (behind ++ rest) (rw a part_stands) in
      by (is_nil p) (ap (λ w. eqb w 0) head ∙ head_nil f) (enable_done f)
    where
      by : (b : Bool) → eqb (at ws from) 0 ≡ b → is_done (enable p) ≡ b → Becomes r (enable p) (cond (eqb (at ws from) 0) (vanishing store) (keeping 0 from upto end store)) fresh
      by true q z = rw q (record { accepted = refl; empty = sym z; pieces = λ n. absurd (both_ways (is_done (enable p)) z n) })
      by false q z =
          rw q
          (record {
            accepted = refl;
            empty = sym z;
            pieces = λ n.
                record {
                  before = before;
                  kept = words p;
                  behind = behind;
                  whole = whole;
                  made = enable_words f;
                  from = a;
                  upto = b;
                  ends = c;
                  room = omega arith;
                };
          })

-- ---- assign, if, while, at the words of the process

-- the expression behind the head h, evaluated
abbrev pub valued_at : ℕ → Expr → ℕ → Valued
valued_at h e v = record { end = length (h ∷ expr_words e); value = v }

module _ (n issued : ℕ) (ws : List ℕ) (ok : Words ws) (few : n ≤ 8) (small : issued < 65536) (vs : List ℕ) (below : AllBelow 4294967296 vs) (rest : List ℕ) where
  abbrev bound : ℕ
  bound = n * 65536 + issued

  -- an expression behind the head
  module _ (h : ℕ) (e : Expr) (ps : Nodes) (g : FitsExpr e) (deep : depth (node h [] (e ∷ []) absent ps) ≤ 64)
      (stands : ws ≡ words (node h [] (e ∷ []) absent ps) ++ rest) where
    expr_words_lem : words (node h [] (e ∷ []) absent ps) ≡ (h ∷ expr_words e) ++ nodes_words ps
    unfolding words exprs_words
    expr_words_lem = ap (λ l. h ∷ (l ++ nodes_words ps)) (append-nil (expr_words e))

    expr_stands : drop 1 ws ≡ expr_words e ++ (nodes_words ps ++ rest)
    expr_stands = ap (drop 1) (stands ∙ ap (λ l. l ++ rest) expr_words_lem) ∙ append_assoc (expr_words e) (nodes_words ps) rest

    pub expr_value : evaluated 64 ws (values_words vs) 1 ≡ ended (length (h ∷ expr_words e)) (value_as (evaluate vs e))
    unfolding depth exprs_depth
    expr_value =
        evaluates vs below ws g 64 (omega arith) 1 (nodes_words ps ++ rest) expr_stands
        ∙ ap (λ (k : ℕ). ended k (value_as (evaluate vs e))) (let z : 1 + length (expr_words e) ≡ suc (length (expr_words e)) = omega arith in z)

    expr_head : at ws 0 ≡ h
    expr_head = ap (λ l. get_or l 0 0) (stands ∙ ap (λ l. l ++ rest) expr_words_lem)

  pub assign_rewrites :
      (h : ℕ) (e : Expr) → FitsExpr e → depth (node h [] (e ∷ []) absent no_parts) ≤ 64 → ws ≡ words (node h [] (e ∷ []) absent no_parts) ++ rest →
      (v : ℕ) → assign_w ws (valued_at h e v) ≡ vanishing (takes (variable_of h) v)
  unfolding assign_w
  assign_rewrites h e g deep stands v = rw (expr_head h e no_parts g deep stands)

  -- code that stands at a position ends there
  ends_at : (i : ℕ) (m : Node) (more : List ℕ) → Fits (code false) anywhere m → depth m ≤ 64 → drop i ws ≡ words m ++ more → part_end ws i ≡ i + length (words m)
  ends_at i m more f deep e = code_end ws f 64 i deep more e

  module _ (h : ℕ) (e : Expr) (p q : Node) (g : FitsExpr e) (fp : Fits (code false) anywhere p) (fq : Fits (code false) anywhere q)
      (deep : depth (node h [] (e ∷ []) absent (p & q & no_parts)) ≤ 64) (stands : ws ≡ words (node h [] (e ∷ []) absent (p & q & no_parts)) ++ rest)
      (fresh : List ℕ) where
    abbrev m : Node
    m = node h [] (e ∷ []) absent (p & q & no_parts)

    two_words : run_words (act m) ≡ (h ∷ expr_words e) ++ (words p ++ words q)
    unfolding words
    two_words = words_act m ∙ expr_words_lem h e (p & q & no_parts) g deep stands ∙ ap (λ l. (h ∷ expr_words e) ++ (words p ++ l)) (append-nil (words q))

    stands_act : ws ≡ run_words (act m) ++ rest
    stands_act = stands ∙ ap (λ l. l ++ rest) (sym (words_act m))

    first_ends : part_end ws (length (h ∷ expr_words e)) ≡ length (h ∷ expr_words e) + length (words p)
    unfolding depth
    first_ends =
        ends_at (length (h ∷ expr_words e)) p (words q ++ rest) fp (omega arith)
        (part_stands ws rest (act m) p fp (h ∷ expr_words e) (words q) stands_act two_words unchanged fresh)

    again : run_words (act m) ≡ ((h ∷ expr_words e) ++ words p) ++ (words q ++ [])
    again = two_words ∙ (sym (append_assoc (h ∷ expr_words e) (words p) (words q)) ∙ ap (λ l. ((h ∷ expr_words e) ++ words p) ++ l) (sym (append-nil (words q))))

    long : length ((h ∷ expr_words e) ++ words p) ≡ length (h ∷ expr_words e) + length (words p)
    long = length-append (h ∷ expr_words e) (words p)

    second_ends : part_end ws (length (h ∷ expr_words e) + length (words p)) ≡ length (h ∷ expr_words e) + length (words p) + length (words q)
    unfolding depth
    second_ends =
        ends_at (length (h ∷ expr_words e) + length (words p)) q rest fq (omega arith)
        (rw (← long) (part_stands ws rest (act m) q fq ((h ∷ expr_words e) ++ words p) [] stands_act again unchanged fresh))

    pub branch_rewrites : (v : ℕ) → Becomes (act m) (enable (cond (is_true v) p q)) (branch_w ws (valued_at h e v)) fresh
    unfolding branch_w is_true
    branch_rewrites v =
        rw (first_ends, second_ends) (by (eqb v 0))
      where
        by :
            (b : Bool) →
            Becomes (act m) (enable (cond (not b) p q))
            (cond b
            (part_w ws (length (h ∷ expr_words e) + length (words p)) (length (h ∷ expr_words e) + length (words p) + length (words q)) (length (h ∷ expr_words e) + length (words p) + length (words q)) unchanged)
            (part_w ws (length (h ∷ expr_words e)) (length (h ∷ expr_words e) + length (words p)) (length (h ∷ expr_words e) + length (words p) + length (words q)) unchanged))
            fresh
        by true = part_becomes ws rest (act m) q fq ((h ∷ expr_words e) ++ words p) [] stands_act again unchanged fresh _ _ _ (sym long) refl (omega arith)
        by false = part_becomes ws rest (act m) p fp (h ∷ expr_words e) (words q) stands_act two_words unchanged fresh _ _ _ refl refl refl

  -- a while, `level` levels deep
  module _ (h : ℕ) (kind : kind_of h ≡ 5) (e : Expr) (p : Node) (g : FitsExpr e) (fp : Fits (code false) anywhere p)
      (deep : depth (node h [] (e ∷ []) absent (p & no_parts)) ≤ 64) (stands : ws ≡ words (node h [] (e ∷ []) absent (p & no_parts)) ++ rest)
      (fm : Fits (code false) anywhere (node h [] (e ∷ []) absent (p & no_parts)))
      (fresh : List ℕ) (wide : length ws ≤ length fresh) (near : Near (length fresh)) (limits : Limits) (level : ℕ) where
    abbrev w : Node
    w = node h [] (e ∷ []) absent (p & no_parts)

    one_words : run_words (act w) ≡ (h ∷ expr_words e) ++ (words p ++ [])
    unfolding words
    one_words = words_act w ∙ expr_words_lem h e (p & no_parts) g deep stands

    stands_while : ws ≡ run_words (act w) ++ rest
    stands_while = stands ∙ ap (λ l. l ++ rest) (sym (words_act w))

    body_stands : drop (length (h ∷ expr_words e)) ws ≡ words p ++ rest
    body_stands = part_stands ws rest (act w) p fp (h ∷ expr_words e) [] stands_while one_words unchanged fresh

    body_ends : part_end ws (length (h ∷ expr_words e)) ≡ length (h ∷ expr_words e) + length (words p)
    unfolding depth
    body_ends = ends_at (length (h ∷ expr_words e)) p rest fp (omega arith) body_stands

    whole_length : length (run_words (act w)) ≡ length (h ∷ expr_words e) + length (words p)
    whole_length = ap length one_words ∙ (length-append (h ∷ expr_words e) (words p ++ []) ∙ ap (λ l. length (h ∷ expr_words e) + length l) (append-nil (words p)))

    within : length (h ∷ expr_words e) + length (words p) ≤ length ws
    within = omega (arith, whole_length, ap length stands_while, length-append (run_words (act w)) rest)

    body_head : eqb (at ws (length (h ∷ expr_words e))) 0 ≡ is_nil p
    body_head = ap (λ v. eqb v 0) (head_on ws (length (h ∷ expr_words e)) p rest body_stands) ∙ head_nil fp

    same_again : enable w ≡ act w
    unfolding enable opened in_form forms
    same_again = rw kind

    -- the same words again
    itself : (made : List ℕ) (t : Rewriting) →
        t.number ≡ 0 → t.nil ≡ false → t.from ≡ 0 → t.upto ≡ size (act w) → t.end ≡ size (act w) →
        t.fresh ≤ length made → (q : Run) → is_done q ≡ false → run_words q ≡ take t.fresh made ++ run_words (act w) →
        Becomes (act w) q t made
    unfolding size
    itself made t a b c d k r q lives f =
        record {
          accepted = a;
          empty = b ∙ sym lives;
          pieces = λ z.
              record {
                before = [];
                kept = run_words (act w);
                behind = [];
                whole = sym (append-nil (run_words (act w)));
                made = f;
                from = c;
                upto = omega (arith, c, d);
                ends = omega (arith, d, k);
                room = r;
              };
        }

    unrolled : Laid fresh 0 (4096 ∷ words p) (unroll_w ws (length (h ∷ expr_words e)) (length (h ∷ expr_words e) + length (words p)) fresh).fresh
    unfolding unroll_w
    unrolled =
        laid_then (laid_put fresh 0 4096 (omega (arith, within)))
        (laid_copy ws (words p) rest (length (h ∷ expr_words e)) (length (h ∷ expr_words e) + length (words p)) (set fresh 0 4096) 1 body_stands
        (omega (arith, within)) refl (omega (arith, within, length-set fresh 0 4096)))

    unrolled_count : (unroll_w ws (length (h ∷ expr_words e)) (length (h ∷ expr_words e) + length (words p)) fresh).rewriting.fresh ≡ suc (length (words p))
    unfolding unroll_w
    unrolled_count =
        copy_end ws (words p) rest (length (h ∷ expr_words e)) (length (h ∷ expr_words e) + length (words p)) 1 (length fresh) body_stands
        (omega (arith, within)) refl near (omega (arith, within))
        ∙ (let z : 1 + length (words p) ≡ suc (length (words p)) = omega arith in z)

    twice : run_words (seq (enable p) w) ≡ (4096 ∷ words p) ++ run_words (act w)
    twice = words_seq (enable p) w ∙ ap (λ l. 4096 ∷ l) (ap (λ l. l ++ words w) (enable_words fp) ∙ ap (λ l. words p ++ l) (sym (words_act w)))

    twice_deep : run_depth (seq (enable p) w) ≡ suc (depth w)
    unfolding run_depth depth
    twice_deep = depth_seq (enable p) w ∙ (let z : depth (as_node (enable p)) ≡ depth p = ap depth (enable_as_node fp) in omega arith)

    made_of : {last new : List ℕ} {k : ℕ} → Laid fresh 0 new last → k ≡ length new → take k last ≡ new
    made_of {last} {new} l q = ap (λ i. take i last) (q ∙ (let z : length new ≡ 0 + length new = omega arith in z)) ∙ l.begins

    abbrev Plain : Rewriting → Type 0
    Plain t =
        (t.number ≡ 0) × (t.nil ≡ false) × (t.from ≡ 0) × (t.upto ≡ length (h ∷ expr_words e) + length (words p))
        × (t.end ≡ length (h ∷ expr_words e) + length (words p)) × (t.store ≡ unchanged)

    unrolled_plain : Plain (unroll_w ws (length (h ∷ expr_words e)) (length (h ∷ expr_words e) + length (words p)) fresh).rewriting
    unfolding unroll_w
    unrolled_plain = (refl, refl, refl, refl, refl, refl)

    -- if there are levels left for it
    unrolled_rewrites :
        (b : Bool) → leb (depth w) (limits.deepest - level) ≡ b → level ≤ limits.deepest →
        (let u = cond (eqb (cond b (length (words w)) 0) 0) (rewritten (refused 8) fresh)
        (unroll_w ws (length (h ∷ expr_words e)) (length (h ∷ expr_words e) + length (words p)) fresh) in
        Outcome limits.deepest (act w) level (seq (enable p) w) u.rewriting u.fresh)
    unfolding is_done size
    unrolled_rewrites false q low =
        deepens refl refl refl (omega (arith, twice_deep, leb-false (depth w) (limits.deepest - level) q))
    unrolled_rewrites true q low =
        rw (ne_eqb (length (words w)) 0 (λ z. omega (arith, whole_length, ap length (words_act w))))
        (becomes
        (itself _ _ unrolled_plain.0 unrolled_plain.1 unrolled_plain.2 (unrolled_plain.3 ∙ sym whole_length) (unrolled_plain.4 ∙ sym whole_length)
        (omega (arith, unrolled_count, unrolled.keeps, within)) (seq (enable p) w) refl (twice ∙ ap (λ l. l ++ run_words (act w)) (sym (made_of unrolled unrolled_count))))
        unrolled_plain.5
        (omega (arith, twice_deep, leb-true (depth w) (limits.deepest - level) q)))

    -- the rule: false, nothing is left; true, the body and the while again, where the body is not nil
    pub repeat_rewrites :
        level + depth w ≤ suc limits.deepest → level ≤ limits.deepest → (v : ℕ) →
        (let u = repeat_w limits level bound ws (valued_at h e v) fresh in
        Outcome limits.deepest (act w) level (cond (is_true v) (seq_of (enable p) w) nil) u.rewriting u.fresh)
    unfolding repeat_w is_true seq_of is_done size depth
    repeat_rewrites low few-levels v =
        rw (body_ends, body_head, code_fits ws ok n issued small fm (limits.deepest - level) 0 rest stands, enable_done fp)
        (by (eqb v 0) (is_nil p))
      where
        by :
            (a b : Bool) →
            (let end : ℕ = length (h ∷ expr_words e) + length (words p) in
            let u : Rewritten =
            cond a (rewritten (vanishing unchanged) fresh)
            (cond b (rewritten (keeping 0 0 end end unchanged) fresh)
            (cond (eqb (cond (leb (depth w) (limits.deepest - level)) (0 + length (words w)) 0) 0) (rewritten (refused 8) fresh)
            (unroll_w ws (length (h ∷ expr_words e)) end fresh))) in
            Outcome limits.deepest (act w) level (cond (not a) (cond b (enable w) (seq (enable p) w)) nil) u.rewriting u.fresh)
        by true b = becomes (becomes_nil (act w) unchanged fresh) refl (omega (arith, depth_nil))
        by false true =
            rw same_again
            (becomes
            (itself fresh _ refl refl refl (sym whole_length) (sym whole_length) (omega arith) (act w) refl refl)
            refl
            (omega (arith, depth_act w)))
        by false false =
            let z : 0 + length (words w) ≡ length (words w) = omega arith in
            rw z (unrolled_rewrites (leb (depth w) (limits.deepest - level)) refl few-levels)
