-- The rewriting of a process of one of the nineteen kinds, and of a fixed scope, given that of processes one level down; and of all processes.
-- Assumes nothing.
use Prim.Native.Nat.{ℕ, zero, suc, ◌+◌, ◌-◌, ◌*◌, ◌/◌, ◌%◌, ◌≤◌, ◌<◌}
use native.Mathlib.Omega.{arith}
use native.Mathlib.Nat.{add-zero}
use mathlib.Core.Path.{◌≡◌, refl, sym, ap, subst, ◌∙◌}
use mathlib.Core.Bool.{Bool, true, false, not, ◌&&◌, ◌||◌, cond}
use mathlib.Core.List.{List, [], ◌∷◌, ◌++◌, append_assoc, append-nil}
use lib.Dec.{ltb, eqb}
use lib.ListN.{length, drop, get_or, set, length-append, length-drop, length-set, drop_of_length-le}
use borrow.Author.Tests.{le-leb, lt-leb, eq-eqb, ne_eqb, ltb-true, ltb-false, eqb-true, eqb-false}
use Rattle.sock.specs.Kind
use Rattle.sock.specs.Kind.{row_of, rows}
use Rattle.sock.specs.Counts.{counts_of, counted, word_count, list_count}
use Rattle.sock.specs.Words.{kind_of, count_of, name_of, head_of, key_word, scope_key}
use Rattle.sock.specs.Term.{Node, node, Block, absent, list, Entries, Nodes, no_parts, ◌&◌, head_word, part_at, entries_of, processes_of}
use Rattle.sock.specs.Layout.{count, words, block_words, entries_words, nodes_words, exprs_words}
use Rattle.sock.specs.Reading.{Got, fail, got, and_then, check, expr}
use Rattle.sock.proofs.Positions.{at_head}
use Rattle.layout.specs.Positions.{onward}
use Rattle.writers.specs.Writing.{pasted, pasted_end}
use Rattle.writers.proofs.Laid.{Near, onward_near, Laid, laid_put, laid_then, laid_copy, copy_end}
use Rattle.reading.proofs.Combining.{Words}
use Rattle.planning.specs.Plan.{first, lists, expressed, Own, own, list_below, listed, several, plan_node, plan_fixed, plan}
use Rattle.planning.specs.Translation.{scope_of, inst_of, under, joined, then_c, installing, rewritten, block_rewritten, entries_rewritten, parts_rewritten, own_ch, free_entries, free_part, captured, block_captured, entries_captured, parts_captured}
use Rattle.planning.specs.Walk.{Spot, lost, spot, one, Both, both, Put, front_w, one_w, Walk, own_past, parts_of, copied_w, each_w, listed_w, node_w, body_w, close_w, rest_w, then_w, fixed_w, process_w}
use Rattle.planning.proofs.Steps.{whole, copied_lost, copied_there, body_nowhere, body_outside, body_nil, body_there}
use Rattle.planning.proofs.Laying.{Reach, no, yes, own_words, own_reach}
use Rattle.planning.proofs.Rewrites.{Kept, kept_still, kept_then, kept_less, laid_keeps, laid_kept, laid_drop, or_false, or_assoc, Did, Ready, Rel, loses, does, did_rest, did_inside, did_none, did_then, ready_next}
use Rattle.planning.proofs.Parts.{Puts, puts_none, puts_more, did_puts, next_word, all_captured, Below, Gone, each_gone, listed_gone, several_rel, ListRel, list_rel, BlockRel, listed_rel}

-- ---- what is found, in other words

module _ (ws : List ℕ) where
  did_as :
      {o1 o2 n1 n2 : List ℕ} {c1 c2 : Bool} {rest : List ℕ} {s : Spot} {a b : List ℕ} {spare : ℕ} {w : Both} →
      o1 ≡ o2 → n1 ≡ n2 → c1 ≡ c2 → Did ws o1 n1 c1 rest s a b spare w → Did ws o2 n2 c2 rest s a b spare w
  did_as {o1} {o2} {n1} {n2} {c1} {c2} {rest} {s} {a} {b} {spare} {w} p q r x =
      subst (λ o. Did ws o n2 c2 rest s a b spare w) p
      (subst (λ n. Did ws o1 n c2 rest s a b spare w) q (subst (λ c. Did ws o1 n1 c rest s a b spare w) r x))

  ready_less : {more : ℕ} {s : Spot} {a b : List ℕ} {spare : ℕ} (less : ℕ) → less ≤ more → Ready ws more s a b spare → Ready ws less s a b spare
  ready_less less h r =
      let p = r.room in
      let q = r.spares in
      record { some = r.some; inside = r.inside; room = omega arith; spares = omega arith; near = r.near; nearby = r.nearby }

parts_same : (h : ℕ) → parts_of h (counts_of (kind_of h)) ≡ processes_of h
unfolding parts_of processes_of counts_of counted row_of rows
parts_same h = by (eqb (kind_of h) 6) refl
  where
    two : (row_of 6).processes ≡ 2
    two = refl

    by : (b : Bool) → eqb (kind_of h) 6 ≡ b → cond b (count_of h * 2) (row_of (kind_of h)).processes ≡ cond b (count_of h * (row_of (kind_of h)).processes) (row_of (kind_of h)).processes
    by true e = let k : kind_of h ≡ 6 = eqb-true (kind_of h) 6 e in ap (λ n. count_of h * n) (sym (ap (λ j. (row_of j).processes) k ∙ two))
    by false e = refl

parts_captured_lem : (free : Bool) (k : ℕ) (ps : Nodes) → eqb k 19 ≡ false → parts_captured free k ps ≡ all_captured free ps
unfolding captured all_captured free_part
parts_captured_lem free k no_parts e = refl
parts_captured_lem free k (p & ps) e = rw (e, parts_captured_lem free k ps e)

-- ---- one of the nineteen kinds

module _ (join : ℕ) (ws : List ℕ) (ok : Words ws) (d : ℕ) (sub : Walk) (below : Below join ws d sub) (gone : Gone join ws d sub) where
  abbrev NodeRel : Bool → Spot → List ℕ → List ℕ → ℕ → Got Node → Both → Type 0
  NodeRel free s a b spare = Rel ws 3 words (λ n. words (rewritten join n)) (captured free) s a b spare

  node_turn :
      (free : Bool) (s : Spot) (a b : List ℕ) (spare : ℕ) (x : Spot) (a1 : List ℕ) →
      copied_w ws (own_past d ws (counts_of (kind_of (get_or ws s.at 0))) s.at) (kind_of (get_or ws s.at 0)) free s a ≡ one x a1 →
      node_w d sub ws free s a b spare
      ≡ (let y = listed_w sub ws (free && not (own_ch (kind_of (get_or ws s.at 0)))) (eqb (counts_of (kind_of (get_or ws s.at 0))).lists 0) 128 x a1 b spare in
      each_w sub ws free 0 (processes_of (get_or ws s.at 0)) y.spot y.a y.b spare)
  unfolding node_w
  node_turn free s a b spare x a1 e = simp (e, parts_same (get_or ws s.at 0))

  module _ (h : ℕ) (plain : eqb (kind_of h) 19 ≡ false) (free : Bool) {s : Spot} {a b : List ℕ} {spare : ℕ} (o : Own) where
    node_last :
        (bl : Block) {r1 r2 : List ℕ} {w1 w2 : Both} →
        Did ws (h ∷ own_words o) (h ∷ own_words o) (free && eqb (kind_of h) 15) r1 s a b spare w1 →
        Did ws (block_words bl) (block_words (block_rewritten join bl)) (block_captured (free && not (own_ch (kind_of h))) bl) r2 w1.spot w1.a w1.b spare w2 →
        length (block_words (block_rewritten join bl)) + 0 ≤ 4 * length (block_words bl) →
        {g : Got Nodes} {w3 : Both} → Rel ws 0 nodes_words (λ ps. nodes_words (parts_rewritten join ps)) (all_captured free) w2.spot w2.a w2.b spare g w3 →
        NodeRel free s a b spare (and_then g λ ps rest. got (node h o.fixed o.expressions bl ps) rest) w3
    unfolding and_then own_words words rewritten captured free_entries
    node_last bl x y k (loses e) = loses e
    node_last bl x y k (does {x = ps} z m) =
        let f : List ℕ = o.fixed in
        let e : List ℕ = exprs_words o.expressions in
        let bw : List ℕ = block_words bl in
        let bn : List ℕ = block_words (block_rewritten join bl) in
        let pw : List ℕ = nodes_words ps in
        let pn : List ℕ = nodes_words (parts_rewritten join ps) in
        let old : ((h ∷ (f ++ e)) ++ bw) ++ pw ≡ h ∷ f ++ (e ++ (bw ++ pw)) = simp append_assoc in
        let new : ((h ∷ (f ++ e)) ++ bn) ++ pn ≡ words (rewritten join (node h f o.expressions bl ps)) = simp (plain, append_assoc) in
        let cap : (free && eqb (kind_of h) 15 || block_captured (free && not (own_ch (kind_of h))) bl) || all_captured free ps ≡ captured free (node h f o.expressions bl ps) =
        simp (plain, parts_captured_lem free (kind_of h) ps plain, or_assoc) in
        let small : length (words (rewritten join (node h f o.expressions bl ps))) + 3 ≤ 4 * length (h ∷ f ++ (e ++ (bw ++ pw))) =
        omega (arith, ap length old, ap length new, length-append (h ∷ (f ++ e)) bw, length-append ((h ∷ (f ++ e)) ++ bw) pw, length-append (h ∷ (f ++ e)) bn, length-append ((h ∷ (f ++ e)) ++ bn) pn) in
        does {x = node h f o.expressions bl ps} (did_as ws old new cap (did_then ws (did_then ws x y) z)) small

  node_rest :
      (h : ℕ) → eqb (kind_of h) 19 ≡ false → (free : Bool) (o : Own) {s : Spot} {a b : List ℕ} {spare : ℕ} {r1 : List ℕ} {w1 : Both} →
      Did ws (h ∷ own_words o) (h ∷ own_words o) (free && eqb (kind_of h) 15) r1 s a b spare w1 →
      {g : Got Block} {w2 : Both} → BlockRel join ws d sub (free && not (own_ch (kind_of h))) w1.spot w1.a w1.b spare g w2 →
      Ready ws (2 * d) w1.spot w1.a w1.b spare →
      NodeRel free s a b spare
      (and_then g λ bl w. and_then (several (plan d) (processes_of h) w) λ ps rest. got (node h o.fixed o.expressions bl ps) rest)
      (each_w sub ws free 0 (processes_of h) w2.spot w2.a w2.b spare)
  unfolding and_then
  node_rest h plain free o {spare = spare} x (loses {w} e) r = loses (each_gone join ws d sub free 0 (processes_of h) w.spot w.a w.b spare e)
  node_rest h plain free o {spare = spare} x (does {x = bl} {rest} {w = w2} y k) r =
      node_last h plain free o bl x y k
      (rw (did_rest ws y) at (several_rel join ws d sub below free (processes_of h) w2.spot w2.a w2.b spare (ready_next ws (2 * d) r y (omega arith))))

  node_own :
      (free : Bool) (s : Spot) (a b : List ℕ) (spare : ℕ) → Ready ws (2 * suc d) s a b spare → s.at < length ws → eqb (kind_of (get_or ws s.at 0)) 19 ≡ false →
      {g : Got Own} {e : ℕ} → Reach ws own_words (s.at + 1) g e → own_past d ws (counts_of (kind_of (get_or ws s.at 0))) s.at ≡ e →
      NodeRel free s a b spare
      (and_then g λ o w1.
      and_then (listed (plan d) (eqb (counts_of (kind_of (get_or ws s.at 0))).lists 0) w1) λ bl w2.
      and_then (several (plan d) (processes_of (get_or ws s.at 0)) w2) λ ps rest.
      got (node (get_or ws s.at 0) o.fixed o.expressions bl ps) rest)
      (node_w d sub ws free s a b spare)
  unfolding and_then
  node_own free s a b spare r h plain no q =
      let c : ℕ = get_or ws s.at 0 in
      let f : Bool = free && not (own_ch (kind_of c)) in
      let n : Bool = eqb (counts_of (kind_of c)).lists 0 in
      let y : Both = listed_w sub ws f n 128 lost a b spare in
      rw (node_turn free s a b spare lost a (copied_lost ws _ (kind_of c) free s a q))
      (loses (each_gone join ws d sub free 0 (processes_of c) y.spot y.a y.b spare (listed_gone join ws d sub f n 128 lost a b spare refl)))
  node_own free s a b spare r h plain (yes {x = o} {rest} {e} p u v m) q =
      let c : ℕ = get_or ws s.at 0 in
      let k : ℕ = kind_of c in
      let old : List ℕ = c ∷ own_words o in
      let begins : drop s.at ws ≡ old ++ rest = next_word ws s.at h ∙ ap (λ l. c ∷ l) p in
      let long : length ws - s.at ≡ length old + length rest = sym (length-drop s.at ws) ∙ ap length begins ∙ length-append old rest in
      let ends : e ≡ s.at + length old = omega arith in
      let room = r.room in
      let fits : s.to + length old ≤ length a = omega arith in
      let w : Both = both (spot e (pasted_end ws s.at e s.to) (s.caught || free && eqb k 15)) (pasted ws s.at e a s.to) b in
      let x : Did ws old old (free && eqb k 15) rest s a b spare w =
      record {
        begins = begins;
        ends = ends;
        writes = copy_end ws old rest s.at e s.to (length a) begins r.inside ends r.near fits;
        catches = refl;
        laid = laid_copy ws old rest s.at e a s.to begins r.inside ends fits;
        kept = kept_still b spare;
      } in
      let less : Ready ws (2 * d) s a b spare = ready_less ws (2 * d) (omega arith) r in
      let next : Ready ws (2 * d) w.spot w.a w.b spare = ready_next ws (2 * d) less x (omega arith) in
      rw (node_turn free s a b spare w.spot w.a (copied_there ws _ k free s a (λ z. omega arith) (ap (λ j. pasted_end ws s.at j s.to) (sym q)) (ap (λ j. pasted ws s.at j a s.to) (sym q)) refl ∙ ap (λ j. one (spot j (pasted_end ws s.at e s.to) (s.caught || free && eqb k 15)) (pasted ws s.at e a s.to)) q))
      (node_rest c plain free o x (rw v at (listed_rel join ws d sub below gone (free && not (own_ch k)) (eqb (counts_of k).lists 0) w.spot w.a w.b spare next)) next)

  pub node_rel :
      (free : Bool) (s : Spot) (a b : List ℕ) (spare : ℕ) → Ready ws (2 * suc d) s a b spare → s.at < length ws → eqb (kind_of (get_or ws s.at 0)) 19 ≡ false →
      NodeRel free s a b spare (plan_node (expr d) (plan d) (get_or ws s.at 0) (drop (s.at + 1) ws)) (node_w d sub ws free s a b spare)
  unfolding plan_node
  node_rel free s a b spare r h plain = node_own free s a b spare r h plain (own_reach ws ok d s.at (counts_of (kind_of (get_or ws s.at 0))) h) refl

  -- ---- a fixed scope

  body_gone : (free : Bool) (s : Spot) (a b : List ℕ) (spare : ℕ) → s.at ≡ 0 → (body_w sub join ws free s a b spare).spot.at ≡ 0
  body_gone free s a b spare e = ap (λ (x : Both). x.spot.at) (body_nowhere sub join ws free s a b spare e)

  close_gone : (h spare end : ℕ) (p : Both) → p.spot.at ≡ 0 → (close_w h spare end p).spot.at ≡ 0
  unfolding close_w
  close_gone h spare end p e = rw (eq-eqb p.spot.at 0 e)

  rest_gone : (free : Bool) (h : ℕ) (s : Spot) (a b : List ℕ) (spare : ℕ) → s.at ≡ 0 → (rest_w sub join ws free h s a b spare).spot.at ≡ 0
  unfolding rest_w
  rest_gone free h s a b spare e =
      let c : Both = sub true (spot s.at spare s.caught) b a s.to in
      close_gone h spare c.spot.to (body_w sub join ws free (spot c.spot.at s.to c.spot.caught) c.b c.a c.spot.to)
      (body_gone free (spot c.spot.at s.to c.spot.caught) c.b c.a c.spot.to (gone true (spot s.at spare s.caught) b a s.to e))

  then_gone : (free : Bool) (h : ℕ) (x : Both) (spare : ℕ) → x.spot.at ≡ 0 → (then_w sub join ws free h x spare).spot.at ≡ 0
  unfolding then_w
  then_gone free h x spare e = rw (eq-eqb x.spot.at 0 e)

  abbrev front_words : ℕ → List ℕ
  front_words h = (22528 + h / 32 % 64 * 32) ∷ 0 ∷ 0 ∷ join ∷ head_of Kind.inst 0 ∷ []

  abbrev one_words : ℕ → List ℕ
  one_words h = head_of Kind.inst 0 ∷ 1 ∷ (32768 + h / 32 % 64 * 512) ∷ []

  front_puts : (h : ℕ) (a : List ℕ) (to : ℕ) → Near (length a) → to + 5 ≤ length a → Puts a to (front_words h) (front_w h join a to)
  unfolding front_w
  front_puts h a to near r =
      puts_more (head_of Kind.inst 0) near (omega arith)
      (puts_more join near (omega arith) (puts_more 0 near (omega arith) (puts_more 0 near (omega arith) (puts_more (22528 + h / 32 % 64 * 32) near (omega arith) (puts_none a to)))))

  one_puts : (h : ℕ) (a : List ℕ) (to : ℕ) → Near (length a) → to + 3 ≤ length a → Puts a to (one_words h) (one_w h a to)
  unfolding one_w
  one_puts h a to near r =
      puts_more (32768 + h / 32 % 64 * 512) near (omega arith) (puts_more 1 near (omega arith) (puts_more (head_of Kind.inst 0) near (omega arith) (puts_none a to)))

  join_puts : (h : ℕ) (a : List ℕ) (to : ℕ) → Near (length a) → to + 4 ≤ length a → Puts a to (join ∷ one_words h) (one_w h (set a to join) (onward to 1))
  unfolding one_w
  join_puts h a to near r =
      puts_more (32768 + h / 32 % 64 * 512) near (omega arith)
      (puts_more 1 near (omega arith) (puts_more (head_of Kind.inst 0) near (omega arith) (puts_more join near (omega arith) (puts_none a to))))

  -- what stands for P
  unfoldable body_words : Node → List ℕ
  body_words p = cond (eqb (head_word (rewritten join p)) 0) [] (join ∷ words (rewritten join p))

  plan_empty : (k : ℕ) → plan k [] ≡ fail
  unfolding plan
  plan_empty zero = refl
  plan_empty (suc k) = refl

  plan_nil : (k : ℕ) → 0 < k → (l : List ℕ) → plan k (0 ∷ l) ≡ got (node 0 [] [] absent no_parts) l
  unfolding plan plan_node own first lists expressed listed several counts_of counted word_count list_count row_of rows processes_of and_then
  plan_nil zero h l = absurd (omega arith)
  plan_nil (suc k) h l = refl

  rewritten_head : (n : Node) → (head_word n ≡ 0 → ⊥) → eqb (head_word (rewritten join n)) 0 ≡ false
  unfolding rewritten installing
  rewritten_head (node h f es b ps) z = by (eqb (kind_of h) 19)
    where
      by : (t : Bool) →
          eqb
          (head_word
          (cond t
          (installing join (name_of h) (entries_of (block_rewritten join b)) (part_at (parts_rewritten join ps) 0) (part_at (parts_rewritten join ps) 1) (part_at (parts_rewritten join ps) 2))
          (node h f es (block_rewritten join b) (parts_rewritten join ps))))
          0
          ≡ false
      by true = ne_eqb (head_of 11 (name_of h * 32 + 0 * 8 + 0 * 4)) 0 (λ e. omega arith)
      by false = ne_eqb h 0 z

  head_of_lem : (i : ℕ) (n : Node) (rest : List ℕ) → drop i ws ≡ words n ++ rest → get_or ws i 0 ≡ head_word n
  unfolding words
  head_of_lem i (node h f es b ps) rest e = (at_head ws i h _ e).word

  body_some :
      (free : Bool) (s : Spot) (a b : List ℕ) (spare : ℕ) → Ready ws (2 * d + 1) s a b spare → (get_or ws s.at 0 ≡ 0 → ⊥) →
      {g : Got Node} {w : Both} → Rel ws 3 words (λ n. words (rewritten join n)) (captured free) (spot s.at (onward s.to 1) s.caught) (set a s.to join) b spare g w →
      Rel ws 2 words body_words (captured free) s a b spare g w
  unfolding body_words
  body_some free s a b spare r z (loses e) = loses e
  body_some free s a b spare r z (does {x = p} {rest} {w} x h) =
      let room = r.room in
      let one_more_lem : onward s.to 1 ≡ s.to + 1 = onward_near s.to 1 (length a) r.near (omega arith) in
      let same : body_words p ≡ join ∷ words (rewritten join p) = body_is p (rewritten_head p (λ e. z (head_of_lem s.at p rest x.begins ∙ e))) in
      let y : Did ws (words p) (join ∷ words (rewritten join p)) (captured free p) rest s a b spare w =
      record {
        begins = x.begins;
        ends = x.ends;
        writes = x.writes ∙ omega (arith, one_more_lem);
        catches = x.catches;
        laid = laid_then (laid_put a s.to join (omega arith)) (subst (λ k. Laid (set a s.to join) k (words (rewritten join p)) w.a) one_more_lem x.laid);
        kept = x.kept;
      } in
      does {x = p} (did_as ws refl (sym same) refl y) (omega (arith, ap length same))
    where
      body_is : (n : Node) → eqb (head_word (rewritten join n)) 0 ≡ false → body_words n ≡ join ∷ words (rewritten join n)
      body_is n e = rw e

  body_rel :
      0 < d → (free : Bool) (s : Spot) (a b : List ℕ) (spare : ℕ) → Ready ws (2 * d + 1) s a b spare →
      Rel ws 2 words body_words (captured free) s a b spare (plan d (drop s.at ws)) (body_w sub join ws free s a b spare)
  unfolding words exprs_words captured body_words rewritten
  body_rel deep free s a b spare r = inside (ltb s.at (length ws)) refl
    where
      nil_captured : (f : Bool) → false ≡ captured f (node 0 [] [] absent no_parts)
      nil_captured true = refl
      nil_captured false = refl

      word : s.at < length ws → (t : Bool) → eqb (get_or ws s.at 0) 0 ≡ t → Rel ws 2 words body_words (captured free) s a b spare (plan d (drop s.at ws)) (body_w sub join ws free s a b spare)
      word h true t =
          let z : get_or ws s.at 0 ≡ 0 = eqb-true (get_or ws s.at 0) 0 t in
          let at0 : drop s.at ws ≡ 0 ∷ drop (s.at + 1) ws = next_word ws s.at h ∙ ap (λ w. w ∷ drop (s.at + 1) ws) z in
          let room = r.room in
          let none = did_none ws s a b spare (omega arith) in
          let w : Both = both (spot (s.at + 1) s.to s.caught) a b in
          let y : Did ws (0 ∷ []) [] false (drop (s.at + 1) ws) s a b spare w =
          record { begins = at0; ends = refl; writes = none.writes; catches = none.catches; laid = none.laid; kept = none.kept } in
          rw (at0, plan_nil d deep (drop (s.at + 1) ws), body_nil sub join ws free s a b spare (λ e. omega (arith, r.some)) h z)
          (does {x = node 0 [] [] absent no_parts} (did_as ws refl refl (nil_captured free) y) (omega arith))
      word h false t =
          let z : get_or ws s.at 0 ≡ 0 → ⊥ = eqb-false (get_or ws s.at 0) 0 t in
          let n : Spot = spot s.at (onward s.to 1) s.caught in
          let a1 : List ℕ = set a s.to join in
          let room = r.room in
          let one_more_lem : onward s.to 1 ≡ s.to + 1 = onward_near s.to 1 (length a) r.near (omega arith) in
          let long : length a1 ≡ length a = length-set a s.to join in
          let next : Ready ws (2 * d) n a1 b spare =
          record { some = r.some; inside = r.inside; room = omega arith; spares = let q = r.spares in omega arith; near = rw long r.near; nearby = r.nearby } in
          rw (body_there sub join ws free s a b spare (λ e. omega (arith, r.some)) h z refl refl (whole (refl, refl, refl)))
          (body_some free s a b spare r z (below free n a1 b spare next))

      inside : (t : Bool) → ltb s.at (length ws) ≡ t → Rel ws 2 words body_words (captured free) s a b spare (plan d (drop s.at ws)) (body_w sub join ws free s a b spare)
      inside true t = word (ltb-true s.at (length ws) t) (eqb (get_or ws s.at 0) 0) refl
      inside false t =
          let h : length ws ≤ s.at = ltb-false s.at (length ws) t in
          rw (drop_of_length-le ws h, plan_empty d, body_outside sub join ws free s a b spare (λ e. omega (arith, r.some)) h) (loses refl)

  -- compensation process and body, once both are written
  rest_close :
      (h : ℕ) (free : Bool) {o1 n1 : List ℕ} {c1 : Bool} {r1 : List ℕ} {s : Spot} {a b : List ℕ} {spare : ℕ} {y : Both} →
      Did ws o1 n1 c1 r1 s a b spare y → Ready ws (2 * d + 3) y.spot y.a y.b spare →
      (cn : Node) {r2 : List ℕ} {c : Both} →
      Did ws (words cn) (words (rewritten join cn)) (captured true cn) r2 (spot y.spot.at spare y.spot.caught) y.b y.a y.spot.to c →
      length (words (rewritten join cn)) + 3 ≤ 4 * length (words cn) →
      (pn : Node) {r3 : List ℕ} {p : Both} →
      Did ws (words pn) (body_words pn) (captured free pn) r3 (spot c.spot.at y.spot.to c.spot.caught) c.b c.a c.spot.to p →
      length (body_words pn) + 2 ≤ 4 * length (words pn) →
      Did ws (o1 ++ (words cn ++ words pn)) (n1 ++ (body_words pn ++ (one_words h ++ words (rewritten join cn)))) (c1 || (captured true cn || captured free pn)) r3 s a b spare
      (close_w h spare c.spot.to p)
  unfolding close_w
  rest_close h free {o1} {n1} {c1} {r1} {s} {a} {b} {spare} {y} x r cn {r2} {c} z k pn {r3} {p} v m =
      let cw : List ℕ = words cn in
      let pw : List ℕ = words pn in
      let cr : List ℕ = words (rewritten join cn) in
      let bw : List ℕ = body_words pn in
      let room = r.room in
      let spares = r.spares in
      let inside = r.inside in
      let ye = x.ends in
      let yt = x.writes in
      let ce : c.spot.at ≡ y.spot.at + length cw = z.ends in
      let ct : c.spot.to ≡ spare + length cr = z.writes in
      let pe : p.spot.at ≡ c.spot.at + length pw = v.ends in
      let pt : p.spot.to ≡ y.spot.to + length bw = v.writes in
      let la : length c.b ≡ length y.a = z.kept.same in
      let lb : length c.a ≡ length y.b = z.laid.keeps in
      let lp : length p.a ≡ length c.b = v.laid.keeps in
      let lq : length p.b ≡ length c.a = v.kept.same in
      let in1 : c.spot.at ≤ length ws = did_inside ws inside z in
      let in2 : p.spot.at ≤ length ws = did_inside ws in1 v in
      let nearp : Near (length p.a) = rw (lp ∙ la) r.near in
      let t : Put = one_w h p.a p.spot.to in
      let ones : Puts p.a p.spot.to (one_words h) t = one_puts h p.a p.spot.to nearp (omega arith) in
      let tt3 : t.to ≡ p.spot.to + 3 = ones.reaches in
      let lt : length t.out ≡ length p.a = ones.laid.keeps in
      let copied : Laid y.b spare cr p.b = laid_kept z.laid (subst (λ n. Kept c.a n p.b) ct v.kept) in
      let stands : drop spare p.b ≡ cr ++ drop (spare + length cr) p.b = laid_drop (omega arith) copied in
      let nearq : Near (length t.out) = rw lt nearp in
      let last : Laid t.out t.to cr (pasted p.b spare c.spot.to t.out t.to) =
      laid_copy p.b cr (drop (spare + length cr) p.b) spare c.spot.to t.out t.to stands (omega arith) ct (omega arith) in
      let end : pasted_end p.b spare c.spot.to t.to ≡ t.to + length cr =
      copy_end p.b cr (drop (spare + length cr) p.b) spare c.spot.to t.to (length t.out) stands (omega arith) ct nearq (omega arith) in
      let first : Laid a s.to n1 c.b = laid_kept x.laid (subst (λ n. Kept y.a n c.b) yt z.kept) in
      let second : Laid c.b (s.to + length n1) bw p.a = subst (λ n. Laid c.b n bw p.a) yt v.laid in
      let pt2 : p.spot.to ≡ s.to + length n1 + length bw = pt ∙ ap (λ n. n + length bw) yt in
      let third : Laid p.a (s.to + length n1 + length bw) (one_words h ++ cr) (pasted p.b spare c.spot.to t.out t.to) =
      subst (λ n. Laid p.a n (one_words h ++ cr) (pasted p.b spare c.spot.to t.out t.to)) pt2
      (laid_then ones.laid (subst (λ n. Laid t.out n cr (pasted p.b spare c.spot.to t.out t.to)) tt3 last)) in
      let r1' : drop y.spot.at ws ≡ r1 = did_rest ws x in
      let r2' : drop c.spot.at ws ≡ r2 = did_rest ws z in
      let begun = r.some in
      let some : eqb p.spot.at 0 ≡ false = ne_eqb p.spot.at 0 (λ q. omega (arith, q)) in
      rw some
      (record {
        begins =
            x.begins ∙ ap (λ l. o1 ++ l) (sym r1' ∙ z.begins ∙ ap (λ l. cw ++ l) (sym r2' ∙ v.begins) ∙ sym (append_assoc cw pw r3)) ∙ sym (append_assoc o1 (cw ++ pw) r3);
        ends = pe ∙ omega (arith, length-append cw pw, length-append o1 (cw ++ pw));
        writes = end ∙ omega (arith, length-append bw (one_words h ++ cr), length-append n1 (bw ++ (one_words h ++ cr)));
        catches =
            v.catches ∙ ap (λ t. t || captured free pn) (z.catches ∙ ap (λ t. t || captured true cn) x.catches) ∙ or_assoc (s.caught || c1) (captured true cn) (captured free pn)
            ∙ or_assoc s.caught c1 (captured true cn || captured free pn);
        laid = laid_then first (laid_then second third);
        kept = kept_then x.kept (kept_then (laid_keeps (omega arith) z.laid) (kept_less spare (omega arith) v.kept));
      })

  did_insert :
      {new : List ℕ} {s : Spot} {a : List ℕ} {p : Put} (b : List ℕ) (spare : ℕ) → Puts a s.to new p →
      Did ws [] new false (drop s.at ws) s a b spare (both (spot s.at p.to s.caught) p.out b)
  did_insert {s = s} b spare x =
      record { begins = refl; ends = sym (add-zero s.at); writes = x.reaches; catches = sym (or_false s.caught); laid = x.laid; kept = kept_still b spare }

  plan_some : (k : ℕ) (l : List ℕ) {n : Node} {r : List ℕ} → plan k l ≡ got n r → 0 < k
  unfolding plan
  plan_some zero l e = absurd (let z : ◌≡◌ {A = ℕ} 0 1 = cc in omega arith)
  plan_some (suc k) l e = omega arith

  words_inst : (e : Entries) → words (inst_of e) ≡ head_of Kind.inst 0 ∷ count e ∷ entries_words e
  unfolding words exprs_words
  words_inst e = simp append-nil

  words_one : (name : ℕ) (t : Node) → words (inst_of (under name t)) ≡ head_of Kind.inst 0 ∷ 1 ∷ key_word (scope_key name) ∷ words t
  unfolding words exprs_words count
  words_one name t = simp append-nil

  words_joined : (j : ℕ) (p q : Node) → words (joined j p q) ≡ j ∷ words p ++ words q
  unfolding words exprs_words
  words_joined j p q = simp append-nil

  words_scope : (name : ℕ) (p : Node) → words (scope_of name p) ≡ (22528 + name * 32) ∷ 0 ∷ 0 ∷ words p
  unfolding words exprs_words count
  words_scope name p = let e : head_of 11 (name * 32 + 0 * 8 + 0 * 4) ≡ 22528 + name * 32 = omega arith in simp (append-nil, e)

  module _ (h : ℕ) (kind19 : kind_of h ≡ 19) (l : Entries) (tn cn pn : Node) where
    abbrev scope_node : Node
    scope_node = node h [] [] (list l) (tn & cn & pn & no_parts)

    fixed_old :
        (((h ∷ []) ++ (count l ∷ entries_words l)) ++ ([] ++ words tn)) ++ (words cn ++ words pn) ≡ words scope_node
    unfolding words exprs_words
    fixed_old = simp (append_assoc, append-nil)

    fixed_captured : (free : Bool) → ((false || entries_captured true l) || (false || captured true tn)) || (captured true cn || captured free pn) ≡ captured free scope_node
    unfolding captured free_entries free_part
    fixed_captured free = simp kind19 (by free (entries_captured true l) (captured true tn) (captured true cn) (captured free pn))
      where
        by : (f e t c p : Bool) → ((false || e) || (false || t)) || (c || p) ≡ (f && false) || (e || (t || (c || (p || false))))
        by true true t c p = refl
        by true false true c p = refl
        by true false false true p = refl
        by true false false false true = refl
        by true false false false false = refl
        by false true t c p = refl
        by false false true c p = refl
        by false false false true p = refl
        by false false false false true = refl
        by false false false false false = refl

    key_is : 32768 + h / 32 % 64 * 512 ≡ key_word (64 + h / 32 % 64)
    key_is = omega arith

    fixed_new :
        ((front_words h ++ (count (entries_rewritten join l) ∷ entries_words (entries_rewritten join l))) ++ ((join ∷ one_words h) ++ words (rewritten join tn)))
        ++ (body_words pn ++ (one_words h ++ words (rewritten join cn)))
        ≡ words (rewritten join scope_node)
    unfolding rewritten installing then_c body_words
    fixed_new = simp kind19 (by (rewritten join tn) (rewritten join cn) (rewritten join pn) (entries_rewritten join l))
      where
        by :
            (t c p : Node) (e : Entries) →
            ((front_words h ++ (count e ∷ entries_words e)) ++ ((join ∷ one_words h) ++ words t)) ++ (cond (eqb (head_word p) 0) [] (join ∷ words p) ++ (one_words h ++ words c))
            ≡ words (installing join (name_of h) e t c p)
        by t c p e = sides (eqb (head_word p) 0)
          where
            sides :
                (b : Bool) →
                ((front_words h ++ (count e ∷ entries_words e)) ++ ((join ∷ one_words h) ++ words t)) ++ (cond b [] (join ∷ words p) ++ (one_words h ++ words c))
                ≡ words (scope_of (name_of h) (joined join (inst_of e) (joined join (inst_of (under (name_of h) t)) (cond b (inst_of (under (name_of h) c)) (joined join p (inst_of (under (name_of h) c)))))))
            sides true =
                let r : List ℕ = [] ++ (one_words h ++ words c) in
                let grouped : (entries_words e ++ ((join ∷ one_words h) ++ words t)) ++ r ≡ entries_words e ++ ((join ∷ one_words h) ++ (words t ++ r)) =
                append_assoc (entries_words e) ((join ∷ one_words h) ++ words t) r ∙ ap (λ m. entries_words e ++ m) (append_assoc (join ∷ one_words h) (words t) r) in
                ap (λ m. front_words h ++ (count e ∷ m)) grouped ∙ simp (words_scope, words_joined, words_one) (simp (words_inst, key_is))
            sides false =
                let r : List ℕ = (join ∷ words p) ++ (one_words h ++ words c) in
                let grouped : (entries_words e ++ ((join ∷ one_words h) ++ words t)) ++ r ≡ entries_words e ++ ((join ∷ one_words h) ++ (words t ++ r)) =
                append_assoc (entries_words e) ((join ∷ one_words h) ++ words t) r ∙ ap (λ m. entries_words e ++ m) (append_assoc (join ∷ one_words h) (words t) r) in
                ap (λ m. front_words h ++ (count e ∷ m)) grouped ∙ simp (words_scope, words_joined, words_one) (simp (words_inst, key_is))

    -- the whole, once every part is written
    fixed_last :
        (free : Bool) {r1 : List ℕ} {s : Spot} {a b : List ℕ} {spare : ℕ} {y : Both} →
        Did ws (((h ∷ []) ++ (count l ∷ entries_words l)) ++ ([] ++ words tn))
        ((front_words h ++ (count (entries_rewritten join l) ∷ entries_words (entries_rewritten join l))) ++ ((join ∷ one_words h) ++ words (rewritten join tn)))
        ((false || entries_captured true l) || (false || captured true tn)) r1 s a b spare y →
        length (count (entries_rewritten join l) ∷ entries_words (entries_rewritten join l)) + 3 ≤ 4 * length (count l ∷ entries_words l) →
        length (words (rewritten join tn)) + 3 ≤ 4 * length (words tn) →
        Ready ws (2 * d + 3) y.spot y.a y.b spare →
        {r2 : List ℕ} {c : Both} →
        Did ws (words cn) (words (rewritten join cn)) (captured true cn) r2 (spot y.spot.at spare y.spot.caught) y.b y.a y.spot.to c →
        length (words (rewritten join cn)) + 3 ≤ 4 * length (words cn) →
        {r3 : List ℕ} {p : Both} →
        Did ws (words pn) (body_words pn) (captured free pn) r3 (spot c.spot.at y.spot.to c.spot.caught) c.b c.a c.spot.to p →
        length (body_words pn) + 2 ≤ 4 * length (words pn) →
        NodeRel free s a b spare (got scope_node r3) (close_w h spare c.spot.to p)
    fixed_last free x hf ht r z k v m =
        let e : List ℕ = entries_words l in
        let f : List ℕ = entries_words (entries_rewritten join l) in
        let t : List ℕ = words tn in
        let u : List ℕ = words (rewritten join tn) in
        let q : List ℕ = words cn ++ words pn in
        let w : List ℕ = body_words pn ++ (one_words h ++ words (rewritten join cn)) in
        let o1 : List ℕ = ((h ∷ []) ++ (count l ∷ e)) ++ ([] ++ t) in
        let n1 : List ℕ = (front_words h ++ (count (entries_rewritten join l) ∷ f)) ++ ((join ∷ one_words h) ++ u) in
        let lo : length o1 ≡ 2 + length e + length t = length-append ((h ∷ []) ++ (count l ∷ e)) ([] ++ t) ∙ omega arith in
        let ln : length n1 ≡ 10 + length f + length u = length-append (front_words h ++ (count (entries_rewritten join l) ∷ f)) ((join ∷ one_words h) ++ u) ∙ omega arith in
        let lw : length w ≡ length (body_words pn) + 3 + length (words (rewritten join cn)) = length-append (body_words pn) (one_words h ++ words (rewritten join cn)) ∙ omega arith in
        does {x = scope_node} (did_as ws fixed_old fixed_new (fixed_captured free) (rest_close h free x r cn z k pn v m))
        (omega (arith, ap length fixed_old, ap length fixed_new, length-append o1 q, length-append n1 w, length-append (words cn) (words pn)))

  module _ (h : ℕ) (kind19 : kind_of h ≡ 19) (free : Bool) where
    -- the body, then all
    fixed_body :
        (l : Entries) (tn cn : Node) {r1 : List ℕ} {s : Spot} {a b : List ℕ} {spare : ℕ} {y : Both} →
        Did ws (((h ∷ []) ++ (count l ∷ entries_words l)) ++ ([] ++ words tn))
        ((front_words h ++ (count (entries_rewritten join l) ∷ entries_words (entries_rewritten join l))) ++ ((join ∷ one_words h) ++ words (rewritten join tn)))
        ((false || entries_captured true l) || (false || captured true tn)) r1 s a b spare y →
        length (count (entries_rewritten join l) ∷ entries_words (entries_rewritten join l)) + 3 ≤ 4 * length (count l ∷ entries_words l) →
        length (words (rewritten join tn)) + 3 ≤ 4 * length (words tn) →
        Ready ws (2 * d + 3) y.spot y.a y.b spare →
        {r2 : List ℕ} {c : Both} →
        Did ws (words cn) (words (rewritten join cn)) (captured true cn) r2 (spot y.spot.at spare y.spot.caught) y.b y.a y.spot.to c →
        length (words (rewritten join cn)) + 3 ≤ 4 * length (words cn) →
        {g : Got Node} {p : Both} →
        Rel ws 2 words body_words (captured free) (spot c.spot.at y.spot.to c.spot.caught) c.b c.a c.spot.to g p →
        NodeRel free s a b spare (and_then g λ pn rest. got (node h [] [] (list l) (tn & cn & pn & no_parts)) rest) (close_w h spare c.spot.to p)
    unfolding and_then close_w
    fixed_body l tn cn {spare = spare} x hf ht r {c = c} z k (loses {w = p} e) = loses (close_gone h spare c.spot.to p e)
    fixed_body l tn cn x hf ht r z k (does {x = pn} v m) = fixed_last h kind19 l tn cn pn free x hf ht r z k v m

    fixed_rest :
        0 < d → (l : Entries) (tn : Node) {r1 : List ℕ} {s : Spot} {a b : List ℕ} {spare : ℕ} {y : Both} →
        Did ws (((h ∷ []) ++ (count l ∷ entries_words l)) ++ ([] ++ words tn))
        ((front_words h ++ (count (entries_rewritten join l) ∷ entries_words (entries_rewritten join l))) ++ ((join ∷ one_words h) ++ words (rewritten join tn)))
        ((false || entries_captured true l) || (false || captured true tn)) r1 s a b spare y →
        length (count (entries_rewritten join l) ∷ entries_words (entries_rewritten join l)) + 3 ≤ 4 * length (count l ∷ entries_words l) →
        length (words (rewritten join tn)) + 3 ≤ 4 * length (words tn) →
        Ready ws (2 * d + 3) y.spot y.a y.b spare →
        {g : Got Node} {c : Both} →
        Rel ws 3 words (λ n. words (rewritten join n)) (captured true) (spot y.spot.at spare y.spot.caught) y.b y.a y.spot.to g c →
        NodeRel free s a b spare
        (and_then g λ cn w3. and_then (plan d w3) λ pn rest. got (node h [] [] (list l) (tn & cn & pn & no_parts)) rest)
        (close_w h spare c.spot.to (body_w sub join ws free (spot c.spot.at y.spot.to c.spot.caught) c.b c.a c.spot.to))
    unfolding and_then close_w
    fixed_rest deep l tn {spare = spare} {y = y} x hf ht r (loses {w = c} e) =
        loses
        (close_gone h spare c.spot.to (body_w sub join ws free (spot c.spot.at y.spot.to c.spot.caught) c.b c.a c.spot.to)
        (body_gone free (spot c.spot.at y.spot.to c.spot.caught) c.b c.a c.spot.to e))
    fixed_rest deep l tn {spare = spare} {y = y} x hf ht r (does {x = cn} {rest} {w = c} z k) =
        let room = r.room in
        let spares = r.spares in
        let ce : c.spot.at ≡ y.spot.at + length (words cn) = z.ends in
        let ct : c.spot.to ≡ spare + length (words (rewritten join cn)) = z.writes in
        let la : length c.b ≡ length y.a = z.kept.same in
        let lb : length c.a ≡ length y.b = z.laid.keeps in
        let inside : c.spot.at ≤ length ws = did_inside ws r.inside z in
        let next : Ready ws (2 * d + 1) (spot c.spot.at y.spot.to c.spot.caught) c.b c.a c.spot.to =
        record { some = let n = r.some in omega arith; inside = inside; room = omega arith; spares = omega arith; near = rw la r.near; nearby = rw lb r.nearby } in
        fixed_body l tn cn x hf ht r z k
        (rw (did_rest ws z) at (body_rel deep free (spot c.spot.at y.spot.to c.spot.caught) c.b c.a c.spot.to next))

    fixed_then :
        (l : Entries) {r1 : List ℕ} {s : Spot} {a b : List ℕ} {spare : ℕ} {x : Both} → Ready ws (2 * suc d) s a b spare →
        Did ws ((h ∷ []) ++ (count l ∷ entries_words l)) (front_words h ++ (count (entries_rewritten join l) ∷ entries_words (entries_rewritten join l))) (false || entries_captured true l) r1 s a b spare x →
        length (count (entries_rewritten join l) ∷ entries_words (entries_rewritten join l)) + 3 ≤ 4 * length (count l ∷ entries_words l) →
        {s2 : Spot} {a2 b2 : List ℕ} → Did ws [] (join ∷ one_words h) false r1 x.spot x.a x.b spare (both s2 a2 b2) →
        (source : List ℕ) {g : Got Node} → plan d source ≡ g → {y : Both} → Rel ws 3 words (λ n. words (rewritten join n)) (captured true) s2 a2 b2 spare g y →
        NodeRel free s a b spare
        (and_then g λ tn w2. and_then (plan d w2) λ cn w3. and_then (plan d w3) λ pn rest. got (node h [] [] (list l) (tn & cn & pn & no_parts)) rest)
        (rest_w sub join ws free h y.spot y.a y.b spare)
    unfolding and_then rest_w
    fixed_then l {spare = spare} r x hf i source q (loses {w = y} e) = loses (rest_gone free h y.spot y.a y.b spare e)
    fixed_then l {s = s} {a} {b} {spare} {x = xw} r x hf {s2} {a2} {b2} i source q (does {x = tn} {rest} {w = y} v ht) =
        let all = did_then ws x (did_then ws i v) in
        let e : List ℕ = entries_words l in
        let f : List ℕ = entries_words (entries_rewritten join l) in
        let t : List ℕ = words tn in
        let u : List ℕ = words (rewritten join tn) in
        let o1 : List ℕ = ((h ∷ []) ++ (count l ∷ e)) ++ ([] ++ t) in
        let n1 : List ℕ = (front_words h ++ (count (entries_rewritten join l) ∷ f)) ++ ((join ∷ one_words h) ++ u) in
        let lo : length o1 ≡ 2 + length e + length t = length-append ((h ∷ []) ++ (count l ∷ e)) ([] ++ t) ∙ omega arith in
        let ln : length n1 ≡ 10 + length f + length u = length-append (front_words h ++ (count (entries_rewritten join l) ∷ f)) ((join ∷ one_words h) ++ u) ∙ omega arith in
        let room = r.room in
        let spares = r.spares in
        let ye : y.spot.at ≡ s.at + length o1 = all.ends in
        let yt : y.spot.to ≡ s.to + length n1 = all.writes in
        let la : length y.a ≡ length a = all.laid.keeps in
        let lb : length y.b ≡ length b = all.kept.same in
        let inside : y.spot.at ≤ length ws = did_inside ws r.inside all in
        let next : Ready ws (2 * d + 3) y.spot y.a y.b spare =
        record { some = let n = r.some in omega arith; inside = inside; room = omega arith; spares = omega arith; near = rw la r.near; nearby = rw lb r.nearby } in
        let swapped : Ready ws (2 * d) (spot y.spot.at spare y.spot.caught) y.b y.a y.spot.to =
        let p = next.room in
        let p2 = next.spares in
        record { some = next.some; inside = inside; room = omega arith; spares = omega arith; near = next.nearby; nearby = next.near } in
        fixed_rest (plan_some d source q) l tn all hf ht next
        (rw (did_rest ws all) at (below true (spot y.spot.at spare y.spot.caught) y.b y.a y.spot.to swapped))

    fixed_list :
        {r0 : List ℕ} {s : Spot} {a b : List ℕ} {spare : ℕ} {s1 : Spot} {a1 b1 : List ℕ} → Ready ws (2 * suc d) s a b spare →
        Did ws (h ∷ []) (front_words h) false r0 s a b spare (both s1 a1 b1) →
        {g : Got Entries} {x : Both} → ListRel join ws d sub true s1 a1 b1 spare g x →
        NodeRel free s a b spare
        (and_then g λ l w1. and_then (plan d w1) λ tn w2. and_then (plan d w2) λ cn w3. and_then (plan d w3) λ pn rest. got (node h [] [] (list l) (tn & cn & pn & no_parts)) rest)
        (then_w sub join ws free h x spare)
    unfolding and_then then_w
    fixed_list {spare = spare} r f (loses {w = x} e) = loses (then_gone free h x spare e)
    fixed_list {s = s} {a} {b} {spare} r f (does {x = l} {rest} {w = x} y hf) =
        let all = did_then ws f y in
        let room = r.room in
        let spares = r.spares in
        let le : length (count l ∷ entries_words l) ≡ 1 + length (entries_words l) = omega arith in
        let xe : x.spot.at ≡ s.at + (2 + length (entries_words l)) = all.ends ∙ omega arith in
        let xt : x.spot.to ≡ s.to + (6 + length (entries_words (entries_rewritten join l))) = all.writes ∙ omega arith in
        let la : length x.a ≡ length a = all.laid.keeps in
        let lb : length x.b ≡ length b = all.kept.same in
        let inside : x.spot.at ≤ length ws = did_inside ws r.inside all in
        let t : Put = one_w h (set x.a x.spot.to join) (onward x.spot.to 1) in
        let nearx : Near (length x.a) = rw la r.near in
        let puts : Puts x.a x.spot.to (join ∷ one_words h) t = join_puts h x.a x.spot.to nearx (omega arith) in
        let s2 : Spot = spot x.spot.at t.to x.spot.caught in
        let tt4 : t.to ≡ x.spot.to + 4 = puts.reaches in
        let lt : length t.out ≡ length x.a = puts.laid.keeps in
        let next : Ready ws (2 * d) s2 t.out x.b spare =
        record { some = let n = r.some in omega arith; inside = inside; room = omega arith; spares = omega arith; near = rw lt nearx; nearby = rw lb r.nearby } in
        let here : drop x.spot.at ws ≡ rest = did_rest ws all in
        let begun = next.some in
        rw (ne_eqb x.spot.at 0 (λ q. omega (arith, q)), ← here)
        (fixed_then l r (rw (← here) at all) hf (did_insert {s = x.spot} x.b spare puts) (drop x.spot.at ws) refl (below true s2 t.out x.b spare next))

  pub fixed_rel :
      (free : Bool) (s : Spot) (a b : List ℕ) (spare : ℕ) → Ready ws (2 * suc d) s a b spare → s.at < length ws → kind_of (get_or ws s.at 0) ≡ 19 →
      NodeRel free s a b spare (plan_fixed (plan d) (get_or ws s.at 0) (drop (s.at + 1) ws)) (fixed_w sub join ws free s a b spare)
  unfolding plan_fixed fixed_w check
  fixed_rel free s a b spare r h k = by (eqb (get_or ws s.at 0 % 32) 0)
    where
      by : (t : Bool) →
          NodeRel free s a b spare
          (check t
          (and_then (list_below (plan d) 64 (drop (s.at + 1) ws)) λ l w1.
          and_then (plan d w1) λ tn w2.
          and_then (plan d w2) λ cn w3.
          and_then (plan d w3) λ pn rest.
          got (node (get_or ws s.at 0) [] [] (list l) (tn & cn & pn & no_parts)) rest))
          (let f = front_w (get_or ws s.at 0) join a s.to in
          cond t
          (then_w sub join ws free (get_or ws s.at 0) (listed_w sub ws true false 64 (spot (s.at + 1) f.to s.caught) f.out b spare) spare)
          (both lost a b))
      by true =
          let c : ℕ = get_or ws s.at 0 in
          let f : Put = front_w c join a s.to in
          let room = r.room in
          let spares = r.spares in
          let puts : Puts a s.to (front_words c) f = front_puts c a s.to r.near (omega arith) in
          let ft : f.to ≡ s.to + 5 = puts.reaches in
          let la : length f.out ≡ length a = puts.laid.keeps in
          let s1 : Spot = spot (s.at + 1) f.to s.caught in
          let next : Ready ws (2 * d) s1 f.out b spare =
          record { some = omega arith; inside = omega arith; room = omega arith; spares = omega arith; near = rw la r.near; nearby = r.nearby } in
          fixed_list c k free r (did_puts ws {s = s} b spare (next_word ws s.at h) puts) (list_rel join ws d sub below gone true 64 (omega arith) s1 f.out b spare next)
      by false = loses refl

-- ---- every process

module _ (join : ℕ) (ws : List ℕ) (ok : Words ws) where
  pub process_gone : (d : ℕ) → Gone join ws d (process_w d join ws)
  unfolding process_w
  process_gone zero free s a b spare e = refl
  process_gone (suc d) free s a b spare e = rw (eq-eqb s.at 0 e)

  process_none_at : (free : Bool) (s : Spot) (a b : List ℕ) (spare : ℕ) → (process_w zero join ws free s a b spare).spot.at ≡ 0
  unfolding process_w
  process_none_at free s a b spare = refl

  process_turn :
      (d : ℕ) (free : Bool) (s : Spot) (a b : List ℕ) (spare : ℕ) → 0 < s.at → s.at < length ws →
      process_w (suc d) join ws free s a b spare
      ≡ cond (eqb (kind_of (get_or ws s.at 0)) 19) (fixed_w (process_w d join ws) join ws free s a b spare) (node_w d (process_w d join ws) ws free s a b spare)
  unfolding process_w
  process_turn d free s a b spare n h = simp (ne_eqb s.at 0 (λ e. omega arith), lt-leb (length ws) s.at h)

  process_out : (d : ℕ) (free : Bool) (s : Spot) (a b : List ℕ) (spare : ℕ) → 0 < s.at → length ws ≤ s.at → process_w (suc d) join ws free s a b spare ≡ both lost a b
  unfolding process_w
  process_out d free s a b spare n h = simp (ne_eqb s.at 0 (λ e. omega arith), le-leb (length ws) s.at h)

  abbrev ByKind : ℕ → Bool → Spot → List ℕ → List ℕ → ℕ → Got Node → Both → Type 0
  ByKind d free s a b spare = Rel ws 3 words (λ n. words (rewritten join n)) (captured free) s a b spare

  by_kind :
      (d : ℕ) → Below join ws d (process_w d join ws) → (free : Bool) (s : Spot) (a b : List ℕ) (spare : ℕ) → Ready ws (2 * suc d) s a b spare → s.at < length ws →
      (t : Bool) → eqb (kind_of (get_or ws s.at 0)) 19 ≡ t →
      ByKind d free s a b spare
      (cond t (plan_fixed (plan d) (get_or ws s.at 0) (drop (s.at + 1) ws)) (plan_node (expr d) (plan d) (get_or ws s.at 0) (drop (s.at + 1) ws)))
      (cond t (fixed_w (process_w d join ws) join ws free s a b spare) (node_w d (process_w d join ws) ws free s a b spare))
  by_kind d below free s a b spare r h true t =
      fixed_rel join ws ok d (process_w d join ws) below (process_gone d) free s a b spare r h (eqb-true (kind_of (get_or ws s.at 0)) 19 t)
  by_kind d below free s a b spare r h false t = node_rel join ws ok d (process_w d join ws) below (process_gone d) free s a b spare r h t

  pub process_rel : (d : ℕ) → Below join ws d (process_w d join ws)
  unfolding plan
  process_rel zero free s a b spare r = loses (process_none_at free s a b spare)
  process_rel (suc d) free s a b spare r = inside (ltb s.at (length ws)) refl (process_rel d)
    where
      inside : (t : Bool) → ltb s.at (length ws) ≡ t → Below join ws d (process_w d join ws) → ByKind (suc d) free s a b spare (plan (suc d) (drop s.at ws)) (process_w (suc d) join ws free s a b spare)
      inside true t below =
          let h : s.at < length ws = ltb-true s.at (length ws) t in
          rw (next_word ws s.at h, process_turn d free s a b spare r.some h) (by_kind d below free s a b spare r h (eqb (kind_of (get_or ws s.at 0)) 19) refl)
      inside false t below =
          let h : length ws ≤ s.at = ltb-false s.at (length ws) t in
          rw (drop_of_length-le ws h, process_out d free s a b spare r.some h) (loses refl)
