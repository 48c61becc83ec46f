-- A translation has 12 words more for each fixed scope, 10 where its P is nil (`translation-grows`; document 02, e).
-- Assumes nothing.
use Prim.Native.Nat.{ℕ, zero, suc, ◌+◌, ◌*◌, ◌≤◌}
use native.Mathlib.Omega.{arith}
use mathlib.Core.Path.{◌≡◌, refl, sym, ap, subst, ◌∙◌}
use mathlib.Core.Bool.{Bool, true, false, cond}
use mathlib.Core.Option.{some}
use mathlib.Core.List.{List, [], ◌∷◌, ◌++◌, append_assoc, append-nil}
use lib.Dec.{eqb, leb, leb→le}
use lib.ListN.{length, length-append}
use borrow.Author.Tests.{eq-eqb, ne_eqb, eqb-true}
use Rattle.sock.specs.Kind.{rows, row_of}
use Rattle.sock.specs.Counts.{counts_of, counted, word_count, list_count}
use Rattle.sock.specs.Words.{kind_of, name_of, head_of}
use Rattle.sock.specs.Term.{Expr, Node, node, Block, absent, list, Entries, Nodes, no_parts, ◌&◌, nil_node, head_word, processes_of}
use Rattle.sock.specs.Layout.{exprs_words, words, block_words, entries_words, nodes_words, depth}
use Rattle.sock.specs.Reading.{Got}
use Rattle.sock.specs.Configuration.{Limits}
use Rattle.sock.proofs.Logic.{All, all_none, all_some, all_guarded, all_some_lem}
use Rattle.sock.proofs.Reading.{Holds, nothing, something, holds_then}
use Rattle.planning.specs.Plan.{Planned, Plan, planned_words, plan_words, plan_engines, whole_plan, read_plan}
use Rattle.planning.specs.Translation.{scope_of, inst_of, under, joined, then_c, installing, rewritten, block_rewritten, entries_rewritten, parts_rewritten, engines_rewritten, plan_rewritten, translated}
use Rattle.planning.specs.Growth.{added, block_added, entries_added, parts_added, engines_added}
use Rattle.planning.proofs.Layouts.{FitsLists, no_lists, FitsExpressed, not_expressed, FitsOwn, FitsPlan, plain_plan, fixed_plan, PlanBlock, no_block, a_block, PlanEntries, empty_plan, entry_plan, PlanParts, no_parted, one_parted, first_found, plan_found}

-- ---- nil

-- head word 0 is nil, which has no other word
pub nil_alone : {n : Node} → FitsPlan n → head_word n ≡ 0 → n ≡ nil_node
unfolding counts_of counted word_count row_of rows list_count processes_of
nil_alone (fixed_plan e u ls ft fc fp) z = absurd (omega arith)
nil_alone (plain_plan {h} {f} {es} {b} {ps} plain o bs pss) z = alone (subst (λ k. FitsOwn (kind_of k) f es) z o) (subst (λ k. PlanBlock (eqb (counts_of (kind_of k)).lists 0) b) z bs) (subst (λ k. PlanParts (processes_of k) ps) z pss)
  where
    bare : (a : List ℕ) {b : List ℕ} → length a ≡ 0 → FitsLists 0 b → a ++ b ≡ []
    bare [] e no_lists = refl
    bare (w ∷ a) e no_lists = absurd (omega arith)

    no_expression : {es : List Expr} → FitsExpressed true es → es ≡ []
    no_expression not_expressed = refl

    no_list : {b : Block} → PlanBlock true b → b ≡ absent
    no_list no_block = refl

    no_parts_lem : {ps : Nodes} → PlanParts 0 ps → ps ≡ no_parts
    no_parts_lem no_parted = refl

    alone : FitsOwn 0 f es → PlanBlock true b → PlanParts 0 ps → node h f es b ps ≡ nil_node
    alone o bs pss = λ i. node (z i) ((o.both ∙ bare o.ahead o.few o.lists) i) (no_expression o.expressed i) (no_list bs i) (no_parts_lem pss i)

-- a process is nil where its rewriting is
pub nil_same : (head : ℕ) {n : Node} → FitsPlan n → eqb (head_word (rewritten head n)) 0 ≡ eqb (head_word n) 0
unfolding rewritten installing
nil_same head (plain_plan {h} plain o bs pss) = rw (ne_eqb (kind_of h) 19 plain) refl
nil_same head (fixed_plan {h} e u ls ft fc fp) = rw (eq-eqb (kind_of h) 19 e, ne_eqb h 0 (λ z. omega arith), ne_eqb (head_of 11 (name_of h * 32 + 0 * 8 + 0 * 4)) 0 (λ z. omega arith)) refl

-- ---- words

inst_length : (l : Entries) → length (words (inst_of l)) ≡ 2 + length (entries_words l)
unfolding words exprs_words
inst_length l = omega (arith, length-append (entries_words l) [])

under_length : (name : ℕ) (p : Node) → length (entries_words (under name p)) ≡ 1 + length (words p)
unfolding words
under_length name p = omega (arith, length-append (words p) [])

joined_length : (head : ℕ) (p q : Node) → length (words (joined head p q)) ≡ 1 + length (words p) + length (words q)
unfolding words exprs_words
joined_length head p q = omega (arith, length-append (words p) (words q ++ []), length-append (words q) [])

scope_length : (name : ℕ) (p : Node) → length (words (scope_of name p)) ≡ 3 + length (words p)
unfolding words exprs_words
scope_length name p = omega (arith, length-append (words p) [])

nil_then : (head name : ℕ) (p c : Node) → eqb (head_word p) 0 ≡ true → length (words (then_c head name p c)) ≡ 3 + length (words c)
unfolding then_c
nil_then head name p c e = rw e (omega (arith, inst_length (under name c), under_length name c))

some_then : (head name : ℕ) (p c : Node) → eqb (head_word p) 0 ≡ false → length (words (then_c head name p c)) ≡ 4 + length (words c) + length (words p)
unfolding then_c
some_then head name p c e = rw e (omega (arith, joined_length head p (inst_of (under name c)), inst_length (under name c), under_length name c))

-- what a fixed scope becomes, by the words of its parts
installed :
    (head name : ℕ) (l : Entries) (t c p : Node) (b : Bool) → eqb (head_word p) 0 ≡ b →
    length (words (installing head name l t c p)) ≡ cond b (13 + length (entries_words l) + length (words t) + length (words c)) (14 + length (entries_words l) + length (words t) + length (words c) + length (words p))
unfolding installing
installed head name l t c p true e =
    let first : Node = inst_of (under name t) in
    let rest : Node = then_c head name p c in
    omega (
      arith,
      scope_length name (joined head (inst_of l) (joined head first rest)),
      joined_length head (inst_of l) (joined head first rest),
      joined_length head first rest,
      inst_length l,
      inst_length (under name t),
      under_length name t,
      nil_then head name p c e,
    )
installed head name l t c p false e =
    let first : Node = inst_of (under name t) in
    let rest : Node = then_c head name p c in
    omega (
      arith,
      scope_length name (joined head (inst_of l) (joined head first rest)),
      joined_length head (inst_of l) (joined head first rest),
      joined_length head first rest,
      inst_length l,
      inst_length (under name t),
      under_length name t,
      some_then head name p c e,
    )

fixed_length :
    (h : ℕ) (l : Entries) (t c p : Node) →
    length (words (node h [] [] (list l) (t & c & p & no_parts))) ≡ 2 + length (entries_words l) + length (words t) + length (words c) + length (words p)
unfolding words exprs_words
fixed_length h l t c p =
    omega
    (arith, length-append (entries_words l) (words t ++ (words c ++ (words p ++ []))), length-append (words t) (words c ++ (words p ++ [])), length-append (words c) (words p ++ []), length-append (words p) [])

nil_length : {p : Node} → p ≡ nil_node → (length (words p) ≡ 1) × (added p ≡ 0)
unfolding words exprs_words added
nil_length e = rw e (refl, refl)

fixed_grows :
    (head name h : ℕ) (l l1 : Entries) (t t1 c c1 p p1 : Node) (al at ac ap : ℕ) (b : Bool) → eqb (head_word p1) 0 ≡ b → (b ≡ true → (length (words p) ≡ 1) × (ap ≡ 0)) →
    length (entries_words l1) ≡ length (entries_words l) + al → length (words t1) ≡ length (words t) + at → length (words c1) ≡ length (words c) + ac →
    length (words p1) ≡ length (words p) + ap →
    length (words (installing head name l1 t1 c1 p1)) ≡ length (words (node h [] [] (list l) (t & c & p & no_parts))) + (cond b 10 12 + (al + (at + (ac + (ap + 0)))))
fixed_grows head name h l l1 t t1 c c1 p p1 al at ac ap true e z gl gt gc gp =
    let (one, nothing-more) = z refl in
    omega (arith, installed head name l1 t1 c1 p1 true e, fixed_length h l t c p)
fixed_grows head name h l l1 t t1 c c1 p p1 al at ac ap false e z gl gt gc gp = omega (arith, installed head name l1 t1 c1 p1 false e, fixed_length h l t c p)

mutual
  unfolding rewritten words added

  pub grows : (head : ℕ) {n : Node} → FitsPlan n → length (words (rewritten head n)) ≡ length (words n) + added n
  grows head (plain_plan {h} {f} {es} {b} {ps} plain o bs pss) =
      simp (ne_eqb (kind_of h) 19 plain, length-append) (omega (arith, block_grows head bs, parts_grow head pss))
  grows head (fixed_plan {h} {l} {t} {c} {p} e u ls ft fc fp) =
      rw (eq-eqb (kind_of h) 19 e)
      (fixed_grows head (name_of h) h l (entries_rewritten head l) t (rewritten head t) c (rewritten head c) p (rewritten head p) (entries_added l) (added t) (added c) (added p)
      (eqb (head_word p) 0) (nil_same head fp) (λ z. nil_length (nil_alone fp (eqb-true (head_word p) 0 z)))
      (entries_grow head ls) (grows head ft) (grows head fc) (grows head fp))

  block_grows : (head : ℕ) {o : Bool} {b : Block} → PlanBlock o b → length (block_words (block_rewritten head b)) ≡ length (block_words b) + block_added b
  block_grows head no_block = refl
  block_grows head (a_block f) = omega (arith, entries_grow head f)

  entries_grow : (head : ℕ) {keys : ℕ} {l : Entries} → PlanEntries keys l → length (entries_words (entries_rewritten head l)) ≡ length (entries_words l) + entries_added l
  entries_grow head empty_plan = refl
  entries_grow head (entry_plan h f fs) = simp length-append (omega (arith, grows head f, entries_grow head fs))

  parts_grow : (head : ℕ) {n : ℕ} {ps : Nodes} → PlanParts n ps → length (nodes_words (parts_rewritten head ps)) ≡ length (nodes_words ps) + parts_added ps
  parts_grow head no_parted = refl
  parts_grow head (one_parted f fs) = simp length-append (omega (arith, grows head f, parts_grow head fs))

twelve :
    (b : Bool) (x l t c p al at ac ap : ℕ) → al ≤ 3 * l → at + 3 ≤ 3 * t → ac + 3 ≤ 3 * c → ap + 3 ≤ 3 * p → x ≡ 2 + l + t + c + p →
    cond b 10 12 + (al + (at + (ac + (ap + 0)))) + 3 ≤ 3 * x
twelve true x l t c p al at ac ap u v w y e = omega arith
twelve false x l t c p al at ac ap u v w y e = omega arith

mutual
  unfolding words exprs_words added

  -- three words for each are room enough for what is added
  pub few_added : {n : Node} → FitsPlan n → added n + 3 ≤ 3 * length (words n)
  few_added (plain_plan {h} {f} {es} {b} {ps} plain o bs pss) =
      rw (ne_eqb (kind_of h) 19 plain)
      (omega (
        arith,
        few_block bs,
        few_parts pss,
        length-append f (exprs_words es ++ (block_words b ++ nodes_words ps)),
        length-append (exprs_words es) (block_words b ++ nodes_words ps),
        length-append (block_words b) (nodes_words ps),
      ))
  few_added (fixed_plan {h} {l} {t} {c} {p} e u ls ft fc fp) =
      rw (eq-eqb (kind_of h) 19 e) (twelve (eqb (head_word p) 0) (length (words (node h [] [] (list l) (t & c & p & no_parts)))) (length (entries_words l)) (length (words t)) (length (words c)) (length (words p)) (entries_added l) (added t) (added c) (added p) (few_entries ls) (few_added ft) (few_added fc) (few_added fp) (fixed_length h l t c p))

  few_block : {o : Bool} {b : Block} → PlanBlock o b → block_added b ≤ 3 * length (block_words b)
  few_block no_block = omega arith
  few_block (a_block f) = omega (arith, few_entries f)

  few_entries : {keys : ℕ} {l : Entries} → PlanEntries keys l → entries_added l ≤ 3 * length (entries_words l)
  few_entries empty_plan = omega arith
  few_entries (entry_plan {p = p} {es} h f fs) = omega (arith, few_added f, few_entries fs, length-append (words p) (entries_words es))

  few_parts : {n : ℕ} {ps : Nodes} → PlanParts n ps → parts_added ps ≤ 3 * length (nodes_words ps)
  few_parts no_parted = omega arith
  few_parts (one_parted {p = p} {ps} f fs) = omega (arith, few_added f, few_parts fs, length-append (words p) (nodes_words ps))

-- ---- engines, and the whole plan

-- the processes of a plan's engines are laid out as plans, with their values and no deeper than the depth given
pub data PlansFit (d : ℕ) : List Planned → Type 0 where
  no_plans : PlansFit d []
  one_plan : {e : Planned} {es : List Planned} → length e.values ≡ 64 → FitsPlan e.process → depth e.process ≤ d → PlansFit d es → PlansFit d (e ∷ es)

engines_found :
    (d n : ℕ) (ws : List ℕ) → Holds (λ es rest. (ws ≡ planned_words es ++ rest) × PlansFit d es × (length es ≡ n)) (plan_engines d n ws)
unfolding plan_engines planned_words
engines_found d zero ws = something (refl, no_plans, refl)
engines_found d (suc n) ws =
    holds_then (first_found 64 ws) λ vs next p.
    holds_then (plan_found d next) λ m then q.
    holds_then (engines_found d n then) λ es rest r.
    something (simp append_assoc (cc q.begins), one_plan p.1 q.fitting q.shallow r.1, ap suc r.2)

pub record ReadPlan (limits : Limits) (ws : List ℕ) (p : Plan) : Type 0 where
  pub words : plan_words p ≡ ws
  pub engines : PlansFit limits.deepest p.engines
  pub short : length ws ≤ limits.longest

whole_plan_lem :
    (limits : Limits) (n issued : ℕ) (ws : List ℕ) → length (n ∷ issued ∷ ws) ≤ limits.longest → {g : Got (List Planned)} →
    Holds (λ es rest. (ws ≡ planned_words es ++ rest) × PlansFit limits.deepest es × (length es ≡ n)) g → All (ReadPlan limits (n ∷ issued ∷ ws)) (whole_plan issued g)
unfolding whole_plan plan_words
whole_plan_lem limits n issued ws short nothing = all_none
whole_plan_lem limits n issued ws short (something {a = es} {rest = []} q) =
    let same : planned_words es ≡ ws = sym (q.0 ∙ append-nil (planned_words es)) in
    all_some {a = record { issued = issued; engines = es }} (record { words = rw (q.2, same) refl; engines = q.1; short = short })
whole_plan_lem limits n issued ws short (something {a = es} {rest = w ∷ rest} q) = all_none

plan_reads_all : (limits : Limits) (ws : List ℕ) → All (ReadPlan limits ws) (read_plan limits ws)
unfolding read_plan
plan_reads_all limits [] = all_none
plan_reads_all limits (n ∷ []) = all_none
plan_reads_all limits (n ∷ issued ∷ ws) =
    all_guarded (leb (length (n ∷ issued ∷ ws)) limits.longest) λ t.
    whole_plan_lem limits n issued ws (leb→le _ _ t) (engines_found limits.deepest n ws)

-- what the words of a plan are
pub read_plan_lem : (limits : Limits) (ws : List ℕ) {p : Plan} → read_plan limits ws ≡ some p → ReadPlan limits ws p
read_plan_lem limits ws e = all_some_lem (plan_reads_all limits ws) e

engines_grow : (head d : ℕ) {es : List Planned} → PlansFit d es → length (planned_words (engines_rewritten head es)) ≡ length (planned_words es) + engines_added es
unfolding planned_words engines_rewritten engines_added
engines_grow head d no_plans = refl
engines_grow head d (one_plan v f s fs) = simp length-append (omega (arith, grows head f, engines_grow head d fs))

few_engines : (d : ℕ) {es : List Planned} → PlansFit d es → engines_added es ≤ 3 * length (planned_words es)
unfolding planned_words engines_added
few_engines d no_plans = omega arith
few_engines d (one_plan {e} {es} v f s fs) =
    omega (arith, few_added f, few_engines d fs, length-append e.values (words e.process ++ planned_words es), length-append (words e.process) (planned_words es))

pub plan_grows : (head : ℕ) (limits : Limits) (ws : List ℕ) (p : Plan) → read_plan limits ws ≡ some p → length (plan_words (plan_rewritten head p)) ≡ length ws + engines_added p.engines
unfolding plan_words plan_rewritten
plan_grows head limits ws p e =
    let r = read_plan_lem limits ws e in
    omega (arith, ap length r.words, engines_grow head limits.deepest r.engines)

-- at most four words for each
pub plan_few : (head : ℕ) (limits : Limits) (ws : List ℕ) (p : Plan) → read_plan limits ws ≡ some p → length (plan_words (plan_rewritten head p)) ≤ 4 * length ws
unfolding plan_words
plan_few head limits ws p e =
    let r = read_plan_lem limits ws e in
    omega (arith, plan_grows head limits ws p e, few_engines limits.deepest r.engines, ap length r.words)

-- Each fixed scope adds 12 words, 10 if its P is nil
pub translation_grows : (limits : Limits) (ws : List ℕ) (p : Plan) → read_plan limits ws ≡ some p → length (plan_words (translated p)) ≡ length ws + engines_added p.engines
translation_grows limits ws p e = plan_grows 4096 limits ws p e
