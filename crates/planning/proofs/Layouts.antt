-- What it is for a tree to be laid out as a plan: what the layout's reader finds is so (`plan-found`), what is so is read back (`plan-reads`),
-- and every process that fits the format is so (`fits-plan`).
-- Assumes nothing.
use Prim.Native.Nat.{ℕ, zero, suc, ◌-◌, ◌≤◌, ◌<◌}
use native.Mathlib.Omega.{arith}
use mathlib.Core.Path.{◌≡◌, refl, sym, ap, subst, ◌∙◌}
use mathlib.Core.Bool.{Bool, true, false, not, ◌&&◌, cond}
use mathlib.Core.List.{List, [], ◌∷◌, ◌++◌, append_assoc, append-nil}
use lib.Dec.{T, leb, ltb, eqb, leb→le, ltb→lt}
use lib.ListN.{length, get_or}
use borrow.Author.Tests.{eq-eqb, ne_eqb, eqb-true, eqb-false}
use Rattle.sock.specs.Kind.{Own as OwnPart, word, variables, Row, rows, no_row, row_of}
use Rattle.sock.specs.Counts.{counts_of, counted, word_count, list_count}
use Rattle.sock.specs.Words.{clear, kind_of, key_of, key_word}
use Rattle.sock.specs.Term.{Expr, Node, node, Block, absent, list, Entries, no_entries, entry, Nodes, no_parts, ◌&◌, processes_of}
use Rattle.sock.specs.Layout.{expr_words, exprs_words, exprs_depth, count, words, block_words, entries_words, nodes_words, depth, block_depth, entries_depth, nodes_depth}
use Rattle.sock.specs.Reading.{Got, got, and_then, Stratum, running, code, Place, allowed, head_fits, expr}
use Rattle.sock.proofs.Logic.{and_left, and_right}
use Rattle.sock.proofs.Fits.{FitsExpr, FitsExprs, no_exprs, one_expr, FitsFurther, no_further, one_further, FitsFixed, no_fixed, one_fixed, some_variables, Fits, fits, FitsBlock, no_list, a_list, FitsEntries, empty_fits, entry_fits_on, FitsParts, no_part, one_part}
use Rattle.sock.proofs.Reading.{tests, both, split, Holds, nothing, something, holds_then, holds_check, passes, in_order, expr_found, expr_finds}
use Rattle.sock.proofs.ByKind.{head_tests}
use Rattle.planning.specs.Plan.{first, lists, expressed, entries_below, list_below, listed, several, Own, own, plan_node, plan_fixed, plan}

-- ---- own words

-- lists of variables: each has its count and a word for each variable but the first
pub data FitsLists : ℕ → List ℕ → Type 0 where
  no_lists : FitsLists zero []
  one_list : {n : ℕ} (c : ℕ) (v f : List ℕ) → length v ≡ c - 1 → FitsLists n f → FitsLists (suc n) (c ∷ v ++ f)

-- an expression, unless there is to be none
pub data FitsExpressed : Bool → List Expr → Type 0 where
  not_expressed : FitsExpressed true []
  is_expressed : {e : Expr} → FitsExpr e → FitsExpressed false (e ∷ [])

-- the fixed words stand before the lists
pub record FitsOwn (k : ℕ) (f : List ℕ) (es : List Expr) : Type 0 where
  pub ahead : List ℕ
  pub behind : List ℕ
  pub both : f ≡ ahead ++ behind
  pub few : length ahead ≡ (counts_of k).fixed
  pub lists : FitsLists (counts_of k).variables behind
  pub expressed : FitsExpressed (eqb (counts_of k).expressions 0) es

mutual
  pub data FitsPlan : Node → Type 0 where
    plain_plan :
        {h : ℕ} {f : List ℕ} {es : List Expr} {b : Block} {ps : Nodes} → (kind_of h ≡ 19 → ⊥) → FitsOwn (kind_of h) f es →
        PlanBlock (eqb (counts_of (kind_of h)).lists 0) b → PlanParts (processes_of h) ps → FitsPlan (node h f es b ps)
    fixed_plan :
        {h : ℕ} {l : Entries} {t c p : Node} → kind_of h ≡ 19 → T (clear 32 h) → PlanEntries 64 l → FitsPlan t → FitsPlan c → FitsPlan p →
        FitsPlan (node h [] [] (list l) (t & c & p & no_parts))

  pub data PlanBlock : Bool → Block → Type 0 where
    no_block : PlanBlock true absent
    a_block : {l : Entries} → PlanEntries 128 l → PlanBlock false (list l)

  -- the keys are below a bound
  pub data PlanEntries : ℕ → Entries → Type 0 where
    empty_plan : {keys : ℕ} → PlanEntries keys no_entries
    entry_plan : {keys k : ℕ} {p : Node} {es : Entries} → k < keys → FitsPlan p → PlanEntries keys es → PlanEntries keys (entry k p es)

  pub data PlanParts : ℕ → Nodes → Type 0 where
    no_parted : PlanParts zero no_parts
    one_parted : {n : ℕ} {p : Node} {ps : Nodes} → FitsPlan p → PlanParts n ps → PlanParts (suc n) (p & ps)

-- the words of a fixed scope's list and parts, and what is behind
fixed_order : (a b c d rest : List ℕ) → (a ++ (b ++ (c ++ (d ++ [])))) ++ rest ≡ a ++ (b ++ (c ++ (d ++ rest)))
fixed_order a b c d rest = simp (append_assoc, append-nil)

-- ---- what is found

holds_as : {A : Type 0} {Q R : A → List ℕ → Type 0} {g : Got A} → Holds Q g → ((a : A) (rest : List ℕ) → Q a rest → R a rest) → Holds R g
holds_as nothing f = nothing
holds_as (something {a} {rest} q) f = something (f a rest q)

abbrev First : ℕ → List ℕ → List ℕ → List ℕ → Type 0
First n ws f rest = (ws ≡ f ++ rest) × (length f ≡ n)

pub first_found : (n : ℕ) (ws : List ℕ) → Holds (First n ws) (first n ws)
unfolding first
first_found zero ws = something (refl, refl)
first_found (suc n) [] = nothing
first_found (suc n) (w ∷ ws) = holds_then (first_found n ws) λ f rest q. something (ap (λ l. w ∷ l) q.0, ap suc q.1)

lists_found : (n : ℕ) (ws : List ℕ) → Holds (λ f rest. (ws ≡ f ++ rest) × FitsLists n f) (lists n ws)
unfolding lists
lists_found zero ws = something (refl, no_lists)
lists_found (suc n) [] = nothing
lists_found (suc n) (c ∷ ws) =
    holds_then (first_found (c - 1) ws) λ v then p.
    holds_then (lists_found n then) λ f rest q.
    something (simp append_assoc (cc), one_list c v f p.1 q.1)

expressed_found :
    (d : ℕ) (b : Bool) (ws : List ℕ) → Holds (λ es rest. (ws ≡ exprs_words es ++ rest) × FitsExpressed b es × (exprs_depth es ≤ d)) (expressed (expr d) b ws)
unfolding expressed exprs_words exprs_depth
expressed_found d true ws = something (refl, not_expressed, omega arith)
expressed_found d false ws = holds_then (expr_found d ws) λ e rest q. something (simp append-nil q.0, is_expressed q.1.0, omega arith)

record OwnFound (d k : ℕ) (ws : List ℕ) (o : Own) (rest : List ℕ) : Type 0 where
  begins : ws ≡ o.fixed ++ (exprs_words o.expressions ++ rest)
  fitting : FitsOwn k o.fixed o.expressions
  shallow : exprs_depth o.expressions ≤ d

own_found : (d k : ℕ) (ws : List ℕ) → Holds (OwnFound d k ws) (own (expr d) (counts_of k) ws)
unfolding own
own_found d k ws =
    holds_then (first_found (counts_of k).fixed ws) λ f w1 p.
    holds_then (lists_found (counts_of k).variables w1) λ v w2 q.
    holds_then (expressed_found d (eqb (counts_of k).expressions 0) w2) λ es rest r.
    something
    (record {
      begins = simp append_assoc (cc);
      fitting = record { ahead = f; behind = v; both = refl; few = p.1; lists = q.1; expressed = r.1 };
      shallow = r.2;
    })

pub record PlanFound (d : ℕ) (ws : List ℕ) (n : Node) (rest : List ℕ) : Type 0 where
  pub begins : ws ≡ words n ++ rest
  pub fitting : FitsPlan n
  pub shallow : depth n ≤ d

abbrev EntriesFound : ℕ → ℕ → ℕ → List ℕ → Entries → List ℕ → Type 0
EntriesFound d keys n ws l rest = (ws ≡ entries_words l ++ rest) × (PlanEntries keys l) × (count l ≡ n) × (entries_depth l ≤ d)

module _ (d : ℕ) (sub : List ℕ → Got Node) (below : (ws : List ℕ) → Holds (PlanFound d ws) (sub ws)) where
  entries_found : (keys n : ℕ) (ws : List ℕ) → Holds (EntriesFound d keys n ws) (entries_below sub keys n ws)
  unfolding entries_below count words depth
  entries_found keys zero ws = something (refl, empty_plan, refl, omega arith)
  entries_found keys (suc n) [] = nothing
  entries_found keys (suc n) (w ∷ ws) =
      holds_check _ λ t.
      holds_then (below ws) λ p then f.
      holds_then (entries_found keys n then) λ es rest q.
      let t = split (clear 512 w) (ltb (key_of w) keys) t in
      let same : w ≡ key_word (key_of w) = omega tests in
      something {rest = rest} (simp append_assoc (cc f.begins), entry_plan (omega tests) f.fitting q.1, ap suc q.2, omega (arith, f.shallow, q.3))

  list_found : (keys : ℕ) (ws : List ℕ) → Holds (λ l rest. (ws ≡ count l ∷ entries_words l ++ rest) × PlanEntries keys l × (entries_depth l ≤ d)) (list_below sub keys ws)
  unfolding list_below
  list_found keys [] = nothing
  list_found keys (c ∷ ws) = holds_as (entries_found keys c ws) λ l rest q. (cc (q.0, q.2), q.1, q.3)

  block_found : (b : Bool) (ws : List ℕ) → Holds (λ l rest. (ws ≡ block_words l ++ rest) × PlanBlock b l × (block_depth l ≤ d)) (listed sub b ws)
  unfolding listed words depth
  block_found true ws = something (refl, no_block, omega arith)
  block_found false ws = holds_then (list_found 128 ws) λ l rest q. something (q.0, a_block q.1, q.2)

  several_found : (n : ℕ) (ws : List ℕ) → Holds (λ ps rest. (ws ≡ nodes_words ps ++ rest) × PlanParts n ps × (nodes_depth ps ≤ d)) (several sub n ws)
  unfolding several words depth
  several_found zero ws = something (refl, no_parted, omega arith)
  several_found (suc n) ws =
      holds_then (below ws) λ p then f.
      holds_then (several_found n then) λ ps rest q.
      something (simp append_assoc (cc f.begins), one_parted f.fitting q.1, omega (arith, f.shallow, q.2))

  node_found : (h : ℕ) (ws : List ℕ) → (kind_of h ≡ 19 → ⊥) → Holds (PlanFound (suc d) (h ∷ ws)) (plan_node (expr d) sub h ws)
  unfolding plan_node words depth
  node_found h ws plain =
      holds_then (own_found d (kind_of h) ws) λ o w1 p.
      holds_then (block_found (eqb (counts_of (kind_of h)).lists 0) w1) λ b w2 q.
      holds_then (several_found (processes_of h) w2) λ ps rest r.
      something
      (record {
        begins = simp append_assoc (cc p.begins);
        fitting = plain_plan plain p.fitting q.1 r.1;
        shallow = omega (arith, p.shallow, q.2, r.2);
      })

  fixed_found : (h : ℕ) (ws : List ℕ) → kind_of h ≡ 19 → Holds (PlanFound (suc d) (h ∷ ws)) (plan_fixed sub h ws)
  unfolding plan_fixed words depth exprs_words exprs_depth
  fixed_found h ws e =
      holds_check _ λ u.
      holds_then (list_found 64 ws) λ l w1 q.
      holds_then (below w1) λ t w2 x.
      holds_then (below w2) λ c w3 y.
      holds_then (below w3) λ p rest z.
      something
      (record {
        begins =
            ap (λ k. h ∷ k)
            (q.0
            ∙ ap (λ k. count l ∷ entries_words l ++ k) (x.begins ∙ ap (λ k. words t ++ k) (y.begins ∙ ap (λ k. words c ++ k) z.begins))
            ∙ ap (λ k. count l ∷ k) (sym (fixed_order (entries_words l) (words t) (words c) (words p) rest)));
        fitting = fixed_plan e u q.1 x.fitting y.fitting z.fitting;
        shallow = omega (arith, q.2, x.shallow, y.shallow, z.shallow);
      })

  either :
      (h : ℕ) (ws : List ℕ) (b : Bool) → eqb (kind_of h) 19 ≡ b → Holds (PlanFound (suc d) (h ∷ ws)) (cond b (plan_fixed sub h ws) (plan_node (expr d) sub h ws))
  either h ws true e = fixed_found h ws (eqb-true (kind_of h) 19 e)
  either h ws false e = node_found h ws (eqb-false (kind_of h) 19 e)

pub plan_found : (d : ℕ) (ws : List ℕ) → Holds (PlanFound d ws) (plan d ws)
unfolding plan
plan_found zero ws = nothing
plan_found (suc d) [] = nothing
plan_found (suc d) (h ∷ ws) = either d (plan d) (plan_found d) h ws (eqb (kind_of h) 19) refl

-- ---- what is laid out is read back

pub first_reads : (f : List ℕ) (n : ℕ) → length f ≡ n → (rest : List ℕ) → first n (f ++ rest) ≡ got f rest
unfolding first and_then
first_reads [] zero e rest = refl
first_reads [] (suc n) e rest = absurd (omega arith)
first_reads (w ∷ f) zero e rest = absurd (omega arith)
first_reads (w ∷ f) (suc n) e rest = rw (first_reads f n (omega arith) rest)

lists_read : {n : ℕ} {f : List ℕ} → FitsLists n f → (rest : List ℕ) → lists n (f ++ rest) ≡ got f rest
unfolding lists and_then
lists_read no_lists rest = refl
lists_read (one_list c v f e g) rest = rw (append_assoc v f rest, first_reads v (c - 1) e (f ++ rest), lists_read g rest)

expressed_reads : (d : ℕ) {b : Bool} {es : List Expr} → FitsExpressed b es → exprs_depth es ≤ d → (rest : List ℕ) → expressed (expr d) b (exprs_words es ++ rest) ≡ got es rest
unfolding expressed exprs_words exprs_depth and_then
expressed_reads d not_expressed shallow rest = refl
expressed_reads d (is_expressed {e} f) shallow rest = rw (append-nil (expr_words e), expr_finds d e f (omega arith) rest)

own_reads :
    (d k : ℕ) {f : List ℕ} {es : List Expr} → FitsOwn k f es → exprs_depth es ≤ d → (rest : List ℕ) →
    own (expr d) (counts_of k) (f ++ (exprs_words es ++ rest)) ≡ got (record { fixed = f; expressions = es }) rest
unfolding own and_then
own_reads d k {f} {es} o shallow rest =
    let more : List ℕ = exprs_words es ++ rest in
    let apart : f ++ more ≡ o.ahead ++ (o.behind ++ more) = ap (λ l. l ++ more) o.both ∙ append_assoc o.ahead o.behind more in
    rw (apart, first_reads o.ahead (counts_of k).fixed o.few (o.behind ++ more), lists_read o.lists more, expressed_reads d o.expressed shallow rest, o.both) refl

module _ (d : ℕ) (sub : List ℕ → Got Node) (below : (n : Node) → FitsPlan n → depth n ≤ d → (rest : List ℕ) → sub (words n ++ rest) ≡ got n rest) where
  entries_read : {keys : ℕ} {l : Entries} → PlanEntries keys l → entries_depth l ≤ d → (rest : List ℕ) → entries_below sub keys (count l) (entries_words l ++ rest) ≡ got l rest
  unfolding entries_below count words depth and_then
  entries_read empty_plan shallow rest = refl
  entries_read {keys} (entry_plan {k = k} {p} {es} h f fs) shallow rest =
      let w : ℕ = key_word k in
      let same : key_of w ≡ k = omega arith in
      rw same
      (passes (clear 512 w && ltb k keys) (both (clear 512 w) _ (omega tests) (omega tests))
      (rw (append_assoc (words p) (entries_words es) rest, below p f (omega arith) (entries_words es ++ rest), entries_read fs (omega arith) rest)))

  block_reads : {b : Bool} {l : Block} → PlanBlock b l → block_depth l ≤ d → (rest : List ℕ) → listed sub b (block_words l ++ rest) ≡ got l rest
  unfolding listed list_below words depth and_then
  block_reads no_block shallow rest = refl
  block_reads (a_block f) shallow rest = rw (entries_read f shallow rest)

  several_read : {n : ℕ} {ps : Nodes} → PlanParts n ps → nodes_depth ps ≤ d → (rest : List ℕ) → several sub n (nodes_words ps ++ rest) ≡ got ps rest
  unfolding several words depth and_then
  several_read no_parted shallow rest = refl
  several_read (one_parted {p = p} {ps} f fs) shallow rest = rw (append_assoc, below p f (omega arith) (nodes_words ps ++ rest), several_read fs (omega arith) rest)

pub plan_reads : (d : ℕ) (n : Node) → FitsPlan n → depth n ≤ d → (rest : List ℕ) → plan d (words n ++ rest) ≡ got n rest
unfolding plan plan_node plan_fixed list_below words depth exprs_words and_then
plan_reads zero (node h f es b ps) fit shallow rest = absurd (omega arith)
plan_reads (suc d) (node h f es b ps) (plain_plan plain o bs pss) shallow rest =
    let w3 : List ℕ = nodes_words ps ++ rest in
    let w2 : List ℕ = block_words b ++ w3 in
    rw (ne_eqb (kind_of h) 19 plain, in_order f (exprs_words es) (block_words b) (nodes_words ps) rest, own_reads d (kind_of h) o (omega arith) w2, block_reads d (plan d) (plan_reads d) bs (omega arith) w3, several_read d (plan d) (plan_reads d) pss (omega arith) rest) refl
plan_reads (suc d) (node h f es b ps) (fixed_plan {l = l} {t} {c} {p} e u ls ft fc fp) shallow rest =
    let w1 : List ℕ = words t ++ (words c ++ (words p ++ rest)) in
    rw (eq-eqb (kind_of h) 19 e, fixed_order (entries_words l) (words t) (words c) (words p) rest)
    (passes (clear 32 h) u
    (rw (entries_read d (plan d) (plan_reads d) ls (omega arith) w1, plan_reads d t ft (omega arith) (words c ++ (words p ++ rest)), plan_reads d c fc (omega arith) (words p ++ rest), plan_reads d p fp (omega arith) rest) refl))

-- ---- what fits the format

-- in every row of the table fixed words stand before lists of variables, and there is at most one expression
abbrev only_lists : List OwnPart → Bool
only_lists [] = true
only_lists (word m ∷ os) = false
only_lists (variables ∷ os) = only_lists os

abbrev words_first : List OwnPart → Bool
words_first [] = true
words_first (word m ∷ os) = words_first os
words_first (variables ∷ os) = only_lists os

abbrev simple_row : Row → Bool
simple_row r = words_first r.fixed && leb r.expressions 1

abbrev all_simple : List Row → Bool
all_simple [] = true
all_simple (r ∷ rs) = simple_row r && all_simple rs

simple_at : (rs : List Row) → T (all_simple rs) → (k : ℕ) → T (simple_row (get_or rs k no_row))
simple_at [] t k = tt
simple_at (r ∷ rs) t zero = and_left (simple_row r) (all_simple rs) t
simple_at (r ∷ rs) t (suc k) = simple_at rs (and_right (simple_row r) (all_simple rs) t) k

simple_row_lem : (k : ℕ) → T (simple_row (row_of k))
unfolding row_of rows
simple_row_lem k = simple_at rows tt k

further_length : {n : ℕ} {v : List ℕ} → FitsFurther n v → length v ≡ n
further_length no_further = refl
further_length (one_further t h) = ap suc (further_length h)

no_words : (os : List OwnPart) → T (only_lists os) → word_count os ≡ 0
unfolding word_count
no_words [] t = refl
no_words (word m ∷ os) t = absurd t
no_words (variables ∷ os) t = no_words os t

lists_fit : {os : List OwnPart} {f : List ℕ} → T (only_lists os) → FitsFixed os f → FitsLists (list_count os) f
unfolding list_count
lists_fit t no_fixed = no_lists
lists_fit t (one_fixed u h) = absurd t
lists_fit t (some_variables {c = c} {v = v} {f = f} u g h) = one_list c v f (further_length g) (lists_fit t h)

record Split (os : List OwnPart) (f : List ℕ) : Type 0 where
  ahead : List ℕ
  behind : List ℕ
  both : f ≡ ahead ++ behind
  few : length ahead ≡ word_count os
  lists : FitsLists (list_count os) behind

fixed_split : {os : List OwnPart} {f : List ℕ} → T (words_first os) → FitsFixed os f → Split os f
unfolding word_count list_count
fixed_split t no_fixed = record { ahead = []; behind = []; both = refl; few = refl; lists = no_lists }
fixed_split t (one_fixed {w = w} u h) =
    let s = fixed_split t h in
    record { ahead = w ∷ s.ahead; behind = s.behind; both = ap (λ l. w ∷ l) s.both; few = ap suc s.few; lists = s.lists }
fixed_split t (some_variables {c = c} {os} {v} {f} u g h) =
    record { ahead = []; behind = c ∷ v ++ f; both = refl; few = sym (no_words os t); lists = one_list c v f (further_length g) (lists_fit t h) }

exprs_fit : {n : ℕ} {es : List Expr} → T (leb n 1) → FitsExprs n es → FitsExpressed (eqb n 0) es
exprs_fit t no_exprs = not_expressed
exprs_fit t (one_expr f no_exprs) = is_expressed f
exprs_fit t (one_expr f (one_expr {n = n} g h)) = absurd (let z = leb→le (suc (suc n)) 1 t in omega arith)

own_fits : (k : ℕ) {f : List ℕ} {es : List Expr} → FitsFixed (row_of k).fixed f → FitsExprs (row_of k).expressions es → FitsOwn k f es
unfolding counts_of counted
own_fits k fx ex =
    let simple = split (words_first (row_of k).fixed) (leb (row_of k).expressions 1) (simple_row_lem k) in
    let s = fixed_split simple.0 fx in
    record { ahead = s.ahead; behind = s.behind; both = s.both; few = s.few; lists = s.lists; expressed = exprs_fit simple.1 ex }

-- no kind above 18 fits
pub not_fixed : (s : Stratum) (p : Place) (h : ℕ) → T (head_fits s p h) → kind_of h ≡ 19 → ⊥
unfolding allowed
not_fixed s p h t e = by s (head_tests s p h t).0
  where
    by : (s : Stratum) → T (allowed s (kind_of h)) → ⊥
    by (running n issued) u = omega (arith, leb→le (kind_of h) 18 (and_left (leb (kind_of h) 18) (not (eqb (kind_of h) 15)) u))
    by (code true) u = omega (arith, leb→le (kind_of h) 15 u)
    by (code false) u = omega (arith, ltb→lt (kind_of h) 15 u)

mutual
  unfolding counts_of counted

  pub fits_plan : {s : Stratum} {p : Place} {n : Node} → Fits s p n → FitsPlan n
  fits_plan (fits {s} {p} {h} t fx ex bl pt nf) = plain_plan (not_fixed s p h t) (own_fits (kind_of h) fx ex) (block_plan bl) (parts_plan pt)

  block_plan : {o : Bool} {n : ℕ} {b : Block} → FitsBlock o n b → PlanBlock (eqb n 0) b
  block_plan no_list = no_block
  block_plan (a_list {n = n} {l = l} f) = subst (λ b. PlanBlock b (list l)) (sym (ne_eqb (suc n) 0 (λ e. omega arith))) (a_block (entries_plan f))

  entries_plan : {o : Bool} {least : ℕ} {l : Entries} → FitsEntries o least l → PlanEntries 128 l
  entries_plan empty_fits = empty_plan
  entries_plan (entry_fits_on low high good f fs) = entry_plan high (fits_plan f) (entries_plan fs)

  parts_plan : {s : Stratum} {k n : ℕ} {ps : Nodes} → FitsParts s k n ps → PlanParts n ps
  parts_plan no_part = no_parted
  parts_plan (one_part f fs) = one_parted (fits_plan f) (parts_plan fs)
