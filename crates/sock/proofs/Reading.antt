-- Reading and laying out undo one another: what is read is the layout of a tree that fits and is not too deep (`found`), and the layout
-- of such a tree is read back (`finds`).
-- Assumes nothing.
use Prim.Native.Nat.{ℕ, zero, suc, ◌+◌, ◌-◌, ◌*◌, ◌%◌, ◌≤◌, ◌<◌}
use native.Mathlib.Omega.{arith}
use mathlib.Core.Path.{◌≡◌, refl, ap, ◌∙◌}
use mathlib.Core.Bool.{Bool, true, false, ◌&&◌}
use mathlib.Core.List.{List, [], ◌∷◌, ◌++◌, append_assoc}
use lib.Dec.{T, eqb, leb, eqb→eq, leb→le, ltb→lt, le→leb, lt→ltb, eqb_refl}
use Rattle.sock.specs.Kind
use Rattle.sock.specs.Kind.{Own, word, variables, row_of}
use Rattle.sock.specs.Words.{is_word, clear, kind_of, key_of, key_word, tag_of, read_variable, value_of, high_word, low_word}
use Rattle.sock.specs.Term.{Operator, sum, difference, less, equal, decimal_sum, decimal_difference, Expr, constant, variable, apply, Node, node, Block, list, Entries, Nodes, processes_of}
use Rattle.sock.specs.Layout.{operator_tag, expr_words, exprs_words, count, words, block_words, entries_words, nodes_words, expr_depth, exprs_depth, depth, block_depth, entries_depth, nodes_depth}
use Rattle.sock.specs.Reading.{Got, fail, got, and_then, check, Stratum, Place, anywhere, head_fits, node_fits, entry_fits, entry_stratum, further, fixed_words, wide, operands, expr_by, expr, exprs, entries, block, process, node_by}
use Rattle.sock.proofs.PartsTable.{parts_same}
use Rattle.sock.proofs.Parts.{part_stratum, part_place, parts, part_by}
use Rattle.sock.proofs.Fits.{FitsExpr, constant_fits, variable_fits, apply_fits, FitsExprs, no_exprs, one_expr, FitsFurther, no_further, one_further, FitsFixed, no_fixed, one_fixed, some_variables, Fits, fits, FitsBlock, no_list, a_list, FitsEntries, empty_fits, entry_fits_on, FitsParts, no_part, one_part}

-- ---- tests

pub split : (a b : Bool) → T (a && b) → T a × T b
split true b t = (tt, t)
split false b t = absurd t

pub both : (a b : Bool) → T a → T b → T (a && b)
both true b s t = t
both false b s t = s

pub eq→eqb : (a b : ℕ) → a ≡ b → T (eqb a b)
eq→eqb a b e = rw e (eqb_refl b)

-- `omega tests` reads and proves tests too
pub ruleset tests = (arith, ltb→lt, leb→le, eqb→eq, lt→ltb, le→leb, eq→eqb)

-- ---- the combinators

-- Q holds of what is read, if anything is
pub data Holds {A : Type 0} (Q : A → List ℕ → Type 0) : Got A → Type 0 where
  nothing : Holds Q fail
  something : {a : A} {rest : List ℕ} → Q a rest → Holds Q (got a rest)

pub holding : {A : Type 0} {Q : A → List ℕ → Type 0} {a : A} {rest : List ℕ} → Holds Q (got a rest) → Q a rest
holding (something q) = q

pub holds_then :
    {A B : Type 0} {Q : A → List ℕ → Type 0} {R : B → List ℕ → Type 0} {g : Got A} {k : A → List ℕ → Got B} →
    Holds Q g →
    ((a : A) (rest : List ℕ) → Q a rest → Holds R (k a rest)) →
    Holds R (and_then g k)
unfolding and_then
holds_then nothing f = nothing
holds_then (something {a} {rest} q) f = f a rest q

pub holds_check : {A : Type 0} {Q : A → List ℕ → Type 0} {g : Got A} (b : Bool) → (T b → Holds Q g) → Holds Q (check b g)
unfolding check
holds_check true f = f tt
holds_check false f = nothing

pub passes : {A : Type 0} {g r : Got A} (b : Bool) → T b → g ≡ r → check b g ≡ r
unfolding check
passes true t e = e
passes false t e = absurd t

-- ---- what is read

-- the words of `a` come first, and `a` is good
abbrev pub Takes : {A : Type 0} → (A → List ℕ) → (A → Type 0) → List ℕ → A → List ℕ → Type 0
Takes laid Good ws a rest = (ws ≡ laid a ++ rest) × Good a

further_found : (n : ℕ) (ws : List ℕ) → Holds (Takes (λ v. v) (FitsFurther n) ws) (further n ws)
unfolding further
further_found zero ws = something (refl, no_further)
further_found (suc n) [] = nothing
further_found (suc n) (w ∷ ws) = holds_check _ λ t. holds_then (further_found n ws) λ v rest q. something (ap (λ l. w ∷ l) q.0, one_further t q.1)

fixed_found : (os : List Own) (ws : List ℕ) → Holds (Takes (λ f. f) (FitsFixed os) ws) (fixed_words os ws)
unfolding fixed_words
fixed_found [] ws = something (refl, no_fixed)
fixed_found (word m ∷ os) [] = nothing
fixed_found (word m ∷ os) (w ∷ ws) = holds_check _ λ t. holds_then (fixed_found os ws) λ f rest q. something (ap (λ l. w ∷ l) q.0, one_fixed t q.1)
fixed_found (variables ∷ os) [] = nothing
fixed_found (variables ∷ os) (c ∷ ws) =
    holds_check _ λ t.
    holds_then (further_found (c - 1) ws) λ v then p.
    holds_then (fixed_found os then) λ f rest q.
    something (simp append_assoc (cc), some_variables t p.1 q.1)

pub wide_found : (ws : List ℕ) → Holds (λ v rest. (ws ≡ high_word v ∷ low_word v ∷ rest) × (v < 4294967296)) (wide ws)
unfolding wide
wide_found [] = nothing
wide_found (high ∷ []) = nothing
wide_found (high ∷ low ∷ ws) =
    holds_check _ λ t.
    let t = split (is_word high) (is_word low) t in
    let p : high ≡ high_word (value_of high low) = omega tests in
    let q : low ≡ low_word (value_of high low) = omega tests in
    something (cc, omega tests)

pub wide_finds : (v : ℕ) → v < 4294967296 → (rest : List ℕ) → wide (high_word v ∷ low_word v ∷ rest) ≡ got v rest
unfolding wide
wide_finds v h rest =
    let p : value_of (high_word v) (low_word v) ≡ v = omega arith in
    passes _ (both (is_word (high_word v)) (is_word (low_word v)) (omega tests) (omega tests)) (cc)

abbrev pub ExprFound : ℕ → List ℕ → Expr → List ℕ → Type 0
ExprFound d = Takes expr_words (λ e. FitsExpr e × (expr_depth e ≤ d))

module _ (d : ℕ) (sub : List ℕ → Got Expr) (below : (ws : List ℕ) → Holds (ExprFound d ws) (sub ws)) where
  operands_found : (o : Operator) (w : ℕ) (ws : List ℕ) → tag_of w ≡ operator_tag o → Holds (ExprFound (suc d) (w ∷ ws)) (operands sub o w ws)
  unfolding operands expr_words expr_depth
  operands_found o w ws e =
      holds_check _ λ t.
      holds_then (below ws) λ a then p.
      holds_then (below then) λ b rest q.
      let c : w % 8192 ≡ 0 = eqb→eq _ _ t in
      let same : w ≡ operator_tag o * 8192 = omega arith in
      something (simp append_assoc (cc), (apply_fits p.1.0 q.1.0, omega arith))

  expr_by_found : (tag w : ℕ) (ws : List ℕ) → tag_of w ≡ tag → Holds (ExprFound (suc d) (w ∷ ws)) (expr_by sub tag w ws)
  unfolding expr_by expr_words expr_depth
  expr_by_found zero w ws e = holds_check _ λ t. holds_then (wide_found ws) λ v rest q. something (cc (eqb→eq w 0 t), (constant_fits q.1, omega arith))
  expr_by_found (suc zero) w ws e =
      holds_check _ λ t.
      let c : w % 256 ≡ 0 = eqb→eq _ _ t in
      let same : w ≡ 8192 + read_variable w * 256 = omega arith in
      something (cc, (variable_fits (omega arith), omega arith))
  expr_by_found (suc (suc zero)) w ws e = operands_found sum w ws e
  expr_by_found (suc (suc (suc zero))) w ws e = operands_found difference w ws e
  expr_by_found (suc (suc (suc (suc zero)))) w ws e = operands_found less w ws e
  expr_by_found (suc (suc (suc (suc (suc zero))))) w ws e = operands_found equal w ws e
  expr_by_found (suc (suc (suc (suc (suc (suc zero)))))) w ws e = operands_found decimal_sum w ws e
  expr_by_found (suc (suc (suc (suc (suc (suc (suc zero))))))) w ws e = operands_found decimal_difference w ws e
  expr_by_found (suc (suc (suc (suc (suc (suc (suc (suc tag)))))))) w ws e = nothing

pub expr_found : (d : ℕ) (ws : List ℕ) → Holds (ExprFound d ws) (expr d ws)
unfolding expr
expr_found zero ws = nothing
expr_found (suc d) [] = nothing
expr_found (suc d) (w ∷ ws) = expr_by_found d (expr d) (expr_found d) (tag_of w) w ws refl

pub exprs_found :
    (d : ℕ) (sub : List ℕ → Got Expr) → ((ws : List ℕ) → Holds (ExprFound d ws) (sub ws)) →
    (n : ℕ) (ws : List ℕ) → Holds (Takes exprs_words (λ es. FitsExprs n es × (exprs_depth es ≤ d)) ws) (exprs sub n ws)
unfolding exprs exprs_words exprs_depth
exprs_found d sub below zero ws = something (refl, (no_exprs, omega arith))
exprs_found d sub below (suc n) ws =
    holds_then (below ws) λ e then p.
    holds_then (exprs_found d sub below n then) λ es rest q.
    something (simp append_assoc (cc), (one_expr p.1.0 q.1.0, omega arith))

-- at the front of the words stands a process that fits and is not too deep
pub record Found (d : ℕ) (s : Stratum) (p : Place) (ws : List ℕ) (n : Node) (rest : List ℕ) : Type 0 where
  pub begins : ws ≡ words n ++ rest
  pub fitting : Fits s p n
  pub shallow : depth n ≤ d

abbrev EntriesFound : ℕ → Bool → ℕ → ℕ → List ℕ → Entries → List ℕ → Type 0
EntriesFound d ofScope n least = Takes entries_words (λ l. FitsEntries ofScope least l × (count l ≡ n) × (entries_depth l ≤ d))

module _
    (d : ℕ) (ofScope : Bool) (sub : List ℕ → Got Node) (below : (ws : List ℕ) → Holds (Found d (entry_stratum ofScope) anywhere ws) (sub ws))
  where
    entries_found : (n least : ℕ) (ws : List ℕ) → Holds (EntriesFound d ofScope n least ws) (entries sub ofScope n least ws)
    unfolding entries count words depth
    entries_found zero least ws = something (refl, (empty_fits, refl, omega arith))
    entries_found (suc n) least [] = nothing
    entries_found (suc n) least (w ∷ ws) =
        holds_check _ λ t.
        holds_then (below ws) λ p then f.
        holds_check _ λ good.
        holds_then (entries_found n _ then) λ es rest q.
        let t = split (is_word w && clear 512 w) (leb least (key_of w)) t in
        let u = split (is_word w) (clear 512 w) t.0 in
        let same : w ≡ key_word (key_of w) = omega tests in
        something {rest = rest} (simp append_assoc (cc), (entry_fits_on (omega tests) (omega tests) good f.fitting q.1.0, omega arith, omega arith))

    block_found : (n : ℕ) (ws : List ℕ) → Holds (Takes block_words (λ b. FitsBlock ofScope n b × (block_depth b ≤ d)) ws) (block sub ofScope n ws)
    unfolding block words depth
    block_found zero ws = something (refl, (no_list, omega arith))
    block_found (suc n) [] = nothing
    block_found (suc n) (c ∷ ws) = holds_then (entries_found c 0 ws) λ l rest q. something (cc, (a_list q.1.0, omega arith))

module _
    (d : ℕ) (s : Stratum) (k : ℕ) (sub : ℕ → List ℕ → Got Node)
    (below : (left : ℕ) (ws : List ℕ) → Holds (Found d (part_stratum s k left) (part_place k left) ws) (sub left ws))
  where
    parts_found : (n : ℕ) (ws : List ℕ) → Holds (Takes nodes_words (λ ps. FitsParts s k n ps × (nodes_depth ps ≤ d)) ws) (parts sub n ws)
    unfolding parts words depth
    parts_found zero ws = something (refl, (no_part, omega arith))
    parts_found (suc n) ws =
        holds_then (below n ws) λ p then f.
        holds_then (parts_found n then) λ ps rest q.
        something (simp append_assoc (cc), (one_part f.fitting q.1.0, omega arith))

pub found : (d : ℕ) (s : Stratum) (p : Place) (ws : List ℕ) → Holds (Found d s p ws) (process d s p ws)
unfolding process node_by part_by words depth
found zero s p ws = nothing
found (suc d) s p [] = nothing
found (suc d) s p (h ∷ ws) =
    let k : ℕ = kind_of h in
    let o : Bool = eqb k Kind.scope in
    holds_check _ λ t.
    holds_then (fixed_found (row_of k).fixed ws) λ f w1 q1.
    holds_then (exprs_found d (expr d) (expr_found d) (row_of k).expressions w1) λ es w2 q2.
    holds_then (block_found d o _ (λ l. found d (entry_stratum o) anywhere l) (row_of k).lists w2) λ b w3 q3.
    rw (parts_same (process d) s h w3)
    (holds_then (parts_found d s k _ (λ left l. found d (part_stratum s k left) (part_place k left) l) (processes_of h) w3) λ ps rest q4.
    holds_check _ λ good.
    something (record { begins = simp append_assoc (cc); fitting = fits t q1.1 q2.1.0 q3.1.0 q4.1.0 good; shallow = omega arith }))

pub read_found : {d : ℕ} {s : Stratum} {p : Place} {ws : List ℕ} {n : Node} {rest : List ℕ} → process d s p ws ≡ got n rest → Found d s p ws n rest
read_found {d} {s} {p} {ws} e = holding (rw e at (found d s p ws))

-- a list is at the front of the words, fits and is not too deep
pub list_found :
    (d : ℕ) (ofScope : Bool) (ws : List ℕ) →
    Holds (Takes block_words (λ b. FitsBlock ofScope 1 b × (block_depth b ≤ d)) ws) (block (process d (entry_stratum ofScope) anywhere) ofScope 1 ws)
list_found d ofScope ws = block_found d ofScope _ (λ l. found d (entry_stratum ofScope) anywhere l) 1 ws

-- ---- what is laid out is read back

further_finds : {n : ℕ} {v : List ℕ} → FitsFurther n v → (rest : List ℕ) → further n (v ++ rest) ≡ got v rest
unfolding further and_then
further_finds no_further rest = refl
further_finds (one_further t h) rest = passes _ t (rw (further_finds h rest))

pub fixed_finds : {os : List Own} {f : List ℕ} → FitsFixed os f → (rest : List ℕ) → fixed_words os (f ++ rest) ≡ got f rest
unfolding fixed_words and_then
fixed_finds no_fixed rest = refl
fixed_finds (one_fixed t h) rest = passes _ t (rw (fixed_finds h rest))
fixed_finds (some_variables {v = v} {f = f} t g h) rest = passes _ t (rw (append_assoc v f rest, further_finds g (f ++ rest), fixed_finds h rest))

-- a reader that finds expressions of depth d
abbrev pub FindsExpr : ℕ → (List ℕ → Got Expr) → Type 0
FindsExpr d sub = (e : Expr) → FitsExpr e → expr_depth e ≤ d → (rest : List ℕ) → sub (expr_words e ++ rest) ≡ got e rest

by_operator : (sub : List ℕ → Got Expr) (o : Operator) (w : ℕ) (ws : List ℕ) → expr_by sub (tag_of (operator_tag o * 8192)) w ws ≡ operands sub o w ws
unfolding expr_by
by_operator sub sum w ws = refl
by_operator sub difference w ws = refl
by_operator sub less w ws = refl
by_operator sub equal w ws = refl
by_operator sub decimal_sum w ws = refl
by_operator sub decimal_difference w ws = refl

module _ (d : ℕ) (sub : List ℕ → Got Expr) (below : FindsExpr d sub) where
  operands_finds :
      {o : Operator} {a b : Expr} → FitsExpr a → FitsExpr b → expr_depth a ≤ d → expr_depth b ≤ d →
      (rest : List ℕ) → operands sub o (operator_tag o * 8192) ((expr_words a ++ expr_words b) ++ rest) ≡ got (apply o a b) rest
  unfolding operands and_then
  operands_finds {o} {a} {b} f g p q rest =
      passes (clear 8192 (operator_tag o * 8192)) (omega tests) (rw (append_assoc, below a f p (expr_words b ++ rest), below b g q rest))

  pub exprs_finds : {n : ℕ} {es : List Expr} → FitsExprs n es → exprs_depth es ≤ d → (rest : List ℕ) → exprs sub n (exprs_words es ++ rest) ≡ got es rest
  unfolding exprs exprs_words exprs_depth and_then
  exprs_finds no_exprs shallow rest = refl
  exprs_finds (one_expr {e} {es} f fs) shallow rest =
      rw (append_assoc, below e f (omega arith) (exprs_words es ++ rest), exprs_finds fs (omega arith) rest)

pub expr_finds : (d : ℕ) → FindsExpr d (expr d)
unfolding expr_depth expr_words expr expr_by and_then check
expr_finds zero (constant v) h shallow rest = absurd (omega arith)
expr_finds zero (variable x) h shallow rest = absurd (omega arith)
expr_finds zero (apply o a b) h shallow rest = absurd (omega arith)
expr_finds (suc d) (constant v) (constant_fits h) shallow rest = rw (wide_finds v h rest)
expr_finds (suc d) (variable x) (variable_fits h) shallow rest =
    let w : ℕ = 8192 + x * 256 in
    let tag : tag_of w ≡ 1 = omega arith in
    let same : read_variable w ≡ x = omega arith in
    rw tag (passes (clear 256 w) (omega tests) (cc))
expr_finds (suc d) (apply o a b) (apply_fits f g) shallow rest =
    by_operator (expr d) o _ _ ∙ operands_finds d (expr d) (expr_finds d) f g (omega arith) (omega arith) rest

-- a reader that finds processes of depth d
abbrev FindsNode : ℕ → Stratum → Place → (List ℕ → Got Node) → Type 0
FindsNode d s p sub = (n : Node) → Fits s p n → depth n ≤ d → (rest : List ℕ) → sub (words n ++ rest) ≡ got n rest

module _ (d : ℕ) (ofScope : Bool) (sub : List ℕ → Got Node) (below : FindsNode d (entry_stratum ofScope) anywhere sub) where
  entries_finds :
      {least : ℕ} {l : Entries} → FitsEntries ofScope least l → entries_depth l ≤ d →
      (rest : List ℕ) → entries sub ofScope (count l) least (entries_words l ++ rest) ≡ got l rest
  unfolding entries count words depth and_then
  entries_finds empty_fits shallow rest = refl
  entries_finds (entry_fits_on {least} {k} {p} {es} low high good f fs) shallow rest =
      let w : ℕ = key_word k in
      let same : key_of w ≡ k = omega arith in
      rw same
      (passes (is_word w && clear 512 w && leb least k) (both (is_word w && clear 512 w) _ (both (is_word w) _ (omega tests) (omega tests)) (omega tests))
      (rw (append_assoc (words p) (entries_words es) rest, below p f (omega arith) (entries_words es ++ rest))
      (passes (entry_fits ofScope k p) good (rw (entries_finds fs (omega arith) rest)))))

  block_finds : {n : ℕ} {b : Block} → FitsBlock ofScope n b → block_depth b ≤ d → (rest : List ℕ) → block sub ofScope n (block_words b ++ rest) ≡ got b rest
  unfolding block words depth and_then
  block_finds no_list shallow rest = refl
  block_finds (a_list f) shallow rest = rw (entries_finds f (omega arith) rest)

module _
    (d : ℕ) (s : Stratum) (k : ℕ) (sub : ℕ → List ℕ → Got Node) (below : (left : ℕ) → FindsNode d (part_stratum s k left) (part_place k left) (sub left))
  where
    parts_finds : {n : ℕ} {ps : Nodes} → FitsParts s k n ps → nodes_depth ps ≤ d → (rest : List ℕ) → parts sub n (nodes_words ps ++ rest) ≡ got ps rest
    unfolding parts words depth and_then
    parts_finds no_part shallow rest = refl
    parts_finds (one_part {n = left} {p} {ps} f fs) shallow rest =
        rw (append_assoc, below left p f (omega arith) (nodes_words ps ++ rest), parts_finds fs (omega arith) rest)

pub in_order : (a b c d e : List ℕ) → (a ++ (b ++ (c ++ d))) ++ e ≡ a ++ (b ++ (c ++ (d ++ e)))
in_order a b c d e = simp append_assoc

node_finds : (d : ℕ) (s : Stratum) (p : Place) → FindsNode d s p (process d s p)
unfolding process node_by part_by words depth and_then
node_finds zero s p (node h f es b ps) fit shallow rest = absurd (omega arith)
node_finds (suc d) s p (node h f es b ps) (fits t fs ess bs pss good) shallow rest =
    let k : ℕ = kind_of h in
    let o : Bool = eqb k Kind.scope in
    let w3 : List ℕ = nodes_words ps ++ rest in
    let w2 : List ℕ = block_words b ++ w3 in
    let w1 : List ℕ = exprs_words es ++ w2 in
    let inExprs = exprs_finds d (expr d) (expr_finds d) ess (omega arith) w2 in
    let inList = block_finds d o (process d (entry_stratum o) anywhere) (node_finds d (entry_stratum o) anywhere) bs (omega arith) w3 in
    let in_parts = parts_finds d s k (part_by (process d) s k) (λ left. node_finds d (part_stratum s k left) (part_place k left)) pss (omega arith) rest in
    passes (head_fits s p h) t
    (rw (in_order f (exprs_words es) (block_words b) (nodes_words ps) rest, fixed_finds fs w1, inExprs, inList, parts_same (process d) s h w3, in_parts) (passes (node_fits s h f b) good refl))

pub finds : (d : ℕ) {s : Stratum} {p : Place} {n : Node} → Fits s p n → depth n ≤ d → (rest : List ℕ) → process d s p (words n ++ rest) ≡ got n rest
finds d {s} {p} {n} f shallow rest = node_finds d s p n f shallow rest

-- a list reads back
pub list_finds :
    (d : ℕ) {ofScope : Bool} {l : Entries} → FitsEntries ofScope zero l → entries_depth l ≤ d →
    (rest : List ℕ) → block (process d (entry_stratum ofScope) anywhere) ofScope 1 (count l ∷ entries_words l ++ rest) ≡ got (list l) rest
unfolding words depth
list_finds d {ofScope} {l} f shallow rest =
    block_finds d ofScope (process d (entry_stratum ofScope) anywhere) (node_finds d (entry_stratum ofScope) anywhere) {n = 1} {b = list l} (a_list f) shallow rest
