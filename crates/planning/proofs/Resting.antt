-- Where a plan's stand-in fits as code, so does its translation (`code_fits`): a seq fits where a par of the same two does. How deep a rewriting
-- is (`depth-grows`), and that it is laid out as a plan itself (`rewritten-plan`).
-- Assumes nothing.
use Prim.Native.Nat.{ℕ, zero, suc, ◌+◌, ◌*◌, ◌≤◌, ◌<◌, max}
use native.Mathlib.Omega.{arith}
use mathlib.Core.Path.{◌≡◌, refl, sym, ap, subst, ◌∙◌}
use mathlib.Core.Bool.{Bool, true, false, not, ◌&&◌, cond}
use mathlib.Core.List.{List, [], ◌∷◌}
use lib.Dec.{T, leb, eqb}
use borrow.Author.Tests.{eq-eqb, ne_eqb, eqb-false}
use Rattle.sock.specs.Kind
use Rattle.sock.specs.Kind.{rows, row_of}
use Rattle.sock.specs.Counts.{counts_of, counted, word_count, list_count}
use Rattle.sock.specs.Words.{kind_of, count_of, name_of, scope_key}
use Rattle.sock.specs.Term.{Expr, Node, node, Block, absent, list, Entries, no_entries, entry, Nodes, no_parts, ◌&◌, head_word, processes_of}
use Rattle.sock.specs.Layout.{exprs_depth, depth, block_depth, entries_depth, nodes_depth}
use Rattle.sock.specs.Reading.{code, Place, anywhere, not_nil, guard, root, allowed, placed, branched, is_empty, resting_fits, fields_fit, receives_in, node_fits, entry_fits}
use Rattle.sock.specs.Running.{unmarked}
use Rattle.sock.specs.Variables.{distinct}
use Rattle.sock.proofs.Parts.{part_stratum, part_place}
use Rattle.sock.proofs.Fits.{no_exprs, no_fixed, Fits, fits, FitsBlock, no_list, a_list, FitsEntries, empty_fits, entry_fits_on, FitsParts, no_part, one_part}
use Rattle.sock.proofs.Fields.{scope_kind}
use Rattle.sock.proofs.ByKind.{fits_as, at_place}
use Rattle.planning.specs.Translation.{scope_of, inst_of, under, joined, then_c, installing, rewritten, block_rewritten, entries_rewritten, parts_rewritten}
use Rattle.planning.proofs.Layouts.{no_lists, not_expressed, FitsOwn, FitsPlan, plain_plan, fixed_plan, PlanBlock, no_block, a_block, PlanEntries, empty_plan, entry_plan, PlanParts, no_parted, one_parted}
use Rattle.planning.proofs.Growth.{nil_same}

-- ---- seq where par fits

two_parts : {c : Bool} {n : ℕ} {a b : Node} → FitsParts (code c) 3 n (a & b & no_parts) → Fits (code c) not_nil a × Fits (code c) not_nil b
unfolding part_stratum part_place
two_parts (one_part fa (one_part fb no_part)) = (fa, fb)

-- the sides of a par
sides : {c : Bool} {p : Place} {a b : Node} → Fits (code c) p (joined 6144 a b) → Fits (code c) not_nil a × Fits (code c) not_nil b
sides (fits t fx ex bl pt nf) = two_parts pt

-- and its place
par_place : (p : Place) → T (placed p Kind.par) → T (placed p Kind.seq)
unfolding placed
par_place anywhere t = tt
par_place not_nil t = tt
par_place guard t = t
par_place root t = t

seq_fits : {c : Bool} {a b : Node} (p : Place) → T (placed p Kind.seq) → Fits (code c) not_nil a → Fits (code c) anywhere b → Fits (code c) p (joined 4096 a b)
unfolding allowed branched part_stratum part_place row_of rows node_fits fields_fit receives_in distinct
seq_fits {c = false} p t fa fb = fits_as refl (tt, t, tt, tt) no_fixed no_exprs no_list (one_part fa (one_part fb no_part)) tt
seq_fits {c = true} p t fa fb = fits_as refl (tt, t, tt, tt) no_fixed no_exprs no_list (one_part fa (one_part fb no_part)) tt

the_list : {o : Bool} {n : ℕ} {l : Entries} → FitsBlock o n (list l) → FitsEntries o zero l
the_list (a_list f) = f

inst_list : {c : Bool} {p : Place} {l : Entries} → Fits (code c) p (inst_of l) → FitsEntries false zero l
inst_list (fits t fx ex bl pt nf) = the_list bl

inst_fits : {c : Bool} {l : Entries} (p : Place) → T (placed p Kind.inst) → FitsEntries false zero l → Fits (code c) p (inst_of l)
unfolding allowed branched part_stratum part_place row_of rows node_fits fields_fit receives_in distinct
inst_fits {c = false} p t f = fits_as refl (tt, t, tt, tt) no_fixed no_exprs (a_list f) no_part tt
inst_fits {c = true} p t f = fits_as refl (tt, t, tt, tt) no_fixed no_exprs (a_list f) no_part tt

under_fits : (name : ℕ) {p q : Node} → FitsEntries false zero (under name p) → (Fits (code true) anywhere p → Fits (code true) anywhere q) → FitsEntries false zero (under name q)
unfolding entry_fits
under_fits name (entry_fits_on low high good f empty_fits) g = entry_fits_on low high tt (g f) empty_fits

-- one part for another
one_part_lem : {c : Bool} {k n : ℕ} {a b : Node} → FitsParts (code c) k n (a & no_parts) → ((p : Place) → Fits (code c) p a → Fits (code c) p b) → FitsParts (code c) k n (b & no_parts)
unfolding part_stratum
one_part_lem (one_part {k = k} {n} f no_part) g = one_part (g (part_place k n) f) no_part

-- ---- heads are the same

pub head_same : (one other : ℕ) {n : Node} → FitsPlan n → head_word (rewritten one n) ≡ head_word (rewritten other n)
unfolding rewritten installing
head_same one other (plain_plan {h} plain o bs pss) = rw (ne_eqb (kind_of h) 19 plain) refl
head_same one other (fixed_plan {h} e u ls ft fc fp) = rw (eq-eqb (kind_of h) 19 e) refl

node_same : (c : Bool) (h : ℕ) (f : List ℕ) (b : Block) → node_fits (code c) h f (block_rewritten 6144 b) ≡ node_fits (code c) h f (block_rewritten 4096 b)
unfolding node_fits fields_fit resting_fits is_empty rewritten
node_same c h f absent = refl
node_same c h f (list no_entries) = refl
node_same c h f (list (entry k p es)) = refl

entry_same : (o : Bool) (k : ℕ) {n : Node} → FitsPlan n → entry_fits o k (rewritten 6144 n) ≡ entry_fits o k (rewritten 4096 n)
unfolding entry_fits
entry_same o k f = ap (λ w. not (o && leb 64 k && eqb (kind_of w) 0)) (head_same 6144 4096 f)

-- ---- the translation fits

-- P is left out if it is nil
then_fits :
    (c : Bool) (name : ℕ) {p1 p2 c1 c2 : Node} → eqb (head_word p1) 0 ≡ eqb (head_word p2) 0 → Fits (code c) not_nil (then_c 6144 name p1 c1) →
    (Fits (code c) not_nil p1 → Fits (code c) not_nil p2) → (Fits (code true) anywhere c1 → Fits (code true) anywhere c2) → Fits (code c) anywhere (then_c 4096 name p2 c2)
unfolding then_c placed
then_fits c name {p1} {p2} {c1} {c2} e f g h = by (eqb (head_word p2) 0) (rw e at f)
  where
    by :
        (b : Bool) → Fits (code c) not_nil (cond b (inst_of (under name c1)) (joined 6144 p1 (inst_of (under name c1)))) →
        Fits (code c) anywhere (cond b (inst_of (under name c2)) (joined 4096 p2 (inst_of (under name c2))))
    by true f = inst_fits anywhere tt (under_fits name (inst_list f) h)
    by false f = let (a, b) = sides f in seq_fits anywhere tt (g a) (inst_fits anywhere tt (under_fits name (inst_list b) h))

install_fits :
    (c : Bool) (name : ℕ) {l1 l2 : Entries} {t1 t2 c1 c2 p1 p2 : Node} (p : Place) → eqb (head_word p1) 0 ≡ eqb (head_word p2) 0 →
    Fits (code c) p (installing 6144 name l1 t1 c1 p1) → (FitsEntries false zero l1 → FitsEntries false zero l2) → (Fits (code true) anywhere t1 → Fits (code true) anywhere t2) →
    (Fits (code true) anywhere c1 → Fits (code true) anywhere c2) → (Fits (code c) not_nil p1 → Fits (code c) not_nil p2) → Fits (code c) p (installing 4096 name l2 t2 c2 p2)
unfolding installing placed
install_fits c name {l1} {l2} {t1} {t2} {c1} {c2} {p1} {p2} p e (fits t fx ex bl pt nf) fl ft fc fp = fits t fx ex bl (one_part_lem pt body) nf
  where
    body : (q : Place) → Fits (code c) q (joined 6144 (inst_of l1) (joined 6144 (inst_of (under name t1)) (then_c 6144 name p1 c1))) →
        Fits (code c) q (joined 4096 (inst_of l2) (joined 4096 (inst_of (under name t2)) (then_c 4096 name p2 c2)))
    body q f =
        let (a, b) = sides f in
        let (x, y) = sides b in
        let last = then_fits c name e y fp fc in
        let next = seq_fits anywhere tt (inst_fits not_nil tt (under_fits name (inst_list x) ft)) last in
        seq_fits q (par_place q (at_place f)) (inst_fits not_nil tt (fl (inst_list a))) next

-- a process with another list and other parts
plain_fits :
    (c : Bool) (p : Place) (h : ℕ) (f : List ℕ) (es : List Expr) {b1 b2 : Block} {ps1 ps2 : Nodes} → ((o : Bool) (n : ℕ) → FitsBlock o n b1 → FitsBlock o n b2) →
    ((k n : ℕ) → FitsParts (code c) k n ps1 → FitsParts (code c) k n ps2) → node_fits (code c) h f b1 ≡ node_fits (code c) h f b2 → Fits (code c) p (node h f es b1 ps1) → Fits (code c) p (node h f es b2 ps2)
plain_fits c p h f es gb gp same (fits t fx ex bl pt nf) = fits t fx ex (gb _ _ bl) (gp _ _ pt) (subst T same nf)

mutual
  unfolding rewritten part_stratum

  pub code_fits : {c : Bool} {p : Place} {n : Node} → FitsPlan n → Fits (code c) p (rewritten 6144 n) → Fits (code c) p (rewritten 4096 n)
  code_fits {c} {p} (plain_plan {h} {f} {es} {b} {ps} plain o bs pss) fit =
      rw (ne_eqb (kind_of h) 19 plain) (plain_fits c p h f es (λ o n g. block_fits bs g) (λ k n g. parts_fit pss g) (node_same c h f b) (rw (ne_eqb (kind_of h) 19 plain) at fit))
  code_fits {c} {p} (fixed_plan {h} e u ls ft fc fb) fit =
      rw (eq-eqb (kind_of h) 19 e)
      (install_fits c (name_of h) p (nil_same 6144 fb ∙ sym (nil_same 4096 fb)) (rw (eq-eqb (kind_of h) 19 e) at fit) (λ g. entries_fit ls g) (λ g. code_fits ft g) (λ g. code_fits fc g) (λ g. code_fits fb g))

  block_fits : {x o : Bool} {n : ℕ} {b : Block} → PlanBlock x b → FitsBlock o n (block_rewritten 6144 b) → FitsBlock o n (block_rewritten 4096 b)
  block_fits no_block no_list = no_list
  block_fits (a_block ls) (a_list f) = a_list (entries_fit ls f)

  entries_fit : {keys : ℕ} {o : Bool} {least : ℕ} {l : Entries} → PlanEntries keys l → FitsEntries o least (entries_rewritten 6144 l) → FitsEntries o least (entries_rewritten 4096 l)
  entries_fit empty_plan empty_fits = empty_fits
  entries_fit {o = o} (entry_plan {k = k} h f fs) (entry_fits_on low high good g gs) =
      entry_fits_on low high (subst T (entry_same o k f) good) (code_fits f g) (entries_fit fs gs)

  parts_fit : {c : Bool} {k m n : ℕ} {ps : Nodes} → PlanParts m ps → FitsParts (code c) k n (parts_rewritten 6144 ps) → FitsParts (code c) k n (parts_rewritten 4096 ps)
  parts_fit no_parted no_part = no_part
  parts_fit (one_parted f fs) (one_part g gs) = one_part (code_fits f g) (parts_fit fs gs)

-- ---- depths

joined_depth : (head : ℕ) (p q : Node) → depth (joined head p q) ≡ suc (max (depth p) (depth q))
unfolding depth exprs_depth
joined_depth head p q = omega arith

inst_depth : (l : Entries) → depth (inst_of l) ≡ suc (entries_depth l)
unfolding depth exprs_depth
inst_depth l = omega arith

under_depth : (name : ℕ) (p : Node) → entries_depth (under name p) ≡ depth p
unfolding depth
under_depth name p = omega arith

scope_depth : (name : ℕ) (p : Node) → depth (scope_of name p) ≡ suc (depth p)
unfolding depth exprs_depth
scope_depth name p = omega arith

then_depth : (head name : ℕ) (p c : Node) → depth (then_c head name p c) ≤ 2 + max (depth p) (depth c)
unfolding then_c
then_depth head name p c = by (eqb (head_word p) 0)
  where
    by : (b : Bool) → depth (cond b (inst_of (under name c)) (joined head p (inst_of (under name c)))) ≤ 2 + max (depth p) (depth c)
    by true = omega (arith, inst_depth (under name c), under_depth name c)
    by false = omega (arith, joined_depth head p (inst_of (under name c)), inst_depth (under name c), under_depth name c)

install_depth : (head name : ℕ) (l : Entries) (t c p : Node) → depth (installing head name l t c p) ≤ 5 + max (entries_depth l) (max (depth t) (max (depth c) (depth p)))
unfolding installing
install_depth head name l t c p =
    let second : Node = joined head (inst_of (under name t)) (then_c head name p c) in
    omega (
      arith,
      scope_depth name (joined head (inst_of l) second),
      joined_depth head (inst_of l) second,
      joined_depth head (inst_of (under name t)) (then_c head name p c),
      inst_depth l,
      inst_depth (under name t),
      under_depth name t,
      then_depth head name p c,
    )

-- a fixed scope's depth is one more than the most of its parts
fixed_depth : (h : ℕ) (l : Entries) (t c p : Node) → depth (node h [] [] (list l) (t & c & p & no_parts)) ≡ suc (max (entries_depth l) (max (depth t) (max (depth c) (depth p))))
unfolding depth exprs_depth
fixed_depth h l t c p =
    let last : max (depth p) 0 ≡ depth p = omega arith in
    let all : ℕ = max (entries_depth l) (max (depth t) (max (depth c) (depth p))) in
    let front : max 0 all ≡ all = omega arith in
    ap (λ k. suc (max 0 (max (entries_depth l) (max (depth t) (max (depth c) k))))) last ∙ ap suc front

five : (a b c d : ℕ) → a ≤ 5 * c → b ≤ 5 * d → max a b ≤ 5 * max c d
five a b c d h k = omega arith

five_levels :
    (head h : ℕ) (l : Entries) (t c p : Node) (l1 : Entries) (t1 c1 p1 : Node) → entries_depth l1 ≤ 5 * entries_depth l → depth t1 ≤ 5 * depth t → depth c1 ≤ 5 * depth c → depth p1 ≤ 5 * depth p →
    depth (installing head (name_of h) l1 t1 c1 p1) ≤ 5 * depth (node h [] [] (list l) (t & c & p & no_parts))
five_levels head h l t c p l1 t1 c1 p1 gl gt gc gp =
    let all = five _ _ _ _ gl (five _ _ _ _ gt (five _ _ _ _ gc gp)) in
    deeper _ _ _ _ (install_depth head (name_of h) l1 t1 c1 p1) all (fixed_depth h l t c p)
  where
    deeper : (x y m d : ℕ) → x ≤ 5 + y → y ≤ 5 * m → d ≡ suc m → x ≤ 5 * d
    deeper x y m d a b e = omega arith

mutual
  unfolding rewritten depth

  -- a rewriting has at most five levels for each
  pub depth_grows : (head : ℕ) {n : Node} → FitsPlan n → depth (rewritten head n) ≤ 5 * depth n
  depth_grows head (plain_plan {h} {es = es} plain o bs pss) = rw (ne_eqb (kind_of h) 19 plain) (omega (arith, block_depth_lem head bs, parts_depth head pss))
  depth_grows head (fixed_plan {h} {l} {t} {c} {p} e u ls ft fc fp) =
      rw (eq-eqb (kind_of h) 19 e)
      (five_levels head h l t c p (entries_rewritten head l) (rewritten head t) (rewritten head c) (rewritten head p) (entries_depth_lem head ls) (depth_grows head ft) (depth_grows head fc) (depth_grows head fp))

  block_depth_lem : (head : ℕ) {o : Bool} {b : Block} → PlanBlock o b → block_depth (block_rewritten head b) ≤ 5 * block_depth b
  block_depth_lem head no_block = omega arith
  block_depth_lem head (a_block f) = entries_depth_lem head f

  entries_depth_lem : (head : ℕ) {keys : ℕ} {l : Entries} → PlanEntries keys l → entries_depth (entries_rewritten head l) ≤ 5 * entries_depth l
  entries_depth_lem head empty_plan = omega arith
  entries_depth_lem head (entry_plan h f fs) = omega (arith, depth_grows head f, entries_depth_lem head fs)

  parts_depth : (head : ℕ) {n : ℕ} {ps : Nodes} → PlanParts n ps → nodes_depth (parts_rewritten head ps) ≤ 5 * nodes_depth ps
  parts_depth head no_parted = omega arith
  parts_depth head (one_parted f fs) = omega (arith, depth_grows head f, parts_depth head fs)

-- ---- a rewriting is laid out as a plan

pub data Joins : ℕ → Type 0 where
  by_seq : Joins 4096
  by_par : Joins 6144

joined_plan : {head : ℕ} {p q : Node} → Joins head → FitsPlan p → FitsPlan q → FitsPlan (joined head p q)
unfolding counts_of counted word_count list_count row_of rows processes_of
joined_plan by_seq f g =
    plain_plan (eqb-false 2 19 refl) (record { ahead = []; behind = []; both = refl; few = refl; lists = no_lists; expressed = not_expressed }) no_block (one_parted f (one_parted g no_parted))
joined_plan by_par f g =
    plain_plan (eqb-false 3 19 refl) (record { ahead = []; behind = []; both = refl; few = refl; lists = no_lists; expressed = not_expressed }) no_block (one_parted f (one_parted g no_parted))

inst_plan : {l : Entries} → PlanEntries 128 l → FitsPlan (inst_of l)
unfolding counts_of counted word_count list_count row_of rows processes_of
inst_plan f = plain_plan (eqb-false 12 19 refl) (record { ahead = []; behind = []; both = refl; few = refl; lists = no_lists; expressed = not_expressed }) (a_block f) no_parted

as_kind :
    {h k : ℕ} {f : List ℕ} {es : List Expr} {b : Block} {ps : Nodes} → kind_of h ≡ k → (k ≡ 19 → ⊥) → eqb k 6 ≡ false → FitsOwn k f es →
    PlanBlock (eqb (counts_of k).lists 0) b → PlanParts (row_of k).processes ps → FitsPlan (node h f es b ps)
unfolding processes_of
as_kind {h} {k} {f} {es} {b} {ps} e plain other o bs pss =
    plain_plan (λ z. plain (sym e ∙ z)) (subst (λ j. FitsOwn j f es) (sym e) o) (subst (λ j. PlanBlock (eqb (counts_of j).lists 0) b) (sym e) bs)
    (subst (λ j. PlanParts (cond (eqb j 6) (count_of h * (row_of j).processes) (row_of j).processes) ps) (sym e) (rw other pss))

scope_plan : (name : ℕ) {p : Node} → name < 64 → FitsPlan p → FitsPlan (scope_of name p)
unfolding counts_of counted word_count list_count row_of rows
scope_plan name h f =
    as_kind (scope_kind name unmarked false h) (eqb-false 11 19 refl) refl
    (record { ahead = 0 ∷ []; behind = []; both = refl; few = refl; lists = no_lists; expressed = not_expressed }) (a_block empty_plan) (one_parted f no_parted)

under_plan : (name : ℕ) {p : Node} → name < 64 → FitsPlan p → PlanEntries 128 (under name p)
under_plan name h f = entry_plan {keys = 128} {k = scope_key name} (omega arith) f empty_plan

then_plan : {head : ℕ} (name : ℕ) {p c : Node} → Joins head → name < 64 → FitsPlan p → FitsPlan c → FitsPlan (then_c head name p c)
unfolding then_c
then_plan {head} name {p} {c} j h fp fc = by (eqb (head_word p) 0)
  where
    by : (b : Bool) → FitsPlan (cond b (inst_of (under name c)) (joined head p (inst_of (under name c))))
    by true = inst_plan (under_plan name h fc)
    by false = joined_plan j fp (inst_plan (under_plan name h fc))

install_plan :
    {head : ℕ} (name : ℕ) {l : Entries} {t c p : Node} → Joins head → name < 64 → PlanEntries 128 l → FitsPlan t → FitsPlan c → FitsPlan p → FitsPlan (installing head name l t c p)
unfolding installing
install_plan name j h fl ft fc fp =
    scope_plan name h (joined_plan j (inst_plan fl) (joined_plan j (inst_plan (under_plan name h ft)) (then_plan name j h fp fc)))

mutual
  unfolding rewritten

  pub rewritten_plan : {head : ℕ} {n : Node} → Joins head → FitsPlan n → FitsPlan (rewritten head n)
  rewritten_plan j (plain_plan {h} plain o bs pss) = rw (ne_eqb (kind_of h) 19 plain) (plain_plan plain o (block_planned j bs) (parts_planned j pss))
  rewritten_plan j (fixed_plan {h} e u ls ft fc fp) =
      rw (eq-eqb (kind_of h) 19 e)
      (install_plan (name_of h) j (omega arith) (entries_planned j (omega arith) ls) (rewritten_plan j ft) (rewritten_plan j fc) (rewritten_plan j fp))

  block_planned : {head : ℕ} {o : Bool} {b : Block} → Joins head → PlanBlock o b → PlanBlock o (block_rewritten head b)
  block_planned j no_block = no_block
  block_planned j (a_block f) = a_block (entries_planned j (omega arith) f)

  entries_planned : {head keys : ℕ} {l : Entries} → Joins head → keys ≤ 128 → PlanEntries keys l → PlanEntries 128 (entries_rewritten head l)
  entries_planned j low empty_plan = empty_plan
  entries_planned j low (entry_plan {k = k} h f fs) = entry_plan {keys = 128} {k = k} (omega arith) (rewritten_plan j f) (entries_planned j low fs)

  parts_planned : {head n : ℕ} {ps : Nodes} → Joins head → PlanParts n ps → PlanParts n (parts_rewritten head ps)
  parts_planned j no_parted = no_parted
  parts_planned j (one_parted f fs) = one_parted (rewritten_plan j f) (parts_planned j fs)
