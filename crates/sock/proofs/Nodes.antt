-- Nodes that fit: from one place or stratum to another, and their parts.
-- Assumes nothing.
use Prim.Native.Nat.{ℕ, zero, suc, ◌≤◌, ◌<◌}
use native.Mathlib.Omega.{arith}
use native.Mathlib.Nat.{le_trans}
use mathlib.Core.Path.{◌≡◌, refl, subst, ap}
use mathlib.Core.Bool.{Bool, true, false, not, ◌||◌, cond}
use mathlib.Core.List.{List, [], ◌++◌}
use lib.Dec.{T, eqb, leb, ltb, lit<, ltb→lt, leb→le, le→leb}
use lib.ListN.{length}
use Rattle.sock.specs.Kind
use Rattle.sock.specs.Kind.{Own, row_of, rows}
use Rattle.sock.specs.Words.{is_word, clear, kind_of}
use Rattle.sock.specs.Variables.{distinct}
use Rattle.sock.specs.Term.{Expr, Node, node, Block, Entries, Nodes, nil_node, part_at, first_expr, entries_of, processes_of}
use Rattle.sock.specs.Layout.{depth}
use Rattle.sock.specs.Reading.{Stratum, code, Place, anywhere, allowed, placed, branched, head_fits, fields_fit, receives_in, node_fits, fixed_at}
use Rattle.sock.proofs.Parts.{part_stratum}
use Rattle.sock.proofs.Logic.{and_left, and_right, and_both}
use Rattle.sock.proofs.Fields.{four, four_pass}
use Rattle.sock.proofs.Fits.{FitsExpr, constant_fits, FitsExprs, no_exprs, one_expr, FitsFurther, no_further, one_further, FitsFixed, no_fixed, one_fixed, some_variables, Fits, fits, FitsBlock, no_list, a_list, FitsEntries, empty_fits, entry_fits_on, FitsParts, no_part, one_part}

-- ---- a head's four tests

pub record Head (s : Stratum) (p : Place) (h : ℕ) : Type 0 where
  pub allows : T (allowed s (kind_of h))
  pub places : T (placed p (kind_of h))
  pub clears : T (clear (row_of (kind_of h)).spare h)
  pub branches : T (branched h)

pub head_tests : {s : Stratum} {p : Place} {h : ℕ} → T (head_fits s p h) → Head s p h
unfolding head_fits
head_tests {s} {p} {h} t =
    let q = four (allowed s (kind_of h)) (placed p (kind_of h)) (clear (row_of (kind_of h)).spare h) (branched h) t in
    record { allows = q.0; places = q.1; clears = q.2; branches = q.3 }

pub head_fits_lem : {s : Stratum} {p : Place} {h : ℕ} → Head s p h → T (head_fits s p h)
unfolding head_fits
head_fits_lem {s} {p} {h} q =
    four_pass (allowed s (kind_of h)) (placed p (kind_of h)) (clear (row_of (kind_of h)).spare h) (branched h) (q.allows, q.places, q.clears, q.branches)

-- a head that fits in one stratum and place fits in another that allows it
pub head_moves :
    {s : Stratum} {p : Place} (s' : Stratum) (p' : Place) (h : ℕ) →
    Head s p h →
    T (allowed s' (kind_of h)) →
    T (placed p' (kind_of h)) →
    T (head_fits s' p' h)
head_moves s' p' h q a b = head_fits_lem {s = s'} {p = p'} {h = h} (record { allows = a; places = b; clears = q.clears; branches = q.branches })

pub loosen : {s : Stratum} {p : Place} {m : Node} → Fits s p m → Fits s anywhere m
unfolding placed
loosen {s} {p} (fits {h = h} t f e b ps g) =
    let q : Head s p h = head_tests t in
    fits (head_moves s anywhere h q q.allows tt) f e b ps g

-- ---- a node's two tests: the variables it receives in, and its fields

module _ (s : Stratum) (h : ℕ) (f : List ℕ) (b : Block) where
  pub distinct_test : T (node_fits s h f b) → T (distinct (receives_in h f))
  unfolding node_fits
  distinct_test t = and_left (distinct (receives_in h f)) (fields_fit s h f b) t

  pub fields_test : T (node_fits s h f b) → T (fields_fit s h f b)
  unfolding node_fits
  fields_test t = and_right (distinct (receives_in h f)) (fields_fit s h f b) t

  pub node_fits_lem : T (distinct (receives_in h f)) → T (fields_fit s h f b) → T (node_fits s h f b)
  unfolding node_fits
  node_fits_lem d t = and_both (distinct (receives_in h f)) (fields_fit s h f b) d t

-- the kinds that receive
abbrev pub receives : ℕ → Bool
receives k = eqb k Kind.one_way || eqb k Kind.request || eqb k Kind.solicit || eqb k Kind.waiter

-- no other has a list x
pub receives_none : (h k : ℕ) (f : List ℕ) → kind_of h ≡ k → T (not (receives k)) → T (distinct (receives_in h f))
unfolding receives_in distinct
receives_none h k f e t = rw e (by (eqb k 7) (eqb k 8) (eqb k 10) (eqb k 17) _ _ _ _ t)
  where
    by : (a b c d : Bool) (x y z w : List ℕ) → T (not (a || b || c || d)) → T (distinct (cond a x (cond b y (cond c z (cond d w [])))))
    by false false false false x y z w t = tt
    by false false false true x y z w t = absurd t
    by false false true d x y z w t = absurd t
    by false true c d x y z w t = absurd t
    by true b c d x y z w t = absurd t

-- ---- nil, and parts with nil for none

pub nil_fits : (c : Bool) → Fits (code c) anywhere nil_node
unfolding head_fits allowed placed branched row_of rows processes_of node_fits distinct receives_in fields_fit
nil_fits true = fits tt no_fixed no_exprs no_list no_part tt
nil_fits false = fits tt no_fixed no_exprs no_list no_part tt

pub part_fits : {c : Bool} {k n : ℕ} {ps : Nodes} → FitsParts (code c) k n ps → (i : ℕ) → Fits (code c) anywhere (part_at ps i)
unfolding part_stratum
part_fits {c} no_part i = nil_fits c
part_fits (one_part g gs) zero = loosen g
part_fits (one_part g gs) (suc i) = part_fits gs i

pub expr_fits : {n : ℕ} {es : List Expr} → FitsExprs n es → FitsExpr (first_expr es)
expr_fits no_exprs = constant_fits (lit< tt)
expr_fits (one_expr g gs) = g

pub entries_fit : {o : Bool} {n : ℕ} {b : Block} → FitsBlock o n b → FitsEntries o zero (entries_of b)
entries_fit no_list = empty_fits
entries_fit (a_list g) = g

-- own words are words, 0 where there is none
further_word : {n : ℕ} {v : List ℕ} (f : List ℕ) → FitsFurther n v → ((i : ℕ) → fixed_at f i < 65536) → (i : ℕ) → fixed_at (v ++ f) i < 65536
further_word f no_further g i = g i
further_word f (one_further {w = w} t v) g zero = ltb→lt w 65536 (and_left (is_word w) (clear 2048 w) t)
further_word f (one_further t v) g (suc i) = further_word f v g i

pub fixed_word : {os : List Own} {f : List ℕ} → FitsFixed os f → (i : ℕ) → fixed_at f i < 65536
fixed_word no_fixed i = lit< tt
fixed_word (one_fixed {m = m} {w = w} t g) zero = ltb→lt w 65536 (and_left (is_word w) (clear m w) t)
fixed_word (one_fixed t g) (suc i) = fixed_word g i
fixed_word (some_variables {c = c} t v g) zero = let h : c ≤ 4 = leb→le c 4 (and_right (ltb 0 c) (leb c 4) t) in omega arith
fixed_word (some_variables {f = f} t v g) (suc i) = further_word f v (λ i. fixed_word g i) i

-- ---- what holds no cH fits where cH may stand

allowed_more : (k : ℕ) → T (allowed (code false) k) → T (allowed (code true) k)
unfolding allowed
allowed_more k t = le→leb k 15 (let h : k < 15 = ltb→lt k 15 t in omega arith)

head_more : (p : Place) (h : ℕ) → T (head_fits (code false) p h) → T (head_fits (code true) p h)
head_more p h t =
    let q : Head (code false) p h = head_tests t in
    head_moves (code true) p h q (allowed_more (kind_of h) q.allows) q.places

-- code's own tests say nothing of cH
pub code_fields : (c c' : Bool) (h : ℕ) (f : List ℕ) (b : Block) → T (node_fits (code c) h f b) → T (node_fits (code c') h f b)
unfolding fields_fit
code_fields c c' h f b t = node_fits_lem (code c') h f b (distinct_test (code c) h f b t) (fields_test (code c) h f b t)

mutual
  unfolding part_stratum

  more : {s : Stratum} {p : Place} {m : Node} → Fits s p m → s ≡ code false → Fits (code true) p m
  more {p = p} (fits {h = h} {f = f} {b = b} t x e y ps g) q =
      fits (head_more p h (subst (λ s. T (head_fits s p h)) q t)) x e y (parts_more ps q) (code_fields false true h f b (subst (λ s. T (node_fits s h f b)) q g))

  parts_more : {s : Stratum} {k n : ℕ} {ps : Nodes} → FitsParts s k n ps → s ≡ code false → FitsParts (code true) k n ps
  parts_more no_part q = no_part
  parts_more (one_part {k = k} {n = n} g gs) q = one_part (more g (ap (λ s. part_stratum s k n) q)) (parts_more gs q)

pub code_more : {p : Place} {m : Node} → Fits (code false) p m → Fits (code true) p m
code_more g = more g refl

-- ---- lists

-- keys may rise from lower on
pub entries_lower : {o : Bool} {least : ℕ} {l : Entries} (lower : ℕ) → lower ≤ least → FitsEntries o least l → FitsEntries o lower l
entries_lower lower h empty_fits = empty_fits
entries_lower lower h (entry_fits_on a b c d e) = entry_fits_on (le_trans h a) b c d e

-- ---- sizes

pub further_length : {n : ℕ} {v : List ℕ} → FitsFurther n v → length v ≡ n
further_length no_further = refl
further_length (one_further t h) = ap suc (further_length h)

pub depth_some : (m : Node) → 0 < depth m
unfolding depth
depth_some (node h f es b ps) = omega arith
