-- Code without cH stays what it is where cH is replaced; so one entry of it updates a list by being put there, or dropped.
-- Assumes nothing.
use Prim.Native.Nat.{ℕ, suc, ◌+◌, ◌≤◌, ◌<◌, max}
use native.Mathlib.Omega.{arith}
use mathlib.Core.Path.{◌≡◌, refl, ap, subst, subst₂, ◌∙◌}
use mathlib.Core.Bool.{Bool, true, false, not, ◌&&◌}
use mathlib.Core.List.{List, ◌++◌}
use borrow.Author.Tests.{le-leb, ne_eqb, eqb-true}
use lib.Dec.{T, eqb, leb, ltb, ltb→lt}
use lib.ListN.{length, length-append}
use Rattle.sock.specs.Kind.{row_of, rows}
use Rattle.sock.specs.Words.{kind_of}
use Rattle.sock.specs.Term.{Expr, Node, node, Block, Entries, no_entries, entry, Nodes, is_nil, nil_node, part_at, processes_of}
use Rattle.sock.specs.Layout.{words, entries_words, depth, entries_depth}
use Rattle.sock.specs.Reading.{Stratum, code, Place, anywhere, not_nil, allowed, placed, head_fits}
use Rattle.sock.specs.Handlers.{handler, without, put, rebuilt, replaced, all_replaced, installed, update}
use Rattle.sock.proofs.Parts.{part_stratum, part_place}
use Rattle.sock.proofs.Logic.{cond-case}
use Rattle.sock.proofs.Fits.{Fits, fits, FitsParts, no_part, one_part}
use Rattle.sock.proofs.Nodes.{head_tests, nil_fits}

-- ---- no part is nil where it may not be

not_true : (b : Bool) → T (not b) → b ≡ false
not_true true t = absurd t
not_true false t = refl

lives : {s : Stratum} {m : Node} → Fits s not_nil m → is_nil m ≡ false
unfolding placed
lives (fits {h = h} t f e b ps g) = not_true (eqb (kind_of h) 0) (head_tests t).places

seq_first : {s : Stratum} {ps : Nodes} → FitsParts s 2 2 ps → is_nil (part_at ps 0) ≡ false
unfolding part_place
seq_first (one_part x (one_part y no_part)) = lives x

par_both : {s : Stratum} {ps : Nodes} → FitsParts s 3 2 ps → (is_nil (part_at ps 0) ≡ false) × (is_nil (part_at ps 1) ≡ false)
unfolding part_place
par_both (one_part x (one_part y no_part)) = (lives x, lives y)

module _ (h : ℕ) (f : List ℕ) (es : List Expr) (b : Block) {ps : Nodes} {s : Stratum} (g : FitsParts s (kind_of h) (processes_of h) ps) where
  two_seq : kind_of h ≡ 2 → processes_of h ≡ 2
  unfolding processes_of row_of rows
  two_seq e = rw e

  two_par : kind_of h ≡ 3 → processes_of h ≡ 2
  unfolding processes_of row_of rows
  two_par e = rw e

  rebuilt_same : rebuilt h f es b ps ≡ node h f es b ps
  unfolding rebuilt
  rebuilt_same = by (eqb (kind_of h) 2) (eqb (kind_of h) 3) refl refl
    where
      by : (x y : Bool) → eqb (kind_of h) 2 ≡ x → eqb (kind_of h) 3 ≡ y → rebuilt h f es b ps ≡ node h f es b ps
      by true y u v =
          let k : kind_of h ≡ 2 = eqb-true (kind_of h) 2 u in
          let l = seq_first (subst₂ (λ i n. FitsParts s i n ps) k (two_seq k) g) in
          rw (k, l)
      by false true u v =
          let k : kind_of h ≡ 3 = eqb-true (kind_of h) 3 v in
          let l = par_both (subst₂ (λ i n. FitsParts s i n ps) k (two_par k) g) in
          rw (k, l.0, l.1)
      by false false u v = rw (u, v)

not_cH : (p : Place) (h : ℕ) → T (head_fits (code false) p h) → eqb (kind_of h) 15 ≡ false
unfolding allowed
not_cH p h t = let x : kind_of h < 15 = ltb→lt (kind_of h) 15 (head_tests t).allows in ne_eqb (kind_of h) 15 (λ e. omega arith)

module _ (o : Node) where
  mutual
    unfolding replaced part_stratum

    same : {s : Stratum} {p : Place} {m : Node} → Fits s p m → s ≡ code false → replaced o m ≡ m
    same {p = p} (fits {h = h} {f = f} {es = es} {b = b} {ps = ps} t x e y xs w) q =
        rw (not_cH p h (subst (λ s. T (head_fits s p h)) q t), all_same xs q) (rebuilt_same h f es b xs)

    all_same : {s : Stratum} {k n : ℕ} {ps : Nodes} → FitsParts s k n ps → s ≡ code false → all_replaced o ps ≡ ps
    all_same no_part q = refl
    all_same (one_part {k = k} {n = n} x xs) q = rw (same x (ap (λ s. part_stratum s k n) q), all_same xs q)

  replaced_same : {p : Place} {m : Node} → Fits (code false) p m → replaced o m ≡ m
  replaced_same f = same f refl

-- ---- one entry

put_shallow : (k : ℕ) (p : Node) (h : Entries) → entries_depth (put k p h) ≤ max (depth p) (entries_depth h)
unfolding put depth
put_shallow k p no_entries = omega arith
put_shallow k p (entry j q es) =
    cond-case (λ (x : Entries). entries_depth x ≤ max (depth p) (max (depth q) (entries_depth es))) (ltb k j) (λ t. omega arith)
    (λ t. cond-case (λ (x : Entries). entries_depth x ≤ max (depth p) (max (depth q) (entries_depth es))) (eqb k j) (λ u. omega arith)
    (λ u. let r = put_shallow k p es in omega arith))

put_short : (k : ℕ) (p : Node) (h : Entries) → length (entries_words (put k p h)) ≤ 1 + length (words p) + length (entries_words h)
unfolding put words
put_short k p no_entries = omega (arith, length-append (words p) (entries_words no_entries))
put_short k p (entry j q es) =
    let a = length-append (words q) (entries_words es) in
    let b = length-append (words p) (entries_words (entry j q es)) in
    let c = length-append (words p) (entries_words es) in
    cond-case (λ (x : Entries). length (entries_words x) ≤ 1 + length (words p) + suc (length (words q ++ entries_words es))) (ltb k j)
    (λ t. omega arith)
    (λ t. cond-case (λ (x : Entries). length (entries_words x) ≤ 1 + length (words p) + suc (length (words q ++ entries_words es))) (eqb k j)
    (λ u. omega arith)
    (λ u. let r = put_short k p es in let d = length-append (words q) (entries_words (put k p es)) in omega arith))

pub without_shallow : (k : ℕ) (h : Entries) → entries_depth (without k h) ≤ entries_depth h
unfolding without depth
without_shallow k no_entries = omega arith
without_shallow k (entry j p es) =
    cond-case (λ (x : Entries). entries_depth x ≤ max (depth p) (entries_depth es)) (eqb k j) (λ t. omega arith)
    (λ t. let r = without_shallow k es in omega arith)

pub without_short : (k : ℕ) (h : Entries) → length (entries_words (without k h)) ≤ length (entries_words h)
unfolding without words
without_short k no_entries = omega arith
without_short k (entry j p es) =
    let a = length-append (words p) (entries_words es) in
    cond-case (λ (x : Entries). length (entries_words x) ≤ suc (length (words p ++ entries_words es))) (eqb k j) (λ t. omega arith)
    (λ t. let r = without_short k es in let b = length-append (words p) (entries_words (without k es)) in omega arith)

module _ (k : ℕ) {p : Node} (f : Fits (code false) anywhere p) (h : Entries) where
  update_one : update h (entry k p no_entries) ≡ installed k p h
  unfolding update
  update_one = ap (λ m. installed k m h) (replaced_same (handler k h) f)

  pub one_shallow : entries_depth (update h (entry k p no_entries)) ≤ max (depth p) (entries_depth h)
  unfolding installed
  one_shallow =
      rw update_one
      (cond-case (λ (x : Entries). entries_depth x ≤ max (depth p) (entries_depth h)) (leb 64 k && is_nil p)
      (λ t. let r = without_shallow k h in omega arith) (λ t. put_shallow k p h))

  pub one_short : length (entries_words (update h (entry k p no_entries))) ≤ 1 + length (words p) + length (entries_words h)
  unfolding installed
  one_short =
      rw update_one
      (cond-case (λ (x : Entries). length (entries_words x) ≤ 1 + length (words p) + length (entries_words h)) (leb 64 k && is_nil p)
      (λ t. let r = without_short k h in omega arith) (λ t. put_short k p h))

-- nil under a scope's key is dropped
pub update_nil : (k : ℕ) (h : Entries) → 64 ≤ k → update h (entry k nil_node no_entries) ≡ without k h
unfolding installed
update_nil k h b = update_one k (nil_fits false) h ∙ rw (le-leb 64 k b)
