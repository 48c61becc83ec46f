-- How long a process is at most once its cH are replaced.
-- Assumes nothing.
use Prim.Native.Nat.{ℕ, zero, suc, ◌+◌, ◌*◌, ◌≤◌}
use native.Mathlib.Omega.{arith}
use native.Mathlib.Nat.{le_trans, add-le-add, add-mul, suc-mul, le-mul_of_pos_right}
use mathlib.Core.Path.{◌≡◌}
use mathlib.Core.Bool.{◌&&◌, ◌||◌}
use mathlib.Core.List.{List, ◌++◌}
use lib.Dec.{eqb}
use lib.ListN.{length, length-append}
use Rattle.sock.specs.Kind
use Rattle.sock.specs.Words.{kind_of}
use Rattle.sock.specs.Term.{Expr, Node, node, Block, Nodes, no_parts, ◌&◌, is_nil, part_at}
use Rattle.sock.specs.Layout.{exprs_words, words, block_words, nodes_words}
use Rattle.sock.specs.Handlers.{rebuilt, replaced, all_replaced}
use Rattle.sock.proofs.Logic.{cond-case}

-- ---- products

grows : (a n s x : ℕ) → x ≤ n * suc s → a + x ≤ (a + n) * suc s
grows a n s x h =
    let p : (a + n) * suc s ≡ a * suc s + n * suc s = add-mul a n (suc s) in
    let q : a ≤ a * suc s = le-mul_of_pos_right a (omega arith) in
    rw p (add-le-add q h)

covers : (t s : ℕ) → s ≤ suc t * suc s
covers t s = rw (suc-mul t (suc s)) (sum (t * suc s))
  where
    sum : (u : ℕ) → s ≤ u + suc s
    sum u = omega arith

-- ---- nodes

node_length :
    (h : ℕ) (f : List ℕ) (es : List Expr) (b : Block) (ps : Nodes) →
    length (words (node h f es b ps)) ≡ suc (length f + length (exprs_words es) + length (block_words b)) + length (nodes_words ps)
unfolding words
node_length h f es b ps =
    let k = length-append f (exprs_words es ++ (block_words b ++ nodes_words ps)) in
    let l = length-append (exprs_words es) (block_words b ++ nodes_words ps) in
    let n = length-append (block_words b) (nodes_words ps) in
    omega arith

part_length : (ps : Nodes) (i : ℕ) → length (words (part_at ps i)) ≤ suc (length (nodes_words ps))
unfolding words exprs_words
part_length no_parts i = omega arith
part_length (p & ps) zero = let l = length-append (words p) (nodes_words ps) in omega arith
part_length (p & ps) (suc i) = let l = length-append (words p) (nodes_words ps) in let q = part_length ps i in omega arith

rebuilt_length :
    (h : ℕ) (f : List ℕ) (es : List Expr) (b : Block) (ps : Nodes) →
    length (words (rebuilt h f es b ps)) ≤ length (words (node h f es b ps))
unfolding rebuilt
rebuilt_length h f es b ps =
    let n = node_length h f es b ps in
    cond-case (λ (m : Node). length (words m) ≤ length (words (node h f es b ps)))
    ((eqb (kind_of h) Kind.seq || eqb (kind_of h) Kind.par) && is_nil (part_at ps 0))
    (λ t. let q = part_length ps 1 in omega arith)
    (λ t. cond-case (λ (m : Node). length (words m) ≤ length (words (node h f es b ps))) (eqb (kind_of h) Kind.par && is_nil (part_at ps 1))
    (λ u. let q = part_length ps 0 in omega arith)
    (λ u. omega arith))

-- ---- each word at most once more the words of the old process

module _ (o : Node) where
  built :
      (h : ℕ) (f : List ℕ) (es : List Expr) (b : Block) (ps new : Nodes) →
      length (nodes_words new) ≤ length (nodes_words ps) * suc (length (words o)) →
      length (words (rebuilt h f es b new)) ≤ length (words (node h f es b ps)) * suc (length (words o))
  built h f es b ps new small =
      rw (node_length h f es b ps)
      (le_trans (rw (node_length h f es b new) at (rebuilt_length h f es b new))
      (grows (suc (length f + length (exprs_words es) + length (block_words b))) (length (nodes_words ps)) (length (words o))
      (length (nodes_words new)) small))

  both :
      (a b c d : List ℕ) →
      length a ≤ length b * suc (length (words o)) →
      length c ≤ length d * suc (length (words o)) →
      length (a ++ c) ≤ length (b ++ d) * suc (length (words o))
  both a b c d x y =
      rw (length-append a c, length-append b d, add-mul (length b) (length d) (suc (length (words o)))) (add-le-add x y)

  mutual
    unfolding replaced words

    small : (m : Node) → length (words (replaced o m)) ≤ length (words m) * suc (length (words o))
    small (node h f es b ps) =
        cond-case (λ (m : Node). length (words m) ≤ length (words (node h f es b ps)) * suc (length (words o))) (eqb (kind_of h) Kind.cH)
        (λ t. covers (length (f ++ (exprs_words es ++ (block_words b ++ nodes_words ps)))) (length (words o)))
        (λ t. built h f es b ps (all_replaced o ps) (all_small ps))

    all_small : (ps : Nodes) → length (nodes_words (all_replaced o ps)) ≤ length (nodes_words ps) * suc (length (words o))
    all_small no_parts = omega arith
    all_small (p & ps) = both (words (replaced o p)) (words p) (nodes_words (all_replaced o ps)) (nodes_words ps) (small p) (all_small ps)

pub replaced_small : (o m : Node) → length (words (replaced o m)) ≤ length (words m) * suc (length (words o))
replaced_small o m = small o m
