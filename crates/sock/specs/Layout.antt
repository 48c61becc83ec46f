-- How trees are laid out as words, and how deep they are (document 01, "Words").
use Rattle.std.specs.Prelude.{ℕ, zero, suc, ◌+◌, ◌*◌, max, List, [], ◌∷◌, ◌++◌}
use Rattle.sock.specs.Words.{key_word, high_word, low_word}
use Rattle.sock.specs.Term.{Operator, sum, difference, less, equal, decimal_sum, decimal_difference, Expr, constant, variable, apply, Node, node, Block, absent, list, Entries, no_entries, entry, Nodes, no_parts, ◌&◌}

-- Expressions are prefix: 0 constant (two words follow), 1 variable, 2 sum, 3 difference, 4 less, 5 equal
abbrev pub operator_tag : Operator → ℕ
operator_tag sum = 2
operator_tag difference = 3
operator_tag less = 4
operator_tag equal = 5
operator_tag decimal_sum = 6
operator_tag decimal_difference = 7

unfoldable pub expr_words : Expr → List ℕ
expr_words (constant v) = 0 ∷ high_word v ∷ low_word v ∷ []
expr_words (variable x) = (8192 + x * 256) ∷ []
expr_words (apply o a b) = (operator_tag o * 8192) ∷ expr_words a ++ expr_words b

unfoldable pub exprs_words : List Expr → List ℕ
exprs_words [] = []
exprs_words (e ∷ es) = expr_words e ++ exprs_words es

-- A list: a count word, then entries of a key word and a process
unfoldable pub count : Entries → ℕ
count no_entries = zero
count (entry k p es) = suc (count es)

-- A process: head, fixed words, expressions, list, processes
unfoldable mutual
  pub words : Node → List ℕ
  words (node h f es b ps) = h ∷ f ++ (exprs_words es ++ (block_words b ++ nodes_words ps))

  pub block_words : Block → List ℕ
  block_words absent = []
  block_words (list l) = count l ∷ entries_words l

  pub entries_words : Entries → List ℕ
  entries_words no_entries = []
  entries_words (entry k p es) = key_word k ∷ words p ++ entries_words es

  pub nodes_words : Nodes → List ℕ
  nodes_words no_parts = []
  nodes_words (p & ps) = words p ++ nodes_words ps

-- Depth: a root has 1; each process or expression directly in another one more
unfoldable pub expr_depth : Expr → ℕ
expr_depth (constant v) = 1
expr_depth (variable x) = 1
expr_depth (apply o a b) = suc (max (expr_depth a) (expr_depth b))

unfoldable pub exprs_depth : List Expr → ℕ
exprs_depth [] = 0
exprs_depth (e ∷ es) = max (expr_depth e) (exprs_depth es)

unfoldable mutual
  pub depth : Node → ℕ
  depth (node h f es b ps) = suc (max (exprs_depth es) (max (block_depth b) (nodes_depth ps)))

  pub block_depth : Block → ℕ
  block_depth absent = 0
  block_depth (list l) = entries_depth l

  pub entries_depth : Entries → ℕ
  entries_depth no_entries = 0
  entries_depth (entry k p es) = max (depth p) (entries_depth es)

  pub nodes_depth : Nodes → ℕ
  nodes_depth no_parts = 0
  nodes_depth (p & ps) = max (depth p) (nodes_depth ps)
