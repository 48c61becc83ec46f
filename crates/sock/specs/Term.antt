-- Processes as trees: one generic node, so that reading, writing, size and depth have one clause for all nineteen kinds.
use Rattle.std.specs.Prelude.{ℕ, zero, suc, ◌*◌, Bool, cond, List, [], ◌∷◌, eqb}
use Rattle.sock.specs.Kind
use Rattle.sock.specs.Kind.{row_of}
use Rattle.sock.specs.Words.{kind_of, count_of, head_of}

pub data Operator : Type 0 where
  sum difference less equal decimal_sum decimal_difference : Operator

pub data Expr : Type 0 where
  constant : ℕ → Expr
  variable : ℕ → Expr
  apply : Operator → Expr → Expr → Expr

infixr 60 ◌&◌
mutual
  -- head, fixed words, expressions, list, processes
  pub data Node : Type 0 where
    node : ℕ → List ℕ → List Expr → Block → Nodes → Node

  -- a node says itself whether it has a list
  pub data Block : Type 0 where
    absent : Block
    list : Entries → Block

  -- a list: key and process of each entry
  pub data Entries : Type 0 where
    no_entries : Entries
    entry : ℕ → Node → Entries → Entries

  pub data Nodes : Type 0 where
    no_parts : Nodes
    ◌&◌ : Node → Nodes → Nodes

abbrev pub head_word : Node → ℕ
head_word (node h f es b ps) = h

abbrev pub kind : Node → ℕ
kind n = kind_of (head_word n)

abbrev pub is_nil : Node → Bool
is_nil n = eqb (kind n) Kind.nil

-- how many processes follow: the table's count, per branch for a choice
unfoldable pub processes_of : ℕ → ℕ
processes_of h = cond (eqb (kind_of h) Kind.choice) (count_of h * (row_of (kind_of h)).processes) (row_of (kind_of h)).processes

abbrev pub nil_node : Node
nil_node = node (head_of Kind.nil 0) [] [] absent no_parts

-- the parts of a node, counted from 0; nil and an empty list where there is none
abbrev pub part_at : Nodes → ℕ → Node
part_at no_parts i = nil_node
part_at (p & ps) zero = p
part_at (p & ps) (suc i) = part_at ps i

abbrev pub first_expr : List Expr → Expr
first_expr [] = constant 0
first_expr (e ∷ es) = e

abbrev pub entries_of : Block → Entries
entries_of absent = no_entries
entries_of (list l) = l
