-- A scope's list of handlers, document 01's H: looking up, installing with cH replaced, dropping.
use Rattle.std.specs.Prelude.{ℕ, ◌&&◌, ◌||◌, cond, List, leb, ltb, eqb}
use Rattle.sock.specs.Kind
use Rattle.sock.specs.Words.{kind_of}
use Rattle.sock.specs.Term.{Expr, Node, node, Block, Entries, no_entries, entry, Nodes, no_parts, ◌&◌, is_nil, nil_node, part_at}

-- An absent scope name means nil; an absent fault is looked for by `holds` first
unfoldable pub handler : ℕ → Entries → Node
handler k no_entries = nil_node
handler k (entry j p es) = cond (eqb k j) p (handler k es)

unfoldable pub without : ℕ → Entries → Entries
without k no_entries = no_entries
without k (entry j p es) = cond (eqb k j) es (entry j p (without k es))

-- the process under its key, in place of the one there
unfoldable pub put : ℕ → Node → Entries → Entries
put k p no_entries = entry k p no_entries
put k p (entry j q es) = cond (ltb k j) (entry k p (entry j q es)) (cond (eqb k j) (entry k p es) (entry j q (put k p es)))

-- A rebuilt term drops nil before seq and beside par, nothing else
unfoldable pub rebuilt : ℕ → List ℕ → List Expr → Block → Nodes → Node
rebuilt h f es b ps =
    cond ((eqb (kind_of h) Kind.seq || eqb (kind_of h) Kind.par) && is_nil (part_at ps 0)) (part_at ps 1)
    (cond (eqb (kind_of h) Kind.par && is_nil (part_at ps 1)) (part_at ps 0) (node h f es b ps))

-- cH becomes the old process, except inside nested lists, whose cH is their own
unfoldable mutual
  pub replaced : Node → Node → Node
  replaced old (node h f es b ps) = cond (eqb (kind_of h) Kind.cH) old (rebuilt h f es b (all_replaced old ps))

  pub all_replaced : Node → Nodes → Nodes
  all_replaced old no_parts = no_parts
  all_replaced old (p & ps) = replaced old p & all_replaced old ps

-- Scope keys with nil are dropped
unfoldable pub installed : ℕ → Node → Entries → Entries
installed k p h = cond (leb 64 k && is_nil p) (without k h) (put k p h)

-- Updating H by a list: each key's entry is replaced, and cH in the new process becomes the old entry (nil if absent)
unfoldable pub update : Entries → Entries → Entries
update h no_entries = h
update h (entry k p l) = update (installed k (replaced (handler k h) p) h) l
