-- How many words a translation adds (document 02, e): 12 for each fixed scope, 10 where its P is nil.
use Rattle.std.specs.Prelude.{ℕ, ◌+◌, cond, List, [], ◌∷◌, eqb}
use Rattle.sock.specs.Words.{kind_of}
use Rattle.sock.specs.Term.{Node, node, Block, absent, list, Entries, no_entries, entry, Nodes, no_parts, ◌&◌, head_word, part_at}
use Rattle.planning.specs.Plan.{fixed_scope, Planned}

unfoldable mutual
  pub added : Node → ℕ
  added (node h f es b ps) = cond (eqb (kind_of h) fixed_scope) (cond (eqb (head_word (part_at ps 2)) 0) 10 12) 0 + (block_added b + parts_added ps)

  pub block_added : Block → ℕ
  block_added absent = 0
  block_added (list l) = entries_added l

  pub entries_added : Entries → ℕ
  entries_added no_entries = 0
  entries_added (entry k p es) = added p + entries_added es

  pub parts_added : Nodes → ℕ
  parts_added no_parts = 0
  parts_added (p & ps) = added p + parts_added ps

unfoldable pub engines_added : List Planned → ℕ
engines_added [] = 0
engines_added (e ∷ es) = added e.process + engines_added es
