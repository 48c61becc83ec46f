-- What a fixed scope becomes, when a plan is readable, and where cH is free in a fixed scope's own handlers (document 02, e).
use Rattle.std.specs.Prelude.{ℕ, Bool, true, false, not, ◌&&◌, ◌||◌, cond, List, [], ◌∷◌, eqb}
use Rattle.sock.specs.Kind
use Rattle.sock.specs.Words.{kind_of, name_of, head_of, scope_key}
use Rattle.sock.specs.Term.{Node, node, Block, absent, list, Entries, no_entries, entry, Nodes, no_parts, ◌&◌, head_word, part_at, entries_of}
use Rattle.sock.specs.Running.{unmarked, scope_head}
use Rattle.planning.specs.Plan.{fixed_scope, Planned, Plan}

-- ---- scope name { inst(fault list) ; ( inst(name: T) ; ( P ; inst(name: C) ) ) }

abbrev pub scope_of : ℕ → Node → Node
scope_of name p = node (scope_head name unmarked false) (0 ∷ []) [] (list no_entries) (p & no_parts)

abbrev pub inst_of : Entries → Node
inst_of l = node (head_of Kind.inst 0) [] [] (list l) no_parts

abbrev pub under : ℕ → Node → Entries
under name p = entry (scope_key name) p no_entries

-- two processes joined by a seq or a par, whose head is given
abbrev pub joined : ℕ → Node → Node → Node
joined head p q = node head [] [] absent (p & q & no_parts)

-- P is left out if it is nil, whose one word is 0
unfoldable pub then_c : ℕ → ℕ → Node → Node → Node
then_c head name p c = cond (eqb (head_word p) 0) (inst_of (under name c)) (joined head p (inst_of (under name c)))

unfoldable pub installing : ℕ → ℕ → Entries → Node → Node → Node → Node
installing head name faults t c p = scope_of name (joined head (inst_of faults) (joined head (inst_of (under name t)) (then_c head name p c)))

-- Every fixed scope, wherever it stands, with what stands inside treated alike
unfoldable mutual
  pub rewritten : ℕ → Node → Node
  rewritten head (node h f es b ps) =
      cond (eqb (kind_of h) fixed_scope)
      (installing head (name_of h) (entries_of (block_rewritten head b)) (part_at (parts_rewritten head ps) 0) (part_at (parts_rewritten head ps) 1) (part_at (parts_rewritten head ps) 2))
      (node h f es (block_rewritten head b) (parts_rewritten head ps))

  pub block_rewritten : ℕ → Block → Block
  block_rewritten head absent = absent
  block_rewritten head (list l) = list (entries_rewritten head l)

  pub entries_rewritten : ℕ → Entries → Entries
  entries_rewritten head no_entries = no_entries
  entries_rewritten head (entry k p es) = entry k (rewritten head p) (entries_rewritten head es)

  pub parts_rewritten : ℕ → Nodes → Nodes
  parts_rewritten head no_parts = no_parts
  parts_rewritten head (p & ps) = rewritten head p & parts_rewritten head ps

unfoldable pub engines_rewritten : ℕ → List Planned → List Planned
engines_rewritten head [] = []
engines_rewritten head (e ∷ es) = record { values = e.values; process = rewritten head e.process } ∷ engines_rewritten head es

unfoldable pub plan_rewritten : ℕ → Plan → Plan
plan_rewritten head p = record { issued = p.issued; engines = engines_rewritten head p.engines }

-- The start that a plan is translated into
abbrev pub translated : Plan → Plan
translated p = plan_rewritten (head_of Kind.seq 0) p

-- A plan is read by the rules for a start, with kind 19 wherever an unmarked scope may stand, its P as a scope's body, and cH allowed in its
-- handlers. That is to say: it is readable if its stand-in is, which has a par for each seq of the translation. Both sides of a par are
-- enabled where the par is, so P stands there as a scope's body does, and the handlers stand in the lists of inst.
abbrev pub stand_in : Plan → Plan
stand_in p = plan_rewritten (head_of Kind.par 0) p

-- ---- cH in a fixed scope

-- Lists of kinds 10, 12 and 17 have a cH of their own
unfoldable pub own_ch : ℕ → Bool
own_ch k = eqb k Kind.solicit || eqb k Kind.inst || eqb k Kind.waiter

abbrev pub is_last : Nodes → Bool
is_last no_parts = true
is_last (p & ps) = false

-- whether the entries of a kind's list, and its parts, are free in a fixed scope's own handler: those of a fixed scope are handlers but for
-- its last part P
unfoldable pub free_entries : Bool → ℕ → Bool
free_entries free k = eqb k fixed_scope || free && not (own_ch k)

unfoldable pub free_part : Bool → ℕ → Bool → Bool
free_part free k last = eqb k fixed_scope && not last || free

-- cH stands free in one of a fixed scope's own handlers: no list of kinds 10, 12 or 17 stands between. `free` says so of the place itself.
unfoldable mutual
  pub captured : Bool → Node → Bool
  captured free (node h f es b ps) = free && eqb (kind_of h) Kind.cH || (block_captured (free_entries free (kind_of h)) b || parts_captured free (kind_of h) ps)

  pub block_captured : Bool → Block → Bool
  block_captured free absent = false
  block_captured free (list l) = entries_captured free l

  pub entries_captured : Bool → Entries → Bool
  entries_captured free no_entries = false
  entries_captured free (entry k p es) = captured free p || entries_captured free es

  pub parts_captured : Bool → ℕ → Nodes → Bool
  parts_captured free k no_parts = false
  parts_captured free k (p & ps) = captured (free_part free k (is_last ps)) p || parts_captured free k ps

unfoldable pub engines_captured : List Planned → Bool
engines_captured [] = false
engines_captured (e ∷ es) = captured false e.process || engines_captured es
