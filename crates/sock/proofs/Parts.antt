-- A node's parts, counted by how many follow: the laws of nodes go by that number, which falls as a reader goes on. That this is what the table of parts says stands in
-- PartsTable.
-- Assumes nothing.
use Prim.Native.Nat.{ℕ, zero, suc, ◌%◌}
use mathlib.Core.Bool.{false, ◌&&◌, ◌||◌, cond}
use mathlib.Core.List.{List}
use lib.Dec.{eqb}
use Rattle.sock.specs.Kind
use Rattle.sock.specs.Kind.{row_of}
use Rattle.sock.specs.Words.{kind_of}
use Rattle.sock.specs.Term.{Expr, Node, node, Nodes, no_parts, ◌&◌, processes_of}
use Rattle.sock.specs.Reading.{Got, got, and_then, check, Stratum, running, code, Place, anywhere, not_nil, guard, entry_stratum, node_fits, fixed_words, exprs, block}

-- the stratum and the place of the part that `left` others follow
unfoldable pub part_stratum : Stratum → ℕ → ℕ → Stratum
part_stratum (code c) k left = code c
part_stratum (running n issued) k left =
    cond (eqb k Kind.scope || eqb k Kind.executor || eqb k Kind.par || eqb k Kind.seq && eqb left 1) (running n issued) (code false)

unfoldable pub part_place : ℕ → ℕ → Place
part_place k left =
    cond (eqb k Kind.par || eqb k Kind.seq && eqb left 1) not_nil
    (cond (eqb k Kind.choice && eqb (left % 2) 1) guard anywhere)

unfoldable pub parts : (ℕ → List ℕ → Got Node) → ℕ → List ℕ → Got Nodes
parts sub zero ws = got no_parts ws
parts sub (suc n) ws = and_then (sub n ws) λ p then. and_then (parts sub n then) λ ps rest. got (p & ps) rest

unfoldable pub part_by : (Stratum → Place → List ℕ → Got Node) → Stratum → ℕ → ℕ → List ℕ → Got Node
part_by read s k left ws = read (part_stratum s k left) (part_place k left) ws

-- a node read so
unfoldable pub node_left : (List ℕ → Got Expr) → (Stratum → Place → List ℕ → Got Node) → Stratum → ℕ → List ℕ → Got Node
node_left readExpr read s h ws =
    and_then (fixed_words (row_of (kind_of h)).fixed ws) λ f w1.
    and_then (exprs readExpr (row_of (kind_of h)).expressions w1) λ es w2.
    and_then (block (read (entry_stratum (eqb (kind_of h) Kind.scope)) anywhere) (eqb (kind_of h) Kind.scope) (row_of (kind_of h)).lists w2) λ b w3.
    and_then (parts (part_by read s (kind_of h)) (processes_of h) w3) λ ps rest.
    check (node_fits s h f b) (got (node h f es b ps) rest)
