-- Planners' words (document 02, e): the layout of document 01 with one kind more. Kind 19 is a fixed scope: its name in the head; a list of
-- fault handlers; termination process, compensation process and body. A plan is what words laid out so are; whether it is readable is said
-- in `Translation`.
use Rattle.std.specs.Prelude.{ℕ, zero, suc, ◌-◌, Bool, true, false, ◌&&◌, cond, List, [], ◌∷◌, ◌++◌, leb, ltb, eqb, length}
use Rattle.std.proofs.Math.Option.{Option, none, some}
use Rattle.sock.specs.Words.{clear, kind_of, key_of}
use Rattle.sock.specs.Counts.{counts_of}
use Rattle.sock.specs.declared.Counts.{Counts}
use Rattle.sock.specs.Term.{Expr, Node, node, Block, absent, list, Entries, no_entries, entry, Nodes, no_parts, ◌&◌, processes_of}
use Rattle.sock.specs.Layout.{words}
use Rattle.sock.specs.Reading.{Got, fail, got, and_then, check, expr}
use Rattle.sock.specs.Configuration.{Limits, guarded}

abbrev pub fixed_scope : ℕ
fixed_scope = 19

-- the first `n` words
unfoldable pub first : ℕ → List ℕ → Got (List ℕ)
first zero ws = got [] ws
first (suc n) [] = fail
first (suc n) (w ∷ ws) = and_then (first n ws) λ f rest. got (w ∷ f) rest

-- `n` lists of variables: each has its count and a word for each variable but the first
unfoldable pub lists : ℕ → List ℕ → Got (List ℕ)
lists zero ws = got [] ws
lists (suc n) [] = fail
lists (suc n) (c ∷ ws) = and_then (first (c - 1) ws) λ v then. and_then (lists n then) λ f rest. got (c ∷ v ++ f) rest

-- an expression or none
unfoldable pub expressed : (List ℕ → Got Expr) → Bool → List ℕ → Got (List Expr)
expressed sub true ws = got [] ws
expressed sub false ws = and_then (sub ws) λ e rest. got (e ∷ []) rest

-- the entries of a list, whose keys are below a bound
unfoldable pub entries_below : (List ℕ → Got Node) → ℕ → ℕ → List ℕ → Got Entries
entries_below sub keys zero ws = got no_entries ws
entries_below sub keys (suc n) [] = fail
entries_below sub keys (suc n) (w ∷ ws) =
    check (clear 512 w && ltb (key_of w) keys)
    (and_then (sub ws) λ p then. and_then (entries_below sub keys n then) λ es rest. got (entry (key_of w) p es) rest)

-- a list: its count and its entries
unfoldable pub list_below : (List ℕ → Got Node) → ℕ → List ℕ → Got Entries
list_below sub keys [] = fail
list_below sub keys (c ∷ ws) = entries_below sub keys c ws

-- a list or none
unfoldable pub listed : (List ℕ → Got Node) → Bool → List ℕ → Got Block
listed sub true ws = got absent ws
listed sub false ws = and_then (list_below sub 128 ws) λ l rest. got (list l) rest

unfoldable pub several : (List ℕ → Got Node) → ℕ → List ℕ → Got Nodes
several sub zero ws = got no_parts ws
several sub (suc n) ws = and_then (sub ws) λ p then. and_then (several sub n then) λ ps rest. got (p & ps) rest

-- a process's own words behind its head, and its expressions
pub record Own : Type 0 where
  pub fixed : List ℕ
  pub expressions : List Expr

unfoldable pub own : (List ℕ → Got Expr) → Counts → List ℕ → Got Own
own readExpr c ws =
    and_then (first c.fixed ws) λ f w1.
    and_then (lists c.variables w1) λ v w2.
    and_then (expressed readExpr (eqb c.expressions 0) w2) λ es rest.
    got (record { fixed = f ++ v; expressions = es }) rest

-- what follows the head of one of the nineteen kinds, by the fixed table
unfoldable pub plan_node : (List ℕ → Got Expr) → (List ℕ → Got Node) → ℕ → List ℕ → Got Node
plan_node readExpr sub h ws =
    and_then (own readExpr (counts_of (kind_of h)) ws) λ o w1.
    and_then (listed sub (eqb (counts_of (kind_of h)).lists 0) w1) λ b w2.
    and_then (several sub (processes_of h) w2) λ ps rest.
    got (node h o.fixed o.expressions b ps) rest

-- kind 19: the bits behind the name are 0; a list with fault keys only; T, C and P
unfoldable pub plan_fixed : (List ℕ → Got Node) → ℕ → List ℕ → Got Node
plan_fixed sub h ws =
    check (clear 32 h)
    (and_then (list_below sub 64 ws) λ l w1.
    and_then (sub w1) λ t w2.
    and_then (sub w2) λ c w3.
    and_then (sub w3) λ p rest.
    got (node h [] [] (list l) (t & c & p & no_parts)) rest)

-- a process of at most the depth given
unfoldable pub plan : ℕ → List ℕ → Got Node
plan zero ws = fail
plan (suc d) [] = fail
plan (suc d) (h ∷ ws) = cond (eqb (kind_of h) fixed_scope) (plan_fixed (plan d) h ws) (plan_node (expr d) (plan d) h ws)

-- an engine: the 64 words of its values, and its process
pub record Planned : Type 0 where
  pub values : List ℕ
  pub process : Node

pub record Plan : Type 0 where
  pub issued : ℕ
  pub engines : List Planned

unfoldable pub planned_words : List Planned → List ℕ
planned_words [] = []
planned_words (e ∷ es) = e.values ++ (words e.process ++ planned_words es)

unfoldable pub plan_words : Plan → List ℕ
plan_words p = length p.engines ∷ p.issued ∷ planned_words p.engines

unfoldable pub plan_engines : ℕ → ℕ → List ℕ → Got (List Planned)
plan_engines d zero ws = got [] ws
plan_engines d (suc k) ws =
    and_then (first 64 ws) λ vs next.
    and_then (plan d next) λ p then.
    and_then (plan_engines d k then) λ es rest.
    got (record { values = vs; process = p } ∷ es) rest

unfoldable pub whole_plan : ℕ → Got (List Planned) → Option Plan
whole_plan issued fail = none
whole_plan issued (got es []) = some (record { issued = issued; engines = es })
whole_plan issued (got es (w ∷ ws)) = none

-- the plan that words are, inside the limits; nothing stands after the last process
unfoldable pub read_plan : Limits → List ℕ → Option Plan
read_plan limits [] = none
read_plan limits (n ∷ []) = none
read_plan limits (n ∷ issued ∷ ws) = guarded (leb (length (n ∷ issued ∷ ws)) limits.longest) (whole_plan issued (plan_engines limits.deepest n ws))
