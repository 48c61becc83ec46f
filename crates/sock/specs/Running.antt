-- What is enabled, as a tree of its own: the only part of a configuration that the rules look into. A node that is not enabled stays a node.
use Rattle.std.specs.Prelude.{ℕ, zero, suc, ◌+◌, ◌*◌, Bool, List, [], ◌∷◌, length, get_or, take}
use Rattle.sock.specs.Kind
use Rattle.sock.specs.Words.{kind_of, name_of, mark_of, zombie_of, first_name, executors_client, dead_of, waiters_server, notices_client, bit, is_one, head_of, name_fields}
use Rattle.sock.specs.Variables.{first_of, variable_words, head_variables}
use Rattle.sock.specs.Term.{Expr, Node, node, Block, absent, list, Entries, Nodes, no_parts, ◌&◌, nil_node, part_at, entries_of}
use Rattle.sock.specs.Layout.{words, depth}
use Rattle.sock.specs.Reading.{fixed_at}

-- document 01's mark: 0 none, 1 fault, 2 own name
pub data Mark : Type 0 where
  unmarked : Mark
  faulted : ℕ → Mark
  own_name : Mark

pub data Run : Type 0 where
  nil : Run
  seq : Run → Node → Run
  par : Run → Run → Run
  scope : ℕ → Mark → Bool → Entries → Run → Run  -- name, mark, zombie, list, body
  executor : ℕ → List ℕ → ℕ → ℕ → Run → Run  -- operation, variables y, client engine, serial, body
  waiter : ℕ → List ℕ → Bool → ℕ → ℕ → Entries → Run  -- operation, variables x, dead, server engine, serial, list
  notice : ℕ → ℕ → ℕ → ℕ → Run  -- operation, fault, client engine, serial
  act : Node → Run  -- any other process

-- The node of what is enabled, and so its words, its size and its depth
abbrev pub mark_number : Mark → ℕ
mark_number unmarked = 0
mark_number (faulted f) = 1
mark_number own_name = 2

abbrev pub marked_fault : Mark → ℕ
marked_fault unmarked = 0
marked_fault (faulted f) = f
marked_fault own_name = 0

abbrev pub scope_head : ℕ → Mark → Bool → ℕ
scope_head name mark zombie = head_of Kind.scope (name * 32 + mark_number mark * 8 + bit zombie * 4)

unfoldable pub as_node : Run → Node
as_node nil = nil_node
as_node (seq p q) = node (head_of Kind.seq 0) [] [] absent (as_node p & q & no_parts)
as_node (par p q) = node (head_of Kind.par 0) [] [] absent (as_node p & as_node q & no_parts)
as_node (scope name mark zombie h p) = node (scope_head name mark zombie) ((marked_fault mark * 1024) ∷ []) [] (list h) (as_node p & no_parts)
as_node (executor o y client serial p) = node (head_of Kind.executor (name_fields o (first_of y))) ((client * 8192) ∷ serial ∷ variable_words y) [] absent (as_node p & no_parts)
as_node (waiter o x dead server serial l) =
    node (head_of Kind.waiter (name_fields o (first_of x))) ((bit dead * 32768 + server * 4096) ∷ serial ∷ variable_words x) [] (list l) no_parts
as_node (notice o f client serial) = node (head_of Kind.notice (name_fields o 0)) ((f * 1024 + client * 128) ∷ serial ∷ []) [] absent no_parts
as_node (act p) = p

unfoldable pub run_words : Run → List ℕ
run_words r = words (as_node r)

unfoldable pub size : Run → ℕ
size r = length (run_words r)

unfoldable pub run_depth : Run → ℕ
run_depth r = depth (as_node r)

-- The form that a node of each kind takes once enabled
pub data Form : Type 0 where
  nil_form seq_form par_form scope_form executor_form waiter_form notice_form plain : Form

unfoldable pub forms : List Form
forms =
    nil_form ∷ plain ∷ seq_form ∷ par_form  -- nil, assign, seq, par
    ∷ plain ∷ plain ∷ plain ∷ plain ∷ plain ∷ plain ∷ plain  -- if to solicit
    ∷ scope_form ∷ plain ∷ plain ∷ plain ∷ plain  -- scope, inst to cH
    ∷ executor_form ∷ waiter_form ∷ notice_form ∷ []

abbrev pub mark_by : ℕ → ℕ → Mark
mark_by zero fault = unmarked
mark_by (suc zero) fault = faulted fault
mark_by (suc (suc m)) fault = own_name

-- A node in a form; `rs` are its parts once enabled
unfoldable pub in_form : Form → ℕ → List ℕ → List Expr → Block → Nodes → List Run → Run
in_form nil_form h f es b ps rs = nil
in_form seq_form h f es b ps rs = seq (get_or rs 0 nil) (part_at ps 1)
in_form par_form h f es b ps rs = par (get_or rs 0 nil) (get_or rs 1 nil)
in_form scope_form h f es b ps rs =
    scope (name_of h) (mark_by (mark_of h) (first_name (fixed_at f 0))) (is_one (zombie_of h)) (entries_of b) (get_or rs 0 nil)
in_form executor_form h f es b ps rs = executor (name_of h) (head_variables 2 h f) (executors_client (fixed_at f 0)) (fixed_at f 1) (get_or rs 0 nil)
in_form waiter_form h f es b ps rs =
    waiter (name_of h) (head_variables 2 h f) (is_one (dead_of (fixed_at f 0))) (waiters_server (fixed_at f 0)) (fixed_at f 1) (entries_of b)
in_form notice_form h f es b ps rs = notice (name_of h) (first_name (fixed_at f 0)) (notices_client (fixed_at f 0)) (fixed_at f 1)
in_form plain h f es b ps rs = act (node h f es b ps)

unfoldable mutual
  pub opened : List Form → Node → Run
  opened t (node h f es b ps) = in_form (get_or t (kind_of h) plain) h f es b ps (all_opened t ps)

  pub all_opened : List Form → Nodes → List Run
  all_opened t no_parts = []
  all_opened t (p & ps) = opened t p ∷ all_opened t ps

-- A process that was read enabled
unfoldable pub awake : Node → Run
awake p = opened forms p

-- Code that becomes enabled: no kinds 16 to 18 stand in code, so the table ends before them. Of code that fits it is `awake`
-- (Running.enable_awake).
unfoldable pub enable : Node → Run
enable p = opened (take 12 forms) p
