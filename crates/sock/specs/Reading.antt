-- Reading a process, with every condition of document 01's "Readable" that concerns one. What a condition needs to know of the place is handed down.
use Rattle.std.specs.Prelude.{ℕ, zero, suc, ◌-◌, Bool, true, false, not, ◌&&◌, ◌||◌, cond, List, [], ◌∷◌, ◌++◌, leb, ltb, eqb, get_or}
use Rattle.sock.specs.Kind
use Rattle.sock.specs.Kind.{Own, word, variables, Row, row_of}
use Rattle.sock.specs.Words.{is_word, clear, kind_of, count_of, mark_of, zombie_of, next_variable, first_name, executors_client, waiters_server, notices_client, key_of, tag_of, read_variable, value_of}
use Rattle.sock.specs.Variables.{head_variables, later_variables, distinct}
use Rattle.sock.specs.Term.{Operator, sum, difference, less, equal, decimal_sum, decimal_difference, Expr, constant, variable, apply, Node, node, Block, absent, list, Entries, no_entries, entry, Nodes, no_parts, ◌&◌, is_nil, entries_of}

-- What is read, and the words behind it
pub data Got (A : Type 0) : Type 0 where
  fail : Got A
  got : A → List ℕ → Got A

unfoldable pub and_then : {A B : Type 0} → Got A → (A → List ℕ → Got B) → Got B
and_then fail k = fail
and_then (got a ws) k = k a ws

unfoldable pub check : {A : Type 0} → Bool → Got A → Got A
check true g = g
check false g = fail

-- Enabled processes run, among n engines and the serials issued so far. The others are code, with or without cH.
pub data Stratum : Type 0 where
  running : ℕ → ℕ → Stratum
  code : Bool → Stratum

-- What may stand at a place: anything; not nil; what begins a branch; what an engine runs
pub data Place : Type 0 where
  anywhere not_nil guard root : Place

-- Kinds 16 to 18 stand only enabled; cH stands only inside the list entries of kinds 10, 12, 17
unfoldable pub allowed : Stratum → ℕ → Bool
allowed (running n issued) k = leb k Kind.notice && not (eqb k Kind.cH)
allowed (code true) k = leb k Kind.cH
allowed (code false) k = ltb k Kind.cH

unfoldable pub placed : Place → ℕ → Bool
placed anywhere k = true
placed not_nil k = not (eqb k Kind.nil)
placed guard k = eqb k Kind.one_way || eqb k Kind.request
placed root k = eqb k Kind.nil || eqb k Kind.scope

-- A choice has 1 to 8 branches
unfoldable pub branched : ℕ → Bool
branched h = not (eqb (kind_of h) Kind.choice) || ltb 0 (count_of h) && leb (count_of h) 8

unfoldable pub head_fits : Stratum → Place → ℕ → Bool
head_fits s p h = allowed s (kind_of h) && placed p (kind_of h) && clear (row_of (kind_of h)).spare h && branched h

-- A part of a process: where it stands, and whether it is enabled where the process is
pub record Part : Type 0 where
  pub place : Place
  pub enabled : Bool

abbrev pub code_part : Place → Part
code_part p = record { place = p; enabled = false }

abbrev pub run_part : Place → Part
run_part p = record { place = p; enabled = true }

-- The parts that the fixed table's rows have, first to last. No seq begins with nil and no par has a nil side; each branch of a choice begins with a
-- process of kind 7 or 8. Enabled: the body of an enabled scope or executor; both sides of an enabled par; the first of an enabled seq. The same are
-- opened by `awake` (Running.awake_sound), found by `locate` and listed by `enabled_in` (Enabled.enabled_found).
unfoldable pub parts_rows : List (List Part)
parts_rows =
    []  -- 0 nil
    ∷ []  -- 1 assign
    ∷ (run_part not_nil ∷ code_part anywhere ∷ [])  -- 2 seq: P, Q
    ∷ (run_part not_nil ∷ run_part not_nil ∷ [])  -- 3 par: P, Q
    ∷ (code_part anywhere ∷ code_part anywhere ∷ [])  -- 4 if: P, Q
    ∷ (code_part anywhere ∷ [])  -- 5 while: P
    ∷ (code_part guard ∷ code_part anywhere ∷ [])  -- 6 choice: per branch a process of kind 7 or 8, then P
    ∷ []  -- 7 one-way
    ∷ (code_part anywhere ∷ [])  -- 8 request: P
    ∷ []  -- 9 notify
    ∷ []  -- 10 solicit
    ∷ (run_part anywhere ∷ [])  -- 11 scope: P
    ∷ []  -- 12 inst
    ∷ []  -- 13 throw
    ∷ []  -- 14 comp
    ∷ []  -- 15 cH
    ∷ (run_part anywhere ∷ [])  -- 16 executor: P
    ∷ []  -- 17 waiter
    ∷ []  -- 18 notice
    ∷ []

unfoldable pub repeated : ℕ → List Part → List Part
repeated zero ps = []
repeated (suc n) ps = ps ++ repeated n ps

-- The parts of a process by its head, as many as `processes_of` says (PartsTable.parts_many)
unfoldable pub parts_of : ℕ → List Part
parts_of h = repeated (cond (eqb (kind_of h) Kind.choice) (count_of h) 1) (get_or parts_rows (kind_of h) [])

-- what is not enabled where the process runs is code without cH; all of code is such code as it is
unfoldable pub part_stratum : Stratum → Bool → Stratum
part_stratum (code c) enabled = code c
part_stratum (running n issued) enabled = cond enabled (running n issued) (code false)

-- The entries of a scope's list hold no cH; those of kinds 10, 12, 17 may
abbrev pub entry_stratum : Bool → Stratum
entry_stratum ofScope = code (not ofScope)

-- the process under a key, and whether there is one
unfoldable pub holds : ℕ → Entries → Bool
holds k no_entries = false
holds k (entry j p es) = eqb k j || holds k es

unfoldable pub is_empty : Entries → Bool
is_empty no_entries = true
is_empty (entry k p es) = false

infixr 55 ◌⇒◌
abbrev pub ◌⇒◌ : Bool → Bool → Bool
◌⇒◌ a b = not a || b

-- Mark 3 is unreadable; marked fault is 0 unless mark is 1; mark 2 only on a zombie; with mark 1 the list holds that fault
unfoldable pub scope_fits : ℕ → ℕ → ℕ → Entries → Bool
scope_fits zero zombie fault l = eqb fault 0
scope_fits (suc zero) zombie fault l = holds fault l
scope_fits (suc (suc zero)) zombie fault l = eqb fault 0 && eqb zombie 1
scope_fits (suc (suc (suc mark))) zombie fault l = false

-- A scope that is code has mark 0, zombie 0 and an empty list
unfoldable pub resting_fits : ℕ → ℕ → ℕ → Entries → Bool
resting_fits mark zombie fault l = eqb mark 0 && eqb zombie 0 && eqb fault 0 && is_empty l

-- Kinds 16 to 18 have a serial of 1 to issued and an engine below n
unfoldable pub end_fits : ℕ → ℕ → ℕ → ℕ → Bool
end_fits n issued engine serial = ltb engine n && ltb 0 serial && leb serial issued

abbrev pub fixed_at : List ℕ → ℕ → ℕ
fixed_at f i = get_or f i 0

-- What a node's fields have to be, once its list is read
unfoldable pub fields_fit : Stratum → ℕ → List ℕ → Block → Bool
fields_fit (running n issued) h f b =
    (eqb (kind_of h) Kind.scope ⇒ scope_fits (mark_of h) (zombie_of h) (first_name (fixed_at f 0)) (entries_of b))
    && (eqb (kind_of h) Kind.executor ⇒ end_fits n issued (executors_client (fixed_at f 0)) (fixed_at f 1))
    && (eqb (kind_of h) Kind.waiter ⇒ end_fits n issued (waiters_server (fixed_at f 0)) (fixed_at f 1))
    && (eqb (kind_of h) Kind.notice ⇒ end_fits n issued (notices_client (fixed_at f 0)) (fixed_at f 1))
fields_fit (code c) h f b = eqb (kind_of h) Kind.scope ⇒ resting_fits (mark_of h) (zombie_of h) (first_name (fixed_at f 0)) (entries_of b)

-- The variables x that a one-way, a request, a solicit or a waiter receives in; none for the other kinds
unfoldable pub receives_in : ℕ → List ℕ → List ℕ
receives_in h f =
    cond (eqb (kind_of h) Kind.one_way) (head_variables 0 h f)
    (cond (eqb (kind_of h) Kind.request) (head_variables 1 h f)
    (cond (eqb (kind_of h) Kind.solicit) (later_variables (next_variable (fixed_at f 0)) f)
    (cond (eqb (kind_of h) Kind.waiter) (head_variables 2 h f) [])))

-- No x list has a variable twice
unfoldable pub node_fits : Stratum → ℕ → List ℕ → Block → Bool
node_fits s h f b = distinct (receives_in h f) && fields_fit s h f b

-- A scope's list has no scope key with nil
unfoldable pub entry_fits : Bool → ℕ → Node → Bool
entry_fits ofScope key p = not (ofScope && leb 64 key && is_nil p)

-- Words with a variable in their first 5 bits
unfoldable pub further : ℕ → List ℕ → Got (List ℕ)
further zero ws = got [] ws
further (suc n) [] = fail
further (suc n) (w ∷ ws) = check (is_word w && clear 2048 w) (and_then (further n ws) λ v rest. got (w ∷ v) rest)

-- A process's own words behind its head: fixed words, each clear below its number in the table, and lists of 1 to 4 variables
unfoldable pub fixed_words : List Own → List ℕ → Got (List ℕ)
fixed_words [] ws = got [] ws
fixed_words (word m ∷ os) [] = fail
fixed_words (word m ∷ os) (w ∷ ws) = check (is_word w && clear m w) (and_then (fixed_words os ws) λ f rest. got (w ∷ f) rest)
fixed_words (variables ∷ os) [] = fail
fixed_words (variables ∷ os) (c ∷ ws) =
    check (ltb 0 c && leb c 4)
    (and_then (further (c - 1) ws) λ v then. and_then (fixed_words os then) λ f rest. got (c ∷ v ++ f) rest)

-- Two words, high first
unfoldable pub wide : List ℕ → Got ℕ
wide [] = fail
wide (high ∷ []) = fail
wide (high ∷ low ∷ ws) = check (is_word high && is_word low) (got (value_of high low) ws)

-- An expression by its tag, with a reader for its operands
unfoldable pub operands : (List ℕ → Got Expr) → Operator → ℕ → List ℕ → Got Expr
operands sub o w ws = check (clear 8192 w) (and_then (sub ws) λ a then. and_then (sub then) λ b rest. got (apply o a b) rest)

unfoldable pub expr_by : (List ℕ → Got Expr) → ℕ → ℕ → List ℕ → Got Expr
expr_by sub zero w ws = check (eqb w 0) (and_then (wide ws) λ v rest. got (constant v) rest)
expr_by sub (suc zero) w ws = check (clear 256 w) (got (variable (read_variable w)) ws)
expr_by sub (suc (suc zero)) w ws = operands sub sum w ws
expr_by sub (suc (suc (suc zero))) w ws = operands sub difference w ws
expr_by sub (suc (suc (suc (suc zero)))) w ws = operands sub less w ws
expr_by sub (suc (suc (suc (suc (suc zero))))) w ws = operands sub equal w ws
expr_by sub (suc (suc (suc (suc (suc (suc zero)))))) w ws = operands sub decimal_sum w ws
expr_by sub (suc (suc (suc (suc (suc (suc (suc zero))))))) w ws = operands sub decimal_difference w ws
expr_by sub (suc (suc (suc (suc (suc (suc (suc (suc tag)))))))) w ws = fail

unfoldable pub expr : ℕ → List ℕ → Got Expr
expr zero ws = fail
expr (suc d) [] = fail
expr (suc d) (w ∷ ws) = expr_by (expr d) (tag_of w) w ws

unfoldable pub exprs : (List ℕ → Got Expr) → ℕ → List ℕ → Got (List Expr)
exprs sub zero ws = got [] ws
exprs sub (suc n) ws = and_then (sub ws) λ e then. and_then (exprs sub n then) λ es rest. got (e ∷ es) rest

-- The entries of a list; keys strictly rise, so each is at least the number handed on
unfoldable pub entries : (List ℕ → Got Node) → Bool → ℕ → ℕ → List ℕ → Got Entries
entries sub ofScope zero least ws = got no_entries ws
entries sub ofScope (suc n) least [] = fail
entries sub ofScope (suc n) least (w ∷ ws) =
    check (is_word w && clear 512 w && leb least (key_of w))
    (and_then (sub ws) λ p then.
    check (entry_fits ofScope (key_of w) p)
    (and_then (entries sub ofScope n (suc (key_of w)) then) λ es rest. got (entry (key_of w) p es) rest))

unfoldable pub block : (List ℕ → Got Node) → Bool → ℕ → List ℕ → Got Block
block sub ofScope zero ws = got absent ws
block sub ofScope (suc n) [] = fail
block sub ofScope (suc n) (c ∷ ws) = and_then (entries sub ofScope c 0 ws) λ l rest. got (list l) rest

-- The processes of a node, one for each part
unfoldable pub parts : (Part → List ℕ → Got Node) → List Part → List ℕ → Got Nodes
parts sub [] ws = got no_parts ws
parts sub (q ∷ qs) ws = and_then (sub q ws) λ p then. and_then (parts sub qs then) λ ps rest. got (p & ps) rest

abbrev pub part_by : (Stratum → Place → List ℕ → Got Node) → Stratum → Part → List ℕ → Got Node
part_by read s q ws = read (part_stratum s q.enabled) q.place ws

-- What follows a head, by the table, with readers for expressions and processes one level down
unfoldable pub node_by : (List ℕ → Got Expr) → (Stratum → Place → List ℕ → Got Node) → Stratum → ℕ → List ℕ → Got Node
node_by readExpr read s h ws =
    and_then (fixed_words (row_of (kind_of h)).fixed ws) λ f w1.
    and_then (exprs readExpr (row_of (kind_of h)).expressions w1) λ es w2.
    and_then (block (read (entry_stratum (eqb (kind_of h) Kind.scope)) anywhere) (eqb (kind_of h) Kind.scope) (row_of (kind_of h)).lists w2) λ b w3.
    and_then (parts (part_by read s) (parts_of h) w3) λ ps rest.
    check (node_fits s h f b) (got (node h f es b ps) rest)

-- A process of at most the depth given
unfoldable pub process : ℕ → Stratum → Place → List ℕ → Got Node
process zero s p ws = fail
process (suc d) s p [] = fail
process (suc d) s p (h ∷ ws) = check (head_fits s p h) (node_by (expr d) (process d) s h ws)
