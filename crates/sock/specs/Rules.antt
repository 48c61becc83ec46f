-- The rules of document 01, each alone and each for two: what an enabled process does, and what its engine is then.
use Rattle.std.specs.Prelude.{ℕ, zero, suc, ◌+◌, ◌*◌, Bool, true, false, not, ◌&&◌, cond, List, [], ◌∷◌, ltb, eqb, length, get_or, set}
use Rattle.std.proofs.Math.Option.{Option, none, some}
use Rattle.sock.specs.Kind
use Rattle.sock.specs.Words.{kind_of, count_of, variable_of, name_of, first_variable, next_variable, fault_key, scope_key, head_of}
use Rattle.sock.specs.Variables.{head_variables, later_variables, values_at, set_all}
use Rattle.sock.specs.Term.{Expr, Node, node, absent, list, Entries, no_entries, entry, Nodes, no_parts, kind, part_at, first_expr, entries_of}
use Rattle.sock.specs.Reading.{holds, fixed_at}
use Rattle.sock.specs.Running.{Mark, unmarked, faulted, own_name, Run, nil, seq, par, scope, executor, waiter, notice, act, enable}
use Rattle.sock.specs.Configuration.{guarded}
unfoldable pub use Rattle.sock.specs.Configuration.{also}
use Rattle.sock.specs.Evaluation.{value_at, evaluate, is_true}
use Rattle.sock.specs.Handlers.{handler, without, update}
use Rattle.sock.specs.Frames.{Frame, seq_frame, left_frame, right_frame, scope_frame, executor_frame, is_done, seq_of, par_of, plug, nearest, on_nearest}

-- ---- killing with f; none where something can't be killed

unfoldable pub kill : ℕ → Run → Option Run
-- a live scope with nil body can't be killed; with another it becomes a zombie, mark 2, body killed. A zombie stays, if its body can be killed
kill f (scope name mark false h p) = guarded (not (is_done p)) (also (kill f p) λ p'. some (scope name own_name true h p'))
kill f (scope name mark true h p) = also (kill f p) λ p'. some (scope name mark true h p)
-- par kills both sides; seq keeps only its killed first
kill f (par p q) = also (kill f p) λ p'. also (kill f q) λ q'. some (par_of p' q')
kill f (seq p q) = kill f p
-- an executor becomes its killed body par a notice of f
kill f (executor o y client serial p) = also (kill f p) λ p'. some (par_of p' (notice o f client serial))
-- a live waiter turns dead; a dead waiter and a notice stay
kill f (waiter o x dead server serial l) = some (waiter o x true server serial l)
kill f (notice o g client serial) = some (notice o g client serial)
-- an enabled inst can't be killed; all else becomes nil
kill f (act p) = guarded (not (eqb (kind p) Kind.inst)) (some nil)
kill f nil = some nil

-- ---- throw(f) climbs; none where it meets a side that can't be killed

unfoldable pub climb : ℕ → List Frame → Run → Option Run
climb f [] p = some p
-- through seq: Q is dropped
climb f (seq_frame q ∷ fs) p = climb f fs p
-- through par: the other side is killed
climb f (left_frame q ∷ fs) p = also (kill f q) λ q'. climb f fs (par_of p q')
climb f (right_frame q ∷ fs) p = also (kill f q) λ q'. climb f fs (par_of q' p)
-- through an executor: it becomes its body par a notice of f, the right side
climb f (executor_frame o y client serial ∷ fs) p = climb f fs (par_of p (notice o f client serial))
-- at a scope: f in H sets mark 1 with f and stops; else a zombie stops it unchanged; else the scope turns zombie with mark 0
climb f (scope_frame name mark zombie h ∷ fs) p =
    cond (holds (fault_key f) h) (some (plug fs (scope name (faulted f) zombie h p)))
    (cond zombie (some (plug fs (scope name mark zombie h p)))
    (climb f fs (scope name unmarked true h p)))

-- ---- a process that is neither nil, seq, par, scope nor an end, seen as what it does

pub data Action : Type 0 where
  still : Action  -- kinds that make no move of their own
  assign : ℕ → Expr → Action
  branch : Expr → Node → Node → Action  -- if and while, by their conditions
  repeat : Expr → Node → Action
  notify : ℕ → List ℕ → ℕ → Action  -- operation, variables y, z; and variables x with the list
  solicit : ℕ → List ℕ → ℕ → List ℕ → Entries → Action
  install : Entries → Action
  throw : ℕ → Action
  compensate : ℕ → Action

unfoldable pub action : Node → Action
action (node h f es b ps) =
    get_or
    (still
    ∷ assign (variable_of h) (first_expr es)
    ∷ still
    ∷ still
    ∷ branch (first_expr es) (part_at ps 0) (part_at ps 1)
    ∷ repeat (first_expr es) (part_at ps 0)
    ∷ still
    ∷ still
    ∷ still
    ∷ notify (name_of h) (head_variables 1 h f) (first_variable (fixed_at f 0))
    ∷ solicit (name_of h) (head_variables 1 h f) (first_variable (fixed_at f 0)) (later_variables (next_variable (fixed_at f 0)) f) (entries_of b)
    ∷ still
    ∷ install (entries_of b)
    ∷ throw (name_of h)
    ∷ compensate (name_of h)
    ∷ [])
    (kind_of h) still

-- ---- what an enabled process does: nothing; a move alone, which gives the engine's values and process; or it sends a message

pub data Message : Type 0 where
  notification : ℕ → List ℕ → ℕ → Message  -- operation, values sent, value of z
  solicitation : ℕ → List ℕ → ℕ → List ℕ → Entries → Message  -- and the variables x and the list of the waiter to be
  reply : ℕ → List ℕ → ℕ → ℕ → Message  -- operation, values sent, client engine, serial
  failure : ℕ → ℕ → ℕ → ℕ → Message  -- operation, fault, client engine, serial

pub data Move : Type 0 where
  stuck : Move
  alone : List ℕ → Option Run → Move
  unvalued : Move  -- it would move alone, but an expression of it has no value
  sends : Message → Move

-- scope with nil body: mark 1 runs H(f) as body, drops f; mark 2 runs H of its own name, drops it; both clear the mark
unfoldable pub ending : ℕ → Mark → Bool → Entries → List Frame → Run
ending name (faulted f) zombie h fs = plug fs (scope name unmarked zombie (without (fault_key f) h) (enable (handler (fault_key f) h)))
ending name own_name zombie h fs = plug fs (scope name unmarked zombie (without (scope_key name) h) (enable (handler (scope_key name) h)))
-- with mark 0 a zombie becomes nil; a live scope becomes nil and updates the nearest H with its name and H(name). A root updates nothing
ending name unmarked true h fs = plug fs nil
ending name unmarked false h fs =
    plug (on_nearest (λ outer. update outer (entry (scope_key name) (handler (scope_key name) h) no_entries)) fs) nil

-- with the value of an expression
unfoldable pub valued : Option ℕ → (ℕ → Move) → Move
valued none k = unvalued
valued (some v) k = k v

unfoldable pub acting : List ℕ → List Frame → Node → Action → Move
acting vs fs p still = stuck
-- assign, if, while as usual; a true while becomes its body, then itself
acting vs fs p (assign x e) = valued (evaluate vs e) λ v. alone (set vs x v) (some (plug fs nil))
acting vs fs p (branch e q r) = valued (evaluate vs e) λ v. alone vs (some (plug fs (enable (cond (is_true v) q r))))
acting vs fs p (repeat e q) = valued (evaluate vs e) λ v. alone vs (some (plug fs (cond (is_true v) (seq_of (enable q) p) nil)))
-- inst updates the nearest H and becomes nil
acting vs fs p (install l) = alone vs (some (plug (on_nearest (λ h. update h l) fs) nil))
-- comp(q) becomes H(q) of the nearest scope, which loses q
acting vs fs p (compensate q) =
    alone vs (some (plug (on_nearest (without (scope_key q)) fs) (enable (handler (scope_key q) (nearest fs)))))
-- throw(f) becomes nil and climbs
acting vs fs p (throw f) = alone vs (climb f fs nil)
acting vs fs p (notify o y z) = sends (notification o (values_at vs y) (value_at vs z))
acting vs fs p (solicit o y z x l) = sends (solicitation o (values_at vs y) (value_at vs z) x l)

unfoldable pub once_done : Run → Move → Move
once_done p m = cond (is_done p) m stuck

unfoldable pub move_of : List ℕ → List Frame → Run → Move
move_of vs fs nil = stuck
move_of vs fs (seq p q) = stuck
move_of vs fs (par p q) = stuck
move_of vs fs (scope name mark zombie h p) = once_done p (alone vs (some (ending name mark zombie h fs)))
move_of vs fs (executor o y client serial p) = once_done p (sends (reply o (values_at vs y) client serial))
move_of vs fs (waiter o x dead server serial l) = stuck
move_of vs fs (notice o f client serial) = sends (failure o f client serial)
move_of vs fs (act p) = acting vs fs p (action p)

-- ---- between two different engines, sender first

-- What a process can receive: a one-way by operation and x; a request by operation, x, y and P
pub data Receiver : Type 0 where
  deaf : Receiver
  hears : ℕ → List ℕ → Receiver
  serves : ℕ → List ℕ → List ℕ → Node → Receiver

unfoldable pub receiver : Node → Receiver
receiver (node h f es b ps) =
    cond (eqb (kind_of h) Kind.one_way) (hears (name_of h) (head_variables 0 h f))
    (cond (eqb (kind_of h) Kind.request)
    (serves (name_of h) (head_variables 1 h f) (later_variables (first_variable (fixed_at f 0)) f) (part_at ps 0))
    deaf)

-- A chosen branch is followed by its P
pub record Offer : Type 0 where
  pub receives : Receiver
  pub next : Option Node

abbrev nothing : Offer
nothing = record { receives = deaf; next = none }

-- branch 0 for a bare receiver, 1 to count for a choice
unfoldable pub chosen : ℕ → Nodes → ℕ → Offer
chosen n ps zero = nothing
chosen n ps (suc i) = cond (ltb i n) (record { receives = receiver (part_at ps (2 * i)); next = some (part_at ps (2 * i + 1)) }) nothing

unfoldable pub bare : Node → ℕ → Offer
bare p zero = record { receives = receiver p; next = none }
bare p (suc i) = nothing

unfoldable pub offered : Node → ℕ → Offer
offered (node h f es b ps) i = cond (eqb (kind_of h) Kind.choice) (chosen (count_of h) ps i) (bare (node h f es b ps) i)

unfoldable pub offer : Run → ℕ → Offer
offer nil i = nothing
offer (seq p q) i = nothing
offer (par p q) i = nothing
offer (scope name mark zombie h p) i = nothing
offer (executor o y client serial p) i = nothing
offer (waiter o x dead server serial l) i = nothing
offer (notice o f client serial) i = nothing
offer (act p) i = offered p i

unfoldable pub followed : Run → Option Node → Run
followed p none = p
followed p (some q) = seq_of p q

-- What meets in an exchange: the serials issued, the sender's engine, the receiver's, and of that the values, the process and the branch
pub record Meeting : Type 0 where
  pub issued : ℕ
  pub sender : ℕ
  pub receiver : ℕ
  pub values : List ℕ
  pub process : Run
  pub branch : ℕ

abbrev pub offered_to : Meeting → Offer
offered_to m = offer m.process m.branch

-- What a receiver is, where it is such a one: a one-way by operation and x; a request by operation, x, y and P; a waiter by operation, x, dead, server
-- engine, serial and list
unfoldable pub if_hears : {A : Type 0} → Receiver → (ℕ → List ℕ → Option A) → Option A
if_hears deaf k = none
if_hears (hears o x) k = k o x
if_hears (serves o x y p) k = none

unfoldable pub if_serves : {A : Type 0} → Receiver → (ℕ → List ℕ → List ℕ → Node → Option A) → Option A
if_serves deaf k = none
if_serves (hears o x) k = none
if_serves (serves o x y p) k = k o x y p

unfoldable pub if_waits : {A : Type 0} → Run → (ℕ → List ℕ → Bool → ℕ → ℕ → Entries → Option A) → Option A
if_waits nil k = none
if_waits (seq p q) k = none
if_waits (par p q) k = none
if_waits (scope name mark zombie h p) k = none
if_waits (executor o y client serial p) k = none
if_waits (waiter o x dead server serial l) k = k o x dead server serial l
if_waits (notice o f client serial) k = none
if_waits (act p) k = none

-- a waiter with the end's serial and operation, the two naming each other's engine, and branch 0
unfoldable pub awaited : {A : Type 0} → Meeting → ℕ → ℕ → ℕ → (List ℕ → Bool → Entries → Option A) → Option A
awaited m o client serial k =
    if_waits m.process λ op x dead server s l.
    guarded (eqb m.branch 0 && eqb serial s && eqb o op && eqb client m.receiver && eqb server m.sender) (k x dead l)

abbrev pub inst_of : Entries → Node
inst_of l = node (head_of Kind.inst 0) [] [] (list l) no_parts

abbrev pub throw_of : ℕ → Node
throw_of f = node (head_of Kind.throw (f * 32)) [] [] absent no_parts

-- What an exchange makes of the two processes and of the receiver's values
pub record Exchange : Type 0 where
  pub sender : Run
  pub receiver : Run
  pub values : List ℕ
  pub issued : ℕ
  pub serial : ℕ
  pub fault : ℕ

-- The rule for two: what a message does where it meets such a receiver; none where it doesn't
unfoldable pub exchange : Meeting → Message → Option Exchange
-- a notify in a one-way, z being the receiver's engine: x takes y
exchange m (notification o v z) =
    guarded (eqb z m.receiver)
    (if_hears (offered_to m).receives λ op x.
    guarded (eqb o op && eqb (length v) (length x))
    (some (record { sender = nil; receiver = followed nil (offered_to m).next; values = set_all m.values x v; issued = m.issued; serial = 0; fault = 0 })))
-- a solicit in a request: it becomes a live waiter, the request an executor; issued is raised by 1, that is the serial
exchange m (solicitation o v z x l) =
    guarded (eqb z m.receiver)
    (if_serves (offered_to m).receives λ op x' y p.
    guarded (eqb o op && eqb (length v) (length x') && eqb (length y) (length x))
    (some
    (record {
      sender = waiter o x false m.receiver (suc m.issued) l;
      receiver = followed (executor o y m.sender (suc m.issued) (enable p)) (offered_to m).next;
      values = set_all m.values x' v;
      issued = suc m.issued;
      serial = suc m.issued;
      fault = 0;
    })))
-- Reply: x takes y, and the waiter, dead or live, becomes inst of its list
exchange m (reply o v client serial) =
    awaited m o client serial λ x dead l.
    guarded (eqb (length v) (length x))
    (some (record { sender = nil; receiver = act (inst_of l); values = set_all m.values x v; issued = m.issued; serial = serial; fault = 0 }))
-- Fault: a live waiter becomes throw(f), a dead one nil
exchange m (failure o f client serial) =
    awaited m o client serial λ x dead l.
    some (record { sender = nil; receiver = cond dead nil (act (throw_of f)); values = m.values; issued = m.issued; serial = serial; fault = 1 })
