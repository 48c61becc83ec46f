-- The walks behind the calls that only read, on positions, as the code goes: the ends of a serial in a process and in all engines, and
-- whether an engine's process is nil. No contract of a call names them.
use Rattle.std.specs.Prelude.{ℕ, zero, suc, Option, Some, None, ◌+◌, ◌-◌, Bool, true, false, ◌&&◌, cond, List, leb, ltb, eqb, length, get_or}
use Rattle.sock.specs.Kind
use Rattle.sock.specs.Words.{bit, kind_of}
use Rattle.layout.specs.Contexts.{code, running}
use Rattle.layout.specs.Keys.{no_key}
use Rattle.reading.specs.declared.ends.Counted.{Counted}
use Rattle.reading.specs.Walk.{at, list_end, executor_own, process_end}

-- what is counted up to an end; nothing, if there is none
unfoldable pub counted : ℕ → ℕ → ℕ → Option Counted
counted e waiters workers = cond (eqb e 0) None (Some (record { end = e; waiters = waiters; workers = workers }))

-- on with what was counted, if there is an end
unfoldable pub after : Option Counted → (Counted → Option Counted) → Option Counted
after None k = None
after (Some p) k = k p

unfoldable pub waiters_in : Option Counted → ℕ
waiters_in None = 0
waiters_in (Some p) = p.waiters

unfoldable pub workers_in : Option Counted → ℕ
workers_in None = 0
workers_in (Some p) = p.workers

-- 1 if the third word of the end at i is the serial
unfoldable pub serial_at : List ℕ → ℕ → ℕ → ℕ
serial_at ws i serial = bit (leb 3 (length ws - i) && eqb serial (at ws (i + 2)))

-- ---- by kind; `tal` counts in a process one level down, `sub` reads one in a context, `skip` reads the process itself

-- a seq, behind its head: only its first part is enabled
unfoldable pub seq_tally : (ℕ → Option Counted) → (ℕ → ℕ → ℕ) → ℕ → Option Counted
seq_tally tal sub i = after (tal i) λ p. counted (sub code p.end) p.waiters p.workers

unfoldable pub par_tally : (ℕ → Option Counted) → ℕ → Option Counted
par_tally tal i =
    after (tal i) λ p. after (tal p.end) λ q. Some (record { end = q.end; waiters = p.waiters + q.waiters; workers = p.workers + q.workers })

-- a scope, from its list on
unfoldable pub scope_tally : (ℕ → Option Counted) → (ℕ → ℕ → ℕ) → List ℕ → ℕ → Option Counted
scope_tally tal sub ws i = cond (eqb (list_end sub ws code no_key i) 0) None (tal (list_end sub ws code no_key i))

-- an executor whose body begins at e
unfoldable pub executor_tally : (ℕ → Option Counted) → List ℕ → ℕ → ℕ → ℕ → Option Counted
executor_tally tal ws serial i e =
    cond (eqb e 0) None
    (after (tal e) λ p. Some (record { end = p.end; waiters = p.waiters; workers = p.workers + serial_at ws i serial }))

unfoldable pub node_tally : (ℕ → Option Counted) → (ℕ → ℕ → ℕ) → (ℕ → ℕ) → List ℕ → ℕ → ℕ → ℕ → ℕ → Option Counted
node_tally tal sub skip ws serial bound k i =
    cond (eqb k Kind.seq) (seq_tally tal sub (i + 1))
    (cond (eqb k Kind.par) (par_tally tal (i + 1))
    (cond (eqb k Kind.scope) (scope_tally tal sub ws (i + 2))
    (cond (eqb k Kind.executor) (executor_tally tal ws serial i (executor_own ws bound i))
    (cond (eqb k Kind.waiter) (counted (skip i) (serial_at ws i serial) 0)
    (cond (eqb k Kind.notice) (counted (skip i) 0 (serial_at ws i serial))
    (counted (skip i) 0 0))))))

-- the ends of a serial in the process at i
unfoldable pub tally_at : ℕ → List ℕ → ℕ → ℕ → ℕ → Option Counted
tally_at zero ws serial bound i = None
tally_at (suc d) ws serial bound i =
    cond (ltb i (length ws))
    (node_tally (tally_at d ws serial bound) (process_end d ws bound) (process_end (suc d) ws bound running) ws serial bound (kind_of (at ws i)) i)
    None

-- ---- over the engines, of which `left` are still to come: the waiters and the workers

unfoldable pub total_from : (ℕ → Option Counted) → List ℕ → ℕ → ℕ → ℕ → ℕ → ℕ × ℕ
total_from tal starts zero e waiters workers = (waiters, workers)
total_from tal starts (suc left) e waiters workers =
    total_from tal starts left (e + 1) (waiters + waiters_in (tal (get_or starts e 0))) (workers + workers_in (tal (get_or starts e 0)))

-- no process is nil
unfoldable pub none_nil : List ℕ → List ℕ → ℕ → ℕ → Bool
none_nil ws starts zero e = true
none_nil ws starts (suc left) e = cond (eqb (at ws (get_or starts e 0)) 0) false (none_nil ws starts left (e + 1))
