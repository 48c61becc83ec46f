-- Where an enabled process stands: the frames around it, innermost first. Finding it by its position, and putting another in its place.
use Rattle.std.specs.Prelude.{ℕ, zero, suc, ◌+◌, ◌-◌, Bool, true, false, cond, List, [], ◌∷◌, ltb, length}
use Rattle.std.proofs.Math.Option.{Option, none, some}
use Rattle.sock.specs.Variables.{variable_words}
use Rattle.sock.specs.Term.{Node, Entries, no_entries}
use Rattle.sock.specs.Layout.{entries_words}
use Rattle.sock.specs.Running.{Mark, Run, nil, seq, par, scope, executor, waiter, notice, act, size, enable}

pub data Frame : Type 0 where
  seq_frame : Node → Frame  -- the first of a seq, before its second
  left_frame : Run → Frame  -- the left side of a par, and the right, beside the other
  right_frame : Run → Frame
  scope_frame : ℕ → Mark → Bool → Entries → Frame  -- the body of a scope: name, mark, zombie, list
  executor_frame : ℕ → List ℕ → ℕ → ℕ → Frame  -- the body of an executor: operation, variables y, client engine, serial

pub record Located : Type 0 where
  pub frames : List Frame
  pub process : Run

unfoldable pub here_or : ℕ → Located → Option Located → Option Located
here_or zero l o = some l
here_or (suc p) l o = o

-- at a position past a process's own words: in the part that begins there
unfoldable pub past : ℕ → ℕ → (ℕ → Option Located) → Option Located
past own p find = cond (ltb p own) none (find (p - own))

-- The enabled process whose head stands at a position, counted in words from the process's start
unfoldable pub locate : Run → ℕ → List Frame → Option Located
locate nil p fs = here_or p (record { frames = fs; process = nil }) none
locate (seq a q) p fs = here_or p (record { frames = fs; process = seq a q }) (past 1 p λ i. locate a i (seq_frame q ∷ fs))
locate (par a b) p fs =
    here_or p (record { frames = fs; process = par a b })
    (past 1 p λ i. cond (ltb i (size a)) (locate a i (left_frame b ∷ fs)) (locate b (i - size a) (right_frame a ∷ fs)))
locate (scope name mark zombie h a) p fs =
    here_or p (record { frames = fs; process = scope name mark zombie h a })
    (past (3 + length (entries_words h)) p λ i. locate a i (scope_frame name mark zombie h ∷ fs))
locate (executor o y client serial a) p fs =
    here_or p (record { frames = fs; process = executor o y client serial a })
    (past (3 + length (variable_words y)) p λ i. locate a i (executor_frame o y client serial ∷ fs))
locate (waiter o x dead server serial l) p fs = here_or p (record { frames = fs; process = waiter o x dead server serial l }) none
locate (notice o f client serial) p fs = here_or p (record { frames = fs; process = notice o f client serial }) none
locate (act a) p fs = here_or p (record { frames = fs; process = act a }) none

unfoldable pub is_done : Run → Bool
is_done nil = true
is_done (seq a q) = false
is_done (par a b) = false
is_done (scope name mark zombie h a) = false
is_done (executor o y client serial a) = false
is_done (waiter o x dead server serial l) = false
is_done (notice o f client serial) = false
is_done (act a) = false

-- A rebuilt term drops nil before seq and beside par, nothing else
unfoldable pub seq_of : Run → Node → Run
seq_of a q = cond (is_done a) (enable q) (seq a q)

unfoldable pub par_of : Run → Run → Run
par_of a b = cond (is_done a) b (cond (is_done b) a (par a b))

unfoldable pub plug : List Frame → Run → Run
plug [] a = a
plug (seq_frame q ∷ fs) a = plug fs (seq_of a q)
plug (left_frame b ∷ fs) a = plug fs (par_of a b)
plug (right_frame b ∷ fs) a = plug fs (par_of b a)
plug (scope_frame name mark zombie h ∷ fs) a = plug fs (scope name mark zombie h a)
plug (executor_frame o y client serial ∷ fs) a = plug fs (executor o y client serial a)

-- "Nearest" is the innermost enclosing scope: its list, and that list changed
unfoldable pub nearest : List Frame → Entries
nearest [] = no_entries
nearest (seq_frame q ∷ fs) = nearest fs
nearest (left_frame b ∷ fs) = nearest fs
nearest (right_frame b ∷ fs) = nearest fs
nearest (scope_frame name mark zombie h ∷ fs) = h
nearest (executor_frame o y client serial ∷ fs) = nearest fs

unfoldable pub on_nearest : (Entries → Entries) → List Frame → List Frame
on_nearest change [] = []
on_nearest change (seq_frame q ∷ fs) = seq_frame q ∷ on_nearest change fs
on_nearest change (left_frame b ∷ fs) = left_frame b ∷ on_nearest change fs
on_nearest change (right_frame b ∷ fs) = right_frame b ∷ on_nearest change fs
on_nearest change (scope_frame name mark zombie h ∷ fs) = scope_frame name mark zombie (change h) ∷ fs
on_nearest change (executor_frame o y client serial ∷ fs) = executor_frame o y client serial ∷ on_nearest change fs
