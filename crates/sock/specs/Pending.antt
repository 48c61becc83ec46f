-- The look before a throw (document 02, b): which enabled processes of a side can't be killed, whether there is one, and how many enabled
-- processes there are up to the first. What killing and the climb do stands in Rules; that this look decides refusal 6 is shown of them.
use Rattle.std.specs.Prelude.{ℕ, suc, ◌*◌, ◌^◌, ◌+◌, Bool, true, false, not, ◌&&◌, ◌||◌, cond, List, [], ◌∷◌, ◌++◌, eqb}
use Rattle.sock.specs.Kind
use Rattle.sock.specs.Words.{fault_key, bit}
use Rattle.sock.specs.Term.{kind}
use Rattle.sock.specs.Reading.{holds}
use Rattle.sock.specs.Running.{Run, nil, seq, par, scope, executor, waiter, notice, act}
use Rattle.sock.specs.Configuration.{Limits, standard, read_config}
use Rattle.sock.specs.Frames.{Frame, seq_frame, left_frame, right_frame, scope_frame, executor_frame, is_done}
use Rattle.sock.specs.Calls.{unreadable, nobody_there, number, Result, refused, done, ◌>>=◌, ◌!◌, Spot, enabled_at}
use Rattle.sock.specs.Bytes.{words_of, words_or_none}

-- the enabled processes of a side in word order, its own head first: both sides of an enabled par, the first of an enabled seq, the body of an
-- enabled scope or executor (document 01, "Readable and fresh")
unfoldable pub enabled_in : Run → List Run
enabled_in nil = nil ∷ []
enabled_in (seq p q) = seq p q ∷ enabled_in p
enabled_in (par p q) = par p q ∷ (enabled_in p ++ enabled_in q)
enabled_in (scope name mark zombie h p) = scope name mark zombie h p ∷ enabled_in p
enabled_in (executor o y client serial p) = executor o y client serial p ∷ enabled_in p
enabled_in (waiter o x dead server serial l) = waiter o x dead server serial l ∷ []
enabled_in (notice o f client serial) = notice o f client serial ∷ []
enabled_in (act p) = act p ∷ []

-- an inst, or a live scope with nil body
unfoldable pub is_pending : Run → Bool
is_pending nil = false
is_pending (seq p q) = false
is_pending (par p q) = false
is_pending (scope name mark zombie h p) = not zombie && is_done p
is_pending (executor o y client serial p) = false
is_pending (waiter o x dead server serial l) = false
is_pending (notice o f client serial) = false
is_pending (act p) = eqb (kind p) Kind.inst

-- whether there is one, and the count of processes up to and including it, all if none
pub record Search : Type 0 where
  pub found : Bool
  pub count : ℕ

unfoldable pub counted : Search → Search
counted s = record { found = s.found; count = suc s.count }

unfoldable pub search_of : List Run → Search
search_of [] = record { found = false; count = 0 }
search_of (p ∷ ps) = cond (is_pending p) (record { found = true; count = 1 }) (counted (search_of ps))

unfoldable pub pending : Run → Search
pending p = search_of (enabled_in p)

-- ---- a throw

-- the sides that the fault f meets before its climb stops, from the throw outwards
unfoldable pub sides_met : ℕ → List Frame → List Run
sides_met f [] = []
sides_met f (seq_frame q ∷ fs) = sides_met f fs
sides_met f (left_frame q ∷ fs) = q ∷ sides_met f fs
sides_met f (right_frame q ∷ fs) = q ∷ sides_met f fs
sides_met f (scope_frame name mark zombie h ∷ fs) = cond (zombie || holds (fault_key f) h) [] (sides_met f fs)
sides_met f (executor_frame o y client serial ∷ fs) = sides_met f fs

-- whether one of them has a pending process
unfoldable pub any_pending : List Run → Bool
any_pending [] = false
any_pending (p ∷ ps) = (pending p).found || any_pending ps

-- ---- the call: the enabled process at an engine and a position is searched; 1, then 2

unfoldable pub side_at : Limits → List ℕ → ℕ → ℕ → Result Spot
side_at limits ws engine position = do
  c ← unreadable ! read_config limits ws
  a ← nobody_there ! enabled_at c engine position
  done a

pub record Pending : Type 0 where
  pub number : ℕ
  pub found : Bool
  pub count : ℕ

unfoldable pub searched : Result Spot → Pending
searched (refused r) = record { number = number r; found = false; count = 0 }
searched (done a) = record { number = 0; found = (pending a.process).found; count = (pending a.process).count }

unfoldable pub pending_at : Limits → List ℕ → ℕ → ℕ → Pending
pending_at limits ws engine position = searched (side_at limits ws engine position)

-- on bytes, an odd length being unreadable: number 8, found 8, zero 16, count 32
unfoldable pub packed_pending : Pending → ℕ
packed_pending p = p.number * 2 ^ 56 + bit p.found * 2 ^ 48 + p.count

unfoldable pub byte_pending : List ℕ → ℕ → ℕ → ℕ
byte_pending bytes engine position = packed_pending (pending_at standard (words_or_none (words_of bytes)) engine position)
