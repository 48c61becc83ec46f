-- Engines that come and go (document 02, k): joining as the next engine number, leaving as the last one. Both give number and length, as
-- taking back does.
use Rattle.std.specs.Prelude.{ℕ, suc, ◌-◌, Bool, ◌&&◌, List, [], ◌∷◌, ◌++◌, leb, ltb, eqb, length, take}
use Rattle.std.proofs.Math.Option.{Option, none, some}
use Rattle.sock.specs.Reading.{Got, fail, got, running}
use Rattle.sock.specs.Configuration.{Limits, Engine, Config, encode, read_engine, guarded, also, read_config, fresh_run, is_scope}
use Rattle.sock.specs.Frames.{is_done}
use Rattle.sock.specs.Calls.{unreadable, long, short, not_fresh, house_full, still_at_work, Result, done, ◌>>=◌, ◌>>◌, ◌!◌, ◌unless◌, engine_at, End, waiting, working, tally_all}
use Rattle.sock.specs.Journal.{Taken, taken_of, restored_over}

-- ---- joining

-- an engine, and nothing behind it
unfoldable pub nothing_behind : Got Engine → Option Engine
nothing_behind fail = none
nothing_behind (got e []) = some e
nothing_behind (got e (w ∷ ws)) = none

-- The newcomer's 64 value words and its process, readable and fresh by itself: a fresh scope among n engines with nothing issued. The words
-- may be many: the limit of length is the configuration's.
unfoldable pub newcomer : Limits → ℕ → List ℕ → Option Engine
newcomer limits n words =
    also (nothing_behind (read_engine limits.deepest (running n 0) words)) λ e.
    guarded (is_scope e.process && fresh_run e.process) (some e)

unfoldable pub with_next : Config → Engine → Config
with_next c e = record { issued = c.issued; engines = c.engines ++ e ∷ [] }

-- 1, 21: whether there is room for one more is asked before who it is
unfoldable pub admitting : Limits → List ℕ → Result Config
admitting limits ws = do
  c ← unreadable ! read_config limits ws
  house_full unless ltb (length c.engines) 8
  done c

-- Joining: 1, 21, 11, 9, 10
unfoldable pub join : Limits → List ℕ → List ℕ → ℕ → Result (List ℕ)
join limits ws engine room = do
  c ← admitting limits ws
  e ← not_fresh ! newcomer limits (suc (length c.engines)) engine
  long unless leb (length (encode (with_next c e))) limits.longest
  short unless leb (length (encode (with_next c e))) room
  done (encode (with_next c e))

unfoldable pub join_answer : Limits → List ℕ → List ℕ → List ℕ → Taken
join_answer limits ws engine out = taken_of (join limits ws engine (length out))

unfoldable pub join_output : Limits → List ℕ → List ℕ → List ℕ → List ℕ
join_output limits ws engine out = restored_over (join limits ws engine (length out)) out

-- ---- leaving

-- the number of the last engine, and what is left without it
unfoldable pub last_of : Config → ℕ
last_of c = length c.engines - 1

unfoldable pub without_last : Config → Config
without_last c = record { issued = c.issued; engines = take (last_of c) c.engines }

-- what an end says: its serial, and the engine that it names
abbrev pub serial_of : End → ℕ
serial_of (waiting s o engine) = s
serial_of (working s o engine) = s

abbrev pub engine_of : End → ℕ
engine_of (waiting s o engine) = engine
engine_of (working s o engine) = engine

unfoldable pub points_to : ℕ → End → Bool
points_to e x = eqb (engine_of x) e

-- The last engine may leave: it is not the only one, its process is nil, and no end elsewhere names it
unfoldable pub may_leave : Config → Bool
may_leave c =
    ltb 1 (length c.engines)
    && is_done (engine_at c (last_of c)).process
    && eqb (tally_all (points_to (last_of c)) (without_last c).engines) 0

-- Leaving: 1, 22, 10
unfoldable pub leave : Limits → List ℕ → ℕ → Result (List ℕ)
leave limits ws room = do
  c ← unreadable ! read_config limits ws
  still_at_work unless may_leave c
  short unless leb (length (encode (without_last c))) room
  done (encode (without_last c))

unfoldable pub leave_answer : Limits → List ℕ → List ℕ → Taken
leave_answer limits ws out = taken_of (leave limits ws (length out))

unfoldable pub leave_output : Limits → List ℕ → List ℕ → List ℕ
leave_output limits ws out = restored_over (leave limits ws (length out)) out
