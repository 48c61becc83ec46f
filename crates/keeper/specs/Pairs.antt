-- Two ends of a serial that name each other, and whether there are such, told from the words. No contract of a call names it.
use Rattle.std.specs.Prelude.{ℕ, ◌+◌, ◌-◌, Bool, true, false, not, cond, List, leb, ltb, eqb, length, get_or}
use Rattle.sock.specs.Kind
use Rattle.sock.specs.Words.{kind_of, name_of, executors_client, notices_client, waiters_server}
use Rattle.sock.specs.Configuration.{standard}
use Rattle.reading.specs.Survey.{Starts, surveyed}
use Rattle.layout.specs.Positions.{onward}
use Rattle.rules.specs.Rewriting.{at}
use Rattle.keeper.specs.Game.{some_below}

-- a working end of the serial may stand at a place: an executor's or a notice's head, and the serial; or a waiter
unfoldable pub working_at : ℕ → List ℕ → ℕ → Bool
working_at serial ws i =
    cond (cond (eqb (kind_of (at ws i)) Kind.executor) true (eqb (kind_of (at ws i)) Kind.notice)) (eqb (at ws (onward i 2)) serial) false

unfoldable pub waiting_at : ℕ → List ℕ → ℕ → Bool
waiting_at serial ws i = cond (eqb (kind_of (at ws i)) Kind.waiter) (eqb (at ws (onward i 2)) serial) false

-- the engine that a working end names
unfoldable pub client_at : List ℕ → ℕ → ℕ
client_at ws i =
    cond (eqb (kind_of (at ws i)) Kind.executor) (executors_client (at ws (onward i 1))) (notices_client (at ws (onward i 1)))

-- a place is within an engine's process
unfoldable pub within_w : Starts → ℕ → ℕ → Bool
within_w s e i =
    cond (leb s.engines e) false (cond (leb (get_or s.starts e 0) i) (ltb i (get_or s.starts (e + 1) 0 - 64)) false)

-- they name the same operation, and each the engine in which the other stands
unfoldable pub names_w : Starts → List ℕ → ℕ → ℕ → Bool
names_w s ws i j =
    cond (eqb (name_of (at ws i)) (name_of (at ws j)))
    (cond (within_w s (client_at ws i) j) (within_w s (waiters_server (at ws (onward j 1))) i) false) false

-- the two are a pair, if the first is a working end
unfoldable pub pair_w : Starts → ℕ → List ℕ → ℕ → ℕ → Bool
pair_w s serial ws i j = cond (waiting_at serial ws j) (names_w s ws i j) false

-- a working end that may stand at a place may have its waiter
unfoldable pub awaited_w : Starts → ℕ → List ℕ → ℕ → Bool
awaited_w s serial ws i = cond (working_at serial ws i) (some_below (length ws) (pair_w s serial ws i)) false

-- in words that can be read, no working end of the serial has its waiter
unfoldable pub apart_w : ℕ → List ℕ → Bool
apart_w serial ws =
    let s = surveyed standard 11 ws in
    cond (eqb s.engines 0) false (not (some_below (length ws) (awaited_w s serial ws)))
