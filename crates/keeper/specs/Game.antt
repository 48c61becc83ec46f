-- Keeper against the river (document 02, m): whether the keeper can force that a serial is delivered by a reply within so many moves. A game over
-- words, for the standard figures.
use Rattle.std.specs.Prelude.{ℕ, zero, suc, ◌/◌, ◌%◌, ◌^◌, Bool, true, false, not, ◌&&◌, ◌||◌, cond, List, eqb}
use Rattle.sock.specs.Kind
use Rattle.sock.specs.Configuration.{standard, encode}
use Rattle.sock.specs.Calls.{Numbers, Result, refused, done, Stepped, step}

-- Keeper and river move in turn
pub data Side : Type 0 where
  keeper river : Side

-- the set of the keeper's engines is a number: engine e is in it where its bit e is 1. All other engines are the river's
unfoldable pub kept : ℕ → ℕ → Bool
kept engines e = eqb (engines / 2 ^ e % 2) 1

unfoldable pub of_side : ℕ → Side → ℕ → Bool
of_side engines keeper e = kept engines e
of_side engines river e = not (kept engines e)

-- ---- moves

-- Any step accepted with 8,192 words of output; journal enough changes nothing (`Bounds.journal_changes_nothing`)
unfoldable pub moved : List ℕ → Numbers → Result Stepped
moved ws k = step standard ws k 8192

-- accepted, and the step passes a test
unfoldable pub accepts : (Stepped → Bool) → Result Stepped → Bool
accepts test (refused r) = false
accepts test (done x) = test x

-- there is a number below n that passes a test
unfoldable pub some_below : ℕ → (ℕ → Bool) → Bool
some_below zero test = false
some_below (suc n) test = test n || some_below n test

-- there are five numbers, each 0 to 65,535
unfoldable pub some_numbers : (Numbers → Bool) → Bool
some_numbers test =
    some_below 65536 λ e. some_below 65536 λ p. some_below 65536 λ e'. some_below 65536 λ p'. some_below 65536 λ b.
    test (record { engine = e; position = p; second = e'; second_position = p'; branch = b })

-- a move of a side, with five numbers: the first engine is of that side. It is accepted and passes a test
unfoldable pub moves : ℕ → Side → List ℕ → (Stepped → Bool) → Numbers → Bool
moves engines side ws test k = of_side engines side k.engine && accepts test (moved ws k)

-- some move of a side passes a test; every move does; there is a move
unfoldable pub some_move : ℕ → Side → List ℕ → (Stepped → Bool) → Bool
some_move engines side ws test = some_numbers (moves engines side ws test)

unfoldable pub fails : (Stepped → Bool) → Stepped → Bool
fails test x = not (test x)

unfoldable pub every_move : ℕ → Side → List ℕ → (Stepped → Bool) → Bool
every_move engines side ws test = not (some_move engines side ws (fails test))

unfoldable pub any : Stepped → Bool
any x = true

unfoldable pub has_move : ℕ → Side → List ℕ → Bool
has_move engines side ws = some_move engines side ws any

-- ---- the game

-- it delivers the serial: the process that moved is of kind 16 or 18, with that serial
unfoldable pub delivers : ℕ → Stepped → Bool
delivers serial x = (eqb x.kind Kind.executor || eqb x.kind Kind.notice) && eqb x.serial serial

-- A move that delivers the serial decides: a reply wins, a fault loses. After any other the game goes on with the words of its result
unfoldable pub won : ℕ → (List ℕ → Bool) → Stepped → Bool
won serial rest x = cond (delivers serial x) (eqb x.fault 0) (rest (encode x.config))

-- Whether the keeper can force it within so many moves, from here on. A side that has a move must move; one without passes, which counts. The keeper
-- needs one move that wins, against every move of the river
unfoldable pub forces : ℕ → ℕ → ℕ → Side → List ℕ → Bool
forces engines serial zero side ws = false
forces engines serial (suc k) keeper ws =
    cond (has_move engines keeper ws)
    (some_move engines keeper ws (won serial (forces engines serial k river)))
    (forces engines serial k river ws)
forces engines serial (suc k) river ws =
    cond (has_move engines river ws)
    (every_move engines river ws (won serial (forces engines serial k keeper)))
    (forces engines serial k keeper ws)
