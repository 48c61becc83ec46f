-- The calls on words (document 01, "Calls"): from words, numbers and the output lent to the answer's every field and the output's every word.
use Rattle.std.specs.Prelude.{ℕ, ◌+◌, Bool, true, false, not, ◌&&◌, cond, List, [], ◌∷◌, ◌++◌, leb, ltb, eqb, length, get_or, set, take, drop}
use Rattle.std.proofs.Math.Option.{Option, none, some}
use Rattle.sock.specs.Words.{bit}
use Rattle.sock.specs.Term.{kind}
use Rattle.sock.specs.Running.{Run, nil, seq, par, scope, executor, waiter, notice, act, as_node, size}
use Rattle.sock.specs.Configuration.{Limits, Engine, Config, encode, engines_words, engines_depth, guarded, read_config, fresh}
use Rattle.sock.specs.Frames.{Frame, locate, plug}
use Rattle.sock.specs.Rules.{also, Move, stuck, alone, unvalued, sends, move_of, Meeting, Exchange, exchange}

-- The refusals, with the word that document 01 gives each
pub data Refusal : Type 0 where
  unreadable : Refusal  -- 1 "unreadable": configuration not readable
  nobody_there : Refusal  -- 2 "nobody there": first engine not below n, or position no enabled process's head
  no_move : Refusal  -- 3 "no move": no rule begins with the process; or it moves alone and a second field or branch isn't 0
  no_partner : Refusal  -- 4 "no partner": second engine or position as in 2
  no_fit : Refusal  -- 5 "no fit": rule for two not met, or the branch
  not_decimal : Refusal  -- 13 "not decimal": an operand of a decimal sum or difference has a digit above 9; tried after 5 and before 6
  installing : Refusal  -- 6 "installing": the climb meets a side that can't be killed
  serials_spent : Refusal  -- 7 "serials spent": solicit at issued 65,535
  deep : Refusal  -- 8 "deep": result beyond the depth
  long : Refusal  -- 9 "long": result beyond the words
  short : Refusal  -- 10 "short paper": output shorter than result
  not_fresh : Refusal  -- 11 "not fresh": readable, not fresh
  unknown_serial : Refusal  -- 12 "unknown serial": serial 0 or above issued
  unmatched : Refusal  -- 15 "journal doesn't match": taking back, after 1 and before 10
  journal_short : Refusal  -- 16 "journal short": the lent journal shorter than this step's; tried after 10
  index_short : Refusal  -- 17 "index short": fewer than 2,049 words, or not an index in order; tried before all others
  house_full : Refusal  -- 21 "house full": joining eight engines; tried after 1
  still_at_work : Refusal  -- 22 "still at work": leaving as the only engine, with a process that isn't nil, or named by an end; tried after 1

abbrev pub number : Refusal → ℕ
number unreadable = 1
number nobody_there = 2
number no_move = 3
number no_partner = 4
number no_fit = 5
number installing = 6
number serials_spent = 7
number deep = 8
number long = 9
number short = 10
number not_fresh = 11
number unknown_serial = 12
number not_decimal = 13
number unmatched = 15
number journal_short = 16
number index_short = 17
number house_full = 21
number still_at_work = 22

pub data Result (A : Type 0) : Type 0 where
  refused : Refusal → Result A
  done : A → Result A

infixl 20 ◌>>=◌
unfoldable pub ◌>>=◌ : {A B : Type 0} → Result A → (A → Result B) → Result B
◌>>=◌ (refused r) k = refused r
◌>>=◌ (done a) k = k a

unfoldable pub ◌>>◌ : {A B : Type 0} → Result A → Result B → Result B
◌>>◌ (refused r) k = refused r
◌>>◌ (done a) k = k

infix 30 ◌!◌
-- the refusal where there is nothing, and where a test fails
unfoldable pub ◌!◌ : {A : Type 0} → Refusal → Option A → Result A
◌!◌ r none = refused r
◌!◌ r (some a) = done a

infix 30 ◌unless◌
unfoldable pub ◌unless◌ : Refusal → Bool → Result (Unit {0})
◌unless◌ r true = done tt
◌unless◌ r false = refused r

-- ---- step

-- the five numbers handed to a step
pub record Numbers : Type 0 where
  pub engine : ℕ
  pub position : ℕ
  pub second : ℕ
  pub second_position : ℕ
  pub branch : ℕ

-- an enabled process where it stands: engine and its values, frames, process
pub record Spot : Type 0 where
  pub engine : ℕ
  pub values : List ℕ
  pub frames : List Frame
  pub process : Run

abbrev pub engine_at : Config → ℕ → Engine
engine_at c e = get_or c.engines e (record { values = []; process = nil })

-- an engine below n and the position of an enabled process's head
unfoldable pub enabled_at : Config → ℕ → ℕ → Option Spot
enabled_at c e p =
    guarded (ltb e (length c.engines))
    (also (locate (engine_at c e).process p []) λ l.
    some (record { engine = e; values = (engine_at c e).values; frames = l.frames; process = l.process }))

-- a process that has a move; one that moves alone wants the second fields and the branch 0
unfoldable pub movable : Numbers → Move → Option Move
movable k stuck = none
movable k (alone vs p) = guarded (eqb k.second 0 && eqb k.second_position 0 && eqb k.branch 0) (some (alone vs p))
movable k unvalued = guarded (eqb k.second 0 && eqb k.second_position 0 && eqb k.branch 0) (some unvalued)
movable k (sends m) = some (sends m)

-- who receives; a process that moves alone is its own partner
unfoldable pub partner : Config → Numbers → Spot → Move → Option Spot
partner c k a stuck = none
partner c k a (alone vs p) = some a
partner c k a unvalued = some a
partner c k a (sends m) = enabled_at c k.second k.second_position

-- what the rule makes of it: the engine's values and process, or an exchange between two different engines; none where an expression has
-- no value
pub data Effect : Type 0 where
  lone : List ℕ → Option Run → Effect
  between : Exchange → Effect

abbrev pub meeting : Config → Numbers → Spot → Spot → Meeting
meeting c k a b =
    record { issued = c.issued; sender = a.engine; receiver = b.engine; values = b.values; process = b.process; branch = k.branch }

unfoldable pub effect : Config → Numbers → Spot → Spot → Move → Option (Option Effect)
effect c k a b stuck = none
effect c k a b (alone vs p) = some (some (lone vs p))
effect c k a b unvalued = some none
effect c k a b (sends m) =
    guarded (not (eqb a.engine b.engine))
    (also (exchange (meeting c k a b) m) λ x. some (some (between x)))

-- the next configuration, with what the answer says of the step
pub record Stepped : Type 0 where
  pub config : Config
  pub kind : ℕ
  pub serial : ℕ
  pub fault : ℕ

abbrev pub with_engine : ℕ → List ℕ → Run → List Engine → List Engine
with_engine e vs p es = set es e (record { values = vs; process = p })

unfoldable pub carried_out : Config → Spot → Spot → Effect → Option Stepped
carried_out c a b (lone vs none) = none
carried_out c a b (lone vs (some p)) =
    some
    (record {
      config = record { issued = c.issued; engines = with_engine a.engine vs p c.engines };
      kind = kind (as_node a.process);
      serial = 0;
      fault = 0;
    })
carried_out c a b (between x) =
    some
    (record {
      config =
          record {
            issued = x.issued;
            engines =
                with_engine b.engine x.values (plug b.frames x.receiver)
                (with_engine a.engine a.values (plug a.frames x.sender) c.engines);
          };
      kind = kind (as_node a.process);
      serial = x.serial;
      fault = x.fault;
    })

-- A step on a configuration's words, with an output of `room` words. The refusals are tried in this order.
unfoldable pub step : Limits → List ℕ → Numbers → ℕ → Result Stepped
step limits ws k room = do
  c ← unreadable ! read_config limits ws
  a ← nobody_there ! enabled_at c k.engine k.position
  m ← no_move ! movable k (move_of a.values a.frames a.process)
  b ← no_partner ! partner c k a m
  o ← no_fit ! effect c k a b m
  x ← not_decimal ! o
  s ← installing ! carried_out c a b x
  serials_spent unless leb s.config.issued 65535
  deep unless leb (engines_depth s.config.engines) limits.deepest
  long unless leb (length (encode s.config)) limits.longest
  short unless leb (length (encode s.config)) room
  done s

-- The answer: all other fields of a refusal are 0
pub record Answer : Type 0 where
  pub number : ℕ
  pub kind : ℕ
  pub serial : ℕ
  pub fault : ℕ
  pub length : ℕ

unfoldable pub answer_of : Result Stepped → Answer
answer_of (refused r) = record { number = number r; kind = 0; serial = 0; fault = 0; length = 0 }
answer_of (done s) =
    record { number = 0; kind = s.kind; serial = s.serial; fault = s.fault; length = length (encode s.config) }

-- the words u laid over the output o
abbrev pub over : List ℕ → List ℕ → List ℕ
over u o = u ++ drop (length u) o

-- The output afterwards: a refusal changes no word, and output past length keeps its words
unfoldable pub output_of : Result Stepped → List ℕ → List ℕ
output_of (refused r) out = out
output_of (done s) out = over (encode s.config) out

unfoldable pub step_answer : Limits → List ℕ → Numbers → List ℕ → Answer
step_answer limits ws k out = answer_of (step limits ws k (length out))

unfoldable pub step_output : Limits → List ℕ → Numbers → List ℕ → List ℕ
step_output limits ws k out = output_of (step limits ws k (length out)) out

-- ---- the checks

unfoldable pub passed : {A : Type 0} → Result A → ℕ
passed (refused r) = number r
passed (done a) = 0

-- Readable check: 1
unfoldable pub check_readable : Limits → List ℕ → ℕ
check_readable limits ws = passed (unreadable ! read_config limits ws)

-- Start check: 1, then 11
unfoldable pub start : Limits → List ℕ → Result Config
start limits ws = do
  c ← unreadable ! read_config limits ws
  not_fresh unless fresh c
  done c

unfoldable pub check_start : Limits → List ℕ → ℕ
check_start limits ws = passed (start limits ws)

-- ---- ends

-- A waiting end is a process of kind 17, a working end one of kind 16 or 18; they stand only enabled: serial, operation, engine named
pub data End : Type 0 where
  waiting : ℕ → ℕ → ℕ → End
  working : ℕ → ℕ → ℕ → End

-- The end that a process is, and whether it is one that passes a test
abbrev pub end_of : Run → Option End
end_of nil = none
end_of (seq p q) = none
end_of (par p q) = none
end_of (scope name mark zombie h p) = none
end_of (executor o y client serial p) = some (working serial o client)
end_of (waiter o x dead server serial l) = some (waiting serial o server)
end_of (notice o f client serial) = some (working serial o client)
end_of (act p) = none

abbrev pub of_end : (End → Bool) → Option End → Bool
of_end test none = false
of_end test (some x) = test x

abbrev pub is_end : (End → Bool) → Run → Bool
is_end test r = of_end test (end_of r)

-- how many ends pass a test
unfoldable pub tally : (End → Bool) → Run → ℕ
tally test nil = 0
tally test (seq p q) = tally test p
tally test (par p q) = tally test p + tally test q
tally test (scope name mark zombie h p) = tally test p
tally test (executor o y client serial p) = bit (is_end test (executor o y client serial p)) + tally test p
tally test (waiter o x dead server serial l) = bit (is_end test (waiter o x dead server serial l))
tally test (notice o f client serial) = bit (is_end test (notice o f client serial))
tally test (act p) = 0

unfoldable pub tally_all : (End → Bool) → List Engine → ℕ
tally_all test [] = 0
tally_all test (e ∷ es) = tally test e.process + tally_all test es

unfoldable pub waits : ℕ → End → Bool
waits s (waiting serial o engine) = eqb s serial
waits s (working serial o engine) = false

unfoldable pub works : ℕ → End → Bool
works s (waiting serial o engine) = false
works s (working serial o engine) = eqb s serial

pub record Ends : Type 0 where
  pub number : ℕ
  pub waiters : ℕ
  pub workers : ℕ

-- Ends: 1, then 12; else the two counts
unfoldable pub known : Limits → List ℕ → ℕ → Result Config
known limits ws s = do
  c ← unreadable ! read_config limits ws
  unknown_serial unless (ltb 0 s && leb s c.issued)
  done c

unfoldable pub counted : ℕ → Result Config → Ends
counted s (refused r) = record { number = number r; waiters = 0; workers = 0 }
counted s (done c) = record { number = 0; waiters = tally_all (waits s) c.engines; workers = tally_all (works s) c.engines }

unfoldable pub ends : Limits → List ℕ → ℕ → Ends
ends limits ws s = counted s (known limits ws s)

-- ---- process of an engine

-- a part of the caller's words: the first word and the count of words, counted from the configuration's start
pub record Part : Type 0 where
  pub first : ℕ
  pub count : ℕ

-- Process of an engine: empty if unreadable or no such engine
unfoldable pub part_in : ℕ → Option Config → Part
part_in e none = record { first = 0; count = 0 }
part_in e (some c) =
    cond (ltb e (length c.engines))
    (record { first = 2 + length (engines_words (take e c.engines)) + 64; count = size (engine_at c e).process })
    (record { first = 0; count = 0 })

unfoldable pub process_part : Limits → List ℕ → ℕ → Part
process_part limits ws e = part_in e (read_config limits ws)

unfoldable pub process_of : Limits → List ℕ → ℕ → List ℕ
process_of limits ws e = take (process_part limits ws e).count (drop (process_part limits ws e).first ws)
