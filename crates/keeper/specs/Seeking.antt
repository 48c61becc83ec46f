-- What the search for the moves of a side gives, step by step. No contract of a call names it.
use Rattle.std.specs.Prelude.{ℕ, ◌≤◌, ◌<◌, ◌≡◌, Bool, true, false, cond, List, Option, None, Some, Result, Ok, Err, T, leb, length, get_or, take, replicate}
use Rattle.sock.specs.Words.{kind_of}
use Rattle.sock.specs.Configuration.{standard, encode}
use Rattle.sock.specs.Calls.{Numbers as Asked, Answer, done, Stepped}
use Rattle.reading.specs.Survey.{surveyed}
use Rattle.noting.specs.declared.survey.Named.TheVariants as named
use Rattle.noting.specs.Noting.{survey_notes}
use Rattle.layout.specs.Positions.{onward}
use Rattle.layout.specs.Kinds.{counted_as}
use Rattle.layout.specs.declared.limit.Limits.{Limits}
use Rattle.finding.specs.declared.find.Site.{Site}
use Rattle.finding.specs.declared.find.Found.TheVariants.{Hit}
use Rattle.finding.specs.Find.{find_w}
use Rattle.stepping.specs.declared.bundles.Numbers.{Numbers}
use Rattle.stepping.specs.Bundles.{Engines, numbers_as, start_at}
use Rattle.stepping.specs.Stepping.{way_as, moves_w}
use Rattle.stepping.specs.declared.steps.Way.TheVariants.{Sending}
use Rattle.keeper.specs.Game.{Side, keeper, river, of_side, moved, any, moves}
use Rattle.keeper.specs.Moves.{numbers_at}
use Rattle.keeper.specs.Glances.{behind_w}

-- who moves, as the code says it
abbrev pub side_of : Bool → Side
side_of true = river
side_of false = keeper

abbrev pub large : Limits
large = record { deepest = 64; longest = 8192 }

-- the move with a number, and how many there are
abbrev pub move_at : ℕ → Asked
move_at i = numbers_as (numbers_at i)

abbrev pub all : ℕ
all = 68719476736

-- what one survey of a readable configuration leaves
pub record Surveyed (ws notes : List ℕ) (g : Engines) : Type 0 where
  pub noted : notes ≡ survey_notes standard named.All ws (replicate 16384 0)
  pub count : g.count ≡ (surveyed standard 11 ws).engines
  pub issued : g.issued ≡ get_or ws 1 0
  pub starts : g.starts ≡ (surveyed standard 11 ws).starts
  pub more : g.count ≡ 0 → ⊥
  pub words : (n : ℕ) → get_or ws n 0 < 65536

-- no step with this number is accepted; no move of a side has it
abbrev pub Refused : List ℕ → ℕ → Type 0
Refused ws i = (x : Stepped) → moved ws (move_at i) ≡ done x → ⊥

abbrev pub Idle : ℕ → Side → List ℕ → ℕ → Type 0
Idle engines side ws i = T (moves engines side ws any (move_at i)) → ⊥

-- an accepted step, its answer, and its result's words at the start of an output
pub record Made (ws : List ℕ) (i : ℕ) (a : Answer) (out : List ℕ) : Type 0 where
  pub stepped : Stepped
  pub accepted : moved ws (move_at i) ≡ done stepped
  pub kind : a.kind ≡ stepped.kind
  pub serial : a.serial ≡ stepped.serial
  pub fault : a.fault ≡ stepped.fault
  pub length : a.length ≡ length (encode stepped.config)
  pub words : take a.length out ≡ encode stepped.config

-- the first engine of a move is there
pub record There (ws notes : List ℕ) (g : Engines) (k : Numbers) (i : ℕ) : Type 0 where
  pub surveyed : Surveyed ws notes g
  pub index : i < 68719476736
  pub numbers : k ≡ numbers_at i
  pub inside : k.engine < g.count

-- the process found sends
abbrev pub Sends : List ℕ → List ℕ → Site → Type 0
Sends ws notes a = way_as (moves_w ws notes a.at (counted_as (kind_of (get_or ws a.at 0)))) ≡ Some Sending

-- the process at the first engine and position is the one found
pub record Here (ws notes : List ℕ) (g : Engines) (k : Numbers) (a : Site) (i : ℕ) : Type 0 where
  pub surveyed : Surveyed ws notes g
  pub index : i < 68719476736
  pub numbers : k ≡ numbers_at i
  pub inside : k.engine < g.count
  pub found : find_w 64 ws notes (onward (start_at g k.engine) k.position) 1 (start_at g k.engine) ≡ Hit a

-- the place of a position of an engine; none where no process can stand there or further on
unfoldable pub place_w : List ℕ → List ℕ → Engines → ℕ → ℕ → Option ℕ
place_w ws notes g e p =
    cond (leb (length ws) p) None (cond (behind_w notes (start_at g e) (onward (start_at g e) p)) None (Some (onward (start_at g e) p)))

-- no number is accepted from one on to the next that is looked at
pub record Passed (ws : List ℕ) (i next : ℕ) : Type 0 where
  pub further : i < next
  pub refused : (j : ℕ) → i ≤ j → j < next → Refused ws j

-- the receiver found, or the next number
abbrev pub Received : List ℕ → List ℕ → Engines → Numbers → ℕ → Result Site ℕ → Type 0
Received ws notes g k i (Ok b) = (k.second < g.count) × (find_w 64 ws notes (onward (start_at g k.second) k.second_position) 1 (start_at g k.second) ≡ Hit b)
Received ws notes g k i (Err n) = Passed ws i n

-- one number tried, and those passed by
pub record Tried (ws : List ℕ) (i : ℕ) (a : Answer) (next : ℕ) (out : List ℕ) : Type 0 where
  pub further : i < next
  pub refused : (a.number ≡ 0 → ⊥) → Refused ws i
  pub made : a.number ≡ 0 → Made ws i a out
  pub between : (j : ℕ) → i < j → j < next → Refused ws j

-- the same for a side
pub record Looked (engines : ℕ) (side : Side) (ws : List ℕ) (i : ℕ) (a : Answer) (next : ℕ) (out : List ℕ) : Type 0 where
  pub further : i < next
  pub refused : (a.number ≡ 0 → ⊥) → Idle engines side ws i
  pub mine : a.number ≡ 0 → T (of_side engines side (move_at i).engine)
  pub made : a.number ≡ 0 → Made ws i a out
  pub between : (j : ℕ) → i < j → j < next → Idle engines side ws j

-- the first move of a side from one number on; `all` if there is none
pub record Scanned (engines : ℕ) (side : Side) (ws : List ℕ) (from i : ℕ) (a : Answer) (out : List ℕ) : Type 0 where
  pub later : from ≤ 68719476736 → from ≤ i
  pub within : i ≤ 68719476736
  pub passed : (j : ℕ) → from ≤ j → j < i → Idle engines side ws j
  pub mine : i < 68719476736 → T (of_side engines side (move_at i).engine)
  pub made : i < 68719476736 → Made ws i a out
