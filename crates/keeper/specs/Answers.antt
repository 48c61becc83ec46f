-- What the code answers, in the terms of the definitions; and a refusal's words.
use Rattle.std.specs.Prelude.{ℕ, Bool, true, false, Option, None, Some, List, Result, Ok, Err, codes}
use Rattle.sock.specs.Calls as sock
use Rattle.layout.specs.Refusals as layout
use Rattle.stepping.specs.Bundles.{numbers_as}
use Rattle.stepping.specs.Answers.{told}
use Rattle.stepping.specs.Answering.{refusing}
use Rattle.keeper.specs.Calls.{no_numbers}
use Rattle.keeper.specs.declared.refusal.Refusal.{Refusal}
use Rattle.keeper.specs.declared.refusal.Refusal.TheVariants.{Plain, TooManyMoves}
use Rattle.keeper.specs.declared.calls.Outcome.{Outcome}
use Rattle.keeper.specs.declared.calls.Outcome.TheVariants.{No, ByMove, ByPass}
use Rattle.keeper.specs.declared.moves.Side.{Side}
use Rattle.keeper.specs.declared.moves.Side.TheVariants.{Keeper, River}
use Rattle.keeper.specs.declared.seek.Move.{Move}

abbrev pub refusal_number : Refusal → ℕ
refusal_number (Plain r) = layout.refusal_number r
refusal_number TooManyMoves = 23

-- the number of what was refused, or 0
abbrev pub number_in : {A : Type 0} → Result A Refusal → ℕ
number_in (Ok a) = 0
number_in (Err r) = refusal_number r

-- what a refusal prints: the words of documents 01 and 02
abbrev pub text_of : Refusal → List ℕ
text_of (Plain r) = layout.text_of r
text_of TooManyMoves = codes "too many moves"

-- the outcome's number, 0 with a refusal; the move that it shows, all numbers 0 where there is none
abbrev pub outcome_number : Outcome → ℕ
outcome_number No = 0
outcome_number (ByMove m) = 1
outcome_number ByPass = 2

abbrev pub outcome_in : Result Outcome Refusal → ℕ
outcome_in (Ok o) = outcome_number o
outcome_in (Err r) = 0

abbrev pub move_of : Outcome → sock.Numbers
move_of No = no_numbers
move_of (ByMove m) = numbers_as m
move_of ByPass = no_numbers

abbrev pub move_in : Result Outcome Refusal → sock.Numbers
move_in (Ok o) = move_of o
move_in (Err r) = no_numbers

-- whether it is the river that moves
abbrev pub is_river : Side → Bool
is_river Keeper = false
is_river River = true

-- the number of a move, behind those of all where there is none; and what its step answers
abbrev pub index_or_all : Option ℕ → ℕ
index_or_all None = 68719476736
index_or_all (Some i) = i

abbrev pub index_in : Option Move → ℕ
index_in None = 68719476736
index_in (Some m) = m.index

abbrev pub answer_in : Option Move → sock.Answer
answer_in None = refusing 3
answer_in (Some m) = told (Ok m.accepted)
