-- The call keeper (document 02, m): its refusals and their order, the outcome, and what the move shown has to be.
use Rattle.std.specs.Prelude.{ℕ, suc, ◌*◌, ◌≡◌, cond, List, T, leb, eqb}
use Rattle.sock.specs.Configuration.{standard, Config}
use Rattle.sock.specs.Calls.{Numbers, Result, refused, done, number, known}
use Rattle.keeper.specs.Game.{keeper, river, kept, moved, accepts, has_move, won, forces}

-- 1 and 12 as for the ends; 23 "too many moves": more than 6; 10: scratch below seven times the configuration limit
unfoldable pub after_known : ℕ → ℕ → Result Config → ℕ
after_known k room (refused r) = number r
after_known k room (done c) = cond (leb k 6) (cond (leb (7 * 8192) room) 0 10) 23

unfoldable pub keeper_number : List ℕ → ℕ → ℕ → ℕ → ℕ
keeper_number ws serial k room = after_known k room (known standard ws serial)

-- The outcome: 0 no, 1 yes by a move, 2 yes by a pass, which is the keeper's first where he has no move; 0 with a refusal
unfoldable pub outcome_of : ℕ → ℕ → ℕ → List ℕ → ℕ
outcome_of engines serial k ws = cond (forces engines serial k keeper ws) (cond (has_move engines keeper ws) 1 2) 0

unfoldable pub keeper_outcome : List ℕ → ℕ → ℕ → ℕ → ℕ → ℕ
keeper_outcome ws engines serial k room = cond (eqb (keeper_number ws serial k room) 0) (outcome_of engines serial k ws) 0

abbrev pub no_numbers : Numbers
no_numbers = record { engine = 0; position = 0; second = 0; second_position = 0; branch = 0 }

-- Which winning move is shown is free: it is one of the keeper's side, accepted, and keeps the win with one move less. Else all five numbers are 0
pub record Shown (engines serial k : ℕ) (ws : List ℕ) (m : Numbers) : Type 0 where
  pub side : T (kept engines m.engine)
  pub keeps : (j : ℕ) → k ≡ suc j → T (accepts (won serial (forces engines serial j river)) (moved ws m))

pub record Showing (engines serial k : ℕ) (ws : List ℕ) (outcome : ℕ) (m : Numbers) : Type 0 where
  pub shown : outcome ≡ 1 → Shown engines serial k ws m
  pub hidden : (outcome ≡ 1 → ⊥) → m ≡ no_numbers
