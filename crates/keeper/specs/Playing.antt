-- The game as the code goes through it. No contract of a call names it.
use Rattle.std.specs.Prelude.{ℕ, suc, ◌≤◌, ◌<◌, ◌≡◌, Bool, true, false, not, ◌&&◌, ◌||◌, cond, List, T, eqb}
use Rattle.sock.specs.Kind
use Rattle.sock.specs.Calls.{Answer, Stepped}
use Rattle.keeper.specs.Game.{keeper, river, moves, has_move, won, forces}
use Rattle.keeper.specs.Seeking.{side_of, move_at}

-- by a step's answer and its result's words
unfoldable pub delivers_by : ℕ → Answer → Bool
delivers_by serial a = (eqb a.kind Kind.executor || eqb a.kind Kind.notice) && eqb a.serial serial

unfoldable pub won_by : ℕ → (List ℕ → Bool) → Answer → List ℕ → Bool
won_by serial rest a words = cond (delivers_by serial a) (eqb a.fault 0) (rest words)

-- a move decides for the keeper if it wins, for the river if it does not
unfoldable pub turned : Bool → Bool → Bool
turned true v = not v
turned false v = v

unfoldable pub decides : Bool → (Stepped → Bool) → Stepped → Bool
decides b test x = turned b (test x)

-- the game with one move less, the other side to move
abbrev pub after : ℕ → ℕ → ℕ → Bool → Stepped → Bool
after engines serial left b = won serial (forces engines serial left (side_of (not b)))

-- the verdict on a configuration, and the move that decided; b is whether the river moves
pub record Forced (engines serial left : ℕ) (b : Bool) (ws : List ℕ) (v : Bool) (index : ℕ) : Type 0 where
  pub verdict : v ≡ forces engines serial left (side_of b) ws
  pub shown : b ≡ false → v ≡ true → index < 68719476736 → (j : ℕ) → left ≡ suc j → T (moves engines keeper ws (won serial (forces engines serial j river)) (move_at index))
  pub passed : b ≡ false → v ≡ true → 68719476736 ≤ index → has_move engines keeper ws ≡ false
  pub met : b ≡ false → index < 68719476736 → has_move engines keeper ws ≡ true

-- what the loop over a side's moves keeps: no move below a number decides, and where the number is not 0 there was one
pub record Going (engines serial left : ℕ) (b : Bool) (ws : List ℕ) (from : ℕ) : Type 0 where
  pub has : (from ≡ 0 → ⊥) → has_move engines (side_of b) ws ≡ true
  pub within : from ≤ 68719476736
  pub undecided : (j : ℕ) → j < from → T (moves engines (side_of b) ws (decides b (after engines serial left b)) (move_at j)) → ⊥
