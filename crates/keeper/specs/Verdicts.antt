-- What the game's functions answer, in the terms of the game. No contract of a call names it.
use Rattle.std.specs.Prelude.{ℕ, suc, ◌<◌, ◌≡◌, Bool, false, List, Option, None, Some, IfSome}
use Rattle.keeper.specs.declared.game.Verdict.{Verdict}
use Rattle.keeper.specs.Answers.{index_or_all}
use Rattle.keeper.specs.Game.{has_move}
use Rattle.keeper.specs.Seeking.{side_of}
use Rattle.keeper.specs.Playing.{Forced}

-- a verdict on a configuration; b is whether the river moves
pub record Judged (engines serial left : ℕ) (b : Bool) (ws : List ℕ) (v : Verdict) : Type 0 where
  pub forced : Forced engines serial left b ws v.forced (index_or_all v.decided)
  pub there : IfSome v.decided (λ i. i < 68719476736)

-- the verdict by a side's moves, or none where it has no move
abbrev pub TriedAll : ℕ → ℕ → ℕ → Bool → List ℕ → Option Verdict → Type 0
TriedAll engines serial left b ws None = has_move engines (side_of b) ws ≡ false
TriedAll engines serial left b ws (Some v) = Judged engines serial (suc left) b ws v
