-- The room that a rule needs in scratch: twice the words of the configuration, and a few; and what inst needs more.
-- Assumes nothing.
use Prim.Native.Nat.{ℕ, ◌+◌, ◌≤◌}
use mathlib.Core.List.{List}
use lib.ListN.{length}
use Rattle.rules.specs.Editing.{Edited}

pub record Roomy (ws fresh : List ℕ) : Type 0 where
  pub twice : length ws + length ws ≤ length fresh
  pub few : 512 ≤ length fresh

-- the fresh words of an edit leave the room that inst wants to spare, unless they are too many for any result
abbrev pub Spacious : Edited → List ℕ → Type 0
Spacious u fresh = u.edit.fresh ≤ 8193 → u.edit.fresh + 130 ≤ length fresh
