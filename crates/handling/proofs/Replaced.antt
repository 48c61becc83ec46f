-- What replacing cH on words has to do, beside the definitions' replacing: the old process as the code knows it, and what is written.
-- Assumes nothing.
use Prim.Native.Nat.{ℕ, ◌+◌, ◌*◌, ◌≤◌}
use mathlib.Core.Path.{◌≡◌}
use mathlib.Core.Bool.{false}
use mathlib.Core.List.{List, ◌++◌}
use lib.ListN.{length, drop}
use Rattle.sock.specs.Term.{Node, is_nil}
use Rattle.sock.specs.Layout.{words, depth}
use Rattle.sock.specs.Handlers.{replaced}
use Rattle.writers.proofs.Laid.{Laid}
use Rattle.handling.specs.Replacing.{Wrote}
use Rattle.handling.specs.declared.replace.Old.{Old}

-- what `Old` stands for: the node o, whose words stand from..upto in ws unless it is nil
pub record OldIs (ws : List ℕ) (old : Old) (o : Node) : Type 0 where
  pub empty : old.nil ≡ is_nil o
  pub deep : old.levels ≡ depth o
  pub stands : is_nil o ≡ false → (rest : List ℕ) × ((drop old.from ws ≡ words o ++ rest) × (old.upto ≡ old.from + length (words o)))

-- what replacing cH by o in m, which stands at i, has written at `to` with d levels left
pub record Replaced (o m : Node) (d i : ℕ) (out : List ℕ) (to : ℕ) (w : Wrote) : Type 0 where
  pub ends : w.answer.end ≡ i + length (words m)
  pub empty : w.answer.nil ≡ is_nil (replaced o m)
  pub deep : w.answer.levels ≡ depth (replaced o m)
  pub reaches : w.answer.to ≡ to + length (words (replaced o m))
  pub keeps : length w.out ≡ length out
  -- a par's head may stand in front while its right side is not known, hence the spare room
  pub laid : to + length (words (replaced o m)) + 2 * d ≤ length out → Laid out to (words (replaced o m)) w.out
