-- `scan` of `keeper::seek::Search` meets its contract. The loop's invariant: no number before is a move of the side.
use Prim.Native.Nat.{ℕ, ◌-◌, ◌≤◌, ◌<◌}
use Rattle.keeper.specs.Answers.{is_river}
use Rattle.keeper.specs.Seeking.{side_of, Idle}
use Rattle.keeper.proofs.seek.Search.scan.Given as goal

abbrev pub invariant-loop-i : goal.invariant-loop-i
invariant-loop-i l = (l.from ≤ l.i) × ((j : ℕ) → l.from ≤ j → j < l.i → Idle l.mover.engines (side_of (is_river l.mover.side)) l.self.noted.ws.now j)

abbrev pub decreases-loop-i : goal.decreases-loop-i
decreases-loop-i l = 68719476736 - l.i
