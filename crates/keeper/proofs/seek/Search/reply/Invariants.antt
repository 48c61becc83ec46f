-- `reply` of `keeper::seek::Search` meets its contract. The loop's invariant: no number before is a reply of the side.
use Prim.Native.Nat.{ℕ, ◌-◌, ◌<◌}
use lib.Dec.{T}
use Rattle.keeper.specs.Answers.{is_river}
use Rattle.keeper.specs.Game.{of_side}
use Rattle.keeper.specs.Seeking.{side_of, move_at}
use Rattle.keeper.specs.Replies.{Quiet}
use Rattle.keeper.proofs.seek.Search.reply.Given as goal

abbrev pub invariant-loop-i : goal.invariant-loop-i
invariant-loop-i l = (j : ℕ) → j < l.i → T (of_side l.mover.engines (side_of (is_river l.mover.side)) (move_at j).engine) → Quiet l.serial l.self.noted.ws.now j

abbrev pub decreases-loop-i : goal.decreases-loop-i
decreases-loop-i l = 68719476736 - l.i
