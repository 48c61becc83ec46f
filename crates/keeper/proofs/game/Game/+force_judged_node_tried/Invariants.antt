-- The game meets its contract. Four for each move left is the measure, so that each call within a move is less too. The loop over a side's moves: no
-- move so far decides, and where the next number is not 0 there was one.
use Prim.Native.Nat.{◌+◌, ◌-◌, ◌*◌}
use Rattle.keeper.specs.Answers.{is_river}
use Rattle.keeper.specs.Playing.{Going}
use Rattle.keeper.proofs.game.Game.+force_judged_node_tried.Given as goal

abbrev pub decreases-force : goal.decreases-force
decreases-force l = 4 * l.left + 1

abbrev pub decreases-judged : goal.decreases-judged
decreases-judged l = 4 * l.left + 2

abbrev pub decreases-node : goal.decreases-node
decreases-node l = 4 * l.left

abbrev pub decreases-tried : goal.decreases-tried
decreases-tried l = 4 * l.left + 3

abbrev pub invariant-tried-loop-m : goal.invariant-tried-loop-m
invariant-tried-loop-m l = Going l.self.engines l.self.serial l.left (is_river l.side) l.search.noted.ws.now l.from

abbrev pub decreases-tried-loop-m : goal.decreases-tried-loop-m
decreases-tried-loop-m l = 68719476736 - l.from
