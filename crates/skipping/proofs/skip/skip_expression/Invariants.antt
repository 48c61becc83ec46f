-- `skip_expression` of `skipping::skip` meets its contract. The invariant: the mirror's loop from here on gives
-- the same end. The measure is the turns that are left.
use Prim.Native.Nat.{◌≤◌}
use mathlib.Core.Path.{◌≡◌}
use lib.ListN.{length}
use Rattle.skipping.specs.Skip.{expr_loop, expr_skip}
use Rattle.skipping.proofs.skip.skip_expression.Given as goal

abbrev pub invariant-loop-left : goal.invariant-loop-left
invariant-loop-left l = (l.turns ≤ length l.ws) × (expr_loop l.turns l.ws l.left l.a ≡ expr_skip l.ws l.at)

abbrev pub decreases-loop-left : goal.decreases-loop-left
decreases-loop-left l = l.turns
