-- `ready` of `keeper::hope` meets its contract.
use native.Mathlib.Omega.{arith}
use lib.ListN.{length}
use Rattle.keeper.specs.Hopes.{ready_at, ready_w}
use Rattle.keeper.proofs.Some.{some_found, none_found}
use Rattle.keeper.proofs.hope.ready.Goals as goal

pub returns-then-ready_at : goal.returns-then-ready_at
unfolding ready_w
returns-then-ready_at c = some_found (length c.args.ws.now) (ready_at c.args.serial c.args.ws.now) c.loop-at.at c.loop-at-test.true c.if-ready_at.ensures

pub returns : goal.returns
unfolding ready_w
returns c = none_found (length c.args.ws.now) (ready_at c.args.serial c.args.ws.now) λ i h. c.loop-at.invariant i (omega (arith, h, c.loop-at-test.false))
