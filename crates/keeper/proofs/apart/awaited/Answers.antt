-- `awaited` of `keeper::apart` meets its contract.
use native.Mathlib.Omega.{arith}
use mathlib.Core.Path.{sym}
use lib.ListN.{length}
use Rattle.reading.specs.Answers.{starts_of}
use Rattle.keeper.specs.Pairs.{pair_w, awaited_w}
use Rattle.keeper.proofs.Some.{some_found, none_found}
use Rattle.keeper.proofs.apart.awaited.Goals as goal

pub returns-then-not-working_at : goal.returns-then-not-working_at
unfolding awaited_w
returns-then-not-working_at c = rw (sym c.if-not-working_at.ensures)

pub returns-then-pair : goal.returns-then-pair
unfolding awaited_w
returns-then-pair c =
    rw (sym c.if-not-working_at.ensures)
    (some_found (length c.args.ws.now) (pair_w (starts_of c.args.s.now) c.args.serial c.args.ws.now c.args.at) c.loop-to.to c.loop-to-test.true c.if-pair.ensures)

pub returns : goal.returns
unfolding awaited_w
returns c =
    rw (sym c.if-not-working_at.ensures)
    (none_found (length c.args.ws.now) (pair_w (starts_of c.args.s.now) c.args.serial c.args.ws.now c.args.at) λ j h. c.loop-to.invariant j (omega (arith, h, c.loop-to-test.false)))
