-- `apart` of `keeper::apart` meets its contract.
use native.Mathlib.Omega.{arith}
use mathlib.Core.Bool.{true, false}
use lib.ListN.{length}
use Rattle.reading.specs.Answers.{starts_of}
use Rattle.keeper.specs.Pairs.{awaited_w}
use Rattle.keeper.proofs.Some.{some_found, none_found}
use Rattle.keeper.proofs.Pairing.{apart_unread, apart_read}
use Rattle.keeper.proofs.apart.apart.Goals as goal

pub returns-in_default : goal.returns-in_default
returns-in_default c = apart_unread c.args.serial c.args.ws.now c.in_default.ensures

pub returns-then-awaited : goal.returns-then-awaited
returns-then-awaited c =
    apart_read c.args.serial c.args.ws.now c.in-Some.s c.in-Some.ensures true
    (some_found (length c.args.ws.now) (awaited_w (starts_of c.in-Some.s) c.args.serial c.args.ws.now) c.loop-at.at c.loop-at-test.true c.if-awaited.ensures)

pub returns : goal.returns
returns c =
    apart_read c.args.serial c.args.ws.now c.in-Some.s c.in-Some.ensures false
    (none_found (length c.args.ws.now) (awaited_w (starts_of c.in-Some.s) c.args.serial c.args.ws.now) λ i h. c.loop-at.invariant i (omega (arith, h, c.loop-at-test.false)))
