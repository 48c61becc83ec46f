-- `play` of `keeper::calls` meets its contract.
use native.Mathlib.Omega.{arith}
use mathlib.Core.Path.{◌≡◌, refl, sym, ap}
use mathlib.Core.Bool.{Bool, true, false, not}
use Rattle.keeper.specs.Answers.{index_or_all}
use Rattle.keeper.proofs.Answering.{said_no, said_pass, said_move, showing_move, decided_at}
use Rattle.keeper.proofs.calls.play.Goals as goal

not_false : (b : Bool) → not b ≡ false → b ≡ true
not_false true e = refl
not_false false e = sym e

not_true : (b : Bool) → not b ≡ true → b ≡ false
not_true true e = sym e
not_true false e = refl

pub returns-then-not-v-clause-decided : goal.returns-then-not-v-clause-decided
returns-then-not-v-clause-decided c =
    said_no c.args.game.engines c.args.game.serial c.args.k c.args.ws.now _ c.wide.ensures.0 _ _ c.force-v.ensures.forced (not_true _ c.if-not-v.true)

pub returns-in-Some-clause-decided : goal.returns-in-Some-clause-decided
returns-in-Some-clause-decided c =
    let d = decided_at c.args.game.engines c.args.game.serial _ _ _ _ _ c.in-Some.is c.force-v.ensures.forced c.force-v.ensures.there in
    said_move c.args.game.engines c.args.game.serial c.args.k c.args.ws.now _ c.wide.ensures.0 _ _ d.0 (not_false _ c.if-not-v.false) d.1

pub returns-in-Some-clause-shown : goal.returns-in-Some-clause-shown
returns-in-Some-clause-shown c =
    let d = decided_at c.args.game.engines c.args.game.serial _ _ _ _ _ c.in-Some.is c.force-v.ensures.forced c.force-v.ensures.there in
    showing_move c.args.game.engines c.args.game.serial c.args.k c.args.ws.now _ c.wide.ensures.0 _ _ d.0 (not_false _ c.if-not-v.false) d.1 _ c.numbers_at.ensures

pub returns-in-None-clause-decided : goal.returns-in-None-clause-decided
returns-in-None-clause-decided c =
    said_pass c.args.game.engines c.args.game.serial c.args.k c.args.ws.now _ c.wide.ensures.0 _ _ c.force-v.ensures.forced (not_false _ c.if-not-v.false) (omega (arith, ap index_or_all c.in-None.is))
