-- `keeper` of `keeper::calls` meets its contract.
use native.Mathlib.Omega.{arith}
use mathlib.Core.Path.{refl, sym, ap, ◌∙◌}
use lib.ListN.{length}
use Rattle.std.proofs.lemmas.Result.{err_from_is_err_and}
use Rattle.sock.specs.Calls.{Ends}
use Rattle.layout.proofs.Refusing.{some_number}
use Rattle.keeper.specs.Answers.{refusal_number, number_in, outcome_in}
use Prim.Native.Nat.{ℕ}
use Rattle.keeper.specs.Game.{keeper, forces}
use Rattle.keeper.proofs.Losing.{lost_hope}
use Rattle.keeper.proofs.Pairing.{apart_by_words}
use Rattle.keeper.proofs.Answering.{lost_at_once, number_first, number_moves, number_short, number_none, outcome_none, outcome_played, given_up}
use Rattle.keeper.proofs.calls.keeper.Goals as goal

pub returns-in_err-e-clause-numbered : goal.returns-in_err-e-clause-numbered
returns-in_err-e-clause-numbered c =
    let p = err_from_is_err_and c.from_residual.result c.from_residual.ensures.1 in
    ap number_in p.1 ∙ ap refusal_number p.2
    ∙ number_first c.args.ws.now c.args.serial _ (ap (λ (y : Ends). y.number) c.in_err-e.ensures) c.args.k (length c.args.scratch.now) (some_number c.in_err-e.field-0.0)

pub returns-in_err-e-clause-decided : goal.returns-in_err-e-clause-decided
returns-in_err-e-clause-decided c =
    let p = err_from_is_err_and c.from_residual.result c.from_residual.ensures.1 in
    ap outcome_in p.1
    ∙ outcome_none c.args.ws.now c.args.engines c.args.serial c.args.k (length c.args.scratch.now) _
    (number_first c.args.ws.now c.args.serial _ (ap (λ (y : Ends). y.number) c.in_err-e.ensures) c.args.k (length c.args.scratch.now) (some_number c.in_err-e.field-0.0)) (some_number c.in_err-e.field-0.0)

pub returns-then-k-gt-MOVES-clause-numbered : goal.returns-then-k-gt-MOVES-clause-numbered
returns-then-k-gt-MOVES-clause-numbered c = number_moves c.args.ws.now c.args.serial 0 (ap (λ (y : Ends). y.number) c.in_ok-e.ensures) c.args.k (length c.args.scratch.now) refl c.if-k-gt-MOVES.true

pub returns-then-k-gt-MOVES-clause-decided : goal.returns-then-k-gt-MOVES-clause-decided
returns-then-k-gt-MOVES-clause-decided c =
    outcome_none c.args.ws.now c.args.engines c.args.serial c.args.k (length c.args.scratch.now) 23
    (number_moves c.args.ws.now c.args.serial 0 (ap (λ (y : Ends). y.number) c.in_ok-e.ensures) c.args.k (length c.args.scratch.now) refl c.if-k-gt-MOVES.true) (λ z. omega (arith, z))

pub returns-then-scratch-lt-SCRATCH-clause-numbered : goal.returns-then-scratch-lt-SCRATCH-clause-numbered
returns-then-scratch-lt-SCRATCH-clause-numbered c =
    ap refusal_number c.into.ensures
    ∙ number_short c.args.ws.now c.args.serial 0 (ap (λ (y : Ends). y.number) c.in_ok-e.ensures) c.args.k (length c.args.scratch.now) refl c.if-k-gt-MOVES.false c.if-scratch-lt-SCRATCH.true

pub returns-then-scratch-lt-SCRATCH-clause-decided : goal.returns-then-scratch-lt-SCRATCH-clause-decided
returns-then-scratch-lt-SCRATCH-clause-decided c =
    outcome_none c.args.ws.now c.args.engines c.args.serial c.args.k (length c.args.scratch.now) 10
    (number_short c.args.ws.now c.args.serial 0 (ap (λ (y : Ends). y.number) c.in_ok-e.ensures) c.args.k (length c.args.scratch.now) refl c.if-k-gt-MOVES.false c.if-scratch-lt-SCRATCH.true) (λ z. omega (arith, z))

pub returns-then-gone-clause-numbered : goal.returns-then-gone-clause-numbered
returns-then-gone-clause-numbered c =
    number_none c.args.ws.now c.args.serial 0 (ap (λ (y : Ends). y.number) c.in_ok-e.ensures) c.args.k (length c.args.scratch.now) refl c.if-k-gt-MOVES.false c.if-scratch-lt-SCRATCH.false

pub returns-then-gone-clause-decided : goal.returns-then-gone-clause-decided
returns-then-gone-clause-decided c =
    given_up c.args.ws.now c.args.engines c.args.serial c.args.k (length c.args.scratch.now) c.in_ok-e.e c.in_ok-e.ensures c.if-k-gt-MOVES.false c.if-scratch-lt-SCRATCH.false (sym c.gone.ensures ∙ c.if-gone.true)

pub returns-then-lost-clause-numbered : goal.returns-then-lost-clause-numbered
returns-then-lost-clause-numbered c =
    number_none c.args.ws.now c.args.serial 0 (ap (λ (y : Ends). y.number) c.in_ok-e.ensures) c.args.k (length c.args.scratch.now) refl c.if-k-gt-MOVES.false c.if-scratch-lt-SCRATCH.false

pub returns-then-lost-clause-decided : goal.returns-then-lost-clause-decided
returns-then-lost-clause-decided c =
    lost_at_once c.args.ws.now c.args.engines c.args.serial c.args.k (length c.args.scratch.now) (ap (λ (y : Ends). y.number) c.in_ok-e.ensures) c.if-k-gt-MOVES.false c.if-scratch-lt-SCRATCH.false
    (ap (λ (n : ℕ). forces c.args.engines c.args.serial n keeper c.args.ws.now) (sym c.wide.ensures.0) ∙ (lost_hope c.args.serial _ c.args.ws.now).none (sym c.lost.ensures ∙ c.if-lost.true) c.args.engines keeper)

pub returns-then-apart-clause-numbered : goal.returns-then-apart-clause-numbered
returns-then-apart-clause-numbered c =
    number_none c.args.ws.now c.args.serial 0 (ap (λ (y : Ends). y.number) c.in_ok-e.ensures) c.args.k (length c.args.scratch.now) refl c.if-k-gt-MOVES.false c.if-scratch-lt-SCRATCH.false

pub returns-then-apart-clause-decided : goal.returns-then-apart-clause-decided
returns-then-apart-clause-decided c =
    lost_at_once c.args.ws.now c.args.engines c.args.serial c.args.k (length c.args.scratch.now) (ap (λ (y : Ends). y.number) c.in_ok-e.ensures) c.if-k-gt-MOVES.false c.if-scratch-lt-SCRATCH.false
    (apart_by_words c.args.serial c.args.ws.now (λ i. (c.type_inv.ws i).fits) (sym c.apart.ensures ∙ c.if-apart.true) (sym (ap (λ (y : Ends). y.number) c.in_ok-e.ensures)) c.args.engines c.args.k keeper)

pub returns-clause-numbered : goal.returns-clause-numbered
returns-clause-numbered c =
    number_none c.args.ws.now c.args.serial 0 (ap (λ (y : Ends). y.number) c.in_ok-e.ensures) c.args.k (length c.args.scratch.now) refl c.if-k-gt-MOVES.false c.if-scratch-lt-SCRATCH.false

pub returns-clause-decided : goal.returns-clause-decided
returns-clause-decided c =
    outcome_played c.args.ws.now c.args.engines c.args.serial c.args.k (length c.args.scratch.now) 0
    (number_none c.args.ws.now c.args.serial 0 (ap (λ (y : Ends). y.number) c.in_ok-e.ensures) c.args.k (length c.args.scratch.now) refl c.if-k-gt-MOVES.false c.if-scratch-lt-SCRATCH.false) _ refl c.play.ensures.decided
