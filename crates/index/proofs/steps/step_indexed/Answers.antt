-- `step_indexed` of `index::steps` meets its contract: the step with a journal, and what follows by its answer.
use mathlib.Core.Path.{refl, sym, ◌∙◌}
use borrow.Author.Rules.{rules}
use borrow.Author.Tests.{eqb-false}
use Rattle.layout.proofs.Refusing.{never_zero}
use Rattle.stepping.specs.Bundles.{numbers_as}
use Rattle.index.proofs.Answering.{step_unlisted, step_refuses, step_accepts}
use Rattle.index.proofs.steps.step_indexed.Goals as goal

as_answered_wrote_noted_followed : {A B C D : Type 0} → A × (B × (C × D)) → record { answered : A; wrote : B; noted : C; followed : D }
as_answered_wrote_noted_followed p = record { answered = p.0; wrote = p.1.0; noted = p.1.1.0; followed = p.1.1.1 }

pub returns-then-not-in_order : goal.returns-then-not-in_order
returns-then-not-in_order c =
    let a = c.args in as_answered_wrote_noted_followed (step_unlisted a.ws.now (numbers_as a.k) a.out.now a.journal.now a.index.now (sym c.in_order.ensures ∙ c.if-not-in_order.true))

pub returns-in_err-given : goal.returns-in_err-given
returns-in_err-given c =
    let a = c.args in
    let r = c.in_err-given.ensures in
    let (answer, kept) = step_refuses a.ws.now (numbers_as a.k) a.out.now a.journal.now a.index.now (sym c.in_order.ensures ∙ c.if-not-in_order.false) _ r.answered _ _ r.wrote r.noted (eqb-false _ 0 (never_zero c.in_err-given.field-0.0)) in
    record { answered = search (rules, answer); wrote = kept.0; noted = kept.1.0; followed = kept.1.1 }

pub returns : goal.returns
returns c =
    let a = c.args in
    let g = c.in_ok-given.ensures in as_answered_wrote_noted_followed (step_accepts a.ws.now (numbers_as a.k) a.out.now a.journal.now a.index.now (sym c.in_order.ensures ∙ c.if-not-in_order.false) _ g.answered _ _ g.wrote g.noted refl _ c.follow.ensures)
