-- `take_back_indexed` of `index::back` meets its contract: the taking back, and the index of what it restored.
use mathlib.Core.Path.{refl, sym, ◌∙◌}
use borrow.Author.Rules.{rules}
use borrow.Author.Tests.{eqb-false}
use lib.Seq.{length-take-le}
use Rattle.layout.proofs.Refusing.{never_zero}
use Rattle.index.proofs.Answering.{back_unlisted, back_refuses, back_within, back_accepts}
use Rattle.index.proofs.back.take_back_indexed.Goals as goal

as_answered_wrote_relisted : {A B C : Type 0} → A × (B × C) → record { answered : A; wrote : B; relisted : C }
as_answered_wrote_relisted p = record { answered = p.0; wrote = p.1.0; relisted = p.1.1 }

pub returns-then-not-in_order : goal.returns-then-not-in_order
returns-then-not-in_order c =
    let a = c.args in as_answered_wrote_relisted (back_unlisted a.ws.now a.journal.now a.out.now a.index.now (sym c.in_order.ensures ∙ c.if-not-in_order.true))

pub returns-in_err-length : goal.returns-in_err-length
returns-in_err-length c =
    let a = c.args in
    let r = c.in_err-length.ensures in
    let (answer, kept) = back_refuses a.ws.now a.journal.now a.out.now a.index.now (sym c.in_order.ensures ∙ c.if-not-in_order.false) _ r.answered _ r.wrote (eqb-false _ 0 (never_zero c.in_err-length.field-0.0)) in
    record { answered = search (rules, answer); wrote = kept.0; relisted = kept.1 }

pub slice_bounds-list_anew-end : goal.slice_bounds-list_anew-end
slice_bounds-list_anew-end c =
    let a = c.args in
    let t = c.in_ok-length.ensures in
    back_within a.ws.now a.journal.now a.out.now a.index.now (sym c.in_order.ensures ∙ c.if-not-in_order.false) _ t.answered _ t.wrote refl _ c.from.ensures

pub slice_bounds-list_anew-end-2 : goal.slice_bounds-list_anew-end-2
slice_bounds-list_anew-end-2 c =
    let a = c.args in
    let t = c.in_ok-length.ensures in
    sym (length-take-le _ _ (back_within a.ws.now a.journal.now a.out.now a.index.now (sym c.in_order.ensures ∙ c.if-not-in_order.false) _ t.answered _ t.wrote refl _ c.from.ensures))

pub returns : goal.returns
returns c =
    let a = c.args in
    let t = c.in_ok-length.ensures in as_answered_wrote_relisted (back_accepts a.ws.now a.journal.now a.out.now a.index.now (sym c.in_order.ensures ∙ c.if-not-in_order.false) _ t.answered _ t.wrote refl _ c.from.ensures _ c.list_anew.ensures)
