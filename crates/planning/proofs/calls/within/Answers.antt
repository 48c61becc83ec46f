-- `within` of `planning::calls` meets its contract: no spot, no plan; else what is written is the plan's stand-in, then its translation, and the
-- verdicts on them are the call's.
use Prim.Native.Nat.{ℕ}
use native.Mathlib.Omega.{arith}
use mathlib.Core.Path.{refl, sym, ap, ◌∙◌}
use borrow.Author.Rules.{rules}
use lib.Seq.{length-take-le}
use Rattle.planning.specs.Translation.{translated}
use Rattle.planning.specs.Plan.{plan_words}
use Rattle.planning.proofs.Answers.{some_number, no_plan, unplanned, planned, one_plan, judged_as, measured_as, judged_no, measured_no, all_done, fits_out, first_over}
use Rattle.planning.proofs.calls.within.Goals as goal

pub returns-in_err-standing-clause-answered : goal.returns-in_err-standing-clause-answered
returns-in_err-standing-clause-answered c =
    let u = unplanned 6144 c.args.ws.now c.args.a.now c.args.b.now (λ i. (c.type_inv.ws i).fits) c.requires.0 c.requires.1 c.requires.2 c.rewrite.result _ _ c.rewrite.ensures c.in_err-standing.ensures.value in
    (no_plan c.args.ws.now c.args.out.now u.0 (search rules)).0

pub returns-in_err-standing-clause-written : goal.returns-in_err-standing-clause-written
returns-in_err-standing-clause-written c =
    let u = unplanned 6144 c.args.ws.now c.args.a.now c.args.b.now (λ i. (c.type_inv.ws i).fits) c.requires.0 c.requires.1 c.requires.2 c.rewrite.result _ _ c.rewrite.ensures c.in_err-standing.ensures.value in
    (no_plan c.args.ws.now c.args.out.now u.0 refl).1

pub slice_bounds-judge-end : goal.slice_bounds-judge-end
slice_bounds-judge-end c =
    let f = planned 6144 c.args.ws.now c.args.a.now c.args.b.now (λ i. (c.type_inv.ws i).fits) c.requires.0 c.requires.1 c.requires.2 c.rewrite.result _ _ c.rewrite.ensures c.in_ok-standing.ensures.value in
    f.1.inside

pub slice_bounds-judge-end-2 : goal.slice_bounds-judge-end-2
slice_bounds-judge-end-2 c =
    let f = planned 6144 c.args.ws.now c.args.a.now c.args.b.now (λ i. (c.type_inv.ws i).fits) c.requires.0 c.requires.1 c.requires.2 c.rewrite.result _ _ c.rewrite.ensures c.in_ok-standing.ensures.value in
    sym (length-take-le _ _ f.1.inside)

pub returns-in_err-judge-clause-answered : goal.returns-in_err-judge-clause-answered
returns-in_err-judge-clause-answered c =
    let f = planned 6144 c.args.ws.now c.args.a.now c.args.b.now (λ i. (c.type_inv.ws i).fits) c.requires.0 c.requires.1 c.requires.2 c.rewrite.result _ _ c.rewrite.ensures c.in_ok-standing.ensures.value in
    (judged_no c.args.ws.now c.args.out.now f.0 f.1.reads (judged_as f.1 c.in_err-judge.ensures) (some_number c.in_err-judge.field-0.0) (search rules)).0

pub returns-in_err-judge-clause-written : goal.returns-in_err-judge-clause-written
returns-in_err-judge-clause-written c =
    let f = planned 6144 c.args.ws.now c.args.a.now c.args.b.now (λ i. (c.type_inv.ws i).fits) c.requires.0 c.requires.1 c.requires.2 c.rewrite.result _ _ c.rewrite.ensures c.in_ok-standing.ensures.value in
    (judged_no c.args.ws.now c.args.out.now f.0 f.1.reads (judged_as f.1 c.in_err-judge.ensures) (some_number c.in_err-judge.field-0.0) refl).1

pub returns-in_err-translated-clause-answered : goal.returns-in_err-translated-clause-answered
returns-in_err-translated-clause-answered c =
    let u = unplanned 4096 c.args.ws.now c.rewrite.new.a c.rewrite.new.b (λ i. (c.type_inv.ws i).fits) c.requires.0 (c.rewrite.auto.a ∙ c.requires.1) (c.rewrite.auto.b ∙ c.requires.2) c.rewrite-2.result _ _ c.rewrite-2.ensures c.in_err-translated.ensures.value in
    (no_plan c.args.ws.now c.args.out.now u.0 (search rules)).0

pub returns-in_err-translated-clause-written : goal.returns-in_err-translated-clause-written
returns-in_err-translated-clause-written c =
    let u = unplanned 4096 c.args.ws.now c.rewrite.new.a c.rewrite.new.b (λ i. (c.type_inv.ws i).fits) c.requires.0 (c.rewrite.auto.a ∙ c.requires.1) (c.rewrite.auto.b ∙ c.requires.2) c.rewrite-2.result _ _ c.rewrite-2.ensures c.in_err-translated.ensures.value in
    (no_plan c.args.ws.now c.args.out.now u.0 refl).1

pub slice_bounds-measure-end : goal.slice_bounds-measure-end
slice_bounds-measure-end c =
    let g = planned 4096 c.args.ws.now c.rewrite.new.a c.rewrite.new.b (λ i. (c.type_inv.ws i).fits) c.requires.0 (c.rewrite.auto.a ∙ c.requires.1) (c.rewrite.auto.b ∙ c.requires.2) c.rewrite-2.result _ _ c.rewrite-2.ensures c.in_ok-translated.ensures.value in
    g.1.inside

pub slice_bounds-measure-end-2 : goal.slice_bounds-measure-end-2
slice_bounds-measure-end-2 c =
    let g = planned 4096 c.args.ws.now c.rewrite.new.a c.rewrite.new.b (λ i. (c.type_inv.ws i).fits) c.requires.0 (c.rewrite.auto.a ∙ c.requires.1) (c.rewrite.auto.b ∙ c.requires.2) c.rewrite-2.result _ _ c.rewrite-2.ensures c.in_ok-translated.ensures.value in
    sym (length-take-le _ _ g.1.inside)

pub returns-in_err-measure-clause-answered : goal.returns-in_err-measure-clause-answered
returns-in_err-measure-clause-answered c =
    let f = planned 6144 c.args.ws.now c.args.a.now c.args.b.now (λ i. (c.type_inv.ws i).fits) c.requires.0 c.requires.1 c.requires.2 c.rewrite.result _ _ c.rewrite.ensures c.in_ok-standing.ensures.value in
    let g = planned 4096 c.args.ws.now c.rewrite.new.a c.rewrite.new.b (λ i. (c.type_inv.ws i).fits) c.requires.0 (c.rewrite.auto.a ∙ c.requires.1) (c.rewrite.auto.b ∙ c.requires.2) c.rewrite-2.result _ _ c.rewrite-2.ensures c.in_ok-translated.ensures.value in
    let h = one_plan f.1 g.1 in
    (measured_no c.args.ws.now c.args.out.now f.0 f.1.reads (judged_as f.1 c.in_ok-judge.ensures) refl (measured_as _ h c.in_err-measure.ensures) (some_number c.in_err-measure.field-0.0) (search rules)).0

pub returns-in_err-measure-clause-written : goal.returns-in_err-measure-clause-written
returns-in_err-measure-clause-written c =
    let f = planned 6144 c.args.ws.now c.args.a.now c.args.b.now (λ i. (c.type_inv.ws i).fits) c.requires.0 c.requires.1 c.requires.2 c.rewrite.result _ _ c.rewrite.ensures c.in_ok-standing.ensures.value in
    let g = planned 4096 c.args.ws.now c.rewrite.new.a c.rewrite.new.b (λ i. (c.type_inv.ws i).fits) c.requires.0 (c.rewrite.auto.a ∙ c.requires.1) (c.rewrite.auto.b ∙ c.requires.2) c.rewrite-2.result _ _ c.rewrite-2.ensures c.in_ok-translated.ensures.value in
    let h = one_plan f.1 g.1 in
    (measured_no c.args.ws.now c.args.out.now f.0 f.1.reads (judged_as f.1 c.in_ok-judge.ensures) refl (measured_as _ h c.in_err-measure.ensures) (some_number c.in_err-measure.field-0.0) refl).1

pub returns-clause-answered : goal.returns-clause-answered
returns-clause-answered c =
    let f = planned 6144 c.args.ws.now c.args.a.now c.args.b.now (λ i. (c.type_inv.ws i).fits) c.requires.0 c.requires.1 c.requires.2 c.rewrite.result _ _ c.rewrite.ensures c.in_ok-standing.ensures.value in
    let g = planned 4096 c.args.ws.now c.rewrite.new.a c.rewrite.new.b (λ i. (c.type_inv.ws i).fits) c.requires.0 (c.rewrite.auto.a ∙ c.requires.1) (c.rewrite.auto.b ∙ c.requires.2) c.rewrite-2.result _ _ c.rewrite-2.ensures c.in_ok-translated.ensures.value in
    let h = one_plan f.1 g.1 in
    let n = measured_as _ h c.in_ok-measure.ensures in
    let long = h.length_is in
    let few = h.few in
    (all_done c.args.ws.now c.args.out.now f.0 f.1.reads (judged_as f.1 c.in_ok-judge.ensures) refl n refl (ap (λ (k : ℕ). record { number = 0; length = k }) (c.word_of.ensures ∙ omega arith)) refl).0

pub returns-clause-written : goal.returns-clause-written
returns-clause-written c =
    let f = planned 6144 c.args.ws.now c.args.a.now c.args.b.now (λ i. (c.type_inv.ws i).fits) c.requires.0 c.requires.1 c.requires.2 c.rewrite.result _ _ c.rewrite.ensures c.in_ok-standing.ensures.value in
    let g = planned 4096 c.args.ws.now c.rewrite.new.a c.rewrite.new.b (λ i. (c.type_inv.ws i).fits) c.requires.0 (c.rewrite.auto.a ∙ c.requires.1) (c.rewrite.auto.b ∙ c.requires.2) c.rewrite-2.result _ _ c.rewrite-2.ensures c.in_ok-translated.ensures.value in
    let h = one_plan f.1 g.1 in
    let n = measured_as _ h c.in_ok-measure.ensures in
    let fits = fits_out c.args.ws.now c.args.out.now f.0 f.1.reads (sym n) in
    let long = h.length_is in
    let few = h.few in
    (all_done c.args.ws.now c.args.out.now f.0 f.1.reads (judged_as f.1 c.in_ok-judge.ensures) refl n refl refl (c.copy.ensures.1 ∙ first_over c.rewrite-2.new.a c.args.out.now c.in_ok-translated.translated.to (plan_words (translated f.0)) h.part long h.inside (omega (arith, fits, long)))).1
