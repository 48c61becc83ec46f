-- `process_of` of `reading::calls` meets its contract: the part from where the survey has the engine begin to 64 words before where the next would.
use Rattle.sock.specs.Calls.{process_of}
use mathlib.Core.Path.{ap, ◌∙◌}
use Rattle.reading.proofs.Lent.{Lent, is_lent, none_lent, beyond_lent}
use Rattle.reading.specs.Answers.{starts_of}
use native.Mathlib.Omega.{arith}
use Rattle.sock.specs.Configuration.{standard}
use Rattle.reading.proofs.calls.process_of.Goals as goal
use Rattle.reading.proofs.calls.process_of.Goals.{In-Some-process}

-- what is known of the part, where there is such an engine
lent : (k : In-Some-process) → Lent standard k.args.ws.now (starts_of k.in-Some.s) k.wide.result
lent k = is_lent standard _ (λ i. (k.type_inv.ws i).fits) _ k.survey.ensures _ _ k.in-Some.is (k.in-Some-process.ensures {u = tt}).0

pub returns-in-None : goal.returns-in-None
returns-in-None c = none_lent standard _ (λ i. (c.type_inv.ws i).fits) _ c.survey.ensures c.args.engine c.in-None.is

pub returns-in-None-process : goal.returns-in-None-process
returns-in-None-process c =
    beyond_lent standard _ (λ i. (c.type_inv.ws i).fits) _ c.survey.ensures c.wide.result _ c.in-Some.is (c.in-None-process.ensures {u = tt})
    ∙ ap (process_of standard c.args.ws.now) c.wide.ensures.0

pub offset_bounds-ws-first : goal.offset_bounds-ws-first
offset_bounds-ws-first c = let l = lent c in let e = c.in-Some-process.ensures {u = tt} in omega (arith, e.1, l.forward, l.inside)

pub slice_bounds-result-count : goal.slice_bounds-result-count
slice_bounds-result-count c = let e = c.in-Some-process.ensures {u = tt} in rw (e.1, e.2) (lent c).forward

pub slice_bounds-result-start : goal.slice_bounds-result-start
slice_bounds-result-start c = let e = c.in-Some-process.ensures {u = tt} in rw (e.1, e.2) (lent c).forward

pub slice_bounds-result-end-in-Some-process : goal.slice_bounds-result-end-in-Some-process
slice_bounds-result-end-in-Some-process c = let e = c.in-Some-process.ensures {u = tt} in rw e.2 (lent c).inside

pub returns-in-Some-process : goal.returns-in-Some-process
returns-in-Some-process c =
    let k = (goal.at.returns-in-Some-process c).In-Some-process in
    let e = k.in-Some-process.ensures {u = tt} in
    rw (e.1, e.2) (lent k).part ∙ ap (process_of standard c.args.ws.now) c.wide.ensures.0
