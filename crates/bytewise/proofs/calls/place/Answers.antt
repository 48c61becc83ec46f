-- `place` of `bytewise::calls` meets its contract.
use native.Mathlib.Omega.{arith}
use Rattle.reading.specs.Answers.{starts_of}
use Rattle.bytewise.proofs.Placing.{Placed, is_placed, none_placed}
use Rattle.bytewise.proofs.calls.place.Goals as goal
use Rattle.bytewise.proofs.calls.place.Goals.{In-Some}

-- what is known of the part, where there is such an engine
placed : (k : In-Some) → Placed k.args.ws.now (starts_of k.args.s) k.args.e
placed k = is_placed _ (λ i. (k.type_inv.ws i).fits) _ k.requires _ (k.in-Some.ensures {u = tt}).0

pub returns-in-None : goal.returns-in-None
returns-in-None c = none_placed c.args.ws.now (λ i. (c.type_inv.ws i).fits) _ c.requires c.args.e (c.in-None.ensures {u = tt})

pub overflow_mul-result : goal.overflow_mul-result
overflow_mul-result c = let p = placed c in let e = c.in-Some.ensures {u = tt} in omega (arith, e.1, p.forward, p.inside)

pub overflow_sub-result : goal.overflow_sub-result
overflow_sub-result c =
    let k = (goal.at.overflow_sub-result c).In-Some in
    let p = placed k in
    let e = k.in-Some.ensures {u = tt} in
    omega (arith, e.1, e.2, p.forward, p.inside)

pub overflow_add-result : goal.overflow_add-result
overflow_add-result c =
    let k = (goal.at.overflow_add-result c).In-Some in
    let p = placed k in
    let e = k.in-Some.ensures {u = tt} in
    omega (arith, e.1, e.2, p.forward, p.inside)

pub returns-in-Some : goal.returns-in-Some
returns-in-Some c =
    let k = (goal.at.returns-in-Some c).In-Some in
    let e = k.in-Some.ensures {u = tt} in
    rw (e.1, e.2) (placed k).part
