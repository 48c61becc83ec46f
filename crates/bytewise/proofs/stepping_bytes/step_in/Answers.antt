-- `step_in` of `bytewise::stepping_bytes` meets its contract.
use mathlib.Core.Path.{ap, ◌∙◌}
use Rattle.std.proofs.Common.{ℕ, length}
use Rattle.std.proofs.lemmas.List.{length-replicate}
use Rattle.layout.specs.Limits.{figures}
use Rattle.stepping.specs.Bundles.{numbers_as}
use Rattle.bytewise.specs.Held.{held, room_of}
use Rattle.bytewise.proofs.Stepping.{sized_answer, sized_output}
use Rattle.bytewise.proofs.stepping_bytes.step_in.Goals as goal

pub returns : goal.returns
returns g c =
    let e = c.written.ensures in
    let m = figures c.args.m.limits in
    let k = numbers_as c.args.k in
    let words = c.held-ws.ensures ∙ ap (λ (n : ℕ). held n c.args.config.now) (length-replicate {A = ℕ} g.row.WORDS 0) in
    let room = ap (λ (n : ℕ). room_of n (length c.args.out.now)) (length-replicate {A = ℕ} g.row.RESULT 0) in
    record { answered = e.answered ∙ sized_answer m words k room; wrote = e.wrote ∙ sized_output m words k room c.args.out.now }
