-- `step_line` is what the definition says, whose digits are its own.
use Rattle.std.proofs.Common.{rules, arith, ◌<◌, ◌^◌}
use Rattle.stepping.specs.Answers.{told}
use Rattle.handover.proofs.Lines.{step_is}
use Rattle.handover.proofs.text.step_line.Goals as goal

pub returns : goal.returns
returns c =
    let a = told c.args.given in
    let p = c.parts-refusal.ensures in
    let i : c.args.number < 2 ^ 64 = omega arith in
    let n : a.number < 2 ^ 64 = omega (arith, p.0) in
    let k : a.kind < 2 ^ 64 = omega (arith, p.1) in
    let s : a.serial < 2 ^ 64 = omega (arith, p.2) in
    let f : a.fault < 2 ^ 64 = omega (arith, p.3) in
    rw (step_is c.args.number a i n k s f) (search rules)
