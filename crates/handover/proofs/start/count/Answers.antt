-- `count` meets its contract.
use Rattle.std.proofs.Common.{arith, ◌∙◌}
use Rattle.handover.proofs.Starting.{count_missing, count_found}
use Rattle.handover.proofs.start.count.Goals as goal

pub returns-in_default : goal.returns-in_default
returns-in_default c = omega (arith, count_missing c.args.head.now c.in_default.len_below)

pub returns-then-n-le-LONGEST : goal.returns-then-n-le-LONGEST
returns-then-n-le-LONGEST c =
    let is = count_found c.args.head.now c.word.result c.in-len2-up.len_at_least c.word.ensures in
    (c.from-n.ensures ∙ is, omega arith)

pub returns-else-n-le-LONGEST : goal.returns-else-n-le-LONGEST
returns-else-n-le-LONGEST c =
    let is = count_found c.args.head.now c.word.result c.in-len2-up.len_at_least c.word.ensures in
    omega (arith, is)
