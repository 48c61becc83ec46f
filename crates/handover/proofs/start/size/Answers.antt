-- `size` meets its contract.
use Rattle.std.proofs.Common.{◌≡◌, ◌*◌, arith, ap, ◌∙◌}
use Rattle.handover.specs.Printed.{wanted_for, count_in}
use Rattle.handover.proofs.Starting.{none_wanted, some_wanted}
use Rattle.handover.proofs.start.size.Goals as goal

pub returns-in-Some-clause-bytes : goal.returns-in-Some-clause-bytes
returns-in-Some-clause-bytes c =
    let n = c.in-Some.n in
    let twice : 2 * n ≡ n * 2 = omega arith in
    twice ∙ some_wanted n c.in-Some.ensures.1 ∙ ap wanted_for c.in-Some.ensures.0

pub returns-in-None-clause-bytes : goal.returns-in-None-clause-bytes
returns-in-None-clause-bytes c = none_wanted (count_in c.args.head.now) c.in-None.ensures
