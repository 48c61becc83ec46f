-- `large` of `bytewise::stepping_bytes` meets its contract.
use native.Mathlib.Omega.{arith}
use mathlib.Core.Path.{ap, ◌∙◌}
use Rattle.sock.specs.Calls.{Answer}
use Rattle.sock.specs.Configuration.{standard}
use Rattle.stepping.specs.Bundles.{numbers_as}
use Rattle.bytewise.specs.Held.{packed_as}
use Rattle.bytewise.proofs.Stepping.{large_answer, large_output}
use Rattle.bytewise.proofs.stepping_bytes.large.Goals as goal

pub returns : goal.returns
returns c =
    let e = c.step_in.ensures in
    let k = numbers_as c.args.k in (
      c.pack.ensures ∙ ap (λ (a : Answer). packed_as a) e.answered ∙ large_answer standard 8192 (omega arith) c.args.config.now k c.args.out.now,
      e.wrote ∙ large_output standard 8192 (omega arith) c.args.config.now k c.args.out.now,
    )
