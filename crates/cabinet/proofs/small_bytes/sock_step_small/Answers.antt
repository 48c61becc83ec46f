-- `sock_step_small` of `cabinet::small_bytes` meets its contract.
use native.Mathlib.Omega.{arith}
use mathlib.Core.Path.{ap, ◌∙◌}
use Rattle.bytewise.specs.Held.{packed_as}
use Rattle.sock.specs.Cabinets.{small}
use Rattle.bytewise.proofs.Stepping.{large_answer, large_output}
use Rattle.cabinet.proofs.small_bytes.sock_step_small.Goals as goal

pub returns : goal.returns
returns c =
    let s = c.step_in.ensures in
    (c.pack.ensures ∙ ap packed_as s.answered ∙ large_answer small 2048 (omega arith) _ _ _, s.wrote ∙ large_output small 2048 (omega arith) _ _ _)
