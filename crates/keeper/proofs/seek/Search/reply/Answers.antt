-- `reply` of `keeper::seek::Search` meets its contract.
use native.Mathlib.Omega.{arith}
use Rattle.keeper.proofs.seek.Search.reply.Goals as goal

pub loop-i-init : goal.loop-i-init
loop-i-init c = λ j u t. absurd (omega (arith, u))
