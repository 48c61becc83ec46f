-- `put` of `window::on_bytes` meets its contract: behind the loop all bytes are laid over the output.
use Rattle.std.proofs.Common.{arith}
use Rattle.window.proofs.Spreading.{spread_end}
use Rattle.window.proofs.on_bytes.put.Goals as goal

pub returns : goal.returns
returns c = spread_end c.args.words.now c.loop-i.out c.args.out.now c.loop-i.i (omega arith) (omega arith) c.loop-i.invariant
