-- `put` of `window::on_bytes` meets its contract. The loop's invariant: the bytes of the first i words are over the output.
use mathlib.Core.Path.{◌≡◌}
use lib.ListN.{take}
use Rattle.window.specs.Bytes.{bytes_of}
use Rattle.window.proofs.Spreading.{over}
use Rattle.window.proofs.on_bytes.put.Given as goal

abbrev pub invariant-loop-i : goal.invariant-loop-i
invariant-loop-i l = l.out ≡ over (bytes_of (take l.i l.words)) l.initial.out
