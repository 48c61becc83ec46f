-- `spread` of `bytewise::stepping_bytes` meets its contract. The loop's invariant: the bytes of the first i words are over the output.
use mathlib.Core.Path.{◌≡◌}
use lib.ListN.{take}
use Rattle.sock.specs.Bytes.{bytes_of}
use Rattle.sock.specs.Calls.{over}
use Rattle.bytewise.proofs.stepping_bytes.spread.Given as goal

abbrev pub invariant-loop-i : goal.invariant-loop-i
invariant-loop-i l = l.out ≡ over (bytes_of (take l.i l.words)) l.initial.out
