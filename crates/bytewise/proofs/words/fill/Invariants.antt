-- `fill` of `bytewise::words` meets its contract. The loop's invariant: the words of the first i pairs are over what was there.
use mathlib.Core.Path.{◌≡◌}
use mathlib.Core.List.{map}
use lib.ListN.{take}
use Rattle.std.specs.Int.{w16, from_be_bytes}
use Rattle.sock.specs.Calls.{over}
use Rattle.bytewise.proofs.words.fill.Given as goal

abbrev pub invariant-loop-i : goal.invariant-loop-i
invariant-loop-i l = l.ws ≡ over (take l.i (map (from_be_bytes w16) l.pairs)) l.initial.ws
