-- `first_alike` of `journal::compare` meets its contract. The loop's invariant: the words of the blocks before are alike.
use Prim.Native.Nat.{◌+◌, ◌*◌}
use mathlib.Core.Path.{◌≡◌}
use lib.ListN.{drop}
use Rattle.sock.specs.Journal.{alike}
use Rattle.journal.proofs.compare.first_alike.Given as goal

abbrev pub invariant-loop-block : goal.invariant-loop-block
invariant-loop-block l = alike l.a l.b ≡ l.block * 16 + alike (drop (l.block * 16) l.a) (drop (l.block * 16) l.b)
