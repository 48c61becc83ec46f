-- `last_alike` of `journal::compare` meets its contract. The loop's invariant: the last words of the blocks are alike.
use Prim.Native.Nat.{◌+◌, ◌*◌}
use mathlib.Core.Path.{◌≡◌}
use mathlib.Core.List.{reverse}
use lib.ListN.{drop}
use Rattle.sock.specs.Journal.{alike}
use Rattle.journal.proofs.compare.last_alike.Given as goal

abbrev pub invariant-loop-block : goal.invariant-loop-block
invariant-loop-block l = alike (reverse l.a) (reverse l.b) ≡ l.block * 16 + alike (drop (l.block * 16) (reverse l.a)) (drop (l.block * 16) (reverse l.b))
