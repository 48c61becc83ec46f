-- `first_words` of `journal::compare` meets its contract. The loop's invariant: the words up to k are alike.
use Prim.Native.Nat.{◌+◌}
use mathlib.Core.Path.{◌≡◌}
use lib.ListN.{drop}
use Rattle.sock.specs.Journal.{alike}
use Rattle.journal.proofs.compare.first_words.Given as goal

abbrev pub invariant-loop-k : goal.invariant-loop-k
invariant-loop-k l = l.i + alike (drop l.i l.a) (drop l.i l.b) ≡ l.k + alike (drop l.k l.a) (drop l.k l.b)
