-- `last_words` of `journal::compare` meets its contract. The loop's invariant: the k last words are alike.
use Prim.Native.Nat.{◌+◌}
use mathlib.Core.Path.{◌≡◌}
use mathlib.Core.List.{reverse}
use lib.ListN.{drop}
use Rattle.sock.specs.Journal.{alike}
use Rattle.journal.proofs.compare.last_words.Given as goal

abbrev pub invariant-loop-k : goal.invariant-loop-k
invariant-loop-k l = l.i + alike (drop l.i (reverse l.a)) (drop l.i (reverse l.b)) ≡ l.k + alike (drop l.k (reverse l.a)) (drop l.k (reverse l.b))
