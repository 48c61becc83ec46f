-- The two counts of words alike, in the type that the code declares.
use Rattle.std.specs.Prelude.{ℕ, List}
use Rattle.sock.specs.Journal.{alike, alike_behind}
use Rattle.journal.specs.declared.compare.Alike.{Alike}

abbrev pub both_of : List ℕ → List ℕ → Alike
both_of xs ys = record { first = alike xs ys; last = alike_behind (alike xs ys) xs ys }
