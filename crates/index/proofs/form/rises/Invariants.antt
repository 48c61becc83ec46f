-- `rises` of `index::form` meets its contract. The loop's invariant: whether all rise is whether those from here on do, above the last.
use mathlib.Core.Path.{◌≡◌}
use lib.ListN.{drop}
use Rattle.sock.specs.Index.{rising}
use Rattle.index.proofs.form.rises.Given as goal

abbrev pub invariant-loop-word : goal.invariant-loop-word
invariant-loop-word l = rising l.last (drop l.word-index l.words) ≡ rising 0 l.words
