-- The fixed table as the code has it: how many fixed words, expressions, lists and processes follow a head.
use Rattle.std.specs.Prelude.{ℕ, zero, suc, List, [], ◌∷◌}
use Rattle.sock.specs.Kind.{Own, word, variables, Row, row_of}
use Rattle.sock.specs.declared.Counts.{Counts}

unfoldable pub word_count : List Own → ℕ
word_count [] = zero
word_count (word m ∷ os) = suc (word_count os)
word_count (variables ∷ os) = word_count os

unfoldable pub list_count : List Own → ℕ
list_count [] = zero
list_count (word m ∷ os) = list_count os
list_count (variables ∷ os) = suc (list_count os)

unfoldable pub counted : Row → Counts
counted r = record { fixed = word_count r.fixed; variables = list_count r.fixed; expressions = r.expressions; lists = r.lists; processes = r.processes }

unfoldable pub counts_of : ℕ → Counts
counts_of k = counted (row_of k)
