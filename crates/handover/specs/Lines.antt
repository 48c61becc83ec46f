-- What is told of a line that the program says: its bytes, and whether it is the last.
use Rattle.std.specs.Prelude.{ℕ, Bool, true, false, List}
use Rattle.handover.specs.declared.line.Said.{Said}
use Rattle.handover.specs.declared.line.Said.TheVariants.{More, Last}

abbrev pub line_of : Said → List ℕ
line_of (More line) = line
line_of (Last line) = line

abbrev pub is_last : Said → Bool
is_last (More line) = false
is_last (Last line) = true
