-- `expression` and `operation` of `reading::reader` meet their contracts. The measure is twice the depth, and one more for an operation, which
-- reads its operands one level down.
use Prim.Native.Nat.{◌+◌, ◌*◌}
use Rattle.reading.proofs.reader.+expression_operation.Given as goal

abbrev pub decreases-expression : goal.decreases-expression
decreases-expression l = l.depth * 2

abbrev pub decreases-operation : goal.decreases-operation
decreases-operation l = l.depth * 2 + 1
