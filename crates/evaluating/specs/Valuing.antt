-- A value or none, as the code has it.
use Rattle.std.specs.Prelude.{ℕ, Some, None}
use Rattle.std.specs.Prelude as code
use Rattle.std.proofs.Math.Option.{Option, none, some}

abbrev pub value_as : Option ℕ → code.Option ℕ
value_as none = None
value_as (some v) = Some v
