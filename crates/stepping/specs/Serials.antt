-- A serial as the definitions have it: a number, 0 where there is none.
use Rattle.std.specs.Prelude.{ℕ, Option, None, Some}
use Rattle.std.specs.Int.NonZero.{non_zero_u16_get}
use Rattle.std.specs.declared.num.NonZeroU16.{NonZeroU16}

abbrev pub serial_in : Option NonZeroU16 → ℕ
serial_in None = 0
serial_in (Some s) = non_zero_u16_get s
