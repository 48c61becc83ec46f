-- An index as the code has it: whether it is in order, the serials that it then lists, and its words set to 0.
use Rattle.std.specs.Prelude as code
use Rattle.std.specs.Prelude.{Result, Ok, Err}
use Rattle.std.specs.Prelude.{ℕ, ◌-◌, Bool, true, false, ◌||◌, cond, List, ◌++◌, eqb, get_or, replicate, take, drop}
use Rattle.std.proofs.Math.Option.{Option, none, some}
use Rattle.std.specs.declared.num.NonZeroU16.{NonZeroU16}
use Rattle.sock.specs.Kind
use Rattle.sock.specs.Index.{listed, put_in, take_out, Told}
use Rattle.layout.specs.declared.refusal.Refusal.{Refusal}
use Rattle.layout.specs.Refusals.{refusal_number}
use Rattle.stepping.specs.Serials.{serial_in}

unfoldable pub present : Option (List ℕ) → Bool
present none = false
present (some serials) = true

unfoldable pub in_order : List ℕ → Bool
in_order index = present (listed index)

-- as many words as the first says, behind it
unfoldable pub serials_in : List ℕ → List ℕ
serials_in index = take (get_or index 0 0) (drop 1 index)

-- 0 from a place on to the index's end
abbrev pub cleared : ℕ → List ℕ → List ℕ
cleared from index = take from index ++ (replicate (2049 - from) 0 ++ drop (2049 - from) (drop from index))

-- by the kind and the serial answered
unfoldable pub open_by : ℕ → ℕ → List ℕ → List ℕ
open_by kind serial serials =
    cond (eqb kind Kind.solicit) (put_in serial serials)
    (cond (eqb kind Kind.executor || eqb kind Kind.notice) (take_out serial serials) serials)

-- the code's answers to the two questions, as the definitions have them
abbrev pub counted_as : Result ℕ Refusal → Told
counted_as (Ok n) = record { number = 0; value = n }
counted_as (Err r) = record { number = refusal_number r; value = 0 }

abbrev pub oldest_as : Result (code.Option NonZeroU16) Refusal → Told
oldest_as (Ok serial) = record { number = 0; value = serial_in serial }
oldest_as (Err r) = record { number = refusal_number r; value = 0 }
