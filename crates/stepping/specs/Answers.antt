-- The numbers handed to a step, and what it answers by the types that the code declares, as the definitions have them.
use Rattle.std.specs.Prelude.{ℕ, Result, Ok, Err}
use Rattle.sock.specs.Words.{bit}
use Rattle.sock.specs.Calls.{Numbers, Answer}
use Rattle.layout.specs.Kinds.{number_of}
use Rattle.layout.specs.Refusals.{refusal_number}
use Rattle.layout.specs.declared.refusal.Refusal.{Refusal}
use Rattle.stepping.specs.declared.answer.Accepted.{Accepted}
use Rattle.stepping.specs.Serials.{serial_in}

abbrev pub told : Result Accepted Refusal → Answer
told (Ok a) = record { number = 0; kind = number_of a.kind; serial = serial_in a.serial; fault = bit a.fault; length = a.length }
told (Err r) = record { number = refusal_number r; kind = 0; serial = 0; fault = 0; length = 0 }

-- engine and position of the process that moves; the second engine, the position there, and the branch
abbrev pub numbers : ℕ → ℕ → ℕ → ℕ → ℕ → Numbers
numbers engine position second place branch =
    record { engine = engine; position = position; second = second; second_position = place; branch = branch }
