-- What the calls answer by the types that the code declares, as the definitions have it.
use Rattle.std.specs.Prelude.{ℕ, Result, Ok, Err}
use Rattle.sock.specs.Journal.{Taken}
use Rattle.layout.specs.Refusals.{refusal_number}
use Rattle.layout.specs.declared.refusal.Refusal.{Refusal}
use Rattle.stepping.specs.Answers.{told}
use Rattle.journal.specs.declared.steps.Compared as code
use Rattle.journal.specs.Stepping.{Compared}

-- the length of what was restored
abbrev pub taken_as : Result ℕ Refusal → Taken
taken_as (Ok n) = record { number = 0; length = n }
taken_as (Err r) = record { number = refusal_number r; length = 0 }

-- of a step refused nothing was compared
abbrev pub comparing : Result code.Compared Refusal → Compared
comparing (Ok c) = record { answer = told (Ok c.accepted); first = c.alike.first; last = c.alike.last }
comparing (Err r) = record { answer = told (Err r); first = 0; last = 0 }
