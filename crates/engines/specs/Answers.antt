-- The answer of joining and of leaving, in the definitions' terms.
use Rattle.std.specs.Prelude.{ℕ, Result, Ok, Err}
use Rattle.sock.specs.Journal.{Taken}
use Rattle.layout.specs.declared.refusal.Refusal.{Refusal}
use Rattle.layout.specs.Refusals.{refusal_number}

-- a refusal has no length
abbrev pub written_in : Result ℕ Refusal → Taken
written_in (Ok length) = record { number = 0; length = length }
written_in (Err r) = record { number = refusal_number r; length = 0 }
