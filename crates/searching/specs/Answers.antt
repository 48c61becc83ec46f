-- What the call answers by the types that the code declares, as the definitions have it.
use Rattle.std.specs.Prelude.{Result, Ok, Err, false}
use Rattle.sock.specs.Pending as sock
use Rattle.layout.specs.Refusals.{refusal_number}
use Rattle.layout.specs.declared.refusal.Refusal.{Refusal}
use Rattle.searching.specs.declared.call.Pending.{Pending}

-- a refusal found and counted nothing
abbrev pub pending_as : Result Pending Refusal → sock.Pending
pending_as (Ok p) = record { number = 0; found = p.found; count = p.count }
pending_as (Err r) = record { number = refusal_number r; found = false; count = 0 }
