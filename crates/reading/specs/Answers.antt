-- What the code answers, in the terms of the definitions.
use Rattle.std.specs.Prelude.{Option, Some, None, Result, Ok, Err}
use Rattle.sock.specs.Calls.{Ends}
use Rattle.layout.specs.declared.refusal.Refusal.{Refusal}
use Rattle.layout.specs.Refusals.{refusal_number}
use Rattle.reading.specs.declared.ends.EndCounts.{EndCounts}
use Rattle.reading.specs.declared.starts.Starts.{Starts as Found}
use Rattle.reading.specs.Survey.{Starts, no_starts}

-- a refusal has no counts
abbrev pub counts_in : Result EndCounts Refusal → Ends
counts_in (Ok e) = record { number = 0; waiters = e.waiters; workers = e.workers }
counts_in (Err r) = record { number = refusal_number r; waiters = 0; workers = 0 }

-- no configuration has 0 engines
abbrev pub starts_of : Found → Starts
starts_of s = record { engines = s.engines; starts = s.starts }

abbrev pub starts_in : Option Found → Starts
starts_in None = no_starts
starts_in (Some s) = starts_of s
