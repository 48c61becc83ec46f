-- The call pending on words, as the code goes.
use Rattle.std.specs.Prelude.{ℕ, ◌%◌, false, List, eqb, Ok, Err}
use Rattle.sock.specs.Pending.{Pending}
use Rattle.layout.specs.declared.limit.Limits.{Limits}
use Rattle.noting.specs.declared.survey.Named.{Named}
use Rattle.noting.specs.declared.survey.Named.TheVariants.{Two}
use Rattle.pending.specs.Looking.{pending_w}
use Rattle.stepping.specs.Enabled.{Enabled, enabled_w}

-- a refusal found and counted nothing
abbrev pub refusing : ℕ → Pending
refusing n = record { number = n; found = false; count = 0 }

-- the engine that the call names
abbrev pub named_by : ℕ → Named
named_by engine = Two engine engine

unfoldable pub counted_w : List ℕ → List ℕ → ℕ → Pending
counted_w ws notes i = record { number = 0; found = eqb (pending_w ws notes i).end 0; count = (pending_w ws notes i).count % 4294967296 }

unfoldable pub searched_w : List ℕ → List ℕ → Enabled → Pending
searched_w ws notes (Err n) = refusing n
searched_w ws notes (Ok (g, a)) = counted_w ws notes a.at

unfoldable pub asked_w : Limits → List ℕ → List ℕ → ℕ → ℕ → Pending
asked_w limits ws notes engine position = searched_w ws notes (enabled_w limits ws notes engine position)
