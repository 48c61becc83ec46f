-- A newcomer that is not read. No contract of an exported call names it.
use Rattle.std.specs.Prelude.{ℕ, List}
use Rattle.sock.specs.Configuration.{Limits}
use Rattle.sock.specs.Calls.{long, Result, refused, ◌>>=◌}
use Rattle.sock.specs.Engines.{admitting}

-- 1, 21, 9
unfoldable pub too_long : Limits → List ℕ → Result (List ℕ)
too_long limits ws = do
  c ← admitting limits ws
  refused long
