-- Whether there is a newcomer.
use Rattle.std.specs.Prelude.{Bool, true, false}
use Rattle.std.proofs.Math.Option.{Option, none, some}
use Rattle.sock.specs.Configuration.{Engine}

unfoldable pub is_there : Option Engine → Bool
is_there none = false
is_there (some e) = true
