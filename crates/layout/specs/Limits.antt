-- The code's limits as those of the definitions.
use Rattle.sock.specs.Configuration as sock
use Rattle.layout.specs.declared.limit.Limits.{Limits}

abbrev pub figures : Limits → sock.Limits
figures l = record { deepest = l.deepest; longest = l.longest }
