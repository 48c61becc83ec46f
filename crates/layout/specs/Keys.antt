-- Keys of a list of handlers: faults first, from here on scopes.
use Rattle.std.specs.Prelude.{ℕ}

abbrev pub scope_keys : ℕ
scope_keys = 64

-- above every key: none is wanted, or none is there
abbrev pub no_key : ℕ
no_key = 128
