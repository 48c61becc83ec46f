-- Where a process stands, as one number: 4 times the stratum plus the place (`reading`'s `Tables` has both in the definitions' terms).
use Rattle.std.specs.Prelude.{ℕ}

-- anywhere in code, in code that may hold cH, and in what runs
abbrev pub code : ℕ
code = 0

abbrev pub handlers : ℕ
handlers = 4

abbrev pub running : ℕ
running = 8

-- the places, added to a stratum
abbrev pub not_nil : ℕ
not_nil = 1

abbrev pub receiver : ℕ
receiver = 2

-- the roots of an engine that has not begun, and of one that runs
abbrev pub fresh_root : ℕ
fresh_root = 3

abbrev pub root : ℕ
root = 11

-- no process stands from here on
abbrev pub contexts : ℕ
contexts = 12
