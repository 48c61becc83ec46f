-- What a step at given limits takes for granted: notes that are all 0, however many. (That the limits are those which fuel and scratch are made for
-- is the type `limits::Modest`.)
use Rattle.std.specs.Prelude.{ℕ, ◌≡◌, List, length, replicate}

abbrev pub Blank : List ℕ → Type 0
Blank notes = notes ≡ replicate (length notes) 0
