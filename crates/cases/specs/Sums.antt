-- A sum over words in which their order counts, in 16 bits: three times the sum of those before, and the word.
use Rattle.std.specs.Prelude.{ℕ, ◌+◌, ◌%◌, ◌^◌, List, [], ◌∷◌}

abbrev pub round : ℕ → ℕ → ℕ
round a b = (a + b) % 2 ^ 16

unfoldable pub summed : ℕ → List ℕ → ℕ
summed s [] = s
summed s (w ∷ ws) = summed (round (round (round s s) s) w) ws
