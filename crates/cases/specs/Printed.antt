-- What is printed of numbers: the decimal digits of one, with the end of the line or a space behind it, and a line of several.
use Rattle.std.specs.Prelude.{ℕ, Bool, cond, List, [], ◌∷◌, ◌++◌}
use Rattle.std.specs.Fmt.{decimal}

abbrev pub printed : ℕ → Bool → List ℕ
printed n last = decimal n ++ (cond last 10 32 ∷ [])

-- with a space between two
abbrev pub line : List ℕ → List ℕ
line [] = 10 ∷ []
line (n ∷ []) = decimal n ++ 10 ∷ []
line (n ∷ m ∷ ns) = decimal n ++ 32 ∷ line (m ∷ ns)
