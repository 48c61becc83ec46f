-- The variables of a message: 1 to 4. The first stands in a head or a fixed word; behind the fixed words stand a count and a word for each
-- further one (change c).
use Rattle.std.specs.Prelude.{ℕ, suc, ◌-◌, ◌*◌, Bool, true, false, not, ◌&&◌, ◌||◌, List, [], ◌∷◌, eqb, length, get_or, set, take, drop}
use Rattle.sock.specs.Words.{second_of, first_variable}

abbrev pub first_of : List ℕ → ℕ
first_of [] = 0
first_of (v ∷ vs) = v

-- their own words: the count, then the further ones
unfoldable pub further_words : List ℕ → List ℕ
further_words [] = []
further_words (v ∷ vs) = (v * 2048) ∷ further_words vs

unfoldable pub variable_words : List ℕ → List ℕ
variable_words [] = []
variable_words (v ∷ vs) = suc (length vs) ∷ further_words vs

-- and back: the variables with a first one, from the words that begin with their count; and the words behind them
unfoldable pub further_of : List ℕ → List ℕ
further_of [] = []
further_of (w ∷ ws) = first_variable w ∷ further_of ws

unfoldable pub variables_of : ℕ → List ℕ → List ℕ
variables_of first [] = first ∷ []
variables_of first (c ∷ ws) = first ∷ further_of (take (c - 1) ws)

unfoldable pub behind_variables : List ℕ → List ℕ
behind_variables [] = []
behind_variables (c ∷ ws) = drop (c - 1) ws

-- The lists in a process's own words f: the one whose first variable stands in the head h, behind k fixed words; and the second list of a
-- request or a solicit, whose first variable stands in its fixed word
abbrev pub head_variables : ℕ → ℕ → List ℕ → List ℕ
head_variables k h f = variables_of (second_of h) (drop k f)

abbrev pub later_variables : ℕ → List ℕ → List ℕ
later_variables first f = variables_of first (behind_variables (drop 1 f))

-- the values of some variables, and some variables set
unfoldable pub values_at : List ℕ → List ℕ → List ℕ
values_at vs [] = []
values_at vs (x ∷ xs) = get_or vs x 0 ∷ values_at vs xs

unfoldable pub set_all : List ℕ → List ℕ → List ℕ → List ℕ
set_all vs [] us = vs
set_all vs (x ∷ xs) [] = vs
set_all vs (x ∷ xs) (u ∷ us) = set_all (set vs x u) xs us

-- No x list has a variable twice
unfoldable pub member : ℕ → List ℕ → Bool
member x [] = false
member x (y ∷ ys) = eqb x y || member x ys

unfoldable pub distinct : List ℕ → Bool
distinct [] = true
distinct (x ∷ xs) = not (member x xs) && distinct xs
