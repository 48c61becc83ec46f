-- What the code works on: a window whose words are those of its entries; what it does with a count when an entry comes or goes; and what its
-- parts answer.
use Rattle.std.specs.Prelude.{ℕ, ◌+◌, ◌-◌, ◌≤◌, ◌≡◌, true, false, cond, List, [], ◌∷◌, ◌++◌, ltb, length, get_or, set, drop, Option, Some, None, Result, Ok, Err}
use Rattle.window.specs.declared.answer.Answer.{Answer}
use Rattle.window.specs.declared.refusal.Refusal.{Refusal}
use Rattle.window.specs.Window.{entry, held, entries_of, none_above, window_of, fits, last, enters}

pub record Formed (window : List ℕ) : Type 0 where
  pub few : length (entries_of window) ≤ 1024
  pub count : held window ≡ length (entries_of window)
  pub small : none_above 64 (entries_of window) ≡ true
  pub words : window ≡ window_of (entries_of window) ++ drop 1089 window

unfoldable pub raised : ℕ → List ℕ → List ℕ
raised e ws = cond (ltb 0 e) (set ws (e - 1) (get_or ws (e - 1) 0 + 1)) ws

unfoldable pub lowered : ℕ → List ℕ → List ℕ
lowered e ws = cond (ltb 0 e) (set ws (e - 1) (get_or ws (e - 1) 0 - 1)) ws

-- the words after an answer, none where it does not enter
abbrev pub IsAfter : ℕ → Answer → List ℕ → Result (Option (List ℕ)) Refusal → Type 0
IsAfter w a words (Err refusal) = fits w a words ≡ false
IsAfter w a words (Ok None) = (fits w a words ≡ true) × (enters w a words ≡ false)
IsAfter w a words (Ok (Some next)) = (fits w a words ≡ true) × (enters w a words ≡ true) × (next ≡ window_of (last w (entries_of words ++ (entry a ∷ []))))
