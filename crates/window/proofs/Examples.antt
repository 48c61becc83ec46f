-- Windows worked out by hand.
-- Assumes nothing.
use mathlib.Core.Path.{◌≡◌, refl}
use mathlib.Core.List.{List, [], ◌∷◌, ◌++◌}
use lib.ListN.{take, replicate}
use Rattle.window.specs.declared.answer.Answer.{Answer}
use Rattle.window.specs.Window.{answer, entry, times, counts_from, recount, window_of, empty_window, entries_of, behind, none_above, same, given, fits, next_number, last, enters, next_window}
use Rattle.window.specs.Runs.{hand_on}

-- a fault of operation 5, an accepted answer without, a fault of an answer that is not accepted, a fault number of 2, a fault of operation 63
run : List Answer
run = answer 0 1 5 ∷ answer 0 0 5 ∷ answer 3 1 5 ∷ answer 0 2 5 ∷ answer 0 1 63 ∷ []

-- with width 3 the first is out of the window
last_three : hand_on 3 run empty_window ≡ window_of (0 ∷ 0 ∷ 64 ∷ [])
unfolding run hand_on next_window enters fits given entries_of behind none_above same recount counts_from times window_of last entry
last_three = refl

-- with width 4 it is not
last_four : take 66 (hand_on 4 run empty_window) ≡ (replicate 5 0 ++ (1 ∷ [])) ++ (replicate 57 0 ++ (1 ∷ 4 ∷ 6 ∷ []))
unfolding run hand_on next_window enters fits given entries_of behind none_above same recount counts_from times window_of last entry
last_four = refl

too_wide : next_number 1025 (answer 0 1 5) empty_window ≡ 18
unfolding next_number fits
too_wide = refl

no_width : next_number 0 (answer 0 1 5) empty_window ≡ 18
unfolding next_number fits
no_width = refl

-- also with an answer that is not accepted
unknown_operation : next_number 3 (answer 4 0 64) empty_window ≡ 18
unfolding next_number fits
unknown_operation = refl

-- a window of two entries is no run's of width 1
too_many : next_number 1 (answer 0 0 0) (window_of (6 ∷ 0 ∷ [])) ≡ 18
unfolding next_number fits given entries_of behind none_above same recount counts_from times window_of
too_many = refl
