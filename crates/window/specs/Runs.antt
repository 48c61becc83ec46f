-- Runs of answers (document 02, change h): a window is begun empty and handed on from answer to answer. The statements of what is shown.
use Rattle.std.specs.Prelude.{ℕ, suc, ◌≤◌, ◌<◌, ◌≡◌, Bool, true, ◌&&◌, cond, List, [], ◌∷◌, ◌++◌, leb, eqb, get_or}
use Rattle.window.specs.declared.answer.Answer.{Answer}
use Rattle.window.specs.Window.{empty_window, given, last, enters, next_window}

-- the window after a run of width w
unfoldable pub hand_on : ℕ → List Answer → List ℕ → List ℕ
hand_on w [] window = window
hand_on w (a ∷ run) window = hand_on w run (next_window w a window)

-- its accepted answers, those refused 18 left out
unfoldable pub entered : ℕ → List Answer → List ℕ → List Answer
entered w [] window = []
entered w (a ∷ run) window =
    cond (enters w a window) (a ∷ entered w run (next_window w a window)) (entered w run (next_window w a window))

-- the faults of an operation among answers
unfoldable pub faults : ℕ → List Answer → ℕ
faults o [] = 0
faults o (a ∷ run) = cond (eqb a.fault 1 && eqb a.operation o) (suc (faults o run)) (faults o run)

-- After any run the 64 counts equal a recount of its last w accepted answers, or of all while there are fewer.
abbrev pub CountsAreARecount : Type 0
CountsAreARecount =
    (w : ℕ) (run : List Answer) (beyond : List ℕ) (o : ℕ) → o < 64 →
    get_or (hand_on w run (empty_window ++ beyond)) o 0 ≡ faults o (last w (entered w run (empty_window ++ beyond)))

-- answers whose fields fit the call's
unfoldable pub all_fit : List Answer → Bool
all_fit [] = true
all_fit (a ∷ run) = leb a.number 255 && leb a.fault 255 && leb a.operation 65535 && all_fit run

-- some run of width w ends in this window
pub record EndOfARun (w : ℕ) (window : List ℕ) : Type 0 where
  pub answers : List Answer
  pub beyond : List ℕ
  pub fit : all_fit answers ≡ true
  pub ends : hand_on w answers (empty_window ++ beyond) ≡ window

-- The test of a window takes exactly what some run of that width gives.
abbrev pub TestIsExact : Type 0
TestIsExact =
    (w : ℕ) (window : List ℕ) → 1 ≤ w → w ≤ 1024 →
    (given w window ≡ true → EndOfARun w window) × (EndOfARun w window → given w window ≡ true)
