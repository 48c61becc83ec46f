-- Faults in the last stretch of work (document 02, change h): a window of the last W accepted steps holds for each of 64 operations the
-- number of delivered faults.
use Rattle.std.specs.Prelude.{ℕ, zero, suc, ◌+◌, ◌-◌, Bool, true, false, ◌&&◌, cond, List, [], ◌∷◌, ◌++◌, leb, eqb, length, get_or, take, drop, replicate, Result, Ok, Err}
use Rattle.window.specs.declared.answer.Answer.{Answer}
use Rattle.window.specs.declared.refusal.Refusal.{Refusal}

-- The answer of a step (number 0: accepted; fault 1: a fault was delivered) with the operation concerned.
abbrev pub answer : ℕ → ℕ → ℕ → Answer
answer n f o = record { number = n; fault = f; operation = o }

-- ---- the window: the entries of the last accepted answers, oldest first

-- the entry of an accepted answer: its operation plus 1 if a fault was delivered, else 0
unfoldable pub entry : Answer → ℕ
entry a = cond (eqb a.fault 1) (suc a.operation) 0

unfoldable pub times : ℕ → List ℕ → ℕ
times e [] = 0
times e (f ∷ es) = cond (eqb f e) (suc (times e es)) (times e es)

-- how often n entries from e on occur
unfoldable pub counts_from : ℕ → ℕ → List ℕ → List ℕ
counts_from zero e es = []
counts_from (suc n) e es = times e es ∷ counts_from n (suc e) es

-- the faults of each of the 64 operations
unfoldable pub recount : List ℕ → List ℕ
recount es = counts_from 64 1 es

-- the 1,089 words of a window: 64 counts, how many entries, the entries, zeros behind
unfoldable pub window_of : List ℕ → List ℕ
window_of es = recount es ++ (length es ∷ (es ++ replicate (1024 - length es) 0))

abbrev pub empty_window : List ℕ
empty_window = replicate 1089 0

-- ---- what stands in words that are to be a window

abbrev pub held : List ℕ → ℕ
held window = get_or window 64 0

unfoldable pub entries_of : List ℕ → List ℕ
entries_of window = take (held window) (drop 65 window)

unfoldable pub behind : List ℕ → List ℕ
behind window = drop (65 + held window) (take 1089 window)

unfoldable pub none_above : ℕ → List ℕ → Bool
none_above most [] = true
none_above most (n ∷ ns) = leb n most && none_above most ns

unfoldable pub same : List ℕ → List ℕ → Bool
same [] [] = true
same [] (n ∷ ns) = false
same (m ∷ ms) [] = false
same (m ∷ ms) (n ∷ ns) = eqb m n && same ms ns

-- A window that a run of width w gives (shown in proofs/Theorems): at most w entries, each at most 64, zeros behind, and counts that are
-- their recount. Words past the 1,089 are not its own.
unfoldable pub given : ℕ → List ℕ → Bool
given w window =
    leb 1089 (length window)
    && (leb (held window) w
    && (none_above 64 (entries_of window) && (none_above 0 (behind window) && same (take 64 window) (recount (entries_of window)))))

-- ---- the call: an answer is handed on to a window of width w

-- Not 18 "window width": w is from 1 to 1,024, the operation at most 63, and the window one that a run gives.
unfoldable pub fits : ℕ → Answer → List ℕ → Bool
fits w a window = leb 1 w && (leb w 1024 && (leb a.operation 63 && given w window))

unfoldable pub next_number : ℕ → Answer → List ℕ → ℕ
next_number w a window = cond (fits w a window) 0 18

unfoldable pub last : {A : Type 0} → ℕ → List A → List A
last n l = drop (length l - n) l

unfoldable pub enters : ℕ → Answer → List ℕ → Bool
enters w a window = fits w a window && eqb a.number 0

-- An accepted answer enters and, once w are held, pushes the oldest out. Any other, and any that is refused 18, changes no word.
unfoldable pub next_window : ℕ → Answer → List ℕ → List ℕ
next_window w a window = cond (enters w a window) (window_of (last w (entries_of window ++ (entry a ∷ []))) ++ drop 1089 window) window

-- ---- the question: the faults of one operation, of a window that some width gives

-- document 02's number, and the faults of the operation; 0 in a refusal
pub record Count : Type 0 where
  pub number : ℕ
  pub count : ℕ

unfoldable pub count_of : ℕ → List ℕ → Count
count_of o window =
    cond (leb o 63 && given 1024 window) (record { number = 0; count = get_or window o 0 }) (record { number = 18; count = 0 })

-- ---- what the calls answer, as these numbers

abbrev pub number_as : Result (Unit {0}) Refusal → ℕ
number_as (Ok done) = 0
number_as (Err refusal) = 18

abbrev pub count_as : Result ℕ Refusal → Count
count_as (Ok faults) = record { number = 0; count = faults }
count_as (Err refusal) = record { number = 18; count = 0 }
