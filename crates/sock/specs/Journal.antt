-- The journal of a step, and taking the step back (document 02, f): which words changed, as a function of the two configurations; the step
-- that fills a lent journal; the call that goes back by one.
use Rattle.std.specs.Prelude.{ℕ, suc, ◌+◌, ◌*◌, ◌-◌, Bool, true, false, ◌&&◌, cond, List, [], ◌∷◌, ◌++◌, reverse, leb, eqb, length, take, drop}
use Rattle.std.proofs.Math.Option.{Option, none, some}
use Rattle.sock.specs.Configuration.{Limits, encode, guarded, also, read_config}
use Rattle.sock.specs.Calls.{unreadable, short, unmatched, journal_short, number, Result, refused, done, ◌>>=◌, ◌>>◌, ◌!◌, ◌unless◌, Numbers, Stepped, step, Answer, answer_of, output_of, over}

-- ---- the words that changed

-- how many first words two lists have alike
unfoldable pub alike : List ℕ → List ℕ → ℕ
alike [] ys = 0
alike (x ∷ xs) [] = 0
alike (x ∷ xs) (y ∷ ys) = cond (eqb x y) (suc (alike xs ys)) 0

-- how many last words they have alike in what is left behind the first ones, so that the two counts never overlap
unfoldable pub alike_behind : ℕ → List ℕ → List ℕ → ℕ
alike_behind first xs ys = alike (reverse (drop first xs)) (reverse (drop first ys))

-- the words between the first and the last ones
unfoldable pub between : ℕ → ℕ → List ℕ → List ℕ
between first last ws = take (length ws - (first + last)) (drop first ws)

unfoldable pub journal_by : ℕ → ℕ → List ℕ → List ℕ → List ℕ
journal_by first last old new = length old ∷ length new ∷ first ∷ last ∷ between first last old ++ between first last new

-- The journal: old length, new length, count of first words alike, count of last words alike after those, the old words between, the new ones
unfoldable pub journal_of : List ℕ → List ℕ → List ℕ
journal_of old new = journal_by (alike old new) (alike_behind (alike old new) old new) old new

-- as many words as the journal of any step has at most, since the number of engines stays
abbrev pub journal_enough : Limits → ℕ
journal_enough limits = 2 * limits.longest + 2

-- ---- a step that is lent a journal: 1 to 10 as ever, then 16

unfoldable pub journal_step : Limits → List ℕ → Numbers → ℕ → ℕ → Result Stepped
journal_step limits ws k room journalRoom = do
  s ← step limits ws k room
  journal_short unless leb (length (journal_of ws (encode s.config))) journalRoom
  done s

-- The journal afterwards: a refusal changes no word, and words past its end stay
unfoldable pub journal_after : List ℕ → Result Stepped → List ℕ → List ℕ
journal_after ws (refused r) journal = journal
journal_after ws (done s) journal = over (journal_of ws (encode s.config)) journal

unfoldable pub journal_answer : Limits → List ℕ → Numbers → List ℕ → List ℕ → Answer
journal_answer limits ws k out journal = answer_of (journal_step limits ws k (length out) (length journal))

unfoldable pub journal_output : Limits → List ℕ → Numbers → List ℕ → List ℕ → List ℕ
journal_output limits ws k out journal = output_of (journal_step limits ws k (length out) (length journal)) out

unfoldable pub journal_written : Limits → List ℕ → Numbers → List ℕ → List ℕ → List ℕ
journal_written limits ws k out journal = journal_after ws (journal_step limits ws k (length out) (length journal)) journal

-- a step that is lent a journal, or none
unfoldable pub lent_step : Limits → List ℕ → Numbers → ℕ → Option (List ℕ) → Result Stepped
lent_step limits ws k room none = step limits ws k room
lent_step limits ws k room (some journal) = journal_step limits ws k room (length journal)

-- ---- taking back

-- what a journal says: its four counts, and the words behind them
pub record Journal : Type 0 where
  pub old_length : ℕ
  pub new_length : ℕ
  pub first : ℕ
  pub last : ℕ
  pub behind : List ℕ

abbrev pub changed_old : Journal → ℕ
changed_old j = j.old_length - (j.first + j.last)

abbrev pub changed_new : Journal → ℕ
changed_new j = j.new_length - (j.first + j.last)

-- the alike counts together are in both lengths, and no word is missing; what is lent beyond is not part of it
unfoldable pub sound : Journal → Bool
sound j =
    leb (j.first + j.last) j.old_length
    && leb (j.first + j.last) j.new_length
    && leb (changed_old j + changed_new j) (length j.behind)

unfoldable pub read_journal : List ℕ → Option Journal
read_journal [] = none
read_journal (a ∷ []) = none
read_journal (a ∷ b ∷ []) = none
read_journal (a ∷ b ∷ f ∷ []) = none
read_journal (a ∷ b ∷ f ∷ l ∷ ws) =
    let j : Journal = record { old_length = a; new_length = b; first = f; last = l; behind = ws } in
    guarded (sound j) (some j)

-- whether two lists have the same words
unfoldable pub same_words : List ℕ → List ℕ → Bool
same_words [] [] = true
same_words [] (y ∷ ys) = false
same_words (x ∷ xs) [] = false
same_words (x ∷ xs) (y ∷ ys) = eqb x y && same_words xs ys

-- the words have the new length, and the new words at their place
unfoldable pub left : Journal → List ℕ → Bool
left j ws =
    eqb (length ws) j.new_length
    && same_words (between j.first j.last ws) (take (changed_new j) (drop (changed_old j) j.behind))

unfoldable pub put_back : Journal → List ℕ → List ℕ
put_back j ws = take j.first ws ++ take (changed_old j) j.behind ++ drop (length ws - j.last) ws

-- the words before, by a journal that matches
unfoldable pub restored : List ℕ → List ℕ → Option (List ℕ)
restored journal ws = also (read_journal journal) λ j. guarded (left j ws) (some (put_back j ws))

-- Taking back: 1, 15, 10
unfoldable pub take_back : Limits → List ℕ → List ℕ → ℕ → Result (List ℕ)
take_back limits ws journal room = do
  c ← unreadable ! read_config limits ws
  old ← unmatched ! restored journal ws
  d ← unmatched ! read_config limits old
  short unless leb (length old) room
  done old

-- number and length
pub record Taken : Type 0 where
  pub number : ℕ
  pub length : ℕ

unfoldable pub taken_of : Result (List ℕ) → Taken
taken_of (refused r) = record { number = number r; length = 0 }
taken_of (done old) = record { number = 0; length = length old }

-- The output afterwards: a refusal changes no word, and output past length keeps its words
unfoldable pub restored_over : Result (List ℕ) → List ℕ → List ℕ
restored_over (refused r) out = out
restored_over (done old) out = over old out

unfoldable pub take_back_answer : Limits → List ℕ → List ℕ → List ℕ → Taken
take_back_answer limits ws journal out = taken_of (take_back limits ws journal (length out))

unfoldable pub take_back_output : Limits → List ℕ → List ℕ → List ℕ → List ℕ
take_back_output limits ws journal out = restored_over (take_back limits ws journal (length out)) out
