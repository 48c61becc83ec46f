-- Taking back as the code goes: the four counts of a journal, the words put together in scratch, and what is done once they are.
use Rattle.std.specs.Prelude.{ℕ, ◌+◌, ◌-◌, ◌≤◌, ◌≡◌, Bool, true, ◌&&◌, List, leb, length, get_or, drop}
use Rattle.sock.specs.Configuration.{Limits, read_config}
use Rattle.sock.specs.Calls.{unmatched, short, Result, done, ◌>>=◌, ◌>>◌, ◌!◌, ◌unless◌}
use Rattle.sock.specs.Journal.{Journal, sound, left}
use Rattle.writers.specs.Writing.{pasted}
use Rattle.journal.specs.declared.back.Counts.{Counts}

unfoldable pub counts_of : List ℕ → Counts
counts_of journal = record { old = get_or journal 0 0; new = get_or journal 1 0; first = get_or journal 2 0; last = get_or journal 3 0 }

-- what the journal says, by its counts and the words behind them
abbrev pub said : Counts → List ℕ → Journal
said c journal = record { old_length = c.old; new_length = c.new; first = c.first; last = c.last; behind = drop 4 journal }

unfoldable pub sound_by : Counts → ℕ → Bool
sound_by c behind =
    leb (c.first + c.last) c.old
    && leb (c.first + c.last) c.new
    && leb (c.old - (c.first + c.last) + (c.new - (c.first + c.last))) behind

-- a journal with these counts matches the words
pub record Fits (c : Counts) (ws journal : List ℕ) : Type 0 where
  pub not_cut : 4 ≤ length journal
  pub is_sound : sound (said c journal) ≡ true
  pub is_left : left (said c journal) ws ≡ true

unfoldable pub put_w : Counts → List ℕ → List ℕ → List ℕ → List ℕ
put_w c ws journal scratch =
    let was = c.old - (c.first + c.last) in
    pasted ws (length ws - c.last) (length ws)
    (pasted journal 4 (4 + was) (pasted ws 0 c.first scratch 0) c.first)
    (c.first + was)

-- what was restored: 15, 10
unfoldable pub checked_back : Limits → List ℕ → ℕ → Result (List ℕ)
checked_back limits old room = do
  d ← unmatched ! read_config limits old
  short unless leb (length old) room
  done old
