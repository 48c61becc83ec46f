-- Passing over by notes, as the code goes. The notes of the word at i stand at i * 2, for the process that begins there, and behind it, for
-- the list; 0 where nothing is known. The proofs show that it ends where the layout does, if the notes are right; no contract of a call names it.
use Rattle.std.specs.Prelude.{ℕ, ◌+◌, ◌*◌, cond, List, leb, eqb, length, get_or}
use Rattle.layout.specs.Keys.{no_key}
use Rattle.skipping.specs.Skip.{skip_end, skip_list}

unfoldable pub note_at : List ℕ → ℕ → ℕ
note_at notes i = get_or notes (i * 2) 0

unfoldable pub list_note_at : List ℕ → ℕ → ℕ
list_note_at notes i = get_or notes (i * 2 + 1) 0

unfoldable pub pass_end : ℕ → List ℕ → List ℕ → ℕ → ℕ
pass_end d ws notes i = cond (eqb (note_at notes i) 0) (skip_end d ws i) (note_at notes i)

unfoldable pub pass_entries : ℕ → List ℕ → List ℕ → ℕ → ℕ
pass_entries d ws notes i = cond (eqb (list_note_at notes i) 0) (skip_list d ws no_key i) (list_note_at notes i)

-- an empty list is told by its count
unfoldable pub pass_list : ℕ → List ℕ → List ℕ → ℕ → ℕ
pass_list d ws notes i = cond (leb (length ws) i) 0 (cond (eqb (get_or ws i 0) 0) (i + 1) (pass_entries d ws notes i))
