-- The calls with an index on bytes (document 02, g): an index is half its bytes in words, an odd last byte keeping its content; an odd
-- configuration is 1, after 17.
use Rattle.std.specs.Prelude.{ℕ, ◌+◌, ◌*◌, ◌/◌, ◌^◌, List, length}
use Rattle.sock.specs.Configuration.{standard, read_config}
use Rattle.sock.specs.Calls.{index_short, Result, refused, done, ◌>>=◌, ◌!◌, Numbers, answer_of, over}
use Rattle.sock.specs.Journal.{taken_of}
use Rattle.sock.specs.Bytes.{words_of, bytes_of, words_or_none, words_in, packed, bytes_after, byte_journal_step, journal_bytes_after, byte_take_back, packed_taken, restored_bytes}
use Rattle.sock.specs.Index.{index_of, listed, open_of, open_after, beginning, begin_answer, IndexedStep, step_of, open_in, IndexedBack, restored_in, reopened, Told, open_count, oldest}

-- the index afterwards: a refusal changes no byte, and bytes past the 2,049 words stay
unfoldable pub index_bytes_after : Result (List ℕ) → List ℕ → List ℕ
index_bytes_after (refused r) index = index
index_bytes_after (done serials) index = over (bytes_of (index_of serials)) index

-- ---- beginning

unfoldable pub byte_begin_answer : List ℕ → List ℕ → ℕ
byte_begin_answer bytes index = begin_answer standard (words_or_none (words_of bytes)) (words_in index)

unfoldable pub byte_begin_index : List ℕ → List ℕ → List ℕ
byte_begin_index bytes index = index_bytes_after (beginning standard (words_or_none (words_of bytes)) (length (words_in index))) index

-- ---- a step

unfoldable pub byte_indexed_step : List ℕ → Numbers → ℕ → ℕ → List ℕ → Result IndexedStep
byte_indexed_step bytes k room journalRoom index = do
  serials ← index_short ! listed (words_in index)
  s ← byte_journal_step standard bytes k room journalRoom
  done (record { stepped = s; serials = open_after s serials })

unfoldable pub byte_indexed_answer : List ℕ → Numbers → List ℕ → List ℕ → List ℕ → ℕ
byte_indexed_answer bytes k out journal index =
    packed (answer_of (step_of (byte_indexed_step bytes k (length out / 2) (length journal / 2) index)))

unfoldable pub byte_indexed_output : List ℕ → Numbers → List ℕ → List ℕ → List ℕ → List ℕ
byte_indexed_output bytes k out journal index =
    bytes_after (step_of (byte_indexed_step bytes k (length out / 2) (length journal / 2) index)) out

unfoldable pub byte_indexed_journal : List ℕ → Numbers → List ℕ → List ℕ → List ℕ → List ℕ
byte_indexed_journal bytes k out journal index =
    journal_bytes_after (words_or_none (words_of bytes)) (step_of (byte_indexed_step bytes k (length out / 2) (length journal / 2) index)) journal

unfoldable pub byte_indexed_index : List ℕ → Numbers → List ℕ → List ℕ → List ℕ → List ℕ
byte_indexed_index bytes k out journal index =
    index_bytes_after (open_in (byte_indexed_step bytes k (length out / 2) (length journal / 2) index)) index

-- ---- taking back

unfoldable pub byte_indexed_back : List ℕ → List ℕ → ℕ → List ℕ → Result IndexedBack
byte_indexed_back bytes journal room index = do
  serials ← index_short ! listed (words_in index)
  old ← byte_take_back bytes journal room
  done (record { words = old; serials = open_of (read_config standard old) })

unfoldable pub byte_indexed_taken : List ℕ → List ℕ → List ℕ → List ℕ → ℕ
byte_indexed_taken bytes journal out index = packed_taken (taken_of (restored_in (byte_indexed_back bytes journal (length out / 2) index)))

unfoldable pub byte_indexed_restored : List ℕ → List ℕ → List ℕ → List ℕ → List ℕ
byte_indexed_restored bytes journal out index = restored_bytes (restored_in (byte_indexed_back bytes journal (length out / 2) index)) out

unfoldable pub byte_indexed_relisted : List ℕ → List ℕ → List ℕ → List ℕ → List ℕ
byte_indexed_relisted bytes journal out index = index_bytes_after (reopened (byte_indexed_back bytes journal (length out / 2) index)) index

-- ---- the two questions: number 8, zero 40, value 16

unfoldable pub packed_told : Told → ℕ
packed_told t = t.number * 2 ^ 56 + t.value

unfoldable pub byte_open_count : List ℕ → ℕ
byte_open_count index = packed_told (open_count (words_in index))

unfoldable pub byte_oldest : List ℕ → ℕ
byte_oldest index = packed_told (oldest (words_in index))
