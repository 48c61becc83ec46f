-- Joining and leaving on bytes (document 02, k): an odd configuration is 1, an odd newcomer of at most 16,384 words is 11, an odd last byte of the
-- output keeps its content. The answer is packed as that of taking back: number 8, zero 40, length 16.
use Rattle.std.specs.Prelude.{ℕ, ◌/◌, List, leb, length}
use Rattle.sock.specs.Configuration.{standard}
use Rattle.sock.specs.Calls.{unreadable, long, Result, ◌>>=◌, ◌>>◌, ◌!◌, ◌unless◌}
use Rattle.sock.specs.Journal.{taken_of}
use Rattle.sock.specs.Bytes.{words_of, words_or_none, packed_taken, restored_bytes}
use Rattle.sock.specs.Engines.{admitting, join, leave}

-- a newcomer of more than 16,384 words is in no configuration, well-formed or not: it is 9 and is not read
unfoldable pub byte_join : List ℕ → List ℕ → ℕ → Result (List ℕ)
byte_join bytes newcomer room = do
  ws ← unreadable ! words_of bytes
  c ← admitting standard ws
  long unless leb (length newcomer) 32768
  join standard ws (words_or_none (words_of newcomer)) room

unfoldable pub byte_join_answer : List ℕ → List ℕ → List ℕ → ℕ
byte_join_answer bytes newcomer out = packed_taken (taken_of (byte_join bytes newcomer (length out / 2)))

unfoldable pub byte_join_output : List ℕ → List ℕ → List ℕ → List ℕ
byte_join_output bytes newcomer out = restored_bytes (byte_join bytes newcomer (length out / 2)) out

unfoldable pub byte_leave : List ℕ → ℕ → Result (List ℕ)
byte_leave bytes room = do
  ws ← unreadable ! words_of bytes
  leave standard ws room

unfoldable pub byte_leave_answer : List ℕ → List ℕ → ℕ
byte_leave_answer bytes out = packed_taken (taken_of (byte_leave bytes (length out / 2)))

unfoldable pub byte_leave_output : List ℕ → List ℕ → List ℕ
byte_leave_output bytes out = restored_bytes (byte_leave bytes (length out / 2)) out
