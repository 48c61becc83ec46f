-- The call that translates on bytes (document 02, e): an odd length is 1, an odd last byte of the output keeps its content. The answer is packed as
-- that of taking back.
use Rattle.std.specs.Prelude.{ℕ, ◌/◌, List, length}
use Rattle.sock.specs.Configuration.{Config, standard, encode}
use Rattle.sock.specs.Calls.{unreadable, over}
use Rattle.sock.specs.Bytes.{words_of, bytes_of, packed_taken}
use Rattle.planning.specs.Call.{Result, refused, done, ◌>>=◌, ◌!◌, translate, answer_of}

unfoldable pub byte_translate : List ℕ → ℕ → Result Config
byte_translate bytes room = do
  ws ← unreadable ! words_of bytes
  translate standard ws room

unfoldable pub translated_bytes : Result Config → List ℕ → List ℕ
translated_bytes (refused r) out = out
translated_bytes (done t) out = over (bytes_of (encode t)) out

unfoldable pub byte_translate_answer : List ℕ → List ℕ → ℕ
byte_translate_answer bytes out = packed_taken (answer_of (byte_translate bytes (length out / 2)))

unfoldable pub byte_translate_output : List ℕ → List ℕ → List ℕ
byte_translate_output bytes out = translated_bytes (byte_translate bytes (length out / 2)) out
