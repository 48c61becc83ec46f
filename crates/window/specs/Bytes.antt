-- The window on bytes, for C: 1,089 words of two bytes, the high byte first; bytes past these 2,178 are not its own.
use Rattle.std.specs.Prelude.{ℕ, ◌+◌, ◌*◌, ◌/◌, ◌%◌, ◌^◌, cond, List, [], ◌∷◌, ◌++◌, take, drop}
use Rattle.window.specs.declared.answer.Answer.{Answer}
use Rattle.window.specs.Window.{next_number, enters, next_window, Count, count_of}

-- the words that a list of bytes has whole
unfoldable pub words_of : List ℕ → List ℕ
words_of [] = []
words_of (high ∷ []) = []
words_of (high ∷ low ∷ bytes) = (high * 256 + low) ∷ words_of bytes

unfoldable pub bytes_of : List ℕ → List ℕ
bytes_of [] = []
bytes_of (w ∷ ws) = w / 256 ∷ w % 256 ∷ bytes_of ws

unfoldable pub window_in : List ℕ → List ℕ
window_in bytes = words_of (take 2178 bytes)

unfoldable pub byte_number : ℕ → Answer → List ℕ → ℕ
byte_number w a bytes = next_number w a (window_in bytes)

unfoldable pub byte_window : ℕ → Answer → List ℕ → List ℕ
byte_window w a bytes = cond (enters w a (window_in bytes)) (bytes_of (next_window w a (window_in bytes)) ++ drop 2178 bytes) bytes

-- number 8, zero 40, count 16
unfoldable pub packed : Count → ℕ
packed c = c.number * 2 ^ 56 + c.count

unfoldable pub byte_count : ℕ → List ℕ → ℕ
byte_count o bytes = packed (count_of o (window_in bytes))
