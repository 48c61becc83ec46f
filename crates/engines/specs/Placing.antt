-- The newcomer's words behind the others, as the code places them. No contract of a call names it.
use Rattle.std.specs.Prelude.{ℕ, List, ◌∷◌, ◌++◌, leb, length, drop}
use Rattle.sock.specs.Configuration.{Limits}
use Rattle.sock.specs.Calls.{long, short, Result, done, ◌>>◌, ◌unless◌}

-- n engines: the first word is n
unfoldable pub words_with : ℕ → List ℕ → List ℕ → List ℕ
words_with n ws engine = n ∷ drop 1 ws ++ engine

-- 9, 10
unfoldable pub fitted : Limits → List ℕ → ℕ → Result (List ℕ)
fitted limits words room = do
  long unless leb (length words) limits.longest
  short unless leb (length words) room
  done words
