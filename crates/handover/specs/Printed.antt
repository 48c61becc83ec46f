-- What the program prints, part by part, from the bytes that it has read.
use Rattle.std.specs.Prelude.{ℕ, zero, suc, ◌+◌, ◌*◌, true, false, cond, ◌||◌, List, [], ◌∷◌, ◌++◌, ltb, length, take, drop}
use Rattle.sock.specs.Configuration.{standard}
use Rattle.sock.specs.Calls.{step, answer_of}
use Rattle.sock.specs.Bytes.{words_of, words_or_none, numbers_in, words_after, end_line, cut_line, step_line}

-- the word L; one more than a configuration may have where it is missing
unfoldable pub count_in : List ℕ → ℕ
count_in [] = 8193
count_in (high ∷ []) = 8193
count_in (high ∷ low ∷ bytes) = high * 256 + low

-- how many bytes are read behind it
unfoldable pub wanted_for : ℕ → ℕ
wanted_for n = cond (ltb 8192 n) 0 (n * 2)

-- the configuration's words; none, which are not readable, where they are too many or some are missing
unfoldable pub start_words : ℕ → List ℕ → List ℕ
start_words n bytes = cond (ltb 8192 n || ltb (length bytes) (n * 2)) [] (words_or_none (words_of (take (n * 2) bytes)))

-- the last line, from the configuration's length and the bytes that are left
unfoldable pub last_line : ℕ → List ℕ → List ℕ
last_line n [] = end_line n
last_line n (b ∷ bytes) = cut_line

-- what the bytes of a step print, ten or what is left
unfoldable pub turn_line : ℕ → List ℕ → List ℕ → List ℕ
turn_line i ws bytes =
    cond (ltb (length bytes) 10) (last_line (length ws) bytes) (step_line i (answer_of (step standard ws (numbers_in bytes) 8192)))

-- and the words that the next step reads
unfoldable pub turn_words : List ℕ → List ℕ → List ℕ
turn_words ws bytes = cond (ltb (length bytes) 10) ws (words_after (step standard ws (numbers_in bytes) 8192) ws)

-- ---- the program's way over its input

-- two bytes are read, then as many as the word that they are wants
unfoldable pub words_read : List ℕ → List ℕ
words_read input = start_words (count_in (take 2 input)) (take (wanted_for (count_in (take 2 input))) (drop 2 input))

unfoldable pub left_behind_words : List ℕ → List ℕ
left_behind_words input = drop (wanted_for (count_in (take 2 input))) (drop 2 input)

-- the step number never comes to its largest value
unfoldable pub most_steps : ℕ
most_steps = 18446744073709551614

-- what is printed once the start is: ten bytes, or what is left, are read for each line
unfoldable pub steps_text : ℕ → ℕ → List ℕ → List ℕ → List ℕ
steps_text zero i ws input = []
steps_text (suc turns) i ws input =
    turn_line i ws (take 10 input)
    ++ elim (ltb (length (take 10 input)) 10) [
      | true ↦ []
      | false ↦ steps_text turns (suc i) (turn_words ws (take 10 input)) (drop 10 input)
    ]
