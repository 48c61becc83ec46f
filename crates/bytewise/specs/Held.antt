-- The words that the calls are handed: those of the bytes, none where there is no room for them, as there is for every configuration.
use Rattle.std.specs.Prelude.{ℕ, ◌+◌, ◌*◌, ◌/◌, min, cond, List, [], Result, Ok, Err, ltb, length, get_or, take}
use Rattle.sock.specs.Bytes.{words_of, words_or_none, words_in}
use Rattle.sock.specs.Calls.{Answer}
use Rattle.layout.specs.Refusals.{refusal_number}
use Rattle.layout.specs.declared.refusal.Refusal.{Refusal}

-- in room for so many words
unfoldable pub held : ℕ → List ℕ → List ℕ
held room bytes = cond (ltb (room * 2) (length bytes)) [] (words_or_none (words_of bytes))

-- the first words of a journal's bytes, an odd last byte left out, as many as there is room for
unfoldable pub held_part : ℕ → List ℕ → List ℕ
held_part room bytes = take room (words_in bytes)

abbrev pub pair_at : List ℕ → ℕ → ℕ
pair_at bytes i = get_or bytes (i * 2) 0 * 256 + get_or bytes (i * 2 + 1) 0

-- a word, or the number of a refusal, in 64 bits
abbrev pub numbered_as : Result ℕ Refusal → ℕ
numbered_as (Ok word) = word
numbered_as (Err r) = refusal_number r * 72057594037927936

-- the answer of a step in 64 bits
abbrev pub packed_as : Answer → ℕ
packed_as a =
    a.number * 72057594037927936 + a.kind * 281474976710656 + a.fault * 1099511627776 + a.serial * 65536 + a.length

-- how many words the result may have, at most so many and what an output of so many bytes has room for
abbrev pub room_of : ℕ → ℕ → ℕ
room_of most bytes = min most (bytes / 2)
