-- The worked case of document 01's "Program handover", by computation at word level: the five answers with their lengths, a refusal for
-- want of room, and the program's text.
-- Assumes nothing.
use Prim.Native.Nat.{ℕ}
use mathlib.Core.Path.{◌≡◌, refl}
use mathlib.Core.List.{List, [], ◌∷◌, ◌++◌}
use lib.ListN.{length, replicate}
use Rattle.sock.specs.Configuration.{standard}
use Rattle.sock.specs.Calls.{Numbers, Answer, step, answer_of, check_start}
use Rattle.sock.specs.Bytes.{bytes_of, words_after, handover}
use Rattle.sock.proofs.Computed.{computed}

-- n 2, issued 0, all values 0 but engine 0's variable 1, which is 1
unfoldable pub configuration : List ℕ
configuration =
    2 ∷ 0
    ∷ 0 ∷ 0 ∷ 0 ∷ 1
    ∷ replicate 60 0
    ++ (0x5800 ∷ 0x0000 ∷ 0x0000 ∷ 0x5020 ∷ 0x0880 ∷ 0x0001 ∷ 0x0001 ∷ 0x0000 ∷ [])
    ++ replicate 64 0
    ++ (0x5800 ∷ 0x0000 ∷ 0x0000 ∷ 0x4020 ∷ 0x0000 ∷ 0x0001 ∷ 0x0001 ∷ 0x0000 ∷ [])

abbrev numbers : ℕ → ℕ → ℕ → ℕ → ℕ → Numbers
numbers e p f q b = record { engine = e; position = p; second = f; second_position = q; branch = b }

unfoldable pub steps : List Numbers
steps = numbers 0 3 1 3 0 ∷ numbers 1 3 0 3 0 ∷ numbers 1 3 0 3 0 ∷ numbers 0 3 0 0 0 ∷ numbers 0 0 0 0 0 ∷ []

-- the answers of a list of steps, each on the words that the last accepted one gave, with an output of `room` words
unfoldable pub answers : ℕ → List ℕ → List Numbers → List Answer
answers room ws [] = []
answers room ws (k ∷ ks) = let r = step standard ws k room in answer_of r ∷ answers room (words_after r ws) ks

-- number, kind, serial, fault, length
abbrev answer : ℕ → ℕ → ℕ → ℕ → ℕ → Answer
answer n k s f l = record { number = n; kind = k; serial = s; fault = f; length = l }

pub starts_fresh : check_start standard configuration ≡ 0
unfolding computed configuration
starts_fresh = refl

pub five_answers :
    answers 8192 configuration steps ≡ answer 0 10 1 0 146 ∷ answer 0 16 1 0 139 ∷ answer 3 0 0 0 0 ∷ answer 0 12 0 0 138 ∷ answer 0 11 0 0 135 ∷ []
unfolding computed configuration steps answers
five_answers = refl

pub first_words : List ℕ
unfolding computed configuration
first_words = words_after (step standard configuration (numbers 0 3 1 3 0) 8192) configuration

-- step 2 with an output of 138 is 10
pub short_output : answer_of (step standard first_words (numbers 1 3 0 3 0) 138) ≡ answer 10 0 0 0 0
unfolding computed configuration first_words
short_output = refl

-- what the program reads: word L, the configuration, the steps
words : List Numbers → List ℕ
words [] = []
words (k ∷ ks) = k.engine ∷ k.position ∷ k.second ∷ k.second_position ∷ k.branch ∷ words ks

pub input : List ℕ
unfolding computed
input = bytes_of (length configuration ∷ configuration ++ words steps)

-- start 0 / 1 0 10 1 0 / 2 0 16 1 0 / 3 3 0 0 0 / 4 0 12 0 0 / 5 0 11 0 0 / end 135
pub text : List ℕ
text =
    115 ∷ 116 ∷ 97 ∷ 114 ∷ 116 ∷ 32 ∷ 48 ∷ 10
    ∷ 49 ∷ 32 ∷ 48 ∷ 32 ∷ 49 ∷ 48 ∷ 32 ∷ 49 ∷ 32 ∷ 48 ∷ 10
    ∷ 50 ∷ 32 ∷ 48 ∷ 32 ∷ 49 ∷ 54 ∷ 32 ∷ 49 ∷ 32 ∷ 48 ∷ 10
    ∷ 51 ∷ 32 ∷ 51 ∷ 32 ∷ 48 ∷ 32 ∷ 48 ∷ 32 ∷ 48 ∷ 10
    ∷ 52 ∷ 32 ∷ 48 ∷ 32 ∷ 49 ∷ 50 ∷ 32 ∷ 48 ∷ 32 ∷ 48 ∷ 10
    ∷ 53 ∷ 32 ∷ 48 ∷ 32 ∷ 49 ∷ 49 ∷ 32 ∷ 48 ∷ 32 ∷ 48 ∷ 10
    ∷ 101 ∷ 110 ∷ 100 ∷ 32 ∷ 49 ∷ 51 ∷ 53 ∷ 10
    ∷ []

pub printed : handover input ≡ text
unfolding computed configuration steps words input text
printed = refl
