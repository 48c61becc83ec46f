-- The calls on bytes, high first, for the cabinet's C program, at the figures of either cabinet where both have the call (document 02, i), and the text of the program handover (document 01, "Calls", "Program handover").
use Rattle.std.specs.Prelude.{ℕ, zero, suc, ◌+◌, ◌*◌, ◌/◌, ◌%◌, ◌^◌, true, false, ◌||◌, List, [], ◌∷◌, ◌++◌, ltb, length, get_or, take, drop}
use Rattle.std.proofs.Math.Option.{Option, none, some}
use Rattle.sock.specs.Configuration.{Limits, standard, encode}
use Rattle.sock.specs.Rules.{also}
use Rattle.sock.specs.Calls.{unreadable, Result, refused, done, ◌>>=◌, ◌!◌, Numbers, Stepped, step, Answer, answer_of, over, check_start, check_readable, Ends, ends, Part, process_part}
use Rattle.sock.specs.Journal.{journal_of, journal_step, take_back, Taken, taken_of}

unfoldable pub words_of : List ℕ → Option (List ℕ)
words_of [] = some []
words_of (high ∷ []) = none
words_of (high ∷ low ∷ bytes) = also (words_of bytes) λ ws. some ((high * 256 + low) ∷ ws)

unfoldable pub bytes_of : List ℕ → List ℕ
bytes_of [] = []
bytes_of (w ∷ ws) = w / 256 ∷ w % 256 ∷ bytes_of ws

-- ---- the step on bytes: an odd length is 1; output space is half its bytes, rounded down, an odd last byte keeping its content

unfoldable pub byte_step : Limits → List ℕ → Numbers → ℕ → Result Stepped
byte_step limits bytes k room = do
  ws ← unreadable ! words_of bytes
  step limits ws k room

-- 64 bits: number 8, kind 8, fault 8, zero 8, serial 16, length 16
unfoldable pub packed : Answer → ℕ
packed a = a.number * 2 ^ 56 + a.kind * 2 ^ 48 + a.fault * 2 ^ 40 + a.serial * 2 ^ 16 + a.length

unfoldable pub byte_answer : Limits → List ℕ → Numbers → List ℕ → ℕ
byte_answer limits bytes k out = packed (answer_of (byte_step limits bytes k (length out / 2)))

unfoldable pub bytes_after : Result Stepped → List ℕ → List ℕ
bytes_after (refused r) out = out
bytes_after (done s) out = over (bytes_of (encode s.config)) out

unfoldable pub byte_output : Limits → List ℕ → Numbers → List ℕ → List ℕ
byte_output limits bytes k out = bytes_after (byte_step limits bytes k (length out / 2)) out

-- ---- the other calls on bytes: an odd length is unreadable, as the empty configuration is

unfoldable pub words_or_none : Option (List ℕ) → List ℕ
words_or_none none = []
words_or_none (some ws) = ws

unfoldable pub byte_check_start : Limits → List ℕ → ℕ
byte_check_start limits bytes = check_start limits (words_or_none (words_of bytes))

unfoldable pub byte_check_readable : Limits → List ℕ → ℕ
byte_check_readable limits bytes = check_readable limits (words_or_none (words_of bytes))

-- number 8, zero 24, waiters 16, workers 16
unfoldable pub packed_ends : Ends → ℕ
packed_ends e = e.number * 2 ^ 56 + e.waiters * 2 ^ 16 + e.workers

unfoldable pub byte_ends : List ℕ → ℕ → ℕ
byte_ends bytes s = packed_ends (ends standard (words_or_none (words_of bytes)) s)

-- first word 32, count of words 32
unfoldable pub packed_part : Part → ℕ
packed_part p = p.first * 2 ^ 32 + p.count

unfoldable pub byte_process : List ℕ → ℕ → ℕ
byte_process bytes e = packed_part (process_part standard (words_or_none (words_of bytes)) e)

-- ---- the step with a journal, and taking back, on bytes: the journal's space, or its words, are half its bytes, rounded down, an odd last
-- byte keeping its content

unfoldable pub byte_journal_step : Limits → List ℕ → Numbers → ℕ → ℕ → Result Stepped
byte_journal_step limits bytes k room journalRoom = do
  ws ← unreadable ! words_of bytes
  journal_step limits ws k room journalRoom

unfoldable pub byte_journal_answer : Limits → List ℕ → Numbers → List ℕ → List ℕ → ℕ
byte_journal_answer limits bytes k out journal = packed (answer_of (byte_journal_step limits bytes k (length out / 2) (length journal / 2)))

unfoldable pub byte_journal_output : Limits → List ℕ → Numbers → List ℕ → List ℕ → List ℕ
byte_journal_output limits bytes k out journal = bytes_after (byte_journal_step limits bytes k (length out / 2) (length journal / 2)) out

unfoldable pub journal_bytes_after : List ℕ → Result Stepped → List ℕ → List ℕ
journal_bytes_after ws (refused r) journal = journal
journal_bytes_after ws (done s) journal = over (bytes_of (journal_of ws (encode s.config))) journal

unfoldable pub byte_journal_written : Limits → List ℕ → Numbers → List ℕ → List ℕ → List ℕ
byte_journal_written limits bytes k out journal =
    journal_bytes_after (words_or_none (words_of bytes)) (byte_journal_step limits bytes k (length out / 2) (length journal / 2)) journal

-- the words of bytes, an odd last byte left out
unfoldable pub words_in : List ℕ → List ℕ
words_in [] = []
words_in (high ∷ []) = []
words_in (high ∷ low ∷ bytes) = (high * 256 + low) ∷ words_in bytes

unfoldable pub byte_take_back : List ℕ → List ℕ → ℕ → Result (List ℕ)
byte_take_back bytes journal room = do
  ws ← unreadable ! words_of bytes
  take_back standard ws (words_in journal) room

-- number 8, zero 40, length 16
unfoldable pub packed_taken : Taken → ℕ
packed_taken t = t.number * 2 ^ 56 + t.length

unfoldable pub byte_taken : List ℕ → List ℕ → List ℕ → ℕ
byte_taken bytes journal out = packed_taken (taken_of (byte_take_back bytes journal (length out / 2)))

unfoldable pub restored_bytes : Result (List ℕ) → List ℕ → List ℕ
restored_bytes (refused r) out = out
restored_bytes (done old) out = over (bytes_of old) out

unfoldable pub byte_restored : List ℕ → List ℕ → List ℕ → List ℕ
byte_restored bytes journal out = restored_bytes (byte_take_back bytes journal (length out / 2)) out

-- ---- the program handover

-- a number in decimal; more digits than `fuel` are never asked for
unfoldable pub digits : ℕ → ℕ → List ℕ → List ℕ
digits zero n text = text
digits (suc fuel) n text = elim (ltb n 10) [ true ↦ (48 + n) ∷ text | false ↦ digits fuel (n / 10) ((48 + n % 10) ∷ text) ]

unfoldable pub decimal : ℕ → List ℕ
decimal n = digits (suc n) n []

-- the words of the text: "start ", "end ", "cut", a space and a line's end
unfoldable pub start_text : List ℕ
start_text = 115 ∷ 116 ∷ 97 ∷ 114 ∷ 116 ∷ 32 ∷ []

unfoldable pub end_text : List ℕ
end_text = 101 ∷ 110 ∷ 100 ∷ 32 ∷ []

unfoldable pub cut_line : List ℕ
cut_line = 99 ∷ 117 ∷ 116 ∷ 10 ∷ []

unfoldable pub start_line : ℕ → List ℕ
start_line n = start_text ++ decimal n ++ 10 ∷ []

unfoldable pub end_line : ℕ → List ℕ
end_line n = end_text ++ decimal n ++ 10 ∷ []

-- per step: step number from 1, answer number, kind, serial, fault
unfoldable pub step_line : ℕ → Answer → List ℕ
step_line i a =
    decimal i ++ 32 ∷ [] ++ decimal a.number ++ 32 ∷ [] ++ decimal a.kind ++ 32 ∷ [] ++ decimal a.serial ++ 32 ∷ []
    ++ decimal a.fault
    ++ 10 ∷ []

abbrev word_at : List ℕ → ℕ → ℕ
word_at bytes i = get_or bytes (2 * i) 0 * 256 + get_or bytes (2 * i + 1) 0

unfoldable pub numbers_in : List ℕ → Numbers
numbers_in bytes =
    record {
      engine = word_at bytes 0;
      position = word_at bytes 1;
      second = word_at bytes 2;
      second_position = word_at bytes 3;
      branch = word_at bytes 4;
    }

-- the words that the next step reads
unfoldable pub words_after : Result Stepped → List ℕ → List ℕ
words_after (refused r) ws = ws
words_after (done s) ws = encode s.config

-- the lines from step i on: steps of five words; last "end" and the length, or "cut" if 1 to 9 bytes remain
unfoldable pub step_lines : ℕ → ℕ → List ℕ → List ℕ → List ℕ
step_lines zero i ws bytes = elim bytes [ [] ↦ end_line (length ws) | b ∷ bs ↦ cut_line ]
step_lines (suc fuel) i ws bytes =
    let r = step standard ws (numbers_in bytes) standard.longest in
    elim (ltb (length bytes) 10) [
      | true ↦ elim bytes [ [] ↦ end_line (length ws) | b ∷ bs ↦ cut_line ]
      | false ↦ step_line i (answer_of r) ++ step_lines fuel (suc i) (words_after r ws) (drop 10 bytes)
    ]

unfoldable pub started : ℕ → List ℕ → List ℕ → List ℕ
started zero ws bytes = start_line zero ++ step_lines (length bytes) 1 ws bytes
started (suc n) ws bytes = start_line (suc n)

-- word L, L configuration words, then steps; the check's number is 1 if words are missing or L is above 8,192
unfoldable pub configured : ℕ → List ℕ → List ℕ
configured l bytes =
    elim (ltb standard.longest l || ltb (length bytes) (2 * l)) [
      | true ↦ start_line 1
      | false ↦
          let ws = words_or_none (words_of (take (2 * l) bytes)) in
          started (check_start standard ws) ws (drop (2 * l) bytes)
    ]

unfoldable pub handover : List ℕ → List ℕ
handover [] = start_line 1
handover (high ∷ []) = start_line 1
handover (high ∷ low ∷ bytes) = configured (high * 256 + low) bytes
