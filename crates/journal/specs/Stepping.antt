-- The step with its result in scratch, compared with what it read; the room that is tried first for a short configuration.
use Rattle.std.specs.Prelude.{ℕ, ◌+◌, ◌-◌, cond, List, leb, ltb, length}
use Rattle.sock.specs.Configuration.{encode}
use Rattle.sock.specs.Calls.{Result, refused, done, Stepped, Answer, answer_of}
use Rattle.sock.specs.Journal.{alike, alike_behind, journal_of}
use Rattle.stepping.specs.Answering.{refusing}

-- the answer of a step, and how many words its result has alike with those read
pub record Compared : Type 0 where
  pub answer : Answer
  pub first : ℕ
  pub last : ℕ

-- how many words a journal has, for lengths with so many words alike
unfoldable pub needed_of : ℕ → ℕ → ℕ → ℕ → ℕ
needed_of old new first last = 4 + (old - (first + last)) + (new - (first + last))

-- 16 where the journal would have more than `room` words; else what the words read have alike with the result's
unfoldable pub compared_of : ℕ → List ℕ → Result Stepped → Compared
compared_of room ws (refused r) = record { answer = answer_of (refused r); first = 0; last = 0 }
compared_of room ws (done s) =
    cond (leb (length (journal_of ws (encode s.config))) room)
    (record {
      answer = answer_of (done s);
      first = alike ws (encode s.config);
      last = alike_behind (alike ws (encode s.config)) ws (encode s.config);
    })
    (record { answer = refusing 16; first = 0; last = 0 })

-- how many words the result may have in scratch of `most`, with an output of `room`
unfoldable pub room_in : ℕ → ℕ → ℕ
room_in most room = cond (ltb most room) most room
