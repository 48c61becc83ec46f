-- Lists of events: calls of the step and takings back, refused ones included (document 02, f). What stands after a list is the accepted
-- calls that no taking back has undone; demand 3 is counted over these.
use Rattle.std.specs.Prelude.{ℕ, ◌≤◌, ◌≡◌, Bool, cond, List, [], ◌∷◌, ◌++◌, map, reverse, T, eqb, length, take}
use Rattle.sock.specs.Configuration.{Limits, Config}
use Rattle.sock.specs.Calls.{Numbers, over, check_start}
use Rattle.sock.specs.Journal.{journal_of, journal_answer, journal_output, journal_written, take_back_answer, take_back_output}
use Rattle.sock.specs.Runs.{Call, accepted, next_words, run, Matched}

-- an event: a call of the step; or a taking back, with a journal and an output of any length and content
pub data Event : Type 0 where
  stepping : Call → Event
  taking_back : (journal output : List ℕ) → Event

-- Accepted means answered with number 0; the words read next are those given, up to the length answered
unfoldable pub takes : Limits → List ℕ → List ℕ → List ℕ → Bool
takes limits ws journal out = eqb (take_back_answer limits ws journal out).number 0

unfoldable pub words_before : Limits → List ℕ → List ℕ → List ℕ → List ℕ
words_before limits ws journal out = take (take_back_answer limits ws journal out).length (take_back_output limits ws journal out)

-- an accepted call that stands, with the words that it read; the journal that it writes if it is lent one
pub record Standing : Type 0 where
  pub read : List ℕ
  pub by : Call

unfoldable pub own_journal : Limits → Standing → List ℕ
own_journal limits x = journal_of x.read (next_words limits x.read x.by)

-- after some events: the words that the next one reads, and what stands, the last first
pub record State : Type 0 where
  pub words : List ℕ
  pub standing : List Standing

abbrev pub begun : List ℕ → State
begun start = record { words = start; standing = [] }

unfoldable pub all_but_last : List Standing → List Standing
all_but_last [] = []
all_but_last (x ∷ xs) = xs

-- A refused event changes nothing; an accepted taking back strikes out the last call that stands
unfoldable pub next : Limits → State → Event → State
next limits s (stepping k) =
    cond (accepted limits s.words k)
    (record { words = next_words limits s.words k; standing = record { read = s.words; by = k } ∷ s.standing })
    s
next limits s (taking_back journal out) =
    cond (takes limits s.words journal out)
    (record { words = words_before limits s.words journal out; standing = all_but_last s.standing })
    s

unfoldable pub after : Limits → State → List Event → State
after limits s [] = s
after limits s (e ∷ es) = after limits (next limits s e) es

-- the calls that stand, the first first: the list with every taken-back step and the takings back struck out
unfoldable pub struck_out : State → List Call
struck_out s = map (λ x. x.by) (reverse s.standing)

-- The condition on a taking back that is accepted: a call stands, and the journal lent begins with that of the last one
unfoldable pub Undoes : Limits → List Standing → List ℕ → Type 0
Undoes limits [] journal = ⊥
Undoes limits (x ∷ xs) journal = (rest : List ℕ) × (journal ≡ own_journal limits x ++ rest)

unfoldable pub Proper : Limits → State → Event → Type 0
Proper limits s (stepping k) = Unit
Proper limits s (taking_back journal out) = T (takes limits s.words journal out) → Undoes limits s.standing journal

unfoldable pub AllProper : Limits → State → List Event → Type 0
AllProper limits s [] = Unit
AllProper limits s (e ∷ es) = Proper limits s e × AllProper limits (next limits s e) es

-- Demand 3 over events: if each accepted taking back undoes the last accepted step still standing, by that step's own journal, then the
-- words now are those of the list with the taken-back steps struck out, and that list is matched
abbrev pub EveryStandingRequestHasOneReply : Type 0
EveryStandingRequestHasOneReply =
    (limits : Limits) (start : List ℕ) →
    check_start limits start ≡ 0 →
    (events : List Event) →
    AllProper limits (begun start) events →
    (run limits start (struck_out (after limits (begun start) events)) ≡ (after limits (begun start) events).words)
    × ((c : Config) × Matched limits start (struck_out (after limits (begun start) events)) c)

-- ---- straight after, and several in reverse

-- Straight after an accepted step that was lent a journal: with what it wrote there, and with output enough, taking back is accepted and
-- gives the earlier configuration exactly
abbrev pub TakenBackStraightAfter : Type 0
TakenBackStraightAfter =
    (limits : Limits) (ws : List ℕ) (k : Numbers) (out journal back : List ℕ) →
    (journal_answer limits ws k out journal).number ≡ 0 →
    length ws ≤ length back →
    let new = take (journal_answer limits ws k out journal).length (journal_output limits ws k out journal) in
    let written = journal_written limits ws k out journal in
    (take_back_answer limits new written back ≡ record { number = 0; length = length ws }) × (take_back_output limits new written back ≡ over ws back)

-- calls that are each accepted, one after the other
unfoldable pub AllAccepted : Limits → List ℕ → List Call → Type 0
AllAccepted limits ws [] = Unit
AllAccepted limits ws (k ∷ ks) = T (accepted limits ws k) × AllAccepted limits (next_words limits ws k) ks

-- takings back, each by the journal of one that stands, the last first, with whatever is lent behind it, and with output enough
pub data Undoing (limits : Limits) : List Standing → List Event → Type 0 where
  undoes_none : Undoing limits [] []
  undoes_last :
      (x : Standing) (xs : List Standing) (rest out : List ℕ) (es : List Event) →
      length x.read ≤ length out →
      Undoing limits xs es →
      Undoing limits (x ∷ xs) (taking_back (own_journal limits x ++ rest) out ∷ es)

-- what stands after calls that are each accepted, the last first, in front of what stood before
unfoldable pub stood : Limits → List ℕ → List Call → List Standing → List Standing
stood limits ws [] xs = xs
stood limits ws (k ∷ ks) xs = stood limits (next_words limits ws k) ks (record { read = ws; by = k } ∷ xs)

-- Of calls that are each accepted, the later ones taken back in reverse: what is read then is what the earlier ones gave, and these stand
abbrev pub SeveralInReverse : Type 0
SeveralInReverse =
    (limits : Limits) (start : List ℕ) (earlier later : List Call) →
    AllAccepted limits start (earlier ++ later) →
    (events : List Event) →
    Undoing limits (stood limits (run limits start earlier) later []) events →
    after limits (record { words = run limits start (earlier ++ later); standing = stood limits start (earlier ++ later) [] }) events
    ≡ record { words = run limits start earlier; standing = stood limits start earlier [] }
