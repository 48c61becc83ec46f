-- The house over time (document 02, k): lists of steps, joinings and leavings, refused ones included, and of takings back among them. Demand 3
-- over these, in one cabinet and in several (i), and that no open serial names an engine that has left since it was issued.
use Rattle.std.specs.Prelude.{ℕ, ◌+◌, ◌-◌, ◌<◌, ◌≡◌, Bool, ◌&&◌, cond, List, [], ◌∷◌, ◌++◌, map, reverse, T, eqb, get_or, take}
use Rattle.std.proofs.Math.Option.{some}
use Rattle.sock.specs.Configuration.{Limits, Config, read_config}
use Rattle.sock.specs.Frames.{is_done}
use Rattle.sock.specs.Calls.{engine_at, check_start, End, is_end, tally_all}
use Rattle.sock.specs.Everywhere.{everywhere}
use Rattle.sock.specs.Engines.{join_answer, join_output, leave_answer, leave_output, last_of, without_last, serial_of, engine_of, points_to}
use Rattle.sock.specs.Runs.{Call, call_answer, accepted, next_words, named, of_spot, is_solicit, carries, counts, same, Course, MatchedBy}
use Rattle.sock.specs.Events.{takes, words_before, own_journal}
use Rattle.sock.specs.Cabinets.{◌inside◌, DeliverableAt}

-- ---- steps, joinings and leavings

-- a call of the step, a joining or a leaving, with an output of any length and content
pub data Act : Type 0 where
  stepping : Call → Act
  joining : (engine output : List ℕ) → Act
  leaving : (output : List ℕ) → Act

-- Accepted means answered with number 0
unfoldable pub accepts : Limits → List ℕ → Act → Bool
accepts limits ws (stepping k) = accepted limits ws k
accepts limits ws (joining engine out) = eqb (join_answer limits ws engine out).number 0
accepts limits ws (leaving out) = eqb (leave_answer limits ws out).number 0

-- the words that the next act reads: those that an accepted one gave, up to the length answered
unfoldable pub words_after : Limits → List ℕ → Act → List ℕ
words_after limits ws (stepping k) = next_words limits ws k
words_after limits ws (joining engine out) =
    cond (accepts limits ws (joining engine out)) (take (join_answer limits ws engine out).length (join_output limits ws engine out)) ws
words_after limits ws (leaving out) =
    cond (accepts limits ws (leaving out)) (take (leave_answer limits ws out).length (leave_output limits ws out)) ws

-- what a course comes to by one more act: steps are counted as in a list of calls, a joining or a leaving is no solicit and delivers nothing
unfoldable pub further : Limits → Course → Act → Course
further limits r (stepping k) =
    record {
      words = next_words limits r.words k;
      solicits = r.solicits + counts is_solicit limits r.words k;
      last_serial =
          cond (accepted limits r.words k && of_spot is_solicit (named limits r.words k)) (call_answer limits r.words k).serial
          r.last_serial;
      deliveries = λ s. r.deliveries s + counts (carries s) limits r.words k;
    }
further limits r (joining engine out) =
    record {
      words = words_after limits r.words (joining engine out);
      solicits = r.solicits;
      last_serial = r.last_serial;
      deliveries = r.deliveries;
    }
further limits r (leaving out) =
    record {
      words = words_after limits r.words (leaving out);
      solicits = r.solicits;
      last_serial = r.last_serial;
      deliveries = r.deliveries;
    }

unfoldable pub throughout : Limits → Course → List Act → Course
throughout limits r [] = r
throughout limits r (a ∷ more) = throughout limits (further limits r a) more

abbrev pub from : List ℕ → Course
from start = record { words = start; solicits = 0; last_serial = 0; deliveries = λ s. 0 }

-- Demand 3 where engines come and go: for every start that the start check answers with 0, and every list of acts
abbrev pub EveryRequestHasOneReplyInTheHouse : Type 0
EveryRequestHasOneReplyInTheHouse =
    (limits : Limits) (start : List ℕ) →
    check_start limits start ≡ 0 →
    (acts : List Act) →
    (c : Config) × MatchedBy limits (throughout limits (from start) acts) c

-- No open serial names an engine that has left since it was issued: every end that stands anywhere after a leaving, and names the number that
-- was given up, has a serial above those issued at the leaving. The number is that of whoever joined since.
abbrev pub NoneNamesWhoLeft : Type 0
NoneNamesWhoLeft =
    (limits : Limits) (start : List ℕ) →
    check_start limits start ≡ 0 →
    (before : List Act) (out : List ℕ) (after : List Act) →
    let then = throughout limits (from start) before in
    let since = throughout limits then (leaving out ∷ after) in
    T (accepts limits then.words (leaving out)) →
    (c : Config) →
    read_config limits since.words ≡ some c →
    (x : End) →
    0 < everywhere (is_end (same x)) c →
    engine_of x ≡ get_or then.words 0 0 - 1 →
    then.solicits < serial_of x

-- In such a list an end elsewhere never decides refusal 22: where the last engine's process is nil no end names it
abbrev pub NoneNamesWhoIsDone : Type 0
NoneNamesWhoIsDone =
    (limits : Limits) (start : List ℕ) →
    check_start limits start ≡ 0 →
    (acts : List Act) (c : Config) →
    read_config limits (throughout limits (from start) acts).words ≡ some c →
    T (is_done (engine_at c (last_of c)).process) →
    tally_all (points_to (last_of c)) (without_last c).engines ≡ 0

-- ---- with takings back

pub data Event : Type 0 where
  acting : Act → Event
  taking_back : (journal output : List ℕ) → Event

-- an accepted act that stands, with the words that it read
pub record Standing : Type 0 where
  pub read : List ℕ
  pub by : Act

-- after some events: the words that the next one reads, and what stands, the last first
pub record State : Type 0 where
  pub words : List ℕ
  pub standing : List Standing

abbrev pub begun : List ℕ → State
begun start = record { words = start; standing = [] }

unfoldable pub all_but_last : List Standing → List Standing
all_but_last [] = []
all_but_last (x ∷ xs) = xs

-- A refused event changes nothing; an accepted taking back strikes out the last act that stands
unfoldable pub next : Limits → State → Event → State
next limits s (acting a) =
    cond (accepts limits s.words a)
    (record { words = words_after limits s.words a; standing = record { read = s.words; by = a } ∷ s.standing })
    s
next limits s (taking_back journal out) =
    cond (takes limits s.words journal out)
    (record { words = words_before limits s.words journal out; standing = all_but_last s.standing })
    s

unfoldable pub after : Limits → State → List Event → State
after limits s [] = s
after limits s (e ∷ es) = after limits (next limits s e) es

-- the acts that stand, the first first
unfoldable pub struck_out : State → List Act
struck_out s = map (λ x. x.by) (reverse s.standing)

-- The condition on a taking back that is accepted: what stands last is a step, and the journal lent begins with that step's own. A joining or a
-- leaving is not taken back, so it stands between: no step before it is taken back any more.
unfoldable pub UndoesLast : Limits → List ℕ → Act → List ℕ → Type 0
UndoesLast limits ws (stepping k) journal = (rest : List ℕ) × (journal ≡ own_journal limits (record { read = ws; by = k }) ++ rest)
UndoesLast limits ws (joining engine out) journal = ⊥
UndoesLast limits ws (leaving out) journal = ⊥

unfoldable pub Undoes : Limits → List Standing → List ℕ → Type 0
Undoes limits [] journal = ⊥
Undoes limits (x ∷ xs) journal = UndoesLast limits x.read x.by journal

unfoldable pub Proper : Limits → State → Event → Type 0
Proper limits s (acting a) = Unit
Proper limits s (taking_back journal out) = T (takes limits s.words journal out) → Undoes limits s.standing journal

unfoldable pub AllProper : Limits → State → List Event → Type 0
AllProper limits s [] = Unit
AllProper limits s (e ∷ es) = Proper limits s e × AllProper limits (next limits s e) es

-- Demand 3 over all events: the words now are those of the acts that stand, and these are matched
abbrev pub EveryStandingRequestHasOneReplyInTheHouse : Type 0
EveryStandingRequestHasOneReplyInTheHouse =
    (limits : Limits) (start : List ℕ) →
    check_start limits start ≡ 0 →
    (events : List Event) →
    AllProper limits (begun start) events →
    let acts = struck_out (after limits (begun start) events) in
    ((throughout limits (from start) acts).words ≡ (after limits (begun start) events).words)
    × ((c : Config) × MatchedBy limits (throughout limits (from start) acts) c)

-- ---- in cabinets of different figures

-- an event, at the figures of the cabinet that makes it
pub record At : Type 0 where
  pub figures : Limits
  pub event : Event

unfoldable pub after_all : State → List At → State
after_all s [] = s
after_all s (e ∷ es) = after_all (next e.figures s e.event) es

-- of any event, a joining and a leaving too, though the swing bridge cabinet has neither
unfoldable pub AllInside : Limits → List At → Type 0
AllInside l [] = Unit
AllInside l (e ∷ es) = (e.figures inside l) × AllInside l es

-- The condition on a taking back, as above: what stands last is a step, and the journal lent begins with that step's own
unfoldable pub ProperAt : Limits → State → Limits → Event → Type 0
ProperAt l s figures (acting a) = Unit
ProperAt l s figures (taking_back journal out) = T (takes figures s.words journal out) → Undoes l s.standing journal

unfoldable pub AllProperAt : Limits → State → List At → Type 0
AllProperAt l s [] = Unit
AllProperAt l s (e ∷ es) = ProperAt l s e.figures e.event × AllProperAt l (next e.figures s e.event) es

-- acts that are each accepted, one after the other
unfoldable pub AllAccepted : Limits → List ℕ → List Act → Type 0
AllAccepted limits ws [] = Unit
AllAccepted limits ws (a ∷ acts) = T (accepts limits ws a) × AllAccepted limits (words_after limits ws a) acts

-- Demand 3 over all events, each at the figures of its cabinet: each act that stands is accepted at the largest figures too, the words now are those
-- that they give there, they are matched there, and every cabinet delivers what is finished and what it can read
abbrev pub EveryRequestHasOneReplyInAnyHouse : Type 0
EveryRequestHasOneReplyInAnyHouse =
    (l : Limits) (start : List ℕ) →
    check_start l start ≡ 0 →
    (events : List At) →
    AllInside l events →
    AllProperAt l (begun start) events →
    let now = after_all (begun start) events in
    let acts = struck_out now in
    AllAccepted l start acts
    × ((throughout l (from start) acts).words ≡ now.words)
    × ((c : Config) × MatchedBy l (throughout l (from start) acts) c × ((s : Limits) → DeliverableAt s now.words c))
