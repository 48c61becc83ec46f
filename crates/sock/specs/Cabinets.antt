-- Cabinets of different figures (document 02, i): the swing bridge cabinet's; the step at smaller figures, by the step at larger ones; lists of
-- events in which each event names the figures of the cabinet that makes it.
use Rattle.std.specs.Prelude.{ℕ, ◌≤◌, ◌≡◌, Bool, true, false, ◌&&◌, List, [], ◌∷◌, T, leb, length}
use Rattle.std.proofs.Math.Option.{Option, none, some}
use Rattle.sock.specs.Configuration.{Limits, Config, encode, engines_depth, guarded, also, read_config}
use Rattle.sock.specs.Calls.{Refusal, unreadable, nobody_there, no_move, no_partner, no_fit, not_decimal, installing, serials_spent, deep, long, short, not_fresh, unknown_serial, unmatched, journal_short, index_short, house_full, still_at_work, refused, done, Numbers, Stepped, check_start}
use Rattle.sock.specs.Journal.{journal_of, lent_step}
use Rattle.sock.specs.Runs.{call, call_answer, next_words, run, Matched, room_for, names, ready, awaits, delivery}
use Rattle.sock.specs.Events.{Event, stepping, taking_back, takes, State, begun, next, struck_out, Undoes, AllAccepted}

-- the swing bridge cabinet
abbrev pub small : Limits
small = record { deepest = 32; longest = 2048 }

infix 30 ◌inside◌
-- neither figure of s is above that of l
abbrev pub ◌inside◌ : Limits → Limits → Type 0
s inside l = (s.deepest ≤ l.deepest) × (s.longest ≤ l.longest)

-- a configuration inside the figures
unfoldable pub fits : Limits → Config → Bool
fits s c = leb (engines_depth c.engines) s.deepest && leb (length (encode c)) s.longest

-- ---- the step at s, by the step at l

-- what is read at s is what is read at l and is inside s
abbrev pub ReadInside : Type 0
ReadInside = (s l : Limits) → s inside l → (ws : List ℕ) → read_config s ws ≡ also (read_config l ws) λ c. guarded (fits s c) (some c)

-- a start at s is a start at l
abbrev pub StartInside : Type 0
StartInside = (s l : Limits) → s inside l → (ws : List ℕ) → check_start s ws ≡ 0 → check_start l ws ≡ 0

-- words that are read at s
abbrev pub Reads : Limits → List ℕ → Type 0
Reads s ws = (c : Config) × (read_config s ws ≡ some c)

-- The step at s is accepted exactly where the step at l, lent the same, is accepted with input and result inside s, and then gives the same
abbrev pub AcceptedInside : Type 0
AcceptedInside =
    (s l : Limits) → s inside l →
    (ws : List ℕ) (k : Numbers) (room : ℕ) (journal : Option (List ℕ)) (x : Stepped) →
    (lent_step s ws k room journal ≡ done x → (lent_step l ws k room journal ≡ done x) × Reads s ws × T (fits s x.config))
    × (lent_step l ws k room journal ≡ done x → Reads s ws → T (fits s x.config) → lent_step s ws k room journal ≡ done x)

-- the refusals that are tried after reading and before the limits
unfoldable pub before_limits : Refusal → Bool
before_limits unreadable = false
before_limits nobody_there = true
before_limits no_move = true
before_limits no_partner = true
before_limits no_fit = true
before_limits not_decimal = true
before_limits installing = true
before_limits serials_spent = true
before_limits deep = false
before_limits long = false
before_limits short = false
before_limits not_fresh = false
before_limits unknown_serial = false
before_limits unmatched = false
before_limits journal_short = false
before_limits index_short = false
before_limits house_full = false
before_limits still_at_work = false

-- They agree where the input is inside s
abbrev pub RefusedInside : Type 0
RefusedInside =
    (s l : Limits) → s inside l →
    (ws : List ℕ) (k : Numbers) (room : ℕ) (journal : Option (List ℕ)) → Reads s ws →
    (r : Refusal) → T (before_limits r) →
    (lent_step s ws k room journal ≡ refused r → lent_step l ws k room journal ≡ refused r)
    × (lent_step l ws k room journal ≡ refused r → lent_step s ws k room journal ≡ refused r)

-- ---- events, each at the figures of a cabinet

pub record At : Type 0 where
  pub figures : Limits
  pub event : Event

unfoldable pub after_all : State → List At → State
after_all s [] = s
after_all s (e ∷ es) = after_all (next e.figures s e.event) es

unfoldable pub AllInside : Limits → List At → Type 0
AllInside l [] = Unit
AllInside l (e ∷ es) = (e.figures inside l) × AllInside l es

-- The condition on takings back, as in change f: an accepted one undoes the last accepted step still standing, by that step's own journal
unfoldable pub ProperAt : Limits → State → Limits → Event → Type 0
ProperAt l s figures (stepping k) = Unit
ProperAt l s figures (taking_back journal out) = T (takes figures s.words journal out) → Undoes l s.standing journal

unfoldable pub AllProperAt : Limits → State → List At → Type 0
AllProperAt l s [] = Unit
AllProperAt l s (e ∷ es) = ProperAt l s e.figures e.event × AllProperAt l (next e.figures s e.event) es

-- Delivery at s: while s reads the configuration, the step there that delivers a finished request is accepted, given output no shorter than the
-- configuration and journal enough
abbrev pub DeliverableAt : Limits → List ℕ → Config → Type 0
DeliverableAt s ws c =
    read_config s ws ≡ some c →
    (serial e p e' p' : ℕ) (out : List ℕ) (journal : Option (List ℕ)) →
    names c (ready serial) e p →
    names c (awaits serial) e' p' →
    length ws ≤ length out →
    room_for (length (journal_of ws (next_words s ws (call (delivery e p e' p') out none)))) journal →
    ((call_answer s ws (call (delivery e p e' p') out journal)).number ≡ 0)
    × ((call_answer s ws (call (delivery e p e' p') out journal)).serial ≡ serial)

-- Demand 3 where each event names its cabinet: what stands is a list of calls that the largest of them would all have accepted, with the same
-- words after it, and that list is matched; and every cabinet delivers what is finished and what it can read
abbrev pub EveryRequestHasOneReplyAtAny : Type 0
EveryRequestHasOneReplyAtAny =
    (l : Limits) (start : List ℕ) →
    check_start l start ≡ 0 →
    (events : List At) →
    AllInside l events →
    AllProperAt l (begun start) events →
    let after = after_all (begun start) events in
    AllAccepted l start (struck_out after)
    × (run l start (struck_out after) ≡ after.words)
    × ((c : Config) × Matched l start (struck_out after) c × ((s : Limits) → DeliverableAt s after.words c))
