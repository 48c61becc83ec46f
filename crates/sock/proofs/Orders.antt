-- Two steps side by side of which only one order is accepted, or none (change l): the lengths decide, 9 "long" and 10 "short paper". And what two
-- solicits do, and that a notify leaves an engine beside.
-- Assumes nothing.
use Prim.Native.Nat.{ℕ, ◌+◌, ◌*◌}
use mathlib.Core.Path.{◌≡◌, refl}
use mathlib.Core.Bool.{true}
use mathlib.Core.List.{List, [], ◌∷◌, ◌++◌}
use lib.ListN.{length, set, replicate}
use Rattle.sock.specs.Kind
use Rattle.sock.specs.Words.{head_of, name_fields}
use Rattle.sock.specs.Variables.{variable_words}
use Rattle.sock.specs.Term.{constant, node, absent, list, no_entries, no_parts, ◌&◌, nil_node}
use Rattle.sock.specs.Running.{Run, nil, seq, act}
use Rattle.sock.specs.Configuration.{Limits, Engine, Config, encode, standard}
use Rattle.sock.specs.Calls.{Result, refused, done, number, passed, Numbers, Stepped, step, step_answer, step_output}
use Rattle.sock.specs.Runs.{named}
use Rattle.sock.specs.Beside.{engines_of, engines_at, step_engines, apart}
use Rattle.sock.proofs.Computed.{computed}
use Rattle.sock.proofs.Examples.{Every, leaf, P, P', B, zeros, engine, at, to, live}

-- the numbers of two steps, the second on the first one's result; each with its output's length
unfoldable pub then : Limits → Numbers → ℕ → Result Stepped → List ℕ
then limits k room (refused r) = number r ∷ []
then limits k room (done s) = 0 ∷ passed (step limits (encode s.config) k room) ∷ []

unfoldable pub in_turn : Limits → Config → Numbers → ℕ → Numbers → ℕ → List ℕ
in_turn limits c j room k room' = then limits k room' (step limits (encode c) j room)

-- a true while becomes its body, then itself: two words more
unfoldable pub grows : Run
grows = act (node (head_of Kind.while 0) [] (constant 1 ∷ []) absent (P & no_parts))

-- a comp without handler before another process: two words less
unfoldable pub shrinks : Run
shrinks = seq (act P') B

unfoldable pub two : Run → Run → Config
two p q = record { issued = 0; engines = engine zeros (live p) ∷ engine zeros (live q) ∷ [] }

-- the two steps, of engine 0 and of engine 1
unfoldable pub grow : Numbers
grow = at 0 3

unfoldable pub grow' : Numbers
grow' = at 1 3

unfoldable pub shrink : Numbers
shrink = at 1 4

-- limits that are so many words above a configuration
unfoldable pub above : ℕ → Config → Limits
above n c = record { deepest = 64; longest = n + length (encode c) }

pub record Turns : Type 0 where
  pub limits : Limits
  pub given : Config
  pub first : Numbers
  pub room : ℕ
  pub second : Numbers
  pub room' : ℕ
  pub numbers : List ℕ

abbrev pub Shown : Turns → Type 0
Shown t = in_turn t.limits t.given t.first t.room t.second t.room' ≡ t.numbers

pub cases : List Turns
cases =
    -- at the limit only the order that shrinks first is accepted: the other is refused with 9
    record { limits = above 0 (two grows shrinks); given = two grows shrinks; first = shrink; room = 300; second = grow; room' = 300; numbers = 0 ∷ 0 ∷ [] }
    ∷ record { limits = above 0 (two grows shrinks); given = two grows shrinks; first = grow; room = 300; second = shrink; room' = 300; numbers = 9 ∷ [] }
    -- or with 10, where the outputs are as long as the configuration
    ∷ record { limits = standard; given = two grows shrinks; first = shrink; room = 145; second = grow; room' = 145; numbers = 0 ∷ 0 ∷ [] }
    ∷ record { limits = standard; given = two grows shrinks; first = grow; room = 145; second = shrink; room' = 145; numbers = 10 ∷ [] }
    -- two steps that are accepted each alone, and no order of them: 9, and 10
    ∷ record { limits = above 2 (two grows grows); given = two grows grows; first = grow; room = 300; second = grow'; room' = 300; numbers = 0 ∷ 9 ∷ [] }
    ∷ record { limits = above 2 (two grows grows); given = two grows grows; first = grow'; room = 300; second = grow; room' = 300; numbers = 0 ∷ 9 ∷ [] }
    ∷ record { limits = standard; given = two grows grows; first = grow; room = 148; second = grow'; room' = 148; numbers = 0 ∷ 10 ∷ [] }
    ∷ record { limits = standard; given = two grows grows; first = grow'; room = 148; second = grow; room' = 148; numbers = 0 ∷ 10 ∷ [] }
    ∷ []

abbrev pub sizes : List ℕ
sizes = length (encode (two grows shrinks)) ∷ length (encode (two grows grows)) ∷ []

pub shown_sizes : sizes ≡ 145 ∷ 146 ∷ []
unfolding computed leaf P P' B zeros engine live grows shrinks two
shown_sizes = refl

pub orders : Every Shown cases
unfolding computed then in_turn cases leaf P P' B zeros engine at live grows shrinks two grow grow' shrink above
orders = (refl, (refl, (refl, (refl, (refl, (refl, (refl, (refl, tt))))))))

-- ---- two solicits: no engine in common and both orders accepted, but the one that goes first has serial 1

unfoldable pub later_serial : Numbers → Result Stepped → List ℕ
later_serial k (refused r) = []
later_serial k (done s) = s.serial ∷ (step_answer standard (encode s.config) k (replicate 400 0)).serial ∷ []

unfoldable pub serials : Config → Numbers → Numbers → List ℕ
serials c j k = later_serial k (step standard (encode c) j 400)

-- engine e asks engine f, whose number is in variable 1
unfoldable pub client : ℕ → Engine
client f =
    engine (set zeros 1 f)
    (live (act (node (head_of Kind.solicit (name_fields 4 2)) ((1 * 2048 + 6 * 64) ∷ variable_words (2 ∷ []) ++ variable_words (6 ∷ [])) [] (list no_entries) no_parts)))

unfoldable pub server : Engine
server =
    engine zeros
    (live (act (node (head_of Kind.request (name_fields 4 5)) ((6 * 2048) ∷ variable_words (5 ∷ []) ++ variable_words (6 ∷ [])) [] absent (nil_node & no_parts))))

unfoldable pub calls : Config
calls = record { issued = 0; engines = client 1 ∷ server ∷ client 3 ∷ server ∷ [] }

pub two_solicits :
    (apart (step_engines standard (encode calls) (to 0 3 1 3)) (step_engines standard (encode calls) (to 2 3 3 3)) ≡ true)
    × (serials calls (to 0 3 1 3) (to 2 3 3 3) ≡ 1 ∷ 2 ∷ [])
    × (serials calls (to 2 3 3 3) (to 0 3 1 3) ≡ 1 ∷ 2 ∷ [])
unfolding computed later_serial serials client server calls zeros engine to live engines_of engines_at step_engines apart named
two_solicits = (refl, refl, refl)

-- ---- a notify between engines 1 and 2 leaves engine 0

-- engine 0 has values of its own and a process that could move; engine 1 tells engine 2, whose number is in its variable 1
unfoldable pub beside : Engine → Engine → Config
beside x y = record { issued = 0; engines = engine (set zeros 0 9) (live grows) ∷ x ∷ y ∷ [] }

unfoldable pub teller : Run → Engine
teller p = engine (set (set zeros 1 2) 2 7) (live p)

unfoldable pub tells : Run
tells = act (node (head_of Kind.notify (name_fields 4 2)) ((1 * 2048) ∷ variable_words (2 ∷ [])) [] absent no_parts)

pub others_left :
    step_output standard (encode (beside (teller tells) (engine zeros (live (act B))))) (to 1 3 2 3) (replicate 210 0)
    ≡ encode (beside (teller nil) (engine (set zeros 2 7) (live nil)))
unfolding computed P B zeros engine to live grows leaf beside teller tells
others_left = refl
