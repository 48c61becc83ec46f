-- Steps side by side (change l): which engines a step has; that it leaves all others as they are; and that two steps with no engine in common
-- may be taken in either order.
use Rattle.std.specs.Prelude.{ℕ, ◌-◌, ◌<◌, ◌≡◌, Bool, true, not, ◌&&◌, ◌||◌, cond, List, [], ◌∷◌, T, leb, eqb, length, get_or, take, drop}
use Rattle.std.proofs.Math.Option.{Option, none, some}
use Rattle.sock.specs.Kind
use Rattle.sock.specs.Variables.{member}
use Rattle.sock.specs.Configuration.{Limits}
use Rattle.sock.specs.Rules.{Move, stuck, alone, unvalued, sends, move_of}
use Rattle.sock.specs.Calls.{Numbers, Spot, Answer, step_answer, process_part, process_of}
use Rattle.sock.specs.Runs.{Call, accepted, next_words, named, of_spot, is_solicit}

abbrev pub call : Numbers → List ℕ → Call
call k out = record { numbers = k; output = out; journal = none }

-- ---- the engines of a step

-- the first, and the second where the acting process sends: a step that moves alone has only its first
unfoldable pub engines_of : Numbers → Move → List ℕ
engines_of k stuck = k.engine ∷ []
engines_of k (alone vs p) = k.engine ∷ []
engines_of k unvalued = k.engine ∷ []
engines_of k (sends m) = k.engine ∷ k.second ∷ []

unfoldable pub engines_at : Numbers → Option Spot → List ℕ
engines_at k none = k.engine ∷ []
engines_at k (some a) = engines_of k (move_of a.values a.frames a.process)

-- the acting process, which the first engine and position name; no output is asked
abbrev pub actor : Limits → List ℕ → Numbers → Option Spot
actor limits ws k = named limits ws (call k [])

unfoldable pub step_engines : Limits → List ℕ → Numbers → List ℕ
step_engines limits ws k = engines_at k (actor limits ws k)

-- Of an accepted step the kind answered tells them: these are the kinds that send
unfoldable pub sending_kind : ℕ → Bool
sending_kind n = eqb n Kind.notify || eqb n Kind.solicit || eqb n Kind.executor || eqb n Kind.notice

abbrev pub KindTellsEngines : Type 0
KindTellsEngines =
    (limits : Limits) (ws : List ℕ) (k : Numbers) (out : List ℕ) →
    T (accepted limits ws (call k out)) →
    step_engines limits ws k ≡ k.engine ∷ cond (sending_kind (step_answer limits ws k out).kind) (k.second ∷ []) []

-- the acting process is a solicit
unfoldable pub solicits : Limits → List ℕ → Numbers → Bool
solicits limits ws k = of_spot is_solicit (actor limits ws k)

-- none in common
unfoldable pub apart : List ℕ → List ℕ → Bool
apart [] fs = true
apart (e ∷ es) fs = not (member e fs) && apart es fs

abbrev pub Beside : Limits → List ℕ → Numbers → Numbers → Type 0
Beside limits ws j k = T (apart (step_engines limits ws j) (step_engines limits ws k))

-- ---- two steps, the second on what the first gave, up to its length

abbrev pub between : Limits → List ℕ → Numbers → List ℕ → List ℕ
between limits ws j out = next_words limits ws (call j out)

abbrev pub after : Limits → List ℕ → Numbers → List ℕ → Numbers → List ℕ → List ℕ
after limits ws j out k out' = next_words limits (between limits ws j out) (call k out')

-- both are accepted in this order, each with an output of any length and content
pub record InOrder (limits : Limits) (ws : List ℕ) (j : Numbers) (out : List ℕ) (k : Numbers) (out' : List ℕ) : Type 0 where
  pub first : T (accepted limits ws (call j out))
  pub second : T (accepted limits (between limits ws j out) (call k out'))

-- two answers name the same kind, serial and fault mark
pub record SaysAlike (x y : Answer) : Type 0 where
  pub kind : x.kind ≡ y.kind
  pub serial : x.serial ≡ y.serial
  pub fault : x.fault ≡ y.fault

-- j then k, and k then j, with two outputs each: they end in the same words, and each step says the same in both
pub record EndsAlike (limits : Limits) (ws : List ℕ) (j k : Numbers) (o o' p p' : List ℕ) : Type 0 where
  pub words : after limits ws j o k o' ≡ after limits ws k p j p'
  pub says_j : SaysAlike (step_answer limits ws j o) (step_answer limits (between limits ws k p) j p')
  pub says_k : SaysAlike (step_answer limits (between limits ws j o) k o') (step_answer limits ws k p)

-- Document 02, l: no engine in common, neither a solicit, both orders accepted
abbrev pub OrderDoesNotMatter : Type 0
OrderDoesNotMatter =
    (limits : Limits) (ws : List ℕ) (j k : Numbers) (o o' p p' : List ℕ) →
    Beside limits ws j k →
    T (not (solicits limits ws j)) →
    T (not (solicits limits ws k)) →
    InOrder limits ws j o k o' →
    InOrder limits ws k p j p' →
    EndsAlike limits ws j k o o' p p'

-- and where one of the two is a solicit; two solicits would take each other's serial
abbrev pub OneMaySolicit : Type 0
OneMaySolicit =
    (limits : Limits) (ws : List ℕ) (j k : Numbers) (o o' p p' : List ℕ) →
    Beside limits ws j k →
    T (not (solicits limits ws j && solicits limits ws k)) →
    InOrder limits ws j o k o' →
    InOrder limits ws k p j p' →
    EndsAlike limits ws j k o o' p p'

-- ---- which orders are accepted

-- accepted, or refused with 9 "long" or 10 "short paper"
unfoldable pub lengths_alone : ℕ → Bool
lengths_alone n = eqb n 0 || eqb n 9 || eqb n 10

-- Two steps that are accepted each alone: only lengths can refuse the second after the first
abbrev pub LengthsDecide : Type 0
LengthsDecide =
    (limits : Limits) (ws : List ℕ) (j k : Numbers) (o p out : List ℕ) →
    Beside limits ws j k →
    T (not (solicits limits ws j && solicits limits ws k)) →
    T (accepted limits ws (call j o)) →
    T (accepted limits ws (call k p)) →
    T (lengths_alone (step_answer limits (between limits ws j o) k out).number)

-- One order accepted: in the other only lengths can refuse the step that is then first; and where it is accepted, so is the other one, but for
-- an output shorter than what both orders end in
abbrev pub OtherOrder : Type 0
OtherOrder =
    (limits : Limits) (ws : List ℕ) (j k : Numbers) (o o' p p' : List ℕ) →
    Beside limits ws j k →
    T (not (solicits limits ws j && solicits limits ws k)) →
    InOrder limits ws j o k o' →
    T (lengths_alone (step_answer limits ws k p).number)
    × (T (accepted limits ws (call k p)) →
    (step_answer limits (between limits ws k p) j p').number ≡ cond (leb (length (after limits ws j o k o')) (length p')) 0 10)

-- ---- the other engines

-- the words of an engine's values, the 64 before its process
unfoldable pub values_of : Limits → List ℕ → ℕ → List ℕ
values_of limits ws e = take 64 (drop ((process_part limits ws e).first - 64) ws)

pub record SameEngine (limits : Limits) (before now : List ℕ) (e : ℕ) : Type 0 where
  pub values : values_of limits now e ≡ values_of limits before e
  pub process : process_of limits now e ≡ process_of limits before e

-- Document 02, l: an accepted step changes no value or process of any other engine; and n stays
abbrev pub OthersStay : Type 0
OthersStay =
    (limits : Limits) (ws : List ℕ) (k : Numbers) (out : List ℕ) →
    T (accepted limits ws (call k out)) →
    (get_or (between limits ws k out) 0 0 ≡ get_or ws 0 0)
    × ((e : ℕ) →
    e < get_or ws 0 0 →
    T (not (member e (step_engines limits ws k))) →
    SameEngine limits ws (between limits ws k out) e)
