-- Runs: what demand 3 speaks of. A run is a start and a list of calls of the step, refused ones included. Every request has one reply:
-- one claim about the whole list (document 01, "Calls", on demand 3). A call may be lent a journal (document 02, f), and is accepted then only
-- if that is long enough.
use Rattle.std.specs.Prelude.{ℕ, ◌+◌, ◌≤◌, ◌<◌, ◌≡◌, Bool, true, false, ◌&&◌, cond, List, [], ◌∷◌, T, eqb, length, get_or, take}
use Rattle.std.proofs.Math.Option.{Option, none, some}
use Rattle.sock.specs.Kind
use Rattle.sock.specs.Words.{bit}
use Rattle.sock.specs.Term.{kind}
use Rattle.sock.specs.Running.{Run, nil, seq, par, scope, executor, waiter, notice, act, as_node}
use Rattle.sock.specs.Configuration.{Limits, Config, read_config}
use Rattle.sock.specs.Frames.{is_done}
use Rattle.sock.specs.Rules.{also}
use Rattle.sock.specs.Calls.{Numbers, Spot, enabled_at, Result, Stepped, Answer, answer_of, output_of, check_start, ends, End, waiting, working, end_of, is_end, waits, works}
use Rattle.sock.specs.Journal.{journal_of, lent_step}
use Rattle.sock.specs.Everywhere.{everywhere}

-- a call of the step: its five numbers, an output of any length and content, and a journal of any length and content, or none
pub record Call : Type 0 where
  pub numbers : Numbers
  pub output : List ℕ
  pub journal : Option (List ℕ)

abbrev pub call : Numbers → List ℕ → Option (List ℕ) → Call
call k out journal = record { numbers = k; output = out; journal = journal }

-- what it does, what it answers, and its output afterwards; with no journal these are `step`, `step_answer` and `step_output`
unfoldable pub outcome : Limits → List ℕ → Call → Result Stepped
outcome limits ws k = lent_step limits ws k.numbers (length k.output) k.journal

unfoldable pub call_answer : Limits → List ℕ → Call → Answer
call_answer limits ws k = answer_of (outcome limits ws k)

unfoldable pub call_output : Limits → List ℕ → Call → List ℕ
call_output limits ws k = output_of (outcome limits ws k) k.output

-- Accepted means answered with number 0
unfoldable pub accepted : Limits → List ℕ → Call → Bool
accepted limits ws k = eqb (call_answer limits ws k).number 0

-- the words that the next call reads: those that an accepted one gave, up to the length answered
unfoldable pub next_words : Limits → List ℕ → Call → List ℕ
next_words limits ws k = cond (accepted limits ws k) (take (call_answer limits ws k).length (call_output limits ws k)) ws

-- a journal, where one is lent, has room for n words
unfoldable pub room_for : ℕ → Option (List ℕ) → Type 0
room_for n none = Unit
room_for n (some journal) = n ≤ length journal

-- what is read after the whole list
unfoldable pub run : Limits → List ℕ → List Call → List ℕ
run limits ws [] = ws
run limits ws (k ∷ ks) = run limits (next_words limits ws k) ks

-- the process that a call's first engine and position name in what it reads
unfoldable pub named : Limits → List ℕ → Call → Option Spot
named limits ws k = also (read_config limits ws) λ c. enabled_at c k.numbers.engine k.numbers.position

unfoldable pub of_spot : (Run → Bool) → Option Spot → Bool
of_spot test none = false
of_spot test (some a) = test a.process

-- a solicit: the process named is of kind 10
unfoldable pub is_solicit : Run → Bool
is_solicit p = eqb (kind (as_node p)) Kind.solicit

-- it delivers s: the process named is of kind 16 or 18 with serial s, a working end
unfoldable pub carries : ℕ → Run → Bool
carries s r = is_end (works s) r

-- accepted calls whose process passes a test: in one call, and in a list of calls
unfoldable pub counts : (Run → Bool) → Limits → List ℕ → Call → ℕ
counts test limits ws k = bit (accepted limits ws k && of_spot test (named limits ws k))

unfoldable pub total : (Run → Bool) → Limits → List ℕ → List Call → ℕ
total test limits ws [] = 0
total test limits ws (k ∷ ks) = counts test limits ws k + total test limits (next_words limits ws k) ks

abbrev pub solicits : Limits → List ℕ → List Call → ℕ
solicits = total is_solicit

abbrev pub deliveries : ℕ → Limits → List ℕ → List Call → ℕ
deliveries s = total (carries s)

-- the serial in the last accepted solicit's answer; `serial` where there was none
unfoldable pub last_serial : ℕ → Limits → List ℕ → List Call → ℕ
last_serial serial limits ws [] = serial
last_serial serial limits ws (k ∷ ks) =
    last_serial (cond (accepted limits ws k && of_spot is_solicit (named limits ws k)) (call_answer limits ws k).serial serial) limits
    (next_words limits ws k) ks

-- a waiting end of s
unfoldable pub awaits : ℕ → Run → Bool
awaits s r = is_end (waits s) r

-- Nothing left to run means a nil body
unfoldable pub bodyless : Run → Bool
bodyless nil = true
bodyless (seq p q) = true
bodyless (par p q) = true
bodyless (scope name mark zombie h p) = is_done p
bodyless (executor o y client serial p) = is_done p
bodyless (waiter o x dead server serial l) = true
bodyless (notice o f client serial) = true
bodyless (act p) = true

-- a working end of s with nothing left to run: a notice, or an executor with nil body
unfoldable pub ready : ℕ → Run → Bool
ready s r = carries s r && bodyless r

-- two ends alike in all they say
unfoldable pub same : End → End → Bool
same (waiting s o g) (waiting s' o' g') = eqb s s' && eqb o o' && eqb g g'
same (waiting s o g) (working s' o' g') = false
same (working s o g) (waiting s' o' g') = false
same (working s o g) (working s' o' g') = eqb s s' && eqb o o' && eqb g g'

-- an engine and a position name a process that passes a test; the end that they name
abbrev pub names : Config → (Run → Bool) → ℕ → ℕ → Type 0
names c test e p = T (of_spot test (enabled_at c e p))

unfoldable pub end_at : Config → ℕ → ℕ → Option End
end_at c e p = also (enabled_at c e p) λ a. end_of a.process

-- the numbers that name a working end's engine and position, then the waiting end's, and branch 0
abbrev pub delivery : ℕ → ℕ → ℕ → ℕ → Numbers
delivery e p e' p' = record { engine = e; position = p; second = e'; second_position = p'; branch = 0 }

-- What a list of calls, or of events that count as such, comes to: the words that are read after it, how many solicits it accepted, the serial
-- in the last one's answer, and how often it delivered each serial
pub record Course : Type 0 where
  pub words : List ℕ
  pub solicits : ℕ
  pub last_serial : ℕ
  pub deliveries : ℕ → ℕ

abbrev pub course : Limits → List ℕ → List Call → Course
course limits start calls =
    record {
      words = run limits start calls;
      solicits = solicits limits start calls;
      last_serial = last_serial 0 limits start calls;
      deliveries = λ s. deliveries s limits start calls;
    }

-- What is so after it, for the configuration that is then read
pub record MatchedBy (limits : Limits) (r : Course) (c : Config) : Type 0 where
  -- the configuration is readable
  pub readable : read_config limits r.words ≡ some c
  -- the word issued is the count of accepted solicits and, where there is one, the serial in the last one's answer
  pub issued : get_or r.words 1 0 ≡ r.solicits
  pub latest : 0 < r.solicits → r.last_serial ≡ r.solicits
  -- each serial issued has as many waiting ends as working ends, and that number is one minus the count of accepted calls that delivered it
  pub counted : (s : ℕ) → 0 < s → s ≤ r.solicits → (ends limits r.words s).number ≡ 0
  pub balanced :
      (s : ℕ) →
      0 < s →
      s ≤ r.solicits →
      (ends limits r.words s).waiters ≡ (ends limits r.words s).workers
  pub once :
      (s : ℕ) →
      0 < s →
      s ≤ r.solicits →
      (ends limits r.words s).waiters + r.deliveries s ≡ 1
  -- and these are all its ends, wherever they stand; no other serial has an end
  pub all :
      (s : ℕ) →
      0 < s →
      s ≤ r.solicits →
      (everywhere (awaits s) c ≡ (ends limits r.words s).waiters)
      × (everywhere (carries s) c ≡ (ends limits r.words s).workers)
  pub others :
      (s : ℕ) →
      (0 < s → s ≤ r.solicits → ⊥) →
      (everywhere (awaits s) c ≡ 0) × (everywhere (carries s) c ≡ 0)
  -- every end, wherever it stands, has an engine and a position that name it
  pub placed : (x : End) → 0 < everywhere (is_end (same x)) c → (e : ℕ) × (p : ℕ) × (end_at c e p ≡ some x)
  -- where there are two ends they name the same operation, and each the engine in which the other stands
  pub paired :
      (s o o' g g' e p e' p' : ℕ) →
      end_at c e p ≡ some (waiting s o g) →
      end_at c e' p' ≡ some (working s o' g') →
      (o ≡ o') × (g ≡ e') × (g' ≡ e)
  -- whenever s has a working end that is a notice or an executor with nil body, an engine and a position name it, and others its waiting end
  pub awaited :
      (s : ℕ) →
      0 < everywhere (ready s) c →
      (e : ℕ) × (p : ℕ) × (e' : ℕ) × (p' : ℕ) × names c (ready s) e p × names c (awaits s) e' p'
  -- and for all such the step that delivers s is accepted with every output no shorter than the configuration and journal enough: room for
  -- the words of this step's journal, if one is lent
  pub deliverable :
      (s e p e' p' : ℕ) (out : List ℕ) (journal : Option (List ℕ)) →
      names c (ready s) e p →
      names c (awaits s) e' p' →
      length r.words ≤ length out →
      room_for
      (length (journal_of r.words (next_words limits r.words (call (delivery e p e' p') out none))))
      journal →
      ((call_answer limits r.words (call (delivery e p e' p') out journal)).number ≡ 0)
      × ((call_answer limits r.words (call (delivery e p e' p') out journal)).serial ≡ s)

-- after a list of calls
abbrev pub Matched : Limits → List ℕ → List Call → Config → Type 0
Matched limits start calls c = MatchedBy limits (course limits start calls) c

-- Demand 3: for every start that the start check answers with 0, and every list of calls
abbrev pub EveryRequestHasOneReply : Type 0
EveryRequestHasOneReply =
    (limits : Limits) (start : List ℕ) →
    check_start limits start ≡ 0 →
    (calls : List Call) →
    (c : Config) × Matched limits start calls c
