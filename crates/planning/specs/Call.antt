-- The call that translates (document 02, e): from the planners' words and the output lent to number, length and every word of the output.
use Rattle.std.specs.Prelude.{ℕ, Bool, true, false, not, List, leb, length}
use Rattle.std.proofs.Math.Option.{Option, none, some}
use Rattle.sock.specs.Configuration.{Limits, Config, encode, engines_depth, read_config, fresh}
use Rattle.sock.specs.Calls as calls
use Rattle.sock.specs.Journal.{Taken}
use Rattle.sock.specs.Calls.{unreadable, deep, long, short, not_fresh, over, start}
use Rattle.planning.specs.Plan.{plan_words, read_plan}
use Rattle.planning.specs.Translation.{translated, stand_in, engines_captured}

-- the refusals of the other calls, and 14 "cH in a fixed scope"
pub data Refusal : Type 0 where
  plain : calls.Refusal → Refusal
  fixed_ch : Refusal

abbrev pub number : Refusal → ℕ
number (plain r) = calls.number r
number fixed_ch = 14

pub data Result (A : Type 0) : Type 0 where
  refused : Refusal → Result A
  done : A → Result A

infixl 20 ◌>>=◌
unfoldable pub ◌>>=◌ : {A B : Type 0} → Result A → (A → Result B) → Result B
◌>>=◌ (refused r) k = refused r
◌>>=◌ (done a) k = k a

unfoldable pub ◌>>◌ : {A B : Type 0} → Result A → Result B → Result B
◌>>◌ (refused r) k = refused r
◌>>◌ (done a) k = k

infix 30 ◌!◌
unfoldable pub ◌!◌ : {A : Type 0} → calls.Refusal → Option A → Result A
◌!◌ r none = refused (plain r)
◌!◌ r (some a) = done a

infix 30 ◌unless◌
unfoldable pub ◌unless◌ : Refusal → Bool → Result (Unit {0})
◌unless◌ r true = done tt
◌unless◌ r false = refused r

-- what another call gives
unfoldable pub from : {A : Type 0} → calls.Result A → Result A
from (calls.refused r) = refused (plain r)
from (calls.done a) = done a

-- figures above those of any plan's rewriting, which has at most four words for each word of the plan and five levels for each level
abbrev pub beyond : Limits
beyond = record { deepest = 512; longest = 65535 }

-- The refusals are tried in this order: 1, 14, 11, 8, 9, 10. What is translated is read by the existing start check.
unfoldable pub translate : Limits → List ℕ → ℕ → Result Config
translate limits ws room = do
  p ← unreadable ! read_plan limits ws
  c ← unreadable ! read_config beyond (plan_words (stand_in p))
  fixed_ch unless not (engines_captured p.engines)
  plain not_fresh unless fresh c
  t ← from (start beyond (plan_words (translated p)))
  plain deep unless leb (engines_depth t.engines) limits.deepest
  plain long unless leb (length (encode t)) limits.longest
  plain short unless leb (length (encode t)) room
  done t

-- number and length; a refusal's length is 0
unfoldable pub answer_of : Result Config → Taken
answer_of (refused r) = record { number = number r; length = 0 }
answer_of (done t) = record { number = 0; length = length (encode t) }

-- a refusal changes no word, and words past the length stay
unfoldable pub output_of : Result Config → List ℕ → List ℕ
output_of (refused r) out = out
output_of (done t) out = over (encode t) out

unfoldable pub translate_answer : Limits → List ℕ → List ℕ → Taken
translate_answer limits ws out = answer_of (translate limits ws (length out))

unfoldable pub translate_output : Limits → List ℕ → List ℕ → List ℕ
translate_output limits ws out = output_of (translate limits ws (length out)) out
