-- What a case's step leaves of the output: its result, where the output has the room that the case asks for.
use Rattle.std.specs.Prelude.{ℕ, cond, List, [], ◌∷◌, ◌++◌, ltb, length, take, drop}
use Rattle.sock.specs.Calls.{Numbers, Answer, step_output}
use Rattle.sock.specs.Configuration.{standard}
use Rattle.stepping.specs.Answers.{numbers}
use Rattle.bytewise.specs.Held.{pair_at}
use Rattle.cases.specs.Printed.{line}
use Rattle.cases.specs.Sums.{summed}

-- behind the count of words
unfoldable pub numbers_of : List ℕ → Numbers
numbers_of head = numbers (pair_at head 1) (pair_at head 2) (pair_at head 3) (pair_at head 4) (pair_at head 5)

unfoldable pub lent_output : List ℕ → List ℕ → ℕ → List ℕ → List ℕ
lent_output ws head room out =
    cond (ltb (length out) room) out (step_output standard ws (numbers_of head) (take room out) ++ drop room out)

-- the line of a step: the answer's numbers, and the sum over the output
abbrev pub answer_line : Answer → List ℕ → List ℕ
answer_line a out = line (a.number ∷ a.kind ∷ a.serial ∷ a.fault ∷ a.length ∷ summed 0 out ∷ [])
