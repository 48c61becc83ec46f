-- The variables of a message on words, as the code goes. No contract of a call names it.
use Rattle.std.specs.Prelude.{ℕ, Bool, false, cond, List, leb, eqb}
use Rattle.sock.specs.Words.{second_of, first_variable}
use Rattle.layout.specs.Own.{variables_end}
use Rattle.layout.specs.Positions.{onward}
use Rattle.evaluating.specs.Evaluating.{value_in}
use Rattle.rules.specs.Rewriting.{at}
use Rattle.rules.specs.declared.store.Taking.{Taking}
use Rattle.rules.specs.Storing.{Store}

-- variable i of the process at a place, with the place of its list's count
unfoldable pub listed_w : List ℕ → ℕ → ℕ → ℕ → ℕ
listed_w ws place count i =
    cond (eqb i 0) (second_of (at ws place)) (cond (leb (at ws count) i) 32 (first_variable (at ws (onward count i))))

unfoldable pub taking_w : List ℕ → ℕ → List ℕ → List ℕ → ℕ → ℕ → ℕ → Taking
taking_w ws sent vs other place heard i = record { variable = listed_w other place heard i; value = value_in vs (listed_w ws 0 sent i) }

unfoldable pub carried_w : List ℕ → ℕ → List ℕ → List ℕ → ℕ → ℕ → Store
carried_w ws sent vs other place heard =
    record {
      variable = (taking_w ws sent vs other place heard 0).variable;
      value = (taking_w ws sent vs other place heard 0).value;
      second = taking_w ws sent vs other place heard 1;
      third = taking_w ws sent vs other place heard 2;
      fourth = taking_w ws sent vs other place heard 3;
    }

unfoldable pub alike_w : List ℕ → ℕ → List ℕ → ℕ → Bool
alike_w ws sent other heard = eqb (at ws sent) (at other heard)

-- a notify, a solicit, an executor's reply
unfoldable pub hears_w : List ℕ → List ℕ → ℕ → Bool
hears_w ws other guard = alike_w ws 2 other (onward guard 1)

unfoldable pub heard_w : List ℕ → List ℕ → List ℕ → ℕ → Store
heard_w ws vs other guard = carried_w ws 2 vs other guard (onward guard 1)

unfoldable pub serves_w : List ℕ → List ℕ → ℕ → Bool
serves_w ws other guard =
    cond (alike_w ws 2 other (onward guard 2)) (alike_w ws (variables_end ws 2) other (variables_end other (onward guard 2))) false

unfoldable pub served_w : List ℕ → List ℕ → List ℕ → ℕ → Store
served_w ws vs other guard = carried_w ws 2 vs other guard (onward guard 2)

unfoldable pub answers_w : List ℕ → List ℕ → Bool
answers_w ws other = alike_w ws 3 other 3

unfoldable pub answered_w : List ℕ → List ℕ → List ℕ → Store
answered_w ws vs other = carried_w ws 3 vs other 0 3
