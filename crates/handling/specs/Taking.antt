-- An entry taken out of a scope's list on words, as the code goes: how far it has come, and the output.
use Rattle.std.specs.Prelude.{ℕ, zero, suc, Option, Some, None, ◌-◌, cond, List, eqb, get_or, set}
use Rattle.sock.specs.Words.{key_of}
use Rattle.skipping.specs.Skip.{skip_end}
use Rattle.layout.specs.Positions.{onward}
use Rattle.writers.specs.Writing.{pasted, pasted_end}
use Rattle.handling.specs.declared.take.Passing.{Passing}
use Rattle.handling.specs.declared.take.Span.{Span}
use Rattle.handling.specs.declared.take.Taken.{Taken}

abbrev pub taken : ℕ → ℕ → ℕ → Taken
taken to from upto = record { to = to; from = from; upto = upto }

-- the process taken out, none where upto is 0
abbrev pub span_as : ℕ → ℕ → Option Span
span_as from upto = cond (eqb upto 0) None (Some (record { from = from; upto = upto }))

pub record Passed : Type 0 where
  pub state : Passing
  pub out : List ℕ

pub record Took : Type 0 where
  pub answer : Taken
  pub out : List ℕ

abbrev pub passing : ℕ → ℕ → ℕ → ℕ → Passing
passing at to from upto = record { at = at; to = to; from = from; upto = upto }

abbrev pub passed : Passing → List ℕ → Passed
passed s out = record { state = s; out = out }

unfoldable pub less_if : ℕ → ℕ → ℕ
less_if n upto = cond (eqb upto 0) n (n - 1)

unfoldable pub pass_w : ℕ → List ℕ → ℕ → Passing → List ℕ → Passed
pass_w depth ws key s out =
    let e = skip_end depth ws (onward s.at 1) in
    cond (eqb (key_of (get_or ws s.at 0)) key)
    (passed (passing e s.to (onward s.at 1) e) out)
    (passed (passing e (pasted_end ws s.at e s.to) s.from s.upto) (pasted ws s.at e out s.to))

unfoldable pub passes_w : ℕ → List ℕ → ℕ → ℕ → Passing → List ℕ → Passed
passes_w depth ws key zero s out = passed s out
passes_w depth ws key (suc n) s out =
    passes_w depth ws key n (pass_w depth ws key s out).state (pass_w depth ws key s out).out

unfoldable pub took_w : ℕ → Passed → Took
took_w count p =
    record {
      answer = taken p.state.to p.state.from p.state.upto;
      out = set p.out 0 (less_if count p.state.upto);
    }

unfoldable pub take_w : ℕ → List ℕ → ℕ → ℕ → List ℕ → Took
take_w depth ws list key out =
    took_w (get_or ws list 0) (passes_w depth ws key (get_or ws list 0) (passing (onward list 1) 1 0 0) out)
