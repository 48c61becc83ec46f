-- Which variables take which values, as the code has it.
use Rattle.std.specs.Prelude.{ℕ, List, get_or}
use Rattle.rules.specs.declared.store.Taking.{Taking}

-- the variable takes the value, unless it is 32; and then the further ones take theirs, in order
pub record Store : Type 0 where
  pub variable : ℕ
  pub value : ℕ
  pub second : Taking
  pub third : Taking
  pub fourth : Taking

abbrev pub no_taking : Taking
no_taking = record { variable = 32; value = 0 }

-- the code's row of four as that
abbrev pub storing : List Taking → Store
storing s =
    record {
      variable = (get_or s 0 no_taking).variable;
      value = (get_or s 0 no_taking).value;
      second = get_or s 1 no_taking;
      third = get_or s 2 no_taking;
      fourth = get_or s 3 no_taking;
    }

abbrev pub takes : ℕ → ℕ → Store
takes x v = record { variable = x; value = v; second = no_taking; third = no_taking; fourth = no_taking }

abbrev pub unchanged : Store
unchanged = takes 32 0
