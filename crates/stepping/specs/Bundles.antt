-- What the step hands on in one, as the code has it.
use Rattle.std.specs.Prelude.{ℕ, List, ◌+◌, ◌-◌, ◌*◌, get_or}
use Rattle.sock.specs.Calls as sock
use Rattle.finding.specs.declared.find.Site.{Site}
use Rattle.layout.specs.Kinds.{number_of}
use Rattle.noting.specs.declared.survey.Named.{Named}
use Rattle.noting.specs.declared.survey.Named.TheVariants.{Two}
use Rattle.stepping.specs.declared.bundles.Encounter as code
use Rattle.stepping.specs.declared.bundles.Engines.{Engines as Surveyed}
use Rattle.stepping.specs.declared.bundles.Numbers.{Numbers}
use Rattle.stepping.specs.declared.bundles.Places.{Places}
use Rattle.rules.specs.declared.edit.Side.{Side}

-- the code's numbers as those of the definitions
abbrev pub numbers_as : Numbers → sock.Numbers
numbers_as k = record { engine = k.engine; position = k.position; second = k.second; second_position = k.second_position; branch = k.branch }

-- the engines that a step names
abbrev pub named_by : Numbers → Named
named_by k = Two k.engine k.second

-- how many engines there are, the serials issued, and where each one's process begins
pub record Engines : Type 0 where
  pub count : ℕ
  pub issued : ℕ
  pub starts : List ℕ

-- the code's as that: those of a survey, and as plain numbers
abbrev pub engines_of : Surveyed → Engines
engines_of g = record { count = g.found.engines; issued = g.issued; starts = g.found.starts }

abbrev pub placed : Places → Engines
placed g = record { count = g.count; issued = g.issued; starts = g.starts }

abbrev pub bound_of : Engines → ℕ
bound_of g = g.count * 65536 + g.issued

abbrev pub start_at : Engines → ℕ → ℕ
start_at g e = get_or g.starts e 0

abbrev pub side_of : Engines → ℕ → Site → Side
side_of g e site = record { start = start_at g e; end = start_at g (e + 1) - 64; site = site }

-- two processes that may exchange something, the kind of the one that sends by its number
pub record Encounter : Type 0 where
  pub kind : ℕ
  pub engine : ℕ
  pub second : ℕ
  pub branch : ℕ
  pub sender : Side
  pub receiver : Side

-- the code's as that
abbrev pub met : code.Encounter → Encounter
met x =
    record {
      kind = number_of x.kind;
      engine = x.engine;
      second = x.second;
      branch = x.branch;
      sender = x.sender;
      receiver = x.receiver;
    }

abbrev pub encounter_of : Engines → Numbers → ℕ → Site → Site → Encounter
encounter_of g k kind a b =
    record {
      kind = kind;
      engine = k.engine;
      second = k.second;
      branch = k.branch;
      sender = side_of g k.engine a;
      receiver = side_of g k.second b;
    }
