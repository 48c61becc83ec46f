-- M1 to M10, document 01's marked examples, as one conjunction over a table of cases: each starts from a configuration, takes steps on
-- its words, and ends with the last answer's number and a configuration.
-- Assumes nothing.
use Prim.Native.Nat.{ℕ, ◌+◌, ◌*◌}
use mathlib.Core.Path.{◌≡◌, refl}
use mathlib.Core.Bool.{Bool, true, false}
use mathlib.Core.List.{List, [], ◌∷◌}
use lib.ListN.{replicate, set}
use Rattle.sock.specs.Kind
use Rattle.sock.specs.Words.{head_of, scope_key}
use Rattle.sock.specs.Term.{sum, difference, less, equal, decimal_sum, decimal_difference, Expr, constant, apply, Node, node, absent, Entries, no_entries, entry, no_parts, ◌&◌, nil_node}
use Rattle.sock.specs.Running.{unmarked, Run, nil, par, scope, executor, waiter, notice, act}
use Rattle.sock.specs.Configuration.{Engine, Config, encode, standard}
use Rattle.sock.specs.Rules.{inst_of}
use Rattle.sock.specs.Calls.{Numbers, Result, refused, done, Stepped, number, step}
use Rattle.sock.proofs.Computed.{computed}

pub record Case : Type 0 where
  pub given : Config
  pub steps : List Numbers
  pub number : ℕ
  pub gives : Config

pub record Outcome : Type 0 where
  pub number : ℕ
  pub config : Config

unfoldable pub then : Config → Result Stepped → Outcome
then c (refused r) = record { number = number r; config = c }
then c (done s) = record { number = 0; config = s.config }

unfoldable pub outcome : Outcome → List Numbers → Outcome
outcome o [] = o
outcome o (k ∷ ks) = outcome (then o.config (step standard (encode o.config) k 8192)) ks

abbrev pub Shown : Case → Type 0
Shown c = outcome (record { number = 0; config = c.given }) c.steps ≡ record { number = c.number; config = c.gives }

abbrev pub Every : {A : Type 0} → (A → Type 0) → List A → Type 0
Every P [] = Unit {0}
Every P (x ∷ xs) = P x × Every P xs

-- ---- terms for the cases

unfoldable pub leaf : ℕ → ℕ → Node
leaf kind fields = node (head_of kind fields) [] [] absent no_parts

-- P, P', B and R of the examples; fault 3 and scope name 5 are theirs
unfoldable pub P : Node
P = leaf Kind.throw (7 * 32)

unfoldable pub P' : Node
P' = leaf Kind.comp (9 * 32)

unfoldable pub B : Node
B = node (head_of Kind.one_way (4 * 32 + 2)) (1 ∷ []) [] absent no_parts

R : Node
R = leaf Kind.throw (8 * 32)

unfoldable pub cH : Node
cH = leaf Kind.cH 0

unfoldable pub both : Node → Node → Node
both p q = node (head_of Kind.seq 0) [] [] absent (p & q & no_parts)

unfoldable pub one : ℕ → Node → Entries
one k p = entry k p no_entries

unfoldable pub zeros : List ℕ
zeros = replicate 32 0

unfoldable pub engine : List ℕ → Run → Engine
engine vs p = record { values = vs; process = p }

-- one engine, whose root is live and unmarked
unfoldable pub single : Entries → Run → Config
single h p = record { issued = 0; engines = engine zeros (scope 1 unmarked false h p) ∷ [] }

-- two engines, one serial issued
unfoldable pub double : Run → Run → Config
double p q = record { issued = 1; engines = engine zeros p ∷ engine zeros q ∷ [] }

unfoldable pub at : ℕ → ℕ → Numbers
at e p = record { engine = e; position = p; second = 0; second_position = 0; branch = 0 }

unfoldable pub to : ℕ → ℕ → ℕ → ℕ → Numbers
to e p f q = record { engine = e; position = p; second = f; second_position = q; branch = 0 }

-- an assign to variable 0
assigned : Expr → Run
assigned e = act (node (head_of Kind.assign 0) [] (e ∷ []) absent no_parts)

unfoldable pub live : Run → Run
live p = scope 1 unmarked false no_entries p

unfoldable pub zombie : Run → Run
zombie p = scope 1 unmarked true no_entries p

-- variable 0 takes an expression's value; it held another before, so that a step which leaves it is no case
values : ℕ → Expr → ℕ → Case
values before e after =
    record {
      given = record { issued = 0; engines = engine (set zeros 0 before) (live (assigned e)) ∷ [] };
      steps = at 0 3 ∷ [];
      number = 0;
      gives = record { issued = 0; engines = engine (set zeros 0 after) (live nil) ∷ [] };
    }

-- an assign whose expression has no value
senseless : Expr → Case
senseless e =
    let c : Config = record { issued = 0; engines = engine zeros (live (assigned e)) ∷ [] } in
    record { given = c; steps = at 0 3 ∷ []; number = 13; gives = c }

unfoldable pub waits : Bool → Run
waits dead = waiter 4 (6 ∷ []) dead 1 1 (one 3 P)

pub cases : List Case
cases =
    -- M1 f holds P, inst f: P';cH gives P';P
    record { given = single (one 3 P) (act (inst_of (one 3 (both P' cH)))); steps = at 0 5 ∷ []; number = 0; gives = single (one 3 (both P' P)) nil }
    -- M2 f absent: P';nil
    ∷ record { given = single no_entries (act (inst_of (one 3 (both P' cH)))); steps = at 0 3 ∷ []; number = 0; gives = single (one 3 (both P' nil_node)) nil }
    -- M3 inst f: B;inst(q: cH;R) keeps that cH
    ∷ record {
      given = single (one 3 P) (act (inst_of (one 3 (both B (inst_of (one (scope_key 5) (both cH R)))))));
      steps = at 0 5 ∷ [];
      number = 0;
      gives = single (one 3 (both B (inst_of (one (scope_key 5) (both cH R))))) nil;
    }
    -- M4 throw beside inst: 6
    ∷ record {
      given = single no_entries (par (act P) (act (inst_of no_entries)));
      steps = at 0 4 ∷ [];
      number = 6;
      gives = single no_entries (par (act P) (act (inst_of no_entries)));
    }
    -- M5 throw beside a live scope with nil body: 6
    ∷ record {
      given = single no_entries (par (act P) (live nil));
      steps = at 0 4 ∷ [];
      number = 6;
      gives = single no_entries (par (act P) (live nil));
    }
    -- M6 killed executor with nil body: the notice alone
    ∷ record {
      given = double (live (par (act P) (executor 4 (6 ∷ []) 1 1 nil))) (live nil);
      steps = at 0 4 ∷ [];
      number = 0;
      gives = double (zombie (notice 4 7 1 1)) (live nil);
    }
    -- M7 killed live waiter, then fault: nil
    ∷ record {
      given = double (live (par (act P) (waits false))) (live (notice 4 7 0 1));
      steps = at 0 4 ∷ to 1 3 0 3 ∷ [];
      number = 0;
      gives = double (zombie nil) (live nil);
    }
    -- M8 the same, then reply: inst
    ∷ record {
      given = double (live (par (act P) (waits false))) (live (executor 4 (6 ∷ []) 0 1 nil));
      steps = at 0 4 ∷ to 1 3 0 3 ∷ [];
      number = 0;
      gives = double (zombie (act (inst_of (one 3 P)))) (live nil);
    }
    -- M9 comp of an absent name: nil
    ∷ record { given = single no_entries (act P'); steps = at 0 3 ∷ []; number = 0; gives = single no_entries nil }
    -- M10 4,294,967,295 plus 1 is 0; 0 less 4,294,967,295 is 0, as that value is -1 (document 02, a)
    ∷ values 9 (apply sum (constant 4294967295) (constant 1)) 0
    ∷ values 9 (apply less (constant 0) (constant 4294967295)) 0
    -- and -1 less 0, -2,147,483,648 less 2,147,483,647 and not the other way round, -2,147,483,648 less -1
    ∷ values 9 (apply less (constant 4294967295) (constant 0)) 1
    ∷ values 9 (apply less (constant 2147483648) (constant 2147483647)) 1
    ∷ values 9 (apply less (constant 2147483647) (constant 2147483648)) 0
    ∷ values 9 (apply less (constant 2147483648) (constant 4294967295)) 1
    -- and what document 01 says of the other two operators: 0 minus 4,294,967,295 is 1; equal gives 1 or 0
    ∷ values 9 (apply difference (constant 0) (constant 4294967295)) 1
    ∷ values 9 (apply equal (constant 7) (constant 7)) 1
    ∷ values 9 (apply equal (constant 7) (constant 8)) 0
    -- packed digits (document 02, d): 99,999,999 plus 1 is 0, 99,995 plus 5 is 100,000; 0 minus 1 is 99,999,999
    ∷ values 9 (apply decimal_sum (constant 2576980377) (constant 1)) 0
    ∷ values 9 (apply decimal_sum (constant 629141) (constant 5)) 1048576
    ∷ values 9 (apply decimal_difference (constant 0) (constant 1)) 2576980377
    -- a digit above 9 is refused with 13, in the first operand and in the second, and also where the result would not matter
    ∷ senseless (apply decimal_sum (constant 10) (constant 1))
    ∷ senseless (apply decimal_difference (constant 1) (constant 2684354560))
    ∷ senseless (apply equal (constant 1) (apply decimal_sum (constant 1) (constant 10)))
    ∷ []

pub examples : Every Shown cases
unfolding computed then outcome cases leaf P P' B R cH both one zeros engine single double at to assigned values senseless live zombie waits
examples = (refl, (refl, (refl, (refl, (refl, (refl, (refl, (refl, (refl, (refl, (refl, (refl, (refl, (refl, (refl, (refl, (refl, (refl, (refl, (refl, (refl, (refl, (refl, (refl, tt))))))))))))))))))))))))
