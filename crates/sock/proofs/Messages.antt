-- Messages of several values (document 02, c), as cases on words: what fits and what does not, the lists carried along, what the reader
-- has to refuse.
-- Assumes nothing.
use Prim.Native.Nat.{ℕ, ◌+◌, ◌*◌}
use mathlib.Core.Path.{refl}
use mathlib.Core.Bool.{false}
use mathlib.Core.List.{List, [], ◌∷◌, ◌++◌}
use lib.ListN.{set}
use Rattle.sock.specs.Kind
use Rattle.sock.specs.Words.{head_of, name_fields}
use Rattle.sock.specs.Variables.{first_of, variable_words}
use Rattle.sock.specs.Term.{Node, node, absent, list, no_entries, no_parts, ◌&◌, nil_node}
use Rattle.sock.specs.Running.{Run, nil, executor, waiter, act}
use Rattle.sock.specs.Configuration.{Config}
use Rattle.sock.specs.Rules.{inst_of}
use Rattle.sock.proofs.Computed.{computed}
use Rattle.sock.proofs.Examples.{Case, then, outcome, Shown, Every, leaf, P, one, zeros, engine, at, to, live}

-- ---- terms for the cases: operation 4, and z is variable 1

tells : List ℕ → Node
tells y = node (head_of Kind.notify (name_fields 4 (first_of y))) ((1 * 2048) ∷ variable_words y) [] absent no_parts

listens : List ℕ → Node
listens x = node (head_of Kind.one_way (name_fields 4 (first_of x))) (variable_words x) [] absent no_parts

asks : List ℕ → List ℕ → Node
asks y x = node (head_of Kind.solicit (name_fields 4 (first_of y))) ((1 * 2048 + first_of x * 64) ∷ variable_words y ++ variable_words x) [] (list (one 3 P)) no_parts

answers : List ℕ → List ℕ → Node
answers x y = node (head_of Kind.request (name_fields 4 (first_of x))) ((first_of y * 2048) ∷ variable_words x ++ variable_words y) [] absent (nil_node & no_parts)

-- a one-way with any own words
odd : List ℕ → Node
odd ws = node (head_of Kind.one_way (name_fields 4 7)) ws [] absent no_parts

-- engine 0, whose variable 1 is 1, so that it names engine 1, and engine 1; 2 and 3 hold 20 and 30 in the one, 9, 10 and 11 hold 90, 100 and 110
-- in the other
calling : List ℕ
calling = set (set (set zeros 1 1) 2 20) 3 30

called : List ℕ
called = set (set (set zeros 9 90) 10 100) 11 110

pair : ℕ → List ℕ → Run → List ℕ → Run → Config
pair issued vs p us q = record { issued = issued; engines = engine vs (live p) ∷ engine us (live q) ∷ [] }

-- a step of engine 0 with engine 1 that is refused
refuses : ℕ → ℕ → Run → Run → Case
refuses number issued p q =
    record { given = pair issued calling p called q; steps = to 0 3 1 3 ∷ []; number = number; gives = pair issued calling p called q }

-- what is read: the step then finds nobody at position 1; and what is not
reads : ℕ → Run → Case
reads number p = record { given = pair 1 calling p called nil; steps = at 0 1 ∷ []; number = number; gives = pair 1 calling p called nil }

pub cases : List Case
cases =
    -- x takes y, value for value; y may have a variable twice
    record {
      given = pair 0 calling (act (tells (2 ∷ 3 ∷ []))) called (act (listens (7 ∷ 8 ∷ [])));
      steps = to 0 3 1 3 ∷ [];
      number = 0;
      gives = pair 0 calling nil (set (set called 7 20) 8 30) nil;
    }
    ∷ record {
      given = pair 0 calling (act (tells (3 ∷ 2 ∷ 3 ∷ 1 ∷ []))) called (act (listens (7 ∷ 8 ∷ 9 ∷ 10 ∷ [])));
      steps = to 0 3 1 3 ∷ [];
      number = 0;
      gives = pair 0 calling nil (set (set (set (set called 7 30) 8 20) 9 30) 10 1) nil;
    }
    -- message and receiver need equal counts
    ∷ refuses 5 0 (act (tells (2 ∷ 3 ∷ []))) (act (listens (7 ∷ [])))
    ∷ refuses 5 0 (act (tells (2 ∷ []))) (act (listens (7 ∷ 8 ∷ [])))
    -- solicit and waiter, request and executor carry their lists along; the reply has as many values as the waiter receives
    ∷ record {
      given = pair 0 calling (act (asks (2 ∷ 3 ∷ []) (4 ∷ 5 ∷ 6 ∷ []))) called (act (answers (7 ∷ 8 ∷ []) (9 ∷ 10 ∷ 11 ∷ [])));
      steps = to 0 3 1 3 ∷ [];
      number = 0;
      gives = pair 1 calling (waiter 4 (4 ∷ 5 ∷ 6 ∷ []) false 1 1 (one 3 P)) (set (set called 7 20) 8 30) (executor 4 (9 ∷ 10 ∷ 11 ∷ []) 0 1 nil);
    }
    ∷ record {
      given = pair 0 calling (act (asks (2 ∷ 3 ∷ []) (4 ∷ 5 ∷ 6 ∷ []))) called (act (answers (7 ∷ 8 ∷ []) (9 ∷ 10 ∷ 11 ∷ [])));
      steps = to 0 3 1 3 ∷ to 1 3 0 3 ∷ [];
      number = 0;
      gives = pair 1 (set (set (set calling 4 90) 5 100) 6 110) (act (inst_of (one 3 P))) (set (set called 7 20) 8 30) nil;
    }
    -- a solicit fits a request only if the counts for the reply agree too, also where no serial is left
    ∷ refuses 5 0 (act (asks (2 ∷ 3 ∷ []) (4 ∷ []))) (act (answers (7 ∷ 8 ∷ []) (9 ∷ 10 ∷ [])))
    ∷ refuses 5 0 (act (asks (2 ∷ []) (4 ∷ []))) (act (answers (7 ∷ 8 ∷ []) (9 ∷ [])))
    ∷ refuses 5 65535 (act (asks (2 ∷ 3 ∷ []) (4 ∷ []))) (act (answers (7 ∷ 8 ∷ []) (9 ∷ 10 ∷ [])))
    -- a reply to a waiter of another count, in a configuration that no start leads to
    ∷ refuses 5 1 (executor 4 (2 ∷ 3 ∷ []) 1 1 nil) (waiter 4 (5 ∷ []) false 0 1 no_entries)
    -- no x list has a variable twice
    ∷ reads 1 (act (listens (7 ∷ 8 ∷ 7 ∷ [])))
    ∷ reads 1 (act (answers (7 ∷ 7 ∷ []) (9 ∷ [])))
    ∷ reads 1 (act (asks (2 ∷ []) (4 ∷ 5 ∷ 5 ∷ [])))
    ∷ reads 1 (waiter 4 (6 ∷ 6 ∷ []) false 1 1 no_entries)
    -- a y list may
    ∷ reads 2 (act (tells (2 ∷ 2 ∷ [])))
    ∷ reads 2 (act (answers (7 ∷ []) (9 ∷ 9 ∷ [])))
    ∷ reads 2 (act (asks (2 ∷ 2 ∷ []) (4 ∷ [])))
    ∷ reads 2 (executor 4 (6 ∷ 6 ∷ []) 1 1 nil)
    -- a count is the plain number 1 to 4, and a further variable stands at the top of its word
    ∷ reads 2 (act (odd (4 ∷ 0x0800 ∷ 0x1000 ∷ 0x1800 ∷ [])))
    ∷ reads 1 (act (odd (5 ∷ 0x0800 ∷ 0x1000 ∷ 0x1800 ∷ 0x2000 ∷ [])))
    ∷ reads 1 (act (odd (0 ∷ [])))
    ∷ reads 1 (act (odd (0x0800 ∷ [])))
    ∷ reads 1 (act (odd (2 ∷ 0x0801 ∷ [])))
    ∷ []

pub messages : Every Shown cases
unfolding computed then outcome cases leaf P one zeros engine at to live tells listens asks answers odd calling called pair refuses reads
messages = (refl, (refl, (refl, (refl, (refl, (refl, (refl, (refl, (refl, (refl, (refl, (refl, (refl, (refl, (refl, (refl, (refl, (refl, (refl, (refl, (refl, (refl, (refl, tt)))))))))))))))))))))))
