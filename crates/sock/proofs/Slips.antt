-- Document 01's "Slips seen in such engines", each as a case that an engine with that slip fails; what the reader has to refuse; what a
-- step leaves in its output; dead waiters among the ends. The must-fail edits that no law refuses are refused here or by the examples.
-- Assumes nothing.
use Prim.Native.Nat.{ℕ, ◌+◌, ◌*◌}
use mathlib.Core.Path.{◌≡◌, refl}
use mathlib.Core.Bool.{true, false}
use mathlib.Core.List.{List, [], ◌∷◌, ◌++◌}
use lib.ListN.{length, replicate, set}
use Rattle.sock.specs.Kind
use Rattle.sock.specs.Words.{head_of, scope_key}
use Rattle.sock.specs.Term.{Node, node, absent, list, constant, Entries, no_entries, entry, no_parts, ◌&◌, nil_node}
use Rattle.sock.specs.Running.{unmarked, faulted, Run, nil, seq, par, scope, executor, waiter, notice, act}
use Rattle.sock.specs.Configuration.{Config, encode, engines_depth, standard}
use Rattle.sock.specs.Rules.{inst_of, throw_of}
use Rattle.sock.specs.Calls.{Numbers, step_answer, step_output, ends}
use Rattle.sock.proofs.Computed.{computed}
use Rattle.sock.proofs.Examples.{Case, then, outcome, Shown, Every, leaf, P, P', B, cH, both, one, zeros, engine, single, double, at, to, live, zombie, waits}

-- ---- terms for the cases, beside those of the examples

-- a solicit with a list
asks : Entries → Node
asks l = node (head_of Kind.solicit (4 * 32 + 2)) ((3 * 2048 + 6 * 64) ∷ 1 ∷ 1 ∷ []) [] (list l) no_parts

-- one engine
alone : Run → Config
alone p = record { issued = 0; engines = engine zeros p ∷ [] }

-- not readable, so the step is refused with 1
unread : Config → Case
unread c = record { given = c; steps = at 0 0 ∷ []; number = 1; gives = c }

pub cases : List Case
cases =
    -- cH replaced inside nested lists: f holds P, inst f: cH;solicit(f: cH) keeps the solicit's cH
    record {
      given = single (one 3 P) (act (inst_of (one 3 (both cH (asks (one 3 cH))))));
      steps = at 0 5 ∷ [];
      number = 0;
      gives = single (one 3 (both P (asks (one 3 cH)))) nil;
    }
    -- a killed waiter removed: it stays, dead, and its server works on
    ∷ record {
      given = double (live (par (act P) (waits false))) (live (executor 4 (6 ∷ []) 0 1 (act B)));
      steps = at 0 4 ∷ [];
      number = 0;
      gives = double (zombie (waits true)) (live (executor 4 (6 ∷ []) 0 1 (act B)));
    }
    -- the reply to a dead waiter skipping its inst: x takes y, and the inst then updates H
    ∷ record {
      given = record { issued = 1; engines = engine zeros (zombie (waits true)) ∷ engine (set zeros 6 9) (live (executor 4 (6 ∷ []) 0 1 nil)) ∷ [] };
      steps = to 1 3 0 3 ∷ at 0 3 ∷ [];
      number = 0;
      gives =
          record { issued = 1; engines = engine (set zeros 6 9) (scope 1 unmarked true (one 3 P) nil) ∷ engine (set zeros 6 9) (live nil) ∷ [] };
    }
    -- a scope handling its own fault losing its promotion: throw, handler, the handler's comp, then scope 2 ends and hands P to scope 1
    ∷ record {
      given = single no_entries (scope 2 unmarked false (entry 3 P' (one (scope_key 2) P)) (act (throw_of 3)));
      steps = at 0 10 ∷ at 0 3 ∷ at 0 8 ∷ at 0 3 ∷ [];
      number = 0;
      gives = single (one (scope_key 2) P) nil;
    }
    -- a rethrowing scope running its own termination entry: scope 2 lets fault 3 through, and its zombie ends at once
    ∷ record {
      given = single (one 3 P) (scope 2 unmarked false (one (scope_key 2) P') (act (throw_of 3)));
      steps = at 0 10 ∷ at 0 5 ∷ [];
      number = 0;
      gives = alone (scope 1 (faulted 3) false (one 3 P) nil);
    }
    -- a climb that forgets the notice: the executor becomes its body par the notice, the right side
    ∷ record {
      given = double (live (executor 4 (6 ∷ []) 1 1 (par (act P) (waits false)))) (live nil);
      steps = at 0 8 ∷ [];
      number = 0;
      gives = double (zombie (par (waits true) (notice 4 7 1 1))) (live nil);
    }
    -- nil kept before seq: in what runs, and in a handler once its cH is replaced
    ∷ record { given = single no_entries (seq (act P') B); steps = at 0 4 ∷ []; number = 0; gives = single no_entries (act B) }
    ∷ record { given = single no_entries (act (inst_of (one 3 (both cH P)))); steps = at 0 3 ∷ []; number = 0; gives = single (one 3 P) nil }
    -- what the reader refuses: nil before seq, nil on either side of par
    ∷ unread (single no_entries (seq nil P))
    ∷ unread (single no_entries (par nil (act P)))
    ∷ unread (single no_entries (par (act P) nil))
    -- keys that fall, or stay
    ∷ unread (single (entry 4 P (one 3 P)) nil)
    ∷ unread (single (entry 3 P (one 3 P)) nil)
    -- cH, or a scope key with nil, in a scope's list
    ∷ unread (single (one 3 cH) nil)
    ∷ unread (single (one (scope_key 5) nil_node) nil)
    -- serial 0, or one above issued
    ∷ unread (double (live (waiter 4 (6 ∷ []) false 1 0 no_entries)) (live nil))
    ∷ unread (double (live (waiter 4 (6 ∷ []) false 1 2 no_entries)) (live nil))
    ∷ []

pub slips : Every Shown cases
unfolding computed then outcome cases leaf P P' B cH both one zeros engine single double at to live zombie waits asks alone unread
slips = (refl, (refl, (refl, (refl, (refl, (refl, (refl, (refl, (refl, (refl, (refl, (refl, (refl, (refl, (refl, (refl, (refl, tt)))))))))))))))))

-- ---- what a step leaves in the output

pub record Written : Type 0 where
  pub given : Config
  pub call : Numbers
  pub output : List ℕ
  pub leaves : List ℕ

abbrev pub Left : Written → Type 0
Left w = step_output standard (encode w.given) w.call w.output ≡ w.leaves

pub outputs : List Written
outputs =
    -- a refused step changes no word: nobody there, then short paper
    record { given = single no_entries (act P'); call = at 0 9; output = replicate 80 7; leaves = replicate 80 7 }
    ∷ record { given = single no_entries (act P'); call = at 0 3; output = replicate 69 7; leaves = replicate 69 7 }
    -- output past length keeps its words
    ∷ record { given = single no_entries (act P'); call = at 0 3; output = replicate 80 7; leaves = encode (single no_entries nil) ++ replicate 10 7 }
    ∷ []

pub left : Every Left outputs
unfolding computed outputs leaf P' zeros engine single at
left = (refl, (refl, (refl, tt)))

-- ---- ends count a dead waiter

pub dead_counts : ends standard (encode (double (zombie (waits true)) (live (notice 4 7 0 1)))) 1 ≡ record { number = 0; waiters = 1; workers = 1 }
unfolding computed leaf P one zeros engine double live zombie waits
dead_counts = refl

-- ---- a result too deep and too long at once is 8, and 9 where it is only too long

-- a while goes round: deeper by a seq and longer by what it repeats
unfoldable pub loops : Config
loops = single no_entries (act (node (head_of Kind.while 0) [] (constant 1 ∷ []) absent (P' & no_parts)))

-- so many levels more than it has, and not a word more
unfoldable pub answers : ℕ → ℕ
answers more =
    (step_answer (record { deepest = engines_depth loops.engines + more; longest = length (encode loops) }) (encode loops) (at 0 3) (replicate 90 0)).number

pub depth_first : (answers 0 ≡ 8) × (answers 1 ≡ 9)
unfolding computed leaf P' zeros engine single at loops answers
depth_first = (refl, refl)
