-- The worked case of document 01's "Program handover" in the earlier format, by computation: the words that document 01 gives, its answers and
-- lengths, and that the rewriting is today's case.
-- Assumes nothing.
use Prim.Native.Nat.{ℕ}
use mathlib.Core.Path.{◌≡◌, refl}
use mathlib.Core.Bool.{false}
use mathlib.Core.List.{List, [], ◌∷◌, ◌++◌}
use lib.ListN.{length, replicate}
use Rattle.sock.specs.Configuration.{standard}
use Rattle.sock.specs.Calls.{Numbers, Result, refused, done, Stepped, number}
use Rattle.sock.specs.Earlier.{earlier_own, earlier_process, earlier_engine, earlier_engines, earlier_config, uncounted, earlier_words, earlier_block, earlier_entries, earlier_nodes, earlier_size, earlier_engines_words, earlier_encode, earlier_locate, earlier_at, earlier_partner, earlier_step, relaid, rewritten, beyond_own, moved}
use Rattle.sock.specs.Running.{executor, waiter, nil, scope, unmarked, par}
use Rattle.sock.specs.Term.{no_entries}
use Rattle.sock.proofs.Computed.{computed}
use Rattle.sock.proofs.Worked.{configuration, steps}

-- one name that opens the definitions of the earlier format
unfoldable earlier : Unit {0}
unfolding earlier_own earlier_process earlier_engine earlier_engines earlier_config uncounted earlier_words earlier_block earlier_entries earlier_nodes earlier_size earlier_engines_words earlier_encode earlier_locate earlier_at earlier_partner earlier_step relaid rewritten beyond_own moved
earlier = tt

-- n 2, issued 0, all values 0 but engine 0's variable 1, which is 1
given : List ℕ
given =
    2 ∷ 0
    ∷ 0 ∷ 0 ∷ 0 ∷ 1
    ∷ replicate 60 0
    ++ (0x5800 ∷ 0x0000 ∷ 0x0000 ∷ 0x5020 ∷ 0x0880 ∷ 0x0000 ∷ [])
    ++ replicate 64 0
    ++ (0x5800 ∷ 0x0000 ∷ 0x0000 ∷ 0x4020 ∷ 0x0000 ∷ 0x0000 ∷ [])

rewritten_case : rewritten standard given ≡ configuration
unfolding computed earlier given configuration
rewritten_case = refl

-- number and length of each step's answer, each on the words that the last accepted one gave, with an output of 8,192 words
record Told : Type 0 where
  number : ℕ
  length : ℕ

told : Result Stepped → Told
told (refused r) = record { number = number r; length = 0 }
told (done s) = record { number = 0; length = length (earlier_encode s.config) }

next : Result Stepped → List ℕ → List ℕ
next (refused r) ws = ws
next (done s) ws = earlier_encode s.config

answers : List ℕ → List Numbers → List Told
answers ws [] = []
answers ws (k ∷ ks) = let r = earlier_step standard ws k 8192 in told r ∷ answers (next r ws) ks

abbrev tells : ℕ → ℕ → Told
tells n l = record { number = n; length = l }

-- document 01: after step 1 the length is 144, after step 2 139, at the end 135
earlier_answers : answers given steps ≡ tells 0 144 ∷ tells 0 139 ∷ tells 3 0 ∷ tells 0 138 ∷ tells 0 135 ∷ []
unfolding computed earlier given steps told next answers
earlier_answers = refl

-- positions moved along: behind an executor's own words by its count, and beside a waiter
moved_positions :
    let r = scope 1 unmarked false no_entries (par (executor 4 (2 ∷ []) 1 1 (executor 4 (3 ∷ []) 1 2 nil)) (waiter 4 (5 ∷ []) false 1 3 no_entries)) in
    moved r 3 ∷ moved r 4 ∷ moved r 7 ∷ moved r 10 ∷ moved r 11 ∷ [] ≡ 3 ∷ 4 ∷ 8 ∷ 12 ∷ 13 ∷ []
unfolding computed earlier
moved_positions = refl
