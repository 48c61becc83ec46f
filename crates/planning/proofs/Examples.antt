-- Planners' starts of one engine, translated by hand; and each refusal, tried in its order.
-- Assumes nothing.
use Prim.Native.Nat.{ℕ}
use mathlib.Core.Path.{◌≡◌, refl}
use mathlib.Core.List.{List, [], ◌∷◌, ◌++◌}
use lib.ListN.{replicate}
use Rattle.sock.specs.Configuration.{Config, standard, encode}
use Rattle.sock.specs.Counts.{counts_of, counted, word_count, list_count}
use Rattle.sock.proofs.Computed.{computed}
use Rattle.planning.specs.Plan.{first, lists, expressed, entries_below, list_below, listed, several, own, plan_node, plan_fixed, plan, planned_words, plan_words, plan_engines, whole_plan, read_plan}
use Rattle.planning.specs.Translation.{then_c, installing, rewritten, engines_rewritten, plan_rewritten, own_ch, free_entries, free_part, captured, engines_captured}
use Rattle.planning.specs.Call.{number, Result, refused, done, ◌>>=◌, ◌>>◌, ◌!◌, ◌unless◌, from, translate}

-- an engine's process in a start
unfoldable around : List ℕ → List ℕ
around process = 1 ∷ 0 ∷ replicate 64 0 ++ process

record Outcome : Type 0 where
  number : ℕ
  words : List ℕ

unfoldable outcome : Result Config → Outcome
outcome (refused r) = record { number = number r; words = [] }
outcome (done t) = record { number = 0; words = encode t }

abbrev Becomes : List ℕ → List ℕ → Type 0
Becomes process start = outcome (translate standard (around process) 200) ≡ record { number = 0; words = around start }

abbrev Refused : List ℕ → ℕ → Type 0
Refused process n = outcome (translate standard (around process) 200) ≡ record { number = n; words = [] }

-- opens every definition, so that a closed term computes
unfoldable planned : Unit {0}
unfolding computed around outcome counts_of counted word_count list_count first lists expressed entries_below list_below listed several own plan_node plan_fixed plan planned_words plan_words plan_engines whole_plan read_plan then_c installing rewritten engines_rewritten plan_rewritten own_ch free_entries free_part captured engines_captured ◌>>=◌ ◌>>◌ ◌!◌ ◌unless◌ from translate
planned = tt

-- a handler for fault 3 that throws 7, T nil, C throws 8, P throws 9
whole :
    Becomes (0x98a0 ∷ 1 ∷ 0x0600 ∷ 0x68e0 ∷ 0 ∷ 0x6900 ∷ 0x6920 ∷ [])
    (0x58a0 ∷ 0 ∷ 0 ∷ 0x1000 ∷ 0x6000 ∷ 1 ∷ 0x0600 ∷ 0x68e0 ∷ 0x1000 ∷ 0x6000 ∷ 1 ∷ 0x8a00 ∷ 0 ∷ 0x1000 ∷ 0x6920 ∷ 0x6000 ∷ 1 ∷ 0x8a00 ∷ 0x6900 ∷ [])
unfolding planned
whole = refl

-- no handlers, T throws 1, C throws 2, P nil, which is left out
nil_body : Becomes (0x9820 ∷ 0 ∷ 0x6820 ∷ 0x6840 ∷ 0 ∷ []) (0x5820 ∷ 0 ∷ 0 ∷ 0x1000 ∷ 0x6000 ∷ 0 ∷ 0x1000 ∷ 0x6000 ∷ 1 ∷ 0x8200 ∷ 0x6820 ∷ 0x6000 ∷ 1 ∷ 0x8200 ∷ 0x6840 ∷ [])
unfolding planned
nil_body = refl

-- one in another's T
inside :
    Becomes (0x9820 ∷ 0 ∷ (0x9840 ∷ 0 ∷ 0 ∷ 0 ∷ 0 ∷ 0 ∷ 0 ∷ []))
    (0x5820 ∷ 0 ∷ 0 ∷ 0x1000 ∷ 0x6000 ∷ 0 ∷ 0x1000 ∷ 0x6000 ∷ 1 ∷ 0x8200 ∷ (0x5840 ∷ 0 ∷ 0 ∷ 0x1000 ∷ 0x6000 ∷ 0 ∷ 0x1000 ∷ 0x6000 ∷ 1 ∷ 0x8400 ∷ 0 ∷ 0x6000 ∷ 1 ∷ 0x8400 ∷ 0 ∷ 0x6000 ∷ 1 ∷ 0x8200 ∷ 0 ∷ []))
unfolding planned
inside = refl

-- a key of a scope among the fault handlers; cH in P
unread : Refused (0x9820 ∷ 1 ∷ 0x8200 ∷ 0 ∷ 0 ∷ 0 ∷ 0 ∷ []) 1 × Refused (0x9820 ∷ 0 ∷ 0 ∷ 0 ∷ 0x7800 ∷ []) 1
unfolding planned
unread = (refl, refl)

-- cH in T; in C, below a scope; in T of one in an entry of an inst, where without 14 the start check would pass what it becomes; in the P of one
-- that stands in another's T
caught :
    Refused (0x9820 ∷ 0 ∷ 0x7800 ∷ 0 ∷ 0 ∷ []) 14
    × Refused (0x9820 ∷ 0 ∷ 0 ∷ 0x5840 ∷ 0 ∷ 0 ∷ 0x7800 ∷ 0 ∷ []) 14
    × Refused (0x5820 ∷ 0 ∷ 0 ∷ 0x6000 ∷ 1 ∷ 0x0600 ∷ 0x9820 ∷ 0 ∷ 0x7800 ∷ 0 ∷ 0 ∷ []) 14
    × Refused (0x9820 ∷ 0 ∷ 0x9840 ∷ 0 ∷ 0 ∷ 0 ∷ 0x7800 ∷ 0 ∷ 0 ∷ []) 14
unfolding planned
caught = (refl, refl, refl, refl)

-- an inst's own cH in T and in P
own_entries :
    Becomes (0x9820 ∷ 0 ∷ 0x6000 ∷ 1 ∷ 0x0600 ∷ 0x7800 ∷ 0 ∷ 0x6000 ∷ 1 ∷ 0x0600 ∷ 0x7800 ∷ [])
    (0x5820 ∷ 0 ∷ 0 ∷ 0x1000 ∷ 0x6000 ∷ 0 ∷ 0x1000 ∷ 0x6000 ∷ 1 ∷ 0x8200 ∷ 0x6000 ∷ 1 ∷ 0x0600 ∷ 0x7800 ∷ 0x1000 ∷ 0x6000 ∷ 1 ∷ 0x0600 ∷ 0x7800 ∷ 0x6000 ∷ 1 ∷ 0x8200 ∷ 0 ∷ [])
unfolding planned
own_entries = refl

-- a zombie in P; with cH in T besides, 14 comes first; a nil for an engine's process
stale :
    Refused (0x9820 ∷ 0 ∷ 0 ∷ 0 ∷ 0x5844 ∷ 0 ∷ 0 ∷ 0 ∷ []) 11
    × Refused (0x9820 ∷ 0 ∷ 0x7800 ∷ 0 ∷ 0x5844 ∷ 0 ∷ 0 ∷ 0 ∷ []) 14
    × Refused (0 ∷ []) 11
unfolding planned
stale = (refl, refl, refl)
