-- The rules between two engines on words, as the code goes. No contract of a call names it.
use Rattle.std.specs.Prelude.{ℕ, zero, suc, ◌-◌, Bool, true, false, cond, List, ltb, eqb, set, Option, None, Some}
use Rattle.sock.specs.Kind
use Rattle.sock.specs.Words.{kind_of, count_of, name_of, dead_of, waiters_server}
use Rattle.layout.specs.Kinds.{counted_as}
use Rattle.layout.specs.Heads.{executor_head, client_word, waiter_head, server_word, throw_head}
use Rattle.layout.specs.Own.{variables_end, lists_end}
use Rattle.layout.specs.Positions.{onward}
use Rattle.rules.specs.Storing.{unchanged}
use Rattle.rules.specs.Rewriting.{Rewritten, rewritten, vanishing, keeping, at, part_w, part_end}
use Rattle.rules.specs.Rewriting.{Rewriting}
use Rattle.rules.specs.Storing.{Store}
use Rattle.rules.specs.declared.pair.Offer as code

-- ---- what is offered

-- whether a receiver stands in the words, and where; from next..upto the process that follows a chosen branch, and next is 0 where none does
pub record Offer : Type 0 where
  pub some : Bool
  pub guard : ℕ
  pub next : ℕ
  pub upto : ℕ
  pub end : ℕ

-- the code's offer, and none, as such
abbrev pub standing : code.Offer → Offer
standing o = record { some = true; guard = o.guard; next = o.next; upto = o.upto; end = o.end }

abbrev pub offer_in : Option code.Offer → Offer
offer_in None = record { some = false; guard = 0; next = 0; upto = 0; end = 0 }
offer_in (Some o) = standing o

abbrev pub offering : ℕ → ℕ → ℕ → ℕ → Offer
offering guard next upto end = record { some = true; guard = guard; next = next; upto = upto; end = end }

abbrev pub no_offer : Offer
no_offer = record { some = false; guard = 0; next = 0; upto = 0; end = 0 }

unfoldable pub bare_w : List ℕ → ℕ → Offer
bare_w ws i = cond (eqb i 0) (offering 0 0 (part_end ws 0) (part_end ws 0)) no_offer

unfoldable pub branch_at : List ℕ → ℕ → ℕ → ℕ
branch_at ws zero i = i
branch_at ws (suc n) i = branch_at ws n (part_end ws (part_end ws i))

unfoldable pub chosen_w : List ℕ → ℕ → Offer
chosen_w ws guard = offering guard (part_end ws guard) (part_end ws (part_end ws guard)) (part_end ws 0)

unfoldable pub choice_w : List ℕ → ℕ → ℕ → Offer
choice_w ws count i = cond (eqb i 0) no_offer (cond (ltb count i) no_offer (chosen_w ws (branch_at ws (i - 1) 1)))

unfoldable pub offer_w : List ℕ → ℕ → Offer
offer_w ws i = cond (eqb (kind_of (at ws 0)) Kind.choice) (choice_w ws (count_of (at ws 0)) i) (bare_w ws i)

unfoldable pub receives_w : ℕ → ℕ → ℕ → Bool
receives_w g kind h = cond (eqb (counted_as (kind_of g)) kind) (cond (eqb (name_of g) (name_of h)) true false) false

unfoldable pub fits_w : List ℕ → Offer → ℕ → ℕ → Bool
fits_w ws o kind h =
    cond o.some (receives_w (at ws o.guard) kind h) false

-- ---- what the two turn into

unfoldable pub hear_w : List ℕ → Offer → Store → Rewriting
hear_w ws o store = cond (eqb o.next 0) (vanishing store) (part_w ws o.next o.upto o.end store)

-- a place in the fresh words, and those
pub record Placed : Type 0 where
  pub to : ℕ
  pub fresh : List ℕ

abbrev pub placed : ℕ → List ℕ → Placed
placed to fresh = record { to = to; fresh = fresh }

unfoldable pub seq_first : ℕ → List ℕ → Placed
seq_first next fresh = cond (eqb next 0) (placed 0 fresh) (placed (onward 0 1) (set fresh 0 4096))

-- three words from a place on
unfoldable pub three_to : ℕ → ℕ
three_to to = onward (onward (onward to 1) 1) 1

unfoldable pub three_w : List ℕ → ℕ → ℕ → ℕ → ℕ → List ℕ
three_w fresh to a b c = set (set (set fresh to a) (onward to 1) b) (onward (onward to 1) 1) c

unfoldable pub serve_w : List ℕ → Offer → ℕ → ℕ → Store → List ℕ → Rewritten
serve_w ws o client serial store fresh =
    let h = at ws o.guard in
    let s = seq_first o.next fresh in
    rewritten (keeping (three_to s.to) (variables_end ws (onward o.guard 2)) o.upto o.end store)
    (three_w s.fresh s.to (executor_head h (at ws (onward o.guard 1))) (client_word client) serial)

unfoldable pub ask_w : List ℕ → ℕ → ℕ → List ℕ → Rewritten
ask_w ws server serial fresh =
    rewritten (keeping (three_to 0) (lists_end ws 2 1) (part_end ws 0) (part_end ws 0) unchanged)
    (three_w fresh 0 (waiter_head (at ws 0) (at ws 1)) (server_word server) serial)

unfoldable pub waits_w : List ℕ → ℕ → ℕ → Bool
waits_w ws h serial = cond (receives_w (at ws 0) Kind.waiter h) (eqb (at ws 2) serial) false

unfoldable pub awaits_w : List ℕ → ℕ → ℕ → ℕ → ℕ → ℕ → Bool
awaits_w ws h serial client sender receiver =
    cond (eqb client receiver) (cond (eqb (waiters_server (at ws 1)) sender) (waits_w ws h serial) false) false

unfoldable pub answer_w : List ℕ → Store → List ℕ → Rewritten
answer_w ws store fresh =
    rewritten (keeping (onward 0 1) (variables_end ws 3) (part_end ws 0) (part_end ws 0) store) (set fresh 0 24576)

unfoldable pub fail_w : List ℕ → ℕ → List ℕ → Rewritten
fail_w ws w fresh =
    cond (eqb (dead_of (at ws 1)) 1) (rewritten (vanishing unchanged) fresh)
    (rewritten (keeping (onward 0 1) (part_end ws 0) (part_end ws 0) (part_end ws 0) unchanged) (set fresh 0 (throw_head w)))
