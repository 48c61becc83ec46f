-- Demand 3 where each event names its cabinet: what is accepted at any of them is accepted at the largest, so what stands is a chain there.
-- Assumes nothing.
use Prim.Native.Nat.{ℕ}
use mathlib.Core.Path.{subst}
use mathlib.Core.List.{List, [], ◌∷◌}
use Rattle.sock.specs.Configuration.{Limits}
use Rattle.sock.specs.Events.{State, begun, next, struck_out}
use Rattle.sock.specs.Cabinets.{At, after_all, AllInside, AllProperAt, DeliverableAt, EveryRequestHasOneReplyAtAny}
use Rattle.sock.proofs.Requests.{every_request_at}
use Rattle.sock.proofs.Events.{Chain, chain_begun, chain_next, struck_run, struck_accepted}

chain_all :
    (l : Limits) (es : List At) (base : List ℕ) (s : State) → Chain l base s.words s.standing → AllInside l es → AllProperAt l s es →
    Chain l base (after_all s es).words (after_all s es).standing
unfolding after_all AllInside AllProperAt
chain_all l [] base s h i p = h
chain_all l (e ∷ es) base s h i p =
    chain_all l es base (next e.figures s e.event) (chain_next l e.figures i.0 base s e.event h p.0) i.1 p.1

pub every_request_at_any : EveryRequestHasOneReplyAtAny
every_request_at_any l start h events i p =
    let s : State = after_all (begun start) events in
    let chain : Chain l start s.words s.standing = chain_all l events start (begun start) (chain_begun l start) i p in
    let same = struck_run l start s chain in
    let (c, m, d) = every_request_at l start h (struck_out s) in
    (struck_accepted l start s chain, same, (c, m, λ f. subst (λ ws. DeliverableAt f ws c) same (d f)))
