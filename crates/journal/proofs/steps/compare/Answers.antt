-- `compare` of `journal::steps` meets its contract.
use Prim.Native.Nat.{ℕ}
use native.Mathlib.Omega.{arith}
use mathlib.Core.Path.{refl, sym, ap, ◌∙◌}
use lib.ListN.{length}
use lib.Seq.{length-take-le}
use Rattle.journal.specs.Stepping.{needed_of}
use Rattle.journal.proofs.Stepping.{alike_words, Took, did, alike_in, compared_short, compared_done}
use Rattle.journal.proofs.steps.compare.Goals as goal

pub slice_bounds-both-end : goal.slice_bounds-both-end
slice_bounds-both-end c =
    let s = c.in_ok-accepted.ensures {u = tt} in
    let t : Took _ c.args.m.few c.args.ws.now _ c.args.res.now _ _ = record { answered = s.answered; written = s.written } in
    let d = did _ c.args.m.few _ _ _ _ _ t refl in
    omega (arith, d.long, d.fits, d.keeps, c.from-n.ensures)

pub slice_bounds-both-end-2 : goal.slice_bounds-both-end-2
slice_bounds-both-end-2 c =
    let s = c.in_ok-accepted.ensures {u = tt} in
    let t : Took _ c.args.m.few c.args.ws.now _ c.args.res.now _ _ = record { answered = s.answered; written = s.written } in
    let d = did _ c.args.m.few _ _ _ _ _ t refl in
    sym (length-take-le _ _ (omega (arith, d.long, d.fits, d.keeps, c.from-n.ensures)))

pub needed-requires : goal.needed-requires
needed-requires c =
    let s = c.in_ok-accepted.ensures {u = tt} in
    let t : Took _ c.args.m.few c.args.ws.now _ c.args.res.now _ _ = record { answered = s.answered; written = s.written } in
    let f = alike_in _ c.args.m.few _ _ _ _ _ t (did _ c.args.m.few _ _ _ _ _ t refl) _ _ c.args.room (alike_words c.args.ws.now c.step_at.new.out c.from-n.ensures c.both-alike.ensures) in
    (f.0, omega (arith, f.1, c.from-n.ensures), f.2, omega (arith, f.3, c.from-n.ensures))

pub returns-then-room-needed : goal.returns-then-room-needed
returns-then-room-needed c =
    let s = c.in_ok-accepted.ensures {u = tt} in
    let t : Took _ c.args.m.few c.args.ws.now _ c.args.res.now _ _ = record { answered = s.answered; written = s.written } in
    (compared_short _ c.args.m.few _ _ _ _ _ t (did _ c.args.m.few _ _ _ _ _ t refl) _ _ c.args.room (alike_words c.args.ws.now c.step_at.new.out c.from-n.ensures c.both-alike.ensures) (omega (arith, c.if-room-needed.true, c.needed.ensures ∙ ap (λ (n : ℕ). needed_of (length c.args.ws.now) n c.both-alike.result.first c.both-alike.result.last) c.from-n.ensures)), s.written)

pub returns : goal.returns
returns c =
    let s = c.in_ok-accepted.ensures {u = tt} in
    let t : Took _ c.args.m.few c.args.ws.now _ c.args.res.now _ _ = record { answered = s.answered; written = s.written } in
    (compared_done _ c.args.m.few _ _ _ _ _ t (did _ c.args.m.few _ _ _ _ _ t refl) _ _ c.args.room (alike_words c.args.ws.now c.step_at.new.out c.from-n.ensures c.both-alike.ensures) (omega (arith, c.if-room-needed.false, c.needed.ensures ∙ ap (λ (n : ℕ). needed_of (length c.args.ws.now) n c.both-alike.result.first c.both-alike.result.last) c.from-n.ensures)), s.written)
