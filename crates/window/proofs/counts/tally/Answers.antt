-- `tally` of `window::counts` meets its contract. The loop's invariant: the entries before are counted, and none of them is above 64.
use native.Mathlib.Omega.{arith}
use mathlib.Core.Path.{refl, ◌∙◌}
use Rattle.std.proofs.lemmas.Result.{err_from_is_err_and}
use Rattle.window.specs.Window.{times, counts_from}
use Rattle.window.proofs.Tallying.{tally_stops, tally_room, tally_turn, tally_ends}
use Rattle.window.proofs.counts.tally.Goals as goal

pub loop-word-init : goal.loop-word-init
unfolding counts_from times
loop-word-init c =
    (refl, refl)

pub returns-in_err-entry : goal.returns-in_err-entry
returns-in_err-entry c =
    let l = c.loop-word in
    let p = err_from_is_err_and c.from_residual.result c.from_residual.ensures.1 in
    rw p.1 (tally_stops c.args.words.now l.word-index l.invariant.1 c.loop-word-test.true c.in_err-entry.ensures)

pub overflow_add-counts : goal.overflow_add-counts
overflow_add-counts c =
    let l = c.loop-word in
    let r = tally_room c.args.words.now l.word-index l.counts l.invariant.0 c.requires c.from.result (omega (arith, c.from.ensures, c.in_ok-entry.entry.most)) in
    record { fits = omega (arith, r) }

pub loop-word-preserved : goal.loop-word-preserved
loop-word-preserved c =
    let l = c.loop-word in
    tally_turn c.args.words.now l.word-index l.counts l.invariant.0 l.invariant.1 c.loop-word-test.true c.from.result (c.from.ensures ∙ c.in_ok-entry.ensures) (omega (arith, c.from.ensures, c.in_ok-entry.entry.most))

pub returns : goal.returns
returns c =
    let l = c.loop-word in
    tally_ends c.args.words.now l.word-index l.counts l.invariant.0 l.invariant.1 c.loop-word-test.false
