-- `window_next` of `window::calls` meets its contract.
use native.Mathlib.Omega.{arith}
use mathlib.Core.Path.{sym, ap, ◌≡◌}
use mathlib.Core.List.{List, ◌++◌}
use Prim.Native.Nat.{ℕ}
use lib.ListN.{length, drop, length-take}
use lib.Seq.{length-take-le}
use Rattle.std.proofs.lemmas.Result.{err_from_is_err_and}
use Rattle.window.proofs.Answering.{next_short, next_refused, next_stays, next_moves, next_length}
use Rattle.window.proofs.calls.window_next.Goals as goal

pub returns-in_default : goal.returns-in_default
returns-in_default c =
    let r = next_short c.args.width c.args.answer c.args.window.now c.in_default.ensures.cases in
    record { number = r.0; words = r.1 }

pub returns-in_err-next : goal.returns-in_err-next
returns-in_err-next c =
    let p = err_from_is_err_and c.from_residual.result c.from_residual.ensures.1 in
    let r = next_refused c.args.width c.args.answer c.args.window.now (omega (arith, c.in-Some.ensures.cases.2)) (rw c.in-Some.ensures.cases.0 at c.in_err-next.ensures) in
    rw p.1 (record { number = r.0; words = r.1 })

pub slice_bounds-copy_from_slice-end-in-Some-2 : goal.slice_bounds-copy_from_slice-end-in-Some-2
slice_bounds-copy_from_slice-end-in-Some-2 c = sym (length-take-le 1089 c.args.window.now (omega (arith, c.in-Some.ensures.cases.2)))

pub copy_from_slice-requires : goal.copy_from_slice-requires
copy_from_slice-requires c =
    let e = rw c.in-Some-2.is at c.in_ok-next.ensures in
    let l : length c.in-Some-2.next ≡ 1089 = next_length c.args.width c.args.answer c.in-Some.words.now e.0 c.in-Some-2.next _ e.2 in
    omega (arith, l, length-take 1089 c.args.window.now, c.in-Some.ensures.cases.2)

pub returns-in-Some-2 : goal.returns-in-Some-2
returns-in-Some-2 c =
    let e = rw (c.in-Some-2.is, c.in-Some.ensures.cases.0) at c.in_ok-next.ensures in
    let r = next_moves c.args.width c.args.answer c.args.window.now (omega (arith, c.in-Some.ensures.cases.2)) c.in-Some-2.next e _ (ap (λ (t : List ℕ). t ++ drop 1089 c.args.window.now) c.copy_from_slice.ensures.after) in
    record { number = r.0; words = r.1 }

pub returns-in_default-2 : goal.returns-in_default-2
returns-in_default-2 c =
    let e = rw (c.in_default-2.is, c.in-Some.ensures.cases.0) at c.in_ok-next.ensures in
    let r = next_stays c.args.width c.args.answer c.args.window.now (omega (arith, c.in-Some.ensures.cases.2)) e in
    record { number = r.0; words = r.1 }
