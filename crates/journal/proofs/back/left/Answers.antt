-- `left` of `journal::back` meets its contract.
use Prim.Native.Nat.{ℕ, ◌+◌, ◌-◌}
use native.Mathlib.Omega.{arith}
use mathlib.Core.Path.{◌≡◌, sym, ap, ◌∙◌}
use lib.Dec.{eqb}
use lib.ListN.{length, take, drop}
use Rattle.journal.proofs.Restoring.{in_both, left_other, left_by, inside_journal}
use Rattle.journal.proofs.back.left.Goals as goal

pub returns-then-ws-new : goal.returns-then-ws-new
returns-then-ws-new c = left_other (c.args.c) (c.args.ws.now) (c.args.journal.now) (λ e. c.if-ws-new.true (e ∙ sym (c.wide-new.ensures.0)))

pub overflow_sub-from : goal.overflow_sub-from
overflow_sub-from c =
    let b = in_both _ _ (c.requires.0) in
    omega (arith, b.in_old, c.wide-first.ensures.0, c.wide.ensures.0, c.wide-2.ensures.0)

pub overflow_sub-n : goal.overflow_sub-n
overflow_sub-n c =
    let b = in_both _ _ (c.requires.0) in
    omega (arith, b.in_new, c.wide-first.ensures.0, c.wide.ensures.0, c.wide-new.ensures.0)

pub slice_bounds-first_alike-end : goal.slice_bounds-first_alike-end
slice_bounds-first_alike-end c =
    let b = in_both _ _ (c.requires.0) in
    omega (arith, b.in_new, c.if-ws-new.false, c.wide-first.ensures.0, c.wide.ensures.0, c.wide-new.ensures.0)

pub slice_bounds-first_alike-end-2 : goal.slice_bounds-first_alike-end-2
slice_bounds-first_alike-end-2 c =
    let b = in_both _ _ (c.requires.0) in
    omega (arith, b.in_old, b.in_new, b.all, c.requires.1, c.wide-first.ensures.0, c.wide.ensures.0, c.wide-new.ensures.0, c.wide-2.ensures.0)

pub returns : goal.returns
returns c =
    let x = c.args in
    let w = c.wide-first in
    let w2 = c.wide in
    let w3 = c.wide-new in
    let w4 = c.wide-2 in
    let b = in_both x.c (length x.journal.now - 4) c.requires.0 in
    let h : length x.ws.now ≡ x.c.new = c.if-ws-new.false ∙ w3.ensures.0 in
    let n : ℕ = w3.result - (w.result + w2.result) in
    let m : n ≡ x.c.new - (x.c.first + x.c.last) = omega (arith, w.ensures.0, w2.ensures.0, w3.ensures.0) in
    let k : w.result + n - w.result ≡ n = omega arith in
    let from : ℕ = 4 + (w4.result - (w.result + w2.result)) in
    let l : from + n - from ≡ n = omega arith in
    let f : from ≡ 4 + (x.c.old - (x.c.first + x.c.last)) = omega (arith, w.ensures.0, w2.ensures.0, w4.ensures.0) in
    ap (λ (r : ℕ). eqb r n) c.first_alike.ensures
    ∙ left_by x.c x.ws.now x.journal.now h _ _ n m (omega (arith, b.in_new, h, m)) (inside_journal x.c x.ws.now x.journal.now _ _ n b.all c.requires.1 m)
    (ap (λ (i : ℕ). take i (drop w.result x.ws.now)) k ∙ ap (λ (i : ℕ). take n (drop i x.ws.now)) w.ensures.0)
    (ap (λ (i : ℕ). take i (drop from x.journal.now)) l ∙ ap (λ (i : ℕ). take n (drop i x.journal.now)) f)
