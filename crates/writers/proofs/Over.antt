-- Words laid over an output one part after the other, as the writers do it: the words so far, and what the output held behind them.
-- Assumes nothing.
use Prim.Native.Nat.{ℕ, ◌+◌, ◌-◌, ◌≤◌, ◌<◌}
use native.Mathlib.Omega.{arith}
use mathlib.Core.Path.{◌≡◌, refl, sym, ap, ◌∙◌}
use mathlib.Core.List.{List, [], ◌++◌}
use lib.ListN.{length, take, drop, length-append, length-drop}
use lib.Seq.{paste, length-take-le, take_at, drop-drop, drop-append-add}
use borrow.Author.Tests.{le-ltb}
use Rattle.sock.specs.Calls.{over}
use Rattle.writers.specs.Writing.{pasted, pasted_end}
use Rattle.writers.proofs.Laid.{near_of, onward_near}

pub over_length : (u out : List ℕ) → length u ≤ length out → length (over u out) ≡ length out
over_length u out h = length-append u (drop (length u) out) ∙ omega (arith, length-drop (length u) out)

over_paste : (u out s : List ℕ) (n : ℕ) → length u + n ≤ length out → n ≤ length s → paste (over u out) (length u) s n ≡ over (u ++ take n s) out
over_paste u out s n h g =
    let l : length (u ++ take n s) ≡ length u + n = length-append u (take n s) ∙ ap (λ (k : ℕ). length u + k) (length-take-le n s g) in
    ap (λ (x : List ℕ). x ++ take n s ++ drop (length u + n) (over u out)) (take_at u (drop (length u) out) (length u) refl)
    ∙ ap (λ (x : List ℕ). u ++ take n s ++ x) (drop-append-add u (drop (length u) out) n ∙ drop-drop n (length u) out)
    ∙ ap (λ (k : ℕ). u ++ take n s ++ drop k out) (sym l)

-- one part more
pub pasted_over :
    (ws : List ℕ) (from upto : ℕ) (u out : List ℕ) (to : ℕ) → length u ≡ to → from ≤ upto → upto ≤ length ws → to + (upto - from) ≤ length out →
    pasted ws from upto (over u out) to ≡ over (u ++ take (upto - from) (drop from ws)) out
unfolding pasted
pasted_over ws from upto u out to e a b h =
    let l : length (over u out) ≡ length out = over_length u out (omega arith) in
    rw (le-ltb (length ws) upto b, le-ltb upto from a, le-ltb (length (over u out)) to (omega (arith, l)), le-ltb (length (over u out) - to) (upto - from) (omega (arith, l)))
    (ap (λ (k : ℕ). paste (over u out) k (drop from ws) (upto - from)) (sym e)
    ∙ over_paste u out (drop from ws) (upto - from) (omega arith) (omega (arith, length-drop from ws)))

-- the first part
pub pasted_first :
    (ws : List ℕ) (upto : ℕ) (out : List ℕ) → upto ≤ length ws → upto ≤ length out → pasted ws 0 upto out 0 ≡ over (take upto ws) out
pasted_first ws upto out b h =
    let e : upto - 0 ≡ upto = omega arith in
    pasted_over ws 0 upto [] out 0 refl (omega arith) b (omega arith) ∙ ap (λ (k : ℕ). over (take k ws) out) e

pub end_of :
    (ws : List ℕ) (from upto to : ℕ) → from ≤ upto → upto ≤ length ws → to + (upto - from) < 1152921504606846976 →
    pasted_end ws from upto to ≡ to + (upto - from)
unfolding pasted_end
end_of ws from upto to a b h =
    rw (le-ltb (length ws) upto b, le-ltb upto from a) (onward_near to (upto - from) (to + (upto - from)) (near_of _ h) (omega arith))
