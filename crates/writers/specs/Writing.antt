-- What the writers leave in the output: words over it, where there is room for them; and the place behind them.
use Rattle.std.specs.Prelude.{ℕ, ◌-◌, cond, List, ltb, eqb, length, drop}
use Rattle.std.proofs.Math.Seq.{paste}
use Rattle.layout.specs.Positions.{onward}

-- the words from..upto of ws over the output from `to` on
unfoldable pub pasted : List ℕ → ℕ → ℕ → List ℕ → ℕ → List ℕ
pasted ws from upto out to =
    cond (ltb (length ws) upto) out
    (cond (ltb upto from) out
    (cond (ltb (length out) to) out
    (cond (ltb (length out - to) (upto - from)) out (paste out to (drop from ws) (upto - from)))))

unfoldable pub pasted_end : List ℕ → ℕ → ℕ → ℕ → ℕ
pasted_end ws from upto to = cond (ltb (length ws) upto) to (cond (ltb upto from) to (onward to (upto - from)))

-- the words from..upto of the output moved down by one
unfoldable pub lowered : List ℕ → ℕ → ℕ → List ℕ
lowered out from upto = cond (eqb from 0) out (cond (ltb (length out) upto) out (paste out (from - 1) (drop from out) (upto - from)))
