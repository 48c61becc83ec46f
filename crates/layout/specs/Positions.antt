-- Positions counted on.
use Rattle.std.specs.Prelude.{ℕ, ◌+◌, cond, leb}

-- `n` places further, up to a figure that no output reaches
unfoldable pub onward : ℕ → ℕ → ℕ
onward to n = cond (leb 1152921504606846976 to) to (cond (leb 1152921504606846976 n) to (to + n))
