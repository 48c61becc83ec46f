-- A constant table is a function written out: at each index it has the function's value. A proof cites this law at the code's own list,
-- which the list here computes to.
-- Assumes nothing.
use Prim.Native.Nat.{ℕ, zero, suc, ◌+◌, ◌<◌}
use native.Mathlib.Omega.{arith}
use native.Mathlib.Nat.{add-zero, zero-add, add-suc, suc-add}
use mathlib.Core.Path.{◌≡◌, sym, ap, ◌∙◌}
use mathlib.Core.List.{List, [], ◌∷◌}
use lib.ListN.{get_or}

abbrev pub table : (ℕ → ℕ) → ℕ → ℕ → List ℕ
table f i zero = []
table f i (suc n) = f i ∷ table f (suc i) n

from : (f : ℕ → ℕ) (i n k : ℕ) → k < n → get_or (table f i n) k 0 ≡ f (i + k)
from f i zero k h = absurd (omega arith)
from f i (suc n) zero h = ap f (sym (add-zero i))
from f i (suc n) (suc k) h = from f (suc i) n k (omega arith) ∙ ap f (suc-add i k ∙ sym (add-suc i k))

pub table_at : (f : ℕ → ℕ) (n k : ℕ) → k < n → get_or (table f 0 n) k 0 ≡ f k
table_at f n k h = from f 0 n k h ∙ ap f (zero-add k)
