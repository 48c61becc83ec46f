-- A turn of the search's loop, and a level of the way to a throw, as the code takes them.
-- Assumes nothing.
use Prim.Native.Nat.{ℕ, zero, suc, ◌≤◌, ◌<◌}
use mathlib.Core.Path.{◌≡◌, refl}
use mathlib.Core.Bool.{false}
use mathlib.Core.List.{List}
use borrow.Author.Tests.{le-ltb, lt-leb, eq-eqb}
use lib.ListN.{length}
use Rattle.pending.specs.declared.look.Seen.{Seen}
use Rattle.pending.specs.Looking.{made, loop_w, sides_w}

module _ (turn : ℕ → ℕ → Seen) (end : ℕ) where
  pub loop_done : (turns i n : ℕ) → end ≤ i → made i n ≡ loop_w turns turn end i n
  unfolding loop_w
  loop_done zero i n h = rw (le-ltb i end h)
  loop_done (suc turns) i n h = rw (le-ltb i end h)

-- the way ends at the target
pub sides_here :
    (d : ℕ) (ws notes : List ℕ) (target i : ℕ) → (d ≡ 0 → ⊥) → i < length ws → i ≡ target → false ≡ sides_w d ws notes target i
unfolding sides_w
sides_here zero ws notes target i e h q = refl
sides_here (suc d) ws notes target i e h q = rw (lt-leb (length ws) i h, eq-eqb i target q)
