-- Positions that are lost whoever moves and whatever the set of engines: told from the words. No contract of a call names it.
use Rattle.std.specs.Prelude.{ℕ, ◌≡◌, Bool, true, false, not, cond, List, eqb, length}
use Rattle.sock.specs.Kind
use Rattle.sock.specs.Words.{kind_of}
use Rattle.layout.specs.Own.{own_end}
use Rattle.layout.specs.Positions.{onward}
use Rattle.rules.specs.Rewriting.{at}
use Rattle.keeper.specs.Game.{Side, some_below, forces}

-- a reply of the serial may be ready at a place: an executor's head, the serial, and a nil body
unfoldable pub ready_at : ℕ → List ℕ → ℕ → Bool
ready_at serial ws i =
    cond (eqb (kind_of (at ws i)) Kind.executor) (cond (eqb (at ws (onward i 2)) serial) (eqb (at ws (own_end ws i)) 0) false) false

-- one may be ready anywhere
unfoldable pub ready_w : ℕ → List ℕ → Bool
ready_w serial ws = some_below (length ws) (ready_at serial ws)

-- a position is told to be lost: with no move left, and with one where no reply is ready
unfoldable pub lost_w : ℕ → ℕ → List ℕ → Bool
lost_w serial left ws = cond (eqb left 0) true (cond (eqb left 1) (not (ready_w serial ws)) false)

-- a serial with no waiter left, or no executor and no notice
unfoldable pub gone_in : ℕ → ℕ → Bool
gone_in waiters workers = cond (eqb waiters 0) true (eqb workers 0)

-- what is said of a position with so many moves left: lost, or not known to be
pub record Hope (serial left : ℕ) (ws : List ℕ) (lost : Bool) : Type 0 where
  pub some : lost ≡ false → left ≡ 0 → ⊥
  pub none : lost ≡ true → (engines : ℕ) (side : Side) → forces engines serial left side ws ≡ false
