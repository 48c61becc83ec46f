-- A reply of the serial that is ready, told without a step. No contract of a call names it.
use Rattle.std.specs.Prelude.{ℕ, ◌<◌, ◌≡◌, Bool, true, false, cond, List, Option, None, Some, T, ltb, eqb, length}
use Rattle.sock.specs.Calls.{done, Stepped}
use Rattle.stepping.specs.Meeting.{replied_w}
use Rattle.stepping.specs.Exchanging.{lent}
use Rattle.keeper.specs.Game.{Side, of_side, moved, delivers}
use Rattle.keeper.specs.Seeking.{move_at}

-- the executor at a place may reply to the waiter at another, by the words of both: they stand in two engines, name each other, with the same
-- operation, serial and count of variables
unfoldable pub answered_w : List ℕ → ℕ → ℕ → ℕ → ℕ → ℕ → Bool
answered_w ws a b branch e e' =
    cond (eqb e e') false
    (cond (ltb (length ws) a) false
    (cond (ltb (length ws) b) false (replied_w (lent a (length ws) ws) (lent b (length ws) ws) branch e e')))

-- a number is a reply of the serial; or none
pub record Reply (serial : ℕ) (ws : List ℕ) (i : ℕ) : Type 0 where
  pub stepped : Stepped
  pub accepted : moved ws (move_at i) ≡ done stepped
  pub delivers : T (delivers serial stepped)
  pub calm : stepped.fault ≡ 0

abbrev pub Quiet : ℕ → List ℕ → ℕ → Type 0
Quiet serial ws i = (x : Stepped) → moved ws (move_at i) ≡ done x → T (delivers serial x) → x.fault ≡ 0 → ⊥

-- one number looked at, and those passed by
pub record Sighted (serial : ℕ) (ws : List ℕ) (i : ℕ) (ready : Bool) (next : ℕ) : Type 0 where
  pub further : i < next
  pub yes : ready ≡ true → Reply serial ws i
  pub no : ready ≡ false → Quiet serial ws i
  pub between : (j : ℕ) → i < j → j < next → Quiet serial ws j

-- the same for a side
pub record Spied (engines serial : ℕ) (side : Side) (ws : List ℕ) (i : ℕ) (ready : Bool) (next : ℕ) : Type 0 where
  pub further : i < next
  pub mine : ready ≡ true → T (of_side engines side (move_at i).engine)
  pub yes : ready ≡ true → Reply serial ws i
  pub no : (j : ℕ) → (i < j) → j < next → T (of_side engines side (move_at j).engine) → Quiet serial ws j
  pub not_here : ready ≡ false → T (of_side engines side (move_at i).engine) → Quiet serial ws i

-- a reply of the side's that is ready, if it has one
pub record Replied (engines serial : ℕ) (side : Side) (ws : List ℕ) (o : Option ℕ) : Type 0 where
  pub within : (i : ℕ) → o ≡ Some i → i < 68719476736
  pub mine : (i : ℕ) → o ≡ Some i → T (of_side engines side (move_at i).engine)
  pub yes : (i : ℕ) → o ≡ Some i → Reply serial ws i
  pub no : o ≡ None → (j : ℕ) → j < 68719476736 → T (of_side engines side (move_at j).engine) → Quiet serial ws j
