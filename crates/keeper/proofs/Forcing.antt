-- Laws of the game: a yes within k moves is a yes within one more; what a search of all moves, in any order, gives.
-- Assumes nothing.
use Prim.Native.Nat.{ℕ, zero, suc}
use native.Mathlib.Omega.{arith}
use mathlib.Core.Bool.{Bool, true, false, cond}
use mathlib.Core.List.{List}
use lib.Dec.{T, T_not, not_T, eqb}
use Rattle.sock.specs.Configuration.{encode}
use Rattle.sock.specs.Calls.{Numbers, Stepped}
use Rattle.keeper.specs.Game.{Side, keeper, river, fails, moves, some_move, every_move, has_move, delivers, won, forces}
use Rattle.keeper.proofs.Some.{numbers_here, numbers_there, move_there, more_moves, Words}
use Rattle.keeper.proofs.Bounds.{Small, accepted_small}

-- a move's numbers are words
move_words : (engines : ℕ) (side : Side) (ws : List ℕ) (test : Stepped → Bool) (k : Numbers) → T (moves engines side ws test k) → Words k
move_words engines side ws test k t =
    let (x, s, e, u) = move_there engines side ws test k t in
    let small : Small ws k = accepted_small ws k x e in
    let w = small.words in
    let a = small.first.engine in
    let p = small.first.position in
    let b = small.second in
    let q = small.place in
    let i = small.branch in
    record { engine = omega arith; position = omega arith; second = omega arith; place = omega arith; branch = omega arith }

module _ (engines : ℕ) (side : Side) (ws : List ℕ) where
  pub some_move_lem : (test : Stepped → Bool) (k : Numbers) → T (moves engines side ws test k) → T (some_move engines side ws test)
  unfolding some_move
  some_move_lem test k t = numbers_here (moves engines side ws test) k (move_words engines side ws test k t) t

  pub move_of : (test : Stepped → Bool) → T (some_move engines side ws test) → (k : Numbers) × T (moves engines side ws test k)
  unfolding some_move
  move_of test t = numbers_there (moves engines side ws test) t

  more_some : (test test' : Stepped → Bool) → ((x : Stepped) → T (test x) → T (test' x)) → T (some_move engines side ws test) → T (some_move engines side ws test')
  more_some test test' f t = let (k, u) = move_of test t in some_move_lem test' k (more_moves engines side ws test test' f k u)

  more_every : (test test' : Stepped → Bool) → ((x : Stepped) → T (test x) → T (test' x)) → T (every_move engines side ws test) → T (every_move engines side ws test')
  unfolding every_move fails
  more_every test test' f t =
      not_T (some_move engines side ws (fails test')) λ u.
      T_not (some_move engines side ws (fails test)) t
      (more_some (fails test') (fails test) (λ x v. not_T (test x) λ w. T_not (test' x) v (f x w)) u)

-- ---- a yes stays a yes

won_more : (serial : ℕ) (rest rest' : List ℕ → Bool) → ((ws : List ℕ) → T (rest ws) → T (rest' ws)) → (x : Stepped) → T (won serial rest x) → T (won serial rest' x)
unfolding won
won_more serial rest rest' f x t = by (delivers serial x) t
  where
    by : (b : Bool) → T (cond b (eqb x.fault 0) (rest (encode x.config))) → T (cond b (eqb x.fault 0) (rest' (encode x.config)))
    by true t = t
    by false t = f (encode x.config) t

cond_more : (b p q p' q' : Bool) → (T p → T p') → (T q → T q') → T (cond b p q) → T (cond b p' q')
cond_more true p q p' q' f g t = f t
cond_more false p q p' q' f g t = g t

-- A yes within k moves is a yes within k + 1
pub yes_stays : (engines serial k : ℕ) (side : Side) (ws : List ℕ) → T (forces engines serial k side ws) → T (forces engines serial (suc k) side ws)
unfolding forces
yes_stays engines serial zero side ws t = absurd t
yes_stays engines serial (suc k) keeper ws t =
    cond_more (has_move engines keeper ws) _ _ _ _
    (more_some engines keeper ws (won serial (forces engines serial k river)) (won serial (forces engines serial (suc k) river))
    (won_more serial (forces engines serial k river) (forces engines serial (suc k) river) (yes_stays engines serial k river)))
    (yes_stays engines serial k river ws) t
yes_stays engines serial (suc k) river ws t =
    cond_more (has_move engines river ws) _ _ _ _
    (more_every engines river ws (won serial (forces engines serial k keeper)) (won serial (forces engines serial (suc k) keeper))
    (won_more serial (forces engines serial k keeper) (forces engines serial (suc k) keeper) (yes_stays engines serial k keeper)))
    (yes_stays engines serial k keeper ws) t
