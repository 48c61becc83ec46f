-- Laws of "some": a number below a bound, five numbers, a move of a side.
-- Assumes nothing.
use Prim.Native.Nat.{ℕ, zero, suc, ◌<◌}
use native.Mathlib.Omega.{arith}
use native.Mathlib.Decide.{ℕ_discrete}
use mathlib.Core.Path.{◌≡◌, refl, sym, subst}
use mathlib.Core.Logic.{⊎_elim}
use mathlib.Core.Bool.{Bool, true, false, ◌||◌}
use mathlib.Core.List.{List}
use lib.Dec.{T}
use Rattle.sock.specs.Calls.{Numbers, Result, refused, done, Stepped}
use Rattle.sock.proofs.Logic.{and_left, and_right, and_both, or_left, or_right, or_case, test_true, true_test}
use Rattle.std.proofs.lemmas.Bool.{false_from_ne_true}
use Rattle.keeper.specs.Game.{Side, of_side, moved, accepts, some_below, some_numbers, moves}

some_step : (test : ℕ → Bool) (n i : ℕ) → T (test i) → (i < n → T (some_below n test)) → i < suc n → T (test n || some_below n test)
some_step test n i t rest h = by (ℕ_discrete i n)
  where
    by : Dec (i ≡ n) → T (test n || some_below n test)
    by (yes e) = or_left (test n) (some_below n test) (subst (λ (j : ℕ). T (test j)) e t)
    by (no e) = or_right (test n) (some_below n test) (rest (omega (arith, e)))

pub some_here : (n : ℕ) (test : ℕ → Bool) (i : ℕ) → i < n → T (test i) → T (some_below n test)
unfolding some_below
some_here zero test i h t = absurd (omega arith)
some_here (suc n) test i h t = some_step test n i t (λ r. some_here n test i r t) h

pub some_there : (n : ℕ) (test : ℕ → Bool) → T (some_below n test) → (i : ℕ) × T (test i)
unfolding some_below
some_there zero test t = absurd t
some_there (suc n) test t = ⊎_elim (λ u. (n, u)) (λ u. some_there n test u) (or_case (test n) (some_below n test) t)

-- a test that passes at a number below, or at none
pub some_found : (n : ℕ) (test : ℕ → Bool) (i : ℕ) → i < n → true ≡ test i → true ≡ some_below n test
some_found n test i h e = sym (test_true (some_below n test) (some_here n test i h (true_test (sym e))))

pub none_found : (n : ℕ) (test : ℕ → Bool) → ((i : ℕ) → i < n → test i ≡ false) → false ≡ some_below n test
unfolding some_below
none_found zero test h = refl
none_found (suc n) test h = rw (h n (omega arith)) (none_found n test λ i l. h i (omega (arith, l)))

pub found_none : (n : ℕ) (test : ℕ → Bool) → some_below n test ≡ false → (i : ℕ) → i < n → test i ≡ false
found_none n test e i h = false_from_ne_true (test i) λ q. subst T e (some_here n test i h (true_test q))

-- each of the five has 16 bits
pub record Words (k : Numbers) : Type 0 where
  pub engine : k.engine < 65536
  pub position : k.position < 65536
  pub second : k.second < 65536
  pub place : k.second_position < 65536
  pub branch : k.branch < 65536

pub numbers_here : (test : Numbers → Bool) (k : Numbers) → Words k → T (test k) → T (some_numbers test)
unfolding some_numbers
numbers_here test k w t =
    some_here 65536 _ k.engine w.engine
    (some_here 65536 _ k.position w.position
    (some_here 65536 _ k.second w.second
    (some_here 65536 _ k.second_position w.place
    (some_here 65536 _ k.branch w.branch t))))

pub numbers_there : (test : Numbers → Bool) → T (some_numbers test) → (k : Numbers) × T (test k)
unfolding some_numbers
numbers_there test t =
    let (e, t1) = some_there 65536 _ t in
    let (p, t2) = some_there 65536 _ t1 in
    let (e', t3) = some_there 65536 _ t2 in
    let (p', t4) = some_there 65536 _ t3 in
    let (b, t5) = some_there 65536 _ t4 in
    (record { engine = e; position = p; second = e'; second_position = p'; branch = b }, t5)

-- ---- a move

pub accepts_here : (test : Stepped → Bool) (r : Result Stepped) (x : Stepped) → r ≡ done x → T (test x) → T (accepts test r)
unfolding accepts
accepts_here test r x e t = subst (λ (q : Result Stepped). T (accepts test q)) (sym e) t

pub accepts_there : (test : Stepped → Bool) (r : Result Stepped) → T (accepts test r) → (x : Stepped) × (r ≡ done x) × T (test x)
unfolding accepts
accepts_there test (refused q) t = absurd t
accepts_there test (done x) t = (x, refl, t)

module _ (engines : ℕ) (side : Side) (ws : List ℕ) where
  pub move_here : (test : Stepped → Bool) (k : Numbers) (x : Stepped) → T (of_side engines side k.engine) → moved ws k ≡ done x → T (test x) → T (moves engines side ws test k)
  unfolding moves
  move_here test k x s e t = and_both (of_side engines side k.engine) (accepts test (moved ws k)) s (accepts_here test (moved ws k) x e t)

  pub move_there : (test : Stepped → Bool) (k : Numbers) → T (moves engines side ws test k) → (x : Stepped) × T (of_side engines side k.engine) × (moved ws k ≡ done x) × T (test x)
  unfolding moves
  move_there test k t =
      let (x, e, u) = accepts_there test (moved ws k) (and_right (of_side engines side k.engine) (accepts test (moved ws k)) t) in
      (x, and_left (of_side engines side k.engine) (accepts test (moved ws k)) t, e, u)

  -- a test that passes more
  pub more_moves : (test test' : Stepped → Bool) → ((x : Stepped) → T (test x) → T (test' x)) → (k : Numbers) → T (moves engines side ws test k) → T (moves engines side ws test' k)
  more_moves test test' f k t = let (x, s, e, u) = move_there test k t in move_here test' k x s e (f x u)
