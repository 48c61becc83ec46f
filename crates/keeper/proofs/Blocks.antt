-- Moves as numbers: those between a number and the next block have the same first fields; and the five numbers of an accepted step have a number.
-- Assumes nothing.
use Prim.Native.Nat.{ℕ, ◌+◌, ◌*◌, ◌/◌, ◌%◌, ◌≤◌, ◌<◌}
use native.Mathlib.Omega.{arith}
use mathlib.Core.Path.{◌≡◌, ap}
use mathlib.Core.Bool.{false, cond}
use mathlib.Core.List.{List}
use borrow.Author.Tests.{eq-eqb, ne_eqb}
use native.Mathlib.Decide.{ℕ_discrete}
use native.Mathlib.Nat.{div-div-eq-div-mul}
use lib.Dec.{eqb}
use Rattle.sock.specs.Calls.{Numbers, done, Stepped}
use Rattle.stepping.specs.Stepping.{none_else}
use Rattle.keeper.specs.Game.{moved}
use Rattle.keeper.specs.Moves.{numbers_at, past_of}
use Rattle.keeper.specs.Seeking.{move_at}
use Rattle.keeper.proofs.Bounds.{Small, accepted_small}

module _ (i : ℕ) where
  pub past_further : (i < past_of i 16) × (i < past_of i 131072) × (i < past_of i 1048576) × (i < past_of i 8589934592)
  unfolding past_of
  past_further = (omega arith, omega arith, omega arith, omega arith)

  module _ (j : ℕ) (h : i < j) where
    pub same_engine : j < past_of i 8589934592 → (numbers_at j).engine ≡ (numbers_at i).engine
    unfolding past_of numbers_at
    same_engine u = let e : j / 8589934592 ≡ i / 8589934592 = omega arith in ap (λ (n : ℕ). n % 8) e

    pub same_position : j < past_of i 1048576 → ((numbers_at j).engine ≡ (numbers_at i).engine) × ((numbers_at j).position ≡ (numbers_at i).position)
    unfolding past_of numbers_at
    same_position u =
        let e : j / 1048576 ≡ i / 1048576 = omega arith in
        let d : j / 8589934592 ≡ i / 8589934592 = omega arith in
        (ap (λ (n : ℕ). n % 8) d, ap (λ (n : ℕ). n % 8192) e)

    pub same_second :
        j < past_of i 131072 →
        ((numbers_at j).engine ≡ (numbers_at i).engine) × ((numbers_at j).position ≡ (numbers_at i).position) × ((numbers_at j).second ≡ (numbers_at i).second)
    unfolding past_of numbers_at
    same_second u =
        let c : j / 131072 ≡ i / 131072 = omega arith in
        let e : j / 1048576 ≡ i / 1048576 = omega arith in
        let d : j / 8589934592 ≡ i / 8589934592 = omega arith in
        (ap (λ (n : ℕ). n % 8) d, ap (λ (n : ℕ). n % 8192) e, ap (λ (n : ℕ). n % 8) c)

    pub same_place :
        j < past_of i 16 →
        ((numbers_at j).engine ≡ (numbers_at i).engine) × ((numbers_at j).position ≡ (numbers_at i).position) × ((numbers_at j).second ≡ (numbers_at i).second)
        × ((numbers_at j).second_position ≡ (numbers_at i).second_position)
    unfolding past_of numbers_at
    same_place u =
        let b : j / 16 ≡ i / 16 = omega arith in
        let c : j / 131072 ≡ i / 131072 = omega arith in
        let e : j / 1048576 ≡ i / 1048576 = omega arith in
        let d : j / 8589934592 ≡ i / 8589934592 = omega arith in
        (ap (λ (n : ℕ). n % 8) d, ap (λ (n : ℕ). n % 8192) e, ap (λ (n : ℕ). n % 8) c, ap (λ (n : ℕ). n % 8192) b)

    -- not the first of its block, so not all zeros behind
    pub not_first : j < past_of i 1048576 → none_else (numbers_at j).second (numbers_at j).second_position (numbers_at j).branch ≡ false
    unfolding past_of numbers_at none_else
    not_first u = by (ℕ_discrete (j / 131072 % 8) 0) (ℕ_discrete (j / 16 % 8192) 0) (ℕ_discrete (j % 16) 0)
      where
        by :
            Dec (j / 131072 % 8 ≡ 0) → Dec (j / 16 % 8192 ≡ 0) → Dec (j % 16 ≡ 0) →
            cond (eqb (j / 131072 % 8) 0) (cond (eqb (j / 16 % 8192) 0) (eqb (j % 16) 0) false) false ≡ false
        by (no p) q r = rw (ne_eqb (j / 131072 % 8) 0 p)
        by (yes p) (no q) r = rw (eq-eqb (j / 131072 % 8) 0 p, ne_eqb (j / 16 % 8192) 0 q)
        by (yes p) (yes q) (no r) = rw (eq-eqb (j / 131072 % 8) 0 p, eq-eqb (j / 16 % 8192) 0 q, ne_eqb (j % 16) 0 r)
        by (yes p) (yes q) (yes r) =
            let a : j ≡ j / 16 * 16 = omega arith in
            let f : j / 16 / 8192 ≡ j / 131072 = div-div-eq-div-mul j 16 8192 in
            let g : j / 131072 / 8 ≡ j / 1048576 = div-div-eq-div-mul j 131072 8 in
            let b : j / 16 ≡ j / 16 / 8192 * 8192 = omega arith in
            let c : j / 131072 ≡ j / 131072 / 8 * 8 = omega arith in
            let d : j / 1048576 ≡ i / 1048576 = omega arith in
            let e : i / 1048576 * 1048576 ≤ i = omega arith in
            absurd (omega arith)

-- the number of five numbers
abbrev pub number_of : Numbers → ℕ
number_of k = k.engine * 8589934592 + k.position * 1048576 + k.second * 131072 + k.second_position * 16 + k.branch

-- a law for each field, over numbers alone
module _ (e p e' p' b : ℕ) (h : e < 8) (hp : p < 8192) (h' : e' < 8) (hp' : p' < 8192) (hb : b < 16) where
  abbrev n : ℕ
  n = e * 8589934592 + p * 1048576 + e' * 131072 + p' * 16 + b

  pub number_low : n < 68719476736
  number_low = omega arith

  pub number_engine : n / 8589934592 % 8 ≡ e
  number_engine = omega arith

  pub number_position : n / 1048576 % 8192 ≡ p
  number_position = omega arith

  pub number_second : n / 131072 % 8 ≡ e'
  number_second = omega arith

  pub number_place : n / 16 % 8192 ≡ p'
  number_place = omega arith

  pub number_branch : n % 16 ≡ b
  number_branch = omega arith

-- Completeness: every accepted step is one of the moves that are numbered
pub numbered : (ws : List ℕ) (k : Numbers) (x : Stepped) → moved ws k ≡ done x → (number_of k < 68719476736) × (move_at (number_of k) ≡ k)
unfolding numbers_at
numbered ws k x d =
    let s : Small ws k = accepted_small ws k x d in
    let w = s.words in
    let e = s.first.engine in
    let p : k.position < 8192 = omega (arith, s.first.position) in
    let e' = s.second in
    let p' : k.second_position < 8192 = omega (arith, s.place) in
    let b : k.branch < 16 = omega (arith, s.branch) in (
      number_low _ _ _ _ _ e p e' p' b,
      rw (number_engine _ _ _ _ _ e p e' p' b, number_position _ _ _ _ _ e p e' p' b, number_second _ _ _ _ _ e p e' p' b, number_place _ _ _ _ _ e p e' p' b, number_branch _ _ _ _ _ e p e' p' b),
    )
