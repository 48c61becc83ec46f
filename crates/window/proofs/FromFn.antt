-- What `array::from_fn` gives, if each of its calls leaves the closure as it was: what one call gives holds at each index.
-- Assumes nothing.
use Prim.Native.Nat.{ℕ, zero, suc, ◌+◌, ◌≤◌, ◌<◌}
use native.Mathlib.Omega.{arith}
use native.Mathlib.Decide.{ℕ_discrete}
use mathlib.Core.Path.{◌≡◌, sym, subst}
use mathlib.Core.List.{List}
use lib.ListN.{get_or}
use denote.Param.Members.{Mut}
use Rattle.std.specs.Fn.{Called}
use Rattle.std.specs.Array.{IsFromFnResult, IsFromFnResultFrom}

module _ {F : Type 0} (g : Mut F (ℕ × Unit {0}) ℕ) (f : F) (words : List ℕ) (P : ℕ → ℕ → Type 0)
    (one : (i word : ℕ) (q : F) → Called g f (i, tt) word q → (q ≡ f) × P i word) where
  from_each : (n i : ℕ) → IsFromFnResultFrom g f words i n → (k : ℕ) → i ≤ k → k < i + n → P k (get_or words k 0)
  from_each zero i r k a b = absurd (omega arith)
  from_each (suc n) i (q, word, at, call, rest) k a b =
      by (ℕ_discrete k i) (λ low high. from_each n (i + 1) (subst (λ (h : F). IsFromFnResultFrom g h words (i + 1) n) (one i word q call).0 rest) k low high)
    where
      by : Dec (k ≡ i) → (i + 1 ≤ k → k < i + 1 + n → P k (get_or words k 0)) → P k (get_or words k 0)
      by (yes e) next =
          let here : P i word = (one i word q call).1 in
          subst (λ (j : ℕ). P j (get_or words j 0)) (sym e) (subst (P i) (sym (at.1 0)) here)
      by (no d) next = next (omega (arith, d)) (omega arith)

  pub from_calls : (n : ℕ) → IsFromFnResult g f words n → (k : ℕ) → k < n → P k (get_or words k 0)
  from_calls n r k h = from_each n 0 r.each k (omega arith) (omega arith)
