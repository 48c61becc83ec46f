-- A store written: its variables one after the other.
-- Assumes nothing.
use Prim.Native.Nat.{ℕ, zero, suc, ◌+◌, ◌<◌, ◌≤◌}
use native.Mathlib.Omega.{arith}
use mathlib.Core.Path.{◌≡◌, refl}
use mathlib.Core.List.{List, [], ◌∷◌}
use borrow.Author.Tests.{lt-leb}
use lib.ListN.{length, get_or, drop}
use Rattle.rules.specs.declared.store.Taking.{Taking}
use Rattle.rules.specs.Storing.{storing}
use Rattle.stepping.specs.Writing.{value_w, store_w}

-- each takes its value
unfoldable pub values_w : ℕ → List Taking → List ℕ → List ℕ
values_w to [] out = out
values_w to (a ∷ rest) out = values_w to rest (value_w out to a.variable a.value)

values_step :
    (to : ℕ) (s : List Taking) (k : ℕ) (d : Taking) (out : List ℕ) → k < length s →
    values_w to (drop k s) out ≡ values_w to (drop (suc k) s) (value_w out to (get_or s k d).variable (get_or s k d).value)
unfolding values_w
values_step to [] k d out h = absurd (omega arith)
values_step to (a ∷ s) zero d out h = refl
values_step to (a ∷ s) (suc k) d out h = values_step to s k d out (omega arith)

pub values_turn :
    (to : ℕ) (s : List Taking) (k : ℕ) (d : Taking) (out : List ℕ) → k < length s →
    values_w to (drop k s) out ≡ values_w to (drop (k + 1) s) (value_w out to (get_or s k d).variable (get_or s k d).value)
values_turn to s k d out h = let e : k + 1 ≡ suc k = omega arith in rw e (values_step to s k d out h)

pub values_done : (to : ℕ) (s : List Taking) (k : ℕ) (out : List ℕ) → length s ≤ k → values_w to (drop k s) out ≡ out
unfolding values_w
values_done to [] zero out h = refl
values_done to [] (suc k) out h = refl
values_done to (a ∷ s) zero out h = absurd (omega arith)
values_done to (a ∷ s) (suc k) out h = values_done to s k out (omega arith)

-- all four, where the first is a variable
pub values_all :
    (to : ℕ) (s : List Taking) (d : Taking) (out : List ℕ) → length s ≡ 4 → (get_or s 0 d).variable < 32 →
    values_w to s out ≡ store_w out to (storing s)
unfolding store_w values_w
values_all to [] d out e h = absurd (omega arith)
values_all to (a ∷ []) d out e h = absurd (omega arith)
values_all to (a ∷ b ∷ []) d out e h = absurd (omega arith)
values_all to (a ∷ b ∷ c ∷ []) d out e h = absurd (omega arith)
values_all to (a ∷ b ∷ c ∷ e1 ∷ []) d out e h = rw (lt-leb 32 a.variable h)
values_all to (a ∷ b ∷ c ∷ e1 ∷ x ∷ s) d out e h = absurd (omega arith)
