-- What an x list without a variable twice is for: once its variables are set, each holds the value that was sent for it; the others stay.
-- Assumes nothing.
use Prim.Native.Nat.{ℕ}
use native.Mathlib.Omega.{arith}
use mathlib.Core.Path.{◌≡◌, refl, ap₂, ◌∙◌}
use mathlib.Core.Bool.{Bool, true, false, not, ◌||◌}
use mathlib.Core.List.{List, [], ◌∷◌}
use lib.Dec.{T, eqb}
use lib.ListN.{length, get_or, set, length-set}
use lib.Seq.{get_or-set_same, get_or-set_other}
use borrow.Author.Tests.{eq-eqb}
use Rattle.sock.specs.Variables.{values_at, set_all, member, distinct}
use Rattle.sock.proofs.Logic.{and_left, and_right, or_left}
use Rattle.sock.proofs.Fits.{AllBelow, none_below, one_below}

pub not_both : (b : Bool) → T (not b) → T b → ⊥
not_both true t u = t
not_both false t u = u

-- a variable that is not in the list keeps its value
pub others_kept : (vs xs us : List ℕ) (x : ℕ) → T (not (member x xs)) → get_or (set_all vs xs us) x 0 ≡ get_or vs x 0
unfolding set_all member
others_kept vs [] us x t = refl
others_kept vs (y ∷ xs) [] x t = refl
others_kept vs (y ∷ xs) (u ∷ us) x t =
    let other : x ≡ y → ⊥ = λ e. not_both (eqb x y || member x xs) t (or_left (eqb x y) (member x xs) (subst_test e)) in
    others_kept (set vs y u) xs us x (rest (eqb x y) (member x xs) t) ∙ get_or-set_other vs y x u 0 other
  where
    subst_test : x ≡ y → T (eqb x y)
    subst_test e = rw (eq-eqb x y e) tt

    rest : (a b : Bool) → T (not (a || b)) → T (not b)
    rest true b t = absurd t
    rest false b t = t

-- the variables of the list hold what was sent
pub received :
    (vs xs us : List ℕ) → T (distinct xs) → AllBelow (length vs) xs → length us ≡ length xs → values_at (set_all vs xs us) xs ≡ us
unfolding set_all distinct values_at
received vs [] [] d b e = refl
received vs [] (u ∷ us) d b e = absurd (omega arith)
received vs (x ∷ xs) [] d b e = absurd (omega arith)
received vs (x ∷ xs) (u ∷ us) d (one_below h b) e =
    let first : get_or (set_all (set vs x u) xs us) x 0 ≡ u =
    others_kept (set vs x u) xs us x (and_left (not (member x xs)) (distinct xs) d) ∙ get_or-set_same vs x u 0 h in
    ap₂ (λ a b. a ∷ b) first
    (received (set vs x u) xs us (and_right (not (member x xs)) (distinct xs) d) (kept b) (omega arith))
  where
    kept : {ys : List ℕ} → AllBelow (length vs) ys → AllBelow (length (set vs x u)) ys
    kept none_below = none_below
    kept (one_below {v = v} l g) = one_below {v = v} (rw (length-set vs x u) l) (kept g)
