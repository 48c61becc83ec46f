-- The last of a list: what a list that grows at its end keeps.
-- Assumes nothing.
use Prim.Native.Nat.{ℕ, ◌+◌, ◌-◌, ◌≤◌}
use native.Mathlib.Omega.{arith}
use mathlib.Core.Path.{◌≡◌, sym, ap, ◌∙◌}
use mathlib.Core.List.{List, [], ◌∷◌, ◌++◌, map}
use lib.ListN.{length, drop, length-append, length-drop, length-map}
use lib.Seq.{drop-nil, drop-drop, drop-append-le}
use Rattle.std.specs.List.{drop-map}
use Rattle.std.proofs.lemmas.Grind.{common_steps}
use Rattle.window.specs.Window.{last}

pub last_all : {A : Type 0} (w : ℕ) (l : List A) → length l ≤ w → last w l ≡ l
unfolding last
last_all w l h = grind (arith, common_steps)

-- one more than w: the first goes
pub last_full : {A : Type 0} (w : ℕ) (l : List A) (x : A) → length l ≡ w → 1 ≤ w → last w (l ++ (x ∷ [])) ≡ drop 1 l ++ (x ∷ [])
unfolding last
last_full w l x e h = grind (arith, common_steps)

pub last_length : {A : Type 0} (w : ℕ) (l : List A) → length (last w l) ≤ w
unfolding last
last_length w l = omega (arith, length-drop (length l - w) l)

pub last_nil : {A : Type 0} (w : ℕ) → last {A = A} w [] ≡ []
unfolding last
last_nil {A} w = drop-nil {A = A} (length {A = A} [] - w)

pub last_last : {A : Type 0} (w : ℕ) (l m : List A) → last w (last w l ++ m) ≡ last w (l ++ m)
unfolding last
last_last w l m =
    let n : ℕ = length l - w in
    let le : n ≤ length l = omega arith in
    let a : drop n l ++ m ≡ drop n (l ++ m) = sym (drop-append-le n l m le) in
    let s : length (drop n l ++ m) ≡ length l - n + length m = length-append (drop n l) m ∙ ap (λ (k : ℕ). k + length m) (length-drop n l) in
    let t : length (l ++ m) ≡ length l + length m = length-append l m in
    let k : n + (length (drop n l ++ m) - w) ≡ length (l ++ m) - w = omega (arith, s, t) in
    ap (drop (length (drop n l ++ m) - w)) a
    ∙ drop-drop (length (drop n l ++ m) - w) n (l ++ m)
    ∙ ap (λ (j : ℕ). drop j (l ++ m)) k

pub last_map : {A B : Type 0} (f : A → B) (w : ℕ) (l : List A) → last w (map f l) ≡ map f (last w l)
unfolding last
last_map f w l = ap (λ (n : ℕ). drop (n - w) (map f l)) (length-map l f) ∙ drop-map f (length l - w) l
