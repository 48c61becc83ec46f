-- `same_block` of `journal::compare` meets its contract: `==` at slices of words says whether they are the same words.
use Rattle.std.proofs.Common.{◌≡◌, ℕ, ◌+◌, ◌-◌, ◌&&◌, List, [], ◌∷◌, take, drop, refl, ap, ap₂, ◌∙◌, nat_eq, arith}
use lib.Pointwise.{pointwise}
use Rattle.sock.specs.Journal.{same_words}
use Rattle.journal.proofs.compare.same_block.Goals as goal

same_is : (x y : List ℕ) → pointwise nat_eq x y ≡ same_words x y
unfolding same_words
same_is [] [] = refl
same_is [] (b ∷ y) = refl
same_is (a ∷ x) [] = refl
same_is (a ∷ x) (b ∷ y) = ap (λ t. nat_eq a b && t) (same_is x y)

sixteen : (i : ℕ) → i + 16 - i ≡ 16
sixteen i = omega arith

pub returns : goal.returns
returns c =
    let a = c.args in
    c.eq.ensures
    ∙ ap₂ (λ m n. pointwise nat_eq (take m (drop a.i a.a.now)) (take n (drop a.j a.b.now))) (sixteen a.i) (sixteen a.j)
    ∙ same_is (take 16 (drop a.i a.a.now)) (take 16 (drop a.j a.b.now))
