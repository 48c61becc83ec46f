-- Laws of the readers' combinators, the definitions' and the walk's, and a reader at a position of the words.
-- Assumes nothing.
use Prim.Native.Nat.{ℕ, ◌+◌, ◌<◌}
use native.Mathlib.Omega.{arith}
use native.Mathlib.Numerals.{add-one}
use mathlib.Core.Path.{◌≡◌, refl, sym, ap, ◌∙◌}
use mathlib.Core.Bool.{Bool, true, false, ◌&&◌, cond}
use mathlib.Core.List.{List, [], ◌∷◌}
use lib.Dec.{T, eqb, ltb}
use lib.ListN.{length, drop, drop_of_length-le}
use lib.Seq.{drop-cons}
use borrow.Author.Tests.{ne_eqb, ltb-true, ltb-false}
use Rattle.sock.specs.Reading.{Got, fail, got, and_then, check}
use Rattle.reading.specs.Walk.{on, when, at}

-- tests that say the same
pub same_test : (a b : Bool) → (T a → T b) → (T b → T a) → a ≡ b
same_test true true f g = refl
same_test true false f g = absurd (f tt)
same_test false true f g = absurd (g tt)
same_test false false f g = refl

-- ---- the walk's

pub on_zero : (k : ℕ → ℕ) → on 0 k ≡ 0
unfolding on
on_zero k = refl

pub on_past : (e : ℕ) (k : ℕ → ℕ) → 0 < e → on e k ≡ k e
unfolding on
on_past e k h = ap (λ b. cond b 0 (k e)) (ne_eqb e 0 (omega arith))

pub on_assoc : (e : ℕ) (k l : ℕ → ℕ) → on (on e k) l ≡ on e (λ f. on (k f) l)
unfolding on
on_assoc e k l = go (eqb e 0)
  where
    go : (b : Bool) → cond (eqb (cond b 0 (k e)) 0) 0 (l (cond b 0 (k e))) ≡ cond b 0 (on (k e) l)
    go true = refl
    go false = refl

pub on_when : (b : Bool) (e : ℕ) (k : ℕ → ℕ) → on (when b e) k ≡ when b (on e k)
unfolding when
on_when true e k = refl
on_when false e k = on_zero k

pub when_and : (a b : Bool) (e : ℕ) → when (a && b) e ≡ when a (when b e)
unfolding when
when_and true b e = refl
when_and false b e = refl

-- ---- the definitions'

pub check_and : {A : Type 0} (a b : Bool) (g : Got A) → check a (check b g) ≡ check (a && b) g
unfolding check
check_and true b g = refl
check_and false b g = refl

pub check_as : {A : Type 0} {a b : Bool} (g : Got A) → a ≡ b → check a g ≡ check b g
check_as g e = ap (λ t. check t g) e

pub check_fail : {A : Type 0} (b : Bool) → check {A = A} b fail ≡ fail
unfolding check
check_fail true = refl
check_fail false = refl

pub then_check : {A B : Type 0} (b : Bool) (g : Got A) (k : A → List ℕ → Got B) → and_then (check b g) k ≡ check b (and_then g k)
unfolding and_then check
then_check true g k = refl
then_check false g k = refl

pub then_assoc :
    {A B C : Type 0} (g : Got A) (k : A → List ℕ → Got B) (l : B → List ℕ → Got C) → and_then (and_then g k) l ≡ and_then g (λ a rest. and_then (k a rest) l)
unfolding and_then
then_assoc fail k l = refl
then_assoc (got a rest) k l = refl

pub check_then :
    {A B : Type 0} (g : Got A) (t : A → Bool) (k : A → List ℕ → Got B) →
    and_then g (λ a rest. check (t a) (k a rest)) ≡ and_then (and_then g (λ a rest. check (t a) (got a rest))) k
unfolding and_then
check_then fail t k = refl
check_then (got a rest) t k = sym (then_check (t a) (got a rest) k)

-- a test that waits for what it does not depend on
pub check_late :
    {A B : Type 0} (b : Bool) (g : Got A) (t : A → Bool) (k : A → List ℕ → Got B) → ((a : A) → t a ≡ b) →
    and_then g (λ a rest. check (t a) (k a rest)) ≡ check b (and_then g k)
unfolding and_then
check_late b fail t k e = sym (check_fail b)
check_late b (got a rest) t k e = rw (e a)

pub then_fail : {A B : Type 0} (g : Got A) → and_then {B = B} g (λ a rest. fail) ≡ fail
unfolding and_then
then_fail fail = refl
then_fail (got a rest) = refl

pub then_got : {A : Type 0} (g : Got A) → and_then g got ≡ g
unfolding and_then
then_got fail = refl
then_got (got a rest) = refl

-- a test of what is made is a test of what it is made of
pub check_made :
    {A B : Type 0} (g : Got A) (f : A → B) (t : B → Bool) (u : A → Bool) → ((a : A) → t (f a) ≡ u a) →
    and_then (and_then g (λ a rest. got (f a) rest)) (λ b rest. check (t b) (got b rest))
    ≡ and_then (and_then g (λ a rest. check (u a) (got a rest))) (λ a rest. got (f a) rest)
unfolding and_then
check_made fail f t u e = refl
check_made (got a rest) f t u e = rw (e a) (sym (then_check (u a) (got a rest) _))

-- ---- words at positions

-- the words are 16-bit
abbrev pub Words : List ℕ → Type 0
Words ws = (i : ℕ) → at ws i < 65536

-- a reader that wants a word, at a position
pub at_next :
    {A : Type 0} (read : List ℕ → Got A) → read [] ≡ fail →
    (ws : List ℕ) (i j : ℕ) → j ≡ i + 1 → read (drop i ws) ≡ check (ltb i (length ws)) (read (at ws i ∷ drop j ws))
unfolding check
at_next read none ws i j e = go (ltb i (length ws)) refl
  where
    go : (b : Bool) → ltb i (length ws) ≡ b → read (drop i ws) ≡ check b (read (at ws i ∷ drop j ws))
    go true t = ap read (rw (e, add-one i) (drop-cons ws i 0 (ltb-true i _ t)))
    go false t = ap read (drop_of_length-le ws (ltb-false i _ t)) ∙ none
