-- Tests taken apart and put together, and what holds of an answer if there is one.
-- Assumes nothing.
use mathlib.Core.Path.{◌≡◌, refl, subst, sym}
use mathlib.Core.Bool.{Bool, true, false, not, ◌&&◌, ◌||◌, cond}
use mathlib.Core.Option.{Option, none, some}
use mathlib.Core.Logic.{◌⊎◌, inl, inr}
use lib.Dec.{T}
use Rattle.sock.specs.Configuration.{guarded}
use Rattle.sock.specs.Rules.{also}

pub and_left : (a b : Bool) → T (a && b) → T a
and_left true b t = tt
and_left false b t = t

pub and_right : (a b : Bool) → T (a && b) → T b
and_right true b t = t
and_right false b t = absurd t

pub and_both : (a b : Bool) → T a → T b → T (a && b)
and_both true b t u = u
and_both false b t u = t

pub or_left : (a b : Bool) → T a → T (a || b)
or_left true b t = tt
or_left false b t = absurd t

pub or_right : (a b : Bool) → T b → T (a || b)
or_right true b t = tt
or_right false b t = t

pub or_case : (a b : Bool) → T (a || b) → T a ⊎ T b
or_case true b t = inl tt
or_case false b t = inr t

pub test_true : (b : Bool) → T b → b ≡ true
test_true true t = refl
test_true false t = absurd t

pub test_false : (b : Bool) → T (not b) → b ≡ false
test_false true t = absurd t
test_false false t = refl

pub true_test : {b : Bool} → b ≡ true → T b
true_test e = subst T (sym e) tt

pub false_test : {b : Bool} → b ≡ false → T (not b)
false_test e = subst (λ b. T (not b)) (sym e) tt

-- a choice by a test has what each side has, given the test's answer
pub cond-case {ℓ} : {A : Type 0} (P : A → Type ℓ) (b : Bool) {x y : A} → (T b → P x) → (T (not b) → P y) → P (cond b x y)
cond-case P true f g = f tt
cond-case P false f g = g tt

-- what holds of an answer, if there is one
pub data All {A : Type 0} (P : A → Type 0) : Option A → Type 0 where
  all_none : All P none
  all_some : {a : A} → P a → All P (some a)

pub all_also : {A B : Type 0} {P : A → Type 0} {Q : B → Type 0} {o : Option A} {k : A → Option B} → All P o → ((a : A) → P a → All Q (k a)) → All Q (also o k)
unfolding also
all_also all_none f = all_none
all_also (all_some {a = a} h) f = f a h

pub all_any : {A B : Type 0} {Q : B → Type 0} (o : Option A) {k : A → Option B} → ((a : A) → All Q (k a)) → All Q (also o k)
unfolding also
all_any none f = all_none
all_any (some a) f = f a

pub all_guarded : {A : Type 0} {P : A → Type 0} (b : Bool) {o : Option A} → (T b → All P o) → All P (guarded b o)
unfolding guarded
all_guarded true f = f tt
all_guarded false f = all_none

pub all_map : {A : Type 0} {P Q : A → Type 0} {o : Option A} → ((a : A) → P a → Q a) → All P o → All Q o
all_map f all_none = all_none
all_map f (all_some {a = a} h) = all_some (f a h)

abbrev Of : {A : Type 0} → (A → Type 0) → Option A → Type 0
Of P none = Unit {0}
Of P (some a) = P a

of_all : {A : Type 0} {P : A → Type 0} {o : Option A} → All P o → Of P o
of_all all_none = tt
of_all (all_some h) = h

pub all_some_lem : {A : Type 0} {P : A → Type 0} {o : Option A} {a : A} → All P o → o ≡ some a → P a
all_some_lem {P = P} h e = subst (λ o. Of P o) e (of_all h)
