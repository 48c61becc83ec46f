-- An engine's values after a step: what a store says of them.
-- Assumes nothing.
use Prim.Native.Nat.{ℕ, ◌<◌}
use mathlib.Core.Path.{◌≡◌, refl, ◌∙◌}
use mathlib.Core.Bool.{Bool, true, false, cond}
use mathlib.Core.List.{List}
use borrow.Author.Tests.{lt-leb}
use lib.Dec.{leb}
use lib.ListN.{length, set, length-set}
use Rattle.rules.specs.Storing.{Store}
use Rattle.rules.specs.Storing.{takes}

-- 32 is no variable
unfoldable pub valued : List ℕ → ℕ → ℕ → List ℕ
valued vs x v = cond (leb 32 x) vs (set vs x v)

-- where there is a first one, the others follow
unfoldable pub stored : List ℕ → Store → List ℕ
stored vs s =
    cond (leb 32 s.variable) vs
    (valued
    (valued (valued (valued vs s.variable s.value) s.second.variable s.second.value) s.third.variable s.third.value)
    s.fourth.variable s.fourth.value)

pub valued_known : (vs : List ℕ) (x v : ℕ) → x < 32 → valued vs x v ≡ set vs x v
unfolding valued
valued_known vs x v h = rw (lt-leb 32 x h)

pub valued_length : (vs : List ℕ) (x v : ℕ) → length (valued vs x v) ≡ length vs
unfolding valued
valued_length vs x v = by (leb 32 x)
  where
    by : (b : Bool) → length (cond b vs (set vs x v)) ≡ length vs
    by true = refl
    by false = length-set vs x v

pub stored_length : (vs : List ℕ) (s : Store) → length (stored vs s) ≡ length vs
unfolding stored
stored_length vs s = by (leb 32 s.variable)
  where
    one : List ℕ
    one = valued vs s.variable s.value

    two : List ℕ
    two = valued one s.second.variable s.second.value

    three : List ℕ
    three = valued two s.third.variable s.third.value

    by : (b : Bool) → length (cond b vs (valued three s.fourth.variable s.fourth.value)) ≡ length vs
    by true = refl
    by false =
        valued_length three s.fourth.variable s.fourth.value
        ∙ (valued_length two s.third.variable s.third.value
        ∙ (valued_length one s.second.variable s.second.value ∙ valued_length vs s.variable s.value))

-- nothing changes, or one variable
pub stored_none : (vs : List ℕ) (s : Store) → s.variable ≡ 32 → stored vs s ≡ vs
unfolding stored
stored_none vs s e = rw e

pub stored_one : (vs : List ℕ) (x v : ℕ) → x < 32 → stored vs (takes x v) ≡ set vs x v
unfolding stored valued
stored_one vs x v h = rw (lt-leb 32 x h)
