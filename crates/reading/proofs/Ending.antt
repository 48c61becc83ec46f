-- Where a reader ends, beside what the definitions' reader gives: nothing and 0, or a value and the words from the end on; and how this
-- goes through the readers' combinators.
-- Assumes nothing.
use Prim.Native.Nat.{ℕ, ◌≤◌, ◌<◌}
use native.Mathlib.Omega.{arith}
use mathlib.Core.Logic.{◌≢◌}
use mathlib.Core.Path.{◌≡◌, refl, subst, sym, ◌∙◌}
use mathlib.Core.Bool.{Bool, true, false, not, ◌&&◌}
use mathlib.Core.List.{List}
use lib.Dec.{T}
use lib.ListN.{length, drop}
use Rattle.sock.specs.Reading.{Got, fail, got, and_then, check}
use Rattle.reading.specs.Walk.{on, when}
use Rattle.reading.proofs.Combining.{same_test, on_zero, on_past, check_and, check_late, then_check}

-- from a position on: nothing and 0, or a value and the words from its end on
pub data Ends {A : Type 0} (ws : List ℕ) (from : ℕ) : Got A → ℕ → Type 0 where
  fails : Ends ws from fail 0
  reads : {a : A} {e : ℕ} → from < e → e ≤ length ws → Ends ws from (got a (drop e ws)) e

-- ---- from a reader to what follows

pub ends_then :
    {A B : Type 0} {ws : List ℕ} {i e : ℕ} {g : Got A} (k : A → List ℕ → Got B) (f : ℕ → ℕ) →
    Ends ws i g e →
    ((a : A) → i < e → e ≤ length ws → Ends ws i (k a (drop e ws)) (f e)) →
    Ends ws i (and_then g k) (on e f)
unfolding and_then
ends_then k f fails r = rw (on_zero f) fails
ends_then k f (reads {a} {e} p q) r = rw (on_past e f (omega arith)) (r a p q)

-- what follows reads no word
pub ends_last :
    {A B : Type 0} {ws : List ℕ} {i e : ℕ} {g : Got A} (k : A → List ℕ → Got B) →
    Ends ws i g e →
    ((a : A) → i < e → e ≤ length ws → Ends ws i (k a (drop e ws)) e) →
    Ends ws i (and_then g k) e
unfolding and_then
ends_last k fails r = fails
ends_last k (reads {a} p q) r = r a p q

pub ends_map : {A B : Type 0} {ws : List ℕ} {i e : ℕ} {g : Got A} (f : A → B) → Ends ws i g e → Ends ws i (and_then g λ a rest. got (f a) rest) e
ends_map f r = ends_last _ r λ a p q. reads p q

pub ends_check : {A : Type 0} {ws : List ℕ} {i e : ℕ} {g : Got A} (b : Bool) → (T b → Ends ws i g e) → Ends ws i (check b g) (when b e)
unfolding check when
ends_check true r = r tt
ends_check false r = fails

pub ends_passed : {A : Type 0} {ws : List ℕ} {i e : ℕ} {g : Got A} (b : Bool) → T b → Ends ws i g e → Ends ws i (check b g) e
unfolding check
ends_passed true t r = r
ends_passed false t r = absurd t

-- tests that say the same
pub ends_test :
    {A : Type 0} {ws : List ℕ} {i e : ℕ} {g : Got A} (a b : Bool) →
    (T a → T b) →
    (T b → T a) →
    (T a → Ends ws i g e) →
    Ends ws i (check a g) (when b e)
unfolding check when
ends_test a b f g r = rw (← same_test a b f g) (ends_check a r)

-- a condition in two parts, the second tested when all is read
pub ends_late :
    {A B : Type 0} {ws : List ℕ} {i e : ℕ} {g : Got A} (a b c : Bool) (t : A → Bool) (f : A → B) →
    a && b ≡ c →
    ((x : A) → t x ≡ b) →
    Ends ws i g e →
    Ends ws i (check a (and_then g λ x rest. check (t x) (got (f x) rest))) (when c e)
ends_late {e = e} {g} a b c t f q u r =
    rw (check_late b g t (λ x rest. got (f x) rest) u, check_and a b, q) (ends_check c λ t. ends_map f r)

-- a condition in the middle, tested when all is read
pub ends_early :
    {A B C : Type 0} {ws : List ℕ} {i e : ℕ} (c : Bool) (g : Got A) (then : List ℕ → Got B) (t u : A → Bool) (f : A → B → C) (end : ℕ → ℕ) →
    ((x : A) → t x ≡ u x) →
    Ends ws i (check c (and_then g λ x rest. check (u x) (got x rest))) e →
    ((j : ℕ) → i < j → j ≤ length ws → Ends ws i (then (drop j ws)) (end j)) →
    Ends ws i (check c (and_then g λ x rest. and_then (then rest) λ y last. check (t x) (got (f x y) last))) (on e end)
unfolding and_then check
ends_early {e = e} c g then t u f end same r k = rw (order c g) (ends_then _ end r λ x p q. ends_map (f x) (k e p q))
  where
    order :
        (c : Bool) (g : Got _) →
        check c (and_then g λ x rest. and_then (then rest) λ y last. check (t x) (got (f x y) last))
        ≡ and_then (check c (and_then g λ x rest. check (u x) (got x rest))) (λ x rest. and_then (then rest) λ y last. got (f x y) last)
    order true fail = refl
    order true (got x rest) = check_late (u x) (then rest) (λ y. t x) (λ y last. got (f x y) last) (λ y. same x) ∙ sym (then_check (u x) (got x rest) _)
    order false g = refl

pub ends_when : {A : Type 0} {ws : List ℕ} {i e : ℕ} {g : Got A} (b : Bool) → (T b → Ends ws i g e) → (T (not b) → g ≡ fail) → Ends ws i g (when b e)
unfolding when
ends_when true r f = r tt
ends_when false r f = rw (f tt) fails

-- an end that is the same
pub ends_at : {A : Type 0} {ws : List ℕ} {i d e : ℕ} {g : Got A} → d ≡ e → Ends ws i g d → Ends ws i g e
ends_at {ws = ws} {i} {g = g} q r = subst (λ n. Ends ws i g n) q r

-- from an earlier position
pub ends_before : {A : Type 0} {ws : List ℕ} {i j e : ℕ} {g : Got A} → i ≤ j → Ends ws j g e → Ends ws i g e
ends_before h fails = fails
ends_before h (reads {e} p q) = reads {e = e} (omega arith) q

-- ---- what an end tells

-- a value is read, up to a position past the first and no further than the words
pub record ReadTo {A : Type 0} (ws : List ℕ) (from : ℕ) (g : Got A) (e : ℕ) : Type 0 where
  pub value : A
  pub gives : g ≡ got value (drop e ws)
  pub past : from < e
  pub within : e ≤ length ws

module _ {A : Type 0} {ws : List ℕ} {i : ℕ} where
  pub ends_fail : {g : Got A} {e : ℕ} → Ends ws i g e → g ≡ fail → e ≡ 0
  ends_fail fails z = refl
  ends_fail (reads p q) z = let y : ◌≡◌ {A = ℕ} 0 1 = cc in absurd (omega arith)

  pub ends_read : {g : Got A} {e : ℕ} → Ends ws i g e → e ≢ 0 → ReadTo ws i g e
  ends_read fails z = absurd (z refl)
  ends_read (reads {a} p q) z = record { value = a; gives = refl; past = p; within = q }

  pub ends_got : {g : Got A} {e : ℕ} → Ends ws i g e → (a : A) (rest : List ℕ) → g ≡ got a rest → (rest ≡ drop e ws) × (i < e) × (e ≤ length ws)
  ends_got fails a rest z = let y : ◌≡◌ {A = ℕ} 0 1 = cc in absurd (omega arith)
  ends_got (reads p q) a rest z = (cc, p, q)
