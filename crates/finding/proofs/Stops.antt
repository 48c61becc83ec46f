-- The innermost scope around a process that passes a test, located: the nearest scope, and the one that catches a fault.
-- Assumes nothing.
use Prim.Native.Nat.{ℕ, ◌≤◌, ◌<◌}
use native.Mathlib.Omega.{arith}
use mathlib.Core.Path.{◌≡◌, refl, sym, ap, ◌∙◌}
use mathlib.Core.Bool.{Bool, true, false, not, ◌||◌, cond}
use mathlib.Core.Option.{Option, none, some}
use mathlib.Core.List.{List, [], ◌∷◌, ◌++◌}
use borrow.Author.Tests.{ne_eqb}
use lib.Dec.{T, eqb}
use Rattle.sock.specs.Term.{Entries}
use Rattle.sock.specs.Reading.{holds}
use Rattle.sock.specs.Running.{Run, seq, par, scope, executor}
use Rattle.sock.specs.Frames.{Frame, seq_frame, left_frame, right_frame, scope_frame, executor_frame, Located}
use Rattle.sock.proofs.Located.{wrap}
use Rattle.finding.proofs.Framing.{scoped}
use Rattle.finding.proofs.Within.{behind, lifted, or_else, within}

unfoldable pub stopped : (Bool → Entries → Bool) → List Frame → Run → Option Located
stopped test [] a = none
stopped test (seq_frame q ∷ fs) a = stopped test fs (seq a q)
stopped test (left_frame b ∷ fs) a = stopped test fs (par a b)
stopped test (right_frame b ∷ fs) a = stopped test fs (par b a)
stopped test (scope_frame name mark zombie h ∷ fs) a =
    cond (test zombie h) (some (record { frames = fs; process = scope name mark zombie h a })) (stopped test fs (scope name mark zombie h a))
stopped test (executor_frame o y client serial ∷ fs) a = stopped test fs (executor o y client serial a)

-- any scope; one that stops the fault f
abbrev pub any_scope : Bool → Entries → Bool
any_scope zombie h = true

abbrev pub catches : ℕ → Bool → Entries → Bool
catches f zombie h = zombie || holds f h

or_cond :
    (gs : List Frame) (b : Bool) (l : Located) (x y : Option Located) →
    or_else (lifted gs (cond b (some l) x)) y ≡ cond b (some (behind gs l)) (or_else (lifted gs x) y)
unfolding or_else lifted
or_cond gs true l x y = refl
or_cond gs false l x y = refl

pub stopped_append :
    (test : Bool → Entries → Bool) (xs ys : List Frame) (a : Run) →
    stopped test (xs ++ ys) a ≡ or_else (lifted ys (stopped test xs a)) (stopped test ys (wrap xs a))
unfolding stopped wrap or_else lifted
stopped_append test [] ys a = refl
stopped_append test (seq_frame q ∷ xs) ys a = stopped_append test xs ys (seq a q)
stopped_append test (left_frame b ∷ xs) ys a = stopped_append test xs ys (par a b)
stopped_append test (right_frame b ∷ xs) ys a = stopped_append test xs ys (par b a)
stopped_append test (scope_frame name mark zombie h ∷ xs) ys a =
    ap (cond (test zombie h) (some (record { frames = xs ++ ys; process = scope name mark zombie h a })))
    (stopped_append test xs ys (scope name mark zombie h a))
    ∙ sym (or_cond ys (test zombie h) _ (stopped test xs (scope name mark zombie h a)) (stopped test ys (wrap xs (scope name mark zombie h a))))
stopped_append test (executor_frame o y client serial ∷ xs) ys a = stopped_append test xs ys (executor o y client serial a)

-- it stands at k; 0 if there is none
pub data Standing (r : Run) (i : ℕ) : Option Located → ℕ → Type 0 where
  nowhere : Standing r i none 0
  somewhere : {l : Located} {k : ℕ} → i ≤ k → within r i k ≡ some l → Standing r i (some l) k

-- the same, where a frame more stands around
module _ (r a : Run) (i j : ℕ) (o : Frame) (later : i ≤ j)
    (lifts : (k : ℕ) (l : Located) → j ≤ k → within a j k ≡ some l → within r i k ≡ some (behind (o ∷ []) l)) where
  pub standing_under : {x : Option Located} {k : ℕ} → Standing a j x k → Standing r i (or_else (lifted (o ∷ []) x) none) k
  unfolding or_else lifted
  standing_under nowhere = nowhere
  standing_under (somewhere {l = l} {k = k} h e) = somewhere {k = k} (omega arith) (lifts k l h e)

  -- the frame a scope's that passes the test b or not, and so is r at i
  pub standing_scope :
      {x : Option Located} {k : ℕ} (b : Bool) (l : Located) →
      0 < i →
      within r i i ≡ some l →
      Standing a j x k →
      Standing r i (or_else (lifted (o ∷ []) x) (cond b (some l) none)) (cond (eqb k 0) (cond b i 0) k)
  unfolding or_else lifted
  standing_scope true l p e nowhere = somewhere {k = i} (omega arith) e
  standing_scope false l p e nowhere = nowhere
  standing_scope b l p e (somewhere {l = m} {k = k} h q) =
      let far : k ≡ 0 → ⊥ = λ z. omega arith in
      rw (ne_eqb k 0 far) (somewhere {k = k} (omega arith) (lifts k m h q))

pub standing_none : {r : Run} {i : ℕ} {x : Option Located} {k : ℕ} → Standing r i x k → x ≡ none → k ≡ 0
standing_none nowhere e = refl
standing_none (somewhere h q) e = absurd (let z : ◌≡◌ {A = ℕ} 0 1 = cc in omega arith)

-- a scope is the nearest one, unless there is none
pub any_none : (fs : List Frame) (a : Run) → T (not (scoped fs)) → stopped any_scope fs a ≡ none
unfolding stopped scoped
any_none [] a t = refl
any_none (seq_frame q ∷ fs) a t = any_none fs (seq a q) t
any_none (left_frame b ∷ fs) a t = any_none fs (par a b) t
any_none (right_frame b ∷ fs) a t = any_none fs (par b a) t
any_none (scope_frame name mark zombie h ∷ fs) a t = absurd t
any_none (executor_frame o y client serial ∷ fs) a t = any_none fs (executor o y client serial a) t

pub any_some : (fs : List Frame) (a : Run) {r : Run} {i k : ℕ} → T (scoped fs) → Standing r i (stopped any_scope fs a) k → i ≤ k
unfolding stopped scoped
any_some [] a t s = absurd t
any_some (seq_frame q ∷ fs) a t s = any_some fs (seq a q) t s
any_some (left_frame b ∷ fs) a t s = any_some fs (par a b) t s
any_some (right_frame b ∷ fs) a t s = any_some fs (par b a) t s
any_some (scope_frame name mark zombie h ∷ fs) a t (somewhere h' e) = h'
any_some (executor_frame o y client serial ∷ fs) a t s = any_some fs (executor o y client serial a) t s
