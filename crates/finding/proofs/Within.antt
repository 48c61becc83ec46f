-- What is located at a position of the words in which a process begins at another: by the process's parts, as the search goes.
-- Assumes nothing.
use Prim.Native.Nat.{ℕ, zero, suc, ◌+◌, ◌-◌, ◌≤◌, ◌<◌}
use native.Mathlib.Omega.{arith}
use mathlib.Core.Path.{◌≡◌, refl, sym, ap, ◌∙◌}
use mathlib.Core.Bool.{Bool, true, false, cond}
use mathlib.Core.Option.{Option, none, some}
use mathlib.Core.List.{List, [], ◌∷◌, ◌++◌}
use borrow.Author.Tests.{lt-ltb, le-ltb, le-leb, lt-leb, leb-true, leb-false, ltb-true, ltb-false}
use lib.Dec.{leb, ltb}
use lib.ListN.{length}
use Rattle.sock.specs.Term.{Node, Entries}
use Rattle.sock.specs.Layout.{entries_words}
use Rattle.sock.specs.Variables.{variable_words}
use Rattle.sock.specs.Running.{Mark, Run, nil, seq, par, scope, executor, waiter, notice, act, size}
use Rattle.sock.specs.Frames.{Frame, seq_frame, left_frame, right_frame, scope_frame, executor_frame, Located, here_or, past, locate}
use Rattle.sock.proofs.Located.{located_before, size_positive}

-- more frames around what is located
abbrev pub behind : List Frame → Located → Located
behind gs l = record { frames = l.frames ++ gs; process = l.process }

unfoldable pub lifted : List Frame → Option Located → Option Located
lifted gs none = none
lifted gs (some l) = some (behind gs l)

unfoldable pub or_else : Option Located → Option Located → Option Located
or_else none o = o
or_else (some l) o = some l

lifted_here : (gs : List Frame) (p : ℕ) (l : Located) (o : Option Located) → lifted gs (here_or p l o) ≡ here_or p (behind gs l) (lifted gs o)
unfolding here_or lifted
lifted_here gs zero l o = refl
lifted_here gs (suc p) l o = refl

lifted_cond : (gs : List Frame) (b : Bool) (x y : Option Located) → lifted gs (cond b x y) ≡ cond b (lifted gs x) (lifted gs y)
lifted_cond gs true x y = refl
lifted_cond gs false x y = refl

cond_same : (b : Bool) {x y x' y' : Option Located} → x ≡ x' → y ≡ y' → cond b x y ≡ cond b x' y'
cond_same true p q = p
cond_same false p q = q

here_same : (p : ℕ) (l : Located) {x y : Option Located} → x ≡ y → here_or p l x ≡ here_or p l y
here_same p l e = ap (here_or p l) e

past_same :
    (gs : List Frame) (own p : ℕ) {find : ℕ → Option Located} (find' : ℕ → Option Located) →
    ((i : ℕ) → find i ≡ lifted gs (find' i)) →
    past own p find ≡ lifted gs (past own p find')
unfolding past lifted
past_same gs own p find' e = cond_same (ltb p own) refl (e (p - own)) ∙ sym (lifted_cond gs (ltb p own) none (find' (p - own)))

module _ (gs : List Frame) where
  step : (p : ℕ) (l : Located) {x : Option Located} (y : Option Located) → x ≡ lifted gs y → here_or p (behind gs l) x ≡ lifted gs (here_or p l y)
  step p l y e = here_same p (behind gs l) e ∙ sym (lifted_here gs p l y)

  -- past a process's own words
  into :
      (own p : ℕ) (l : Located) {find : ℕ → Option Located} (find' : ℕ → Option Located) →
      ((i : ℕ) → find i ≡ lifted gs (find' i)) →
      here_or p (behind gs l) (past own p find) ≡ lifted gs (here_or p l (past own p find'))
  into own p l find' e = step p l (past own p find') (past_same gs own p find' e)

  leaf : (p : ℕ) (l : Located) → here_or p (behind gs l) none ≡ lifted gs (here_or p l none)
  unfolding lifted
  leaf p l = step p l none refl

  locate_behind : (r : Run) (p : ℕ) (fs : List Frame) → locate r p (fs ++ gs) ≡ lifted gs (locate r p fs)
  unfolding locate
  locate_behind nil p fs = leaf p _
  locate_behind (seq a q) p fs = into 1 p _ (λ i. locate a i (seq_frame q ∷ fs)) λ i. locate_behind a i (seq_frame q ∷ fs)
  locate_behind (par a b) p fs =
      into 1 p _ (λ i. cond (ltb i (size a)) (locate a i (left_frame b ∷ fs)) (locate b (i - size a) (right_frame a ∷ fs))) λ i.
      cond_same (ltb i (size a)) (locate_behind a i (left_frame b ∷ fs)) (locate_behind b (i - size a) (right_frame a ∷ fs))
      ∙ sym (lifted_cond gs (ltb i (size a)) (locate a i (left_frame b ∷ fs)) (locate b (i - size a) (right_frame a ∷ fs)))
  locate_behind (scope name mark zombie h a) p fs =
      into (3 + length (entries_words h)) p _ (λ i. locate a i (scope_frame name mark zombie h ∷ fs)) λ i.
      locate_behind a i (scope_frame name mark zombie h ∷ fs)
  locate_behind (executor o y client serial a) p fs =
      into (3 + length (variable_words y)) p _ (λ i. locate a i (executor_frame o y client serial ∷ fs)) λ i.
      locate_behind a i (executor_frame o y client serial ∷ fs)
  locate_behind (waiter o x dead server serial l) p fs = leaf p _
  locate_behind (notice o f client serial) p fs = leaf p _
  locate_behind (act a) p fs = leaf p _

-- ---- by positions

-- what is located at k, in a process that begins at i
unfoldable pub within : Run → ℕ → ℕ → Option Located
within r i k = cond (leb i k) (locate r (k - i) []) none

pub within_locate : (r : Run) (i k : ℕ) → i ≤ k → within r i k ≡ locate r (k - i) []
unfolding within
within_locate r i k h = rw (le-leb i k h)

locate_zero : (r : Run) (fs : List Frame) → locate r 0 fs ≡ some (record { frames = fs; process = r })
unfolding locate here_or
locate_zero nil fs = refl
locate_zero (seq a q) fs = refl
locate_zero (par a b) fs = refl
locate_zero (scope name mark zombie h a) fs = refl
locate_zero (executor o y client serial a) fs = refl
locate_zero (waiter o x dead server serial l) fs = refl
locate_zero (notice o f client serial) fs = refl
locate_zero (act a) fs = refl

minus_self : (i : ℕ) → i - i ≡ 0
minus_self i = omega arith

pub within_here : (r : Run) (i : ℕ) → within r i i ≡ some (record { frames = []; process = r })
within_here r i = within_locate r i i (omega arith) ∙ (rw (minus_self i) (locate_zero r []))

-- nothing before it, and nothing past its words
pub within_before : (r : Run) (i k : ℕ) → k < i → within r i k ≡ none
unfolding within
within_before r i k h = rw (lt-leb i k h)

some_none : (o : Option Located) → ((l : Located) → o ≡ some l → ⊥) → o ≡ none
some_none none f = refl
some_none (some l) f = absurd (f l refl)

pub within_past : (r : Run) (i k : ℕ) → i + size r ≤ k → within r i k ≡ none
within_past r i k h =
    within_locate r i k (omega arith)
    ∙ some_none (locate r (k - i) []) λ l e.
    omega (arith, located_before r (k - i) [] l e, size_positive l.process)

later : (p : ℕ) (l : Located) (o : Option Located) → (p ≡ 0 → ⊥) → here_or p l o ≡ o
unfolding here_or
later zero l o h = absurd (h refl)
later (suc p) l o h = refl

minus_sum : (k i own : ℕ) → k - i - own ≡ k - (i + own)
minus_sum k i own = omega arith

-- past a head at i: what follows `own` words of it
own_words :
    (own i k : ℕ) (l : Located) (find : ℕ → Option Located) →
    0 < own →
    (i ≡ k → ⊥) →
    cond (leb i k) (here_or (k - i) l (past own (k - i) find)) none ≡ cond (leb (i + own) k) (find (k - (i + own))) none
unfolding past
own_words own i k l find h ne = by (leb i k) (leb (i + own) k) refl refl
  where
    by :
        (b c : Bool) →
        leb i k ≡ b →
        leb (i + own) k ≡ c →
        cond b (here_or (k - i) l (cond (ltb (k - i) own) none (find (k - i - own)))) none ≡ cond c (find (k - (i + own))) none
    by true true p q =
        let le : i + own ≤ k = leb-true (i + own) k q in
        later (k - i) l _ (λ z. omega arith) ∙ rw (le-ltb (k - i) own (omega arith), minus_sum k i own)
    by true false p q =
        let le : i ≤ k = leb-true i k p in
        let lt : k < i + own = leb-false (i + own) k q in
        later (k - i) l _ (λ z. ne (omega arith)) ∙ rw (lt-ltb (k - i) own (omega arith))
    by false true p q = absurd (omega (arith, leb-false i k p, leb-true (i + own) k q))
    by false false p q = refl

lifted_within : (o : Frame) (a : Run) (i k : ℕ) → cond (leb i k) (locate a (k - i) (o ∷ [])) none ≡ lifted (o ∷ []) (within a i k)
unfolding within lifted
lifted_within o a i k =
    cond_same (leb i k) (locate_behind (o ∷ []) a (k - i) []) refl ∙ sym (lifted_cond (o ∷ []) (leb i k) (locate a (k - i) []) none)

or_none : (o : Option Located) → or_else o none ≡ o
unfolding or_else
or_none none = refl
or_none (some l) = refl

-- at i a left side, then a right one
sides :
    (a b : Run) (i k : ℕ) →
    cond (leb i k) (cond (ltb (k - i) (size a)) (locate a (k - i) (left_frame b ∷ [])) (locate b (k - i - size a) (right_frame a ∷ []))) none
    ≡ or_else (lifted (left_frame b ∷ []) (within a i k)) (lifted (right_frame a ∷ []) (within b (i + size a) k))
unfolding or_else lifted
sides a b i k = by (leb i k) (ltb (k - i) (size a)) refl refl
  where
    by :
        (c d : Bool) →
        leb i k ≡ c →
        ltb (k - i) (size a) ≡ d →
        cond c (cond d (locate a (k - i) (left_frame b ∷ [])) (locate b (k - i - size a) (right_frame a ∷ []))) none
        ≡ or_else (lifted (left_frame b ∷ []) (within a i k)) (lifted (right_frame a ∷ []) (within b (i + size a) k))
    by true true p q =
        let le : i ≤ k = leb-true i k p in
        let lt : k - i < size a = ltb-true (k - i) (size a) q in
        rw (within_before b (i + size a) k (omega arith), within_locate a i k le, ← locate_behind (left_frame b ∷ []) a (k - i) [])
        (sym (or_none (locate a (k - i) (left_frame b ∷ []))))
    by true false p q =
        let le : i ≤ k = leb-true i k p in
        let ge : size a ≤ k - i = ltb-false (k - i) (size a) q in
        rw (within_past a i k (omega arith), within_locate b (i + size a) k (omega arith), ← minus_sum k i (size a))
        (locate_behind (right_frame a ∷ []) b (k - i - size a) [])
    by false d p q =
        let lt : k < i = leb-false i k p in
        rw (within_before a i k lt, within_before b (i + size a) k (omega arith))

module _ (i k : ℕ) (ne : i ≡ k → ⊥) where
  pub within_seq : (a : Run) (q : Node) → within (seq a q) i k ≡ lifted (seq_frame q ∷ []) (within a (i + 1) k)
  unfolding within locate
  within_seq a q = own_words 1 i k _ (λ p. locate a p (seq_frame q ∷ [])) (omega arith) ne ∙ lifted_within (seq_frame q) a (i + 1) k

  pub within_scope :
      (name : ℕ) (mark : Mark) (zombie : Bool) (h : Entries) (a : Run) →
      within (scope name mark zombie h a) i k ≡ lifted (scope_frame name mark zombie h ∷ []) (within a (i + (3 + length (entries_words h))) k)
  unfolding within locate
  within_scope name mark zombie h a =
      own_words (3 + length (entries_words h)) i k _ (λ p. locate a p (scope_frame name mark zombie h ∷ [])) (omega arith) ne
      ∙ lifted_within (scope_frame name mark zombie h) a (i + (3 + length (entries_words h))) k

  pub within_executor :
      (o : ℕ) (y : List ℕ) (client serial : ℕ) (a : Run) →
      within (executor o y client serial a) i k ≡ lifted (executor_frame o y client serial ∷ []) (within a (i + (3 + length (variable_words y))) k)
  unfolding within locate
  within_executor o y client serial a =
      own_words (3 + length (variable_words y)) i k _ (λ p. locate a p (executor_frame o y client serial ∷ [])) (omega arith) ne
      ∙ lifted_within (executor_frame o y client serial) a (i + (3 + length (variable_words y))) k

  leaf_none : (l : Located) → cond (leb i k) (here_or (k - i) l none) none ≡ none
  leaf_none l = by (leb i k) refl
    where
      by : (b : Bool) → leb i k ≡ b → cond b (here_or (k - i) l none) none ≡ none
      by true p = later (k - i) l none (λ z. ne (omega (arith, leb-true i k p)))
      by false p = refl

  pub within_nil : within nil i k ≡ none
  unfolding within locate
  within_nil = leaf_none _

  pub within_waiter : (o : ℕ) (x : List ℕ) (dead : Bool) (server serial : ℕ) (l : Entries) → within (waiter o x dead server serial l) i k ≡ none
  unfolding within locate
  within_waiter o x dead server serial l = leaf_none _

  pub within_notice : (o f client serial : ℕ) → within (notice o f client serial) i k ≡ none
  unfolding within locate
  within_notice o f client serial = leaf_none _

  pub within_act : (m : Node) → within (act m) i k ≡ none
  unfolding within locate
  within_act m = leaf_none _

  pub within_par :
      (a b : Run) →
      within (par a b) i k
      ≡ or_else (lifted (left_frame b ∷ []) (within a (i + 1) k)) (lifted (right_frame a ∷ []) (within b (i + 1 + size a) k))
  unfolding within locate
  within_par a b = own_words 1 i k _ (λ p. cond (ltb p (size a)) (locate a p (left_frame b ∷ [])) (locate b (p - size a) (right_frame a ∷ []))) (omega arith) ne ∙ sides a b (i + 1) k
