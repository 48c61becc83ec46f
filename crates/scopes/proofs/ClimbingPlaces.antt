-- Where a process stands by the frames around it: what is located at a position, and what is located there from a part of the frames.
-- Assumes nothing.
use Prim.Native.Nat.{ℕ, zero, suc, ◌+◌, ◌-◌, ◌<◌}
use native.Mathlib.Omega.{arith}
use mathlib.Core.Path.{◌≡◌, refl, ap, ◌∙◌}
use mathlib.Core.Bool.{Bool, cond}
use mathlib.Core.Option.{Option, none, some}
use mathlib.Core.List.{List, [], ◌∷◌, ◌++◌}
use lib.Dec.{ltb, nltb→le}
use lib.ListN.{length}
use borrow.Author.Tests.{lt-ltb, le-ltb}
use Rattle.sock.specs.Variables.{variable_words}
use Rattle.sock.specs.Term.{Entries}
use Rattle.sock.specs.Layout.{entries_words}
use Rattle.sock.specs.Running.{Mark, Run, nil, seq, par, scope, executor, waiter, notice, act, size}
use Rattle.sock.specs.Frames.{Frame, seq_frame, left_frame, right_frame, scope_frame, executor_frame, Located, here_or, past, locate}
use Rattle.sock.proofs.Logic.{cond-case, All, all_none, all_some, all_some_lem, all_map}
use Rattle.sock.proofs.Measures.{size_seq, size_par, size_scope, size_executor}
use Rattle.sock.proofs.Located.{wrap, stands_before, located, size_positive}

-- the words of a frame before what it stands around, and of all
abbrev own : Frame → ℕ
own (seq_frame q) = 1
own (left_frame b) = 1
own (right_frame b) = 1 + size b
own (scope_frame name mark zombie h) = 3 + length (entries_words h)
own (executor_frame o y client serial) = 3 + length (variable_words y)

unfoldable pub offset : List Frame → ℕ
offset [] = 0
offset (o ∷ fs) = offset fs + own o

pub offset_append : (xs ys : List Frame) → offset (xs ++ ys) ≡ offset ys + offset xs
unfolding offset
offset_append [] ys = omega arith
offset_append (o ∷ xs) ys = omega (arith, offset_append xs ys)

pub offset_scope :
    (name : ℕ) (mark : Mark) (zombie : Bool) (h : Entries) (fs : List Frame) →
    offset (scope_frame name mark zombie h ∷ fs) ≡ offset fs + (3 + length (entries_words h))
unfolding offset
offset_scope name mark zombie h fs = refl

-- ---- the position, by the frames

abbrev Offset : ℕ → Located → Type 0
Offset p l = p ≡ offset l.frames

past_from :
    {P : Located → Type 0} (n p : ℕ) {find : ℕ → Option Located} → ((i : ℕ) → n + i ≡ p → All P (find i)) → All P (past n p find)
unfolding past
past_from {P} n p {find} h =
    cond-case (λ o. All P o) (ltb p n) (λ t. all_none) λ t. h (p - n) (omega (arith, nltb→le p n t))

here_offset :
    (p : ℕ) (r : Run) (fs : List Frame) {o : Option Located} → All (Offset (p + offset fs)) o →
    All (Offset (p + offset fs)) (here_or p (record { frames = fs; process = r }) o)
unfolding here_or
here_offset zero r fs a = all_some (let z : 0 + offset fs ≡ offset fs = omega arith in z)
here_offset (suc p) r fs a = a

-- in what a frame stands around
in_frame :
    (p i : ℕ) (fs : List Frame) (f : Frame) {o : Option Located} → i + own f ≡ p → All (Offset (i + offset (f ∷ fs))) o →
    All (Offset (p + offset fs)) o
unfolding offset
in_frame p i fs f e a = let z : i + (offset fs + own f) ≡ p + offset fs = omega arith in rw z at a

pub located_offset : (r : Run) (p : ℕ) (fs : List Frame) → All (Offset (p + offset fs)) (locate r p fs)
unfolding locate
located_offset nil p fs = here_offset p nil fs all_none
located_offset (seq a q) p fs =
    here_offset p (seq a q) fs (past_from 1 p λ i e. in_frame p i fs (seq_frame q) (omega arith) (located_offset a i (seq_frame q ∷ fs)))
located_offset (par a b) p fs =
    here_offset p (par a b) fs
    (past_from 1 p λ i e.
    cond-case (λ o. All (Offset (p + offset fs)) o) (ltb i (size a))
    (λ t. in_frame p i fs (left_frame b) (omega arith) (located_offset a i (left_frame b ∷ fs)))
    (λ t.
    in_frame p (i - size a) fs (right_frame a) (omega (arith, nltb→le i (size a) t)) (located_offset b (i - size a) (right_frame a ∷ fs))))
located_offset (scope name mark zombie h a) p fs =
    here_offset p (scope name mark zombie h a) fs
    (past_from (3 + length (entries_words h)) p λ i e.
    in_frame p i fs (scope_frame name mark zombie h) (omega arith) (located_offset a i (scope_frame name mark zombie h ∷ fs)))
located_offset (executor o y client serial a) p fs =
    here_offset p (executor o y client serial a) fs
    (past_from (3 + length (variable_words y)) p λ i e. in_frame p i fs (executor_frame o y client serial) (omega arith)
    (located_offset a i (executor_frame o y client serial ∷ fs)))
located_offset (waiter o x dead server serial l) p fs = here_offset p (waiter o x dead server serial l) fs all_none
located_offset (notice o f client serial) p fs = here_offset p (notice o f client serial) fs all_none
located_offset (act m) p fs = here_offset p (act m) fs all_none

-- ---- further into what is located

abbrev Deeper : (ℕ → Option Located) → ℕ → Located → Type 0
Deeper find p l = (q : ℕ) → q < size l.process → find (p + q) ≡ locate l.process q l.frames

later : (p : ℕ) (l : Located) (o : Option Located) → 0 < p → here_or p l o ≡ o
unfolding here_or
later zero l o h = absurd (omega arith)
later (suc p) l o h = refl

past_on : (n p i : ℕ) (find : ℕ → Option Located) → p ≡ n + i → past n p find ≡ find i
unfolding past
past_on n p i find e = let z : p - n ≡ i = omega arith in rw (le-ltb p n (omega arith), z)

module _ (r : Run) (fs : List Frame) where
  here_deeper : (p : ℕ) (o : Option Located) → locate r p fs ≡ here_or p (record { frames = fs; process = r }) o →
      (0 < p → All (Deeper (λ i. locate r i fs) p) o) → All (Deeper (λ i. locate r i fs) p) (locate r p fs)
  unfolding here_or
  here_deeper zero o e g =
      rw e (all_some {a = record { frames = fs; process = r }} (λ q h. let z : 0 + q ≡ q = omega arith in ap (λ i. locate r i fs) z))
  here_deeper (suc p) o e g = rw e (g (omega arith))

  part_deeper :
      (n : ℕ) (find : ℕ → Option Located) → 0 < n →
      ((p : ℕ) → locate r p fs ≡ here_or p (record { frames = fs; process = r }) (past n p find)) →
      ((i : ℕ) → All (Deeper find i) (find i)) → (p : ℕ) → All (Deeper (λ i. locate r i fs) p) (locate r p fs)
  part_deeper n find pos e g p =
      here_deeper p (past n p find) (e p) λ h.
      past_from n p λ i s.
      all_map (λ l k q b.
      e (p + q)
      ∙ (later (p + q) _ (past n (p + q) find) (omega arith)
      ∙ (past_on n (p + q) (i + q) find (omega arith)
      ∙ k q b))) (g i)

  leaf_deeper :
      (p : ℕ) → locate r p fs ≡ here_or p (record { frames = fs; process = r }) none → All (Deeper (λ i. locate r i fs) p) (locate r p fs)
  leaf_deeper p e = here_deeper p none e (λ h. all_none)

all_pair : {A : Type 0} {P Q : A → Type 0} {o : Option A} → All P o → All Q o → All (λ a. P a × Q a) o
all_pair all_none b = all_none
all_pair (all_some p) b = all_some (p, all_some_lem b refl)

-- the two sides of a par
module _ (a b : Run) (fs : List Frame) where
  unfoldable sides : ℕ → Option Located
  sides i = cond (ltb i (size a)) (locate a i (left_frame b ∷ fs)) (locate b (i - size a) (right_frame a ∷ fs))

  sides_deeper :
      (i : ℕ) → All (Deeper (λ j. locate a j (left_frame b ∷ fs)) i) (locate a i (left_frame b ∷ fs)) →
      All (Deeper (λ j. locate b j (right_frame a ∷ fs)) (i - size a)) (locate b (i - size a) (right_frame a ∷ fs)) →
      All (Deeper sides i) (sides i)
  unfolding sides size
  sides_deeper i x y =
      cond-case (λ o. All (Deeper sides i) o) (ltb i (size a))
      (λ t.
      all_map (λ l g q h. rw (lt-ltb (i + q) (size a) (omega (arith, stands_before g.1))) (g.0 q h))
      (all_pair x (located a i (left_frame b ∷ fs))))
      λ t.
      all_map (λ l g q h.
      let k = nltb→le i (size a) t in
      let z : i + q - size a ≡ i - size a + q = omega arith in
      rw (le-ltb (i + q) (size a) (omega arith), z) (g q h))
      y

pub deeper : (r : Run) (fs : List Frame) (p : ℕ) → All (Deeper (λ i. locate r i fs) p) (locate r p fs)
unfolding locate sides
deeper nil fs p = leaf_deeper nil fs p refl
deeper (seq a q) fs p =
    part_deeper (seq a q) fs 1 (λ i. locate a i (seq_frame q ∷ fs)) (omega arith) (λ i. refl) (λ i. deeper a (seq_frame q ∷ fs) i) p
deeper (par a b) fs p =
    part_deeper (par a b) fs 1 (sides a b fs) (omega arith) (λ i. refl)
    (λ i. sides_deeper a b fs i (deeper a (left_frame b ∷ fs) i) (deeper b (right_frame a ∷ fs) (i - size a))) p
deeper (scope name mark zombie h a) fs p =
    part_deeper (scope name mark zombie h a) fs (3 + length (entries_words h)) (λ i. locate a i (scope_frame name mark zombie h ∷ fs))
    (omega arith) (λ i. refl)
    (λ i. deeper a (scope_frame name mark zombie h ∷ fs) i) p
deeper (executor o y client serial a) fs p =
    part_deeper (executor o y client serial a) fs (3 + length (variable_words y)) (λ i. locate a i (executor_frame o y client serial ∷ fs))
    (omega arith) (λ i. refl)
    (λ i. deeper a (executor_frame o y client serial ∷ fs) i) p
deeper (waiter o x dead server serial l) fs p = leaf_deeper (waiter o x dead server serial l) fs p refl
deeper (notice o f client serial) fs p = leaf_deeper (notice o f client serial) fs p refl
deeper (act m) fs p = leaf_deeper (act m) fs p refl

-- ---- what stands in frames

locate_first : (r : Run) (fs : List Frame) → locate r 0 fs ≡ some (record { frames = fs; process = r })
unfolding locate here_or
locate_first nil fs = refl
locate_first (seq a q) fs = refl
locate_first (par a b) fs = refl
locate_first (scope name mark zombie h a) fs = refl
locate_first (executor o y client serial a) fs = refl
locate_first (waiter o x dead server serial l) fs = refl
locate_first (notice o f client serial) fs = refl
locate_first (act a) fs = refl

-- behind a frame's own words
locate_own :
    (n : ℕ) (l : Located) (find : ℕ → Option Located) (a : Run) (fs : List Frame) → 0 < n → find 0 ≡ locate a 0 fs →
    here_or n l (past n n find) ≡ some (record { frames = fs; process = a })
locate_own n l find a fs h e = later n l (past n n find) h ∙ (past_on n n 0 find (omega arith) ∙ (e ∙ locate_first a fs))

locate_right :
    (n : ℕ) (l : Located) (find : ℕ → Option Located) (b a : Run) (fs : List Frame) → n ≡ 1 + size b → find (size b) ≡ locate a 0 fs →
    here_or n l (past 1 n find) ≡ some (record { frames = fs; process = a })
locate_right n l find b a fs h e =
    later n l (past 1 n find) (omega arith) ∙ (past_on 1 n (size b) find (omega arith) ∙ (e ∙ locate_first a fs))

module _ (fs : List Frame) (o : Frame) (a b : Run) (wraps : wrap (o ∷ fs) a ≡ wrap fs b) (inside : own o < size b)
    (there : locate b (own o) fs ≡ some (record { frames = o ∷ fs; process = a })) where
  one_in : locate (wrap fs b) (offset fs) [] ≡ some (record { frames = fs; process = b }) →
      locate (wrap (o ∷ fs) a) (offset (o ∷ fs)) [] ≡ some (record { frames = o ∷ fs; process = a })
  unfolding offset
  one_in e = ap (λ r. locate r (offset fs + own o) []) wraps ∙ (all_some_lem (deeper (wrap fs b) [] (offset fs)) e (own o) inside ∙ there)

pub locate_offset : (fs : List Frame) (a : Run) → locate (wrap fs a) (offset fs) [] ≡ some (record { frames = fs; process = a })
unfolding wrap offset locate
locate_offset [] a = locate_first a []
locate_offset (seq_frame q ∷ fs) a =
    one_in fs (seq_frame q) a (seq a q) refl (omega (arith, size_seq a q, size_positive a))
    (locate_own 1 _ (λ i. locate a i (seq_frame q ∷ fs)) a (seq_frame q ∷ fs) (omega arith) refl) (locate_offset fs (seq a q))
locate_offset (left_frame b ∷ fs) a =
    one_in fs (left_frame b) a (par a b) refl (omega (arith, size_par a b, size_positive a))
    (locate_own 1 _ (λ i. cond (ltb i (size a)) (locate a i (left_frame b ∷ fs)) (locate b (i - size a) (right_frame a ∷ fs))) a
    (left_frame b ∷ fs) (omega arith)
    (rw (lt-ltb 0 (size a) (size_positive a)) refl))
    (locate_offset fs (par a b))
locate_offset (right_frame b ∷ fs) a =
    let none : size b - size b ≡ 0 = omega arith in
    one_in fs (right_frame b) a (par b a) refl (omega (arith, size_par b a, size_positive a))
    (locate_right (1 + size b) _ (λ i. cond (ltb i (size b)) (locate b i (left_frame a ∷ fs))
    (locate a (i - size b) (right_frame b ∷ fs))) b a (right_frame b ∷ fs) refl
    (rw (le-ltb (size b) (size b) (omega arith), none) refl))
    (locate_offset fs (par b a))
locate_offset (scope_frame name mark zombie h ∷ fs) a =
    one_in fs (scope_frame name mark zombie h) a (scope name mark zombie h a) refl
    (omega (arith, size_scope name mark zombie h a, size_positive a))
    (locate_own (3 + length (entries_words h)) _ (λ i. locate a i (scope_frame name mark zombie h ∷ fs)) a
    (scope_frame name mark zombie h ∷ fs) (omega arith) refl)
    (locate_offset fs (scope name mark zombie h a))
locate_offset (executor_frame o y client serial ∷ fs) a =
    one_in fs (executor_frame o y client serial) a (executor o y client serial a) refl
    (omega (arith, size_executor o y client serial a, size_positive a))
    (locate_own (3 + length (variable_words y)) _ (λ i. locate a i (executor_frame o y client serial ∷ fs)) a
    (executor_frame o y client serial ∷ fs) (omega arith) refl)
    (locate_offset fs (executor o y client serial a))

-- the position of what is located
pub offset_found : (r : Run) (p : ℕ) (l : Located) → locate r p [] ≡ some l → p ≡ offset l.frames
unfolding offset
offset_found r p l e = let z : p ≡ p + 0 = omega arith in z ∙ all_some_lem (located_offset r p []) e
