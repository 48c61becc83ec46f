-- Killing around a position: a scope around it turns zombie with mark 0, any other with mark 2. Of what does not hold the position this is
-- killing; from a throw at the position it is the climb.
-- Assumes nothing.
use Prim.Native.Nat.{ℕ, ◌+◌, ◌-◌, ◌<◌}
use native.Mathlib.Omega.{arith}
use mathlib.Core.Path.{◌≡◌, refl, sym, ◌∙◌}
use mathlib.Core.Bool.{Bool, true, false, not, ◌&&◌, cond}
use mathlib.Core.Option.{Option, none, some}
use mathlib.Core.List.{List, [], ◌∷◌}
use lib.Dec.{T, leb, ltb, eqb, nleb→lt, ltb→lt, nltb→le}
use lib.ListN.{length}
use borrow.Author.Tests.{lt-leb}
use Rattle.sock.specs.Kind
use Rattle.sock.specs.Words.{fault_key}
use Rattle.sock.specs.Variables.{variable_words}
use Rattle.sock.specs.Term.{Node, Entries, kind}
use Rattle.sock.specs.Layout.{entries_words}
use Rattle.sock.specs.Reading.{holds}
use Rattle.sock.specs.Running.{Mark, unmarked, own_name, Run, nil, seq, par, scope, executor, waiter, notice, act, size}
use Rattle.sock.specs.Configuration.{guarded}
use Rattle.sock.specs.Frames.{Frame, seq_frame, left_frame, right_frame, scope_frame, executor_frame, Located, past, locate, is_done, par_of}
use Rattle.sock.specs.Rules.{also, kill, climb}
use Rattle.sock.proofs.Logic.{and_left, and_right, cond-case, test_false, test_true, All, all_none, all_some, all_map, all_some_lem}
use Rattle.sock.proofs.Frames.{all_here}
use Rattle.sock.proofs.Measures.{size_seq, size_par, size_scope, size_executor}
use Rattle.sock.proofs.Located.{located, stands_before, size_positive}

-- the mark of a scope that stands at at..end
unfoldable pub mark_around : ℕ → ℕ → ℕ → Mark
mark_around hole at end = cond (leb hole at) own_name (cond (leb end hole) own_name unmarked)

-- with f, around the hole; the process stands at a position
unfoldable pub killed : ℕ → ℕ → Run → ℕ → Option Run
killed f hole nil at = some nil
killed f hole (seq a q) at = killed f hole a (at + 1)
killed f hole (par a b) at = also (killed f hole a (at + 1)) λ a'. also (killed f hole b (at + 1 + size a)) λ b'. some (par_of a' b')
killed f hole (scope name mark true h a) at = also (killed f hole a (at + 3 + length (entries_words h))) λ a'. some (scope name mark true h a)
killed f hole (scope name mark false h a) at =
    guarded (not (is_done a))
    (also (killed f hole a (at + 3 + length (entries_words h))) λ a'.
    some (scope name (mark_around hole at (at + 3 + length (entries_words h) + size a)) true h a'))
killed f hole (executor o y client serial a) at = also (killed f hole a (at + 3 + length (variable_words y))) λ a'. some (par_of a' (notice o f client serial))
killed f hole (waiter o x dead server serial l) at = some (waiter o x true server serial l)
killed f hole (notice o g client serial) at = some (notice o g client serial)
killed f hole (act m) at = guarded (not (eqb (kind m) Kind.inst)) (some nil)

-- ---- of what does not hold the position

mark_beside : (hole at end : ℕ) → (at < hole → hole < end → ⊥) → mark_around hole at end ≡ own_name
unfolding mark_around
mark_beside hole at end h =
    cond-case (λ m. m ≡ own_name) (leb hole at) (λ t. refl) λ t.
    cond-case (λ m. m ≡ own_name) (leb end hole) (λ u. refl) λ u. absurd (h (nleb→lt hole at t) (nleb→lt end hole u))

pub killed_beside : (f hole : ℕ) (r : Run) (at : ℕ) → (at < hole → hole < at + size r → ⊥) → killed f hole r at ≡ kill f r
unfolding killed kill
killed_beside f hole nil at h = refl
killed_beside f hole (seq a q) at h = let s = size_seq a q in killed_beside f hole a (at + 1) (λ x y. h (omega arith) (omega arith))
killed_beside f hole (par a b) at h =
    let s = size_par a b in
    rw (
      killed_beside f hole a (at + 1) (λ x y. h (omega arith) (omega arith)),
      killed_beside f hole b (at + 1 + size a) (λ x y. h (omega arith) (omega arith)),
    )
killed_beside f hole (scope name mark true g a) at h =
    let s = size_scope name mark true g a in
    rw (killed_beside f hole a (at + 3 + length (entries_words g)) (λ x y. h (omega arith) (omega arith)))
killed_beside f hole (scope name mark false g a) at h =
    let s = size_scope name mark false g a in
    rw (
      killed_beside f hole a (at + 3 + length (entries_words g)) (λ x y. h (omega arith) (omega arith)),
      mark_beside hole at (at + 3 + length (entries_words g) + size a) (λ x y. h (omega arith) (omega arith)),
    )
killed_beside f hole (executor o y client serial a) at h =
    let s = size_executor o y client serial a in
    rw (killed_beside f hole a (at + 3 + length (variable_words y)) (λ x y. h (omega arith) (omega arith)))
killed_beside f hole (waiter o x dead server serial l) at h = refl
killed_beside f hole (notice o g client serial) at h = refl
killed_beside f hole (act m) at h = refl

-- ---- from a throw at the position

-- a process that throws
abbrev pub Throws : Run → Type 0
Throws nil = ⊥
Throws (seq a q) = ⊥
Throws (par a b) = ⊥
Throws (scope name mark zombie h a) = ⊥
Throws (executor o y client serial a) = ⊥
Throws (waiter o x dead server serial l) = ⊥
Throws (notice o g client serial) = ⊥
Throws (act m) = kind m ≡ Kind.throw

-- no scope among the frames stops the fault: none is a zombie or holds it
unfoldable pub free : ℕ → List Frame → Bool
free f [] = true
free f (seq_frame q ∷ fs) = free f fs
free f (left_frame b ∷ fs) = free f fs
free f (right_frame b ∷ fs) = free f fs
free f (scope_frame name mark zombie h ∷ fs) = not zombie && not (holds (fault_key f) h) && free f fs
free f (executor_frame o y client serial ∷ fs) = free f fs

-- ---- what is located

all_each : {A : Type 0} {P : A → Type 0} (o : Option A) → ((a : A) → P a) → All P o
all_each none h = all_none
all_each (some a) h = all_some (h a)

all_pair : {A : Type 0} {P Q : A → Type 0} {o : Option A} → All P o → All Q o → All (λ a. P a × Q a) o
all_pair all_none b = all_none
all_pair (all_some p) b = all_some (p, all_some_lem b refl)

pub past_from :
    {P : Located → Type 0} (own p : ℕ) {find : ℕ → Option Located} → ((i : ℕ) → own + i ≡ p → All P (find i)) → All P (past own p find)
unfolding past
past_from {P} own p {find} h =
    cond-case (λ o. All P o) (ltb p own) (λ t. all_none) λ t. h (p - own) (let b = nltb→le p own t in omega arith)

-- frames further in
module _ (f : ℕ) where
  abbrev Freer : List Frame → Located → Type 0
  Freer fs l = T (free f l.frames) → T (free f fs)

  inner_free : (r : Run) (p : ℕ) (fs : List Frame) → All (Freer fs) (locate r p fs)
  unfolding locate free
  inner_free nil p fs = all_here p _ (λ t. t) all_none
  inner_free (seq a q) p fs = all_here p _ (λ t. t) (past_from 1 p λ i e. inner_free a i (seq_frame q ∷ fs))
  inner_free (par a b) p fs =
      all_here p _ (λ t. t)
      (past_from 1 p λ i e. cond-case (λ o. All (Freer fs) o) (ltb i (size a))
      (λ u. inner_free a i (left_frame b ∷ fs))
      (λ u. inner_free b (i - size a) (right_frame a ∷ fs)))
  inner_free (scope name mark zombie h a) p fs =
      all_here p _ (λ t. t)
      (past_from (3 + length (entries_words h)) p λ i e.
      all_map (λ l g t. and_right (not zombie && not (holds (fault_key f) h)) (free f fs) (g t)) (inner_free a i (scope_frame name mark zombie h ∷ fs)))
  inner_free (executor o y client serial a) p fs = all_here p _ (λ t. t)
      (past_from (3 + length (variable_words y)) p λ i e. inner_free a i (executor_frame o y client serial ∷ fs))
  inner_free (waiter o x dead server serial l) p fs = all_here p _ (λ t. t) all_none
  inner_free (notice o g client serial) p fs = all_here p _ (λ t. t) all_none
  inner_free (act m) p fs = all_here p _ (λ t. t) all_none

-- what holds a throw is not nil
throw_inside : (a : Run) (i : ℕ) (fs : List Frame) → All (λ l. Throws l.process → T (not (is_done a))) (locate a i fs)
unfolding locate is_done
throw_inside nil i fs = all_here i _ (λ t. absurd t) all_none
throw_inside (seq a q) i fs = all_each (locate (seq a q) i fs) λ l t. tt
throw_inside (par a b) i fs = all_each (locate (par a b) i fs) λ l t. tt
throw_inside (scope name mark zombie h a) i fs = all_each (locate (scope name mark zombie h a) i fs) λ l t. tt
throw_inside (executor o y client serial a) i fs = all_each (locate (executor o y client serial a) i fs) λ l t. tt
throw_inside (waiter o x dead server serial l) i fs = all_each (locate (waiter o x dead server serial l) i fs) λ l t. tt
throw_inside (notice o g client serial) i fs = all_each (locate (notice o g client serial) i fs) λ l t. tt
throw_inside (act m) i fs = all_each (locate (act m) i fs) λ l t. tt

-- ---- the climb

-- one after the other
also_left :
    (a b : Option Run) (k : Run → Option Run) →
    also (also a λ a'. also b λ b'. some (par_of a' b')) k ≡ also a λ a'. also b λ b'. k (par_of a' b')
unfolding also
also_left none b k = refl
also_left (some a) none k = refl
also_left (some a) (some b) k = refl

also_right :
    (a b : Option Run) (k : Run → Option Run) →
    also (also a λ a'. also b λ b'. some (par_of a' b')) k ≡ also b λ b'. also a λ a'. k (par_of a' b')
unfolding also
also_right none none k = refl
also_right none (some b) k = refl
also_right (some a) none k = refl
also_right (some a) (some b) k = refl

also_made : (a : Option Run) (g : Run → Run) (k : Run → Option Run) → also (also a λ a'. some (g a')) k ≡ also a λ a'. k (g a')
unfolding also
also_made none g k = refl
also_made (some a) g k = refl

mark_around_lem : (hole at end : ℕ) → at < hole → hole < end → mark_around hole at end ≡ unmarked
unfolding mark_around
mark_around_lem hole at end a b = rw (lt-leb hole at a, lt-leb end hole b)

also_same : (a : Option Run) {k l : Run → Option Run} → ((r : Run) → k r ≡ l r) → also a k ≡ also a l
unfolding also
also_same none e = refl
also_same (some a) e = e a

module _ (f hole : ℕ) where
  act_climbs : (m : Node) → kind m ≡ Kind.throw → (fs : List Frame) → also (guarded (not (eqb (kind m) Kind.inst)) (some nil)) (climb f fs) ≡ climb f fs nil
  unfolding also guarded
  act_climbs m e fs = rw e

  scope_climbs :
      (name : ℕ) (mark : Mark) (h : Entries) (fs : List Frame) (a : Run) → holds (fault_key f) h ≡ false →
      climb f fs (scope name unmarked true h a) ≡ climb f (scope_frame name mark false h ∷ fs) a
  unfolding climb
  scope_climbs name mark h fs a e = rw e

  abbrev Climbs : Run → ℕ → List Frame → Located → Type 0
  Climbs r at fs l = Throws l.process → T (free f l.frames) → also (killed f hole r at) (climb f fs) ≡ climb f l.frames nil

  climbs : (r : Run) (p at : ℕ) → hole ≡ at + p → (fs : List Frame) → All (Climbs r at fs) (locate r p fs)
  unfolding locate killed climb free guarded size
  climbs nil p at e fs = all_here p _ (λ t. absurd t) all_none
  climbs (seq a q) p at e fs = all_here p _ (λ t. absurd t) (past_from 1 p λ i s. climbs a i (at + 1) (omega arith) (seq_frame q ∷ fs))
  climbs (par a b) p at e fs =
      all_here p _ (λ t. absurd t)
      (past_from 1 p λ i s. cond-case (λ o. All (Climbs (par a b) at fs) o) (ltb i (size a))
      (λ u.
      let k = ltb→lt i (size a) u in
      let beside = killed_beside f hole b (at + 1 + size a) (λ x y. omega arith) in
      all_map (λ l g t v. rw beside (also_left (killed f hole a (at + 1)) (kill f b) (climb f fs) ∙ g t v)) (climbs a i (at + 1) (omega arith) (left_frame b ∷ fs)))
      λ u.
      let k = nltb→le i (size a) u in
      let beside = killed_beside f hole a (at + 1) (λ x y. omega arith) in
      all_map (λ l g t v. rw beside (also_right (kill f a) (killed f hole b (at + 1 + size a)) (climb f fs) ∙ g t v))
      (climbs b (i - size a) (at + 1 + size a) (omega arith) (right_frame a ∷ fs)))
  climbs (executor o y client serial a) p at e fs =
      all_here p _ (λ t. absurd t)
      (past_from (3 + length (variable_words y)) p λ i s.
      all_map (λ l g t v. also_made (killed f hole a (at + 3 + length (variable_words y))) (λ a'. par_of a' (notice o f client serial)) (climb f fs) ∙ g t v)
      (climbs a i (at + 3 + length (variable_words y)) (omega arith) (executor_frame o y client serial ∷ fs)))
  climbs (waiter o x dead server serial l) p at e fs = all_here p _ (λ t. absurd t) all_none
  climbs (notice o g client serial) p at e fs = all_here p _ (λ t. absurd t) all_none
  climbs (act m) p at e fs = all_here p _ (λ t u. act_climbs m t fs) all_none
  climbs (scope name mark true h a) p at e fs =
      all_here p _ (λ t. absurd t) (past_from (3 + length (entries_words h)) p λ i s. all_map (λ l g t v. absurd (g v)) (inner_free f a i (scope_frame name mark true h ∷ fs)))
  climbs (scope name mark false h a) p at e fs =
      all_here p _ (λ t. absurd t)
      (past_from (3 + length (entries_words h)) p λ i s.
      let inner : List Frame = scope_frame name mark false h ∷ fs in
      all_map (λ l g t v.
      let i : i < size a = omega (arith, size_positive l.process, stands_before g.1.1) in
      let live : not (is_done a) ≡ true = test_true (not (is_done a)) (g.1.0 t) in
      let lacks : holds (fault_key f) h ≡ false = test_false (holds (fault_key f) h) (and_left (not (holds (fault_key f) h)) (free f fs) (g.0.1 v)) in
      rw (live, mark_around_lem hole at (at + 3 + length (entries_words h) + size a) (omega arith) (omega arith))
      (also_made (killed f hole a (at + 3 + length (entries_words h))) (scope name unmarked true h) (climb f fs)
      ∙ also_same (killed f hole a (at + 3 + length (entries_words h))) (λ a'. scope_climbs name mark h fs a' lacks)
      ∙ g.0.0 t v))
      (all_pair (all_pair (climbs a i (at + 3 + length (entries_words h)) (omega arith) inner) (inner_free f a i inner)) (all_pair (throw_inside a i inner) (located a i inner))))

also_whole : (f : ℕ) (a : Option Run) → also a (climb f []) ≡ a
unfolding also climb
also_whole f none = refl
also_whole f (some a) = refl

pub killed_climb :
    (f : ℕ) (r : Run) (p at : ℕ) (l : Located) → locate r p [] ≡ some l → Throws l.process → T (free f l.frames) →
    killed f (at + p) r at ≡ climb f l.frames nil
killed_climb f r p at l e t u = sym (also_whole f (killed f (at + p) r at)) ∙ all_some_lem (climbs f (at + p) r p at refl []) e t u
