-- The climb of a fault up to the scope that stops it: that scope among the frames, and what the climb makes of the frames inside it.
-- Assumes nothing.
use Prim.Native.Nat.{ℕ}
use mathlib.Core.Path.{◌≡◌, refl, sym, ap, ◌∙◌}
use mathlib.Core.Bool.{Bool, true, false, not, ◌&&◌, ◌||◌, cond}
use mathlib.Core.Option.{Option, none, some}
use mathlib.Core.List.{List, [], ◌∷◌, ◌++◌}
use lib.Dec.{T}
use Rattle.sock.specs.Term.{Entries}
use Rattle.sock.specs.Reading.{holds}
use Rattle.sock.specs.Running.{Mark, unmarked, faulted, Run, seq, par, scope, executor, notice}
use Rattle.sock.specs.Frames.{Frame, seq_frame, left_frame, right_frame, scope_frame, executor_frame, Located, par_of, plug}
use Rattle.sock.specs.Rules.{also, kill, climb}
use Rattle.sock.proofs.Logic.{and_left, and_right, and_both, test_false}
use Rattle.sock.proofs.Located.{wrap}
use Rattle.finding.proofs.Stops.{stopped, catches}
use Rattle.sock.proofs.Around.{free}
use Rattle.rules.proofs.Rewrites.{both_ways}

-- the scope among the frames that stops the fault f, around a: the frames inside it let f pass
pub record Stopped (f : ℕ) (fs : List Frame) (a : Run) (l : Located) : Type 0 where
  pub inner : List Frame
  pub name : ℕ
  pub mark : Mark
  pub zombie : Bool
  pub list : Entries
  pub frames : fs ≡ inner ++ scope_frame name mark zombie list ∷ l.frames
  pub process : l.process ≡ scope name mark zombie list (wrap inner a)
  pub passes : T (free f inner)
  pub stops : T (catches f zombie list)

pub data Sought (f : ℕ) (fs : List Frame) (a : Run) : Option Located → Type 0 where
  unstopped : T (free f fs) → Sought f fs a none
  stopped_by : {l : Located} → Stopped f fs a l → Sought f fs a (some l)

-- one more frame inside
module _ (f : ℕ) (o : Frame) (fs : List Frame) (a b : Run) (wraps : (gs : List Frame) → wrap gs b ≡ wrap (o ∷ gs) a)
    (frees : (gs : List Frame) → T (free f gs) → T (free f (o ∷ gs))) where
  inside : {x : Option Located} → Sought f fs b x → Sought f (o ∷ fs) a x
  inside (unstopped t) = unstopped (frees fs t)
  inside (stopped_by s) =
      stopped_by
      (record {
        inner = o ∷ s.inner;
        name = s.name;
        mark = s.mark;
        zombie = s.zombie;
        list = s.list;
        frames = ap (λ gs. o ∷ gs) s.frames;
        process = s.process ∙ ap (scope s.name s.mark s.zombie s.list) (wraps s.inner);
        passes = frees s.inner s.passes;
        stops = s.stops;
      })

neither : (a b : Bool) → a || b ≡ false → T (not a) × T (not b)
neither true b e = absurd (both_ways true refl e)
neither false b e = (tt, rw e tt)

pub sought : (f : ℕ) (fs : List Frame) (a : Run) → Sought f fs a (stopped (catches f) fs a)
unfolding stopped free wrap
sought f [] a = unstopped tt
sought f (seq_frame q ∷ fs) a = inside f (seq_frame q) fs a (seq a q) (λ gs. refl) (λ gs t. t) (sought f fs (seq a q))
sought f (left_frame b ∷ fs) a = inside f (left_frame b) fs a (par a b) (λ gs. refl) (λ gs t. t) (sought f fs (par a b))
sought f (right_frame b ∷ fs) a = inside f (right_frame b) fs a (par b a) (λ gs. refl) (λ gs t. t) (sought f fs (par b a))
sought f (executor_frame o y client serial ∷ fs) a =
    inside f (executor_frame o y client serial) fs a (executor o y client serial a) (λ gs. refl) (λ gs t. t)
    (sought f fs (executor o y client serial a))
sought f (scope_frame name mark zombie h ∷ fs) a = by (catches f zombie h) refl (sought f fs (scope name mark zombie h a))
  where
    by :
        (b : Bool) → catches f zombie h ≡ b →
        Sought f fs (scope name mark zombie h a) (stopped (catches f) fs (scope name mark zombie h a)) →
        Sought f (scope_frame name mark zombie h ∷ fs) a
        (cond b (some (record { frames = fs; process = scope name mark zombie h a })) (stopped (catches f) fs (scope name mark zombie h a)))
    by true e s =
        stopped_by
        (record {
          inner = [];
          name = name;
          mark = mark;
          zombie = zombie;
          list = h;
          frames = refl;
          process = refl;
          passes = tt;
          stops = rw e tt;
        })
    by false e s =
        let n = neither zombie (holds f h) e in
        inside f (scope_frame name mark zombie h) fs a (scope name mark zombie h a) (λ gs. refl)
        (λ gs t. and_both (not zombie && not (holds f h)) (free f gs) (and_both (not zombie) (not (holds f h)) n.0 n.1) t)
        s

-- ---- the climb, through frames that let the fault pass

also_also : (a : Option Run) (g k : Run → Option Run) → also (also a g) k ≡ also a λ r. also (g r) k
unfolding also
also_also none g k = refl
also_also (some r) g k = refl

pub also_same : (a : Option Run) {k l : Run → Option Run} → ((r : Run) → k r ≡ l r) → also a k ≡ also a l
unfolding also
also_same none e = refl
also_same (some a) e = e a

pub climb_through : (f : ℕ) (xs ys : List Frame) (p : Run) → T (free f xs) → climb f (xs ++ ys) p ≡ also (climb f xs p) (climb f ys)
unfolding climb free also
climb_through f [] ys p t = refl
climb_through f (seq_frame q ∷ xs) ys p t = climb_through f xs ys p t
climb_through f (left_frame b ∷ xs) ys p t =
    also_same (kill f b) (λ b'. climb_through f xs ys (par_of p b') t)
    ∙ sym (also_also (kill f b) (λ b'. climb f xs (par_of p b')) (climb f ys))
climb_through f (right_frame b ∷ xs) ys p t =
    also_same (kill f b) (λ b'. climb_through f xs ys (par_of b' p) t)
    ∙ sym (also_also (kill f b) (λ b'. climb f xs (par_of b' p)) (climb f ys))
climb_through f (executor_frame o y client serial ∷ xs) ys p t = climb_through f xs ys (par_of p (notice o f client serial)) t
climb_through f (scope_frame name mark zombie h ∷ xs) ys p t =
    let both : T (not zombie && not (holds f h)) = and_left (not zombie && not (holds f h)) (free f xs) t in
    let live : zombie ≡ false = test_false zombie (and_left (not zombie) (not (holds f h)) both) in
    let lacks : holds f h ≡ false = test_false (holds f h) (and_right (not zombie) (not (holds f h)) both) in
    rw (lacks, live) (climb_through f xs ys (scope name unmarked true h p) (and_right (not zombie && not (holds f h)) (free f xs) t))

-- the mark that it leaves
abbrev pub mark_for : ℕ → Mark → Entries → Mark
mark_for f mark h = cond (holds f h) (faulted f) mark

pub climb_stops :
    (f : ℕ) (name : ℕ) (mark : Mark) (zombie : Bool) (h : Entries) (fs : List Frame) (p : Run) → T (catches f zombie h) →
    climb f (scope_frame name mark zombie h ∷ fs) p ≡ some (plug fs (scope name (mark_for f mark h) zombie h p))
unfolding climb
climb_stops f name mark zombie h fs p t = by (holds f h) zombie t
  where
    by :
        (b z : Bool) → T (z || b) →
        cond b (some (plug fs (scope name (faulted f) z h p)))
        (cond z (some (plug fs (scope name mark z h p))) (climb f fs (scope name unmarked true h p)))
        ≡ some (plug fs (scope name (cond b (faulted f) mark) z h p))
    by true z t = refl
    by false true t = refl
    by false false t = absurd t
