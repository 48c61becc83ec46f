-- Killing makes nothing deeper, nor does the climb.
-- Assumes nothing.
use Prim.Native.Nat.{ℕ, suc, ◌≤◌, max}
use native.Mathlib.Omega.{arith}
use mathlib.Core.Path.{refl}
use mathlib.Core.Bool.{true, false, not}
use mathlib.Core.List.{List}
use lib.Dec.{eqb}
use Rattle.sock.specs.Kind
use Rattle.sock.specs.Words.{fault_key}
use Rattle.sock.specs.Term.{kind}
use Rattle.sock.specs.Reading.{holds}
use Rattle.sock.specs.Running.{Mark, unmarked, faulted, own_name, Run, nil, seq, par, scope, executor, waiter, notice, act, run_depth}
use Rattle.sock.specs.Frames.{Frame, is_done, par_of, plug}
use Rattle.sock.specs.Rules.{kill, climb}
use Rattle.sock.proofs.Logic.{cond-case, All, all_some, all_also, all_guarded, all_map}
use Rattle.sock.proofs.Fits.{seq_frame_sound, left_frame_sound, right_frame_sound, scope_frame_sound, executor_frame_sound, SoundFrames, no_frames, one_frame}
use Rattle.sock.proofs.Measures.{depth_nil, depth_seq, depth_par, depth_scope, depth_executor, depth_waiter, depth_notice}
use Rattle.sock.proofs.Located.{wrap}
use Rattle.rules.proofs.Depths.{wrap_depth, plug_depth, depth_some}

abbrev pub NoDeeper : Run → Run → Type 0
NoDeeper r q = run_depth q ≤ run_depth r

par_deep : (a b : Run) (d : ℕ) → suc (max (run_depth a) (run_depth b)) ≤ d → run_depth (par_of a b) ≤ d
unfolding par_of
par_deep a b d h =
    cond-case (λ q. run_depth q ≤ d) (is_done a) (λ t. omega arith) λ t.
    cond-case (λ q. run_depth q ≤ d) (is_done b) (λ u. omega arith) λ u. omega (arith, depth_par a b)

pub kill_shallow : (f : ℕ) (r : Run) → All (NoDeeper r) (kill f r)
unfolding kill
kill_shallow f nil = all_some {a = nil} (omega arith)
kill_shallow f (seq a q) = all_map (λ p h. omega (arith, depth_seq a q)) (kill_shallow f a)
kill_shallow f (par a b) =
    all_also (kill_shallow f a) λ a' x. all_also (kill_shallow f b) λ b' y.
    all_some {a = par_of a' b'} (par_deep a' b' _ (omega (arith, depth_par a b)))
kill_shallow f (scope name mark true h a) = all_also (kill_shallow f a) λ a' x. all_some {a = scope name mark true h a} (omega arith)
kill_shallow f (scope name mark false h a) =
    all_guarded (not (is_done a)) λ t.
    all_also (kill_shallow f a) λ a' x.
    all_some {a = scope name own_name true h a'}
    (omega (arith, depth_scope name mark false h a, depth_scope name own_name true h a'))
kill_shallow f (executor o y client serial a) =
    all_also (kill_shallow f a) λ a' x.
    all_some {a = par_of a' (notice o f client serial)}
    (par_deep a' (notice o f client serial) _
    (omega (arith, depth_executor o y client serial a, depth_notice o f client serial, depth_some a)))
kill_shallow f (waiter o x dead server serial l) =
    all_some {a = waiter o x true server serial l}
    (omega (arith, depth_waiter o x dead server serial l, depth_waiter o x true server serial l))
kill_shallow f (notice o g client serial) = all_some {a = notice o g client serial} (omega arith)
kill_shallow f (act m) = all_guarded (not (eqb (kind m) Kind.inst)) λ t. all_some {a = nil} (omega (arith, depth_nil, depth_some (act m)))

-- p in the place of a
pub climb_shallow :
    {n issued : ℕ} (f : ℕ) {fs : List Frame} → SoundFrames n issued fs → (p a : Run) → run_depth p ≤ run_depth a →
    All (NoDeeper (wrap fs a)) (climb f fs p)
unfolding climb wrap is_done
climb_shallow f no_frames p a h = all_some h
climb_shallow f (one_frame (seq_frame_sound {q = q} x) fs) p a h = climb_shallow f fs p (seq a q) (omega (arith, depth_seq a q))
climb_shallow f (one_frame (left_frame_sound {b = b} x t) fs) p a h =
    all_also (kill_shallow f b) λ b' y. climb_shallow f fs (par_of p b') (par a b) (par_deep p b' _ (omega (arith, depth_par a b)))
climb_shallow f (one_frame (right_frame_sound {b = b} x t) fs) p a h =
    all_also (kill_shallow f b) λ b' y. climb_shallow f fs (par_of b' p) (par b a) (par_deep b' p _ (omega (arith, depth_par b a)))
climb_shallow f (one_frame (executor_frame_sound {o} {y} {client} {serial} u v w) fs) p a h =
    climb_shallow f fs (par_of p (notice o f client serial)) (executor o y client serial a)
    (par_deep p (notice o f client serial) _
    (omega (arith, depth_executor o y client serial a, depth_notice o f client serial, depth_some a)))
climb_shallow f (one_frame {fs = fs} (scope_frame_sound {name} {mark} {zombie} {h = l} x y z) g) p a h =
    let in_frames : (m : Mark) → run_depth (plug fs (scope name m zombie l p)) ≤ run_depth (wrap fs (scope name mark zombie l a)) =
    λ m.
    omega (
      arith,
      plug_depth g (scope name m zombie l p) refl,
      wrap_depth fs (scope name mark zombie l a),
      depth_scope name m zombie l p,
      depth_scope name mark zombie l a,
    ) in
    cond-case (λ o. All (NoDeeper (wrap fs (scope name mark zombie l a))) o) (holds (fault_key f) l)
    (λ t. all_some {a = plug fs (scope name (faulted f) zombie l p)} (in_frames (faulted f))) λ t.
    cond-case (λ o. All (NoDeeper (wrap fs (scope name mark zombie l a))) o) zombie
    (λ u. all_some {a = plug fs (scope name mark zombie l p)} (in_frames mark)) λ u.
    climb_shallow f g (scope name unmarked true l p) (scope name mark zombie l a)
    (omega (arith, depth_scope name unmarked true l p, depth_scope name mark zombie l a))
