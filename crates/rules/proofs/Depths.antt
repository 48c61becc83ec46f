-- How deep a process is with frames around it; and when what a rule makes of it is too deep.
-- Assumes nothing.
use Prim.Native.Nat.{ℕ, suc, ◌+◌, ◌≤◌, ◌<◌, max}
use native.Mathlib.Omega.{arith}
use mathlib.Core.Path.{◌≡◌, refl, ap, ◌∙◌}
use mathlib.Core.Bool.{Bool, true, false, not}
use mathlib.Core.List.{List, [], ◌∷◌}
use lib.ListN.{length}
use lib.Dec.{T}
use Rattle.sock.specs.Layout.{depth, entries_depth}
use Rattle.sock.specs.Term.{Node, node}
use Rattle.sock.specs.Running.{Run, seq, par, scope, executor, as_node, run_depth}
use Rattle.sock.specs.Frames.{Frame, seq_frame, left_frame, right_frame, scope_frame, executor_frame, is_done, seq_of, par_of, plug}
use Rattle.sock.proofs.Fits.{seq_frame_sound, left_frame_sound, right_frame_sound, scope_frame_sound, executor_frame_sound, SoundFrames, no_frames, one_frame}
use Rattle.sock.proofs.Located.{wrap}
use Rattle.sock.proofs.Measures.{depth_seq, depth_par, depth_scope, depth_executor}

-- the other part that a frame holds
abbrev side : Frame → ℕ
side (seq_frame q) = depth q
side (left_frame b) = run_depth b
side (right_frame b) = run_depth b
side (scope_frame name mark zombie h) = entries_depth h
side (executor_frame o y client serial) = 0

-- how deep the frames are but for what they stand around
unfoldable pub spread : List Frame → ℕ
spread [] = 0
spread (f ∷ fs) = max (spread fs) (suc (length fs + side f))

onward : (a b c d e k : ℕ) → a ≡ max b (k + d) → d ≡ suc (max c e) → a ≡ max (max b (suc (k + c))) (suc k + e)
onward a b c d e k p q = omega arith

pub wrap_depth : (fs : List Frame) (a : Run) → run_depth (wrap fs a) ≡ max (spread fs) (length fs + run_depth a)
unfolding wrap spread
wrap_depth [] a = omega arith
wrap_depth (seq_frame q ∷ fs) a = onward _ (spread fs) (depth q) (run_depth (seq a q)) (run_depth a) (length fs) (wrap_depth fs (seq a q)) (depth_seq a q ∙ swapped (run_depth a) (depth q))
  where
    swapped : (x y : ℕ) → suc (max x y) ≡ suc (max y x)
    swapped x y = omega arith
wrap_depth (left_frame b ∷ fs) a = onward _ (spread fs) (run_depth b) (run_depth (par a b)) (run_depth a) (length fs) (wrap_depth fs (par a b)) (depth_par a b ∙ swapped (run_depth a) (run_depth b))
  where
    swapped : (x y : ℕ) → suc (max x y) ≡ suc (max y x)
    swapped x y = omega arith
wrap_depth (right_frame b ∷ fs) a = onward _ (spread fs) (run_depth b) (run_depth (par b a)) (run_depth a) (length fs) (wrap_depth fs (par b a)) (depth_par b a)
wrap_depth (scope_frame name mark zombie h ∷ fs) a =
    onward _ (spread fs) (entries_depth h) (run_depth (scope name mark zombie h a)) (run_depth a) (length fs) (wrap_depth fs (scope name mark zombie h a)) (depth_scope name mark zombie h a)
wrap_depth (executor_frame o y client serial ∷ fs) a =
    onward _ (spread fs) 0 (run_depth (executor o y client serial a)) (run_depth a) (length fs) (wrap_depth fs (executor o y client serial a))
    (depth_executor o y client serial a ∙ none (run_depth a))
  where
    none : (x : ℕ) → suc x ≡ suc (max 0 x)
    none x = omega arith

-- what is not nil stays in its frames
pub plug_wraps : {n issued : ℕ} {fs : List Frame} → SoundFrames n issued fs → (a : Run) → is_done a ≡ false → plug fs a ≡ wrap fs a
unfolding plug wrap seq_of par_of is_done
plug_wraps no_frames a e = refl
plug_wraps (one_frame (seq_frame_sound {q = q} f) fs) a e = rw e (plug_wraps fs (seq a q) refl)
plug_wraps (one_frame (left_frame_sound {b = b} f t) fs) a e = rw (e, no (is_done b) t) (plug_wraps fs (par a b) refl)
  where
    no : (b : Bool) → T (not b) → b ≡ false
    no true t = absurd t
    no false t = refl
plug_wraps (one_frame (right_frame_sound {b = b} f t) fs) a e = rw (no (is_done b) t, e) (plug_wraps fs (par b a) refl)
  where
    no : (b : Bool) → T (not b) → b ≡ false
    no true t = absurd t
    no false t = refl
plug_wraps (one_frame (scope_frame_sound {name} {mark} {zombie} {h} x y z) fs) a e = plug_wraps fs (scope name mark zombie h a) refl
plug_wraps (one_frame (executor_frame_sound {o} {y} {client} {serial} u v w) fs) a e = plug_wraps fs (executor o y client serial a) refl

pub plug_depth : {n issued : ℕ} {fs : List Frame} → SoundFrames n issued fs → (a : Run) → is_done a ≡ false → run_depth (plug fs a) ≡ max (spread fs) (length fs + run_depth a)
plug_depth {fs = fs} s a e = ap run_depth (plug_wraps s a e) ∙ wrap_depth fs a

-- in the place of r, whose whole is no deeper than `deepest`
pub plug_fits :
    {n issued : ℕ} {fs : List Frame} → SoundFrames n issued fs → (r a : Run) (deepest : ℕ) → is_done a ≡ false → run_depth (wrap fs r) ≤ deepest →
    length fs + run_depth a ≤ deepest → run_depth (plug fs a) ≤ deepest
plug_fits {fs = fs} s r a deepest e w h = let p = plug_depth s a e in let q = wrap_depth fs r in omega arith

pub plug_too_deep :
    {n issued : ℕ} {fs : List Frame} → SoundFrames n issued fs → (a : Run) (deepest : ℕ) → is_done a ≡ false → deepest < length fs + run_depth a → deepest < run_depth (plug fs a)
plug_too_deep s a deepest e h = let p = plug_depth s a e in omega arith

pub depth_some : (r : Run) → 0 < run_depth r
unfolding run_depth depth
depth_some r = node_some (as_node r)
  where
    node_some : (m : Node) → 0 < depth m
    node_some (node h f es b ps) = omega arith

-- no deeper than a limit, which is no more than the fuel of walks
pub record Shallow (most : ℕ) (r : Run) : Type 0 where
  pub low : most ≤ 64
  pub kept : run_depth r ≤ most

pub shallow : {most : ℕ} {r : Run} → Shallow most r → run_depth r ≤ 64
shallow d = omega (arith, d.low, d.kept)
