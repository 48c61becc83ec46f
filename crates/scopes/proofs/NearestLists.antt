-- The nearest scope's list changed: the frames then, and how deep what is put back in them is; and a list without a key.
-- Assumes nothing.
use Prim.Native.Nat.{ℕ, suc, ◌+◌, ◌≤◌, max}
use native.Mathlib.Omega.{arith}
use mathlib.Core.Path.{◌≡◌, refl, sym, ap, subst}
use mathlib.Core.Bool.{Bool, true, false, not, ◌&&◌, ◌||◌, cond}
use mathlib.Core.List.{List, [], ◌∷◌}
use borrow.Author.Tests.{le-leb, eqb-true}
use lib.Dec.{T, eqb, leb}
use lib.ListN.{length}
use Rattle.sock.specs.Words.{scope_key}
use Rattle.sock.specs.Term.{Node, Entries, no_entries, is_nil}
use Rattle.sock.specs.Layout.{entries_depth}
use Rattle.sock.specs.Reading.{holds, entry_fits}
use Rattle.sock.specs.Running.{Run, scope, executor, run_depth}
use Rattle.sock.specs.Handlers.{handler, without, update}
use Rattle.sock.specs.Frames.{Frame, seq_frame, left_frame, right_frame, scope_frame, executor_frame, is_done, seq_of, par_of, plug, nearest, on_nearest}
use Rattle.sock.proofs.Fits.{FitsEntries, empty_fits, entry_fits_on, seq_frame_sound, left_frame_sound, right_frame_sound, scope_frame_sound, executor_frame_sound, SoundFrames, no_frames, one_frame}
use Rattle.sock.proofs.Handlers.{without_fits, holds_without, update_fits, holds_update}
use Rattle.sock.proofs.Frames.{Keeps}
use Rattle.sock.proofs.Measures.{depth_scope}
use Rattle.finding.proofs.Framing.{scoped, outside}
use Rattle.rules.proofs.Depths.{spread, plug_depth}

-- ---- frames

pub nearest_empty : (fs : List Frame) → T (not (scoped fs)) → nearest fs ≡ no_entries
unfolding nearest scoped
nearest_empty [] t = refl
nearest_empty (seq_frame q ∷ fs) t = nearest_empty fs t
nearest_empty (left_frame b ∷ fs) t = nearest_empty fs t
nearest_empty (right_frame b ∷ fs) t = nearest_empty fs t
nearest_empty (scope_frame name mark zombie h ∷ fs) t = absurd t
nearest_empty (executor_frame o y client serial ∷ fs) t = nearest_empty fs t

pub nearest_kept : (g : Entries → Entries) (fs : List Frame) → g (nearest fs) ≡ nearest fs → on_nearest g fs ≡ fs
unfolding nearest on_nearest
nearest_kept g [] e = refl
nearest_kept g (seq_frame q ∷ fs) e = ap (λ l. seq_frame q ∷ l) (nearest_kept g fs e)
nearest_kept g (left_frame b ∷ fs) e = ap (λ l. left_frame b ∷ l) (nearest_kept g fs e)
nearest_kept g (right_frame b ∷ fs) e = ap (λ l. right_frame b ∷ l) (nearest_kept g fs e)
nearest_kept g (scope_frame name mark zombie h ∷ fs) e = ap (λ k. scope_frame name mark zombie k ∷ fs) e
nearest_kept g (executor_frame o y client serial ∷ fs) e = ap (λ l. executor_frame o y client serial ∷ l) (nearest_kept g fs e)

pub nearest_length : (g : Entries → Entries) (fs : List Frame) → length (on_nearest g fs) ≡ length fs
unfolding on_nearest
nearest_length g [] = refl
nearest_length g (seq_frame q ∷ fs) = ap suc (nearest_length g fs)
nearest_length g (left_frame b ∷ fs) = ap suc (nearest_length g fs)
nearest_length g (right_frame b ∷ fs) = ap suc (nearest_length g fs)
nearest_length g (scope_frame name mark zombie h ∷ fs) = refl
nearest_length g (executor_frame o y client serial ∷ fs) = ap suc (nearest_length g fs)

-- ---- how deep they are

wider : (a b c d n m : ℕ) → a ≤ max b c → n ≡ m → max a (suc (n + d)) ≤ max (max b (suc (m + d))) c
wider a b c d n m h e = omega arith

pub nearest_spread : (g : Entries → Entries) (fs : List Frame) →
    spread (on_nearest g fs) ≤ max (spread fs) (suc (outside fs + entries_depth (g (nearest fs))))
unfolding spread on_nearest nearest outside
nearest_spread g [] = omega arith
nearest_spread g (seq_frame q ∷ fs) =
    wider _ (spread fs) (suc (outside fs + entries_depth (g (nearest fs)))) _ _ (length fs) (nearest_spread g fs) (nearest_length g fs)
nearest_spread g (left_frame b ∷ fs) =
    wider _ (spread fs) (suc (outside fs + entries_depth (g (nearest fs)))) _ _ (length fs) (nearest_spread g fs) (nearest_length g fs)
nearest_spread g (right_frame b ∷ fs) =
    wider _ (spread fs) (suc (outside fs + entries_depth (g (nearest fs)))) _ _ (length fs) (nearest_spread g fs) (nearest_length g fs)
nearest_spread g (scope_frame name mark zombie h ∷ fs) = omega arith
nearest_spread g (executor_frame o y client serial ∷ fs) =
    wider _ (spread fs) (suc (outside fs + entries_depth (g (nearest fs)))) _ _ (length fs) (nearest_spread g fs) (nearest_length g fs)

stays : (a b c : ℕ) → a ≤ b → a ≤ max b c
stays a b c h = omega arith

-- its list is among what they hold
pub nearest_within : (fs : List Frame) → T (scoped fs) → suc (outside fs + entries_depth (nearest fs)) ≤ spread fs
unfolding spread nearest outside scoped
nearest_within [] t = absurd t
nearest_within (seq_frame q ∷ fs) t = stays _ (spread fs) _ (nearest_within fs t)
nearest_within (left_frame b ∷ fs) t = stays _ (spread fs) _ (nearest_within fs t)
nearest_within (right_frame b ∷ fs) t = stays _ (spread fs) _ (nearest_within fs t)
nearest_within (scope_frame name mark zombie h ∷ fs) t = omega arith
nearest_within (executor_frame o y client serial ∷ fs) t = stays _ (spread fs) _ (nearest_within fs t)

-- and stays there, whatever is put back
pub nearest_deep :
    {n issued : ℕ} {fs : List Frame} → SoundFrames n issued fs → (g : Entries → Entries) → T (scoped fs) → (a : Run) →
    suc (outside fs + entries_depth (g (nearest fs))) ≤ run_depth (plug (on_nearest g fs) a)
unfolding plug on_nearest nearest outside scoped is_done
nearest_deep no_frames g t a = absurd t
nearest_deep (one_frame (seq_frame_sound {q = q} f) fs) g t a = nearest_deep fs g t (seq_of a q)
nearest_deep (one_frame (left_frame_sound {b = b} f u) fs) g t a = nearest_deep fs g t (par_of a b)
nearest_deep (one_frame (right_frame_sound {b = b} f u) fs) g t a = nearest_deep fs g t (par_of b a)
nearest_deep (one_frame (scope_frame_sound {name} {mark} {zombie} {h} x y z) fs) g t a =
    let p = plug_depth fs (scope name mark zombie (g h) a) refl in
    let d = depth_scope name mark zombie (g h) a in
    omega arith
nearest_deep (one_frame (executor_frame_sound {o} {y} {client} {serial} u v w) fs) g t a = nearest_deep fs g t (executor o y client serial a)

-- ---- lists

pub without_keeps : (q : ℕ) → Keeps (without (scope_key q))
without_keeps q =
    record { fits = λ h g. without_fits (scope_key q) g; faults = λ f h b t. holds_without f (scope_key q) h (λ e. omega (arith, e)) t }

pub update_keeps : {least : ℕ} {l : Entries} → FitsEntries false least l → Keeps (λ h. update h l)
update_keeps {l = l} g = record { fits = λ h k. update_fits h k g; faults = λ f h b t. holds_update f h l b t }

-- no nil under a scope's key
not_nil_lem : (k : ℕ) (b : Bool) → 64 ≤ k → T (not (leb 64 k && b)) → b ≡ false
not_nil_lem k true h t = absurd (rw (le-leb 64 k h) at t)
not_nil_lem k false h t = refl

one_lives :
    (x y : Bool) (p m : Node) → (x ≡ true → is_nil p ≡ false) → (y ≡ true → is_nil m ≡ false) → x || y ≡ true → is_nil (cond x p m) ≡ false
one_lives true y p m f g e = f refl
one_lives false y p m f g e = g e

pub handler_lives : (q : ℕ) {least : ℕ} {h : Entries} → FitsEntries true least h → holds (scope_key q) h ≡ true →
    is_nil (handler (scope_key q) h) ≡ false
unfolding holds handler entry_fits
handler_lives q empty_fits e = absurd (subst T (sym e) tt)
handler_lives q (entry_fits_on {k = j} {p = p} {es = es} a b c d v) e =
    one_lives (eqb (scope_key q) j) (holds (scope_key q) es) p (handler (scope_key q) es)
    (λ x. let z : scope_key q ≡ j = eqb-true (scope_key q) j x in not_nil_lem j (is_nil p) (omega arith) c)
    (λ x. handler_lives q v x) e
