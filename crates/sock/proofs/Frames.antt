-- Rebuilding keeps what is enabled sound, and so does taking a process out of its frames and putting another in.
-- Assumes nothing.
use Prim.Native.Nat.{ℕ, zero, suc, ◌+◌, ◌-◌, ◌<◌}
use mathlib.Core.Path.{◌≡◌, refl}
use mathlib.Core.Bool.{Bool, true, false}
use mathlib.Core.Option.{Option}
use mathlib.Core.List.{List, [], ◌∷◌}
use lib.Dec.{T, ltb}
use lib.ListN.{length}
use Rattle.sock.specs.Term.{Node, Entries}
use Rattle.sock.specs.Variables.{variable_words}
use Rattle.sock.specs.Layout.{entries_words}
use Rattle.sock.specs.Reading.{code, anywhere, holds}
use Rattle.sock.specs.Running.{Mark, unmarked, faulted, own_name, Run, nil, seq, par, scope, executor, waiter, notice, act, size}
use Rattle.sock.specs.Configuration.{is_scope}
use Rattle.sock.specs.Frames.{Frame, seq_frame, left_frame, right_frame, scope_frame, executor_frame, Located, here_or, past, locate, is_done, seq_of, par_of, plug, nearest, on_nearest}
use Rattle.sock.proofs.Logic.{cond-case, All, all_none, all_some}
use Rattle.sock.proofs.Fits.{Fits, FitsEntries, empty_fits, MarkFits, Sound, nil_sound, seq_sound, par_sound, scope_sound, executor_sound, waiter_sound, notice_sound, act_sound, rootable, seq_frame_sound, left_frame_sound, right_frame_sound, scope_frame_sound, executor_frame_sound, SoundFrames, no_frames, one_frame}
use Rattle.sock.proofs.Running.{enable_sound}

-- ---- a term rebuilt

pub seq_of_sound : {n issued : ℕ} {a : Run} {q : Node} → Sound n issued a → Fits (code false) anywhere q → Sound n issued (seq_of a q)
unfolding seq_of
seq_of_sound {n} {issued} {a} g f = cond-case (λ r. Sound n issued r) (is_done a) (λ t. enable_sound n issued f) (λ t. seq_sound g t f)

pub par_of_sound : {n issued : ℕ} {a b : Run} → Sound n issued a → Sound n issued b → Sound n issued (par_of a b)
unfolding par_of
par_of_sound {n} {issued} {a} {b} g f =
    cond-case (λ r. Sound n issued r) (is_done a) (λ t. f)
    (λ t. cond-case (λ r. Sound n issued r) (is_done b) (λ u. g) (λ u. par_sound g t f u))

pub plug_sound : {n issued : ℕ} {fs : List Frame} {a : Run} → SoundFrames n issued fs → Sound n issued a → Sound n issued (plug fs a)
unfolding plug
plug_sound no_frames g = g
plug_sound (one_frame (seq_frame_sound f) fs) g = plug_sound fs (seq_of_sound g f)
plug_sound (one_frame (left_frame_sound f t) fs) g = plug_sound fs (par_of_sound g f)
plug_sound (one_frame (right_frame_sound f t) fs) g = plug_sound fs (par_of_sound f g)
plug_sound (one_frame (scope_frame_sound a b c) fs) g = plug_sound fs (scope_sound a b c g)
plug_sound (one_frame (executor_frame_sound a b c) fs) g = plug_sound fs (executor_sound a b c g)

-- ---- a process found in its frames

pub record Stands (n issued : ℕ) (l : Located) : Type 0 where
  pub frames : SoundFrames n issued l.frames
  pub process : Sound n issued l.process

pub all_here : {P : Located → Type 0} (p : ℕ) (l : Located) {o : Option Located} → P l → All P o → All P (here_or p l o)
unfolding here_or
all_here zero l h k = all_some h
all_here (suc p) l h k = k

pub all_past : {P : Located → Type 0} (own p : ℕ) {find : ℕ → Option Located} → ((i : ℕ) → All P (find i)) → All P (past own p find)
unfolding past
all_past {P} own p {find} h = cond-case (λ o. All P o) (ltb p own) (λ t. all_none) (λ t. h (p - own))

pub locate_sound : {n issued : ℕ} {r : Run} → Sound n issued r → (p : ℕ) {fs : List Frame} → SoundFrames n issued fs → All (Stands n issued) (locate r p fs)
unfolding locate
locate_sound nil_sound p k = all_here p _ (record { frames = k; process = nil_sound }) all_none
locate_sound (seq_sound g t f) p k = all_here p _ (record { frames = k; process = seq_sound g t f }) (all_past 1 p λ i. locate_sound g i (one_frame (seq_frame_sound f) k))
locate_sound {n} {issued} (par_sound {a = a} g t f u) p k =
    all_here p _ (record { frames = k; process = par_sound g t f u })
    (all_past 1 p λ i. cond-case (λ o. All (Stands n issued) o) (ltb i (size a))
    (λ v. locate_sound g i (one_frame (left_frame_sound f u) k))
    (λ v. locate_sound f (i - size a) (one_frame (right_frame_sound g t) k)))
locate_sound (scope_sound {h = h} a b c g) p k =
    all_here p _ (record { frames = k; process = scope_sound a b c g }) (all_past (3 + length (entries_words h)) p λ i. locate_sound g i (one_frame (scope_frame_sound a b c) k))
locate_sound (executor_sound {y = y} a b c g) p k =
    all_here p _ (record { frames = k; process = executor_sound a b c g }) (all_past (3 + length (variable_words y)) p λ i. locate_sound g i (one_frame (executor_frame_sound a b c) k))
locate_sound (waiter_sound a b c d) p k = all_here p _ (record { frames = k; process = waiter_sound a b c d }) all_none
locate_sound (notice_sound a b c) p k = all_here p _ (record { frames = k; process = notice_sound a b c }) all_none
locate_sound (act_sound a b) p k = all_here p _ (record { frames = k; process = act_sound a b }) all_none

-- ---- the outermost frame is a scope's, or there is none

-- what stands at the root, if b says whether the process in the frames could stand there itself
abbrev pub based : List Frame → Bool → Bool
based [] b = b
based (seq_frame q ∷ fs) b = based fs false
based (left_frame q ∷ fs) b = based fs false
based (right_frame q ∷ fs) b = based fs false
based (scope_frame name mark zombie h ∷ fs) b = based fs true
based (executor_frame o y client serial ∷ fs) b = based fs false

pub based_any : (fs : List Frame) (b : Bool) → T (based fs false) → T (based fs b)
based_any [] b t = absurd t
based_any (seq_frame q ∷ fs) b t = t
based_any (left_frame q ∷ fs) b t = t
based_any (right_frame q ∷ fs) b t = t
based_any (scope_frame name mark zombie h ∷ fs) b t = t
based_any (executor_frame o y client serial ∷ fs) b t = t

pub plug_rootable : (fs : List Frame) (a : Run) → T (based fs (rootable a)) → T (rootable (plug fs a))
unfolding plug is_done is_scope
plug_rootable [] a t = t
plug_rootable (seq_frame q ∷ fs) a t = plug_rootable fs (seq_of a q) (based_any fs (rootable (seq_of a q)) t)
plug_rootable (left_frame q ∷ fs) a t = plug_rootable fs (par_of a q) (based_any fs (rootable (par_of a q)) t)
plug_rootable (right_frame q ∷ fs) a t = plug_rootable fs (par_of q a) (based_any fs (rootable (par_of q a)) t)
plug_rootable (scope_frame name mark zombie h ∷ fs) a t = plug_rootable fs (scope name mark zombie h a) t
plug_rootable (executor_frame o y client serial ∷ fs) a t =
    plug_rootable fs (executor o y client serial a) (based_any fs (rootable (executor o y client serial a)) t)

abbrev pub Based : Located → Type 0
Based l = T (based l.frames (rootable l.process))

pub locate_based : (r : Run) (p : ℕ) (fs : List Frame) → T (based fs (rootable r)) → All Based (locate r p fs)
unfolding locate is_done is_scope
locate_based nil p fs t = all_here p _ t all_none
locate_based (seq a q) p fs t = all_here p _ t (all_past 1 p λ i. locate_based a i (seq_frame q ∷ fs) t)
locate_based (par a b) p fs t =
    all_here p _ t
    (all_past 1 p λ i. cond-case (λ o. All Based o) (ltb i (size a))
    (λ v. locate_based a i (left_frame b ∷ fs) t)
    (λ v. locate_based b (i - size a) (right_frame a ∷ fs) t))
locate_based (scope name mark zombie h a) p fs t =
    all_here p _ t (all_past (3 + length (entries_words h)) p λ i. locate_based a i (scope_frame name mark zombie h ∷ fs) t)
locate_based (executor o y client serial a) p fs t =
    all_here p _ t (all_past (3 + length (variable_words y)) p λ i. locate_based a i (executor_frame o y client serial ∷ fs) t)
locate_based (waiter o x dead server serial l) p fs t = all_here p _ t all_none
locate_based (notice o f client serial) p fs t = all_here p _ t all_none
locate_based (act a) p fs t = all_here p _ t all_none

-- ---- the nearest scope's list, and that list changed

pub nearest_fits : {n issued : ℕ} {fs : List Frame} → SoundFrames n issued fs → FitsEntries true zero (nearest fs)
unfolding nearest
nearest_fits no_frames = empty_fits
nearest_fits (one_frame (seq_frame_sound f) fs) = nearest_fits fs
nearest_fits (one_frame (left_frame_sound f t) fs) = nearest_fits fs
nearest_fits (one_frame (right_frame_sound f t) fs) = nearest_fits fs
nearest_fits (one_frame (scope_frame_sound a b c) fs) = c
nearest_fits (one_frame (executor_frame_sound a b c) fs) = nearest_fits fs

-- a change that keeps a list one, and the keys of faults in it
pub record Keeps (change : Entries → Entries) : Type 0 where
  pub fits : (h : Entries) → FitsEntries true zero h → FitsEntries true zero (change h)
  pub faults : (f : ℕ) (h : Entries) → f < 64 → T (holds f h) → T (holds f (change h))

mark_kept : (mark : Mark) (zombie : Bool) (h : Entries) {change : Entries → Entries} → Keeps change → MarkFits mark zombie h → MarkFits mark zombie (change h)
mark_kept unmarked zombie h k m = tt
mark_kept (faulted f) zombie h k m = (m.0, k.faults f h m.0 m.1)
mark_kept own_name zombie h k m = m

pub nearest_sound : {n issued : ℕ} {fs : List Frame} {change : Entries → Entries} → Keeps change → SoundFrames n issued fs → SoundFrames n issued (on_nearest change fs)
unfolding on_nearest
nearest_sound k no_frames = no_frames
nearest_sound k (one_frame (seq_frame_sound f) fs) = one_frame (seq_frame_sound f) (nearest_sound k fs)
nearest_sound k (one_frame (left_frame_sound f t) fs) = one_frame (left_frame_sound f t) (nearest_sound k fs)
nearest_sound k (one_frame (right_frame_sound f t) fs) = one_frame (right_frame_sound f t) (nearest_sound k fs)
nearest_sound k (one_frame (scope_frame_sound {mark = mark} {zombie = zombie} {h = h} a b c) fs) =
    one_frame (scope_frame_sound a (mark_kept mark zombie h k b) (k.fits h c)) fs
nearest_sound k (one_frame (executor_frame_sound a b c) fs) = one_frame (executor_frame_sound a b c) (nearest_sound k fs)

pub nearest_based : (change : Entries → Entries) (fs : List Frame) (b : Bool) → based (on_nearest change fs) b ≡ based fs b
unfolding on_nearest
nearest_based change [] b = refl
nearest_based change (seq_frame q ∷ fs) b = nearest_based change fs false
nearest_based change (left_frame q ∷ fs) b = nearest_based change fs false
nearest_based change (right_frame q ∷ fs) b = nearest_based change fs false
nearest_based change (scope_frame name mark zombie h ∷ fs) b = refl
nearest_based change (executor_frame o y client serial ∷ fs) b = nearest_based change fs false
