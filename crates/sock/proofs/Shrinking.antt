-- Putting back something no larger makes nothing larger: in its frames, and in an engine among the engines.
-- Assumes nothing.
use Prim.Native.Nat.{ℕ, zero, suc, ◌≤◌, ◌<◌}
use native.Mathlib.Omega.{arith}
use native.Mathlib.Nat.{le_refl}
use mathlib.Core.Path.{◌≡◌, sym, ap}
use mathlib.Core.Bool.{Bool, false}
use mathlib.Core.List.{List, [], ◌∷◌}
use lib.ListN.{length, get_or, set, length-append}
use lib.Seq.{lt-length-set, get_or-set_other}
use Rattle.sock.specs.Term.{Node, Entries}
use Rattle.sock.specs.Layout.{words, depth}
use Rattle.sock.specs.Reading.{code, anywhere}
use Rattle.sock.specs.Running.{Mark, Run, seq, par, scope, executor, run_words, size, run_depth, enable}
use Rattle.sock.specs.Configuration.{Engine, values_words, engine_words, engines_words, engines_depth}
use Rattle.sock.specs.Frames.{Frame, is_done, seq_of, par_of, plug}
use Rattle.sock.proofs.Logic.{cond-case}
use Rattle.sock.proofs.Fits.{Fits, seq_frame_sound, left_frame_sound, right_frame_sound, scope_frame_sound, executor_frame_sound, SoundFrames, no_frames, one_frame}
use Rattle.sock.proofs.Running.{enable_as_node}
use Rattle.sock.proofs.Measures.{size_seq, size_par, size_scope, size_executor, depth_seq, depth_par, depth_scope, depth_executor}
use Rattle.sock.proofs.Located.{wrap, values_length}

-- ---- in frames

-- no more words, and no deeper
pub record NoLarger (a b : Run) : Type 0 where
  pub shorter : size a ≤ size b
  pub shallower : run_depth a ≤ run_depth b

pub enable_size : {q : Node} → Fits (code false) anywhere q → size (enable q) ≡ length (words q)
unfolding size run_words
enable_size f = ap (λ m. length (words m)) (enable_as_node f)

pub enable_depth : {q : Node} → Fits (code false) anywhere q → run_depth (enable q) ≡ depth q
unfolding run_depth
enable_depth f = ap depth (enable_as_node f)

seq_shrinks : {a b : Run} (q : Node) → NoLarger a b → NoLarger (seq a q) (seq b q)
seq_shrinks {a} {b} q s =
    record { shorter = omega (arith, size_seq a q, size_seq b q); shallower = omega (arith, depth_seq a q, depth_seq b q) }

par_shrinks : {a b c d : Run} → NoLarger a b → NoLarger c d → NoLarger (par a c) (par b d)
par_shrinks {a} {b} {c} {d} s t =
    record { shorter = omega (arith, size_par a c, size_par b d); shallower = omega (arith, depth_par a c, depth_par b d) }

seq_of_shrinks : {a b : Run} {q : Node} → Fits (code false) anywhere q → NoLarger a b → NoLarger (seq_of a q) (seq b q)
unfolding seq_of
seq_of_shrinks {a} {b} {q} f s =
    cond-case (λ r. NoLarger r (seq b q)) (is_done a)
    (λ t. record { shorter = omega (arith, enable_size f, size_seq b q); shallower = omega (arith, enable_depth f, depth_seq b q) })
    (λ t. seq_shrinks q s)

par_of_shrinks : {a b c d : Run} → NoLarger a b → NoLarger c d → NoLarger (par_of a c) (par b d)
unfolding par_of
par_of_shrinks {a} {b} {c} {d} s t =
    cond-case (λ r. NoLarger r (par b d)) (is_done a) (λ u. record { shorter = omega (arith, size_par b d); shallower = omega (arith, depth_par b d) }) λ u.
    cond-case (λ r. NoLarger r (par b d)) (is_done c) (λ v. record { shorter = omega (arith, size_par b d); shallower = omega (arith, depth_par b d) }) λ v.
    par_shrinks s t

scope_shrinks : {a b : Run} (name : ℕ) (mark : Mark) (zombie : Bool) (h : Entries) → NoLarger a b → NoLarger (scope name mark zombie h a) (scope name mark zombie h b)
scope_shrinks {a} {b} name mark zombie h s =
    record {
      shorter = omega (arith, size_scope name mark zombie h a, size_scope name mark zombie h b);
      shallower = omega (arith, depth_scope name mark zombie h a, depth_scope name mark zombie h b);
    }

executor_shrinks : {a b : Run} (o : ℕ) (y : List ℕ) (client serial : ℕ) → NoLarger a b → NoLarger (executor o y client serial a) (executor o y client serial b)
executor_shrinks {a} {b} o y client serial s =
    record {
      shorter = omega (arith, size_executor o y client serial a, size_executor o y client serial b);
      shallower = omega (arith, depth_executor o y client serial a, depth_executor o y client serial b);
    }

same_size : (a : Run) → NoLarger a a
same_size a = record { shorter = le_refl (size a); shallower = le_refl (run_depth a) }

pub plug_shrinks : {n issued : ℕ} {fs : List Frame} {a b : Run} → SoundFrames n issued fs → NoLarger a b → NoLarger (plug fs a) (wrap fs b)
unfolding plug wrap
plug_shrinks no_frames s = s
plug_shrinks (one_frame (seq_frame_sound f) fs) s = plug_shrinks fs (seq_of_shrinks f s)
plug_shrinks (one_frame (left_frame_sound {b = c} f t) fs) s = plug_shrinks fs (par_of_shrinks s (same_size c))
plug_shrinks (one_frame (right_frame_sound {b = c} f t) fs) s = plug_shrinks fs (par_of_shrinks (same_size c) s)
plug_shrinks (one_frame (scope_frame_sound {name} {mark} {zombie} {h} x y z) fs) s = plug_shrinks fs (scope_shrinks name mark zombie h s)
plug_shrinks (one_frame (executor_frame_sound {o} {y} {client} {serial} u v w) fs) s = plug_shrinks fs (executor_shrinks o y client serial s)

-- ---- among the engines

-- as many values, and a process no larger
pub record Lighter (x y : Engine) : Type 0 where
  pub counted : length x.values ≡ length y.values
  pub process : NoLarger x.process y.process

engine_shorter : (x y : Engine) → Lighter x y → length (engine_words x) ≤ length (engine_words y)
unfolding engine_words size
engine_shorter x y l =
    omega (
      arith,
      l.process.shorter,
      length-append (values_words x.values) (run_words x.process),
      length-append (values_words y.values) (run_words y.process),
      values_length x.values,
      values_length y.values,
    )

-- no more words, and no deeper
pub record NoLargerAll (es gs : List Engine) : Type 0 where
  pub shorter : length (engines_words es) ≤ length (engines_words gs)
  pub shallower : engines_depth es ≤ engines_depth gs

set_shrinks : (es : List Engine) (e : ℕ) (x d : Engine) → e < length es → Lighter x (get_or es e d) → NoLargerAll (set es e x) es
unfolding engines_words engines_depth
set_shrinks [] e x d h l = absurd (omega arith)
set_shrinks (g ∷ es) zero x d h l =
    record {
      shorter = omega (arith, engine_shorter x g l, length-append (engine_words x) (engines_words es), length-append (engine_words g) (engines_words es));
      shallower = omega (arith, l.process.shallower);
    }
set_shrinks (g ∷ es) (suc e) x d h l =
    let rest : NoLargerAll (set es e x) es = set_shrinks es e x d (omega arith) l in
    record {
      shorter = omega (arith, length-append (engine_words g) (engines_words es), length-append (engine_words g) (engines_words (set es e x)));
      shallower = omega arith;
    }

-- two different engines, each by a lighter one
pub both_shrink :
    (es : List Engine) (e e' : ℕ) (x x' d : Engine) →
    (e ≡ e' → ⊥) →
    e < length es →
    e' < length es →
    Lighter x (get_or es e d) →
    Lighter x' (get_or es e' d) →
    NoLargerAll (set (set es e x) e' x') es
both_shrink es e e' x x' d apart h h' l l' =
    let one : NoLargerAll (set es e x) es = set_shrinks es e x d h l in
    let other : Lighter x' (get_or (set es e x) e' d) = rw (get_or-set_other es e e' x d (λ q. apart (sym q))) l' in
    let two : NoLargerAll (set (set es e x) e' x') (set es e x) = set_shrinks (set es e x) e' x' d (lt-length-set es e x h') other in
    record { shorter = omega arith; shallower = omega arith }
