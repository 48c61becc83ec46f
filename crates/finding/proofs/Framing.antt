-- Frames with one more around them: how they are put back, what their nearest scope is, how deep it stands, and its list's words.
-- Assumes nothing.
use Prim.Native.Nat.{ℕ, ◌+◌}
use mathlib.Core.Path.{◌≡◌, refl, sym, ap, ◌∙◌}
use mathlib.Core.Bool.{Bool, true, false, not}
use mathlib.Core.List.{List, [], ◌∷◌, ◌++◌, append-nil}
use lib.Dec.{T}
use lib.ListN.{length, length-append}
use Rattle.sock.specs.Term.{Node, Entries}
use Rattle.sock.specs.Layout.{count, entries_words}
use Rattle.sock.specs.Running.{Run, seq, par, scope, executor}
use Rattle.sock.specs.Frames.{Frame, seq_frame, left_frame, right_frame, scope_frame, executor_frame, seq_of, par_of, plug, on_nearest}
use Rattle.sock.proofs.Located.{wrap}
use Rattle.sock.proofs.Logic.{test_true}

-- whether a scope is among them, and the words of the nearest one's list
unfoldable pub scoped : List Frame → Bool
scoped [] = false
scoped (seq_frame q ∷ fs) = scoped fs
scoped (left_frame b ∷ fs) = scoped fs
scoped (right_frame b ∷ fs) = scoped fs
scoped (scope_frame name mark zombie h ∷ fs) = true
scoped (executor_frame o y client serial ∷ fs) = scoped fs

unfoldable pub region : List Frame → List ℕ
region [] = []
region (seq_frame q ∷ fs) = region fs
region (left_frame b ∷ fs) = region fs
region (right_frame b ∷ fs) = region fs
region (scope_frame name mark zombie h ∷ fs) = count h ∷ entries_words h
region (executor_frame o y client serial ∷ fs) = region fs

-- how many frames stand around the nearest scope
unfoldable pub outside : List Frame → ℕ
outside [] = 0
outside (seq_frame q ∷ fs) = outside fs
outside (left_frame b ∷ fs) = outside fs
outside (right_frame b ∷ fs) = outside fs
outside (scope_frame name mark zombie h ∷ fs) = length fs
outside (executor_frame o y client serial ∷ fs) = outside fs

pub plug_append : (xs ys : List Frame) (a : Run) → plug (xs ++ ys) a ≡ plug ys (plug xs a)
unfolding plug
plug_append [] ys a = refl
plug_append (seq_frame q ∷ xs) ys a = plug_append xs ys (seq_of a q)
plug_append (left_frame b ∷ xs) ys a = plug_append xs ys (par_of a b)
plug_append (right_frame b ∷ xs) ys a = plug_append xs ys (par_of b a)
plug_append (scope_frame name mark zombie h ∷ xs) ys a = plug_append xs ys (scope name mark zombie h a)
plug_append (executor_frame o y client serial ∷ xs) ys a = plug_append xs ys (executor o y client serial a)

pub wrap_append : (xs ys : List Frame) (a : Run) → wrap (xs ++ ys) a ≡ wrap ys (wrap xs a)
unfolding wrap
wrap_append [] ys a = refl
wrap_append (seq_frame q ∷ xs) ys a = wrap_append xs ys (seq a q)
wrap_append (left_frame b ∷ xs) ys a = wrap_append xs ys (par a b)
wrap_append (right_frame b ∷ xs) ys a = wrap_append xs ys (par b a)
wrap_append (scope_frame name mark zombie h ∷ xs) ys a = wrap_append xs ys (scope name mark zombie h a)
wrap_append (executor_frame o y client serial ∷ xs) ys a = wrap_append xs ys (executor o y client serial a)

-- ---- with no scope among them

pub region_none : (xs : List Frame) → T (not (scoped xs)) → region xs ≡ []
unfolding region scoped
region_none [] t = refl
region_none (seq_frame q ∷ xs) t = region_none xs t
region_none (left_frame b ∷ xs) t = region_none xs t
region_none (right_frame b ∷ xs) t = region_none xs t
region_none (scope_frame name mark zombie h ∷ xs) t = absurd t
region_none (executor_frame o y client serial ∷ xs) t = region_none xs t

pub nearest_none : (g : Entries → Entries) (xs ys : List Frame) → T (not (scoped xs)) → on_nearest g (xs ++ ys) ≡ xs ++ on_nearest g ys
unfolding on_nearest scoped
nearest_none g [] ys t = refl
nearest_none g (seq_frame q ∷ xs) ys t = ap (λ l. seq_frame q ∷ l) (nearest_none g xs ys t)
nearest_none g (left_frame b ∷ xs) ys t = ap (λ l. left_frame b ∷ l) (nearest_none g xs ys t)
nearest_none g (right_frame b ∷ xs) ys t = ap (λ l. right_frame b ∷ l) (nearest_none g xs ys t)
nearest_none g (scope_frame name mark zombie h ∷ xs) ys t = absurd t
nearest_none g (executor_frame o y client serial ∷ xs) ys t = ap (λ l. executor_frame o y client serial ∷ l) (nearest_none g xs ys t)

pub nearest_self : (g : Entries → Entries) (xs : List Frame) → T (not (scoped xs)) → on_nearest g xs ≡ xs
unfolding on_nearest
nearest_self g xs t = ap (on_nearest g) (sym (append-nil xs)) ∙ (nearest_none g xs [] t ∙ append-nil xs)

pub region_last : (xs ys : List Frame) → T (not (scoped xs)) → region (xs ++ ys) ≡ region ys
unfolding region scoped
region_last [] ys t = refl
region_last (seq_frame q ∷ xs) ys t = region_last xs ys t
region_last (left_frame b ∷ xs) ys t = region_last xs ys t
region_last (right_frame b ∷ xs) ys t = region_last xs ys t
region_last (scope_frame name mark zombie h ∷ xs) ys t = absurd t
region_last (executor_frame o y client serial ∷ xs) ys t = region_last xs ys t

pub outside_last : (xs ys : List Frame) → T (not (scoped xs)) → outside (xs ++ ys) ≡ outside ys
unfolding outside scoped
outside_last [] ys t = refl
outside_last (seq_frame q ∷ xs) ys t = outside_last xs ys t
outside_last (left_frame b ∷ xs) ys t = outside_last xs ys t
outside_last (right_frame b ∷ xs) ys t = outside_last xs ys t
outside_last (scope_frame name mark zombie h ∷ xs) ys t = absurd t
outside_last (executor_frame o y client serial ∷ xs) ys t = outside_last xs ys t

-- ---- with a scope among them

nearest_some : (g : Entries → Entries) (xs ys : List Frame) → T (scoped xs) → on_nearest g (xs ++ ys) ≡ on_nearest g xs ++ ys
unfolding on_nearest scoped
nearest_some g [] ys t = absurd t
nearest_some g (seq_frame q ∷ xs) ys t = ap (λ l. seq_frame q ∷ l) (nearest_some g xs ys t)
nearest_some g (left_frame b ∷ xs) ys t = ap (λ l. left_frame b ∷ l) (nearest_some g xs ys t)
nearest_some g (right_frame b ∷ xs) ys t = ap (λ l. right_frame b ∷ l) (nearest_some g xs ys t)
nearest_some g (scope_frame name mark zombie h ∷ xs) ys t = refl
nearest_some g (executor_frame o y client serial ∷ xs) ys t = ap (λ l. executor_frame o y client serial ∷ l) (nearest_some g xs ys t)

region_first : (xs ys : List Frame) → T (scoped xs) → region (xs ++ ys) ≡ region xs
unfolding region scoped
region_first [] ys t = absurd t
region_first (seq_frame q ∷ xs) ys t = region_first xs ys t
region_first (left_frame b ∷ xs) ys t = region_first xs ys t
region_first (right_frame b ∷ xs) ys t = region_first xs ys t
region_first (scope_frame name mark zombie h ∷ xs) ys t = refl
region_first (executor_frame o y client serial ∷ xs) ys t = region_first xs ys t

scoped_first : (xs ys : List Frame) → T (scoped xs) → scoped (xs ++ ys) ≡ true
unfolding scoped
scoped_first [] ys t = absurd t
scoped_first (seq_frame q ∷ xs) ys t = scoped_first xs ys t
scoped_first (left_frame b ∷ xs) ys t = scoped_first xs ys t
scoped_first (right_frame b ∷ xs) ys t = scoped_first xs ys t
scoped_first (scope_frame name mark zombie h ∷ xs) ys t = refl
scoped_first (executor_frame o y client serial ∷ xs) ys t = scoped_first xs ys t

pub outside_first : (xs ys : List Frame) → T (scoped xs) → outside (xs ++ ys) ≡ outside xs + length ys
unfolding outside scoped
outside_first [] ys t = absurd t
outside_first (seq_frame q ∷ xs) ys t = outside_first xs ys t
outside_first (left_frame b ∷ xs) ys t = outside_first xs ys t
outside_first (right_frame b ∷ xs) ys t = outside_first xs ys t
outside_first (scope_frame name mark zombie h ∷ xs) ys t = length-append xs ys
outside_first (executor_frame o y client serial ∷ xs) ys t = outside_first xs ys t

scoped_last : (xs ys : List Frame) → T (not (scoped xs)) → scoped (xs ++ ys) ≡ scoped ys
unfolding scoped
scoped_last [] ys t = refl
scoped_last (seq_frame q ∷ xs) ys t = scoped_last xs ys t
scoped_last (left_frame b ∷ xs) ys t = scoped_last xs ys t
scoped_last (right_frame b ∷ xs) ys t = scoped_last xs ys t
scoped_last (scope_frame name mark zombie h ∷ xs) ys t = absurd t
scoped_last (executor_frame o y client serial ∷ xs) ys t = scoped_last xs ys t

scoped_nearest : (g : Entries → Entries) (xs : List Frame) → scoped (on_nearest g xs) ≡ scoped xs
unfolding on_nearest scoped
scoped_nearest g [] = refl
scoped_nearest g (seq_frame q ∷ xs) = scoped_nearest g xs
scoped_nearest g (left_frame b ∷ xs) = scoped_nearest g xs
scoped_nearest g (right_frame b ∷ xs) = scoped_nearest g xs
scoped_nearest g (scope_frame name mark zombie h ∷ xs) = refl
scoped_nearest g (executor_frame o y client serial ∷ xs) = scoped_nearest g xs

-- ---- one more frame that leaves the nearest scope what it is

pub record Outer (fs : List Frame) (o : Frame) : Type 0 where
  pub changed : (g : Entries → Entries) → on_nearest g (fs ++ o ∷ []) ≡ on_nearest g fs ++ o ∷ []
  pub regions : (g : Entries → Entries) → region (on_nearest g fs ++ o ∷ []) ≡ region (on_nearest g fs)
  pub stays : region (fs ++ o ∷ []) ≡ region fs
  pub same : scoped (fs ++ o ∷ []) ≡ scoped fs

-- a frame that is no scope's
outer_plain :
    (fs : List Frame) (o : Frame) → ((g : Entries → Entries) → on_nearest g (o ∷ []) ≡ o ∷ []) → region (o ∷ []) ≡ [] → scoped (o ∷ []) ≡ false → Outer fs o
outer_plain fs o p q s = record { changed = λ g. changed g (scoped fs) refl; regions = λ g. shut (on_nearest g fs); stays = shut fs; same = same (scoped fs) refl }
  where
    shut : (xs : List Frame) → region (xs ++ o ∷ []) ≡ region xs
    shut xs = by (scoped xs) refl
      where
        by : (b : Bool) → scoped xs ≡ b → region (xs ++ o ∷ []) ≡ region xs
        by true e = region_first xs (o ∷ []) (rw e tt)
        by false e = region_last xs (o ∷ []) (rw e tt) ∙ (q ∙ rw (region_none xs (rw e tt)))

    changed : (g : Entries → Entries) (b : Bool) → scoped fs ≡ b → on_nearest g (fs ++ o ∷ []) ≡ on_nearest g fs ++ o ∷ []
    changed g true e = nearest_some g fs (o ∷ []) (rw e tt)
    changed g false e =
        let t : T (not (scoped fs)) = rw e tt in
        nearest_none g fs (o ∷ []) t ∙ (ap (λ l. fs ++ l) (p g) ∙ ap (λ l. l ++ o ∷ []) (sym (nearest_self g fs t)))

    same : (b : Bool) → scoped fs ≡ b → scoped (fs ++ o ∷ []) ≡ scoped fs
    same true e = scoped_first fs (o ∷ []) (rw e tt) ∙ rw e
    same false e = scoped_last fs (o ∷ []) (rw e tt) ∙ (s ∙ rw e)

pub outer_seq : (fs : List Frame) (q : Node) → Outer fs (seq_frame q)
unfolding on_nearest region scoped
outer_seq fs q = outer_plain fs (seq_frame q) (λ g. refl) refl refl

pub outer_left : (fs : List Frame) (b : Run) → Outer fs (left_frame b)
unfolding on_nearest region scoped
outer_left fs b = outer_plain fs (left_frame b) (λ g. refl) refl refl

pub outer_right : (fs : List Frame) (b : Run) → Outer fs (right_frame b)
unfolding on_nearest region scoped
outer_right fs b = outer_plain fs (right_frame b) (λ g. refl) refl refl

pub outer_executor : (fs : List Frame) (o : ℕ) (y : List ℕ) (client serial : ℕ) → Outer fs (executor_frame o y client serial)
unfolding on_nearest region scoped
outer_executor fs o y client serial = outer_plain fs (executor_frame o y client serial) (λ g. refl) refl refl

-- any frame, around a scope
pub outer_scoped : (fs : List Frame) (o : Frame) → T (scoped fs) → Outer fs o
outer_scoped fs o t =
    record {
      changed = λ g. nearest_some g fs (o ∷ []) t;
      regions = λ g. region_first (on_nearest g fs) (o ∷ []) (rw (scoped_nearest g fs) t);
      stays = region_first fs (o ∷ []) t;
      same = scoped_first fs (o ∷ []) t ∙ sym (test_true (scoped fs) t);
    }
