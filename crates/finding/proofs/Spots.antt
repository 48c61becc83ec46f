-- What the search says of a process that it found, and that it says the same with one more frame around it.
-- Assumes nothing.
use Prim.Native.Nat.{ℕ, ◌+◌, ◌≤◌, ◌<◌}
use native.Mathlib.Omega.{arith}
use mathlib.Core.Path.{◌≡◌, refl, sym, ap, ◌∙◌}
use mathlib.Core.Bool.{Bool, true, false, not}
use mathlib.Core.Option.{none, some}
use mathlib.Core.List.{List, [], ◌∷◌, ◌++◌, append-nil}
use lib.Dec.{T}
use lib.ListN.{length, length-append}
use Rattle.sock.specs.Term.{Entries}
use Rattle.sock.specs.Running.{Run, nil, run_words, size}
use Rattle.sock.specs.Frames.{Frame, Located, is_done, plug, on_nearest}
use Rattle.sock.proofs.Located.{wrap}
use Rattle.sock.proofs.Measures.{words_nil}
use Rattle.finding.specs.declared.find.Site.{Site}
use Rattle.finding.proofs.Framing.{scoped, region, outside, plug_append, wrap_append, outside_first, Outer}
use Rattle.finding.proofs.Within.{behind, lifted, or_else, within}
use Rattle.finding.proofs.Stops.{stopped, any_scope, catches, stopped_append, Standing, nowhere, standing_under}
use Rattle.finding.proofs.Pieces.{Swap, Cut, swap_under, cut_under}

-- nil in the frames goes on, and the whole of r with it
pub record Ended (r : Run) (i : ℕ) (fs : List Frame) (d : ℕ) : Type 0 where
  pub gone : (g : Entries → Entries) → plug (on_nearest g fs) nil ≡ nil
  pub bare : T (not (scoped fs))
  pub till : d ≡ i + size r

-- `s` is where the process l stands: at `target`, in r, which begins at i and is `deep` levels deep; `f` is the fault to be caught, and
-- no fault if it is no throw's
pub record Spotted (f target : ℕ) (r : Run) (i deep : ℕ) (l : Located) (s : Site) : Type 0 where
  pub at : s.at ≡ target
  pub level : s.level ≡ deep + length l.frames
  pub wraps : wrap l.frames l.process ≡ r
  pub swap : Swap r i l.frames l.process s.scope target
  pub cut : Cut r i l.frames s.scope s.from s.upto s.gap s.end s.hollow
  pub nearest : Standing r i (stopped any_scope l.frames l.process) s.scope
  pub near_level : T (scoped l.frames) → s.scope_level ≡ deep + outside l.frames
  pub catcher : f < 64 → Standing r i (stopped (catches f) l.frames l.process) s.catcher
  pub alive : T s.closed → (g : Entries → Entries) → is_done (plug (on_nearest g l.frames) nil) ≡ false
  pub ends : T (not s.closed) → Ended r i l.frames s.end

-- ---- the process itself

abbrev here_spot : ℕ → ℕ → ℕ → Site
here_spot i level e =
    record { at = i; level = level; from = i; upto = e; gap = e; end = e; hollow = true; closed = false; scope = 0; scope_level = 0; catcher = 0 }

pub here_spotted : (f : ℕ) (r : Run) (i level e : ℕ) → e ≡ i + size r → Spotted f i r i level (record { frames = []; process = r }) (here_spot i level e)
unfolding wrap plug on_nearest scoped region stopped size
here_spotted f r i level e p =
    record {
      at = refl;
      level = omega arith;
      wraps = refl;
      swap =
          record {
            before = [];
            between = [];
            after = [];
            whole = sym (append-nil (run_words r));
            result = λ g q d. sym (append-nil (run_words q));
            alive = λ g q d. d;
            lists = λ t. absurd t;
            from = omega arith;
          };
      cut =
          record {
            before = [];
            between = [];
            gone = run_words r;
            middle = [];
            dropped = [];
            after = [];
            whole = sym (append-nil (run_words r));
            result = λ g. words_nil;
            lists = λ t. absurd t;
            from = omega arith;
            upto = p;
            again = omega arith;
            till = omega arith;
          };
      nearest = nowhere;
      near_level = λ t. absurd t;
      catcher = λ low. nowhere;
      alive = λ t. absurd t;
      ends = λ t. record { gone = λ g. refl; bare = tt; till = p };
    }

pub both : (b : Bool) → T b → T (not b) → ⊥
both true t u = u
both false t u = t

-- ---- a frame around that is no scope's

-- r is a in the frame o; it begins at i, and a at j
pub record Around (r a : Run) (i j : ℕ) (own more : List ℕ) (o : Frame) : Type 0 where
  pub there : j ≡ i + length own
  pub words : run_words r ≡ own ++ (run_words a ++ more)
  pub kept : (q : Run) → is_done q ≡ false → run_words (plug (o ∷ []) q) ≡ own ++ (run_words q ++ more)
  pub lives : (q : Run) → is_done q ≡ false → is_done (plug (o ∷ []) q) ≡ false
  pub wraps : wrap (o ∷ []) a ≡ r
  pub lifts : (k : ℕ) (l : Located) → j ≤ k → within a j k ≡ some l → within r i k ≡ some (behind (o ∷ []) l)

module _ (f target : ℕ) (r a : Run) (i j level : ℕ) (own more : List ℕ) (o : Frame) (around : Around r a i j own more o)
    (outer : (fs : List Frame) → Outer fs o) (passes : (test : Bool → Entries → Bool) (b : Run) → stopped test (o ∷ []) b ≡ none) where
  module _ (l : Located) (s : Site) (sub : Spotted f target a j (level + 1) l s) where
    stands :
        (test : Bool → Entries → Bool) (k : ℕ) →
        Standing a j (stopped test l.frames l.process) k →
        Standing r i (stopped test (l.frames ++ o ∷ []) l.process) k
    stands test k h =
        let e : stopped test (l.frames ++ o ∷ []) l.process ≡ or_else (lifted (o ∷ []) (stopped test l.frames l.process)) none =
        stopped_append test l.frames (o ∷ []) l.process
        ∙ ap (or_else (lifted (o ∷ []) (stopped test l.frames l.process))) (passes test (wrap l.frames l.process)) in
        rw e (standing_under r a i j o (omega (arith, around.there)) around.lifts h)

    -- with another cut
    pub under :
        (s' : Site) →
        s'.at ≡ s.at →
        s'.level ≡ s.level →
        s'.scope ≡ s.scope →
        s'.scope_level ≡ s.scope_level →
        s'.catcher ≡ s.catcher →
        Cut r i (l.frames ++ o ∷ []) s.scope s'.from s'.upto s'.gap s'.end s'.hollow →
        (T s'.closed → (g : Entries → Entries) → is_done (plug (on_nearest g (l.frames ++ o ∷ [])) nil) ≡ false) →
        (T (not s'.closed) → Ended r i (l.frames ++ o ∷ []) s'.end) →
        Spotted f target r i level (behind (o ∷ []) l) s'
    under s' p q u w v cut alive ends =
        record {
          at = p ∙ sub.at;
          level = omega (arith, q, sub.level, length-append l.frames (o ∷ []));
          wraps = wrap_append l.frames (o ∷ []) l.process ∙ (ap (wrap (o ∷ [])) sub.wraps ∙ around.wraps);
          swap =
              rw u
              (swap_under r a i j own more l.frames o around.there (outer l.frames) around.words s.scope target l.process around.kept
              around.lives sub.swap);
          cut = rw u cut;
          nearest = rw u (stands any_scope s.scope sub.nearest);
          near_level = λ t.
              let t' : T (scoped l.frames) = rw (outer l.frames).same at t in
              omega (arith, w, sub.near_level t', outside_first l.frames (o ∷ []) t');
          catcher = λ low. rw v (stands (catches f) s.catcher (sub.catcher low));
          alive = alive;
          ends = ends;
        }

    -- with the same cut, if that is closed
    pub under_closed : T s.closed → Spotted f target r i level (behind (o ∷ []) l) s
    under_closed t =
        under s refl refl refl refl refl
        (cut_under r a i j own more l.frames o around.there (outer l.frames) around.words s.scope s.from s.upto s.gap s.end s.hollow
        (λ g. around.kept (plug (on_nearest g l.frames) nil) (sub.alive t g)) sub.cut)
        (λ u g.
        rw ((outer l.frames).changed g, plug_append (on_nearest g l.frames) (o ∷ []) nil)
        (around.lives (plug (on_nearest g l.frames) nil) (sub.alive t g)))
        (λ u. absurd (both s.closed t u))
