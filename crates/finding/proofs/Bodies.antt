-- The body of an executor or a scope: nil in it is closed there, and a scope may be the nearest one or the one that catches.
-- Assumes nothing.
use Prim.Native.Nat.{ℕ, ◌+◌, ◌≤◌, ◌<◌}
use native.Mathlib.Omega.{arith}
use mathlib.Core.Path.{◌≡◌, refl, ap, ◌∙◌}
use mathlib.Core.Bool.{Bool, true, false, not, cond}
use mathlib.Core.Option.{Option, none, some}
use mathlib.Core.List.{List, [], ◌∷◌, ◌++◌}
use borrow.Author.Tests.{ne_eqb}
use lib.Dec.{T, eqb}
use lib.ListN.{length, length-append}
use Rattle.sock.specs.Term.{Entries}
use Rattle.sock.specs.Layout.{entries_words}
use Rattle.sock.specs.Variables.{variable_words}
use Rattle.sock.specs.Running.{Mark, Run, nil, scope, executor}
use Rattle.sock.specs.Frames.{Frame, scope_frame, executor_frame, Located, is_done, plug, on_nearest}
use Rattle.sock.proofs.Located.{wrap}
use Rattle.finding.specs.declared.find.Site.{Site}
use Rattle.finding.specs.Find.{scope_of, level_of}
use Rattle.finding.proofs.Framing.{scoped, outside, plug_append, wrap_append, outside_last, outside_first, Outer, outer_executor, outer_scoped}
use Rattle.finding.proofs.Within.{behind, lifted, or_else, within_here}
use Rattle.finding.proofs.Stops.{stopped, any_scope, catches, stopped_append, Standing, standing_scope, standing_none, any_none, any_some}
use Rattle.finding.proofs.Pieces.{Swap, Cut, swap_under, cut_under, put_back_lem, swap_scope, cut_scope}
use Rattle.finding.proofs.Spots.{Spotted, Around, under}
use Rattle.finding.proofs.Arounds.{executor_words, around_executor, scope_words, scope_kept, around_scope}

-- the spot closed, with another nearest scope at another level, and another catcher
abbrev closed_spot : Site → ℕ → ℕ → ℕ → Site
closed_spot s near near_level catcher =
    record {
      at = s.at;
      level = s.level;
      from = s.from;
      upto = s.upto;
      gap = s.gap;
      end = s.end;
      hollow = s.hollow;
      closed = true;
      scope = near;
      scope_level = near_level;
      catcher = catcher;
    }

pub executor_spotted :
    (f target i level o : ℕ) (y : List ℕ) (client serial : ℕ) (a : Run) (l : Located) (s : Site) →
    Spotted f target a (i + (3 + length (variable_words y))) (level + 1) l s →
    Spotted f target (executor o y client serial a) i level (behind (executor_frame o y client serial ∷ []) l) (closed_spot s s.scope s.scope_level s.catcher)
unfolding plug stopped is_done
executor_spotted f target i level o y client serial a l s sub =
    let frame : Frame = executor_frame o y client serial in
    let own : List ℕ = executor_words o y client serial in
    let j : ℕ = i + (3 + length (variable_words y)) in
    let around : Around (executor o y client serial a) a i j own [] frame = around_executor o y client serial a i in
    let outer : Outer l.frames frame = outer_executor l.frames o y client serial in
    under f target (executor o y client serial a) a i j level own [] frame around (λ fs. outer_executor fs o y client serial) (λ test b. refl) l s sub
    (closed_spot s s.scope s.scope_level s.catcher) refl refl refl refl refl
    (cut_under (executor o y client serial a) a i j own [] l.frames frame around.there outer around.words s.scope s.from s.upto s.gap s.end
    s.hollow (λ g. (around_executor o y client serial (plug (on_nearest g l.frames) nil) i).words) sub.cut)
    (λ t g. rw (outer.changed g, plug_append (on_nearest g l.frames) (frame ∷ []) nil))
    (λ t. absurd t)

module _ (f target i level name : ℕ) (mark : Mark) (zombie : Bool) (h : Entries) (a : Run) (l : Located) (s : Site) (positive : 0 < i)
    (sub : Spotted f target a (i + (3 + length (entries_words h))) (level + 1) l s) where
  around : Around (scope name mark zombie h a) a i (i + (3 + length (entries_words h))) (scope_words name mark zombie h) [] (scope_frame name mark zombie h)
  around = around_scope name mark zombie h a i

  stands :
      (test : Bool → Entries → Bool) (k : ℕ) →
      Standing a (i + (3 + length (entries_words h))) (stopped test l.frames l.process) k →
      Standing (scope name mark zombie h a) i (stopped test (l.frames ++ scope_frame name mark zombie h ∷ []) l.process)
      (cond (eqb k 0) (cond (test zombie h) i 0) k)
  unfolding stopped
  stands test k p =
      let frame : Frame = scope_frame name mark zombie h in
      let inner : Option Located = lifted (frame ∷ []) (stopped test l.frames l.process) in
      let last : Option Located = cond (test zombie h) (some (record { frames = []; process = scope name mark zombie h a })) none in
      let e : stopped test (l.frames ++ frame ∷ []) l.process ≡ or_else inner last =
      stopped_append test l.frames (frame ∷ []) l.process ∙ ap (λ b. or_else inner (stopped test (frame ∷ []) b)) sub.wraps in
      rw e
      (standing_scope (scope name mark zombie h a) a i (i + (3 + length (entries_words h))) frame (omega arith) around.lifts (test zombie h) _ positive
      (within_here (scope name mark zombie h a) i) p)

  -- the scope's list is the nearest one, or one further in is
  record Pieced : Type 0 where
    swap : Swap (scope name mark zombie h a) i (l.frames ++ scope_frame name mark zombie h ∷ []) l.process (scope_of i s.scope) target
    cut :
        Cut (scope name mark zombie h a) i (l.frames ++ scope_frame name mark zombie h ∷ []) (scope_of i s.scope) s.from s.upto s.gap s.end s.hollow
    near_level : level_of level s.scope s.scope_level ≡ level + outside (l.frames ++ scope_frame name mark zombie h ∷ [])
    alive : (g : Entries → Entries) → is_done (plug (on_nearest g (l.frames ++ scope_frame name mark zombie h ∷ [])) nil) ≡ false

  scope_first : s.scope ≡ 0 → scope_of i s.scope ≡ i
  unfolding scope_of
  scope_first e = rw e

  scope_inner : i + (3 + length (entries_words h)) ≤ s.scope → scope_of i s.scope ≡ s.scope
  unfolding scope_of
  scope_inner le = rw (ne_eqb s.scope 0 (λ z. omega arith))

  level_first : s.scope ≡ 0 → level_of level s.scope s.scope_level ≡ level
  unfolding level_of
  level_first e = rw e

  level_inner : i + (3 + length (entries_words h)) ≤ s.scope → level_of level s.scope s.scope_level ≡ s.scope_level
  unfolding level_of
  level_inner le = rw (ne_eqb s.scope 0 (λ z. omega arith))

  nearest_here : T (not (scoped l.frames)) → Pieced
  unfolding is_done outside
  nearest_here t =
      let z : s.scope ≡ 0 = standing_none sub.nearest (any_none l.frames l.process t) in
      let e : scope_of i s.scope ≡ i = scope_first z in
      record {
        swap = rw e (swap_scope name mark zombie h a i (i + (3 + length (entries_words h))) l.frames refl t s.scope target l.process sub.swap);
        cut =
            rw e
            (cut_scope name mark zombie h a i (i + (3 + length (entries_words h))) l.frames refl t s.scope s.from s.upto s.gap s.end s.hollow
            sub.cut);
        near_level = omega (arith, level_first z, outside_last l.frames (scope_frame name mark zombie h ∷ []) t);
        alive = λ g. rw (put_back_lem name mark zombie h a i (i + (3 + length (entries_words h))) l.frames refl t g nil);
      }

  nearest_inner : T (scoped l.frames) → Pieced
  unfolding plug is_done
  nearest_inner t =
      let z : i + (3 + length (entries_words h)) ≤ s.scope = any_some l.frames l.process t sub.nearest in
      let e : scope_of i s.scope ≡ s.scope = scope_inner z in
      let frame : Frame = scope_frame name mark zombie h in
      let outer : Outer l.frames frame = outer_scoped l.frames frame t in
      record {
        swap =
            rw e
            (swap_under (scope name mark zombie h a) a i (i + (3 + length (entries_words h))) (scope_words name mark zombie h) [] l.frames frame
            around.there outer around.words s.scope target l.process around.kept around.lives sub.swap);
        cut =
            rw e
            (cut_under (scope name mark zombie h a) a i (i + (3 + length (entries_words h))) (scope_words name mark zombie h) [] l.frames frame
            around.there outer around.words s.scope s.from s.upto s.gap s.end s.hollow
            (λ g. scope_kept name mark zombie h (plug (on_nearest g l.frames) nil)) sub.cut);
        near_level = omega (arith, level_inner z, sub.near_level t, outside_first l.frames (frame ∷ []) t);
        alive = λ g. rw (outer.changed g, plug_append (on_nearest g l.frames) (frame ∷ []) nil);
      }

  pieced : (b : Bool) → scoped l.frames ≡ b → Pieced
  pieced true e = nearest_inner (rw e tt)
  pieced false e = nearest_here (rw e tt)

  pub scope_spotted :
      (catcher : ℕ) →
      (f < 64 → catcher ≡ cond (eqb s.catcher 0) (cond (catches f zombie h) i 0) s.catcher) →
      Spotted f target (scope name mark zombie h a) i level (behind (scope_frame name mark zombie h ∷ []) l)
      (closed_spot s (scope_of i s.scope) (level_of level s.scope s.scope_level) catcher)
  unfolding scope_of
  scope_spotted catcher e =
      let frame : Frame = scope_frame name mark zombie h in
      let p : Pieced = pieced (scoped l.frames) refl in
      record {
        at = sub.at;
        level = omega (arith, sub.level, length-append l.frames (frame ∷ []));
        wraps = wrap_append l.frames (frame ∷ []) l.process ∙ (ap (wrap (frame ∷ [])) sub.wraps ∙ around.wraps);
        swap = p.swap;
        cut = p.cut;
        nearest = stands any_scope s.scope sub.nearest;
        near_level = λ t. p.near_level;
        catcher = λ low. rw (e low) (stands (catches f) s.catcher (sub.catcher low));
        alive = λ t. p.alive;
        ends = λ t. absurd t;
      }
