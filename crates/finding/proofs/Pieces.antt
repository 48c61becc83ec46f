-- The words of a process in pieces, around a part of it: what they are once that part becomes another process or nil, and the list of the
-- nearest scope another list. One more frame around the part adds words in front and behind.
-- Assumes nothing.
use Prim.Native.Nat.{ℕ, ◌+◌, ◌*◌}
use native.Mathlib.Omega.{arith}
use mathlib.Core.Path.{◌≡◌, refl, sym, ap, ◌∙◌}
use mathlib.Core.Bool.{Bool, true, false, not}
use mathlib.Core.List.{List, [], ◌∷◌, ◌++◌, append_assoc}
use lib.Dec.{T}
use lib.ListN.{length, length-append}
use Rattle.sock.specs.Term.{Entries}
use Rattle.sock.specs.Layout.{count, entries_words}
use Rattle.sock.specs.Running.{Mark, Run, nil, scope, marked_fault, scope_head, run_words}
use Rattle.sock.specs.Frames.{Frame, scope_frame, is_done, plug, on_nearest}
use Rattle.sock.proofs.Measures.{words_scope}
use Rattle.finding.proofs.Framing.{scoped, region, plug_append, region_none, nearest_none, nearest_self, region_last, Outer}

-- the words of a nil, if one stands there
abbrev pub hole : Bool → List ℕ
hole true = 0 ∷ []
hole false = []

-- r begins at i, and the frames fs in it stand around a process at `at`; any other but nil in its place
pub record Swap (r : Run) (i : ℕ) (fs : List Frame) (process : Run) (near at : ℕ) : Type 0 where
  pub before : List ℕ
  pub between : List ℕ
  pub after : List ℕ
  pub whole : run_words r ≡ before ++ (region fs ++ (between ++ (run_words process ++ after)))
  pub result :
      (g : Entries → Entries) (q : Run) →
      is_done q ≡ false →
      run_words (plug (on_nearest g fs) q) ≡ before ++ (region (on_nearest g fs) ++ (between ++ (run_words q ++ after)))
  pub alive : (g : Entries → Entries) (q : Run) → is_done q ≡ false → is_done (plug (on_nearest g fs) q) ≡ false
  pub lists : T (scoped fs) → near + 2 ≡ i + length before
  pub from : at ≡ i + (length before + (length (region fs) + length between))

-- and nil in its place: the words a..b go, or a nil stands there; c..d go
pub record Cut (r : Run) (i : ℕ) (fs : List Frame) (near a b c d : ℕ) (hollow : Bool) : Type 0 where
  pub before : List ℕ
  pub between : List ℕ
  pub gone : List ℕ
  pub middle : List ℕ
  pub dropped : List ℕ
  pub after : List ℕ
  pub whole : run_words r ≡ before ++ (region fs ++ (between ++ (gone ++ (middle ++ (dropped ++ after)))))
  pub result :
      (g : Entries → Entries) →
      run_words (plug (on_nearest g fs) nil) ≡ before ++ (region (on_nearest g fs) ++ (between ++ (hole hollow ++ (middle ++ after))))
  pub lists : T (scoped fs) → near + 2 ≡ i + length before
  pub from : a ≡ i + (length before + (length (region fs) + length between))
  pub upto : b ≡ a + length gone
  pub again : c ≡ b + length middle
  pub till : d ≡ c + length dropped

-- ---- a frame around that leaves the nearest scope what it is

-- words in front of three pieces and the rest, and behind them
around_4 :
    (own x y z t more : List ℕ) → own ++ ((x ++ (y ++ (z ++ t))) ++ more) ≡ (own ++ x) ++ (y ++ (z ++ (t ++ more)))
around_4 own x y z t more = simp append_assoc

behind_2 : (u v more : List ℕ) → (u ++ v) ++ more ≡ u ++ (v ++ more)
behind_2 u v more = simp append_assoc

behind_3 : (t u v more : List ℕ) → (t ++ (u ++ v)) ++ more ≡ t ++ (u ++ (v ++ more))
behind_3 t u v more = simp append_assoc

behind_4 : (s t u v more : List ℕ) → (s ++ (t ++ (u ++ v))) ++ more ≡ s ++ (t ++ (u ++ (v ++ more)))
behind_4 s t u v more = simp append_assoc

module _
    (r a : Run) (i j : ℕ) (own more : List ℕ) (fs : List Frame) (o : Frame) (there : j ≡ i + length own) (outer : Outer fs o)
    (words : run_words r ≡ own ++ (run_words a ++ more)) where
  -- a process that is not nil takes the frame's words on
  pub swap_under :
      (near at : ℕ) (process : Run) →
      ((q : Run) → is_done q ≡ false → run_words (plug (o ∷ []) q) ≡ own ++ (run_words q ++ more)) →
      ((q : Run) → is_done q ≡ false → is_done (plug (o ∷ []) q) ≡ false) →
      Swap a j fs process near at →
      Swap r i (fs ++ o ∷ []) process near at
  swap_under near at process kept lives s =
      record {
        before = own ++ s.before;
        between = s.between;
        after = s.after ++ more;
        whole =
            words
            ∙ (ap (λ l. own ++ (l ++ more)) s.whole
            ∙ (around_4 own s.before (region fs) s.between (run_words process ++ s.after) more
            ∙ rw (outer.stays, behind_2 (run_words process) s.after more)));
        result = λ g q e.
            rw (outer.changed g, plug_append (on_nearest g fs) (o ∷ []) q, outer.regions g)
            (kept (plug (on_nearest g fs) q) (s.alive g q e)
            ∙ (ap (λ l. own ++ (l ++ more)) (s.result g q e)
            ∙ (around_4 own s.before (region (on_nearest g fs)) s.between (run_words q ++ s.after) more
            ∙ ap (λ l. (own ++ s.before) ++ (region (on_nearest g fs) ++ (s.between ++ l))) (behind_2 (run_words q) s.after more))));
        alive = λ g q e.
            rw (outer.changed g, plug_append (on_nearest g fs) (o ∷ []) q) (lives (plug (on_nearest g fs) q) (s.alive g q e));
        lists = λ t. let near : near + 2 ≡ j + length s.before = s.lists (rw outer.same at t) in omega (arith, length-append own s.before);
        from = rw outer.stays (omega (arith, s.from, length-append own s.before));
      }

  -- and so does what nil in there has made
  pub cut_under :
      (near x y z w : ℕ) (hollow : Bool) →
      ((g : Entries → Entries) →
      run_words (plug (o ∷ []) (plug (on_nearest g fs) nil)) ≡ own ++ (run_words (plug (on_nearest g fs) nil) ++ more)) →
      Cut a j fs near x y z w hollow →
      Cut r i (fs ++ o ∷ []) near x y z w hollow
  cut_under near x y z w hollow kept s =
      record {
        before = own ++ s.before;
        between = s.between;
        gone = s.gone;
        middle = s.middle;
        dropped = s.dropped;
        after = s.after ++ more;
        whole =
            words
            ∙ (ap (λ l. own ++ (l ++ more)) s.whole
            ∙ (around_4 own s.before (region fs) s.between (s.gone ++ (s.middle ++ (s.dropped ++ s.after))) more
            ∙ rw (outer.stays, behind_4 s.gone s.middle s.dropped s.after more)));
        result = λ g.
            rw (outer.changed g, plug_append (on_nearest g fs) (o ∷ []) nil, outer.regions g)
            (kept g
            ∙ (ap (λ l. own ++ (l ++ more)) (s.result g)
            ∙ (around_4 own s.before (region (on_nearest g fs)) s.between (hole hollow ++ (s.middle ++ s.after)) more
            ∙ ap (λ l. (own ++ s.before) ++ (region (on_nearest g fs) ++ (s.between ++ l))) (behind_3 (hole hollow) s.middle s.after more))));
        lists = λ t. let near : near + 2 ≡ j + length s.before = s.lists (rw outer.same at t) in omega (arith, length-append own s.before);
        from = rw outer.stays (omega (arith, s.from, length-append own s.before));
        upto = s.upto;
        again = s.again;
        till = s.till;
      }

-- ---- a scope around frames that have none: its list is the nearest

abbrev scope_own : ℕ → Mark → Bool → List ℕ
scope_own name mark zombie = scope_head name mark zombie ∷ (marked_fault mark * 1024) ∷ []

-- the words of the scope, if those of its body are x, no list, y and t
framed :
    (name : ℕ) (mark : Mark) (zombie : Bool) (h : Entries) (a : Run) (x e y t : List ℕ) →
    e ≡ [] →
    run_words a ≡ x ++ (e ++ (y ++ t)) →
    run_words (scope name mark zombie h a) ≡ scope_own name mark zombie ++ ((count h ∷ entries_words h) ++ ((x ++ y) ++ t))
framed name mark zombie h a x e y t p q =
    words_scope name mark zombie h a
    ∙ ap (λ l. scope_head name mark zombie ∷ (marked_fault mark * 1024) ∷ count h ∷ (entries_words h ++ l))
    (q ∙ (ap (λ l. x ++ (l ++ (y ++ t))) p ∙ sym (append_assoc x y t)))

module _ (name : ℕ) (mark : Mark) (zombie : Bool) (h : Entries) (a : Run) (i j : ℕ) (fs : List Frame)
    (there : j ≡ i + (3 + length (entries_words h))) (none : T (not (scoped fs))) where
  -- the frames with the list changed, put back
  pub put_back_lem :
      (g : Entries → Entries) (q : Run) →
      plug (on_nearest g (fs ++ scope_frame name mark zombie h ∷ [])) q ≡ scope name mark zombie (g h) (plug (on_nearest g fs) q)
  unfolding on_nearest plug
  put_back_lem g q =
      rw (nearest_none g fs (scope_frame name mark zombie h ∷ []) none, nearest_self g fs none)
      (plug_append fs (scope_frame name mark zombie (g h) ∷ []) q)

  list_of : (g : Entries → Entries) → region (on_nearest g (fs ++ scope_frame name mark zombie h ∷ [])) ≡ count (g h) ∷ entries_words (g h)
  unfolding on_nearest region
  list_of g =
      rw (nearest_none g fs (scope_frame name mark zombie h ∷ []) none) (region_last fs (scope_frame name mark zombie (g h) ∷ []) none)

  list_is : region (fs ++ scope_frame name mark zombie h ∷ []) ≡ count h ∷ entries_words h
  unfolding region
  list_is = region_last fs (scope_frame name mark zombie h ∷ []) none

  list_none : (g : Entries → Entries) → region (on_nearest g fs) ≡ []
  list_none g = rw (nearest_self g fs none) (region_none fs none)

  -- where the part begins: at n, behind x and y of the body
  placed :
      (n : ℕ) (x y : List ℕ) →
      n ≡ j + (length x + (length (region fs) + length y)) →
      n ≡ i + (length (scope_own name mark zombie) + (length (region (fs ++ scope_frame name mark zombie h ∷ [])) + length (x ++ y)))
  placed n x y e =
      let none : length (region fs) ≡ 0 = ap length (region_none fs none) in
      let some : length (region (fs ++ scope_frame name mark zombie h ∷ [])) ≡ length (count h ∷ entries_words h) = ap length list_is in
      omega (arith, length-append x y)

  pub swap_scope :
      (near at : ℕ) (process : Run) →
      Swap a j fs process near at →
      Swap (scope name mark zombie h a) i (fs ++ scope_frame name mark zombie h ∷ []) process i at
  unfolding is_done
  swap_scope near at process s =
      record {
        before = scope_own name mark zombie;
        between = s.before ++ s.between;
        after = s.after;
        whole =
            rw list_is
            (framed name mark zombie h a s.before (region fs) s.between (run_words process ++ s.after) (region_none fs none) s.whole);
        result = λ g q e.
            rw (put_back_lem g q, list_of g)
            (framed name mark zombie (g h) (plug (on_nearest g fs) q) s.before (region (on_nearest g fs)) s.between (run_words q ++ s.after) (list_none g)
            (s.result g q e));
        alive = λ g q e. rw (put_back_lem g q);
        lists = λ t. refl;
        from = placed at s.before s.between s.from;
      }

  pub cut_scope :
      (near x y z w : ℕ) (hollow : Bool) →
      Cut a j fs near x y z w hollow →
      Cut (scope name mark zombie h a) i (fs ++ scope_frame name mark zombie h ∷ []) i x y z w hollow
  cut_scope near x y z w hollow s =
      record {
        before = scope_own name mark zombie;
        between = s.before ++ s.between;
        gone = s.gone;
        middle = s.middle;
        dropped = s.dropped;
        after = s.after;
        whole =
            rw list_is
            (framed name mark zombie h a s.before (region fs) s.between (s.gone ++ (s.middle ++ (s.dropped ++ s.after))) (region_none fs none)
            s.whole);
        result = λ g.
            rw (put_back_lem g nil, list_of g)
            (framed name mark zombie (g h) (plug (on_nearest g fs) nil) s.before (region (on_nearest g fs)) s.between (hole hollow ++ (s.middle ++ s.after))
            (list_none g) (s.result g));
        lists = λ t. refl;
        from = placed x s.before s.between s.from;
        upto = s.upto;
        again = s.again;
        till = s.till;
      }
