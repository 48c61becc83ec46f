-- The frames one by one: the words that each puts around a process, and the cut that is made where a nil in it goes on.
-- Assumes nothing.
use Prim.Native.Nat.{ℕ, ◌+◌, ◌*◌}
use native.Mathlib.Omega.{arith}
use mathlib.Core.Path.{◌≡◌, refl, sym, ap, ◌∙◌}
use mathlib.Core.Bool.{Bool, true, false, not}
use mathlib.Core.Option.{none}
use mathlib.Core.List.{List, [], ◌∷◌, ◌++◌, append-nil}
use lib.Dec.{T}
use lib.ListN.{length}
use Rattle.sock.specs.Kind
use Rattle.sock.specs.Words.{head_of, name_fields}
use Rattle.sock.specs.Term.{Node, Entries}
use Rattle.sock.specs.Layout.{words, count, entries_words}
use Rattle.sock.specs.Variables.{first_of, variable_words}
use Rattle.sock.specs.Running.{Mark, Run, nil, seq, par, scope, executor, marked_fault, scope_head, run_words, size, enable}
use Rattle.sock.specs.Frames.{Frame, seq_frame, left_frame, right_frame, scope_frame, executor_frame, Located, is_done, seq_of, par_of, plug, on_nearest}
use Rattle.sock.proofs.Located.{wrap}
use Rattle.sock.proofs.Logic.{test_false}
use Rattle.sock.proofs.Measures.{words_nil, words_seq, words_par, words_scope, words_executor, size_seq}
use Rattle.finding.specs.declared.find.Site.{Site}
use Rattle.finding.specs.Find.{cut}
use Rattle.finding.proofs.Framing.{scoped, region, plug_append, region_none, nearest_self, Outer, outer_seq, outer_left, outer_right}
use Rattle.finding.proofs.Within.{behind, lifted, or_else, within, within_seq, within_par, within_scope, within_executor, within_past}
use Rattle.finding.proofs.Stops.{stopped}
use Rattle.finding.proofs.Pieces.{hole, Cut}
use Rattle.finding.proofs.Spots.{Ended, Spotted, both, Around, under}

-- ---- the words around

pub around_seq : (a : Run) (q : Node) (i : ℕ) → Around (seq a q) a i (i + 1) (head_of Kind.seq 0 ∷ []) (words q) (seq_frame q)
unfolding plug seq_of wrap is_done lifted
around_seq a q i =
    record {
      there = omega arith;
      words = words_seq a q;
      kept = λ x e. rw e (words_seq x q);
      lives = λ x e. rw e;
      wraps = refl;
      lifts = λ k l h e. within_seq i k (λ z. omega arith) a q ∙ ap (lifted (seq_frame q ∷ [])) e;
    }

par_alive : (a b : Run) → is_done (par a b) ≡ false
unfolding is_done
par_alive a b = refl

pub around_left : (a b : Run) (i : ℕ) → T (not (is_done b)) → Around (par a b) a i (i + 1) (head_of Kind.par 0 ∷ []) (run_words b) (left_frame b)
unfolding plug par_of wrap lifted or_else
around_left a b i t =
    record {
      there = omega arith;
      words = words_par a b;
      kept = λ x e. rw (e, test_false (is_done b) t) (words_par x b);
      lives = λ x e. rw (e, test_false (is_done b) t) (par_alive x b);
      wraps = refl;
      lifts = λ k l h e.
          within_par i k (λ z. omega arith) a b ∙ ap (λ x. or_else (lifted (left_frame b ∷ []) x) (lifted (right_frame a ∷ []) (within b (i + 1 + size a) k))) e;
    }

pub around_right :
    (a b : Run) (i : ℕ) → T (not (is_done a)) → Around (par a b) b i (i + 1 + size a) (head_of Kind.par 0 ∷ run_words a) [] (right_frame a)
unfolding plug par_of wrap lifted or_else size
around_right a b i t =
    record {
      there = omega arith;
      words = words_par a b ∙ ap (λ l. head_of Kind.par 0 ∷ (run_words a ++ l)) (sym (append-nil (run_words b)));
      kept = λ x e.
          rw (e, test_false (is_done a) t) (words_par a x ∙ ap (λ l. head_of Kind.par 0 ∷ (run_words a ++ l)) (sym (append-nil (run_words x))));
      lives = λ x e. rw (e, test_false (is_done a) t) (par_alive a x);
      wraps = refl;
      lifts = λ k l h e.
          within_par i k (λ z. omega arith) a b
          ∙ (ap (λ x. or_else (lifted (left_frame b ∷ []) x) (lifted (right_frame a ∷ []) (within b (i + 1 + size a) k))) (within_past a (i + 1) k h)
          ∙ ap (lifted (right_frame a ∷ [])) e);
    }

abbrev pub executor_words : ℕ → List ℕ → ℕ → ℕ → List ℕ
executor_words o y client serial = head_of Kind.executor (name_fields o (first_of y)) ∷ (client * 8192) ∷ serial ∷ variable_words y

pub around_executor :
    (o : ℕ) (y : List ℕ) (client serial : ℕ) (a : Run) (i : ℕ) →
    Around (executor o y client serial a) a i (i + (3 + length (variable_words y))) (executor_words o y client serial) []
    (executor_frame o y client serial)
unfolding plug wrap is_done lifted
around_executor o y client serial a i =
    record {
      there = omega arith;
      words = kept a;
      kept = λ x e. kept x;
      lives = λ x e. refl;
      wraps = refl;
      lifts = λ k l h e. within_executor i k (λ z. omega arith) o y client serial a ∙ ap (lifted (executor_frame o y client serial ∷ [])) e;
    }
  where
    kept : (x : Run) → run_words (executor o y client serial x) ≡ executor_words o y client serial ++ (run_words x ++ [])
    kept x =
        words_executor o y client serial x
        ∙ ap (λ l. head_of Kind.executor (name_fields o (first_of y)) ∷ (client * 8192) ∷ serial ∷ (variable_words y ++ l)) (sym (append-nil (run_words x)))

abbrev pub scope_words : ℕ → Mark → Bool → Entries → List ℕ
scope_words name mark zombie h = scope_head name mark zombie ∷ (marked_fault mark * 1024) ∷ count h ∷ entries_words h

pub scope_kept :
    (name : ℕ) (mark : Mark) (zombie : Bool) (h : Entries) (x : Run) →
    run_words (scope name mark zombie h x) ≡ scope_words name mark zombie h ++ (run_words x ++ [])
scope_kept name mark zombie h x =
    words_scope name mark zombie h x
    ∙ ap (λ l. scope_head name mark zombie ∷ (marked_fault mark * 1024) ∷ count h ∷ (entries_words h ++ l)) (sym (append-nil (run_words x)))

pub around_scope :
    (name : ℕ) (mark : Mark) (zombie : Bool) (h : Entries) (a : Run) (i : ℕ) →
    Around (scope name mark zombie h a) a i (i + (3 + length (entries_words h))) (scope_words name mark zombie h) [] (scope_frame name mark zombie h)
unfolding plug wrap is_done lifted
around_scope name mark zombie h a i =
    record {
      there = omega arith;
      words = scope_kept name mark zombie h a;
      kept = λ x e. scope_kept name mark zombie h x;
      lives = λ x e. refl;
      wraps = refl;
      lifts = λ k l p e. within_scope i k (λ z. omega arith) name mark zombie h a ∙ ap (lifted (scope_frame name mark zombie h ∷ [])) e;
    }

-- ---- no scope around: the cut is all that changes

bare_cut :
    (r : Run) (i : ℕ) (fs : List Frame) (near b c d : ℕ) (hollow : Bool) (gone middle dropped after : List ℕ) →
    T (not (scoped fs)) →
    run_words r ≡ gone ++ (middle ++ (dropped ++ after)) →
    ((g : Entries → Entries) → run_words (plug (on_nearest g fs) nil) ≡ hole hollow ++ (middle ++ after)) →
    b ≡ i + length gone →
    c ≡ b + length middle →
    d ≡ c + length dropped →
    Cut r i fs near i b c d hollow
bare_cut r i fs near b c d hollow gone middle dropped after bare whole result p q u =
    let empty : length (region fs) ≡ 0 = ap length (region_none fs bare) in
    record {
      before = [];
      between = [];
      gone = gone;
      middle = middle;
      dropped = dropped;
      after = after;
      whole = rw (region_none fs bare) whole;
      result = λ g. rw (nearest_self g fs bare, region_none fs bare) (rw (nearest_self g fs bare) at (result g));
      lists = λ t. absurd (both (scoped fs) t bare);
      from = omega arith;
      upto = p;
      again = q;
      till = u;
    }

-- nil in the frames has gone on so far: it meets the next one
met : {a : Run} {j d : ℕ} {fs : List Frame} {o : Frame} → Outer fs o → Ended a j fs d → (g : Entries → Entries) → plug (on_nearest g (fs ++ o ∷ [])) nil ≡ plug (o ∷ []) nil
met {fs = fs} {o = o} outer e g = rw (outer.changed g, plug_append (on_nearest g fs) (o ∷ []) nil, e.gone g)

bare_still : {a : Run} {j d : ℕ} {fs : List Frame} {o : Frame} → Outer fs o → Ended a j fs d → T (not (scoped (fs ++ o ∷ [])))
bare_still outer e = rw outer.same e.bare

-- ---- where a nil goes on, or another process takes the place

nil_left : (b : Run) → par_of nil b ≡ b
unfolding par_of is_done
nil_left b = refl

nil_done : is_done nil ≡ true
unfolding is_done
nil_done = refl

nil_right : (b : Run) → T (not (is_done b)) → par_of b nil ≡ b
unfolding par_of
nil_right b t = rw (test_false (is_done b) t, nil_done)

module _ (f target : ℕ) (r a : Run) (i j level : ℕ) (own more : List ℕ) (o : Frame) (around : Around r a i j own more o)
    (outer : (fs : List Frame) → Outer fs o) (passes : (test : Bool → Entries → Bool) (b : Run) → stopped test (o ∷ []) b ≡ none)
    (l : Located) (s : Site) (sub : Spotted f target a j (level + 1) l s) (open' : T (not s.closed)) where
  ended : Ended a j l.frames s.end
  ended = sub.ends open'

  -- x takes it, with the words `middle` and `after` of r
  closing :
      (x : Run) (b c d : ℕ) (gone middle dropped after : List ℕ) →
      plug (o ∷ []) nil ≡ x →
      is_done x ≡ false →
      run_words x ≡ middle ++ after →
      run_words r ≡ gone ++ (middle ++ (dropped ++ after)) →
      b ≡ i + length gone →
      c ≡ b + length middle →
      d ≡ c + length dropped →
      Spotted f target r i level (behind (o ∷ []) l) (cut s i b c d false)
  closing x b c d gone middle dropped after p e w whole q u v =
      under f target r a i j level own more o around outer passes l s sub (cut s i b c d false) refl refl refl refl refl
      (bare_cut r i (l.frames ++ o ∷ []) s.scope b c d false gone middle dropped after (bare_still (outer l.frames) ended) whole
      (λ g. ap run_words (met (outer l.frames) ended g ∙ p) ∙ w) q u v)
      (λ t g. ap is_done (met (outer l.frames) ended g ∙ p) ∙ e)
      (λ t. absurd t)

  -- a nil takes it
  going_on : (e : ℕ) → plug (o ∷ []) nil ≡ nil → e ≡ i + size r → Spotted f target r i level (behind (o ∷ []) l) (cut s i e e e true)
  unfolding size
  going_on e p q =
      under f target r a i j level own more o around outer passes l s sub (cut s i e e e true) refl refl refl refl refl
      (bare_cut r i (l.frames ++ o ∷ []) s.scope e e e true (run_words r) [] [] [] (bare_still (outer l.frames) ended)
      (sym (append-nil (run_words r))) (λ g. ap run_words (met (outer l.frames) ended g ∙ p) ∙ words_nil) q (omega arith) (omega arith))
      (λ t. absurd t)
      (λ t. record { gone = λ g. met (outer l.frames) ended g ∙ p; bare = bare_still (outer l.frames) ended; till = q })

module _ (f target i level : ℕ) (a : Run) (l : Located) (s : Site) (open' : T (not s.closed)) where
  -- before a nil second, and before another
  pub seq_hollow :
      (q : Node) →
      words q ≡ 0 ∷ [] →
      enable q ≡ nil →
      Spotted f target a (i + 1) (level + 1) l s →
      Spotted f target (seq a q) i level (behind (seq_frame q ∷ []) l) (cut s i (s.end + 1) (s.end + 1) (s.end + 1) true)
  unfolding plug seq_of is_done stopped
  seq_hollow q w e sub =
      going_on f target (seq a q) a i (i + 1) level (head_of Kind.seq 0 ∷ []) (words q) (seq_frame q) (around_seq a q i) (λ fs. outer_seq fs q)
      (λ test b. refl) l s sub open' (s.end + 1) e
      (omega (arith, (sub.ends open').till, size_seq a q, ap length w))

  pub seq_shut :
      (q : Node) →
      run_words (enable q) ≡ words q →
      is_done (enable q) ≡ false →
      Spotted f target a (i + 1) (level + 1) l s →
      Spotted f target (seq a q) i level (behind (seq_frame q ∷ []) l) (cut s i s.end s.end s.end false)
  unfolding plug seq_of is_done stopped size
  seq_shut q w e sub =
      closing f target (seq a q) a i (i + 1) level (head_of Kind.seq 0 ∷ []) (words q) (seq_frame q) (around_seq a q i) (λ fs. outer_seq fs q)
      (λ test b. refl) l s sub open' (enable q) s.end s.end s.end (head_of Kind.seq 0 ∷ run_words a) [] [] (words q) refl e w (words_seq a q)
      (omega (arith, (sub.ends open').till)) (omega arith) (omega arith)

  pub left_shut :
      (b : Run) →
      T (not (is_done b)) →
      Spotted f target a (i + 1) (level + 1) l s →
      Spotted f target (par a b) i level (behind (left_frame b ∷ []) l) (cut s i s.end s.end s.end false)
  unfolding plug par_of stopped size
  left_shut b t sub =
      closing f target (par a b) a i (i + 1) level (head_of Kind.par 0 ∷ []) (run_words b) (left_frame b) (around_left a b i t) (λ fs. outer_left fs b)
      (λ test b. refl) l s sub open' b s.end s.end s.end (head_of Kind.par 0 ∷ run_words a) [] [] (run_words b) (nil_left b) (test_false (is_done b) t)
      refl (words_par a b) (omega (arith, (sub.ends open').till)) (omega arith) (omega arith)

  pub right_shut :
      (b : Run) (e : ℕ) →
      e ≡ i + 1 + size b →
      T (not (is_done b)) →
      Spotted f target a (i + 1 + size b) (level + 1) l s →
      Spotted f target (par b a) i level (behind (right_frame b ∷ []) l) (cut s i (i + 1) e s.end false)
  unfolding plug stopped size
  right_shut b e p t sub =
      closing f target (par b a) a i (i + 1 + size b) level (head_of Kind.par 0 ∷ run_words b) [] (right_frame b) (around_right b a i t)
      (λ fs. outer_right fs b) (λ test b. refl) l s sub open' b (i + 1) e s.end (head_of Kind.par 0 ∷ []) (run_words b) (run_words a) [] (nil_right b t)
      (test_false (is_done b) t) (sym (append-nil (run_words b)))
      (words_par b a ∙ ap (λ l. head_of Kind.par 0 ∷ (run_words b ++ l)) (sym (append-nil (run_words a))))
      (omega arith) (omega arith) (omega (arith, (sub.ends open').till))
