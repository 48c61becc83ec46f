-- The notes that reading leaves are right: each is where the process, or the list, that stands at its word ends.
-- Assumes nothing.
use Prim.Native.Nat.{ℕ, zero, suc, ◌+◌, ◌-◌, ◌*◌, ◌/◌, ◌%◌, ◌≤◌, ◌<◌, max}
use native.Mathlib.Omega.{arith}
use mathlib.Core.Path.{◌≡◌, refl, sym, ap, ◌∙◌}
use mathlib.Core.Bool.{Bool, true, false, ◌&&◌, cond}
use mathlib.Core.List.{List, [], ◌∷◌}
use borrow.Author.Tests.{eqb-true, eqb-false, ltb-true, ltb-false}
use lib.Bits.{bit_and}
use lib.Dec.{leb, ltb, eqb}
use lib.ListN.{length, get_or, set, drop, replicate, length-append, length-drop}
use lib.Seq.{set_out, get_or-set_same, get_or-set_other}
use Rattle.sock.specs.Configuration.{Limits}
use Rattle.sock.specs.Term.{Block}
use Rattle.sock.specs.Layout.{words, entries_words, block_words, depth, entries_depth, block_depth}
use Rattle.sock.specs.Reading.{Got, code}
use Rattle.sock.proofs.Fits.{FitsBlock, a_list}
use Rattle.sock.proofs.Reading.{Holds, something, holds_then, holds_check, Takes, list_found, read_found}
use Rattle.skipping.specs.Pass.{note_at, list_note_at}
use Rattle.skipping.proofs.Skips.{code_end, list_end_lem}
use Rattle.skipping.proofs.Notes.{RightNote, RightListNote, Right}
use Rattle.reading.specs.Survey.{opens}
use Rattle.reading.specs.Tables.{head_mask}
use Rattle.reading.specs.Walk.{when, at, process_end, list_end, marked_end, executor_own}
use Rattle.reading.proofs.Surveys.{is_open}
use Rattle.reading.proofs.Combining.{Words}
use Rattle.reading.proofs.Contexts.{number_of}
use Rattle.reading.proofs.Ending.{Ends, fails, reads}
use Rattle.reading.proofs.Lists as lists
use Rattle.reading.proofs.Parts.{is_code}
use Rattle.reading.proofs.Processes.{read_ends, process_read}
use Rattle.reading.proofs.Surveys.{process_inside}
use Rattle.noting.specs.declared.survey.Named.{Named}
use Rattle.noting.specs.Noting.{note_w, note_list_w, seq_notes, par_notes, body_notes, scope_notes, executor_notes, node_notes, noting, enabled_notes, notes_w, noted_in, engine_notes, engines_notes, survey_notes}

-- ---- one note more

-- what holds of a list's element, and of what is put at a place, holds of the element afterwards
at_set :
    (P : ℕ → Type 0) (m : List ℕ) (p q v : ℕ) → P (get_or m q 0) → (p ≡ q → P v) → P (get_or (set m p v) q 0)
at_set P m p q v old new = by (eqb p q) refl
  where
    inside : (b : Bool) → p ≡ q → ltb p (length m) ≡ b → P (get_or (set m p v) q 0)
    inside true e t = rw (← e, get_or-set_same m p v 0 (ltb-true p (length m) t)) (new e)
    inside false e t = rw (set_out m p v (ltb-false p (length m) t)) old

    by : (b : Bool) → eqb p q ≡ b → P (get_or (set m p v) q 0)
    by true t = inside (ltb p (length m)) (eqb-true p q t) refl
    by false t = rw (get_or-set_other m p q v 0 (λ z. eqb-false p q t (sym z))) old

blank_at : (n i : ℕ) → ◌≡◌ {A = ℕ} (get_or (replicate n 0) i 0) 0
blank_at zero i = refl
blank_at (suc n) zero = refl
blank_at (suc n) (suc i) = blank_at n i

module _ (ws : List ℕ) where
  small_rest : (e : ℕ) → e < 65536 → e % 65536 ≡ e
  small_rest e h = omega arith

  note_right : (m : List ℕ) (i e : ℕ) → e < 65536 → RightNote ws i e → Right ws m → Right ws (note_w m i e)
  unfolding note_w note_at list_note_at
  note_right m i e low noted r =
      record {
        of_process = λ j. at_set (RightNote ws j) m (i * 2 + 0) (j * 2) (e % 65536) (r.of_process j) (λ q. let same : i ≡ j = omega arith in rw (← same, small_rest e low) noted);
        of_list = λ j. at_set (RightListNote ws j) m (i * 2 + 0) (j * 2 + 1) (e % 65536) (r.of_list j) (λ q. absurd (omega arith));
      }

  note_list_right : (m : List ℕ) (i e : ℕ) → e < 65536 → RightListNote ws i e → Right ws m → Right ws (note_list_w m i e)
  unfolding note_list_w note_at list_note_at
  note_list_right m i e low noted r =
      record {
        of_process = λ j. at_set (RightNote ws j) m (i * 2 + 1) (j * 2) (e % 65536) (r.of_process j) (λ q. absurd (omega arith));
        of_list = λ j. at_set (RightListNote ws j) m (i * 2 + 1) (j * 2 + 1) (e % 65536) (r.of_list j) (λ q. let same : i ≡ j = omega arith in rw (← same, small_rest e low) noted);
      }

  -- no notes at all
  pub blank_right : (n : ℕ) → Right ws (replicate n 0)
  unfolding note_at list_note_at RightNote RightListNote
  blank_right n =
      record {
        of_process = λ i s p m f rest e some. absurd (some (blank_at n (i * 2)));
        of_list = λ i o l f rest e some. absurd (some (blank_at n (i * 2 + 1)));
      }

  cond_right : (b : Bool) (x y : List ℕ) → Right ws x → Right ws y → Right ws (cond b x y)
  cond_right true x y p q = p
  cond_right false x y p q = q

-- ---- where the reader ends

module _ (ws : List ℕ) (ok : Words ws) (short : length ws < 65536) (n issued : ℕ) (small : issued < 65536) where
  abbrev bound : ℕ
  bound = n * 65536 + issued

  end_small : (d c i : ℕ) → c < 12 → process_end d ws bound c i < 65536
  end_small d c i h = let inside : process_end d ws bound c i ≤ length ws = process_inside ws ok d bound c h i in omega arith

  -- two processes that stand at one place end at one place
  read_right : (d c i : ℕ) → c < 12 → RightNote ws i (process_end d ws bound c i)
  unfolding RightNote
  read_right d c i h s p m f rest e some =
      let r = process_read ws ok n issued small d c h i some in
      let g = read_found r.gives in
      let deep : ℕ = max (depth m) (depth r.value) in
      let there : i + length (words m) ≡ i + length (words r.value) =
      sym (code_end ws f deep i (omega arith) rest e) ∙ code_end ws g.fitting deep i (omega arith) (drop (process_end d ws bound c i) ws) g.begins in
      let long : length ws - i ≡ length (words r.value) + (length ws - process_end d ws bound c i) = simp (length-append, length-drop) at (ap length g.begins) in
      let past : i < process_end d ws bound c i = r.past in
      let within : process_end d ws bound c i ≤ length ws = r.within in
      omega arith

  -- and so do two lists
  list_ended :
      {g : Got Block} {x : ℕ} (d i : ℕ) →
      Ends ws i g x →
      Holds (Takes block_words (λ b. FitsBlock true 1 b × (block_depth b ≤ d)) (drop i ws)) g →
      RightListNote ws i x
  unfolding RightListNote words depth
  list_ended d i fails h o l f rest e some = absurd (some refl)
  list_ended d i (reads {e = x} past within) (something (begins, (a_list {l = l'} fits, shallow))) o l f rest e some =
      let deep : ℕ = max (entries_depth l) (entries_depth l') in
      let there : i + 1 + length (entries_words l) ≡ i + 1 + length (entries_words l') =
      sym (list_end_lem ws f deep i (omega arith) rest e) ∙ list_end_lem ws fits deep i (omega arith) (drop x ws) begins in
      let long : length ws - i ≡ suc (length (entries_words l')) + (length ws - x) = simp (length-append, length-drop) at (ap length begins) in
      omega arith

  list_small : {g : Got Block} {x : ℕ} (i : ℕ) → Ends ws i g x → x < 65536
  list_small i fails = omega arith
  list_small i (reads past within) = omega arith

  -- a list that may have to hold a key
  held_right : (d wanted i : ℕ) → RightListNote ws i (list_end (process_end d ws bound) ws 0 wanted i) × (list_end (process_end d ws bound) ws 0 wanted i < 65536)
  unfolding number_of
  held_right d wanted i =
      let ends = lists.list_end_lem ws ok bound d (λ c. read_ends ws ok bound d (code c) is_code) true wanted i i (omega arith) in
      (list_ended d i ends (holds_then (list_found d true (drop i ws)) λ b rest q. holds_check _ λ t. something q), list_small i ends)

  -- the list of a scope that runs, by its mark
  abbrev Listed : ℕ → ℕ → Type 0
  Listed i e = RightListNote ws i e × (e < 65536)

  none_listed : (i : ℕ) → Listed i 0
  unfolding RightListNote
  none_listed i = ((λ o l f rest e some. absurd (some refl)), omega arith)

  when_listed : (i : ℕ) (b : Bool) (e : ℕ) → Listed i e → Listed i (when b e)
  unfolding when
  when_listed i true e h = h
  when_listed i false e h = none_listed i

  one_of : (i k x y z : ℕ) → Listed i x → Listed i y → Listed i z → Listed i (get_or (x ∷ y ∷ z ∷ []) k 0)
  one_of i zero x y z p q r = p
  one_of i (suc zero) x y z p q r = q
  one_of i (suc (suc zero)) x y z p q r = r
  one_of i (suc (suc (suc k))) x y z p q r = none_listed i

  marked_right : (d h fault i : ℕ) → Listed i (marked_end (process_end d ws bound) ws h fault i)
  unfolding marked_end
  marked_right d h fault i =
      one_of i (h / 8 % 4) _ _ _ (when_listed i (eqb fault 0) _ (held_right d 128 i)) (when_listed i (eqb (fault % 1024) 0) _ (held_right d (fault / 1024) i))
      (when_listed i (eqb fault 0 && eqb (h / 4 % 2) 1) _ (held_right d 128 i))

  -- ---- the notes of a process

  -- what notes one level down leaves right notes
  abbrev Rightly : (ℕ → ℕ → List ℕ → List ℕ) → Type 0
  Rightly sub = (c i : ℕ) → c < 12 → (m : List ℕ) → Right ws m → Right ws (sub c i m)

  noting_right : (d : ℕ) → Rightly (enabled_notes d ws bound) → Rightly (notes_w d ws bound)
  unfolding noting
  noting_right d inner c i h m r =
      note_right ws (enabled_notes d ws bound c i m) i (process_end d ws bound c i) (end_small d c i h) (read_right d c i h) (inner c i h m r)

  module _ (d : ℕ) (below : Rightly (notes_w d ws bound)) where
    seq_right : (i : ℕ) (m : List ℕ) → Right ws m → Right ws (seq_notes (process_end d ws bound) (notes_w d ws bound) i m)
    unfolding seq_notes
    seq_right i m r =
        let first = below 9 i (omega arith) m r in
        cond_right ws (eqb (process_end d ws bound 9 i) 0) _ _ first
        (note_right ws _ (process_end d ws bound 9 i) (process_end d ws bound 0 (process_end d ws bound 9 i)) (end_small d 0 (process_end d ws bound 9 i) (omega arith))
        (read_right d 0 (process_end d ws bound 9 i) (omega arith)) first)

    par_right : (i : ℕ) (m : List ℕ) → Right ws m → Right ws (par_notes (process_end d ws bound) (notes_w d ws bound) i m)
    unfolding par_notes
    par_right i m r =
        let first = below 9 i (omega arith) m r in
        cond_right ws (eqb (process_end d ws bound 9 i) 0) _ _ first (below 9 (process_end d ws bound 9 i) (omega arith) _ first)

    scope_right : (h i : ℕ) (m : List ℕ) → Right ws m → Right ws (scope_notes (process_end d ws bound) (notes_w d ws bound) ws h i m)
    unfolding scope_notes body_notes
    scope_right h i m r =
        let e : ℕ = marked_end (process_end d ws bound) ws h (at ws (i + 1)) (i + 2) in
        let listed = marked_right d h (at ws (i + 1)) (i + 2) in
        cond_right ws (leb 3 (length ws - i)) _ _
        (cond_right ws (eqb e 0) _ _ r (below 8 e (omega arith) _ (note_list_right ws m (i + 2) e listed.1 listed.0 r))) r

    executor_right : (i : ℕ) (m : List ℕ) → Right ws m → Right ws (executor_notes (notes_w d ws bound) ws bound i m)
    unfolding executor_notes
    executor_right i m r = cond_right ws (eqb (executor_own ws bound i) 0) _ _ r (below 8 (executor_own ws bound i) (omega arith) m r)

    node_right : (h i : ℕ) (m : List ℕ) → Right ws m → Right ws (node_notes (process_end d ws bound) (notes_w d ws bound) ws bound h i m)
    unfolding node_notes
    node_right h i m r =
        cond_right ws (eqb (h / 2048) 2) _ _ (seq_right (i + 1) m r)
        (cond_right ws (eqb (h / 2048) 3) _ _ (par_right (i + 1) m r)
        (cond_right ws (eqb (h / 2048) 11) _ _ (scope_right h i m r) (cond_right ws (eqb (h / 2048) 16) _ _ (executor_right i m r) r)))

  enabled_right : (d : ℕ) → Rightly (enabled_notes d ws bound)
  unfolding enabled_notes
  enabled_right zero c i h m r = r
  enabled_right (suc d) c i h m r =
      cond_right ws (ltb i (length ws) && eqb (bit_and (at ws i + 65536) (head_mask c (at ws i / 2048))) 0) _ _ (node_right d (noting_right d (enabled_right d)) (at ws i) i m r) r

  engines_right : (d : ℕ) (named : Named) (left e i : ℕ) (m : List ℕ) → Right ws m → Right ws (engines_notes d ws bound named left e i m)
  unfolding engines_notes engine_notes
  engines_right d named zero e i m r = r
  engines_right d named (suc left) e i m r =
      let one = cond_right ws (noted_in named e) _ _ (noting_right d (enabled_right d) 11 (i + 64) (omega arith) m r) r in
      cond_right ws (ltb (length ws - i) 64) _ _ r
      (cond_right ws (eqb (process_end d ws bound 11 (i + 64)) 0) _ _ one (engines_right d named left (e + 1) (process_end d ws bound 11 (i + 64)) _ one))

-- ---- the notes of a configuration

pub survey_right : (limits : Limits) → limits.longest < 65536 → (named : Named) (ws : List ℕ) → Words ws → (m : List ℕ) → Right ws m → Right ws (survey_notes limits named ws m)
unfolding survey_notes
survey_right limits low named ws ok m r = by (opens limits ws) refl
  where
    by : (b : Bool) → b ≡ opens limits ws → Right ws (cond b (engines_notes limits.deepest ws (at ws 0 * 65536 + at ws 1) named (at ws 0) 0 2 m) m)
    by false e = r
    by true e =
        let o = is_open limits ws true e refl in
        engines_right ws ok (omega (arith, o.short)) (at ws 0) (at ws 1) (ok 1) limits.deepest named (at ws 0) 0 2 m r
