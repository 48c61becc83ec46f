-- The law of throw: with notes that are right, what the edit makes of an engine's process is the climb of the fault.
-- Assumes nothing.
use Prim.Native.Nat.{ℕ, zero, ◌+◌, ◌-◌, ◌*◌, ◌/◌, ◌≤◌, ◌<◌}
use native.Mathlib.Omega.{arith}
use mathlib.Core.Path.{◌≡◌, refl, sym, ap, ◌∙◌}
use mathlib.Core.Bool.{Bool, true, false, cond}
use mathlib.Core.Option.{Option, none, some}
use mathlib.Core.List.{List, [], ◌∷◌, ◌++◌, append-nil, append_assoc}
use borrow.Author.Tests.{eq-eqb, ne_eqb, leb-true}
use lib.Dec.{T, eqb, leb}
use lib.ListN.{length, get_or, take, drop, set, length-append, length-set}
use Rattle.sock.specs.Words.{kind_of, name_of}
use Rattle.sock.specs.Term.{Node, Entries, head_word, kind}
use Rattle.sock.specs.Layout.{count, entries_words, entries_depth}
use Rattle.sock.specs.Reading.{holds}
use Rattle.sock.specs.Running.{Mark, faulted, marked_fault, scope_head, Run, nil, scope, act, run_words, size, run_depth}
use Rattle.sock.specs.Frames.{Frame, scope_frame, Located, locate, is_done, plug}
use Rattle.sock.specs.Rules.{also, climb}
use Rattle.sock.proofs.Logic.{All, all_map, all_some_lem}
use Rattle.sock.proofs.Fits.{FitsEntries, Sound, scope_sound, no_frames}
use Rattle.sock.proofs.Fields.{mark_below, bit_below, name_below}
use Rattle.sock.proofs.Frames.{locate_sound}
use Rattle.sock.proofs.Located.{wrap, located_wraps, located_before, size_positive}
use Rattle.sock.proofs.Measures.{words_scope, words_act, size_scope, depth_nil, depth_scope}
use Rattle.skipping.proofs.Skips.{wanted_end}
use Rattle.skipping.proofs.Notes.{Right, pass_entries_lem}
use Rattle.finding.specs.declared.find.Site.{Site}
use Rattle.finding.specs.Find.{fault_at}
use Rattle.finding.proofs.Within.{within, within_locate}
use Rattle.finding.proofs.Edits.{edited, swap_plain, process_at}
use Rattle.finding.proofs.Stops.{catches, Standing, nowhere, somewhere}
use Rattle.finding.proofs.Spots.{Spotted}
use Rattle.finding.proofs.Search.{found}
use Rattle.layout.specs.Positions.{onward}
use Rattle.sock.proofs.Pending.{is_none}
use Rattle.pending.proofs.Climbs.{sides_refuse}
use Rattle.rules.specs.Storing.{unchanged}
use Rattle.rules.specs.Editing.{Edited, refused_edit, edited as changed}
use Rattle.killing.specs.Killing.{Killed}
use Rattle.writers.proofs.Laid.{Near, near_of, onward_near, Laid, laid_put, laid_then, laid_copy, copy_end}
use Rattle.sock.proofs.Positions.{stands_within, word_at, at_past, drop_after}
use Rattle.sock.proofs.Around.{Throws, free}
use Rattle.killing.proofs.Gives.{Gives, stops, gives}
use Rattle.killing.proofs.Killed.{kill_climb}
use Rattle.rules.proofs.Rewrites.{head_on}
use Rattle.rules.proofs.Edits.{part_first, edits_of}
use Rattle.rules.proofs.Depths.{wrap_depth, depth_some, Shallow, shallow}
use Rattle.rules.proofs.Outcomes.{Ruled, unkillable, ruled}
use Rattle.layout.specs.Heads.{faulted_head, fault_word}
use Rattle.scopes.specs.Throwing.{fault_w, cleared_w, cleared_by, uncaught_w, listed_w, marked_w, body_w, opened_to, opened_w, caught_w, thrown_w}
use Rattle.scopes.proofs.ClimbingDepths.{climb_shallow}
use Rattle.scopes.proofs.Climbing.{Sought, unstopped, stopped_by, sought, mark_for, also_same, climb_through, climb_stops}
use Rattle.scopes.proofs.ClimbingPlaces.{offset, locate_offset, offset_found, offset_append, offset_scope}
use Rattle.scopes.proofs.Scratch.{Roomy}

-- ---- positions

within_from : (r : Run) (i k : ℕ) (l : Located) → within r i k ≡ some l → i ≤ k
unfolding within
within_from r i k l e = by (leb i k) refl e
  where
    by : (b : Bool) → leb i k ≡ b → cond b (locate r (k - i) []) none ≡ some l → i ≤ k
    by true q z = leb-true i k q
    by false q z = let y : ◌≡◌ {A = ℕ} 0 1 = cc in absurd (omega arith)

-- ---- what was killed becomes the fresh words

cleared_stuck :
    (start a : ℕ) (k : Killed) → k.moved.end ≡ 0 → ((cleared_by start a k).edit.number ≡ 6) × ((cleared_by start a k).edit.store ≡ unchanged)
unfolding cleared_by cleared_w
cleared_stuck start a k e = rw e (refl, refl)

module _ (ws : List ℕ) (start end : ℕ) (inside : end ≤ length ws) (q : Run) {most : ℕ} (deep : run_depth q ≤ most) (a e to : ℕ) (k : Killed)
    (ends : k.moved.end ≡ e) (reaches : k.moved.to ≡ to) (some_end : 0 < e) (from : start ≤ a) (upto : a ≤ e) (in_end : e ≤ end)
    (room : to ≤ length k.out) where
  cleared_ruled :
      edited ws start start [] a e (take to k.out) e e ≡ take start ws ++ (run_words q ++ drop end ws) →
      (let u = cleared_by start a k in Ruled most ws start end u.edit u.fresh (some q) × (u.edit.store ≡ unchanged))
  unfolding cleared_by cleared_w
  cleared_ruled w =
      rw (ends, reaches, ne_eqb e 0 (λ z. omega arith)) (
        ruled refl
            (edits_of ws start end _ k.out
            (record {
              l_in = omega arith;
              m_in = omega arith;
              a_in = from;
              b_in = upto;
              c_in = omega arith;
              d_in = omega arith;
              end_in = in_end;
              fresh_in = omega arith;
            })
            inside q room (ap (λ x. edited ws start start [] a e x e e) (part_first to k.out) ∙ w))
            deep,
        refl,
      )

-- all of it
whole_edited : (ws fr : List ℕ) (start e : ℕ) → edited ws start start [] start e fr e e ≡ take start ws ++ (fr ++ drop e ws)
unfolding edited
whole_edited ws fr start e =
    let x : start - start ≡ 0 = omega arith in
    let y : e - e ≡ 0 = omega arith in
    rw (x, y)

module _ (ws notes : List ℕ) (right : Right ws notes) (n issued : ℕ) (few : n ≤ 8) (small : issued < 65536)
    {r : Run} (sound : Sound n issued r)
    (start : ℕ) (words : drop start ws ≡ run_words r ++ drop (start + size r) ws) (pos : 0 < start)
    {most : ℕ} (deep : Shallow most r) (short : length ws ≤ 8192) (fresh : List ℕ) (large : Roomy ws fresh) (near : Near (length fresh))
    (f : ℕ) (low : f < 64) where
  inside : start + size r ≤ length ws
  unfolding size
  inside = stands_within ws (run_words r) _ start words (size_positive r)

  -- the climb is no deeper than all of it
  climb_deep : (p : ℕ) (l : Located) → locate r p [] ≡ some l → All (λ q. run_depth q ≤ most) (climb f l.frames nil)
  unfolding wrap
  climb_deep p l e =
      let s = all_some_lem (locate_sound sound p no_frames) e in
      let w : wrap l.frames l.process ≡ r = located_wraps r p [] l e in
      all_map (λ q h. omega (arith, ap run_depth w))
      (climb_shallow f s.frames nil l.process (omega (arith, depth_nil, depth_some l.process)))

  -- ---- a look over the sides comes first

  refuses : (o : Option Run) → is_none o ≡ true → o ≡ none
  refuses none e = refl
  refuses (some q) e = let y : ◌≡◌ {A = ℕ} 0 1 = cc in absurd (omega arith)

  looked_ruled :
      {b : Bool} {o : Option Run} {u : Edited} → b ≡ is_none o →
      Ruled most ws start (start + size r) u.edit u.fresh o × (u.edit.store ≡ unchanged) →
      (let v = cond b (changed (refused_edit 6) fresh) u in
      Ruled most ws start (start + size r) v.edit v.fresh o × (v.edit.store ≡ unchanged))
  looked_ruled {b = true} {o} e h = rw (refuses o (sym e)) (unkillable refl, refl)
  looked_ruled {b = false} e h = h

  -- ---- no scope stops the fault

  module _ (target : ℕ) (l : Located) (place : within r start target ≡ some l) (throws : Throws l.process)
      (passes : T (free f l.frames)) where
    uncaught_by :
        {k : Killed} {o : Option Run} → Gives r fresh 0 (start + size r) k o → All (λ q. run_depth q ≤ most) o →
        (let u = cleared_by start start k in Ruled most ws start (start + size r) u.edit u.fresh o × (u.edit.store ≡ unchanged))
    unfolding cleared_by size
    uncaught_by {k = k} (stops e) a = let c = cleared_stuck start start k e in (unkillable c.0, c.1)
    uncaught_by {k = k} (gives {s = q} g) a =
        let begins : take (0 + length (run_words q)) k.out ≡ run_words q = g.laid.begins in
        cleared_ruled ws start (start + size r) inside q (all_some_lem a refl) start (start + size r) (0 + size q) k g.ends g.reaches
        (omega arith) (omega arith)
        (omega arith) (omega arith) (omega (arith, g.small, g.laid.keeps, inside))
        (whole_edited ws (take (0 + size q) k.out) start (start + size r)
        ∙ ap (λ x. take start ws ++ (x ++ drop (start + size r) ws)) begins)

    pub uncaught_ruled :
        (let u = uncaught_w ws notes start f target fresh in
        Ruled most ws start (start + size r) u.edit u.fresh (climb f l.frames nil) × (u.edit.store ≡ unchanged))
    unfolding uncaught_w
    uncaught_ruled =
        let h : start ≤ target = within_from r start target l place in
        let e : locate r (target - start) [] ≡ some l = sym (within_locate r start target h) ∙ place in
        let z : start + (target - start) ≡ target = omega arith in
        let s = sides_refuse ws notes right n issued few small short sound 64 (target - start) start (shallow deep) (omega arith)
        (drop (start + size r) ws) words l e f passes nil in
        let g = kill_climb ws notes right n issued few small f low sound 64 start (shallow deep) (drop (start + size r) ws) words fresh 0
        (omega (arith, inside)) near
        (target - start) l e throws passes in
        looked_ruled (rw z at s) (uncaught_by (rw z at g) (climb_deep (target - start) l e))

  -- ---- a scope stops it

  module _ (inner outer : List Frame) (name : ℕ) (mark : Mark) (zombie : Bool) (h : Entries) (m : Run) (target c : ℕ)
      (place : within r start target ≡ some (record { frames = inner ++ scope_frame name mark zombie h ∷ outer; process = m }))
      (stopping : within r start c ≡ some (record { frames = outer; process = scope name mark zombie h (wrap inner m) }))
      (throws : Throws m) (passes : T (free f inner)) (catching : T (catches f zombie h)) where
    abbrev a : Run
    a = wrap inner m

    abbrev whole : Run
    whole = scope name mark zombie h (wrap inner m)

    abbrev body : ℕ
    body = c + 3 + length (entries_words h)

    abbrev marked : Mark
    marked = mark_for f mark h

    later : start ≤ c
    later = within_from r start c _ stopping

    located_here : locate r (c - start) [] ≡ some (record { frames = outer; process = whole })
    located_here = sym (within_locate r start c later) ∙ stopping

    at_target : target ≡ body + offset inner
    at_target =
        let b : start ≤ target = within_from r start target _ place in
        let p = offset_found r (target - start) _ (sym (within_locate r start target b) ∙ place) in
        let q = offset_found r (c - start) _ located_here in
        omega (arith, p, q, later, b, offset_append inner (scope_frame name mark zombie h ∷ outer), offset_scope name mark zombie h outer)

    -- the scope in the words
    spot : (s : Site) × Spotted (fault_at ws c) c r start 1 (record { frames = outer; process = whole }) s
    spot =
        let g = found n issued few small ws notes right c sound 64 start 1
        (drop (start + size r) ws) pos (shallow deep) words _ stopping in
        (g.0, g.1.1)

    stands : (more : List ℕ) × (drop c ws ≡ run_words whole ++ more)
    stands =
        process_at (fault_at ws c) c r start 1 (record { frames = outer; process = whole }) spot.0 ws (drop (start + size r) ws) words
        spot.1

    abbrev own : Mark → List ℕ
    own mk = scope_head name mk zombie ∷ (marked_fault mk * 1024) ∷ count h ∷ entries_words h

    own_stands : drop c ws ≡ own mark ++ (run_words a ++ stands.0)
    own_stands =
        stands.1 ∙ (ap (λ l. l ++ stands.0) (words_scope name mark zombie h a) ∙ append_assoc (own mark) (run_words a) stands.0)

    list_stands : drop (c + 2) ws ≡ (count h ∷ entries_words h) ++ (run_words a ++ stands.0)
    list_stands = drop_after ws (_ ∷ _ ∷ []) (count h ∷ entries_words h) (run_words a ++ stands.0) c own_stands

    body_stands : drop body ws ≡ run_words a ++ stands.0
    body_stands =
        let z : c + length (own mark) ≡ body = omega arith in
        ap (λ i. drop i ws) (sym z) ∙ at_past ws (own mark) (run_words a ++ stands.0) c own_stands

    body_inside : body + size a ≤ length ws
    unfolding size
    body_inside =
        let z = size_scope name mark zombie h a in
        omega (arith, stands_within ws (run_words whole) stands.0 c stands.1 (omega arith))

    head : get_or ws c 0 ≡ scope_head name mark zombie
    head =
        ap (λ i. get_or ws i 0) (let q : c ≡ c + 0 = omega arith in q) ∙ word_at ws (own mark) (run_words a ++ stands.0) c own_stands 0
        (omega arith)

    second : get_or ws (c + 1) 0 ≡ marked_fault mark * 1024
    second = word_at ws (own mark) (run_words a ++ stands.0) c own_stands 1 (omega arith)

    -- its parts
    parts : (name < 64) × FitsEntries true zero h × Sound n issued a
    parts = by (all_some_lem (locate_sound sound (c - start) no_frames) located_here).process
      where
        by :
            Sound n issued (scope name mark zombie h (wrap inner m)) → (name < 64) × FitsEntries true zero h × Sound n issued (wrap inner m)
        by (scope_sound b t l g) = (b, l, g)

    parts_deep : (entries_depth h ≤ 64) × (run_depth a ≤ 64)
    unfolding wrap
    parts_deep =
        let w : wrap outer whole ≡ r = located_wraps r (c - start) [] _ located_here in
        let d = wrap_depth outer whole in
        let e = ap run_depth w in
        let s = depth_scope name mark zombie h a in
        (omega arith, omega arith)

    -- the mirror's values
    near_words : Near (length ws)
    near_words = near_of (length ws) (omega arith)

    two_on : onward c 2 ≡ c + 2
    two_on = onward_near c 2 (length ws) near_words (omega (arith, body_inside))

    one_on : onward c 1 ≡ c + 1
    one_on = onward_near c 1 (length ws) near_words (omega (arith, body_inside))

    body_at : body_w ws notes c ≡ body
    unfolding body_w
    body_at =
        rw two_on
        (pass_entries_lem ws notes right parts.1 64 (c + 2) parts_deep.0 (run_words a ++ stands.0) list_stands
        ∙ (let z : c + 2 + 1 + length (entries_words h) ≡ body = omega arith in z))

    listed_at : listed_w ws c f ≡ holds f h
    unfolding listed_w
    listed_at =
        rw (
          two_on,
          wanted_end ws f (omega arith) parts.1 64 (c + 2) parts_deep.0
              (run_words a ++ stands.0) list_stands,
        ) (by (holds f h))
      where
        by : (b : Bool) → cond (eqb (cond b (c + 2 + 1 + length (entries_words h)) 0) 0) false true ≡ b
        by true = rw (ne_eqb (c + 2 + 1 + length (entries_words h)) 0 (λ z. omega arith))
        by false = refl

    marked_head : faulted_head (scope_head name mark zombie) ≡ scope_head name (faulted f) zombie
    marked_head = omega (arith, mark_below mark, bit_below zombie, parts.0)

    marked_word : fault_word f ≡ f * 1024
    marked_word = omega arith

    marked_at : marked_w ws c f fresh ≡ set (set fresh 0 (scope_head name marked zombie)) 1 (marked_fault marked * 1024)
    unfolding marked_w
    marked_at = rw (listed_at, head, one_on, second) (by (holds f h))
      where
        by :
            (b : Bool) →
            cond b (set (set fresh 0 (faulted_head (scope_head name mark zombie))) 1 (fault_word f))
            (set (set fresh 0 (scope_head name mark zombie)) 1 (marked_fault mark * 1024))
            ≡ set (set fresh 0 (scope_head name (cond b (faulted f) mark) zombie)) 1 (marked_fault (cond b (faulted f) mark) * 1024)
        by true = rw (marked_head, marked_word)
        by false = refl

    small_parts : 3 + length (entries_words h) + 2 * size a ≤ length fresh
    small_parts = omega (arith, body_inside)

    marked_laid : Laid fresh 0 (scope_head name marked zombie ∷ (marked_fault marked * 1024) ∷ []) (marked_w ws c f fresh)
    marked_laid =
        rw marked_at
        (laid_then (laid_put fresh 0 (scope_head name marked zombie) (omega arith))
        (laid_put (set fresh 0 (scope_head name marked zombie)) 1 (marked_fault marked * 1024)
        (omega (arith, length-set fresh 0 (scope_head name marked zombie)))))

    opened_laid : Laid fresh 0 (own marked) (opened_w ws c body f fresh)
    unfolding opened_w
    opened_laid =
        rw two_on
        (laid_then marked_laid
        (laid_copy ws (count h ∷ entries_words h) (run_words a ++ stands.0) (c + 2) body (marked_w ws c f fresh) 2 list_stands
        (omega (arith, body_inside)) (omega arith) (omega (arith, marked_laid.keeps, small_parts))))

    opened_to_lem : opened_to ws c body ≡ length (own marked)
    unfolding opened_to
    opened_to_lem =
        rw two_on
        (copy_end ws (count h ∷ entries_words h) (run_words a ++ stands.0) (c + 2) body 2 (length fresh) list_stands
        (omega (arith, body_inside)) (omega arith) near (omega (arith, small_parts))
        ∙ (let z : 2 + length (count h ∷ entries_words h) ≡ length (own marked) = omega arith in z))

    -- what climbs out of its body
    abbrev caught_by : Run → Run
    caught_by p = plug outer (scope name marked zombie h p)

    caught_by_lem :
        {mid : List ℕ} {k : Killed} {o : Option Run} → Laid fresh 0 (own marked) mid →
        Gives a mid (length (own marked)) (body + size a) k o →
        All (λ q. run_depth q ≤ most) (also o λ p. some (caught_by p)) →
        (let u = cleared_by start c k in Ruled most ws start (start + size r) u.edit u.fresh (also o λ p. some (caught_by p))
        × (u.edit.store ≡ unchanged))
    unfolding also size is_done
    caught_by_lem {k = k} laid (stops e) d = let z = cleared_stuck start c k e in (unkillable z.0, z.1)
    caught_by_lem {k = k} laid (gives {s = p} g) d =
        let q : Run = scope name marked zombie h p in
        let w = words_scope name marked zombie h p in
        let z = size_scope name mark zombie h a in
        let end : body + size a ≡ c + size whole = omega arith in
        let there : 0 + length (own marked) ≡ length (own marked) = omega arith in
        let all : Laid fresh 0 (own marked ++ run_words p) k.out = laid_then laid (rw there g.laid) in
        let long : length (own marked) + size p ≡ 0 + length (own marked ++ run_words p) =
        omega (arith, length-append (own marked) (run_words p)) in
        let begins : take (length (own marked) + size p) k.out ≡ run_words q = ap (λ i. take i k.out) long ∙ (all.begins ∙ sym w) in
        cleared_ruled ws start (start + size r) inside (plug outer q) (all_some_lem d refl) c (body + size a) (length (own marked) + size p) k
        g.ends g.reaches
        (omega arith) later (omega arith) (omega (arith, later, located_before r (c - start) [] _ located_here))
        (omega (arith, g.small, all.keeps, small_parts))
        (ap (λ x. edited ws start start [] c (body + size a) x (body + size a) (body + size a)) begins
        ∙ swap_plain (fault_at ws c) c r start 1 (record { frames = outer; process = whole }) spot.0 ws (drop (start + size r) ws) words
        spot.1
        q (run_words whole) [] [] (run_words q) (body + size a) (body + size a) (body + size a) refl
        (sym (append-nil (run_words whole))) (sym (append-nil (run_words q))) end (omega arith) (omega arith))

    climbs : climb f (inner ++ scope_frame name mark zombie h ∷ outer) nil ≡ also (climb f inner nil) λ p. some (caught_by p)
    climbs =
        climb_through f inner (scope_frame name mark zombie h ∷ outer) nil passes
        ∙ also_same (climb f inner nil) (λ p. climb_stops f name mark zombie h outer p catching)

    pub caught_ruled :
        (let u = caught_w ws notes start c f target fresh in
        Ruled most ws start (start + size r) u.edit u.fresh (climb f (inner ++ scope_frame name mark zombie h ∷ outer) nil)
        × (u.edit.store ≡ unchanged))
    unfolding caught_w also
    caught_ruled =
        let g = kill_climb ws notes right n issued few small f low parts.2 64 body parts_deep.1 stands.0 body_stands
        (opened_w ws c body f fresh)
        (length (own marked)) (omega (arith, opened_laid.keeps, small_parts)) (rw opened_laid.keeps near) (offset inner)
        (record { frames = inner; process = m }) (locate_offset inner m) throws passes in
        let b : start ≤ target = within_from r start target _ place in
        let d = climb_deep (target - start) _ (sym (within_locate r start target b) ∙ place) in
        let s = sides_refuse ws notes right n issued few small short parts.2 64 (offset inner) body parts_deep.1 (omega arith) stands.0
        body_stands (record { frames = inner; process = m }) (locate_offset inner m) f passes nil in
        rw (climbs, body_at, opened_to_lem, at_target) (looked_ruled (s ∙ none_also (climb f inner nil)) (caught_by_lem opened_laid g (rw climbs at d)))
      where
        none_also : (o : Option Run) → is_none o ≡ is_none (also o λ p. some (caught_by p))
        none_also none = refl
        none_also (some p) = refl

  -- ---- the whole

  module _ (target : ℕ) (l : Located) (s : Site) (place : within r start target ≡ some l) (spotted : Spotted f target r start 1 l s)
      (throws : Throws l.process) where
    thrown_by :
        {o : Option Located} {k : ℕ} → Standing r start o k → Sought f l.frames l.process o →
        (let u = cond (eqb k 0) (uncaught_w ws notes start f target fresh)
        (caught_w ws notes start k f target fresh) in
        Ruled most ws start (start + size r) u.edit u.fresh (climb f l.frames nil) × (u.edit.store ≡ unchanged))
    thrown_by nowhere (unstopped t) = uncaught_ruled target l place throws t
    thrown_by (somewhere {k = k} h e) (stopped_by {l = g} w) =
        rw (ne_eqb k 0 (λ z. omega arith), w.frames)
        (caught_ruled w.inner g.frames w.name w.mark w.zombie w.list l.process target k
        (place ∙ ap (λ fs. some (record { frames = fs; process = l.process })) w.frames)
        (e ∙ ap (λ p. some (record { frames = g.frames; process = p })) w.process)
        throws w.passes w.stops)

    pub climb_ruled :
        fault_w ws target ≡ f →
        (let u = thrown_w ws notes start s fresh in
        Ruled most ws start (start + size r) u.edit u.fresh (climb f l.frames nil) × (u.edit.store ≡ unchanged))
    unfolding thrown_w
    climb_ruled e = rw (spotted.at, e) (thrown_by (spotted.catcher low) (sought f l.frames l.process))

-- a throw that was found
module _ (ws notes : List ℕ) (right : Right ws notes) (n issued : ℕ) (few : n ≤ 8) (small : issued < 65536)
    {r : Run} (sound : Sound n issued r)
    (start : ℕ) (words : drop start ws ≡ run_words r ++ drop (start + size r) ws) (pos : 0 < start)
    {most : ℕ} (deep : Shallow most r) (short : length ws ≤ 8192) (fresh : List ℕ) (large : Roomy ws fresh) (near : Near (length fresh))
    (target : ℕ) (l : Located) (s : Site) (place : within r start target ≡ some l)
    (spotted : Spotted (fault_at ws target) target r start 1 l s) where
  pub thrown_ruled :
      (m : Node) → l.process ≡ act m → kind m ≡ 13 →
      (let u = thrown_w ws notes start s fresh in
      Ruled most ws start (start + size r) u.edit u.fresh (climb (name_of (head_word m)) l.frames nil) × (u.edit.store ≡ unchanged))
  unfolding fault_at fault_w
  thrown_ruled m e k =
      let p = process_at (fault_at ws target) target r start 1 l s ws (drop (start + size r) ws) words spotted in
      let w : get_or ws target 0 ≡ head_word m = head_on ws target m p.0 (p.1 ∙ ap (λ x. x ++ p.0) (ap run_words e ∙ words_act m)) in
      let v : fault_at ws target ≡ name_of (head_word m) =
      (let z : get_or ws target 0 / 2048 ≡ 13 = ap kind_of w ∙ k in rw (eq-eqb (get_or ws target 0 / 2048) 13 z) (ap name_of w)) in
      climb_ruled ws notes right n issued few small sound start words pos deep short fresh large near (name_of (head_word m))
      (name_below (head_word m)) target l s place
      (rw v at spotted) (rw e k) (ap name_of w)
