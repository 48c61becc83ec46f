-- The law of comp: the handler under its name runs in its place, and the nearest scope has lost it.
-- Assumes nothing.
use Prim.Native.Nat.{ℕ, suc, ◌+◌, ◌-◌, ◌*◌, ◌≤◌, ◌<◌}
use native.Mathlib.Omega.{arith}
use mathlib.Core.Path.{◌≡◌, refl, sym, ap, ◌∙◌}
use mathlib.Core.Bool.{Bool, true, false, not, cond}
use mathlib.Core.Option.{some}
use mathlib.Core.List.{List, [], ◌∷◌, ◌++◌, append-nil}
use borrow.Author.Tests.{eq-eqb, ne_eqb, leb-true, leb-false}
use lib.Dec.{T, eqb, leb, lit<}
use lib.ListN.{length, get_or, take, drop, length-append, length-drop}
use Rattle.sock.specs.Words.{name_of, scope_key}
use Rattle.sock.specs.Term.{Node, node, absent, Entries, no_parts, is_nil, nil_node}
use Rattle.sock.specs.Layout.{exprs_words, words, entries_words, depth}
use Rattle.sock.specs.Reading.{code, anywhere, holds}
use Rattle.sock.specs.Running.{Run, nil, act, run_words, size, run_depth, enable}
use Rattle.sock.specs.Handlers.{handler, without}
use Rattle.sock.specs.Frames.{Frame, Located, is_done, plug, nearest, on_nearest}
use Rattle.sock.proofs.Fits.{Fits, SoundFrames}
use Rattle.sock.proofs.Handlers.{handler_fits}
use Rattle.sock.proofs.Frames.{nearest_fits, nearest_sound}
use Rattle.sock.proofs.Running.{enable_as_node, enable_done}
use Rattle.sock.proofs.Measures.{words_act}
use Rattle.reading.specs.Walk.{process_end}
use Rattle.reading.proofs.Combining.{Words}
use Rattle.skipping.proofs.Notes.{Right}
use Rattle.finding.specs.declared.find.Site.{Site}
use Rattle.finding.proofs.Framing.{scoped, region, nearest_self}
use Rattle.finding.proofs.Spots.{Spotted}
use Rattle.finding.proofs.Edits.{part, edited, swap_edited, process_at, list_at, region_changed, scope_none}
use Rattle.writers.specs.Writing.{pasted, pasted_end}
use Rattle.writers.proofs.Laid.{Near, onward_near, Laid, laid_under, laid_copy, copy_end, near_of}
use Rattle.handling.specs.Taking.{Took, take_w}
use Rattle.handling.proofs.Takes.{Takes, takes, Stands, without_absent}
use Rattle.handling.proofs.Stays.{without_shallow, without_short}
use Rattle.rules.specs.Storing.{unchanged}
use Rattle.rules.specs.Editing.{Edited, refused_edit, nil_w}
use Rattle.rules.specs.Editing.{edited as editing}
use Rattle.rules.proofs.Rewrites.{first_at, enable_words}
use Rattle.rules.proofs.Deep.{code_fits}
use Rattle.rules.proofs.Depths.{spread, plug_depth, plug_too_deep, Shallow}
use Rattle.rules.proofs.Edits.{Edits, edits_of, done_nil}
use Rattle.rules.proofs.Outcomes.{Ruled, too_deep, ruled}
use Rattle.layout.specs.declared.limit.Limits.{Limits}
use Rattle.layout.specs.Positions.{onward}
use Rattle.scopes.specs.Compensating.{moved_w, compensated_w}
use Rattle.scopes.proofs.NilLists.{laid_part}
use Rattle.scopes.proofs.NearestLists.{nearest_empty, nearest_kept, nearest_length, nearest_spread, nearest_within, without_keeps, handler_lives}
use Rattle.scopes.proofs.ScopeLists.{whole_inside, frames_deep, level_low, nil_ruled, process_inside, list_deep, region_length, list_first, list_before, list_inside, to_list, list_ends}
use Rattle.scopes.proofs.Scratch.{Roomy}

node_some : (x : Node) → 0 < length (words x)
unfolding words
node_some (node a b c d e) = omega arith

module _ (f target : ℕ) (r : Run) (start : ℕ) (l : Located) (s : Site) (ws notes : List ℕ) (right : Right ws notes)
    (words_at : drop start ws ≡ run_words r ++ drop (start + size r) ws)
    (spotted : Spotted f target r start 1 l s) (near : Near (length ws)) {n issued : ℕ} (frames : SoundFrames n issued l.frames)
    (limits : Limits) (deep : Shallow limits.deepest r)
    (pos : 0 < start) (ok : Words ws) (few : n ≤ 8) (small : issued < 65536) (short : length ws ≤ 8192)
    (fresh : List ℕ) (room : Roomy ws fresh) (big : Near (length fresh))
    (h : ℕ) (is : l.process ≡ act (node h [] [] absent no_parts)) where
  levels_at : onward limits.deepest 1 ≡ suc limits.deepest
  levels_at = onward_near limits.deepest 1 128 (near_of 128 (lit< tt)) (omega (arith, deep.low)) ∙ omega arith

  abbrev bound : ℕ
  bound = n * 65536 + issued

  abbrev k : ℕ
  k = scope_key (name_of h)

  abbrev es : Entries
  es = nearest l.frames

  abbrev m : Node
  m = handler k es

  abbrev changed : List Frame
  changed = on_nearest (without k) l.frames

  fitting : Fits (code false) anywhere m
  fitting = handler_fits true k (nearest_fits frames)

  one_word : run_words l.process ≡ h ∷ []
  unfolding words exprs_words
  one_word = ap run_words is ∙ words_act (node h [] [] absent no_parts)

  head_at : get_or ws s.at 0 ≡ h
  head_at =
      let a = process_at f target r start 1 l s ws (drop (start + size r) ws) words_at spotted in
      ap (λ i. get_or ws i 0) spotted.at ∙ first_at ws target h a.0 (a.1 ∙ ap (λ w. w ++ a.0) one_word)

  one_inside : target + 1 ≤ start + size r
  unfolding size
  one_inside = omega (arith, process_inside f target r start l s ws words_at spotted near frames deep, ap length one_word)

  -- no handler, no change
  gone : m ≡ nil_node → changed ≡ l.frames → plug l.frames nil ≡ plug changed (enable m)
  gone e c = sym (ap (λ fs. plug fs (enable m)) c ∙ ap (plug l.frames) (done_nil (enable m) (enable_done fitting ∙ ap is_nil e)))

  abbrev Result : Edited → Type 0
  Result u = Ruled limits.deepest ws start (start + size r) u.edit u.fresh (some (plug changed (enable m))) × (u.edit.store ≡ unchanged)

  stays_nil : (made : List ℕ) → length made ≡ length fresh → m ≡ nil_node → changed ≡ l.frames → Result (nil_w s start start 0 unchanged made)
  stays_nil made same e c =
      rw (← (gone e c)) (nil_ruled f target r start l s ws words_at spotted near frames deep made (omega arith) (rw same big))

  bare : T (not (scoped l.frames)) → Result (compensated_w limits bound ws notes start s fresh)
  unfolding compensated_w handler
  bare t =
      let z = scope_none f target r start 1 l s ws (drop (start + size r) ws) words_at spotted t in
      rw (eq-eqb s.scope 0 z)
      (stays_nil fresh refl (ap (handler k) (nearest_empty l.frames t)) (nearest_self (without k) l.frames t))

  -- with a scope around it
  module _ (t : T (scoped l.frames)) where
    abbrev took : Took
    took = take_w 64 ws (s.scope + 2) k fresh

    taking : Takes ws k es fresh took
    taking =
        let a = list_at f target r start 1 l s ws (drop (start + size r) ws) words_at spotted t in
        takes ws near 64 k (nearest_fits frames)
        (list_deep f target r start l s ws words_at spotted near frames deep t) (s.scope + 2) a.0 a.1 fresh

    list_short : s.scope + 3 + length (entries_words es) ≤ length ws
    list_short =
        omega (
          arith,
          list_inside f target r start l s ws words_at spotted near frames deep t,
          region_length f target r start l s ws words_at spotted near frames deep t,
        )

    changed_sound : SoundFrames n issued changed
    changed_sound = nearest_sound (without_keeps (name_of h)) frames

    changed_deep : spread changed ≤ limits.deepest
    changed_deep =
        omega (
          arith,
          nearest_spread (without k) l.frames,
          nearest_within l.frames t,
          without_shallow k es,
          (frames_deep f target r start l s ws words_at spotted near frames deep).0,
        )

    enabled_deep : run_depth (enable m) ≡ depth m
    unfolding run_depth
    enabled_deep = ap depth (enable_as_node fitting)

    -- a handler is there
    module _ (there : holds k es ≡ true) where
      abbrev from : ℕ
      from = took.answer.from

      abbrev upto : ℕ
      upto = took.answer.upto

      abbrev to : ℕ
      to = took.answer.to

      stands : Stands ws from upto m
      stands = taking.present there

      lives : is_done (enable m) ≡ false
      lives = enable_done fitting ∙ handler_lives (name_of h) (nearest_fits frames) there

      some_words : 0 < length (words m)
      some_words = node_some m

      handler_inside : from + length (words m) ≤ length ws
      handler_inside =
          let e : drop from ws ≡ words m ++ stands.0 = stands.1.0 in
          let a : length ws - from ≡ length (words m ++ stands.0) = sym (length-drop from ws) ∙ ap length e in
          omega (arith, length-append (words m) stands.0, some_words)

      room_enough : to + length (words m) ≤ length fresh
      room_enough = omega (arith, taking.reaches, without_short k es, list_short, handler_inside)

      pasting : Laid took.out to (words m) (pasted ws from upto took.out to)
      pasting =
          laid_copy ws (words m) stands.0 from upto took.out to stands.1.0 (omega (arith, handler_inside)) stands.1.1
          (omega (arith, room_enough, taking.keeps))

      pasted_to : pasted_end ws from upto to ≡ to + length (words m)
      pasted_to = copy_end ws (words m) stands.0 from upto to (length fresh) stands.1.0 (omega (arith, handler_inside))
          stands.1.1 big room_enough

      list_made : take to (pasted ws from upto took.out to) ≡ region changed
      list_made =
          laid_under (omega (arith, room_enough, taking.keeps)) pasting
          ∙ (ap (λ i. take i took.out) taking.reaches
          ∙ (taking.laid (omega (arith, taking.reaches, room_enough))
          ∙ sym (region_changed (without k) l.frames t)))

      handler_made : part to (to + length (words m)) (pasted ws from upto took.out to) ≡ words m
      handler_made = laid_part (omega (arith, room_enough, taking.keeps)) pasting refl

      moves : Edits ws start (start + size r) (moved_w ws notes s took.answer took.out).edit
          (moved_w ws notes s took.answer took.out).fresh
          (plug changed (enable m))
      unfolding moved_w
      moves =
          let inside = whole_inside f target r start l s ws words_at spotted near frames deep in
          let before = list_before f target r start l s ws words_at spotted near frames deep t in
          rw (
            to_list f target r start l s ws words_at spotted near frames deep t,
            list_ends f target r start l s ws words_at spotted near frames deep t notes right,
            spotted.at,
            onward_near target 1 (length ws) near (omega (arith, inside, one_inside)),
            pasted_to,
          )
          (edits_of ws start (start + size r) _ (pasted ws from upto took.out to)
          (record {
            l_in = omega (arith, list_first f target r start l s ws words_at spotted near frames deep t);
            m_in = omega arith;
            a_in = before;
            b_in = omega arith;
            c_in = omega arith;
            d_in = omega arith;
            end_in = one_inside;
            fresh_in = omega arith;
          })
          inside (plug changed (enable m)) (omega (arith, room_enough, pasting.keeps, taking.keeps))
          (ap (λ new. edited ws (s.scope + 2) (s.scope + 2 + length (region l.frames)) new target (target + 1)
          (part to (to + length (words m)) (pasted ws from upto took.out to)) (target + 1) (target + 1)) list_made
          ∙ (ap (λ new. edited ws (s.scope + 2) (s.scope + 2 + length (region l.frames))
          (region changed) target (target + 1) new (target + 1) (target + 1))
          handler_made
          ∙ swap_edited f target r start 1 l s ws (drop (start + size r) ws) words_at spotted (enable m) (h ∷ []) [] [] (words m)
          (target + 1) (target + 1) (target + 1) lives one_word (enable_words fitting ∙ sym (append-nil (words m)))
          (omega arith) (omega arith) (omega arith) (without k) t)))

      -- if there are levels left for it
      placed : (b : Bool) → leb (depth m) (suc limits.deepest - s.level) ≡ b →
          Result (cond (eqb (cond b (from + length (words m)) 0) 0) (editing (refused_edit 8) took.out)
          (moved_w ws notes s took.answer took.out))
      unfolding moved_w
      placed false e =
          let low = level_low f target r start l s ws words_at spotted near frames deep in (
            too_deep refl
                (plug_too_deep changed_sound (enable m) limits.deepest lives
                (omega (
                  arith,
                  enabled_deep,
                  leb-false (depth m) (suc limits.deepest - s.level) e,
                  spotted.level,
                  nearest_length (without k) l.frames,
                  low,
                ))),
            refl,
          )
      placed true e =
          let low = level_low f target r start l s ws words_at spotted near frames deep in
          let d = plug_depth changed_sound (enable m) lives in
          rw (ne_eqb (from + length (words m)) 0 (λ z. omega (arith, some_words))) (
            ruled refl moves
                (omega (
                  arith,
                  d,
                  changed_deep,
                  enabled_deep,
                  leb-true (depth m) (suc limits.deepest - s.level) e,
                  spotted.level,
                  nearest_length (without k) l.frames,
                  low,
                )),
            refl,
          )

    under : (b : Bool) → holds k es ≡ b → Result (compensated_w limits bound ws notes start s fresh)
    unfolding compensated_w
    under b e =
        let first = list_first f target r start l s ws words_at spotted near frames deep t in
        rw (levels_at, ne_eqb s.scope 0 (λ z. omega arith), to_list f target r start l s ws words_at spotted near frames deep t, head_at) (by b e)
      where
        by : (b : Bool) → holds k es ≡ b →
            Result (cond (eqb took.answer.upto 0) (nil_w s start start 0 unchanged took.out)
            (cond (eqb (process_end (suc limits.deepest - s.level) ws bound 0 took.answer.from) 0) (editing (refused_edit 8) took.out)
            (moved_w ws notes s took.answer took.out)))
        by true e =
            let x : Stands ws took.answer.from took.answer.upto m = stands e in
            rw (
              ne_eqb took.answer.upto 0 (λ z. omega (arith, x.1.1, some_words e)),
              code_fits ws ok n issued small fitting (suc limits.deepest - s.level) took.answer.from x.0 x.1.0,
            )
            (placed e (leb (depth m) (suc limits.deepest - s.level)) refl)
        by false e =
            rw (eq-eqb took.answer.upto 0 (taking.absent e).0)
            (stays_nil took.out taking.keeps (taking.absent e).1 (nearest_kept (without k) l.frames (without_absent k es e)))

  -- the rule
  pub compensates :
      (let u = compensated_w limits (n * 65536 + issued) ws notes start s fresh in
      Ruled limits.deepest ws start (start + size r) u.edit u.fresh
      (some (plug (on_nearest (without (scope_key (name_of h))) l.frames) (enable (handler (scope_key (name_of h)) (nearest l.frames)))))
      × (u.edit.store ≡ unchanged))
  compensates = by (scoped l.frames) refl
    where
      by : (b : Bool) → scoped l.frames ≡ b → Result (compensated_w limits bound ws notes start s fresh)
      by true e = under (rw e tt) (holds k es) refl
      by false e = bare (rw e tt)
