-- The law of inst: the nearest scope's list is updated by its own, which may make it too deep.
-- Assumes nothing.
use Prim.Native.Nat.{ℕ, zero, suc, ◌+◌, ◌*◌, ◌≤◌, ◌<◌}
use native.Mathlib.Omega.{arith}
use native.Mathlib.Nat.{le_trans, mul-le-mul_left, mul-le-mul_right}
use mathlib.Core.Path.{◌≡◌, refl, sym, ap, ◌∙◌}
use mathlib.Core.Bool.{Bool, true, false, not, cond}
use mathlib.Core.Option.{some}
use mathlib.Core.List.{List, [], ◌∷◌, ◌++◌, append-nil}
use borrow.Author.Tests.{eq-eqb, ne_eqb, lt-ltb, ltb-true, ltb-false}
use lib.Dec.{T, ltb}
use lib.ListN.{length, take, drop}
use Rattle.sock.specs.Term.{node, list, Entries, no_parts}
use Rattle.sock.specs.Layout.{count, exprs_words, words, entries_words, exprs_depth, depth, entries_depth}
use Rattle.sock.specs.Running.{Run, nil, act, run_words, size, run_depth}
use Rattle.sock.specs.Handlers.{update}
use Rattle.sock.specs.Frames.{Frame, Located, plug, nearest, on_nearest}
use Rattle.sock.proofs.Fits.{FitsEntries, SoundFrames}
use Rattle.sock.proofs.Frames.{nearest_fits, nearest_sound}
use Rattle.sock.proofs.Located.{wrap, size_positive}
use Rattle.sock.proofs.Measures.{words_act, size_nil, depth_nil, depth_act}
use Rattle.sock.proofs.Positions.{at_head}
use Rattle.sock.proofs.Shrinking.{NoLarger, plug_shrinks}
use Rattle.skipping.proofs.Notes.{Right}
use Rattle.finding.specs.declared.find.Site.{Site}
use Rattle.finding.proofs.Framing.{scoped, region, outside, nearest_self}
use Rattle.finding.proofs.Pieces.{hole}
use Rattle.finding.proofs.Spots.{Spotted}
use Rattle.finding.proofs.Edits.{process_at, list_at, region_changed, scope_none}
use Rattle.layout.specs.Positions.{onward}
use Rattle.writers.proofs.Laid.{Near, near_of, onward_near}
use Rattle.handling.specs.Updating.{Update, update_w}
use Rattle.handling.proofs.Replaces.{replaces}
use Rattle.handling.proofs.Grows.{replaced_small}
use Rattle.handling.proofs.Sizes.{update_small}
use Rattle.handling.proofs.Updates.{Updates, updates}
use Rattle.rules.specs.Storing.{unchanged}
use Rattle.rules.specs.Editing.{Edited, edited, refused_edit, nil_w}
use Rattle.rules.proofs.Depths.{wrap_depth, depth_some, Shallow}
use Rattle.rules.proofs.Outcomes.{Ruled, too_deep, ruled}
use Rattle.layout.specs.declared.limit.Limits.{Limits}
use Rattle.scopes.specs.Installing.{too_deep_w, updated_w, installed_w}
use Rattle.scopes.proofs.NearestLists.{nearest_length, nearest_spread, nearest_within, nearest_deep, update_keeps}
use Rattle.scopes.proofs.ScopeLists.{whole_inside, frames_deep, nil_ruled, process_inside, list_deep, region_length, list_first, list_inside, to_list, list_ends}
use Rattle.scopes.proofs.NilLists.{hollow_to, list_edits}
use Rattle.scopes.proofs.Scratch.{Spacious}

too_deep_lem : (limits : Limits) (level levels : ℕ) → limits.deepest ≤ 64 → level ≤ limits.deepest → too_deep_w limits level levels ≡ ltb limits.deepest (level + levels)
unfolding too_deep_w
too_deep_lem limits level levels low h = by (ltb limits.deepest levels) refl
  where
    by : (b : Bool) → ltb limits.deepest levels ≡ b → cond b true (ltb limits.deepest (onward level levels)) ≡ ltb limits.deepest (level + levels)
    by true e = let z : limits.deepest < levels = ltb-true limits.deepest levels e in sym (lt-ltb limits.deepest (level + levels) (omega arith))
    by false e =
        let z : levels ≤ limits.deepest = ltb-false limits.deepest levels e in
        ap (ltb limits.deepest) (onward_near level levels 128 (near_of 128 (omega arith)) (omega arith))

hole_short : (b : Bool) → length (hole b) ≤ 1
hole_short true = omega arith
hole_short false = omega arith

module _ (f target : ℕ) (r : Run) (start : ℕ) (l : Located) (s : Site) (ws notes : List ℕ) (right : Right ws notes)
    (words_at : drop start ws ≡ run_words r ++ drop (start + size r) ws)
    (spotted : Spotted f target r start 1 l s) (near : Near (length ws)) {n issued : ℕ} (frames : SoundFrames n issued l.frames)
    (limits : Limits) (deep : Shallow limits.deepest r)
    (pos : 0 < start) (short : length ws ≤ 8192)
    (fresh : List ℕ) (room : 0 < length fresh) (big : Near (length fresh))
    (h : ℕ) (new : Entries) (is : l.process ≡ act (node h [] [] (list new) no_parts)) (fit : FitsEntries false zero new) where
  abbrev es : Entries
  es = nearest l.frames

  abbrev after : Entries
  after = update es new

  abbrev change : Entries → Entries
  change x = update x new

  abbrev changed : List Frame
  changed = on_nearest change l.frames

  its_words : run_words l.process ≡ h ∷ count new ∷ entries_words new
  unfolding words exprs_words
  its_words = ap run_words is ∙ (words_act (node h [] [] (list new) no_parts) ∙ ap (λ x. h ∷ count new ∷ x) (append-nil (entries_words new)))

  its_depth : run_depth l.process ≡ suc (entries_depth new)
  unfolding depth exprs_depth
  its_depth = ap run_depth is ∙ (depth_act (node h [] [] (list new) no_parts) ∙ omega arith)

  abbrev Result : Edited → Type 0
  Result u = Spacious u fresh → Ruled limits.deepest ws start (start + size r) u.edit u.fresh (some (plug changed nil)) × (u.edit.store ≡ unchanged)

  bare : T (not (scoped l.frames)) → Result (installed_w limits ws notes start s fresh)
  unfolding installed_w
  bare t =
      let z = scope_none f target r start 1 l s ws (drop (start + size r) ws) words_at spotted t in
      rw (eq-eqb s.scope 0 z, nearest_self change l.frames t)
      (λ w. nil_ruled f target r start l s ws words_at spotted near frames deep fresh room big)

  -- with a scope around it
  module _ (t : T (scoped l.frames)) where
    abbrev made : Update
    made = update_w 64 ws (s.scope + 2) (target + 1) fresh

    own_inside : target + 2 + length (entries_words new) ≤ length ws
    unfolding size
    own_inside =
        omega (
          arith,
          process_inside f target r start l s ws words_at spotted near frames deep,
          ap length its_words,
          whole_inside f target r start l s ws words_at spotted near frames deep,
        )

    list_short : 3 + length (entries_words es) ≤ 8192
    list_short =
        omega (
          arith,
          list_inside f target r start l s ws words_at spotted near frames deep t,
          region_length f target r start l s ws words_at spotted near frames deep t,
        )

    not_huge : length (entries_words after) ≤ 8192 + 8192 * 8192
    not_huge =
        let a = update_small replaced_small (nearest_fits frames) fit in
        let b : length (entries_words new) * (2 + length (entries_words es)) ≤ 8192 * 8192 =
        le_trans (mul-le-mul_left (length (entries_words new))
        (let z : 2 + length (entries_words es) ≤ 8192 = omega (arith, list_short) in z))
        (mul-le-mul_right 8192 (let z : length (entries_words new) ≤ 8192 = omega (arith, own_inside) in z)) in
        omega (arith, list_short)

    updating : Updates 64 es new fresh made
    updating =
        let a = list_at f target r start 1 l s ws (drop (start + size r) ws) words_at spotted t in
        let b = process_at f target r start 1 l s ws (drop (start + size r) ws) words_at spotted in
        let c = at_head ws target h (count new ∷ (entries_words new ++ b.0)) (b.1 ∙ ap (λ w. w ++ b.0) its_words) in
        updates ws near 64 (λ old o m c p. replaces ws near)
        (nearest_fits frames) fit (list_deep f target r start l s ws words_at spotted near frames deep t)
        (omega (arith, its_depth, (frames_deep f target r start l s ws words_at spotted near frames deep).1))
        (s.scope + 2) a.0 a.1 (target + 1) b.0 c.next fresh
        (near_of (1 + length (entries_words after) + 2 * 64 + 2) (omega (arith, not_huge)))

    to_own : onward s.at 1 ≡ target + 1
    to_own = ap (λ i. onward i 1) spotted.at ∙ onward_near target 1 (length ws) near (omega (arith, own_inside))

    level_is : s.scope_level ≡ suc (outside l.frames)
    level_is = omega (arith, spotted.near_level t)

    level_low : suc (outside l.frames + entries_depth es) ≤ limits.deepest
    level_low = omega (arith, nearest_within l.frames t, (frames_deep f target r start l s ws words_at spotted near frames deep).0)

    changed_fits : suc (outside l.frames) + made.answer.levels ≤ limits.deepest → run_depth (plug changed nil) ≤ limits.deepest
    changed_fits low =
        let a : NoLarger nil l.process =
        record {
          shorter = omega (arith, size_nil, size_positive l.process);
          shallower =
              omega (arith, depth_nil, depth_some l.process);
        } in
        let b : run_depth (plug changed nil) ≤ run_depth (wrap changed l.process) =
        (plug_shrinks (nearest_sound (update_keeps fit) frames) a).shallower in
        let c = wrap_depth changed l.process in
        let d = frames_deep f target r start l s ws words_at spotted near frames deep in
        omega (arith, d.0, d.1, level_low, nearest_length change l.frames, nearest_spread change l.frames, updating.covers)

    changed_deep : limits.deepest < suc (outside l.frames) + made.answer.levels → limits.deepest < run_depth (plug changed nil)
    changed_deep high = omega (arith, nearest_deep frames change t nil, updating.shallow)

    list_laid : made.answer.to + 130 ≤ length fresh → take made.answer.to made.out ≡ region changed
    list_laid low =
        ap (λ i. take i made.out) updating.reaches
        ∙ (updating.laid (omega (arith, updating.reaches)) ∙ sym (region_changed change l.frames t))

    to_near : Near (made.answer.to + 1)
    to_near = near_of (made.answer.to + 1) (omega (arith, updating.reaches, not_huge))

    spared :
        Spacious (updated_w ws notes s (s.scope + 2) made.answer.to made.out) fresh → made.answer.to ≤ 8192 →
        made.answer.to + 130 ≤ length fresh
    unfolding updated_w nil_w
    spared w low =
        let e = hollow_to s.hollow made.answer.to made.out to_near in
        let z = hole_short s.hollow in
        let x = w (omega arith) in
        omega arith

    -- if there are levels left for it
    placed :
        (b : Bool) → ltb limits.deepest (suc (outside l.frames) + made.answer.levels) ≡ b →
        Result (cond b (edited (refused_edit 8) made.out) (updated_w ws notes s (s.scope + 2) made.answer.to made.out))
    unfolding updated_w nil_w
    placed true e = λ w. (too_deep refl (changed_deep (ltb-true limits.deepest (suc (outside l.frames) + made.answer.levels) e)), refl)
    placed false e = λ w.
        rw (list_ends f target r start l s ws words_at spotted near frames deep t notes right) (
          ruled refl
              (list_edits f target r start l s ws words_at spotted near frames deep t change made.answer.to made.out
              updating.reaches
              to_near
              (λ x. omega (arith, updating.keeps, spared w x)) (λ x. list_laid (spared w x)) 32 0)
              (changed_fits (ltb-false limits.deepest (suc (outside l.frames) + made.answer.levels) e)),
          refl,
        )

    under : Result (installed_w limits ws notes start s fresh)
    unfolding installed_w
    under =
        let first = list_first f target r start l s ws words_at spotted near frames deep t in
        rw (
          ne_eqb s.scope 0 (λ z. omega arith),
          to_list f target r start l s ws words_at spotted near frames deep t,
          to_own,
          ap (λ n. too_deep_w limits n made.answer.levels) level_is
              ∙ too_deep_lem limits (suc (outside l.frames)) made.answer.levels deep.low (omega (arith, level_low)),
        )
        (placed (ltb limits.deepest (suc (outside l.frames) + made.answer.levels)) refl)

  pub installs :
      (let u = installed_w limits ws notes start s fresh in
      Spacious u fresh →
      Ruled limits.deepest ws start (start + size r) u.edit u.fresh (some (plug (on_nearest (λ x. update x new) l.frames) nil))
      × (u.edit.store ≡ unchanged))
  installs = by (scoped l.frames) refl
    where
      by : (b : Bool) → scoped l.frames ≡ b → Result (installed_w limits ws notes start s fresh)
      by true e = under (rw e tt)
      by false e = bare (rw e tt)
