-- The nearest scope's list of a process that was found: where its words stand and end, and how deep it is.
-- Assumes nothing.
use Prim.Native.Nat.{ℕ, suc, ◌+◌, ◌≤◌, ◌<◌, max}
use native.Mathlib.Omega.{arith}
use mathlib.Core.Path.{◌≡◌, refl, sym, ap, ◌∙◌}
use mathlib.Core.Option.{some}
use mathlib.Core.List.{List, ◌++◌}
use lib.Dec.{T}
use lib.ListN.{length, drop, length-append, length-drop}
use Rattle.sock.specs.Layout.{entries_words, entries_depth}
use Rattle.sock.specs.Running.{Run, nil, run_words, size, run_depth}
use Rattle.sock.specs.Frames.{Located, plug, nearest}
use Rattle.sock.proofs.Fits.{SoundFrames}
use Rattle.sock.proofs.Frames.{nearest_fits}
use Rattle.sock.proofs.Located.{wrap, size_positive}
use Rattle.sock.proofs.Measures.{depth_nil}
use Rattle.skipping.specs.Pass.{pass_list}
use Rattle.skipping.proofs.Notes.{Right, pass_entries_lem}
use Rattle.finding.specs.declared.find.Site.{Site}
use Rattle.finding.proofs.Framing.{scoped, region}
use Rattle.finding.proofs.Pieces.{Swap}
use Rattle.finding.proofs.Spots.{Spotted}
use Rattle.finding.proofs.Edits.{region_nearest, list_at, list_order}
use Rattle.layout.specs.Positions.{onward}
use Rattle.writers.proofs.Laid.{Near, onward_near}
use Rattle.rules.specs.Storing.{unchanged}
use Rattle.rules.specs.Rewriting.{vanishing}
use Rattle.rules.specs.Editing.{nil_w, plain_w}
use Rattle.rules.proofs.Rewrites.{becomes_nil}
use Rattle.rules.proofs.Depths.{spread, wrap_depth, depth_some, Shallow}
use Rattle.rules.proofs.Outcomes.{Ruled, becomes_ruled}
use Rattle.scopes.proofs.NearestLists.{nearest_within}

module _ (f target : ℕ) (r : Run) (start : ℕ) (l : Located) (s : Site) (ws : List ℕ)
    (words : drop start ws ≡ run_words r ++ drop (start + size r) ws)
    (spotted : Spotted f target r start 1 l s) (near : Near (length ws)) {n issued : ℕ} (frames : SoundFrames n issued l.frames)
    {most : ℕ} (deep : Shallow most r) where
  pub whole_inside : start + size r ≤ length ws
  unfolding size
  whole_inside =
      omega (
        arith,
        size_positive r,
        sym (length-drop start ws) ∙ ap length words,
        length-append (run_words r)
            (drop (start + length (run_words r)) ws),
      )

  pub frames_deep : (spread l.frames ≤ most) × (length l.frames + run_depth l.process ≤ most)
  frames_deep =
      let w : wrap l.frames l.process ≡ r = spotted.wraps in
      let d : max (spread l.frames) (length l.frames + run_depth l.process) ≡ run_depth r =
      sym (wrap_depth l.frames l.process) ∙ ap run_depth w in
      (omega arith, omega arith)

  pub level_low : s.level ≤ most
  level_low = let d = frames_deep.1 in let p = depth_some l.process in let e = spotted.level in omega arith

  -- the process becomes nil, no list changes
  pub nil_ruled :
      (fresh : List ℕ) → 0 < length fresh → Near (length fresh) →
      (let u = nil_w s start start 0 unchanged fresh in
      Ruled most ws start (start + size r) u.edit u.fresh (some (plug l.frames nil)) × (u.edit.store ≡ unchanged))
  unfolding plain_w nil_w
  nil_ruled fresh room big =
      let low : s.level + run_depth nil ≤ suc most = omega (arith, level_low, depth_nil) in
      let b =
      becomes_ruled f target r start l s ws words spotted near frames deep nil (vanishing unchanged) fresh room big
      (becomes_nil l.process unchanged fresh) low in
      (b.0, refl)

  standing : (start ≤ target) × (target + size l.process ≤ start + size r)
  unfolding size
  standing =
      let w : Swap r start l.frames l.process s.scope target = spotted.swap in (
        omega (arith, w.from),
        omega (
          arith,
          w.from,
          ap length w.whole,
          length-append w.before (region l.frames ++ (w.between ++ (run_words l.process ++ w.after))),
          length-append (region l.frames) (w.between ++ (run_words l.process ++ w.after)),
          length-append w.between (run_words l.process ++ w.after),
          length-append (run_words l.process) w.after,
        ),
      )

  pub process_begins : start ≤ target
  process_begins = standing.0

  pub process_inside : target + size l.process ≤ start + size r
  process_inside = standing.1

  -- with a scope around it
  module _ (t : T (scoped l.frames)) where
    pub list_deep : entries_depth (nearest l.frames) ≤ 64
    list_deep = omega (arith, nearest_within l.frames t, frames_deep.0)

    pub region_length : length (region l.frames) ≡ suc (length (entries_words (nearest l.frames)))
    region_length = ap length (region_nearest l.frames t)

    pub list_first : start ≤ s.scope
    list_first = (list_order f target r start 1 l s ws (drop (start + size r) ws) words spotted t).0

    pub list_before : s.scope + 2 + length (region l.frames) ≤ target
    list_before = let w : Swap r start l.frames l.process s.scope target = spotted.swap in omega (arith, w.from, w.lists t)

    pub list_inside : s.scope + 2 + length (region l.frames) ≤ length ws
    list_inside = omega (arith, list_before, process_inside, whole_inside)

    pub to_list : onward s.scope 2 ≡ s.scope + 2
    to_list = onward_near s.scope 2 (length ws) near (omega (arith, list_inside))

    pub list_ends :
        (notes : List ℕ) → Right ws notes → pass_list 64 ws notes (s.scope + 2) ≡ s.scope + 2 + length (region l.frames)
    list_ends notes right =
        let a = list_at f target r start 1 l s ws (drop (start + size r) ws) words spotted t in
        pass_entries_lem ws notes right (nearest_fits frames) 64 (s.scope + 2) list_deep a.0 a.1
        ∙ omega (arith, region_length)
