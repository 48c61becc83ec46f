-- The law of a scope with nil body and a mark: the mark goes, and the handler under its key leaves the list to be its body.
-- Assumes nothing.
use Prim.Native.Nat.{ℕ, zero, ◌+◌, ◌-◌, ◌≤◌, ◌<◌}
use native.Mathlib.Omega.{arith}
use mathlib.Core.Path.{◌≡◌, refl, sym, ap, ◌∙◌}
use mathlib.Core.Bool.{Bool, true, false}
use mathlib.Core.Option.{some}
use mathlib.Core.List.{List, [], ◌∷◌, ◌++◌, append-nil}
use borrow.Author.Tests.{le-ltb, eq-eqb, ne_eqb}
use lib.ListN.{length, set, take, drop, length-append, length-drop, length-set}
use lib.Seq.{take_all, drop-length, take-append-add}
use Rattle.sock.specs.Term.{Node, Entries, nil_node}
use Rattle.sock.specs.Layout.{exprs_words, count, words, entries_words, depth}
use Rattle.sock.specs.Reading.{code, anywhere, holds}
use Rattle.sock.specs.Running.{Mark, unmarked, scope_head, Run, nil, scope, run_words, size, run_depth, enable}
use Rattle.sock.specs.Handlers.{handler, without}
use Rattle.sock.specs.Frames.{Located, is_done, plug}
use Rattle.sock.proofs.Fits.{Fits, FitsEntries, SoundFrames}
use Rattle.sock.proofs.Handlers.{handler_fits}
use Rattle.sock.proofs.Running.{enable_as_node}
use Rattle.sock.proofs.Measures.{words_scope, depth_scope}
use Rattle.skipping.proofs.Notes.{Right}
use Rattle.finding.specs.declared.find.Site.{Site}
use Rattle.finding.proofs.Spots.{Spotted}
use Rattle.finding.proofs.Edits.{edited, swap_plain}
use Rattle.layout.specs.Positions.{onward}
use Rattle.writers.proofs.Laid.{Near, onward_near, Laid, laid_put, laid_then, laid_copy, copy_end}
use Rattle.handling.specs.Taking.{Took, take_w}
use Rattle.handling.proofs.Takes.{Takes, takes, Stands}
use Rattle.handling.proofs.Stays.{without_shallow, without_short}
use Rattle.rules.specs.Storing.{unchanged}
use Rattle.rules.proofs.Rewrites.{enable_words}
use Rattle.rules.proofs.Depths.{plug_fits, Shallow}
use Rattle.rules.proofs.Edits.{Edits, edits_of, part_first}
use Rattle.rules.proofs.Outcomes.{Ruled, ruled}
use Rattle.scopes.specs.Ending.{took, take_behind_w, taken_to, taken_w, resumed_w}
use Rattle.scopes.proofs.ScopeLists.{whole_inside, process_inside, process_begins}
use Rattle.scopes.proofs.ScopeWords.{head_cleared, node_some, handler_shallow, handler_short, its_size, its_place, its_inside, head_at, to_own, own_list, own_ends}
use Rattle.scopes.proofs.Scratch.{Roomy}

-- the list is written behind two words
behind_two :
    (ws : List ℕ) (list key : ℕ) (out : List ℕ) → 2 ≤ length out →
    take_behind_w ws list key out
    ≡ took (take_w 64 ws list key (drop 2 out)).answer (take 2 out ++ (take_w 64 ws list key (drop 2 out)).out)
unfolding take_behind_w
behind_two ws list key out h =
    let n = length-drop 2 out in
    let whole : take (length out - 2) (drop 2 out) ≡ drop 2 out = take_all (length out - 2) (drop 2 out) (omega arith) in
    let none : drop (length out - 2) (drop 2 out) ≡ [] = ap (λ k. drop k (drop 2 out)) (sym n) ∙ drop-length (drop 2 out) in
    rw (le-ltb (length out) 2 h, whole, none, append-nil (take_w 64 ws list key (drop 2 out)).out)

-- what was taken out is written behind
module _ (ws : List ℕ) (k : ℕ) (h : Entries) (lent : List ℕ) (t : Took) (taking : Takes ws k h lent t) (out : List ℕ) (to : ℕ)
    (room : to + length (words (handler k h)) ≤ length out) (big : Near (length out)) where
  nil_word : words nil_node ≡ 0 ∷ []
  unfolding words exprs_words
  nil_word = refl

  taken_laid :
      Laid out to (words (handler k h)) (taken_w ws t.answer out to) × (taken_to ws t.answer to ≡ to + length (words (handler k h)))
  unfolding taken_w taken_to
  taken_laid = by (holds k h) refl
    where
      by : (b : Bool) → holds k h ≡ b →
          Laid out to (words (handler k h)) (taken_w ws t.answer out to)
          × (taken_to ws t.answer to ≡ to + length (words (handler k h)))
      by true e =
          let s : Stands ws t.answer.from t.answer.upto (handler k h) = taking.present e in
          let d : drop t.answer.from ws ≡ words (handler k h) ++ s.0 = s.1.0 in
          let n : length ws - t.answer.from ≡ length (words (handler k h) ++ s.0) =
          sym (length-drop t.answer.from ws) ∙ ap length d in
          let some = node_some (handler k h) in
          let low : t.answer.from ≤ length ws = omega (arith, length-append (words (handler k h)) s.0) in
          rw (ne_eqb t.answer.upto 0 (λ z. omega (arith, s.1.1))) (
            laid_copy ws (words (handler k h)) s.0 t.answer.from t.answer.upto out to d low s.1.1 room,
            copy_end ws (words (handler k h)) s.0 t.answer.from t.answer.upto to (length out) d low s.1.1 big room,
          )
      by false e =
          let a = taking.absent e in
          let w : words (handler k h) ≡ 0 ∷ [] = ap words a.1 ∙ nil_word in
          let n : length (words (handler k h)) ≡ 1 = ap length w in
          rw (eq-eqb t.answer.upto 0 a.0, w) (
            laid_put out to 0 (omega arith),
            onward_near to 1 (length out) big (omega arith),
          )

module _ (f target : ℕ) (r : Run) (start : ℕ) (l : Located) (s : Site) (ws notes : List ℕ) (right : Right ws notes)
    (words_at : drop start ws ≡ run_words r ++ drop (start + size r) ws)
    (spotted : Spotted f target r start 1 l s) (near : Near (length ws)) {n issued : ℕ} (frames : SoundFrames n issued l.frames)
    {most : ℕ} (deep : Shallow most r)
    (few : n ≤ 8) (small : issued < 65536) (short : length ws ≤ 8192)
    (fresh : List ℕ) (room : Roomy ws fresh) (big : Near (length fresh))
    (name : ℕ) (mark : Mark) (zombie : Bool) (h : Entries) (is : l.process ≡ scope name mark zombie h nil)
    (low : name < 64) (fit : FitsEntries true zero h) (k : ℕ) where
  abbrev m : Node
  m = handler k h

  abbrev q : Run
  q = scope name unmarked zombie (without k h) (enable m)

  fitting : Fits (code false) anywhere m
  fitting = handler_fits true k fit

  abbrev marked : List ℕ
  marked = set (set fresh 0 (scope_head name unmarked zombie)) 1 0

  marked_length : length marked ≡ length fresh
  marked_length = length-set (set fresh 0 (scope_head name unmarked zombie)) 1 0 ∙ length-set fresh 0 (scope_head name unmarked zombie)

  two_words : take 2 marked ≡ scope_head name unmarked zombie ∷ 0 ∷ []
  two_words =
      (laid_then (laid_put fresh 0 (scope_head name unmarked zombie) (omega arith))
      (laid_put (set fresh 0 (scope_head name unmarked zombie)) 1 0
      (omega (arith, length-set fresh 0 (scope_head name unmarked zombie))))).begins

  abbrev t : Took
  t = take_w 64 ws (target + 2) k (drop 2 marked)

  taking : Takes ws k h (drop 2 marked) t
  taking =
      let a = own_list f target r start l s ws words_at spotted near frames deep name mark zombie h is in
      let d = its_place f target r start l s ws words_at spotted near frames deep name mark zombie h is in
      takes ws near 64 k fit (omega arith)
      (target + 2) a.0 a.1 (drop 2 marked)

  abbrev made : List ℕ
  made = take 2 marked ++ t.out

  made_length : length made ≡ length fresh
  made_length =
      omega (
        arith,
        length-append (take 2 marked) t.out,
        ap length two_words,
        taking.keeps,
        length-drop 2 marked,
        marked_length,
      )

  abbrev to : ℕ
  to = 2 + t.answer.to

  inside : target + 4 + length (entries_words h) ≤ length ws
  inside = its_inside f target r start l s ws words_at spotted near frames deep name mark zombie h is

  wide : to + length (words m) ≤ length fresh
  wide = omega (arith, taking.reaches, without_short k h, handler_short k h, inside)

  handled : Laid made to (words m) (taken_w ws t.answer made to) × (taken_to ws t.answer to ≡ to + length (words m))
  handled = taken_laid ws k h (drop 2 marked) t taking made to (omega (arith, wide, made_length)) (rw made_length big)

  front : take to made ≡ scope_head name unmarked zombie ∷ 0 ∷ count (without k h) ∷ entries_words (without k h)
  front =
      ap (λ w. take to (w ++ t.out)) two_words
      ∙ (take-append-add (scope_head name unmarked zombie ∷ 0 ∷ []) t.out t.answer.to
      ∙ ap (λ w. scope_head name unmarked zombie ∷ 0 ∷ w)
      (ap (λ i. take i t.out) taking.reaches
      ∙ taking.laid (omega (arith, taking.reaches, wide, length-drop 2 marked, marked_length))))

  its_new_words : run_words q ≡ take (to + length (words m)) (taken_w ws t.answer made to) ++ []
  its_new_words =
      words_scope name unmarked zombie (without k h) (enable m)
      ∙ (ap (λ w. scope_head name unmarked zombie ∷ 0 ∷ count (without k h) ∷ (entries_words (without k h) ++ w)) (enable_words fitting)
      ∙ (ap (λ w. w ++ words m) (sym front)
      ∙ (sym handled.0.begins
      ∙ sym (append-nil (take (to + length (words m)) (taken_w ws t.answer made to))))))

  abbrev end : ℕ
  end = target + 4 + length (entries_words h)

  edits :
      Edits ws start (start + size r) (resumed_w ws notes start s.at k fresh).edit (resumed_w ws notes start s.at k fresh).fresh
      (plug l.frames q)
  unfolding resumed_w size is_done
  edits =
      let size_is = its_size f target r start l s ws words_at spotted near frames deep name mark zombie h is in
      let first : start ≤ target = process_begins f target r start l s ws words_at spotted near frames deep in
      let behind = process_inside f target r start l s ws words_at spotted near frames deep in
      let ends_at : onward (target + 3 + length (entries_words h)) 1 ≡ end =
      onward_near (target + 3 + length (entries_words h)) 1 (length ws) near (omega (arith, inside)) ∙ omega arith in
      let to_is : onward 2 t.answer.to ≡ to = onward_near 2 t.answer.to (length fresh) big (omega (arith, wide)) in
      rw (
        head_at f target r start l s ws words_at spotted near frames deep name mark zombie h is,
        head_cleared name mark zombie low,
        to_own f target r start l s ws words_at spotted near frames deep name mark zombie h is,
        own_ends f target r start l s ws words_at spotted near frames deep name mark zombie h is notes right fit,
        ends_at,
        behind_two ws (target + 2) k marked (omega (arith, marked_length)),
        to_is,
        handled.1,
        spotted.at,
      )
      (edits_of ws start (start + size r) _ (taken_w ws t.answer made to)
      (record {
        l_in = omega arith;
        m_in = omega arith;
        a_in = first;
        b_in = omega arith;
        c_in = omega arith;
        d_in = omega arith;
        end_in = omega (arith, behind, size_is);
        fresh_in = omega arith;
      })
      (whole_inside f target r start l s ws words_at spotted near frames deep) (plug l.frames q)
      (omega (arith, wide, handled.0.keeps, made_length))
      (ap (λ new. edited ws start start [] target end new end end)
      (part_first (to + length (words m)) (taken_w ws t.answer made to))
      ∙ swap_plain f target r start 1 l s ws (drop (start + size r) ws) words_at spotted q (run_words l.process) [] []
      (take (to + length (words m)) (taken_w ws t.answer made to)) end end end refl
      (sym (append-nil (run_words l.process))) its_new_words
      (omega (arith, size_is)) (omega arith) (omega arith)))

  enabled_deep : run_depth (enable m) ≡ depth m
  unfolding run_depth
  enabled_deep = ap depth (enable_as_node fitting)

  fits_in : run_depth (plug l.frames q) ≤ most
  unfolding is_done
  fits_in =
      let whole = spotted.wraps in
      plug_fits frames l.process q most refl (omega (arith, deep.kept, ap run_depth whole))
      (omega (
        arith,
        its_place f target r start l s ws words_at spotted near frames deep name mark zombie h is,
        depth_scope name unmarked zombie (without k h) (enable m),
        enabled_deep,
        without_shallow k h,
        handler_shallow k h,
      ))

  pub resumes :
      (let u = resumed_w ws notes start s.at k fresh in
      Ruled most ws start (start + size r) u.edit u.fresh
      (some (plug l.frames (scope name unmarked zombie (without k h) (enable (handler k h)))))
      × (u.edit.store ≡ unchanged))
  unfolding resumed_w
  resumes = (ruled refl edits fits_in, refl)
