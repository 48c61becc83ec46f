-- What the search found, as an edit of the words: the nearest scope's list replaced, one part replaced, one more taken out.
-- Assumes nothing.
use Prim.Native.Nat.{ℕ, ◌+◌, ◌-◌, ◌≤◌}
use native.Mathlib.Omega.{arith}
use mathlib.Core.Path.{◌≡◌, refl, sym, ap, ◌∙◌}
use mathlib.Core.Bool.{false, not}
use mathlib.Core.List.{List, [], ◌∷◌, ◌++◌, append_assoc}
use lib.Dec.{T}
use lib.ListN.{length, take, drop, length-append, length-drop, take-append-drop}
use lib.Seq.{take_at, drop_at, length-take-le}
use Rattle.sock.specs.Term.{Entries}
use Rattle.sock.specs.Layout.{count, entries_words}
use Rattle.sock.specs.Running.{Run, nil, run_words, size}
use Rattle.sock.specs.Frames.{Frame, seq_frame, left_frame, right_frame, scope_frame, executor_frame, Located, is_done, plug, nearest, on_nearest}
use Rattle.sock.proofs.Located.{size_positive}
use Rattle.finding.specs.declared.find.Site.{Site}
use Rattle.finding.proofs.Framing.{scoped, region}
use Rattle.finding.proofs.Stops.{standing_none, any_none, any_some}
use Rattle.finding.proofs.Pieces.{hole, Swap, Cut}
use Rattle.finding.proofs.Spots.{Spotted}

-- the words f..t
abbrev pub part : ℕ → ℕ → List ℕ → List ℕ
part f t ws = take (t - f) (drop f ws)

-- ws with the words l..m replaced by `new`, then a..b by `fresh`, and c..d taken out
unfoldable pub edited : List ℕ → ℕ → ℕ → List ℕ → ℕ → ℕ → List ℕ → ℕ → ℕ → List ℕ
edited ws l m new a b fresh c d = take l ws ++ (new ++ (part m a ws ++ (fresh ++ (part b c ws ++ drop d ws))))

part_at : (ws p q t : List ℕ) (f e : ℕ) → f ≡ length p → e ≡ f + length q → ws ≡ p ++ (q ++ t) → part f e ws ≡ q
part_at ws p q t f e a b w =
    let n : length q ≡ e - f = omega arith in
    ap (λ l. take (e - f) (drop f l)) w ∙ (ap (take (e - f)) (drop_at p (q ++ t) f (sym a)) ∙ take_at q t (e - f) n)

-- in pieces
pub edited_pieces :
    (ws x y z u v w t new fresh : List ℕ) (l m a b c d : ℕ) →
    ws ≡ x ++ (y ++ (z ++ (u ++ (v ++ (w ++ t))))) →
    l ≡ length x →
    m ≡ l + length y →
    a ≡ m + length z →
    b ≡ a + length u →
    c ≡ b + length v →
    d ≡ c + length w →
    edited ws l m new a b fresh c d ≡ x ++ (new ++ (z ++ (fresh ++ (v ++ t))))
unfolding edited
edited_pieces ws x y z u v w t new fresh l m a b c d e pl pm pa pb pc pd =
    let first : take l ws ≡ x = ap (take l) e ∙ take_at x _ l (sym pl) in
    let second : part m a ws ≡ z =
    part_at ws (x ++ y) z (u ++ (v ++ (w ++ t))) m a (omega (arith, length-append x y)) pa (e ∙ sym (append_assoc x y _)) in
    let third : part b c ws ≡ v =
    part_at ws (x ++ (y ++ (z ++ u))) v (w ++ t) b c
    (omega (arith, length-append x (y ++ (z ++ u)), length-append y (z ++ u), length-append z u)) pc
    (e ∙ regrouped_4 x y z u (v ++ (w ++ t))) in
    let fourth : drop d ws ≡ t =
    ap (drop d) (e ∙ regrouped_6 x y z u v w t)
    ∙ drop_at (x ++ (y ++ (z ++ (u ++ (v ++ w))))) t d
    (omega (
      arith,
      length-append x (y ++ (z ++ (u ++ (v ++ w)))),
      length-append y (z ++ (u ++ (v ++ w))),
      length-append z (u ++ (v ++ w)),
      length-append u (v ++ w),
      length-append v w,
    )) in
    rw (first, second, third, fourth)
  where
    regrouped_4 : (x y z u t : List ℕ) → x ++ (y ++ (z ++ (u ++ t))) ≡ (x ++ (y ++ (z ++ u))) ++ t
    regrouped_4 x y z u t = simp append_assoc

    regrouped_6 : (x y z u v w t : List ℕ) → x ++ (y ++ (z ++ (u ++ (v ++ (w ++ t))))) ≡ (x ++ (y ++ (z ++ (u ++ (v ++ w))))) ++ t
    regrouped_6 x y z u v w t = simp append_assoc

-- ---- the nearest scope's list

pub region_nearest : (fs : List Frame) → T (scoped fs) → region fs ≡ count (nearest fs) ∷ entries_words (nearest fs)
unfolding region scoped nearest
region_nearest [] t = absurd t
region_nearest (seq_frame q ∷ fs) t = region_nearest fs t
region_nearest (left_frame b ∷ fs) t = region_nearest fs t
region_nearest (right_frame b ∷ fs) t = region_nearest fs t
region_nearest (scope_frame name mark zombie h ∷ fs) t = refl
region_nearest (executor_frame o y client serial ∷ fs) t = region_nearest fs t

pub region_changed :
    (g : Entries → Entries) (fs : List Frame) →
    T (scoped fs) →
    region (on_nearest g fs) ≡ count (g (nearest fs)) ∷ entries_words (g (nearest fs))
unfolding region scoped nearest on_nearest
region_changed g [] t = absurd t
region_changed g (seq_frame q ∷ fs) t = region_changed g fs t
region_changed g (left_frame b ∷ fs) t = region_changed g fs t
region_changed g (right_frame b ∷ fs) t = region_changed g fs t
region_changed g (scope_frame name mark zombie h ∷ fs) t = refl
region_changed g (executor_frame o y client serial ∷ fs) t = region_changed g fs t

abbrev pub unchanged : Entries → Entries
unchanged h = h

nearest_unchanged : (fs : List Frame) → on_nearest unchanged fs ≡ fs
unfolding on_nearest
nearest_unchanged [] = refl
nearest_unchanged (seq_frame q ∷ fs) = ap (λ l. seq_frame q ∷ l) (nearest_unchanged fs)
nearest_unchanged (left_frame b ∷ fs) = ap (λ l. left_frame b ∷ l) (nearest_unchanged fs)
nearest_unchanged (right_frame b ∷ fs) = ap (λ l. right_frame b ∷ l) (nearest_unchanged fs)
nearest_unchanged (scope_frame name mark zombie h ∷ fs) = refl
nearest_unchanged (executor_frame o y client serial ∷ fs) = ap (λ l. executor_frame o y client serial ∷ l) (nearest_unchanged fs)

-- ---- of a process that the search found

flat_2 : (x y z u v t : List ℕ) → x ++ (y ++ (z ++ ((u ++ v) ++ t))) ≡ x ++ (y ++ (z ++ (u ++ (v ++ t))))
flat_2 x y z u v t = simp append_assoc

flat_3 : (x y z u v w t : List ℕ) → x ++ (y ++ (z ++ ((u ++ (v ++ w)) ++ t))) ≡ x ++ (y ++ (z ++ (u ++ (v ++ (w ++ t)))))
flat_3 x y z u v w t = simp append_assoc

flat_6 : (p x y z u v t q : List ℕ) → p ++ ((x ++ (y ++ (z ++ (u ++ (v ++ t))))) ++ q) ≡ (p ++ x) ++ (y ++ (z ++ (u ++ (v ++ (t ++ q)))))
flat_6 p x y z u v t q = simp append_assoc

flat_7 :
    (p x y z u v w t q : List ℕ) →
    p ++ ((x ++ (y ++ (z ++ (u ++ (v ++ (w ++ t)))))) ++ q) ≡ (p ++ x) ++ (y ++ (z ++ (u ++ (v ++ (w ++ (t ++ q))))))
flat_7 p x y z u v w t q = simp append_assoc

flat_4 : (p x y z u t q : List ℕ) → p ++ ((x ++ (y ++ (z ++ (u ++ t)))) ++ q) ≡ (p ++ x) ++ (y ++ (z ++ (u ++ (t ++ q))))
flat_4 p x y z u t q = simp append_assoc

front_4 : (p x y z u t q : List ℕ) → p ++ ((x ++ (y ++ (z ++ (u ++ t)))) ++ q) ≡ (p ++ (x ++ (y ++ z))) ++ (u ++ (t ++ q))
front_4 p x y z u t q = simp append_assoc

front_6 : (p x y z u v t q : List ℕ) → p ++ ((x ++ (y ++ (z ++ (u ++ (v ++ t))))) ++ q) ≡ p ++ ((x ++ (y ++ z)) ++ (u ++ (v ++ (t ++ q))))
front_6 p x y z u v t q = simp append_assoc

front_7 :
    (p x y z u v w t q : List ℕ) →
    p ++ ((x ++ (y ++ (z ++ (u ++ (v ++ (w ++ t)))))) ++ q) ≡ p ++ ((x ++ (y ++ z)) ++ (u ++ (v ++ (w ++ (t ++ q)))))
front_7 p x y z u v w t q = simp append_assoc

module _ (f target : ℕ) (r : Run) (i level : ℕ) (l : Located) (s : Site) (ws rest : List ℕ) (words : drop i ws ≡ run_words r ++ rest)
    (spotted : Spotted f target r i level l s) where
  start : length (take i ws) ≡ i
  unfolding size
  start = length-take-le i ws (omega (arith, size_positive r, length-append (run_words r) rest, sym (length-drop i ws) ∙ ap length words))

  split : (w : List ℕ) → run_words r ≡ w → ws ≡ take i ws ++ (w ++ rest)
  split w e = sym (take-append-drop i ws) ∙ ap (λ x. take i ws ++ x) (words ∙ ap (λ x. x ++ rest) e)

  -- nil in its place, and the nearest scope's list changed by g; or no list
  pub nil_edited :
      (g : Entries → Entries) →
      T (scoped l.frames) →
      edited ws (s.scope + 2) (s.scope + 2 + length (region l.frames)) (region (on_nearest g l.frames)) s.from s.upto (hole s.hollow) s.gap s.end
      ≡ take i ws ++ (run_words (plug (on_nearest g l.frames) nil) ++ rest)
  nil_edited g t =
      let c : Cut r i l.frames s.scope s.from s.upto s.gap s.end s.hollow = spotted.cut in
      edited_pieces ws (take i ws ++ c.before) (region l.frames) c.between c.gone c.middle c.dropped (c.after ++ rest)
      (region (on_nearest g l.frames)) (hole s.hollow) (s.scope + 2) (s.scope + 2 + length (region l.frames)) s.from s.upto s.gap s.end
      (split _ c.whole ∙ flat_7 (take i ws) c.before (region l.frames) c.between c.gone c.middle c.dropped c.after rest)
      (omega (arith, c.lists t, start, length-append (take i ws) c.before))
      refl
      (omega (arith, c.lists t, c.from))
      c.upto
      c.again
      c.till
      ∙ sym
      (ap (λ x. take i ws ++ (x ++ rest)) (c.result g)
      ∙ flat_6 (take i ws) c.before (region (on_nearest g l.frames)) c.between (hole s.hollow) c.middle c.after rest)

  pub nil_plain : edited ws i i [] s.from s.upto (hole s.hollow) s.gap s.end ≡ take i ws ++ (run_words (plug l.frames nil) ++ rest)
  nil_plain =
      let c : Cut r i l.frames s.scope s.from s.upto s.gap s.end s.hollow = spotted.cut in
      let front : List ℕ = c.before ++ (region l.frames ++ c.between) in
      let same : run_words (plug l.frames nil) ≡ c.before ++ (region l.frames ++ (c.between ++ (hole s.hollow ++ (c.middle ++ c.after)))) =
      rw (nearest_unchanged l.frames) at (c.result unchanged) in
      edited_pieces ws (take i ws) [] front c.gone c.middle c.dropped (c.after ++ rest) [] (hole s.hollow) i i s.from s.upto s.gap s.end
      (split _ c.whole ∙ front_7 (take i ws) c.before (region l.frames) c.between c.gone c.middle c.dropped c.after rest)
      (sym start)
      (omega arith)
      (omega (
        arith,
        c.from,
        length-append c.before (region l.frames ++ c.between),
        length-append (region l.frames) c.between,
      ))
      c.upto
      c.again
      c.till
      ∙ sym
      (ap (λ x. take i ws ++ (x ++ rest)) same
      ∙ front_6 (take i ws) c.before (region l.frames) c.between (hole s.hollow) c.middle c.after rest)

  -- q in its place, which is not nil and whose words are fresh ones and then a part of the old ones
  module _ (q : Run) (u v w fresh : List ℕ) (b c d : ℕ) (lives : is_done q ≡ false) (old : run_words l.process ≡ u ++ (v ++ w))
      (made : run_words q ≡ fresh ++ v) (pb : b ≡ target + length u) (pc : c ≡ b + length v) (pd : d ≡ c + length w) where
    old_in : (x y z t : List ℕ) → x ++ (y ++ (z ++ (run_words l.process ++ t))) ≡ x ++ (y ++ (z ++ (u ++ (v ++ (w ++ t)))))
    old_in x y z t = ap (λ k. x ++ (y ++ (z ++ (k ++ t)))) old ∙ flat_3 x y z u v w t

    made_in : (x y z t : List ℕ) → x ++ (y ++ (z ++ (run_words q ++ t))) ≡ x ++ (y ++ (z ++ (fresh ++ (v ++ t))))
    made_in x y z t = ap (λ k. x ++ (y ++ (z ++ (k ++ t)))) made ∙ flat_2 x y z fresh v t

    pub swap_edited :
        (g : Entries → Entries) →
        T (scoped l.frames) →
        edited ws (s.scope + 2) (s.scope + 2 + length (region l.frames)) (region (on_nearest g l.frames)) target b fresh c d
        ≡ take i ws ++ (run_words (plug (on_nearest g l.frames) q) ++ rest)
    swap_edited g t =
        let p : Swap r i l.frames l.process s.scope target = spotted.swap in
        edited_pieces ws (take i ws ++ p.before) (region l.frames) p.between u v w (p.after ++ rest) (region (on_nearest g l.frames)) fresh
        (s.scope + 2) (s.scope + 2 + length (region l.frames)) target b c d
        (split _ (p.whole ∙ old_in p.before (region l.frames) p.between p.after)
        ∙ flat_7 (take i ws) p.before (region l.frames) p.between u v w p.after rest)
        (omega (arith, p.lists t, start, length-append (take i ws) p.before))
        refl
        (omega (arith, p.lists t, p.from))
        pb
        pc
        pd
        ∙ sym
        (ap (λ x. take i ws ++ (x ++ rest)) (p.result g q lives ∙ made_in p.before (region (on_nearest g l.frames)) p.between p.after)
        ∙ flat_6 (take i ws) p.before (region (on_nearest g l.frames)) p.between fresh v p.after rest)

    pub swap_plain : edited ws i i [] target b fresh c d ≡ take i ws ++ (run_words (plug l.frames q) ++ rest)
    swap_plain =
        let p : Swap r i l.frames l.process s.scope target = spotted.swap in
        let front : List ℕ = p.before ++ (region l.frames ++ p.between) in
        let same : run_words (plug l.frames q) ≡ p.before ++ (region l.frames ++ (p.between ++ (run_words q ++ p.after))) =
        rw (nearest_unchanged l.frames) at (p.result unchanged q lives) in
        edited_pieces ws (take i ws) [] front u v w (p.after ++ rest) [] fresh i i target b c d
        (split _ (p.whole ∙ old_in p.before (region l.frames) p.between p.after)
        ∙ front_7 (take i ws) p.before (region l.frames) p.between u v w p.after rest)
        (sym start)
        (omega arith)
        (omega (
          arith,
          p.from,
          length-append p.before (region l.frames ++ p.between),
          length-append (region l.frames) p.between,
        ))
        pb
        pc
        pd
        ∙ sym
        (ap (λ x. take i ws ++ (x ++ rest)) (same ∙ made_in p.before (region l.frames) p.between p.after)
        ∙ front_6 (take i ws) p.before (region l.frames) p.between fresh v p.after rest)

  -- the process stands at `target`, the nearest scope's list two words behind its head
  pub process_at : (more : List ℕ) × (drop target ws ≡ run_words l.process ++ more)
  process_at =
      let p : Swap r i l.frames l.process s.scope target = spotted.swap in
      let front : List ℕ = take i ws ++ (p.before ++ (region l.frames ++ p.between)) in (
        p.after ++ rest,
        ap (drop target) (split _ p.whole ∙ front_4 (take i ws) p.before (region l.frames) p.between (run_words l.process) p.after rest)
            ∙ drop_at front (run_words l.process ++ (p.after ++ rest)) target
            (omega (
              arith,
              p.from,
              start,
              length-append (take i ws) (p.before ++ (region l.frames ++ p.between)),
              length-append p.before (region l.frames ++ p.between),
              length-append (region l.frames) p.between,
            )),
      )

  pub list_at :
      T (scoped l.frames) →
      (more : List ℕ) × (drop (s.scope + 2) ws ≡ count (nearest l.frames) ∷ (entries_words (nearest l.frames) ++ more))
  list_at t =
      let p : Swap r i l.frames l.process s.scope target = spotted.swap in
      let more : List ℕ = p.between ++ (run_words l.process ++ (p.after ++ rest)) in (
        more,
        ap (drop (s.scope + 2)) (split _ p.whole ∙ flat_4 (take i ws) p.before (region l.frames) p.between (run_words l.process) p.after rest)
            ∙ (drop_at (take i ws ++ p.before) (region l.frames ++ more) (s.scope + 2)
            (omega (arith, p.lists t, start, length-append (take i ws) p.before))
            ∙ ap (λ x. x ++ more) (region_nearest l.frames t)),
      )

  -- in order
  pub cut_order : (i ≤ s.from) × (s.from ≤ s.upto) × (s.upto ≤ s.gap) × (s.gap ≤ s.end) × (s.end ≤ i + size r)
  unfolding size
  cut_order =
      let c : Cut r i l.frames s.scope s.from s.upto s.gap s.end s.hollow = spotted.cut in
      let whole = ap length c.whole in (
        omega (arith, c.from),
        omega (arith, c.upto),
        omega (arith, c.again),
        omega (arith, c.till),
        omega (
          arith,
          whole,
          c.from,
          c.upto,
          c.again,
          c.till,
          length-append c.before (region l.frames ++ (c.between ++ (c.gone ++ (c.middle ++ (c.dropped ++ c.after))))),
          length-append (region l.frames) (c.between ++ (c.gone ++ (c.middle ++ (c.dropped ++ c.after)))),
          length-append c.between (c.gone ++ (c.middle ++ (c.dropped ++ c.after))),
          length-append c.gone (c.middle ++ (c.dropped ++ c.after)),
          length-append c.middle (c.dropped ++ c.after),
          length-append c.dropped c.after,
        ),
      )

  pub list_order : T (scoped l.frames) → (i ≤ s.scope) × (s.scope + 2 + length (region l.frames) ≤ s.from)
  list_order t =
      let c : Cut r i l.frames s.scope s.from s.upto s.gap s.end s.hollow = spotted.cut in
      (any_some l.frames l.process t spotted.nearest, omega (arith, c.from, c.lists t))

  -- no scope, no number
  pub scope_none : T (not (scoped l.frames)) → s.scope ≡ 0
  scope_none t = standing_none spotted.nearest (any_none l.frames l.process t)
