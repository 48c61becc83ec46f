-- What an edit says of an engine's process: its words afterwards, in pieces of the words before and fresh ones.
-- Assumes nothing.
use Prim.Native.Nat.{ℕ, zero, suc, ◌+◌, ◌-◌, ◌≤◌, ◌<◌}
use native.Mathlib.Omega.{arith}
use mathlib.Core.Path.{◌≡◌, refl, sym, ap, ap₂, ◌∙◌}
use mathlib.Core.Bool.{Bool, true, false}
use mathlib.Core.List.{List, [], ◌∷◌, ◌++◌, append_assoc}
use lib.ListN.{length, take, drop, set, length-append, length-drop, length-set, take-append-drop}
use lib.Seq.{take_at, take-add, drop_at, drop-drop, length-take-le, take-suc-set, take-set-le}
use Rattle.sock.specs.Running.{Run, nil, seq, par, scope, executor, waiter, notice, act, run_words, size}
use Rattle.sock.specs.Frames.{Located, is_done, plug}
use Rattle.sock.proofs.Located.{size_positive}
use Rattle.finding.specs.declared.find.Site.{Site}
use Rattle.finding.proofs.Framing.{region}
use Rattle.finding.proofs.Pieces.{hole, Swap}
use Rattle.finding.proofs.Spots.{Spotted}
use Rattle.finding.proofs.Edits.{part, edited, nil_plain, swap_plain, cut_order}
use Rattle.layout.specs.Positions.{onward}
use Rattle.writers.proofs.Laid.{Near, onward_near}
use Rattle.rules.specs.Storing.{Store}
use Rattle.rules.specs.Rewriting.{Rewriting}
use Rattle.rules.specs.Editing.{Edit}
use Rattle.rules.specs.Editing.{hollow_w, nil_w, plain_w}
use Rattle.rules.proofs.Rewrites.{Pieces, Becomes, both_ways}

-- an edit's words for the process start..end
abbrev pub laid_out : List ℕ → ℕ → ℕ → Edit → List ℕ → List ℕ
laid_out ws start end p fresh =
    part start p.list ws
    ++ (take p.listed fresh
    ++ (part p.past p.from ws ++ (part p.listed p.fresh fresh ++ (part p.upto p.gap ws ++ part p.end end ws))))

pub record Ordered (start end : ℕ) (p : Edit) : Type 0 where
  pub l_in : start ≤ p.list
  pub m_in : p.list ≤ p.past
  pub a_in : p.past ≤ p.from
  pub b_in : p.from ≤ p.upto
  pub c_in : p.upto ≤ p.gap
  pub d_in : p.gap ≤ p.end
  pub end_in : p.end ≤ end
  pub fresh_in : p.listed ≤ p.fresh

-- the process start..end becomes q, whose words are known if the fresh ones are not too many for any result
pub record Edits (ws : List ℕ) (start end : ℕ) (p : Edit) (fresh : List ℕ) (q : Run) : Type 0 where
  pub order : Ordered start end p
  pub sized : size q + ((p.past - p.list) + ((p.upto - p.from) + (p.end - p.gap))) ≡ (end - start) + p.fresh
  pub words : p.fresh ≤ 8192 → laid_out ws start end p fresh ≡ run_words q

-- ---- from an edit of all the words

-- the words f..t and those behind
pub part_drop : (f t : ℕ) (ws : List ℕ) → f ≤ t → drop f ws ≡ part f t ws ++ drop t ws
part_drop f t ws h =
    let e : f + (t - f) ≡ t = omega arith in
    sym (take-append-drop (t - f) (drop f ws)) ∙ ap (λ l. part f t ws ++ l) (drop-drop (t - f) f ws ∙ ap (λ k. drop k ws) e)

pub part_length : (f t : ℕ) (ws : List ℕ) → f ≤ t → t ≤ length ws → length (part f t ws) ≡ t - f
part_length f t ws h k = length-take-le (t - f) (drop f ws) (omega (arith, length-drop f ws))

take_part : (f t : ℕ) (ws : List ℕ) → f ≤ t → take t ws ≡ take f ws ++ part f t ws
take_part f t ws h =
    let e : f + (t - f) ≡ t = omega arith in
    ap (λ k. take k ws) (sym e) ∙ take-add f (t - f) ws

pub part_first : (t : ℕ) (ws : List ℕ) → part 0 t ws ≡ take t ws
part_first t ws = ap (λ k. take k ws) (let z : t - 0 ≡ t = omega arith in z)

cancel_front : (x y z : List ℕ) → x ++ y ≡ x ++ z → y ≡ z
cancel_front x y z e = sym (drop_at x y (length x) refl) ∙ (ap (drop (length x)) e ∙ drop_at x z (length x) refl)

cancel_behind : (x y z : List ℕ) → x ++ z ≡ y ++ z → x ≡ y
cancel_behind x y z e =
    let n : length x + length z ≡ length y + length z = sym (length-append x z) ∙ (ap length e ∙ length-append y z) in
    sym (take_at x z (length x) refl) ∙ (ap (take (length x)) e ∙ take_at y z (length x) (omega arith))

in_front : (s a b c d e f g : List ℕ) → (s ++ a) ++ (b ++ (c ++ (d ++ (e ++ (f ++ g))))) ≡ s ++ ((a ++ (b ++ (c ++ (d ++ (e ++ f))))) ++ g)
in_front s a b c d e f g = simp append_assoc

module _ (ws : List ℕ) (start end : ℕ) (p : Edit) (fresh : List ℕ) (o : Ordered start end p) (inside : end ≤ length ws) where
  pub edited_inside :
      edited ws p.list p.past (take p.listed fresh) p.from p.upto (part p.listed p.fresh fresh) p.gap p.end
      ≡ take start ws ++ (laid_out ws start end p fresh ++ drop end ws)
  unfolding edited
  edited_inside =
      ap₂ (λ (x y : List ℕ). x ++ (take p.listed fresh ++ (part p.past p.from ws ++ (part p.listed p.fresh fresh ++ (part p.upto p.gap ws ++ y)))))
      (take_part start p.list ws o.l_in) (part_drop p.end end ws o.end_in)
      ∙ in_front (take start ws) (part start p.list ws) (take p.listed fresh) (part p.past p.from ws) (part p.listed p.fresh fresh) (part p.upto p.gap ws)
      (part p.end end ws) (drop end ws)

  pub edited_words :
      (q : Run) →
      edited ws p.list p.past (take p.listed fresh) p.from p.upto (part p.listed p.fresh fresh) p.gap p.end ≡ take start ws ++ (run_words q ++ drop end ws) →
      laid_out ws start end p fresh ≡ run_words q
  edited_words q e = cancel_behind _ _ (drop end ws) (cancel_front (take start ws) _ _ (sym edited_inside ∙ e))

  pub laid_length : p.fresh ≤ length fresh → length (laid_out ws start end p fresh) + ((p.past - p.list) + ((p.upto - p.from) + (p.end - p.gap))) ≡ (end - start) + p.fresh
  laid_length room =
      let x1 = part_length start p.list ws o.l_in (omega (arith, o.m_in, o.a_in, o.b_in, o.c_in, o.d_in, o.end_in)) in
      let x2 = length-take-le p.listed fresh (omega (arith, o.fresh_in)) in
      let x3 = part_length p.past p.from ws o.a_in (omega (arith, o.b_in, o.c_in, o.d_in, o.end_in)) in
      let x4 = part_length p.listed p.fresh fresh o.fresh_in room in
      let x5 = part_length p.upto p.gap ws o.c_in (omega (arith, o.d_in, o.end_in)) in
      let x6 = part_length p.end end ws o.end_in inside in
      let y5 = length-append (part p.upto p.gap ws) (part p.end end ws) in
      let y4 = length-append (part p.listed p.fresh fresh) (part p.upto p.gap ws ++ part p.end end ws) in
      let y3 = length-append (part p.past p.from ws) (part p.listed p.fresh fresh ++ (part p.upto p.gap ws ++ part p.end end ws)) in
      let y2 = length-append (take p.listed fresh) (part p.past p.from ws ++ (part p.listed p.fresh fresh ++ (part p.upto p.gap ws ++ part p.end end ws))) in
      let y1 = length-append (part start p.list ws)
      (take p.listed fresh ++ (part p.past p.from ws ++ (part p.listed p.fresh fresh ++ (part p.upto p.gap ws ++ part p.end end ws)))) in
      sums start p.list p.past p.listed p.from p.upto p.fresh p.gap p.end end _ _ _ _ _ _ _ _ _
      (gap start p.list o.l_in) (gap p.list p.past o.m_in) (gap p.past p.from o.a_in) (gap p.from p.upto o.b_in) (gap p.upto p.gap o.c_in)
      (gap p.gap p.end o.d_in) (gap p.end end o.end_in) (gap p.listed p.fresh o.fresh_in)
      (y1 ∙ rw (x1, y2, x2, y3, x3, y4, x4, y5, x5, x6))
    where
      gap : (a b : ℕ) → a ≤ b → b ≡ a + (b - a)
      gap a b h = omega arith

      sums :
          (s l m f a b g c d e n x1 y1 x2 y2 x3 y3 x4 x5 : ℕ) →
          l ≡ s + x1 → m ≡ l + y1 → a ≡ m + x2 → b ≡ a + y2 → c ≡ b + x3 → d ≡ c + y3 → e ≡ d + x4 → g ≡ f + x5 →
          n ≡ x1 + (f + (x2 + (x5 + (x3 + x4)))) → n + (y1 + (y2 + y3)) ≡ (e - s) + g
      sums s l m f a b g c d e n x1 y1 x2 y2 x3 y3 x4 x5 h1 h2 h3 h4 h5 h6 h7 h8 q = omega arith

  -- where the fresh words have room
  pub edits_of :
      (q : Run) → p.fresh ≤ length fresh →
      edited ws p.list p.past (take p.listed fresh) p.from p.upto (part p.listed p.fresh fresh) p.gap p.end ≡ take start ws ++ (run_words q ++ drop end ws) →
      Edits ws start end p fresh q
  unfolding size
  edits_of q room e =
      let w = edited_words q e in
      record { order = o; sized = rw w at (laid_length room); words = λ h. w }

-- the fresh words are all there
take_most : (n : ℕ) (l : List ℕ) → length (take n l) ≤ length l
take_most zero l = omega arith
take_most (suc n) [] = omega arith
take_most (suc n) (x ∷ l) = let h = take_most n l in omega arith

module _ (ws : List ℕ) (start end : ℕ) (p : Edit) (fresh : List ℕ) (q : Run) (edits : Edits ws start end p fresh q) (inside : end ≤ length ws) (few : p.fresh ≤ 8192) where
  o : Ordered start end p
  o = edits.order

  pub fresh_room : p.fresh ≤ length fresh
  unfolding size
  fresh_room =
      let x1 = part_length start p.list ws o.l_in (omega (arith, o.m_in, o.a_in, o.b_in, o.c_in, o.d_in, o.end_in)) in
      let x3 = part_length p.past p.from ws o.a_in (omega (arith, o.b_in, o.c_in, o.d_in, o.end_in)) in
      let x5 = part_length p.upto p.gap ws o.c_in (omega (arith, o.d_in, o.end_in)) in
      let x6 = part_length p.end end ws o.end_in inside in
      let y5 = length-append (part p.upto p.gap ws) (part p.end end ws) in
      let y4 = length-append (part p.listed p.fresh fresh) (part p.upto p.gap ws ++ part p.end end ws) in
      let y3 = length-append (part p.past p.from ws) (part p.listed p.fresh fresh ++ (part p.upto p.gap ws ++ part p.end end ws)) in
      let y2 = length-append (take p.listed fresh) (part p.past p.from ws ++ (part p.listed p.fresh fresh ++ (part p.upto p.gap ws ++ part p.end end ws))) in
      let y1 = length-append (part start p.list ws)
      (take p.listed fresh ++ (part p.past p.from ws ++ (part p.listed p.fresh fresh ++ (part p.upto p.gap ws ++ part p.end end ws)))) in
      let both : take p.fresh fresh ≡ take p.listed fresh ++ part p.listed p.fresh fresh = take_part p.listed p.fresh fresh o.fresh_in in
      let z = ap length both ∙ length-append (take p.listed fresh) (part p.listed p.fresh fresh) in
      let w = ap length (edits.words few) in
      sums start p.list p.past p.from p.upto p.fresh p.gap p.end end _ _ _ _ _ _ _ _ _ _ _ _
      (gap start p.list o.l_in) (gap p.list p.past o.m_in) (gap p.past p.from o.a_in) (gap p.from p.upto o.b_in) (gap p.upto p.gap o.c_in)
      (gap p.gap p.end o.d_in) (gap p.end end o.end_in)
      (sym w ∙ (y1 ∙ rw (x1, y2, y3, x3, y4, y5, x5, x6))) edits.sized z (take_most p.fresh fresh)
    where
      gap : (a b : ℕ) → a ≤ b → b ≡ a + (b - a)
      gap a b h = omega arith

      sums :
          (s l m a b g c d e x1 y1 x2 y2 x3 y3 x4 t u n k r : ℕ) →
          l ≡ s + x1 → m ≡ l + y1 → a ≡ m + x2 → b ≡ a + y2 → c ≡ b + x3 → d ≡ c + y3 → e ≡ d + x4 →
          n ≡ x1 + (t + (x2 + (u + (x3 + x4)))) → n + (y1 + (y2 + y3)) ≡ (e - s) + g → r ≡ t + u → r ≤ k → g ≤ k
      sums s l m a b g c d e x1 y1 x2 y2 x3 y3 x4 t u n k r h1 h2 h3 h4 h5 h6 h7 p q v w = omega arith

-- ---- of a process that was found

pub done_nil : (q : Run) → is_done q ≡ true → q ≡ nil
unfolding is_done
done_nil nil e = refl
done_nil (seq a p) e = absurd (both_ways false e refl)
done_nil (par a b) e = absurd (both_ways false e refl)
done_nil (scope name mark zombie h a) e = absurd (both_ways false e refl)
done_nil (executor o y client serial a) e = absurd (both_ways false e refl)
done_nil (waiter o x dead server serial l) e = absurd (both_ways false e refl)
done_nil (notice o f client serial) e = absurd (both_ways false e refl)
done_nil (act a) e = absurd (both_ways false e refl)

-- the words behind the first f, if a nil is to stand there
hollow_part : (hollow : Bool) (f : ℕ) (fresh : List ℕ) → f < length fresh → Near (length fresh) →
    (part f (hollow_w hollow f fresh).to (hollow_w hollow f fresh).fresh ≡ hole hollow)
    × (take f (hollow_w hollow f fresh).fresh ≡ take f fresh)
    × ((f ≤ (hollow_w hollow f fresh).to) × ((hollow_w hollow f fresh).to ≤ suc f))
    × (length (hollow_w hollow f fresh).fresh ≡ length fresh)
unfolding hollow_w
hollow_part true f fresh h near =
    let to : onward f 1 ≡ suc f = onward_near f 1 (length fresh) near (omega arith) ∙ (let z : f + 1 ≡ suc f = omega arith in z) in
    let one : suc f - f ≡ 1 = omega arith in
    let all : take (suc f) (set fresh f 0) ≡ take f fresh ++ (0 ∷ []) = take-suc-set fresh f 0 h in
    let n : length (take f fresh) ≡ f = length-take-le f fresh (omega arith) in
    let tail : part f (suc f) (set fresh f 0) ≡ 0 ∷ [] =
    cancel_front (take f (set fresh f 0)) _ _ (sym (take_part f (suc f) (set fresh f 0) (omega arith)) ∙ (all ∙ ap (λ l. l ++ (0 ∷ [])) (sym (take-set-le f fresh f 0 (omega arith))))) in
    rw to (tail, take-set-le f fresh f 0 (omega arith), (omega arith, omega arith), length-set fresh f 0)
hollow_part false f fresh h near =
    let none : f - f ≡ 0 = omega arith in
    (rw none, refl, (omega arith, omega arith), refl)

module _ (f target : ℕ) (r : Run) (start level : ℕ) (l : Located) (s : Site) (ws : List ℕ) (words : drop start ws ≡ run_words r ++ drop (start + size r) ws)
    (spotted : Spotted f target r start level l s) (near : Near (length ws)) where
  inside : start + size r ≤ length ws
  unfolding size
  inside = omega (arith, size_positive r, sym (length-drop start ws) ∙ ap length words, length-append (run_words r) (drop (start + length (run_words r)) ws))

  -- nil in its place
  pub nil_edits :
      (store : Store) (fresh : List ℕ) → 0 < length fresh → Near (length fresh) →
      (let u = nil_w s start start 0 store fresh in
      Edits ws start (start + size r) u.edit u.fresh (plug l.frames nil))
  unfolding nil_w
  nil_edits store fresh room big =
      let w = hollow_part s.hollow 0 fresh room big in
      let c = cut_order f target r start level l s ws (drop (start + size r) ws) words spotted in
      let o : Ordered start (start + size r) (nil_w s start start 0 store fresh).edit =
      record {
        l_in = omega arith;
        m_in = omega arith;
        a_in = c.0;
        b_in = c.1;
        c_in = c.2;
        d_in = c.3;
        end_in = c.4;
        fresh_in = omega arith;
      } in
      edits_of ws start (start + size r) (nil_w s start start 0 store fresh).edit (hollow_w s.hollow 0 fresh).fresh o inside (plug l.frames nil)
      (omega (arith, w.2.1, w.3))
      (ap (λ k. edited ws start start [] s.from s.upto k s.gap s.end) w.0
      ∙ nil_plain f target r start level l s ws (drop (start + size r) ws) words spotted)

  -- another in its place
  module _ (q : Run) (t : Rewriting) (fresh : List ℕ) (lives : is_done q ≡ false) (p : Pieces l.process q t fresh) where
    standing : (start ≤ target) × (target + size l.process ≤ start + size r)
    unfolding size
    standing =
        let w : Swap r start l.frames l.process s.scope target = spotted.swap in (
          omega (arith, w.from),
          omega (
            arith,
            w.from,
            ap length w.whole,
            length-append w.before (region l.frames ++ (w.between ++ (run_words l.process ++ w.after))),
            length-append (region l.frames) (w.between ++ (run_words l.process ++ w.after)),
            length-append w.between (run_words l.process ++ w.after),
            length-append (run_words l.process) w.after,
          ),
        )

    process_size : size l.process ≡ t.end
    unfolding size
    process_size =
        omega (
          arith,
          ap length p.whole,
          p.from,
          p.upto,
          p.ends,
          length-append p.before (p.kept ++ p.behind),
          length-append p.kept p.behind,
        )

    further_on : (n : ℕ) → n ≤ t.end → onward s.at n ≡ target + n
    further_on n h =
        onward_near s.at n (length ws) near (omega (arith, spotted.at, standing.1, process_size, inside)) ∙ ap (λ k. k + n) spotted.at

    pub swap_edits :
        t.number ≡ 0 → t.nil ≡ false →
        (let u = plain_w s start t fresh in
        Edits ws start (start + size r) u.edit u.fresh (plug l.frames q))
    unfolding plain_w
    swap_edits ok z =
        let a = further_on t.from (omega (arith, p.upto, p.ends)) in
        let b = further_on t.upto (omega (arith, p.ends)) in
        let c = further_on t.end (omega arith) in
        let room = p.room in
        rw (ok, z, a, b, c, spotted.at)
        (edits_of ws start (start + size r) _ fresh
        (record {
          l_in = omega arith;
          m_in = omega arith;
          a_in = standing.0;
          b_in = omega arith;
          c_in = omega (arith, p.upto);
          d_in = omega (arith, p.ends);
          end_in = omega (arith, standing.1, process_size);
          fresh_in = omega arith;
        })
        inside (plug l.frames q) room
        (ap (λ k. edited ws start start [] target (target + t.from) k (target + t.upto) (target + t.end)) (part_first t.fresh fresh)
        ∙ swap_plain f target r start level l s ws (drop (start + size r) ws) words spotted q p.before p.kept p.behind (take t.fresh fresh)
        (target + t.from) (target + t.upto) (target + t.end) lives p.whole p.made
        (omega (arith, p.from)) (omega (arith, p.upto)) (omega (arith, p.ends))))

  -- what becomes of it, whatever that is
  pub plain_edits :
      (q : Run) (t : Rewriting) (fresh : List ℕ) → 0 < length fresh → Near (length fresh) → Becomes l.process q t fresh →
      (let u = plain_w s start t fresh in
      Edits ws start (start + size r) u.edit u.fresh (plug l.frames q) × (u.edit.number ≡ 0) × (u.edit.store ≡ t.store))
  unfolding plain_w nil_w
  plain_edits q t fresh some big b = by (is_done q) refl
    where
      by :
          (d : Bool) → is_done q ≡ d →
          (let u = plain_w s start t fresh in
          Edits ws start (start + size r) u.edit u.fresh (plug l.frames q) × (u.edit.number ≡ 0) × (u.edit.store ≡ t.store))
      by true e = rw (b.accepted, b.empty ∙ e, done_nil q e) (nil_edits t.store fresh some big, refl, refl)
      by false e = (swap_edits q t fresh e (b.pieces e) b.accepted (b.empty ∙ e), rw (b.accepted, b.empty ∙ e) refl, rw (b.accepted, b.empty ∙ e) refl)
