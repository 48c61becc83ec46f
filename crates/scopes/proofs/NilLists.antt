-- The process becomes nil and the nearest scope's list another, whose words are the first fresh ones: what the edit says.
-- Assumes nothing.
use Prim.Native.Nat.{ℕ, ◌+◌, ◌-◌, ◌≤◌, ◌<◌}
use native.Mathlib.Omega.{arith}
use mathlib.Core.Path.{◌≡◌, refl, sym, ap, ◌∙◌}
use mathlib.Core.Bool.{Bool, true, false}
use mathlib.Core.List.{List, ◌++◌}
use lib.Dec.{T}
use lib.ListN.{length, take, drop, length-append}
use lib.Seq.{drop_at, take-add}
use Rattle.sock.specs.Term.{Entries}
use Rattle.sock.specs.Layout.{entries_words}
use Rattle.sock.specs.Running.{Run, nil, run_words, size}
use Rattle.sock.specs.Frames.{Located, plug, nearest, on_nearest}
use Rattle.sock.proofs.Fits.{SoundFrames}
use Rattle.finding.specs.declared.find.Site.{Site}
use Rattle.finding.proofs.Framing.{scoped, region}
use Rattle.finding.proofs.Pieces.{hole, Cut}
use Rattle.finding.proofs.Spots.{Spotted}
use Rattle.finding.proofs.Edits.{part, edited, nil_edited, cut_order, list_order, region_changed}
use Rattle.writers.proofs.Laid.{Near, onward_near, Laid, laid_put, laid_under}
use Rattle.rules.specs.Storing.{takes}
use Rattle.rules.specs.Editing.{Edit}
use Rattle.rules.specs.Editing.{hollow_w, nil_w}
use Rattle.rules.proofs.Edits.{Ordered, Edits, edited_words}
use Rattle.rules.proofs.Depths.{Shallow}
use Rattle.scopes.proofs.ScopeLists.{whole_inside}

-- words laid behind others
pub laid_part : {out : List ℕ} {to upto : ℕ} {new last : List ℕ} → to ≤ length out → Laid out to new last → upto ≡ to + length new →
    part to upto last ≡ new
laid_part {out} {to} {upto} {new} {last} h x e =
    let n : upto - to ≡ length new = omega arith in
    let front : take to last ≡ take to out = laid_under h x in
    let whole : take to last ++ take (length new) (drop to last) ≡ take to last ++ new =
    sym (take-add to (length new) last) ∙ (x.begins ∙ ap (λ l. l ++ new) (sym front)) in
    ap (λ k. take k (drop to last)) n
    ∙ (sym (drop_at (take to last) (take (length new) (drop to last)) (length (take to last)) refl)
    ∙ (ap (drop (length (take to last))) whole ∙ drop_at (take to last) new (length (take to last)) refl))

pub hollow_to : (hollow : Bool) (f : ℕ) (out : List ℕ) → Near (f + 1) → (hollow_w hollow f out).to ≡ f + length (hole hollow)
unfolding hollow_w
hollow_to true f out near = onward_near f 1 (f + 1) near (omega arith)
hollow_to false f out near = omega arith

hollow_laid :
    (hollow : Bool) (f : ℕ) (out : List ℕ) → f < length out →
    (take f (hollow_w hollow f out).fresh ≡ take f out) × (part f (f + length (hole hollow)) (hollow_w hollow f out).fresh ≡ hole hollow)
unfolding hollow_w
hollow_laid true f out h =
    let l = laid_put out f 0 h in
    (laid_under (omega arith) l, laid_part (omega arith) l refl)
hollow_laid false f out h = let z : f + 0 - f ≡ 0 = omega arith in (refl, ap (λ k. take k (drop f out)) z)

module _ (f target : ℕ) (r : Run) (start : ℕ) (l : Located) (s : Site) (ws : List ℕ)
    (words : drop start ws ≡ run_words r ++ drop (start + size r) ws)
    (spotted : Spotted f target r start 1 l s) (near : Near (length ws)) {n issued : ℕ} (frames : SoundFrames n issued l.frames)
    {most : ℕ} (deep : Shallow most r)
    (t : T (scoped l.frames)) (g : Entries → Entries) (to : ℕ) (out : List ℕ)
    (reaches : to ≡ 1 + length (entries_words (g (nearest l.frames)))) (low : Near (to + 1)) (room : to ≤ 8192 → to < length out)
    (laid : to ≤ 8192 → take to out ≡ region (on_nearest g l.frames)) (x v : ℕ) where
  abbrev m : ℕ
  m = s.scope + 2 + length (region l.frames)

  abbrev p : Edit
  p = (nil_w s (s.scope + 2) m to (takes x v) out).edit

  abbrev q : Run
  q = plug (on_nearest g l.frames) nil

  order : Ordered start (start + size r) p
  unfolding nil_w
  order =
      let c = cut_order f target r start 1 l s ws (drop (start + size r) ws) words spotted in
      let o = list_order f target r start 1 l s ws (drop (start + size r) ws) words spotted t in
      record {
        l_in = omega (arith, o.0);
        m_in = omega arith;
        a_in = o.1;
        b_in = c.1;
        c_in = c.2;
        d_in = c.3;
        end_in = c.4;
        fresh_in = omega (arith, hollow_to s.hollow to out low);
      }

  new_length_lem : length (region (on_nearest g l.frames)) ≡ to
  new_length_lem = ap length (region_changed g l.frames t) ∙ omega (arith, reaches)

  sizes : size q + ((p.past - p.list) + ((p.upto - p.from) + (p.end - p.gap))) ≡ (start + size r - start) + p.fresh
  unfolding nil_w size
  sizes =
      let c : Cut r start l.frames s.scope s.from s.upto s.gap s.end s.hollow = spotted.cut in
      let h = hollow_to s.hollow to out low in
      let new = new_length_lem in
      let whole = ap length c.whole in
      let made = ap length (c.result g) in
      let x1 = length-append c.before (region l.frames ++ (c.between ++ (c.gone ++ (c.middle ++ (c.dropped ++ c.after))))) in
      let x2 = length-append (region l.frames) (c.between ++ (c.gone ++ (c.middle ++ (c.dropped ++ c.after)))) in
      let x3 = length-append c.between (c.gone ++ (c.middle ++ (c.dropped ++ c.after))) in
      let x4 = length-append c.gone (c.middle ++ (c.dropped ++ c.after)) in
      let x5 = length-append c.middle (c.dropped ++ c.after) in
      let x6 = length-append c.dropped c.after in
      let y1 = length-append c.before (region (on_nearest g l.frames) ++ (c.between ++ (hole s.hollow ++ (c.middle ++ c.after)))) in
      let y2 = length-append (region (on_nearest g l.frames)) (c.between ++ (hole s.hollow ++ (c.middle ++ c.after))) in
      let y3 = length-append c.between (hole s.hollow ++ (c.middle ++ c.after)) in
      let y4 = length-append (hole s.hollow) (c.middle ++ c.after) in
      let y5 = length-append c.middle c.after in
      sums _ _ (s.scope + 2) (length (region l.frames)) s.from s.upto s.gap s.end start _ to (length (hole s.hollow))
      (length c.before)
      (length c.between) (length c.gone) (length c.middle) (length c.dropped) (length c.after)
      (made ∙ rw (y1, y2, new, y3, y4, y5)) (whole ∙ rw (x1, x2, x3, x4, x5, x6)) c.upto c.again c.till h
    where
      sums :
          (sq sr sc re a b c d st g to ho be bt go mi dr af : ℕ) → sq ≡ be + (to + (bt + (ho + (mi + af)))) →
          sr ≡ be + (re + (bt + (go + (mi + (dr + af))))) → b ≡ a + go → c ≡ b + mi → d ≡ c + dr → g ≡ to + ho →
          sq + ((sc + re - sc) + ((b - a) + (d - c))) ≡ (st + sr - st) + g
      sums sq sr sc re a b c d st g to ho be bt go mi dr af h1 h2 h3 h4 h5 h6 = omega arith

  pub list_edits : Edits ws start (start + size r) p (nil_w s (s.scope + 2) m to (takes x v) out).fresh q
  unfolding nil_w
  list_edits =
      record {
        order = order;
        sized = sizes;
        words =
            λ h.
            let e = hollow_to s.hollow to out low in
            let w = hollow_laid s.hollow to out (room (omega arith)) in
            edited_words ws start (start + size r) p (hollow_w s.hollow to out).fresh order
            (whole_inside f target r start l s ws words spotted near frames deep) q
            (ap (λ new. edited ws (s.scope + 2) m new s.from s.upto
            (part to (hollow_w s.hollow to out).to (hollow_w s.hollow to out).fresh) s.gap s.end)
            (w.0 ∙ laid (omega arith))
            ∙ (ap (λ new. edited ws (s.scope + 2) m (region (on_nearest g l.frames)) s.from s.upto new s.gap s.end)
            (ap (λ k. part to k (hollow_w s.hollow to out).fresh) e ∙ w.1)
            ∙ nil_edited f target r start 1 l s ws (drop (start + size r) ws) words spotted g t));
      }
