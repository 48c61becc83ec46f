-- What a walk that writes words leaves behind, wherever there is room for them; then seq and par, given this of their parts.
-- Assumes nothing.
use Prim.Native.Nat.{ℕ, suc, ◌+◌, ◌-◌, ◌≤◌, max}
use native.Mathlib.Omega.{arith}
use native.Mathlib.Nat.{le_refl}
use mathlib.Core.Path.{◌≡◌, refl, sym, ap, ◌∙◌}
use mathlib.Core.Bool.{Bool, true, false}
use mathlib.Core.List.{List, [], ◌∷◌, ◌++◌, append-nil}
use lib.Dec.{ltb, eqb, nltb→le}
use lib.ListN.{length, take, drop, set, length-append, length-drop, length-set}
use lib.Seq.{length-paste}
use borrow.Author.Tests.{eqb-false}
use Rattle.sock.proofs.Logic.{cond-case, test_false}
use Rattle.layout.specs.Positions.{onward}
use Rattle.writers.specs.Writing.{pasted, lowered}
use Rattle.writers.proofs.Laid.{Near, near_below, onward_near, Laid, laid_put, laid_then, laid_again, laid_less, laid_down}
use Rattle.handling.specs.Replacing.{Wrote, wrote, Walk, after_first, seq_w, close_par, par_after, par_w}

-- the words `new` at `to`, in a node that ends at e
pub record Leaves (e : ℕ) (nil : Bool) (levels : ℕ) (new : List ℕ) (spare : ℕ) (out : List ℕ) (to : ℕ) (w : Wrote) : Type 0 where
  pub ends : w.answer.end ≡ e
  pub empty : w.answer.nil ≡ nil
  pub deep : w.answer.levels ≡ levels
  pub reaches : w.answer.to ≡ to + length new
  pub keeps : length w.out ≡ length out
  pub laid : to + length new + spare ≤ length out → Laid out to new w.out

-- the walk does this from a position on, wherever it writes
abbrev pub Does : Walk → ℕ → ℕ → Bool → ℕ → List ℕ → ℕ → Type 0
Does sub at e nil levels new spare = (out : List ℕ) (to : ℕ) → Near (to + length new + spare) →
    Leaves e nil levels new spare out to (sub at out to)

-- ---- places and lengths

pub onward_one : (n room : ℕ) → Near room → n + 1 ≤ room → onward n 1 ≡ n + 1
onward_one n room h l = onward_near n 1 room h l

pub onward_suc : (n room : ℕ) → Near room → n + 1 ≤ room → onward n 1 ≡ suc n
onward_suc n room h l = onward_near n 1 room h l ∙ (let q : n + 1 ≡ suc n = omega arith in q)

pub pasted_keeps : (ws : List ℕ) (from upto : ℕ) (out : List ℕ) (to : ℕ) → length (pasted ws from upto out to) ≡ length out
unfolding pasted
pasted_keeps ws from upto out to =
    cond-case (λ (l : List ℕ). length l ≡ length out) (ltb (length ws) upto) (λ t. refl) (λ a.
    cond-case (λ (l : List ℕ). length l ≡ length out) (ltb upto from) (λ t. refl) (λ b.
    cond-case (λ (l : List ℕ). length l ≡ length out) (ltb (length out) to) (λ t. refl) (λ c.
    cond-case (λ (l : List ℕ). length l ≡ length out) (ltb (length out - to) (upto - from)) (λ t. refl) (λ d.
    let p : upto ≤ length ws = nltb→le (length ws) upto a in
    let q : from ≤ upto = nltb→le upto from b in
    let r : to ≤ length out = nltb→le (length out) to c in
    let s : upto - from ≤ length out - to = nltb→le (length out - to) (upto - from) d in
    length-paste out to (drop from ws) (upto - from) (omega arith) (omega (arith, length-drop from ws))))))

lowered_keeps : (out : List ℕ) (from upto : ℕ) → from ≤ upto → length (lowered out from upto) ≡ length out
unfolding lowered
lowered_keeps out from upto h =
    cond-case (λ (l : List ℕ). length l ≡ length out) (eqb from 0) (λ t. refl) (λ a.
    cond-case (λ (l : List ℕ). length l ≡ length out) (ltb (length out) upto) (λ t. refl) (λ b.
    let p : from ≡ 0 → ⊥ = eqb-false from 0 (test_false (eqb from 0) a) in
    let q : upto ≤ length out = nltb→le (length out) upto b in
    length-paste out (from - 1) (drop from out) (upto - from) (omega (arith, p)) (omega (arith, length-drop from out))))

pub laid_none : (out : List ℕ) (to : ℕ) → Laid out to [] out
laid_none out to =
    let e : to + 0 ≡ to = omega arith in
    record { keeps = refl; begins = ap (λ (n : ℕ). take n out) e ∙ sym (append-nil (take to out)) }

-- ---- two parts behind a head

module _
    (sub : Walk) {e1 e2 : ℕ} {nb : Bool} {la lb : ℕ} {a b : List ℕ} (r head : ℕ) (fb : Does sub e1 e2 nb lb b r) {out : List ℕ} {to : ℕ}
    {p : Wrote}
  where
    -- the head and the first
    first_laid :
        {na : Bool} → Leaves e1 na la a r (set out to head) (to + 1) p → to + 1 + length a + r ≤ length out →
        Laid out to (head ∷ a) p.out
    first_laid x room =
        let l = length-set out to head in
        laid_then (laid_put out to head (omega arith)) (x.laid (omega arith))

    -- the first became nil: the second over it
    second_alone :
        Leaves e1 true la a r (set out to head) (to + 1) p → length a ≡ 1 → Near (to + length b + (2 + r)) →
        Leaves e2 nb lb b (2 + r) out to (sub e1 p.out to)
    second_alone x one near =
        let y = fb p.out to (near_below (to + length b + r) (to + length b + (2 + r)) near (omega arith)) in
        let l : length p.out ≡ length out = x.keeps ∙ length-set out to head in
        record {
          ends = y.ends;
          empty = y.empty;
          deep = y.deep;
          reaches = y.reaches;
          keeps = y.keeps ∙ l;
          laid = λ room. laid_again (omega arith) (first_laid x (omega arith)) (y.laid (omega arith));
        }

    -- both stay
    both_stay :
        Leaves e1 false la a r (set out to head) (to + 1) p → la ≤ length a → lb ≤ length b → Near (to + length (head ∷ a ++ b) + (2 + r)) →
        (q : Wrote) → Leaves e2 nb lb b r p.out (to + 1 + length a) q →
        Leaves e2 false (suc (max la lb)) (head ∷ a ++ b) (2 + r) out to
        (wrote q.answer.end q.answer.to false (onward (max p.answer.levels q.answer.levels) 1) q.out)
    both_stay x ka kb near q y =
        let n : length (a ++ b) ≡ length a + length b = length-append a b in
        let l : length p.out ≡ length out = x.keeps ∙ length-set out to head in
        let k : to + 1 + length a + length b ≡ to + length (head ∷ a ++ b) = omega arith in
        record {
          ends = y.ends;
          empty = refl;
          deep = rw (x.deep, y.deep) (onward_suc (max la lb) (to + length (head ∷ a ++ b) + (2 + r)) near (omega arith));
          reaches = y.reaches ∙ k;
          keeps = y.keeps ∙ l;
          laid = λ room.
              let s : to + length (head ∷ a) ≡ to + 1 + length a = omega arith in
              laid_then (first_laid x (omega arith)) (rw s (y.laid (omega arith)));
        }

    -- the second became nil: the first moved down
    first_alone :
        Leaves e1 false la a r (set out to head) (to + 1) p → nb ≡ true → length b ≡ 1 →
        (q : Wrote) → Leaves e2 nb lb b r p.out (to + 1 + length a) q →
        Leaves e2 false la a (2 + r) out to
        (wrote q.answer.end (p.answer.to - 1) false p.answer.levels (lowered q.out (to + 1) p.answer.to))
    first_alone x z one q y =
        let l : length p.out ≡ length out = x.keeps ∙ length-set out to head in
        let k : to + 1 + length a - 1 ≡ to + length a = omega arith in
        record {
          ends = y.ends;
          empty = refl;
          deep = x.deep;
          reaches = rw x.reaches k;
          keeps = rw x.reaches (lowered_keeps q.out (to + 1) (to + 1 + length a) (omega arith) ∙ y.keeps ∙ l);
          laid = λ room.
              let s : to + length (head ∷ a) ≡ to + 1 + length a = omega arith in
              let all : Laid out to (head ∷ a ++ b) q.out = laid_then (first_laid x (omega arith)) (rw s (y.laid (omega arith))) in
              rw x.reaches (laid_down (omega arith) (laid_less (head ∷ a) b (omega arith) all));
        }

-- ---- seq and par

module _
    (sub : Walk) (i : ℕ) {e1 e2 : ℕ} {na nb : Bool} {la lb : ℕ} {a b : List ℕ} (r : ℕ) (fa : Does sub (i + 1) e1 na la a r)
    (fb : Does sub e1 e2 nb lb b r) (near-i : Near (i + 1)) (out : List ℕ) (to : ℕ)
  where
    pub seq_second : na ≡ true → length a ≡ 1 → Near (to + length b + (2 + r)) → Leaves e2 nb lb b (2 + r) out to (seq_w sub i out to)
    unfolding seq_w after_first
    seq_second z one near =
        let k = onward_one i (i + 1) near-i (le_refl (i + 1)) in
        let t = onward_one to (to + length b + (2 + r)) near (omega arith) in
        let x = rw z at (fa (set out to 4096) (to + 1) (near_below (to + 1 + length a + r) (to + length b + (2 + r)) near (omega arith))) in
        rw (k, t, x.empty, x.ends) (second_alone sub r 4096 fb x one near)

    pub seq_both :
        na ≡ false → la ≤ length a → lb ≤ length b → Near (to + length (4096 ∷ a ++ b) + (2 + r)) →
        Leaves e2 false (suc (max la lb)) (4096 ∷ a ++ b) (2 + r) out to (seq_w sub i out to)
    unfolding seq_w after_first
    seq_both z ka kb near =
        let n : length (a ++ b) ≡ length a + length b = length-append a b in
        let all : ℕ = to + length (4096 ∷ a ++ b) + (2 + r) in
        let k = onward_one i (i + 1) near-i (le_refl (i + 1)) in
        let t = onward_one to all near (omega arith) in
        let x = rw z at (fa (set out to 4096) (to + 1) (near_below (to + 1 + length a + r) all near (omega arith))) in
        let y = fb (sub (i + 1) (set out to 4096) (to + 1)).out (to + 1 + length a)
        (near_below (to + 1 + length a + length b + r) all near (omega arith)) in
        rw (k, t, x.empty, x.ends, x.reaches)
        (both_stay sub r 4096 fb x ka kb near (sub e1 (sub (i + 1) (set out to 4096) (to + 1)).out (to + 1 + length a)) y)

    pub par_second : na ≡ true → length a ≡ 1 → Near (to + length b + (2 + r)) → Leaves e2 nb lb b (2 + r) out to (par_w sub i out to)
    unfolding par_w par_after
    par_second z one near =
        let k = onward_one i (i + 1) near-i (le_refl (i + 1)) in
        let t = onward_one to (to + length b + (2 + r)) near (omega arith) in
        let x = rw z at (fa (set out to 6144) (to + 1) (near_below (to + 1 + length a + r) (to + length b + (2 + r)) near (omega arith))) in
        rw (k, t, x.empty, x.ends) (second_alone sub r 6144 fb x one near)

    pub par_both :
        na ≡ false → nb ≡ false → la ≤ length a → lb ≤ length b → Near (to + length (6144 ∷ a ++ b) + (2 + r)) →
        Leaves e2 false (suc (max la lb)) (6144 ∷ a ++ b) (2 + r) out to (par_w sub i out to)
    unfolding par_w par_after close_par
    par_both z z' ka kb near =
        let n : length (a ++ b) ≡ length a + length b = length-append a b in
        let all : ℕ = to + length (6144 ∷ a ++ b) + (2 + r) in
        let k = onward_one i (i + 1) near-i (le_refl (i + 1)) in
        let t = onward_one to all near (omega arith) in
        let x = rw z at (fa (set out to 6144) (to + 1) (near_below (to + 1 + length a + r) all near (omega arith))) in
        let y = fb (sub (i + 1) (set out to 6144) (to + 1)).out (to + 1 + length a)
        (near_below (to + 1 + length a + length b + r) all near (omega arith)) in
        rw (k, t, x.empty, x.ends, x.reaches, y.empty ∙ z')
        (both_stay sub r 6144 fb x ka kb near (sub e1 (sub (i + 1) (set out to 6144) (to + 1)).out (to + 1 + length a)) y)

    pub par_first :
        na ≡ false → nb ≡ true → length b ≡ 1 → Near (to + length a + (2 + r)) → Leaves e2 false la a (2 + r) out to (par_w sub i out to)
    unfolding par_w par_after close_par
    par_first z z' one near =
        let all : ℕ = to + length a + (2 + r) in
        let k = onward_one i (i + 1) near-i (le_refl (i + 1)) in
        let t = onward_one to all near (omega arith) in
        let x = rw z at (fa (set out to 6144) (to + 1) (near_below (to + 1 + length a + r) all near (omega arith))) in
        let y = fb (sub (i + 1) (set out to 6144) (to + 1)).out (to + 1 + length a)
        (near_below (to + 1 + length a + length b + r) all near (omega arith)) in
        rw (k, t, x.empty, x.ends, x.reaches, y.empty ∙ z')
        (rw x.reaches at (first_alone sub r 6144 fb {out = out} {to = to} x z' one
        (sub e1 (sub (i + 1) (set out to 6144) (to + 1)).out (to + 1 + length a)) y))
