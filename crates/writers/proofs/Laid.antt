-- Words laid over an output from a place on: what comes before them stays, and the length; what comes behind may be anything.
-- Assumes nothing.
use Prim.Native.Nat.{ℕ, suc, ◌+◌, ◌-◌, ◌≤◌, ◌<◌}
use native.Mathlib.Omega.{arith}
use native.Mathlib.Nat.{lt_of_le_of_lt, add_assoc}
use native.Mathlib.Numerals.{add-one}
use mathlib.Core.Path.{◌≡◌, refl, sym, ap, ◌∙◌}
use mathlib.Core.List.{List, [], ◌∷◌, ◌++◌, append_assoc}
use lib.ListN.{length, take, drop, set, length-append, length-drop, length-set}
use lib.Seq.{length-take-le, take-take, take_at, drop_at, take-add, take-suc-set, take-set-lt, length-paste, take-paste}
use borrow.Author.Tests.{le-ltb, lt-leb, ne_eqb}
use Rattle.layout.specs.Positions.{onward}
use Rattle.writers.specs.Writing.{pasted, pasted_end, lowered}

-- ---- places that the writers count as they are

-- below the figure that no output reaches
unfoldable pub Near : ℕ → Type 0
Near n = n < 1152921504606846976

pub near_of : (n : ℕ) → n < 1152921504606846976 → Near n
unfolding Near
near_of n h = h

pub near_below : (m n : ℕ) → Near n → m ≤ n → Near m
unfolding Near
near_below m n h l = lt_of_le_of_lt l h

pub onward_near : (to n room : ℕ) → Near room → to + n ≤ room → onward to n ≡ to + n
unfolding onward Near
onward_near to n room h l = rw (lt-leb _ to (lt_of_le_of_lt {m = room} (omega arith) h), lt-leb _ n (lt_of_le_of_lt {m = room} (omega arith) h))

-- ---- words laid

pub record Laid (out : List ℕ) (to : ℕ) (new last : List ℕ) : Type 0 where
  pub keeps : length last ≡ length out
  pub begins : take (to + length new) last ≡ take to out ++ new

pub laid_put : (out : List ℕ) (to w : ℕ) → to < length out → Laid out to (w ∷ []) (set out to w)
laid_put out to w h = record { keeps = length-set out to w; begins = rw (add-one to) (take-suc-set out to w h) }

-- more words behind
pub laid_then : {out : List ℕ} {to : ℕ} {a mid b last : List ℕ} → Laid out to a mid → Laid mid (to + length a) b last → Laid out to (a ++ b) last
laid_then {out} {to} {a} {mid} {b} {last} x y =
    record {
      keeps = y.keeps ∙ x.keeps;
      begins = rw (length-append a b, ← add_assoc to (length a) (length b)) (y.begins ∙ ap (λ l. l ++ b) x.begins ∙ append_assoc (take to out) a b);
    }

-- other words over them
pub laid_under : {out : List ℕ} {to : ℕ} {a mid : List ℕ} → to ≤ length out → Laid out to a mid → take to mid ≡ take to out
laid_under {out} {to} {a} {mid} h x =
    let l : length (take to out) ≡ to = length-take-le to out h in
    sym (take-take to (to + length a) mid (omega arith)) ∙ ap (take to) x.begins ∙ take_at (take to out) a to l

pub laid_again : {out : List ℕ} {to : ℕ} {a mid b last : List ℕ} → to ≤ length out → Laid out to a mid → Laid mid to b last → Laid out to b last
laid_again {out} {to} {a} {mid} {b} h x y =
    record { keeps = y.keeps ∙ x.keeps; begins = y.begins ∙ ap (λ l. l ++ b) (laid_under h x) }

-- one of them changed
set_behind : (xs ys : List ℕ) (i w : ℕ) → set (xs ++ ys) (length xs + i) w ≡ xs ++ set ys i w
set_behind [] ys i w = let e : 0 + i ≡ i = omega arith in rw e
set_behind (x ∷ xs) ys i w = let e : suc (length xs) + i ≡ suc (length xs + i) = omega arith in rw e (ap (λ l. x ∷ l) (set_behind xs ys i w))

pub laid_set :
    {out : List ℕ} {to : ℕ} {new mid : List ℕ} (i w : ℕ) → to ≤ length out → i < length new → Laid out to new mid → Laid out to (set new i w) (set mid (to + i) w)
laid_set {out} {to} {new} {mid} i w h j x =
    let l : length (take to out) ≡ to = length-take-le to out h in
    record {
      keeps = length-set mid (to + i) w ∙ x.keeps;
      begins =
          rw (length-set new i w)
          (take-set-lt (to + length new) mid (to + i) w (omega arith)
          ∙ ap (λ l. set l (to + i) w) x.begins
          ∙ ap (λ n. set (take to out ++ new) (n + i) w) (sym l)
          ∙ set_behind (take to out) new i w);
    }

-- words of the source, which begin at `from`
pub laid_copy :
    (ws x rest : List ℕ) (from upto : ℕ) (out : List ℕ) (to : ℕ) →
    drop from ws ≡ x ++ rest →
    from ≤ length ws →
    upto ≡ from + length x →
    to + length x ≤ length out →
    Laid out to x (pasted ws from upto out to)
unfolding pasted
laid_copy ws x rest from upto out to d f u h =
    let n : length ws - from ≡ length x + length rest = sym (length-drop from ws) ∙ ap length d ∙ length-append x rest in
    let k : upto - from ≡ length x = omega arith in
    let g : take (length x) (drop from ws) ≡ x = ap (take (length x)) d ∙ take_at x rest (length x) refl in
    let m : length x ≤ length (drop from ws) = omega (arith, length-drop from ws) in
    rw (le-ltb (length ws) upto (omega arith), le-ltb upto from (omega arith), le-ltb (length out) to (omega arith), k, le-ltb (length out - to) (length x) (omega arith))
    (record {
      keeps = length-paste out to (drop from ws) (length x) h m;
      begins = take-paste out to (drop from ws) (length x) (omega arith) m ∙ ap (λ l. take to out ++ l) g;
    })

pub copy_end :
    (ws x rest : List ℕ) (from upto to room : ℕ) →
    drop from ws ≡ x ++ rest →
    from ≤ length ws →
    upto ≡ from + length x →
    Near room →
    to + length x ≤ room →
    pasted_end ws from upto to ≡ to + length x
unfolding pasted_end
copy_end ws x rest from upto to room d f u near h =
    let n : length ws - from ≡ length x + length rest = sym (length-drop from ws) ∙ ap length d ∙ length-append x rest in
    let k : upto - from ≡ length x = omega arith in
    rw (le-ltb (length ws) upto (omega arith), le-ltb upto from (omega arith), k) (onward_near to (length x) room near h)

-- a first word gone, the others moved down
pub laid_down :
    {out : List ℕ} {to : ℕ} {w : ℕ} {new mid : List ℕ} →
    to + 1 + length new ≤ length out →
    Laid out to (w ∷ new) mid →
    Laid out to new (lowered mid (to + 1) (to + 1 + length new))
unfolding lowered
laid_down {out} {to} {w} {new} {mid} h x =
    let q : length mid ≡ length out = x.keeps in
    let a : length new ≤ length (drop (to + 1) mid) = omega (arith, length-drop (to + 1) mid) in
    let b : to + 1 + length new - (to + 1) ≡ length new = omega arith in
    let c : to + 1 - 1 ≡ to = omega arith in
    let t : length (take to out) ≡ to = length-take-le to out (omega arith) in
    let u : length (take (to + 1) mid) ≡ to + 1 = length-take-le (to + 1) mid (omega arith) in
    let s : to + length (w ∷ new) ≡ to + 1 + length new = omega arith in
    let all : take (to + 1) mid ++ take (length new) (drop (to + 1) mid) ≡ take to out ++ w ∷ new =
    sym (take-add (to + 1) (length new) mid) ∙ ap (λ n. take n mid) (sym s) ∙ x.begins in
    let v : length (take to out ++ w ∷ []) ≡ to + 1 = length-append (take to out) (w ∷ []) ∙ ap (λ n. n + 1) t in
    let front : take to out ++ w ∷ new ≡ (take to out ++ w ∷ []) ++ new = sym (append_assoc (take to out) (w ∷ []) new) in
    let tail : take (length new) (drop (to + 1) mid) ≡ new =
    sym (drop_at (take (to + 1) mid) (take (length new) (drop (to + 1) mid)) (to + 1) u)
    ∙ ap (drop (to + 1)) (all ∙ front)
    ∙ drop_at (take to out ++ w ∷ []) new (to + 1) v in
    rw (ne_eqb (to + 1) 0 (λ e. omega arith), le-ltb (length mid) (to + 1 + length new) (omega arith), b, c)
    (record {
      keeps = length-paste mid to (drop (to + 1) mid) (length new) (omega arith) a ∙ q;
      begins = take-paste mid to (drop (to + 1) mid) (length new) (omega arith) a ∙ ap (λ l. take to mid ++ l) tail ∙ ap (λ l. l ++ new) (laid_under (omega arith) x);
    })

-- the first of them
pub laid_less : {out : List ℕ} {to : ℕ} (a b : List ℕ) {last : List ℕ} → to ≤ length out → Laid out to (a ++ b) last → Laid out to a last
laid_less {out} {to} a b {last} h x =
    let l : length (take to out ++ a) ≡ to + length a = length-append (take to out) a ∙ ap (λ n. n + length a) (length-take-le to out h) in
    let s : to + length a ≤ to + length (a ++ b) = omega (arith, length-append a b) in
    record {
      keeps = x.keeps;
      begins =
          sym (take-take (to + length a) (to + length (a ++ b)) last s)
          ∙ ap (take (to + length a)) (x.begins ∙ sym (append_assoc (take to out) a b))
          ∙ take_at (take to out ++ a) b (to + length a) l;
    }
