-- Words over an output from a place on; all other words of it stay.
-- Assumes nothing.
use Prim.Native.Nat.{ℕ, zero, suc, ◌+◌, ◌-◌, ◌≤◌, ◌<◌}
use native.Mathlib.Omega.{arith}
use mathlib.Core.Path.{◌≡◌, sym, ap, ap₂, ◌∙◌}
use mathlib.Core.List.{List, [], ◌∷◌, ◌++◌, append-nil, append_assoc}
use borrow.Author.Tests.{le-ltb}
use lib.ListN.{length, take, drop, set, length-append, length-drop, length-set, take-append-drop}
use lib.Seq.{take_at, drop_at, drop-drop, length-take-le, set-append_left}
use Rattle.writers.specs.Writing.{pasted, pasted_end}
use Rattle.writers.proofs.Laid.{Near, onward_near}
use Rattle.finding.proofs.Edits.{part}
use Rattle.rules.proofs.Edits.{part_length}
use Rattle.stepping.specs.Writing.{Written, written, copy_w}

pub record Over (out : List ℕ) (to : ℕ) (new last : List ℕ) : Type 0 where
  pub all : last ≡ (take to out ++ new) ++ drop (to + length new) out

module _ {out : List ℕ} {to : ℕ} {new last : List ℕ} (o : Over out to new last) (room : to + length new ≤ length out) where
  front_length : length (take to out ++ new) ≡ to + length new
  front_length = length-append (take to out) new ∙ ap (λ n. n + length new) (length-take-le to out (omega arith))

  pub over_length : length last ≡ length out
  over_length =
      ap length o.all
      ∙ (length-append (take to out ++ new) (drop (to + length new) out)
      ∙ (let d = length-drop (to + length new) out in
      let f = front_length in
      let z : length (take to out ++ new) + length (drop (to + length new) out) ≡ length out = omega arith in
      z))

  pub over_front : take (to + length new) last ≡ take to out ++ new
  over_front = ap (take (to + length new)) o.all ∙ take_at (take to out ++ new) (drop (to + length new) out) (to + length new) front_length

  pub over_behind : drop (to + length new) last ≡ drop (to + length new) out
  over_behind = ap (drop (to + length new)) o.all ∙ drop_at (take to out ++ new) (drop (to + length new) out) (to + length new) front_length

  -- more words behind
  pub over_then : {more next : List ℕ} → to + length new + length more ≤ length out → Over last (to + length new) more next → Over out to (new ++ more) next
  over_then {more} {next} wide p =
      let n : to + length new + length more ≡ to + length (new ++ more) = (let l = length-append new more in omega arith) in
      let k : length more + (to + length new) ≡ to + length new + length more = omega arith in
      let behind : drop (to + length new + length more) last ≡ drop (to + length new + length more) out =
      sym (drop-drop (length more) (to + length new) last) ∙ (ap (drop (length more)) over_behind ∙ drop-drop (length more) (to + length new) out) in
      record {
        all =
            p.all
            ∙ (ap₂ (λ (x y : List ℕ). (x ++ more) ++ y) over_front behind
            ∙ ap₂ (λ (x : List ℕ) (m : ℕ). x ++ drop m out) (append_assoc (take to out) new more) n);
      }

  -- one of them changed
  pub over_set : (i w : ℕ) → i < length new → Over out to (set new i w) (set last (to + i) w)
  over_set i w h =
      let f = front_length in
      let inside : to + i < length (take to out ++ new) = omega arith in
      record {
        all =
            ap (λ l. set l (to + i) w) o.all
            ∙ (set-append_left (take to out ++ new) (drop (to + length new) out) (to + i) w inside
            ∙ ap₂ (λ (x : List ℕ) (n : ℕ). x ++ drop (to + n) out) (set_behind (take to out) new to i w (length-take-le to out (omega arith))) (sym (length-set new i w)));
      }
    where
      set_behind : (xs ys : List ℕ) (n i w : ℕ) → length xs ≡ n → set (xs ++ ys) (n + i) w ≡ xs ++ set ys i w
      set_behind [] ys n i w e = let z : n + i ≡ i = omega arith in rw z
      set_behind (x ∷ xs) ys zero i w e = absurd (omega arith)
      set_behind (x ∷ xs) ys (suc n) i w e =
          let z : suc n + i ≡ suc (n + i) = omega arith in
          rw z (ap (λ l. x ∷ l) (set_behind xs ys n i w (omega arith)))

-- ---- what is written so far, and a piece more

pub record Wrote (out : List ℕ) (to : ℕ) (new : List ℕ) (w : Written) : Type 0 where
  pub reaches : w.to ≡ to + length new
  pub over : Over out to new w.out

pub wrote_none : (out : List ℕ) (to : ℕ) → Wrote out to [] (written to out)
wrote_none out to =
    let z : to + 0 ≡ to = omega arith in
    record { reaches = sym z; over = record { all = rw z (sym (ap (λ l. l ++ drop to out) (append-nil (take to out)) ∙ take-append-drop to out)) } }

pub wrote_copy :
    {out : List ℕ} {to : ℕ} {new : List ℕ} {w : Written} (src : List ℕ) (from upto : ℕ) →
    from ≤ upto → upto ≤ length src → to + length (new ++ part from upto src) ≤ length out →
    (most : ℕ) → Near most → to + length (new ++ part from upto src) ≤ most →
    Wrote out to new w → Wrote out to (new ++ part from upto src) (copy_w src from upto w)
unfolding copy_w pasted pasted_end
wrote_copy {out} {to} {new} {w} src from upto a b room most near under v =
    let n : length (part from upto src) ≡ upto - from = part_length from upto src a b in
    let l : length (new ++ part from upto src) ≡ length new + length (part from upto src) = length-append new (part from upto src) in
    let k : length w.out ≡ length out = over_length v.over (omega arith) in
    let r : w.to ≡ to + length new = v.reaches in
    let z : to + length new + (upto - from) ≡ to + length new + length (part from upto src) = omega arith in
    rw (le-ltb (length src) upto (omega arith), le-ltb upto from (omega arith), le-ltb (length w.out) w.to (omega arith), le-ltb (length w.out - w.to) (upto - from) (omega arith), r)
    (record {
      reaches = onward_near (to + length new) (upto - from) most near (omega arith) ∙ (let y : to + length new + (upto - from) ≡ to + length (new ++ part from upto src) = omega arith in y);
      over =
          over_then v.over (omega arith) (omega arith)
          (record { all = ap (λ m. (take (to + length new) w.out ++ part from upto src) ++ drop m w.out) z });
    })
