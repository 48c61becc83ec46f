-- The result as it is written: an engine's process under an edit, its values, and the words in front of them.
-- Assumes nothing.
use Prim.Native.Nat.{ℕ, zero, suc, ◌+◌, ◌-◌, ◌*◌, ◌/◌, ◌%◌, ◌≤◌, ◌<◌}
use native.Mathlib.Omega.{arith}
use mathlib.Core.Path.{◌≡◌, refl, subst, sym, ap, ◌∙◌}
use mathlib.Core.Bool.{Bool, true, false, cond}
use mathlib.Core.List.{List, [], ◌∷◌, ◌++◌, append-nil, append_assoc}
use borrow.Author.Tests.{le-ltb, leb-false}
use lib.Dec.{leb, ltb}
use lib.ListN.{length, take, drop, set, length-append, length-drop, length-set}
use lib.Seq.{drop-drop, take_all, drop-length}
use Rattle.sock.specs.Words.{high_word, low_word}
use Rattle.sock.specs.Running.{Run, run_words, size}
use Rattle.sock.specs.Configuration.{values_words}
use Rattle.sock.proofs.Located.{values_length}
use Rattle.layout.specs.Positions.{onward}
use Rattle.writers.proofs.Laid.{Near, onward_near}
use Rattle.finding.proofs.Edits.{part}
use Rattle.rules.specs.Editing.{Edit}
use Rattle.rules.specs.Storing.{Store}
use Rattle.rules.proofs.Edits.{Ordered, Edits, part_first}
use Rattle.rules.proofs.Stores.{valued, stored, valued_length, stored_length}
use Rattle.stepping.specs.Writing.{written, copy_w, front_w, back_w, process_w, value_w, store_w, lent_w, engine_w}
use Rattle.stepping.proofs.Overs.{Over, over_length, over_then, over_set, Wrote, wrote_none, wrote_copy}

-- the words in front of others are no more than all
front_room : (a b whole : List ℕ) (n : ℕ) → a ++ b ≡ whole → length whole ≤ n → length a ≤ n
front_room a b whole n e h = omega (arith, ap length e, length-append a b)

-- ---- a process under an edit

module _ (ws : List ℕ) (start end : ℕ) (p : Edit) (fresh : List ℕ) (q : Run) (edits : Edits ws start end p fresh q) (inside : end ≤ length ws)
    (few : p.fresh ≤ 8192) (wide : p.fresh ≤ length fresh) (out : List ℕ) (room : size q ≤ length out) (most : ℕ) (near : Near most) (under : size q ≤ most) where
  abbrev x1 : List ℕ
  x1 = part start p.list ws

  abbrev x2 : List ℕ
  x2 = part 0 p.listed fresh

  abbrev x3 : List ℕ
  x3 = part p.past p.from ws

  abbrev x4 : List ℕ
  x4 = part p.listed p.fresh fresh

  abbrev x5 : List ℕ
  x5 = part p.upto p.gap ws

  abbrev x6 : List ℕ
  x6 = part p.end end ws

  all_words : (((((x1 ++ x2) ++ x3) ++ x4) ++ x5) ++ x6) ≡ run_words q
  all_words =
      regrouped x1 x2 x3 x4 x5 x6
      ∙ (ap (λ l. x1 ++ (l ++ (x3 ++ (x4 ++ (x5 ++ x6))))) (part_first p.listed fresh) ∙ edits.words few)
    where
      regrouped : (a b c d e f : List ℕ) → (((((a ++ b) ++ c) ++ d) ++ e) ++ f) ≡ a ++ (b ++ (c ++ (d ++ (e ++ f))))
      regrouped a b c d e f = simp append_assoc

  fits : length (run_words q) ≤ length out
  unfolding size
  fits = room

  low : length (run_words q) ≤ most
  unfolding size
  low = under

  o : Ordered start end p
  o = edits.order

  pub process_wrote : Wrote out 0 (run_words q) (process_w ws start end p fresh out)
  unfolding process_w front_w back_w
  process_wrote =
      let r6 : length (((((x1 ++ x2) ++ x3) ++ x4) ++ x5) ++ x6) ≤ length out = rw all_words fits in
      let r5 = front_room ((((x1 ++ x2) ++ x3) ++ x4) ++ x5) x6 _ (length out) refl r6 in
      let r4 = front_room (((x1 ++ x2) ++ x3) ++ x4) x5 _ (length out) refl r5 in
      let r3 = front_room ((x1 ++ x2) ++ x3) x4 _ (length out) refl r4 in
      let r2 = front_room (x1 ++ x2) x3 _ (length out) refl r3 in
      let r1 = front_room x1 x2 _ (length out) refl r2 in
      let u6 : length (((((x1 ++ x2) ++ x3) ++ x4) ++ x5) ++ x6) ≤ most = rw all_words low in
      let u5 = front_room ((((x1 ++ x2) ++ x3) ++ x4) ++ x5) x6 _ most refl u6 in
      let u4 = front_room (((x1 ++ x2) ++ x3) ++ x4) x5 _ most refl u5 in
      let u3 = front_room ((x1 ++ x2) ++ x3) x4 _ most refl u4 in
      let u2 = front_room (x1 ++ x2) x3 _ most refl u3 in
      let u1 = front_room x1 x2 _ most refl u2 in
      let l1 : p.list ≤ length ws = omega (arith, o.m_in, o.a_in, o.b_in, o.c_in, o.d_in, o.end_in) in
      let l3 : p.from ≤ length ws = omega (arith, o.b_in, o.c_in, o.d_in, o.end_in) in
      let l5 : p.gap ≤ length ws = omega (arith, o.d_in, o.end_in) in
      let w1 = wrote_copy ws start p.list o.l_in l1 (omega arith) most near (omega arith) (wrote_none out 0) in
      let w2 = wrote_copy fresh 0 p.listed (omega arith) (omega (arith, o.fresh_in)) (omega arith) most near (omega arith) w1 in
      let w3 = wrote_copy ws p.past p.from o.a_in l3 (omega arith) most near (omega arith) w2 in
      let w4 = wrote_copy fresh p.listed p.fresh o.fresh_in (omega arith) (omega arith) most near (omega arith) w3 in
      let w5 = wrote_copy ws p.upto p.gap o.c_in l5 (omega arith) most near (omega arith) w4 in
      let w6 = wrote_copy ws p.end end o.end_in inside (omega arith) most near (omega arith) w5 in
      rw all_words at w6

-- ---- lent a part of the output

module _ (ws : List ℕ) (start end : ℕ) (p : Edit) (fresh : List ℕ) (q : Run) (edits : Edits ws start end p fresh q) (inside : end ≤ length ws)
    (few : p.fresh ≤ 8192) (wide : p.fresh ≤ length fresh) (out : List ℕ) (t : ℕ) (room : t + size q ≤ length out) (most : ℕ) (near : Near most) (under : t + size q ≤ most) where
  rest_length : length (drop t out) ≡ length out - t
  rest_length = length-drop t out

  whole_rest : take (length out - t) (drop t out) ≡ drop t out
  whole_rest = take_all (length out - t) (drop t out) (omega (arith, rest_length))

  none_left : drop (length out - t) (drop t out) ≡ []
  none_left = ap (λ k. drop k (drop t out)) (sym rest_length) ∙ drop-length (drop t out)

  pub lent_wrote : Wrote out t (run_words q) (lent_w ws start end p fresh out t)
  unfolding lent_w size
  lent_wrote =
      let w : Wrote (drop t out) 0 (run_words q) (process_w ws start end p fresh (drop t out)) =
      process_wrote ws start end p fresh q edits inside few wide (drop t out) (omega (arith, rest_length)) most near (omega arith) in
      let n : length (run_words q) ≡ size q = refl in
      let to : onward t (process_w ws start end p fresh (drop t out)).to ≡ t + length (run_words q) =
      ap (onward t) (w.reaches ∙ (let z : 0 + length (run_words q) ≡ length (run_words q) = omega arith in z)) ∙ onward_near t (length (run_words q)) most near (omega arith) in
      let last : (process_w ws start end p fresh (drop t out)).out ++ [] ≡ run_words q ++ drop (t + length (run_words q)) out =
      append-nil (process_w ws start end p fresh (drop t out)).out
      ∙ (w.over.all
      ∙ ap (λ l. run_words q ++ l) (drop-drop (0 + length (run_words q)) t out ∙ ap (λ k. drop k out) (let z : t + (0 + length (run_words q)) ≡ t + length (run_words q) = omega arith in z))) in
      rw (le-ltb (length out) t (omega arith), whole_rest, none_left, last)
      (record { reaches = to; over = record { all = sym (append_assoc (take t out) (run_words q) (drop (t + length (run_words q)) out)) } })

-- ---- a value

set_words : (vs : List ℕ) (x v : ℕ) → x < length vs → set (set (values_words vs) (x * 2) (v / 65536)) (x * 2 + 1) (v % 65536) ≡ values_words (set vs x v)
unfolding values_words
set_words [] x v h = absurd (omega arith)
set_words (u ∷ vs) zero v h = refl
set_words (u ∷ vs) (suc x) v h =
    let a : suc x * 2 ≡ suc (suc (x * 2)) = omega arith in
    let b : suc x * 2 + 1 ≡ suc (suc (x * 2 + 1)) = omega arith in
    rw (b, a) (ap (λ l. high_word u ∷ low_word u ∷ l) (set_words vs x v (omega arith)))

set_after : (pre l : List ℕ) (k i w : ℕ) → k ≡ length pre + i → set (pre ++ l) k w ≡ pre ++ set l i w
set_after [] l k i w e = ap (λ j. set l j w) (e ∙ (let z : 0 + i ≡ i = omega arith in z))
set_after (p ∷ pre) l zero i w e = absurd (omega arith)
set_after (p ∷ pre) l (suc k) i w e = ap (λ r. p ∷ r) (set_after pre l k i w (omega arith))

module _ {out : List ℕ} {to : ℕ} (pre vs : List ℕ) {last : List ℕ} (o : Over out to (pre ++ values_words vs) last) (room : to + length (pre ++ values_words vs) ≤ length out)
    (many : length vs ≡ 32) (x v : ℕ) where
  pub value_over : Over out to (pre ++ values_words (valued vs x v)) (value_w last (to + length (pre ++ values_words vs)) x v)
  unfolding value_w valued
  value_over = by (leb 32 x) refl
    where
      n : length (values_words vs) ≡ 64
      n = omega (arith, values_length vs)

      l : length (pre ++ values_words vs) ≡ length pre + 64
      l = length-append pre (values_words vs) ∙ ap (λ k. length pre + k) n

      t : ℕ
      t = to + length (pre ++ values_words vs)

      by :
          (b : Bool) → leb 32 x ≡ b →
          Over out to (pre ++ values_words (cond b vs (set vs x v)))
          (cond b last
          (cond (ltb (to + length (pre ++ values_words vs)) 64) last
          (cond (ltb (length last) (to + length (pre ++ values_words vs))) last
          (set (set last (to + length (pre ++ values_words vs) - 64 + x * 2) (v / 65536)) (to + length (pre ++ values_words vs) - 64 + x * 2 + 1) (v % 65536)))))
      by true e = o
      by false e =
          let small : x < 32 = leb-false 32 x e in
          let len : length last ≡ length out = over_length o room in
          let i1 : to + length (pre ++ values_words vs) - 64 + x * 2 ≡ to + (length pre + x * 2) = omega (arith, l) in
          let i2 : to + (length pre + x * 2) + 1 ≡ to + (length pre + (x * 2 + 1)) = omega arith in
          let first = over_set o room (length pre + x * 2) (v / 65536) (omega (arith, l)) in
          let kept : length (set (pre ++ values_words vs) (length pre + x * 2) (v / 65536)) ≡ length (pre ++ values_words vs) = length-set (pre ++ values_words vs) (length pre + x * 2) (v / 65536) in
          let second = over_set first (omega (arith, kept)) (length pre + (x * 2 + 1)) (v % 65536) (omega (arith, kept, l)) in
          let same : set (set (pre ++ values_words vs) (length pre + x * 2) (v / 65536)) (length pre + (x * 2 + 1)) (v % 65536) ≡ pre ++ values_words (set vs x v) =
          ap (λ k. set k (length pre + (x * 2 + 1)) (v % 65536)) (set_after pre (values_words vs) (length pre + x * 2) (x * 2) (v / 65536) refl)
          ∙ (set_after pre (set (values_words vs) (x * 2) (v / 65536)) (length pre + (x * 2 + 1)) (x * 2 + 1) (v % 65536) refl
          ∙ ap (λ k. pre ++ k) (set_words vs x v (omega arith))) in
          rw (le-ltb (to + length (pre ++ values_words vs)) 64 (omega (arith, l)), le-ltb (length last) (to + length (pre ++ values_words vs)) (omega (arith, len)), i1, i2)
          (rw same at second)

-- ---- and all of a store

module _ (out : List ℕ) (to : ℕ) (pre : List ℕ) (t : ℕ) (reaches : t ≡ to + (length pre + 64)) (room : t ≤ length out) where
  values_at : (vs : List ℕ) → length vs ≡ 32 → t ≡ to + length (pre ++ values_words vs)
  values_at vs many = omega (arith, length-append pre (values_words vs), values_length vs)

  value_on :
      (vs : List ℕ) → length vs ≡ 32 → {last : List ℕ} → Over out to (pre ++ values_words vs) last → (x v : ℕ) →
      Over out to (pre ++ values_words (valued vs x v)) (value_w last t x v)
  value_on vs many {last} o x v =
      let e = values_at vs many in
      subst (λ k. Over out to (pre ++ values_words (valued vs x v)) (value_w last k x v)) (sym e) (value_over pre vs o (omega arith) many x v)

  pub store_over :
      (vs : List ℕ) → length vs ≡ 32 → {last : List ℕ} → Over out to (pre ++ values_words vs) last → (s : Store) →
      Over out to (pre ++ values_words (stored vs s)) (store_w last t s)
  unfolding store_w stored
  store_over vs many {last} o s = by (leb 32 s.variable)
    where
      one : List ℕ
      one = valued vs s.variable s.value

      two : List ℕ
      two = valued one s.second.variable s.second.value

      three : List ℕ
      three = valued two s.third.variable s.third.value

      many1 : length one ≡ 32
      many1 = valued_length vs s.variable s.value ∙ many

      many2 : length two ≡ 32
      many2 = valued_length one s.second.variable s.second.value ∙ many1

      many3 : length three ≡ 32
      many3 = valued_length two s.third.variable s.third.value ∙ many2

      by :
          (b : Bool) →
          Over out to (pre ++ values_words (cond b vs (valued three s.fourth.variable s.fourth.value)))
          (cond b last
          (value_w
          (value_w (value_w (value_w last t s.variable s.value) t s.second.variable s.second.value) t s.third.variable s.third.value)
          t s.fourth.variable s.fourth.value))
      by true = o
      by false =
          let o1 = value_on vs many o s.variable s.value in
          let o2 = value_on one many1 o1 s.second.variable s.second.value in
          let o3 = value_on two many2 o2 s.third.variable s.third.value in
          value_on three many3 o3 s.fourth.variable s.fourth.value

-- ---- the words in front, the values and the process

module _ (ws : List ℕ) (from start end : ℕ) (p : Edit) (fresh : List ℕ) (q : Run) (edits : Edits ws start end p fresh q) (inside : end ≤ length ws) (before : from ≤ start)
    (few : p.fresh ≤ 8192) (wide : p.fresh ≤ length fresh) (pre vs : List ℕ) (many : length vs ≡ 32) (stands : part from start ws ≡ pre ++ values_words vs)
    (out : List ℕ) (to : ℕ) (room : to + (length (pre ++ values_words vs) + size q) ≤ length out) (most : ℕ) (near : Near most)
    (under : to + (length (pre ++ values_words vs) + size q) ≤ most) where
  same_length : length (pre ++ values_words (stored vs p.store)) ≡ length (pre ++ values_words vs)
  same_length =
      length-append pre (values_words (stored vs p.store))
      ∙ (ap (λ k. length pre + k) (values_length (stored vs p.store) ∙ (ap (λ k. k + k) (stored_length vs p.store) ∙ sym (values_length vs)))
      ∙ sym (length-append pre (values_words vs)))

  pub engine_wrote : Wrote out to ((pre ++ values_words (stored vs p.store)) ++ run_words q) (engine_w ws from start end p fresh out to)
  unfolding engine_w size
  engine_wrote =
      let in_ws : start ≤ length ws = omega (arith, edits.order.l_in, edits.order.m_in, edits.order.a_in, edits.order.b_in, edits.order.c_in, edits.order.d_in, edits.order.end_in) in
      let chunk : length (part from start ws) ≡ length (pre ++ values_words vs) = ap length stands in
      let w : Wrote out to (pre ++ values_words vs) (copy_w ws from start (written to out)) =
      rw stands at (wrote_copy ws from start before in_ws (omega arith) most near (omega arith) (wrote_none out to)) in
      let t : (copy_w ws from start (written to out)).to ≡ to + length (pre ++ values_words vs) = w.reaches in
      let n : length (pre ++ values_words vs) ≡ length pre + 64 = omega (arith, length-append pre (values_words vs), values_length vs) in
      let o = store_over out to pre (to + length (pre ++ values_words vs)) (ap (λ k. to + k) n) (omega arith) vs many w.over p.store in
      let room1 : to + length (pre ++ values_words (stored vs p.store)) ≤ length out = omega (arith, same_length) in
      let len : length (store_w (copy_w ws from start (written to out)).out (to + length (pre ++ values_words vs)) p.store) ≡ length out = over_length o room1 in
      let l = lent_wrote ws start end p fresh q edits inside few wide
      (store_w (copy_w ws from start (written to out)).out (to + length (pre ++ values_words vs)) p.store) (to + length (pre ++ values_words vs))
      (omega (arith, len)) most near (omega arith) in
      rw t
      (record {
        reaches = l.reaches ∙ (let a = length-append (pre ++ values_words (stored vs p.store)) (run_words q) in let b = same_length in let z : to + length (pre ++ values_words vs) + length (run_words q) ≡ to + length ((pre ++ values_words (stored vs p.store)) ++ run_words q) = omega arith in z);
        over = over_then o room1 (omega (arith, same_length)) (rw same_length l.over);
      })
