-- The calls with an index on bytes: its words in scratch, and written back once a step is taken or taken back.
-- Assumes nothing.
use Prim.Native.Nat.{ℕ, zero, suc, ◌+◌, ◌*◌, ◌/◌, ◌≤◌, ◌<◌}
use native.Mathlib.Omega.{arith}
use mathlib.Core.Path.{◌≡◌, refl, sym, ap, ◌∙◌}
use mathlib.Core.Bool.{Bool, true, false, ◌||◌, cond}
use mathlib.Core.Option.{Option, none, some}
use mathlib.Core.List.{List, [], ◌∷◌, ◌++◌, append-nil}
use lib.Dec.{eqb}
use lib.ListN.{length, get_or, take, drop, replicate, take-append-drop, drop_of_length-le}
use lib.Seq.{take_at, get_or-take}
use Rattle.sock.specs.Kind
use Rattle.sock.specs.Configuration.{Config, standard, read_config}
use Rattle.sock.specs.Calls.{index_short, Result, refused, done, ◌>>=◌, ◌!◌, passed, Numbers, Stepped, Answer, answer_of, over, start, check_start}
use Rattle.sock.specs.Journal.{Taken, taken_of, restored_over}
use Rattle.sock.specs.Bytes.{bytes_of, words_of, words_or_none, words_in, packed, bytes_after, byte_journal_step, byte_journal_output, byte_journal_written, journal_bytes_after, byte_check_start, byte_take_back, byte_restored, restored_bytes, packed_taken}
use Rattle.sock.specs.Index.{index_of, listed, open_of, put_in, take_out, open_after, mapped, beginning, IndexedStep, step_of, IndexedBack, restored_in, Told, asked, open_count, oldest}
use Rattle.sock.specs.IndexBytes.{index_bytes_after, byte_begin_answer, byte_begin_index, byte_indexed_step, byte_indexed_answer, byte_indexed_output, byte_indexed_journal, byte_indexed_index, byte_indexed_back, byte_indexed_taken, byte_indexed_restored, byte_indexed_relisted, packed_told, byte_open_count, byte_oldest}
use Rattle.sock.proofs.Configuration.{config_found}
use Rattle.sock.proofs.Rooms.{refusal_number}
use Rattle.sock.proofs.FewOpen.{readable_few}
use Rattle.sock.proofs.Index.{put_in_length, take_out_length, index_of_length, Lists, listed_over, lists_listed, listed_lists}
use Rattle.index.specs.Form.{present, in_order, serials_in, open_by}
use Rattle.index.proofs.Forming.{listed_is, unlisted_is}
use Rattle.index.proofs.Answering.{answer_is, short_is, begins, begun_passed}
use Rattle.std.specs.Prelude.{Err}
use Rattle.layout.specs.declared.refusal.Refusal.TheVariants.{NoIndex}
use Rattle.stepping.specs.Answers.{told}
use Rattle.bytewise.specs.Held.{packed_as, numbered_as, held_part}
use Rattle.bytewise.proofs.Stepping.{packed_as_lem}
use Rattle.bytewise.proofs.Holding.{words_count as words_half}

-- ---- an index's own words

over_whole : (us o : List ℕ) → length o ≡ length us → over us o ≡ us
over_whole us o e = ap (λ vs. us ++ vs) (drop_of_length-le o {i = length us} (omega (arith, e))) ∙ append-nil us

first_words : (ix ss : List ℕ) → Lists ix ss → take 2049 ix ≡ index_of ss
first_words ix ss l =
    ap (take 2049) l.laid ∙ take_at (index_of ss) (drop (length (index_of ss)) ix) 2049 (index_of_length ss (omega (arith, l.few)))

listed_own : (ix ss : List ℕ) → Lists ix ss → listed (index_of ss) ≡ some ss
listed_own ix ss l = ap listed (sym (over_whole (index_of ss) (index_of ss) refl)) ∙ listed_over ss l.up l.few (index_of ss)

none_some : {A : Type 0} {a : A} → none ≡ some a → ⊥
none_some e = let z : ◌≡◌ {A = ℕ} 0 1 = cc in omega arith

some_same : {A : Type 0} {a b : A} → some a ≡ some b → a ≡ b
some_same e = cc

short : (n : ℕ) (ws : List ℕ) → (length (take n ws) ≤ n) × (length (take n ws) ≤ length ws)
short zero ws = (omega arith, omega arith)
short (suc n) [] = (omega arith, omega arith)
short (suc n) (w ∷ ws) = let (h, g) = short n ws in (omega (arith, h), omega (arith, g))

-- words past them are not part of it
pub listed_part : (ix : List ℕ) → listed (take 2049 ix) ≡ listed ix
listed_part ix = by (listed ix) refl (listed (take 2049 ix)) refl
  where
    by : (o : Option (List ℕ)) → listed ix ≡ o → (p : Option (List ℕ)) → listed (take 2049 ix) ≡ p → listed (take 2049 ix) ≡ listed ix
    by (some ss) e p f =
        let l = listed_lists ix ss e in
        ap listed (first_words ix ss l) ∙ listed_own ix ss l ∙ sym e
    by none e none f = f ∙ sym e
    by none e (some ss) f =
        let l = listed_lists (take 2049 ix) ss f in
        let n : length (index_of ss) ≡ 2049 = index_of_length ss (omega (arith, l.few)) in
        let (m, g) = short 2049 ix in
        let long : 2049 ≤ length ix = omega (arith, l.long, g) in
        let first : take 2049 ix ≡ index_of ss = l.laid ∙ over_whole (index_of ss) (take 2049 ix) (omega (arith, l.long, m, n)) in
        let whole : ix ≡ over (index_of ss) ix =
        sym (take-append-drop 2049 ix) ∙ ap (λ us. us ++ drop 2049 ix) first ∙ ap (λ i. index_of ss ++ drop i ix) (sym n) in
        absurd (none_some (sym e ∙ lists_listed ix ss (record { up = l.up; few = l.few; long = long; laid = whole })))

-- ---- held in scratch of its length

module _ (ix ss s0 : List ℕ) (e : listed ix ≡ some ss) (n : length s0 ≡ 2049) where
  lists : Lists ix ss
  lists = listed_lists ix ss e

  own : length (index_of ss) ≡ 2049
  own = index_of_length ss (omega (arith, lists.few))

  held_is : over (take 2049 ix) s0 ≡ index_of ss
  held_is = ap (λ us. over us s0) (first_words ix ss lists) ∙ over_whole (index_of ss) s0 (n ∙ sym own)

  -- so it is in order there
  held_ordered : in_order (over (take 2049 ix) s0) ≡ true
  unfolding in_order present
  held_ordered = ap in_order held_is ∙ ap present (listed_own ix ss lists)

  held_serials : serials_in (over (take 2049 ix) s0) ≡ ss
  held_serials =
      some_same (sym (listed_is (over (take 2049 ix) s0) held_ordered) ∙ ap listed held_is ∙ listed_own ix ss lists)

  held_long : length (over (take 2049 ix) s0) ≡ 2049
  held_long = ap length held_is ∙ own

  -- another index laid over it is there alone
  pub relaid : (ts : List ℕ) → length ts ≤ 2048 → over (index_of ts) (over (take 2049 ix) s0) ≡ index_of ts
  relaid ts h = over_whole (index_of ts) (over (take 2049 ix) s0) (held_long ∙ sym (index_of_length ts h))

-- the bytes of an index in scratch
pub spread_index : (ts s2 index : List ℕ) → s2 ≡ index_of ts → over (bytes_of s2) index ≡ over (bytes_of (index_of ts)) index
spread_index ts s2 index e = ap (λ us. over (bytes_of us) index) e

-- ---- whether the index lent is in order

pub order_part : (index : List ℕ) → in_order (take 2049 (words_in index)) ≡ in_order (words_in index)
unfolding in_order
order_part index = ap present (listed_part (words_in index))

pub order_held : (index us : List ℕ) → us ≡ held_part 2049 index → in_order us ≡ in_order (words_in index)
unfolding held_part
order_held index us e = ap in_order e ∙ order_part index

pub part_first :
    (most : ℕ) (index s0 s1 : List ℕ) (n : ℕ) → length s0 ≡ most → n ≡ length (held_part (length s0) index) → s1 ≡ over (held_part (length s0) index) s0 →
    take n s1 ≡ held_part most index
part_first most index s0 s1 n m e q =
    ap (take n) q
    ∙ take_at (held_part (length s0) index) (drop (length (held_part (length s0) index)) s0) n (sym e)
    ∙ ap (λ (i : ℕ). held_part i index) m

pub words_held : (n : ℕ) (index s0 s1 : List ℕ) → n ≡ 2049 → s1 ≡ over (held_part n index) s0 → s1 ≡ over (take 2049 (words_in index)) s0
unfolding held_part
words_held n index s0 s1 e q = q ∙ ap (λ (i : ℕ). over (take i (words_in index)) s0) e

pub ordered_there :
    (index s0 s1 : List ℕ) → in_order (words_in index) ≡ true → length s0 ≡ 2049 → s1 ≡ over (take 2049 (words_in index)) s0 → in_order s1 ≡ true
ordered_there index s0 s1 t n q =
    ap in_order q ∙ held_ordered (words_in index) (serials_in (words_in index)) s0 (listed_is (words_in index) t) n

-- one in order has its 2,049 words
pub room_for : (index : List ℕ) → in_order (words_in index) ≡ true → 2049 * 2 ≤ length index
room_for index t =
    let l = listed_lists (words_in index) (serials_in (words_in index)) (listed_is (words_in index) t) in
    omega (arith, l.long, words_half index)

-- ---- beginning

-- an index that lists nothing is all zeros
blank_index : replicate 2049 0 ≡ index_of []
unfolding index_of
blank_index = refl

words_count : (bytes : List ℕ) → length (words_in bytes) ≡ length bytes / 2
unfolding words_in
words_count [] = refl
words_count (x ∷ []) = refl
words_count (x ∷ y ∷ bytes) = omega (arith, words_count bytes)

module _ (config index : List ℕ) where
  abbrev ws : List ℕ
  ws = words_or_none (words_of config)

  pub begin_short : length index / 2 < 2049 → (17 ≡ byte_begin_answer config index) × (index ≡ byte_begin_index config index)
  unfolding byte_begin_answer byte_begin_index index_bytes_after passed
  begin_short h =
      let e = short_is ws (words_in index) (omega (arith, words_count index)) in
      (sym (answer_is ws (words_in index) ∙ ap passed e), sym (ap (λ x. index_bytes_after x index) e))

  enough : 2049 ≤ length index / 2 → beginning standard ws (length (words_in index)) ≡ (start standard ws >>= λ c. done [])
  enough h = begins ws (words_in index) (omega (arith, words_count index))

  check_is : byte_check_start standard config ≡ passed (start standard ws)
  unfolding byte_check_start check_start
  check_is = refl

  module _ (h : 2049 ≤ length index / 2) (n : ℕ) (p : n ≡ byte_check_start standard config) where
    pub begin_answer_lem : n ≡ byte_begin_answer config index
    unfolding byte_begin_answer
    begin_answer_lem =
        p ∙ check_is ∙ sym (answer_is ws (words_in index) ∙ ap passed (enough h) ∙ begun_passed ws (words_in index) (start standard ws))

    kept_by : (x : Result Config) → n ≡ passed x → (n ≡ 0 → ⊥) → index ≡ index_bytes_after (x >>= λ c. done []) index
    unfolding index_bytes_after ◌>>=◌ passed
    kept_by (refused r) e z = refl
    kept_by (done c) e z = absurd (z e)

    pub begin_keeps : (n ≡ 0 → ⊥) → index ≡ byte_begin_index config index
    unfolding byte_begin_index
    begin_keeps z = kept_by (start standard ws) (p ∙ check_is) z ∙ sym (ap (λ x. index_bytes_after x index) (enough h))

    laid_by : (x : Result Config) → n ≡ passed x → n ≡ 0 → over (bytes_of (index_of [])) index ≡ index_bytes_after (x >>= λ c. done []) index
    unfolding index_bytes_after ◌>>=◌ passed
    laid_by (refused r) e z = absurd (let g = refusal_number r in omega (arith, e, z))
    laid_by (done c) e z = refl

    pub begin_lays : n ≡ 0 → (blank : List ℕ) → blank ≡ replicate 2049 0 → over (bytes_of blank) index ≡ byte_begin_index config index
    unfolding byte_begin_index
    begin_lays z blank e =
        spread_index [] blank index (e ∙ blank_index)
        ∙ laid_by (start standard ws) (p ∙ check_is) z
        ∙ sym (ap (λ x. index_bytes_after x index) (enough h))

-- ---- a step

-- what is read has few open serials
open_few : (us : List ℕ) → length (open_of (read_config standard us)) ≤ 2047
unfolding open_of
open_few us = by (read_config standard us) refl
  where
    by : (o : Option Config) → read_config standard us ≡ o → length (open_of o) ≤ 2047
    by none e = omega arith
    by (some c) e = readable_few (config_found standard us c e).1 (omega arith)

opened_few : (kind serial : ℕ) (ss : List ℕ) → length ss ≤ 2047 → length (open_by kind serial ss) ≤ 2048
unfolding open_by
opened_few kind serial ss h = by (eqb kind Kind.solicit) (eqb kind Kind.executor || eqb kind Kind.notice)
  where
    by : (a b : Bool) → length (cond a (put_in serial ss) (cond b (take_out serial ss) ss)) ≤ 2048
    by true b = omega (arith, put_in_length serial ss)
    by false true = omega (arith, take_out_length serial ss)
    by false false = omega arith

module _ (config : List ℕ) (k : Numbers) (out journal index : List ℕ) where
  abbrev stepped : Result IndexedStep
  stepped = byte_indexed_step config k (length out / 2) (length journal / 2) index

  abbrev plain : Result Stepped
  plain = byte_journal_step standard config k (length out / 2) (length journal / 2)

  module _ (e : in_order (words_in index) ≡ false) where
    step_none : stepped ≡ refused index_short
    unfolding byte_indexed_step ◌!◌ ◌>>=◌
    step_none = rw (unlisted_is (words_in index) e)

    pub step_unlisted :
        (packed_as (told (Err NoIndex)) ≡ byte_indexed_answer config k out journal index)
        × ((out ≡ byte_indexed_output config k out journal index)
        × ((journal ≡ byte_indexed_journal config k out journal index) × (index ≡ byte_indexed_index config k out journal index)))
    unfolding byte_indexed_answer byte_indexed_output byte_indexed_journal byte_indexed_index mapped packed answer_of bytes_after journal_bytes_after index_bytes_after
    step_unlisted = rw step_none (refl, (refl, (refl, refl)))

  module _ (ss : List ℕ) (e : listed (words_in index) ≡ some ss) where
    abbrev follows : Result Stepped → Result IndexedStep
    follows x = x >>= λ s. done (record { stepped = s; serials = open_after s ss })

    step_of_lem : (x : Result Stepped) → step_of (follows x) ≡ x
    unfolding mapped ◌>>=◌
    step_of_lem (refused r) = refl
    step_of_lem (done s) = refl

    step_some : stepped ≡ follows plain
    unfolding byte_indexed_step ◌!◌ ◌>>=◌
    step_some = rw e

    same_step : plain ≡ step_of stepped
    same_step = sym (ap step_of step_some ∙ step_of_lem plain)

    pub step_output : byte_journal_output standard config k out journal ≡ byte_indexed_output config k out journal index
    unfolding byte_journal_output byte_indexed_output
    step_output = ap (λ x. bytes_after x out) same_step

    pub step_journal : byte_journal_written standard config k out journal ≡ byte_indexed_journal config k out journal index
    unfolding byte_journal_written byte_indexed_journal
    step_journal = ap (λ x. journal_bytes_after (words_or_none (words_of config)) x journal) same_step

    module _ (a : Answer) (p : a ≡ answer_of plain) where
      pub step_answer : packed_as a ≡ byte_indexed_answer config k out journal index
      unfolding byte_indexed_answer
      step_answer = ap packed_as p ∙ packed_as_lem plain ∙ ap (λ (x : Result Stepped). packed (answer_of x)) same_step

      refused_same : (x : Result Stepped) → stepped ≡ follows x → a ≡ answer_of x → (a.number ≡ 0 → ⊥) → index ≡ byte_indexed_index config k out journal index
      unfolding byte_indexed_index mapped index_bytes_after answer_of ◌>>=◌
      refused_same (refused r) q w h = rw q
      refused_same (done s) q w h = absurd (h (ap (λ (b : Answer). b.number) w))

      pub index_same : (a.number ≡ 0 → ⊥) → index ≡ byte_indexed_index config k out journal index
      index_same h = refused_same plain step_some p h

      done_opens :
          (x : Result Stepped) → stepped ≡ follows x → a ≡ answer_of x → a.number ≡ 0 →
          over (bytes_of (index_of (open_by a.kind a.serial ss))) index ≡ byte_indexed_index config k out journal index
      unfolding byte_indexed_index mapped index_bytes_after answer_of ◌>>=◌ open_after open_by
      done_opens (refused r) q w h = absurd (let g = refusal_number r in omega (arith, ap (λ (b : Answer). b.number) w, h))
      done_opens (done s) q w h = rw (q, w)

      -- the index in scratch, followed and written back
      pub index_opens :
          a.number ≡ 0 → (s0 s1 s2 : List ℕ) → length s0 ≡ 2049 → s1 ≡ over (take 2049 (words_in index)) s0 →
          s2 ≡ over (index_of (open_by a.kind a.serial (serials_in s1))) s1 →
          over (bytes_of s2) index ≡ byte_indexed_index config k out journal index
      index_opens h s0 s1 s2 n q w =
          let l = listed_lists (words_in index) ss e in
          let few = opened_few a.kind a.serial ss l.few in
          let same : serials_in s1 ≡ ss = ap serials_in q ∙ held_serials (words_in index) ss s0 e n in
          let now : s2 ≡ index_of (open_by a.kind a.serial ss) =
          w
          ∙ ap (λ us. over (index_of (open_by a.kind a.serial us)) s1) same
          ∙ ap (over (index_of (open_by a.kind a.serial ss))) q
          ∙ relaid (words_in index) ss s0 e n (open_by a.kind a.serial ss) few in
          spread_index (open_by a.kind a.serial ss) s2 index now ∙ done_opens plain step_some p h

-- ---- taking back

module _ (config journal out index : List ℕ) where
  abbrev back : Result IndexedBack
  back = byte_indexed_back config journal (length out / 2) index

  abbrev plainly : Result (List ℕ)
  plainly = byte_take_back config journal (length out / 2)

  module _ (e : in_order (words_in index) ≡ false) where
    back_none : back ≡ refused index_short
    unfolding byte_indexed_back ◌!◌ ◌>>=◌
    back_none = rw (unlisted_is (words_in index) e)

    pub back_unlisted :
        (numbered_as (Err NoIndex) ≡ byte_indexed_taken config journal out index)
        × ((out ≡ byte_indexed_restored config journal out index) × (index ≡ byte_indexed_relisted config journal out index))
    unfolding byte_indexed_taken byte_indexed_restored byte_indexed_relisted mapped packed_taken taken_of restored_bytes index_bytes_after
    back_unlisted = rw back_none (refl, (refl, refl))

  module _ (ss : List ℕ) (e : listed (words_in index) ≡ some ss) where
    abbrev relists : Result (List ℕ) → Result IndexedBack
    relists x = x >>= λ old. done (record { words = old; serials = open_of (read_config standard old) })

    words_of_lem : (x : Result (List ℕ)) → restored_in (relists x) ≡ x
    unfolding mapped ◌>>=◌
    words_of_lem (refused r) = refl
    words_of_lem (done old) = refl

    back_some : back ≡ relists plainly
    unfolding byte_indexed_back ◌!◌ ◌>>=◌
    back_some = rw e

    same_back : plainly ≡ restored_in back
    same_back = sym (ap restored_in back_some ∙ words_of_lem plainly)

    pub back_restored : byte_restored config journal out ≡ byte_indexed_restored config journal out index
    unfolding byte_restored byte_indexed_restored
    back_restored = ap (λ x. restored_bytes x out) same_back

    module _ (t : Taken) (p : t ≡ taken_of plainly) where
      pub back_taken : t.number * 72057594037927936 + t.length ≡ byte_indexed_taken config journal out index
      unfolding byte_indexed_taken packed_taken
      back_taken =
          ap (λ (u : Taken). u.number * 72057594037927936 + u.length) p
          ∙ ap (λ (x : Result (List ℕ)). (taken_of x).number * 72057594037927936 + (taken_of x).length) same_back

      refused_stays : (x : Result (List ℕ)) → back ≡ relists x → t ≡ taken_of x → (t.number ≡ 0 → ⊥) → index ≡ byte_indexed_relisted config journal out index
      unfolding byte_indexed_relisted mapped index_bytes_after taken_of ◌>>=◌
      refused_stays (refused r) q w h = rw q
      refused_stays (done old) q w h = absurd (h (ap (λ (u : Taken). u.number) w))

      pub index_stays : (t.number ≡ 0 → ⊥) → index ≡ byte_indexed_relisted config journal out index
      index_stays h = refused_stays plainly back_some p h

      done_lists :
          (x : Result (List ℕ)) → back ≡ relists x → t ≡ taken_of x → t.number ≡ 0 → (r0 r1 : List ℕ) → r1 ≡ restored_over x r0 →
          over (bytes_of (index_of (open_of (read_config standard (take t.length r1))))) index ≡ byte_indexed_relisted config journal out index
      unfolding byte_indexed_relisted mapped index_bytes_after taken_of restored_over ◌>>=◌
      done_lists (refused r) q w h r0 r1 z = absurd (let g = refusal_number r in omega (arith, ap (λ (u : Taken). u.number) w, h))
      done_lists (done old) q w h r0 r1 z =
          let n : t.length ≡ length old = ap (λ (u : Taken). u.length) w in
          let same : take t.length r1 ≡ old =
          ap (take t.length) z ∙ take_at old (drop (length old) r0) t.length (sym n) in
          rw (same, q) refl

      -- the index in scratch, listed anew and written back
      pub index_lists :
          t.number ≡ 0 → (r0 r1 : List ℕ) → r1 ≡ restored_over plainly r0 → (s0 s1 s2 : List ℕ) → length s0 ≡ 2049 →
          s1 ≡ over (take 2049 (words_in index)) s0 → s2 ≡ over (index_of (open_of (read_config standard (take t.length r1)))) s1 →
          over (bytes_of s2) index ≡ byte_indexed_relisted config journal out index
      index_lists h r0 r1 z s0 s1 s2 n q w =
          let ts : List ℕ = open_of (read_config standard (take t.length r1)) in
          let few : length ts ≤ 2048 = omega (arith, open_few (take t.length r1)) in
          let now : s2 ≡ index_of ts = w ∙ ap (over (index_of ts)) q ∙ relaid (words_in index) ss s0 e n ts few in
          spread_index ts s2 index now ∙ done_lists plainly back_some p h r0 r1 z

-- ---- the two questions

told_part : (f : List ℕ → ℕ) (ix : List ℕ) → asked f (listed (take 2049 ix)) ≡ asked f (listed ix)
told_part f ix = ap (asked f) (listed_part ix)

first_of : (i : ℕ) (ix : List ℕ) → i < 2049 → get_or (take 2049 ix) i 0 ≡ get_or ix i 0
first_of i ix h = get_or-take 2049 ix i 0 h

pub count_packed : (index us : List ℕ) (t : Told) → us ≡ held_part 2049 index → t ≡ open_count us → t.number * 72057594037927936 + t.value ≡ byte_open_count index
unfolding byte_open_count packed_told open_count held_part
count_packed index us t e p =
    ap (λ (x : Told). x.number * 72057594037927936 + x.value) (p ∙ same)
  where
    same : asked (λ serials. get_or us 0 0) (listed us) ≡ asked (λ serials. get_or (words_in index) 0 0) (listed (words_in index))
    same =
        ap (λ vs. asked (λ serials. get_or vs 0 0) (listed vs)) e
        ∙ told_part (λ serials. get_or (take 2049 (words_in index)) 0 0) (words_in index)
        ∙ ap (λ v. asked (λ serials. v) (listed (words_in index))) (first_of 0 (words_in index) (omega arith))

pub oldest_packed : (index us : List ℕ) (t : Told) → us ≡ held_part 2049 index → t ≡ oldest us → t.number * 72057594037927936 + t.value ≡ byte_oldest index
unfolding byte_oldest packed_told oldest held_part
oldest_packed index us t e p =
    ap (λ (x : Told). x.number * 72057594037927936 + x.value) (p ∙ same)
  where
    same : asked (λ serials. get_or us 1 0) (listed us) ≡ asked (λ serials. get_or (words_in index) 1 0) (listed (words_in index))
    same =
        ap (λ vs. asked (λ serials. get_or vs 1 0) (listed vs)) e
        ∙ told_part (λ serials. get_or (take 2049 (words_in index)) 1 0) (words_in index)
        ∙ ap (λ v. asked (λ serials. v) (listed (words_in index))) (first_of 1 (words_in index) (omega arith))
