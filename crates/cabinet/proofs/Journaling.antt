-- The step with a journal on words in scratch, and on the bytes' words, is the one on bytes.
-- Assumes nothing.
use Prim.Native.Nat.{ℕ, suc, ◌+◌, ◌*◌, ◌/◌, ◌≤◌, ◌<◌}
use native.Mathlib.Omega.{arith}
use mathlib.Core.Path.{◌≡◌, refl, sym, ap, ◌∙◌}
use mathlib.Core.Bool.{Bool, true, false}
use mathlib.Core.Option.{Option, none, some}
use mathlib.Core.List.{List, [], ◌∷◌}
use lib.Dec.{leb, ltb}
use lib.ListN.{length, take, drop}
use lib.Seq.{length-take-le, take_at}
use borrow.Author.Tests.{le-leb, ltb-true, ltb-false}
use Rattle.sock.specs.Configuration.{Limits, Config, standard, encode, also, read_config}
use Rattle.sock.specs.Calls.{Refusal, unreadable, journal_short, short, Result, refused, done, ◌>>=◌, ◌>>◌, ◌!◌, ◌unless◌, Numbers, Stepped, step, Answer, answer_of, step_output, over}
use Rattle.sock.specs.Journal.{journal_of, journal_step}
use Rattle.sock.specs.Bytes.{bytes_of, words_of, words_or_none, packed, bytes_after, journal_bytes_after, byte_journal_step, byte_journal_answer, byte_journal_output, byte_journal_written}
use Rattle.sock.proofs.ByteWords.{length_words, no_words, long_unread}
use Rattle.sock.proofs.Rooms.{Agree, both_refuse, both_do, one_short, step_agrees, bytes_refused}
use Rattle.sock.proofs.Journal.{journal_done, journal_length}
use Rattle.sock.proofs.Events.{stepped_number}
use Rattle.journal.specs.Laying.{lay_w, lay_end}
use Rattle.journal.specs.Stepping.{Compared, compared_of}
use Rattle.writers.proofs.Over.{over_length}
use Rattle.journal.proofs.Stepping.{short_old, short_new, kept, Wrote, wrote, scratch_fits, scratch_length, scratch_words, noted_end, noted_words}
use Rattle.bytewise.specs.Held.{held, packed_as, room_of}
use Rattle.bytewise.proofs.Holding.{held_short, read_as}
use Rattle.bytewise.proofs.Stepping.{large_same, packed_as_lem}

-- ---- what the code makes of a step in scratch

journal_refused : (ws : List ℕ) (x : Result Stepped) → 0 < (answer_of x).number → (journal : List ℕ) → journal ≡ journal_bytes_after ws x journal
unfolding answer_of journal_bytes_after
journal_refused ws (refused r) e journal = refl
journal_refused ws (done s) e journal = absurd (omega (arith, e))

bytes_of_done : {x : Result Stepped} {s : Stepped} (out : List ℕ) → x ≡ done s → over (bytes_of (encode s.config)) out ≡ bytes_after x out
unfolding bytes_after
bytes_of_done out e = sym (rw e)

journal_of_done : {x : Result Stepped} {s : Stepped} (ws journal : List ℕ) → x ≡ done s → over (bytes_of (journal_of ws (encode s.config))) journal ≡ journal_bytes_after ws x journal
unfolding journal_bytes_after
journal_of_done ws journal e = sym (rw e)

module _ (limits : Limits) (low : limits.longest ≤ 8192) (ws : List ℕ) (k : Numbers) (r0 words : List ℕ) (c : Compared)
    (e : c ≡ compared_of (length words) ws (step limits ws k (length r0))) (out journal : List ℕ) where
  pub record Left : Type 0 where
    pub answer : c.answer ≡ answer_of (journal_step limits ws k (length r0) (length words))
    pub out_kept : out ≡ bytes_after (journal_step limits ws k (length r0) (length words)) out
    pub journal_kept : journal ≡ journal_bytes_after ws (journal_step limits ws k (length r0) (length words)) journal

  pub left_alone : (c.answer.number ≡ 0 → ⊥) → Left
  left_alone h =
      let a : c.answer ≡ answer_of (journal_step limits ws k (length r0) (length words)) = (kept limits low ws k r0 [] words c e h).answer in
      let n : 0 < (answer_of (journal_step limits ws k (length r0) (length words))).number = omega (arith, ap (λ (b : Answer). b.number) a, h) in
      record { answer = a; out_kept = bytes_refused _ n out; journal_kept = journal_refused ws _ n journal }

  module _ (z : c.answer.number ≡ 0) (r1 : List ℕ) (q : r1 ≡ step_output limits ws k r0) (size : ℕ) (same-size : size ≡ c.answer.length) where
    w : Wrote limits low ws k r0 [] words c e
    w = wrote limits low ws k r0 [] words c e z

    whole : journal_step limits ws k (length r0) (length words) ≡ done w.next
    whole =
        let (s, d) = stepped_number (journal_step limits ws k (length r0) (length words)) (sym (ap (λ (b : Answer). b.number) w.answer) ∙ z) in
        let t : step limits ws k (length r0) ≡ done s = (journal_done limits ws k (length r0) (length words) d).0 in
        let u : ◌≡◌ {A = Result Stepped} (done s) (done w.next) = sym t ∙ w.is_done in
        d ∙ u

    pub made_answer : c.answer ≡ answer_of (journal_step limits ws k (length r0) (length words))
    made_answer = w.answer

    pub fits_scratch : size ≤ length r1
    fits_scratch = omega (arith, scratch_fits limits low ws k r0 [] words c e w r1 q, scratch_length limits low ws k r0 [] words c e w r1 q)

    -- the result's words of the scratch
    made_length : length (take size r1) ≡ size
    made_length = length-take-le size r1 fits_scratch

    pub made_out : over (bytes_of (take size r1)) out ≡ bytes_after (journal_step limits ws k (length r0) (length words)) out
    made_out = ap (λ (i : ℕ). over (bytes_of (take i r1)) out) same-size ∙ ap (λ (u : List ℕ). over (bytes_of u) out) (scratch_words limits low ws k r0 [] words c e w r1 q) ∙ bytes_of_done out whole

    module _ (m : ℕ) (words1 : List ℕ) (l : m ≡ lay_end ws (take size r1) c.first c.last)
        (y : words1 ≡ lay_w ws (take size r1) c.first c.last words) where
      count : m ≡ length (journal_of ws (encode w.next.config))
      count = l ∙ ap (λ (i : ℕ). lay_end ws (take i r1) c.first c.last) same-size ∙ noted_end limits low ws k r0 [] words c e w r1 q

      laid : words1 ≡ over (journal_of ws (encode w.next.config)) words
      laid = y ∙ ap (λ (i : ℕ). lay_w ws (take i r1) c.first c.last words) same-size ∙ noted_words limits low ws k r0 [] words c e w r1 q

      pub fits_words : m ≤ length words1
      fits_words = omega (arith, count, w.room, ap length laid ∙ over_length (journal_of ws (encode w.next.config)) words w.room)

      pub made_journal : over (bytes_of (take m words1)) journal ≡ journal_bytes_after ws (journal_step limits ws k (length r0) (length words)) journal
      made_journal =
          ap (λ (u : List ℕ). over (bytes_of (take m u)) journal) laid
          ∙ ap (λ (u : List ℕ). over (bytes_of u) journal)
          (take_at (journal_of ws (encode w.next.config)) (drop (length (journal_of ws (encode w.next.config))) words) m (sym count))
          ∙ journal_of_done ws journal whole

-- ---- the bytes' words

module _ (limits : Limits) (k : Numbers) (room n : ℕ) where
  unread_journal : (us : List ℕ) → read_config limits us ≡ none → journal_step limits us k room n ≡ refused unreadable
  unfolding journal_step step ◌>>=◌ ◌!◌
  unread_journal us e = rw e

  by_words : (o : Option (List ℕ)) (ws : List ℕ) → ws ≡ words_or_none o → journal_step limits ws k room n ≡ ((unreadable ! o) >>= λ us. journal_step limits us k room n)
  unfolding words_or_none ◌>>=◌ ◌!◌
  by_words none ws e = ap (λ (us : List ℕ). journal_step limits us k room n) e ∙ unread_journal [] (no_words limits)
  by_words (some us) ws e = ap (λ (us : List ℕ). journal_step limits us k room n) e

  none_read : (o : Option (List ℕ)) → read_config limits (words_or_none o) ≡ none → ((unreadable ! o) >>= λ us. journal_step limits us k room n) ≡ refused unreadable
  unfolding words_or_none ◌>>=◌ ◌!◌
  none_read none e = refl
  none_read (some us) e = unread_journal us e

pub none_some : {A : Type 0} {a : A} → none ≡ some a → ⊥
none_some e = let z : ◌≡◌ {A = ℕ} 0 1 = cc in omega arith

-- what can be read is held whole
pub readable_held :
    (limits : Limits) (most : ℕ) → limits.longest ≤ most → (bytes : List ℕ) {c : Config} → read_config limits (words_or_none (words_of bytes)) ≡ some c →
    held most bytes ≡ words_or_none (words_of bytes)
readable_held limits most all bytes {c} r = by (ltb (most * 2) (length bytes)) refl
  where
    by : (b : Bool) → ltb (most * 2) (length bytes) ≡ b → held most bytes ≡ words_or_none (words_of bytes)
    by true e =
        absurd
        (none_some (sym (long_unread limits bytes (words_of bytes) (length_words bytes) (omega (arith, all, ltb-true (most * 2) (length bytes) e))) ∙ r))
    by false e = held_short most bytes (ltb-false (most * 2) (length bytes) e)

refused_after : (ws us : List ℕ) (r : Refusal) (journal : List ℕ) → journal_bytes_after ws (refused r) journal ≡ journal_bytes_after us (refused r) journal
unfolding journal_bytes_after
refused_after ws us r journal = refl

module _ (limits : Limits) (most : ℕ) (all : limits.longest ≤ most) (bytes ws : List ℕ) (e : ws ≡ held most bytes) (k : Numbers) where
  journal_held : (room n : ℕ) → journal_step limits ws k room n ≡ byte_journal_step limits bytes k room n
  unfolding byte_journal_step
  journal_held room n = by (read_config limits (words_or_none (words_of bytes))) refl
    where
      by : (o : Option Config) → read_config limits (words_or_none (words_of bytes)) ≡ o → journal_step limits ws k room n ≡ ((unreadable ! words_of bytes) >>= λ us. journal_step limits us k room n)
      by none r = unread_journal limits k room n ws (read_as limits most all bytes ws e ∙ r) ∙ sym (none_read limits k room n (words_of bytes) r)
      by (some c) r = by_words limits k room n (words_of bytes) ws (e ∙ readable_held limits most all bytes r)

  -- the journal on bytes is of the words held
  after_held : (room n : ℕ) (journal : List ℕ) → journal_bytes_after ws (journal_step limits ws k room n) journal ≡ journal_bytes_after (words_or_none (words_of bytes)) (journal_step limits ws k room n) journal
  after_held room n journal = by (read_config limits (words_or_none (words_of bytes))) refl
    where
      by : (o : Option Config) → read_config limits (words_or_none (words_of bytes)) ≡ o → journal_bytes_after ws (journal_step limits ws k room n) journal ≡ journal_bytes_after (words_or_none (words_of bytes)) (journal_step limits ws k room n) journal
      by none r =
          let u : journal_step limits ws k room n ≡ refused unreadable = unread_journal limits k room n ws (read_as limits most all bytes ws e ∙ r) in
          ap (λ (x : Result Stepped). journal_bytes_after ws x journal) u
          ∙ refused_after ws (words_or_none (words_of bytes)) unreadable journal
          ∙ sym (ap (λ (x : Result Stepped). journal_bytes_after (words_or_none (words_of bytes)) x journal) u)
      by (some c) r = ap (λ (us : List ℕ). journal_bytes_after us (journal_step limits ws k room n) journal) (e ∙ readable_held limits most all bytes r)

-- ---- the rooms

pub leb_room : (most bytes j : ℕ) → j ≤ most → leb j (room_of most bytes) ≡ leb j (bytes / 2)
leb_room most bytes j h = by (ltb most (bytes / 2)) refl
  where
    by : (b : Bool) → ltb most (bytes / 2) ≡ b → leb j (room_of most bytes) ≡ leb j (bytes / 2)
    by true e =
        let g = ltb-true most (bytes / 2) e in
        le-leb j (room_of most bytes) (omega arith) ∙ sym (le-leb j (bytes / 2) (omega arith))
    by false e = ap (leb j) (let q : room_of most bytes ≡ bytes / 2 = omega (arith, ltb-false most (bytes / 2) e) in q)

-- what becomes of a step's result in two rooms for its journal
unfoldable lent : ℕ → List ℕ → Result Stepped → Result Stepped
lent n ws x = x >>= λ t. ◌>>◌ (journal_short unless leb (length (journal_of ws (encode t.config))) n) (done t)

lent_is : (limits : Limits) (ws : List ℕ) (k : Numbers) (room n : ℕ) → journal_step limits ws k room n ≡ lent n ws (step limits ws k room)
unfolding journal_step lent
lent_is limits ws k room n = refl

lent_refused : (n : ℕ) (ws : List ℕ) (r : Refusal) → lent n ws (refused r) ≡ refused r
unfolding lent ◌>>=◌
lent_refused n ws r = refl

lent_same : (a b : ℕ) (ws : List ℕ) (s : Stepped) → leb (length (journal_of ws (encode s.config))) a ≡ leb (length (journal_of ws (encode s.config))) b → lent a ws (done s) ≡ lent b ws (done s)
unfolding lent ◌>>=◌
lent_same a b ws s e = rw e

-- a journal that is no longer than scratch finds room there exactly if it does in what is lent
lent_room :
    (ws : List ℕ) (most bytes : ℕ) (x : Result Stepped) → ((s : Stepped) → x ≡ done s → length (journal_of ws (encode s.config)) ≤ most) →
    lent (room_of most bytes) ws x ≡ lent (bytes / 2) ws x
lent_room ws most bytes (refused r) f = lent_refused (room_of most bytes) ws r ∙ sym (lent_refused (bytes / 2) ws r)
lent_room ws most bytes (done s) f = lent_same (room_of most bytes) (bytes / 2) ws s (leb_room most bytes (length (journal_of ws (encode s.config))) (f s refl))

-- with scratch for every result and every journal
module _ (limits : Limits) (low : limits.longest ≤ 8192) (most both : ℕ) (all : limits.longest ≤ most)
    (enough : limits.longest + limits.longest + 4 ≤ both) (bytes ws : List ℕ) (e : ws ≡ held most bytes) (k : Numbers) (out journal : List ℕ) (m n : ℕ)
    (room : m ≡ room_of most (length out)) (journal-room : n ≡ room_of both (length journal)) where
  all_room : journal_step limits ws k m n ≡ journal_step limits ws k (length out / 2) (length journal / 2)
  all_room =
      ap (λ (i : ℕ). journal_step limits ws k i n) room
      ∙ ap (journal_step limits ws k (room_of most (length out))) journal-room
      ∙ lent_is limits ws k (room_of most (length out)) (room_of both (length journal))
      ∙ ap (lent (room_of both (length journal)) ws) (large_same limits most all (length out) ws k)
      ∙ lent_room ws both (length journal) (step limits ws k (length out / 2)) (λ s d.
      omega (arith, journal_length ws (encode s.config), short_old limits low ws k (length out / 2) s d, short_new limits low ws k (length out / 2) s d, enough))
      ∙ sym (lent_is limits ws k (length out / 2) (length journal / 2))

  all_bytes : journal_step limits ws k m n ≡ byte_journal_step limits bytes k (length out / 2) (length journal / 2)
  all_bytes = all_room ∙ journal_held limits most all bytes ws e k (length out / 2) (length journal / 2)

  pub large_journal_given : (answer_of (journal_step limits ws k m n)) ≡ answer_of (byte_journal_step limits bytes k (length out / 2) (length journal / 2))
  large_journal_given = ap (λ (x : Result Stepped). answer_of x) all_bytes

  pub large_journal_answer : packed_as (answer_of (journal_step limits ws k m n)) ≡ byte_journal_answer limits bytes k out journal
  unfolding byte_journal_answer
  large_journal_answer = packed_as_lem (journal_step limits ws k m n) ∙ ap (λ (x : Result Stepped). packed (answer_of x)) all_bytes

  pub large_journal_output : bytes_after (journal_step limits ws k m n) out ≡ byte_journal_output limits bytes k out journal
  unfolding byte_journal_output
  large_journal_output = ap (λ (x : Result Stepped). bytes_after x out) all_bytes

  pub large_journal_written : journal_bytes_after ws (journal_step limits ws k m n) journal ≡ byte_journal_written limits bytes k out journal
  unfolding byte_journal_written
  large_journal_written =
      after_held limits most all bytes ws e k m n journal ∙ ap (λ (x : Result Stepped). journal_bytes_after (words_or_none (words_of bytes)) x journal) all_bytes

-- with other words that are the same, and room that is the same
module _ (limits : Limits) {ws us : List ℕ} (same-words : ws ≡ us) (k : Numbers) {m n room most : ℕ} (same-room : m ≡ room) (same-most : n ≡ most) where
  sized : journal_step limits ws k m n ≡ journal_step limits us k room most
  sized =
      ap (λ (v : List ℕ). journal_step limits v k m n) same-words
      ∙ ap (λ (i : ℕ). journal_step limits us k i n) same-room
      ∙ ap (journal_step limits us k room) same-most

  pub sized_answer : (answer_of (journal_step limits ws k m n)) ≡ answer_of (journal_step limits us k room most)
  sized_answer = ap (λ (x : Result Stepped). answer_of x) sized

  pub sized_output : (out : List ℕ) → bytes_after (journal_step limits ws k m n) out ≡ bytes_after (journal_step limits us k room most) out
  sized_output out = ap (λ (x : Result Stepped). bytes_after x out) sized

  pub sized_journal : (journal : List ℕ) → journal_bytes_after ws (journal_step limits ws k m n) journal ≡ journal_bytes_after us (journal_step limits us k room most) journal
  sized_journal journal =
      ap (λ (v : List ℕ). journal_bytes_after v (journal_step limits ws k m n) journal) same-words
      ∙ ap (λ (x : Result Stepped). journal_bytes_after us x journal) sized

-- with scratch for a short configuration
module _ (bytes : List ℕ) (few : length bytes ≤ 1024) (k : Numbers) (room most : ℕ) where
  words_are : held 512 bytes ≡ words_or_none (words_of bytes)
  words_are = held_short 512 bytes (omega arith)

  small_step : journal_step standard (held 512 bytes) k room most ≡ byte_journal_step standard bytes k room most
  unfolding byte_journal_step
  small_step = by_words standard k room most (words_of bytes) (held 512 bytes) words_are

  pub small_given : (answer_of (journal_step standard (held 512 bytes) k room most)) ≡ answer_of (byte_journal_step standard bytes k room most)
  small_given = ap (λ (x : Result Stepped). answer_of x) small_step

  pub small_output : (out : List ℕ) → bytes_after (journal_step standard (held 512 bytes) k room most) out ≡ bytes_after (byte_journal_step standard bytes k room most) out
  small_output out = ap (λ (x : Result Stepped). bytes_after x out) small_step

  pub small_noted :
      (journal : List ℕ) →
      journal_bytes_after (held 512 bytes) (journal_step standard (held 512 bytes) k room most) journal
      ≡ journal_bytes_after (words_or_none (words_of bytes)) (byte_journal_step standard bytes k room most) journal
  small_noted journal =
      ap (λ (us : List ℕ). journal_bytes_after us (journal_step standard (held 512 bytes) k room most) journal) words_are
      ∙ ap (λ (x : Result Stepped). journal_bytes_after (words_or_none (words_of bytes)) x journal) small_step

-- a step in short scratch that is not refused for that
ten : (n : ℕ) (ws : List ℕ) → (answer_of (lent n ws (refused short))).number ≡ 10
unfolding lent ◌>>=◌ answer_of
ten n ws = refl

module _ (us : List ℕ) (few : length us ≤ 512) (k : Numbers) (o j : ℕ) where
  agreed :
      {x y : Result Stepped} → Agree 8192 (room_of 1024 o) (o / 2) x y → ((answer_of (lent (room_of 1540 j) us x)).number ≡ 10 → ⊥) →
      lent (room_of 1540 j) us x ≡ lent (j / 2) us y
  agreed (both_refuse r) h = lent_refused (room_of 1540 j) us r ∙ sym (lent_refused (j / 2) us r)
  agreed (both_do s g) h =
      lent_same (room_of 1540 j) (j / 2) us s
      (leb_room 1540 j (length (journal_of us (encode s.config))) (omega (arith, journal_length us (encode s.config))))
  agreed (one_short s g i l) h = absurd (h (ten (room_of 1540 j) us))

  same_in_words :
      ((answer_of (journal_step standard us k (room_of 1024 o) (room_of 1540 j))).number ≡ 10 → ⊥) →
      journal_step standard us k (room_of 1024 o) (room_of 1540 j) ≡ journal_step standard us k (o / 2) (j / 2)
  same_in_words h =
      lent_is standard us k (room_of 1024 o) (room_of 1540 j)
      ∙ agreed (step_agrees standard (room_of 1024 o) (o / 2) (omega arith) us k)
      (λ z. h (ap (λ (x : Result Stepped). (answer_of x).number) (lent_is standard us k (room_of 1024 o) (room_of 1540 j)) ∙ z))
      ∙ sym (lent_is standard us k (o / 2) (j / 2))

some_same : {A : Type 0} {a b : A} → some a ≡ some b → a ≡ b
some_same e = cc

next_word :
    (h l : ℕ) (bytes us : List ℕ) (o : Option (List ℕ)) → ((vs : List ℕ) → o ≡ some vs → length vs * 2 ≡ length bytes) →
    also o (λ ws. some ((h * 256 + l) ∷ ws)) ≡ some us → length us * 2 ≡ suc (suc (length bytes))
unfolding also
next_word h l bytes us none f e = absurd (none_some e)
next_word h l bytes us (some vs) f e = let q : length us ≡ suc (length vs) = ap length (sym (some_same e)) in omega (arith, f vs refl)

-- two bytes a word
some_length : (bytes us : List ℕ) → words_of bytes ≡ some us → length us * 2 ≡ length bytes
unfolding words_of
some_length [] us e = let q : length us ≡ 0 = ap length (sym (some_same e)) in omega arith
some_length (h ∷ []) us e = absurd (none_some e)
some_length (h ∷ l ∷ bytes) us e = next_word h l bytes us (words_of bytes) (λ vs q. some_length bytes vs q) e

module _ (bytes : List ℕ) (few : length bytes ≤ 1024) (k : Numbers) (o j : ℕ) where
  by_bytes :
      (w : Option (List ℕ)) → words_of bytes ≡ w →
      ((answer_of ((unreadable ! w) >>= λ us. journal_step standard us k (room_of 1024 o) (room_of 1540 j))).number ≡ 10 → ⊥) →
      ((unreadable ! w) >>= λ us. journal_step standard us k (room_of 1024 o) (room_of 1540 j)) ≡ ((unreadable ! w) >>= λ us. journal_step standard us k (o / 2) (j / 2))
  unfolding ◌>>=◌ ◌!◌
  by_bytes none e h = refl
  by_bytes (some us) e h = same_in_words us (omega (arith, some_length bytes us e)) k o j h

  same_in_bytes :
      ((answer_of (byte_journal_step standard bytes k (room_of 1024 o) (room_of 1540 j))).number ≡ 10 → ⊥) →
      byte_journal_step standard bytes k (room_of 1024 o) (room_of 1540 j) ≡ byte_journal_step standard bytes k (o / 2) (j / 2)
  unfolding byte_journal_step
  same_in_bytes h = by_bytes (words_of bytes) refl h

module _ (bytes : List ℕ) (few : length bytes ≤ 1024) (k : Numbers) (out journal : List ℕ) (a : Answer)
    (p : a ≡ (answer_of (byte_journal_step standard bytes k (room_of 1024 (length out)) (room_of 1540 (length journal))))) where
  abbrev tried : Result Stepped
  tried = byte_journal_step standard bytes k (room_of 1024 (length out)) (room_of 1540 (length journal))

  its_number : a.number ≡ (answer_of tried).number
  its_number = ap (λ (b : Answer). b.number) p

  same : (a.number ≡ 10 → ⊥) → tried ≡ byte_journal_step standard bytes k (length out / 2) (length journal / 2)
  same h = same_in_bytes bytes few k (length out) (length journal) (λ z. h (its_number ∙ z))

  pub tried_given : (a.number ≡ 10 → ⊥) → a ≡ answer_of (byte_journal_step standard bytes k (length out / 2) (length journal / 2))
  tried_given h = p ∙ ap (λ (x : Result Stepped). answer_of x) (same h)

  pub tried_output : (a.number ≡ 10 → ⊥) → bytes_after tried out ≡ byte_journal_output standard bytes k out journal
  unfolding byte_journal_output
  tried_output h = ap (λ (x : Result Stepped). bytes_after x out) (same h)

  pub tried_journal : (a.number ≡ 10 → ⊥) → journal_bytes_after (words_or_none (words_of bytes)) tried journal ≡ byte_journal_written standard bytes k out journal
  unfolding byte_journal_written
  tried_journal h = ap (λ (x : Result Stepped). journal_bytes_after (words_or_none (words_of bytes)) x journal) (same h)

  -- refused, it has changed no byte
  pub tried_keeps : a.number ≡ 10 → (bytes_after tried out ≡ out) × (journal_bytes_after (words_or_none (words_of bytes)) tried journal ≡ journal)
  tried_keeps e =
      let n : 0 < (answer_of tried).number = omega (arith, its_number, e) in
      (sym (bytes_refused tried n out), sym (journal_refused (words_or_none (words_of bytes)) tried n journal))

pub journal_packed :
    (bytes : List ℕ) (k : Numbers) (out journal : List ℕ) →
    packed_as (answer_of (byte_journal_step standard bytes k (length out / 2) (length journal / 2))) ≡ byte_journal_answer standard bytes k out journal
unfolding byte_journal_answer
journal_packed bytes k out journal = packed_as_lem (byte_journal_step standard bytes k (length out / 2) (length journal / 2))

-- taken again with what is as it was
module _ (bytes : List ℕ) (k : Numbers) {out out' journal journal' : List ℕ} (o : out' ≡ out) (j : journal' ≡ journal) where
  pub again_given :
      (answer_of (byte_journal_step standard bytes k (length out' / 2) (length journal' / 2)))
      ≡ answer_of (byte_journal_step standard bytes k (length out / 2) (length journal / 2))
  again_given = rw (o, j)

  pub again_output : byte_journal_output standard bytes k out' journal' ≡ byte_journal_output standard bytes k out journal
  again_output = rw (o, j)

  pub again_journal : byte_journal_written standard bytes k out' journal' ≡ byte_journal_written standard bytes k out journal
  again_journal = rw (o, j)
