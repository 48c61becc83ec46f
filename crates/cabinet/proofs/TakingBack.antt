-- Taking back on words in scratch, with the bytes' words and no more of the journal than a journal may have, is that on bytes.
-- Assumes nothing.
use Prim.Native.Nat.{ℕ, zero, suc, ◌+◌, ◌*◌, ◌-◌, ◌/◌, ◌≤◌, ◌<◌}
use native.Mathlib.Omega.{arith}
use mathlib.Core.Path.{◌≡◌, refl, sym, ap, subst, ◌∙◌}
use mathlib.Core.Bool.{Bool, true, false}
use mathlib.Core.Option.{Option, none, some}
use mathlib.Core.List.{List, [], ◌∷◌, ◌++◌, append_assoc}
use lib.Dec.{leb, ltb}
use lib.ListN.{length, take, drop, length-append, take-append-drop}
use lib.Seq.{length-take-le, take_at, take-append-add}
use borrow.Author.Tests.{leb-true, ltb-true, ltb-false}
use Rattle.sock.specs.Configuration.{Config, standard, read_config}
use Rattle.sock.specs.Calls.{unreadable, unmatched, short, Result, refused, done, ◌>>=◌, ◌>>◌, ◌!◌, ◌unless◌, over}
use Rattle.sock.specs.Journal.{Taken, between, journal_by, restored, take_back, taken_of, restored_over, take_back_answer, take_back_output}
use Rattle.sock.specs.Bytes.{bytes_of, words_of, words_or_none, words_in, byte_take_back, packed_taken, byte_taken, restored_bytes, byte_restored}
use Rattle.sock.proofs.ByteWords.{no_words, no_config}
use Rattle.sock.proofs.Rooms.{refusal_number}
use Rattle.sock.proofs.Configuration.{config_found}
use Rattle.sock.proofs.Journal.{Alike, between_length, JournalFor, restored_only, restored_by, refused_done, taken_readable}
use Rattle.bytewise.specs.Held.{held, held_part, room_of}
use Rattle.bytewise.proofs.Holding.{read_as}
use Rattle.cabinet.proofs.Journaling.{leb_room, none_some, readable_held}

-- ---- part of longer scratch

rest : (n m : ℕ) (l : List ℕ) → n ≤ m → m ≤ length l → drop n (take m l) ++ drop m l ≡ drop n l
rest zero m l h g = take-append-drop m l
rest (suc n) zero l h g = absurd (omega arith)
rest (suc n) (suc m) [] h g = absurd (omega arith)
rest (suc n) (suc m) (x ∷ l) h g = rest n m l (omega arith) (omega arith)

over_part : (us l : List ℕ) (m : ℕ) → length us ≤ m → m ≤ length l → over us (take m l) ++ drop m l ≡ over us l
over_part us l m h g = append_assoc us (drop (length us) (take m l)) (drop m l) ∙ ap (λ vs. us ++ vs) (rest (length us) m l h g)

-- ---- what the code makes of it

-- what was restored is no longer than the output
module _ (room : ℕ) (old : List ℕ) where
  fits_last : (us : List ℕ) (b : Bool) → leb (length us) room ≡ b → (◌>>◌ (short unless b) (done us)) ≡ done old → length old ≤ room
  unfolding ◌>>◌ ◌unless◌
  fits_last us true p e = let q : us ≡ old = cc in subst (λ us. length us ≤ room) q (leb-true (length us) room p)
  fits_last us false p e = absurd (refused_done e)

  fits_read : (us : List ℕ) (o : Option Config) → ((unmatched ! o) >>= λ d. ◌>>◌ (short unless leb (length us) room) (done us)) ≡ done old → length old ≤ room
  unfolding ◌>>=◌ ◌!◌
  fits_read us none e = absurd (refused_done e)
  fits_read us (some d) e = fits_last us (leb (length us) room) refl e

  fits_by :
      (o : Option Config) (p : Option (List ℕ)) →
      ((unreadable ! o) >>= λ c. (unmatched ! p) >>= λ us. (unmatched ! read_config standard us) >>= λ d. ◌>>◌ (short unless leb (length us) room) (done us)) ≡ done old →
      length old ≤ room
  unfolding ◌>>=◌ ◌!◌
  fits_by none p e = absurd (refused_done e)
  fits_by (some c) none e = absurd (refused_done e)
  fits_by (some c) (some us) e = fits_read us (read_config standard us) e

  done_fits : (ws words : List ℕ) → take_back standard ws words room ≡ done old → length old ≤ room
  unfolding take_back
  done_fits ws words e = fits_by (read_config standard ws) (restored words ws) e

module _ (ws words r0 r1 : List ℕ) (t : Taken) (a : t ≡ take_back_answer standard ws words r0) (b : r1 ≡ take_back_output standard ws words r0) (out : List ℕ) where
  pub taken_as_lem : t ≡ taken_of (take_back standard ws words (length r0))
  unfolding take_back_answer
  taken_as_lem = a

  refused_bytes : (x : Result (List ℕ)) → ((taken_of x).number ≡ 0 → ⊥) → out ≡ restored_bytes x out
  unfolding taken_of restored_bytes
  refused_bytes (refused r) h = refl
  refused_bytes (done old) h = absurd (h refl)

  pub taken_refused : (t.number ≡ 0 → ⊥) → out ≡ restored_bytes (take_back standard ws words (length r0)) out
  taken_refused h = refused_bytes (take_back standard ws words (length r0)) (λ z. h (ap (λ (u : Taken). u.number) taken_as_lem ∙ z))

  done_of : (x : Result (List ℕ)) → (taken_of x).number ≡ 0 → (old : List ℕ) × (x ≡ done old)
  unfolding taken_of
  done_of (refused r) e = absurd (omega (arith, e, refusal_number r))
  done_of (done old) e = (old, refl)

  done_length : {x : Result (List ℕ)} {old : List ℕ} → x ≡ done old → (taken_of x).length ≡ length old
  unfolding taken_of
  done_length e = rw e

  done_over : {x : Result (List ℕ)} {old : List ℕ} (o : List ℕ) → x ≡ done old → restored_over x o ≡ over old o
  unfolding restored_over
  done_over o e = rw e

  done_bytes : {x : Result (List ℕ)} {old : List ℕ} → x ≡ done old → over (bytes_of old) out ≡ restored_bytes x out
  unfolding restored_bytes
  done_bytes e = sym (rw e)

  module _ (z : t.number ≡ 0) where
    got : (old : List ℕ) × (take_back standard ws words (length r0) ≡ done old)
    got = done_of (take_back standard ws words (length r0)) (sym (ap (λ (u : Taken). u.number) taken_as_lem) ∙ z)

    long : t.length ≡ length got.0
    long = ap (λ (u : Taken). u.length) taken_as_lem ∙ done_length got.1

    words_are : r1 ≡ over got.0 r0
    unfolding take_back_output
    words_are = b ∙ done_over r0 got.1

    fits : length got.0 ≤ length r0
    fits = done_fits (length r0) got.0 ws words got.1

    pub fits_result : t.length ≤ length r1
    fits_result = omega (arith, long, ap length words_are ∙ length-append got.0 (drop (length got.0) r0))

    pub taken_done : over (bytes_of (take t.length r1)) out ≡ restored_bytes (take_back standard ws words (length r0)) out
    taken_done =
        ap (λ (n : ℕ). over (bytes_of (take n r1)) out) long
        ∙ ap (λ (u : List ℕ). over (bytes_of (take (length got.0) u)) out) words_are
        ∙ ap (λ (u : List ℕ). over (bytes_of u) out) (take_at got.0 (drop (length got.0) r0) (length got.0) refl)
        ∙ done_bytes got.1

-- ---- no more of the journal than a journal may have

journal_words : {f l : ℕ} {old ws : List ℕ} → Alike f l old ws → length (journal_by f l old ws) ≤ 4 + length old + length ws
unfolding journal_by
journal_words {f} {l} {old} {ws} a =
    omega (arith, length-append (between f l old) (between f l ws), between_length f l old a.in_old, between_length f l ws a.in_new)

module _ (n : ℕ) (journal ws old : List ℕ) where
  -- what a part restores, the whole does
  longer : restored (take n journal) ws ≡ some old → restored journal ws ≡ some old
  longer e =
      let j : JournalFor (take n journal) ws old = restored_only (take n journal) ws old e in
      let w : journal ≡ journal_by j.first j.last old ws ++ (j.rest ++ drop n journal) =
      sym (take-append-drop n journal)
      ∙ ap (λ (u : List ℕ). u ++ drop n journal) j.words
      ∙ append_assoc (journal_by j.first j.last old ws) j.rest (drop n journal) in
      ap (λ (u : List ℕ). restored u ws) w ∙ restored_by j.first j.last old ws (j.rest ++ drop n journal) j.both

  -- and what the whole restores a part does that has all its words
  shorter : 4 + length old + length ws ≤ n → restored journal ws ≡ some old → restored (take n journal) ws ≡ some old
  shorter h e =
      let j : JournalFor journal ws old = restored_only journal ws old e in
      let b : List ℕ = journal_by j.first j.last old ws in
      let l : length b ≤ 4 + length old + length ws = journal_words j.both in
      let m : length b + (n - length b) ≡ n = omega arith in
      let w : take n journal ≡ b ++ take (n - length b) j.rest =
      ap (take n) j.words ∙ ap (λ (i : ℕ). take i (b ++ j.rest)) (sym m) ∙ take-append-add b j.rest (n - length b) in
      ap (λ (u : List ℕ). restored u ws) w ∙ restored_by j.first j.last old ws (take (n - length b) j.rest) j.both

-- once the words can be read
unfoldable behind : List ℕ → ℕ → Result (List ℕ)
behind us room = (unmatched ! read_config standard us) >>= λ d. ◌>>◌ (short unless leb (length us) room) (done us)

unfoldable after : Option (List ℕ) → ℕ → Result (List ℕ)
after p room = (unmatched ! p) >>= λ us. behind us room

back_after : (ws journal : List ℕ) (room : ℕ) {c : Config} → read_config standard ws ≡ some c → take_back standard ws journal room ≡ after (restored journal ws) room
unfolding take_back after behind ◌>>=◌ ◌!◌
back_after ws journal room e = rw e

back_unread : (ws journal : List ℕ) (room : ℕ) → read_config standard ws ≡ none → take_back standard ws journal room ≡ refused unreadable
unfolding take_back ◌>>=◌ ◌!◌
back_unread ws journal room e = rw e

after_none : (room : ℕ) → after none room ≡ refused unmatched
unfolding after ◌>>=◌ ◌!◌
after_none room = refl

after_some : (us : List ℕ) (room : ℕ) → after (some us) room ≡ behind us room
unfolding after ◌>>=◌ ◌!◌
after_some us room = refl

behind_long : (us : List ℕ) (room : ℕ) → 8192 < length us → behind us room ≡ refused unmatched
unfolding behind ◌>>=◌ ◌!◌
behind_long us room h = rw (no_config standard us h)

module _ (ws journal : List ℕ) (room : ℕ) (few : length ws ≤ 8192) where
  cut_none : (p : Option (List ℕ)) → restored (take 16388 journal) ws ≡ p → restored journal ws ≡ none → after p room ≡ after none room
  cut_none none e f = refl
  cut_none (some us) e f = absurd (none_some (sym f ∙ longer 16388 journal ws us e))

  cut_long : (p : Option (List ℕ)) (us : List ℕ) → restored (take 16388 journal) ws ≡ p → restored journal ws ≡ some us → 8192 < length us → after p room ≡ after (some us) room
  cut_long none us e f h = after_none room ∙ sym (after_some us room ∙ behind_long us room h)
  cut_long (some vs) us e f h = ap (λ q. after q room) (sym (longer 16388 journal ws vs e) ∙ f)

  cut_some : (us : List ℕ) → restored journal ws ≡ some us → after (restored (take 16388 journal) ws) room ≡ after (some us) room
  cut_some us f = by (ltb 8192 (length us)) refl
    where
      by : (b : Bool) → ltb 8192 (length us) ≡ b → after (restored (take 16388 journal) ws) room ≡ after (some us) room
      by true e = cut_long (restored (take 16388 journal) ws) us refl f (ltb-true 8192 (length us) e)
      by false e = ap (λ q. after q room) (shorter 16388 journal ws us (omega (arith, ltb-false 8192 (length us) e)) f)

  cut_by : (p : Option (List ℕ)) → restored journal ws ≡ p → after (restored (take 16388 journal) ws) room ≡ after (restored journal ws) room
  cut_by none f = cut_none (restored (take 16388 journal) ws) refl f ∙ ap (λ q. after q room) (sym f)
  cut_by (some us) f = cut_some us f ∙ ap (λ q. after q room) (sym f)

  cut_same : after (restored (take 16388 journal) ws) room ≡ after (restored journal ws) room
  cut_same = cut_by (restored journal ws) refl

-- ---- the output's room

room_behind : (us : List ℕ) (bytes : ℕ) → behind us (room_of 8192 bytes) ≡ behind us (bytes / 2)
unfolding behind
room_behind us bytes = by (ltb 8192 (length us)) refl
  where
    by : (b : Bool) → ltb 8192 (length us) ≡ b → behind us (room_of 8192 bytes) ≡ behind us (bytes / 2)
    by true e = behind_long us (room_of 8192 bytes) (ltb-true 8192 (length us) e) ∙ sym (behind_long us (bytes / 2) (ltb-true 8192 (length us) e))
    by false e =
        ap (λ (t : Bool). (unmatched ! read_config standard us) >>= λ d. ◌>>◌ (short unless t) (done us))
        (leb_room 8192 bytes (length us) (ltb-false 8192 (length us) e))

room_after : (p : Option (List ℕ)) (bytes : ℕ) → after p (room_of 8192 bytes) ≡ after p (bytes / 2)
room_after none bytes = after_none (room_of 8192 bytes) ∙ sym (after_none (bytes / 2))
room_after (some us) bytes = after_some us (room_of 8192 bytes) ∙ room_behind us bytes ∙ sym (after_some us (bytes / 2))

-- ---- the bytes' words

module _ (config ws : List ℕ) (e : ws ≡ held 8192 config) (journal words out : List ℕ) (w : words ≡ held_part 16388 journal) (m : ℕ)
    (room : m ≡ room_of 8192 (length out)) where
  unread_bytes : (o : Option (List ℕ)) → read_config standard (words_or_none o) ≡ none → ((unreadable ! o) >>= λ us. take_back standard us (words_in journal) (length out / 2)) ≡ refused unreadable
  unfolding words_or_none ◌>>=◌ ◌!◌
  unread_bytes none r = refl
  unread_bytes (some us) r = back_unread us (words_in journal) (length out / 2) r

  read_bytes : (o : Option (List ℕ)) {c : Config} → read_config standard (words_or_none o) ≡ some c → take_back standard (words_or_none o) (words_in journal) (length out / 2) ≡ ((unreadable ! o) >>= λ us. take_back standard us (words_in journal) (length out / 2))
  unfolding words_or_none ◌>>=◌ ◌!◌
  read_bytes none r = absurd (none_some (sym (no_words standard) ∙ r))
  read_bytes (some us) r = refl

  on_bytes : take_back standard ws words m ≡ byte_take_back config journal (length out / 2)
  unfolding byte_take_back held_part
  on_bytes = by (read_config standard (words_or_none (words_of config))) refl
    where
      by : (o : Option Config) → read_config standard (words_or_none (words_of config)) ≡ o → take_back standard ws words m ≡ ((unreadable ! words_of config) >>= λ us. take_back standard us (words_in journal) (length out / 2))
      by none r = back_unread ws words m (read_as standard 8192 (omega arith) config ws e ∙ r) ∙ sym (unread_bytes (words_of config) r)
      by (some c) r =
          let us : List ℕ = words_or_none (words_of config) in
          let same : ws ≡ us = e ∙ readable_held standard 8192 (omega arith) config r in
          let (q, good) = config_found standard us c r in
          let few : length us ≤ 8192 = rw q at good.short in
          ap (λ (v : List ℕ). take_back standard v words m) same
          ∙ ap (λ (v : List ℕ). take_back standard us v m) w
          ∙ ap (take_back standard us (take 16388 (words_in journal))) room
          ∙ back_after us (take 16388 (words_in journal)) (room_of 8192 (length out)) r
          ∙ cut_same us (words_in journal) (room_of 8192 (length out)) few
          ∙ room_after (restored (words_in journal) us) (length out)
          ∙ sym (back_after us (words_in journal) (length out / 2) r)
          ∙ read_bytes (words_of config) r

  pub back_answer : (t : Taken) → t ≡ taken_of (take_back standard ws words m) → t ≡ taken_of (byte_take_back config journal (length out / 2))
  back_answer t p = p ∙ ap (λ (x : Result (List ℕ)). taken_of x) on_bytes

  pub back_output : restored_bytes (take_back standard ws words m) out ≡ byte_restored config journal out
  unfolding byte_restored
  back_output = ap (λ (x : Result (List ℕ)). restored_bytes x out) on_bytes

  -- what is restored in the first words of longer scratch
  pub back_held :
      (r0 part : List ℕ) → m ≤ length r0 → part ≡ take_back_output standard ws words (take m r0) →
      part ++ drop m r0 ≡ restored_over (byte_take_back config journal (length out / 2)) r0
  unfolding take_back_output restored_over
  back_held r0 part h q =
      let l : length (take m r0) ≡ m = length-take-le m r0 h in
      ap (λ us. us ++ drop m r0) (q ∙ ap (λ i. restored_over (take_back standard ws words i) (take m r0)) l)
      ∙ laid_by (take_back standard ws words m) (λ old d. done_fits m old ws words d)
      ∙ ap (λ x. restored_over x r0) on_bytes
    where
      laid_by :
          (x : Result (List ℕ)) → ((old : List ℕ) → x ≡ done old → length old ≤ m) →
          restored_over x (take m r0) ++ drop m r0 ≡ restored_over x r0
      laid_by (refused r) f = take-append-drop m r0
      laid_by (done old) f = over_part old r0 m (f old refl) h

-- packed, and no longer than a configuration
module _ (config journal out : List ℕ) (t : Taken) (p : t ≡ taken_of (byte_take_back config journal (length out / 2))) where
  pub back_packed : t.number * 72057594037927936 + t.length ≡ byte_taken config journal out
  unfolding byte_taken packed_taken
  back_packed = ap (λ (u : Taken). u.number * 72057594037927936 + u.length) p

  restored_short : (o : Option (List ℕ)) (x : Result (List ℕ)) → ((unreadable ! o) >>= λ us. take_back standard us (words_in journal) (length out / 2)) ≡ x → (taken_of x).number ≡ 0 → (taken_of x).length ≤ 8192
  unfolding ◌>>=◌ ◌!◌ taken_of
  restored_short o (refused r) e z = absurd (let g = refusal_number r in omega (arith, z))
  restored_short none (done old) e z = absurd (refused_done e)
  restored_short (some us) (done old) e z =
      let (c, r) = taken_readable standard (length out / 2) old us (words_in journal) e in
      let (same, good) = config_found standard old c r in
      rw same at good.short

  pub back_short : t.number ≡ 0 → t.length ≤ 8192
  unfolding byte_take_back
  back_short z =
      let g = restored_short (words_of config) (byte_take_back config journal (length out / 2)) refl (sym (ap (λ (u : Taken). u.number) p) ∙ z) in
      omega (arith, g, ap (λ (u : Taken). u.length) p)
