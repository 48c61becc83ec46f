-- Joining and leaving on words in scratch, with the bytes' words, are those on bytes.
-- Assumes nothing.
use Prim.Native.Nat.{ℕ, suc, ◌+◌, ◌*◌, ◌/◌, ◌≤◌, ◌<◌}
use native.Mathlib.Omega.{arith}
use mathlib.Core.Path.{◌≡◌, refl, sym, ap, ◌∙◌}
use mathlib.Core.Bool.{Bool, true, false}
use mathlib.Core.Option.{Option, none, some}
use mathlib.Core.List.{List, []}
use lib.Dec.{leb, leb→le}
use lib.ListN.{length, drop, length-append}
use lib.Seq.{take_at}
use borrow.Author.Tests.{leb-true, le-leb, lt-leb, eqb-false}
use Rattle.sock.specs.Configuration.{standard, Engine, Config, encode, read_config}
use Rattle.sock.specs.Calls.{unreadable, not_fresh, long, short, still_at_work, Result, refused, done, ◌>>=◌, ◌>>◌, ◌!◌, ◌unless◌, passed, over}
use Rattle.sock.specs.Journal.{Taken, taken_of, restored_over}
use Rattle.sock.specs.Bytes.{words_of, words_or_none, packed_taken, restored_bytes, bytes_of}
use Rattle.sock.specs.Engines.{newcomer, with_next, admitting, join, join_answer, join_output, without_last, may_leave, leave, leave_answer, leave_output}
use Rattle.sock.specs.EnginesBytes.{byte_join, byte_join_answer, byte_join_output, byte_leave, byte_leave_answer, byte_leave_output}
use Rattle.sock.proofs.Logic.{true_test}
use Rattle.sock.proofs.ByteWords.{no_words}
use Rattle.sock.proofs.Configuration.{config_found}
use Rattle.sock.proofs.Rooms.{refusal_number}
use Rattle.sock.proofs.Steps.{Sure, sure_refused, sure_done, sure_then, sure_unless, sure_done_lem}
use Rattle.sock.proofs.Engines.{may_leave_lem, left_calm}
use Rattle.layout.specs.declared.refusal.Refusal.{Refusal}
use Rattle.layout.specs.declared.refusal.Refusal.TheVariants.{TooLong}
use Rattle.layout.specs.Refusals.{number_in}
use Rattle.std.specs.Result.{result_and}
use Rattle.layout.proofs.Refusing.{never_zero}
use Rattle.std.specs.Prelude as code
use Rattle.std.specs.Prelude.{Ok, Err, IfOk, take}
use Rattle.engines.specs.Answers.{written_in}
use Rattle.bytewise.specs.Held.{held, numbered_as, room_of}
use Rattle.cabinet.specs.Handed.{too_long}
use Rattle.bytewise.proofs.Holding.{held_short, read_as}
use Rattle.cabinet.proofs.Journaling.{leb_room}

sure_any : {A : Type 0} (r : Result A) → Sure (λ a. Unit {0}) r
sure_any (refused f) = sure_refused
sure_any (done a) = sure_done tt

-- ---- what is handed out

abbrev pub handed_out : code.Result ℕ Refusal → List ℕ → List ℕ → List ℕ
handed_out (Ok n) result out = over (bytes_of (take n result)) out
handed_out (Err r) result out = out

abbrev pub Handed : code.Result ℕ Refusal → List ℕ → List ℕ → Type 0
Handed g r1 out = IfOk g (λ n. (n ≤ length r1) × (n * 2 ≤ length out))

pub handed_fits :
    (g : code.Result ℕ Refusal) (x : Result (List ℕ)) (r0 r1 out : List ℕ) → written_in g ≡ taken_of x → r1 ≡ restored_over x r0 →
    ((us : List ℕ) → x ≡ done us → length us ≤ length r0) → length r0 * 2 ≤ length out → Handed g r1 out
unfolding taken_of restored_over
handed_fits (Err r) x r0 r1 out a b fits room = tt
handed_fits (Ok n) (refused f) r0 r1 out a b fits room = absurd (omega (arith, ap (λ (t : Taken). t.number) a, refusal_number f))
handed_fits (Ok n) (done us) r0 r1 out a b fits room =
    let long : n ≡ length us = ap (λ (t : Taken). t.length) a in
    let laid : length r1 ≡ length us + length (drop (length us) r0) = ap length b ∙ length-append us (drop (length us) r0) in
    (omega arith, omega (arith, fits us refl))

pub handed_number : (g : code.Result ℕ Refusal) (x : Result (List ℕ)) → written_in g ≡ taken_of x → numbered_as g ≡ packed_taken (taken_of x)
unfolding taken_of packed_taken
handed_number (Err r) (refused f) a = let n = ap (λ (t : Taken). t.number) a in omega (arith, n)
handed_number (Err r) (done us) a = absurd (eqb-false _ 0 (never_zero r) (ap (λ (t : Taken). t.number) a))
handed_number (Ok n) (refused f) a = absurd (omega (arith, ap (λ (t : Taken). t.number) a, refusal_number f))
handed_number (Ok n) (done us) a = let m = ap (λ (t : Taken). t.length) a in omega (arith, m)

pub handed_is :
    (g : code.Result ℕ Refusal) (x : Result (List ℕ)) (r0 r1 out : List ℕ) → written_in g ≡ taken_of x → r1 ≡ restored_over x r0 →
    handed_out g r1 out ≡ restored_bytes x out
unfolding taken_of restored_over restored_bytes
handed_is (Err r) (refused f) r0 r1 out a b = refl
handed_is (Err r) (done us) r0 r1 out a b = absurd (eqb-false _ 0 (never_zero r) (ap (λ (t : Taken). t.number) a))
handed_is (Ok n) (refused f) r0 r1 out a b = absurd (omega (arith, ap (λ (t : Taken). t.number) a, refusal_number f))
handed_is (Ok n) (done us) r0 r1 out a b =
    let m : n ≡ length us = ap (λ (t : Taken). t.length) a in
    rw (m, b, take_at us (drop (length us) r0) (length us) refl)

-- ---- joining

module _ (e : List ℕ) (room : ℕ) where
  abbrev joining : Result Config → Result (List ℕ)
  joining a =
      a >>= λ c.
      not_fresh ! newcomer standard (suc (length c.engines)) e >>= λ x.
      ◌>>◌ (long unless leb (length (encode (with_next c x))) 8192)
      (◌>>◌ (short unless leb (length (encode (with_next c x))) room) (done (encode (with_next c x))))

  joins : (ws : List ℕ) → join standard ws e room ≡ joining (admitting standard ws)
  unfolding join
  joins ws = refl

  join_as : (ws us : List ℕ) → read_config standard ws ≡ read_config standard us → join standard ws e room ≡ join standard us e room
  unfolding join admitting
  join_as ws us r = rw r

  join_sure : (ws : List ℕ) → Sure (λ us. length us ≤ room) (join standard ws e room)
  unfolding join
  join_sure ws =
      sure_then (sure_any (admitting standard ws)) λ c q.
      sure_then (sure_any (not_fresh ! newcomer standard (suc (length c.engines)) e)) λ x p.
      sure_unless long (leb (length (encode (with_next c x))) 8192) λ t.
      sure_unless short (leb (length (encode (with_next c x))) room) λ u.
      sure_done (leb→le (length (encode (with_next c x))) room u)

join_room : (ws e : List ℕ) (bytes : ℕ) → join standard ws e (room_of 8192 bytes) ≡ join standard ws e (bytes / 2)
unfolding ◌>>=◌ ◌>>◌ ◌!◌ ◌unless◌
join_room ws e bytes = joins e (room_of 8192 bytes) ws ∙ by (admitting standard ws) ∙ sym (joins e (bytes / 2) ws)
  where
    fitting : (us : List ℕ) (b : Bool) → leb (length us) 8192 ≡ b →
        ◌>>◌ (long unless b) (◌>>◌ (short unless leb (length us) (room_of 8192 bytes)) (done us)) ≡ ◌>>◌ (long unless b) (◌>>◌ (short unless leb (length us) (bytes / 2)) (done us))
    fitting us true q = ap (λ t. ◌>>◌ (short unless t) (done us)) (leb_room 8192 bytes (length us) (leb-true (length us) 8192 q))
    fitting us false q = refl

    of : (c : Config) (o : Option Engine) →
        (not_fresh ! o >>= λ x. ◌>>◌ (long unless leb (length (encode (with_next c x))) 8192) (◌>>◌ (short unless leb (length (encode (with_next c x))) (room_of 8192 bytes)) (done (encode (with_next c x)))))
        ≡ (not_fresh ! o >>= λ x. ◌>>◌ (long unless leb (length (encode (with_next c x))) 8192) (◌>>◌ (short unless leb (length (encode (with_next c x))) (bytes / 2)) (done (encode (with_next c x)))))
    of c none = refl
    of c (some x) = fitting (encode (with_next c x)) (leb (length (encode (with_next c x))) 8192) refl

    by : (a : Result Config) → joining e (room_of 8192 bytes) a ≡ joining e (bytes / 2) a
    by (refused f) = refl
    by (done c) = of c (newcomer standard (suc (length c.engines)) e)

long_is : (us : List ℕ) → too_long standard us ≡ (admitting standard us >>= λ c. refused long)
unfolding too_long
long_is us = refl

module _ (config ws : List ℕ) (h : ws ≡ held 8192 config) (news : List ℕ) (out : List ℕ) where
  abbrev words : List ℕ
  words = words_or_none (words_of config)

  -- 1 and 21 once more change nothing
  again : (us e : List ℕ) (room : ℕ) → (admitting standard us >>= λ c. join standard us e room) ≡ join standard us e room
  unfolding ◌>>=◌
  again us e room = by (admitting standard us) refl
    where
      by : (a : Result Config) → admitting standard us ≡ a → (a >>= λ c. join standard us e room) ≡ join standard us e room
      by (refused f) q = sym (joins e room us ∙ rw q)
      by (done c) q = refl

  unread_join : (e : List ℕ) (room : ℕ) → join standard [] e room ≡ refused unreadable
  unfolding join admitting ◌>>=◌ ◌!◌
  unread_join e room = rw (no_words standard)

  module _ (short-enough : length news ≤ 32768) (e : List ℕ) (g : e ≡ held 16384 news) (m : ℕ) (room : m ≡ room_of 8192 (length out)) where
    pub join_bytes : join standard ws e m ≡ byte_join config news (length out / 2)
    unfolding byte_join words_or_none ◌>>=◌ ◌>>◌ ◌!◌ ◌unless◌
    join_bytes =
        ap (join standard ws e) room
        ∙ join_room ws e (length out)
        ∙ join_as e (length out / 2) ws words (read_as standard 8192 (omega arith) config ws h)
        ∙ ap (λ us. join standard words us (length out / 2)) (g ∙ held_short 16384 news (omega arith))
        ∙ by (words_of config)
      where
        by : (o : Option (List ℕ)) →
            join standard (words_or_none o) (words_or_none (words_of news)) (length out / 2)
            ≡ (unreadable ! o >>= λ us. admitting standard us >>= λ c. ◌>>◌ (long unless leb (length news) 32768) (join standard us (words_or_none (words_of news)) (length out / 2)))
        by none = unread_join (words_or_none (words_of news)) (length out / 2)
        by (some us) = rw (le-leb (length news) 32768 short-enough) (sym (again us (words_or_none (words_of news)) (length out / 2)))

  long_as : (us : List ℕ) → read_config standard ws ≡ read_config standard us → too_long standard ws ≡ too_long standard us
  unfolding too_long admitting
  long_as us r = rw r

  unread_long_one : too_long standard [] ≡ refused unreadable
  unfolding too_long admitting ◌>>=◌ ◌!◌
  unread_long_one = rw (no_words standard)

  module _ (longer : 32768 < length news) where
    pub too_long_bytes : too_long standard ws ≡ byte_join config news (length out / 2)
    unfolding byte_join words_or_none ◌>>=◌ ◌>>◌ ◌!◌ ◌unless◌
    too_long_bytes = long_as words (read_as standard 8192 (omega arith) config ws h) ∙ by (words_of config)
      where
        by : (o : Option (List ℕ)) →
            too_long standard (words_or_none o)
            ≡ (unreadable ! o >>= λ us. admitting standard us >>= λ c. ◌>>◌ (long unless leb (length news) 32768) (join standard us (words_or_none (words_of news)) (length out / 2)))
        by none = unread_long_one
        by (some us) = rw (lt-leb (length news) 32768 longer) (long_is us)

-- the answer of who is not read
pub unread_answer :
    (ws : List ℕ) (g : code.Result (Unit {0}) Refusal) → number_in g ≡ passed (admitting standard ws) →
    numbered_as (result_and g (Err TooLong)) ≡ packed_taken (taken_of (too_long standard ws))
unfolding passed packed_taken taken_of too_long ◌>>=◌
unread_answer ws g e = by g (admitting standard ws) refl e
  where
    by : (h : code.Result (Unit {0}) Refusal) (a : Result Config) → admitting standard ws ≡ a → number_in h ≡ passed a →
        numbered_as (result_and h (Err TooLong)) ≡ packed_taken (taken_of (admitting standard ws >>= λ c. refused long))
    by (Ok u) (refused f) q z = absurd (omega (arith, z, refusal_number f))
    by (Ok u) (done c) q z = rw q
    by (Err r) (refused f) q z = rw q (omega (arith, z))
    by (Err r) (done c) q z = absurd (eqb-false _ 0 (never_zero r) z)

-- ---- leaving

unread_leave : (room : ℕ) → leave standard [] room ≡ refused unreadable
unfolding leave ◌>>=◌ ◌!◌
unread_leave room = rw (no_words standard)

leave_sure : (ws : List ℕ) (room : ℕ) → Sure (λ us. length us ≤ room) (leave standard ws room)
unfolding leave
leave_sure ws room =
    sure_then (sure_any (unreadable ! read_config standard ws)) λ c q.
    sure_unless still_at_work (may_leave c) λ t.
    sure_unless short (leb (length (encode (without_last c))) room) λ u.
    sure_done (leb→le (length (encode (without_last c))) room u)

leave_room : (ws : List ℕ) (bytes : ℕ) → leave standard ws (room_of 8192 bytes) ≡ leave standard ws (bytes / 2)
unfolding leave ◌>>=◌ ◌>>◌ ◌!◌ ◌unless◌
leave_room ws bytes = by (read_config standard ws) refl
  where
    free : (c : Config) → read_config standard ws ≡ some c → (b : Bool) → may_leave c ≡ b →
        ◌>>◌ (still_at_work unless b) (◌>>◌ (short unless leb (length (encode (without_last c))) (room_of 8192 bytes)) (done (encode (without_last c))))
        ≡ ◌>>◌ (still_at_work unless b) (◌>>◌ (short unless leb (length (encode (without_last c))) (bytes / 2)) (done (encode (without_last c))))
    free c r true t =
        let few : length (encode (without_last c)) ≤ 8192 = (left_calm (config_found standard ws c r).1 (may_leave_lem c (true_test t))).readable.short in
        ap (λ t. ◌>>◌ (short unless t) (done (encode (without_last c)))) (leb_room 8192 bytes (length (encode (without_last c))) few)
    free c r false t = refl

    by : (o : Option Config) → read_config standard ws ≡ o →
        (unreadable ! o >>= λ c. ◌>>◌ (still_at_work unless may_leave c) (◌>>◌ (short unless leb (length (encode (without_last c))) (room_of 8192 bytes)) (done (encode (without_last c)))))
        ≡ (unreadable ! o >>= λ c. ◌>>◌ (still_at_work unless may_leave c) (◌>>◌ (short unless leb (length (encode (without_last c))) (bytes / 2)) (done (encode (without_last c)))))
    by none r = refl
    by (some c) r = free c r (may_leave c) refl

module _ (config ws : List ℕ) (h : ws ≡ held 8192 config) (out : List ℕ) (m : ℕ) (room : m ≡ room_of 8192 (length out)) where
  leave_as : leave standard ws (length out / 2) ≡ leave standard (words_or_none (words_of config)) (length out / 2)
  unfolding leave
  leave_as = rw (read_as standard 8192 (omega arith) config ws h)

  pub leave_bytes : leave standard ws m ≡ byte_leave config (length out / 2)
  unfolding byte_leave words_or_none ◌>>=◌ ◌!◌
  leave_bytes = ap (leave standard ws) room ∙ leave_room ws (length out) ∙ leave_as ∙ by (words_of config)
    where
      by : (o : Option (List ℕ)) → leave standard (words_or_none o) (length out / 2) ≡ (unreadable ! o >>= λ us. leave standard us (length out / 2))
      by none = unread_leave (length out / 2)
      by (some us) = refl

-- ---- what the code knows

module _ (ws e r0 r1 out : List ℕ) (g : code.Result ℕ Refusal) (a : written_in g ≡ join_answer standard ws e r0) (b : r1 ≡ join_output standard ws e r0) (room : length r0 * 2 ≤ length out) where
  in_number : written_in g ≡ taken_of (join standard ws e (length r0))
  unfolding join_answer
  in_number = a

  in_words : r1 ≡ restored_over (join standard ws e (length r0)) r0
  unfolding join_output
  in_words = b

  in_fits : (us : List ℕ) → join standard ws e (length r0) ≡ done us → length us ≤ length r0
  in_fits us q = sure_done_lem (join_sure e (length r0) ws) q

  pub let_in_fits : Handed g r1 out
  let_in_fits = handed_fits g (join standard ws e (length r0)) r0 r1 out in_number in_words in_fits room

  pub let_in_answer : numbered_as g ≡ packed_taken (taken_of (join standard ws e (length r0)))
  let_in_answer = handed_number g (join standard ws e (length r0)) in_number

  pub let_in_output : handed_out g r1 out ≡ restored_bytes (join standard ws e (length r0)) out
  let_in_output = handed_is g (join standard ws e (length r0)) r0 r1 out in_number in_words

module _ (ws r0 r1 out : List ℕ) (g : code.Result ℕ Refusal) (a : written_in g ≡ leave_answer standard ws r0) (b : r1 ≡ leave_output standard ws r0) (room : length r0 * 2 ≤ length out) where
  go_number : written_in g ≡ taken_of (leave standard ws (length r0))
  unfolding leave_answer
  go_number = a

  go_words : r1 ≡ restored_over (leave standard ws (length r0)) r0
  unfolding leave_output
  go_words = b

  go_fits : (us : List ℕ) → leave standard ws (length r0) ≡ done us → length us ≤ length r0
  go_fits us q = sure_done_lem (leave_sure ws (length r0)) q

  pub let_go_fits : Handed g r1 out
  let_go_fits = handed_fits g (leave standard ws (length r0)) r0 r1 out go_number go_words go_fits room

  pub let_go_answer : numbered_as g ≡ packed_taken (taken_of (leave standard ws (length r0)))
  let_go_answer = handed_number g (leave standard ws (length r0)) go_number

  pub let_go_output : handed_out g r1 out ≡ restored_bytes (leave standard ws (length r0)) out
  let_go_output = handed_is g (leave standard ws (length r0)) r0 r1 out go_number go_words

-- the answers and outputs on bytes
module _ (config news out : List ℕ) where
  pub join_answer_lem : {x : Result (List ℕ)} (r : ℕ) → r ≡ packed_taken (taken_of x) → x ≡ byte_join config news (length out / 2) → r ≡ byte_join_answer config news out
  unfolding byte_join_answer
  join_answer_lem r q e = q ∙ ap (λ y. packed_taken (taken_of y)) e

  pub join_output_lem : {x : Result (List ℕ)} (last : List ℕ) → last ≡ restored_bytes x out → x ≡ byte_join config news (length out / 2) → last ≡ byte_join_output config news out
  unfolding byte_join_output
  join_output_lem last q e = q ∙ ap (λ y. restored_bytes y out) e

  long_kept : (ws : List ℕ) (a : Result Config) → admitting standard ws ≡ a → out ≡ restored_bytes (too_long standard ws) out
  unfolding too_long restored_bytes ◌>>=◌
  long_kept ws (refused f) q = rw q
  long_kept ws (done c) q = rw q

  -- a newcomer that is not read leaves the output
  pub long_output : (ws : List ℕ) → too_long standard ws ≡ byte_join config news (length out / 2) → out ≡ byte_join_output config news out
  unfolding byte_join_output
  long_output ws e = long_kept ws (admitting standard ws) refl ∙ ap (λ y. restored_bytes y out) e

module _ (config out : List ℕ) where
  pub leave_answer_lem : {x : Result (List ℕ)} (r : ℕ) → r ≡ packed_taken (taken_of x) → x ≡ byte_leave config (length out / 2) → r ≡ byte_leave_answer config out
  unfolding byte_leave_answer
  leave_answer_lem r q e = q ∙ ap (λ y. packed_taken (taken_of y)) e

  pub leave_output_lem : {x : Result (List ℕ)} (last : List ℕ) → last ≡ restored_bytes x out → x ≡ byte_leave config (length out / 2) → last ≡ byte_leave_output config out
  unfolding byte_leave_output
  leave_output_lem last q e = q ∙ ap (λ y. restored_bytes y out) e
