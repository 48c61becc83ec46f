-- Translating on words in scratch, with the bytes' words, is translating on bytes.
-- Assumes nothing.
use Prim.Native.Nat.{ℕ, ◌+◌, ◌*◌, ◌/◌, ◌≤◌, ◌<◌}
use native.Mathlib.Omega.{arith}
use mathlib.Core.Path.{◌≡◌, refl, sym, ap, subst, ◌∙◌}
use mathlib.Core.Bool.{Bool, true, false, not, cond}
use mathlib.Core.Option.{Option, none, some}
use mathlib.Core.List.{List, [], ◌∷◌}
use lib.Dec.{T, leb, ltb, leb→le}
use lib.ListN.{length, take, drop, length-append}
use lib.Seq.{take_at}
use borrow.Author.Tests.{leb-true, lt-leb, ltb-true, eqb-false}
use Rattle.sock.specs.Configuration.{Config, standard, encode, engines_depth, guarded, read_config, fresh}
use Rattle.sock.specs.Calls.{unreadable, not_fresh, deep, long, short, over, start}
use Rattle.sock.specs.Bytes.{bytes_of, words_of, words_or_none, packed_taken}
use Rattle.sock.specs.Journal.{Taken}
use Rattle.std.specs.Prelude as code
use Rattle.std.specs.Prelude.{Ok, Err, IfOk}
use Rattle.sock.proofs.Logic.{All, all_none, all_some, all_also}
use Rattle.bytewise.specs.Held.{held, room_of}
use Rattle.planning.specs.Plan.{plan_words, read_plan}
use Rattle.planning.specs.Translation.{translated, stand_in, engines_captured}
use Rattle.planning.specs.Call.{Refusal, Result, refused, done, plain, fixed_ch, number, ◌>>=◌, ◌>>◌, ◌!◌, ◌unless◌, from, beyond, translate, answer_of, output_of, translate_answer, translate_output}
use Rattle.planning.specs.Bytes.{byte_translate, translated_bytes, byte_translate_answer, byte_translate_output}
use Rattle.planning.specs.declared.refusal.Refusal.{Refusal as Refusing}
use Rattle.planning.specs.Answers.{translated_in}
use Rattle.planning.proofs.Answers.{refusal_some, some_number}
use Rattle.cabinet.proofs.Journaling.{leb_room}

-- ---- what is handed out

abbrev handed_out : code.Result ℕ Refusing → List ℕ → List ℕ → List ℕ
handed_out (Ok n) result out = over (bytes_of (take n result)) out
handed_out (Err r) result out = out

abbrev Handed : code.Result ℕ Refusing → List ℕ → List ℕ → Type 0
Handed g r1 out = IfOk g (λ n. (n ≤ length r1) × (n * 2 ≤ length out))

none_refused : (n : ℕ) (f : Refusal) → translated_in (Ok n) ≡ answer_of (refused f) → ⊥
unfolding answer_of
none_refused n f a = eqb-false (number f) 0 (refusal_some f) (sym (ap (λ (t : Taken). t.number) a))

some_refused : (r : Refusing) (t : Config) → translated_in (Err r) ≡ answer_of (done t) → ⊥
unfolding answer_of
some_refused r t a = some_number r (ap (λ (t : Taken). t.number) a)

handed_fits :
    (g : code.Result ℕ Refusing) (x : Result Config) (r0 r1 out : List ℕ) → translated_in g ≡ answer_of x → r1 ≡ output_of x r0 →
    ((t : Config) → x ≡ done t → length (encode t) ≤ length r0) → length r0 * 2 ≤ length out → Handed g r1 out
unfolding answer_of output_of
handed_fits (Err r) x r0 r1 out a b fits room = tt
handed_fits (Ok n) (refused f) r0 r1 out a b fits room = absurd (none_refused n f a)
handed_fits (Ok n) (done t) r0 r1 out a b fits room =
    let us : List ℕ = encode t in
    let long : n ≡ length us = ap (λ (t : Taken). t.length) a in
    let laid : length r1 ≡ length us + length (drop (length us) r0) = ap length b ∙ length-append us (drop (length us) r0) in
    (omega arith, omega (arith, fits t refl))

handed_is :
    (g : code.Result ℕ Refusing) (x : Result Config) (r0 r1 out : List ℕ) → translated_in g ≡ answer_of x → r1 ≡ output_of x r0 →
    handed_out g r1 out ≡ translated_bytes x out
unfolding answer_of output_of translated_bytes
handed_is (Err r) (refused f) r0 r1 out a b = refl
handed_is (Err r) (done t) r0 r1 out a b = absurd (some_refused r t a)
handed_is (Ok n) (refused f) r0 r1 out a b = absurd (none_refused n f a)
handed_is (Ok n) (done t) r0 r1 out a b =
    let us : List ℕ = encode t in
    let m : n ≡ length us = ap (λ (t : Taken). t.length) a in
    rw (m, b, take_at us (drop (length us) r0) (length us) refl)

-- ---- what holds of a result, if it is no refusal

data Sure {A : Type 0} (P : A → Type 0) : Result A → Type 0 where
  sure_refused : {r : Refusal} → Sure P (refused r)
  sure_done : {a : A} → P a → Sure P (done a)

sure_any : {A : Type 0} (r : Result A) → Sure (λ a. Unit {0}) r
sure_any (refused f) = sure_refused
sure_any (done a) = sure_done tt

sure_then : {A B : Type 0} {P : A → Type 0} {Q : B → Type 0} {r : Result A} {k : A → Result B} → Sure P r → ((a : A) → P a → Sure Q (k a)) → Sure Q (r >>= k)
unfolding ◌>>=◌
sure_then sure_refused f = sure_refused
sure_then (sure_done {a = a} h) f = f a h

sure_unless : {A : Type 0} {P : A → Type 0} (r : Refusal) (b : Bool) {k : Result A} → (T b → Sure P k) → Sure P (◌>>◌ (r unless b) k)
unfolding ◌unless◌ ◌>>◌
sure_unless r true f = f tt
sure_unless r false f = sure_refused

abbrev Done : {A : Type 0} → (A → Type 0) → Result A → Type 0
Done P (refused r) = Unit {0}
Done P (done a) = P a

done_sure : {A : Type 0} {P : A → Type 0} {r : Result A} → Sure P r → Done P r
done_sure sure_refused = tt
done_sure (sure_done h) = h

sure_done_lem : {A : Type 0} {P : A → Type 0} {r : Result A} {a : A} → Sure P r → r ≡ done a → P a
sure_done_lem {P = P} h e = subst (λ r. Done P r) e (done_sure h)

-- ---- the rooms

-- the translated start by its length and the output's room
abbrev fitting : ℕ → Config → Result Config
fitting room t = ◌>>◌ (plain long unless leb (length (encode t)) 8192) (◌>>◌ (plain short unless leb (length (encode t)) room) (done t))

module _ (ws : List ℕ) where
  abbrev translating : (Config → Result Config) → Result Config
  translating k =
      unreadable ! read_plan standard ws >>= λ p.
      unreadable ! read_config beyond (plan_words (stand_in p)) >>= λ c.
      ◌>>◌ (fixed_ch unless not (engines_captured p.engines))
      (◌>>◌ (plain not_fresh unless fresh c)
      (from (start beyond (plan_words (translated p))) >>= λ t. ◌>>◌ (plain deep unless leb (engines_depth t.engines) 64) (k t)))

  translates : (room : ℕ) → translate standard ws room ≡ translating (fitting room)
  unfolding translate
  translates room = refl

  fitting_room : (bytes : ℕ) (t : Config) → fitting (room_of 8192 bytes) t ≡ fitting (bytes / 2) t
  unfolding ◌>>◌ ◌unless◌
  fitting_room bytes t = by (leb (length (encode t)) 8192) refl
    where
      by : (b : Bool) → leb (length (encode t)) 8192 ≡ b →
          ◌>>◌ (plain long unless b) (◌>>◌ (plain short unless leb (length (encode t)) (room_of 8192 bytes)) (done t))
          ≡ ◌>>◌ (plain long unless b) (◌>>◌ (plain short unless leb (length (encode t)) (bytes / 2)) (done t))
      by true q = ap (λ s. ◌>>◌ (plain short unless s) (done t)) (leb_room 8192 bytes (length (encode t)) (leb-true (length (encode t)) 8192 q))
      by false q = refl

  translate_room : (bytes : ℕ) → translate standard ws (room_of 8192 bytes) ≡ translate standard ws (bytes / 2)
  translate_room bytes = translates (room_of 8192 bytes) ∙ ap translating (λ i t. fitting_room bytes t i) ∙ sym (translates (bytes / 2))

  -- what is given fits
  translate_fits : (room : ℕ) (t : Config) → translate standard ws room ≡ done t → length (encode t) ≤ room
  translate_fits room t e =
      sure_done_lem
      (sure_then (sure_any (unreadable ! read_plan standard ws)) λ p q.
      sure_then (sure_any (unreadable ! read_config beyond (plan_words (stand_in p)))) λ c q.
      sure_unless fixed_ch (not (engines_captured p.engines)) λ u.
      sure_unless (plain not_fresh) (fresh c) λ u.
      sure_then (sure_any (from (start beyond (plan_words (translated p))))) λ t q.
      sure_unless (plain deep) (leb (engines_depth t.engines) 64) λ u.
      sure_unless (plain long) (leb (length (encode t)) 8192) λ u.
      sure_unless (plain short) (leb (length (encode t)) room) λ u.
      sure_done (leb→le (length (encode t)) room u))
      (sym (translates room) ∙ e)

-- ---- the words that are held

plan_none : (us : List ℕ) → 8192 < length us → read_plan standard us ≡ none
unfolding read_plan guarded
plan_none [] h = absurd (omega arith)
plan_none (n ∷ []) h = absurd (omega arith)
plan_none (n ∷ issued ∷ us) h = rw (lt-leb (length (n ∷ issued ∷ us)) 8192 h)

no_words : read_plan standard [] ≡ none
unfolding read_plan
no_words = refl

word_count : (bytes : List ℕ) → All (λ us. length us * 2 ≡ length bytes) (words_of bytes)
unfolding words_of
word_count [] = all_some refl
word_count (h ∷ []) = all_none
word_count (h ∷ l ∷ bytes) = all_also (word_count bytes) λ us q. all_some (omega (arith, q))

long_unread : (bytes : List ℕ) {o : Option (List ℕ)} → All (λ us. length us * 2 ≡ length bytes) o → 16384 < length bytes → read_plan standard (words_or_none o) ≡ none
unfolding words_or_none
long_unread bytes all_none h = no_words
long_unread bytes (all_some {a = us} q) h = plan_none us (omega (arith, q))

unread : (room : ℕ) → translate standard [] room ≡ refused (plain unreadable)
unfolding translate ◌!◌ ◌>>=◌
unread room = rw no_words

translate_as : (us vs : List ℕ) (room : ℕ) → read_plan standard us ≡ read_plan standard vs → translate standard us room ≡ translate standard vs room
unfolding translate
translate_as us vs room e = rw e

module _ (config ws : List ℕ) (h : ws ≡ held 8192 config) (out : List ℕ) (m : ℕ) (room : m ≡ room_of 8192 (length out)) where
  plan_held : read_plan standard (held 8192 config) ≡ read_plan standard (words_or_none (words_of config))
  unfolding held
  plan_held = by (ltb 16384 (length config)) refl
    where
      by : (b : Bool) → ltb 16384 (length config) ≡ b → read_plan standard (cond b [] (words_or_none (words_of config))) ≡ read_plan standard (words_or_none (words_of config))
      by true e = no_words ∙ sym (long_unread config (word_count config) (ltb-true 16384 (length config) e))
      by false e = refl

  pub translate_bytes : translate standard ws m ≡ byte_translate config (length out / 2)
  unfolding byte_translate words_or_none ◌>>=◌ ◌!◌
  translate_bytes =
      ap (translate standard ws) room
      ∙ translate_room ws (length out)
      ∙ translate_as ws (words_or_none (words_of config)) (length out / 2) (ap (read_plan standard) h ∙ plan_held)
      ∙ by (words_of config)
    where
      by : (o : Option (List ℕ)) → translate standard (words_or_none o) (length out / 2) ≡ (unreadable ! o >>= λ us. translate standard us (length out / 2))
      by none = unread (length out / 2)
      by (some us) = refl

-- ---- what the code knows

module _ (ws r0 r1 out : List ℕ) (g : code.Result ℕ Refusing) (a : translated_in g ≡ translate_answer standard ws r0) (b : r1 ≡ translate_output standard ws r0) (room : length r0 * 2 ≤ length out) where
  pub number_is : translated_in g ≡ answer_of (translate standard ws (length r0))
  unfolding translate_answer
  number_is = a

  words_are : r1 ≡ output_of (translate standard ws (length r0)) r0
  unfolding translate_output
  words_are = b

  pub translated_fits : Handed g r1 out
  translated_fits = handed_fits g (translate standard ws (length r0)) r0 r1 out number_is words_are (translate_fits ws (length r0)) room

  pub translated_output : handed_out g r1 out ≡ translated_bytes (translate standard ws (length r0)) out
  translated_output = handed_is g (translate standard ws (length r0)) r0 r1 out number_is words_are

module _ (config out : List ℕ) where
  pub translate_answer_lem : {y : Result Config} (r : ℕ) → r ≡ packed_taken (answer_of y) → y ≡ byte_translate config (length out / 2) → r ≡ byte_translate_answer config out
  unfolding byte_translate_answer
  translate_answer_lem r q e = q ∙ ap (λ y. packed_taken (answer_of y)) e

  pub translate_output_lem : {y : Result Config} (last : List ℕ) → last ≡ translated_bytes y out → y ≡ byte_translate config (length out / 2) → last ≡ byte_translate_output config out
  unfolding byte_translate_output
  translate_output_lem last q e = q ∙ ap (λ y. translated_bytes y out) e
