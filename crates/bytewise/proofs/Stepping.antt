-- The step on words with room for any result, and on the bytes' words, is the step on bytes.
-- Assumes nothing.
use Prim.Native.Nat.{ℕ, ◌*◌, ◌/◌, ◌≤◌}
use native.Mathlib.Omega.{arith}
use mathlib.Core.Path.{◌≡◌, refl, sym, ap, ◌∙◌}
use mathlib.Core.List.{List}
use lib.ListN.{length, take}
use lib.Seq.{length-take-le}
use Rattle.sock.specs.Configuration.{Limits, standard, encode, read_config}
use Rattle.sock.specs.Calls.{unreadable, Result, ◌!◌, Numbers, Stepped, step, Answer, answer_of, over, step_answer, step_output}
use Rattle.sock.specs.Bytes.{bytes_of, words_of, words_or_none, byte_step, packed, byte_answer, bytes_after, byte_output}
use Rattle.sock.proofs.Rooms.{Agree, both_refuse, both_do, one_short, bind_agrees, step_agrees, fits_room, bytes_refused, bytes_done, small_same, step_words}
use Rattle.bytewise.specs.Held.{held, packed_as, room_of}
use Rattle.bytewise.proofs.Holding.{held_short, read_as}

-- ---- the room

-- either all that a result may have, or all that the output has
pub room_either : (most bytes m : ℕ) → m ≤ most → m ≤ bytes / 2 → m ≤ room_of most bytes
room_either most bytes m h g = omega arith

pub room_below : (most bytes : ℕ) → room_of most bytes ≤ bytes / 2
room_below most bytes = omega arith

-- with scratch for every result
pub large_same : (limits : Limits) (most : ℕ) → limits.longest ≤ most → (bytes : ℕ) (ws : List ℕ) (k : Numbers) → step limits ws k (room_of most bytes) ≡ step limits ws k (bytes / 2)
large_same limits most all bytes ws k = by (step_agrees limits (room_of most bytes) (bytes / 2) (room_below most bytes) ws k)
  where
    by : {x y : Result Stepped} → Agree limits.longest (room_of most bytes) (bytes / 2) x y → x ≡ y
    by (both_refuse r) = refl
    by (both_do s h) = refl
    by (one_short s h g l) = absurd (omega (arith, room_either most bytes (length (encode s.config)) (omega (arith, h, all)) g))

-- ---- what the code makes of an answer

pub packed_as_lem : (x : Result Stepped) → packed_as (answer_of x) ≡ packed (answer_of x)
unfolding packed
packed_as_lem x = refl

-- ---- the words

step_words_in :
    (limits : Limits) (bytes ws : List ℕ) → ws ≡ words_or_none (words_of bytes) → (k : Numbers) (room : ℕ) → step limits ws k room ≡ byte_step limits bytes k room
unfolding byte_step
step_words_in limits bytes ws e k room = step_words limits ws (words_of bytes) k room (ap (read_config limits) e)

step_held :
    (limits : Limits) (most : ℕ) → limits.longest ≤ most → (bytes ws : List ℕ) → ws ≡ held most bytes → (k : Numbers) (room : ℕ) →
    step limits ws k room ≡ byte_step limits bytes k room
unfolding byte_step
step_held limits most all bytes ws e k room = step_words limits ws (words_of bytes) k room (read_as limits most all bytes ws e)

-- ---- in the code's terms

-- a part of so many words
pub part_fits : {bytes : ℕ} (room : ℕ) (l : List ℕ) → room ≤ length l → room * 2 ≤ bytes → length (take room l) * 2 ≤ bytes
part_fits room l h b = rw (length-take-le room l h) b

module _ (limits : Limits) (ws : List ℕ) (k : Numbers) (r0 out : List ℕ) (a : Answer) (p : a ≡ step_answer limits ws k r0) where
  abbrev x : Result Stepped
  x = step limits ws k (length r0)

  pub as_step : a ≡ answer_of x
  unfolding step_answer
  as_step = p

  same_number : a.number ≡ (answer_of x).number
  same_number = ap (λ (b : Answer). b.number) as_step

  same_words_lem : a.length ≡ (answer_of x).length
  same_words_lem = ap (λ (b : Answer). b.length) as_step

  pub law_refused : (a.number ≡ 0 → ⊥) → out ≡ bytes_after x out
  law_refused h = bytes_refused x (omega (arith, same_number, h)) out

  pub law_fits : a.number ≡ 0 → a.length ≤ length r0
  law_fits h =
      let f = fits_room (step_agrees limits (length r0) (length r0) (omega arith) ws k) (sym same_number ∙ h) in
      omega (arith, same_words_lem, f)

  pub law_done : a.number ≡ 0 → (r1 : List ℕ) → r1 ≡ step_output limits ws k r0 → over (bytes_of (take a.length r1)) out ≡ bytes_after x out
  unfolding step_output
  law_done h r1 q =
      ap (λ (n : ℕ). over (bytes_of (take n r1)) out) same_words_lem
      ∙ ap (λ (r : List ℕ). over (bytes_of (take (answer_of x).length r)) out) q
      ∙ bytes_done x (sym same_number ∙ h) r0 out

-- with other words that are the same, and room that is the same
module _ (limits : Limits) {ws us : List ℕ} (same-words : ws ≡ us) (k : Numbers) {m room : ℕ} (same-room : m ≡ room) where
  sized : step limits ws k m ≡ step limits us k room
  sized = ap (λ (v : List ℕ). step limits v k m) same-words ∙ ap (step limits us k) same-room

  pub sized_answer : answer_of (step limits ws k m) ≡ answer_of (step limits us k room)
  sized_answer = ap (λ (y : Result Stepped). answer_of y) sized

  pub sized_output : (out : List ℕ) → bytes_after (step limits ws k m) out ≡ bytes_after (step limits us k room) out
  sized_output out = ap (λ (y : Result Stepped). bytes_after y out) sized

-- with scratch for every result
module _ (limits : Limits) (most : ℕ) (all : limits.longest ≤ most) (bytes : List ℕ) (k : Numbers) (out : List ℕ) where
  whole : step limits (held most bytes) k (room_of most (length out)) ≡ byte_step limits bytes k (length out / 2)
  whole = large_same limits most all (length out) (held most bytes) k ∙ step_held limits most all bytes (held most bytes) refl k (length out / 2)

  pub large_answer : packed_as (answer_of (step limits (held most bytes) k (room_of most (length out)))) ≡ byte_answer limits bytes k out
  unfolding byte_answer
  large_answer = packed_as_lem (step limits (held most bytes) k (room_of most (length out))) ∙ ap (λ (y : Result Stepped). packed (answer_of y)) whole

  pub large_output : bytes_after (step limits (held most bytes) k (room_of most (length out))) out ≡ byte_output limits bytes k out
  unfolding byte_output
  large_output = ap (λ (y : Result Stepped). bytes_after y out) whole

-- a step in scratch for so many words, as the configuration has at most, and for a result of `most`, that is not refused for that
module _ (words most : ℕ) (bytes : List ℕ) (fits : length bytes ≤ words * 2) (k : Numbers) (out : List ℕ) (a : Answer)
    (q : a ≡ answer_of (step standard (held words bytes) k (room_of most (length out)))) where
  abbrev tried : Result Stepped
  tried = byte_step standard bytes k (room_of most (length out))

  tried_is : step standard (held words bytes) k (room_of most (length out)) ≡ tried
  tried_is = step_words_in standard bytes (held words bytes) (held_short words bytes fits) k (room_of most (length out))

  p : a ≡ answer_of tried
  p = q ∙ ap (λ (x : Result Stepped). answer_of x) tried_is

  agree : Agree 8192 (room_of most (length out)) (length out / 2) tried (byte_step standard bytes k (length out / 2))
  unfolding byte_step
  agree =
      let below = room_below most (length out) in
      bind_agrees standard (room_of most (length out)) (length out / 2) below (unreadable ! words_of bytes) _ _
      λ us. step_agrees standard (room_of most (length out)) (length out / 2) below us k

  its_number : a.number ≡ (answer_of tried).number
  its_number = ap (λ (b : Answer). b.number) p

  same : (a.number ≡ 10 → ⊥) → tried ≡ byte_step standard bytes k (length out / 2)
  same n = small_same agree (λ z. n (its_number ∙ z))

  pub small_answer : (a.number ≡ 10 → ⊥) → packed_as a ≡ byte_answer standard bytes k out
  unfolding byte_answer
  small_answer n = ap packed_as p ∙ packed_as_lem tried ∙ ap (λ (x : Result Stepped). packed (answer_of x)) (same n)

  pub small_output : (a.number ≡ 10 → ⊥) → bytes_after (step standard (held words bytes) k (room_of most (length out))) out ≡ byte_output standard bytes k out
  unfolding byte_output
  small_output n = ap (λ (x : Result Stepped). bytes_after x out) (tried_is ∙ same n)

  -- refused, it has changed no byte
  pub small_keeps : a.number ≡ 10 → bytes_after (step standard (held words bytes) k (room_of most (length out))) out ≡ out
  small_keeps e = ap (λ (x : Result Stepped). bytes_after x out) tried_is ∙ sym (bytes_refused tried (omega (arith, its_number, e)) out)
