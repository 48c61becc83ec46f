-- A step in two rooms: what a larger output changes is only whether the result is refused as too long for it. And what an accepted or a
-- refused step leaves of an output of bytes.
-- Assumes nothing.
use Prim.Native.Nat.{ℕ, ◌≤◌, ◌<◌}
use native.Mathlib.Omega.{arith}
use mathlib.Core.Path.{◌≡◌, refl, ap, ◌∙◌}
use mathlib.Core.Bool.{Bool, true, false}
use mathlib.Core.Option.{Option, none, some}
use mathlib.Core.List.{List, []}
use lib.Dec.{leb}
use lib.ListN.{length, take, drop}
use lib.Seq.{take-append_seam}
use borrow.Author.Tests.{leb-true, leb-false, eqb-false}
use Rattle.sock.specs.Configuration.{Limits, encode, read_config}
use Rattle.sock.specs.Calls.{Refusal, unreadable, long, short, number, Result, refused, done, ◌>>=◌, ◌>>◌, ◌!◌, ◌unless◌, Numbers, Stepped, step, answer_of, over, output_of}
use Rattle.sock.specs.Bytes.{bytes_of, words_or_none, bytes_after}
use Rattle.sock.proofs.Taken.{limited}
use Rattle.sock.proofs.Related.{bind_related, then_related, step_related}
use Rattle.sock.proofs.Accepted.{number_positive}

-- ---- two rooms

-- the same refusal, the same result and it fits, or a result that fits only the larger room
pub data Agree (longest room half : ℕ) : Result Stepped → Result Stepped → Type 0 where
  both_refuse : (r : Refusal) → Agree longest room half (refused r) (refused r)
  both_do : (s : Stepped) → length (encode s.config) ≤ room → Agree longest room half (done s) (done s)
  one_short :
      (s : Stepped) → length (encode s.config) ≤ longest → length (encode s.config) ≤ half → room < length (encode s.config) →
      Agree longest room half (refused short) (done s)

module _ (limits : Limits) (room half : ℕ) (below : room ≤ half) where
  pub bind_agrees :
      {A : Type 0} (r : Result A) (k l : A → Result Stepped) → ((a : A) → Agree limits.longest room half (k a) (l a)) → Agree limits.longest room half (r >>= k) (r >>= l)
  bind_agrees = bind_related (Agree limits.longest room half) both_refuse

  then_agrees : (r : Result (Unit {0})) (k l : Result Stepped) → Agree limits.longest room half k l → Agree limits.longest room half (◌>>◌ r k) (◌>>◌ r l)
  then_agrees = then_related (Agree limits.longest room half) both_refuse

  short_agrees :
      (s : Stepped) → length (encode s.config) ≤ limits.longest → (b c : Bool) → leb (length (encode s.config)) room ≡ b →
      leb (length (encode s.config)) half ≡ c → Agree limits.longest room half (◌>>◌ (short unless b) (done s)) (◌>>◌ (short unless c) (done s))
  unfolding ◌>>◌ ◌unless◌
  short_agrees s h true true p q = both_do s (leb-true (length (encode s.config)) room p)
  short_agrees s h true false p q =
      absurd (omega (arith, below, leb-true (length (encode s.config)) room p, leb-false (length (encode s.config)) half q))
  short_agrees s h false true p q =
      one_short s h (leb-true (length (encode s.config)) half q) (leb-false (length (encode s.config)) room p)
  short_agrees s h false false p q = both_refuse short

  long_refuses :
      (s : Stepped) →
      Agree limits.longest room half (◌>>◌ (long unless false) (◌>>◌ (short unless leb (length (encode s.config)) room) (done s)))
      (◌>>◌ (long unless false) (◌>>◌ (short unless leb (length (encode s.config)) half) (done s)))
  unfolding ◌>>◌ ◌unless◌
  long_refuses s = both_refuse long

  long_agrees :
      (s : Stepped) (b : Bool) → leb (length (encode s.config)) limits.longest ≡ b →
      Agree limits.longest room half (◌>>◌ (long unless b) (◌>>◌ (short unless leb (length (encode s.config)) room) (done s)))
      (◌>>◌ (long unless b) (◌>>◌ (short unless leb (length (encode s.config)) half) (done s)))
  long_agrees s true p =
      then_agrees _ _ _
      (short_agrees s (leb-true (length (encode s.config)) limits.longest p) (leb (length (encode s.config)) room)
      (leb (length (encode s.config)) half) refl refl)
  long_agrees s false p = long_refuses s

  pub step_agrees : (ws : List ℕ) (k : Numbers) → Agree limits.longest room half (step limits ws k room) (step limits ws k half)
  unfolding limited
  step_agrees ws k =
      step_related (Agree limits.longest room half) both_refuse limits limits ws k room half refl λ s.
      then_agrees _ _ _ (then_agrees _ _ _ (long_agrees s _ refl))

-- ---- what is left of an output

pub refusal_number : (r : Refusal) → 0 < number r
refusal_number r = omega (arith, eqb-false (number r) 0 (number_positive r))

pub fits_room : {longest room half : ℕ} {x y : Result Stepped} → Agree longest room half x y → (answer_of x).number ≡ 0 → (answer_of x).length ≤ room
unfolding answer_of
fits_room (both_refuse r) e = omega arith
fits_room (both_do s h) e = h
fits_room (one_short s h g l) e = absurd (omega (arith, e))

pub bytes_refused : (x : Result Stepped) → 0 < (answer_of x).number → (out : List ℕ) → out ≡ bytes_after x out
unfolding answer_of bytes_after
bytes_refused (refused r) e out = refl
bytes_refused (done s) e out = absurd (omega (arith, e))

pub bytes_done :
    (x : Result Stepped) → (answer_of x).number ≡ 0 → (o out : List ℕ) →
    over (bytes_of (take (answer_of x).length (output_of x o))) out ≡ bytes_after x out
unfolding answer_of bytes_after output_of
bytes_done (refused r) e o out = absurd (omega (arith, e, refusal_number r))
bytes_done (done s) e o out =
    ap (λ (u : List ℕ). over (bytes_of u) out) (take-append_seam (encode s.config) (drop (length (encode s.config)) o))

-- unless it is for the shorter room, an answer is the larger one's
pub small_same :
    {longest room half : ℕ} {x y : Result Stepped} → Agree longest room half x y → ((answer_of x).number ≡ 10 → ⊥) → x ≡ y
unfolding answer_of
small_same (both_refuse r) n = refl
small_same (both_do s h) n = refl
small_same (one_short s h g l) n = absurd (n refl)

-- ---- the words

step_read : (limits : Limits) (ws us : List ℕ) (k : Numbers) (room : ℕ) → read_config limits ws ≡ read_config limits us → step limits ws k room ≡ step limits us k room
unfolding step
step_read limits ws us k room e = rw e refl

step_none : (limits : Limits) (k : Numbers) (room : ℕ) → step limits [] k room ≡ refused unreadable
unfolding step read_config ◌!◌ ◌>>=◌
step_none limits k room = refl

pub step_words : (limits : Limits) (ws : List ℕ) (o : Option (List ℕ)) (k : Numbers) (room : ℕ) → read_config limits ws ≡ read_config limits (words_or_none o) → step limits ws k room ≡ ((unreadable ! o) >>= λ us. step limits us k room)
unfolding words_or_none ◌!◌ ◌>>=◌
step_words limits ws none k room e = step_read limits ws [] k room e ∙ step_none limits k room
step_words limits ws (some us) k room e = step_read limits ws us k room e
