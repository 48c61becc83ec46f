-- Digits put one before another into a text, the last first, are the definitions' decimal. Also for readers: the kit's `itoa` writes the digits,
-- and no proof of code cites these.
-- Assumes nothing.
use Prim.Native.Nat.{ℕ, zero, suc, ◌+◌, ◌-◌, ◌*◌, ◌/◌, ◌%◌, ◌^◌, ◌≤◌, ◌<◌}
use native.Mathlib.Omega.{arith}
use native.Mathlib.Decide.{dec_le}
use native.Mathlib.Nat.{pow-suc}
use mathlib.Core.Path.{◌≡◌, refl, sym, ap, ◌∙◌, subst}
use mathlib.Core.List.{List, [], ◌∷◌}
use lib.ListN.{length, set, drop}
use borrow.Author.Tests.{lt-ltb, le-ltb}
use Rattle.std.proofs.lemmas.List.{drop-set, drop_all}
use Rattle.sock.specs.Bytes.{digits, decimal}

last_digit : (fuel n : ℕ) (text : List ℕ) → n < 10 → digits (suc fuel) n text ≡ (48 + n) ∷ text
unfolding digits
last_digit fuel n text h = rw (lt-ltb n 10 h, digits) refl

next_digit : (fuel n : ℕ) (text : List ℕ) → 10 ≤ n → digits (suc fuel) n text ≡ digits fuel (n / 10) ((48 + n % 10) ∷ text)
unfolding digits
next_digit fuel n text h = rw (le-ltb n 10 h, digits) refl

-- fuel above the number is enough
enough : (f g n : ℕ) (text : List ℕ) → n < f → n < g → digits f n text ≡ digits g n text
enough zero g n text a b = absurd (omega (arith, a))
enough (suc f) zero n text a b = absurd (omega (arith, b))
enough (suc f) (suc g) n text a b =
    by (dec_le 10 n) (λ h. enough f g (n / 10) ((48 + n % 10) ∷ text) (omega (arith, a, h)) (omega (arith, b, h)))
  where
    by : Dec (10 ≤ n) → (10 ≤ n → digits f (n / 10) ((48 + n % 10) ∷ text) ≡ digits g (n / 10) ((48 + n % 10) ∷ text)) → digits (suc f) n text ≡ digits (suc g) n text
    by (yes h) rest = next_digit f n text h ∙ rest h ∙ sym (next_digit g n text h)
    by (no h) rest = let l : n < 10 = omega (arith, h) in last_digit f n text l ∙ sym (last_digit g n text l)

-- one place less is left for what is left
pub place_turn : (n at : ℕ) → 9 < n → n < 10 ^ (at + 1) → (0 < at) × (n / 10 < 10 ^ (at - 1 + 1))
place_turn n zero h b = absurd (omega (arith, h, b, pow-suc 10 0))
place_turn n (suc at) h b =
    let p : 10 ^ suc (suc at) ≡ 10 ^ suc at * 10 = pow-suc 10 (suc at) in
    let s : suc at + 1 ≡ suc (suc at) = omega arith in
    let t : suc at - 1 + 1 ≡ suc at = omega arith in
    let q : n < 10 ^ suc at * 10 = subst (λ (m : ℕ). n < m) (ap (λ (m : ℕ). 10 ^ m) s ∙ p) b in
    (omega arith, subst (λ (m : ℕ). n / 10 < 10 ^ m) (sym t) (omega (arith, q)))

-- one more digit is written
pub digit_turn :
    (n at : ℕ) (text all : List ℕ) → 9 < n → at < length text → digits (n + 1) n (drop (at + 1) text) ≡ all →
    digits (n / 10 + 1) (n / 10) (drop at (set text at (48 + n % 10))) ≡ all
digit_turn n at text all h inside e =
    let one : n + 1 ≡ suc n = omega arith in
    ap (λ (l : List ℕ). digits (n / 10 + 1) (n / 10) l) (drop-set text at (48 + n % 10) inside)
    ∙ enough (n / 10 + 1) n (n / 10) ((48 + n % 10) ∷ drop (at + 1) text) (omega arith) (omega arith)
    ∙ sym (next_digit n n (drop (at + 1) text) (omega arith))
    ∙ ap (λ (f : ℕ). digits f n (drop (at + 1) text)) (sym one)
    ∙ e

-- the first digit is written
pub digit_last :
    (n at : ℕ) (text all : List ℕ) → n ≤ 9 → at < length text → digits (n + 1) n (drop (at + 1) text) ≡ all → drop at (set text at (48 + n)) ≡ all
digit_last n at text all h inside e =
    let one : n + 1 ≡ suc n = omega arith in
    drop-set text at (48 + n) inside
    ∙ sym (last_digit n n (drop (at + 1) text) (omega arith))
    ∙ ap (λ (f : ℕ). digits f n (drop (at + 1) text)) (sym one)
    ∙ e

-- nothing is written
pub digit_none : (n at : ℕ) (text : List ℕ) → length text ≤ at → digits (n + 1) n (drop at text) ≡ decimal n
unfolding decimal
digit_none n at text h =
    let one : n + 1 ≡ suc n = omega arith in
    ap (λ (l : List ℕ). digits (n + 1) n l) (drop_all at text h) ∙ ap (λ (f : ℕ). digits f n []) one
