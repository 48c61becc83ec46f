-- Packed digits and whole numbers are one another's, for any count of digits; and an adder that goes digit by digit with a carry, the form
-- that a gauge uses, gives the sum.
-- Assumes nothing.
use Prim.Native.Nat.{ℕ, zero, suc, ◌+◌, ◌-◌, ◌*◌, ◌/◌, ◌%◌, ◌≤◌, ◌<◌}
use mathlib.Core.Bool.{true, ◌&&◌}
use native.Mathlib.Omega.{arith}
use native.Mathlib.Nat.{mod-lt}
use native.Mathlib.Numerals.{unary_clauses}
use mathlib.Core.Path.{◌≡◌, refl, sym, ap, ◌∙◌}
use lib.Dec.{T, ltb, ltb→lt, lt→ltb}
use lib.Arith.{mod-mul}
use lib.Ieee.Fits.{and_i, and_l, and_r}
use Rattle.sock.specs.Digits.{decimal, number_of, packed_of, power, digit_sum, digit_difference}

-- ---- a digit in front of n others, or behind them

last_digit : (r d : ℕ) → d < 16 → ((r * 16 + d) % 16 ≡ d) × ((r * 16 + d) / 16 ≡ r)
last_digit r d h = (omega arith, omega arith)

last_figure : (r d : ℕ) → d < 10 → ((r * 10 + d) % 10 ≡ d) × ((r * 10 + d) / 10 ≡ r)
last_figure r d h = (omega arith, omega arith)

-- ---- none, and one more

pub decimal_none : (n p : ℕ) → n ≡ 0 → decimal n p ≡ true
unfolding decimal
decimal_none n p e = rw e refl

pub decimal_more : (n p : ℕ) → (n ≡ 0 → ⊥) → decimal n p ≡ (ltb (p % 16) 10 && decimal (n - 1) (p / 16))
unfolding decimal
decimal_more zero p h = absurd (h refl)
decimal_more (suc n) p h = simp unary_clauses refl

pub number_none : (n p : ℕ) → n ≡ 0 → number_of n p ≡ 0
unfolding number_of
number_none n p e = rw e refl

pub number_more : (n p : ℕ) → (n ≡ 0 → ⊥) → number_of n p ≡ number_of (n - 1) (p / 16) * 10 + p % 16
unfolding number_of
number_more zero p h = absurd (h refl)
number_more (suc n) p h = simp unary_clauses refl

pub packed_none : (n v : ℕ) → n ≡ 0 → packed_of n v ≡ 0
unfolding packed_of
packed_none n v e = rw e refl

pub packed_more : (n v : ℕ) → (n ≡ 0 → ⊥) → packed_of n v ≡ packed_of (n - 1) (v / 10) * 16 + v % 10
unfolding packed_of
packed_more zero v h = absurd (h refl)
packed_more (suc n) v h = simp unary_clauses refl

-- ---- round trips

-- the digits of a number are decimal, and there are n of them
pub packed_decimal : (n v : ℕ) → T (decimal n (packed_of n v))
unfolding decimal packed_of
packed_decimal zero v = tt
packed_decimal (suc n) v =
    let l = last_digit (packed_of n (v / 10)) (v % 10) (omega arith) in
    rw (l.0, l.1) (and_i (ltb (v % 10) 10) (decimal n (packed_of n (v / 10))) (lt→ltb (v % 10) 10 (omega arith)) (packed_decimal n (v / 10)))

pub packed_below : (n v : ℕ) → packed_of n v < power 16 n
unfolding packed_of power
packed_below zero v = omega arith
packed_below (suc n) v = omega (arith, packed_below n (v / 10))

power_rises : (n m : ℕ) → n ≤ m → power 16 n ≤ power 16 m
unfolding power
power_rises zero zero h = omega arith
power_rises zero (suc m) h = omega (arith, power_rises zero m (omega arith))
power_rises (suc n) zero h = absurd (omega arith)
power_rises (suc n) (suc m) h = omega (arith, power_rises n m (omega arith))

-- seven digits leave room for one more in 32 bits
pub packed_seven : (n v : ℕ) → n ≤ 7 → packed_of n v < 268435456
unfolding power
packed_seven n v h = omega (arith, packed_below n v, power_rises n 7 h)

-- a number below 10 to the n is the number of its digits
pub number_packed : (n v : ℕ) → v < power 10 n → number_of n (packed_of n v) ≡ v
unfolding number_of packed_of power
number_packed zero v h = omega arith
number_packed (suc n) v h =
    let l = last_digit (packed_of n (v / 10)) (v % 10) (omega arith) in
    rw (l.0, l.1, number_packed n (v / 10) (omega arith)) (omega arith)

-- decimal digits are those of their number, which is below 10 to the n
abbrev first : (n p : ℕ) → T (decimal (suc n) p) → p % 16 < 10
unfolding decimal
first n p t = ltb→lt (p % 16) 10 (and_l (ltb (p % 16) 10) (decimal n (p / 16)) t)

abbrev others : (n p : ℕ) → T (decimal (suc n) p) → T (decimal n (p / 16))
unfolding decimal
others n p t = and_r (ltb (p % 16) 10) (decimal n (p / 16)) t

pub packed_number : (n p : ℕ) → T (decimal n p) → p < power 16 n → packed_of n (number_of n p) ≡ p
unfolding number_of packed_of power
packed_number zero p t h = omega arith
packed_number (suc n) p t h =
    let l = last_figure (number_of n (p / 16)) (p % 16) (first n p t) in
    rw (l.0, l.1, packed_number n (p / 16) (others n p t) (omega arith)) (omega arith)

pub number_below : (n p : ℕ) → T (decimal n p) → number_of n p < power 10 n
unfolding number_of power
number_below zero p t = omega arith
number_below (suc n) p t = omega (arith, first n p t, number_below n (p / 16) (others n p t))

-- ---- sum and difference

pub power_positive : (n : ℕ) → 0 < power 10 n
unfolding power
power_positive zero = omega arith
power_positive (suc n) = omega (arith, power_positive n)

pub sum_number : (n a b : ℕ) → number_of n (digit_sum n a b) ≡ (number_of n a + number_of n b) % power 10 n
sum_number n a b = number_packed n _ (mod-lt _ (power_positive n))

pub difference_number : (n a b : ℕ) → number_of n (digit_difference n a b) ≡ (number_of n a + power 10 n - number_of n b) % power 10 n
difference_number n a b = number_packed n _ (mod-lt _ (power_positive n))

-- ---- digit by digit

-- n digits of two numbers added from the last one on, with a carry
unfoldable pub adder : ℕ → ℕ → ℕ → ℕ → ℕ
adder zero carry a b = 0
adder (suc n) carry a b = adder n ((a % 16 + b % 16 + carry) / 10) (a / 16) (b / 16) * 16 + (a % 16 + b % 16 + carry) % 10

adder_packed : (n carry a b : ℕ) → adder n carry a b ≡ packed_of n (number_of n a + number_of n b + carry)
unfolding adder number_of packed_of
adder_packed zero carry a b = refl
adder_packed (suc n) carry a b =
    let x : ℕ = number_of n (a / 16) in
    let y : ℕ = number_of n (b / 16) in
    let s : ℕ = a % 16 + b % 16 + carry in
    let low : (x * 10 + a % 16 + (y * 10 + b % 16) + carry) % 10 ≡ s % 10 = omega arith in
    let high : (x * 10 + a % 16 + (y * 10 + b % 16) + carry) / 10 ≡ x + y + s / 10 = omega arith in
    rw (low, high, adder_packed n (s / 10) (a / 16) (b / 16)) refl

-- n digits are those of the number modulo 10 to the n
packed_modulo : (n v : ℕ) → packed_of n (v % power 10 n) ≡ packed_of n v
unfolding packed_of power
packed_modulo zero v = refl
packed_modulo (suc n) v =
    let l = last_figure (v / 10 % power 10 n) (v % 10) (omega arith) in
    let ten : 0 < 10 = omega arith in
    rw (mod-mul v (power_positive n) ten, l.0, l.1, packed_modulo n (v / 10)) refl

pub adder_sum : (n a b : ℕ) → adder n 0 a b ≡ digit_sum n a b
adder_sum n a b =
    let e : number_of n a + number_of n b + 0 ≡ number_of n a + number_of n b = omega arith in
    adder_packed n 0 a b ∙ ap (packed_of n) e ∙ sym (packed_modulo n (number_of n a + number_of n b))
