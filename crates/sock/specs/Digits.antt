-- Packed decimal digits (document 02, d): n digits of four bits each, the most significant first, and the numbers that they stand for.
use Rattle.std.specs.Prelude.{ℕ, zero, suc, ◌+◌, ◌-◌, ◌*◌, ◌/◌, ◌%◌, Bool, true, ◌&&◌, ltb}

-- No digit is above 9
unfoldable pub decimal : ℕ → ℕ → Bool
decimal zero p = true
decimal (suc n) p = ltb (p % 16) 10 && decimal n (p / 16)

-- The number of n digits, and the n digits of a number
unfoldable pub number_of : ℕ → ℕ → ℕ
number_of zero p = 0
number_of (suc n) p = number_of n (p / 16) * 10 + p % 16

unfoldable pub packed_of : ℕ → ℕ → ℕ
packed_of zero v = 0
packed_of (suc n) v = packed_of n (v / 10) * 16 + v % 10

-- How many numbers have n digits in a base
unfoldable pub power : ℕ → ℕ → ℕ
power b zero = 1
power b (suc n) = power b n * b

-- Sum and difference of n packed digits, modulo 10 to the n
abbrev pub digit_sum : ℕ → ℕ → ℕ → ℕ
digit_sum n a b = packed_of n ((number_of n a + number_of n b) % power 10 n)

abbrev pub digit_difference : ℕ → ℕ → ℕ → ℕ
digit_difference n a b = packed_of n ((number_of n a + power 10 n - number_of n b) % power 10 n)
