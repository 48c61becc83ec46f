-- Std's decimal is the definitions'.
-- Assumes nothing.
use Rattle.std.proofs.Common.{ℕ, suc, length, sym, ◌≡◌, ◌+◌, ◌<◌, ◌≤◌, ◌/◌, ◌%◌, ◌^◌, List, [], ◌∷◌, ◌∙◌, arith, append-nil, refl}
use Rattle.std.specs.Fmt as fmt
use Rattle.std.proofs.lemmas.Fmt.{PrependsLastDigit, decimal_from_prepends, length-decimal-le_succ}
use borrow.Author.Tests.{lt-ltb, le-ltb}
use Rattle.sock.specs.Bytes.{digits, decimal}

last_digit : (fuel n : ℕ) (text : List ℕ) → n < 10 → digits (suc fuel) n text ≡ (48 + n) ∷ text
unfolding digits
last_digit fuel n text h = rw (lt-ltb n 10 h, digits) refl

next_digit : (fuel n : ℕ) (text : List ℕ) → 10 ≤ n → digits (suc fuel) n text ≡ digits fuel (n / 10) ((48 + n % 10) ∷ text)
unfolding digits
next_digit fuel n text h = rw (le-ltb n 10 h, digits) refl

pub decimal_is : (n : ℕ) → n < 2 ^ 64 → fmt.decimal n ≡ decimal n
unfolding decimal
decimal_is n small =
    let prepends : PrependsLastDigit digits = record { one = last_digit; more = next_digit } in
    let enough : length (fmt.decimal n) ≤ suc n = omega (arith, length-decimal-le_succ n small) in
    sym (decimal_from_prepends digits prepends (suc n) n [] small enough ∙ append-nil (fmt.decimal n))
