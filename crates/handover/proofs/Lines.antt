-- The lines, with std's decimals.
-- Assumes nothing.
use Rattle.std.proofs.Common.{ℕ, ◌≡◌, ◌<◌, ◌^◌, [], ◌∷◌, ◌++◌, refl}
use Rattle.std.specs.Fmt as fmt
use Rattle.sock.specs.Calls.{Answer}
use Rattle.sock.specs.Bytes.{start_text, start_line, end_text, end_line, step_line}
use Rattle.handover.proofs.Decimals.{decimal_is}

pub start_is : (n : ℕ) → n < 2 ^ 64 → start_line n ≡ (115 ∷ 116 ∷ 97 ∷ 114 ∷ 116 ∷ 32 ∷ []) ++ fmt.decimal n ++ 10 ∷ []
unfolding start_line start_text
start_is n h = rw (decimal_is n h) refl

pub end_is : (n : ℕ) → n < 2 ^ 64 → end_line n ≡ (101 ∷ 110 ∷ 100 ∷ 32 ∷ []) ++ fmt.decimal n ++ 10 ∷ []
unfolding end_line end_text
end_is n h = rw (decimal_is n h) refl

pub step_is :
    (i : ℕ) (a : Answer) → i < 2 ^ 64 → a.number < 2 ^ 64 → a.kind < 2 ^ 64 → a.serial < 2 ^ 64 → a.fault < 2 ^ 64 →
    step_line i a
    ≡ fmt.decimal i ++ 32 ∷ [] ++ fmt.decimal a.number ++ 32 ∷ [] ++ fmt.decimal a.kind ++ 32 ∷ [] ++ fmt.decimal a.serial ++ 32 ∷ []
    ++ fmt.decimal a.fault
    ++ 10 ∷ []
unfolding step_line
step_is i a h n k s f =
    rw (decimal_is i h, decimal_is a.number n, decimal_is a.kind k, decimal_is a.serial s, decimal_is a.fault f) refl
