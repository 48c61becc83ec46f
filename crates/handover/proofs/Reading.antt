-- What reads and writes leave known, step by step.
-- Assumes nothing.
use Rattle.std.proofs.Common.{ℕ, ◌≡◌, ◌<◌, ◌≤◌, List, [], ◌++◌, Option, None, Some, Result, Ok, Err, IfSome, OnOk, refl, sym, ap, ◌∙◌, arith, append-nil, length, length-take-le, take, drop, drop_at, subst}
use Rattle.std.proofs.lemmas.List.{take_at, drop_all}
use native.Mathlib.Decide.{dec_lt}
use lib.Seq.{take_all}
use Rattle.std.specs.Io.KnownBytes.{Consumes, IsAtEnd}

-- what is to be shown of the bytes that are known
pub known : {A : Type 0} {P : A → Type 0} (o : Option A) → ((x : A) → o ≡ Some x → P x) → IfSome o P
known None f = tt
known (Some x) f = f x refl

-- what holds of the bytes that are known where all is written well
pub completed :
    {T E Q : Type 0} (r : Result T E) (input : Option (List ℕ)) (P : List ℕ → Type 0) → ((bytes : List ℕ) → input ≡ Some bytes → Q → P bytes) → OnOk r Q →
    OnOk r (IfSome input P)
completed (Ok x) input P f h = known input (λ bytes e. f bytes e h)
completed (Err e) input P f h = tt

-- a read of up to n bytes gave the first n, or all that were left
pub record Reads (n : ℕ) (bytes got : List ℕ) (left : Option (List ℕ)) : Type 0 where
  pub front : got ≡ take n bytes
  pub rest : left ≡ Some (drop n bytes)

reads_some : (n m : ℕ) (bytes buf rest : List ℕ) → length buf ≡ n → m ≤ n → (m < n → rest ≡ []) → bytes ≡ take m buf ++ rest → Dec (m < n) → Reads n bytes (take m buf) (Some rest)
reads_some n m bytes buf rest l h ends e (yes s) =
    let whole : bytes ≡ take m buf = e ∙ ap (λ t. take m buf ++ t) (ends s) ∙ append-nil (take m buf) in
    let size : length (take m buf) ≡ m = length-take-le m buf (omega arith) in
    let short : length bytes ≤ n = omega (arith, ap length whole) in
    record { front = sym (take_all n bytes short ∙ whole); rest = ap Some (ends s ∙ sym (drop_all n bytes short)) }
reads_some n m bytes buf rest l h ends e (no s) =
    let size : length (take m buf) ≡ m = length-take-le m buf (omega arith) in
    let all : length (take m buf) ≡ n = omega (arith, size) in
    record { front = sym (ap (take n) e ∙ take_at (take m buf) rest n all); rest = ap Some (sym (ap (drop n) e ∙ drop_at (take m buf) rest n all)) }

pub reads :
    (n m : ℕ) (bytes buf : List ℕ) (old left : Option (List ℕ)) → length buf ≡ n → m ≤ n → old ≡ Some bytes → Consumes old left (take m buf) →
    (m < n → IsAtEnd left) → Reads n bytes (take m buf) left
reads n m bytes buf old left l h e c ends = by left (subst (λ o. Consumes o left (take m buf)) e c) ends
  where
    by : (left : Option (List ℕ)) → Consumes (Some bytes) left (take m buf) → (m < n → IsAtEnd left) → Reads n bytes (take m buf) left
    by None c ends = absurd c
    by (Some rest) c ends = reads_some n m bytes buf rest l h ends c (dec_lt m n)
