-- Contexts as numbers: those of a node's parts, and the test of a head by its context's mask, which is the definitions' test.
-- Assumes nothing.
use Prim.Native.Nat.{ℕ, zero, suc, ◌+◌, ◌*◌, ◌-◌, ◌/◌, ◌%◌, ◌^◌, ◌<◌}
use native.Mathlib.Omega.{arith}
use native.Mathlib.Nat.{add-mul-mod_self_left}
use mathlib.Core.Path.{◌≡◌, refl}
use mathlib.Core.Bool.{Bool, true, false, not, ◌&&◌, cond}
use lib.Bits.{bit_and, and_mask}
use lib.Dec.{T, leb, ltb, eqb, lit<}
use borrow.Author.Tests.{ne_eqb, lt-ltb, le-ltb}
use Rattle.sock.specs.Kind
use Rattle.sock.specs.Kind.{rows, row_of}
use Rattle.sock.specs.Words.{clear, kind_of}
use Rattle.sock.specs.Reading.{Stratum, running, code, Place, anywhere, not_nil, guard, root, allowed, placed}
use Rattle.sock.proofs.Fields.{From, end, ◌then◌, fact_at}
use Rattle.sock.proofs.Logic.{and_left, cond-case}
use Rattle.sock.proofs.Reading.{tests}
use Rattle.reading.specs.Tables.{stratum_of, place_of, spare_of, head_mask}
use Rattle.reading.specs.Walk.{context_of, rest_of}

abbrev pub stratum_number : Stratum → ℕ
stratum_number (code false) = 0
stratum_number (code true) = 1
stratum_number (running n issued) = 2

abbrev place_number : Place → ℕ
place_number anywhere = 0
place_number not_nil = 1
place_number guard = 2
place_number root = 3

-- the number of the context that a stratum and a place are
unfoldable pub number_of : Stratum → Place → ℕ
number_of s p = stratum_number s * 4 + place_number p

place_below : (p : Place) → place_number p < 4
place_below anywhere = lit< tt
place_below not_nil = lit< tt
place_below guard = lit< tt
place_below root = lit< tt

-- what a number below 12 stands for has that number
pub context_back : (n issued c : ℕ) → c < 12 → number_of (stratum_of n issued (c / 4)) (place_of (c % 4)) ≡ c
unfolding number_of
context_back n issued c h = let e = over (c / 4) (omega arith) in let f = below (c % 4) (omega arith) in omega arith
  where
    over : (x : ℕ) → x < 3 → stratum_number (stratum_of n issued x) ≡ x
    over zero h = refl
    over (suc zero) h = refl
    over (suc (suc zero)) h = refl
    over (suc (suc (suc x))) h = absurd (omega arith)

    below : (x : ℕ) → x < 4 → place_number (place_of x) ≡ x
    below zero h = refl
    below (suc zero) h = refl
    below (suc (suc zero)) h = refl
    below (suc (suc (suc zero))) h = refl
    below (suc (suc (suc (suc x)))) h = absurd (omega arith)

-- ---- the contexts of parts

-- the stratum of a part that is code in any case, whatever its node
abbrev pub code_of : Stratum → Stratum
code_of (code c) = code c
code_of (running n issued) = code false

module _ (s : Stratum) (p : Place) where
  pub same_context : context_of (number_of s p) ≡ number_of s anywhere
  unfolding number_of
  same_context = omega (arith, place_below p)

  pub next_context : context_of (number_of s p) + 1 ≡ number_of s not_nil
  unfolding number_of
  next_context = omega (arith, place_below p)

pub rest_context : (s : Stratum) (p : Place) → rest_of (number_of s p) ≡ number_of (code_of s) anywhere
unfolding number_of rest_of
rest_context (code false) anywhere = refl
rest_context (code false) not_nil = refl
rest_context (code false) guard = refl
rest_context (code false) root = refl
rest_context (code true) anywhere = refl
rest_context (code true) not_nil = refl
rest_context (code true) guard = refl
rest_context (code true) root = refl
rest_context (running n issued) anywhere = refl
rest_context (running n issued) not_nil = refl
rest_context (running n issued) guard = refl
rest_context (running n issued) root = refl

pub guard_context : (s : Stratum) → number_of s anywhere + 2 ≡ number_of s guard
unfolding number_of
guard_context s = omega arith

-- which contexts are code
pub code_context : (c : Bool) (p : Place) → ltb (number_of (code c) p) 8 ≡ true
unfolding number_of
code_context false p = lt-ltb (0 * 4 + place_number p) 8 (omega (arith, place_below p))
code_context true p = lt-ltb (1 * 4 + place_number p) 8 (omega (arith, place_below p))

pub running_context : (n issued : ℕ) (p : Place) → ltb (number_of (running n issued) p) 8 ≡ false
unfolding number_of
running_context n issued p = le-ltb (2 * 4 + place_number p) 8 (omega arith)

-- ---- the test of a head

-- a scope that is code has no mark and is no zombie
abbrev pub spare_for : Stratum → ℕ → ℕ
spare_for s k = spare_of (stratum_number s) k

-- a mask for a number of bits at the end of a word
abbrev Masked : ℕ → Type 0
Masked m = (j : ℕ) × (r : ℕ) × (m ≡ 2 ^ j) × (2 ^ j * r ≡ 65536)

all_of : Masked 2048
all_of = (11, 32, refl, refl)

none_of : Masked 1
none_of = (0, 65536, refl, refl)

five_of : Masked 32
five_of = (5, 2048, refl, refl)

rows_masked : From (λ k. Masked (row_of k).spare) 19 0
unfolding row_of rows
rows_masked =
    all_of then (6, 1024, refl, refl) then all_of then all_of then all_of then all_of then none_of then none_of then none_of then none_of then none_of
    then (2, 16384, refl, refl) then all_of then five_of then five_of then all_of then none_of then none_of then five_of then end

spare_masked : (s : Stratum) (k : ℕ) → k < 19 → Masked (spare_for s k)
unfolding spare_of
spare_masked s k h = cond-case Masked (eqb k Kind.scope && ltb (stratum_number s) 2) (λ t. five_of) λ t. fact_at rows_masked k (omega arith) h

-- the bits of the mask are 0, with or without the bit above
masked : (m h : ℕ) → Masked m → eqb (bit_and (h + 65536) (m - 1)) 0 ≡ clear m h
masked m h (j, r, e, q) =
    let under : bit_and (h + 65536) (2 ^ j - 1) ≡ (h + 65536) % 2 ^ j = and_mask (h + 65536) j in
    let above : (h + 2 ^ j * r) % 2 ^ j ≡ h % 2 ^ j = add-mul-mod_self_left _ _ _ in
    rw (e, under, ← q, above)

pub unused_clear : (k h : ℕ) → k < 19 → eqb (bit_and h ((row_of k).spare - 1)) 0 ≡ clear (row_of k).spare h
unused_clear k h small = by (fact_at rows_masked k (omega arith) small)
  where
    by : Masked (row_of k).spare → eqb (bit_and h ((row_of k).spare - 1)) 0 ≡ clear (row_of k).spare h
    by (j, r, e, q) = let under : bit_and h (2 ^ j - 1) ≡ h % 2 ^ j = and_mask h j in rw (e, under) refl

-- a mask of all bits and the one above lets nothing pass
barred : (h : ℕ) → h < 65536 → eqb (bit_and (h + 65536) 131071) 0 ≡ false
barred h b = let e : bit_and (h + 65536) 131071 ≡ (h + 65536) % 131072 = and_mask (h + 65536) 17 in rw e (ne_eqb ((h + 65536) % 131072) 0 (omega arith))

pub allowed_kind : (s : Stratum) (k : ℕ) → T (allowed s k) → k < 19
unfolding allowed
allowed_kind (running n issued) k t = let t = and_left (leb k 18) (not (eqb k 15)) t in omega tests
allowed_kind (code true) k t = omega tests
allowed_kind (code false) k t = omega tests

allowed_back : (s : Stratum) (k : ℕ) → allowed (stratum_of 0 0 (stratum_number s)) k ≡ allowed s k
unfolding allowed
allowed_back (code false) k = refl
allowed_back (code true) k = refl
allowed_back (running n issued) k = refl

place_back : (p : Place) → place_of (place_number p) ≡ p
place_back anywhere = refl
place_back not_nil = refl
place_back guard = refl
place_back root = refl

number_below : (s : Stratum) (p : Place) → stratum_number s * 4 + place_number p < 12
number_below (code false) p = omega (arith, place_below p)
number_below (code true) p = omega (arith, place_below p)
number_below (running n issued) p = omega (arith, place_below p)

mask_of : (s : Stratum) (p : Place) (k : ℕ) → head_mask (number_of s p) k ≡ cond (allowed s k && placed p k) (spare_for s k - 1) 131071
unfolding head_mask number_of
mask_of s p k =
    let over : (stratum_number s * 4 + place_number p) / 4 ≡ stratum_number s = omega (arith, place_below p) in
    let left : (stratum_number s * 4 + place_number p) % 4 ≡ place_number p = omega (arith, place_below p) in
    let known : ltb (stratum_number s * 4 + place_number p) 12 ≡ true = lt-ltb _ _ (number_below s p) in
    rw (over, left, known, allowed_back s k, place_back p)

pub head_masked :
    (s : Stratum) (p : Place) (h : ℕ) → h < 65536 →
    eqb (bit_and (h + 65536) (head_mask (number_of s p) (kind_of h))) 0 ≡ allowed s (kind_of h) && placed p (kind_of h) && clear (spare_for s (kind_of h)) h
head_masked s p h b = rw (mask_of s p (kind_of h)) (go (allowed s (kind_of h)) (placed p (kind_of h)) λ t. spare_masked s (kind_of h) (allowed_kind s (kind_of h) t))
  where
    m : ℕ
    m = spare_for s (kind_of h)

    go : (a c : Bool) → (T a → Masked m) → eqb (bit_and (h + 65536) (cond (a && c) (m - 1) 131071)) 0 ≡ a && c && clear m h
    go true true f = masked m h (f tt)
    go true false f = barred h b
    go false c f = barred h b
