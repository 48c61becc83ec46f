-- Words among bytes, as the code reads and writes them.
-- Assumes nothing.
use Prim.Native.Nat.{ℕ, zero, suc, ◌+◌, ◌*◌, ◌/◌, ◌%◌, ◌<◌}
use native.Mathlib.Omega.{arith}
use mathlib.Core.Path.{◌≡◌, refl, sym, ap, ◌∙◌}
use mathlib.Core.List.{List, [], ◌∷◌, map}
use lib.ListN.{length, get_or}
use lib.Seq.{ext_get_or}
use denote.Param.Members.{Mut}
use Rattle.std.proofs.Math.ListN.{length-map}
use Rattle.std.proofs.lemmas.List.{get_or-map}
use Rattle.std.specs.Array.{IsMapOf}
use Rattle.std.specs.Fn.{Called}
use Rattle.std.specs.Int.{w16, to_be_bytes}
use Rattle.std.specs.List.{flat_map}
use Rattle.window.specs.Bytes.{words_of, bytes_of}

-- ---- reading

words_at : (bytes : List ℕ) (i : ℕ) → 2 * i + 1 < length bytes → get_or (words_of bytes) i 0 ≡ get_or bytes (2 * i) 0 * 256 + get_or bytes (2 * i + 1) 0
unfolding words_of
words_at [] i h = absurd (omega arith)
words_at (a ∷ []) i h = absurd (omega arith)
words_at (a ∷ b ∷ bytes) zero h = refl
words_at (a ∷ b ∷ bytes) (suc i) h =
    let p : suc (suc (2 * i)) ≡ 2 * suc i = omega arith in
    let q : suc (suc (2 * i + 1)) ≡ 2 * suc i + 1 = omega arith in
    words_at bytes i (omega arith)
    ∙ ap (λ (k : ℕ). get_or (a ∷ b ∷ bytes) k 0 * 256 + get_or bytes (2 * i + 1) 0) p
    ∙ ap (λ (k : ℕ). get_or (a ∷ b ∷ bytes) (2 * suc i) 0 * 256 + get_or (a ∷ b ∷ bytes) k 0) q

pub words_count : (bytes : List ℕ) → length (words_of bytes) ≡ length bytes / 2
unfolding words_of
words_count [] = refl
words_count (a ∷ []) = refl
words_count (a ∷ b ∷ bytes) = omega (arith, words_count bytes)

pub words_read :
    (bytes words : List ℕ) → length bytes ≡ 2178 → length words ≡ 1089 →
    ((i : ℕ) → i < 1089 → get_or words i 0 ≡ get_or bytes (2 * i) 0 * 256 + get_or bytes (2 * i + 1) 0) → words ≡ words_of bytes
words_read bytes words m n at =
    let l : length (words_of bytes) ≡ 1089 = omega (arith, words_count bytes) in
    ext_get_or 0 words (words_of bytes) (n ∙ sym l) λ i h. at i (omega arith) ∙ sym (words_at bytes i (omega arith))

-- ---- writing

-- arrays of two bytes, end to end
pub flattened : (ws : List ℕ) → ((i : ℕ) → get_or ws i 0 < 65536) → flat_map (λ x. x) (map (to_be_bytes w16) ws) ≡ bytes_of ws
unfolding bytes_of
flattened [] fits = refl
flattened (w ∷ ws) fits =
    let high : w / 256 % 256 ≡ w / 256 = omega (arith, fits 0) in
    ap (λ (h : ℕ). h ∷ w % 256 ∷ flat_map (λ (x : List ℕ). x) (map (to_be_bytes w16) ws)) high
    ∙ ap (λ (t : List ℕ). w / 256 ∷ w % 256 ∷ t) (flattened ws (λ i. fits (suc i)))

-- what `map` of an array gives, where each call gives what f does
pub mapped :
    {F A B : Type 0} {g : Mut F (A × Unit {0}) B} {s : F} (f : A → B) (xs : List A) (ys : List B) (n : ℕ) (d : A) (e : B) → IsMapOf g s xs ys n → length xs ≡ n →
    ((x : A) (y : B) (p q : F) → Called g p (x, tt) y q → y ≡ f x) → ys ≡ map f xs
mapped f xs ys n d e calls long each =
    ext_get_or e ys (map f xs) (calls.long ∙ sym long ∙ sym (length-map xs f)) λ k l.
    let below : k < length xs = omega (arith, calls.long, long) in
    let at = calls.at k d e (omega arith) in
    each _ _ at.0 at.1 at.2 ∙ sym (get_or-map f xs k d e below)
