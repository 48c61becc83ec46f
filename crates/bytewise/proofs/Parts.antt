-- As many words of some bytes as there is room for, an odd last byte left out.
-- Assumes nothing.
use Prim.Native.Nat.{ℕ, ◌/◌, ◌≤◌, min}
use native.Mathlib.Omega.{arith}
use mathlib.Core.Path.{◌≡◌, refl, sym, ap, ◌∙◌}
use mathlib.Core.Bool.{Bool, true, false}
use mathlib.Core.List.{List, map}
use lib.Dec.{ltb}
use lib.ListN.{length, take}
use lib.Seq.{length-take-le, take_all}
use borrow.Author.Tests.{ltb-true, ltb-false}
use Rattle.std.specs.Int.{w16, from_be_bytes}
use Rattle.std.specs.Simd.{first_chunks}
use Rattle.std.proofs.lemmas.List.{take-map}
use Rattle.sock.specs.Calls.{over}
use Rattle.sock.specs.Bytes.{words_in}
use Rattle.bytewise.specs.Held.{held_part}
use Rattle.bytewise.proofs.Holding.{words_count, paired}

-- as many as there is room for
part_all : (room n : ℕ) (bytes : List ℕ) → n ≡ min (length bytes / 2) room → take n (words_in bytes) ≡ take room (words_in bytes)
part_all room n bytes e = by (ltb room (length bytes / 2)) refl
  where
    by : (b : Bool) → ltb room (length bytes / 2) ≡ b → take n (words_in bytes) ≡ take room (words_in bytes)
    by true t = ap (λ (k : ℕ). take k (words_in bytes)) (omega (arith, e, ltb-true room (length bytes / 2) t))
    by false t =
        let less : length bytes / 2 ≤ room = ltb-false room (length bytes / 2) t in
        take_all n (words_in bytes) (omega (arith, e, words_count bytes)) ∙ sym (take_all room (words_in bytes) (omega (arith, words_count bytes)))

pub part_held :
    (n : ℕ) (bytes ws after : List ℕ) (pairs : List (List ℕ)) → n ≡ min (length bytes / 2) (length ws) →
    pairs ≡ first_chunks 2 (length bytes / 2) bytes → after ≡ over (map (from_be_bytes w16) (take n pairs)) ws →
    (n ≡ length (held_part (length ws) bytes)) × (after ≡ over (held_part (length ws) bytes) ws) × (n ≤ length ws)
unfolding held_part
part_held n bytes ws after pairs e p q =
    let words : map (from_be_bytes w16) pairs ≡ words_in bytes = ap (map (from_be_bytes w16)) p ∙ paired bytes (length bytes / 2) refl in
    let same : map (from_be_bytes w16) (take n pairs) ≡ take (length ws) (words_in bytes) = sym (take-map (from_be_bytes w16) n pairs) ∙ ap (take n) words ∙ part_all (length ws) n bytes e in
    let long : length (take n (words_in bytes)) ≡ n = length-take-le n (words_in bytes) (omega (arith, e, words_count bytes)) in
    (sym long ∙ ap length (part_all (length ws) n bytes e), q ∙ ap (λ (u : List ℕ). over u ws) same, omega arith)
