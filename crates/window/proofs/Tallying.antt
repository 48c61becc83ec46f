-- What holds after some turns of the loop that counts entries.
-- Assumes nothing.
use Prim.Native.Nat.{ℕ, ◌+◌, ◌≤◌, ◌<◌}
use native.Mathlib.Omega.{arith}
use mathlib.Core.Path.{◌≡◌, refl, sym, ap, ◌∙◌}
use mathlib.Core.Bool.{Bool, true, false, ◌&&◌}
use mathlib.Core.List.{List, [], ◌∷◌, ◌++◌}
use lib.Dec.{leb}
use lib.ListN.{length, get_or, set, take, drop, length-take}
use Rattle.std.proofs.lemmas.List.{drop_more, take_more}
use borrow.Author.Tests.{leb-true, le-leb}
use Rattle.std.proofs.lemmas.Grind.{common_steps}
use Rattle.window.specs.Window.{times, counts_from, none_above}
use Rattle.std.proofs.lemmas.Bool.{and_left}
use Rattle.window.proofs.Tests.{and_first}
use Rattle.window.proofs.Counting.{times_most, counts_at, counts_more}

-- the tests of the entries that are left
module _ (entries : List ℕ) (i : ℕ) where
  abbrev pub Passed : Type 0
  Passed = none_above 64 entries ≡ none_above 64 (drop i entries)

  tested : i < length entries → none_above 64 (drop i entries) ≡ (leb (get_or entries i 0) 64 && none_above 64 (drop (i + 1) entries))
  unfolding none_above
  tested h = ap (none_above 64) (drop_more entries i 0 h)

  passes : Passed → i < length entries → get_or entries i 0 ≤ 64 → none_above 64 entries ≡ none_above 64 (drop (i + 1) entries)
  passes inv h low = inv ∙ tested h ∙ and_first (leb (get_or entries i 0) 64) _ (le-leb (get_or entries i 0) 64 low)

  pub tally_stops : Passed → i < length entries → ¬ ((0 ≤ get_or entries i 0) × (get_or entries i 0 ≤ 64)) → none_above 64 entries ≡ false
  tally_stops inv h out = inv ∙ tested h ∙ and_left (leb (get_or entries i 0) 64) _ (by (leb (get_or entries i 0) 64) refl)
    where
      by : (b : Bool) → leb (get_or entries i 0) 64 ≡ b → b ≡ false
      by true e = absurd (out (omega arith, leb-true (get_or entries i 0) 64 e))
      by false e = refl

  module _ (counts : List ℕ) (counted : counts ≡ counts_from 65 0 (take i entries)) where
    -- a count is at most the entries counted
    pub tally_room : length entries ≤ 1024 → (e : ℕ) → e ≤ 64 → get_or counts e 0 ≤ 1024
    tally_room few e h =
        let a : get_or counts e 0 ≡ times (0 + e) (take i entries) =
        ap (λ (t : List ℕ). get_or t e 0) counted ∙ counts_at 65 0 e (take i entries) (omega arith) in
        let b : length (take i entries) ≤ length entries = omega (arith, length-take i entries) in
        omega (arith, a, b, times_most (0 + e) (take i entries))

    more : i < length entries → (e : ℕ) → e ≡ get_or entries i 0 → e ≤ 64 → set counts e (get_or counts e 0 + 1) ≡ counts_from 65 0 (take (i + 1) entries)
    more h e is low =
        let z : 0 + e ≡ e = omega arith in
        let v : ℕ = get_or counts e 0 + 1 in
        let p : v ≡ times (0 + e) (take i entries) + 1 =
        ap (λ (t : List ℕ). get_or t e 0 + 1) counted ∙ ap (λ (n : ℕ). n + 1) (counts_at 65 0 e (take i entries) (omega arith)) in
        ap (λ (t : List ℕ). set t e v) counted
        ∙ counts_more 65 0 e v (take i entries) (omega arith) p
        ∙ ap (λ (n : ℕ). counts_from 65 0 (take i entries ++ (n ∷ []))) (z ∙ is)
        ∙ ap (counts_from 65 0) (sym (take_more entries i 0 h))

    pub tally_turn :
        Passed → i < length entries → (e : ℕ) → e ≡ get_or entries i 0 → e ≤ 64 →
        (set counts e (get_or counts e 0 + 1) ≡ counts_from 65 0 (take (i + 1) entries)) × (none_above 64 entries ≡ none_above 64 (drop (i + 1) entries))
    tally_turn inv h e is low = (more h e is low, passes inv h (omega arith))

    pub tally_ends : Passed → length entries ≤ i → (none_above 64 entries ≡ true) × (counts ≡ counts_from 65 0 entries)
    unfolding none_above
    tally_ends inv h = grind (arith, common_steps)
