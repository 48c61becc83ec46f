-- Words at a position: where a list of words begins with known ones, each of them, and that they end within the whole.
-- Assumes nothing.
use Prim.Native.Nat.{ℕ, zero, suc, ◌+◌, ◌-◌, ◌≤◌, ◌<◌}
use native.Mathlib.Omega.{arith}
use native.Mathlib.Numerals.{add-one}
use mathlib.Core.Path.{◌≡◌, sym, ap, ◌∙◌}
use mathlib.Core.List.{List, [], ◌∷◌, ◌++◌, append_assoc}
use lib.ListN.{length, get_or, drop, length-append, length-drop, get_or-append}
use lib.Seq.{get_or-drop, drop-drop, drop-append_seam, drop-nil}

-- ws has w at i, and `rest` behind it
pub record At (ws : List ℕ) (i w : ℕ) (rest : List ℕ) : Type 0 where
  pub inside : i < length ws
  pub word : get_or ws i 0 ≡ w
  pub next : drop (i + 1) ws ≡ rest

pub at_head : (ws : List ℕ) (i w : ℕ) (rest : List ℕ) → drop i ws ≡ w ∷ rest → At ws i w rest
at_head [] i w rest e = absurd (let z : ◌≡◌ {A = ℕ} 0 1 = (let q : [] ≡ w ∷ rest = sym (drop-nil i) ∙ e in cc) in omega arith)
at_head (x ∷ xs) zero w rest e = record { inside = omega arith; word = (cc); next = (cc) }
at_head (x ∷ xs) (suc i) w rest e =
    let h = at_head xs i w rest e in
    let p : i < length xs = h.inside in
    record { inside = omega arith; word = h.word; next = ap (λ (k : ℕ). drop k (x ∷ xs)) (add-one (suc i)) ∙ ap (λ (k : ℕ). drop k xs) (sym (add-one i)) ∙ h.next }

-- past a part that stands at i
pub at_past : (ws part rest : List ℕ) (i : ℕ) → drop i ws ≡ part ++ rest → drop (i + length part) ws ≡ rest
at_past ws part rest i e = sym (drop-drop (length part) i ws) ∙ ap (λ (l : List ℕ). drop (length part) l) e ∙ drop-append_seam part rest

-- words that stand behind others
pub drop_after : (ws a b rest : List ℕ) (at : ℕ) → drop at ws ≡ (a ++ b) ++ rest → drop (at + length a) ws ≡ b ++ rest
drop_after ws a b rest at e = at_past ws a (b ++ rest) at (e ∙ append_assoc a b rest)

module _ (ws x rest : List ℕ) (at : ℕ) (e : drop at ws ≡ x ++ rest) where
  stands_length : length ws - at ≡ length x + length rest
  stands_length = sym (length-drop at ws) ∙ ap length e ∙ length-append x rest

  pub stands_within : 0 < length x → at + length x ≤ length ws
  stands_within h = let l = stands_length in omega arith

  pub word_at : (i : ℕ) → i < length x → get_or ws (at + i) 0 ≡ get_or x i 0
  word_at i h = sym (get_or-drop at ws i 0) ∙ ap (λ l. get_or l i 0) e ∙ get_or-append x rest 0 i h
