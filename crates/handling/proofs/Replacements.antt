-- cH replaced on words: one level, and one turn of the loop over parts.
-- Assumes nothing.
use Prim.Native.Nat.{ℕ, zero, suc, ◌+◌, ◌-◌, ◌*◌, ◌≤◌, ◌<◌, max}
use native.Mathlib.Omega.{arith}
use native.Mathlib.Numerals.{sub-one}
use mathlib.Core.Path.{◌≡◌, refl}
use mathlib.Core.Bool.{false, cond}
use mathlib.Core.List.{List, [], ◌∷◌}
use lib.Dec.{leb}
use lib.ListN.{length, get_or}
use Rattle.sock.specs.Words.{kind_of, count_of}
use Rattle.layout.specs.Own.{own_end}
use Rattle.layout.specs.Positions.{onward}
use Rattle.handling.specs.Measuring.{expression_levels, code_levels}
use Rattle.handling.specs.declared.measure.Measured.{Measured}
use Rattle.handling.specs.Replacing.{wrote, Walk, nil_w, other_w, seq_w, condition_w, kept_w, c_hw, par_w, parts_w, node_w, replace_w}
use Rattle.handling.specs.declared.replace.Old.{Old}

pub replace_step :
    (d : ℕ) (ws : List ℕ) (old : Old) (i : ℕ) (out : List ℕ) (to : ℕ) →
    (d ≡ 0 → ⊥) →
    replace_w d ws old i out to
    ≡ cond (leb (length ws) i) (wrote 0 0 false 0 out)
    (node_w (expression_levels (d - 1) ws) (code_levels d ws) (replace_w (d - 1) ws old) ws old (get_or ws i 0) i out to)
unfolding replace_w
replace_step zero ws old i out to h = absurd (h refl)
replace_step (suc d) ws old i out to h = rw (sub-one (suc d))

pub parts_turn :
    (sub : Walk) (n i levels a : ℕ) (out : List ℕ) (to : ℕ) →
    i < n →
    parts_w sub (n - i) levels a out to
    ≡ parts_w sub (n - (i + 1)) (max levels (onward (sub a out to).answer.levels 1)) (sub a out to).answer.end (sub a out to).out (sub a out to).answer.to
unfolding parts_w
parts_turn sub n i levels a out to h = let e : n - i ≡ suc (n - (i + 1)) = omega arith in rw e

pub parts_end : (sub : Walk) (n i levels a : ℕ) (out : List ℕ) (to : ℕ) → n ≤ i → parts_w sub (n - i) levels a out to ≡ wrote a to false levels out
unfolding parts_w
parts_end sub n i levels a out to h = let e : n - i ≡ 0 = omega arith in rw e

-- a kind without parts that could hold cH
pub other_kind :
    (ex code : ℕ → Measured) (sub : Walk) (ws : List ℕ) (old : Old) (h i : ℕ) (out : List ℕ) (to : ℕ) →
    (kind_of h ≡ 0 → ⊥) → (kind_of h ≡ 2 → ⊥) → (kind_of h ≡ 3 → ⊥) → (kind_of h ≡ 4 → ⊥) → (kind_of h ≡ 5 → ⊥) → (kind_of h ≡ 6 → ⊥) → (kind_of h ≡ 8 → ⊥) → (kind_of h ≡ 11 → ⊥) → (kind_of h ≡ 15 → ⊥) →
    node_w ex code sub ws old h i out to ≡ other_w code ws i out to
unfolding node_w
other_kind ex code sub ws old h i out to = by (kind_of h)
  where
    by : (k : ℕ) → (k ≡ 0 → ⊥) → (k ≡ 2 → ⊥) → (k ≡ 3 → ⊥) → (k ≡ 4 → ⊥) → (k ≡ 5 → ⊥) → (k ≡ 6 → ⊥) → (k ≡ 8 → ⊥) → (k ≡ 11 → ⊥) → (k ≡ 15 → ⊥) → get_or
        (nil_w i out to
        ∷ other_w code ws i out to
        ∷ seq_w sub i out to
        ∷ par_w sub i out to
        ∷ condition_w ex sub ws i 2 out to
        ∷ condition_w ex sub ws i 1 out to
        ∷ kept_w sub ws i (own_end ws i) 1 (count_of h * 2) out to
        ∷ other_w code ws i out to
        ∷ kept_w sub ws i (own_end ws i) 1 1 out to
        ∷ other_w code ws i out to
        ∷ other_w code ws i out to
        ∷ kept_w sub ws i (onward i 3) 1 1 out to
        ∷ other_w code ws i out to
        ∷ other_w code ws i out to
        ∷ other_w code ws i out to
        ∷ c_hw ws old i out to
        ∷ [])
        k (other_w code ws i out to) ≡ other_w code ws i out to
    by zero h _ _ _ _ _ _ _ _ = absurd (h refl)
    by (suc zero) _ _ _ _ _ _ _ _ _ = refl
    by (suc (suc zero)) _ h _ _ _ _ _ _ _ = absurd (h refl)
    by (suc (suc (suc zero))) _ _ h _ _ _ _ _ _ = absurd (h refl)
    by (suc (suc (suc (suc zero)))) _ _ _ h _ _ _ _ _ = absurd (h refl)
    by (suc (suc (suc (suc (suc zero))))) _ _ _ _ h _ _ _ _ = absurd (h refl)
    by (suc (suc (suc (suc (suc (suc zero)))))) _ _ _ _ _ h _ _ _ = absurd (h refl)
    by (suc (suc (suc (suc (suc (suc (suc zero))))))) _ _ _ _ _ _ _ _ _ = refl
    by (suc (suc (suc (suc (suc (suc (suc (suc zero)))))))) _ _ _ _ _ _ h _ _ = absurd (h refl)
    by (suc (suc (suc (suc (suc (suc (suc (suc (suc zero))))))))) _ _ _ _ _ _ _ _ _ = refl
    by (suc (suc (suc (suc (suc (suc (suc (suc (suc (suc zero)))))))))) _ _ _ _ _ _ _ _ _ = refl
    by (suc (suc (suc (suc (suc (suc (suc (suc (suc (suc (suc zero))))))))))) _ _ _ _ _ _ _ h _ = absurd (h refl)
    by (suc (suc (suc (suc (suc (suc (suc (suc (suc (suc (suc (suc zero)))))))))))) _ _ _ _ _ _ _ _ _ = refl
    by (suc (suc (suc (suc (suc (suc (suc (suc (suc (suc (suc (suc (suc zero))))))))))))) _ _ _ _ _ _ _ _ _ = refl
    by (suc (suc (suc (suc (suc (suc (suc (suc (suc (suc (suc (suc (suc (suc zero)))))))))))))) _ _ _ _ _ _ _ _ _ = refl
    by (suc (suc (suc (suc (suc (suc (suc (suc (suc (suc (suc (suc (suc (suc (suc zero))))))))))))))) _ _ _ _ _ _ _ _ h = absurd (h refl)
    by (suc (suc (suc (suc (suc (suc (suc (suc (suc (suc (suc (suc (suc (suc (suc (suc k)))))))))))))))) _ _ _ _ _ _ _ _ _ = refl
