-- A turn of each loop of the skip, as its code takes it.
-- Assumes nothing.
use Prim.Native.Nat.{ℕ, zero, suc, ◌+◌, ◌-◌, ◌*◌, ◌/◌, ◌%◌, ◌≤◌, ◌<◌}
use native.Mathlib.Omega.{arith}
use native.Mathlib.Numerals.{sub-one}
use mathlib.Core.Path.{◌≡◌, refl, ap, ◌∙◌}
use mathlib.Core.Bool.{Bool, true, false, ◌||◌, cond}
use mathlib.Core.List.{List}
use borrow.Author.Tests.{lt-ltb}
use lib.Dec.{ltb, eqb}
use lib.ListN.{length, get_or}
use Rattle.layout.specs.Kinds.{kind_named, number_of, tag_named, tag_number}
use Rattle.layout.specs.declared.kind.Kind.{Kind}
use Rattle.layout.specs.declared.tag.Tag.{Tag}
use Rattle.skipping.proofs.Forms.{form_head, expr_named}
use Rattle.skipping.specs.Skip.{expr_form, expr_loop, entries_skip, behind_by, form_of, parts_by, turn_by, skip_loop}

both_none : (b : Bool) → ◌≡◌ {A = ℕ} (cond b 0 0) 0
both_none true = refl
both_none false = refl

grouped : (a b c : ℕ) → a + b + c ≡ a + (b + c)
grouped a b c = omega arith

-- ---- expressions

pub expr_last : (turns : ℕ) (ws : List ℕ) (left i : ℕ) → left ≡ 0 → expr_loop turns ws left i ≡ i
unfolding expr_loop
expr_last zero ws zero i e = refl
expr_last (suc turns) ws zero i e = refl
expr_last turns ws (suc left) i e = absurd (omega arith)

-- more expressions than turns
pub expr_over : (turns : ℕ) (ws : List ℕ) (left i : ℕ) → turns < left → expr_loop turns ws left i ≡ 0
unfolding expr_loop
expr_over zero ws zero i h = absurd (omega arith)
expr_over zero ws (suc left) i h = refl
expr_over (suc turns) ws zero i h = absurd (omega arith)
expr_over (suc turns) ws (suc left) i h =
    let f : ℕ = expr_form (get_or ws i 0 / 8192) in
    ap (λ e. cond (ltb i (length ws)) e 0) (expr_over turns ws (left + f / 4) (i + f % 4) (omega arith)) ∙ both_none (ltb i (length ws))

module _ (ws : List ℕ) where
  pub expr_turn :
      {r : Tag} (turns left i f : ℕ) →
      (left ≡ 0 → ⊥) →
      left ≤ turns →
      i < length ws →
      r ≡ tag_named (get_or ws i 0 / 8192) →
      f ≡ expr_form (tag_number r) →
      expr_loop (turns - 1) ws (left - 1 + f / 4) (i + f % 4) ≡ expr_loop turns ws left i
  unfolding expr_loop
  expr_turn turns zero i f some h inside q e = absurd (some refl)
  expr_turn zero (suc left) i f some h inside q e = absurd (omega arith)
  expr_turn (suc turns) (suc left) i f some h inside q e =
      rw (lt-ltb i (length ws) inside, e, q, expr_named (get_or ws i 0 / 8192), sub-one (suc turns), sub-one (suc left))

-- ---- entries

module _ (sub : ℕ → ℕ) (ws : List ℕ) (wanted : ℕ) where
  pub entries_turn :
      (n i : ℕ) (met m : Bool) (a b : ℕ) →
      i < n →
      a < length ws →
      m ≡ (met || eqb (get_or ws a 0 / 512) wanted) →
      b ≡ sub (a + 1) →
      entries_skip sub ws wanted (n - (i + 1)) m b ≡ entries_skip sub ws wanted (n - i) met a
  unfolding entries_skip
  entries_turn n i met m a b h inside e q = let k : n - i ≡ suc (n - (i + 1)) = omega arith in rw (k, lt-ltb a (length ws) inside, ← e, ← q)

-- ---- processes

pub skip_last : (turns : ℕ) (sub : ℕ → ℕ) (ws : List ℕ) (left follows i : ℕ) → left ≡ 0 → skip_loop turns sub ws left follows i ≡ behind_by sub ws follows i
unfolding skip_loop
skip_last zero sub ws zero follows i e = refl
skip_last (suc turns) sub ws zero follows i e = refl
skip_last turns sub ws (suc left) follows i e = absurd (omega arith)

-- more processes than turns
pub skip_over : (turns : ℕ) (sub : ℕ → ℕ) (ws : List ℕ) (left follows i : ℕ) → turns < left → skip_loop turns sub ws left follows i ≡ 0
unfolding skip_loop turn_by
skip_over zero sub ws zero follows i h = absurd (omega arith)
skip_over zero sub ws (suc left) follows i h = refl
skip_over (suc turns) sub ws zero follows i h = absurd (omega arith)
skip_over (suc turns) sub ws (suc left) follows i h =
    let e : ℕ = behind_by sub ws follows i in
    let f : ℕ = form_of (get_or ws e 0 / 2048) in
    ap (λ x. cond (ltb e (length ws)) x 0) (skip_over turns sub ws (left + parts_by (get_or ws e 0) f) (f / 8 % 16) (e + f % 8) (omega arith))
    ∙ both_none (ltb e (length ws))

module _ (sub : ℕ → ℕ) (ws : List ℕ) where
  pub skip_turn :
      {r : Kind} (turns left follows i e h f : ℕ) →
      (left ≡ 0 → ⊥) →
      left ≤ turns →
      e ≡ behind_by sub ws follows i →
      e < length ws →
      h ≡ get_or ws e 0 →
      r ≡ kind_named (get_or ws e 0 / 2048) →
      f ≡ form_of (number_of r) →
      skip_loop (turns - 1) sub ws (left - 1 + f / 128 % 4 + h % 2048 * (f / 512)) (f / 8 % 16) (e + f % 8) ≡ skip_loop turns sub ws left follows i
  unfolding skip_loop turn_by parts_by
  skip_turn turns zero follows i e h f some m q inside hd k fm = absurd (some refl)
  skip_turn zero (suc left) follows i e h f some m q inside hd k fm = absurd (omega arith)
  skip_turn (suc turns) (suc left) follows i e h f some m q inside hd k fm =
      let form : f ≡ form_of (h / 2048) = fm ∙ form_head hd k in
      rw (← q, lt-ltb e (length ws) inside, ← hd, ← form, sub-one (suc turns), sub-one (suc left)) (ap (λ n. skip_loop turns sub ws n (f / 8 % 16) (e + f % 8)) (grouped left (f / 128 % 4) (h % 2048 * (f / 512))))
