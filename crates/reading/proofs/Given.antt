-- Where something ends by the code, none where it does not fit, is where it ends by the walk, which says 0 then.
-- Assumes nothing.
use Prim.Native.Nat.{ℕ}
use mathlib.Core.Path.{◌≡◌, refl, sym, ◌∙◌}
use mathlib.Core.Bool.{Bool, true, false, not, cond}
use borrow.Author.Tests.{ne_eqb, eqb-true, eqb-false}
use lib.Dec.{eqb}
use Rattle.std.specs.Prelude.{Option, Some, None, unwrap_or}
use Rattle.std.specs.Bool.{then_some}
use Rattle.std.specs.Option.{is_some}
use Rattle.std.proofs.lemmas.Option.{none-some, same_Some}
use Rattle.reading.specs.Walk.{end_as, key_as, when}

pub as_none : (n : ℕ) → 0 ≡ n → None ≡ end_as n
as_none n e = rw (← e) refl

pub as_some : (e n : ℕ) → e ≡ n → (e ≡ 0 → ⊥) → Some e ≡ end_as n
as_some e n q h = rw (← q, ne_eqb e 0 h) refl

-- what the code's answer says
pub none_end : (n : ℕ) → None ≡ end_as n → n ≡ 0
none_end n e = by (eqb n 0) refl e
  where
    by : (b : Bool) → eqb n 0 ≡ b → None ≡ cond b None (Some n) → n ≡ 0
    by true q h = eqb-true n 0 q
    by false q h = absurd (none-some n h)

pub some_end : (e n : ℕ) → Some e ≡ end_as n → (e ≡ n) × (e ≡ 0 → ⊥)
some_end e n s = by (eqb n 0) refl s
  where
    by : (b : Bool) → eqb n 0 ≡ b → Some e ≡ cond b None (Some n) → (e ≡ n) × (e ≡ 0 → ⊥)
    by true q h = absurd (none-some e (sym h))
    by false q h = let same = same_Some e n h in (same, λ z. eqb-false n 0 q (sym same ∙ z))

-- taken with 0 for none, it is where the walk says
pub unwrap_end : (n : ℕ) → unwrap_or (end_as n) 0 ≡ n
unwrap_end n = by (eqb n 0) refl
  where
    by : (b : Bool) → eqb n 0 ≡ b → unwrap_or (cond b None (Some n)) 0 ≡ n
    by true q = sym (eqb-true n 0 q)
    by false q = refl

-- a test before an end that is not 0
pub as_when : (b : Bool) (n : ℕ) → (n ≡ 0 → ⊥) → then_some b n ≡ end_as (when b n)
unfolding when
as_when true n h = as_some n n refl h
as_when false n h = refl

-- whether there is one
pub read_test : (b : Bool) (o : Option ℕ) (n : ℕ) → o ≡ end_as n → b ≡ is_some o → b ≡ not (eqb n 0)
read_test b None n q e = e ∙ rw (none_end n q) refl
read_test b (Some k) n q e = let s = some_end k n q in e ∙ sym (rw (ne_eqb n 0 (λ z. s.1 (s.0 ∙ z))) refl)

-- a key
pub some_key : (k n : ℕ) → Some k ≡ key_as n → (k ≡ n) × (k ≡ 128 → ⊥)
some_key k n s = by (eqb n 128) refl s
  where
    by : (b : Bool) → eqb n 128 ≡ b → Some k ≡ cond b None (Some n) → (k ≡ n) × (k ≡ 128 → ⊥)
    by true q h = absurd (none-some k (sym h))
    by false q h = let same = same_Some k n h in (same, λ z. eqb-false n 128 q (sym same ∙ z))
