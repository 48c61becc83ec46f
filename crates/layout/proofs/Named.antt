-- What an arm of a `match` on a kind, a mark or an expression knows of the number.
-- Assumes nothing.
use Prim.Native.Nat.{ℕ, zero, suc, ◌/◌, ◌<◌, ◌≤◌}
use native.Mathlib.Omega.{arith}
use mathlib.Core.Path.{◌≡◌, refl, sym, ap, ◌∙◌}
use Rattle.layout.specs.Kinds.{kind_named, number_of, counted_as, mark_named, mark_number, tag_named, tag_number}
use Rattle.layout.specs.declared.kind.Kind.{Kind}
use Rattle.layout.specs.declared.kind.Kind.TheVariants as kinds
use Rattle.layout.specs.declared.mark.Mark.{Mark}
use Rattle.layout.specs.declared.mark.Mark.TheVariants as marks
use Rattle.layout.specs.declared.tag.Tag.{Tag}

-- a number comes back from its name up to `most`, from where on all have one name
pub data Named (most k n : ℕ) : Type 0 where
  as_is : n ≡ k → Named most k n
  beyond : n ≡ most → most ≤ k → Named most k n

named_is : {most k n x : ℕ} → Named most k n → n ≡ x → x < most → k ≡ x
named_is (as_is q) e h = sym q ∙ e
named_is (beyond q far) e h = absurd (omega (arith, q, e, h))

pub numbered : (k : ℕ) → Named 19 k (number_of (kind_named k))
numbered zero = as_is refl
numbered (suc zero) = as_is refl
numbered (suc (suc zero)) = as_is refl
numbered (suc (suc (suc zero))) = as_is refl
numbered (suc (suc (suc (suc zero)))) = as_is refl
numbered (suc (suc (suc (suc (suc zero))))) = as_is refl
numbered (suc (suc (suc (suc (suc (suc zero)))))) = as_is refl
numbered (suc (suc (suc (suc (suc (suc (suc zero))))))) = as_is refl
numbered (suc (suc (suc (suc (suc (suc (suc (suc zero)))))))) = as_is refl
numbered (suc (suc (suc (suc (suc (suc (suc (suc (suc zero))))))))) = as_is refl
numbered (suc (suc (suc (suc (suc (suc (suc (suc (suc (suc zero)))))))))) = as_is refl
numbered (suc (suc (suc (suc (suc (suc (suc (suc (suc (suc (suc zero))))))))))) = as_is refl
numbered (suc (suc (suc (suc (suc (suc (suc (suc (suc (suc (suc (suc zero)))))))))))) = as_is refl
numbered (suc (suc (suc (suc (suc (suc (suc (suc (suc (suc (suc (suc (suc zero))))))))))))) = as_is refl
numbered (suc (suc (suc (suc (suc (suc (suc (suc (suc (suc (suc (suc (suc (suc zero)))))))))))))) = as_is refl
numbered (suc (suc (suc (suc (suc (suc (suc (suc (suc (suc (suc (suc (suc (suc (suc zero))))))))))))))) = as_is refl
numbered (suc (suc (suc (suc (suc (suc (suc (suc (suc (suc (suc (suc (suc (suc (suc (suc zero)))))))))))))))) = as_is refl
numbered (suc (suc (suc (suc (suc (suc (suc (suc (suc (suc (suc (suc (suc (suc (suc (suc (suc zero))))))))))))))))) = as_is refl
numbered (suc (suc (suc (suc (suc (suc (suc (suc (suc (suc (suc (suc (suc (suc (suc (suc (suc (suc zero)))))))))))))))))) = as_is refl
numbered (suc (suc (suc (suc (suc (suc (suc (suc (suc (suc (suc (suc (suc (suc (suc (suc (suc (suc (suc n))))))))))))))))))) = beyond refl (omega arith)

-- the kind is x: the number is its
pub at_kind : (x : Kind) {k : ℕ} → x ≡ kind_named k → number_of x < 19 → k ≡ number_of x
at_kind x {k} e h = named_is (numbered k) (sym (ap number_of e)) h

-- of a head whose number is at hand
pub head_kind : (x : Kind) {h w : ℕ} → h ≡ w → x ≡ kind_named (w / 2048) → number_of x < 19 → h / 2048 ≡ number_of x
head_kind x q e h = ap (λ n. n / 2048) q ∙ at_kind x e h

-- a kind's number counts as itself
pub counted_is : {k n : ℕ} → k ≡ n → n < 19 → counted_as k ≡ n
counted_is {k} {n} e h = by (numbered k)
  where
    by : Named 19 k (counted_as k) → counted_as k ≡ n
    by (as_is q) = q ∙ e
    by (beyond q far) = absurd (omega (arith, far, e, h))

pub counted_not : {k n : ℕ} → (k ≡ n → ⊥) → n < 19 → counted_as k ≡ n → ⊥
counted_not {k} {n} never h z = never (named_is (numbered k) z h)

-- it is not
pub not_kind : (x : Kind) {r : Kind} {k : ℕ} → r ≡ kind_named k → (r ≡ x → ⊥) → kind_named (number_of x) ≡ x → k ≡ number_of x → ⊥
not_kind x {r} {k} q h e z = h (q ∙ ap kind_named z ∙ e)

pub head_not :
    (x : Kind) {r : Kind} {h w : ℕ} → h ≡ w → r ≡ kind_named (w / 2048) → (r ≡ x → ⊥) → kind_named (number_of x) ≡ x → h / 2048 ≡ number_of x → ⊥
head_not x p q h e z = not_kind x q h e (sym (ap (λ n. n / 2048) p) ∙ z)

pub marked : (k : ℕ) → Named 3 k (mark_number (mark_named k))
marked zero = as_is refl
marked (suc zero) = as_is refl
marked (suc (suc zero)) = as_is refl
marked (suc (suc (suc n))) = beyond refl (omega arith)

pub at_mark : (x : Mark) {k : ℕ} → x ≡ mark_named k → mark_number x < 3 → k ≡ mark_number x
at_mark x {k} e h = named_is (marked k) (sym (ap mark_number e)) h

pub not_mark : (x : Mark) {r : Mark} {k : ℕ} → r ≡ mark_named k → (r ≡ x → ⊥) → mark_named (mark_number x) ≡ x → k ≡ mark_number x → ⊥
not_mark x {r} {k} q h e z = h (q ∙ ap mark_named z ∙ e)

pub tagged : (k : ℕ) → Named 7 k (tag_number (tag_named k))
tagged zero = as_is refl
tagged (suc zero) = as_is refl
tagged (suc (suc zero)) = as_is refl
tagged (suc (suc (suc zero))) = as_is refl
tagged (suc (suc (suc (suc zero)))) = as_is refl
tagged (suc (suc (suc (suc (suc zero))))) = as_is refl
tagged (suc (suc (suc (suc (suc (suc zero)))))) = as_is refl
tagged (suc (suc (suc (suc (suc (suc (suc n))))))) = beyond refl (omega arith)

pub at_tag : (x : Tag) {k : ℕ} → x ≡ tag_named k → tag_number x < 7 → k ≡ tag_number x
at_tag x {k} e h = named_is (tagged k) (sym (ap tag_number e)) h

pub not_tag : (x : Tag) {r : Tag} {k : ℕ} → r ≡ tag_named k → (r ≡ x → ⊥) → tag_named (tag_number x) ≡ x → k ≡ tag_number x → ⊥
not_tag x {r} {k} q h e z = h (q ∙ ap tag_named z ∙ e)

-- three bits have no other number
pub tag_is : {r : Tag} {k : ℕ} → r ≡ tag_named k → k < 8 → tag_number r ≡ k
tag_is {r} {k} e h = ap tag_number e ∙ by (tagged k)
  where
    by : Named 7 k (tag_number (tag_named k)) → tag_number (tag_named k) ≡ k
    by (as_is q) = q
    by (beyond q far) = omega (arith, q, far, h)

pub head_tag : (x : Tag) {h w : ℕ} → h ≡ w → x ≡ tag_named (w / 8192) → tag_number x < 7 → h / 8192 ≡ tag_number x
head_tag x q e h = ap (λ n. n / 8192) q ∙ at_tag x e h

-- a head or a mark with no name
unused_from : {most k n : ℕ} → Named most k n → n ≡ most → most ≤ k
unused_from (as_is q) e = omega (arith, q, e)
unused_from (beyond q far) e = far

pub head_unused : {h w : ℕ} → h ≡ w → kinds.Unused ≡ kind_named (w / 2048) → 19 ≤ h / 2048
head_unused {h} {w} q e = let far = unused_from (numbered (w / 2048)) (sym (ap number_of e)) in omega (arith, far, q)

pub no_mark : {k : ℕ} → marks.Unused ≡ mark_named k → 3 ≤ k
no_mark {k} e = unused_from (marked k) (sym (ap mark_number e))

-- what is the same of all numbers without a name is the same by name
pub by_name : (f : ℕ → ℕ) → ((k : ℕ) → 19 ≤ k → f k ≡ f 19) → (k : ℕ) → f (number_of (kind_named k)) ≡ f k
by_name f same k = by (numbered k)
  where
    by : Named 19 k (number_of (kind_named k)) → f (number_of (kind_named k)) ≡ f k
    by (as_is q) = ap f q
    by (beyond q far) = ap f q ∙ sym (same k far)

pub tag_by_name : (f : ℕ → ℕ) → ((k : ℕ) → 7 ≤ k → f k ≡ f 7) → (k : ℕ) → f (tag_number (tag_named k)) ≡ f k
tag_by_name f same k = by (tagged k)
  where
    by : Named 7 k (tag_number (tag_named k)) → f (tag_number (tag_named k)) ≡ f k
    by (as_is q) = ap f q
    by (beyond q far) = ap f q ∙ sym (same k far)
