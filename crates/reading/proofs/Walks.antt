-- The mirrored walks at a depth that is not 0: one level of them.
-- Assumes nothing.
use Prim.Native.Nat.{ℕ, zero, suc, ◌+◌, ◌-◌, ◌/◌, ◌<◌, ◌≤◌}
use native.Mathlib.Omega.{arith}
use native.Mathlib.Numerals.{sub-one}
use mathlib.Core.Path.{◌≡◌, refl, sym, ap, ◌∙◌}
use borrow.Author.Tests.{ne_eqb, lt-ltb, le-ltb, le-leb, ltb-true}
use mathlib.Core.Bool.{Bool, true, false, ◌||◌, cond}
use mathlib.Core.List.{List, [], ◌∷◌}
use mathlib.Core.Logic.{◌⊎◌, inl, inr}
use lib.Bits.{bit_and}
use lib.Dec.{ltb, eqb}
use lib.ListN.{length, get_or}
use Rattle.sock.specs.Words.{clear, tag_of}
use Rattle.layout.specs.Units
use Rattle.layout.specs.Kinds.{tag_named, tag_number}
use Rattle.layout.specs.declared.tag.Tag.{Tag}
use Rattle.layout.specs.declared.tag.Tag.TheVariants as tags
use Rattle.layout.proofs.Named.{head_tag}
use Rattle.reading.specs.Tables.{head_mask}
use Rattle.std.specs.Prelude.{Some, None}
use Rattle.reading.proofs.Given.{some_key, some_end, none_end}
use Rattle.reading.specs.Walk.{end_as, key_as, when, on, at, constant_end, leaf_end, operation_end, expr_at, expr_end, two_end, branches_end, choice_end, rest_of, key_at, entry_context, entries_end, node_end, process_end}

pub expr_step : (d : ℕ) (ws : List ℕ) (i : ℕ) → (d ≡ 0 → ⊥) → expr_end d ws i ≡ when (ltb i (length ws)) (expr_at (expr_end (d - 1) ws) ws i (at ws i))
unfolding expr_end
expr_step zero ws i h = absurd (h refl)
expr_step (suc d) ws i h = rw (sub-one (suc d))

-- what is a constant or a variable, of which nobody tells apart which
pub leaf_at :
    (sub : ℕ → ℕ) (ws : List ℕ) (i : ℕ) {w v : ℕ} {r : Tag} → w ≡ v → r ≡ tag_named (tag_of v) → (r ≡ tags.Constant) ⊎ (r ≡ tags.Variable) →
    expr_at sub ws i w ≡ leaf_end ws i w
unfolding expr_at leaf_end
leaf_at sub ws i {w} {v} {r} e n is = by is
  where
    tag_is : (x : Tag) → r ≡ x → tag_number x < 7 → w / 8192 ≡ tag_number x
    tag_is x q h = head_tag x e (sym q ∙ n) h

    by : (r ≡ tags.Constant) ⊎ (r ≡ tags.Variable) → expr_at sub ws i w ≡ leaf_end ws i w
    by (inl q) = let z : w / 8192 ≡ 0 = tag_is tags.Constant q (omega arith) in rw (z, lt-ltb w 8192 (omega arith)) refl
    by (inr q) = let z : w / 8192 ≡ 1 = tag_is tags.Variable q (omega arith) in rw (z, le-ltb w 8192 (omega arith)) refl

-- what is neither a constant nor a variable is an operation
pub operation_at :
    (sub : ℕ → ℕ) (ws : List ℕ) (i : ℕ) {w v : ℕ} → w ≡ v → (tag_of v ≡ 0 → ⊥) → (tag_of v ≡ 1 → ⊥) → v < 65536 →
    expr_at sub ws i w ≡ operation_end sub i w
unfolding expr_at
operation_at sub ws i {w} {v} e c d small =
    by (tag_of w) (λ h. c (sym (ap tag_of e) ∙ h)) (λ h. d (sym (ap tag_of e) ∙ h)) (let h : w / 8192 < 8 = omega arith in h)
  where
    by :
        (k : ℕ) → (k ≡ 0 → ⊥) → (k ≡ 1 → ⊥) → k < 8 →
        get_or
        (constant_end ws i w
        ∷ when (clear Units.read_variable w) (i + 1)
        ∷ operation_end sub i w
        ∷ operation_end sub i w
        ∷ operation_end sub i w
        ∷ operation_end sub i w
        ∷ operation_end sub i w
        ∷ operation_end sub i w
        ∷ [])
        k 0
        ≡ operation_end sub i w
    by zero c v h = absurd (c refl)
    by (suc zero) c v h = absurd (v refl)
    by (suc (suc zero)) c v h = refl
    by (suc (suc (suc zero))) c v h = refl
    by (suc (suc (suc (suc zero)))) c v h = refl
    by (suc (suc (suc (suc (suc zero))))) c v h = refl
    by (suc (suc (suc (suc (suc (suc zero)))))) c v h = refl
    by (suc (suc (suc (suc (suc (suc (suc zero))))))) c v h = refl
    by (suc (suc (suc (suc (suc (suc (suc (suc k)))))))) c v h = absurd (omega arith)

pub process_step :
    (d : ℕ) (ws : List ℕ) (bound c i : ℕ) →
    (d ≡ 0 → ⊥) →
    process_end d ws bound c i
    ≡ when (ltb i (length ws))
    (when (eqb (bit_and (at ws i + 65536) (head_mask c (at ws i / 2048))) 0)
    (node_end (expr_end (d - 1) ws) (process_end (d - 1) ws bound) ws c bound (at ws i) i))
unfolding process_end
process_step zero ws bound c i h = absurd (h refl)
process_step (suc d) ws bound c i h = rw (sub-one (suc d))

-- ---- one turn of a loop

pub branches_turn :
    (sub : ℕ → ℕ → ℕ) (c n i a : ℕ) → i < n → branches_end sub c (n - i) a ≡ on (two_end sub (c + 2) c a) (branches_end sub c (n - (i + 1)))
unfolding branches_end
branches_turn sub c n i a h = let e : n - i ≡ suc (n - (i + 1)) = omega arith in rw e

pub branches_done : (sub : ℕ → ℕ → ℕ) (c n i a : ℕ) → n ≤ i → branches_end sub c (n - i) a ≡ a
unfolding branches_end
branches_done sub c n i a h = let e : n - i ≡ 0 = omega arith in rw e

-- a branch read, on to the next; and one that does not fit
module _ (sub : ℕ → ℕ → ℕ) (c n i a g : ℕ) (left : i < n) (guarded : g ≡ c + 2) where
  pub branch_next : (x y : ℕ) → Some x ≡ end_as (sub g a) → Some y ≡ end_as (sub c x) → branches_end sub c (n - (i + 1)) y ≡ branches_end sub c (n - i) a
  unfolding on two_end
  branch_next x y p q =
      let s = some_end x _ p in
      let e = some_end y _ q in
      sym (branches_turn sub c n i a left ∙ rw (← guarded, ← s.0, ne_eqb x 0 s.1, ← e.0, ne_eqb y 0 e.1) refl)

  pub guard_fails : None ≡ end_as (sub g a) → branches_end sub c (n - i) a ≡ 0
  unfolding on two_end
  guard_fails p = branches_turn sub c n i a left ∙ rw (← guarded, none_end _ p) refl

  pub branch_fails : (x : ℕ) → Some x ≡ end_as (sub g a) → None ≡ end_as (sub c x) → branches_end sub c (n - i) a ≡ 0
  unfolding on two_end
  branch_fails x p q =
      let s = some_end x _ p in
      branches_turn sub c n i a left ∙ rw (← guarded, ← s.0, ne_eqb x 0 s.1, none_end _ q) refl

pub choice_is :
    (d : ℕ) (ws : List ℕ) (bound c y n i : ℕ) → y ≡ rest_of c → (n ≡ 0 → ⊥) → n ≤ 8 →
    choice_end (process_end d ws bound) (rest_of c) n i ≡ branches_end (process_end d ws bound) y n i
unfolding choice_end when
choice_is d ws bound c y n i e p q = rw (e, lt-ltb 0 n (omega (arith, p)), le-leb n 8 q) refl

pub entries_turn :
    (sub : ℕ → ℕ → ℕ) (ws : List ℕ) (c wanted n i least : ℕ) (met : Bool) (a : ℕ) →
    i < n →
    entries_end sub ws c wanted (n - i) least met a
    ≡ cond (eqb (key_at ws a least) 128) 0
    (on (sub (entry_context c (key_at ws a least)) (a + 1))
    (entries_end sub ws c wanted (n - (i + 1)) (key_at ws a least + 1) (met || eqb (key_at ws a least) wanted)))
unfolding entries_end
entries_turn sub ws c wanted n i least met a h = let e : n - i ≡ suc (n - (i + 1)) = omega arith in rw e

pub entries_done :
    (sub : ℕ → ℕ → ℕ) (ws : List ℕ) (c wanted n i least : ℕ) (met : Bool) (a : ℕ) → n ≤ i → entries_end sub ws c wanted (n - i) least met a ≡ when met a
unfolding entries_end
entries_done sub ws c wanted n i least met a h = let e : n - i ≡ 0 = omega arith in rw e

-- an entry read, on to the next
pub entries_next :
    (sub : ℕ → ℕ → ℕ) (ws : List ℕ) (c wanted n i least : ℕ) (met : Bool) (a k x e : ℕ) (m : Bool) →
    i < n →
    Some k ≡ key_as (key_at ws a least) →
    x ≡ entry_context c k →
    Some e ≡ end_as (sub x (a + 1)) →
    m ≡ (met || eqb k wanted) →
    entries_end sub ws c wanted (n - (i + 1)) (k + 1) m e ≡ entries_end sub ws c wanted (n - i) least met a
unfolding on
entries_next sub ws c wanted n i least met a k x e m h p q r s =
    let key = some_key k _ p in
    let end = some_end e _ r in
    sym (entries_turn sub ws c wanted n i least met a h ∙ rw (← key.0, ne_eqb k 128 key.1, ← q, ← end.0, ne_eqb e 0 end.1, s))

-- ---- what the code knows where it goes on

pub process_node :
    (d : ℕ) (ws : List ℕ) (bound c i h m : ℕ) →
    (d ≡ 0 → ⊥) →
    i < length ws →
    h ≡ at ws i →
    m ≡ head_mask c (h / 2048) →
    bit_and (h + 65536) m ≡ 0 →
    process_end d ws bound c i ≡ node_end (expr_end (d - 1) ws) (process_end (d - 1) ws bound) ws c bound h i
unfolding when
process_node d ws bound c i h m p q r s t = process_step d ws bound c i p ∙ simp (← r, ← s, t, lt-ltb i (length ws) q)

pub key_inside : (ws : List ℕ) (i least key : ℕ) → key ≡ key_at ws i least → (key ≡ 128 → ⊥) → i < length ws
unfolding key_at
key_inside ws i least key e h = by (ltb i (length ws)) refl
  where
    by : (b : Bool) → ltb i (length ws) ≡ b → i < length ws
    by true t = ltb-true i (length ws) t
    by false t = absurd (h (e ∙ simp t))
