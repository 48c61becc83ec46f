-- A place asks for some kinds, and what may stand there is what may stand anywhere in its stratum: so a root and what begins a branch are told by
-- their kinds alone.
-- Assumes nothing.
use Prim.Native.Nat.{ℕ, zero, suc, ◌+◌, ◌*◌, ◌/◌, ◌%◌, ◌<◌}
use native.Mathlib.Omega.{arith}
use mathlib.Core.Path.{◌≡◌, refl, sym, ap, ◌∙◌}
use mathlib.Core.Bool.{Bool, true, false, ◌&&◌}
use mathlib.Core.List.{List}
use lib.Dec.{ltb}
use lib.ListN.{length}
use borrow.Author.Tests.{ne_eqb}
use Rattle.sock.specs.Words.{clear, kind_of}
use Rattle.sock.specs.Reading.{Stratum, running, code, Place, anywhere, not_nil, guard, root, allowed, placed}
use Rattle.layout.specs.Kinds.{kind_named, number_of as kind_number}
use Rattle.layout.specs.declared.kind.Kind.{Kind}
use Rattle.layout.proofs.Named.{Named, as_is, beyond, numbered}
use Rattle.reading.specs.Tables.{stratum_of, place_of}
use Rattle.reading.specs.Walk.{end_as, at, when, context_of, expr_end, scope_end, resting_end, node_end, process_end}
use Rattle.reading.proofs.Combining.{Words}
use Rattle.reading.proofs.Contexts.{number_of, context_back, same_context, rest_context, code_context, running_context, spare_for, head_masked}
use Rattle.reading.proofs.Given.{as_none}
use Rattle.std.specs.Prelude.{None}

module _ (ex : ℕ → ℕ) (sub : ℕ → ℕ → ℕ) (ws : List ℕ) (bound h i : ℕ) where
  -- a node's parts do not ask for its place
  node_anywhere : (s : Stratum) (p : Place) → node_end ex sub ws (number_of s p) bound h i ≡ node_end ex sub ws (number_of s anywhere) bound h i
  unfolding node_end scope_end resting_end
  node_anywhere (code c) p = simp (same_context (code c) p, same_context (code c) anywhere, rest_context (code c) p, rest_context (code c) anywhere, code_context c p, code_context c anywhere)
  node_anywhere (running n m) p = simp (same_context (running n m) p, same_context (running n m) anywhere, rest_context (running n m) p, rest_context (running n m) anywhere, running_context n m p, running_context n m anywhere)

tests_swap : (t a b c : Bool) (n : ℕ) → when t (when (a && b && c) n) ≡ when b (when t (when (a && true && c) n))
unfolding when
tests_swap true true true c n = refl
tests_swap true true false c n = refl
tests_swap true false true c n = refl
tests_swap true false false c n = refl
tests_swap false a true c n = refl
tests_swap false a false c n = refl

never : (b : Bool) → 0 ≡ when b 0
unfolding when
never true = refl
never false = refl

module _ (ws : List ℕ) (ok : Words ws) (bound i : ℕ) where
  by_place : (d : ℕ) (s : Stratum) (p : Place) → process_end d ws bound (number_of s p) i ≡ when (placed p (kind_of (at ws i))) (process_end d ws bound (number_of s anywhere) i)
  unfolding process_end placed
  by_place zero s p = never (placed p (kind_of (at ws i)))
  by_place (suc d) s p =
      let h : ℕ = at ws i in
      rw (head_masked s p h (ok i), head_masked s anywhere h (ok i), node_anywhere (expr_end d ws) (process_end d ws bound) ws bound h i s p)
      (tests_swap (ltb i (length ws)) (allowed s (kind_of h)) (placed p (kind_of h)) (clear (spare_for s (kind_of h)) h) _)

  pub place_end : (d c : ℕ) → c < 12 → process_end d ws bound c i ≡ when (placed (place_of (c % 4)) (kind_of (at ws i))) (process_end d ws bound (context_of c) i)
  place_end d c h =
      let s : Stratum = stratum_of 0 0 (c / 4) in
      let p : Place = place_of (c % 4) in
      let back : number_of s p ≡ c = context_back 0 0 c h in
      let any : number_of s anywhere ≡ context_of c = sym (same_context s p) ∙ ap context_of back in
      rw (back, any) at (by_place d s p)

-- a kind by its name asks the same
pub placed_named : (p : Place) (k : ℕ) → placed p (kind_number (kind_named k)) ≡ placed p k
unfolding placed
placed_named p k = by p (numbered k)
  where
    by : (p : Place) → Named 19 k (kind_number (kind_named k)) → placed p (kind_number (kind_named k)) ≡ placed p k
    by p (as_is q) = ap (placed p) q
    by anywhere (beyond q far) = refl
    by not_nil (beyond q far) = rw (q, ne_eqb k 0 (λ z. omega arith)) refl
    by guard (beyond q far) = rw (q, ne_eqb k 7 (λ z. omega arith), ne_eqb k 8 (λ z. omega arith)) refl
    by root (beyond q far) = rw (q, ne_eqb k 0 (λ z. omega arith), ne_eqb k 11 (λ z. omega arith)) refl

-- ---- what the code knows

module _ (ws : List ℕ) (ok : Words ws) (bound d i : ℕ) where
  abbrev w : ℕ
  w = at ws i

  module _ (c : ℕ) (low : c < 12) (k : Kind) (named : k ≡ kind_named (kind_of w)) where
    asks : placed (place_of (c % 4)) (kind_number k) ≡ placed (place_of (c % 4)) (kind_of w)
    asks = ap (λ k. placed (place_of (c % 4)) (kind_number k)) named ∙ placed_named (place_of (c % 4)) (kind_of w)

    pub place_none : placed (place_of (c % 4)) (kind_number k) ≡ false → None ≡ end_as (process_end d ws bound c i)
    unfolding when
    place_none e = as_none _ (sym (place_end ws ok bound i d c low ∙ rw (sym asks ∙ e) refl))

    pub place_some : placed (place_of (c % 4)) (kind_number k) ≡ true → process_end d ws bound (context_of c) i ≡ process_end d ws bound c i
    unfolding when
    place_some e = sym (place_end ws ok bound i d c low ∙ rw (sym asks ∙ e) refl)

  -- what begins a branch, beside what may stand anywhere
  module _ (x : ℕ) (low : x < 12) (k : Kind) (named : k ≡ kind_named (kind_of w)) where
    guarded : ℕ
    guarded = context_of x + 2

    under : guarded < 12
    unfolding guarded
    under = omega (arith, low)

    is_guard : place_of (guarded % 4) ≡ guard
    unfolding guarded
    is_guard = ap place_of (let z : (x / 4 * 4 + 2) % 4 ≡ 2 = omega arith in z)

    same_stratum : context_of guarded ≡ context_of x
    unfolding guarded
    same_stratum = omega arith

    pub guard_none : placed guard (kind_number k) ≡ false → None ≡ end_as (process_end d ws bound (context_of x + 2) i)
    unfolding guarded
    guard_none e = place_none guarded under k named (ap (λ p. placed p (kind_number k)) is_guard ∙ e)

    pub guard_some : placed guard (kind_number k) ≡ true → process_end d ws bound (context_of x) i ≡ process_end d ws bound (context_of x + 2) i
    unfolding guarded
    guard_some e = sym (ap (λ n. process_end d ws bound n i) same_stratum) ∙ place_some guarded under k named (ap (λ p. placed p (kind_number k)) is_guard ∙ e)
