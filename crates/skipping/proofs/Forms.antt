-- The forms that the skip goes by say what the fixed table of kinds does.
-- Assumes nothing.
use Prim.Native.Nat.{ℕ, zero, suc, ◌+◌, ◌*◌, ◌/◌, ◌%◌, ◌<◌, ◌≤◌}
use native.Mathlib.Omega.{arith}
use native.Mathlib.Nat.{zero-add, mul-zero}
use mathlib.Core.Path.{◌≡◌, refl, sym, ap, ◌∙◌}
use mathlib.Core.Bool.{Bool, true, false, cond}
use lib.Dec.{T, eqb}
use lib.ListN.{get_or-eq_default}
use borrow.Author.Tests.{ne_eqb}
use Rattle.sock.specs.Kind
use Rattle.sock.specs.Kind.{row_of, rows, no_row}
use Rattle.sock.specs.Counts.{word_count, list_count}
use Rattle.sock.specs.Words.{kind_of, count_of}
use Rattle.sock.specs.Term.{processes_of}
use Rattle.sock.specs.Reading.{Stratum, Place, head_fits}
use Rattle.sock.proofs.Fields.{From, end, ◌then◌, fact_at}
use Rattle.sock.proofs.ByKind.{head_tests}
use Rattle.reading.proofs.Contexts.{allowed_kind}
use Rattle.layout.specs.Kinds.{kind_named, number_of, tag_named, tag_number}
use Rattle.layout.specs.declared.kind.Kind as Kinds
use Rattle.layout.proofs.Named.{by_name, tag_by_name}
use Rattle.skipping.specs.Skip.{form_of, expr_form, parts_by}

-- what is no kind has one word
no_row_lem : (k : ℕ) → 19 ≤ k → row_of k ≡ no_row
unfolding row_of rows
no_row_lem k far = get_or-eq_default rows no_row far

pub form_beyond : (k : ℕ) → 19 ≤ k → form_of k ≡ 1
unfolding form_of word_count list_count
form_beyond k far =
    let other : k ≡ Kind.choice → ⊥ = λ e. omega arith in
    rw (no_row_lem k far, ne_eqb k Kind.choice other) refl

-- by name it is the same
pub form_head : {r : Kinds.Kind} {h w : ℕ} → h ≡ w → r ≡ kind_named (w / 2048) → form_of (number_of r) ≡ form_of (h / 2048)
form_head {r} {h} {w} e q =
    ap (λ k. form_of (number_of k)) q ∙ by_name form_of (λ k far. form_beyond k far ∙ sym (form_beyond 19 (omega arith))) (w / 2048)
    ∙ ap (λ n. form_of (n / 2048)) (sym e)

pub expr_named : (k : ℕ) → expr_form (tag_number (tag_named k)) ≡ expr_form k
unfolding expr_form
expr_named k = tag_by_name expr_form (λ k far. rw (ne_eqb k 0 (λ e. omega (arith, e)), ne_eqb k 1 (λ e. omega (arith, e)))) k

-- what follows a process's own words, as the code numbers it: how many expressions and lists
pub data Follows : ℕ → ℕ → ℕ → Type 0 where
  nothing_follows : Follows zero zero zero
  expression_follows : Follows (suc zero) (suc zero) zero
  list_follows : Follows (suc (suc zero)) zero (suc zero)

pub record Formed (k : ℕ) : Type 0 where
  pub own : form_of k % 8 ≡ suc (word_count (row_of k).fixed)
  pub variables : form_of k / 32 % 4 ≡ list_count (row_of k).fixed
  pub follows : Follows (form_of k / 8 % 4) (row_of k).expressions (row_of k).lists
  pub parts : form_of k / 128 % 4 ≡ cond (eqb k Kind.choice) 0 (row_of k).processes
  pub branches : form_of k / 512 ≡ cond (eqb k Kind.choice) (row_of k).processes 0

forms : From Formed 19 0
unfolding form_of row_of rows word_count list_count
forms =
    record { own = refl; variables = refl; follows = nothing_follows; parts = refl; branches = refl }  -- nil
    then record { own = refl; variables = refl; follows = expression_follows; parts = refl; branches = refl }  -- assign
    then record { own = refl; variables = refl; follows = nothing_follows; parts = refl; branches = refl }  -- seq
    then record { own = refl; variables = refl; follows = nothing_follows; parts = refl; branches = refl }  -- par
    then record { own = refl; variables = refl; follows = expression_follows; parts = refl; branches = refl }  -- if
    then record { own = refl; variables = refl; follows = expression_follows; parts = refl; branches = refl }  -- while
    then record { own = refl; variables = refl; follows = nothing_follows; parts = refl; branches = refl }  -- choice
    then record { own = refl; variables = refl; follows = nothing_follows; parts = refl; branches = refl }  -- one-way
    then record { own = refl; variables = refl; follows = nothing_follows; parts = refl; branches = refl }  -- request
    then record { own = refl; variables = refl; follows = nothing_follows; parts = refl; branches = refl }  -- notify
    then record { own = refl; variables = refl; follows = list_follows; parts = refl; branches = refl }  -- solicit
    then record { own = refl; variables = refl; follows = list_follows; parts = refl; branches = refl }  -- scope
    then record { own = refl; variables = refl; follows = list_follows; parts = refl; branches = refl }  -- inst
    then record { own = refl; variables = refl; follows = nothing_follows; parts = refl; branches = refl }  -- throw
    then record { own = refl; variables = refl; follows = nothing_follows; parts = refl; branches = refl }  -- comp
    then record { own = refl; variables = refl; follows = nothing_follows; parts = refl; branches = refl }  -- cH
    then record { own = refl; variables = refl; follows = nothing_follows; parts = refl; branches = refl }  -- executor
    then record { own = refl; variables = refl; follows = list_follows; parts = refl; branches = refl }  -- waiter
    then record { own = refl; variables = refl; follows = nothing_follows; parts = refl; branches = refl }  -- notice
    then end

module _ (s : Stratum) (p : Place) (h : ℕ) (t : T (head_fits s p h)) where
  pub known : kind_of h < 19
  known = allowed_kind s (kind_of h) (head_tests s p h t).0

  pub formed : Formed (kind_of h)
  formed = fact_at forms (kind_of h) (omega arith) known

  pub parts_of : parts_by h (form_of (kind_of h)) ≡ processes_of h
  unfolding parts_by processes_of
  parts_of = rw (formed.parts, formed.branches) (counted (eqb (kind_of h) Kind.choice) (count_of h) (row_of (kind_of h)).processes)
    where
      counted : (b : Bool) (c n : ℕ) → cond b 0 n + c * cond b n 0 ≡ cond b (c * n) n
      counted true c n = zero-add (c * n)
      counted false c n = omega (arith, mul-zero c)
