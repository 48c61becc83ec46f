-- What follows the head of an executor, a waiter or a notice: the position reader is the definitions' reader.
-- Assumes nothing.
use Prim.Native.Nat.{ℕ, ◌+◌, ◌-◌, ◌/◌, ◌%◌, ◌≤◌, ◌<◌}
use native.Mathlib.Omega.{arith}
use mathlib.Core.Path.{◌≡◌, refl, sym, ap, ◌∙◌}
use mathlib.Core.Bool.{Bool, true, false, ◌&&◌, and-true}
use mathlib.Core.List.{List, [], ◌∷◌, ◌++◌}
use borrow.Author.Tests.{lt-ltb}
use lib.Dec.{T, leb, ltb}
use lib.ListN.{length}
use Rattle.sock.specs.Kind
use Rattle.sock.specs.Kind.{rows, row_of}
use Rattle.sock.specs.Words.{clear, kind_of, second_of}
use Rattle.sock.specs.Variables.{further_of, variables_of, distinct}
use Rattle.sock.specs.Term.{node, Block, absent, no_parts, processes_of}
use Rattle.sock.specs.Reading.{and_then, running, code, Place, end_fits, fields_fit, receives_in, node_fits, exprs, block}
use Rattle.sock.proofs.Parts.{part_place, parts, node_left}
use Rattle.sock.proofs.Logic.{and_left}
use Rattle.sock.proofs.Reading.{tests}
use Rattle.reading.specs.Walk.{on, when, at, variables_end, list_end, end_after, executor_own, executor_end, waiter_end, notice_end, node_end, process_end}
use Rattle.layout.specs.Contexts.{handlers}
use Rattle.layout.specs.Keys.{no_key}
use Rattle.reading.proofs.Contexts.{number_of}
use Rattle.reading.proofs.Combining.{on_zero, check_and, then_check, Words}
use Rattle.reading.proofs.Ending.{reads, ends_check, ends_late, ends_at}
use Rattle.reading.proofs.Lists.{list_any}
use Rattle.reading.proofs.Variables.{list_test, further_at, on_list, on_receiving, variables_at}
use Rattle.reading.proofs.Owned.{words_list}
use Rattle.reading.proofs.Parts.{fixed_two, is_code, is_running, Below, kept, one_part_lem}
use Rattle.reading.proofs.Following.{Follows}

-- the condition on an end's fields is the walk's, once they are there; of a waiter also that no variable stands twice
module _ (n issued h w v : ℕ) (g : List ℕ) (l : Block) where
  executor_fits : kind_of h ≡ Kind.executor → w < 65536 → node_fits (running n issued) h (w ∷ v ∷ g) l ≡ end_fits n issued (w / 8192 % 8) v
  unfolding node_fits fields_fit receives_in distinct
  executor_fits e b = let q : w / 8192 % 8 ≡ w / 8192 = omega arith in rw (e, q) (simp and-true)

  waiter_fits :
      kind_of h ≡ Kind.waiter → node_fits (running n issued) h (w ∷ v ∷ g) l ≡ distinct (variables_of (second_of h) g) && end_fits n issued (w / 4096 % 8) v
  unfolding node_fits fields_fit receives_in
  waiter_fits e = rw (e, and-true)

  notice_fits : kind_of h ≡ Kind.notice → node_fits (running n issued) h (w ∷ v ∷ g) l ≡ end_fits n issued (w / 128 % 8) v
  unfolding node_fits fields_fit receives_in distinct
  notice_fits e = rw e

module _ (ws : List ℕ) (i m bound : ℕ) where
  pub end_test :
      leb 3 (length ws - i) && clear m (at ws (i + 1)) && end_fits (bound / 65536) (bound % 65536) (at ws (i + 1) / m % 8) (at ws (i + 2)) ≡ end_after ws i m bound
  unfolding end_fits end_after
  end_test = go (leb 3 (length ws - i) && clear m (at ws (i + 1))) _ _ _
    where
      go : (a x y z : Bool) → a && (x && y && z) ≡ a && x && y && z
      go true x y z = refl
      go false x y z = refl

  end_inside : T (end_after ws i m bound) → i + 3 ≤ length ws
  unfolding end_after
  end_inside t =
      let w : ℕ = at ws (i + 1) in
      let a : Bool = leb 3 (length ws - i) && clear m w && ltb (w / m % 8) (bound / 65536) in
      let t = and_left (a && ltb 0 (at ws (i + 2))) (leb (at ws (i + 2)) (bound % 65536)) t in
      let t = and_left a (ltb 0 (at ws (i + 2))) t in
      let t = and_left (leb 3 (length ws - i) && clear m w) (ltb (w / m % 8) (bound / 65536)) t in
      let t = and_left (leb 3 (length ws - i)) (clear m w) t in
      omega tests

-- the tests of an executor and of a waiter in the order of the walk
executor_order :
    (t l x inside after : Bool) (v j : ℕ) (k : ℕ → ℕ) → inside ≡ true → t && x ≡ after → on v k ≡ when l (k j) →
    when (t && l && x) (k j) ≡ on (when inside (when after v)) k
unfolding when
executor_order t l x inside after v j k a b c = rw (a, ← b) (go t l x c)
  where
    go : (t l x : Bool) → on v k ≡ when l (k j) → when (t && l && x) (k j) ≡ on (when (t && x) v) k
    go true true true c = sym c
    go true true false c = sym (on_zero k)
    go true false true c = sym c
    go true false false c = sym (on_zero k)
    go false l x c = sym (on_zero k)

waiter_order : (t l x y after : Bool) (e : ℕ) → t && x ≡ after → when (t && l && (y && x)) e ≡ when after (when (l && y) e)
unfolding when
waiter_order t l x y after e b = rw (← b) (go t l x y)
  where
    go : (t l x y : Bool) → when (t && l && (y && x)) e ≡ when (t && x) (when (l && y) e)
    go true true true true = refl
    go true true true false = refl
    go true true false true = refl
    go true true false false = refl
    go true false true y = refl
    go true false false y = refl
    go false l x y = refl

module _
    (ws : List ℕ) (ok : Words ws) (bound d : ℕ) (below : Below ws bound d) (p : Place) (h i : ℕ) (inside : i < length ws)
  where
    pub executor_follows : kind_of h ≡ Kind.executor → Follows ws bound d (running (bound / 65536) (bound % 65536)) p h i
    unfolding node_left row_of rows processes_of exprs block and_then node_end executor_end executor_own part_place number_of
    executor_follows e =
        let n : ℕ = bound / 65536 in
        let issued : ℕ = bound % 65536 in
        let w : ℕ = at ws (i + 1) in
        let v : ℕ = at ws (i + 2) in
        let t : Bool = leb 3 (length ws - i) && clear 8192 w in
        let l : Bool = list_test ws (i + 3) in
        let x : Bool = end_fits n issued (w / 8192 % 8) v in
        let g : List ℕ = at ws (i + 3) ∷ further_at ws (i + 3) ++ [] in
        let j : ℕ = i + 3 + at ws (i + 3) in
        rw (e, words_list ws ok i 8192, then_check (t && l))
        (ends_at (executor_order t l x (ltb i (length ws)) (end_after ws i 8192 bound) (variables_end ws (i + 3)) j (process_end d ws bound 8) (lt-ltb i (length ws) inside) (end_test ws i 8192 bound) (on_list ws (i + 3) (process_end d ws bound 8)))
        (ends_late (t && l) x (t && l && x) (λ ps. node_fits (running n issued) h (w ∷ v ∷ g) absent) (node h (w ∷ v ∷ g) [] absent) refl
        (λ ps. executor_fits n issued h w v g absent e (ok (i + 1)))
        (rw (kept (running n issued) Kind.executor 0 tt) at (one_part_lem ws bound d below (running n issued) is_running Kind.executor i j (omega arith)))))

    pub waiter_follows : kind_of h ≡ Kind.waiter → Follows ws bound d (running (bound / 65536) (bound % 65536)) p h i
    unfolding node_left row_of rows processes_of exprs parts and_then node_end waiter_end number_of
    waiter_follows e =
        let n : ℕ = bound / 65536 in
        let issued : ℕ = bound % 65536 in
        let w : ℕ = at ws (i + 1) in
        let v : ℕ = at ws (i + 2) in
        let t : Bool = leb 3 (length ws - i) && clear 4096 w in
        let l : Bool = list_test ws (i + 3) in
        let x : Bool = end_fits n issued (w / 4096 % 8) v in
        let y : Bool = distinct (second_of h ∷ further_of (further_at ws (i + 3))) in
        let g : List ℕ = at ws (i + 3) ∷ further_at ws (i + 3) ++ [] in
        let j : ℕ = i + 3 + at ws (i + 3) in
        let same : (b : Block) → node_fits (running n issued) h (w ∷ v ∷ g) b ≡ y && x =
        (λ b. waiter_fits n issued h w v g b e ∙ ap (λ d. distinct d && x) (variables_at ws (i + 3) (second_of h) [])) in
        rw (e, words_list ws ok i 4096, then_check (t && l), on_receiving ws (second_of h) (i + 3))
        (ends_at (waiter_order t l x y (end_after ws i 4096 bound) (list_end (process_end d ws bound) ws handlers no_key j) (end_test ws i 4096 bound))
        (ends_late (t && l) (y && x) (t && l && (y && x)) (node_fits (running n issued) h (w ∷ v ∷ g)) (λ b. node h (w ∷ v ∷ g) [] b no_parts) refl same
        (list_any ws ok bound d (λ c. below (code c) is_code) false i j (omega arith))))

    pub notice_follows : kind_of h ≡ Kind.notice → Follows ws bound d (running (bound / 65536) (bound % 65536)) p h i
    unfolding node_left row_of rows processes_of exprs block parts and_then node_end notice_end
    notice_follows e =
        let n : ℕ = bound / 65536 in
        let issued : ℕ = bound % 65536 in
        let w : ℕ = at ws (i + 1) in
        let v : ℕ = at ws (i + 2) in
        let t : Bool = leb 3 (length ws - i) && clear 128 w in
        let u : Bool = end_fits n issued (w / 128 % 8) v in
        rw (e, fixed_two ws ok i 128, then_check t, notice_fits n issued h w v [] absent e, check_and t u, end_test ws i 128 bound)
        (ends_check (end_after ws i 128 bound) λ t. reads (omega arith) (end_inside ws i 128 bound t))
