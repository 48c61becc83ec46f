-- What follows the head of a scope, enabled or code: the position reader is the definitions' reader.
-- Assumes nothing.
use Prim.Native.Nat.{ℕ, zero, suc, ◌+◌, ◌*◌, ◌-◌, ◌/◌, ◌%◌, ◌≤◌, ◌<◌}
use native.Mathlib.Omega.{arith}
use mathlib.Core.Path.{◌≡◌, refl, sym, ap, ◌∙◌}
use mathlib.Core.Bool.{Bool, true, false, not, ◌&&◌, and_assoc, and-true, and-false}
use mathlib.Core.List.{List, [], ◌∷◌}
use lib.Dec.{T, leb, ltb, eqb, nleb→lt, eqb-suc-zero}
use borrow.Author.Tests.{lt-leb, le-leb}
use lib.ListN.{length, drop, drop_of_length-le}
use Rattle.sock.specs.Kind
use Rattle.sock.specs.Kind.{rows, row_of}
use Rattle.sock.specs.Words.{clear, kind_of, mark_of, zombie_of, first_name}
use Rattle.sock.specs.Variables.{distinct}
use Rattle.sock.specs.Term.{Node, node, Block, list, entries_of, processes_of}
use Rattle.sock.specs.Reading.{Got, fail, got, and_then, check, Stratum, running, code, Place, anywhere, is_empty, scope_fits, resting_fits, fields_fit, receives_in, node_fits, exprs, entries, block, expr, process}
use Rattle.sock.proofs.Parts.{part_place, parts, part_by, node_left}
use Rattle.sock.proofs.Fields.{four, four_pass}
use Rattle.sock.proofs.Reading.{tests, eq→eqb, split, both, Holds, nothing, something, holds_check, holds_then}
use Rattle.reading.specs.Walk.{on, when, at, expr_end, marked_end, resting_end, scope_end, fixed_after, node_end, process_end}
use Rattle.reading.proofs.Contexts.{number_of, same_context, code_context, running_context}
use Rattle.reading.proofs.Combining.{same_test, check_and, check_fail, then_check, then_fail, on_when, on_past, when_and, Words, at_next}
use Rattle.reading.proofs.Ending.{Ends, fails, reads, ends_check, ends_late, ends_early, ends_when}
use Rattle.reading.proofs.Lists.{then_holds, list_end_lem, list_any}
use Rattle.reading.proofs.Parts.{fixed_one, is_code, is_running, Below, kept, one_part_lem}
use Rattle.reading.proofs.Following.{Follows}

-- ---- what a scope's fields have to be

running_fits :
    (n issued h w : ℕ) → kind_of h ≡ Kind.scope → (l : Block) →
    node_fits (running n issued) h (w ∷ []) l ≡ scope_fits (mark_of h) (zombie_of h) (first_name w) (entries_of l)
unfolding node_fits fields_fit receives_in distinct
running_fits n issued h w e l = rw e (simp and-true)

resting_fits_lem :
    (c : Bool) (h w : ℕ) → kind_of h ≡ Kind.scope → (l : Block) → node_fits (code c) h (w ∷ []) l ≡ resting_fits (mark_of h) (zombie_of h) (first_name w) (entries_of l)
unfolding node_fits fields_fit receives_in distinct
resting_fits_lem c h w e l = rw e

-- a fixed word whose name is 0 is 0
no_fault : (w : ℕ) → clear 1024 w && eqb (w / 1024) 0 ≡ eqb w 0
no_fault w =
    same_test (clear 1024 w && eqb (w / 1024) 0) (eqb w 0) (λ t. let t = split (clear 1024 w) (eqb (w / 1024) 0) t in omega tests)
    λ t. both (clear 1024 w) (eqb (w / 1024) 0) (omega tests) (omega tests)

-- ---- a scope that is code

-- what is read never passes
never : {A : Type 0} {g : Got A} (t : A → Bool) → Holds (λ x rest. t x ≡ false) g → and_then g (λ x rest. check (t x) (got x rest)) ≡ fail
unfolding and_then check
never t nothing = refl
never t (something e) = rw e

-- entries are no empty list
full_list : (sub : List ℕ → Got Node) (o : Bool) (n least : ℕ) (ws : List ℕ) → Holds (λ l rest. is_empty l ≡ false) (entries sub o (suc n) least ws)
unfolding entries is_empty
full_list sub o n least [] = nothing
full_list sub o n least (w ∷ ws) =
    holds_check _ λ t. then_holds _ λ m then. holds_check _ λ t. then_holds _ λ l rest. something refl

module _ (ws : List ℕ) (i : ℕ) (sub : List ℕ → Got Node) (m z f : ℕ) where
  resting_entries :
      (v : ℕ) → i + 3 ≤ length ws →
      Ends ws i (and_then (and_then (entries sub true v 0 (drop (i + 3) ws)) λ l rest. got (list l) rest) λ l rest. check (resting_fits m z f (entries_of l)) (got l rest))
      (when (eqb m 0 && eqb z 0 && eqb f 0 && eqb v 0) (i + 3))
  unfolding and_then entries resting_fits is_empty when
  resting_entries zero q = ends_check (eqb m 0 && eqb z 0 && eqb f 0 && true) λ t. reads (omega arith) q
  resting_entries (suc v) q =
      let g : Got Block = and_then (entries sub true (suc v) 0 (drop (i + 3) ws)) λ l rest. got (list l) rest in
      let full : Holds (λ l rest. resting_fits m z f (entries_of l) ≡ false) g =
      holds_then (full_list sub true v 0 (drop (i + 3) ws)) λ l rest e. something {a = list l} (rw (e, and-false)) in
      rw (eqb-suc-zero v, and-false, never {g = g} (λ l. resting_fits m z f (entries_of l)) full) fails

  resting_list :
      (a : Bool) →
      Ends ws i (check a (and_then (block sub true 1 (drop (i + 2) ws)) λ l rest. check (resting_fits m z f (entries_of l)) (got l rest)))
      (when (a && ltb (i + 2) (length ws) && (eqb m 0 && eqb z 0 && eqb f 0 && eqb (at ws (i + 2)) 0)) (i + 3))
  unfolding block
  resting_list a =
      let n : ℕ = length ws in
      rw
      (at_next (block sub true 1) refl ws (i + 2) (i + 3) (omega arith), then_check (ltb (i + 2) n), check_and a (ltb (i + 2) n), when_and (a && ltb (i + 2) n))
      (ends_check (a && ltb (i + 2) n) λ t. let t = split a (ltb (i + 2) n) t in resting_entries (at ws (i + 2)) (omega tests))

-- a head clear up to its name has no mark and is no zombie
low_clear : (h : ℕ) → h % 4 ≡ 0 → h / 8 % 4 ≡ 0 → h / 4 % 2 ≡ 0 → h % 32 ≡ 0
low_clear h a b c = go (h / 4) (h / 8) (h / 8 / 4) (omega arith) (omega arith) (omega arith)
  where
    go : (x y z : ℕ) → h ≡ x * 4 → x ≡ y * 2 → y ≡ z * 4 → h % 32 ≡ 0
    go x y z p q r = let e : h ≡ z * 32 = omega arith in omega arith

-- all that is tested of it
resting_test :
    (h w v n i : ℕ) →
    clear 4 h && (leb 2 (n - i) && clear 1024 w) && ltb (i + 2) n && (eqb (mark_of h) 0 && eqb (zombie_of h) 0 && eqb (first_name w) 0 && eqb v 0)
    ≡ clear 32 h && leb 3 (n - i) && (eqb w 0 && eqb v 0)
resting_test h w v n i =
    same_test (A && B) (C && D)
    (λ t.
    let t = split A B t in
    let x = split (clear 4 h && (leb 2 (n - i) && clear 1024 w)) (ltb (i + 2) n) t.0 in
    let y = split (clear 4 h) (leb 2 (n - i) && clear 1024 w) x.0 in
    let u = split (leb 2 (n - i)) (clear 1024 w) y.1 in
    let r = four (eqb (mark_of h) 0) (eqb (zombie_of h) 0) (eqb (first_name w) 0) (eqb v 0) t.1 in
    both C D
    (both (clear 32 h) (leb 3 (n - i)) (eq→eqb (h % 32) 0 (low_clear h (omega tests) (omega tests) (omega tests))) (omega tests))
    (both (eqb w 0) (eqb v 0) (omega tests) (omega tests)))
    λ t.
    let t = split C D t in
    let x = split (clear 32 h) (leb 3 (n - i)) t.0 in
    let y = split (eqb w 0) (eqb v 0) t.1 in
    both A B
    (both (clear 4 h && (leb 2 (n - i) && clear 1024 w)) (ltb (i + 2) n)
    (both (clear 4 h) (leb 2 (n - i) && clear 1024 w) (omega tests) (both (leb 2 (n - i)) (clear 1024 w) (omega tests) (omega tests))) (omega tests))
    (four_pass (eqb (mark_of h) 0) (eqb (zombie_of h) 0) (eqb (first_name w) 0) (eqb v 0) (omega tests, omega tests, omega tests, omega tests))
  where
    A : Bool
    A = clear 4 h && (leb 2 (n - i) && clear 1024 w) && ltb (i + 2) n

    B : Bool
    B = eqb (mark_of h) 0 && eqb (zombie_of h) 0 && eqb (first_name w) 0 && eqb v 0

    C : Bool
    C = clear 32 h && leb 3 (n - i)

    D : Bool
    D = eqb w 0 && eqb v 0

-- the walk goes on by the same tests
resting_walk :
    (ws : List ℕ) (h i : ℕ) (end : ℕ → ℕ) →
    when (clear 32 h) (when (leb 3 (length ws - i)) (when (eqb (at ws (i + 1)) 0 && eqb (at ws (i + 2)) 0) (end (i + 3))))
    ≡ on
    (when
    (clear 4 h && fixed_after ws i 1024 && ltb (i + 2) (length ws) && (eqb (mark_of h) 0 && eqb (zombie_of h) 0 && eqb (first_name (at ws (i + 1))) 0 && eqb (at ws (i + 2)) 0))
    (i + 3))
    end
unfolding fixed_after
resting_walk ws h i end =
    let n : ℕ = length ws in
    let w : ℕ = at ws (i + 1) in
    let v : ℕ = at ws (i + 2) in
    rw (
      resting_test h w v n i,
      on_when (clear 32 h && leb 3 (n - i) && (eqb w 0 && eqb v 0)),
      on_past (i + 3) end (omega arith),
      when_and (clear 32 h && leb 3 (n - i)) (eqb w 0 && eqb v 0),
      when_and (clear 32 h) (leb 3 (n - i)),
    )

-- ---- what follows

module _
    (ws : List ℕ) (ok : Words ws) (bound d : ℕ) (below : Below ws bound d) (h i : ℕ) (inside : i < length ws)
  where
    -- the list of a scope that runs, by its mark
    marked_end_lem :
        (m : ℕ) → h / 8 % 4 ≡ m →
        Ends ws i
        (check (clear 1024 (at ws (i + 1)))
        (and_then (block (process d (code false) anywhere) true 1 (drop (i + 2) ws)) λ l rest.
        check (scope_fits (mark_of h) (zombie_of h) (first_name (at ws (i + 1))) (entries_of l)) (got l rest)))
        (marked_end (process_end d ws bound) ws h (at ws (i + 1)) (i + 2))
    unfolding scope_fits marked_end number_of check
    marked_end_lem zero e =
        let w : ℕ = at ws (i + 1) in
        rw e
        (ends_late (clear 1024 w) (eqb (w / 1024) 0) (eqb w 0) (λ l. eqb (w / 1024) 0) (λ l. l)
        (no_fault w)
        (λ l. refl)
        (list_any ws ok bound d (λ c. below (code c) is_code) true i (i + 2) (omega arith)))
    marked_end_lem (suc zero) e =
        let w : ℕ = at ws (i + 1) in
        let named : leb 128 (w / 1024) ≡ false = lt-leb 128 (w / 1024) (let b : w < 65536 = ok (i + 1) in omega arith) in
        rw e (ends_check (clear 1024 w) λ t. rw named at (list_end_lem ws ok bound d (λ c. below (code c) is_code) true (w / 1024) i (i + 2) (omega arith)))
    marked_end_lem (suc (suc zero)) e =
        let w : ℕ = at ws (i + 1) in
        let z : Bool = eqb (h / 4 % 2) 1 in
        rw e
        (ends_late (clear 1024 w) (eqb (w / 1024) 0 && z) (eqb w 0 && z) (λ l. eqb (w / 1024) 0 && z) (λ l. l)
        (sym (and_assoc (clear 1024 w) (eqb (w / 1024) 0) z) ∙ ap (λ b. b && z) (no_fault w))
        (λ l. refl)
        (list_any ws ok bound d (λ c. below (code c) is_code) true i (i + 2) (omega arith)))
    marked_end_lem (suc (suc (suc m))) e =
        rw (e, then_fail (block (process d (code false) anywhere) true 1 (drop (i + 2) ws)), check_fail (clear 1024 (at ws (i + 1)))) fails

    -- without a third word there is no list
    no_list : T (not (leb 3 (length ws - i))) → block (process d (code false) anywhere) true 1 (drop (i + 2) ws) ≡ fail
    unfolding block
    no_list t = let short : length ws ≤ i + 2 = omega (arith, nleb→lt 3 (length ws - i) t) in rw (drop_of_length-le ws short)

    running_list :
        Ends ws i
        (check (fixed_after ws i 1024)
        (and_then (block (process d (code false) anywhere) true 1 (drop (i + 2) ws)) λ l rest.
        check (scope_fits (mark_of h) (zombie_of h) (first_name (at ws (i + 1))) (entries_of l)) (got l rest)))
        (when (leb 3 (length ws - i)) (marked_end (process_end d ws bound) ws h (at ws (i + 1)) (i + 2)))
    unfolding and_then fixed_after
    running_list =
        ends_when (leb 3 (length ws - i))
        (λ t. let two : leb 2 (length ws - i) ≡ true = le-leb 2 (length ws - i) (omega tests) in rw two (marked_end_lem (h / 8 % 4) refl))
        λ t. rw (no_list t) (check_fail (fixed_after ws i 1024))

    pub running_follows : (p : Place) → kind_of h ≡ Kind.scope → Follows ws bound d (running (bound / 65536) (bound % 65536)) p h i
    unfolding node_left row_of rows processes_of exprs and_then node_end scope_end part_place number_of
    running_follows p e =
        let s : Stratum = running (bound / 65536) (bound % 65536) in
        let w : ℕ = at ws (i + 1) in
        rw (e, fixed_one ws ok i 1024, then_check (fixed_after ws i 1024), running_context (bound / 65536) (bound % 65536) p, ← on_when (leb 3 (length ws - i)))
        (ends_early (fixed_after ws i 1024) (block (process d (code false) anywhere) true 1 (drop (i + 2) ws)) (parts (part_by (process d) s Kind.scope) 1) (node_fits s h (w ∷ []))
        (λ l. scope_fits (mark_of h) (zombie_of h) (first_name w) (entries_of l)) (node h (w ∷ []) []) (process_end d ws bound 8)
        (running_fits (bound / 65536) (bound % 65536) h w e)
        running_list
        λ j p q. rw (kept s Kind.scope 0 tt) at (one_part_lem ws bound d below s is_running Kind.scope i j (omega arith)))

    -- of a scope that is code, with its head's test
    pub resting_follows :
        (c : Bool) (p : Place) → kind_of h ≡ Kind.scope →
        Ends ws i (check (clear 4 h) (node_left (expr d) (process d) (code c) h (drop (i + 1) ws)))
        (when (clear 32 h) (node_end (expr_end d ws) (process_end d ws bound) ws (number_of (code c) p) bound h i))
    unfolding node_left row_of rows processes_of exprs and_then node_end scope_end resting_end part_place
    resting_follows c p e =
        let s : Stratum = code c in
        let w : ℕ = at ws (i + 1) in
        let a : Bool = clear 4 h && fixed_after ws i 1024 in
        rw (
          e,
          fixed_one ws ok i 1024,
          then_check (fixed_after ws i 1024),
          check_and (clear 4 h) (fixed_after ws i 1024),
          code_context c p,
          same_context s p,
          resting_walk ws h i (process_end d ws bound (number_of s anywhere)),
        )
        (ends_early a (block (process d (code false) anywhere) true 1 (drop (i + 2) ws)) (parts (part_by (process d) s Kind.scope) 1) (node_fits s h (w ∷ []))
        (λ l. resting_fits (mark_of h) (zombie_of h) (first_name w) (entries_of l)) (node h (w ∷ []) []) (process_end d ws bound (number_of s anywhere))
        (resting_fits_lem c h w e)
        (resting_list ws i (process d (code false) anywhere) (mark_of h) (zombie_of h) (first_name w) a)
        λ j p q. rw (kept s Kind.scope 0 tt) at (one_part_lem ws bound d below s is_code Kind.scope i j (omega arith)))
