-- What follows the head of a node, by its kind: the position reader is the definitions' reader, for the kinds whose fields have no
-- further condition.
-- Assumes nothing.
use Prim.Native.Nat.{ℕ, ◌+◌, ◌≤◌, ◌<◌}
use native.Mathlib.Omega.{arith}
use mathlib.Core.Path.{◌≡◌, refl, ap, ◌∙◌}
use mathlib.Core.Bool.{Bool, true, false, not, ◌&&◌, ◌||◌, and-true}
use mathlib.Core.List.{List, [], ◌∷◌, ◌++◌}
use lib.Dec.{T, eqb}
use lib.ListN.{length, drop}
use Rattle.sock.specs.Kind
use Rattle.sock.specs.Kind.{rows, row_of}
use Rattle.sock.specs.Words.{kind_of, count_of, second_of, next_variable}
use Rattle.sock.specs.Variables.{further_of, variables_of, behind_variables, distinct}
use Rattle.sock.specs.Term.{Expr, node, Block, absent, Nodes, no_parts, processes_of}
use Rattle.sock.specs.Reading.{Got, got, and_then, check, Stratum, running, code, Place, anywhere, fields_fit, receives_in, node_fits, fixed_at, fixed_words, expr, exprs, block, process}
use Rattle.sock.proofs.Parts.{part_place, parts, node_left}
use Rattle.sock.proofs.Logic.{test_true}
use Rattle.sock.proofs.Nodes.{receives, receives_none, node_fits_lem}
use Rattle.sock.proofs.Reading.{split}
use Rattle.reading.specs.Walk.{when, at, expr_end, branch_end, repeat_end, branches_end, fixed_after, one_way_end, request_end, notify_end, list_end, solicit_end, node_end, process_end}
use Rattle.layout.specs.Contexts.{handlers}
use Rattle.layout.specs.Keys.{no_key}
use Rattle.reading.proofs.Contexts.{number_of, code_of, next_context, rest_context}
use Rattle.reading.proofs.Combining.{check_and, then_check, when_and, Words}
use Rattle.reading.proofs.Ending.{Ends, reads, ends_then, ends_last, ends_check, ends_passed, ends_late, ends_at}
use Rattle.reading.proofs.Lists.{list_any}
use Rattle.reading.proofs.Owned.{one_list_lem, word_list, word_lists}
use Rattle.reading.proofs.Variables.{list_test, further_at, list_when, list_some, list_inside, receiving_when, on_list, on_receiving, variables_at, behind_at}
use Rattle.reading.proofs.Parts.{one_expr, Bounded, is_code, Below, kept, rested, one_part_lem, two_parts, branches_parts}

-- the kinds whose fields have no further condition, and those of them that receive nothing
abbrev is_free : ℕ → Bool
is_free k = not (eqb k Kind.scope || eqb k Kind.executor || eqb k Kind.waiter || eqb k Kind.notice)

abbrev is_mute : ℕ → Bool
is_mute k = is_free k && not (receives k)

no_one : (a b c d : Bool) → T (not (a || b || c || d)) → (a ≡ false) × (b ≡ false) × (c ≡ false) × (d ≡ false)
no_one false false false false t = (refl, refl, refl, refl)
no_one false false false true t = absurd t
no_one false false true d t = absurd t
no_one false true c d t = absurd t
no_one true b c d t = absurd t

free_fields : (s : Stratum) (h : ℕ) (f : List ℕ) (b : Block) → T (is_free (kind_of h)) → T (fields_fit s h f b)
unfolding fields_fit
free_fields s h f b t = go s (no_one (eqb (kind_of h) Kind.scope) (eqb (kind_of h) Kind.executor) (eqb (kind_of h) Kind.waiter) (eqb (kind_of h) Kind.notice) t)
  where
    go :
        (s : Stratum) →
        (eqb (kind_of h) Kind.scope ≡ false) × (eqb (kind_of h) Kind.executor ≡ false) × (eqb (kind_of h) Kind.waiter ≡ false) × (eqb (kind_of h) Kind.notice ≡ false) →
        T (fields_fit s h f b)
    go (code c) e = rw e.0 tt
    go (running n issued) e = rw (e.0, e.1, e.2, e.3) tt

mute_fits : (s : Stratum) (h : ℕ) (f : List ℕ) (b : Block) → T (is_mute (kind_of h)) → T (node_fits s h f b)
mute_fits s h f b t =
    let u = split (is_free (kind_of h)) (not (receives (kind_of h))) t in
    node_fits_lem s h f b (receives_none h (kind_of h) f refl u.1) (free_fields s h f b u.0)

-- of a kind that receives, the condition is that no variable stands twice
apart_fits : (s : Stratum) (h : ℕ) (f : List ℕ) (b : Block) → T (is_free (kind_of h)) → node_fits s h f b ≡ distinct (receives_in h f)
unfolding node_fits
apart_fits s h f b t = rw (test_true (fields_fit s h f b) (free_fields s h f b t), and-true)

-- the tests of a request and of a solicit in the order of the walk
request_order : (t l m x : Bool) (e : ℕ) → when (t && (l && m) && x) e ≡ when t (when (l && x) (when m e))
unfolding when
request_order true true true true e = refl
request_order true true true false e = refl
request_order true true false true e = refl
request_order true true false false e = refl
request_order true false m x e = refl
request_order false l m x e = refl

solicit_order : (t l m x : Bool) (e : ℕ) → when (t && (l && m) && x) e ≡ when t (when l (when (m && x) e))
unfolding when
solicit_order true true true x e = refl
solicit_order true true false x e = refl
solicit_order true false m x e = refl
solicit_order false l m x e = refl

-- what follows a head ends where the walk says
abbrev pub Follows : List ℕ → ℕ → ℕ → Stratum → Place → ℕ → ℕ → Type 0
Follows ws bound d s p h i =
    Ends ws i (node_left (expr d) (process d) s h (drop (i + 1) ws)) (node_end (expr_end d ws) (process_end d ws bound) ws (number_of s p) bound h i)

module _
    (ws : List ℕ) (ok : Words ws) (bound d : ℕ) (below : Below ws bound d) (s : Stratum) (b : Bounded bound s) (p : Place) (h i : ℕ) (inside : i < length ws)
  where
    -- the node, once its parts are read
    whole :
        (f : List ℕ) (es : List Expr) (l : Block) {g : Got Nodes} {e : ℕ} →
        T (is_mute (kind_of h)) →
        Ends ws i g e →
        Ends ws i (and_then g λ ps rest. check (node_fits s h f l) (got (node h f es l ps) rest)) e
    whole f es l t r = ends_last _ r λ ps p q. ends_passed (node_fits s h f l) (mute_fits s h f l t) (reads p q)

    leaf :
        (f : List ℕ) (es : List Expr) (l : Block) {e : ℕ} → T (is_mute (kind_of h)) → i < e → e ≤ length ws →
        Ends ws i (check (node_fits s h f l) (got (node h f es l no_parts) (drop e ws))) e
    leaf f es l t p q = ends_passed (node_fits s h f l) (mute_fits s h f l t) (reads p q)

    one_way_x : kind_of h ≡ Kind.one_way → (f : List ℕ) → distinct (receives_in h f) ≡ distinct (variables_of (second_of h) f)
    unfolding receives_in
    one_way_x e f = rw e

    request_x : kind_of h ≡ Kind.request → (f : List ℕ) → distinct (receives_in h f) ≡ distinct (variables_of (second_of h) (drop 1 f))
    unfolding receives_in
    request_x e f = rw e

    solicit_x :
        kind_of h ≡ Kind.solicit → (f : List ℕ) →
        distinct (receives_in h f) ≡ distinct (variables_of (next_variable (fixed_at f 0)) (behind_variables (drop 1 f)))
    unfolding receives_in
    solicit_x e f = rw e

    pub nil_follows : kind_of h ≡ Kind.nil → Follows ws bound d s p h i
    unfolding node_left row_of rows processes_of fixed_words exprs block parts and_then node_end
    nil_follows e = rw e (leaf [] [] absent (rw e tt) (omega arith) (omega arith))

    pub one_way_follows : kind_of h ≡ Kind.one_way → Follows ws bound d s p h i
    unfolding node_left row_of rows processes_of exprs block parts and_then node_end one_way_end
    one_way_follows e =
        let t : Bool = list_test ws (i + 1) in
        let x : Bool = distinct (second_of h ∷ further_of (further_at ws (i + 1))) in
        let f : List ℕ = at ws (i + 1) ∷ further_at ws (i + 1) ++ [] in
        let same : node_fits s h f absent ≡ x = apart_fits s h f absent (rw e tt) ∙ one_way_x e f ∙ ap distinct (variables_at ws (i + 1) (second_of h) []) in
        rw (e, one_list_lem ws ok (i + 1), then_check t, same, check_and t x, receiving_when ws (second_of h) (i + 1))
        (ends_check (t && x) λ u. reads (let n = list_some ws (i + 1) (split t x u).0 in omega arith) (list_inside ws (i + 1) (split t x u).0))

    pub throw_follows : kind_of h ≡ Kind.throw → Follows ws bound d s p h i
    unfolding node_left row_of rows processes_of fixed_words exprs block parts and_then node_end
    throw_follows e = rw e (leaf [] [] absent (rw e tt) (omega arith) (omega arith))

    pub comp_follows : kind_of h ≡ Kind.comp → Follows ws bound d s p h i
    unfolding node_left row_of rows processes_of fixed_words exprs block parts and_then node_end
    comp_follows e = rw e (leaf [] [] absent (rw e tt) (omega arith) (omega arith))

    pub cH_follows : kind_of h ≡ Kind.cH → Follows ws bound d s p h i
    unfolding node_left row_of rows processes_of fixed_words exprs block parts and_then node_end
    cH_follows e = rw e (leaf [] [] absent (rw e tt) (omega arith) (omega arith))

    pub assign_follows : kind_of h ≡ Kind.assign → Follows ws bound d s p h i
    unfolding node_left row_of rows processes_of fixed_words block parts and_then node_end
    assign_follows e = rw e (ends_last _ (one_expr ws ok d i (i + 1) (omega arith)) λ es p q. leaf [] es absent (rw e tt) p q)

    pub seq_follows : kind_of h ≡ Kind.seq → Follows ws bound d s p h i
    unfolding node_left row_of rows processes_of fixed_words exprs block and_then node_end part_place
    seq_follows e =
        rw (e, next_context s p, rest_context s p)
        (whole [] [] absent (rw e tt) (rw (kept s Kind.seq 1 tt, rested s Kind.seq 0 tt) at (two_parts ws bound d below s b Kind.seq i (i + 1) (omega arith))))

    pub par_follows : kind_of h ≡ Kind.par → Follows ws bound d s p h i
    unfolding node_left row_of rows processes_of fixed_words exprs block and_then node_end part_place
    par_follows e =
        rw (e, next_context s p)
        (whole [] [] absent (rw e tt) (rw (kept s Kind.par 1 tt, kept s Kind.par 0 tt) at (two_parts ws bound d below s b Kind.par i (i + 1) (omega arith))))

    pub if_follows : kind_of h ≡ Kind.if → Follows ws bound d s p h i
    unfolding node_left row_of rows processes_of fixed_words block and_then node_end branch_end part_place
    if_follows e =
        rw (e, rest_context s p)
        (ends_then _ _ (one_expr ws ok d i (i + 1) (omega arith)) λ es p q.
        whole [] es absent (rw e tt) (rw (rested s Kind.if 1 tt, rested s Kind.if 0 tt) at (two_parts ws bound d below s b Kind.if i (expr_end d ws (i + 1)) (omega arith))))

    pub while_follows : kind_of h ≡ Kind.while → Follows ws bound d s p h i
    unfolding node_left row_of rows processes_of fixed_words block and_then node_end repeat_end part_place
    while_follows e =
        rw (e, rest_context s p)
        (ends_then _ _ (one_expr ws ok d i (i + 1) (omega arith)) λ es p q.
        whole [] es absent (rw e tt) (rw (rested s Kind.while 0 tt) at (one_part_lem ws bound d below s b Kind.while i (expr_end d ws (i + 1)) (omega arith))))

    pub choice_follows :
        kind_of h ≡ Kind.choice →
        Ends ws i (node_left (expr d) (process d) s h (drop (i + 1) ws)) (branches_end (process_end d ws bound) (number_of (code_of s) anywhere) (count_of h) (i + 1))
    unfolding node_left row_of rows processes_of fixed_words exprs block and_then
    choice_follows e = rw e (whole [] [] absent (rw e tt) (branches_parts ws bound d below s b (count_of h) i (i + 1) (omega arith) (omega arith)))

    pub request_follows : kind_of h ≡ Kind.request → Follows ws bound d s p h i
    unfolding node_left row_of rows processes_of exprs block and_then node_end request_end part_place
    request_follows e =
        let t : Bool = fixed_after ws i 2048 in
        let l : Bool = list_test ws (i + 2) in
        let j : ℕ = i + 2 + at ws (i + 2) in
        let m : Bool = list_test ws j in
        let x : Bool = distinct (second_of h ∷ further_of (further_at ws (i + 2))) in
        let g : List ℕ = at ws j ∷ further_at ws j ++ [] in
        let f : List ℕ = at ws (i + 1) ∷ at ws (i + 2) ∷ further_at ws (i + 2) ++ g in
        let same : node_fits s h f absent ≡ x = apart_fits s h f absent (rw e tt) ∙ request_x e f ∙ ap distinct (variables_at ws (i + 2) (second_of h) g) in
        rw (e, rest_context s p, word_lists ws ok i 2048, then_check (t && (l && m)), on_receiving ws (second_of h) (i + 2), on_list ws j)
        (ends_at (request_order t l m x (process_end d ws bound (number_of (code_of s) anywhere) (j + at ws j)))
        (ends_late (t && (l && m)) x (t && (l && m) && x) (λ ps. node_fits s h f absent) (node h f [] absent) refl (λ ps. same)
        (rw (rested s Kind.request 0 tt) at (one_part_lem ws bound d below s b Kind.request i (j + at ws j) (omega arith)))))

    pub notify_follows : kind_of h ≡ Kind.notify → Follows ws bound d s p h i
    unfolding node_left row_of rows processes_of exprs block parts and_then node_end notify_end
    notify_follows e =
        let t : Bool = fixed_after ws i 2048 in
        let l : Bool = list_test ws (i + 2) in
        rw (e, word_list ws ok i 2048, then_check (t && l), list_when ws (i + 2), ← when_and t l)
        (ends_check (t && l) λ u.
        leaf (at ws (i + 1) ∷ at ws (i + 2) ∷ further_at ws (i + 2) ++ []) [] absent (rw e tt) (omega arith) (list_inside ws (i + 2) (split t l u).1))

    pub solicit_follows : kind_of h ≡ Kind.solicit → Follows ws bound d s p h i
    unfolding node_left row_of rows processes_of exprs parts and_then node_end solicit_end number_of
    solicit_follows e =
        let t : Bool = fixed_after ws i 64 in
        let l : Bool = list_test ws (i + 2) in
        let j : ℕ = i + 2 + at ws (i + 2) in
        let m : Bool = list_test ws j in
        let first : ℕ = next_variable (at ws (i + 1)) in
        let x : Bool = distinct (first ∷ further_of (further_at ws j)) in
        let g : List ℕ = at ws j ∷ further_at ws j ++ [] in
        let f : List ℕ = at ws (i + 1) ∷ at ws (i + 2) ∷ further_at ws (i + 2) ++ g in
        let same : (b : Block) → node_fits s h f b ≡ x =
        (λ b. apart_fits s h f b (rw e tt) ∙ solicit_x e f ∙ ap (λ v. distinct (variables_of first v)) (behind_at ws (i + 2) g) ∙ ap distinct (variables_at ws j first [])) in
        rw (e, word_lists ws ok i 64, then_check (t && (l && m)), on_list ws (i + 2), on_receiving ws first j)
        (ends_at (solicit_order t l m x (list_end (process_end d ws bound) ws handlers no_key (j + at ws j)))
        (ends_late (t && (l && m)) x (t && (l && m) && x) (node_fits s h f) (λ b. node h f [] b no_parts) refl same
        (list_any ws ok bound d (λ c. below (code c) is_code) false i (j + at ws j) (omega arith))))

    pub inst_follows : kind_of h ≡ Kind.inst → Follows ws bound d s p h i
    unfolding node_left row_of rows processes_of fixed_words exprs parts and_then node_end number_of
    inst_follows e =
        rw e (ends_last _ (list_any ws ok bound d (λ c. below (code c) is_code) false i (i + 1) (omega arith)) λ l p q. leaf [] [] l (rw e tt) p q)
