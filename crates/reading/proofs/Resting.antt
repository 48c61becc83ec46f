-- A process that fits as code runs as a fresh one, and a fresh process that runs fits as code: the tree is the same.
-- Assumes nothing.
use Prim.Native.Nat.{ℕ, ◌*◌, ◌<◌, ◌≤◌}
use native.Mathlib.Omega.{arith}
use mathlib.Core.Path.{◌≡◌, refl}
use mathlib.Core.Bool.{Bool, true, false, not, ◌&&◌}
use mathlib.Core.List.{List, [], ◌∷◌}
use lib.Dec.{T, eqb}
use Rattle.sock.specs.Kind
use Rattle.sock.specs.Kind.{rows, row_of}
use Rattle.sock.specs.Words.{clear, kind_of, bit, name_fields}
use Rattle.sock.specs.Variables.{first_of, distinct}
use Rattle.sock.specs.Term.{Expr, Node, node, Block, Nodes, Entries, no_entries, entry, list, part_at}
use Rattle.sock.specs.Reading.{running, code, Place, anywhere, not_nil, root, allowed, placed, branched, fields_fit, receives_in, node_fits, resting_fits, is_empty}
use Rattle.sock.specs.Running.{Mark, unmarked, faulted, own_name, mark_number, marked_fault, scope_head, Run, as_node, awake, enable}
use Rattle.sock.specs.Configuration.{is_unmarked, fresh_run}
use Rattle.sock.proofs.Parts.{part_stratum, part_place}
use Rattle.sock.proofs.Logic.{and_left, and_right, and_both, test_false}
use Rattle.sock.proofs.Fits.{FitsExprs, no_exprs, FitsFixed, no_fixed, one_fixed, Fits, fits, FitsBlock, no_list, a_list, FitsParts, no_part, one_part, Sound, nil_sound, seq_sound, par_sound, scope_sound, executor_sound, waiter_sound, notice_sound, act_sound, rootable}
use Rattle.sock.proofs.Fields.{fixed_fits, fault_below, head_kind, fields_below, scope_kind, scope_clear, scope_mark, scope_zombie, fault_of}
use Rattle.sock.proofs.Nodes.{part_fits}
use Rattle.sock.proofs.ByKind.{at_place, fits_as, code_kind, run_kind, kind_as_node, scoped_kind, kind_placed}
use Rattle.sock.proofs.Opening.{of_code, plain_fits}
use Rattle.sock.proofs.Variables.{laid}
use Rattle.sock.proofs.Running.{enable_as_node, enable_sound, enable_done, awake_as_node', awake_sound, as_node_fits, as_node_awake}

-- ---- fresh is code

-- a scope that rests
resting_passes :
    (name : ℕ) (mark : Mark) (zombie : Bool) (h : Entries) → name < 64 → T (is_unmarked mark && not zombie && is_empty h) →
    T (node_fits (code false) (scope_head name mark zombie) ((marked_fault mark * 1024) ∷ []) (list h))
unfolding node_fits fields_fit receives_in distinct resting_fits is_unmarked is_empty
resting_passes name mark zombie h b t =
    rw (scope_kind name mark zombie b, scope_mark name mark zombie b, scope_zombie name mark zombie b, fault_of (marked_fault mark)) (by mark zombie h t)
  where
    by : (mark : Mark) (zombie : Bool) (h : Entries) → T (is_unmarked mark && not zombie && is_empty h) → T (eqb (mark_number mark) 0 && eqb (bit zombie) 0 && eqb (marked_fault mark) 0 && is_empty h)
    by unmarked false no_entries t = tt
    by unmarked false (entry k p es) t = absurd t
    by unmarked true h t = absurd t
    by (faulted f) zombie h t = absurd t
    by own_name zombie h t = absurd t

-- code that is no choice fits
rests_as :
    {p : Place} {h k : ℕ} {f : List ℕ} {b : Block} {ps : Nodes} →
    kind_of h ≡ k →
    T (allowed (code false) k && not (eqb k Kind.choice)) →
    T (placed p k) →
    T (clear (row_of k).spare h) →
    FitsFixed (row_of k).fixed f →
    FitsExprs (row_of k).expressions [] →
    FitsBlock (eqb k Kind.scope) (row_of k).lists b →
    FitsParts (code false) k (row_of k).processes ps →
    T (node_fits (code false) h f b) →
    Fits (code false) p (node h f [] b ps)
unfolding branched
rests_as {h = h} {k} e a l c fx ex bl pt nf =
    let no = and_right (allowed (code false) k) (not (eqb k Kind.choice)) a in
    let no_choice : eqb k Kind.choice ≡ false = test_false (eqb k Kind.choice) no in
    fits_as e (and_left (allowed (code false) k) (not (eqb k Kind.choice)) a, l, c, rw (e, no_choice) tt) fx ex bl (rw no_choice pt) nf

module _ {n issued : ℕ} where
  fresh_placed : {r : Run} → Sound n issued r → T (fresh_run r) → {p : Place} → T (placed p (run_kind r)) → Fits (code false) p (as_node r)
  unfolding as_node row_of rows allowed placed part_stratum part_place node_fits fields_fit receives_in distinct fresh_run
  fresh_placed nil_sound t l = rests_as refl tt l tt no_fixed no_exprs no_list no_part tt
  fresh_placed (seq_sound a d q) t l =
      rests_as refl tt l tt no_fixed no_exprs no_list (one_part (fresh_placed a t {p = not_nil} (kind_placed a not_nil d)) (one_part q no_part)) tt
  fresh_placed (par_sound {a = x} {b = y} a d b d') t l =
      let fa = fresh_placed a (and_left (fresh_run x) (fresh_run y) t) {p = not_nil} (kind_placed a not_nil d) in
      let fb = fresh_placed b (and_right (fresh_run x) (fresh_run y) t) {p = not_nil} (kind_placed b not_nil d') in
      rests_as refl tt l tt no_fixed no_exprs no_list (one_part fa (one_part fb no_part)) tt
  fresh_placed (scope_sound {name} {mark} {zombie} {h} {a = r} b m fh a) t l =
      let rests : T (is_unmarked mark && not zombie && is_empty h) = and_left (is_unmarked mark && not zombie && is_empty h) (fresh_run r) t in
      let fw = fixed_fits 1024 (marked_fault mark * 1024) (omega (arith, fault_below mark zombie h m)) (omega arith) in
      let c : T (clear 4 (scope_head name mark zombie)) = rw (scope_clear name mark zombie b) tt in
      let fa = fresh_placed a (and_right (is_unmarked mark && not zombie && is_empty h) (fresh_run r) t) {p = anywhere} tt in
      rests_as (scope_kind name mark zombie b) tt l c (one_fixed fw no_fixed) no_exprs (a_list fh) (one_part fa no_part) (resting_passes name mark zombie h b rests)
  fresh_placed (executor_sound bo by e a) t l = absurd t
  fresh_placed (waiter_sound bo bx e fl) t l = absurd t
  fresh_placed (notice_sound bo bf e) t l = absurd t
  fresh_placed (act_sound i f) t l = plain_fits n issued of_code of_code i (code_kind f) l f

  pub fresh_fits : {p : Place} {m : Node} → Fits (running n issued) p m → T (fresh_run (awake m)) → Fits (code false) p m
  fresh_fits {p} {m} f t =
      let s = awake_sound f in
      let same : as_node (awake m) ≡ m = awake_as_node' f in
      rw same at (fresh_placed s t {p = p} (rw (← kind_as_node s, same) (at_place f)))

-- ---- code is fresh

code_part : {p : Place} {h : ℕ} {f : List ℕ} {es : List Expr} {b : Block} {ps : Nodes} → Fits (code false) p (node h f es b ps) → (i : ℕ) → Fits (code false) anywhere (part_at ps i)
code_part (fits t fx ex bl pt nf) i = part_fits pt i

code_node : {p : Place} {h : ℕ} {f : List ℕ} {es : List Expr} {b : Block} {ps : Nodes} → Fits (code false) p (node h f es b ps) → T (node_fits (code false) h f b)
code_node (fits t fx ex bl pt nf) = nf

rests :
    (name : ℕ) (mark : Mark) (zombie : Bool) (h : Entries) → name < 64 →
    T (node_fits (code false) (scope_head name mark zombie) ((marked_fault mark * 1024) ∷ []) (list h)) →
    T (is_unmarked mark && not zombie && is_empty h)
unfolding node_fits fields_fit receives_in distinct resting_fits is_unmarked is_empty
rests name mark zombie h b t =
    by mark zombie h (rw (scope_kind name mark zombie b, scope_mark name mark zombie b, scope_zombie name mark zombie b, fault_of (marked_fault mark)) at t)
  where
    by : (mark : Mark) (zombie : Bool) (h : Entries) → T (eqb (mark_number mark) 0 && eqb (bit zombie) 0 && eqb (marked_fault mark) 0 && is_empty h) → T (is_unmarked mark && not zombie && is_empty h)
    by unmarked false no_entries t = tt
    by unmarked false (entry k p es) t = absurd t
    by unmarked true h t = absurd t
    by (faulted f) zombie h t = absurd t
    by own_name zombie h t = absurd t

module _ {n issued : ℕ} (few : n ≤ 8) (word : issued < 65536) where
  code_fresh : {r : Run} → Sound n issued r → {p : Place} → Fits (code false) p (as_node r) → T (fresh_run r)
  unfolding as_node fresh_run
  code_fresh nil_sound f = tt
  code_fresh (seq_sound a d q) f = code_fresh a (code_part f 0)
  code_fresh (par_sound {a = x} {b = y} a d b d') f = and_both (fresh_run x) (fresh_run y) (code_fresh a (code_part f 0)) (code_fresh b (code_part f 1))
  code_fresh (scope_sound {name} {mark} {zombie} {h} {a = r} b m fh a) f =
      and_both (is_unmarked mark && not zombie && is_empty h) (fresh_run r) (rests name mark zombie h b (code_node f)) (code_fresh a (code_part f 0))
  code_fresh (executor_sound {o} {y} bo by e a) f = absurd (omega (arith, code_kind f, head_kind 16 (name_fields o (first_of y)) (fields_below o (first_of y) bo (laid y by).low)))
  code_fresh (waiter_sound {o} {x} bo bx e fl) f = absurd (omega (arith, code_kind f, head_kind 17 (name_fields o (first_of x)) (fields_below o (first_of x) bo (laid x bx.fitting).low)))
  code_fresh (notice_sound {o} bo bf e) f = absurd (omega (arith, code_kind f, head_kind 18 (name_fields o 0) (fields_below o 0 bo (omega arith))))
  code_fresh (act_sound i f) g = tt

  module _ {m : Node} (f : Fits (code false) root m) where
    same : as_node (enable m) ≡ m
    same = enable_as_node f

    enable_root : T (rootable (enable m))
    unfolding placed
    enable_root = let s = enable_sound n issued f in rw (enable_done f, scoped_kind s, ← kind_as_node s, same) (at_place f)

    pub code_runs : Fits (running n issued) root m
    code_runs = rw same at (as_node_fits few word (enable_sound n issued f) {p = root} enable_root)

    pub code_awake : T (fresh_run (awake m))
    code_awake =
        let s = enable_sound n issued f in
        let opens : awake m ≡ enable m = rw same at (as_node_awake few word s) in
        rw opens (code_fresh s {p = root} (rw same f))
