-- Between trees that fit and what is enabled. Code that becomes enabled, and a process that was read enabled, keep their words and are sound;
-- what is sound fits as a tree and is read back.
-- Assumes nothing.
use Prim.Native.Nat.{ℕ, ◌+◌, ◌*◌, ◌%◌, ◌≤◌, ◌<◌}
use native.Mathlib.Omega.{arith}
use mathlib.Core.Path.{◌≡◌, refl, sym, ap, ap₂, ◌∙◌}
use mathlib.Core.Bool.{Bool, true, false, not, ◌&&◌}
use mathlib.Core.List.{List, [], ◌∷◌}
use lib.Dec.{T}
use lib.ListN.{take}
use Rattle.sock.specs.Kind
use Rattle.sock.specs.Kind.{rows, row_of}
use Rattle.sock.specs.Words.{is_word, clear, kind_of, bit, head_of, name_fields}
use Rattle.sock.specs.Variables.{first_of, variable_words, distinct}
use Rattle.sock.specs.Term.{Node, Entries, absent, list, is_nil}
use Rattle.sock.specs.Reading.{running, code, Place, not_nil, root, allowed, placed, fields_fit, receives_in, node_fits, scope_fits, end_fits}
use Rattle.sock.specs.Running.{Mark, mark_number, marked_fault, scope_head, Run, seq, par, scope, executor, as_node, forms, in_form, opened, all_opened, awake, enable}
use Rattle.sock.specs.Frames.{is_done}
use Rattle.sock.proofs.Parts.{part_stratum, part_place}
use Rattle.sock.proofs.Fits.{no_exprs, no_fixed, one_fixed, Fits, no_list, a_list, no_part, one_part, Sound, nil_sound, seq_sound, par_sound, scope_sound, executor_sound, waiter_sound, notice_sound, act_sound, FitsDistinct, MarkFits, rootable, PlacedRun}
use Rattle.sock.proofs.Nodes.{node_fits_lem, receives_none}
use Rattle.sock.proofs.Variables.{laid, list_fits, variables_back}
use Rattle.sock.proofs.Fields.{fixed_fits, clear_one, end_tests, four_pass, mark_passes, fault_below, mark_by_mark, is_one_bit, bit_below, head_kind, fields_below, name_of_lem, second_of_lem, scope_kind, scope_clear, scope_name, scope_mark, scope_zombie, fault_of, client_of, dead_of_lem, server_of, noticed_fault, noticed_client}
use Rattle.sock.proofs.ByKind.{at_place, runs_as, code_kind, run_kind, kind_as_node, scoped_kind, kind_placed}
use Rattle.sock.proofs.Opening.{of_code, of_running, plain_fits, plain_opened, good, good_done}

-- ---- code that becomes enabled

pub enable_as_node : {p : Place} {m : Node} → Fits (code false) p m → as_node (enable m) ≡ m
unfolding enable
enable_as_node f = (good 0 0 f (take 12 forms) of_code).same

pub enable_sound : (n issued : ℕ) {p : Place} {m : Node} → Fits (code false) p m → Sound n issued (enable m)
unfolding enable
enable_sound n issued f = (good n issued f (take 12 forms) of_code).sound

pub enable_done : {p : Place} {m : Node} → Fits (code false) p m → is_done (enable m) ≡ is_nil m
unfolding enable
enable_done f = good_done 0 0 (good 0 0 f (take 12 forms) of_code)

-- ---- a process that was read enabled

module _ {n issued : ℕ} where
  pub awake_as_node' : {p : Place} {m : Node} → Fits (running n issued) p m → as_node (awake m) ≡ m
  unfolding awake
  awake_as_node' f = (good n issued f forms of_running).same

  pub awake_sound : {p : Place} {m : Node} → Fits (running n issued) p m → Sound n issued (awake m)
  unfolding awake
  awake_sound f = (good n issued f forms of_running).sound

  pub awake_done : {p : Place} {m : Node} → Fits (running n issued) p m → is_done (awake m) ≡ is_nil m
  unfolding awake
  awake_done f = good_done n issued (good n issued f forms of_running)

  pub awake_not_nil : {m : Node} → Fits (running n issued) not_nil m → T (not (is_done (awake m)))
  unfolding placed
  awake_not_nil f = rw (awake_done f) (at_place f)

  pub awake_root : {m : Node} → Fits (running n issued) root m → T (rootable (awake m))
  unfolding placed
  awake_root f =
      let s = awake_sound f in
      rw (awake_done f, scoped_kind s, ← kind_as_node s, awake_as_node' f) (at_place f)

-- ---- back

waiter_distinct :
    (o : ℕ) (x : List ℕ) (w serial : ℕ) →
    o < 64 →
    FitsDistinct x →
    kind_of (head_of Kind.waiter (name_fields o (first_of x))) ≡ 17 →
    T (distinct (receives_in (head_of Kind.waiter (name_fields o (first_of x))) (w ∷ serial ∷ variable_words x)))
unfolding receives_in
waiter_distinct o x w serial bo bx k = rw (k, second_of_lem 17 o (first_of x) (laid x bx.fitting).low, variables_back x bx.fitting) bx.apart

-- the fields of each kind that is checked
module _ (n issued : ℕ) where
  scope_passes :
      (name : ℕ) (mark : Mark) (zombie : Bool) (h : Entries) →
      name < 64 →
      MarkFits mark zombie h →
      T (node_fits (running n issued) (scope_head name mark zombie) ((marked_fault mark * 1024) ∷ []) (list h))
  unfolding fields_fit
  scope_passes name mark zombie h b m =
      node_fits_lem (running n issued) (scope_head name mark zombie) ((marked_fault mark * 1024) ∷ []) (list h)
      (receives_none (scope_head name mark zombie) 11 ((marked_fault mark * 1024) ∷ []) (scope_kind name mark zombie b) tt)
      (rw (scope_kind name mark zombie b, scope_mark name mark zombie b, scope_zombie name mark zombie b, fault_of (marked_fault mark))
      (four_pass (scope_fits (mark_number mark) (bit zombie) (marked_fault mark) h) true true true (mark_passes mark zombie h m, tt, tt, tt)))

  executor_passes :
      (h client serial : ℕ) (g : List ℕ) → kind_of h ≡ 16 → T (end_fits n issued client serial) → T (node_fits (running n issued) h ((client * 8192) ∷ serial ∷ g) absent)
  unfolding fields_fit
  executor_passes h client serial g k e =
      node_fits_lem (running n issued) h ((client * 8192) ∷ serial ∷ g) absent (receives_none h 16 ((client * 8192) ∷ serial ∷ g) k tt)
      (rw (k, client_of client) (four_pass true (end_fits n issued client serial) true true (tt, e, tt, tt)))

  waiter_passes :
      (h dead server serial : ℕ) (g : List ℕ) (l : Entries) →
      T (distinct (receives_in h ((dead * 32768 + server * 4096) ∷ serial ∷ g))) →
      kind_of h ≡ 17 →
      server < 8 →
      T (end_fits n issued server serial) →
      T (node_fits (running n issued) h ((dead * 32768 + server * 4096) ∷ serial ∷ g) (list l))
  unfolding fields_fit
  waiter_passes h dead server serial g l d k b e =
      node_fits_lem (running n issued) h ((dead * 32768 + server * 4096) ∷ serial ∷ g) (list l) d
      (rw (k, server_of dead server b) (four_pass true true (end_fits n issued server serial) true (tt, tt, e, tt)))

  notice_passes :
      (h f client serial : ℕ) →
      kind_of h ≡ 18 →
      client < 8 →
      T (end_fits n issued client serial) →
      T (node_fits (running n issued) h ((f * 1024 + client * 128) ∷ serial ∷ []) absent)
  unfolding fields_fit
  notice_passes h f client serial k b e =
      node_fits_lem (running n issued) h ((f * 1024 + client * 128) ∷ serial ∷ []) absent
      (receives_none h 18 ((f * 1024 + client * 128) ∷ serial ∷ []) k tt)
      (rw (k, noticed_client f client b) (four_pass true true true (end_fits n issued client serial) (tt, tt, tt, e)))

module _ {n issued : ℕ} (few : n ≤ 8) (word : issued < 65536) where
  engine_below : (engine serial : ℕ) → T (end_fits n issued engine serial) → engine < 8
  engine_below engine serial e = omega (arith, end_tests n issued engine serial e)

  serial_fits : (engine serial : ℕ) → T (end_fits n issued engine serial) → T (is_word serial && clear 1 serial)
  serial_fits engine serial e = fixed_fits 1 serial (omega (arith, end_tests n issued engine serial e)) (omega arith)

  fits_placed : {r : Run} → Sound n issued r → {p : Place} → T (placed p (run_kind r)) → Fits (running n issued) p (as_node r)
  unfolding as_node row_of rows allowed placed part_stratum part_place node_fits distinct receives_in fields_fit
  fits_placed nil_sound l = runs_as refl tt l tt no_fixed no_exprs no_list no_part tt
  fits_placed (seq_sound a d q) l =
      let fa = fits_placed a {p = not_nil} (kind_placed a not_nil d) in
      runs_as refl tt l tt no_fixed no_exprs no_list (one_part fa (one_part q no_part)) tt
  fits_placed (par_sound a d b d') l =
      let fa = fits_placed a {p = not_nil} (kind_placed a not_nil d) in
      let fb = fits_placed b {p = not_nil} (kind_placed b not_nil d') in
      runs_as refl tt l tt no_fixed no_exprs no_list (one_part fa (one_part fb no_part)) tt
  fits_placed (scope_sound {name} {mark} {zombie} {h} b m fh a) l =
      let fw = fixed_fits 1024 (marked_fault mark * 1024) (omega (arith, fault_below mark zombie h m)) (omega arith) in
      let c : T (clear 4 (scope_head name mark zombie)) = rw (scope_clear name mark zombie b) tt in
      runs_as (scope_kind name mark zombie b) tt l c (one_fixed fw no_fixed) no_exprs (a_list fh) (one_part (fits_placed a tt) no_part)
      (scope_passes n issued name mark zombie h b m)
  fits_placed (executor_sound {o} {y} {client} {serial} bo by e a) l =
      let h = head_of Kind.executor (name_fields o (first_of y)) in
      let k = head_kind 16 (name_fields o (first_of y)) (fields_below o (first_of y) bo (laid y by).low) in
      let fw = fixed_fits 8192 (client * 8192) (omega (arith, engine_below client serial e)) (omega arith) in
      let c : T (clear 1 h) = rw (clear_one h) tt in
      runs_as k tt l c (one_fixed fw (one_fixed (serial_fits client serial e) (list_fits y by))) no_exprs no_list (one_part (fits_placed a tt) no_part)
      (executor_passes n issued h client serial (variable_words y) k e)
  fits_placed (waiter_sound {o} {x} {server} {serial} {dead} {l = s} bo bx e fl) l =
      let h = head_of Kind.waiter (name_fields o (first_of x)) in
      let k = head_kind 17 (name_fields o (first_of x)) (fields_below o (first_of x) bo (laid x bx.fitting).low) in
      let b = engine_below server serial e in
      let fw = fixed_fits 4096 (bit dead * 32768 + server * 4096) (omega (arith, bit_below dead)) (omega arith) in
      let c : T (clear 1 h) = rw (clear_one h) tt in
      runs_as k tt l c (one_fixed fw (one_fixed (serial_fits server serial e) (list_fits x bx.fitting))) no_exprs (a_list fl) no_part
      (waiter_passes n issued h (bit dead) server serial (variable_words x) s (waiter_distinct o x (bit dead * 32768 + server * 4096) serial bo bx k) k b e)
  fits_placed (notice_sound {o} {f} {client} {serial} bo bf e) l =
      let h = head_of Kind.notice (name_fields o 0) in
      let k = head_kind 18 (name_fields o 0) (fields_below o 0 bo (omega arith)) in
      let b = engine_below client serial e in
      let fw = fixed_fits 128 (f * 1024 + client * 128) (omega arith) (omega arith) in
      let ch : h % 32 ≡ 0 = omega arith in
      let c : T (clear 32 h) = rw ch tt in
      runs_as k tt l c (one_fixed fw (one_fixed (serial_fits client serial e) no_fixed)) no_exprs no_list no_part
      (notice_passes n issued h f client serial k b e)
  fits_placed (act_sound i f) l = plain_fits n issued of_code of_running i (code_kind f) l f

  pub as_node_fits : {r : Run} → Sound n issued r → {p : Place} → PlacedRun p r → Fits (running n issued) p (as_node r)
  as_node_fits s {p} l = fits_placed s (kind_placed s p l)

  pub as_node_awake : {r : Run} → Sound n issued r → awake (as_node r) ≡ r
  unfolding awake opened all_opened in_form forms as_node
  as_node_awake nil_sound = refl
  as_node_awake (seq_sound {q = q} a d fq) = ap (λ r. seq r q) (as_node_awake a)
  as_node_awake (par_sound a d b d') = ap₂ par (as_node_awake a) (as_node_awake b)
  as_node_awake (scope_sound {name} {mark} {zombie} {h} b m fh a) =
      rw (scope_kind name mark zombie b, scope_name name mark zombie b, scope_mark name mark zombie b, scope_zombie name mark zombie b, fault_of (marked_fault mark), mark_by_mark mark, is_one_bit zombie)
      (ap (scope name mark zombie h) (as_node_awake a))
  as_node_awake (executor_sound {o} {y} {client} {serial} bo by e a) =
      rw (head_kind 16 (name_fields o (first_of y)) (fields_below o (first_of y) bo (laid y by).low), name_of_lem 16 o (first_of y) bo (laid y by).low, second_of_lem 16 o (first_of y) (laid y by).low, client_of client, variables_back y by)
      (ap (executor o y client serial) (as_node_awake a))
  as_node_awake (waiter_sound {o} {x} {server} {serial} {dead} {l} bo bx e fl) =
      let b = engine_below server serial e in
      rw (head_kind 17 (name_fields o (first_of x)) (fields_below o (first_of x) bo (laid x bx.fitting).low), name_of_lem 17 o (first_of x) bo (laid x bx.fitting).low, second_of_lem 17 o (first_of x) (laid x bx.fitting).low, variables_back x bx.fitting, dead_of_lem (bit dead) server b, server_of (bit dead) server b, is_one_bit dead)
  as_node_awake (notice_sound {o} {f} {client} {serial} bo bf e) =
      let b = engine_below client serial e in
      rw (head_kind 18 (name_fields o 0) (fields_below o 0 bo (omega arith)), name_of_lem 18 o 0 bo (omega arith), noticed_fault f client b, noticed_client f client b)
  as_node_awake (act_sound {p} i f) = plain_opened n issued of_running p i (code_kind f)

-- code that becomes enabled is opened as what is read enabled is
pub enable_awake : {p : Place} {m : Node} → Fits (code false) p m → enable m ≡ awake m
enable_awake f = sym (as_node_awake {n = 1} {issued = 0} (omega arith) (omega arith) (enable_sound 1 0 f)) ∙ ap awake (enable_as_node f)
