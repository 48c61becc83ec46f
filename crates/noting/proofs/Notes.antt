-- The mirrored notes, by what the code knows where it returns.
-- Assumes nothing.
use Prim.Native.Nat.{ℕ, zero, suc, ◌+◌, ◌-◌, ◌*◌, ◌/◌, ◌%◌, ◌≤◌, ◌<◌}
use native.Mathlib.Omega.{arith}
use native.Mathlib.Numerals.{sub-one}
use mathlib.Core.Path.{◌≡◌, refl, sym, subst, ap, ◌∙◌}
use mathlib.Core.Bool.{Bool, true, false, true≢false, not, ◌&&◌, cond, and-false}
use mathlib.Core.List.{List}
use borrow.Author.Tests.{le-ltb, eqb-true, eqb-false, lt-ltb, ne_eqb}
use lib.Bits.{bit_and}
use lib.Dec.{T, ltb, eqb}
use lib.ListN.{length}
use Rattle.std.specs.Prelude.{Option as Maybe, Some, None}
use Rattle.sock.specs.Reading.{running, anywhere, root, allowed, placed}
use Rattle.reading.specs.Tables.{head_mask}
use Rattle.reading.proofs.Given.{as_some, as_none}
use Rattle.reading.specs.Walk.{end_as, rest_of, scope_end, executor_end, when, at, expr_end, process_end, two_end, entries_end, list_end, marked_end, node_end, stands_at, one_word, rests, headed_end}
use Rattle.layout.specs.Kinds.{kind_named, number_of as kind_number}
use Rattle.layout.specs.declared.kind.Kind.{Kind}
use Rattle.reading.specs.Sets.{context_in, head_stands}
use Rattle.reading.proofs.Combining.{Words}
use Rattle.reading.proofs.Contexts.{number_of, head_masked}
use Rattle.reading.proofs.Heads.{head_law}
use Rattle.reading.proofs.Placed.{place_end, place_some, placed_named}
use Rattle.reading.proofs.Sets.{Known, below}
use Rattle.reading.proofs.Turning.{Found, head_found, head_missing, word_ends}
use Rattle.noting.specs.declared.survey.Named.{Named}
use Rattle.noting.specs.Noting.{noted_w, note_w, Noting, par_notes, node_notes, noting, enabled_notes, notes_w, noted_in, engine_notes, engines_notes, seq_notes, scope_notes, executor_notes}

-- no mark, no fault and no entries
pub bare_list :
    (end : ℕ → ℕ → ℕ) (ws : List ℕ) (h i v w : ℕ) → i + 2 < length ws → v ≡ at ws (i + 1) → w ≡ at ws (i + 2) → h / 8 % 4 + v + w ≡ 0 →
    Some (i + 3) ≡ end_as (marked_end end ws h (at ws (i + 1)) (i + 2))
unfolding marked_end list_end entries_end when
bare_list end ws h i v w inside first second none =
    let a : h / 8 % 4 ≡ 0 = omega arith in
    let b : v ≡ 0 = omega arith in
    let c : w ≡ 0 = omega arith in
    as_some _ _ (sym (rw (a, ← first, b, ← second, c, lt-ltb (i + 2) (length ws) inside) (let three : i + 2 + 1 ≡ i + 3 = omega arith in three))) (λ z. absurd (omega arith))

-- ---- by kind

enabled_step :
    (d : ℕ) (ws : List ℕ) (bound c i : ℕ) (m : List ℕ) → (d ≡ 0 → ⊥) →
    enabled_notes d ws bound c i m
    ≡ cond (ltb i (length ws) && eqb (bit_and (at ws i + 65536) (head_mask c (at ws i / 2048))) 0)
    (node_notes (process_end (d - 1) ws bound) (notes_w (d - 1) ws bound) ws bound (at ws i) i m) m
unfolding enabled_notes
enabled_step zero ws bound c i m h = absurd (h refl)
enabled_step (suc d) ws bound c i m h = rw (sub-one (suc d))

-- a scope that runs uses more bits of its head
rests_over : (c h : ℕ) → 8 ≤ c → rests c h ≡ true
unfolding rests
rests_over c h low = rw (le-ltb c 8 low, and-false) refl

-- an enabled process, in one of the contexts of what runs
pub record Headed (d : ℕ) (ws : List ℕ) (kinds i h : ℕ) : Type 0 where
  pub ok : Words ws
  pub known : Known kinds
  pub low : 8 ≤ context_in kinds
  pub stands : stands_at d ws kinds i ≡ true
  pub word : h ≡ at ws i

head_stood : (ws : List ℕ) (kinds d i : ℕ) → stands_at d ws kinds i ≡ true → head_stands kinds (at ws i) ≡ true
unfolding stands_at
head_stood ws kinds d i e = by (not (eqb d 0)) (ltb i (length ws)) (head_stands kinds (at ws i)) e
  where
    by : (a b c : Bool) → (a && b && c) ≡ true → c ≡ true
    by true true c e = e
    by true false c e = absurd (true≢false (sym e))
    by false b c e = absurd (true≢false (sym e))

-- kinds that note nothing
others :
    (end : ℕ → ℕ → ℕ) (sub : Noting) (ws : List ℕ) (bound h i : ℕ) (m : List ℕ) (k : ℕ) → h / 2048 ≡ k → (k ≡ 2 → ⊥) → (k ≡ 3 → ⊥) → (k ≡ 11 → ⊥) → (k ≡ 16 → ⊥) →
    m ≡ node_notes end sub ws bound h i m
unfolding node_notes
others end sub ws bound h i m k e k2 k3 k11 k16 = sym (simp (e, ne_eqb k 2 k2, ne_eqb k 3 k3, ne_eqb k 11 k11, ne_eqb k 16 k16))

module _ (d : ℕ) (ws : List ℕ) (bound kinds i h : ℕ) (m : List ℕ) (head : Headed d ws kinds i h) where
  abbrev c : ℕ
  c = context_in kinds

  found : Found ws bound d c i
  found = head_found ws bound head.ok kinds head.known d i head.stands

  ended : process_end d ws bound c i ≡ node_end (expr_end (d - 1) ws) (process_end (d - 1) ws bound) ws c bound h i
  unfolding headed_end when
  ended = found.ends ∙ rw (rests_over c (at ws i) head.low, ← head.word) refl

  noted : enabled_notes d ws bound c i m ≡ node_notes (process_end (d - 1) ws bound) (notes_w (d - 1) ws bound) ws bound h i m
  noted =
      enabled_step d ws bound c i m found.deep
      ∙ rw (head_law kinds head.known (at ws i) (head.ok i), head_stood ws kinds d i head.stands, rests_over c (at ws i) head.low, lt-ltb i (length ws) found.inside, ← head.word) refl

  -- a process of one word
  pub one_word_ends : T (one_word (h / 2048)) → Some (i + 1) ≡ end_as (process_end d ws bound c i)
  one_word_ends t = word_ends ws bound d c i found (subst (λ w. T (one_word (w / 2048))) head.word t)

  pub one_word_notes : T (one_word (h / 2048)) → m ≡ enabled_notes d ws bound c i m
  one_word_notes t =
      others (process_end (d - 1) ws bound) (notes_w (d - 1) ws bound) ws bound h i m (h / 2048) refl (λ z. subst T (ap one_word z) t) (λ z. subst T (ap one_word z) t)
      (λ z. subst T (ap one_word z) t) (λ z. subst T (ap one_word z) t)
      ∙ sym noted

  -- a node
  pub node_ended : (e : Maybe ℕ) → e ≡ end_as (node_end (expr_end (d - 1) ws) (process_end (d - 1) ws bound) ws c bound h i) → e ≡ end_as (process_end d ws bound c i)
  node_ended e q = q ∙ ap end_as (sym ended)

  pub node_noted : (y : List ℕ) → y ≡ node_notes (process_end (d - 1) ws bound) (notes_w (d - 1) ws bound) ws bound h i m → y ≡ enabled_notes d ws bound c i m
  node_noted y q = q ∙ sym noted

-- a node by its kind, in a context of what is enabled
module _ (d : ℕ) (ws : List ℕ) (bound c i h : ℕ) (m : List ℕ) (low : 8 ≤ c) (high : c < 12) where
  over : c / 4 * 4 ≡ 8
  over = omega arith

  abbrev ends : ℕ
  ends = node_end (expr_end d ws) (process_end d ws bound) ws c bound h i

  abbrev notes : List ℕ
  notes = node_notes (process_end d ws bound) (notes_w d ws bound) ws bound h i m

  pub a_seq :
      (e : Maybe ℕ) (y : List ℕ) → h / 2048 ≡ 2 → e ≡ end_as (two_end (process_end d ws bound) 9 0 (i + 1)) →
      y ≡ seq_notes (process_end d ws bound) (notes_w d ws bound) (i + 1) m → (e ≡ end_as ends) × (y ≡ notes)
  unfolding node_end node_notes rest_of
  a_seq e y k q n = (q ∙ sym (ap end_as (rw (k, over, le-ltb c 8 low) refl)), n ∙ sym (rw k refl))

  pub a_par :
      (e : Maybe ℕ) (y : List ℕ) → h / 2048 ≡ 3 → e ≡ end_as (two_end (process_end d ws bound) 9 9 (i + 1)) →
      y ≡ par_notes (process_end d ws bound) (notes_w d ws bound) (i + 1) m → (e ≡ end_as ends) × (y ≡ notes)
  unfolding node_end node_notes
  a_par e y k q n = (q ∙ sym (ap end_as (rw (k, over) refl)), n ∙ sym (rw k refl))

  pub a_scope :
      (e : Maybe ℕ) (y : List ℕ) → h / 2048 ≡ 11 → e ≡ end_as (scope_end (process_end d ws bound) ws 8 h i) →
      y ≡ scope_notes (process_end d ws bound) (notes_w d ws bound) ws h i m → (e ≡ end_as ends) × (y ≡ notes)
  unfolding node_end node_notes scope_end
  a_scope e y k q n = (q ∙ sym (ap end_as (rw (k, le-ltb c 8 low) refl)), n ∙ sym (rw k refl))

  pub a_executor :
      (e : Maybe ℕ) (y : List ℕ) → h / 2048 ≡ 16 → e ≡ end_as (executor_end (process_end d ws bound) ws bound i) →
      y ≡ executor_notes (notes_w d ws bound) ws bound i m → (e ≡ end_as ends) × (y ≡ notes)
  unfolding node_end node_notes
  a_executor e y k q n = (q ∙ sym (ap end_as (rw k refl)), n ∙ sym (rw k refl))

  -- any other is read without notes
  pub a_other :
      (e : Maybe ℕ) → (h / 2048 ≡ 2 → ⊥) → (h / 2048 ≡ 3 → ⊥) → (h / 2048 ≡ 11 → ⊥) → (h / 2048 ≡ 16 → ⊥) →
      e ≡ end_as (headed_end (expr_end d ws) (process_end d ws bound) ws c bound h i) → (e ≡ end_as ends) × (m ≡ notes)
  unfolding headed_end when
  a_other e k2 k3 k11 k16 q =
      (q ∙ ap end_as (rw (rests_over c h low) refl), others (process_end d ws bound) (notes_w d ws bound) ws bound h i m (h / 2048) refl k2 k3 k11 k16)

-- ---- what does not stand there notes nothing

module _ (d : ℕ) (ws : List ℕ) (bound kinds i : ℕ) (m : List ℕ) (ok : Words ws) (known : Known kinds) where
  notes_none : (d ≡ 0 → ⊥) → (ltb i (length ws) && head_stands kinds (at ws i)) ≡ false → enabled_notes d ws bound (context_in kinds) i m ≡ m
  notes_none deep e =
      enabled_step d ws bound (context_in kinds) i m deep
      ∙ rw (head_law kinds known (at ws i) (ok i)) (by (ltb i (length ws)) (head_stands kinds (at ws i)) (rests (context_in kinds) (at ws i)) e)
    where
      by : (l s r : Bool) → (l && s) ≡ false → cond (l && (s && r)) (node_notes (process_end (d - 1) ws bound) (notes_w (d - 1) ws bound) ws bound (at ws i) i m) m ≡ m
      by true true r e = absurd (true≢false e)
      by true false r e = refl
      by false s r e = refl

  pub missing : stands_at d ws kinds i ≡ false → (None ≡ end_as (process_end d ws bound (context_in kinds) i)) × (m ≡ enabled_notes d ws bound (context_in kinds) i m)
  unfolding stands_at enabled_notes
  missing e = (as_none _ (sym (head_missing ws bound ok kinds known d i e)), by (eqb d 0) refl e)
    where
      zero_left : d ≡ 0 → m ≡ enabled_notes d ws bound (context_in kinds) i m
      zero_left z = rw z refl

      by : (b : Bool) → eqb d 0 ≡ b → (not b && ltb i (length ws) && head_stands kinds (at ws i)) ≡ false → m ≡ enabled_notes d ws bound (context_in kinds) i m
      by true z e = zero_left (eqb-true d 0 z)
      by false z e = sym (notes_none (eqb-false d 0 z) e)

-- ---- what an engine runs

module _ (ws : List ℕ) (ok : Words ws) (bound d i : ℕ) (m : List ℕ) where
  abbrev tested : ℕ → Bool
  tested c = eqb (bit_and (at ws i + 65536) (head_mask c (at ws i / 2048))) 0

  same_test : placed root (at ws i / 2048) ≡ true → tested 11 ≡ tested 8
  unfolding number_of placed
  same_test e = let r = head_masked (running 0 0) root (at ws i) (ok i) in let a = head_masked (running 0 0) anywhere (at ws i) (ok i) in r ∙ rw e (sym a)

  no_test : placed root (at ws i / 2048) ≡ false → tested 11 ≡ false
  unfolding number_of
  no_test e = head_masked (running 0 0) root (at ws i) (ok i) ∙ rw e (by (allowed (running 0 0) (at ws i / 2048)) _)
    where
      by : (a b : Bool) → (a && false && b) ≡ false
      by true b = refl
      by false b = refl

  root_inner : placed root (at ws i / 2048) ≡ true → enabled_notes d ws bound 11 i m ≡ enabled_notes d ws bound 8 i m
  unfolding enabled_notes
  root_inner e = by d
    where
      by : (d : ℕ) → enabled_notes d ws bound 11 i m ≡ enabled_notes d ws bound 8 i m
      by zero = refl
      by (suc d) = rw (same_test e) refl

  root_nothing : placed root (at ws i / 2048) ≡ false → enabled_notes d ws bound 11 i m ≡ m
  unfolding enabled_notes
  root_nothing e = by d
    where
      by : (d : ℕ) → enabled_notes d ws bound 11 i m ≡ m
      by zero = refl
      by (suc d) = rw (no_test e, and-false) refl

  module _ (k : Kind) (named : k ≡ kind_named (at ws i / 2048)) where
    asks : placed root (kind_number k) ≡ placed root (at ws i / 2048)
    asks = ap (λ (k : Kind). placed root (kind_number k)) named ∙ placed_named root (at ws i / 2048)

    pub no_root_notes : placed root (kind_number k) ≡ false → noted_w 0 m i 0 ≡ notes_w d ws bound 11 i m
    unfolding when noting note_w
    no_root_notes e =
        let no = sym asks ∙ e in
        let end : process_end d ws bound 11 i ≡ 0 = place_end ws ok bound i d 11 (omega arith) ∙ rw no refl in
        rw (end, root_nothing no) refl

    pub root_notes : placed root (kind_number k) ≡ true → notes_w d ws bound 8 i m ≡ notes_w d ws bound 11 i m
    unfolding noting
    root_notes e = rw (place_some ws ok bound d i 11 (omega arith) k named e, root_inner (sym asks ∙ e)) refl

-- ---- engines

pub engines_turn :
    (deepest : ℕ) (ws : List ℕ) (bound : ℕ) (named : Named) (n e i : ℕ) (m : List ℕ) → e < n →
    engines_notes deepest ws bound named (n - e) e i m
    ≡ cond (ltb (length ws - i) 64) m
    (cond (eqb (process_end deepest ws bound 11 (i + 64)) 0) (engine_notes deepest ws bound (noted_in named e) (i + 64) m)
    (engines_notes deepest ws bound named (n - (e + 1)) (e + 1) (process_end deepest ws bound 11 (i + 64)) (engine_notes deepest ws bound (noted_in named e) (i + 64) m)))
unfolding engines_notes
engines_turn deepest ws bound named n e i m h = let f : n - e ≡ suc (n - (e + 1)) = omega arith in rw f

pub engines_done : (deepest : ℕ) (ws : List ℕ) (bound : ℕ) (named : Named) (n e i : ℕ) (m : List ℕ) → n ≤ e → engines_notes deepest ws bound named (n - e) e i m ≡ m
unfolding engines_notes
engines_done deepest ws bound named n e i m h = let f : n - e ≡ 0 = omega arith in rw f
