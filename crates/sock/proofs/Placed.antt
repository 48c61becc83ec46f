-- Ends stand only enabled: counted wherever they stand they are as many as among what is enabled, and each is named by an engine and a
-- position.
-- Assumes nothing.
use Prim.Native.Nat.{ℕ, suc, ◌≤◌, ◌<◌}
use native.Mathlib.Omega.{arith}
use mathlib.Core.Path.{◌≡◌, refl, subst, ap, ◌∙◌}
use mathlib.Core.Bool.{Bool, true, false, not}
use mathlib.Core.Option.{none, some}
use mathlib.Core.List.{List, []}
use lib.Dec.{T, ltb, leb→le, ltb→lt, lt→ltb}
use lib.ListN.{length, get_or}
use Rattle.sock.specs.Words.{bit, kind_of}
use Rattle.sock.specs.Term.{Expr, Node, Block, Entries, Nodes}
use Rattle.sock.specs.Reading.{Stratum, code, Place, allowed}
use Rattle.sock.specs.Running.{Run, nil, seq, par, scope, executor, waiter, notice, act, as_node, Form, nil_form, seq_form, par_form, scope_form, executor_form, waiter_form, notice_form, plain, forms, in_form, opened, all_opened, awake}
use Rattle.sock.specs.Configuration.{Engine, Config}
use Rattle.sock.specs.Rules.{also}
use Rattle.sock.specs.Calls.{engine_at, enabled_at, End, end_of, is_end, tally, tally_all}
use Rattle.sock.specs.Everywhere.{occurs, occurs_in, occurs_each, occurs_all, occurs_engines, everywhere}
use Rattle.sock.specs.Runs.{of_spot, names}
use Rattle.sock.proofs.Parts.{part_stratum}
use Rattle.sock.proofs.Fits.{Fits, fits, FitsBlock, no_list, a_list, FitsEntries, empty_fits, entry_fits_on, FitsParts, no_part, one_part, Sound, nil_sound, seq_sound, par_sound, scope_sound, executor_sound, waiter_sound, notice_sound, act_sound, FitsEngines, no_engines, one_engine, FitsConfig}
use Rattle.sock.proofs.Fields.{end, ◌then◌, fact_at}
use Rattle.sock.proofs.ByKind.{head_tests}
use Rattle.sock.proofs.Running.{as_node_awake}
use Rattle.sock.proofs.Tallies.{endless}
use Rattle.sock.proofs.Located.{tallied, either, position}
use Rattle.sock.proofs.Configuration.{passed}

-- ---- counted by tests of ends, and named by an engine and a position

tallied_tally : (t : End → Bool) (r : Run) → tallied (is_end t) r ≡ tally t r
unfolding tallied tally
tallied_tally t nil = refl
tallied_tally t (seq p q) = tallied_tally t p
tallied_tally t (par p q) = omega (arith, tallied_tally t p, tallied_tally t q)
tallied_tally t (scope name mark zombie h p) = tallied_tally t p
tallied_tally t (executor o y client serial p) = omega (arith, tallied_tally t p)
tallied_tally t (waiter o x dead server serial l) = refl
tallied_tally t (notice o f client serial) = refl
tallied_tally t (act p) = refl

module _ (t : Run → Bool) where
  named_at : (c : Config) (e : ℕ) → e < length c.engines → 0 < tallied t (engine_at c e).process → (p : ℕ) × names c t e p
  unfolding enabled_at also of_spot
  named_at c e h m =
      let (p, b, l, at, u) = position t (engine_at c e).process [] m in
      let found : enabled_at c e p ≡ some (record { engine = e; values = (engine_at c e).values; frames = l.frames; process = l.process }) =
      passed (ltb e (length c.engines)) (lt→ltb e (length c.engines) h) ∙ rw at in
      (p, rw found u)

-- ---- none stands in code

form_endless : (g : Form) → T (endless g) → (h : ℕ) (f : List ℕ) (es : List Expr) (b : Block) (ps : Nodes) (rs : List Run) → end_of (in_form g h f es b ps rs) ≡ none
unfolding in_form
form_endless nil_form e h f es b ps rs = refl
form_endless seq_form e h f es b ps rs = refl
form_endless par_form e h f es b ps rs = refl
form_endless scope_form e h f es b ps rs = refl
form_endless executor_form e h f es b ps rs = absurd e
form_endless waiter_form e h f es b ps rs = absurd e
form_endless notice_form e h f es b ps rs = absurd e
form_endless plain e h f es b ps rs = refl

code_endless : (k : ℕ) → k < 16 → T (endless (get_or forms k plain))
unfolding forms
code_endless k h =
    fact_at {P = λ k. T (endless (get_or forms k plain))}
    (tt then tt then tt then tt then tt then tt then tt then tt then tt then tt then tt then tt then tt then tt then tt then tt then end)
    k (omega arith) h

code_below : (cH : Bool) (k : ℕ) → T (allowed (code cH) k) → k < 16
unfolding allowed
code_below true k h = let z = leb→le k 15 h in omega arith
code_below false k h = let z = ltb→lt k 15 h in omega arith

-- a test that only ends pass
abbrev pub OnlyEnds : (Run → Bool) → Type 0
OnlyEnds t = (r : Run) → end_of r ≡ none → t r ≡ false

pub end_only : (t : End → Bool) → OnlyEnds (is_end t)
end_only t r e = rw e

module _ (t : Run → Bool) (only : OnlyEnds t) where
  mutual
    unfolding occurs occurs_in occurs_each occurs_all part_stratum awake opened

    code_none : {s : Stratum} {p : Place} {m : Node} → Fits s p m → (cH : Bool) → s ≡ code cH → occurs t m ≡ 0
    code_none (fits {s} {p} {h} {f} {es} {b} {ps} hd fx ex bl pt nf) cH q =
        let below : kind_of h < 16 = code_below cH (kind_of h) (subst (λ s. T (allowed s (kind_of h))) q (head_tests s p h hd).0) in
        rw (only _ (form_endless (get_or forms (kind_of h) plain) (code_endless (kind_of h) below) h f es b ps (all_opened forms ps)))
        (omega (arith, list_none bl, parts_none pt cH q))

    list_none : {o : Bool} {n : ℕ} {b : Block} → FitsBlock o n b → occurs_in t b ≡ 0
    list_none no_list = refl
    list_none (a_list f) = entries_none f

    entries_none : {o : Bool} {least : ℕ} {l : Entries} → FitsEntries o least l → occurs_each t l ≡ 0
    entries_none empty_fits = refl
    entries_none (entry_fits_on {ofScope = o} low high good f fs) = omega (arith, code_none f (not o) refl, entries_none fs)

    parts_none : {s : Stratum} {k n : ℕ} {ps : Nodes} → FitsParts s k n ps → (cH : Bool) → s ≡ code cH → occurs_all t ps ≡ 0
    parts_none no_part cH q = refl
    parts_none (one_part {k = k} {n = n} f fs) cH q = omega (arith, code_none f cH (ap (λ s. part_stratum s k n) q), parts_none fs cH q)

  module _ {n issued : ℕ} (few : n ≤ 8) (word : issued < 65536) where
    -- an engine in which some pass the test
    abbrev Above : List Engine → Type 0
    Above es = (i : ℕ) × (i < length es) × (0 < tallied t (get_or es i (record { values = []; process = nil })).process)

    -- a process itself, opened again
    itself : {r : Run} → Sound n issued r → bit (t (awake (as_node r))) ≡ bit (t r)
    itself g = ap (λ r. bit (t r)) (as_node_awake few word g)

    none_itself : {r : Run} → Sound n issued r → end_of r ≡ none → bit (t (awake (as_node r))) ≡ 0
    none_itself {r} g e = itself g ∙ ap bit (only r e)

    enabled_all : {r : Run} → Sound n issued r → occurs t (as_node r) ≡ tallied t r
    unfolding occurs occurs_in occurs_each occurs_all as_node tallied
    enabled_all nil_sound = omega (arith, none_itself nil_sound refl)
    enabled_all (seq_sound g d f) = omega (arith, none_itself (seq_sound g d f) refl, enabled_all g, code_none f false refl)
    enabled_all (par_sound g d h d') = omega (arith, none_itself (par_sound g d h d') refl, enabled_all g, enabled_all h)
    enabled_all (scope_sound {mark = k} {zombie = z} b m l g) = omega (arith, none_itself (scope_sound {mark = k} {zombie = z} b m l g) refl, enabled_all g, entries_none l)
    enabled_all (executor_sound bo by e g) = omega (arith, itself (executor_sound bo by e g), enabled_all g)
    enabled_all (waiter_sound {dead = z} bo bx e f) = omega (arith, itself (waiter_sound {dead = z} bo bx e f), entries_none f)
    enabled_all (notice_sound bo bf e) = omega (arith, itself (notice_sound bo bf e))
    enabled_all (act_sound i f) = code_none f false refl

    engine_above : {es : List Engine} → FitsEngines n issued es → 0 < occurs_engines t es → Above es
    unfolding occurs_engines
    engine_above no_engines h = absurd (omega arith)
    engine_above (one_engine {e} {es} f fs) h =
        either (occurs t (as_node e.process)) (occurs_engines t es) h
        (λ m. (0, omega arith, omega (arith, enabled_all f.sound)))
        (λ m. let w = engine_above fs m in let b : w.0 < length es = w.1 in (suc w.0, omega arith, w.2))

  -- an end that is counted anywhere is named by an engine and a position
  pub named_somewhere : {c : Config} → FitsConfig c → 0 < everywhere t c → (e : ℕ) × (p : ℕ) × names c t e p
  unfolding everywhere
  named_somewhere {c} f h =
      let w = engine_above f.few f.word f.engines h in
      let n = named_at t c w.0 w.1 w.2 in
      (w.0, n.0, n.1)

module _ (t : End → Bool) where
  engines_all : {n issued : ℕ} {es : List Engine} → n ≤ 8 → issued < 65536 → FitsEngines n issued es → occurs_engines (is_end t) es ≡ tally_all t es
  unfolding occurs_engines tally_all
  engines_all few word no_engines = refl
  engines_all few word (one_engine {e} f fs) =
      omega (arith, enabled_all (is_end t) (end_only t) few word f.sound, tallied_tally t e.process, engines_all few word fs)

  -- ends counted wherever they stand are as many as are counted among what is enabled
  pub everywhere_all : {c : Config} → FitsConfig c → everywhere (is_end t) c ≡ tally_all t c.engines
  unfolding everywhere
  everywhere_all f = engines_all f.few f.word f.engines
