-- A newcomer's words: what the code reads as code that has not begun, with a head that is not 0 and nothing behind it, is the definitions' newcomer.
-- Assumes nothing.
use Prim.Native.Nat.{ℕ, ◌+◌, ◌*◌, ◌≤◌, ◌<◌}
use native.Mathlib.Omega.{arith}
use native.Mathlib.Nat.{add-zero}
use mathlib.Core.Path.{◌≡◌, refl, sym, ap, subst, ◌∙◌}
use mathlib.Core.Bool.{Bool, true, false, not, ◌&&◌}
use mathlib.Core.Option.{Option, none, some}
use mathlib.Core.List.{List, [], ◌∷◌, ◌++◌, append_assoc}
use lib.Dec.{T, eqb}
use lib.ListN.{length, get_or, drop, length-drop}
use lib.Seq.{drop-length, get_or-append-add}
use borrow.Author.Tests.{eq-eqb, ne_eqb, eqb-true, eqb-false}
use Rattle.sock.specs.Reading.{Got, fail, got, running, code}
use Rattle.sock.specs.Running.{as_node, run_words}
use Rattle.sock.specs.Term.{head_word}
use Rattle.sock.specs.Configuration.{standard, Engine, values_words, engine_words, read_engine, guarded, also, fresh_run, is_scope}
use Rattle.sock.specs.Engines.{nothing_behind, newcomer}
use Rattle.sock.proofs.Logic.{and_right, test_true}
use Rattle.sock.proofs.Reading.{Holds, nothing, something}
use Rattle.sock.proofs.Running.{awake_as_node'}
use Rattle.sock.proofs.Located.{values_length}
use Rattle.sock.proofs.Configuration.{EngineFound, engine_found}
use Rattle.reading.specs.Walk.{at, process_end}
use Rattle.reading.proofs.Combining.{Words}
use Rattle.reading.proofs.Processes.{process_ends}
use Rattle.reading.proofs.Standing.{first_word, root_head}
use Rattle.reading.proofs.Surveyed.{EngineAt, no_values, no_process, an_engine, engine_at}
use Rattle.reading.proofs.Resting.{code_runs}
use Rattle.reading.proofs.Fresh.{engine_code, engine_back}
use Rattle.engines.specs.Comer.{is_there}

holds_got : {A : Type 0} {P : A → List ℕ → Type 0} {g : Got A} {a : A} {rest : List ℕ} → Holds P g → g ≡ got a rest → P a rest
holds_got {P = P} {a = a} {rest} h e = by (subst (Holds P) e h)
  where
    by : Holds P (got a rest) → P a rest
    by (something p) = p

module _ (ws : List ℕ) (ok : Words ws) (n : ℕ) (few : n ≤ 8) where
  as_code : Got Engine
  as_code = read_engine 64 (code false) ws

  as_run : Got Engine
  as_run = read_engine 64 (running n 0) ws

  -- what the newcomer is, by what is read
  comes_of : Got Engine → Option Engine
  comes_of g = also (nothing_behind g) λ e. guarded (is_scope e.process && fresh_run e.process) (some e)

  comes : newcomer standard n ws ≡ comes_of as_run
  unfolding newcomer comes_of as_run
  comes = refl

  not_both : {A : Type 0} {a : A} {rest : List ℕ} → fail ≡ got a rest → ⊥
  not_both e = let z : ◌≡◌ {A = ℕ} 0 1 = cc in omega arith

  -- no code, no newcomer
  none_of : {g : Got Engine} → as_code ≡ fail → Holds (λ e rest. T (fresh_run e.process) → as_code ≡ got e rest) g → comes_of g ≡ none
  unfolding comes_of nothing_behind also guarded
  none_of f nothing = refl
  none_of f (something {a = e} {rest = w ∷ rest} q) = refl
  none_of f (something {a = e} {rest = []} q) = by (is_scope e.process && fresh_run e.process) refl
    where
      by : (b : Bool) → is_scope e.process && fresh_run e.process ≡ b → guarded b (some e) ≡ none
      by true t = absurd (not_both (sym f ∙ q (and_right (is_scope e.process) (fresh_run e.process) (subst T (sym t) tt))))
      by false t = refl

  not_code : as_code ≡ fail → newcomer standard n ws ≡ none
  unfolding as_code as_run
  not_code f = comes ∙ none_of f (engine_back 64 n 0 few (omega arith) ws)

  -- an engine that is read as code
  module _ {e : Engine} {rest : List ℕ} (q : as_code ≡ got e rest) where
    runs : (as_run ≡ got e rest) × T (fresh_run e.process)
    unfolding as_code as_run
    runs = holds_got (engine_code 64 n 0 few (omega arith) ws) q

    there : EngineFound 64 n 0 ws e rest
    unfolding as_run
    there = holds_got (engine_found 64 n 0 ws) runs.0

    -- its head
    head : at ws 64 ≡ head_word (as_node e.process)
    unfolding engine_words
    head =
        let long : length (values_words e.values) ≡ 64 = omega (arith, values_length e.values, there.fitting.counted) in
        let split : ws ≡ values_words e.values ++ (run_words e.process ++ rest) = there.begins ∙ append_assoc (values_words e.values) (run_words e.process) rest in
        ap (λ us. get_or us 64 0) split
        ∙ ap (λ k. get_or (values_words e.values ++ (run_words e.process ++ rest)) k 0) (sym (add-zero (length (values_words e.values)) ∙ long))
        ∙ get_or-append-add (values_words e.values) (run_words e.process ++ rest) 0 0
        ∙ first_word e.process rest

    scope_head_lem : eqb (at ws 64) 0 ≡ not (is_scope e.process)
    scope_head_lem = rw head (root_head there.fitting.sound there.fitting.placed)

    came : newcomer standard n ws ≡ comes_of (got e rest)
    came = comes ∙ ap comes_of runs.0

    -- nil, and a scope
    nil_comes : at ws 64 ≡ 0 → newcomer standard n ws ≡ none
    unfolding comes_of nothing_behind also guarded
    nil_comes z = came ∙ by rest
      where
        unscoped : is_scope e.process ≡ false
        unscoped = off (is_scope e.process) (sym (eq-eqb (at ws 64) 0 z) ∙ scope_head_lem)
          where
            off : (b : Bool) → true ≡ not b → b ≡ false
            off true t = absurd (subst T t tt)
            off false t = refl

        by : (rest : List ℕ) → comes_of (got e rest) ≡ none
        by (w ∷ rest) = refl
        by [] = rw unscoped

    behind_comes : (0 < length rest) → newcomer standard n ws ≡ none
    unfolding comes_of nothing_behind also
    behind_comes h = came ∙ by rest h
      where
        by : (rest : List ℕ) → 0 < length rest → comes_of (got e rest) ≡ none
        by [] h = absurd (omega arith)
        by (w ∷ rest) h = refl

    scope_comes : (at ws 64 ≡ 0 → ⊥) → rest ≡ [] → newcomer standard n ws ≡ some e
    unfolding comes_of nothing_behind also guarded
    scope_comes z r =
        let scoped : not (is_scope e.process) ≡ false = sym scope_head_lem ∙ ne_eqb (at ws 64) 0 z in
        let fresh : fresh_run e.process ≡ true = test_true (fresh_run e.process) runs.1 in
        came ∙ ap (λ rest. comes_of (got e rest)) r ∙ by (is_scope e.process) (fresh_run e.process) scoped fresh
      where
        by : (a b : Bool) → not a ≡ false → b ≡ true → guarded (a && b) (some e) ≡ some e
        by true true p q = refl
        by true false p q = absurd (subst T (sym q) tt)
        by false b p q = absurd (subst T p tt)

  -- where the process that the code reads ends
  abbrev end : ℕ
  end = process_end 64 ws (n * 65536) 3 64

  engine_there : EngineAt ws 0 end as_code
  unfolding as_code
  engine_there =
      let bound : n * 65536 + 0 ≡ n * 65536 = add-zero (n * 65536) in
      let word : 0 < 65536 = omega arith in
      rw bound at
      (engine_at ws ok 64 (code false) (process_end 64 ws (n * 65536 + 0) 3) (λ i. process_ends ws ok n 0 (omega arith) 64 3 (omega arith) i)
      (λ m f. awake_as_node' {n = n} {issued = 0} (code_runs few word f)) 0 (omega arith))

  -- what the code knows at each return
  pub few_words : length ws < 64 → false ≡ is_there (newcomer standard n ws)
  unfolding is_there
  few_words h = by engine_there refl
    where
      by : {g : Got Engine} → EngineAt ws 0 end g → as_code ≡ g → false ≡ is_there (newcomer standard n ws)
      by (no_values p) q = rw (not_code q)
      by (no_process p z) q = rw (not_code q)
      by (an_engine p f i l) q = absurd (omega arith)

  pub head_nil : 64 ≤ length ws → at ws 64 ≡ 0 → false ≡ is_there (newcomer standard n ws)
  unfolding is_there
  head_nil h z = by engine_there refl
    where
      by : {g : Got Engine} → EngineAt ws 0 end g → as_code ≡ g → false ≡ is_there (newcomer standard n ws)
      by (no_values p) q = rw (not_code q)
      by (no_process p f) q = rw (not_code q)
      by (an_engine p f i l) q = rw (nil_comes q z)

  pub whole_read : (e : ℕ) → 64 ≤ length ws → (at ws 64 ≡ 0 → ⊥) → e ≡ end → eqb e (length ws) ≡ is_there (newcomer standard n ws)
  unfolding is_there
  whole_read e h z same = rw same (by engine_there refl)
    where
      at_end : (f : ℕ) → f ≤ length ws → (g : Engine) → as_code ≡ got g (drop f ws) → (b : Bool) → eqb f (length ws) ≡ b → b ≡ is_there (newcomer standard n ws)
      at_end f i g q true t =
          let all : f ≡ length ws = eqb-true f (length ws) t in
          rw (scope_comes q z (ap (λ k. drop k ws) all ∙ drop-length ws))
      at_end f i g q false t =
          let less : 0 < length (drop f ws) = rw length-drop (omega (arith, eqb-false f (length ws) t)) in
          rw (behind_comes q less)

      by : {g : Got Engine} → EngineAt ws 0 end g → as_code ≡ g → eqb end (length ws) ≡ is_there (newcomer standard n ws)
      by (no_values p) q = absurd (omega arith)
      by (no_process p f) q = rw (not_code q, f) (ne_eqb 0 (length ws) (λ y. omega arith))
      by (an_engine {g} p f i l) q = at_end end i g q (eqb end (length ws)) refl
