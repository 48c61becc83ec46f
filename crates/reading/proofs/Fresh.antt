-- A configuration whose processes are read as code is the configuration that is read, with every process fresh; and back.
-- Assumes nothing.
use Prim.Native.Nat.{ℕ, zero, suc, ◌<◌, ◌≤◌}
use mathlib.Core.Path.{◌≡◌, refl}
use mathlib.Core.Bool.{Bool, true, false, ◌&&◌}
use mathlib.Core.Option.{Option, some}
use mathlib.Core.List.{List, [], ◌∷◌}
use lib.Dec.{T, leb, ltb, leb→le, ltb→lt}
use lib.ListN.{length}
use Rattle.sock.specs.Words.{is_word}
use Rattle.sock.specs.Reading.{Got, fail, got, and_then, Stratum, running, code, root, process}
use Rattle.sock.specs.Running.{awake}
use Rattle.sock.specs.Configuration.{Limits, Engine, Config, read_values, read_engine, read_engines, whole, guarded, read_config, fresh_run}
use Rattle.sock.proofs.Logic.{and_left, and_right, and_both, All, all_none, all_some, all_some_lem}
use Rattle.sock.proofs.Reading.{Holds, nothing, something, holds_then, found, finds}
use Rattle.reading.proofs.Resting.{fresh_fits, code_runs, code_awake}
use Rattle.reading.proofs.Surveyed.{read_as}

unfoldable pub all_fresh : List Engine → Bool
all_fresh [] = true
all_fresh (e ∷ es) = fresh_run e.process && all_fresh es

-- an engine whose values are read
abbrev engine_of : ℕ → Stratum → List ℕ → List ℕ → Got Engine
engine_of d s vs next = and_then (process d s root next) λ p rest. got (record { values = vs; process = awake p }) rest

holds_map : {A : Type 0} {P Q : A → List ℕ → Type 0} {g : Got A} → ((a : A) (rest : List ℕ) → P a rest → Q a rest) → Holds P g → Holds Q g
holds_map f nothing = nothing
holds_map f (something {a} {rest} p) = something (f a rest p)

module _ (d n issued : ℕ) (few : n ≤ 8) (word : issued < 65536) where
  -- ---- read as code

  process_code : (ws : List ℕ) → Holds (λ p rest. (process d (running n issued) root ws ≡ got p rest) × T (fresh_run (awake p))) (process d (code false) root ws)
  process_code ws =
      holds_map
      (λ p rest f. (rw f.begins (finds d (code_runs few word f.fitting) f.shallow rest), code_awake few word f.fitting))
      (found d (code false) root ws)

  engine_from : (g : Got (List ℕ)) → Holds (λ e rest. (and_then g (engine_of d (running n issued)) ≡ got e rest) × T (fresh_run e.process)) (and_then g (engine_of d (code false)))
  unfolding and_then
  engine_from fail = nothing
  engine_from (got vs next) = holds_then (process_code next) λ p rest q.
      something {a = record { values = vs; process = awake p }} {rest = rest} (rw q.0, q.1)

  pub engine_code : (ws : List ℕ) → Holds (λ e rest. (read_engine d (running n issued) ws ≡ got e rest) × T (fresh_run e.process)) (read_engine d (code false) ws)
  unfolding read_engine
  engine_code ws = engine_from (read_values 32 ws)

  engines_code : (k : ℕ) (ws : List ℕ) → Holds (λ es rest. (read_engines d (running n issued) k ws ≡ got es rest) × T (all_fresh es)) (read_engines d (code false) k ws)
  unfolding read_engines all_fresh and_then
  engines_code zero ws = something (refl, tt)
  engines_code (suc k) ws =
      holds_then (engine_code ws) λ e next p.
      holds_then (engines_code k next) λ es rest q.
      something (rw (p.0, q.0), and_both (fresh_run e.process) (all_fresh es) p.1 q.1)

  -- ---- and back

  process_back : (ws : List ℕ) → Holds (λ p rest. T (fresh_run (awake p)) → process d (code false) root ws ≡ got p rest) (process d (running n issued) root ws)
  process_back ws = holds_map (λ p rest f t. rw f.begins (finds d (fresh_fits f.fitting t) f.shallow rest)) (found d (running n issued) root ws)

  engine_onto : (g : Got (List ℕ)) → Holds (λ e rest. T (fresh_run e.process) → and_then g (engine_of d (code false)) ≡ got e rest) (and_then g (engine_of d (running n issued)))
  unfolding and_then
  engine_onto fail = nothing
  engine_onto (got vs next) = holds_then (process_back next) λ p rest q.
      something {a = record { values = vs; process = awake p }} {rest = rest} λ t. rw (q t)

  pub engine_back : (ws : List ℕ) → Holds (λ e rest. T (fresh_run e.process) → read_engine d (code false) ws ≡ got e rest) (read_engine d (running n issued) ws)
  unfolding read_engine
  engine_back ws = engine_onto (read_values 32 ws)

  engines_back : (k : ℕ) (ws : List ℕ) → Holds (λ es rest. T (all_fresh es) → read_engines d (code false) k ws ≡ got es rest) (read_engines d (running n issued) k ws)
  unfolding read_engines all_fresh and_then
  engines_back zero ws = something λ t. refl
  engines_back (suc k) ws =
      holds_then (engine_back ws) λ e next p.
      holds_then (engines_back k next) λ es rest q.
      something λ t. rw (p (and_left (fresh_run e.process) (all_fresh es) t), q (and_right (fresh_run e.process) (all_fresh es) t))

-- ---- configurations

whole_code :
    (issued : ℕ) {g r : Got (List Engine)} → Holds (λ es rest. (r ≡ got es rest) × T (all_fresh es)) g → All (λ c. (whole issued r ≡ some c) × T (all_fresh c.engines)) (whole issued g)
unfolding whole
whole_code issued nothing = all_none
whole_code issued (something {a = es} {rest = []} q) = all_some {a = record { issued = issued; engines = es }} (rw q.0, q.1)
whole_code issued (something {a = es} {rest = w ∷ rest} q) = all_none

whole_back :
    (issued : ℕ) {g r : Got (List Engine)} → Holds (λ es rest. T (all_fresh es) → r ≡ got es rest) g → All (λ c. T (all_fresh c.engines) → whole issued r ≡ some c) (whole issued g)
unfolding whole
whole_back issued nothing = all_none
whole_back issued (something {a = es} {rest = []} q) = all_some {a = record { issued = issued; engines = es }} λ t. rw (q t)
whole_back issued (something {a = es} {rest = w ∷ rest} q) = all_none

guarded_code : (b : Bool) {o r : Option Config} → (T b → All (λ c. (r ≡ some c) × T (all_fresh c.engines)) o) → All (λ c. (guarded b r ≡ some c) × T (all_fresh c.engines)) (guarded b o)
unfolding guarded
guarded_code true f = f tt
guarded_code false f = all_none

guarded_back : (b : Bool) {o r : Option Config} → (T b → All (λ c. T (all_fresh c.engines) → r ≡ some c) o) → All (λ c. T (all_fresh c.engines) → guarded b r ≡ some c) (guarded b o)
unfolding guarded
guarded_back true f = f tt
guarded_back false f = all_none

module _ (limits : Limits) where
  abbrev opens : ℕ → ℕ → ℕ → Bool
  opens n issued long = ltb 0 n && leb n 8 && is_word issued && leb long limits.longest

  opened : (n issued long : ℕ) → T (opens n issued long) → (n ≤ 8) × (issued < 65536)
  opened n issued long t =
      let t = and_left (ltb 0 n && leb n 8 && is_word issued) (leb long limits.longest) t in
      (leb→le n 8 (and_right (ltb 0 n) (leb n 8) (and_left (ltb 0 n && leb n 8) (is_word issued) t)), ltb→lt issued 65536 (and_right (ltb 0 n && leb n 8) (is_word issued) t))

  -- what is read as code is read, and every process is fresh
  config_code : (ws : List ℕ) → All (λ c. (read_config limits ws ≡ some c) × T (all_fresh c.engines)) (read_as 0 limits ws)
  unfolding read_config read_as
  config_code [] = all_none
  config_code (n ∷ []) = all_none
  config_code (n ∷ issued ∷ ws) =
      guarded_code (opens n issued (suc (suc (length ws)))) λ t.
      let b = opened n issued (suc (suc (length ws))) t in
      whole_code issued (engines_code limits.deepest n issued b.0 b.1 n ws)

  config_back : (ws : List ℕ) → All (λ c. T (all_fresh c.engines) → read_as 0 limits ws ≡ some c) (read_config limits ws)
  unfolding read_config read_as
  config_back [] = all_none
  config_back (n ∷ []) = all_none
  config_back (n ∷ issued ∷ ws) =
      guarded_back (opens n issued (suc (suc (length ws)))) λ t.
      let b = opened n issued (suc (suc (length ws))) t in
      whole_back issued (engines_back limits.deepest n issued b.0 b.1 n ws)

  pub code_config : (ws : List ℕ) (c : Config) → read_as 0 limits ws ≡ some c → (read_config limits ws ≡ some c) × T (all_fresh c.engines)
  code_config ws c e = all_some_lem (config_code ws) e

  pub fresh_config : (ws : List ℕ) (c : Config) → read_config limits ws ≡ some c → T (all_fresh c.engines) → read_as 0 limits ws ≡ some c
  fresh_config ws c e = all_some_lem (config_back ws) e
