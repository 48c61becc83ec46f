-- What the code knows of a configuration once the survey has an engine: it is read, it fits, and its processes begin where the survey
-- says. Where the survey has none, nothing is read.
-- Assumes nothing.
use Prim.Native.Nat.{ℕ, ◌+◌, ◌<◌, ◌≤◌}
use native.Mathlib.Omega.{arith}
use mathlib.Core.Path.{◌≡◌, refl}
use mathlib.Core.Option.{Option, none, some}
use mathlib.Core.List.{List}
use lib.Dec.{T}
use lib.ListN.{length, get_or}
use Rattle.sock.specs.Running.{size}
use Rattle.sock.specs.Configuration.{Limits, Config, encode, read_config}
use Rattle.sock.specs.Calls.{engine_at}
use Rattle.sock.proofs.Fits.{Readable}
use Rattle.sock.proofs.Configuration.{config_found}
use Rattle.sock.proofs.Located.{start_of}
use Rattle.sock.proofs.Running.{awake_as_node'}
use Rattle.reading.specs.Walk.{at}
use Rattle.reading.specs.declared.starts.Starts.{Starts as Found}
use Rattle.reading.specs.Survey.{Starts, no_starts, surveyed}
use Rattle.reading.specs.Answers.{starts_of}
use Rattle.reading.proofs.Combining.{Words}
use Rattle.reading.proofs.Surveyed.{Surveyed, unread, is_read, read_as, survey_reads, survey_law}
use Rattle.reading.proofs.Standing.{start_inside}
use Rattle.reading.proofs.Resting.{code_runs}
use Rattle.reading.proofs.Fresh.{all_fresh, code_config}

pub record Known (limits : Limits) (ws : List ℕ) (s : Starts) : Type 0 where
  pub config : Config
  pub reads : read_config limits ws ≡ some config
  pub same : encode config ≡ ws
  pub readable : Readable limits config
  pub engines : s.engines ≡ length config.engines
  pub starts : (e : ℕ) → e ≤ length config.engines → get_or s.starts e 0 ≡ start_of config e

module _ (limits : Limits) (ws : List ℕ) where
  known_by : {s : Starts} {o : Option Config} → read_config limits ws ≡ o → Surveyed o s → (s.engines ≡ 0 → ⊥) → Known limits ws s
  unfolding no_starts
  known_by r unread h = absurd (h refl)
  known_by r (is_read {c} f) h =
      let q = config_found limits ws c r in
      record { config = c; reads = r; same = q.0; readable = q.1; engines = refl; starts = f }

  unknown_by : {s : Starts} {o : Option Config} → read_config limits ws ≡ o → Surveyed o s → s.engines ≡ 0 → o ≡ none
  unfolding no_starts
  unknown_by r unread h = refl
  unknown_by r (is_read {c} f) h = let some : 0 < length c.engines = (config_found limits ws c r).1.fitting.some in absurd (omega arith)

-- the survey as an engine's root
module _ (limits : Limits) (ws : List ℕ) (ok : Words ws) (s : Starts) (e : s ≡ surveyed limits 11 ws) where
  pub survey_known : (s.engines ≡ 0 → ⊥) → Known limits ws s
  survey_known h = known_by limits ws refl (rw (← e) at (survey_law limits ws ok)) h

  pub survey_unknown : s.engines ≡ 0 → read_config limits ws ≡ none
  survey_unknown h = unknown_by limits ws refl (rw (← e) at (survey_law limits ws ok)) h

-- what the code's survey tells: some engines, or none
module _ (limits : Limits) (ws : List ℕ) (ok : Words ws) where
  pub found_known : (s : Found) → starts_of s ≡ surveyed limits 11 ws → Known limits ws (starts_of s)
  found_known s e = survey_known limits ws ok (starts_of s) e λ z. omega (arith, s.some)

  pub none_known : no_starts ≡ surveyed limits 11 ws → read_config limits ws ≡ none
  unfolding no_starts
  none_known e = survey_unknown limits ws ok no_starts e refl

-- facts of a known configuration, in the code's terms
module _ {limits : Limits} {ws : List ℕ} {s : Starts} (k : Known limits ws s) where
  pub few_engines : s.engines ≤ 8
  few_engines = omega (arith, k.engines, k.readable.fitting.few)

  pub known_length : (2 < length ws) × (length ws ≤ limits.longest)
  known_length =
      let one : 0 < length k.config.engines = k.readable.fitting.some in
      let inside : start_of k.config 0 + size (engine_at k.config 0).process ≤ length ws = rw k.same at (start_inside k.config k.readable.fitting 0 one) in
      (omega arith, rw k.same at k.readable.short)

  pub known_issued : at ws 1 ≡ k.config.issued
  unfolding encode
  known_issued = rw (← k.same)
  -- a process begins and ends within the words

-- the survey as code: known, and every process fresh
module _ (limits : Limits) (ws : List ℕ) where
  code_by :
      {s : Starts} {o : Option Config} → read_as 0 limits ws ≡ o → Surveyed o s →
      (s.engines ≡ 0 → ⊥) → (k : Known limits ws s) × T (all_fresh k.config.engines)
  unfolding no_starts
  code_by r unread h = absurd (h refl)
  code_by r (is_read {c} f) h =
      let fresh = code_config limits ws c r in
      let q = config_found limits ws c fresh.0 in
      (record { config = c; reads = fresh.0; same = q.0; readable = q.1; engines = refl; starts = f }, fresh.1)

  none_by : {s : Starts} {o : Option Config} → read_as 0 limits ws ≡ o → Surveyed o s → s.engines ≡ 0 → o ≡ none
  none_by r unread h = refl
  none_by r (is_read {c} f) h =
      let some : 0 < length c.engines = (config_found limits ws c (code_config limits ws c r).0).1.fitting.some in
      absurd (omega arith)

module _ (limits : Limits) (ws : List ℕ) (ok : Words ws) (s : Starts) (e : s ≡ surveyed limits 3 ws) where
  code_surveyed : Surveyed (read_as 0 limits ws) s
  code_surveyed = rw e (survey_reads 0 (omega arith) limits ws ok λ n issued few word m f. awake_as_node' (code_runs few word f))

  pub code_known : (s.engines ≡ 0 → ⊥) → (k : Known limits ws s) × T (all_fresh k.config.engines)
  code_known h = code_by limits ws refl code_surveyed h

  pub code_unknown : s.engines ≡ 0 → read_as 0 limits ws ≡ none
  code_unknown h = none_by limits ws refl code_surveyed h

module _ (limits : Limits) (ws : List ℕ) (ok : Words ws) where
  pub found_code : (s : Found) → starts_of s ≡ surveyed limits 3 ws → (k : Known limits ws (starts_of s)) × T (all_fresh k.config.engines)
  found_code s e = code_known limits ws ok (starts_of s) e λ z. omega (arith, s.some)

  pub none_code : no_starts ≡ surveyed limits 3 ws → read_as 0 limits ws ≡ none
  unfolding no_starts
  none_code e = code_unknown limits ws ok no_starts e refl
