-- Where an engine's process begins and how many words it has, from the survey.
-- Assumes nothing.
use Prim.Native.Nat.{ℕ, ◌+◌, ◌-◌, ◌*◌, ◌<◌, ◌≤◌}
use native.Mathlib.Omega.{arith}
use native.Mathlib.Decide.{ℕ_discrete}
use mathlib.Core.Path.{◌≡◌, sym, ap, ◌∙◌}
use mathlib.Core.Option.{Option, none, some}
use mathlib.Core.List.{List}
use lib.ListN.{length, get_or}
use borrow.Author.Tests.{lt-ltb, le-ltb}
use Rattle.sock.specs.Bytes.{packed_part}
use Rattle.sock.specs.Running.{size}
use Rattle.sock.specs.Configuration.{Config, standard, read_config}
use Rattle.sock.specs.Calls.{engine_at, part_in, process_part}
use Rattle.sock.proofs.Located.{start_of}
use Rattle.reading.specs.Survey.{Starts, no_starts, surveyed}
use Rattle.reading.proofs.Combining.{Words}
use Rattle.reading.proofs.Standing.{start_inside, start_next}
use Rattle.reading.proofs.Known.{Known, known_length, survey_known, survey_unknown}

part_by : (ws : List ℕ) (e : ℕ) (o : Option Config) → read_config standard ws ≡ o → packed_part (process_part standard ws e) ≡ packed_part (part_in e o)
unfolding process_part
part_by ws e o r = ap (λ (x : Option Config). packed_part (part_in e x)) r

-- what the code asks and gives, where there is such an engine
pub record Placed (ws : List ℕ) (s : Starts) (e : ℕ) : Type 0 where
  pub few : s.engines < 9
  pub behind : 64 ≤ get_or s.starts (e + 1) 0
  pub forward : get_or s.starts e 0 ≤ get_or s.starts (e + 1) 0 - 64
  pub inside : get_or s.starts (e + 1) 0 - 64 ≤ 8192
  pub part : get_or s.starts e 0 * 4294967296 + (get_or s.starts (e + 1) 0 - 64 - get_or s.starts e 0) ≡ packed_part (process_part standard ws e)

known_placed : {ws : List ℕ} {s : Starts} (e : ℕ) → Known standard ws s → e < s.engines → Placed ws s e
unfolding part_in packed_part
known_placed {ws} {s} e k h =
    let c : Config = k.config in
    let b : e < length c.engines = omega (arith, k.engines) in
    let f = k.readable.fitting in
    let first : get_or s.starts e 0 ≡ start_of c e = k.starts e (omega arith) in
    let last : get_or s.starts (e + 1) 0 ≡ start_of c (e + 1) = k.starts (e + 1) (omega arith) in
    let next : start_of c (e + 1) ≡ start_of c e + size (engine_at c e).process + 64 = start_next c f e b in
    let within : start_of c e + size (engine_at c e).process ≤ length ws = rw k.same at (start_inside c f e b) in
    let short : length ws ≤ 8192 = (known_length k).1 in
    let count : get_or s.starts (e + 1) 0 - 64 - get_or s.starts e 0 ≡ size (engine_at c e).process = omega arith in
    record {
      few = omega (arith, k.engines, f.few);
      behind = omega arith;
      forward = omega arith;
      inside = omega arith;
      part = sym (part_by ws e (some c) k.reads ∙ rw (lt-ltb e (length c.engines) b, count, first));
    }

module _ (ws : List ℕ) (ok : Words ws) (s : Starts) (q : s ≡ surveyed standard 11 ws) (e : ℕ) where
  pub is_placed : e < s.engines → Placed ws s e
  is_placed h = known_placed e (survey_known standard ws ok s q (λ z. omega arith)) h

  pub none_placed : s.engines ≤ e → 0 ≡ packed_part (process_part standard ws e)
  unfolding part_in packed_part
  none_placed h = by (ℕ_discrete s.engines 0)
    where
      by : Dec (s.engines ≡ 0) → 0 ≡ packed_part (process_part standard ws e)
      by (yes z) = sym (part_by ws e none (survey_unknown standard ws ok s q z))
      by (no n) =
          let k = survey_known standard ws ok s q n in
          sym (part_by ws e (some k.config) k.reads ∙ rw (le-ltb e (length k.config.engines) (omega (arith, k.engines))))

-- where nothing is readable there is no engine
pub unread_placed : (ws : List ℕ) → Words ws → (e : ℕ) → no_starts ≡ surveyed standard 11 ws → 0 ≡ packed_part (process_part standard ws e)
unfolding no_starts
unread_placed ws ok e q = none_placed ws ok no_starts q e (omega arith)
