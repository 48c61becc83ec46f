-- The process of an engine is the part of the words from its start to the next one's values.
-- Assumes nothing.
use Prim.Native.Nat.{ℕ, ◌+◌, ◌-◌, ◌<◌, ◌≤◌}
use native.Mathlib.Omega.{arith}
use mathlib.Core.Path.{◌≡◌, sym, ◌∙◌}
use mathlib.Core.Option.{Option, none, some}
use mathlib.Core.List.{List, []}
use lib.ListN.{length, get_or, take, drop}
use borrow.Author.Tests.{lt-ltb, le-ltb}
use Rattle.std.specs.Prelude.{Option as Maybe, Some, None}
use Rattle.sock.specs.Running.{size}
use Rattle.sock.specs.Configuration.{Limits, Config, read_config}
use Rattle.sock.specs.Calls.{engine_at, part_in, process_part, process_of}
use Rattle.sock.proofs.Located.{start_of}
use Rattle.reading.specs.declared.starts.Starts.{Starts as Found}
use Rattle.reading.specs.Survey.{Starts, surveyed}
use Rattle.reading.specs.Answers.{starts_of, starts_in}
use Rattle.reading.proofs.Combining.{Words}
use Rattle.reading.proofs.Standing.{start_inside, start_next}
use Rattle.reading.proofs.Known.{Known, found_known, none_known}

part_by : (limits : Limits) (ws : List ℕ) (e : ℕ) (o : Option Config) → read_config limits ws ≡ o → process_of limits ws e ≡ take (part_in e o).count (drop (part_in e o).first ws)
unfolding process_of process_part
part_by limits ws e o r = rw r

-- what the code asks and gives, where the part is lent
pub record Lent (limits : Limits) (ws : List ℕ) (s : Starts) (e : ℕ) : Type 0 where
  pub few : s.engines < 9
  pub behind : 64 ≤ get_or s.starts (e + 1) 0
  pub forward : get_or s.starts e 0 ≤ get_or s.starts (e + 1) 0 - 64
  pub inside : get_or s.starts (e + 1) 0 - 64 ≤ length ws
  pub part : take (get_or s.starts (e + 1) 0 - 64 - get_or s.starts e 0) (drop (get_or s.starts e 0) ws) ≡ process_of limits ws e

known_lent : {limits : Limits} {ws : List ℕ} {s : Starts} (e : ℕ) → Known limits ws s → e < s.engines → Lent limits ws s e
unfolding part_in
known_lent {limits} {ws} {s} e k h =
    let c : Config = k.config in
    let b : e < length c.engines = omega (arith, k.engines) in
    let f = k.readable.fitting in
    let first : get_or s.starts e 0 ≡ start_of c e = k.starts e (omega arith) in
    let last : get_or s.starts (e + 1) 0 ≡ start_of c (e + 1) = k.starts (e + 1) (omega arith) in
    let next : start_of c (e + 1) ≡ start_of c e + size (engine_at c e).process + 64 = start_next c f e b in
    let within : start_of c e + size (engine_at c e).process ≤ length ws = rw k.same at (start_inside c f e b) in
    let count : get_or s.starts (e + 1) 0 - 64 - get_or s.starts e 0 ≡ size (engine_at c e).process = omega arith in
    record {
      few = omega (arith, k.engines, f.few);
      behind = omega arith;
      forward = omega arith;
      inside = omega arith;
      part = sym (part_by limits ws e (some c) k.reads ∙ rw (lt-ltb e (length c.engines) b, count, first));
    }

module _ (limits : Limits) (ws : List ℕ) (ok : Words ws) (o : Maybe Found) (q : starts_in o ≡ surveyed limits 11 ws) (e : ℕ) where
  pub is_lent : (s : Found) → o ≡ Some s → e < s.engines → Lent limits ws (starts_of s) e
  is_lent s p h = known_lent e (found_known limits ws ok s (rw p at q)) h

  pub none_lent : o ≡ None → [] ≡ process_of limits ws e
  unfolding part_in
  none_lent p = sym (part_by limits ws e none (none_known limits ws ok (rw p at q)))

  pub beyond_lent : (s : Found) → o ≡ Some s → s.engines ≤ e → [] ≡ process_of limits ws e
  unfolding part_in
  beyond_lent s p h =
      let k = found_known limits ws ok s (rw p at q) in
      sym (part_by limits ws e (some k.config) k.reads ∙ rw (le-ltb e (length k.config.engines) (omega (arith, k.engines))))
