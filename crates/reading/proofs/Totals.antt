-- The ends of a serial in all engines: what the code counts is what the definitions count, and it fits a word.
-- Assumes nothing.
use Prim.Native.Nat.{ℕ, zero, suc, ◌+◌, ◌*◌, ◌<◌, ◌≤◌}
use native.Mathlib.Omega.{arith}
use native.Mathlib.Nat.{add-zero, zero-add, add_assoc}
use native.Mathlib.Numerals.{add-one}
use mathlib.Core.Path.{◌≡◌, sym, ap, ◌∙◌}
use mathlib.Core.Bool.{Bool, true, false, ◌&&◌}
use mathlib.Core.Option.{Option, none, some}
use mathlib.Core.List.{List, [], ◌∷◌, ◌++◌}
use lib.Dec.{leb, ltb}
use lib.ListN.{length, get_or, drop, length-append}
use lib.Seq.{drop-cons, drop-length}
use Rattle.std.specs.Prelude.{Option as Maybe}
use Rattle.sock.specs.Running.{Run, nil, seq, par, scope, executor, waiter, notice, act, run_words, size, run_depth}
use Rattle.sock.specs.Configuration.{Limits, Engine, Config, engine_words, engines_words, encode, engines_depth, read_config}
use Rattle.sock.specs.Calls.{waiting, working, unreadable, unknown_serial, done, ◌!◌, ◌>>=◌, ◌>>◌, ◌unless◌, engine_at, End, Ends, tally, tally_all, waits, works, known, counted, ends}
use Rattle.sock.proofs.Fields.{bit_below}
use Rattle.sock.proofs.Located.{start_of, words_after}
use Rattle.sock.proofs.Measures.{size_seq, size_par, size_scope, size_executor, size_waiter, size_notice}
use Rattle.reading.specs.declared.ends.Counted.{Counted}
use Rattle.reading.specs.Walk.{at}
use Rattle.reading.specs.declared.starts.Starts.{Starts as Found}
use Rattle.reading.specs.Survey.{Starts, no_starts, surveyed}
use Rattle.reading.specs.Answers.{starts_of}
use Rattle.reading.specs.Tally.{waiters_in, workers_in, tally_at, total_from}
use Rattle.reading.proofs.Combining.{Words}
use Rattle.reading.proofs.Standing.{fits_at, stands_at}
use Rattle.reading.proofs.Known.{Known, found_known, none_known, known_issued}
use Rattle.reading.proofs.Tallied.{tallied}

-- ---- no more ends than words

module _ (test : End → Bool) where
  tally_below : (r : Run) → tally test r ≤ size r
  unfolding tally
  tally_below nil = omega arith
  tally_below (seq p q) = omega (arith, tally_below p, size_seq p q)
  tally_below (par p q) = omega (arith, tally_below p, tally_below q, size_par p q)
  tally_below (scope name mark zombie h p) = omega (arith, tally_below p, size_scope name mark zombie h p)
  tally_below (executor o y client serial p) = omega (arith, tally_below p, size_executor o y client serial p, bit_below (test (working serial o client)))
  tally_below (waiter o x dead server serial l) = omega (arith, size_waiter o x dead server serial l, bit_below (test (waiting serial o server)))
  tally_below (notice o f client serial) = omega (arith, size_notice o f client serial, bit_below (test (working serial o client)))
  tally_below (act p) = omega arith

  all_below : (es : List Engine) → tally_all test es ≤ length (engines_words es)
  unfolding tally_all engines_words engine_words size
  all_below [] = omega arith
  all_below (g ∷ gs) = simp length-append (omega (arith, tally_below g.process, all_below gs))

pub engine_depth : (es : List Engine) (e : ℕ) (d : Engine) → e < length es → run_depth (get_or es e d).process ≤ engines_depth es
unfolding engines_depth
engine_depth [] e d h = absurd (omega arith)
engine_depth (g ∷ gs) zero d h = omega arith
engine_depth (g ∷ gs) (suc e) d h = omega (arith, engine_depth gs e d (omega arith))

-- ---- over the engines

module _ {limits : Limits} {ws : List ℕ} {s : Starts} (ok : Words ws) (k : Known limits ws s) (serial : ℕ) where
  abbrev count : ℕ → Maybe Counted
  count i = tally_at limits.deepest ws serial (length k.config.engines * 65536 + k.config.issued) i

  count_at :
      (e : ℕ) → e < length k.config.engines →
      (waiters_in (count (get_or s.starts e 0)) ≡ tally (waits serial) (engine_at k.config e).process)
      × (workers_in (count (get_or s.starts e 0)) ≡ tally (works serial) (engine_at k.config e).process)
  unfolding waiters_in workers_in
  count_at e h =
      let c : Config = k.config in
      let f = k.readable.fitting in
      let stands : drop (start_of c e) ws ≡ run_words (engine_at c e).process ++ words_after c e = rw k.same at (stands_at c f e h) in
      let deep : run_depth (engine_at c e).process ≤ limits.deepest = omega (arith, engine_depth c.engines e (record { values = []; process = nil }) h, k.readable.shallow) in
      let all = tallied ws ok (length c.engines) c.issued f.few f.word serial (fits_at c f e h).sound limits.deepest (start_of c e) deep (words_after c e) stands in
      (rw (k.starts e (omega arith)) (ap waiters_in all), rw (k.starts e (omega arith)) (ap workers_in all))

  total_from_lem :
      (left e w v : ℕ) → e + left ≡ length k.config.engines →
      total_from count s.starts left e w v
      ≡ (w + tally_all (waits serial) (drop e k.config.engines), v + tally_all (works serial) (drop e k.config.engines))
  unfolding total_from tally_all
  total_from_lem zero e w v h =
      let no : drop e k.config.engines ≡ [] = rw (← h, add-zero) at (drop-length k.config.engines) in
      rw (no, add-zero w, add-zero v)
  total_from_lem (suc left) e w v h =
      let c : Config = k.config in
      let here = count_at e (omega arith) in
      let one : drop e c.engines ≡ engine_at c e ∷ drop (suc e) c.engines = drop-cons c.engines e _ (omega arith) in
      rw (here.0, here.1, one)
      (total_from_lem left (e + 1) (w + tally (waits serial) (engine_at c e).process) (v + tally (works serial) (engine_at c e).process) (omega arith)
      ∙ rw (add-one e, add_assoc w (tally (waits serial) (engine_at c e).process), add_assoc v (tally (works serial) (engine_at c e).process)))

  -- what the code counts
  abbrev all_counted : ℕ × ℕ
  all_counted = total_from (tally_at limits.deepest ws serial (s.engines * 65536 + at ws 1)) s.starts s.engines 0 0 0

  total_is :
      (all_counted.0 ≡ tally_all (waits serial) k.config.engines) × (all_counted.1 ≡ tally_all (works serial) k.config.engines)
  total_is =
      let same : all_counted ≡ (tally_all (waits serial) k.config.engines, tally_all (works serial) k.config.engines) =
      rw (k.engines, known_issued k)
      (total_from_lem (length k.config.engines) 0 0 0 (omega arith) ∙ rw (zero-add (tally_all (waits serial) k.config.engines), zero-add (tally_all (works serial) k.config.engines))) in
      (ap (λ t. t.0) same, ap (λ t. t.1) same)

  -- it is within the words
  pub total_below : (all_counted.0 ≤ limits.longest) × (all_counted.1 ≤ limits.longest)
  unfolding encode
  total_below =
      let both = total_is in
      let short = k.readable.short in
      (omega (arith, all_below (waits serial) k.config.engines), omega (arith, all_below (works serial) k.config.engines))

-- ---- the answer

abbrev refused_ends : ℕ → Ends
refused_ends n = record { number = n; waiters = 0; workers = 0 }

ends_by : (limits : Limits) (ws : List ℕ) (serial : ℕ) (o : Option Config) → read_config limits ws ≡ o → ends limits ws serial ≡ counted serial (unreadable ! o >>= λ c. ◌>>◌ (unknown_serial unless (ltb 0 serial && leb serial c.issued)) (done c))
unfolding ends known
ends_by limits ws serial o r = rw r

module _ (limits : Limits) (ws : List ℕ) (ok : Words ws) (serial : ℕ) where
  pub ends_unread : no_starts ≡ surveyed limits 11 ws → refused_ends 1 ≡ ends limits ws serial
  unfolding counted ◌!◌ ◌>>=◌
  ends_unread e = sym (ends_by limits ws serial none (none_known limits ws ok e))

  module _ (s : Found) (e : starts_of s ≡ surveyed limits 11 ws) where
    by_known : ends limits ws serial ≡ counted serial (◌>>◌ (unknown_serial unless (ltb 0 serial && leb serial (at ws 1))) (done (found_known limits ws ok s e).config))
    unfolding ◌!◌ ◌>>=◌
    by_known = let k = found_known limits ws ok s e in ends_by limits ws serial (some k.config) k.reads ∙ rw (known_issued k)

    pub ends_unissued : (issued : ℕ) → issued ≡ at ws 1 → leb 1 serial && leb serial issued ≡ false → refused_ends 12 ≡ ends limits ws serial
    unfolding counted ◌>>◌ ◌unless◌
    ends_unissued issued p b = sym (by_known ∙ rw (rw p at b))

    pub ends_counted :
        (issued : ℕ) → issued ≡ at ws 1 → leb 1 serial && leb serial issued ≡ true →
        (t : ℕ × ℕ) → t ≡ total_from (tally_at limits.deepest ws serial (s.engines * 65536 + issued)) s.starts s.engines 0 0 0 →
        record { number = 0; waiters = t.0; workers = t.1 } ≡ ends limits ws serial
    unfolding counted ◌>>◌ ◌unless◌
    ends_counted issued p b t q =
        let k = found_known limits ws ok s e in
        let both = total_is ok k serial in
        rw (q, p, both.0, both.1) (sym (by_known ∙ rw (rw p at b)))
