-- Who moves: the search on words is the definitions' search among the engines.
-- Assumes nothing.
use Prim.Native.Nat.{ℕ, ◌+◌, ◌-◌, ◌≤◌, ◌<◌}
use native.Mathlib.Omega.{arith}
use mathlib.Core.Path.{◌≡◌, refl, sym, ap, ◌∙◌}
use mathlib.Core.Option.{Option, none, some}
use mathlib.Core.List.{List, [], ◌++◌}
use borrow.Author.Tests.{lt-ltb, le-ltb}
use lib.Dec.{lit<}
use lib.ListN.{length, drop}
use Rattle.sock.specs.Running.{Run, run_words, size, run_depth}
use Rattle.sock.specs.Configuration.{Config, guarded}
use Rattle.sock.specs.Frames.{Located, locate}
use Rattle.sock.specs.Rules.{also}
use Rattle.sock.specs.Calls.{Spot as Place, engine_at, enabled_at}
use Rattle.sock.proofs.Fits.{Sound}
use Rattle.sock.proofs.Located.{start_of, engine_fits}
use Rattle.reading.specs.Survey.{Starts}
use Rattle.reading.proofs.Combining.{Words}
use Rattle.reading.proofs.Known.{Known, known_length}
use Rattle.skipping.proofs.Notes.{Right}
use Rattle.layout.specs.Positions.{onward}
use Rattle.writers.proofs.Laid.{near_of, onward_near}
use Rattle.finding.specs.declared.find.Site.{Site}
use Rattle.finding.specs.declared.find.Found.{Found}
use Rattle.finding.specs.declared.find.Found.TheVariants.{Hit, Past}
use Rattle.finding.specs.Find.{find_w, fault_at}
use Rattle.finding.proofs.Within.{within, within_locate}
use Rattle.finding.proofs.Spots.{Spotted}
use Rattle.finding.proofs.Search.{missed, found}
use Rattle.layout.specs.declared.limit.Limits.{Limits}
use Rattle.layout.specs.Limits.{figures}
use Rattle.stepping.proofs.Modest.{Modest}
use Rattle.stepping.proofs.Results.{one_stands, one_behind, one_length}
use Rattle.stepping.proofs.Given.{depth_at}

module _ (ws : List ℕ) (ok : Words ws) (s : Starts) {limits : Limits} (modest : Modest limits) (known : Known (figures limits) ws s) where
  abbrev c : Config
  c = known.config

  abbrev n : ℕ
  n = length c.engines

  -- a process of the engine e, found at a target
  pub record Seen (e target : ℕ) (l : Located) (sp : Site) : Type 0 where
    pub inside : e < n
    pub place : within (engine_at c e).process (start_of c e) target ≡ some l
    pub spotted : Spotted (fault_at ws target) target (engine_at c e).process (start_of c e) 1 l sp

  -- where the process is
  abbrev pub placed : ℕ → Located → Place
  placed e l = record { engine = e; values = (engine_at c e).values; frames = l.frames; process = l.process }

  pub data Seeks (e p target : ℕ) : Found → Option Place → Type 0 where
    unseen : {k : ℕ} → Seeks e p target (Past k) none
    seen : {l : Located} {sp : Site} → Seen e target l sp → Seeks e p target (Hit sp) (some (placed e l))

  module _ (e : ℕ) (h : e < n) (p : ℕ) (low : p < 65536) where
    abbrev r : Run
    r = (engine_at c e).process

    abbrev start : ℕ
    start = start_of c e

    few_words : length ws ≤ 8192
    few_words = omega (arith, (known_length known).1, modest.few)

    stands : drop start ws ≡ run_words r ++ drop (start + size r) ws
    stands =
        one_stands c known.readable.fitting e h ws known.same
        ∙ ap (λ l. run_words r ++ l) (sym (one_behind c known.readable.fitting e h ws known.same))

    target_at : onward start p ≡ start + p
    target_at = onward_near start p 1000000 (near_of 1000000 (lit< tt)) (omega (arith, one_length c known.readable.fitting e h ws known.same, few_words))

    sound : Sound n c.issued r
    sound = (engine_fits _ known.readable.fitting.engines e h).sound

    shallow : run_depth r ≤ 64
    shallow = depth_at c.engines e _ 64 h (omega (arith, known.readable.shallow, modest.low))

    located : within r start (start + p) ≡ locate r p []
    located = within_locate r start (start + p) (omega arith) ∙ ap (λ k. locate r k []) (let z : start + p - start ≡ p = omega arith in z)

    pub seeks : (notes : List ℕ) → Right ws notes → Seeks e p (start + p) (find_w 64 ws notes (onward start p) 1 start) (enabled_at c e p)
    unfolding enabled_at guarded also
    seeks notes right = rw (lt-ltb e n h, target_at) (by (locate r p []) refl)
      where
        by :
            (o : Option Located) → locate r p [] ≡ o →
            Seeks e p (start + p) (find_w 64 ws notes (start + p) 1 start) (also o λ l. some (record { engine = e; values = (engine_at c e).values; frames = l.frames; process = l.process }))
        by none q =
            rw (missed n c.issued known.readable.fitting.few known.readable.fitting.word ws notes right (start + p) sound 64 start 1 (drop (start + size r) ws) (omega arith) shallow stands (located ∙ q))
            unseen
        by (some l) q =
            let f = found n c.issued known.readable.fitting.few known.readable.fitting.word ws notes right (start + p) sound 64 start 1 (drop (start + size r) ws) (omega arith) shallow stands l (located ∙ q) in
            rw f.1.0 (seen (record { inside = h; place = located ∙ q; spotted = f.1.1 }))

  pub seeks_none : (e p : ℕ) → n ≤ e → enabled_at c e p ≡ none
  unfolding enabled_at guarded
  seeks_none e p h = rw (le-ltb e n h)
