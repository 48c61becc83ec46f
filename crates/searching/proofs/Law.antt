-- The call pending on words is the definitions', for all words and numbers.
-- Assumes nothing.
use Prim.Native.Nat.{ℕ, ◌+◌, ◌%◌, ◌≤◌, ◌<◌}
use native.Mathlib.Omega.{arith}
use native.Mathlib.Decide.{ℕ_discrete}
use mathlib.Core.Path.{◌≡◌, refl, sym, ap, ◌∙◌}
use mathlib.Core.Bool.{Bool, true, false, cond}
use mathlib.Core.Option.{Option}
use mathlib.Core.List.{List, ◌++◌}
use borrow.Author.Tests.{eq-eqb, ne_eqb, leb-true, leb-false}
use lib.Dec.{leb, eqb}
use lib.ListN.{length, get_or, drop}
use Rattle.sock.specs.Running.{run_words, size}
use Rattle.sock.specs.Configuration.{Config}
use Rattle.sock.specs.Frames.{Located}
use Rattle.sock.specs.Calls.{Spot as Place, unreadable, nobody_there, done, ◌!◌, ◌>>=◌, enabled_at}
use Rattle.sock.specs.Pending.{Pending, pending, side_at, searched, pending_at}
use Rattle.sock.proofs.Located.{start_of, size_positive}
use Rattle.sock.proofs.Positions.{stands_within}
use Rattle.sock.proofs.Pending.{count_few}
use Rattle.reading.specs.Survey.{Starts, surveyed}
use Rattle.reading.proofs.Combining.{Words}
use Rattle.reading.proofs.Known.{Known, survey_known, survey_unknown, known_length}
use Rattle.skipping.proofs.Notes.{Right}
use Rattle.layout.specs.Positions.{onward}
use Rattle.layout.specs.Limits.{figures}
use Rattle.layout.specs.declared.limit.Limits.{Limits}
use Rattle.finding.specs.declared.find.Site.{Site}
use Rattle.finding.specs.declared.find.Found.{Found}
use Rattle.finding.specs.Find.{find_w}
use Rattle.pending.proofs.Looks.{pending_looks}
use Rattle.std.specs.Prelude.{None}
use Rattle.stepping.specs.Enabled.{hit_w, site_w, with_site, enabled_w}
use Rattle.stepping.specs.Bundles.{Engines}
use Rattle.rules.specs.Rewriting.{at}
use Rattle.stepping.proofs.Modest.{Modest}
use Rattle.stepping.proofs.Partners as partners
use Rattle.stepping.proofs.Seeking.{Seen, placed, Seeks, unseen, seen, seeks, seeks_none}
use Rattle.searching.specs.Asking.{refusing, counted_w, searched_w, asked_w}

-- no engine, nothing read; or the engine looked up
refused_at :
    (limits : Limits) (ws notes : List ℕ) (engine position : ℕ) (s : Starts) → s ≡ surveyed (figures limits) 11 ws → s.engines ≡ 0 →
    asked_w limits ws notes engine position ≡ refusing 1
unfolding asked_w enabled_w searched_w
refused_at limits ws notes engine position s q z = rw (← q, eq-eqb s.engines 0 z)

looked_up :
    (limits : Limits) (ws notes : List ℕ) (engine position : ℕ) (s : Starts) (n : ℕ) → s ≡ surveyed (figures limits) 11 ws →
    s.engines ≡ n → (n ≡ 0 → ⊥) →
    asked_w limits ws notes engine position
    ≡ searched_w ws notes
    (with_site (record { count = n; issued = at ws 1; starts = s.starts })
    (cond (leb n engine) None
    (hit_w (find_w 64 ws notes (onward (get_or s.starts engine 0) position) 1 (get_or s.starts engine 0)))))
unfolding asked_w enabled_w site_w
looked_up limits ws notes engine position s n q z more = rw (← q, z, ne_eqb n 0 more)

module _ {limits : Limits} (modest : Modest limits) (ws : List ℕ) (ok : Words ws) (engine position : ℕ) (low : position < 65536) (notes : List ℕ)
    (right : Right ws notes) where
  -- ---- a configuration that is known

  module _ (s : Starts) (known : Known (figures limits) ws s) where
    abbrev c : Config
    c = known.config

    abbrev n : ℕ
    n = length c.engines

    abbrev g : Engines
    g = record { count = n; issued = at ws 1; starts = s.starts }

    -- the process found is searched
    counted_law :
        (target : ℕ) (l : Located) (sp : Site) → Seen ws ok s modest known engine target l sp →
        counted_w ws notes sp.at ≡ searched (done (placed ws ok s modest known engine l))
    unfolding counted_w searched size
    counted_law target l sp y =
        let short : length ws ≤ 8192 = omega (arith, (known_length known).1, modest.few) in
        let more : List ℕ = partners.behind ws ok s modest known engine y.inside target l sp y.spotted in
        let stands : drop sp.at ws ≡ run_words l.process ++ more =
        sym (partners.lent_on ws ok s modest known sp.at) ∙ partners.found_at ws ok s modest known engine y.inside target l sp y.spotted in
        let long = stands_within ws (run_words l.process) more sp.at stands (size_positive l.process) in
        let few = count_few l.process in
        rw (pending_looks ws notes right n c.issued known.readable.fitting.few known.readable.fitting.word short
        (partners.found_sound ws ok s modest known engine y.inside target l sp y.spotted)
        (partners.found_shallow ws ok s modest known engine y.inside target l sp y.spotted) sp.at more stands)
        (by (pending l.process).found (pending l.process).count (omega arith) (size_positive l.process))
      where
        by :
            (t : Bool) (k : ℕ) → k ≤ 8192 → 0 < size l.process →
            (let p : Pending = record { number = 0; found = eqb (cond t 0 (sp.at + size l.process)) 0; count = (0 + k) % 4294967296 } in
            p ≡ record { number = 0; found = t; count = k })
        by true k h p = let z : (0 + k) % 4294967296 ≡ k = omega arith in rw z
        by false k h p = let z : (0 + k) % 4294967296 ≡ k = omega arith in rw (ne_eqb (sp.at + size l.process) 0 (λ q. omega arith), z)

    -- the search in the engine
    found_law :
        engine < n →
        searched_w ws notes (with_site g (hit_w (find_w 64 ws notes (onward (start_of c engine) position) 1 (start_of c engine))))
        ≡ searched ((nobody_there ! enabled_at c engine position) >>= λ a. done a)
    unfolding searched_w with_site hit_w ◌!◌ ◌>>=◌ searched
    found_law h = by _ _ (seeks ws ok s modest known engine h position low notes right)
      where
        by :
            (f : Found) (o : Option Place) → Seeks ws ok s modest known engine position (start_of c engine + position) f o →
            searched_w ws notes (with_site g (hit_w f)) ≡ searched ((nobody_there ! o) >>= λ a. done a)
        by _ _ unseen = refl
        by _ _ (seen {l = l} {sp = sp} y) = counted_law _ l sp y

    read_law :
        (s.engines ≡ 0 → ⊥) → s ≡ surveyed (figures limits) 11 ws →
        asked_w limits ws notes engine position ≡ searched ((nobody_there ! enabled_at c engine position) >>= λ a. done a)
    unfolding searched_w with_site ◌!◌ ◌>>=◌ searched
    read_law more q =
        looked_up limits ws notes engine position s n q known.engines (λ z. more (known.engines ∙ z))
        ∙ by (leb n engine) refl
      where
        by :
            (b : Bool) → leb n engine ≡ b →
            searched_w ws notes
            (with_site g (cond b None (hit_w (find_w 64 ws notes (onward (get_or s.starts engine 0) position) 1 (get_or s.starts engine 0)))))
            ≡ searched ((nobody_there ! enabled_at c engine position) >>= λ a. done a)
        by true y = rw (seeks_none ws ok s modest known engine position (leb-true n engine y))
        by false y =
            let h : engine < n = leb-false n engine y in
            let first : get_or s.starts engine 0 ≡ start_of c engine = known.starts engine (omega arith) in
            rw first (found_law h)

  -- ---- all words

  pub asked_law : asked_w limits ws notes engine position ≡ pending_at (figures limits) ws engine position
  unfolding pending_at side_at ◌!◌ ◌>>=◌ searched
  asked_law = by (surveyed (figures limits) 11 ws) refl
    where
      by : (s : Starts) → s ≡ surveyed (figures limits) 11 ws → asked_w limits ws notes engine position ≡ pending_at (figures limits) ws engine position
      by s q = decide (ℕ_discrete s.engines 0)
        where
          decide : Dec (s.engines ≡ 0) → asked_w limits ws notes engine position ≡ pending_at (figures limits) ws engine position
          decide (yes z) = refused_at limits ws notes engine position s q z ∙ rw (survey_unknown (figures limits) ws ok s q z)
          decide (no z) =
              let known = survey_known (figures limits) ws ok s q z in
              read_law s known z q
              ∙ ap (λ o. searched ((unreadable ! o) >>= λ c. (nobody_there ! enabled_at c engine position) >>= λ a. done a)) (sym known.reads)
