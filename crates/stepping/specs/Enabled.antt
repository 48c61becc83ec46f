-- The enabled process at an engine and a position, as the code goes.
use Rattle.std.specs.Prelude.{ℕ, List, cond, leb, eqb, Option, None, Some, Result, Ok, Err}
use Rattle.reading.specs.Survey.{surveyed}
use Rattle.layout.specs.Positions.{onward}
use Rattle.layout.specs.Limits.{figures}
use Rattle.layout.specs.declared.limit.Limits.{Limits}
use Rattle.layout.specs.declared.refusal.Refusal.{Refusal}
use Rattle.layout.specs.Refusals.{refusal_number}
use Rattle.finding.specs.declared.find.Site.{Site}
use Rattle.finding.specs.declared.find.Found.{Found}
use Rattle.finding.specs.declared.find.Found.TheVariants.{Hit, Past}
use Rattle.finding.specs.Find.{find_w}
use Rattle.rules.specs.Rewriting.{at}
use Rattle.stepping.specs.declared.bundles.Engines.{Engines as Surveyed}
use Rattle.stepping.specs.Bundles.{Engines, engines_of, start_at}

-- the engines and where the process stands, or a refusal's number
abbrev pub Enabled : Type 0
Enabled = Result (Engines × Site) ℕ

-- the code's as that
abbrev pub enabled_in : Result (Surveyed × Site) Refusal → Enabled
enabled_in (Ok e) = Ok (engines_of e.0, e.1)
enabled_in (Err r) = Err (refusal_number r)

unfoldable pub hit_w : Found → Option Site
hit_w (Past p) = None
hit_w (Hit a) = Some a

-- where it stands, if there is one
unfoldable pub site_w : List ℕ → List ℕ → Engines → ℕ → ℕ → Option Site
site_w ws notes g engine position =
    let start = start_at g engine in
    cond (leb g.count engine) None (hit_w (find_w 64 ws notes (onward start position) 1 start))

unfoldable pub with_site : Engines → Option Site → Enabled
with_site g None = Err 2
with_site g (Some a) = Ok (g, a)

unfoldable pub enabled_w : Limits → List ℕ → List ℕ → ℕ → ℕ → Enabled
enabled_w limits ws notes engine position =
    let s = surveyed (figures limits) 11 ws in
    let n = s.engines in
    let g : Engines = record { count = n; issued = at ws 1; starts = s.starts } in
    cond (eqb n 0) (Err 1) (with_site g (site_w ws notes g engine position))
