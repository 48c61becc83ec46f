-- What a process turns into alone, on words, as the code goes. No contract of a call names it.
use Rattle.std.specs.Prelude.{ℕ, ◌-◌, Bool, true, false, cond, List, eqb, get_or, set, Option, None, Some}
use Rattle.sock.specs.Words.{variable_of}
use Rattle.layout.specs.declared.limit.Limits.{Limits}
use Rattle.reading.specs.Walk.{process_end}
use Rattle.skipping.specs.Skip.{skip_end}
use Rattle.writers.specs.Writing.{pasted, pasted_end}
use Rattle.evaluating.specs.declared.evaluate.Valued.{Valued}
use Rattle.rules.specs.Storing.{Store, takes, unchanged, storing}
use Rattle.std.specs.Prelude as code
use Rattle.std.specs.Prelude.{Ok, Err}
use Rattle.layout.specs.declared.refusal.Refusal.{Refusal}
use Rattle.layout.specs.Refusals.{refusal_number}
use Rattle.rules.specs.declared.rewriting.Rewriting as code_rewriting
use Rattle.rules.specs.declared.rewriting.Kept.{Kept}

-- a refusal's number, or 0; the process turns into nil, or into the first `fresh` fresh words and, of its own `end` words, those from..upto
pub record Rewriting : Type 0 where
  pub number : ℕ
  pub nil : Bool
  pub fresh : ℕ
  pub from : ℕ
  pub upto : ℕ
  pub end : ℕ
  pub store : Store

-- a rewriting, and the fresh words afterwards
pub record Rewritten : Type 0 where
  pub rewriting : Rewriting
  pub fresh : List ℕ

abbrev pub rewritten : Rewriting → List ℕ → Rewritten
rewritten t fresh = record { rewriting = t; fresh = fresh }

abbrev pub refused : ℕ → Rewriting
refused n = record { number = n; nil = false; fresh = 0; from = 0; upto = 0; end = 0; store = unchanged }

abbrev pub vanishing : Store → Rewriting
vanishing s = record { number = 0; nil = true; fresh = 0; from = 0; upto = 0; end = 0; store = s }

abbrev pub keeping : ℕ → ℕ → ℕ → ℕ → Store → Rewriting
keeping fresh from upto end s = record { number = 0; nil = false; fresh = fresh; from = from; upto = upto; end = end; store = s }

-- the code's rewriting, and its refusal, as such
abbrev pub kept_as : Option Kept → Store → Rewriting
kept_as None store = vanishing store
kept_as (Some k) store = keeping k.fresh k.from k.upto k.end store

abbrev pub turned : code_rewriting.Rewriting → Rewriting
turned t = kept_as t.kept (storing t.store)

abbrev pub rewriting_of : code.Result code_rewriting.Rewriting Refusal → Rewriting
rewriting_of (Ok t) = turned t
rewriting_of (Err r) = refused (refusal_number r)

abbrev pub at : List ℕ → ℕ → ℕ
at ws i = get_or ws i 0

unfoldable pub part_w : List ℕ → ℕ → ℕ → ℕ → Store → Rewriting
part_w ws from upto end s = cond (eqb (at ws from) 0) (vanishing s) (keeping 0 from upto end s)

unfoldable pub assign_w : List ℕ → Valued → Rewriting
assign_w ws e = vanishing (takes (variable_of (at ws 0)) e.value)

-- where the process at a position ends
abbrev pub part_end : List ℕ → ℕ → ℕ
part_end ws i = skip_end 64 ws i

unfoldable pub branch_w : List ℕ → Valued → Rewriting
branch_w ws e =
    let q = part_end ws e.end in
    let end = part_end ws q in
    cond (eqb e.value 0) (part_w ws q end end unchanged) (part_w ws e.end q end unchanged)

unfoldable pub unroll_w : List ℕ → ℕ → ℕ → List ℕ → Rewritten
unroll_w ws from end fresh = rewritten (keeping (pasted_end ws from end 1) 0 end end unchanged) (pasted ws from end (set fresh 0 4096) 1)

unfoldable pub repeat_w : Limits → ℕ → ℕ → List ℕ → Valued → List ℕ → Rewritten
repeat_w limits level bound ws e fresh =
    let end = part_end ws e.end in
    cond (eqb e.value 0) (rewritten (vanishing unchanged) fresh)
    (cond (eqb (at ws e.end) 0) (rewritten (keeping 0 0 end end unchanged) fresh)
    (cond (eqb (process_end (limits.deepest - level) ws bound 0 0) 0) (rewritten (refused 8) fresh)
    (unroll_w ws e.end end fresh)))
