-- The step at smaller figures, by the step at larger ones: what it accepts, and what it refuses before the limits are tried.
-- Assumes nothing.
use Prim.Native.Nat.{ℕ}
use mathlib.Core.Path.{◌≡◌, refl, sym, ap, subst, ◌∙◌}
use mathlib.Core.Bool.{Bool, true, false}
use mathlib.Core.Option.{Option, none, some}
use mathlib.Core.List.{List}
use lib.Dec.{T, leb, eqb, leb→le, le→leb}
use lib.ListN.{length}
use Rattle.sock.specs.Configuration.{Limits, Config, encode, engines_depth, guarded, read_config}
use Rattle.sock.specs.Calls.{Refusal, deep, long, short, journal_short, Result, refused, done, ◌>>=◌, ◌>>◌, ◌unless◌, Numbers, Stepped, step, answer_of}
use Rattle.sock.specs.Journal.{journal_of, journal_step, lent_step}
use Rattle.sock.specs.Runs.{Call, outcome, call_answer, call_output, accepted, next_words}
use Rattle.sock.specs.Cabinets.{◌inside◌, fits, Reads, AcceptedInside, before_limits, RefusedInside}
use Rattle.sock.proofs.Configuration.{passed}
use Rattle.sock.proofs.Steps.{sure_done_lem}
use Rattle.sock.proofs.Journal.{none_some, some_same, lent_done, lent_room, done_lent}
use Rattle.sock.proofs.Taken.{Accepts, step_accepts, limited, step_taken, limited_done}
use Rattle.sock.proofs.Accepted.{accepted_done}
use Rattle.sock.proofs.Related.{then_related, step_related}
use Rattle.sock.proofs.Inside.{fits_within, within_fits, fits_larger, read_larger}

-- ---- what is accepted

-- the same result wherever the same is read, if it is within the limits there
step_moved :
    (s l : Limits) (ws : List ℕ) (k : Numbers) (room : ℕ) {c : Config} {x : Stepped} → read_config s ws ≡ some c → read_config l ws ≡ some c → T (fits l x.config) →
    step s ws k room ≡ done x → step l ws k room ≡ done x
step_moved s l ws k room {c} {x} r r' f e =
    let a : Accepts s ws k room x = sure_done_lem (step_accepts s ws k room) e in
    let same : a.config ≡ c = some_same (sym a.reads ∙ r) in
    let (d, n) = fits_within l x.config f in
    step_taken l ws k room (r' ∙ ap some (sym same)) a.taken
    ∙ limited_done (record { serials = a.within.serials; shallow = le→leb _ _ d; short = le→leb _ _ n; fits = a.within.fits })

lent_moved :
    (s l : Limits) (ws : List ℕ) (k : Numbers) (room : ℕ) (journal : Option (List ℕ)) {c : Config} {x : Stepped} → read_config s ws ≡ some c →
    read_config l ws ≡ some c → T (fits l x.config) → lent_step s ws k room journal ≡ done x → lent_step l ws k room journal ≡ done x
lent_moved s l ws k room journal r r' f e =
    done_lent l ws k room journal (step_moved s l ws k room r r' f (lent_done s ws k room journal e)) (lent_room s ws k room journal e)

pub accepted_inside : AcceptedInside
accepted_inside s l h ws k room journal x = (larger, smaller)
  where
    larger : lent_step s ws k room journal ≡ done x → (lent_step l ws k room journal ≡ done x) × Reads s ws × T (fits s x.config)
    larger e =
        let a : Accepts s ws k room x = sure_done_lem (step_accepts s ws k room) (lent_done s ws k room journal e) in
        let f : T (fits s x.config) = within_fits s x.config (leb→le _ _ a.within.shallow) (leb→le _ _ a.within.short) in
        (lent_moved s l ws k room journal a.reads (read_larger s l h ws a.reads) (fits_larger s l h x.config f) e, (a.config, a.reads), f)

    smaller : lent_step l ws k room journal ≡ done x → Reads s ws → T (fits s x.config) → lent_step s ws k room journal ≡ done x
    smaller e (c, r) f = lent_moved l s ws k room journal (read_larger s l h ws r) r f e

-- a call that is accepted at smaller figures is accepted at larger ones, and hands on the same words
module _ (s l : Limits) (h : s inside l) (ws : List ℕ) (k : Call) (t : T (accepted s ws k)) where
  outcome_larger : outcome s ws k ≡ outcome l ws k
  unfolding outcome
  outcome_larger =
      let (x, d) = accepted_done s ws k t in
      d.outcome_done ∙ sym ((accepted_inside s l h ws k.numbers (length k.output) k.journal x).0 d.outcome_done).0

  pub accepted_larger : T (accepted l ws k)
  unfolding accepted call_answer
  accepted_larger = subst (λ r. T (eqb (answer_of r).number 0)) outcome_larger t

  pub next_larger : next_words s ws k ≡ next_words l ws k
  unfolding next_words accepted call_answer call_output
  next_larger = rw outcome_larger

-- ---- what is refused before the limits are tried

-- the refusal, if it is one of those
unfoldable early : Result Stepped → Option Refusal
early (refused r) = guarded (before_limits r) (some r)
early (done x) = none

refused_early : (x : Result Stepped) (r : Refusal) → T (before_limits r) → x ≡ refused r → early x ≡ some r
unfolding early
refused_early x r t e = ap early e ∙ passed (before_limits r) t

early_refused : (x : Result Stepped) (r : Refusal) → early x ≡ some r → x ≡ refused r
unfolding early guarded
early_refused (refused q) r e = by (before_limits q) e
  where
    by : (b : Bool) → guarded b (some q) ≡ some r → ◌≡◌ {A = Result Stepped} (refused q) (refused r)
    by true e = ap refused (some_same e)
    by false e = absurd (none_some e)
early_refused (done x) r e = absurd (none_some e)

-- the limits' own refusals are none of them
limits_late : (d n h : Bool) (x : Stepped) → early (◌>>◌ (deep unless d) (◌>>◌ (long unless n) (◌>>◌ (short unless h) (done x)))) ≡ none
unfolding early guarded before_limits ◌>>◌ ◌unless◌
limits_late true true true x = refl
limits_late true true false x = refl
limits_late true false h x = refl
limits_late false n h x = refl

module _ (s l : Limits) (room : ℕ) (x : Stepped) where
  limited_early : early (limited s room x) ≡ early (limited l room x)
  unfolding limited
  limited_early =
      then_related (λ y z. early y ≡ early z) (λ r. refl) _ _ _
      (limits_late (leb (engines_depth x.config.engines) s.deepest) (leb (length (encode x.config)) s.longest) (leb (length (encode x.config)) room) x
      ∙ sym (limits_late (leb (engines_depth x.config.engines) l.deepest) (leb (length (encode x.config)) l.longest) (leb (length (encode x.config)) room) x))

lent_early : (limits : Limits) (ws : List ℕ) (k : Numbers) (room : ℕ) (journal : Option (List ℕ)) → early (lent_step limits ws k room journal) ≡ early (step limits ws k room)
unfolding lent_step journal_step early guarded before_limits ◌>>=◌ ◌>>◌ ◌unless◌
lent_early limits ws k room none = refl
lent_early limits ws k room (some journal) = by (step limits ws k room)
  where
    late : (b : Bool) (t : Stepped) → early (◌>>◌ (journal_short unless b) (done t)) ≡ none
    late true t = refl
    late false t = refl

    by : (r : Result Stepped) → early (r >>= λ t. ◌>>◌ (journal_short unless leb (length (journal_of ws (encode t.config))) (length journal)) (done t)) ≡ early r
    by (refused r) = refl
    by (done t) = late (leb (length (journal_of ws (encode t.config))) (length journal)) t

pub refused_inside : RefusedInside
refused_inside s l h ws k room journal (c, reads) r t =
    let same : early (lent_step s ws k room journal) ≡ early (lent_step l ws k room journal) =
    lent_early s ws k room journal
    ∙ step_related (λ y z. early y ≡ early z) (λ r. refl) s l ws k room room (reads ∙ sym (read_larger s l h ws reads)) (limited_early s l room)
    ∙ sym (lent_early l ws k room journal) in (
      λ e. early_refused (lent_step l ws k room journal) r (sym same ∙ refused_early (lent_step s ws k room journal) r t e),
      λ e. early_refused (lent_step s ws k room journal) r (same ∙ refused_early (lent_step l ws k room journal) r t e),
    )
