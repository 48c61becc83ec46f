-- After one survey: what is tried by the step's inner function is the step, and which numbers are refused without a try.
-- Assumes nothing.
use Prim.Native.Nat.{ℕ, suc, ◌≤◌, ◌<◌}
use native.Mathlib.Omega.{arith}
use native.Mathlib.Decide.{ℕ_discrete}
use mathlib.Core.Path.{◌≡◌, refl, sym, subst, ap, ◌∙◌}
use mathlib.Core.Bool.{true, false}
use mathlib.Core.List.{List}
use borrow.Author.Tests.{eq-eqb, ne_eqb, le-leb, lt-leb, le-ltb}
use lib.ListN.{length, take, drop, replicate, length-replicate}
use lib.Seq.{take_at}
use Rattle.sock.specs.Words.{kind_of}
use Rattle.sock.specs.Configuration.{standard, encode}
use Rattle.sock.specs.Calls.{Refusal, number, Result, refused, done, Stepped, step, answer_of, output_of}
use Rattle.sock.proofs.Accepted.{number_positive}
use Rattle.reading.specs.Survey.{Starts, surveyed}
use Rattle.reading.proofs.Combining.{Words}
use Rattle.skipping.proofs.Notes.{Right}
use Rattle.noting.specs.declared.survey.Named.TheVariants as named
use Rattle.noting.proofs.Noted.{blank_right, survey_right}
use Rattle.layout.specs.Positions.{onward}
use Rattle.finding.specs.declared.find.Site.{Site}
use Rattle.finding.specs.declared.find.Found.{Found}
use Rattle.finding.specs.declared.find.Found.TheVariants.{Hit, Past}
use Rattle.finding.specs.Find.{find_w}
use Rattle.rules.specs.Rewriting.{at}
use Rattle.stepping.specs.declared.bundles.Numbers.{Numbers}
use Rattle.stepping.specs.Bundles.{Engines, numbers_as, start_at, encounter_of}
use Rattle.stepping.specs.Meeting.{fit_w}
use Rattle.stepping.specs.Exchanging.{lent, between_w}
use Rattle.layout.specs.Kinds.{counted_as}
use Rattle.stepping.specs.Answering.{Answered}
use Rattle.stepping.specs.Enabled.{hit_w, site_w, with_site, enabled_w}
use Rattle.stepping.specs.Stepping.{moves_w, partner_w, receiving_w, none_else, moving_w, moved_w, step_w}
use Rattle.stepping.proofs.Goal.{given}
use Rattle.stepping.proofs.Modest.{Modest, modest_standard}
use Rattle.stepping.proofs.Law.{step_law}
use Rattle.keeper.specs.Game.{moved}
use Rattle.keeper.specs.Glances.{acts_w, hears_w, behind_w, meant_w}
use Rattle.keeper.specs.Replies.{answered_w}
use Rattle.keeper.specs.Seeking.{large, move_at, Surveyed, Refused, Made}
use Rattle.keeper.proofs.Bounds.{accepted_small}
use Rattle.keeper.proofs.Glancing.{found_at, behind_nothing, idle_moves, head_lent, unmeant_fit, deaf_fit, Five, between_five}

-- the step once the survey is done
unfoldable try_w : List ℕ → List ℕ → Engines → Numbers → List ℕ → Answered
try_w ws notes g k out =
    moved_w large ws notes k out (with_site g (site_w ws notes g k.engine k.position))

pub modest : Modest large
modest = modest_standard refl

abbrev pub blank : List ℕ
blank = replicate 16384 0

pub surveyed_right : (ws notes : List ℕ) (g : Engines) → Surveyed ws notes g → Right ws notes
surveyed_right ws notes g sv = subst (Right ws) (sym sv.noted) (survey_right standard (omega arith) named.All ws sv.words blank (blank_right ws 16384))

module _ (ws notes : List ℕ) (g : Engines) (sv : Surveyed ws notes g) (k : Numbers) where
  tries : (out : List ℕ) → step_w large ws notes k out ≡ try_w ws notes g k out
  unfolding step_w try_w enabled_w
  tries out =
      rw (← sv.count, ← sv.starts, ← sv.issued, ne_eqb g.count 0 sv.more)

module _ (ws : List ℕ) (k : Numbers) (s : Starts) (e : s ≡ surveyed standard 11 ws) (out : List ℕ) where
  none_read : s.engines ≡ 0 → (step_w large ws blank k out).answer.number ≡ 1
  unfolding step_w enabled_w moved_w
  none_read z = rw (← e, eq-eqb s.engines 0 z)

module _ (ws notes : List ℕ) (ok : Words ws) (g : Engines) (sv : Surveyed ws notes g) (k : Numbers) (low : k.position < 65536) (low' : k.second_position < 65536) where
  try_law : (out : List ℕ) → length out ≡ 8192 → try_w ws notes g k out ≡ given (moved ws (numbers_as k)) out
  unfolding moved
  try_law out e = sym (tries ws notes g sv k out) ∙ (step_law modest ws ok k low low' out notes (surveyed_right ws notes g sv) ∙ ap (λ (n : ℕ). given (step standard ws (numbers_as k) n) out) e)

  abbrev page : List ℕ
  page = replicate 8192 0

  -- a try that refuses
  refused_by : (n : ℕ) → (try_w ws notes g k page).answer.number ≡ suc n → (x : Stepped) → moved ws (numbers_as k) ≡ done x → ⊥
  unfolding answer_of
  refused_by n e x d =
      let z : (try_w ws notes g k page).answer.number ≡ 0 = ap (λ (w : Answered). w.answer.number) (try_law page (length-replicate {A = ℕ} 8192 0)) ∙ ap (λ (r : Result Stepped). (answer_of r).number) d in
      omega arith

  pub beyond : g.count ≤ k.engine → (x : Stepped) → moved ws (numbers_as k) ≡ done x → ⊥
  unfolding try_w site_w with_site moved_w
  beyond h = refused_by 1 (rw (le-leb g.count k.engine h))

  module _ (inside : k.engine < g.count) where
    found_is : (f : Found) → find_w 64 ws notes (onward (start_at g k.engine) k.position) 1 (start_at g k.engine) ≡ f → (out : List ℕ) → try_w ws notes g k out ≡ moved_w large ws notes k out (with_site g (hit_w f))
    unfolding try_w site_w
    found_is f e out = rw (lt-leb g.count k.engine inside, e)

    pub nobody : (q : ℕ) → find_w 64 ws notes (onward (start_at g k.engine) k.position) 1 (start_at g k.engine) ≡ Past q → (x : Stepped) → moved ws (numbers_as k) ≡ done x → ⊥
    unfolding moved_w with_site hit_w
    nobody q e = refused_by 1 (ap (λ (w : Answered). w.answer.number) (found_is (Past q) e page))

    module _ (a : Site) (hit : find_w 64 ws notes (onward (start_at g k.engine) k.position) 1 (start_at g k.engine) ≡ Hit a) where
      abbrev does : ℕ
      does = moves_w ws notes a.at (counted_as (kind_of (at ws a.at)))

      hits : (out : List ℕ) → try_w ws notes g k out ≡ moving_w large ws notes g k a out
      unfolding moved_w with_site hit_w
      hits out = found_is (Hit a) hit out

      -- it sends: it does something, and does not move alone
      abbrev Sends : Type 0
      Sends = (does ≡ 0 → ⊥) × (does ≡ 1 → ⊥)

      -- what is tried is the step
      pub moving_is : (out : List ℕ) → length out ≡ 8192 → moving_w large ws notes g k a out ≡ given (moved ws (numbers_as k)) out
      moving_is out e = sym (hits out) ∙ try_law out e

      pub stuck : does ≡ 0 → (x : Stepped) → moved ws (numbers_as k) ≡ done x → ⊥
      unfolding moving_w
      stuck z = refused_by 2 (ap (λ (w : Answered). w.answer.number) (hits page) ∙ rw (eq-eqb does 0 z))

      pub crowded : does ≡ 1 → none_else k.second k.second_position k.branch ≡ false → (x : Stepped) → moved ws (numbers_as k) ≡ done x → ⊥
      unfolding moving_w
      crowded u n = refused_by 2 (ap (λ (w : Answered). w.answer.number) (hits page) ∙ rw (u, n))

      pub nowhere : Sends → g.count ≤ k.second → (x : Stepped) → moved ws (numbers_as k) ≡ done x → ⊥
      unfolding moving_w receiving_w partner_w site_w
      nowhere z h = refused_by 3 (ap (λ (w : Answered). w.answer.number) (hits page) ∙ rw (ne_eqb does 0 z.0, ne_eqb does 1 z.1, le-leb g.count k.second h))

      pub nobody_beside :
          Sends → k.second < g.count → (q : ℕ) →
          find_w 64 ws notes (onward (start_at g k.second) k.second_position) 1 (start_at g k.second) ≡ Past q →
          (x : Stepped) → moved ws (numbers_as k) ≡ done x → ⊥
      unfolding moving_w receiving_w partner_w site_w hit_w
      nobody_beside z h q e = refused_by 3 (ap (λ (w : Answered). w.answer.number) (hits page) ∙ rw (ne_eqb does 0 z.0, ne_eqb does 1 z.1, lt-leb g.count k.second h, e))

      -- a sender that names another engine
      pub unmeant :
          Sends → k.second < g.count → meant_w ws (start_at g k.engine) a.at (counted_as (kind_of (at ws a.at))) k.second ≡ false →
          (x : Stepped) → moved ws (numbers_as k) ≡ done x → ⊥
      unfolding moving_w receiving_w partner_w site_w hit_w
      unmeant z h n x d =
          let short = (accepted_small ws (numbers_as k) x d).words in
          by (find_w 64 ws notes (onward (start_at g k.second) k.second_position) 1 (start_at g k.second)) refl short
        where
          by : (f : Found) → find_w 64 ws notes (onward (start_at g k.second) k.second_position) 1 (start_at g k.second) ≡ f → length ws ≤ 8192 → ⊥
          by (Past q) e short = nobody_beside z h q e x d
          by (Hit b) e short =
              refused_by 4
              (ap (λ (w : Answered). w.answer.number) (hits page)
              ∙ rw (ne_eqb does 0 z.0, ne_eqb does 1 z.1, lt-leb g.count k.second h, e)
              (between_five large ws (encounter_of g k (counted_as (kind_of (at ws a.at))) a b) page λ u1 u2 u3 u4.
              unmeant_fit ws (start_at g k.engine) a.at (counted_as (kind_of (at ws a.at))) k.second n (omega arith) u1 u2 _ _ k.branch k.engine))
              x d

      -- a place of no receiver
      pub deaf :
          Sends → k.second < g.count → hears_w (counted_as (kind_of (at ws (onward (start_at g k.second) k.second_position)))) ≡ false →
          (x : Stepped) → moved ws (numbers_as k) ≡ done x → ⊥
      unfolding moving_w receiving_w partner_w site_w hit_w
      deaf z h n x d = by (find_w 64 ws notes (onward (start_at g k.second) k.second_position) 1 (start_at g k.second)) refl
        where
          by : (f : Found) → find_w 64 ws notes (onward (start_at g k.second) k.second_position) 1 (start_at g k.second) ≡ f → ⊥
          by (Past q) e = nobody_beside z h q e x d
          by (Hit b) e =
              let there : b.at ≡ onward (start_at g k.second) k.second_position = found_at ws notes _ 64 1 (start_at g k.second) b e in
              refused_by 4
              (ap (λ (w : Answered). w.answer.number) (hits page)
              ∙ rw (ne_eqb does 0 z.0, ne_eqb does 1 z.1, lt-leb g.count k.second h, e)
              (between_five large ws (encounter_of g k (counted_as (kind_of (at ws a.at))) a b) page λ u1 u2 u3 u4.
              deaf_fit (lent b.at (length ws) ws) (ap (λ (w : ℕ). hears_w (counted_as (kind_of w))) (head_lent ws b.at ∙ ap (at ws) there) ∙ n) _ _ (counted_as (kind_of (at ws a.at))) k.branch k.engine k.second))
              x d

      -- an executor whose reply the receiver does not take
      unfit :
          counted_as (kind_of (at ws a.at)) ≡ 16 → (b : Site) → answered_w ws a.at b.at k.branch k.engine k.second ≡ false → Dec (k.engine ≡ k.second) →
          Five (between_w large ws (encounter_of g k (counted_as (kind_of (at ws a.at))) a b) page)
      unfolding between_w answered_w fit_w
      unfit kd b n (yes q) = rw (eq-eqb k.engine k.second q)
      unfit kd b n (no q) =
          between_five large ws (encounter_of g k (counted_as (kind_of (at ws a.at))) a b) page λ u1 u2 u3 u4.
          rw kd (rw (ne_eqb k.engine k.second q, le-ltb (length ws) a.at u3, le-ltb (length ws) b.at u4) at n)

      pub unanswered :
          Sends → k.second < g.count → counted_as (kind_of (at ws a.at)) ≡ 16 → (b : Site) → find_w 64 ws notes (onward (start_at g k.second) k.second_position) 1 (start_at g k.second) ≡ Hit b →
          answered_w ws a.at b.at k.branch k.engine k.second ≡ false → (x : Stepped) → moved ws (numbers_as k) ≡ done x → ⊥
      unfolding moving_w receiving_w partner_w site_w hit_w
      unanswered z h kd b e n =
          refused_by 4
          (ap (λ (w : Answered). w.answer.number) (hits page)
          ∙ rw (ne_eqb does 0 z.0, ne_eqb does 1 z.1, lt-leb g.count k.second h, e) (unfit kd b n (ℕ_discrete k.engine k.second)))

    -- a place of no process that moves, and one behind the engine's process
    pub idle : acts_w (counted_as (kind_of (at ws (onward (start_at g k.engine) k.position)))) ≡ false → (x : Stepped) → moved ws (numbers_as k) ≡ done x → ⊥
    idle n = by (find_w 64 ws notes (onward (start_at g k.engine) k.position) 1 (start_at g k.engine)) refl
      where
        by : (f : Found) → find_w 64 ws notes (onward (start_at g k.engine) k.position) 1 (start_at g k.engine) ≡ f → (x : Stepped) → moved ws (numbers_as k) ≡ done x → ⊥
        by (Past q) e = nobody q e
        by (Hit a) e =
            let there : a.at ≡ onward (start_at g k.engine) k.position = found_at ws notes _ 64 1 (start_at g k.engine) a e in
            stuck a e (idle_moves ws notes a.at (counted_as (kind_of (at ws a.at))) (ap (λ (i : ℕ). acts_w (counted_as (kind_of (at ws i)))) there ∙ n))

    pub beyond_end : (p : ℕ) → p ≤ k.position → behind_w notes (start_at g k.engine) (onward (start_at g k.engine) p) ≡ true → (x : Stepped) → moved ws (numbers_as k) ≡ done x → ⊥
    beyond_end p h e = let (q, f) = behind_nothing ws notes (start_at g k.engine) p k.position e h low in nobody q f

-- ---- what is not readable

pub unread :
    (ws : List ℕ) → Words ws → (k : Numbers) → k.position < 65536 → k.second_position < 65536 → (s : Starts) → s ≡ surveyed standard 11 ws → s.engines ≡ 0 →
    (x : Stepped) → moved ws (numbers_as k) ≡ done x → ⊥
unfolding moved answer_of
unread ws ok k low low' s e z x d =
    let page : List ℕ = replicate 8192 0 in
    let long : length page ≡ 8192 = length-replicate {A = ℕ} 8192 0 in
    let law = step_law modest ws ok k low low' page blank (blank_right ws 16384) in
    let one = none_read ws k s e page z in
    let zero = ap (λ (w : Answered). w.answer.number) law ∙ ap (λ (n : ℕ). (answer_of (step standard ws (numbers_as k) n)).number) long ∙ ap (λ (r : Result Stepped). (answer_of r).number) d in
    omega arith

-- ---- an answer that is given

pub positive : (y : Refusal) → number y ≡ 0 → ⊥
positive y z =
    let f : true ≡ false = sym (eq-eqb (number y) 0 z) ∙ number_positive y in
    let q : ◌≡◌ {A = ℕ} 0 1 = cc in
    omega arith

module _ (ws : List ℕ) (i : ℕ) (r : Answered) (out : List ℕ) (e : r ≡ given (moved ws (move_at i)) out) where
  pub given_refused : (r.answer.number ≡ 0 → ⊥) → Refused ws i
  unfolding answer_of
  given_refused z x d = z (ap (λ (w : Answered). w.answer.number) e ∙ ap (λ (q : Result Stepped). (answer_of q).number) d)

  pub given_made : r.answer.number ≡ 0 → Made ws i r.answer r.out
  unfolding answer_of output_of
  given_made z = by (moved ws (move_at i)) refl
    where
      by : (q : Result Stepped) → moved ws (move_at i) ≡ q → Made ws i r.answer r.out
      by (refused y) d = absurd (positive y (sym (ap (λ (w : Answered). w.answer.number) (e ∙ ap (λ (q : Result Stepped). given q out) d)) ∙ z))
      by (done x) d =
          let f : r ≡ given (done x) out = e ∙ ap (λ (q : Result Stepped). given q out) d in
          record {
            stepped = x;
            accepted = d;
            kind = ap (λ (w : Answered). w.answer.kind) f;
            serial = ap (λ (w : Answered). w.answer.serial) f;
            fault = ap (λ (w : Answered). w.answer.fault) f;
            length = ap (λ (w : Answered). w.answer.length) f;
            words = ap (λ (w : Answered). take w.answer.length w.out) f ∙ take_at (encode x.config) (drop (length (encode x.config)) out) (length (encode x.config)) refl;
          }
