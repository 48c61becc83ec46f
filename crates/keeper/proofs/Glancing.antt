-- What the search tells from words and notes alone is so: behind a process nothing is found, some kinds never move or receive, and a sender is for the
-- engine that it names.
-- Assumes nothing.
use Prim.Native.Nat.{ℕ, zero, suc, ◌+◌, ◌-◌, ◌≤◌, ◌<◌}
use native.Mathlib.Omega.{arith}
use native.Mathlib.Decide.{ℕ_discrete, dec_lt}
use mathlib.Core.Path.{◌≡◌, refl, sym, subst, ap, ◌∙◌}
use mathlib.Core.Bool.{Bool, true, false, cond}
use mathlib.Core.List.{List}
use borrow.Author.Tests.{eq-eqb, ne_eqb, lt-ltb, le-ltb, le-leb, lt-leb}
use lib.Dec.{T, leb, ltb, eqb, leb→le, nltb→le, eqb→eq}
use lib.ListN.{length, get_or, drop, length-drop}
use lib.Seq.{take_all, get_or-drop}
use Rattle.sock.specs.Kind
use Rattle.sock.specs.Words.{kind_of, first_variable, executors_client, notices_client}
use Rattle.sock.proofs.Logic.{cond-case, true_test}
use Rattle.skipping.specs.Pass.{note_at}
use Rattle.layout.specs.Positions.{onward}
use Rattle.layout.specs.declared.limit.Limits.{Limits}
use Rattle.evaluating.specs.Evaluating.{value_in}
use Rattle.finding.specs.declared.find.Site.{Site}
use Rattle.finding.specs.declared.find.Found.{Found}
use Rattle.finding.specs.declared.find.Found.TheVariants.{Hit, Past}
use Rattle.finding.specs.Find.{here_w, seq_spot, in_seq_w, left_w, beside_w, par_sides, in_par_w, in_body_w, in_scope_w, node_w, outside_w, find_w}
use Rattle.rules.specs.Rewriting.{at, part_end}
use Rattle.rules.specs.Offering.{Offer, offering, no_offer, bare_w, offer_w, receives_w, fits_w, waits_w, awaits_w}
use Rattle.layout.specs.Kinds.{counted_as}
use Rattle.layout.proofs.Named.{counted_is}
use Rattle.stepping.specs.Bundles.{Encounter}
use Rattle.stepping.specs.Answering.{Answered}
use Rattle.stepping.specs.Meeting.{addressed_w, replies_w, replied_w, taker_of, takes_w, fit_w}
use Rattle.stepping.specs.Exchanging.{lent, meet_w, between_w}
use Rattle.stepping.specs.Stepping.{by_kind, moves_w}
use Rattle.keeper.specs.Glances.{acts_w, hears_w, behind_w, meant_w}

never : {A : Type 0} → true ≡ false → A
never e = absurd (subst T e tt)

-- ---- what is found stands where it was sought

abbrev At : ℕ → Found → Type 0
At t (Hit s) = s.at ≡ t
At t (Past e) = Unit {0}

module _ (ws notes : List ℕ) (t : ℕ) where
  seq_at : (d i : ℕ) (f : Found) → At t f → At t (in_seq_w d ws notes i f)
  unfolding in_seq_w seq_spot
  seq_at d i (Past e) h = tt
  seq_at d i (Hit s) h =
      cond-case (At t) s.closed (λ u. h) λ u.
      cond-case (At t) (ltb s.end (length ws)) (λ v. cond-case (At t) (eqb (get_or ws s.end 0) 0) (λ w. h) (λ w. h)) (λ v. tt)

  left_at : (i : ℕ) (s : Site) → s.at ≡ t → At t (left_w i s)
  unfolding left_w
  left_at i s h = cond-case (At t) s.closed (λ u. h) (λ u. h)

  beside_at : (i e : ℕ) (f : Found) → At t f → At t (beside_w i e f)
  unfolding beside_w
  beside_at i e (Past g) h = tt
  beside_at i e (Hit s) h = cond-case (At t) s.closed (λ u. h) (λ u. h)

  sides_at : (sub : ℕ → Found) → ((i : ℕ) → At t (sub i)) → (i : ℕ) (f : Found) → At t f → At t (par_sides sub i f)
  unfolding par_sides
  sides_at sub all i (Hit s) h = left_at i s h
  sides_at sub all i (Past e) h = beside_at i e (sub e) (all e)

  body_at : (f : Found) → At t f → At t (in_body_w f)
  unfolding in_body_w
  body_at (Past e) h = tt
  body_at (Hit s) h = h

  scope_at : (d level i : ℕ) (f : Found) → At t f → At t (in_scope_w d ws t level i f)
  unfolding in_scope_w
  scope_at d level i (Past e) h = tt
  scope_at d level i (Hit s) h = h

  node_at : (sub : ℕ → Found) → ((i : ℕ) → At t (sub i)) → (d level k i : ℕ) → At t (node_w sub d ws notes t level k i)
  unfolding node_w in_par_w
  node_at sub all d level k i =
      cond-case (At t) (eqb k Kind.seq) (λ u. seq_at d i _ (all _)) λ u.
      cond-case (At t) (eqb k Kind.par) (λ u. sides_at sub all i _ (all _)) λ u.
      cond-case (At t) (eqb k Kind.scope) (λ u. scope_at d level i _ (all _)) λ u.
      cond-case (At t) (eqb k Kind.executor) (λ u. body_at _ (all _)) λ u. tt

  find_at : (d level i : ℕ) → At t (find_w d ws notes t level i)
  unfolding find_w here_w
  find_at zero level i = tt
  find_at (suc d) level i =
      cond-case (At t) (ltb i (length ws))
      (λ u.
      cond-case (At t) (eqb i t) (λ v. eqb→eq i t v) λ v.
      cond-case (At t) (outside_w i t (note_at notes i)) (λ w. tt) λ w. node_at (find_w d ws notes t (level + 1)) (find_at d (level + 1)) d level _ i)
      (λ u. tt)

  pub found_at : (d level i : ℕ) (a : Site) → find_w d ws notes t level i ≡ Hit a → a.at ≡ t
  found_at d level i a e = subst (At t) e (find_at d level i)

-- ---- behind a process

behind_facts : (n i t : ℕ) → cond (eqb n 0) false (cond (leb t i) false (leb n t)) ≡ true → (n ≡ 0 → ⊥) × (i < t) × (n ≤ t)
behind_facts n i t e = by (ℕ_discrete n 0) (dec_lt i t) (leb n t) refl
  where
    by : Dec (n ≡ 0) → Dec (i < t) → (b : Bool) → leb n t ≡ b → (n ≡ 0 → ⊥) × (i < t) × (n ≤ t)
    by (yes z) h b q = never (sym e ∙ rw (eq-eqb n 0 z))
    by (no z) (no h) b q = never (sym e ∙ rw (ne_eqb n 0 z, le-leb t i (omega (arith, h))))
    by (no z) (yes h) true q = (z, h, leb→le n t (true_test q))
    by (no z) (yes h) false q = never (sym e ∙ rw (ne_eqb n 0 z, lt-leb t i h, q))

pub behind_after : (notes : List ℕ) (start t : ℕ) → behind_w notes start t ≡ true → (note_at notes start ≡ 0 → ⊥) × (start < t) × (note_at notes start ≤ t)
unfolding behind_w
behind_after notes start t e = behind_facts (note_at notes start) start t e

behind_past : (ws notes : List ℕ) (start t d level : ℕ) → (note_at notes start ≡ 0 → ⊥) → start < t → note_at notes start ≤ t → (q : ℕ) × (find_w (suc d) ws notes t level start ≡ Past q)
unfolding find_w outside_w
behind_past ws notes start t d level z h l = by (ltb start (length ws)) refl
  where
    by : (b : Bool) → ltb start (length ws) ≡ b → (q : ℕ) × (find_w (suc d) ws notes t level start ≡ Past q)
    by false e = (0, rw e)
    by true e = (note_at notes start, rw (e, ne_eqb start t (λ q. omega arith), ne_eqb (note_at notes start) 0 z, le-ltb t start (omega arith), le-leb (note_at notes start) t l))

-- and so behind any place further on
pub behind_nothing : (ws notes : List ℕ) (start p p' : ℕ) → behind_w notes start (onward start p) ≡ true → p ≤ p' → p' < 65536 → (q : ℕ) × (find_w 64 ws notes (onward start p') 1 start ≡ Past q)
unfolding onward
behind_nothing ws notes start p p' e h low =
    let (z, a, l) = behind_after notes start (onward start p) e in
    by z a l (dec_lt start 1152921504606846976)
  where
    by :
        (note_at notes start ≡ 0 → ⊥) → start < onward start p → note_at notes start ≤ onward start p → Dec (start < 1152921504606846976) →
        (q : ℕ) × (find_w 64 ws notes (onward start p') 1 start ≡ Past q)
    by z a l (no big) =
        let same : onward start p ≡ start = rw (le-leb 1152921504606846976 start (omega (arith, big))) in
        absurd (omega arith)
    by z a l (yes small) =
        let one : onward start p ≡ start + p = rw (lt-leb 1152921504606846976 start small, lt-leb 1152921504606846976 p (omega arith)) in
        let two : onward start p' ≡ start + p' = rw (lt-leb 1152921504606846976 start small, lt-leb 1152921504606846976 p' (omega arith)) in
        behind_past ws notes start (onward start p') 63 1 z (omega arith) (omega arith)

-- ---- kinds

no_act : (k n : ℕ) → acts_w k ≡ false → acts_w n ≡ true → k ≡ n → ⊥
no_act k n e f z = subst T (sym f ∙ sym (ap acts_w z) ∙ e) tt

pub idle_moves : (ws notes : List ℕ) (i k : ℕ) → acts_w k ≡ false → moves_w ws notes i k ≡ 0
unfolding acts_w moves_w by_kind
idle_moves ws notes i k e =
    rw (ne_eqb k 11 (no_act k 11 e refl), ne_eqb k 16 (no_act k 16 e refl), ne_eqb k 1 (no_act k 1 e refl), ne_eqb k 4 (no_act k 4 e refl), ne_eqb k 5 (no_act k 5 e refl), ne_eqb k 9 (no_act k 9 e refl), ne_eqb k 10 (no_act k 10 e refl), ne_eqb k 18 (no_act k 18 e refl))
    (by (dec_lt k 12))
  where
    by : Dec (k < 12) → ◌≡◌ {A = ℕ} (cond (ltb k 12) 0 (cond (ltb k 15) 1 0)) 0
    by (yes h) = rw (lt-ltb k 12 h)
    by (no h) =
        let high : 15 ≤ k = omega (arith, h, no_act k 12 e refl, no_act k 13 e refl, no_act k 14 e refl) in
        rw (le-ltb k 12 (omega arith), le-ltb k 15 high)

no_hear : (k n : ℕ) → hears_w k ≡ false → hears_w n ≡ true → k ≡ n → ⊥
no_hear k n e f z = subst T (sym f ∙ sym (ap hears_w z) ∙ e) tt

-- ---- two that do not fit

abbrev No : Bool → Type 0
No b = b ≡ false

unawaited : (other : List ℕ) (h s client sender e : ℕ) → eqb client e ≡ false → awaits_w other h s client sender e ≡ false
unfolding awaits_w
unawaited other h s client sender e n = rw n

unreplied : (part other : List ℕ) (client branch sender e : ℕ) → eqb client e ≡ false → replies_w part other client branch sender e ≡ false
unfolding replies_w
unreplied part other client branch sender e n = cond-case No (eqb branch 0) (λ t. unawaited other _ _ client sender e n) (λ t. refl)

-- the words from a place on
at_lent : (ws : List ℕ) (i n : ℕ) → at (lent i (length ws) ws) n ≡ at ws (i + n)
at_lent ws i n = ap (λ (l : List ℕ). get_or l n 0) (take_all (length ws - i) (drop i ws) (omega (arith, length-drop i ws))) ∙ get_or-drop i ws n 0

pub head_lent : (ws : List ℕ) (i : ℕ) → at (lent i (length ws) ws) 0 ≡ at ws i
head_lent ws i = at_lent ws i 0 ∙ ap (at ws) (let z : i + 0 ≡ i = omega arith in z)

onward_one : (i : ℕ) → i ≤ 8192 → onward i 1 ≡ i + 1
unfolding onward
onward_one i h = rw (lt-leb 1152921504606846976 i (omega arith))

-- a sender that names another engine
module _ (ws : List ℕ) (start i kind e : ℕ) (none : meant_w ws start i kind e ≡ false) (low : i ≤ 8192) (high : 64 ≤ start) (inside : start ≤ length ws) where
  abbrev part : List ℕ
  part = lent i (length ws) ws

  first_word : at ws (onward i 1) ≡ at part 1
  first_word = ap (at ws) (onward_one i low) ∙ sym (at_lent ws i 1)

  pub unmeant_fit : (other : List ℕ) (o : Offer) (branch sender : ℕ) → fit_w part (lent (start - 64) start ws) other o kind branch sender e ≡ false
  unfolding meant_w fit_w replied_w addressed_w
  unmeant_fit other o branch sender = by (ℕ_discrete kind 16) (ℕ_discrete kind 18)
    where
      by : Dec (kind ≡ 16) → Dec (kind ≡ 18) → fit_w part (lent (start - 64) start ws) other o kind branch sender e ≡ false
      by (yes k) d =
          let n : eqb (executors_client (at part 1)) e ≡ false = ap (λ (w : ℕ). eqb (executors_client w) e) (sym first_word) ∙ (rw (eq-eqb kind 16 k) at none) in
          rw (eq-eqb kind 16 k, unreplied part other (executors_client (at part 1)) branch sender e n)
      by (no k) (yes d) =
          let n : eqb (notices_client (at part 1)) e ≡ false = ap (λ (w : ℕ). eqb (notices_client w) e) (sym first_word) ∙ (rw (ne_eqb kind 16 k, eq-eqb kind 18 d) at none) in
          rw (ne_eqb kind 16 k, eq-eqb kind 18 d) (unreplied part other (notices_client (at part 1)) branch sender e n)
      by (no k) (no d) =
          let n : eqb (value_in (lent (start - 64) start ws) (first_variable (at part 1))) e ≡ false =
          ap (λ (w : ℕ). eqb (value_in (lent (start - 64) start ws) (first_variable w)) e) (sym first_word)
          ∙ (rw (ne_eqb kind 16 k, ne_eqb kind 18 d, le-ltb start 64 high, le-ltb (length ws) start inside) at none) in
          rw (ne_eqb kind 16 k, ne_eqb kind 18 d, n)

-- a process that receives nothing
module _ (other : List ℕ) (none : hears_w (counted_as (kind_of (at other 0))) ≡ false) where
  abbrev h : ℕ
  h = at other 0

  deaf_receives : (kind g : ℕ) → hears_w kind ≡ true → receives_w h kind g ≡ false
  unfolding receives_w
  deaf_receives kind g e = rw (ne_eqb (counted_as (kind_of h)) kind (no_hear (counted_as (kind_of h)) kind none e))

  deaf_waits : (g s : ℕ) → waits_w other g s ≡ false
  unfolding waits_w hears_w
  deaf_waits g s = rw (deaf_receives 17 g refl)

  deaf_awaits : (g s client sender e : ℕ) → awaits_w other g s client sender e ≡ false
  unfolding awaits_w
  deaf_awaits g s client sender e =
      cond-case No (eqb client e) (λ t. cond-case No (eqb _ sender) (λ t. deaf_waits g s) (λ t. refl)) (λ t. refl)

  deaf_replies : (us : List ℕ) (client branch sender e : ℕ) → replies_w us other client branch sender e ≡ false
  unfolding replies_w
  deaf_replies us client branch sender e = cond-case No (eqb branch 0) (λ t. deaf_awaits _ _ client sender e) (λ t. refl)

  taker_hears : (kind : ℕ) → hears_w (taker_of kind) ≡ true
  unfolding taker_of hears_w
  taker_hears kind = cond-case (λ (k : ℕ). hears_w k ≡ true) (eqb kind Kind.notify) (λ t. refl) (λ t. refl)

  deaf_fits : (branch kind g : ℕ) → hears_w kind ≡ true → fits_w other (offer_w other branch) kind g ≡ false
  unfolding fits_w offer_w bare_w hears_w
  deaf_fits branch kind g e = rw (ne_eqb (kind_of h) 6 (λ z. no_hear (counted_as (kind_of h)) 6 none refl (counted_is z (omega arith)))) (by (eqb branch 0))
    where
      by : (b : Bool) → fits_w other (cond b (offering 0 0 (part_end other 0) (part_end other 0)) no_offer) kind g ≡ false
      by true = deaf_receives kind g e
      by false = refl

  pub deaf_fit : (us vs : List ℕ) (kind branch sender e : ℕ) → fit_w us vs other (offer_w other branch) kind branch sender e ≡ false
  unfolding fit_w replied_w takes_w
  deaf_fit us vs kind branch sender e =
      cond-case No (eqb kind Kind.executor) (λ t. rw (deaf_replies us (executors_client (at us 1)) branch sender e)) λ t.
      cond-case No (eqb kind Kind.notice) (λ t. deaf_replies us (notices_client (at us 1)) branch sender e) λ t.
      cond-case No (addressed_w us vs e) (λ t. rw (deaf_fits branch (taker_of kind) (at us 0) (taker_hears kind))) (λ t. refl)

-- ---- refused with 5

abbrev pub Five : Answered → Type 0
Five w = w.answer.number ≡ 5

pub between_five :
    (limits : Limits) (ws : List ℕ) (x : Encounter) (out : List ℕ) →
    (64 ≤ x.sender.start → x.sender.start ≤ length ws → x.sender.site.at ≤ length ws → x.receiver.site.at ≤ length ws →
    fit_w (lent x.sender.site.at (length ws) ws) (lent (x.sender.start - 64) x.sender.start ws) (lent x.receiver.site.at (length ws) ws)
    (offer_w (lent x.receiver.site.at (length ws) ws) x.branch) x.kind x.branch x.engine x.second ≡ false) →
    Five (between_w limits ws x out)
unfolding between_w meet_w
between_five limits ws x out f =
    cond-case Five (eqb x.engine x.second) (λ t. refl) λ t.
    cond-case Five (ltb x.sender.start 64) (λ t. refl) λ t1.
    cond-case Five (ltb (length ws) x.sender.start) (λ t. refl) λ t2.
    cond-case Five (ltb (length ws) x.sender.site.at) (λ t. refl) λ t3.
    cond-case Five (ltb (length ws) x.receiver.site.at) (λ t. refl) λ t4.
    rw (f (nltb→le _ _ t1) (nltb→le _ _ t2) (nltb→le _ _ t3) (nltb→le _ _ t4))
