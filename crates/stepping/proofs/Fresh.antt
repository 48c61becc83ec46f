-- The fresh words of an exchange: how many at most, and that the scratch keeps its length.
-- Assumes nothing.
use Prim.Native.Nat.{ℕ, ◌≤◌}
use native.Mathlib.Omega.{arith}
use mathlib.Core.Path.{◌≡◌, refl, ◌∙◌}
use mathlib.Core.Bool.{Bool, true, false, cond}
use mathlib.Core.List.{List}
use lib.Dec.{eqb, lit<}
use lib.ListN.{length, get_or, set, length-set, length-replicate}
use Rattle.sock.specs.Words.{dead_of}
use Rattle.layout.specs.Positions.{onward}
use Rattle.writers.proofs.Laid.{Near, near_of}
use Rattle.rules.specs.Storing.{unchanged}
use Rattle.rules.specs.Storing.{Store}
use Rattle.rules.specs.Rewriting.{Rewriting}
use Rattle.finding.specs.declared.find.Site.{Site}
use Rattle.rules.specs.Rewriting.{Rewritten, rewritten, vanishing, keeping, part_w, part_end}
use Rattle.layout.specs.Heads.{throw_head}
use Rattle.rules.specs.Messages.{heard_w, served_w, answered_w}
use Rattle.rules.specs.Offering.{Offer, placed, hear_w, seq_first, three_w, serve_w, ask_w, answer_w, fail_w}
use Rattle.rules.specs.Editing.{refused_edit, edited, hollow_w, nil_w, plain_w}
use Rattle.rules.proofs.Exchanges.{three_to_lem, first_place}
use Rattle.stepping.specs.Exchanging.{blank}
use Rattle.stepping.specs.Meeting.{send_w, receive_w}

pub blank_length : length blank ≡ 64
blank_length = length-replicate {A = ℕ} 64 0

pub blank_near : Near (length blank)
blank_near = rw blank_length (near_of 64 (lit< tt))

three_length : (fresh : List ℕ) (to a b c : ℕ) → length (three_w fresh to a b c) ≡ length fresh
unfolding three_w
three_length fresh to a b c =
    length-set (set (set fresh to a) (onward to 1) b) (onward (onward to 1) 1) c ∙ (length-set (set fresh to a) (onward to 1) b ∙ length-set fresh to a)

first_length : (next : ℕ) (fresh : List ℕ) → length (seq_first next fresh).fresh ≡ length fresh
unfolding seq_first
first_length next fresh = by (eqb next 0)
  where
    by : (b : Bool) → length (cond b (placed 0 fresh) (placed (onward 0 1) (set fresh 0 4096))).fresh ≡ length fresh
    by true = refl
    by false = length-set fresh 0 4096

first_to : (next : ℕ) (fresh : List ℕ) → (seq_first next fresh).to ≤ 1
unfolding seq_first
first_to next fresh = by (eqb next 0)
  where
    by : (b : Bool) → (cond b (placed 0 fresh) (placed (onward 0 1) (set fresh 0 4096))).to ≤ 1
    by true = omega arith
    by false = omega (arith, first_place)

-- a rewriting with few fresh words, in scratch of the same length
abbrev Few : Rewritten → List ℕ → Type 0
Few t fresh = (t.rewriting.fresh ≤ 4) × (length t.fresh ≡ length fresh)

module _ (fresh : List ℕ) (near : Near (length fresh)) (room : 4 ≤ length fresh) where
  pub send_few : (ws : List ℕ) (kind server serial : ℕ) → Few (send_w ws kind server serial fresh) fresh
  unfolding send_w ask_w
  send_few ws kind server serial = by (eqb kind 10)
    where
      by : (b : Bool) → Few (cond b (ask_w ws server serial fresh) (rewritten (vanishing unchanged) fresh)) fresh
      by true = (omega (arith, three_to_lem fresh 0 near (omega arith)), three_length fresh 0 _ _ _)
      by false = (omega arith, refl)

  hear_few : (ws : List ℕ) (o : Offer) (store : Store) → (hear_w ws o store).fresh ≤ 4
  unfolding hear_w part_w
  hear_few ws o store = by (eqb o.next 0) (eqb (get_or ws o.next 0) 0)
    where
      by : (a b : Bool) → (cond a (vanishing store) (cond b (vanishing store) (keeping 0 o.next o.upto o.end store))).fresh ≤ 4
      by true b = omega arith
      by false true = omega arith
      by false false = omega arith

  serve_few : (ws : List ℕ) (o : Offer) (client serial : ℕ) (store : Store) → Few (serve_w ws o client serial store fresh) fresh
  unfolding serve_w
  serve_few ws o client serial store =
      let l = first_length o.next fresh in
      let t = first_to o.next fresh in
      let n = three_to_lem (seq_first o.next fresh).fresh (seq_first o.next fresh).to (rw l near) (omega arith) in
      (omega arith, three_length _ _ _ _ _ ∙ l)

  fail_few : (ws : List ℕ) (w : ℕ) → Few (fail_w ws w fresh) fresh
  unfolding fail_w
  fail_few ws w = by (eqb (dead_of (get_or ws 1 0)) 1)
    where
      by :
          (b : Bool) →
          Few (cond b (rewritten (vanishing unchanged) fresh) (rewritten (keeping (onward 0 1) (part_end ws 0) (part_end ws 0) (part_end ws 0) unchanged) (set fresh 0 (throw_head w)))) fresh
      by true = (omega arith, refl)
      by false = (omega (arith, first_place), length-set fresh 0 _)

  pub receive_few : (ws vs other : List ℕ) (o : Offer) (kind client serial : ℕ) → Few (receive_w ws vs other o kind client serial fresh) fresh
  unfolding receive_w answer_w
  receive_few ws vs other o kind client serial = by (eqb kind 9) (eqb kind 10) (eqb kind 16)
    where
      by :
          (a b d : Bool) →
          Few (cond a (rewritten (hear_w other o (heard_w ws vs other o.guard)) fresh)
          (cond b (serve_w other o client serial (served_w ws vs other o.guard) fresh)
          (cond d (answer_w other (answered_w ws vs other) fresh) (fail_w other (get_or ws 1 0) fresh)))) fresh
      by true b d = (hear_few other o _, refl)
      by false true d = serve_few other o client serial _
      by false false true = (omega (arith, first_place), length-set fresh 0 24576)
      by false false false = fail_few other _

  -- an edit made of such a rewriting
  pub plain_few : (s : Site) (start : ℕ) (t : Rewriting) → t.fresh ≤ 4 → (plain_w s start t fresh).edit.fresh ≤ 4
  unfolding plain_w nil_w hollow_w
  plain_few s start t h = by (eqb t.number 0) t.nil s.hollow
    where
      by :
          (ok a b : Bool) →
          (cond ok
          (cond a
          (edited
          (record { number = 0; list = start; past = start; listed = 0; from = s.from; upto = s.upto; fresh = (cond b (placed (onward 0 1) (set fresh 0 0)) (placed 0 fresh)).to; gap = s.gap; end = s.end; store = t.store })
          (cond b (placed (onward 0 1) (set fresh 0 0)) (placed 0 fresh)).fresh)
          (edited
          (record { number = t.number; list = start; past = start; listed = 0; from = s.at; upto = onward s.at t.from; fresh = t.fresh; gap = onward s.at t.upto; end = onward s.at t.end; store = t.store })
          fresh))
          (edited (refused_edit t.number) fresh)).edit.fresh ≤ 4
      by true true true = omega (arith, first_place)
      by true true false = omega arith
      by true false b = omega arith
      by false a b = omega arith
