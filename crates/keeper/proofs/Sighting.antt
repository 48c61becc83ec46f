-- The search for a reply that is ready, from what each call of its code leaves.
-- Assumes nothing.
use Prim.Native.Nat.{ℕ, ◌+◌, ◌≤◌, ◌<◌}
use native.Mathlib.Omega.{arith}
use native.Mathlib.Decide.{ℕ_discrete, dec_lt}
use mathlib.Core.Path.{◌≡◌, refl, sym, subst, ap, ◌∙◌}
use mathlib.Core.Bool.{Bool, true, false}
use mathlib.Core.List.{List}
use borrow.Author.Tests.{eq-eqb, lt-leb}
use lib.Dec.{T}
use lib.ListN.{length}
use Rattle.std.specs.Prelude.{None, Some}
use Rattle.sock.specs.Words.{kind_of}
use Rattle.sock.specs.Calls.{done, Stepped}
use Rattle.sock.proofs.Logic.{true_test}
use Rattle.sock.proofs.Located.{start_of}
use Rattle.reading.proofs.Known.{known_length}
use Rattle.reading.proofs.Standing.{start_inside}
use Rattle.layout.specs.Positions.{onward}
use Rattle.layout.specs.Kinds.{counted_as}
use Rattle.layout.proofs.Named.{counted_is}
use Rattle.finding.specs.declared.find.Site.{Site}
use Rattle.finding.specs.declared.find.Found.TheVariants.{Hit}
use Rattle.finding.specs.Find.{find_w}
use Rattle.rules.specs.Rewriting.{at}
use Rattle.stepping.specs.declared.bundles.Numbers.{Numbers}
use Rattle.stepping.specs.Bundles.{Engines, numbers_as, start_at}
use Rattle.stepping.specs.Stepping.{moves_w}
use Rattle.keeper.specs.Game.{Side, of_side, moved, delivers}
use Rattle.keeper.specs.Hopes.{ready_at}
use Rattle.keeper.specs.Moves.{numbers_at, past_of}
use Rattle.keeper.specs.Seeking.{side_of, move_at, place_w, Surveyed, Refused, There, Here, Sends, Passed}
use Rattle.keeper.specs.Replies.{answered_w, Reply, Quiet, Sighted, Spied, Replied}
use Rattle.keeper.proofs.Blocks.{past_further, same_engine, same_position}
use Rattle.keeper.proofs.Replying.{Ready, reply_ready}
use Rattle.keeper.proofs.Trying.{beyond}
use Rattle.keeper.proofs.Looking.{low_position, low_place, place_some, not_answered, later_branch}
use Rattle.keeper.proofs.Readied.{ReadyHere, ready_here, answered_here, accepted_reply, known, start_is, engines_are}

never : {A : Type 0} → true ≡ false → A
never e = absurd (subst T e tt)

pub quiet_refused : (serial : ℕ) (ws : List ℕ) (i : ℕ) → Refused ws i → Quiet serial ws i
quiet_refused serial ws i r x d t calm = r x d

-- what is passed by is no reply
pub sight_passed : (serial : ℕ) (ws : List ℕ) (i : ℕ) (ready : Bool) (next : ℕ) → ready ≡ false → Passed ws i next → Sighted serial ws i ready next
sight_passed serial ws i ready next e p =
    record {
      further = p.further;
      yes = λ q. never (sym q ∙ e);
      no = λ q. quiet_refused serial ws i (p.refused i (omega arith) p.further);
      between = λ j u v. quiet_refused serial ws j (p.refused j (omega arith) v);
    }

-- an executor that is ready sends
pub ready_sends : (serial : ℕ) (ws notes : List ℕ) (a : Site) → ready_at serial ws a.at ≡ true → Sends ws notes a
unfolding moves_w
ready_sends serial ws notes a e =
    let r : ReadyHere serial ws a.at = ready_here serial ws a.at e in
    rw (counted_is r.kind (omega arith), eq-eqb _ 0 r.body) refl

module _ (serial : ℕ) (ws notes : List ℕ) (g : Engines) (k : Numbers) (a : Site) (i : ℕ) (h : Here ws notes g k a i) (ready : ready_at serial ws a.at ≡ true) where
  -- its waiter is found
  pub sight_answered :
      (b : Site) (v : Bool) (next : ℕ) → (k.second < g.count) × (find_w 64 ws notes (onward (start_at g k.second) k.second_position) 1 (start_at g k.second) ≡ Hit b) →
      v ≡ answered_w ws a.at b.at k.branch k.engine k.second → next ≡ past_of i 16 → Sighted serial ws i v next
  sight_answered b v next (inside, receives) e n =
      let r : ReadyHere serial ws a.at = ready_here serial ws a.at ready in
      let kd : counted_as (kind_of (at ws a.at)) ≡ 16 = counted_is r.kind (omega arith) in
      let sends : Sends ws notes a = ready_sends serial ws notes a ready in
      record {
        further = rw n (past_further i).0;
        yes = λ q. reply_of (accepted_reply ws notes g h.surveyed k low low' h.inside inside a b h.found receives serial r (answered_here ws a.at b.at k.branch k.engine k.second (sym e ∙ q)));
        no = λ q. quiet_refused serial ws i (not_answered ws notes g k a i h sends inside kd b receives (sym e ∙ q));
        between = λ j u w. quiet_refused serial ws j (later_branch ws notes g k a i h sends inside kd b receives j u (rw n at w));
      }
    where
      low : k.position < 65536
      low = omega (arith, low_position i, ap (λ (n : Numbers). n.position) h.numbers)

      low' : k.second_position < 65536
      low' = omega (arith, low_place i, ap (λ (n : Numbers). n.second_position) h.numbers)

      reply_of : (x : Stepped) × (moved ws (numbers_as k) ≡ done x) × T (delivers serial x) × (x.fault ≡ 0) → Reply serial ws i
      reply_of (x, d, t, calm) = record { stepped = x; accepted = ap (λ (n : Numbers). moved ws (numbers_as n)) (sym h.numbers) ∙ d; delivers = t; calm = calm }

onward_small : (i n : ℕ) → i ≤ 100000 → n < 65536 → onward i n ≡ i + n
unfolding onward
onward_small i n h l = rw (lt-leb 1152921504606846976 i (omega arith), lt-leb 1152921504606846976 n (omega arith))

-- no executor is ready at the place
pub sight_unready :
    (serial : ℕ) (ws notes : List ℕ) (g : Engines) (k : Numbers) (i : ℕ) → There ws notes g k i → (t : ℕ) (ready : Bool) (next : ℕ) → place_w ws notes g k.engine k.position ≡ Some t → ready_at serial ws t ≡ false → ready ≡ false →
    next ≡ past_of i 1048576 → Sighted serial ws i ready next
sight_unready serial ws notes g k i h t ready next place e f n =
    record {
      further = rw n (past_further i).2;
      yes = λ q. never (sym q ∙ f);
      no = λ q. quiet_at i refl refl;
      between = λ j u v. let (p1, p2) = same_position i j u (rw n at v) in quiet_at j p1 p2;
    }
  where
    sv : Surveyed ws notes g
    sv = h.surveyed

    start_low : start_of (known ws notes g sv).config k.engine ≤ 100000
    start_low =
        let n = known ws notes g sv in
        let z = start_inside n.config n.readable.fitting k.engine (omega (arith, h.inside, engines_are ws notes g sv)) in
        omega (arith, z, ap length n.same, (known_length n).1)

    quiet_at : (j : ℕ) → (numbers_at j).engine ≡ (numbers_at i).engine → (numbers_at j).position ≡ (numbers_at i).position → Quiet serial ws j
    quiet_at j p1 p2 x d u calm =
        let n = known ws notes g sv in
        let r : Ready serial ws (start_of n.config (numbers_at j).engine + (numbers_at j).position) = reply_ready ws (move_at j) x serial d u calm n.config n.reads in
        let e1 : (numbers_at j).engine ≡ k.engine = p1 ∙ sym (ap (λ (n : Numbers). n.engine) h.numbers) in
        let e2 : (numbers_at j).position ≡ k.position = p2 ∙ sym (ap (λ (n : Numbers). n.position) h.numbers) in
        let there : t ≡ start_of n.config k.engine + k.position =
        place_some ws notes g k.engine k.position t place ∙ ap (λ (s : ℕ). onward s k.position) (start_is ws notes g sv k.engine h.inside) ∙ onward_small (start_of n.config k.engine) k.position start_low (omega (arith, low_position i, ap (λ (n : Numbers). n.position) h.numbers)) in
        let yes : ready_at serial ws t ≡ true = ap (ready_at serial ws) (there ∙ sym (ap (λ (e : ℕ). start_of n.config e + k.position) e1) ∙ sym (ap (λ (p : ℕ). start_of n.config (numbers_at j).engine + p) e2)) ∙ r.ready in
        never (sym yes ∙ e)

-- ---- of a side

module _ (engines serial : ℕ) (b : Bool) (ws : List ℕ) (i : ℕ) (k : Numbers) (numbers : k ≡ numbers_at i) (ready : Bool) (next : ℕ) where
  engine_is : (numbers_at i).engine ≡ k.engine
  engine_is = sym (ap (λ (n : Numbers). n.engine) numbers)

  pub spied_other : of_side engines (side_of b) k.engine ≡ false → ready ≡ false → next ≡ past_of i 8589934592 → Spied engines serial (side_of b) ws i ready next
  spied_other q f n =
      record {
        further = rw n (past_further i).3;
        mine = λ z. never (sym z ∙ f);
        yes = λ z. never (sym z ∙ f);
        no = λ j u v t. absurd (subst T (ap (of_side engines (side_of b)) (same_engine i j u (rw n at v) ∙ engine_is) ∙ q) t);
        not_here = λ z t. absurd (subst T (ap (of_side engines (side_of b)) engine_is ∙ q) t);
      }

  pub spied_beyond : (notes : List ℕ) (g : Engines) → Surveyed ws notes g → g.count ≤ k.engine → ready ≡ false → next ≡ past_of i 8589934592 → Spied engines serial (side_of b) ws i ready next
  spied_beyond notes g sv h f n =
      record {
        further = rw n (past_further i).3;
        mine = λ z. never (sym z ∙ f);
        yes = λ z. never (sym z ∙ f);
        no = λ j u v t. at_number j (same_engine i j u (rw n at v));
        not_here = λ z t. at_number i refl;
      }
    where
      at_number : (j : ℕ) → (numbers_at j).engine ≡ (numbers_at i).engine → Quiet serial ws j
      at_number j q = quiet_refused serial ws j (beyond ws notes sv.words g sv (numbers_at j) (low_position j) (low_place j) (omega (arith, q, engine_is, h)))

  pub spied_sighted : of_side engines (side_of b) k.engine ≡ true → Sighted serial ws i ready next → Spied engines serial (side_of b) ws i ready next
  spied_sighted q s =
      record {
        further = s.further;
        mine = λ z. subst (λ (e : ℕ). T (of_side engines (side_of b) e)) (sym engine_is) (true_test q);
        yes = s.yes;
        no = λ j u v t. s.between j u v;
        not_here = λ z t. s.no z;
      }

-- ---- the loop, turn by turn

module _ (engines serial : ℕ) (side : Side) (ws : List ℕ) (i : ℕ) (passed : (j : ℕ) → j < i → T (of_side engines side (move_at j).engine) → Quiet serial ws j) where
  pub reply_next : (ready : Bool) (next : ℕ) → ready ≡ false → Spied engines serial side ws i ready next → (j : ℕ) → j < next → T (of_side engines side (move_at j).engine) → Quiet serial ws j
  reply_next ready next f s j u t = by (dec_lt j i) (ℕ_discrete j i)
    where
      by : Dec (j < i) → Dec (j ≡ i) → Quiet serial ws j
      by (yes v) d = passed j v t
      by (no v) (yes q) = subst (Quiet serial ws) (sym q) (s.not_here f (subst (λ (m : ℕ). T (of_side engines side (move_at m).engine)) q t))
      by (no v) (no q) = s.no j (omega (arith, v, q)) u t

  pub reply_found : (ready : Bool) (next : ℕ) → i < 68719476736 → ready ≡ true → Spied engines serial side ws i ready next → Replied engines serial side ws (Some i)
  reply_found ready next h f s =
      record {
        within = λ j e. (let q : i ≡ j = cc in omega arith);
        mine = λ j e. (let q : i ≡ j = cc in subst (λ (m : ℕ). T (of_side engines side (move_at m).engine)) q (s.mine f));
        yes = λ j e. (let q : i ≡ j = cc in subst (Reply serial ws) q (s.yes f));
        no = λ e. absurd (let z : ◌≡◌ {A = ℕ} 0 1 = cc in omega arith);
      }

  pub reply_none : 68719476736 ≤ i → Replied engines serial side ws None
  reply_none h =
      record {
        within = λ j e. absurd (let z : ◌≡◌ {A = ℕ} 0 1 = cc in omega arith);
        mine = λ j e. absurd (let z : ◌≡◌ {A = ℕ} 0 1 = cc in omega arith);
        yes = λ j e. absurd (let z : ◌≡◌ {A = ℕ} 0 1 = cc in omega arith);
        no = λ e j u t. passed j (omega arith) t;
      }
