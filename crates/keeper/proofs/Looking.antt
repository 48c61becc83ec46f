-- The search for moves, from what each call of its code leaves.
-- Assumes nothing.
use Prim.Native.Nat.{ℕ, suc, ◌+◌, ◌/◌, ◌%◌, ◌≤◌, ◌<◌}
use native.Mathlib.Omega.{arith}
use native.Mathlib.Decide.{ℕ_discrete, dec_lt}
use native.Mathlib.Nat.{div-div-eq-div-mul}
use mathlib.Core.Path.{◌≡◌, refl, sym, subst, ap, ◌∙◌}
use mathlib.Core.Bool.{Bool, true, false, cond}
use mathlib.Core.List.{List}
use borrow.Author.Tests.{ne_eqb}
use lib.Dec.{T, leb, ltb, eqb, leb→le}
use lib.ListN.{length, get_or}
use Rattle.sock.specs.Words.{kind_of}
use Rattle.sock.specs.Calls.{Answer}
use Rattle.sock.proofs.Logic.{true_test, cond-case}
use Rattle.sock.specs.Configuration.{standard}
use Rattle.reading.specs.Survey.{no_starts, surveyed}
use Rattle.reading.specs.declared.starts.Starts.{Starts as Found}
use Rattle.reading.specs.Answers.{starts_in}
use Rattle.reading.proofs.Combining.{Words}
use Rattle.layout.specs.Positions.{onward}
use Rattle.finding.specs.declared.find.Site.{Site}
use Rattle.finding.specs.declared.find.Found.{Found as Sought}
use Rattle.finding.specs.declared.find.Found.TheVariants.{Hit, Past}
use Rattle.finding.specs.Find.{find_w}
use Rattle.rules.specs.Rewriting.{at}
use Rattle.stepping.specs.declared.bundles.Numbers.{Numbers}
use Rattle.stepping.specs.Bundles.{Engines, numbers_as, start_at}
use Rattle.std.specs.Prelude.{Option, None, Some, Result, Ok, Err}
use Rattle.std.proofs.lemmas.Option.{none-some}
use Rattle.stepping.specs.declared.steps.Way.{Way}
use Rattle.layout.specs.Kinds.{kind_named, number_of, counted_as}
use Rattle.layout.specs.declared.kind.Kind.{Kind}
use Rattle.stepping.specs.Answering.{answered, refusing}
use Rattle.stepping.specs.declared.steps.Way.TheVariants.{Alone, Sending}
use Rattle.stepping.specs.Stepping.{way_as, moves_w, moving_w}
use Rattle.stepping.specs.declared.answer.Accepted.{Accepted}
use Rattle.stepping.specs.Answers.{told}
use Rattle.stepping.proofs.Goal.{given}
use Rattle.layout.specs.declared.refusal.Refusal.{Refusal}
use Rattle.layout.proofs.Refusing.{some_number}
use Rattle.keeper.specs.declared.seek.Move.{Move}
use Rattle.keeper.specs.Answers.{index_in, answer_in}
use Rattle.keeper.specs.Game.{Side, of_side, moved, any}
use Rattle.keeper.specs.Moves.{numbers_at, past_of}
use Rattle.keeper.specs.Glances.{acts_w, hears_w, behind_w, meant_w}
use Rattle.stepping.specs.Meeting.{replied_w, replies_w}
use Rattle.keeper.specs.Replies.{answered_w}
use Rattle.keeper.specs.Seeking.{side_of, large, move_at, Surveyed, place_w, Refused, Idle, There, Here, Sends, Passed, Tried, Looked, Scanned}
use Rattle.keeper.proofs.Some.{move_there}
use Rattle.keeper.proofs.Bounds.{Small, accepted_small}
use Rattle.keeper.proofs.Blocks.{past_further, same_engine, same_position, same_second, same_place, not_first}
use Rattle.keeper.proofs.Glancing.{behind_nothing}
use Rattle.keeper.proofs.Trying.{unread, beyond, nobody, idle, beyond_end, moving_is, stuck, crowded, nowhere, nobody_beside, unmeant, deaf, unanswered, given_refused, given_made}

alone_sends : Some Alone ≡ Some Sending → ⊥
alone_sends e = subst (λ (o : Option Way). is_alone o) e tt
  where
    is_alone : Option Way → Type 0
    is_alone (Some Alone) = Unit {0}
    is_alone (Some Sending) = ⊥
    is_alone None = ⊥

pub low_position : (j : ℕ) → (numbers_at j).position < 65536
unfolding numbers_at
low_position j = omega arith

pub low_place : (j : ℕ) → (numbers_at j).second_position < 65536
unfolding numbers_at
low_place j = omega arith

-- positions rise within a block
later_position : (i j : ℕ) → i < j → j < past_of i 8589934592 → (numbers_at i).position ≤ (numbers_at j).position
unfolding past_of numbers_at
later_position i j h u =
    let e : j / 8589934592 ≡ i / 8589934592 = omega arith in
    let a : i / 1048576 / 8192 ≡ i / 8589934592 = div-div-eq-div-mul i 1048576 8192 in
    let b : j / 1048576 / 8192 ≡ j / 8589934592 = div-div-eq-div-mul j 1048576 8192 in
    let c : i / 1048576 ≤ j / 1048576 = omega arith in
    omega arith

later_place : (i j : ℕ) → i < j → j < past_of i 131072 → (numbers_at i).second_position ≤ (numbers_at j).second_position
unfolding past_of numbers_at
later_place i j h u =
    let e : j / 131072 ≡ i / 131072 = omega arith in
    let a : i / 16 / 8192 ≡ i / 131072 = div-div-eq-div-mul i 16 8192 in
    let b : j / 16 / 8192 ≡ j / 131072 = div-div-eq-div-mul j 16 8192 in
    let c : i / 16 ≤ j / 16 = omega arith in
    omega arith

-- no accepted step names a position past the configuration's words
far_position : (ws : List ℕ) (j : ℕ) → length ws ≤ (numbers_at j).position → Refused ws j
far_position ws j h x d = let s : Small ws (move_at j) = accepted_small ws (move_at j) x d in omega (arith, s.first.position)

far_place : (ws : List ℕ) (j : ℕ) → length ws ≤ (numbers_at j).second_position → Refused ws j
far_place ws j h x d = let s : Small ws (move_at j) = accepted_small ws (move_at j) x d in omega (arith, s.place)

-- a place, or none
module _ (ws notes : List ℕ) (g : Engines) (e p : ℕ) where
  abbrev there_at : ℕ
  there_at = onward (start_at g e) p

  pub place_some : (t : ℕ) → place_w ws notes g e p ≡ Some t → t ≡ there_at
  unfolding place_w
  place_some t q = by (leb (length ws) p) (behind_w notes (start_at g e) there_at) q
    where
      by : (a b : Bool) → cond a None (cond b None (Some there_at)) ≡ Some t → t ≡ there_at
      by true b q = absurd (none-some t q)
      by false true q = absurd (none-some t q)
      by false false q = cc

  -- what is found there
  pub found_there : (t start e' : ℕ) (f : Sought) → e' ≡ e → start ≡ start_at g e' → place_w ws notes g e p ≡ Some t → find_w 64 ws notes t 1 start ≡ f → find_w 64 ws notes there_at 1 (start_at g e) ≡ f
  found_there t start e' f same begins q found =
      let s : start ≡ start_at g e = begins ∙ ap (start_at g) same in
      let u : t ≡ there_at = place_some t q in
      sym (ap (λ (x : ℕ). find_w 64 ws notes x 1 start) u ∙ ap (find_w 64 ws notes there_at 1) s) ∙ found

  pub place_none : {A : Type 0} → place_w ws notes g e p ≡ None → (length ws ≤ p → A) → (behind_w notes (start_at g e) there_at ≡ true → A) → A
  unfolding place_w
  place_none {A} q far behind = by (leb (length ws) p) (behind_w notes (start_at g e) there_at) refl refl q
    where
      by : (a b : Bool) → leb (length ws) p ≡ a → behind_w notes (start_at g e) there_at ≡ b → cond a None (cond b None (Some there_at)) ≡ None → A
      by true b u v q = far (leb→le (length ws) p (true_test u))
      by false true u v q = behind v
      by false false u v q = absurd (none-some there_at (sym q))

-- what it does by name, by number
way_none : (n : ℕ) → way_as n ≡ None → n ≡ 0
way_none n e = by (ℕ_discrete n 0) (ℕ_discrete n 1)
  where
    by : Dec (n ≡ 0) → Dec (n ≡ 1) → n ≡ 0
    by (yes z) d = z
    by (no z) (yes u) = absurd (none-some Alone (sym (rw u at e)))
    by (no z) (no u) = absurd (none-some Sending (sym (rw (ne_eqb n 0 z, ne_eqb n 1 u) at e)))

way_alone : (n : ℕ) → way_as n ≡ Some Alone → n ≡ 1
way_alone n e = by (ℕ_discrete n 0) (ℕ_discrete n 1)
  where
    by : Dec (n ≡ 0) → Dec (n ≡ 1) → n ≡ 1
    by (yes z) d = absurd (none-some Alone (rw z at e))
    by (no z) (yes u) = u
    by (no z) (no u) = absurd (alone_sends (sym (rw (ne_eqb n 0 z, ne_eqb n 1 u) at e)))

way_sends : (n : ℕ) → way_as n ≡ Some Sending → (n ≡ 0 → ⊥) × (n ≡ 1 → ⊥)
way_sends n e = (λ z. none-some Sending (sym (ap way_as z) ∙ e), λ u. alone_sends (sym (ap way_as u) ∙ e))

pub passes_by : (ws : List ℕ) (i n : ℕ) (a : Answer) (next : ℕ) (out : List ℕ) → a ≡ refusing (suc n) → Passed ws i next → Tried ws i a next out
passes_by ws i n a next out e p =
    record {
      further = p.further;
      refused = λ z. p.refused i (omega arith) p.further;
      made = λ z. absurd (omega (arith, ap (λ (x : Answer). x.number) e));
      between = λ j u v. p.refused j (omega arith) v;
    }

-- all in a block are refused: the first, and the later ones
all_passed : (ws : List ℕ) (i next : ℕ) → i < next → Refused ws i → ((j : ℕ) → i < j → j < next → Refused ws j) → Passed ws i next
all_passed ws i next h r b = record { further = h; refused = λ j u v. by j u v (ℕ_discrete j i) }
  where
    by : (j : ℕ) → i ≤ j → j < next → Dec (j ≡ i) → Refused ws j
    by j u v (yes e) = subst (Refused ws) (sym e) r
    by j u v (no n) = b j (omega (arith, u, n)) v

-- a refusal passes a block
passing :
    (ws : List ℕ) (i n : ℕ) (a : Answer) (next : ℕ) (out : List ℕ) → a ≡ refusing (suc n) → i < next → Refused ws i → ((j : ℕ) → i < j → j < next → Refused ws j) →
    Tried ws i a next out
passing ws i n a next out e h r b =
    record {
      further = h;
      refused = λ z. r;
      made = λ z. absurd (omega (arith, ap (λ (x : Answer). x.number) e));
      between = b;
    }

-- a later branch of a place is not the first
later_branch_some : (i j : ℕ) → i < j → j < past_of i 16 → (numbers_at j).branch ≡ 0 → ⊥
unfolding past_of numbers_at
later_branch_some i j h u z =
    let e : j / 16 ≡ i / 16 = omega arith in
    omega arith

module _ (ws notes : List ℕ) (g : Engines) (k : Numbers) (a : Site) (i : ℕ) (h : Here ws notes g k a i) where
  abbrev ok : Words ws
  ok = h.surveyed.words

  abbrev does : ℕ
  does = moves_w ws notes a.at (counted_as (kind_of (at ws a.at)))

  abbrev sv : Surveyed ws notes g
  sv = h.surveyed

  -- the same process for other numbers
  module _ (j : ℕ) (e1 : (numbers_at j).engine ≡ (numbers_at i).engine) (e2 : (numbers_at j).position ≡ (numbers_at i).position) where
    to_engine : (numbers_at j).engine ≡ k.engine
    to_engine = e1 ∙ sym (ap (λ (n : Numbers). n.engine) h.numbers)

    to_position : (numbers_at j).position ≡ k.position
    to_position = e2 ∙ sym (ap (λ (n : Numbers). n.position) h.numbers)

    inside_at : (numbers_at j).engine < g.count
    inside_at = omega (arith, to_engine, h.inside)

    hit_at : find_w 64 ws notes (onward (start_at g (numbers_at j).engine) (numbers_at j).position) 1 (start_at g (numbers_at j).engine) ≡ Hit a
    hit_at = rw (to_engine, to_position) h.found

    stuck_at : does ≡ 0 → Refused ws j
    stuck_at z = stuck ws notes ok g sv (numbers_at j) (low_position j) (low_place j) inside_at a hit_at z

  -- ---- no move

  pub tried_stuck : (r : Answer) (next : ℕ) (out : List ℕ) → r ≡ refusing 3 → next ≡ past_of i 1048576 → way_as does ≡ None → Tried ws i r next out
  tried_stuck r next out e f none =
      let z = way_none does none in
      passing ws i 2 r next out e (rw f (past_further i).2) (stuck_at i refl refl z)
      λ j u v. let w = rw f at v in let (p, q) = same_position i j u w in stuck_at j p q z

  -- ---- what is tried

  made_by : (out : List ℕ) → length out ≡ 8192 → moving_w large ws notes g k a out ≡ given (moved ws (move_at i)) out
  made_by out e =
      moving_is ws notes ok g sv k (omega (arith, low_position i, ap (λ (n : Numbers). n.position) h.numbers)) (omega (arith, low_place i, ap (λ (n : Numbers). n.second_position) h.numbers)) h.inside a h.found out e
      ∙ ap (λ (n : Numbers). given (moved ws (numbers_as n)) out) h.numbers

  tried_moving :
      (r : Answer) (next : ℕ) (out out' : List ℕ) → length out ≡ 8192 → r ≡ (moving_w large ws notes g k a out).answer → out' ≡ (moving_w large ws notes g k a out).out →
      i < next → ((j : ℕ) → i < j → j < next → Refused ws j) → Tried ws i r next out'
  tried_moving r next out out' l e f n b =
      let q : answered r out' ≡ given (moved ws (move_at i)) out = ap (λ (x : Answer). answered x out') e ∙ ap (λ (o : List ℕ). answered (moving_w large ws notes g k a out).answer o) f ∙ made_by out l in
      record { further = n; refused = given_refused ws i (answered r out') out q; made = given_made ws i (answered r out') out q; between = b }

  pub tried_alone :
      (r : Answer) (next : ℕ) (out out' : List ℕ) → length out ≡ 8192 → r ≡ (moving_w large ws notes g k a out).answer → out' ≡ (moving_w large ws notes g k a out).out →
      next ≡ past_of i 1048576 → way_as does ≡ Some Alone → Tried ws i r next out'
  tried_alone r next out out' l e f n alone =
      tried_moving r next out out' l e f (rw n (past_further i).2) λ j u v.
      let w = rw n at v in
      let (p, q) = same_position i j u w in
      crowded ws notes ok g sv (numbers_at j) (low_position j) (low_place j) (inside_at j p q) a (hit_at j p q) (way_alone does alone) (not_first i j u w)

  pub tried_beside :
      (r : Answer) (next : ℕ) (out out' : List ℕ) → length out ≡ 8192 → r ≡ (moving_w large ws notes g k a out).answer → out' ≡ (moving_w large ws notes g k a out).out →
      next ≡ i + 1 → Tried ws i r next out'
  tried_beside r next out out' l e f n = tried_moving r next out out' l e f (omega arith) λ j u v. absurd (omega arith)

  -- ---- nobody to send to

  module _ (sending : Sends ws notes a) where
    sends : (does ≡ 0 → ⊥) × (does ≡ 1 → ⊥)
    sends = way_sends does sending

    nowhere_at : (j : ℕ) → (numbers_at j).engine ≡ (numbers_at i).engine → (numbers_at j).position ≡ (numbers_at i).position → g.count ≤ (numbers_at j).second → Refused ws j
    nowhere_at j p q u = nowhere ws notes ok g sv (numbers_at j) (low_position j) (low_place j) (inside_at j p q) a (hit_at j p q) sends u

    pub passed_nowhere : (next : ℕ) (e : ℕ) → e ≡ k.second → next ≡ past_of i 131072 → g.count ≤ e → Passed ws i next
    passed_nowhere next e e1 n u =
        let s : e ≡ (numbers_at i).second = e1 ∙ ap (λ (n : Numbers). n.second) h.numbers in
        all_passed ws i next (rw n (past_further i).1) (nowhere_at i refl refl (omega arith)) λ j v w.
        let (p1, p2, p3) = same_second i j v (rw n at w) in
        nowhere_at j p1 p2 (omega (arith, p3))

    pub passed_far : (next : ℕ) (place : ℕ) → place ≡ k.second_position → next ≡ past_of i 131072 → length ws ≤ place → Passed ws i next
    passed_far next place e1 n u =
        let s : place ≡ (numbers_at i).second_position = e1 ∙ ap (λ (n : Numbers). n.second_position) h.numbers in
        all_passed ws i next (rw n (past_further i).1) (far_place ws i (omega arith)) λ j v w.
        far_place ws j (omega (arith, later_place i j v (rw n at w)))

    pub passed_unmeant :
        (next : ℕ) (f start w : ℕ) (n : Kind) → f ≡ k.engine → start ≡ start_at g f → k.second < g.count → w ≡ get_or ws a.at 0 → n ≡ kind_named (kind_of w) →
        meant_w ws start a.at (number_of n) k.second ≡ false → next ≡ past_of i 131072 → Passed ws i next
    passed_unmeant next f start w n e2 begins inside e3 e4 off b =
        let e = k.second in
        let s : (numbers_at i).second ≡ e = sym (ap (λ (n : Numbers). n.second) h.numbers) in
        let t : (numbers_at i).engine ≡ f = sym (e2 ∙ ap (λ (n : Numbers). n.engine) h.numbers) in
        let off' : meant_w ws (start_at g f) a.at (counted_as (kind_of (at ws a.at))) e ≡ false = rw (begins, e4, e3) at off in
        all_passed ws i next (rw b (past_further i).1) (there i refl refl t s off') λ j u v.
        let (p1, p2, p3) = same_second i j u (rw b at v) in
        there j p1 p2 (p1 ∙ t) (p3 ∙ s) off'
      where
        there :
            (j : ℕ) → (numbers_at j).engine ≡ (numbers_at i).engine → (numbers_at j).position ≡ (numbers_at i).position → (numbers_at j).engine ≡ f → (numbers_at j).second ≡ k.second →
            meant_w ws (start_at g f) a.at (counted_as (kind_of (at ws a.at))) k.second ≡ false → Refused ws j
        there j p1 p2 p3 p4 q =
            unmeant ws notes ok g sv (numbers_at j) (low_position j) (low_place j) (inside_at j p1 p2) a (hit_at j p1 p2) sends (omega (arith, p4)) (rw (p3, p4) q)

    -- places behind the second engine's process
    pub passed_behind_second :
        (next : ℕ) (e start place t : ℕ) → e ≡ k.second → start ≡ start_at g e → place ≡ k.second_position → k.second < g.count → t ≡ onward start place →
        behind_w notes start t ≡ true → next ≡ past_of i 131072 → Passed ws i next
    passed_behind_second next e start place t e1 begins e2 inside e3 so n =
        let s : (numbers_at i).second ≡ e = sym (e1 ∙ ap (λ (n : Numbers). n.second) h.numbers) in
        let p : (numbers_at i).second_position ≡ place = sym (e2 ∙ ap (λ (n : Numbers). n.second_position) h.numbers) in
        let so' : behind_w notes (get_or g.starts e 0) (onward (get_or g.starts e 0) place) ≡ true = rw (e3, begins) at so in
        all_passed ws i next (rw n (past_further i).1) (there i refl refl s (omega arith) so') λ j u v.
        let (p1, p2, p3) = same_second i j u (rw n at v) in
        let q = later_place i j u (rw n at v) in
        there j p1 p2 (p3 ∙ s) (omega arith) so'
      where
        there :
            (j : ℕ) → (numbers_at j).engine ≡ (numbers_at i).engine → (numbers_at j).position ≡ (numbers_at i).position → (numbers_at j).second ≡ e → place ≤ (numbers_at j).second_position →
            behind_w notes (get_or g.starts e 0) (onward (get_or g.starts e 0) place) ≡ true → Refused ws j
        there j p1 p2 p3 p4 q =
            let (past, f) = behind_nothing ws notes (get_or g.starts e 0) place (numbers_at j).second_position q p4 (low_place j) in
            nobody_beside ws notes ok g sv (numbers_at j) (low_position j) (low_place j) (inside_at j p1 p2) a (hit_at j p1 p2) sends (omega (arith, p3)) past (rw p3 f)

    -- a place of no receiver
    pub passed_deaf :
        (next : ℕ) (e start place t w : ℕ) (n : Kind) → e ≡ k.second → start ≡ start_at g e → place ≡ k.second_position → k.second < g.count → t ≡ onward start place →
        w ≡ get_or ws t 0 → n ≡ kind_named (kind_of w) → hears_w (number_of n) ≡ false → next ≡ past_of i 16 → Passed ws i next
    passed_deaf next e start place t w n e1 begins e2 inside e3 e4 e5 off b =
        let s : (numbers_at i).second ≡ e = sym (e1 ∙ ap (λ (n : Numbers). n.second) h.numbers) in
        let p : (numbers_at i).second_position ≡ place = sym (e2 ∙ ap (λ (n : Numbers). n.second_position) h.numbers) in
        let off' : hears_w (counted_as (kind_of (at ws (onward (get_or g.starts e 0) place)))) ≡ false = rw (e5, e4, e3, begins) at off in
        all_passed ws i next (rw b (past_further i).0) (there i refl refl s p off') λ j u v.
        let (p1, p2, p3, p4) = same_place i j u (rw b at v) in
        there j p1 p2 (p3 ∙ s) (p4 ∙ p) off'
      where
        there :
            (j : ℕ) → (numbers_at j).engine ≡ (numbers_at i).engine → (numbers_at j).position ≡ (numbers_at i).position → (numbers_at j).second ≡ e → (numbers_at j).second_position ≡ place →
            hears_w (counted_as (kind_of (at ws (onward (get_or g.starts e 0) place)))) ≡ false → Refused ws j
        there j p1 p2 p3 p4 q =
            deaf ws notes ok g sv (numbers_at j) (low_position j) (low_place j) (inside_at j p1 p2) a (hit_at j p1 p2) sends (omega (arith, p3)) (rw (p3, p4) q)

    pub passed_nobody :
        (next : ℕ) (e start place t q : ℕ) → e ≡ k.second → start ≡ start_at g e → place ≡ k.second_position → k.second < g.count → t ≡ onward start place →
        find_w 64 ws notes t 1 start ≡ Past q → next ≡ past_of i 16 → Passed ws i next
    passed_nobody next e start place t q e1 begins e2 inside e3 past n =
        let s : (numbers_at i).second ≡ e = sym (e1 ∙ ap (λ (n : Numbers). n.second) h.numbers) in
        let p : (numbers_at i).second_position ≡ place = sym (e2 ∙ ap (λ (n : Numbers). n.second_position) h.numbers) in
        let past' : find_w 64 ws notes (onward (get_or g.starts e 0) place) 1 (get_or g.starts e 0) ≡ Past q = rw (e3, begins) at past in
        all_passed ws i next (rw n (past_further i).0) (there i refl refl s p past') λ j v w.
        let (p1, p2, p3, p4) = same_place i j v (rw n at w) in
        there j p1 p2 (p3 ∙ s) (p4 ∙ p) past'
      where
        there :
            (j : ℕ) → (numbers_at j).engine ≡ (numbers_at i).engine → (numbers_at j).position ≡ (numbers_at i).position → (numbers_at j).second ≡ e → (numbers_at j).second_position ≡ place →
            find_w 64 ws notes (onward (get_or g.starts e 0) place) 1 (get_or g.starts e 0) ≡ Past q → Refused ws j
        there j p1 p2 p3 p4 f =
            nobody_beside ws notes ok g sv (numbers_at j) (low_position j) (low_place j) (inside_at j p1 p2) a (hit_at j p1 p2) sends (omega (arith, p3)) q (rw (p3, p4) f)

-- a reply that is not taken, and the branches of one that may be
module _ (ws notes : List ℕ) (g : Engines) (k : Numbers) (a : Site) (i : ℕ) (h : Here ws notes g k a i) (sending : Sends ws notes a) (inside : k.second < g.count) (kd : counted_as (kind_of (at ws a.at)) ≡ 16) (b : Site)
    (receives : find_w 64 ws notes (onward (start_at g k.second) k.second_position) 1 (start_at g k.second) ≡ Hit b) where
  unanswered_at :
      (j : ℕ) → (numbers_at j).engine ≡ (numbers_at i).engine → (numbers_at j).position ≡ (numbers_at i).position → (numbers_at j).second ≡ (numbers_at i).second → (numbers_at j).second_position ≡ (numbers_at i).second_position →
      answered_w ws a.at b.at (numbers_at j).branch (numbers_at j).engine (numbers_at j).second ≡ false → Refused ws j
  unanswered_at j p1 p2 p3 p4 n =
      let s : (numbers_at j).second ≡ k.second = p3 ∙ sym (ap (λ (n : Numbers). n.second) h.numbers) in
      let t : (numbers_at j).second_position ≡ k.second_position = p4 ∙ sym (ap (λ (n : Numbers). n.second_position) h.numbers) in
      unanswered ws notes h.surveyed.words g h.surveyed (numbers_at j) (low_position j) (low_place j) (inside_at ws notes g k a i h j p1 p2) a (hit_at ws notes g k a i h j p1 p2)
      (way_sends _ sending) (omega (arith, s, inside)) kd b (rw (s, t) receives) n

  pub not_answered : answered_w ws a.at b.at k.branch k.engine k.second ≡ false → Refused ws i
  not_answered n = unanswered_at i refl refl refl refl (subst (λ (m : Numbers). answered_w ws a.at b.at m.branch m.engine m.second ≡ false) h.numbers n)

  branched : (branch e e' : ℕ) → (branch ≡ 0 → ⊥) → answered_w ws a.at b.at branch e e' ≡ false
  unfolding answered_w replied_w replies_w
  branched branch e e' n =
      cond-case (λ v. v ≡ false) (eqb e e') (λ t. refl) λ t.
      cond-case (λ v. v ≡ false) (ltb (length ws) a.at) (λ t. refl) λ t.
      cond-case (λ v. v ≡ false) (ltb (length ws) b.at) (λ t. refl) λ t. rw (ne_eqb branch 0 n)

  pub later_branch : (j : ℕ) → i < j → j < past_of i 16 → Refused ws j
  later_branch j u v =
      let (p1, p2, p3, p4) = same_place i j u v in
      unanswered_at j p1 p2 p3 p4 (branched (numbers_at j).branch (numbers_at j).engine (numbers_at j).second (later_branch_some i j u v))

pub passed_receiverless :
    (ws notes : List ℕ) (g : Engines) (k : Numbers) (a : Site) (i : ℕ) → Here ws notes g k a i → Sends ws notes a → k.second < g.count → (next : ℕ) → place_w ws notes g k.second k.second_position ≡ None →
    next ≡ past_of i 131072 → Passed ws i next
passed_receiverless ws notes g k a i h sends inside next e n =
    place_none ws notes g k.second k.second_position e
    (λ u. passed_far ws notes g k a i h sends next k.second_position refl n u)
    (λ u. passed_behind_second ws notes g k a i h sends next k.second (start_at g k.second) k.second_position (onward (start_at g k.second) k.second_position) refl refl refl inside refl u n)

-- ---- nobody to move

module _ (ws notes : List ℕ) (g : Engines) (k : Numbers) (i : ℕ) (h : There ws notes g k i) (next : ℕ) where
  first_engine : (numbers_at i).engine ≡ k.engine
  first_engine = sym (ap (λ (n : Numbers). n.engine) h.numbers)

  pub passed_far_off : (p : ℕ) → p ≡ k.position → length ws ≤ p → next ≡ past_of i 8589934592 → Passed ws i next
  passed_far_off p e u n =
      let s : p ≡ (numbers_at i).position = e ∙ ap (λ (n : Numbers). n.position) h.numbers in
      all_passed ws i next (rw n (past_further i).3) (far_position ws i (omega arith)) λ j v w.
      far_position ws j (omega (arith, later_position i j v (rw n at w)))

  module _ (e start p t : ℕ) (e1 : e ≡ k.engine) (begins : start ≡ start_at g e) (e2 : p ≡ k.position) (e3 : t ≡ onward start p) where
    of_engine : (numbers_at i).engine ≡ e
    of_engine = first_engine ∙ sym e1

    of_position : (numbers_at i).position ≡ p
    of_position = sym (e2 ∙ ap (λ (n : Numbers). n.position) h.numbers)

    there_inside : (j : ℕ) → (numbers_at j).engine ≡ e → (numbers_at j).engine < g.count
    there_inside j q = omega (arith, q, e1, h.inside)

    -- places behind the engine's process
    pub passed_behind : behind_w notes start t ≡ true → next ≡ past_of i 8589934592 → Passed ws i next
    passed_behind so n =
        let so' : behind_w notes (get_or g.starts e 0) (onward (get_or g.starts e 0) p) ≡ true = rw (e3, begins) at so in
        all_passed ws i next (rw n (past_further i).3) (there i of_engine (omega (arith, of_position)) so') λ j u v.
        let q = same_engine i j u (rw n at v) in
        let l = later_position i j u (rw n at v) in
        there j (q ∙ of_engine) (omega (arith, of_position)) so'
      where
        there : (j : ℕ) → (numbers_at j).engine ≡ e → p ≤ (numbers_at j).position → behind_w notes (get_or g.starts e 0) (onward (get_or g.starts e 0) p) ≡ true → Refused ws j
        there j p1 p2 q = beyond_end ws notes h.surveyed.words g h.surveyed (numbers_at j) (low_position j) (low_place j) (there_inside j p1) p p2 (rw p1 q)

    -- a place of no process that moves
    pub passed_idle : (w : ℕ) (n : Kind) → w ≡ get_or ws t 0 → n ≡ kind_named (kind_of w) → acts_w (number_of n) ≡ false → next ≡ past_of i 1048576 → Passed ws i next
    passed_idle w n e4 e5 off b =
        let off' : acts_w (counted_as (kind_of (at ws (onward (get_or g.starts e 0) p)))) ≡ false = rw (e5, e4, e3, begins) at off in
        all_passed ws i next (rw b (past_further i).2) (there i of_engine of_position off') λ j u v.
        let (p1, p2) = same_position i j u (rw b at v) in
        there j (p1 ∙ of_engine) (p2 ∙ of_position) off'
      where
        there : (j : ℕ) → (numbers_at j).engine ≡ e → (numbers_at j).position ≡ p → acts_w (counted_as (kind_of (at ws (onward (get_or g.starts e 0) p)))) ≡ false → Refused ws j
        there j p1 p2 q = idle ws notes h.surveyed.words g h.surveyed (numbers_at j) (low_position j) (low_place j) (there_inside j p1) (rw (p1, p2) q)

    -- nobody is found
    pub passed_absent : (q : ℕ) → find_w 64 ws notes t 1 start ≡ Past q → next ≡ past_of i 1048576 → Passed ws i next
    passed_absent q past n =
        let past' : find_w 64 ws notes (onward (get_or g.starts e 0) p) 1 (get_or g.starts e 0) ≡ Past q = rw (e3, begins) at past in
        all_passed ws i next (rw n (past_further i).2) (there i of_engine of_position past') λ j u v.
        let (p1, p2) = same_position i j u (rw n at v) in
        there j (p1 ∙ of_engine) (p2 ∙ of_position) past'
      where
        there : (j : ℕ) → (numbers_at j).engine ≡ e → (numbers_at j).position ≡ p → find_w 64 ws notes (onward (get_or g.starts e 0) p) 1 (get_or g.starts e 0) ≡ Past q → Refused ws j
        there j p1 p2 f = nobody ws notes h.surveyed.words g h.surveyed (numbers_at j) (low_position j) (low_place j) (there_inside j p1) q (rw (p1, p2) f)
        -- no place

-- the process found
pub here_found : (ws notes : List ℕ) (g : Engines) (k : Numbers) (i : ℕ) → There ws notes g k i → (a : Site) → find_w 64 ws notes (onward (start_at g k.engine) k.position) 1 (start_at g k.engine) ≡ Hit a → Here ws notes g k a i
here_found ws notes g k i h a e = record { surveyed = h.surveyed; index = h.index; numbers = h.numbers; inside = h.inside; found = e }

-- no place, nobody
pub passed_placeless : (ws notes : List ℕ) (g : Engines) (k : Numbers) (i : ℕ) → There ws notes g k i → (next : ℕ) → place_w ws notes g k.engine k.position ≡ None → next ≡ past_of i 8589934592 → Passed ws i next
passed_placeless ws notes g k i h next e n =
    place_none ws notes g k.engine k.position e
    (λ u. passed_far_off ws notes g k i h next k.position refl u n)
    (λ u. passed_behind ws notes g k i h next k.engine (start_at g k.engine) k.position (onward (start_at g k.engine) k.position) refl refl refl refl u n)

-- ---- of a side

module _ (engines : ℕ) (side : Side) (ws : List ℕ) where
  -- refused, or of the other side
  pub idle_refused : (j : ℕ) → Refused ws j → Idle engines side ws j
  idle_refused j r t = let (x, s, d, u) = move_there engines side ws any (move_at j) t in r x d

  idle_other : (j : ℕ) → (T (of_side engines side (move_at j).engine) → ⊥) → Idle engines side ws j
  idle_other j n t = let (x, s, d, u) = move_there engines side ws any (move_at j) t in n s

  overlooked :
      (i n : ℕ) (a : Answer) (next : ℕ) (out : List ℕ) → a ≡ refusing (suc n) → i < next → Idle engines side ws i → ((j : ℕ) → i < j → j < next → Idle engines side ws j) →
      Looked engines side ws i a next out
  overlooked i n a next out e h r b =
      let z : a.number ≡ suc n = ap (λ (x : Answer). x.number) e in
      record { further = h; refused = λ y. r; mine = λ y. absurd (omega arith); made = λ y. absurd (omega arith); between = b }

module _ (engines : ℕ) (b : Bool) (ws : List ℕ) (i : ℕ) (k : Numbers) (numbers : k ≡ numbers_at i) (e : ℕ) (e1 : e ≡ k.engine) (r : Answer) (next : ℕ) (out : List ℕ) where
  engine_is : (numbers_at i).engine ≡ e
  engine_is = sym (e1 ∙ ap (λ (n : Numbers). n.engine) numbers)

  other_at : (j : ℕ) → (numbers_at j).engine ≡ e → of_side engines (side_of b) e ≡ false → Idle engines (side_of b) ws j
  other_at j u q = idle_other engines (side_of b) ws j λ t. subst T (ap (of_side engines (side_of b)) u ∙ q) t

  pub looked_other : of_side engines (side_of b) e ≡ false → r ≡ refusing 2 → next ≡ past_of i 8589934592 → Looked engines (side_of b) ws i r next out
  looked_other q m n =
      overlooked engines (side_of b) ws i 1 r next out m (rw n (past_further i).3) (other_at i engine_is q) λ j u v.
      other_at j (same_engine i j u (rw n at v) ∙ engine_is) q

  pub looked_beyond : (notes : List ℕ) (g : Engines) → Surveyed ws notes g → g.count ≤ e → r ≡ refusing 2 → next ≡ past_of i 8589934592 → Looked engines (side_of b) ws i r next out
  looked_beyond notes g sv h m n =
      overlooked engines (side_of b) ws i 1 r next out m (rw n (past_further i).3) (at_number i refl) λ j u v. at_number j (same_engine i j u (rw n at v))
    where
      at_number : (j : ℕ) → (numbers_at j).engine ≡ (numbers_at i).engine → Idle engines (side_of b) ws j
      at_number j q = idle_refused engines (side_of b) ws j (beyond ws notes sv.words g sv (numbers_at j) (low_position j) (low_place j) (omega (arith, q, engine_is)))

  pub looked_tried : of_side engines (side_of b) e ≡ true → Tried ws i r next out → Looked engines (side_of b) ws i r next out
  looked_tried n t =
      record {
        further = t.further;
        refused = λ z. idle_refused engines (side_of b) ws i (t.refused z);
        mine = λ z. subst (λ (x : ℕ). T (of_side engines (side_of b) x)) (sym engine_is) (true_test n);
        made = t.made;
        between = λ j u v. idle_refused engines (side_of b) ws j (t.between j u v);
      }

-- ---- what the calls leave, in the laws' terms

pub does_is :
    (ws notes : List ℕ) (i w : ℕ) (k : Kind) → w ≡ get_or ws i 0 → k ≡ kind_named (kind_of w) →
    moves_w ws notes i (number_of k) ≡ moves_w ws notes i (counted_as (kind_of (at ws i)))
does_is ws notes i w k e1 e2 = ap (λ (x : Kind). moves_w ws notes i (number_of x)) (e2 ∙ ap (λ (h : ℕ). kind_named (kind_of h)) e1)

pub low_engine : (i e : ℕ) (k : Numbers) → k ≡ numbers_at i → e ≡ k.engine → e < 8
unfolding numbers_at
low_engine i e k q e1 = let z : e ≡ i / 8589934592 % 8 = e1 ∙ ap (λ (n : Numbers). n.engine) q in omega arith

-- ---- the scan, turn by turn

module _ (engines : ℕ) (side : Side) (ws : List ℕ) (from i : ℕ) (later : from ≤ i) (passed : (j : ℕ) → from ≤ j → j < i → Idle engines side ws j) where
  -- a number that is none
  pub scan_next :
      (y : Refusal) (r : Result Accepted Refusal) (next : ℕ) (out : List ℕ) → r ≡ Err y → Looked engines side ws i (told r) next out →
      (j : ℕ) → from ≤ j → j < next → Idle engines side ws j
  scan_next y r next out e l j h u = by (dec_lt j i) (ℕ_discrete j i)
    where
      none : (told r).number ≡ 0 → ⊥
      none z = some_number y (sym (ap (λ (x : Result Accepted Refusal). (told x).number) e) ∙ z)

      by : Dec (j < i) → Dec (j ≡ i) → Idle engines side ws j
      by (yes v) d = passed j h v
      by (no v) (yes q) = subst (Idle engines side ws) (sym q) (l.refused none)
      by (no v) (no q) = l.between j (omega (arith, v, q)) u

  pub scan_found :
      (a : Accepted) (r : Result Accepted Refusal) (next : ℕ) (out : List ℕ) → i < 68719476736 → r ≡ Ok a → Looked engines side ws i (told r) next out →
      Scanned engines side ws from i (told (Ok a)) out
  scan_found a r next out h e l =
      let m = subst (λ (x : Result Accepted Refusal). Looked engines side ws i (told x) next out) e l in
      record { later = λ u. later; within = omega arith; passed = passed; mine = λ u. m.mine refl; made = λ u. m.made refl }

  pub scan_none : (a : Answer) (out : List ℕ) → 68719476736 ≤ i → Scanned engines side ws from 68719476736 a out
  scan_none a out h =
      record {
        later = λ u. u;
        within = omega arith;
        passed = λ j u v. passed j u (omega arith);
        mine = λ u. absurd (omega arith);
        made = λ u. absurd (omega arith);
      }

-- nothing moves in what is not readable
pub scan_unread :
    (engines : ℕ) (side : Side) (ws : List ℕ) → Words ws → (from : ℕ) (o : Option Found) (m : Option Move) (out : List ℕ) → starts_in o ≡ surveyed standard 11 ws → o ≡ None → m ≡ None →
    Scanned engines side ws from (index_in m) (answer_in m) out
unfolding no_starts
scan_unread engines side ws ok from o m out e n z =
    subst (λ (x : Option Move). Scanned engines side ws from (index_in x) (answer_in x) out) (sym z)
    (record {
      later = λ u. u;
      within = omega arith;
      passed = λ j u v. idle_refused engines side ws j (unread ws ok (numbers_at j) (low_position j) (low_place j) no_starts (sym (ap starts_in n) ∙ e) refl);
      mine = λ u. absurd (omega arith);
      made = λ u. absurd (omega arith);
    })
