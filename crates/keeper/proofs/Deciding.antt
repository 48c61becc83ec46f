-- The game move by move: one that decides ends it, and where none does the side to move has lost it; a side without a move passes.
-- Assumes nothing.
use Prim.Native.Nat.{ℕ, zero, suc, ◌+◌, ◌-◌, ◌≤◌, ◌<◌}
use native.Mathlib.Omega.{arith}
use native.Mathlib.Decide.{ℕ_discrete, dec_lt}
use mathlib.Core.Path.{◌≡◌, refl, sym, subst, ap, ◌∙◌}
use mathlib.Core.Bool.{Bool, true, false, not, cond}
use mathlib.Core.List.{List, ◌++◌}
use borrow.Author.Tests.{eq-eqb}
use lib.Dec.{T, not_T, eqb, eqb→eq}
use lib.ListN.{length, take}
use lib.Seq.{take-append-le}
use Rattle.sock.specs.Calls.{Numbers, Answer, done, Stepped}
use Rattle.sock.proofs.Logic.{test_true, test_false, true_test, cond-case}
use Rattle.sock.specs.Configuration.{standard}
use Rattle.reading.specs.Survey.{no_starts, surveyed}
use Rattle.reading.specs.declared.starts.Starts.{Starts as Found}
use Rattle.reading.specs.Answers.{starts_in}
use Rattle.reading.proofs.Combining.{Words}
use Rattle.std.specs.Prelude.{Option, None, Some, Ok}
use Rattle.std.specs.Option.{is_some}
use Rattle.sock.specs.Words.{bit}
use Rattle.stepping.specs.declared.answer.Accepted.{Accepted}
use Rattle.stepping.specs.Answers.{told}
use Rattle.keeper.specs.declared.game.Verdict.{Verdict}
use Rattle.keeper.specs.Answers.{index_or_all}
use Rattle.keeper.specs.Moves.{numbers_at}
use Rattle.keeper.specs.Replies.{Reply, Replied}
use Rattle.keeper.specs.Verdicts.{Judged}
use Rattle.keeper.specs.Game.{Side, keeper, river, of_side, moved, any, fails, moves, some_move, every_move, has_move, delivers, won, forces}
use Rattle.keeper.specs.Seeking.{side_of, move_at, Idle, Made, Scanned}
use Rattle.keeper.specs.Playing.{delivers_by, won_by, turned, decides, after, Forced, Going}
use Rattle.keeper.proofs.Some.{move_here, move_there, more_moves}
use Rattle.keeper.proofs.Blocks.{number_of, numbered}
use Rattle.keeper.proofs.Forcing.{some_move_lem, move_of}
use Rattle.keeper.proofs.Losing.{across, lose}
use Rattle.keeper.proofs.Scratch.{accepted_short}
use Rattle.keeper.proofs.Trying.{unread}
use Rattle.keeper.proofs.Looking.{low_position, low_place}

-- ---- the answer says what the step does

pub won_by_lem : (serial : ℕ) (rest : List ℕ → Bool) (ws : List ℕ) (i : ℕ) (a : Answer) (out : List ℕ) (m : Made ws i a out) → won_by serial rest a (take a.length out) ≡ won serial rest m.stepped
unfolding won_by won delivers_by delivers
won_by_lem serial rest ws i a out m = rw (m.kind, m.serial, m.fault, m.words)

-- ---- no move, some move

module _ (engines : ℕ) (side : Side) (ws : List ℕ) (test : Stepped → Bool) where
  -- a test that no numbered move passes is passed by none
  pub none_moves : ((i : ℕ) → i < 68719476736 → T (moves engines side ws test (move_at i)) → ⊥) → some_move engines side ws test ≡ false
  none_moves f =
      test_false (some_move engines side ws test)
      (not_T (some_move engines side ws test) λ t.
      let (k, u) = move_of engines side ws test t in
      let (x, s, d, v) = move_there engines side ws test k u in
      let (low, e) = numbered ws k x d in
      f (number_of k) low (subst (λ (n : Numbers). T (moves engines side ws test n)) (sym e) u))

  pub one_moves : (i : ℕ) → T (moves engines side ws test (move_at i)) → some_move engines side ws test ≡ true
  one_moves i t = test_true (some_move engines side ws test) (some_move_lem engines side ws test (move_at i) t)

module _ (engines : ℕ) (side : Side) (ws : List ℕ) where
  pub no_move : ((i : ℕ) → i < 68719476736 → Idle engines side ws i) → has_move engines side ws ≡ false
  unfolding has_move
  no_move f = none_moves engines side ws any f

  pub a_move : (i : ℕ) (a : Answer) (out : List ℕ) → T (of_side engines side (move_at i).engine) → Made ws i a out → has_move engines side ws ≡ true
  unfolding has_move any
  a_move i a out s m = one_moves engines side ws any i (move_here engines side ws any (move_at i) m.stepped s m.accepted tt)

  -- a move that passes any test is a move
  some_has : (test : Stepped → Bool) (i : ℕ) → T (moves engines side ws test (move_at i)) → has_move engines side ws ≡ true
  unfolding has_move any
  some_has test i t = one_moves engines side ws any i (more_moves engines side ws test any (λ x u. tt) (move_at i) t)

-- ---- the game

module _ (engines serial left : ℕ) where
  -- the side to move has a move that decides
  pub decided : (b : Bool) (ws : List ℕ) (i : ℕ) → T (moves engines (side_of b) ws (decides b (after engines serial left b)) (move_at i)) → not b ≡ forces engines serial (suc left) (side_of b) ws
  unfolding forces decides turned every_move fails
  decided true ws i t = rw (some_has engines river ws _ i t, one_moves engines river ws _ i t)
  decided false ws i t = rw (some_has engines keeper ws _ i t, one_moves engines keeper ws _ i t)

  -- it has a move, and none decides
  pub undecided :
      (b : Bool) (ws : List ℕ) → has_move engines (side_of b) ws ≡ true →
      ((i : ℕ) → i < 68719476736 → T (moves engines (side_of b) ws (decides b (after engines serial left b)) (move_at i)) → ⊥) → b ≡ forces engines serial (suc left) (side_of b) ws
  unfolding forces decides turned every_move fails
  undecided true ws h f = rw (h, none_moves engines river ws _ f)
  undecided false ws h f = rw (h, none_moves engines keeper ws _ f)

  -- it passes
  pub passes : (b : Bool) (ws : List ℕ) → has_move engines (side_of b) ws ≡ false → forces engines serial left (side_of (not b)) ws ≡ forces engines serial (suc left) (side_of b) ws
  unfolding forces
  passes true ws h = rw h
  passes false ws h = rw h

true_is : {b : Bool} → T b → b ≡ true
true_is {b} t = test_true b t

-- with no move left only a delivery without a fault wins
won_now : (serial engines : ℕ) (x : Stepped) → T (won serial (forces engines serial 0 river) x) → T (delivers serial x) × (x.fault ≡ 0)
unfolding won forces
won_now serial engines x w = by (delivers serial x) refl w
  where
    by : (d : Bool) → delivers serial x ≡ d → T (cond d (eqb x.fault 0) false) → T (delivers serial x) × (x.fault ≡ 0)
    by true e t = (true_test e, eqb→eq x.fault 0 t)
    by false e t = absurd t

-- ---- the loop over the moves of a side

pred_same : (m n : ℕ) → suc m ≡ suc n → m ≡ n
pred_same m n e = omega arith

same_step : (ws : List ℕ) (k : Numbers) (x y : Stepped) → moved ws k ≡ done x → moved ws k ≡ done y → x ≡ y
same_step ws k x y p q = cc

module _ (engines serial left : ℕ) (b : Bool) (ws : List ℕ) where
  abbrev W : Stepped → Bool
  W = after engines serial left b

  pub going_first : Going engines serial left b ws 0
  going_first = record { has = λ z. absurd (z refl); within = omega arith; undecided = λ j u. absurd (omega (arith, u)) }

  module _ (from : ℕ) (g : Going engines serial left b ws from) (i : ℕ) (a : Answer) (out : List ℕ) (s : Scanned engines (side_of b) ws from i a out) where
    -- no move before the one found decides
    none_before : (j : ℕ) → j < i → T (moves engines (side_of b) ws (decides b W) (move_at j)) → ⊥
    unfolding any
    none_before j u t = by (dec_lt j from)
      where
        by : Dec (j < from) → ⊥
        by (yes v) = g.undecided j v t
        by (no v) = s.passed j (omega (arith, v)) u (more_moves engines (side_of b) ws (decides b W) any (λ x w. tt) (move_at j) t)

    -- all moves were looked at: there was none
    pub none_at_all : from ≡ 0 → 68719476736 ≤ i → has_move engines (side_of b) ws ≡ false
    none_at_all z h = no_move engines (side_of b) ws λ j u. s.passed j (omega arith) (omega arith)

    -- or there were some, and none decides
    pub forced_none : (from ≡ 0 → ⊥) → 68719476736 ≤ i → Forced engines serial (suc left) b ws b 68719476736
    forced_none z h =
        record {
          verdict = undecided engines serial left b ws (g.has z) (λ j u t. none_before j (omega arith) t);
          shown = λ e f u. absurd (omega arith);
          passed = λ e f u. (let z : ◌≡◌ {A = ℕ} 0 1 = cc in absurd (omega arith));
          met = λ e u. absurd (omega arith);
        }

    module _ (there : i < 68719476736) where
      abbrev made : Made ws i a out
      made = s.made there

      has_one : has_move engines (side_of b) ws ≡ true
      has_one = a_move engines (side_of b) ws i a out (s.mine there) made

      pub short : a.length ≤ 8192
      short = let l = accepted_short ws (move_at i) made.stepped made.accepted in omega (arith, made.length)

      module _ (v : Bool) (says : v ≡ won_by serial (forces engines serial left (side_of (not b))) a (take a.length out)) where
        verdict_is : v ≡ W made.stepped
        verdict_is = says ∙ won_by_lem serial (forces engines serial left (side_of (not b))) ws i a out made

        -- this move decides
        decides_here : turned b v ≡ true → T (moves engines (side_of b) ws (decides b W) (move_at i))
        unfolding decides
        decides_here q = move_here engines (side_of b) ws (decides b W) (move_at i) made.stepped (s.mine there) made.accepted (true_test (sym (ap (turned b) verdict_is) ∙ q))

        plain_test : (x : Stepped) → T (decides false (after engines serial left false) x) → T (after engines serial left false x)
        unfolding decides turned
        plain_test x t = t

        plain : T (moves engines keeper ws (decides false (after engines serial left false)) (move_at i)) → T (moves engines keeper ws (after engines serial left false) (move_at i))
        plain t = more_moves engines keeper ws (decides false (after engines serial left false)) (after engines serial left false) plain_test (move_at i) t

        pub forced_here : turned b v ≡ true → Forced engines serial (suc left) b ws (not b) i
        forced_here q =
            record {
              verdict = decided engines serial left b ws i (decides_here q);
              shown = λ e f u j d. show b e (decides_here q) j d;
              passed = λ e f u. absurd (omega arith);
              met = λ e u. subst (λ (c : Bool). has_move engines (side_of c) ws ≡ true) e has_one;
            }
          where
            show :
                (c : Bool) → c ≡ false → T (moves engines (side_of c) ws (decides c (after engines serial left c)) (move_at i)) → (j : ℕ) → suc left ≡ suc j →
                T (moves engines keeper ws (won serial (forces engines serial j river)) (move_at i))
            show true e t j d = (let z : ◌≡◌ {A = ℕ} 0 1 = cc in absurd (omega arith))
            show false e t j d = subst (λ (n : ℕ). T (moves engines keeper ws (won serial (forces engines serial n river)) (move_at i))) (pred_same left j d) (plain t)

        -- it does not, and the next one is sought
        pub going_on : turned b v ≡ false → Going engines serial left b ws (i + 1)
        unfolding decides
        going_on q =
            record { has = λ z. has_one; within = omega arith; undecided = λ j u t. by j u t (ℕ_discrete j i) }
          where
            here_not : T (moves engines (side_of b) ws (decides b W) (move_at i)) → ⊥
            here_not t =
                let (x, m, d, w) = move_there engines (side_of b) ws (decides b W) (move_at i) t in
                let same : x ≡ made.stepped = same_step ws (move_at i) x made.stepped d made.accepted in
                subst T (ap (λ (y : Stepped). turned b (W y)) same ∙ sym (ap (turned b) verdict_is) ∙ q) w

            by : (j : ℕ) → j < i + 1 → T (moves engines (side_of b) ws (decides b W) (move_at j)) → Dec (j ≡ i) → ⊥
            by j u t (yes r) = here_not (subst (λ (m : ℕ). T (moves engines (side_of b) ws (decides b W) (move_at m))) r t)
            by j u t (no r) = none_before j (omega (arith, u, r)) t

-- ---- the keeper's last move

module _ (engines serial : ℕ) (ws : List ℕ) (v : Bool) where
  reply_wins : (i j : ℕ) → T (of_side engines keeper (move_at i).engine) → Reply serial ws i → T (moves engines keeper ws (won serial (forces engines serial j river)) (move_at i))
  unfolding won
  reply_wins i j mine r =
      move_here engines keeper ws (won serial (forces engines serial j river)) (move_at i) r.stepped mine r.accepted (rw (true_is r.delivers, eq-eqb r.stepped.fault 0 r.calm) tt)

  -- a reply that is ready is a yes
  pub last_yes : v ≡ true → (i : ℕ) → i < 68719476736 → T (of_side engines keeper (move_at i).engine) → Reply serial ws i → Forced engines serial 1 false ws v i
  unfolding forces any
  last_yes e i low mine r =
      let has : has_move engines keeper ws ≡ true = some_has engines keeper ws _ i (reply_wins i 0 mine r) in
      record {
        verdict = e ∙ sym (rw (has, one_moves engines keeper ws (won serial (forces engines serial 0 river)) i (reply_wins i 0 mine r)) refl);
        shown = λ q f u j d. reply_wins i j mine r;
        passed = λ q f u. absurd (omega arith);
        met = λ q u. has;
      }

  -- and where there is none it is a no
  pub last_no : v ≡ false → Replied engines serial keeper ws None → Forced engines serial 1 false ws v 68719476736
  unfolding forces
  last_no e r =
      record {
        verdict = e ∙ sym (cond-case (λ (x : Bool). x ≡ false) (has_move engines keeper ws) (λ t. none_moves engines keeper ws (won serial (forces engines serial 0 river)) no_reply) (λ t. refl));
        shown = λ q f u. absurd (subst T (sym f ∙ e) tt);
        passed = λ q f u. absurd (subst T (sym f ∙ e) tt);
        met = λ q u. absurd (omega arith);
      }
    where
      no_reply : (i : ℕ) → i < 68719476736 → T (moves engines keeper ws (won serial (forces engines serial 0 river)) (move_at i)) → ⊥
      no_reply i low t =
          let (x, mine, d, w) = move_there engines keeper ws (won serial (forces engines serial 0 river)) (move_at i) t in
          let (u, calm) = won_now serial engines x w in
          r.no refl i low mine x d u calm

-- ---- a position

one_less : (left : ℕ) → (left ≡ 0 → ⊥) → suc (left - 1) ≡ left
one_less left n = omega (arith, n)

-- no move is left
pub judged_end : (engines serial left : ℕ) (b : Bool) (ws : List ℕ) (v : Verdict) → left ≡ 0 → v.forced ≡ false → v.decided ≡ None → Judged engines serial left b ws v
unfolding forces
judged_end engines serial left b ws v e f n =
    record {
      forced =
          record {
            verdict = f ∙ sym (ap (λ (m : ℕ). forces engines serial m (side_of b) ws) e);
            shown = λ c q u. absurd (subst T (sym q ∙ f) tt);
            passed = λ c q u. absurd (subst T (sym q ∙ f) tt);
            met = λ c u. absurd (omega (arith, u, ap index_or_all n));
          };
      there = rw n tt;
    }

-- what is not readable has no move
pub judged_unread :
    (engines serial left : ℕ) (b : Bool) (ws : List ℕ) (v : Verdict) → Words ws → (o : Option Found) → starts_in o ≡ surveyed standard 11 ws → o ≡ None → v.forced ≡ false → v.decided ≡ None → Judged engines serial left b ws v
unfolding no_starts forces
judged_unread engines serial left b ws v ok o e q f n =
    record {
      forced =
          record {
            verdict = f ∙ sym (lost left (side_of b));
            shown = λ c z u. absurd (subst T (sym z ∙ f) tt);
            passed = λ c z u. absurd (subst T (sym z ∙ f) tt);
            met = λ c u. absurd (omega (arith, u, ap index_or_all n));
          };
      there = rw n tt;
    }
  where
    no_step : (k : Numbers) (x : Stepped) → moved ws k ≡ done x → ⊥
    no_step k x d =
        let (low, same) = numbered ws k x d in
        unread ws ok (numbers_at (number_of k)) (low_position (number_of k)) (low_place (number_of k)) no_starts (sym (ap starts_in q) ∙ e) refl x (ap (moved ws) same ∙ d)

    lost : (n : ℕ) (side : Side) → forces engines serial n side ws ≡ false
    lost zero side = refl
    lost (suc n) side = lose engines serial n side ws (λ k x d. absurd (no_step k x d)) (lost n (across side))

-- the keeper's last move
pub judged_last :
    (engines serial left : ℕ) (b : Bool) (ws : List ℕ) (v : Verdict) (o : Option ℕ) → left ≡ 1 → b ≡ false → v.forced ≡ is_some o → v.decided ≡ o → Replied engines serial (side_of b) ws o → Judged engines serial left b ws v
judged_last engines serial left b ws v o e c f n r =
    subst (λ (m : ℕ). Judged engines serial m b ws v) (sym e)
    (subst (λ (d : Bool). Judged engines serial 1 d ws v) (sym c) (by o f n (subst (λ (d : Bool). Replied engines serial (side_of d) ws o) c r)))
  where
    by : (o : Option ℕ) → v.forced ≡ is_some o → v.decided ≡ o → Replied engines serial keeper ws o → Judged engines serial 1 false ws v
    by None f n r = record { forced = subst (λ (i : ℕ). Forced engines serial 1 false ws v.forced i) (sym (ap index_or_all n)) (last_no engines serial ws v.forced f r); there = rw n tt }
    by (Some i) f n r =
        record {
          forced = subst (λ (j : ℕ). Forced engines serial 1 false ws v.forced j) (sym (ap index_or_all n)) (last_yes engines serial ws v.forced f i (r.within i refl) (r.mine i refl) (r.yes i refl));
          there = rw n (r.within i refl);
        }

-- by its side's moves
pub judged_tried : (engines serial left : ℕ) (b : Bool) (ws : List ℕ) (v : Verdict) → (left ≡ 0 → ⊥) → Judged engines serial (suc (left - 1)) b ws v → Judged engines serial left b ws v
judged_tried engines serial left b ws v n j = subst (λ (m : ℕ). Judged engines serial m b ws v) (one_less left n) j

-- the side passes
pub judged_pass :
    (engines serial left : ℕ) (b c : Bool) (ws : List ℕ) (u v : Verdict) → (left ≡ 0 → ⊥) → has_move engines (side_of b) ws ≡ false → c ≡ not b → Judged engines serial (left - 1) c ws u →
    v.forced ≡ u.forced → v.decided ≡ None → Judged engines serial left b ws v
judged_pass engines serial left b c ws u v n none side j f d =
    judged_tried engines serial left b ws v n
    (record {
      forced =
          record {
            verdict = f ∙ j.forced.verdict ∙ ap (λ (x : Bool). forces engines serial (left - 1) (side_of x) ws) side ∙ passes engines serial (left - 1) b ws none;
            shown = λ e q w. absurd (omega (arith, w, ap index_or_all d));
            passed = λ e q w. subst (λ (x : Bool). has_move engines (side_of x) ws ≡ false) e none;
            met = λ e w. absurd (omega (arith, w, ap index_or_all d));
          };
      there = rw d tt;
    })

no_fault : (f : Bool) → not f ≡ eqb (bit f) 0
no_fault true = refl
no_fault false = refl

pub judged_now : (serial : ℕ) (rest : List ℕ → Bool) (a : Accepted) (words : List ℕ) → delivers_by serial (told (Ok a)) ≡ true → not a.fault ≡ won_by serial rest (told (Ok a)) words
unfolding won_by
judged_now serial rest a words e = rw e (no_fault a.fault)

pub judged_later : (serial : ℕ) (rest : List ℕ → Bool) (a : Answer) (words : List ℕ) → delivers_by serial a ≡ false → rest words ≡ won_by serial rest a words
unfolding won_by
judged_later serial rest a words e = rw e

not_true : (v : Bool) → not v ≡ true → v ≡ false
not_true true e = sym e
not_true false e = refl

-- what decides is won by the keeper, and lost by the river
pub turned_is : (b v : Bool) → turned b v ≡ true → not b ≡ v
unfolding turned
turned_is true v e = sym (not_true v e)
turned_is false v e = sym e

-- the other side to move
pub judged_other :
    (engines serial left : ℕ) (b c v : Bool) (a : Answer) (words : List ℕ) → c ≡ not b → v ≡ won_by serial (forces engines serial left (side_of c)) a words →
    v ≡ won_by serial (forces engines serial left (side_of (not b))) a words
judged_other engines serial left b c v a words e f = subst (λ (x : Bool). v ≡ won_by serial (forces engines serial left (side_of x)) a words) e f

-- a result that is the first part of the scratch
pub front_words : (a n : ℕ) (us front back : List ℕ) → us ≡ front ++ back → n ≡ a → a ≤ length front → take n front ≡ take a us
front_words a n us front back e q h = ap (λ (m : ℕ). take m front) q ∙ sym (take-append-le a front back h) ∙ ap (take a) (sym e)

pub judged_lost : (serial : ℕ) (rest : List ℕ → Bool) (a : Answer) (words us : List ℕ) → delivers_by serial a ≡ false → us ≡ words → rest us ≡ false → false ≡ won_by serial rest a words
judged_lost serial rest a words us d e l = sym l ∙ ap rest e ∙ judged_later serial rest a words d
