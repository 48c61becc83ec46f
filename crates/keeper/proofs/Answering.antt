-- The call: its refusals in their order, the outcome, and the move that is shown.
-- Assumes nothing.
use Prim.Native.Nat.{ℕ, zero, suc, ◌*◌, ◌≤◌, ◌<◌}
use native.Mathlib.Omega.{arith}
use native.Mathlib.Decide.{ℕ_discrete}
use mathlib.Core.Path.{◌≡◌, refl, sym, subst, ap, ◌∙◌}
use mathlib.Core.Bool.{Bool, true, false, cond}
use mathlib.Core.List.{List}
use borrow.Author.Tests.{eq-eqb, ne_eqb, le-leb, lt-leb}
use mathlib.Core.Logic.{◌⊎◌, inl, inr}
use lib.Dec.{T, leb, eqb→eq}
use Rattle.sock.specs.Configuration.{standard, Config}
use Rattle.sock.specs.Calls.{Result, refused, done, Ends, known, counted, ends}
use Rattle.sock.proofs.Logic.{and_left, and_right, true_test}
use Rattle.stepping.specs.declared.bundles.Numbers.{Numbers}
use Rattle.stepping.specs.Bundles.{numbers_as}
use Rattle.std.specs.Prelude.{Option as Maybe, Some, IfSome}
use Rattle.reading.specs.declared.ends.EndCounts.{EndCounts}
use Rattle.keeper.specs.Answers.{index_or_all}
use Rattle.keeper.specs.Game.{keeper, river, kept, of_side, moved, accepts, moves, has_move, won, forces}
use Rattle.keeper.specs.Calls.{after_known, keeper_number, outcome_of, keeper_outcome, Shown, Showing}
use Rattle.keeper.specs.Moves.{numbers_at}
use Rattle.keeper.specs.Seeking.{move_at}
use Rattle.keeper.specs.Playing.{Forced}
use Rattle.keeper.specs.Hopes.{gone_in}
use Rattle.keeper.proofs.Gone.{ends_gone}
use Rattle.keeper.proofs.Trying.{positive}

-- ---- the game's answer

-- with no moves it is a no
never : (engines serial k : ℕ) (ws : List ℕ) (v : Bool) → k ≡ 0 → v ≡ forces engines serial k keeper ws → v ≡ true → ⊥
unfolding forces
never engines serial k ws v z e t =
    let f : v ≡ false = e ∙ ap (λ (n : ℕ). forces engines serial n keeper ws) z in
    let q : ◌≡◌ {A = ℕ} 0 1 = cc in
    omega arith

module _ (engines serial k : ℕ) (ws : List ℕ) (left : ℕ) (all_moves : left ≡ k) (v : Bool) where
  there : (i : ℕ) → Forced engines serial left false ws v i → Forced engines serial k false ws v i
  there i f = subst (λ (m : ℕ). Forced engines serial m false ws v i) all_moves f

  module _ (i : ℕ) (f : Forced engines serial left false ws v i) where
    abbrev here : Forced engines serial k false ws v i
    here = there i f

    pub said_no : v ≡ false → 0 ≡ outcome_of engines serial k ws
    unfolding outcome_of
    said_no e =
        let z : forces engines serial k keeper ws ≡ false = sym here.verdict ∙ e in
        rw z

    pub said_pass : v ≡ true → 68719476736 ≤ i → 2 ≡ outcome_of engines serial k ws
    unfolding outcome_of
    said_pass e h =
        let z : forces engines serial k keeper ws ≡ true = sym here.verdict ∙ e in
        let w : has_move engines keeper ws ≡ false = here.passed refl e h in
        rw (z, w)

    pub said_move : v ≡ true → i < 68719476736 → 1 ≡ outcome_of engines serial k ws
    unfolding outcome_of
    said_move e h =
        let z : forces engines serial k keeper ws ≡ true = sym here.verdict ∙ e in
        let w : has_move engines keeper ws ≡ true = here.met refl h in
        rw (z, w)

    keeps_at : (j : ℕ) → T (moves engines keeper ws (won serial (forces engines serial j river)) (move_at i)) → T (kept engines (move_at i).engine) × T (accepts (won serial (forces engines serial j river)) (moved ws (move_at i)))
    unfolding moves of_side
    keeps_at j t = (and_left (kept engines (move_at i).engine) _ t, and_right (kept engines (move_at i).engine) _ t)

    shown_move : v ≡ true → i < 68719476736 → Shown engines serial k ws (move_at i)
    shown_move e h = by k refl
      where
        by : (n : ℕ) → k ≡ n → Shown engines serial k ws (move_at i)
        by zero d = absurd (never engines serial k ws v d here.verdict e)
        by (suc j) d = record { side = (keeps_at j (here.shown refl e h j d)).0; keeps = λ m u. (keeps_at m (here.shown refl e h m u)).1 }

    pub showing_move : v ≡ true → i < 68719476736 → (n : Numbers) → n ≡ numbers_at i → Showing engines serial k ws 1 (numbers_as n)
    showing_move e h n q =
        record { shown = λ u. subst (λ (m : Numbers). Shown engines serial k ws (numbers_as m)) (sym q) (shown_move e h); hidden = λ u. absurd (u refl) }

-- the move that decided
pub decided_at :
    (engines serial left : ℕ) (us : List ℕ) (v : Bool) (o : Maybe ℕ) (i : ℕ) → o ≡ Some i → Forced engines serial left false us v (index_or_all o) → IfSome o (λ i. i < 68719476736) →
    Forced engines serial left false us v i × (i < 68719476736)
decided_at engines serial left us v o i e f h =
    (subst (λ (x : Maybe ℕ). Forced engines serial left false us v (index_or_all x)) e f, subst (λ (x : Maybe ℕ). IfSome x (λ i. i < 68719476736)) e h)

-- ---- the refusals

module _ (ws : List ℕ) (serial : ℕ) (n : ℕ) (asked : n ≡ (ends standard ws serial).number) where
  -- 1 or 12
  pub number_first : (k room : ℕ) → (n ≡ 0 → ⊥) → n ≡ keeper_number ws serial k room
  unfolding keeper_number after_known ends counted
  number_first k room z = by (known standard ws serial) asked
    where
      by : (q : Result Config) → n ≡ (counted serial q).number → n ≡ after_known k room q
      by (refused r) e = e
      by (done c) e = absurd (z e)

  passing : (k room m : ℕ) → n ≡ 0 → cond (leb k 6) (cond (leb (7 * 8192) room) 0 10) 23 ≡ m → m ≡ keeper_number ws serial k room
  unfolding keeper_number after_known ends counted
  passing k room m z e = by (known standard ws serial) asked
    where
      by : (q : Result Config) → n ≡ (counted serial q).number → m ≡ after_known k room q
      by (refused r) d = absurd (positive r (sym d ∙ z))
      by (done c) d = sym e

  pub number_moves : (k room : ℕ) → n ≡ 0 → 6 < k → 23 ≡ keeper_number ws serial k room
  number_moves k room z h = passing k room 23 z (rw (lt-leb k 6 h))

  pub number_short : (k room : ℕ) → n ≡ 0 → k ≤ 6 → room < 57344 → 10 ≡ keeper_number ws serial k room
  number_short k room z h u = passing k room 10 z (rw (le-leb k 6 h, lt-leb 57344 room u))

  pub number_none : (k room : ℕ) → n ≡ 0 → k ≤ 6 → 57344 ≤ room → 0 ≡ keeper_number ws serial k room
  number_none k room z h u = passing k room 0 z (rw (le-leb k 6 h, le-leb 57344 room u))

-- a refusal
module _ (ws : List ℕ) (engines serial k room m : ℕ) (e : m ≡ keeper_number ws serial k room) where
  pub outcome_none : (m ≡ 0 → ⊥) → 0 ≡ keeper_outcome ws engines serial k room
  unfolding keeper_outcome
  outcome_none n = rw (ne_eqb (keeper_number ws serial k room) 0 (λ z. n (e ∙ z)))

  pub outcome_played : (o : ℕ) → m ≡ 0 → o ≡ outcome_of engines serial k ws → o ≡ keeper_outcome ws engines serial k room
  unfolding keeper_outcome
  outcome_played o z q = q ∙ rw (eq-eqb (keeper_number ws serial k room) 0 (sym e ∙ z))

-- ends that are gone: a no
gone_in_one : (waiters workers : ℕ) → gone_in waiters workers ≡ true → (waiters ≡ 0) ⊎ (workers ≡ 0)
unfolding gone_in
gone_in_one waiters workers e = by (ℕ_discrete waiters 0)
  where
    by : Dec (waiters ≡ 0) → (waiters ≡ 0) ⊎ (workers ≡ 0)
    by (yes z) = inl z
    by (no z) = inr (eqb→eq workers 0 (true_test (rw (ne_eqb waiters 0 z) at e)))

-- a position that is lost
pub lost_at_once :
    (ws : List ℕ) (engines serial k room : ℕ) → 0 ≡ (ends standard ws serial).number → k ≤ 6 → 57344 ≤ room → forces engines serial k keeper ws ≡ false → 0 ≡ keeper_outcome ws engines serial k room
unfolding outcome_of
lost_at_once ws engines serial k room e few long lost =
    outcome_played ws engines serial k room 0 (number_none ws serial 0 e k room refl few long) 0 refl (rw lost)

pub given_up :
    (ws : List ℕ) (engines serial k room : ℕ) (x : EndCounts) → record { number = 0; waiters = x.waiters; workers = x.workers } ≡ ends standard ws serial → k ≤ 6 → 57344 ≤ room →
    gone_in x.waiters x.workers ≡ true → 0 ≡ keeper_outcome ws engines serial k room
given_up ws engines serial k room x e few long t =
    let counted : 0 ≡ (ends standard ws serial).number = ap (λ (y : Ends). y.number) e in
    lost_at_once ws engines serial k room counted few long (ends_gone engines serial k keeper ws (sym counted) (moved_over (gone_in_one x.waiters x.workers t)))
  where
    moved_over : (x.waiters ≡ 0) ⊎ (x.workers ≡ 0) → ((ends standard ws serial).waiters ≡ 0) ⊎ ((ends standard ws serial).workers ≡ 0)
    moved_over (inl u) = inl (sym (ap (λ (y : Ends). y.waiters) e) ∙ u)
    moved_over (inr u) = inr (sym (ap (λ (y : Ends). y.workers) e) ∙ u)
