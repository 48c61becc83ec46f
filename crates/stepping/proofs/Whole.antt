-- The step's cases by the definitions, once a process is found: it is stuck, it moves alone, its expression has no value, or it sends.
-- Assumes nothing.
use Prim.Native.Nat.{ℕ}
use mathlib.Core.Path.{◌≡◌, refl}
use mathlib.Core.Bool.{Bool, true, false, ◌&&◌, cond}
use mathlib.Core.Option.{Option, none, some}
use mathlib.Core.List.{List}
use borrow.Author.Tests.{eq-eqb, ne_eqb}
use lib.Dec.{eqb}
use Rattle.sock.specs.Term.{kind}
use Rattle.sock.specs.Running.{Run, as_node}
use Rattle.sock.specs.Configuration.{Config, guarded, read_config}
use Rattle.sock.specs.Frames.{plug}
use Rattle.sock.specs.Rules.{also, Message, stuck, alone, unvalued, sends, move_of, Exchange, exchange}
use Rattle.sock.specs.Calls.{unreadable, nobody_there, no_move, no_partner, no_fit, not_decimal, installing, Result, refused, ◌>>=◌, ◌!◌, Numbers, Spot, enabled_at, movable, partner, meeting, effect, Stepped, with_engine, carried_out, step}
use Rattle.layout.specs.declared.limit.Limits.{Limits}
use Rattle.layout.specs.Limits.{figures}
use Rattle.stepping.specs.Stepping.{none_else}
use Rattle.stepping.proofs.Goal.{fitted}

-- what follows once the process a is found
unfoldable pub after : Limits → Config → Numbers → Spot → ℕ → Result Stepped
after limits c k a room =
    (no_move ! movable k (move_of a.values a.frames a.process)) >>= λ m.
    (no_partner ! partner c k a m) >>= λ b.
    (no_fit ! effect c k a b m) >>= λ o.
    (not_decimal ! o) >>= λ x.
    (installing ! carried_out c a b x) >>= λ s. fitted limits room s

pub step_read :
    (limits : Limits) (ws : List ℕ) (k : Numbers) (room : ℕ) →
    step (figures limits) ws k room ≡ ((unreadable ! read_config (figures limits) ws) >>= λ c. (nobody_there ! enabled_at c k.engine k.position) >>= λ a. after limits c k a room)
unfolding step after fitted
step_read limits ws k room = refl

-- what one engine's step gives
unfoldable pub lone_of : Limits → Config → Spot → List ℕ → Option Run → ℕ → Result Stepped
lone_of limits c a vs none room = refused installing
lone_of limits c a vs (some q) room =
    fitted limits room
    (record {
      config = record { issued = c.issued; engines = with_engine a.engine vs q c.engines };
      kind = kind (as_node a.process);
      serial = 0;
      fault = 0;
    })

-- and a step of two
unfoldable pub pair_of : Limits → Config → Numbers → Spot → Spot → Message → ℕ → Result Stepped
pair_of limits c k a b m room =
    (no_fit ! effect c k a b (sends m)) >>= λ o. (not_decimal ! o) >>= λ x. (installing ! carried_out c a b x) >>= λ s. fitted limits room s

abbrev pub exchanged : Config → Spot → Spot → Exchange → Stepped
exchanged c a b x =
    record {
      config =
          record {
            issued = x.issued;
            engines =
                with_engine b.engine x.values (plug b.frames x.receiver) (with_engine a.engine a.values (plug a.frames x.sender) c.engines);
          };
      kind = kind (as_node a.process);
      serial = x.serial;
      fault = x.fault;
    }

-- the tests of the numbers, one after the other
none_else_lem : (i place branch : ℕ) → (eqb i 0 && eqb place 0 && eqb branch 0) ≡ none_else i place branch
unfolding none_else
none_else_lem i place branch = by (eqb i 0) (eqb place 0) (eqb branch 0)
  where
    by : (a b c : Bool) → (a && b && c) ≡ cond a (cond b c false) false
    by true true c = refl
    by true false c = refl
    by false b c = refl

module _ (limits : Limits) (c : Config) (k : Numbers) (a : Spot) (room : ℕ) where
  pub after_stuck : move_of a.values a.frames a.process ≡ stuck → after limits c k a room ≡ refused no_move
  unfolding after movable ◌!◌ ◌>>=◌
  after_stuck e = rw e

  pub after_alone :
      (vs : List ℕ) (q : Option Run) → move_of a.values a.frames a.process ≡ alone vs q →
      after limits c k a room ≡ cond (none_else k.second k.second_position k.branch) (lone_of limits c a vs q room) (refused no_move)
  unfolding after movable partner effect carried_out lone_of guarded ◌!◌ ◌>>=◌
  after_alone vs q e = rw (e, none_else_lem k.second k.second_position k.branch) (by (none_else k.second k.second_position k.branch) q)
    where
      by :
          (b : Bool) (q : Option Run) →
          ((no_move ! guarded b (some (alone vs q))) >>= λ m.
          (no_partner ! partner c k a m) >>= λ b.
          (no_fit ! effect c k a b m) >>= λ o.
          (not_decimal ! o) >>= λ x.
          (installing ! carried_out c a b x) >>= λ s. fitted limits room s)
          ≡ cond b (lone_of limits c a vs q room) (refused no_move)
      by true none = refl
      by true (some q) = refl
      by false q = refl

  pub after_unvalued :
      move_of a.values a.frames a.process ≡ unvalued →
      after limits c k a room ≡ cond (none_else k.second k.second_position k.branch) (refused not_decimal) (refused no_move)
  unfolding after movable partner effect guarded ◌!◌ ◌>>=◌
  after_unvalued e = rw (e, none_else_lem k.second k.second_position k.branch) (by (none_else k.second k.second_position k.branch))
    where
      by :
          (b : Bool) →
          ((no_move ! guarded b (some unvalued)) >>= λ m.
          (no_partner ! partner c k a m) >>= λ b.
          (no_fit ! effect c k a b m) >>= λ o.
          (not_decimal ! o) >>= λ x.
          (installing ! carried_out c a b x) >>= λ s. fitted limits room s)
          ≡ cond b (refused not_decimal) (refused no_move)
      by true = refl
      by false = refl

  pub after_sends :
      (m : Message) → move_of a.values a.frames a.process ≡ sends m →
      after limits c k a room ≡ ((no_partner ! enabled_at c k.second k.second_position) >>= λ b. pair_of limits c k a b m room)
  unfolding after movable partner pair_of ◌!◌ ◌>>=◌
  after_sends m e = rw e

  pub pair_same : (b : Spot) (m : Message) → a.engine ≡ b.engine → pair_of limits c k a b m room ≡ refused no_fit
  unfolding pair_of effect guarded ◌!◌ ◌>>=◌
  pair_same b m e = rw (eq-eqb a.engine b.engine e)

  module _ (b : Spot) (m : Message) (other : a.engine ≡ b.engine → ⊥) where
    pub pair_none : exchange (meeting c k a b) m ≡ none → pair_of limits c k a b m room ≡ refused no_fit
    unfolding pair_of effect guarded also ◌!◌ ◌>>=◌
    pair_none e = rw (ne_eqb a.engine b.engine other, e)

    pub pair_some :
        (x : Exchange) → exchange (meeting c k a b) m ≡ some x →
        pair_of limits c k a b m room ≡ fitted limits room (exchanged c a b x)
    unfolding pair_of effect carried_out guarded also ◌!◌ ◌>>=◌
    pair_some x e = rw (ne_eqb a.engine b.engine other, e)
