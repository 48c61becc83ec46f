-- An accepted step taken apart: who acts, alone or with whom, and what that makes of the configuration. And back: from these the step is what its
-- limits leave of it.
-- Assumes nothing.
use Prim.Native.Nat.{ℕ}
use mathlib.Core.Path.{◌≡◌, refl, ap, ◌∙◌}
use mathlib.Core.Bool.{Bool, not, ◌&&◌}
use mathlib.Core.Option.{none, some}
use mathlib.Core.List.{List}
use lib.Dec.{T, leb, eqb}
use lib.ListN.{length}
use Rattle.sock.specs.Term.{kind}
use Rattle.sock.specs.Running.{Run, as_node}
use Rattle.sock.specs.Configuration.{Limits, Config, encode, engines_depth, read_config}
use Rattle.sock.specs.Frames.{plug}
use Rattle.sock.specs.Rules.{also, Message, Move, stuck, alone, unvalued, sends, move_of, Exchange, exchange}
use Rattle.sock.specs.Calls.{unreadable, nobody_there, no_move, no_partner, no_fit, not_decimal, installing, serials_spent, deep, long, short, Result, done, ◌>>◌, ◌unless◌, Numbers, Spot, enabled_at, movable, partner, Effect, between, meeting, effect, Stepped, with_engine, carried_out, step}
use Rattle.sock.proofs.Logic.{All, all_none, all_some, all_also, all_guarded}
use Rattle.sock.proofs.Located.{all_equal}
use Rattle.sock.proofs.Configuration.{passed}
use Rattle.sock.proofs.Steps.{Sure, sure_done, sure_then, sure_given, sure_unless}
use Rattle.sock.proofs.Delivery.{given, unless_true}

abbrev pub move_at : Spot → Move
move_at a = move_of a.values a.frames a.process

abbrev pub no_second : Numbers → Bool
no_second k = eqb k.second 0 && eqb k.second_position 0 && eqb k.branch 0

-- what a step makes, alone and between two
abbrev pub by_one : Config → Spot → List ℕ → Run → Stepped
by_one c a vs p =
    record {
      config = record { issued = c.issued; engines = with_engine a.engine vs p c.engines };
      kind = kind (as_node a.process);
      serial = 0;
      fault = 0;
    }

abbrev pub by_two : Config → Spot → Spot → Exchange → Stepped
by_two c a b x =
    record {
      config =
          record {
            issued = x.issued;
            engines =
                with_engine b.engine x.values (plug b.frames x.receiver)
                (with_engine a.engine a.values (plug a.frames x.sender) c.engines);
          };
      kind = kind (as_node a.process);
      serial = x.serial;
      fault = x.fault;
    }

pub data Taken (c : Config) (k : Numbers) : Stepped → Type 0 where
  taken_alone :
      (a : Spot) (vs : List ℕ) (p : Run) →
      enabled_at c k.engine k.position ≡ some a →
      move_at a ≡ alone vs (some p) →
      T (no_second k) →
      Taken c k (by_one c a vs p)
  taken_between :
      (a b : Spot) (m : Message) (x : Exchange) →
      enabled_at c k.engine k.position ≡ some a →
      move_at a ≡ sends m →
      enabled_at c k.second k.second_position ≡ some b →
      T (not (eqb a.engine b.engine)) →
      exchange (meeting c k a b) m ≡ some x →
      Taken c k (by_two c a b x)

-- ---- an accepted step is taken

-- the second fields and the branch are 0 where they have to be
abbrev Free : Numbers → Move → Type 0
Free k stuck = Unit {0}
Free k (alone vs p) = T (no_second k)
Free k unvalued = Unit {0}
Free k (sends m) = Unit {0}

movable_free : (k : Numbers) (m : Move) → All (λ m'. (m ≡ m') × Free k m') (movable k m)
unfolding movable
movable_free k stuck = all_none
movable_free k (alone vs p) = all_guarded (no_second k) λ t. all_some (refl, t)
movable_free k unvalued = all_guarded (no_second k) λ t. all_some (refl, tt)
movable_free k (sends m) = all_some (refl, tt)

module _ (c : Config) (k : Numbers) (a b : Spot) (at : enabled_at c k.engine k.position ≡ some a) where
  effect_taken :
      (m : Move) → move_at a ≡ m → Free k m → partner c k a m ≡ some b →
      All (All (λ x. All (Taken c k) (carried_out c a b x))) (effect c k a b m)
  unfolding effect carried_out partner
  effect_taken stuck e f meets = all_none
  effect_taken (alone vs none) e f meets = all_some (all_some all_none)
  effect_taken (alone vs (some p)) e f meets = all_some (all_some (all_some (taken_alone a vs p at e f)))
  effect_taken unvalued e f meets = all_some all_none
  effect_taken (sends m) e f meets =
      all_guarded (not (eqb a.engine b.engine)) λ t.
      all_also (all_equal (exchange (meeting c k a b) m)) λ x q.
      all_some (all_some (all_some (taken_between a b m x at e meets t q)))

-- within the limits, and in the output's room
pub record Within (limits : Limits) (room : ℕ) (s : Stepped) : Type 0 where
  pub serials : T (leb s.config.issued 65535)
  pub shallow : T (leb (engines_depth s.config.engines) limits.deepest)
  pub short : T (leb (length (encode s.config)) limits.longest)
  pub fits : T (leb (length (encode s.config)) room)

pub record Accepts (limits : Limits) (ws : List ℕ) (k : Numbers) (room : ℕ) (s : Stepped) : Type 0 where
  pub config : Config
  pub reads : read_config limits ws ≡ some config
  pub taken : Taken config k s
  pub within : Within limits room s

pub step_accepts : (limits : Limits) (ws : List ℕ) (k : Numbers) (room : ℕ) → Sure (Accepts limits ws k room) (step limits ws k room)
unfolding step
step_accepts limits ws k room =
    sure_then (sure_given unreadable (all_equal (read_config limits ws))) λ c r.
    sure_then (sure_given nobody_there (all_equal (enabled_at c k.engine k.position))) λ a at.
    sure_then (sure_given no_move (movable_free k (move_at a))) λ m f.
    sure_then (sure_given no_partner (all_equal (partner c k a m))) λ b meets.
    sure_then (sure_given no_fit (effect_taken c k a b at m f.0 f.1 meets)) λ o w.
    sure_then (sure_given not_decimal w) λ x g.
    sure_then (sure_given installing g) λ s t.
    sure_unless serials_spent (leb s.config.issued 65535) λ u1.
    sure_unless deep (leb (engines_depth s.config.engines) limits.deepest) λ u2.
    sure_unless long (leb (length (encode s.config)) limits.longest) λ u3.
    sure_unless short (leb (length (encode s.config)) room) λ u4.
    sure_done (record { config = c; reads = r; taken = t; within = record { serials = u1; shallow = u2; short = u3; fits = u4 } })

-- ---- a step that is taken is what the limits leave

unfoldable pub limited : Limits → ℕ → Stepped → Result Stepped
limited limits room s = do
  serials_spent unless leb s.config.issued 65535
  deep unless leb (engines_depth s.config.engines) limits.deepest
  long unless leb (length (encode s.config)) limits.longest
  short unless leb (length (encode s.config)) room
  done s

pub limited_done : {limits : Limits} {room : ℕ} {s : Stepped} → Within limits room s → limited limits room s ≡ done s
unfolding limited
limited_done {limits} {room} {s} w =
    unless_true _ (leb s.config.issued 65535) _ w.serials
    ∙ unless_true _ (leb (engines_depth s.config.engines) limits.deepest) _ w.shallow
    ∙ unless_true _ (leb (length (encode s.config)) limits.longest) _ w.short
    ∙ unless_true _ (leb (length (encode s.config)) room) _ w.fits

module _ (limits : Limits) (ws : List ℕ) (k : Numbers) (room : ℕ) {c : Config} (reads : read_config limits ws ≡ some c) where
  from_parts :
      {a b : Spot} {m : Move} {x : Effect} {s : Stepped} →
      enabled_at c k.engine k.position ≡ some a →
      movable k (move_at a) ≡ some m →
      partner c k a m ≡ some b →
      effect c k a b m ≡ some (some x) →
      carried_out c a b x ≡ some s →
      step limits ws k room ≡ limited limits room s
  unfolding step limited
  from_parts at moves meets made carried =
      given _ _ reads ∙ given _ _ at ∙ given _ _ moves ∙ given _ _ meets ∙ given _ _ made ∙ given _ _ refl ∙ given _ _ carried

  pub step_taken : {s : Stepped} → Taken c k s → step limits ws k room ≡ limited limits room s
  unfolding movable partner effect carried_out also
  step_taken (taken_alone a vs p at e t) = from_parts at (ap (movable k) e ∙ passed (no_second k) t) refl refl refl
  step_taken (taken_between a b m x at e meets t q) =
      from_parts at (ap (movable k) e) meets (passed (not (eqb a.engine b.engine)) t ∙ ap (λ o. also o λ x. some (some (between x))) q) refl
