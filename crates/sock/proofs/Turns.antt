-- What a step does to the ends of each engine, for every test: nothing; or a call begins, and with it a waiting and a working end; or a
-- call ends, and both its ends go.
-- Assumes nothing.
use Prim.Native.Nat.{ℕ, suc, ◌+◌, ◌<◌}
use native.Mathlib.Omega.{arith}
use native.Mathlib.Decide.{ℕ_discrete}
use mathlib.Core.Path.{◌≡◌, refl, subst, sym, ap, ◌∙◌}
use mathlib.Core.Bool.{Bool, true, false, not, ◌&&◌, cond}
use mathlib.Core.Option.{Option, some}
use mathlib.Core.List.{List, []}
use lib.Dec.{T, ltb, eqb, leb, ltb→lt, T_not}
use lib.ListN.{length, get_or, set, length-set}
use lib.Seq.{get_or-set_same, get_or-set_other}
use borrow.Author.Tests.{ne_eqb, eq-eqb}
use Rattle.sock.specs.Words.{bit}
use Rattle.sock.specs.Running.{Run, nil}
use Rattle.sock.specs.Configuration.{Limits, Engine, Config, encode, engines_depth, read_config}
use Rattle.sock.specs.Frames.{Frame, plug}
use Rattle.sock.specs.Rules.{Message, Move, stuck, alone, unvalued, sends, Exchange}
use Rattle.sock.specs.Calls.{unreadable, nobody_there, no_move, no_partner, no_fit, installing, serials_spent, deep, long, short, Numbers, Spot, engine_at, enabled_at, movable, partner, Effect, lone, between, meeting, effect, Stepped, with_engine, carried_out, step, End, waiting, working, tally}
use Rattle.sock.specs.Runs.{is_solicit, carries}
use Rattle.sock.proofs.Logic.{cond-case, All, all_none, all_some, all_also, all_guarded, all_map, all_some_lem}
use Rattle.sock.proofs.Located.{all_equal}
use Rattle.sock.proofs.Steps.{Sure, sure_done, sure_then, sure_given, sure_unless}
use Rattle.sock.proofs.Tallies.{around, plug_tally, locate_tally}
use Rattle.sock.proofs.Trades.{Trade, quiet_trade, new_trade, last_trade, exchange_trade}
use Rattle.sock.proofs.Moves.{Holds, Quiet, Moves, stuck_moves, unvalued_moves, alone_moves, notifies, asking, replies, faults, move_moves}

-- ---- n at engine k, nothing at others

unfoldable pub here : ℕ → ℕ → ℕ → ℕ
here i k n = cond (eqb i k) n 0

pub here_same : (i k n : ℕ) → i ≡ k → here i k n ≡ n
unfolding here
here_same i k n e = rw (eq-eqb i k e)

pub here_other : (i k n : ℕ) → (i ≡ k → ⊥) → here i k n ≡ 0
unfolding here
here_other i k n e = rw (ne_eqb i k e)

pub here_zero : (i k : ℕ) → here i k 0 ≡ 0
unfolding here
here_zero i k = cond-case (λ n. n ≡ 0) (eqb i k) (λ t. refl) (λ t. refl)

-- the ends of a call with serial s that pass a test in engine i
abbrev pub share : (End → Bool) → ℕ → ℕ → ℕ → ℕ → ℕ → ℕ
share t i s o client server = here i client (bit (t (waiting s o server))) + here i server (bit (t (working s o client)))

-- ---- turns

abbrev pub ends_at : (End → Bool) → Config → ℕ → ℕ
ends_at t c i = tally t (engine_at c i).process

-- from c to c', by the process p, with the serial that the answer names
pub data Turn (c c' : Config) (p : Run) (serial : ℕ) : Type 0 where
  quietly : Quiet p → c'.issued ≡ c.issued → ((i : ℕ) (t : End → Bool) → ends_at t c' i ≡ ends_at t c i) → Turn c c' p serial
  begins :
      (o client server : ℕ) →
      (client ≡ server → ⊥) →
      is_solicit p ≡ true →
      ((s : ℕ) → carries s p ≡ false) →
      c'.issued ≡ suc c.issued →
      serial ≡ suc c.issued →
      ((i : ℕ) (t : End → Bool) → ends_at t c' i ≡ ends_at t c i + share t i (suc c.issued) o client server) →
      Turn c c' p serial
  ended :
      (s o client server : ℕ) →
      is_solicit p ≡ false →
      ((s' : ℕ) → carries s' p ≡ eqb s' s) →
      c'.issued ≡ c.issued →
      serial ≡ s →
      ((i : ℕ) (t : End → Bool) → ends_at t c' i + share t i s o client server ≡ ends_at t c i) →
      Turn c c' p serial

-- ---- an engine put in place of another

abbrev pub no_engine : Engine
no_engine = record { values = []; process = nil }

module _ (t : End → Bool) where
  abbrev pub ends_in : List Engine → ℕ → ℕ
  ends_in es i = tally t (get_or es i no_engine).process

  set_ends :
      (es : List Engine) (a i : ℕ) (x : Engine) (m n : ℕ) →
      a < length es →
      tally t x.process + m ≡ ends_in es a + n →
      ends_in (set es a x) i + here i a m ≡ ends_in es i + here i a n
  set_ends es a i x m n b h = by (ℕ_discrete i a)
    where
      by : Dec (i ≡ a) → ends_in (set es a x) i + here i a m ≡ ends_in es i + here i a n
      by (yes e) =
          let now : ends_in (set es a x) i ≡ tally t x.process = ap (ends_in (set es a x)) e ∙ ap (λ y. tally t y.process) (get_or-set_same es a x no_engine b) in
          let was : ends_in es i ≡ ends_in es a = ap (ends_in es) e in
          omega (arith, here_same i a m e, here_same i a n e)
      by (no e) =
          let now : ends_in (set es a x) i ≡ ends_in es i = ap (λ y. tally t y.process) (get_or-set_other es a i x no_engine e) in
          omega (arith, here_other i a m e, here_other i a n e)

  -- and two engines, in two different places
  two_ends :
      (es : List Engine) (a b i : ℕ) (x y : Engine) (m n m' n' : ℕ) →
      (a ≡ b → ⊥) →
      a < length es →
      b < length es →
      tally t x.process + m ≡ ends_in es a + n →
      tally t y.process + m' ≡ ends_in es b + n' →
      ends_in (set (set es a x) b y) i + (here i a m + here i b m') ≡ ends_in es i + (here i a n + here i b n')
  two_ends es a b i x y m n m' n' d ha hb h h' =
      let size : length (set es a x) ≡ length es = length-set es a x in
      let same : ends_in (set es a x) b ≡ ends_in es b = ap (λ y. tally t y.process) (get_or-set_other es a b x no_engine (λ e. d (sym e))) in
      let first : ends_in (set es a x) i + here i a m ≡ ends_in es i + here i a n = set_ends es a i x m n ha h in
      let second : ends_in (set (set es a x) b y) i + here i b m' ≡ ends_in (set es a x) i + here i b n' = set_ends (set es a x) b i y m' n' (omega arith) (omega arith) in
      omega arith

-- ---- where a process stands

pub record Standing (c : Config) (a : Spot) : Type 0 where
  pub below : a.engine < length c.engines
  pub ends : (t : End → Bool) → around t a.frames + tally t a.process ≡ ends_at t c a.engine

pub enabled_standing : (c : Config) (e p : ℕ) → All (Standing c) (enabled_at c e p)
unfolding enabled_at around
enabled_standing c e p =
    all_guarded (ltb e (length c.engines)) λ g.
    all_also (locate_tally (engine_at c e).process p [] (λ t. ends_at t c e) (λ t. omega arith)) λ l h.
    all_some (record { below = ltb→lt e (length c.engines) g; ends = h })

-- ---- the step

data Effects (c : Config) (a b : Spot) : Effect → Type 0 where
  lone_effects : {vs : List ℕ} {o : Option Run} → Quiet a.process → All (Holds (λ t. ends_at t c a.engine)) o → Effects c a b (lone vs o)
  between_effects :
      {x : Exchange} →
      (a.engine ≡ b.engine → ⊥) →
      Trade c.issued a.engine b.engine a.process b.process x →
      Effects c a b (between x)

movable_moves : {fs : List Frame} {p : Run} (k : Numbers) {m : Move} → Moves fs p m → All (Moves fs p) (movable k m)
unfolding movable
movable_moves k stuck_moves = all_none
movable_moves k (alone_moves u h) = all_guarded (eqb k.second 0 && eqb k.second_position 0 && eqb k.branch 0) λ g. all_some (alone_moves u h)
movable_moves k unvalued_moves = all_guarded (eqb k.second 0 && eqb k.second_position 0 && eqb k.branch 0) λ g. all_some unvalued_moves
movable_moves k (notifies u z) = all_some (notifies u z)
movable_moves k (asking u w z) = all_some (asking u w z)
movable_moves k (replies u) = all_some (replies u)
movable_moves k (faults u) = all_some (faults u)

module _ (c : Config) (k : Numbers) where
  partner_standing : {a : Spot} → Standing c a → (m : Move) → All (Standing c) (partner c k a m)
  unfolding partner
  partner_standing x stuck = all_none
  partner_standing x (alone vs p) = all_some x
  partner_standing x unvalued = all_some x
  partner_standing x (sends m) = enabled_standing c k.second k.second_position

  sends_effects : (a b : Spot) {m : Message} → Moves a.frames a.process (sends m) → All (All (Effects c a b)) (effect c k a b (sends m))
  unfolding effect
  sends_effects a b h =
      all_guarded (not (eqb a.engine b.engine)) λ g.
      all_also (exchange_trade (meeting c k a b) a.process h) λ x z.
      all_some (all_some (between_effects (λ e. T_not (eqb a.engine b.engine) g (subst T (sym (eq-eqb a.engine b.engine e)) tt)) z))

  effect_effects : {a : Spot} → Standing c a → (b : Spot) {m : Move} → Moves a.frames a.process m → All (All (Effects c a b)) (effect c k a b m)
  unfolding effect
  effect_effects x b stuck_moves = all_none
  effect_effects x b (alone_moves u h) = all_some (all_some (lone_effects u (all_map (λ r y t. y t ∙ x.ends t) h)))
  effect_effects x b unvalued_moves = all_some all_none
  effect_effects {a} x b (notifies u z) = sends_effects a b (notifies u z)
  effect_effects {a} x b (asking u w z) = sends_effects a b (asking u w z)
  effect_effects {a} x b (replies u) = sends_effects a b (replies u)
  effect_effects {a} x b (faults u) = sends_effects a b (faults u)

module _ (c : Config) (a b : Spot) (x : Standing c a) (y : Standing c b) (apart : a.engine ≡ b.engine → ⊥) where
  -- what the two engines hold afterwards, from what the two processes do
  after_ends :
      (vs ws : List ℕ) (p q : Run) (i : ℕ) (t : End → Bool) (m n m' n' : ℕ) →
      tally t p + m ≡ tally t a.process + n →
      tally t q + m' ≡ tally t b.process + n' →
      ends_in t (with_engine b.engine ws (plug b.frames q) (with_engine a.engine vs (plug a.frames p) c.engines)) i
      + (here i a.engine m + here i b.engine m')
      ≡ ends_at t c i + (here i a.engine n + here i b.engine n')
  after_ends vs ws p q i t m n m' n' h h' =
      two_ends t c.engines a.engine b.engine i _ _ m n m' n' apart x.below y.below
      (omega (arith, plug_tally t a.frames p, x.ends t))
      (omega (arith, plug_tally t b.frames q, y.ends t))

  trade_turn :
      {z : Exchange} →
      Trade c.issued a.engine b.engine a.process b.process z →
      Turn c
      (record {
        issued = z.issued;
        engines = with_engine b.engine z.values (plug b.frames z.receiver) (with_engine a.engine a.values (plug a.frames z.sender) c.engines);
      })
      a.process z.serial
  trade_turn {z} (quiet_trade u e h h') =
      quietly u e λ i t.
      omega (arith, after_ends a.values z.values z.sender z.receiver i t 0 0 0 0 (omega (arith, h t)) (omega (arith, h' t)))
  trade_turn {z} (new_trade o u k e f h h') =
      begins o a.engine b.engine apart u k e f λ i t.
      omega (
        arith,
        here_zero i a.engine,
        here_zero i b.engine,
        after_ends a.values z.values z.sender z.receiver i t 0 (bit (t (waiting (suc c.issued) o b.engine))) 0 (bit (t (working (suc c.issued) o a.engine))) (omega (arith, h t)) (omega (arith, h' t)),
      )
  trade_turn {z} (last_trade s o u k e f h h') =
      ended s o b.engine a.engine u k e f λ i t.
      omega (
        arith,
        here_zero i a.engine,
        here_zero i b.engine,
        after_ends a.values z.values z.sender z.receiver i t (bit (t (working s o b.engine))) 0 (bit (t (waiting s o a.engine))) 0 (omega (arith, h t)) (omega (arith, h' t)),
      )

lone_turn :
    {c : Config} {a : Spot} (vs : List ℕ) (p : Run) →
    Standing c a → Quiet a.process → Holds (λ t. ends_at t c a.engine) p →
    Turn c (record { issued = c.issued; engines = with_engine a.engine vs p c.engines }) a.process 0
lone_turn {c} {a} vs p x u h =
    quietly u refl λ i t.
    omega (arith, set_ends t c.engines a.engine i (record { values = vs; process = p }) 0 0 x.below (omega (arith, h t)))

carried_turn :
    {c : Config} {a b : Spot} → Standing c a → Standing c b → {e : Effect} → Effects c a b e →
    All (λ s. Turn c s.config a.process s.serial) (carried_out c a b e)
unfolding carried_out
carried_turn x y (lone_effects u all_none) = all_none
carried_turn x y (lone_effects {vs = vs} u (all_some {a = p} h)) = all_some (lone_turn vs p x u h)
carried_turn {c} {a} {b} x y (between_effects apart z) = all_some (trade_turn c a b x y apart z)

-- an accepted step: the configuration read, the process named, and what is done to the ends
pub record Stepping (limits : Limits) (ws : List ℕ) (k : Numbers) (s : Stepped) : Type 0 where
  pub before : Config
  pub reads : read_config limits ws ≡ some before
  pub spot : Spot
  pub named : enabled_at before k.engine k.position ≡ some spot
  pub turn : Turn before s.config spot.process s.serial

pub step_turns : (limits : Limits) (ws : List ℕ) (k : Numbers) (room : ℕ) → Sure (Stepping limits ws k) (step limits ws k room)
unfolding step
step_turns limits ws k room =
    sure_then (sure_given unreadable (all_equal (read_config limits ws))) λ c r.
    sure_then (sure_given nobody_there (all_equal (enabled_at c k.engine k.position))) λ a e.
    let x : Standing c a = all_some_lem (enabled_standing c k.engine k.position) e in
    sure_then (sure_given no_move (movable_moves k (move_moves a.values a.frames a.process))) λ m h.
    sure_then (sure_given no_partner (partner_standing c k x m)) λ b y.
    sure_then (sure_given no_fit (effect_effects c k x b h)) λ o w.
    sure_then (sure_given _ w) λ f g.
    sure_then (sure_given installing (carried_turn x y g)) λ s t.
    sure_unless serials_spent (leb s.config.issued 65535) λ u1.
    sure_unless deep (leb (engines_depth s.config.engines) limits.deepest) λ u2.
    sure_unless long (leb (length (encode s.config)) limits.longest) λ u3.
    sure_unless short (leb (length (encode s.config)) room) λ u4.
    sure_done (record { before = c; reads = r; spot = a; named = e; turn = t })

-- ---- the serials issued

pub turn_issued : {c c' : Config} {p : Run} {serial : ℕ} → Turn c c' p serial → c'.issued ≡ c.issued + bit (is_solicit p)
turn_issued (quietly u e h) = rw u.asks (omega arith)
turn_issued (begins o client server a u k e f h) = rw u (omega arith)
turn_issued (ended s o client server u k e f h) = rw u (omega arith)

pub turn_latest : {c c' : Config} {p : Run} {serial : ℕ} → Turn c c' p serial → (n : ℕ) → n ≡ c.issued → cond (is_solicit p) serial n ≡ c'.issued
turn_latest (quietly u e h) n z = rw u.asks (omega arith)
turn_latest (begins o client server a u k e f h) n z = rw u (omega arith)
turn_latest (ended s o client server u k e f h) n z = rw u (omega arith)
