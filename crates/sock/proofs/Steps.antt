-- An accepted step's result is readable, for every configuration that is readable.
-- Assumes nothing.
use Prim.Native.Nat.{ℕ, zero, suc, ◌≤◌, ◌<◌}
use native.Mathlib.Omega.{arith}
use native.Mathlib.Nat.{le_refl}
use mathlib.Core.Path.{◌≡◌, refl, subst, sym, ◌∙◌}
use mathlib.Core.Bool.{Bool, true, false, not, ◌&&◌}
use mathlib.Core.Option.{Option, none, some}
use mathlib.Core.List.{List, []}
use lib.Dec.{T, leb, ltb, eqb, ltb→lt, leb→le}
use lib.ListN.{length, get_or, set, length-set}
use Rattle.sock.specs.Term.{Node, Entries}
use Rattle.sock.specs.Running.{Run, nil, seq, par, scope, executor, waiter, notice, act}
use Rattle.sock.specs.Configuration.{Limits, Engine, Config, encode, engines_depth, is_scope, read_config}
use Rattle.sock.specs.Frames.{Frame, is_done, plug}
use Rattle.sock.specs.Rules.{Message, notification, solicitation, reply, failure, Move, stuck, alone, unvalued, sends, move_of, acting, action, once_done, offer, Meeting, if_hears, if_serves, if_waits, awaited, Exchange, exchange}
use Rattle.sock.specs.Calls.{Refusal, unreadable, nobody_there, no_move, no_partner, no_fit, installing, serials_spent, deep, long, short, Result, refused, done, ◌>>=◌, ◌>>◌, ◌!◌, ◌unless◌, Numbers, Spot, engine_at, enabled_at, movable, partner, Effect, lone, between, meeting, effect, Stepped, with_engine, carried_out, step}
use Rattle.sock.proofs.Logic.{cond-case, test_false, All, all_none, all_some, all_also, all_guarded}
use Rattle.sock.proofs.Fits.{Sound, SoundFrames, no_frames, rootable, FitsEngine, FitsEngines, no_engines, one_engine, FitsConfig, Readable}
use Rattle.sock.proofs.Frames.{locate_sound, based, based_any, locate_based, plug_sound, plug_rootable}
use Rattle.sock.proofs.Rules.{Rootable, FitValues, FitsMove, stuck_fits, unvalued_fits, alone_fits, sends_fits, move_fits}
use Rattle.sock.proofs.Configuration.{config_found, config_finds}
use Rattle.sock.proofs.Exchange.{sound_later, frames_later, FitsExchange, exchange_fits}

-- ---- what holds of a result, if it is no refusal

pub data Sure {A : Type 0} (P : A → Type 0) : Result A → Type 0 where
  sure_refused : {r : Refusal} → Sure P (refused r)
  sure_done : {a : A} → P a → Sure P (done a)

pub sure_then : {A B : Type 0} {P : A → Type 0} {Q : B → Type 0} {r : Result A} {k : A → Result B} → Sure P r → ((a : A) → P a → Sure Q (k a)) → Sure Q (r >>= k)
unfolding ◌>>=◌
sure_then sure_refused f = sure_refused
sure_then (sure_done {a = a} h) f = f a h

pub sure_given : {A : Type 0} {P : A → Type 0} (r : Refusal) {o : Option A} → All P o → Sure P (r ! o)
unfolding ◌!◌
sure_given r all_none = sure_refused
sure_given r (all_some h) = sure_done h

pub sure_unless : {A : Type 0} {P : A → Type 0} (r : Refusal) (b : Bool) {k : Result A} → (T b → Sure P k) → Sure P (◌>>◌ (r unless b) k)
unfolding ◌unless◌ ◌>>◌
sure_unless r true f = f tt
sure_unless r false f = sure_refused

abbrev Done : {A : Type 0} → (A → Type 0) → Result A → Type 0
Done P (refused r) = Unit {0}
Done P (done a) = P a

done_sure : {A : Type 0} {P : A → Type 0} {r : Result A} → Sure P r → Done P r
done_sure sure_refused = tt
done_sure (sure_done h) = h

pub sure_done_lem : {A : Type 0} {P : A → Type 0} {r : Result A} {a : A} → Sure P r → r ≡ done a → P a
sure_done_lem {P = P} h e = subst (λ r. Done P r) e (done_sure h)

pub all_both : {A : Type 0} {P Q : A → Type 0} {o : Option A} → All P o → All Q o → All (λ a. P a × Q a) o
all_both all_none all_none = all_none
all_both (all_some p) (all_some q) = all_some (p, q)

config_all : (limits : Limits) (ws : List ℕ) → All (λ c. Readable limits c) (read_config limits ws)
config_all limits ws = by (read_config limits ws) refl
  where
    by : (o : Option Config) → read_config limits ws ≡ o → All (λ c. Readable limits c) o
    by none e = all_none
    by (some c) e = all_some (config_found limits ws c e).1

-- ---- engines

engine_fits : {n issued : ℕ} {es : List Engine} → FitsEngines n issued es → (e : ℕ) → e < length es → (d : Engine) → FitsEngine n issued (get_or es e d)
engine_fits no_engines e h d = absurd (omega arith)
engine_fits (one_engine g gs) zero h d = g
engine_fits (one_engine g gs) (suc e) h d = engine_fits gs e (omega arith) d

module _ {n n' issued issued' : ℕ} (w : n ≤ n') (h : issued ≤ issued') where
  pub engine_later : {e : Engine} → FitsEngine n issued e → FitsEngine n' issued' e
  engine_later g = record { counted = g.counted; bounded = g.bounded; sound = sound_later w h g.sound; placed = g.placed }

  pub engines_later : {es : List Engine} → FitsEngines n issued es → FitsEngines n' issued' es
  engines_later no_engines = no_engines
  engines_later (one_engine g gs) = one_engine (engine_later g) (engines_later gs)

engines_set : {n issued : ℕ} {es : List Engine} {x : Engine} → FitsEngines n issued es → (e : ℕ) → FitsEngine n issued x → FitsEngines n issued (set es e x)
engines_set no_engines e h = no_engines
engines_set (one_engine g gs) zero h = one_engine h gs
engines_set (one_engine g gs) (suc e) h = one_engine g (engines_set gs e h)

engine_of : {n issued : ℕ} {vs : List ℕ} {p : Run} → FitValues vs → Sound n issued p → Rootable p → FitsEngine n issued (record { values = vs; process = p })
engine_of v g t = record { counted = v.counted; bounded = v.bounded; sound = g; placed = t }

-- ---- where a process stands

pub record FitsSpot (c : Config) (a : Spot) : Type 0 where
  pub below : a.engine < length c.engines
  pub values : FitValues a.values
  pub frames : SoundFrames (length c.engines) c.issued a.frames
  pub process : Sound (length c.engines) c.issued a.process
  pub inside : T (based a.frames (rootable a.process))

pub enabled_fits : {c : Config} → FitsConfig c → (e p : ℕ) → All (FitsSpot c) (enabled_at c e p)
unfolding enabled_at
enabled_fits {c} g e p =
    all_guarded (ltb e (length c.engines)) λ t.
    let h : e < length c.engines = ltb→lt e (length c.engines) t in
    let x = engine_fits g.engines e h (record { values = []; process = nil }) in
    all_also (all_both (locate_sound x.sound p no_frames) (locate_based (engine_at c e).process p [] x.placed)) λ l y.
    all_some (record { below = h; values = record { counted = x.counted; bounded = x.bounded }; frames = y.0.frames; process = y.0.process; inside = y.1 })

-- ---- a process that sends or receives is neither nil nor a scope

abbrev Inner : Run → Move → Type 0
Inner p stuck = Unit {0}
Inner p (alone vs o) = Unit {0}
Inner p unvalued = Unit {0}
Inner p (sends m) = T (not (rootable p))

inner : (p : Run) (m : Move) → T (not (rootable p)) → Inner p m
inner p stuck t = tt
inner p (alone vs o) t = tt
inner p unvalued t = tt
inner p (sends m) t = t

sender_inner : (vs : List ℕ) (fs : List Frame) (p : Run) → Inner p (move_of vs fs p)
unfolding move_of once_done is_done is_scope
sender_inner vs fs nil = tt
sender_inner vs fs (seq p q) = tt
sender_inner vs fs (par p q) = tt
sender_inner vs fs (scope name mark zombie h p) = cond-case (λ m. Inner (scope name mark zombie h p) m) (is_done p) (λ t. tt) (λ t. tt)
sender_inner vs fs (executor o y client serial p) = cond-case (λ m. Inner (executor o y client serial p) m) (is_done p) (λ t. tt) (λ t. tt)
sender_inner vs fs (waiter o x dead server serial l) = tt
sender_inner vs fs (notice o f client serial) = tt
sender_inner vs fs (act p) = inner (act p) (acting vs fs p (action p)) tt

anyway : {A : Type 0} {Q : Type 0} (o : Option A) → Q → All (λ a. Q) o
anyway none q = all_none
anyway (some a) q = all_some q

-- neither nil nor a scope hears, serves or waits
module _ {A : Type 0} where
  hears_inner : (p : Run) (i : ℕ) (f : ℕ → List ℕ → Option A) → All (λ x. T (not (rootable p))) (if_hears (offer p i).receives f)
  unfolding offer if_hears is_done is_scope
  hears_inner nil i f = all_none
  hears_inner (seq p q) i f = all_none
  hears_inner (par p q) i f = all_none
  hears_inner (scope name mark zombie h p) i f = all_none
  hears_inner (executor o y client serial p) i f = all_none
  hears_inner (waiter o x dead server serial l) i f = all_none
  hears_inner (notice o f client serial) i g = all_none
  hears_inner (act p) i f = anyway (if_hears (offer (act p) i).receives f) tt

  serves_inner : (p : Run) (i : ℕ) (f : ℕ → List ℕ → List ℕ → Node → Option A) → All (λ x. T (not (rootable p))) (if_serves (offer p i).receives f)
  unfolding offer if_serves is_done is_scope
  serves_inner nil i f = all_none
  serves_inner (seq p q) i f = all_none
  serves_inner (par p q) i f = all_none
  serves_inner (scope name mark zombie h p) i f = all_none
  serves_inner (executor o y client serial p) i f = all_none
  serves_inner (waiter o x dead server serial l) i f = all_none
  serves_inner (notice o f client serial) i g = all_none
  serves_inner (act p) i f = anyway (if_serves (offer (act p) i).receives f) tt

  waits_inner : (p : Run) (f : ℕ → List ℕ → Bool → ℕ → ℕ → Entries → Option A) → All (λ x. T (not (rootable p))) (if_waits p f)
  unfolding if_waits is_done is_scope
  waits_inner nil f = all_none
  waits_inner (seq p q) f = all_none
  waits_inner (par p q) f = all_none
  waits_inner (scope name mark zombie h p) f = all_none
  waits_inner (executor o y client serial p) f = all_none
  waits_inner (waiter o x dead server serial l) f = anyway (f o x dead server serial l) tt
  waits_inner (notice o f client serial) g = all_none
  waits_inner (act p) f = all_none

receiver_inner : (k : Meeting) (m : Message) → All (λ x. T (not (rootable k.process))) (exchange k m)
unfolding exchange awaited
receiver_inner k (notification o v z) = all_guarded (eqb z k.receiver) λ t. hears_inner k.process k.branch _
receiver_inner k (solicitation o v z x l) = all_guarded (eqb z k.receiver) λ t. serves_inner k.process k.branch _
receiver_inner k (reply o v client serial) = waits_inner k.process _
receiver_inner k (failure o f client serial) = waits_inner k.process _

-- ---- the effect of a rule, and the configuration afterwards

data FitsEffect (c : Config) (a b : Spot) : Effect → Type 0 where
  lone_fits : {vs : List ℕ} {o : Option Run} → FitValues vs → All (Sound (length c.engines) c.issued) o → All Rootable o → FitsEffect c a b (lone vs o)
  between_fits :
      {x : Exchange} →
      FitsExchange (length c.engines) c.issued x →
      T (not (rootable a.process)) →
      T (not (rootable b.process)) →
      FitsEffect c a b (between x)

movable_fits : {n issued : ℕ} (k : Numbers) {m : Move} (p : Run) → FitsMove n issued m → Inner p m → All (λ m. FitsMove n issued m × Inner p m) (movable k m)
unfolding movable
movable_fits k p stuck_fits t = all_none
movable_fits k p (alone_fits v g r) t =
    all_guarded (eqb k.second 0 && eqb k.second_position 0 && eqb k.branch 0) λ u. all_some (alone_fits v g r, t)
movable_fits k p unvalued_fits t =
    all_guarded (eqb k.second 0 && eqb k.second_position 0 && eqb k.branch 0) λ u. all_some (unvalued_fits, t)
movable_fits k p (sends_fits g) t = all_some (sends_fits g, t)

module _ {c : Config} (g : FitsConfig c) (k : Numbers) {a : Spot} (x : FitsSpot c a) where
  partner_fits : (m : Move) → All (FitsSpot c) (partner c k a m)
  unfolding partner
  partner_fits stuck = all_none
  partner_fits (alone vs p) = all_some x
  partner_fits unvalued = all_some x
  partner_fits (sends m) = enabled_fits g k.second k.second_position

  effect_fits : {b : Spot} → FitsSpot c b → {m : Move} → FitsMove (length c.engines) c.issued m → Inner a.process m → All (All (FitsEffect c a b)) (effect c k a b m)
  unfolding effect
  effect_fits y stuck_fits t = all_none
  effect_fits y (alone_fits v s r) t = all_some (all_some (lone_fits v s r))
  effect_fits y unvalued_fits t = all_some all_none
  effect_fits {b} y (sends_fits {m = m} f) t =
      all_guarded (not (eqb a.engine b.engine)) λ u.
      all_also (all_both (exchange_fits (meeting c k a b) y.values x.below y.below y.process f) (receiver_inner (meeting c k a b) m)) λ e z.
      all_some (all_some (between_fits z.0 t z.1))

-- all that fits but the count of serials, which is looked at next
record Next (c : Config) : Type 0 where
  some : zero < length c.engines
  few : length c.engines ≤ 8
  engines : FitsEngines (length c.engines) c.issued c.engines

next_of :
    {n issued : ℕ} {es : List Engine} →
    length es ≡ n → zero < n → n ≤ 8 →
    FitsEngines n issued es →
    Next (record { issued = issued; engines = es })
next_of {n} {issued} {es} e h k g =
    record { some = rw e h; few = rw e k; engines = subst (λ n. FitsEngines n issued es) (sym e) g }

-- what is put where a process stood that is neither nil nor a scope
put_fits :
    {c : Config} {a : Spot} {issued : ℕ} {vs : List ℕ} {p : Run} →
    FitsSpot c a →
    c.issued ≤ issued →
    T (not (rootable a.process)) →
    FitValues vs →
    Sound (length c.engines) issued p →
    FitsEngine (length c.engines) issued (record { values = vs; process = plug a.frames p })
put_fits {c} {a} {p = p} x h t v g =
    engine_of v (plug_sound (frames_later (le_refl (length c.engines)) h x.frames) g)
    (plug_rootable a.frames p (based_any a.frames (rootable p) (subst (λ b. T (based a.frames b)) (test_false (rootable a.process) t) x.inside)))

abbrev NextOf : Stepped → Type 0
NextOf s = Next s.config

carried_fits : {c : Config} → FitsConfig c → {a b : Spot} → FitsSpot c a → FitsSpot c b → {e : Effect} → FitsEffect c a b e → All NextOf (carried_out c a b e)
unfolding carried_out
carried_fits g x y (lone_fits v all_none r) = all_none
carried_fits {c} g {a} x y (lone_fits {vs = vs} v (all_some {a = p} s) (all_some r)) =
    all_some
    (next_of (length-set c.engines a.engine (record { values = vs; process = p })) g.some g.few
    (engines_set g.engines a.engine (engine_of v s r)))
carried_fits {c} g {a} {b} x y (between_fits {x = e} f t u) =
    all_some
    (next_of
    (length-set (with_engine a.engine a.values (plug a.frames e.sender) c.engines) b.engine (record { values = e.values; process = plug b.frames e.receiver })
    ∙ length-set c.engines a.engine (record { values = a.values; process = plug a.frames e.sender }))
    g.some g.few
    (engines_set
    (engines_set (engines_later (le_refl (length c.engines)) f.later g.engines) a.engine (put_fits x f.later t x.values f.sender))
    b.engine
    (put_fits y f.later u f.values f.receiver)))

-- ---- the step

pub step_fits : (limits : Limits) (ws : List ℕ) (k : Numbers) (room : ℕ) → Sure (λ s. Readable limits s.config) (step limits ws k room)
unfolding step
step_fits limits ws k room =
    sure_then (sure_given unreadable (config_all limits ws)) λ c g'.
    let g : FitsConfig c = g'.fitting in
    sure_then (sure_given nobody_there (enabled_fits g k.engine k.position)) λ a x.
    sure_then (sure_given no_move (movable_fits k a.process (move_fits x.values x.frames x.process x.inside) (sender_inner a.values a.frames a.process))) λ m y.
    sure_then (sure_given no_partner (partner_fits g k x m)) λ b z.
    sure_then (sure_given no_fit (effect_fits g k x z y.0 y.1)) λ o w.
    sure_then (sure_given _ w) λ e f.
    sure_then (sure_given installing (carried_fits g x z f)) λ s n.
    sure_unless serials_spent (leb s.config.issued 65535) λ i.
    sure_unless deep (leb (engines_depth s.config.engines) limits.deepest) λ d.
    sure_unless long (leb (length (encode s.config)) limits.longest) λ l.
    sure_unless short (leb (length (encode s.config)) room) λ r.
    sure_done
    (record {
      fitting = record { some = n.some; few = n.few; word = let q : s.config.issued ≤ 65535 = leb→le s.config.issued 65535 i in omega arith; engines = n.engines };
      shallow = leb→le (engines_depth s.config.engines) limits.deepest d;
      short = leb→le (length (encode s.config)) limits.longest l;
    })

-- An accepted step's result is readable, and is what is read from its words
pub step_readable : (limits : Limits) (ws : List ℕ) (k : Numbers) (room : ℕ) (s : Stepped) → step limits ws k room ≡ done s → read_config limits (encode s.config) ≡ some s.config
step_readable limits ws k room s e = config_finds limits s.config (sure_done_lem (step_fits limits ws k room) e)
