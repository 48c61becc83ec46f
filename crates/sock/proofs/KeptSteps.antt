-- What every rule keeps (Kept), along a step. The test of the ends has a parameter that a solicit renews for its serial.
-- Assumes nothing.
use Prim.Native.Nat.{ℕ, zero, suc, ◌≤◌}
use mathlib.Core.Path.{◌≡◌, subst}
use mathlib.Core.Option.{some}
use mathlib.Core.List.{List, [], ◌∷◌}
use lib.Dec.{leb, ltb}
use lib.ListN.{length, get_or, set}
use Rattle.sock.specs.Term.{Node, Entries}
use Rattle.sock.specs.Running.{Run, nil}
use Rattle.sock.specs.Configuration.{Limits, Engine, Config, encode, engines_depth, read_config}
use Rattle.sock.specs.Frames.{Frame, plug}
use Rattle.sock.specs.Rules.{Move, stuck, alone, unvalued, sends}
use Rattle.sock.specs.Calls.{unreadable, nobody_there, no_move, no_partner, no_fit, installing, serials_spent, deep, long, short, Numbers, Spot, enabled_at, partner, Effect, carried_out, step}
use Rattle.sock.proofs.Logic.{All, all_none, all_some, all_also, all_guarded}
use Rattle.sock.proofs.Located.{all_equal}
use Rattle.sock.proofs.Fits.{Sound, nil_sound, seq_sound, par_sound, scope_sound, executor_sound, waiter_sound, notice_sound, act_sound, seq_frame_sound, left_frame_sound, right_frame_sound, scope_frame_sound, executor_frame_sound, SoundFrames, no_frames, one_frame, FitsEngines, no_engines, one_engine, FitsConfig}
use Rattle.sock.proofs.Fields.{end_tests}
use Rattle.sock.proofs.Configuration.{config_found}
use Rattle.sock.proofs.Steps.{Sure, sure_done, sure_then, sure_given, sure_unless, all_both, FitsSpot, enabled_fits}
use Rattle.sock.proofs.Kept.{Closed, Kept, nil_kept, seq_kept, par_kept, scope_kept, executor_kept, waiter_kept, notice_kept, act_kept, KeptFrames, no_frames_kept, seq_frame_kept, left_frame_kept, right_frame_kept, scope_frame_kept, executor_frame_kept, enable_kept, plug_kept, followed_kept, locate_kept, move_kept, movable_kept, KeptExchange, no_ends, two_ends, KeptEffects, lone_kept, between_kept, effect_kept}

abbrev pub no_engine : Engine
no_engine = record { values = []; process = nil }

-- what stands keeps its ends' test, renewed for later serials
module _ {N : Node → Type 0} {L : Entries → Type 0} {n issued : ℕ} {E E' : ℕ → List ℕ → Type 0} (e : (s : ℕ) (y : List ℕ) → s ≤ issued → E s y → E' s y) where
  renewed : {r : Run} → Sound n issued r → Kept N L E r → Kept N L E' r
  renewed nil_sound nil_kept = nil_kept
  renewed (seq_sound a t q) (seq_kept g m) = seq_kept (renewed a g) m
  renewed (par_sound a t b u) (par_kept g h) = par_kept (renewed a g) (renewed b h)
  renewed (scope_sound b m h a) (scope_kept l g) = scope_kept l (renewed a g)
  renewed (executor_sound {y = y} {client = client} {serial = serial} bo by end a) (executor_kept q g) =
      executor_kept (e serial y (end_tests n issued client serial end).given q) (renewed a g)
  renewed (waiter_sound {x = x} {server = server} {serial = serial} bo bx end fl) (waiter_kept q l) =
      waiter_kept (e serial x (end_tests n issued server serial end).given q) l
  renewed (notice_sound bo bf end) (notice_kept b) = notice_kept b
  renewed (act_sound i f) (act_kept m) = act_kept m

  renewed_frames : {fs : List Frame} → SoundFrames n issued fs → KeptFrames N L E fs → KeptFrames N L E' fs
  renewed_frames no_frames no_frames_kept = no_frames_kept
  renewed_frames (one_frame (seq_frame_sound q) fs) (seq_frame_kept m k) = seq_frame_kept m (renewed_frames fs k)
  renewed_frames (one_frame (left_frame_sound b t) fs) (left_frame_kept g k) = left_frame_kept (renewed b g) (renewed_frames fs k)
  renewed_frames (one_frame (right_frame_sound b t) fs) (right_frame_kept g k) = right_frame_kept (renewed b g) (renewed_frames fs k)
  renewed_frames (one_frame (scope_frame_sound b m h) fs) (scope_frame_kept l k) = scope_frame_kept l (renewed_frames fs k)
  renewed_frames (one_frame (executor_frame_sound {y = y} {client = client} {serial = serial} bo by end) fs) (executor_frame_kept q k) =
      executor_frame_kept (e serial y (end_tests n issued client serial end).given q) (renewed_frames fs k)

  renewed_engines :
      {es : List Engine} → FitsEngines n issued es →
      ((i : ℕ) → Kept N L E (get_or es i no_engine).process) → (i : ℕ) → Kept N L E' (get_or es i no_engine).process
  renewed_engines no_engines g i = nil_kept
  renewed_engines (one_engine f fs) g zero = renewed f.sound (g zero)
  renewed_engines (one_engine f fs) g (suc i) = renewed_engines fs (λ i. g (suc i)) i

-- the parameter after a solicit, whose waiter receives in x and whose executor replies from y
pub record Renewed {I : Type 0} (E : I → ℕ → List ℕ → Type 0) (i : I) (issued : ℕ) (x y : List ℕ) : Type 0 where
  pub next : I
  pub old : (s : ℕ) (v : List ℕ) → s ≤ issued → E i s v → E next s v
  pub receives : E next (suc issued) x
  pub sends : E next (suc issued) y

module _
    {N : Node → Type 0} {L : Entries → Type 0} {X : List ℕ → Type 0} (closed : Closed N L X) {I : Type 0} (E : I → ℕ → List ℕ → Type 0)
    (renew : (i : I) (issued : ℕ) (x y : List ℕ) → X x → X y → length y ≡ length x → Renewed E i issued x y)
  where
    abbrev KeptEngines : I → List Engine → Type 0
    KeptEngines i es = (e : ℕ) → Kept N L (E i) (get_or es e no_engine).process

    pub record KeptConfig (c : Config) : Type 0 where
      pub index : I
      pub engines : KeptEngines index c.engines

    set_kept : (i : I) (es : List Engine) (e : ℕ) (x : Engine) → KeptEngines i es → Kept N L (E i) x.process → KeptEngines i (set es e x)
    set_kept i [] e x g h j = g j
    set_kept i (y ∷ es) zero x g h zero = h
    set_kept i (y ∷ es) zero x g h (suc j) = g (suc j)
    set_kept i (y ∷ es) (suc e) x g h zero = g zero
    set_kept i (y ∷ es) (suc e) x g h (suc j) = set_kept i es e x (λ j. g (suc j)) h j

    -- where a process stands
    pub record KeptSpot (i : I) (a : Spot) : Type 0 where
      pub frames : KeptFrames N L (E i) a.frames
      pub process : Kept N L (E i) a.process

    pub enabled_kept : {c : Config} (w : KeptConfig c) (e p : ℕ) → All (KeptSpot w.index) (enabled_at c e p)
    unfolding enabled_at
    enabled_kept {c} w e p =
        all_guarded (ltb e (length c.engines)) λ t.
        all_also (locate_kept closed (E w.index) p no_frames_kept (w.engines e)) λ l y. all_some (record { frames = y.frames; process = y.process })

    -- what an exchange leaves, with the parameter then
    record After (i : I) (issued : ℕ) (p q : Run) : Type 0 where
      next : I
      old : (s : ℕ) (v : List ℕ) → s ≤ issued → E i s v → E next s v
      sender : Kept N L (E next) p
      receiver : Kept N L (E next) q

    after : (i : I) {issued : ℕ} {p q : Run} → KeptExchange closed (E i) issued p q → After i issued p q
    after i (no_ends g h) = record { next = i; old = λ s v b q. q; sender = g; receiver = h }
    after i {issued} (two_ends o a b x y l p next hx hy same hl hp hn) =
        let r : Renewed E i issued x y = renew i issued x y hx hy same in
        record {
          next = r.next;
          old = r.old;
          sender = waiter_kept r.receives hl;
          receiver = followed_kept closed (E r.next) (executor_kept r.sends (enable_kept closed (E r.next) hp)) hn;
        }

    module _ {c : Config} (g : FitsConfig c) (w : KeptConfig c) where
      abbrev Standing : Spot → Type 0
      Standing a = FitsSpot c a × KeptSpot w.index a

      enabled_both : (e p : ℕ) → All Standing (enabled_at c e p)
      enabled_both e p = all_both (enabled_fits g e p) (enabled_kept w e p)

      partner_both : (k : Numbers) {a : Spot} → Standing a → (m : Move) → All Standing (partner c k a m)
      unfolding partner
      partner_both k x stuck = all_none
      partner_both k x (alone vs o) = all_some x
      partner_both k x unvalued = all_some x
      partner_both k x (sends m) = enabled_both k.second k.second_position

      carried_kept :
          {a b : Spot} → Standing a → Standing b → {e : Effect} → KeptEffects closed (E w.index) c e →
          All (λ s. KeptConfig s.config) (carried_out c a b e)
      unfolding carried_out
      carried_kept x y (lone_kept all_none) = all_none
      carried_kept {a} x y (lone_kept {vs = vs} (all_some {a = p} h)) =
          all_some (record { index = w.index; engines = set_kept w.index c.engines a.engine (record { values = vs; process = p }) w.engines h })
      carried_kept {a} {b} x y (between_kept {x = z} h) =
          let r : After w.index c.issued z.sender z.receiver = after w.index h in
          let j : I = r.next in
          let sent = plug_kept closed (E j) (renewed_frames r.old x.0.frames x.1.frames) r.sender in
          let taken = plug_kept closed (E j) (renewed_frames r.old y.0.frames y.1.frames) r.receiver in
          let x' : Engine = record { values = a.values; process = plug a.frames z.sender } in
          let y' : Engine = record { values = z.values; process = plug b.frames z.receiver } in
          let one : KeptEngines j (set c.engines a.engine x') =
          set_kept j c.engines a.engine x' (renewed_engines r.old g.engines w.engines) sent in
          all_some (record { index = j; engines = set_kept j (set c.engines a.engine x') b.engine y' one taken })

    pub step_kept :
        (limits : Limits) (ws : List ℕ) (k : Numbers) (room : ℕ) {c : Config} →
        read_config limits ws ≡ some c →
        KeptConfig c →
        Sure (λ s. KeptConfig s.config) (step limits ws k room)
    unfolding step
    step_kept limits ws k room {c} r w =
        sure_then (sure_given unreadable (all_equal (read_config limits ws))) λ c' r'.
        let same : c ≡ c' = cc in
        let g : FitsConfig c' = (config_found limits ws c' r').1.fitting in
        let v : KeptConfig c' = subst KeptConfig same w in
        sure_then (sure_given nobody_there (enabled_both g v k.engine k.position)) λ a x.
        sure_then (sure_given no_move (movable_kept closed (E v.index) k (move_kept closed (E v.index) a.values x.1.frames x.1.process))) λ m h.
        sure_then (sure_given no_partner (partner_both g v k x m)) λ b y.
        sure_then (sure_given no_fit (effect_kept closed (E v.index) c' k a b y.1.process h)) λ o z.
        sure_then (sure_given _ z) λ e f.
        sure_then (sure_given installing (carried_kept g v x y f)) λ s u.
        sure_unless serials_spent (leb s.config.issued 65535) λ u1.
        sure_unless deep (leb (engines_depth s.config.engines) limits.deepest) λ u2.
        sure_unless long (leb (length (encode s.config)) limits.longest) λ u3.
        sure_unless short (leb (length (encode s.config)) room) λ u4.
        sure_done u
