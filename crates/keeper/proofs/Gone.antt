-- A serial that has no waiter left, or no executor and no notice, is never delivered again: the position is lost within any number of moves. And a
-- delivery is the one that runs speak of.
-- Assumes nothing.
use Prim.Native.Nat.{ℕ, zero, suc, ◌≤◌, ◌<◌}
use native.Mathlib.Omega.{arith}
use native.Mathlib.Decide.{ℕ_discrete}
use mathlib.Core.Path.{◌≡◌, refl, sym, subst, ap, ◌∙◌}
use mathlib.Core.Bool.{Bool, true, false, ◌&&◌, ◌||◌}
use mathlib.Core.Option.{Option, none, some}
use mathlib.Core.Logic.{◌⊎◌, inl, inr}
use mathlib.Core.List.{List, [], ◌∷◌}
use borrow.Author.Tests.{eq-eqb, ne_eqb}
use lib.Dec.{T, leb, ltb, eqb, leb→le}
use Rattle.sock.specs.Kind
use Rattle.sock.specs.Words.{bit}
use Rattle.sock.specs.Term.{kind}
use Rattle.sock.specs.Running.{Run, nil, seq, par, scope, executor, waiter, notice, act, as_node}
use Rattle.sock.specs.Configuration.{standard, Config, Engine, encode, read_config}
use Rattle.sock.specs.Rules.{also}
use Rattle.sock.specs.Calls.{Numbers, Spot, engine_at, enabled_at, done, Stepped, End, waiting, working, waits, works, tally, tally_all, ◌>>=◌, ◌>>◌, ◌!◌, ◌unless◌, known, counted, ends}
use Rattle.sock.specs.Runs.{call, named, of_spot, carries, same}
use Rattle.sock.proofs.Ledger.{waiting_same, working_same}
use Rattle.sock.proofs.Logic.{and_right, all_some_lem, true_test}
use Rattle.sock.proofs.Fits.{Sound, nil_sound, seq_sound, par_sound, scope_sound, executor_sound, waiter_sound, notice_sound, act_sound}
use Rattle.sock.proofs.ByKind.{run_kind, kind_as_node, code_kind}
use Rattle.sock.proofs.Steps.{sure_done_lem, enabled_fits, step_readable}
use Rattle.sock.proofs.Configuration.{config_found}
use Rattle.sock.proofs.Taken.{Taken, taken_alone, taken_between, Accepts, step_accepts}
use Rattle.sock.proofs.Turns.{here, here_same, here_zero, share, ends_at, ends_in, Turn, quietly, begins, ended, Stepping, step_turns}
use Rattle.keeper.specs.Game.{Side, moved, delivers, won, forces}
use Rattle.keeper.proofs.Losing.{across, lose}

-- ---- what delivers

-- an executor or a notice, by its kind
abbrev delivering : ℕ → Bool
delivering k = eqb k Kind.executor || eqb k Kind.notice

carrying_kind : {n issued : ℕ} {p : Run} → Sound n issued p → (s : ℕ) → carries s p ≡ true → delivering (run_kind p) ≡ true
unfolding carries works
carrying_kind nil_sound s e = e
carrying_kind (seq_sound a d q) s e = e
carrying_kind (par_sound a d b d') s e = e
carrying_kind (scope_sound b m h a) s e = e
carrying_kind (executor_sound bo by f a) s e = refl
carrying_kind (waiter_sound bo bx f l) s e = e
carrying_kind (notice_sound bo bf f) s e = refl
carrying_kind (act_sound i f) s e = absurd (subst T (sym e) tt)

quiet_kind : {n issued : ℕ} {p : Run} → Sound n issued p → ((s : ℕ) → carries s p ≡ false) → delivering (run_kind p) ≡ false
unfolding carries works
quiet_kind nil_sound h = refl
quiet_kind (seq_sound a d q) h = refl
quiet_kind (par_sound a d b d') h = refl
quiet_kind (scope_sound b m l a) h = refl
quiet_kind (executor_sound {serial = s} bo by f a) h = absurd (subst T (sym (eq-eqb s s refl) ∙ h s) tt)
quiet_kind (waiter_sound bo bx f l) h = refl
quiet_kind (notice_sound {serial = s} bo bf f) h = absurd (subst T (sym (eq-eqb s s refl) ∙ h s) tt)
quiet_kind (act_sound {p} i f) h =
    let b : kind p < 15 = code_kind f in
    rw (ne_eqb (kind p) 16 (λ e. omega arith), ne_eqb (kind p) 18 (λ e. omega arith))

eqb_swap : (a b : ℕ) → eqb a b ≡ eqb b a
eqb_swap a b = by (ℕ_discrete a b)
  where
    by : Dec (a ≡ b) → eqb a b ≡ eqb b a
    by (yes e) = eq-eqb a b e ∙ sym (eq-eqb b a (sym e))
    by (no e) = ne_eqb a b e ∙ sym (ne_eqb b a (λ q. e (sym q)))

turn_delivers :
    {c : Config} {p : Run} {n issued : ℕ} (s : ℕ) (x : Stepped) → x.kind ≡ kind (as_node p) → Sound n issued p → Turn c x.config p x.serial → delivers s x ≡ carries s p
unfolding delivers
turn_delivers {p = p} s x e g (quietly u i h) = rw (ap delivering (e ∙ kind_as_node g) ∙ quiet_kind g u.delivers) (sym (u.delivers s))
turn_delivers {p = p} s x e g (begins o client server a u k i f h) = rw (ap delivering (e ∙ kind_as_node g) ∙ quiet_kind g k) (sym (k s))
turn_delivers {p = p} s x e g (ended m o client server u k i f h) =
    rw (ap delivering (e ∙ kind_as_node g) ∙ carrying_kind g m (k m ∙ eq-eqb m m refl)) (ap (λ (n : ℕ). eqb n s) f ∙ eqb_swap m s ∙ sym (k s))

pub taken_kind : {c : Config} {k : Numbers} {s : Stepped} {a : Spot} → Taken c k s → enabled_at c k.engine k.position ≡ some a → s.kind ≡ kind (as_node a.process)
taken_kind {a = a} (taken_alone b vs p at e t) named = let same : b ≡ a = cc in ap (λ (a : Spot). kind (as_node a.process)) same
taken_kind {a = a} (taken_between b b' m x at e meets t q) named = let same : b ≡ a = cc in ap (λ (a : Spot). kind (as_node a.process)) same

-- the turn that a move is, with the process that it names
pub record Turning (ws : List ℕ) (k : Numbers) (x : Stepped) : Type 0 where
  pub before : Config
  pub reads : read_config standard ws ≡ some before
  pub spot : Spot
  pub named : enabled_at before k.engine k.position ≡ some spot
  pub turn : Turn before x.config spot.process x.serial
  pub delivers : (s : ℕ) → delivers s x ≡ carries s spot.process

pub turning : (ws : List ℕ) (k : Numbers) (x : Stepped) → moved ws k ≡ done x → Turning ws k x
unfolding moved
turning ws k x d =
    let y : Stepping standard ws k x = sure_done_lem (step_turns standard ws k 8192) d in
    let z : Accepts standard ws k 8192 x = sure_done_lem (step_accepts standard ws k 8192) d in
    let same : z.config ≡ y.before = cc in
    let taken : Taken y.before k x = subst (λ (c : Config). Taken c k x) same z.taken in
    let sound = (all_some_lem (enabled_fits (config_found standard ws y.before y.reads).1.fitting k.engine k.position) y.named).process in
    record {
      before = y.before;
      reads = y.reads;
      spot = y.spot;
      named = y.named;
      turn = y.turn;
      delivers = λ s. turn_delivers s x (taken_kind taken y.named) sound y.turn;
    }

-- A move delivers a serial just where demand 3 says so: the process that it names carries it
pub delivers_carries : (ws : List ℕ) (k : Numbers) (x : Stepped) (s : ℕ) → moved ws k ≡ done x → delivers s x ≡ of_spot (carries s) (named standard ws (call k [] none))
unfolding named of_spot also
delivers_carries ws k x s d = let y : Turning ws k x = turning ws k x d in y.delivers s ∙ rw (y.reads, y.named)

-- ---- ends of which no two name each other

won_later : (s : ℕ) (rest : List ℕ → Bool) (x : Stepped) → delivers s x ≡ false → won s rest x ≡ rest (encode x.config)
unfolding won
won_later s rest x e = rw e

readable_next : (ws : List ℕ) (k : Numbers) (x : Stepped) → moved ws k ≡ done x → read_config standard (encode x.config) ≡ some x.config
unfolding moved
readable_next ws k x d = step_readable standard ws k 8192 x d

-- The serial is issued, and no working end and no waiter of it name each other
pub record Apart (s : ℕ) (c : Config) : Type 0 where
  pub issued : s ≤ c.issued
  pub none : (o i j : ℕ) → 0 < ends_at (same (working s o j)) c i → 0 < ends_at (same (waiting s o i)) c j → ⊥

abbrev serial_of : End → ℕ
serial_of (waiting n o g) = n
serial_of (working n o g) = n

same_itself : (x : End) → bit (same x x) ≡ 1
same_itself (waiting n o g) = waiting_same n o g
same_itself (working n o g) = working_same n o g

module _ (s : ℕ) where
  -- ends of another serial are not such
  no_share : (x : End) → serial_of x ≡ s → (i n o client server : ℕ) → (n ≡ s → ⊥) → share (same x) i n o client server ≡ 0
  unfolding same
  no_share (waiting m p g) e i n o client server d =
      let f : eqb m n ≡ false = ne_eqb m n (λ q. d (sym q ∙ e)) in
      rw f (omega (arith, here_zero i client, here_zero i server))
  no_share (working m p g) e i n o client server d =
      let f : eqb m n ≡ false = ne_eqb m n (λ q. d (sym q ∙ e)) in
      rw f (omega (arith, here_zero i client, here_zero i server))

  -- those of a call that ends are
  working_share : (o client server : ℕ) → 0 < share (same (working s o client)) server s o client server
  unfolding same
  working_share o client server =
      let a : here server server (bit (same (working s o client) (working s o client))) ≡ 1 = here_same server server _ refl ∙ same_itself (working s o client) in
      omega arith

  waiting_share : (o client server : ℕ) → 0 < share (same (waiting s o server)) client s o client server
  unfolding same
  waiting_share o client server =
      let a : here client client (bit (same (waiting s o server) (waiting s o server))) ≡ 1 = here_same client client _ refl ∙ same_itself (waiting s o server) in
      omega arith

  apart_turns : {c c' : Config} {p : Run} {serial : ℕ} → Turn c c' p serial → Apart s c → Apart s c' × (carries s p ≡ false)
  apart_turns (quietly u i h) g = (record { issued = omega (arith, i, g.issued); none = λ o k l a b. g.none o k l (omega (arith, h k (same (working s o l)), a)) (omega (arith, h l (same (waiting s o k)), b)) }, u.delivers s)
  apart_turns {c} (begins o client server a u k i f h) g = (
    record {
      issued = omega (arith, i, g.issued);
      none = λ p m l x y.
          g.none p m l
          (omega (arith, h m (same (working s p l)), no_share (working s p l) refl m (suc c.issued) o client server (λ q. omega (arith, q, g.issued)), x))
          (omega (arith, h l (same (waiting s p m)), no_share (waiting s p m) refl l (suc c.issued) o client server (λ q. omega (arith, q, g.issued)), y));
    },
    k s,
  )
  apart_turns {c} {c'} (ended m o client server u k i f h) g = (
    record {
      issued = omega (arith, i, g.issued);
      none = λ p n l x y. g.none p n l (omega (arith, h n (same (working s p l)), x)) (omega (arith, h l (same (waiting s p n)), y));
    },
    k s ∙ ne_eqb s m (λ q. other (sym q)),
  )
    where
      other : m ≡ s → ⊥
      other q =
          let one : share (same (working s o client)) server m o client server ≡ share (same (working s o client)) server s o client server = ap (λ (n : ℕ). share (same (working s o client)) server n o client server) q in
          let two : share (same (waiting s o server)) client m o client server ≡ share (same (waiting s o server)) client s o client server = ap (λ (n : ℕ). share (same (waiting s o server)) client n o client server) q in
          g.none o server client
          (omega (arith, h server (same (working s o client)), one, working_share o client server))
          (omega (arith, h client (same (waiting s o server)), two, waiting_share o client server))

  -- a move loses if what it leaves loses
  apart_loses :
      (rest : List ℕ → Bool) → ((us : List ℕ) (c : Config) → read_config standard us ≡ some c → Apart s c → rest us ≡ false) → (ws : List ℕ) (c : Config) → read_config standard ws ≡ some c → Apart s c →
      (k : Numbers) (x : Stepped) → moved ws k ≡ done x → won s rest x ≡ false
  apart_loses rest lost ws c r g k x d =
      let y : Turning ws k x = turning ws k x d in
      let same : y.before ≡ c = cc in
      let (g', quiet) = apart_turns y.turn (subst (Apart s) (sym same) g) in
      won_later s rest x (y.delivers s ∙ quiet) ∙ lost (encode x.config) x.config (readable_next ws k x d) g'

  -- lost within any number of moves
  pub apart_lost : (engines n : ℕ) (side : Side) (ws : List ℕ) (c : Config) → read_config standard ws ≡ some c → Apart s c → forces engines s n side ws ≡ false
  unfolding forces
  apart_lost engines zero side ws c r g = refl
  apart_lost engines (suc n) side ws c r g =
      lose engines s n side ws
      (apart_loses (forces engines s n (across side)) (λ us c' r' g'. apart_lost engines n (across side) us c' r' g') ws c r g)
      (apart_lost engines n (across side) ws c r g)

-- ---- by the counts of the call ends

-- ends that pass a test pass each that is weaker
fewer : (t u : End → Bool) → ((x : End) → bit (t x) ≤ bit (u x)) → (r : Run) → tally t r ≤ tally u r
unfolding tally
fewer t u h nil = omega arith
fewer t u h (seq p q) = fewer t u h p
fewer t u h (par p q) = omega (arith, fewer t u h p, fewer t u h q)
fewer t u h (scope name mark zombie l p) = fewer t u h p
fewer t u h (executor o y client serial p) = omega (arith, h (working serial o client), fewer t u h p)
fewer t u h (waiter o x dead server serial l) = h (waiting serial o server)
fewer t u h (notice o f client serial) = h (working serial o client)
fewer t u h (act p) = omega arith

bit_and : (a b : Bool) → bit (a && b) ≤ bit a
bit_and true true = omega arith
bit_and true false = omega arith
bit_and false b = omega arith

waits_same : (s o g : ℕ) (x : End) → bit (same (waiting s o g) x) ≤ bit (waits s x)
unfolding same waits
waits_same s o g (waiting n p f) = omega (arith, bit_and (eqb s n && eqb o p) (eqb g f), bit_and (eqb s n) (eqb o p))
waits_same s o g (working n p f) = omega arith

works_same : (s o g : ℕ) (x : End) → bit (same (working s o g) x) ≤ bit (works s x)
unfolding same works
works_same s o g (waiting n p f) = omega arith
works_same s o g (working n p f) = omega (arith, bit_and (eqb s n && eqb o p) (eqb g f), bit_and (eqb s n) (eqb o p))

all_zero : (t : End → Bool) (es : List Engine) → tally_all t es ≡ 0 → (i : ℕ) → ends_in t es i ≡ 0
unfolding tally_all tally
all_zero t [] e i = refl
all_zero t (x ∷ es) e zero = omega arith
all_zero t (x ∷ es) e (suc i) = all_zero t es (omega arith) i

no_waiter : (s : ℕ) (c : Config) → s ≤ c.issued → tally_all (waits s) c.engines ≡ 0 → Apart s c
no_waiter s c u e =
    record { issued = u; none = λ o i j a b. omega (arith, b, fewer (same (waiting s o i)) (waits s) (waits_same s o i) (engine_at c j).process, all_zero (waits s) c.engines e j) }

no_worker : (s : ℕ) (c : Config) → s ≤ c.issued → tally_all (works s) c.engines ≡ 0 → Apart s c
no_worker s c u e =
    record { issued = u; none = λ o i j a b. omega (arith, a, fewer (same (working s o j)) (works s) (works_same s o j) (engine_at c i).process, all_zero (works s) c.engines e i) }

-- the serial is issued where the call ends counts its ends
pub record Counted (s : ℕ) (ws : List ℕ) : Type 0 where
  pub config : Config
  pub reads : read_config standard ws ≡ some config
  pub issued : s ≤ config.issued
  pub waiters : (ends standard ws s).waiters ≡ tally_all (waits s) config.engines
  pub workers : (ends standard ws s).workers ≡ tally_all (works s) config.engines

pub counted_at : (s : ℕ) (ws : List ℕ) → (ends standard ws s).number ≡ 0 → Counted s ws
unfolding ends known counted ◌>>=◌ ◌!◌ ◌>>◌ ◌unless◌
counted_at s ws z = by (read_config standard ws) refl
  where
    by : (o : Option Config) → read_config standard ws ≡ o → Counted s ws
    by none r = absurd (let q = (rw r at z) in omega (arith, q))
    by (some c) r = on (ltb 0 s && leb s c.issued) refl
      where
        on : (b : Bool) → (ltb 0 s && leb s c.issued) ≡ b → Counted s ws
        on false q = absurd (let w = (rw (r, q) at z) in omega (arith, w))
        on true q = record { config = c; reads = r; issued = leb→le s c.issued (and_right (ltb 0 s) (leb s c.issued) (true_test q)); waiters = rw (r, q); workers = rw (r, q) }

-- A serial with no waiter, or no executor and no notice, is lost
pub ends_gone :
    (engines serial k : ℕ) (side : Side) (ws : List ℕ) → (ends standard ws serial).number ≡ 0 → ((ends standard ws serial).waiters ≡ 0) ⊎ ((ends standard ws serial).workers ≡ 0) →
    forces engines serial k side ws ≡ false
ends_gone engines serial k side ws z e = by e
  where
    x : Counted serial ws
    x = counted_at serial ws z

    by : ((ends standard ws serial).waiters ≡ 0) ⊎ ((ends standard ws serial).workers ≡ 0) → forces engines serial k side ws ≡ false
    by (inl u) = apart_lost serial engines k side ws x.config x.reads (no_waiter serial x.config x.issued (sym x.waiters ∙ u))
    by (inr u) = apart_lost serial engines k side ws x.config x.reads (no_worker serial x.config x.issued (sym x.workers ∙ u))
