-- A step on trees and its engines: what it does it does from its own engines' values and processes alone, and the word issued only for a solicit
-- (`taken-moved`); it leaves all others (`taken-keeps`). So two steps with no engine in common meet in one configuration (`taken-both`).
-- Assumes nothing.
use Prim.Native.Nat.{ℕ, zero, suc, ◌+◌, ◌≤◌, ◌<◌}
use native.Mathlib.Omega.{arith}
use mathlib.Core.Path.{◌≡◌, refl, sym, ap, subst, ◌∙◌}
use mathlib.Core.Bool.{Bool, true, false, not, ◌&&◌, ◌||◌}
use mathlib.Core.Option.{Option, none, some}
use mathlib.Core.List.{List, [], ◌∷◌}
use mathlib.Core.Logic.{◌⊎◌, inl, inr}
use lib.Dec.{T, eqb, ltb, eqb→eq, ltb→lt, T_not, not_T}
use lib.ListN.{length, get_or, set, length-set}
use lib.Seq.{get_or-set_same, get_or-set_other, ext_get_or}
use borrow.Author.Tests.{eq-eqb}
use Rattle.sock.specs.Words.{bit}
use Rattle.sock.specs.Variables.{member}
use Rattle.sock.specs.Term.{Entries}
use Rattle.sock.specs.Running.{Run, nil, seq, par, scope, executor, waiter, notice, act, run_depth}
use Rattle.sock.specs.Configuration.{Engine, Config, engines_depth, guarded}
use Rattle.sock.specs.Frames.{Frame, locate, plug}
use Rattle.sock.specs.Rules.{also, Message, notification, solicitation, reply, failure, Move, stuck, alone, unvalued, sends, Receiver, deaf, hears, serves, offer, Meeting, if_hears, if_waits, awaited, Exchange, exchange}
use Rattle.sock.specs.Calls.{Numbers, Spot, engine_at, enabled_at, Effect, lone, between, meeting, Stepped, with_engine, carried_out}
use Rattle.sock.specs.Runs.{of_spot, is_solicit}
use Rattle.sock.specs.Beside.{engines_of, engines_at, apart}
use Rattle.sock.proofs.Logic.{and_left, and_right, and_both, or_left, or_right, or_case, true_test, false_test, All, all_none, all_some, all_also, all_guarded, all_some_lem}
use Rattle.sock.proofs.Turns.{no_engine}
use Rattle.sock.proofs.Moves.{Moves, alone_moves, notifies, asking, replies, faults, move_moves}
use Rattle.sock.proofs.Trades.{Trade, quiet_trade, new_trade, last_trade, exchange_trade}
use Rattle.sock.proofs.Taken.{move_at, by_one, by_two, Taken, taken_alone, taken_between}

-- ---- an exchange reads the word issued only for a solicit

abbrev pub is_request : Message → Bool
is_request (notification o v z) = false
is_request (solicitation o v z x l) = true
is_request (reply o v client serial) = false
is_request (failure o f client serial) = false

-- the same exchange with another word issued
abbrev pub reissued : ℕ → Exchange → Exchange
reissued i x = record { sender = x.sender; receiver = x.receiver; values = x.values; issued = i; serial = x.serial; fault = x.fault }

guarded_also : {A B : Type 0} (b : Bool) (o : Option A) (f : A → Option B) → guarded b (also o f) ≡ also (guarded b o) f
unfolding guarded also
guarded_also true o f = refl
guarded_also false o f = refl

-- what is then done with what a receiver makes may be done in it
hears_also :
    {A B : Type 0} (r : Receiver) (k : ℕ → List ℕ → Option A) (k' : ℕ → List ℕ → Option B) (f : A → Option B) →
    ((o : ℕ) (x : List ℕ) → k' o x ≡ also (k o x) f) → if_hears r k' ≡ also (if_hears r k) f
unfolding if_hears also
hears_also deaf k k' f e = refl
hears_also (hears o x) k k' f e = e o x
hears_also (serves o x y p) k k' f e = refl

waits_also :
    {A B : Type 0} (p : Run) (k : ℕ → List ℕ → Bool → ℕ → ℕ → Entries → Option A) (k' : ℕ → List ℕ → Bool → ℕ → ℕ → Entries → Option B) (f : A → Option B) →
    ((o : ℕ) (x : List ℕ) (dead : Bool) (server serial : ℕ) (l : Entries) → k' o x dead server serial l ≡ also (k o x dead server serial l) f) →
    if_waits p k' ≡ also (if_waits p k) f
unfolding if_waits also
waits_also nil k k' f e = refl
waits_also (seq p q) k k' f e = refl
waits_also (par p q) k k' f e = refl
waits_also (scope name mark zombie h p) k k' f e = refl
waits_also (executor o y client serial p) k k' f e = refl
waits_also (waiter o x dead server serial l) k k' f e = e o x dead server serial l
waits_also (notice o g client serial) k k' f e = refl
waits_also (act p) k k' f e = refl

abbrev pub with_issued : ℕ → Meeting → Meeting
with_issued i k =
    record { issued = i; sender = k.sender; receiver = k.receiver; values = k.values; process = k.process; branch = k.branch }

module _ (i' : ℕ) (k : Meeting) where
  abbrev again : Exchange → Option Exchange
  again x = some (reissued i' x)

  pub exchange_unread : (m : Message) → is_request m ≡ false → exchange (with_issued i' k) m ≡ also (exchange k m) again
  unfolding exchange awaited also guarded
  exchange_unread (notification o v z) e =
      ap (guarded (eqb z k.receiver))
      (hears_also (offer k.process k.branch).receives _ _ again λ op x. guarded_also _ _ again)
      ∙ guarded_also (eqb z k.receiver) _ again
  exchange_unread (solicitation o v z x l) e = absurd (true_false e)
    where
      true_false : true ≡ false → ⊥
      true_false q = subst T q tt
  exchange_unread (reply o v client serial) e =
      waits_also k.process _ _ again λ op x dead server s l.
      ap (guarded (eqb k.branch 0 && eqb serial s && eqb o op && eqb client k.receiver && eqb server k.sender)) (guarded_also (eqb (length v) (length x)) _ again)
      ∙ guarded_also _ _ again
  exchange_unread (failure o f client serial) e =
      waits_also k.process _ _ again λ op x dead server s l. guarded_also _ _ again

-- a message asks where its process is a solicit
request_solicits : {fs : List Frame} {p : Run} {m : Message} → Moves fs p (sends m) → is_request m ≡ is_solicit p
request_solicits (notifies u w) = sym u.asks
request_solicits (asking u k w) = sym u
request_solicits (replies u) = sym u.asks
request_solicits (faults u) = sym u.asks

sends_moves : (a : Spot) {m : Message} → move_at a ≡ sends m → Moves a.frames a.process (sends m)
sends_moves a e = subst (Moves a.frames a.process) e (move_moves a.values a.frames a.process)

trade_issued : {issued a b : ℕ} {p q : Run} {x : Exchange} → Trade issued a b p q x → x.issued ≡ issued + bit (is_solicit p)
trade_issued (quiet_trade u e h h') = rw u.asks (omega arith)
trade_issued (new_trade o u k e f h h') = rw u (omega arith)
trade_issued (last_trade s o u k e f h h') = rw u (omega arith)

-- ---- lists of engines

pub member_head : (e : ℕ) (es : List ℕ) → T (member e (e ∷ es))
unfolding member
member_head e es = or_left (eqb e e) (member e es) (true_test (eq-eqb e e refl))

pub member_one : (e a : ℕ) → T (member e (a ∷ [])) → e ≡ a
unfolding member
member_one e a t = by (or_case (eqb e a) false t)
  where
    by : T (eqb e a) ⊎ T false → e ≡ a
    by (inl u) = eqb→eq e a u
    by (inr u) = absurd u

member_two : (e a b : ℕ) → T (member e (a ∷ b ∷ [])) → (e ≡ a) ⊎ (e ≡ b)
unfolding member
member_two e a b t = by (or_case (eqb e a) (eqb e b || false) t)
  where
    by : T (eqb e a) ⊎ T (eqb e b || false) → (e ≡ a) ⊎ (e ≡ b)
    by (inl u) = inl (eqb→eq e a u)
    by (inr u) = inr (member_one e b u)

-- two lists have none in common
pub apart_out : (es fs : List ℕ) → T (apart es fs) → (e : ℕ) → T (member e es) → T (not (member e fs))
unfolding apart member
apart_out [] fs t e u = absurd u
apart_out (x ∷ es) fs t e u =
    by (λ v. apart_out es fs (and_right (not (member x fs)) (apart es fs) t) e v) (or_case (eqb e x) (member e es) u)
  where
    by : (T (member e es) → T (not (member e fs))) → T (eqb e x) ⊎ T (member e es) → T (not (member e fs))
    by rest (inl v) = subst (λ z. T (not (member z fs))) (sym (eqb→eq e x v)) (and_left (not (member x fs)) (apart es fs) t)
    by rest (inr v) = rest v

apart_of : (es fs : List ℕ) → ((e : ℕ) → T (member e es) → T (member e fs) → ⊥) → T (apart es fs)
unfolding apart member
apart_of [] fs h = tt
apart_of (x ∷ es) fs h =
    and_both (not (member x fs)) (apart es fs) (not_T (member x fs) (h x (member_head x es)))
    (apart_of es fs (λ e u. h e (or_right (eqb e x) (member e es) u)))

pub apart_swap : (es fs : List ℕ) → T (apart es fs) → T (apart fs es)
apart_swap es fs t = apart_of fs es λ e u v. T_not (member e fs) (apart_out es fs t e v) u

-- ---- one or two engines put in place

get_or_first :
    (es : List Engine) (a b : ℕ) (x y : Engine) → (a ≡ b → ⊥) → a < length es → get_or (set (set es a x) b y) a no_engine ≡ x
get_or_first es a b x y d h = get_or-set_other (set es a x) b a y no_engine d ∙ get_or-set_same es a x no_engine h

get_or_second :
    (es : List Engine) (a b : ℕ) (x y : Engine) → b < length es → get_or (set (set es a x) b y) b no_engine ≡ y
get_or_second es a b x y h = get_or-set_same (set es a x) b y no_engine (subst (λ n. b < n) (sym (length-set es a x)) h)

-- ---- the engines of a step, and where its process stands

unfoldable pub touched : Config → Numbers → List ℕ
touched c k = engines_at k (enabled_at c k.engine k.position)

unfoldable pub solicit_at : Config → Numbers → Bool
solicit_at c k = of_spot is_solicit (enabled_at c k.engine k.position)

pub touched_first : (c : Config) (k : Numbers) → T (member k.engine (touched c k))
unfolding touched engines_at engines_of
touched_first c k = at (enabled_at c k.engine k.position)
  where
    by : (m : Move) → T (member k.engine (engines_of k m))
    by stuck = member_head k.engine []
    by (alone vs p) = member_head k.engine []
    by unvalued = member_head k.engine []
    by (sends m) = member_head k.engine (k.second ∷ [])

    at : (o : Option Spot) → T (member k.engine (engines_at k o))
    at none = member_head k.engine []
    at (some a) = by (move_at a)

module _ (c : Config) (k : Numbers) (a : Spot) (at : enabled_at c k.engine k.position ≡ some a) where
  pub touched_one : {vs : List ℕ} {o : Option Run} → move_at a ≡ alone vs o → touched c k ≡ k.engine ∷ []
  unfolding touched engines_at engines_of
  touched_one e = ap (engines_at k) at ∙ ap (engines_of k) e

  pub touched_two : {m : Message} → move_at a ≡ sends m → touched c k ≡ k.engine ∷ k.second ∷ []
  unfolding touched engines_at engines_of
  touched_two e = ap (engines_at k) at ∙ ap (engines_of k) e

  solicit_at_is : solicit_at c k ≡ is_solicit a.process
  unfolding solicit_at of_spot
  solicit_at_is = ap (of_spot is_solicit) at

record Where (c : Config) (e : ℕ) (a : Spot) : Type 0 where
  engine : a.engine ≡ e
  below : a.engine < length c.engines

enabled_where : (c : Config) (e p : ℕ) → All (Where c e) (enabled_at c e p)
unfolding enabled_at
enabled_where c e p =
    all_guarded (ltb e (length c.engines)) λ t.
    all_also (all_any' (locate (engine_at c e).process p [])) λ l u.
    all_some (record { engine = refl; below = ltb→lt e (length c.engines) t })
  where
    all_any' : {A : Type 0} (o : Option A) → All (λ a. Unit {0}) o
    all_any' none = all_none
    all_any' (some a) = all_some tt

found : (c : Config) (e p : ℕ) (a : Spot) → enabled_at c e p ≡ some a → Where c e a
found c e p a at = all_some_lem (enabled_where c e p) at

-- the same is found where the engine is the same
pub enabled_same :
    (c c' : Config) (e p : ℕ) → length c'.engines ≡ length c.engines → engine_at c' e ≡ engine_at c e → enabled_at c' e p ≡ enabled_at c e p
unfolding enabled_at
enabled_same c c' e p n h = rw (n, h)

-- ---- what a step leaves

pub record Keeps (c : Config) (k : Numbers) (s : Stepped) : Type 0 where
  pub size : length s.config.engines ≡ length c.engines
  pub others : (e : ℕ) → T (not (member e (touched c k))) → engine_at s.config e ≡ engine_at c e
  pub issued : s.config.issued ≡ c.issued + bit (solicit_at c k)

-- whatever the effect, only the engines of the two processes change
pub carried_others :
    (c : Config) (a b : Spot) (x : Effect) (i : ℕ) →
    (i ≡ a.engine → ⊥) →
    (i ≡ b.engine → ⊥) →
    All (λ s. engine_at s.config i ≡ engine_at c i) (carried_out c a b x)
unfolding carried_out
carried_others c a b (lone vs none) i h h' = all_none
carried_others c a b (lone vs (some p)) i h h' = all_some (get_or-set_other c.engines a.engine i _ no_engine h)
carried_others c a b (between x) i h h' =
    all_some
    (get_or-set_other (with_engine a.engine a.values (plug a.frames x.sender) c.engines) b.engine i _ no_engine h'
    ∙ get_or-set_other c.engines a.engine i _ no_engine h)

-- a list of engines without e
out_one : (e a : ℕ) {es : List ℕ} → es ≡ a ∷ [] → T (not (member e es)) → e ≡ a → ⊥
out_one e a q t h = T_not (member e (a ∷ [])) (subst (λ es. T (not (member e es))) q t) (subst (λ z. T (member z (a ∷ []))) (sym h) (member_head a []))

out_first : (e a b : ℕ) {es : List ℕ} → es ≡ a ∷ b ∷ [] → T (not (member e es)) → e ≡ a → ⊥
out_first e a b q t h =
    T_not (member e (a ∷ b ∷ [])) (subst (λ es. T (not (member e es))) q t) (subst (λ z. T (member z (a ∷ b ∷ []))) (sym h) (member_head a (b ∷ [])))

member_last : (a b : ℕ) → T (member b (a ∷ b ∷ []))
unfolding member
member_last a b = or_right (eqb b a) (member b (b ∷ [])) (member_head b [])

out_second : (e a b : ℕ) {es : List ℕ} → es ≡ a ∷ b ∷ [] → T (not (member e es)) → e ≡ b → ⊥
out_second e a b q t h =
    T_not (member e (a ∷ b ∷ [])) (subst (λ es. T (not (member e es))) q t) (subst (λ z. T (member z (a ∷ b ∷ []))) (sym h) (member_last a b))

alone_quiet : (a : Spot) {vs : List ℕ} {o : Option Run} → move_at a ≡ alone vs o → is_solicit a.process ≡ false
alone_quiet a e = quiet (subst (Moves a.frames a.process) e (move_moves a.values a.frames a.process))
  where
    quiet : {vs : List ℕ} {o : Option Run} → Moves a.frames a.process (alone vs o) → is_solicit a.process ≡ false
    quiet (alone_moves u h) = u.asks

pub taken_keeps : {c : Config} {k : Numbers} {s : Stepped} → Taken c k s → Keeps c k s
unfolding carried_out
taken_keeps {c} {k} (taken_alone a vs p at e t) =
    let w : Where c k.engine a = found c k.engine k.position a at in
    record {
      size = length-set c.engines a.engine _;
      others = λ i u.
          let out : i ≡ a.engine → ⊥ = λ h. out_one i k.engine (touched_one c k a at e) u (h ∙ w.engine) in
          all_some_lem (carried_others c a a (lone vs (some p)) i out out) refl;
      issued = rw (solicit_at_is c k a at, alone_quiet a e) (omega arith);
    }
taken_keeps {c} {k} (taken_between a b m x at e meets t q) =
    let w : Where c k.engine a = found c k.engine k.position a at in
    let w' : Where c k.second b = found c k.second k.second_position b meets in
    let es : List Engine = with_engine a.engine a.values (plug a.frames x.sender) c.engines in
    record {
      size = length-set es b.engine _ ∙ length-set c.engines a.engine _;
      others = λ i u.
          let two : touched c k ≡ k.engine ∷ k.second ∷ [] = touched_two c k a at e in
          all_some_lem
          (carried_others c a b (between x) i (λ h. out_first i k.engine k.second two u (h ∙ w.engine))
          (λ h. out_second i k.engine k.second two u (h ∙ w'.engine)))
          refl;
      issued =
          trade_issued (all_some_lem (exchange_trade (meeting c k a b) a.process (sends_moves a e)) q)
          ∙ ap (λ z. c.issued + bit z) (sym (solicit_at_is c k a at));
    }

-- ---- the same step from a configuration that has the same in its engines

pub record Agreeing (c c' : Config) (k : Numbers) : Type 0 where
  pub size : length c'.engines ≡ length c.engines
  pub each : (e : ℕ) → T (member e (touched c k)) → engine_at c' e ≡ engine_at c e
  pub issued : solicit_at c k ≡ true → c'.issued ≡ c.issued

pub record Moved (c c' : Config) (k : Numbers) (s : Stepped) : Type 0 where
  pub next : Stepped
  pub taken : Taken c' k next
  pub kind : next.kind ≡ s.kind
  pub serial : next.serial ≡ s.serial
  pub fault : next.fault ≡ s.fault
  pub each : (e : ℕ) → T (member e (touched c k)) → engine_at next.config e ≡ engine_at s.config e

pub taken_moved : {c c' : Config} {k : Numbers} {s : Stepped} → Taken c k s → Agreeing c c' k → Moved c c' k s
unfolding also
taken_moved {c} {c'} {k} (taken_alone a vs p at e t) g =
    let w : Where c k.engine a = found c k.engine k.position a at in
    let at' : enabled_at c' k.engine k.position ≡ some a =
    enabled_same c c' k.engine k.position g.size (g.each k.engine (touched_first c k)) ∙ at in
    let w' : Where c' k.engine a = found c' k.engine k.position a at' in
    record {
      next = by_one c' a vs p;
      taken = taken_alone a vs p at' e t;
      kind = refl;
      serial = refl;
      fault = refl;
      each = λ i u.
          let h : i ≡ a.engine = member_one i k.engine (subst (λ es. T (member i es)) (touched_one c k a at e) u) ∙ sym w.engine in
          rw h (get_or-set_same c'.engines a.engine _ no_engine w'.below ∙ sym (get_or-set_same c.engines a.engine _ no_engine w.below));
    }
taken_moved {c} {c'} {k} (taken_between a b m x at e meets t q) g = by (is_request m) refl
  where
    two : touched c k ≡ k.engine ∷ k.second ∷ []
    two = touched_two c k a at e

    at' : enabled_at c' k.engine k.position ≡ some a
    at' = enabled_same c c' k.engine k.position g.size (g.each k.engine (touched_first c k)) ∙ at

    meets' : enabled_at c' k.second k.second_position ≡ some b
    meets' =
        enabled_same c c' k.second k.second_position g.size
        (g.each k.second (subst (λ es. T (member k.second es)) (sym two) (member_last k.engine k.second)))
        ∙ meets

    w : Where c k.engine a
    w = found c k.engine k.position a at

    v : Where c k.second b
    v = found c k.second k.second_position b meets

    w' : Where c' k.engine a
    w' = found c' k.engine k.position a at'

    v' : Where c' k.second b
    v' = found c' k.second k.second_position b meets'

    different : a.engine ≡ b.engine → ⊥
    different h = T_not (eqb a.engine b.engine) t (true_test (eq-eqb a.engine b.engine h))

    same : (n i : ℕ) → (i ≡ k.engine) ⊎ (i ≡ k.second) → engine_at (by_two c' a b (reissued n x)).config i ≡ engine_at (by_two c a b x).config i
    same n i (inl h) =
        rw (h ∙ sym w.engine)
        (get_or_first c'.engines a.engine b.engine _ _ different w'.below ∙ sym (get_or_first c.engines a.engine b.engine _ _ different w.below))
    same n i (inr h) =
        rw (h ∙ sym v.engine)
        (get_or_second c'.engines a.engine b.engine _ _ v'.below ∙ sym (get_or_second c.engines a.engine b.engine _ _ v.below))

    given : (n : ℕ) → exchange (meeting c' k a b) m ≡ some (reissued n x) → Moved c c' k (by_two c a b x)
    given n h =
        record {
          next = by_two c' a b (reissued n x);
          taken = taken_between a b m (reissued n x) at' e meets' t h;
          kind = refl;
          serial = refl;
          fault = refl;
          each = λ i u. same n i (member_two i k.engine k.second (subst (λ es. T (member i es)) two u));
        }

    by : (r : Bool) → is_request m ≡ r → Moved c c' k (by_two c a b x)
    by true h =
        given x.issued
        (ap (λ n. exchange (with_issued n (meeting c k a b)) m)
        (g.issued (solicit_at_is c k a at ∙ sym (request_solicits (sends_moves a e)) ∙ h))
        ∙ q)
    by false h =
        given c'.issued
        (exchange_unread c'.issued (meeting c k a b) m h ∙ ap (λ o. also o (again c'.issued (meeting c k a b))) q)

-- ---- two steps with no engine in common, not both solicits

not_both_true : (a b : Bool) → T (not (a && b)) → b ≡ true → a ≡ false
not_both_true true b t e = absurd (T_not b t (true_test e))
not_both_true false b t e = refl

pub not_both_swap : (a b : Bool) → T (not (a && b)) → T (not (b && a))
not_both_swap true true t = t
not_both_swap true false t = tt
not_both_swap false true t = tt
not_both_swap false false t = tt

pub record Clear (c : Config) (j k : Numbers) : Type 0 where
  pub engines : T (apart (touched c j) (touched c k))
  pub solicits : T (not (solicit_at c j && solicit_at c k))

pub clear_swap : {c : Config} {j k : Numbers} → Clear c j k → Clear c k j
clear_swap {c} {j} {k} d =
    record {
      engines = apart_swap (touched c j) (touched c k) d.engines;
      solicits = not_both_swap (solicit_at c j) (solicit_at c k) d.solicits;
    }

module _ {c : Config} {j k : Numbers} (d : Clear c j k) {s : Stepped} (tj : Taken c j s) where
  -- after j the engines of k are as before
  unmoved : (e : ℕ) → T (member e (touched c k)) → engine_at s.config e ≡ engine_at c e
  unmoved e t = (taken_keeps tj).others e (apart_out (touched c k) (touched c j) (clear_swap d).engines e t)

  same_issued : solicit_at c k ≡ true → s.config.issued ≡ c.issued
  same_issued e = (taken_keeps tj).issued ∙ rw (not_both_true (solicit_at c j) (solicit_at c k) d.solicits e) (omega arith)

  -- so k acts there as it did, and back
  pub agreeing_after : Agreeing c s.config k
  agreeing_after = record { size = (taken_keeps tj).size; each = unmoved; issued = same_issued }

  pub still : enabled_at s.config k.engine k.position ≡ enabled_at c k.engine k.position
  still = enabled_same c s.config k.engine k.position (taken_keeps tj).size (unmoved k.engine (touched_first c k))

  pub touched_after : touched s.config k ≡ touched c k
  unfolding touched
  touched_after = ap (engines_at k) still

  pub solicit_after : solicit_at s.config k ≡ solicit_at c k
  unfolding solicit_at
  solicit_after = ap (of_spot is_solicit) still

  pub agreeing_before : Agreeing s.config c k
  agreeing_before =
      record {
        size = sym (taken_keeps tj).size;
        each = λ e t. sym (unmoved e (subst (λ es. T (member e es)) touched_after t));
        issued = λ e. sym (same_issued (sym solicit_after ∙ e));
      }

-- Taken one after the other, in both orders
module _ {c : Config} {j k : Numbers} (d : Clear c j k) {s t : Stepped} (tj : Taken c j s) (tk : Taken c k t) where
  abbrev pub second : Moved c s.config k t
  second = taken_moved tk (agreeing_after d tj)

  -- an engine of the result is as j left it or as k did
  abbrev Either : ℕ → Type 0
  Either e = (engine_at second.next.config e ≡ engine_at t.config e) ⊎ (engine_at second.next.config e ≡ engine_at s.config e)

  pub second_engine : (e : ℕ) → Either e
  second_engine e = by (member e (touched c k)) refl
    where
      by : (b : Bool) → member e (touched c k) ≡ b → Either e
      by true q = inl (second.each e (true_test q))
      by false q = inr ((taken_keeps second.taken).others e (subst (λ es. T (not (member e es))) (sym (touched_after d tj)) (false_test q)))

config_equal : {c c' : Config} → c.issued ≡ c'.issued → c.engines ≡ c'.engines → c ≡ c'
config_equal p q = λ i. record { issued = p i; engines = q i }

module _ {c : Config} {j k : Numbers} (d : Clear c j k) {s t : Stepped} (tj : Taken c j s) (tk : Taken c k t) where
  abbrev one : Stepped
  one = (second d tj tk).next

  abbrev other : Stepped
  other = (second (clear_swap d) tk tj).next

  engine_both : (e : ℕ) → engine_at one.config e ≡ engine_at other.config e
  engine_both e = by (member e (touched c k)) (member e (touched c j)) refl refl
    where
      keeps : Keeps s.config k one
      keeps = taken_keeps (second d tj tk).taken

      keeps' : Keeps t.config j other
      keeps' = taken_keeps (second (clear_swap d) tk tj).taken

      out_k : member e (touched c k) ≡ false → engine_at one.config e ≡ engine_at s.config e
      out_k q = keeps.others e (subst (λ es. T (not (member e es))) (sym (touched_after d tj)) (false_test q))

      out_j : T (not (member e (touched c j))) → engine_at other.config e ≡ engine_at t.config e
      out_j u = keeps'.others e (subst (λ es. T (not (member e es))) (sym (touched_after (clear_swap d) tk)) u)

      by : (a b : Bool) → member e (touched c k) ≡ a → member e (touched c j) ≡ b → engine_at one.config e ≡ engine_at other.config e
      by true b p q =
          (second d tj tk).each e (true_test p) ∙ sym (out_j (apart_out (touched c k) (touched c j) (clear_swap d).engines e (true_test p)))
      by false true p q = out_k p ∙ sym ((second (clear_swap d) tk tj).each e (true_test q))
      by false false p q =
          out_k p ∙ (taken_keeps tj).others e (false_test q) ∙ sym (out_j (false_test q) ∙ (taken_keeps tk).others e (false_test p))

  pub taken_both : one.config ≡ other.config
  taken_both =
      let keeps : Keeps s.config k one = taken_keeps (second d tj tk).taken in
      let keeps' : Keeps t.config j other = taken_keeps (second (clear_swap d) tk tj).taken in
      let size : length one.config.engines ≡ length other.config.engines =
      keeps.size ∙ (taken_keeps tj).size ∙ sym (keeps'.size ∙ (taken_keeps tk).size) in
      config_equal
      (omega (
        arith,
        keeps.issued,
        keeps'.issued,
        (taken_keeps tj).issued,
        (taken_keeps tk).issued,
        ap bit (solicit_after d tj),
        ap bit (solicit_after (clear_swap d) tk),
      ))
      (ext_get_or no_engine one.config.engines other.config.engines size (λ e h. engine_both e))

-- ---- depths

pub engines_shallow : (d : ℕ) (es : List Engine) → engines_depth es ≤ d → (e : ℕ) → e < length es → run_depth (get_or es e no_engine).process ≤ d
unfolding engines_depth
engines_shallow d [] h e b = absurd (omega arith)
engines_shallow d (x ∷ es) h zero b = omega arith
engines_shallow d (x ∷ es) h (suc e) b = engines_shallow d es (omega arith) e (omega arith)

pub shallow_engines : (d : ℕ) (es : List Engine) → ((e : ℕ) → e < length es → run_depth (get_or es e no_engine).process ≤ d) → engines_depth es ≤ d
unfolding engines_depth
shallow_engines d [] h = omega arith
shallow_engines d (x ∷ es) h =
    let here : run_depth x.process ≤ d = h zero (omega arith) in
    let rest : engines_depth es ≤ d = shallow_engines d es (λ e b. h (suc e) (omega arith)) in
    omega arith

-- engines that stand in one of two lists are no deeper than these
pub shallow_either :
    (d : ℕ) (es fs gs : List Engine) →
    length es ≡ length fs →
    length es ≡ length gs →
    ((e : ℕ) → (get_or es e no_engine ≡ get_or fs e no_engine) ⊎ (get_or es e no_engine ≡ get_or gs e no_engine)) →
    engines_depth fs ≤ d →
    engines_depth gs ≤ d →
    engines_depth es ≤ d
shallow_either d es fs gs n n' h f g =
    shallow_engines d es λ e b. by e b (h e)
  where
    by :
        (e : ℕ) → e < length es →
        (get_or es e no_engine ≡ get_or fs e no_engine) ⊎ (get_or es e no_engine ≡ get_or gs e no_engine) →
        run_depth (get_or es e no_engine).process ≤ d
    by e b (inl q) = rw q (engines_shallow d fs f e (omega arith))
    by e b (inr q) = rw q (engines_shallow d gs g e (omega arith))
