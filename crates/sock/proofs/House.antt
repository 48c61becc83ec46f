-- The house over time: every act keeps a ledger of the configuration read, a joining and a leaving the very same one. What no end said at a
-- leaving of the number given up is not said later by an end of a serial issued before. What stands after takings back is a chain of accepted acts,
-- accepted at the largest figures too where events are made at figures of their own.
-- Assumes nothing.
use Prim.Native.Nat.{ℕ, zero, suc, ◌-◌, ◌≤◌, ◌<◌}
use native.Mathlib.Omega.{arith}
use native.Mathlib.Nat.{le_refl}
use native.Mathlib.Decide.{dec_le}
use mathlib.Core.Path.{◌≡◌, refl, subst, sym, ap, ◌∙◌}
use mathlib.Core.Bool.{Bool, true, false, cond}
use mathlib.Core.Option.{Option, none, some}
use mathlib.Core.List.{List, [], ◌∷◌, ◌++◌, map, map-append, reverse, reverse-cons}
use lib.Dec.{T, eqb→eq}
use lib.ListN.{length, get_or}
use borrow.Author.Tests.{eq-eqb}
use Rattle.sock.specs.Words.{bit}
use Rattle.sock.specs.Running.{Run, nil, seq, par, scope, executor, waiter, notice, act}
use Rattle.sock.specs.Configuration.{Limits, Engine, Config, encode, read_config}
use Rattle.sock.specs.Calls.{Spot, engine_at, enabled_at, check_start, End, waiting, working, is_end, end_of, of_end, tally, tally_all, waits, works}
use Rattle.sock.specs.Everywhere.{everywhere}
use Rattle.sock.specs.Engines.{with_next, join, join_answer, join_output, leave, leave_answer, leave_output, last_of, without_last, serial_of, engine_of, points_to}
use Rattle.sock.specs.Rules.{also}
use Rattle.sock.specs.Runs.{of_spot, same, names, end_at, Course}
use Rattle.sock.specs.Events.{takes, words_before}
use Rattle.sock.specs.Cabinets.{◌inside◌, DeliverableAt}
use Rattle.sock.specs.House.{Act, stepping, joining, leaving, accepts, words_after, further, throughout, from, EveryRequestHasOneReplyInTheHouse, NoneNamesWhoLeft, NoneNamesWhoIsDone, Event, acting, taking_back, Standing, State, begun, all_but_last, next, after, struck_out, UndoesLast, Undoes, Proper, AllProper, EveryStandingRequestHasOneReplyInTheHouse, At, after_all, AllInside, ProperAt, AllProperAt, AllAccepted, EveryRequestHasOneReplyInAnyHouse}
use Rattle.sock.proofs.Logic.{true_test, test_true}
use Rattle.sock.proofs.Fits.{Readable}
use Rattle.sock.proofs.Configuration.{config_found, config_finds}
use Rattle.sock.proofs.Steps.{sure_done_lem}
use Rattle.sock.proofs.Turns.{here_same, ends_in, ends_at, Turn, quietly, begins, ended}
use Rattle.sock.proofs.Ledger.{Only, Ledger, share_other}
use Rattle.sock.proofs.Accounts.{stands, all_none, by_waiting, by_working, client_waits, server_works, fresh_ledger}
use Rattle.sock.proofs.Agreement.{fresh_agreed}
use Rattle.sock.proofs.Placed.{end_only, named_somewhere, everywhere_all}
use Rattle.sock.proofs.Replies.{nil_when, same_end, named_stands}
use Rattle.sock.proofs.Requests.{delivered_at, Changed, stays, turns, one_call, started, Led, matched}
use Rattle.sock.proofs.Events.{taken_number, taken_words, went_back}
use Rattle.sock.proofs.Engines.{Calm, calm_ledger, join_joins, Leaves, leave_left, last_behind, next_tally}
use Rattle.sock.proofs.InsideActs.{accepts_larger, words_larger}

-- ---- a number given up

-- no end of a serial up to i names g
abbrev Late : ℕ → ℕ → Config → Type 0
Late g i c = (s : ℕ) (t : End → Bool) → s ≤ i → Only s t → ((x : End) → T (t x) → engine_of x ≡ g) → (e : ℕ) → ends_at t c e ≡ 0

late_turns : (g i : ℕ) {c c' : Config} {p : Run} {serial : ℕ} → i ≤ c.issued → Turn c c' p serial → Late g i c → Late g i c'
late_turns g i b (quietly u k h) l s t q only f e = h e t ∙ l s t q only f e
late_turns g i {c} b (begins o client server a u k n w h) l s t q only f e =
    omega (arith, h e t, l s t q only f e, share_other {n = suc c.issued} t only (λ z. omega arith) e o client server)
late_turns g i b (ended s' o client server u k n w h) l s t q only f e = omega (arith, h e t, l s t q only f e)

late_changed : (limits : Limits) (g i : ℕ) {c c' : Config} → i ≤ c.issued → Changed limits c c' → Late g i c → Late g i c'
late_changed limits g i b (stays e) l = subst (Late g i) (sym e) l
late_changed limits g i b (turns p serial t) l = late_turns g i b t l

-- a test that passes less counts less
module _ (t u : End → Bool) (less : (x : End) → T (t x) → T (u x)) where
  bit_less : (x : End) → bit (t x) ≤ bit (u x)
  bit_less x = by (t x) (u x) (less x)
    where
      by : (a b : Bool) → (T a → T b) → bit a ≤ bit b
      by true true f = omega arith
      by true false f = absurd (f tt)
      by false b f = omega arith

  tally_less : (r : Run) → tally t r ≤ tally u r
  unfolding tally
  tally_less nil = omega arith
  tally_less (seq p q) = tally_less p
  tally_less (par p q) = omega (arith, tally_less p, tally_less q)
  tally_less (scope name mark zombie h p) = tally_less p
  tally_less (executor o y client serial p) = omega (arith, tally_less p, bit_less (working serial o client))
  tally_less (waiter o x dead server serial l) = bit_less (waiting serial o server)
  tally_less (notice o f client serial) = bit_less (working serial o client)
  tally_less (act p) = omega arith

  ends_less : (es : List Engine) (i : ℕ) → ends_in t es i ≤ tally_all u es
  unfolding tally_all tally
  ends_less [] i = omega arith
  ends_less (e ∷ es) zero = omega (arith, tally_less e.process)
  ends_less (e ∷ es) (suc i) = omega (arith, ends_less es i)

left_late : (i : ℕ) {c : Config} → Leaves c → Late (last_of c) i (without_last c)
unfolding points_to
left_late i {c} x s t q only f e =
    omega (arith, x.unnamed, ends_less t (points_to (last_of c)) (λ y h. true_test (eq-eqb (engine_of y) (last_of c) (f y h))) (without_last c).engines e)

module _ (limits : Limits) where
  -- ---- one act

  -- where a joining or a leaving is accepted: a configuration with the same ends, and its words
  pub record Calmly (c : Config) (ws : List ℕ) : Type 0 where
    pub config : Config
    pub calm : Calm limits c config
    pub words : ws ≡ encode config

  pub join_calmly :
      (ws engine out : List ℕ) {c : Config} → read_config limits ws ≡ some c → accepts limits ws (joining engine out) ≡ true →
      Calmly c (words_after limits ws (joining engine out))
  unfolding accepts words_after join_answer join_output
  join_calmly ws engine out {c} r e =
      let (new, d) = taken_number (join limits ws engine (length out)) e in
      let x = sure_done_lem (join_joins limits ws engine (length out)) d in
      let here : x.before ≡ c = cc x.reads in
      record {
        config = with_next x.before x.comer;
        calm = subst (λ c. Calm limits c (with_next x.before x.comer)) here x.calm;
        words = rw e (taken_words new out d ∙ x.words);
      }

  record Leaving (c : Config) (ws : List ℕ) : Type 0 where
    leaves : Leaves c
    calm : Calm limits c (without_last c)
    words : ws ≡ encode (without_last c)

  left_at :
      (ws out : List ℕ) {c : Config} → read_config limits ws ≡ some c → accepts limits ws (leaving out) ≡ true →
      Leaving c (words_after limits ws (leaving out))
  unfolding accepts words_after leave_answer leave_output
  left_at ws out {c} r e =
      let (new, d) = taken_number (leave limits ws (length out)) e in
      let x = sure_done_lem (leave_left limits ws (length out)) d in
      let here : x.before ≡ c = cc x.reads in
      subst (λ c. Leaving c (words_after limits ws (leaving out))) here
      (record { leaves = x.leaves; calm = x.calm; words = rw e (taken_words new out d ∙ x.words) })

  pub leave_calmly :
      (ws out : List ℕ) {c : Config} → read_config limits ws ≡ some c → accepts limits ws (leaving out) ≡ true →
      Calmly c (words_after limits ws (leaving out))
  leave_calmly ws out {c} r e = let y = left_at ws out r e in record { config = without_last c; calm = y.calm; words = y.words }

  -- a course that goes on to other words
  abbrev on_to : List ℕ → Course → Course
  on_to ws r = record { words = ws; solicits = r.solicits; last_serial = r.last_serial; deliveries = r.deliveries }

  led_calmly : {r : Course} (x : Led limits r) {ws : List ℕ} → Calmly x.config ws → Led limits (on_to ws r)
  led_calmly x y =
      record {
        config = y.config;
        reads = rw y.words (config_finds limits y.config y.calm.readable);
        ledger = calm_ledger y.calm x.ledger;
        agreed = y.calm.agrees x.agreed;
        issued = y.calm.issued ∙ x.issued;
        latest = x.latest ∙ sym y.calm.issued;
      }

  -- what an act makes of a course: its configuration has a ledger, and what is late stays so
  record Acted (r : Course) (x : Led limits r) (r' : Course) : Type 0 where
    led : Led limits r'
    more : r.solicits ≤ r'.solicits
    late : (g i : ℕ) → i ≤ r.solicits → Late g i x.config → Late g i led.config

  acted_calmly : {r : Course} (x : Led limits r) {ws : List ℕ} → Calmly x.config ws → Acted r x (on_to ws r)
  unfolding led_calmly
  acted_calmly {r} x y = record { led = led_calmly x y; more = le_refl r.solicits; late = λ g i b l s t q only f e. y.calm.ends e t ∙ l s t q only f e }

  acted_not : {r : Course} (x : Led limits r) {ws : List ℕ} → ws ≡ r.words → Acted r x (on_to ws r)
  acted_not {r} x {ws} e =
      record {
        led = record { config = x.config; reads = rw e x.reads; ledger = x.ledger; agreed = x.agreed; issued = x.issued; latest = x.latest };
        more = le_refl r.solicits;
        late = λ g i b l. l;
      }

  -- by whether it is accepted
  by_answer : {r : Course} (x : Led limits r) {ws : List ℕ} (b : Bool) → (b ≡ true → Calmly x.config ws) → (b ≡ false → ws ≡ r.words) → Acted r x (on_to ws r)
  by_answer x true f g = acted_calmly x (f refl)
  by_answer x false f g = acted_not x (g refl)

  pub join_refused : (ws engine out : List ℕ) → accepts limits ws (joining engine out) ≡ false → words_after limits ws (joining engine out) ≡ ws
  unfolding words_after
  join_refused ws engine out e = rw e

  pub leave_refused : (ws out : List ℕ) → accepts limits ws (leaving out) ≡ false → words_after limits ws (leaving out) ≡ ws
  unfolding words_after
  leave_refused ws out e = rw e

  acted : (r : Course) (x : Led limits r) (a : Act) → Acted r x (further limits r a)
  unfolding further
  acted r x (stepping k) =
      let y = one_call limits r.words k x.reads x.ledger x.agreed in
      record {
        led =
            record {
              config = y.config;
              reads = y.reads;
              ledger = y.ledger;
              agreed = y.agreed;
              issued = omega (arith, y.issued, x.issued);
              latest = y.latest r.last_serial x.latest;
            };
        more = omega arith;
        late = λ g i b. late_changed limits g i (omega (arith, x.issued)) y.changed;
      }
  acted r x (joining engine out) =
      by_answer x (accepts limits r.words (joining engine out)) (join_calmly r.words engine out x.reads) (join_refused r.words engine out)
  acted r x (leaving out) =
      by_answer x (accepts limits r.words (leaving out)) (leave_calmly r.words out x.reads) (leave_refused r.words out)

  acted_all : (acts : List Act) (r : Course) (x : Led limits r) → Acted r x (throughout limits r acts)
  unfolding throughout
  acted_all [] r x = record { led = x; more = le_refl r.solicits; late = λ g i b l. l }
  acted_all (a ∷ acts) r x =
      let y = acted r x a in
      let z = acted_all acts (further limits r a) y.led in
      record { led = z.led; more = omega (arith, y.more, z.more); late = λ g i b l. z.late g i (omega (arith, y.more)) (y.late g i b l) }

  -- ---- from a start

  led_start : (start : List ℕ) → check_start limits start ≡ 0 → Led limits (from start)
  led_start start h =
      let (c, r, f) = started limits start h in
      let (z, l) = fresh_ledger c f in
      record { config = c; reads = r; ledger = l; agreed = fresh_agreed c f; issued = z; latest = sym z }

  pub led_acts : (start : List ℕ) → check_start limits start ≡ 0 → (acts : List Act) → Led limits (throughout limits (from start) acts)
  led_acts start h acts = (acted_all acts (from start) (led_start start h)).led

  -- ---- a leaving, and what is so since

  words_first : (ws : List ℕ) {c : Config} → read_config limits ws ≡ some c → get_or ws 0 0 - 1 ≡ last_of c
  unfolding encode last_of
  words_first ws {c} r = ap (λ ws. get_or ws 0 0 - 1) (sym (config_found limits ws c r).0)

  left_further :
      (r : Course) (x : Led limits r) (out : List ℕ) → T (accepts limits r.words (leaving out)) →
      (y : Led limits (further limits r (leaving out))) × Late (get_or r.words 0 0 - 1) r.solicits y.config
  unfolding further led_calmly
  left_further r x out t =
      let l = left_at r.words out x.reads (test_true (accepts limits r.words (leaving out)) t) in (
        led_calmly x (record { config = without_last x.config; calm = l.calm; words = l.words }),
        subst (λ g. Late g r.solicits (without_last x.config)) (sym (words_first r.words x.reads)) (left_late r.solicits l.leaves),
      )

  late_above : (g i : ℕ) {c : Config} → Readable limits c → Late g i c → (x : End) → 0 < everywhere (is_end (same x)) c → engine_of x ≡ g → i < serial_of x
  late_above g i {c} good l x h e = by (dec_le (serial_of x) i)
    where
      by : Dec (serial_of x ≤ i) → i < serial_of x
      by (no n) = omega arith
      by (yes q) =
          let none : (j : ℕ) → ends_at (same x) c j ≡ 0 = l (serial_of x) (same x) q (λ y t. ap serial_of (same_end x y t)) (λ y t. ap engine_of (same_end x y t) ∙ e) in
          absurd (omega (arith, everywhere_all (same x) good.fitting, all_none (same x) c.engines none))

  none_counted : (r : Course) (out : List ℕ) → r.solicits ≤ (further limits r (leaving out)).solicits
  unfolding further
  none_counted r out = le_refl r.solicits

-- ---- the theorems

pub every_request_in_the_house : EveryRequestHasOneReplyInTheHouse
every_request_in_the_house limits start h acts =
    let x = led_acts limits start h acts in
    (x.config, matched limits (throughout limits (from start) acts) x)

pub none_names_who_left : NoneNamesWhoLeft
unfolding throughout
none_names_who_left limits start h before out more t c reads x stands names =
    let r = throughout limits (from start) before in
    let (y, l) = left_further limits r (led_acts limits start h before) out t in
    let z = acted_all limits more (further limits r (leaving out)) y in
    let here : z.led.config ≡ c = cc z.led.reads in
    late_above limits (get_or r.words 0 0 - 1) r.solicits (config_found limits _ c reads).1
    (subst (Late (get_or r.words 0 0 - 1) r.solicits) here (z.late (get_or r.words 0 0 - 1) r.solicits (none_counted limits r out) l)) x stands names

-- ---- an engine that is done

module _ {limits : Limits} {c : Config} (good : Readable limits c) {d : ℕ → ℕ} (l : Ledger c d) (g : ℕ) (rests : (engine_at c g).process ≡ nil) where
  none_there : (t : End → Bool) → ends_at t c g ≡ 0
  unfolding tally
  none_there t = ap (tally t) rests

  -- an end that names it has its other end there, which is none
  not_named : (e : ℕ) (x : End) → stands c e x → engine_of x ≡ g → ⊥
  not_named e (waiting s o f) h q =
      let there : ends_at (works s) c g ≡ 1 = server_works l s (by_waiting l s o f e h) g ∙ here_same g f 1 (sym q) in
      omega (arith, none_there (works s))
  not_named e (working s o f) h q =
      let there : ends_at (waits s) c g ≡ 1 = client_waits l s (by_working l s o f e h) g ∙ here_same g f 1 (sym q) in
      omega (arith, none_there (waits s))

  -- an engine and a position that name an end that passes a test
  ended_as : (t : End → Bool) (e p : ℕ) → names c (is_end t) e p → (x : End) × (end_at c e p ≡ some x) × T (t x)
  unfolding end_at also of_spot
  ended_as t e p n = by (enabled_at c e p) n
    where
      of : (o : Option End) → T (of_end t o) → (x : End) × (o ≡ some x) × T (t x)
      of none h = absurd h
      of (some x) h = (x, refl, h)

      by : (o : Option Spot) → T (of_spot (is_end t) o) → (x : End) × (also o (λ a. end_of a.process) ≡ some x) × T (t x)
      by none h = absurd h
      by (some a) h = of (end_of a.process) h

  pub done_unnamed : tally_all (points_to g) c.engines ≡ 0
  unfolding points_to
  done_unnamed = by (dec_le 1 (tally_all (points_to g) c.engines))
    where
      by : Dec (0 < tally_all (points_to g) c.engines) → tally_all (points_to g) c.engines ≡ 0
      by (no n) = omega arith
      by (yes h) =
          let (e, p, n) = named_somewhere (is_end (points_to g)) (end_only (points_to g)) good.fitting (omega (arith, everywhere_all (points_to g) good.fitting)) in
          let (x, is, names) = ended_as (points_to g) e p n in
          absurd (not_named e x (named_stands good e p x is) (eqb→eq (engine_of x) g names))

pub none_names_who_is_done : NoneNamesWhoIsDone
none_names_who_is_done limits start h acts c reads t =
    let x = led_acts limits start h acts in
    let here : x.config ≡ c = cc x.reads in
    let good = (config_found limits _ c reads).1 in
    let l : Ledger c (throughout limits (from start) acts).deliveries = subst (λ c. Ledger c (throughout limits (from start) acts).deliveries) here x.ledger in
    let none : tally_all (points_to (last_of c)) c.engines ≡ 0 = done_unnamed good l (last_of c) (sym (nil_when (engine_at c (last_of c)).process t)) in
    let split = ap (tally_all (points_to (last_of c))) (last_behind c good.fitting.some) ∙ next_tally (engine_at c (last_of c)) (points_to (last_of c)) (without_last c).engines in
    omega arith

-- ---- what stands is a chain

struck_cons : (x : Standing) (xs : List Standing) → map (λ y. y.by) (reverse (x ∷ xs)) ≡ map (λ y. y.by) (reverse xs) ++ x.by ∷ []
struck_cons x xs = ap (map (λ y. y.by)) (reverse-cons x xs) ∙ map-append (λ y. y.by) (reverse xs) (x ∷ [])

module _ (limits : Limits) where
  unfoldable pub Chain : List ℕ → List ℕ → List Standing → Type 0
  Chain base ws [] = ws ≡ base
  Chain base ws (x ∷ xs) = (ws ≡ words_after limits x.read x.by) × T (accepts limits x.read x.by) × Chain base x.read xs

  -- events at figures of their own: what is accepted there is accepted at the larger ones
  module _ (figures : Limits) (smaller : figures inside limits) where
    chain_acts :
        (base : List ℕ) (s : State) (a : Act) → Chain base s.words s.standing → Chain base (next figures s (acting a)).words (next figures s (acting a)).standing
    unfolding next Chain
    chain_acts base s a h = by (accepts figures s.words a) refl
      where
        by :
            (b : Bool) → accepts figures s.words a ≡ b →
            let n : State = cond b (record { words = words_after figures s.words a; standing = record { read = s.words; by = a } ∷ s.standing }) s in
            Chain base n.words n.standing
        by true e =
            (words_larger figures limits smaller s.words a (true_test e), accepts_larger figures limits smaller s.words a (true_test e), h)
        by false e = h

    -- a taking back by the last step's own journal goes back along it by one
    chain_takes :
        (base ws : List ℕ) (xs : List Standing) (journal out : List ℕ) → Chain base ws xs → Undoes limits xs journal →
        takes figures ws journal out ≡ true → Chain base (words_before figures ws journal out) (all_but_last xs)
    unfolding Chain Undoes UndoesLast words_after all_but_last
    chain_takes base ws [] journal out h u t = absurd u
    chain_takes base ws (x ∷ xs) journal out h u t = subst (λ us. Chain base us xs) (sym (by x.by h.0 u)) h.2
      where
        by : (a : Act) → ws ≡ words_after limits x.read a → UndoesLast limits x.read a journal → words_before figures ws journal out ≡ x.read
        by (stepping k) e u = went_back limits figures (record { read = x.read; by = k }) ws journal out u.0 e u.1 t
        by (joining engine out) e u = absurd u
        by (leaving out) e u = absurd u

    chain_at :
        (base : List ℕ) (s : State) (e : Event) → Chain base s.words s.standing → ProperAt limits s figures e →
        Chain base (next figures s e).words (next figures s e).standing
    unfolding next ProperAt
    chain_at base s (acting a) h p = chain_acts base s a h
    chain_at base s (taking_back journal out) h p = by (takes figures s.words journal out) refl
      where
        by :
            (b : Bool) → takes figures s.words journal out ≡ b →
            let n : State = cond b (record { words = words_before figures s.words journal out; standing = all_but_last s.standing }) s in
            Chain base n.words n.standing
        by true e = chain_takes base s.words s.standing journal out h (p (true_test e)) e
        by false e = h

  chain_all :
      (es : List At) (base : List ℕ) (s : State) → Chain base s.words s.standing → AllInside limits es → AllProperAt limits s es →
      Chain base (after_all s es).words (after_all s es).standing
  unfolding after_all AllInside AllProperAt
  chain_all [] base s h i p = h
  chain_all (e ∷ es) base s h i p = chain_all es base (next e.figures s e.event) (chain_at e.figures i.0 base s e.event h p.0) i.1 p.1

  proper_here : (s : State) (e : Event) → Proper limits s e → ProperAt limits s limits e
  unfolding Proper ProperAt
  proper_here s (acting a) p = p
  proper_here s (taking_back journal out) p = p

  -- events at the chain's own limits
  pub chain_next :
      (base : List ℕ) (s : State) (e : Event) → Chain base s.words s.standing → Proper limits s e →
      Chain base (next limits s e).words (next limits s e).standing
  chain_next base s e h p = chain_at limits (le_refl limits.deepest, le_refl limits.longest) base s e h (proper_here s e p)

  chain_after : (es : List Event) (base : List ℕ) (s : State) → Chain base s.words s.standing → AllProper limits s es → Chain base (after limits s es).words (after limits s es).standing
  unfolding after AllProper
  chain_after [] base s h p = h
  chain_after (e ∷ es) base s h p = chain_after es base (next limits s e) (chain_next base s e h p.0) p.1

  pub chain_begun : (start : List ℕ) → Chain start start []
  unfolding Chain
  chain_begun start = refl

  -- the acts that stand lead from the start to the words now
  further_words : (r : Course) (a : Act) → (further limits r a).words ≡ words_after limits r.words a
  unfolding further words_after
  further_words r (stepping k) = refl
  further_words r (joining engine out) = refl
  further_words r (leaving out) = refl

  through_last : (acts : List Act) (a : Act) (r : Course) → (throughout limits r (acts ++ a ∷ [])).words ≡ words_after limits (throughout limits r acts).words a
  unfolding throughout
  through_last [] a r = further_words r a
  through_last (b ∷ acts) a r = through_last acts a (further limits r b)

  chain_leads : (xs : List Standing) (base ws : List ℕ) → Chain base ws xs → (throughout limits (from base) (map (λ x. x.by) (reverse xs))).words ≡ ws
  unfolding Chain throughout
  chain_leads [] base ws h = sym h
  chain_leads (x ∷ xs) base ws h =
      ap (λ acts. (throughout limits (from base) acts).words) (struck_cons x xs)
      ∙ through_last (map (λ y. y.by) (reverse xs)) x.by (from base)
      ∙ ap (λ us. words_after limits us x.by) (chain_leads xs base x.read h.2)
      ∙ sym h.0

  -- and each of them is accepted
  accepted_last :
      (acts : List Act) (a : Act) (r : Course) → AllAccepted limits r.words acts → T (accepts limits (throughout limits r acts).words a) →
      AllAccepted limits r.words (acts ++ a ∷ [])
  unfolding AllAccepted throughout
  accepted_last [] a r h t = (t, tt)
  accepted_last (b ∷ acts) a r h t =
      let here = further_words r b in (
        h.0,
        subst (λ ws. AllAccepted limits ws (acts ++ a ∷ [])) here
            (accepted_last acts a (further limits r b) (subst (λ ws. AllAccepted limits ws acts) (sym here) h.1) t),
      )

  chain_accepted : (xs : List Standing) (base ws : List ℕ) → Chain base ws xs → AllAccepted limits base (map (λ x. x.by) (reverse xs))
  unfolding Chain AllAccepted
  chain_accepted [] base ws h = tt
  chain_accepted (x ∷ xs) base ws h =
      rw struck_cons
      (accepted_last (map (λ y. y.by) (reverse xs)) x.by (from base) (chain_accepted xs base x.read h.2)
      (subst (λ us. T (accepts limits us x.by)) (sym (chain_leads xs base x.read h.2)) h.1))

  pub struck_accepted : (base : List ℕ) (s : State) → Chain base s.words s.standing → AllAccepted limits base (struck_out s)
  unfolding struck_out
  struck_accepted base s h = chain_accepted s.standing base s.words h

  pub struck_leads : (base : List ℕ) (s : State) → Chain base s.words s.standing → (throughout limits (from base) (struck_out s)).words ≡ s.words
  unfolding struck_out
  struck_leads base s h = chain_leads s.standing base s.words h

pub every_standing_request_in_the_house : EveryStandingRequestHasOneReplyInTheHouse
every_standing_request_in_the_house limits start h events p =
    let s = after limits (begun start) events in
    (struck_leads limits start s (chain_after limits events start (begun start) (chain_begun limits start) p), every_request_in_the_house limits start h (struck_out s))

pub every_request_in_any_house : EveryRequestHasOneReplyInAnyHouse
every_request_in_any_house l start h events i p =
    let now : State = after_all (begun start) events in
    let chain = chain_all l events start (begun start) (chain_begun l start) i p in
    let same = struck_leads l start now chain in
    let r : Course = throughout l (from start) (struck_out now) in
    let x = led_acts l start h (struck_out now) in
    (struck_accepted l start now chain, same, (x.config, matched l r x, λ s. subst (λ ws. DeliverableAt s ws x.config) same (delivered_at s r.words x.ledger x.agreed)))
