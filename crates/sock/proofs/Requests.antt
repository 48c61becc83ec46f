-- Every request has one reply (demand 3): along any list of calls from a fresh start the configuration read has a ledger, and all that is
-- claimed is read off it.
-- Assumes nothing.
use Prim.Native.Nat.{ℕ, ◌+◌, ◌≤◌, ◌<◌}
use native.Mathlib.Omega.{arith}
use mathlib.Core.Path.{◌≡◌, refl, subst, sym, ap, ◌∙◌}
use mathlib.Core.Bool.{Bool, true, false, ◌&&◌, cond}
use mathlib.Core.Option.{some}
use mathlib.Core.List.{List, [], ◌∷◌}
use lib.Dec.{T}
use lib.ListN.{length, get_or}
use borrow.Author.Tests.{lt-ltb, le-leb, eqb-false}
use Rattle.sock.specs.Words.{bit}
use Rattle.sock.specs.Term.{Entries}
use Rattle.sock.specs.Running.{Run, executor, waiter}
use Rattle.sock.specs.Configuration.{Limits, Config, encode, read_config, fresh}
use Rattle.sock.specs.Rules.{also}
use Rattle.sock.specs.Calls.{unreadable, not_fresh, number, Result, refused, done, ◌>>=◌, ◌>>◌, ◌!◌, ◌unless◌, Spot, enabled_at, Stepped, step, passed, start, check_start, End, is_end, tally_all, waits, works, known, counted, ends}
use Rattle.sock.specs.Runs.{Call, call_answer, accepted, next_words, run, named, of_spot, is_solicit, carries, counts, total, solicits, deliveries, last_serial, awaits, delivery, Course, course, Matched, MatchedBy, EveryRequestHasOneReply}
use Rattle.sock.specs.Everywhere.{everywhere}
use Rattle.sock.specs.Cabinets.{DeliverableAt}
use Rattle.sock.proofs.Logic.{all_some_lem}
use Rattle.sock.proofs.Fits.{Readable}
use Rattle.sock.proofs.Located.{all_equal}
use Rattle.sock.proofs.Configuration.{config_found}
use Rattle.sock.proofs.Steps.{Sure, sure_done, sure_then, sure_given, sure_unless, sure_done_lem, step_readable}
use Rattle.sock.proofs.Turns.{Turn, turn_issued, turn_latest, Stepping, step_turns}
use Rattle.sock.proofs.Ledger.{Ledger, ledger_turns, ledger_same, open_of}
use Rattle.sock.proofs.Accepted.{number_positive, Refused, Done, Called, called_refused, called_done, called, lent_answers}
use Rattle.sock.proofs.Accounts.{waits_all, works_all, fresh_ledger}
use Rattle.sock.proofs.Kept.{executor_kept, waiter_kept}
use Rattle.sock.proofs.KeptSteps.{enabled_kept}
use Rattle.sock.proofs.Agreement.{any_closed, Counted, counted_on, Agrees, Agreed, step_agrees, fresh_agreed}
use Rattle.sock.proofs.Placed.{everywhere_all}
use Rattle.sock.proofs.Replies.{end_placed, named_paired, ready_awaited, ready_deliverable}

-- ---- delivery, at any limits that read a configuration with a ledger

pub delivered_at : (limits : Limits) (ws : List ℕ) {c : Config} {d : ℕ → ℕ} → Ledger c d → Agreed c → DeliverableAt limits ws c
delivered_at limits ws {c} l w reads s e p e' p' out journal n n' room enough =
    let (words, good) = config_found limits ws c reads in
    let (st, d, q) =
    subst
    (λ ws. length ws ≤ length out → (st : Stepped) × (step limits ws (delivery e p e' p') (length out) ≡ done st) × (st.serial ≡ s))
    words (ready_deliverable good l s w e p e' p' (length out) n n') room in
    let (a, b) = lent_answers limits ws (delivery e p e' p') out st d journal enough in
    (a, b ∙ q)

module _ (limits : Limits) where
  -- ---- one call

  -- what a call leaves is what it read, or a turn further
  pub data Changed (c c' : Config) : Type 0 where
    stays : c' ≡ c → Changed c c'
    turns : (p : Run) (serial : ℕ) → Turn c c' p serial → Changed c c'

  pub record OneCall (ws : List ℕ) (k : Call) (c : Config) (d : ℕ → ℕ) : Type 0 where
    pub config : Config
    pub changed : Changed c config
    pub reads : read_config limits (next_words limits ws k) ≡ some config
    pub ledger : Ledger config (λ s. d s + counts (carries s) limits ws k)
    pub agreed : Agreed config
    pub issued : config.issued ≡ c.issued + counts is_solicit limits ws k
    pub latest :
        (serial : ℕ) → serial ≡ c.issued →
        cond (accepted limits ws k && of_spot is_solicit (named limits ws k)) (call_answer limits ws k).serial serial ≡ config.issued

  module _ (ws : List ℕ) (k : Call) {c : Config} (r : read_config limits ws ≡ some c) {d : ℕ → ℕ} (l : Ledger c d) (w : Agreed c) where
    counts_refused : accepted limits ws k ≡ false → (test : Run → Bool) → counts test limits ws k ≡ 0
    unfolding counts
    counts_refused e test = rw e

    refused_call : Refused limits ws k → OneCall ws k c d
    refused_call u =
        let no : (test : Run → Bool) → counts test limits ws k ≡ 0 = counts_refused u.not_accepted in
        record {
          config = c;
          changed = stays refl;
          reads = rw u.kept r;
          ledger = ledger_same (λ s. omega (arith, no (carries s))) l;
          agreed = w;
          issued = omega (arith, no is_solicit);
          latest = λ serial e. rw u.not_accepted e;
        }

    named_at : {a : Spot} → enabled_at c k.numbers.engine k.numbers.position ≡ some a → named limits ws k ≡ some a
    unfolding named also
    named_at e = rw r e

    counts_done : {a : Spot} → accepted limits ws k ≡ true → named limits ws k ≡ some a → (test : Run → Bool) → counts test limits ws k ≡ bit (test a.process)
    unfolding counts of_spot
    counts_done e n test = rw (e, n)

    done_call : (s : Stepped) → Done limits ws k s → OneCall ws k c d
    unfolding of_spot
    done_call s u =
        let x : Stepping limits ws k.numbers s = sure_done_lem (step_turns limits ws k.numbers (length k.output)) u.step_done in
        let p : Run = x.spot.process in
        let same : x.before ≡ c = cc in
        let turn : Turn c s.config p s.serial = subst (λ c. Turn c s.config p s.serial) same x.turn in
        let found : named limits ws k ≡ some x.spot = named_at (subst (λ c. enabled_at c k.numbers.engine k.numbers.position ≡ some x.spot) same x.named) in
        let counting : (test : Run → Bool) → counts test limits ws k ≡ bit (test p) = counts_done u.is_accepted found in
        record {
          config = s.config;
          changed = turns p s.serial turn;
          reads = rw u.next (step_readable limits ws k.numbers (length k.output) s u.step_done);
          ledger = ledger_same (λ n. omega (arith, counting (carries n))) (ledger_turns p l turn);
          agreed = sure_done_lem (step_agrees limits ws k.numbers (length k.output) r w) u.step_done;
          issued = omega (arith, turn_issued turn, counting is_solicit);
          latest = λ serial e. rw (u.is_accepted, found, u.serial) (turn_latest turn serial e);
        }

    pub one_call : OneCall ws k c d
    one_call = by (called limits ws k)
      where
        by : Called limits ws k → OneCall ws k c d
        by (called_refused u) = refused_call u
        by (called_done s u) = done_call s u

  -- ---- a list of calls

  record After (ws : List ℕ) (calls : List Call) (c : Config) (d : ℕ → ℕ) : Type 0 where
    config : Config
    reads : read_config limits (run limits ws calls) ≡ some config
    ledger : Ledger config (λ s. d s + deliveries s limits ws calls)
    agreed : Agreed config
    issued : config.issued ≡ c.issued + solicits limits ws calls
    latest : (serial : ℕ) → serial ≡ c.issued → last_serial serial limits ws calls ≡ config.issued

  after : (calls : List Call) (ws : List ℕ) {c : Config} → read_config limits ws ≡ some c → {d : ℕ → ℕ} → Ledger c d → Agreed c → After ws calls c d
  unfolding run total last_serial
  after [] ws {c} r {d} l w =
      record { config = c; reads = r; ledger = ledger_same (λ s. omega arith) l; agreed = w; issued = omega arith; latest = λ serial e. e }
  after (k ∷ ks) ws {c} r {d} l w =
      let x : OneCall ws k c d = one_call ws k r l w in
      let y = after ks (next_words limits ws k) x.reads x.ledger x.agreed in
      record {
        config = y.config;
        reads = y.reads;
        ledger = ledger_same (λ s. omega arith) y.ledger;
        agreed = y.agreed;
        issued = omega (arith, y.issued, x.issued);
        latest = λ serial e. y.latest _ (x.latest serial e);
      }

  -- ---- a start, and what is read off

  start_sure : (ws : List ℕ) → Sure (λ c. (read_config limits ws ≡ some c) × T (fresh c)) (start limits ws)
  unfolding start
  start_sure ws =
      sure_then (sure_given unreadable (all_equal (read_config limits ws))) λ c e. sure_unless not_fresh (fresh c) λ t. sure_done (e, t)

  pub started : (ws : List ℕ) → check_start limits ws ≡ 0 → (c : Config) × (read_config limits ws ≡ some c) × T (fresh c)
  unfolding check_start passed
  started ws h = by (start limits ws) refl
    where
      by : (r : Result Config) → start limits ws ≡ r → (c : Config) × (read_config limits ws ≡ some c) × T (fresh c)
      by (refused r) e = absurd (eqb-false (number r) 0 (number_positive r) (sym (ap passed e) ∙ h))
      by (done c) e = let x = sure_done_lem (start_sure ws) e in (c, x.0, x.1)

  ends_known :
      (ws : List ℕ) {c : Config} (s : ℕ) → read_config limits ws ≡ some c → 0 < s → s ≤ c.issued →
      ends limits ws s ≡ record { number = 0; waiters = tally_all (waits s) c.engines; workers = tally_all (works s) c.engines }
  unfolding ends known counted ◌>>=◌ ◌>>◌ ◌!◌ ◌unless◌
  ends_known ws {c} s r a b = rw (r, lt-ltb 0 s a, le-leb s c.issued b)

  -- what is known of the configuration that a course leads to
  pub record Led (r : Course) : Type 0 where
    pub config : Config
    pub reads : read_config limits r.words ≡ some config
    pub ledger : Ledger config r.deliveries
    pub agreed : Agreed config
    pub issued : config.issued ≡ r.solicits
    pub latest : r.last_serial ≡ config.issued

  pub matched : (r : Course) (x : Led r) → MatchedBy limits r x.config
  unfolding encode awaits carries
  matched r x =
      record {
        readable = x.reads;
        issued = ap (λ ws. get_or ws 1 0) (sym words) ∙ x.issued;
        latest = λ h. x.latest ∙ x.issued;
        counted = λ s a b. ap (λ r. r.number) (answered s a b);
        balanced = λ s a b. rw (answered s a b) (waits_all l s ∙ sym (works_all l s));
        once = λ s a b. rw (answered s a b) (omega (arith, waits_all l s, l.given s a (omega (arith, x.issued))));
        all = λ s a b. (here_all (waits s) ∙ ap (λ r. r.waiters) (sym (answered s a b)), here_all (works s) ∙ ap (λ r. r.workers) (sym (answered s a b)));
        others = λ s f.
            let free : open_of (l.status s) ≡ 0 = omega (arith, l.others s (λ a b. f a (omega (arith, x.issued)))) in
            (here_all (waits s) ∙ waits_all l s ∙ free, here_all (works s) ∙ works_all l s ∙ free);
        placed = end_placed good;
        paired = named_paired good l;
        awaited = ready_awaited good l;
        deliverable = delivered_at limits r.words l x.agreed x.reads;
      }
    where
      c : Config
      c = x.config

      l : Ledger c r.deliveries
      l = x.ledger

      words : encode c ≡ r.words
      words = (config_found limits r.words c x.reads).0

      good : Readable limits c
      good = (config_found limits r.words c x.reads).1

      here_all : (t : End → Bool) → everywhere (is_end t) c ≡ tally_all t c.engines
      here_all t = everywhere_all t good.fitting

      answered :
          (s : ℕ) → 0 < s → s ≤ r.solicits →
          ends limits r.words s ≡ record { number = 0; waiters = tally_all (waits s) c.engines; workers = tally_all (works s) c.engines }
      answered s a b = ends_known r.words s x.reads a (omega (arith, x.issued))

  -- a list of calls from a configuration with nothing issued
  led_by : (ws : List ℕ) {c₀ : Config} → c₀.issued ≡ 0 → (calls : List Call) → After ws calls c₀ (λ s. 0) → Led (course limits ws calls)
  led_by ws z calls x =
      record {
        config = x.config;
        reads = x.reads;
        ledger = ledger_same (λ s. omega arith) x.ledger;
        agreed = x.agreed;
        issued = omega (arith, x.issued);
        latest = x.latest 0 (sym z);
      }

-- Demand 3, and delivery at any limits that read the configuration
pub every_request_at :
    (limits : Limits) (start : List ℕ) →
    check_start limits start ≡ 0 →
    (calls : List Call) →
    (c : Config) × Matched limits start calls c × ((s : Limits) → DeliverableAt s (run limits start calls) c)
every_request_at limits start h calls =
    let (c, r, f) = started limits start h in
    let (z, l) = fresh_ledger c f in
    let x = led_by limits start z calls (after limits calls start r l (fresh_agreed c f)) in
    (x.config, matched limits (course limits start calls) x, λ s. delivered_at s (run limits start calls) x.ledger x.agreed)

pub every_request : EveryRequestHasOneReply
every_request limits start h calls = let (c, m, d) = every_request_at limits start h calls in (c, m)

-- ---- counts

executor_count : {n : ℕ → ℕ} {o client s : ℕ} {y : List ℕ} {r : Run} → Agrees n (executor o y client s r) → length y ≡ n s
executor_count (executor_kept e g) = e

waiter_count : {n : ℕ → ℕ} {o server s : ℕ} {x : List ℕ} {dead : Bool} {l : Entries} → Agrees n (waiter o x dead server s l) → length x ≡ n s
waiter_count (waiter_kept e h) = e

-- In a run from a fresh start the executor of an open request, done or not, sends as many values as its waiter receives
pub open_counts :
    (limits : Limits) (start : List ℕ) →
    check_start limits start ≡ 0 →
    (calls : List Call) (c : Config) →
    read_config limits (run limits start calls) ≡ some c →
    (e p e' p' : ℕ) (a b : Spot) →
    enabled_at c e p ≡ some a →
    enabled_at c e' p' ≡ some b →
    (s o o' client server : ℕ) (y x : List ℕ) (r : Run) (dead : Bool) (l : Entries) →
    a.process ≡ executor o y client s r →
    b.process ≡ waiter o' x dead server s l →
    length y ≡ length x
open_counts limits start h calls c reads e p e' p' a b at at' s o o' client server y x r dead l working waiting =
    let (c₀, first, f) = started limits start h in
    let all = after limits calls start first (fresh_ledger c₀ f).1 (fresh_agreed c₀ f) in
    let same : all.config ≡ c = cc all.reads in
    let agreed : Agreed c = subst Agreed same all.agreed in
    let sends : Agrees agreed.index (executor o y client s r) =
    subst (Agrees agreed.index) working (all_some_lem (enabled_kept any_closed Counted counted_on agreed e p) at).process in
    let receives : Agrees agreed.index (waiter o' x dead server s l) =
    subst (Agrees agreed.index) waiting (all_some_lem (enabled_kept any_closed Counted counted_on agreed e' p') at').process in
    executor_count sends ∙ sym (waiter_count receives)
