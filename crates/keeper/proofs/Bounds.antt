-- Finitely many moves: an accepted step's five numbers are small, and its positions stand in the configuration. And journal enough changes nothing.
-- Assumes nothing.
use Prim.Native.Nat.{ℕ, zero, suc, ◌≤◌, ◌<◌}
use native.Mathlib.Omega.{arith}
use mathlib.Core.Path.{◌≡◌, refl, sym, subst, ap, ◌∙◌}
use mathlib.Core.Bool.{Bool, true, false, not, ◌&&◌, ◌||◌, cond}
use mathlib.Core.Option.{Option, none, some}
use mathlib.Core.List.{List}
use native.Mathlib.Decide.{dec_le}
use borrow.Author.Tests.{le-ltb}
use lib.Dec.{T, leb, ltb, eqb, eqb→eq, leb→le, le→leb}
use lib.ListN.{length}
use Rattle.sock.specs.Kind
use Rattle.sock.specs.Words.{kind_of, count_of}
use Rattle.sock.specs.Term.{Node, node, Nodes}
use Rattle.sock.specs.Reading.{code, anywhere, branched}
use Rattle.sock.specs.Running.{Run}
use Rattle.sock.specs.Configuration.{standard, Config, encode, guarded, read_config}
use Rattle.sock.specs.Rules.{deaf, Message, notification, solicitation, reply, failure, offer, offered, chosen, bare, Meeting, if_hears, if_serves, Exchange, exchange}
use Rattle.sock.specs.Calls.{Numbers, Spot, Result, refused, done, Stepped, enabled_at, meeting, step, journal_short, ◌>>=◌, ◌>>◌, ◌unless◌}
use Rattle.sock.specs.Journal.{journal_of, journal_enough, journal_step}
use Rattle.sock.proofs.Logic.{all_some_lem, and_left, and_right}
use Rattle.sock.proofs.Nodes.{head_tests}
use Rattle.sock.proofs.Fits.{Fits, fits, FitsConfig, Sound, nil_sound, seq_sound, par_sound, scope_sound, executor_sound, waiter_sound, notice_sound, act_sound, no_frames}
use Rattle.sock.proofs.Frames.{locate_sound}
use Rattle.sock.proofs.Located.{Enabled, enabled_stands, engine_fits, stands_before, size_positive}
use Rattle.sock.proofs.Configuration.{config_found}
use Rattle.sock.proofs.Steps.{sure_done_lem}
use Rattle.sock.proofs.Taken.{Taken, taken_alone, taken_between, Accepts, step_accepts}
use Rattle.sock.proofs.Delivery.{unless_true}
use Rattle.sock.proofs.Events.{journal_enough_lem}
use Rattle.keeper.specs.Game.{moved}
use Rattle.rules.proofs.Waiters.{awaited_branch}

-- ---- a branch above 8 is none

chosen_beyond : (n : ℕ) (ps : Nodes) (i : ℕ) → n < i → (chosen n ps i).receives ≡ deaf
unfolding chosen
chosen_beyond n ps zero h = refl
chosen_beyond n ps (suc i) h = let z : ltb i n ≡ false = le-ltb i n (omega arith) in rw z

bare_beyond : (p : Node) (i : ℕ) → 8 < i → (bare p i).receives ≡ deaf
unfolding bare
bare_beyond p zero h = absurd (omega arith)
bare_beyond p (suc i) h = refl

few_branches : (h : ℕ) → T (branched h) → T (eqb (kind_of h) Kind.choice) → count_of h ≤ 8
unfolding branched
few_branches h t u = by (eqb (kind_of h) Kind.choice) u t
  where
    by : (b : Bool) → T b → T (not b || ltb 0 (count_of h) && leb (count_of h) 8) → count_of h ≤ 8
    by true u t = leb→le (count_of h) 8 (and_right (ltb 0 (count_of h)) (leb (count_of h) 8) t)
    by false u t = absurd u

offered_beyond : {p : Node} (i : ℕ) → Fits (code false) anywhere p → 8 < i → (offered p i).receives ≡ deaf
unfolding offered
offered_beyond i (fits {h = h} {f = f} {es = es} {b = b} {ps = ps} t x e y qs g) above = by (eqb (kind_of h) Kind.choice) refl
  where
    by :
        (w : Bool) → eqb (kind_of h) Kind.choice ≡ w →
        (cond w (chosen (count_of h) ps i) (bare (node h f es b ps) i)).receives ≡ deaf
    by true q = chosen_beyond (count_of h) ps i (omega (arith, few_branches h (head_tests {s = code false} {p = anywhere} {h = h} t).branches (subst T (sym q) tt)))
    by false q = bare_beyond (node h f es b ps) i above

offer_beyond : {n issued : ℕ} {p : Run} → Sound n issued p → (i : ℕ) → 8 < i → (offer p i).receives ≡ deaf
unfolding offer
offer_beyond nil_sound i h = refl
offer_beyond (seq_sound g t q) i h = refl
offer_beyond (par_sound g t k u) i h = refl
offer_beyond (scope_sound a m c g) i h = refl
offer_beyond (executor_sound o y e g) i h = refl
offer_beyond (waiter_sound o x e l) i h = refl
offer_beyond (notice_sound o f e) i h = refl
offer_beyond (act_sound t g) i h = offered_beyond i g h

abbrev nowhere : Option Exchange
nowhere = none

guarded_none : (w : Bool) → guarded w nowhere ≡ none
unfolding guarded
guarded_none true = refl
guarded_none false = refl

exchange_beyond : {n issued : ℕ} (k : Meeting) → Sound n issued k.process → (m : Message) → 8 < k.branch → exchange k m ≡ none
unfolding exchange if_hears if_serves
exchange_beyond k g (notification o v z) h = rw (offer_beyond g k.branch h) (guarded_none (eqb z k.receiver))
exchange_beyond k g (solicitation o v z x l) h = rw (offer_beyond g k.branch h) (guarded_none (eqb z k.receiver))
exchange_beyond k g (reply o v client serial) h = awaited_branch k o client serial _ (λ e. omega arith)
exchange_beyond k g (failure o f client serial) h = awaited_branch k o client serial _ (λ e. omega arith)

branch_low : {n issued : ℕ} (k : Meeting) → Sound n issued k.process → (m : Message) (x : Exchange) → exchange k m ≡ some x → k.branch ≤ 8
branch_low k g m x e = by (dec_le k.branch 8)
  where
    by : Dec (k.branch ≤ 8) → k.branch ≤ 8
    by (yes h) = h
    by (no h) =
        let z : nowhere ≡ some x = sym (exchange_beyond k g m (omega (arith, h))) ∙ e in
        let q : ◌≡◌ {A = ℕ} 0 1 = cc in
        omega arith

-- ---- the five numbers

-- an engine's number and the position of an enabled process of it
pub record Placed (ws : List ℕ) (e p : ℕ) : Type 0 where
  pub engine : e < 8
  pub position : p < length ws

pub enabled_placed : (ws : List ℕ) (c : Config) (e p : ℕ) (a : Spot) → read_config standard ws ≡ some c → enabled_at c e p ≡ some a → Placed ws e p
enabled_placed ws c e p a reads at =
    let (same, r) = config_found standard ws c reads in
    let x : Enabled c e p a = enabled_stands c e p a r.fitting at in
    let few = r.fitting.few in
    let in-engines = x.inside in
    let long = stands_before x.stands in
    let more = size_positive a.process in
    record { engine = omega arith; position = omega (arith, ap length same) }

-- The five numbers of an accepted step: those of a process that moves alone end in zeros
pub record Small (ws : List ℕ) (k : Numbers) : Type 0 where
  pub words : length ws ≤ 8192
  pub first : Placed ws k.engine k.position
  pub second : k.second < 8
  pub place : k.second_position < length ws
  pub branch : k.branch ≤ 8

pub accepted_small : (ws : List ℕ) (k : Numbers) (x : Stepped) → moved ws k ≡ done x → Small ws k
unfolding moved
accepted_small ws k x e =
    let a : Accepts standard ws k 8192 x = sure_done_lem (step_accepts standard ws k 8192) e in
    let (same, r) = config_found standard ws a.config a.reads in
    by a.config a.reads r.fitting (omega (arith, ap length same, r.short)) a.taken
  where
    by : (c : Config) → read_config standard ws ≡ some c → FitsConfig c → length ws ≤ 8192 → {s : Stepped} → Taken c k s → Small ws k
    by c reads f short (taken_alone a vs p at m t) =
        let first = enabled_placed ws c k.engine k.position a reads at in
        let u = and_left (eqb k.second 0 && eqb k.second_position 0) (eqb k.branch 0) t in
        let z1 = eqb→eq k.second 0 (and_left (eqb k.second 0) (eqb k.second_position 0) u) in
        let z2 = eqb→eq k.second_position 0 (and_right (eqb k.second 0) (eqb k.second_position 0) u) in
        let z3 = eqb→eq k.branch 0 (and_right (eqb k.second 0 && eqb k.second_position 0) (eqb k.branch 0) t) in
        let w = first.position in
        record { words = short; first = first; second = omega arith; place = omega arith; branch = omega arith }
    by c reads f short (taken_between a b m x at mv at' t q) =
        let first = enabled_placed ws c k.engine k.position a reads at in
        let next = enabled_placed ws c k.second k.second_position b reads at' in
        let y : Enabled c k.second k.second_position b = enabled_stands c k.second k.second_position b f at' in
        let sound = (engine_fits _ f.engines k.second y.inside).sound in
        let there = all_some_lem (locate_sound sound k.second_position no_frames) y.located in
        record { words = short; first = first; second = next.engine; place = next.position; branch = branch_low (meeting c k a b) there.process m x q }

-- ---- journal enough

pub journal_changes_nothing : (ws : List ℕ) (k : Numbers) → journal_step standard ws k 8192 (journal_enough standard) ≡ moved ws k
unfolding journal_step moved ◌>>=◌
journal_changes_nothing ws k = by (step standard ws k 8192) refl
  where
    by :
        (r : Result Stepped) → step standard ws k 8192 ≡ r →
        (r >>= λ s. ◌>>◌ (journal_short unless leb (length (journal_of ws (encode s.config))) (journal_enough standard)) (done s)) ≡ r
    by (refused q) e = refl
    by (done s) e = unless_true _ (leb (length (journal_of ws (encode s.config))) (journal_enough standard)) _ (le→leb _ _ (journal_enough_lem standard ws k 8192 s e))
