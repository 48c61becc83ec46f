-- Ends in a configuration that has a ledger: the two ends of a serial name each other, a working end with nothing left to run is awaited
-- somewhere, and the call that names it and the end that awaits it is accepted.
-- Assumes nothing.
use Prim.Native.Nat.{ℕ, ◌≤◌, ◌<◌}
use native.Mathlib.Omega.{arith}
use mathlib.Core.Path.{◌≡◌, refl, subst, sym, ap, ◌∙◌}
use mathlib.Core.Bool.{Bool, true}
use mathlib.Core.Option.{Option, none, some}
use mathlib.Core.List.{List}
use lib.Dec.{T, eqb, eqb→eq}
use lib.ListN.{length}
use Rattle.sock.specs.Words.{bit}
use Rattle.sock.specs.Term.{Entries}
use Rattle.sock.specs.Running.{Run, nil, seq, par, scope, executor, waiter, notice, act}
use Rattle.sock.specs.Configuration.{Limits, Config, encode}
use Rattle.sock.specs.Frames.{is_done}
use Rattle.sock.specs.Rules.{also}
use Rattle.sock.specs.Calls.{done, Spot, enabled_at, Stepped, step, End, waiting, working, end_of, of_end, is_end, tally, tally_all, waits, works}
use Rattle.sock.specs.Everywhere.{everywhere}
use Rattle.sock.specs.Runs.{of_spot, carries, awaits, bodyless, ready, same, names, end_at, delivery}
use Rattle.sock.proofs.Fields.{three}
use Rattle.sock.proofs.Logic.{and_left, and_right, all_some_lem}
use Rattle.sock.proofs.Fits.{Readable}
use Rattle.sock.proofs.Located.{enabled_stands}
use Rattle.sock.proofs.Delivery.{Meets, reply_meets, fault_meets, delivery_accepted}
use Rattle.sock.proofs.Turns.{ends_at, Standing, enabled_standing}
use Rattle.sock.proofs.Ledger.{pending, open_of, Apart, Ledger, waiting_same, working_same}
use Rattle.sock.proofs.Accounts.{stands, waits_all, by_waiting, by_working, ends_paired}
use Rattle.sock.proofs.Kept.{executor_kept, waiter_kept}
use Rattle.sock.proofs.KeptSteps.{enabled_kept}
use Rattle.sock.proofs.Agreement.{any_closed, Counted, counted_on, Agrees, Agreed}
use Rattle.sock.proofs.Placed.{OnlyEnds, end_only, named_somewhere, everywhere_all}

-- ---- the two ends seen

data Ready (s : ℕ) : Run → Type 0 where
  reply_ready : (o : ℕ) (y : List ℕ) (client : ℕ) → Ready s (executor o y client s nil)
  fault_ready : (o f client : ℕ) → Ready s (notice o f client s)

data Awaiting (s : ℕ) : Run → Type 0 where
  awaiting : (o : ℕ) (x : List ℕ) (dead : Bool) (server : ℕ) (l : Entries) → Awaiting s (waiter o x dead server s l)

pub nil_when : (r : Run) → T (is_done r) → nil ≡ r
unfolding is_done
nil_when nil d = refl
nil_when (seq p q) d = absurd d
nil_when (par p q) d = absurd d
nil_when (scope name mark zombie h p) d = absurd d
nil_when (executor o y client serial p) d = absurd d
nil_when (waiter o x dead server serial l) d = absurd d
nil_when (notice o f client serial) d = absurd d
nil_when (act p) d = absurd d

ready_seen : (s : ℕ) (r : Run) → T (ready s r) → Ready s r
unfolding ready carries works bodyless
ready_seen s nil t = absurd t
ready_seen s (seq p q) t = absurd t
ready_seen s (par p q) t = absurd t
ready_seen s (scope name mark zombie h p) t = absurd t
ready_seen s (executor o y client serial p) t =
    subst (λ p. Ready s (executor o y client serial p)) (nil_when p (and_right (eqb s serial) (is_done p) t))
    (subst (λ n. Ready s (executor o y client n nil)) (eqb→eq s serial (and_left (eqb s serial) (is_done p) t)) (reply_ready o y client))
ready_seen s (waiter o x dead server serial l) t = absurd t
ready_seen s (notice o f client serial) t = subst (λ n. Ready s (notice o f client n)) (eqb→eq s serial (and_left (eqb s serial) true t)) (fault_ready o f client)
ready_seen s (act p) t = absurd t

awaiting_seen : (s : ℕ) (r : Run) → T (awaits s r) → Awaiting s r
unfolding awaits waits
awaiting_seen s nil t = absurd t
awaiting_seen s (seq p q) t = absurd t
awaiting_seen s (par p q) t = absurd t
awaiting_seen s (scope name mark zombie h p) t = absurd t
awaiting_seen s (executor o y client serial p) t = absurd t
awaiting_seen s (waiter o x dead server serial l) t =
    subst (λ n. Awaiting s (waiter o x dead server n l)) (eqb→eq s serial t) (awaiting o x dead server l)
awaiting_seen s (notice o f client serial) t = absurd t
awaiting_seen s (act p) t = absurd t

-- what they say of the operation, and of the other's engine
abbrev operation : {s : ℕ} {r : Run} → Ready s r → ℕ
operation (reply_ready o y client) = o
operation (fault_ready o f client) = o

abbrev client : {s : ℕ} {r : Run} → Ready s r → ℕ
client (reply_ready o y g) = g
client (fault_ready o f g) = g

abbrev asked : {s : ℕ} {r : Run} → Awaiting s r → ℕ
asked (awaiting o x dead g l) = o

abbrev server : {s : ℕ} {r : Run} → Awaiting s r → ℕ
server (awaiting o x dead g l) = g

ready_tally : {s : ℕ} {r : Run} (x : Ready s r) → 0 < tally (same (working s (operation x) (client x))) r
unfolding tally
ready_tally {s} (reply_ready o y g) = omega (arith, working_same s o g)
ready_tally {s} (fault_ready o f g) = omega (arith, working_same s o g)

awaiting_tally : {s : ℕ} {r : Run} (x : Awaiting s r) → 0 < tally (same (waiting s (asked x) (server x))) r
unfolding tally
awaiting_tally {s} (awaiting o x dead g l) = omega (arith, waiting_same s o g)

meets :
    {n : ℕ → ℕ} {s e e' : ℕ} {r q : Run} (x : Ready s r) (y : Awaiting s q) →
    Agrees n r →
    Agrees n q →
    asked y ≡ operation x →
    server y ≡ e →
    client x ≡ e' →
    Meets s e e' r q
meets (reply_ready o y g) (awaiting o' x dead g' l) (executor_kept c a) (waiter_kept c' h) eo es ec = rw (eo, es, ec) (reply_meets (c ∙ sym c'))
meets (fault_ready o f g) (awaiting o' x dead g' l) a (waiter_kept c' h) eo es ec = rw (eo, es, ec) fault_meets

-- ---- what an engine and a position name

pub spot_named :
    (t : Run → Bool) (o : Option Spot) → T (of_spot t o) → (a : Spot) × (o ≡ some a) × T (t a.process)
unfolding of_spot
spot_named t none h = absurd h
spot_named t (some a) h = (a, refl, h)

spot_ended : {x : End} (o : Option Spot) → also o (λ a. end_of a.process) ≡ some x → (a : Spot) × (o ≡ some a) × (end_of a.process ≡ some x)
unfolding also
spot_ended none h = absurd (let z : ◌≡◌ {A = ℕ} 0 1 = cc in omega arith)
spot_ended (some a) h = (a, refl, h)

pub same_end : (x y : End) → T (same x y) → y ≡ x
unfolding same
same_end (waiting s o g) (waiting s' o' g') t =
    let (a, b, c) = three (eqb s s') (eqb o o') (eqb g g') t in
    let es : s ≡ s' = eqb→eq s s' a in
    let eo : o ≡ o' = eqb→eq o o' b in
    let eg : g ≡ g' = eqb→eq g g' c in
    cc
same_end (waiting s o g) (working s' o' g') t = absurd t
same_end (working s o g) (waiting s' o' g') t = absurd t
same_end (working s o g) (working s' o' g') t =
    let (a, b, c) = three (eqb s s') (eqb o o') (eqb g g') t in
    let es : s ≡ s' = eqb→eq s s' a in
    let eo : o ≡ o' = eqb→eq o o' b in
    let eg : g ≡ g' = eqb→eq g g' c in
    cc

same_itself : (x : End) → bit (same x x) ≡ 1
same_itself (waiting s o g) = waiting_same s o g
same_itself (working s o g) = working_same s o g

tally_own : (t : End → Bool) (r : Run) → bit (is_end t r) ≤ tally t r
unfolding tally
tally_own t nil = omega arith
tally_own t (seq p q) = omega arith
tally_own t (par p q) = omega arith
tally_own t (scope name mark zombie h p) = omega arith
tally_own t (executor o y client serial p) = omega arith
tally_own t (waiter o x dead server serial l) = omega arith
tally_own t (notice o f client serial) = omega arith
tally_own t (act p) = omega arith

pub is_same : (x : End) (r : Run) → T (is_end (same x) r) → end_of r ≡ some x
is_same x r t = by (end_of r) t
  where
    by : (o : Option End) → T (of_end (same x) o) → o ≡ some x
    by none t = absurd t
    by (some y) t = ap some (same_end x y t)

tally_itself : (x : End) (r : Run) → end_of r ≡ some x → 0 < tally (same x) r
tally_itself x r e = omega (arith, tally_own (same x) r, ap (λ o. bit (of_end (same x) o)) e, same_itself x)

ready_only : (s : ℕ) → OnlyEnds (ready s)
unfolding ready carries
ready_only s r e = rw e

-- ---- in a configuration that has a ledger

module _ {limits : Limits} {c : Config} (readable : Readable limits c) where
  -- every end that stands anywhere is named
  pub end_placed : (x : End) → 0 < everywhere (is_end (same x)) c → (e : ℕ) × (p : ℕ) × (end_at c e p ≡ some x)
  unfolding end_at also
  end_placed x h =
      let (e, p, n) = named_somewhere (is_end (same x)) (end_only (same x)) readable.fitting h in
      let (a, at, t) = spot_named (is_end (same x)) (enabled_at c e p) n in
      (e, p, rw at (is_same x a.process t))

  stands_there : (e p : ℕ) {a : Spot} → enabled_at c e p ≡ some a → (x : End) → 0 < tally (same x) a.process → stands c e x
  unfolding stands
  stands_there e p {a} at x h =
      let y : Standing c a = all_some_lem (enabled_standing c e p) at in
      let z : ends_at (same x) c a.engine ≡ ends_at (same x) c e = ap (ends_at (same x) c) (enabled_stands c e p a readable.fitting at).engine in
      omega (arith, y.ends (same x))

  -- an end that is named stands in its engine
  pub named_stands : (e p : ℕ) (x : End) → end_at c e p ≡ some x → stands c e x
  unfolding end_at
  named_stands e p x h =
      let (a, at, n) = spot_ended (enabled_at c e p) h in
      stands_there e p at x (tally_itself x a.process n)

  module _ {d : ℕ → ℕ} (l : Ledger c d) where
    pub named_paired :
        (s o o' g g' e p e' p' : ℕ) →
        end_at c e p ≡ some (waiting s o g) →
        end_at c e' p' ≡ some (working s o' g') →
        (o ≡ o') × (g ≡ e') × (g' ≡ e)
    named_paired s o o' g g' e p e' p' w k =
        ends_paired l s o o' g g' e e' (named_stands e p (waiting s o g) w) (named_stands e' p' (working s o' g') k)

    module _ (s : ℕ) where
      working_there : (e p : ℕ) {a : Spot} → enabled_at c e p ≡ some a → (x : Ready s a.process) → stands c e (working s (operation x) (client x))
      working_there e p at x = stands_there e p at (working s (operation x) (client x)) (ready_tally x)

      -- where a working end is ready there is a waiting end
      pub ready_awaited :
          0 < everywhere (ready s) c →
          (e : ℕ) × (p : ℕ) × (e' : ℕ) × (p' : ℕ) × names c (ready s) e p × names c (awaits s) e' p'
      unfolding awaits
      ready_awaited h =
          let (e, p, n) = named_somewhere (ready s) (ready_only s) readable.fitting h in
          let (a, at, t) = spot_named (ready s) (enabled_at c e p) n in
          let x : Ready s a.process = ready_seen s a.process t in
          let st : l.status s ≡ pending (operation x) (client x) e = by_working l s (operation x) (client x) e (working_there e p at x) in
          let one : tally_all (waits s) c.engines ≡ 1 = waits_all l s ∙ ap open_of st in
          let (e', p', w) = named_somewhere (is_end (waits s)) (end_only (waits s)) readable.fitting (omega (arith, everywhere_all (waits s) readable.fitting)) in
          (e, p, e', p', n, w)

      pub ready_deliverable :
          Agreed c →
          (e p e' p' : ℕ) (room : ℕ) →
          names c (ready s) e p →
          names c (awaits s) e' p' →
          length (encode c) ≤ room →
          (st : Stepped) × (step limits (encode c) (delivery e p e' p') room ≡ done st) × (st.serial ≡ s)
      ready_deliverable agreed e p e' p' room n n' fits =
          let (a, at, t) = spot_named (ready s) (enabled_at c e p) n in
          let (b, at', t') = spot_named (awaits s) (enabled_at c e' p') n' in
          let x : Ready s a.process = ready_seen s a.process t in
          let y : Awaiting s b.process = awaiting_seen s b.process t' in
          let w : stands c e' (waiting s (asked y) (server y)) = stands_there e' p' at' (waiting s (asked y) (server y)) (awaiting_tally y) in
          let (eo, es, ec) = ends_paired l s (asked y) (operation x) (server y) (client x) e' e w (working_there e p at x) in
          let apart : e' ≡ server y → ⊥ = subst Apart (by_waiting l s (asked y) (server y) e' w) (l.apart s) in
          delivery_accepted limits c readable s e p e' p' a b at at' (λ q. apart (sym q ∙ sym es)) (meets x y (counts e p at) (counts e' p' at') eo es ec) room fits
        where
          counts : (e p : ℕ) {a : Spot} → enabled_at c e p ≡ some a → Agrees agreed.index a.process
          counts e p at = (all_some_lem (enabled_kept any_closed Counted counted_on agreed e p) at).process
