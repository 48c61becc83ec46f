-- The ledger: for each serial, whether its call is open, for which operation and between which engines. What the engines hold of a serial's
-- ends is what the ledger says of it, and each serial issued is either open or delivered once. Every turn keeps such a ledger.
-- Assumes nothing.
use Prim.Native.Nat.{ℕ, suc, ◌+◌, ◌≤◌, ◌<◌}
use native.Mathlib.Omega.{arith}
use native.Mathlib.Decide.{ℕ_discrete}
use mathlib.Core.Path.{◌≡◌, refl, subst, sym, ap, ◌∙◌}
use mathlib.Core.Bool.{Bool, true, false, ◌&&◌, cond}
use lib.Dec.{T, eqb, eqb→eq}
use borrow.Author.Tests.{ne_eqb, eq-eqb}
use Rattle.sock.specs.Words.{bit}
use Rattle.sock.specs.Running.{Run}
use Rattle.sock.specs.Configuration.{Config}
use Rattle.sock.specs.Calls.{End, waiting, working}
use Rattle.sock.specs.Engines.{serial_of}
use Rattle.sock.specs.Runs.{carries, same}
use Rattle.sock.proofs.Fields.{three}
use Rattle.sock.proofs.Moves.{Quiet}
use Rattle.sock.proofs.Turns.{here, here_same, here_other, here_zero, share, ends_at, Turn, quietly, begins, ended}

-- no call open; or one, with its operation, client and server
pub data Status : Type 0 where
  idle : Status
  pending : ℕ → ℕ → ℕ → Status

-- the ends of serial s in engine i that pass a test, by the ledger
abbrev pub share_of : (End → Bool) → ℕ → ℕ → Status → ℕ
share_of t i s idle = 0
share_of t i s (pending o client server) = share t i s o client server

abbrev pub open_of : Status → ℕ
open_of idle = 0
open_of (pending o client server) = 1

abbrev pub Apart : Status → Type 0
Apart idle = Unit {0}
Apart (pending o client server) = client ≡ server → ⊥

-- a test that only ends of serial s pass
abbrev pub Only : ℕ → (End → Bool) → Type 0
Only s t = (x : End) → T (t x) → serial_of x ≡ s

pub record Ledger (c : Config) (delivered : ℕ → ℕ) : Type 0 where
  pub status : ℕ → Status
  pub ends : (s i : ℕ) (t : End → Bool) → Only s t → ends_at t c i ≡ share_of t i s (status s)
  pub apart : (s : ℕ) → Apart (status s)
  pub given : (s : ℕ) → 0 < s → s ≤ c.issued → open_of (status s) + delivered s ≡ 1
  pub others : (s : ℕ) → (0 < s → s ≤ c.issued → ⊥) → open_of (status s) + delivered s ≡ 0

-- ---- a status found by its ends

bit_positive : (b : Bool) → 0 < bit b → T b
bit_positive true h = tt
bit_positive false h = absurd (omega arith)

bit_none : (b : Bool) → (T b → ⊥) → bit b ≡ 0
bit_none true f = absurd (f tt)
bit_none false f = refl

here_positive : (i k : ℕ) (b : Bool) → 0 < here i k (bit b) → (i ≡ k) × T b
here_positive i k b h = by (ℕ_discrete i k)
  where
    by : Dec (i ≡ k) → (i ≡ k) × T b
    by (yes e) = (e, bit_positive b (omega (arith, here_same i k (bit b) e)))
    by (no e) = absurd (omega (arith, here_other i k (bit b) e))

module _ (s o g : ℕ) where
  pub waiting_only : Only s (same (waiting s o g))
  unfolding same
  waiting_only (waiting s' o' g') t = sym (eqb→eq s s' (three (eqb s s') (eqb o o') (eqb g g') t).0)
  waiting_only (working s' o' g') t = absurd t

  pub working_only : Only s (same (working s o g))
  unfolding same
  working_only (waiting s' o' g') t = absurd t
  working_only (working s' o' g') t = sym (eqb→eq s s' (three (eqb s s') (eqb o o') (eqb g g') t).0)

  pub waiting_same : bit (same (waiting s o g) (waiting s o g)) ≡ 1
  unfolding same
  waiting_same = rw (eq-eqb s s refl, eq-eqb o o refl, eq-eqb g g refl)

  pub working_same : bit (same (working s o g) (working s o g)) ≡ 1
  unfolding same
  working_same = rw (eq-eqb s s refl, eq-eqb o o refl, eq-eqb g g refl)

  pub waiting_found : (e : ℕ) (st : Status) → 0 < share_of (same (waiting s o g)) e s st → st ≡ pending o e g
  unfolding same
  waiting_found e idle h = absurd (omega arith)
  waiting_found e (pending o' client server) h =
      let x = here_positive e client (eqb s s && eqb o o' && eqb g server) (omega (arith, here_zero e server)) in
      let y = three (eqb s s) (eqb o o') (eqb g server) x.1 in
      let ec : e ≡ client = x.0 in
      let eo : o ≡ o' = eqb→eq o o' y.1 in
      let eg : g ≡ server = eqb→eq g server y.2 in
      cc

  pub working_found : (e : ℕ) (st : Status) → 0 < share_of (same (working s o g)) e s st → st ≡ pending o g e
  unfolding same
  working_found e idle h = absurd (omega arith)
  working_found e (pending o' client server) h =
      let x = here_positive e server (eqb s s && eqb o o' && eqb g client) (omega (arith, here_zero e client)) in
      let y = three (eqb s s) (eqb o o') (eqb g client) x.1 in
      let es : e ≡ server = x.0 in
      let eo : o ≡ o' = eqb→eq o o' y.1 in
      let eg : g ≡ client = eqb→eq g client y.2 in
      cc

-- ends of another serial pass no such test
pub share_other : {s n : ℕ} (t : End → Bool) → Only s t → (s ≡ n → ⊥) → (i o client server : ℕ) → share t i n o client server ≡ 0
share_other {s} {n} t only d i o client server =
    let w : bit (t (waiting n o server)) ≡ 0 = bit_none (t (waiting n o server)) (λ u. d (sym (only (waiting n o server) u))) in
    let k : bit (t (working n o client)) ≡ 0 = bit_none (t (working n o client)) (λ u. d (sym (only (working n o client) u))) in
    let wz : here i client (bit (t (waiting n o server))) ≡ here i client 0 = ap (here i client) w in
    let kz : here i server (bit (t (working n o client))) ≡ here i server 0 = ap (here i server) k in
    omega (arith, here_zero i client, here_zero i server)

-- ---- one serial's status changed

unfoldable changed : ℕ → Status → (ℕ → Status) → ℕ → Status
changed n st status s = cond (eqb s n) st (status s)

changed_here : (n : ℕ) (st : Status) (status : ℕ → Status) → changed n st status n ≡ st
unfolding changed
changed_here n st status = rw (eq-eqb n n refl)

changed_other : (n : ℕ) (st : Status) (status : ℕ → Status) {s : ℕ} → (s ≡ n → ⊥) → changed n st status s ≡ status s
unfolding changed
changed_other n st status {s} d = rw (ne_eqb s n d)

-- what holds of serial n with the new status, and of every other with the old one, holds of each
by_serial :
    (P : ℕ → Status → Type 0) (n : ℕ) (st : Status) (status : ℕ → Status) (s : ℕ) →
    P n st →
    ((s ≡ n → ⊥) → P s (status s)) →
    P s (changed n st status s)
by_serial P n st status s x y = by (ℕ_discrete s n)
  where
    by : Dec (s ≡ n) → P s (changed n st status s)
    by (yes e) = subst (λ s. P s (changed n st status s)) (sym e) (subst (P n) (sym (changed_here n st status)) x)
    by (no d) = subst (P s) (sym (changed_other n st status d)) (y d)

idle_when : (st : Status) → open_of st ≡ 0 → st ≡ idle
idle_when idle e = refl
idle_when (pending o client server) e = absurd (omega arith)

-- ---- every turn keeps a ledger

module _ {c c' : Config} {d : ℕ → ℕ} (p : Run) (l : Ledger c d) where
  kept : Quiet p → c'.issued ≡ c.issued → ((i : ℕ) (t : End → Bool) → ends_at t c' i ≡ ends_at t c i) → Ledger c' (λ s. d s + bit (carries s p))
  kept u e h =
      record {
        status = l.status;
        ends = λ s i t only. h i t ∙ l.ends s i t only;
        apart = l.apart;
        given = λ s a b. rw (u.delivers s) (omega (arith, l.given s a (omega arith)));
        others = λ s f. rw (u.delivers s) (omega (arith, l.others s (λ a b. f a (omega arith))));
      }

  module _ (o client server : ℕ) where
    opened :
        (client ≡ server → ⊥) →
        ((s : ℕ) → carries s p ≡ false) →
        c'.issued ≡ suc c.issued →
        ((i : ℕ) (t : End → Bool) → ends_at t c' i ≡ ends_at t c i + share t i (suc c.issued) o client server) →
        Ledger c' (λ s. d s + bit (carries s p))
    opened a k e h =
        record {
          status = changed n st l.status;
          ends = λ s i t only. by_serial (λ s st. Only s t → ends_at t c' i ≡ share_of t i s st) n st l.status s (λ m. first i t m) (λ d m. next d i t m) only;
          apart = λ s. by_serial (λ s st. Apart st) n st l.status s a (λ d. l.apart s);
          given =
              λ s b g.
              by_serial (λ s st. open_of st + (d s + bit (carries s p)) ≡ 1) n st l.status s (rw (k n) (omega (arith, unused)))
              (λ f. rw (k s) (omega (arith, l.given s b (omega arith))));
          others =
              λ s f.
              by_serial (λ s st. (0 < s → s ≤ c'.issued → ⊥) → open_of st + (d s + bit (carries s p)) ≡ 0) n st l.status s
              (λ f. absurd (f (omega arith) (omega arith)))
              (λ g f. rw (k s) (omega (arith, l.others s (λ a b. f a (omega arith)))))
              f;
        }
      where
        n : ℕ
        n = suc c.issued

        st : Status
        st = pending o client server

        unused : open_of (l.status n) + d n ≡ 0
        unused = l.others n (λ a b. omega arith)

        free : l.status n ≡ idle
        free = idle_when (l.status n) (omega (arith, unused))

        first : (i : ℕ) (t : End → Bool) → Only n t → ends_at t c' i ≡ share t i n o client server
        first i t m = omega (arith, h i t, l.ends n i t m ∙ ap (share_of t i n) free)

        next : {s : ℕ} → (s ≡ n → ⊥) → (i : ℕ) (t : End → Bool) → Only s t → ends_at t c' i ≡ share_of t i s (l.status s)
        next {s} f i t m = omega (arith, h i t, l.ends s i t m, share_other t m f i o client server)

    closed :
        (s₀ : ℕ) →
        ((s : ℕ) → carries s p ≡ eqb s s₀) →
        c'.issued ≡ c.issued →
        ((i : ℕ) (t : End → Bool) → ends_at t c' i + share t i s₀ o client server ≡ ends_at t c i) →
        Ledger c' (λ s. d s + bit (carries s p))
    closed s₀ k e h =
        record {
          status = changed s₀ idle l.status;
          ends = λ s i t only. by_serial (λ s st. Only s t → ends_at t c' i ≡ share_of t i s st) s₀ idle l.status s (λ m. last i t m) (λ d m. next d i t m) only;
          apart = λ s. by_serial (λ s st. Apart st) s₀ idle l.status s tt (λ d. l.apart s);
          given =
              λ s b g.
              by_serial (λ s st. 0 < s → s ≤ c.issued → open_of st + (d s + bit (carries s p)) ≡ 1) s₀ idle l.status s
              (λ b g. rw (k s₀, eq-eqb s₀ s₀ refl) (omega (arith, l.given s₀ b g, was)))
              (λ f b g. rw (k s, ne_eqb s s₀ f) (omega (arith, l.given s b g)))
              b (omega arith);
          others =
              λ s f.
              by_serial (λ s st. (0 < s → s ≤ c.issued → ⊥) → open_of st + (d s + bit (carries s p)) ≡ 0) s₀ idle l.status s
              (λ f. absurd (omega (arith, l.others s₀ f, was)))
              (λ g f. rw (k s, ne_eqb s s₀ g) (omega (arith, l.others s f)))
              (λ a b. f a (omega arith));
        }
      where
        held : l.status s₀ ≡ pending o client server
        held =
            let x : End → Bool = same (working s₀ o client) in
            let own : here server server (bit (x (working s₀ o client))) ≡ 1 = here_same server server _ refl ∙ working_same s₀ o client in
            working_found s₀ o client server (l.status s₀) (omega (arith, h server x, l.ends s₀ server x (working_only s₀ o client)))

        was : open_of (l.status s₀) ≡ 1
        was = ap open_of held

        last : (i : ℕ) (t : End → Bool) → Only s₀ t → ends_at t c' i ≡ 0
        last i t m = omega (arith, h i t, l.ends s₀ i t m ∙ ap (share_of t i s₀) held)

        next : {s : ℕ} → (s ≡ s₀ → ⊥) → (i : ℕ) (t : End → Bool) → Only s t → ends_at t c' i ≡ share_of t i s (l.status s)
        next {s} f i t m = omega (arith, h i t, l.ends s i t m, share_other t m f i o client server)

  pub ledger_turns : {serial : ℕ} → Turn c c' p serial → Ledger c' (λ s. d s + bit (carries s p))
  ledger_turns (quietly u e h) = kept u e h
  ledger_turns (begins o client server a u k e f h) = opened o client server a k e h
  ledger_turns (ended s o client server u k e f h) = closed o client server s k e h

-- the deliveries counted another way
pub ledger_same : {c : Config} {d d' : ℕ → ℕ} → ((s : ℕ) → d s ≡ d' s) → Ledger c d → Ledger c d'
ledger_same h l =
    record {
      status = l.status;
      ends = l.ends;
      apart = l.apart;
      given = λ s a b. omega (arith, h s, l.given s a b);
      others = λ s f. omega (arith, h s, l.others s f);
    }
