-- What a ledger says: of each serial issued, how many waiting and working ends there are in all, and how its two ends name each other. A
-- fresh configuration has a ledger with no call open.
-- Assumes nothing.
use Prim.Native.Nat.{ℕ, zero, suc, ◌<◌}
use native.Mathlib.Omega.{arith}
use mathlib.Core.Path.{◌≡◌, refl, sym, ap, ◌∙◌}
use mathlib.Core.Bool.{Bool, not, ◌&&◌, cond}
use mathlib.Core.List.{List, [], ◌∷◌}
use lib.Dec.{T, eqb, eqb→eq, eqb-suc-suc}
use lib.ListN.{length}
use borrow.Author.Tests.{eq-eqb}
use Rattle.sock.specs.Reading.{is_empty}
use Rattle.sock.specs.Running.{Run, nil, seq, par, scope, executor, waiter, notice, act}
use Rattle.sock.specs.Configuration.{Engine, Config, is_unmarked, fresh_run, is_scope, fresh_engines, fresh}
use Rattle.sock.specs.Calls.{End, waiting, working, tally, tally_all, waits, works}
use Rattle.sock.specs.Runs.{same}
use Rattle.sock.proofs.Logic.{and_left, and_right}
use Rattle.sock.proofs.Turns.{here, here_same, here_other, here_zero, share, ends_in, ends_at}
use Rattle.sock.proofs.Ledger.{Status, idle, pending, share_of, open_of, Only, Ledger, waiting_only, working_only, waiting_found, working_found}

-- an end stands in an engine
unfoldable pub stands : Config → ℕ → End → Type 0
stands c e x = 0 < ends_at (same x) c e

-- ---- sums over the engines

here_suc : (i k n : ℕ) → here (suc i) (suc k) n ≡ here i k n
unfolding here
here_suc i k n = ap (λ b. cond b n 0) (eqb-suc-suc i k)

module _ (t : End → Bool) where
  pub ends_inside : (es : List Engine) (i : ℕ) → 0 < ends_in t es i → i < length es
  unfolding tally
  ends_inside [] i h = absurd (omega arith)
  ends_inside (e ∷ es) zero h = omega arith
  ends_inside (e ∷ es) (suc i) h = let x : i < length es = ends_inside es i h in omega arith

  pub all_none : (es : List Engine) → ((i : ℕ) → ends_in t es i ≡ 0) → tally_all t es ≡ 0
  unfolding tally_all
  all_none [] h = refl
  all_none (e ∷ es) h = omega (arith, h 0, all_none es (λ i. h (suc i)))

  -- engines that hold the same, one by one, hold the same in all
  pub all_same : (es fs : List Engine) → ((i : ℕ) → ends_in t es i ≡ ends_in t fs i) → tally_all t es ≡ tally_all t fs
  unfolding tally_all tally
  all_same [] fs h = sym (all_none fs (λ i. sym (h i)))
  all_same (e ∷ es) [] h = omega (arith, h 0, all_none es (λ i. h (suc i)))
  all_same (e ∷ es) (f ∷ fs) h = omega (arith, h 0, all_same es fs (λ i. h (suc i)))

  all_here : (es : List Engine) (k n : ℕ) → k < length es → ((i : ℕ) → ends_in t es i ≡ here i k n) → tally_all t es ≡ n
  unfolding tally_all
  all_here [] k n b h = absurd (omega arith)
  all_here (e ∷ es) zero n b h =
      omega (arith, h 0, here_same 0 0 n refl, all_none es (λ i. h (suc i) ∙ here_other (suc i) 0 n (λ e. omega arith)))
  all_here (e ∷ es) (suc k) n b h =
      omega (arith, h 0, here_other 0 (suc k) n (λ e. omega arith), all_here es k n (omega arith) (λ i. h (suc i) ∙ here_suc i k n))

-- ---- a serial's ends in all

waits_only : (s : ℕ) → Only s (waits s)
unfolding waits
waits_only s (waiting s' o g) t = sym (eqb→eq s s' t)
waits_only s (working s' o g) t = absurd t

works_only : (s : ℕ) → Only s (works s)
unfolding works
works_only s (waiting s' o g) t = absurd t
works_only s (working s' o g) t = sym (eqb→eq s s' t)

waits_share : (s i o client server : ℕ) → share (waits s) i s o client server ≡ here i client 1
unfolding waits
waits_share s i o client server = rw (eq-eqb s s refl) (omega (arith, here_zero i server))

works_share : (s i o client server : ℕ) → share (works s) i s o client server ≡ here i server 1
unfolding works
works_share s i o client server = rw (eq-eqb s s refl) (omega (arith, here_zero i client))

module _ {c : Config} {d : ℕ → ℕ} (l : Ledger c d) (s : ℕ) where
  -- the client's and the server's engine of an open call
  pub client_waits : {o client server : ℕ} → l.status s ≡ pending o client server → (i : ℕ) → ends_at (waits s) c i ≡ here i client 1
  client_waits {o} {client} {server} e i = l.ends s i (waits s) (waits_only s) ∙ ap (share_of (waits s) i s) e ∙ waits_share s i o client server

  pub server_works : {o client server : ℕ} → l.status s ≡ pending o client server → (i : ℕ) → ends_at (works s) c i ≡ here i server 1
  server_works {o} {client} {server} e i = l.ends s i (works s) (works_only s) ∙ ap (share_of (works s) i s) e ∙ works_share s i o client server

  pub waits_all : tally_all (waits s) c.engines ≡ open_of (l.status s)
  waits_all = by (l.status s) refl
    where
      by : (st : Status) → l.status s ≡ st → tally_all (waits s) c.engines ≡ open_of st
      by idle e = all_none (waits s) c.engines (λ i. l.ends s i (waits s) (waits_only s) ∙ ap (share_of (waits s) i s) e)
      by (pending o client server) e =
          let x = client_waits e in
          all_here (waits s) c.engines client 1 (ends_inside (waits s) c.engines client (omega (arith, x client, here_same client client 1 refl))) x

  pub works_all : tally_all (works s) c.engines ≡ open_of (l.status s)
  works_all = by (l.status s) refl
    where
      by : (st : Status) → l.status s ≡ st → tally_all (works s) c.engines ≡ open_of st
      by idle e = all_none (works s) c.engines (λ i. l.ends s i (works s) (works_only s) ∙ ap (share_of (works s) i s) e)
      by (pending o client server) e =
          let x = server_works e in
          all_here (works s) c.engines server 1 (ends_inside (works s) c.engines server (omega (arith, x server, here_same server server 1 refl))) x

  -- a status by an end that stands in an engine
  pub by_waiting : (o g e : ℕ) → stands c e (waiting s o g) → l.status s ≡ pending o e g
  unfolding stands
  by_waiting o g e h = waiting_found s o g e (l.status s) (omega (arith, l.ends s e (same (waiting s o g)) (waiting_only s o g)))

  pub by_working : (o g e : ℕ) → stands c e (working s o g) → l.status s ≡ pending o g e
  unfolding stands
  by_working o g e h = working_found s o g e (l.status s) (omega (arith, l.ends s e (same (working s o g)) (working_only s o g)))

  pub ends_paired : (o o' g g' e e' : ℕ) → stands c e (waiting s o g) → stands c e' (working s o' g') → (o ≡ o') × (g ≡ e') × (g' ≡ e)
  ends_paired o o' g g' e e' w k =
      let x : l.status s ≡ pending o e g = by_waiting o g e w in
      let y : l.status s ≡ pending o' g' e' = by_working o' g' e' k in
      (cc, cc, cc)

-- ---- a fresh start

module _ (t : End → Bool) where
  pub fresh_tally : (r : Run) → T (fresh_run r) → tally t r ≡ 0
  unfolding fresh_run tally
  fresh_tally nil f = refl
  fresh_tally (seq p q) f = fresh_tally p f
  fresh_tally (par p q) f =
      omega (arith, fresh_tally p (and_left (fresh_run p) (fresh_run q) f), fresh_tally q (and_right (fresh_run p) (fresh_run q) f))
  fresh_tally (scope name mark zombie h p) f = fresh_tally p (and_right (is_unmarked mark && not zombie && is_empty h) (fresh_run p) f)
  fresh_tally (executor o y client serial p) f = absurd f
  fresh_tally (waiter o x dead server serial l) f = absurd f
  fresh_tally (notice o g client serial) f = absurd f
  fresh_tally (act p) f = refl

  fresh_ends : (es : List Engine) → T (fresh_engines es) → (i : ℕ) → ends_in t es i ≡ 0
  unfolding fresh_engines tally
  fresh_ends [] f i = refl
  fresh_ends (e ∷ es) f zero =
      fresh_tally e.process
      (and_right (is_scope e.process) (fresh_run e.process) (and_left (is_scope e.process && fresh_run e.process) (fresh_engines es) f))
  fresh_ends (e ∷ es) f (suc i) = fresh_ends es (and_right (is_scope e.process && fresh_run e.process) (fresh_engines es) f) i

pub fresh_ledger : (c : Config) → T (fresh c) → (c.issued ≡ 0) × Ledger c (λ s. 0)
unfolding fresh
fresh_ledger c f =
    let z : c.issued ≡ 0 = eqb→eq c.issued 0 (and_left (eqb c.issued 0) (fresh_engines c.engines) f) in (
      z,
      record {
        status = λ s. idle;
        ends = λ s i t only. fresh_ends t c.engines (and_right (eqb c.issued 0) (fresh_engines c.engines) f) i;
        apart = λ s. tt;
        given = λ s a b. absurd (omega arith);
        others = λ s g. refl;
      },
    )
