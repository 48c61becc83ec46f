-- What an accepted step does to the open serials, told by its kind and the serial answered: a solicit opens the next serial, a delivery closes
-- its own, and any other step opens and closes none.
-- Assumes nothing.
use Prim.Native.Nat.{ℕ, suc, ◌+◌, ◌≤◌, ◌<◌}
use native.Mathlib.Omega.{arith}
use native.Mathlib.Decide.{dec_le}
use mathlib.Core.Path.{◌≡◌, refl, sym, ap, subst, ◌∙◌}
use mathlib.Core.Bool.{Bool, true, false, ◌||◌}
use mathlib.Core.Option.{some}
use mathlib.Core.List.{List}
use lib.Dec.{T, ltb, eqb}
use borrow.Author.Tests.{lt-ltb, le-ltb, ne_eqb, eq-eqb}
use Rattle.sock.specs.Kind
use Rattle.sock.specs.Words.{bit}
use Rattle.sock.specs.Term.{kind}
use Rattle.sock.specs.Running.{Run, as_node}
use Rattle.sock.specs.Configuration.{Limits, Config, read_config}
use Rattle.sock.specs.Calls.{done, Numbers, Spot, enabled_at, Stepped, step, tally_all, works, waits}
use Rattle.sock.specs.Runs.{is_solicit, carries}
use Rattle.sock.specs.Index.{up_to, has_waiter, open_serials, put_in, take_out, open_after}
use Rattle.sock.proofs.Logic.{all_some_lem}
use Rattle.sock.proofs.Fits.{Sound, nil_sound, seq_sound, par_sound, scope_sound, executor_sound, waiter_sound, notice_sound, act_sound}
use Rattle.sock.proofs.ByKind.{run_kind, kind_as_node, code_kind}
use Rattle.sock.proofs.Configuration.{config_found}
use Rattle.sock.proofs.Steps.{sure_done_lem, enabled_fits}
use Rattle.sock.proofs.Taken.{Taken, taken_alone, taken_between, step_accepts}
use Rattle.sock.proofs.Turns.{Turn, quietly, begins, ended, Stepping, step_turns}
use Rattle.sock.proofs.Ledger.{Ledger, ledger_turns}
use Rattle.sock.proofs.Accounts.{waits_all, all_same}
use Rattle.sock.proofs.Engines.{Calm}
use Rattle.sock.proofs.Index.{up_to_same, put_in_up_to, take_out_up_to}

-- ---- by the kind

-- an executor or a notice
abbrev delivers : ℕ → Bool
delivers k = eqb k Kind.executor || eqb k Kind.notice

-- just these carry a serial
delivers_kind : {n issued : ℕ} {p : Run} → Sound n issued p → (s : ℕ) → carries s p ≡ true → delivers (run_kind p) ≡ true
unfolding carries works
delivers_kind nil_sound s e = e
delivers_kind (seq_sound a d q) s e = e
delivers_kind (par_sound a d b d') s e = e
delivers_kind (scope_sound b m h a) s e = e
delivers_kind (executor_sound bo by f a) s e = refl
delivers_kind (waiter_sound bo bx f l) s e = e
delivers_kind (notice_sound bo bf f) s e = refl
delivers_kind (act_sound i f) s e = absurd (subst T (sym e) tt)

quiet_kind : {n issued : ℕ} {p : Run} → Sound n issued p → ((s : ℕ) → carries s p ≡ false) → delivers (run_kind p) ≡ false
unfolding carries works
quiet_kind nil_sound h = refl
quiet_kind (seq_sound a d q) h = refl
quiet_kind (par_sound a d b d') h = refl
quiet_kind (scope_sound b m l a) h = refl
quiet_kind (executor_sound {serial = s} bo by f a) h = absurd (subst T (sym (eq-eqb s s refl) ∙ h s) tt)
quiet_kind (waiter_sound bo bx f l) h = refl
quiet_kind (notice_sound {serial = s} bo bf f) h = absurd (subst T (sym (eq-eqb s s refl) ∙ h s) tt)
quiet_kind (act_sound {p} i f) h =
    let b : kind p < 15 = code_kind f in
    rw (ne_eqb (kind p) 16 (λ e. omega arith), ne_eqb (kind p) 18 (λ e. omega arith))

-- ---- by the ledger

abbrev waiters : Config → ℕ → ℕ
waiters c s = tally_all (waits s) c.engines

module _ {c : Config} {d : ℕ → ℕ} (l : Ledger c d) (s : ℕ) where
  issued_waiters : 0 < s → s ≤ c.issued → waiters c s + d s ≡ 1
  issued_waiters a b = omega (arith, waits_all l s, l.given s a b)

  later_waiters : c.issued < s → waiters c s + d s ≡ 0
  later_waiters a = omega (arith, waits_all l s, l.others s (λ b e. omega arith))

  most_waiters : waiters c s + d s ≤ 1
  most_waiters = by (dec_le 1 s) (dec_le s c.issued)
    where
      by : Dec (0 < s) → Dec (s ≤ c.issued) → waiters c s + d s ≤ 1
      by (yes a) (yes b) = omega (arith, issued_waiters a b)
      by (yes a) (no b) = omega (arith, waits_all l s, l.others s (λ u v. b v))
      by (no a) b = omega (arith, waits_all l s, l.others s (λ u v. a u))

-- ---- a turn

module _ {c c' : Config} {d : ℕ → ℕ} (p : Run) (l : Ledger c d) (l' : Ledger c' (λ s. d s + bit (carries s p))) where
  -- a serial that the process does not carry
  same_open : (s : ℕ) → carries s p ≡ false → 0 < s → s ≤ c.issued → s ≤ c'.issued → has_waiter c s ≡ has_waiter c' s
  unfolding has_waiter
  same_open s k a b b' =
      let none : bit (carries s p) ≡ 0 = ap bit k in
      let e : waiters c s ≡ waiters c' s = omega (arith, issued_waiters l s a b, issued_waiters l' s a b') in
      ap (λ n. ltb 0 n) e

  quiet_open : ((s : ℕ) → carries s p ≡ false) → c'.issued ≡ c.issued → open_serials c ≡ open_serials c'
  unfolding open_serials
  quiet_open k e =
      up_to_same (has_waiter c) (has_waiter c') c.issued (λ s a b. same_open s (k s) a b (omega arith)) ∙ ap (up_to (has_waiter c')) (sym e)

  begun_open : ((s : ℕ) → carries s p ≡ false) → c'.issued ≡ suc c.issued → put_in (suc c.issued) (open_serials c) ≡ open_serials c'
  unfolding open_serials has_waiter
  begun_open k e =
      let n : ℕ = suc c.issued in
      let none : bit (carries n p) ≡ 0 = ap bit (k n) in
      let new : 0 < waiters c' n = omega (arith, later_waiters l n (omega arith), issued_waiters l' n (omega arith) (omega arith)) in
      put_in_up_to (has_waiter c) (has_waiter c') c.issued (λ s a b. same_open s (k s) a b (omega arith)) (lt-ltb 0 (waiters c' n) new)
      ∙ ap (up_to (has_waiter c')) (sym e)

  ended_open : (s : ℕ) → ((s' : ℕ) → carries s' p ≡ eqb s' s) → c'.issued ≡ c.issued → take_out s (open_serials c) ≡ open_serials c'
  unfolding open_serials has_waiter
  ended_open s k e =
      let once : bit (carries s p) ≡ 1 = ap bit (k s ∙ eq-eqb s s refl) in
      take_out_up_to (has_waiter c) (has_waiter c') s c.issued (λ m f a b. same_open m (k m ∙ ne_eqb m s f) a b (omega arith))
      (le-ltb 0 (waiters c' s) (omega (arith, most_waiters l' s)))
      ∙ ap (up_to (has_waiter c')) (sym e)

-- by its kind: what the answer says tells the rest
module _ (s : Stepped) (ss : List ℕ) where
  other_kind : eqb s.kind Kind.solicit ≡ false → delivers s.kind ≡ false → open_after s ss ≡ ss
  unfolding open_after
  other_kind a b = rw (a, b)

  solicit_kind : eqb s.kind Kind.solicit ≡ true → open_after s ss ≡ put_in s.serial ss
  unfolding open_after
  solicit_kind a = rw a

  delivery_kind : eqb s.kind Kind.solicit ≡ false → delivers s.kind ≡ true → open_after s ss ≡ take_out s.serial ss
  unfolding open_after
  delivery_kind a b = rw (a, b)

turn_open :
    {c : Config} {d : ℕ → ℕ} {p : Run} {n issued : ℕ} (s : Stepped) →
    s.kind ≡ kind (as_node p) →
    Sound n issued p →
    Ledger c d →
    Ledger s.config (λ s. d s + bit (carries s p)) →
    Turn c s.config p s.serial →
    open_after s (open_serials c) ≡ open_serials s.config
unfolding is_solicit
turn_open {c} {p = p} s e g l l' (quietly u i h) =
    other_kind s (open_serials c) (ap (λ k. eqb k Kind.solicit) e ∙ u.asks) (ap delivers (e ∙ kind_as_node g) ∙ quiet_kind g u.delivers)
    ∙ quiet_open p l l' u.delivers i
turn_open {c} {p = p} s e g l l' (begins o client server a u k i f h) =
    solicit_kind s (open_serials c) (ap (λ k. eqb k Kind.solicit) e ∙ u)
    ∙ ap (λ m. put_in m (open_serials c)) f
    ∙ begun_open p l l' k i
turn_open {c} {p = p} s e g l l' (ended m o client server u k i f h) =
    delivery_kind s (open_serials c) (ap (λ k. eqb k Kind.solicit) e ∙ u)
    (ap delivers (e ∙ kind_as_node g) ∙ delivers_kind g m (k m ∙ eq-eqb m m refl))
    ∙ ap (λ m. take_out m (open_serials c)) f
    ∙ ended_open p l l' m k i

-- ---- an accepted step

taken_kind : {c : Config} {k : Numbers} {s : Stepped} {a : Spot} → Taken c k s → enabled_at c k.engine k.position ≡ some a → s.kind ≡ kind (as_node a.process)
taken_kind {a = a} (taken_alone b vs p at e t) named = let same : b ≡ a = cc in ap (λ a. kind (as_node a.process)) same
taken_kind {a = a} (taken_between b b' m x at e meets t q) named = let same : b ≡ a = cc in ap (λ a. kind (as_node a.process)) same

pub step_open :
    (limits : Limits) (ws : List ℕ) (k : Numbers) (room : ℕ) (s : Stepped) → step limits ws k room ≡ done s →
    {c : Config} → read_config limits ws ≡ some c → {d : ℕ → ℕ} → Ledger c d →
    open_after s (open_serials c) ≡ open_serials s.config
step_open limits ws k room s e {c} r l =
    let x : Stepping limits ws k s = sure_done_lem (step_turns limits ws k room) e in
    let y = sure_done_lem (step_accepts limits ws k room) e in
    let here : x.before ≡ c = cc in
    let there : y.config ≡ c = cc in
    let at : enabled_at c k.engine k.position ≡ some x.spot = subst (λ c. enabled_at c k.engine k.position ≡ some x.spot) here x.named in
    let turn : Turn c s.config x.spot.process s.serial = subst (λ c. Turn c s.config x.spot.process s.serial) here x.turn in
    turn_open s (taken_kind (subst (λ c. Taken c k s) there y.taken) at)
    (all_some_lem (enabled_fits (config_found limits ws c r).1.fitting k.engine k.position) at).process l (ledger_turns x.spot.process l turn) turn

-- ---- a joining, a leaving

-- engines that hold the same ends have the same serials open
pub calm_open : {limits : Limits} {c c' : Config} → Calm limits c c' → open_serials c' ≡ open_serials c
unfolding open_serials has_waiter
calm_open {c = c} {c'} x =
    up_to_same (has_waiter c') (has_waiter c) c'.issued (λ s a b. ap (λ n. ltb 0 n) (all_same (waits s) c'.engines c.engines (λ i. x.ends i (waits s))))
    ∙ ap (up_to (has_waiter c)) x.issued
