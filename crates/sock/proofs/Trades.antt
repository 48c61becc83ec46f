-- What an exchange does to the ends of its two processes, for every test: nothing; or the sender becomes a waiting end and the receiver a
-- working one; or the sender was a working end, the receiver the waiting one that it names, and both are gone.
-- Assumes nothing.
use Prim.Native.Nat.{ℕ, suc, ◌+◌}
use native.Mathlib.Omega.{arith}
use mathlib.Core.Path.{◌≡◌, refl, sym, ap, ◌∙◌}
use mathlib.Core.Bool.{Bool, true, false, ◌&&◌}
use mathlib.Core.Option.{Option, none, some}
use mathlib.Core.List.{List}
use lib.Dec.{T, eqb, eqb→eq}
use Rattle.sock.specs.Words.{bit}
use Rattle.sock.specs.Term.{Node, Entries}
use Rattle.sock.specs.Running.{Run, nil, seq, par, scope, executor, waiter, notice, act, enable}
use Rattle.sock.specs.Configuration.{guarded}
use Rattle.sock.specs.Frames.{Frame}
use Rattle.sock.specs.Rules.{Message, sends, Receiver, deaf, hears, serves, offer, followed, Meeting, offered_to, if_hears, if_serves, if_waits, awaited, Exchange, exchange}
use Rattle.sock.specs.Calls.{End, waiting, working, tally}
use Rattle.sock.specs.Runs.{is_solicit, carries}
use Rattle.sock.proofs.Logic.{cond-case, All, all_none, all_some, all_guarded, all_map}
use Rattle.sock.proofs.Tallies.{enable_tally, seq_of_tally}
use Rattle.sock.proofs.Moves.{Holds, Quiet, Delivers, Endless, Moves, notifies, asking, replies, faults}

-- what an exchange makes of the ends of the sender p in engine a, and of the receiver q in engine b
pub data Trade (issued a b : ℕ) (p q : Run) (x : Exchange) : Type 0 where
  quiet_trade : Quiet p → x.issued ≡ issued → Holds (λ t. tally t p) x.sender → Holds (λ t. tally t q) x.receiver → Trade issued a b p q x
  new_trade :
      (o : ℕ) →
      is_solicit p ≡ true →
      ((s : ℕ) → carries s p ≡ false) →
      x.issued ≡ suc issued →
      x.serial ≡ suc issued →
      Holds (λ t. tally t p + bit (t (waiting (suc issued) o b))) x.sender →
      Holds (λ t. tally t q + bit (t (working (suc issued) o a))) x.receiver →
      Trade issued a b p q x
  last_trade :
      (s o : ℕ) →
      is_solicit p ≡ false →
      ((s' : ℕ) → carries s' p ≡ eqb s' s) →
      x.issued ≡ issued →
      x.serial ≡ s →
      ((t : End → Bool) → tally t x.sender + bit (t (working s o b)) ≡ tally t p) →
      ((t : End → Bool) → tally t x.receiver + bit (t (waiting s o a)) ≡ tally t q) →
      Trade issued a b p q x

-- who can hear a message holds no end
data Hearing (q : Run) : Receiver → Type 0 where
  hears_nothing : Hearing q deaf
  hears_any : (r : Receiver) → Endless q → Hearing q r

offer_hearing : (q : Run) (i : ℕ) → Hearing q (offer q i).receives
unfolding offer tally
offer_hearing nil i = hears_nothing
offer_hearing (seq p q) i = hears_nothing
offer_hearing (par p q) i = hears_nothing
offer_hearing (scope name mark zombie h p) i = hears_nothing
offer_hearing (executor o y client serial p) i = hears_nothing
offer_hearing (waiter o x dead server serial l) i = hears_nothing
offer_hearing (notice o f client serial) i = hears_nothing
offer_hearing (act p) i = hears_any (offer (act p) i).receives (λ t. refl)

followed_tally : (t : End → Bool) (p : Run) (next : Option Node) → tally t (followed p next) ≡ tally t p
unfolding followed
followed_tally t p none = refl
followed_tally t p (some q) = seq_of_tally t p q

-- the four last of five tests
five : (i j k l m : Bool) → T (i && j && k && l && m) → T j × T k × T l × T m
five true true true true true t = (tt, tt, tt, tt)
five true true true true false t = absurd t
five true true true false m t = absurd t
five true true false l m t = absurd t
five true false k l m t = absurd t
five false j k l m t = absurd t

hears_traded :
    {A : Type 0} {P : A → Type 0} {q : Run} {r : Receiver} {k : ℕ → List ℕ → Option A} → Hearing q r →
    ((o : ℕ) (x : List ℕ) → Endless q → All P (k o x)) → All P (if_hears r k)
unfolding if_hears
hears_traded hears_nothing f = all_none
hears_traded (hears_any deaf w) f = all_none
hears_traded (hears_any (hears o x) w) f = f o x w
hears_traded (hears_any (serves o x y p) w) f = all_none

serves_traded :
    {A : Type 0} {P : A → Type 0} {q : Run} {r : Receiver} {k : ℕ → List ℕ → List ℕ → Node → Option A} → Hearing q r →
    ((o : ℕ) (x y : List ℕ) (p : Node) → Endless q → All P (k o x y p)) → All P (if_serves r k)
unfolding if_serves
serves_traded hears_nothing f = all_none
serves_traded (hears_any deaf w) f = all_none
serves_traded (hears_any (hears o x) w) f = all_none
serves_traded (hears_any (serves o x y p) w) f = f o x y p w

module _ (k : Meeting) (p : Run) where
  abbrev Trades : Exchange → Type 0
  Trades = Trade k.issued k.sender k.receiver p k.process

  -- a waiter that a working end is for, and both are gone
  awaited_trade :
      (o client serial : ℕ) (made : List ℕ → Bool → Entries → Option Exchange) →
      Delivers p serial o client →
      ((x : List ℕ) (dead : Bool) (l : Entries) →
      All (λ (e : Exchange). (e.issued ≡ k.issued) × (e.serial ≡ serial) × Endless e.sender × Endless e.receiver) (made x dead l)) →
      All Trades (awaited k o client serial made)
  unfolding awaited if_waits tally
  awaited_trade o client serial made u z = by k.process refl
    where
      by :
          (r : Run) → r ≡ k.process →
          All Trades
          (if_waits r λ op x dead server s l.
          guarded (eqb k.branch 0 && eqb serial s && eqb o op && eqb client k.receiver && eqb server k.sender) (made x dead l))
      by nil e = all_none
      by (seq r r') e = all_none
      by (par r r') e = all_none
      by (scope name mark zombie h r) e = all_none
      by (executor o' y c s r) e = all_none
      by (notice o' f c s) e = all_none
      by (act r) e = all_none
      by (waiter op x dead server s l) e =
          all_guarded (eqb k.branch 0 && eqb serial s && eqb o op && eqb client k.receiver && eqb server k.sender) λ g.
          let h = five (eqb k.branch 0) (eqb serial s) (eqb o op) (eqb client k.receiver) (eqb server k.sender) g in
          let es : serial ≡ s = eqb→eq serial s h.0 in
          let eo : o ≡ op = eqb→eq o op h.1 in
          let ec : client ≡ k.receiver = eqb→eq client k.receiver h.2 in
          let ea : server ≡ k.sender = eqb→eq server k.sender h.3 in
          let ew : waiting s op server ≡ waiting serial o k.sender = cc in
          let ek : working serial o client ≡ working serial o k.receiver = cc in
          all_map
          (λ m w.
          last_trade serial o u.asks u.delivers w.0 w.1
          (λ t.
          let c : bit (t (working serial o client)) ≡ bit (t (working serial o k.receiver)) = ap (λ w. bit (t w)) ek in
          omega (arith, u.own t, w.2 t))
          (λ t.
          let c : bit (t (waiting s op server)) ≡ bit (t (waiting serial o k.sender)) = ap (λ w. bit (t w)) ew in
          let d : bit (t (waiting s op server)) ≡ tally t k.process = ap (tally t) e in
          omega (arith, w.3 t)))
          (z x dead l)

  pub exchange_trade : {fs : List Frame} {m : Message} → Moves fs p (sends m) → All Trades (exchange k m)
  unfolding exchange tally
  exchange_trade (notifies {z = z} u w) =
      all_guarded (eqb z k.receiver) λ g.
      hears_traded (offer_hearing k.process k.branch) λ op x e.
      all_guarded _ λ t. all_some (quiet_trade u refl (λ t. sym (w t)) (λ t. followed_tally t nil (offered_to k).next ∙ sym (e t)))
  exchange_trade (asking {o = o} {z = z} u c w) =
      all_guarded (eqb z k.receiver) λ g.
      serves_traded (offer_hearing k.process k.branch) λ op x y r e.
      all_guarded _ λ t.
      all_some
      (new_trade o u c refl refl (λ t. omega (arith, w t))
      (λ t.
      omega (arith, e t, enable_tally t r, followed_tally t (executor o y k.sender (suc k.issued) (enable r)) (offered_to k).next)))
  exchange_trade (replies {o = o} {client = client} {serial = serial} u) =
      awaited_trade o client serial _ u λ x dead l. all_guarded _ λ t. all_some (refl, refl, (λ t. refl), (λ t. refl))
  exchange_trade (faults {o = o} {client = client} {serial = serial} u) =
      awaited_trade o client serial _ u λ x dead l.
      all_some (refl, refl, (λ t. refl), (λ t. cond-case (λ r. tally t r ≡ 0) dead (λ d. refl) (λ d. refl)))
