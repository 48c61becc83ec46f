-- A step between two engines carried out: from what each call leaves.
-- Assumes nothing.
use Prim.Native.Nat.{ℕ, ◌+◌, ◌≤◌, ◌<◌, min}
use native.Mathlib.Omega.{arith}
use native.Mathlib.Decide.{ℕ_discrete}
use mathlib.Core.Path.{◌≡◌, refl, sym, ap, subst}
use mathlib.Core.Bool.{Bool, true, false, cond}
use mathlib.Core.List.{List}
use borrow.Author.Tests.{ne_eqb, lt-ltb, le-ltb}
use lib.Dec.{T, eqb, eqb→eq}
use Rattle.sock.specs.Kind
use Rattle.rules.specs.Storing.{unchanged}
use Rattle.rules.specs.Messages.{heard_w, served_w, answered_w}
use Rattle.rules.specs.Offering.{Offer, hear_w, serve_w, ask_w, answer_w, fail_w}
use Rattle.rules.specs.Editing.{Edit, plain_w}
use Rattle.rules.specs.Rewriting.{Rewritten, rewritten, vanishing, at}
use Rattle.layout.specs.declared.limit.Limits.{Limits}
use Rattle.stepping.specs.Bundles.{Encounter}
use Rattle.stepping.specs.Answering.{Change, Told, changed, two_w}
use Rattle.stepping.specs.Meeting.{serial_w, send_w, receive_w}
use Rattle.stepping.specs.Exchanging.{blank, sender_w, receiver_w, ordered_w, next_of, issued_of, fault_of, carry_w}

-- std's next word is the next serial
pub next_is : (w next : ℕ) → w < 65536 → next ≡ min (w + 1) 65535 → next ≡ next_of w
unfolding next_of
next_is w next low e = by (ℕ_discrete w 65535)
  where
    by : Dec (w ≡ 65535) → next ≡ cond (eqb w 65535) w (w + 1)
    by (yes q) = rw (e, q)
    by (no d) = let m : min (w + 1) 65535 ≡ w + 1 = omega (arith, d) in rw (e, m, ne_eqb w 65535 d)

-- a solicit alone has a serial to put into words, the next one
serial_next : (part : List ℕ) (kind next : ℕ) → eqb kind Kind.solicit ≡ true → serial_w part kind next ≡ next
unfolding serial_w
serial_next part kind next e = rw (eqb→eq kind Kind.solicit (subst T (sym e) tt))

sender_next : (part : List ℕ) (x : Encounter) (next : ℕ) (fresh : List ℕ) → sender_w part x next fresh ≡ sender_w part x (serial_w part x.kind next) fresh
unfolding sender_w send_w
sender_next part x next fresh = ap (λ (t : Rewritten). plain_w x.sender.site x.sender.start t.rewriting t.fresh) sends
  where
    sends : send_w part x.kind x.second next fresh ≡ send_w part x.kind x.second (serial_w part x.kind next) fresh
    sends = by (eqb x.kind Kind.solicit) refl
      where
        by :
            (b : Bool) → eqb x.kind Kind.solicit ≡ b →
            cond b (ask_w part x.second next fresh) (rewritten (vanishing unchanged) fresh)
            ≡ cond b (ask_w part x.second (serial_w part x.kind next) fresh) (rewritten (vanishing unchanged) fresh)
        by true e = rw (serial_next part x.kind next e)
        by false e = refl

receiver_next :
    (part vs other : List ℕ) (o : Offer) (x : Encounter) (next : ℕ) (fresh : List ℕ) →
    receiver_w part vs other o x next fresh ≡ receiver_w part vs other o x (serial_w part x.kind next) fresh
unfolding receiver_w receive_w
receiver_next part vs other o x next fresh = ap (λ (t : Rewritten). plain_w x.receiver.site x.receiver.start t.rewriting t.fresh) receives
  where
    receives : receive_w part vs other o x.kind x.engine next fresh ≡ receive_w part vs other o x.kind x.engine (serial_w part x.kind next) fresh
    receives = by (eqb x.kind Kind.notify) (eqb x.kind Kind.solicit) refl
      where
        by :
            (n b : Bool) → eqb x.kind Kind.solicit ≡ b →
            cond n (rewritten (hear_w other o (heard_w part vs other o.guard)) fresh)
            (cond b (serve_w other o x.engine next (served_w part vs other o.guard) fresh)
            (cond (eqb x.kind Kind.executor) (answer_w other (answered_w part vs other) fresh) (fail_w other (at part 1) fresh)))
            ≡ cond n (rewritten (hear_w other o (heard_w part vs other o.guard)) fresh)
            (cond b (serve_w other o x.engine (serial_w part x.kind next) (served_w part vs other o.guard) fresh)
            (cond (eqb x.kind Kind.executor) (answer_w other (answered_w part vs other) fresh) (fail_w other (at part 1) fresh)))
        by true b e = refl
        by false true e = rw (serial_next part x.kind next e)
        by false false e = refl

module _
    (limits : Limits) (ws part vs other : List ℕ) (o : Offer) (x : Encounter) (out : List ℕ)
    (w next serial : ℕ) (first : Edit) (f : List ℕ) (second : Edit) (f2 : List ℕ) (fault issued : ℕ) (p q : Change)
    (e1 : w ≡ at ws 1) (e2 : next ≡ next_of w) (e3 : serial ≡ serial_w part x.kind next)
    (e4 : first ≡ (sender_w part x next blank).edit) (e5 : f ≡ (sender_w part x next blank).fresh)
    (e6 : second ≡ (receiver_w part vs other o x next blank).edit) (e7 : f2 ≡ (receiver_w part vs other o x next blank).fresh)
    (e8 : fault ≡ fault_of x.kind) (e9 : issued ≡ issued_of x.kind w next)
    (e10 : p ≡ changed x.sender.start x.sender.end first) (e11 : q ≡ changed x.receiver.start x.receiver.end second) where
  abbrev told : Told
  told = record { kind = x.kind; serial = serial; fault = fault; issued = issued }

  made : ordered_w limits ws x first f second f2 told out ≡ carry_w limits ws part vs other o x out
  unfolding carry_w
  made =
      rw (e9, e8, e7, e6, e5, e4, e3, e2, e1, sender_next part x (next_of (at ws 1)) blank, receiver_next part vs other o x (next_of (at ws 1)) blank)

  pub carry_first : x.engine < x.second → two_w limits ws p f q f2 told out ≡ carry_w limits ws part vs other o x out
  unfolding ordered_w
  carry_first h = rw (e10, e11) (rw (lt-ltb x.engine x.second h) at made)

  pub carry_second : x.second ≤ x.engine → two_w limits ws q f2 p f told out ≡ carry_w limits ws part vs other o x out
  unfolding ordered_w
  carry_second h = rw (e10, e11) (rw (le-ltb x.engine x.second h) at made)
