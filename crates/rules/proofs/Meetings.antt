-- The rules for two on words: whether sender and receiver meet, and what the receiver then turns into.
-- Assumes nothing.
use Prim.Native.Nat.{ℕ, suc, ◌+◌, ◌≤◌, ◌<◌}
use native.Mathlib.Omega.{arith}
use mathlib.Core.Path.{◌≡◌, refl, subst, sym, ap, ap₂, ◌∙◌}
use mathlib.Core.Bool.{Bool, true, false, ◌&&◌, cond}
use mathlib.Core.Option.{Option, none, some}
use mathlib.Core.List.{List, [], ◌∷◌, ◌++◌, append_assoc, append-nil}
use borrow.Author.Tests.{eq-eqb, eqb-true}
use lib.Dec.{eqb}
use lib.ListN.{length, get_or, drop}
use Rattle.sock.specs.Words.{kind_of, name_of, second_of, first_variable, first_name}
use Rattle.sock.specs.Variables.{first_of, variable_words, values_at, set_all}
use Rattle.sock.specs.Term.{Node, node, absent, Entries, no_parts, ◌&◌}
use Rattle.sock.specs.Layout.{words, exprs_words}
use Rattle.sock.specs.Running.{Run, nil, executor, waiter, act, run_words, run_depth, enable}
use Rattle.sock.specs.Configuration.{guarded}
use Rattle.sock.specs.Rules.{Receiver, offer, followed, if_hears, if_serves, awaited, inst_of, throw_of, Exchange}
use Rattle.sock.proofs.Fits.{Sound}
use Rattle.sock.proofs.Fields.{turned_round}
use Rattle.sock.proofs.Positions.{at_past, stands_within}
use Rattle.layout.specs.Own.{variables_end}
use Rattle.layout.specs.Positions.{onward}
use Rattle.writers.proofs.Laid.{Near, onward_near}
use Rattle.evaluating.specs.Evaluating.{value_in}
use Rattle.layout.specs.Kinds.{counted_as}
use Rattle.layout.proofs.Named.{counted_is}
use Rattle.rules.specs.Storing.{Store}
use Rattle.rules.specs.Rewriting.{Rewriting}
use Rattle.rules.specs.Storing.{unchanged}
use Rattle.rules.specs.Rewriting.{at}
use Rattle.rules.specs.Messages.{hears_w, heard_w, serves_w, served_w, answers_w, answered_w}
use Rattle.rules.specs.Offering.{Offer, offer_w, receives_w, fits_w, hear_w, serve_w, awaits_w, answer_w, fail_w}
use Rattle.rules.proofs.Rewrites.{after}
use Rattle.rules.proofs.Stores.{stored}
use Rattle.rules.proofs.Shapes.{Headed}
use Rattle.rules.proofs.Messages.{Listed, words_counted, ends_at, alike_counts, carried_stored}
use Rattle.rules.proofs.Offers.{Stands, bare_stands, branch_stands, Offers, silent, hearing, serving, not_kind, offers}
use Rattle.rules.proofs.Exchanges.{Takes, hear_rewrites, serve_rewrites}
use Rattle.rules.proofs.Waiters.{Awaits, awaiting, elsewhere, awaits, waits_first, waits_list, answer_rewrites, fail_rewrites}

-- what a notify, a solicit, a reply and a fault make where the receiver is such a one
abbrev pub notified : ℕ → List ℕ → ℕ → List ℕ → Receiver → Option Node → Option Exchange
notified issued vs o v r next =
    if_hears r λ op x.
    guarded (eqb o op && eqb (length v) (length x))
    (some (record { sender = nil; receiver = followed nil next; values = set_all vs x v; issued = issued; serial = 0; fault = 0 }))

abbrev pub solicited : ℕ → ℕ → ℕ → List ℕ → ℕ → List ℕ → List ℕ → Entries → Receiver → Option Node → Option Exchange
solicited issued client server vs o v x l r next =
    if_serves r λ op x' y p.
    guarded (eqb o op && eqb (length v) (length x') && eqb (length y) (length x))
    (some
    (record {
      sender = waiter o x false server (suc issued) l;
      receiver = followed (executor o y client (suc issued) (enable p)) next;
      values = set_all vs x' v;
      issued = suc issued;
      serial = suc issued;
      fault = 0;
    }))

abbrev pub replied : ℕ → ℕ → List ℕ → List ℕ → List ℕ → Bool → Entries → Option Exchange
replied issued serial vs v x dead l =
    guarded (eqb (length v) (length x))
    (some (record { sender = nil; receiver = act (inst_of l); values = set_all vs x v; issued = issued; serial = serial; fault = 0 }))

abbrev pub faulting : ℕ → ℕ → List ℕ → ℕ → List ℕ → Bool → Entries → Option Exchange
faulting issued serial vs f x dead l =
    some (record { sender = nil; receiver = cond dead nil (act (throw_of f)); values = vs; issued = issued; serial = serial; fault = 1 })

-- they meet: the receiver r turns as t says into q, and its variables take what the store says; or they don't
pub data Meets (b : Bool) (r : Run) (t : Rewriting) (fresh : List ℕ) (store : Store) (made : Run → Exchange) : Option Exchange → Type 0 where
  meets : {q : Run} → b ≡ true → Takes r q t fresh store → Meets b r t fresh store made (some (made q))
  misses : b ≡ false → Meets b r t fresh store made none

fits_at : (ws : List ℕ) (o : Offer) (k g h : ℕ) → k < 19 → o.some ≡ true → at ws o.guard ≡ g → kind_of g ≡ k →
    fits_w ws o k h ≡ eqb (name_of h) (name_of g)
unfolding fits_w receives_w
fits_at ws o k g h low s a e = rw (s, a, eq-eqb (counted_as (kind_of g)) k (counted_is e low)) (by (eqb (name_of g) (name_of h)) ∙ turned_round (name_of g) (name_of h))
  where
    by : (b : Bool) → cond b true false ≡ b
    by true = refl
    by false = refl

fits_other : (ws : List ℕ) (r : Run) (o : Offer) (k j g h : ℕ) → k < 19 → at ws o.guard ≡ g → kind_of g ≡ j → (j ≡ k → ⊥) → fits_w ws o k h ≡ false
fits_other ws r o k j g h low a e never = not_kind ws r o k h low λ z. never (sym e ∙ (sym (ap kind_of a) ∙ z))

values_count : (vs x : List ℕ) → length (values_at vs x) ≡ length x
unfolding values_at
values_count vs [] = refl
values_count vs (a ∷ x) = ap suc (values_count vs x)

both : (a b : Bool) → cond a b false ≡ (a && b)
both true b = refl
both false b = refl

all_three : (a b c : Bool) → cond a (cond b c false) false ≡ (a && b && c)
all_three true b c = both b c
all_three false b c = refl

-- ---- where a receiver's lists stand

module _ (ws rest : List ℕ) (r : Run) (stands : ws ≡ run_words r ++ rest) (close : Near (length ws)) (o : Offer) where
  receiver_stands : {m : Node} {next : Option Node} → Stands r o m next → (more : List ℕ) × (drop o.guard ws ≡ words m ++ more)
  receiver_stands {m} (bare_stands w d a b c e) = (rest, ap (λ k. drop k ws) a ∙ (stands ∙ ap (λ l. l ++ rest) w))
  receiver_stands {m} (branch_stands {q = q} before behind w f dm dq a b c e) = (
    (words q ++ behind) ++ rest,
    after ws before _ o.guard
        (stands
        ∙ (ap (λ l. l ++ rest) w
        ∙ (append_assoc before (words m ++ (words q ++ behind)) rest ∙ ap (λ l. before ++ l) (append_assoc (words m) (words q ++ behind) rest))))
        a,
  )

  -- behind a head and fixed words
  further_on : (own more : List ℕ) → 0 < length own → drop o.guard ws ≡ own ++ more → drop (onward o.guard (length own)) ws ≡ more
  further_on own more long e =
      ap (λ k. drop k ws) (onward_near o.guard (length own) (length ws) close (stands_within ws own more o.guard e long)) ∙ at_past ws own more o.guard e

  one_way_list :
      {g : ℕ} {x : List ℕ} {next : Option Node} → Headed (second_of g) x → Stands r o (node g (variable_words x) [] absent no_parts) next →
      Listed ws (onward o.guard 1) x
  unfolding words exprs_words
  one_way_list {g} {x} h s =
      let p = receiver_stands s in
      record {
        fitting = h.fitting;
        behind = p.0;
        stands = further_on (g ∷ []) (variable_words x ++ p.0) (omega arith) (p.1 ∙ ap (λ l. g ∷ (l ++ p.0)) (append-nil (variable_words x)));
      }

  module _ {g w : ℕ} {x y : List ℕ} {p : Node} {next : Option Node} (front : Headed (second_of g) x) (back : Headed (first_variable w) y)
      (s : Stands r o (node g (w ∷ variable_words x ++ variable_words y) [] absent (p & no_parts)) next) where
    abbrev more : List ℕ
    more = (receiver_stands s).0

    request_words : drop o.guard ws ≡ (g ∷ w ∷ []) ++ (variable_words x ++ (variable_words y ++ (words p ++ more)))
    unfolding words exprs_words
    request_words =
        (receiver_stands s).1
        ∙ (ap (λ l. g ∷ w ∷ (((variable_words x ++ variable_words y) ++ l) ++ more)) (append-nil (words p))
        ∙ ap (λ l. g ∷ w ∷ l)
        (append_assoc (variable_words x ++ variable_words y) (words p) more ∙ append_assoc (variable_words x) (variable_words y) (words p ++ more)))

    front_stands : drop (onward o.guard 2) ws ≡ variable_words x ++ (variable_words y ++ (words p ++ more))
    front_stands = further_on (g ∷ w ∷ []) (variable_words x ++ (variable_words y ++ (words p ++ more))) (omega arith) request_words

    front_list : Listed ws (onward o.guard 2) x
    front_list = record { fitting = front.fitting; behind = variable_words y ++ (words p ++ more); stands = front_stands }

    back_list : Listed ws (variables_end ws (onward o.guard 2)) y
    back_list =
        record {
          fitting = back.fitting;
          behind = words p ++ more;
          stands =
              ap (λ k. drop k ws) (ends_at front_list ∙ ap (λ k. onward o.guard 2 + k) (sym (words_counted x)))
              ∙ at_past ws (variable_words x) (variable_words y ++ (words p ++ more)) (onward o.guard 2) front_stands;
        }

-- ---- a sender with its variables y, and the values of its engine

module _ (part : List ℕ) (near-part : Near (length part)) (values va : List ℕ) (same : (x : ℕ) → value_in values x ≡ get_or va x 0)
    (issued : ℕ) (ws rest : List ℕ) (r : Run) (stands : ws ≡ run_words r ++ rest) (close : Near (length ws)) (vs : List ℕ) (y : List ℕ)
    (first : second_of (at part 0) ≡ first_of y) where
  abbrev v : List ℕ
  v = values_at va y

  module _ (sent : Listed part 2 y) (o : Offer) (h : ℕ) where
    -- a notify
    module _ (fresh : List ℕ) where
      abbrev heard : Store
      heard = heard_w part values ws o.guard

      abbrev notifies : List ℕ → Run → Exchange
      notifies u q = record { sender = nil; receiver = q; values = u; issued = issued; serial = 0; fault = 0 }

      hears_when :
          {c : Receiver} {next : Option Node} → Offers ws r o c next →
          Meets (cond (fits_w ws o 7 h) (hears_w part ws o.guard) false) r (hear_w ws o heard) fresh heard (notifies (stored vs heard))
          (notified issued vs (name_of h) v c next)
      unfolding if_hears guarded hears_w heard_w
      hears_when (silent a b) = misses (rw (a h))
      hears_when (serving {g} k s a x y p st) = misses (rw (fits_other ws r o 7 8 g h (omega arith) a k λ z. omega arith))
      hears_when (hearing {g} {x} {next} k s a hx st) = by (eqb (name_of h) (name_of g)) refl (eqb (length v) (length x)) refl
        where
          list : Listed ws (onward o.guard 1) x
          list = one_way_list ws rest r stands close o hx st

          test : cond (fits_w ws o 7 h) (hears_w part ws o.guard) false ≡ (eqb (name_of h) (name_of g) && eqb (length v) (length x))
          test =
              both (fits_w ws o 7 h) (hears_w part ws o.guard)
              ∙ ap₂ (λ a b. a && b) (fits_at ws o 7 g h (omega arith) s a k) (alike_counts sent list ∙ ap (λ n. eqb n (length x)) (sym (values_count va y)))

          by :
              (b : Bool) → eqb (name_of h) (name_of g) ≡ b → (c : Bool) → eqb (length v) (length x) ≡ c →
              Meets (cond (fits_w ws o 7 h) (hears_w part ws o.guard) false) r (hear_w ws o heard) fresh heard (notifies (stored vs heard))
              (guarded (eqb (name_of h) (name_of g) && eqb (length v) (length x)) (some (notifies (set_all vs x v) (followed nil next))))
          by true p true q =
              let alike : length y ≡ length x = sym (values_count va y) ∙ eqb-true (length v) (length x) q in
              let took : stored vs heard ≡ set_all vs x v =
              carried_stored vs values va same part ws near-part close 2 o.guard (onward o.guard 1) y x sent first list
              (ap second_of a ∙ sym hx.begins) alike in
              rw (p, q)
              (subst
              (λ u.
              Meets (cond (fits_w ws o 7 h) (hears_w part ws o.guard) false) r (hear_w ws o heard) fresh heard (notifies (stored vs heard))
              (some (notifies u (followed nil next)))) took
              (meets (test ∙ ap₂ (λ a b. a && b) p q) (hear_rewrites ws rest r stands o fresh heard st)))
          by true p false q = rw (p, q) (misses (test ∙ ap₂ (λ a b. a && b) p q))
          by false p c q = rw p (misses (test ∙ ap (λ a. a && eqb (length v) (length x)) p))

    -- a solicit, with its variables x and its list
    module _ (client server : ℕ) (low : client < 8) (x : List ℕ) (wanted : Listed part (variables_end part 2) x) (l : Entries) (fresh : List ℕ)
        (near : Near (length fresh)) (room : 4 ≤ length fresh) where
      abbrev served : Store
      served = served_w part values ws o.guard

      abbrev solicits : List ℕ → Run → Exchange
      solicits u q =
          record {
            sender = waiter (name_of h) x false server (suc issued) l;
            receiver = q;
            values = u;
            issued = suc issued;
            serial = suc issued;
            fault = 0;
          }

      serves_when :
          {c : Receiver} {next : Option Node} → Offers ws r o c next →
          Meets (cond (fits_w ws o 8 h) (serves_w part ws o.guard) false) r (serve_w ws o client (suc issued) served fresh).rewriting
          (serve_w ws o client (suc issued) served fresh).fresh served (solicits (stored vs served))
          (solicited issued client server vs (name_of h) v x l c next)
      unfolding if_serves guarded serves_w served_w
      serves_when (silent a b) = misses (rw (b h))
      serves_when (hearing {g} k s a x st) = misses (rw (fits_other ws r o 8 7 g h (omega arith) a k λ z. omega arith))
      serves_when (serving {g} {w} {x = x'} {y = y'} {p} {next} k s a front back f st) =
          by (eqb (name_of h) (name_of g)) refl (eqb (length v) (length x')) refl (eqb (length y') (length x)) refl
        where
          list : Listed ws (onward o.guard 2) x'
          list = front_list ws rest r stands close o front back st

          test :
              cond (fits_w ws o 8 h) (serves_w part ws o.guard) false ≡ (eqb (name_of h) (name_of g) && eqb (length v) (length x') && eqb (length y') (length x))
          test =
              ap₂ (λ a b. cond a b false) (fits_at ws o 8 g h (omega arith) s a k)
              (ap₂ (λ a b. cond a b false) (alike_counts sent list ∙ ap (λ n. eqb n (length x')) (sym (values_count va y)))
              (alike_counts wanted (back_list ws rest r stands close o front back st) ∙ turned_round (length x) (length y')))
              ∙ all_three (eqb (name_of h) (name_of g)) (eqb (length v) (length x')) (eqb (length y') (length x))

          by :
              (b : Bool) → eqb (name_of h) (name_of g) ≡ b → (c : Bool) → eqb (length v) (length x') ≡ c → (d : Bool) → eqb (length y') (length x) ≡ d →
              Meets (cond (fits_w ws o 8 h) (serves_w part ws o.guard) false) r (serve_w ws o client (suc issued) served fresh).rewriting
              (serve_w ws o client (suc issued) served fresh).fresh served (solicits (stored vs served))
              (guarded (eqb (name_of h) (name_of g) && eqb (length v) (length x') && eqb (length y') (length x))
              (some (solicits (set_all vs x' v) (followed (executor (name_of h) y' client (suc issued) (enable p)) next))))
          by true e true i true j =
              let name : name_of h ≡ name_of g = eqb-true (name_of h) (name_of g) e in
              let alike : length y ≡ length x' = sym (values_count va y) ∙ eqb-true (length v) (length x') i in
              let took : stored vs served ≡ set_all vs x' v =
              carried_stored vs values va same part ws near-part close 2 o.guard (onward o.guard 2) y x' sent first list
              (ap second_of a ∙ sym front.begins) alike in
              let t :
              Takes r (followed (executor (name_of h) y' client (suc issued) (enable p)) next)
              (serve_w ws o client (suc issued) served fresh).rewriting (serve_w ws o client (suc issued) served fresh).fresh served =
              rw name (serve_rewrites g w x' y' front back p f client (suc issued) ws rest r stands close o fresh near room served low a st) in
              rw (e, i, j)
              (subst
              (λ u.
              Meets (cond (fits_w ws o 8 h) (serves_w part ws o.guard) false) r (serve_w ws o client (suc issued) served fresh).rewriting
              (serve_w ws o client (suc issued) served fresh).fresh served
              (solicits (stored vs served)) (some (solicits u (followed (executor (name_of h) y' client (suc issued) (enable p)) next)))) took
              (meets (test ∙ rw (e, i, j)) t))
          by true e true i false j = rw (e, i, j) (misses (test ∙ rw (e, i, j)))
          by true e false i d j = rw (e, i) (misses (test ∙ rw (e, i)))
          by false e c i d j = rw e (misses (test ∙ rw e))

-- ---- a waiter

module _ (n issued : ℕ) (few : n ≤ 8) (small : issued < 65536) (ws rest : List ℕ) (vs : List ℕ) (fresh : List ℕ) (room : 1 ≤ length fresh)
    (b : Bool) (what : (List ℕ → Bool → Entries → Option Exchange) → Option Exchange) (serial : ℕ) where
  -- an executor's reply
  module _ (part : List ℕ) (near-part : Near (length part)) (values va : List ℕ) (same : (x : ℕ) → value_in values x ≡ get_or va x 0)
      (close : Near (length ws)) (y : List ℕ) (first : second_of (at part 0) ≡ first_of y) (sent : Listed part 3 y) where
    abbrev answered : Store
    answered = answered_w part values ws

    abbrev replies : List ℕ → Run → Exchange
    replies u q = record { sender = nil; receiver = q; values = u; issued = issued; serial = serial; fault = 0 }

    replies_when :
        (r : Run) → ws ≡ run_words r ++ rest → Sound n issued r → run_depth r ≤ 64 → Awaits b what r →
        Meets (cond b (answers_w part ws) false) r (answer_w ws answered fresh).rewriting (answer_w ws answered fresh).fresh answered (replies (stored vs answered))
        (what (replied issued serial vs (values_at va y)))
    unfolding guarded answers_w answered_w
    replies_when r stands s deep (elsewhere e k) = rw (k _, e) (misses refl)
    replies_when r stands s deep (awaiting {x = x} {l = l} e k) = rw (k _, e) (by (eqb (length (values_at va y)) (length x)) refl)
      where
        list : Listed ws 3 x
        list = waits_list n issued ws few small rest s stands

        test : answers_w part ws ≡ eqb (length (values_at va y)) (length x)
        test = alike_counts sent list ∙ ap (λ n. eqb n (length x)) (sym (values_count va y))

        by :
            (c : Bool) → eqb (length (values_at va y)) (length x) ≡ c →
            Meets (answers_w part ws) r (answer_w ws answered fresh).rewriting (answer_w ws answered fresh).fresh answered (replies (stored vs answered))
            (guarded (eqb (length (values_at va y)) (length x)) (some (replies (set_all vs x (values_at va y)) (act (inst_of l)))))
        by true q =
            let alike : length y ≡ length x = sym (values_count va y) ∙ eqb-true (length (values_at va y)) (length x) q in
            let took : stored vs answered ≡ set_all vs x (values_at va y) =
            carried_stored vs values va same part ws near-part close 3 0 3 y x sent first list (waits_first n issued ws few small rest s stands) alike in
            rw q
            (subst
            (λ u.
            Meets (answers_w part ws) r (answer_w ws answered fresh).rewriting (answer_w ws answered fresh).fresh answered (replies (stored vs answered))
            (some (replies u (act (inst_of l))))) took
            (meets (test ∙ q) (answer_rewrites n issued ws few small rest s stands deep answered fresh room)))
        by false q = rw q (misses (test ∙ q))

  faults_when :
      (w : ℕ) (r : Run) → ws ≡ run_words r ++ rest → Sound n issued r → run_depth r ≤ 64 → Awaits b what r →
      Meets b r (fail_w ws w fresh).rewriting (fail_w ws w fresh).fresh unchanged
      (λ q. record { sender = nil; receiver = q; values = vs; issued = issued; serial = serial; fault = 1 })
      (what (faulting issued serial vs (first_name w)))
  faults_when w r stands s deep (awaiting e k) = rw (k _) (meets e (fail_rewrites n issued ws few small rest s stands deep w fresh room))
  faults_when w r stands s deep (elsewhere e k) = rw (k _) (misses e)

-- ---- by rule

-- what stands at ws, and the values of its engine
module _ (n issued : ℕ) (ws : List ℕ) (few : n ≤ 8) (small : issued < 65536) (rest : List ℕ)
    (r : Run) (sound : Sound n issued r) (deep : run_depth r ≤ 64) (stands : ws ≡ run_words r ++ rest) (close : Near (length ws)) (vs : List ℕ) where
  -- a sender, its variables y and the values of its engine
  module _ (part : List ℕ) (near-part : Near (length part)) (values va : List ℕ) (same : (x : ℕ) → value_in values x ≡ get_or va x 0)
      (y : List ℕ) (first : second_of (at part 0) ≡ first_of y) where
    pub notify_meets :
        Listed part 2 y → (i h : ℕ) (fresh : List ℕ) →
        (let o = offer_w ws i in
        let s = heard_w part values ws o.guard in
        Meets (cond (fits_w ws o 7 h) (hears_w part ws o.guard) false) r (hear_w ws o s) fresh s
        (λ q. record { sender = nil; receiver = q; values = stored vs s; issued = issued; serial = 0; fault = 0 })
        (notified issued vs (name_of h) (values_at va y) (offer r i).receives (offer r i).next))
    notify_meets sent i h fresh =
        hears_when part near-part values va same issued ws rest r stands close vs y first sent (offer_w ws i) h fresh
        (offers n issued ws few small rest r sound deep stands i)

    pub solicit_meets :
        Listed part 2 y → (i h client server : ℕ) → client < 8 → (x : List ℕ) → Listed part (variables_end part 2) x → (l : Entries) (fresh : List ℕ) →
        Near (length fresh) → 4 ≤ length fresh →
        (let o = offer_w ws i in
        let s = served_w part values ws o.guard in
        Meets (cond (fits_w ws o 8 h) (serves_w part ws o.guard) false) r
        (serve_w ws o client (suc issued) s fresh).rewriting (serve_w ws o client (suc issued) s fresh).fresh s
        (λ q.
        record {
          sender = waiter (name_of h) x false server (suc issued) l;
          receiver = q;
          values = stored vs s;
          issued = suc issued;
          serial = suc issued;
          fault = 0;
        })
        (solicited issued client server vs (name_of h) (values_at va y) x l (offer r i).receives (offer r i).next))
    solicit_meets sent i h client server low x wanted l fresh near room =
        serves_when part near-part values va same issued ws rest r stands close vs y first sent (offer_w ws i) h client server low x wanted l fresh near room
        (offers n issued ws few small rest r sound deep stands i)

    -- h is the executor's head
    pub reply_meets :
        Listed part 3 y → (h serial client sender receiver : ℕ) (fresh : List ℕ) → 1 ≤ length fresh →
        (let s = answered_w part values ws in
        Meets (cond (awaits_w ws h serial client sender receiver) (answers_w part ws) false) r (answer_w ws s fresh).rewriting (answer_w ws s fresh).fresh s
        (λ q. record { sender = nil; receiver = q; values = stored vs s; issued = issued; serial = serial; fault = 0 })
        (awaited (record { issued = issued; sender = sender; receiver = receiver; values = vs; process = r; branch = 0 }) (name_of h) client serial
        (replied issued serial vs (values_at va y))))
    reply_meets sent h serial client sender receiver fresh room =
        replies_when n issued few small ws rest vs fresh room _ _ serial part near-part values va same close y first sent r stands sound deep
        (awaits ws rest h serial client sender receiver n issued few vs r sound stands)

  -- h and w are the notice's first words
  pub fault_meets :
      (h serial client sender receiver : ℕ) (fresh : List ℕ) → 1 ≤ length fresh → (w : ℕ) →
      Meets (awaits_w ws h serial client sender receiver) r (fail_w ws w fresh).rewriting (fail_w ws w fresh).fresh unchanged
      (λ q. record { sender = nil; receiver = q; values = vs; issued = issued; serial = serial; fault = 1 })
      (awaited (record { issued = issued; sender = sender; receiver = receiver; values = vs; process = r; branch = 0 }) (name_of h) client serial
      (faulting issued serial vs (first_name w)))
  fault_meets h serial client sender receiver fresh room w =
      faults_when n issued few small ws rest vs fresh room _ _ serial w r stands sound deep
      (awaits ws rest h serial client sender receiver n issued few vs r sound stands)
