-- What an exchange between two engines makes of sender and receiver: as the rules say, and as the code goes.
-- Assumes nothing.
use Prim.Native.Nat.{ℕ, zero, suc, ◌+◌, ◌*◌, ◌/◌, ◌%◌, ◌≤◌, ◌<◌}
use native.Mathlib.Omega.{arith}
use mathlib.Core.Path.{◌≡◌, refl, sym, ap, ◌∙◌, subst}
use mathlib.Core.Bool.{Bool, true, false, cond}
use mathlib.Core.Option.{Option, none, some}
use mathlib.Core.List.{List, [], ◌∷◌, ◌++◌, append_assoc, append-nil}
use borrow.Author.Tests.{ne_eqb}
use lib.Dec.{eqb}
use lib.ListN.{length, drop}
use Rattle.sock.specs.Words.{name_of, second_of, first_name, first_variable, next_variable, head_of, name_fields}
use Rattle.sock.specs.Variables.{first_of, variable_words, values_at}
use Rattle.sock.specs.Term.{Node, node, absent, list, Entries, no_parts, kind}
use Rattle.sock.specs.Layout.{words, depth, exprs_words}
use Rattle.sock.specs.Reading.{code, anywhere}
use Rattle.sock.specs.Running.{Run, nil, executor, waiter, notice, act, as_node, run_words, run_depth}
use Rattle.sock.specs.Configuration.{guarded, values_words}
use Rattle.sock.specs.Evaluation.{value_at}
use Rattle.sock.specs.Frames.{Frame, is_done}
use Rattle.sock.specs.Rules.{Message, notification, solicitation, reply, failure, Move, stuck, alone, sends, action, acting, once_done, move_of, offer, Meeting, awaited, Exchange, exchange, unvalued, valued as valuing}
use Rattle.sock.proofs.Fits.{Fits, Sound, nil_sound, seq_sound, par_sound, scope_sound, executor_sound, waiter_sound, notice_sound, act_sound, AllBelow}
use Rattle.sock.proofs.Fields.{name_of_lem, second_of_lem, client_of, noticed_fault, noticed_client, end_tests}
use Rattle.sock.proofs.ByKind.{kind_as_node}
use Rattle.sock.proofs.Variables.{laid as variables-laid}
use Rattle.sock.proofs.Measures.{words_executor, words_notice, words_act, depth_nil, depth_act}
use Rattle.evaluating.specs.Evaluating.{value_in}
use Rattle.evaluating.proofs.Evaluates.{value_in_lem}
use Rattle.writers.proofs.Laid.{Near}
use Rattle.rules.specs.Storing.{unchanged}
use Rattle.rules.specs.Storing.{Store}
use Rattle.rules.specs.Rewriting.{Rewritten, vanishing, at}
use Rattle.rules.specs.Messages.{hears_w, heard_w, serves_w, served_w, answers_w, answered_w}
use Rattle.rules.specs.Offering.{Offer, offer_w, fits_w, hear_w, serve_w, awaits_w, answer_w, fail_w}
use Rattle.rules.proofs.Rewrites.{Becomes, becomes_nil}
use Rattle.rules.proofs.Depths.{depth_some}
use Rattle.rules.proofs.Stores.{stored, stored_none}
use Rattle.rules.proofs.Messages.{Listed}
use Rattle.rules.proofs.Offers.{first_list, only_list, behind_list}
use Rattle.rules.proofs.Shapes.{Headed, Shape, assigns, branches, repeats, chooses, hears, serves, notifies, solicits, installs, throws, compensates, shape}
use Rattle.rules.proofs.Exchanges.{Takes}
use Rattle.rules.proofs.Waiters.{asks_front, asks_back, ask_rewrites, awaited_branch}
use Rattle.rules.proofs.Meetings.{notified, solicited, replied, faulting, Meets, meets, misses, notify_meets, solicit_meets, reply_meets, fault_meets}
use Rattle.stepping.specs.Meeting.{addressed_w, replies_w, replied_w, taker_of, counts_w, takes_w, fit_w, serial_w, send_w, receive_w}
use Rattle.stepping.specs.Exchanging.{issued_of, fault_of}

-- the sender a rewritings as t says, the receiver b as u says, and x is what the rule makes of them
pub record Trades (a b : Run) (vb : List ℕ) (issued serial fault : ℕ) (t u : Rewritten) (x : Exchange) : Type 0 where
  pub issues : x.issued ≡ issued
  pub numbers : x.serial ≡ serial
  pub fails : x.fault ≡ fault
  pub sender : Takes a x.sender t.rewriting t.fresh unchanged
  pub receiver : Becomes b x.receiver u.rewriting u.fresh
  pub shallow : run_depth x.receiver ≤ run_depth b
  pub values : x.values ≡ stored vb u.rewriting.store

-- whether they fit, and then how they trade
pub data Pairs
    (issued e i branch : ℕ) (a b : Run) (vb part values other : List ℕ) (kind : ℕ) (fresh : List ℕ) : Option Exchange → Type 0 where
  misfit : fit_w part values other (offer_w other branch) kind branch e i ≡ false →
      Pairs issued e i branch a b vb part values other kind fresh none
  fit :
      {x : Exchange} →
      fit_w part values other (offer_w other branch) kind branch e i ≡ true →
      Trades a b vb (issued_of kind issued (suc issued)) (serial_w part kind (suc issued)) (fault_of kind)
      (send_w part kind i (serial_w part kind (suc issued)) fresh)
      (receive_w part values other (offer_w other branch) kind e (serial_w part kind (suc issued)) fresh) x →
      Pairs issued e i branch a b vb part values other kind fresh (some x)

vanishes : (a : Run) (fresh : List ℕ) → Takes a nil (vanishing unchanged) fresh unchanged
vanishes a fresh = record { becomes = becomes_nil a unchanged fresh; takes = refl; shallow = omega (arith, depth_nil, depth_some a) }

module _ (n issued : ℕ) (few : n ≤ 8) (small : issued < 65536) (e i branch : ℕ) (low-e : e < 8) (low-i : i < 8)
    (fresh : List ℕ) (big : Near (length fresh)) (room : 4 ≤ length fresh)
    (part : List ℕ) (near-part : Near (length part)) (values : List ℕ) (va : List ℕ) (below : AllBelow 4294967296 va) (laid : values ≡ values_words va)
    (other : List ℕ) (close : Near (length other))
    (b : Run) (soundB : Sound n issued b) (deepB : run_depth b ≤ 64)
    (restB : List ℕ) (standsB : other ≡ run_words b ++ restB) (vb : List ℕ) where
  abbrev o : Offer
  o = offer_w other branch

  value : (x : ℕ) → value_in values x ≡ value_at va x
  value x = ap (λ l. value_in l x) laid ∙ value_in_lem below x

  abbrev PairsOf : Run → ℕ → Option Exchange → Type 0
  PairsOf a k x = Pairs issued e i branch a b vb part values other k fresh x

  -- what meets, by the branch
  abbrev met : ℕ → Meeting
  met j = record { issued = issued; sender = e; receiver = i; values = vb; process = b; branch = j }

  -- ---- a notify

  module _ (a : Run) (h w : ℕ) (y : List ℕ) (first : at part 0 ≡ h) (second : at part 1 ≡ w) (headed : second_of h ≡ first_of y) (sent : Listed part 2 y) where
    abbrev hearing : Bool
    hearing = cond (fits_w other o 7 h) (hears_w part other o.guard) false

    notify_fits : fit_w part values other o 9 branch e i ≡ cond (eqb (value_at va (w / 2048)) i) hearing false
    unfolding fit_w addressed_w takes_w counts_w taker_of
    notify_fits = rw (first, second, value (w / 2048))

    abbrev heard : Store
    heard = heard_w part values other o.guard

    abbrev notified_as : Run → Exchange
    notified_as q = record { sender = nil; receiver = q; values = stored vb heard; issued = issued; serial = 0; fault = 0 }

    notify_found :
        {x : Option Exchange} → fit_w part values other o 9 branch e i ≡ hearing → Meets hearing b (hear_w other o heard) fresh heard notified_as x →
        PairsOf a 9 x
    unfolding serial_w send_w receive_w issued_of fault_of
    notify_found f (misses z) = misfit (f ∙ z)
    notify_found f (meets {q} z k) =
        fit {x = notified_as q} (f ∙ z)
        (record {
          issues = refl;
          numbers = refl;
          fails = refl;
          sender = vanishes a fresh;
          receiver = k.becomes;
          shallow = k.shallow;
          values = ap (stored vb) (sym k.takes);
        })

    notify_pairs : PairsOf a 9 (exchange (met branch) (notification (name_of h) (values_at va y) (value_at va (first_variable w))))
    unfolding exchange guarded
    notify_pairs = by (eqb (value_at va (w / 2048)) i) refl
      where
        by :
            (t : Bool) → eqb (value_at va (w / 2048)) i ≡ t →
            PairsOf a 9 (guarded t (notified issued vb (name_of h) (values_at va y) (offer b branch).receives (offer b branch).next))
        by true z =
            notify_found (notify_fits ∙ ap (λ t. cond t hearing false) z)
            (notify_meets n issued other few small restB b soundB deepB standsB close vb part near-part values va value y (ap second_of first ∙ headed) sent branch h fresh)
        by false z = misfit (notify_fits ∙ ap (λ t. cond t hearing false) z)

  -- ---- a solicit

  module _ (h w : ℕ) (y x : List ℕ) (front : Headed (second_of h) y) (back : Headed (next_variable w) x) (l : Entries)
      (f : Fits (code false) anywhere (node h (w ∷ variable_words y ++ variable_words x) [] (list l) no_parts))
      (deep : depth (node h (w ∷ variable_words y ++ variable_words x) [] (list l) no_parts) ≤ 64) (rest : List ℕ)
      (stands : part ≡ words (node h (w ∷ variable_words y ++ variable_words x) [] (list l) no_parts) ++ rest) (first : at part 0 ≡ h) (second : at part 1 ≡ w) where
    abbrev asker : Run
    asker = act (node h (w ∷ variable_words y ++ variable_words x) [] (list l) no_parts)

    abbrev serving : Bool
    serving = cond (fits_w other o 8 h) (serves_w part other o.guard) false

    solicit_fits : fit_w part values other o 10 branch e i ≡ cond (eqb (value_at va (w / 2048)) i) serving false
    unfolding fit_w addressed_w takes_w counts_w taker_of
    solicit_fits = rw (first, second, value (w / 2048))

    abbrev served : Store
    served = served_w part values other o.guard

    abbrev solicited_as : Run → Exchange
    solicited_as q =
        record {
          sender = waiter (name_of h) x false i (suc issued) l;
          receiver = q;
          values = stored vb served;
          issued = suc issued;
          serial = suc issued;
          fault = 0;
        }

    solicit_found :
        {z : Option Exchange} → fit_w part values other o 10 branch e i ≡ serving →
        Meets serving b (serve_w other o e (suc issued) served fresh).rewriting (serve_w other o e (suc issued) served fresh).fresh served solicited_as z →
        PairsOf asker 10 z
    unfolding serial_w send_w receive_w issued_of fault_of
    solicit_found g (misses z) = misfit (g ∙ z)
    solicit_found g (meets {q} z k) =
        fit {x = solicited_as q} (g ∙ z)
        (record {
          issues = refl;
          numbers = refl;
          fails = refl;
          sender = ask_rewrites n issued part few small rest h w y x front back l f deep stands i (suc issued) low-i fresh big (omega arith);
          receiver = k.becomes;
          shallow = k.shallow;
          values = ap (stored vb) (sym k.takes);
        })

    solicit_pairs :
        PairsOf asker 10 (exchange (met branch) (solicitation (name_of h) (values_at va y) (value_at va (first_variable w)) x l))
    unfolding exchange guarded
    solicit_pairs = by (eqb (value_at va (w / 2048)) i) refl
      where
        by :
            (t : Bool) → eqb (value_at va (w / 2048)) i ≡ t →
            PairsOf asker 10
            (guarded t (solicited issued e i vb (name_of h) (values_at va y) x l (offer b branch).receives (offer b branch).next))
        by true z =
            solicit_found (solicit_fits ∙ ap (λ t. cond t serving false) z)
            (solicit_meets n issued other few small restB b soundB deepB standsB close vb part near-part values va value y (ap second_of first ∙ sym front.begins)
            (asks_front n issued part few small rest h w y x front back l f deep stands) branch h e i low-e x
            (asks_back n issued part few small rest h w y x front back l f deep stands) l fresh big room)
        by false z = misfit (solicit_fits ∙ ap (λ t. cond t serving false) z)

  -- ---- an executor's reply

  module _ (a : Run) (h client serial : ℕ) (y : List ℕ) (first : at part 0 ≡ h) (second : at part 1 / 8192 ≡ client) (third : at part 2 ≡ serial)
      (headed : second_of h ≡ first_of y) (sent : Listed part 3 y) where
    abbrev replying : Bool
    replying = cond (awaits_w other h serial client e i) (answers_w part other) false

    reply_fits : fit_w part values other o 16 branch e i ≡ cond (cond (eqb branch 0) (awaits_w other h serial client e i) false) (answers_w part other) false
    unfolding fit_w replied_w replies_w
    reply_fits = rw (first, second, third)

    abbrev answered : Store
    answered = answered_w part values other

    abbrev replied_as : Run → Exchange
    replied_as q = record { sender = nil; receiver = q; values = stored vb answered; issued = issued; serial = serial; fault = 0 }

    reply_found :
        {x : Option Exchange} → fit_w part values other o 16 branch e i ≡ replying →
        Meets replying b (answer_w other answered fresh).rewriting (answer_w other answered fresh).fresh answered replied_as x →
        PairsOf a 16 x
    unfolding serial_w send_w receive_w issued_of fault_of
    reply_found g (misses z) = misfit (g ∙ z)
    reply_found g (meets {q} z k) =
        fit {x = replied_as q} (g ∙ z)
        (rw third
        (record {
          issues = refl;
          numbers = refl;
          fails = refl;
          sender = vanishes a fresh;
          receiver = k.becomes;
          shallow = k.shallow;
          values = ap (stored vb) (sym k.takes);
        }))

    -- the exchange, by branch
    abbrev Replied : ℕ → Option Exchange
    Replied j = awaited (met j) (name_of h) client serial (replied issued serial vb (values_at va y))

    reply_pairs : PairsOf a 16 (exchange (met branch) (reply (name_of h) (values_at va y) client serial))
    unfolding exchange
    reply_pairs = by branch refl
      where
        by : (j : ℕ) → branch ≡ j → PairsOf a 16 (Replied branch)
        by zero z =
            subst (λ j. PairsOf a 16 (Replied j)) (sym z)
            (reply_found
            (reply_fits ∙ ap (λ j. cond (cond (eqb j 0) (awaits_w other h serial client e i) false) (answers_w part other) false) z)
            (reply_meets n issued other few small restB b soundB deepB standsB close vb part near-part values va value y (ap second_of first ∙ headed) sent
            h serial client e i fresh (omega arith)))
        by (suc j) z =
            subst (λ x. PairsOf a 16 x) (sym (ap Replied z ∙ awaited_branch (met (suc j)) (name_of h) client serial _ (λ y. omega arith)))
            (misfit
            (reply_fits
            ∙ ap (λ t. cond (cond t (awaits_w other h serial client e i) false) (answers_w part other) false) (ne_eqb branch 0 (λ y. omega arith))))

  -- ---- a notice

  module _ (a : Run) (h w client serial : ℕ) (first : at part 0 ≡ h) (second : at part 1 ≡ w) (named : w / 128 % 8 ≡ client)
      (third : at part 2 ≡ serial) where
    notice_fits : fit_w part values other o 18 branch e i ≡ cond (eqb branch 0) (awaits_w other h serial client e i) false
    unfolding fit_w replies_w
    notice_fits = rw (first, second, named, third)

    notice_receives : receive_w part values other o 18 e serial fresh ≡ fail_w other w fresh
    unfolding receive_w
    notice_receives = rw second

    abbrev failed_as : Run → Exchange
    failed_as q = record { sender = nil; receiver = q; values = vb; issued = issued; serial = serial; fault = 1 }

    notice_found :
        {x : Option Exchange} → fit_w part values other o 18 branch e i ≡ awaits_w other h serial client e i →
        Meets (awaits_w other h serial client e i) b (fail_w other w fresh).rewriting (fail_w other w fresh).fresh unchanged
        failed_as x →
        PairsOf a 18 x
    unfolding serial_w send_w issued_of fault_of
    notice_found g (misses z) = misfit (g ∙ z)
    notice_found g (meets {q} z k) =
        fit {x = failed_as q} (g ∙ z)
        (rw (third, notice_receives)
        (record {
          issues = refl;
          numbers = refl;
          fails = refl;
          sender = vanishes a fresh;
          receiver = k.becomes;
          shallow = k.shallow;
          values = sym (stored_none vb _ (ap (λ s. s.variable) k.takes));
        }))

    -- the exchange, by branch
    abbrev Failed : ℕ → Option Exchange
    Failed j = awaited (met j) (name_of h) client serial (faulting issued serial vb (first_name w))

    notice_pairs : PairsOf a 18 (exchange (met branch) (failure (name_of h) (first_name w) client serial))
    unfolding exchange
    notice_pairs = by branch refl
      where
        by : (j : ℕ) → branch ≡ j → PairsOf a 18 (Failed branch)
        by zero z =
            subst (λ j. PairsOf a 18 (Failed j)) (sym z)
            (notice_found (notice_fits ∙ ap (λ j. cond (eqb j 0) (awaits_w other h serial client e i) false) z)
            (fault_meets n issued other few small restB b soundB deepB standsB close vb h serial client e i fresh (omega arith) w))
        by (suc j) z =
            subst (λ x. PairsOf a 18 x) (sym (ap Failed z ∙ awaited_branch (met (suc j)) (name_of h) client serial _ (λ y. omega arith)))
            (misfit (notice_fits ∙ ap (λ t. cond t (awaits_w other h serial client e i) false) (ne_eqb branch 0 (λ y. omega arith))))

  -- ---- by what moves

  -- of a process that sends
  abbrev PairsBy : Run → Move → Type 0
  PairsBy a stuck = Unit {0}
  PairsBy a (alone vs p) = Unit {0}
  PairsBy a unvalued = Unit {0}
  PairsBy a (sends m) = PairsOf a (kind (as_node a)) (exchange (met branch) m)

  kinded : {a : Run} {x : Option Exchange} {k j : ℕ} → k ≡ j → PairsOf a j x → PairsOf a k x
  kinded {a} {x} q y = subst (λ k. PairsOf a k x) (sym q) y

  one_alone : (a : Run) (t : Bool) (vs : List ℕ) (q : Option Run) → PairsBy a (cond t (alone vs q) stuck)
  one_alone a true vs q = tt
  one_alone a false vs q = tt

  one_valued : (a : Run) (o : Option ℕ) (move : ℕ → Move) → ((v : ℕ) → PairsBy a (move v)) → PairsBy a (valuing o move)
  unfolding valuing
  one_valued a none move f = tt
  one_valued a (some v) move f = f v

  one_sends : (a : Run) (t : Bool) (m : Message) → PairsBy a (sends m) → PairsBy a (cond t (sends m) stuck)
  one_sends a true m y = y
  one_sends a false m y = tt

  module _ (fs : List Frame) (rest : List ℕ) where
    -- an action's
    act_pairs :
        {m : Node} → Shape m → Fits (code false) anywhere m → depth m ≤ 64 → part ≡ words m ++ rest →
        PairsBy (act m) (acting va fs m (action m))
    unfolding action acting words exprs_words as_node
    act_pairs (assigns q x) f deep stands = rw q (one_valued _ _ _ λ v. tt)
    act_pairs (branches q x y z) f deep stands = rw q (one_valued _ _ _ λ v. tt)
    act_pairs (repeats q x y) f deep stands = rw q (one_valued _ _ _ λ v. tt)
    act_pairs (chooses q x y) f deep stands = rw q tt
    act_pairs (hears q x) f deep stands = rw q tt
    act_pairs (serves q x y z v) f deep stands = rw q tt
    act_pairs (notifies {h} {w} {y} q x g) f deep stands =
        rw (q, only_list g)
        (kinded q
        (notify_pairs (act (node h (w ∷ variable_words y) [] absent no_parts)) h w y (ap (λ l. at l 0) stands) (ap (λ l. at l 1) stands) (sym g.begins)
        (record {
          fitting = g.fitting;
          behind = rest;
          stands = ap (drop 2) stands ∙ ap (λ l. l ++ rest) (append-nil (variable_words y));
        })))
    act_pairs (solicits {h} {w} {y} {x} {l} q t g k v) f deep stands =
        rw (q, first_list g (variable_words x), behind_list g (variable_words x), only_list k)
        (kinded q (solicit_pairs h w y x g k l f deep rest stands (ap (λ l. at l 0) stands) (ap (λ l. at l 1) stands)))
    act_pairs (installs q x y) f deep stands = rw q tt
    act_pairs (throws q x) f deep stands = rw q tt
    act_pairs (compensates q x) f deep stands = rw q tt

    run_pairs : {a : Run} → Sound n issued a → run_depth a ≤ 64 → part ≡ run_words a ++ rest → PairsBy a (move_of va fs a)
    unfolding move_of once_done
    run_pairs nil_sound deep stands = tt
    run_pairs (seq_sound a d q) deep stands = tt
    run_pairs (par_sound a d c t) deep stands = tt
    run_pairs {a} (scope_sound {a = p} x m l s) deep stands = one_alone a (is_done p) _ _
    run_pairs (executor_sound {o} {y} {client} {serial} {a = p} bo by t s) deep stands =
        let a : Run = executor o y client serial p in
        let h : ℕ = head_of 16 (name_fields o (first_of y)) in
        let low : first_of y < 32 = (variables-laid y by).low in
        let whole : part ≡ h ∷ (client * 8192) ∷ serial ∷ (variable_words y ++ (run_words p ++ rest)) =
        stands
        ∙ (ap (λ l. l ++ rest) (words_executor o y client serial p)
        ∙ ap (λ l. h ∷ (client * 8192) ∷ serial ∷ l) (append_assoc (variable_words y) (run_words p) rest)) in
        let second : at part 1 / 8192 ≡ client = ap (λ l. at l 1 / 8192) whole ∙ client_of client in
        let list : Listed part 3 y = record { fitting = by; behind = run_words p ++ rest; stands = ap (drop 3) whole } in
        let made : PairsOf a 16 (exchange (met branch) (reply (name_of h) (values_at va y) client serial)) =
        reply_pairs a h client serial y (ap (λ l. at l 0) whole) second (ap (λ l. at l 2) whole) (second_of_lem 16 o (first_of y) low) list in
        one_sends a (is_done p) (reply o (values_at va y) client serial)
        (kinded (kind_as_node (executor_sound bo by t s)) (rw (name_of_lem 16 o (first_of y) bo low) at made))
    run_pairs (waiter_sound x y z l) deep stands = tt
    run_pairs (notice_sound {o} {f} {client} {serial} bo bf t) deep stands =
        let a : Run = notice o f client serial in
        let h : ℕ = head_of 18 (name_fields o 0) in
        let w : ℕ = f * 1024 + client * 128 in
        let whole : part ≡ h ∷ w ∷ serial ∷ rest = stands ∙ ap (λ l. l ++ rest) (words_notice o f client serial) in
        let low : client < 8 = omega (arith, end_tests n issued client serial t) in
        let made : PairsOf a 18 (exchange (met branch) (failure (name_of h) (first_name w) client serial)) =
        notice_pairs a h w client serial (ap (λ l. at l 0) whole) (ap (λ l. at l 1) whole)
        (noticed_client f client low) (ap (λ l. at l 2) whole) in
        kinded (kind_as_node (notice_sound bo bf t)) (rw (name_of_lem 18 o 0 bo (omega arith), noticed_fault f client low) at made)
    run_pairs (act_sound {p} plain f) deep stands =
        act_pairs (shape plain f) f (omega (arith, depth_act p)) (stands ∙ ap (λ l. l ++ rest) (words_act p))

    pub sender_pairs :
        {a : Run} → Sound n issued a → run_depth a ≤ 64 → part ≡ run_words a ++ rest → (m : Message) → move_of va fs a ≡ sends m →
        PairsOf a (kind (as_node a)) (exchange (met branch) m)
    sender_pairs {a} sound deep stands m moves = subst (PairsBy a) moves (run_pairs sound deep stands)
