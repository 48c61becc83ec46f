-- A reply that is ready by its words is accepted: the step that names it and its waiter delivers the serial, and by a reply.
-- Assumes nothing.
use Prim.Native.Nat.{ℕ, suc, ◌+◌, ◌-◌, ◌≤◌, ◌<◌}
use native.Mathlib.Omega.{arith}
use native.Mathlib.Decide.{ℕ_discrete}
use mathlib.Core.Path.{◌≡◌, refl, sym, subst, ap, ◌∙◌}
use mathlib.Core.Bool.{Bool, true, false, ◌&&◌, cond}
use mathlib.Core.Option.{Option, some}
use mathlib.Core.List.{List, [], ◌∷◌, ◌++◌}
use borrow.Author.Tests.{eq-eqb, ne_eqb}
use lib.Dec.{T, eqb, ltb, eqb→eq}
use lib.ListN.{length, get_or, drop}
use Rattle.sock.specs.Words.{kind_of}
use Rattle.sock.specs.Variables.{values_at}
use Rattle.sock.specs.Term.{kind}
use Rattle.sock.specs.Running.{Run, nil, seq, par, scope, executor, waiter, notice, act, as_node, run_words}
use Rattle.sock.specs.Configuration.{standard, Config, encode}
use Rattle.sock.specs.Frames.{Located, is_done}
use Rattle.sock.specs.Rules.{Message, reply, Move, stuck, sends, once_done, move_of, Meeting, if_waits, awaited, Exchange, exchange}
use Rattle.sock.specs.Calls.{Numbers as Asked, Spot, done, enabled_at, meeting, Stepped}
use Rattle.sock.specs.Runs.{delivery}
use Rattle.sock.proofs.Logic.{true_test, All, all_none, all_some, all_guarded, all_some_lem}
use Rattle.sock.proofs.Fits.{Sound, nil_sound, seq_sound, par_sound, scope_sound, executor_sound, waiter_sound, notice_sound, act_sound}
use Rattle.sock.proofs.Measures.{words_executor}
use Rattle.sock.proofs.ByKind.{run_kind, kind_as_node, code_kind}
use Rattle.sock.proofs.Delivery.{Meets, reply_meets, delivery_accepted}
use Rattle.sock.proofs.Located.{Enabled, enabled_stands, start_of}
use Rattle.sock.proofs.Steps.{sure_done_lem, enabled_fits}
use Rattle.sock.proofs.Taken.{Taken, taken_alone, taken_between, Accepts, step_accepts}
use Rattle.reading.specs.Survey.{Starts, surveyed}
use Rattle.reading.proofs.Known.{Known, survey_known, known_length}
use Rattle.skipping.proofs.Notes.{Right}
use Rattle.layout.specs.Own.{own_end}
use Rattle.layout.specs.Positions.{onward}
use Rattle.finding.specs.declared.find.Site.{Site}
use Rattle.finding.specs.declared.find.Found.{Found}
use Rattle.finding.specs.declared.find.Found.TheVariants.{Hit}
use Rattle.finding.specs.Find.{find_w}
use Rattle.rules.specs.Rewriting.{at}
use Rattle.rules.specs.Offering.{offer_w}
use Rattle.rules.proofs.Rewrites.{head_on}
use Rattle.rules.proofs.Edits.{done_nil}
use Rattle.stepping.specs.Stepping.{moves_w}
use Rattle.stepping.specs.declared.bundles.Numbers.{Numbers}
use Rattle.stepping.specs.Bundles.{Engines, numbers_as, start_at}
use Rattle.stepping.specs.Meeting.{replied_w, replies_w, fit_w}
use Rattle.stepping.specs.Exchanging.{lent}
use Rattle.stepping.proofs.Movers.{Moving, stays, goes, lacks, asks, known_moving}
use Rattle.stepping.proofs.Pairs.{Pairs, misfit, fit}
use Rattle.stepping.proofs.Seeking.{Seen, placed, Seeks, unseen, seen, seeks}
use Rattle.stepping.proofs.Partners as partners
use Rattle.keeper.specs.Hopes.{ready_at}
use Rattle.keeper.specs.Seeking.{Surveyed}
use Rattle.keeper.specs.Replies.{answered_w}
use Rattle.keeper.proofs.Trying.{modest, surveyed_right}
use Rattle.keeper.specs.Game.{moved, delivers}
use Rattle.keeper.proofs.Gone.{taken_kind}
use Rattle.keeper.proofs.Pairing.{word_2}
use Rattle.keeper.proofs.Replying.{waits_any, alone_apart, once_sends, same_message}

-- ---- by the rules

five_tests : (a b c d e : Bool) → T (a && b && c && d && e) → T a × T b × T c × T d × T e
five_tests true true true true true t = (tt, tt, tt, tt, tt)
five_tests false b c d e t = absurd t
five_tests true false c d e t = absurd t
five_tests true true false d e t = absurd t
five_tests true true true false e t = absurd t
five_tests true true true true false t = absurd t

module _ (vs : List ℕ) where
  values_counted : (xs : List ℕ) → length (values_at vs xs) ≡ length xs
  unfolding values_at
  values_counted [] = refl
  values_counted (x ∷ xs) = ap suc (values_counted xs)

-- what takes a reply is the waiter that it meets
met_by :
    (k : Meeting) (o : ℕ) (y vs : List ℕ) (client s : ℕ) (r : Run) → k.process ≡ r →
    All (λ (x : Exchange). Meets s k.sender k.receiver (executor o y client s nil) r) (exchange k (reply o (values_at vs y) client s))
unfolding exchange awaited if_waits
met_by k o y vs client s nil e = rw e all_none
met_by k o y vs client s (seq p q) e = rw e all_none
met_by k o y vs client s (par p q) e = rw e all_none
met_by k o y vs client s (scope name mark zombie l p) e = rw e all_none
met_by k o y vs client s (executor o' y' client' serial p) e = rw e all_none
met_by k o y vs client s (waiter op x dead server t l) e =
    rw e
    (all_guarded _ λ u.
    all_guarded _ λ g.
    let (tb, ts, to, tc, tg) = five_tests (eqb k.branch 0) (eqb s t) (eqb o op) (eqb client k.receiver) (eqb server k.sender) u in
    let es : s ≡ t = eqb→eq s t ts in
    let eo : o ≡ op = eqb→eq o op to in
    let ec : client ≡ k.receiver = eqb→eq client k.receiver tc in
    let eg : server ≡ k.sender = eqb→eq server k.sender tg in
    all_some (rw (← es, ← eo, ec, eg) (reply_meets (sym (values_counted vs y) ∙ eqb→eq (length (values_at vs y)) (length x) g))))
met_by k o y vs client s (notice o' f client' serial) e = rw e all_none
met_by k o y vs client s (act p) e = rw e all_none

calm_by : (k : Meeting) (o client s : ℕ) (v : List ℕ) → All (λ (x : Exchange). x.fault ≡ 0) (exchange k (reply o v client s))
unfolding exchange awaited
calm_by k o client s v = waits_any k.process λ op x dead server t l. all_guarded _ λ u. all_guarded _ λ g. all_some refl

taken_calm :
    {c : Config} {k : Asked} {s : Stepped} {p : Spot} {o client t : ℕ} {v : List ℕ} → Taken c k s → enabled_at c k.engine k.position ≡ some p →
    move_of p.values p.frames p.process ≡ sends (reply o v client t) → s.fault ≡ 0
taken_calm {p = spot} (taken_alone a vs p named e t) at' mv =
    let same : a ≡ spot = cc in alone_apart (sym e ∙ ap (λ (q : Spot). move_of q.values q.frames q.process) same ∙ mv)
taken_calm {c} {k} {p = spot} {o} {client} {t} {v} (taken_between a b m x named e meets u q) at' mv =
    let same : a ≡ spot = cc in
    let says : m ≡ reply o v client t = same_message m _ (sym e ∙ ap (λ (q : Spot). move_of q.values q.frames q.process) same ∙ mv) in
    all_some_lem (calm_by (meeting c k a b) o client t v) (ap (exchange (meeting c k a b)) (sym says) ∙ q)

-- an executor, by its kind
executor_form :
    {n issued : ℕ} {r : Run} → Sound n issued r → kind (as_node r) ≡ 16 → (o : ℕ) × (y : List ℕ) × (client : ℕ) × (serial : ℕ) × (p : Run) × (r ≡ executor o y client serial p)
executor_form {r = r} g e = by g (sym (kind_as_node g) ∙ e)
  where
    by : {n issued : ℕ} {r : Run} → Sound n issued r → run_kind r ≡ 16 → (o : ℕ) × (y : List ℕ) × (client : ℕ) × (serial : ℕ) × (p : Run) × (r ≡ executor o y client serial p)
    by nil_sound q = absurd (omega (arith, q))
    by (seq_sound a b u) q = absurd (omega (arith, q))
    by (par_sound a b u v) q = absurd (omega (arith, q))
    by (scope_sound a b u v) q = absurd (omega (arith, q))
    by (executor_sound {o} {y} {client} {serial} {a = p} bo by' t u) q = (o, y, client, serial, p, refl)
    by (waiter_sound bo bx t l) q = absurd (omega (arith, q))
    by (notice_sound bo bf t) q = absurd (omega (arith, q))
    by (act_sound {p} u f) q = let low : kind p < 15 = code_kind f in absurd (omega (arith, q))

-- ---- by the words

-- what is found, as it stands
asks_of : {m : Move} {n : ℕ} → Moving m n → n ≡ 2 → (x : Message) × (m ≡ sends x)
asks_of stays e = absurd (omega (arith, e))
asks_of goes e = absurd (omega (arith, e))
asks_of lacks e = absurd (omega (arith, e))
asks_of (asks {m}) e = (m, refl)

fits_some :
    {issued e i branch : ℕ} {a b : Run} {vb part values other : List ℕ} {kd : ℕ} {fresh : List ℕ} {o : Option Exchange} → Pairs issued e i branch a b vb part values other kd fresh o →
    fit_w part values other (offer_w other branch) kd branch e i ≡ true → (x : Exchange) × (o ≡ some x)
fits_some (misfit z) q = absurd (subst T (sym q ∙ z) tt)
fits_some (fit {x} z t) q = (x, refl)

-- a place whose executor is ready
pub record ReadyHere (serial : ℕ) (ws : List ℕ) (i : ℕ) : Type 0 where
  pub kind : kind_of (at ws i) ≡ 16
  pub serial_is : at ws (onward i 2) ≡ serial
  pub body : at ws (own_end ws i) ≡ 0

pub ready_here : (serial : ℕ) (ws : List ℕ) (i : ℕ) → ready_at serial ws i ≡ true → ReadyHere serial ws i
unfolding ready_at
ready_here serial ws i e = by (eqb (kind_of (at ws i)) 16) (eqb (at ws (onward i 2)) serial) (eqb (at ws (own_end ws i)) 0) refl refl refl e
  where
    by : (a b d : Bool) → eqb (kind_of (at ws i)) 16 ≡ a → eqb (at ws (onward i 2)) serial ≡ b → eqb (at ws (own_end ws i)) 0 ≡ d → cond a (cond b d false) false ≡ true → ReadyHere serial ws i
    by true true true u v w q = record { kind = eqb→eq _ 16 (true_test u); serial_is = eqb→eq _ serial (true_test v); body = eqb→eq _ 0 (true_test w) }
    by true true false u v w q = absurd (subst T (sym q) tt)
    by true false d u v w q = absurd (subst T (sym q) tt)
    by false b d u v w q = absurd (subst T (sym q) tt)

-- what an answered executor's words say
pub record AnsweredHere (ws : List ℕ) (a b branch e i : ℕ) : Type 0 where
  pub apart : e ≡ i → ⊥
  pub first : branch ≡ 0
  pub replied : replied_w (lent a (length ws) ws) (lent b (length ws) ws) branch e i ≡ true

pub answered_here : (ws : List ℕ) (a b branch e i : ℕ) → answered_w ws a b branch e i ≡ true → AnsweredHere ws a b branch e i
unfolding answered_w replied_w replies_w
answered_here ws a b branch e i q = by (ℕ_discrete e i) (ltb (length ws) a) (ltb (length ws) b) (ℕ_discrete branch 0) refl refl
  where
    no_way : {A : Type 0} → false ≡ true → A
    no_way z = absurd (subst T (sym z) tt)

    by : Dec (e ≡ i) → (u v : Bool) → Dec (branch ≡ 0) → ltb (length ws) a ≡ u → ltb (length ws) b ≡ v → AnsweredHere ws a b branch e i
    by (yes z) u v d f g = no_way (rw (eq-eqb e i z) at q)
    by (no z) true v d f g = no_way (rw (ne_eqb e i z, f) at q)
    by (no z) false true d f g = no_way (rw (ne_eqb e i z, f, g) at q)
    by (no z) false false (no y) f g = no_way (rw (ne_eqb e i z, f, g, ne_eqb branch 0 y) at q)
    by (no z) false false (yes y) f g = record { apart = z; first = y; replied = rw (ne_eqb e i z, f, g) at q }

-- ---- in a configuration that was surveyed

module _ (ws notes : List ℕ) (g : Engines) (sv : Surveyed ws notes g) where
  abbrev pub s : Starts
  s = surveyed standard 11 ws

  pub known : Known standard ws s
  known = survey_known standard ws sv.words s refl λ z. sv.more (sv.count ∙ z)

  abbrev pub c : Config
  c = known.config

  right : Right ws notes
  right = surveyed_right ws notes g sv

  pub engines_are : g.count ≡ length c.engines
  engines_are = sv.count ∙ known.engines

  pub start_is : (e : ℕ) → e < g.count → start_at g e ≡ start_of c e
  start_is e h = ap (λ l. get_or l e 0) sv.starts ∙ known.starts e (omega (arith, engines_are, h))

  record Stood (e p : ℕ) (a : Site) : Type 0 where
    pub located : Located
    pub seen : Seen ws sv.words s modest known e (start_of c e + p) located a
    pub named : enabled_at c e p ≡ some (placed ws sv.words s modest known e located)

  seen_of : {e p : ℕ} {f : Found} {o : Option Spot} → Seeks ws sv.words s modest known e p (start_of c e + p) f o → o ≡ enabled_at c e p → (a : Site) → f ≡ Hit a → Stood e p a
  seen_of unseen n a q = absurd (let z : ◌≡◌ {A = ℕ} 0 1 = cc in omega arith)
  seen_of {e} {p} (seen {l} {sp} y) n a q = let r : sp ≡ a = cc in record { located = l; seen = subst (Seen ws sv.words s modest known e (start_of c e + p) l) r y; named = sym n }

  stood_at : (e p : ℕ) → e < g.count → p < 65536 → (a : Site) → find_w 64 ws notes (onward (start_at g e) p) 1 (start_at g e) ≡ Hit a → Stood e p a
  stood_at e p h low a hit =
      seen_of (seeks ws sv.words s modest known e (omega (arith, engines_are, h)) p low notes right) refl a (subst (λ (k : ℕ). find_w 64 ws notes (onward k p) 1 k ≡ Hit a) (start_is e h) hit)

  module _ (k : Numbers) (low : k.position < 65536) (low' : k.second_position < 65536) (inside : k.engine < g.count) (inside' : k.second < g.count) (a b : Site)
      (hit : find_w 64 ws notes (onward (start_at g k.engine) k.position) 1 (start_at g k.engine) ≡ Hit a)
      (hit' : find_w 64 ws notes (onward (start_at g k.second) k.second_position) 1 (start_at g k.second) ≡ Hit b) (serial : ℕ) (ready : ReadyHere serial ws a.at)
      (answered : AnsweredHere ws a.at b.at k.branch k.engine k.second) where
    one : Stood k.engine k.position a
    one = stood_at k.engine k.position inside low a hit

    two : Stood k.second k.second_position b
    two = stood_at k.second k.second_position inside' low' b hit'

    abbrev p : Spot
    p = placed ws sv.words s modest known k.engine one.located

    abbrev q : Spot
    q = placed ws sv.words s modest known k.second two.located

    stands : Enabled c k.engine k.position p
    stands = enabled_stands c k.engine k.position p known.readable.fitting one.named

    place_is : a.at ≡ start_of c k.engine + k.position
    place_is = one.seen.spotted.at

    begins : drop a.at ws ≡ run_words one.located.process ++ stands.stands.rest
    begins = subst (λ us. drop a.at us ≡ run_words one.located.process ++ stands.stands.rest) known.same (ap (λ i. drop i (encode c)) place_is ∙ stands.stands.begins)

    low_at : a.at ≤ 8192
    low_at =
        let z = partners.found_inside ws sv.words s modest known k.engine one.seen.inside (start_of c k.engine + k.position) one.located a one.seen.spotted in
        omega (arith, z, (known_length known).1)

    kind_is : kind (as_node one.located.process) ≡ 16
    unfolding run_words
    kind_is = sym (ap kind_of (head_on ws a.at (as_node one.located.process) stands.stands.rest begins)) ∙ ready.kind

    sends_by : (x : Message) × (move_of p.values p.frames p.process ≡ sends x)
    unfolding moves_w
    sends_by =
        asks_of (known_moving ws sv.words s modest known k.engine one.seen.inside (start_of c k.engine + k.position) one.located a one.seen.place one.seen.spotted notes right)
        (rw (kind_is, eq-eqb (at ws (own_end ws a.at)) 0 ready.body) refl)

    fits_here :
        fit_w (lent a.at (length ws) ws) (lent (start_of c k.engine - 64) (start_of c k.engine) ws) (lent b.at (length ws) ws) (offer_w (lent b.at (length ws) ws) k.branch) (kind (as_node one.located.process)) k.branch k.engine k.second
        ≡ true
    unfolding fit_w
    fits_here = rw kind_is answered.replied

    trades : (x : Exchange) × (exchange (meeting c (numbers_as k) p q) sends_by.0 ≡ some x)
    trades =
        fits_some
        (partners.partners_trade ws sv.words s modest known k.engine one.seen.inside (start_of c k.engine + k.position) one.located a one.seen.spotted k.second two.seen.inside (start_of c k.second + k.second_position) two.located b
        two.seen.spotted k.branch sends_by.0 sends_by.1)
        fits_here

    moved_by : {st : Stepped} → moved (encode c) (delivery k.engine k.position k.second k.second_position) ≡ done st → moved ws (numbers_as k) ≡ done st
    moved_by d =
        ap (λ us. moved us (numbers_as k)) (sym known.same)
        ∙ ap (λ (n : ℕ). moved (encode c) (record { engine = k.engine; position = k.position; second = k.second; second_position = k.second_position; branch = n })) answered.first ∙ d

    few : length (encode c) ≤ 8192
    few = known.readable.short

    said : (st : Stepped) (t : ℕ) → st.kind ≡ 16 → st.serial ≡ t → t ≡ serial → T (delivers serial st)
    unfolding delivers
    said st t e f h = rw (eq-eqb st.kind 16 e, eq-eqb st.serial serial (f ∙ h)) tt

    abbrev pub Accepted : Type 0
    Accepted = (x : Stepped) × (moved ws (numbers_as k) ≡ done x) × T (delivers serial x) × (x.fault ≡ 0)

    what_it_says : (o : ℕ) (y : List ℕ) (client t : ℕ) → move_of p.values p.frames p.process ≡ sends (reply o (values_at p.values y) client t) → t ≡ serial → (st : Stepped) → moved ws (numbers_as k) ≡ done st → st.serial ≡ t → Accepted
    unfolding moved
    what_it_says o y client t sent serial_is st moves names =
        let acc : Accepts standard ws (numbers_as k) 8192 st = sure_done_lem (step_accepts standard ws (numbers_as k) 8192) moves in
        let was : acc.config ≡ c = (let u = acc.reads in let v = known.reads in cc) in
        let taken : Taken c (numbers_as k) st = subst (λ (d : Config). Taken d (numbers_as k) st) was acc.taken in
        (st, moves, said st t (taken_kind taken one.named ∙ kind_is) names serial_is, taken_calm taken one.named sent)

    by_waiter :
        (o : ℕ) (y : List ℕ) (client t : ℕ) → one.located.process ≡ executor o y client t nil → move_of p.values p.frames p.process ≡ sends (reply o (values_at p.values y) client t) → t ≡ serial →
        Meets t k.engine k.second (executor o y client t nil) two.located.process → Accepted
    unfolding moved
    by_waiter o y client t empty sent serial_is met =
        let (st, done_by, names) =
        delivery_accepted standard c known.readable t k.engine k.position k.second k.second_position p q one.named two.named answered.apart
        (subst (λ (r : Run). Meets t k.engine k.second r two.located.process) (sym empty) met) 8192 few in
        what_it_says o y client t sent serial_is st (moved_by done_by) names

    by_form : (o : ℕ) (y : List ℕ) (client t : ℕ) (body : Run) → one.located.process ≡ executor o y client t body → Accepted
    unfolding move_of once_done
    by_form o y client t body e =
        let sent : cond (is_done body) (sends (reply o (values_at p.values y) client t)) stuck ≡ sends sends_by.0 = sym (ap (move_of p.values p.frames) e) ∙ sends_by.1 in
        let (d, says) = once_sends (reply o (values_at p.values y) client t) (is_done body) sent in
        let met : Meets t k.engine k.second (executor o y client t nil) two.located.process =
        all_some_lem (met_by (meeting c (numbers_as k) p q) o y p.values client t two.located.process refl) (ap (exchange (meeting c (numbers_as k) p q)) says ∙ trades.1) in
        let laid_out : drop a.at ws ≡ _ = begins ∙ ap (λ r. run_words r ++ stands.stands.rest) e ∙ ap (λ w. w ++ stands.stands.rest) (words_executor o y client t body) in
        by_waiter o y client t (e ∙ ap (executor o y client t) (done_nil body d)) (sends_by.1 ∙ ap sends (sym says)) (sym (word_2 ws a.at low_at _ _ _ _ laid_out) ∙ ready.serial_is) met

    -- the reply is accepted
    pub accepted_reply : Accepted
    accepted_reply =
        let (o, y, client, t, body, e) = executor_form (all_some_lem (enabled_fits known.readable.fitting k.engine k.position) one.named).process kind_is in
        by_form o y client t body e
