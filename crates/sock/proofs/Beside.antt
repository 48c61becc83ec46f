-- Steps side by side, on words (change l): an accepted step leaves every other engine's values and process, and n (`others_stay`); two steps with
-- no engine in common end in the same words in both orders, unless both are solicits (`order_does_not_matter`, `one_may_solicit`); and only lengths,
-- refusals 9 and 10, can make one order differ from the other (`lengths_decide`, `other_order`).
-- Assumes nothing.
use Prim.Native.Nat.{ℕ, ◌+◌, ◌-◌, ◌≤◌, ◌<◌}
use native.Mathlib.Omega.{arith}
use mathlib.Core.Path.{◌≡◌, refl, sym, ap, subst, ◌∙◌}
use mathlib.Core.Bool.{Bool, true, false, not, ◌&&◌, cond}
use mathlib.Core.Option.{some}
use mathlib.Core.List.{List, ◌∷◌, ◌++◌, append_assoc}
use mathlib.Core.Logic.{◌⊎◌, inl, inr}
use lib.Dec.{T, leb, leb→le, le→leb}
use lib.ListN.{length, get_or, take, drop}
use lib.Seq.{take_at, drop_at}
use borrow.Author.Tests.{lt-ltb}
use Rattle.sock.specs.Words.{bit}
use Rattle.sock.specs.Variables.{member}
use Rattle.sock.specs.Running.{run_words, size}
use Rattle.sock.specs.Configuration.{Limits, Config, values_words, engines_words, encode, engines_depth, read_config}
use Rattle.sock.specs.Rules.{also}
use Rattle.sock.specs.Calls.{serials_spent, deep, long, short, done, ◌>>◌, ◌unless◌, Numbers, engine_at, Stepped, Answer, answer_of, step_answer, part_in, process_part, process_of}
use Rattle.sock.specs.Runs.{accepted, next_words, named}
use Rattle.sock.specs.Beside.{call, step_engines, solicits, Beside, between, after, InOrder, SaysAlike, OrderDoesNotMatter, OneMaySolicit, lengths_alone, LengthsDecide, OtherOrder, values_of, SameEngine, OthersStay}
use Rattle.sock.proofs.Logic.{true_test, false_test}
use Rattle.sock.proofs.Fits.{FitsEngine, FitsConfig}
use Rattle.sock.proofs.Configuration.{config_found}
use Rattle.sock.proofs.Located.{engine_fits, start_of, words_before, words_after, encode_split, before_length, values_length}
use Rattle.sock.proofs.Steps.{Sure, sure_done, sure_done_lem, sure_unless, step_readable}
use Rattle.sock.proofs.Delivery.{unless_true}
use Rattle.sock.proofs.Accepted.{accepted_done}
use Rattle.sock.proofs.Taken.{Taken, Within, Accepts, step_accepts, limited, step_taken}
use Rattle.sock.proofs.Apart.{touched, solicit_at, Keeps, taken_keeps, Moved, taken_moved, Clear, clear_swap, agreeing_before, touched_after, solicit_after, second, second_engine, taken_both, shallow_either}

-- ---- words read

module _ (limits : Limits) (ws : List ℕ) (k : Numbers) {c : Config} (reads : read_config limits ws ≡ some c) where
  pub engines_read : step_engines limits ws k ≡ touched c k
  unfolding step_engines touched named also
  engines_read = rw reads

  solicits_read : solicits limits ws k ≡ solicit_at c k
  unfolding solicits solicit_at named also
  solicits_read = rw reads

clear_read :
    (limits : Limits) (ws : List ℕ) (j k : Numbers) {c : Config} → read_config limits ws ≡ some c →
    Beside limits ws j k → T (not (solicits limits ws j && solicits limits ws k)) → Clear c j k
clear_read limits ws j k r d o =
    record {
      engines = rw (engines_read limits ws j r, engines_read limits ws k r) at d;
      solicits = rw (solicits_read limits ws j r, solicits_read limits ws k r) at o;
    }

-- an accepted step on words: what is read, what is taken, and what the next one reads
pub record First (limits : Limits) (ws : List ℕ) (k : Numbers) (out : List ℕ) : Type 0 where
  pub config : Config
  pub stepped : Stepped
  pub reads : read_config limits ws ≡ some config
  pub taken : Taken config k stepped
  pub within : Within limits (length out) stepped
  pub next : next_words limits ws (call k out) ≡ encode stepped.config
  pub answers : step_answer limits ws k out ≡ answer_of (done stepped)
  pub next_reads : read_config limits (next_words limits ws (call k out)) ≡ some stepped.config

pub first_of : (limits : Limits) (ws : List ℕ) (k : Numbers) (out : List ℕ) → T (accepted limits ws (call k out)) → First limits ws k out
unfolding step_answer
first_of limits ws k out t =
    let (s, d) = accepted_done limits ws (call k out) t in
    let a : Accepts limits ws k (length out) s = sure_done_lem (step_accepts limits ws k (length out)) d.step_done in
    record {
      config = a.config;
      stepped = s;
      reads = a.reads;
      taken = a.taken;
      within = a.within;
      next = d.next;
      answers = ap answer_of d.step_done;
      next_reads = ap (read_config limits) d.next ∙ step_readable limits ws k (length out) s d.step_done;
    }

-- what the limits leave is the step itself
limited_sure : (limits : Limits) (room : ℕ) (s : Stepped) → Sure (λ x. x ≡ s) (limited limits room s)
unfolding limited
limited_sure limits room s =
    sure_unless serials_spent (leb s.config.issued 65535) λ u1.
    sure_unless deep (leb (engines_depth s.config.engines) limits.deepest) λ u2.
    sure_unless long (leb (length (encode s.config)) limits.longest) λ u3.
    sure_unless short (leb (length (encode s.config)) room) λ u4.
    sure_done refl

-- an accepted step on a known configuration is the one that is taken there
module _ (limits : Limits) (ws : List ℕ) (k : Numbers) (out : List ℕ) {c : Config} {x : Stepped} (r : read_config limits ws ≡ some c) (t : Taken c k x) where
  record Known : Type 0 where
    next : next_words limits ws (call k out) ≡ encode x.config
    answers : step_answer limits ws k out ≡ answer_of (done x)
    within : Within limits (length out) x

  known : T (accepted limits ws (call k out)) → Known
  unfolding step_answer
  known a =
      let (s, d) = accepted_done limits ws (call k out) a in
      let same : s ≡ x = sure_done_lem (limited_sure limits (length out) x) (sym (step_taken limits ws k (length out) r t) ∙ d.step_done) in
      let w : Accepts limits ws k (length out) s = sure_done_lem (step_accepts limits ws k (length out)) d.step_done in
      record {
        next = d.next ∙ ap (λ s. encode s.config) same;
        answers = ap answer_of d.step_done ∙ ap (λ s. answer_of (done s)) same;
        within = subst (Within limits (length out)) same w.within;
      }

-- ---- either order

says_alike :
    (s t : Stepped) {x y : Answer} →
    x ≡ answer_of (done s) → y ≡ answer_of (done t) →
    s.kind ≡ t.kind → s.serial ≡ t.serial → s.fault ≡ t.fault →
    SaysAlike x y
unfolding answer_of
says_alike s t p q a b e =
    record {
      kind = ap (λ x. x.kind) p ∙ a ∙ sym (ap (λ x. x.kind) q);
      serial = ap (λ x. x.serial) p ∙ b ∙ sym (ap (λ x. x.serial) q);
      fault = ap (λ x. x.fault) p ∙ e ∙ sym (ap (λ x. x.fault) q);
    }

pub one_may_solicit : OneMaySolicit
one_may_solicit limits ws j k o o' p p' beside one g h =
    let f = first_of limits ws j o g.first in
    let e = first_of limits ws k p h.first in
    let c : Config = f.config in
    let d : Clear c j k = clear_read limits ws j k f.reads beside one in
    let tj : Taken c j f.stepped = f.taken in
    let same : e.config ≡ c = cc (e.reads, f.reads) in
    let tk : Taken c k e.stepped = subst (λ c. Taken c k e.stepped) same e.taken in
    let m = second d tj tk in
    let n = second (clear_swap d) tk tj in
    let x = known limits (between limits ws j o) k o' f.next_reads m.taken g.second in
    let y = known limits (between limits ws k p) j p' e.next_reads n.taken h.second in
    record {
      words = x.next ∙ ap encode (taken_both d tj tk) ∙ sym y.next;
      says_j = says_alike f.stepped n.next f.answers y.answers (sym n.kind) (sym n.serial) (sym n.fault);
      says_k = says_alike m.next e.stepped x.answers e.answers m.kind m.serial m.fault;
    }

neither_both : (a b : Bool) → T (not a) → T (not (a && b))
neither_both true b t = absurd t
neither_both false b t = tt

-- Document 02, l
pub order_does_not_matter : OrderDoesNotMatter
order_does_not_matter limits ws j k o o' p p' beside a b =
    one_may_solicit limits ws j k o o' p p' beside (neither_both (solicits limits ws j) (solicits limits ws k) a)

-- ---- which orders are accepted

-- only lengths are left to refuse a step within serials and depth
lengths_left :
    (limits : Limits) (room : ℕ) (s : Stepped) →
    T (leb s.config.issued 65535) →
    T (leb (engines_depth s.config.engines) limits.deepest) →
    T (lengths_alone (answer_of (limited limits room s)).number)
unfolding limited lengths_alone answer_of ◌>>◌ ◌unless◌
lengths_left limits room s a b =
    subst (λ r. T (lengths_alone (answer_of r).number))
    (sym (unless_true serials_spent (leb s.config.issued 65535) _ a ∙ unless_true deep (leb (engines_depth s.config.engines) limits.deepest) _ b))
    (by (leb (length (encode s.config)) limits.longest) (leb (length (encode s.config)) room))
  where
    by : (p q : Bool) → T (lengths_alone (answer_of (◌>>◌ (long unless p) (◌>>◌ (short unless q) (done s)))).number)
    by true true = tt
    by true false = tt
    by false q = tt

-- all limits passed but the output's
limited_number :
    (limits : Limits) (room : ℕ) (s : Stepped) →
    T (leb s.config.issued 65535) →
    T (leb (engines_depth s.config.engines) limits.deepest) →
    T (leb (length (encode s.config)) limits.longest) →
    (answer_of (limited limits room s)).number ≡ cond (leb (length (encode s.config)) room) 0 10
unfolding limited answer_of ◌>>◌ ◌unless◌
limited_number limits room s a b d =
    ap (λ r. (answer_of r).number)
    (unless_true serials_spent (leb s.config.issued 65535) _ a
    ∙ unless_true deep (leb (engines_depth s.config.engines) limits.deepest) _ b
    ∙ unless_true long (leb (length (encode s.config)) limits.longest) _ d)
    ∙ by (leb (length (encode s.config)) room)
  where
    by : (q : Bool) → (answer_of (◌>>◌ (short unless q) (done s))).number ≡ cond q 0 10
    by true = refl
    by false = refl

-- serials left after both, where there were after each
few_serials : (n s t : ℕ) (a b : Bool) → s ≡ n + bit a → t ≡ n + bit b → T (not (a && b)) → T (leb s 65535) → T (leb t 65535) → s + bit b ≤ 65535
few_serials n s t true true p q u v w = absurd u
few_serials n s t true false p q u v w = omega (arith, leb→le s 65535 v)
few_serials n s t false true p q u v w = omega (arith, leb→le t 65535 w)
few_serials n s t false false p q u v w = omega (arith, leb→le s 65535 v)

pub lengths_decide : LengthsDecide
unfolding step_answer
lengths_decide limits ws j k o p out beside one a b =
    let f = first_of limits ws j o a in
    let e = first_of limits ws k p b in
    let c : Config = f.config in
    let d : Clear c j k = clear_read limits ws j k f.reads beside one in
    let tj : Taken c j f.stepped = f.taken in
    let same : e.config ≡ c = cc (e.reads, f.reads) in
    let tk : Taken c k e.stepped = subst (λ c. Taken c k e.stepped) same e.taken in
    let m = second d tj tk in
    let keeps : Keeps f.stepped.config k m.next = taken_keeps m.taken in
    let size : length m.next.config.engines ≡ length f.stepped.config.engines = keeps.size in
    let size' : length m.next.config.engines ≡ length e.stepped.config.engines = size ∙ (taken_keeps tj).size ∙ sym (taken_keeps tk).size in
    let shallow : engines_depth m.next.config.engines ≤ limits.deepest =
    shallow_either limits.deepest m.next.config.engines e.stepped.config.engines f.stepped.config.engines size' size (second_engine d tj tk)
    (leb→le _ _ e.within.shallow) (leb→le _ _ f.within.shallow) in
    let serials : m.next.config.issued ≤ 65535 =
    rw (keeps.issued, solicit_after d tj)
    (few_serials c.issued f.stepped.config.issued e.stepped.config.issued (solicit_at c j) (solicit_at c k) (taken_keeps tj).issued (taken_keeps tk).issued
    d.solicits f.within.serials e.within.serials) in
    subst (λ r. T (lengths_alone (answer_of r).number))
    (sym (step_taken limits (between limits ws j o) k (length out) f.next_reads m.taken))
    (lengths_left limits (length out) m.next (le→leb _ _ serials) (le→leb _ _ shallow))

module _
    (limits : Limits) (ws : List ℕ) (j k : Numbers) (o o' p p' : List ℕ) (beside : Beside limits ws j k)
    (one : T (not (solicits limits ws j && solicits limits ws k))) (g : InOrder limits ws j o k o')
  where
    abbrev f : First limits ws j o
    f = first_of limits ws j o g.first

    abbrev c : Config
    c = f.config

    d : Clear c j k
    d = clear_read limits ws j k f.reads beside one

    -- the step that is second, taken first
    other_first : T (lengths_alone (step_answer limits ws k p).number)
    unfolding step_answer
    other_first =
        let e = first_of limits (between limits ws j o) k o' g.second in
        let same : e.config ≡ f.stepped.config = cc (e.reads, f.next_reads) in
        let tu : Taken f.stepped.config k e.stepped = subst (λ c. Taken c k e.stepped) same e.taken in
        let b : Moved f.stepped.config c k e.stepped = taken_moved tu (agreeing_before d f.taken) in
        let keeps : Keeps c k b.next = taken_keeps b.taken in
        let keeps' : Keeps f.stepped.config k e.stepped = taken_keeps tu in
        let size : length b.next.config.engines ≡ length e.stepped.config.engines =
        keeps.size ∙ sym (keeps'.size ∙ (taken_keeps f.taken).size) in
        let shallow : engines_depth b.next.config.engines ≤ limits.deepest =
        shallow_either limits.deepest b.next.config.engines e.stepped.config.engines c.engines size keeps.size (engine b keeps)
        (leb→le _ _ e.within.shallow) (config_found limits ws c f.reads).1.shallow in
        let few : e.stepped.config.issued ≤ 65535 = leb→le _ _ e.within.serials in
        let serials : b.next.config.issued ≤ 65535 =
        omega (arith, keeps.issued, keeps'.issued, (taken_keeps f.taken).issued, ap bit (solicit_after d f.taken)) in
        subst (λ r. T (lengths_alone (answer_of r).number)) (sym (step_taken limits ws k (length p) f.reads b.taken))
        (lengths_left limits (length p) b.next (le→leb _ _ serials) (le→leb _ _ shallow))
      where
        engine :
            {u : Stepped} (b : Moved f.stepped.config c k u) → Keeps c k b.next → (i : ℕ) →
            (engine_at b.next.config i ≡ engine_at u.config i) ⊎ (engine_at b.next.config i ≡ engine_at c i)
        engine {u} b keeps i = by (member i (touched c k)) refl
          where
            by : (z : Bool) → member i (touched c k) ≡ z → (engine_at b.next.config i ≡ engine_at u.config i) ⊎ (engine_at b.next.config i ≡ engine_at c i)
            by true q = inl (b.each i (subst (λ es. T (member i es)) (sym (touched_after d f.taken)) (true_test q)))
            by false q = inr (keeps.others i (false_test q))

    -- then the other one: its result is what the order accepted ends in
    other_second :
        T (accepted limits ws (call k p)) →
        (step_answer limits (between limits ws k p) j p').number ≡ cond (leb (length (after limits ws j o k o')) (length p')) 0 10
    unfolding step_answer
    other_second a =
        let e = first_of limits ws k p a in
        let same : e.config ≡ c = cc (e.reads, f.reads) in
        let tk : Taken c k e.stepped = subst (λ c. Taken c k e.stepped) same e.taken in
        let m = second d f.taken tk in
        let n = second (clear_swap d) tk f.taken in
        let x = known limits (between limits ws j o) k o' f.next_reads m.taken g.second in
        let meet : m.next.config ≡ n.next.config = taken_both d f.taken tk in
        ap (λ r. (answer_of r).number) (step_taken limits (between limits ws k p) j (length p') e.next_reads n.taken)
        ∙ limited_number limits (length p') n.next (subst (λ c. T (leb c.issued 65535)) meet x.within.serials)
        (subst (λ c. T (leb (engines_depth c.engines) limits.deepest)) meet x.within.shallow)
        (subst (λ c. T (leb (length (encode c)) limits.longest)) meet x.within.short)
        ∙ ap (λ u. cond (leb (length u) (length p')) 0 10) (sym (x.next ∙ ap encode meet))

pub other_order : OtherOrder
other_order limits ws j k o o' p p' beside one g =
    (other_first limits ws j k o o' p p' beside one g, other_second limits ws j k o o' p p' beside one g)

-- ---- the other engines

-- the words of an engine's values and process stand in the layout where the calls look for them
module _ (limits : Limits) (ws : List ℕ) {c : Config} (reads : read_config limits ws ≡ some c) (e : ℕ) (h : e < length c.engines) where
  words_read : ws ≡ encode c
  words_read = sym (config_found limits ws c reads).0

  fits_read : FitsConfig c
  fits_read = (config_found limits ws c reads).1.fitting

  part_read : process_part limits ws e ≡ record { first = start_of c e; count = size (engine_at c e).process }
  unfolding process_part part_in
  part_read = ap (part_in e) reads ∙ rw (lt-ltb e (length c.engines) h)

  process_read : process_of limits ws e ≡ run_words (engine_at c e).process
  unfolding process_of size
  process_read =
      ap (λ q. take q.count (drop q.first ws)) part_read
      ∙ ap (λ u. take (size (engine_at c e).process) (drop (start_of c e) u)) (words_read ∙ encode_split c e h)
      ∙ ap (take (size (engine_at c e).process))
      (drop_at (words_before c e) (run_words (engine_at c e).process ++ words_after c e) (start_of c e) (before_length c e h fits_read))
      ∙ take_at (run_words (engine_at c e).process) (words_after c e) (size (engine_at c e).process) refl

  values_read : values_of limits ws e ≡ values_words (engine_at c e).values
  unfolding values_of
  values_read =
      let vs : List ℕ = (engine_at c e).values in
      let front : List ℕ = length c.engines ∷ c.issued ∷ engines_words (take e c.engines) in
      let back : List ℕ = run_words (engine_at c e).process ++ words_after c e in
      let g : FitsEngine (length c.engines) c.issued (engine_at c e) = engine_fits _ fits_read.engines e h in
      let laid : ws ≡ front ++ (values_words vs ++ back) = words_read ∙ encode_split c e h ∙ append_assoc front (values_words vs) back in
      let starts : length front ≡ start_of c e - 64 = omega arith in
      let counts : length (values_words vs) ≡ 64 = omega (arith, values_length vs, g.counted) in
      ap (λ q. take 64 (drop (q.first - 64) ws)) part_read
      ∙ ap (λ u. take 64 (drop (start_of c e - 64) u)) laid
      ∙ ap (take 64) (drop_at front (values_words vs ++ back) (start_of c e - 64) starts)
      ∙ take_at (values_words vs) back 64 counts

number_read : (limits : Limits) (ws : List ℕ) {c : Config} → read_config limits ws ≡ some c → get_or ws 0 0 ≡ length c.engines
unfolding encode
number_read limits ws {c} reads = ap (λ u. get_or u 0 0) (sym (config_found limits ws c reads).0)

-- Document 02, l: an accepted step changes no value or process of any other engine
pub others_stay : OthersStay
others_stay limits ws k out a = (now ∙ keeps.size ∙ sym before, stays)
  where
    f : First limits ws k out
    f = first_of limits ws k out a

    next : List ℕ
    next = between limits ws k out

    keeps : Keeps f.config k f.stepped
    keeps = taken_keeps f.taken

    before : get_or ws 0 0 ≡ length f.config.engines
    before = number_read limits ws f.reads

    now : get_or next 0 0 ≡ length f.stepped.config.engines
    now = number_read limits next f.next_reads

    stays : (e : ℕ) → e < get_or ws 0 0 → T (not (member e (step_engines limits ws k))) → SameEngine limits ws next e
    stays e h t =
        let out : T (not (member e (touched f.config k))) = subst (λ es. T (not (member e es))) (engines_read limits ws k f.reads) t in
        let same : engine_at f.stepped.config e ≡ engine_at f.config e = keeps.others e out in
        let b : e < length f.config.engines = omega (arith, before) in
        let b' : e < length f.stepped.config.engines = omega (arith, keeps.size) in
        record {
          values = values_read limits next f.next_reads e b' ∙ ap (λ x. values_words x.values) same ∙ sym (values_read limits ws f.reads e b);
          process = process_read limits next f.next_reads e b' ∙ ap (λ x. run_words x.process) same ∙ sym (process_read limits ws f.reads e b);
        }
