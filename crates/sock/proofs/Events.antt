-- Takings back: straight after, several in reverse, and demand 3 over lists of events. What stands is a chain of accepted calls from the start
-- to the words read now; a taking back by the last one's own journal goes back along it by one.
-- Assumes nothing.
use Prim.Native.Nat.{ℕ, ◌≤◌}
use native.Mathlib.Omega.{arith}
use native.Mathlib.Nat.{le_refl}
use mathlib.Core.Path.{◌≡◌, refl, sym, ap, subst, ◌∙◌}
use mathlib.Core.Bool.{Bool, true, false, cond}
use mathlib.Core.Option.{none, some}
use mathlib.Core.List.{List, [], ◌∷◌, ◌++◌, map, map-append, reverse, reverse-cons}
use lib.Dec.{T, eqb, leb}
use lib.ListN.{length, take, drop, length-set}
use lib.Seq.{take-append_seam}
use Rattle.sock.specs.Configuration.{Limits, Config, encode, read_config, engines_depth}
use Rattle.sock.specs.Running.{Run}
use Rattle.sock.specs.Frames.{plug}
use Rattle.sock.specs.Calls.{unreadable, nobody_there, no_move, no_partner, no_fit, installing, serials_spent, deep, long, short, Result, refused, done, Numbers, Spot, Effect, lone, between, Stepped, with_engine, carried_out, enabled_at, movable, partner, effect, step, answer_of, output_of, over}
use Rattle.sock.specs.Rules.{move_of}
use Rattle.sock.specs.Journal.{alike, journal_of, journal_enough, journal_step, journal_after, journal_answer, journal_output, journal_written, restored, take_back, taken_of, restored_over, take_back_answer, take_back_output}
use Rattle.sock.specs.Runs.{Call, accepted, next_words, run, counts, total, last_serial}
use Rattle.sock.specs.Events.{Event, stepping, taking_back, takes, words_before, Standing, own_journal, State, begun, all_but_last, next, after, struck_out, Undoes, Proper, AllProper, EveryStandingRequestHasOneReply, TakenBackStraightAfter, AllAccepted, Undoing, undoes_none, undoes_last, stood, SeveralInReverse}
use Rattle.sock.specs.Cabinets.{◌inside◌, ProperAt}
use Rattle.sock.proofs.Logic.{All, all_none, all_some, true_test}
use Rattle.sock.proofs.Located.{all_equal}
use Rattle.sock.proofs.Configuration.{config_found}
use Rattle.sock.proofs.Steps.{Sure, sure_done, sure_then, sure_given, sure_unless, sure_done_lem, step_readable, step_fits}
use Rattle.sock.proofs.Turns.{Stepping, step_turns}
use Rattle.sock.proofs.Journal.{restored_journal, taken_back, taken_restored, journal_done, journal_length, alike_cons}
use Rattle.sock.proofs.Accepted.{number_positive, accepted_done}
use Rattle.sock.proofs.InsideSteps.{accepted_larger, next_larger}
use Rattle.sock.proofs.Requests.{every_request}

-- ---- an answer with number 0

pub taken_number : (r : Result (List ℕ)) → eqb (taken_of r).number 0 ≡ true → (old : List ℕ) × (r ≡ done old)
unfolding taken_of
taken_number (refused r) e = absurd (subst T (sym e ∙ number_positive r) tt)
taken_number (done old) e = (old, refl)

pub taken_words : (old out : List ℕ) {r : Result (List ℕ)} → r ≡ done old → take (taken_of r).length (restored_over r out) ≡ old
unfolding taken_of restored_over
taken_words old out e = rw e (take-append_seam old (drop (length old) out))

pub stepped_number : (r : Result Stepped) → (answer_of r).number ≡ 0 → (s : Stepped) × (r ≡ done s)
unfolding answer_of
stepped_number (refused r) e = absurd (subst T (sym (ap (λ n. eqb n 0) e) ∙ number_positive r) tt)
stepped_number (done s) e = (s, refl)

-- ---- straight after

module _ (limits : Limits) (ws : List ℕ) (k : Numbers) (out journal back : List ℕ) (s : Stepped) (e : journal_step limits ws k (length out) (length journal) ≡ done s) where
  new_words : take (journal_answer limits ws k out journal).length (journal_output limits ws k out journal) ≡ encode s.config
  unfolding journal_answer journal_output answer_of output_of
  new_words = rw e (take-append_seam (encode s.config) (drop (length (encode s.config)) out))

  written : journal_written limits ws k out journal ≡ journal_of ws (encode s.config) ++ drop (length (journal_of ws (encode s.config))) journal
  unfolding journal_written journal_after
  written = rw e

  back_done : length ws ≤ length back → take_back limits (encode s.config) (journal_written limits ws k out journal) (length back) ≡ done ws
  back_done h =
      let d : step limits ws k (length out) ≡ done s = (journal_done limits ws k (length out) (length journal) e).0 in
      let x : Stepping limits ws k s = sure_done_lem (step_turns limits ws k (length out)) d in
      rw written
      (taken_back limits ws (encode s.config) (drop (length (journal_of ws (encode s.config))) journal) x.reads
      (step_readable limits ws k (length out) s d) (length back) h)

  straight :
      length ws ≤ length back →
      (take_back_answer limits (encode s.config) (journal_written limits ws k out journal) back ≡ record { number = 0; length = length ws })
      × (take_back_output limits (encode s.config) (journal_written limits ws k out journal) back ≡ over ws back)
  unfolding take_back_answer take_back_output taken_of restored_over
  straight h = (rw (back_done h), rw (back_done h))

-- Straight after an accepted step
pub straight_after : TakenBackStraightAfter
unfolding journal_answer
straight_after limits ws k out journal back e h =
    let (s, d) = stepped_number (journal_step limits ws k (length out) (length journal)) e in
    subst
    (λ (new : List ℕ).
    (take_back_answer limits new (journal_written limits ws k out journal) back ≡ record { number = 0; length = length ws })
    × (take_back_output limits new (journal_written limits ws k out journal) back ≡ over ws back))
    (sym (new_words limits ws k out journal back s d)) (straight limits ws k out journal back s d h)

-- ---- journal enough for every step

engines_kept : (c : Config) (a b : Spot) (e : Effect) → All (λ s. length s.config.engines ≡ length c.engines) (carried_out c a b e)
unfolding carried_out
engines_kept c a b (lone vs none) = all_none
engines_kept c a b (lone vs (some p)) = all_some (length-set c.engines a.engine (record { values = vs; process = p }))
engines_kept c a b (between x) =
    all_some
    (length-set (with_engine a.engine a.values (plug a.frames x.sender) c.engines) b.engine (record { values = x.values; process = plug b.frames x.receiver })
    ∙ length-set c.engines a.engine (record { values = a.values; process = plug a.frames x.sender }))

record Kept (limits : Limits) (ws : List ℕ) (s : Stepped) : Type 0 where
  before : Config
  reads : read_config limits ws ≡ some before
  same : length s.config.engines ≡ length before.engines

step_keeps : (limits : Limits) (ws : List ℕ) (k : Numbers) (room : ℕ) → Sure (Kept limits ws) (step limits ws k room)
unfolding step
step_keeps limits ws k room =
    sure_then (sure_given unreadable (all_equal (read_config limits ws))) λ c r.
    sure_then (sure_given nobody_there (all_equal (enabled_at c k.engine k.position))) λ a e1.
    sure_then (sure_given no_move (all_equal (movable k (move_of a.values a.frames a.process)))) λ m e2.
    sure_then (sure_given no_partner (all_equal (partner c k a m))) λ b e3.
    sure_then (sure_given no_fit (all_equal (effect c k a b m))) λ o e4.
    sure_then (sure_given _ (all_equal o)) λ f e5.
    sure_then (sure_given installing (engines_kept c a b f)) λ s t.
    sure_unless serials_spent (leb s.config.issued 65535) λ u1.
    sure_unless deep (leb (engines_depth s.config.engines) limits.deepest) λ u2.
    sure_unless long (leb (length (encode s.config)) limits.longest) λ u3.
    sure_unless short (leb (length (encode s.config)) room) λ u4.
    sure_done (record { before = c; reads = r; same = t })

-- the first word is the number of engines, which no step changes
first_alike : (c d : Config) → length c.engines ≡ length d.engines → 1 ≤ alike (encode d) (encode c)
unfolding encode
first_alike c d e = rw e (alike_cons (length d.engines) _ _)

pub journal_enough_lem : (limits : Limits) (ws : List ℕ) (k : Numbers) (room : ℕ) (s : Stepped) → step limits ws k room ≡ done s → length (journal_of ws (encode s.config)) ≤ journal_enough limits
journal_enough_lem limits ws k room s e =
    let x : Kept limits ws s = sure_done_lem (step_keeps limits ws k room) e in
    let (same, read) = config_found limits ws x.before x.reads in
    let f : 1 ≤ alike ws (encode s.config) = subst (λ us. 1 ≤ alike us (encode s.config)) same (first_alike s.config x.before x.same) in
    let l : length ws ≤ limits.longest = rw same at read.short in
    let l' : length (encode s.config) ≤ limits.longest = (sure_done_lem (step_fits limits ws k room) e).short in
    omega (arith, journal_length ws (encode s.config))

-- ---- what stands is a chain

took :
    (limits : Limits) (ws journal out : List ℕ) → takes limits ws journal out ≡ true →
    (old : List ℕ) × (restored journal ws ≡ some old) × (words_before limits ws journal out ≡ old)
unfolding takes words_before take_back_answer take_back_output
took limits ws journal out e =
    let (old, d) = taken_number (take_back limits ws journal (length out)) e in
    (old, taken_restored limits (length out) old ws journal d, taken_words old out d)

struck_cons : (x : Standing) (xs : List Standing) → map (λ y. y.by) (reverse (x ∷ xs)) ≡ map (λ y. y.by) (reverse xs) ++ x.by ∷ []
struck_cons x xs = ap (map (λ y. y.by)) (reverse-cons x xs) ∙ map-append (λ y. y.by) (reverse xs) (x ∷ [])

module _ (limits : Limits) where
  unfoldable pub Chain : List ℕ → List ℕ → List Standing → Type 0
  Chain base ws [] = ws ≡ base
  Chain base ws (x ∷ xs) = (ws ≡ next_words limits x.read x.by) × T (accepted limits x.read x.by) × Chain base x.read xs

  -- a taking back goes back along it, whatever figures it is made at
  pub went_back :
      (figures : Limits) (x : Standing) (ws journal out rest : List ℕ) → ws ≡ next_words limits x.read x.by → journal ≡ own_journal limits x ++ rest →
      takes figures ws journal out ≡ true → words_before figures ws journal out ≡ x.read
  unfolding own_journal
  went_back figures x ws journal out rest e j t =
      let (old, r, w) = took figures ws journal out t in
      let own : restored journal ws ≡ some x.read =
      ap (λ us. restored us ws) j ∙ ap (λ us. restored (journal_of x.read (next_words limits x.read x.by) ++ rest) us) e ∙ restored_journal x.read (next_words limits x.read x.by) rest in
      let q : old ≡ x.read = cc in
      w ∙ q

  -- events at figures of their own: what is accepted there is accepted at the larger ones
  module _ (figures : Limits) (smaller : figures inside limits) where
    chain_steps : (base : List ℕ) (s : State) (k : Call) → Chain base s.words s.standing → Chain base (next figures s (stepping k)).words (next figures s (stepping k)).standing
    unfolding next Chain
    chain_steps base s k h = by (accepted figures s.words k) refl
      where
        by :
            (b : Bool) → accepted figures s.words k ≡ b →
            let n : State = cond b (record { words = next_words figures s.words k; standing = record { read = s.words; by = k } ∷ s.standing }) s in
            Chain base n.words n.standing
        by true e =
            (next_larger figures limits smaller s.words k (true_test e), accepted_larger figures limits smaller s.words k (true_test e), h)
        by false e = h

    chain_takes :
        (base : List ℕ) (ws : List ℕ) (xs : List Standing) (journal out : List ℕ) → Chain base ws xs → Undoes limits xs journal →
        takes figures ws journal out ≡ true → Chain base (words_before figures ws journal out) (all_but_last xs)
    unfolding Chain Undoes all_but_last
    chain_takes base ws [] journal out h u t = absurd u
    chain_takes base ws (x ∷ xs) journal out h u t =
        subst (λ us. Chain base us xs) (sym (went_back figures x ws journal out u.0 h.0 u.1 t)) h.2

    pub chain_next :
        (base : List ℕ) (s : State) (e : Event) → Chain base s.words s.standing → ProperAt limits s figures e →
        Chain base (next figures s e).words (next figures s e).standing
    unfolding next ProperAt
    chain_next base s (stepping k) h p = chain_steps base s k h
    chain_next base s (taking_back journal out) h p = by (takes figures s.words journal out) refl
      where
        by :
            (b : Bool) → takes figures s.words journal out ≡ b →
            let n : State = cond b (record { words = words_before figures s.words journal out; standing = all_but_last s.standing }) s in
            Chain base n.words n.standing
        by true e = chain_takes base s.words s.standing journal out h (p (true_test e)) e
        by false e = h

  proper_here : (s : State) (e : Event) → Proper limits s e → ProperAt limits s limits e
  unfolding Proper ProperAt
  proper_here s (stepping k) p = p
  proper_here s (taking_back journal out) p = p

  -- events at the chain's own limits
  pub chain_here : (base : List ℕ) (s : State) (e : Event) → Chain base s.words s.standing → Proper limits s e → Chain base (next limits s e).words (next limits s e).standing
  chain_here base s e h p = chain_next limits (le_refl limits.deepest, le_refl limits.longest) base s e h (proper_here s e p)

  chain_after : (es : List Event) (base : List ℕ) (s : State) → Chain base s.words s.standing → AllProper limits s es → Chain base (after limits s es).words (after limits s es).standing
  unfolding after AllProper
  chain_after [] base s h p = h
  chain_after (e ∷ es) base s h p =
      chain_after es base (next limits s e)
      (chain_here base s e h p.0) p.1

  run_append : (ks js : List Call) (ws : List ℕ) → run limits ws (ks ++ js) ≡ run limits (run limits ws ks) js
  unfolding run
  run_append [] js ws = refl
  run_append (k ∷ ks) js ws = run_append ks js (next_words limits ws k)

  run_one : (k : Call) (ws : List ℕ) → run limits ws (k ∷ []) ≡ next_words limits ws k
  unfolding run
  run_one k ws = refl

  run_none : (ws : List ℕ) → run limits ws [] ≡ ws
  unfolding run
  run_none ws = refl

  -- the calls that stand lead from the start to the words now
  chain_run : (xs : List Standing) (base ws : List ℕ) → Chain base ws xs → run limits base (map (λ x. x.by) (reverse xs)) ≡ ws
  unfolding Chain
  chain_run [] base ws h = run_none base ∙ sym h
  chain_run (x ∷ xs) base ws h =
      ap (run limits base) (struck_cons x xs)
      ∙ run_append (map (λ y. y.by) (reverse xs)) (x.by ∷ []) base
      ∙ ap (λ us. run limits us (x.by ∷ [])) (chain_run xs base x.read h.2)
      ∙ run_one x.by x.read
      ∙ sym h.0

  accepted_append :
      (ks js : List Call) (ws : List ℕ) → AllAccepted limits ws ks → AllAccepted limits (run limits ws ks) js → AllAccepted limits ws (ks ++ js)
  unfolding AllAccepted run
  accepted_append [] js ws a b = b
  accepted_append (k ∷ ks) js ws a b = (a.0, accepted_append ks js (next_words limits ws k) a.1 b)

  -- and each of them is accepted
  chain_accepted : (xs : List Standing) (base ws : List ℕ) → Chain base ws xs → AllAccepted limits base (map (λ x. x.by) (reverse xs))
  unfolding Chain AllAccepted
  chain_accepted [] base ws h = tt
  chain_accepted (x ∷ xs) base ws h =
      let ks : List Call = map (λ y. y.by) (reverse xs) in
      rw struck_cons
      (accepted_append ks (x.by ∷ []) base (chain_accepted xs base x.read h.2)
      (subst (λ us. T (accepted limits us x.by)) (sym (chain_run xs base x.read h.2)) h.1, tt))

  pub struck_accepted : (base : List ℕ) (s : State) → Chain base s.words s.standing → AllAccepted limits base (struck_out s)
  unfolding struck_out
  struck_accepted base s h = chain_accepted s.standing base s.words h

  pub struck_run : (base : List ℕ) (s : State) → Chain base s.words s.standing → run limits base (struck_out s) ≡ s.words
  unfolding struck_out
  struck_run base s h = chain_run s.standing base s.words h

  pub chain_begun : (start : List ℕ) → Chain start start []
  unfolding Chain
  chain_begun start = refl

  -- ---- several in reverse

  chain_stood : (js : List Call) (base ws : List ℕ) (xs : List Standing) → Chain base ws xs → AllAccepted limits ws js → Chain base (run limits ws js) (stood limits ws js xs)
  unfolding Chain AllAccepted run stood
  chain_stood [] base ws xs h a = h
  chain_stood (k ∷ js) base ws xs h a = chain_stood js base (next_words limits ws k) (record { read = ws; by = k } ∷ xs) (refl, a.0, h) a.1

  accepted_later : (ks js : List Call) (ws : List ℕ) → AllAccepted limits ws (ks ++ js) → AllAccepted limits (run limits ws ks) js
  unfolding AllAccepted run
  accepted_later [] js ws a = a
  accepted_later (k ∷ ks) js ws a = accepted_later ks js (next_words limits ws k) a.1

  stood_append : (ks js : List Call) (ws : List ℕ) (xs : List Standing) → stood limits ws (ks ++ js) xs ≡ stood limits (run limits ws ks) js (stood limits ws ks xs)
  unfolding stood run
  stood_append [] js ws xs = refl
  stood_append (k ∷ ks) js ws xs = stood_append ks js (next_words limits ws k) (record { read = ws; by = k } ∷ xs)

  stood_under : (js : List Call) (ws : List ℕ) (xs ys : List Standing) → stood limits ws js (xs ++ ys) ≡ stood limits ws js xs ++ ys
  unfolding stood
  stood_under [] ws xs ys = refl
  stood_under (k ∷ js) ws xs ys = stood_under js (next_words limits ws k) (record { read = ws; by = k } ∷ xs) ys

  own_accepted : (x : Standing) (rest out : List ℕ) → T (accepted limits x.read x.by) → length x.read ≤ length out →
      takes limits (next_words limits x.read x.by) (own_journal limits x ++ rest) out ≡ true
  unfolding takes own_journal take_back_answer taken_of
  own_accepted x rest out t h =
      let (s, d) = accepted_done limits x.read x.by t in
      let y : Stepping limits x.read x.by.numbers s = sure_done_lem (step_turns limits x.read x.by.numbers (length x.by.output)) d.step_done in
      let n : read_config limits (next_words limits x.read x.by) ≡ some s.config =
      rw d.next (step_readable limits x.read x.by.numbers (length x.by.output) s d.step_done) in
      rw (taken_back limits x.read (next_words limits x.read x.by) rest y.reads n (length out) h)

  next_undone : (x : Standing) (xs ys : List Standing) (ws rest out : List ℕ) → ws ≡ next_words limits x.read x.by → T (accepted limits x.read x.by) → length x.read ≤ length out →
      next limits (record { words = ws; standing = (x ∷ xs) ++ ys }) (taking_back (own_journal limits x ++ rest) out) ≡ record { words = x.read; standing = xs ++ ys }
  unfolding next all_but_last
  next_undone x xs ys ws rest out e t h =
      let a : takes limits ws (own_journal limits x ++ rest) out ≡ true = rw e (own_accepted x rest out t h) in
      rw (a, went_back limits x ws (own_journal limits x ++ rest) out rest e refl a)

  undone : {xs : List Standing} {es : List Event} (ys : List Standing) (base ws : List ℕ) → Undoing limits xs es → Chain base ws xs →
      after limits (record { words = ws; standing = xs ++ ys }) es ≡ record { words = base; standing = ys }
  unfolding Chain after
  undone ys base ws undoes_none h = ap (λ us. record { words = us; standing = ys }) h
  undone ys base ws (undoes_last x xs rest out es enough u) h =
      ap (λ s. after limits s es) (next_undone x xs ys ws rest out h.0 h.1 enough) ∙ undone ys base x.read u h.2

-- a refused call counts nothing, so a list has the same words and counts without it
pub record Same (limits : Limits) (ws : List ℕ) (ks js : List Call) : Type 0 where
  pub words : run limits ws ks ≡ run limits ws js
  pub counted : (test : Run → Bool) → total test limits ws ks ≡ total test limits ws js
  pub latest : (serial : ℕ) → last_serial serial limits ws ks ≡ last_serial serial limits ws js

pub without_refused : (limits : Limits) (ws : List ℕ) (k : Call) (ks : List Call) → accepted limits ws k ≡ false → Same limits ws (k ∷ ks) ks
unfolding run total last_serial counts next_words
without_refused limits ws k ks e = record { words = rw e; counted = λ test. rw e (omega arith); latest = λ serial. rw e }

pub several_in_reverse : SeveralInReverse
several_in_reverse limits start ks js a es u =
    let ws = run limits start ks in
    let c = chain_stood limits js ws ws [] (chain_begun limits ws) (accepted_later limits ks js start a) in
    let st : stood limits start (ks ++ js) [] ≡ stood limits ws js [] ++ stood limits start ks [] =
    stood_append limits ks js start [] ∙ stood_under limits js ws [] (stood limits start ks []) in
    ap (λ s. after limits s es) (ap (λ us. record { words = us; standing = stood limits start (ks ++ js) [] }) (run_append limits ks js start))
    ∙ ap (λ s. after limits s es) (ap (λ xs. record { words = run limits ws js; standing = xs }) st)
    ∙ undone limits (stood limits start ks []) ws (run limits ws js) u c

-- Demand 3 over events
pub every_standing_request : EveryStandingRequestHasOneReply
every_standing_request limits start h events p =
    let c = chain_after limits events start (begun start) (chain_begun limits start) p in
    (struck_run limits start (after limits (begun start) events) c, every_request limits start h (struck_out (after limits (begun start) events)))
