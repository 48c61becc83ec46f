-- The index follows the configuration, over lists of events: a run's configuration has a ledger, so each accepted step changes the open serials
-- as its answer tells, and a taking back lists them anew. There is always room for them.
-- Assumes nothing.
use Prim.Native.Nat.{ℕ, ◌≤◌}
use native.Mathlib.Omega.{arith}
use mathlib.Core.Path.{◌≡◌, refl, sym, ap, subst, ◌∙◌}
use mathlib.Core.Bool.{Bool, true, false, cond}
use mathlib.Core.Option.{Option, none, some}
use mathlib.Core.List.{List, [], ◌∷◌, map}
use lib.Dec.{T, leb, eqb}
use lib.ListN.{length, drop}
use lib.Seq.{take-append_seam}
use borrow.Author.Tests.{leb-true}
use Rattle.sock.specs.Configuration.{Limits, Config, encode, read_config}
use Rattle.sock.specs.Calls.{Refusal, index_short, number, Result, refused, done, Numbers, Stepped, over, passed, start, check_start}
use Rattle.sock.specs.Journal.{journal_step, take_back, taken_of, restored_over, take_back_answer, take_back_output, lent_step}
use Rattle.sock.specs.Runs.{Call, call, outcome, accepted, next_words}
use Rattle.sock.specs.Events.{takes, words_before}
use Rattle.sock.specs.House.{Act, stepping, joining, leaving, accepts, words_after, acting, taking_back, State, begun, next, after, struck_out, Proper, AllProper}
use Rattle.sock.specs.Index.{rising, index_of, listed, up_to, has_waiter, open_serials, open_of, open_after, beginning, index_after, begin_answer, begin_index, mapped, indexed_index, indexed_relisted, open_count, oldest, IndexedEvent, step_indexed, take_back_indexed, comes, goes, bare, Follow, follow, follow_all, TheIndexFollows}
use Rattle.sock.proofs.Configuration.{config_found, config_finds}
use Rattle.sock.proofs.Steps.{Sure, sure_refused, sure_done, sure_then, sure_unless, sure_done_lem, step_readable}
use Rattle.sock.proofs.Journal.{journal_done}
use Rattle.sock.proofs.Accepted.{number_positive, refuses, does}
use Rattle.sock.proofs.Ledger.{Ledger}
use Rattle.sock.proofs.Accounts.{fresh_ledger}
use Rattle.sock.proofs.Requests.{started}
use Rattle.sock.proofs.House.{Calmly, join_calmly, leave_calmly, join_refused, leave_refused, led_acts, Chain, chain_next, struck_leads, chain_begun}
use Rattle.sock.proofs.Index.{up_to_rising, over_index, listed_over, count_told, oldest_told}
use Rattle.sock.proofs.Indexed.{step_serials, back_serials}
use Rattle.sock.proofs.FewOpen.{readable_few}
use Rattle.sock.proofs.OpenSerials.{step_open, calm_open}

module _ (limits : Limits) (small : limits.longest ≤ 8192) where
  -- the open serials of the configuration in some words
  abbrev serials : List ℕ → List ℕ
  serials ws = open_of (read_config limits ws)

  serials_read : (ws : List ℕ) {c : Config} → read_config limits ws ≡ some c → serials ws ≡ open_serials c
  unfolding open_of
  serials_read ws r = ap open_of r

  serials_few : (ws : List ℕ) → length (serials ws) ≤ 2047
  unfolding open_of
  serials_few ws = by (read_config limits ws) refl
    where
      by : (o : Option Config) → read_config limits ws ≡ o → length (open_of o) ≤ 2047
      by none e = omega arith
      by (some c) e = readable_few (config_found limits ws c e).1 small

  serials_rise : (ws : List ℕ) → T (rising 0 (serials ws))
  unfolding open_of open_serials rising
  serials_rise ws = by (read_config limits ws)
    where
      by : (o : Option Config) → T (rising 0 (open_of o))
      by none = tt
      by (some c) = up_to_rising (has_waiter c) c.issued

  -- ---- one event: the words read next, and the serials that the index then lists

  next_words_lem : (s : State) (k : Call) → (next limits s (acting (stepping k))).words ≡ next_words limits s.words k
  unfolding next accepts words_after next_words
  next_words_lem s k = by (accepted limits s.words k) refl
    where
      by :
          (b : Bool) → accepted limits s.words k ≡ b →
          let n : State = cond b (record { words = next_words limits s.words k; standing = record { read = s.words; by = stepping k } ∷ s.standing }) s in
          n.words ≡ next_words limits s.words k
      by true e = refl
      by false e = rw e

  back_refused : (s : State) (journal out : List ℕ) {r : Refusal} → take_back limits s.words journal (length out) ≡ refused r → next limits s (taking_back journal out) ≡ s
  unfolding next takes take_back_answer taken_of
  back_refused s journal out {r} e = rw (e, number_positive r)

  back_words : (s : State) (journal out : List ℕ) {old : List ℕ} → take_back limits s.words journal (length out) ≡ done old → (next limits s (taking_back journal out)).words ≡ old
  unfolding next takes words_before take_back_answer take_back_output taken_of restored_over
  back_words s journal out {old} e = rw e (take-append_seam old (drop (length old) out))

  module _ (ws index : List ℕ) {ss : List ℕ} (e : listed index ≡ some ss) where
    step_index :
        (k : Numbers) (out journal : List ℕ) →
        indexed_index limits ws k out journal index
        ≡ index_after (mapped (λ s. open_after s ss) (journal_step limits ws k (length out) (length journal))) index
    unfolding indexed_index
    step_index k out journal = ap (λ r. index_after r index) (step_serials limits ws index e k (length out) (length journal))

    back_index :
        (journal out : List ℕ) →
        indexed_relisted limits ws journal out index ≡ index_after (mapped serials (take_back limits ws journal (length out))) index
    unfolding indexed_relisted
    back_index journal out = ap (λ r. index_after r index) (back_serials limits ws index e journal (length out))

  -- ---- a joining and a leaving open and close nothing

  calm_serials : {c : Config} (ws us : List ℕ) → read_config limits ws ≡ some c → Calmly limits c us → serials us ≡ serials ws
  calm_serials {c} ws us r y =
      ap serials y.words
      ∙ serials_read (encode y.config) (config_finds limits y.config y.calm.readable)
      ∙ calm_open y.calm
      ∙ sym (serials_read ws r)

  join_serials : (ws engine out : List ℕ) {c : Config} → read_config limits ws ≡ some c → serials (words_after limits ws (joining engine out)) ≡ serials ws
  join_serials ws engine out r = by (accepts limits ws (joining engine out)) refl
    where
      by : (b : Bool) → accepts limits ws (joining engine out) ≡ b → serials (words_after limits ws (joining engine out)) ≡ serials ws
      by true e = calm_serials ws _ r (join_calmly limits ws engine out r e)
      by false e = ap serials (join_refused limits ws engine out e)

  leave_serials : (ws out : List ℕ) {c : Config} → read_config limits ws ≡ some c → serials (words_after limits ws (leaving out)) ≡ serials ws
  leave_serials ws out r = by (accepts limits ws (leaving out)) refl
    where
      by : (b : Bool) → accepts limits ws (leaving out) ≡ b → serials (words_after limits ws (leaving out)) ≡ serials ws
      by true e = calm_serials ws _ r (leave_calmly limits ws out r e)
      by false e = ap serials (leave_refused limits ws out e)

  -- ---- in a run from a fresh start

  module _ (base : List ℕ) (starts : check_start limits base ≡ 0) (begin : List ℕ) where
    record Held (ws : List ℕ) : Type 0 where
      config : Config
      reads : read_config limits ws ≡ some config
      delivered : ℕ → ℕ
      ledger : Ledger config delivered

    held : (s : State) → Chain limits base s.words s.standing → Held s.words
    held s h =
        let x = led_acts limits base starts (struck_out s) in
        record { config = x.config; reads = subst (λ ws. read_config limits ws ≡ some x.config) (struck_leads limits base s h) x.reads; delivered = _; ledger = x.ledger }

    -- what stands leads to the words read now, and the index lists their open serials
    record Follows (x : Follow) : Type 0 where
      chain : Chain limits base x.state.words x.state.standing
      laid : x.index ≡ over (index_of (serials x.state.words)) begin

    module _ (x : Follow) (f : Follows x) where
      lists : listed x.index ≡ some (serials x.state.words)
      lists = ap listed f.laid ∙ listed_over (serials x.state.words) (serials_rise x.state.words) (serials_few x.state.words) begin

      relaid : (ws : List ℕ) → over (index_of (serials ws)) x.index ≡ over (index_of (serials ws)) begin
      relaid ws =
          ap (λ us. over (index_of (serials ws)) us) f.laid
          ∙ over_index (serials ws) (serials x.state.words) begin (omega (arith, serials_few ws)) (omega (arith, serials_few x.state.words))

      module _ (k : Numbers) (out journal : List ℕ) where
        abbrev lent : Call
        lent = call k out (some journal)

        abbrev stepped : State
        stepped = next limits x.state (acting (stepping lent))

        step_refused : {r : Refusal} → journal_step limits x.state.words k (length out) (length journal) ≡ refused r → stepped.words ≡ x.state.words
        unfolding outcome lent_step
        step_refused {r} e = next_words_lem x.state lent ∙ (refuses limits x.state.words lent r e).kept

        step_done : {s : Stepped} → journal_step limits x.state.words k (length out) (length journal) ≡ done s → open_after s (serials x.state.words) ≡ serials stepped.words
        unfolding outcome lent_step
        step_done {s} e =
            let h : Held x.state.words = held x.state f.chain in
            let d = (journal_done limits x.state.words k (length out) (length journal) e).0 in
            let now : stepped.words ≡ encode s.config = next_words_lem x.state lent ∙ (does limits x.state.words lent s e).next in
            ap (open_after s) (serials_read x.state.words h.reads)
            ∙ step_open limits x.state.words k (length out) s d h.reads h.ledger
            ∙ sym (serials_read (encode s.config) (step_readable limits x.state.words k (length out) s d))
            ∙ ap serials (sym now)

        step_follows : Follows (record { state = stepped; index = indexed_index limits x.state.words k out journal x.index })
        unfolding Proper mapped index_after
        step_follows =
            record {
              chain = chain_next limits base x.state (acting (stepping lent)) f.chain tt;
              laid = step_index x.state.words x.index lists k out journal ∙ by (journal_step limits x.state.words k (length out) (length journal)) refl;
            }
          where
            by :
                (r : Result Stepped) → journal_step limits x.state.words k (length out) (length journal) ≡ r →
                index_after (mapped (λ s. open_after s (serials x.state.words)) r) x.index ≡ over (index_of (serials stepped.words)) begin
            by (refused r) e = f.laid ∙ ap (λ ws. over (index_of (serials ws)) begin) (sym (step_refused e))
            by (done s) e = ap (λ ss. over (index_of ss) x.index) (step_done e) ∙ relaid stepped.words

      module _ (journal out : List ℕ) (p : Proper limits x.state (taking_back journal out)) where
        abbrev returned : State
        returned = next limits x.state (taking_back journal out)

        back_follows : Follows (record { state = returned; index = indexed_relisted limits x.state.words journal out x.index })
        unfolding mapped index_after
        back_follows =
            record {
              chain = chain_next limits base x.state (taking_back journal out) f.chain p;
              laid = back_index x.state.words x.index lists journal out ∙ by (take_back limits x.state.words journal (length out)) refl;
            }
          where
            by :
                (r : Result (List ℕ)) → take_back limits x.state.words journal (length out) ≡ r →
                index_after (mapped serials r) x.index ≡ over (index_of (serials returned.words)) begin
            by (refused r) e = f.laid ∙ ap (λ s. over (index_of (serials s.words)) begin) (sym (back_refused x.state journal out e))
            by (done old) e = relaid old ∙ ap (λ ws. over (index_of (serials ws)) begin) (sym (back_words x.state journal out e))

      -- a joining or a leaving
      calm_follows : (a : Act) → serials (words_after limits x.state.words a) ≡ serials x.state.words → Follows (record { state = next limits x.state (acting a); index = x.index })
      unfolding next Proper
      calm_follows a same =
          record {
            chain = chain_next limits base x.state (acting a) f.chain tt;
            laid = f.laid ∙ ap (λ ss. over (index_of ss) begin) (sym (by (accepts limits x.state.words a)));
          }
        where
          by :
              (b : Bool) →
              let n : State = cond b (record { words = words_after limits x.state.words a; standing = record { read = x.state.words; by = a } ∷ x.state.standing }) x.state in
              serials n.words ≡ serials x.state.words
          by true = same
          by false = refl

      follow_one : (e : IndexedEvent) → Proper limits x.state (bare e) → ((follow limits x e).state ≡ next limits x.state (bare e)) × Follows (follow limits x e)
      unfolding follow bare
      follow_one (step_indexed k out journal) p = rw (lists, follow) (refl, step_follows k out journal)
      follow_one (take_back_indexed journal out) p = rw (lists, follow) (refl, back_follows journal out p)
      follow_one (comes engine out) p = (refl, calm_follows (joining engine out) (join_serials x.state.words engine out (held x.state f.chain).reads))
      follow_one (goes out) p = (refl, calm_follows (leaving out) (leave_serials x.state.words out (held x.state f.chain).reads))

    follow_all_lem :
        (es : List IndexedEvent) (x : Follow) → Follows x → AllProper limits x.state (map bare es) →
        ((follow_all limits x es).state ≡ after limits x.state (map bare es)) × Follows (follow_all limits x es)
    unfolding follow_all after AllProper
    follow_all_lem [] x f p = (refl, f)
    follow_all_lem (e ∷ es) x f p =
        let (same, g) = follow_one x f e p.0 in
        let (rest, h) = follow_all_lem es (follow limits x e) g (subst (λ s. AllProper limits s (map bare es)) (sym same) p.1) in
        (rest ∙ ap (λ s. after limits s (map bare es)) same, h)

-- ---- beginning

sure_equal : {A : Type 0} (r : Result A) → Sure (λ a. r ≡ done a) r
sure_equal (refused r) = sure_refused
sure_equal (done a) = sure_done refl

begin_sure : (limits : Limits) (ws : List ℕ) (room : ℕ) → Sure (λ ss. (ss ≡ []) × (passed (start limits ws) ≡ 0)) (beginning limits ws room)
unfolding beginning passed
begin_sure limits ws room =
    sure_unless index_short (leb 2049 room) λ t. sure_then (sure_equal (start limits ws)) λ c e. sure_done (refl, ap passed e)

begin_done : (r : Result (List ℕ)) → ◌≡◌ {A = ℕ} (elim r [ refused r ↦ number r | done ss ↦ 0 ]) 0 → (ss : List ℕ) × (r ≡ done ss)
begin_done (refused r) e = absurd (subst T (sym (ap (λ n. eqb n 0) e) ∙ number_positive r) tt)
begin_done (done ss) e = (ss, refl)

module _ (limits : Limits) (ws index : List ℕ) (h : begin_answer limits ws index ≡ 0) where
  begun_done : (ss : List ℕ) × (beginning limits ws (length index) ≡ done ss)
  unfolding begin_answer
  begun_done = begin_done (beginning limits ws (length index)) h

  begun_starts : check_start limits ws ≡ 0
  unfolding check_start
  begun_starts = (sure_done_lem (begin_sure limits ws (length index)) begun_done.1).1

  -- a fresh configuration has no open serial
  none_open : open_of (read_config limits ws) ≡ []
  unfolding open_of open_serials up_to
  none_open =
      let (c, r, f) = started limits ws begun_starts in
      ap open_of r ∙ ap (up_to (has_waiter c)) (fresh_ledger c f).0

  begun_index : begin_index limits ws index ≡ over (index_of (open_of (read_config limits ws))) index
  unfolding begin_index index_after
  begun_index =
      ap (λ r. index_after r index) begun_done.1
      ∙ ap (λ ss. over (index_of ss) index) ((sure_done_lem (begin_sure limits ws (length index)) begun_done.1).0 ∙ sym none_open)

pub the_index_follows : TheIndexFollows
the_index_follows limits small words index h events p =
    let low : limits.longest ≤ 8192 = leb-true limits.longest 8192 small in
    let starts : check_start limits words ≡ 0 = begun_starts limits words index h in
    let (same, f) =
    follow_all_lem limits low words starts index events (record { state = begun words; index = begin_index limits words index })
    (record { chain = chain_begun limits words; laid = begun_index limits words index h }) p in
    let x = follow_all limits (record { state = begun words; index = begin_index limits words index }) events in
    let ss : List ℕ = serials limits low x.state.words in
    let up : T (rising 0 ss) = serials_rise limits low x.state.words in
    let few : length ss ≤ 2047 = serials_few limits low x.state.words in
    (same, f.laid, ap open_count f.laid ∙ count_told ss up few index, ap oldest f.laid ∙ oldest_told ss up few index)
