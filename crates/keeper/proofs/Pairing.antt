-- Ends of a serial that name each other stand at two places of the words that make a pair; so where no two places do, the serial is lost.
-- Assumes nothing.
use Prim.Native.Nat.{ℕ, ◌+◌, ◌*◌, ◌-◌, ◌≤◌, ◌<◌}
use native.Mathlib.Omega.{arith}
use native.Mathlib.Decide.{ℕ_discrete, dec_lt}
use mathlib.Core.Path.{◌≡◌, refl, sym, subst, ap, ◌∙◌}
use mathlib.Core.Bool.{Bool, true, false, not}
use mathlib.Core.Option.{none, some}
use mathlib.Core.List.{List, [], ◌∷◌, ◌++◌}
use borrow.Author.Tests.{eq-eqb, ne_eqb, lt-ltb, le-leb, lt-leb}
use lib.Dec.{T}
use lib.ListN.{length, get_or, drop}
use Rattle.std.proofs.lemmas.Bool.{not-true}
use Rattle.std.proofs.lemmas.List.{get_or_past}
use Rattle.sock.specs.Words.{kind_of, name_of, head_of, name_fields, executors_client, notices_client, waiters_server, bit}
use Rattle.sock.specs.Variables.{first_of, variable_words}
use Rattle.sock.specs.Running.{Run, nil, seq, par, scope, executor, waiter, notice, act, run_words, size}
use Rattle.sock.specs.Configuration.{standard, Config, encode, guarded}
use Rattle.sock.specs.Rules.{also}
use Rattle.sock.specs.Calls.{engine_at, enabled_at, End, waiting, working, end_of, is_end, tally, ends}
use Rattle.sock.specs.Runs.{same}
use Rattle.sock.proofs.Logic.{all_some_lem}
use Rattle.sock.proofs.Fits.{Sound, nil_sound, seq_sound, par_sound, scope_sound, executor_sound, waiter_sound, notice_sound, act_sound, FitsConfig}
use Rattle.sock.proofs.Fields.{head_kind, fields_below, name_of_lem, client_of, noticed_client, server_of, end_tests}
use Rattle.sock.proofs.Variables.{laid}
use Rattle.sock.proofs.Measures.{words_executor, words_waiter, words_notice}
use Rattle.sock.proofs.Located.{tallied, position, Enabled, enabled_stands, start_of}
use Rattle.sock.proofs.Positions.{at_head}
use Rattle.sock.proofs.Steps.{enabled_fits}
use Rattle.sock.proofs.Turns.{ends_at}
use Rattle.sock.proofs.Replies.{is_same}
use Rattle.reading.specs.Survey.{Starts, no_starts, surveyed}
use Rattle.reading.specs.Answers.{starts_of}
use Rattle.reading.specs.declared.starts.Starts.{Starts as Found}
use Rattle.reading.proofs.Combining.{Words}
use Rattle.reading.proofs.Known.{Known, known_length, survey_known}
use Rattle.reading.proofs.Standing.{start_inside, start_next}
use Rattle.layout.specs.Positions.{onward}
use Rattle.rules.specs.Rewriting.{at}
use Rattle.keeper.specs.Game.{Side, some_below, forces}
use Rattle.keeper.specs.Pairs.{working_at, waiting_at, client_at, within_w, names_w, pair_w, awaited_w, apart_w}
use Rattle.keeper.proofs.Some.{found_none}
use Rattle.keeper.proofs.Gone.{Apart, apart_lost, Counted, counted_at}

-- ---- an end that stands

tallied_tally : (t : End → Bool) (r : Run) → tallied (is_end t) r ≡ tally t r
unfolding tallied tally
tallied_tally t nil = refl
tallied_tally t (seq p q) = tallied_tally t p
tallied_tally t (par p q) = omega (arith, tallied_tally t p, tallied_tally t q)
tallied_tally t (scope name mark zombie h p) = tallied_tally t p
tallied_tally t (executor o y client serial p) = omega (arith, tallied_tally t p)
tallied_tally t (waiter o x dead server serial l) = refl
tallied_tally t (notice o f client serial) = refl
tallied_tally t (act p) = refl

-- in engine e, and its words
record Placed (c : Config) (x : End) (e : ℕ) : Type 0 where
  pub inside : e < length c.engines
  pub place : ℕ
  pub within : place < size (engine_at c e).process
  pub process : Run
  pub ended : end_of process ≡ some x
  pub sound : Sound (length c.engines) c.issued process
  pub rest : List ℕ
  pub begins : drop (start_of c e + place) (encode c) ≡ run_words process ++ rest

none_there : (c : Config) (t : End → Bool) (e : ℕ) → length c.engines ≤ e → ends_at t c e ≡ 0
unfolding tally
none_there c t e h = ap (λ g. tally t g.process) (get_or_past c.engines e _ h)

stood : (c : Config) (x : End) (e : ℕ) → FitsConfig c → 0 < ends_at (same x) c e → Placed c x e
unfolding enabled_at guarded also
stood c x e f h = by (dec_lt e (length c.engines))
  where
    by : Dec (e < length c.engines) → Placed c x e
    by (no n) = absurd (omega (arith, none_there c (same x) e (omega (arith, n))))
    by (yes b) =
        let (p, w, l, found, t) = position (is_end (same x)) (engine_at c e).process [] (omega (arith, tallied_tally (same x) (engine_at c e).process)) in
        let at_p : enabled_at c e p ≡ some (record { engine = e; values = (engine_at c e).values; frames = l.frames; process = l.process }) = rw (lt-ltb e (length c.engines) b, found) refl in
        let s : Enabled c e p _ = enabled_stands c e p _ f at_p in
        record {
          inside = b;
          place = p;
          within = w;
          process = l.process;
          ended = is_same x l.process t;
          sound = (all_some_lem (enabled_fits f e p) at_p).process;
          rest = s.stands.rest;
          begins = s.stands.begins;
        }

-- ---- the words of an end

module _ (ws : List ℕ) (i : ℕ) (low : i ≤ 8192) (h a b : ℕ) (rest : List ℕ) (stands : drop i ws ≡ h ∷ a ∷ b ∷ rest) where
  onward_by : (n : ℕ) → n ≤ 2 → onward i n ≡ i + n
  unfolding onward
  onward_by n u = rw (lt-leb 1152921504606846976 i (omega arith), lt-leb 1152921504606846976 n (omega arith))

  word_0 : at ws i ≡ h
  word_0 = (at_head ws i _ _ stands).word

  word_1 : at ws (onward i 1) ≡ a
  word_1 = ap (at ws) (onward_by 1 (omega arith)) ∙ (at_head ws (i + 1) _ _ (at_head ws i _ _ stands).next).word

  pub word_2 : at ws (onward i 2) ≡ b
  word_2 =
      ap (at ws) (onward_by 2 (omega arith) ∙ (let z : i + 2 ≡ i + 1 + 1 = omega arith in z))
      ∙ (at_head ws (i + 1 + 1) _ _ (at_head ws (i + 1) _ _ (at_head ws i _ _ stands).next).next).word

record Worker (ws : List ℕ) (i serial o client : ℕ) : Type 0 where
  pub works : working_at serial ws i ≡ true
  pub names : name_of (at ws i) ≡ o
  pub named : client_at ws i ≡ client

record Waiter (ws : List ℕ) (i serial o server : ℕ) : Type 0 where
  pub waits : waiting_at serial ws i ≡ true
  pub names : name_of (at ws i) ≡ o
  pub named : waiters_server (at ws (onward i 1)) ≡ server

none_some : {A B : Type 0} {x : A} → none ≡ some x → B
none_some e = absurd (let z : ◌≡◌ {A = ℕ} 0 1 = cc in omega arith)

other_end : {B : Type 0} {s o g s' o' g' : ℕ} → some (waiting s o g) ≡ some (working s' o' g') → B
other_end e = absurd (let z : ◌≡◌ {A = ℕ} 0 1 = cc in omega arith)

other_end' : {B : Type 0} {s o g s' o' g' : ℕ} → some (working s o g) ≡ some (waiting s' o' g') → B
other_end' e = absurd (let z : ◌≡◌ {A = ℕ} 0 1 = cc in omega arith)

module _ (ws : List ℕ) (i : ℕ) (low : i ≤ 8192) (rest : List ℕ) {n issued : ℕ} (few : n ≤ 8) where
  worker_by : {p : Run} → Sound n issued p → drop i ws ≡ run_words p ++ rest → (s o g : ℕ) → end_of p ≡ some (working s o g) → Worker ws i s o g
  unfolding working_at client_at
  worker_by nil_sound d s o g e = none_some e
  worker_by (seq_sound a b q) d s o g e = none_some e
  worker_by (par_sound a b u v) d s o g e = none_some e
  worker_by (scope_sound a b u v) d s o g e = none_some e
  worker_by (executor_sound {o = p} {y} {client} {serial} {a} bo by t u) d s o g e =
      let h : ℕ = head_of 16 (name_fields p (first_of y)) in
      let stands : drop i ws ≡ h ∷ (client * 8192) ∷ serial ∷ ((variable_words y ++ run_words a) ++ rest) = d ∙ ap (λ w. w ++ rest) (words_executor p y client serial a) in
      let k : kind_of (at ws i) ≡ 16 = ap kind_of (word_0 ws i low _ _ _ _ stands) ∙ head_kind 16 (name_fields p (first_of y)) (fields_below p (first_of y) bo (laid y by).low) in
      let es : serial ≡ s = cc in
      let eo : p ≡ o = cc in
      let eg : client ≡ g = cc in
      record {
        works = rw (eq-eqb (kind_of (at ws i)) 16 k, eq-eqb (at ws (onward i 2)) s (word_2 ws i low _ _ _ _ stands ∙ es));
        names = ap name_of (word_0 ws i low _ _ _ _ stands) ∙ name_of_lem 16 p (first_of y) bo (laid y by).low ∙ eo;
        named = rw (eq-eqb (kind_of (at ws i)) 16 k) (ap executors_client (word_1 ws i low _ _ _ _ stands) ∙ client_of client ∙ eg);
      }
  worker_by (waiter_sound bo bx t l) d s o g e = other_end e
  worker_by (notice_sound {o = p} {f} {client} {serial} bo bf t) d s o g e =
      let h : ℕ = head_of 18 (name_fields p 0) in
      let stands : drop i ws ≡ h ∷ (f * 1024 + client * 128) ∷ serial ∷ ([] ++ rest) = d ∙ ap (λ w. w ++ rest) (words_notice p f client serial) in
      let k : kind_of (at ws i) ≡ 18 = ap kind_of (word_0 ws i low _ _ _ _ stands) ∙ head_kind 18 (name_fields p 0) (fields_below p 0 bo (omega arith)) in
      let es : serial ≡ s = cc in
      let eo : p ≡ o = cc in
      let eg : client ≡ g = cc in
      record {
        works = rw (ne_eqb (kind_of (at ws i)) 16 (λ z. omega (arith, k, z)), eq-eqb (kind_of (at ws i)) 18 k, eq-eqb (at ws (onward i 2)) s (word_2 ws i low _ _ _ _ stands ∙ es));
        names = ap name_of (word_0 ws i low _ _ _ _ stands) ∙ name_of_lem 18 p 0 bo (omega arith) ∙ eo;
        named =
            rw (ne_eqb (kind_of (at ws i)) 16 (λ z. omega (arith, k, z)))
            (ap notices_client (word_1 ws i low _ _ _ _ stands) ∙ noticed_client f client (omega (arith, (end_tests n issued client serial t).below)) ∙ eg);
      }
  worker_by (act_sound u f) d s o g e = none_some e

  waiter_by : {p : Run} → Sound n issued p → drop i ws ≡ run_words p ++ rest → (s o g : ℕ) → end_of p ≡ some (waiting s o g) → Waiter ws i s o g
  unfolding waiting_at
  waiter_by nil_sound d s o g e = none_some e
  waiter_by (seq_sound a b q) d s o g e = none_some e
  waiter_by (par_sound a b u v) d s o g e = none_some e
  waiter_by (scope_sound a b u v) d s o g e = none_some e
  waiter_by (executor_sound bo by t u) d s o g e = other_end' e
  waiter_by (waiter_sound {o = p} {x} {server} {serial} {dead} {l} bo bx t u) d s o g e =
      let h : ℕ = head_of 17 (name_fields p (first_of x)) in
      let stands : drop i ws ≡ h ∷ (bit dead * 32768 + server * 4096) ∷ serial ∷ _ = d ∙ ap (λ w. w ++ rest) (words_waiter p x dead server serial l) in
      let k : kind_of (at ws i) ≡ 17 = ap kind_of (word_0 ws i low _ _ _ _ stands) ∙ head_kind 17 (name_fields p (first_of x)) (fields_below p (first_of x) bo (laid x bx.fitting).low) in
      let es : serial ≡ s = cc in
      let eo : p ≡ o = cc in
      let eg : server ≡ g = cc in
      record {
        waits = rw (eq-eqb (kind_of (at ws i)) 17 k, eq-eqb (at ws (onward i 2)) s (word_2 ws i low _ _ _ _ stands ∙ es));
        names = ap name_of (word_0 ws i low _ _ _ _ stands) ∙ name_of_lem 17 p (first_of x) bo (laid x bx.fitting).low ∙ eo;
        named = ap waiters_server (word_1 ws i low _ _ _ _ stands) ∙ server_of (bit dead) server (omega (arith, (end_tests n issued server serial t).below)) ∙ eg;
      }
  waiter_by (notice_sound bo bf t) d s o g e = other_end' e
  waiter_by (act_sound u f) d s o g e = none_some e

-- ---- two of them

module _ (ws : List ℕ) (s : Starts) (known : Known standard ws s) (serial : ℕ) where
  abbrev c : Config
  c = known.config

  place_of : {x : End} {e : ℕ} → Placed c x e → ℕ
  place_of {e = e} p = start_of c e + p.place

  within_there : {x : End} {e : ℕ} (p : Placed c x e) → within_w s e (place_of p) ≡ true
  unfolding within_w place_of
  within_there {e = e} p =
      let a : get_or s.starts e 0 ≡ start_of c e = known.starts e (omega (arith, p.inside)) in
      let b : get_or s.starts (e + 1) 0 ≡ start_of c (e + 1) = known.starts (e + 1) (omega (arith, p.inside)) in
      let z = start_next c known.readable.fitting e p.inside in
      rw (
        lt-leb s.engines e (omega (arith, known.engines, p.inside)),
        le-leb (get_or s.starts e 0) (start_of c e + p.place) (omega (arith, a)),
        lt-ltb (start_of c e + p.place) (get_or s.starts (e + 1) 0 - 64) (omega (arith, b, z, p.within)),
      )

  inside_there : {x : End} {e : ℕ} (p : Placed c x e) → place_of p < length ws
  unfolding place_of
  inside_there {e = e} p =
      let z = start_inside c known.readable.fitting e p.inside in
      omega (arith, z, p.within, ap length known.same)

  pub never_paired :
      ((i : ℕ) → i < length ws → working_at serial ws i ≡ true → (j : ℕ) → j < length ws → pair_w s serial ws i j ≡ false) → serial ≤ c.issued → Apart serial c
  unfolding place_of pair_w names_w
  never_paired h u = record { issued = u; none = λ o i j a b. met o i j (stood c (working serial o j) i known.readable.fitting a) (stood c (waiting serial o i) j known.readable.fitting b) }
    where
      low : length ws ≤ 8192
      low = (known_length known).1

      met : (o i j : ℕ) → Placed c (working serial o j) i → Placed c (waiting serial o i) j → ⊥
      met o i j p q =
          let at_p = subst (λ us. drop (place_of p) us ≡ run_words p.process ++ p.rest) known.same p.begins in
          let at_q = subst (λ us. drop (place_of q) us ≡ run_words q.process ++ q.rest) known.same q.begins in
          let w : Worker ws (place_of p) serial o j = worker_by ws (place_of p) (omega (arith, inside_there p, low)) p.rest known.readable.fitting.few p.sound at_p serial o j p.ended in
          let v : Waiter ws (place_of q) serial o i = waiter_by ws (place_of q) (omega (arith, inside_there q, low)) q.rest known.readable.fitting.few q.sound at_q serial o i q.ended in
          let yes : pair_w s serial ws (place_of p) (place_of q) ≡ true =
          rw (v.waits, w.names, v.names, eq-eqb o o refl, w.named, within_there q, v.named, within_there p) refl in
          subst T (sym yes ∙ h (place_of p) (inside_there p) w.works (place_of q) (inside_there q)) tt

-- ---- what the code says of a configuration

-- by its survey: nothing of words that cannot be read; of others whether some working end has its waiter
pub apart_unread : (serial : ℕ) (ws : List ℕ) → no_starts ≡ surveyed standard 11 ws → false ≡ apart_w serial ws
unfolding apart_w no_starts
apart_unread serial ws e = rw (← e)

pub apart_read : (serial : ℕ) (ws : List ℕ) (found : Found) → starts_of found ≡ surveyed standard 11 ws → (b : Bool) → b ≡ some_below (length ws) (awaited_w (starts_of found) serial ws) → not b ≡ apart_w serial ws
unfolding apart_w
apart_read serial ws found e b q = rw (← e, ne_eqb found.engines 0 (λ z. omega (arith, z, found.some)), ← q)

module _ (serial : ℕ) (ws : List ℕ) where
  abbrev s : Starts
  s = surveyed standard 11 ws

  -- what it tells of the places
  unawaited : (i : ℕ) → awaited_w s serial ws i ≡ false → working_at serial ws i ≡ true → (j : ℕ) → j < length ws → pair_w s serial ws i j ≡ false
  unfolding awaited_w
  unawaited i e w = found_none (length ws) (pair_w s serial ws i) (rw w at e)

  apart_places : apart_w serial ws ≡ true → (s.engines ≡ 0 → ⊥) × ((i : ℕ) → i < length ws → awaited_w s serial ws i ≡ false)
  unfolding apart_w
  apart_places e = by (ℕ_discrete s.engines 0)
    where
      by : Dec (s.engines ≡ 0) → (s.engines ≡ 0 → ⊥) × ((i : ℕ) → i < length ws → awaited_w s serial ws i ≡ false)
      by (yes z) = let f : apart_w serial ws ≡ false = rw (eq-eqb s.engines 0 z) in absurd (subst T (sym e ∙ f) tt)
      by (no n) = (n, found_none (length ws) (awaited_w s serial ws) (not-true _ (rw (ne_eqb s.engines 0 n) at e)))

  -- Where no working end has its waiter the serial is lost
  pub apart_by_words : Words ws → apart_w serial ws ≡ true → (ends standard ws serial).number ≡ 0 → (engines k : ℕ) (side : Side) → forces engines serial k side ws ≡ false
  apart_by_words ok e z engines k side =
      let (more, nowhere) = apart_places e in
      let n : Known standard ws s = survey_known standard ws ok s refl more in
      let x : Counted serial ws = counted_at serial ws z in
      let same : x.config ≡ n.config = cc in
      apart_lost serial engines k side ws n.config n.reads (never_paired ws s n serial (λ i l. unawaited i (nowhere i l)) (subst (λ (c : Config). serial ≤ c.issued) same x.issued))
