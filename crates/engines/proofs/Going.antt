-- Leaving: the last engine may leave exactly if the others are read among one engine less; what stands in the output then.
-- Assumes nothing.
use Prim.Native.Nat.{ℕ, zero, suc, ◌+◌, ◌-◌, ◌*◌, ◌≤◌, ◌<◌}
use native.Mathlib.Omega.{arith}
use native.Mathlib.Nat.{le_refl}
use native.Mathlib.Numerals.{add-one}
use mathlib.Core.Path.{◌≡◌, refl, sym, ap, subst, ◌∙◌}
use mathlib.Core.Bool.{Bool, true, false, not, ◌&&◌, cond}
use mathlib.Core.List.{List, [], ◌∷◌, ◌++◌}
use lib.Dec.{T, leb, ltb, eqb}
use lib.ListN.{length, get_or, set, take, drop, length-append, get_or-append}
use lib.Seq.{drop-cons, drop-length, take_at}
use Rattle.std.specs.List.{list_all}
use borrow.Author.Tests.{lt-leb, le-leb, eq-eqb, ne_eqb, eqb-true, eqb-false}
use Rattle.sock.specs.Reading.{Got, fail, got, running, root, process}
use Rattle.sock.specs.Layout.{words, depth, exprs_words}
use Rattle.sock.specs.Running.{Run, nil, seq, par, scope, executor, waiter, notice, act, as_node, awake, run_words, run_depth}
use Rattle.sock.specs.Term.{Node, head_word}
use Rattle.sock.specs.Configuration.{standard, Engine, Config, values_words, engine_words, engines_words, encode, is_scope}
use Rattle.sock.specs.Frames.{is_done}
use Rattle.sock.specs.Calls.{unreadable, still_at_work, short, refused, done, ◌>>=◌, ◌>>◌, ◌!◌, ◌unless◌, over, engine_at, tally, tally_all}
use Rattle.sock.specs.Journal.{taken_of, restored_over}
use Rattle.sock.specs.Engines.{with_next, last_of, without_last, points_to, may_leave, leave}
use Rattle.sock.proofs.Logic.{true_test}
use Rattle.sock.proofs.Fits.{Sound, rootable, FitsEngine, FitsConfig}
use Rattle.sock.proofs.Reading.{Holds, something, Found, found, finds}
use Rattle.sock.proofs.Running.{awake_as_node', awake_sound, awake_root, as_node_fits, as_node_awake}
use Rattle.sock.proofs.Located.{values_length, start_of, words_after}
use Rattle.sock.proofs.Exchange.{sound_later}
use Rattle.sock.proofs.Engines.{with_words, last_behind, others_length, sound_fewer, sound_unnamed, Leaves, may_leave_lem}
use Rattle.reading.specs.declared.starts.Starts.{Starts as Surveyed}
use Rattle.reading.specs.Walk.{at, process_end}
use Rattle.reading.specs.Survey.{Starts, no_starts, surveyed}
use Rattle.reading.specs.Answers.{starts_of}
use Rattle.reading.proofs.Combining.{Words}
use Rattle.reading.proofs.Ending.{Ends, fails, reads}
use Rattle.reading.proofs.Processes.{process_ends}
use Rattle.reading.proofs.Standing.{fits_at, stands_at, head_at, root_head}
use Rattle.reading.proofs.Known.{Known, found_known, none_known, known_issued, known_length}
use Rattle.reading.proofs.Totals.{engine_depth}
use Rattle.writers.specs.Writing.{pasted}
use Rattle.writers.proofs.Over.{pasted_first}
use Rattle.engines.specs.Leaving.{all_read, rests_w}
use Rattle.engines.proofs.Joining.{first_word}

not_both : {A : Type 0} {a : A} {rest : List ℕ} → fail ≡ got a rest → ⊥
not_both e = let z : ◌≡◌ {A = ℕ} 0 1 = cc in omega arith

-- ---- the others are read exactly if each of them is

module _ (sub : ℕ → ℕ) (starts : List ℕ) where
  read_from : (n e : ℕ) → e + n ≤ length starts → all_read sub starts n e ≡ list_all (λ i. not (eqb (sub i) 0)) (take n (drop e starts))
  unfolding all_read
  read_from zero e h = refl
  read_from (suc n) e h =
      rw (drop-cons starts e 0 (omega arith), read_from n (e + 1) (omega arith), add-one e) (by (eqb (sub (get_or starts e 0)) 0) _)
    where
      by : (a b : Bool) → cond a false b ≡ (not a && b)
      by true b = refl
      by false b = refl

  pub read_all : (n : ℕ) → n ≤ length starts → all_read sub starts n 0 ≡ list_all (λ i. not (eqb (sub i) 0)) (take n starts)
  read_all n h = read_from n 0 (omega arith)

module _ (ws : List ℕ) (ok : Words ws) (m issued : ℕ) (few : suc m ≤ 8) (word : issued < 65536) (i : ℕ) {p : Run} (g : Sound (suc m) issued p) (r : T (rootable p)) (shallow : run_depth p ≤ 64) (rest : List ℕ) (stands : drop i ws ≡ run_words p ++ rest) where
  abbrev end : ℕ
  end = process_end 64 ws (m * 65536 + issued) 11 i

  ends : Ends ws i (process 64 (running m issued) root (drop i ws)) end
  ends = process_ends ws ok m issued word 64 11 (omega arith) i

  -- what no end names is read
  read_fewer : tally (points_to m) p ≡ 0 → process 64 (running m issued) root (drop i ws) ≡ got (as_node p) rest
  unfolding run_words run_depth
  read_fewer z = rw stands (finds 64 (as_node_fits (omega arith) word (sound_fewer m issued g z) {p = root} r) shallow rest)

  -- what is read is that process, so no end names it
  read_unnamed : (a : Node) (more : List ℕ) → Found 64 (running m issued) root (drop i ws) a more → tally (points_to m) p ≡ 0
  unfolding run_words run_depth
  read_unnamed a more f =
      let s : Sound m issued (awake a) = awake_sound f.fitting in
      let same : as_node (awake a) ≡ a = awake_as_node' f.fitting in
      let wider : Sound (suc m) issued (awake a) = sound_later (omega arith) (le_refl issued) s in
      let begins : drop i ws ≡ words (as_node (awake a)) ++ more = f.begins ∙ ap (λ x. words x ++ more) (sym same) in
      let one : process 64 (running (suc m) issued) root (drop i ws) ≡ got (as_node (awake a)) more =
      rw begins (finds 64 (as_node_fits few word wider {p = root} (awake_root f.fitting)) (subst (λ x. depth x ≤ 64) (sym same) f.shallow) more) in
      let two : process 64 (running (suc m) issued) root (drop i ws) ≡ got (as_node p) rest =
      rw stands (finds 64 (as_node_fits few word g {p = root} r) shallow rest) in
      let nodes : as_node (awake a) ≡ as_node p = cc in
      let runs : awake a ≡ p = sym (as_node_awake few word wider) ∙ ap awake nodes ∙ as_node_awake few word g in
      sound_unnamed m issued (subst (Sound m issued) runs s)

  -- whether it is read tells whether one names it
  pub read_tells : eqb end 0 ≡ not (eqb (tally (points_to m) p) 0)
  read_tells = by refl ends (found 64 (running m issued) root (drop i ws))
    where
      named : process 64 (running m issued) root (drop i ws) ≡ fail → (b : Bool) → eqb (tally (points_to m) p) 0 ≡ b → true ≡ not b
      named e true t = absurd (not_both (sym e ∙ read_fewer (eqb-true (tally (points_to m) p) 0 t)))
      named e false t = refl

      by : {g : Got Node} {e : ℕ} → process 64 (running m issued) root (drop i ws) ≡ g → Ends ws i g e → Holds (Found 64 (running m issued) root (drop i ws)) g → eqb e 0 ≡ not (eqb (tally (points_to m) p) 0)
      by q fails h = named q (eqb (tally (points_to m) p) 0) refl
      by q (reads {a} {e} x y) (something f) = rw (eq-eqb (tally (points_to m) p) 0 (read_unnamed a (drop e ws) f)) (ne_eqb e 0 (λ z. omega arith))

-- ---- all engines but the last

-- a process that may stand as a root is nil if its head is 0
root_done : {n issued : ℕ} {r : Run} → Sound n issued r → T (rootable r) → eqb (head_word (as_node r)) 0 ≡ is_done r
unfolding is_done is_scope
root_done {r = r} g t = root_head g t ∙ by r t
  where
    by : (r : Run) → T (rootable r) → not (is_scope r) ≡ is_done r
    by nil t = refl
    by (seq p q) t = absurd t
    by (par p q) t = absurd t
    by (scope name mark zombie h p) t = refl
    by (executor o y client serial p) t = absurd t
    by (waiter o x dead server serial l) t = absurd t
    by (notice o f client serial) t = absurd t
    by (act p) t = absurd t

none_in_both : (a b : ℕ) → cond (not (eqb a 0)) false (eqb b 0) ≡ eqb (a + b) 0
none_in_both a b = by (eqb a 0) refl
  where
    by : (t : Bool) → eqb a 0 ≡ t → cond (not t) false (eqb b 0) ≡ eqb (a + b) 0
    by true e = let z : a ≡ 0 = eqb-true a 0 e in let s : a + b ≡ b = omega arith in ap (λ n. eqb n 0) (sym s)
    by false e = let z : a ≡ 0 → ⊥ = eqb-false a 0 e in sym (ne_eqb (a + b) 0 (λ q. z (omega arith)))

rests_as :
    (ws starts : List ℕ) (n m issued : ℕ) (a b : Bool) → n - 1 ≡ m → at ws 1 ≡ issued → eqb (at ws (get_or starts m 0)) 0 ≡ a →
    all_read (process_end 64 ws (m * 65536 + issued) 11) starts m 0 ≡ b →
    rests_w ws starts n ≡ (ltb 1 n && a && b)
unfolding rests_w
rests_as ws starts n m issued a b p q r t = rw (p, q, r, t)

module _ {ws : List ℕ} {s : Starts} (ok : Words ws) (k : Known standard ws s) where
  c : Config
  c = k.config

  m : ℕ
  m = last_of c

  last : Engine
  last = engine_at c m

  others : List Engine
  others = (without_last c).engines

  count : length c.engines ≡ suc m
  unfolding c m last_of
  count = omega (arith, k.readable.fitting.some)

  others_count : length others ≡ m
  unfolding others m
  others_count = others_length c

  split : c.engines ≡ others ++ last ∷ []
  unfolding others last m
  split = last_behind c (omega (arith, count))

  other_at : (e : ℕ) → e < m → get_or others e (record { values = []; process = nil }) ≡ engine_at c e
  other_at e h = sym (ap (λ es. get_or es e (record { values = []; process = nil })) split ∙ get_or-append others (last ∷ []) (record { values = []; process = nil }) e (omega (arith, others_count)))

  abbrev sub : ℕ → ℕ
  sub = process_end 64 ws (m * 65536 + c.issued) 11

  one_read : (e : ℕ) → e < m → eqb (sub (get_or s.starts e 0)) 0 ≡ not (eqb (tally (points_to m) (engine_at c e).process) 0)
  unfolding c
  one_read e h =
      let f : FitsConfig c = k.readable.fitting in
      let b : e < length c.engines = omega (arith, count) in
      let g : FitsEngine (suc m) c.issued (engine_at c e) = subst (λ n. FitsEngine n c.issued (engine_at c e)) count (fits_at c f e b) in
      let stands : drop (start_of c e) ws ≡ run_words (engine_at c e).process ++ words_after c e = rw k.same at (stands_at c f e b) in
      let deep : run_depth (engine_at c e).process ≤ 64 = omega (arith, engine_depth c.engines e (record { values = []; process = nil }) b, k.readable.shallow) in
      let few : suc m ≤ 8 = omega (arith, count, f.few) in
      rw (k.starts e (omega arith)) (read_tells ws ok m c.issued few f.word (start_of c e) g.sound g.placed deep (words_after c e) stands)

  all_from : (left e : ℕ) → e + left ≡ m → all_read sub s.starts left e ≡ eqb (tally_all (points_to m) (drop e others)) 0
  unfolding all_read tally_all
  all_from zero e h =
      let no : drop e others ≡ [] = ap (λ n. drop n others) (let q : e ≡ length others = omega (arith, others_count) in q) ∙ drop-length others in
      rw no
  all_from (suc left) e h =
      let one : drop e others ≡ get_or others e (record { values = []; process = nil }) ∷ drop (suc e) others = drop-cons others e (record { values = []; process = nil }) (omega (arith, others_count)) in
      rw (one_read e (omega arith), one, other_at e (omega arith), all_from left (e + 1) (omega arith), add-one e)
      (none_in_both (tally (points_to m) (engine_at c e).process) (tally_all (points_to m) (drop (suc e) others)))

  last_done : eqb (at ws (get_or s.starts m 0)) 0 ≡ is_done last.process
  unfolding last c
  last_done =
      let f : FitsConfig c = k.readable.fitting in
      let b : m < length c.engines = omega (arith, count) in
      let g = fits_at c f m b in
      ap (λ i. eqb (at ws i) 0) (k.starts m (omega arith))
      ∙ ap (λ us. eqb (at us (start_of c m)) 0) (sym k.same)
      ∙ ap (λ w. eqb w 0) (head_at c f m b)
      ∙ root_done g.sound g.placed

  -- the code's test is the definitions'
  pub rests_is : rests_w ws s.starts s.engines ≡ may_leave k.config
  unfolding may_leave c m last others
  rests_is =
      rests_as ws s.starts s.engines m c.issued (is_done last.process) (eqb (tally_all (points_to m) others) 0) (omega (arith, k.engines, count)) (known_issued k) last_done
      (all_from m 0 (omega arith))
      ∙ ap (λ n. ltb 1 n && is_done last.process && eqb (tally_all (points_to m) others) 0) k.engines

  -- ---- what is left

  module _ (t : T (may_leave k.config)) where
    rests : Leaves k.config
    rests = may_leave_lem k.config t

    last_length : length (engine_words last) ≡ 65
    unfolding engine_words last c m run_words as_node words exprs_words
    last_length =
        let g = fits_at c k.readable.fitting m (omega (arith, count)) in
        let own : run_words last.process ≡ 0 ∷ [] = ap run_words rests.quiet in
        length-append (values_words last.values) (run_words last.process) ∙ omega (arith, values_length last.values, g.counted, ap length own)

    left_words : ws ≡ (suc (length others) ∷ c.issued ∷ engines_words others) ++ engine_words last
    unfolding encode with_next others last c m without_last
    left_words = sym k.same ∙ ap (λ es. encode (record { issued = c.issued; engines = es })) split ∙ with_words (without_last c) last

    -- the words of the configuration without it, and how many
    pub left_length : length (encode (without_last k.config)) ≡ length ws - 65
    unfolding encode others c without_last
    left_length = omega (arith, ap length left_words, length-append (suc (length others) ∷ c.issued ∷ engines_words others) (engine_words last), last_length)

    pub left_placed :
        (out : List ℕ) (n : ℕ) → n ≡ s.engines → length ws - 65 ≤ length out →
        set (pasted ws 0 (length ws - 65) out 0) 0 (n - 1) ≡ over (encode (without_last k.config)) out
    unfolding encode others c m last_of without_last
    left_placed out n same room =
        let u : List ℕ = suc (length others) ∷ c.issued ∷ engines_words others in
        let long : length u ≡ length ws - 65 = omega (arith, ap length left_words, length-append u (engine_words last), last_length) in
        let first : take (length ws - 65) ws ≡ u = ap (take (length ws - 65)) left_words ∙ take_at u (engine_words last) (length ws - 65) long in
        let number : n - 1 ≡ length others = omega (arith, same, k.engines, count, others_count) in
        ap (λ us. set us 0 (n - 1)) (pasted_first ws (length ws - 65) out (omega arith) room ∙ ap (λ us. over us out) first)
        ∙ ap (λ v. over (v ∷ c.issued ∷ engines_words others) out) number

-- ---- leaving

module _ (ws : List ℕ) (ok : Words ws) (room : ℕ) where
  pub leave_unread : no_starts ≡ surveyed standard 11 ws → leave standard ws room ≡ refused unreadable
  unfolding leave ◌!◌ ◌>>=◌
  leave_unread e = rw (none_known standard ws ok e)

  module _ (s : Surveyed) (e : starts_of s ≡ surveyed standard 11 ws) where
    abbrev known : Known standard ws (starts_of s)
    known = found_known standard ws ok s e

    by_rest : (b : Bool) → may_leave known.config ≡ b → leave standard ws room ≡ ◌>>◌ (still_at_work unless b) (◌>>◌ (short unless leb (length (encode (without_last known.config))) room) (done (encode (without_last known.config))))
    unfolding leave ◌!◌ ◌>>=◌
    by_rest b t = rw (known.reads, t)

    pub at_work : (b : Bool) → b ≡ rests_w ws s.starts s.engines → b ≡ false → leave standard ws room ≡ refused still_at_work
    unfolding ◌>>◌ ◌unless◌
    at_work b p f = by_rest false (sym (rests_is ok known) ∙ sym p ∙ f)

    module _ (b : Bool) (p : b ≡ rests_w ws s.starts s.engines) (f : b ≡ true) where
      free : may_leave known.config ≡ true
      free = sym (rests_is ok known) ∙ sym p ∙ f

      size : length (encode (without_last known.config)) ≡ length ws - 65
      size = left_length ok known (true_test free)

      module _ (m : ℕ) (is : m ≡ length ws - 65) where
        pub leave_short : room < m → leave standard ws room ≡ refused short
        unfolding ◌>>◌ ◌unless◌
        leave_short g = by_rest true free ∙ rw (lt-leb (length (encode (without_last known.config))) room (rw size (omega arith)))

        by_room : m ≤ room → leave standard ws room ≡ done (encode (without_last known.config))
        unfolding ◌>>◌ ◌unless◌
        by_room g = by_rest true free ∙ rw (le-leb (length (encode (without_last known.config))) room (rw size (omega arith)))

        pub leave_done : m ≤ room → record { number = 0; length = m } ≡ taken_of (leave standard ws room)
        unfolding taken_of
        leave_done g = rw (by_room g, is, size)

-- there are engines, so the first word is not 0, and not too many words
pub some_counted : (ws : List ℕ) → Words ws → (s : Surveyed) → starts_of s ≡ surveyed standard 11 ws → 1 ≤ at ws 0
some_counted ws ok s e = let k = found_known standard ws ok s e in omega (arith, first_word ws k.config k.reads, k.engines, s.some)

pub no_longer : (ws : List ℕ) → Words ws → (s : Surveyed) → starts_of s ≡ surveyed standard 11 ws → length ws ≤ 8192
no_longer ws ok s e = (known_length (found_known standard ws ok s e)).1

-- the words that are left, then the first word
pub left_laid :
    (ws : List ℕ) (ok : Words ws) (s : Surveyed) (e : starts_of s ≡ surveyed standard 11 ws) (b : Bool) → b ≡ rests_w ws s.starts s.engines → b ≡ true →
    (m : ℕ) → m ≡ length ws - 65 → (out mid last : List ℕ) → m ≤ length out → mid ≡ pasted ws 0 m out 0 → (w : ℕ) → w ≡ at ws 0 → last ≡ set mid 0 (w - 1) →
    last ≡ restored_over (leave standard ws (length out)) out
unfolding restored_over
left_laid ws ok s e b p f m is out mid last g q w h l =
    let k = found_known standard ws ok s e in
    let same : w ≡ s.engines = h ∙ first_word ws k.config k.reads ∙ sym k.engines in
    l ∙ ap (λ us. set us 0 (w - 1)) (q ∙ ap (λ k. pasted ws 0 k out 0) is) ∙ left_placed ok k (true_test (free ws ok (length out) s e b p f)) out w same (omega arith)
    ∙ sym (ap (λ r. restored_over r out) (by_room ws ok (length out) s e b p f m is g))
