-- The survey is the definitions' reading of a configuration: where it answers, it has as many engines as the configuration, and each
-- process begins where the definitions have it. The same goes for processes read as code.
-- Assumes nothing.
use Prim.Native.Nat.{ℕ, zero, suc, ◌+◌, ◌-◌, ◌*◌, ◌/◌, ◌%◌, ◌<◌, ◌≤◌}
use native.Mathlib.Omega.{arith}
use native.Mathlib.Nat.{add-zero, zero-add}
use mathlib.Core.Path.{◌≡◌, refl, sym, ap, ◌∙◌}
use mathlib.Core.Bool.{Bool, true, false, true≢false, ◌&&◌, cond}
use mathlib.Core.Option.{Option, none, some}
use mathlib.Core.List.{List, [], ◌∷◌}
use lib.Dec.{T, leb, ltb, eqb, leb→le}
use lib.ListN.{length, get_or, set, take, drop, replicate, length-append, length-drop, length-set}
use lib.Seq.{drop-cons, get_or-set_same, get_or-set_other}
use borrow.Author.Tests.{lt-ltb, le-ltb, le-leb, eq-eqb, ne_eqb, ltb-true, ltb-false}
use Rattle.sock.specs.Words.{is_word, value_of}
use Rattle.sock.specs.Term.{Node}
use Rattle.sock.specs.Layout.{words}
use Rattle.sock.specs.Reading.{Got, fail, got, and_then, check, Stratum, root, wide, process}
use Rattle.sock.specs.Running.{as_node, run_words, awake}
use Rattle.sock.specs.Configuration.{Limits, Engine, Config, engine_words, engines_words, read_values, read_engine, read_engines, whole, guarded, read_config}
use Rattle.sock.proofs.Logic.{and_left, and_right}
use Rattle.sock.proofs.Fits.{Fits}
use Rattle.sock.proofs.Reading.{tests, Holds, nothing, something, Found, found}
use Rattle.sock.proofs.Running.{awake_as_node'}
use Rattle.sock.proofs.Located.{values_length, start_of}
use Rattle.reading.specs.Tables.{stratum_of}
use Rattle.reading.specs.Walk.{at, process_end}
use Rattle.reading.specs.Survey.{Starts, no_starts, engines_from, opens, surveyed}
use Rattle.reading.proofs.Combining.{Words, same_test}
use Rattle.reading.proofs.Ending.{Ends, fails, reads}
use Rattle.reading.proofs.Processes.{process_ends}

-- ---- the values of an engine

-- k values from i on, or too few words
data ValuesAt (ws : List ℕ) (i k : ℕ) : Got (List ℕ) → Type 0 where
  short : length ws - i < k + k → ValuesAt ws i k fail
  full : {vs : List ℕ} {j : ℕ} → k + k ≤ length ws - i → length vs ≡ k → j ≡ i + (k + k) → ValuesAt ws i k (got vs (drop j ws))

module _ (ws : List ℕ) (ok : Words ws) where
  wide_at : (i : ℕ) → 2 ≤ length ws - i → wide (drop i ws) ≡ got (value_of (at ws i) (at ws (suc i))) (drop (suc (suc i)) ws)
  unfolding wide check
  wide_at i h =
      let one : drop i ws ≡ at ws i ∷ drop (suc i) ws = drop-cons ws i 0 (omega arith) in
      let two : drop (suc i) ws ≡ at ws (suc i) ∷ drop (suc (suc i)) ws = drop-cons ws (suc i) 0 (omega arith) in
      rw (one, two, lt-ltb (at ws i) 65536 (ok i), lt-ltb (at ws (suc i)) 65536 (ok (suc i)))

  wide_short : (v : List ℕ) → length v < 2 → wide v ≡ fail
  unfolding wide
  wide_short [] h = refl
  wide_short (x ∷ []) h = refl
  wide_short (x ∷ y ∷ v) h = absurd (omega arith)

  values_next : {i k : ℕ} {g : Got (List ℕ)} (w : ℕ) → 2 ≤ length ws - i → ValuesAt ws (suc (suc i)) k g → ValuesAt ws i (suc k) (and_then g λ vs rest. got (w ∷ vs) rest)
  unfolding and_then
  values_next w h (short p) = short (omega arith)
  values_next w h (full {j = j} p q e) = full {j = j} (omega arith) (ap suc q) (omega arith)

  values_more : (k i : ℕ) → ((j : ℕ) → j ≤ length ws → ValuesAt ws j k (read_values k (drop j ws))) → (b : Bool) → ltb (length ws - i) 2 ≡ b → ValuesAt ws i (suc k) (read_values (suc k) (drop i ws))
  unfolding read_values and_then
  values_more k i f true t = let n : length ws - i < 2 = ltb-true _ _ t in rw (wide_short (drop i ws) (rw (length-drop i ws) n)) (short (omega arith))
  values_more k i f false t = let n : 2 ≤ length ws - i = ltb-false _ _ t in rw (wide_at i n) (values_next _ n (f (suc (suc i)) (omega arith)))

  values_at : (k i : ℕ) → i ≤ length ws → ValuesAt ws i k (read_values k (drop i ws))
  unfolding read_values
  values_at zero i h = full {j = i} (omega arith) refl (omega arith)
  values_at (suc k) i h = values_more k i (values_at k) (ltb (length ws - i) 2) refl

-- ---- an engine, and all of them

-- the starts that are noted on the way through engines that begin at i
unfoldable noted : ℕ → ℕ → List Engine → List ℕ → List ℕ
noted e i [] starts = set starts e (i + 64)
noted e i (g ∷ gs) starts = noted (e + 1) (i + length (engine_words g)) gs (set starts e (i + 64))

-- an engine from i on whose process ends at f, or too few words for its values, or no process
pub data EngineAt (ws : List ℕ) (i f : ℕ) : Got Engine → Type 0 where
  no_values : length ws - i < 64 → EngineAt ws i f fail
  no_process : 64 ≤ length ws - i → f ≡ 0 → EngineAt ws i f fail
  an_engine : {g : Engine} → 64 ≤ length ws - i → (f ≡ 0 → ⊥) → f ≤ length ws → f ≡ i + length (engine_words g) → EngineAt ws i f (got g (drop f ws))

-- engines from number e and from i on, to the end of the words
data Walked (n e i k : ℕ) (starts : List ℕ) : Got (List Engine) → Starts → Type 0 where
  stopped : Walked n e i k starts fail no_starts
  too_long : {es : List Engine} {w : ℕ} {rest : List ℕ} → Walked n e i k starts (got es (w ∷ rest)) no_starts
  complete : {es : List Engine} → length es ≡ k → Walked n e i k starts (got es []) (record { engines = n; starts = noted e i es starts })

at_last :
    (n e i : ℕ) (starts v : List ℕ) → e ≡ n →
    Walked n e i 0 starts (got [] v) (cond (eqb (length v) 0) (record { engines = n; starts = set starts n (i + 64) }) no_starts)
unfolding noted
at_last n e i starts [] same = rw (← same) (complete refl)
at_last n e i starts (w ∷ v) same = rw (ne_eqb (suc (length v)) 0 (λ z. omega arith)) too_long

at_end : (i n : ℕ) → i ≤ n → eqb i n ≡ eqb (n - i) 0
at_end i n h = same_test (eqb i n) (eqb (n - i) 0) (λ t. omega tests) λ t. omega tests

next_walked :
    {r : Got (List Engine)} (g : Engine) (n e i f k : ℕ) (starts : List ℕ) {t : Starts} → f ≡ i + length (engine_words g) →
    Walked n (e + 1) f k (set starts e (i + 64)) r t →
    Walked n e i (suc k) starts (and_then r λ gs rest. got (g ∷ gs) rest) t
unfolding noted and_then
next_walked g n e i f k starts same stopped = stopped
next_walked g n e i f k starts same too_long = too_long
next_walked g n e i f k starts same (complete {es} q) = rw same (complete (ap suc q))

module _
    (ws : List ℕ) (ok : Words ws) (d : ℕ) (s : Stratum) (sub : ℕ → ℕ)
    (below : (i : ℕ) → Ends ws i (process d s root (drop i ws)) (sub i))
    (back : (m : Node) → Fits s root m → as_node (awake m) ≡ m)
  where
    process_at :
        {g : Got Node} {f : ℕ} (i j : ℕ) (vs : List ℕ) → 64 ≤ length ws - i → j ≡ i + 64 → length vs ≡ 32 →
        Ends ws j g f →
        Holds (Found d s root (drop j ws)) g →
        EngineAt ws i f (and_then g λ p rest. got (record { values = vs; process = awake p }) rest)
    unfolding and_then engine_words run_words
    process_at i j vs h e v fails nothing = no_process h refl
    process_at i j vs h e v (reads {a} {e = f} p q) (something r) =
        let same : as_node (awake a) ≡ a = back a r.fitting in
        let long : length ws - j ≡ length (words a) + (length ws - f) = simp (length-append, length-drop) at (ap length r.begins) in
        an_engine {g = record { values = vs; process = awake a }} h (λ z. omega arith) q (rw (length-append, same) (omega (arith, values_length vs)))

    by_values :
        {g : Got (List ℕ)} (i : ℕ) → ValuesAt ws i 32 g →
        EngineAt ws i (sub (i + 64)) (and_then g λ vs next. and_then (process d s root next) λ p rest. got (record { values = vs; process = awake p }) rest)
    unfolding and_then
    by_values i (short h) = no_values h
    by_values i (full {vs} {j} h v e) = rw (← e) (process_at i j vs h e v (below j) (found d s root (drop j ws)))

    pub engine_at : (i : ℕ) → i ≤ length ws → EngineAt ws i (sub (i + 64)) (read_engine d s (drop i ws))
    unfolding read_engine
    engine_at i h = by_values i (values_at ws ok 32 i h)

    by_engine :
        {g : Got Engine} (n k e i f : ℕ) (starts : List ℕ) → f ≡ sub (i + 64) →
        ((starts : List ℕ) → f ≤ length ws → Walked n (e + 1) f k starts (read_engines d s k (drop f ws)) (engines_from sub ws n k (e + 1) f starts)) →
        EngineAt ws i f g →
        Walked n e i (suc k) starts (and_then g λ a next. and_then (read_engines d s k next) λ es rest. got (a ∷ es) rest)
        (engines_from sub ws n (suc k) e i starts)
    unfolding engines_from and_then
    by_engine n k e i f starts same more (no_values h) = rw (lt-ltb _ 64 h) stopped
    by_engine n k e i f starts same more (no_process h z) = rw (le-ltb _ 64 h, ← same, eq-eqb f 0 z) stopped
    by_engine n k e i f starts same more (an_engine {g} h z q l) =
        rw (le-ltb _ 64 h, ← same, ne_eqb f 0 z) (next_walked g n e i f k starts l (more (set starts e (i + 64)) q))

    walked : (n k e i : ℕ) (starts : List ℕ) → e + k ≡ n → i ≤ length ws → Walked n e i k starts (read_engines d s k (drop i ws)) (engines_from sub ws n k e i starts)
    unfolding read_engines engines_from
    walked n zero e i starts same h =
        let none : eqb i (length ws) ≡ eqb (length (drop i ws)) 0 = rw (length-drop i ws) (at_end i (length ws) h) in
        rw none (at_last n e i starts (drop i ws) (omega arith))
    walked n (suc k) e i starts same h = by_engine n k e i (sub (i + 64)) starts refl (λ starts q. walked n k (e + 1) (sub (i + 64)) starts (omega arith) q) (engine_at i h)

-- ---- where the starts are noted

noted_before : (e i : ℕ) (es : List Engine) (starts : List ℕ) (k : ℕ) → k < e → get_or (noted e i es starts) k 0 ≡ get_or starts k 0
unfolding noted
noted_before e i [] starts k h = get_or-set_other starts e k (i + 64) 0 (λ z. omega arith)
noted_before e i (g ∷ es) starts k h =
    noted_before (e + 1) (i + length (engine_words g)) es (set starts e (i + 64)) k (omega arith) ∙ get_or-set_other starts e k (i + 64) 0 (λ z. omega arith)

noted_at :
    (e i : ℕ) (es : List Engine) (starts : List ℕ) → e + length es < length starts →
    (j : ℕ) → j ≤ length es → get_or (noted e i es starts) (e + j) 0 ≡ i + length (engines_words (take j es)) + 64
unfolding noted engines_words
noted_at e i [] starts b zero h = rw add-zero (get_or-set_same starts e (i + 64) 0 (omega arith) ∙ omega arith)
noted_at e i [] starts b (suc j) h = absurd (omega arith)
noted_at e i (g ∷ es) starts b zero h =
    rw add-zero
    (noted_before (e + 1) (i + length (engine_words g)) es (set starts e (i + 64)) e (omega arith)
    ∙ get_or-set_same starts e (i + 64) 0 (omega arith)
    ∙ omega arith)
noted_at e i (g ∷ es) starts b (suc j) h =
    let next : e + suc j ≡ e + 1 + j = omega arith in
    rw (next, length-append)
    (noted_at (e + 1) (i + length (engine_words g)) es (set starts e (i + 64)) (rw length-set (omega arith)) j (omega arith) ∙ omega arith)

-- ---- the survey

-- a configuration whose processes stand in a stratum, by its number
unfoldable pub read_as : ℕ → Limits → List ℕ → Option Config
read_as x limits [] = none
read_as x limits (n ∷ []) = none
read_as x limits (n ∷ issued ∷ ws) =
    guarded (ltb 0 n && leb n 8 && is_word issued && leb (suc (suc (length ws))) limits.longest)
    (whole issued (read_engines limits.deepest (stratum_of n issued x) n ws))

read_running : (limits : Limits) (ws : List ℕ) → read_as 2 limits ws ≡ read_config limits ws
unfolding read_as read_config
read_running limits [] = refl
read_running limits (n ∷ []) = refl
read_running limits (n ∷ issued ∷ ws) = refl

-- no configuration and no engine, or as many engines as the configuration has, and where each begins
pub data Surveyed : Option Config → Starts → Type 0 where
  unread : Surveyed none no_starts
  is_read :
      {c : Config} {starts : List ℕ} →
      ((e : ℕ) → e ≤ length c.engines → get_or starts e 0 ≡ start_of c e) →
      Surveyed (some c) (record { engines = length c.engines; starts = starts })

whole_surveyed : {g : Got (List Engine)} {t : Starts} (n issued : ℕ) → n ≤ 8 → Walked n 0 2 n (replicate 9 0) g t → Surveyed (whole issued g) t
unfolding whole
whole_surveyed n issued few stopped = unread
whole_surveyed n issued few too_long = unread
whole_surveyed n issued few (complete {es} q) =
    rw (← q) (is_read {c = record { issued = issued; engines = es }} {starts = noted 0 2 es (replicate 9 0)} λ e h. rw zero-add at (noted_at 0 2 es (replicate 9 0) (omega arith) e h))

reordered : (a b c d e : Bool) → a ≡ true → e ≡ true → a && b && c && d ≡ c && d && e && b
reordered true true true true true p q = refl
reordered true true true false true p q = refl
reordered true true false d true p q = refl
reordered true false true true true p q = refl
reordered true false true false true p q = refl
reordered true false false d true p q = refl
reordered false b c d e p q = absurd (true≢false (sym p))
reordered true b c d false p q = absurd (true≢false (sym q))

module _ (x : ℕ) (few : x < 3) (limits : Limits) where
  by_test :
      (n issued : ℕ) (ws : List ℕ) → Words (n ∷ issued ∷ ws) →
      (n ≤ 8 → (m : Node) → Fits (stratum_of n issued x) root m → as_node (awake m) ≡ m) →
      (b : Bool) → (T b → n ≤ 8) →
      Surveyed (guarded b (whole issued (read_engines limits.deepest (stratum_of n issued x) n ws)))
      (cond b (engines_from (process_end limits.deepest (n ∷ issued ∷ ws) (n * 65536 + issued) (x * 4 + 3)) (n ∷ issued ∷ ws) n n 0 2 (replicate 9 0)) no_starts)
  unfolding guarded
  by_test n issued ws ok back false h = unread
  by_test n issued ws ok back true h =
      let over : (x * 4 + 3) / 4 ≡ x = omega arith in
      let left : (x * 4 + 3) % 4 ≡ 3 = omega arith in
      let all : List ℕ = n ∷ issued ∷ ws in
      whole_surveyed n issued (h tt)
      (walked all ok limits.deepest (stratum_of n issued x) (process_end limits.deepest all (n * 65536 + issued) (x * 4 + 3))
      (λ i. rw (over, left) at (process_ends all ok n issued (ok 1) limits.deepest (x * 4 + 3) (omega arith) i))
      (back (h tt)) n n 0 2 (replicate 9 0) (omega arith) (omega arith))

  pub survey_reads :
      (ws : List ℕ) → Words ws → ((n issued : ℕ) → n ≤ 8 → issued < 65536 → (m : Node) → Fits (stratum_of n issued x) root m → as_node (awake m) ≡ m) →
      Surveyed (read_as x limits ws) (surveyed limits (x * 4 + 3) ws)
  unfolding read_as surveyed opens
  survey_reads [] ok back = unread
  survey_reads (n ∷ []) ok back = unread
  survey_reads (n ∷ issued ∷ ws) ok back =
      let test : Bool = ltb 0 n && leb n 8 && is_word issued && leb (suc (suc (length ws))) limits.longest in
      let same : (leb 2 (suc (suc (length ws))) && leb (suc (suc (length ws))) limits.longest && ltb 0 n && leb n 8) ≡ test =
      reordered (leb 2 (suc (suc (length ws)))) (leb (suc (suc (length ws))) limits.longest) (ltb 0 n) (leb n 8) (is_word issued)
      (le-leb 2 (suc (suc (length ws))) (omega arith)) (lt-ltb issued 65536 (ok 1)) in
      rw same (by_test n issued ws ok (λ few. back n issued few (ok 1)) test λ t.
      let t = and_left (ltb 0 n && leb n 8 && is_word issued) (leb (suc (suc (length ws))) limits.longest) t in
      let t = and_left (ltb 0 n && leb n 8) (is_word issued) t in
      leb→le n 8 (and_right (ltb 0 n) (leb n 8) t))

pub survey_law : (limits : Limits) (ws : List ℕ) → Words ws → Surveyed (read_config limits ws) (surveyed limits 11 ws)
survey_law limits ws ok =
    rw read_running at (survey_reads 2 (omega arith) limits ws ok λ n issued few word m f. awake_as_node' f)
