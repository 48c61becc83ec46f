-- Where an enabled process is located. Every end has a position. The words from a process's position on begin with its own, and its frames put
-- back around it give the whole.
-- Assumes nothing.
use Prim.Native.Nat.{ℕ, zero, suc, ◌+◌, ◌*◌, ◌-◌, ◌≤◌, ◌<◌}
use native.Mathlib.Omega.{arith}
use mathlib.Core.Path.{◌≡◌, refl, sym, ap, ◌∙◌}
use mathlib.Core.Bool.{Bool, true, false, cond}
use mathlib.Core.Option.{Option, none, some}
use mathlib.Core.List.{List, [], ◌∷◌, ◌++◌, append_assoc, append-nil}
use lib.Dec.{T, ltb, ltb→lt, lt→ltb, nltb→le, not_T}
use lib.ListN.{length, get_or, take, drop, length-append, length-drop}
use lib.Seq.{split_at, drop-append-le, drop-append-add}
use Rattle.sock.specs.Kind
use Rattle.sock.specs.Words.{bit, head_of, name_fields}
use Rattle.sock.specs.Term.{Node, node}
use Rattle.sock.specs.Variables.{first_of, variable_words}
use Rattle.sock.specs.Layout.{exprs_words, count, words, entries_words}
use Rattle.sock.specs.Running.{Run, nil, seq, par, scope, executor, waiter, notice, act, marked_fault, scope_head, as_node, run_words, size}
use Rattle.sock.specs.Frames.{Frame, seq_frame, left_frame, right_frame, scope_frame, executor_frame, Located, here_or, past, locate}
use Rattle.sock.specs.Configuration.{Engine, Config, values_words, engine_words, engines_words, encode}
use Rattle.sock.specs.Calls.{Spot, engine_at, enabled_at}
use Rattle.sock.proofs.Fits.{FitsEngine, FitsEngines, no_engines, one_engine, FitsConfig}
use Rattle.sock.proofs.Measures.{size_seq, size_par, size_scope, size_executor, size_waiter, size_notice}
use Rattle.sock.proofs.Logic.{test_true, test_false, cond-case, All, all_none, all_some, all_some_lem, all_map, all_also, all_guarded}

-- ---- each end among what is enabled has a position that names it

-- how many ends pass a test of processes
unfoldable pub tallied : (Run → Bool) → Run → ℕ
tallied t nil = 0
tallied t (seq p q) = tallied t p
tallied t (par p q) = tallied t p + tallied t q
tallied t (scope name mark zombie h p) = tallied t p
tallied t (executor o y client serial p) = bit (t (executor o y client serial p)) + tallied t p
tallied t (waiter o x dead server serial l) = bit (t (waiter o x dead server serial l))
tallied t (notice o f client serial) = bit (t (notice o f client serial))
tallied t (act p) = 0

-- a sum above 0 has a side above 0
pub either : {A : Type 0} (m n : ℕ) → 0 < m + n → (0 < m → A) → (0 < n → A) → A
either zero n h f g = g (omega arith)
either (suc m) n h f g = f (omega arith)

bit_set : (b : Bool) → 0 < bit b → T b
bit_set true h = tt
bit_set false h = absurd (omega arith)

-- past its own words a process looks in its part
pub beyond : {A : Type 0} (own i p : ℕ) (o : A) (find : ℕ → A) → p ≡ own + i → cond (ltb p own) o (find (p - own)) ≡ find i
beyond own i p o find e =
    let out : ltb p own ≡ false = test_false (ltb p own) (not_T (ltb p own) (λ t. omega (arith, ltb→lt p own t))) in
    let rest : p - own ≡ i = omega arith in
    rw (out, rest)

pub inside : (own i p : ℕ) (l : Located) (find : ℕ → Option Located) → 0 < own → p ≡ own + i → here_or p l (past own p find) ≡ find i
unfolding here_or past
inside own i zero l find h e = absurd (omega arith)
inside own i (suc p) l find h e = beyond own i (suc p) none find e

module _ (t : Run → Bool) where
  -- a position, inside the process's words, that names a process which passes the test
  abbrev pub Position : Run → List Frame → Type 0
  Position r fs = (p : ℕ) × (p < size r) × (l : Located) × (locate r p fs ≡ some l) × T (t l.process)

  pub position : (r : Run) (fs : List Frame) → 0 < tallied t r → Position r fs
  unfolding tallied locate here_or
  position nil fs h = absurd (omega arith)
  position (seq a q) fs h =
      let (i, b, l, e, u) = position a (seq_frame q ∷ fs) h in
      (1 + i, omega (arith, size_seq a q), l, inside 1 i (1 + i) _ _ (omega arith) refl ∙ e, u)
  position (par a b) fs h =
      either (tallied t a) (tallied t b) h
      (λ m.
      let (i, w, l, e, u) = position a (left_frame b ∷ fs) m in
      (1 + i, omega (arith, size_par a b), l, inside 1 i (1 + i) _ _ (omega arith) refl ∙ rw (test_true (ltb i (size a)) (lt→ltb i (size a) w)) e, u))
      (λ m.
      let (i, w, l, e, u) = position b (right_frame a ∷ fs) m in
      let j : ℕ = size a + i in
      (1 + j, omega (arith, size_par a b), l, inside 1 j (1 + j) _ _ (omega arith) refl ∙ beyond (size a) i j _ (λ i. locate b i (right_frame a ∷ fs)) refl ∙ e, u))
  position (scope name mark zombie hs a) fs h =
      let (i, w, l, e, u) = position a (scope_frame name mark zombie hs ∷ fs) h in
      let own : ℕ = 3 + length (entries_words hs) in
      (own + i, omega (arith, size_scope name mark zombie hs a), l, inside own i (own + i) _ _ (omega arith) refl ∙ e, u)
  position (executor o y client serial a) fs h =
      either (bit (t (executor o y client serial a))) (tallied t a) h
      (λ m. (0, omega (arith, size_executor o y client serial a), record { frames = fs; process = executor o y client serial a }, refl, bit_set (t (executor o y client serial a)) m))
      (λ m.
      let (i, w, l, e, u) = position a (executor_frame o y client serial ∷ fs) m in
      let own : ℕ = 3 + length (variable_words y) in
      (own + i, omega (arith, size_executor o y client serial a), l, inside own i (own + i) _ _ (omega arith) refl ∙ e, u))
  position (waiter o x dead server serial l) fs h =
      (0, omega (arith, size_waiter o x dead server serial l), record { frames = fs; process = waiter o x dead server serial l }, refl, bit_set (t (waiter o x dead server serial l)) h)
  position (notice o f client serial) fs h =
      (0, omega (arith, size_notice o f client serial), record { frames = fs; process = notice o f client serial }, refl, bit_set (t (notice o f client serial)) h)
  position (act a) fs h = absurd (omega arith)

-- ---- what stands at a position

-- the frames around a process as they stand, no nil dropped
unfoldable pub wrap : List Frame → Run → Run
wrap [] a = a
wrap (seq_frame q ∷ fs) a = wrap fs (seq a q)
wrap (left_frame b ∷ fs) a = wrap fs (par a b)
wrap (right_frame b ∷ fs) a = wrap fs (par b a)
wrap (scope_frame name mark zombie h ∷ fs) a = wrap fs (scope name mark zombie h a)
wrap (executor_frame o y client serial ∷ fs) a = wrap fs (executor o y client serial a)

-- what is located at p of the words: its frames around it are `all`, and the words from p on begin with its own
pub record Stands (all : Run) (ws : List ℕ) (p : ℕ) (l : Located) : Type 0 where
  pub wraps : wrap l.frames l.process ≡ all
  pub rest : List ℕ
  pub begins : drop p ws ≡ run_words l.process ++ rest

pub node_size : (m : Node) → 0 < length (words m)
unfolding words
node_size (node h f es b ps) = omega arith

pub size_positive : (r : Run) → 0 < size r
unfolding size run_words
size_positive r = node_size (as_node r)

-- it ends within them
pub stands_before : {all : Run} {ws : List ℕ} {p : ℕ} {l : Located} → Stands all ws p l → p + size l.process ≤ length ws
unfolding size
stands_before {all} {ws} {p} {l} s =
    omega (arith, size_positive l.process, simp (length-append, length-drop) at (ap length s.begins))

-- more words behind, and more words before
pub stands_behind : {all : Run} {ws : List ℕ} {p : ℕ} {l : Located} (more : List ℕ) → Stands all ws p l → Stands all (ws ++ more) p l
stands_behind {all} {ws} {p} {l} more s =
    let inside : p ≤ length ws = omega (arith, stands_before s) in
    record { wraps = s.wraps; rest = s.rest ++ more; begins = rw (drop-append-le p ws more, s.begins, append_assoc) }

pub stands_after :
    {all : Run} {ws : List ℕ} {l : Located} (own : List ℕ) (p i : ℕ) → length own + i ≡ p → Stands all ws i l → Stands all (own ++ ws) p l
stands_after {ws = ws} own p i e s = record { wraps = s.wraps; rest = s.rest; begins = rw (← e, drop-append-add) s.begins }

here : (r : Run) (fs : List Frame) → Stands (wrap fs r) (run_words r) 0 (record { frames = fs; process = r })
here r fs = record { wraps = refl; rest = []; begins = sym (append-nil (run_words r)) }

here_or_lem :
    (r : Run) (fs : List Frame) (p : ℕ) {o : Option Located} →
    All (Stands (wrap fs r) (run_words r) p) o →
    All (Stands (wrap fs r) (run_words r) p) (here_or p (record { frames = fs; process = r }) o)
unfolding here_or
here_or_lem r fs zero a = all_some (here r fs)
here_or_lem r fs (suc p) a = a

past_own :
    {all : Run} {ws : List ℕ} (own : List ℕ) (n p : ℕ) {find : ℕ → Option Located} →
    length own ≡ n →
    ((i : ℕ) → All (Stands all ws i) (find i)) →
    All (Stands all (own ++ ws) p) (past n p find)
unfolding past
past_own {all} {ws} own n p e f =
    cond-case (All (Stands all (own ++ ws) p)) (ltb p n) (λ t. all_none) λ t.
    all_map (λ l. stands_after own p (p - n) (omega (arith, nltb→le p n t))) (f (p - n))

pub located : (r : Run) (p : ℕ) (fs : List Frame) → All (Stands (wrap fs r) (run_words r) p) (locate r p fs)
unfolding locate wrap size run_words as_node words exprs_words
located nil p fs = here_or_lem nil fs p all_none
located (seq a q) p fs =
    here_or_lem (seq a q) fs p (past_own (head_of Kind.seq 0 ∷ []) 1 p refl λ i. all_map (λ l. stands_behind (words q ++ [])) (located a i (seq_frame q ∷ fs)))
located (par a b) p fs =
    let all : Run = wrap fs (par a b) in
    let ws : List ℕ = run_words a ++ (run_words b ++ []) in
    here_or_lem (par a b) fs p
    (past_own (head_of Kind.par 0 ∷ []) 1 p refl λ i.
    cond-case (All (Stands all ws i)) (ltb i (size a))
    (λ t. all_map (λ l. stands_behind (run_words b ++ [])) (located a i (left_frame b ∷ fs)))
    λ t.
    all_map (λ l s. stands_after (run_words a) i (i - size a) (omega (arith, nltb→le i (size a) t)) (stands_behind [] s)) (located b (i - size a) (right_frame a ∷ fs)))
located (scope name mark zombie h a) p fs =
    let own : List ℕ = scope_head name mark zombie ∷ (marked_fault mark * 1024) ∷ count h ∷ entries_words h in
    here_or_lem (scope name mark zombie h a) fs p
    (past_own own (3 + length (entries_words h)) p (omega arith) λ i. all_map (λ l. stands_behind []) (located a i (scope_frame name mark zombie h ∷ fs)))
located (executor o y client serial a) p fs =
    here_or_lem (executor o y client serial a) fs p
    (past_own (head_of Kind.executor (name_fields o (first_of y)) ∷ (client * 8192) ∷ serial ∷ variable_words y) (3 + length (variable_words y)) p (omega arith) λ i. all_map (λ l. stands_behind []) (located a i (executor_frame o y client serial ∷ fs)))
located (waiter o x dead server serial l) p fs = here_or_lem _ fs p all_none
located (notice o f client serial) p fs = here_or_lem _ fs p all_none
located (act a) p fs = here_or_lem _ fs p all_none

module _ (r : Run) (p : ℕ) (fs : List Frame) (l : Located) (e : locate r p fs ≡ some l) where
  pub located_stands : Stands (wrap fs r) (run_words r) p l
  located_stands = all_some_lem (located r p fs) e

  pub located_wraps : wrap l.frames l.process ≡ wrap fs r
  located_wraps = located_stands.wraps

  pub located_words : (rest : List ℕ) × (drop p (run_words r) ≡ run_words l.process ++ rest)
  located_words = (located_stands.rest, located_stands.begins)

  pub located_before : p + size l.process ≤ size r
  unfolding size
  located_before = stands_before located_stands

-- ---- in a configuration

pub values_length : (vs : List ℕ) → length (values_words vs) ≡ length vs + length vs
unfolding values_words
values_length [] = refl
values_length (v ∷ vs) = omega (arith, values_length vs)

pub engines_append : (es gs : List Engine) → engines_words (es ++ gs) ≡ engines_words es ++ engines_words gs
unfolding engines_words
engines_append [] gs = refl
engines_append (e ∷ es) gs = rw (engines_append es gs) (simp append_assoc)

pub engines_split :
    (es : List Engine) (e : ℕ) (d : Engine) → e < length es →
    engines_words es ≡ engines_words (take e es) ++ (engine_words (get_or es e d) ++ engines_words (drop (suc e) es))
unfolding engines_words
engines_split es e d h = ap engines_words (split_at es e d h) ∙ engines_append (take e es) (get_or es e d ∷ drop (suc e) es)

pub engine_fits : {n issued : ℕ} {es : List Engine} (d : Engine) → FitsEngines n issued es → (e : ℕ) → e < length es → FitsEngine n issued (get_or es e d)
engine_fits d no_engines e h = absurd (omega arith)
engine_fits d (one_engine f fs) zero h = f
engine_fits d (one_engine f fs) (suc e) h = engine_fits d fs e (omega arith)

-- where the process of an engine begins
abbrev pub start_of : Config → ℕ → ℕ
start_of c e = 2 + length (engines_words (take e c.engines)) + 64

-- the words before it, and those after it
abbrev pub words_before : Config → ℕ → List ℕ
words_before c e = length c.engines ∷ c.issued ∷ engines_words (take e c.engines) ++ values_words (engine_at c e).values

abbrev pub words_after : Config → ℕ → List ℕ
words_after c e = engines_words (drop (suc e) c.engines)

regrouped : (a b c d : List ℕ) → a ++ (b ++ c ++ d) ≡ a ++ b ++ (c ++ d)
regrouped a b c d = simp append_assoc

module _ (c : Config) (e : ℕ) (h : e < length c.engines) where
  pub encode_split : encode c ≡ words_before c e ++ (run_words (engine_at c e).process ++ words_after c e)
  unfolding encode engine_words
  encode_split =
      ap (λ l. length c.engines ∷ c.issued ∷ l)
      (engines_split c.engines e _ h
      ∙ regrouped (engines_words (take e c.engines)) (values_words (engine_at c e).values) (run_words (engine_at c e).process) (words_after c e))

  pub before_length : FitsConfig c → length (words_before c e) ≡ start_of c e
  before_length f =
      let vs : List ℕ = (engine_at c e).values in
      let g : FitsEngine (length c.engines) c.issued (engine_at c e) = engine_fits _ f.engines e h in
      omega (arith, length-append (engines_words (take e c.engines)) (values_words vs), values_length vs)

-- what is found at a position of an engine's process
pub record Enabled (c : Config) (e p : ℕ) (s : Spot) : Type 0 where
  pub inside : e < length c.engines
  pub engine : s.engine ≡ e
  pub values : s.values ≡ (engine_at c e).values
  pub located : locate (engine_at c e).process p [] ≡ some (record { frames = s.frames; process = s.process })
  pub stands : Stands (engine_at c e).process (encode c) (start_of c e + p) (record { frames = s.frames; process = s.process })

pub all_equal : {A : Type 0} (o : Option A) → All (λ a. o ≡ some a) o
all_equal none = all_none
all_equal (some a) = all_some refl

enabled : (c : Config) (e p : ℕ) → FitsConfig c → All (Enabled c e p) (enabled_at c e p)
unfolding enabled_at wrap
enabled c e p f =
    all_guarded (ltb e (length c.engines)) λ t.
    let r : Run = (engine_at c e).process in
    let h : e < length c.engines = ltb→lt _ _ t in
    all_also (all_equal (locate r p [])) λ l found.
    let in_engine : Stands r (run_words r) p l = located_stands r p [] l found in
    let in_words : Stands r (words_before c e ++ (run_words r ++ words_after c e)) (start_of c e + p) l =
    stands_after (words_before c e) (start_of c e + p) p (ap (λ n. n + p) (before_length c e h f)) (stands_behind (words_after c e) in_engine) in
    all_some
    (record {
      inside = h;
      engine = refl;
      values = refl;
      located = found;
      stands = rw (encode_split c e h) in_words;
    })

pub enabled_stands : (c : Config) (e p : ℕ) (s : Spot) → FitsConfig c → enabled_at c e p ≡ some s → Enabled c e p s
enabled_stands c e p s f q = all_some_lem (enabled c e p f) q
