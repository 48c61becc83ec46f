-- Reading and laying out a configuration undo one another: what is read is the layout of a readable configuration (`config-found`), and
-- the layout of such a configuration is read back (`config-finds`).
-- Assumes nothing.
use Prim.Native.Nat.{ℕ, zero, suc, ◌≤◌, ◌<◌}
use native.Mathlib.Omega.{arith}
use mathlib.Core.Path.{◌≡◌, refl, sym, ap, ◌∙◌}
use mathlib.Core.Bool.{Bool, true, false, ◌&&◌}
use mathlib.Core.Option.{Option, some}
use mathlib.Core.List.{List, [], ◌∷◌, ◌++◌, append_assoc, append-nil}
use lib.Dec.{T, leb, ltb}
use lib.ListN.{length}
use Rattle.sock.specs.Words.{is_word}
use Rattle.sock.specs.Layout.{words}
use Rattle.sock.specs.Reading.{Got, got, and_then, running, root, process}
use Rattle.sock.specs.Running.{as_node, run_words, run_depth, awake}
use Rattle.sock.specs.Configuration.{Limits, Engine, Config, values_words, engine_words, engines_words, encode, engines_depth, read_values, read_engine, read_engines, whole, guarded, read_config}
use Rattle.sock.proofs.Logic.{All, all_none, all_some, all_guarded, all_some_lem}
use Rattle.sock.proofs.Fits.{AllBelow, none_below, one_below, FitsEngine, FitsEngines, no_engines, one_engine, Readable}
use Rattle.sock.proofs.Reading.{split, both, tests, Holds, nothing, something, holds_then, wide_found, wide_finds, found, finds}
use Rattle.sock.proofs.Running.{awake_as_node', awake_sound, awake_root, as_node_fits, as_node_awake}

-- ---- what is read

-- at the front of the words stand k values
abbrev pub ValuesFound : ℕ → List ℕ → List ℕ → List ℕ → Type 0
ValuesFound k ws vs rest = (ws ≡ values_words vs ++ rest) × (length vs ≡ k) × AllBelow 4294967296 vs

pub values_found : (k : ℕ) (ws : List ℕ) → Holds (ValuesFound k ws) (read_values k ws)
unfolding read_values values_words
values_found zero ws = something (refl, refl, none_below)
values_found (suc k) ws =
    holds_then (wide_found ws) λ v next p.
    holds_then (values_found k next) λ vs rest q.
    something (cc, cc, one_below p.1 q.2)

module _ (d n issued : ℕ) where
  -- an engine that fits and is not too deep
  pub record EngineFound (ws : List ℕ) (e : Engine) (rest : List ℕ) : Type 0 where
    pub begins : ws ≡ engine_words e ++ rest
    pub fitting : FitsEngine n issued e
    pub shallow : run_depth e.process ≤ d

  pub engine_found : (ws : List ℕ) → Holds (EngineFound ws) (read_engine d (running n issued) ws)
  unfolding read_engine engine_words run_words run_depth
  engine_found ws =
      holds_then (values_found 32 ws) λ vs next q.
      holds_then (found d (running n issued) root next) λ m rest f.
      let same : as_node (awake m) ≡ m = awake_as_node' f.fitting in
      something
      (record {
        begins = rw same (simp append_assoc (cc f.begins));
        fitting = record { counted = q.1; bounded = q.2; sound = awake_sound f.fitting; placed = awake_root f.fitting };
        shallow = rw same f.shallow;
      })

  record EnginesFound (k : ℕ) (ws : List ℕ) (es : List Engine) (rest : List ℕ) : Type 0 where
    begins : ws ≡ engines_words es ++ rest
    counted : length es ≡ k
    fitting : FitsEngines n issued es
    shallow : engines_depth es ≤ d

  engines_found : (k : ℕ) (ws : List ℕ) → Holds (EnginesFound k ws) (read_engines d (running n issued) k ws)
  unfolding read_engines engines_words engines_depth
  engines_found zero ws = something (record { begins = refl; counted = refl; fitting = no_engines; shallow = omega arith })
  engines_found (suc k) ws =
      holds_then (engine_found ws) λ e next p.
      holds_then (engines_found k next) λ es rest q.
      something
      (record {
        begins = simp append_assoc (cc (p.begins, q.begins));
        counted = ap suc q.counted;
        fitting = one_engine p.fitting q.fitting;
        shallow = omega arith;
      })

-- nothing after the last process
pub whole_found :
    (issued : ℕ) {Q : List Engine → List ℕ → Type 0} {P : Config → Type 0} {g : Got (List Engine)} →
    ((es : List Engine) → Q es [] → P (record { issued = issued; engines = es })) →
    Holds Q g →
    All P (whole issued g)
unfolding whole
whole_found issued f nothing = all_none
whole_found issued f (something {a = es} {rest = []} q) = all_some (f es q)
whole_found issued f (something {a = es} {rest = w ∷ ws} q) = all_none

-- the tests of the two first words and the length
abbrev pub opens : Limits → ℕ → ℕ → ℕ → Bool
opens limits n issued long = ltb 0 n && leb n 8 && is_word issued && leb long limits.longest

pub record Opens (limits : Limits) (n issued long : ℕ) : Type 0 where
  pub some : 0 < n
  pub few : n ≤ 8
  pub word : issued < 65536
  pub short : long ≤ limits.longest

pub opens_tests : (limits : Limits) (n issued long : ℕ) → T (opens limits n issued long) → Opens limits n issued long
opens_tests limits n issued long t =
    let a = split (ltb 0 n && leb n 8 && is_word issued) (leb long limits.longest) t in
    let b = split (ltb 0 n && leb n 8) (is_word issued) a.0 in
    let c = split (ltb 0 n) (leb n 8) b.0 in
    omega tests

config_good :
    (limits : Limits) (n issued : ℕ) (ws : List ℕ) (es : List Engine) →
    Opens limits n issued (suc (suc (length ws))) →
    EnginesFound limits.deepest n issued n ws es [] →
    (encode (record { issued = issued; engines = es }) ≡ n ∷ issued ∷ ws) × Readable limits (record { issued = issued; engines = es })
unfolding encode
config_good limits n issued ws es o q =
    let all : engines_words es ≡ ws = sym (q.begins ∙ append-nil (engines_words es)) in
    let same : length es ≡ n = q.counted in (
      cc,
      record {
        fitting = record { some = omega arith; few = omega arith; word = o.word; engines = rw same q.fitting };
        shallow = q.shallow;
        short = rw all o.short;
      },
    )

config_reads : (limits : Limits) (ws : List ℕ) → All (λ c. (encode c ≡ ws) × Readable limits c) (read_config limits ws)
unfolding read_config
config_reads limits [] = all_none
config_reads limits (n ∷ []) = all_none
config_reads limits (n ∷ issued ∷ ws) =
    all_guarded (opens limits n issued (suc (suc (length ws)))) λ t.
    whole_found issued (λ es q. config_good limits n issued ws es (opens_tests limits n issued (suc (suc (length ws))) t) q)
    (engines_found limits.deepest n issued n ws)

pub config_found : (limits : Limits) (ws : List ℕ) (c : Config) → read_config limits ws ≡ some c → (encode c ≡ ws) × Readable limits c
config_found limits ws c e = all_some_lem (config_reads limits ws) e

-- ---- what is laid out is read back

pub values_finds : {vs : List ℕ} → AllBelow 4294967296 vs → (rest : List ℕ) → read_values (length vs) (values_words vs ++ rest) ≡ got vs rest
unfolding read_values values_words and_then
values_finds none_below rest = refl
values_finds (one_below {v} {vs} h hs) rest = rw (wide_finds v h (values_words vs ++ rest), values_finds hs rest)

module _ (d : ℕ) {n issued : ℕ} (few : n ≤ 8) (word : issued < 65536) where
  pub engine_finds :
      {e : Engine} → FitsEngine n issued e → run_depth e.process ≤ d →
      (rest : List ℕ) → read_engine d (running n issued) (engine_words e ++ rest) ≡ got e rest
  unfolding read_engine engine_words run_words run_depth and_then
  engine_finds {e} f shallow rest =
      let next : List ℕ = words (as_node e.process) ++ rest in
      let in_values : read_values 32 (values_words e.values ++ next) ≡ got e.values next = rw f.counted at (values_finds f.bounded next) in
      let in_process : process d (running n issued) root next ≡ got (as_node e.process) rest = finds d (as_node_fits few word f.sound {p = root} f.placed) shallow rest in
      rw (append_assoc, in_values, in_process, as_node_awake few word f.sound)

  engines_finds :
      {es : List Engine} → FitsEngines n issued es → engines_depth es ≤ d →
      (rest : List ℕ) → read_engines d (running n issued) (length es) (engines_words es ++ rest) ≡ got es rest
  unfolding read_engines engines_words engines_depth and_then
  engines_finds no_engines shallow rest = refl
  engines_finds (one_engine {e} {es} f fs) shallow rest =
      rw (append_assoc, engine_finds f (omega arith) (engines_words es ++ rest), engines_finds fs (omega arith) rest)

pub passed : {A : Type 0} {o : Option A} (b : Bool) → T b → guarded b o ≡ o
unfolding guarded
passed true t = refl
passed false t = absurd t

pub opens_pass : (limits : Limits) (n issued long : ℕ) → Opens limits n issued long → T (opens limits n issued long)
opens_pass limits n issued long o =
    both (ltb 0 n && leb n 8 && is_word issued) _
    (both (ltb 0 n && leb n 8) _ (both (ltb 0 n) _ (omega tests) (omega tests)) (omega tests))
    (omega tests)

pub config_finds : (limits : Limits) (c : Config) → Readable limits c → read_config limits (encode c) ≡ some c
unfolding read_config encode whole
config_finds limits c r =
    let n : ℕ = length c.engines in
    let ws : List ℕ = engines_words c.engines in
    let f = r.fitting in
    let in_engines : read_engines limits.deepest (running n c.issued) n (ws ++ []) ≡ got c.engines [] = engines_finds limits.deepest f.few f.word f.engines r.shallow [] in
    let in_words : read_engines limits.deepest (running n c.issued) n ws ≡ got c.engines [] = rw append-nil at in_engines in
    passed (opens limits n c.issued (suc (suc (length ws)))) (opens_pass limits n c.issued _ (record { some = f.some; few = f.few; word = f.word; short = r.short })) ∙ rw in_words
