-- The start check refuses no translation of what has passed 1, 14 and 11 (`translation-starts`), so the call's numbers are 1, 14, 11, 8, 9 and 10 and
-- no others (`translate-tells`); and no plan's rewriting reaches the figures at which it is read (`beyond-enough`), so none is 1 for them.
-- Assumes nothing.
use Prim.Native.Nat.{ℕ, suc, ◌+◌, ◌*◌, ◌≤◌, ◌<◌}
use native.Mathlib.Omega.{arith}
use mathlib.Core.Path.{◌≡◌, refl, sym, ap, subst, ◌∙◌}
use mathlib.Core.Bool.{Bool, true, false, not, ◌&&◌}
use mathlib.Core.Option.{Option, none, some}
use mathlib.Core.List.{List, [], ◌∷◌, ◌++◌, append_assoc, append-nil}
use lib.Dec.{T, leb, eqb, eqb→eq}
use lib.ListN.{length, take, drop}
use lib.Seq.{take_at, drop_at}
use Rattle.sock.specs.Kind
use Rattle.sock.specs.Words.{kind_of}
use Rattle.sock.specs.Term.{Node, kind}
use Rattle.sock.specs.Layout.{words, depth}
use Rattle.sock.specs.Reading.{Got, got, running, code, root}
use Rattle.sock.specs.Running.{as_node, awake, run_words, run_depth}
use Rattle.sock.specs.Configuration.{Limits, Engine, Config, standard, values_words, engine_words, engines_words, encode, engines_depth, read_engine, read_engines, read_config, is_scope, fresh_run, fresh_engines, fresh}
use Rattle.sock.specs.Calls as calls
use Rattle.sock.specs.Calls.{unreadable, deep, long, short, not_fresh, start}
use Rattle.sock.proofs.Logic.{and_left, and_right, and_both, test_true, true_test, All, all_guarded, all_some_lem}
use Rattle.sock.proofs.Fits.{AllBelow, Fits, FitsEngines, no_engines, one_engine, Readable}
use Rattle.sock.proofs.Reading.{Holds, something, holds_then, found}
use Rattle.sock.proofs.ByKind.{kind_as_node, scoped_kind}
use Rattle.sock.proofs.Running.{awake_as_node', awake_sound, awake_root}
use Rattle.sock.proofs.Configuration.{values_found, whole_found, opens, Opens, opens_tests, config_found, config_finds}
use Rattle.sock.proofs.Inside.{within_fits, fits_read}
use Rattle.reading.proofs.Resting.{fresh_fits, code_runs, code_awake}
use Rattle.planning.specs.Plan.{plan, Planned, Plan, planned_words, plan_words, read_plan}
use Rattle.planning.specs.Translation.{rewritten, engines_rewritten, plan_rewritten, translated, stand_in, engines_captured}
use Rattle.planning.specs.Call.{Refusal, plain, fixed_ch, Result, refused, done, ◌>>=◌, ◌>>◌, ◌!◌, ◌unless◌, from, beyond, translate}
use Rattle.planning.proofs.Layouts.{FitsPlan, plan_reads, fits_plan}
use Rattle.planning.proofs.Growth.{PlansFit, no_plans, one_plan, read_plan_lem, plan_few}
use Rattle.planning.proofs.Resting.{head_same, code_fits, depth_grows, Joins, by_par, rewritten_plan}

-- ---- the engines that are read

cut : (a b x y : List ℕ) → length a ≡ length b → a ++ x ≡ b ++ y → (a ≡ b) × (x ≡ y)
cut a b x y e q = (
  sym (take_at a x (length b) e) ∙ ap (take (length b)) q ∙ take_at b y (length b) refl,
  sym (drop_at a x (length b) e) ∙ ap (drop (length b)) q ∙ drop_at b y (length b) refl,
)

values_length : (vs : List ℕ) → length (values_words vs) ≡ length vs * 2
unfolding values_words
values_length [] = refl
values_length (v ∷ vs) = omega (arith, values_length vs)

got_same : {A : Type 0} {a b : A} {x y : List ℕ} → ◌≡◌ {A = Got A} (got a x) (got b y) → (a ≡ b) × (x ≡ y)
got_same e = (cc, cc)

module _ (n issued : ℕ) where
  -- an engine that is read from one that is planned: the values and the process are the same
  pub record Root (e : Planned) (c : Engine) : Type 0 where
    pub values : e.values ≡ values_words c.values
    pub counted : length c.values ≡ 32
    pub bounded : AllBelow 4294967296 c.values
    pub fitting : Fits (running n issued) root e.process
    pub awakes : c.process ≡ awake e.process

  pub data Roots : List Planned → List Engine → Type 0 where
    no_roots : Roots [] []
    one_root : {e : Planned} {es : List Planned} {c : Engine} {cs : List Engine} → Root e c → Roots es cs → Roots (e ∷ es) (c ∷ cs)

  root_found :
      (d deepest : ℕ) (e : Planned) → length e.values ≡ 64 → FitsPlan e.process → depth e.process ≤ deepest → (more : List ℕ) →
      Holds (λ c r. Root e c × (r ≡ more)) (read_engine d (running n issued) (e.values ++ (words e.process ++ more)))
  unfolding read_engine
  root_found d deepest e v f s more =
      holds_then (values_found 32 (e.values ++ (words e.process ++ more))) λ vs next q.
      holds_then (found d (running n issued) root next) λ m r g.
      let (same, rest) = cut e.values (values_words vs) (words e.process ++ more) next (omega (arith, v, values_length vs, q.1)) q.0 in
      let one : plan (deepest + d) next ≡ got e.process more = ap (plan (deepest + d)) (sym rest) ∙ plan_reads (deepest + d) e.process f (omega arith) more in
      let other : plan (deepest + d) next ≡ got m r = ap (plan (deepest + d)) g.begins ∙ plan_reads (deepest + d) m (fits_plan g.fitting) (omega (arith, g.shallow)) r in
      let (node_same, rest-same) = got_same (sym other ∙ one) in
      something (
        record { values = same; counted = q.1; bounded = q.2; fitting = subst (λ k. Fits (running n issued) root k) node_same g.fitting; awakes = ap awake node_same },
        rest-same,
      )

  roots_found :
      (d deepest : ℕ) {es : List Planned} → PlansFit deepest es → (rest : List ℕ) →
      Holds (λ cs r. Roots es cs × (r ≡ rest)) (read_engines d (running n issued) (length es) (planned_words es ++ rest))
  unfolding read_engines planned_words
  roots_found d deepest no_plans rest = something (no_roots, refl)
  roots_found d deepest (one_plan {e} {es} v f s fs) rest =
      let all : (e.values ++ (words e.process ++ planned_words es)) ++ rest ≡ e.values ++ (words e.process ++ (planned_words es ++ rest)) = three e.values (words e.process) (planned_words es) rest in
      rw all
      (holds_then (root_found d deepest e v f s (planned_words es ++ rest)) λ c next q.
      rw q.1 (holds_then (roots_found d deepest fs rest) λ cs r z. something (one_root q.0 z.0, z.1)))
    where
      three : (a b c rest : List ℕ) → (a ++ (b ++ c)) ++ rest ≡ a ++ (b ++ (c ++ rest))
      three a b c rest = simp append_assoc

-- ---- the configuration that is read

record Stands (limits : Limits) (p : Plan) (c : Config) : Type 0 where
  opened : Opens limits (length p.engines) p.issued (length (plan_words p))
  issued : c.issued ≡ p.issued
  roots : Roots (length p.engines) p.issued p.engines c.engines

stands_all : (limits : Limits) (deepest : ℕ) (p : Plan) → PlansFit deepest p.engines → All (Stands limits p) (read_config limits (plan_words p))
unfolding read_config plan_words
stands_all limits deepest p f =
    all_guarded (opens limits (length p.engines) p.issued (suc (suc (length (planned_words p.engines))))) λ t.
    whole_found p.issued
    (λ es q. record { opened = opens_tests limits (length p.engines) p.issued (suc (suc (length (planned_words p.engines)))) t; issued = refl; roots = q.0 })
    (rw append-nil at (roots_found (length p.engines) p.issued limits.deepest deepest f []))

stands : (limits : Limits) (deepest : ℕ) (p : Plan) {c : Config} → PlansFit deepest p.engines → read_config limits (plan_words p) ≡ some c → Stands limits p c
stands limits deepest p f e = all_some_lem (stands_all limits deepest p f) e

-- ---- rewritings

engines_fit : {head : ℕ} {es : List Planned} → Joins head → PlansFit 64 es → PlansFit 320 (engines_rewritten head es)
unfolding engines_rewritten
engines_fit j no_plans = no_plans
engines_fit {head} j (one_plan v f s fs) = one_plan v (rewritten_plan j f) (omega (arith, depth_grows head f)) (engines_fit j fs)

engines_long : (head : ℕ) (es : List Planned) → length (engines_rewritten head es) ≡ length es
unfolding engines_rewritten
engines_long head [] = refl
engines_long head (e ∷ es) = ap suc (engines_long head es)

-- the depths of what is read are those of what is planned
roots_depth : {n issued d : ℕ} {es : List Planned} {cs : List Engine} → PlansFit d es → Roots n issued es cs → engines_depth cs ≤ d
unfolding engines_depth run_depth
roots_depth no_plans no_roots = omega arith
roots_depth (one_plan v f s fs) (one_root {e} {c = c} r rs) =
    let same : as_node c.process ≡ e.process = ap as_node r.awakes ∙ awake_as_node' r.fitting in
    omega (arith, roots_depth fs rs, ap depth same)

-- Whatever figures a plan's rewriting is read at, it is read at `beyond`
pub beyond_enough :
    (ws : List ℕ) (p : Plan) {head : ℕ} → Joins head → read_plan standard ws ≡ some p → (limits : Limits) {c : Config} →
    read_config limits (plan_words (plan_rewritten head p)) ≡ some c → read_config beyond (plan_words (plan_rewritten head p)) ≡ some c
unfolding plan_rewritten
beyond_enough ws p {head} j e limits {c} q =
    let r = read_plan_lem standard ws e in
    let f = engines_fit j r.engines in
    let few = plan_few head standard ws p e in
    let s = stands limits 320 (plan_rewritten head p) f q in
    let same = (config_found limits (plan_words (plan_rewritten head p)) c q).0 in
    fits_read beyond limits (plan_words (plan_rewritten head p)) q
    (within_fits beyond c (omega (arith, roots_depth f s.roots)) (omega (arith, r.short, few, ap length same)))

-- ---- the translation starts

scope_tells : {n issued : ℕ} {m : Node} → Fits (running n issued) root m → is_scope (awake m) ≡ eqb (kind m) Kind.scope
scope_tells f = scoped_kind (awake_sound f) ∙ ap (λ k. eqb k Kind.scope) (sym (kind_as_node (awake_sound f)) ∙ ap kind (awake_as_node' f))

record Begins (n : ℕ) (es : List Planned) (ts : List Engine) : Type 0 where
  counted : length ts ≡ length es
  laid : planned_words (engines_rewritten 4096 es) ≡ engines_words ts
  fitting : FitsEngines n 0 ts
  shallow : engines_depth ts ≤ 320
  begun : T (fresh_engines ts)

module _ (n : ℕ) (few : n ≤ 8) where
  zero_word : 0 < 65536
  zero_word = omega arith

  begins_next :
      {e : Planned} {es : List Planned} {c : Engine} {ts : List Engine} → FitsPlan e.process → depth e.process ≤ 64 →
      Root n 0 (record { values = e.values; process = rewritten 6144 e.process }) c → T (is_scope c.process && fresh_run c.process) → Begins n es ts →
      Begins n (e ∷ es) (record { values = c.values; process = awake (rewritten 4096 e.process) } ∷ ts)
  unfolding engines_rewritten planned_words engines_words engine_words run_words engines_depth run_depth fresh_engines
  begins_next {e} {es} {c} {ts} f s r t b =
      let one : Node = rewritten 6144 e.process in
      let other : Node = rewritten 4096 e.process in
      let begun : T (is_scope (awake one) && fresh_run (awake one)) = subst (λ k. T (is_scope k && fresh_run k)) r.awakes t in
      let rests : Fits (code false) root other = code_fits f (fresh_fits r.fitting (and_right (is_scope (awake one)) (fresh_run (awake one)) begun)) in
      let runs : Fits (running n 0) root other = code_runs few zero_word rests in
      let same : as_node (awake other) ≡ other = awake_as_node' runs in
      let scopes : T (is_scope (awake other)) =
      subst T (scope_tells r.fitting ∙ ap (λ h. eqb (kind_of h) Kind.scope) (head_same 6144 4096 f) ∙ sym (scope_tells runs)) (and_left (is_scope (awake one)) (fresh_run (awake one)) begun) in
      record {
        counted = ap suc b.counted;
        laid = ap (λ l. e.values ++ (words other ++ l)) b.laid ∙ sym (append_assoc e.values (words other) (engines_words ts)) ∙ ap (λ l. (l ++ words other) ++ engines_words ts) r.values ∙ ap (λ k. (values_words c.values ++ words k) ++ engines_words ts) (sym same);
        fitting = one_engine (record { counted = r.counted; bounded = r.bounded; sound = awake_sound runs; placed = awake_root runs }) b.fitting;
        shallow = omega (arith, b.shallow, ap depth same, depth_grows 4096 f);
        begun = and_both (is_scope (awake other) && fresh_run (awake other)) (fresh_engines ts) (and_both (is_scope (awake other)) (fresh_run (awake other)) scopes (code_awake few zero_word rests)) b.begun;
      }

  begins : {es : List Planned} {cs : List Engine} → PlansFit 64 es → Roots n 0 (engines_rewritten 6144 es) cs → T (fresh_engines cs) → (ts : List Engine) × Begins n es ts
  unfolding engines_rewritten fresh_engines planned_words engines_words engines_depth
  begins no_plans no_roots t = ([], record { counted = refl; laid = refl; fitting = no_engines; shallow = omega arith; begun = tt })
  begins (one_plan v f s fs) (one_root {c = c} {cs} r rs) t =
      let first = and_left (is_scope c.process && fresh_run c.process) (fresh_engines cs) t in
      let (ts, b) = begins fs rs (and_right (is_scope c.process && fresh_run c.process) (fresh_engines cs) t) in
      (_, begins_next f s r first b)

-- What has passed 1, 14 and 11 is translated into a start
pub translation_starts :
    (ws : List ℕ) (p : Plan) (c : Config) → read_plan standard ws ≡ some p → read_config beyond (plan_words (stand_in p)) ≡ some c → fresh c ≡ true →
    (t : Config) × (start beyond (plan_words (translated p)) ≡ calls.done t)
unfolding plan_rewritten plan_words fresh encode start calls.◌!◌ calls.◌>>=◌ calls.◌>>◌ calls.◌unless◌
translation_starts ws p c e q f =
    let r = read_plan_lem standard ws e in
    let s = stands beyond 320 (stand_in p) (engines_fit by_par r.engines) q in
    let tests : T (eqb c.issued 0 && fresh_engines c.engines) = true_test f in
    let none_issued : p.issued ≡ 0 = sym s.issued ∙ eqb→eq c.issued 0 (and_left (eqb c.issued 0) (fresh_engines c.engines) tests) in
    let n : ℕ = length p.engines in
    let same : length (engines_rewritten 6144 p.engines) ≡ n = engines_long 6144 p.engines in
    let few : n ≤ 8 = omega (arith, s.opened.few, same) in
    let roots : Roots n 0 (engines_rewritten 6144 p.engines) c.engines =
    subst (λ k. Roots k 0 (engines_rewritten 6144 p.engines) c.engines) same
    (subst (λ k. Roots (length (engines_rewritten 6144 p.engines)) k (engines_rewritten 6144 p.engines) c.engines) none_issued s.roots) in
    let (ts, b) = begins n few r.engines roots (and_right (eqb c.issued 0) (fresh_engines c.engines) tests) in
    let t : Config = record { issued = 0; engines = ts } in
    let laid : plan_words (translated p) ≡ encode t =
    ap (λ k. k ∷ p.issued ∷ planned_words (engines_rewritten 4096 p.engines)) (engines_long 4096 p.engines ∙ sym b.counted)
    ∙ ap (λ k. length ts ∷ k ∷ planned_words (engines_rewritten 4096 p.engines)) none_issued
    ∙ ap (λ l. length ts ∷ 0 ∷ l) b.laid in
    let readable : Readable beyond t =
    record {
      fitting = record { some = omega (arith, s.opened.some, same, b.counted); few = omega (arith, few, b.counted); word = omega arith; engines = subst (λ k. FitsEngines k 0 ts) (sym b.counted) b.fitting };
      shallow = omega (arith, b.shallow);
      short = omega (arith, plan_few 4096 standard ws p e, r.short, ap length laid);
    } in
    let reads : read_config beyond (plan_words (translated p)) ≡ some t = ap (read_config beyond) laid ∙ config_finds beyond t readable in
    (t, rw (reads, test_true (fresh_engines ts) b.begun) refl)

-- ---- the numbers

-- 1, 14, 11, 8, 9, 10
pub data Told : Refusal → Type 0 where
  told_unreadable : Told (plain unreadable)
  told_fixed_ch : Told fixed_ch
  told_not_fresh : Told (plain not_fresh)
  told_deep : Told (plain deep)
  told_long : Told (plain long)
  told_short : Told (plain short)

data Tells : Result Config → Type 0 where
  tells : {r : Refusal} → Told r → Tells (refused r)
  gives : {t : Config} → Tells (done t)

unless_tells : {r : Refusal} {k : Result Config} (b : Bool) → Told r → (b ≡ true → Tells k) → Tells (◌>>◌ (r unless b) k)
unfolding ◌>>◌ ◌unless◌
unless_tells true t f = f refl
unless_tells false t f = tells t

all_tell : (ws : List ℕ) (room : ℕ) → Tells (translate standard ws room)
unfolding translate ◌!◌ ◌>>=◌ from
all_tell ws room = by (read_plan standard ws) refl
  where
    later : (t : Config) → Tells (◌>>◌ (plain deep unless leb (engines_depth t.engines) 64) (◌>>◌ (plain long unless leb (length (encode t)) 8192) (◌>>◌ (plain short unless leb (length (encode t)) room) (done t))))
    later t = unless_tells _ told_deep λ d. unless_tells _ told_long λ l. unless_tells _ told_short λ s. gives

    of : (p : Plan) → read_plan standard ws ≡ some p → (o : Option Config) → read_config beyond (plan_words (stand_in p)) ≡ o →
        Tells
        (unreadable ! o >>= λ c.
        ◌>>◌ (fixed_ch unless not (engines_captured p.engines))
        (◌>>◌ (plain not_fresh unless fresh c)
        (from (start beyond (plan_words (translated p))) >>= λ t.
        ◌>>◌ (plain deep unless leb (engines_depth t.engines) 64) (◌>>◌ (plain long unless leb (length (encode t)) 8192) (◌>>◌ (plain short unless leb (length (encode t)) room) (done t))))))
    of p e none q = tells told_unreadable
    of p e (some c) q =
        unless_tells _ told_fixed_ch λ u.
        unless_tells _ told_not_fresh λ f.
        let (t, s) = translation_starts ws p c e q f in
        rw s (later t)

    by : (o : Option Plan) → read_plan standard ws ≡ o →
        Tells
        (unreadable ! o >>= λ p.
        unreadable ! read_config beyond (plan_words (stand_in p)) >>= λ c.
        ◌>>◌ (fixed_ch unless not (engines_captured p.engines))
        (◌>>◌ (plain not_fresh unless fresh c)
        (from (start beyond (plan_words (translated p))) >>= λ t.
        ◌>>◌ (plain deep unless leb (engines_depth t.engines) 64) (◌>>◌ (plain long unless leb (length (encode t)) 8192) (◌>>◌ (plain short unless leb (length (encode t)) room) (done t))))))
    by none e = tells told_unreadable
    by (some p) e = of p e (read_config beyond (plan_words (stand_in p))) refl

told : {x : Result Config} {r : Refusal} → Tells x → x ≡ refused r → Told r
told {r = r} (tells {r = f} t) e = let same : f ≡ r = cc in subst Told same t
told gives e = absurd (let z : ◌≡◌ {A = ℕ} 0 1 = cc in omega arith)

-- The call refuses with 1, 14, 11, 8, 9 or 10 and no other number
pub translate_tells : (ws : List ℕ) (room : ℕ) {r : Refusal} → translate standard ws room ≡ refused r → Told r
translate_tells ws room e = told (all_tell ws room) e
