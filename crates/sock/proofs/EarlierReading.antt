-- The earlier reader: what it reads fits, has one variable in each list and is laid out so; and what is laid out so is read back.
-- Assumes nothing.
use Prim.Native.Nat.{ℕ, zero, suc, ◌≤◌, ◌<◌}
use native.Mathlib.Omega.{arith}
use mathlib.Core.Path.{◌≡◌, refl, sym, subst, ap, ◌∙◌}
use mathlib.Core.Bool.{Bool, ◌&&◌}
use mathlib.Core.Option.{some}
use mathlib.Core.List.{List, [], ◌∷◌, ◌++◌, append_assoc, append-nil}
use lib.Dec.{leb, eqb}
use lib.ListN.{length, get_or, drop}
use Rattle.sock.specs.Kind
use Rattle.sock.specs.Kind.{Own, word, variables, row_of}
use Rattle.sock.specs.Words.{is_word, clear, kind_of, key_of, key_word}
use Rattle.sock.specs.Variables.{first_of}
use Rattle.sock.specs.Term.{Node, node, Block, Entries, Nodes, processes_of}
use Rattle.sock.specs.Layout.{exprs_words, count, depth, block_depth, entries_depth, nodes_depth}
use Rattle.sock.specs.Reading.{Got, got, and_then, Stratum, running, Place, anywhere, root, head_fits, node_fits, entry_fits, entry_stratum, expr, entries, block}
use Rattle.sock.specs.Running.{as_node, run_depth, awake}
use Rattle.sock.specs.Configuration.{Limits, Engine, Config, values_words, engines_depth, read_values, whole}
use Rattle.sock.specs.Earlier.{earlier_own, earlier_process, earlier_engine, earlier_engines, earlier_config, uncounted, earlier_words, earlier_block, earlier_entries, earlier_nodes, earlier_engines_words, earlier_encode}
use Rattle.sock.proofs.PartsTable.{parts_same}
use Rattle.sock.proofs.Parts.{part_stratum, part_place, parts, part_by}
use Rattle.sock.proofs.Logic.{All, all_none, all_guarded, all_some_lem}
use Rattle.sock.proofs.Fits.{no_further, FitsFixed, no_fixed, one_fixed, some_variables, Fits, fits, FitsBlock, no_list, a_list, FitsEntries, empty_fits, entry_fits_on, FitsParts, no_part, one_part, FitsEngine, FitsEngines, no_engines, one_engine, FitsConfig}
use Rattle.sock.proofs.Reading.{split, both, tests, Holds, nothing, something, holds_then, holds_check, passes, Takes, expr_found, exprs_found, expr_finds, exprs_finds, in_order}
use Rattle.sock.proofs.Running.{awake_as_node', awake_sound, awake_root, as_node_fits, as_node_awake}
use Rattle.sock.proofs.Configuration.{values_found, values_finds, whole_found, opens, Opens, opens_tests, opens_pass, passed}
use Rattle.sock.proofs.Nodes.{further_length}
use Rattle.sock.proofs.Kept.{nil_kept}
use Rattle.sock.proofs.KeptSteps.{no_engine}
use Rattle.sock.proofs.Singles.{OneEach, no_own, a_word, a_variable, Single, single, SingleBlock, absent_single, list_single, SingleEntries, empty_single, entry_single, SingleNodes, none_single, part_single, SingleRun, SingleConfig, as_node_single, single_as_node}

-- ---- what is read

own_found : (os : List Own) (ws : List ℕ) → Holds (Takes (uncounted os) (λ f. FitsFixed os f × OneEach os f) ws) (earlier_own os ws)
unfolding earlier_own uncounted
own_found [] ws = something (refl, (no_fixed, no_own))
own_found (word m ∷ os) [] = nothing
own_found (word m ∷ os) (w ∷ ws) =
    holds_check _ λ t. holds_then (own_found os ws) λ f rest q. something (ap (λ l. w ∷ l) q.0, (one_fixed t q.1.0, a_word q.1.1))
own_found (variables ∷ os) ws =
    holds_then (own_found os ws) λ f rest q. something (q.0, (some_variables {c = 1} {v = []} tt no_further q.1.0, a_variable q.1.1))

record Found (d : ℕ) (s : Stratum) (p : Place) (ws : List ℕ) (n : Node) (rest : List ℕ) : Type 0 where
  begins : ws ≡ earlier_words n ++ rest
  fitting : Fits s p n
  shallow : depth n ≤ d
  alone : Single n

record EntriesFound (d : ℕ) (ofScope : Bool) (n least : ℕ) (l : Entries) : Type 0 where
  fitting : FitsEntries ofScope least l
  counted : count l ≡ n
  shallow : entries_depth l ≤ d
  alone : SingleEntries l

module _
    (d : ℕ) (ofScope : Bool) (sub : List ℕ → Got Node) (below : (ws : List ℕ) → Holds (Found d (entry_stratum ofScope) anywhere ws) (sub ws))
  where
    entries_found : (n least : ℕ) (ws : List ℕ) → Holds (Takes earlier_entries (EntriesFound d ofScope n least) ws) (entries sub ofScope n least ws)
    unfolding entries count earlier_words depth
    entries_found zero least ws = something (refl, record { fitting = empty_fits; counted = refl; shallow = omega arith; alone = empty_single })
    entries_found (suc n) least [] = nothing
    entries_found (suc n) least (w ∷ ws) =
        holds_check _ λ t.
        holds_then (below ws) λ p then f.
        holds_check _ λ good.
        holds_then (entries_found n _ then) λ es rest q.
        let t = split (is_word w && clear 512 w) (leb least (key_of w)) t in
        let u = split (is_word w) (clear 512 w) t.0 in
        let same : w ≡ key_word (key_of w) = omega tests in
        something {rest = rest} (
          simp append_assoc (cc f.begins),
          record {
            fitting = entry_fits_on (omega tests) (omega tests) good f.fitting q.1.fitting;
            counted = omega (arith, q.1.counted);
            shallow = omega (arith, f.shallow, q.1.shallow);
            alone = entry_single f.alone q.1.alone;
          },
        )

    block_found : (n : ℕ) (ws : List ℕ) → Holds (Takes earlier_block (λ b. FitsBlock ofScope n b × (block_depth b ≤ d) × SingleBlock b) ws) (block sub ofScope n ws)
    unfolding block earlier_words depth
    block_found zero ws = something (refl, (no_list, omega arith, absent_single))
    block_found (suc n) [] = nothing
    block_found (suc n) (c ∷ ws) =
        holds_then (entries_found c 0 ws) λ l rest q. something (cc q.1.counted, (a_list q.1.fitting, omega (arith, q.1.shallow), list_single q.1.alone))

module _
    (d : ℕ) (s : Stratum) (k : ℕ) (sub : ℕ → List ℕ → Got Node)
    (below : (left : ℕ) (ws : List ℕ) → Holds (Found d (part_stratum s k left) (part_place k left) ws) (sub left ws))
  where
    parts_found : (n : ℕ) (ws : List ℕ) → Holds (Takes earlier_nodes (λ ps. FitsParts s k n ps × (nodes_depth ps ≤ d) × SingleNodes ps) ws) (parts sub n ws)
    unfolding parts earlier_words depth
    parts_found zero ws = something (refl, (no_part, omega arith, none_single))
    parts_found (suc n) ws =
        holds_then (below n ws) λ p then f.
        holds_then (parts_found n then) λ ps rest q.
        something (simp append_assoc (cc f.begins), (one_part f.fitting q.1.0, omega (arith, f.shallow, q.1.1), part_single f.alone q.1.2))

found : (d : ℕ) (s : Stratum) (p : Place) (ws : List ℕ) → Holds (Found d s p ws) (earlier_process d s p ws)
unfolding earlier_process part_by earlier_words depth
found zero s p ws = nothing
found (suc d) s p [] = nothing
found (suc d) s p (h ∷ ws) =
    let k : ℕ = kind_of h in
    let o : Bool = eqb k Kind.scope in
    holds_check _ λ t.
    holds_then (own_found (row_of k).fixed ws) λ f w1 q1.
    holds_then (exprs_found d (expr d) (expr_found d) (row_of k).expressions w1) λ es w2 q2.
    holds_then (block_found d o _ (λ l. found d (entry_stratum o) anywhere l) (row_of k).lists w2) λ b w3 q3.
    rw (parts_same (earlier_process d) s h w3)
    (holds_then (parts_found d s k _ (λ left l. found d (part_stratum s k left) (part_place k left) l) (processes_of h) w3) λ ps rest q4.
    holds_check _ λ good.
    something
    (record {
      begins = simp append_assoc (cc);
      fitting = fits t q1.1.0 q2.1.0 q3.1.0 q4.1.0 good;
      shallow = omega (arith, q2.1.1, q3.1.1, q4.1.1);
      alone = single q1.1.1 q3.1.2 q4.1.2;
    }))

-- ---- what is laid out is read back

-- behind a count of 1 nothing further stands
rest_fits : {os : List Own} {g : List ℕ} → FitsFixed (variables ∷ os) g → (f : List ℕ) → g ≡ 1 ∷ f → FitsFixed os f
rest_fits (some_variables {c = c} {v = v} {f = f'} t u h) f e =
    let one : c ≡ 1 = ap first_of e in
    let none : length v ≡ 0 = omega (arith, further_length u) in
    subst (FitsFixed _) (sym (alone v none) ∙ ap (drop 1) e) h
  where
    alone : (v : List ℕ) → length v ≡ 0 → v ++ f' ≡ f'
    alone [] z = refl
    alone (w ∷ v) z = absurd (omega arith)

own_finds : {os : List Own} {f : List ℕ} → OneEach os f → FitsFixed os f → (rest : List ℕ) → earlier_own os (uncounted os f ++ rest) ≡ got f rest
unfolding earlier_own uncounted and_then
own_finds no_own g rest = refl
own_finds (a_word o) (one_fixed t g) rest = passes _ t (rw (own_finds o g rest))
own_finds (a_variable {f = f} o) g rest = rw (own_finds o (rest_fits g f refl) rest)

abbrev FindsNode : ℕ → Stratum → Place → (List ℕ → Got Node) → Type 0
FindsNode d s p sub = (n : Node) → Fits s p n → Single n → depth n ≤ d → (rest : List ℕ) → sub (earlier_words n ++ rest) ≡ got n rest

module _ (d : ℕ) (ofScope : Bool) (sub : List ℕ → Got Node) (below : FindsNode d (entry_stratum ofScope) anywhere sub) where
  entries_finds :
      {least : ℕ} {l : Entries} → FitsEntries ofScope least l → SingleEntries l → entries_depth l ≤ d →
      (rest : List ℕ) → entries sub ofScope (count l) least (earlier_entries l ++ rest) ≡ got l rest
  unfolding entries count earlier_words depth and_then
  entries_finds empty_fits empty_single shallow rest = refl
  entries_finds (entry_fits_on {least} {k} {p} {es} low high good f fs) (entry_single s ss) shallow rest =
      let w : ℕ = key_word k in
      let same : key_of w ≡ k = omega arith in
      rw same
      (passes (is_word w && clear 512 w && leb least k) (both (is_word w && clear 512 w) _ (both (is_word w) _ (omega tests) (omega tests)) (omega tests))
      (rw (append_assoc (earlier_words p) (earlier_entries es) rest, below p f s (omega arith) (earlier_entries es ++ rest))
      (passes (entry_fits ofScope k p) good (rw (entries_finds fs ss (omega arith) rest)))))

  block_finds :
      {n : ℕ} {b : Block} → FitsBlock ofScope n b → SingleBlock b → block_depth b ≤ d → (rest : List ℕ) → block sub ofScope n (earlier_block b ++ rest) ≡ got b rest
  unfolding block earlier_words depth and_then
  block_finds no_list absent_single shallow rest = refl
  block_finds (a_list f) (list_single s) shallow rest = rw (entries_finds f s (omega arith) rest)

module _
    (d : ℕ) (s : Stratum) (k : ℕ) (sub : ℕ → List ℕ → Got Node) (below : (left : ℕ) → FindsNode d (part_stratum s k left) (part_place k left) (sub left))
  where
    parts_finds : {n : ℕ} {ps : Nodes} → FitsParts s k n ps → SingleNodes ps → nodes_depth ps ≤ d → (rest : List ℕ) → parts sub n (earlier_nodes ps ++ rest) ≡ got ps rest
    unfolding parts earlier_words depth and_then
    parts_finds no_part none_single shallow rest = refl
    parts_finds (one_part {n = left} {p} {ps} f fs) (part_single s ss) shallow rest =
        rw (append_assoc, below left p f s (omega arith) (earlier_nodes ps ++ rest), parts_finds fs ss (omega arith) rest)

finds : (d : ℕ) (s : Stratum) (p : Place) → FindsNode d s p (earlier_process d s p)
unfolding earlier_process part_by earlier_words depth and_then
finds zero s p (node h f es b ps) fit alone shallow rest = absurd (omega arith)
finds (suc d) s p (node h f es b ps) (fits t fs ess bs pss good) (single a1 a2 a3) shallow rest =
    let k : ℕ = kind_of h in
    let o : Bool = eqb k Kind.scope in
    let own : List ℕ = uncounted (row_of k).fixed f in
    let w3 : List ℕ = earlier_nodes ps ++ rest in
    let w2 : List ℕ = earlier_block b ++ w3 in
    let w1 : List ℕ = exprs_words es ++ w2 in
    let inExprs = exprs_finds d (expr d) (expr_finds d) ess (omega arith) w2 in
    let inList = block_finds d o (earlier_process d (entry_stratum o) anywhere) (finds d (entry_stratum o) anywhere) bs a2 (omega arith) w3 in
    let in_parts = parts_finds d s k (part_by (earlier_process d) s k) (λ left. finds d (part_stratum s k left) (part_place k left)) pss a3 (omega arith) rest in
    passes (head_fits s p h) t
    (rw (in_order own (exprs_words es) (earlier_block b) (earlier_nodes ps) rest, own_finds a1 fs w1, inExprs, inList, parts_same (earlier_process d) s h w3, in_parts) (passes (node_fits s h f b) good refl))

-- ---- configurations

-- what an earlier configuration is
pub record Earlier (limits : Limits) (c : Config) : Type 0 where
  pub fitting : FitsConfig c
  pub alone : SingleConfig c
  pub shallow : engines_depth c.engines ≤ limits.deepest
  pub short : length (earlier_encode c) ≤ limits.longest

module _ (d n issued : ℕ) where
  record EngineFound (ws : List ℕ) (e : Engine) (rest : List ℕ) : Type 0 where
    begins : ws ≡ (values_words e.values ++ earlier_words (as_node e.process)) ++ rest
    fitting : FitsEngine n issued e
    shallow : run_depth e.process ≤ d
    alone : SingleRun e.process

  engine_found : (ws : List ℕ) → Holds (EngineFound ws) (earlier_engine d (running n issued) ws)
  unfolding earlier_engine run_depth
  engine_found ws =
      holds_then (values_found 32 ws) λ vs next q.
      holds_then (found d (running n issued) root next) λ m rest f.
      let same : as_node (awake m) ≡ m = awake_as_node' f.fitting in
      something
      (record {
        begins = rw same (simp append_assoc (cc f.begins));
        fitting = record { counted = q.1; bounded = q.2; sound = awake_sound f.fitting; placed = awake_root f.fitting };
        shallow = rw same f.shallow;
        alone = single_as_node (awake_sound f.fitting) (rw same f.alone);
      })

  record EnginesFound (k : ℕ) (ws : List ℕ) (es : List Engine) (rest : List ℕ) : Type 0 where
    begins : ws ≡ earlier_engines_words es ++ rest
    counted : length es ≡ k
    fitting : FitsEngines n issued es
    shallow : engines_depth es ≤ d
    alone : (i : ℕ) → SingleRun (get_or es i no_engine).process

  engines_found : (k : ℕ) (ws : List ℕ) → Holds (EnginesFound k ws) (earlier_engines d (running n issued) k ws)
  unfolding earlier_engines earlier_engines_words engines_depth
  engines_found zero ws = something (record { begins = refl; counted = refl; fitting = no_engines; shallow = omega arith; alone = λ i. nil_kept })
  engines_found (suc k) ws =
      holds_then (engine_found ws) λ e next p.
      holds_then (engines_found k next) λ es rest q.
      let own : List ℕ = values_words e.values ++ earlier_words (as_node e.process) in
      something
      (record {
        begins = p.begins ∙ ap (λ l. own ++ l) q.begins ∙ sym (append_assoc own (earlier_engines_words es) rest);
        counted = ap suc q.counted;
        fitting = one_engine p.fitting q.fitting;
        shallow = omega (arith, p.shallow, q.shallow);
        alone = each e es p.alone q.alone;
      })
    where
      each :
          (e : Engine) (es : List Engine) → SingleRun e.process → ((i : ℕ) → SingleRun (get_or es i no_engine).process) →
          (i : ℕ) → SingleRun (get_or (e ∷ es) i no_engine).process
      each e es g gs zero = g
      each e es g gs (suc i) = gs i

config_good :
    (limits : Limits) (n issued : ℕ) (ws : List ℕ) (es : List Engine) →
    Opens limits n issued (suc (suc (length ws))) →
    EnginesFound limits.deepest n issued n ws es [] →
    (earlier_encode (record { issued = issued; engines = es }) ≡ n ∷ issued ∷ ws) × Earlier limits (record { issued = issued; engines = es })
unfolding earlier_encode
config_good limits n issued ws es o q =
    let all : earlier_engines_words es ≡ ws = sym (q.begins ∙ append-nil (earlier_engines_words es)) in
    let same : length es ≡ n = q.counted in (
      cc,
      record {
        fitting = record { some = omega (arith, o.some); few = omega (arith, o.few); word = o.word; engines = rw same q.fitting };
        alone = record { index = tt; engines = q.alone };
        shallow = q.shallow;
        short = rw all o.short;
      },
    )

config_reads : (limits : Limits) (ws : List ℕ) → All (λ c. (earlier_encode c ≡ ws) × Earlier limits c) (earlier_config limits ws)
unfolding earlier_config
config_reads limits [] = all_none
config_reads limits (n ∷ []) = all_none
config_reads limits (n ∷ issued ∷ ws) =
    all_guarded (opens limits n issued (suc (suc (length ws)))) λ t.
    whole_found issued (λ es q. config_good limits n issued ws es (opens_tests limits n issued (suc (suc (length ws))) t) q)
    (engines_found limits.deepest n issued n ws)

-- what is read is the earlier layout of such a tree
pub earlier_found : (limits : Limits) (ws : List ℕ) (c : Config) → earlier_config limits ws ≡ some c → (earlier_encode c ≡ ws) × Earlier limits c
earlier_found limits ws c e = all_some_lem (config_reads limits ws) e

module _ (d : ℕ) {n issued : ℕ} (few : n ≤ 8) (word : issued < 65536) where
  engine_finds :
      {e : Engine} → FitsEngine n issued e → SingleRun e.process → run_depth e.process ≤ d →
      (rest : List ℕ) → earlier_engine d (running n issued) ((values_words e.values ++ earlier_words (as_node e.process)) ++ rest) ≡ got e rest
  unfolding earlier_engine run_depth and_then
  engine_finds {e} f alone shallow rest =
      let next : List ℕ = earlier_words (as_node e.process) ++ rest in
      let in_values : read_values 32 (values_words e.values ++ next) ≡ got e.values next = rw f.counted at (values_finds f.bounded next) in
      let in_process : earlier_process d (running n issued) root next ≡ got (as_node e.process) rest =
      finds d (running n issued) root (as_node e.process) (as_node_fits few word f.sound {p = root} f.placed) (as_node_single f.sound alone) shallow rest in
      rw (append_assoc, in_values, in_process, as_node_awake few word f.sound)

  engines_finds :
      {es : List Engine} → FitsEngines n issued es → ((i : ℕ) → SingleRun (get_or es i no_engine).process) → engines_depth es ≤ d →
      (rest : List ℕ) → earlier_engines d (running n issued) (length es) (earlier_engines_words es ++ rest) ≡ got es rest
  unfolding earlier_engines earlier_engines_words engines_depth and_then
  engines_finds no_engines alone shallow rest = refl
  engines_finds (one_engine {e} {es} f fs) alone shallow rest =
      rw (append_assoc, engine_finds f (alone 0) (omega arith) (earlier_engines_words es ++ rest), engines_finds fs (λ i. alone (suc i)) (omega arith) rest)

-- and its earlier layout is read back
pub earlier_finds : (limits : Limits) (c : Config) → Earlier limits c → earlier_config limits (earlier_encode c) ≡ some c
unfolding earlier_config earlier_encode whole
earlier_finds limits c r =
    let n : ℕ = length c.engines in
    let ws : List ℕ = earlier_engines_words c.engines in
    let f = r.fitting in
    let in_engines : earlier_engines limits.deepest (running n c.issued) n (ws ++ []) ≡ got c.engines [] =
    engines_finds limits.deepest f.few f.word f.engines r.alone.engines r.shallow [] in
    let in_words : earlier_engines limits.deepest (running n c.issued) n ws ≡ got c.engines [] = rw append-nil at in_engines in
    let opened = opens_pass limits n c.issued (suc (suc (length ws))) (record { some = f.some; few = f.few; word = f.word; short = r.short }) in
    passed (opens limits n c.issued (suc (suc (length ws)))) opened ∙ rw in_words
