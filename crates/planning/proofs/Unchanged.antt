-- A start without fixed scopes comes out unchanged (`unchanged`), and translating again changes nothing (`again`; document 02, e).
-- Assumes nothing.
use Prim.Native.Nat.{ℕ, suc, ◌*◌, ◌≤◌, ◌<◌}
use native.Mathlib.Omega.{arith}
use mathlib.Core.Path.{◌≡◌, refl, sym, ap, subst, ◌∙◌}
use mathlib.Core.Bool.{Bool, true, false}
use mathlib.Core.Option.{some}
use mathlib.Core.List.{List, [], ◌∷◌, ◌++◌, append_assoc, append-nil}
use lib.Dec.{T, leb, eqb}
use lib.ListN.{length}
use borrow.Author.Tests.{ne_eqb, le-leb}
use Rattle.sock.specs.Words.{kind_of}
use Rattle.sock.specs.Term.{Node, Block, Entries, Nodes}
use Rattle.sock.specs.Layout.{words}
use Rattle.sock.specs.Reading.{got, and_then, Stratum, running, Place, root}
use Rattle.sock.specs.Running.{as_node, run_words, run_depth}
use Rattle.sock.specs.Configuration.{Engine, Config, standard, values_words, engine_words, engines_words, encode, engines_depth, guarded, read_config, fresh}
use Rattle.sock.specs.Calls as calls
use Rattle.sock.specs.Calls.{check_start, start, passed}
use Rattle.sock.proofs.Logic.{test_true}
use Rattle.sock.proofs.Fits.{Fits, fits, FitsBlock, no_list, a_list, FitsEntries, empty_fits, entry_fits_on, FitsParts, no_part, one_part, FitsEngines, no_engines, one_engine, Readable}
use Rattle.sock.proofs.Running.{as_node_fits}
use Rattle.sock.proofs.Configuration.{config_found}
use Rattle.sock.proofs.Inside.{read_larger}
use Rattle.sock.proofs.Requests.{started}
use Rattle.sock.proofs.Journal.{some_same}
use Rattle.planning.specs.Plan.{Planned, Plan, planned_words, plan_words, plan_engines, whole_plan, read_plan}
use Rattle.planning.specs.Translation.{rewritten, block_rewritten, entries_rewritten, parts_rewritten, engines_rewritten, plan_rewritten, stand_in, translated, free_entries, free_part, captured, block_captured, entries_captured, parts_captured, engines_captured}
use Rattle.planning.specs.Call.{done, ◌>>=◌, ◌>>◌, ◌!◌, ◌unless◌, from, beyond, translate}
use Rattle.planning.proofs.Layouts.{first_reads, plan_reads, not_fixed, fits_plan}
use Rattle.planning.proofs.Accepted.{accepted_starts}
use Rattle.planning.proofs.Answers.{start_done}

-- ---- a process that fits has no fixed scope

mutual
  unfolding rewritten

  rewritten_same : (head : ℕ) {s : Stratum} {p : Place} {n : Node} → Fits s p n → rewritten head n ≡ n
  rewritten_same head (fits {s} {p} {h} t fx ex bl pt nf) = rw (ne_eqb (kind_of h) 19 (not_fixed s p h t), block_same head bl, parts_same head pt) refl

  block_same : (head : ℕ) {o : Bool} {n : ℕ} {b : Block} → FitsBlock o n b → block_rewritten head b ≡ b
  block_same head no_list = refl
  block_same head (a_list f) = rw (entries_same head f) refl

  entries_same : (head : ℕ) {o : Bool} {least : ℕ} {l : Entries} → FitsEntries o least l → entries_rewritten head l ≡ l
  entries_same head empty_fits = refl
  entries_same head (entry_fits_on low high good f fs) = rw (rewritten_same head f, entries_same head fs) refl

  parts_same : (head : ℕ) {s : Stratum} {k n : ℕ} {ps : Nodes} → FitsParts s k n ps → parts_rewritten head ps ≡ ps
  parts_same head no_part = refl
  parts_same head (one_part f fs) = rw (rewritten_same head f, parts_same head fs) refl

mutual
  unfolding captured free_entries free_part

  none_captured : {s : Stratum} {p : Place} {n : Node} → Fits s p n → captured false n ≡ false
  none_captured (fits {s} {p} {h} t fx ex bl pt nf) =
      let plain = ne_eqb (kind_of h) 19 (not_fixed s p h t) in
      rw (plain, none_block bl, none_parts (kind_of h) plain pt) refl

  none_block : {o : Bool} {n : ℕ} {b : Block} → FitsBlock o n b → block_captured false b ≡ false
  none_block no_list = refl
  none_block (a_list f) = none_entries f

  none_entries : {o : Bool} {least : ℕ} {l : Entries} → FitsEntries o least l → entries_captured false l ≡ false
  none_entries empty_fits = refl
  none_entries (entry_fits_on low high good f fs) = rw (none_captured f, none_entries fs) refl

  none_parts : (j : ℕ) {s : Stratum} {k n : ℕ} {ps : Nodes} → eqb j 19 ≡ false → FitsParts s k n ps → parts_captured false j ps ≡ false
  none_parts j plain no_part = refl
  none_parts j plain (one_part f fs) = rw (plain, none_captured f, none_parts j plain fs) refl

-- ---- a configuration as a plan

abbrev planned_all : List Engine → List Planned
planned_all [] = []
planned_all (e ∷ es) = record { values = values_words e.values; process = as_node e.process } ∷ planned_all es

-- the plan that a configuration's words are
abbrev pub plan_of : Config → Plan
plan_of c = record { issued = c.issued; engines = planned_all c.engines }

values_length : (vs : List ℕ) → length (values_words vs) ≡ length vs * 2
unfolding values_words
values_length [] = refl
values_length (v ∷ vs) = omega (arith, values_length vs)

planned_length : (es : List Engine) → length (planned_all es) ≡ length es
planned_length [] = refl
planned_length (e ∷ es) = ap suc (planned_length es)

planned_words_lem : (es : List Engine) → planned_words (planned_all es) ≡ engines_words es
unfolding planned_words engines_words engine_words run_words
planned_words_lem [] = refl
planned_words_lem (e ∷ es) = ap (λ l. values_words e.values ++ (words (as_node e.process) ++ l)) (planned_words_lem es) ∙ sym (append_assoc (values_words e.values) (words (as_node e.process)) (engines_words es))

plan_words_lem : (c : Config) → plan_words (plan_of c) ≡ encode c
unfolding plan_words encode
plan_words_lem c = rw (planned_length c.engines, planned_words_lem c.engines) refl

module _ {n issued : ℕ} (few : n ≤ 8) (word : issued < 65536) where
  planned_reads :
      (d : ℕ) {es : List Engine} → FitsEngines n issued es → engines_depth es ≤ d →
      (rest : List ℕ) → plan_engines d (length es) (engines_words es ++ rest) ≡ got (planned_all es) rest
  unfolding plan_engines engines_words engine_words run_words engines_depth run_depth and_then
  planned_reads d no_engines shallow rest = refl
  planned_reads d (one_engine {e} {es} f fs) shallow rest =
      let vs : List ℕ = values_words e.values in
      let p : Node = as_node e.process in
      let more : List ℕ = engines_words es ++ rest in
      let sixty_four : length vs ≡ 64 = values_length e.values ∙ omega (arith, f.counted) in
      let all : ((vs ++ words p) ++ engines_words es) ++ rest ≡ vs ++ (words p ++ more) = simp append_assoc in
      let fit : Fits (running n issued) root p = as_node_fits few word f.sound {p = root} f.placed in
      rw (all, first_reads vs 64 sixty_four (words p ++ more), plan_reads d p (fits_plan fit) (omega arith) more, planned_reads d fs (omega arith) rest) refl

  engines_same : (head : ℕ) {es : List Engine} → FitsEngines n issued es → engines_rewritten head (planned_all es) ≡ planned_all es
  unfolding engines_rewritten
  engines_same head no_engines = refl
  engines_same head (one_engine f fs) = rw (rewritten_same head (as_node_fits few word f.sound {p = root} f.placed), engines_same head fs) refl

  engines_free : {es : List Engine} → FitsEngines n issued es → engines_captured (planned_all es) ≡ false
  unfolding engines_captured
  engines_free no_engines = refl
  engines_free (one_engine f fs) = rw (none_captured (as_node_fits few word f.sound {p = root} f.placed), engines_free fs) refl

module _ {c : Config} (r : Readable standard c) where
  reads_plan : read_plan standard (encode c) ≡ some (plan_of c)
  unfolding read_plan encode whole_plan guarded
  reads_plan =
      let f = r.fitting in
      let all : plan_engines 64 (length c.engines) (engines_words c.engines ++ []) ≡ got (planned_all c.engines) [] = planned_reads f.few f.word 64 f.engines r.shallow [] in
      let same : plan_engines 64 (length c.engines) (engines_words c.engines) ≡ got (planned_all c.engines) [] = rw append-nil at all in
      rw (le-leb (length (encode c)) 8192 r.short, same) refl

  same_plan : (head : ℕ) → plan_rewritten head (plan_of c) ≡ plan_of c
  unfolding plan_rewritten
  same_plan head = let f = r.fitting in rw (engines_same f.few f.word head f.engines) refl

  free_plan : engines_captured (plan_of c).engines ≡ false
  free_plan = let f = r.fitting in engines_free f.few f.word f.engines

  rewritten_words : (head : ℕ) → plan_words (plan_rewritten head (plan_of c)) ≡ encode c
  rewritten_words head = ap plan_words (same_plan head) ∙ plan_words_lem c

-- ---- the theorems

start_of : (ws : List ℕ) {c : Config} → read_config beyond ws ≡ some c → T (fresh c) → start beyond ws ≡ calls.done c
unfolding start calls.◌!◌ calls.◌>>=◌ calls.◌>>◌ calls.◌unless◌
start_of ws {c} e f = rw (e, test_true (fresh c) f) refl

goes_through :
    (ws : List ℕ) (room : ℕ) (p : Plan) (c : Config) → read_plan standard ws ≡ some p → read_config beyond (plan_words (stand_in p)) ≡ some c →
    engines_captured p.engines ≡ false → fresh c ≡ true → start beyond (plan_words (translated p)) ≡ calls.done c →
    leb (engines_depth c.engines) 64 ≡ true → leb (length (encode c)) 8192 ≡ true → leb (length (encode c)) room ≡ true → translate standard ws room ≡ done c
unfolding translate ◌!◌ ◌>>=◌ ◌>>◌ ◌unless◌ from
goes_through ws room p c a b d e f g h i = rw (a, b, d, e, f, g, h, i) refl

-- A start without fixed scopes, given room, comes out as the very configuration that the start check reads
pub unchanged : (ws : List ℕ) → check_start standard ws ≡ 0 → (c : Config) × (read_config standard ws ≡ some c) × ((room : ℕ) → length ws ≤ room → translate standard ws room ≡ done c)
unchanged ws ok =
    let (c, e, f) = started standard ws ok in
    (c, e, λ room h. given c e f room h)
  where
    given : (c : Config) → read_config standard ws ≡ some c → T (fresh c) → (room : ℕ) → length ws ≤ room → translate standard ws room ≡ done c
    given c e f room h =
        let (same, r) = config_found standard ws c e in
        let large : read_config beyond ws ≡ some c = read_larger standard beyond (le_512, le_65535) ws e in
        let seq_words : plan_words (translated (plan_of c)) ≡ ws = rewritten_words r 4096 ∙ same in
        let par_words : plan_words (stand_in (plan_of c)) ≡ ws = rewritten_words r 6144 ∙ same in
        goes_through ws room (plan_of c) c (ap (read_plan standard) (sym same) ∙ reads_plan r) (ap (read_config beyond) par_words ∙ large) (free_plan r) (test_true (fresh c) f)
        (ap (start beyond) seq_words ∙ start_of ws large f) (le-leb (engines_depth c.engines) 64 r.shallow) (le-leb (length (encode c)) 8192 r.short) (le-leb (length (encode c)) room (omega (arith, ap length same)))
      where
        le_512 : 64 ≤ 512
        le_512 = omega arith

        le_65535 : 8192 ≤ 65535
        le_65535 = omega arith

-- Translating again changes nothing
pub again : (ws : List ℕ) (room : ℕ) {t : Config} → translate standard ws room ≡ done t → (room' : ℕ) → length (encode t) ≤ room' → translate standard (encode t) room' ≡ done t
again ws room {t} e room' h =
    let (p, q, s) = accepted_starts ws room e in
    let (c, r, u) = unchanged (encode t) s.checked in
    let same : c ≡ t = some_same (sym r ∙ start_done standard (encode t) s.starts) in
    subst (λ x. translate standard (encode t) room' ≡ done x) same (u room' h)
