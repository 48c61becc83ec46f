-- Engines that come and go: a newcomer is behind the others, and the last one leaves from there. Either way the ends of every engine stay, the
-- configuration stays readable, and the counts of its serials agree as before.
-- Assumes nothing.
use Prim.Native.Nat.{ℕ, zero, suc, ◌+◌, ◌-◌, ◌≤◌, ◌<◌, max}
use native.Mathlib.Omega.{arith}
use native.Mathlib.Nat.{le_refl}
use mathlib.Core.Path.{◌≡◌, refl, subst, sym, ap, ◌∙◌}
use mathlib.Core.Bool.{Bool, false, ◌&&◌}
use mathlib.Core.Option.{some}
use mathlib.Core.List.{List, [], ◌∷◌, ◌++◌, append-nil}
use lib.Dec.{T, leb, ltb, eqb, ltb→lt, leb→le, eqb→eq}
use lib.ListN.{length, get_or, take, length-append}
use lib.Seq.{take-suc, take-length, length-take-le}
use borrow.Author.Tests.{eq-eqb, ne_eqb}
use Rattle.sock.specs.Words.{bit}
use Rattle.sock.specs.Reading.{Got, got, running, end_fits}
use Rattle.sock.specs.Running.{Run, nil, run_depth}
use Rattle.sock.specs.Configuration.{Limits, Engine, Config, engine_words, engines_words, encode, engines_depth, read_engine, read_config, fresh_run, is_scope}
use Rattle.sock.specs.Frames.{is_done}
use Rattle.sock.specs.Rules.{also}
use Rattle.sock.specs.Calls.{unreadable, long, short, not_fresh, house_full, still_at_work, engine_at, End, waiting, working, tally, tally_all}
use Rattle.sock.specs.Engines.{nothing_behind, newcomer, with_next, admitting, join, last_of, without_last, engine_of, points_to, may_leave, leave}
use Rattle.sock.proofs.Logic.{and_left, and_right, and_both, All, all_none, all_some, all_also, all_guarded}
use Rattle.sock.proofs.Fits.{Sound, nil_sound, seq_sound, par_sound, scope_sound, executor_sound, waiter_sound, notice_sound, act_sound, FitsEngine, FitsEngines, no_engines, one_engine, FitsConfig, Readable}
use Rattle.sock.proofs.Fields.{end_tests, end_fits_lem}
use Rattle.sock.proofs.Reading.{Holds, nothing, something}
use Rattle.sock.proofs.Located.{all_equal, engines_append}
use Rattle.sock.proofs.Configuration.{EngineFound, engine_found, engine_finds, passed, config_found}
use Rattle.sock.proofs.Steps.{Sure, sure_done, sure_then, sure_given, sure_unless, engine_later, engines_later}
use Rattle.sock.proofs.Turns.{no_engine, ends_in, ends_at}
use Rattle.sock.proofs.Ledger.{Ledger}
use Rattle.sock.proofs.Accounts.{fresh_tally}
use Rattle.sock.proofs.Kept.{nil_kept}
use Rattle.sock.proofs.Replies.{nil_when}
use Rattle.sock.proofs.Agreement.{Agrees, Agreed, fresh_agrees}

-- ---- an engine behind the others

module _ (e : Engine) where
  next_ends : (t : End → Bool) → tally t e.process ≡ 0 → (es : List Engine) (i : ℕ) → ends_in t (es ++ e ∷ []) i ≡ ends_in t es i
  unfolding tally
  next_ends t z [] zero = z
  next_ends t z [] (suc i) = refl
  next_ends t z (x ∷ es) zero = refl
  next_ends t z (x ∷ es) (suc i) = next_ends t z es i

  next_length : (es : List Engine) → length (es ++ e ∷ []) ≡ suc (length es)
  next_length [] = refl
  next_length (x ∷ es) = ap suc (next_length es)

  next_depth : (es : List Engine) → engines_depth (es ++ e ∷ []) ≡ max (engines_depth es) (run_depth e.process)
  unfolding engines_depth
  next_depth [] = omega arith
  next_depth (x ∷ es) = omega (arith, next_depth es)

  next_fits : {n issued : ℕ} {es : List Engine} → FitsEngines n issued es → FitsEngine n issued e → FitsEngines n issued (es ++ e ∷ [])
  next_fits no_engines f = one_engine f no_engines
  next_fits (one_engine g gs) f = one_engine g (next_fits gs f)

  others_fit : {n issued : ℕ} (es : List Engine) → FitsEngines n issued (es ++ e ∷ []) → FitsEngines n issued es
  others_fit [] f = no_engines
  others_fit (x ∷ es) (one_engine g gs) = one_engine g (others_fit es gs)

  next_agrees :
      {n : ℕ → ℕ} (es : List Engine) → ((i : ℕ) → Agrees n (get_or es i no_engine).process) → Agrees n e.process →
      (i : ℕ) → Agrees n (get_or (es ++ e ∷ []) i no_engine).process
  next_agrees [] g h zero = h
  next_agrees [] g h (suc i) = nil_kept
  next_agrees (x ∷ es) g h zero = g zero
  next_agrees (x ∷ es) g h (suc i) = next_agrees es (λ i. g (suc i)) h i

  others_agree :
      {n : ℕ → ℕ} (es : List Engine) → ((i : ℕ) → Agrees n (get_or (es ++ e ∷ []) i no_engine).process) →
      (i : ℕ) → Agrees n (get_or es i no_engine).process
  others_agree [] g i = nil_kept
  others_agree (x ∷ es) g zero = g zero
  others_agree (x ∷ es) g (suc i) = others_agree es (λ i. g (suc i)) i

  pub next_tally : (t : End → Bool) (es : List Engine) → tally_all t (es ++ e ∷ []) ≡ tally_all t es + tally t e.process
  unfolding tally_all
  next_tally t [] = omega arith
  next_tally t (x ∷ es) = omega (arith, next_tally t es)

  next_words_lem : (es : List Engine) → engines_words (es ++ e ∷ []) ≡ engines_words es ++ engine_words e
  unfolding engines_words
  next_words_lem es = engines_append es (e ∷ []) ∙ ap (λ ws. engines_words es ++ ws) (append-nil (engine_words e))

-- the words of a configuration with one engine more
pub with_words : (c : Config) (e : Engine) → encode (with_next c e) ≡ suc (length c.engines) ∷ c.issued ∷ engines_words c.engines ++ engine_words e
unfolding encode with_next
with_words c e = rw (next_length e c.engines, next_words_lem e c.engines)

-- ---- from one configuration to another whose engines hold the same ends

pub record Calm (limits : Limits) (c c' : Config) : Type 0 where
  pub readable : Readable limits c'
  pub issued : c'.issued ≡ c.issued
  pub ends : (i : ℕ) (t : End → Bool) → ends_at t c' i ≡ ends_at t c i
  pub agrees : Agreed c → Agreed c'

pub calm_ledger : {limits : Limits} {c c' : Config} {d : ℕ → ℕ} → Calm limits c c' → Ledger c d → Ledger c' d
calm_ledger x l =
    record {
      status = l.status;
      ends = λ s i t only. x.ends i t ∙ l.ends s i t only;
      apart = l.apart;
      given = λ s a b. l.given s a (subst (λ n. s ≤ n) x.issued b);
      others = λ s f. l.others s (λ a b. f a (subst (λ n. s ≤ n) (sym x.issued) b));
    }

-- ---- a newcomer

pub record New (limits : Limits) (n : ℕ) (ws : List ℕ) (e : Engine) : Type 0 where
  pub words : engine_words e ≡ ws
  pub fitting : FitsEngine n 0 e
  pub shallow : run_depth e.process ≤ limits.deepest
  pub scoped : T (is_scope e.process)
  pub fresh : T (fresh_run e.process)

behind_none : (limits : Limits) (n : ℕ) (ws : List ℕ) {g : Got Engine} → Holds (EngineFound limits.deepest n 0 ws) g → All (λ e. EngineFound limits.deepest n 0 ws e []) (nothing_behind g)
unfolding nothing_behind
behind_none limits n ws nothing = all_none
behind_none limits n ws (something {a = e} {rest = []} f) = all_some f
behind_none limits n ws (something {a = e} {rest = w ∷ rest} f) = all_none

pub newcomer_new : (limits : Limits) (n : ℕ) (ws : List ℕ) → All (New limits n ws) (newcomer limits n ws)
unfolding newcomer
newcomer_new limits n ws =
    all_also (behind_none limits n ws (engine_found limits.deepest n 0 ws)) λ e f.
    all_guarded (is_scope e.process && fresh_run e.process) λ t.
    all_some
    (record {
      words = sym (f.begins ∙ append-nil (engine_words e));
      fitting = f.fitting;
      shallow = f.shallow;
      scoped = and_left (is_scope e.process) (fresh_run e.process) t;
      fresh = and_right (is_scope e.process) (fresh_run e.process) t;
    })

-- and such an engine is found there
pub newcomer_finds : (limits : Limits) (n : ℕ) (ws : List ℕ) {e : Engine} → n ≤ 8 → New limits n ws e → newcomer limits n ws ≡ some e
unfolding newcomer also nothing_behind
newcomer_finds limits n ws {e} few x =
    let read : read_engine limits.deepest (running n 0) (engine_words e ++ []) ≡ got e [] = engine_finds limits.deepest few (omega arith) x.fitting x.shallow [] in
    let in_words : read_engine limits.deepest (running n 0) ws ≡ got e [] = rw (append-nil, x.words) at read in
    rw in_words (passed (is_scope e.process && fresh_run e.process) (and_both (is_scope e.process) (fresh_run e.process) x.scoped x.fresh))

module _ {limits : Limits} {c : Config} {e : Engine} {ws : List ℕ} (r : Readable limits c) (x : New limits (suc (length c.engines)) ws e) where
  next_config : length c.engines < 8 → FitsConfig (with_next c e)
  unfolding with_next
  next_config few =
      let f = r.fitting in
      let n : length (c.engines ++ e ∷ []) ≡ suc (length c.engines) = next_length e c.engines in
      record {
        some = rw n (omega arith);
        few = rw n few;
        word = f.word;
        engines = rw n (next_fits e (engines_later (omega arith) (le_refl c.issued) f.engines) (engine_later (le_refl (suc (length c.engines))) (omega arith) x.fitting));
      }

  pub next_calm : length c.engines < 8 → length (encode (with_next c e)) ≤ limits.longest → Calm limits c (with_next c e)
  unfolding with_next
  next_calm few fits =
      record {
        readable = record { fitting = next_config few; shallow = rw (next_depth e c.engines) (omega (arith, r.shallow, x.shallow)); short = fits };
        issued = refl;
        ends = λ i t. next_ends e t (fresh_tally t e.process x.fresh) c.engines i;
        agrees = λ w. record { index = w.index; engines = next_agrees e c.engines w.engines (fresh_agrees w.index e.process x.fresh) };
      }

-- ---- who leaves

-- the last engine stands behind the others
pub last_behind : (c : Config) → 0 < length c.engines → c.engines ≡ (without_last c).engines ++ engine_at c (last_of c) ∷ []
unfolding without_last last_of
last_behind c h =
    let es : List Engine = c.engines in
    let n : suc (length es - 1) ≡ length es = omega arith in
    sym (take-length es) ∙ ap (λ k. take k es) (sym n) ∙ take-suc es (length es - 1) no_engine (omega arith)

pub others_length : (c : Config) → length (without_last c).engines ≡ last_of c
unfolding without_last last_of
others_length c = length-take-le (length c.engines - 1) c.engines (omega arith)

-- what no end names is sound among fewer, and back
module _ (n issued : ℕ) where
  end_fewer : (engine serial : ℕ) → (engine ≡ n → ⊥) → T (end_fits (suc n) issued engine serial) → T (end_fits n issued engine serial)
  end_fewer engine serial d t =
      let e = end_tests (suc n) issued engine serial t in
      let b : engine < suc n = e.below in
      let below : engine < n = omega arith in
      end_fits_lem (record { below = below; positive = e.positive; given = e.given })

  unnamed : (x : End) → bit (points_to n x) ≡ 0 → engine_of x ≡ n → ⊥
  unfolding points_to
  unnamed x z e = let one : bit (eqb (engine_of x) n) ≡ 1 = rw (eq-eqb (engine_of x) n e) in omega arith

  pub sound_fewer : {r : Run} → Sound (suc n) issued r → tally (points_to n) r ≡ 0 → Sound n issued r
  unfolding tally
  sound_fewer nil_sound z = nil_sound
  sound_fewer (seq_sound g t q) z = seq_sound (sound_fewer g z) t q
  sound_fewer (par_sound g t k u) z = par_sound (sound_fewer g (omega arith)) t (sound_fewer k (omega arith)) u
  sound_fewer (scope_sound a m c g) z = scope_sound a m c (sound_fewer g z)
  sound_fewer (executor_sound {o} {client = c} {serial = s} b y e g) z =
      executor_sound b y (end_fewer c s (unnamed (working s o c) (omega arith)) e) (sound_fewer g (omega arith))
  sound_fewer (waiter_sound {o} {server = c} {serial = s} b x e l) z = waiter_sound b x (end_fewer c s (unnamed (waiting s o c) z) e) l
  sound_fewer (notice_sound {o} {client = c} {serial = s} b f e) z = notice_sound b f (end_fewer c s (unnamed (working s o c) z) e)
  sound_fewer (act_sound t g) z = act_sound t g

  names_fewer : (engine serial : ℕ) → T (end_fits n issued engine serial) → eqb engine n ≡ false
  names_fewer engine serial t = let e = end_tests n issued engine serial t in let b : engine < n = e.below in ne_eqb engine n (λ q. omega arith)

  pub sound_unnamed : {r : Run} → Sound n issued r → tally (points_to n) r ≡ 0
  unfolding tally points_to
  sound_unnamed nil_sound = refl
  sound_unnamed (seq_sound g t q) = sound_unnamed g
  sound_unnamed (par_sound g t k u) = omega (arith, sound_unnamed g, sound_unnamed k)
  sound_unnamed (scope_sound a m c g) = sound_unnamed g
  sound_unnamed (executor_sound {client = c} {serial = s} b y e g) = rw (names_fewer c s e) (omega (arith, sound_unnamed g))
  sound_unnamed (waiter_sound {server = c} {serial = s} b x e l) = rw (names_fewer c s e)
  sound_unnamed (notice_sound {client = c} {serial = s} b f e) = rw (names_fewer c s e)
  sound_unnamed (act_sound t g) = refl

  engines_fewer : {es : List Engine} → FitsEngines (suc n) issued es → tally_all (points_to n) es ≡ 0 → FitsEngines n issued es
  unfolding tally_all
  engines_fewer no_engines z = no_engines
  engines_fewer (one_engine g gs) z =
      one_engine (record { counted = g.counted; bounded = g.bounded; sound = sound_fewer g.sound (omega arith); placed = g.placed })
      (engines_fewer gs (omega arith))

-- what the test of leaving says
pub record Leaves (c : Config) : Type 0 where
  pub several : 1 < length c.engines
  pub quiet : (engine_at c (last_of c)).process ≡ nil
  pub unnamed : tally_all (points_to (last_of c)) (without_last c).engines ≡ 0

pub may_leave_lem : (c : Config) → T (may_leave c) → Leaves c
unfolding may_leave
may_leave_lem c t =
    let many : Bool = ltb 1 (length c.engines) in
    let rests : Bool = is_done (engine_at c (last_of c)).process in
    let alone : Bool = eqb (tally_all (points_to (last_of c)) (without_last c).engines) 0 in
    let a : T (many && rests) = and_left (many && rests) alone t in
    record {
      several = ltb→lt 1 (length c.engines) (and_left many rests a);
      quiet = sym (nil_when (engine_at c (last_of c)).process (and_right many rests a));
      unnamed = eqb→eq (tally_all (points_to (last_of c)) (without_last c).engines) 0 (and_right (many && rests) alone t);
    }

module _ {limits : Limits} {c : Config} (r : Readable limits c) (x : Leaves c) where
  last : Engine
  last = engine_at c (last_of c)

  others : List Engine
  others = (without_last c).engines

  split : c.engines ≡ others ++ last ∷ []
  unfolding others last
  split = last_behind c (omega (arith, x.several))

  count : length c.engines ≡ suc (length others)
  count = ap length split ∙ next_length last others

  last_count : last_of c ≡ length others
  unfolding others
  last_count = sym (others_length c)

  left_config : FitsConfig (without_last c)
  unfolding others without_last
  left_config =
      let f = r.fitting in
      let all : FitsEngines (suc (length others)) c.issued (others ++ last ∷ []) =
      subst (λ es. FitsEngines (suc (length others)) c.issued es) split (subst (λ n. FitsEngines n c.issued c.engines) count f.engines) in
      let none : tally_all (points_to (length others)) others ≡ 0 = subst (λ n. tally_all (points_to n) others ≡ 0) last_count x.unnamed in
      record {
        some = omega (arith, count, x.several);
        few = omega (arith, count, f.few);
        word = f.word;
        engines = engines_fewer (length others) c.issued (others_fit last others all) none;
      }

  left_shorter : length (encode (without_last c)) ≤ length (encode c)
  unfolding encode others
  left_shorter =
      let words : engines_words c.engines ≡ engines_words others ++ engine_words last = ap engines_words split ∙ next_words_lem last others in
      omega (arith, simp length-append at (ap length words))

  pub left_calm : Calm limits c (without_last c)
  unfolding others last without_last tally
  left_calm =
      record {
        readable =
            record {
              fitting = left_config;
              shallow = omega (arith, r.shallow, ap engines_depth split, next_depth last others);
              short = omega (arith, r.short, left_shorter);
            };
        issued = refl;
        ends = λ i t.
            let none : tally t last.process ≡ 0 = ap (tally t) x.quiet in
            sym (ap (λ es. ends_in t es i) split ∙ next_ends last t none others i);
        agrees = λ w.
            record { index = w.index; engines = others_agree last others (subst (λ es. (i : ℕ) → Agrees w.index (get_or es i no_engine).process) split w.engines) };
      }

-- ---- the two calls

pub record Joins (limits : Limits) (ws engine : List ℕ) (room : ℕ) (out : List ℕ) : Type 0 where
  pub before : Config
  pub comer : Engine
  pub reads : read_config limits ws ≡ some before
  pub few : length before.engines < 8
  pub new : New limits (suc (length before.engines)) engine comer
  pub enough : length (encode (with_next before comer)) ≤ room
  pub calm : Calm limits before (with_next before comer)
  pub words : out ≡ encode (with_next before comer)

admits : (limits : Limits) (ws : List ℕ) → Sure (λ c. (read_config limits ws ≡ some c) × T (ltb (length c.engines) 8)) (admitting limits ws)
unfolding admitting
admits limits ws =
    sure_then (sure_given unreadable (all_equal (read_config limits ws))) λ c r. sure_unless house_full (ltb (length c.engines) 8) λ few. sure_done (r, few)

pub join_joins : (limits : Limits) (ws engine : List ℕ) (room : ℕ) → Sure (Joins limits ws engine room) (join limits ws engine room)
unfolding join
join_joins limits ws engine room =
    sure_then (admits limits ws) λ c a.
    let r : read_config limits ws ≡ some c = a.0 in
    sure_then (sure_given not_fresh (newcomer_new limits (suc (length c.engines)) engine)) λ e x.
    sure_unless long (leb (length (encode (with_next c e))) limits.longest) λ fits.
    sure_unless short (leb (length (encode (with_next c e))) room) λ enough.
    let few : length c.engines < 8 = ltb→lt (length c.engines) 8 a.1 in
    sure_done
    (record {
      before = c;
      comer = e;
      reads = r;
      few = few;
      new = x;
      enough = leb→le (length (encode (with_next c e))) room enough;
      calm = next_calm (config_found limits ws c r).1 x few (leb→le (length (encode (with_next c e))) limits.longest fits);
      words = refl;
    })

pub record Left (limits : Limits) (ws : List ℕ) (room : ℕ) (out : List ℕ) : Type 0 where
  pub before : Config
  pub reads : read_config limits ws ≡ some before
  pub may : T (may_leave before)
  pub enough : length (encode (without_last before)) ≤ room
  pub leaves : Leaves before
  pub calm : Calm limits before (without_last before)
  pub words : out ≡ encode (without_last before)

pub leave_left : (limits : Limits) (ws : List ℕ) (room : ℕ) → Sure (Left limits ws room) (leave limits ws room)
unfolding leave
leave_left limits ws room =
    sure_then (sure_given unreadable (all_equal (read_config limits ws))) λ c r.
    sure_unless still_at_work (may_leave c) λ t.
    sure_unless short (leb (length (encode (without_last c))) room) λ enough.
    let x : Leaves c = may_leave_lem c t in
    sure_done
    (record { before = c; reads = r; may = t; enough = leb→le (length (encode (without_last c))) room enough; leaves = x; calm = left_calm (config_found limits ws c r).1 x; words = refl })
