-- The readable check and the start check, from what the code knows at each return.
-- Assumes nothing.
use Prim.Native.Nat.{ℕ, zero, suc, ◌+◌, ◌<◌}
use native.Mathlib.Omega.{arith}
use native.Mathlib.Nat.{add-zero}
use native.Mathlib.Numerals.{add-one}
use mathlib.Core.Path.{◌≡◌, refl, sym, ap, ◌∙◌}
use mathlib.Core.Bool.{Bool, true, false, true≢false, not, ◌&&◌, cond}
use mathlib.Core.Option.{Option, none, some}
use mathlib.Core.List.{List, [], ◌∷◌}
use lib.Dec.{T, eqb}
use lib.ListN.{length, get_or, drop}
use lib.Seq.{drop-cons, drop-length}
use borrow.Author.Tests.{ne_eqb}
use Rattle.std.specs.Prelude.{Option as Maybe, Some}
use Rattle.sock.specs.Configuration.{Limits, Engine, Config, read_config, fresh_run, is_scope, fresh_engines, fresh}
use Rattle.sock.specs.Calls.{done, unreadable, not_fresh, engine_at, ◌!◌, ◌>>=◌, ◌>>◌, ◌unless◌, passed, check_readable, start, check_start}
use Rattle.sock.proofs.Logic.{and_left, and_right, and_both, test_true}
use Rattle.sock.proofs.Fits.{FitsConfig}
use Rattle.reading.specs.Walk.{at}
use Rattle.reading.specs.declared.starts.Starts.{Starts as Found}
use Rattle.reading.specs.Survey.{Starts, no_starts, surveyed}
use Rattle.reading.specs.Answers.{starts_of, starts_in}
use Rattle.reading.specs.Tally.{none_nil}
use Rattle.reading.proofs.Combining.{Words}
use Rattle.reading.proofs.Standing.{fits_at, head_at, root_head}
use Rattle.reading.proofs.Fresh.{all_fresh, fresh_config}
use Rattle.reading.proofs.Known.{Known, found_known, none_known, known_issued, found_code, none_code}

-- ---- the checks by what is read

readable_by : (limits : Limits) (ws : List ℕ) (o : Option Config) → read_config limits ws ≡ o → check_readable limits ws ≡ passed (unreadable ! o)
unfolding check_readable
readable_by limits ws o e = rw e

is_fresh : Option Config → Bool
is_fresh none = false
is_fresh (some c) = fresh c

start_by : (limits : Limits) (ws : List ℕ) → eqb (check_start limits ws) 0 ≡ is_fresh (read_config limits ws)
unfolding check_start start passed ◌!◌ ◌>>=◌ ◌>>◌ ◌unless◌ is_fresh
start_by limits ws = by (read_config limits ws)
  where
    over : (c : Config) (b : Bool) → eqb (passed (◌>>◌ (not_fresh unless b) (done c))) 0 ≡ b
    over c true = refl
    over c false = refl

    by : (o : Option Config) → eqb (passed (unreadable ! o >>= λ c. ◌>>◌ (not_fresh unless fresh c) (done c))) 0 ≡ is_fresh o
    by none = refl
    by (some c) = over c (fresh c)

-- ---- the readable check

module _ (limits : Limits) (ws : List ℕ) (ok : Words ws) where
  pub not_readable : no_starts ≡ surveyed limits 11 ws → 1 ≡ check_readable limits ws
  unfolding passed ◌!◌
  not_readable e = sym (readable_by limits ws none (none_known limits ws ok e))

  pub is_readable : (s : Found) → starts_of s ≡ surveyed limits 11 ws → 0 ≡ check_readable limits ws
  unfolding passed ◌!◌
  is_readable s e = let k = found_known limits ws ok s e in sym (readable_by limits ws (some k.config) k.reads)

-- ---- fresh

and_true : (b c : Bool) → b && true && c ≡ b && c
and_true true c = refl
and_true false c = refl

but_not : (b c : Bool) → cond (not b) false c ≡ b && c
but_not true c = refl
but_not false c = refl

-- whether each process is a scope
scopes : List Engine → Bool
scopes [] = true
scopes (g ∷ gs) = is_scope g.process && scopes gs

fresh_all : (es : List Engine) → T (fresh_engines es) → T (all_fresh es)
unfolding fresh_engines all_fresh
fresh_all [] t = tt
fresh_all (g ∷ gs) t =
    and_both (fresh_run g.process) (all_fresh gs)
    (and_right (is_scope g.process) (fresh_run g.process) (and_left (is_scope g.process && fresh_run g.process) (fresh_engines gs) t))
    (fresh_all gs (and_right (is_scope g.process && fresh_run g.process) (fresh_engines gs) t))

fresh_scopes : (es : List Engine) → T (all_fresh es) → fresh_engines es ≡ scopes es
unfolding fresh_engines all_fresh scopes
fresh_scopes [] t = refl
fresh_scopes (g ∷ gs) t =
    let one : fresh_run g.process ≡ true = test_true (fresh_run g.process) (and_left (fresh_run g.process) (all_fresh gs) t) in
    rw (one, fresh_scopes gs (and_right (fresh_run g.process) (all_fresh gs) t), and_true (is_scope g.process) (scopes gs))

-- no process is nil: each is a scope
module _ {limits : Limits} {ws : List ℕ} {s : Starts} (k : Known limits ws s) where
  nil_unless : (e : ℕ) → e < length k.config.engines → eqb (at ws (get_or s.starts e 0)) 0 ≡ not (is_scope (engine_at k.config e).process)
  nil_unless e h =
      let f : FitsConfig k.config = k.readable.fitting in
      let g = fits_at k.config f e h in
      rw (k.starts e (omega arith), ← k.same, head_at k.config f e h) (root_head g.sound g.placed)

  scopes_from : (left e : ℕ) → e + left ≡ length k.config.engines → none_nil ws s.starts left e ≡ scopes (drop e k.config.engines)
  unfolding none_nil scopes
  scopes_from zero e h = let no : drop e k.config.engines ≡ [] = rw (← h, add-zero) at (drop-length k.config.engines) in rw no
  scopes_from (suc left) e h =
      let one : drop e k.config.engines ≡ engine_at k.config e ∷ drop (suc e) k.config.engines = drop-cons k.config.engines e _ (omega arith) in
      rw (nil_unless e (omega arith), one, scopes_from left (e + 1) (omega arith), add-one e) (but_not (is_scope (engine_at k.config e).process) _)

  scopes_all : none_nil ws s.starts s.engines 0 ≡ scopes k.config.engines
  scopes_all = ap (λ n. none_nil ws s.starts n 0) k.engines ∙ scopes_from (length k.config.engines) 0 (omega arith)

not_so : (b : Bool) → (T b → ⊥) → false ≡ b
not_so true f = absurd (f tt)
not_so false f = refl

module _ (limits : Limits) (ws : List ℕ) (ok : Words ws) where
  pub not_code : no_starts ≡ surveyed limits 3 ws → false ≡ eqb (check_start limits ws) 0
  unfolding is_fresh fresh
  not_code e = by (read_config limits ws) refl ∙ sym (start_by limits ws)
    where
      by : (o : Option Config) → read_config limits ws ≡ o → false ≡ is_fresh o
      by none r = refl
      by (some c) r =
          not_so (fresh c) λ t.
          let all : T (all_fresh c.engines) = fresh_all c.engines (and_right (eqb c.issued 0) (fresh_engines c.engines) t) in
          let no : none ≡ some c = sym (none_code limits ws ok e) ∙ fresh_config limits ws c r all in
          let z : ◌≡◌ {A = ℕ} 0 1 = cc in
          omega arith

  -- the first serial's word and the heads tell
  module _ (o : Maybe Found) (e : starts_in o ≡ surveyed limits 3 ws) (s : Found) (q : o ≡ Some s) where
    by_code : eqb (at ws 1) 0 && none_nil ws s.starts s.engines 0 ≡ eqb (check_start limits ws) 0
    unfolding is_fresh fresh
    by_code =
        let f = found_code limits ws ok s (rw q at e) in
        let k : Known limits ws (starts_of s) = f.0 in
        ap (λ b. eqb (at ws 1) 0 && b) (scopes_all k)
        ∙ sym (start_by limits ws ∙ rw (k.reads, known_issued k) (ap (λ b. eqb k.config.issued 0 && b) (fresh_scopes k.config.engines f.1)))

    pub some_issued : (w : ℕ) → w ≡ at ws 1 → (w ≡ 0 → ⊥) → eqb w 0 ≡ eqb (check_start limits ws) 0
    some_issued w p n = let no : eqb w 0 ≡ false = ne_eqb w 0 n in no ∙ (rw (← p, no) at by_code)

    pub none_issued : (w : ℕ) → w ≡ at ws 1 → w ≡ 0 → (r : Bool) → r ≡ none_nil ws s.starts s.engines 0 → r ≡ eqb (check_start limits ws) 0
    none_issued w p z r n = n ∙ (rw (← p, z) at by_code)

-- ---- the start check by the other two

data Started : ℕ → ℕ → Type 0 where
  not_read : Started 1 1
  stale : Started 0 11
  begins : Started 0 0

started : (limits : Limits) (ws : List ℕ) → Started (check_readable limits ws) (check_start limits ws)
unfolding check_readable check_start start passed ◌!◌ ◌>>=◌ ◌>>◌ ◌unless◌
started limits ws = by (read_config limits ws)
  where
    over : (c : Config) (b : Bool) → Started 0 (passed (◌>>◌ (not_fresh unless b) (done c)))
    over c true = begins
    over c false = stale

    by : (o : Option Config) → Started (passed (unreadable ! o)) (passed (unreadable ! o >>= λ c. ◌>>◌ (not_fresh unless fresh c) (done c)))
    by none = not_read
    by (some c) = over c (fresh c)

stale_by : {a b : ℕ} → Started a b → false ≡ eqb b 0 → 0 ≡ a → 11 ≡ b
stale_by not_read p q = absurd (omega arith)
stale_by stale p q = refl
stale_by begins p q = absurd (true≢false (sym p))

unread_by : {a b : ℕ} → Started a b → (0 ≡ a → ⊥) → a ≡ b
unread_by not_read q = refl
unread_by stale q = absurd (q refl)
unread_by begins q = absurd (q refl)

module _ (limits : Limits) (ws : List ℕ) where
  pub start_stale : (b : Bool) → b ≡ eqb (check_start limits ws) 0 → b ≡ false → 0 ≡ check_readable limits ws → 11 ≡ check_start limits ws
  start_stale b p q t = stale_by (started limits ws) (sym q ∙ p) t

  pub start_unread : (r : ℕ) → r ≡ check_readable limits ws → (r ≡ 0 → ⊥) → r ≡ check_start limits ws
  start_unread r t z = t ∙ unread_by (started limits ws) (λ y. z (t ∙ sym y))
