-- An accepted translation: the words are those of the plan's translation, and the start check answers them 0 (document 02, e).
-- Assumes nothing.
use Prim.Native.Nat.{ℕ}
use native.Mathlib.Omega.{arith}
use mathlib.Core.Path.{◌≡◌, refl, ap, subst, ◌∙◌}
use mathlib.Core.Option.{Option, none, some}
use mathlib.Core.List.{List}
use lib.Dec.{leb}
use lib.ListN.{length}
use Rattle.sock.specs.Configuration.{Config, standard, encode, engines_depth, read_config}
use Rattle.sock.specs.Calls as calls
use Rattle.sock.specs.Calls.{check_start, passed, start, unreadable}
use Rattle.sock.proofs.Inside.{within_fits, fits_read}
use Rattle.planning.specs.Plan.{Plan, plan_words, read_plan}
use Rattle.planning.specs.Translation.{translated}
use Rattle.planning.specs.Call.{plain, Result, refused, done, ◌>>=◌, ◌!◌, beyond, translate}
use Rattle.planning.proofs.Answers.{Says, refuses, gives, start_done, says}
use borrow.Author.Tests.{leb-true}

start_again : (ws : List ℕ) {t : Config} → read_config beyond ws ≡ some t → read_config standard ws ≡ some t → start standard ws ≡ start beyond ws
unfolding start
start_again ws p q = rw (p, q)

-- what the words of an accepted translation are
pub record Starts (p : Plan) (t : Config) : Type 0 where
  pub words : encode t ≡ plan_words (translated p)
  pub starts : start standard (encode t) ≡ calls.done t
  pub checked : check_start standard (encode t) ≡ 0

given_starts : (p : Plan) {n : ℕ} {r : Result Config} {t : Config} → Says (plan_words (translated p)) n r → r ≡ done t → Starts p t
unfolding check_start passed
given_starts p (refuses r) e = absurd (let z : ◌≡◌ {A = ℕ} 0 1 = cc in omega arith)
given_starts p {t = t} (gives {t = u} e f d l) q =
    let same : u ≡ t = cc in
    let w : List ℕ = plan_words (translated p) in
    let reads : read_config beyond w ≡ some u = start_done beyond w f in
    let deep_enough = leb-true (engines_depth u.engines) 64 d in
    let short-enough = leb-true (length (encode u)) 8192 (ap (λ k. leb (length k) 8192) e ∙ l) in
    let again : read_config standard w ≡ some u = fits_read standard beyond w reads (within_fits standard u deep_enough short-enough) in
    let all : start standard w ≡ calls.done u = start_again w reads again ∙ f in
    let here : start standard (encode u) ≡ calls.done u = ap (start standard) e ∙ all in
    subst (λ c. Starts p c) same (record { words = e; starts = here; checked = ap passed here })

-- An accepted output equals the definition, and passes the existing start check
pub accepted_starts : (ws : List ℕ) (room : ℕ) {t : Config} → translate standard ws room ≡ done t → (p : Plan) × (read_plan standard ws ≡ some p) × Starts p t
unfolding translate ◌!◌ ◌>>=◌
accepted_starts ws room {t} e = by (read_plan standard ws) refl
  where
    by : (o : Option Plan) → read_plan standard ws ≡ o → (p : Plan) × (read_plan standard ws ≡ some p) × Starts p t
    by none q = absurd (let z : refused (plain unreadable) ≡ done t = rw q at e in let y : ◌≡◌ {A = ℕ} 0 1 = cc in omega arith)
    by (some p) q = (p, q, given_starts p (says p ws room q) e)
