-- Counts agree: for every serial the executor sends as many values as the waiter receives. Each rule keeps that, and a solicit begins it,
-- since it fits a request only with equal counts. So no reply of a run fails over its counts.
-- Assumes nothing.
use Prim.Native.Nat.{ℕ, zero, suc, ◌≤◌}
use native.Mathlib.Omega.{arith}
use mathlib.Core.Path.{◌≡◌, refl, sym, ◌∙◌}
use mathlib.Core.Bool.{not, ◌&&◌, cond}
use mathlib.Core.Option.{some}
use mathlib.Core.List.{List, [], ◌∷◌}
use lib.Dec.{T, eqb}
use lib.ListN.{length, get_or}
use borrow.Author.Tests.{ne_eqb, eq-eqb}
use Rattle.sock.specs.Reading.{is_empty}
use Rattle.sock.specs.Running.{Run, nil, seq, par, scope, executor, waiter, notice, act}
use Rattle.sock.specs.Configuration.{Limits, Engine, Config, read_config, is_unmarked, fresh_run, is_scope, fresh_engines, fresh}
use Rattle.sock.specs.Calls.{Numbers, step}
use Rattle.sock.proofs.Logic.{and_left, and_right}
use Rattle.sock.proofs.Steps.{Sure}
use Rattle.sock.proofs.Kept.{Closed, Kept, nil_kept, seq_kept, par_kept, scope_kept, act_kept}
use Rattle.sock.proofs.KeptSteps.{no_engine, Renewed, KeptConfig, step_kept}

-- nothing is asked of nodes and lists
abbrev pub Any : {A : Type 0} → A → Type 0
Any a = Unit {0}

pub any_closed : Closed Any Any Any
any_closed =
    record {
      part = λ n i. tt;
      listed = λ n. tt;
      under = λ k l. tt;
      less = λ k l. tt;
      updated = λ h l. tt;
      empty = tt;
      one = λ k p. tt;
      installs = λ l. tt;
      throws = λ f b. tt;
      asks = λ k n. tt;
      answers = λ k n. tt;
    }

-- an end of serial s has n s variables
abbrev pub Counted : (ℕ → ℕ) → ℕ → List ℕ → Type 0
Counted n s y = length y ≡ n s

abbrev pub Agrees : (ℕ → ℕ) → Run → Type 0
Agrees n = Kept Any Any (Counted n)

-- a solicit gives its serial a count
unfoldable with_count : (ℕ → ℕ) → ℕ → ℕ → ℕ → ℕ
with_count n serial m s = cond (eqb s serial) m (n s)

with_new : (n : ℕ → ℕ) (serial m : ℕ) → with_count n serial m serial ≡ m
unfolding with_count
with_new n serial m = rw (eq-eqb serial serial refl)

with_old : (n : ℕ → ℕ) (issued m s : ℕ) → s ≤ issued → n s ≡ with_count n (suc issued) m s
unfolding with_count
with_old n issued m s h = rw (ne_eqb s (suc issued) (λ e. omega arith))

pub counted_on : (n : ℕ → ℕ) (issued : ℕ) (x y : List ℕ) → Any x → Any y → length y ≡ length x → Renewed Counted n issued x y
counted_on n issued x y a b same =
    record {
      next = with_count n (suc issued) (length x);
      old = λ s v h e. e ∙ with_old n issued (length x) s h;
      receives = sym (with_new n (suc issued) (length x));
      sends = same ∙ sym (with_new n (suc issued) (length x));
    }

-- the counts of a configuration's serials agree
abbrev pub Agreed : Config → Type 0
Agreed = KeptConfig any_closed Counted counted_on

-- an accepted step keeps them in agreement
pub step_agrees :
    (limits : Limits) (ws : List ℕ) (k : Numbers) (room : ℕ) {c : Config} →
    read_config limits ws ≡ some c →
    Agreed c →
    Sure (λ s. Agreed s.config) (step limits ws k room)
step_agrees = step_kept any_closed Counted counted_on

-- a start has no ends
pub fresh_agrees : (n : ℕ → ℕ) (r : Run) → T (fresh_run r) → Agrees n r
unfolding fresh_run
fresh_agrees n nil t = nil_kept
fresh_agrees n (seq p q) t = seq_kept (fresh_agrees n p t) tt
fresh_agrees n (par p q) t = par_kept (fresh_agrees n p (and_left (fresh_run p) (fresh_run q) t)) (fresh_agrees n q (and_right (fresh_run p) (fresh_run q) t))
fresh_agrees n (scope name mark zombie h p) t = scope_kept tt (fresh_agrees n p (and_right (is_unmarked mark && not zombie && is_empty h) (fresh_run p) t))
fresh_agrees n (executor o y client serial p) t = absurd t
fresh_agrees n (waiter o x dead server serial l) t = absurd t
fresh_agrees n (notice o f client serial) t = absurd t
fresh_agrees n (act p) t = act_kept tt

fresh_engines_lem : (n : ℕ → ℕ) (es : List Engine) → T (fresh_engines es) → (i : ℕ) → Agrees n (get_or es i no_engine).process
unfolding fresh_engines
fresh_engines_lem n [] t i = nil_kept
fresh_engines_lem n (e ∷ es) t zero =
    fresh_agrees n e.process (and_right (is_scope e.process) (fresh_run e.process) (and_left (is_scope e.process && fresh_run e.process) (fresh_engines es) t))
fresh_engines_lem n (e ∷ es) t (suc i) = fresh_engines_lem n es (and_right (is_scope e.process && fresh_run e.process) (fresh_engines es) t) i

pub fresh_agreed : (c : Config) → T (fresh c) → Agreed c
unfolding fresh
fresh_agreed c t = record { index = λ s. 0; engines = fresh_engines_lem (λ s. 0) c.engines (and_right (eqb c.issued 0) (fresh_engines c.engines) t) }
