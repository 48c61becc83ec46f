-- A configuration: word n, word issued, then for each engine 32 values and its process (document 01, "Words"). Readable and fresh.
use Rattle.std.specs.Prelude.{ℕ, zero, suc, max, Bool, true, false, not, ◌&&◌, List, [], ◌∷◌, ◌++◌, leb, ltb, eqb, length}
use Rattle.std.proofs.Math.Option.{Option, none, some}
use Rattle.sock.specs.Words.{is_word, high_word, low_word}
use Rattle.sock.specs.Reading.{Got, fail, got, and_then, Stratum, running, root, process, wide, is_empty}
use Rattle.sock.specs.Running.{Mark, unmarked, faulted, own_name, Run, nil, seq, par, scope, executor, waiter, notice, act, run_words, run_depth, awake}

-- the figures that bound a configuration
pub record Limits : Type 0 where
  pub deepest : ℕ
  pub longest : ℕ

abbrev pub standard : Limits
standard = record { deepest = 64; longest = 8192 }

pub record Engine : Type 0 where
  pub values : List ℕ
  pub process : Run

pub record Config : Type 0 where
  pub issued : ℕ
  pub engines : List Engine

unfoldable pub values_words : List ℕ → List ℕ
values_words [] = []
values_words (v ∷ vs) = high_word v ∷ low_word v ∷ values_words vs

unfoldable pub engine_words : Engine → List ℕ
engine_words e = values_words e.values ++ run_words e.process

unfoldable pub engines_words : List Engine → List ℕ
engines_words [] = []
engines_words (e ∷ es) = engine_words e ++ engines_words es

unfoldable pub encode : Config → List ℕ
encode c = length c.engines ∷ c.issued ∷ engines_words c.engines

unfoldable pub engines_depth : List Engine → ℕ
engines_depth [] = 0
engines_depth (e ∷ es) = max (run_depth e.process) (engines_depth es)

-- Readable: laid out as above, and nothing after the last process
unfoldable pub read_values : ℕ → List ℕ → Got (List ℕ)
read_values zero ws = got [] ws
read_values (suc k) ws = and_then (wide ws) λ v next. and_then (read_values k next) λ vs rest. got (v ∷ vs) rest

unfoldable pub read_engine : ℕ → Stratum → List ℕ → Got Engine
read_engine d s ws =
    and_then (read_values 32 ws) λ vs next.
    and_then (process d s root next) λ p rest.
    got (record { values = vs; process = awake p }) rest

unfoldable pub read_engines : ℕ → Stratum → ℕ → List ℕ → Got (List Engine)
read_engines d s zero ws = got [] ws
read_engines d s (suc k) ws = and_then (read_engine d s ws) λ e next. and_then (read_engines d s k next) λ es rest. got (e ∷ es) rest

unfoldable pub whole : ℕ → Got (List Engine) → Option Config
whole issued fail = none
whole issued (got es []) = some (record { issued = issued; engines = es })
whole issued (got es (w ∷ ws)) = none

unfoldable pub guarded : {A : Type 0} → Bool → Option A → Option A
guarded true o = o
guarded false o = none

unfoldable pub also : {A B : Type 0} → Option A → (A → Option B) → Option B
also none k = none
also (some a) k = k a

unfoldable pub read_config : Limits → List ℕ → Option Config
read_config limits [] = none
read_config limits (n ∷ []) = none
read_config limits (n ∷ issued ∷ ws) =
    guarded (ltb 0 n && leb n 8 && is_word issued && leb (suc (suc (length ws))) limits.longest)
    (whole issued (read_engines limits.deepest (running n issued) n ws))

-- Fresh: issued 0, no kinds 16 to 18, every root a scope, every scope with mark 0, zombie 0, empty list
unfoldable pub is_unmarked : Mark → Bool
is_unmarked unmarked = true
is_unmarked (faulted f) = false
is_unmarked own_name = false

unfoldable pub fresh_run : Run → Bool
fresh_run nil = true
fresh_run (seq p q) = fresh_run p
fresh_run (par p q) = fresh_run p && fresh_run q
fresh_run (scope name mark zombie h p) = is_unmarked mark && not zombie && is_empty h && fresh_run p
fresh_run (executor o y client serial p) = false
fresh_run (waiter o x dead server serial l) = false
fresh_run (notice o f client serial) = false
fresh_run (act p) = true

unfoldable pub is_scope : Run → Bool
is_scope nil = false
is_scope (seq p q) = false
is_scope (par p q) = false
is_scope (scope name mark zombie h p) = true
is_scope (executor o y client serial p) = false
is_scope (waiter o x dead server serial l) = false
is_scope (notice o f client serial) = false
is_scope (act p) = false

unfoldable pub fresh_engines : List Engine → Bool
fresh_engines [] = true
fresh_engines (e ∷ es) = is_scope e.process && fresh_run e.process && fresh_engines es

unfoldable pub fresh : Config → Bool
fresh c = eqb c.issued 0 && fresh_engines c.engines
