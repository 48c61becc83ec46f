-- Which processes send: those of kinds 9, 10, 16 and 18. So the kind that an accepted step answers tells its engines.
-- Assumes nothing.
use Prim.Native.Nat.{ℕ, zero, suc}
use native.Mathlib.Omega.{arith}
use mathlib.Core.Path.{◌≡◌, refl, sym, ap, subst, ◌∙◌}
use mathlib.Core.Bool.{true, false, cond}
use mathlib.Core.Option.{Option, none, some}
use mathlib.Core.List.{List, [], ◌∷◌}
use lib.ListN.{get_or}
use Rattle.sock.specs.Words.{kind_of, name_fields, variable_of, name_of, first_variable, next_variable}
use Rattle.sock.specs.Variables.{head_variables, later_variables}
use Rattle.sock.specs.Term.{Node, node, kind, part_at, first_expr, entries_of}
use Rattle.sock.specs.Reading.{fixed_at}
use Rattle.sock.specs.Running.{Run, scope, executor, as_node}
use Rattle.sock.specs.Configuration.{Config}
use Rattle.sock.specs.Evaluation.{evaluate}
use Rattle.sock.specs.Frames.{Frame, is_done}
use Rattle.sock.specs.Rules.{Action, still, assign, branch, repeat, notify, solicit, install, throw, compensate, action, Message, Move, stuck, alone, unvalued, sends, valued, acting, once_done, move_of}
use Rattle.sock.specs.Calls.{Numbers, Spot, enabled_at, Stepped, answer_of}
use Rattle.sock.specs.Beside.{sending_kind, KindTellsEngines}
use Rattle.sock.proofs.Logic.{cond-case, all_some_lem}
use Rattle.sock.proofs.Fields.{head_kind, fields_below, scope_kind}
use Rattle.sock.proofs.Fits.{Sound, nil_sound, seq_sound, par_sound, scope_sound, executor_sound, waiter_sound, notice_sound, act_sound, FitsConfig}
use Rattle.sock.proofs.Singles.{executor_kind}
use Rattle.sock.proofs.Steps.{enabled_fits}
use Rattle.sock.proofs.Configuration.{config_found}
use Rattle.sock.proofs.Taken.{move_at, Taken, taken_alone, taken_between}
use Rattle.sock.proofs.Apart.{touched, touched_one, touched_two}
use Rattle.sock.proofs.Beside.{first_of, engines_read}

-- what a move says of the kind
data Tells (k : ℕ) : Move → Type 0 where
  tells_stuck : Tells k stuck
  tells_alone : {vs : List ℕ} {o : Option Run} → sending_kind k ≡ false → Tells k (alone vs o)
  tells_unvalued : Tells k unvalued
  tells_sends : {m : Message} → sending_kind k ≡ true → Tells k (sends m)

abbrev TellsAction : ℕ → Action → Type 0
TellsAction k still = Unit {0}
TellsAction k (assign x e) = sending_kind k ≡ false
TellsAction k (branch e p q) = sending_kind k ≡ false
TellsAction k (repeat e p) = sending_kind k ≡ false
TellsAction k (notify o y z) = sending_kind k ≡ true
TellsAction k (solicit o y z x l) = sending_kind k ≡ true
TellsAction k (install l) = sending_kind k ≡ false
TellsAction k (throw f) = sending_kind k ≡ false
TellsAction k (compensate q) = sending_kind k ≡ false

action_tells : (p : Node) → TellsAction (kind p) (action p)
unfolding action sending_kind
action_tells (node h f es b ps) = by (kind_of h)
  where
    by : (k : ℕ) → TellsAction k (get_or
        (still
        ∷ assign (variable_of h) (first_expr es)
        ∷ still
        ∷ still
        ∷ branch (first_expr es) (part_at ps 0) (part_at ps 1)
        ∷ repeat (first_expr es) (part_at ps 0)
        ∷ still
        ∷ still
        ∷ still
        ∷ notify (name_of h) (head_variables 1 h f) (first_variable (fixed_at f 0))
        ∷ solicit (name_of h) (head_variables 1 h f) (first_variable (fixed_at f 0)) (later_variables (next_variable (fixed_at f 0)) f) (entries_of b)
        ∷ still
        ∷ install (entries_of b)
        ∷ throw (name_of h)
        ∷ compensate (name_of h)
        ∷ [])
        k still)
    by zero = tt
    by (suc zero) = refl
    by (suc (suc zero)) = tt
    by (suc (suc (suc zero))) = tt
    by (suc (suc (suc (suc zero)))) = refl
    by (suc (suc (suc (suc (suc zero))))) = refl
    by (suc (suc (suc (suc (suc (suc zero)))))) = tt
    by (suc (suc (suc (suc (suc (suc (suc zero))))))) = tt
    by (suc (suc (suc (suc (suc (suc (suc (suc zero)))))))) = tt
    by (suc (suc (suc (suc (suc (suc (suc (suc (suc zero))))))))) = refl
    by (suc (suc (suc (suc (suc (suc (suc (suc (suc (suc zero)))))))))) = refl
    by (suc (suc (suc (suc (suc (suc (suc (suc (suc (suc (suc zero))))))))))) = tt
    by (suc (suc (suc (suc (suc (suc (suc (suc (suc (suc (suc (suc zero)))))))))))) = refl
    by (suc (suc (suc (suc (suc (suc (suc (suc (suc (suc (suc (suc (suc zero))))))))))))) = refl
    by (suc (suc (suc (suc (suc (suc (suc (suc (suc (suc (suc (suc (suc (suc zero)))))))))))))) = refl
    by (suc (suc (suc (suc (suc (suc (suc (suc (suc (suc (suc (suc (suc (suc (suc k))))))))))))))) = tt

module _ (vs : List ℕ) (fs : List Frame) where
  valued_tells : {k : ℕ} (o : Option ℕ) {move : ℕ → Move} → ((w : ℕ) → Tells k (move w)) → Tells k (valued o move)
  unfolding valued
  valued_tells none f = tells_unvalued
  valued_tells (some w) f = f w

  acting_tells : (p : Node) (a : Action) → TellsAction (kind p) a → Tells (kind p) (acting vs fs p a)
  unfolding acting
  acting_tells p still t = tells_stuck
  acting_tells p (assign x e) t = valued_tells (evaluate vs e) λ w. tells_alone t
  acting_tells p (branch e q r) t = valued_tells (evaluate vs e) λ w. tells_alone t
  acting_tells p (repeat e q) t = valued_tells (evaluate vs e) λ w. tells_alone t
  acting_tells p (install l) t = tells_alone t
  acting_tells p (compensate q) t = tells_alone t
  acting_tells p (throw f) t = tells_alone t
  acting_tells p (notify o y z) t = tells_sends t
  acting_tells p (solicit o y z x l) t = tells_sends t

  move_tells : {n issued : ℕ} {r : Run} → Sound n issued r → Tells (kind (as_node r)) (move_of vs fs r)
  unfolding move_of once_done as_node sending_kind
  move_tells nil_sound = tells_stuck
  move_tells (seq_sound a t q) = tells_stuck
  move_tells (par_sound a t b u) = tells_stuck
  move_tells (scope_sound {name} {mark} {zombie} {h} {a = p} b m fh a) =
      cond-case (λ m. Tells (kind (as_node (scope name mark zombie h p))) m) (is_done p)
      (λ d. tells_alone (ap sending_kind (scope_kind name mark zombie b))) (λ d. tells_stuck)
  move_tells (executor_sound {o} {y} {client} {serial} {a = p} bo by e a) =
      cond-case (λ m. Tells (kind (as_node (executor o y client serial p))) m) (is_done p)
      (λ d. tells_sends (ap sending_kind (executor_kind (executor_sound bo by e a)))) (λ d. tells_stuck)
  move_tells (waiter_sound bo bx e fl) = tells_stuck
  move_tells (notice_sound {o} bo bf e) = tells_sends (ap sending_kind (head_kind 18 (name_fields o 0) (fields_below o 0 bo (omega arith))))
  move_tells (act_sound {p} i f) = acting_tells p (action p) (action_tells p)

alone_tells : {k : ℕ} {vs : List ℕ} {o : Option Run} → Tells k (alone vs o) → sending_kind k ≡ false
alone_tells (tells_alone e) = e

sends_tells : {k : ℕ} {m : Message} → Tells k (sends m) → sending_kind k ≡ true
sends_tells (tells_sends e) = e

spot_tells : {c : Config} → FitsConfig c → (e p : ℕ) (a : Spot) → enabled_at c e p ≡ some a → Tells (kind (as_node a.process)) (move_at a)
spot_tells f e p a at = move_tells a.values a.frames (all_some_lem (enabled_fits f e p) at).process

taken_tells :
    {c : Config} {k : Numbers} {s : Stepped} →
    FitsConfig c → Taken c k s → touched c k ≡ k.engine ∷ cond (sending_kind s.kind) (k.second ∷ []) []
taken_tells {c} {k} f (taken_alone a vs p at e t) =
    let tells : sending_kind (kind (as_node a.process)) ≡ false = alone_tells (subst (Tells (kind (as_node a.process))) e (spot_tells f k.engine k.position a at)) in
    touched_one c k a at e ∙ sym (ap (λ b. k.engine ∷ cond b (k.second ∷ []) []) tells)
taken_tells {c} {k} f (taken_between a b m x at e meets t q) =
    let tells : sending_kind (kind (as_node a.process)) ≡ true = sends_tells (subst (Tells (kind (as_node a.process))) e (spot_tells f k.engine k.position a at)) in
    touched_two c k a at e ∙ sym (ap (λ b. k.engine ∷ cond b (k.second ∷ []) []) tells)

pub kind_tells_engines : KindTellsEngines
unfolding answer_of
kind_tells_engines limits ws k out a =
    let f = first_of limits ws k out a in
    engines_read limits ws k f.reads
    ∙ taken_tells (config_found limits ws f.config f.reads).1.fitting f.taken
    ∙ sym (ap (λ r. k.engine ∷ cond (sending_kind r.kind) (k.second ∷ []) []) f.answers)
