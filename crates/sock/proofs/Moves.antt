-- What a process's move does to the tallies of ends, for every test: killing, the climb and the moves alone keep them all; who sends
-- holds no end, or the working end that it delivers.
-- Assumes nothing.
use Prim.Native.Nat.{ℕ, zero, suc, ◌+◌, ◌*◌, ◌<◌}
use native.Mathlib.Omega.{arith}
use mathlib.Core.Path.{◌≡◌, refl, sym, ◌∙◌}
use mathlib.Core.Bool.{Bool, true, false, not, cond}
use mathlib.Core.Option.{Option, none, some}
use mathlib.Core.List.{List, [], ◌∷◌}
use lib.Dec.{eqb, lit<}
use lib.ListN.{get_or}
use borrow.Author.Tests.{ne_eqb}
use Rattle.sock.specs.Kind
use Rattle.sock.specs.Words.{bit, head_of, name_fields, kind_of, variable_of, name_of, fault_key, first_variable, next_variable, scope_key}
use Rattle.sock.specs.Variables.{first_of, head_variables, later_variables}
use Rattle.sock.specs.Term.{Node, node, Entries, no_entries, entry, kind, part_at, first_expr, entries_of}
use Rattle.sock.specs.Reading.{fixed_at, holds}
use Rattle.sock.specs.Running.{Mark, unmarked, faulted, own_name, mark_number, Run, nil, seq, par, scope, executor, waiter, notice, act, as_node, enable}
use Rattle.sock.specs.Evaluation.{evaluate, is_true}
use Rattle.sock.specs.Handlers.{handler, without, update}
use Rattle.sock.specs.Frames.{Frame, seq_frame, left_frame, right_frame, scope_frame, executor_frame, is_done, seq_of, par_of, plug, nearest, on_nearest}
use Rattle.sock.specs.Rules.{kill, climb, Action, still, assign, branch, repeat, notify, solicit, install, throw, compensate, action, notification, solicitation, reply, failure, Move, stuck, alone, unvalued, sends, valued, ending, acting, once_done, move_of}
use Rattle.sock.specs.Calls.{End, working, tally, works}
use Rattle.sock.specs.Runs.{is_solicit, carries}
use Rattle.sock.proofs.Logic.{cond-case, All, all_some, all_also, all_guarded}
use Rattle.sock.proofs.Tallies.{enable_tally, done_tally, seq_of_tally, par_of_tally, around, plug_tally, nearest_tally}

-- for every test, a process holds n ends
abbrev pub Holds : ((End → Bool) → ℕ) → Run → Type 0
Holds n r = (t : End → Bool) → tally t r ≡ n t

-- ---- killing and the climb

abbrev As : Run → Run → Type 0
As r = Holds (λ t. tally t r)

kill_tally : (f : ℕ) (r : Run) → All (As r) (kill f r)
unfolding kill tally
kill_tally f nil = all_some (λ t. refl)
kill_tally f (seq p q) = kill_tally f p
kill_tally f (par p q) =
    all_also (kill_tally f p) λ p' x. all_also (kill_tally f q) λ q' y. all_some (λ t. omega (arith, x t, y t, par_of_tally t p' q'))
kill_tally f (scope name mark true h p) = all_also (kill_tally f p) λ p' x. all_some (λ t. refl)
kill_tally f (scope name mark false h p) = all_guarded (not (is_done p)) λ u. all_also (kill_tally f p) λ p' x. all_some x
kill_tally f (executor o y client serial p) =
    all_also (kill_tally f p) λ p' x. all_some (λ t. omega (arith, x t, par_of_tally t p' (notice o f client serial)))
kill_tally f (waiter o x dead server serial l) = all_some (λ t. refl)
kill_tally f (notice o g client serial) = all_some (λ t. refl)
kill_tally f (act p) = all_guarded (not (eqb (kind p) Kind.inst)) λ u. all_some (λ t. refl)

-- what is left in frames, given what they and the process held
plug_holds : {n : (End → Bool) → ℕ} (fs : List Frame) (p : Run) → ((t : End → Bool) → around t fs + tally t p ≡ n t) → Holds n (plug fs p)
plug_holds fs p h t = plug_tally t fs p ∙ h t

climb_tally :
    (f : ℕ) (fs : List Frame) (p : Run) (n : (End → Bool) → ℕ) →
    ((t : End → Bool) → around t fs + tally t p ≡ n t) →
    All (Holds n) (climb f fs p)
unfolding climb tally around
climb_tally f [] p n h = all_some {a = p} (λ t. omega (arith, h t))
climb_tally f (seq_frame q ∷ fs) p n h = climb_tally f fs p n h
climb_tally f (left_frame q ∷ fs) p n h =
    all_also (kill_tally f q) λ q' x. climb_tally f fs (par_of p q') n (λ t. omega (arith, h t, x t, par_of_tally t p q'))
climb_tally f (right_frame q ∷ fs) p n h =
    all_also (kill_tally f q) λ q' x. climb_tally f fs (par_of q' p) n (λ t. omega (arith, h t, x t, par_of_tally t q' p))
climb_tally f (executor_frame o y client serial ∷ fs) p n h =
    climb_tally f fs (par_of p (notice o f client serial)) n (λ t. omega (arith, h t, par_of_tally t p (notice o f client serial)))
climb_tally f (scope_frame name mark zombie hs ∷ fs) p n h =
    cond-case (λ o. All (Holds n) o) (holds (fault_key f) hs)
    (λ u. all_some (plug_holds fs (scope name (faulted f) zombie hs p) h))
    (λ u. cond-case (λ o. All (Holds n) o) zombie
    (λ v. all_some (plug_holds fs (scope name mark zombie hs p) h))
    (λ v. climb_tally f fs (scope name unmarked true hs p) n h))

-- ---- which process solicits

abbrev asks : Action → Bool
asks still = false
asks (assign x e) = false
asks (branch e p q) = false
asks (repeat e p) = false
asks (notify o y z) = false
asks (solicit o y z x l) = true
asks (install l) = false
asks (throw f) = false
asks (compensate q) = false

action_asks : (p : Node) → eqb (kind p) Kind.solicit ≡ asks (action p)
unfolding action
action_asks (node h f es b ps) = by (kind_of h)
  where
    by : (k : ℕ) → eqb k Kind.solicit ≡ asks (get_or
        (still
        ∷ assign (variable_of h) (first_expr es)
        ∷ still
        ∷ still
        ∷ branch (first_expr es) (part_at ps 0) (part_at ps 1)
        ∷ repeat (first_expr es) (part_at ps 0)
        ∷ still
        ∷ still
        ∷ still
        ∷ notify (name_of h) (head_variables 1 h f) (first_variable (fixed_at f 0))
        ∷ solicit (name_of h) (head_variables 1 h f) (first_variable (fixed_at f 0)) (later_variables (next_variable (fixed_at f 0)) f) (entries_of b)
        ∷ still
        ∷ install (entries_of b)
        ∷ throw (name_of h)
        ∷ compensate (name_of h)
        ∷ [])
        k still)
    by zero = refl
    by (suc zero) = refl
    by (suc (suc zero)) = refl
    by (suc (suc (suc zero))) = refl
    by (suc (suc (suc (suc zero)))) = refl
    by (suc (suc (suc (suc (suc zero))))) = refl
    by (suc (suc (suc (suc (suc (suc zero)))))) = refl
    by (suc (suc (suc (suc (suc (suc (suc zero))))))) = refl
    by (suc (suc (suc (suc (suc (suc (suc (suc zero)))))))) = refl
    by (suc (suc (suc (suc (suc (suc (suc (suc (suc zero))))))))) = refl
    by (suc (suc (suc (suc (suc (suc (suc (suc (suc (suc zero)))))))))) = refl
    by (suc (suc (suc (suc (suc (suc (suc (suc (suc (suc (suc zero))))))))))) = refl
    by (suc (suc (suc (suc (suc (suc (suc (suc (suc (suc (suc (suc zero)))))))))))) = refl
    by (suc (suc (suc (suc (suc (suc (suc (suc (suc (suc (suc (suc (suc zero))))))))))))) = refl
    by (suc (suc (suc (suc (suc (suc (suc (suc (suc (suc (suc (suc (suc (suc zero)))))))))))))) = refl
    by (suc (suc (suc (suc (suc (suc (suc (suc (suc (suc (suc (suc (suc (suc (suc k))))))))))))))) = ne_eqb (suc (suc (suc (suc (suc (suc (suc (suc (suc (suc (suc (suc (suc (suc (suc k))))))))))))))) 10 (λ e. omega arith)

-- a process of a later kind does not, whatever its fields
later_kind : (k fields : ℕ) → 10 < k → eqb (kind_of (head_of k fields)) Kind.solicit ≡ false
later_kind k fields h = ne_eqb (kind_of (head_of k fields)) 10 (λ e. omega arith)

-- ---- moves

-- a process that neither solicits nor delivers
pub record Quiet (p : Run) : Type 0 where
  pub asks : is_solicit p ≡ false
  pub delivers : (s : ℕ) → carries s p ≡ false

-- a process that delivers the serial, and holds no end but its own
pub record Delivers (p : Run) (serial o client : ℕ) : Type 0 where
  pub own : Holds (λ t. bit (t (working serial o client))) p
  pub asks : is_solicit p ≡ false
  pub delivers : (s : ℕ) → carries s p ≡ eqb s serial

abbrev pub Endless : Run → Type 0
Endless = Holds (λ t. 0)

-- what the process p does in its frames
pub data Moves (fs : List Frame) (p : Run) : Move → Type 0 where
  stuck_moves : Moves fs p stuck
  unvalued_moves : Moves fs p unvalued
  alone_moves : {vs : List ℕ} {o : Option Run} → Quiet p → All (Holds (λ t. around t fs + tally t p)) o → Moves fs p (alone vs o)
  notifies : {o z : ℕ} {v : List ℕ} → Quiet p → Endless p → Moves fs p (sends (notification o v z))
  asking :
      {o z : ℕ} {v x : List ℕ} {l : Entries} →
      is_solicit p ≡ true →
      ((s : ℕ) → carries s p ≡ false) →
      Endless p →
      Moves fs p (sends (solicitation o v z x l))
  replies : {o client serial : ℕ} {v : List ℕ} → Delivers p serial o client → Moves fs p (sends (reply o v client serial))
  faults : {o f client serial : ℕ} → Delivers p serial o client → Moves fs p (sends (failure o f client serial))

module _ (vs : List ℕ) (fs : List Frame) where
  -- a move alone to a process that holds as many ends, in the frames or with the nearest scope's list changed
  lone_moves :
      {vs' : List ℕ} {p : Run} (q : Run) → Quiet p → ((t : End → Bool) → tally t q ≡ tally t p) → Moves fs p (alone vs' (some (plug fs q)))
  lone_moves q u h = alone_moves u (all_some (plug_holds fs q (λ t. omega (arith, h t))))

  changed_moves :
      {vs' : List ℕ} {p : Run} (change : Entries → Entries) (q : Run) →
      Quiet p → ((t : End → Bool) → tally t q ≡ tally t p) → Moves fs p (alone vs' (some (plug (on_nearest change fs) q)))
  changed_moves change q u h =
      alone_moves u (all_some (plug_holds (on_nearest change fs) q (λ t. omega (arith, nearest_tally t change fs, h t))))

  ending_moves :
      (name : ℕ) (mark : Mark) (zombie : Bool) (h : Entries) (p : Run) →
      Quiet p → Endless p → Moves fs p (alone vs (some (ending name mark zombie h fs)))
  unfolding ending tally
  ending_moves name (faulted f) zombie h p u z = lone_moves _ u (λ t. enable_tally t (handler (fault_key f) h) ∙ sym (z t))
  ending_moves name own_name zombie h p u z = lone_moves _ u (λ t. enable_tally t (handler (scope_key name) h) ∙ sym (z t))
  ending_moves name unmarked true h p u z = lone_moves nil u (λ t. sym (z t))
  ending_moves name unmarked false h p u z =
      changed_moves (λ outer. update outer (entry (scope_key name) (handler (scope_key name) h) no_entries)) nil u (λ t. sym (z t))

  quiet_act : (p : Node) → eqb (kind p) Kind.solicit ≡ false → Quiet (act p)
  unfolding is_solicit as_node carries
  quiet_act p e = record { asks = e; delivers = λ s. refl }

  valued_moves : {p : Run} (o : Option ℕ) {move : ℕ → Move} → ((w : ℕ) → Moves fs p (move w)) → Moves fs p (valued o move)
  unfolding valued
  valued_moves none f = unvalued_moves
  valued_moves (some w) f = f w

  acting_moves : (p : Node) (a : Action) → eqb (kind p) Kind.solicit ≡ asks a → Moves fs (act p) (acting vs fs p a)
  unfolding acting tally is_solicit as_node carries
  acting_moves p still e = stuck_moves
  acting_moves p (assign x v) e = valued_moves (evaluate vs v) λ w. lone_moves nil (quiet_act p e) (λ t. refl)
  acting_moves p (branch v q r) e =
      valued_moves (evaluate vs v) λ w.
      lone_moves (enable (cond (is_true w) q r)) (quiet_act p e) (λ t. enable_tally t (cond (is_true w) q r))
  acting_moves p (repeat v q) e =
      valued_moves (evaluate vs v) λ w.
      lone_moves (cond (is_true w) (seq_of (enable q) p) nil) (quiet_act p e) λ t.
      cond-case (λ r. tally t r ≡ 0) (is_true w) (λ u. seq_of_tally t (enable q) p ∙ enable_tally t q) (λ u. refl)
  acting_moves p (install l) e = changed_moves (λ h. update h l) nil (quiet_act p e) (λ t. refl)
  acting_moves p (compensate q) e =
      changed_moves (without (scope_key q)) (enable (handler (scope_key q) (nearest fs))) (quiet_act p e) (λ t. enable_tally t (handler (scope_key q) (nearest fs)))
  acting_moves p (throw f) e = alone_moves (quiet_act p e) (climb_tally f fs nil (λ t. around t fs + 0) (λ t. refl))
  acting_moves p (notify o y z) e = notifies (quiet_act p e) (λ t. refl)
  acting_moves p (solicit o y z x l) e = asking e (λ s. refl) (λ t. refl)

  pub move_moves : (p : Run) → Moves fs p (move_of vs fs p)
  unfolding move_of once_done tally is_solicit as_node carries works
  move_moves nil = stuck_moves
  move_moves (seq p q) = stuck_moves
  move_moves (par p q) = stuck_moves
  move_moves (scope name mark zombie h p) =
      cond-case (λ m. Moves fs (scope name mark zombie h p) m) (is_done p)
      (λ d. ending_moves name mark zombie h (scope name mark zombie h p) (record { asks = later_kind Kind.scope (name * 32 + mark_number mark * 8 + bit zombie * 4) (lit< tt); delivers = λ s. refl }) (λ t. done_tally t p d))
      (λ d. stuck_moves)
  move_moves (executor o y client serial p) =
      cond-case (λ m. Moves fs (executor o y client serial p) m) (is_done p)
      (λ d. replies (record { own = λ t. omega (arith, done_tally t p d); asks = later_kind Kind.executor (name_fields o (first_of y)) (lit< tt); delivers = λ s. refl }))
      (λ d. stuck_moves)
  move_moves (waiter o x dead server serial l) = stuck_moves
  move_moves (notice o f client serial) = faults (record { own = λ t. refl; asks = later_kind Kind.notice (name_fields o 0) (lit< tt); delivers = λ s. refl })
  move_moves (act p) = acting_moves p (action p) (action_asks p)
