-- What every rule keeps, over two tests: one that nodes pass wherever they stand, and one that the variables of a waiter or an executor pass
-- with its serial. A solicit alone makes ends. Instances: counts that agree (Agreement), lists of one variable (Singles).
-- Assumes nothing.
use Prim.Native.Nat.{ℕ, zero, suc, ◌+◌, ◌-◌, ◌*◌, ◌<◌}
use mathlib.Core.Path.{◌≡◌, refl}
use mathlib.Core.Bool.{Bool, true, false, not, ◌&&◌}
use mathlib.Core.Option.{Option, none, some}
use mathlib.Core.List.{List, [], ◌∷◌}
use lib.Dec.{T, ltb, eqb, eqb→eq}
use lib.ListN.{length, get_or, take}
use Rattle.sock.specs.Kind
use Rattle.sock.specs.Words.{kind_of, count_of, variable_of, name_of, fault_key, scope_key, first_variable, next_variable}
use Rattle.sock.specs.Variables.{variable_words, head_variables, later_variables}
use Rattle.sock.specs.Term.{Expr, Node, node, Block, Entries, no_entries, entry, Nodes, no_parts, ◌&◌, kind, part_at, first_expr, entries_of}
use Rattle.sock.specs.Layout.{entries_words}
use Rattle.sock.specs.Reading.{fixed_at, holds}
use Rattle.sock.specs.Running.{Mark, unmarked, faulted, own_name, Run, nil, seq, par, scope, executor, waiter, notice, act, size, Form, nil_form, seq_form, par_form, scope_form, executor_form, waiter_form, notice_form, plain, forms, in_form, opened, all_opened, enable}
use Rattle.sock.specs.Configuration.{Config}
use Rattle.sock.specs.Evaluation.{evaluate, is_true}
use Rattle.sock.specs.Handlers.{handler, without, update}
use Rattle.sock.specs.Frames.{Frame, seq_frame, left_frame, right_frame, scope_frame, executor_frame, Located, locate, is_done, seq_of, par_of, plug, nearest, on_nearest}
use Rattle.sock.specs.Rules.{kill, climb, Action, still, assign, branch, repeat, notify, solicit, install, throw, compensate, action, Message, notification, solicitation, reply, failure, Move, stuck, alone, unvalued, sends, valued, ending, acting, once_done, move_of, Receiver, deaf, hears, serves, receiver, Offer, chosen, bare, offered, offer, followed, Meeting, offered_to, if_hears, if_serves, if_waits, awaited, inst_of, throw_of, Exchange, exchange}
use Rattle.sock.specs.Calls.{Numbers, Spot, movable, Effect, lone, between, meeting, effect}
use Rattle.sock.proofs.Logic.{and_right, cond-case, All, all_none, all_some, all_also, all_guarded}
use Rattle.sock.proofs.Frames.{all_here, all_past}
use Rattle.sock.proofs.Tallies.{endless, code_endless}
use Rattle.sock.proofs.Fields.{name_below}

-- N of nodes, L of lists of handlers, X of the variables that a node names; a rule makes no other nodes and lists than these
pub record Closed (N : Node → Type 0) (L : Entries → Type 0) (X : List ℕ → Type 0) : Type 0 where
  pub part : {h : ℕ} {f : List ℕ} {es : List Expr} {b : Block} {ps : Nodes} → N (node h f es b ps) → (i : ℕ) → N (part_at ps i)
  pub listed : {h : ℕ} {f : List ℕ} {es : List Expr} {b : Block} {ps : Nodes} → N (node h f es b ps) → L (entries_of b)
  pub under : (k : ℕ) {h : Entries} → L h → N (handler k h)
  pub less : (k : ℕ) {h : Entries} → L h → L (without k h)
  pub updated : {h l : Entries} → L h → L l → L (update h l)
  pub empty : L no_entries
  pub one : (k : ℕ) {p : Node} → N p → L (entry k p no_entries)
  pub installs : {l : Entries} → L l → N (inst_of l)
  pub throws : (f : ℕ) → f < 64 → N (throw_of f)
  pub asks :
      {h : ℕ} {f : List ℕ} {es : List Expr} {b : Block} {ps : Nodes} →
      kind_of h ≡ Kind.solicit →
      N (node h f es b ps) →
      X (later_variables (next_variable (fixed_at f 0)) f)
  pub answers :
      {h : ℕ} {f : List ℕ} {es : List Expr} {b : Block} {ps : Nodes} →
      kind_of h ≡ Kind.request →
      N (node h f es b ps) →
      X (later_variables (first_variable (fixed_at f 0)) f)

pub data Kept (N : Node → Type 0) (L : Entries → Type 0) (E : ℕ → List ℕ → Type 0) : Run → Type 0 where
  nil_kept : Kept N L E nil
  seq_kept : {a : Run} {q : Node} → Kept N L E a → N q → Kept N L E (seq a q)
  par_kept : {a b : Run} → Kept N L E a → Kept N L E b → Kept N L E (par a b)
  scope_kept : {name : ℕ} {mark : Mark} {zombie : Bool} {h : Entries} {a : Run} → L h → Kept N L E a → Kept N L E (scope name mark zombie h a)
  executor_kept : {o : ℕ} {y : List ℕ} {client serial : ℕ} {a : Run} → E serial y → Kept N L E a → Kept N L E (executor o y client serial a)
  waiter_kept : {o : ℕ} {x : List ℕ} {dead : Bool} {server serial : ℕ} {l : Entries} → E serial x → L l → Kept N L E (waiter o x dead server serial l)
  notice_kept : {o f client serial : ℕ} → f < 64 → Kept N L E (notice o f client serial)
  act_kept : {p : Node} → N p → Kept N L E (act p)

pub data KeptFrames (N : Node → Type 0) (L : Entries → Type 0) (E : ℕ → List ℕ → Type 0) : List Frame → Type 0 where
  no_frames_kept : KeptFrames N L E []
  seq_frame_kept : {q : Node} {fs : List Frame} → N q → KeptFrames N L E fs → KeptFrames N L E (seq_frame q ∷ fs)
  left_frame_kept : {b : Run} {fs : List Frame} → Kept N L E b → KeptFrames N L E fs → KeptFrames N L E (left_frame b ∷ fs)
  right_frame_kept : {b : Run} {fs : List Frame} → Kept N L E b → KeptFrames N L E fs → KeptFrames N L E (right_frame b ∷ fs)
  scope_frame_kept :
      {name : ℕ} {mark : Mark} {zombie : Bool} {h : Entries} {fs : List Frame} →
      L h →
      KeptFrames N L E fs →
      KeptFrames N L E (scope_frame name mark zombie h ∷ fs)
  executor_frame_kept :
      {o : ℕ} {y : List ℕ} {client serial : ℕ} {fs : List Frame} →
      E serial y →
      KeptFrames N L E fs →
      KeptFrames N L E (executor_frame o y client serial ∷ fs)

module _ {N : Node → Type 0} {L : Entries → Type 0} {X : List ℕ → Type 0} (closed : Closed N L X) (E : ℕ → List ℕ → Type 0) where
  abbrev Keeps : Run → Type 0
  Keeps = Kept N L E

  abbrev KeepsFrames : List Frame → Type 0
  KeepsFrames = KeptFrames N L E

  -- ---- code that becomes enabled

  form_kept :
      (g : Form) → T (endless g) →
      (h : ℕ) (f : List ℕ) (es : List Expr) (b : Block) (ps : Nodes) (rs : List Run) →
      N (node h f es b ps) →
      ((i : ℕ) → Keeps (get_or rs i nil)) →
      Keeps (in_form g h f es b ps rs)
  unfolding in_form
  form_kept nil_form e h f es b ps rs m z = nil_kept
  form_kept seq_form e h f es b ps rs m z = seq_kept (z 0) (closed.part m 1)
  form_kept par_form e h f es b ps rs m z = par_kept (z 0) (z 1)
  form_kept scope_form e h f es b ps rs m z = scope_kept (closed.listed m) (z 0)
  form_kept executor_form e h f es b ps rs m z = absurd e
  form_kept waiter_form e h f es b ps rs m z = absurd e
  form_kept notice_form e h f es b ps rs m z = absurd e
  form_kept plain e h f es b ps rs m z = act_kept m

  mutual
    unfolding opened all_opened

    opened_kept : (m : Node) → N m → Keeps (opened (take 12 forms) m)
    opened_kept (node h f es b ps) m =
        form_kept (get_or (take 12 forms) (kind_of h) plain) (code_endless (kind_of h)) h f es b ps (all_opened (take 12 forms) ps) m
        λ i. parts_kept ps (λ i. closed.part m i) i

    parts_kept : (ps : Nodes) → ((i : ℕ) → N (part_at ps i)) → (i : ℕ) → Keeps (get_or (all_opened (take 12 forms) ps) i nil)
    parts_kept no_parts g i = nil_kept
    parts_kept (p & ps) g zero = opened_kept p (g zero)
    parts_kept (p & ps) g (suc i) = parts_kept ps (λ i. g (suc i)) i

  pub enable_kept : {m : Node} → N m → Keeps (enable m)
  unfolding enable
  enable_kept {m} n = opened_kept m n

  -- ---- terms rebuilt, and frames

  pub seq_of_kept : {a : Run} {q : Node} → Keeps a → N q → Keeps (seq_of a q)
  unfolding seq_of
  seq_of_kept {a} g n = cond-case Keeps (is_done a) (λ t. enable_kept n) (λ t. seq_kept g n)

  par_of_kept : {a b : Run} → Keeps a → Keeps b → Keeps (par_of a b)
  unfolding par_of
  par_of_kept {a} {b} g h = cond-case Keeps (is_done a) (λ t. h) (λ t. cond-case Keeps (is_done b) (λ u. g) (λ u. par_kept g h))

  pub plug_kept : {fs : List Frame} {a : Run} → KeepsFrames fs → Keeps a → Keeps (plug fs a)
  unfolding plug
  plug_kept no_frames_kept g = g
  plug_kept (seq_frame_kept n k) g = plug_kept k (seq_of_kept g n)
  plug_kept (left_frame_kept h k) g = plug_kept k (par_of_kept g h)
  plug_kept (right_frame_kept h k) g = plug_kept k (par_of_kept h g)
  plug_kept (scope_frame_kept l k) g = plug_kept k (scope_kept l g)
  plug_kept (executor_frame_kept e k) g = plug_kept k (executor_kept e g)

  on_nearest_kept : (change : Entries → Entries) → ((h : Entries) → L h → L (change h)) → {fs : List Frame} → KeepsFrames fs → KeepsFrames (on_nearest change fs)
  unfolding on_nearest
  on_nearest_kept change c no_frames_kept = no_frames_kept
  on_nearest_kept change c (seq_frame_kept n k) = seq_frame_kept n (on_nearest_kept change c k)
  on_nearest_kept change c (left_frame_kept h k) = left_frame_kept h (on_nearest_kept change c k)
  on_nearest_kept change c (right_frame_kept h k) = right_frame_kept h (on_nearest_kept change c k)
  on_nearest_kept change c (scope_frame_kept {h = h} l k) = scope_frame_kept (c h l) k
  on_nearest_kept change c (executor_frame_kept e k) = executor_frame_kept e (on_nearest_kept change c k)

  nearest_kept : {fs : List Frame} → KeepsFrames fs → L (nearest fs)
  unfolding nearest
  nearest_kept no_frames_kept = closed.empty
  nearest_kept (seq_frame_kept n k) = nearest_kept k
  nearest_kept (left_frame_kept h k) = nearest_kept k
  nearest_kept (right_frame_kept h k) = nearest_kept k
  nearest_kept (scope_frame_kept l k) = l
  nearest_kept (executor_frame_kept e k) = nearest_kept k

  pub record Found (l : Located) : Type 0 where
    pub frames : KeepsFrames l.frames
    pub process : Keeps l.process

  pub locate_kept : {r : Run} (p : ℕ) {fs : List Frame} → KeepsFrames fs → Keeps r → All Found (locate r p fs)
  unfolding locate
  locate_kept p k nil_kept = all_here p _ (record { frames = k; process = nil_kept }) all_none
  locate_kept p k (seq_kept g n) = all_here p _ (record { frames = k; process = seq_kept g n }) (all_past 1 p λ i. locate_kept i (seq_frame_kept n k) g)
  locate_kept p k (par_kept {a = a} g h) =
      all_here p _ (record { frames = k; process = par_kept g h })
      (all_past 1 p λ i. cond-case (λ o. All Found o) (ltb i (size a))
      (λ u. locate_kept i (left_frame_kept h k) g)
      (λ u. locate_kept (i - size a) (right_frame_kept g k) h))
  locate_kept p k (scope_kept {h = hs} l g) =
      all_here p _ (record { frames = k; process = scope_kept l g }) (all_past (3 + length (entries_words hs)) p λ i. locate_kept i (scope_frame_kept l k) g)
  locate_kept p k (executor_kept {y = y} e g) =
      all_here p _ (record { frames = k; process = executor_kept e g }) (all_past (3 + length (variable_words y)) p λ i. locate_kept i (executor_frame_kept e k) g)
  locate_kept p k (waiter_kept e l) = all_here p _ (record { frames = k; process = waiter_kept e l }) all_none
  locate_kept p k (notice_kept b) = all_here p _ (record { frames = k; process = notice_kept b }) all_none
  locate_kept p k (act_kept n) = all_here p _ (record { frames = k; process = act_kept n }) all_none

  -- ---- killing, the climb, the moves alone

  kill_kept : {f : ℕ} → f < 64 → {r : Run} → Keeps r → All Keeps (kill f r)
  unfolding kill
  kill_kept b nil_kept = all_some nil_kept
  kill_kept b (seq_kept g n) = kill_kept b g
  kill_kept b (par_kept g h) = all_also (kill_kept b g) λ p' x. all_also (kill_kept b h) λ q' y. all_some (par_of_kept x y)
  kill_kept b (scope_kept {zombie = true} l g) = all_also (kill_kept b g) λ p' x. all_some (scope_kept l g)
  kill_kept b (scope_kept {zombie = false} {a = p} l g) = all_guarded (not (is_done p)) λ u. all_also (kill_kept b g) λ p' x. all_some (scope_kept l x)
  kill_kept b (executor_kept e g) = all_also (kill_kept b g) λ p' x. all_some (par_of_kept x (notice_kept b))
  kill_kept b (waiter_kept e l) = all_some (waiter_kept e l)
  kill_kept b (notice_kept c) = all_some (notice_kept c)
  kill_kept b (act_kept {p = p} n) = all_guarded (not (eqb (kind p) Kind.inst)) λ u. all_some nil_kept

  climb_kept : {f : ℕ} → f < 64 → {fs : List Frame} {p : Run} → KeepsFrames fs → Keeps p → All Keeps (climb f fs p)
  unfolding climb
  climb_kept b no_frames_kept g = all_some g
  climb_kept b (seq_frame_kept n k) g = climb_kept b k g
  climb_kept b (left_frame_kept h k) g = all_also (kill_kept b h) λ q' x. climb_kept b k (par_of_kept g x)
  climb_kept b (right_frame_kept h k) g = all_also (kill_kept b h) λ q' x. climb_kept b k (par_of_kept x g)
  climb_kept b (executor_frame_kept e k) g = climb_kept b k (par_of_kept g (notice_kept b))
  climb_kept {f} b (scope_frame_kept {zombie = zombie} {h = h} l k) g =
      cond-case (λ o. All Keeps o) (holds (fault_key f) h)
      (λ t. all_some (plug_kept k (scope_kept l g)))
      (λ t. cond-case (λ o. All Keeps o) zombie (λ u. all_some (plug_kept k (scope_kept l g))) (λ u. climb_kept b k (scope_kept l g)))

  -- what a process does
  data KeptAction : Action → Type 0 where
    still_kept : KeptAction still
    assign_kept : {x : ℕ} {e : Expr} → KeptAction (assign x e)
    branch_kept : {e : Expr} {p q : Node} → N p → N q → KeptAction (branch e p q)
    repeat_kept : {e : Expr} {p : Node} → N p → KeptAction (repeat e p)
    notify_kept : {o z : ℕ} {y : List ℕ} → KeptAction (notify o y z)
    solicit_kept : {o z : ℕ} {y x : List ℕ} {l : Entries} → X x → L l → KeptAction (solicit o y z x l)
    install_kept : {l : Entries} → L l → KeptAction (install l)
    throw_kept : {f : ℕ} → f < 64 → KeptAction (throw f)
    compensate_kept : {q : ℕ} → KeptAction (compensate q)

  action_kept : (p : Node) → N p → KeptAction (action p)
  unfolding action
  action_kept (node h f es b ps) n = by (kind_of h) refl
    where
      by : (k : ℕ) → kind_of h ≡ k → KeptAction (get_or
          (still
          ∷ assign (variable_of h) (first_expr es)
          ∷ still
          ∷ still
          ∷ branch (first_expr es) (part_at ps 0) (part_at ps 1)
          ∷ repeat (first_expr es) (part_at ps 0)
          ∷ still
          ∷ still
          ∷ still
          ∷ notify (name_of h) (head_variables 1 h f) (first_variable (fixed_at f 0))
          ∷ solicit (name_of h) (head_variables 1 h f) (first_variable (fixed_at f 0)) (later_variables (next_variable (fixed_at f 0)) f) (entries_of b)
          ∷ still
          ∷ install (entries_of b)
          ∷ throw (name_of h)
          ∷ compensate (name_of h)
          ∷ [])
          k still)
      by zero q = still_kept
      by (suc zero) q = assign_kept
      by (suc (suc zero)) q = still_kept
      by (suc (suc (suc zero))) q = still_kept
      by (suc (suc (suc (suc zero)))) q = branch_kept (closed.part n 0) (closed.part n 1)
      by (suc (suc (suc (suc (suc zero))))) q = repeat_kept (closed.part n 0)
      by (suc (suc (suc (suc (suc (suc zero)))))) q = still_kept
      by (suc (suc (suc (suc (suc (suc (suc zero))))))) q = still_kept
      by (suc (suc (suc (suc (suc (suc (suc (suc zero)))))))) q = still_kept
      by (suc (suc (suc (suc (suc (suc (suc (suc (suc zero))))))))) q = notify_kept
      by (suc (suc (suc (suc (suc (suc (suc (suc (suc (suc zero)))))))))) q = solicit_kept (closed.asks q n) (closed.listed n)
      by (suc (suc (suc (suc (suc (suc (suc (suc (suc (suc (suc zero))))))))))) q = still_kept
      by (suc (suc (suc (suc (suc (suc (suc (suc (suc (suc (suc (suc zero)))))))))))) q = install_kept (closed.listed n)
      by (suc (suc (suc (suc (suc (suc (suc (suc (suc (suc (suc (suc (suc zero))))))))))))) q = throw_kept (name_below h)
      by (suc (suc (suc (suc (suc (suc (suc (suc (suc (suc (suc (suc (suc (suc zero)))))))))))))) q = compensate_kept
      by (suc (suc (suc (suc (suc (suc (suc (suc (suc (suc (suc (suc (suc (suc (suc k))))))))))))))) q = still_kept

  pub data KeptMessage : Message → Type 0 where
    notification_kept : {o z : ℕ} {v : List ℕ} → KeptMessage (notification o v z)
    solicitation_kept : {o z : ℕ} {v x : List ℕ} {l : Entries} → X x → L l → KeptMessage (solicitation o v z x l)
    reply_kept : {o client serial : ℕ} {v : List ℕ} → KeptMessage (reply o v client serial)
    failure_kept : {o f client serial : ℕ} → f < 64 → KeptMessage (failure o f client serial)

  -- what a move leaves
  pub data KeptMove : Move → Type 0 where
    stuck_kept : KeptMove stuck
    alone_kept : {vs : List ℕ} {o : Option Run} → All Keeps o → KeptMove (alone vs o)
    unvalued_kept : KeptMove unvalued
    sends_kept : {m : Message} → KeptMessage m → KeptMove (sends m)

  module _ (vs : List ℕ) {fs : List Frame} (k : KeepsFrames fs) where
    left : {vs' : List ℕ} {p : Run} → Keeps p → KeptMove (alone vs' (some (plug fs p)))
    left g = alone_kept (all_some (plug_kept k g))

    -- the same where the nearest scope's list changes too
    changed :
        {vs' : List ℕ} {p : Run} (change : Entries → Entries) → ((h : Entries) → L h → L (change h)) → Keeps p →
        KeptMove (alone vs' (some (plug (on_nearest change fs) p)))
    changed change c g = alone_kept (all_some (plug_kept (on_nearest_kept change c k) g))

    ending_kept : (name : ℕ) (mark : Mark) (zombie : Bool) {h : Entries} → L h → KeptMove (alone vs (some (ending name mark zombie h fs)))
    unfolding ending
    ending_kept name (faulted f) zombie l = left (scope_kept (closed.less (fault_key f) l) (enable_kept (closed.under (fault_key f) l)))
    ending_kept name own_name zombie l = left (scope_kept (closed.less (scope_key name) l) (enable_kept (closed.under (scope_key name) l)))
    ending_kept name unmarked true l = left nil_kept
    ending_kept name unmarked false {h} l =
        changed (λ outer. update outer (entry (scope_key name) (handler (scope_key name) h) no_entries))
        (λ h o. closed.updated o (closed.one (scope_key name) (closed.under (scope_key name) l)))
        nil_kept

    valued_kept : (o : Option ℕ) {move : ℕ → Move} → ((w : ℕ) → KeptMove (move w)) → KeptMove (valued o move)
    unfolding valued
    valued_kept none f = unvalued_kept
    valued_kept (some w) f = f w

    acting_kept : {p : Node} → N p → {a : Action} → KeptAction a → KeptMove (acting vs fs p a)
    unfolding acting
    acting_kept n still_kept = stuck_kept
    acting_kept n (assign_kept {e = e}) = valued_kept (evaluate vs e) λ w. left nil_kept
    acting_kept n (branch_kept {e = e} g h) = valued_kept (evaluate vs e) λ w. left (enable_kept (cond-case N (is_true w) (λ t. g) (λ t. h)))
    acting_kept n (repeat_kept {e = e} g) =
        valued_kept (evaluate vs e) λ w. left (cond-case Keeps (is_true w) (λ t. seq_of_kept (enable_kept g) n) (λ t. nil_kept))
    acting_kept n (install_kept {l = l} g) = changed (λ h. update h l) (λ h o. closed.updated o g) nil_kept
    acting_kept n (compensate_kept {q = q}) =
        changed (without (scope_key q)) (λ h o. closed.less (scope_key q) o) (enable_kept (closed.under (scope_key q) (nearest_kept k)))
    acting_kept n (throw_kept b) = alone_kept (climb_kept b k nil_kept)
    acting_kept n notify_kept = sends_kept notification_kept
    acting_kept n (solicit_kept x l) = sends_kept (solicitation_kept x l)

    pub move_kept : {p : Run} → Keeps p → KeptMove (move_of vs fs p)
    unfolding move_of once_done
    move_kept nil_kept = stuck_kept
    move_kept (seq_kept g n) = stuck_kept
    move_kept (par_kept g h) = stuck_kept
    move_kept (scope_kept {name = name} {mark = mark} {zombie = zombie} {a = p} l g) =
        cond-case KeptMove (is_done p) (λ t. ending_kept name mark zombie l) (λ t. stuck_kept)
    move_kept (executor_kept {a = p} e g) = cond-case KeptMove (is_done p) (λ t. sends_kept reply_kept) (λ t. stuck_kept)
    move_kept (waiter_kept e l) = stuck_kept
    move_kept (notice_kept b) = sends_kept (failure_kept b)
    move_kept (act_kept {p = p} n) = acting_kept n (action_kept p n)

  pub movable_kept : (k : Numbers) {m : Move} → KeptMove m → All KeptMove (movable k m)
  unfolding movable
  movable_kept k stuck_kept = all_none
  movable_kept k (alone_kept h) = all_guarded (eqb k.second 0 && eqb k.second_position 0 && eqb k.branch 0) λ t. all_some (alone_kept h)
  movable_kept k unvalued_kept = all_guarded (eqb k.second 0 && eqb k.second_position 0 && eqb k.branch 0) λ t. all_some unvalued_kept
  movable_kept k (sends_kept h) = all_some (sends_kept h)

  pub followed_kept : {p : Run} {next : Option Node} → Keeps p → All N next → Keeps (followed p next)
  unfolding followed
  followed_kept g all_none = g
  followed_kept g (all_some n) = seq_of_kept g n

  -- ---- exchanges

  data KeptReceiver : Receiver → Type 0 where
    deaf_kept : KeptReceiver deaf
    hears_kept : {o : ℕ} {x : List ℕ} → KeptReceiver (hears o x)
    serves_kept : {o : ℕ} {x y : List ℕ} {p : Node} → X y → N p → KeptReceiver (serves o x y p)

  receiver_kept : (p : Node) → N p → KeptReceiver (receiver p)
  unfolding receiver
  receiver_kept (node h f es b ps) n =
      cond-case KeptReceiver (eqb (kind_of h) Kind.one_way) (λ u. hears_kept)
      (λ u. cond-case KeptReceiver (eqb (kind_of h) Kind.request) (λ v. serves_kept (closed.answers (eqb→eq (kind_of h) 8 v) n) (closed.part n 0)) (λ v. deaf_kept))

  record KeptOffer (o : Offer) : Type 0 where
    receives : KeptReceiver o.receives
    next : All N o.next

  offered_kept : (p : Node) → N p → (i : ℕ) → KeptOffer (offered p i)
  unfolding offered bare chosen
  offered_kept (node h f es b ps) n i = cond-case KeptOffer (eqb (kind_of h) Kind.choice) (λ u. many i) (λ u. single i)
    where
      single : (i : ℕ) → KeptOffer (bare (node h f es b ps) i)
      single zero = record { receives = receiver_kept (node h f es b ps) n; next = all_none }
      single (suc i) = record { receives = deaf_kept; next = all_none }

      many : (i : ℕ) → KeptOffer (chosen (count_of h) ps i)
      many zero = record { receives = deaf_kept; next = all_none }
      many (suc i) =
          cond-case KeptOffer (ltb i (count_of h))
          (λ t. record { receives = receiver_kept (part_at ps (2 * i)) (closed.part n (2 * i)); next = all_some (closed.part n (2 * i + 1)) })
          (λ t. record { receives = deaf_kept; next = all_none })

  offer_kept : {p : Run} → Keeps p → (i : ℕ) → KeptOffer (offer p i)
  unfolding offer
  offer_kept nil_kept i = record { receives = deaf_kept; next = all_none }
  offer_kept (seq_kept g n) i = record { receives = deaf_kept; next = all_none }
  offer_kept (par_kept g h) i = record { receives = deaf_kept; next = all_none }
  offer_kept (scope_kept l g) i = record { receives = deaf_kept; next = all_none }
  offer_kept (executor_kept e g) i = record { receives = deaf_kept; next = all_none }
  offer_kept (waiter_kept e l) i = record { receives = deaf_kept; next = all_none }
  offer_kept (notice_kept b) i = record { receives = deaf_kept; next = all_none }
  offer_kept (act_kept {p = p} n) i = offered_kept p n i

  -- no end is made; or a waiter and an executor of equal counts
  pub data KeptExchange (issued : ℕ) : Run → Run → Type 0 where
    no_ends : {p q : Run} → Keeps p → Keeps q → KeptExchange issued p q
    two_ends :
        (o a b : ℕ) (x y : List ℕ) (l : Entries) (p : Node) (next : Option Node) →
        X x →
        X y →
        length y ≡ length x →
        L l →
        N p →
        All N next →
        KeptExchange issued (waiter o x false b (suc issued) l) (followed (executor o y a (suc issued) (enable p)) next)

  hears_kept_all :
      {A : Type 0} {P : A → Type 0} {r : Receiver} {k : ℕ → List ℕ → Option A} → KeptReceiver r → ((o : ℕ) (x : List ℕ) → All P (k o x)) → All P (if_hears r k)
  unfolding if_hears
  hears_kept_all deaf_kept f = all_none
  hears_kept_all hears_kept f = f _ _
  hears_kept_all (serves_kept y p) f = all_none

  serves_kept_all :
      {A : Type 0} {P : A → Type 0} {r : Receiver} {k : ℕ → List ℕ → List ℕ → Node → Option A} → KeptReceiver r →
      ((o : ℕ) (x y : List ℕ) (p : Node) → X y → N p → All P (k o x y p)) → All P (if_serves r k)
  unfolding if_serves
  serves_kept_all deaf_kept f = all_none
  serves_kept_all hears_kept f = all_none
  serves_kept_all (serves_kept y p) f = f _ _ _ _ y p

  waits_kept_all :
      {A : Type 0} {P : A → Type 0} {r : Run} {k : ℕ → List ℕ → Bool → ℕ → ℕ → Entries → Option A} → Keeps r →
      ((o : ℕ) (x : List ℕ) (dead : Bool) (server serial : ℕ) (l : Entries) → L l → All P (k o x dead server serial l)) → All P (if_waits r k)
  unfolding if_waits
  waits_kept_all nil_kept f = all_none
  waits_kept_all (seq_kept g n) f = all_none
  waits_kept_all (par_kept g h) f = all_none
  waits_kept_all (scope_kept l g) f = all_none
  waits_kept_all (executor_kept e g) f = all_none
  waits_kept_all (waiter_kept e g) f = f _ _ _ _ _ _ g
  waits_kept_all (notice_kept d) f = all_none
  waits_kept_all (act_kept n) f = all_none

  pub exchange_kept :
      (k : Meeting) {m : Message} → Keeps k.process → KeptMessage m → All (λ (z : Exchange). KeptExchange k.issued z.sender z.receiver) (exchange k m)
  unfolding exchange awaited
  exchange_kept k g notification_kept =
      all_guarded _ λ u.
      hears_kept_all (offer_kept g k.branch).receives λ op x. all_guarded _ λ t. all_some (no_ends nil_kept (followed_kept nil_kept (offer_kept g k.branch).next))
  exchange_kept k g (solicitation_kept {o = o} {v = v} {x = xs} {l = ls} x l) =
      all_guarded _ λ u.
      serves_kept_all (offer_kept g k.branch).receives λ op x' ys q y p.
      all_guarded (eqb o op && eqb (length v) (length x') && eqb (length ys) (length xs)) λ t.
      let same : length ys ≡ length xs = eqb→eq (length ys) (length xs) (and_right (eqb o op && eqb (length v) (length x')) (eqb (length ys) (length xs)) t) in
      all_some (two_ends o k.sender k.receiver xs ys ls q (offered_to k).next x y same l p (offer_kept g k.branch).next)
  exchange_kept k g reply_kept =
      waits_kept_all g λ op x dead server s l h. all_guarded _ λ u. all_guarded _ λ t. all_some (no_ends nil_kept (act_kept (closed.installs h)))
  exchange_kept k g (failure_kept {f = f} low) =
      waits_kept_all g λ op x dead server s l h.
      all_guarded _ λ u. all_some (no_ends nil_kept (cond-case Keeps dead (λ t. nil_kept) (λ t. act_kept (closed.throws f low))))

  -- ---- configurations

  pub data KeptEffects (c : Config) : Effect → Type 0 where
    lone_kept : {vs : List ℕ} {o : Option Run} → All Keeps o → KeptEffects c (lone vs o)
    between_kept : {x : Exchange} → KeptExchange c.issued x.sender x.receiver → KeptEffects c (between x)

  pub effect_kept : (c : Config) (k : Numbers) (a b : Spot) → Keeps b.process → {m : Move} → KeptMove m → All (All (KeptEffects c)) (effect c k a b m)
  unfolding effect
  effect_kept c k a b g stuck_kept = all_none
  effect_kept c k a b g (alone_kept h) = all_some (all_some (lone_kept h))
  effect_kept c k a b g unvalued_kept = all_some all_none
  effect_kept c k a b g (sends_kept h) =
      all_guarded (not (eqb a.engine b.engine)) λ t.
      all_also (exchange_kept (meeting c k a b) g h) λ x y. all_some (all_some (between_kept y))
