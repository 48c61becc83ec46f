-- Each rule keeps what is enabled sound: killing, the climb, the moves alone.
-- Assumes nothing.
use Prim.Native.Nat.{ℕ, zero, suc, ◌/◌, ◌≤◌, ◌<◌}
use native.Mathlib.Omega.{arith}
use native.Mathlib.Nat.{mod-lt}
use mathlib.Core.Path.{◌≡◌, refl, subst, sym, ap, ◌∙◌}
use mathlib.Core.Bool.{Bool, true, false, not, ◌&&◌, cond}
use mathlib.Core.Option.{Option, some}
use mathlib.Core.List.{List, [], ◌∷◌}
use lib.Dec.{T, eqb, lit<}
use lib.ListN.{length, get_or, set, length-set}
use lib.Signed.{lt_z}
use Rattle.sock.specs.Kind
use Rattle.sock.specs.Words.{kind_of, variable_of, name_of, fault_key, first_variable, next_variable, scope_key, bit}
use Rattle.sock.specs.Variables.{head_variables, later_variables, values_at, set_all}
use Rattle.sock.specs.Term.{Operator, sum, difference, less, equal, decimal_sum, decimal_difference, Expr, Node, Entries, no_entries, entry, kind, part_at, first_expr, entries_of}
use Rattle.sock.specs.Reading.{code, anywhere, entry_fits, fixed_at, holds}
use Rattle.sock.specs.Running.{Mark, unmarked, faulted, own_name, Run, nil, scope, notice, enable}
use Rattle.sock.specs.Configuration.{is_scope}
use Rattle.sock.specs.Evaluation.{value_at, signed, of_digits, operate, evaluate, is_true}
use Rattle.sock.specs.Digits.{decimal, packed_of, power}
use Rattle.sock.proofs.Decimals.{packed_below}
use Rattle.sock.specs.Handlers.{handler, without, update}
use Rattle.sock.specs.Frames.{Frame, seq_frame, left_frame, right_frame, scope_frame, executor_frame, is_done, seq_of, par_of, plug, nearest, on_nearest}
use Rattle.sock.specs.Rules.{kill, climb, Action, still, assign, branch, repeat, notify, solicit, install, throw, compensate, action, Message, notification, solicitation, reply, failure, Move, stuck, alone, unvalued, sends, valued, ending, acting, once_done, move_of}
use Rattle.sock.proofs.Logic.{cond-case, All, all_none, all_some, all_also, all_any, all_guarded}
use Rattle.sock.proofs.Fits.{FitsExpr, constant_fits, variable_fits, apply_fits, Fits, fits, FitsEntries, empty_fits, entry_fits_on, FitsDistinct, Sound, nil_sound, seq_sound, par_sound, scope_sound, executor_sound, waiter_sound, notice_sound, act_sound, rootable, seq_frame_sound, left_frame_sound, right_frame_sound, scope_frame_sound, executor_frame_sound, SoundFrames, no_frames, one_frame, AllBelow, none_below, one_below}
use Rattle.sock.proofs.Nodes.{distinct_test, part_fits, expr_fits, entries_fit, code_more}
use Rattle.sock.proofs.Variables.{solicit_list}
use Rattle.sock.proofs.Handlers.{handler_fits, without_fits, update_fits, holds_without, holds_update}
use Rattle.sock.proofs.Running.{enable_sound}
use Rattle.sock.proofs.Frames.{seq_of_sound, par_of_sound, plug_sound, based, based_any, plug_rootable, nearest_fits, Keeps, nearest_sound, nearest_based}

-- ---- killing and the climb

pub kill_sound : {n issued f : ℕ} → f < 64 → {r : Run} → Sound n issued r → All (Sound n issued) (kill f r)
unfolding kill
kill_sound b nil_sound = all_some nil_sound
kill_sound b (seq_sound g t q) = kill_sound b g
kill_sound b (par_sound g t k u) = all_also (kill_sound b g) λ p' x. all_also (kill_sound b k) λ q' y. all_some (par_of_sound x y)
kill_sound b (scope_sound {zombie = true} a m c g) = all_also (kill_sound b g) λ p' x. all_some (scope_sound a m c g)
kill_sound b (scope_sound {zombie = false} {a = r} a m c g) =
    all_guarded (not (is_done r)) λ t. all_also (kill_sound b g) λ p' x. all_some (scope_sound a tt c x)
kill_sound b (executor_sound o y e g) = all_also (kill_sound b g) λ p' x. all_some (par_of_sound x (notice_sound o b e))
kill_sound b (waiter_sound o x e l) = all_some (waiter_sound o x e l)
kill_sound b (notice_sound o f e) = all_some (notice_sound o f e)
kill_sound b (act_sound {p = p} t g) = all_guarded (not (eqb (kind p) Kind.inst)) λ u. all_some nil_sound

pub climb_sound : {n issued f : ℕ} → f < 64 → {fs : List Frame} → SoundFrames n issued fs → {p : Run} → Sound n issued p → All (Sound n issued) (climb f fs p)
unfolding climb
climb_sound b no_frames g = all_some g
climb_sound b (one_frame (seq_frame_sound q) fs) g = climb_sound b fs g
climb_sound b (one_frame (left_frame_sound k t) fs) g = all_also (kill_sound b k) λ q' x. climb_sound b fs (par_of_sound g x)
climb_sound b (one_frame (right_frame_sound k t) fs) g = all_also (kill_sound b k) λ q' x. climb_sound b fs (par_of_sound x g)
climb_sound b (one_frame (executor_frame_sound o y e) fs) g = climb_sound b fs (par_of_sound g (notice_sound o b e))
climb_sound {n} {issued} {f} b (one_frame (scope_frame_sound {mark = mark} {zombie = zombie} {h = h} a m c) fs) g =
    cond-case (λ o. All (Sound n issued) o) (holds (fault_key f) h)
    (λ t. all_some (plug_sound fs (scope_sound a (b, t) c g)))
    (λ t. cond-case (λ o. All (Sound n issued) o) zombie
    (λ u. all_some (plug_sound fs (scope_sound a m c g)))
    (λ u. climb_sound b fs (scope_sound a tt c g)))

abbrev pub Rootable : Run → Type 0
Rootable r = T (rootable r)

pub climb_rootable : (f : ℕ) (fs : List Frame) (p : Run) → T (based fs (rootable p)) → All Rootable (climb f fs p)
unfolding climb is_done is_scope
climb_rootable f [] p t = all_some t
climb_rootable f (seq_frame q ∷ fs) p t = climb_rootable f fs p (based_any fs (rootable p) t)
climb_rootable f (left_frame q ∷ fs) p t = all_any (kill f q) λ q'. climb_rootable f fs (par_of p q') (based_any fs (rootable (par_of p q')) t)
climb_rootable f (right_frame q ∷ fs) p t = all_any (kill f q) λ q'. climb_rootable f fs (par_of q' p) (based_any fs (rootable (par_of q' p)) t)
climb_rootable f (executor_frame o y client serial ∷ fs) p t =
    climb_rootable f fs (par_of p (notice o f client serial)) (based_any fs (rootable (par_of p (notice o f client serial))) t)
climb_rootable f (scope_frame name mark zombie h ∷ fs) p t =
    cond-case (λ o. All Rootable o) (holds (fault_key f) h)
    (λ u. all_some (plug_rootable fs (scope name (faulted f) zombie h p) t))
    (λ u. cond-case (λ o. All Rootable o) zombie
    (λ v. all_some (plug_rootable fs (scope name mark zombie h p) t))
    (λ v. climb_rootable f fs (scope name unmarked true h p) t))

-- ---- values

pub record FitValues (vs : List ℕ) : Type 0 where
  pub counted : length vs ≡ 32
  pub bounded : AllBelow 4294967296 vs

below_at : {m : ℕ} {vs : List ℕ} → zero < m → AllBelow m vs → (x : ℕ) → value_at vs x < m
below_at h none_below x = h
below_at h (one_below b bs) zero = b
below_at h (one_below b bs) (suc x) = below_at h bs x

below_set : {m v : ℕ} {vs : List ℕ} → v < m → AllBelow m vs → (x : ℕ) → AllBelow m (set vs x v)
below_set h none_below x = none_below
below_set h (one_below b bs) zero = one_below h bs
below_set h (one_below b bs) (suc x) = one_below b (below_set h bs x)

pub value_below : {vs : List ℕ} → FitValues vs → (x : ℕ) → value_at vs x < 4294967296
value_below g x = below_at (lit< tt) g.bounded x

pub values_set : {vs : List ℕ} {v : ℕ} → FitValues vs → v < 4294967296 → (x : ℕ) → FitValues (set vs x v)
values_set {vs} {v} g h x = record { counted = length-set vs x v ∙ g.counted; bounded = below_set h g.bounded x }

-- the values of some variables, and some variables set
pub values_below : {vs : List ℕ} → FitValues vs → (xs : List ℕ) → AllBelow 4294967296 (values_at vs xs)
unfolding values_at
values_below g [] = none_below
values_below g (x ∷ xs) = one_below (value_below g x) (values_below g xs)

pub values_set_all : {vs us : List ℕ} → FitValues vs → AllBelow 4294967296 us → (xs : List ℕ) → FitValues (set_all vs xs us)
unfolding set_all
values_set_all g b [] = g
values_set_all g none_below (x ∷ xs) = g
values_set_all g (one_below h b) (x ∷ xs) = values_set_all (values_set g h x) b xs

bit_below : (b : Bool) → bit b < 4294967296
bit_below true = lit< tt
bit_below false = lit< tt

abbrev Below : ℕ → Type 0
Below v = v < 4294967296

packed_word : (v : ℕ) → Below (packed_of 8 v)
unfolding power
packed_word v = packed_below 8 v

of_digits_below : (a b v : ℕ) → Below (packed_of 8 v) → All Below (of_digits a b (packed_of 8 v))
unfolding of_digits
of_digits_below a b v h = all_guarded (decimal 8 a && decimal 8 b) (λ t. all_some h)

operate_below : (o : Operator) (a b : ℕ) → All Below (operate o a b)
unfolding operate
operate_below sum a b = all_some (mod-lt _ (lit< tt))
operate_below difference a b = all_some (mod-lt _ (lit< tt))
operate_below less a b = all_some (bit_below (lt_z (signed a) (signed b)))
operate_below equal a b = all_some (bit_below (eqb a b))
operate_below decimal_sum a b = of_digits_below a b _ (packed_word _)
operate_below decimal_difference a b = of_digits_below a b _ (packed_word _)

pub evaluate_below : {vs : List ℕ} → FitValues vs → {e : Expr} → FitsExpr e → All Below (evaluate vs e)
unfolding evaluate
evaluate_below g (constant_fits h) = all_some h
evaluate_below g (variable_fits {x = x} h) = all_some (value_below g x)
evaluate_below g (apply_fits {o = o} x y) = all_also (evaluate_below g x) λ v p. all_also (evaluate_below g y) λ w q. operate_below o v w

-- ---- what a process does

pub data FitsAction : Action → Type 0 where
  still_fits : FitsAction still
  assign_fits : {x : ℕ} {e : Expr} → x < 32 → FitsExpr e → FitsAction (assign x e)
  branch_fits : {e : Expr} {p q : Node} → FitsExpr e → Fits (code false) anywhere p → Fits (code false) anywhere q → FitsAction (branch e p q)
  repeat_fits : {e : Expr} {p : Node} → FitsExpr e → Fits (code false) anywhere p → FitsAction (repeat e p)
  notify_fits : {o z : ℕ} {y : List ℕ} → o < 64 → FitsAction (notify o y z)
  solicit_fits : {o z : ℕ} {y x : List ℕ} {l : Entries} → o < 64 → FitsDistinct x → FitsEntries false zero l → FitsAction (solicit o y z x l)
  install_fits : {l : Entries} → FitsEntries false zero l → FitsAction (install l)
  throw_fits : {f : ℕ} → f < 64 → FitsAction (throw f)
  compensate_fits : {q : ℕ} → q < 64 → FitsAction (compensate q)

pub action_fits : {p : Node} → Fits (code false) anywhere p → FitsAction (action p)
unfolding action
action_fits (fits {h = h} {f = f} {es = es} {b = b} {ps = ps} t x e y qs g) = by (kind_of h) refl
  where
    name : name_of h < 64
    name = mod-lt (h / 32) (lit< tt)

    plain : (k : ℕ) → kind_of h ≡ k → eqb k Kind.scope ≡ false → FitsEntries false zero (entries_of b)
    plain k q r = subst (λ o. FitsEntries o zero (entries_of b)) (ap (λ k. eqb k Kind.scope) q ∙ r) (entries_fit y)

    by : (k : ℕ) → kind_of h ≡ k → FitsAction (get_or
        (still
        ∷ assign (variable_of h) (first_expr es)
        ∷ still
        ∷ still
        ∷ branch (first_expr es) (part_at ps 0) (part_at ps 1)
        ∷ repeat (first_expr es) (part_at ps 0)
        ∷ still
        ∷ still
        ∷ still
        ∷ notify (name_of h) (head_variables 1 h f) (first_variable (fixed_at f 0))
        ∷ solicit (name_of h) (head_variables 1 h f) (first_variable (fixed_at f 0)) (later_variables (next_variable (fixed_at f 0)) f) (entries_of b)
        ∷ still
        ∷ install (entries_of b)
        ∷ throw (name_of h)
        ∷ compensate (name_of h)
        ∷ [])
        k still)
    by zero q = still_fits
    by (suc zero) q = assign_fits (mod-lt (h / 64) (lit< tt)) (expr_fits e)
    by (suc (suc zero)) q = still_fits
    by (suc (suc (suc zero))) q = still_fits
    by (suc (suc (suc (suc zero)))) q = branch_fits (expr_fits e) (part_fits qs 0) (part_fits qs 1)
    by (suc (suc (suc (suc (suc zero))))) q = repeat_fits (expr_fits e) (part_fits qs 0)
    by (suc (suc (suc (suc (suc (suc zero)))))) q = still_fits
    by (suc (suc (suc (suc (suc (suc (suc zero))))))) q = still_fits
    by (suc (suc (suc (suc (suc (suc (suc (suc zero)))))))) q = still_fits
    by (suc (suc (suc (suc (suc (suc (suc (suc (suc zero))))))))) q = notify_fits name
    by (suc (suc (suc (suc (suc (suc (suc (suc (suc (suc zero)))))))))) q =
        solicit_fits name (solicit_list h f (distinct_test (code false) h f b g) q (rw q at x)) (plain 10 q refl)
    by (suc (suc (suc (suc (suc (suc (suc (suc (suc (suc (suc zero))))))))))) q = still_fits
    by (suc (suc (suc (suc (suc (suc (suc (suc (suc (suc (suc (suc zero)))))))))))) q = install_fits (plain 12 q refl)
    by (suc (suc (suc (suc (suc (suc (suc (suc (suc (suc (suc (suc (suc zero))))))))))))) q = throw_fits name
    by (suc (suc (suc (suc (suc (suc (suc (suc (suc (suc (suc (suc (suc (suc zero)))))))))))))) q = compensate_fits name
    by (suc (suc (suc (suc (suc (suc (suc (suc (suc (suc (suc (suc (suc (suc (suc k))))))))))))))) q = still_fits

-- ---- moves

pub data FitsMessage : Message → Type 0 where
  notification_fits : {o z : ℕ} {v : List ℕ} → o < 64 → AllBelow 4294967296 v → FitsMessage (notification o v z)
  solicitation_fits :
      {o z : ℕ} {v x : List ℕ} {l : Entries} →
      o < 64 →
      AllBelow 4294967296 v →
      FitsDistinct x →
      FitsEntries false zero l →
      FitsMessage (solicitation o v z x l)
  reply_fits : {o client serial : ℕ} {v : List ℕ} → AllBelow 4294967296 v → FitsMessage (reply o v client serial)
  failure_fits : {o f client serial : ℕ} → f < 64 → FitsMessage (failure o f client serial)

pub data FitsMove (n issued : ℕ) : Move → Type 0 where
  stuck_fits : FitsMove n issued stuck
  unvalued_fits : FitsMove n issued unvalued
  alone_fits : {vs : List ℕ} {o : Option Run} → FitValues vs → All (Sound n issued) o → All Rootable o → FitsMove n issued (alone vs o)
  sends_fits : {m : Message} → FitsMessage m → FitsMove n issued (sends m)

without_keeps : (q : ℕ) → Keeps (without (scope_key q))
without_keeps q = record { fits = λ h g. without_fits (scope_key q) g; faults = λ f h b t. holds_without f (scope_key q) h (λ e. omega arith) t }

update_keeps : {least : ℕ} {l : Entries} → FitsEntries false least l → Keeps (λ h. update h l)
update_keeps {l = l} k = record { fits = λ h g. update_fits h g k; faults = λ f h b t. holds_update f h l b t }

-- what a rule leaves in the frames
done_alone :
    {n issued : ℕ} {vs : List ℕ} {fs : List Frame} {p : Run} →
    FitValues vs →
    SoundFrames n issued fs →
    Sound n issued p →
    T (based fs (rootable p)) →
    FitsMove n issued (alone vs (some (plug fs p)))
done_alone {fs = fs} {p = p} v k g t = alone_fits v (all_some (plug_sound k g)) (all_some (plug_rootable fs p t))

-- the same where the nearest scope's list changes too
changed_alone :
    {n issued : ℕ} {vs : List ℕ} {fs : List Frame} {p : Run} {change : Entries → Entries} →
    FitValues vs →
    Keeps change →
    SoundFrames n issued fs →
    Sound n issued p →
    T (based fs (rootable p)) →
    FitsMove n issued (alone vs (some (plug (on_nearest change fs) p)))
changed_alone {fs = fs} {p = p} {change = change} v keeps k g t =
    done_alone v (nearest_sound keeps k) g (subst T (sym (nearest_based change fs (rootable p))) t)

module _ {n issued : ℕ} {vs : List ℕ} (v : FitValues vs) {fs : List Frame} (k : SoundFrames n issued fs) where
  handled : {name : ℕ} {h : Entries} (zombie : Bool) (key : ℕ) → name < 64 → FitsEntries true zero h → T (based fs true) →
      FitsMove n issued (alone vs (some (plug fs (scope name unmarked zombie (without key h) (enable (handler key h))))))
  unfolding is_done is_scope
  handled zombie key a c t = done_alone v k (scope_sound a tt (without_fits key c) (enable_sound n issued (handler_fits true key c))) t

  promoted : {name : ℕ} {h : Entries} → name < 64 → FitsEntries true zero h → FitsEntries false zero (entry (scope_key name) (handler (scope_key name) h) no_entries)
  unfolding entry_fits
  promoted {name} a c =
      let x : zero ≤ scope_key name = omega arith in
      let y : scope_key name < 128 = omega arith in
      entry_fits_on x y tt (code_more (handler_fits true (scope_key name) c)) empty_fits

  pub ending_fits :
      {name : ℕ} (mark : Mark) (zombie : Bool) {h : Entries} →
      name < 64 →
      FitsEntries true zero h →
      T (based fs true) →
      FitsMove n issued (alone vs (some (ending name mark zombie h fs)))
  unfolding ending is_done is_scope
  ending_fits (faulted f) zombie a c t = handled zombie (fault_key f) a c t
  ending_fits {name} own_name zombie a c t = handled zombie (scope_key name) a c t
  ending_fits unmarked true a c t = done_alone v k nil_sound t
  ending_fits unmarked false a c t = changed_alone v (update_keeps (promoted a c)) k nil_sound t

  valued_fits : {o : Option ℕ} {move : ℕ → Move} → All Below o → ((w : ℕ) → Below w → FitsMove n issued (move w)) → FitsMove n issued (valued o move)
  unfolding valued
  valued_fits all_none f = unvalued_fits
  valued_fits (all_some {a = w} h) f = f w h

  pub acting_fits : {p : Node} → Fits (code false) anywhere p → T (based fs false) → {a : Action} → FitsAction a → FitsMove n issued (acting vs fs p a)
  unfolding acting
  acting_fits g t still_fits = stuck_fits
  acting_fits g t (assign_fits {x = x} b e) =
      valued_fits (evaluate_below v e) λ w h. done_alone (values_set v h x) k nil_sound (based_any fs (rootable nil) t)
  acting_fits g t (branch_fits {e = e} {p = p} {q = q} b x y) =
      valued_fits (evaluate_below v b) λ w h.
      let c : Node = cond (is_true w) p q in
      let f : Fits (code false) anywhere c = cond-case (λ m. Fits (code false) anywhere m) (is_true w) (λ u. x) (λ u. y) in
      done_alone v k (enable_sound n issued f) (based_any fs (rootable (enable c)) t)
  acting_fits {p} g t (repeat_fits {e = e} {p = q} b x) =
      valued_fits (evaluate_below v b) λ w h.
      let r : Run = cond (is_true w) (seq_of (enable q) p) nil in
      let f : Sound n issued r = cond-case (λ m. Sound n issued m) (is_true w) (λ u. seq_of_sound (enable_sound n issued x) g) (λ u. nil_sound) in
      done_alone v k f (based_any fs (rootable r) t)
  acting_fits g t (notify_fits {y = y} o) = sends_fits (notification_fits o (values_below v y))
  acting_fits g t (solicit_fits {y = y} o x l) = sends_fits (solicitation_fits o (values_below v y) x l)
  acting_fits g t (install_fits l) = changed_alone v (update_keeps l) k nil_sound (based_any fs (rootable nil) t)
  acting_fits g t (throw_fits {f = f} b) = alone_fits v (climb_sound b k nil_sound) (climb_rootable f fs nil (based_any fs (rootable nil) t))
  acting_fits g t (compensate_fits {q = q} b) =
      let r : Run = enable (handler (scope_key q) (nearest fs)) in
      changed_alone v (without_keeps q) k (enable_sound n issued (handler_fits true (scope_key q) (nearest_fits k))) (based_any fs (rootable r) t)

  once_fits : (p : Run) {m : Move} → FitsMove n issued m → FitsMove n issued (once_done p m)
  unfolding once_done
  once_fits p g = cond-case (λ m. FitsMove n issued m) (is_done p) (λ t. g) (λ t. stuck_fits)

  pub move_fits : {p : Run} → Sound n issued p → T (based fs (rootable p)) → FitsMove n issued (move_of vs fs p)
  unfolding move_of is_done is_scope
  move_fits nil_sound t = stuck_fits
  move_fits (seq_sound g u q) t = stuck_fits
  move_fits (par_sound g u h w) t = stuck_fits
  move_fits (scope_sound {mark = mark} {zombie = zombie} {a = p} a m c g) t = once_fits p (ending_fits mark zombie a c t)
  move_fits (executor_sound {y = y} {a = p} o b e g) t = once_fits p (sends_fits (reply_fits (values_below v y)))
  move_fits (waiter_sound o x e l) t = stuck_fits
  move_fits (notice_sound o f e) t = sends_fits (failure_fits f)
  move_fits (act_sound u g) t = acting_fits g t (action_fits g)
