-- The sides that a fault meets on words, with notes that are right, are those of the frames around the throw; and so the look over them finds a
-- pending process exactly where the climb is refused.
-- Assumes nothing.
use Prim.Native.Nat.{ℕ, zero, suc, ◌+◌, ◌-◌, ◌≤◌, ◌<◌}
use native.Mathlib.Omega.{arith}
use mathlib.Core.Path.{◌≡◌, refl, sym, ap, ◌∙◌}
use mathlib.Core.Bool.{Bool, true, false, not, ◌&&◌, ◌||◌, cond}
use mathlib.Core.Option.{Option, some}
use mathlib.Core.List.{List, [], ◌∷◌, ◌++◌}
use borrow.Author.Tests.{lt-ltb, le-ltb, lt-leb, ne_eqb}
use lib.Dec.{T, ltb, eqb, ltb→lt, nltb→le}
use lib.ListN.{length, get_or, drop}
use Rattle.sock.specs.Words.{kind_of, fault_key}
use Rattle.sock.specs.Variables.{variable_words}
use Rattle.sock.specs.Layout.{words, entries_words}
use Rattle.sock.specs.Reading.{holds}
use Rattle.sock.specs.Running.{Run, nil, seq, par, scope, executor, as_node, run_words, size, run_depth}
use Rattle.sock.specs.Frames.{Frame, seq_frame, left_frame, right_frame, scope_frame, executor_frame, Located, here_or, locate}
use Rattle.sock.specs.Rules.{climb}
use Rattle.sock.specs.Pending.{pending, sides_met, any_pending}
use Rattle.sock.proofs.Logic.{and_left, and_right, test_false, cond-case, All, all_none, all_some, all_map, all_some_lem}
use Rattle.sock.proofs.Fits.{Sound, nil_sound, seq_sound, par_sound, scope_sound, executor_sound, waiter_sound, notice_sound, act_sound}
use Rattle.sock.proofs.Around.{free, past_from}
use Rattle.sock.proofs.Located.{size_positive}
use Rattle.sock.proofs.Measures.{depth_seq, depth_par, depth_scope, depth_executor}
use Rattle.sock.proofs.Heads.{depth_positive, run_inside, run_behind, run_kind_lem, seq_parts, par_parts, scope_parts, executor_parts}
use Rattle.sock.proofs.Pending.{is_none, climb_refused}
use Rattle.layout.proofs.Owns.{executor_own}
use Rattle.skipping.proofs.Notes.{Right, pass_run, pass_scope}
use Rattle.pending.specs.Looking.{found_w, beside_w, across_w, sides_w}
use Rattle.pending.proofs.Turns.{sides_here}
use Rattle.pending.proofs.Looks.{pending_looks}

-- ---- the sides of frames

unfoldable sides_of : List Frame → List Run
sides_of [] = []
sides_of (seq_frame q ∷ fs) = sides_of fs
sides_of (left_frame b ∷ fs) = b ∷ sides_of fs
sides_of (right_frame b ∷ fs) = b ∷ sides_of fs
sides_of (scope_frame name mark zombie h ∷ fs) = sides_of fs
sides_of (executor_frame o y client serial ∷ fs) = sides_of fs

-- where no scope stops the fault, it meets them all
all_met : (f : ℕ) (fs : List Frame) → T (free f fs) → sides_met f fs ≡ sides_of fs
unfolding sides_met sides_of free
all_met f [] t = refl
all_met f (seq_frame q ∷ fs) t = all_met f fs t
all_met f (left_frame b ∷ fs) t = ap (λ l. b ∷ l) (all_met f fs t)
all_met f (right_frame b ∷ fs) t = ap (λ l. b ∷ l) (all_met f fs t)
all_met f (executor_frame o y client serial ∷ fs) t = all_met f fs t
all_met f (scope_frame name mark zombie h ∷ fs) t =
    let both : T (not zombie && not (holds (fault_key f) h)) = and_left (not zombie && not (holds (fault_key f) h)) (free f fs) t in
    let live : zombie ≡ false = test_false zombie (and_left (not zombie) (not (holds (fault_key f) h)) both) in
    let lacks : holds (fault_key f) h ≡ false = test_false (holds (fault_key f) h) (and_right (not zombie) (not (holds (fault_key f) h)) both) in
    rw (live, lacks) (all_met f fs (and_right (not zombie && not (holds (fault_key f) h)) (free f fs) t))

or_assoc : (a b c : Bool) → (a || b) || c ≡ a || (b || c)
or_assoc true b c = refl
or_assoc false b c = refl

module _ (ws notes : List ℕ) (right : Right ws notes) (n issued : ℕ) (few : n ≤ 8) (small : issued < 65536) (short : length ws ≤ 8192) where
  found_looks :
      {r : Run} → Sound n issued r → run_depth r ≤ 64 → (i : ℕ) (rest : List ℕ) → drop i ws ≡ run_words r ++ rest → found_w ws notes i ≡ (pending r).found
  unfolding found_w
  found_looks {r} s deep i rest e =
      rw (pending_looks ws notes right n issued few small short s deep i rest e) (by (pending r).found)
    where
      by : (t : Bool) → eqb (cond t 0 (i + size r)) 0 ≡ t
      by true = refl
      by false = let p = size_positive r in ne_eqb (i + size r) 0 (λ z. omega arith)

  sides_at :
      (d target i k : ℕ) → i < length ws → i < target → kind_of (get_or ws i 0) ≡ k →
      sides_w (suc d) ws notes target i ≡ across_w (sides_w d ws notes target) ws notes target k i
  unfolding sides_w
  sides_at d target i k h t e = rw (lt-leb (length ws) i h, ne_eqb i target (λ z. omega arith), e)

  -- the sides met within a process are those of the frames inside it
  abbrev Meets : ℕ → ℕ → ℕ → List Frame → Located → Type 0
  Meets d target at fs l = (sides_w d ws notes target at || any_pending (sides_of fs)) ≡ any_pending (sides_of l.frames)

  -- at the target itself nothing is met
  here_meets :
      (r : Run) (d p at target : ℕ) (rest : List ℕ) → drop at ws ≡ run_words r ++ rest → target ≡ at + p → (fs : List Frame) {o : Option Located} →
      (0 < p → All (Meets (suc d) target at fs) o) → All (Meets (suc d) target at fs) (here_or p (record { frames = fs; process = r }) o)
  unfolding here_or
  here_meets r d zero at target rest e t fs k =
      all_some (ap (λ b. b || any_pending (sides_of fs)) (sym (sides_here (suc d) ws notes target at (λ z. omega arith) (run_inside ws rest at r e) (omega arith))))
  here_meets r d (suc p) at target rest e t fs k = k (omega arith)

  meets :
      {r : Run} → Sound n issued r → (d p at target : ℕ) → run_depth r ≤ d → d ≤ 64 → target ≡ at + p → (rest : List ℕ) → drop at ws ≡ run_words r ++ rest →
      (fs : List Frame) → All (Meets d target at fs) (locate r p fs)
  unfolding locate sides_of any_pending across_w beside_w run_depth
  meets {r} s zero p at target deep low t rest e fs = absurd (omega (arith, depth_positive (as_node r)))
  meets nil_sound (suc d) p at target deep low t rest e fs = here_meets nil d p at target rest e t fs (λ h. all_none)
  meets (waiter_sound b c g l) (suc d) p at target deep low t rest e fs = here_meets _ d p at target rest e t fs (λ h. all_none)
  meets (notice_sound b c g) (suc d) p at target deep low t rest e fs = here_meets _ d p at target rest e t fs (λ h. all_none)
  meets (act_sound b c) (suc d) p at target deep low t rest e fs = here_meets _ d p at target rest e t fs (λ h. all_none)
  meets (seq_sound {a} {q} ga da fq) (suc d) p at target deep low t rest e fs =
      here_meets (seq a q) d p at target rest e t fs
      (λ h. past_from 1 p λ i s.
      let y = depth_seq a q in
      let here = sides_at d target at 2 (run_inside ws rest at (seq a q) e) (omega arith) (run_kind_lem ws rest at (seq a q) e {n = n} {issued = issued} (seq_sound ga da fq)) in
      all_map (λ l g. ap (λ b. b || any_pending (sides_of fs)) here ∙ g)
      (meets ga d i (at + 1) target (omega arith) (omega arith) (omega arith) (words q ++ rest) (seq_parts ws a q at rest e) (seq_frame q ∷ fs)))
  meets (executor_sound {o} {y} {client} {serial} {a} bo by g ga) (suc d) p at target deep low t rest e fs =
      let r : Run = executor o y client serial a in
      here_meets r d p at target rest e t fs
      (λ h. past_from (3 + length (variable_words y)) p λ i s.
      let z = depth_executor o y client serial a in
      let whole : Sound n issued r = executor_sound bo by g ga in
      let body : ℕ = at + 3 + length (variable_words y) in
      let here =
      sides_at d target at 16 (run_inside ws rest at r e) (omega arith) (run_kind_lem ws rest at r e whole)
      ∙ ap (sides_w d ws notes target) (executor_own ws few small whole at rest e) in
      all_map (λ l g. ap (λ b. b || any_pending (sides_of fs)) here ∙ g)
      (meets ga d i body target (omega arith) (omega arith) (omega arith) rest (executor_parts ws o y client serial a at rest e) (executor_frame o y client serial ∷ fs)))
  meets (scope_sound {name} {mark} {zombie} {h = k} {a} bn mf fl ga) (suc d) p at target deep low t rest e fs =
      let r : Run = scope name mark zombie k a in
      here_meets r d p at target rest e t fs
      (λ h. past_from (3 + length (entries_words k)) p λ i s.
      let z = depth_scope name mark zombie k a in
      let parts = scope_parts ws name mark zombie k a at rest e in
      let body : ℕ = at + 3 + length (entries_words k) in
      let list = pass_scope ws notes right fl 64 at (omega arith) (run_words a ++ rest) parts.0 in
      let here = sides_at d target at 11 (run_inside ws rest at r e) (omega arith) (run_kind_lem ws rest at r e (scope_sound bn mf fl ga)) ∙ ap (sides_w d ws notes target) list in
      all_map (λ l g. ap (λ b. b || any_pending (sides_of fs)) here ∙ g)
      (meets ga d i body target (omega arith) (omega arith) (omega arith) rest parts.1 (scope_frame name mark zombie k ∷ fs)))
  meets (par_sound {a} {b} ga da gb db) (suc d) p at target deep low t rest e fs =
      let r : Run = par a b in
      here_meets r d p at target rest e t fs
      (λ h. past_from 1 p λ i s. cond-case (λ o. All (Meets (suc d) target at fs) o) (ltb i (size a))
      (λ u.
      let lt = ltb→lt i (size a) u in
      let z = depth_par a b in
      let left = par_parts ws a b at rest e in
      let beside = run_behind ws (run_words b ++ rest) (at + 1) a left in
      let end = pass_run ws notes right n issued few small ga 64 (at + 1) (omega arith) (run_words b ++ rest) left in
      let here : sides_w (suc d) ws notes target at ≡ (sides_w d ws notes target (at + 1) || (pending b).found) =
      sides_at d target at 3 (run_inside ws rest at r e) (omega arith) (run_kind_lem ws rest at r e (par_sound ga da gb db))
      ∙ rw (end, lt-ltb target (at + 1 + size a) (omega arith), found_looks gb (omega arith) (at + 1 + size a) rest beside) in
      all_map (λ l g. ap (λ b. b || any_pending (sides_of fs)) here ∙ (or_assoc (sides_w d ws notes target (at + 1)) (pending b).found (any_pending (sides_of fs)) ∙ g))
      (meets ga d i (at + 1) target (omega arith) (omega arith) (omega arith) (run_words b ++ rest) left (left_frame b ∷ fs)))
      λ u.
      let ge = nltb→le i (size a) u in
      let z = depth_par a b in
      let left = par_parts ws a b at rest e in
      let beside = run_behind ws (run_words b ++ rest) (at + 1) a left in
      let end = pass_run ws notes right n issued few small ga 64 (at + 1) (omega arith) (run_words b ++ rest) left in
      let here : sides_w (suc d) ws notes target at ≡ (sides_w d ws notes target (at + 1 + size a) || (pending a).found) =
      sides_at d target at 3 (run_inside ws rest at r e) (omega arith) (run_kind_lem ws rest at r e (par_sound ga da gb db))
      ∙ rw (end, le-ltb target (at + 1 + size a) (omega arith), found_looks ga (omega arith) (at + 1) (run_words b ++ rest) left) in
      all_map (λ l g. ap (λ b. b || any_pending (sides_of fs)) here ∙ (or_assoc (sides_w d ws notes target (at + 1 + size a)) (pending a).found (any_pending (sides_of fs)) ∙ g))
      (meets gb d (i - size a) (at + 1 + size a) target (omega arith) (omega arith) (omega arith) rest beside (right_frame a ∷ fs)))

  -- the look over the sides finds a pending process exactly where the climb is refused
  pub sides_refuse :
      {r : Run} → Sound n issued r → (d p at : ℕ) → run_depth r ≤ d → d ≤ 64 → (rest : List ℕ) → drop at ws ≡ run_words r ++ rest →
      (l : Located) → locate r p [] ≡ some l → (f : ℕ) → T (free f l.frames) → (q : Run) →
      sides_w d ws notes (at + p) at ≡ is_none (climb f l.frames q)
  unfolding any_pending sides_of
  sides_refuse s d p at deep low rest e l found f passes q =
      or_none (sides_w d ws notes (at + p) at)
      ∙ (all_some_lem (meets s d p at (at + p) deep low refl rest e []) found
      ∙ (ap any_pending (sym (all_met f l.frames passes)) ∙ sym (climb_refused f l.frames q)))
    where
      or_none : (b : Bool) → b ≡ (b || false)
      or_none true = refl
      or_none false = refl
