-- Killing on words, with notes that are right, is the definitions' killing, of what does not hold the position; and from a throw at the
-- position it is the climb.
-- Assumes nothing.
use Prim.Native.Nat.{ℕ, zero, suc, ◌+◌, ◌*◌, ◌≤◌, ◌<◌}
use native.Mathlib.Omega.{arith}
use mathlib.Core.Path.{◌≡◌, refl, sym, ap, ◌∙◌}
use mathlib.Core.Bool.{Bool, true, false, not, cond}
use mathlib.Core.Option.{some}
use mathlib.Core.List.{List, [], ◌++◌}
use lib.Dec.{T, eqb}
use lib.ListN.{length, get_or, drop}
use borrow.Author.Tests.{lt-leb, ne_eqb}
use Rattle.sock.specs.Words.{kind_of}
use Rattle.sock.specs.Variables.{variable_words}
use Rattle.sock.specs.Term.{Node, kind}
use Rattle.sock.specs.Layout.{words, entries_words}
use Rattle.sock.specs.Running.{Run, nil, seq, par, scope, executor, waiter, notice, act, as_node, run_words, size, run_depth}
use Rattle.sock.specs.Configuration.{guarded}
use Rattle.sock.specs.Frames.{Located, locate, is_done}
use Rattle.sock.specs.Rules.{climb}
use Rattle.sock.proofs.Fits.{Sound, nil_sound, seq_sound, par_sound, scope_sound, executor_sound, waiter_sound, notice_sound, act_sound}
use Rattle.sock.proofs.Fields.{plain_kind, end_tests}
use Rattle.sock.proofs.ByKind.{run_kind, code_kind}
use Rattle.sock.proofs.Measures.{size_seq, depth_seq, depth_par, depth_scope, depth_executor}
use Rattle.skipping.specs.Pass.{pass_end}
use Rattle.skipping.proofs.Notes.{Right, pass_code, pass_run, pass_scope}
use Rattle.killing.specs.Killing.{gone_kind, gone_w, stuck_w, vanished_w, kind_w, kill_w}
use Rattle.sock.proofs.Variables.{laid}
use Rattle.layout.proofs.Owns.{executor_own}
use Rattle.writers.proofs.Laid.{Near}
use Rattle.sock.proofs.Heads.{depth_positive, run_inside, run_behind, run_head, run_kind_lem, head_done, seq_parts, par_parts, scope_parts, executor_parts}
use Rattle.sock.proofs.Around.{killed, Throws, free, killed_climb}
use Rattle.killing.proofs.Kills.{gone_at}
use Rattle.killing.proofs.Gives.{Gives, stops, Does, Vanishes, seq_gives, par_gives}
use Rattle.killing.proofs.Noticed.{vanish_gives, kept_gives, waiter_gives, executor_gives}
use Rattle.killing.proofs.Zombies.{dead_gives, turned_gives}

-- ---- by kind

module _ (ws notes : List ℕ) (f hole d : ℕ) where
  kill_at :
      (at : ℕ) (out : List ℕ) (to k : ℕ) → at < length ws → kind_of (get_or ws at 0) ≡ k →
      kill_w (suc d) ws notes f hole at out to ≡ kind_w (suc d) d (kill_w d ws notes f hole) ws notes f hole k at out to
  unfolding kill_w
  kill_at at out to k h e = rw (lt-leb (length ws) at h, e)

  -- of any other kind but inst
  vanishing :
      (k at : ℕ) (out : List ℕ) (to : ℕ) → eqb k 2 ≡ false → eqb k 3 ≡ false → eqb k 11 ≡ false → k < 16 →
      kind_w (suc d) d (kill_w d ws notes f hole) ws notes f hole k at out to ≡ cond (eqb k 12) (stuck_w out) (vanished_w (suc d) ws notes at out to)
  unfolding kind_w
  vanishing k at out to a b c h =
      rw (a, b, c, ne_eqb k 16 (λ q. omega arith), ne_eqb k 17 (λ q. omega arith), ne_eqb k 18 (λ q. omega arith))

-- what just becomes nil, by its kind; an inst does not
gone_kind_lem : (ws : List ℕ) (at k : ℕ) → at < length ws → kind_of (get_or ws at 0) ≡ k → gone_w ws at ≡ true → gone_kind k ≡ true
gone_kind_lem ws at k h e g = gone_at ws at k h (sym e) ∙ g

not_inst : (k : ℕ) → gone_kind k ≡ true → eqb k 12 ≡ false
unfolding gone_kind
not_inst k = go (eqb k 2) (eqb k 3) (eqb k 11) (eqb k 12) _
  where
    go : (a b c d x : Bool) → cond a false (cond b false (cond c false (cond d false x))) ≡ true → d ≡ false
    go a b c false x q = refl
    go false false false true x q = sym q
    go false false true true x q = sym q
    go false true c true x q = sym q
    go true b c true x q = sym q

module _ (ws notes : List ℕ) (right : Right ws notes) (n issued : ℕ) (few : n ≤ 8) (small : issued < 65536) (f : ℕ) (bf : f < 64) (hole : ℕ) where
  act_gives :
      (x : Bool) (m : Node) (d at : ℕ) (out : List ℕ) (to : ℕ) → to + 2 * size (act m) ≤ length out → Near (length out) →
      pass_end (suc d) ws notes at ≡ at + size (act m) →
      Gives (act m) out to (at + size (act m)) (cond x (stuck_w out) (vanished_w (suc d) ws notes at out to)) (guarded (not x) (some nil))
  unfolding guarded
  act_gives true m d at out to room near e = stops refl
  act_gives false m d at out to room near e = vanish_gives (act m) (suc d) ws notes at out to e room near

  -- what is seen to become nil does, and notes pass over it
  gone_nil :
      {r : Run} → Sound n issued r → (d at : ℕ) → run_depth r ≤ d → (rest : List ℕ) → drop at ws ≡ run_words r ++ rest →
      Vanishes d ws notes at r (killed f hole r at)
  unfolding killed gone_kind guarded
  gone_nil {r} s d at h rest e g =
      let k : gone_kind (run_kind r) ≡ true = gone_kind_lem ws at (run_kind r) (run_inside ws rest at r e) (run_kind_lem ws rest at r e s) g in
      (by s k, pass_run ws notes right n issued few small s d at h rest e)
    where
      never : false ≡ true → ⊥
      never q = let y : ◌≡◌ {A = ℕ} 0 1 = cc in omega arith

      by : {r : Run} → Sound n issued r → gone_kind (run_kind r) ≡ true → killed f hole r at ≡ some nil
      by nil_sound k = refl
      by (seq_sound a t q) k = absurd (never k)
      by (par_sound a t b u) k = absurd (never k)
      by (scope_sound a m l b) k = absurd (never k)
      by (executor_sound a b c v) k = absurd (never k)
      by (waiter_sound a b c v) k = absurd (never k)
      by (notice_sound a b c) k = absurd (never k)
      by (act_sound {p = m} t v) k = rw (not_inst (kind m) k)

  kills :
      {r : Run} → Sound n issued r → (d at : ℕ) → run_depth r ≤ d → (rest : List ℕ) → drop at ws ≡ run_words r ++ rest →
      Does (kill_w d ws notes f hole) at r (killed f hole r at)
  unfolding killed kind_w run_depth
  kills {r} s zero at h rest e out to room near = absurd (omega (arith, depth_positive (as_node r)))
  kills {r} nil_sound (suc d) at h rest e out to room near =
      let s : Sound n issued nil = nil_sound in
      rw (kill_at ws notes f hole d at out to 0 (run_inside ws rest at nil e) (run_kind_lem ws rest at nil e s))
      (vanish_gives nil (suc d) ws notes at out to (pass_run ws notes right n issued few small nil_sound (suc d) at h rest e) room near)
  kills (seq_sound {a} {q} ga t fq) (suc d) at h rest e out to room near =
      let z = size_seq a q in
      let y = depth_seq a q in
      let own : drop (at + 1) ws ≡ run_words a ++ (words q ++ rest) = seq_parts ws a q at rest e in
      let second : drop (at + 1 + size a) ws ≡ words q ++ rest = run_behind ws (words q ++ rest) (at + 1) a own in
      rw (kill_at ws notes f hole d at out to 2 (run_inside ws rest at (seq a q) e) (run_kind_lem ws rest at (seq a q) e {n = n} {issued = issued} (seq_sound ga t fq)))
      (seq_gives d (kill_w d ws notes f hole) ws notes at (kills ga d (at + 1) (omega arith) (words q ++ rest) own) (pass_code ws notes right fq d (at + 1 + size a) (omega arith) rest second) out to room near)
  kills (par_sound {a} {b} ga t gb u) (suc d) at h rest e out to room near =
      let y = depth_par a b in
      let left : drop (at + 1) ws ≡ run_words a ++ (run_words b ++ rest) = par_parts ws a b at rest e in
      let beside : drop (at + 1 + size a) ws ≡ run_words b ++ rest = run_behind ws (run_words b ++ rest) (at + 1) a left in
      rw (kill_at ws notes f hole d at out to 3 (run_inside ws rest at (par a b) e) (run_kind_lem ws rest at (par a b) e (par_sound ga t gb u)))
      (par_gives a b d (kill_w d ws notes f hole) ws notes at out to room near
      (kills ga d (at + 1) (omega arith) (run_words b ++ rest) left) (gone_nil ga d (at + 1) (omega arith) (run_words b ++ rest) left)
      (kills gb d (at + 1 + size a) (omega arith) rest beside) (gone_nil gb d (at + 1 + size a) (omega arith) rest beside))
  kills (scope_sound {name} {mark} {zombie = true} {h = l} {a} bn m fl ga) (suc d) at h rest e out to room near =
      let y = depth_scope name mark true l a in
      let s = scope_parts ws name mark true l a at rest e in
      rw (kill_at ws notes f hole d at out to 11 (run_inside ws rest at (scope name mark true l a) e) (run_kind_lem ws rest at (scope name mark true l a) e (scope_sound bn m fl ga)))
      (dead_gives d (kill_w d ws notes f hole) ws notes rest name mark l a hole at bn (pass_scope ws notes right fl d at (omega arith) (run_words a ++ rest) s.0) out to near
      (kills ga d (at + 3 + length (entries_words l)) (omega arith) rest s.1) (gone_nil ga d (at + 3 + length (entries_words l)) (omega arith) rest s.1) e room)
  kills (scope_sound {name} {mark} {zombie = false} {h = l} {a} bn m fl ga) (suc d) at h rest e out to room near =
      let y = depth_scope name mark false l a in
      let s = scope_parts ws name mark false l a at rest e in
      let body : ℕ = at + 3 + length (entries_words l) in
      let done : eqb (get_or ws body 0) 0 ≡ is_done a = ap (λ w. eqb w 0) (run_head ws rest body a s.1) ∙ head_done ga in
      rw (kill_at ws notes f hole d at out to 11 (run_inside ws rest at (scope name mark false l a) e) (run_kind_lem ws rest at (scope name mark false l a) e (scope_sound bn m fl ga)))
      (turned_gives d (kill_w d ws notes f hole) ws notes rest name mark l a hole at bn (pass_scope ws notes right fl d at (omega arith) (run_words a ++ rest) s.0) out to near
      (kills ga d body (omega arith) rest s.1) (gone_nil ga d body (omega arith) rest s.1) e done room)
  kills (executor_sound {o} {y} {client} {serial} {a} bo bv t ga) (suc d) at h rest e out to room near =
      let z = depth_executor o y client serial a in
      let s : Sound n issued (executor o y client serial a) = executor_sound bo bv t ga in
      let body : ℕ = at + 3 + length (variable_words y) in
      rw (kill_at ws notes f hole d at out to 16 (run_inside ws rest at (executor o y client serial a) e) (run_kind_lem ws rest at (executor o y client serial a) e s))
      (executor_gives ws rest o y client serial f a at bo (laid y bv).low bf e (executor_own ws few small s at rest e) (kill_w d ws notes f hole) out to room near
      (kills ga d body (omega arith) rest (executor_parts ws o y client serial a at rest e)))
  kills (waiter_sound {o} {x} {server} {serial} {dead} {l} bo bx t fl) (suc d) at h rest e out to room near =
      let s : Sound n issued (waiter o x dead server serial l) = waiter_sound bo bx t fl in
      let b : server < 8 = omega (arith, end_tests n issued server serial t) in
      rw (kill_at ws notes f hole d at out to 17 (run_inside ws rest at (waiter o x dead server serial l) e) (run_kind_lem ws rest at (waiter o x dead server serial l) e s))
      (waiter_gives ws rest at out to near notes (suc d) o x dead server serial l b e (pass_run ws notes right n issued few small s (suc d) at h rest e) room)
  kills (notice_sound {o} {f = g} {client} {serial} bo bg t) (suc d) at h rest e out to room near =
      let s : Sound n issued (notice o g client serial) = notice_sound bo bg t in
      rw (kill_at ws notes f hole d at out to 18 (run_inside ws rest at (notice o g client serial) e) (run_kind_lem ws rest at (notice o g client serial) e s))
      (kept_gives ws rest at out to near o g client serial e room)
  kills (act_sound {p = m} t g) (suc d) at h rest e out to room near =
      let s : Sound n issued (act m) = act_sound t g in
      let k = plain_kind (kind m) t in
      rw (
        kill_at ws notes f hole d at out to (kind m) (run_inside ws rest at (act m) e) (run_kind_lem ws rest at (act m) e s),
        vanishing ws notes f hole d (kind m) at out to k.1 k.2 k.3 (omega (arith, code_kind g)),
      )
      (act_gives (eqb (kind m) 12) m d at out to room near (pass_run ws notes right n issued few small s (suc d) at h rest e))

-- ---- the definitions' killing, and their climb

module _
    (ws notes : List ℕ) (right : Right ws notes) (n issued : ℕ) (few : n ≤ 8) (small : issued < 65536) (f : ℕ) (bf : f < 64)
    {r : Run} (s : Sound n issued r)
    (d at : ℕ) (shallow : run_depth r ≤ d) (rest : List ℕ) (stands : drop at ws ≡ run_words r ++ rest)
    (out : List ℕ) (to : ℕ) (room : to + 2 * size r ≤ length out) (near : Near (length out))
  where
    -- a throw stands at the position, and no scope around it is a zombie or holds the fault
    pub kill_climb :
        (p : ℕ) (l : Located) → locate r p [] ≡ some l → Throws l.process → T (free f l.frames) →
        Gives r out to (at + size r) (kill_w d ws notes f (at + p) at out to) (climb f l.frames nil)
    kill_climb p l e t u = rw (killed_climb f r p at l e t u) at (kills ws notes right n issued few small f bf (at + p) s d at shallow rest stands out to room near)
