-- Tallies of ends, for every test: none in code that becomes enabled, and the same in a term rebuilt, in frames and out of them.
-- Assumes nothing.
use Prim.Native.Nat.{ℕ, zero, suc, ◌+◌, ◌-◌}
use native.Mathlib.Omega.{arith}
use mathlib.Core.Path.{◌≡◌, refl, sym, ◌∙◌}
use mathlib.Core.Bool.{Bool, true, false}
use mathlib.Core.List.{List, [], ◌∷◌}
use lib.Dec.{T, ltb}
use lib.ListN.{length, get_or, take}
use Rattle.sock.specs.Words.{bit, kind_of}
use Rattle.sock.specs.Term.{Expr, Node, node, Block, Entries, Nodes, no_parts, ◌&◌}
use Rattle.sock.specs.Variables.{variable_words}
use Rattle.sock.specs.Layout.{entries_words}
use Rattle.sock.specs.Running.{Run, nil, seq, par, scope, executor, waiter, notice, act, size, Form, nil_form, seq_form, par_form, scope_form, executor_form, waiter_form, notice_form, plain, forms, in_form, opened, all_opened, enable}
use Rattle.sock.specs.Frames.{Frame, seq_frame, left_frame, right_frame, scope_frame, executor_frame, Located, locate, is_done, seq_of, par_of, plug, on_nearest}
use Rattle.sock.specs.Calls.{End, working, tally}
use Rattle.sock.proofs.Logic.{cond-case, All, all_none}
use Rattle.sock.proofs.Frames.{all_here, all_past}

-- ---- code that becomes enabled

-- the forms that hold no end themselves
abbrev pub endless : Form → Bool
endless nil_form = true
endless seq_form = true
endless par_form = true
endless scope_form = true
endless executor_form = false
endless waiter_form = false
endless notice_form = false
endless plain = true

pub code_endless : (k : ℕ) → T (endless (get_or (take 12 forms) k plain))
unfolding forms
code_endless zero = tt
code_endless (suc zero) = tt
code_endless (suc (suc zero)) = tt
code_endless (suc (suc (suc zero))) = tt
code_endless (suc (suc (suc (suc zero)))) = tt
code_endless (suc (suc (suc (suc (suc zero))))) = tt
code_endless (suc (suc (suc (suc (suc (suc zero)))))) = tt
code_endless (suc (suc (suc (suc (suc (suc (suc zero))))))) = tt
code_endless (suc (suc (suc (suc (suc (suc (suc (suc zero)))))))) = tt
code_endless (suc (suc (suc (suc (suc (suc (suc (suc (suc zero))))))))) = tt
code_endless (suc (suc (suc (suc (suc (suc (suc (suc (suc (suc zero)))))))))) = tt
code_endless (suc (suc (suc (suc (suc (suc (suc (suc (suc (suc (suc zero))))))))))) = tt
code_endless (suc (suc (suc (suc (suc (suc (suc (suc (suc (suc (suc (suc k)))))))))))) = tt

module _ (t : End → Bool) where
  form_tally :
      (g : Form) → T (endless g) →
      (h : ℕ) (f : List ℕ) (es : List Expr) (b : Block) (ps : Nodes) (rs : List Run) →
      ((i : ℕ) → tally t (get_or rs i nil) ≡ 0) →
      tally t (in_form g h f es b ps rs) ≡ 0
  unfolding in_form tally
  form_tally nil_form e h f es b ps rs z = refl
  form_tally seq_form e h f es b ps rs z = z 0
  form_tally par_form e h f es b ps rs z = omega (arith, z 0, z 1)
  form_tally scope_form e h f es b ps rs z = z 0
  form_tally executor_form e h f es b ps rs z = absurd e
  form_tally waiter_form e h f es b ps rs z = absurd e
  form_tally notice_form e h f es b ps rs z = absurd e
  form_tally plain e h f es b ps rs z = refl

  mutual
    unfolding opened all_opened tally

    opened_tally : (m : Node) → tally t (opened (take 12 forms) m) ≡ 0
    opened_tally (node h f es b ps) =
        form_tally (get_or (take 12 forms) (kind_of h) plain) (code_endless (kind_of h)) h f es b ps (all_opened (take 12 forms) ps) λ i. parts_tally ps i

    parts_tally : (ps : Nodes) (i : ℕ) → tally t (get_or (all_opened (take 12 forms) ps) i nil) ≡ 0
    parts_tally no_parts i = refl
    parts_tally (p & ps) zero = opened_tally p
    parts_tally (p & ps) (suc i) = parts_tally ps i

  pub enable_tally : (m : Node) → tally t (enable m) ≡ 0
  unfolding enable
  enable_tally m = opened_tally m

  -- ---- a term rebuilt

  pub done_tally : (r : Run) → T (is_done r) → tally t r ≡ 0
  unfolding is_done tally
  done_tally nil d = refl
  done_tally (seq p q) d = absurd d
  done_tally (par p q) d = absurd d
  done_tally (scope name mark zombie h p) d = absurd d
  done_tally (executor o y client serial p) d = absurd d
  done_tally (waiter o x dead server serial l) d = absurd d
  done_tally (notice o f client serial) d = absurd d
  done_tally (act p) d = absurd d

  pub seq_of_tally : (a : Run) (q : Node) → tally t (seq_of a q) ≡ tally t a
  unfolding seq_of tally
  seq_of_tally a q = cond-case (λ r. tally t r ≡ tally t a) (is_done a) (λ d. enable_tally q ∙ sym (done_tally a d)) (λ d. refl)

  pub par_of_tally : (a b : Run) → tally t (par_of a b) ≡ tally t a + tally t b
  unfolding par_of tally
  par_of_tally a b =
      cond-case (λ r. tally t r ≡ tally t a + tally t b) (is_done a) (λ d. omega (arith, done_tally a d))
      (λ d. cond-case (λ r. tally t r ≡ tally t a + tally t b) (is_done b) (λ e. omega (arith, done_tally b e)) (λ e. refl))

  -- ---- frames

  -- the ends in the frames around a process
  unfoldable pub around : List Frame → ℕ
  around [] = 0
  around (seq_frame q ∷ fs) = around fs
  around (left_frame b ∷ fs) = tally t b + around fs
  around (right_frame b ∷ fs) = tally t b + around fs
  around (scope_frame name mark zombie h ∷ fs) = around fs
  around (executor_frame o y client serial ∷ fs) = bit (t (working serial o client)) + around fs

  pub plug_tally : (fs : List Frame) (a : Run) → tally t (plug fs a) ≡ around fs + tally t a
  unfolding plug around tally
  plug_tally [] a = omega arith
  plug_tally (seq_frame q ∷ fs) a = plug_tally fs (seq_of a q) ∙ omega (arith, seq_of_tally a q)
  plug_tally (left_frame b ∷ fs) a = plug_tally fs (par_of a b) ∙ omega (arith, par_of_tally a b)
  plug_tally (right_frame b ∷ fs) a = plug_tally fs (par_of b a) ∙ omega (arith, par_of_tally b a)
  plug_tally (scope_frame name mark zombie h ∷ fs) a = plug_tally fs (scope name mark zombie h a)
  plug_tally (executor_frame o y client serial ∷ fs) a = plug_tally fs (executor o y client serial a) ∙ omega arith

  pub nearest_tally : (change : Entries → Entries) (fs : List Frame) → around (on_nearest change fs) ≡ around fs
  unfolding on_nearest around
  nearest_tally change [] = refl
  nearest_tally change (seq_frame q ∷ fs) = nearest_tally change fs
  nearest_tally change (left_frame b ∷ fs) = omega (arith, nearest_tally change fs)
  nearest_tally change (right_frame b ∷ fs) = omega (arith, nearest_tally change fs)
  nearest_tally change (scope_frame name mark zombie h ∷ fs) = refl
  nearest_tally change (executor_frame o y client serial ∷ fs) = omega (arith, nearest_tally change fs)

-- ---- a process found in its frames: for every test, the frames and the process hold n ends

abbrev pub Holding : ((End → Bool) → ℕ) → Located → Type 0
Holding n l = (t : End → Bool) → around t l.frames + tally t l.process ≡ n t

pub locate_tally :
    (r : Run) (p : ℕ) (fs : List Frame) (n : (End → Bool) → ℕ) →
    ((t : End → Bool) → around t fs + tally t r ≡ n t) →
    All (Holding n) (locate r p fs)
unfolding locate around tally
locate_tally nil p fs n h = all_here p _ h all_none
locate_tally (seq a q) p fs n h = all_here p _ h (all_past 1 p λ i. locate_tally a i (seq_frame q ∷ fs) n h)
locate_tally (par a b) p fs n h =
    all_here p _ h
    (all_past 1 p λ i. cond-case (λ o. All (Holding n) o) (ltb i (size a))
    (λ u. locate_tally a i (left_frame b ∷ fs) n (λ t. omega (arith, h t)))
    (λ u. locate_tally b (i - size a) (right_frame a ∷ fs) n (λ t. omega (arith, h t))))
locate_tally (scope name mark zombie hs a) p fs n h =
    all_here p _ h (all_past (3 + length (entries_words hs)) p λ i. locate_tally a i (scope_frame name mark zombie hs ∷ fs) n h)
locate_tally (executor o y client serial a) p fs n h =
    all_here p _ h (all_past (3 + length (variable_words y)) p λ i. locate_tally a i (executor_frame o y client serial ∷ fs) n (λ t. omega (arith, h t)))
locate_tally (waiter o x dead server serial l) p fs n h = all_here p _ h all_none
locate_tally (notice o f client serial) p fs n h = all_here p _ h all_none
locate_tally (act a) p fs n h = all_here p _ h all_none
