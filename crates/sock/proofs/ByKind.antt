-- A process of a known kind: how it fits, and the kind of what is sound.
-- Assumes nothing.
use Prim.Native.Nat.{ℕ, ◌*◌, ◌<◌}
use native.Mathlib.Omega.{arith}
use mathlib.Core.Path.{◌≡◌, refl, sym}
use mathlib.Core.Bool.{Bool, true, false, not, ◌&&◌, ◌||◌, cond}
use mathlib.Core.List.{List, []}
use lib.Dec.{T, leb, ltb, eqb, ltb→lt}
use Rattle.sock.specs.Kind
use Rattle.sock.specs.Kind.{row_of}
use Rattle.sock.specs.Words.{clear, kind_of, count_of, name_fields}
use Rattle.sock.specs.Variables.{first_of}
use Rattle.sock.specs.Term.{Expr, Node, node, Block, Nodes, kind, processes_of}
use Rattle.sock.specs.Reading.{Stratum, running, code, Place, anywhere, not_nil, guard, root, allowed, placed, branched, head_fits, node_fits}
use Rattle.sock.specs.Running.{Run, nil, seq, par, scope, executor, waiter, notice, act, as_node}
use Rattle.sock.specs.Configuration.{is_scope}
use Rattle.sock.specs.Frames.{is_done}
use Rattle.sock.proofs.Parts.{part_stratum}
use Rattle.sock.proofs.Fits.{FitsExprs, FitsFixed, Fits, fits, FitsBlock, FitsParts, no_part, one_part, Sound, nil_sound, seq_sound, par_sound, scope_sound, executor_sound, waiter_sound, notice_sound, act_sound, PlacedRun}
use Rattle.sock.proofs.Variables.{laid}
use Rattle.sock.proofs.Fields.{four, four_pass, plain_kind, head_kind, fields_below, scope_kind}

-- ---- fitting, by kind

-- what a head that fits passes
pub head_tests :
    (s : Stratum) (p : Place) (h : ℕ) → T (head_fits s p h) → T (allowed s (kind_of h)) × T (placed p (kind_of h)) × T (clear (row_of (kind_of h)).spare h) × T (branched h)
unfolding head_fits
head_tests s p h t = four (allowed s (kind_of h)) (placed p (kind_of h)) (clear (row_of (kind_of h)).spare h) (branched h) t

pub at_place : {s : Stratum} {p : Place} {m : Node} → Fits s p m → T (placed p (kind m))
at_place (fits {s} {p} {h} t fx ex bl pt nf) = (head_tests s p h t).1

-- a process of kind k fits
pub fits_as :
    {s : Stratum} {p : Place} {h k : ℕ} {f : List ℕ} {es : List Expr} {b : Block} {ps : Nodes} →
    kind_of h ≡ k →
    T (allowed s k) × T (placed p k) × T (clear (row_of k).spare h) × T (branched h) →
    FitsFixed (row_of k).fixed f →
    FitsExprs (row_of k).expressions es →
    FitsBlock (eqb k Kind.scope) (row_of k).lists b →
    FitsParts s k (cond (eqb k Kind.choice) (count_of h * (row_of k).processes) (row_of k).processes) ps →
    T (node_fits s h f b) →
    Fits s p (node h f es b ps)
unfolding head_fits processes_of
fits_as {s} {p} {h} {k} e t fx ex bl pt nf =
    let head : T (head_fits s p h) = rw e (four_pass (allowed s k) (placed p k) (clear (row_of k).spare h) (branched h) t) in
    fits head (rw (← e) at fx) (rw (← e) at ex) (rw (← e) at bl) (rw (← e) at pt) nf

-- an enabled process that is no choice fits
pub runs_as :
    {n issued : ℕ} {p : Place} {h k : ℕ} {f : List ℕ} {b : Block} {ps : Nodes} →
    kind_of h ≡ k →
    T (allowed (running n issued) k && not (eqb k Kind.choice)) →
    T (placed p k) →
    T (clear (row_of k).spare h) →
    FitsFixed (row_of k).fixed f →
    FitsExprs (row_of k).expressions [] →
    FitsBlock (eqb k Kind.scope) (row_of k).lists b →
    FitsParts (running n issued) k (row_of k).processes ps →
    T (node_fits (running n issued) h f b) →
    Fits (running n issued) p (node h f [] b ps)
unfolding branched
runs_as {n} {issued} {h = h} {k} e a l c fx ex bl pt nf = fits_as e (t.0, l, c, rw e t.2) fx ex bl (rw t.1 pt) nf
  where
    go : (a b c : Bool) → T (a && not b) → T a × (b ≡ false) × T (not b || c)
    go true false c t = (tt, refl, tt)
    go true true c t = absurd t
    go false b c t = absurd t

    t : T (allowed (running n issued) k) × (eqb k Kind.choice ≡ false) × T (not (eqb k Kind.choice) || (ltb 0 (count_of h) && leb (count_of h) 8))
    t = go (allowed (running n issued) k) (eqb k Kind.choice) _ a

-- code holds no cH
pub code_kind : {p : Place} {m : Node} → Fits (code false) p m → kind m < 15
unfolding allowed
code_kind (fits {p = p} {h} t fx ex bl pt nf) = ltb→lt (kind_of h) 15 (head_tests (code false) p h t).0

-- parts in another stratum
pub recoded : {s s' : Stratum} {k c : ℕ} {ps : Nodes} → ((left : ℕ) → part_stratum s k left ≡ part_stratum s' k left) → FitsParts s k c ps → FitsParts s' k c ps
recoded e no_part = no_part
recoded e (one_part {n = left} f fs) = one_part (rw (e left) at f) (recoded e fs)

-- ---- the kind of what is sound

abbrev pub run_kind : Run → ℕ
run_kind nil = Kind.nil
run_kind (seq a q) = Kind.seq
run_kind (par a b) = Kind.par
run_kind (scope name mark zombie h a) = Kind.scope
run_kind (executor o y client serial a) = Kind.executor
run_kind (waiter o x dead server serial l) = Kind.waiter
run_kind (notice o f client serial) = Kind.notice
run_kind (act p) = kind p

pub kind_as_node : {n issued : ℕ} {r : Run} → Sound n issued r → kind (as_node r) ≡ run_kind r
unfolding as_node
kind_as_node nil_sound = refl
kind_as_node (seq_sound a d q) = refl
kind_as_node (par_sound a d b d') = refl
kind_as_node (scope_sound {name} {mark} {zombie} b m h a) = scope_kind name mark zombie b
kind_as_node (executor_sound {o} {y} bo by e a) = head_kind 16 (name_fields o (first_of y)) (fields_below o (first_of y) bo (laid y by).low)
kind_as_node (waiter_sound {o} {x} bo bx e l) = head_kind 17 (name_fields o (first_of x)) (fields_below o (first_of x) bo (laid x bx.fitting).low)
kind_as_node (notice_sound {o} bo bf e) = head_kind 18 (name_fields o 0) (fields_below o 0 bo (omega arith))
kind_as_node (act_sound i f) = refl

pub done_kind : {n issued : ℕ} {r : Run} → Sound n issued r → is_done r ≡ eqb (run_kind r) Kind.nil
unfolding is_done
done_kind nil_sound = refl
done_kind (seq_sound a d q) = refl
done_kind (par_sound a d b d') = refl
done_kind (scope_sound b m h a) = refl
done_kind (executor_sound bo by e a) = refl
done_kind (waiter_sound bo bx e l) = refl
done_kind (notice_sound bo bf e) = refl
done_kind (act_sound {p} i f) = sym (plain_kind (kind p) i).0

pub scoped_kind : {n issued : ℕ} {r : Run} → Sound n issued r → is_scope r ≡ eqb (run_kind r) Kind.scope
unfolding is_scope
scoped_kind nil_sound = refl
scoped_kind (seq_sound a d q) = refl
scoped_kind (par_sound a d b d') = refl
scoped_kind (scope_sound b m h a) = refl
scoped_kind (executor_sound bo by e a) = refl
scoped_kind (waiter_sound bo bx e l) = refl
scoped_kind (notice_sound bo bf e) = refl
scoped_kind (act_sound {p} i f) = sym (plain_kind (kind p) i).3

-- what is sound stands where its node may
pub kind_placed : {n issued : ℕ} {r : Run} → Sound n issued r → (p : Place) → PlacedRun p r → T (placed p (run_kind r))
unfolding placed
kind_placed s anywhere l = tt
kind_placed s not_nil l = rw (done_kind s) at l
kind_placed s guard l = absurd l
kind_placed s root l = rw (done_kind s, scoped_kind s) at l
