-- A scope's list stays one: cH replaced, handlers installed, looked up and dropped.
-- Assumes nothing.
use Prim.Native.Nat.{ℕ, zero, suc, ◌%◌, ◌≤◌, ◌<◌}
use native.Mathlib.Omega.{arith}
use mathlib.Core.Path.{◌≡◌, refl, subst, subst₂, sym, ap, ◌∙◌}
use mathlib.Core.Bool.{Bool, true, false, not, ◌&&◌, ◌||◌, cond}
use mathlib.Core.Logic.{◌⊎◌, inl, inr}
use mathlib.Core.List.{List}
use lib.Arith.{lt_of_le-ne}
use lib.Dec.{T, leb, ltb, eqb, ltb→lt, lt→ltb, leb→le, eqb→eq, nltb→le}
use borrow.Author.Tests.{eqb-false}
use Rattle.sock.specs.Kind
use Rattle.sock.specs.Kind.{row_of, rows}
use Rattle.sock.specs.Words.{kind_of}
use Rattle.sock.specs.Term.{Expr, Node, Block, Entries, no_entries, entry, Nodes, no_parts, ◌&◌, is_nil, part_at, processes_of}
use Rattle.sock.specs.Reading.{Stratum, code, Place, anywhere, not_nil, guard, root, allowed, placed, head_fits, node_fits, entry_fits, entry_stratum, holds}
use Rattle.sock.specs.Handlers.{handler, without, put, rebuilt, replaced, all_replaced, installed, update}
use Rattle.sock.proofs.Parts.{part_stratum, part_place}
use Rattle.sock.proofs.Logic.{and_left, or_case, or_right, cond-case, true_test, false_test, test_false}
use Rattle.sock.proofs.Fits.{FitsExprs, FitsFixed, Fits, fits, FitsBlock, FitsEntries, empty_fits, entry_fits_on, FitsParts, no_part, one_part}
use Rattle.sock.proofs.Nodes.{code_fields, Head, head_tests, head_moves, loosen, nil_fits, entries_lower}

-- ---- looking up and dropping

pub handler_fits : (o : Bool) (k : ℕ) {least : ℕ} {h : Entries} → FitsEntries o least h → Fits (entry_stratum o) anywhere (handler k h)
unfolding handler
handler_fits o k empty_fits = nil_fits (not o)
handler_fits o k (entry_fits_on {k = j} a b c d e) = cond-case (λ m. Fits (entry_stratum o) anywhere m) (eqb k j) (λ t. d) (λ t. handler_fits o k e)

pub without_fits : {o : Bool} (k : ℕ) {least : ℕ} {h : Entries} → FitsEntries o least h → FitsEntries o least (without k h)
unfolding without
without_fits k empty_fits = empty_fits
without_fits {o} k (entry_fits_on {least = least} {k = j} a b c d e) =
    cond-case (λ h. FitsEntries o least h) (eqb k j) (λ t. entries_lower least (omega arith) e) (λ t. entry_fits_on a b c d (without_fits k e))

-- ---- installing

pub put_fits :
    {o : Bool} (k : ℕ) {p : Node} {least : ℕ} {h : Entries} →
    least ≤ k →
    k < 128 →
    T (entry_fits o k p) →
    Fits (entry_stratum o) anywhere p →
    FitsEntries o least h →
    FitsEntries o least (put k p h)
unfolding put
put_fits k a b c d empty_fits = entry_fits_on a b c d empty_fits
put_fits {o} k {p} {least} a b c d (entry_fits_on {k = j} {p = q} {es = es} a' b' c' d' e) =
    cond-case (λ h. FitsEntries o least h) (ltb k j)
    (λ t. entry_fits_on a b c d (entry_fits_on (ltb→lt k j t) b' c' d' e))
    (λ t. cond-case (λ h. FitsEntries o least h) (eqb k j)
    (λ u. entry_fits_on a b c d (subst (λ i. FitsEntries o (suc i) es) (sym (eqb→eq k j u)) e))
    (λ u. entry_fits_on a' b' c' d' (put_fits k (above t u) b c d e)))
  where
    above : T (not (ltb k j)) → T (not (eqb k j)) → suc j ≤ k
    above t u = let x : j ≤ k = nltb→le k j t in let y : k ≡ j → ⊥ = eqb-false k j (test_false (eqb k j) u) in omega (arith, y)

pub installed_fits : (k : ℕ) (p : Node) {h : Entries} → k < 128 → Fits (code false) anywhere p → FitsEntries true zero h → FitsEntries true zero (installed k p h)
unfolding installed entry_fits
installed_fits k p b d g =
    cond-case (λ h. FitsEntries true zero h) (leb 64 k && is_nil p) (λ t. without_fits k g) (λ t. put_fits k (omega arith) b t d g)

-- a fault's key stays, whatever is installed or dropped under a scope's key
or_map : (a b c : Bool) → (T b → T c) → T (a || b) → T (a || c)
or_map true b c f t = tt
or_map false b c f t = f t

or_other : (a b : Bool) → (T a → ⊥) → T (a || b) → T b
or_other true b f t = absurd (f tt)
or_other false b f t = t

pub holds_without : (f k : ℕ) (h : Entries) → (f ≡ k → ⊥) → T (holds f h) → T (holds f (without k h))
unfolding holds without
holds_without f k no_entries ne t = t
holds_without f k (entry j p es) ne t =
    cond-case (λ h. T (holds f h)) (eqb k j)
    (λ u. or_other (eqb f j) (holds f es) (λ v. ne (eqb→eq f j v ∙ sym (eqb→eq k j u))) t)
    (λ u. or_map (eqb f j) (holds f es) (holds f (without k es)) (holds_without f k es ne) t)

pub holds_put : (f k : ℕ) (p : Node) (h : Entries) → T (holds f h) → T (holds f (put k p h))
unfolding holds put
holds_put f k p no_entries t = absurd t
holds_put f k p (entry j q es) t =
    cond-case (λ h. T (holds f h)) (ltb k j)
    (λ u. or_right (eqb f k) (eqb f j || holds f es) t)
    (λ u. cond-case (λ h. T (holds f h)) (eqb k j)
    (λ v. subst (λ i. T (eqb f i || holds f es)) (sym (eqb→eq k j v)) t)
    (λ v. or_map (eqb f j) (holds f es) (holds f (put k p es)) (holds_put f k p es) t))

pub holds_installed : (f k : ℕ) (p : Node) (h : Entries) → f < 64 → T (holds f h) → T (holds f (installed k p h))
unfolding installed
holds_installed f k p h b t =
    cond-case (λ h. T (holds f h)) (leb 64 k && is_nil p)
    (λ u. holds_without f k h (λ e. let x : 64 ≤ k = leb→le 64 k (and_left (leb 64 k) (is_nil p) u) in omega arith) t)
    (λ u. holds_put f k p h t)

pub holds_update : (f : ℕ) (h l : Entries) → f < 64 → T (holds f h) → T (holds f (update h l))
unfolding update
holds_update f h no_entries b t = t
holds_update f h (entry k p l) b t =
    holds_update f (installed k (replaced (handler k h) p) h) l b (holds_installed f k (replaced (handler k h) p) h b t)

-- ---- cH replaced: what may have become nil is dropped or stands where nil may

slack : Place → Place
slack anywhere = anywhere
slack not_nil = anywhere
slack guard = guard
slack root = anywhere

data Slack : ℕ → ℕ → Nodes → Type 0 where
  no_slack : {k : ℕ} → Slack k zero no_parts
  one_slack : {k n : ℕ} {p : Node} {ps : Nodes} → Fits (code false) (slack (part_place k n)) p → Slack k n ps → Slack k (suc n) (p & ps)

slack_part : {k n : ℕ} {ps : Nodes} → Slack k n ps → (i : ℕ) → Fits (code false) anywhere (part_at ps i)
slack_part no_slack i = nil_fits false
slack_part (one_slack g gs) zero = loosen g
slack_part (one_slack g gs) (suc i) = slack_part gs i

one_of : (k a b : ℕ) → a ≤ b → T (eqb k a || eqb k b) → (a ≤ k) × (k ≤ b)
one_of k a b h t = by (or_case (eqb k a) (eqb k b) t)
  where
    by : T (eqb k a) ⊎ T (eqb k b) → (a ≤ k) × (k ≤ b)
    by (inl x) = let y : k ≡ a = eqb→eq k a x in (omega arith, omega arith)
    by (inr x) = let y : k ≡ b = eqb→eq k b x in (omega arith, omega arith)

row_two : (k j : ℕ) → k ≡ j → (row_of j).processes ≡ 2 → (row_of k).processes ≡ 2
row_two k j e r = rw e r

-- a place that takes seq or par takes anything, but for nil
slack_any : (p : Place) (k : ℕ) → T (placed p k) → T (eqb k Kind.seq || eqb k Kind.par) → slack p ≡ anywhere
unfolding slack placed
slack_any anywhere k t u = refl
slack_any not_nil k t u = refl
slack_any root k t u = refl
slack_any guard k t u =
    let x = one_of k Kind.one_way Kind.request (omega arith) t in
    let y = one_of k Kind.seq Kind.par (omega arith) u in
    absurd (omega arith)

tight : {p : Node} → Fits (code false) anywhere p → T (not (is_nil p)) → Fits (code false) not_nil p
unfolding placed
tight (fits {h = h} t f e b ps g) u =
    let q : Head (code false) anywhere h = head_tests t in
    fits (head_moves (code false) not_nil h q q.allows u) f e b ps g

-- seq and par have two parts
two_parts : (h : ℕ) → T (eqb (kind_of h) Kind.seq || eqb (kind_of h) Kind.par) → processes_of h ≡ 2
unfolding processes_of row_of rows
two_parts h t =
    cond-case (λ n. n ≡ 2) (eqb (kind_of h) Kind.choice)
    (λ u. let x = one_of (kind_of h) Kind.seq Kind.par (omega arith) t in let y : kind_of h ≡ 6 = eqb→eq (kind_of h) 6 u in absurd (omega arith))
    (λ u. by (or_case (eqb (kind_of h) Kind.seq) (eqb (kind_of h) Kind.par) t))
  where
    by : T (eqb (kind_of h) Kind.seq) ⊎ T (eqb (kind_of h) Kind.par) → (row_of (kind_of h)).processes ≡ 2
    by (inl x) = row_two (kind_of h) 2 (eqb→eq (kind_of h) 2 x) refl
    by (inr x) = row_two (kind_of h) 3 (eqb→eq (kind_of h) 3 x) refl

-- the parts of a rebuilt node, none of them nil where it may not be
tight_seq : {ps : Nodes} → Slack Kind.seq 2 ps → T (not (is_nil (part_at ps 0))) → FitsParts (code false) Kind.seq 2 ps
unfolding slack part_place part_stratum
tight_seq (one_slack a (one_slack b no_slack)) t = one_part (tight a t) (one_part b no_part)

tight_par : {ps : Nodes} → Slack Kind.par 2 ps → T (not (is_nil (part_at ps 0))) → T (not (is_nil (part_at ps 1))) → FitsParts (code false) Kind.par 2 ps
unfolding slack part_place part_stratum
tight_par (one_slack a (one_slack b no_slack)) t u = one_part (tight a t) (one_part (tight b u) no_part)

slack_same : (k left : ℕ) → T (not (eqb k Kind.seq || eqb k Kind.par)) → slack (part_place k left) ≡ part_place k left
unfolding slack part_place
slack_same k left t =
    cond-case (λ p. slack p ≡ p) (eqb k Kind.par || eqb k Kind.seq && eqb left 1)
    (λ u. absurd (neither (eqb k Kind.seq) (eqb k Kind.par) (eqb left 1) t u))
    (λ u. cond-case (λ p. slack p ≡ p) (eqb k Kind.choice && eqb (left % 2) 1) (λ v. refl) (λ v. refl))
  where
    neither : (a b c : Bool) → T (not (a || b)) → T (b || a && c) → ⊥
    neither true b c x y = x
    neither false true c x y = x
    neither false false c x y = y

tight_other : {k n : ℕ} {ps : Nodes} → Slack k n ps → T (not (eqb k Kind.seq || eqb k Kind.par)) → FitsParts (code false) k n ps
unfolding part_stratum
tight_other no_slack t = no_part
tight_other (one_slack {k = k} {n = n} {p = p} g gs) t = one_part (subst (λ q. Fits (code false) q p) (slack_same k n t) g) (tight_other gs t)

-- the parts of a node that is neither seq before nil nor par beside nil
unless_both : (a b : Bool) → T (not (a && b)) → T a → T (not b)
unless_both true b t u = t
unless_both false b t u = absurd u

tighten :
    (h : ℕ) {ps : Nodes} →
    Slack (kind_of h) (processes_of h) ps →
    T (not ((eqb (kind_of h) Kind.seq || eqb (kind_of h) Kind.par) && is_nil (part_at ps 0))) →
    T (not (eqb (kind_of h) Kind.par && is_nil (part_at ps 1))) →
    FitsParts (code false) (kind_of h) (processes_of h) ps
tighten h {ps} g t u = by (eqb (kind_of h) Kind.seq || eqb (kind_of h) Kind.par) refl
  where
    by : (b : Bool) → (eqb (kind_of h) Kind.seq || eqb (kind_of h) Kind.par) ≡ b → FitsParts (code false) (kind_of h) (processes_of h) ps
    by false e = tight_other g (false_test e)
    by true e = at (or_case (eqb (kind_of h) Kind.seq) (eqb (kind_of h) Kind.par) (true_test e))
      where
        first : T (not (is_nil (part_at ps 0)))
        first = unless_both (eqb (kind_of h) Kind.seq || eqb (kind_of h) Kind.par) (is_nil (part_at ps 0)) t (true_test e)

        both : processes_of h ≡ 2
        both = two_parts h (true_test e)

        at : T (eqb (kind_of h) Kind.seq) ⊎ T (eqb (kind_of h) Kind.par) → FitsParts (code false) (kind_of h) (processes_of h) ps
        at (inl x) =
            let k : kind_of h ≡ 2 = eqb→eq (kind_of h) 2 x in
            subst₂ (λ i n. FitsParts (code false) i n ps) (sym k) (sym both) (tight_seq (subst₂ (λ i n. Slack i n ps) k both g) first)
        at (inr x) =
            let k : kind_of h ≡ 3 = eqb→eq (kind_of h) 3 x in
            subst₂ (λ i n. FitsParts (code false) i n ps) (sym k) (sym both)
            (tight_par (subst₂ (λ i n. Slack i n ps) k both g) first (unless_both (eqb (kind_of h) Kind.par) (is_nil (part_at ps 1)) u x))

-- the head of a process that holds no cH of its own
placed_slack : (p : Place) (k : ℕ) → T (placed p k) → T (placed (slack p) k)
unfolding placed slack
placed_slack anywhere k t = tt
placed_slack not_nil k t = tt
placed_slack guard k t = t
placed_slack root k t = tt

allowed_less : (k : ℕ) → T (allowed (code true) k) → T (not (eqb k Kind.cH)) → T (allowed (code false) k)
unfolding allowed
allowed_less k t u =
    let x : k ≤ 15 = leb→le k 15 t in
    let y : k ≡ 15 → ⊥ = eqb-false k 15 (test_false (eqb k 15) u) in
    lt→ltb k 15 (lt_of_le-ne x y)

head_less : {p : Place} (h : ℕ) → Head (code true) p h → T (not (eqb (kind_of h) Kind.cH)) → T (head_fits (code false) (slack p) h)
head_less {p} h q t = head_moves (code false) (slack p) h q (allowed_less (kind_of h) q.allows t) (placed_slack p (kind_of h) q.places)

rebuilt_fits :
    {p : Place} {h : ℕ} {f : List ℕ} {es : List Expr} {b : Block} {ps : Nodes} →
    Head (code true) p h →
    T (not (eqb (kind_of h) Kind.cH)) →
    FitsFixed (row_of (kind_of h)).fixed f →
    FitsExprs (row_of (kind_of h)).expressions es →
    FitsBlock (eqb (kind_of h) Kind.scope) (row_of (kind_of h)).lists b →
    Slack (kind_of h) (processes_of h) ps →
    T (node_fits (code false) h f b) →
    Fits (code false) (slack p) (rebuilt h f es b ps)
unfolding rebuilt
rebuilt_fits {p} {h} {f} {es} {b} {ps} q t x e y sl g =
    cond-case (λ m. Fits (code false) (slack p) m) ((eqb (kind_of h) Kind.seq || eqb (kind_of h) Kind.par) && is_nil (part_at ps 0))
    (λ u. one (and_left (eqb (kind_of h) Kind.seq || eqb (kind_of h) Kind.par) (is_nil (part_at ps 0)) u) 1)
    (λ u. cond-case (λ m. Fits (code false) (slack p) m) (eqb (kind_of h) Kind.par && is_nil (part_at ps 1))
    (λ v. one (or_right (eqb (kind_of h) Kind.seq) (eqb (kind_of h) Kind.par) (and_left (eqb (kind_of h) Kind.par) (is_nil (part_at ps 1)) v)) 0)
    (λ v. fits (head_less h q t) x e y (tighten h sl u v) g))
  where
    one : T (eqb (kind_of h) Kind.seq || eqb (kind_of h) Kind.par) → (i : ℕ) → Fits (code false) (slack p) (part_at ps i)
    one u i = subst (λ r. Fits (code false) r (part_at ps i)) (sym (slack_any p (kind_of h) q.places u)) (slack_part sl i)

-- a place that takes cH takes anything
slack_cH : (p : Place) (k : ℕ) → T (placed p k) → T (eqb k Kind.cH) → slack p ≡ anywhere
unfolding slack placed
slack_cH anywhere k t u = refl
slack_cH not_nil k t u = refl
slack_cH root k t u = refl
slack_cH guard k t u =
    let x = one_of k Kind.one_way Kind.request (omega arith) t in
    let y : k ≡ 15 = eqb→eq k 15 u in
    absurd (omega arith)

by_head :
    (old : Node) → Fits (code false) anywhere old →
    (p : Place) (h : ℕ) (f : List ℕ) (es : List Expr) (b : Block) (ps : Nodes) →
    T (head_fits (code true) p h) →
    FitsFixed (row_of (kind_of h)).fixed f →
    FitsExprs (row_of (kind_of h)).expressions es →
    FitsBlock (eqb (kind_of h) Kind.scope) (row_of (kind_of h)).lists b →
    Slack (kind_of h) (processes_of h) ps →
    T (node_fits (code true) h f b) →
    Fits (code false) (slack p) (cond (eqb (kind_of h) Kind.cH) old (rebuilt h f es b ps))
by_head old g p h f es b ps t x e y sl w =
    let q : Head (code true) p h = head_tests t in
    cond-case (λ m. Fits (code false) (slack p) m) (eqb (kind_of h) Kind.cH)
    (λ u. subst (λ r. Fits (code false) r old) (sym (slack_cH p (kind_of h) q.places u)) g)
    (λ u. rebuilt_fits q u x e y sl (code_fields true false h f b w))

module _ (old : Node) (g : Fits (code false) anywhere old) where
  mutual
    unfolding replaced part_stratum

    replaces : {s : Stratum} {p : Place} {m : Node} → Fits s p m → s ≡ code true → Fits (code false) (slack p) (replaced old m)
    replaces {p = p} (fits {h = h} {f = f} {es = es} {b = b} {ps = ps} t x e y xs w) q =
        by_head old g p h f es b (all_replaced old ps) (subst (λ s. T (head_fits s p h)) q t) x e y (all_replaces xs q) (subst (λ s. T (node_fits s h f b)) q w)

    all_replaces : {s : Stratum} {k n : ℕ} {ps : Nodes} → FitsParts s k n ps → s ≡ code true → Slack k n (all_replaced old ps)
    all_replaces no_part q = no_slack
    all_replaces (one_part {k = k} {n = n} x xs) q = one_slack (replaces x (ap (λ s. part_stratum s k n) q)) (all_replaces xs q)

-- the old process in cH's place keeps what fits where cH may stand, and holds no cH
pub replaced_fits : {p : Place} {m : Node} (old : Node) → Fits (code false) anywhere old → Fits (code true) p m → Fits (code false) anywhere (replaced old m)
replaced_fits old g x = loosen (replaces old g x refl)

-- ---- updating

pub update_fits : {least : ℕ} (h : Entries) {l : Entries} → FitsEntries true zero h → FitsEntries false least l → FitsEntries true zero (update h l)
unfolding update
update_fits h g empty_fits = g
update_fits h g (entry_fits_on {k = k} {p = p} a b c d e) =
    update_fits (installed k (replaced (handler k h) p) h)
    (installed_fits k (replaced (handler k h) p) b (replaced_fits (handler k h) (handler_fits true k g) d) g)
    e
