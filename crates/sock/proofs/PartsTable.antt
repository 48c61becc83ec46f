-- The table of parts says what is said by how many parts follow, of each kind; so a node is read by the one as by the other.
-- Assumes nothing.
use Prim.Native.Nat.{ℕ, zero, suc, ◌*◌, ◌%◌, ◌≤◌}
use native.Mathlib.Omega.{arith}
use native.Mathlib.Decide.{dec_le}
use mathlib.Core.Path.{◌≡◌, refl, ap}
use mathlib.Core.Bool.{Bool, false, cond}
use mathlib.Core.List.{List, []}
use borrow.Author.Tests.{ne_eqb}
use lib.Dec.{eqb}
use lib.ListN.{length, get_or, get_or-eq_default}
use Rattle.sock.specs.Kind
use Rattle.sock.specs.Kind.{rows, row_of, no_row}
use Rattle.sock.specs.Words.{kind_of, count_of}
use Rattle.sock.specs.Term.{Expr, Node, node, Nodes, ◌&◌, processes_of}
use Rattle.sock.specs.Reading.{Got, fail, got, and_then, check, Stratum, running, code, Place, anywhere, not_nil, guard, parts_rows, repeated, parts_of, entry_stratum, node_fits, fixed_words, exprs, block, node_by}
use Rattle.sock.specs.Reading as Table
use Rattle.sock.proofs.Fields.{From, end, ◌then◌, fact_at}
use Rattle.sock.proofs.Parts.{part_stratum, part_place, parts, part_by, node_left}

-- what follows may be replaced by the same
then_same :
    {A B : Type 0} (g : Got A) {k k' : A → List ℕ → Got B} → ((a : A) (ws : List ℕ) → k a ws ≡ k' a ws) → and_then g k ≡ and_then g k'
unfolding and_then
then_same fail h = refl
then_same (got a ws) h = h a ws

abbrev Reader : Type 0
Reader = Stratum → Place → List ℕ → Got Node

abbrev by_table : Reader → Stratum → ℕ → ℕ → List ℕ → Got Nodes
by_table read s k count ws = Table.parts (Table.part_by read s) (repeated (cond (eqb k Kind.choice) count 1) (get_or parts_rows k [])) ws

abbrev many : ℕ → ℕ → ℕ
many k count = cond (eqb k Kind.choice) (count * (row_of k).processes) (row_of k).processes

record Same (k : ℕ) : Type 0 where
  same : (read : Reader) (s : Stratum) (count : ℕ) (ws : List ℕ) → by_table read s k count ws ≡ parts (part_by read s k) (many k count) ws
  counted : (count : ℕ) → length (repeated (cond (eqb k Kind.choice) count 1) (get_or parts_rows k [])) ≡ many k count

-- in code, and where what is read runs
plain :
    {k : ℕ} →
    ((read : Reader) (c : Bool) (count : ℕ) (ws : List ℕ) → by_table read (code c) k count ws ≡ parts (part_by read (code c) k) (many k count) ws) →
    ((read : Reader) (n i count : ℕ) (ws : List ℕ) → by_table read (running n i) k count ws ≡ parts (part_by read (running n i) k) (many k count) ws) →
    ((count : ℕ) → length (repeated (cond (eqb k Kind.choice) count 1) (get_or parts_rows k [])) ≡ many k count) → Same k
plain {k} f g n = record { same = λ read s. by read s; counted = n }
  where
    by : (read : Reader) (s : Stratum) (count : ℕ) (ws : List ℕ) → by_table read s k count ws ≡ parts (part_by read s k) (many k count) ws
    by read (code c) count ws = f read c count ws
    by read (running n i) count ws = g read n i count ws

branches_counted : (count : ℕ) → length (repeated count (get_or parts_rows 6 [])) ≡ count * 2
unfolding repeated parts_rows
branches_counted zero = refl
branches_counted (suc n) = let rest = branches_counted n in omega arith

-- no part of a choice is enabled
stays : (s : Stratum) (left : ℕ) → part_stratum s 6 left ≡ Table.part_stratum s false
unfolding part_stratum Table.part_stratum
stays (code c) left = refl
stays (running n i) left = refl

-- a choice, whose branches have two parts each
branches_same :
    (read : Reader) (s : Stratum) (count : ℕ) (ws : List ℕ) →
    Table.parts (Table.part_by read s) (repeated count (get_or parts_rows 6 [])) ws ≡ parts (part_by read s 6) (count * 2) ws
unfolding Table.parts repeated parts_rows parts part_by part_place
branches_same read s zero ws = refl
branches_same read s (suc n) ws =
    let two : suc n * 2 ≡ suc (suc (n * 2)) = omega arith in
    let odd : suc (n * 2) % 2 ≡ 1 = omega arith in
    let even : n * 2 % 2 ≡ 0 = omega arith in
    rw (two, stays s (suc (n * 2)), stays s (n * 2), odd, even)
    (then_same (read (Table.part_stratum s false) guard ws) λ p w1.
    ap (λ g. and_then g λ ps rest. got (p & ps) rest)
    (then_same (read (Table.part_stratum s false) anywhere w1) λ q w2. ap (λ g. and_then g λ ps rest. got (q & ps) rest) (branches_same read s n w2)))

choice_same : Same 6
unfolding rows row_of parts_rows
choice_same = record { same = λ read s count ws. branches_same read s count ws; counted = branches_counted }

-- beyond the kinds there is none
beyond_same : (k : ℕ) → 19 ≤ k → Same k
unfolding Table.parts repeated parts rows row_of parts_rows
beyond_same k far =
    let other : eqb k Kind.choice ≡ false = ne_eqb k Kind.choice (λ e. omega arith) in
    let none : get_or parts_rows k [] ≡ [] = get_or-eq_default parts_rows [] far in
    let no : row_of k ≡ no_row = get_or-eq_default rows no_row far in
    record { same = λ read s count ws. rw (other, none, no) refl; counted = λ count. rw (other, none, no) refl }

kinds_same : From Same 19 0
unfolding Table.parts repeated parts part_by part_place part_stratum Table.part_stratum rows row_of parts_rows
kinds_same =
    plain (λ read c count ws. refl) (λ read n i count ws. refl) (λ count. refl)  -- nil
    then plain (λ read c count ws. refl) (λ read n i count ws. refl) (λ count. refl)  -- assign
    then plain (λ read c count ws. refl) (λ read n i count ws. refl) (λ count. refl)  -- seq
    then plain (λ read c count ws. refl) (λ read n i count ws. refl) (λ count. refl)  -- par
    then plain (λ read c count ws. refl) (λ read n i count ws. refl) (λ count. refl)  -- if
    then plain (λ read c count ws. refl) (λ read n i count ws. refl) (λ count. refl)  -- while
    then choice_same
    then plain (λ read c count ws. refl) (λ read n i count ws. refl) (λ count. refl)  -- one-way
    then plain (λ read c count ws. refl) (λ read n i count ws. refl) (λ count. refl)  -- request
    then plain (λ read c count ws. refl) (λ read n i count ws. refl) (λ count. refl)  -- notify
    then plain (λ read c count ws. refl) (λ read n i count ws. refl) (λ count. refl)  -- solicit
    then plain (λ read c count ws. refl) (λ read n i count ws. refl) (λ count. refl)  -- scope
    then plain (λ read c count ws. refl) (λ read n i count ws. refl) (λ count. refl)  -- inst
    then plain (λ read c count ws. refl) (λ read n i count ws. refl) (λ count. refl)  -- throw
    then plain (λ read c count ws. refl) (λ read n i count ws. refl) (λ count. refl)  -- comp
    then plain (λ read c count ws. refl) (λ read n i count ws. refl) (λ count. refl)  -- cH
    then plain (λ read c count ws. refl) (λ read n i count ws. refl) (λ count. refl)  -- executor
    then plain (λ read c count ws. refl) (λ read n i count ws. refl) (λ count. refl)  -- waiter
    then plain (λ read c count ws. refl) (λ read n i count ws. refl) (λ count. refl)  -- notice
    then end

same_kind : (k : ℕ) → Same k
same_kind k = elim (dec_le 19 k) [ yes far ↦ beyond_same k far | no near ↦ fact_at kinds_same k (omega arith) (omega (arith, near)) ]

-- as many parts as processes follow the head
pub parts_many : (h : ℕ) → length (parts_of h) ≡ processes_of h
unfolding parts_of processes_of
parts_many h = (same_kind (kind_of h)).counted (count_of h)

pub parts_same : (read : Reader) (s : Stratum) (h : ℕ) (ws : List ℕ) → Table.parts (Table.part_by read s) (parts_of h) ws ≡ parts (part_by read s (kind_of h)) (processes_of h) ws
unfolding parts_of processes_of
parts_same read s h ws = (same_kind (kind_of h)).same read s (count_of h) ws

pub node_same : (readExpr : List ℕ → Got Expr) (read : Reader) (s : Stratum) (h : ℕ) (ws : List ℕ) → node_by readExpr read s h ws ≡ node_left readExpr read s h ws
unfolding node_by node_left
node_same readExpr read s h ws =
    then_same (fixed_words (row_of (kind_of h)).fixed ws) λ f w1.
    then_same (exprs readExpr (row_of (kind_of h)).expressions w1) λ es w2.
    then_same (block (read (entry_stratum (eqb (kind_of h) Kind.scope)) anywhere) (eqb (kind_of h) Kind.scope) (row_of (kind_of h)).lists w2) λ b w3.
    ap (λ g. and_then g λ ps rest. check (node_fits s h f b) (got (node h f es b ps) rest)) (parts_same read s h w3)
