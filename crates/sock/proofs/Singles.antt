-- Trees whose lists of variables have one each, as in the earlier format: every rule keeps them so.
-- Assumes nothing.
use Prim.Native.Nat.{ℕ, zero, suc, ◌*◌}
use native.Mathlib.Omega.{arith}
use mathlib.Core.Path.{◌≡◌, refl, sym, subst, ap, ◌∙◌}
use mathlib.Core.Bool.{Bool, cond, ◌&&◌, ◌||◌}
use mathlib.Core.Option.{some}
use mathlib.Core.List.{List, [], ◌∷◌}
use lib.Dec.{leb, ltb, eqb}
use lib.ListN.{length}
use Rattle.sock.specs.Kind
use Rattle.sock.specs.Kind.{Own, word, variables, rows, row_of}
use Rattle.sock.specs.Words.{kind_of, head_of, name_fields, first_variable, next_variable}
use Rattle.sock.specs.Variables.{first_of, further_words, variable_words, further_of, variables_of, behind_variables, later_variables}
use Rattle.sock.specs.Term.{Expr, Node, node, Block, absent, list, Entries, no_entries, entry, Nodes, no_parts, ◌&◌, is_nil, nil_node, part_at, entries_of}
use Rattle.sock.specs.Reading.{fixed_at}
use Rattle.sock.specs.Running.{Run, executor, waiter, as_node}
use Rattle.sock.specs.Configuration.{Limits, Config, read_config}
use Rattle.sock.specs.Handlers.{handler, without, put, rebuilt, replaced, all_replaced, installed, update}
use Rattle.sock.specs.Calls.{Numbers, step}
use Rattle.sock.proofs.Logic.{cond-case}
use Rattle.sock.proofs.Fits.{Sound, nil_sound, seq_sound, par_sound, scope_sound, executor_sound, waiter_sound, notice_sound, act_sound}
use Rattle.sock.proofs.Fields.{head_kind, fields_below, scope_kind}
use Rattle.sock.proofs.Variables.{laid}
use Rattle.sock.proofs.Steps.{Sure}
use Rattle.sock.proofs.Kept.{Closed, Kept, nil_kept, seq_kept, par_kept, scope_kept, executor_kept, waiter_kept, notice_kept, act_kept}
use Rattle.sock.proofs.KeptSteps.{Renewed, KeptConfig, step_kept}

-- ---- trees

-- own words in which every list has the count 1
pub data OneEach : List Own → List ℕ → Type 0 where
  no_own : OneEach [] []
  a_word : {m : ℕ} {os : List Own} {w : ℕ} {f : List ℕ} → OneEach os f → OneEach (word m ∷ os) (w ∷ f)
  a_variable : {os : List Own} {f : List ℕ} → OneEach os f → OneEach (variables ∷ os) (1 ∷ f)

mutual
  pub data Single : Node → Type 0 where
    single :
        {h : ℕ} {f : List ℕ} {es : List Expr} {b : Block} {ps : Nodes} →
        OneEach (row_of (kind_of h)).fixed f →
        SingleBlock b →
        SingleNodes ps →
        Single (node h f es b ps)

  pub data SingleBlock : Block → Type 0 where
    absent_single : SingleBlock absent
    list_single : {l : Entries} → SingleEntries l → SingleBlock (list l)

  pub data SingleEntries : Entries → Type 0 where
    empty_single : SingleEntries no_entries
    entry_single : {k : ℕ} {p : Node} {es : Entries} → Single p → SingleEntries es → SingleEntries (entry k p es)

  pub data SingleNodes : Nodes → Type 0 where
    none_single : SingleNodes no_parts
    part_single : {p : Node} {ps : Nodes} → Single p → SingleNodes ps → SingleNodes (p & ps)

-- a node of known kind
pub single_as :
    {h k : ℕ} {f : List ℕ} {es : List Expr} {b : Block} {ps : Nodes} →
    kind_of h ≡ k →
    OneEach (row_of k).fixed f →
    SingleBlock b →
    SingleNodes ps →
    Single (node h f es b ps)
single_as {f = f} e o b ps = single (subst (λ k. OneEach (row_of k).fixed f) (sym e) o) b ps

nil_single : Single nil_node
unfolding row_of rows
nil_single = single_as {k = 0} refl no_own absent_single none_single

part_single_lem : {ps : Nodes} → SingleNodes ps → (i : ℕ) → Single (part_at ps i)
part_single_lem none_single i = nil_single
part_single_lem (part_single s ss) zero = s
part_single_lem (part_single s ss) (suc i) = part_single_lem ss i

list_single_lem : {b : Block} → SingleBlock b → SingleEntries (entries_of b)
list_single_lem absent_single = empty_single
list_single_lem (list_single l) = l

-- ---- handlers

handler_single : (k : ℕ) {h : Entries} → SingleEntries h → Single (handler k h)
unfolding handler
handler_single k empty_single = nil_single
handler_single k (entry_single {k = j} s l) = cond-case Single (eqb k j) (λ t. s) (λ t. handler_single k l)

without_single : (k : ℕ) {h : Entries} → SingleEntries h → SingleEntries (without k h)
unfolding without
without_single k empty_single = empty_single
without_single k (entry_single {k = j} s l) = cond-case SingleEntries (eqb k j) (λ t. l) (λ t. entry_single s (without_single k l))

put_single : (k : ℕ) {p : Node} {h : Entries} → Single p → SingleEntries h → SingleEntries (put k p h)
unfolding put
put_single k n empty_single = entry_single n empty_single
put_single k n (entry_single {k = j} s l) =
    cond-case SingleEntries (ltb k j) (λ t. entry_single n (entry_single s l))
    (λ t. cond-case SingleEntries (eqb k j) (λ u. entry_single n l) (λ u. entry_single s (put_single k n l)))

rebuilt_single :
    (h : ℕ) {f : List ℕ} (es : List Expr) {b : Block} {ps : Nodes} →
    OneEach (row_of (kind_of h)).fixed f →
    SingleBlock b →
    SingleNodes ps →
    Single (rebuilt h f es b ps)
unfolding rebuilt
rebuilt_single h es {ps = ps} o b s =
    cond-case Single ((eqb (kind_of h) Kind.seq || eqb (kind_of h) Kind.par) && is_nil (part_at ps 0)) (λ t. part_single_lem s 1)
    (λ t. cond-case Single (eqb (kind_of h) Kind.par && is_nil (part_at ps 1)) (λ u. part_single_lem s 0) (λ u. single o b s))

module _ {old : Node} (g : Single old) where
  mutual
    unfolding replaced all_replaced

    replaced_single : {m : Node} → Single m → Single (replaced old m)
    replaced_single (single {h = h} {es = es} o b s) = cond-case Single (eqb (kind_of h) Kind.cH) (λ t. g) (λ t. rebuilt_single h es o b (all_replaced_lem s))

    all_replaced_lem : {ps : Nodes} → SingleNodes ps → SingleNodes (all_replaced old ps)
    all_replaced_lem none_single = none_single
    all_replaced_lem (part_single s ss) = part_single (replaced_single s) (all_replaced_lem ss)

update_single : (h : Entries) {l : Entries} → SingleEntries h → SingleEntries l → SingleEntries (update h l)
unfolding update installed
update_single h g empty_single = g
update_single h g (entry_single {k = k} {p = p} s l) =
    let new : Single (replaced (handler k h) p) = replaced_single (handler_single k g) s in
    update_single (cond (leb 64 k && is_nil (replaced (handler k h) p)) (without k h) (put k (replaced (handler k h) p) h))
    (cond-case SingleEntries (leb 64 k && is_nil (replaced (handler k h) p)) (λ t. without_single k g) (λ t. put_single k new g))
    l

-- ---- the rules

abbrev pub OneOf : List ℕ → Type 0
OneOf x = length x ≡ 1

-- the second list of a request or a solicit
later_one : {m : ℕ} {f : List ℕ} (first : ℕ) → OneEach (word m ∷ variables ∷ variables ∷ []) f → OneOf (later_variables first f)
unfolding variables_of behind_variables further_of
later_one first (a_word (a_variable (a_variable no_own))) = refl

pub single_closed : Closed Single SingleEntries OneOf
unfolding row_of rows
single_closed =
    record {
      part = λ n i. parts n i;
      listed = λ n. listed n;
      under = λ k l. handler_single k l;
      less = λ k l. without_single k l;
      updated = λ h l. update_single _ h l;
      empty = empty_single;
      one = λ k p. entry_single p empty_single;
      installs = λ l. single_as {k = 12} refl no_own (list_single l) none_single;
      throws = λ f b. single_as {k = 13} (head_kind 13 (f * 32) (omega arith)) no_own absent_single none_single;
      asks = λ e n. asks e n;
      answers = λ e n. answers e n;
    }
  where
    parts : {h : ℕ} {f : List ℕ} {es : List Expr} {b : Block} {ps : Nodes} → Single (node h f es b ps) → (i : ℕ) → Single (part_at ps i)
    parts (single o b s) i = part_single_lem s i

    listed : {h : ℕ} {f : List ℕ} {es : List Expr} {b : Block} {ps : Nodes} → Single (node h f es b ps) → SingleEntries (entries_of b)
    listed (single o b s) = list_single_lem b

    asks :
        {h : ℕ} {f : List ℕ} {es : List Expr} {b : Block} {ps : Nodes} →
        kind_of h ≡ Kind.solicit → Single (node h f es b ps) → OneOf (later_variables (next_variable (fixed_at f 0)) f)
    asks {f = f} e (single o b s) = later_one {m = 64} (next_variable (fixed_at f 0)) (subst (λ k. OneEach (row_of k).fixed f) e o)

    answers :
        {h : ℕ} {f : List ℕ} {es : List Expr} {b : Block} {ps : Nodes} →
        kind_of h ≡ Kind.request → Single (node h f es b ps) → OneOf (later_variables (first_variable (fixed_at f 0)) f)
    answers {f = f} e (single o b s) = later_one {m = 2048} (first_variable (fixed_at f 0)) (subst (λ k. OneEach (row_of k).fixed f) e o)

-- an end has one variable, whatever its serial
abbrev pub OneAt : Unit {0} → ℕ → List ℕ → Type 0
OneAt i s y = OneOf y

pub one_on : (i : Unit {0}) (issued : ℕ) (x y : List ℕ) → OneOf x → OneOf y → length y ≡ length x → Renewed OneAt i issued x y
one_on i issued x y a b e = record { next = i; old = λ s v h q. q; receives = a; sends = b }

abbrev pub SingleRun : Run → Type 0
SingleRun = Kept Single SingleEntries (OneAt tt)

abbrev pub SingleConfig : Config → Type 0
SingleConfig = KeptConfig single_closed OneAt one_on

pub step_single :
    (limits : Limits) (ws : List ℕ) (k : Numbers) (room : ℕ) {c : Config} →
    read_config limits ws ≡ some c →
    SingleConfig c →
    Sure (λ s. SingleConfig s.config) (step limits ws k room)
step_single = step_kept single_closed OneAt one_on

-- ---- what is enabled, and its node

pub words_one : (y : List ℕ) → OneOf y → variable_words y ≡ 1 ∷ []
unfolding variable_words further_words
words_one [] e = absurd (omega arith)
words_one (v ∷ []) e = refl
words_one (v ∷ w ∷ y) e = absurd (omega arith)

only_one : {f : List ℕ} → OneEach (variables ∷ []) f → length f ≡ 1
only_one (a_variable no_own) = refl

further_counted : (y : List ℕ) → length (further_words y) ≡ length y
unfolding further_words
further_counted [] = refl
further_counted (v ∷ y) = ap suc (further_counted y)

words_counted : (y : List ℕ) → length (variable_words y) ≡ length y
unfolding variable_words
words_counted [] = refl
words_counted (v ∷ y) = ap suc (further_counted y)

one_words : (y : List ℕ) → OneEach (variables ∷ []) (variable_words y) → OneOf y
one_words y o = sym (words_counted y) ∙ only_one o

pub one_own : {m m' w w' : ℕ} (y : List ℕ) → OneOf y → OneEach (word m ∷ word m' ∷ variables ∷ []) (w ∷ w' ∷ variable_words y)
one_own y e = a_word (a_word (subst (OneEach (variables ∷ [])) (sym (words_one y e)) (a_variable no_own)))

own_one : {m m' w w' : ℕ} (y : List ℕ) → OneEach (word m ∷ word m' ∷ variables ∷ []) (w ∷ w' ∷ variable_words y) → OneOf y
own_one y (a_word (a_word o)) = one_words y o

pub executor_kind :
    {n issued o : ℕ} {y : List ℕ} {client serial : ℕ} {a : Run} →
    Sound n issued (executor o y client serial a) → kind_of (head_of Kind.executor (name_fields o (first_of y))) ≡ 16
executor_kind {o = o} {y = y} (executor_sound bo by e a) = head_kind 16 (name_fields o (first_of y)) (fields_below o (first_of y) bo (laid y by).low)

pub waiter_kind :
    {n issued o : ℕ} {x : List ℕ} {dead : Bool} {server serial : ℕ} {l : Entries} →
    Sound n issued (waiter o x dead server serial l) → kind_of (head_of Kind.waiter (name_fields o (first_of x))) ≡ 17
waiter_kind {o = o} {x = x} (waiter_sound bo bx e l) = head_kind 17 (name_fields o (first_of x)) (fields_below o (first_of x) bo (laid x bx.fitting).low)

-- the node of what is enabled is single where that is, and back
pub as_node_single : {n issued : ℕ} {r : Run} → Sound n issued r → SingleRun r → Single (as_node r)
unfolding as_node row_of rows
as_node_single nil_sound nil_kept = nil_single
as_node_single (seq_sound a t q) (seq_kept g m) = single_as {k = 2} refl no_own absent_single (part_single (as_node_single a g) (part_single m none_single))
as_node_single (par_sound a t b u) (par_kept g h) =
    single_as {k = 3} refl no_own absent_single (part_single (as_node_single a g) (part_single (as_node_single b h) none_single))
as_node_single (scope_sound {name} {mark} {zombie} b m fh a) (scope_kept l g) =
    single_as {k = 11} (scope_kind name mark zombie b) (a_word no_own) (list_single l) (part_single (as_node_single a g) none_single)
as_node_single (executor_sound {y = y} bo by e a) (executor_kept q g) =
    single_as {k = 16} (executor_kind (executor_sound bo by e a)) (one_own y q) absent_single (part_single (as_node_single a g) none_single)
as_node_single (waiter_sound {x = x} {dead = dead} bo bx e fl) (waiter_kept q l) =
    single_as {k = 17} (waiter_kind (waiter_sound {dead = dead} bo bx e fl)) (one_own x q) (list_single l) none_single
as_node_single (notice_sound {o} bo bf e) (notice_kept b) =
    single_as {k = 18} (head_kind 18 (name_fields o 0) (fields_below o 0 bo (omega arith))) (a_word (a_word no_own)) absent_single none_single
as_node_single (act_sound i f) (act_kept m) = m

-- the parts of a single node of known kind
record Parts (k : ℕ) (f : List ℕ) (b : Block) (ps : Nodes) : Type 0 where
  own : OneEach (row_of k).fixed f
  block : SingleBlock b
  parts : SingleNodes ps

taken_apart : {h k : ℕ} {f : List ℕ} {es : List Expr} {b : Block} {ps : Nodes} → kind_of h ≡ k → Single (node h f es b ps) → Parts k f b ps
taken_apart {f = f} e (single o b s) = record { own = subst (λ k. OneEach (row_of k).fixed f) e o; block = b; parts = s }

pub single_as_node : {n issued : ℕ} {r : Run} → Sound n issued r → Single (as_node r) → SingleRun r
unfolding as_node row_of rows
single_as_node nil_sound m = nil_kept
single_as_node (seq_sound a t q) m =
    let s = (taken_apart {k = 2} refl m).parts in
    seq_kept (single_as_node a (part_single_lem s 0)) (part_single_lem s 1)
single_as_node (par_sound a t b u) m =
    let s = (taken_apart {k = 3} refl m).parts in
    par_kept (single_as_node a (part_single_lem s 0)) (single_as_node b (part_single_lem s 1))
single_as_node (scope_sound {name} {mark} {zombie} b c fh a) m =
    let s = taken_apart {k = 11} (scope_kind name mark zombie b) m in
    scope_kept (list_single_lem s.block) (single_as_node a (part_single_lem s.parts 0))
single_as_node (executor_sound {y = y} bo by e a) m =
    let s = taken_apart {k = 16} (executor_kind (executor_sound bo by e a)) m in
    executor_kept (own_one {m = 8192} {m' = 1} y s.own) (single_as_node a (part_single_lem s.parts 0))
single_as_node (waiter_sound {x = x} {dead = dead} bo bx e fl) m =
    let s = taken_apart {k = 17} (waiter_kind (waiter_sound {dead = dead} bo bx e fl)) m in
    waiter_kept (own_one {m = 4096} {m' = 1} x s.own) (list_single_lem s.block)
single_as_node (notice_sound bo bf e) m = notice_kept bf
single_as_node (act_sound i f) m = act_kept m
