-- Words, size and depth of what is enabled, by its constructors.
-- Assumes nothing.
use Prim.Native.Nat.{ℕ, suc, ◌+◌, ◌*◌, max}
use native.Mathlib.Omega.{arith}
use mathlib.Core.Path.{◌≡◌, refl, ap}
use mathlib.Core.Bool.{Bool}
use mathlib.Core.List.{List, [], ◌∷◌, ◌++◌, append-nil}
use lib.ListN.{length, length-append}
use Rattle.sock.specs.Kind
use Rattle.sock.specs.Words.{bit, head_of, name_fields}
use Rattle.sock.specs.Variables.{first_of, variable_words}
use Rattle.sock.specs.Term.{Node, Entries}
use Rattle.sock.specs.Layout.{exprs_words, count, words, entries_words, exprs_depth, depth, entries_depth}
use Rattle.sock.specs.Running.{Mark, marked_fault, scope_head, Run, nil, seq, par, scope, executor, waiter, notice, act, as_node, run_words, size, run_depth}

-- ---- words

pub words_nil : run_words nil ≡ head_of Kind.nil 0 ∷ []
unfolding run_words as_node words exprs_words
words_nil = refl

pub words_seq : (a : Run) (q : Node) → run_words (seq a q) ≡ head_of Kind.seq 0 ∷ (run_words a ++ words q)
unfolding run_words as_node words exprs_words
words_seq a q = simp append-nil

pub words_par : (a b : Run) → run_words (par a b) ≡ head_of Kind.par 0 ∷ (run_words a ++ run_words b)
unfolding run_words as_node words exprs_words
words_par a b = simp append-nil

pub words_scope :
    (name : ℕ) (mark : Mark) (zombie : Bool) (h : Entries) (a : Run) →
    run_words (scope name mark zombie h a) ≡ scope_head name mark zombie ∷ (marked_fault mark * 1024) ∷ count h ∷ (entries_words h ++ run_words a)
unfolding run_words as_node words exprs_words
words_scope name mark zombie h a = simp append-nil

pub words_executor :
    (o : ℕ) (y : List ℕ) (client serial : ℕ) (a : Run) →
    run_words (executor o y client serial a) ≡ head_of Kind.executor (name_fields o (first_of y)) ∷ (client * 8192) ∷ serial ∷ (variable_words y ++ run_words a)
unfolding run_words as_node words exprs_words
words_executor o y client serial a = simp append-nil

pub words_waiter :
    (o : ℕ) (x : List ℕ) (dead : Bool) (server serial : ℕ) (l : Entries) →
    run_words (waiter o x dead server serial l) ≡
    head_of Kind.waiter (name_fields o (first_of x)) ∷ (bit dead * 32768 + server * 4096) ∷ serial ∷ (variable_words x ++ (count l ∷ entries_words l))
unfolding run_words as_node words exprs_words
words_waiter o x dead server serial l = simp append-nil

pub words_notice :
    (o f client serial : ℕ) → run_words (notice o f client serial) ≡ head_of Kind.notice (name_fields o 0) ∷ (f * 1024 + client * 128) ∷ serial ∷ []
unfolding run_words as_node words exprs_words
words_notice o f client serial = refl

pub words_act : (m : Node) → run_words (act m) ≡ words m
unfolding run_words as_node
words_act m = refl

-- ---- size

pub size_nil : size nil ≡ 1
unfolding size
size_nil = ap length words_nil

pub size_seq : (a : Run) (q : Node) → size (seq a q) ≡ 1 + size a + length (words q)
unfolding size
size_seq a q = rw words_seq (omega (arith, length-append (run_words a) (words q)))

pub size_par : (a b : Run) → size (par a b) ≡ 1 + size a + size b
unfolding size
size_par a b = rw words_par (omega (arith, length-append (run_words a) (run_words b)))

pub size_scope : (name : ℕ) (mark : Mark) (zombie : Bool) (h : Entries) (a : Run) → size (scope name mark zombie h a) ≡ 3 + length (entries_words h) + size a
unfolding size
size_scope name mark zombie h a = rw words_scope (omega (arith, length-append (entries_words h) (run_words a)))

pub size_executor : (o : ℕ) (y : List ℕ) (client serial : ℕ) (a : Run) → size (executor o y client serial a) ≡ 3 + length (variable_words y) + size a
unfolding size
size_executor o y client serial a = rw words_executor (omega (arith, length-append (variable_words y) (run_words a)))

pub size_waiter : (o : ℕ) (x : List ℕ) (dead : Bool) (server serial : ℕ) (l : Entries) → size (waiter o x dead server serial l) ≡ 4 + length (variable_words x) + length (entries_words l)
unfolding size
size_waiter o x dead server serial l = rw words_waiter (omega (arith, length-append (variable_words x) (count l ∷ entries_words l)))

pub size_notice : (o f client serial : ℕ) → size (notice o f client serial) ≡ 3
unfolding size
size_notice o f client serial = ap length (words_notice o f client serial)

pub size_act : (m : Node) → size (act m) ≡ length (words m)
unfolding size
size_act m = ap length (words_act m)

-- ---- depth

pub depth_nil : run_depth nil ≡ 1
unfolding run_depth as_node depth exprs_depth
depth_nil = refl

pub depth_seq : (a : Run) (q : Node) → run_depth (seq a q) ≡ suc (max (run_depth a) (depth q))
unfolding run_depth as_node depth exprs_depth
depth_seq a q = omega arith

pub depth_par : (a b : Run) → run_depth (par a b) ≡ suc (max (run_depth a) (run_depth b))
unfolding run_depth as_node depth exprs_depth
depth_par a b = omega arith

pub depth_scope :
    (name : ℕ) (mark : Mark) (zombie : Bool) (h : Entries) (a : Run) → run_depth (scope name mark zombie h a) ≡ suc (max (entries_depth h) (run_depth a))
unfolding run_depth as_node depth exprs_depth
depth_scope name mark zombie h a = omega arith

pub depth_executor : (o : ℕ) (y : List ℕ) (client serial : ℕ) (a : Run) → run_depth (executor o y client serial a) ≡ suc (run_depth a)
unfolding run_depth as_node depth exprs_depth
depth_executor o y client serial a = omega arith

pub depth_waiter : (o : ℕ) (x : List ℕ) (dead : Bool) (server serial : ℕ) (l : Entries) → run_depth (waiter o x dead server serial l) ≡ suc (entries_depth l)
unfolding run_depth as_node depth exprs_depth
depth_waiter o x dead server serial l = omega arith

pub depth_notice : (o f client serial : ℕ) → run_depth (notice o f client serial) ≡ 1
unfolding run_depth as_node depth exprs_depth
depth_notice o f client serial = refl

pub depth_act : (m : Node) → run_depth (act m) ≡ depth m
unfolding run_depth as_node
depth_act m = refl
