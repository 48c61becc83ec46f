-- `tally`, `executor`, `par`, `scope` and `seq` of `reading::ends::Tally` meet their contracts. The measure is twice the depth, and
-- one more for a seq, par, scope or executor, which counts one level down. Counts do not run over: there are no more ends than words.
use Prim.Native.Nat.{ℕ, ◌/◌, ◌<◌}
use native.Mathlib.Omega.{arith}
use borrow.Author.Rules.{rules}
use borrow.Author.Tests.{ne_eqb}
use mathlib.Core.Path.{◌≡◌, refl, sym, ap, ◌∙◌}
use mathlib.Core.List.{List}
use lib.ListN.{length, get_or}
use Rattle.std.specs.Prelude.{None}
use Rattle.layout.specs.Contexts.{running}
use Rattle.layout.specs.Kinds.{kind_named, number_of}
use Rattle.layout.specs.declared.kind.Kind.{Kind}
use Rattle.layout.specs.declared.kind.Kind.TheVariants as kinds
use Rattle.layout.proofs.Named.{not_kind}
use Rattle.sock.proofs.Tests.{tests}
use Rattle.reading.specs.Tally.{counted, node_tally, tally_at}
use Rattle.reading.specs.Walk.{end_as, process_end}
use Rattle.reading.proofs.Counting.{tally_node}
use Rattle.reading.proofs.Given.{some_end, none_end}
use Rattle.reading.proofs.Sets.{running_context}
use Rattle.reading.proofs.ends.Tally.+executor_par_scope_seq_tally.Goals as goal

-- a process of another kind has no enabled process in it, and is no end
other :
    (d : ℕ) (ws : List ℕ) (serial bound i : ℕ) (k : Kind) → (d ≡ 0 → ⊥) → i < length ws → k ≡ kind_named (get_or ws i 0 / 2048) →
    (k ≡ kinds.Seq → ⊥) → (k ≡ kinds.Par → ⊥) → (k ≡ kinds.Scope → ⊥) → (k ≡ kinds.Executor → ⊥) → (k ≡ kinds.Waiter → ⊥) → (k ≡ kinds.Notice → ⊥) →
    tally_at d ws serial bound i ≡ counted (process_end d ws bound running i) 0 0
unfolding node_tally
other d ws serial bound i k deep inside named a b c e f g =
    tally_node d ws serial bound i (get_or ws i 0) deep inside refl
    ∙ simp (tests, no kinds.Seq a refl, no kinds.Par b refl, no kinds.Scope c refl, no kinds.Executor e refl, no kinds.Waiter f refl, no kinds.Notice g refl)
  where
    no : (x : Kind) → (k ≡ x → ⊥) → kind_named (number_of x) ≡ x → get_or ws i 0 / 2048 ≡ number_of x → ⊥
    no x = not_kind x named

pub tally-returns-in_ok-process-in_default : goal.tally-returns-in_ok-process-in_default
unfolding counted
tally-returns-in_ok-process-in_default t c =
    let a = c.args in
    let k = c.in_default in
    let e = some_end _ _ (c.in_ok-process-in_default.ensures ∙ ap (λ n. end_as (process_end a.depth a.self.now.reader.ws.now a.self.now.reader.bound n a.at)) running_context) in
    let same = other a.depth a.self.now.reader.ws.now a.self.now.serial a.self.now.reader.bound a.at _ c.if-depth-eq0.false (omega arith) c.of.ensures k.not-Seq k.not-Par k.not-Scope k.not-Executor k.not-Waiter k.not-Notice in
    rw (e.0) (sym (same ∙ rw (ne_eqb _ 0 (λ z. e.1 (e.0 ∙ z)))))

pub tally-returns-in_err-process-in_default : goal.tally-returns-in_err-process-in_default
unfolding counted
tally-returns-in_err-process-in_default t c =
    let a = c.args in
    let k = c.in_default in
    let e = ap (λ n. end_as (process_end a.depth a.self.now.reader.ws.now a.self.now.reader.bound n a.at)) running_context in
    let same = other a.depth a.self.now.reader.ws.now a.self.now.serial a.self.now.reader.bound a.at _ c.if-depth-eq0.false (omega arith) c.of.ensures k.not-Seq k.not-Par k.not-Scope k.not-Executor k.not-Waiter k.not-Notice in
    rw (same) (search (rules, e, none_end))
