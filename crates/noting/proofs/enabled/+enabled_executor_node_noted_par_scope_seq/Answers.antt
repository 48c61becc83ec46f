-- `enabled`, `executor`, `node`, `noted`, `par`, `scope` and `seq` of `noting::enabled` meet their contracts. The measure is four times
-- the depth that is left, and for the same depth who calls whom.
use Prim.Native.Nat.{ℕ, ◌/◌}
use native.Mathlib.Omega.{arith}
use mathlib.Core.Path.{refl, sym, subst, ap, ◌∙◌}
use lib.Dec.{T}
use lib.ListN.{get_or}
use Rattle.layout.specs.Kinds.{number_of}
use Rattle.layout.specs.declared.kind.Kind.TheVariants as kinds
use Rattle.layout.proofs.Named.{at_kind, not_kind}
use Rattle.reading.specs.Sets.{context_in}
use Rattle.reading.specs.Walk.{one_word}
use Rattle.reading.proofs.Sets.{below}
use Rattle.reading.proofs.Turning.{Found, kind_found, kind_none, kind_some, word_named}
use Rattle.noting.proofs.Notes.{Headed, one_word_ends, one_word_notes, node_ended, node_noted, a_seq, a_par, a_scope, a_executor, a_other, missing}
use Rattle.noting.proofs.enabled.+enabled_executor_node_noted_par_scope_seq.Goals as goal
use Rattle.noting.proofs.enabled.+enabled_executor_node_noted_par_scope_seq.Goals.{enabled-In_ok-kind}

-- what is known where the head was tested
enabled_head :
    (t : ℕ) (c : enabled-In_ok-kind t) →
    Headed c.args.depth c.args.reader.now.ws.now c.args.context.kinds c.args.at (get_or c.args.reader.now.ws.now c.args.at 0)
enabled_head t c = record { ok = c.args.reader.now.words; known = c.args.context.known; low = c.requires; stands = (kind_some c.args.depth c.args.reader.now.ws.now c.args.context.kinds c.args.at _ c.in_ok-kind.ensures).0; word = refl }

enabled_found : (t : ℕ) (c : enabled-In_ok-kind t) → Found c.args.reader.now.ws.now c.args.reader.now.bound c.args.depth (context_in c.args.context.kinds) c.args.at
enabled_found t c = kind_found c.args.reader.now.ws.now c.args.reader.now.bound c.args.reader.now.words c.args.context.kinds c.args.context.known c.args.depth c.args.at _ c.in_ok-kind.ensures

pub enabled-returns-in_err-kind-clause-ended : goal.enabled-returns-in_err-kind-clause-ended
enabled-returns-in_err-kind-clause-ended t c = c.from_residual.ensures ∙ (missing _ _ _ _ _ c.args.notes.now c.args.reader.now.words c.args.context.known (kind_none c.args.depth c.args.reader.now.ws.now c.args.context.kinds c.args.at c.in_err-kind.ensures)).0

pub enabled-returns-in_err-kind-clause-written : goal.enabled-returns-in_err-kind-clause-written
enabled-returns-in_err-kind-clause-written t c = (missing _ _ _ _ _ c.args.notes.now c.args.reader.now.words c.args.context.known (kind_none c.args.depth c.args.reader.now.ws.now c.args.context.kinds c.args.at c.in_err-kind.ensures)).1

pub enabled-overflow_add-result : goal.enabled-overflow_add-result
enabled-overflow_add-result t c = let inside = (enabled_found t (goal.at.enabled-overflow_add-result t c).In_ok-kind).inside in omega arith

pub enabled-returns-then-is_word-clause-ended : goal.enabled-returns-then-is_word-clause-ended
enabled-returns-then-is_word-clause-ended t c = one_word_ends _ _ _ _ _ _ c.args.notes.now (enabled_head t (goal.at.enabled-returns-then-is_word-clause-ended t c).In_ok-kind) (subst T (sym (sym (word_named (get_or c.args.reader.now.ws.now c.args.at 0 / 2048)) ∙ ap (λ k. one_word (number_of k)) (sym (kind_some c.args.depth c.args.reader.now.ws.now c.args.context.kinds c.args.at _ c.in_ok-kind.ensures).1) ∙ sym c.is_word.ensures ∙ c.if-is_word.true)) tt)

pub enabled-returns-then-is_word-clause-written : goal.enabled-returns-then-is_word-clause-written
enabled-returns-then-is_word-clause-written t c = one_word_notes _ _ _ _ _ _ _ (enabled_head t (goal.at.enabled-returns-then-is_word-clause-written t c).In_ok-kind) (subst T (sym (sym (word_named (get_or c.args.reader.now.ws.now c.args.at 0 / 2048)) ∙ ap (λ k. one_word (number_of k)) (sym (kind_some c.args.depth c.args.reader.now.ws.now c.args.context.kinds c.args.at _ c.in_ok-kind.ensures).1) ∙ sym c.is_word.ensures ∙ c.if-is_word.true)) tt)

pub enabled-overflow_sub-depth : goal.enabled-overflow_sub-depth
enabled-overflow_sub-depth t c = let deep = (enabled_found t (goal.at.enabled-overflow_sub-depth t c).In_ok-kind).deep in omega (arith, deep)

pub enabled-node-requires : goal.enabled-node-requires
enabled-node-requires t c = let f = (enabled_found t (goal.at.enabled-node-requires t c).In_ok-kind) in let deep = f.deep in (omega (arith, deep), (f.inside, (kind_some c.args.depth c.args.reader.now.ws.now c.args.context.kinds c.args.at _ c.in_ok-kind.ensures).1, c.requires))

pub enabled-returns : goal.enabled-returns
enabled-returns t c =
    let head = enabled_head t (goal.at.enabled-returns t c).In_ok-kind in
    record { ended = node_ended _ _ _ _ _ _ c.args.notes.now head _ c.node.ensures.ended; written = node_noted _ _ _ _ _ _ c.args.notes.now head _ c.node.ensures.written }

pub node-returns-in-Par-clause-ended : goal.node-returns-in-Par-clause-ended
node-returns-in-Par-clause-ended t c = (a_par c.args.depth c.args.reader.now.ws.now c.args.reader.now.bound (context_in c.args.context.kinds) c.args.at (get_or c.args.reader.now.ws.now c.args.at 0) c.args.notes.now c.requires.2 (below _ c.args.context.known) _ _ (at_kind kinds.Par (sym c.in-Par.is ∙ c.requires.1) (omega arith)) c.par.ensures.ended c.par.ensures.written).0

pub node-returns-in-Par-clause-written : goal.node-returns-in-Par-clause-written
node-returns-in-Par-clause-written t c = (a_par c.args.depth c.args.reader.now.ws.now c.args.reader.now.bound (context_in c.args.context.kinds) c.args.at (get_or c.args.reader.now.ws.now c.args.at 0) c.args.notes.now c.requires.2 (below _ c.args.context.known) _ _ (at_kind kinds.Par (sym c.in-Par.is ∙ c.requires.1) (omega arith)) c.par.ensures.ended c.par.ensures.written).1

pub node-returns-in-Seq-clause-ended : goal.node-returns-in-Seq-clause-ended
node-returns-in-Seq-clause-ended t c = (a_seq c.args.depth c.args.reader.now.ws.now c.args.reader.now.bound (context_in c.args.context.kinds) c.args.at (get_or c.args.reader.now.ws.now c.args.at 0) c.args.notes.now c.requires.2 (below _ c.args.context.known) _ _ (at_kind kinds.Seq (sym c.in-Seq.is ∙ c.requires.1) (omega arith)) c.seq.ensures.ended c.seq.ensures.written).0

pub node-returns-in-Seq-clause-written : goal.node-returns-in-Seq-clause-written
node-returns-in-Seq-clause-written t c = (a_seq c.args.depth c.args.reader.now.ws.now c.args.reader.now.bound (context_in c.args.context.kinds) c.args.at (get_or c.args.reader.now.ws.now c.args.at 0) c.args.notes.now c.requires.2 (below _ c.args.context.known) _ _ (at_kind kinds.Seq (sym c.in-Seq.is ∙ c.requires.1) (omega arith)) c.seq.ensures.ended c.seq.ensures.written).1

pub node-returns-in-Scope-clause-ended : goal.node-returns-in-Scope-clause-ended
node-returns-in-Scope-clause-ended t c = (a_scope c.args.depth c.args.reader.now.ws.now c.args.reader.now.bound (context_in c.args.context.kinds) c.args.at (get_or c.args.reader.now.ws.now c.args.at 0) c.args.notes.now c.requires.2 (below _ c.args.context.known) _ _ (at_kind kinds.Scope (sym c.in-Scope.is ∙ c.requires.1) (omega arith)) c.scope.ensures.ended c.scope.ensures.written).0

pub node-returns-in-Scope-clause-written : goal.node-returns-in-Scope-clause-written
node-returns-in-Scope-clause-written t c = (a_scope c.args.depth c.args.reader.now.ws.now c.args.reader.now.bound (context_in c.args.context.kinds) c.args.at (get_or c.args.reader.now.ws.now c.args.at 0) c.args.notes.now c.requires.2 (below _ c.args.context.known) _ _ (at_kind kinds.Scope (sym c.in-Scope.is ∙ c.requires.1) (omega arith)) c.scope.ensures.ended c.scope.ensures.written).1

pub node-returns-in-Executor-clause-ended : goal.node-returns-in-Executor-clause-ended
node-returns-in-Executor-clause-ended t c = (a_executor c.args.depth c.args.reader.now.ws.now c.args.reader.now.bound (context_in c.args.context.kinds) c.args.at (get_or c.args.reader.now.ws.now c.args.at 0) c.args.notes.now c.requires.2 (below _ c.args.context.known) _ _ (at_kind kinds.Executor (sym c.in-Executor.is ∙ c.requires.1) (omega arith)) c.executor.ensures.ended c.executor.ensures.written).0

pub node-returns-in-Executor-clause-written : goal.node-returns-in-Executor-clause-written
node-returns-in-Executor-clause-written t c = (a_executor c.args.depth c.args.reader.now.ws.now c.args.reader.now.bound (context_in c.args.context.kinds) c.args.at (get_or c.args.reader.now.ws.now c.args.at 0) c.args.notes.now c.requires.2 (below _ c.args.context.known) _ _ (at_kind kinds.Executor (sym c.in-Executor.is ∙ c.requires.1) (omega arith)) c.executor.ensures.ended c.executor.ensures.written).1

pub node-returns-in_default : goal.node-returns-in_default
node-returns-in_default t c =
    let o = a_other c.args.depth c.args.reader.now.ws.now c.args.reader.now.bound (context_in c.args.context.kinds) c.args.at (get_or c.args.reader.now.ws.now c.args.at 0) c.args.notes.now c.requires.2 (below _ c.args.context.known) _ (not_kind kinds.Seq c.requires.1 c.in_default.not-Seq refl) (not_kind kinds.Par c.requires.1 c.in_default.not-Par refl) (not_kind kinds.Scope c.requires.1 c.in_default.not-Scope refl) (not_kind kinds.Executor c.requires.1 c.in_default.not-Executor refl) c.node.ensures in
    record { ended = o.0; written = o.1 }
