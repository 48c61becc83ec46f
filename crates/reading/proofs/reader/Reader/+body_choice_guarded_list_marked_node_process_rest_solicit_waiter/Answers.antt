-- The functions of `Reader` that call each other meet their contracts (`Invariants` says by what measure).
use Prim.Native.Nat.{ℕ, ◌/◌}
use native.Mathlib.Omega.{arith}
use mathlib.Core.Path.{◌≡◌, refl, sym, subst, ap, ◌∙◌}
use lib.Dec.{T}
use lib.ListN.{get_or}
use Rattle.layout.specs.declared.kind.Kind.TheVariants as kinds
use Rattle.layout.specs.declared.mark.Mark.TheVariants as marks
use Rattle.layout.proofs.Named.{at_kind, not_kind, at_mark}
use Rattle.sock.proofs.Tests.{tests}
use Rattle.reading.specs.Sets.{context_in}
use Rattle.layout.specs.Kinds.{kind_named, number_of}
use Rattle.reading.specs.Walk.{end_as, when, one_word, process_end, marked_end, list_end}
use Rattle.reading.proofs.Given.{as_none, as_some, some_end}
use Rattle.reading.proofs.Sets.{handlers_is, handlers_context, running_is, running_context, code_context, below, code_guard}
use Rattle.reading.proofs.Turning.{after, seq_headed, par_headed, if_headed, while_headed, request_headed, scope_headed, executor_headed, word_headed, assign_headed, choice_headed, one_way_headed, notify_headed, solicit_headed, inst_headed, waiter_headed, notice_headed, unused_headed, goes, breaks, ended, never_ends, stops, comes_to, none_stands, turn, falls, kind_found, kind_missing, kind_some, word_ends, word_named, word_by_name, unused_far, Found}
use Rattle.reading.proofs.Placed.{guard_none, guard_some}
use Rattle.reading.proofs.Walks.{entries_next, branch_next, guard_fails, branch_fails, choice_is}
use Rattle.reading.proofs.reader.Reader.+body_choice_guarded_list_marked_node_process_rest_solicit_waiter.Goals as goal
use Rattle.reading.proofs.reader.Reader.+body_choice_guarded_list_marked_node_process_rest_solicit_waiter.Goals.{process-In_ok-kind}

pub rest-returns-in_err-a-in-Seq : goal.rest-returns-in_err-a-in-Seq
rest-returns-in_err-a-in-Seq t c = rw c.from_residual-in_err-a-in-Seq.ensures (breaks _ _ _ _ _ _ _ (seq_headed _ _ _ _ _ _ _ _ c.not_nil.ensures refl (at_kind kinds.Seq (sym c.in-Seq.is ∙ c.requires.1) (omega arith))) c.in_err-a-in-Seq.ensures)

pub rest-returns-in_ok-a-in-Seq : goal.rest-returns-in_ok-a-in-Seq
rest-returns-in_ok-a-in-Seq t c = goes _ _ _ _ _ _ _ _ (seq_headed _ _ _ _ _ _ _ _ c.not_nil.ensures c.code.ensures (at_kind kinds.Seq (sym c.in-Seq.is ∙ c.requires.1) (omega arith))) c.in_ok-a-in-Seq.ensures

pub rest-returns-in_err-process-in-Par : goal.rest-returns-in_err-process-in-Par
rest-returns-in_err-process-in-Par t c = rw c.from_residual-in_err-process-in-Par.ensures (breaks _ _ _ _ _ _ _ (par_headed _ _ _ _ _ _ _ 0 c.not_nil-side.ensures (at_kind kinds.Par (sym c.in-Par.is ∙ c.requires.1) (omega arith))) c.in_err-process-in-Par.ensures)

pub rest-returns-in_ok-process-in-Par : goal.rest-returns-in_ok-process-in-Par
rest-returns-in_ok-process-in-Par t c = goes _ _ _ _ _ _ _ _ (par_headed _ _ _ _ _ _ _ 0 c.not_nil-side.ensures (at_kind kinds.Par (sym c.in-Par.is ∙ c.requires.1) (omega arith))) c.in_ok-process-in-Par.ensures

pub rest-returns-in_err-e-in-If : goal.rest-returns-in_err-e-in-If
rest-returns-in_err-e-in-If t c = rw c.from_residual-in_err-e-in-If.ensures (breaks _ _ _ _ _ _ _ (if_headed _ _ _ _ _ _ 0 _ refl (at_kind kinds.If (sym c.in-If.is ∙ c.requires.1) (omega arith))) c.in_err-e-in-If.ensures)

pub rest-returns-in_err-process-in-If : goal.rest-returns-in_err-process-in-If
rest-returns-in_err-process-in-If t c = rw c.from_residual-in_err-process-in-If.ensures (breaks _ _ _ _ _ _ _ (if_headed _ _ _ _ _ _ 0 _ c.code-chosen.ensures (at_kind kinds.If (sym c.in-If.is ∙ c.requires.1) (omega arith)) ∙ after _ _ _ c.in_ok-e-in-If.ensures) c.in_err-process-in-If.ensures)

pub rest-returns-in_ok-process-in-If : goal.rest-returns-in_ok-process-in-If
rest-returns-in_ok-process-in-If t c = goes _ _ _ _ _ _ _ _ (if_headed _ _ _ _ _ _ 0 _ c.code-chosen.ensures (at_kind kinds.If (sym c.in-If.is ∙ c.requires.1) (omega arith)) ∙ after _ _ _ c.in_ok-e-in-If.ensures) c.in_ok-process-in-If.ensures

pub rest-returns-in_err-request-in-Request : goal.rest-returns-in_err-request-in-Request
rest-returns-in_err-request-in-Request t c = rw c.from_residual-in_err-request-in-Request.ensures (breaks _ _ _ _ _ _ _ (request_headed _ _ _ _ _ _ _ refl (at_kind kinds.Request (sym c.in-Request.is ∙ c.requires.1) (omega arith))) c.in_err-request-in-Request.ensures)

pub rest-returns-in_ok-request-in-Request : goal.rest-returns-in_ok-request-in-Request
rest-returns-in_ok-request-in-Request t c = goes _ _ _ _ _ _ _ _ (request_headed _ _ _ _ _ _ _ c.code-in-Request.ensures (at_kind kinds.Request (sym c.in-Request.is ∙ c.requires.1) (omega arith))) c.in_ok-request-in-Request.ensures

pub rest-returns-in_err-executor_own-in-Executor : goal.rest-returns-in_err-executor_own-in-Executor
rest-returns-in_err-executor_own-in-Executor t c = rw c.from_residual-in_err-executor_own-in-Executor.ensures (breaks _ _ _ _ _ _ _ (executor_headed _ _ _ _ _ _ 8 refl (at_kind kinds.Executor (sym c.in-Executor.is ∙ c.requires.1) (omega arith))) c.in_err-executor_own-in-Executor.ensures)

pub rest-invariant_of-result : goal.rest-invariant_of-result
rest-invariant_of-result t c = record { known = running_is }

pub rest-returns-in_ok-executor_own-in-Executor : goal.rest-returns-in_ok-executor_own-in-Executor
rest-returns-in_ok-executor_own-in-Executor t c = goes _ _ _ _ _ _ _ _ (executor_headed _ _ _ _ _ _ _ running_context (at_kind kinds.Executor (sym c.in-Executor.is ∙ c.requires.1) (omega arith))) c.in_ok-executor_own-in-Executor.ensures

pub rest-returns-in-Nil : goal.rest-returns-in-Nil
rest-returns-in-Nil t c = ended _ _ _ _ _ _ _ (word_headed _ _ _ _ _ _ (word_by_name (get_or c.args.self.now.ws.now c.args.at 0 / 2048) c.requires.1 c.in-Nil.is)) (as_some _ _ refl λ z. omega (arith, z))

pub rest-returns-in_err-expression-in-Assign : goal.rest-returns-in_err-expression-in-Assign
rest-returns-in_err-expression-in-Assign t c = rw c.from_residual.ensures (never_ends _ _ _ _ _ _ (assign_headed _ _ _ _ _ _ (at_kind kinds.Assign (sym c.in-Assign.is ∙ c.requires.1) (omega arith))) c.in_err-expression-in-Assign.ensures)

pub rest-returns-in_ok-expression-in-Assign : goal.rest-returns-in_ok-expression-in-Assign
rest-returns-in_ok-expression-in-Assign t c = ended _ _ _ _ _ _ _ (assign_headed _ _ _ _ _ _ (at_kind kinds.Assign (sym c.in-Assign.is ∙ c.requires.1) (omega arith))) c.in_ok-expression-in-Assign.ensures

pub rest-returns-in_err-expression-in-While : goal.rest-returns-in_err-expression-in-While
rest-returns-in_err-expression-in-While t c = rw c.from_residual-in_err-expression-in-While.ensures (breaks _ _ _ _ _ _ _ (while_headed _ _ _ _ _ _ 0 _ refl (at_kind kinds.While (sym c.in-While.is ∙ c.requires.1) (omega arith))) c.in_err-expression-in-While.ensures)

pub rest-returns-in_ok-expression-in-While : goal.rest-returns-in_ok-expression-in-While
rest-returns-in_ok-expression-in-While t c = goes _ _ _ _ _ _ _ _ (while_headed _ _ _ _ _ _ 0 _ c.code-in-While.ensures (at_kind kinds.While (sym c.in-While.is ∙ c.requires.1) (omega arith))) c.in_ok-expression-in-While.ensures

pub rest-returns-in_err-choice-in-Choice : goal.rest-returns-in_err-choice-in-Choice
rest-returns-in_err-choice-in-Choice t c = rw c.from_residual-in_err-choice-in-Choice.ensures (never_ends _ _ _ _ _ _ (choice_headed _ _ _ _ _ _ _ c.count_of.ensures.0 (at_kind kinds.Choice (sym c.in-Choice.is ∙ c.requires.1) (omega arith))) c.in_err-choice-in-Choice.ensures)

pub rest-returns-in_ok-choice-in-Choice : goal.rest-returns-in_ok-choice-in-Choice
rest-returns-in_ok-choice-in-Choice t c = ended _ _ _ _ _ _ _ (choice_headed _ _ _ _ _ _ _ c.count_of.ensures.0 (at_kind kinds.Choice (sym c.in-Choice.is ∙ c.requires.1) (omega arith))) c.in_ok-choice-in-Choice.ensures

pub rest-returns-in_err-one_way-in-OneWay : goal.rest-returns-in_err-one_way-in-OneWay
rest-returns-in_err-one_way-in-OneWay t c = rw c.from_residual-in_err-one_way-in-OneWay.ensures (never_ends _ _ _ _ _ _ (one_way_headed _ _ _ _ _ _ (at_kind kinds.OneWay (sym c.in-OneWay.is ∙ c.requires.1) (omega arith))) c.in_err-one_way-in-OneWay.ensures)

pub rest-returns-in_ok-one_way-in-OneWay : goal.rest-returns-in_ok-one_way-in-OneWay
rest-returns-in_ok-one_way-in-OneWay t c = ended _ _ _ _ _ _ _ (one_way_headed _ _ _ _ _ _ (at_kind kinds.OneWay (sym c.in-OneWay.is ∙ c.requires.1) (omega arith))) c.in_ok-one_way-in-OneWay.ensures

pub rest-returns-in_err-notify-in-Notify : goal.rest-returns-in_err-notify-in-Notify
rest-returns-in_err-notify-in-Notify t c = rw c.from_residual-in_err-notify-in-Notify.ensures (never_ends _ _ _ _ _ _ (notify_headed _ _ _ _ _ _ (at_kind kinds.Notify (sym c.in-Notify.is ∙ c.requires.1) (omega arith))) c.in_err-notify-in-Notify.ensures)

pub rest-returns-in_ok-notify-in-Notify : goal.rest-returns-in_ok-notify-in-Notify
rest-returns-in_ok-notify-in-Notify t c = ended _ _ _ _ _ _ _ (notify_headed _ _ _ _ _ _ (at_kind kinds.Notify (sym c.in-Notify.is ∙ c.requires.1) (omega arith))) c.in_ok-notify-in-Notify.ensures

pub rest-returns-in_err-solicit-in-Solicit : goal.rest-returns-in_err-solicit-in-Solicit
rest-returns-in_err-solicit-in-Solicit t c = rw c.from_residual-in_err-solicit-in-Solicit.ensures (never_ends _ _ _ _ _ _ (solicit_headed _ _ _ _ _ _ (at_kind kinds.Solicit (sym c.in-Solicit.is ∙ c.requires.1) (omega arith))) c.in_err-solicit-in-Solicit.ensures)

pub rest-returns-in_ok-solicit-in-Solicit : goal.rest-returns-in_ok-solicit-in-Solicit
rest-returns-in_ok-solicit-in-Solicit t c = ended _ _ _ _ _ _ _ (solicit_headed _ _ _ _ _ _ (at_kind kinds.Solicit (sym c.in-Solicit.is ∙ c.requires.1) (omega arith))) c.in_ok-solicit-in-Solicit.ensures

pub rest-returns-in_err-body-in-Scope : goal.rest-returns-in_err-body-in-Scope
rest-returns-in_err-body-in-Scope t c = rw c.from_residual-in_err-body-in-Scope.ensures (breaks _ _ _ _ _ _ _ (scope_headed _ _ _ _ _ _ _ refl (below _ c.args.context.known) (at_kind kinds.Scope (sym c.in-Scope.is ∙ c.requires.1) (omega arith))) c.in_err-body-in-Scope.ensures)

pub rest-returns-in_ok-body-in-Scope : goal.rest-returns-in_ok-body-in-Scope
rest-returns-in_ok-body-in-Scope t c = goes _ _ _ _ _ _ _ _ (scope_headed _ _ _ _ _ _ _ c.anywhere.ensures (below _ c.args.context.known) (at_kind kinds.Scope (sym c.in-Scope.is ∙ c.requires.1) (omega arith))) c.in_ok-body-in-Scope.ensures

pub rest-invariant_of-list : goal.rest-invariant_of-list
rest-invariant_of-list t c = record { known = handlers_is }

pub rest-returns-in_err-list-in-Inst : goal.rest-returns-in_err-list-in-Inst
rest-returns-in_err-list-in-Inst t c = rw c.from_residual-in_err-list-in-Inst.ensures (never_ends _ _ _ _ _ _ (inst_headed _ _ _ _ _ _ _ handlers_context (at_kind kinds.Inst (sym c.in-Inst.is ∙ c.requires.1) (omega arith))) c.in_err-list-in-Inst.ensures)

pub rest-returns-in_ok-list-in-Inst : goal.rest-returns-in_ok-list-in-Inst
rest-returns-in_ok-list-in-Inst t c = ended _ _ _ _ _ _ _ (inst_headed _ _ _ _ _ _ _ handlers_context (at_kind kinds.Inst (sym c.in-Inst.is ∙ c.requires.1) (omega arith))) c.in_ok-list-in-Inst.ensures

pub rest-returns-in_err-waiter-in-Waiter : goal.rest-returns-in_err-waiter-in-Waiter
rest-returns-in_err-waiter-in-Waiter t c = rw c.from_residual-in_err-waiter-in-Waiter.ensures (never_ends _ _ _ _ _ _ (waiter_headed _ _ _ _ _ _ (at_kind kinds.Waiter (sym c.in-Waiter.is ∙ c.requires.1) (omega arith))) c.in_err-waiter-in-Waiter.ensures)

pub rest-returns-in_ok-waiter-in-Waiter : goal.rest-returns-in_ok-waiter-in-Waiter
rest-returns-in_ok-waiter-in-Waiter t c = ended _ _ _ _ _ _ _ (waiter_headed _ _ _ _ _ _ (at_kind kinds.Waiter (sym c.in-Waiter.is ∙ c.requires.1) (omega arith))) c.in_ok-waiter-in-Waiter.ensures

pub rest-returns-in_err-notice-in-Notice : goal.rest-returns-in_err-notice-in-Notice
rest-returns-in_err-notice-in-Notice t c = rw c.from_residual-in_err-notice-in-Notice.ensures (never_ends _ _ _ _ _ _ (notice_headed _ _ _ _ _ _ (at_kind kinds.Notice (sym c.in-Notice.is ∙ c.requires.1) (omega arith))) c.in_err-notice-in-Notice.ensures)

pub rest-returns-in_ok-notice-in-Notice : goal.rest-returns-in_ok-notice-in-Notice
rest-returns-in_ok-notice-in-Notice t c = ended _ _ _ _ _ _ _ (notice_headed _ _ _ _ _ _ (at_kind kinds.Notice (sym c.in-Notice.is ∙ c.requires.1) (omega arith))) c.in_ok-notice-in-Notice.ensures

pub rest-returns-in-Unused : goal.rest-returns-in-Unused
rest-returns-in-Unused t c = never_ends _ _ _ _ _ _ (unused_headed _ _ _ _ _ _ (unused_far _ (sym c.in-Unused.is ∙ c.requires.1))) (as_none _ refl)

pub node-returns-in_err-end : goal.node-returns-in_err-end
node-returns-in_err-end t c = c.from_residual.ensures ∙ stops _ _ _ _ _ _ _ _ c.loop-end.invariant c.in_err-end.ensures

pub node-returns-in-Nothing : goal.node-returns-in-Nothing
node-returns-in-Nothing t c = comes_to _ _ _ _ _ _ _ _ c.loop-end.invariant _ (rw c.in-Nothing.is at c.in_ok-end.ensures)

pub node-returns-in_err-k-in-Process : goal.node-returns-in_err-k-in-Process
node-returns-in_err-k-in-Process t c = c.from_residual-in_err-k-in-Process.ensures ∙ none_stands _ _ _ _ _ _ _ _ c.loop-end.invariant c.args.self.now.words _ _ (rw c.in-Process.is at c.in_ok-end.ensures) c.in_err-k-in-Process.ensures

pub node-overflow_sub-d : goal.node-overflow_sub-d
node-overflow_sub-d t c = falls _ _ _ _ _ _ _ _ c.loop-end.invariant c.args.self.now.words _ _ (rw c.in-Process.is at c.in_ok-end.ensures) _ c.in_ok-k-in-Process.ensures

pub node-loop-end-smaller : goal.node-loop-end-smaller
node-loop-end-smaller t c = let low = falls _ _ _ _ _ _ _ _ c.loop-end.invariant c.args.self.now.words _ _ (rw c.in-Process.is at c.in_ok-end.ensures) _ c.in_ok-k-in-Process.ensures in omega (arith, low)

pub node-loop-end-preserved : goal.node-loop-end-preserved
node-loop-end-preserved t c = turn _ _ _ _ _ _ _ _ c.loop-end.invariant c.args.self.now.words _ _ (rw c.in-Process.is at c.in_ok-end.ensures) _ c.in_ok-k-in-Process.ensures

pub process-returns-in_err-kind : goal.process-returns-in_err-kind
process-returns-in_err-kind t c = c.from_residual.ensures ∙ as_none _ (sym (kind_missing c.args.self.now.ws.now c.args.self.now.bound c.args.self.now.words c.args.context.kinds c.args.context.known c.args.depth c.args.at c.in_err-kind.ensures))

-- what is known where the head was tested
process_found : (t : ℕ) (c : process-In_ok-kind t) → Found c.args.self.now.ws.now c.args.self.now.bound c.args.depth (context_in c.args.context.kinds) c.args.at
process_found t c = kind_found c.args.self.now.ws.now c.args.self.now.bound c.args.self.now.words c.args.context.kinds c.args.context.known c.args.depth c.args.at _ c.in_ok-kind.ensures

pub process-overflow_add-result : goal.process-overflow_add-result
process-overflow_add-result t c = let inside = (process_found t (goal.at.process-overflow_add-result t c).In_ok-kind).inside in omega arith

pub process-returns-then-is_word : goal.process-returns-then-is_word
process-returns-then-is_word t c = word_ends _ _ _ _ _ (process_found t (goal.at.process-returns-then-is_word t c).In_ok-kind) (subst T (sym (sym (word_named (get_or c.args.self.now.ws.now c.args.at 0 / 2048)) ∙ ap (λ k. one_word (number_of k)) (sym (kind_some c.args.depth c.args.self.now.ws.now c.args.context.kinds c.args.at _ c.in_ok-kind.ensures).1) ∙ sym c.is_word.ensures ∙ c.if-is_word.true)) tt)

pub process-overflow_sub-depth : goal.process-overflow_sub-depth
process-overflow_sub-depth t c = let deep = (process_found t (goal.at.process-overflow_sub-depth t c).In_ok-kind).deep in omega (arith, deep)

pub process-node-requires : goal.process-node-requires
process-node-requires t c = let f = (process_found t (goal.at.process-node-requires t c).In_ok-kind) in let deep = f.deep in (omega (arith, deep), (f.inside, (kind_some c.args.depth c.args.self.now.ws.now c.args.context.kinds c.args.at _ c.in_ok-kind.ensures).1))

pub process-returns : goal.process-returns
process-returns t c = c.node.ensures ∙ ap end_as (sym (process_found t (goal.at.process-returns t c).In_ok-kind).ends)

pub guarded-returns-then-not-hears : goal.guarded-returns-then-not-hears
guarded-returns-then-not-hears t c = guard_none c.args.self.now.ws.now c.args.self.now.words c.args.self.now.bound c.args.depth c.args.at (context_in c.args.context.kinds) (below _ c.args.context.known) _ (c.of.ensures ∙ ap (λ w. kind_named (w / 2048)) c.word.ensures) (sym c.hears.ensures ∙ c.if-not-hears.true)

pub guarded-returns : goal.guarded-returns
guarded-returns t c = c.process.ensures ∙ ap end_as (ap (λ n. process_end c.args.depth c.args.self.now.ws.now c.args.self.now.bound n c.args.at) c.anywhere.ensures ∙ guard_some c.args.self.now.ws.now c.args.self.now.words c.args.self.now.bound c.args.depth c.args.at (context_in c.args.context.kinds) (below _ c.args.context.known) _ (c.of.ensures ∙ ap (λ w. kind_named (w / 2048)) c.word.ensures) (sym c.hears.ensures ∙ c.if-not-hears.false))

pub choice-returns-in_err-a : goal.choice-returns-in_err-a
choice-returns-in_err-a t c = c.from_residual.ensures ∙ as_none _ (sym (choice_is c.args.depth c.args.self.now.ws.now c.args.self.now.bound (context_in c.args.context.kinds) _ c.args.count c.args.at c.code-c.ensures c.if-count-eq0.false c.if-count-gt-BRANCHES.false ∙ sym c.loop.invariant.0 ∙ guard_fails (process_end c.args.depth c.args.self.now.ws.now c.args.self.now.bound) (context_in c.code-c.result.kinds) c.args.count c.loop.counter c.loop.a _ c.loop-test.true (code_guard (context_in c.args.context.kinds) _ c.code-c.ensures) c.in_err-a.ensures))

pub choice-returns-in_err-a-2 : goal.choice-returns-in_err-a-2
choice-returns-in_err-a-2 t c = c.from_residual-in_err-a-2.ensures ∙ as_none _ (sym (choice_is c.args.depth c.args.self.now.ws.now c.args.self.now.bound (context_in c.args.context.kinds) _ c.args.count c.args.at c.code-c.ensures c.if-count-eq0.false c.if-count-gt-BRANCHES.false ∙ sym c.loop.invariant.0 ∙ branch_fails (process_end c.args.depth c.args.self.now.ws.now c.args.self.now.bound) (context_in c.code-c.result.kinds) c.args.count c.loop.counter c.loop.a _ c.loop-test.true (code_guard (context_in c.args.context.kinds) _ c.code-c.ensures) _ c.in_ok-a.ensures c.in_err-a-2.ensures))

pub choice-loop-preserved : goal.choice-loop-preserved
choice-loop-preserved t c = let e = some_end _ _ c.in_ok-a-2.ensures in (branch_next (process_end c.args.depth c.args.self.now.ws.now c.args.self.now.bound) (context_in c.code-c.result.kinds) c.args.count c.loop.counter c.loop.a _ c.loop-test.true (code_guard (context_in c.args.context.kinds) _ c.code-c.ensures) _ _ c.in_ok-a.ensures c.in_ok-a-2.ensures ∙ c.loop.invariant.0, omega (arith, e.1))

pub list-loop-preserved : goal.list-loop-preserved
list-loop-preserved t c =
    let a = c.args in
    let e = some_end _ _ c.in_ok-a.ensures in
    (entries_next (process_end a.depth a.self.now.ws.now a.self.now.bound) a.self.now.ws.now (context_in a.context.kinds) c.unwrap_or-wanted.result c.wide-count.result c.loop.counter c.loop.least c.loop.met c.loop.a _ _ _ _ c.loop-test.true c.in_ok-key.ensures.0 c.entry_context.ensures c.in_ok-a.ensures c.met_by-met.ensures ∙ c.loop.invariant.0, omega (arith, e.1))

pub marked-returns-in_default-3 : goal.marked-returns-in_default-3
unfolding marked_end when
marked-returns-in_default-3 t c =
    let a = c.args in
    let none : marked_end (process_end a.depth a.self.now.ws.now a.self.now.bound) a.self.now.ws.now a.h a.fault a.at ≡ 0 =
    simp (tests, c.if-h-eq1.false, c.if-fault-eq0-3.true, at_mark marks.OwnName c.in-OwnName.ensures (omega arith)) in
    as_none _ (sym none)

pub marked-returns-in_default-4 : goal.marked-returns-in_default-4
unfolding marked_end when
marked-returns-in_default-4 t c =
    let a = c.args in
    let none : marked_end (process_end a.depth a.self.now.ws.now a.self.now.bound) a.self.now.ws.now a.h a.fault a.at ≡ 0 =
    simp (tests, c.if-fault-eq0-3.false, at_mark marks.OwnName c.in-OwnName.ensures (omega arith)) in
    as_none _ (sym none)

pub marked-returns-in-OwnName : goal.marked-returns-in-OwnName
unfolding marked_end when
marked-returns-in-OwnName t c =
    let a = c.args in
    let same : marked_end (process_end a.depth a.self.now.ws.now a.self.now.bound) a.self.now.ws.now a.h a.fault a.at ≡ list_end (process_end a.depth a.self.now.ws.now a.self.now.bound) a.self.now.ws.now 0 128 a.at =
    simp (tests, c.if-fault-eq0-3.true, c.if-h-eq1.true, at_mark marks.OwnName c.in-OwnName.ensures (omega arith)) in
    c.list-in-OwnName.ensures ∙ ap end_as (ap (λ n. list_end (process_end a.depth a.self.now.ws.now a.self.now.bound) a.self.now.ws.now n 128 a.at) code_context ∙ sym same)
