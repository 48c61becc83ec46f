-- The last arm of `kill`: the kind is none of those before.
use mathlib.Core.Path.{refl}
use Prim.Native.Nat.{ℕ}
use lib.ListN.{get_or}
use Rattle.sock.specs.Words.{kind_of}
use Rattle.sock.proofs.Tests.{tests}
use Rattle.layout.specs.declared.kind.Kind.TheVariants as kinds
use Rattle.layout.proofs.Named.{not_kind}
use Rattle.killing.specs.Killing.{kind_w}
use Rattle.killing.proofs.Kills.{kill_step}
use Rattle.killing.proofs.kill.Killing.+executor_kill_live_par_part_right_scope_seq_zombie.Goals as goal

pub kill-returns-in_default : goal.kill-returns-in_default
unfolding kind_w
kill-returns-in_default t c =
    let d = c.in_default in
    let k : ℕ = kind_of (get_or c.args.self.now.noted.ws.now c.args.at 0) in
    let seq = not_kind kinds.Seq {k = k} c.of.ensures d.not-Seq refl in
    let par = not_kind kinds.Par {k = k} c.of.ensures d.not-Par refl in
    let scope = not_kind kinds.Scope {k = k} c.of.ensures d.not-Scope refl in
    let inst = not_kind kinds.Inst {k = k} c.of.ensures d.not-Inst refl in
    let executor = not_kind kinds.Executor {k = k} c.of.ensures d.not-Executor refl in
    let waiter = not_kind kinds.Waiter {k = k} c.of.ensures d.not-Waiter refl in
    let notice = not_kind kinds.Notice {k = k} c.of.ensures d.not-Notice refl in
    let v = c.vanish.ensures in
    let inside = c.if-self-at.false in
    let deep = c.if-depth-eq0.false in (
      simp (tests, kill_step, ← v.0, seq, par, scope, inst, executor, waiter, notice, inside, deep),
      simp (tests, kill_step, ← v.1, seq, par, scope, inst, executor, waiter, notice, inside, deep),
    )
