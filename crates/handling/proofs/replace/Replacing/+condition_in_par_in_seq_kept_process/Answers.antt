-- `handling::replace::Replacing::process` and the methods for single kinds that it goes round with. The measure is the depth left, times 3.
-- The invariant of the loop in `kept`: the parts left, written from here on, give what all give from the start, and the output keeps its
-- length; its measure: the parts left.
use mathlib.Core.Path.{refl}
use lib.ListN.{get_or}
use Prim.Native.Nat.{ℕ, ◌-◌}
use Rattle.sock.specs.Words.{kind_of}
use Rattle.layout.specs.declared.kind.Kind.TheVariants as kinds
use Rattle.layout.proofs.Named.{not_kind}
use Rattle.sock.proofs.Tests.{tests}
use Rattle.handling.proofs.Replacements.{other_kind, replace_step}
use Rattle.handling.specs.Measuring.{expression_levels, code_levels}
use Rattle.handling.specs.Replacing.{replace_w}
use Rattle.handling.proofs.replace.Replacing.+condition_in_par_in_seq_kept_process.Goals as goal

pub process-returns-in_default : goal.process-returns-in_default
process-returns-in_default t c =
    let h : ℕ = get_or c.args.self.now.ws.now c.args.at 0 in
    let k : ℕ = kind_of h in
    let not_0 = not_kind kinds.Nil {k = k} c.of.ensures c.in_default.not-Nil refl in
    let not_2 = not_kind kinds.Seq {k = k} c.of.ensures c.in_default.not-Seq refl in
    let not_3 = not_kind kinds.Par {k = k} c.of.ensures c.in_default.not-Par refl in
    let not_4 = not_kind kinds.If {k = k} c.of.ensures c.in_default.not-If refl in
    let not_5 = not_kind kinds.While {k = k} c.of.ensures c.in_default.not-While refl in
    let not_6 = not_kind kinds.Choice {k = k} c.of.ensures c.in_default.not-Choice refl in
    let not_8 = not_kind kinds.Request {k = k} c.of.ensures c.in_default.not-Request refl in
    let not_11 = not_kind kinds.Scope {k = k} c.of.ensures c.in_default.not-Scope refl in
    let not_15 = not_kind kinds.Ch {k = k} c.of.ensures c.in_default.not-Ch refl in
    let f0 = c.if-self-at.false in
    let f1 = c.if-depth-eq0.false in
    let e = other_kind (expression_levels (c.args.depth - 1) c.args.self.now.ws.now) (code_levels c.args.depth c.args.self.now.ws.now) (replace_w (c.args.depth - 1) c.args.self.now.ws.now c.args.self.now.old) c.args.self.now.ws.now c.args.self.now.old h c.args.at c.args.out.now c.args.to not_0 not_2 not_3 not_4 not_5 not_6 not_8 not_11 not_15 in
    (simp (tests, replace_step, f0, f1, e, ← c.other.ensures.0), simp (tests, replace_step, f0, f1, e, ← c.other.ensures.1))
