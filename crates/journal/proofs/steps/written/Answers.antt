-- `written` of `journal::steps` meets its contract.
use Prim.Native.Nat.{ℕ}
use native.Mathlib.Omega.{arith}
use mathlib.Core.Path.{refl, sym, ap, ◌∙◌}
use lib.ListN.{take}
use lib.Seq.{length-take-le}
use Rattle.writers.specs.Writing.{pasted}
use Rattle.journal.specs.Laying.{lay_w}
use Rattle.journal.proofs.Stepping.{kept_out, kept_journal, wrote, scratch_fits, scratch_length, copied, noted}
use Rattle.journal.proofs.steps.written.Goals as goal

pub returns-in_err-c-clause-wrote : goal.returns-in_err-c-clause-wrote
returns-in_err-c-clause-wrote c =
    kept_out _ c.args.m.few c.args.ws.now _ c.args.res.now c.args.out.now c.args.journal.now _ (c.in_err-c.ensures {u = tt}).0

pub returns-in_err-c-clause-noted : goal.returns-in_err-c-clause-noted
returns-in_err-c-clause-noted c =
    kept_journal _ c.args.m.few c.args.ws.now _ c.args.res.now c.args.out.now c.args.journal.now _ (c.in_err-c.ensures {u = tt}).0

pub slice_bounds-lay-end : goal.slice_bounds-lay-end
slice_bounds-lay-end c =
    let s = c.in_ok-c.ensures {u = tt} in
    let z = wrote _ c.args.m.few c.args.ws.now _ c.args.res.now c.args.out.now c.args.journal.now _ s.0 refl in
    omega (arith, c.from-n.ensures, scratch_fits _ c.args.m.few _ _ _ c.args.out.now _ _ _ z _ s.1, scratch_length _ c.args.m.few _ _ _ c.args.out.now _ _ _ z _ s.1)

pub slice_bounds-lay-end-2 : goal.slice_bounds-lay-end-2
slice_bounds-lay-end-2 c =
    let s = c.in_ok-c.ensures {u = tt} in
    let z = wrote _ c.args.m.few c.args.ws.now _ c.args.res.now c.args.out.now c.args.journal.now _ s.0 refl in
    sym (length-take-le _ _ (omega (arith, c.from-n.ensures, scratch_fits _ c.args.m.few _ _ _ c.args.out.now _ _ _ z _ s.1, scratch_length _ c.args.m.few _ _ _ c.args.out.now _ _ _ z _ s.1)))

pub returns : goal.returns
returns c =
    let s = c.in_ok-c.ensures {u = tt} in
    let z = wrote _ c.args.m.few c.args.ws.now _ c.args.res.now c.args.out.now c.args.journal.now _ s.0 refl in
    record {
      answered = z.answer;
      wrote = c.copy.ensures.1 ∙ ap (λ (n : ℕ). pasted c.compare.new.res 0 n c.args.out.now 0) c.from-n.ensures ∙ copied _ c.args.m.few _ _ _ c.args.out.now _ _ _ z _ s.1 c.requires.1;
      noted =
          c.lay.ensures.1
          ∙ ap (λ (n : ℕ). lay_w c.args.ws.now (take n c.compare.new.res) c.in_ok-c.c.alike.first c.in_ok-c.c.alike.last c.args.journal.now) c.from-n.ensures
          ∙ noted _ c.args.m.few _ _ _ c.args.out.now _ _ _ z _ s.1;
    }
