-- `Matching::checked` of `journal::back` meets its contract.
use Prim.Native.Nat.{ℕ}
use native.Mathlib.Omega.{arith}
use mathlib.Core.Path.{refl, sym, ap, ◌∙◌}
use mathlib.Core.List.{List}
use lib.ListN.{length}
use Rattle.sock.specs.Calls.{check_readable, over}
use Rattle.sock.specs.Configuration.{standard}
use Rattle.sock.specs.Journal.{put_back}
use Rattle.journal.specs.Back.{said}
use Rattle.writers.proofs.Over.{over_length, pasted_first}
use Rattle.journal.proofs.Restoring.{put_words, put_laid, old_length, gives_refused, gives_done, unread_err, read_ok, not_read, not_fitting, is_restored}
use Rattle.journal.proofs.back.Matching.checked.Goals as goal

pub returns-then-is_err : goal.returns-then-is_err
returns-then-is_err c =
    let old : List ℕ = put_back (said (c.args.self.now.counts) (c.args.self.now.journal.now)) (c.args.self.now.ws.now) in
    let w = put_words (c.args.self.now.counts) (c.args.self.now.ws.now) (c.args.self.now.journal.now) (c.args.scratch.now) _ _ (c.args.self.now.fits) (c.requires) (c.wide-n.ensures.0) (c.put_back.ensures) in
    let u = unread_err _ _ (c.check_readable.ensures ∙ ap (check_readable standard) w) (sym c.is_err.ensures.value ∙ c.if-is_err.true) in
    let g = gives_refused _ (c.args.out.now) (not_read old (length (c.args.out.now)) u) refl in
    record { answered = g.answer; wrote = g.output }

pub returns-then-out-n : goal.returns-then-out-n
returns-then-out-n c =
    let old : List ℕ = put_back (said (c.args.self.now.counts) (c.args.self.now.journal.now)) (c.args.self.now.ws.now) in
    let w = put_words (c.args.self.now.counts) (c.args.self.now.ws.now) (c.args.self.now.journal.now) (c.args.scratch.now) _ _ (c.args.self.now.fits) (c.requires) (c.wide-n.ensures.0) (c.put_back.ensures) in
    let u = read_ok _ _ (c.check_readable.ensures ∙ ap (check_readable standard) w) (sym c.is_err.ensures.value ∙ c.if-is_err.false) in
    let l = old_length (c.args.self.now.counts) (c.args.self.now.ws.now) (c.args.self.now.journal.now) (c.args.self.now.fits) in
    let g = gives_refused _ (c.args.out.now) (not_fitting old (length (c.args.out.now)) u (omega (arith, l, c.if-out-n.true, c.wide-n.ensures.0))) refl in
    record { answered = g.answer; wrote = g.output }

pub returns : goal.returns
returns c =
    let old : List ℕ = put_back (said (c.args.self.now.counts) (c.args.self.now.journal.now)) (c.args.self.now.ws.now) in
    let w = put_words (c.args.self.now.counts) (c.args.self.now.ws.now) (c.args.self.now.journal.now) (c.args.scratch.now) _ _ (c.args.self.now.fits) (c.requires) (c.wide-n.ensures.0) (c.put_back.ensures) in
    let u = read_ok _ _ (c.check_readable.ensures ∙ ap (check_readable standard) w) (sym c.is_err.ensures.value ∙ c.if-is_err.false) in
    let l = old_length (c.args.self.now.counts) (c.args.self.now.ws.now) (c.args.self.now.journal.now) (c.args.self.now.fits) in
    let k = ap length (c.put_back.ensures ∙ put_laid (c.args.self.now.counts) (c.args.self.now.ws.now) (c.args.self.now.journal.now) (c.args.self.now.fits) (c.args.scratch.now) (c.requires)) ∙ over_length old (c.args.scratch.now) (omega (arith, l, c.requires)) in
    let o = c.copy.ensures.1 ∙ pasted_first _ _ (c.args.out.now) (omega (arith, k, c.requires, c.wide-n.ensures.0)) (omega (arith, c.if-out-n.false)) ∙ ap (λ (us : List ℕ). over us (c.args.out.now)) w in
    let g = gives_done _ (c.args.out.now) _ (is_restored old (length (c.args.out.now)) u (omega (arith, l, c.if-out-n.false, c.wide-n.ensures.0))) (ap (λ (n : ℕ). record { number = 0; length = n }) (sym l)) o in
    record { answered = g.answer; wrote = g.output }
