-- `begin_index` of `index::begin` meets its contract.
use mathlib.Core.Path.{refl, ◌∙◌}
use borrow.Author.Tests.{eqb-false}
use Rattle.layout.proofs.Refusing.{never_zero}
use Rattle.index.proofs.Answering.{all_cleared, begin_short, begin_refused, begin_done}
use Rattle.index.proofs.begin.begin_index.Goals as goal

pub returns-then-index-lt-WORDS-clause-begun : goal.returns-then-index-lt-WORDS-clause-begun
returns-then-index-lt-WORDS-clause-begun c = (begin_short c.args.ws.now c.args.index.now c.if-index-lt-WORDS.true).1

pub returns-in_err-check_start-clause-begun : goal.returns-in_err-check_start-clause-begun
returns-in_err-check_start-clause-begun c =
    (begin_refused c.args.ws.now c.args.index.now c.if-index-lt-WORDS.false _ c.in_err-check_start.ensures (eqb-false _ 0 (never_zero c.in_err-check_start.field-0.0))).1

pub returns-clause-begun : goal.returns-clause-begun
returns-clause-begun c =
    c.clear.ensures ∙ all_cleared c.args.index.now
    ∙ (begin_done c.args.ws.now c.args.index.now c.if-index-lt-WORDS.false 0 c.in_ok-check_start.ensures refl).1
