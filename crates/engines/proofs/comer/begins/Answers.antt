-- `begins` of `engines::comer` meets its contract.
use native.Mathlib.Omega.{arith}
use mathlib.Core.Path.{sym, ◌∙◌}
use borrow.Author.Tests.{ne_eqb}
use Rattle.reading.proofs.Given.{none_end}
use Rattle.engines.proofs.Coming.{whole_read}
use Rattle.engines.proofs.comer.begins.Goals as goal

pub returns-in-None : goal.returns-in-None
returns-in-None c =
    sym (ne_eqb 0 _ (λ y. omega (arith, y, c.if-engine-lt-VALUES.false)))
    ∙ whole_read (c.args.engine.now) (λ i. (c.type_inv.engine i).fits) _ (c.requires) 0 (c.if-engine-lt-VALUES.false) (λ z. (c.if-word-eq0.false) (c.word.ensures ∙ z)) (sym (none_end _ c.in-None.ensures))
