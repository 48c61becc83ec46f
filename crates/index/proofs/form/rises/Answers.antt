-- `rises` of `index::form` meets its contract. The loop's invariant: whether all rise is whether those from here on do, above the last.
use mathlib.Core.Path.{◌∙◌}
use Rattle.index.proofs.Forming.{rise_passes, rise_stops, rise_ends}
use Rattle.index.proofs.form.rises.Goals as goal

pub returns-then-word-last : goal.returns-then-word-last
returns-then-word-last c = rise_stops c.args.words.now c.loop-word.word-index c.loop-word.last c.loop-word-test.true c.if-word-last.true ∙ c.loop-word.invariant

pub loop-word-preserved : goal.loop-word-preserved
loop-word-preserved c = rise_passes c.args.words.now c.loop-word.word-index c.loop-word.last c.loop-word-test.true c.if-word-last.false ∙ c.loop-word.invariant

pub returns : goal.returns
returns c = rise_ends c.args.words.now c.loop-word.word-index c.loop-word.last c.loop-word-test.false ∙ c.loop-word.invariant
