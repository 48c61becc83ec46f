-- `Window::of` of `window::entries` meets its contract.
use mathlib.Core.Path.{sym, ◌∙◌}
use Rattle.window.proofs.Words.{given_formed}
use Rattle.window.proofs.entries.Window.of.Goals as goal

pub invariant_of-result : goal.invariant_of-result
invariant_of-result c = given_formed c.args.width.number c.args.words (sym c.is_given.ensures ∙ c.if-is_given.true) c.args.width.most
