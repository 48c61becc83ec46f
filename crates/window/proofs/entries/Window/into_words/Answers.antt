-- `Window::into_words` of `window::entries` meets its contract.
use native.Mathlib.Omega.{arith}
use mathlib.Core.Path.{ap, ◌∙◌}
use Rattle.window.specs.Window.{window_of, entries_of}
use Rattle.window.proofs.Whole.{whole}
use Rattle.window.proofs.entries.Window.into_words.Goals as goal

pub returns : goal.returns
returns c =
    c.self.invariant.words ∙ whole c.self.inside.words (window_of (entries_of c.self.inside.words)) (omega arith) ∙ ap window_of c.self.view_is
