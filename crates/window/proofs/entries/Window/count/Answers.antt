-- `Window::count` of `window::entries` meets its contract.
use mathlib.Core.Path.{ap, ◌∙◌}
use Prim.Native.Nat.{ℕ, suc}
use lib.ListN.{get_or}
use Rattle.window.specs.Window.{times}
use Rattle.window.proofs.Whole.{count_formed}
use Rattle.window.proofs.entries.Window.count.Goals as goal

pub returns : goal.returns
returns c =
    ap (λ (k : ℕ). get_or c.self.inside.words k 0) c.from.ensures
    ∙ count_formed c.self.inside.words c.self.invariant c.args.operation.number c.args.operation.most
    ∙ ap (times (suc c.args.operation.number)) c.self.view_is
