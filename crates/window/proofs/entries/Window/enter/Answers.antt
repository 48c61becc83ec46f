-- `Window::enter` of `window::entries` meets its contract.
use native.Mathlib.Omega.{arith}
use mathlib.Core.Path.{ap, ◌∙◌}
use mathlib.Core.List.{List, [], ◌∷◌, ◌++◌}
use lib.ListN.{length}
use Prim.Native.Nat.{ℕ}
use Rattle.window.specs.Window.{last}
use Rattle.window.proofs.Changing.{with_room, when_full}
use Rattle.window.proofs.entries.Window.enter.Goals as goal

pub invariant_of-self : goal.invariant_of-self
invariant_of-self c =
    (with_room c.args.width.number c.args.entry.number c.self.inside.words c.self.invariant (omega (arith, ap length c.self.view_is)) c.args.width.most c.args.entry.most _ c.if-self-width.true c.append.ensures).0

pub invariant_of-self-else-self-width : goal.invariant_of-self-else-self-width
invariant_of-self-else-self-width c =
    (when_full c.args.width.number c.args.entry.number c.self.inside.words c.self.invariant (omega (arith, ap length c.self.view_is)) c.args.width.most c.args.entry.most _ c.args.width.least c.if-self-width.false c.replace.ensures).0

pub returns-then-self-width : goal.returns-then-self-width
returns-then-self-width c =
    (with_room c.args.width.number c.args.entry.number c.self.inside.words c.self.invariant (omega (arith, ap length c.self.view_is)) c.args.width.most c.args.entry.most _ c.if-self-width.true c.append.ensures).1
    ∙ ap (λ (t : List ℕ). last c.args.width.number (t ++ (c.args.entry.number ∷ []))) c.self.view_is

pub returns-else-self-width : goal.returns-else-self-width
returns-else-self-width c =
    (when_full c.args.width.number c.args.entry.number c.self.inside.words c.self.invariant (omega (arith, ap length c.self.view_is)) c.args.width.most c.args.entry.most _ c.args.width.least c.if-self-width.false c.replace.ensures).1
    ∙ ap (λ (t : List ℕ). last c.args.width.number (t ++ (c.args.entry.number ∷ []))) c.self.view_is
