-- `window_count` of `window::calls` meets its contract.
use native.Mathlib.Omega.{arith}
use mathlib.Core.Path.{ap, ◌∙◌}
use Rattle.window.specs.Window.{count_of}
use Rattle.window.proofs.Answering.{count_short, count_front}
use Rattle.window.proofs.calls.window_count.Goals as goal

pub returns-in_default : goal.returns-in_default
returns-in_default c = count_short c.args.operation c.args.window.now c.in_default.ensures.cases

pub returns : goal.returns
returns c =
    c.count_among.ensures ∙ ap (count_of c.args.operation) c.in-Some.ensures.cases.0
    ∙ count_front c.args.operation c.args.window.now (omega (arith, c.in-Some.ensures.cases.2))
