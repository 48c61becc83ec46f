-- `count_bytes` of `window::on_bytes` meets its contract.
use mathlib.Core.Path.{ap, ◌∙◌}
use Rattle.window.specs.Window.{count_of}
use Rattle.window.specs.Bytes.{words_of, window_in, packed, byte_count}
use Rattle.window.proofs.Answering.{count_bytes_short}
use Rattle.window.proofs.on_bytes.count_bytes.Goals as goal

pub returns-in_default : goal.returns-in_default
returns-in_default c = c.pack.ensures ∙ count_bytes_short c.args.window.now c.args.operation c.in_default.ensures.cases

pub returns : goal.returns
unfolding byte_count window_in
returns c =
    c.pack-2.ensures ∙ ap packed (c.count_among.ensures ∙ ap (count_of c.args.operation) (c.words_in.ensures ∙ ap words_of c.in-Some.ensures.cases.0))
