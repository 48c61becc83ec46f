-- `hold` of `bytewise::words` meets its contract.
use mathlib.Core.Path.{sym, ◌∙◌}
use Rattle.bytewise.proofs.Holding.{all_laid}
use Rattle.bytewise.proofs.words.hold.Goals as goal

pub returns : goal.returns
returns c =
    let parts = c.as_chunks.ensures in
    all_laid _ c.args.ws.now _ _ _ parts.back_len (sym c.is_empty.ensures ∙ c.if-not-is_empty.false) parts.front_len c.if-ws-pairs.false parts.front c.fill.ensures
