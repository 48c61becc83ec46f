-- `sock_open_count` of `cabinet::index_bytes` meets its contract.
use mathlib.Core.Path.{◌∙◌}
use Rattle.cabinet.proofs.Indexing.{count_packed}
use Rattle.cabinet.proofs.Numbered.{counted_packed}
use Rattle.cabinet.proofs.index_bytes.sock_open_count.Goals as goal

pub returns : goal.returns
returns c = c.numbered.ensures ∙ counted_packed _ ∙ count_packed c.args.index.now _ _ c.held_part.ensures c.open_count.ensures
