-- `sock_oldest` of `cabinet::index_bytes` meets its contract.
use mathlib.Core.Path.{◌∙◌}
use Rattle.cabinet.proofs.Indexing.{oldest_packed}
use Rattle.cabinet.proofs.index_bytes.sock_oldest.Goals as goal

pub returns : goal.returns
returns c = c.numbered.ensures ∙ c.or_0.ensures ∙ oldest_packed c.args.index.now _ _ c.held_part.ensures c.oldest.ensures
