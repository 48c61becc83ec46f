-- `held_index` of `cabinet::index_bytes` meets its contract.
use mathlib.Core.Path.{◌∙◌}
use Rattle.cabinet.proofs.Indexing.{part_first, order_held, words_held}
use Rattle.cabinet.proofs.index_bytes.held_index.Goals as goal

pub returns : goal.returns
returns c =
    let h = c.hold_part-n.ensures in
    record {
      ordered = c.in_order.ensures ∙ order_held c.args.index.now _ (part_first 2049 _ _ _ _ c.told-serials h.0 h.1);
      held = words_held _ c.args.index.now _ _ c.told-serials h.1;
    }
