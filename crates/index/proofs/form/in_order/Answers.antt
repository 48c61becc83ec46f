-- `in_order` of `index::form` meets its contract where the serials rise: it goes by the words behind them.
use Prim.Native.Nat.{◌+◌}
use mathlib.Core.Path.{sym, ◌∙◌}
use borrow.Author.Rules.{rules}
use borrow.Author.Tests.{tests}
use lib.Dec.{eqb}
use Rattle.std.specs.List.{between}
use Rattle.std.proofs.lemmas.Iterator.Search.{all_from_yields_List}
use Rattle.std.proofs.lemmas.Iterator.{YieldsList-from_slice}
use Rattle.index.proofs.Forming.{order_rises}
use Rattle.index.proofs.form.in_order.Goals as goal

pub returns : goal.returns
returns c =
    let behind = all_from_yields_List (λ w. eqb w 0) _ _ c.all.result c.all.ensures.ran (YieldsList-from_slice (between (c.wide-n.result + 1) 2049 c.args.index.now) (search rules)) (λ x b q k. search (rules, tests)) in
    order_rises c.args.index.now c.if-index-lt-WORDS.false c.wide-n.result c.wide-n.ensures.0 c.if-n-gt-MOST.false (sym c.rises.ensures ∙ c.if-not-rises.false) c.all.result behind
