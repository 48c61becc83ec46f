-- `reading::calls::none_nil`: all of the places lent are tested as `none_nil` tests them.
use native.Mathlib.Omega.{arith}
use mathlib.Core.Path.{sym, ◌∙◌}
use mathlib.Core.Bool.{not}
use borrow.Author.Rules.{rules}
use lib.Dec.{eqb}
use lib.ListN.{take}
use Rattle.sock.proofs.Tests.{tests}
use Rattle.std.proofs.lemmas.Iterator.{YieldsList-from_slice}
use Rattle.std.proofs.lemmas.Iterator.Search.{all_from_yields_List}
use Rattle.reading.specs.Walk.{at}
use Rattle.reading.proofs.Freshness.{nil_all}
use Rattle.reading.proofs.calls.none_nil.Goals as goal

pub returns : goal.returns
returns c =
    let a = c.args in
    all_from_yields_List (λ i. not (eqb (at a.ws.now i) 0)) _ _ c.all.result c.all.ensures.ran (YieldsList-from_slice (take a.s.engines a.s.starts) (search rules)) (λ x b q k. search (rules, tests))
    ∙ sym (nil_all a.ws.now a.s.starts a.s.engines (omega arith))
