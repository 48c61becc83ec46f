-- `among` of `engines::leave`: all of the places lent are tested as `all_read` tests them.
use native.Mathlib.Omega.{arith}
use mathlib.Core.Path.{sym, ◌∙◌}
use mathlib.Core.Bool.{not}
use borrow.Author.Rules.{rules}
use lib.Dec.{eqb}
use lib.ListN.{take}
use Prim.Native.Nat.{◌-◌}
use Rattle.std.proofs.lemmas.Iterator.{YieldsList-from_slice}
use Rattle.std.proofs.lemmas.Iterator.Search.{all_from_yields_List}
use Rattle.reading.specs.Walk.{process_end}
use Rattle.reading.proofs.Given.{read_test}
use Rattle.engines.proofs.Going.{read_all}
use Rattle.engines.proofs.leave.among.Goals as goal

pub returns : goal.returns
returns c =
    let a = c.args in
    let sub = process_end 64 a.ws.now a.bound 11 in
    all_from_yields_List (λ i. not (eqb (sub i) 0)) _ _ c.all.result c.all.ensures.ran (YieldsList-from_slice (take (a.s.engines - 1) a.s.starts) (search rules)) (λ x b q k. search (rules, read_test))
    ∙ sym (read_all sub a.s.starts (a.s.engines - 1) (omega arith))
