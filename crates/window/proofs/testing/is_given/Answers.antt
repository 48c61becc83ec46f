-- `is_given` of `window::testing` meets its contract.
use native.Mathlib.Omega.{arith}
use borrow.Author.Rules.{rules}
use borrow.Author.Tests.{tests}
use lib.Dec.{eqb}
use Rattle.std.proofs.lemmas.Iterator.{YieldsList-from_slice}
use Rattle.std.proofs.lemmas.Iterator.Search.{all_from_yields_List}
use Rattle.window.proofs.Given.{many_held, no_entries, some_behind, counts_compared}
use Rattle.window.proofs.testing.is_given.Goals as goal

pub returns-then-from-held : goal.returns-then-from-held
returns-then-from-held c =
    many_held c.args.width.number c.args.words.now (omega arith) _ c.from-held.ensures (omega (arith, c.if-from-held.true, c.from.ensures))

pub returns-in-Err : goal.returns-in-Err
returns-in-Err c =
    no_entries c.args.width.number c.args.words.now (omega arith) _ c.from-held.ensures (omega (arith, c.if-from-held.false, c.from.ensures)) _ _ c.split_at.ensures.front c.split_at.ensures.back c.in-Err.ensures

pub returns-else-all : goal.returns-else-all
returns-else-all c =
    let zero = all_from_yields_List (λ w. eqb w 0) _ _ c.all.result c.all.ensures.ran (YieldsList-from_slice c.split_at.result.1.now (search rules)) (λ x b q k. search (rules, tests)) in
    some_behind c.args.width.number c.args.words.now (omega arith) _ c.from-held.ensures (omega (arith, c.if-from-held.false, c.from.ensures)) _ _ c.split_at.ensures.front c.split_at.ensures.back c.in-Ok.ensures.0 _ c.in-Ok.ensures.1 _ zero c.if-all.false

pub returns-then-all : goal.returns-then-all
returns-then-all c =
    let zero = all_from_yields_List (λ w. eqb w 0) _ _ c.all.result c.all.ensures.ran (YieldsList-from_slice c.split_at.result.1.now (search rules)) (λ x b q k. search (rules, tests)) in
    counts_compared c.args.width.number c.args.words.now (omega arith) _ c.from-held.ensures (omega (arith, c.if-from-held.false, c.from.ensures)) _ _ c.split_at.ensures.front c.split_at.ensures.back c.in-Ok.ensures.0 _ c.in-Ok.ensures.1 _ zero c.if-all.true _ c.agree.ensures
