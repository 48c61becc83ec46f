-- `receiver` of `keeper::seek::Search` meets its contract.
use native.Mathlib.Omega.{arith}
use mathlib.Core.Path.{sym, ◌∙◌}
use Rattle.keeper.proofs.Looking.{passed_nowhere, passed_unmeant}
use Rattle.keeper.proofs.seek.Search.receiver.Goals as goal

pub returns-then-self-wide : goal.returns-then-self-wide
returns-then-self-wide c =
    passed_nowhere c.args.self.now.noted.ws.now c.args.self.now.noted.notes.now _ c.args.k c.args.a c.args.i c.requires.0 c.requires.1 _ _ c.wide.ensures.0 c.past.ensures c.if-self-wide.true

pub returns : goal.returns
returns c =
    passed_unmeant c.args.self.now.noted.ws.now c.args.self.now.noted.notes.now _ c.args.k c.args.a c.args.i c.requires.0 c.requires.1 _ _ _ _ _ c.wide-2.ensures.0 c.start-start.ensures (omega (arith, c.wide.ensures.0, c.if-self-wide.false))
    c.word.ensures c.of.ensures (sym c.meant.ensures ∙ c.if-meant.false) c.past-2.ensures
