-- `look_at` of `keeper::seek::Search` meets its contract.
use mathlib.Core.Path.{sym, ap, ◌∙◌}
use Rattle.std.specs.Prelude.{Some}
use Rattle.stepping.specs.Stepping.{way_as}
use Rattle.keeper.proofs.Looking.{does_is, tried_stuck, tried_alone}
use Rattle.keeper.proofs.seek.Search.look_at.Goals as goal

pub returns-in-None : goal.returns-in-None
returns-in-None c =
    tried_stuck c.args.self.now.noted.ws.now c.args.self.now.noted.notes.now _ c.args.k c.args.a c.args.i c.requires.0 _ _ _ c.pass_by.ensures.answered c.pass_by.ensures.further
    (sym (ap way_as (does_is c.args.self.now.noted.ws.now c.args.self.now.noted.notes.now c.args.a.at _ _ c.word.ensures c.of.ensures)) ∙ sym c.moves.ensures ∙ c.in-None.is)

pub returns-in-Some-Alone : goal.returns-in-Some-Alone
returns-in-Some-Alone c =
    tried_alone c.args.self.now.noted.ws.now c.args.self.now.noted.notes.now _ c.args.k c.args.a c.args.i c.requires.0 _ _ c.args.out.now _ c.requires.1 c.moving.ensures.answered c.moving.ensures.written c.past.ensures
    (sym (ap way_as (does_is c.args.self.now.noted.ws.now c.args.self.now.noted.notes.now c.args.a.at _ _ c.word.ensures c.of.ensures)) ∙ sym c.moves.ensures ∙ c.in-Some-Alone.is ∙ ap Some c.in-Some-Alone.field-0-is)
