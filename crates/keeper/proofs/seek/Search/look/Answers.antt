-- `look` of `keeper::seek::Search` meets its contract.
use mathlib.Core.Path.{refl, sym, ◌∙◌}
use Rattle.keeper.specs.Answers.{is_river}
use Rattle.keeper.proofs.Looking.{looked_other, looked_beyond, looked_tried, low_engine}
use Rattle.keeper.proofs.seek.Search.look.Goals as goal

pub owns-requires : goal.owns-requires
owns-requires c = low_engine c.args.i _ _ c.numbers_at-k.ensures refl

pub returns-then-not-owns : goal.returns-then-not-owns
returns-then-not-owns c =
    looked_other c.args.mover.engines (is_river c.args.mover.side) c.args.self.now.noted.ws.now c.args.i _ c.numbers_at-k.ensures _ refl _ _ _ (sym c.owns.ensures ∙ c.if-not-owns.true) c.pass_by.ensures.answered c.pass_by.ensures.further

pub returns-then-self-wide : goal.returns-then-self-wide
returns-then-self-wide c =
    looked_beyond c.args.mover.engines (is_river c.args.mover.side) c.args.self.now.noted.ws.now c.args.i _ c.numbers_at-k.ensures _ c.wide.ensures.0 _ _ _ c.args.self.now.noted.notes.now _ c.requires.0 c.if-self-wide.true
    c.pass_by-then-self-wide.ensures.answered c.pass_by-then-self-wide.ensures.further

pub returns : goal.returns
returns c =
    looked_tried c.args.mover.engines (is_river c.args.mover.side) c.args.self.now.noted.ws.now c.args.i _ c.numbers_at-k.ensures _ refl _ _ _ (sym c.owns.ensures ∙ c.if-not-owns.false) c.look_in.ensures
