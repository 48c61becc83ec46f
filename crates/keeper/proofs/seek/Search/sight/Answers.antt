-- `sight` of `keeper::seek::Search` meets its contract.
use native.Mathlib.Omega.{arith}
use mathlib.Core.Path.{refl, sym, ◌∙◌}
use Rattle.keeper.specs.Answers.{is_river}
use Rattle.keeper.proofs.Looking.{low_engine}
use Rattle.keeper.proofs.Sighting.{spied_other, spied_beyond, spied_sighted}
use Rattle.keeper.proofs.seek.Search.sight.Goals as goal

pub owns-requires : goal.owns-requires
owns-requires c = low_engine c.args.i _ _ c.numbers_at-k.ensures refl

pub returns-then-not-owns : goal.returns-then-not-owns
returns-then-not-owns c =
    spied_other c.args.mover.engines c.args.serial (is_river c.args.mover.side) c.args.self.now.noted.ws.now c.args.i _ c.numbers_at-k.ensures _ _ (sym c.owns.ensures ∙ c.if-not-owns.true) c.elsewhere.ensures.ready c.elsewhere.ensures.further

pub returns-then-self-wide : goal.returns-then-self-wide
returns-then-self-wide c =
    spied_beyond c.args.mover.engines c.args.serial (is_river c.args.mover.side) c.args.self.now.noted.ws.now c.args.i _ c.numbers_at-k.ensures _ _ c.args.self.now.noted.notes.now _ c.requires.0 (omega (arith, c.wide.ensures.0, c.if-self-wide.true))
    c.elsewhere-then-self-wide.ensures.ready c.elsewhere-then-self-wide.ensures.further

pub returns : goal.returns
returns c =
    spied_sighted c.args.mover.engines c.args.serial (is_river c.args.mover.side) c.args.self.now.noted.ws.now c.args.i _ c.numbers_at-k.ensures _ _ (sym c.owns.ensures ∙ c.if-not-owns.false) c.sight_in.ensures
