-- `sight_in` of `keeper::seek::Search` meets its contract.
use mathlib.Core.Path.{refl, sym, ap, ◌∙◌}
use Rattle.stepping.specs.Bundles.{engines_of}
use Rattle.keeper.specs.Hopes.{ready_at}
use Rattle.keeper.proofs.Glancing.{found_at}
use Rattle.keeper.proofs.Looking.{found_there, here_found, passed_placeless, passed_absent}
use Rattle.keeper.proofs.Sighting.{sight_passed, sight_unready}
use Rattle.keeper.proofs.seek.Search.sight_in.Goals as goal

pub returns-in_default : goal.returns-in_default
returns-in_default c =
    sight_passed c.args.serial c.args.self.now.noted.ws.now c.args.i _ _ c.elsewhere.ensures.ready
    (passed_placeless c.args.self.now.noted.ws.now c.args.self.now.noted.notes.now _ c.args.k c.args.i c.requires _ (sym c.place.ensures ∙ c.in_default.is) c.elsewhere.ensures.further)

pub returns-then-not-ready_at : goal.returns-then-not-ready_at
returns-then-not-ready_at c =
    sight_unready c.args.serial c.args.self.now.noted.ws.now c.args.self.now.noted.notes.now _ c.args.k c.args.i c.requires _ _ _ (sym c.place.ensures ∙ c.in-Some.is) (sym c.ready_at.ensures ∙ c.if-not-ready_at.true) c.elsewhere-then-not-ready_at.ensures.ready
    c.elsewhere-then-not-ready_at.ensures.further

pub sight_at-requires : goal.sight_at-requires
sight_at-requires c =
    let hit = found_there c.args.self.now.noted.ws.now c.args.self.now.noted.notes.now (engines_of c.args.self.now.engines) _ _ _ _ _ _ c.wide.ensures.0 c.start.ensures (sym c.place.ensures ∙ c.in-Some.is) (sym c.locate.ensures ∙ c.in-Hit.is) in (
      here_found c.args.self.now.noted.ws.now c.args.self.now.noted.notes.now _ c.args.k c.args.i c.requires _ hit,
      ap (ready_at c.args.serial c.args.self.now.noted.ws.now) (found_at c.args.self.now.noted.ws.now c.args.self.now.noted.notes.now _ 64 1 _ c.in-Hit.a (sym c.locate.ensures ∙ c.in-Hit.is)) ∙ sym c.ready_at.ensures ∙ c.if-not-ready_at.false,
    )

pub returns-in-Past : goal.returns-in-Past
returns-in-Past c =
    sight_passed c.args.serial c.args.self.now.noted.ws.now c.args.i _ _ c.elsewhere-in-Past.ensures.ready
    (passed_absent c.args.self.now.noted.ws.now c.args.self.now.noted.notes.now _ c.args.k c.args.i c.requires _ _ _ _ _ refl refl refl refl _
    (found_there c.args.self.now.noted.ws.now c.args.self.now.noted.notes.now (engines_of c.args.self.now.engines) _ _ _ _ _ _ c.wide.ensures.0 c.start.ensures (sym c.place.ensures ∙ c.in-Some.is) (sym c.locate.ensures ∙ c.in-Past.is))
    c.elsewhere-in-Past.ensures.further)
