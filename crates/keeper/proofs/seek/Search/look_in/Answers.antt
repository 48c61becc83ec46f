-- `look_in` of `keeper::seek::Search` meets its contract.
use mathlib.Core.Path.{refl, sym, ◌∙◌}
use Rattle.stepping.specs.Bundles.{engines_of}
use Rattle.keeper.proofs.Looking.{place_some, found_there, here_found, passes_by, passed_placeless, passed_idle, passed_absent}
use Rattle.keeper.proofs.seek.Search.look_in.Goals as goal

pub returns-in_default : goal.returns-in_default
returns-in_default c =
    passes_by c.args.self.now.noted.ws.now c.args.i 1 _ _ _ c.pass_by.ensures.answered
    (passed_placeless c.args.self.now.noted.ws.now c.args.self.now.noted.notes.now _ c.args.k c.args.i c.requires.0 _ (sym c.place.ensures ∙ c.in_default.is) c.pass_by.ensures.further)

pub returns-then-not-acts : goal.returns-then-not-acts
returns-then-not-acts c =
    passes_by c.args.self.now.noted.ws.now c.args.i 2 _ _ _ c.pass_by-then-not-acts.ensures.answered
    (passed_idle c.args.self.now.noted.ws.now c.args.self.now.noted.notes.now _ c.args.k c.args.i c.requires.0 _ _ _ _ _ refl refl refl
    (place_some c.args.self.now.noted.ws.now c.args.self.now.noted.notes.now (engines_of c.args.self.now.engines) _ _ _ (sym c.place.ensures ∙ c.in-Some.is)) _ _
    c.word.ensures c.of.ensures (sym c.acts.ensures ∙ c.if-not-acts.true) c.pass_by-then-not-acts.ensures.further)

pub returns-in-Past : goal.returns-in-Past
returns-in-Past c =
    passes_by c.args.self.now.noted.ws.now c.args.i 1 _ _ _ c.pass_by-in-Past.ensures.answered
    (passed_absent c.args.self.now.noted.ws.now c.args.self.now.noted.notes.now _ c.args.k c.args.i c.requires.0 _ _ _ _ _ refl refl refl refl _
    (found_there c.args.self.now.noted.ws.now c.args.self.now.noted.notes.now (engines_of c.args.self.now.engines) _ _ _ _ _ _ c.wide.ensures.0 c.start.ensures (sym c.place.ensures ∙ c.in-Some.is) (sym c.locate.ensures ∙ c.in-Past.is))
    c.pass_by-in-Past.ensures.further)

pub look_at-requires : goal.look_at-requires
look_at-requires c = (
  here_found c.args.self.now.noted.ws.now c.args.self.now.noted.notes.now _ c.args.k c.args.i c.requires.0 _
      (found_there c.args.self.now.noted.ws.now c.args.self.now.noted.notes.now (engines_of c.args.self.now.engines) _ _ _ _ _ _ c.wide.ensures.0 c.start.ensures (sym c.place.ensures ∙ c.in-Some.is) (sym c.locate.ensures ∙ c.in-Hit.is)),
  c.requires.1,
)
