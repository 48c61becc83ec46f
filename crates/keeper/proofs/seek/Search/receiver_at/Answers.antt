-- `receiver_at` of `keeper::seek::Search` meets its contract.
use mathlib.Core.Path.{refl, sym, ◌∙◌}
use Rattle.stepping.specs.Bundles.{engines_of}
use Rattle.keeper.proofs.Looking.{place_some, found_there, passed_receiverless, passed_deaf, passed_nobody}
use Rattle.keeper.proofs.seek.Search.receiver_at.Goals as goal

pub returns-in_default : goal.returns-in_default
returns-in_default c =
    passed_receiverless c.args.self.now.noted.ws.now c.args.self.now.noted.notes.now _ c.args.k c.args.a c.args.i c.requires.0 c.requires.1 c.requires.2 _ (sym c.place.ensures ∙ c.in_default.is) c.past.ensures

pub returns-then-not-hears : goal.returns-then-not-hears
returns-then-not-hears c =
    passed_deaf c.args.self.now.noted.ws.now c.args.self.now.noted.notes.now _ c.args.k c.args.a c.args.i c.requires.0 c.requires.1 _ _ _ _ _ _ _ refl refl refl c.requires.2
    (place_some c.args.self.now.noted.ws.now c.args.self.now.noted.notes.now (engines_of c.args.self.now.engines) _ _ _ (sym c.place.ensures ∙ c.in-Some.is))
    c.word.ensures c.of.ensures (sym c.hears.ensures ∙ c.if-not-hears.true) c.past-then-not-hears.ensures

pub returns-in-Past : goal.returns-in-Past
returns-in-Past c =
    passed_nobody c.args.self.now.noted.ws.now c.args.self.now.noted.notes.now _ c.args.k c.args.a c.args.i c.requires.0 c.requires.1 _ _ _ _ _ _ refl refl refl c.requires.2 refl
    (found_there c.args.self.now.noted.ws.now c.args.self.now.noted.notes.now (engines_of c.args.self.now.engines) _ _ _ _ _ _ c.wide.ensures.0 c.start.ensures (sym c.place.ensures ∙ c.in-Some.is) (sym c.locate.ensures ∙ c.in-Past.is))
    c.past-in-Past.ensures

pub returns-in-Hit : goal.returns-in-Hit
returns-in-Hit c =
    (c.requires.2, found_there c.args.self.now.noted.ws.now c.args.self.now.noted.notes.now (engines_of c.args.self.now.engines) _ _ _ _ _ _ c.wide.ensures.0 c.start.ensures (sym c.place.ensures ∙ c.in-Some.is) (sym c.locate.ensures ∙ c.in-Hit.is))
