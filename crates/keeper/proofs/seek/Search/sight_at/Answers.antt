-- `sight_at` of `keeper::seek::Search` meets its contract.
use mathlib.Core.Path.{refl}
use Rattle.keeper.proofs.Sighting.{ready_sends, sight_passed, sight_answered}
use Rattle.keeper.proofs.seek.Search.sight_at.Goals as goal

pub receiver-requires : goal.receiver-requires
receiver-requires c = (c.requires.0, ready_sends c.args.serial c.args.self.now.noted.ws.now c.args.self.now.noted.notes.now c.args.a c.requires.1)

pub returns-in-Ok : goal.returns-in-Ok
returns-in-Ok c =
    sight_answered c.args.serial c.args.self.now.noted.ws.now c.args.self.now.noted.notes.now _ c.args.k c.args.a c.args.i c.requires.0 c.requires.1 c.in-Ok.b _ _ c.in-Ok.ensures c.answered.ensures c.past.ensures

pub returns-in-Err : goal.returns-in-Err
returns-in-Err c = sight_passed c.args.serial c.args.self.now.noted.ws.now c.args.i _ _ refl c.in-Err.ensures
