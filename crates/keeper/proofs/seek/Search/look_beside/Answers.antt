-- `look_beside` of `keeper::seek::Search` meets its contract.
use mathlib.Core.Path.{refl}
use Rattle.keeper.proofs.Looking.{passes_by, tried_beside}
use Rattle.keeper.proofs.seek.Search.look_beside.Goals as goal

pub returns-in-Ok : goal.returns-in-Ok
returns-in-Ok c =
    tried_beside c.args.self.now.noted.ws.now c.args.self.now.noted.notes.now _ c.args.k c.args.a c.args.i c.requires.0 _ _ c.args.out.now _ c.requires.2 c.moving.ensures.answered c.moving.ensures.written refl

pub returns-in-Err : goal.returns-in-Err
returns-in-Err c = passes_by c.args.self.now.noted.ws.now c.args.i 3 _ _ _ refl (c.in-Err.ensures)
