-- `part` of `bytewise::calls` meets its contract.
use Rattle.bytewise.proofs.Placing.{unread_placed}
use Rattle.bytewise.proofs.calls.part.Goals as goal

pub returns-in-None : goal.returns-in-None
returns-in-None c = unread_placed c.args.ws.now (λ i. (c.type_inv.ws i).fits) c.args.engine (c.in-None.ensures {u = tt})
