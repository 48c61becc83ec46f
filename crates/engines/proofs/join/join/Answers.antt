-- `join` of `engines::join` meets its contract: where none is admitted nothing is written.
use borrow.Author.Rules.{rules}
use mathlib.Core.Path.{◌≡◌}
use lib.ListN.{length}
use Rattle.sock.specs.Calls.{passed}
use Rattle.sock.specs.Configuration.{standard}
use Rattle.sock.specs.Engines.{admitting, join_output}
use Rattle.layout.specs.Refusals.{refusal_number}
use Rattle.engines.proofs.Joining.{unchanged}
use Rattle.engines.proofs.join.join.Goals as goal

pub returns-in_err-admit-clause-wrote : goal.returns-in_err-admit-clause-wrote
unfolding join_output
returns-in_err-admit-clause-wrote c =
    let e : refusal_number c.in_err-admit.field-0.0 ≡ passed (admitting standard c.args.ws.now) = search rules in
    unchanged c.args.ws.now c.args.engine.now (length c.args.out.now) c.args.out.now _ e
