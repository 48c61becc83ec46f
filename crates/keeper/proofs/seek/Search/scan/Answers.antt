-- `scan` of `keeper::seek::Search` meets its contract.
use native.Mathlib.Omega.{arith}
use Rattle.keeper.specs.Answers.{is_river}
use Rattle.keeper.specs.Seeking.{side_of}
use Rattle.keeper.proofs.Looking.{scan_found, scan_next, scan_none}
use Rattle.keeper.proofs.seek.Search.scan.Goals as goal

pub loop-i-init : goal.loop-i-init
loop-i-init c = (omega arith, λ j u v. absurd (omega (arith, u, v)))

pub returns-in-Ok-clause-scanned : goal.returns-in-Ok-clause-scanned
returns-in-Ok-clause-scanned c =
    scan_found c.args.mover.engines (side_of (is_river c.args.mover.side)) c.args.self.now.noted.ws.now c.args.from c.loop-i.i c.loop-i.invariant.0 c.loop-i.invariant.1 c.in-Ok.accepted _ _ _ c.loop-i-test.true c.in-Ok.is c.look-l.ensures

pub loop-i-preserved : goal.loop-i-preserved
loop-i-preserved c = (
  omega (arith, c.look-l.ensures.further, c.loop-i.invariant.0),
  scan_next c.args.mover.engines (side_of (is_river c.args.mover.side)) c.args.self.now.noted.ws.now c.args.from c.loop-i.i c.loop-i.invariant.0 c.loop-i.invariant.1 c.in_default.field-0 _ _ _ c.in_default.is c.look-l.ensures,
)

pub returns-clause-scanned : goal.returns-clause-scanned
returns-clause-scanned c =
    scan_none c.args.mover.engines (side_of (is_river c.args.mover.side)) c.args.self.now.noted.ws.now c.args.from c.loop-i.i c.loop-i.invariant.0 c.loop-i.invariant.1 _ _ c.loop-i-test.false
