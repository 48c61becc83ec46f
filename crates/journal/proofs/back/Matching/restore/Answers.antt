-- `Matching::restore` of `journal::back` meets its contract.
use native.Mathlib.Omega.{arith}
use mathlib.Core.Path.{refl}
use lib.ListN.{length}
use Rattle.sock.specs.Journal.{put_back}
use Rattle.journal.specs.Back.{said}
use Rattle.journal.proofs.Restoring.{old_length, gives_refused, not_long}
use Rattle.journal.proofs.back.Matching.restore.Goals as goal

pub returns-then-n-gt-LONGEST : goal.returns-then-n-gt-LONGEST
returns-then-n-gt-LONGEST c =
    let l = old_length (c.args.self.now.counts) (c.args.self.now.ws.now) (c.args.self.now.journal.now) (c.args.self.now.fits) in
    let g = gives_refused _ (c.args.out.now) (not_long (put_back (said (c.args.self.now.counts) (c.args.self.now.journal.now)) (c.args.self.now.ws.now)) (length (c.args.out.now)) (omega (arith, l, c.if-n-gt-LONGEST.true, c.wide-n.ensures.0))) refl in
    record { answered = g.answer; wrote = g.output }
