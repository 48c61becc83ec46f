-- `handover` prints the definition's text.
use Rattle.std.proofs.Common.{◌<◌, length}
use Rattle.std.specs.Io.KnownBytes.{Appends}
use Rattle.sock.specs.Bytes.{handover}
use Rattle.handover.specs.Printed.{most_steps}
use Rattle.handover.proofs.Reading.{completed}
use Rattle.handover.proofs.Going.{whole_run, whole_refused}
use Rattle.handover.proofs.handover.Goals as goal

pub returns-in_ok-print-in-More : goal.returns-in_ok-print-in-More
returns-in_ok-print-in-More g c =
    let old = g.W.Write.contents c.args.output.now in
    let new = g.W.Write.contents c.steps.new.output in
    let start = rw c.in-More.ensures.line at c.in_ok-print-in-More.ensures in
    completed c.steps.result _ (λ given. length given < most_steps → Appends old new (handover given))
    (λ bytes e run turns.
    let read = rw e at c.in_ok-words.ensures in
    let rest = rw read.1 at run in
    whole_run bytes c.in_ok-words.words old _ turns read.0 start c.in-More.ensures.last new rest)
    c.steps.ensures

pub returns-in-Last : goal.returns-in-Last
returns-in-Last g c =
    let old = g.W.Write.contents c.args.output.now in
    let new = g.W.Write.contents c.print-in-Last.new.output in
    completed c.print-in-Last.result _ (λ given. length given < most_steps → Appends old new (handover given))
    (λ bytes e p turns.
    let read = rw e at c.in_ok-words.ensures in
    let start = rw c.in-Last.ensures.line at p in
    whole_refused bytes c.in_ok-words.words old new turns read.0 start c.in-Last.ensures.last)
    c.print-in-Last.ensures
