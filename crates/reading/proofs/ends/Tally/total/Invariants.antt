-- `ends::Tally::total` meets its contract. The loop's invariant: the walk from here gives what it gives from the start, and no engine has more
-- ends than words.
use Prim.Native.Nat.{◌-◌, ◌*◌, ◌≤◌}
use mathlib.Core.Path.{◌≡◌}
use Rattle.reading.specs.Tally.{tally_at, total_from}
use Rattle.reading.proofs.ends.Tally.total.Given as goal

abbrev pub invariant-loop-at : goal.invariant-loop-at
invariant-loop-at l =
    (total_from (tally_at l.depth l.self.reader.ws.now l.self.serial l.self.reader.bound) l.fn.s.starts (l.fn.s.engines - l.at-index) l.at-index l.waiters l.workers ≡ total_from (tally_at l.depth l.self.reader.ws.now l.self.serial l.self.reader.bound) l.fn.s.starts l.fn.s.engines 0 0 0)
    × (l.waiters ≤ l.at-index * 65536)
    × (l.workers ≤ l.at-index * 65536)
