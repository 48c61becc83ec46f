-- `lists` of `planning::skip`. The loop's invariant: the lists left, from here on, end where all end from the start.
use Prim.Native.Nat.{◌-◌, ◌<◌}
use mathlib.Core.Path.{◌≡◌}
use Rattle.planning.specs.Walk.{lists_past}
use Rattle.planning.proofs.skip.lists.Given as goal

abbrev pub invariant-loop : goal.invariant-loop
invariant-loop l = (0 < l.end) × (lists_past l.ws (l.count - l.counter) l.end ≡ lists_past l.ws l.count l.initial.end)
