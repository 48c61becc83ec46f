-- `handling::take::take`. The loop's invariant: the entries left, passed from here on, give what all give from the start.
use mathlib.Core.Path.{◌≡◌}
use Prim.Native.Nat.{◌-◌}
use Rattle.handling.specs.Taking.{passes_w}
use Rattle.handling.proofs.take.take.Given as goal

abbrev pub invariant-loop : goal.invariant-loop
invariant-loop l = passes_w l.depth l.ws l.key (l.n - l.counter) l.s l.out ≡ passes_w l.depth l.ws l.key l.n l.initial.s l.initial.out
