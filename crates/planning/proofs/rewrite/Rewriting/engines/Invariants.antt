-- `engines` of `planning::rewrite::Rewriting`. The loop's invariant: the engines left, from here on, give what all give from the start.
use Prim.Native.Nat.{◌-◌}
use mathlib.Core.Path.{◌≡◌}
use Rattle.planning.specs.Walk.{spot_of, engines_w}
use Rattle.planning.proofs.rewrite.Rewriting.engines.Given as goal

abbrev pub invariant-loop : goal.invariant-loop
invariant-loop l =
    engines_w l.self.join l.self.ws.now (l.count - l.counter) (spot_of l.x) l.a l.b
    ≡ engines_w l.self.join l.self.ws.now l.count (spot_of l.initial.x) l.initial.a l.initial.b
