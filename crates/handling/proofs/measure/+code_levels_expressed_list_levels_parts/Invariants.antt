-- `handling::measure::code_levels`, `expressed`, `list_levels` and `parts`. The measure is the depth left, times 3. Both loops' invariant: what is
-- left, from here and with the depth so far, measures as the whole does from its start.
use mathlib.Core.Path.{◌≡◌}
use Rattle.handling.specs.Measuring.{code_levels, parts_levels, entries_levels}
use Prim.Native.Nat.{◌+◌, ◌-◌, ◌*◌}
use Rattle.handling.proofs.measure.+code_levels_expressed_list_levels_parts.Given as goal

abbrev pub decreases-code_levels : goal.decreases-code_levels
decreases-code_levels l = l.depth * 3

abbrev pub decreases-expressed : goal.decreases-expressed
decreases-expressed l = l.depth * 3 + 2

abbrev pub decreases-list_levels : goal.decreases-list_levels
decreases-list_levels l = l.depth * 3 + 1

abbrev pub decreases-parts : goal.decreases-parts
decreases-parts l = l.depth * 3 + 1

abbrev pub invariant-list_levels-loop : goal.invariant-list_levels-loop
invariant-list_levels-loop l =
    entries_levels (code_levels l.depth l.ws) (l.count - l.counter) l.deepest l.a ≡ entries_levels (code_levels l.depth l.ws) l.count l.initial.deepest l.initial.a

abbrev pub invariant-parts-loop : goal.invariant-parts-loop
invariant-parts-loop l =
    parts_levels (code_levels l.depth l.ws) (l.count - l.counter) l.deepest l.a ≡ parts_levels (code_levels l.depth l.ws) l.count l.initial.deepest l.initial.a
