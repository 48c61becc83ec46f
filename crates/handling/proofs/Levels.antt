-- Depths on words: one level, and one turn of a loop.
-- Assumes nothing.
use Prim.Native.Nat.{ℕ, suc, ◌+◌, ◌-◌, ◌≤◌, ◌<◌, max}
use native.Mathlib.Omega.{arith}
use mathlib.Core.Path.{◌≡◌}
use Rattle.layout.specs.Positions.{onward}
use Rattle.handling.specs.Measuring.{measured, parts_levels, entries_levels}
use Rattle.handling.specs.declared.measure.Measured.{Measured}

pub parts_levels_turn :
    (sub : ℕ → Measured) (n i deepest a : ℕ) →
    i < n →
    parts_levels sub (n - i) deepest a ≡ parts_levels sub (n - (i + 1)) (max deepest (sub a).levels) (sub a).end
unfolding parts_levels
parts_levels_turn sub n i deepest a h = let e : n - i ≡ suc (n - (i + 1)) = omega arith in rw e

pub parts_levels_end : (sub : ℕ → Measured) (n i deepest a : ℕ) → n ≤ i → parts_levels sub (n - i) deepest a ≡ measured a (onward deepest 1)
unfolding parts_levels
parts_levels_end sub n i deepest a h = let e : n - i ≡ 0 = omega arith in rw e

pub entries_levels_turn :
    (sub : ℕ → Measured) (n i deepest a : ℕ) →
    i < n →
    entries_levels sub (n - i) deepest a ≡ entries_levels sub (n - (i + 1)) (max deepest (sub (onward a 1)).levels) (sub (onward a 1)).end
unfolding entries_levels
entries_levels_turn sub n i deepest a h = let e : n - i ≡ suc (n - (i + 1)) = omega arith in rw e

pub entries_levels_end : (sub : ℕ → Measured) (n i deepest a : ℕ) → n ≤ i → entries_levels sub (n - i) deepest a ≡ measured a (onward deepest 1)
unfolding entries_levels
entries_levels_end sub n i deepest a h = let e : n - i ≡ 0 = omega arith in rw e
