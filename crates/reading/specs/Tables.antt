-- Contexts as numbers, and the test of a head by them, from the fixed table of kinds and the definitions' tests. A stratum is a number (0 code,
-- 1 code that may hold cH, 2 running) and so is a place (0 anywhere, 1 not nil, 2 a branch's guard, 3 a root); a context is 4 times the stratum
-- plus the place.
use Rattle.std.specs.Prelude.{ℕ, zero, suc, ◌-◌, ◌/◌, ◌%◌, Bool, false, true, ◌&&◌, cond, ltb, eqb}
use Rattle.sock.specs.Kind
use Rattle.sock.specs.Kind.{row_of}
use Rattle.sock.specs.Reading.{Stratum, running, code, Place, anywhere, not_nil, guard, root, allowed, placed}
use Rattle.layout.specs.Contexts.{contexts}

abbrev pub stratum_of : ℕ → ℕ → ℕ → Stratum
stratum_of n issued zero = code false
stratum_of n issued (suc zero) = code true
stratum_of n issued (suc (suc s)) = running n issued

abbrev pub place_of : ℕ → Place
place_of zero = anywhere
place_of (suc zero) = not_nil
place_of (suc (suc zero)) = guard
place_of (suc (suc (suc p))) = root

-- a scope that is code has neither mark nor zombie
unfoldable pub spare_of : ℕ → ℕ → ℕ
spare_of s k = cond (eqb k Kind.scope && ltb s 2) 32 (row_of k).spare

-- whether a kind may stand in a context
abbrev pub stands : ℕ → ℕ → Bool
stands c k = allowed (stratum_of 0 0 (c / 4)) k && placed (place_of (c % 4)) k

-- the bits of a head, with 65,536 added, that have to be 0; all of them where the kind may not stand, and in no context
unfoldable pub head_mask : ℕ → ℕ → ℕ
head_mask c k = cond (ltb c contexts && stands c k) (spare_of (c / 4) k - 1) 131071
