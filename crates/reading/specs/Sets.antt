-- A context as the set of the kinds that may stand there, bit k for kind k: of the six that are no root and begin no branch.
use Rattle.std.specs.Prelude.{ℕ, zero, suc, ◌+◌, ◌-◌, ◌/◌, ◌%◌, ◌^◌, Bool, ◌&&◌, cond, eqb}
use Rattle.std.specs.Int.Bits.{bit_and}
use Rattle.sock.specs.Kind
use Rattle.sock.specs.Kind.{row_of}
use Rattle.sock.specs.Words.{kind_of}
use Rattle.reading.specs.Tables.{stands}

abbrev pub set_of : (ℕ → Bool) → ℕ → ℕ
set_of test zero = 0
set_of test (suc k) = set_of test k + cond (test k) (2 ^ k) 0

-- the kinds that may stand in a context
unfoldable pub kinds_in : ℕ → ℕ
kinds_in c = set_of (stands c) 19

-- the context with such kinds: an executor stands only where something runs, cH only in handlers; nil stands anywhere
unfoldable pub context_in : ℕ → ℕ
context_in kinds = cond (eqb (kinds / 2 ^ Kind.executor % 2) 1) 8 (cond (eqb (kinds / 2 ^ Kind.cH % 2) 1) 4 0) + cond (eqb (kinds % 2) 1) 0 1

-- the bits of a head that its kind does not use
unfoldable pub unused : ℕ → ℕ
unused k = (row_of k).spare - 1

-- a head whose kind may stand there, and which has no bit that its kind does not use
unfoldable pub head_stands : ℕ → ℕ → Bool
head_stands kinds h = eqb (kinds / 2 ^ kind_of h % 2) 1 && eqb (bit_and h (unused (kind_of h))) 0
