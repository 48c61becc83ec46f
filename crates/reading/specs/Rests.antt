-- What the reader has read of a node up to its last process, in the terms of the walk. No contract of a call names it.
use Rattle.std.specs.Prelude.{ℕ, ◌≡◌, List, Option, Some, None, get_or}
use Rattle.reading.specs.declared.reader.Rest.{Rest}
use Rattle.reading.specs.declared.reader.Rest.TheVariants as rests
use Rattle.reading.specs.Sets.{context_in}
use Rattle.reading.specs.Walk.{expr_end, process_end, headed_end}

-- where what is left ends; 0 if what was read does not fit
unfoldable pub rest_end : (ℕ → ℕ → ℕ) → Option Rest → ℕ
rest_end sub None = 0
rest_end sub (Some (rests.Nothing e)) = e
rest_end sub (Some (rests.Process a c)) = sub (context_in c.kinds) a

abbrev pub Stands : Option Rest → Type 0
Stands None = Unit {0}
Stands (Some (rests.Nothing e)) = e ≡ 0 → ⊥
Stands (Some (rests.Process a c)) = Unit {0}

-- there the node ends whose head was tested
pub record RestOf (ws : List ℕ) (bound depth c i : ℕ) (r : Option Rest) : Type 0 where
  pub ends : headed_end (expr_end depth ws) (process_end depth ws bound) ws c bound (get_or ws i 0) i ≡ rest_end (process_end depth ws bound) r
  pub stands : Stands r
