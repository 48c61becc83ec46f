-- The journal as the code lays it out: the four counts, each as a word, then the words between.
use Rattle.std.specs.Prelude.{ℕ, ◌-◌, ◌%◌, List, length, set}
use Rattle.writers.specs.Writing.{pasted, pasted_end}

unfoldable pub counts : List ℕ → List ℕ → ℕ → ℕ → List ℕ → List ℕ
counts old new first last journal =
    set (set (set (set journal 0 (length old % 65536)) 1 (length new % 65536)) 2 (first % 65536)) 3 (last % 65536)

unfoldable pub old_end : List ℕ → ℕ → ℕ → ℕ
old_end old first last = pasted_end old first (length old - last) 4

unfoldable pub lay_w : List ℕ → List ℕ → ℕ → ℕ → List ℕ → List ℕ
lay_w old new first last journal =
    pasted new first (length new - last) (pasted old first (length old - last) (counts old new first last journal) 4) (old_end old first last)

unfoldable pub lay_end : List ℕ → List ℕ → ℕ → ℕ → ℕ
lay_end old new first last = pasted_end new first (length new - last) (old_end old first last)
