-- Where a process's own words end, on words: its head, its fixed words and its lists of variables, by the fixed table of kinds. 0 behind
-- the words.
use Rattle.std.specs.Prelude.{ℕ, ◌+◌, ◌*◌, cond, List, leb, eqb, length, get_or}
use Rattle.sock.specs.Words.{kind_of}
use Rattle.sock.specs.Counts.{counts_of}

-- a list of variables has as many words as its count says
unfoldable pub variables_end : List ℕ → ℕ → ℕ
variables_end ws i = cond (leb (length ws) i) 0 (i + get_or ws i 0)

-- none, one or two lists
unfoldable pub lists_end : List ℕ → ℕ → ℕ → ℕ
lists_end ws i n = cond (eqb n 0) i (cond (eqb n 1) (variables_end ws i) (variables_end ws (variables_end ws i)))

-- the table's fixed words, times 4, and lists of variables in one number
unfoldable pub own_form : ℕ → ℕ
own_form k = (counts_of k).fixed * 4 + (counts_of k).variables

unfoldable pub own_end : List ℕ → ℕ → ℕ
own_end ws i =
    cond (leb (length ws) i) 0
    (lists_end ws (i + 1 + (counts_of (kind_of (get_or ws i 0))).fixed) (counts_of (kind_of (get_or ws i 0))).variables)
