-- How deep expressions and code are, on words, as the code goes.
use Rattle.std.specs.Prelude.{ℕ, zero, suc, ◌+◌, ◌*◌, max, cond, List, [], ◌∷◌, leb, eqb, length, get_or}
use Rattle.sock.specs.Words.{kind_of, count_of, tag_of}
use Rattle.layout.specs.Own.{own_end}
use Rattle.layout.specs.Positions.{onward}
use Rattle.layout.specs.Tags
use Rattle.handling.specs.declared.measure.Measured.{Measured}

abbrev pub measured : ℕ → ℕ → Measured
measured end levels = record { end = end; levels = levels }

abbrev at : List ℕ → ℕ → ℕ
at ws i = get_or ws i 0

unfoldable pub operand_levels : (ℕ → Measured) → ℕ → Measured
operand_levels sub i = measured (sub (sub i).end).end (onward (max (sub i).levels (sub (sub i).end).levels) 1)

unfoldable pub expression_levels : ℕ → List ℕ → ℕ → Measured
expression_levels zero ws i = measured 0 0
expression_levels (suc d) ws i =
    cond (leb (length ws) i) (measured 0 0)
    (cond (eqb (tag_of (at ws i)) Tags.constant) (measured (onward i 3) 1)
    (cond (eqb (tag_of (at ws i)) Tags.variable) (measured (i + 1) 1) (operand_levels (expression_levels d ws) (i + 1))))

unfoldable pub parts_levels : (ℕ → Measured) → ℕ → ℕ → ℕ → Measured
parts_levels sub zero deepest i = measured i (onward deepest 1)
parts_levels sub (suc n) deepest i = parts_levels sub n (max deepest (sub i).levels) (sub i).end

unfoldable pub expressed_levels : (ℕ → Measured) → (ℕ → Measured) → ℕ → ℕ → Measured
expressed_levels ex sub count i = parts_levels sub count (ex i).levels (ex i).end

unfoldable pub entries_levels : (ℕ → Measured) → ℕ → ℕ → ℕ → Measured
entries_levels sub zero deepest i = measured i (onward deepest 1)
entries_levels sub (suc n) deepest i = entries_levels sub n (max deepest (sub (onward i 1)).levels) (sub (onward i 1)).end

unfoldable pub list_levels : (ℕ → Measured) → List ℕ → ℕ → Measured
list_levels sub ws i = cond (leb (length ws) i) (measured 0 0) (entries_levels sub (at ws i) 0 (i + 1))

unfoldable pub node_levels : (ℕ → Measured) → (ℕ → Measured) → List ℕ → ℕ → ℕ → Measured
node_levels ex sub ws h i =
    get_or
    (measured (own_end ws i) 1
    ∷ expressed_levels ex sub 0 (i + 1)
    ∷ parts_levels sub 2 0 (i + 1)
    ∷ parts_levels sub 2 0 (i + 1)
    ∷ expressed_levels ex sub 2 (i + 1)
    ∷ expressed_levels ex sub 1 (i + 1)
    ∷ parts_levels sub (count_of h * 2) 0 (i + 1)
    ∷ measured (own_end ws i) 1
    ∷ parts_levels sub 1 0 (own_end ws i)
    ∷ measured (own_end ws i) 1
    ∷ list_levels sub ws (own_end ws i)
    ∷ parts_levels sub 1 0 (onward i 3)
    ∷ list_levels sub ws (i + 1)
    ∷ [])
    (kind_of h) (measured (own_end ws i) 1)

unfoldable pub code_levels : ℕ → List ℕ → ℕ → Measured
code_levels zero ws i = measured 0 0
code_levels (suc d) ws i = cond (leb (length ws) i) (measured 0 0) (node_levels (expression_levels d ws) (code_levels d ws) ws (at ws i) i)
