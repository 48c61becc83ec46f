-- The skip on positions, as the code goes: where what begins at a position ends, for words that the reader has accepted. The proofs show that
-- it ends where the layout does; no contract of a call names it.
use Rattle.std.specs.Prelude.{ℕ, zero, suc, ◌+◌, ◌*◌, ◌/◌, ◌%◌, Bool, ◌||◌, cond, List, leb, ltb, eqb, length, get_or}
use Rattle.sock.specs.Kind
use Rattle.sock.specs.Kind.{row_of}
use Rattle.sock.specs.Counts.{word_count, list_count}
use Rattle.sock.specs.Words.{kind_of, count_of, key_of, tag_of}
use Rattle.layout.specs.Keys.{no_key}
use Rattle.layout.specs.Own.{lists_end}

-- what a process is made of, packed from the fixed table: its own words before its lists of variables; 8 if an expression follows, 16 if a list;
-- 32 times its lists of variables; 128 times its parts, but for a choice 512 times, for each branch that its head counts
unfoldable pub form_of : ℕ → ℕ
form_of kind =
    suc (word_count (row_of kind).fixed) + 8 * (row_of kind).expressions + 16 * (row_of kind).lists + 32 * list_count (row_of kind).fixed
    + cond (eqb kind Kind.choice) 512 128 * (row_of kind).processes

-- an expression by the first three bits of its word: its own words, and 4 times its operands
unfoldable pub expr_form : ℕ → ℕ
expr_form tag = cond (eqb tag 0) 3 (cond (eqb tag 1) 1 9)

-- `left` expressions from i on
unfoldable pub expr_loop : ℕ → List ℕ → ℕ → ℕ → ℕ
expr_loop zero ws zero i = i
expr_loop zero ws (suc left) i = 0
expr_loop (suc turns) ws zero i = i
expr_loop (suc turns) ws (suc left) i =
    cond (ltb i (length ws)) (expr_loop turns ws (left + expr_form (tag_of (get_or ws i 0)) / 4) (i + expr_form (tag_of (get_or ws i 0)) % 4)) 0

unfoldable pub expr_skip : List ℕ → ℕ → ℕ
expr_skip ws i = expr_loop (length ws) ws 1 i

-- entries, each a key and a process; `met` tells whether the key wanted has stood among those before
unfoldable pub entries_skip : (ℕ → ℕ) → List ℕ → ℕ → ℕ → Bool → ℕ → ℕ
entries_skip sub ws wanted zero met i = cond met i 0
entries_skip sub ws wanted (suc left) met i =
    cond (ltb i (length ws)) (entries_skip sub ws wanted left (met || eqb (key_of (get_or ws i 0)) wanted) (sub (i + 1))) 0

-- a list, with a skip for its processes
unfoldable pub list_by : (ℕ → ℕ) → List ℕ → ℕ → ℕ → ℕ
list_by sub ws wanted i = cond (ltb i (length ws)) (entries_skip sub ws wanted (get_or ws i 0) (leb no_key wanted) (i + 1)) 0

-- behind the expression (1) or the list (2) that follows a process's own words
unfoldable pub after_by : (ℕ → ℕ) → List ℕ → ℕ → ℕ → ℕ
after_by sub ws follows i = cond (eqb follows 0) i (cond (eqb follows 1) (expr_skip ws i) (list_by sub ws no_key i))

-- the same, behind as many lists of variables as the fourth part of the number says
unfoldable pub behind_by : (ℕ → ℕ) → List ℕ → ℕ → ℕ → ℕ
behind_by sub ws follows i = after_by sub ws (follows % 4) (lists_end ws i (follows / 4))

-- the parts of a process with head h and form f
unfoldable pub parts_by : ℕ → ℕ → ℕ
parts_by h f = f / 128 % 4 + count_of h * (f / 512)

-- `left` processes from e on; `loop` goes on behind the first one's own words, with what follows them
unfoldable pub turn_by : (ℕ → ℕ → ℕ → ℕ) → List ℕ → ℕ → ℕ → ℕ
turn_by loop ws left e =
    let f = form_of (kind_of (get_or ws e 0)) in
    cond (ltb e (length ws)) (loop (left + parts_by (get_or ws e 0) f) (f / 8 % 16) (e + f % 8)) 0

-- `left` processes, behind what follows the own words of the last one, which end at i
unfoldable pub skip_loop : ℕ → (ℕ → ℕ) → List ℕ → ℕ → ℕ → ℕ → ℕ
skip_loop zero sub ws zero follows i = behind_by sub ws follows i
skip_loop zero sub ws (suc left) follows i = 0
skip_loop (suc turns) sub ws zero follows i = behind_by sub ws follows i
skip_loop (suc turns) sub ws (suc left) follows i = turn_by (skip_loop turns sub ws) ws left (behind_by sub ws follows i)

unfoldable pub skip_end : ℕ → List ℕ → ℕ → ℕ
skip_end zero ws i = 0
skip_end (suc depth) ws i = skip_loop (length ws) (skip_end depth ws) ws 1 0 i

unfoldable pub skip_list : ℕ → List ℕ → ℕ → ℕ → ℕ
skip_list depth ws wanted i = list_by (skip_end depth ws) ws wanted i
