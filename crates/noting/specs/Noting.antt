-- The notes that reading leaves, as the code goes: `end` tells where a process in a context ends, `sub` notes one level down. The notes of
-- the word at i stand at i * 2, for the process that begins there, and behind it, for the list. The proofs show that each is where the
-- layout ends; no contract of a call names it.
use Rattle.std.specs.Prelude.{ℕ, zero, suc, ◌+◌, ◌-◌, ◌*◌, ◌%◌, ◌&&◌, ◌||◌, Bool, true, cond, List, leb, ltb, eqb, length, set}
use Rattle.std.specs.Int.Bits.{bit_and}
use Rattle.sock.specs.Kind
use Rattle.sock.specs.Words.{kind_of}
use Rattle.sock.specs.Configuration.{Limits}
use Rattle.layout.specs.Contexts.{code, running, not_nil, root}
use Rattle.reading.specs.Survey.{opens}
use Rattle.reading.specs.Tables.{head_mask}
use Rattle.noting.specs.declared.survey.Named.{Named}
use Rattle.noting.specs.declared.survey.Named.TheVariants as named_as
use Rattle.reading.specs.Walk.{at, process_end, marked_end, executor_own}

-- the first or the second of a word's notes
abbrev pub noted_w : ℕ → List ℕ → ℕ → ℕ → List ℕ
noted_w which m i e = set m (i * 2 + which) (e % 65536)

unfoldable pub note_w : List ℕ → ℕ → ℕ → List ℕ
note_w m i e = noted_w 0 m i e

unfoldable pub note_list_w : List ℕ → ℕ → ℕ → List ℕ
note_list_w m i e = noted_w 1 m i e

-- noting in a context, at a position, into notes
abbrev pub Noting : Type 0
Noting = ℕ → ℕ → List ℕ → List ℕ

-- the context of a part that runs and is not nil
abbrev pub enabled : ℕ
enabled = running + not_nil

-- the first of a seq is enabled, and where the second ends is noted too
unfoldable pub seq_notes : (ℕ → ℕ → ℕ) → Noting → ℕ → List ℕ → List ℕ
seq_notes end sub i m = cond (eqb (end enabled i) 0) (sub enabled i m) (note_w (sub enabled i m) (end enabled i) (end code (end enabled i)))

unfoldable pub par_notes : (ℕ → ℕ → ℕ) → Noting → ℕ → List ℕ → List ℕ
par_notes end sub i m = cond (eqb (end enabled i) 0) (sub enabled i m) (sub enabled (end enabled i) (sub enabled i m))

-- the list of a scope ends at e
unfoldable pub body_notes : Noting → ℕ → ℕ → List ℕ → List ℕ
body_notes sub i e m = cond (eqb e 0) m (sub running e (note_list_w m (i + 2) e))

unfoldable pub scope_notes : (ℕ → ℕ → ℕ) → Noting → List ℕ → ℕ → ℕ → List ℕ → List ℕ
scope_notes end sub ws h i m = cond (leb 3 (length ws - i)) (body_notes sub i (marked_end end ws h (at ws (i + 1)) (i + 2)) m) m

unfoldable pub executor_notes : Noting → List ℕ → ℕ → ℕ → List ℕ → List ℕ
executor_notes sub ws bound i m = cond (eqb (executor_own ws bound i) 0) m (sub running (executor_own ws bound i) m)

-- by kind
unfoldable pub node_notes : (ℕ → ℕ → ℕ) → Noting → List ℕ → ℕ → ℕ → ℕ → List ℕ → List ℕ
node_notes end sub ws bound h i m =
    cond (eqb (kind_of h) Kind.seq) (seq_notes end sub (i + 1) m)
    (cond (eqb (kind_of h) Kind.par) (par_notes end sub (i + 1) m)
    (cond (eqb (kind_of h) Kind.scope) (scope_notes end sub ws h i m)
    (cond (eqb (kind_of h) Kind.executor) (executor_notes sub ws bound i m) m)))

-- what `inner` notes, and where the process itself ends
unfoldable pub noting : Noting → (ℕ → ℕ → ℕ) → Noting
noting inner end c i m = note_w (inner c i m) i (end c i)

-- what is noted inside a process
unfoldable pub enabled_notes : ℕ → List ℕ → ℕ → Noting
enabled_notes zero ws bound c i m = m
enabled_notes (suc d) ws bound c i m =
    cond (ltb i (length ws) && eqb (bit_and (at ws i + 65536) (head_mask c (kind_of (at ws i)))) 0)
    (node_notes (process_end d ws bound) (noting (enabled_notes d ws bound) (process_end d ws bound)) ws bound (at ws i) i m)
    m

-- and of the process itself
abbrev pub notes_w : ℕ → List ℕ → ℕ → Noting
notes_w d ws bound = noting (enabled_notes d ws bound) (process_end d ws bound)

-- ---- of a configuration

-- whether an engine is one of those named
abbrev pub noted_in : Named → ℕ → Bool
noted_in named_as.All e = true
noted_in (named_as.Two a b) e = eqb e a || eqb e b

-- of one engine, whose process begins at i
unfoldable pub engine_notes : ℕ → List ℕ → ℕ → Bool → ℕ → List ℕ → List ℕ
engine_notes deepest ws bound noted i m = cond noted (notes_w deepest ws bound root i m) m

-- `left` engines, from engine e on, whose values begin at i
unfoldable pub engines_notes : ℕ → List ℕ → ℕ → Named → ℕ → ℕ → ℕ → List ℕ → List ℕ
engines_notes deepest ws bound named zero e i m = m
engines_notes deepest ws bound named (suc left) e i m =
    cond (ltb (length ws - i) 64) m
    (cond (eqb (process_end deepest ws bound root (i + 64)) 0) (engine_notes deepest ws bound (noted_in named e) (i + 64) m)
    (engines_notes deepest ws bound named left (e + 1) (process_end deepest ws bound root (i + 64)) (engine_notes deepest ws bound (noted_in named e) (i + 64) m)))

unfoldable pub survey_notes : Limits → Named → List ℕ → List ℕ → List ℕ
survey_notes limits named ws m = cond (opens limits ws) (engines_notes limits.deepest ws (at ws 0 * 65536 + at ws 1) named (at ws 0) 0 2 m) m
