-- Finding on positions, as the code goes. The proofs show that this is the definitions' `locate`, with what `plug` then makes of the words;
-- no contract of a call names it.
use Rattle.std.specs.Prelude.{ℕ, zero, suc, ◌+◌, Bool, true, false, not, ◌||◌, cond, List, ltb, leb, eqb, length, get_or}
use Rattle.sock.specs.Kind
use Rattle.sock.specs.Words.{kind_of, name_of, zombie_of}
use Rattle.layout.specs.Keys
use Rattle.layout.specs.Own.{own_end}
use Rattle.skipping.specs.Skip.{skip_list}
use Rattle.skipping.specs.Pass.{note_at, pass_end, pass_list}
use Rattle.finding.specs.declared.find.Site.{Site}
use Rattle.finding.specs.declared.find.Found.{Found}
use Rattle.finding.specs.declared.find.Found.TheVariants.{Hit, Past}

-- a spot where a nil stands or goes: at the process itself, and as it goes on outwards
unfoldable pub here_w : ℕ → List ℕ → List ℕ → ℕ → ℕ → Found
here_w d ws notes level i =
    Hit
    (record {
      at = i;
      level = level;
      from = i;
      upto = pass_end d ws notes i;
      gap = pass_end d ws notes i;
      end = pass_end d ws notes i;
      hollow = true;
      closed = false;
      scope = 0;
      scope_level = 0;
      catcher = 0;
    })

abbrev pub cut : Site → ℕ → ℕ → ℕ → ℕ → Bool → Site
cut s a b c d hollow =
    record { at = s.at; level = s.level; from = a; upto = b; gap = c; end = d; hollow = hollow; closed = not hollow; scope = s.scope; scope_level = s.scope_level; catcher = s.catcher }

-- the first of a seq
unfoldable pub seq_spot : List ℕ → ℕ → Site → Found
seq_spot ws i s =
    cond (ltb s.end (length ws))
    (cond (eqb (get_or ws s.end 0) 0)
    (Hit (cut s i (s.end + 1) (s.end + 1) (s.end + 1) true))
    (Hit (cut s i s.end s.end s.end false)))
    (Past 0)

unfoldable pub in_seq_w : ℕ → List ℕ → List ℕ → ℕ → Found → Found
in_seq_w d ws notes i (Past e) = Past (pass_end d ws notes e)
in_seq_w d ws notes i (Hit s) = cond s.closed (Hit s) (seq_spot ws i s)

-- a side of a par
unfoldable pub left_w : ℕ → Site → Found
left_w i s = cond s.closed (Hit s) (Hit (cut s i s.end s.end s.end false))

unfoldable pub beside_w : ℕ → ℕ → Found → Found
beside_w i e (Past g) = Past g
beside_w i e (Hit s) = cond s.closed (Hit s) (Hit (cut s i (i + 1) e s.end false))

unfoldable pub par_sides : (ℕ → Found) → ℕ → Found → Found
par_sides sub i (Hit s) = left_w i s
par_sides sub i (Past e) = beside_w i e (sub e)

unfoldable pub in_par_w : (ℕ → Found) → ℕ → Found
in_par_w sub i = par_sides sub i (sub (i + 1))

-- a body
abbrev pub shut_in : Site → ℕ → ℕ → ℕ → Site
shut_in s scope level catcher =
    record { at = s.at; level = s.level; from = s.from; upto = s.upto; gap = s.gap; end = s.end; hollow = s.hollow; closed = true; scope = scope; scope_level = level; catcher = catcher }

unfoldable pub in_body_w : Found → Found
in_body_w (Past e) = Past e
in_body_w (Hit s) = Hit (shut_in s s.scope s.scope_level s.catcher)

unfoldable pub scope_of : ℕ → ℕ → ℕ
scope_of i scope = cond (eqb scope 0) i scope

unfoldable pub level_of : ℕ → ℕ → ℕ → ℕ
level_of level scope inner = cond (eqb scope 0) level inner

-- the fault that the process at `target` throws, as a key; none if it is no throw
unfoldable pub fault_at : List ℕ → ℕ → ℕ
fault_at ws target = cond (eqb (kind_of (get_or ws target 0)) Kind.throw) (name_of (get_or ws target 0)) Keys.no_key

unfoldable pub catches_w : ℕ → List ℕ → ℕ → ℕ → Bool
catches_w d ws i fault = eqb (zombie_of (get_or ws i 0)) 1 || not (eqb (skip_list d ws fault (i + 2)) 0)

unfoldable pub catcher_of : ℕ → List ℕ → ℕ → ℕ → ℕ → ℕ
catcher_of d ws target i catcher =
    cond (leb Keys.scope_keys (fault_at ws target)) 0
    (cond (eqb catcher 0) (cond (catches_w d ws i (fault_at ws target)) i 0) catcher)

unfoldable pub in_scope_w : ℕ → List ℕ → ℕ → ℕ → ℕ → Found → Found
in_scope_w d ws target level i (Past e) = Past e
in_scope_w d ws target level i (Hit s) =
    Hit (shut_in s (scope_of i s.scope) (level_of level s.scope s.scope_level) (catcher_of d ws target i s.catcher))

-- by kind; `sub` finds one level down, in what begins at a position
unfoldable pub node_w : (ℕ → Found) → ℕ → List ℕ → List ℕ → ℕ → ℕ → ℕ → ℕ → Found
node_w sub d ws notes target level k i =
    cond (eqb k Kind.seq) (in_seq_w d ws notes i (sub (i + 1)))
    (cond (eqb k Kind.par) (in_par_w sub i)
    (cond (eqb k Kind.scope) (in_scope_w d ws target level i (sub (pass_list d ws notes (i + 2))))
    (cond (eqb k Kind.executor) (in_body_w (sub (own_end ws i)))
    (Past (pass_end (suc d) ws notes i)))))

-- whether `target` is outside i..e; no, if e is 0: the end is not known
unfoldable pub outside_w : ℕ → ℕ → ℕ → Bool
outside_w i target e = cond (eqb e 0) false (cond (ltb target i) true (leb e target))

unfoldable pub find_w : ℕ → List ℕ → List ℕ → ℕ → ℕ → ℕ → Found
find_w zero ws notes target level i = Past 0
find_w (suc d) ws notes target level i =
    cond (ltb i (length ws))
    (cond (eqb i target)
    (here_w (suc d) ws notes level i)
    (cond (outside_w i target (note_at notes i))
    (Past (note_at notes i))
    (node_w (find_w d ws notes target (level + 1)) d ws notes target level (kind_of (get_or ws i 0)) i)))
    (Past 0)

-- levels are counted so far
abbrev pub at_most : ℕ → ℕ
at_most levels = cond (ltb levels 32768) levels 32767
