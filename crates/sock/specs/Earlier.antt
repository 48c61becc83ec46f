-- The earlier format, document 01's: where a list of variables stands today there was one variable, in the head or a fixed word, and no words
-- of its own. Trees and rules are the same, so an earlier configuration is a tree whose lists have one variable each, in another layout: how
-- that is read, laid out and stepped; and how its words and positions are rewritten (change c).
use Rattle.std.specs.Prelude.{ℕ, zero, suc, ◌+◌, ◌-◌, ◌≤◌, ◌≡◌, Bool, not, ◌&&◌, ◌||◌, cond, List, [], ◌∷◌, ◌++◌, T, leb, ltb, eqb, length}
use Rattle.std.proofs.Math.Option.{Option, none, some}
use Rattle.sock.specs.Kind
use Rattle.sock.specs.Kind.{Own, word, variables, row_of}
use Rattle.sock.specs.Words.{is_word, clear, kind_of, key_word}
use Rattle.sock.specs.Variables.{variable_words}
use Rattle.sock.specs.Term.{Node, node, Block, absent, list, Entries, no_entries, entry, Nodes, no_parts, ◌&◌}
use Rattle.sock.specs.Layout.{exprs_words, count, entries_words}
use Rattle.sock.specs.Reading.{Got, fail, got, and_then, check, Stratum, running, Place, anywhere, root, head_fits, node_fits, entry_stratum, expr, exprs, block, parts_of, parts, part_by}
use Rattle.sock.specs.Running.{Run, nil, seq, par, scope, executor, waiter, notice, act, as_node, size, awake}
use Rattle.sock.specs.Configuration.{Limits, Engine, Config, values_words, encode, engines_depth, read_values, whole, guarded}
use Rattle.sock.specs.Frames.{Frame, seq_frame, left_frame, right_frame, scope_frame, executor_frame, Located, here_or, past}
use Rattle.sock.specs.Rules.{also, Move, stuck, alone, unvalued, sends, move_of}
use Rattle.sock.specs.Calls.{Refusal, number, unreadable, nobody_there, no_move, no_partner, no_fit, not_decimal, installing, serials_spent, deep, long, short, Result, refused, done, ◌>>=◌, ◌>>◌, ◌!◌, ◌unless◌, Numbers, Spot, engine_at, movable, effect, Stepped, carried_out, step, step_answer, step_output, over}

-- ---- reading

-- A process's own words: a list of variables takes none, and is read as the count 1
unfoldable pub earlier_own : List Own → List ℕ → Got (List ℕ)
earlier_own [] ws = got [] ws
earlier_own (word m ∷ os) [] = fail
earlier_own (word m ∷ os) (w ∷ ws) = check (is_word w && clear m w) (and_then (earlier_own os ws) λ f rest. got (w ∷ f) rest)
earlier_own (variables ∷ os) ws = and_then (earlier_own os ws) λ f rest. got (1 ∷ f) rest

-- as `Reading.process`
unfoldable pub earlier_process : ℕ → Stratum → Place → List ℕ → Got Node
earlier_process zero s p ws = fail
earlier_process (suc d) s p [] = fail
earlier_process (suc d) s p (h ∷ ws) =
    check (head_fits s p h)
    (and_then (earlier_own (row_of (kind_of h)).fixed ws) λ f w1.
    and_then (exprs (expr d) (row_of (kind_of h)).expressions w1) λ es w2.
    and_then (block (earlier_process d (entry_stratum (eqb (kind_of h) Kind.scope)) anywhere) (eqb (kind_of h) Kind.scope) (row_of (kind_of h)).lists w2) λ b w3.
    and_then (parts (part_by (earlier_process d) s) (parts_of h) w3) λ ps rest.
    check (node_fits s h f b) (got (node h f es b ps) rest))

-- as `Configuration.read_config`
unfoldable pub earlier_engine : ℕ → Stratum → List ℕ → Got Engine
earlier_engine d s ws =
    and_then (read_values 32 ws) λ vs next.
    and_then (earlier_process d s root next) λ p rest.
    got (record { values = vs; process = awake p }) rest

unfoldable pub earlier_engines : ℕ → Stratum → ℕ → List ℕ → Got (List Engine)
earlier_engines d s zero ws = got [] ws
earlier_engines d s (suc k) ws = and_then (earlier_engine d s ws) λ e next. and_then (earlier_engines d s k next) λ es rest. got (e ∷ es) rest

unfoldable pub earlier_config : Limits → List ℕ → Option Config
earlier_config limits [] = none
earlier_config limits (n ∷ []) = none
earlier_config limits (n ∷ issued ∷ ws) =
    guarded (ltb 0 n && leb n 8 && is_word issued && leb (suc (suc (length ws))) limits.longest)
    (whole issued (earlier_engines limits.deepest (running n issued) n ws))

-- ---- layout

-- a process's own words without their counts
unfoldable pub uncounted : List Own → List ℕ → List ℕ
uncounted [] f = []
uncounted (word m ∷ os) [] = []
uncounted (word m ∷ os) (w ∷ f) = w ∷ uncounted os f
uncounted (variables ∷ os) [] = []
uncounted (variables ∷ os) (c ∷ f) = uncounted os f

-- as `Layout.words`
unfoldable mutual
  pub earlier_words : Node → List ℕ
  earlier_words (node h f es b ps) = h ∷ uncounted (row_of (kind_of h)).fixed f ++ (exprs_words es ++ (earlier_block b ++ earlier_nodes ps))

  pub earlier_block : Block → List ℕ
  earlier_block absent = []
  earlier_block (list l) = count l ∷ earlier_entries l

  pub earlier_entries : Entries → List ℕ
  earlier_entries no_entries = []
  earlier_entries (entry k p es) = key_word k ∷ earlier_words p ++ earlier_entries es

  pub earlier_nodes : Nodes → List ℕ
  earlier_nodes no_parts = []
  earlier_nodes (p & ps) = earlier_words p ++ earlier_nodes ps

unfoldable pub earlier_size : Run → ℕ
earlier_size r = length (earlier_words (as_node r))

unfoldable pub earlier_engines_words : List Engine → List ℕ
earlier_engines_words [] = []
earlier_engines_words (e ∷ es) = (values_words e.values ++ earlier_words (as_node e.process)) ++ earlier_engines_words es

unfoldable pub earlier_encode : Config → List ℕ
earlier_encode c = length c.engines ∷ c.issued ∷ earlier_engines_words c.engines

-- ---- the step

-- as `Frames.locate`
unfoldable pub earlier_locate : Run → ℕ → List Frame → Option Located
earlier_locate nil p fs = here_or p (record { frames = fs; process = nil }) none
earlier_locate (seq a q) p fs = here_or p (record { frames = fs; process = seq a q }) (past 1 p λ i. earlier_locate a i (seq_frame q ∷ fs))
earlier_locate (par a b) p fs =
    here_or p (record { frames = fs; process = par a b })
    (past 1 p λ i.
    cond (ltb i (earlier_size a)) (earlier_locate a i (left_frame b ∷ fs)) (earlier_locate b (i - earlier_size a) (right_frame a ∷ fs)))
earlier_locate (scope name mark zombie h a) p fs =
    here_or p (record { frames = fs; process = scope name mark zombie h a })
    (past (3 + length (earlier_entries h)) p λ i. earlier_locate a i (scope_frame name mark zombie h ∷ fs))
earlier_locate (executor o y client serial a) p fs =
    here_or p (record { frames = fs; process = executor o y client serial a }) (past 3 p λ i. earlier_locate a i (executor_frame o y client serial ∷ fs))
earlier_locate (waiter o x dead server serial l) p fs = here_or p (record { frames = fs; process = waiter o x dead server serial l }) none
earlier_locate (notice o f client serial) p fs = here_or p (record { frames = fs; process = notice o f client serial }) none
earlier_locate (act a) p fs = here_or p (record { frames = fs; process = act a }) none

-- as `Calls.enabled_at`, `partner` and `step`
unfoldable pub earlier_at : Config → ℕ → ℕ → Option Spot
earlier_at c e p =
    guarded (ltb e (length c.engines))
    (also (earlier_locate (engine_at c e).process p []) λ l.
    some (record { engine = e; values = (engine_at c e).values; frames = l.frames; process = l.process }))

unfoldable pub earlier_partner : Config → Numbers → Spot → Move → Option Spot
earlier_partner c k a stuck = none
earlier_partner c k a (alone vs p) = some a
earlier_partner c k a unvalued = some a
earlier_partner c k a (sends m) = earlier_at c k.second k.second_position

unfoldable pub earlier_step : Limits → List ℕ → Numbers → ℕ → Result Stepped
earlier_step limits ws k room = do
  c ← unreadable ! earlier_config limits ws
  a ← nobody_there ! earlier_at c k.engine k.position
  m ← no_move ! movable k (move_of a.values a.frames a.process)
  b ← no_partner ! earlier_partner c k a m
  o ← no_fit ! effect c k a b m
  x ← not_decimal ! o
  s ← installing ! carried_out c a b x
  serials_spent unless leb s.config.issued 65535
  deep unless leb (engines_depth s.config.engines) limits.deepest
  long unless leb (length (earlier_encode s.config)) limits.longest
  short unless leb (length (earlier_encode s.config)) room
  done s

-- ---- rewriting

-- The words of an earlier configuration, rewritten with count 1: the same tree in today's layout
unfoldable pub relaid : Option Config → List ℕ
relaid none = []
relaid (some c) = encode c

unfoldable pub rewritten : Limits → List ℕ → List ℕ
rewritten limits ws = relaid (earlier_config limits ws)

-- A position moved along, behind a process's own words, which were `own` and are `own'`. A position inside them, where no process begins, goes
-- to another such.
unfoldable pub beyond_own : ℕ → ℕ → ℕ → (ℕ → ℕ) → ℕ
beyond_own own own' zero inner = 0
beyond_own own own' (suc p) inner = cond (ltb (suc p) own) 1 (own' + inner (suc p - own))

unfoldable pub moved : Run → ℕ → ℕ
moved nil p = p
moved (seq a q) p = beyond_own 1 1 p λ i. moved a i
moved (par a b) p = beyond_own 1 1 p λ i. cond (ltb i (earlier_size a)) (moved a i) (size a + moved b (i - earlier_size a))
moved (scope name mark zombie h a) p = beyond_own (3 + length (earlier_entries h)) (3 + length (entries_words h)) p λ i. moved a i
moved (executor o y client serial a) p = beyond_own 3 (3 + length (variable_words y)) p λ i. moved a i
moved (waiter o x dead server serial l) p = p
moved (notice o f client serial) p = p
moved (act a) p = p

-- the numbers of a step, both positions moved along
unfoldable pub moved_numbers : Config → Numbers → Numbers
moved_numbers c k =
    record {
      engine = k.engine;
      position = moved (engine_at c k.engine).process k.position;
      second = k.second;
      second_position = moved (engine_at c k.second).process k.second_position;
      branch = k.branch;
    }

-- ---- what is claimed of it

-- The step on rewritten words, with its positions moved along: it is accepted, answers the same kind, serial and fault, and gives the rewriting of
-- the earlier result
pub record Follows (limits : Limits) (ws : List ℕ) (c : Config) (k : Numbers) (s : Stepped) (out : List ℕ) : Type 0 where
  pub answers :
      step_answer limits (rewritten limits ws) (moved_numbers c k) out ≡
      record { number = 0; kind = s.kind; serial = s.serial; fault = s.fault; length = length (rewritten limits (earlier_encode s.config)) }
  pub writes : step_output limits (rewritten limits ws) (moved_numbers c k) out ≡ over (rewritten limits (earlier_encode s.config)) out

-- wherever the earlier step is accepted and gives s, if the rewritten input and the rewritten result are within the limits and the result in
-- the output lent
abbrev pub RewritingFollows : Type 0
RewritingFollows =
    (limits : Limits) (ws : List ℕ) (k : Numbers) (room : ℕ) (out : List ℕ) (c : Config) (s : Stepped) →
    earlier_config limits ws ≡ some c →
    earlier_step limits ws k room ≡ done s →
    length (rewritten limits ws) ≤ limits.longest →
    length (rewritten limits (earlier_encode s.config)) ≤ limits.longest →
    length (rewritten limits (earlier_encode s.config)) ≤ length out →
    Follows limits ws c k s out

-- and its refusals but 1, 9 and 10 are the same: words that are not readable have no rewriting, and lengths are another layout's
abbrev pub of_length : Refusal → Bool
of_length r = eqb (number r) 1 || eqb (number r) 9 || eqb (number r) 10

abbrev pub RewritingRefuses : Type 0
RewritingRefuses =
    (limits : Limits) (ws : List ℕ) (k : Numbers) (room room' : ℕ) (c : Config) (r : Refusal) →
    earlier_config limits ws ≡ some c →
    earlier_step limits ws k room ≡ refused r →
    T (not (of_length r)) →
    length (rewritten limits ws) ≤ limits.longest →
    step limits (rewritten limits ws) (moved_numbers c k) room' ≡ refused r
