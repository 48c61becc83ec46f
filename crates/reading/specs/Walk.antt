-- The reader on positions, as the code goes: where what begins at a position ends, or 0 if it does not fit. The proofs show that this is
-- the definitions' reader; no contract of a call names it.
use Rattle.std.specs.Prelude.{ℕ, zero, suc, Option, Some, None, ◌+◌, ◌-◌, ◌*◌, ◌/◌, ◌%◌, Bool, true, false, not, ◌&&◌, ◌||◌, cond, List, [], ◌∷◌, leb, ltb, eqb, length, get_or}
use Rattle.std.specs.Int.Bits.{bit_and}
use Rattle.sock.specs.Kind
use Rattle.sock.specs.Words.{clear, kind_of, count_of, second_of, mark_of, zombie_of, first_variable, next_variable, first_name, key_of, tag_of}
use Rattle.layout.specs.Contexts.{code, handlers, running, not_nil, receiver}
use Rattle.layout.specs.Kinds.{kind_named}
use Rattle.layout.specs.declared.kind.Kind.{Kind}
use Rattle.layout.specs.Keys.{no_key, scope_keys}
use Rattle.layout.specs.Units
use Rattle.reading.specs.Tables.{head_mask}
use Rattle.reading.specs.Sets.{head_stands}

-- where something ends, by the code: none where it does not fit
abbrev pub end_as : ℕ → Option ℕ
end_as e = cond (eqb e 0) None (Some e)

-- a key, by the code
abbrev pub key_as : ℕ → Option ℕ
key_as k = cond (eqb k no_key) None (Some k)

-- on to what follows, unless this failed
unfoldable pub on : ℕ → (ℕ → ℕ) → ℕ
on e k = cond (eqb e 0) 0 (k e)

unfoldable pub when : Bool → ℕ → ℕ
when b e = cond b e 0

abbrev pub at : List ℕ → ℕ → ℕ
at ws i = get_or ws i 0

-- ---- expressions

unfoldable pub constant_end : List ℕ → ℕ → ℕ → ℕ
constant_end ws i w = when (eqb w 0 && ltb 2 (length ws - i)) (i + 3)

-- a constant or a variable
unfoldable pub leaf_end : List ℕ → ℕ → ℕ → ℕ
leaf_end ws i w = cond (ltb w Units.tag) (constant_end ws i w) (when (clear Units.read_variable w) (i + 1))

unfoldable pub operation_end : (ℕ → ℕ) → ℕ → ℕ → ℕ
operation_end sub i w = when (clear Units.tag w) (on (sub (i + 1)) sub)

unfoldable pub expr_at : (ℕ → ℕ) → List ℕ → ℕ → ℕ → ℕ
expr_at sub ws i w =
    get_or
    (constant_end ws i w
    ∷ when (clear Units.read_variable w) (i + 1)
    ∷ operation_end sub i w
    ∷ operation_end sub i w
    ∷ operation_end sub i w
    ∷ operation_end sub i w
    ∷ operation_end sub i w
    ∷ operation_end sub i w
    ∷ [])
    (tag_of w) 0

unfoldable pub expr_end : ℕ → List ℕ → ℕ → ℕ
expr_end zero ws i = 0
expr_end (suc d) ws i = when (ltb i (length ws)) (expr_at (expr_end d ws) ws i (at ws i))

-- ---- processes; `sub` reads a process in a context at a position, one level down

-- the context of a part that runs where its node does, and of one that is code in any case; anywhere
abbrev pub context_of : ℕ → ℕ
context_of c = c / 4 * 4

unfoldable pub rest_of : ℕ → ℕ
rest_of c = cond (ltb c running) (context_of c) code

unfoldable pub two_end : (ℕ → ℕ → ℕ) → ℕ → ℕ → ℕ → ℕ
two_end sub first second i = on (sub first i) (sub second)

unfoldable pub branch_end : (ℕ → ℕ) → (ℕ → ℕ → ℕ) → ℕ → ℕ → ℕ
branch_end ex sub c i = on (ex i) (two_end sub c c)

unfoldable pub repeat_end : (ℕ → ℕ) → (ℕ → ℕ → ℕ) → ℕ → ℕ → ℕ
repeat_end ex sub c i = on (ex i) (sub c)

unfoldable pub branches_end : (ℕ → ℕ → ℕ) → ℕ → ℕ → ℕ → ℕ
branches_end sub c zero i = i
branches_end sub c (suc n) i = on (two_end sub (c + receiver) c i) (branches_end sub c n)

unfoldable pub choice_end : (ℕ → ℕ → ℕ) → ℕ → ℕ → ℕ → ℕ
choice_end sub c n i = when (ltb 0 n && leb n 8) (branches_end sub c n i)

-- a fixed word behind the head at i
unfoldable pub fixed_after : List ℕ → ℕ → ℕ → Bool
fixed_after ws i spare = leb 2 (length ws - i) && clear spare (at ws (i + 1))

-- `n` further variables of a list
unfoldable pub further_end : ℕ → List ℕ → ℕ → ℕ
further_end zero ws i = i
further_end (suc n) ws i = when (ltb i (length ws) && clear Units.first_variable (at ws i)) (further_end n ws (i + 1))

-- a list of 1 to 4 variables, from its count on
unfoldable pub variables_end : List ℕ → ℕ → ℕ
variables_end ws i = when (ltb i (length ws) && (ltb 0 (at ws i) && leb (at ws i) 4)) (further_end (at ws i - 1) ws (i + 1))

-- whether x is one of `n` further variables
unfoldable pub among : ℕ → List ℕ → ℕ → ℕ → Bool
among zero ws x i = false
among (suc n) ws x i = ltb i (length ws) && (eqb x (first_variable (at ws i)) || among n ws x (i + 1))

-- whether a variable and the `n` further ones are all different
unfoldable pub distinct_from : ℕ → List ℕ → ℕ → ℕ → Bool
distinct_from zero ws x i = true
distinct_from (suc n) ws x i =
    not (among (suc n) ws x i) && (not (ltb i (length ws)) || distinct_from n ws (first_variable (at ws i)) (i + 1))

-- a list of variables that receive, with the first one: none of them twice
unfoldable pub receiving_end : List ℕ → ℕ → ℕ → ℕ
receiving_end ws first i = on (variables_end ws i) (when (distinct_from (at ws i - 1) ws first (i + 1)))

unfoldable pub one_way_end : List ℕ → ℕ → ℕ → ℕ
one_way_end ws h i = receiving_end ws (second_of h) (i + 1)

unfoldable pub request_end : (ℕ → ℕ → ℕ) → List ℕ → ℕ → ℕ → ℕ → ℕ
request_end sub ws c h i =
    when (fixed_after ws i Units.first_variable) (on (receiving_end ws (second_of h) (i + 2)) λ x. on (variables_end ws x) (sub c))

unfoldable pub notify_end : List ℕ → ℕ → ℕ
notify_end ws i = when (fixed_after ws i Units.first_variable) (variables_end ws (i + 2))

-- the key at a position, at least `least`
unfoldable pub key_at : List ℕ → ℕ → ℕ → ℕ
key_at ws i least = cond (ltb i (length ws) && clear Units.key (at ws i) && leb least (key_of (at ws i))) (key_of (at ws i)) no_key

-- under a scope's key in a scope's list, whose entries are plain code, nil may not stand
unfoldable pub entry_context : ℕ → ℕ → ℕ
entry_context c key = cond (eqb c code && leb scope_keys key) not_nil c

-- entries; `met` tells whether the key wanted has stood among those before
unfoldable pub entries_end : (ℕ → ℕ → ℕ) → List ℕ → ℕ → ℕ → ℕ → ℕ → Bool → ℕ → ℕ
entries_end sub ws c wanted zero least met i = when met i
entries_end sub ws c wanted (suc n) least met i =
    cond (eqb (key_at ws i least) no_key) 0
    (on (sub (entry_context c (key_at ws i least)) (i + 1))
    (entries_end sub ws c wanted n (key_at ws i least + 1) (met || eqb (key_at ws i least) wanted)))

unfoldable pub list_end : (ℕ → ℕ → ℕ) → List ℕ → ℕ → ℕ → ℕ → ℕ
list_end sub ws c wanted i = when (ltb i (length ws)) (entries_end sub ws c wanted (at ws i) 0 (leb no_key wanted) (i + 1))

unfoldable pub solicit_end : (ℕ → ℕ → ℕ) → List ℕ → ℕ → ℕ
solicit_end sub ws i =
    when (fixed_after ws i Units.next_variable)
    (on (variables_end ws (i + 2)) λ y. on (receiving_end ws (next_variable (at ws (i + 1))) y) (list_end sub ws handlers no_key))

-- the list of a scope that runs, by its mark
unfoldable pub marked_end : (ℕ → ℕ → ℕ) → List ℕ → ℕ → ℕ → ℕ → ℕ
marked_end sub ws h fault i =
    get_or
    (when (eqb fault 0) (list_end sub ws code no_key i)
    ∷ when (clear Units.first_name fault) (list_end sub ws code (first_name fault) i)
    ∷ when (eqb fault 0 && eqb (zombie_of h) 1) (list_end sub ws code no_key i)
    ∷ [])
    (mark_of h) 0

-- a scope that is code: no marked fault and an empty list
unfoldable pub resting_end : (ℕ → ℕ → ℕ) → List ℕ → ℕ → ℕ → ℕ → ℕ
resting_end sub ws c fault i = when (eqb fault 0 && eqb (at ws (i + 2)) 0) (sub (context_of c) (i + 3))

unfoldable pub scope_end : (ℕ → ℕ → ℕ) → List ℕ → ℕ → ℕ → ℕ → ℕ
scope_end sub ws c h i =
    when (leb 3 (length ws - i))
    (cond (ltb c running)
    (resting_end sub ws c (at ws (i + 1)) i)
    (on (marked_end sub ws h (at ws (i + 1)) (i + 2)) (sub running)))

-- the fixed words of an end; `bound` is n times 65,536 plus issued
unfoldable pub end_after : List ℕ → ℕ → ℕ → ℕ → Bool
end_after ws i spare bound =
    leb 3 (length ws - i) && clear spare (at ws (i + 1)) && ltb (at ws (i + 1) / spare % 8) (bound / 65536) && ltb 0 (at ws (i + 2))
    && leb (at ws (i + 2)) (bound % 65536)

-- where the body of an executor begins
unfoldable pub executor_own : List ℕ → ℕ → ℕ → ℕ
executor_own ws bound i = when (ltb i (length ws)) (when (end_after ws i Units.executors_client bound) (variables_end ws (i + 3)))

unfoldable pub executor_end : (ℕ → ℕ → ℕ) → List ℕ → ℕ → ℕ → ℕ
executor_end sub ws bound i = on (executor_own ws bound i) (sub running)

unfoldable pub waiter_end : (ℕ → ℕ → ℕ) → List ℕ → ℕ → ℕ → ℕ → ℕ
waiter_end sub ws h bound i =
    when (end_after ws i Units.waiters_server bound) (on (receiving_end ws (second_of h) (i + 3)) (list_end sub ws handlers no_key))

unfoldable pub notice_end : List ℕ → ℕ → ℕ → ℕ
notice_end ws bound i = when (end_after ws i Units.notices_client bound) (i + 3)

-- by kind
unfoldable pub node_end : (ℕ → ℕ) → (ℕ → ℕ → ℕ) → List ℕ → ℕ → ℕ → ℕ → ℕ → ℕ
node_end ex sub ws c bound h i =
    get_or
    ((i + 1)
    ∷ ex (i + 1)
    ∷ two_end sub (context_of c + not_nil) (rest_of c) (i + 1)
    ∷ two_end sub (context_of c + not_nil) (context_of c + not_nil) (i + 1)
    ∷ branch_end ex sub (rest_of c) (i + 1)
    ∷ repeat_end ex sub (rest_of c) (i + 1)
    ∷ choice_end sub (rest_of c) (count_of h) (i + 1)
    ∷ one_way_end ws h i
    ∷ request_end sub ws (rest_of c) h i
    ∷ notify_end ws i
    ∷ solicit_end sub ws i
    ∷ scope_end sub ws c h i
    ∷ list_end sub ws handlers no_key (i + 1)
    ∷ (i + 1)
    ∷ (i + 1)
    ∷ (i + 1)
    ∷ executor_end sub ws bound i
    ∷ waiter_end sub ws h bound i
    ∷ notice_end ws bound i
    ∷ [])
    (kind_of h) 0

unfoldable pub process_end : ℕ → List ℕ → ℕ → ℕ → ℕ → ℕ
process_end zero ws bound c i = 0
process_end (suc d) ws bound c i =
    when (ltb i (length ws))
    (when (eqb (bit_and (at ws i + 65536) (head_mask c (kind_of (at ws i)))) 0) (node_end (expr_end d ws) (process_end d ws bound) ws c bound (at ws i) i))

-- ---- the same by sets of kinds, where a node's last process is read in the next turn

unfoldable pub stands_at : ℕ → List ℕ → ℕ → ℕ → Bool
stands_at depth ws kinds i = not (eqb depth 0) && ltb i (length ws) && head_stands kinds (at ws i)

-- the kind of the process that stands there, by the code
unfoldable pub kind_at : ℕ → List ℕ → ℕ → ℕ → Option Kind
kind_at depth ws kinds i = cond (stands_at depth ws kinds i) (Some (kind_named (kind_of (at ws i)))) None

-- a process of this kind is one word
abbrev pub one_word : ℕ → Bool
one_word k = eqb k Kind.nil || eqb k Kind.throw || eqb k Kind.comp || eqb k Kind.cH

-- a scope that is code uses fewer bits of its head than one that runs
unfoldable pub rests : ℕ → ℕ → Bool
rests c h = not (eqb (kind_of h) Kind.scope && ltb c running) || clear 32 h

-- a node whose head stands there
unfoldable pub headed_end : (ℕ → ℕ) → (ℕ → ℕ → ℕ) → List ℕ → ℕ → ℕ → ℕ → ℕ → ℕ
headed_end ex sub ws c bound h i = when (rests c h) (node_end ex sub ws c bound h i)

-- where the process behind a request begins
unfoldable pub request_at : List ℕ → ℕ → ℕ → ℕ
request_at ws h i =
    when (fixed_after ws i Units.first_variable) (on (receiving_end ws (second_of h) (i + 2)) (variables_end ws))

-- where the body of a scope begins
unfoldable pub body_at : (ℕ → ℕ → ℕ) → List ℕ → ℕ → ℕ → ℕ → ℕ
body_at sub ws c h i =
    when (leb 3 (length ws - i))
    (cond (leb running c)
    (marked_end sub ws h (at ws (i + 1)) (i + 2))
    (when (eqb (at ws (i + 1)) 0 && eqb (at ws (i + 2)) 0 && clear 32 h) (i + 3)))
