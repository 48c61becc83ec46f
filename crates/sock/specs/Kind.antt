-- The nineteen kinds of process by their numbers, and the fixed table of what follows each one's head (document 01, "Words").
use Rattle.std.specs.Prelude.{ℕ, List, [], ◌∷◌, get_or}

abbrev pub nil : ℕ
nil = 0

abbrev pub assign : ℕ
assign = 1

abbrev pub seq : ℕ
seq = 2

abbrev pub par : ℕ
par = 3

abbrev pub if : ℕ
if = 4

abbrev pub while : ℕ
while = 5

abbrev pub choice : ℕ
choice = 6

abbrev pub one_way : ℕ
one_way = 7

abbrev pub request : ℕ
request = 8

abbrev pub notify : ℕ
notify = 9

abbrev pub solicit : ℕ
solicit = 10

abbrev pub scope : ℕ
scope = 11

abbrev pub inst : ℕ  -- document 01's inst: installs handlers
inst = 12

abbrev pub throw : ℕ
throw = 13

abbrev pub comp : ℕ  -- document 01's comp: compensates
comp = 14

abbrev pub cH : ℕ  -- document 01's cH: stands for the handler that an installed one replaces
cH = 15

abbrev pub executor : ℕ  -- document 01's executor: a request being served; it replies when its body is done
executor = 16

abbrev pub waiter : ℕ  -- document 01's waiter: a solicit that waits for its reply
waiter = 17

abbrev pub notice : ℕ  -- document 01's notice: a fault on its way to a waiter
notice = 18

-- what a process has of its own behind the head: a word whose bits below the number are unused; or a list of variables of a message, which
-- is a count of 1 to 4 and a word for each variable but the first
pub data Own : Type 0 where
  word : ℕ → Own
  variables : Own

-- What follows the head of a kind. The bits of the head below `spare` are unused.
pub record Row : Type 0 where
  pub spare : ℕ
  pub fixed : List Own
  pub expressions : ℕ
  pub lists : ℕ
  pub processes : ℕ

abbrev row : ℕ → List Own → ℕ → ℕ → ℕ → Row
row s f e l p = record { spare = s; fixed = f; expressions = e; lists = l; processes = p }

-- The fixed table. A choice has two processes per branch, so its row is read with its count (`processes_of`).
unfoldable pub rows : List Row
rows =
    row 2048 [] 0 0 0  -- 0 nil
    ∷ row 64 [] 1 0 0  -- 1 assign: variable; expression
    ∷ row 2048 [] 0 0 2  -- 2 seq: P, Q
    ∷ row 2048 [] 0 0 2  -- 3 par: P, Q
    ∷ row 2048 [] 1 0 2  -- 4 if: expression, P, Q
    ∷ row 2048 [] 1 0 1  -- 5 while: expression, P
    ∷ row 1 [] 0 0 2  -- 6 choice: count; per branch a process of kind 7 or 8, then P
    ∷ row 1 (variables ∷ []) 0 0 0  -- 7 one-way: operation, x; variables x
    ∷ row 1 (word 2048 ∷ variables ∷ variables ∷ []) 0 0 1  -- 8 request: operation, x; word y; variables x; variables y; P
    ∷ row 1 (word 2048 ∷ variables ∷ []) 0 0 0  -- 9 notify: operation, y; word z; variables y
    ∷ row 1 (word 64 ∷ variables ∷ variables ∷ []) 0 1 0  -- 10 solicit: operation, y; word z, x; variables y; variables x; list
    ∷ row 4 (word 1024 ∷ []) 0 1 1  -- 11 scope: name, mark, zombie; word marked fault; list; P
    ∷ row 2048 [] 0 1 0  -- 12 inst: list
    ∷ row 32 [] 0 0 0  -- 13 throw: name
    ∷ row 32 [] 0 0 0  -- 14 comp: name
    ∷ row 2048 [] 0 0 0  -- 15 cH
    ∷ row 1 (word 8192 ∷ word 1 ∷ variables ∷ []) 0 0 1  -- 16 executor: operation, y; word client engine; word serial; variables y; P
    ∷ row 1 (word 4096 ∷ word 1 ∷ variables ∷ []) 0 1 0  -- 17 waiter: operation, x; word dead, server engine; word serial; variables x; list
    ∷ row 32 (word 128 ∷ word 1 ∷ []) 0 0 0  -- 18 notice: operation; word fault, client engine; word serial
    ∷ []

-- for a number that is no kind
abbrev pub no_row : Row
no_row = row 1 [] 0 0 0

unfoldable pub row_of : ℕ → Row
row_of k = get_or rows k no_row
