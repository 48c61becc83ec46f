-- Words and their fields (document 01, "Words"): packed from the most significant bit, unused bits 0. Values, high word first.
use Rattle.std.specs.Prelude.{ℕ, ◌+◌, ◌*◌, ◌/◌, ◌%◌, Bool, true, false, ltb, eqb}

-- a word has 16 bits
abbrev pub is_word : ℕ → Bool
is_word w = ltb w 65536

-- the bits of w below m are 0
abbrev pub clear : ℕ → ℕ → Bool
clear m w = eqb (w % m) 0

-- of a head: its kind in 5 bits, then 11 bits
abbrev pub kind_of : ℕ → ℕ
kind_of h = h / 2048

abbrev pub count_of : ℕ → ℕ
count_of h = h % 2048

-- the 5 bits after the kind: an assign's variable
abbrev pub variable_of : ℕ → ℕ
variable_of h = h / 64 % 32

-- the 6 bits after the kind: an operation or a name
abbrev pub name_of : ℕ → ℕ
name_of h = h / 32 % 64

-- the 5 bits after those: the variable x or y
abbrev pub second_of : ℕ → ℕ
second_of h = h % 32

-- the 2 bits and the bit after a scope's name
abbrev pub mark_of : ℕ → ℕ
mark_of h = h / 8 % 4

abbrev pub zombie_of : ℕ → ℕ
zombie_of h = h / 4 % 2

-- of a fixed word: a variable in the first 5 bits, another in the next 5
abbrev pub first_variable : ℕ → ℕ
first_variable w = w / 2048

abbrev pub next_variable : ℕ → ℕ
next_variable w = w / 64 % 32

-- a name in the first 6 bits: a marked fault, a notice's fault
abbrev pub first_name : ℕ → ℕ
first_name w = w / 1024

-- an engine: an executor's client, a waiter's server behind the bit dead, a notice's client behind the fault
abbrev pub executors_client : ℕ → ℕ
executors_client w = w / 8192

abbrev pub dead_of : ℕ → ℕ
dead_of w = w / 32768

abbrev pub waiters_server : ℕ → ℕ
waiters_server w = w / 4096 % 8

abbrev pub notices_client : ℕ → ℕ
notices_client w = w / 128 % 8

-- of a key word: 1 bit (0 fault, 1 scope) and the name, together a number below 128
abbrev pub key_of : ℕ → ℕ
key_of w = w / 512

abbrev pub key_word : ℕ → ℕ
key_word k = k * 512

abbrev pub fault_key : ℕ → ℕ
fault_key f = f

abbrev pub scope_key : ℕ → ℕ
scope_key q = 64 + q

-- of an expression's word: what it is in 3 bits, and a variable in the next 5
abbrev pub tag_of : ℕ → ℕ
tag_of w = w / 8192

abbrev pub read_variable : ℕ → ℕ
read_variable w = w / 256 % 32

-- a value has 32 bits
abbrev pub value_of : ℕ → ℕ → ℕ
value_of high low = high * 65536 + low

abbrev pub high_word : ℕ → ℕ
high_word v = v / 65536

abbrev pub low_word : ℕ → ℕ
low_word v = v % 65536

-- a flag as a bit
abbrev pub bit : Bool → ℕ
bit true = 1
bit false = 0

abbrev pub is_one : ℕ → Bool
is_one b = eqb b 1

-- heads: a kind and its fields
abbrev pub head_of : ℕ → ℕ → ℕ
head_of kind fields = kind * 2048 + fields

abbrev pub name_fields : ℕ → ℕ → ℕ
name_fields name second = name * 32 + second
