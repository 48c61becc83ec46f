-- The heads and words that rules write, from the heads and words that they find.
use Rattle.std.specs.Prelude.{ℕ, ◌+◌, ◌*◌, ◌/◌, ◌%◌}
use Rattle.sock.specs.Kind
use Rattle.sock.specs.Words.{name_of, zombie_of, first_variable, next_variable, first_name, head_of, name_fields}

-- the executor that serves the request with the head h and the word w; its word
abbrev pub executor_head : ℕ → ℕ → ℕ
executor_head h w = head_of Kind.executor (name_fields (name_of h) (first_variable w))

abbrev pub client_word : ℕ → ℕ
client_word client = client % 8 * 8192

-- the waiter that the solicit with the head h and the word w becomes; its word
abbrev pub waiter_head : ℕ → ℕ → ℕ
waiter_head h w = head_of Kind.waiter (name_fields (name_of h) (next_variable w))

abbrev pub server_word : ℕ → ℕ
server_word server = server % 8 * 4096

-- the throw of the fault in a notice's word w
abbrev pub throw_head : ℕ → ℕ
throw_head w = head_of Kind.throw (first_name w * 32)

-- a scope's head with its mark cleared, and with mark 1; the word behind that
abbrev pub cleared_head : ℕ → ℕ
cleared_head h = h / 32 * 32 + zombie_of h * 4

abbrev pub faulted_head : ℕ → ℕ
faulted_head h = h / 32 * 32 + 8 + zombie_of h * 4

abbrev pub fault_word : ℕ → ℕ
fault_word fault = fault % 64 * 1024
