-- The heads and words that killing writes, from those that it finds.
use Rattle.std.specs.Prelude.{ℕ, ◌+◌, ◌*◌, ◌/◌, ◌%◌}
use Rattle.sock.specs.Kind
use Rattle.sock.specs.Words.{name_of, executors_client, head_of, name_fields}

-- a scope's head as a zombie's, with another mark
abbrev pub zombie_head : ℕ → ℕ → ℕ
zombie_head h mark = h / 32 * 32 + mark % 4 * 8 + 4

-- a notice's head from an executor's, and its first word from the fault and the executor's
abbrev pub notice_head : ℕ → ℕ
notice_head h = head_of Kind.notice (name_fields (name_of h) 0)

abbrev pub notice_word : ℕ → ℕ → ℕ
notice_word fault w = fault % 64 * 1024 + executors_client w * 128

-- a waiter's first word with another bit for dead
abbrev pub waiter_word : ℕ → ℕ → ℕ
waiter_word dead w = dead % 2 * 32768 + w % 32768
