-- The call keeper for C: the configuration on bytes, the scratch in words, the answer in one number of 64 bits.
use Rattle.std.specs.Prelude.{ℕ, ◌+◌, ◌*◌, ◌^◌, ◌<◌, ◌≡◌, List}
use Rattle.sock.specs.Bytes.{words_of, words_or_none}
use Rattle.sock.specs.Calls.{Numbers}
use Rattle.keeper.specs.Calls.{keeper_number, keeper_outcome, Showing}

-- an odd length is unreadable, as the empty configuration is
abbrev pub config_in : List ℕ → List ℕ
config_in bytes = words_or_none (words_of bytes)

-- 64 bits: number 8, outcome 8, zero 8, branch 8, engine 3, position 13, second engine 3, second position 13
unfoldable pub packed_move : Numbers → ℕ
packed_move m = m.branch * 2 ^ 32 + m.engine * 2 ^ 29 + m.position * 2 ^ 16 + m.second * 2 ^ 13 + m.second_position

unfoldable pub packed_keeper : ℕ → ℕ → Numbers → ℕ
packed_keeper number outcome m = number * 2 ^ 56 + outcome * 2 ^ 48 + packed_move m

-- each of the five numbers fits its bits
pub record Narrow (m : Numbers) : Type 0 where
  pub engine : m.engine < 8
  pub position : m.position < 8192
  pub second : m.second < 8
  pub place : m.second_position < 8192
  pub branch : m.branch < 256

-- the answer, packed, with the move that it shows
pub record ByteAnswer (bytes : List ℕ) (engines serial k room r : ℕ) : Type 0 where
  pub move : Numbers
  pub narrow : Narrow move
  pub packed : r ≡ packed_keeper (keeper_number (config_in bytes) serial k room) (keeper_outcome (config_in bytes) engines serial k room) move
  pub shown : Showing engines serial k (config_in bytes) (keeper_outcome (config_in bytes) engines serial k room) move
