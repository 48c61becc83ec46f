-- The five numbers of a move as one number, as the code goes through them.
use Rattle.std.specs.Prelude.{ℕ, ◌+◌, ◌*◌, ◌/◌, ◌%◌}
use Rattle.stepping.specs.declared.bundles.Numbers.{Numbers}

unfoldable pub numbers_at : ℕ → Numbers
numbers_at i =
    record {
      engine = i / 8589934592 % 8;
      position = i / 1048576 % 8192;
      second = i / 131072 % 8;
      second_position = i / 16 % 8192;
      branch = i % 16;
    }

-- the first number behind those that are alike above a unit
unfoldable pub past_of : ℕ → ℕ → ℕ
past_of i unit = (i / unit + 1) * unit
