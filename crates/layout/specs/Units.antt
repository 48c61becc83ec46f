-- The worth of a field's lowest bit, by the names of `Words`; where the field is a word's last, the bits below have to be 0.
use Rattle.std.specs.Prelude.{ℕ}

abbrev pub first_variable : ℕ
first_variable = 2048

abbrev pub next_variable : ℕ
next_variable = 64

abbrev pub first_name : ℕ
first_name = 1024

abbrev pub executors_client : ℕ
executors_client = 8192

abbrev pub waiters_server : ℕ
waiters_server = 4096

abbrev pub notices_client : ℕ
notices_client = 128

abbrev pub key : ℕ
key = 512

abbrev pub tag : ℕ
tag = 8192

abbrev pub read_variable : ℕ
read_variable = 256
