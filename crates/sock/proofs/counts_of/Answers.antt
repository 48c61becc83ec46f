-- `sock::counts_of` meets its contract: the code's table is the definitions' table, row by row.
-- Assumes nothing.
use Rattle.std.proofs.Common.{rules, sym, ap}
use lib.ListN.{get_or-map, get_or-eq_default}
use Rattle.sock.specs.Kind.{rows, row_of, no_row}
use Rattle.sock.specs.Counts.{word_count, list_count, counted, counts_of}
use Rattle.sock.proofs.counts_of.Goals as goal

pub returns-then-kind-lt19 : goal.returns-then-kind-lt19
unfolding rows row_of word_count list_count counted counts_of
returns-then-kind-lt19 c = get_or-map counted rows c.args.kind no_row

pub returns-else-kind-lt19 : goal.returns-else-kind-lt19
unfolding rows row_of word_count list_count counted counts_of
returns-else-kind-lt19 c = sym (ap counted (get_or-eq_default rows no_row {n = c.args.kind} (search rules)))
