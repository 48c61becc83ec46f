-- One name that opens every definition: `unfolding computed` lets a closed term compute.
-- Assumes nothing.
use Rattle.sock.specs.Kind.{rows, row_of}
use Rattle.sock.specs.Variables.{further_words, variable_words, further_of, variables_of, behind_variables, values_at, set_all, member, distinct}
use Rattle.sock.specs.Term.{processes_of}
use Rattle.sock.specs.Layout.{expr_words, exprs_words, count, words, block_words, entries_words, nodes_words, expr_depth, exprs_depth, depth, block_depth, entries_depth, nodes_depth}
use Rattle.sock.specs.Reading.{and_then, check, allowed, placed, branched, head_fits, part_stratum, holds, is_empty, scope_fits, resting_fits, end_fits, fields_fit, receives_in, node_fits, entry_fits, further, fixed_words, wide, operands, expr_by, expr, exprs, entries, block, parts, node_by, process, parts_rows, repeated, parts_of}
use Rattle.sock.specs.Running.{as_node, run_words, size, run_depth, forms, in_form, opened, all_opened, awake, enable}
use Rattle.sock.specs.Configuration.{values_words, engine_words, engines_words, encode, engines_depth, read_values, read_engine, read_engines, whole, guarded, read_config, is_unmarked, fresh_run, is_scope, fresh_engines, fresh}
use Rattle.sock.specs.Digits.{decimal as decimalDigits, number_of, packed_of, power}
use Rattle.sock.specs.Evaluation.{signed, of_digits, operate, evaluate, is_true}
use Rattle.sock.specs.Handlers.{handler, without, put, rebuilt, replaced, all_replaced, installed, update}
use Rattle.sock.specs.Frames.{here_or, past, locate, is_done, seq_of, par_of, plug, nearest, on_nearest}
use Rattle.sock.specs.Rules.{also, kill, climb, action, ending, valued, acting, once_done, move_of, receiver, chosen, bare, offered, offer, followed, if_hears, if_serves, if_waits, awaited, exchange}
use Rattle.sock.specs.Calls.{◌>>=◌, ◌>>◌, ◌!◌, ◌unless◌, enabled_at, movable, partner, effect, carried_out, step, answer_of, output_of, step_answer, step_output, passed, check_readable, start, check_start, tally, tally_all, waits, works, known, counted, ends, part_in, process_part, process_of}
use Rattle.sock.specs.Bytes.{words_of, bytes_of, byte_step, packed, byte_answer, bytes_after, byte_output, words_or_none, byte_check_start, byte_check_readable, packed_ends, byte_ends, packed_part, byte_process, digits, decimal, start_text, end_text, cut_line, start_line, end_line, step_line, numbers_in, words_after, step_lines, started, configured, handover}

unfoldable pub computed : Unit {0}
unfolding rows row_of processes_of expr_words exprs_words count words block_words entries_words nodes_words expr_depth exprs_depth depth block_depth entries_depth nodes_depth and_then check allowed placed branched head_fits parts_rows repeated parts_of part_stratum holds is_empty scope_fits resting_fits end_fits node_fits fields_fit receives_in entry_fits further fixed_words wide further_words variable_words further_of variables_of behind_variables values_at set_all member distinct operands expr_by expr exprs entries block parts node_by process as_node run_words size run_depth forms in_form opened all_opened awake enable values_words engine_words engines_words encode engines_depth read_values read_engine read_engines whole guarded read_config is_unmarked fresh_run is_scope fresh_engines fresh decimalDigits number_of packed_of power signed of_digits operate evaluate is_true handler without put rebuilt replaced all_replaced installed update here_or past locate is_done seq_of par_of plug nearest on_nearest also kill climb action ending valued acting once_done move_of receiver chosen bare offered offer followed if_hears if_serves if_waits awaited exchange ◌>>=◌ ◌>>◌ ◌!◌ ◌unless◌ enabled_at movable partner effect carried_out step answer_of output_of step_answer step_output passed check_readable start check_start tally tally_all waits works known counted ends part_in process_part process_of words_of bytes_of byte_step packed byte_answer bytes_after byte_output words_or_none byte_check_start byte_check_readable packed_ends byte_ends packed_part byte_process digits decimal start_text end_text cut_line start_line end_line step_line numbers_in words_after step_lines started configured handover
computed = tt
