-- The line of a case: what the five calls that only read answer, with the count of the engine's words and the sum over them.
use Rattle.std.specs.Prelude.{ℕ, cond, List, [], ◌∷◌, length}
use Rattle.sock.specs.Configuration.{standard}
use Rattle.sock.specs.Calls.{check_readable, check_start, ends, process_of}
use Rattle.sock.specs.Pending.{pending_at}
use Rattle.cases.specs.Printed.{line}
use Rattle.cases.specs.Sums.{summed}

abbrev pub answers_line : List ℕ → ℕ → ℕ → ℕ → List ℕ
answers_line ws serial engine position =
    let e = ends standard ws serial in
    let process = process_of standard ws engine in
    let p = pending_at standard ws engine position in
    line
    (check_readable standard ws ∷ check_start standard ws ∷ e.number ∷ e.waiters ∷ e.workers ∷ length process ∷ summed 0 process ∷ p.number
    ∷ cond p.found 1 0
    ∷ p.count
    ∷ [])
