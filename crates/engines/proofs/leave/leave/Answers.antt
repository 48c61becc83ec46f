-- `leave` of `engines::leave` meets its contract.
use borrow.Author.Rules.{rules}
use mathlib.Core.Path.{◌≡◌}
use native.Mathlib.Omega.{arith}
use Rattle.sock.specs.Configuration.{standard}
use Rattle.reading.specs.Answers.{starts_of}
use Rattle.reading.specs.Survey.{surveyed}
use Rattle.sock.specs.Engines.{leave_answer}
use Rattle.engines.proofs.Going.{some_counted, no_longer, leave_done}
use Rattle.engines.proofs.leave.leave.Goals as goal

pub overflow_sub-word : goal.overflow_sub-word
overflow_sub-word c =
    let e : starts_of c.in_ok-s.s ≡ surveyed standard 11 c.args.ws.now = search rules in
    omega (arith, some_counted c.args.ws.now (λ i. (c.type_inv.ws i).fits) c.in_ok-s.s e, c.word.ensures)

pub returns-clause-answered : goal.returns-clause-answered
unfolding leave_answer
returns-clause-answered c =
    let e : starts_of c.in_ok-s.s ≡ surveyed standard 11 c.args.ws.now = search rules in
    let whole : c.word_of.result ≡ c.saturating_sub-m.result =
    omega (arith, no_longer c.args.ws.now (λ i. (c.type_inv.ws i).fits) c.in_ok-s.s e, c.saturating_sub-m.ensures, c.word_of.ensures) in
    rw whole (search (rules, leave_done))
