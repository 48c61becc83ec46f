-- `ends` of `reading::ends` meets its contract: the refusals in order; else what is counted in all engines, of which there are no more than words.
use borrow.Author.Rules.{rules}
use mathlib.Core.Path.{◌≡◌, ap}
use mathlib.Core.Bool.{false, ◌&&◌}
use native.Mathlib.Omega.{arith}
use lib.Dec.{leb}
use Rattle.sock.specs.Configuration.{standard}
use Rattle.reading.specs.Answers.{starts_of}
use Rattle.reading.specs.Survey.{surveyed}
use Rattle.reading.proofs.Totals.{total_below, ends_unissued, ends_counted}
use Rattle.reading.proofs.Known.{found_known, known_length}
use Rattle.reading.proofs.ends.ends.Goals as goal

pub returns-then-not-contains : goal.returns-then-not-contains
returns-then-not-contains c =
    let e : starts_of c.in_ok-s.s ≡ surveyed standard 11 c.args.ws.now = search rules in
    let b : leb 1 c.args.serial && leb c.args.serial c.word-issued.result ≡ false = search rules in
    ends_unissued standard _ (λ i. (c.type_inv.ws i).fits) c.args.serial c.in_ok-s.s e _ c.word-issued.ensures b

pub invariant_of-tally-2 : goal.invariant_of-tally-2
invariant_of-tally-2 c =
    let e : starts_of c.in_ok-s.s ≡ surveyed standard 11 c.args.ws.now = search rules in
    record {
      short = omega (arith, (known_length (found_known standard _ (λ i. (c.type_inv.ws i).fits) c.in_ok-s.s e)).1);
    }

pub returns : goal.returns
returns c =
    let e : starts_of c.in_ok-s.s ≡ surveyed standard 11 c.args.ws.now = search rules in
    let k = found_known standard _ (λ i. (c.type_inv.ws i).fits) c.in_ok-s.s e in
    let t = rw (c.wide.ensures.0, c.wide-2.ensures.0, c.word-issued.ensures) at c.total-waiters.ensures in
    let few = total_below (λ i. (c.type_inv.ws i).fits) k c.args.serial in
    let waiters : c.word_of.result ≡ c.total-waiters.result.0 = omega (arith, few.0, ap (λ t. t.0) t, c.word_of.ensures) in
    let workers : c.word_of-2.result ≡ c.total-waiters.result.1 = omega (arith, few.1, ap (λ t. t.1) t, c.word_of-2.ensures) in
    rw (waiters, workers) (search (rules, ends_counted))
