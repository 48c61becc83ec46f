-- `begin` of `cabinet::index_bytes` meets its contract.
use native.Mathlib.Omega.{arith}
use Prim.Native.Nat.{◌≤◌, ◌/◌}
use mathlib.Core.Path.{refl, ◌∙◌}
use lib.ListN.{length}
use borrow.Author.Rules.{rules}
use borrow.Author.Tests.{eqb-false}
use Rattle.sock.specs.Configuration.{standard}
use Rattle.layout.proofs.Refusing.{never_zero}
use Rattle.bytewise.proofs.Holding.{start_as}
use Rattle.cabinet.proofs.Indexing.{begin_short, begin_answer_lem, begin_keeps, begin_lays}
use Rattle.cabinet.proofs.index_bytes.begin.Goals as goal

as_answered_begun : {A B : Type 0} → A × B → record { answered : A; begun : B }
as_answered_begun p = record { answered = p.0; begun = p.1 }

pub returns-then-index-lt-WORDS : goal.returns-then-index-lt-WORDS
returns-then-index-lt-WORDS c = as_answered_begun (begin_short c.args.config.now c.args.index.now c.if-index-lt-WORDS.true)

pub returns-in_err-check_start : goal.returns-in_err-check_start
returns-in_err-check_start c =
    let n = c.in_err-check_start.ensures ∙ start_as standard 8192 (omega arith) _ _ c.held.ensures in
    let long : 2049 ≤ length c.args.index.now / 2 = omega (arith, c.if-index-lt-WORDS.false) in
    let answer = begin_answer_lem c.args.config.now c.args.index.now long _ n in
    record {
      answered = search (rules, answer);
      begun = begin_keeps c.args.config.now c.args.index.now long _ n (eqb-false _ 0 (never_zero c.in_err-check_start.field-0.0));
    }

pub returns : goal.returns
returns c =
    let n = c.in_ok-check_start.ensures ∙ start_as standard 8192 (omega arith) _ _ c.held.ensures in
    let long : 2049 ≤ length c.args.index.now / 2 = omega (arith, c.if-index-lt-WORDS.false) in
    record {
      answered = begin_answer_lem c.args.config.now c.args.index.now long _ n;
      begun = c.spread.ensures ∙ begin_lays c.args.config.now c.args.index.now long _ n refl _ refl;
    }
