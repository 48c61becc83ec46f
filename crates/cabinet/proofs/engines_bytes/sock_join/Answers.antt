-- `sock_join` of `cabinet::engines_bytes` meets its contract.
use mathlib.Core.Path.{refl, ◌∙◌}
use Rattle.cabinet.proofs.Engines.{join_bytes, too_long_bytes, join_answer_lem, join_output_lem, long_output}
use Rattle.cabinet.proofs.engines_bytes.sock_join.Goals as goal

pub returns-then-newcomer-gt-NEWCOMER_BYTES : goal.returns-then-newcomer-gt-NEWCOMER_BYTES
returns-then-newcomer-gt-NEWCOMER_BYTES c =
    let same = too_long_bytes (c.args.config.now) _ c.held-ws.ensures (c.args.newcomer.now) (c.args.out.now) (c.if-newcomer-gt-NEWCOMER_BYTES.true) in record { answered = join_answer_lem (c.args.config.now) (c.args.newcomer.now) (c.args.out.now) _ (c.unread.ensures) same; wrote = long_output (c.args.config.now) (c.args.newcomer.now) (c.args.out.now) _ same }

pub returns : goal.returns
returns c =
    let same = join_bytes c.args.config.now _ c.held-ws.ensures c.args.newcomer.now c.args.out.now c.if-newcomer-gt-NEWCOMER_BYTES.false _ c.held-news.ensures _ refl in
    record {
      answered = join_answer_lem c.args.config.now c.args.newcomer.now c.args.out.now _ (c.numbered.ensures ∙ c.let_in.ensures.answered) same;
      wrote = join_output_lem c.args.config.now c.args.newcomer.now c.args.out.now _ c.let_in.ensures.wrote same;
    }
