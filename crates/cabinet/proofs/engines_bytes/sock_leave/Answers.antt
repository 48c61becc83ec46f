-- `sock_leave` of `cabinet::engines_bytes` meets its contract.
use mathlib.Core.Path.{refl, ◌∙◌}
use Rattle.cabinet.proofs.Engines.{leave_bytes, leave_answer_lem, leave_output_lem}
use Rattle.cabinet.proofs.engines_bytes.sock_leave.Goals as goal

pub returns : goal.returns
returns c =
    let same = leave_bytes c.args.config.now _ c.held-ws.ensures c.args.out.now _ refl in
    record {
      answered = leave_answer_lem c.args.config.now c.args.out.now _ (c.numbered.ensures ∙ c.let_go.ensures.answered) same;
      wrote = leave_output_lem c.args.config.now c.args.out.now _ c.let_go.ensures.wrote same;
    }
