-- `sock_translate` of `cabinet::planning_bytes` meets its contract.
use mathlib.Core.Path.{refl, ap, ◌∙◌}
use Rattle.sock.specs.Bytes.{packed_taken}
use Rattle.cabinet.proofs.Planning.{translate_bytes, translate_answer_lem, translate_output_lem}
use Rattle.cabinet.proofs.planning_bytes.sock_translate.Goals as goal

pub returns : goal.returns
returns c =
    let same = translate_bytes c.args.config.now _ c.held-ws.ensures c.args.out.now _ refl in
    record {
      answered = translate_answer_lem c.args.config.now c.args.out.now _ (c.packed.ensures ∙ ap packed_taken c.translated.ensures.answered) same;
      wrote = translate_output_lem c.args.config.now c.args.out.now _ c.translated.ensures.wrote same;
    }
