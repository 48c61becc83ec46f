-- `step_in` of `journal::steps` meets its contract.
use native.Mathlib.Omega.{arith}
use mathlib.Core.Path.{ap, ◌∙◌}
use lib.ListN.{length, take, replicate}
use lib.Seq.{length-take-le}
use Rattle.std.proofs.Common.{ℕ, ◌≡◌}
use Rattle.std.proofs.lemmas.List.{length-replicate}
use Rattle.sock.specs.Calls.{answer_of, output_of}
use Rattle.sock.specs.Journal.{journal_step, journal_after}
use Rattle.layout.specs.Limits.{figures}
use Rattle.stepping.specs.Bundles.{numbers_as}
use Rattle.journal.specs.Stepping.{room_in}
use Rattle.journal.proofs.steps.step_in.Goals as goal

pub returns : goal.returns
returns g c =
    let e = c.written.ensures in
    let r = c.room_in-room.ensures in
    let room : length (take c.room_in-room.result (replicate {A = ℕ} g.row.RESULT 0)) ≡ room_in g.row.RESULT (length c.args.out.now) =
    length-take-le _ _ (omega (arith, r.1, length-replicate {A = ℕ} g.row.RESULT 0)) ∙ r.0 in
    record {
      answered = e.answered ∙ ap (λ (n : ℕ). answer_of (journal_step (figures c.args.m.limits) c.args.ws.now (numbers_as c.args.k) n (length c.args.journal.now))) room;
      wrote = e.wrote ∙ ap (λ (n : ℕ). output_of (journal_step (figures c.args.m.limits) c.args.ws.now (numbers_as c.args.k) n (length c.args.journal.now)) c.args.out.now) room;
      noted = e.noted ∙ ap (λ (n : ℕ). journal_after c.args.ws.now (journal_step (figures c.args.m.limits) c.args.ws.now (numbers_as c.args.k) n (length c.args.journal.now)) c.args.journal.now) room;
    }
