-- comp as an edit on words, as the code goes.
use Rattle.std.specs.Prelude.{ℕ, ◌-◌, cond, List, eqb, get_or}
use Rattle.sock.specs.Words.{name_of, scope_key}
use Rattle.reading.specs.Walk.{process_end}
use Rattle.skipping.specs.Pass.{pass_list}
use Rattle.layout.specs.declared.limit.Limits.{Limits}
use Rattle.layout.specs.Positions.{onward}
use Rattle.writers.specs.Writing.{pasted, pasted_end}
use Rattle.finding.specs.declared.find.Site.{Site}
use Rattle.handling.specs.declared.take.Taken.{Taken}
use Rattle.handling.specs.Taking.{take_w}
use Rattle.rules.specs.Storing.{unchanged}
use Rattle.rules.specs.Editing.{Edited, edited, refused_edit, nil_w}

unfoldable pub moved_w : List ℕ → List ℕ → Site → Taken → List ℕ → Edited
moved_w ws notes s t fresh =
    edited
    (record {
      number = 0;
      list = onward s.scope 2;
      past = pass_list 64 ws notes (onward s.scope 2);
      listed = t.to;
      from = s.at;
      upto = onward s.at 1;
      fresh = pasted_end ws t.from t.upto t.to;
      gap = onward s.at 1;
      end = onward s.at 1;
      store = unchanged;
    })
    (pasted ws t.from t.upto fresh t.to)

unfoldable pub compensated_w : Limits → ℕ → List ℕ → List ℕ → ℕ → Site → List ℕ → Edited
compensated_w limits bound ws notes start s fresh =
    cond (eqb s.scope 0) (nil_w s start start 0 unchanged fresh)
    (let t = take_w 64 ws (onward s.scope 2) (scope_key (name_of (get_or ws s.at 0))) fresh in
    cond (eqb t.answer.upto 0) (nil_w s start start 0 unchanged t.out)
    (cond (eqb (process_end (onward limits.deepest 1 - s.level) ws bound 0 t.answer.from) 0) (edited (refused_edit 8) t.out)
    (moved_w ws notes s t.answer t.out)))
