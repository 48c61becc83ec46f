-- `journaled` of `cabinet::journal_bytes` meets its contract: the parts of the scratch are as long as the rooms.
use mathlib.Core.Path.{refl, sym, ◌∙◌}
use borrow.Author.Rules.{rules}
use lib.ListN.{take}
use lib.Seq.{length-take-le}
use Rattle.stepping.proofs.Refused.{is_refused}
use Rattle.cabinet.proofs.Journaling.{left_alone, fits_scratch, made_answer, made_out, fits_words, made_journal, sized_answer, sized_output, sized_journal}
use Rattle.cabinet.proofs.journal_bytes.journaled.Goals as goal

pub returns-in_err-c : goal.returns-in_err-c
returns-in_err-c c =
    let r = c.room_of-room.ensures in
    let t = c.room_of-most.ensures in
    let room = length-take-le _ c.args.res.now r.1 ∙ r.0 in
    let most = length-take-le _ c.args.words.now t.1 ∙ t.0 in
    let left = left_alone _ c.args.m.few c.args.ws.now _ (take c.room_of-room.result c.args.res.now) (take c.room_of-most.result c.args.words.now) _ (c.in_err-c.ensures {u = tt}).0 c.args.out.now c.args.journal.now (is_refused _) in
    let a = left.answer ∙ sized_answer _ refl _ room most in
    record {
      answered = search (rules, a);
      wrote = left.out_kept ∙ sized_output _ refl _ room most _;
      noted = left.journal_kept ∙ sized_journal _ refl _ room most _;
    }

pub slice_bounds-spread-end : goal.slice_bounds-spread-end
slice_bounds-spread-end c =
    let e = c.in_ok-c.ensures {u = tt} in
    fits_scratch _ c.args.m.few _ _ (take c.room_of-room.result c.args.res.now) (take c.room_of-most.result c.args.words.now) _ e.0 c.args.out.now c.args.journal.now refl _ e.1 c.from-n.result c.from-n.ensures

pub slice_bounds-spread-end-2 : goal.slice_bounds-spread-end-2
slice_bounds-spread-end-2 c =
    let e = c.in_ok-c.ensures {u = tt} in
    sym (length-take-le _ _ (fits_scratch _ c.args.m.few _ _ (take c.room_of-room.result c.args.res.now) (take c.room_of-most.result c.args.words.now) _ e.0 c.args.out.now c.args.journal.now refl _ e.1 c.from-n.result c.from-n.ensures))

pub slice_bounds-lay-end : goal.slice_bounds-lay-end
slice_bounds-lay-end c =
    let e = c.in_ok-c.ensures {u = tt} in
    sym (length-take-le _ _ (fits_scratch _ c.args.m.few _ _ (take c.room_of-room.result c.args.res.now) (take c.room_of-most.result c.args.words.now) _ e.0 c.args.out.now c.args.journal.now refl _ e.1 c.from-n.result c.from-n.ensures))

pub slice_bounds-spread-end-3 : goal.slice_bounds-spread-end-3
slice_bounds-spread-end-3 c =
    let e = c.in_ok-c.ensures {u = tt} in
    sym (length-take-le _ _ (fits_words _ c.args.m.few _ _ (take c.room_of-room.result c.args.res.now) (take c.room_of-most.result c.args.words.now) _ e.0 c.args.out.now c.args.journal.now refl _ e.1 c.from-n.result c.from-n.ensures _ _ c.lay-end.ensures.0 c.lay-end.ensures.1))

pub returns : goal.returns
returns c =
    let e = c.in_ok-c.ensures {u = tt} in
    let r = c.room_of-room.ensures in
    let t = c.room_of-most.ensures in
    let room = length-take-le _ c.args.res.now r.1 ∙ r.0 in
    let most = length-take-le _ c.args.words.now t.1 ∙ t.0 in
    let res = take c.room_of-room.result c.args.res.now in
    let words = take c.room_of-most.result c.args.words.now in
    record {
      answered = made_answer _ c.args.m.few _ _ res words _ e.0 c.args.out.now c.args.journal.now refl _ e.1 c.from-n.result c.from-n.ensures ∙ sized_answer _ refl _ room most;
      wrote =
          c.spread.ensures ∙ made_out _ c.args.m.few _ _ res words _ e.0 c.args.out.now c.args.journal.now refl _ e.1 c.from-n.result c.from-n.ensures
          ∙ sized_output _ refl _ room most _;
      noted =
          c.spread-2.ensures ∙ made_journal _ c.args.m.few _ _ res words _ e.0 c.args.out.now c.args.journal.now refl _ e.1 c.from-n.result c.from-n.ensures _ _ c.lay-end.ensures.0 c.lay-end.ensures.1
          ∙ sized_journal _ refl _ room most _;
    }
