-- `take_back` of `journal::back` meets its contract.
use mathlib.Core.Path.{refl, sym, ◌∙◌}
use lib.ListN.{length}
use Rattle.journal.proofs.Restoring.{sound_as, gives_refused, gives_same, back_cut, back_unsound, back_left, back_checked, back_answer, back_output, unread_output}
use Rattle.journal.proofs.back.take_back.Goals as goal

pub returns-in_err-check_readable-clause-wrote : goal.returns-in_err-check_readable-clause-wrote
returns-in_err-check_readable-clause-wrote c = unread_output _ _ _ _ (c.in_err-check_readable.ensures {u = tt})

pub returns-then-journal-lt4 : goal.returns-then-journal-lt4
returns-then-journal-lt4 c =
    let h = sym (c.in_ok-check_readable.ensures {u = tt}) in
    let g = gives_refused _ (c.args.out.now) (back_cut (c.args.ws.now) (c.args.journal.now) (length (c.args.out.now)) h (c.if-journal-lt4.true)) refl in
    record { answered = back_answer (c.args.ws.now) (c.args.journal.now) (c.args.out.now) _ _ g; wrote = back_output (c.args.ws.now) (c.args.journal.now) (c.args.out.now) _ _ g }

pub returns-then-not-sound : goal.returns-then-not-sound
returns-then-not-sound c =
    let h = sym (c.in_ok-check_readable.ensures {u = tt}) in
    let e = sym (sound_as _ (c.args.ws.now) (c.args.journal.now)) ∙ sym (c.sound.ensures) ∙ (c.if-not-sound.true) in
    let g = gives_refused _ (c.args.out.now) (back_unsound (c.args.ws.now) (c.args.journal.now) (length (c.args.out.now)) _ (c.counts_in-counts.ensures) h (c.if-journal-lt4.false) e) refl in
    record { answered = back_answer (c.args.ws.now) (c.args.journal.now) (c.args.out.now) _ _ g; wrote = back_output (c.args.ws.now) (c.args.journal.now) (c.args.out.now) _ _ g }

pub returns-then-not-left : goal.returns-then-not-left
returns-then-not-left c =
    let h = sym (c.in_ok-check_readable.ensures {u = tt}) in
    let e = sym (sound_as _ (c.args.ws.now) (c.args.journal.now)) ∙ sym (c.sound.ensures) ∙ (c.if-not-sound.false) in
    let d = sym (c.left.ensures) ∙ (c.if-not-left.true) in
    let g = gives_refused _ (c.args.out.now) (back_left (c.args.ws.now) (c.args.journal.now) (length (c.args.out.now)) _ (c.counts_in-counts.ensures) h (c.if-journal-lt4.false) e d) refl in
    record { answered = back_answer (c.args.ws.now) (c.args.journal.now) (c.args.out.now) _ _ g; wrote = back_output (c.args.ws.now) (c.args.journal.now) (c.args.out.now) _ _ g }

pub invariant_of-matching : goal.invariant_of-matching
invariant_of-matching c =
    let e = sym (sound_as _ (c.args.ws.now) (c.args.journal.now)) ∙ sym (c.sound.ensures) ∙ (c.if-not-sound.false) in
    record { fits = record { not_cut = c.if-journal-lt4.false; is_sound = e; is_left = sym (c.left.ensures) ∙ (c.if-not-left.false) } }

pub returns : goal.returns
returns c =
    let h = sym (c.in_ok-check_readable.ensures {u = tt}) in
    let e = sym (sound_as _ (c.args.ws.now) (c.args.journal.now)) ∙ sym (c.sound.ensures) ∙ (c.if-not-sound.false) in
    let x = back_checked (c.args.ws.now) (c.args.journal.now) (length (c.args.out.now)) _ (c.counts_in-counts.ensures) h (c.if-journal-lt4.false) (record { not_cut = c.if-journal-lt4.false; is_sound = e; is_left = sym (c.left.ensures) ∙ (c.if-not-left.false) }) in
    let g = gives_same _ (c.args.out.now) _ x (c.restore.ensures.answered) (c.restore.ensures.wrote) in
    record { answered = back_answer (c.args.ws.now) (c.args.journal.now) (c.args.out.now) _ _ g; wrote = back_output (c.args.ws.now) (c.args.journal.now) (c.args.out.now) _ _ g }
