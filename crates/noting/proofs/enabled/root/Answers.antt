-- What an engine runs is told by its kind, and is read and noted as what may stand anywhere.
use Prim.Native.Nat.{◌/◌}
use native.Mathlib.Omega.{arith}
use mathlib.Core.Path.{sym, ap, ◌∙◌}
use Rattle.layout.specs.Kinds.{kind_named}
use Rattle.reading.specs.Walk.{end_as, process_end}
use Rattle.reading.proofs.Placed.{place_none, place_some}
use Rattle.reading.proofs.Sets.{running_is, running_context}
use Rattle.noting.specs.Noting.{notes_w}
use Rattle.noting.proofs.Notes.{no_root_notes, root_notes}
use Rattle.noting.proofs.enabled.root.Goals as goal

pub returns-then-not-may_stand-clause-ended : goal.returns-then-not-may_stand-clause-ended
returns-then-not-may_stand-clause-ended c =
    let a = c.args in
    c.no_end.ensures.ended
    ∙ place_none a.reader.now.ws.now a.reader.now.words a.reader.now.bound a.depth a.at 11 (omega arith) _ (c.of.ensures ∙ ap (λ w. kind_named (w / 2048)) c.word.ensures)
    (sym c.may_stand.ensures ∙ c.if-not-may_stand.true)

pub returns-then-not-may_stand-clause-written : goal.returns-then-not-may_stand-clause-written
returns-then-not-may_stand-clause-written c =
    let a = c.args in
    c.no_end.ensures.written
    ∙ no_root_notes a.reader.now.ws.now a.reader.now.words a.reader.now.bound a.depth a.at a.notes.now _ (c.of.ensures ∙ ap (λ w. kind_named (w / 2048)) c.word.ensures)
    (sym c.may_stand.ensures ∙ c.if-not-may_stand.true)

pub invariant_of-noted : goal.invariant_of-noted
invariant_of-noted c = record { known = running_is }

pub noted-requires : goal.noted-requires
noted-requires c = let e = running_context in omega (arith, e)

pub returns-clause-ended : goal.returns-clause-ended
returns-clause-ended c =
    let a = c.args in
    let same =
    place_some a.reader.now.ws.now a.reader.now.words a.reader.now.bound a.depth a.at 11 (omega arith) _ (c.of.ensures ∙ ap (λ w. kind_named (w / 2048)) c.word.ensures)
    (sym c.may_stand.ensures ∙ c.if-not-may_stand.false) in
    c.noted.ensures.ended ∙ ap end_as (ap (λ n. process_end a.depth a.reader.now.ws.now a.reader.now.bound n a.at) running_context ∙ same)

pub returns-clause-written : goal.returns-clause-written
returns-clause-written c =
    let a = c.args in
    let same =
    root_notes a.reader.now.ws.now a.reader.now.words a.reader.now.bound a.depth a.at a.notes.now _ (c.of.ensures ∙ ap (λ w. kind_named (w / 2048)) c.word.ensures)
    (sym c.may_stand.ensures ∙ c.if-not-may_stand.false) in
    c.noted.ensures.written ∙ ap (λ n. notes_w a.depth a.reader.now.ws.now a.reader.now.bound n a.at a.notes.now) running_context ∙ same
