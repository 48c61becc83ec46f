-- Nothing stands in what is no context; elsewhere the place asks for a kind, and what is read is read in the stratum.
use Prim.Native.Nat.{◌/◌}
use native.Mathlib.Omega.{arith}
use mathlib.Core.Path.{sym, ap, ◌∙◌}
use Rattle.layout.specs.Kinds.{kind_named}
use Rattle.reading.specs.Walk.{end_as, process_end}
use Rattle.reading.proofs.Placed.{place_none, place_some}
use Rattle.reading.proofs.reader.read.Goals as goal

pub returns-then-not-may_stand : goal.returns-then-not-may_stand
returns-then-not-may_stand c =
    let a = c.args in
    let low = c.if-context-ge-CONTEXTS.false in
    place_none a.ws.now (λ i. (c.type_inv.ws i).fits) a.bound a.depth a.at a.context (omega (arith, low)) _ (c.of.ensures ∙ ap (λ w. kind_named (w / 2048)) c.word.ensures)
    (sym c.may_stand.ensures ∙ c.if-not-may_stand.true)

pub returns : goal.returns
returns c =
    let a = c.args in
    let low = c.if-context-ge-CONTEXTS.false in
    c.process.ensures
    ∙ ap end_as
    (ap (λ n. process_end a.depth a.ws.now a.bound n a.at) c.stratum.ensures
    ∙ place_some a.ws.now (λ i. (c.type_inv.ws i).fits) a.bound a.depth a.at a.context (omega (arith, low)) _ (c.of.ensures ∙ ap (λ w. kind_named (w / 2048)) c.word.ensures)
    (sym c.may_stand.ensures ∙ c.if-not-may_stand.false))
