-- `taken_back` of `cabinet::index_bytes` meets its contract.
use native.Mathlib.Omega.{arith}
use Prim.Native.Nat.{ℕ}
use mathlib.Core.Path.{refl, sym, ap, ◌∙◌}
use borrow.Author.Rules.{rules}
use borrow.Author.Tests.{eqb-false}
use lib.ListN.{take, length-replicate}
use lib.Seq.{length-take-le}
use Rattle.std.specs.Prelude.{Ok}
use Rattle.sock.specs.Calls.{over}
use Rattle.sock.specs.Configuration.{standard, read_config}
use Rattle.sock.specs.Index.{index_of, open_of}
use Rattle.sock.specs.Bytes.{words_in}
use Rattle.layout.proofs.Refusing.{never_zero}
use Rattle.index.proofs.Forming.{listed_is}
use Rattle.cabinet.proofs.Numbered.{taken_packed}
use Rattle.cabinet.proofs.TakingBack.{back_short}
use Rattle.cabinet.proofs.Indexing.{room_for, back_unlisted, back_taken, back_restored, index_stays, index_lists}
use Rattle.cabinet.proofs.index_bytes.taken_back.Goals as goal

as_answered_wrote_relisted : {A B C : Type 0} → A × (B × C) → record { answered : A; wrote : B; relisted : C }
as_answered_wrote_relisted p = record { answered = p.0; wrote = p.1.0; relisted = p.1.1 }

pub returns-then-not-held_index : goal.returns-then-not-held_index
returns-then-not-held_index c = as_answered_wrote_relisted (back_unlisted c.args.config.now c.args.journal.now c.args.out.now c.args.index.now (sym c.held_index.ensures.ordered ∙ c.if-not-held_index.true))

pub returns-in_err-length : goal.returns-in_err-length
returns-in_err-length c =
    let e = listed_is (words_in c.args.index.now) (sym c.held_index.ensures.ordered ∙ c.if-not-held_index.false) in
    let t = c.in_err-length.ensures in
    let answer = back_taken c.args.config.now c.args.journal.now c.args.out.now c.args.index.now _ e _ t.answered in
    record {
      answered = search (rules, answer, taken_packed);
      wrote = t.wrote ∙ back_restored c.args.config.now c.args.journal.now c.args.out.now c.args.index.now _ e;
      relisted = index_stays c.args.config.now c.args.journal.now c.args.out.now c.args.index.now _ e _ t.answered (eqb-false _ 0 (never_zero c.in_err-length.field-0.0));
    }

pub slice_bounds-result-end : goal.slice_bounds-result-end
slice_bounds-result-end c =
    omega (arith, back_short c.args.config.now c.args.journal.now c.args.out.now _ c.in_ok-length.ensures.answered refl, c.take_back_bytes.auto.res, length-replicate {A = ℕ} 8192 0, c.from.ensures)

pub slice_bounds-list_anew-end : goal.slice_bounds-list_anew-end
slice_bounds-list_anew-end c =
    sym (length-take-le _ _ (omega (arith, back_short c.args.config.now c.args.journal.now c.args.out.now _ c.in_ok-length.ensures.answered refl, c.take_back_bytes.auto.res, length-replicate {A = ℕ} 8192 0, c.from.ensures)))

pub spread-requires : goal.spread-requires
spread-requires c = omega (arith, room_for c.args.index.now (sym c.held_index.ensures.ordered ∙ c.if-not-held_index.false), c.list_anew.auto, c.held_index.auto, length-replicate {A = ℕ} 2049 0)

pub returns : goal.returns
returns c =
    let e = listed_is (words_in c.args.index.now) (sym c.held_index.ensures.ordered ∙ c.if-not-held_index.false) in
    let t = c.in_ok-length.ensures in
    record {
      answered = taken_packed (Ok c.in_ok-length.length) ∙ back_taken c.args.config.now c.args.journal.now c.args.out.now c.args.index.now _ e _ t.answered;
      wrote = t.wrote ∙ back_restored c.args.config.now c.args.journal.now c.args.out.now c.args.index.now _ e;
      relisted = c.spread.ensures ∙ index_lists c.args.config.now c.args.journal.now c.args.out.now c.args.index.now _ e _ t.answered refl _ _ t.held _ _ _ (length-replicate {A = ℕ} 2049 0) c.held_index.ensures.held (c.list_anew.ensures ∙ ap (λ (n : ℕ). over (index_of (open_of (read_config standard (take n c.take_back_bytes.new.res)))) c.held_index.new.serials) c.from.ensures);
    }
