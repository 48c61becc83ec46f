-- `stepped` of `cabinet::index_bytes` meets its contract.
use Prim.Native.Nat.{ℕ}
use native.Mathlib.Omega.{arith}
use mathlib.Core.Path.{refl, sym, ◌∙◌}
use borrow.Author.Rules.{rules}
use lib.ListN.{length-replicate}
use Rattle.sock.specs.Bytes.{words_in}
use Rattle.stepping.proofs.Refused.{is_refused}
use Rattle.index.proofs.Forming.{listed_is}
use Rattle.cabinet.proofs.Indexing.{ordered_there, room_for, step_unlisted, step_answer, step_output, step_journal, index_same, index_opens}
use Rattle.cabinet.proofs.index_bytes.stepped.Goals as goal

as_answered_wrote_noted_followed : {A B C D : Type 0} → A × (B × (C × D)) → record { answered : A; wrote : B; noted : C; followed : D }
as_answered_wrote_noted_followed p = record { answered = p.0; wrote = p.1.0; noted = p.1.1.0; followed = p.1.1.1 }

pub returns-then-not-held_index : goal.returns-then-not-held_index
returns-then-not-held_index c = as_answered_wrote_noted_followed (step_unlisted c.args.config.now _ c.args.out.now c.args.journal.now c.args.index.now (sym c.held_index.ensures.ordered ∙ c.if-not-held_index.true))

pub returns-in_err-given : goal.returns-in_err-given
returns-in_err-given c =
    let e = listed_is (words_in c.args.index.now) (sym c.held_index.ensures.ordered ∙ c.if-not-held_index.false) in
    let r = c.in_err-given.ensures in
    let answer = step_answer c.args.config.now _ c.args.out.now c.args.journal.now c.args.index.now _ e _ r.answered in
    record {
      answered = search (rules, answer);
      wrote = r.wrote ∙ step_output c.args.config.now _ c.args.out.now c.args.journal.now c.args.index.now _ e;
      noted = r.noted ∙ step_journal c.args.config.now _ c.args.out.now c.args.journal.now c.args.index.now _ e;
      followed = index_same c.args.config.now _ c.args.out.now c.args.journal.now c.args.index.now _ e _ r.answered (is_refused _);
    }

pub follow-requires : goal.follow-requires
follow-requires c =
    ordered_there c.args.index.now _ _ (sym c.held_index.ensures.ordered ∙ c.if-not-held_index.false) (length-replicate {A = ℕ} 2049 0) c.held_index.ensures.held

pub spread-requires : goal.spread-requires
spread-requires c = omega (arith, room_for c.args.index.now (sym c.held_index.ensures.ordered ∙ c.if-not-held_index.false), c.follow.auto, c.held_index.auto, length-replicate {A = ℕ} 2049 0)

pub returns : goal.returns
returns c =
    let e = listed_is (words_in c.args.index.now) (sym c.held_index.ensures.ordered ∙ c.if-not-held_index.false) in
    let g = c.in_ok-given.ensures in
    record {
      answered = step_answer c.args.config.now _ c.args.out.now c.args.journal.now c.args.index.now _ e _ g.answered;
      wrote = g.wrote ∙ step_output c.args.config.now _ c.args.out.now c.args.journal.now c.args.index.now _ e;
      noted = g.noted ∙ step_journal c.args.config.now _ c.args.out.now c.args.journal.now c.args.index.now _ e;
      followed = c.spread.ensures ∙ index_opens c.args.config.now _ c.args.out.now c.args.journal.now c.args.index.now _ e _ g.answered refl _ _ _ (length-replicate {A = ℕ} 2049 0) c.held_index.ensures.held c.follow.ensures;
    }
