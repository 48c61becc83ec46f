-- `advance` meets its contract.
use Rattle.std.proofs.Common.{ℕ, ◌≡◌, rules, length, take, replicate, refl, ap, ◌∙◌}
use Rattle.std.proofs.lemmas.List.{take_at, length-replicate}
use Rattle.sock.specs.Bytes.{numbers_in}
use Rattle.stepping.proofs.Refused.{is_refused}
use Rattle.handover.proofs.Turning.{as_step, refused_keeps, accepted_moves}
use Rattle.handover.proofs.state.Words.advance.Goals as goal

pub returns-in_err-given-clause-answer : goal.returns-in_err-given-clause-answer
returns-in_err-given-clause-answer c =
    let same : c.as_slice.result.now ≡ c.args.self.now = cc in
    let h = rw same at c.in_err-given.ensures.answer in
    let a = as_step c.args.self.now (numbers_in c.args.bytes.now) (replicate 8192 0) _ (length-replicate {A = ℕ} 8192 0) h in
    search (rules, a)

pub returns-in_err-given-clause-words : goal.returns-in_err-given-clause-words
returns-in_err-given-clause-words c =
    let same : c.as_slice.result.now ≡ c.args.self.now = cc in
    let h = rw same at c.in_err-given.ensures.answer in
    refused_keeps c.args.self.now (numbers_in c.args.bytes.now) (replicate 8192 0) _ (length-replicate {A = ℕ} 8192 0) h (is_refused _)

pub returns-clause-answer : goal.returns-clause-answer
returns-clause-answer c =
    let same : c.as_slice.result.now ≡ c.args.self.now = cc in
    let h = rw same at c.in_ok-given.ensures.answer in
    as_step c.args.self.now (numbers_in c.args.bytes.now) (replicate 8192 0) _ (length-replicate {A = ℕ} 8192 0) h

pub returns-clause-words : goal.returns-clause-words
returns-clause-words c =
    let same : c.as_slice.result.now ≡ c.args.self.now = cc in
    let h = rw same at c.in_ok-given.ensures.answer in
    let o = rw same at c.in_ok-given.ensures.words in
    let size : length c.copy_from_slice.new.self ≡ c.from-length.result = search rules in
    take_at c.copy_from_slice.new.self _ c.from-length.result size
    ∙ c.copy_from_slice.ensures.after
    ∙ ap (λ n. take n c.stepped.new.out) c.from-length.ensures
    ∙ accepted_moves c.args.self.now (numbers_in c.args.bytes.now) (replicate 8192 0) _ (length-replicate {A = ℕ} 8192 0) h refl c.stepped.new.out o
