-- A call of the step, refused or done: a refused one hands on the words that it read, a done one the words of its result, which begin its
-- output.
-- Assumes nothing.
use Prim.Native.Nat.{ℕ}
use mathlib.Core.Path.{◌≡◌, refl, subst, ap, sym, ◌∙◌}
use mathlib.Core.Bool.{true, false}
use mathlib.Core.Option.{Option, none}
use mathlib.Core.List.{List, ◌++◌}
use lib.Dec.{T, eqb}
use lib.ListN.{length, drop}
use lib.Seq.{take-append_seam}
use Rattle.sock.specs.Configuration.{Limits, encode}
use Rattle.sock.specs.Calls.{Refusal, unreadable, nobody_there, no_move, no_partner, no_fit, installing, serials_spent, deep, long, short, not_fresh, unknown_serial, not_decimal, unmatched, journal_short, index_short, house_full, still_at_work, number, Result, refused, done, Numbers, Stepped, step, Answer, answer_of, output_of, over}
use Rattle.sock.specs.Runs.{Call, call, room_for, outcome, call_answer, call_output, accepted, next_words}
use Rattle.sock.specs.Journal.{journal_of, lent_step}
use Rattle.sock.proofs.Journal.{lent_done, done_lent}

-- no refusal has number 0
pub number_positive : (r : Refusal) → eqb (number r) 0 ≡ false
number_positive unreadable = refl
number_positive nobody_there = refl
number_positive no_move = refl
number_positive no_partner = refl
number_positive no_fit = refl
number_positive installing = refl
number_positive serials_spent = refl
number_positive deep = refl
number_positive long = refl
number_positive short = refl
number_positive not_fresh = refl
number_positive unknown_serial = refl
number_positive not_decimal = refl
number_positive unmatched = refl
number_positive journal_short = refl
number_positive index_short = refl
number_positive house_full = refl
number_positive still_at_work = refl

module _ (limits : Limits) (ws : List ℕ) (k : Call) where
  abbrev result : Result Stepped
  result = outcome limits ws k

  abbrev answer : Answer
  answer = call_answer limits ws k

  abbrev output : List ℕ
  output = call_output limits ws k

  pub record Refused : Type 0 where
    pub not_accepted : accepted limits ws k ≡ false
    pub kept : next_words limits ws k ≡ ws

  pub record Done (s : Stepped) : Type 0 where
    pub outcome_done : result ≡ done s
    pub step_done : step limits ws k.numbers (length k.output) ≡ done s
    pub is_accepted : accepted limits ws k ≡ true
    pub serial : answer.serial ≡ s.serial
    pub length_answered : answer.length ≡ length (encode s.config)
    pub next : next_words limits ws k ≡ encode s.config
    pub laid : output ≡ over (encode s.config) k.output

  pub data Called : Type 0 where
    called_refused : Refused → Called
    called_done : (s : Stepped) → Done s → Called

  pub refuses : (r : Refusal) → result ≡ refused r → Refused
  unfolding accepted next_words call_answer answer_of
  refuses r e =
      let a : eqb (answer_of result).number 0 ≡ false = ap (λ x. eqb (answer_of x).number 0) e ∙ number_positive r in
      record { not_accepted = a; kept = rw a }

  pub does : (s : Stepped) → result ≡ done s → Done s
  unfolding accepted next_words call_answer call_output outcome answer_of output_of
  does s e =
      let a : eqb (answer_of result).number 0 ≡ true = ap (λ x. eqb (answer_of x).number 0) e in
      let n : (answer_of result).length ≡ length (encode s.config) = ap (λ x. (answer_of x).length) e in
      let o : output_of result k.output ≡ over (encode s.config) k.output = ap (λ x. output_of x k.output) e in
      record {
        outcome_done = e;
        step_done = lent_done limits ws k.numbers (length k.output) k.journal e;
        is_accepted = a;
        serial = ap (λ x. (answer_of x).serial) e;
        length_answered = n;
        next = rw (a, n, o) (take-append_seam (encode s.config) (drop (length (encode s.config)) k.output));
        laid = o;
      }

  pub called : Called
  called = by result refl
    where
      by : (r : Result Stepped) → result ≡ r → Called
      by (refused r) e = called_refused (refuses r e)
      by (done s) e = called_done s (does s e)

  pub accepted_done : T (accepted limits ws k) → (s : Stepped) × Done s
  accepted_done t = by called
    where
      by : Called → (s : Stepped) × Done s
      by (called_refused r) = absurd (subst T r.not_accepted t)
      by (called_done s d) = (s, d)

  -- an accepted call: the words that the next one reads are its result's, as many as answered, and they begin its output
  pub accepted_output :
      T (accepted limits ws k) →
      (s : Stepped)
      × (step limits ws k.numbers (length k.output) ≡ done s)
      × (next_words limits ws k ≡ encode s.config)
      × ((call_answer limits ws k).length ≡ length (next_words limits ws k))
      × (call_output limits ws k ≡ next_words limits ws k ++ drop (length (next_words limits ws k)) k.output)
  accepted_output t =
      let (s, d) = accepted_done t in
      (s, d.step_done, d.next, d.length_answered ∙ ap length (sym d.next), d.laid ∙ ap (λ u. over u k.output) (sym d.next))

-- a step that is done is accepted with every journal that has room for its own
module _ (limits : Limits) (ws : List ℕ) (k : Numbers) (out : List ℕ) (s : Stepped) (e : step limits ws k (length out) ≡ done s) where
  plain : outcome limits ws (call k out none) ≡ done s
  unfolding outcome lent_step
  plain = e

  pub plain_next : next_words limits ws (call k out none) ≡ encode s.config
  plain_next = (does limits ws (call k out none) s plain).next

  pub lent_answers :
      (journal : Option (List ℕ)) → room_for (length (journal_of ws (next_words limits ws (call k out none)))) journal →
      ((call_answer limits ws (call k out journal)).number ≡ 0) × ((call_answer limits ws (call k out journal)).serial ≡ s.serial)
  unfolding call_answer outcome answer_of
  lent_answers journal h =
      let r : room_for (length (journal_of ws (encode s.config))) journal =
      subst (λ (us : List ℕ). room_for (length (journal_of ws us)) journal) plain_next h in
      let d : lent_step limits ws k (length out) journal ≡ done s = done_lent limits ws k (length out) journal e r in
      (rw d, rw d)
