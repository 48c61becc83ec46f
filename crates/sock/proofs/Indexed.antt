-- A call that is lent an index: 17 where that lists no serials, and else what it is without the index, with the serials listed then.
-- Assumes nothing.
use Prim.Native.Nat.{ℕ}
use mathlib.Core.Path.{◌≡◌, refl, ap}
use mathlib.Core.Option.{none, some}
use mathlib.Core.List.{List}
use lib.ListN.{length}
use Rattle.sock.specs.Configuration.{Limits, read_config}
use Rattle.sock.specs.Calls.{index_short, Result, refused, done, ◌>>=◌, ◌!◌, Numbers, Stepped, answer_of, output_of}
use Rattle.sock.specs.Journal.{journal_step, journal_after, journal_answer, journal_output, journal_written, take_back, taken_of, restored_over, take_back_answer, take_back_output}
use Rattle.sock.specs.Index.{listed, open_of, open_after, mapped, indexed_step, step_of, open_in, indexed_answer, indexed_output, indexed_journal, indexed_back, restored_in, reopened, indexed_taken, indexed_restored}

module _ (limits : Limits) (ws index : List ℕ) where
  pub step_unlisted : listed index ≡ none → (k : Numbers) (room journalRoom : ℕ) → indexed_step limits ws k room journalRoom index ≡ refused index_short
  unfolding indexed_step ◌>>=◌ ◌!◌
  step_unlisted e k room journalRoom = rw e

  pub back_unlisted : listed index ≡ none → (journal : List ℕ) (room : ℕ) → indexed_back limits ws journal room index ≡ refused index_short
  unfolding indexed_back ◌>>=◌ ◌!◌
  back_unlisted e journal room = rw e

  module _ {ss : List ℕ} (e : listed index ≡ some ss) where
    -- a step, and the serials then
    module _ (k : Numbers) (room journalRoom : ℕ) where
      pub step_listed : step_of (indexed_step limits ws k room journalRoom index) ≡ journal_step limits ws k room journalRoom
      unfolding indexed_step mapped ◌>>=◌ ◌!◌
      step_listed = rw e (by (journal_step limits ws k room journalRoom))
        where
          by : (r : Result Stepped) → step_of (r >>= λ s. done (record { stepped = s; serials = open_after s ss })) ≡ r
          by (refused r) = refl
          by (done s) = refl

      pub step_serials : open_in (indexed_step limits ws k room journalRoom index) ≡ mapped (λ s. open_after s ss) (journal_step limits ws k room journalRoom)
      unfolding indexed_step mapped ◌>>=◌ ◌!◌
      step_serials = rw e (by (journal_step limits ws k room journalRoom))
        where
          by : (r : Result Stepped) → open_in (r >>= λ s. done (record { stepped = s; serials = open_after s ss })) ≡ mapped (λ s. open_after s ss) r
          by (refused r) = refl
          by (done s) = refl

    -- a taking back, and the serials then
    module _ (journal : List ℕ) (room : ℕ) where
      pub back_listed : restored_in (indexed_back limits ws journal room index) ≡ take_back limits ws journal room
      unfolding indexed_back mapped ◌>>=◌ ◌!◌
      back_listed = rw e (by (take_back limits ws journal room))
        where
          by : (r : Result (List ℕ)) → restored_in (r >>= λ old. done (record { words = old; serials = open_of (read_config limits old) })) ≡ r
          by (refused r) = refl
          by (done old) = refl

      pub back_serials : reopened (indexed_back limits ws journal room index) ≡ mapped (λ old. open_of (read_config limits old)) (take_back limits ws journal room)
      unfolding indexed_back mapped ◌>>=◌ ◌!◌
      back_serials = rw e (by (take_back limits ws journal room))
        where
          by :
              (r : Result (List ℕ)) →
              reopened (r >>= λ old. done (record { words = old; serials = open_of (read_config limits old) })) ≡ mapped (λ old. open_of (read_config limits old)) r
          by (refused r) = refl
          by (done old) = refl

    -- so all that a call answers and writes besides the index is as without it
    module _ (k : Numbers) (out journal : List ℕ) where
      pub answer_listed : indexed_answer limits ws k out journal index ≡ journal_answer limits ws k out journal
      unfolding indexed_answer journal_answer
      answer_listed = ap answer_of (step_listed k (length out) (length journal))

      pub output_listed : indexed_output limits ws k out journal index ≡ journal_output limits ws k out journal
      unfolding indexed_output journal_output
      output_listed = ap (λ r. output_of r out) (step_listed k (length out) (length journal))

      pub journal_listed : indexed_journal limits ws k out journal index ≡ journal_written limits ws k out journal
      unfolding indexed_journal journal_written
      journal_listed = ap (λ r. journal_after ws r journal) (step_listed k (length out) (length journal))

    module _ (journal out : List ℕ) where
      pub taken_listed : indexed_taken limits ws journal out index ≡ take_back_answer limits ws journal out
      unfolding indexed_taken take_back_answer
      taken_listed = ap taken_of (back_listed journal (length out))

      pub restored_listed : indexed_restored limits ws journal out index ≡ take_back_output limits ws journal out
      unfolding indexed_restored take_back_output
      restored_listed = ap (λ r. restored_over r out) (back_listed journal (length out))
