-- What the calls answer and leave behind, by the definitions: the questions, a beginning, a step and a taking back that are lent an index.
-- Assumes nothing.
use Prim.Native.Nat.{ℕ, suc, ◌≤◌, ◌<◌}
use native.Mathlib.Omega.{arith}
use mathlib.Core.Path.{◌≡◌, refl, sym, ap, ◌∙◌}
use mathlib.Core.Bool.{true, false}
use mathlib.Core.List.{List, [], ◌∷◌, ◌++◌}
use Rattle.std.specs.Prelude.{Err}
use lib.Dec.{eqb}
use lib.ListN.{length, get_or, take, drop, replicate, length-append}
use lib.Seq.{take-append_seam}
use borrow.Author.Tests.{le-leb, lt-leb, eqb-false}
use Rattle.sock.specs.Configuration.{Config, standard, read_config}
use Rattle.sock.specs.Calls.{index_short, number, Result, refused, done, ◌>>=◌, ◌>>◌, ◌!◌, ◌unless◌, Numbers, Stepped, Answer, answer_of, output_of, over, start, passed, check_start}
use Rattle.sock.specs.Journal.{Taken, journal_step, journal_after, journal_answer, journal_output, journal_written, take_back, taken_of, restored_over, take_back_answer, take_back_output}
use Rattle.sock.specs.Index.{index_of, open_of, open_after, beginning, index_after, begin_answer, begin_index, IndexedStep, indexed_step, mapped, step_of, indexed_answer, indexed_output, indexed_journal, indexed_index, IndexedBack, indexed_back, restored_in, indexed_taken, indexed_restored, indexed_relisted, told_of, asked, open_count, oldest}
use Rattle.sock.proofs.Accepted.{number_positive}
use Rattle.layout.specs.declared.refusal.Refusal.TheVariants.{NoIndex}
use Rattle.stepping.specs.Answers.{told}
use Rattle.index.specs.Form.{in_order, serials_in, cleared, open_by}
use Rattle.index.proofs.Forming.{listed_is, unlisted_is, laid_as}

-- ---- the questions

module _ (index : List ℕ) where
  pub count_told : in_order index ≡ true → record { number = 0; value = get_or index 0 0 } ≡ open_count index
  unfolding open_count asked told_of
  count_told e = rw (listed_is index e)

  pub count_refused : in_order index ≡ false → record { number = 17; value = 0 } ≡ open_count index
  unfolding open_count asked told_of
  count_refused e = rw (unlisted_is index e)

  pub oldest_told : in_order index ≡ true → record { number = 0; value = get_or index 1 0 } ≡ oldest index
  unfolding oldest asked told_of
  oldest_told e = rw (listed_is index e)

  pub oldest_refused : in_order index ≡ false → record { number = 17; value = 0 } ≡ oldest index
  unfolding oldest asked told_of
  oldest_refused e = rw (unlisted_is index e)

-- ---- beginning

never_zero : (n : ℕ) → eqb n 0 ≡ false → n ≡ 0 → ⊥
never_zero n e = eqb-false n 0 e

none_laid : (m : ℕ) (index : List ℕ) → replicate (suc m) 0 ++ drop (suc m) index ≡ 0 ∷ (replicate m 0 ++ drop (suc m) index)
none_laid m index = refl

pub all_cleared : (index : List ℕ) → cleared 0 index ≡ over (index_of []) index
all_cleared index = none_laid 2048 index ∙ sym (laid_as [] index (omega arith))

as_passed : (x : Result (List ℕ)) → elim x [ refused r ↦ number r | done serials ↦ 0 ] ≡ passed x
unfolding passed
as_passed (refused r) = refl
as_passed (done serials) = refl

module _ (ws index : List ℕ) where
  pub answer_is : begin_answer standard ws index ≡ passed (beginning standard ws (length index))
  unfolding begin_answer
  answer_is = as_passed (beginning standard ws (length index))

  pub short_is : length index < 2049 → beginning standard ws (length index) ≡ refused index_short
  unfolding beginning ◌>>◌ ◌unless◌
  short_is h = rw (lt-leb 2049 (length index) h)

  pub begin_short : length index < 2049 → (17 ≡ begin_answer standard ws index) × (index ≡ begin_index standard ws index)
  unfolding begin_index index_after passed
  begin_short h = (sym (answer_is ∙ ap passed (short_is h)), sym (ap (λ x. index_after x index) (short_is h)))

  abbrev pub begun : Result Config → Result (List ℕ)
  begun x = x >>= λ c. done []

  pub begins : 2049 ≤ length index → beginning standard ws (length index) ≡ begun (start standard ws)
  unfolding beginning ◌>>◌ ◌unless◌
  begins h = rw (le-leb 2049 (length index) h)

  pub begun_passed : (x : Result Config) → passed (begun x) ≡ passed x
  unfolding passed ◌>>=◌
  begun_passed (refused r) = refl
  begun_passed (done c) = refl

  answer_by : (x : Result Config) → beginning standard ws (length index) ≡ begun x → begin_answer standard ws index ≡ passed x
  answer_by x e = answer_is ∙ ap passed e ∙ begun_passed x

  refused_keeps : (x : Result Config) → beginning standard ws (length index) ≡ begun x → (passed x ≡ 0 → ⊥) → index ≡ begin_index standard ws index
  unfolding begin_index passed ◌>>=◌ index_after
  refused_keeps (refused r) e h = rw e
  refused_keeps (done c) e h = absurd (h refl)

  done_lays : (x : Result Config) → beginning standard ws (length index) ≡ begun x → passed x ≡ 0 → over (index_of []) index ≡ begin_index standard ws index
  unfolding begin_index passed ◌>>=◌ index_after
  done_lays (refused r) e h = absurd (never_zero (number r) (number_positive r) h)
  done_lays (done c) e h = rw e

  module _ (long : 2049 ≤ length index) (n : ℕ) (e : n ≡ check_start standard ws) where
    by_start : n ≡ passed (start standard ws)
    unfolding check_start
    by_start = e

    pub begin_refused : (n ≡ 0 → ⊥) → (n ≡ begin_answer standard ws index) × (index ≡ begin_index standard ws index)
    begin_refused h =
        (by_start ∙ sym (answer_by (start standard ws) (begins long)), refused_keeps (start standard ws) (begins long) (λ z. h (by_start ∙ z)))

    pub begin_done : n ≡ 0 → (0 ≡ begin_answer standard ws index) × (over (index_of []) index ≡ begin_index standard ws index)
    begin_done h =
        let z : passed (start standard ws) ≡ 0 = sym by_start ∙ h in
        (sym (answer_by (start standard ws) (begins long) ∙ z), done_lays (start standard ws) (begins long) z)

-- ---- a step

module _ (ws : List ℕ) (k : Numbers) (out journal index : List ℕ) where
  abbrev stepped : Result IndexedStep
  stepped = indexed_step standard ws k (length out) (length journal) index

  module _ (e : in_order index ≡ false) where
    step_none : stepped ≡ refused index_short
    unfolding indexed_step ◌!◌ ◌>>=◌
    step_none = rw (unlisted_is index e)

    pub step_unlisted :
        (told (Err NoIndex) ≡ indexed_answer standard ws k out journal index)
        × ((out ≡ indexed_output standard ws k out journal index)
        × ((journal ≡ indexed_journal standard ws k out journal index) × (index ≡ indexed_index standard ws k out journal index)))
    unfolding indexed_answer indexed_output indexed_journal indexed_index mapped answer_of output_of journal_after index_after
    step_unlisted = rw step_none (refl, (refl, (refl, refl)))

  abbrev follows : Result Stepped → Result IndexedStep
  follows x = x >>= λ s. done (record { stepped = s; serials = open_after s (serials_in index) })

  step_of_lem : (x : Result Stepped) → step_of (follows x) ≡ x
  unfolding mapped ◌>>=◌
  step_of_lem (refused r) = refl
  step_of_lem (done s) = refl

  module _ (e : in_order index ≡ true) where
    step_some : stepped ≡ follows (journal_step standard ws k (length out) (length journal))
    unfolding indexed_step ◌!◌ ◌>>=◌
    step_some = rw (listed_is index e)

    same_step : journal_step standard ws k (length out) (length journal) ≡ step_of stepped
    same_step = sym (ap step_of step_some ∙ step_of_lem (journal_step standard ws k (length out) (length journal)))

    step_answer : journal_answer standard ws k out journal ≡ indexed_answer standard ws k out journal index
    unfolding journal_answer indexed_answer
    step_answer = ap answer_of same_step

    step_output : journal_output standard ws k out journal ≡ indexed_output standard ws k out journal index
    unfolding journal_output indexed_output
    step_output = ap (λ x. output_of x out) same_step

    step_journal : journal_written standard ws k out journal ≡ indexed_journal standard ws k out journal index
    unfolding journal_written indexed_journal
    step_journal = ap (λ x. journal_after ws x journal) same_step

    module _ (a : Answer) where
      refused_same : (x : Result Stepped) → stepped ≡ follows x → a ≡ answer_of x → (a.number ≡ 0 → ⊥) → index ≡ indexed_index standard ws k out journal index
      unfolding indexed_index mapped index_after answer_of ◌>>=◌
      refused_same (refused r) q p h = rw q
      refused_same (done s) q p h = absurd (h (ap (λ (b : Answer). b.number) p))

      done_opens :
          (x : Result Stepped) → stepped ≡ follows x → a ≡ answer_of x → a.number ≡ 0 →
          over (index_of (open_by a.kind a.serial (serials_in index))) index ≡ indexed_index standard ws k out journal index
      unfolding indexed_index mapped index_after answer_of ◌>>=◌ open_after open_by
      done_opens (refused r) q p h = absurd (never_zero (number r) (number_positive r) (sym (ap (λ (b : Answer). b.number) p) ∙ h))
      done_opens (done s) q p h = rw (q, p)

      module _ (p : a ≡ journal_answer standard ws k out journal) where
        by_step : a ≡ answer_of (journal_step standard ws k (length out) (length journal))
        unfolding journal_answer
        by_step = p

        index_same : (a.number ≡ 0 → ⊥) → index ≡ indexed_index standard ws k out journal index
        index_same h = refused_same (journal_step standard ws k (length out) (length journal)) step_some by_step h

        index_opens : a.number ≡ 0 → over (index_of (open_by a.kind a.serial (serials_in index))) index ≡ indexed_index standard ws k out journal index
        index_opens h = done_opens (journal_step standard ws k (length out) (length journal)) step_some by_step h

        -- ---- what the code has where it returns

        module _ (out' journal' : List ℕ) (o : out' ≡ journal_output standard ws k out journal) (j : journal' ≡ journal_written standard ws k out journal) where
          abbrev Returned : List ℕ → Type 0
          Returned index' =
              (a ≡ indexed_answer standard ws k out journal index)
              × ((out' ≡ indexed_output standard ws k out journal index)
              × ((journal' ≡ indexed_journal standard ws k out journal index) × (index' ≡ indexed_index standard ws k out journal index)))

          pub step_refuses : (a.number ≡ 0 → ⊥) → Returned index
          step_refuses h = (p ∙ step_answer, (o ∙ step_output, (j ∙ step_journal, index_same h)))

          pub step_accepts : a.number ≡ 0 → (index' : List ℕ) → index' ≡ over (index_of (open_by a.kind a.serial (serials_in index))) index → Returned index'
          step_accepts h index' f = (p ∙ step_answer, (o ∙ step_output, (j ∙ step_journal, f ∙ index_opens h)))

-- ---- taking back

module _ (ws journal out index : List ℕ) where
  abbrev back : Result IndexedBack
  back = indexed_back standard ws journal (length out) index

  module _ (e : in_order index ≡ false) where
    back_none : back ≡ refused index_short
    unfolding indexed_back ◌!◌ ◌>>=◌
    back_none = rw (unlisted_is index e)

    pub back_unlisted :
        (record { number = 17; length = 0 } ≡ indexed_taken standard ws journal out index)
        × ((out ≡ indexed_restored standard ws journal out index) × (index ≡ indexed_relisted standard ws journal out index))
    unfolding indexed_taken indexed_restored indexed_relisted mapped taken_of restored_over index_after
    back_unlisted = rw back_none (refl, (refl, refl))

  abbrev relists : Result (List ℕ) → Result IndexedBack
  relists x = x >>= λ old. done (record { words = old; serials = open_of (read_config standard old) })

  words_of_lem : (x : Result (List ℕ)) → restored_in (relists x) ≡ x
  unfolding mapped ◌>>=◌
  words_of_lem (refused r) = refl
  words_of_lem (done old) = refl

  module _ (e : in_order index ≡ true) where
    back_some : back ≡ relists (take_back standard ws journal (length out))
    unfolding indexed_back ◌!◌ ◌>>=◌
    back_some = rw (listed_is index e)

    same_back : take_back standard ws journal (length out) ≡ restored_in back
    same_back = sym (ap restored_in back_some ∙ words_of_lem (take_back standard ws journal (length out)))

    back_taken : take_back_answer standard ws journal out ≡ indexed_taken standard ws journal out index
    unfolding take_back_answer indexed_taken
    back_taken = ap taken_of same_back

    back_restored : take_back_output standard ws journal out ≡ indexed_restored standard ws journal out index
    unfolding take_back_output indexed_restored
    back_restored = ap (λ x. restored_over x out) same_back

    module _ (t : Taken) where
      refused_keeps_index : (x : Result (List ℕ)) → back ≡ relists x → t ≡ taken_of x → (t.number ≡ 0 → ⊥) → index ≡ indexed_relisted standard ws journal out index
      unfolding indexed_relisted mapped index_after taken_of ◌>>=◌
      refused_keeps_index (refused r) q p h = rw q
      refused_keeps_index (done old) q p h = absurd (h (ap (λ (b : Taken). b.number) p))

      -- what was restored stands first in the output
      done_relists :
          (x : Result (List ℕ)) (out' : List ℕ) → back ≡ relists x → t ≡ taken_of x → out' ≡ restored_over x out → t.number ≡ 0 →
          (t.length ≤ length out') × (over (index_of (open_of (read_config standard (take t.length out')))) index ≡ indexed_relisted standard ws journal out index)
      unfolding indexed_relisted mapped index_after taken_of restored_over ◌>>=◌
      done_relists (refused r) out' q p o h = absurd (never_zero (number r) (number_positive r) (sym (ap (λ (b : Taken). b.number) p) ∙ h))
      done_relists (done old) out' q p o h =
          let size : t.length ≡ length old = ap (λ (b : Taken). b.length) p in
          let first : take t.length out' ≡ old = ap (λ n. take n out') size ∙ ap (take (length old)) o ∙ take-append_seam old (drop (length old) out) in
          (omega (arith, size, ap length o, length-append old (drop (length old) out)), rw (q, first))

      module _ (p : t ≡ take_back_answer standard ws journal out) where
        by_back : t ≡ taken_of (take_back standard ws journal (length out))
        unfolding take_back_answer
        by_back = p

        relisted_same : (t.number ≡ 0 → ⊥) → index ≡ indexed_relisted standard ws journal out index
        relisted_same h = refused_keeps_index (take_back standard ws journal (length out)) back_some by_back h

        relisted_done :
            (out' : List ℕ) → out' ≡ take_back_output standard ws journal out → t.number ≡ 0 →
            (t.length ≤ length out') × (over (index_of (open_of (read_config standard (take t.length out')))) index ≡ indexed_relisted standard ws journal out index)
        unfolding take_back_output
        relisted_done out' o h = done_relists (take_back standard ws journal (length out)) out' back_some by_back o h

        -- ---- what the code has where it returns

        module _ (out' : List ℕ) (o : out' ≡ take_back_output standard ws journal out) where
          abbrev Came : List ℕ → Type 0
          Came index' =
              (t ≡ indexed_taken standard ws journal out index)
              × ((out' ≡ indexed_restored standard ws journal out index) × (index' ≡ indexed_relisted standard ws journal out index))

          pub back_refuses : (t.number ≡ 0 → ⊥) → Came index
          back_refuses h = (p ∙ back_taken, (o ∙ back_restored, relisted_same h))

          module _ (h : t.number ≡ 0) (n : ℕ) (l : n ≡ t.length) where
            pub back_within : n ≤ length out'
            back_within = omega (arith, (relisted_done out' o h).0)

            pub back_accepts : (index' : List ℕ) → index' ≡ over (index_of (open_of (read_config standard (take n out')))) index → Came index'
            back_accepts index' f = (
              p ∙ back_taken,
              (
                o ∙ back_restored,
                f ∙ ap (λ m. over (index_of (open_of (read_config standard (take m out')))) index) l ∙ (relisted_done out' o h).1,
              ),
            )
