-- The journal, laid over an output one part after the other, as the writers do it.
-- Assumes nothing.
use Prim.Native.Nat.{ℕ, ◌+◌, ◌-◌, ◌%◌, ◌≤◌, ◌<◌}
use native.Mathlib.Omega.{arith}
use native.Mathlib.Nat.{mod-eq_of_lt}
use mathlib.Core.Path.{◌≡◌, refl, sym, ap, ◌∙◌}
use mathlib.Core.List.{List, [], ◌∷◌, ◌++◌}
use lib.ListN.{length, set, take, drop, length-append, length-drop}
use lib.Seq.{length-take-le}
use Rattle.sock.specs.Calls.{over}
use Rattle.sock.specs.Journal.{between, journal_by}
use Rattle.writers.specs.Writing.{pasted}
use Rattle.writers.proofs.Over.{pasted_over, end_of}
use Rattle.journal.specs.Laying.{counts, old_end, lay_w, lay_end}

-- ---- the journal

four : (a b f l : ℕ) (out : List ℕ) → 4 ≤ length out → set (set (set (set out 0 a) 1 b) 2 f) 3 l ≡ over (a ∷ b ∷ f ∷ l ∷ []) out
four a b f l [] h = absurd (omega arith)
four a b f l (o1 ∷ []) h = absurd (omega arith)
four a b f l (o1 ∷ o2 ∷ []) h = absurd (omega arith)
four a b f l (o1 ∷ o2 ∷ o3 ∷ []) h = absurd (omega arith)
four a b f l (o1 ∷ o2 ∷ o3 ∷ o4 ∷ out) h = refl

-- the words between, as they are copied
part_between : (first last : ℕ) (ws : List ℕ) → first + last ≤ length ws → take (length ws - last - first) (drop first ws) ≡ between first last ws
unfolding between
part_between first last ws h =
    let e : length ws - last - first ≡ length ws - (first + last) = omega arith in
    ap (λ (k : ℕ). take k (drop first ws)) e

module _ (old new : List ℕ) (first last : ℕ) (in_old : first + last ≤ length old) (in_new : first + last ≤ length new)
    (few_old : length old < 65536) (few_new : length new < 65536) where
  head : List ℕ
  head = length old ∷ length new ∷ first ∷ last ∷ []

  counts_laid : (journal : List ℕ) → 4 ≤ length journal → counts old new first last journal ≡ over head journal
  unfolding counts head
  counts_laid journal h =
      rw (mod-eq_of_lt few_old, mod-eq_of_lt few_new)
      (ap (λ (k : ℕ). set (set (set (set journal 0 (length old)) 1 (length new)) 2 k) 3 (last % 65536)) (mod-eq_of_lt (omega arith))
      ∙ ap (λ (k : ℕ). set (set (set (set journal 0 (length old)) 1 (length new)) 2 first) 3 k) (mod-eq_of_lt (omega arith))
      ∙ four (length old) (length new) first last journal h)

  ends_old : old_end old first last ≡ 4 + (length old - last - first)
  unfolding old_end
  ends_old = end_of old first (length old - last) 4 (omega arith) (omega arith) (omega arith)

  pub ends_new : lay_end old new first last ≡ 4 + (length old - (first + last)) + (length new - (first + last))
  unfolding lay_end
  ends_new = end_of new first (length new - last) (old_end old first last) (omega arith) (omega arith) (omega (arith, ends_old)) ∙ omega (arith, ends_old)

  pub journal_words : length (journal_by first last old new) ≡ 4 + (length old - (first + last)) + (length new - (first + last))
  unfolding journal_by between
  journal_words =
      let a = length-take-le (length old - (first + last)) (drop first old) (omega (arith, length-drop first old)) in
      let b = length-take-le (length new - (first + last)) (drop first new) (omega (arith, length-drop first new)) in
      omega (arith, a, b, length-append (between first last old) (between first last new))

  shape : (head ++ take (length old - last - first) (drop first old)) ++ take (length new - last - first) (drop first new) ≡ journal_by first last old new
  unfolding journal_by head
  shape =
      ap (λ (u : List ℕ). (head ++ u) ++ take (length new - last - first) (drop first new)) (part_between first last old in_old)
      ∙ ap (λ (u : List ℕ). (head ++ between first last old) ++ u) (part_between first last new in_new)

  -- what is laid out is the journal
  pub laid_journal : (journal : List ℕ) → length (journal_by first last old new) ≤ length journal → lay_w old new first last journal ≡ over (journal_by first last old new) journal
  unfolding lay_w head
  laid_journal journal room =
      let n : length (head ++ take (length old - last - first) (drop first old)) ≡ 4 + (length old - last - first) =
      length-append head (take (length old - last - first) (drop first old))
      ∙ ap (λ (k : ℕ). 4 + k) (length-take-le (length old - last - first) (drop first old) (omega (arith, length-drop first old))) in
      let m = journal_words in
      ap (λ (x : List ℕ). pasted new first (length new - last) (pasted old first (length old - last) x 4) (old_end old first last)) (counts_laid journal (omega arith))
      ∙ ap (λ (x : List ℕ). pasted new first (length new - last) x (old_end old first last))
      (pasted_over old first (length old - last) head journal 4 refl (omega arith) (omega arith) (omega arith))
      ∙ pasted_over new first (length new - last) (head ++ take (length old - last - first) (drop first old)) journal (old_end old first last) (n ∙ sym ends_old) (omega arith) (omega arith) (omega (arith, ends_old))
      ∙ ap (λ (u : List ℕ). over u journal) shape
