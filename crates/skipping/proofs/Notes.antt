-- Marks that are right: each is where the process, or the list, that stands at its word ends. Where they are, passing by them ends behind what
-- is passed.
-- Assumes nothing.
use Prim.Native.Nat.{ℕ, zero, suc, ◌+◌, ◌≤◌, ◌<◌}
use native.Mathlib.Omega.{arith}
use mathlib.Core.Path.{◌≡◌, refl, ◌∙◌}
use mathlib.Core.Bool.{Bool, true, false, cond}
use mathlib.Core.List.{List, ◌∷◌, ◌++◌}
use borrow.Author.Tests.{eqb-false, ne_eqb, lt-leb}
use lib.Dec.{eqb}
use lib.ListN.{length, drop}
use Rattle.sock.specs.Term.{Node, Entries, no_entries, entry}
use Rattle.sock.specs.Layout.{count, words, entries_words, depth, entries_depth}
use Rattle.sock.specs.Reading.{Stratum, Place, anywhere}
use Rattle.sock.specs.Running.{Run, run_words, size, run_depth}
use Rattle.sock.proofs.Fits.{Fits, FitsEntries, Sound}
use Rattle.sock.proofs.Running.{as_node_fits}
use Rattle.sock.proofs.Positions.{At, at_head}
use Rattle.skipping.specs.Skip.{skip_end, skip_list}
use Rattle.skipping.specs.Pass.{note_at, list_note_at, pass_end, pass_entries, pass_list}
use Rattle.skipping.proofs.Skips.{code_end, list_end_lem}

-- the mark e is none, or where every process that fits at i ends; and the same of lists
unfoldable pub RightNote : List ℕ → ℕ → ℕ → Type 0
RightNote ws i e =
    (s : Stratum) (p : Place) (m : Node) → Fits s p m → (rest : List ℕ) → drop i ws ≡ words m ++ rest → (e ≡ 0 → ⊥) → e ≡ i + length (words m)

unfoldable pub RightListNote : List ℕ → ℕ → ℕ → Type 0
RightListNote ws i e =
    (o : Bool) (l : Entries) →
    FitsEntries o zero l →
    (rest : List ℕ) →
    drop i ws ≡ (count l ∷ entries_words l) ++ rest →
    (e ≡ 0 → ⊥) →
    e ≡ i + 1 + length (entries_words l)

pub record Right (ws notes : List ℕ) : Type 0 where
  pub of_process : (i : ℕ) → RightNote ws i (note_at notes i)
  pub of_list : (i : ℕ) → RightListNote ws i (list_note_at notes i)

module _ (ws notes : List ℕ) (right : Right ws notes) where
  pub pass_code :
      {s : Stratum} {p : Place} {m : Node} → Fits s p m → (d i : ℕ) → depth m ≤ d → (rest : List ℕ) → drop i ws ≡ words m ++ rest →
      pass_end d ws notes i ≡ i + length (words m)
  unfolding pass_end RightNote
  pass_code {m = m} f d i h rest e = by (eqb (note_at notes i) 0) refl
    where
      by : (b : Bool) → eqb (note_at notes i) 0 ≡ b → cond b (skip_end d ws i) (note_at notes i) ≡ i + length (words m)
      by true q = code_end ws f d i h rest e
      by false q = right.of_process i _ _ _ f rest e (eqb-false (note_at notes i) 0 q)

  pub pass_run :
      (n issued : ℕ) → n ≤ 8 → issued < 65536 →
      {r : Run} → Sound n issued r → (d i : ℕ) → run_depth r ≤ d → (rest : List ℕ) → drop i ws ≡ run_words r ++ rest →
      pass_end d ws notes i ≡ i + size r
  unfolding run_depth run_words size
  pass_run n issued few small s d i h rest e = pass_code (as_node_fits few small s {p = anywhere} tt) d i h rest e

  some_entries :
      {o : Bool} {l : Entries} → FitsEntries o zero l → (d i : ℕ) → entries_depth l ≤ d → (rest : List ℕ) → drop i ws ≡ (count l ∷ entries_words l) ++ rest →
      pass_entries d ws notes i ≡ i + 1 + length (entries_words l)
  unfolding pass_entries RightListNote
  some_entries {l = l} f d i h rest e = by (eqb (list_note_at notes i) 0) refl
    where
      by : (b : Bool) → eqb (list_note_at notes i) 0 ≡ b → cond b (skip_list d ws 128 i) (list_note_at notes i) ≡ i + 1 + length (entries_words l)
      by true q = list_end_lem ws f d i h rest e
      by false q = right.of_list i _ _ f rest e (eqb-false (list_note_at notes i) 0 q)

  -- and an empty list ends behind its count
  pub pass_entries_lem :
      {o : Bool} {l : Entries} → FitsEntries o zero l → (d i : ℕ) → entries_depth l ≤ d → (rest : List ℕ) → drop i ws ≡ (count l ∷ entries_words l) ++ rest →
      pass_list d ws notes i ≡ i + 1 + length (entries_words l)
  unfolding pass_list count entries_words
  pass_entries_lem {l = l} f d i h rest e =
      let here : At ws i (count l) (entries_words l ++ rest) = at_head ws i (count l) _ e in
      rw (lt-leb (length ws) i here.inside, here.word) (by l (some_entries f d i h rest e))
    where
      by : (l : Entries) → pass_entries d ws notes i ≡ i + 1 + length (entries_words l) →
          cond (eqb (count l) 0) (i + 1) (pass_entries d ws notes i) ≡ i + 1 + length (entries_words l)
      by no_entries q = omega arith
      by (entry k p es) q = rw (ne_eqb (suc (count es)) 0 (λ z. omega arith)) q

  -- the list of a scope at i
  pub pass_scope :
      {h : Entries} → FitsEntries true zero h → (d i : ℕ) → entries_depth h ≤ d → (rest : List ℕ) → drop (i + 2) ws ≡ (count h ∷ entries_words h) ++ rest →
      pass_list d ws notes (i + 2) ≡ i + 3 + length (entries_words h)
  pass_scope {h} f d i l rest e =
      pass_entries_lem f d (i + 2) l rest e
      ∙ (let q : i + 2 + 1 + length (entries_words h) ≡ i + 3 + length (entries_words h) = omega arith in q)
