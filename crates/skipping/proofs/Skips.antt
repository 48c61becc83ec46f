-- Where the skip ends on the words of what is sound, of code and of lists that fit: behind them, or 0 without a key wanted.
-- Assumes nothing.
use Prim.Native.Nat.{ℕ, zero, suc, ◌+◌, ◌≤◌, ◌<◌}
use native.Mathlib.Omega.{arith}
use mathlib.Core.Path.{◌≡◌, ap, ◌∙◌}
use mathlib.Core.Bool.{Bool, ◌||◌, cond}
use mathlib.Core.List.{List, ◌∷◌, ◌++◌}
use borrow.Author.Tests.{lt-leb}
use lib.Dec.{leb}
use lib.ListN.{length, drop}
use Rattle.sock.specs.Term.{Node, Entries}
use Rattle.sock.specs.Layout.{count, words, entries_words, depth, entries_depth}
use Rattle.sock.specs.Reading.{Stratum, Place, anywhere, holds}
use Rattle.sock.specs.Running.{Run, run_words, size, run_depth}
use Rattle.sock.proofs.Fits.{Fits, FitsEntries, Sound}
use Rattle.sock.proofs.Nodes.{depth_some}
use Rattle.sock.proofs.Positions.{at_head}
use Rattle.sock.proofs.Running.{as_node_fits}
use Rattle.skipping.specs.Skip.{skip_end, skip_list}
use Rattle.skipping.proofs.Passing.{node_pass, entries_pass, whole, list_by_lem}

module _ (ws : List ℕ) where
  pub code_end :
      {s : Stratum} {p : Place} {m : Node} → Fits s p m → (d i : ℕ) → depth m ≤ d → (rest : List ℕ) → drop i ws ≡ words m ++ rest →
      skip_end d ws i ≡ i + length (words m)
  code_end {m = m} f zero i h rest e = absurd (omega (arith, depth_some m))
  code_end {m = m} f (suc d) i h rest e = whole ws d i (i + length (words m)) (λ x start. node_pass ws f d h rest e start)

  pub run_end :
      (n issued : ℕ) → n ≤ 8 → issued < 65536 →
      {r : Run} → Sound n issued r → (d i : ℕ) → run_depth r ≤ d → (rest : List ℕ) → drop i ws ≡ run_words r ++ rest →
      skip_end d ws i ≡ i + size r
  unfolding run_depth run_words size
  run_end n issued few small s d i h rest e = code_end (as_node_fits few small s {p = anywhere} tt) d i h rest e

  -- a list, with or without a key wanted
  wanted_list :
      (wanted : ℕ) {o : Bool} {l : Entries} → FitsEntries o zero l → (d i : ℕ) → entries_depth l ≤ d → (rest : List ℕ) → drop i ws ≡ (count l ∷ entries_words l) ++ rest →
      skip_list d ws wanted i ≡ cond (leb 128 wanted || holds wanted l) (i + 1 + length (entries_words l)) 0
  unfolding skip_list
  wanted_list wanted {l = l} f d i h rest e =
      list_by_lem ws (skip_end d ws) wanted i (count l) (entries_words l ++ rest) e
      ∙ entries_pass ws f d h wanted (leb 128 wanted) (i + 1) rest (at_head ws i (count l) (entries_words l ++ rest) e).next

  pub list_end_lem :
      {o : Bool} {l : Entries} → FitsEntries o zero l → (d i : ℕ) → entries_depth l ≤ d → (rest : List ℕ) → drop i ws ≡ (count l ∷ entries_words l) ++ rest →
      skip_list d ws 128 i ≡ i + 1 + length (entries_words l)
  list_end_lem f d i h rest e = wanted_list 128 f d i h rest e

  pub wanted_end :
      (wanted : ℕ) →
      wanted < 128 →
      {o : Bool} {l : Entries} →
      FitsEntries o zero l →
      (d i : ℕ) →
      entries_depth l ≤ d →
      (rest : List ℕ) →
      drop i ws ≡ (count l ∷ entries_words l) ++ rest →
      skip_list d ws wanted i ≡ cond (holds wanted l) (i + 1 + length (entries_words l)) 0
  wanted_end wanted low {l = l} f d i h rest e =
      wanted_list wanted f d i h rest e
      ∙ ap (λ b. cond (b || holds wanted l) (i + 1 + length (entries_words l)) 0) (lt-leb 128 wanted low)
