-- Code read with fewer levels than it has is refused; and the head of nil is 0.
-- Assumes nothing.
use Prim.Native.Nat.{ℕ, ◌+◌, ◌*◌, ◌%◌, ◌≤◌, ◌<◌}
use native.Mathlib.Omega.{arith}
use mathlib.Core.Path.{◌≡◌, refl, sym, ap, ◌∙◌}
use mathlib.Core.Bool.{Bool, true, false, cond}
use mathlib.Core.List.{List, ◌++◌}
use borrow.Author.Tests.{eq-eqb, ne_eqb, leb-false, eqb-true, eqb-false}
use lib.Dec.{eqb, leb, leb→le, eqb→eq, lit<}
use lib.ListN.{length, drop}
use Rattle.sock.specs.Kind.{rows, row_of}
use Rattle.sock.specs.Words.{kind_of}
use Rattle.sock.specs.Term.{Node, head_word, is_nil}
use Rattle.sock.specs.Layout.{words, depth}
use Rattle.sock.specs.Reading.{Got, fail, got, code, anywhere, process}
use Rattle.sock.proofs.Fits.{Fits, fits}
use Rattle.sock.proofs.ByKind.{head_tests}
use Rattle.sock.proofs.Reading.{Found, read_found, finds}
use Rattle.reading.specs.Walk.{process_end}
use Rattle.reading.proofs.Combining.{Words}
use Rattle.reading.proofs.Ended.{code_end}
use Rattle.reading.proofs.Processes.{process_fail}

same_got : {a b : Node} {x y : List ℕ} → got a x ≡ got b y → a ≡ b
same_got {a} e = ap of e
  where
    of : Got Node → Node
    of fail = a
    of (got m rest) = m

module _ (ws : List ℕ) (ok : Words ws) (n issued : ℕ) (small : issued < 65536) where
  too_deep_lem :
      {m : Node} → Fits (code false) anywhere m → (d i : ℕ) → d < depth m → (rest : List ℕ) → drop i ws ≡ words m ++ rest →
      process d (code false) anywhere (drop i ws) ≡ fail
  too_deep_lem {m} f d i h rest e = by (process d (code false) anywhere (drop i ws)) refl
    where
      by : (g : Got Node) → process d (code false) anywhere (drop i ws) ≡ g → process d (code false) anywhere (drop i ws) ≡ fail
      by fail q = q
      by (got m' rest') q =
          let x : Found d (code false) anywhere (drop i ws) m' rest' = read_found q in
          let deep : depth m' ≤ d = x.shallow in
          let one : process (depth m) (code false) anywhere (drop i ws) ≡ got m' rest' =
          ap (process (depth m) (code false) anywhere) x.begins ∙ finds (depth m) x.fitting (omega arith) rest' in
          let two : process (depth m) (code false) anywhere (drop i ws) ≡ got m rest =
          ap (process (depth m) (code false) anywhere) e ∙ finds (depth m) f (omega arith) rest in
          let same : depth m' ≡ depth m = ap depth (same_got (sym one ∙ two)) in
          absurd (omega arith)

  pub code_fits :
      {m : Node} → Fits (code false) anywhere m → (d i : ℕ) (rest : List ℕ) → drop i ws ≡ words m ++ rest →
      process_end d ws (n * 65536 + issued) 0 i ≡ cond (leb (depth m) d) (i + length (words m)) 0
  code_fits {m} f d i rest e = by (leb (depth m) d) refl
    where
      by : (b : Bool) → leb (depth m) d ≡ b → process_end d ws (n * 65536 + issued) 0 i ≡ cond b (i + length (words m)) 0
      by true q = code_end ws ok n issued small f d i (leb→le (depth m) d (rw q tt)) rest e
      by false q = process_fail ws ok n issued small d 0 (lit< tt) i (too_deep_lem f d i (leb-false (depth m) d q) rest e)

-- the head of code is 0 only if it is nil
pub head_nil : {m : Node} → Fits (code false) anywhere m → eqb (head_word m) 0 ≡ is_nil m
unfolding row_of rows
head_nil (fits {p = p} {h} t fx ex bl pt nf) = by (eqb (kind_of h) 0) refl
  where
    by : (b : Bool) → eqb (kind_of h) 0 ≡ b → eqb h 0 ≡ b
    by true q =
        let k : kind_of h ≡ 0 = eqb-true (kind_of h) 0 q in
        let c : h % 2048 ≡ 0 = eqb→eq (h % 2048) 0 (rw k at (head_tests (code false) p h t).2) in
        eq-eqb h 0 (omega arith)
    by false q = ne_eqb h 0 λ z. eqb-false (kind_of h) 0 q (omega arith)
