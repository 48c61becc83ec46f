-- Where the position reader ends on the words of code that fits: behind them.
-- Assumes nothing.
use Prim.Native.Nat.{ℕ, ◌+◌, ◌*◌, ◌-◌, ◌≤◌, ◌<◌}
use native.Mathlib.Omega.{arith}
use mathlib.Core.Path.{◌≡◌, sym, ap, ◌∙◌}
use mathlib.Core.Bool.{false}
use mathlib.Core.List.{List, ◌++◌}
use lib.Dec.{lit<}
use lib.ListN.{length, drop, length-append, length-drop}
use Rattle.sock.specs.Term.{Node}
use Rattle.sock.specs.Layout.{words, depth}
use Rattle.sock.specs.Reading.{Got, got, code, anywhere, process}
use Rattle.sock.proofs.Fits.{Fits}
use Rattle.sock.proofs.Reading.{finds}
use Rattle.reading.specs.Walk.{process_end}
use Rattle.reading.proofs.Combining.{Words}
use Rattle.reading.proofs.Ending.{Ends, ends_got}
use Rattle.reading.proofs.Processes.{process_ends}

end_of :
    {A : Type 0} {ws : List ℕ} {i e : ℕ} {g : Got A} {a : A} {rest : List ℕ} (x : List ℕ) →
    Ends ws i g e → g ≡ got a rest → drop i ws ≡ x ++ rest → e ≡ i + length x
end_of {ws = ws} {i} {e} {a = a} {rest} x ends g b =
    let t = ends_got ends a rest g in
    let p : i < e = t.1 in
    let q : e ≤ length ws = t.2 in
    let u : length rest ≡ length ws - e = ap length t.0 ∙ length-drop e ws in
    let v : length ws - i ≡ length x + length rest = sym (length-drop i ws) ∙ ap length b ∙ length-append x rest in
    omega arith

module _ (ws : List ℕ) (ok : Words ws) (n issued : ℕ) (small : issued < 65536) where
  pub code_end :
      {m : Node} → Fits (code false) anywhere m → (d i : ℕ) → depth m ≤ d → (rest : List ℕ) → drop i ws ≡ words m ++ rest →
      process_end d ws (n * 65536 + issued) 0 i ≡ i + length (words m)
  code_end {m} f d i h rest e =
      end_of (words m) (process_ends ws ok n issued small d 0 (lit< tt) i)
      (ap (process d (code false) anywhere) e ∙ finds d f h rest)
      e
