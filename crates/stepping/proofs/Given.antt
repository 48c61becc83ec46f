-- A result carried out is answered and written as the definitions say: of one engine, and of two.
-- Assumes nothing.
use Prim.Native.Nat.{ℕ, zero, suc, ◌+◌, ◌%◌, ◌≤◌, ◌<◌}
use native.Mathlib.Omega.{arith}
use mathlib.Core.Path.{◌≡◌, sym, ap, ◌∙◌}
use mathlib.Core.List.{List, [], ◌∷◌}
use borrow.Author.Tests.{eq-eqb, ne_eqb}
use lib.ListN.{length, get_or, set}
use Rattle.sock.specs.Running.{Run, size, run_depth}
use Rattle.sock.specs.Configuration.{Engine, Config, encode, engines_depth}
use Rattle.sock.specs.Calls.{Stepped, engine_at, with_engine}
use Rattle.sock.proofs.Fits.{FitsConfig}
use Rattle.sock.proofs.Located.{start_of}
use Rattle.rules.specs.Editing.{Edit}
use Rattle.rules.proofs.Edits.{Edits}
use Rattle.rules.proofs.Stores.{stored}
use Rattle.layout.specs.declared.limit.Limits.{Limits}
use Rattle.stepping.proofs.Modest.{Modest}
use Rattle.stepping.specs.Answering.{changed, answered, refusing, sized_w, length_of, write_one_w, one_w, write_two_w, two_w}
use Rattle.stepping.proofs.Goal.{given, fitted, fitted_deep, fitted_by}
use Rattle.stepping.proofs.Results.{next_sized, next_few, next_fits, next_written}
use Rattle.stepping.proofs.TwoResults as two

-- ---- how deep the engines are

pub depth_set : (es : List Engine) (e : ℕ) (x : Engine) (n : ℕ) → engines_depth es ≤ n → run_depth x.process ≤ n → engines_depth (set es e x) ≤ n
unfolding engines_depth
depth_set [] e x n a b = a
depth_set (g ∷ es) zero x n a b = omega arith
depth_set (g ∷ es) (suc e) x n a b = let r = depth_set es e x n (omega arith) b in omega arith

pub depth_over : (es : List Engine) (e : ℕ) (x : Engine) (n : ℕ) → e < length es → n < run_depth x.process → n < engines_depth (set es e x)
unfolding engines_depth
depth_over [] e x n h b = absurd (omega arith)
depth_over (g ∷ es) zero x n h b = omega arith
depth_over (g ∷ es) (suc e) x n h b = let r = depth_over es e x n (omega arith) b in omega arith

pub depth_at : (es : List Engine) (e : ℕ) (d : Engine) (n : ℕ) → e < length es → engines_depth es ≤ n → run_depth (get_or es e d).process ≤ n
unfolding engines_depth
depth_at [] e d n h b = absurd (omega arith)
depth_at (g ∷ es) zero d n h b = omega arith
depth_at (g ∷ es) (suc e) d n h b = depth_at es e d n (omega arith) (omega arith)

told : (n : ℕ) → n ≤ 8192 → n % 65536 ≡ n
told n h = omega arith

module _ {limits : Limits} (modest : Modest limits) (c : Config) (fits : FitsConfig c) (deep : engines_depth c.engines ≤ limits.deepest) (ws : List ℕ) (same : encode c ≡ ws) (short : length ws ≤ limits.longest) where
  -- ---- one

  module _ (e : ℕ) (h : e < length c.engines) (p : Edit) (fresh : List ℕ) (kind : ℕ) (out : List ℕ) where
    abbrev start : ℕ
    start = start_of c e

    abbrev end : ℕ
    end = start + size (engine_at c e).process

    abbrev made : List ℕ → Run → Stepped
    made vs q = record { config = record { issued = c.issued; engines = with_engine e vs q c.engines }; kind = kind; serial = 0; fault = 0 }

    pub one_refused : (p.number ≡ 0 → ⊥) → one_w limits ws start end p kind fresh out ≡ answered (refusing p.number) out
    unfolding one_w
    one_refused z = rw (ne_eqb p.number 0 z)

    pub one_deep : (vs : List ℕ) (q : Run) → p.number ≡ 8 → limits.deepest < run_depth q → one_w limits ws start end p kind fresh out ≡ given (fitted limits (length out) (made vs q)) out
    one_deep vs q z d =
        one_refused (λ y. omega arith)
        ∙ (ap (λ k. answered (refusing k) out) z
        ∙ sym (fitted_deep limits (made vs q) out (omega (arith, fits.word)) (depth_over c.engines e _ limits.deepest h d)))

    pub one_given :
        (vs : List ℕ) (q : Run) → p.number ≡ 0 → Edits ws start end p fresh q → run_depth q ≤ limits.deepest →
        vs ≡ stored (engine_at c e).values p.store →
        one_w limits ws start end p kind fresh out ≡ given (fitted limits (length out) (made vs q)) out
    unfolding one_w
    one_given vs q z edits d v =
        rw (eq-eqb p.number 0 z, v)
        (fitted_by limits (made (stored (engine_at c e).values p.store) q) out (write_one_w ws start end p fresh out).out (sized_w limits (length ws) p) (sized_w limits (length ws) p % 65536)
        (omega (arith, fits.word)) (depth_set c.engines e _ limits.deepest deep d) (next_fits c fits e h ws same p fresh q edits modest short (length out)) λ a b.
        let s = next_sized c fits e h ws same p fresh q edits modest short (omega (arith, next_few c fits e h ws same p fresh q edits)) in
        (ap (λ k. k % 65536) s ∙ told _ (omega (arith, a, modest.few)), next_written c fits e h ws same p fresh q edits out (omega (arith, a, modest.few)) b))

  -- ---- two, in the order of the words

  module _ (e i : ℕ) (low : e < i) (high : i < length c.engines) (p1 : Edit) (f1 : List ℕ) (q1 : Run)
      (edits1 : Edits ws (start_of c e) (start_of c e + size (engine_at c e).process) p1 f1 q1) (p2 : Edit) (f2 : List ℕ) (q2 : Run)
      (edits2 : Edits ws (start_of c i) (start_of c i + size (engine_at c i).process) p2 f2 q2) (issued : ℕ) where
    pub two_given :
        (kind serial fault : ℕ) (out : List ℕ) → issued ≤ 65535 → run_depth q1 ≤ limits.deepest → run_depth q2 ≤ limits.deepest → p1.fresh ≤ limits.longest → p2.fresh ≤ limits.longest →
        two_w limits ws (changed (start_of c e) (start_of c e + size (engine_at c e).process) p1) f1 (changed (start_of c i) (start_of c i + size (engine_at c i).process) p2) f2
        (record { kind = kind; serial = serial; fault = fault; issued = issued }) out
        ≡ given
        (fitted limits (length out)
        (record {
          config = two.next c fits e i low high ws same p1 f1 q1 edits1 p2 f2 q2 edits2 issued;
          kind = kind;
          serial = serial;
          fault = fault;
        }))
        out
    unfolding two_w
    two_given kind serial fault out fine d1 d2 g1 g2 =
        let s = two.two_sized c fits e i low high ws same p1 f1 q1 edits1 p2 f2 q2 edits2 issued modest short g1 g2 in
        fitted_by limits _ out (write_two_w ws (changed (start_of c e) (start_of c e + size (engine_at c e).process) p1) f1 (changed (start_of c i) (start_of c i + size (engine_at c i).process) p2) f2 issued out)
        (sized_w limits (sized_w limits (length ws) p1) p2) (sized_w limits (sized_w limits (length ws) p1) p2 % 65536) fine
        (depth_set (set c.engines e _) i _ limits.deepest (depth_set c.engines e _ limits.deepest deep d1) d2) (ap (λ k. length_of limits k (length out)) s) λ x y.
        (ap (λ k. k % 65536) s ∙ told _ (omega (arith, x, modest.few)), two.two_written c fits e i low high ws same p1 f1 q1 edits1 p2 f2 q2 edits2 issued out (omega (arith, x, modest.few)) y)
