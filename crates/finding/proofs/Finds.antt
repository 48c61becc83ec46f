-- The search on words and the definitions' `locate` agree at one process, if they do at its parts.
-- Assumes nothing.
use Prim.Native.Nat.{ℕ, ◌+◌, ◌<◌}
use native.Mathlib.Omega.{arith}
use mathlib.Core.Path.{◌≡◌, refl, subst, sym, ap, ◌∙◌}
use mathlib.Core.Bool.{Bool, true, false, not, cond}
use mathlib.Core.Option.{Option, none, some}
use mathlib.Core.List.{List, [], ◌∷◌}
use borrow.Author.Tests.{lt-ltb, ne_eqb, eqb-true, eqb-false}
use lib.Dec.{T, eqb}
use lib.ListN.{length, get_or}
use Rattle.sock.specs.Words.{kind_of}
use Rattle.sock.specs.Term.{Node, Entries, head_word}
use Rattle.sock.specs.Layout.{words, entries_words}
use Rattle.sock.specs.Reading.{code, anywhere}
use Rattle.sock.specs.Variables.{variable_words}
use Rattle.sock.specs.Running.{Mark, Run, nil, seq, par, scope, executor, waiter, notice, act, as_node, run_words, size, enable}
use Rattle.sock.specs.Frames.{seq_frame, left_frame, right_frame, scope_frame, executor_frame, Located, is_done}
use Rattle.sock.proofs.Fits.{Fits}
use Rattle.sock.proofs.Logic.{true_test, cond-case}
use Rattle.sock.proofs.Measures.{words_nil, size_seq, size_par, size_scope, size_executor}
use Rattle.sock.proofs.Running.{enable_as_node, enable_done}
use Rattle.skipping.specs.Pass.{pass_end}
use Rattle.finding.specs.declared.find.Site.{Site}
use Rattle.finding.specs.declared.find.Found.{Found}
use Rattle.finding.specs.declared.find.Found.TheVariants.{Hit, Past}
use Rattle.finding.specs.Find.{cut, seq_spot, in_seq_w, left_w, beside_w, par_sides, in_body_w, catcher_of, in_scope_w}
use Rattle.finding.proofs.Framing.{outer_seq, outer_left, outer_right}
use Rattle.finding.proofs.Within.{behind, lifted, or_else}
use Rattle.finding.proofs.Stops.{stopped, catches}
use Rattle.finding.proofs.Spots.{Spotted, under_closed}
use Rattle.finding.proofs.Arounds.{around_seq, around_left, around_right, seq_hollow, seq_shut, left_shut, right_shut}
use Rattle.finding.proofs.Bodies.{executor_spotted, scope_spotted}

-- nothing is located, and the search says where r ends; or both find the same
pub data Agrees (f target : ℕ) (r : Run) (i level : ℕ) : Option Located → Found → Type 0 where
  misses : {e : ℕ} → e ≡ i + size r → Agrees f target r i level none (Past e)
  hits : {l : Located} {s : Site} → Spotted f target r i level l s → Agrees f target r i level (some l) (Hit s)

pub agrees_none : {f target : ℕ} {r : Run} {i level : ℕ} {o : Option Located} {x : Found} → Agrees f target r i level o x → o ≡ none → x ≡ Past (i + size r)
agrees_none (misses p) e = ap Past p
agrees_none (hits sub) e = absurd (let z : ◌≡◌ {A = ℕ} 0 1 = cc in omega arith)

pub agrees_some :
    {f target : ℕ} {r : Run} {i level : ℕ} {o : Option Located} {x : Found} {l : Located} →
    Agrees f target r i level o x →
    o ≡ some l →
    (s : Site) × ((x ≡ Hit s) × Spotted f target r i level l s)
agrees_some (misses p) e = absurd (let z : ◌≡◌ {A = ℕ} 0 1 = cc in omega arith)
agrees_some {f} {target} {r} {i} {level} {l = l} (hits {l = m} {s = s} sub) e =
    let same : m ≡ l = cc in
    (s, (refl, subst (λ k. Spotted f target r i level k s) same sub))

-- ---- code is nil if its first word is 0

done_nil : (r : Run) → is_done r ≡ true → r ≡ nil
unfolding is_done
done_nil nil e = refl
done_nil (seq a q) e = absurd (true_test e)
done_nil (par a b) e = absurd (true_test e)
done_nil (scope name mark zombie h a) e = absurd (true_test e)
done_nil (executor o y client serial a) e = absurd (true_test e)
done_nil (waiter o x dead server serial l) e = absurd (true_test e)
done_nil (notice o f client serial) e = absurd (true_test e)
done_nil (act a) e = absurd (true_test e)

module _ {q : Node} (fits : Fits (code false) anywhere q) where
  enabled_words : run_words (enable q) ≡ words q
  unfolding run_words
  enabled_words = ap words (enable_as_node fits)

  nil_enabled : head_word q ≡ 0 → enable q ≡ nil
  nil_enabled e = done_nil (enable q) (enable_done fits ∙ ap (λ w. eqb (kind_of w) 0) e)

  nil_head : enable q ≡ nil → head_word q ≡ 0
  unfolding as_node
  nil_head e = sym (ap head_word (enable_as_node fits)) ∙ ap (λ r. head_word (as_node r)) e

  other_enabled : (head_word q ≡ 0 → ⊥) → is_done (enable q) ≡ false
  other_enabled ne = by (is_done (enable q)) refl
    where
      by : (b : Bool) → is_done (enable q) ≡ b → is_done (enable q) ≡ false
      by true e = absurd (ne (nil_head (done_nil (enable q) e)))
      by false e = e

spot_hollow : (ws : List ℕ) (i : ℕ) (s : Site) → s.end < length ws → get_or ws s.end 0 ≡ 0 → seq_spot ws i s ≡ Hit (cut s i (s.end + 1) (s.end + 1) (s.end + 1) true)
unfolding seq_spot
spot_hollow ws i s p q = rw (lt-ltb s.end (length ws) p, q)

spot_shut : (ws : List ℕ) (i : ℕ) (s : Site) → s.end < length ws → (get_or ws s.end 0 ≡ 0 → ⊥) → seq_spot ws i s ≡ Hit (cut s i s.end s.end s.end false)
unfolding seq_spot
spot_shut ws i s p q = rw (lt-ltb s.end (length ws) p, ne_eqb (get_or ws s.end 0) 0 q)

module _ (f target : ℕ) (ws notes : List ℕ) (d i level : ℕ) where
  -- ---- a seq

  module _ (a : Run) (q : Node) (fits : Fits (code false) anywhere q) (inside : i + 1 + size a < length ws)
      (second : get_or ws (i + 1 + size a) 0 ≡ head_word q)
      (read : pass_end d ws notes (i + 1 + size a) ≡ i + 1 + size a + length (words q)) where
    seq_open :
        (l : Located) (s : Site) →
        T (not s.closed) →
        Spotted f target a (i + 1) (level + 1) l s →
        Agrees f target (seq a q) i level (some (behind (seq_frame q ∷ []) l)) (seq_spot ws i s)
    seq_open l s t sub = by (eqb (head_word q) 0) refl
      where
        there : s.end ≡ i + 1 + size a
        there = (sub.ends t).till

        at_second : get_or ws s.end 0 ≡ head_word q
        at_second = ap (λ k. get_or ws k 0) there ∙ second

        by :
            (b : Bool) →
            eqb (head_word q) 0 ≡ b →
            Agrees f target (seq a q) i level (some (behind (seq_frame q ∷ []) l)) (seq_spot ws i s)
        by true e =
            let z : head_word q ≡ 0 = eqb-true (head_word q) 0 e in
            let nothing : enable q ≡ nil = nil_enabled fits z in
            let one : words q ≡ 0 ∷ [] = sym (enabled_words fits) ∙ (ap run_words nothing ∙ words_nil) in
            rw (spot_hollow ws i s (omega (arith, there)) (at_second ∙ z)) (hits (seq_hollow f target i level a l s t q one nothing sub))
        by false e =
            let ne : head_word q ≡ 0 → ⊥ = eqb-false (head_word q) 0 e in
            rw (spot_shut ws i s (omega (arith, there)) (λ z. ne (sym at_second ∙ z)))
            (hits (seq_shut f target i level a l s t q (enabled_words fits) (other_enabled fits ne) sub))

    pub seq_agrees :
        {o : Option Located} {x : Found} →
        Agrees f target a (i + 1) (level + 1) o x →
        Agrees f target (seq a q) i level (lifted (seq_frame q ∷ []) o) (in_seq_w d ws notes i x)
    unfolding lifted in_seq_w stopped
    seq_agrees (misses {e = e} p) =
        let end : pass_end d ws notes e ≡ i + size (seq a q) = ap (pass_end d ws notes) p ∙ (read ∙ omega (arith, size_seq a q)) in
        misses end
    seq_agrees (hits {l = l} {s = s} sub) =
        cond-case (Agrees f target (seq a q) i level (some (behind (seq_frame q ∷ []) l))) s.closed
        (λ t.
        hits
        (under_closed f target (seq a q) a i (i + 1) level _ (words q) (seq_frame q) (around_seq a q i) (λ fs. outer_seq fs q) (λ test b. refl) l s sub t))
        (λ t. seq_open l s t sub)

  -- ---- a par

  module _ (a b : Run) (left : T (not (is_done a))) (right : T (not (is_done b))) where
    left_agrees :
        (l : Located) (s : Site) →
        Spotted f target a (i + 1) (level + 1) l s →
        Agrees f target (par a b) i level (some (behind (left_frame b ∷ []) l)) (left_w i s)
    unfolding left_w stopped
    left_agrees l s sub =
        cond-case (Agrees f target (par a b) i level (some (behind (left_frame b ∷ []) l))) s.closed
        (λ t.
        hits
        (under_closed f target (par a b) a i (i + 1) level _ (run_words b) (left_frame b) (around_left a b i right) (λ fs. outer_left fs b) (λ test b. refl) l s
        sub t))
        (λ t. hits (left_shut f target i level a l s t b right sub))

    right_agrees :
        {o : Option Located} {x : Found} (e : ℕ) →
        e ≡ i + 1 + size a →
        Agrees f target b (i + 1 + size a) (level + 1) o x →
        Agrees f target (par a b) i level (lifted (right_frame a ∷ []) o) (beside_w i e x)
    unfolding lifted beside_w stopped
    right_agrees e p (misses q) = misses (q ∙ omega (arith, size_par a b))
    right_agrees e p (hits {l = l} {s = s} sub) =
        cond-case (Agrees f target (par a b) i level (some (behind (right_frame a ∷ []) l))) s.closed
        (λ t.
        hits
        (under_closed f target (par a b) b i (i + 1 + size a) level _ [] (right_frame a) (around_right a b i left) (λ fs. outer_right fs a) (λ test b. refl) l s
        sub t))
        (λ t. hits (right_shut f target i level b l s t a e p left sub))

    pub par_agrees :
        {o o' : Option Located} {x : Found} (sub : ℕ → Found) →
        Agrees f target a (i + 1) (level + 1) o x →
        Agrees f target b (i + 1 + size a) (level + 1) o' (sub (i + 1 + size a)) →
        Agrees f target (par a b) i level (or_else (lifted (left_frame b ∷ []) o) (lifted (right_frame a ∷ []) o')) (par_sides sub i x)
    unfolding or_else lifted par_sides
    par_agrees {o' = o'} sub (misses {e = e} p) other = right_agrees {o = o'} {x = sub e} e p (rw p other)
    par_agrees sub (hits {l = l} {s = s} h) other = left_agrees l s h

  -- ---- a body

  pub executor_agrees :
      (o : ℕ) (y : List ℕ) (client serial : ℕ) (a : Run) {p : Option Located} {x : Found} →
      Agrees f target a (i + (3 + length (variable_words y))) (level + 1) p x →
      Agrees f target (executor o y client serial a) i level (lifted (executor_frame o y client serial ∷ []) p) (in_body_w x)
  unfolding lifted in_body_w
  executor_agrees o y client serial a (misses q) = misses (q ∙ omega (arith, size_executor o y client serial a))
  executor_agrees o y client serial a (hits {l = l} {s = s} sub) = hits (executor_spotted f target i level o y client serial a l s sub)

  pub scope_agrees :
      (name : ℕ) (mark : Mark) (zombie : Bool) (h : Entries) (a : Run) →
      0 < i →
      (f < 64 → (k : ℕ) → catcher_of d ws target i k ≡ cond (eqb k 0) (cond (catches f zombie h) i 0) k) →
      {p : Option Located} {x : Found} →
      Agrees f target a (i + (3 + length (entries_words h))) (level + 1) p x →
      Agrees f target (scope name mark zombie h a) i level (lifted (scope_frame name mark zombie h ∷ []) p) (in_scope_w d ws target level i x)
  unfolding lifted in_scope_w
  scope_agrees name mark zombie h a positive e (misses q) = misses (q ∙ omega (arith, size_scope name mark zombie h a))
  scope_agrees name mark zombie h a positive e (hits {l = l} {s = s} sub) =
      hits
      (scope_spotted f target i level name mark zombie h a l s positive sub (catcher_of d ws target i s.catcher)
      (λ low. e low s.catcher))
