-- The steps' loop: what is printed so far, and what the rest prints.
-- Assumes nothing.
use Rattle.std.proofs.Common.{ℕ, zero, suc, ◌≡◌, ◌+◌, ◌<◌, ◌≤◌, true, false, not, eqb, List, [], ◌++◌, Option, Some, refl, sym, ap, subst, ◌∙◌, arith, add-one, append-nil, append_assoc, ltb, length, drop}
use Rattle.std.proofs.lemmas.Bool.{ne_eqb}
use Rattle.std.specs.Io.KnownBytes.{Appends}
use Rattle.std.proofs.KnownBytes.{Appends-nil, Appends-trans}
use Rattle.sock.specs.Configuration.{standard}
use Rattle.sock.specs.Calls.{check_start}
use Rattle.sock.specs.Bytes.{start_line, handover}
use Rattle.handover.specs.Printed.{turn_line, turn_words, steps_text, most_steps, words_read, left_behind_words}
use Rattle.handover.proofs.Reading.{Reads}
use Rattle.handover.proofs.Whole.{turn_last, turn_next, unless_refused, begun, main_text, main_is}

-- ahead of step i: what is printed, what is left of the input, and that all is printed once the rest is
pub record Gone (ws₀ bytes : List ℕ) (old now left : Option (List ℕ)) (i : ℕ) (ws : List ℕ) : Type 0 where
  pub text : List ℕ
  pub rest : List ℕ
  pub turns : ℕ
  pub count : i + turns ≡ 18446744073709551615
  pub left_is : left ≡ Some rest
  pub printed : Appends old now text
  pub same : steps_text most_steps 1 ws₀ bytes ≡ text ++ steps_text turns i ws rest

pub gone_none : (ws bytes : List ℕ) (out left : Option (List ℕ)) → left ≡ Some bytes → Gone ws bytes out out left 1 ws
unfolding most_steps
gone_none ws bytes out left e =
    record { text = []; rest = bytes; turns = most_steps; count = refl; left_is = e; printed = Appends-nil out; same = refl }

-- the last of all steps
pub gone_all : (ws₀ bytes : List ℕ) (old now left : Option (List ℕ)) (i : ℕ) (ws : List ℕ) → 18446744073709551615 ≤ i → Gone ws₀ bytes old now left i ws → Appends old now (steps_text most_steps 1 ws₀ bytes)
unfolding steps_text
gone_all ws₀ bytes old now left i ws h g =
    let none : g.turns ≡ 0 = omega (arith, h, g.count) in
    subst (Appends old now) (sym (g.same ∙ ap (λ t. g.text ++ steps_text t i ws g.rest) none ∙ append-nil g.text)) g.printed

turns_left : (i turns : ℕ) → i < 18446744073709551615 → i + turns ≡ 18446744073709551615 → (t : ℕ) × (turns ≡ suc t)
turns_left i zero h e = absurd (omega (arith, h, e))
turns_left i (suc t) h e = (t, refl)

module _ (ws₀ bytes : List ℕ) (old now left : Option (List ℕ)) (i : ℕ) (ws : List ℕ) (more : i < 18446744073709551615) (g : Gone ws₀ bytes old now left i ws) (got : List ℕ) (left' : Option (List ℕ)) (r : Reads 10 g.rest got left') where
  ahead : (t : ℕ) × (g.turns ≡ suc t)
  ahead = turns_left i g.turns more g.count

  -- the last line
  pub gone_last : ltb (length got) 10 ≡ true → (now' : Option (List ℕ)) → Appends now now' (turn_line i ws got) → Appends old now' (steps_text most_steps 1 ws₀ bytes)
  gone_last h now' p =
      let line : steps_text g.turns i ws g.rest ≡ turn_line i ws got = ap (λ t. steps_text t i ws g.rest) ahead.1 ∙ turn_last ahead.0 i ws g.rest got r.front h in
      subst (Appends old now') (sym (g.same ∙ ap (λ l. g.text ++ l) line)) (Appends-trans old now now' g.text (turn_line i ws got) g.printed p)

  -- one step more
  pub gone_next :
      ltb (length got) 10 ≡ false → (now' : Option (List ℕ)) → Appends now now' (turn_line i ws got) → Gone ws₀ bytes old now' left' (i + 1) (turn_words ws got)
  gone_next h now' p =
      let line = turn_line i ws got in
      let rest = steps_text ahead.0 (i + 1) (turn_words ws got) (drop 10 g.rest) in
      let next : steps_text g.turns i ws g.rest ≡ line ++ rest =
      ap (λ t. steps_text t i ws g.rest) ahead.1
      ∙ turn_next ahead.0 i ws g.rest got r.front h
      ∙ ap (λ i. line ++ steps_text ahead.0 i (turn_words ws got) (drop 10 g.rest)) (sym (add-one i))
      in
      record {
        text = g.text ++ line;
        rest = drop 10 g.rest;
        turns = ahead.0;
        count = omega (arith, g.count, ahead.1);
        left_is = r.rest;
        printed = Appends-trans old now now' g.text line g.printed p;
        same = g.same ∙ ap (λ l. g.text ++ l) next ∙ sym (append_assoc g.text line rest);
      }

-- ---- the whole text

module _ (bytes ws : List ℕ) (old mid : Option (List ℕ)) (turns : length bytes < most_steps) (read : ws ≡ words_read bytes) (start : Appends old mid (start_line (check_start standard ws))) where
  whole_by : (n : ℕ) → check_start standard ws ≡ n → start_line (check_start standard ws) ++ unless_refused n (steps_text most_steps 1 ws (left_behind_words bytes)) ≡ handover bytes
  unfolding main_text begun
  whole_by n e =
      let text : ℕ → List ℕ → List ℕ = λ n ws. start_line (check_start standard ws) ++ unless_refused n (steps_text most_steps 1 ws (left_behind_words bytes)) in
      ap (λ n. text n ws) (sym e) ∙ ap (λ ws. text (check_start standard ws) ws) read ∙ main_is most_steps bytes turns

  -- refused, only the first line is printed
  pub whole_refused : true ≡ not (eqb (check_start standard ws) 0) → Appends old mid (handover bytes)
  unfolding unless_refused
  whole_refused refused = by (check_start standard ws) refl
    where
      by : (n : ℕ) → check_start standard ws ≡ n → Appends old mid (handover bytes)
      by zero e = absurd (cc (refused ∙ ap (λ n. not (eqb n 0)) e))
      by (suc n) e = subst (Appends old mid) (sym (append-nil (start_line (check_start standard ws))) ∙ whole_by (suc n) e) start

  -- else the steps' lines and the last one follow
  pub whole_run :
      false ≡ not (eqb (check_start standard ws) 0) → (new : Option (List ℕ)) → Appends mid new (steps_text most_steps 1 ws (left_behind_words bytes)) →
      Appends old new (handover bytes)
  unfolding unless_refused
  whole_run good new p = by (check_start standard ws) refl
    where
      by : (n : ℕ) → check_start standard ws ≡ n → Appends old new (handover bytes)
      by zero e = subst (Appends old new) (whole_by 0 e) (Appends-trans old mid new _ _ start p)
      by (suc n) e = absurd (cc (good ∙ ap (λ n. not (eqb n 0)) e ∙ ap not (ne_eqb (suc n) 0 (λ z. omega (arith, z)))))
