-- A run keeps the words of the last entries.
-- Assumes nothing.
use Prim.Native.Nat.{ℕ, suc, ◌-◌, ◌≤◌}
use native.Mathlib.Omega.{arith}
use mathlib.Core.Path.{◌≡◌, refl, sym, ap, ◌∙◌}
use mathlib.Core.Bool.{Bool, true, false, ◌&&◌, cond}
use mathlib.Core.List.{List, [], ◌∷◌, ◌++◌, map, append_assoc, append-nil}
use lib.Dec.{leb, eqb}
use lib.ListN.{length, drop}
use borrow.Author.Tests.{leb-true, le-leb}
use Rattle.window.specs.declared.answer.Answer.{Answer}
use Rattle.window.specs.Window.{entry, window_of, entries_of, none_above, given, fits, last, enters, next_window}
use Rattle.window.specs.Runs.{hand_on, entered}
use Rattle.std.proofs.lemmas.Bool.{and_parts, and_from}
use Rattle.window.proofs.Tests.{none_append, none_drop, none_one}
use Rattle.window.proofs.Words.{entries_are, beyond_is, window_given}
use Rattle.window.proofs.Lasting.{last_all, last_length, last_last}

-- whether an answer enters in a run of a width from 1 to 1,024: it is accepted and its operation is at most 63
abbrev pub counts : Answer → Bool
counts a = leb a.operation 63 && eqb a.number 0

unfoldable pub kept : List Answer → List Answer
kept [] = []
kept (a ∷ run) = cond (counts a) (a ∷ kept run) (kept run)

entry_most : (a : Answer) → a.operation ≤ 63 → entry a ≤ 64
unfolding entry
entry_most a h = by (eqb a.fault 1)
  where
    by : (b : Bool) → cond b (suc a.operation) 0 ≤ 64
    by true = omega arith
    by false = omega arith

kept_small : (run : List Answer) → none_above 64 (map entry (kept run)) ≡ true
unfolding kept none_above
kept_small [] = refl
kept_small (a ∷ run) = by (counts a) refl (kept_small run)
  where
    by : (b : Bool) → counts a ≡ b → none_above 64 (map entry (kept run)) ≡ true → none_above 64 (map entry (cond b (a ∷ kept run) (kept run))) ≡ true
    by true c h =
        let o : a.operation ≤ 63 = leb-true a.operation 63 (and_parts _ (eqb a.number 0) c).0 in
        and_from (leb (entry a) 64) _ (le-leb (entry a) 64 (entry_most a o)) h
    by false c h = h

-- entries that a window of width w can have
pub record Kept (w : ℕ) (es : List ℕ) : Type 0 where
  pub few : length es ≤ w
  pub small : none_above 64 es ≡ true

module _ (w : ℕ) (low : 1 ≤ w) (high : w ≤ 1024) where
  module _ (beyond : List ℕ) where
    abbrev words : List ℕ → List ℕ
    words es = window_of es ++ beyond

    enters_as : (es : List ℕ) (a : Answer) → Kept w es → enters w a (words es) ≡ counts a
    unfolding enters fits
    enters_as es a k =
        let g : given w (words es) ≡ true = window_given es beyond (omega (arith, k.few)) w k.few k.small in
        ap (λ (t : Bool). (t && (leb w 1024 && (leb a.operation 63 && given w (words es)))) && eqb a.number 0) (le-leb 1 w low)
        ∙ ap (λ (t : Bool). (t && (leb a.operation 63 && given w (words es))) && eqb a.number 0) (le-leb w 1024 high)
        ∙ ap (λ (t : Bool). (leb a.operation 63 && t) && eqb a.number 0) g
        ∙ by (leb a.operation 63)
      where
        by : (b : Bool) → ((b && true) && eqb a.number 0) ≡ (b && eqb a.number 0)
        by true = refl
        by false = refl

    enter : List ℕ → Answer → List ℕ
    enter es a = last w (es ++ (entry a ∷ []))

    next_as : (es : List ℕ) (a : Answer) → Kept w es → next_window w a (words es) ≡ cond (counts a) (words (enter es a)) (words es)
    unfolding next_window enter
    next_as es a k =
        ap (λ (t : Bool). cond t (window_of (last w (entries_of (words es) ++ (entry a ∷ []))) ++ drop 1089 (words es)) (words es)) (enters_as es a k)
        ∙ ap (λ (t : List ℕ). cond (counts a) (window_of (last w (t ++ (entry a ∷ []))) ++ drop 1089 (words es)) (words es)) (entries_are es beyond)
        ∙ ap (λ (t : List ℕ). cond (counts a) (window_of (last w (es ++ (entry a ∷ []))) ++ t) (words es)) (beyond_is es beyond (omega (arith, k.few)))

    kept_enter : (es : List ℕ) (a : Answer) → Kept w es → counts a ≡ true → Kept w (enter es a)
    unfolding enter last
    kept_enter es a k c =
        let o : a.operation ≤ 63 = leb-true a.operation 63 (and_parts _ (eqb a.number 0) c).0 in
        record {
          few = last_length w (es ++ (entry a ∷ []));
          small = none_drop 64 (length (es ++ (entry a ∷ [])) - w) (es ++ (entry a ∷ [])) (none_append 64 es (entry a ∷ []) k.small (none_one 64 (entry a) (entry_most a o)));
        }

    -- what is left after a run is made of the entries before it and of the answers that entered
    pub handed_on : (run : List Answer) (es : List ℕ) → Kept w es → hand_on w run (words es) ≡ words (last w (es ++ map entry (kept run)))
    unfolding hand_on kept enter
    handed_on [] es k = ap words (sym (last_all w es k.few) ∙ ap (last w) (sym (append-nil es)))
    handed_on (a ∷ run) es k = by (counts a) refl (λ k₁. handed_on run (enter es a) k₁) (handed_on run es k)
      where
        by : (b : Bool) → counts a ≡ b → (Kept w (enter es a) → hand_on w run (words (enter es a)) ≡ words (last w (enter es a ++ map entry (kept run)))) →
            hand_on w run (words es) ≡ words (last w (es ++ map entry (kept run))) →
            hand_on w run (next_window w a (words es)) ≡ words (last w (es ++ map entry (cond b (a ∷ kept run) (kept run))))
        by true c there here =
            ap (hand_on w run) (next_as es a k ∙ ap (λ (t : Bool). cond t (words (enter es a)) (words es)) c)
            ∙ there (kept_enter es a k c)
            ∙ ap words (last_last w (es ++ (entry a ∷ [])) (map entry (kept run)))
            ∙ ap (λ (t : List ℕ). words (last w t)) (append_assoc es (entry a ∷ []) (map entry (kept run)))
        by false c there here =
            ap (hand_on w run) (next_as es a k ∙ ap (λ (t : Bool). cond t (words (enter es a)) (words es)) c) ∙ here

    -- in such a run only an operation above 63 is refused 18
    pub entered_as : (run : List Answer) (es : List ℕ) → Kept w es → entered w run (words es) ≡ kept run
    unfolding entered kept
    entered_as [] es k = refl
    entered_as (a ∷ run) es k = by (counts a) refl (λ k₁. entered_as run (enter es a) k₁) (entered_as run es k)
      where
        then : Bool → List Answer → List Answer
        then b rest = cond b (a ∷ rest) rest

        by : (b : Bool) → counts a ≡ b → (Kept w (enter es a) → entered w run (words (enter es a)) ≡ kept run) → entered w run (words es) ≡ kept run →
            then (enters w a (words es)) (entered w run (next_window w a (words es))) ≡ then b (kept run)
        by true c there here =
            ap (λ (t : Bool). then t (entered w run (next_window w a (words es)))) (enters_as es a k ∙ c)
            ∙ ap (λ (t : List ℕ). a ∷ entered w run t) (next_as es a k ∙ ap (λ (t : Bool). cond t (words (enter es a)) (words es)) c)
            ∙ ap (λ (t : List Answer). a ∷ t) (there (kept_enter es a k c))
        by false c there here =
            ap (λ (t : Bool). then t (entered w run (next_window w a (words es)))) (enters_as es a k ∙ c)
            ∙ ap (entered w run) (next_as es a k ∙ ap (λ (t : Bool). cond t (words (enter es a)) (words es)) c)
            ∙ here

    -- and so the run ends in a window whose entries are kept
    pub kept_last : (run : List Answer) → Kept w (last w (map entry (kept run)))
    unfolding last
    kept_last run =
        record {
          few = last_length w (map entry (kept run));
          small = none_drop 64 (length (map entry (kept run)) - w) (map entry (kept run)) (kept_small run);
        }
