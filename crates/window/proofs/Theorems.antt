-- The two theorems of change h: after any run the counts are a recount of its last accepted answers; and the test of a window takes exactly
-- what some run gives.
-- Assumes nothing.
use Prim.Native.Nat.{ℕ, zero, suc, ◌≤◌, ◌<◌}
use native.Mathlib.Omega.{arith}
use mathlib.Core.Path.{◌≡◌, refl, sym, ap, ◌∙◌}
use mathlib.Core.Bool.{Bool, true, false, ◌&&◌, cond}
use mathlib.Core.List.{List, [], ◌∷◌, ◌++◌, map}
use lib.Dec.{leb, eqb}
use lib.ListN.{length, get_or, drop, length-replicate, get_or-replicate, get_or-append}
use borrow.Author.Tests.{leb-true, le-leb, eqb-true, eqb-false, eq-eqb, ne_eqb}
use Rattle.window.specs.declared.answer.Answer.{Answer}
use Rattle.window.specs.Window.{answer, entry, times, window_of, empty_window, entries_of, none_above, given, fits, last, enters, next_window}
use Rattle.window.specs.Runs.{hand_on, entered, faults, CountsAreARecount, all_fit, EndOfARun, TestIsExact}
use Rattle.std.proofs.lemmas.Bool.{and_parts, and_right}
use Rattle.window.proofs.Counting.{count_at}
use Rattle.window.proofs.Words.{laid_out, empty_window_lem, window_given, given_few, given_formed}
use Rattle.window.proofs.Lasting.{last_all, last_nil, last_map}
use Rattle.window.proofs.Running.{kept, Kept, handed_on, entered_as, kept_last}

-- ---- entries counted are answers counted

entry_fault : (a : Answer) (o : ℕ) → eqb (entry a) (suc o) ≡ (eqb a.fault 1 && eqb a.operation o)
unfolding entry
entry_fault a o = by (eqb a.fault 1)
  where
    same : (b : Bool) → eqb a.operation o ≡ b → eqb (suc a.operation) (suc o) ≡ b
    same true e = eq-eqb (suc a.operation) (suc o) (ap suc (eqb-true a.operation o e))
    same false e = ne_eqb (suc a.operation) (suc o) (λ s. eqb-false a.operation o e (omega (arith, s)))

    by : (b : Bool) → eqb (cond b (suc a.operation) 0) (suc o) ≡ (b && eqb a.operation o)
    by true = same (eqb a.operation o) refl
    by false = ne_eqb 0 (suc o) (λ s. omega (arith, s))

times_faults : (o : ℕ) (run : List Answer) → times (suc o) (map entry run) ≡ faults o run
unfolding times faults
times_faults o [] = refl
times_faults o (a ∷ run) =
    ap (λ (b : Bool). cond b (suc (times (suc o) (map entry run))) (times (suc o) (map entry run))) (entry_fault a o)
    ∙ ap (λ (n : ℕ). cond (eqb a.fault 1 && eqb a.operation o) (suc n) n) (times_faults o run)

-- ---- the counts are a recount

no_entries : (w : ℕ) → Kept w []
unfolding none_above
no_entries w = record { few = omega arith; small = refl }

begun : (beyond : List ℕ) → empty_window ++ beyond ≡ window_of [] ++ beyond
begun beyond = ap (λ (t : List ℕ). t ++ beyond) empty_window_lem

-- a width out of range: every answer is refused 18
module _ (w : ℕ) (out : (leb 1 w && leb w 1024) ≡ false) where
  never : (a : Answer) (window : List ℕ) → enters w a window ≡ false
  unfolding enters fits
  never a window = by (leb 1 w) (leb w 1024) out
    where
      by : (b c : Bool) → (b && c) ≡ false → ((b && (c && (leb a.operation 63 && given w window))) && eqb a.number 0) ≡ false
      by true true e = cc
      by true false e = refl
      by false c e = refl

  same_window : (a : Answer) (window : List ℕ) → next_window w a window ≡ window
  unfolding next_window
  same_window a window =
      let after : List ℕ = window_of (last w (entries_of window ++ (entry a ∷ []))) ++ drop 1089 window in
      ap (λ (b : Bool). cond b after window) (never a window)

  stays : (run : List Answer) (window : List ℕ) → hand_on w run window ≡ window
  unfolding hand_on
  stays [] window = refl
  stays (a ∷ run) window = ap (hand_on w run) (same_window a window) ∙ stays run window

  none_enter : (run : List Answer) (window : List ℕ) → entered w run window ≡ []
  unfolding entered
  none_enter [] window = refl
  none_enter (a ∷ run) window =
      ap (λ (b : Bool). cond b (a ∷ entered w run (next_window w a window)) (entered w run (next_window w a window))) (never a window)
      ∙ none_enter run (next_window w a window)

pub recounted : CountsAreARecount
unfolding faults
recounted w run beyond o h = by (leb 1 w) refl (leb w 1024) refl
  where
    window : List ℕ
    window = empty_window ++ beyond

    inside : 1 ≤ w → w ≤ 1024 → get_or (hand_on w run window) o 0 ≡ faults o (last w (entered w run window))
    inside a b =
        let all : List ℕ = last w (map entry (kept run)) in
        ap (λ (t : List ℕ). get_or (hand_on w run t) o 0) (begun beyond)
        ∙ ap (λ (t : List ℕ). get_or t o 0) (handed_on w a b beyond run [] (no_entries w) ∙ laid_out all beyond)
        ∙ count_at all _ o h
        ∙ ap (times (suc o)) (last_map entry w (kept run))
        ∙ times_faults o (last w (kept run))
        ∙ ap (λ (t : List Answer). faults o (last w t))
        (sym (ap (entered w run) (begun beyond) ∙ entered_as w a b beyond run [] (no_entries w)))

    outside : (leb 1 w && leb w 1024) ≡ false → get_or (hand_on w run window) o 0 ≡ faults o (last w (entered w run window))
    outside e =
        let l : o < length empty_window = omega (arith, length-replicate {A = ℕ} 1089 0) in
        ap (λ (t : List ℕ). get_or t o 0) (stays w e run window)
        ∙ get_or-append empty_window beyond 0 o l
        ∙ get_or-replicate 1089 o 0 0 (omega arith)
        ∙ sym (ap (λ (t : List Answer). faults o (last w t)) (none_enter w e run window) ∙ none_left)
      where
        none_left : faults o (last w []) ≡ 0
        none_left = ap (faults o) (last_nil w)

    by : (b : Bool) → leb 1 w ≡ b → (c : Bool) → leb w 1024 ≡ c → get_or (hand_on w run window) o 0 ≡ faults o (last w (entered w run window))
    by true p true q = inside (leb-true 1 w p) (leb-true w 1024 q)
    by true p false q = outside (and_right (leb 1 w) (leb w 1024) q)
    by false p c q = outside (ap (λ (b : Bool). b && leb w 1024) p)

-- ---- the test is exact

-- an accepted answer that leaves this entry
leaving : ℕ → Answer
leaving zero = answer 0 0 0
leaving (suc o) = answer 0 1 o

leaves : (es : List ℕ) → map entry (map leaving es) ≡ es
unfolding entry leaving
leaves [] = refl
leaves (zero ∷ es) = ap (λ (t : List ℕ). 0 ∷ t) (leaves es)
leaves (suc o ∷ es) = ap (λ (t : List ℕ). suc o ∷ t) (leaves es)

leaving_kept : (es : List ℕ) → none_above 64 es ≡ true → kept (map leaving es) ≡ map leaving es
unfolding kept leaving none_above
leaving_kept [] p = refl
leaving_kept (zero ∷ es) p = ap (λ (t : List Answer). answer 0 0 0 ∷ t) (leaving_kept es (and_parts (leb 0 64) _ p).1)
leaving_kept (suc o ∷ es) p =
    let h : suc o ≤ 64 = leb-true (suc o) 64 (and_parts _ (none_above 64 es) p).0 in
    let l : leb o 63 ≡ true = le-leb o 63 (omega arith) in
    ap (λ (b : Bool). cond (b && true) (answer 0 1 o ∷ kept (map leaving es)) (kept (map leaving es))) l
    ∙ ap (λ (t : List Answer). answer 0 1 o ∷ t) (leaving_kept es (and_parts (leb (suc o) 64) _ p).1)

leaving_fit : (es : List ℕ) → none_above 64 es ≡ true → all_fit (map leaving es) ≡ true
unfolding all_fit leaving none_above
leaving_fit [] p = refl
leaving_fit (zero ∷ es) p = leaving_fit es (and_parts (leb 0 64) _ p).1
leaving_fit (suc o ∷ es) p =
    let h : suc o ≤ 64 = leb-true (suc o) 64 (and_parts _ (none_above 64 es) p).0 in
    ap (λ (b : Bool). b && all_fit (map leaving es)) (le-leb o 65535 (omega arith)) ∙ leaving_fit es (and_parts (leb (suc o) 64) _ p).1

module _ (w : ℕ) (window : List ℕ) (low : 1 ≤ w) (high : w ≤ 1024) where
  -- the run that has left these entries, each its answer
  pub only_runs : given w window ≡ true → EndOfARun w window
  only_runs pass =
      let f = given_formed w window pass high in
      let es : List ℕ = entries_of window in
      let beyond : List ℕ = drop 1089 window in
      let fit : length es ≤ w = omega (arith, f.count, given_few w window pass) in
      record {
        answers = map leaving es;
        beyond = beyond;
        fit = leaving_fit es f.small;
        ends =
            ap (hand_on w (map leaving es)) (begun beyond)
            ∙ handed_on w low high beyond (map leaving es) [] (no_entries w)
            ∙ ap (λ (t : List Answer). window_of (last w (map entry t)) ++ beyond) (leaving_kept es f.small)
            ∙ ap (λ (t : List ℕ). window_of (last w t) ++ beyond) (leaves es)
            ∙ ap (λ (t : List ℕ). window_of t ++ beyond) (last_all w es fit)
            ∙ sym f.words;
      }

  pub all_runs : EndOfARun w window → given w window ≡ true
  all_runs r =
      let run : List Answer = r.answers in
      let es : List ℕ = last w (map entry (kept run)) in
      let k = kept_last w low high r.beyond run in
      let is : window_of es ++ r.beyond ≡ window =
      sym (handed_on w low high r.beyond run [] (no_entries w)) ∙ sym (ap (hand_on w run) (begun r.beyond)) ∙ r.ends in
      sym (ap (given w) is) ∙ window_given es r.beyond (omega (arith, k.few)) w k.few k.small

pub exact : TestIsExact
exact w window low high = (only_runs w window low high, all_runs w window low high)
