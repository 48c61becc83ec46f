-- A window of the form that runs give, while the code changes it: what each write asks, and what is left in the end.
-- Assumes nothing.
use Prim.Native.Nat.{ℕ, suc, ◌+◌, ◌-◌, ◌≤◌, ◌<◌}
use native.Mathlib.Omega.{arith}
use mathlib.Core.Path.{◌≡◌, refl, sym, ap, ◌∙◌}
use mathlib.Core.Bool.{true}
use mathlib.Core.List.{List, [], ◌∷◌, ◌++◌}
use lib.ListN.{length, get_or, set, drop, replicate, length-append}
use lib.Seq.{paste}
use Rattle.std.proofs.lemmas.Grind.{common_steps}
use Rattle.window.specs.Window.{recount, window_of, held, entries_of, none_above, last}
use Rattle.window.specs.Entering.{Formed, raised, lowered}
use Rattle.window.proofs.Tests.{none_at, none_append, none_drop, none_one}
use Rattle.window.proofs.Counting.{count_most, count_least}
use Rattle.window.proofs.Words.{first_is, laid_out}
use Rattle.window.proofs.Whole.{whole, formed_after, entries_after}
use Rattle.window.proofs.Lasting.{last_all, last_full, last_length}
use Rattle.window.proofs.Entering.{placed, appended, taken_off, put_last, replaced}

-- what `raise` asks of words that begin with counts
ready : (es more words : List ℕ) (e : ℕ) → words ≡ recount es ++ more → length es ≤ 1024 → e ≤ 64 → get_or words (e - 1) 0 ≤ 1024
ready es more words e s few h =
    let c : get_or words (e - 1) 0 ≡ get_or (recount es ++ more) (e - 1) 0 = ap (λ (t : List ℕ). get_or t (e - 1) 0) s in
    let b : e - 1 < 64 = omega arith in
    omega (arith, c, count_most es more (e - 1) b)

-- ---- behind the others

module _ (window : List ℕ) (f : Formed window) (n e : ℕ) (is : n ≡ held window) (room : length (entries_of window) < 1024) (h : e ≤ 64) where
  as_written :
      set (set window (65 + n) e) 64 (held window + 1)
      ≡ set (set (window_of (entries_of window) ++ drop 1089 window) (65 + length (entries_of window)) e) 64 (length (entries_of window) + 1)
  as_written = grind (arith, common_steps)

  pub append_ready : get_or (set (set window (65 + n) e) 64 (held window + 1)) (e - 1) 0 ≤ 1024
  append_ready = ready (entries_of window) _ _ e (as_written ∙ placed (entries_of window) (drop 1089 window) e room) f.few h

  pub is_appended :
      length window ≡ 1089 → (after : List ℕ) → after ≡ raised e (set (set window (65 + n) e) 64 (held window + 1)) →
      after ≡ window_of (entries_of window ++ (e ∷ []))
  is_appended size after p =
      p ∙ ap (raised e) as_written ∙ appended (entries_of window) (drop 1089 window) e room h
      ∙ whole window (window_of (entries_of window ++ (e ∷ []))) size

-- ---- in place of the oldest

pub record Oldest (window : List ℕ) : Type 0 where
  pub first : ℕ
  pub others : List ℕ
  pub entries : entries_of window ≡ first ∷ others

pub oldest : (window : List ℕ) → 1 ≤ length (entries_of window) → Oldest window
oldest window h = by (entries_of window) refl
  where
    by : (es : List ℕ) → entries_of window ≡ es → Oldest window
    by [] s = absurd (let l : length (entries_of window) ≡ 0 = ap length s in omega arith)
    by (o ∷ es) s = record { first = o; others = es; entries = s }

module _ (window : List ℕ) (f : Formed window) (n : ℕ) (is : n ≡ held window) (some : 1 ≤ length (entries_of window)) where
  beyond : List ℕ
  beyond = drop 1089 window

  old : Oldest window
  old = oldest window some

  o : ℕ
  o = old.first

  es : List ℕ
  es = old.others

  words : window ≡ window_of (o ∷ es) ++ beyond
  unfolding o es beyond
  words = f.words ∙ ap (λ (t : List ℕ). window_of t ++ drop 1089 window) old.entries

  first : get_or window 65 0 ≡ o
  first = ap (λ (t : List ℕ). get_or t 65 0) words ∙ first_is o es beyond

  small : o ≤ 64
  unfolding o
  small =
      let p : get_or (entries_of window) 0 0 ≤ 64 = none_at 64 (entries_of window) 0 f.small in
      let q : get_or (entries_of window) 0 0 ≡ old.first = ap (λ (t : List ℕ). get_or t 0 0) old.entries in
      omega (arith, p, q)

  count : n ≡ suc (length es)
  unfolding es
  count = is ∙ f.count ∙ ap length old.entries

  -- the oldest is an entry, and what `lower` asks of it
  pub oldest_small : get_or window 65 0 ≤ 64
  oldest_small = omega (arith, first, small)

  pub oldest_counted : 0 < get_or window 65 0 → 0 < get_or window (get_or window 65 0 - 1) 0
  oldest_counted up =
      let up₁ : 0 < o = omega (arith, first) in
      let p = count_least o es (suc (length es) ∷ ((o ∷ es) ++ (replicate (1024 - suc (length es)) 0 ++ beyond))) small up₁ in
      let q : get_or window (get_or window 65 0 - 1) 0 ≡ get_or (window_of (o ∷ es) ++ beyond) (o - 1) 0 =
      ap (λ (k : ℕ). get_or window (k - 1) 0) first ∙ ap (λ (t : List ℕ). get_or t (o - 1) 0) words in
      let r = ap (λ (t : List ℕ). get_or t (o - 1) 0) (laid_out (o ∷ es) beyond) in
      omega (arith, p, q, r)

  module _ (one : List ℕ) (p : one ≡ lowered (get_or window 65 0) window) where
    abbrev off : List ℕ
    off = recount es ++ (suc (length es) ∷ ((o ∷ es) ++ (replicate (1024 - suc (length es)) 0 ++ beyond)))

    one_is : one ≡ off
    one_is = p ∙ ap (λ (k : ℕ). lowered k window) first ∙ ap (lowered o) words ∙ taken_off o es beyond small

    module _ (e : ℕ) (h : e ≤ 64) (two : List ℕ) (q : two ≡ paste one 65 (drop 66 one) (65 + n - 66)) where
      -- the entry written
      three_is : set two (65 + n - 1) e ≡ set (paste off 65 (drop 66 off) (length es)) (65 + length es) e
      three_is =
          let k : 65 + n - 66 ≡ length es = omega (arith, count) in
          let m : 65 + n - 1 ≡ 65 + length es = omega (arith, count) in
          ap (λ (t : List ℕ). set t (65 + n - 1) e) (q ∙ ap (λ (t : List ℕ). paste t 65 (drop 66 t) (65 + n - 66)) one_is)
          ∙ ap (λ (j : ℕ). set (paste off 65 (drop 66 off) j) (65 + n - 1) e) k
          ∙ ap (λ (j : ℕ). set (paste off 65 (drop 66 off) (length es)) j e) m

      pub replace_ready : get_or (set two (65 + n - 1) e) (e - 1) 0 ≤ 1024
      replace_ready =
          let few : length es ≤ 1024 = omega (arith, count, is, f.count, f.few) in
          ready es _ _ e (three_is ∙ put_last o es beyond e) few h

      pub is_replaced :
          length window ≡ 1089 → (after : List ℕ) → after ≡ raised e (set two (65 + n - 1) e) → after ≡ window_of (drop 1 (entries_of window) ++ (e ∷ []))
      unfolding o es beyond
      is_replaced size after r =
          r ∙ ap (raised e) three_is ∙ replaced old.first old.others (drop 1089 window) e h
          ∙ whole window (window_of (old.others ++ (e ∷ []))) size
          ∙ ap (λ (t : List ℕ). window_of (drop 1 t ++ (e ∷ []))) (sym old.entries)

-- ---- as the width asks

module _ (w e : ℕ) (window : List ℕ) (f : Formed window) (fit : length (entries_of window) ≤ w) (high : w ≤ 1024) (h : e ≤ 64) where
  entered : List ℕ
  entered = last w (entries_of window ++ (e ∷ []))

  entered_few : length entered ≤ 1024
  unfolding entered
  entered_few = omega (arith, last_length w (entries_of window ++ (e ∷ [])))

  entered_small : none_above 64 entered ≡ true
  unfolding entered last
  entered_small =
      none_drop 64 (length (entries_of window ++ (e ∷ [])) - w) (entries_of window ++ (e ∷ []))
      (none_append 64 (entries_of window) (e ∷ []) f.small (none_one 64 e h))

  module _ (after : List ℕ) where
    abbrev Entered : Type 0
    Entered = Formed after × (entries_of after ≡ last w (entries_of window ++ (e ∷ [])))

    has_entered : after ≡ window_of entered → Entered
    unfolding entered
    has_entered is = (formed_after entered after is entered_few entered_small, entries_after entered after is)

    pub with_room : held window < w → after ≡ window_of (entries_of window ++ (e ∷ [])) → Entered
    unfolding entered
    with_room free is =
        let l : length (entries_of window ++ (e ∷ [])) ≤ w = omega (arith, length-append (entries_of window) (e ∷ []), f.count) in
        has_entered (is ∙ ap window_of (sym (last_all w (entries_of window ++ (e ∷ [])) l)))

    pub when_full : 1 ≤ w → w ≤ held window → after ≡ window_of (drop 1 (entries_of window) ++ (e ∷ [])) → Entered
    unfolding entered
    when_full low full is =
        let l : length (entries_of window) ≡ w = omega (arith, f.count) in
        has_entered (is ∙ ap window_of (sym (last_full w (entries_of window) e l low)))
