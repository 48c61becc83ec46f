-- How often entries occur: a list with one entry more or less has one count more or less.
-- Assumes nothing.
use Prim.Native.Nat.{ℕ, zero, suc, ◌+◌, ◌-◌, ◌≤◌, ◌<◌}
use native.Mathlib.Omega.{arith}
use native.Mathlib.Decide.{ℕ_discrete}
use mathlib.Core.Path.{◌≡◌, refl, sym, ap, ◌∙◌}
use mathlib.Core.Bool.{Bool, true, false, cond}
use mathlib.Core.List.{List, [], ◌∷◌, ◌++◌}
use lib.Dec.{eqb}
use lib.ListN.{length, get_or, set, length-set, get_or-append}
use lib.Seq.{get_or-set_same, get_or-set_other, set-append_left, ext_get_or}
use borrow.Author.Tests.{lt-ltb}
use Rattle.std.proofs.lemmas.Grind.{common_steps}
use Rattle.window.specs.Window.{times, counts_from, recount}
use Rattle.window.specs.Entering.{raised, lowered}

times_found : (e : ℕ) (es : List ℕ) → times e (e ∷ es) ≡ suc (times e es)
unfolding times
times_found e es = grind (arith, common_steps)

times_passed : (e f : ℕ) (es : List ℕ) → (f ≡ e → ⊥) → times e (f ∷ es) ≡ times e es
unfolding times
times_passed e f es d = grind (arith, common_steps)

pub times_append : (e : ℕ) (es fs : List ℕ) → times e (es ++ fs) ≡ times e es + times e fs
unfolding times
times_append e [] fs = omega arith
times_append e (f ∷ es) fs = by (eqb f e) (times_append e es fs)
  where
    by : (b : Bool) → times e (es ++ fs) ≡ times e es + times e fs →
        cond b (suc (times e (es ++ fs))) (times e (es ++ fs)) ≡ cond b (suc (times e es)) (times e es) + times e fs
    by true h = omega arith
    by false h = h

pub times_most : (e : ℕ) (es : List ℕ) → times e es ≤ length es
unfolding times
times_most e [] = omega arith
times_most e (f ∷ es) = by (eqb f e) (times_most e es)
  where
    by : (b : Bool) → times e es ≤ length es → cond b (suc (times e es)) (times e es) ≤ suc (length es)
    by true h = omega arith
    by false h = omega arith

times_more : (e : ℕ) (es : List ℕ) → times e (es ++ (e ∷ [])) ≡ times e es + 1
unfolding times
times_more e es = times_append e es (e ∷ []) ∙ ap (λ (n : ℕ). times e es + n) (times_found e [])

times_other : (e f : ℕ) (es : List ℕ) → (f ≡ e → ⊥) → times e (es ++ (f ∷ [])) ≡ times e es
unfolding times
times_other e f es d =
    let z : times e (f ∷ []) ≡ 0 = times_passed e f [] d in
    omega (arith, times_append e es (f ∷ []), z)

-- ---- counts of entries in a row

pub counts_length : (n e : ℕ) (es : List ℕ) → length (counts_from n e es) ≡ n
unfolding counts_from
counts_length zero e es = refl
counts_length (suc n) e es = ap suc (counts_length n (suc e) es)

pub counts_at : (n e i : ℕ) (es : List ℕ) → i < n → get_or (counts_from n e es) i 0 ≡ times (e + i) es
unfolding counts_from
counts_at zero e i es h = absurd (omega arith)
counts_at (suc n) e zero es h = ap (λ (k : ℕ). times k es) (let s : e ≡ e + 0 = omega arith in s)
counts_at (suc n) e (suc i) es h =
    counts_at n (suc e) i es (omega arith) ∙ ap (λ (k : ℕ). times k es) (let s : suc e + i ≡ e + suc i = omega arith in s)

-- another list whose counts differ at one place
counts_set :
    (n e i v : ℕ) (es fs : List ℕ) → i < n → times (e + i) fs ≡ v → ((j : ℕ) → (j ≡ i → ⊥) → times (e + j) fs ≡ times (e + j) es) →
    set (counts_from n e es) i v ≡ counts_from n e fs
counts_set n e i v es fs h p q =
    let m : length (set (counts_from n e es) i v) ≡ n = length-set (counts_from n e es) i v ∙ counts_length n e es in
    ext_get_or 0 (set (counts_from n e es) i v) (counts_from n e fs) (m ∙ sym (counts_length n e fs)) λ j l.
    at j (omega (arith, m)) (ℕ_discrete j i)
  where
    at : (j : ℕ) → j < n → Dec (j ≡ i) → get_or (set (counts_from n e es) i v) j 0 ≡ get_or (counts_from n e fs) j 0
    at j l (yes s) =
        let k : i < length (counts_from n e es) = omega (arith, counts_length n e es) in
        ap (λ (x : ℕ). get_or (set (counts_from n e es) i v) x 0) s ∙ get_or-set_same (counts_from n e es) i v 0 k ∙ sym p
        ∙ sym (counts_at n e i fs h) ∙ ap (λ (x : ℕ). get_or (counts_from n e fs) x 0) (sym s)
    at j l (no d) =
        get_or-set_other (counts_from n e es) i j v 0 d ∙ counts_at n e j es l ∙ sym (q j d) ∙ sym (counts_at n e j fs l)

apart : (e i j : ℕ) → (j ≡ i → ⊥) → e + i ≡ e + j → ⊥
apart e i j d s = d (omega (arith, s))

pub counts_more :
    (n e i v : ℕ) (es : List ℕ) → i < n → v ≡ times (e + i) es + 1 → set (counts_from n e es) i v ≡ counts_from n e (es ++ ((e + i) ∷ []))
counts_more n e i v es h p =
    counts_set n e i v es (es ++ ((e + i) ∷ [])) h (times_more (e + i) es ∙ sym p) λ j d. times_other (e + j) (e + i) es (apart e i j d)

counts_less :
    (n e i v : ℕ) (es : List ℕ) → i < n → v ≡ times (e + i) ((e + i) ∷ es) - 1 → set (counts_from n e ((e + i) ∷ es)) i v ≡ counts_from n e es
counts_less n e i v es h p =
    counts_set n e i v ((e + i) ∷ es) es h (let s = times_found (e + i) es in omega (arith, s, p))
    λ j d. sym (times_passed (e + j) (e + i) es (apart e i j d))

counts_unlike : (n e : ℕ) (es fs : List ℕ) → ((j : ℕ) → times (e + j) fs ≡ times (e + j) es) → counts_from n e es ≡ counts_from n e fs
counts_unlike n e es fs q =
    ext_get_or 0 (counts_from n e es) (counts_from n e fs) (counts_length n e es ∙ sym (counts_length n e fs)) λ j l.
    let k : j < n = omega (arith, counts_length n e es) in
    counts_at n e j es k ∙ sym (q j) ∙ sym (counts_at n e j fs k)

-- ---- the counts of the 64 operations

pub recount_length : (es : List ℕ) → length (recount es) ≡ 64
unfolding recount
recount_length es = counts_length 64 1 es

pub recount_at : (es : List ℕ) (o : ℕ) → o < 64 → get_or (recount es) o 0 ≡ times (suc o) es
unfolding recount
recount_at es o h = counts_at 64 1 o es h ∙ ap (λ (k : ℕ). times k es) (let s : 1 + o ≡ suc o = omega arith in s)

pub count_at : (es more : List ℕ) (o : ℕ) → o < 64 → get_or (recount es ++ more) o 0 ≡ times (suc o) es
count_at es more o h = get_or-append (recount es) more 0 o (omega (arith, recount_length es)) ∙ recount_at es o h

pub count_most : (es more : List ℕ) (o : ℕ) → o < 64 → get_or (recount es ++ more) o 0 ≤ length es
count_most es more o h = omega (arith, count_at es more o h, times_most (suc o) es)

pub count_least : (e : ℕ) (es more : List ℕ) → e ≤ 64 → 0 < e → 0 < get_or (recount (e ∷ es) ++ more) (e - 1) 0
count_least zero es more h z = absurd (omega arith)
count_least (suc o) es more h z =
    let s : suc o - 1 ≡ o = omega arith in
    let t : get_or (recount (suc o ∷ es) ++ more) (suc o - 1) 0 ≡ get_or (recount (suc o ∷ es) ++ more) o 0 =
    ap (λ (k : ℕ). get_or (recount (suc o ∷ es) ++ more) k 0) s in
    omega (arith, t, count_at (suc o ∷ es) more o (omega arith), times_found (suc o) es)

-- what the code does with the entry's count, as one with a fault and as none
recount_more : (o v : ℕ) (es : List ℕ) → o < 64 → v ≡ times (suc o) es + 1 → set (recount es) o v ≡ recount (es ++ (suc o ∷ []))
unfolding recount
recount_more o v es h p =
    let s : 1 + o ≡ suc o = omega arith in
    counts_more 64 1 o v es h (p ∙ ap (λ (k : ℕ). times k es + 1) (sym s)) ∙ ap (λ (k : ℕ). counts_from 64 1 (es ++ (k ∷ []))) s

recount_less : (o v : ℕ) (es : List ℕ) → o < 64 → v ≡ times (suc o) (suc o ∷ es) - 1 → set (recount (suc o ∷ es)) o v ≡ recount es
unfolding recount
recount_less o v es h p =
    let s : 1 + o ≡ suc o = omega arith in
    ap (λ (k : ℕ). set (counts_from 64 1 (k ∷ es)) o v) (sym s)
    ∙ counts_less 64 1 o v es h (p ∙ ap (λ (k : ℕ). times k (k ∷ es) - 1) (sym s))

pub raised_is : (e : ℕ) (es more : List ℕ) → e ≤ 64 → raised e (recount es ++ more) ≡ recount (es ++ (e ∷ [])) ++ more
unfolding raised recount
raised_is zero es more h =
    ap (λ (t : List ℕ). t ++ more) (counts_unlike 64 1 es (es ++ (0 ∷ [])) λ j. times_other (1 + j) 0 es (λ s. omega (arith, s)))
raised_is (suc o) es more h =
    let ws : List ℕ = recount es ++ more in
    let s : suc o - 1 ≡ o = omega arith in
    let v : ℕ = get_or ws (suc o - 1) 0 + 1 in
    let l : o < length (recount es) = omega (arith, recount_length es) in
    let p : v ≡ times (suc o) es + 1 = ap (λ (k : ℕ). get_or ws k 0 + 1) s ∙ ap (λ (k : ℕ). k + 1) (count_at es more o (omega arith)) in
    ap (λ (b : Bool). cond b (set ws (suc o - 1) v) ws) (lt-ltb 0 (suc o) (omega arith))
    ∙ ap (λ (k : ℕ). set ws k v) s
    ∙ set-append_left (recount es) more o v l
    ∙ ap (λ (t : List ℕ). t ++ more) (recount_more o v es (omega arith) p)

pub lowered_is : (e : ℕ) (es more : List ℕ) → e ≤ 64 → lowered e (recount (e ∷ es) ++ more) ≡ recount es ++ more
unfolding lowered recount
lowered_is zero es more h =
    ap (λ (t : List ℕ). t ++ more) (counts_unlike 64 1 (0 ∷ es) es λ j. sym (times_passed (1 + j) 0 es (λ s. omega (arith, s))))
lowered_is (suc o) es more h =
    let ws : List ℕ = recount (suc o ∷ es) ++ more in
    let s : suc o - 1 ≡ o = omega arith in
    let v : ℕ = get_or ws (suc o - 1) 0 - 1 in
    let l : o < length (recount (suc o ∷ es)) = omega (arith, recount_length (suc o ∷ es)) in
    let p : v ≡ times (suc o) (suc o ∷ es) - 1 =
    ap (λ (k : ℕ). get_or ws k 0 - 1) s ∙ ap (λ (k : ℕ). k - 1) (count_at (suc o ∷ es) more o (omega arith)) in
    ap (λ (b : Bool). cond b (set ws (suc o - 1) v) ws) (lt-ltb 0 (suc o) (omega arith))
    ∙ ap (λ (k : ℕ). set ws k v) s
    ∙ set-append_left (recount (suc o ∷ es)) more o v l
    ∙ ap (λ (t : List ℕ). t ++ more) (recount_less o v es (omega arith) p)
