-- The call's law: what the definition answers, by the verdicts on the stand-in and on the translated start.
-- Assumes nothing.
use Prim.Native.Nat.{ℕ, ◌+◌, ◌-◌, ◌≤◌, ◌<◌}
use native.Mathlib.Omega.{arith}
use mathlib.Core.Path.{◌≡◌, refl, sym, ap, subst, ◌∙◌}
use mathlib.Core.Bool.{Bool, true, false, not, ◌&&◌, cond}
use mathlib.Core.Option.{Option, none, some}
use mathlib.Core.List.{List, [], ◌∷◌}
use lib.Dec.{leb, ltb, eqb}
use lib.ListN.{length, take}
use borrow.Author.Tests.{le-ltb, lt-ltb, lt-leb, leb-true, leb-false, ltb-false, eq-eqb, eqb-false, ne_eqb}
use Rattle.sock.specs.Configuration.{Limits, Config, standard, encode, engines_depth, guarded, also, read_config, fresh}
use Rattle.sock.specs.Calls as calls
use Rattle.sock.proofs.Accepted.{number_positive}
use Rattle.sock.specs.Calls.{check_readable, check_start, passed, start, over, unreadable, not_fresh, deep, long, short}
use Rattle.sock.specs.Cabinets.{fits}
use Rattle.sock.proofs.Logic.{and_right, test_true}
use Rattle.sock.proofs.Configuration.{config_found}
use Rattle.sock.proofs.Inside.{read_inside, read_fits}
use Rattle.planning.specs.Plan.{Plan, plan_words, read_plan}
use Rattle.planning.specs.Translation.{plan_rewritten, translated, stand_in, engines_captured}
use Rattle.planning.specs.Call.{Refusal, plain, fixed_ch, number, Result, refused, done, ◌>>=◌, ◌>>◌, ◌!◌, ◌unless◌, from, beyond, translate, answer_of, output_of, translate_answer, translate_output}
use Rattle.planning.specs.Walk.{judged, measured, no_deeper}
use Rattle.planning.specs.Walk.{Both, both_in, rewrite_w}
use Rattle.planning.specs.Answers.{refusal_of, refusal_number}
use Rattle.planning.specs.declared.refusal.Refusal.{Refusal as Refusing}
use Rattle.planning.specs.declared.spot.Spot.{Spot as Reached}
use Rattle.layout.specs.declared.refusal.Refusal.{Refusal as Refused}
use Rattle.std.specs.Prelude.{Option as Maybe, Some, None, Ok, Err}
use Rattle.std.specs.Option.{ok_or}
use Rattle.sock.specs.Journal.{Taken}
use Rattle.planning.proofs.Plans.{Wrote, nothing, written, rewrite_plan}
use Rattle.reading.proofs.Combining.{Words}
use Rattle.writers.specs.Writing.{pasted}

-- a refusal with its number, or 0 and the words of a start
pub data Says (words : List ℕ) : ℕ → Result Config → Type 0 where
  refuses : (r : Refusal) → Says words (number r) (refused r)
  gives :
      {t : Config} → encode t ≡ words → start beyond words ≡ calls.done t → leb (engines_depth t.engines) 64 ≡ true → leb (length words) 8192 ≡ true →
      Says words 0 (done t)

-- ---- the two checks on words

pub start_done : (limits : Limits) (ws : List ℕ) {t : Config} → start limits ws ≡ calls.done t → read_config limits ws ≡ some t
unfolding start calls.◌!◌ calls.◌>>=◌ calls.◌>>◌ calls.◌unless◌
start_done limits ws {t} e = by (read_config limits ws) e
  where
    over_c : (c : Config) (b : Bool) → calls.◌>>◌ (calls.◌unless◌ not_fresh b) (calls.done c) ≡ calls.done t → some c ≡ some t
    over_c c true e = ap some (let z : c ≡ t = cc in z)
    over_c c false e = absurd (let z : ◌≡◌ {A = ℕ} 0 1 = cc in omega arith)

    by : (o : Option Config) → calls.◌>>=◌ (calls.◌!◌ unreadable o) (λ c. calls.◌>>◌ (calls.◌unless◌ not_fresh (fresh c)) (calls.done c)) ≡ calls.done t → o ≡ some t
    by none e = absurd (let z : ◌≡◌ {A = ℕ} 0 1 = cc in omega arith)
    by (some c) e = over_c c (fresh c) e

-- a start that is not too deep
depth_test : (ws : List ℕ) {t : Config} → read_config beyond ws ≡ some t → eqb (check_readable no_deeper ws) 0 ≡ leb (engines_depth t.engines) 64
unfolding check_readable passed calls.◌!◌ also guarded fits
depth_test ws {t} e =
    let same : read_config no_deeper ws ≡ guarded (fits no_deeper t) (some t) =
    read_inside no_deeper beyond (le_64, le_same) ws ∙ ap (λ o. also o λ c. guarded (fits no_deeper c) (some c)) e in
    let wide : leb (length (encode t)) 65535 ≡ true = test_true _ (and_right (leb (engines_depth t.engines) 512) (leb (length (encode t)) 65535) (read_fits beyond ws e)) in
    rw (same, wide) (by (leb (engines_depth t.engines) 64))
  where
    le_64 : 64 ≤ 512
    le_64 = omega arith

    le_same : 65535 ≤ 65535
    le_same = omega arith

    by : (b : Bool) → eqb (passed (calls.◌!◌ unreadable (guarded (b && true) (some t)))) 0 ≡ b
    by true = refl
    by false = refl

pub refusal_some : (r : Refusal) → eqb (number r) 0 ≡ false
refusal_some (plain r) = number_positive r
refusal_some fixed_ch = refl

pub some_number : (r : Refusing) → refusal_number r ≡ 0 → ⊥
some_number r = eqb-false (refusal_number r) 0 (refusal_some (refusal_of r))

ltb_not : (a b : ℕ) → ltb a b ≡ not (leb b a)
ltb_not a b = by (leb b a) refl
  where
    by : (t : Bool) → leb b a ≡ t → ltb a b ≡ not t
    by true t = le-ltb a b (leb-true b a t)
    by false t = lt-ltb a b (leb-false b a t)

module _ (ws : List ℕ) (room : ℕ) where
  -- the translated start, by its depth and length
  measuring : Config → Result Config
  measuring t =
      ◌>>◌ (plain deep unless leb (engines_depth t.engines) 64)
      (◌>>◌ (plain long unless leb (length (encode t)) 8192) (◌>>◌ (plain short unless leb (length (encode t)) room) (done t)))

  measured_start : (q : calls.Result Config) → start beyond ws ≡ q → Says ws (measured ws room) (from q >>= measuring)
  unfolding measured check_start passed from ◌>>=◌ measuring ◌>>◌ ◌unless◌
  measured_start (calls.refused r) e = rw (e, number_positive r) (refuses (plain r))
  measured_start (calls.done t) e =
      let reads : read_config beyond ws ≡ some t = start_done beyond ws e in
      let same : encode t ≡ ws = (config_found beyond ws t reads).0 in
      rw (e, depth_test ws reads, ltb_not 8192 (length ws), ltb_not room (length ws), same)
      (by (leb (engines_depth t.engines) 64) (leb (length ws) 8192) (leb (length ws) room) refl refl same e)
    where
      by :
          (d l s : Bool) → leb (engines_depth t.engines) 64 ≡ d → leb (length ws) 8192 ≡ l → encode t ≡ ws → start beyond ws ≡ calls.done t →
          Says ws (cond d (cond (not l) 9 (cond (not s) 10 0)) 8) (◌>>◌ (plain deep unless d) (◌>>◌ (plain long unless l) (◌>>◌ (plain short unless s) (done t))))
      by false l s p q e f = refuses (plain deep)
      by true false s p q e f = refuses (plain long)
      by true true false p q e f = refuses (plain short)
      by true true true p q e f = gives e f p q

-- ---- the call

pub says :
    (p : Plan) (ws : List ℕ) (room : ℕ) → read_plan standard ws ≡ some p →
    Says (plan_words (translated p))
    (cond (eqb (judged (plan_words (stand_in p)) (engines_captured p.engines)) 0) (measured (plan_words (translated p)) room)
    (judged (plan_words (stand_in p)) (engines_captured p.engines)))
    (translate standard ws room)
unfolding translate judged check_readable check_start start passed calls.◌!◌ calls.◌>>=◌ calls.◌>>◌ calls.◌unless◌ ◌!◌ ◌>>=◌ ◌>>◌ ◌unless◌ measuring
says p ws room e =
    rw e (read (read_config beyond (plan_words (stand_in p))) (engines_captured p.engines) (measured_start (plan_words (translated p)) room (start beyond (plan_words (translated p))) refl))
  where
    later : Result Config
    later = from (start beyond (plan_words (translated p))) >>= measuring (plan_words (translated p)) room

    stale :
        (c : Config) (cap f : Bool) → Says (plan_words (translated p)) (measured (plan_words (translated p)) room) later →
        Says (plan_words (translated p))
        (cond (eqb (cond cap 14 (passed (calls.◌>>◌ (calls.◌unless◌ not_fresh f) (calls.done c)))) 0) (measured (plan_words (translated p)) room)
        (cond cap 14 (passed (calls.◌>>◌ (calls.◌unless◌ not_fresh f) (calls.done c)))))
        (◌>>◌ (fixed_ch unless not cap) (◌>>◌ (plain not_fresh unless f) later))
    stale c true f m = refuses fixed_ch
    stale c false false m = refuses (plain not_fresh)
    stale c false true m = m

    read :
        (o : Option Config) (cap : Bool) → Says (plan_words (translated p)) (measured (plan_words (translated p)) room) later →
        Says (plan_words (translated p))
        (let j =
        cond (eqb (passed (calls.◌!◌ unreadable o)) 0)
        (cond cap 14 (passed (calls.◌>>=◌ (calls.◌!◌ unreadable o) λ c. calls.◌>>◌ (calls.◌unless◌ not_fresh (fresh c)) (calls.done c)))) (passed (calls.◌!◌ unreadable o)) in
        cond (eqb j 0) (measured (plan_words (translated p)) room) j)
        (unreadable ! o >>= λ c. ◌>>◌ (fixed_ch unless not cap) (◌>>◌ (plain not_fresh unless fresh c) later))
    read none cap m = refuses (plain unreadable)
    read (some c) cap m = stale c cap (fresh c) m

-- ---- answer and output

pick_no : {A : Type 0} (b : Bool) (x y : A) → b ≡ false → y ≡ cond b x y
pick_no b x y e = rw e

pick_yes : {A : Type 0} (b : Bool) (x y : A) → b ≡ true → x ≡ cond b x y
pick_yes b x y e = rw e

abbrev Given : List ℕ → ℕ → Result Config → List ℕ → Type 0
Given words n r out =
    (record { number = n; length = cond (eqb n 0) (length words) 0 } ≡ answer_of r) × (cond (eqb n 0) (over words out) out ≡ output_of r out)

given : (words out : List ℕ) {n : ℕ} {r : Result Config} → Says words n r → Given words n r out
unfolding answer_of output_of
given words out (refuses r) = (rw (refusal_some r), rw (refusal_some r))
given words out (gives e f p q) = (rw e, rw e)

module _ (ws out : List ℕ) where
  abbrev Answers : Taken → List ℕ → Type 0
  Answers r o = (r ≡ translate_answer standard ws out) × (o ≡ translate_output standard ws out)

  pub no_plan : {r : Taken} → read_plan standard ws ≡ none → r ≡ record { number = 1; length = 0 } → Answers r out
  unfolding translate_answer translate_output translate ◌!◌ ◌>>=◌ answer_of output_of
  no_plan e q = rw e (q, refl)

  pub too_long : {r : Taken} → 8192 < length ws → r ≡ record { number = 1; length = 0 } → Answers r out
  unfolding read_plan guarded
  too_long h q = no_plan (none_long ws h) q
    where
      none_long : (l : List ℕ) → 8192 < length l → read_plan standard l ≡ none
      none_long [] h = absurd (omega arith)
      none_long (n ∷ []) h = absurd (omega arith)
      none_long (n ∷ issued ∷ l) h = rw (lt-leb (length (n ∷ issued ∷ l)) 8192 h)

  module _ (p : Plan) (reads : read_plan standard ws ≡ some p) where
    abbrev verdict : ℕ
    verdict = judged (plan_words (stand_in p)) (engines_captured p.engines)

    abbrev refusal : ℕ
    refusal = measured (plan_words (translated p)) (length out)

    all_given : Given (plan_words (translated p)) (cond (eqb verdict 0) refusal verdict) (translate standard ws (length out)) out
    all_given = given (plan_words (translated p)) out (says p ws (length out) reads)

    from_given :
        {r : Taken} {o : List ℕ} (n : ℕ) → n ≡ cond (eqb verdict 0) refusal verdict →
        r ≡ record { number = n; length = cond (eqb n 0) (length (plan_words (translated p))) 0 } → o ≡ cond (eqb n 0) (over (plan_words (translated p)) out) out → Answers r o
    unfolding translate_answer translate_output
    from_given n e q w = (
      q ∙ ap (λ k. record { number = k; length = cond (eqb k 0) (length (plan_words (translated p))) 0 }) e ∙ all_given.0,
      w ∙ ap (λ k. cond (eqb k 0) (over (plan_words (translated p)) out) out) e ∙ all_given.1,
    )

    pub judged_no : {r : Taken} {n : ℕ} → n ≡ verdict → (n ≡ 0 → ⊥) → r ≡ record { number = n; length = 0 } → Answers r out
    judged_no {r} {n} e z q =
        let f : eqb n 0 ≡ false = ne_eqb n 0 z in
        from_given n (e ∙ pick_no (eqb verdict 0) refusal verdict (ap (λ k. eqb k 0) (sym e) ∙ f)) (q ∙ ap (λ k. record { number = n; length = k }) (pick_no (eqb n 0) (length (plan_words (translated p))) 0 f)) (pick_no (eqb n 0) (over (plan_words (translated p)) out) out f)

    pub measured_no : {r : Taken} {v n : ℕ} → v ≡ verdict → v ≡ 0 → n ≡ refusal → (n ≡ 0 → ⊥) → r ≡ record { number = n; length = 0 } → Answers r out
    measured_no {r} {v} {n} u y e z q =
        let f : eqb n 0 ≡ false = ne_eqb n 0 z in
        from_given n (e ∙ pick_yes (eqb verdict 0) refusal verdict (eq-eqb verdict 0 (sym u ∙ y))) (q ∙ ap (λ k. record { number = n; length = k }) (pick_no (eqb n 0) (length (plan_words (translated p))) 0 f)) (pick_no (eqb n 0) (over (plan_words (translated p)) out) out f)

    pub all_done :
        {r : Taken} {o : List ℕ} {v n : ℕ} → v ≡ verdict → v ≡ 0 → n ≡ refusal → n ≡ 0 →
        r ≡ record { number = 0; length = length (plan_words (translated p)) } → o ≡ over (plan_words (translated p)) out → Answers r o
    all_done {n = n} u y e z q w = from_given 0 (sym z ∙ e ∙ pick_yes (eqb verdict 0) refusal verdict (eq-eqb verdict 0 (sym u ∙ y))) q w

    -- what is measured fits the output
    pub fits_out : refusal ≡ 0 → length (plan_words (translated p)) ≤ length out
    unfolding measured
    fits_out e = by (eqb (check_start beyond (plan_words (translated p))) 0) (eqb (check_readable no_deeper (plan_words (translated p))) 0) (ltb 8192 (length (plan_words (translated p)))) (ltb (length out) (length (plan_words (translated p)))) refl refl e
      where
        by :
            (a b c d : Bool) → ltb (length out) (length (plan_words (translated p))) ≡ d → eqb (check_start beyond (plan_words (translated p))) 0 ≡ a →
            cond a (cond b (cond c 9 (cond d 10 0)) 8) (check_start beyond (plan_words (translated p))) ≡ 0 → length (plan_words (translated p)) ≤ length out
        by true true false false t u e = ltb-false (length out) (length (plan_words (translated p))) t
        by true true false true t u e = absurd (omega arith)
        by true true true d t u e = absurd (omega arith)
        by true false c d t u e = absurd (omega arith)
        by false b c d t u e = absurd (let z = eqb-false (check_start beyond (plan_words (translated p))) 0 u in z e)

-- ---- what stands in the scratch

-- the plan that the words are, and its rewriting in the first words of the scratch
pub record Found (join : ℕ) (ws : List ℕ) (p : Plan) (to : ℕ) (caught : Bool) (a : List ℕ) : Type 0 where
  pub reads : read_plan standard ws ≡ some p
  pub length_is : to ≡ length (plan_words (plan_rewritten join p))
  pub catches : caught ≡ engines_captured p.engines
  pub part : take to a ≡ plan_words (plan_rewritten join p)
  pub few : to ≤ 32768
  pub inside : to ≤ length a

module _ (join : ℕ) (ws a b : List ℕ) (ok : Words ws) (short-enough : length ws ≤ 8192) (la : length a ≡ 33024) (lb : length b ≡ 33024) where
  gone_plan : {o : Option Plan} {w : Both} → Wrote join a o w → w.spot.at ≡ 0 → o ≡ none
  gone_plan (nothing e) z = refl
  gone_plan (written h t c l f) z = absurd (omega arith)

  -- no spot, as the code tells it
  pub unplanned :
      {a1 b1 : List ℕ} (o : Maybe Reached) (e r : Refused) → both_in o a1 b1 ≡ rewrite_w join ws a b → Err e ≡ ok_or o r →
      (read_plan standard ws ≡ none) × (e ≡ r)
  unplanned None e r q z = (gone_plan (rewrite_plan join ws a b ok short-enough la lb) (ap (λ (w : Both). w.spot.at) (sym q)), cc)
  unplanned (Some s) e r q z = absurd (let y : ◌≡◌ {A = ℕ} 0 1 = cc in omega arith)

  found_at :
      {o : Option Plan} {w : Both} → Wrote join a o w → read_plan standard ws ≡ o → (p : Plan) → o ≡ some p → Found join ws p w.spot.to w.spot.caught w.a
  found_at (nothing e) q p r = absurd (let z : ◌≡◌ {A = ℕ} 0 1 = cc in omega arith)
  found_at (written {p = p1} {w} h t c l f) q p r =
      let same : p1 ≡ p = cc in
      let n1 : List ℕ = plan_words (plan_rewritten join p1) in
      let tz : w.spot.to ≡ 0 + length n1 = omega arith in
      let z : take w.spot.to w.a ≡ n1 = ap (λ k. take k w.a) tz ∙ l.begins in
      let keeps : length w.a ≡ length a = l.keeps in
      subst (λ k. Found join ws k w.spot.to w.spot.caught w.a) same
      (record { reads = q ∙ r ∙ ap some (sym same); length_is = t; catches = c; part = z; few = omega arith; inside = omega arith })

  some_plan : {o : Option Plan} {w : Both} → Wrote join a o w → (w.spot.at ≡ 0 → ⊥) → (p : Plan) × (o ≡ some p)
  some_plan (nothing e) z = absurd (z e)
  some_plan (written {p} h t c l f) z = (p, refl)

  -- a spot: there is a plan, and what is written is its rewriting
  pub planned :
      {a1 b1 : List ℕ} (o : Maybe Reached) (s : Reached) (r : Refused) → both_in o a1 b1 ≡ rewrite_w join ws a b → Ok s ≡ ok_or o r →
      (p : Plan) × Found join ws p s.to s.caught a1
  planned None s r q z = absurd (let y : ◌≡◌ {A = ℕ} 0 1 = cc in omega arith)
  planned {a1} (Some x) s r q z =
      let same : x ≡ s = cc in
      let begun : 0 < x.at = x.begun in
      let wrote = rewrite_plan join ws a b ok short-enough la lb in
      let there = some_plan wrote (λ k. let e : x.at ≡ 0 = ap (λ (w : Both). w.spot.at) q ∙ k in omega arith) in
      (there.0, subst (λ y. Found join ws there.0 y.to y.caught a1) same (subst (λ w. Found join ws there.0 w.spot.to w.spot.caught w.a) (sym q) (found_at wrote refl there.0 there.1)))

-- the plan is one
pub one_plan : {join join2 : ℕ} {ws : List ℕ} {p q : Plan} {to to2 : ℕ} {caught caught2 : Bool} {a a2 : List ℕ} → Found join ws p to caught a → Found join2 ws q to2 caught2 a2 → Found join2 ws p to2 caught2 a2
one_plan {join2 = join2} {ws} {p} {q} {to2 = to2} {caught2 = caught2} {a2 = a2} f g =
    let same : q ≡ p = let e = sym g.reads ∙ f.reads in cc in
    subst (λ k. Found join2 ws k to2 caught2 a2) same g

-- the first words of a scratch over an output
pub first_over : (a out : List ℕ) (n : ℕ) (new : List ℕ) → take n a ≡ new → n ≡ length new → n ≤ length a → n ≤ length out → pasted a 0 n out 0 ≡ over new out
unfolding pasted
first_over a out n new e l h k =
    let z : n - 0 ≡ n = omega arith in
    let y : 0 + n ≡ n = omega arith in
    rw (le-ltb (length a) n h, le-ltb n 0 (omega arith), le-ltb (length out) 0 (omega arith), z, le-ltb (length out - 0) n (omega arith), y, e, l) refl

-- the verdicts on what stands in the scratch
pub judged_as : {ws : List ℕ} {p : Plan} {to : ℕ} {caught : Bool} {a : List ℕ} {n : ℕ} → Found 6144 ws p to caught a → n ≡ judged (take to a) caught → n ≡ judged (plan_words (stand_in p)) (engines_captured p.engines)
judged_as {caught = caught} f e = e ∙ ap (λ l. judged l caught) f.part ∙ ap (judged _) f.catches

pub measured_as : {ws : List ℕ} {p : Plan} {to : ℕ} {caught : Bool} {a : List ℕ} {n : ℕ} (room : ℕ) → Found 4096 ws p to caught a → n ≡ measured (take to a) room → n ≡ measured (plan_words (translated p)) room
measured_as room f e = e ∙ ap (λ l. measured l room) f.part
