-- The rewriting of all words: that of the plan that they are.
-- Assumes nothing.
use Prim.Native.Nat.{ℕ, zero, suc, ◌+◌, ◌-◌, ◌*◌, ◌≤◌, ◌<◌}
use native.Mathlib.Omega.{arith}
use mathlib.Core.Path.{◌≡◌, refl, sym, ap, subst, ◌∙◌}
use mathlib.Core.Bool.{false}
use mathlib.Core.Option.{Option, none, some}
use mathlib.Core.List.{List, [], ◌∷◌, ◌++◌}
use lib.ListN.{length, drop, length-append, length-drop}
use borrow.Author.Tests.{le-leb, ne_eqb}
use Rattle.sock.specs.Term.{Node}
use Rattle.sock.specs.Layout.{words}
use Rattle.sock.specs.Reading.{Got, fail, got, and_then}
use Rattle.sock.specs.Configuration.{standard, guarded}
use Rattle.writers.specs.Writing.{pasted, pasted_end}
use Rattle.writers.proofs.Laid.{Near, near_of, Laid, laid_then, laid_copy, copy_end}
use Rattle.reading.proofs.Combining.{Words}
use Rattle.planning.specs.Plan.{first, plan, Planned, Plan, planned_words, plan_words, plan_engines, whole_plan, read_plan}
use Rattle.planning.specs.Translation.{rewritten, engines_rewritten, plan_rewritten, captured, engines_captured}
use Rattle.planning.specs.Walk.{past, Spot, lost, spot, Both, both, process_w, engine_w, engines_w, rewrite_w}
use Rattle.planning.proofs.Steps.{whole, engine_lost, engine_there, engines_lost, engines_end, rewrite_short, rewrite_whole, rewrite_more}
use Rattle.planning.proofs.Laying.{Reach, no, yes, itself, first_reach}
use Rattle.planning.proofs.Rewrites.{kept_still, or_false, Did, Ready, Rel, loses, does, did_rest, did_inside, did_none, did_then, ready_next}
use Rattle.planning.proofs.Processes.{process_rel}

module _ (join : ℕ) (ws : List ℕ) (ok : Words ws) where
  abbrev EnginesRel : Spot → List ℕ → List ℕ → Got (List Planned) → Both → Type 0
  EnginesRel s a b = Rel ws 0 planned_words (λ es. planned_words (engines_rewritten join es)) engines_captured s a b 0

  engines_gone : (n : ℕ) (s : Spot) (a b : List ℕ) → s.at ≡ 0 → (engines_w join ws n s a b).spot.at ≡ 0
  engines_gone zero s a b e = ap (λ (x : Both). x.spot.at) (engines_end join ws zero s a b (omega arith)) ∙ e
  engines_gone (suc n) s a b e = ap (λ (x : Both). x.spot.at) (engines_lost join ws (suc n) s a b (omega arith) e)

  engines_turn : (n : ℕ) (s : Spot) (a b : List ℕ) → 0 < s.at → engines_w join ws (suc n) s a b ≡ engines_w join ws n (engine_w join ws s a b).spot (engine_w join ws s a b).a (engine_w join ws s a b).b
  unfolding engines_w
  engines_turn n s a b h = rw (ne_eqb s.at 0 (λ e. omega arith))

  -- values, a process, and the engines behind
  engines_last :
      (vs : List ℕ) (p : Node) {s : Spot} {a b : List ℕ} {r1 r2 : List ℕ} {w1 w2 : Both} →
      Did ws vs vs false r1 s a b 0 w1 → Did ws (words p) (words (rewritten join p)) (captured false p) r2 w1.spot w1.a w1.b 0 w2 →
      length (words (rewritten join p)) + 3 ≤ 4 * length (words p) →
      {g : Got (List Planned)} {w3 : Both} → EnginesRel w2.spot w2.a w2.b g w3 →
      EnginesRel s a b (and_then g λ es rest. got (record { values = vs; process = p } ∷ es) rest) w3
  unfolding and_then planned_words engines_rewritten engines_captured
  engines_last vs p x y h (loses e) = loses e
  engines_last vs p {s} {a} {b} x y h (does {x = es} {rest} {w = w3} z k) =
      let q : List ℕ = planned_words es in
      let r : List ℕ = planned_words (engines_rewritten join es) in
      does {x = record { values = vs; process = p } ∷ es}
      (did_then ws x (did_then ws y z))
      (omega (arith, length-append vs (words p ++ q), length-append (words p) q, length-append vs (words (rewritten join p) ++ r), length-append (words (rewritten join p)) r))

  engines_process :
      (n : ℕ) (vs : List ℕ) {s : Spot} {a b : List ℕ} {r1 : List ℕ} {w1 : Both} → Did ws vs vs false r1 s a b 0 w1 → Ready ws 128 w1.spot w1.a w1.b 0 →
      {g : Got Node} {w2 : Both} → Rel ws 3 words (λ p. words (rewritten join p)) (captured false) w1.spot w1.a w1.b 0 g w2 →
      (Ready ws 128 w2.spot w2.a w2.b 0 → EnginesRel w2.spot w2.a w2.b (plan_engines 64 n (drop w2.spot.at ws)) (engines_w join ws n w2.spot w2.a w2.b)) →
      EnginesRel s a b (and_then g λ p then. and_then (plan_engines 64 n then) λ es rest. got (record { values = vs; process = p } ∷ es) rest) (engines_w join ws n w2.spot w2.a w2.b)
  unfolding and_then
  engines_process n vs x r (loses {w} e) later = loses (engines_gone n w.spot w.a w.b e)
  engines_process n vs x r (does {x = p} {rest} {w} y h) later = engines_last vs p x y h (rw (did_rest ws y) at (later (ready_next ws 128 r y (omega arith))))

  engines_values :
      (n : ℕ) (s : Spot) (a b : List ℕ) → Ready ws 128 s a b 0 → {g : Got (List ℕ)} {e : ℕ} → Reach ws itself s.at g e → past ws s.at 64 ≡ e →
      (Ready ws 128 (engine_w join ws s a b).spot (engine_w join ws s a b).a (engine_w join ws s a b).b 0 →
      EnginesRel (engine_w join ws s a b).spot (engine_w join ws s a b).a (engine_w join ws s a b).b (plan_engines 64 n (drop (engine_w join ws s a b).spot.at ws)) (engines_w join ws n (engine_w join ws s a b).spot (engine_w join ws s a b).a (engine_w join ws s a b).b)) →
      EnginesRel s a b
      (and_then g λ vs next. and_then (plan 64 next) λ p then. and_then (plan_engines 64 n then) λ es rest. got (record { values = vs; process = p } ∷ es) rest)
      (engines_w join ws n (engine_w join ws s a b).spot (engine_w join ws s a b).a (engine_w join ws s a b).b)
  unfolding and_then
  engines_values n s a b r no q later =
      let z : engine_w join ws s a b ≡ both lost a b = engine_lost join ws s a b (sym q) refl in
      loses (engines_gone n (engine_w join ws s a b).spot (engine_w join ws s a b).a (engine_w join ws s a b).b (ap (λ (x : Both). x.spot.at) z))
  engines_values n s a b r (yes {x = vs} {rest} {e} p u v m) q later =
      let room = r.room in
      let long : length ws - s.at ≡ length vs + length rest = sym (length-drop s.at ws) ∙ ap length p ∙ length-append vs rest in
      let fits : s.to + length vs ≤ length a = omega arith in
      let w : Both = both (spot e (pasted_end ws s.at e s.to) s.caught) (pasted ws s.at e a s.to) b in
      let x : Did ws vs vs false rest s a b 0 w =
      record {
        begins = p;
        ends = u;
        writes = copy_end ws vs rest s.at e s.to (length a) p r.inside u r.near fits;
        catches = sym (or_false s.caught);
        laid = laid_copy ws vs rest s.at e a s.to p r.inside u fits;
        kept = kept_still b 0;
      } in
      let next : Ready ws 128 w.spot w.a w.b 0 = ready_next ws 128 r x (omega arith) in
      let turn : engine_w join ws s a b ≡ process_w 64 join ws false w.spot w.a b 0 =
      engine_there join ws s a b (sym q) (λ z. omega (arith, r.some)) refl refl (whole (refl, refl, refl)) in
      let found = process_rel join ws ok 64 false w.spot w.a b 0 next in
      engines_process n vs x next (rw (v, ← turn) at found) later

  pub engines_rel :
      (n : ℕ) (s : Spot) (a b : List ℕ) → Ready ws 128 s a b 0 → EnginesRel s a b (plan_engines 64 n (drop s.at ws)) (engines_w join ws n s a b)
  unfolding plan_engines planned_words engines_rewritten engines_captured
  engines_rel zero s a b r = rw (engines_end join ws zero s a b (omega arith)) (does {x = []} (did_none ws s a b 0 (let q = r.room in omega arith)) (omega arith))
  engines_rel (suc n) s a b r =
      rw (engines_turn n s a b r.some)
      (engines_values n s a b r (first_reach ws ok s.at 64 r.some r.inside) refl
      (λ next. engines_rel n (engine_w join ws s a b).spot (engine_w join ws s a b).a (engine_w join ws s a b).b next))

-- ---- the words as a whole

length_rewritten : (join : ℕ) (es : List Planned) → length (engines_rewritten join es) ≡ length es
unfolding engines_rewritten
length_rewritten join [] = refl
length_rewritten join (e ∷ es) = ap suc (length_rewritten join es)

data Many (n : ℕ) : Got (List Planned) → Type 0 where
  failed : Many n fail
  many : {es : List Planned} {rest : List ℕ} → length es ≡ n → Many n (got es rest)

many_then : (n : ℕ) (vs : List ℕ) (p : Node) {g : Got (List Planned)} → Many n g → Many (suc n) (and_then g λ es rest. got (record { values = vs; process = p } ∷ es) rest)
unfolding and_then
many_then n vs p failed = failed
many_then n vs p (many e) = many (ap suc e)

many_engines : (d n : ℕ) (ws : List ℕ) → Many n (plan_engines d n ws)
unfolding plan_engines and_then
many_engines d zero ws = many refl
many_engines d (suc n) ws = values (first 64 ws) (λ l. many_engines d n l)
  where
    process : (vs : List ℕ) (g : Got Node) → ((l : List ℕ) → Many n (plan_engines d n l)) →
        Many (suc n) (and_then g λ p then. and_then (plan_engines d n then) λ es rest. got (record { values = vs; process = p } ∷ es) rest)
    process vs fail f = failed
    process vs (got p then) f = many_then n vs p (f then)

    values : (g : Got (List ℕ)) → ((l : List ℕ) → Many n (plan_engines d n l)) →
        Many (suc n) (and_then g λ vs next. and_then (plan d next) λ p then. and_then (plan_engines d n then) λ es rest. got (record { values = vs; process = p } ∷ es) rest)
    values fail f = failed
    values (got vs next) f = process vs (plan d next) f

-- nothing, or the words of the plan rewritten
pub data Wrote (join : ℕ) (a : List ℕ) : Option Plan → Both → Type 0 where
  nothing : {w : Both} → w.spot.at ≡ 0 → Wrote join a none w
  written :
      {p : Plan} {w : Both} → 0 < w.spot.at → w.spot.to ≡ length (plan_words (plan_rewritten join p)) → w.spot.caught ≡ engines_captured p.engines →
      Laid a 0 (plan_words (plan_rewritten join p)) w.a → length (plan_words (plan_rewritten join p)) ≤ 32768 → Wrote join a (some p) w

module _ (join n issued : ℕ) (l : List ℕ) (ok : Words (n ∷ issued ∷ l)) (a b : List ℕ) (short : length (n ∷ issued ∷ l) ≤ 8192) (la : length a ≡ 33024) (lb : length b ≡ 33024) where
  abbrev all : List ℕ
  all = n ∷ issued ∷ l

  abbrev begin : Both
  begin = both (spot 2 (pasted_end all 0 2 0) false) (pasted all 0 2 a 0) b

  near_a : Near (length a)
  near_a = near_of (length a) (omega arith)

  begun_laid : Laid a 0 (n ∷ issued ∷ []) begin.a
  begun_laid = laid_copy all (n ∷ issued ∷ []) l 0 2 a 0 refl (omega arith) (omega arith) (omega arith)

  begun_to : begin.spot.to ≡ 2
  begun_to = copy_end all (n ∷ issued ∷ []) l 0 2 0 (length a) refl (omega arith) (omega arith) near_a (omega arith) ∙ omega arith

  begun_ready : Ready all 128 begin.spot begin.a begin.b 0
  begun_ready =
      let k : length begin.a ≡ length a = begun_laid.keeps in
      let t = begun_to in
      record { some = omega arith; inside = omega arith; room = omega arith; spares = omega arith; near = rw k near_a; nearby = near_of (length b) (omega arith) }

  ended :
      {g : Got (List Planned)} {w : Both} → Many n g → Rel all 0 planned_words (λ es. planned_words (engines_rewritten join es)) engines_captured begin.spot begin.a begin.b 0 g w →
      engines_w join all n begin.spot begin.a begin.b ≡ w →
      Wrote join a (whole_plan issued g) (rewrite_w join all a b)
  unfolding whole_plan plan_words plan_rewritten
  ended failed (loses {w} e) q =
      rw (rewrite_more join all a b (omega arith) refl refl refl q (λ z. let k = e in omega arith)) (nothing refl)
  ended (many c) (does {x = es} {rest = []} {w} x h) q =
      let rests : drop w.spot.at all ≡ [] = did_rest all x in
      let inside : w.spot.at ≤ length all = did_inside all (omega arith) x in
      let empty : length all - w.spot.at ≡ 0 = sym (length-drop w.spot.at all) ∙ ap length rests in
      let at_end : w.spot.at ≡ length all = omega arith in
      let new : List ℕ = planned_words (engines_rewritten join es) in
      let same : length (engines_rewritten join es) ≡ n = length_rewritten join es ∙ c in
      let long : length (length (engines_rewritten join es) ∷ issued ∷ new) ≡ 2 + length new = omega arith in
      let to2 : w.spot.to ≡ 2 + length new = x.writes ∙ ap (λ k. k + length new) begun_to in
      let zero_two : begin.spot.to ≡ 0 + length (n ∷ issued ∷ []) = begun_to ∙ omega arith in
      let laid : Laid a 0 (n ∷ issued ∷ new) w.a = laid_then begun_laid (subst (λ k. Laid begin.a k new w.a) zero_two x.laid) in
      let ends = x.ends in
      rw (rewrite_whole join all a b (omega arith) refl refl refl q at_end)
      (let begun : 0 < w.spot.at = omega arith in
      let few : length (length (engines_rewritten join es) ∷ issued ∷ new) ≤ 32768 = omega arith in
      written {p = record { issued = issued; engines = es }} {w = w} begun (to2 ∙ sym long) x.catches (subst (λ k. Laid a 0 (k ∷ issued ∷ new) w.a) (sym same) laid) few)
  ended (many c) (does {x = es} {rest = v ∷ rest} {w} x h) q =
      let rests : drop w.spot.at all ≡ v ∷ rest = did_rest all x in
      let some : length all - w.spot.at ≡ suc (length rest) = sym (length-drop w.spot.at all) ∙ ap length rests in
      rw (rewrite_more join all a b (omega arith) refl refl refl q (λ z. omega arith)) (nothing refl)

  pub plan_written : Wrote join a (read_plan standard all) (rewrite_w join all a b)
  unfolding read_plan guarded
  plan_written =
      rw (le-leb (length all) 8192 short)
      (ended (many_engines 64 n l) (engines_rel join all ok n begin.spot begin.a begin.b begun_ready) refl)

-- of any words
pub rewrite_plan : (join : ℕ) (ws a b : List ℕ) → Words ws → length ws ≤ 8192 → length a ≡ 33024 → length b ≡ 33024 → Wrote join a (read_plan standard ws) (rewrite_w join ws a b)
unfolding read_plan
rewrite_plan join [] a b ok short la lb = rw (rewrite_short join [] a b (omega arith)) (nothing refl)
rewrite_plan join (n ∷ []) a b ok short la lb = rw (rewrite_short join (n ∷ []) a b (omega arith)) (nothing refl)
rewrite_plan join (n ∷ issued ∷ l) a b ok short la lb = plan_written join n issued l ok a b short la lb
