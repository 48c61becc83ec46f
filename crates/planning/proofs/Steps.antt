-- The mirrored rewriting, one turn at a time, as the code comes to it.
-- Assumes nothing.
use Prim.Native.Nat.{ℕ, zero, suc, ◌+◌, ◌-◌, ◌/◌, ◌%◌, ◌≤◌, ◌<◌}
use native.Mathlib.Omega.{arith}
use native.Mathlib.Numerals.{sub-one}
use mathlib.Core.Path.{◌≡◌, refl, sym}
use mathlib.Core.Bool.{Bool, true, false, cond, ◌&&◌, ◌||◌}
use mathlib.Core.List.{List}
use Rattle.std.specs.Prelude.{None}
use Rattle.reading.specs.Walk.{end_as}
use lib.Dec.{eqb}
use lib.ListN.{length, get_or, set}
use borrow.Author.Tests.{lt-ltb, le-ltb, le-leb, lt-leb, eq-eqb, ne_eqb}
use Rattle.sock.specs.Words.{kind_of}
use Rattle.sock.specs.declared.Counts.{Counts}
use Rattle.layout.specs.Positions.{onward}
use Rattle.writers.specs.Writing.{pasted, pasted_end}
use Rattle.planning.specs.Walk.{past, variables_past, lists_past, own_past, expression_past, Spot, lost, spot, one, Both, both, copied_w, key_w, Walk, each_w, listed_w, node_w, body_w, close_w, rest_w, fixed_w, process_w, engine_w, engines_w, rewrite_w}

-- ---- whole answers

pub whole : {x : Both} {s : Spot} {a b : List ℕ} → (s ≡ x.spot) × (a ≡ x.a) × (b ≡ x.b) → x ≡ both s a b
whole q = λ k. record { spot = sym q.0 k; a = sym q.1 k; b = sym q.2 k }

-- ---- loops

pub lists_turn : (ws : List ℕ) (n i at : ℕ) → i < n → lists_past ws (n - i) at ≡ lists_past ws (n - (i + 1)) (variables_past ws at)
unfolding lists_past
lists_turn ws n i at h = let e : n - i ≡ suc (n - (i + 1)) = omega arith in rw e

pub lists_done : (ws : List ℕ) (n i at : ℕ) → n ≤ i → lists_past ws (n - i) at ≡ at
unfolding lists_past
lists_done ws n i at h = let e : n - i ≡ 0 = omega arith in rw e

pub lists_lost : (ws : List ℕ) (n : ℕ) → lists_past ws n 0 ≡ 0
unfolding lists_past variables_past
lists_lost ws zero = refl
lists_lost ws (suc n) = lists_lost ws n

pub own_unfixed : (d : ℕ) (ws : List ℕ) (c : Counts) (i : ℕ) → past ws (i + 1) c.fixed ≡ 0 → None ≡ end_as (own_past d ws c i)
unfolding own_past expression_past
own_unfixed d ws c i e = rw (e, lists_lost ws c.variables) (by (eqb c.expressions 0))
  where
    by : (b : Bool) → None ≡ end_as (cond b 0 0)
    by true = refl
    by false = refl

pub own_unlisted : (d : ℕ) (ws : List ℕ) (c : Counts) (i : ℕ) → lists_past ws c.variables (past ws (i + 1) c.fixed) ≡ 0 → None ≡ end_as (own_past d ws c i)
unfolding own_past expression_past
own_unlisted d ws c i e = rw e (by (eqb c.expressions 0))
  where
    by : (b : Bool) → None ≡ end_as (cond b 0 0)
    by true = refl
    by false = refl

module _ (sub : Walk) (ws : List ℕ) (free : Bool) (keys : ℕ) (spare : ℕ) where
  pub each_end : (n : ℕ) (s : Spot) (a b : List ℕ) → n ≤ 0 → each_w sub ws free keys n s a b spare ≡ both s a b
  unfolding each_w
  each_end zero s a b h = refl
  each_end (suc n) s a b h = absurd (omega arith)

  pub each_turn :
      (n i : ℕ) (s : Spot) (a b : List ℕ) → i < n → 0 < s.at →
      each_w sub ws free keys (n - i) s a b spare
      ≡ (let k = key_w ws keys s a in
      let x = sub free k.spot k.a b spare in
      each_w sub ws free keys (n - (i + 1)) x.spot x.a x.b spare)
  unfolding each_w
  each_turn n i s a b h z = let e : n - i ≡ suc (n - (i + 1)) = omega arith in simp (e, ne_eqb s.at 0 (λ q. omega arith))

  pub each_done : (n i : ℕ) (s : Spot) (a b : List ℕ) → n ≤ i → each_w sub ws free keys (n - i) s a b spare ≡ both s a b
  unfolding each_w
  each_done n i s a b h = let e : n - i ≡ 0 = omega arith in rw e

  pub each_none : (n : ℕ) (a b : List ℕ) → each_w sub ws free keys n lost a b spare ≡ both lost a b
  unfolding each_w
  each_none zero a b = refl
  each_none (suc n) a b = refl

module _ (join : ℕ) (ws : List ℕ) where
  pub engines_lost : (n : ℕ) (s : Spot) (a b : List ℕ) → 0 < n → s.at ≡ 0 → engines_w join ws n s a b ≡ both lost a b
  unfolding engines_w
  engines_lost zero s a b h z = absurd (omega arith)
  engines_lost (suc n) s a b h z = rw (eq-eqb s.at 0 z)

  pub engines_end : (n : ℕ) (s : Spot) (a b : List ℕ) → n ≤ 0 → engines_w join ws n s a b ≡ both s a b
  unfolding engines_w
  engines_end zero s a b h = refl
  engines_end (suc n) s a b h = absurd (omega arith)

  pub engines_turn :
      (n i : ℕ) (s : Spot) (a b : List ℕ) → i < n → 0 < s.at →
      engines_w join ws (n - i) s a b ≡ (let x = engine_w join ws s a b in engines_w join ws (n - (i + 1)) x.spot x.a x.b)
  unfolding engines_w
  engines_turn n i s a b h z = let e : n - i ≡ suc (n - (i + 1)) = omega arith in simp (e, ne_eqb s.at 0 (λ q. omega arith))

  pub engines_done : (n i : ℕ) (s : Spot) (a b : List ℕ) → n ≤ i → engines_w join ws (n - i) s a b ≡ both s a b
  unfolding engines_w
  engines_done n i s a b h = let e : n - i ≡ 0 = omega arith in rw e

  pub engines_none : (n : ℕ) (a b : List ℕ) → engines_w join ws n lost a b ≡ both lost a b
  unfolding engines_w
  engines_none zero a b = refl
  engines_none (suc n) a b = refl

-- ---- a process

module _ (join : ℕ) (ws : List ℕ) (free : Bool) (s : Spot) (a b : List ℕ) (spare : ℕ) where
  pub process_step :
      (d : ℕ) → (d ≡ 0 → ⊥) → 0 < s.at → s.at < length ws →
      process_w d join ws free s a b spare
      ≡ cond (eqb (kind_of (get_or ws s.at 0)) 19) (fixed_w (process_w (d - 1) join ws) join ws free s a b spare) (node_w (d - 1) (process_w (d - 1) join ws) ws free s a b spare)
  unfolding process_w
  process_step zero h n l = absurd (h refl)
  process_step (suc d) h n l = simp (sub-one (suc d), ne_eqb s.at 0 (λ q. omega arith), lt-leb (length ws) s.at l)

  pub process_lost : (d : ℕ) → 0 < s.at → length ws ≤ s.at → process_w d join ws free s a b spare ≡ both lost a b
  unfolding process_w
  process_lost zero n l = refl
  process_lost (suc d) n l = simp (ne_eqb s.at 0 (λ q. omega arith), le-leb (length ws) s.at l)

pub process_none : (d join : ℕ) (ws : List ℕ) (free : Bool) (to : ℕ) (caught : Bool) (a b : List ℕ) (spare : ℕ) → process_w d join ws free (spot 0 to caught) a b spare ≡ both lost a b
unfolding process_w
process_none zero join ws free to caught a b spare = refl
process_none (suc d) join ws free to caught a b spare = refl

pub rest_none : (d join : ℕ) (ws : List ℕ) (free : Bool) (h : ℕ) (a b : List ℕ) (spare : ℕ) → rest_w (process_w d join ws) join ws free h lost a b spare ≡ both lost a b
unfolding rest_w close_w body_w
rest_none d join ws free h a b spare = simp (process_none d join ws true spare false b a 0)

-- ---- own words, and keys

module _ (ws : List ℕ) (end k : ℕ) (free : Bool) (s : Spot) (a : List ℕ) where
  pub copied_lost : end ≡ 0 → copied_w ws end k free s a ≡ one lost a
  unfolding copied_w
  copied_lost e = rw (eq-eqb end 0 e)

  pub copied_there :
      {t : ℕ} {o : List ℕ} {c : Bool} → (end ≡ 0 → ⊥) → t ≡ pasted_end ws s.at end s.to → o ≡ pasted ws s.at end a s.to → c ≡ (s.caught || free && eqb k 15) →
      copied_w ws end k free s a ≡ one (spot end t c) o
  unfolding copied_w
  copied_there n p q r = simp (ne_eqb end 0 n, p, q, r)

module _ (ws : List ℕ) (keys : ℕ) (s : Spot) (a : List ℕ) where
  pub key_none : keys ≡ 0 → key_w ws keys s a ≡ one s a
  unfolding key_w
  key_none e = rw (eq-eqb keys 0 e)

  pub key_outside : (keys ≡ 0 → ⊥) → length ws ≤ s.at → key_w ws keys s a ≡ one lost a
  unfolding key_w
  key_outside n l = simp (ne_eqb keys 0 n, le-leb (length ws) s.at l)

  pub key_unclear : (keys ≡ 0 → ⊥) → s.at < length ws → (get_or ws s.at 0 % 512 ≡ 0 → ⊥) → key_w ws keys s a ≡ one lost a
  unfolding key_w
  key_unclear n l u = simp (ne_eqb keys 0 n, lt-leb (length ws) s.at l, ne_eqb (get_or ws s.at 0 % 512) 0 u)

  pub key_beyond :
      (keys ≡ 0 → ⊥) → s.at < length ws → get_or ws s.at 0 % 512 ≡ 0 → keys ≤ get_or ws s.at 0 / 512 → key_w ws keys s a ≡ one lost a
  unfolding key_w
  key_beyond n l u h = simp (ne_eqb keys 0 n, lt-leb (length ws) s.at l, eq-eqb (get_or ws s.at 0 % 512) 0 u, le-leb keys (get_or ws s.at 0 / 512) h)

  pub key_there :
      {t : ℕ} {o : List ℕ} → (keys ≡ 0 → ⊥) → s.at < length ws → get_or ws s.at 0 % 512 ≡ 0 → get_or ws s.at 0 / 512 < keys →
      t ≡ onward s.to 1 → o ≡ set a s.to (get_or ws s.at 0) →
      key_w ws keys s a ≡ one (spot (s.at + 1) t s.caught) o
  unfolding key_w
  key_there n l u h p q =
      simp (ne_eqb keys 0 n, lt-leb (length ws) s.at l, eq-eqb (get_or ws s.at 0 % 512) 0 u, lt-leb keys (get_or ws s.at 0 / 512) h, p, q)

-- ---- the parts of a process

module _ (sub : Walk) (join : ℕ) (ws : List ℕ) (free : Bool) (s : Spot) (a b : List ℕ) (spare : ℕ) where
  pub body_nowhere : s.at ≡ 0 → body_w sub join ws free s a b spare ≡ both lost a b
  unfolding body_w
  body_nowhere z = rw (eq-eqb s.at 0 z)

  pub body_outside : (s.at ≡ 0 → ⊥) → length ws ≤ s.at → body_w sub join ws free s a b spare ≡ both lost a b
  unfolding body_w
  body_outside n l = simp (ne_eqb s.at 0 n, le-leb (length ws) s.at l)

  pub body_nil : (s.at ≡ 0 → ⊥) → s.at < length ws → get_or ws s.at 0 ≡ 0 → body_w sub join ws free s a b spare ≡ both (spot (s.at + 1) s.to s.caught) a b
  unfolding body_w
  body_nil n l z = simp (ne_eqb s.at 0 n, lt-leb (length ws) s.at l, eq-eqb (get_or ws s.at 0) 0 z)

  pub body_there :
      {t : ℕ} {x : Spot} {a1 a2 b2 : List ℕ} → (s.at ≡ 0 → ⊥) → s.at < length ws → (get_or ws s.at 0 ≡ 0 → ⊥) →
      t ≡ onward s.to 1 → a1 ≡ set a s.to join → sub free (spot s.at t s.caught) a1 b spare ≡ both x a2 b2 →
      body_w sub join ws free s a b spare ≡ both x a2 b2
  unfolding body_w
  body_there n l z p q r = simp (ne_eqb s.at 0 n, lt-leb (length ws) s.at l, ne_eqb (get_or ws s.at 0) 0 z, ← p, ← q, r)

module _ (sub : Walk) (ws : List ℕ) (free none : Bool) (keys : ℕ) (s : Spot) (a b : List ℕ) (spare : ℕ) where
  pub listed_none : none ≡ true → listed_w sub ws free none keys s a b spare ≡ both s a b
  unfolding listed_w
  listed_none e = rw e

  pub listed_outside : none ≡ false → (s.at ≡ 0 → ⊥) → length ws ≤ s.at → listed_w sub ws free none keys s a b spare ≡ both lost a b
  unfolding listed_w
  listed_outside e n l = simp (e, ne_eqb s.at 0 n, le-leb (length ws) s.at l)

  pub listed_there :
      {t c : ℕ} {x : Spot} {a1 a2 b2 : List ℕ} → none ≡ false → (s.at ≡ 0 → ⊥) → s.at < length ws →
      t ≡ onward s.to 1 → a1 ≡ set a s.to (get_or ws s.at 0) → c ≡ get_or ws s.at 0 →
      each_w sub ws free keys c (spot (s.at + 1) t s.caught) a1 b spare ≡ both x a2 b2 →
      listed_w sub ws free none keys s a b spare ≡ both x a2 b2
  unfolding listed_w
  listed_there e n l p q r y = simp (e, ne_eqb s.at 0 n, lt-leb (length ws) s.at l) (rw (p, q, r) at y)

-- ---- engines, and all words

module _ (join : ℕ) (ws : List ℕ) (s : Spot) (a b : List ℕ) where
  pub engine_lost : {e : ℕ} → e ≡ past ws s.at 64 → e ≡ 0 → engine_w join ws s a b ≡ both lost a b
  unfolding engine_w
  engine_lost p z = simp (← p, eq-eqb _ 0 z)

  pub engine_there :
      {e t : ℕ} {x : Spot} {a1 a2 b2 : List ℕ} → e ≡ past ws s.at 64 → (e ≡ 0 → ⊥) →
      t ≡ pasted_end ws s.at e s.to → a1 ≡ pasted ws s.at e a s.to →
      process_w 64 join ws false (spot e t s.caught) a1 b 0 ≡ both x a2 b2 →
      engine_w join ws s a b ≡ both x a2 b2
  unfolding engine_w
  engine_there p n q r y = simp (← p, ne_eqb _ 0 n, ← q, ← r, y)

module _ (join : ℕ) (ws : List ℕ) (a b : List ℕ) where
  pub rewrite_short : length ws < 2 → rewrite_w join ws a b ≡ both lost a b
  unfolding rewrite_w
  rewrite_short h = rw (lt-ltb (length ws) 2 h)

  pub rewrite_whole :
      {t n : ℕ} {x : Spot} {a1 a2 b2 : List ℕ} → 2 ≤ length ws → t ≡ pasted_end ws 0 2 0 → a1 ≡ pasted ws 0 2 a 0 → n ≡ get_or ws 0 0 →
      engines_w join ws n (spot 2 t false) a1 b ≡ both x a2 b2 → x.at ≡ length ws → rewrite_w join ws a b ≡ both x a2 b2
  unfolding rewrite_w
  rewrite_whole h p q r y e = simp (le-ltb (length ws) 2 h, ← p, ← q, ← r, y, eq-eqb _ (length ws) e)

  pub rewrite_more :
      {t n : ℕ} {x : Spot} {a1 a2 b2 : List ℕ} → 2 ≤ length ws → t ≡ pasted_end ws 0 2 0 → a1 ≡ pasted ws 0 2 a 0 → n ≡ get_or ws 0 0 →
      engines_w join ws n (spot 2 t false) a1 b ≡ both x a2 b2 → (x.at ≡ length ws → ⊥) → rewrite_w join ws a b ≡ both lost a2 b2
  unfolding rewrite_w
  rewrite_more h p q r y e = simp (le-ltb (length ws) 2 h, ← p, ← q, ← r, y, ne_eqb _ (length ws) e)
