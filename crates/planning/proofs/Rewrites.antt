-- The mirrored rewriting is that of the plan that the words are: where the layout's reader finds a process, its rewriting is written behind
-- what stood in the scratch, and the spot has come to its end; where it finds none, the spot is lost.
-- Assumes nothing.
use Prim.Native.Nat.{ℕ, ◌+◌, ◌-◌, ◌*◌, ◌≤◌, ◌<◌}
use native.Mathlib.Omega.{arith}
use native.Mathlib.Nat.{add-zero}
use mathlib.Core.Path.{◌≡◌, refl, sym, ap, subst, ◌∙◌}
use mathlib.Core.Bool.{Bool, true, false, ◌||◌}
use mathlib.Core.List.{List, [], ◌++◌, append_assoc, append-nil}
use lib.ListN.{length, take, drop, length-append, length-drop, take-append-drop}
use lib.Seq.{take-take, length-take-le, drop_at}
use Rattle.sock.specs.Reading.{Got, fail, got}
use Rattle.sock.proofs.Positions.{at_past}
use Rattle.writers.proofs.Laid.{Near, Laid, laid_then, laid_under}
use Rattle.planning.specs.Walk.{Spot, Both, both}

-- ---- what was there before a place stays

pub record Kept (out : List ℕ) (to : ℕ) (last : List ℕ) : Type 0 where
  pub same : length last ≡ length out
  pub begins : take to last ≡ take to out

pub kept_still : (out : List ℕ) (to : ℕ) → Kept out to out
kept_still out to = record { same = refl; begins = refl }

pub kept_then : {out : List ℕ} {to : ℕ} {mid last : List ℕ} → Kept out to mid → Kept mid to last → Kept out to last
kept_then x y = record { same = y.same ∙ x.same; begins = y.begins ∙ x.begins }

pub kept_less : {out : List ℕ} {to : ℕ} {last : List ℕ} (less : ℕ) → less ≤ to → Kept out to last → Kept out less last
kept_less {out} {to} {last} less h x =
    record { same = x.same; begins = sym (take-take less to last h) ∙ ap (take less) x.begins ∙ take-take less to out h }

pub laid_keeps : {out : List ℕ} {to : ℕ} {new last : List ℕ} → to ≤ length out → Laid out to new last → Kept out to last
laid_keeps h x = record { same = x.keeps; begins = laid_under h x }

pub laid_kept : {out : List ℕ} {to : ℕ} {new mid last : List ℕ} → Laid out to new mid → Kept mid (to + length new) last → Laid out to new last
laid_kept x y = record { keeps = y.same ∙ x.keeps; begins = y.begins ∙ x.begins }

pub laid_drop : {out : List ℕ} {to : ℕ} {new last : List ℕ} → to ≤ length out → Laid out to new last → drop to last ≡ new ++ drop (to + length new) last
laid_drop {out} {to} {new} {last} h x =
    let l : length (take to out) ≡ to = length-take-le to out h in
    let all : last ≡ take to out ++ (new ++ drop (to + length new) last) =
    sym (take-append-drop (to + length new) last) ∙ ap (λ l. l ++ drop (to + length new) last) x.begins ∙ append_assoc (take to out) new (drop (to + length new) last) in
    ap (drop to) all ∙ drop_at (take to out) (new ++ drop (to + length new) last) to l

-- ---- one part of the way

pub or_false : (b : Bool) → b || false ≡ b
or_false true = refl
or_false false = refl

pub or_assoc : (a b c : Bool) → (a || b) || c ≡ a || (b || c)
or_assoc true b c = refl
or_assoc false b c = refl

module _ (ws : List ℕ) where
  -- the words `old` were passed, and `new` written
  pub record Did (old new : List ℕ) (caught : Bool) (rest : List ℕ) (s : Spot) (a b : List ℕ) (spare : ℕ) (w : Both) : Type 0 where
    pub begins : drop s.at ws ≡ old ++ rest
    pub ends : w.spot.at ≡ s.at + length old
    pub writes : w.spot.to ≡ s.to + length new
    pub catches : w.spot.caught ≡ (s.caught || caught)
    pub laid : Laid a s.to new w.a
    pub kept : Kept b spare w.b

  -- room for what is still to come: four words for each word left, and `more`
  pub record Ready (more : ℕ) (s : Spot) (a b : List ℕ) (spare : ℕ) : Type 0 where
    pub some : 0 < s.at
    pub inside : s.at ≤ length ws
    pub room : s.to + 4 * (length ws - s.at) + more ≤ length a
    pub spares : spare + 4 * (length ws - s.at) + more ≤ length b
    pub near : Near (length a)
    pub nearby : Near (length b)

  pub did_rest :
      {old new : List ℕ} {caught : Bool} {rest : List ℕ} {s : Spot} {a b : List ℕ} {spare : ℕ} {w : Both} →
      Did old new caught rest s a b spare w → drop w.spot.at ws ≡ rest
  did_rest {old} {rest = rest} {s = s} x = rw x.ends (at_past ws old rest s.at x.begins)

  pub did_inside :
      {old new : List ℕ} {caught : Bool} {rest : List ℕ} {s : Spot} {a b : List ℕ} {spare : ℕ} {w : Both} →
      s.at ≤ length ws → Did old new caught rest s a b spare w → w.spot.at ≤ length ws
  did_inside {old} {rest = rest} {s = s} l x =
      let k : length ws - s.at ≡ length old + length rest = sym (length-drop s.at ws) ∙ ap length x.begins ∙ length-append old rest in
      omega (arith, x.ends)

  pub did_none : (s : Spot) (a b : List ℕ) (spare : ℕ) → s.to ≤ length a → Did [] [] false (drop s.at ws) s a b spare (both s a b)
  did_none s a b spare h =
      record {
        begins = refl;
        ends = sym (add-zero s.at);
        writes = sym (add-zero s.to);
        catches = sym (or_false s.caught);
        laid = record { keeps = refl; begins = ap (λ n. take n a) (add-zero s.to) ∙ sym (append-nil (take s.to a)) };
        kept = kept_still b spare;
      }

  pub did_then :
      {o1 n1 o2 n2 : List ℕ} {c1 c2 : Bool} {r1 r2 : List ℕ} {s : Spot} {a b : List ℕ} {spare : ℕ} {w1 w2 : Both} →
      Did o1 n1 c1 r1 s a b spare w1 → Did o2 n2 c2 r2 w1.spot w1.a w1.b spare w2 → Did (o1 ++ o2) (n1 ++ n2) (c1 || c2) r2 s a b spare w2
  did_then {o1} {n1} {o2} {n2} {c1} {c2} {r1} {r2} {s} {a} {b} {spare} {w1} {w2} x y =
      record {
        begins = x.begins ∙ ap (λ l. o1 ++ l) (sym (did_rest x) ∙ y.begins) ∙ sym (append_assoc o1 o2 r2);
        ends = y.ends ∙ omega (arith, x.ends, length-append o1 o2);
        writes = y.writes ∙ omega (arith, x.writes, length-append n1 n2);
        catches = y.catches ∙ ap (λ t. t || c2) x.catches ∙ or_assoc s.caught c1 c2;
        laid = laid_then x.laid (subst (λ k. Laid w1.a k n2 w2.a) x.writes y.laid);
        kept = kept_then x.kept y.kept;
      }

  -- what the layout's reader finds, and what the rewriting did: nothing, or the words of one written for those of the other, with `k` words to spare
  pub data Rel {A : Type 0} (k : ℕ) (old new : A → List ℕ) (cap : A → Bool) (s : Spot) (a b : List ℕ) (spare : ℕ) : Got A → Both → Type 0 where
    loses : {w : Both} → w.spot.at ≡ 0 → Rel k old new cap s a b spare fail w
    does :
        {x : A} {rest : List ℕ} {w : Both} → Did (old x) (new x) (cap x) rest s a b spare w → length (new x) + k ≤ 4 * length (old x) →
        Rel k old new cap s a b spare (got x rest) w

  pub ready_next :
      {old new : List ℕ} {caught : Bool} {rest : List ℕ} {s : Spot} {a b : List ℕ} {spare : ℕ} {w : Both} (more : ℕ) →
      Ready more s a b spare → Did old new caught rest s a b spare w → length new ≤ 4 * length old → Ready more w.spot w.a w.b spare
  ready_next {old} {new} {s = s} {a} {b} {spare} {w} more r x h =
      let i : w.spot.at ≤ length ws = did_inside r.inside x in
      let e = x.ends in
      let t = x.writes in
      let la : length w.a ≡ length a = x.laid.keeps in
      let lb : length w.b ≡ length b = x.kept.same in
      let ra = r.room in
      let rb = r.spares in
      record {
        some = omega (arith, r.some);
        inside = i;
        room = omega arith;
        spares = omega arith;
        near = rw la r.near;
        nearby = rw lb r.nearby;
      }
