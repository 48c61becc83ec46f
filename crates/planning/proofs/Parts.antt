-- The rewriting of lists and parts, given that of processes one level down.
-- Assumes nothing.
use Prim.Native.Nat.{ℕ, zero, suc, ◌+◌, ◌*◌, ◌/◌, ◌%◌, ◌≤◌, ◌<◌}
use native.Mathlib.Omega.{arith}
use native.Mathlib.Nat.{add-zero}
use native.Mathlib.Numerals.{add-one}
use mathlib.Core.Path.{◌≡◌, refl, sym, ap, subst, ◌∙◌}
use mathlib.Core.Bool.{Bool, true, false, ◌&&◌, ◌||◌}
use mathlib.Core.List.{List, [], ◌∷◌, ◌++◌, append-nil}
use lib.Dec.{ltb, eqb}
use lib.ListN.{length, take, drop, get_or, set, length-append, drop_of_length-le}
use lib.Seq.{drop-cons}
use borrow.Author.Tests.{eq-eqb, ne_eqb, ltb-true, ltb-false, eqb-true, eqb-false}
use Rattle.sock.specs.Words.{clear, key_of, key_word}
use Rattle.sock.specs.Term.{Node, Block, absent, list, Entries, no_entries, entry, Nodes, no_parts, ◌&◌}
use Rattle.sock.specs.Layout.{count, words, block_words, entries_words, nodes_words}
use Rattle.sock.specs.Reading.{Got, fail, got, and_then, check}
use Rattle.layout.specs.Positions.{onward}
use Rattle.writers.proofs.Laid.{Near, onward_near, Laid, laid_put, laid_then}
use Rattle.planning.specs.Plan.{entries_below, list_below, listed, several, plan}
use Rattle.planning.specs.Translation.{rewritten, block_rewritten, entries_rewritten, parts_rewritten, captured, block_captured, entries_captured}
use Rattle.planning.specs.Walk.{Spot, lost, spot, one, Both, both, Put, put_w, Walk, key_w, each_w, listed_w}
use Rattle.planning.proofs.Steps.{whole, key_none, key_outside, key_unclear, key_beyond, key_there, each_end, listed_none, listed_outside, listed_there}
use Rattle.planning.proofs.Rewrites.{kept_still, Did, Ready, Rel, loses, does, did_rest, did_none, did_then, ready_next}

-- ---- words put one after the other

pub record Puts (out : List ℕ) (to : ℕ) (new : List ℕ) (p : Put) : Type 0 where
  pub reaches : p.to ≡ to + length new
  pub laid : Laid out to new p.out

pub puts_none : (out : List ℕ) (to : ℕ) → Puts out to [] (record { to = to; out = out })
puts_none out to =
    record { reaches = sym (add-zero to); laid = record { keeps = refl; begins = ap (λ n. take n out) (add-zero to) ∙ sym (append-nil (take to out)) } }

pub puts_more :
    {out : List ℕ} {to : ℕ} {new : List ℕ} {p : Put} (w : ℕ) → Near (length out) → to + length new < length out → Puts out to new p → Puts out to (new ++ w ∷ []) (put_w w p)
puts_more {out} {to} {new} {p} w near h x =
    let l : length p.out ≡ length out = x.laid.keeps in
    let r = x.reaches in
    let m : p.to < length p.out = omega arith in
    record {
      reaches = onward_near p.to 1 (length out) near (omega arith) ∙ omega (arith, length-append new (w ∷ []));
      laid = laid_then x.laid (subst (λ k. Laid p.out k (w ∷ []) (set p.out p.to w)) r (laid_put p.out p.to w m));
    }

no_more : (b : Bool) → b ≡ (b || false)
no_more true = refl
no_more false = refl

module _ (ws : List ℕ) where
  -- words written for those passed, as they are put
  pub did_puts :
      {old rest new : List ℕ} {s : Spot} {a : List ℕ} {p : Put} (b : List ℕ) (spare : ℕ) → drop s.at ws ≡ old ++ rest → Puts a s.to new p →
      Did ws old new false rest s a b spare (both (spot (s.at + length old) p.to s.caught) p.out b)
  did_puts {s = s} b spare e x =
      record { begins = e; ends = refl; writes = x.reaches; catches = no_more s.caught; laid = x.laid; kept = kept_still b spare }

  -- the word at the spot, which is written
  pub next_word : (i : ℕ) → i < length ws → drop i ws ≡ get_or ws i 0 ∷ drop (i + 1) ws
  next_word i h = rw (add-one i) (drop-cons ws i 0 h)

  pub did_word :
      (more : ℕ) (s : Spot) (a b : List ℕ) (spare : ℕ) → Ready ws more s a b spare → s.at < length ws →
      Did ws (get_or ws s.at 0 ∷ []) (get_or ws s.at 0 ∷ []) false (drop (s.at + 1) ws) s a b spare
      (both (spot (s.at + 1) (onward s.to 1) s.caught) (set a s.to (get_or ws s.at 0)) b)
  did_word more s a b spare r h =
      let q = r.room in
      did_puts {s = s} b spare (next_word s.at h) (puts_more (get_or ws s.at 0) r.near (omega arith) (puts_none a s.to))

-- the parts of a node that are all free, or none
unfoldable pub all_captured : Bool → Nodes → Bool
all_captured free no_parts = false
all_captured free (p & ps) = captured free p || all_captured free ps

pub count_rewritten : (head : ℕ) (l : Entries) → count (entries_rewritten head l) ≡ count l
unfolding count rewritten
count_rewritten head no_entries = refl
count_rewritten head (entry k p es) = ap suc (count_rewritten head es)

-- a list has as many entries as its count says
data Counted (n : ℕ) : Got Entries → Type 0 where
  none : Counted n fail
  all : {l : Entries} {rest : List ℕ} → count l ≡ n → Counted n (got l rest)

counted_then : (n k : ℕ) (p : Node) {g : Got Entries} → Counted n g → Counted (suc n) (and_then g λ es rest. got (entry k p es) rest)
unfolding and_then count
counted_then n k p none = none
counted_then n k p (all e) = all (ap suc e)

counted : (sub : List ℕ → Got Node) (keys n : ℕ) (ws : List ℕ) → Counted n (entries_below sub keys n ws)
unfolding entries_below count and_then check
counted sub keys zero ws = all refl
counted sub keys (suc n) [] = none
counted sub keys (suc n) (w ∷ ws) = tested (clear 512 w && ltb (key_of w) keys) (sub ws) (λ l. counted sub keys n l)
  where
    read : (g : Got Node) → ((l : List ℕ) → Counted n (entries_below sub keys n l)) →
        Counted (suc n) (and_then g λ p then. and_then (entries_below sub keys n then) λ es rest. got (entry (key_of w) p es) rest)
    read fail f = none
    read (got p then) f = counted_then n (key_of w) p (f then)

    tested : (b : Bool) (g : Got Node) → ((l : List ℕ) → Counted n (entries_below sub keys n l)) →
        Counted (suc n) (check b (and_then g λ p then. and_then (entries_below sub keys n then) λ es rest. got (entry (key_of w) p es) rest))
    tested true g f = read g f
    tested false g f = none

module _ (join : ℕ) (ws : List ℕ) (d : ℕ) (sub : Walk) where
  -- processes, one level down
  abbrev pub Below : Type 0
  Below =
      (free : Bool) (s : Spot) (a b : List ℕ) (spare : ℕ) → Ready ws (2 * d) s a b spare →
      Rel ws 3 words (λ n. words (rewritten join n)) (captured free) s a b spare (plan d (drop s.at ws)) (sub free s a b spare)

  abbrev pub Gone : Type 0
  Gone = (free : Bool) (s : Spot) (a b : List ℕ) (spare : ℕ) → s.at ≡ 0 → (sub free s a b spare).spot.at ≡ 0

  each_turn :
      (free : Bool) (keys n : ℕ) (s : Spot) (a b : List ℕ) (spare : ℕ) (k : Spot) (a1 : List ℕ) → 0 < s.at → key_w ws keys s a ≡ one k a1 →
      each_w sub ws free keys (suc n) s a b spare
      ≡ each_w sub ws free keys n (sub free k a1 b spare).spot (sub free k a1 b spare).a (sub free k a1 b spare).b spare
  unfolding each_w
  each_turn free keys n s a b spare k a1 h e = simp (ne_eqb s.at 0 (λ z. omega arith), e)

  pub each_gone : (free : Bool) (keys n : ℕ) (s : Spot) (a b : List ℕ) (spare : ℕ) → s.at ≡ 0 → (each_w sub ws free keys n s a b spare).spot.at ≡ 0
  unfolding each_w
  each_gone free keys zero s a b spare e = e
  each_gone free keys (suc n) s a b spare e = rw (eq-eqb s.at 0 e)

  pub listed_gone : (free none : Bool) (keys : ℕ) (s : Spot) (a b : List ℕ) (spare : ℕ) → s.at ≡ 0 → (listed_w sub ws free none keys s a b spare).spot.at ≡ 0
  unfolding listed_w
  listed_gone free true keys s a b spare e = e
  listed_gone free false keys s a b spare e = rw (eq-eqb s.at 0 e)

  -- ---- parts

  abbrev PartsRel : Bool → Spot → List ℕ → List ℕ → ℕ → Got Nodes → Both → Type 0
  PartsRel free s a b spare = Rel ws 0 nodes_words (λ ps. nodes_words (parts_rewritten join ps)) (all_captured free) s a b spare

  several_last :
      (free : Bool) (p : Node) {s : Spot} {a b : List ℕ} {spare : ℕ} {rest : List ℕ} {w : Both} →
      Did ws (words p) (words (rewritten join p)) (captured free p) rest s a b spare w → length (words (rewritten join p)) + 3 ≤ 4 * length (words p) →
      {g : Got Nodes} {v : Both} → PartsRel free w.spot w.a w.b spare g v →
      PartsRel free s a b spare (and_then g λ ps then. got (p & ps) then) v
  unfolding and_then words rewritten all_captured
  several_last free p x h (loses e) = loses e
  several_last free p x h (does {x = ps} y k) =
      does {x = p & ps} (did_then ws x y)
      (omega (arith, length-append (words p) (nodes_words ps), length-append (words (rewritten join p)) (nodes_words (parts_rewritten join ps))))

  several_step :
      (free : Bool) (n : ℕ) (s : Spot) (a b : List ℕ) (spare : ℕ) → Ready ws (2 * d) s a b spare → {g : Got Node} {w : Both} →
      Rel ws 3 words (λ n. words (rewritten join n)) (captured free) s a b spare g w →
      (Ready ws (2 * d) w.spot w.a w.b spare →
      PartsRel free w.spot w.a w.b spare (several (plan d) n (drop w.spot.at ws)) (each_w sub ws free 0 n w.spot w.a w.b spare)) →
      PartsRel free s a b spare (and_then g λ p then. and_then (several (plan d) n then) λ ps rest. got (p & ps) rest) (each_w sub ws free 0 n w.spot w.a w.b spare)
  unfolding and_then
  several_step free n s a b spare r (loses {w} e) later = loses (each_gone free 0 n w.spot w.a w.b spare e)
  several_step free n s a b spare r (does {x = p} {rest} {w} x h) later =
      several_last free p x h (rw (did_rest ws x) at (later (ready_next ws (2 * d) r x (omega arith))))

  pub several_rel :
      Below → (free : Bool) (n : ℕ) (s : Spot) (a b : List ℕ) (spare : ℕ) → Ready ws (2 * d) s a b spare →
      PartsRel free s a b spare (several (plan d) n (drop s.at ws)) (each_w sub ws free 0 n s a b spare)
  unfolding several words rewritten all_captured
  several_rel below free zero s a b spare r =
      rw (each_end sub ws free 0 spare zero s a b (omega arith)) (does {x = no_parts} (did_none ws s a b spare (let q = r.room in omega arith)) (omega arith))
  several_rel below free (suc n) s a b spare r =
      rw (each_turn free 0 n s a b spare s a r.some (key_none ws 0 s a refl))
      (several_step free n s a b spare r (below free s a b spare r) (λ q. several_rel below free n (sub free s a b spare).spot (sub free s a b spare).a (sub free s a b spare).b spare q))

  -- ---- lists

  abbrev EntriesRel : Bool → Spot → List ℕ → List ℕ → ℕ → Got Entries → Both → Type 0
  EntriesRel free s a b spare = Rel ws 0 entries_words (λ l. entries_words (entries_rewritten join l)) (entries_captured free) s a b spare

  entries_last :
      (free : Bool) (key : ℕ) (p : Node) {s : Spot} {a b : List ℕ} {spare : ℕ} {rest : List ℕ} {w : Both} →
      Did ws (key_word key ∷ words p) (key_word key ∷ words (rewritten join p)) (captured free p) rest s a b spare w →
      length (words (rewritten join p)) + 3 ≤ 4 * length (words p) →
      {g : Got Entries} {v : Both} → EntriesRel free w.spot w.a w.b spare g v →
      EntriesRel free s a b spare (and_then g λ es then. got (entry key p es) then) v
  unfolding and_then words rewritten captured
  entries_last free key p x h (loses e) = loses e
  entries_last free key p x h (does {x = es} y k) =
      does {x = entry key p es} (did_then ws x y)
      (omega (arith, length-append (words p) (entries_words es), length-append (words (rewritten join p)) (entries_words (entries_rewritten join es))))

  entries_step :
      (free : Bool) (keys n key : ℕ) (s : Spot) (a b : List ℕ) (spare : ℕ) → Ready ws (2 * d) s a b spare → {k : Both} →
      Did ws (key_word key ∷ []) (key_word key ∷ []) false (drop k.spot.at ws) s a b spare k → {g : Got Node} {w : Both} →
      Rel ws 3 words (λ n. words (rewritten join n)) (captured free) k.spot k.a k.b spare g w →
      (Ready ws (2 * d) w.spot w.a w.b spare →
      EntriesRel free w.spot w.a w.b spare (entries_below (plan d) keys n (drop w.spot.at ws)) (each_w sub ws free keys n w.spot w.a w.b spare)) →
      EntriesRel free s a b spare (and_then g λ p then. and_then (entries_below (plan d) keys n then) λ es rest. got (entry key p es) rest) (each_w sub ws free keys n w.spot w.a w.b spare)
  unfolding and_then
  entries_step free keys n key s a b spare r q (loses {w} e) later = loses (each_gone free keys n w.spot w.a w.b spare e)
  entries_step free keys n key s a b spare r q (does {x = p} {rest} {w} x h) later =
      let both-did = did_then ws q x in
      entries_last free key p both-did h (rw (did_rest ws both-did) at (later (ready_next ws (2 * d) r both-did (omega arith))))

  abbrev LaterEntries : Bool → ℕ → ℕ → ℕ → Type 0
  LaterEntries free keys n spare =
      (s1 : Spot) (a1 b1 : List ℕ) → Ready ws (2 * d) s1 a1 b1 spare → EntriesRel free s1 a1 b1 spare (entries_below (plan d) keys n (drop s1.at ws)) (each_w sub ws free keys n s1 a1 b1 spare)

  key_word_lem : (w : ℕ) → w % 512 ≡ 0 → key_word (key_of w) ≡ w
  key_word_lem w e = omega arith

  pub entries_rel :
      Below → Gone → (free : Bool) (keys : ℕ) → 0 < keys → (n : ℕ) (s : Spot) (a b : List ℕ) (spare : ℕ) → Ready ws (2 * d) s a b spare →
      EntriesRel free s a b spare (entries_below (plan d) keys n (drop s.at ws)) (each_w sub ws free keys n s a b spare)
  unfolding entries_below words rewritten captured check
  entries_rel below gone free keys some zero s a b spare r =
      rw (each_end sub ws free keys spare zero s a b (omega arith)) (does {x = no_entries} (did_none ws s a b spare (let q = r.room in omega arith)) (omega arith))
  entries_rel below gone free keys some (suc n) s a b spare r = go (ltb s.at (length ws)) refl (λ s1 a1 b1 q. entries_rel below gone free keys some n s1 a1 b1 spare q)
    where
      -- a key that is none
      bad : key_w ws keys s a ≡ one lost a → EntriesRel free s a b spare fail (each_w sub ws free keys (suc n) s a b spare)
      bad e =
          rw (each_turn free keys n s a b spare lost a r.some e)
          (loses (each_gone free keys n (sub free lost a b spare).spot (sub free lost a b spare).a (sub free lost a b spare).b spare (gone free lost a b spare refl)))

      good :
          s.at < length ws → get_or ws s.at 0 % 512 ≡ 0 → get_or ws s.at 0 / 512 < keys → LaterEntries free keys n spare →
          EntriesRel free s a b spare
          (and_then (plan d (drop (s.at + 1) ws)) λ p then. and_then (entries_below (plan d) keys n then) λ es rest. got (entry (key_of (get_or ws s.at 0)) p es) rest)
          (each_w sub ws free keys (suc n) s a b spare)
      good h c k later =
          let w : ℕ = get_or ws s.at 0 in
          let x = did_word ws (2 * d) s a b spare r h in
          let next = ready_next ws (2 * d) r x (omega arith) in
          let n1 : Spot = spot (s.at + 1) (onward s.to 1) s.caught in
          let a1 : List ℕ = set a s.to w in
          rw (each_turn free keys n s a b spare n1 a1 r.some (key_there ws keys s a (λ z. omega arith) h c k refl refl))
          (entries_step free keys n (key_of w) s a b spare r
          (subst (λ v. Did ws (v ∷ []) (v ∷ []) false (drop (s.at + 1) ws) s a b spare (both n1 a1 b)) (sym (key_word_lem w c)) x)
          (below free n1 a1 b spare next)
          (λ q. later (sub free n1 a1 b spare).spot (sub free n1 a1 b spare).a (sub free n1 a1 b spare).b q))

      below_keys :
          s.at < length ws → get_or ws s.at 0 % 512 ≡ 0 → (t : Bool) → ltb (get_or ws s.at 0 / 512) keys ≡ t → LaterEntries free keys n spare →
          EntriesRel free s a b spare
          (check t (and_then (plan d (drop (s.at + 1) ws)) λ p then. and_then (entries_below (plan d) keys n then) λ es rest. got (entry (key_of (get_or ws s.at 0)) p es) rest))
          (each_w sub ws free keys (suc n) s a b spare)
      below_keys h c true t later = good h c (ltb-true (get_or ws s.at 0 / 512) keys t) later
      below_keys h c false t later = bad (key_beyond ws keys s a (λ z. omega arith) h c (ltb-false (get_or ws s.at 0 / 512) keys t))

      clears :
          s.at < length ws → (t : Bool) → eqb (get_or ws s.at 0 % 512) 0 ≡ t → LaterEntries free keys n spare →
          EntriesRel free s a b spare
          (check (t && ltb (key_of (get_or ws s.at 0)) keys)
          (and_then (plan d (drop (s.at + 1) ws)) λ p then. and_then (entries_below (plan d) keys n then) λ es rest. got (entry (key_of (get_or ws s.at 0)) p es) rest))
          (each_w sub ws free keys (suc n) s a b spare)
      clears h true t later = below_keys h (eqb-true (get_or ws s.at 0 % 512) 0 t) (ltb (get_or ws s.at 0 / 512) keys) refl later
      clears h false t later = bad (key_unclear ws keys s a (λ z. omega arith) h (eqb-false (get_or ws s.at 0 % 512) 0 t))

      go : (t : Bool) → ltb s.at (length ws) ≡ t → LaterEntries free keys n spare → EntriesRel free s a b spare (entries_below (plan d) keys (suc n) (drop s.at ws)) (each_w sub ws free keys (suc n) s a b spare)
      go true t later =
          let h : s.at < length ws = ltb-true s.at (length ws) t in
          rw (next_word ws s.at h) (clears h (eqb (get_or ws s.at 0 % 512) 0) refl later)
      go false t later =
          let h : length ws ≤ s.at = ltb-false s.at (length ws) t in
          rw (drop_of_length-le ws h) (bad (key_outside ws keys s a (λ z. omega arith) h))

  abbrev pub ListRel : Bool → Spot → List ℕ → List ℕ → ℕ → Got Entries → Both → Type 0
  ListRel free s a b spare =
      Rel ws 3 (λ l. count l ∷ entries_words l) (λ l. count (entries_rewritten join l) ∷ entries_words (entries_rewritten join l)) (entries_captured free) s a b spare

  -- a list behind its count
  list_last :
      (free : Bool) {s : Spot} {a b : List ℕ} {spare c : ℕ} {rest : List ℕ} {k : Both} → Did ws (c ∷ []) (c ∷ []) false rest s a b spare k →
      {g : Got Entries} {w : Both} → Counted c g → EntriesRel free k.spot k.a k.b spare g w →
      ListRel free s a b spare g w
  list_last free q none (loses e) = loses e
  list_last free {s} {a} {b} {spare} {c} {rest} {k} q (all e) (does {x = l} {rest = then} {w} x h) =
      does {x = l}
      (subst (λ n. Did ws (n ∷ entries_words l) (count (entries_rewritten join l) ∷ entries_words (entries_rewritten join l)) (entries_captured free l) then s a b spare w) (sym e)
      (subst (λ n. Did ws (c ∷ entries_words l) (n ∷ entries_words (entries_rewritten join l)) (entries_captured free l) then s a b spare w) (sym (count_rewritten join l ∙ e)) (did_then ws q x)))
      (omega arith)

  pub list_rel :
      Below → Gone → (free : Bool) (keys : ℕ) → 0 < keys → (s : Spot) (a b : List ℕ) (spare : ℕ) → Ready ws (2 * d) s a b spare →
      ListRel free s a b spare (list_below (plan d) keys (drop s.at ws)) (listed_w sub ws free false keys s a b spare)
  unfolding list_below
  list_rel below gone free keys some s a b spare r = go (ltb s.at (length ws)) refl
    where
      go : (t : Bool) → ltb s.at (length ws) ≡ t → ListRel free s a b spare (list_below (plan d) keys (drop s.at ws)) (listed_w sub ws free false keys s a b spare)
      go true t =
          let h : s.at < length ws = ltb-true s.at (length ws) t in
          let c : ℕ = get_or ws s.at 0 in
          let x = did_word ws (2 * d) s a b spare r h in
          let next = ready_next ws (2 * d) r x (omega arith) in
          let n1 : Spot = spot (s.at + 1) (onward s.to 1) s.caught in
          let a1 : List ℕ = set a s.to c in
          rw (next_word ws s.at h, listed_there sub ws free false keys s a b spare refl (λ z. omega (arith, r.some)) h refl refl refl (whole (refl, refl, refl)))
          (list_last free x (counted (plan d) keys c (drop (s.at + 1) ws)) (entries_rel below gone free keys some c n1 a1 b spare next))
      go false t =
          let h : length ws ≤ s.at = ltb-false s.at (length ws) t in
          rw (drop_of_length-le ws h, listed_outside sub ws free false keys s a b spare refl (λ z. omega (arith, r.some)) h) (loses refl)

  -- a list or none
  abbrev pub BlockRel : Bool → Spot → List ℕ → List ℕ → ℕ → Got Block → Both → Type 0
  BlockRel free s a b spare = Rel ws 0 block_words (λ l. block_words (block_rewritten join l)) (block_captured free) s a b spare

  pub listed_rel :
      Below → Gone → (free none : Bool) (s : Spot) (a b : List ℕ) (spare : ℕ) → Ready ws (2 * d) s a b spare →
      BlockRel free s a b spare (listed (plan d) none (drop s.at ws)) (listed_w sub ws free none 128 s a b spare)
  unfolding listed words rewritten captured and_then
  listed_rel below gone free true s a b spare r =
      rw (listed_none sub ws free true 128 s a b spare refl) (does {x = absent} (did_none ws s a b spare (let q = r.room in omega arith)) (omega arith))
  listed_rel below gone free false s a b spare r = wrapped (list_rel below gone free 128 (omega arith) s a b spare r)
    where
      wrapped : {g : Got Entries} {w : Both} → ListRel free s a b spare g w → BlockRel free s a b spare (and_then g λ l rest. got (list l) rest) w
      wrapped (loses e) = loses e
      wrapped (does {x = l} x h) = does {x = list l} x (omega arith)
