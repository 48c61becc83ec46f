-- What killing on words gives of a scope: a zombie stays, if its body can be killed; a live one turns zombie, its mark by the position.
-- Assumes nothing.
use Prim.Native.Nat.{ℕ, ◌+◌, ◌*◌, ◌≤◌, ◌<◌}
use native.Mathlib.Omega.{arith}
use mathlib.Core.Path.{◌≡◌, refl, ap, ◌∙◌}
use mathlib.Core.Bool.{Bool, true, false, not, cond}
use mathlib.Core.Option.{Option, some}
use mathlib.Core.List.{List, [], ◌∷◌, ◌++◌, append_assoc}
use lib.Dec.{leb, eqb}
use lib.ListN.{length, get_or, set, drop}
use borrow.Author.Tests.{eqb-true, lt-leb, ne_eqb}
use Rattle.sock.specs.Term.{Entries, no_entries, entry}
use Rattle.sock.specs.Layout.{count, entries_words}
use Rattle.sock.specs.Running.{Mark, unmarked, own_name, marked_fault, scope_head, Run, nil, scope, run_words, size}
use Rattle.sock.specs.Configuration.{guarded}
use Rattle.sock.specs.Frames.{is_done}
use Rattle.sock.specs.Rules.{also}
use Rattle.sock.proofs.Fields.{mark_below, scope_zombie}
use Rattle.sock.proofs.Measures.{words_nil, words_scope, size_nil, size_scope}
use Rattle.sock.proofs.Located.{size_positive}
use Rattle.skipping.specs.Pass.{pass_end, pass_list}
use Rattle.layout.specs.Positions.{onward}
use Rattle.writers.specs.Writing.{pasted, pasted_end}
use Rattle.killing.specs.Killing.{Killed, Walk, stuck_w, own_zombie, plain_zombie, head_for, zombie_on, zombie_w, live_on, live_w, gone_w, list_w, list_end_w, begun_w, turned_on, turned_w, scope_at, scope_w}
use Rattle.writers.proofs.Laid.{Near, onward_near, Laid, laid_put, laid_then, laid_again, laid_set, laid_copy, copy_end}
use Rattle.sock.proofs.Positions.{stands_within, word_at, at_head}
use Rattle.sock.proofs.Heads.{scope_parts}
use Rattle.sock.proofs.Around.{mark_around}
use Rattle.killing.proofs.Gives.{Gives, stops, gives, Does, Vanishes, longer, goes_stops, goes_on}

-- the head that a live scope gets
module _ (name : ℕ) (mark : Mark) (b : name < 64) where
  own_head : own_zombie (scope_head name mark false) ≡ scope_head name own_name true
  own_head = omega (arith, mark_below mark)

  plain_head : plain_zombie (scope_head name mark false) ≡ scope_head name unmarked true
  plain_head = omega (arith, mark_below mark)

  head_around :
      (x y : Bool) →
      cond x (own_zombie (scope_head name mark false)) (cond y (own_zombie (scope_head name mark false)) (plain_zombie (scope_head name mark false)))
      ≡ scope_head name (cond x own_name (cond y own_name unmarked)) true
  head_around true y = own_head
  head_around false true = own_head
  head_around false false = plain_head

no_fault : (x y : Bool) → marked_fault (cond x own_name (cond y own_name unmarked)) * 1024 ≡ 0
no_fault true y = refl
no_fault false true = refl
no_fault false false = refl

module _
    (ws rest : List ℕ) (name : ℕ) (mark : Mark) (zombie : Bool) (h : Entries) (a : Run) (at : ℕ) (b : name < 64)
    (e : drop at ws ≡ run_words (scope name mark zombie h a) ++ rest)
  where
    abbrev own : List ℕ
    own = scope_head name mark zombie ∷ (marked_fault mark * 1024) ∷ count h ∷ entries_words h

    own_stands : drop at ws ≡ own ++ (run_words a ++ rest)
    own_stands = e ∙ ap (λ l. l ++ rest) (words_scope name mark zombie h a) ∙ append_assoc own (run_words a) rest

    abbrev inner : ℕ
    inner = at + 3 + length (entries_words h)

    scope_within : inner + size a ≤ length ws
    unfolding size
    scope_within =
        let z = size_scope name mark zombie h a in
        let w = stands_within ws (run_words (scope name mark zombie h a)) rest at e (omega arith) in
        omega arith

    scope_head_lem : get_or ws at 0 ≡ scope_head name mark zombie
    scope_head_lem = ap (λ n. get_or ws n 0) (let q : at ≡ at + 0 = omega arith in q) ∙ word_at ws own (run_words a ++ rest) at own_stands 0 (omega arith)

-- the body of a zombie is killed
zombie_gives :
    (ws rest : List ℕ) (name : ℕ) (mark : Mark) (h : Entries) (a : Run) (at : ℕ) (b : name < 64) (e : drop at ws ≡ run_words (scope name mark true h a) ++ rest)
    (out : List ℕ) (to : ℕ) → to + 2 * size (scope name mark true h a) ≤ length out → Near (length out) →
    {oa : Option Run} {k : Killed} →
    Gives a out to (at + 3 + length (entries_words h) + size a) k oa →
    Gives (scope name mark true h a) out to (at + size (scope name mark true h a)) (zombie_on ws at to k) (also oa λ a'. some (scope name mark true h a))
unfolding zombie_on also is_done size
zombie_gives ws rest name mark h a at b e out to room near {k = k} (stops q) = stops (goes_stops k _ q)
zombie_gives ws rest name mark h a at b e out to room near {k = k} (gives {s = a'} g) =
    let r : Run = scope name mark true h a in
    let z : size r ≡ 3 + length (entries_words h) + size a = size_scope name mark true h a in
    let w = scope_within ws rest name mark true h a at b e in
    let l : length k.out ≡ length out = g.laid.keeps in
    let u : k.moved.end ≡ at + length (run_words r) = g.ends ∙ (let q : at + 3 + length (entries_words h) + size a ≡ at + size r = omega arith in q) in
    rw (goes_on k _ (at + 3 + length (entries_words h) + size a) g.ends (omega arith))
    (gives (record {
      ends = u;
      done = longer (size r) (omega arith);
      reaches = copy_end ws (run_words r) rest at k.moved.end to (length out) e (omega arith) u near (omega arith);
      laid = laid_again (omega arith) g.laid (laid_copy ws (run_words r) rest at k.moved.end k.out to e (omega arith) u (omega arith));
      small = omega arith;
    }))

-- the body of a live scope is killed
module _
    (ws rest : List ℕ) (name : ℕ) (mark : Mark) (h : Entries) (a : Run) (hole at : ℕ) (b : name < 64)
    (e : drop at ws ≡ run_words (scope name mark false h a) ++ rest)
    (out : List ℕ) (to : ℕ) (room : to + 2 * size (scope name mark false h a) ≤ length out) (near : Near (length out))
  where
    abbrev ends : ℕ
    ends = at + 3 + length (entries_words h) + size a

    abbrev zombied : Run → Run
    zombied a' = scope name (mark_around hole at ends) true h a'

    head_for_lem : head_for ws at hole ends ≡ scope_head name (mark_around hole at ends) true
    unfolding head_for mark_around
    head_for_lem =
        let w = scope_within ws rest name mark false h a at b e in
        let p = size_positive a in
        rw (lt-leb (length ws) at (omega arith), scope_head_lem ws rest name mark false h a at b e)
        (head_around name mark b (leb hole at) (leb ends hole))

    fault_for : marked_fault (mark_around hole at ends) * 1024 ≡ 0
    unfolding mark_around
    fault_for = no_fault (leb hole at) (leb ends hole)

    live_gives :
        {oa : Option Run} {k : Killed} {mid : List ℕ} →
        Laid out to (own ws rest name mark false h a at b e) mid →
        Gives a mid (to + (3 + length (entries_words h))) ends k oa →
        Gives (scope name mark false h a) out to (at + size (scope name mark false h a)) (live_on ws hole at to k) (also oa λ a'. some (zombied a'))
    unfolding live_on also is_done
    live_gives {k = k} first (stops q) = stops (goes_stops k _ q)
    live_gives {k = k} first (gives {s = a'} g) =
        let r : Run = scope name mark false h a in
        let mk : Mark = mark_around hole at ends in
        let z : size r ≡ 3 + length (entries_words h) + size a = size_scope name mark false h a in
        let y : size (zombied a') ≡ 3 + length (entries_words h) + size a' = size_scope name mk true h a' in
        let u : size a' ≤ 2 * size a = g.small in
        let begun : List ℕ = own ws rest name mark false h a at b e in
        let place : to + length begun ≡ to + (3 + length (entries_words h)) = omega arith in
        let all : Laid out to (begun ++ run_words a') k.out = laid_then first (rw place g.laid) in
        let head : ℕ = scope_head name mk true in
        let same : to + 0 ≡ to = omega arith in
        let headed = rw same at (laid_set 0 head (omega arith) (omega arith) all) in
        let marked = laid_set 1 0 (omega arith) (omega arith) headed in
        rw (goes_on k _ ends g.ends (omega arith), g.ends, head_for_lem, onward_near to 1 (length out) near (omega arith))
        (gives (record {
          ends = let q : ends ≡ at + size r = omega arith in q;
          done = longer (size (zombied a')) (omega arith);
          reaches = g.reaches ∙ (let q : to + (3 + length (entries_words h)) + size a' ≡ to + size (zombied a') = omega arith in q);
          laid = rw (words_scope name mk true h a', fault_for) marked;
          small = omega arith;
        }))

-- the list of a scope, from its count on
bare : (h : Entries) → length (entries_words h) ≡ 0 → count h ∷ entries_words h ≡ 0 ∷ []
unfolding count entries_words
bare no_entries e = refl
bare (entry k p es) e = absurd (omega arith)

module _
    (ws more : List ℕ) (h : Entries) (i end : ℕ) (stands : drop i ws ≡ (count h ∷ entries_words h) ++ more) (past : end ≡ i + 1 + length (entries_words h))
    (out : List ℕ) (to : ℕ) (room : to + 1 + length (entries_words h) ≤ length out)
  where
    list_laid : Laid out to (count h ∷ entries_words h) (list_w ws i end out to)
    unfolding list_w
    list_laid =
        let here : i < length ws = (at_head ws i (count h) (entries_words h ++ more) stands).inside in
        rw (lt-leb (length ws) i here) (by here (eqb end (i + 1)) refl)
      where
        by : i < length ws → (x : Bool) → eqb end (i + 1) ≡ x → Laid out to (count h ∷ entries_words h) (cond x (set out to 0) (pasted ws i end out to))
        by here true e = rw (bare h (omega (arith, eqb-true end (i + 1) e))) (laid_put out to 0 (omega arith))
        by here false e = laid_copy ws (count h ∷ entries_words h) more i end out to stands (omega arith) (omega arith) (omega arith)

    list_reaches : Near (length out) → list_end_w ws i end to ≡ to + 1 + length (entries_words h)
    unfolding list_end_w
    list_reaches near =
        let here : i < length ws = (at_head ws i (count h) (entries_words h ++ more) stands).inside in
        rw (lt-leb (length ws) i here) (by here (eqb end (i + 1)) refl)
      where
        by : i < length ws → (x : Bool) → eqb end (i + 1) ≡ x → cond x (onward to 1) (pasted_end ws i end to) ≡ to + 1 + length (entries_words h)
        by here true e = onward_near to 1 (length out) near (omega arith) ∙ omega (arith, eqb-true end (i + 1) e)
        by here false e =
            copy_end ws (count h ∷ entries_words h) more i end to (length out) stands (omega arith) (omega arith) near (omega arith) ∙ omega arith

-- a live scope whose body just becomes nil
gone_gives :
    (d : ℕ) (ws notes rest : List ℕ) (name : ℕ) (mark : Mark) (h : Entries) (a : Run) (hole at : ℕ) (b : name < 64)
    (e : drop at ws ≡ run_words (scope name mark false h a) ++ rest)
    (out : List ℕ) (to : ℕ) (room : to + 2 * size (scope name mark false h a) ≤ length out) (near : Near (length out)) →
    pass_end d ws notes (at + 3 + length (entries_words h)) ≡ at + 3 + length (entries_words h) + size a →
    Gives (scope name mark false h a) out to (at + size (scope name mark false h a)) (turned_w d ws notes hole at (at + 3 + length (entries_words h)) out to)
    (some (scope name (mark_around hole at (at + 3 + length (entries_words h) + size a)) true h nil))
unfolding turned_w turned_on begun_w is_done
gone_gives d ws notes rest name mark h a hole at b e out to room near passes =
    let r : Run = scope name mark false h a in
    let n : ℕ = length (entries_words h) in
    let mk : Mark = mark_around hole at (at + 3 + n + size a) in
    let z : size r ≡ 3 + n + size a = size_scope name mark false h a in
    let p = size_positive a in
    let w = scope_within ws rest name mark false h a at b e in
    let head : ℕ = scope_head name mk true in
    let one : onward to 1 ≡ to + 1 = onward_near to 1 (length out) near (omega arith) in
    let two : onward (to + 1) 1 ≡ to + 1 + 1 = onward_near (to + 1) 1 (length out) near (omega arith) in
    let first : Laid out to (head ∷ []) (set out to head) = laid_put out to head (omega arith) in
    let l : length (set out to head) ≡ length out = first.keeps in
    let begun : Laid out to (head ∷ 0 ∷ []) (set (set out to head) (to + 1) 0) = laid_then first (laid_put (set out to head) (to + 1) 0 (omega arith)) in
    let k : length (set (set out to head) (to + 1) 0) ≡ length out = begun.keeps in
    let start : List ℕ = set (set out to head) (to + 1) 0 in
    let stands = (scope_parts ws name mark false h a at rest e).0 in
    let list : Laid start (to + 1 + 1) (count h ∷ entries_words h) (list_w ws (at + 2) (at + 3 + n) start (to + 1 + 1)) =
    list_laid ws (run_words a ++ rest) h (at + 2) (at + 3 + n) stands (omega arith) start (to + 1 + 1) (omega arith) in
    let reached : list_end_w ws (at + 2) (at + 3 + n) (to + 1 + 1) ≡ to + 3 + n =
    list_reaches ws (run_words a ++ rest) h (at + 2) (at + 3 + n) stands (omega arith) start (to + 1 + 1) (omega arith) (rw k near) ∙ omega arith in
    let place : to + 2 ≡ to + 1 + 1 = omega arith in
    let all : Laid out to (head ∷ 0 ∷ count h ∷ entries_words h) (list_w ws (at + 2) (at + 3 + n) start (to + 1 + 1)) = laid_then begun (rw place list) in
    let m : length (list_w ws (at + 2) (at + 3 + n) start (to + 1 + 1)) ≡ length out = all.keeps in
    let behind : to + length (head ∷ 0 ∷ count h ∷ entries_words h) ≡ to + 3 + n = omega arith in
    let last : Laid out to (head ∷ 0 ∷ count h ∷ (entries_words h ++ 0 ∷ [])) (set (list_w ws (at + 2) (at + 3 + n) start (to + 1 + 1)) (to + 3 + n) 0) =
    laid_then all (rw behind (laid_put (list_w ws (at + 2) (at + 3 + n) start (to + 1 + 1)) (to + 3 + n) 0 (omega arith))) in
    let y : size (scope name mk true h nil) ≡ 3 + n + size nil = size_scope name mk true h nil in
    let o = size_nil in
    rw (lt-leb (length ws) at (omega arith), passes, head_for_lem ws rest name mark h a hole at b e out to room near, one, two, reached, onward_near (to + 3 + n) 1 (length out) near (omega arith))
    (gives (record {
      ends = let q : at + 3 + n + size a ≡ at + size r = omega arith in q;
      done = longer (size (scope name mk true h nil)) (omega arith);
      reaches = let q : to + 3 + n + 1 ≡ to + size (scope name mk true h nil) = omega arith in q;
      laid = rw (words_scope name mk true h nil, fault_for ws rest name mark h a hole at b e out to room near, words_nil) last;
      small = omega arith;
    }))

-- the whole
module _
    (d : ℕ) (sub : Walk) (ws notes rest : List ℕ) (name : ℕ) (mark : Mark) (h : Entries) (a : Run) (hole at : ℕ) (b : name < 64)
    (lists : pass_list d ws notes (at + 2) ≡ at + 3 + length (entries_words h))
    (out : List ℕ) (to : ℕ) (near : Near (length out)) {oa : Option Run} (fa : Does sub (at + 3 + length (entries_words h)) a oa)
    (va : Vanishes d ws notes (at + 3 + length (entries_words h)) a oa)
  where
    pub dead_gives :
        drop at ws ≡ run_words (scope name mark true h a) ++ rest →
        to + 2 * size (scope name mark true h a) ≤ length out →
        Gives (scope name mark true h a) out to (at + size (scope name mark true h a)) (scope_w d sub ws notes hole at out to) (also oa λ a'. some (scope name mark true h a))
    unfolding scope_w scope_at zombie_w
    dead_gives e room =
        let z = size_scope name mark true h a in
        let w = scope_within ws rest name mark true h a at b e in
        let p = size_positive a in
        rw (
          lt-leb (length ws) at (omega arith),
          lists,
          ne_eqb (at + 3 + length (entries_words h)) 0 (λ q. omega arith),
          lt-leb (length ws) (at + 3 + length (entries_words h)) (omega arith),
          scope_head_lem ws rest name mark true h a at b e,
          scope_zombie name mark true b,
        )
        (zombie_gives ws rest name mark h a at b e out to room near (fa out to (omega arith) near))

    pub turned_gives :
        drop at ws ≡ run_words (scope name mark false h a) ++ rest →
        eqb (get_or ws (at + 3 + length (entries_words h)) 0) 0 ≡ is_done a →
        to + 2 * size (scope name mark false h a) ≤ length out →
        Gives (scope name mark false h a) out to (at + size (scope name mark false h a)) (scope_w d sub ws notes hole at out to)
        (guarded (not (is_done a)) (also oa λ a'. some (scope name (mark_around hole at (at + 3 + length (entries_words h) + size a)) true h a')))
    unfolding scope_w scope_at live_w guarded also
    turned_gives e done room =
        let z = size_scope name mark false h a in
        let w = scope_within ws rest name mark false h a at b e in
        let p = size_positive a in
        rw (
          lt-leb (length ws) at (omega arith),
          lists,
          ne_eqb (at + 3 + length (entries_words h)) 0 (λ q. omega arith),
          lt-leb (length ws) (at + 3 + length (entries_words h)) (omega arith),
          scope_head_lem ws rest name mark false h a at b e,
          scope_zombie name mark false b,
          done,
        )
        (by (is_done a) (gone_w ws (at + 3 + length (entries_words h))) refl z w p)
      where
        r : Run
        r = scope name mark false h a

        by :
            (x g : Bool) → gone_w ws (at + 3 + length (entries_words h)) ≡ g →
            size r ≡ 3 + length (entries_words h) + size a → at + 3 + length (entries_words h) + size a ≤ length ws → 0 < size a →
            Gives r out to (at + size r)
            (cond x (stuck_w out)
            (cond g (turned_w d ws notes hole at (at + 3 + length (entries_words h)) out to)
            (live_on ws hole at to
            (sub (at + 3 + length (entries_words h)) (pasted ws at (at + 3 + length (entries_words h)) out to) (pasted_end ws at (at + 3 + length (entries_words h)) to)))))
            (guarded (not x) (also oa λ a'. some (scope name (mark_around hole at (at + 3 + length (entries_words h) + size a)) true h a')))
        by true g q z w p = stops refl
        by false true q z w p = rw (va q).0 (gone_gives d ws notes rest name mark h a hole at b e out to room near (va q).1)
        by false false q z w p =
            let begun : List ℕ = own ws rest name mark false h a at b e in
            let stands = own_stands ws rest name mark false h a at b e in
            let body : ℕ = at + 3 + length (entries_words h) in
            let upto : body ≡ at + length begun = omega arith in
            let place : to + length begun ≡ to + (3 + length (entries_words h)) = omega arith in
            let first : Laid out to begun (pasted ws at body out to) = laid_copy ws begun (run_words a ++ rest) at body out to stands (omega arith) upto (omega arith) in
            let reached : pasted_end ws at body to ≡ to + (3 + length (entries_words h)) =
            copy_end ws begun (run_words a ++ rest) at body to (length out) stands (omega arith) upto near (omega arith) ∙ place in
            let l : length (pasted ws at body out to) ≡ length out = first.keeps in
            rw reached (live_gives ws rest name mark h a hole at b e out to room near first (fa (pasted ws at body out to) (to + (3 + length (entries_words h))) (omega arith) (rw l near)))
