-- The search on words, with notes that are right, is the definitions' search: of a row of enabled processes that stand one after the other, and so
-- of one process.
-- Assumes nothing.
use Prim.Native.Nat.{ℕ, zero, suc, ◌+◌, ◌≤◌, ◌<◌}
use native.Mathlib.Omega.{arith}
use mathlib.Core.Path.{◌≡◌, refl, sym, ap, ◌∙◌}
use mathlib.Core.Bool.{Bool, true, false, not, ◌&&◌, cond}
use mathlib.Core.List.{List, [], ◌∷◌, ◌++◌, append_assoc, append-nil}
use borrow.Author.Tests.{lt-ltb, lt-leb, ne_eqb}
use lib.Dec.{eqb}
use lib.ListN.{length, get_or, drop, length-append}
use Rattle.sock.specs.Words.{kind_of, bit}
use Rattle.sock.specs.Variables.{variable_words}
use Rattle.sock.specs.Term.{Node, Entries, kind}
use Rattle.sock.specs.Layout.{words, entries_words}
use Rattle.sock.specs.Running.{Mark, scope_head, Run, nil, seq, par, scope, executor, waiter, notice, act, as_node, run_words, size, run_depth}
use Rattle.sock.specs.Frames.{is_done}
use Rattle.sock.specs.Pending.{enabled_in, is_pending, Search, counted, search_of, pending}
use Rattle.sock.specs.Reading.{code, anywhere}
use Rattle.sock.proofs.Fits.{Fits, Sound, nil_sound, seq_sound, par_sound, scope_sound, executor_sound, waiter_sound, notice_sound, act_sound}
use Rattle.sock.proofs.Fields.{plain_kind, scope_zombie}
use Rattle.sock.proofs.ByKind.{run_kind, code_kind}
use Rattle.sock.proofs.Measures.{size_seq, size_par, size_scope, size_executor, depth_seq, depth_par, depth_scope, depth_executor}
use Rattle.sock.proofs.Located.{size_positive}
use Rattle.sock.proofs.Positions.{stands_within}
use Rattle.sock.proofs.Heads.{depth_positive, run_inside, run_behind, run_head, run_kind_lem, head_done, seq_parts, par_parts, scope_parts, executor_parts}
use Rattle.sock.proofs.Pending.{and_then, search_append, count_few}
use Rattle.skipping.specs.Pass.{pass_end, pass_list}
use Rattle.skipping.proofs.Notes.{Right, pass_code, pass_run, pass_scope}
use Rattle.layout.specs.Positions.{onward}
use Rattle.layout.proofs.Owns.{executor_own}
use Rattle.pending.proofs.Turns.{loop_done}
use Rattle.pending.specs.declared.look.Seen.{Seen}
use Rattle.pending.specs.Looking.{made, scope_w, seq_on, seq_w, behind_w, kind_w, turn_w, goes_on, loop_w, look_w, pending_w}

-- what the code answers, if `n` were met before and the search would end at `end`
abbrev pub seen : ℕ → ℕ → Search → Seen
seen end n s = made (cond s.found 0 end) (n + s.count)

-- ---- a row of processes

unfoldable row_words : List Run → List ℕ
row_words [] = []
row_words (r ∷ rs) = run_words r ++ row_words rs

unfoldable heads : List Run → List Run
heads [] = []
heads (r ∷ rs) = enabled_in r ++ heads rs

data Row (n issued d : ℕ) : List Run → Type 0 where
  no_more : Row n issued d []
  one_more : {r : Run} {rs : List Run} → Sound n issued r → run_depth r ≤ d → Row n issued d rs → Row n issued d (r ∷ rs)

-- one more is met before the rest
seen_counted : (end n : ℕ) (s : Search) → seen end (n + 1) s ≡ seen end n (counted s)
unfolding counted
seen_counted end n s = let z : n + 1 + s.count ≡ n + suc s.count = omega arith in rw z

-- those of one process, and the rest
seen_then : (end n : ℕ) (s t : Search) → s.found ≡ false → seen end (n + s.count) t ≡ seen end n (and_then s t)
unfolding and_then
seen_then end n s t e = let z : n + s.count + t.count ≡ n + (s.count + t.count) = omega arith in rw (e, z)

ended_then : (end n : ℕ) (s t : Search) → s.found ≡ true → made 0 (n + s.count) ≡ seen end n (and_then s t)
unfolding and_then
ended_then end n s t e = rw e

-- ---- a turn

one_on : (n : ℕ) → n ≤ 8192 → onward n 1 ≡ n + 1
unfolding onward
one_on n h = rw (lt-leb 1152921504606846976 n (omega arith))

module _ (turn : ℕ → ℕ → Seen) (end turns i n : ℕ) (inside : i < end) where
  goes_to : (j m : ℕ) → turn i n ≡ made j m → 0 < j → loop_w (suc turns) turn end i n ≡ loop_w turns turn end j m
  unfolding loop_w goes_on
  goes_to j m e h = rw (lt-ltb i end inside, e, ne_eqb j 0 (λ q. omega arith))

  stops_at : (m : ℕ) → turn i n ≡ made 0 m → loop_w (suc turns) turn end i n ≡ made 0 m
  unfolding loop_w goes_on
  stops_at m e = rw (lt-ltb i end inside, e)

turn_by :
    (sub : ℕ → ℕ → ℕ → Seen) (ws notes : List ℕ) (i n k : ℕ) → i < length ws → n ≤ 8192 → kind_of (get_or ws i 0) ≡ k →
    turn_w sub ws notes i n ≡ kind_w sub ws notes k i (n + 1)
unfolding turn_w
turn_by sub ws notes i n k h l e = rw (lt-leb (length ws) i h, e, one_on n l)

module _ (ws notes : List ℕ) (right : Right ws notes) (n issued : ℕ) (few : n ≤ 8) (small : issued < 65536) (short : length ws ≤ 8192) where
  -- the search of one process on words, up to a depth
  abbrev Looks : ℕ → Type 0
  Looks d =
      (a : Run) → Sound n issued a → run_depth a ≤ d → (i m : ℕ) → m ≤ i → (rest : List ℕ) → drop i ws ≡ run_words a ++ rest →
      look_w d ws notes i (i + size a) m ≡ seen (i + size a) m (pending a)

  module _ (d : ℕ) (low : d < 64) (sub : Looks d) (rest : List ℕ) where
    abbrev turn : ℕ → ℕ → Seen
    turn = turn_w (look_w d ws notes) ws notes

    -- of a process without enabled parts
    leaf_turn :
        {r : Run} → Sound n issued r → run_depth r ≤ 64 → (i m : ℕ) (more : List ℕ) → m ≤ i → drop i ws ≡ run_words r ++ more →
        kind_w (look_w d ws notes) ws notes (run_kind r) i (m + 1) ≡ made (pass_end 64 ws notes i) (m + 1) →
        turn i m ≡ made (i + size r) (m + 1)
    leaf_turn {r} s deep i m more l e k =
        let h = run_inside ws more i r e in
        turn_by (look_w d ws notes) ws notes i m (run_kind r) h (omega arith) (run_kind_lem ws more i r e s)
        ∙ (k ∙ ap (λ j. made j (m + 1)) (pass_run ws notes right n issued few small s 64 i deep more e))

    -- the search goes on behind the process at i, which was met
    module _ (turns i m end j : ℕ) (inside : i < end) (moves : turn i m ≡ made j (m + 1)) (behind : 0 < j) (xs : List Run)
        (rest-law : loop_w turns turn end j (m + 1) ≡ seen end (m + 1) (search_of xs)) where
      met : (r : Run) → is_pending r ≡ false → loop_w (suc turns) turn end i m ≡ seen end m (search_of (r ∷ xs))
      unfolding search_of
      met r e = rw e (goes_to turn end turns i m inside j (m + 1) moves behind ∙ (rest-law ∙ seen_counted end m (search_of xs)))

    -- it ends there
    found_there :
        (turns i m end : ℕ) → i < end → turn i m ≡ made 0 (m + 1) → (r : Run) (xs : List Run) → is_pending r ≡ true →
        loop_w (suc turns) turn end i m ≡ seen end m (search_of (r ∷ xs))
    unfolding search_of
    found_there turns i m end inside moves r xs e = rw e (stops_at turn end turns i m inside (m + 1) moves)

    row_size : (r : Run) (rs : List Run) → length (row_words (r ∷ rs)) ≡ size r + length (row_words rs)
    unfolding row_words size
    row_size r rs = length-append (run_words r) (row_words rs)

    row_first : (r : Run) (rs : List Run) (i : ℕ) → drop i ws ≡ row_words (r ∷ rs) ++ rest → drop i ws ≡ run_words r ++ (row_words rs ++ rest)
    unfolding row_words
    row_first r rs i e = e ∙ append_assoc (run_words r) (row_words rs) rest

    -- what has no enabled parts
    leaf_met :
        {r : Run} (rs : List Run) → Sound n issued r → run_depth r ≤ 64 → (turns i m end : ℕ) → m ≤ i → drop i ws ≡ row_words (r ∷ rs) ++ rest → i < end →
        kind_w (look_w d ws notes) ws notes (run_kind r) i (m + 1) ≡ made (pass_end 64 ws notes i) (m + 1) → is_pending r ≡ false →
        (drop (i + size r) ws ≡ row_words rs ++ rest → loop_w turns turn end (i + size r) (m + 1) ≡ seen end (m + 1) (search_of (heads rs))) →
        loop_w (suc turns) turn end i m ≡ seen end m (search_of (r ∷ heads rs))
    leaf_met {r} rs s deep turns i m end l e inside k p law =
        let e' = row_first r rs i e in
        let z = size_positive r in
        met turns i m end (i + size r) inside (leaf_turn s deep i m (row_words rs ++ rest) l e' k) (omega arith) (heads rs)
        (law (run_behind ws (row_words rs ++ rest) i r e')) r p

    act_kind :
        (m : Node) (i n : ℕ) → eqb (kind m) 2 ≡ false → eqb (kind m) 3 ≡ false → eqb (kind m) 11 ≡ false → kind m < 15 →
        kind_w (look_w d ws notes) ws notes (kind m) i n ≡ cond (eqb (kind m) 12) (made 0 n) (made (pass_end 64 ws notes i) n)
    unfolding kind_w behind_w
    act_kind m i n a b c h = rw (a, c, ne_eqb (kind m) 16 (λ q. omega arith), b)

    scope_at :
        (name : ℕ) (mark : Mark) (zombie : Bool) (h : Entries) {a : Run} → name < 64 → Sound n issued a → (i k body : ℕ) (more : List ℕ) →
        get_or ws i 0 ≡ scope_head name mark zombie → pass_list 64 ws notes (i + 2) ≡ body → drop body ws ≡ run_words a ++ more →
        scope_w ws notes (get_or ws i 0) (i + 2) k ≡ cond (not zombie && is_done a) (made 0 k) (made body k)
    unfolding scope_w
    scope_at name mark zombie h {a} b s i k body more hd list stands =
        let done : eqb (get_or ws body 0) 0 ≡ is_done a = ap (λ w. eqb w 0) (run_head ws more body a stands) ∙ head_done s in
        rw (hd, scope_zombie name mark zombie b, list, done) (by zombie (is_done a))
      where
        by : (z t : Bool) → cond (eqb (bit z) 1) (made body k) (cond t (made 0 k) (made body k)) ≡ cond (not z && t) (made 0 k) (made body k)
        by true t = refl
        by false t = refl

    first_then : (a : Run) (rs : List Run) → search_of (enabled_in a ++ heads rs) ≡ and_then (pending a) (search_of (heads rs))
    unfolding pending
    first_then a rs = search_append (enabled_in a) (heads rs)

    -- the first of a seq is searched, the second passed
    seq_turn :
        {a : Run} {b : Node} → Sound n issued a → Fits (code false) anywhere b → run_depth (seq a b) ≤ suc d →
        (i m : ℕ) (more : List ℕ) → m ≤ i → drop i ws ≡ run_words (seq a b) ++ more → kind_of (get_or ws i 0) ≡ 2 →
        turn i m
        ≡ cond (pending a).found (made 0 (m + 1 + (pending a).count)) (made (i + size (seq a b)) (m + 1 + (pending a).count))
    unfolding kind_w seq_w seq_on
    seq_turn {a} {b} ga fb deep i m more l e k =
        let h = run_inside ws more i (seq a b) e in
        let y = depth_seq a b in
        let first = seq_parts ws a b i more e in
        let second = run_behind ws (words b ++ more) (i + 1) a first in
        turn_by (look_w d ws notes) ws notes i m 2 h (omega arith) k
        ∙ rw (
          pass_run ws notes right n issued few small ga 64 (i + 1) (omega arith) (words b ++ more) first,
          sub a ga (omega arith) (i + 1) (m + 1) (omega arith) (words b ++ more) first,
        )
        (by (pending a).found (pass_code ws notes right fb 64 (i + 1 + size a) (omega arith) more second ∙ (let z = size_seq a b in let w : i + 1 + size a + length (words b) ≡ i + size (seq a b) = omega arith in w)))
      where
        by :
            (t : Bool) → pass_end 64 ws notes (i + 1 + size a) ≡ i + size (seq a b) →
            cond (eqb (cond t 0 (i + 1 + size a)) 0) (made (cond t 0 (i + 1 + size a)) (m + 1 + (pending a).count))
            (made (pass_end 64 ws notes (cond t 0 (i + 1 + size a))) (m + 1 + (pending a).count))
            ≡ cond t (made 0 (m + 1 + (pending a).count)) (made (i + size (seq a b)) (m + 1 + (pending a).count))
        by true w = refl
        by false w = rw (ne_eqb (i + 1 + size a) 0 (λ z. omega arith), w)

    seq_met :
        (a : Run) (b : Node) (rs : List Run) (turns i m end : ℕ) → i < end →
        turn i m ≡ cond (pending a).found (made 0 (m + 1 + (pending a).count)) (made (i + size (seq a b)) (m + 1 + (pending a).count)) →
        loop_w turns turn end (i + size (seq a b)) (m + 1 + (pending a).count) ≡ seen end (m + 1 + (pending a).count) (search_of (heads rs)) →
        loop_w (suc turns) turn end i m ≡ seen end m (search_of (seq a b ∷ (enabled_in a ++ heads rs)))
    unfolding search_of is_pending
    seq_met a b rs turns i m end inside moves law =
        by (pending a).found refl moves
        ∙ (seen_counted end m (and_then (pending a) (search_of (heads rs)))
        ∙ ap (λ x. seen end m (counted x)) (sym (first_then a rs)))
      where
        by :
            (t : Bool) → (pending a).found ≡ t →
            turn i m ≡ cond t (made 0 (m + 1 + (pending a).count)) (made (i + size (seq a b)) (m + 1 + (pending a).count)) →
            loop_w (suc turns) turn end i m ≡ seen end (m + 1) (and_then (pending a) (search_of (heads rs)))
        by true f e = stops_at turn end turns i m inside (m + 1 + (pending a).count) e ∙ ended_then end (m + 1) (pending a) (search_of (heads rs)) f
        by false f e =
            let p = size_positive (seq a b) in
            goes_to turn end turns i m inside (i + size (seq a b)) (m + 1 + (pending a).count) e (omega arith)
            ∙ (law ∙ seen_then end (m + 1) (pending a) (search_of (heads rs)) f)

    none_left :
        (turns i m end : ℕ) → m ≤ i → drop i ws ≡ row_words [] ++ rest → end ≡ i + length (row_words []) → loop_w turns turn end i m ≡ seen end m (search_of [])
    unfolding row_words search_of
    none_left turns i m end l e q =
        let z : end ≡ i = omega arith in
        let y : m + 0 ≡ m = omega arith in
        sym (loop_done turn end turns i m (omega arith)) ∙ rw (y, z)

    -- a process that was met begins the row behind it
    one_first : (a : Run) (rs : List Run) (i : ℕ) → drop i ws ≡ run_words a ++ (row_words rs ++ rest) → drop i ws ≡ row_words (a ∷ rs) ++ rest
    unfolding row_words
    one_first a rs i e = e ∙ sym (append_assoc (run_words a) (row_words rs) rest)

    two_first :
        (a b : Run) (rs : List Run) (i : ℕ) → drop i ws ≡ run_words a ++ (run_words b ++ (row_words rs ++ rest)) → drop i ws ≡ row_words (a ∷ b ∷ rs) ++ rest
    unfolding row_words
    two_first a b rs i e =
        e ∙ (ap (λ l. run_words a ++ l) (sym (append_assoc (run_words b) (row_words rs) rest)) ∙ sym (append_assoc (run_words a) (run_words b ++ row_words rs) rest))

    act_met :
        {a : Node} (rs : List Run) (x : Bool) → eqb (kind a) 12 ≡ x → Sound n issued (act a) → run_depth (act a) ≤ 64 → (turns i m end : ℕ) → m ≤ i →
        drop i ws ≡ row_words (act a ∷ rs) ++ rest → i < end →
        kind_w (look_w d ws notes) ws notes (kind a) i (m + 1) ≡ cond (eqb (kind a) 12) (made 0 (m + 1)) (made (pass_end 64 ws notes i) (m + 1)) →
        (drop (i + size (act a)) ws ≡ row_words rs ++ rest → loop_w turns turn end (i + size (act a)) (m + 1) ≡ seen end (m + 1) (search_of (heads rs))) →
        loop_w (suc turns) turn end i m ≡ seen end m (search_of (act a ∷ heads rs))
    unfolding is_pending
    act_met {a} rs true x s deep turns i m end l e inside k law =
        let e' = row_first (act a) rs i e in
        found_there turns i m end inside
        (turn_by (look_w d ws notes) ws notes i m (kind a) (run_inside ws (row_words rs ++ rest) i (act a) e') (omega (arith, run_inside ws (row_words rs ++ rest) i (act a) e')) (run_kind_lem ws (row_words rs ++ rest) i (act a) e' s)
        ∙ (k ∙ ap (λ t. cond t (made 0 (m + 1)) (made (pass_end 64 ws notes i) (m + 1))) x))
        (act a) (heads rs) x
    act_met {a} rs false x s deep turns i m end l e inside k law =
        leaf_met rs s deep turns i m end l e inside (k ∙ ap (λ t. cond t (made 0 (m + 1)) (made (pass_end 64 ws notes i) (m + 1))) x) x law

    scope_met :
        (name : ℕ) (mark : Mark) (zombie : Bool) (h : Entries) (a : Run) (rs : List Run) (turns i m end : ℕ) → i < end →
        turn i m ≡ cond (not zombie && is_done a) (made 0 (m + 1)) (made (i + 3 + length (entries_words h)) (m + 1)) →
        loop_w turns turn end (i + 3 + length (entries_words h)) (m + 1) ≡ seen end (m + 1) (search_of (enabled_in a ++ heads rs)) →
        loop_w (suc turns) turn end i m ≡ seen end m (search_of (scope name mark zombie h a ∷ (enabled_in a ++ heads rs)))
    unfolding is_pending
    scope_met name mark zombie h a rs turns i m end inside moves law = by (not zombie && is_done a) refl moves
      where
        by :
            (t : Bool) → (not zombie && is_done a) ≡ t →
            turn i m ≡ cond t (made 0 (m + 1)) (made (i + 3 + length (entries_words h)) (m + 1)) →
            loop_w (suc turns) turn end i m ≡ seen end m (search_of (scope name mark zombie h a ∷ (enabled_in a ++ heads rs)))
        by true f e = found_there turns i m end inside e (scope name mark zombie h a) (enabled_in a ++ heads rs) f
        by false f e =
            met turns i m end (i + 3 + length (entries_words h)) inside e (omega arith) (enabled_in a ++ heads rs) law (scope name mark zombie h a) f

    -- the search of a row in so many turns
    abbrev Searches : ℕ → Type 0
    Searches turns =
        (rs : List Run) → Row n issued (suc d) rs → (i m end : ℕ) → m ≤ i → drop i ws ≡ row_words rs ++ rest →
        end ≡ i + length (row_words rs) → length (row_words rs) ≤ turns →
        loop_w turns turn end i m ≡ seen end m (search_of (heads rs))

    none : Searches zero
    unfolding heads
    none _ no_more i m end l e q t = none_left zero i m end l e q
    none _ (one_more {r} {rs} s deep row) i m end l e q t = absurd (omega (arith, row_size r rs, size_positive r))

    step : (turns : ℕ) → Searches turns → Searches (suc turns)
    unfolding heads enabled_in is_pending kind_w behind_w as_node
    step turns law _ no_more i m end l e q t = none_left (suc turns) i m end l e q
    step turns law _ (one_more {rs = rs} nil_sound deep row) i m end l e q t =
        let z = row_size nil rs in
        let p = size_positive nil in
        leaf_met rs nil_sound (omega arith) turns i m end l e (omega arith) refl refl
        (λ b. law rs row (i + size nil) (m + 1) end (omega arith) b (omega arith) (omega arith))
    step turns law _ (one_more {rs = rs} (waiter_sound {o} {x} {server} {serial} {dead} {l = h} bo bx g fl) deep row) i m end l e q t =
        let r : Run = waiter o x dead server serial h in
        let z = row_size r rs in
        let p = size_positive r in
        leaf_met rs (waiter_sound bo bx g fl) (omega arith) turns i m end l e (omega arith) refl refl
        (λ b. law rs row (i + size r) (m + 1) end (omega arith) b (omega arith) (omega arith))
    step turns law _ (one_more {rs = rs} (notice_sound {o} {f} {client} {serial} bo bf g) deep row) i m end l e q t =
        let r : Run = notice o f client serial in
        let z = row_size r rs in
        let p = size_positive r in
        leaf_met rs (notice_sound bo bf g) (omega arith) turns i m end l e (omega arith) refl refl
        (λ b. law rs row (i + size r) (m + 1) end (omega arith) b (omega arith) (omega arith))
    step turns law _ (one_more {rs = rs} (act_sound {p = a} plain g) deep row) i m end l e q t =
        let r : Run = act a in
        let z = row_size r rs in
        let p = size_positive r in
        let k = plain_kind (kind a) plain in
        let e' = row_first r rs i e in
        act_met rs (eqb (kind a) 12) refl (act_sound plain g) (omega arith) turns i m end l e (omega arith)
        (act_kind a i (m + 1) k.1 k.2 k.3 (code_kind g))
        (λ b. law rs row (i + size r) (m + 1) end (omega arith) b (omega arith) (omega arith))
    step turns law _ (one_more {rs = rs} (par_sound {a} {b} ga da gb db) deep row) i m end l e q t =
        let r : Run = par a b in
        let z = row_size r rs in
        let w = size_par a b in
        let y = depth_par a b in
        let u = row_size a (b ∷ rs) in
        let v = row_size b rs in
        let e' = row_first r rs i e in
        let inside = run_inside ws (row_words rs ++ rest) i r e' in
        met turns i m end (i + 1) (omega arith)
        (turn_by (look_w d ws notes) ws notes i m 3 inside (omega arith) (run_kind_lem ws (row_words rs ++ rest) i r e' (par_sound ga da gb db)))
        (omega arith) ((enabled_in a ++ enabled_in b) ++ heads rs)
        (law (a ∷ b ∷ rs) (one_more ga (omega arith) (one_more gb (omega arith) row)) (i + 1) (m + 1) end (omega arith)
        (two_first a b rs (i + 1) (par_parts ws a b i (row_words rs ++ rest) e')) (omega arith) (omega arith)
        ∙ ap (λ x. seen end (m + 1) (search_of x)) (sym (append_assoc (enabled_in a) (enabled_in b) (heads rs))))
        r refl
    step turns law _ (one_more {rs = rs} (seq_sound {a} {q = b} ga da fb) deep row) i m end l e q t =
        let r : Run = seq a b in
        let z = row_size r rs in
        let w = size_seq a b in
        let c = count_few a in
        let e' = row_first r rs i e in
        seq_met a b rs turns i m end (omega arith)
        (seq_turn ga fb deep i m (row_words rs ++ rest) l e' (run_kind_lem ws (row_words rs ++ rest) i r e' {n = n} {issued = issued} (seq_sound ga da fb)))
        (law rs row (i + size r) (m + 1 + (pending a).count) end (omega arith) (run_behind ws (row_words rs ++ rest) i r e') (omega arith) (omega arith))
    step turns law _ (one_more {rs = rs} (executor_sound {o} {y} {client} {serial} {a} bo by g ga) deep row) i m end l e q t =
        let r : Run = executor o y client serial a in
        let z = row_size r rs in
        let w = size_executor o y client serial a in
        let v = depth_executor o y client serial a in
        let u = row_size a rs in
        let e' = row_first r rs i e in
        let inside = run_inside ws (row_words rs ++ rest) i r e' in
        let s : Sound n issued r = executor_sound bo by g ga in
        let body : ℕ = i + 3 + length (variable_words y) in
        met turns i m end body (omega arith)
        (turn_by (look_w d ws notes) ws notes i m 16 inside (omega arith) (run_kind_lem ws (row_words rs ++ rest) i r e' s)
        ∙ ap (λ j. made j (m + 1)) (executor_own ws few small s i (row_words rs ++ rest) e'))
        (omega arith) (enabled_in a ++ heads rs)
        (law (a ∷ rs) (one_more ga (omega arith) row) body (m + 1) end (omega arith)
        (one_first a rs body (executor_parts ws o y client serial a i (row_words rs ++ rest) e')) (omega arith) (omega arith))
        r refl
    step turns law _ (one_more {rs = rs} (scope_sound {name} {mark} {zombie} {h} {a} bn mf fl ga) deep row) i m end l e q t =
        let r : Run = scope name mark zombie h a in
        let z = row_size r rs in
        let w = size_scope name mark zombie h a in
        let v = depth_scope name mark zombie h a in
        let u = row_size a rs in
        let e' = row_first r rs i e in
        let inside = run_inside ws (row_words rs ++ rest) i r e' in
        let parts = scope_parts ws name mark zombie h a i (row_words rs ++ rest) e' in
        let body : ℕ = i + 3 + length (entries_words h) in
        scope_met name mark zombie h a rs turns i m end (omega arith)
        (turn_by (look_w d ws notes) ws notes i m 11 inside (omega arith) (run_kind_lem ws (row_words rs ++ rest) i r e' (scope_sound bn mf fl ga))
        ∙ scope_at name mark zombie h bn ga i (m + 1) body (row_words rs ++ rest) (run_head ws (row_words rs ++ rest) i r e')
        (pass_scope ws notes right fl 64 i (omega arith) (run_words a ++ (row_words rs ++ rest)) parts.0) parts.1)
        (law (a ∷ rs) (one_more ga (omega arith) row) body (m + 1) end (omega arith) (one_first a rs body parts.1) (omega arith) (omega arith))

    loops : (turns : ℕ) → Searches turns
    loops zero = none
    loops (suc turns) = step turns (loops turns)

  -- ---- one process

  looks : (d : ℕ) → d ≤ 64 → Looks d
  unfolding run_depth look_w pending heads row_words size
  looks zero low a s deep i m l rest e = absurd (omega (arith, depth_positive (as_node a)))
  looks (suc d) low a s deep i m l rest e =
      let p = size_positive a in
      let w = append-nil (run_words a) in
      let long : length (run_words a ++ []) ≡ length (run_words a) = ap length w in
      let inside = stands_within ws (run_words a) rest i e p in
      loops d (omega arith) (looks d (omega arith)) rest (length ws) (a ∷ []) (one_more s deep no_more) i m (i + size a) l (e ∙ ap (λ x. x ++ rest) (sym w)) (omega arith) (omega arith)
      ∙ ap (λ x. seen (i + size a) m (search_of x)) (append-nil (enabled_in a))

  -- the search of the process at a position
  pub pending_looks :
      {r : Run} → Sound n issued r → run_depth r ≤ 64 → (i : ℕ) (rest : List ℕ) → drop i ws ≡ run_words r ++ rest →
      pending_w ws notes i ≡ seen (i + size r) 0 (pending r)
  unfolding pending_w
  pending_looks {r} s deep i rest e =
      rw (pass_run ws notes right n issued few small s 64 i deep rest e) (looks 64 (omega arith) r s deep i 0 (omega arith) rest e)
