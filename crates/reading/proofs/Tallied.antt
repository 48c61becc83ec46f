-- On the words of what is enabled, the mirrored count is the definitions' count of waiting and working ends, up to the end of those words.
-- Assumes nothing.
use Prim.Native.Nat.{ℕ, suc, ◌+◌, ◌-◌, ◌*◌, ◌/◌, ◌%◌, ◌<◌, ◌≤◌}
use native.Mathlib.Omega.{arith}
use native.Mathlib.Nat.{add-zero, zero-add, add_comm}
use mathlib.Core.Path.{◌≡◌, refl, sym, ap, ◌∙◌}
use mathlib.Core.Bool.{true}
use mathlib.Core.List.{List, [], ◌∷◌, ◌++◌, append_assoc}
use lib.Dec.{eqb, lit<}
use lib.ListN.{length, get_or, drop, length-append, length-drop}
use lib.Seq.{drop-drop, drop-append_seam, get_or-drop}
use borrow.Author.Tests.{le-leb, ne_eqb}
use Rattle.std.specs.Prelude.{Option, Some}
use Rattle.sock.specs.Kind
use Rattle.sock.specs.Words.{bit, head_of, name_fields}
use Rattle.sock.specs.Term.{Node, node, list, Entries, head_word, kind}
use Rattle.sock.specs.Variables.{first_of, variable_words}
use Rattle.sock.specs.Layout.{count, words, entries_words, depth, entries_depth}
use Rattle.sock.specs.Reading.{Got, got, anywhere}
use Rattle.sock.specs.Running.{marked_fault, scope_head, Run, nil, seq, par, scope, executor, waiter, notice, act, as_node, run_words, size, run_depth}
use Rattle.sock.specs.Calls.{tally, waits, works}
use Rattle.sock.proofs.Fits.{Fits, FitsEntries, Sound, nil_sound, seq_sound, par_sound, scope_sound, executor_sound, waiter_sound, notice_sound, act_sound}
use Rattle.sock.proofs.Fields.{plain_kind, end_tests}
use Rattle.sock.proofs.Reading.{finds, list_finds}
use Rattle.sock.proofs.ByKind.{code_kind, run_kind, kind_as_node}
use Rattle.sock.proofs.Running.{as_node_fits}
use Rattle.sock.proofs.Located.{size_positive}
use Rattle.sock.proofs.Measures.{words_seq, words_par, words_scope, words_executor, words_waiter, words_notice, size_seq, size_par, size_scope, size_executor, depth_seq, depth_par, depth_scope, depth_executor}
use Rattle.reading.specs.declared.ends.Counted.{Counted}
use Rattle.reading.specs.Tables.{stratum_of, place_of}
use Rattle.reading.specs.Walk.{at, list_end, executor_own, process_end}
use Rattle.reading.specs.Tally.{counted, after, serial_at, seq_tally, par_tally, scope_tally, executor_tally, node_tally, tally_at}
use Rattle.reading.proofs.Combining.{Words}
use Rattle.reading.proofs.Ending.{Ends, ends_got}
use Rattle.reading.proofs.Processes.{process_ends, list_ends}
use Rattle.reading.proofs.Standing.{first_word}
use Rattle.reading.proofs.Counting.{tally_node}
use Rattle.reading.proofs.Begins.{own_begins}

-- ---- words at a position

-- what stands at a position, and what stands behind it
drop_past : (ws own rest : List ℕ) (i : ℕ) → drop i ws ≡ own ++ rest → drop (i + length own) ws ≡ rest
drop_past ws own rest i e = sym (drop-drop (length own) i ws) ∙ ap (drop (length own)) e ∙ drop-append_seam own rest

drop_long : (ws own rest : List ℕ) (i : ℕ) → drop i ws ≡ own ++ rest → length ws - i ≡ length own + length rest
drop_long ws own rest i e = simp (length-append, length-drop) at (ap length e)

drop_at : (ws v : List ℕ) (i k : ℕ) → drop i ws ≡ v → at ws (i + k) ≡ get_or v k 0
drop_at ws v i k e = sym (get_or-drop i ws k 0) ∙ ap (λ l. get_or l k 0) e

ends_at : {A : Type 0} {g : Got A} {ws : List ℕ} {i e : ℕ} (own rest : List ℕ) (a : A) → Ends ws i g e → g ≡ got a rest → drop i ws ≡ own ++ rest → e ≡ i + length own
ends_at {ws = ws} {i} {e} own rest a r q p =
    let f = ends_got r a rest q in
    let behind : length rest ≡ length ws - e = ap length f.0 ∙ length-drop e ws in
    omega (arith, drop_long ws own rest i p)

node_deep : (m : Node) → 0 < depth m
unfolding depth
node_deep (node h f es b ps) = omega arith

depth_positive : (r : Run) → 0 < run_depth r
unfolding run_depth
depth_positive r = node_deep (as_node r)

-- 1 if the third word is the serial
serial_is : (ws : List ℕ) (i s : ℕ) (a b serial : ℕ) (v : List ℕ) → drop i ws ≡ a ∷ b ∷ serial ∷ v → serial_at ws i s ≡ bit (eqb s serial)
unfolding serial_at
serial_is ws i s a b serial v e =
    let long : length ws - i ≡ length (a ∷ b ∷ serial ∷ v) = sym (length-drop i ws) ∙ ap length e in
    rw (drop_at ws _ i 2 e, le-leb 3 (length ws - i) (omega arith))

abbrev made : ℕ → ℕ → ℕ → Option Counted
made e w k = Some (record { end = e; waiters = w; workers = k })

counted_past : (e w k : ℕ) → 0 < e → counted e w k ≡ made e w k
unfolding counted
counted_past e w k h = rw (ne_eqb e 0 (omega arith))

-- ---- by kind

seq_counts :
    (tal : ℕ → Option Counted) (sub : ℕ → ℕ → ℕ) (i e f w k : ℕ) → tal i ≡ made e w k → sub 0 e ≡ f → 0 < f →
    seq_tally tal sub i ≡ made f w k
unfolding seq_tally after
seq_counts tal sub i e f w k t q r = rw (t, q) (counted_past f w k r)

par_counts :
    (tal : ℕ → Option Counted) (i e f w k w' k' : ℕ) → tal i ≡ made e w k → tal e ≡ made f w' k' →
    par_tally tal i ≡ made f (w + w') (k + k')
unfolding par_tally after
par_counts tal i e f w k w' k' t q = rw (t, q)

scope_counts :
    (tal : ℕ → Option Counted) (sub : ℕ → ℕ → ℕ) (ws : List ℕ) (i e : ℕ) (t : Option Counted) → list_end sub ws 0 128 i ≡ e → 0 < e → tal e ≡ t →
    scope_tally tal sub ws i ≡ t
unfolding scope_tally
scope_counts tal sub ws i e t p q r = rw (p, ne_eqb e 0 (omega arith), r)

executor_counts :
    (tal : ℕ → Option Counted) (ws : List ℕ) (s i j e w k b : ℕ) → 0 < j → tal j ≡ made e w k → serial_at ws i s ≡ b →
    executor_tally tal ws s i j ≡ made e (0 + w) (b + k)
unfolding executor_tally after
executor_counts tal ws s i j e w k b o t q = rw (ne_eqb j 0 (omega arith), t, q, add_comm b k, zero-add w)

-- ---- where what is read ends

module _ (ws : List ℕ) (ok : Words ws) (n issued : ℕ) (few : n ≤ 8) (word : issued < 65536) where
  process_at :
      (d c i : ℕ) → c < 12 → (m : Node) (rest : List ℕ) → Fits (stratum_of n issued (c / 4)) (place_of (c % 4)) m → depth m ≤ d → drop i ws ≡ words m ++ rest →
      process_end d ws (n * 65536 + issued) c i ≡ i + length (words m)
  process_at d c i h m rest f shallow e = ends_at (words m) rest m (process_ends ws ok n issued word d c h i) (rw e (finds d f shallow rest)) e

  list_at :
      (d i : ℕ) (l : Entries) (rest : List ℕ) → FitsEntries true 0 l → entries_depth l ≤ d → drop i ws ≡ count l ∷ entries_words l ++ rest →
      list_end (process_end d ws (n * 65536 + issued)) ws 0 128 i ≡ i + suc (length (entries_words l))
  list_at d i l rest f shallow e =
      ends_at (count l ∷ entries_words l) rest (list l) (list_ends ws ok (n * 65536 + issued) d true i) (rw e (list_finds d f shallow rest)) e

  -- ---- the count

  module _ (s : ℕ) where
    abbrev counts : Run → ℕ → Option Counted
    counts r i = made (i + size r) (tally (waits s) r) (tally (works s) r)

    -- one level, by the kind of what stands there
    by_kind :
        {r : Run} → Sound n issued r → (d i : ℕ) → run_depth r ≤ d → (rest : List ℕ) → drop i ws ≡ run_words r ++ rest →
        tally_at d ws s (n * 65536 + issued) i
        ≡ node_tally (tally_at (d - 1) ws s (n * 65536 + issued)) (process_end (d - 1) ws (n * 65536 + issued)) (process_end d ws (n * 65536 + issued) 8) ws s (n * 65536 + issued) (run_kind r) i
    unfolding size
    by_kind {r} g d i shallow rest e =
        let word : at ws i ≡ head_word (as_node r) = rw add-zero at (drop_at ws (run_words r ++ rest) i 0 e) ∙ first_word r rest in
        let inside : i < length ws = omega (arith, drop_long ws (run_words r) rest i e, size_positive r) in
        tally_node d ws s (n * 65536 + issued) i (head_word (as_node r)) (λ z. omega (arith, depth_positive r)) inside (sym word)
        ∙ rw (kind_as_node g)

    past_run : (a : Run) (rest : List ℕ) (i : ℕ) → drop i ws ≡ run_words a ++ rest → drop (i + size a) ws ≡ rest
    unfolding size
    past_run a rest i e = drop_past ws (run_words a) rest i e

    -- a process that is passed over
    passed : {r : Run} → Sound n issued r → (d i : ℕ) → run_depth r ≤ d → (rest : List ℕ) → drop i ws ≡ run_words r ++ rest → process_end d ws (n * 65536 + issued) 8 i ≡ i + size r
    unfolding size run_words run_depth
    passed {r} g d i shallow rest e = process_at d 8 i (lit< tt) (as_node r) rest (as_node_fits few word g {p = anywhere} tt) shallow e

    -- all of them
    pub tallied :
        {r : Run} → Sound n issued r → (d i : ℕ) → run_depth r ≤ d → (rest : List ℕ) → drop i ws ≡ run_words r ++ rest →
        tally_at d ws s (n * 65536 + issued) i ≡ counts r i
    unfolding node_tally tally waits works
    tallied nil_sound d i shallow rest e = by_kind nil_sound d i shallow rest e ∙ rw (passed nil_sound d i shallow rest e) (counted_past (i + size nil) 0 0 (omega (arith, size_positive nil)))
    tallied (seq_sound {a} {q} ga na fq) d i shallow rest e =
        let deep = depth_seq a q in
        let split : drop i ws ≡ 4096 ∷ run_words a ++ (words q ++ rest) = e ∙ rw words_seq (ap (λ l. 4096 ∷ l) (append_assoc (run_words a) (words q) rest)) in
        let inner : drop (i + 1) ws ≡ run_words a ++ (words q ++ rest) = drop_past ws (4096 ∷ []) (run_words a ++ (words q ++ rest)) i split in
        let behind : drop (i + 1 + size a) ws ≡ words q ++ rest = past_run a (words q ++ rest) (i + 1) inner in
        let last : process_end (d - 1) ws (n * 65536 + issued) 0 (i + 1 + size a) ≡ i + 1 + size a + length (words q) =
        process_at (d - 1) 0 (i + 1 + size a) (lit< tt) q rest fq (omega arith) behind in
        let same : i + 1 + size a + length (words q) ≡ i + size (seq a q) = omega (arith, size_seq a q) in
        by_kind (seq_sound ga na fq) d i shallow rest e
        ∙ seq_counts _ _ (i + 1) _ _ _ _ (tallied ga (d - 1) (i + 1) (omega arith) (words q ++ rest) inner) (last ∙ same) (omega arith)
    tallied (par_sound {a} {b} ga na gb nb) d i shallow rest e =
        let deep = depth_par a b in
        let split : drop i ws ≡ 6144 ∷ run_words a ++ (run_words b ++ rest) = e ∙ rw words_par (ap (λ l. 6144 ∷ l) (append_assoc (run_words a) (run_words b) rest)) in
        let inner : drop (i + 1) ws ≡ run_words a ++ (run_words b ++ rest) = drop_past ws (6144 ∷ []) (run_words a ++ (run_words b ++ rest)) i split in
        let behind : drop (i + 1 + size a) ws ≡ run_words b ++ rest = past_run a (run_words b ++ rest) (i + 1) inner in
        let same : i + 1 + size a + size b ≡ i + size (par a b) = omega (arith, size_par a b) in
        by_kind (par_sound ga na gb nb) d i shallow rest e
        ∙ par_counts _ (i + 1) _ _ _ _ _ _ (tallied ga (d - 1) (i + 1) (omega arith) (run_words b ++ rest) inner)
        (rw same at (tallied gb (d - 1) (i + 1 + size a) (omega arith) rest behind))
    tallied (scope_sound {name} {mark} {zombie} {h} {a} b m fh ga) d i shallow rest e =
        let deep = depth_scope name mark zombie h a in
        let own : List ℕ = scope_head name mark zombie ∷ (marked_fault mark * 1024) ∷ [] in
        let split : drop i ws ≡ own ++ (count h ∷ entries_words h ++ (run_words a ++ rest)) =
        e ∙ rw words_scope (ap (λ l. own ++ (count h ∷ l)) (append_assoc (entries_words h) (run_words a) rest)) in
        let inner : drop (i + 2) ws ≡ count h ∷ entries_words h ++ (run_words a ++ rest) = drop_past ws own _ i split in
        let past : list_end (process_end (d - 1) ws (n * 65536 + issued)) ws 0 128 (i + 2) ≡ i + 2 + suc (length (entries_words h)) =
        list_at (d - 1) (i + 2) h (run_words a ++ rest) fh (omega arith) inner in
        let behind : drop (i + 2 + suc (length (entries_words h))) ws ≡ run_words a ++ rest = drop_past ws (count h ∷ entries_words h) (run_words a ++ rest) (i + 2) inner in
        let same : i + 2 + suc (length (entries_words h)) + size a ≡ i + size (scope name mark zombie h a) = omega (arith, size_scope name mark zombie h a) in
        by_kind (scope_sound {mark = mark} {zombie = zombie} b m fh ga) d i shallow rest e
        ∙ scope_counts _ _ ws (i + 2) _ _ past (omega arith) (rw same at (tallied ga (d - 1) (i + 2 + suc (length (entries_words h))) (omega arith) rest behind))
    tallied (executor_sound {o} {y} {client} {serial} {a} bo by end ga) d i shallow rest e =
        let deep = depth_executor o y client serial a in
        let own : List ℕ = head_of Kind.executor (name_fields o (first_of y)) ∷ (client * 8192) ∷ serial ∷ [] in
        let split : drop i ws ≡ own ++ (variable_words y ++ (run_words a ++ rest)) =
        e ∙ rw words_executor (ap (λ l. own ++ l) (append_assoc (variable_words y) (run_words a) rest)) in
        let list : drop (i + 3) ws ≡ variable_words y ++ (run_words a ++ rest) = drop_past ws own (variable_words y ++ (run_words a ++ rest)) i split in
        let inner : drop (i + 3 + length (variable_words y)) ws ≡ run_words a ++ rest = drop_past ws (variable_words y) (run_words a ++ rest) (i + 3) list in
        let begins : executor_own ws (n * 65536 + issued) i ≡ i + 3 + length (variable_words y) =
        own_begins ws ok n issued word o y client serial by (omega (arith, (end_tests n issued client serial end).below)) end (run_words a ++ rest) i split in
        let same : i + 3 + length (variable_words y) + size a ≡ i + size (executor o y client serial a) = omega (arith, size_executor o y client serial a) in
        by_kind (executor_sound bo by end ga) d i shallow rest e
        ∙ ap (executor_tally (tally_at (d - 1) ws s (n * 65536 + issued)) ws s i) begins
        ∙ executor_counts _ ws s i (i + 3 + length (variable_words y)) _ _ _ _ (omega arith)
        (rw same at (tallied ga (d - 1) (i + 3 + length (variable_words y)) (omega arith) rest inner)) (serial_is ws i s _ _ serial _ split)
    tallied (waiter_sound {o} {x} {server} {serial} {dead} {l} bo bx end fl) d i shallow rest e =
        let r : Run = waiter o x dead server serial l in
        let split : drop i ws ≡ head_of Kind.waiter (name_fields o (first_of x)) ∷ (bit dead * 32768 + server * 4096) ∷ serial ∷ (variable_words x ++ (count l ∷ entries_words l)) ++ rest =
        e ∙ rw words_waiter refl in
        by_kind (waiter_sound {dead = dead} bo bx end fl) d i shallow rest e
        ∙ rw (passed (waiter_sound {dead = dead} bo bx end fl) d i shallow rest e, serial_is ws i s _ _ serial _ split)
        (counted_past (i + size r) (bit (eqb s serial)) 0 (omega (arith, size_positive r)))
    tallied (notice_sound {o} {f} {client} {serial} bo bf end) d i shallow rest e =
        let r : Run = notice o f client serial in
        let split : drop i ws ≡ head_of Kind.notice (name_fields o 0) ∷ (f * 1024 + client * 128) ∷ serial ∷ rest = e ∙ rw words_notice refl in
        by_kind (notice_sound bo bf end) d i shallow rest e
        ∙ rw (passed (notice_sound bo bf end) d i shallow rest e, serial_is ws i s _ _ serial _ split)
        (counted_past (i + size r) 0 (bit (eqb s serial)) (omega (arith, size_positive r)))
    tallied (act_sound {p} plain f) d i shallow rest e =
        let k = plain_kind (kind p) plain in
        let below : kind p < 15 = code_kind f in
        let r : Run = act p in
        by_kind (act_sound plain f) d i shallow rest e
        ∙ rw (k.1, k.2, k.3, ne_eqb (kind p) 16 (omega arith), ne_eqb (kind p) 17 (omega arith), ne_eqb (kind p) 18 (omega arith), passed (act_sound plain f) d i shallow rest e)
        (counted_past (i + size r) 0 0 (omega (arith, size_positive r)))
