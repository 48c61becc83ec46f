-- The search on the words of what is sound finds what the definitions' `locate` does.
-- Assumes nothing.
use Prim.Native.Nat.{ℕ, zero, suc, ◌+◌, ◌*◌, ◌≤◌, ◌<◌, max}
use native.Mathlib.Omega.{arith}
use mathlib.Core.Path.{◌≡◌, refl, sym, ap, ◌∙◌}
use mathlib.Core.Bool.{Bool, true, false, true≢false, not, cond}
use mathlib.Core.Option.{none, some}
use mathlib.Core.List.{List, [], ◌∷◌, ◌++◌, append_assoc}
use borrow.Author.Tests.{lt-ltb, le-ltb, lt-leb, eq-eqb, ne_eqb, eqb-true, eqb-false, ltb-true, ltb-false}
use lib.Dec.{ltb, eqb}
use lib.ListN.{length, get_or, drop, length-drop}
use lib.Seq.{drop-drop, drop-append_seam, get_or-drop}
use Rattle.sock.specs.Words.{kind_of, zombie_of, is_one}
use Rattle.sock.specs.Term.{Node, node, Entries, head_word, kind}
use Rattle.sock.specs.Layout.{words, count, entries_words, depth, entries_depth}
use Rattle.sock.specs.Reading.{anywhere, holds}
use Rattle.sock.specs.Running.{Mark, Run, scope, marked_fault, scope_head, as_node, run_words, size, run_depth}
use Rattle.sock.specs.Frames.{Frame, Located}
use Rattle.layout.specs.Own.{own_end}
use Rattle.layout.proofs.Owns.{executor_own}
use Rattle.sock.specs.Variables.{variable_words}
use Rattle.sock.proofs.Fits.{FitsEntries, Sound, nil_sound, seq_sound, par_sound, scope_sound, executor_sound, waiter_sound, notice_sound, act_sound}
use Rattle.sock.proofs.Fields.{plain_kind, is_one_bit, scope_zombie}
use Rattle.sock.proofs.ByKind.{code_kind, run_kind, kind_as_node}
use Rattle.sock.proofs.Running.{as_node_fits}
use Rattle.sock.proofs.Nodes.{depth_some}
use Rattle.sock.proofs.Measures.{words_scope, depth_seq, depth_par, depth_scope, depth_executor}
use Rattle.skipping.specs.Skip.{skip_list}
use Rattle.skipping.specs.Pass.{note_at, pass_end, pass_list}
use Rattle.skipping.proofs.Skips.{wanted_end}
use Rattle.skipping.proofs.Notes.{Right, RightNote, pass_run, pass_code, pass_entries_lem}
use Rattle.finding.specs.declared.find.Site.{Site}
use Rattle.finding.specs.declared.find.Found.{Found}
use Rattle.finding.specs.declared.find.Found.TheVariants.{Hit, Past}
use Rattle.finding.specs.Find.{here_w, in_seq_w, in_par_w, in_body_w, in_scope_w, fault_at, catches_w, catcher_of, node_w, outside_w, find_w}
use Rattle.finding.proofs.Within.{within, within_here, within_before, within_past, within_seq, within_par, within_scope, within_executor, within_nil, within_waiter, within_notice, within_act}
use Rattle.finding.proofs.Stops.{catches}
use Rattle.finding.proofs.Spots.{Spotted, here_spotted, Around}
use Rattle.finding.proofs.Arounds.{around_seq, around_left, around_right, around_executor, around_scope}
use Rattle.finding.proofs.Finds.{Agrees, misses, hits, agrees_none, agrees_some, seq_agrees, par_agrees, executor_agrees, scope_agrees}

-- ---- words from a position on

drop_on : (ws : List ℕ) (i j : ℕ) (own rest : List ℕ) → j ≡ i + length own → drop i ws ≡ own ++ rest → drop j ws ≡ rest
drop_on ws i j own rest p e =
    ap (λ k. drop k ws) p ∙ (sym (drop-drop (length own) i ws) ∙ (ap (drop (length own)) e ∙ drop-append_seam own rest))

head_on : (ws : List ℕ) (i w : ℕ) (rest : List ℕ) → drop i ws ≡ w ∷ rest → get_or ws i 0 ≡ w
head_on ws i w rest e = ap (λ k. get_or ws k 0) (plus_none i) ∙ (sym (get_or-drop i ws 0 0) ∙ ap (λ l. get_or l 0 0) e)
  where
    plus_none : (i : ℕ) → i ≡ i + 0
    plus_none i = omega arith

inside_on : (ws : List ℕ) (i w : ℕ) (rest : List ℕ) → drop i ws ≡ w ∷ rest → i < length ws
inside_on ws i w rest e = omega (arith, sym (length-drop i ws) ∙ ap length e)

node_head : (m : Node) (rest : List ℕ) → (tail : List ℕ) × (words m ++ rest ≡ head_word m ∷ tail)
unfolding words
node_head (node h f es b ps) rest = (_, refl)

-- ---- the search, one level

module _ (sub : ℕ → Found) (d : ℕ) (ws notes : List ℕ) (target level k i : ℕ) where
  node_seq : k ≡ 2 → node_w sub d ws notes target level k i ≡ in_seq_w d ws notes i (sub (i + 1))
  unfolding node_w
  node_seq e = rw e

  node_par : k ≡ 3 → node_w sub d ws notes target level k i ≡ in_par_w sub i
  unfolding node_w
  node_par e = rw e

  node_scope : k ≡ 11 → node_w sub d ws notes target level k i ≡ in_scope_w d ws target level i (sub (pass_list d ws notes (i + 2)))
  unfolding node_w
  node_scope e = rw e

  node_executor : k ≡ 16 → node_w sub d ws notes target level k i ≡ in_body_w (sub (own_end ws i))
  unfolding node_w
  node_executor e = rw e

  node_other :
      eqb k 2 ≡ false → eqb k 3 ≡ false → eqb k 11 ≡ false → eqb k 16 ≡ false → node_w sub d ws notes target level k i ≡ Past (pass_end (suc d) ws notes i)
  unfolding node_w
  node_other p q r s = rw (p, q, r, s)

-- the part that a frame stands around, and what follows it
inner :
    {r a : Run} {i j : ℕ} {own more : List ℕ} {o : Frame} (ws rest : List ℕ) →
    Around r a i j own more o →
    drop i ws ≡ run_words r ++ rest →
    drop j ws ≡ run_words a ++ (more ++ rest)
inner {a = a} {i = i} {j = j} {own = own} {more = more} ws rest around e =
    drop_on ws i j own (run_words a ++ (more ++ rest)) around.there
    (e ∙ (ap (λ l. l ++ rest) around.words ∙ regrouped own (run_words a) more rest))
  where
    regrouped : (w x y z : List ℕ) → (w ++ (x ++ y)) ++ z ≡ w ++ (x ++ (y ++ z))
    regrouped w x y z = simp append_assoc

scope_words :
    (name : ℕ) (mark : Mark) (zombie : Bool) (h : Entries) (a : Run) (rest : List ℕ) →
    run_words (scope name mark zombie h a) ++ rest
    ≡ scope_head name mark zombie ∷ (marked_fault mark * 1024) ∷ count h ∷ (entries_words h ++ (run_words a ++ rest))
scope_words name mark zombie h a rest =
    ap (λ l. l ++ rest) (words_scope name mark zombie h a)
    ∙ ap (λ l. scope_head name mark zombie ∷ (marked_fault mark * 1024) ∷ count h ∷ l) (append_assoc (entries_words h) (run_words a) rest)

catches_test : (b : Bool) (x : ℕ) → 0 < x → not (eqb (cond b x 0) 0) ≡ b
catches_test true x h = rw (ne_eqb x 0 (λ z. omega arith))
catches_test false x h = refl

-- what has a place is not outside, nor is what has no mark
not_outside : (i k e : ℕ) → i ≤ k → k < e → outside_w i k e ≡ false
unfolding outside_w
not_outside i k e p q = simp (ne_eqb e 0 (λ z. omega arith), le-ltb k i p, lt-leb e k q)

unmarked_inside : (i k e : ℕ) → e ≡ 0 → outside_w i k e ≡ false
unfolding outside_w
unmarked_inside i k e z = simp (eq-eqb e 0 z)

-- outside a mark that is none or r's end: it is r's end, and nothing of r is located there
outside_marked : (r : Run) (i k e : ℕ) → ((e ≡ 0 → ⊥) → e ≡ i + size r) → outside_w i k e ≡ true → (e ≡ i + size r) × (within r i k ≡ none)
outside_marked r i k e ends o = (end, by (ltb k i) (ltb k e) refl refl)
  where
    end : e ≡ i + size r
    end = ends (λ z. absurd (true≢false (sym o ∙ unmarked_inside i k e z)))

    by : (b c : Bool) → ltb k i ≡ b → ltb k e ≡ c → within r i k ≡ none
    by true c p q = within_before r i k (ltb-true k i p)
    by false true p q = absurd (true≢false (sym o ∙ not_outside i k e (ltb-false k i p) (ltb-true k e q)))
    by false false p q = within_past r i k (omega (arith, ltb-false k e q, end))

module _ (n issued : ℕ) (few : n ≤ 8) (small : issued < 65536) (ws notes : List ℕ) (right : Right ws notes) (target : ℕ) where
  at_head : (m : Node) (i : ℕ) (rest : List ℕ) → drop i ws ≡ words m ++ rest → (get_or ws i 0 ≡ head_word m) × (i < length ws)
  at_head m i rest e =
      let h = node_head m rest in
      (head_on ws i (head_word m) h.0 (e ∙ h.1), inside_on ws i (head_word m) h.0 (e ∙ h.1))

  at_run : {r : Run} → Sound n issued r → (i : ℕ) (rest : List ℕ) → drop i ws ≡ run_words r ++ rest → (kind_of (get_or ws i 0) ≡ run_kind r) × (i < length ws)
  unfolding run_words
  at_run {r} s i rest e =
      let h = at_head (as_node r) i rest e in
      (ap kind_of h.0 ∙ kind_as_node s, h.1)

  here_agrees :
      {r : Run} (f t d i level : ℕ) →
      i ≡ t →
      pass_end (suc d) ws notes i ≡ i + size r →
      Agrees f t r i level (within r i t) (here_w (suc d) ws notes level i)
  unfolding here_w
  here_agrees {r} f t d i level p e =
      rw (← p, within_here r i) (hits (here_spotted f r i level (pass_end (suc d) ws notes i) e))

  -- what is passed at once, as the target is outside it
  outside_agrees :
      {r : Run} →
      Sound n issued r →
      (i level : ℕ) (rest : List ℕ) →
      drop i ws ≡ run_words r ++ rest →
      outside_w i target (note_at notes i) ≡ true →
      Agrees (fault_at ws target) target r i level (within r i target) (Past (note_at notes i))
  unfolding RightNote run_words size
  outside_agrees {r} s i level rest e o =
      let out = outside_marked r i target (note_at notes i) (right.of_process i _ _ _ (as_node_fits few small s {p = anywhere} tt) rest e) o in
      rw out.1 (misses out.0)

  opened :
      {r : Run} →
      Sound n issued r →
      (d i level : ℕ) (rest : List ℕ) →
      run_depth r ≤ suc d →
      drop i ws ≡ run_words r ++ rest →
      ((i ≡ target → ⊥) →
      Agrees (fault_at ws target) target r i level (within r i target)
      (node_w (find_w d ws notes target (level + 1)) d ws notes target level (kind_of (get_or ws i 0)) i)) →
      Agrees (fault_at ws target) target r i level (within r i target) (find_w (suc d) ws notes target level i)
  unfolding find_w
  opened {r} s d i level rest dp e k = rw (lt-ltb i (length ws) (at_run s i rest e).1) (by (eqb i target) refl)
    where
      by :
          (b : Bool) →
          eqb i target ≡ b →
          Agrees (fault_at ws target) target r i level (within r i target)
          (cond b (here_w (suc d) ws notes level i)
          (cond (outside_w i target (note_at notes i)) (Past (note_at notes i))
          (node_w (find_w d ws notes target (level + 1)) d ws notes target level (kind_of (get_or ws i 0)) i)))
      by true q = here_agrees (fault_at ws target) target d i level (eqb-true i target q) (pass_run ws notes right n issued few small s (suc d) i dp rest e)
      by false q = by_mark (outside_w i target (note_at notes i)) refl
        where
          by_mark :
              (b : Bool) →
              outside_w i target (note_at notes i) ≡ b →
              Agrees (fault_at ws target) target r i level (within r i target)
              (cond b (Past (note_at notes i))
              (node_w (find_w d ws notes target (level + 1)) d ws notes target level (kind_of (get_or ws i 0)) i))
          by_mark true o = outside_agrees s i level rest e o
          by_mark false o = k (eqb-false i target q)

  -- what has no enabled part
  other_agrees :
      {r : Run} →
      Sound n issued r →
      (d i level : ℕ) (rest : List ℕ) →
      run_depth r ≤ suc d →
      drop i ws ≡ run_words r ++ rest →
      eqb (run_kind r) 2 ≡ false →
      eqb (run_kind r) 3 ≡ false →
      eqb (run_kind r) 11 ≡ false →
      eqb (run_kind r) 16 ≡ false →
      ((i ≡ target → ⊥) → within r i target ≡ none) →
      Agrees (fault_at ws target) target r i level (within r i target) (find_w (suc d) ws notes target level i)
  other_agrees {r} s d i level rest dp e k2 k3 k11 k16 w =
      opened s d i level rest dp e λ ne.
      let kind = (at_run s i rest e).0 in
      rw (
        w ne,
        node_other (find_w d ws notes target (level + 1)) d ws notes target level (kind_of (get_or ws i 0)) i (ap (λ k. eqb k 2) kind ∙ k2) (ap (λ k. eqb k 3) kind ∙ k3)
            (ap (λ k. eqb k 11) kind ∙ k11) (ap (λ k. eqb k 16) kind ∙ k16),
      )
      (misses (pass_run ws notes right n issued few small s (suc d) i dp rest e))

  -- whether the scope at i stops the fault
  scope_catches :
      (d i f name : ℕ) (mark : Mark) (zombie : Bool) (h : Entries) (rest : List ℕ) →
      name < 64 →
      f < 64 →
      FitsEntries true zero h →
      entries_depth h ≤ d →
      get_or ws i 0 ≡ scope_head name mark zombie →
      drop (i + 2) ws ≡ count h ∷ (entries_words h ++ rest) →
      catches_w d ws i f ≡ catches f zombie h
  unfolding catches_w
  scope_catches d i f name mark zombie h rest named faulty fits dp head e =
      let z : eqb (zombie_of (get_or ws i 0)) 1 ≡ zombie = ap (λ w. is_one (zombie_of w)) head ∙ (ap is_one (scope_zombie name mark zombie named) ∙ is_one_bit zombie) in
      let l : not (eqb (skip_list d ws f (i + 2)) 0) ≡ holds f h =
      ap (λ k. not (eqb k 0)) (wanted_end ws f (omega arith) fits d (i + 2) dp rest e) ∙ catches_test (holds f h) (i + 2 + 1 + length (entries_words h)) (omega arith) in
      rw (z, l)

  scope_catcher :
      (d i : ℕ) (zombie : Bool) (h : Entries) →
      fault_at ws target < 64 →
      catches_w d ws i (fault_at ws target) ≡ catches (fault_at ws target) zombie h →
      (k : ℕ) →
      catcher_of d ws target i k ≡ cond (eqb k 0) (cond (catches (fault_at ws target) zombie h) i 0) k
  unfolding catcher_of
  scope_catcher d i zombie h low e k = rw (lt-leb 64 (fault_at ws target) low, e)

  behind_run : (a : Run) (i : ℕ) (rest : List ℕ) → drop i ws ≡ run_words a ++ rest → drop (i + size a) ws ≡ rest
  unfolding size
  behind_run a i rest e = drop_on ws i (i + length (run_words a)) (run_words a) rest refl e

  pub finds :
      {r : Run} →
      Sound n issued r →
      (d i level : ℕ) (rest : List ℕ) →
      0 < i →
      run_depth r ≤ d →
      drop i ws ≡ run_words r ++ rest →
      Agrees (fault_at ws target) target r i level (within r i target) (find_w d ws notes target level i)
  unfolding run_depth in_par_w
  finds {r} s zero i level rest pos dp e = absurd (omega (arith, depth_some (as_node r)))
  finds nil_sound (suc d) i level rest pos dp e =
      other_agrees nil_sound d i level rest dp e refl refl refl refl λ ne. within_nil i target ne
  finds (seq_sound {a = a} {q = q} g t coded) (suc d) i level rest pos dp e =
      opened (seq_sound g t coded) d i level rest dp e λ ne.
      let deep : suc (max (run_depth a) (depth q)) ≤ suc d = rw (depth_seq a q) at dp in
      let first : drop (i + 1) ws ≡ run_words a ++ (words q ++ rest) = inner ws rest (around_seq a q i) e in
      let second : drop (i + 1 + size a) ws ≡ words q ++ rest = behind_run a (i + 1) (words q ++ rest) first in
      let head = at_head q (i + 1 + size a) rest second in
      rw (
        within_seq i target ne a q,
        node_seq (find_w d ws notes target (level + 1)) d ws notes target level (kind_of (get_or ws i 0)) i (at_run (seq_sound g t coded) i rest e).0,
      )
      (seq_agrees (fault_at ws target) target ws notes d i level a q coded head.1 head.0
      (pass_code ws notes right coded d (i + 1 + size a) (omega arith) rest second)
      (finds g d (i + 1) (level + 1) (words q ++ rest) (omega arith) (omega arith) first))
  finds (par_sound {a = a} {b = b} g t k u) (suc d) i level rest pos dp e =
      opened (par_sound g t k u) d i level rest dp e λ ne.
      let deep : suc (max (run_depth a) (run_depth b)) ≤ suc d = rw (depth_par a b) at dp in
      rw (
        within_par i target ne a b,
        node_par (find_w d ws notes target (level + 1)) d ws notes target level (kind_of (get_or ws i 0)) i (at_run (par_sound g t k u) i rest e).0,
      )
      (par_agrees (fault_at ws target) target ws notes d i level a b t u (find_w d ws notes target (level + 1))
      (finds g d (i + 1) (level + 1) (run_words b ++ rest) (omega arith) (omega arith) (inner ws rest (around_left a b i u) e))
      (finds k d (i + 1 + size a) (level + 1) rest (omega arith) (omega arith) (inner ws rest (around_right a b i t) e)))
  finds (scope_sound {name = name} {mark = mark} {zombie = zombie} {h = h} {a = a} named m listed g) (suc d) i level rest pos dp e =
      opened (scope_sound {mark = mark} {zombie = zombie} named m listed g) d i level rest dp e λ ne.
      let deep : suc (max (entries_depth h) (run_depth a)) ≤ suc d = rw (depth_scope name mark zombie h a) at dp in
      let body : drop (i + (3 + length (entries_words h))) ws ≡ run_words a ++ rest = inner ws rest (around_scope name mark zombie h a i) e in
      let whole = scope_words name mark zombie h a rest in
      let list : drop (i + 2) ws ≡ count h ∷ (entries_words h ++ (run_words a ++ rest)) = drop_on ws i (i + 2) (_ ∷ _ ∷ []) _ (omega arith) (e ∙ whole) in
      let end : pass_list d ws notes (i + 2) ≡ i + (3 + length (entries_words h)) =
      pass_entries_lem ws notes right listed d (i + 2) (omega arith) (run_words a ++ rest) list ∙ omega arith in
      rw (
        within_scope i target ne name mark zombie h a,
        node_scope (find_w d ws notes target (level + 1)) d ws notes target level (kind_of (get_or ws i 0)) i
            (at_run (scope_sound {mark = mark} {zombie = zombie} named m listed g) i rest e).0,
        end,
      )
      (scope_agrees (fault_at ws target) target ws notes d i level name mark zombie h a pos
      (λ low.
      scope_catcher d i zombie h low
      (scope_catches d i (fault_at ws target) name mark zombie h (run_words a ++ rest) named low listed (omega arith)
      (head_on ws i (scope_head name mark zombie) _ (e ∙ whole)) list))
      (finds g d (i + (3 + length (entries_words h))) (level + 1) rest (omega arith) (omega arith) body))
  finds (executor_sound {o = o} {y = y} {client = client} {serial = serial} {a = a} bo by be g) (suc d) i level rest pos dp e =
      opened (executor_sound bo by be g) d i level rest dp e λ ne.
      let deep : suc (run_depth a) ≤ suc d = rw (depth_executor o y client serial a) at dp in
      let body : own_end ws i ≡ i + (3 + length (variable_words y)) =
      executor_own ws few small (executor_sound bo by be g) i rest e ∙ (let q : i + 3 + length (variable_words y) ≡ i + (3 + length (variable_words y)) = omega arith in q) in
      rw (
        within_executor i target ne o y client serial a,
        node_executor (find_w d ws notes target (level + 1)) d ws notes target level (kind_of (get_or ws i 0)) i (at_run (executor_sound bo by be g) i rest e).0,
        body,
      )
      (executor_agrees (fault_at ws target) target ws notes d i level o y client serial a
      (finds g d (i + (3 + length (variable_words y))) (level + 1) rest (omega arith) (omega arith) (inner ws rest (around_executor o y client serial a i) e)))
  finds (waiter_sound {o = o} {x = x} {server = server} {serial = serial} {dead = dead} {l = l} bo bx be g) (suc d) i level rest pos dp e =
      other_agrees (waiter_sound bo bx be g) d i level rest dp e refl refl refl refl λ ne. within_waiter i target ne o x dead server serial l
  finds (notice_sound {o = o} {f = f} {client = client} {serial = serial} bo bf be) (suc d) i level rest pos dp e =
      other_agrees (notice_sound bo bf be) d i level rest dp e refl refl refl refl λ ne. within_notice i target ne o f client serial
  finds (act_sound {p = p} plain coded) (suc d) i level rest pos dp e =
      let k = plain_kind (kind p) plain in
      other_agrees (act_sound plain coded) d i level rest dp e k.1 k.2 k.3 (ne_eqb (kind p) 16 (λ z. omega (arith, code_kind coded))) λ ne.
      within_act i target ne p

  -- ---- what the search answers

  module _ {r : Run} (s : Sound n issued r) (d i level : ℕ) (rest : List ℕ) (pos : 0 < i) (deep : run_depth r ≤ d) (at : drop i ws ≡ run_words r ++ rest) where
    pub missed : within r i target ≡ none → find_w d ws notes target level i ≡ Past (i + size r)
    missed e = agrees_none (finds s d i level rest pos deep at) e

    pub found :
        (l : Located) →
        within r i target ≡ some l →
        (spot : Site) × ((find_w d ws notes target level i ≡ Hit spot) × Spotted (fault_at ws target) target r i level l spot)
    found l e = agrees_some (finds s d i level rest pos deep at) e
