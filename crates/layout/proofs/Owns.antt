-- The own words of a process that fits end where the fixed table says: behind its head, its fixed words and its lists of variables.
-- Assumes nothing.
use Prim.Native.Nat.{ℕ, suc, ◌+◌, ◌-◌, ◌*◌, ◌/◌, ◌%◌, ◌≤◌, ◌<◌}
use native.Mathlib.Omega.{arith}
use mathlib.Core.Path.{◌≡◌, refl, sym, ap, ◌∙◌}
use mathlib.Core.Bool.{Bool, true, false, ◌&&◌}
use mathlib.Core.List.{List, [], ◌∷◌, ◌++◌, append_assoc, append-nil}
use borrow.Author.Tests.{lt-leb, ltb-true, ltb-false}
use lib.Dec.{T, leb, ltb}
use lib.ListN.{length, get_or, drop, length-append, get_or-eq_default}
use Rattle.sock.specs.Kind
use Rattle.sock.specs.Kind.{Own, word, variables, rows, row_of, no_row}
use Rattle.sock.specs.Words.{kind_of, head_of, name_fields}
use Rattle.sock.specs.Variables.{first_of, variable_words}
use Rattle.sock.specs.Term.{Expr, node, Block, Nodes}
use Rattle.sock.specs.Reading.{Stratum, Place, anywhere}
use Rattle.sock.specs.Running.{Run, executor, as_node, run_words}
use Rattle.sock.specs.Counts.{word_count, list_count, counted, counts_of}
use Rattle.sock.proofs.Fields.{From, end, ◌then◌, fact_at}
use Rattle.sock.proofs.Fits.{FitsFurther, no_further, one_further, FitsFixed, no_fixed, one_fixed, some_variables, Fits, fits, Sound}
use Rattle.sock.proofs.ByKind.{kind_as_node}
use Rattle.sock.proofs.Measures.{words_executor}
use Rattle.sock.proofs.Positions.{at_head, at_past}
use Rattle.sock.proofs.Reading.{split, tests}
use Rattle.sock.proofs.Running.{as_node_fits}
use Rattle.layout.specs.Kinds.{kind_named, number_of}
use Rattle.layout.proofs.Named.{by_name}
use Rattle.layout.specs.Own.{variables_end, lists_end, own_form, own_end}

-- how the own words of a kind are laid out: fixed words, then lists of variables
data Shape : List Own → Type 0 where
  bare : Shape []
  one_word : {m : ℕ} → Shape (word m ∷ [])
  two_words : {m n : ℕ} → Shape (word m ∷ word n ∷ [])
  one_list : Shape (variables ∷ [])
  word_list : {m : ℕ} → Shape (word m ∷ variables ∷ [])
  word_lists : {m : ℕ} → Shape (word m ∷ variables ∷ variables ∷ [])
  words_list : {m n : ℕ} → Shape (word m ∷ word n ∷ variables ∷ [])

shapes : From (λ k. Shape (row_of k).fixed) 19 0
unfolding row_of rows
shapes =
    bare then bare then bare then bare then bare then bare then bare  -- nil to choice
    then one_list then word_lists then word_list then word_lists  -- one-way, request, notify, solicit
    then one_word then bare then bare then bare then bare  -- scope, inst to cH
    then words_list then words_list then two_words  -- executor, waiter, notice
    then end

-- the two counts in one number
packed : From (λ k. (own_form k / 4 ≡ (counts_of k).fixed) × (own_form k % 4 ≡ (counts_of k).variables)) 19 0
unfolding own_form counts_of counted row_of rows word_count list_count
packed =
    (refl, refl) then (refl, refl) then (refl, refl) then (refl, refl) then (refl, refl) then (refl, refl) then (refl, refl) then (refl, refl)
    then (refl, refl) then (refl, refl) then (refl, refl) then (refl, refl) then (refl, refl) then (refl, refl) then (refl, refl) then (refl, refl)
    then (refl, refl) then (refl, refl) then (refl, refl)
    then end

no_row_lem : (k : ℕ) → 19 ≤ k → row_of k ≡ no_row
unfolding row_of rows
no_row_lem k far = get_or-eq_default rows no_row far

pub form_beyond : (k : ℕ) → 19 ≤ k → own_form k ≡ 0
unfolding own_form counts_of counted word_count list_count
form_beyond k far = rw (no_row_lem k far) refl

-- by name it is the same
pub form_named : (k : ℕ) → own_form (number_of (kind_named k)) ≡ own_form k
form_named = by_name own_form (λ k far. form_beyond k far ∙ sym (form_beyond 19 (omega arith)))

beyond_packed : (k : ℕ) → 19 ≤ k → (own_form k / 4 ≡ (counts_of k).fixed) × (own_form k % 4 ≡ (counts_of k).variables)
unfolding own_form counts_of counted word_count list_count
beyond_packed k far = rw (no_row_lem k far) (refl, refl)

pub form_parts : (k : ℕ) → (own_form k / 4 ≡ (counts_of k).fixed) × (own_form k % 4 ≡ (counts_of k).variables)
form_parts k = by (ltb k 19) refl
  where
    by : (b : Bool) → ltb k 19 ≡ b → (own_form k / 4 ≡ (counts_of k).fixed) × (own_form k % 4 ≡ (counts_of k).variables)
    by true e = fact_at packed k (omega arith) (ltb-true k 19 e)
    by false e = beyond_packed k (ltb-false k 19 e)

pub end_by :
    (ws : List ℕ) (i k form : ℕ) → i < length ws → k ≡ kind_of (get_or ws i 0) → form ≡ own_form k →
    lists_end ws (i + 1 + form / 4) (form % 4) ≡ own_end ws i
unfolding own_end
end_by ws i k form inside e q =
    let p = form_parts (kind_of (get_or ws i 0)) in
    rw (q, e, p.0, p.1, lt-leb (length ws) i inside) refl

further_count : {n : ℕ} {v : List ℕ} → FitsFurther n v → length v ≡ n
further_count no_further = refl
further_count (one_further t h) = ap suc (further_count h)

-- a list of variables that fits has as many words as its count says
pub list_words : {c : ℕ} {v : List ℕ} → T (ltb 0 c && leb c 4) → FitsFurther (c - 1) v → length (c ∷ v) ≡ c
list_words {c} t h =
    let u = split (ltb 0 c) (leb c 4) t in
    let l = further_count h in
    omega tests

module _ (ws : List ℕ) where
  pub list_end_lem :
      {c : ℕ} {v : List ℕ} → T (ltb 0 c && leb c 4) → FitsFurther (c - 1) v → (i : ℕ) (rest : List ℕ) → drop i ws ≡ (c ∷ v) ++ rest →
      variables_end ws i ≡ i + length (c ∷ v)
  unfolding variables_end
  list_end_lem {c} {v} t h i rest e =
      let here = at_head ws i c (v ++ rest) e in
      rw (lt-leb (length ws) i here.inside, here.word) (ap (λ n. i + n) (sym (list_words t h)))

  one_list_lem :
      {f : List ℕ} → FitsFixed (variables ∷ []) f → (i : ℕ) (rest : List ℕ) → drop i ws ≡ f ++ rest → variables_end ws i ≡ i + length f
  one_list_lem (some_variables {c} {v = v} t h no_fixed) i rest e =
      list_end_lem t h i rest (e ∙ ap (λ l. c ∷ l) (append_assoc v [] rest)) ∙ ap (λ n. i + suc n) (sym (ap length (append-nil v)))

  two_lists :
      {f : List ℕ} → FitsFixed (variables ∷ variables ∷ []) f → (i : ℕ) (rest : List ℕ) → drop i ws ≡ f ++ rest →
      variables_end ws (variables_end ws i) ≡ i + length f
  two_lists (some_variables {c} {v = v} {f = g} t h gs) i rest e =
      let there : drop i ws ≡ (c ∷ v) ++ (g ++ rest) = e ∙ ap (λ l. c ∷ l) (append_assoc v g rest) in
      let first = list_end_lem t h i (g ++ rest) there in
      let behind : drop (i + length (c ∷ v)) ws ≡ g ++ rest = at_past ws (c ∷ v) (g ++ rest) i there in
      ap (variables_end ws) first ∙ one_list_lem gs (i + length (c ∷ v)) rest behind ∙ omega (arith, length-append v g)

  behind_word : (i w : ℕ) (f rest : List ℕ) → drop i ws ≡ (w ∷ f) ++ rest → drop (i + 1) ws ≡ f ++ rest
  behind_word i w f rest e = (at_head ws i w (f ++ rest) e).next

  lists_by :
      {os : List Own} {f : List ℕ} → Shape os → FitsFixed os f → (i : ℕ) (rest : List ℕ) → drop i ws ≡ f ++ rest →
      lists_end ws (i + word_count os) (list_count os) ≡ i + length f
  unfolding lists_end word_count list_count
  lists_by bare no_fixed i rest e = refl
  lists_by one_word (one_fixed t no_fixed) i rest e = refl
  lists_by two_words (one_fixed t (one_fixed u no_fixed)) i rest e = refl
  lists_by one_list h i rest e = ap (variables_end ws) (omega arith) ∙ one_list_lem h i rest e
  lists_by word_list (one_fixed {w = w} {f = f} t h) i rest e = one_list_lem h (i + 1) rest (behind_word i w f rest e) ∙ omega arith
  lists_by word_lists (one_fixed {w = w} {f = f} t h) i rest e = two_lists h (i + 1) rest (behind_word i w f rest e) ∙ omega arith
  lists_by words_list (one_fixed {w = w} t (one_fixed {w = x} {f = f} u h)) i rest e =
      ap (variables_end ws) (omega arith)
      ∙ one_list_lem h (i + 1 + 1) rest (behind_word (i + 1) x f rest (behind_word i w (x ∷ f) rest e))
      ∙ omega arith

  -- the lists of variables in own words that fit end where those do
  pub own_lists :
      {h : ℕ} {f : List ℕ} → kind_of h < 19 → FitsFixed (row_of (kind_of h)).fixed f → (i : ℕ) (rest : List ℕ) → drop i ws ≡ (h ∷ f) ++ rest →
      lists_end ws (i + suc (word_count (row_of (kind_of h)).fixed)) (list_count (row_of (kind_of h)).fixed) ≡ i + suc (length f)
  own_lists {h} {f} k g i rest e =
      let here = at_head ws i h (f ++ rest) e in
      let n : ℕ = word_count (row_of (kind_of h)).fixed in
      let same : i + suc n ≡ i + 1 + n = omega arith in
      rw same (lists_by (fact_at shapes (kind_of h) (omega arith) k) g (i + 1) rest here.next ∙ omega arith)

  -- a head and own words that fit
  pub own_end_lem :
      {h : ℕ} {f : List ℕ} → kind_of h < 19 → FitsFixed (row_of (kind_of h)).fixed f → (i : ℕ) (rest : List ℕ) → drop i ws ≡ (h ∷ f) ++ rest →
      own_end ws i ≡ i + 1 + length f
  unfolding own_end counts_of counted
  own_end_lem {h} {f} k g i rest e =
      let here = at_head ws i h (f ++ rest) e in
      rw (lt-leb (length ws) i here.inside, here.word) (lists_by (fact_at shapes (kind_of h) (omega arith) k) g (i + 1) rest here.next)

-- ---- an enabled executor

fixed_of :
    {s : Stratum} {p : Place} {h : ℕ} {f : List ℕ} {es : List Expr} {b : Block} {ps : Nodes} →
    Fits s p (node h f es b ps) → FitsFixed (row_of (kind_of h)).fixed f
fixed_of (fits t fx ex bl pt nf) = fx

-- its body begins behind its own words
pub executor_own :
    (ws : List ℕ) {n issued o : ℕ} {y : List ℕ} {client serial : ℕ} {a : Run} → n ≤ 8 → issued < 65536 → Sound n issued (executor o y client serial a) →
    (i : ℕ) (rest : List ℕ) → drop i ws ≡ run_words (executor o y client serial a) ++ rest →
    own_end ws i ≡ i + 3 + length (variable_words y)
unfolding as_node
executor_own ws {o = o} {y} {client} {serial} {a} few small s i rest e =
    let h : ℕ = head_of Kind.executor (name_fields o (first_of y)) in
    let k : kind_of h ≡ 16 = kind_as_node s in
    let v : List ℕ = variable_words y in
    let stands : drop i ws ≡ (h ∷ (client * 8192) ∷ serial ∷ v) ++ (run_words a ++ rest) =
    e ∙ ap (λ l. l ++ rest) (words_executor o y client serial a) ∙ ap (λ l. h ∷ (client * 8192) ∷ serial ∷ l) (append_assoc v (run_words a) rest) in
    let place : i + 1 + length ((client * 8192) ∷ serial ∷ v) ≡ i + 3 + length v = omega arith in
    own_end_lem ws {h = h} (omega arith) (fixed_of (as_node_fits few small s {p = anywhere} tt)) i (run_words a ++ rest) stands ∙ place
