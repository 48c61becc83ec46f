-- The variables of a message and their words: each gives the other.
-- Assumes nothing.
use Prim.Native.Nat.{ℕ, suc, ◌-◌, ◌*◌, ◌/◌, ◌%◌, ◌≤◌, ◌<◌}
use native.Mathlib.Omega.{arith}
use native.Mathlib.Nat.{mod-lt}
use mathlib.Core.Path.{◌≡◌, refl, subst, sym, ap, ap₂, ◌∙◌}
use mathlib.Core.Bool.{◌&&◌}
use mathlib.Core.List.{List, [], ◌∷◌, ◌++◌, append-nil}
use lib.Dec.{T, leb, ltb, lit<, eqb→eq, leb→le, ltb→lt, lt→ltb, le→leb}
use lib.ListN.{length, take, drop}
use Rattle.sock.specs.Kind
use Rattle.sock.specs.Kind.{Own, word, variables, rows, row_of}
use Rattle.sock.specs.Words.{is_word, clear, kind_of, second_of, first_variable, next_variable}
use Rattle.sock.specs.Variables.{first_of, further_words, variable_words, further_of, variables_of, behind_variables, head_variables, later_variables, distinct}
use Rattle.sock.specs.Reading.{receives_in, fixed_at}
use Rattle.sock.proofs.Logic.{and_left, and_right, and_both}
use Rattle.sock.proofs.Fits.{AllBelow, none_below, one_below, FitsFurther, no_further, one_further, FitsFixed, no_fixed, one_fixed, some_variables, FitsVariables, FitsDistinct}
use Rattle.sock.proofs.Fields.{fixed_fits}

-- ---- the words that were read

take_further : {n : ℕ} {v : List ℕ} → FitsFurther n v → (rest : List ℕ) → take n (v ++ rest) ≡ v
take_further no_further rest = refl
take_further (one_further {w = w} t h) rest = ap (λ l. w ∷ l) (take_further h rest)

drop_further : {n : ℕ} {v : List ℕ} → FitsFurther n v → (rest : List ℕ) → drop n (v ++ rest) ≡ rest
drop_further no_further rest = refl
drop_further (one_further t h) rest = drop_further h rest

further_same : {n : ℕ} {v : List ℕ} → FitsFurther n v → further_words (further_of v) ≡ v
unfolding further_words further_of
further_same no_further = refl
further_same (one_further {w = w} t h) =
    let z : w % 2048 ≡ 0 = eqb→eq (w % 2048) 0 (and_right (is_word w) (clear 2048 w) t) in
    let e : first_variable w * 2048 ≡ w = omega arith in
    ap₂ (λ a b. a ∷ b) e (further_same h)

further_below : {n : ℕ} {v : List ℕ} → FitsFurther n v → AllBelow 32 (further_of v)
unfolding further_of
further_below no_further = none_below
further_below (one_further {w = w} t h) =
    let b : w < 65536 = ltb→lt w 65536 (and_left (is_word w) (clear 2048 w) t) in
    one_below {v = first_variable w} (omega arith) (further_below h)

further_counted : {n : ℕ} {v : List ℕ} → FitsFurther n v → length (further_of v) ≡ n
unfolding further_of
further_counted no_further = refl
further_counted (one_further t h) = ap suc (further_counted h)

module _ (c first : ℕ) (t : T (ltb 0 c && leb c 4)) {v : List ℕ} (h : FitsFurther (c - 1) v) (rest : List ℕ) where
  some_variables_lem : 0 < c
  some_variables_lem = ltb→lt 0 c (and_left (ltb 0 c) (leb c 4) t)

  pub variables_read : variables_of first (c ∷ v ++ rest) ≡ first ∷ further_of v
  unfolding variables_of
  variables_read = ap (λ l. first ∷ further_of l) (take_further h rest)

  pub behind_read : behind_variables (c ∷ v ++ rest) ≡ rest
  unfolding behind_variables
  behind_read = drop_further h rest

  pub variables_same : variable_words (variables_of first (c ∷ v ++ rest)) ≡ c ∷ v
  unfolding variable_words
  variables_same =
      rw variables_read
      (let e : suc (length (further_of v)) ≡ c = omega (arith, further_counted h, some_variables_lem) in
      ap₂ (λ a b. a ∷ b) e (further_same h))

  pub variables_fit : first < 32 → FitsVariables (variables_of first (c ∷ v ++ rest))
  variables_fit b =
      rw variables_read
      (record {
        some = omega arith;
        few = omega (arith, further_counted h, some_variables_lem, leb→le c 4 (and_right (ltb 0 c) (leb c 4) t));
        below = one_below b (further_below h);
      })

-- ---- and back

words_further : {vs : List ℕ} → AllBelow 32 vs → FitsFurther (length vs) (further_words vs)
unfolding further_words
words_further none_below = no_further
words_further (one_below {v = v} b bs) = one_further (fixed_fits 2048 (v * 2048) (omega arith) (omega arith)) (words_further bs)

further_back : {vs : List ℕ} → AllBelow 32 vs → further_of (further_words vs) ≡ vs
unfolding further_of further_words
further_back none_below = refl
further_back (one_below {v = v} b bs) = let e : first_variable (v * 2048) ≡ v = omega arith in ap₂ (λ a b. a ∷ b) e (further_back bs)

-- the count and the further words of variables that fit
pub record Laid (xs : List ℕ) : Type 0 where
  pub count : ℕ
  pub further : List ℕ
  pub words : variable_words xs ≡ count ∷ further
  pub counted : T (ltb 0 count && leb count 4)
  pub fitting : FitsFurther (count - 1) further
  pub same : first_of xs ∷ further_of further ≡ xs
  pub low : first_of xs < 32

pub laid : (xs : List ℕ) → FitsVariables xs → Laid xs
unfolding variable_words
laid [] f = absurd (let h = f.some in omega arith)
laid (x ∷ xs) f = by f.below
  where
    by : AllBelow 32 (x ∷ xs) → Laid (x ∷ xs)
    by (one_below b bs) =
        let k : suc (length xs) ≤ 4 = f.few in
        let n : suc (length xs) - 1 ≡ length xs = omega arith in
        record {
          count = suc (length xs);
          further = further_words xs;
          words = refl;
          counted = and_both (ltb 0 (suc (length xs))) (leb (suc (length xs)) 4) (lt→ltb 0 (suc (length xs)) (omega arith)) (le→leb (suc (length xs)) 4 k);
          fitting = rw n (words_further bs);
          same = ap (λ l. x ∷ l) (further_back bs);
          low = b;
        }

-- they are read back, and fit as a process's own words
pub variables_back : (xs : List ℕ) → FitsVariables xs → variables_of (first_of xs) (variable_words xs) ≡ xs
variables_back xs f =
    let l = laid xs f in
    ap (variables_of (first_of xs)) (l.words ∙ ap (λ v. l.count ∷ v) (sym (append-nil l.further)))
    ∙ variables_read l.count (first_of xs) l.counted l.fitting []
    ∙ l.same

pub list_fits : (xs : List ℕ) → FitsVariables xs → FitsFixed (variables ∷ []) (variable_words xs)
list_fits xs f =
    let l = laid xs f in
    subst (FitsFixed (variables ∷ [])) (sym (l.words ∙ ap (λ v. l.count ∷ v) (sym (append-nil l.further)))) (some_variables l.counted l.fitting no_fixed)

-- ---- the lists in a process's own words

first_list : {os : List Own} {f : List ℕ} (first : ℕ) → first < 32 → FitsFixed (variables ∷ os) f → FitsVariables (variables_of first f)
first_list first b (some_variables {c = c} {f = rest} t v g) = variables_fit c first t v rest b

pub head_list : {m : ℕ} {os : List Own} {f : List ℕ} (h : ℕ) → FitsFixed (word m ∷ variables ∷ os) f → FitsVariables (head_variables 1 h f)
head_list h (one_fixed t g) = first_list (second_of h) (mod-lt h (lit< tt)) g

pub later_list :
    {m : ℕ} {os : List Own} {f : List ℕ} (first : ℕ) → first < 32 → FitsFixed (word m ∷ variables ∷ variables ∷ os) f → FitsVariables (later_variables first f)
later_list first b (one_fixed w (some_variables {c = c} {f = rest} t v g)) =
    subst (λ l. FitsVariables (variables_of first l)) (sym (behind_read c first t v rest)) (first_list first b g)

-- where a process receives
module _ (h : ℕ) (f : List ℕ) (d : T (distinct (receives_in h f))) where
  pub one_way_list : kind_of h ≡ Kind.one_way → FitsFixed (row_of Kind.one_way).fixed f → FitsDistinct (head_variables 0 h f)
  unfolding receives_in row_of rows
  one_way_list e g = record { fitting = first_list (second_of h) (mod-lt h (lit< tt)) g; apart = rw e at d }

  pub request_list : kind_of h ≡ Kind.request → FitsFixed (row_of Kind.request).fixed f → FitsDistinct (head_variables 1 h f)
  unfolding receives_in row_of rows
  request_list e g = record { fitting = head_list h g; apart = rw e at d }

  pub solicit_list : kind_of h ≡ Kind.solicit → FitsFixed (row_of Kind.solicit).fixed f → FitsDistinct (later_variables (next_variable (fixed_at f 0)) f)
  unfolding receives_in row_of rows
  solicit_list e g = record { fitting = later_list (next_variable (fixed_at f 0)) (mod-lt (fixed_at f 0 / 64) (lit< tt)) g; apart = rw e at d }
