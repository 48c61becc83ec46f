-- An enabled process that is neither nil, seq, par, scope nor an end, by its kind: what its node holds.
-- Assumes nothing.
use Prim.Native.Nat.{ℕ, zero, ◌/◌, ◌*◌, ◌<◌}
use native.Mathlib.Omega.{arith}
use native.Mathlib.Nat.{mod-lt}
use mathlib.Core.Path.{◌≡◌, refl, subst, sym, ap, ◌∙◌}
use mathlib.Core.Bool.{Bool, true, false, ◌&&◌, cond}
use mathlib.Core.List.{List, [], ◌∷◌, ◌++◌, append-nil}
use lib.Ieee.Fits.{and_l}
use lib.Dec.{T, eqb, ltb, leb, lit<, ltb→lt}
use Rattle.sock.specs.Kind
use Rattle.sock.specs.Kind.{word, variables, rows, row_of}
use Rattle.sock.specs.Words.{kind_of, count_of, second_of, first_variable, next_variable, is_word, clear}
use Rattle.sock.specs.Variables.{first_of, variable_words, variables_of}
use Rattle.sock.specs.Term.{Expr, Node, node, Block, absent, list, Entries, Nodes, no_parts, ◌&◌, kind, processes_of}
use Rattle.sock.specs.Reading.{code, anywhere, branched}
use Rattle.sock.proofs.Parts.{part_stratum, part_place}
use Rattle.sock.proofs.Fits.{FitsExpr, FitsExprs, no_exprs, one_expr, FitsFixed, no_fixed, one_fixed, some_variables, FitsVariables, Fits, fits, FitsBlock, no_list, a_list, FitsEntries, FitsParts, no_part, one_part, is_plain}
use Rattle.sock.proofs.Fields.{From, end, ◌then◌, fact_at}
use Rattle.sock.proofs.ByKind.{head_tests, code_kind}
use Rattle.sock.proofs.Variables.{variables_read, variables_same, variables_fit}

-- variables that fit, with a first one that is known
pub record Headed (first : ℕ) (x : List ℕ) : Type 0 where
  pub fitting : FitsVariables x
  pub begins : first_of x ≡ first

pub data Shape : Node → Type 0 where
  assigns : {h : ℕ} {e : Expr} → kind_of h ≡ 1 → FitsExpr e → Shape (node h [] (e ∷ []) absent no_parts)
  branches :
      {h : ℕ} {e : Expr} {p q : Node} →
      kind_of h ≡ 4 → FitsExpr e → Fits (code false) anywhere p → Fits (code false) anywhere q →
      Shape (node h [] (e ∷ []) absent (p & q & no_parts))
  repeats :
      {h : ℕ} {e : Expr} {p : Node} → kind_of h ≡ 5 → FitsExpr e → Fits (code false) anywhere p → Shape (node h [] (e ∷ []) absent (p & no_parts))
  chooses :
      {h : ℕ} {ps : Nodes} → kind_of h ≡ 6 → 0 < count_of h → FitsParts (code false) 6 (count_of h * 2) ps → Shape (node h [] [] absent ps)
  hears : {h : ℕ} {x : List ℕ} → kind_of h ≡ 7 → Headed (second_of h) x → Shape (node h (variable_words x) [] absent no_parts)
  serves :
      {h w : ℕ} {x y : List ℕ} {p : Node} →
      kind_of h ≡ 8 → T (is_word w && clear 2048 w) → Headed (second_of h) x → Headed (first_variable w) y → Fits (code false) anywhere p →
      Shape (node h (w ∷ variable_words x ++ variable_words y) [] absent (p & no_parts))
  notifies :
      {h w : ℕ} {y : List ℕ} → kind_of h ≡ 9 → T (is_word w && clear 2048 w) → Headed (second_of h) y →
      Shape (node h (w ∷ variable_words y) [] absent no_parts)
  solicits :
      {h w : ℕ} {y x : List ℕ} {l : Entries} →
      kind_of h ≡ 10 → T (is_word w && clear 64 w) → Headed (second_of h) y → Headed (next_variable w) x → FitsEntries false zero l →
      Shape (node h (w ∷ variable_words y ++ variable_words x) [] (list l) no_parts)
  installs : {h : ℕ} {l : Entries} → kind_of h ≡ 12 → T (clear 2048 h) → FitsEntries false zero l → Shape (node h [] [] (list l) no_parts)
  throws : {h : ℕ} → kind_of h ≡ 13 → T (clear 32 h) → Shape (node h [] [] absent no_parts)
  compensates : {h : ℕ} → kind_of h ≡ 14 → T (clear 32 h) → Shape (node h [] [] absent no_parts)

-- ---- the lists of a process's own words

record OneList (first : ℕ) (f : List ℕ) : Type 0 where
  pub x : List ℕ
  pub headed : Headed first x
  pub words : variable_words x ≡ f

record TwoLists (first second : ℕ) (f : List ℕ) : Type 0 where
  pub x : List ℕ
  pub y : List ℕ
  pub front : Headed first x
  pub back : Headed second y
  pub words : variable_words x ++ variable_words y ≡ f

one_list_lem : {first : ℕ} {f : List ℕ} → first < 32 → FitsFixed (variables ∷ []) f → OneList first f
one_list_lem {first} b (some_variables {c} {v = v} t g no_fixed) =
    record {
      x = variables_of first (c ∷ v ++ []);
      headed = record { fitting = variables_fit c first t g [] b; begins = ap first_of (variables_read c first t g []) };
      words = variables_same c first t g [] ∙ ap (λ l. c ∷ l) (sym (append-nil v));
    }

two_lists : {first second : ℕ} {f : List ℕ} → first < 32 → second < 32 → FitsFixed (variables ∷ variables ∷ []) f → TwoLists first second f
two_lists {first} {second} b d (some_variables {c} {v = v} {f = f} t g h) =
    let o = one_list_lem {first = second} d h in
    record {
      x = variables_of first (c ∷ v ++ f);
      y = o.x;
      front = record { fitting = variables_fit c first t g f b; begins = ap first_of (variables_read c first t g f) };
      back = o.headed;
      words = ap (λ l. l ++ variable_words o.x) (variables_same c first t g f) ∙ ap (λ l. (c ∷ v) ++ l) o.words;
    }

five_bits : (w : ℕ) → T (is_word w && clear 2048 w) → first_variable w < 32
five_bits w t = let b = ltb→lt w 65536 (and_l (is_word w) (clear 2048 w) t) in omega arith

module _ {h : ℕ} where
  an_assign : {f : List ℕ} {es : List Expr} {b : Block} {ps : Nodes} {o : Bool} {k : ℕ} →
      kind_of h ≡ 1 → FitsFixed [] f → FitsExprs 1 es → FitsBlock o 0 b → FitsParts (code false) k 0 ps → Shape (node h f es b ps)
  an_assign q no_fixed (one_expr g no_exprs) no_list no_part = assigns q g

  an_if : {f : List ℕ} {es : List Expr} {b : Block} {ps : Nodes} {o : Bool} →
      kind_of h ≡ 4 → FitsFixed [] f → FitsExprs 1 es → FitsBlock o 0 b → FitsParts (code false) 4 2 ps → Shape (node h f es b ps)
  unfolding part_stratum part_place
  an_if q no_fixed (one_expr g no_exprs) no_list (one_part x (one_part y no_part)) = branches q g x y

  a_while : {f : List ℕ} {es : List Expr} {b : Block} {ps : Nodes} {o : Bool} →
      kind_of h ≡ 5 → FitsFixed [] f → FitsExprs 1 es → FitsBlock o 0 b → FitsParts (code false) 5 1 ps → Shape (node h f es b ps)
  unfolding part_stratum part_place
  a_while q no_fixed (one_expr g no_exprs) no_list (one_part x no_part) = repeats q g x

  a_choice : {f : List ℕ} {es : List Expr} {b : Block} {ps : Nodes} {o : Bool} →
      kind_of h ≡ 6 → 0 < count_of h → FitsFixed [] f → FitsExprs 0 es → FitsBlock o 0 b → FitsParts (code false) 6 (count_of h * 2) ps → Shape (node h f es b ps)
  a_choice q c no_fixed no_exprs no_list pt = chooses q c pt

  a_one_way : {f : List ℕ} {es : List Expr} {b : Block} {ps : Nodes} {o : Bool} →
      kind_of h ≡ 7 → FitsFixed (variables ∷ []) f → FitsExprs 0 es → FitsBlock o 0 b → FitsParts (code false) 7 0 ps → Shape (node h f es b ps)
  a_one_way q g no_exprs no_list no_part =
      let o = one_list_lem {first = second_of h} (mod-lt h (lit< tt)) g in subst (λ f. Shape (node h f [] absent no_parts)) o.words (hears q o.headed)

  a_request : {f : List ℕ} {es : List Expr} {b : Block} {ps : Nodes} {o : Bool} →
      kind_of h ≡ 8 → FitsFixed (word 2048 ∷ variables ∷ variables ∷ []) f → FitsExprs 0 es → FitsBlock o 0 b → FitsParts (code false) 8 1 ps → Shape (node h f es b ps)
  unfolding part_stratum part_place
  a_request q (one_fixed {w = w} t g) no_exprs no_list (one_part {p = p} x no_part) =
      let o = two_lists {first = second_of h} {second = first_variable w} (mod-lt h (lit< tt)) (five_bits w t) g in
      subst (λ f. Shape (node h (w ∷ f) [] absent (p & no_parts))) o.words (serves q t o.front o.back x)

  a_notify : {f : List ℕ} {es : List Expr} {b : Block} {ps : Nodes} {o : Bool} →
      kind_of h ≡ 9 → FitsFixed (word 2048 ∷ variables ∷ []) f → FitsExprs 0 es → FitsBlock o 0 b → FitsParts (code false) 9 0 ps → Shape (node h f es b ps)
  a_notify q (one_fixed {w = w} t g) no_exprs no_list no_part =
      let o = one_list_lem {first = second_of h} (mod-lt h (lit< tt)) g in
      subst (λ f. Shape (node h (w ∷ f) [] absent no_parts)) o.words (notifies q t o.headed)

  a_solicit : {f : List ℕ} {es : List Expr} {b : Block} {ps : Nodes} →
      kind_of h ≡ 10 → FitsFixed (word 64 ∷ variables ∷ variables ∷ []) f → FitsExprs 0 es → FitsBlock false 1 b → FitsParts (code false) 10 0 ps → Shape (node h f es b ps)
  a_solicit q (one_fixed {w = w} t g) no_exprs (a_list {l = r} l) no_part =
      let o = two_lists {first = second_of h} {second = next_variable w} (mod-lt h (lit< tt)) (mod-lt (w / 64) (lit< tt)) g in
      subst (λ f. Shape (node h (w ∷ f) [] (list r) no_parts)) o.words (solicits q t o.front o.back l)

  an_inst : {f : List ℕ} {es : List Expr} {b : Block} {ps : Nodes} →
      kind_of h ≡ 12 → T (clear 2048 h) → FitsFixed [] f → FitsExprs 0 es → FitsBlock false 1 b → FitsParts (code false) 12 0 ps → Shape (node h f es b ps)
  an_inst q c no_fixed no_exprs (a_list l) no_part = installs q c l

  a_throw : {f : List ℕ} {es : List Expr} {b : Block} {ps : Nodes} {o : Bool} →
      kind_of h ≡ 13 → T (clear 32 h) → FitsFixed [] f → FitsExprs 0 es → FitsBlock o 0 b → FitsParts (code false) 13 0 ps → Shape (node h f es b ps)
  a_throw q c no_fixed no_exprs no_list no_part = throws q c

  a_comp : {f : List ℕ} {es : List Expr} {b : Block} {ps : Nodes} {o : Bool} →
      kind_of h ≡ 14 → T (clear 32 h) → FitsFixed [] f → FitsExprs 0 es → FitsBlock o 0 b → FitsParts (code false) 14 0 ps → Shape (node h f es b ps)
  a_comp q c no_fixed no_exprs no_list no_part = compensates q c

counted : (h : ℕ) → kind_of h ≡ 6 → T (branched h) → 0 < count_of h
unfolding branched
counted h q t = by (ltb 0 (count_of h)) refl (rw q at t)
  where
    by : (b : Bool) → ltb 0 (count_of h) ≡ b → T (b && leb (count_of h) 8) → 0 < count_of h
    by true e u = ltb→lt 0 (count_of h) (rw e tt)
    by false e u = absurd u

module _ (h : ℕ) (f : List ℕ) (es : List Expr) (b : Block) (ps : Nodes) (br : T (branched h)) where
  abbrev Case : ℕ → Type 0
  Case k =
      kind_of h ≡ k →
      T (is_plain k) →
      T (clear (row_of k).spare h) →
      FitsFixed (row_of k).fixed f →
      FitsExprs (row_of k).expressions es →
      FitsBlock (eqb k Kind.scope) (row_of k).lists b →
      FitsParts (code false) k (cond (eqb k Kind.choice) (count_of h * (row_of k).processes) (row_of k).processes) ps →
      Shape (node h f es b ps)

  by_kind : From Case 15 0
  unfolding row_of rows
  by_kind =
      (λ q i c fx ex bl pt. absurd i)
      then (λ q i c fx ex bl pt. an_assign q fx ex bl pt)
      then (λ q i c fx ex bl pt. absurd i)
      then (λ q i c fx ex bl pt. absurd i)
      then (λ q i c fx ex bl pt. an_if q fx ex bl pt)
      then (λ q i c fx ex bl pt. a_while q fx ex bl pt)
      then (λ q i c fx ex bl pt. a_choice q (counted h q br) fx ex bl pt)
      then (λ q i c fx ex bl pt. a_one_way q fx ex bl pt)
      then (λ q i c fx ex bl pt. a_request q fx ex bl pt)
      then (λ q i c fx ex bl pt. a_notify q fx ex bl pt)
      then (λ q i c fx ex bl pt. a_solicit q fx ex bl pt)
      then (λ q i c fx ex bl pt. absurd i)
      then (λ q i c fx ex bl pt. an_inst q c fx ex bl pt)
      then (λ q i c fx ex bl pt. a_throw q c fx ex bl pt)
      then (λ q i c fx ex bl pt. a_comp q c fx ex bl pt)
      then end

pub shape : {m : Node} → T (is_plain (kind m)) → Fits (code false) anywhere m → Shape m
unfolding processes_of
shape i (fits {p = p} {h} {f} {es} {b} {ps} t fx ex bl pt nf) =
    let g = head_tests (code false) p h t in
    fact_at (by_kind h f es b ps g.3) (kind_of h) (omega arith) (code_kind {p = p} (fits {s = code false} t fx ex bl pt nf)) refl i g.2 fx ex bl pt
