-- What fits is laid out in words of 16 bits.
-- Assumes nothing.
use Prim.Native.Nat.{ℕ, ◌+◌, ◌*◌, ◌-◌, ◌≤◌, ◌<◌}
use native.Mathlib.Omega.{arith}
use mathlib.Core.Bool.{Bool, true, false}
use mathlib.Core.List.{List, ◌∷◌, ◌++◌}
use lib.Dec.{T, leb, ltb, lit<}
use lib.ListN.{length}
use Rattle.sock.specs.Kind
use Rattle.sock.specs.Kind.{Own}
use Rattle.sock.specs.Words.{is_word, clear, kind_of, key_word, high_word, low_word}
use Rattle.sock.specs.Term.{Operator, sum, difference, less, equal, decimal_sum, decimal_difference, Expr, Node, Block, Entries, Nodes}
use Rattle.sock.specs.Layout.{operator_tag, expr_words, exprs_words, count, words, block_words, entries_words, nodes_words}
use Rattle.sock.specs.Reading.{Stratum, running, code, Place, anywhere, allowed, head_fits}
use Rattle.sock.specs.Running.{Run, run_words}
use Rattle.sock.specs.Configuration.{Engine, Config, values_words, engine_words, engines_words, encode}
use Rattle.sock.proofs.Fits.{FitsExpr, constant_fits, variable_fits, apply_fits, FitsExprs, no_exprs, one_expr, FitsFurther, no_further, one_further, FitsFixed, no_fixed, one_fixed, some_variables, Fits, fits, FitsBlock, no_list, a_list, FitsEntries, empty_fits, entry_fits_on, FitsParts, no_part, one_part, Sound, AllBelow, none_below, one_below, FitsEngine, FitsEngines, no_engines, one_engine, FitsConfig}
use Rattle.sock.proofs.Nodes.{Head, head_tests}
use Rattle.sock.proofs.Reading.{split, tests}
use Rattle.sock.proofs.Running.{as_node_fits}

pub below_append : {m : ℕ} {xs ys : List ℕ} → AllBelow m xs → AllBelow m ys → AllBelow m (xs ++ ys)
below_append none_below b = b
below_append (one_below h a) b = one_below h (below_append a b)

-- the two words of a value
value_words : (v : ℕ) → v < 4294967296 → {ws : List ℕ} → AllBelow 65536 ws → AllBelow 65536 (high_word v ∷ low_word v ∷ ws)
value_words v h b = one_below {v = high_word v} (omega arith) (one_below {v = low_word v} (omega arith) b)

-- ---- nodes

tag_word : (o : Operator) → operator_tag o * 8192 < 65536
tag_word sum = lit< tt
tag_word difference = lit< tt
tag_word less = lit< tt
tag_word equal = lit< tt
tag_word decimal_sum = lit< tt
tag_word decimal_difference = lit< tt

pub expr_words_lem : {e : Expr} → FitsExpr e → AllBelow 65536 (expr_words e)
unfolding expr_words
expr_words_lem (constant_fits {v = v} h) = one_below (lit< tt) (value_words v h none_below)
expr_words_lem (variable_fits {x = x} h) = one_below {v = 8192 + x * 256} (omega arith) none_below
expr_words_lem (apply_fits {o = o} a b) = one_below (tag_word o) (below_append (expr_words_lem a) (expr_words_lem b))

exprs_words_lem : {n : ℕ} {es : List Expr} → FitsExprs n es → AllBelow 65536 (exprs_words es)
unfolding exprs_words
exprs_words_lem no_exprs = none_below
exprs_words_lem (one_expr h hs) = below_append (expr_words_lem h) (exprs_words_lem hs)

further_words : {n : ℕ} {v : List ℕ} → FitsFurther n v → AllBelow 65536 v
further_words no_further = none_below
further_words (one_further {w = w} t h) = let u = split (is_word w) (clear 2048 w) t in one_below {v = w} (omega tests) (further_words h)

fixed_words : {os : List Own} {f : List ℕ} → FitsFixed os f → AllBelow 65536 f
fixed_words no_fixed = none_below
fixed_words (one_fixed {m = m} {w = w} t h) = let u = split (is_word w) (clear m w) t in one_below {v = w} (omega tests) (fixed_words h)
fixed_words (some_variables {c = c} t v h) =
    let u = split (ltb 0 c) (leb c 4) t in one_below {v = c} (omega tests) (below_append (further_words v) (fixed_words h))

kind_below : (s : Stratum) (k : ℕ) → T (allowed s k) → k < 19
unfolding allowed
kind_below (running n issued) k t = let u = split (leb k Kind.notice) _ t in omega tests
kind_below (code true) k t = omega tests
kind_below (code false) k t = omega tests

head_word_lem : (s : Stratum) (p : Place) (h : ℕ) → T (head_fits s p h) → h < 65536
head_word_lem s p h t = let q : Head s p h = head_tests t in omega (arith, kind_below s (kind_of h) q.allows)

-- keys rise and are below 128
pub count_below : {o : Bool} {least : ℕ} {l : Entries} → FitsEntries o least l → count l ≤ 128 - least
unfolding count
count_below empty_fits = omega arith
count_below (entry_fits_on low high good f fs) = omega (arith, count_below fs)

mutual
  unfolding words

  pub node_words : {s : Stratum} {p : Place} {m : Node} → Fits s p m → AllBelow 65536 (words m)
  node_words (fits {s = s} {p = p} {h = h} t f e b ps g) =
      one_below (head_word_lem s p h t)
      (below_append (fixed_words f) (below_append (exprs_words_lem e) (below_append (block_words_lem b) (nodes_words_lem ps))))

  pub block_words_lem : {o : Bool} {n : ℕ} {b : Block} → FitsBlock o n b → AllBelow 65536 (block_words b)
  block_words_lem no_list = none_below
  block_words_lem (a_list {l = l} f) = one_below {v = count l} (omega (arith, count_below f)) (entries_words_lem f)

  pub entries_words_lem : {o : Bool} {least : ℕ} {l : Entries} → FitsEntries o least l → AllBelow 65536 (entries_words l)
  entries_words_lem empty_fits = none_below
  entries_words_lem (entry_fits_on {k = k} low high good f fs) = one_below {v = key_word k} (omega arith) (below_append (node_words f) (entries_words_lem fs))

  pub nodes_words_lem : {s : Stratum} {k n : ℕ} {ps : Nodes} → FitsParts s k n ps → AllBelow 65536 (nodes_words ps)
  nodes_words_lem no_part = none_below
  nodes_words_lem (one_part f fs) = below_append (node_words f) (nodes_words_lem fs)

-- ---- configurations

pub values_words_lem : {vs : List ℕ} → AllBelow 4294967296 vs → AllBelow 65536 (values_words vs)
unfolding values_words
values_words_lem none_below = none_below
values_words_lem (one_below {v = v} h hs) = value_words v h (values_words_lem hs)

module _ {n issued : ℕ} (few : n ≤ 8) (word : issued < 65536) where
  pub run_words_lem : {r : Run} → Sound n issued r → AllBelow 65536 (run_words r)
  unfolding run_words
  run_words_lem g = node_words (as_node_fits few word g {p = anywhere} tt)

  engine_words_lem : {e : Engine} → FitsEngine n issued e → AllBelow 65536 (engine_words e)
  unfolding engine_words
  engine_words_lem f = below_append (values_words_lem f.bounded) (run_words_lem f.sound)

  engines_words_lem : {es : List Engine} → FitsEngines n issued es → AllBelow 65536 (engines_words es)
  unfolding engines_words
  engines_words_lem no_engines = none_below
  engines_words_lem (one_engine f fs) = below_append (engine_words_lem f) (engines_words_lem fs)

pub encode_words : {c : Config} → FitsConfig c → AllBelow 65536 (encode c)
unfolding encode
encode_words {c} f = one_below {v = length c.engines} (omega arith) (one_below f.word (engines_words_lem f.few f.word f.engines))
