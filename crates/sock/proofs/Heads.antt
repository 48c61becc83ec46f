-- Where an enabled process stands in words: its first word, which says its kind, and the words of its parts.
-- Assumes nothing.
use Prim.Native.Nat.{ℕ, zero, suc, ◌+◌, ◌<◌}
use native.Mathlib.Omega.{arith}
use mathlib.Core.Path.{◌≡◌, refl, sym, ap, ◌∙◌}
use mathlib.Core.Bool.{Bool, false}
use mathlib.Core.List.{List, [], ◌∷◌, ◌++◌, append_assoc}
use lib.Dec.{eqb}
use lib.ListN.{length, get_or, drop}
use borrow.Author.Tests.{ne_eqb}
use Rattle.sock.specs.Words.{kind_of}
use Rattle.sock.specs.Variables.{variable_words}
use Rattle.sock.specs.Term.{Node, node, Entries, head_word}
use Rattle.sock.specs.Layout.{count, words, entries_words, depth}
use Rattle.sock.specs.Running.{Mark, Run, seq, par, scope, executor, as_node, run_words, size}
use Rattle.sock.specs.Frames.{is_done}
use Rattle.sock.proofs.Fits.{Sound, nil_sound, seq_sound, par_sound, scope_sound, executor_sound, waiter_sound, notice_sound, act_sound}
use Rattle.sock.proofs.ByKind.{run_kind, kind_as_node, done_kind}
use Rattle.sock.proofs.Measures.{words_seq, words_par, words_scope, words_executor}
use Rattle.sock.proofs.Located.{size_positive}
use Rattle.sock.proofs.Positions.{stands_within, word_at, at_past, drop_after}

-- ---- the first word

pub depth_positive : (m : Node) → 0 < depth m
unfolding depth
depth_positive (node h f es b ps) = omega arith

words_head : (m : Node) → get_or (words m) 0 0 ≡ head_word m
unfolding words
words_head (node h f es b ps) = refl

module _ (ws rest : List ℕ) (at : ℕ) (r : Run) (e : drop at ws ≡ run_words r ++ rest) where
  pub run_inside : at < length ws
  unfolding size
  run_inside = let p = size_positive r in omega (arith, stands_within ws (run_words r) rest at e p)

  pub run_behind : drop (at + size r) ws ≡ rest
  unfolding size
  run_behind = at_past ws (run_words r) rest at e

  pub run_head : get_or ws at 0 ≡ head_word (as_node r)
  unfolding size run_words
  run_head =
      let p = size_positive r in
      ap (λ n. get_or ws n 0) (let q : at ≡ at + 0 = omega arith in q) ∙ word_at ws (run_words r) rest at e 0 p ∙ words_head (as_node r)

  pub run_kind_lem : {n issued : ℕ} → Sound n issued r → kind_of (get_or ws at 0) ≡ run_kind r
  run_kind_lem s = ap kind_of run_head ∙ kind_as_node s

-- it is 0 where the process is nil
module _ {n issued : ℕ} where
  live_head : {r : Run} → Sound n issued r → is_done r ≡ false → eqb (head_word (as_node r)) 0 ≡ is_done r
  live_head {r} s e =
      let k : kind_of (head_word (as_node r)) ≡ run_kind r = kind_as_node s in
      let d : eqb (run_kind r) 0 ≡ false = sym (done_kind s) ∙ e in
      ne_eqb (head_word (as_node r)) 0 (λ q. let z : run_kind r ≡ 0 = omega arith in absurd (eqb_zero (run_kind r) z d)) ∙ sym e
    where
      eqb_zero : (k : ℕ) → k ≡ 0 → eqb k 0 ≡ false → ⊥
      eqb_zero zero z d = let y : ◌≡◌ {A = ℕ} 0 1 = cc in omega arith
      eqb_zero (suc k) z d = omega arith

  pub head_done : {r : Run} → Sound n issued r → eqb (head_word (as_node r)) 0 ≡ is_done r
  unfolding is_done as_node
  head_done nil_sound = refl
  head_done (seq_sound a d q) = live_head (seq_sound a d q) refl
  head_done (par_sound a d b d') = live_head (par_sound a d b d') refl
  head_done (scope_sound {mark = mark} {zombie = zombie} a m h b) = live_head (scope_sound {mark = mark} {zombie = zombie} a m h b) refl
  head_done (executor_sound a b c g) = live_head (executor_sound a b c g) refl
  head_done (waiter_sound {dead = dead} a b c g) = live_head (waiter_sound {dead = dead} a b c g) refl
  head_done (notice_sound a b c) = live_head (notice_sound a b c) refl
  head_done (act_sound a b) = live_head (act_sound a b) refl

-- ---- the parts

pub seq_parts : (ws : List ℕ) (a : Run) (q : Node) (at : ℕ) (rest : List ℕ) → drop at ws ≡ run_words (seq a q) ++ rest → drop (at + 1) ws ≡ run_words a ++ (words q ++ rest)
seq_parts ws a q at rest e =
    drop_after ws (_ ∷ []) (run_words a ++ words q) rest at (e ∙ ap (λ l. l ++ rest) (words_seq a q)) ∙ append_assoc (run_words a) (words q) rest

pub par_parts : (ws : List ℕ) (a b : Run) (at : ℕ) (rest : List ℕ) → drop at ws ≡ run_words (par a b) ++ rest → drop (at + 1) ws ≡ run_words a ++ (run_words b ++ rest)
par_parts ws a b at rest e =
    drop_after ws (_ ∷ []) (run_words a ++ run_words b) rest at (e ∙ ap (λ l. l ++ rest) (words_par a b)) ∙ append_assoc (run_words a) (run_words b) rest

-- the list of a scope, and its body
pub scope_parts :
    (ws : List ℕ) (name : ℕ) (mark : Mark) (zombie : Bool) (h : Entries) (a : Run) (at : ℕ) (rest : List ℕ) → drop at ws ≡ run_words (scope name mark zombie h a) ++ rest →
    (drop (at + 2) ws ≡ (count h ∷ entries_words h) ++ (run_words a ++ rest)) × (drop (at + 3 + length (entries_words h)) ws ≡ run_words a ++ rest)
scope_parts ws name mark zombie h a at rest e =
    let list : drop (at + 2) ws ≡ (count h ∷ entries_words h) ++ (run_words a ++ rest) =
    drop_after ws (_ ∷ _ ∷ []) ((count h ∷ entries_words h) ++ run_words a) rest at (e ∙ ap (λ l. l ++ rest) (words_scope name mark zombie h a))
    ∙ append_assoc (count h ∷ entries_words h) (run_words a) rest in
    let place : at + 3 + length (entries_words h) ≡ at + 2 + length (count h ∷ entries_words h) = omega arith in
    (list, ap (λ n. drop n ws) place ∙ at_past ws (count h ∷ entries_words h) (run_words a ++ rest) (at + 2) list)

pub executor_parts :
    (ws : List ℕ) (o : ℕ) (y : List ℕ) (client serial : ℕ) (a : Run) (at : ℕ) (rest : List ℕ) → drop at ws ≡ run_words (executor o y client serial a) ++ rest →
    drop (at + 3 + length (variable_words y)) ws ≡ run_words a ++ rest
executor_parts ws o y client serial a at rest e =
    at_past ws (variable_words y) (run_words a ++ rest) (at + 3)
    (drop_after ws (_ ∷ _ ∷ _ ∷ []) (variable_words y ++ run_words a) rest at (e ∙ ap (λ l. l ++ rest) (words_executor o y client serial a))
    ∙ append_assoc (variable_words y) (run_words a) rest)
