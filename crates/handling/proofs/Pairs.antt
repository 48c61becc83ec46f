-- cH replaced on words in seq and par: what became nil is dropped, as on trees.
-- Assumes nothing.
use Prim.Native.Nat.{ℕ, suc, ◌+◌, ◌*◌, ◌≤◌, ◌<◌, max}
use native.Mathlib.Omega.{arith}
use mathlib.Core.Path.{◌≡◌, refl, sym, ap, ◌∙◌}
use mathlib.Core.Bool.{Bool, true, false}
use mathlib.Core.List.{List, [], ◌∷◌, ◌++◌, append_assoc, append-nil}
use lib.ListN.{length, drop, length-append}
use Rattle.sock.specs.Term.{Node, node, absent, no_parts, ◌&◌, is_nil}
use Rattle.sock.specs.Layout.{exprs_words, words, exprs_depth, depth}
use Rattle.sock.specs.Reading.{code, Place, anywhere}
use Rattle.sock.specs.Handlers.{rebuilt, replaced}
use Rattle.sock.proofs.Fits.{Fits}
use Rattle.sock.proofs.Positions.{At, at_head, at_past}
use Rattle.writers.proofs.Laid.{Near, near_below}
use Rattle.handling.specs.declared.replace.Old.{Old}
use Rattle.handling.specs.Replacing.{Wrote, seq_w, par_w, replace_w}
use Rattle.handling.proofs.Measures.{shallow}
use Rattle.handling.proofs.Leaves.{Leaves, Does, seq_second, seq_both, par_second, par_both, par_first}
use Rattle.handling.proofs.Rebuilds.{relabel, became_nil, Replaces}

-- ---- what replacing does to seq and par of x and y

abbrev pub pair : ℕ → Node → Node → Node
pair h x y = node h [] [] absent (x & y & no_parts)

module _ (o x y : Node) where
  seq_second_left : is_nil (replaced o x) ≡ true → replaced o (pair 4096 x y) ≡ replaced o y
  unfolding replaced rebuilt
  seq_second_left n = rw n

  seq_stays : is_nil (replaced o x) ≡ false → replaced o (pair 4096 x y) ≡ pair 4096 (replaced o x) (replaced o y)
  unfolding replaced rebuilt
  seq_stays n = rw n

  par_second_left : is_nil (replaced o x) ≡ true → replaced o (pair 6144 x y) ≡ replaced o y
  unfolding replaced rebuilt
  par_second_left n = rw n

  par_first_left : is_nil (replaced o x) ≡ false → is_nil (replaced o y) ≡ true → replaced o (pair 6144 x y) ≡ replaced o x
  unfolding replaced rebuilt
  par_first_left n n' = rw (n, n')

  par_stays :
      is_nil (replaced o x) ≡ false → is_nil (replaced o y) ≡ false → replaced o (pair 6144 x y) ≡ pair 6144 (replaced o x) (replaced o y)
  unfolding replaced rebuilt
  par_stays n n' = rw (n, n')

pair_words : (h : ℕ) (x y : Node) → words (pair h x y) ≡ h ∷ words x ++ words y
unfolding words exprs_words
pair_words h x y = simp append-nil

pair_depth : (h : ℕ) (x y : Node) → depth (pair h x y) ≡ suc (max (depth x) (depth y))
unfolding depth exprs_depth
pair_depth h x y = omega arith

pair_length : (h : ℕ) (x y : Node) → length (words (pair h x y)) ≡ 1 + length (words x) + length (words y)
pair_length h x y =
    let k = ap length (pair_words h x y) in
    let l = length-append (words x) (words y) in
    omega arith

module _ (ws : List ℕ) (near : Near (length ws)) (old : Old) (o : Node) (fo : Fits (code false) anywhere o) where
  -- what is to be shown of a node, from what it is replaced to
  abbrev pub Right : ℕ → Node → ℕ → List ℕ → ℕ → Wrote → Type 0
  Right d m i out to w =
      Near (to + length (words (replaced o m)) + 2 * d) →
      Leaves (i + length (words m)) (is_nil (replaced o m)) (depth (replaced o m)) (words (replaced o m)) (2 * d) out to w

  pub turned :
      (d : ℕ) (m r : Node) (i : ℕ) (out : List ℕ) (to : ℕ) (w : Wrote) → replaced o m ≡ r →
      (Near (to + length (words r) + 2 * d) → Leaves (i + length (words m)) (is_nil r) (depth r) (words r) (2 * d) out to w) →
      Right d m i out to w
  turned d m r i out to w q g room = rw q (g (rw q at room))

  module _ (d : ℕ) (below : Replaces ws near old o d) where
    -- ---- seq and par

    module _
        {c : Bool} {p p' : Place} (h : ℕ) (x y : Node) (fx : Fits (code c) p x) (fy : Fits (code c) p' y) (low : depth (pair h x y) ≤ suc d)
        (i : ℕ) (rest : List ℕ) (e : drop i ws ≡ words (pair h x y) ++ rest) (out : List ℕ) (to : ℕ)
      where
        first : At ws i h (words x ++ (words y ++ rest))
        first =
            at_head ws i h (words x ++ (words y ++ rest))
            (e ∙ ap (λ (l : List ℕ). l ++ rest) (pair_words h x y) ∙ ap (λ (l : List ℕ). h ∷ l) (append_assoc (words x) (words y) rest))

        near_next : Near (i + 1)
        near_next = let z : i < length ws = first.inside in near_below (i + 1) (length ws) near (omega arith)

        end_second : i + 1 + length (words x) + length (words y) ≡ i + length (words (pair h x y))
        end_second = let l = pair_length h x y in omega arith

        does_first :
            Does (replace_w d ws old) (i + 1) (i + 1 + length (words x)) (is_nil (replaced o x)) (depth (replaced o x)) (words (replaced o x))
            (2 * d)
        does_first = let l = pair_depth h x y in below c p x fx (omega arith) (i + 1) (words y ++ rest) first.next

        does_second :
            Does (replace_w d ws old) (i + 1 + length (words x)) (i + length (words (pair h x y))) (is_nil (replaced o y))
            (depth (replaced o y)) (words (replaced o y)) (2 * d)
        does_second =
            let l = pair_depth h x y in
            rw (← end_second) (below c p' y fy (omega arith) (i + 1 + length (words x)) rest
            (at_past ws (words x) (words y ++ rest) (i + 1) first.next))

        spare : 2 + 2 * d ≡ 2 * suc d
        spare = omega arith

        pub seq_right : h ≡ 4096 → Right (suc d) (pair h x y) i out to (seq_w (replace_w d ws old) i out to)
        seq_right z = by (is_nil (replaced o x)) refl
          where
            by : (n : Bool) → is_nil (replaced o x) ≡ n → Right (suc d) (pair h x y) i out to (seq_w (replace_w d ws old) i out to)
            by true n =
                turned (suc d) (pair h x y) (replaced o y) i out to _
                (ap (λ (j : ℕ). replaced o (pair j x y)) z ∙ seq_second_left o x y n) λ room.
                relabel refl refl refl refl spare
                (seq_second (replace_w d ws old) i (2 * d) does_first does_second near_next out to n (became_nil o fo fx n)
                (near_below (to + length (words (replaced o y)) + (2 + 2 * d)) (to + length (words (replaced o y)) + 2 * suc d) room
                (omega arith)))
            by false n =
                let r : Node = pair 4096 (replaced o x) (replaced o y) in
                let l : words r ≡ 4096 ∷ words (replaced o x) ++ words (replaced o y) = pair_words 4096 (replaced o x) (replaced o y) in
                let s : length (words r) ≡ suc (length (words (replaced o x) ++ words (replaced o y))) = ap length l in
                turned (suc d) (pair h x y) r i out to _ (ap (λ (j : ℕ). replaced o (pair j x y)) z ∙ seq_stays o x y n) λ room.
                relabel refl refl (sym (pair_depth 4096 (replaced o x) (replaced o y))) (sym l) spare
                (seq_both (replace_w d ws old) i (2 * d) does_first does_second near_next out to n (shallow (replaced o x))
                (shallow (replaced o y))
                (near_below (to + length (4096 ∷ words (replaced o x) ++ words (replaced o y)) + (2 + 2 * d))
                (to + length (words r) + 2 * suc d) room (omega arith)))

        pub par_right : h ≡ 6144 → Right (suc d) (pair h x y) i out to (par_w (replace_w d ws old) i out to)
        par_right z = by (is_nil (replaced o x)) (is_nil (replaced o y)) refl refl
          where
            by :
                (n n' : Bool) → is_nil (replaced o x) ≡ n → is_nil (replaced o y) ≡ n' →
                Right (suc d) (pair h x y) i out to (par_w (replace_w d ws old) i out to)
            by true n' u v =
                turned (suc d) (pair h x y) (replaced o y) i out to _
                (ap (λ (j : ℕ). replaced o (pair j x y)) z ∙ par_second_left o x y u) λ room.
                relabel refl refl refl refl spare
                (par_second (replace_w d ws old) i (2 * d) does_first does_second near_next out to u (became_nil o fo fx u)
                (near_below (to + length (words (replaced o y)) + (2 + 2 * d)) (to + length (words (replaced o y)) + 2 * suc d) room
                (omega arith)))
            by false true u v =
                turned (suc d) (pair h x y) (replaced o x) i out to _
                (ap (λ (j : ℕ). replaced o (pair j x y)) z ∙ par_first_left o x y u v) λ room.
                relabel refl (sym u) refl refl spare
                (par_first (replace_w d ws old) i (2 * d) does_first does_second near_next out to u v (became_nil o fo fy v)
                (near_below (to + length (words (replaced o x)) + (2 + 2 * d)) (to + length (words (replaced o x)) + 2 * suc d) room
                (omega arith)))
            by false false u v =
                let r : Node = pair 6144 (replaced o x) (replaced o y) in
                let l : words r ≡ 6144 ∷ words (replaced o x) ++ words (replaced o y) = pair_words 6144 (replaced o x) (replaced o y) in
                let s : length (words r) ≡ suc (length (words (replaced o x) ++ words (replaced o y))) = ap length l in
                turned (suc d) (pair h x y) r i out to _ (ap (λ (j : ℕ). replaced o (pair j x y)) z ∙ par_stays o x y u v) λ room.
                relabel refl refl (sym (pair_depth 6144 (replaced o x) (replaced o y))) (sym l) spare
                (par_both (replace_w d ws old) i (2 * d) does_first does_second near_next out to u v (shallow (replaced o x))
                (shallow (replaced o y))
                (near_below (to + length (6144 ∷ words (replaced o x) ++ words (replaced o y)) + (2 + 2 * d))
                (to + length (words r) + 2 * suc d) room (omega arith)))
