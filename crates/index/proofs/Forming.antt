-- What holds after some turns of the loops over an index's words, and the test whether an index is in order, taken apart.
-- Assumes nothing.
use Prim.Native.Nat.{ℕ, suc, ◌+◌, ◌-◌, ◌≤◌, ◌<◌}
use native.Mathlib.Omega.{arith}
use native.Mathlib.Numerals.{add-one}
use mathlib.Core.Path.{◌≡◌, refl, sym, ap, ◌∙◌}
use mathlib.Core.Bool.{Bool, true, false, ◌&&◌}
use mathlib.Core.Option.{Option, none, some}
use mathlib.Core.List.{List, [], ◌∷◌, ◌++◌, append_assoc}
use lib.Dec.{leb, eqb, leb-suc-suc}
use lib.ListN.{length, get_or, take, drop, replicate, drop_of_length-le}
use lib.Seq.{drop-cons}
use borrow.Author.Tests.{lt-ltb, le-ltb, le-leb, lt-leb}
use Rattle.std.specs.List.{list_all, between}
use Rattle.std.proofs.lemmas.Slice.{between_is}
use Rattle.sock.specs.Configuration.{guarded}
use Rattle.sock.specs.Calls.{over}
use Rattle.sock.specs.Index.{rising, zeros, index_of, listed}
use Rattle.index.specs.Form.{present, in_order, serials_in}
use Rattle.sock.proofs.Index.{Lists, listed_lists, index_of_length}

-- ---- the words from a place on, all of them or up to the word n

module _ (ws : List ℕ) (i : ℕ) where
  all_more : i < length ws → drop i ws ≡ get_or ws i 0 ∷ drop (i + 1) ws
  all_more h = drop-cons ws i 0 h ∙ ap (λ k. get_or ws i 0 ∷ drop k ws) (sym (add-one i))

  pub rest_more : (n : ℕ) → i ≤ n → n < length ws → take (n + 1 - i) (drop i ws) ≡ get_or ws i 0 ∷ take (n + 1 - (i + 1)) (drop (i + 1) ws)
  rest_more n h l =
      let one : n + 1 - i ≡ suc (n + 1 - (i + 1)) = omega arith in
      ap (λ k. take k (drop i ws)) one ∙ ap (take (suc (n + 1 - (i + 1)))) (all_more (omega arith))

-- ---- strictly rising

module _ (ws : List ℕ) (i last : ℕ) where
  pub rise_passes : i < length ws → last < get_or ws i 0 → rising (get_or ws i 0) (drop (i + 1) ws) ≡ rising last (drop i ws)
  unfolding rising
  rise_passes h b = sym (ap (rising last) (all_more ws i h) ∙ rw (lt-ltb last (get_or ws i 0) b))

  pub rise_stops : i < length ws → get_or ws i 0 ≤ last → false ≡ rising last (drop i ws)
  unfolding rising
  rise_stops h b = sym (ap (rising last) (all_more ws i h) ∙ rw (le-ltb last (get_or ws i 0) b))

  pub rise_ends : length ws ≤ i → true ≡ rising last (drop i ws)
  unfolding rising
  rise_ends h = sym (ap (rising last) (drop_of_length-le ws {i = i} h))

-- ---- zeros

pub zeros_are : (ws : List ℕ) → list_all (λ w. eqb w 0) ws ≡ zeros ws
unfolding zeros
zeros_are [] = refl
zeros_are (w ∷ ws) = ap (λ b. eqb w 0 && b) (zeros_are ws)

-- ---- an index in order

present_is : (b : Bool) (ss : List ℕ) → present (guarded b (some ss)) ≡ b
unfolding present guarded
present_is true ss = refl
present_is false ss = refl

passes : (b : Bool) (ss : List ℕ) → present (guarded b (some ss)) ≡ true → guarded b (some ss) ≡ some ss
unfolding present guarded
passes true ss e = refl
passes false ss e = absurd (let z : ◌≡◌ {A = ℕ} 0 1 = cc in omega arith)

behind_first : (m n : ℕ) (ws : List ℕ) → drop (n + 1) (take (suc m) (n ∷ ws)) ≡ drop n (take m ws)
behind_first m n ws = rw (add-one n)

-- the four tests, on the words themselves
pub order_is :
    (index : List ℕ) →
    in_order index
    ≡ (leb 2049 (length index) && leb (get_or index 0 0) 2047 && rising 0 (take (get_or index 0 0) (drop 1 index)) && zeros (drop (get_or index 0 0 + 1) (take 2049 index)))
unfolding in_order listed present
order_is [] = refl
order_is (n ∷ ws) =
    present_is (leb 2048 (length ws) && leb n 2047 && rising 0 (take n ws) && zeros (drop n (take 2048 ws))) (take n ws)
    ∙ ap (λ us. leb 2048 (length ws) && leb n 2047 && rising 0 (take n ws) && zeros us) (sym (behind_first 2048 n ws))
    ∙ ap (λ b. b && leb n 2047 && rising 0 (take n ws) && zeros (drop (n + 1) (take 2049 (n ∷ ws)))) (sym (leb-suc-suc 2048 (length ws)))

pub listed_is : (index : List ℕ) → in_order index ≡ true → listed index ≡ some (serials_in index)
unfolding in_order listed serials_in present
listed_is [] e = absurd (let z : ◌≡◌ {A = ℕ} 0 1 = cc in omega arith)
listed_is (n ∷ ws) e = passes (leb 2048 (length ws) && leb n 2047 && rising 0 (take n ws) && zeros (drop n (take 2048 ws))) (take n ws) e

not_present : (o : Option (List ℕ)) → present o ≡ false → o ≡ none
unfolding present
not_present none e = refl
not_present (some ss) e = absurd (let z : ◌≡◌ {A = ℕ} 0 1 = cc in omega arith)

pub unlisted_is : (index : List ℕ) → in_order index ≡ false → listed index ≡ none
unfolding in_order
unlisted_is index e = not_present (listed index) e

pub lists : (index : List ℕ) → in_order index ≡ true → Lists index (serials_in index)
lists index e = listed_lists index (serials_in index) (listed_is index e)

-- ---- the test as the code goes

module _ (index : List ℕ) where
  pub order_short : length index < 2049 → false ≡ in_order index
  order_short h = sym (order_is index ∙ rw (lt-leb 2049 (length index) h))

  module _ (long : 2049 ≤ length index) (n : ℕ) (e : n ≡ get_or index 0 0) where
    pub order_many : 2047 < n → false ≡ in_order index
    order_many h = sym (order_is index ∙ rw (← e, le-leb 2049 (length index) long, lt-leb n 2047 h))

    pub order_by : n ≤ 2047 → in_order index ≡ (rising 0 (take n (drop 1 index)) && zeros (drop (n + 1) (take 2049 index)))
    order_by h = order_is index ∙ rw (← e, le-leb 2049 (length index) long, le-leb n 2047 h)

    listed_words : take (n + 1 - 1) (drop 1 index) ≡ take n (drop 1 index)
    listed_words = ap (λ k. take k (drop 1 index)) (let z : n + 1 - 1 ≡ n = omega arith in z)

    pub order_falls : n ≤ 2047 → rising 0 (take (n + 1 - 1) (drop 1 index)) ≡ false → false ≡ in_order index
    order_falls h f = sym (order_by h ∙ rw (sym (ap (rising 0) listed_words) ∙ f))

    pub order_rises :
        n ≤ 2047 → rising 0 (take (n + 1 - 1) (drop 1 index)) ≡ true →
        (b : Bool) → b ≡ list_all (λ w. eqb w 0) (between (n + 1) 2049 index) → b ≡ in_order index
    order_rises h f b q =
        q ∙ zeros_are (between (n + 1) 2049 index) ∙ ap zeros (between_is index (n + 1) 2049)
        ∙ sym (order_by h ∙ rw (sym (ap (rising 0) listed_words) ∙ f))

pub laid_back : (index : List ℕ) → in_order index ≡ true → index ≡ over (index_of (serials_in index)) index
laid_back index e = (lists index e).laid

-- ---- an index in order: long enough, its first word the count of its serials, and its words laid out

module _ (index : List ℕ) (e : in_order index ≡ true) where
  pub order_long : 2049 ≤ length index
  order_long = (lists index e).long

  pub order_count : get_or index 0 0 ≡ length (serials_in index)
  unfolding index_of
  order_count = ap (λ ws. get_or ws 0 0) (lists index e).laid

  pub order_few : get_or index 0 0 ≤ 2047
  order_few = omega (arith, order_count, (lists index e).few)

pub laid_as : (ss index : List ℕ) → length ss ≤ 2048 → over (index_of ss) index ≡ length ss ∷ (ss ++ (replicate (2048 - length ss) 0 ++ drop 2049 index))
unfolding index_of
laid_as ss index h =
    ap (λ k. length ss ∷ ((ss ++ replicate (2048 - length ss) 0) ++ drop k index)) (index_of_length ss h)
    ∙ ap (λ ws. length ss ∷ ws) (append_assoc ss (replicate (2048 - length ss) 0) (drop 2049 index))
