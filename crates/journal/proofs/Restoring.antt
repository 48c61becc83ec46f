-- Taking back: the code's tests are the definitions' tests, what it puts together is what they put back, and each refusal is theirs.
-- Assumes nothing.
use Prim.Native.Nat.{ℕ, ◌+◌, ◌-◌, ◌≤◌, ◌<◌}
use native.Mathlib.Omega.{arith}
use mathlib.Core.Path.{◌≡◌, refl, sym, ap, subst, ◌∙◌}
use mathlib.Core.Bool.{Bool, true, false, true≢false, ◌&&◌}
use mathlib.Core.Option.{Option, none, some}
use mathlib.Core.List.{List, [], ◌∷◌, ◌++◌}
use lib.Dec.{T, leb, eqb}
use lib.ListN.{length, take, drop, length-append, length-drop}
use lib.Seq.{length-take-le, take_all, take_at, drop-drop}
use borrow.Author.Tests.{lt-leb, le-leb, leb-true, eq-eqb, ne_eqb}
use Rattle.sock.specs.Configuration.{Config, standard, read_config, guarded, also}
use Rattle.sock.specs.Calls.{unreadable, unmatched, short, Refusal, number, Result, refused, done, ◌>>=◌, ◌>>◌, ◌!◌, ◌unless◌, over, passed, check_readable}
use Rattle.sock.specs.Journal.{alike, between, sound, read_journal, same_words, left, put_back, restored, take_back, Taken, taken_of, restored_over, take_back_answer, take_back_output}
use Rattle.sock.proofs.Logic.{and_left, and_right, test_true, true_test}
use Rattle.sock.proofs.Journal.{alike_take, same_itself, same_words_lem, Matches, matches}
use Rattle.sock.proofs.ByteWords.{no_config}
use Rattle.std.specs.Prelude.{Result as Either, Ok, Err}
use Rattle.std.specs.Result.{is_err}
use Rattle.layout.specs.Refusals.{number_in, refusal_number}
use Rattle.layout.specs.declared.refusal.Refusal.{Refusal as Named}
use Rattle.writers.specs.Writing.{pasted}
use Rattle.journal.specs.declared.back.Counts.{Counts}
use Rattle.journal.specs.Answers.{taken_as}
use Rattle.journal.specs.Back.{counts_of, said, sound_by, Fits, put_w, checked_back}
use Rattle.writers.proofs.Over.{pasted_over, pasted_first}
use Rattle.stepping.proofs.Refused.{is_refused}

-- ---- the tests

alike_itself : (x : List ℕ) → alike x x ≡ length x
unfolding alike
alike_itself [] = refl
alike_itself (w ∷ x) = rw (eq-eqb w w refl, alike_itself x)

-- as many words alike as there are, exactly if they are the same
pub same_alike : (n : ℕ) (x y : List ℕ) → length x ≡ n → length y ≡ n → eqb (alike x y) n ≡ same_words x y
same_alike n x y a b = by (same_words x y) refl
  where
    by : (t : Bool) → same_words x y ≡ t → eqb (alike x y) n ≡ t
    by true e =
        let q : x ≡ y = same_words_lem x y e in
        eq-eqb (alike x y) n (subst (λ z. alike x z ≡ n) q (alike_itself x ∙ a))
    by false e =
        ne_eqb (alike x y) n λ h.
        let t : take (alike x y) x ≡ take (alike x y) y = alike_take x y in
        let q : x ≡ y = sym (take_all (alike x y) x (omega arith)) ∙ t ∙ take_all (alike x y) y (omega arith) in
        subst T (sym (subst (λ z. same_words x z ≡ true) q (same_itself x)) ∙ e) tt

-- the alike counts are in both lengths, and nothing is missing
module _ (c : Counts) (n : ℕ) where
  pub record InBoth : Type 0 where
    pub in_old : c.first + c.last ≤ c.old
    pub in_new : c.first + c.last ≤ c.new
    pub all : c.old - (c.first + c.last) + (c.new - (c.first + c.last)) ≤ n

  pub in_both : sound_by c n ≡ true → InBoth
  unfolding sound_by
  in_both e =
      let o : Bool = leb (c.first + c.last) c.old in
      let p : Bool = leb (c.first + c.last) c.new in
      let q : Bool = leb (c.old - (c.first + c.last) + (c.new - (c.first + c.last))) n in
      let t : T (o && p && q) = true_test e in
      record {
        in_old = leb-true _ _ (test_true o (and_left o p (and_left (o && p) q t)));
        in_new = leb-true _ _ (test_true p (and_right o p (and_left (o && p) q t)));
        all = leb-true _ _ (test_true q (and_right (o && p) q t));
      }

module _ (c : Counts) (ws journal : List ℕ) where
  pub sound_as : sound_by c (length journal - 4) ≡ sound (said c journal)
  unfolding sound_by sound
  sound_as =
      ap
      (λ (n : ℕ). leb (c.first + c.last) c.old && leb (c.first + c.last) c.new && leb (c.old - (c.first + c.last) + (c.new - (c.first + c.last))) n)
      (sym (length-drop 4 journal))

  pub left_other : (length ws ≡ c.new → ⊥) → false ≡ left (said c journal) ws
  unfolding left
  left_other h = rw (ne_eqb (length ws) c.new h)

  -- the new words are inside the journal
  pub inside_journal : (o n m : ℕ) → o + n ≤ length journal - 4 → 4 ≤ length journal → m ≡ n → 4 + o + m ≤ length journal
  inside_journal o n m h g e = omega arith

  -- by the words alike in the two parts
  pub left_by :
      length ws ≡ c.new → (x y : List ℕ) (n : ℕ) → n ≡ c.new - (c.first + c.last) → c.first + n ≤ length ws →
      4 + (c.old - (c.first + c.last)) + n ≤ length journal →
      x ≡ take n (drop c.first ws) → y ≡ take n (drop (4 + (c.old - (c.first + c.last))) journal) →
      eqb (alike x y) n ≡ left (said c journal) ws
  unfolding left between
  left_by h x y n m i j p q =
      let from = 4 + (c.old - (c.first + c.last)) in
      let a : length x ≡ n = ap length p ∙ length-take-le n (drop c.first ws) (omega (arith, length-drop c.first ws)) in
      let b : length y ≡ n = ap length q ∙ length-take-le n (drop from journal) (omega (arith, length-drop from journal)) in
      let k : length ws - (c.first + c.last) ≡ n = omega arith in
      let d : drop from journal ≡ drop (c.old - (c.first + c.last)) (drop 4 journal) = sym (drop-drop (c.old - (c.first + c.last)) 4 journal) in
      same_alike n x y a b
      ∙ ap (λ (u : List ℕ). same_words u y) (p ∙ ap (λ (i : ℕ). take i (drop c.first ws)) (sym k))
      ∙ ap (λ (u : List ℕ). same_words (take (length ws - (c.first + c.last)) (drop c.first ws)) u)
      (q ∙ ap (take n) d ∙ ap (λ (i : ℕ). take i (drop (c.old - (c.first + c.last)) (drop 4 journal))) m)
      ∙ sym (rw (eq-eqb (length ws) c.new h))

  pub fits_matches : Fits c ws journal → Matches (said c journal) ws
  fits_matches f = matches (said c journal) ws (true_test f.is_sound) (true_test f.is_left)

  -- ---- what is put together

  module _ (f : Fits c ws journal) where
    m : Matches (said c journal) ws
    m = fits_matches f

    pub put_laid : (scratch : List ℕ) → c.old ≤ length scratch → put_w c ws journal scratch ≡ over (put_back (said c journal) ws) scratch
    unfolding put_w put_back
    put_laid scratch room =
        let was = c.old - (c.first + c.last) in
        let i : c.first + c.last ≤ c.old = m.in_old in
        let j : c.first + c.last ≤ c.new = m.in_new in
        let w : length ws ≡ c.new = m.new_length_lem in
        let b : length (drop 4 journal) ≡ length journal - 4 = length-drop 4 journal in
        let g : was + (c.new - (c.first + c.last)) ≤ length (drop 4 journal) = m.none_missing in
        let n : 4 ≤ length journal = f.not_cut in
        let e : 4 + was - 4 ≡ was = omega arith in
        let l : length (take c.first ws) ≡ c.first = length-take-le c.first ws (omega arith) in
        let l2 : length (take c.first ws ++ take was (drop 4 journal)) ≡ c.first + was =
        length-append (take c.first ws) (take was (drop 4 journal))
        ∙ omega (arith, l, length-take-le was (drop 4 journal) (omega arith)) in
        let all : take (length ws - (length ws - c.last)) (drop (length ws - c.last) ws) ≡ drop (length ws - c.last) ws =
        take_all (length ws - (length ws - c.last)) (drop (length ws - c.last) ws) (omega (arith, length-drop (length ws - c.last) ws)) in
        ap
        (λ (u : List ℕ). pasted ws (length ws - c.last) (length ws) (pasted journal 4 (4 + was) u c.first) (c.first + was))
        (pasted_first ws c.first scratch (omega arith) (omega arith))
        ∙ ap (λ (u : List ℕ). pasted ws (length ws - c.last) (length ws) u (c.first + was))
        (pasted_over journal 4 (4 + was) (take c.first ws) scratch c.first l (omega arith) (omega arith) (omega arith)
        ∙ ap (λ (k : ℕ). over (take c.first ws ++ take k (drop 4 journal)) scratch) e)
        ∙ pasted_over ws (length ws - c.last) (length ws) (take c.first ws ++ take was (drop 4 journal)) scratch (c.first + was) l2 (omega arith) (omega arith) (omega arith)
        ∙ ap (λ (u : List ℕ). over (take c.first ws ++ take was (drop 4 journal) ++ u) scratch) all

    pub old_length : length (put_back (said c journal) ws) ≡ c.old
    unfolding put_back
    old_length =
        let was = c.old - (c.first + c.last) in
        length-append (take c.first ws ++ take was (drop 4 journal)) (drop (length ws - c.last) ws)
        ∙ omega (
          arith,
          m.in_old,
          m.in_new,
          m.new_length_lem,
          m.none_missing,
          length-append (take c.first ws) (take was (drop 4 journal)),
          length-take-le c.first ws (omega (arith, m.in_new, m.new_length_lem)),
          length-take-le was (drop 4 journal) (omega (arith, m.none_missing)),
          length-drop (length ws - c.last) ws,
        )

-- the first words of scratch are what was put together
pub put_words :
    (c : Counts) (ws journal scratch after : List ℕ) (n : ℕ) → Fits c ws journal → c.old ≤ length scratch → n ≡ c.old →
    after ≡ put_w c ws journal scratch → take n after ≡ put_back (said c journal) ws
put_words c ws journal scratch after n f room e q =
    ap (take n) (q ∙ put_laid c ws journal f scratch room)
    ∙ take_at (put_back (said c journal) ws) (drop (length (put_back (said c journal) ws)) scratch) n (old_length c ws journal f ∙ sym e)

-- ---- what is restored

-- what the code answers and leaves of the output
pub record Gives (x : Result (List ℕ)) (r : Taken) (before after : List ℕ) : Type 0 where
  pub answer : r ≡ taken_of x
  pub output : after ≡ restored_over x before

pub gives_refused : {x : Result (List ℕ)} {r : Refusal} (t : Taken) (out : List ℕ) → x ≡ refused r → t ≡ record { number = number r; length = 0 } → Gives x t out out
unfolding taken_of restored_over
gives_refused t out e q = record { answer = q ∙ sym (rw e); output = sym (rw e) }

pub gives_done : {x : Result (List ℕ)} {old : List ℕ} (t : Taken) (out after : List ℕ) → x ≡ done old → t ≡ record { number = 0; length = length old } → after ≡ over old out → Gives x t out after
unfolding taken_of restored_over
gives_done t out after e q w = record { answer = q ∙ sym (rw e); output = w ∙ sym (rw e) }

-- whether the words are readable, by the code
pub unread_err : (r : Either (Unit {0}) Named) (n : ℕ) → number_in r ≡ n → is_err r ≡ true → n ≡ 0 → ⊥
unread_err (Ok a) n e h = absurd (true≢false (sym h))
unread_err (Err r) n e h = λ z. is_refused r (e ∙ z)

pub read_ok : (r : Either (Unit {0}) Named) (n : ℕ) → number_in r ≡ n → is_err r ≡ false → n ≡ 0
read_ok (Ok a) n e h = sym e
read_ok (Err r) n e h = absurd (true≢false h)

module _ (old : List ℕ) (room : ℕ) where
  read_by : (o : Option Config) → passed (unreadable ! o) ≡ 0 → (c : Config) × (o ≡ some c)
  unfolding passed ◌!◌
  read_by none e = absurd (omega arith)
  read_by (some c) e = (c, refl)

  unread_by : (o : Option Config) → (passed (unreadable ! o) ≡ 0 → ⊥) → o ≡ none
  unfolding passed ◌!◌
  unread_by none e = refl
  unread_by (some c) e = absurd (e refl)

  unread : read_config standard old ≡ none → checked_back standard old room ≡ refused unmatched
  unfolding checked_back ◌>>=◌ ◌!◌
  unread e = rw e

  pub not_read : (check_readable standard old ≡ 0 → ⊥) → checked_back standard old room ≡ refused unmatched
  unfolding check_readable
  not_read h = unread (unread_by (read_config standard old) h)

  pub not_long : 8192 < length old → checked_back standard old room ≡ refused unmatched
  not_long h = unread (no_config standard old h)

  pub not_fitting : check_readable standard old ≡ 0 → room < length old → checked_back standard old room ≡ refused short
  unfolding check_readable checked_back ◌>>=◌ ◌>>◌ ◌!◌ ◌unless◌
  not_fitting h g = let (c, e) = read_by (read_config standard old) h in rw (e, lt-leb (length old) room g)

  pub is_restored : check_readable standard old ≡ 0 → length old ≤ room → checked_back standard old room ≡ done old
  unfolding check_readable checked_back ◌>>=◌ ◌>>◌ ◌!◌ ◌unless◌
  is_restored h g = let (c, e) = read_by (read_config standard old) h in rw (e, le-leb (length old) room g)

-- ---- the whole

four_read :
    (a b f l : ℕ) (us : List ℕ) →
    read_journal (a ∷ b ∷ f ∷ l ∷ us)
    ≡ guarded (sound (said (counts_of (a ∷ b ∷ f ∷ l ∷ us)) (a ∷ b ∷ f ∷ l ∷ us))) (some (said (counts_of (a ∷ b ∷ f ∷ l ∷ us)) (a ∷ b ∷ f ∷ l ∷ us)))
unfolding read_journal counts_of
four_read a b f l us = refl

module _ (ws journal : List ℕ) (room : ℕ) where
  pub back_unreadable : (check_readable standard ws ≡ 0 → ⊥) → take_back standard ws journal room ≡ refused unreadable
  unfolding check_readable take_back ◌>>=◌ ◌!◌
  back_unreadable h = rw (unread_by ws room (read_config standard ws) h)

  back_from : check_readable standard ws ≡ 0 → take_back standard ws journal room ≡ ((unmatched ! restored journal ws) >>= λ old. checked_back standard old room)
  unfolding check_readable take_back checked_back ◌>>=◌ ◌!◌
  back_from h = let (c, e) = read_by ws room (read_config standard ws) h in rw e

  none_back : restored journal ws ≡ none → ((unmatched ! restored journal ws) >>= λ old. checked_back standard old room) ≡ refused unmatched
  unfolding ◌>>=◌ ◌!◌
  none_back e = rw e

  some_back : (old : List ℕ) → restored journal ws ≡ some old → ((unmatched ! restored journal ws) >>= λ old. checked_back standard old room) ≡ checked_back standard old room
  unfolding ◌>>=◌ ◌!◌
  some_back old e = rw e

  reads_as : 4 ≤ length journal → read_journal journal ≡ guarded (sound (said (counts_of journal) journal)) (some (said (counts_of journal) journal))
  reads_as h = by journal h
    where
      by : (j : List ℕ) → 4 ≤ length j → read_journal j ≡ guarded (sound (said (counts_of j) j)) (some (said (counts_of j) j))
      by [] h = absurd (omega arith)
      by (a ∷ []) h = absurd (omega arith)
      by (a ∷ b ∷ []) h = absurd (omega arith)
      by (a ∷ b ∷ f ∷ []) h = absurd (omega arith)
      by (a ∷ b ∷ f ∷ l ∷ us) h = four_read a b f l us

  cut_none : (j : List ℕ) → length j < 4 → read_journal j ≡ none
  unfolding read_journal
  cut_none [] h = refl
  cut_none (a ∷ []) h = refl
  cut_none (a ∷ b ∷ []) h = refl
  cut_none (a ∷ b ∷ f ∷ []) h = refl
  cut_none (a ∷ b ∷ f ∷ l ∷ us) h = absurd (omega arith)

  pub back_cut : check_readable standard ws ≡ 0 → length journal < 4 → take_back standard ws journal room ≡ refused unmatched
  unfolding restored also
  back_cut h g = back_from h ∙ none_back (rw (cut_none journal g))

  module _ (c : Counts) (q : c ≡ counts_of journal) (h : check_readable standard ws ≡ 0) (g : 4 ≤ length journal) where
    as_said : read_journal journal ≡ guarded (sound (said c journal)) (some (said c journal))
    as_said = subst (λ c. read_journal journal ≡ guarded (sound (said c journal)) (some (said c journal))) (sym q) (reads_as g)

    pub back_unsound : sound (said c journal) ≡ false → take_back standard ws journal room ≡ refused unmatched
    unfolding restored also guarded
    back_unsound e = back_from h ∙ none_back (rw (as_said, e))

    pub back_left : sound (said c journal) ≡ true → left (said c journal) ws ≡ false → take_back standard ws journal room ≡ refused unmatched
    unfolding restored also guarded
    back_left e d = back_from h ∙ none_back (rw (as_said, e, d))

    pub back_checked : Fits c ws journal → take_back standard ws journal room ≡ checked_back standard (put_back (said c journal) ws) room
    unfolding restored also guarded
    back_checked f = back_from h ∙ some_back (put_back (said c journal) ws) (rw (as_said, f.is_sound, f.is_left))

-- ---- in the code's terms

pub gives_same :
    {x y : Result (List ℕ)} (t : Taken) (out after : List ℕ) → x ≡ y → t ≡ taken_of y → after ≡ restored_over y out → Gives x t out after
gives_same t out after e a b =
    record { answer = a ∙ ap (λ z. taken_of z) (sym e); output = b ∙ ap (λ z. restored_over z out) (sym e) }

module _ (ws journal out : List ℕ) (t : Taken) (after : List ℕ) (g : Gives (take_back standard ws journal (length out)) t out after) where
  pub back_answer : t ≡ take_back_answer standard ws journal out
  unfolding take_back_answer
  back_answer = g.answer

  pub back_output : after ≡ take_back_output standard ws journal out
  unfolding take_back_output
  back_output = g.output

-- words that are not readable
module _ (ws journal out : List ℕ) (r : Named) (e : refusal_number r ≡ check_readable standard ws) where
  refused_unread : take_back standard ws journal (length out) ≡ refused unreadable
  refused_unread = back_unreadable ws journal (length out) (λ z. is_refused r (e ∙ z))

  its_number : refusal_number r ≡ 1
  unfolding check_readable passed ◌!◌
  its_number = by (read_config standard ws) e
    where
      by : (o : Option Config) → refusal_number r ≡ passed (unreadable ! o) → refusal_number r ≡ 1
      by none q = q
      by (some c) q = absurd (is_refused r q)

  pub unread_answer : taken_as (Err r) ≡ take_back_answer standard ws journal out
  unfolding take_back_answer taken_of
  unread_answer = ap (λ (n : ℕ). record { number = n; length = 0 }) its_number ∙ ap taken_of (sym refused_unread)

  pub unread_output : out ≡ take_back_output standard ws journal out
  unfolding take_back_output restored_over
  unread_output = ap (λ (x : Result (List ℕ)). restored_over x out) (sym refused_unread)
