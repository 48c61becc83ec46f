-- The journal's laws: what two configurations have alike, that a journal with anything behind it restores the earlier one, how long it is,
-- and what a step that is lent a journal has of the step without one.
-- Assumes nothing.
use Prim.Native.Nat.{ℕ, zero, suc, ◌+◌, ◌*◌, ◌-◌, ◌≤◌}
use native.Mathlib.Omega.{arith}
use mathlib.Core.Path.{◌≡◌, refl, sym, ap, subst, ◌∙◌}
use mathlib.Core.Bool.{Bool, true, false, ◌&&◌, cond}
use mathlib.Core.Option.{Option, none, some}
use mathlib.Core.List.{List, [], ◌∷◌, ◌++◌, append_assoc, reverse, reverse-append, reverse-reverse}
use lib.Dec.{T, leb, eqb}
use lib.ListN.{length, take, drop, length-append, length-drop, length-reverse, take-append-drop}
use lib.Seq.{length-take-le, take_at, drop_at, drop-drop}
use borrow.Author.Tests.{le-leb, leb-true, eq-eqb, eqb-true}
use Rattle.sock.specs.Configuration.{Limits, encode, guarded, also, read_config, Config}
use Rattle.sock.specs.Calls.{Refusal, journal_short, unreadable, unmatched, short, Result, refused, done, ◌>>=◌, ◌>>◌, ◌!◌, ◌unless◌, Numbers, Stepped, step}
use Rattle.sock.specs.Journal.{alike, alike_behind, between, journal_by, journal_of, journal_step, lent_step, Journal, changed_old, changed_new, sound, read_journal, same_words, left, put_back, restored, take_back}
use Rattle.sock.specs.Runs.{room_for}
use Rattle.sock.proofs.Logic.{and_left, and_right, test_true, true_test}

-- ---- the first words alike

pub alike_left : (xs ys : List ℕ) → alike xs ys ≤ length xs
unfolding alike
alike_left [] ys = omega arith
alike_left (x ∷ xs) [] = omega arith
alike_left (x ∷ xs) (y ∷ ys) = by (eqb x y) (alike_left xs ys)
  where
    by : (b : Bool) → alike xs ys ≤ length xs → cond b (suc (alike xs ys)) 0 ≤ suc (length xs)
    by true h = omega arith
    by false h = omega arith

pub alike_right : (xs ys : List ℕ) → alike xs ys ≤ length ys
unfolding alike
alike_right [] ys = omega arith
alike_right (x ∷ xs) [] = omega arith
alike_right (x ∷ xs) (y ∷ ys) = by (eqb x y) (alike_right xs ys)
  where
    by : (b : Bool) → alike xs ys ≤ length ys → cond b (suc (alike xs ys)) 0 ≤ suc (length ys)
    by true h = omega arith
    by false h = omega arith

pub alike_take : (xs ys : List ℕ) → take (alike xs ys) xs ≡ take (alike xs ys) ys
unfolding alike
alike_take [] ys = refl
alike_take (x ∷ xs) [] = refl
alike_take (x ∷ xs) (y ∷ ys) = by (eqb x y) refl (alike_take xs ys)
  where
    by :
        (b : Bool) → eqb x y ≡ b → take (alike xs ys) xs ≡ take (alike xs ys) ys →
        take (cond b (suc (alike xs ys)) 0) (x ∷ xs) ≡ take (cond b (suc (alike xs ys)) 0) (y ∷ ys)
    by true e h = ap (λ (z : ℕ). z ∷ take (alike xs ys) xs) (eqb-true x y e) ∙ ap (λ (l : List ℕ). y ∷ l) h
    by false e h = refl

-- a first word alike counts
pub alike_cons : (x : ℕ) (xs ys : List ℕ) → 1 ≤ alike (x ∷ xs) (x ∷ ys)
unfolding alike
alike_cons x xs ys = rw (eq-eqb x x refl) (omega arith)

-- ---- the last words alike behind them

take_reverse : (l : ℕ) (xs : List ℕ) → l ≤ length xs → take l (reverse xs) ≡ reverse (drop (length xs - l) xs)
take_reverse l xs h =
    let n = length xs - l in
    let e : reverse xs ≡ reverse (drop n xs) ++ reverse (take n xs) =
    ap reverse (sym (take-append-drop n xs)) ∙ reverse-append (take n xs) (drop n xs) in
    let m : length (reverse (drop n xs)) ≡ l = length-reverse (drop n xs) ∙ length-drop n xs ∙ omega arith in
    ap (take l) e ∙ take_at (reverse (drop n xs)) (reverse (take n xs)) l m

reverse_same : (xs ys : List ℕ) → reverse xs ≡ reverse ys → xs ≡ ys
reverse_same xs ys e = sym (reverse-reverse xs) ∙ ap reverse e ∙ reverse-reverse ys

module _ (f : ℕ) (xs ys : List ℕ) (h : f ≤ length xs) (h' : f ≤ length ys) where
  pub behind_left : f + alike_behind f xs ys ≤ length xs
  unfolding alike_behind
  behind_left =
      let a = alike_left (reverse (drop f xs)) (reverse (drop f ys)) in
      omega (arith, a, length-reverse (drop f xs), length-drop f xs)

  pub behind_right : f + alike_behind f xs ys ≤ length ys
  unfolding alike_behind
  behind_right =
      let a = alike_right (reverse (drop f xs)) (reverse (drop f ys)) in
      omega (arith, a, length-reverse (drop f ys), length-drop f ys)

  last_of : (zs : List ℕ) (l : ℕ) → f + l ≤ length zs → take l (reverse (drop f zs)) ≡ reverse (drop (length zs - l) zs)
  last_of zs l g =
      let m : length (drop f zs) ≡ length zs - f = length-drop f zs in
      let e : f + (length (drop f zs) - l) ≡ length zs - l = omega arith in
      take_reverse l (drop f zs) (omega arith) ∙ ap reverse (drop-drop (length (drop f zs) - l) f zs ∙ ap (λ (n : ℕ). drop n zs) e)

  pub behind_drop : drop (length xs - alike_behind f xs ys) xs ≡ drop (length ys - alike_behind f xs ys) ys
  unfolding alike_behind
  behind_drop =
      let l = alike (reverse (drop f xs)) (reverse (drop f ys)) in
      reverse_same _ _ (sym (last_of xs l behind_left) ∙ alike_take (reverse (drop f xs)) (reverse (drop f ys)) ∙ last_of ys l behind_right)

-- ---- a journal restores

pub same_itself : (xs : List ℕ) → same_words xs xs ≡ true
unfolding same_words
same_itself [] = refl
same_itself (x ∷ xs) = rw (eq-eqb x x refl, same_itself xs)

-- two configurations with first and last words alike, counted so that the counts do not overlap
pub record Alike (f l : ℕ) (old new : List ℕ) : Type 0 where
  pub in_old : f + l ≤ length old
  pub in_new : f + l ≤ length new
  pub first : take f old ≡ take f new
  pub last : drop (length old - l) old ≡ drop (length new - l) new

pub journal_alike : (old new : List ℕ) → Alike (alike old new) (alike_behind (alike old new) old new) old new
journal_alike old new =
    let f = alike old new in
    let a = alike_left old new in
    let b = alike_right old new in
    record {
      in_old = behind_left f old new a b;
      in_new = behind_right f old new a b;
      first = alike_take old new;
      last = behind_drop f old new a b;
    }

pub between_length : (f l : ℕ) (ws : List ℕ) → f + l ≤ length ws → length (between f l ws) ≡ length ws - (f + l)
unfolding between
between_length f l ws h = length-take-le (length ws - (f + l)) (drop f ws) (omega (arith, length-drop f ws))

-- the words between, with what stands before and behind
pub parted : (f l : ℕ) (ws : List ℕ) → f + l ≤ length ws → take f ws ++ between f l ws ++ drop (length ws - l) ws ≡ ws
unfolding between
parted f l ws h =
    let m = length ws - (f + l) in
    let e : f + m ≡ length ws - l = omega arith in
    let d : drop (length ws - l) ws ≡ drop m (drop f ws) = ap (λ (n : ℕ). drop n ws) (sym e) ∙ sym (drop-drop m f ws) in
    ap (λ (r : List ℕ). take f ws ++ take m (drop f ws) ++ r) d
    ∙ append_assoc (take f ws) (take m (drop f ws)) (drop m (drop f ws))
    ∙ ap (λ (r : List ℕ). take f ws ++ r) (take-append-drop m (drop f ws))
    ∙ take-append-drop f ws

module _ (f l : ℕ) (old new rest : List ℕ) (a : Alike f l old new) where
  said : Journal
  said = record { old_length = length old; new_length = length new; first = f; last = l; behind = (between f l old ++ between f l new) ++ rest }

  u : length (between f l old) ≡ length old - (f + l)
  u = between_length f l old a.in_old

  v : length (between f l new) ≡ length new - (f + l)
  v = between_length f l new a.in_new

  is_sound : sound said ≡ true
  unfolding sound said
  is_sound =
      let n : length old - (f + l) + (length new - (f + l)) ≤ length ((between f l old ++ between f l new) ++ rest) =
      omega (arith, u, v, length-append (between f l old ++ between f l new) rest, length-append (between f l old) (between f l new)) in
      rw (le-leb (f + l) (length old) a.in_old, le-leb (f + l) (length new) a.in_new, le-leb _ _ n)

  reads : read_journal (journal_by f l old new ++ rest) ≡ some said
  unfolding read_journal journal_by said guarded
  reads = rw is_sound

  became : take (length new - (f + l)) (drop (length old - (f + l)) ((between f l old ++ between f l new) ++ rest)) ≡ between f l new
  became =
      ap (λ (r : List ℕ). take (length new - (f + l)) (drop (length old - (f + l)) r)) (append_assoc (between f l old) (between f l new) rest)
      ∙ ap (take (length new - (f + l))) (drop_at (between f l old) (between f l new ++ rest) (length old - (f + l)) u)
      ∙ take_at (between f l new) rest (length new - (f + l)) v

  is_left : left said new ≡ true
  unfolding left said
  is_left = rw (eq-eqb (length new) (length new) refl, became, same_itself (between f l new))

  was : take (length old - (f + l)) ((between f l old ++ between f l new) ++ rest) ≡ between f l old
  was =
      ap (take (length old - (f + l))) (append_assoc (between f l old) (between f l new) rest)
      ∙ take_at (between f l old) (between f l new ++ rest) (length old - (f + l)) u

  puts : put_back said new ≡ old
  unfolding put_back said
  puts =
      ap (λ (r : List ℕ). take f new ++ r ++ drop (length new - l) new) was
      ∙ ap (λ (r : List ℕ). r ++ between f l old ++ drop (length new - l) new) (sym a.first)
      ∙ ap (λ (r : List ℕ). take f old ++ between f l old ++ r) (sym a.last)
      ∙ parted f l old a.in_old

  -- counts that are not the greatest restore as well
  pub restored_by : restored (journal_by f l old new ++ rest) new ≡ some old
  unfolding restored also guarded
  restored_by = rw (reads, is_left, puts)

-- The journal of two configurations, whatever is lent behind it, restores the earlier one from the later
pub restored_journal : (old new rest : List ℕ) → restored (journal_of old new ++ rest) new ≡ some old
unfolding journal_of
restored_journal old new rest = restored_by (alike old new) (alike_behind (alike old new) old new) old new rest (journal_alike old new)

-- ---- taking back with the journal of two readable configurations

module _ (limits : Limits) (old new rest : List ℕ) {c d : Config} (read : read_config limits old ≡ some c) (reads-new : read_config limits new ≡ some d) where
  -- with output enough it is accepted and gives the earlier one exactly
  pub taken_back : (room : ℕ) → length old ≤ room → take_back limits new (journal_of old new ++ rest) room ≡ done old
  unfolding take_back ◌>>=◌ ◌>>◌ ◌!◌ ◌unless◌
  taken_back room h = rw (reads-new, restored_journal old new rest, read, le-leb (length old) room h)

pub refused_done : {A : Type 0} {r : Refusal} {a : A} → refused r ≡ done a → ⊥
refused_done e = let z : ◌≡◌ {A = ℕ} 0 1 = cc in omega arith

-- whatever is accepted is what was restored
module _ (limits : Limits) (room : ℕ) (old : List ℕ) where
  taken_last : (o : Option Config) (b : Bool) (us : List ℕ) → ((unmatched ! o) >>= λ d. ◌>>◌ (short unless b) (done us)) ≡ done old → us ≡ old
  unfolding ◌>>=◌ ◌>>◌ ◌!◌ ◌unless◌
  taken_last none b us e = absurd (refused_done e)
  taken_last (some d) true us e = cc
  taken_last (some d) false us e = absurd (refused_done e)

  taken_by :
      (o : Option Config) (p : Option (List ℕ)) →
      ((unreadable ! o) >>= λ c.
      (unmatched ! p) >>= λ us. (unmatched ! read_config limits us) >>= λ d. ◌>>◌ (short unless leb (length us) room) (done us))
      ≡ done old →
      p ≡ some old
  unfolding ◌>>=◌ ◌!◌
  taken_by none p e = absurd (refused_done e)
  taken_by (some c) none e = absurd (refused_done e)
  taken_by (some c) (some us) e = ap some (taken_last (read_config limits us) (leb (length us) room) us e)

  pub taken_restored : (ws journal : List ℕ) → take_back limits ws journal room ≡ done old → restored journal ws ≡ some old
  unfolding take_back
  taken_restored ws journal e = taken_by (read_config limits ws) (restored journal ws) e

-- ---- what is accepted

pub same_words_lem : (xs ys : List ℕ) → same_words xs ys ≡ true → xs ≡ ys
unfolding same_words
same_words_lem [] [] e = refl
same_words_lem [] (y ∷ ys) e = absurd (subst T (sym e) tt)
same_words_lem (x ∷ xs) [] e = absurd (subst T (sym e) tt)
same_words_lem (x ∷ xs) (y ∷ ys) e =
    let t : T (eqb x y && same_words xs ys) = true_test e in
    let p : x ≡ y = eqb-true x y (test_true _ (and_left (eqb x y) (same_words xs ys) t)) in
    let q : xs ≡ ys = same_words_lem xs ys (test_true _ (and_right (eqb x y) (same_words xs ys) t)) in
    cc

-- a journal of what it restores and of the words that it was lent with, with some first and last words alike and anything behind it
pub record JournalFor (journal ws old : List ℕ) : Type 0 where
  pub first : ℕ
  pub last : ℕ
  pub rest : List ℕ
  pub both : Alike first last old ws
  pub words : journal ≡ journal_by first last old ws ++ rest

pub record Matches (j : Journal) (ws : List ℕ) : Type 0 where
  pub in_old : j.first + j.last ≤ j.old_length
  pub in_new : j.first + j.last ≤ j.new_length
  pub none_missing : changed_old j + changed_new j ≤ length j.behind
  pub new_length_lem : length ws ≡ j.new_length
  pub new_words : between j.first j.last ws ≡ take (changed_new j) (drop (changed_old j) j.behind)

pub matches : (j : Journal) (ws : List ℕ) → T (sound j) → T (left j ws) → Matches j ws
unfolding sound left
matches j ws a b =
    let o : Bool = leb (j.first + j.last) j.old_length in
    let n : Bool = leb (j.first + j.last) j.new_length in
    let i : Bool = leb (changed_old j + changed_new j) (length j.behind) in
    let e : Bool = eqb (length ws) j.new_length in
    let w : Bool = same_words (between j.first j.last ws) (take (changed_new j) (drop (changed_old j) j.behind)) in
    record {
      in_old = leb-true _ _ (test_true o (and_left o n (and_left (o && n) i a)));
      in_new = leb-true _ _ (test_true n (and_right o n (and_left (o && n) i a)));
      none_missing = leb-true _ _ (test_true i (and_right (o && n) i a));
      new_length_lem = eqb-true _ _ (test_true e (and_left e w b));
      new_words = same_words_lem _ _ (test_true w (and_right e w b));
    }

module _ (j : Journal) (ws : List ℕ) (m : Matches j ws) where
  f : ℕ
  f = j.first

  l : ℕ
  l = j.last

  was_length : length (take (changed_old j) j.behind) ≡ changed_old j
  was_length = length-take-le (changed_old j) j.behind (omega (arith, m.none_missing))

  front_length : length (take f ws) ≡ f
  unfolding f
  front_length = length-take-le j.first ws (omega (arith, m.in_new, m.new_length_lem))

  back_length : length (drop (length ws - l) ws) ≡ l
  unfolding l
  back_length = length-drop (length ws - j.last) ws ∙ omega (arith, m.in_new, m.new_length_lem)

  put_length : length (put_back j ws) ≡ j.old_length
  unfolding put_back f l
  put_length =
      length-append (take f ws ++ take (changed_old j) j.behind) (drop (length ws - l) ws)
      ∙ omega (arith, length-append (take f ws) (take (changed_old j) j.behind), was_length, front_length, back_length, m.in_old)

  put_first : take f (put_back j ws) ≡ take f ws
  unfolding put_back f
  put_first =
      ap (take f) (append_assoc (take f ws) (take (changed_old j) j.behind) (drop (length ws - j.last) ws))
      ∙ take_at (take f ws) (take (changed_old j) j.behind ++ drop (length ws - j.last) ws) f front_length

  put_behind : drop f (put_back j ws) ≡ take (changed_old j) j.behind ++ drop (length ws - l) ws
  unfolding put_back f l
  put_behind =
      ap (drop f) (append_assoc (take f ws) (take (changed_old j) j.behind) (drop (length ws - j.last) ws))
      ∙ drop_at (take f ws) (take (changed_old j) j.behind ++ drop (length ws - j.last) ws) f front_length

  put_between : between f l (put_back j ws) ≡ take (changed_old j) j.behind
  unfolding between f l
  put_between =
      ap (take (length (put_back j ws) - (f + l))) put_behind
      ∙ take_at (take (changed_old j) j.behind) (drop (length ws - l) ws) (length (put_back j ws) - (f + l))
      (was_length ∙ omega (arith, put_length))

  put_last : drop (length (put_back j ws) - l) (put_back j ws) ≡ drop (length ws - l) ws
  unfolding f l
  put_last =
      let e : length (put_back j ws) - l ≡ f + changed_old j = omega (arith, put_length, m.in_old) in
      ap (λ (n : ℕ). drop n (put_back j ws)) e
      ∙ sym (drop-drop (changed_old j) f (put_back j ws))
      ∙ ap (drop (changed_old j)) put_behind
      ∙ drop_at (take (changed_old j) j.behind) (drop (length ws - l) ws) (changed_old j) was_length

  put_alike : Alike f l (put_back j ws) ws
  unfolding f l
  put_alike =
      record {
        in_old = omega (arith, put_length, m.in_old);
        in_new = omega (arith, m.new_length_lem, m.in_new);
        first = put_first;
        last = put_last;
      }

  rest_of : List ℕ
  rest_of = drop (changed_new j) (drop (changed_old j) j.behind)

  behind_split : j.behind ≡ (between f l (put_back j ws) ++ between f l ws) ++ rest_of
  unfolding f l rest_of
  behind_split =
      sym
      (ap (λ (us : List ℕ). (us ++ between f l ws) ++ rest_of) put_between
      ∙ ap (λ (us : List ℕ). (take (changed_old j) j.behind ++ us) ++ rest_of) m.new_words
      ∙ append_assoc (take (changed_old j) j.behind) (take (changed_new j) (drop (changed_old j) j.behind)) rest_of
      ∙ ap (λ (us : List ℕ). take (changed_old j) j.behind ++ us) (take-append-drop (changed_new j) (drop (changed_old j) j.behind))
      ∙ take-append-drop (changed_old j) j.behind)

  put_journal : j.old_length ∷ j.new_length ∷ j.first ∷ j.last ∷ j.behind ≡ journal_by f l (put_back j ws) ws ++ rest_of
  unfolding journal_by f l
  put_journal =
      ap (λ (us : List ℕ). j.old_length ∷ j.new_length ∷ j.first ∷ j.last ∷ us) behind_split
      ∙ ap (λ (n : ℕ). n ∷ j.new_length ∷ j.first ∷ j.last ∷ ((between f l (put_back j ws) ++ between f l ws) ++ rest_of)) (sym put_length)
      ∙ ap (λ (n : ℕ). length (put_back j ws) ∷ n ∷ j.first ∷ j.last ∷ ((between f l (put_back j ws) ++ between f l ws) ++ rest_of)) (sym m.new_length_lem)

  put_for : JournalFor (j.old_length ∷ j.new_length ∷ j.first ∷ j.last ∷ j.behind) ws (put_back j ws)
  put_for = record { first = f; last = l; rest = rest_of; both = put_alike; words = put_journal }

pub some_same : {A : Type 0} {a b : A} → some a ≡ some b → a ≡ b
some_same e = cc

pub none_some : {A : Type 0} {a : A} → none ≡ some a → ⊥
none_some e = let z : ◌≡◌ {A = ℕ} 0 1 = cc in omega arith

for_left : (j : Journal) (ws old : List ℕ) → T (sound j) → guarded (left j ws) (some (put_back j ws)) ≡ some old → JournalFor (j.old_length ∷ j.new_length ∷ j.first ∷ j.last ∷ j.behind) ws old
unfolding guarded
for_left j ws old a e = by (left j ws) refl e
  where
    by : (b : Bool) → left j ws ≡ b → guarded b (some (put_back j ws)) ≡ some old → JournalFor (j.old_length ∷ j.new_length ∷ j.first ∷ j.last ∷ j.behind) ws old
    by true p e = subst (JournalFor (j.old_length ∷ j.new_length ∷ j.first ∷ j.last ∷ j.behind) ws) (some_same e) (put_for j ws (matches j ws a (true_test p)))
    by false p e = absurd (none_some e)

for_sound :
    (j : Journal) (ws old : List ℕ) → also (guarded (sound j) (some j)) (λ j. guarded (left j ws) (some (put_back j ws))) ≡ some old →
    JournalFor (j.old_length ∷ j.new_length ∷ j.first ∷ j.last ∷ j.behind) ws old
unfolding guarded also
for_sound j ws old e = by (sound j) refl e
  where
    by :
        (b : Bool) → sound j ≡ b → also (guarded b (some j)) (λ j. guarded (left j ws) (some (put_back j ws))) ≡ some old →
        JournalFor (j.old_length ∷ j.new_length ∷ j.first ∷ j.last ∷ j.behind) ws old
    by true p e = for_left j ws old (true_test p) e
    by false p e = absurd (none_some e)

-- What restores anything is a journal of that and of the words it was lent with; with `restored_by` that is all that restores
pub restored_only : (journal ws old : List ℕ) → restored journal ws ≡ some old → JournalFor journal ws old
unfolding restored read_journal also
restored_only [] ws old e = absurd (none_some e)
restored_only (a ∷ []) ws old e = absurd (none_some e)
restored_only (a ∷ b ∷ []) ws old e = absurd (none_some e)
restored_only (a ∷ b ∷ f ∷ []) ws old e = absurd (none_some e)
restored_only (a ∷ b ∷ f ∷ l ∷ us) ws old e =
    for_sound (record { old_length = a; new_length = b; first = f; last = l; behind = us }) ws old e

-- and what is accepted is readable
module _ (limits : Limits) (room : ℕ) (old : List ℕ) where
  read_last :
      (us : List ℕ) (o : Option Config) (b : Bool) → read_config limits us ≡ o → ((unmatched ! o) >>= λ d. ◌>>◌ (short unless b) (done us)) ≡ done old →
      (c : Config) × (read_config limits old ≡ some c)
  unfolding ◌>>=◌ ◌>>◌ ◌!◌ ◌unless◌
  read_last us none b r e = absurd (refused_done e)
  read_last us (some d) true r e = let q : us ≡ old = cc in (d, subst (λ us. read_config limits us ≡ some d) q r)
  read_last us (some d) false r e = absurd (refused_done e)

  read_by :
      (o : Option Config) (p : Option (List ℕ)) →
      ((unreadable ! o) >>= λ c.
      (unmatched ! p) >>= λ us. (unmatched ! read_config limits us) >>= λ d. ◌>>◌ (short unless leb (length us) room) (done us))
      ≡ done old →
      (c : Config) × (read_config limits old ≡ some c)
  unfolding ◌>>=◌ ◌!◌
  read_by none p e = absurd (refused_done e)
  read_by (some c) none e = absurd (refused_done e)
  read_by (some c) (some us) e = read_last us (read_config limits us) (leb (length us) room) refl e

  pub taken_readable : (ws journal : List ℕ) → take_back limits ws journal room ≡ done old → (c : Config) × (read_config limits old ≡ some c)
  unfolding take_back
  taken_readable ws journal e = read_by (read_config limits ws) (restored journal ws) e

-- ---- the counts are the greatest

-- as many first words as are the same; so none more are alike in what is left
pub alike_most : (n : ℕ) (xs ys : List ℕ) → n ≤ length xs → n ≤ length ys → take n xs ≡ take n ys → n ≤ alike xs ys
unfolding alike
alike_most zero xs ys a b e = omega arith
alike_most (suc n) [] ys a b e = absurd (omega arith)
alike_most (suc n) (x ∷ xs) [] a b e = absurd (omega arith)
alike_most (suc n) (x ∷ xs) (y ∷ ys) a b e =
    let p : x ≡ y = cc in
    let q : take n xs ≡ take n ys = cc in
    rw (eq-eqb x y p) (omega (arith, alike_most n xs ys (omega arith) (omega arith) q))

-- the first words are counted before the last ones: of a word more of the same it is the last that is between
pub first_before_last : journal_of (5 ∷ 5 ∷ []) (5 ∷ 5 ∷ 5 ∷ []) ≡ 2 ∷ 3 ∷ 2 ∷ 0 ∷ 5 ∷ []
unfolding journal_of journal_by between alike alike_behind
first_before_last = refl

-- ---- how long it is

pub journal_length : (old new : List ℕ) → length (journal_of old new) + 2 * alike old new ≤ length old + length new + 4
unfolding journal_of journal_by
journal_length old new =
    let a = journal_alike old new in
    let f = alike old new in
    let l = alike_behind f old new in
    omega (
      arith,
      a.in_old,
      a.in_new,
      length-append (between f l old) (between f l new),
      between_length f l old a.in_old,
      between_length f l new a.in_new,
    )

-- ---- a step that is lent a journal

module _ (limits : Limits) (ws : List ℕ) (k : Numbers) (room : ℕ) {s : Stepped} where
  short_by :
      (t : Stepped) (n : ℕ) (b : Bool) → leb (length (journal_of ws (encode t.config))) n ≡ b → ◌>>◌ (journal_short unless b) (done t) ≡ done s →
      (◌≡◌ {A = Result Stepped} (done t) (done s)) × (length (journal_of ws (encode s.config)) ≤ n)
  unfolding ◌>>◌ ◌unless◌
  short_by t n true h e =
      let q : t ≡ s = cc in
      (e, subst (λ t. length (journal_of ws (encode t.config)) ≤ n) q (leb-true _ n h))
  short_by t n false h e = absurd (refused_done e)

  journal_done_by :
      (r : Result Stepped) (n : ℕ) →
      (r >>= λ t. ◌>>◌ (journal_short unless leb (length (journal_of ws (encode t.config))) n) (done t)) ≡ done s →
      (r ≡ done s) × (length (journal_of ws (encode s.config)) ≤ n)
  unfolding ◌>>=◌
  journal_done_by (refused r) n e = absurd (refused_done e)
  journal_done_by (done t) n e = short_by t n (leb (length (journal_of ws (encode t.config))) n) refl e

  -- accepted: the step is, and the journal has room for its own
  pub journal_done : (n : ℕ) → journal_step limits ws k room n ≡ done s → (step limits ws k room ≡ done s) × (length (journal_of ws (encode s.config)) ≤ n)
  unfolding journal_step
  journal_done n e = journal_done_by (step limits ws k room) n e

  pub lent_done : (journal : Option (List ℕ)) → lent_step limits ws k room journal ≡ done s → step limits ws k room ≡ done s
  unfolding lent_step
  lent_done none e = e
  lent_done (some journal) e = (journal_done (length journal) e).0

  pub lent_room :
      (journal : Option (List ℕ)) → lent_step limits ws k room journal ≡ done s → room_for (length (journal_of ws (encode s.config))) journal
  unfolding lent_step room_for
  lent_room none e = tt
  lent_room (some journal) e = (journal_done (length journal) e).1

  -- and these are enough
  pub done_lent :
      (journal : Option (List ℕ)) → step limits ws k room ≡ done s → room_for (length (journal_of ws (encode s.config))) journal →
      lent_step limits ws k room journal ≡ done s
  unfolding lent_step journal_step room_for ◌>>=◌ ◌>>◌ ◌unless◌
  done_lent none e h = e
  done_lent (some journal) e h = rw (e, le-leb _ _ h)
