-- The result of a step that changes two engines: how long it is, and that it is what is written.
-- Assumes nothing.
use Prim.Native.Nat.{ℕ, suc, ◌+◌, ◌-◌, ◌≤◌, ◌<◌}
use native.Mathlib.Omega.{arith}
use mathlib.Core.Path.{◌≡◌, refl, sym, ap, ap₂, ◌∙◌}
use mathlib.Core.List.{List, ◌∷◌, ◌++◌, append_assoc}
use lib.Dec.{lit<}
use lib.ListN.{length, get_or, take, drop, set, length-append, length-drop, length-set}
use lib.Seq.{take_at, drop_at, take_all, take-take, length-take-le, take-set-lt, drop-set-lt, get_or-take}
use Rattle.sock.specs.Running.{Run, run_words, size}
use Rattle.sock.specs.Configuration.{Engine, Config, values_words, engine_words, engines_words, encode}
use Rattle.sock.specs.Calls.{engine_at, with_engine, over}
use Rattle.sock.proofs.Fits.{FitsConfig}
use Rattle.sock.proofs.Located.{values_length, engines_split, engine_fits, start_of, words_before, words_after, before_length}
use Rattle.writers.proofs.Laid.{Near, near_of}
use Rattle.finding.proofs.Edits.{part}
use Rattle.rules.specs.Editing.{Edit}
use Rattle.rules.specs.Storing.{Store}
use Rattle.rules.proofs.Edits.{Edits, part_first, fresh_room}
use Rattle.rules.proofs.Stores.{stored, stored_length}
use Rattle.layout.specs.declared.limit.Limits.{Limits}
use Rattle.stepping.proofs.Modest.{Modest}
use Rattle.stepping.specs.Writing.{Written, engine_w}
use Rattle.stepping.specs.Answering.{changed, sized_w, write_two_w}
use Rattle.stepping.proofs.Overs.{over_length, over_then, Wrote, wrote_copy}
use Rattle.stepping.proofs.Writes.{engine_wrote}
use Rattle.stepping.proofs.Results.{edit_sized, fresh_few, engines_set, one_split, one_length, one_front, one_behind}

-- one writing behind another
pub wrote_then :
    {out : List ℕ} {to : ℕ} {a b : List ℕ} {w v : Written} → to + length (a ++ b) ≤ length out → Wrote out to a w → Wrote w.out w.to b v → Wrote out to (a ++ b) v
wrote_then {out} {to} {a} {b} {w} {v} room x y =
    let l = length-append a b in
    let r : w.to ≡ to + length a = x.reaches in
    record {
      reaches = y.reaches ∙ (let z : w.to + length b ≡ to + length (a ++ b) = omega arith in z);
      over = over_then x.over (omega arith) (omega arith) (rw r at y.over);
    }

-- ---- the words between two engines

module _ (es : List Engine) (e i : ℕ) (low : e < i) (high : i < length es) where
  -- the engines between the two
  abbrev pub amid : List ℕ
  amid = engines_words (drop (suc e) (take i es))

  taken : length (take i es) ≡ i
  taken = length-take-le i es (omega arith)

  pub front_split : (d : Engine) → engines_words (take i es) ≡ engines_words (take e es) ++ (engine_words (get_or es e d) ++ amid)
  front_split d =
      engines_split (take i es) e d (omega (arith, taken))
      ∙ ap₂ (λ (x : List Engine) (y : Engine). engines_words x ++ (engine_words y ++ amid)) (take-take e i es (omega arith)) (get_or-take i es e d low)

  pub two_set :
      (x y : Engine) →
      engines_words (set (set es e x) i y) ≡ engines_words (take e es) ++ (engine_words x ++ (amid ++ (engine_words y ++ engines_words (drop (suc i) es))))
  two_set x y =
      engines_set (set es e x) i y (rw (length-set es e x) high)
      ∙ (ap₂ (λ (a b : List Engine). engines_words a ++ (engine_words y ++ engines_words b)) (take-set-lt i es e x low) (drop-set-lt (suc i) es e x (omega arith))
      ∙ (ap (λ l. l ++ (engine_words y ++ engines_words (drop (suc i) es)))
      (engines_set (take i es) e x (omega (arith, taken)) ∙ ap (λ l. engines_words l ++ (engine_words x ++ amid)) (take-take e i es (omega arith)))
      ∙ regrouped (engines_words (take e es)) (engine_words x) amid (engine_words y ++ engines_words (drop (suc i) es))))
    where
      regrouped : (a b c d : List ℕ) → (a ++ (b ++ c)) ++ d ≡ a ++ (b ++ (c ++ d))
      regrouped a b c d = simp append_assoc

-- ---- the result

module _ (c : Config) (fits : FitsConfig c) (e i : ℕ) (low : e < i) (high : i < length c.engines) (ws : List ℕ) (same : encode c ≡ ws) where
  abbrev es : List Engine
  es = c.engines

  abbrev s1 : ℕ
  s1 = start_of c e

  abbrev r1 : Run
  r1 = (engine_at c e).process

  abbrev v1 : List ℕ
  v1 = (engine_at c e).values

  abbrev e1 : ℕ
  e1 = s1 + size r1

  abbrev s2 : ℕ
  s2 = start_of c i

  abbrev r2 : Run
  r2 = (engine_at c i).process

  abbrev v2 : List ℕ
  v2 = (engine_at c i).values

  abbrev e2 : ℕ
  e2 = s2 + size r2

  abbrev mid : List ℕ
  mid = amid es e i low high

  inside : e < length es
  inside = omega arith

  many1 : length v1 ≡ 32
  many1 = (engine_fits _ fits.engines e inside).counted

  many2 : length v2 ≡ 32
  many2 = (engine_fits _ fits.engines i high).counted

  -- the words before the second process are those of the first and what lies between
  before_second : words_before c i ≡ (words_before c e ++ run_words r1) ++ (mid ++ values_words v2)
  unfolding engine_words
  before_second =
      ap (λ l. length es ∷ c.issued ∷ (l ++ values_words v2)) (front_split es e i low high _)
      ∙ ap (λ l. length es ∷ c.issued ∷ l) (regrouped (engines_words (take e es)) (values_words v1) (run_words r1) mid (values_words v2))
    where
      regrouped : (a b x d f : List ℕ) → (a ++ ((b ++ x) ++ d)) ++ f ≡ ((a ++ b) ++ x) ++ (d ++ f)
      regrouped a b x d f = simp append_assoc

  first_length : length (words_before c e ++ run_words r1) ≡ e1
  unfolding size
  first_length = length-append (words_before c e) (run_words r1) ∙ ap (λ k. k + length (run_words r1)) (before_length c e inside fits)

  second_start : s2 ≡ e1 + length (mid ++ values_words v2)
  second_start =
      sym (before_length c i high fits)
      ∙ (ap length before_second ∙ (length-append (words_before c e ++ run_words r1) (mid ++ values_words v2) ∙ ap (λ k. k + length (mid ++ values_words v2)) first_length))

  between_stands : part e1 s2 ws ≡ mid ++ values_words v2
  between_stands =
      let k : s2 - e1 ≡ length (mid ++ values_words v2) = omega (arith, second_start) in
      let split : ws ≡ (words_before c e ++ run_words r1) ++ ((mid ++ values_words v2) ++ (run_words r2 ++ words_after c i)) =
      one_split c fits i high ws same
      ∙ (ap (λ l. l ++ (run_words r2 ++ words_after c i)) before_second ∙ append_assoc (words_before c e ++ run_words r1) (mid ++ values_words v2) (run_words r2 ++ words_after c i)) in
      ap₂ (λ (m : ℕ) (l : List ℕ). take m (drop e1 l)) k split
      ∙ (ap (take (length (mid ++ values_words v2))) (drop_at (words_before c e ++ run_words r1) ((mid ++ values_words v2) ++ (run_words r2 ++ words_after c i)) e1 first_length)
      ∙ take_at (mid ++ values_words v2) (run_words r2 ++ words_after c i) (length (mid ++ values_words v2)) refl)

  module _ (p1 : Edit) (f1 : List ℕ) (q1 : Run) (edits1 : Edits ws s1 e1 p1 f1 q1) (p2 : Edit) (f2 : List ℕ) (q2 : Run) (edits2 : Edits ws s2 e2 p2 f2 q2) (issued : ℕ) where
    abbrev w1 : List ℕ
    w1 = stored v1 p1.store

    abbrev w2 : List ℕ
    w2 = stored v2 p2.store

    abbrev pub next : Config
    next = record { issued = issued; engines = with_engine i w2 q2 (with_engine e w1 q1 es) }

    -- the words behind the first two
    abbrev body : List ℕ
    body = (((engines_words (take e es) ++ values_words w1) ++ run_words q1) ++ ((mid ++ values_words w2) ++ run_words q2)) ++ words_after c i

    next_words_lem : encode next ≡ length es ∷ issued ∷ body
    unfolding encode engine_words
    next_words_lem =
        ap₂ (λ (n : ℕ) (l : List ℕ). n ∷ issued ∷ l) (length-set (set es e _) i _ ∙ length-set es e _) (two_set es e i low high _ _)
        ∙ ap (λ l. length es ∷ issued ∷ l) (regrouped (engines_words (take e es)) (values_words w1) (run_words q1) mid (values_words w2) (run_words q2) (words_after c i))
      where
        regrouped : (a b x d f g h : List ℕ) → a ++ ((b ++ x) ++ (d ++ ((f ++ g) ++ h))) ≡ (((a ++ b) ++ x) ++ ((d ++ f) ++ g)) ++ h
        regrouped a b x d f g h = simp append_assoc

    stored_words : (vs : List ℕ) (s : Store) → length vs ≡ 32 → length (values_words (stored vs s)) ≡ 64
    stored_words vs s m = omega (arith, values_length (stored vs s), stored_length vs s)

    same_words_lem : (vs : List ℕ) → length vs ≡ 32 → length (values_words vs) ≡ 64
    same_words_lem vs m = omega (arith, values_length vs)

    next_length : length (encode next) + (size r1 + size r2) ≡ length ws + (size q1 + size q2)
    unfolding size
    next_length =
        let a = ap length next_words_lem in
        let b = length-append (((engines_words (take e es) ++ values_words w1) ++ run_words q1) ++ ((mid ++ values_words w2) ++ run_words q2)) (words_after c i) in
        let d = length-append ((engines_words (take e es) ++ values_words w1) ++ run_words q1) ((mid ++ values_words w2) ++ run_words q2) in
        let f = length-append (engines_words (take e es) ++ values_words w1) (run_words q1) in
        let g = length-append (engines_words (take e es)) (values_words w1) in
        let j = length-append (mid ++ values_words w2) (run_words q2) in
        let k = length-append mid (values_words w2) in
        let l = length-append mid (values_words v2) in
        let m1 = stored_words v1 p1.store many1 in
        let m2 = stored_words v2 p2.store many2 in
        let m3 = same_words_lem v2 many2 in
        omega (arith, second_start, one_length c fits i high ws same)

    pub two_sized : {limits : Limits} → Modest limits → length ws ≤ limits.longest → p1.fresh ≤ limits.longest → p2.fresh ≤ limits.longest → sized_w limits (sized_w limits (length ws) p1) p2 ≡ length (encode next)
    two_sized {limits} modest short few1 few2 =
        let fit1 : size r1 ≤ length ws = omega (arith, one_length c fits e inside ws same) in
        let d1 : e1 - s1 ≡ size r1 = omega arith in
        let d2 : e2 - s2 ≡ size r2 = omega arith in
        let q1_small : size q1 ≤ size r1 + p1.fresh = omega (arith, edits1.sized) in
        let one : sized_w limits (length ws) p1 + (e1 - s1) ≡ length ws + size q1 = edit_sized modest ws s1 e1 p1 f1 q1 edits1 (length ws) (omega arith) (omega (arith, modest.few)) few1 in
        let both : size r1 + size r2 ≤ length ws = omega (arith, second_start, one_length c fits i high ws same) in
        let two : sized_w limits (sized_w limits (length ws) p1) p2 + (e2 - s2) ≡ sized_w limits (length ws) p1 + size q2 =
        edit_sized modest ws s2 e2 p2 f2 q2 edits2 (sized_w limits (length ws) p1) (omega arith) (omega (arith, modest.few)) few2 in
        omega (arith, next_length)

    abbrev front : List ℕ
    front = ((length es ∷ c.issued ∷ engines_words (take e es)) ++ values_words w1) ++ run_words q1

    abbrev behind : List ℕ
    behind = (mid ++ values_words w2) ++ run_words q2

    -- and what is written
    pub two_written :
        (out : List ℕ) → length (encode next) ≤ 8192 → length (encode next) ≤ length out →
        write_two_w ws (changed s1 e1 p1) f1 (changed s2 e2 p2) f2 issued out ≡ over (encode next) out
    unfolding write_two_w size
    two_written out few room =
        let near : Near 8192 = near_of 8192 (lit< tt) in
        let g1 : p1.fresh ≤ 8192 = omega (arith, fresh_few ws s1 e1 p1 f1 q1 edits1, next_length, one_length c fits i high ws same, second_start) in
        let g2 : p2.fresh ≤ 8192 = omega (arith, fresh_few ws s2 e2 p2 f2 q2 edits2, next_length, one_length c fits i high ws same, second_start) in
        let all : ((front ++ behind) ++ words_after c i) ≡ length es ∷ c.issued ∷ body = refl in
        let long : length ((front ++ behind) ++ words_after c i) ≡ length (encode next) = sym (ap length next_words_lem) in
        let a1 = length-append (front ++ behind) (words_after c i) in
        let a2 = length-append front behind in
        let a3 = length-append (mid ++ values_words w2) (run_words q2) in
        let a4 = length-append mid (values_words w2) in
        let a5 = length-append mid (values_words v2) in
        let a6 = length-append ((length es ∷ c.issued ∷ engines_words (take e es)) ++ values_words w1) (run_words q1) in
        let a7 = length-append (length es ∷ c.issued ∷ engines_words (take e es)) (values_words w1) in
        let a8 = length-append (length es ∷ c.issued ∷ engines_words (take e es)) (values_words v1) in
        let m1 = stored_words v1 p1.store many1 in
        let m2 = stored_words v2 p2.store many2 in
        let m3 = same_words_lem v2 many2 in
        let m4 = same_words_lem v1 many1 in
        let within1 : e1 ≤ length ws = omega (arith, one_length c fits e inside ws same) in
        let within2 : e2 ≤ length ws = omega (arith, one_length c fits i high ws same) in
        let wide1 = fresh_room ws s1 e1 p1 f1 q1 edits1 within1 g1 in
        let wide2 = fresh_room ws s2 e2 p2 f2 q2 edits2 within2 g2 in
        let first : Wrote out 0 front (engine_w ws 0 s1 e1 p1 f1 out 0) =
        engine_wrote ws 0 s1 e1 p1 f1 q1 edits1 within1 (omega arith) g1 wide1 (length es ∷ c.issued ∷ engines_words (take e es)) v1 many1
        (part_first s1 ws ∙ one_front c fits e inside ws same) out 0 (omega arith) 8192 near (omega arith) in
        let kept : length (engine_w ws 0 s1 e1 p1 f1 out 0).out ≡ length out = over_length first.over (omega arith) in
        let second : Wrote (engine_w ws 0 s1 e1 p1 f1 out 0).out (engine_w ws 0 s1 e1 p1 f1 out 0).to behind
        (engine_w ws e1 s2 e2 p2 f2 (engine_w ws 0 s1 e1 p1 f1 out 0).out (engine_w ws 0 s1 e1 p1 f1 out 0).to) =
        engine_wrote ws e1 s2 e2 p2 f2 q2 edits2 within2 (omega (arith, second_start)) g2 wide2 mid v2 many2 between_stands
        (engine_w ws 0 s1 e1 p1 f1 out 0).out (engine_w ws 0 s1 e1 p1 f1 out 0).to (omega (arith, kept, first.reaches)) 8192 near (omega (arith, first.reaches)) in
        let both = wrote_then (omega arith) first second in
        let tail : part e2 (length ws) ws ≡ words_after c i = take_all (length ws - e2) (drop e2 ws) (omega (arith, length-drop e2 ws)) ∙ one_behind c fits i high ws same in
        let fit : 0 + length ((front ++ behind) ++ part e2 (length ws) ws) ≤ length out = rw tail (omega arith) in
        let last = wrote_copy ws e2 (length ws) within2 (omega arith) fit 8192 near (rw tail (omega arith)) both in
        let out' = last.over.all ∙ ap₂ (λ (x : List ℕ) (n : ℕ). ((front ++ behind) ++ x) ++ drop n out) tail
        (ap (λ x. 0 + length ((front ++ behind) ++ x)) tail ∙ (let z : 0 + length ((front ++ behind) ++ words_after c i) ≡ length (encode next) = omega arith in z)) in
        ap (λ l. set l 1 issued) out' ∙ ap (λ l. l ++ drop (length (encode next)) out) (sym next_words_lem)
