-- The result of a step that changes one engine: how long it is, and that it is what is written.
-- Assumes nothing.
use Prim.Native.Nat.{ℕ, suc, ◌+◌, ◌-◌, ◌≤◌, ◌<◌}
use native.Mathlib.Omega.{arith}
use mathlib.Core.Path.{◌≡◌, refl, sym, ap, ap₂, ◌∙◌}
use mathlib.Core.Bool.{Bool, true, false}
use mathlib.Core.List.{List, ◌∷◌, ◌++◌, append_assoc}
use borrow.Author.Tests.{le-ltb, lt-ltb, leb-true, leb-false}
use lib.Dec.{leb, lit<}
use lib.ListN.{length, take, drop, set, length-append, length-drop, length-set}
use lib.Seq.{take_at, drop_at, take_all, take-set-le, drop-set-lt, get_or-set_same}
use Rattle.sock.specs.Running.{Run, run_words, size}
use Rattle.sock.specs.Configuration.{Engine, Config, values_words, engine_words, engines_words, encode}
use Rattle.sock.specs.Calls.{engine_at, with_engine, over}
use Rattle.sock.proofs.Fits.{FitsConfig}
use Rattle.sock.proofs.Located.{values_length, engines_split, engine_fits, start_of, words_before, words_after, encode_split, before_length}
use Rattle.writers.proofs.Laid.{Near, near_of, near_below, onward_near}
use Rattle.finding.proofs.Edits.{part}
use Rattle.rules.specs.Editing.{Edit}
use Rattle.rules.proofs.Edits.{Ordered, Edits, part_first, fresh_room}
use Rattle.rules.proofs.Stores.{stored, stored_length}
use Rattle.layout.specs.declared.limit.Limits.{Limits}
use Rattle.stepping.proofs.Modest.{Modest}
use Rattle.stepping.specs.Writing.{engine_w}
use Rattle.stepping.specs.Answering.{sized_w, write_one_w, length_of}
use Rattle.stepping.proofs.Overs.{Wrote, wrote_copy}
use Rattle.stepping.proofs.Writes.{engine_wrote}

-- ---- lengths

sums : (len w g x y z q : ℕ) → w ≤ len → q + (x + (y + z)) ≡ w + g → x + (y + z) ≤ w → len + g - x - y - z + w ≡ len + q
sums len w g x y z q a c d =
    let r : ℕ = len - w in
    let e : len ≡ r + w = omega arith in
    let f : len + g ≡ r + q + (x + (y + z)) = omega arith in
    let h : len + g - x ≡ r + q + (y + z) = omega arith in
    let i : len + g - x - y ≡ r + q + z = omega arith in
    let j : len + g - x - y - z ≡ r + q = omega arith in
    omega arith

-- what goes is within
gone : (start end : ℕ) (p : Edit) → Ordered start end p → (p.past - p.list) + ((p.upto - p.from) + (p.end - p.gap)) ≤ end - start
gone start end p o = within start p.list p.past p.from p.upto p.gap p.end end _ _ _ refl refl refl o.l_in o.m_in o.a_in o.b_in o.c_in o.d_in o.end_in
  where
    within : (s l m a b c d e x y z : ℕ) → x ≡ m - l → y ≡ b - a → z ≡ d - c → s ≤ l → l ≤ m → m ≤ a → a ≤ b → b ≤ c → c ≤ d → d ≤ e → x + (y + z) ≤ e - s
    within s l m a b c d e x y z p q r h1 h2 h3 h4 h5 h6 h7 =
        let u : m ≡ l + x = omega arith in
        let v : b ≡ a + y = omega arith in
        let w : d ≡ c + z = omega arith in
        sum s l m a b c d e x y z u v w h1 h3 h5 h7
      where
        sum : (s l m a b c d e x y z : ℕ) → m ≡ l + x → b ≡ a + y → d ≡ c + z → s ≤ l → m ≤ a → b ≤ c → d ≤ e → x + (y + z) ≤ e - s
        sum s l m a b c d e x y z u v w h1 h3 h5 h7 = omega arith

-- the words that an edit leaves, if its fresh words are not too many
pub edit_sized :
    {limits : Limits} → Modest limits → (ws : List ℕ) (start end : ℕ) (p : Edit) (fresh : List ℕ) (q : Run) → Edits ws start end p fresh q → (words : ℕ) →
    end - start ≤ words → words ≤ 1000000 → p.fresh ≤ limits.longest → sized_w limits words p + (end - start) ≡ words + size q
unfolding sized_w
edit_sized {limits} modest ws start end p fresh q edits words b a few =
    let near : Near (words + p.fresh) = near_below (words + p.fresh) 1008192 (near_of 1008192 (lit< tt)) (omega (arith, modest.few)) in
    rw (le-ltb limits.longest p.fresh few, onward_near words p.fresh (words + p.fresh) near (omega arith))
    (sums words (end - start) p.fresh (p.past - p.list) (p.upto - p.from) (p.end - p.gap) (size q) b edits.sized (gone start end p edits.order))

pub edit_long : {limits : Limits} → Modest limits → (words : ℕ) (p : Edit) → limits.longest < p.fresh → sized_w limits words p ≡ limits.longest + 1
unfolding sized_w
edit_long {limits} modest words p h =
    rw (lt-ltb limits.longest p.fresh h) (onward_near limits.longest 1 10000 (near_of 10000 (lit< tt)) (omega (arith, modest.few)))

-- there are at most as many fresh words as the process then has
pub fresh_few : (ws : List ℕ) (start end : ℕ) (p : Edit) (fresh : List ℕ) (q : Run) → Edits ws start end p fresh q → p.fresh ≤ size q
fresh_few ws start end p fresh q edits = few (size q) p.fresh ((p.past - p.list) + ((p.upto - p.from) + (p.end - p.gap))) (end - start) edits.sized (gone start end p edits.order)
  where
    few : (q g x w : ℕ) → q + x ≡ w + g → x ≤ w → g ≤ q
    few q g x w a b = omega arith

-- ---- the words of a configuration with one engine changed

module _ (es : List Engine) (e : ℕ) (x : Engine) (h : e < length es) where
  pub engines_set : engines_words (set es e x) ≡ engines_words (take e es) ++ (engine_words x ++ engines_words (drop (suc e) es))
  engines_set =
      engines_split (set es e x) e x (rw (length-set es e x) h)
      ∙ rw (take-set-le e es e x (omega arith), get_or-set_same es e x x h, drop-set-lt (suc e) es e x (omega arith))

module _ (c : Config) (fits : FitsConfig c) (e : ℕ) (h : e < length c.engines) (ws : List ℕ) (same : encode c ≡ ws) where
  abbrev start : ℕ
  start = start_of c e

  abbrev process : Run
  process = (engine_at c e).process

  abbrev values : List ℕ
  values = (engine_at c e).values

  abbrev end : ℕ
  end = start + size process

  many : length values ≡ 32
  many = (engine_fits _ fits.engines e h).counted

  front : length (words_before c e) ≡ start
  front = before_length c e h fits

  pub one_split : ws ≡ words_before c e ++ (run_words process ++ words_after c e)
  one_split = sym same ∙ encode_split c e h

  pub one_stands : drop start ws ≡ run_words process ++ words_after c e
  one_stands = ap (drop start) one_split ∙ drop_at (words_before c e) (run_words process ++ words_after c e) start front

  pub one_behind : drop end ws ≡ words_after c e
  unfolding size
  one_behind =
      ap (drop end) (one_split ∙ sym (append_assoc (words_before c e) (run_words process) (words_after c e)))
      ∙ drop_at (words_before c e ++ run_words process) (words_after c e) end (length-append (words_before c e) (run_words process) ∙ ap (λ k. k + length (run_words process)) front)

  pub one_front : take start ws ≡ words_before c e
  one_front = ap (take start) one_split ∙ take_at (words_before c e) (run_words process ++ words_after c e) start front

  pub one_length : length ws ≡ end + length (words_after c e)
  unfolding size
  one_length =
      ap length one_split
      ∙ (length-append (words_before c e) (run_words process ++ words_after c e)
      ∙ (let a = length-append (run_words process) (words_after c e) in let b = front in let z : length (words_before c e) + length (run_words process ++ words_after c e) ≡ end + length (words_after c e) = omega arith in z))

  -- the values stand before it
  pub one_values : part (start - 64) start ws ≡ values_words values
  one_values =
      let pre : List ℕ = length c.engines ∷ c.issued ∷ engines_words (take e c.engines) in
      let n : length (values_words values) ≡ 64 = omega (arith, values_length values, many) in
      let k : start - 64 ≡ length pre = omega arith in
      let m : start - (start - 64) ≡ 64 = omega arith in
      let d : drop (start - 64) ws ≡ values_words values ++ (run_words process ++ words_after c e) =
      ap (drop (start - 64)) (one_split ∙ append_assoc pre (values_words values) (run_words process ++ words_after c e))
      ∙ drop_at pre (values_words values ++ (run_words process ++ words_after c e)) (start - 64) (sym k) in
      ap₂ (λ (i : ℕ) (l : List ℕ). take i l) m d ∙ take_at (values_words values) (run_words process ++ words_after c e) 64 n

  -- the engine changed
  module _ (p : Edit) (fresh : List ℕ) (q : Run) (edits : Edits ws start end p fresh q) where
    abbrev next : Config
    next = record { issued = c.issued; engines = with_engine e (stored values p.store) q c.engines }

    abbrev pre : List ℕ
    pre = length c.engines ∷ c.issued ∷ engines_words (take e c.engines)

    pub next_words_lem : encode next ≡ ((pre ++ values_words (stored values p.store)) ++ run_words q) ++ words_after c e
    unfolding encode engine_words
    next_words_lem =
        ap₂ (λ (n : ℕ) (l : List ℕ). n ∷ c.issued ∷ l) (length-set c.engines e _) (engines_set c.engines e _ h)
        ∙ regrouped pre (values_words (stored values p.store)) (run_words q) (words_after c e)
      where
        regrouped : (a b x d : List ℕ) → a ++ ((b ++ x) ++ d) ≡ ((a ++ b) ++ x) ++ d
        regrouped a b x d = simp append_assoc

    next_length : length (encode next) ≡ start + size q + length (words_after c e)
    unfolding size
    next_length =
        let v : List ℕ = values_words (stored values p.store) in
        let a = length-append ((pre ++ v) ++ run_words q) (words_after c e) in
        let b = length-append (pre ++ v) (run_words q) in
        let d = length-append pre v in
        let n : length v ≡ 64 = omega (arith, values_length (stored values p.store), stored_length values p.store, many) in
        ap length next_words_lem ∙ (let z : length (((pre ++ v) ++ run_words q) ++ words_after c e) ≡ start + length (run_words q) + length (words_after c e) = omega arith in z)

    -- how long the result is
    pub next_sized : {limits : Limits} → Modest limits → length ws ≤ limits.longest → p.fresh ≤ limits.longest → sized_w limits (length ws) p ≡ length (encode next)
    next_sized modest short few =
        let a = edit_sized modest ws start end p fresh q edits (length ws) (omega (arith, one_length)) (omega (arith, modest.few)) few in
        omega (arith, a, next_length, one_length)

    pub next_few : p.fresh ≤ length (encode next)
    next_few = omega (arith, fresh_few ws start end p fresh q edits, next_length)

    pub next_fits : {limits : Limits} → Modest limits → length ws ≤ limits.longest → (room : ℕ) → length_of limits (sized_w limits (length ws) p) room ≡ length_of limits (length (encode next)) room
    unfolding length_of
    next_fits {limits} modest short room = by (leb p.fresh limits.longest) refl
      where
        by : (b : Bool) → leb p.fresh limits.longest ≡ b → length_of limits (sized_w limits (length ws) p) room ≡ length_of limits (length (encode next)) room
        by true e = ap (λ k. length_of limits k room) (next_sized modest short (leb-true p.fresh limits.longest e))
        by false e =
            let h : limits.longest < p.fresh = leb-false p.fresh limits.longest e in
            rw (edit_long modest (length ws) p h, lt-ltb limits.longest (limits.longest + 1) (omega arith), lt-ltb limits.longest (length (encode next)) (omega (arith, next_few)))

    -- and what is written
    pub next_written :
        (out : List ℕ) → length (encode next) ≤ 8192 → length (encode next) ≤ length out →
        (write_one_w ws start end p fresh out).out ≡ over (encode next) out
    unfolding write_one_w size
    next_written out few room =
        let near : Near 8192 = near_of 8192 (lit< tt) in
        let g : p.fresh ≤ 8192 = omega (arith, fresh_few ws start end p fresh q edits, next_length) in
        let wide : p.fresh ≤ length fresh = fresh_room ws start end p fresh q edits (omega (arith, one_length)) g in
        let first : part 0 start ws ≡ pre ++ values_words values = part_first start ws ∙ one_front in
        let l = length-append pre (values_words values) in
        let m : length (values_words values) ≡ 64 = omega (arith, values_length values, many) in
        let w : Wrote out 0 ((pre ++ values_words (stored values p.store)) ++ run_words q) (engine_w ws 0 start end p fresh out 0) =
        engine_wrote ws 0 start end p fresh q edits (omega (arith, one_length)) (omega arith) g wide pre values many first out 0 (omega (arith, next_length)) 8192 near (omega (arith, next_length)) in
        let tail : part end (length ws) ws ≡ words_after c e = take_all (length ws - end) (drop end ws) (omega (arith, length-drop end ws)) ∙ one_behind in
        let whole : ((pre ++ values_words (stored values p.store)) ++ run_words q) ++ part end (length ws) ws ≡ encode next =
        ap (λ l. ((pre ++ values_words (stored values p.store)) ++ run_words q) ++ l) tail ∙ sym next_words_lem in
        let fit : 0 + length (((pre ++ values_words (stored values p.store)) ++ run_words q) ++ part end (length ws) ws) ≤ length out = omega (arith, ap length whole) in
        let all = wrote_copy ws end (length ws) (omega (arith, one_length)) (omega arith) fit 8192 near (omega (arith, ap length whole)) w in
        all.over.all
        ∙ ap₂ (λ (x : List ℕ) (n : ℕ). x ++ drop n out) whole (ap (λ l. 0 + length l) whole ∙ (let z : 0 + length (encode next) ≡ length (encode next) = omega arith in z))
