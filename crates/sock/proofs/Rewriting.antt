-- Earlier configurations rewritten (change c): a position moved along names the same process, and a step on the rewritten words gives the
-- rewriting of what the earlier step gave.
-- Assumes nothing.
use Prim.Native.Nat.{ℕ, zero, suc, ◌+◌, ◌-◌, ◌≤◌, ◌<◌}
use native.Mathlib.Omega.{arith}
use mathlib.Core.Path.{◌≡◌, refl, sym, subst, ◌∙◌}
use mathlib.Core.Bool.{Bool, true, false, not, cond}
use mathlib.Core.Option.{Option, none, some}
use mathlib.Core.List.{List, [], ◌∷◌, ◌++◌}
use lib.Dec.{T, leb, ltb, eqb, ltb→lt, lt→ltb, leb→le, le→leb, nltb→le}
use lib.ListN.{length, get_or, length-append}
use borrow.Author.Tests.{ne_eqb}
use Rattle.sock.specs.Kind.{Own, word, variables, rows, row_of}
use Rattle.sock.specs.Words.{kind_of}
use Rattle.sock.specs.Variables.{variable_words}
use Rattle.sock.specs.Term.{Node, node, Block, absent, list, Entries, no_entries, entry, Nodes, no_parts, ◌&◌}
use Rattle.sock.specs.Layout.{exprs_words, words, block_words, entries_words, nodes_words}
use Rattle.sock.specs.Running.{Mark, Run, nil, seq, par, scope, executor, waiter, notice, act, as_node, run_words, size}
use Rattle.sock.specs.Configuration.{Limits, Engine, Config, encode, engines_depth, read_config}
use Rattle.sock.specs.Frames.{Frame, seq_frame, left_frame, right_frame, scope_frame, executor_frame, Located, here_or, past, locate}
use Rattle.sock.specs.Rules.{Move, stuck, alone, unvalued, sends}
use Rattle.sock.specs.Calls.{Refusal, unreadable, nobody_there, no_move, no_partner, no_fit, not_decimal, installing, serials_spent, deep, long, short, Result, refused, done, ◌>>=◌, ◌>>◌, ◌!◌, ◌unless◌, Numbers, Spot, engine_at, enabled_at, movable, partner, effect, Stepped, step, answer_of, output_of, step_answer, step_output, over}
use Rattle.sock.specs.Earlier.{earlier_config, uncounted, earlier_words, earlier_block, earlier_entries, earlier_nodes, earlier_size, earlier_encode, earlier_locate, earlier_at, earlier_partner, earlier_step, relaid, rewritten, beyond_own, moved, moved_numbers, RewritingFollows, of_length, RewritingRefuses}
use Rattle.sock.proofs.Logic.{All, all_none, all_some, cond-case, test_true}
use Rattle.sock.proofs.Received.{not_both}
use Rattle.sock.proofs.Fits.{Sound, nil_sound, seq_sound, par_sound, scope_sound, executor_sound, waiter_sound, notice_sound, act_sound, FitsEngines, no_engines, one_engine, FitsConfig, Readable}
use Rattle.sock.proofs.Fields.{scope_kind}
use Rattle.sock.proofs.Measures.{size_nil, size_seq, size_par, size_scope, size_executor}
use Rattle.sock.proofs.Located.{beyond, inside}
use Rattle.sock.proofs.Configuration.{config_finds}
use Rattle.sock.proofs.Steps.{Sure, sure_done, sure_then, sure_given, sure_unless, sure_done_lem, step_fits}
use Rattle.sock.proofs.Kept.{nil_kept, seq_kept, par_kept, scope_kept, executor_kept, waiter_kept, notice_kept, act_kept}
use Rattle.sock.proofs.KeptSteps.{no_engine}
use Rattle.sock.proofs.Singles.{SingleRun, SingleConfig, words_one, executor_kind, step_single}
use Rattle.sock.proofs.EarlierReading.{Earlier, earlier_found, earlier_finds}

-- ---- sizes: the rewriting only lengthens

uncounted_shorter : (os : List Own) (f : List ℕ) → length (uncounted os f) ≤ length f
unfolding uncounted
uncounted_shorter [] f = omega arith
uncounted_shorter (word m ∷ os) [] = omega arith
uncounted_shorter (word m ∷ os) (w ∷ f) = omega (arith, uncounted_shorter os f)
uncounted_shorter (variables ∷ os) [] = omega arith
uncounted_shorter (variables ∷ os) (c ∷ f) = omega (arith, uncounted_shorter os f)

mutual
  unfolding earlier_words words

  pub words_shorter : (m : Node) → length (earlier_words m) ≤ length (words m)
  words_shorter (node h f es b ps) =
      let own : List ℕ = uncounted (row_of (kind_of h)).fixed f in
      omega (
        arith,
        uncounted_shorter (row_of (kind_of h)).fixed f,
        block_shorter b,
        nodes_shorter ps,
        length-append own (exprs_words es ++ (earlier_block b ++ earlier_nodes ps)),
        length-append f (exprs_words es ++ (block_words b ++ nodes_words ps)),
        length-append (exprs_words es) (earlier_block b ++ earlier_nodes ps),
        length-append (exprs_words es) (block_words b ++ nodes_words ps),
        length-append (earlier_block b) (earlier_nodes ps),
        length-append (block_words b) (nodes_words ps),
      )

  block_shorter : (b : Block) → length (earlier_block b) ≤ length (block_words b)
  block_shorter absent = omega arith
  block_shorter (list l) = omega (arith, entries_shorter l)

  entries_shorter : (l : Entries) → length (earlier_entries l) ≤ length (entries_words l)
  entries_shorter no_entries = omega arith
  entries_shorter (entry k p es) =
      omega (arith, words_shorter p, entries_shorter es, length-append (earlier_words p) (earlier_entries es), length-append (words p) (entries_words es))

  nodes_shorter : (ps : Nodes) → length (earlier_nodes ps) ≤ length (nodes_words ps)
  nodes_shorter no_parts = omega arith
  nodes_shorter (p & ps) = omega (arith, words_shorter p, nodes_shorter ps, length-append (earlier_words p) (earlier_nodes ps), length-append (words p) (nodes_words ps))

size_shorter : (r : Run) → earlier_size r ≤ size r
unfolding earlier_size size run_words
size_shorter r = words_shorter (as_node r)

earlier_nil : earlier_size nil ≡ 1
unfolding earlier_size earlier_words as_node uncounted row_of rows exprs_words
earlier_nil = refl

earlier_seq : (a : Run) (q : Node) → earlier_size (seq a q) ≡ 1 + earlier_size a + length (earlier_words q)
unfolding earlier_size earlier_words as_node uncounted row_of rows exprs_words
earlier_seq a q = omega (arith, length-append (earlier_words (as_node a)) (earlier_words q ++ []), length-append (earlier_words q) [])

earlier_par : (a b : Run) → earlier_size (par a b) ≡ 1 + earlier_size a + earlier_size b
unfolding earlier_size earlier_words as_node uncounted row_of rows exprs_words
earlier_par a b = omega (arith, length-append (earlier_words (as_node a)) (earlier_words (as_node b) ++ []), length-append (earlier_words (as_node b)) [])

earlier_scope :
    (name : ℕ) (mark : Mark) (zombie : Bool) (h : Entries) (a : Run) → name < 64 →
    earlier_size (scope name mark zombie h a) ≡ 3 + length (earlier_entries h) + earlier_size a
unfolding earlier_size earlier_words as_node uncounted row_of rows exprs_words
earlier_scope name mark zombie h a b =
    rw (scope_kind name mark zombie b)
    (omega (arith, length-append (earlier_entries h) (earlier_words (as_node a) ++ []), length-append (earlier_words (as_node a)) []))

earlier_executor :
    {n issued o : ℕ} {y : List ℕ} {client serial : ℕ} {a : Run} → Sound n issued (executor o y client serial a) → length y ≡ 1 →
    earlier_size (executor o y client serial a) ≡ 3 + earlier_size a
unfolding earlier_size earlier_words as_node uncounted row_of rows exprs_words
earlier_executor {y = y} {a = a} s e = rw (executor_kind s, words_one y e) (omega (arith, length-append (earlier_words (as_node a)) []))

-- ---- positions

behind :
    (own own' p : ℕ) (inner : ℕ → ℕ) (rest : ℕ) → 0 < own → own ≤ own' → ((i : ℕ) → own + i ≡ p → inner i < rest) → beyond_own own own' p inner < own' + rest
unfolding beyond_own
behind own own' zero inner rest a b f = omega arith
behind own own' (suc p) inner rest a b f =
    cond-case (λ n. n < own' + rest) (ltb (suc p) own)
    (λ t. let h : suc p < own = ltb→lt (suc p) own t in omega arith)
    (λ t. let h : own ≤ suc p = nltb→le (suc p) own t in let g : inner (suc p - own) < rest = f (suc p - own) (omega arith) in omega arith)

-- a position inside the words goes inside the words, also with more behind them
module _ {n issued : ℕ} where
  moved_inside : {r : Run} → Sound n issued r → SingleRun r → (p more : ℕ) → p < earlier_size r + more → moved r p < size r + more
  unfolding moved
  moved_inside nil_sound nil_kept p more h = omega (arith, earlier_nil, size_nil)
  moved_inside (seq_sound {a = a} {q = q} g t f) (seq_kept k m) p more h =
      let b =
      behind 1 1 p (λ i. moved a i) (size a + length (words q) + more) (omega arith) (omega arith)
      (λ i e. omega (arith, moved_inside g k i (length (earlier_words q) + more) (omega (arith, earlier_seq a q)), words_shorter q)) in
      omega (arith, b, size_seq a q)
  moved_inside (par_sound {a = a} {b = b} g t h u) (par_kept k l) p more low =
      let c =
      behind 1 1 p (λ i. cond (ltb i (earlier_size a)) (moved a i) (size a + moved b (i - earlier_size a))) (size a + size b + more) (omega arith) (omega arith)
      (λ i e. cond-case (λ j. j < size a + size b + more) (ltb i (earlier_size a))
      (λ t. let z : i < earlier_size a = ltb→lt i (earlier_size a) t in omega (arith, moved_inside g k i 0 (omega arith)))
      (λ t.
      let z : earlier_size a ≤ i = nltb→le i (earlier_size a) t in
      omega (arith, moved_inside h l (i - earlier_size a) more (omega (arith, earlier_par a b))))) in
      omega (arith, c, size_par a b)
  moved_inside (scope_sound {name} {mark} {zombie} {h} {a} b m f g) (scope_kept l k) p more low =
      let c =
      behind (3 + length (earlier_entries h)) (3 + length (entries_words h)) p (λ i. moved a i) (size a + more) (omega arith) (omega (arith, entries_shorter h))
      (λ i e. moved_inside g k i more (omega (arith, earlier_scope name mark zombie h a b))) in
      omega (arith, c, size_scope name mark zombie h a)
  moved_inside (executor_sound {o} {y} {client} {serial} {a} bo by e g) (executor_kept q k) p more low =
      let c =
      behind 3 (3 + length (variable_words y)) p (λ i. moved a i) (size a + more) (omega arith) (omega arith)
      (λ i z. moved_inside g k i more (omega (arith, earlier_executor (executor_sound {client = client} {serial = serial} bo by e g) q))) in
      omega (arith, c, size_executor o y client serial a)
  moved_inside (waiter_sound {o} {x} {server} {serial} {dead} {l} bo bx e fl) (waiter_kept q k) p more low = omega (arith, size_shorter (waiter o x dead server serial l))
  moved_inside (notice_sound {o} {f} {client} {serial} bo bf e) (notice_kept b) p more low = omega (arith, size_shorter (notice o f client serial))
  moved_inside (act_sound {p = m} i f) (act_kept k) p more low = omega (arith, size_shorter (act m))

-- past own words, in either layout, the same is found
within : (own q : ℕ) (find : ℕ → Option Located) → ltb q own ≡ true → past own q find ≡ none
unfolding past
within own q find e = rw e

past_moved :
    (own own' p : ℕ) (l : Located) (find find' : ℕ → Option Located) (inner : ℕ → ℕ) → 0 < own → own ≤ own' →
    ((i : ℕ) → own + i ≡ p → find (inner i) ≡ find' i) →
    here_or (beyond_own own own' p inner) l (past own' (beyond_own own own' p inner) find) ≡ here_or p l (past own p find')
unfolding beyond_own here_or
past_moved own own' zero l find find' inner a b f = refl
past_moved own own' (suc p) l find find' inner a b f =
    cond-case (λ n. here_or n l (past own' n find) ≡ past own (suc p) find') (ltb (suc p) own)
    (λ t. let h : suc p < own = ltb→lt (suc p) own t in before own' 1 find (omega arith) ∙ sym (before own (suc p) find' h))
    (λ t.
    let h : own ≤ suc p = nltb→le (suc p) own t in
    let i : ℕ = suc p - own in
    inside own' (inner i) (own' + inner i) l find (omega arith) refl ∙ f i (omega arith) ∙ sym (inside own i (suc p) l find' a (omega arith)))
  where
    before : (own q : ℕ) (find : ℕ → Option Located) → q < own → past own q find ≡ none
    before own q find h = within own q find (test_true (ltb q own) (lt→ltb q own h))

-- a position moved along names the same process in the same frames
module _ {n issued : ℕ} where
  pub moved_located : {r : Run} → Sound n issued r → SingleRun r → (p : ℕ) (fs : List Frame) → locate r (moved r p) fs ≡ earlier_locate r p fs
  unfolding locate moved earlier_locate
  moved_located nil_sound nil_kept p fs = refl
  moved_located (seq_sound {a = a} {q = q} g t f) (seq_kept k m) p fs =
      past_moved 1 1 p _ _ _ (λ i. moved a i) (omega arith) (omega arith) (λ i e. moved_located g k i (seq_frame q ∷ fs))
  moved_located (par_sound {a = a} {b = b} g t h u) (par_kept k l) p fs =
      past_moved 1 1 p _ _ _ (λ i. cond (ltb i (earlier_size a)) (moved a i) (size a + moved b (i - earlier_size a))) (omega arith) (omega arith)
      (λ i e. by i (ltb i (earlier_size a)) refl (moved_located g k i (left_frame b ∷ fs)) (moved_located h l (i - earlier_size a) (right_frame a ∷ fs)))
    where
      by :
          (i : ℕ) (t : Bool) → ltb i (earlier_size a) ≡ t →
          locate a (moved a i) (left_frame b ∷ fs) ≡ earlier_locate a i (left_frame b ∷ fs) →
          locate b (moved b (i - earlier_size a)) (right_frame a ∷ fs) ≡ earlier_locate b (i - earlier_size a) (right_frame a ∷ fs) →
          cond (ltb (cond t (moved a i) (size a + moved b (i - earlier_size a))) (size a))
          (locate a (cond t (moved a i) (size a + moved b (i - earlier_size a))) (left_frame b ∷ fs))
          (locate b (cond t (moved a i) (size a + moved b (i - earlier_size a)) - size a) (right_frame a ∷ fs))
          ≡ cond t (earlier_locate a i (left_frame b ∷ fs)) (earlier_locate b (i - earlier_size a) (right_frame a ∷ fs))
      by i true z in_left in_right =
          let low : i < earlier_size a = ltb→lt i (earlier_size a) (subst T (sym z) tt) in
          let in_a : moved a i < size a = omega (arith, moved_inside g k i 0 (omega arith)) in
          rw (test_true (ltb (moved a i) (size a)) (lt→ltb (moved a i) (size a) in_a)) in_left
      by i false z in_left in_right =
          let j : ℕ = i - earlier_size a in
          beyond (size a) (moved b j) (size a + moved b j) (locate a (size a + moved b j) (left_frame b ∷ fs)) (λ i. locate b i (right_frame a ∷ fs)) refl
          ∙ in_right
  moved_located (scope_sound {name} {mark} {zombie} {h} {a} b m f g) (scope_kept l k) p fs =
      past_moved (3 + length (earlier_entries h)) (3 + length (entries_words h)) p _ _ _ (λ i. moved a i) (omega arith) (omega (arith, entries_shorter h))
      (λ i e. moved_located g k i (scope_frame name mark zombie h ∷ fs))
  moved_located (executor_sound {o} {y} {client} {serial} {a} bo by e g) (executor_kept q k) p fs =
      past_moved 3 (3 + length (variable_words y)) p _ _ _ (λ i. moved a i) (omega arith) (omega arith) (λ i z. moved_located g k i (executor_frame o y client serial ∷ fs))
  moved_located (waiter_sound bo bx e fl) (waiter_kept q k) p fs = refl
  moved_located (notice_sound bo bf e) (notice_kept b) p fs = refl
  moved_located (act_sound i f) (act_kept k) p fs = refl

-- a position is 0 exactly where it was
beyond_zero : (own own' p : ℕ) (inner : ℕ → ℕ) → 0 < own' → eqb (beyond_own own own' p inner) 0 ≡ eqb p 0
unfolding beyond_own
beyond_zero own own' zero inner h = refl
beyond_zero own own' (suc p) inner h =
    cond-case (λ n. eqb n 0 ≡ eqb (suc p) 0) (ltb (suc p) own) (λ t. sym (ne_eqb (suc p) 0 (λ e. omega arith)))
    (λ t. ne_eqb (own' + inner (suc p - own)) 0 (λ e. omega arith) ∙ sym (ne_eqb (suc p) 0 (λ e. omega arith)))

moved_zero : (r : Run) (p : ℕ) → eqb (moved r p) 0 ≡ eqb p 0
unfolding moved
moved_zero nil p = refl
moved_zero (seq a q) p = beyond_zero 1 1 p _ (omega arith)
moved_zero (par a b) p = beyond_zero 1 1 p _ (omega arith)
moved_zero (scope name mark zombie h a) p = beyond_zero (3 + length (earlier_entries h)) (3 + length (entries_words h)) p _ (omega arith)
moved_zero (executor o y client serial a) p = beyond_zero 3 (3 + length (variable_words y)) p _ (omega arith)
moved_zero (waiter o x dead server serial l) p = refl
moved_zero (notice o f client serial) p = refl
moved_zero (act m) p = refl

-- ---- the step

sound_at : {n issued : ℕ} {es : List Engine} → FitsEngines n issued es → (e : ℕ) → Sound n issued (get_or es e no_engine).process
sound_at no_engines e = nil_sound
sound_at (one_engine f fs) zero = f.sound
sound_at (one_engine f fs) (suc e) = sound_at fs e

module _ {c : Config} (f : FitsConfig c) (ones : SingleConfig c) where
  moved_at : (e p : ℕ) → enabled_at c e (moved (engine_at c e).process p) ≡ earlier_at c e p
  unfolding enabled_at earlier_at
  moved_at e p = rw (moved_located (sound_at f.engines e) (ones.engines e) p [])

  moved_partner : (k : Numbers) (a : Spot) (m : Move) → partner c (moved_numbers c k) a m ≡ earlier_partner c k a m
  unfolding partner earlier_partner moved_numbers
  moved_partner k a stuck = refl
  moved_partner k a (alone vs p) = refl
  moved_partner k a unvalued = refl
  moved_partner k a (sends m) = moved_at k.second k.second_position

moved_movable : (c : Config) (k : Numbers) (m : Move) → movable (moved_numbers c k) m ≡ movable k m
unfolding movable moved_numbers
moved_movable c k stuck = refl
moved_movable c k (alone vs p) = rw (moved_zero (engine_at c k.second).process k.second_position)
moved_movable c k unvalued = rw (moved_zero (engine_at c k.second).process k.second_position)
moved_movable c k (sends m) = refl

moved_effect : (c : Config) (k : Numbers) (a b : Spot) (m : Move) → effect c (moved_numbers c k) a b m ≡ effect c k a b m
unfolding effect moved_numbers
moved_effect c k a b stuck = refl
moved_effect c k a b (alone vs p) = refl
moved_effect c k a b unvalued = refl
moved_effect c k a b (sends m) = refl

-- what the step on the rewritten words is, by what the earlier one is; `fit` says that a result fits in the new layout
data Alike (fit : Stepped → Type 0) : Result Stepped → Result Stepped → Type 0 where
  refused_alike : {r : Refusal} → Alike fit (refused r) (refused r)
  too_long : {r : Refusal} {o : Result Stepped} → T (of_length r) → Alike fit (refused r) o
  done_alike : {s : Stepped} {o : Result Stepped} → (fit s → o ≡ done s) → Alike fit (done s) o

module _ {fit : Stepped → Type 0} where
  alike_then :
      {A : Type 0} (r : Refusal) {o o' : Option A} → o' ≡ o → {k k' : A → Result Stepped} → ((a : A) → Alike fit (k a) (k' a)) →
      Alike fit ((r ! o) >>= k) ((r ! o') >>= k')
  unfolding ◌!◌ ◌>>=◌
  alike_then r {o} {o'} e {k} {k'} f = rw e (by o)
    where
      by : (o : Option _) → Alike fit ((r ! o) >>= k) ((r ! o) >>= k')
      by none = refused_alike
      by (some a) = f a

  -- both have an answer, the same
  alike_both :
      {A : Type 0} (r : Refusal) {o o' : Option A} {a : A} → o ≡ some a → o' ≡ some a → (k k' : A → Result Stepped) → Alike fit (k a) (k' a) →
      Alike fit ((r ! o) >>= k) ((r ! o') >>= k')
  unfolding ◌!◌ ◌>>=◌
  alike_both r e e' k k' g = rw (e, e') g

  alike_unless : (r : Refusal) (b : Bool) {k k' : Result Stepped} → Alike fit k k' → Alike fit (◌>>◌ (r unless b) k) (◌>>◌ (r unless b) k')
  unfolding ◌unless◌ ◌>>◌
  alike_unless r true g = g
  alike_unless r false g = refused_alike

  -- the earlier lengths may be refused; the later ones pass where the result fits
  alike_lengths :
      (b1 b2 c1 c2 : Bool) (s : Stepped) → (fit s → T c1 × T c2) →
      Alike fit (◌>>◌ (long unless b1) (◌>>◌ (short unless b2) (done s))) (◌>>◌ (long unless c1) (◌>>◌ (short unless c2) (done s)))
  unfolding ◌unless◌ ◌>>◌
  alike_lengths true true c1 c2 s f = done_alike λ t. passing c1 c2 (f t)
    where
      passing : (c1 c2 : Bool) → T c1 × T c2 → ◌>>◌ (long unless c1) (◌>>◌ (short unless c2) (done s)) ≡ done s
      passing true true t = refl
      passing true false t = absurd t.1
      passing false c2 t = absurd t.0
  alike_lengths true false c1 c2 s f = too_long tt
  alike_lengths false b2 c1 c2 s f = too_long tt

-- in an input of at most `most` words and a room of `room'`
module _ (limits : Limits) (most room' : ℕ) where
  abbrev large : Limits
  large = record { deepest = limits.deepest; longest = most }

  abbrev Room : Stepped → Type 0
  Room s = (length (encode s.config) ≤ most) × (length (encode s.config) ≤ room')

  alike :
      (ws : List ℕ) (k : Numbers) (room : ℕ) {c : Config} →
      earlier_config limits ws ≡ some c →
      length (encode c) ≤ most →
      Alike Room (earlier_step limits ws k room) (step large (encode c) (moved_numbers c k) room')
  unfolding earlier_step step moved_numbers
  alike ws k room {c} e b =
      let g : Earlier limits c = (earlier_found limits ws c e).1 in
      let reads : read_config large (encode c) ≡ some c = config_finds large c (record { fitting = g.fitting; shallow = g.shallow; short = b }) in
      alike_both unreadable e reads _ _
      (alike_then nobody_there (moved_at g.fitting g.alone k.engine k.position) λ a.
      alike_then no_move (moved_movable c k _) λ m.
      alike_then no_partner (moved_partner g.fitting g.alone k a m) λ b.
      alike_then no_fit (moved_effect c k a b m) λ o.
      alike_then not_decimal refl λ x.
      alike_then installing refl λ s.
      alike_unless serials_spent (leb s.config.issued 65535)
      (alike_unless deep (leb (engines_depth s.config.engines) limits.deepest)
      (alike_lengths (leb (length (earlier_encode s.config)) limits.longest) (leb (length (earlier_encode s.config)) room) (leb (length (encode s.config)) most)
      (leb (length (encode s.config)) room') s
      λ t. (le→leb (length (encode s.config)) most t.0, le→leb (length (encode s.config)) room' t.1))))

-- read off
abbrev DoneAs : (Stepped → Type 0) → Result Stepped → Result Stepped → Type 0
DoneAs fit o (refused r) = Unit {0}
DoneAs fit o (done s) = fit s → o ≡ done s

done_as : {fit : Stepped → Type 0} {q o : Result Stepped} → Alike fit q o → DoneAs fit o q
done_as refused_alike = tt
done_as (too_long t) = tt
done_as (done_alike f) = f

abbrev RefusedAs : Result Stepped → Result Stepped → Type 0
RefusedAs o (refused r) = T (not (of_length r)) → o ≡ refused r
RefusedAs o (done s) = Unit {0}

refused_as : {fit : Stepped → Type 0} {q o : Result Stepped} → Alike fit q o → RefusedAs o q
refused_as refused_alike = λ t. refl
refused_as (too_long {r = r} t) = λ u. absurd (not_both (of_length r) u t)
refused_as (done_alike f) = tt

-- an accepted earlier step's result is within the earlier length
all_any : {A : Type 0} (o : Option A) → All (λ a. Unit {0}) o
all_any none = all_none
all_any (some a) = all_some tt

earlier_short : (limits : Limits) (ws : List ℕ) (k : Numbers) (room : ℕ) → Sure (λ s. length (earlier_encode s.config) ≤ limits.longest) (earlier_step limits ws k room)
unfolding earlier_step
earlier_short limits ws k room =
    sure_then (sure_given unreadable (all_any _)) λ c u1.
    sure_then (sure_given nobody_there (all_any _)) λ a u2.
    sure_then (sure_given no_move (all_any _)) λ m u3.
    sure_then (sure_given no_partner (all_any _)) λ b u4.
    sure_then (sure_given no_fit (all_any _)) λ o u5.
    sure_then (sure_given not_decimal (all_any _)) λ x u6.
    sure_then (sure_given installing (all_any _)) λ s u7.
    sure_unless serials_spent (leb s.config.issued 65535) λ u8.
    sure_unless deep (leb (engines_depth s.config.engines) limits.deepest) λ u9.
    sure_unless long (leb (length (earlier_encode s.config)) limits.longest) λ t.
    sure_unless short (leb (length (earlier_encode s.config)) room) λ u10.
    sure_done (leb→le (length (earlier_encode s.config)) limits.longest t)

-- an accepted earlier step gives an earlier configuration
pub earlier_kept :
    (limits : Limits) (ws : List ℕ) (k : Numbers) (room : ℕ) (c : Config) (s : Stepped) →
    earlier_config limits ws ≡ some c →
    earlier_step limits ws k room ≡ done s →
    Earlier limits s.config
earlier_kept limits ws k room c s e d =
    let most : ℕ = length (encode c) + length (encode s.config) in
    let within : Limits = record { deepest = limits.deepest; longest = most } in
    let room' : ℕ = length (encode s.config) in
    let g : Earlier limits c = (earlier_found limits ws c e).1 in
    let reads : read_config within (encode c) ≡ some c = config_finds within c (record { fitting = g.fitting; shallow = g.shallow; short = omega arith }) in
    let walk : Alike (Room limits most room') (earlier_step limits ws k room) (step within (encode c) (moved_numbers c k) room') =
    alike limits most room' ws k room e (omega arith) in
    let accepted : step within (encode c) (moved_numbers c k) room' ≡ done s =
    subst (DoneAs (Room limits most room') (step within (encode c) (moved_numbers c k) room')) d (done_as walk) (omega arith, omega arith) in
    let readable : Readable within s.config = sure_done_lem (step_fits within (encode c) (moved_numbers c k) room') accepted in
    record {
      fitting = readable.fitting;
      alone = sure_done_lem (step_single within (encode c) (moved_numbers c k) room' reads g.alone) accepted;
      shallow = readable.shallow;
      short = sure_done_lem (earlier_short limits ws k room) d;
    }

rewritten_as : (limits : Limits) (ws : List ℕ) {c : Config} → earlier_config limits ws ≡ some c → rewritten limits ws ≡ encode c
unfolding rewritten relaid
rewritten_as limits ws e = rw e

answered :
    (limits : Limits) (ws ws' us : List ℕ) (k : Numbers) (out : List ℕ) (s : Stepped) →
    ws' ≡ ws → us ≡ encode s.config → step limits ws k (length out) ≡ done s →
    (step_answer limits ws' k out ≡ record { number = 0; kind = s.kind; serial = s.serial; fault = s.fault; length = length us })
    × (step_output limits ws' k out ≡ over us out)
unfolding step_answer step_output answer_of output_of
answered limits ws ws' us k out s e e' d = rw (e, e', d) (refl, refl)

-- A step on rewritten words gives the rewriting of the earlier result
pub rewriting_follows : RewritingFollows
rewriting_follows limits ws k room out c s e d b1 b2 b3 =
    let input : rewritten limits ws ≡ encode c = rewritten_as limits ws e in
    let output : rewritten limits (earlier_encode s.config) ≡ encode s.config =
    rewritten_as limits (earlier_encode s.config) (earlier_finds limits s.config (earlier_kept limits ws k room c s e d)) in
    let fits1 : length (encode c) ≤ limits.longest = rw input at b1 in
    let fits2 : length (encode s.config) ≤ limits.longest = rw output at b2 in
    let fits3 : length (encode s.config) ≤ length out = rw output at b3 in
    let walk : Alike (Room limits limits.longest (length out)) (earlier_step limits ws k room) (step limits (encode c) (moved_numbers c k) (length out)) =
    alike limits limits.longest (length out) ws k room e fits1 in
    let accepted : step limits (encode c) (moved_numbers c k) (length out) ≡ done s =
    subst (DoneAs (Room limits limits.longest (length out)) (step limits (encode c) (moved_numbers c k) (length out))) d (done_as walk) (fits2, fits3) in
    let both = answered limits (encode c) (rewritten limits ws) (rewritten limits (earlier_encode s.config)) (moved_numbers c k) out s input output accepted in
    record { answers = both.0; writes = both.1 }

-- and its refusals but 1, 9 and 10 are the same
pub rewriting_refuses : RewritingRefuses
rewriting_refuses limits ws k room room' c r e d t b =
    let input : rewritten limits ws ≡ encode c = rewritten_as limits ws e in
    let walk : Alike (Room limits limits.longest room') (earlier_step limits ws k room) (step limits (encode c) (moved_numbers c k) room') =
    alike limits limits.longest room' ws k room e (rw input at b) in
    rw input (subst (RefusedAs (step limits (encode c) (moved_numbers c k) room')) d (refused_as walk) t)
