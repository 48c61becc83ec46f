-- What is enabled is said by the form of a Run, by `locate` and by `enabled_in`, and is the same: the processes that stand at the positions of a
-- process's words, from the first on, are those of `enabled_in`. That a Run has what was read enabled is `awake_sound` and `as_node_awake` of Running.
-- Assumes nothing.
use Prim.Native.Nat.{ℕ, zero, suc, ◌+◌, ◌-◌, ◌≤◌, ◌<◌}
use native.Mathlib.Omega.{arith}
use mathlib.Core.Path.{◌≡◌, refl, ap, ap₂, ◌∙◌}
use mathlib.Core.Bool.{true, cond}
use mathlib.Core.Option.{Option, none, some}
use mathlib.Core.List.{List, [], ◌∷◌, ◌++◌, append-nil}
use lib.Dec.{ltb, lt→ltb}
use lib.ListN.{length}
use Rattle.sock.specs.Variables.{variable_words}
use Rattle.sock.specs.Layout.{words, entries_words}
use Rattle.sock.specs.Running.{Run, nil, seq, par, scope, executor, waiter, notice, act, size}
use Rattle.sock.specs.Frames.{Frame, seq_frame, left_frame, right_frame, scope_frame, executor_frame, Located, here_or, past, locate}
use Rattle.sock.specs.Pending.{enabled_in}
use Rattle.sock.proofs.Logic.{test_true}
use Rattle.sock.proofs.Measures.{size_seq, size_par, size_scope, size_executor}
use Rattle.sock.proofs.Located.{beyond, inside, size_positive, located_before}

-- the processes found at n positions, from p on
abbrev listed : Option Located → List Run → List Run
listed none rs = rs
listed (some l) rs = l.process ∷ rs

unfoldable pub found : (ℕ → Option Located) → ℕ → ℕ → List Run
found f zero p = []
found f (suc n) p = listed (f p) (found f n (suc p))

found_none : (f : ℕ → Option Located) (n p : ℕ) → ((a : ℕ) → p ≤ a → f a ≡ none) → found f n p ≡ []
unfolding found
found_none f zero p h = refl
found_none f (suc n) p h = ap₂ listed (h p (omega arith)) (found_none f n (suc p) λ a b. h a (omega arith))

-- the same are found where the same stand
found_same :
    (f g : ℕ → Option Located) (n p q : ℕ) → ((i a b : ℕ) → i < n → a ≡ p + i → b ≡ q + i → f a ≡ g b) → found f n p ≡ found g n q
unfolding found
found_same f g zero p q h = refl
found_same f g (suc n) p q h =
    ap₂ listed (h 0 p q (omega arith) (omega arith) (omega arith))
    (found_same f g n (suc p) (suc q) λ i a b w x y. h (suc i) a b (omega arith) (omega arith) (omega arith))

found_split : (f : ℕ → Option Located) (m n k p q : ℕ) → k ≡ m + n → q ≡ p + m → found f k p ≡ found f m p ++ found f n q
unfolding found
found_split f zero n k p q d e =
    let same : p ≡ q = omega arith in
    let many : k ≡ n = omega arith in
    ap₂ (found f) many same
found_split f (suc m) n zero p q d e = absurd (omega arith)
found_split f (suc m) n (suc k) p q d e = ap (listed (f p)) (found_split f m n k (suc p) q (omega arith) (omega arith)) ∙ by (f p)
  where
    by : (o : Option Located) → listed o (found f m (suc p) ++ found f n q) ≡ listed o (found f m (suc p)) ++ found f n q
    by none = refl
    by (some l) = refl

-- ---- a process without parts, and one with parts behind its own words

alone_found : (l : Located) (n : ℕ) → 0 < n → found (λ p. here_or p l none) n 0 ≡ l.process ∷ []
unfolding found here_or
alone_found l zero h = absurd (omega arith)
alone_found l (suc n) h = ap (λ rs. l.process ∷ rs) (found_none (λ p. here_or p l none) n 1 later)
  where
    later : (a : ℕ) → 1 ≤ a → here_or a l none ≡ none
    later zero h = absurd (omega arith)
    later (suc a) h = refl

module _ (l : Located) (own : ℕ) (find : ℕ → Option Located) where
  abbrev at : ℕ → Option Located
  at p = here_or p l (past own p find)

  own_none : (n p : ℕ) → 0 < p → p + n ≡ own → found at n p ≡ []
  unfolding found here_or past
  own_none zero p h e = refl
  own_none (suc n) zero h e = absurd (omega arith)
  own_none (suc n) (suc p) h e =
      let inner : ltb (suc p) own ≡ true = test_true (ltb (suc p) own) (lt→ltb (suc p) own (omega arith)) in
      let none_here : at (suc p) ≡ none = rw inner in
      ap₂ listed none_here (own_none n (suc (suc p)) (omega arith) (omega arith))

  -- nothing is found from the n-th position of the parts on
  parts_found : (n k all : ℕ) → 0 < own → all ≡ own + (n + k) → ((i : ℕ) → n ≤ i → find i ≡ none) → found at all 0 ≡ l.process ∷ found find n 0
  unfolding found here_or
  parts_found n k zero u e none_after = absurd (omega arith)
  parts_found n k (suc all) u e none_after =
      ap (λ rs. l.process ∷ rs)
      (found_split at (own - 1) (n + k) all 1 own (omega arith) (omega arith)
      ∙ ap₂ (λ a b. a ++ b) (own_none (own - 1) 1 (omega arith) (omega arith))
      (found_split at n k (n + k) own (own + n) refl refl
      ∙ ap₂ (λ a b. a ++ b)
      (found_same at find n own 0 λ i a b w x y. inside own i a l find u x ∙ (let same : i ≡ b = omega arith in ap find same))
      (found_none at k (own + n) λ a w. inside own (a - own) a l find u (omega arith) ∙ none_after (a - own) (omega arith))
      ∙ append-nil (found find n 0)))

-- nothing is located past a process's words
none_past : (r : Run) (fs : List Frame) (i : ℕ) → size r ≤ i → locate r i fs ≡ none
none_past r fs i h = by (locate r i fs) refl
  where
    by : (o : Option Located) → locate r i fs ≡ o → o ≡ none
    by none e = refl
    by (some l) e = absurd (omega (arith, located_before r i fs l e, size_positive l.process))

pub enabled_found : (r : Run) (fs : List Frame) → found (λ p. locate r p fs) (size r) 0 ≡ enabled_in r
unfolding enabled_in locate
enabled_found nil fs = alone_found (record { frames = fs; process = nil }) (size nil) (size_positive nil)
enabled_found (waiter o x dead server serial l) fs =
    alone_found (record { frames = fs; process = waiter o x dead server serial l }) (size (waiter o x dead server serial l))
    (size_positive (waiter o x dead server serial l))
enabled_found (notice o f client serial) fs =
    alone_found (record { frames = fs; process = notice o f client serial }) (size (notice o f client serial)) (size_positive (notice o f client serial))
enabled_found (act m) fs = alone_found (record { frames = fs; process = act m }) (size (act m)) (size_positive (act m))
enabled_found (seq a q) fs =
    parts_found (record { frames = fs; process = seq a q }) 1 (λ i. locate a i inner) (size a) (length (words q)) (size (seq a q)) (omega arith) (omega (arith, size_seq a q))
    (none_past a inner)
    ∙ ap (λ rs. seq a q ∷ rs) (enabled_found a inner)
  where
    inner : List Frame
    inner = seq_frame q ∷ fs
enabled_found (scope name mark zombie h a) fs =
    parts_found (record { frames = fs; process = scope name mark zombie h a }) (3 + length (entries_words h)) (λ i. locate a i inner) (size a) 0
    (size (scope name mark zombie h a)) (omega arith) (omega (arith, size_scope name mark zombie h a)) (none_past a inner)
    ∙ ap (λ rs. scope name mark zombie h a ∷ rs) (enabled_found a inner)
  where
    inner : List Frame
    inner = scope_frame name mark zombie h ∷ fs
enabled_found (executor o y client serial a) fs =
    parts_found (record { frames = fs; process = executor o y client serial a }) (3 + length (variable_words y)) (λ i. locate a i inner) (size a) 0
    (size (executor o y client serial a)) (omega arith) (omega (arith, size_executor o y client serial a)) (none_past a inner)
    ∙ ap (λ rs. executor o y client serial a ∷ rs) (enabled_found a inner)
  where
    inner : List Frame
    inner = executor_frame o y client serial ∷ fs
enabled_found (par a b) fs =
    parts_found (record { frames = fs; process = par a b }) 1 sides (size a + size b) 0 (size (par a b)) (omega arith) (omega (arith, size_par a b)) after
    ∙ ap (λ rs. par a b ∷ rs)
    (found_split sides (size a) (size b) (size a + size b) 0 (size a) refl (omega arith)
    ∙ ap₂ (λ x y. x ++ y) (found_same sides (λ i. locate a i left) (size a) 0 0 first ∙ enabled_found a left)
    (found_same sides (λ i. locate b i right) (size b) (size a) 0 second ∙ enabled_found b right))
  where
    left : List Frame
    left = left_frame b ∷ fs

    right : List Frame
    right = right_frame a ∷ fs

    sides : ℕ → Option Located
    sides i = cond (ltb i (size a)) (locate a i left) (locate b (i - size a) right)

    first : (i p q : ℕ) → i < size a → p ≡ 0 + i → q ≡ 0 + i → sides p ≡ locate a q left
    first i p q w x y =
        let within : ltb p (size a) ≡ true = test_true (ltb p (size a)) (lt→ltb p (size a) (omega arith)) in
        let same : p ≡ q = omega arith in
        rw within (ap (λ i. locate a i left) same)

    second : (i p q : ℕ) → i < size b → p ≡ size a + i → q ≡ 0 + i → sides p ≡ locate b q right
    second i p q w x y = beyond (size a) q p (locate a p left) (λ i. locate b i right) (omega arith)

    after : (i : ℕ) → size a + size b ≤ i → sides i ≡ none
    after i w = beyond (size a) (i - size a) i (locate a i left) (λ i. locate b i right) (omega arith) ∙ none_past b right (i - size a) (omega arith)
