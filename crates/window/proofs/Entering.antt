-- An entry into a window, as the code writes it: behind the others, or in place of the oldest.
-- Assumes nothing.
use Prim.Native.Nat.{ℕ, suc, ◌+◌, ◌-◌, ◌≤◌, ◌<◌}
use native.Mathlib.Omega.{arith}
use mathlib.Core.Path.{◌≡◌, refl, sym, ap, ◌∙◌}
use mathlib.Core.List.{List, [], ◌∷◌, ◌++◌, append_assoc}
use lib.ListN.{length, get_or, set, take, drop, replicate, length-append, length-drop}
use lib.Seq.{drop-cons, drop-drop, take_at, drop_at, set_at, paste, length_paste_head}
use Rattle.std.proofs.lemmas.Grind.{common_steps}
use Rattle.window.specs.Window.{recount, window_of}
use Rattle.window.specs.Entering.{raised, lowered}
use Rattle.window.proofs.Counting.{recount_length, raised_is, lowered_is}
use Rattle.window.proofs.Words.{laid_out}

more : (es : List ℕ) (e : ℕ) → length (es ++ (e ∷ [])) ≡ length es + 1
more es e = length-append es (e ∷ [])

joined : (es tail : List ℕ) (e : ℕ) → es ++ (e ∷ tail) ≡ (es ++ (e ∷ [])) ++ tail
joined es tail e = sym (append_assoc es (e ∷ []) tail)

-- ---- behind the others

module _ (es beyond : List ℕ) (e : ℕ) where
  abbrev rest : List ℕ
  rest = replicate (1024 - (length es + 1)) 0 ++ beyond

  pub placed :
      length es < 1024 →
      set (set (window_of es ++ beyond) (65 + length es) e) 64 (length es + 1) ≡ recount es ++ ((length es + 1) ∷ ((es ++ (e ∷ [])) ++ rest))
  placed room =
      let s : 1024 - length es ≡ suc (1024 - (length es + 1)) = omega arith in
      let head : List ℕ = recount es ++ (length es ∷ es) in
      let count : length head ≡ 65 + length es = length-append (recount es) (length es ∷ es) ∙ omega (arith, recount_length es) in
      let split : window_of es ++ beyond ≡ head ++ (0 ∷ rest) =
      laid_out es beyond
      ∙ ap (λ (k : ℕ). recount es ++ (length es ∷ (es ++ (replicate k 0 ++ beyond)))) s
      ∙ sym (append_assoc (recount es) (length es ∷ es) (0 ∷ rest)) in
      ap (λ (t : List ℕ). set (set t (65 + length es) e) 64 (length es + 1)) split
      ∙ ap (λ (t : List ℕ). set t 64 (length es + 1)) (set_at head 0 rest e (65 + length es) count)
      ∙ ap (λ (t : List ℕ). set t 64 (length es + 1)) (append_assoc (recount es) (length es ∷ es) (e ∷ rest))
      ∙ set_at (recount es) (length es) (es ++ (e ∷ rest)) (length es + 1) 64 (recount_length es)
      ∙ ap (λ (t : List ℕ). recount es ++ ((length es + 1) ∷ t)) (joined es rest e)

  -- the entry's count raised behind it, in a window of this many entries
  raised_to :
      e ≤ 64 → (k : ℕ) → length (es ++ (e ∷ [])) ≡ k →
      raised e (recount es ++ (k ∷ ((es ++ (e ∷ [])) ++ (replicate (1024 - k) 0 ++ beyond)))) ≡ window_of (es ++ (e ∷ [])) ++ beyond
  raised_to h k s =
      raised_is e es (k ∷ ((es ++ (e ∷ [])) ++ (replicate (1024 - k) 0 ++ beyond))) h
      ∙ ap (λ (j : ℕ). recount (es ++ (e ∷ [])) ++ (j ∷ ((es ++ (e ∷ [])) ++ (replicate (1024 - j) 0 ++ beyond)))) (sym s)
      ∙ sym (laid_out (es ++ (e ∷ [])) beyond)

  pub appended :
      length es < 1024 → e ≤ 64 →
      raised e (set (set (window_of es ++ beyond) (65 + length es) e) 64 (length es + 1)) ≡ window_of (es ++ (e ∷ [])) ++ beyond
  appended room h = ap (raised e) (placed room) ∙ raised_to h (length es + 1) (more es e)

-- ---- in place of the oldest

-- words moved one place down, and the next written
moved :
    (d : List ℕ) (k e : ℕ) → 65 + k < length d →
    set (paste d 65 (drop 66 d) k) (65 + k) e ≡ (take 65 d ++ take k (drop 66 d)) ++ (e ∷ drop (suc (65 + k)) d)
moved d k e l =
    let front : List ℕ = take 65 d ++ take k (drop 66 d) in
    let a : 65 ≤ length d = omega arith in
    let b : k ≤ length (drop 66 d) = omega (arith, length-drop 66 d) in
    ap (λ (t : List ℕ). set (front ++ t) (65 + k) e) (drop-cons d (65 + k) 0 l)
    ∙ set_at front (get_or d (65 + k) 0) (drop (suc (65 + k)) d) e (65 + k) (length_paste_head d 65 (drop 66 d) k a b)

module _ (o : ℕ) (es beyond : List ℕ) where
  abbrev zeros : List ℕ
  zeros = replicate (1024 - suc (length es)) 0 ++ beyond

  -- the window once the oldest is taken off its count
  abbrev taken : List ℕ
  taken = recount es ++ (suc (length es) ∷ ((o ∷ es) ++ zeros))

  pub taken_off : o ≤ 64 → lowered o (window_of (o ∷ es) ++ beyond) ≡ taken
  taken_off h = ap (lowered o) (laid_out (o ∷ es) beyond) ∙ lowered_is o es (suc (length es) ∷ ((o ∷ es) ++ zeros)) h

  head : List ℕ
  head = recount es ++ (suc (length es) ∷ [])

  head_length : length head ≡ 65
  unfolding head
  head_length = length-append (recount es) (suc (length es) ∷ []) ∙ omega (arith, recount_length es)

  split : taken ≡ head ++ (o ∷ (es ++ zeros))
  unfolding head
  split = grind (arith, common_steps)

  pub taken_length : 65 + length es < length taken
  taken_length =
      let s : length taken ≡ length head + suc (length (es ++ zeros)) = ap length split ∙ length-append head (o ∷ (es ++ zeros)) in
      omega (arith, s, head_length, length-append es zeros)

  pub put_last :
      (e : ℕ) →
      set (paste taken 65 (drop 66 taken) (length es)) (65 + length es) e ≡ recount es ++ (suc (length es) ∷ ((es ++ (e ∷ [])) ++ zeros))
  unfolding head
  put_last e =
      let k : ℕ = length es in
      let front : take 65 taken ≡ head = ap (take 65) split ∙ take_at head (o ∷ (es ++ zeros)) 65 head_length in
      let back : drop 65 taken ≡ o ∷ (es ++ zeros) = ap (drop 65) split ∙ drop_at head (o ∷ (es ++ zeros)) 65 head_length in
      let next : drop 66 taken ≡ es ++ zeros = sym (drop-drop 1 65 taken) ∙ ap (drop 1) back in
      let kept : take k (drop 66 taken) ≡ es = ap (take k) next ∙ take_at es zeros k refl in
      let s : 66 + k ≡ suc (65 + k) = omega arith in
      let left : drop (suc (65 + k)) taken ≡ zeros =
      ap (λ (j : ℕ). drop j taken) (sym s) ∙ sym (drop-drop k 66 taken) ∙ ap (drop k) next ∙ drop_at es zeros k refl in
      moved taken k e taken_length
      ∙ ap (λ (t : List ℕ). (t ++ take k (drop 66 taken)) ++ (e ∷ drop (suc (65 + k)) taken)) front
      ∙ ap (λ (t : List ℕ). (head ++ t) ++ (e ∷ drop (suc (65 + k)) taken)) kept
      ∙ ap (λ (t : List ℕ). (head ++ es) ++ (e ∷ t)) left
      ∙ append_assoc head es (e ∷ zeros)
      ∙ append_assoc (recount es) (suc (length es) ∷ []) (es ++ (e ∷ zeros))
      ∙ ap (λ (t : List ℕ). recount es ++ (suc (length es) ∷ t)) (joined es zeros e)

  pub replaced :
      (e : ℕ) → e ≤ 64 → raised e (set (paste taken 65 (drop 66 taken) (length es)) (65 + length es) e) ≡ window_of (es ++ (e ∷ [])) ++ beyond
  replaced e h =
      ap (raised e) (put_last e) ∙ raised_to es beyond e h (suc (length es)) (more es e ∙ (let s : length es + 1 ≡ suc (length es) = omega arith in s))
