-- A scope with nil body that was found: its words, its list, its head's fields, and how deep it is.
-- Assumes nothing.
use Prim.Native.Nat.{ℕ, zero, suc, ◌+◌, ◌*◌, ◌/◌, ◌%◌, ◌≤◌, ◌<◌, max}
use native.Mathlib.Omega.{arith}
use mathlib.Core.Path.{◌≡◌, refl, ap, ◌∙◌}
use mathlib.Core.Bool.{Bool, true, false, cond}
use mathlib.Core.List.{List, [], ◌∷◌, ◌++◌, append_assoc}
use lib.Dec.{eqb}
use lib.ListN.{length, get_or, drop, length-append}
use Rattle.sock.specs.Words.{bit, fault_key, scope_key}
use Rattle.sock.specs.Term.{Node, node, Entries, no_entries, entry}
use Rattle.sock.specs.Layout.{exprs_words, exprs_depth, count, words, entries_words, depth, entries_depth}
use Rattle.sock.specs.Running.{Mark, unmarked, faulted, own_name, mark_number, marked_fault, scope_head, Run, nil, seq, par, scope, executor, run_words, size, run_depth}
use Rattle.sock.specs.Handlers.{handler}
use Rattle.sock.specs.Frames.{Frame, seq_frame, left_frame, right_frame, scope_frame, executor_frame, Located}
use Rattle.sock.proofs.Logic.{cond-case}
use Rattle.sock.proofs.Fits.{FitsEntries, MarkFits, Sound, seq_sound, par_sound, scope_sound, executor_sound, SoundFrames}
use Rattle.sock.proofs.Located.{wrap}
use Rattle.sock.proofs.Measures.{words_nil, words_scope, depth_nil, depth_scope}
use Rattle.sock.proofs.Positions.{At, at_head}
use Rattle.skipping.specs.Pass.{pass_list}
use Rattle.skipping.proofs.Notes.{Right, pass_entries_lem}
use Rattle.finding.specs.declared.find.Site.{Site}
use Rattle.finding.proofs.Spots.{Spotted}
use Rattle.finding.proofs.Edits.{process_at}
use Rattle.layout.specs.Positions.{onward}
use Rattle.writers.proofs.Laid.{Near, onward_near}
use Rattle.rules.proofs.Depths.{Shallow}
use Rattle.scopes.specs.Ending.{resumed_head, key_at_w}
use Rattle.scopes.proofs.ScopeLists.{whole_inside, frames_deep, process_inside}

-- ---- what is in frames is sound if the whole is

seq_sound_lem : {n issued : ℕ} {a : Run} {q : Node} → Sound n issued (seq a q) → Sound n issued a
seq_sound_lem (seq_sound x t f) = x

left_sound : {n issued : ℕ} {a b : Run} → Sound n issued (par a b) → Sound n issued a
left_sound (par_sound x t y u) = x

right_sound : {n issued : ℕ} {a b : Run} → Sound n issued (par a b) → Sound n issued b
right_sound (par_sound x t y u) = y

body_sound : {n issued name : ℕ} {mark : Mark} {zombie : Bool} {h : Entries} {a : Run} → Sound n issued (scope name mark zombie h a) →
    Sound n issued a
body_sound (scope_sound x y z g) = g

end_sound : {n issued o : ℕ} {y : List ℕ} {client serial : ℕ} {a : Run} → Sound n issued (executor o y client serial a) → Sound n issued a
end_sound (executor_sound x y z g) = g

pub inner_sound : {n issued : ℕ} (fs : List Frame) (a : Run) → Sound n issued (wrap fs a) → Sound n issued a
unfolding wrap
inner_sound [] a g = g
inner_sound (seq_frame q ∷ fs) a g = seq_sound_lem (inner_sound fs (seq a q) g)
inner_sound (left_frame b ∷ fs) a g = left_sound (inner_sound fs (par a b) g)
inner_sound (right_frame b ∷ fs) a g = right_sound (inner_sound fs (par b a) g)
inner_sound (scope_frame name mark zombie h ∷ fs) a g = body_sound (inner_sound fs (scope name mark zombie h a) g)
inner_sound (executor_frame o y client serial ∷ fs) a g = end_sound (inner_sound fs (executor o y client serial a) g)

pub scope_fits_lem : {n issued name : ℕ} {mark : Mark} {zombie : Bool} {h : Entries} {a : Run} → Sound n issued (scope name mark zombie h a) →
    (name < 64) × (MarkFits mark zombie h × FitsEntries true zero h)
scope_fits_lem (scope_sound x y z g) = (x, (y, z))

-- ---- a scope's head

bit_small : (b : Bool) → bit b ≤ 1
bit_small true = omega arith
bit_small false = omega arith

mark_small : (m : Mark) → mark_number m ≤ 2
mark_small unmarked = omega arith
mark_small (faulted f) = omega arith
mark_small own_name = omega arith

module _ (name : ℕ) (mark : Mark) (zombie : Bool) (low : name < 64) where
  pub head_mark : scope_head name mark zombie / 8 % 4 ≡ mark_number mark
  head_mark = omega (arith, bit_small zombie, mark_small mark)

  pub head_zombie : scope_head name mark zombie / 4 % 2 ≡ bit zombie
  head_zombie = omega (arith, bit_small zombie, mark_small mark)

  pub head_name : scope_head name mark zombie / 32 % 64 ≡ name
  head_name = omega (arith, bit_small zombie, mark_small mark)

  pub head_cleared : resumed_head (scope_head name mark zombie) ≡ scope_head name unmarked zombie
  head_cleared = omega (arith, bit_small zombie, mark_small mark)

-- the key of the handler it runs or hands on
abbrev pub mark_key : ℕ → Mark → ℕ
mark_key name unmarked = scope_key name
mark_key name (faulted x) = fault_key x
mark_key name own_name = scope_key name

-- ---- a handler is no deeper than its list, and no longer

pub node_some : (x : Node) → 0 < length (words x)
unfolding words
node_some (node a b c d e) = omega arith

pub handler_shallow : (k : ℕ) (h : Entries) → depth (handler k h) ≤ max (entries_depth h) 1
unfolding handler depth exprs_depth
handler_shallow k no_entries = omega arith
handler_shallow k (entry j p es) =
    cond-case (λ (x : Node). depth x ≤ max (max (depth p) (entries_depth es)) 1) (eqb k j) (λ t. omega arith)
    (λ t. let r = handler_shallow k es in omega arith)

pub handler_short : (k : ℕ) (h : Entries) → length (words (handler k h)) ≤ 1 + length (entries_words h)
unfolding handler words exprs_words
handler_short k no_entries = omega arith
handler_short k (entry j p es) =
    let a = length-append (words p) (entries_words es) in
    cond-case (λ (x : Node). length (words x) ≤ 1 + suc (length (words p ++ entries_words es))) (eqb k j) (λ t. omega arith)
    (λ t. let r = handler_short k es in omega arith)

-- ---- where it stands

module _ (f target : ℕ) (r : Run) (start : ℕ) (l : Located) (s : Site) (ws : List ℕ)
    (words_at : drop start ws ≡ run_words r ++ drop (start + size r) ws)
    (spotted : Spotted f target r start 1 l s) (near : Near (length ws)) {n issued : ℕ} (frames : SoundFrames n issued l.frames)
    {most : ℕ} (deep : Shallow most r)
    (name : ℕ) (mark : Mark) (zombie : Bool) (h : Entries) (is : l.process ≡ scope name mark zombie h nil) where
  pub its_words : run_words l.process ≡ scope_head name mark zombie ∷ (marked_fault mark * 1024) ∷ count h ∷ (entries_words h ++ (0 ∷ []))
  its_words =
      ap run_words is
      ∙ (words_scope name mark zombie h nil
      ∙ ap (λ w. scope_head name mark zombie ∷ (marked_fault mark * 1024) ∷ count h ∷ (entries_words h ++ w)) words_nil)

  pub its_size : size l.process ≡ 4 + length (entries_words h)
  unfolding size
  its_size = ap length its_words ∙ omega (arith, length-append (entries_words h) (0 ∷ []))

  pub its_depth : run_depth l.process ≡ suc (max (entries_depth h) 1)
  its_depth = ap run_depth is ∙ (depth_scope name mark zombie h nil ∙ ap (λ d. suc (max (entries_depth h) d)) depth_nil)

  pub its_place : length l.frames + suc (max (entries_depth h) 1) ≤ most
  its_place = omega (arith, (frames_deep f target r start l s ws words_at spotted near frames deep).1, its_depth)

  pub its_inside : target + 4 + length (entries_words h) ≤ length ws
  its_inside =
      omega (
        arith,
        process_inside f target r start l s ws words_at spotted near frames deep,
        its_size,
        whole_inside f target r start l s ws words_at spotted near frames deep,
      )

  abbrev more : List ℕ
  more = (process_at f target r start 1 l s ws (drop (start + size r) ws) words_at spotted).0

  abbrev behind : List ℕ
  behind = entries_words h ++ ((0 ∷ []) ++ more)

  first : At ws target (scope_head name mark zombie) ((marked_fault mark * 1024) ∷ count h ∷ behind)
  first =
      at_head ws target (scope_head name mark zombie) ((marked_fault mark * 1024) ∷ count h ∷ behind)
      ((process_at f target r start 1 l s ws (drop (start + size r) ws) words_at spotted).1
      ∙ (ap (λ w. w ++ more) its_words
      ∙ ap (λ w. scope_head name mark zombie ∷ (marked_fault mark * 1024) ∷ count h ∷ w) (append_assoc (entries_words h) (0 ∷ []) more)))

  second : At ws (target + 1) (marked_fault mark * 1024) (count h ∷ behind)
  second = at_head ws (target + 1) (marked_fault mark * 1024) (count h ∷ behind) first.next

  pub head_at : get_or ws s.at 0 ≡ scope_head name mark zombie
  head_at = ap (λ i. get_or ws i 0) spotted.at ∙ first.word

  pub to_own : onward s.at 2 ≡ target + 2
  to_own = ap (λ i. onward i 2) spotted.at ∙ onward_near target 2 (length ws) near (omega (arith, its_inside))

  pub own_list : (rest : List ℕ) × (drop (target + 2) ws ≡ count h ∷ (entries_words h ++ rest))
  own_list = ((0 ∷ []) ++ more, ap (λ i. drop i ws) (let z : target + 2 ≡ target + 1 + 1 = omega arith in z) ∙ second.next)

  pub own_ends : (notes : List ℕ) → Right ws notes → FitsEntries true zero h →
      pass_list 64 ws notes (target + 2) ≡ target + 3 + length (entries_words h)
  own_ends notes right g =
      pass_entries_lem ws notes right g 64 (target + 2) (omega (arith, its_place)) own_list.0 own_list.1 ∙ omega arith

  pub own_key : name < 64 → key_at_w ws s.at ≡ mark_key name mark
  unfolding key_at_w
  own_key low =
      let to : onward s.at 1 ≡ target + 1 =
      ap (λ i. onward i 1) spotted.at ∙ onward_near target 1 (length ws) near (omega (arith, its_inside)) in
      rw (head_at, head_mark name mark zombie low, head_name name mark zombie low, to, second.word) (by mark)
    where
      by : (m : Mark) → cond (eqb (mark_number m) 1) (marked_fault m * 1024 / 1024) (64 + name) ≡ mark_key name m
      by unmarked = refl
      by (faulted x) = omega arith
      by own_name = refl
