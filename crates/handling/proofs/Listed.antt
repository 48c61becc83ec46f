-- The first entry of a list that stands at a position: its key, its process, and the entries behind it. What a copy of it lays.
-- Assumes nothing.
use Prim.Native.Nat.{ℕ, suc, ◌+◌, ◌-◌, ◌≤◌, ◌<◌}
use native.Mathlib.Omega.{arith}
use mathlib.Core.Path.{◌≡◌, refl, sym, ap, ◌∙◌}
use mathlib.Core.Bool.{Bool, true, false, cond}
use mathlib.Core.List.{List, [], ◌∷◌, ◌++◌, append_assoc, append-nil}
use lib.Dec.{ltb, nltb→le}
use lib.ListN.{length, get_or, set, take, drop, length-append, length-drop}
use lib.Seq.{paste, length-paste, take-set-lt}
use Rattle.sock.specs.Words.{key_word}
use Rattle.sock.specs.Term.{Node, Entries, entry}
use Rattle.sock.specs.Layout.{count, words, entries_words, depth}
use Rattle.sock.specs.Reading.{code, anywhere}
use Rattle.sock.proofs.Logic.{false_test}
use Rattle.sock.proofs.Fits.{Fits, FitsEntries, empty_fits, entry_fits_on}
use Rattle.sock.proofs.Positions.{at_head, at_past}
use Rattle.skipping.specs.Skip.{skip_end}
use Rattle.skipping.proofs.Skips.{code_end}
use Rattle.layout.specs.Positions.{onward}
use Rattle.writers.specs.Writing.{pasted, pasted_end}
use Rattle.writers.proofs.Laid.{Near, onward_near, Laid, laid_copy, copy_end}

pub record FirstEntry (ws : List ℕ) (i k : ℕ) (p : Node) (behind : List ℕ) : Type 0 where
  pub inside : i < length ws
  pub whole : i + 1 + length (words p) + length behind ≡ length ws
  pub key : get_or ws i 0 ≡ key_word k
  pub next : onward i 1 ≡ i + 1
  pub all : drop i ws ≡ (key_word k ∷ words p) ++ behind
  pub process : drop (i + 1) ws ≡ words p ++ behind
  pub after : drop (i + 1 + length (words p)) ws ≡ behind

-- a list has no more entries than there are keys
few_above : {o : Bool} {least : ℕ} {h : Entries} → FitsEntries o least h → least ≤ 128 → count h + least ≤ 128
unfolding count
few_above empty_fits b = omega arith
few_above (entry_fits_on {k = k} x y z u v) b = let q = few_above v (omega arith) in omega arith

pub few_entries : {o : Bool} {least : ℕ} {h : Entries} → FitsEntries o least h → count h ≤ 128
unfolding count
few_entries empty_fits = omega arith
few_entries (entry_fits_on {k = k} x y z u v) = let q = few_above v (omega arith) in omega arith

-- a copy keeps the output's length
pub pasted_length : (ws : List ℕ) (from upto : ℕ) (out : List ℕ) (to : ℕ) → length (pasted ws from upto out to) ≡ length out
unfolding pasted
pasted_length ws from upto out to =
    by (ltb (length ws) upto) (ltb upto from) (ltb (length out) to) (ltb (length out - to) (upto - from)) refl refl refl refl
  where
    by :
        (a b c d : Bool) → ltb (length ws) upto ≡ a → ltb upto from ≡ b → ltb (length out) to ≡ c →
        ltb (length out - to) (upto - from) ≡ d →
        length (cond a out (cond b out (cond c out (cond d out (paste out to (drop from ws) (upto - from)))))) ≡ length out
    by true b c d x y z u = refl
    by false true c d x y z u = refl
    by false false true d x y z u = refl
    by false false false true x y z u = refl
    by false false false false x y z u =
        let e : upto ≤ length ws = nltb→le (length ws) upto (false_test x) in
        let f : from ≤ upto = nltb→le upto from (false_test y) in
        let g : to ≤ length out = nltb→le (length out) to (false_test z) in
        let h : upto - from ≤ length out - to = nltb→le (length out - to) (upto - from) (false_test u) in
        length-paste out to (drop from ws) (upto - from) (omega arith) (let l = length-drop from ws in omega arith)

-- nothing laid
pub laid_none : (out : List ℕ) (to : ℕ) → Laid out to [] out
laid_none out to = record { keeps = refl; begins = let e : to + 0 ≡ to = omega arith in rw e (sym (append-nil (take to out))) }

-- a list's count put in front of its entries
pub count_laid : (out x mid : List ℕ) (c : ℕ) → Laid out 1 x mid → 0 < length out → take (1 + length x) (set mid 0 c) ≡ c ∷ x
count_laid [] x mid c l b = absurd (omega arith)
count_laid (w ∷ out) x mid c l b = take-set-lt (1 + length x) mid 0 c (omega arith) ∙ ap (λ (y : List ℕ). set y 0 c) l.begins

module _ (ws : List ℕ) (near : Near (length ws)) where
  pub first_entry :
      (i k : ℕ) (p : Node) (es : Entries) (rest : List ℕ) → drop i ws ≡ entries_words (entry k p es) ++ rest →
      FirstEntry ws i k p (entries_words es ++ rest)
  unfolding words
  first_entry i k p es rest e =
      let x : drop i ws ≡ key_word k ∷ (words p ++ (entries_words es ++ rest)) = e
      ∙ ap (λ l. key_word k ∷ l) (append_assoc (words p) (entries_words es) rest) in
      let a = at_head ws i (key_word k) (words p ++ (entries_words es ++ rest)) x in
      let b : i < length ws = a.inside in
      let y : length ws - i ≡ suc (length (words p) + length (entries_words es ++ rest)) =
      sym (length-drop i ws) ∙ ap length x ∙ ap suc (length-append (words p) (entries_words es ++ rest)) in
      record {
        inside = b;
        whole = omega arith;
        key = a.word;
        next = onward_near i 1 (length ws) near (omega arith);
        all = x;
        process = a.next;
        after = at_past ws (words p) (entries_words es ++ rest) (i + 1) a.next;
      }

  module _ {i k : ℕ} {p : Node} {behind : List ℕ} (f : FirstEntry ws i k p behind) where
    -- where the entry ends
    pub entry_end :
        (d : ℕ) → Fits (code false) anywhere p → depth p ≤ d →
        skip_end d ws (onward i 1) ≡ i + 1 + length (words p)
    entry_end d g b = rw f.next (code_end ws g d (i + 1) b behind f.process)

    -- the entry copied
    behind_it : i + 1 + length (words p) ≡ i + length (key_word k ∷ words p)
    behind_it = omega arith

    pub entry_reaches :
        (to room : ℕ) → Near room → to + suc (length (words p)) ≤ room →
        pasted_end ws i (i + 1 + length (words p)) to ≡ to + suc (length (words p))
    entry_reaches to room n b =
        let x = f.inside in
        copy_end ws (key_word k ∷ words p) behind i (i + 1 + length (words p)) to room f.all (omega arith) behind_it n b

    pub entry_laid :
        (out : List ℕ) (to : ℕ) → to + suc (length (words p)) ≤ length out →
        Laid out to (key_word k ∷ words p) (pasted ws i (i + 1 + length (words p)) out to)
    entry_laid out to b =
        let x = f.inside in
        laid_copy ws (key_word k ∷ words p) behind i (i + 1 + length (words p)) out to f.all (omega arith) behind_it b
