-- An entry taken out of a scope's list on words: the words of the list without it, and where it stands.
-- Assumes nothing.
use Prim.Native.Nat.{ℕ, zero, suc, ◌+◌, ◌-◌, ◌*◌, ◌/◌, ◌≤◌, ◌<◌}
use native.Mathlib.Omega.{arith}
use mathlib.Core.Path.{◌≡◌, refl, subst, sym, ap, ◌∙◌}
use mathlib.Core.Bool.{Bool, true, false, ◌||◌, cond}
use mathlib.Core.List.{List, ◌∷◌, ◌++◌}
use lib.Dec.{T, eqb}
use lib.ListN.{length, get_or, take, drop, length-append, length-set, length-drop}
use borrow.Author.Tests.{eq-eqb, ne_eqb, eqb-true, eqb-false}
use Rattle.sock.specs.Words.{key_word}
use Rattle.sock.specs.Term.{Node, Entries, no_entries, entry, nil_node}
use Rattle.sock.specs.Layout.{count, words, entries_words, depth, entries_depth}
use Rattle.sock.specs.Reading.{code, anywhere, holds}
use Rattle.sock.specs.Handlers.{handler, without}
use Rattle.sock.proofs.Fits.{Fits, FitsEntries, empty_fits, entry_fits_on}
use Rattle.sock.proofs.Positions.{at_head}
use Rattle.sock.proofs.Located.{node_size}
use Rattle.writers.specs.Writing.{pasted}
use Rattle.writers.proofs.Laid.{Near, onward_near, Laid, laid_then}
use Rattle.handling.specs.Taking.{Passed, Took, passing, passed, less_if, pass_w, passes_w, took_w, take_w}
use Rattle.handling.specs.declared.take.Passing.{Passing}
use Rattle.handling.proofs.Listed.{FirstEntry, pasted_length, laid_none, count_laid, first_entry, entry_end, entry_reaches, entry_laid}
use Rattle.handling.proofs.Merged.{without_none}

-- the words of a process stand from..upto
abbrev pub Stands : List ℕ → ℕ → ℕ → Node → Type 0
Stands ws from upto m = (rest : List ℕ) × ((drop from ws ≡ words m ++ rest) × (upto ≡ from + length (words m)))

-- and the key's word in front of them
abbrev pub Keyed : List ℕ → ℕ → ℕ → Type 0
Keyed ws from k = (0 < from) × (get_or ws (from - 1) 0 ≡ key_word k)

-- ---- keys that are not there, and the count

holds_none : (k : ℕ) {o : Bool} {least : ℕ} {h : Entries} → FitsEntries o least h → k < least → holds k h ≡ false
unfolding holds
holds_none k empty_fits b = refl
holds_none k (entry_fits_on {k = j} {es = es} x y z u v) b = rw (ne_eqb k j (λ e. omega arith)) (holds_none k v (omega arith))

no_handler : (b c : Bool) (p : Node) {m : Node} → (c ≡ false → m ≡ nil_node) → b || c ≡ false → cond b p m ≡ nil_node
no_handler true c p f e = absurd (subst T e tt)
no_handler false c p f e = f e

handler_absent : (k : ℕ) (h : Entries) → holds k h ≡ false → handler k h ≡ nil_node
unfolding holds handler
handler_absent k no_entries e = refl
handler_absent k (entry j p es) e = no_handler (eqb k j) (holds k es) p (handler_absent k es) e

all_stay : (b c : Bool) (j : ℕ) (p : Node) {es w : Entries} → (c ≡ false → w ≡ es) → b || c ≡ false → cond b es (entry j p w) ≡ entry j p es
all_stay true c j p f e = absurd (subst T e tt)
all_stay false c j p f e = ap (entry j p) (f e)

pub without_absent : (k : ℕ) (h : Entries) → holds k h ≡ false → without k h ≡ h
unfolding holds without
without_absent k no_entries e = refl
without_absent k (entry j p es) e = all_stay (eqb k j) (holds k es) j p (without_absent k es) e

one_goes :
    (b c : Bool) (j : ℕ) (p : Node) (es w : Entries) → (c ≡ true → count es ≡ suc (count w)) → b || c ≡ true →
    suc (count es) ≡ suc (count (cond b es (entry j p w)))
unfolding count
one_goes true c j p es w f e = refl
one_goes false c j p es w f e = ap suc (f e)

count_present : (k : ℕ) (h : Entries) → holds k h ≡ true → count h ≡ suc (count (without k h))
unfolding holds without count
count_present k no_entries e = absurd (subst T (sym e) tt)
count_present k (entry j p es) e = one_goes (eqb k j) (holds k es) j p es (without k es) (count_present k es) e

-- ---- one entry

-- the entries of `g` have been written, and the process m found, if it is there
pub record Passes (ws : List ℕ) (k : ℕ) (there : Bool) (m : Node) (g : Entries) (s : Passing) (out : List ℕ) (p : Passed) : Type 0 where
  pub reaches : p.state.to ≡ s.to + length (entries_words g)
  pub keeps : length p.out ≡ length out
  pub laid : s.to + length (entries_words g) ≤ length out → Laid out s.to (entries_words g) p.out
  pub absent : there ≡ false → (p.state.from ≡ s.from) × (p.state.upto ≡ s.upto)
  pub present : there ≡ true → Stands ws p.state.from p.state.upto m
  pub keyed : there ≡ true → Keyed ws p.state.from k

module _ (ws : List ℕ) (near : Near (length ws)) (d key : ℕ) where
  module _ {j : ℕ} {q : Node} {behind : List ℕ} (s : Passing) (out : List ℕ) (f : FirstEntry ws s.at j q behind)
      (g : Fits (code false) anywhere q) (b : depth q ≤ d) where
    -- it is the one taken out
    pass_here :
        j ≡ key →
        pass_w d ws key s out ≡ passed (passing (s.at + 1 + length (words q)) s.to (s.at + 1) (s.at + 1 + length (words q))) out
    unfolding pass_w
    pass_here e =
        let k : j * 512 / 512 ≡ j = omega arith in
        rw (entry_end ws near f d g b, f.key, k, eq-eqb j key e, f.next)

    -- it stays
    pass_other :
        (j ≡ key → ⊥) →
        (room : ℕ) → Near room → s.to + suc (length (words q)) ≤ room →
        pass_w d ws key s out
        ≡ passed (passing (s.at + 1 + length (words q)) (s.to + suc (length (words q))) s.from s.upto)
        (pasted ws s.at (s.at + 1 + length (words q)) out s.to)
    unfolding pass_w
    pass_other e room n r =
        let k : j * 512 / 512 ≡ j = omega arith in
        rw (entry_end ws near f d g b, f.key, k, ne_eqb j key e, entry_reaches ws near f s.to room n r)

  passes_from :
      (n : ℕ) (s s' : Passing) (out out' : List ℕ) → pass_w d ws key s out ≡ passed s' out' →
      passes_w d ws key (suc n) s out ≡ passes_w d ws key n s' out'
  unfolding passes_w
  passes_from n s s' out out' e = ap (λ (p : Passed). passes_w d ws key n p.state p.out) e

  abbrev Goes : Entries → Passing → List ℕ → Passed → Type 0
  Goes h s out p = Passes ws key (holds key h) (handler key h) (without key h) s out p

  -- what comes behind, from anywhere on
  abbrev Behind : Entries → List ℕ → Type 0
  Behind es rest =
      (s : Passing) (out : List ℕ) → drop s.at ws ≡ entries_words es ++ rest → s.to + length (entries_words es) ≤ length ws →
      Goes es s out (passes_w d ws key (count es) s out)

  module _
      {j : ℕ} {q : Node} (es : Entries) (rest : List ℕ) (s : Passing) (out : List ℕ)
      (f : FirstEntry ws s.at j q (entries_words es ++ rest))
      (g : Fits (code false) anywhere q) (b : depth q ≤ d) (room : s.to + length (entries_words (entry j q es)) ≤ length ws)
      (below : Behind es rest)
    where
      passes_here : FitsEntries true (suc j) es → j ≡ key → Goes (entry j q es) s out (passes_w d ws key (suc (count es)) s out)
      unfolding words holds handler without
      passes_here v e =
          let l = length-append (words q) (entries_words es) in
          let o : holds key es ≡ false = holds_none key v (omega arith) in
          let r =
          below (passing (s.at + 1 + length (words q)) s.to (s.at + 1) (s.at + 1 + length (words q))) out f.after (omega arith) in
          let a = r.absent o in
          let w : without key es ≡ es = without_none key v (omega arith) in
          let begins = ap (λ (i : ℕ). drop i ws) a.0 ∙ f.process in
          let ends = a.1 ∙ ap (λ (i : ℕ). i + length (words q)) (sym a.0) in
          let back : s.at + 1 - 1 ≡ s.at = omega arith in
          let first : get_or ws (s.at + 1 - 1) 0 ≡ key_word key = rw back (f.key ∙ ap key_word e) in
          subst (λ p. Goes (entry j q es) s out p) (sym (passes_from (count es) s _ out _ (pass_here s out f g b e)))
          (rw (eq-eqb key j (sym e))
          (record {
            reaches = rw w at r.reaches;
            keeps = r.keeps;
            laid = rw w at r.laid;
            absent = λ x. absurd (subst T x tt);
            present = λ x. (entries_words es ++ rest, (begins, ends));
            keyed = λ x. (omega (arith, a.0), ap (λ (i : ℕ). get_or ws (i - 1) 0) a.0 ∙ first);
          }))

      passes_other : (j ≡ key → ⊥) → Goes (entry j q es) s out (passes_w d ws key (suc (count es)) s out)
      unfolding words holds handler without
      passes_other e =
          let l = length-append (words q) (entries_words es) in
          let m = length-append (words q) (entries_words (without key es)) in
          let r =
          below (passing (s.at + 1 + length (words q)) (s.to + suc (length (words q))) s.from s.upto)
          (pasted ws s.at (s.at + 1 + length (words q)) out s.to) f.after (omega arith) in
          let z = pasted_length ws s.at (s.at + 1 + length (words q)) out s.to in
          let n : s.to + suc (length (words q)) + length (entries_words (without key es))
          ≡ s.to + suc (length (words q ++ entries_words (without key es))) = omega arith in
          subst (λ p. Goes (entry j q es) s out p)
          (sym (passes_from (count es) s _ out _ (pass_other s out f g b e (length ws) near (omega arith))))
          (rw (ne_eqb key j (λ x. e (sym x)))
          (record {
            reaches = r.reaches ∙ n;
            keeps = r.keeps ∙ z;
            laid = λ x. laid_then (entry_laid ws near f out s.to (omega arith)) (r.laid (omega arith));
            absent = r.absent;
            present = r.present;
            keyed = r.keyed;
          }))

      passes_entry : FitsEntries true (suc j) es → Goes (entry j q es) s out (passes_w d ws key (suc (count es)) s out)
      passes_entry v = by (eqb j key) refl
        where
          by : (t : Bool) → eqb j key ≡ t → Goes (entry j q es) s out (passes_w d ws key (suc (count es)) s out)
          by true e = passes_here v (eqb-true j key e)
          by false e = passes_other (eqb-false j key e)

  pub passes :
      {least : ℕ} {h : Entries} → FitsEntries true least h → entries_depth h ≤ d → (rest : List ℕ) → Behind h rest
  unfolding passes_w count holds handler without words depth
  passes empty_fits b rest s out e room =
      record {
        reaches = let x : s.to ≡ s.to + 0 = omega arith in x;
        keeps = refl;
        laid = λ x. laid_none out s.to;
        absent = λ x. (refl, refl);
        present = λ x. absurd (subst T (sym x) tt);
        keyed = λ x. absurd (subst T (sym x) tt);
      }
  passes (entry_fits_on {k = j} {p = q} {es = es} x y z u v) b rest s out e room =
      passes_entry es rest s out (first_entry ws near s.at j q es rest e) u (omega arith) room (passes v (omega arith) rest) v

-- ---- the whole list

pub record Takes (ws : List ℕ) (k : ℕ) (h : Entries) (out : List ℕ) (t : Took) : Type 0 where
  pub reaches : t.answer.to ≡ 1 + length (entries_words (without k h))
  pub keeps : length t.out ≡ length out
  pub laid :
      1 + length (entries_words (without k h)) ≤ length out →
      take (1 + length (entries_words (without k h))) t.out ≡ count (without k h) ∷ entries_words (without k h)
  pub absent : holds k h ≡ false → (t.answer.upto ≡ 0) × (handler k h ≡ nil_node)
  pub present : holds k h ≡ true → Stands ws t.answer.from t.answer.upto (handler k h)
  pub keyed : holds k h ≡ true → Keyed ws t.answer.from k

-- the count, and the words in front of which it is put
module _ (ws : List ℕ) (k : ℕ) (h : Entries) (at : ℕ) (out : List ℕ) (p : Passed)
    (r : Passes ws k (holds k h) (handler k h) (without k h) (passing at 1 0 0) out p) where
  counted : (t : Bool) → holds k h ≡ t → less_if (count h) p.state.upto ≡ count (without k h)
  unfolding less_if
  counted true x =
      let s = r.present x in
      let z = node_size (handler k h) in
      let y : p.state.upto ≡ p.state.from + length (words (handler k h)) = s.1.1 in
      let c = count_present k h x in
      rw (ne_eqb p.state.upto 0 (λ q. omega arith)) (omega arith)
  counted false x = rw (eq-eqb p.state.upto 0 (r.absent x).1) (ap count (sym (without_absent k h x)))

  took : Takes ws k h out (took_w (count h) p)
  unfolding took_w
  took =
      record {
        reaches = r.reaches;
        keeps = length-set p.out 0 _ ∙ r.keeps;
        laid =
            λ x.
            count_laid out (entries_words (without k h)) p.out _ (r.laid x) (omega arith)
            ∙ ap (λ (c : ℕ). c ∷ entries_words (without k h)) (counted (holds k h) refl);
        absent = λ x. ((r.absent x).1, handler_absent k h x);
        present = r.present;
        keyed = r.keyed;
      }

module _ (ws : List ℕ) (near : Near (length ws)) (d : ℕ) where
  pub takes :
      (k : ℕ) {h : Entries} → FitsEntries true zero h → entries_depth h ≤ d → (list : ℕ) (rest : List ℕ) →
      drop list ws ≡ count h ∷ (entries_words h ++ rest) →
      (out : List ℕ) → Takes ws k h out (take_w d ws list k out)
  unfolding take_w
  takes k {h} f b list rest e out =
      let a = at_head ws list (count h) (entries_words h ++ rest) e in
      let i : list < length ws = a.inside in
      let l : length ws - list ≡ suc (length (entries_words h) + length rest) = sym (length-drop list ws) ∙ ap length e
      ∙ ap suc (length-append (entries_words h) rest) in
      rw (a.word, onward_near list 1 (length ws) near (omega arith))
      (took ws k h (list + 1) out _ (passes ws near d k f b rest (passing (list + 1) 1 0 0) out a.next (omega arith)))
