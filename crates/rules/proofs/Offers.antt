-- What a process offers, on words: nothing that receives, a one-way or a request, bare or as a choice's branch, and where its words stand.
-- Assumes nothing.
use Prim.Native.Nat.{ℕ, zero, suc, ◌+◌, ◌-◌, ◌*◌, ◌≤◌, ◌<◌}
use native.Mathlib.Omega.{arith}
use mathlib.Core.Path.{◌≡◌, refl, sym, ap, ◌∙◌}
use mathlib.Core.Bool.{Bool, true, false, cond}
use mathlib.Core.Option.{Option, none, some}
use mathlib.Core.List.{List, [], ◌∷◌, ◌++◌, append_assoc, append-nil}
use borrow.Author.Tests.{ne_eqb, lt-ltb, le-ltb, ltb-true, ltb-false, eqb-true, eqb-false}
use lib.Dec.{eqb, ltb}
use lib.ListN.{length, drop, length-append}
use lib.Seq.{drop-drop, drop-append_seam}
use Rattle.sock.specs.Words.{kind_of, count_of, name_of, second_of, first_variable}
use Rattle.sock.specs.Variables.{variable_words, further_of, variables_of, behind_variables}
use Rattle.sock.specs.Term.{Node, node, absent, Nodes, no_parts, ◌&◌, head_word, kind, part_at}
use Rattle.sock.specs.Layout.{words, nodes_words, depth, nodes_depth, exprs_words}
use Rattle.sock.specs.Reading.{code, anywhere}
use Rattle.sock.specs.Running.{Run, act, as_node, run_words, run_depth}
use Rattle.sock.specs.Rules.{Receiver, deaf, hears, serves, receiver, chosen, bare, offered, offer}
use Rattle.sock.proofs.Fits.{Fits, FitsParts, no_part, one_part, Sound, nil_sound, seq_sound, par_sound, scope_sound, executor_sound, waiter_sound, notice_sound, act_sound}
use Rattle.sock.proofs.Nodes.{part_fits}
use Rattle.sock.proofs.Variables.{laid, variables_read, behind_read}
use Rattle.sock.proofs.ByKind.{run_kind, kind_as_node}
use Rattle.sock.proofs.Measures.{words_act, depth_act}
use Rattle.skipping.proofs.Skips.{code_end}
use Rattle.layout.specs.Kinds.{counted_as}
use Rattle.layout.proofs.Named.{counted_not}
use Rattle.rules.specs.Rewriting.{at, part_end}
use Rattle.rules.specs.Offering.{Offer, offering, no_offer, bare_w, branch_at, chosen_w, choice_w, offer_w, receives_w, fits_w}
use Rattle.rules.proofs.Shapes.{Headed, Shape, assigns, branches, repeats, chooses, hears, serves, notifies, solicits, installs, throws, compensates, shape}
use Rattle.rules.proofs.Rewrites.{head_on}

-- ---- a list of variables in a process's own words

pub first_list : {first : ℕ} {x : List ℕ} → Headed first x → (rest : List ℕ) → variables_of first (variable_words x ++ rest) ≡ x
first_list {first} {x} g rest =
    let l = laid x g.fitting in
    ap (variables_of first) (ap (λ w. w ++ rest) l.words)
    ∙ variables_read l.count first l.counted l.fitting rest
    ∙ ap (λ a. a ∷ further_of l.further) (sym g.begins)
    ∙ l.same

pub only_list : {first : ℕ} {x : List ℕ} → Headed first x → variables_of first (variable_words x) ≡ x
only_list {first} {x} g = ap (variables_of first) (sym (append-nil (variable_words x))) ∙ first_list g []

pub behind_list : {first : ℕ} {x : List ℕ} → Headed first x → (rest : List ℕ) → behind_variables (variable_words x ++ rest) ≡ rest
behind_list {first} {x} g rest =
    let l = laid x g.fitting in
    ap (λ w. behind_variables (w ++ rest)) l.words ∙ behind_read l.count first l.counted l.fitting rest

-- ---- what code receives

pub data Heard : Node → Receiver → Type 0 where
  nothing_heard : {m : Node} → (kind m ≡ 7 → ⊥) → (kind m ≡ 8 → ⊥) → Heard m deaf
  one_way : {h : ℕ} {x : List ℕ} → kind_of h ≡ 7 → Headed (second_of h) x → Heard (node h (variable_words x) [] absent no_parts) (hears (name_of h) x)
  request :
      {h w : ℕ} {x y : List ℕ} {p : Node} → kind_of h ≡ 8 → Headed (second_of h) x → Headed (first_variable w) y → Fits (code false) anywhere p →
      Heard (node h (w ∷ variable_words x ++ variable_words y) [] absent (p & no_parts)) (serves (name_of h) x y p)

a_one_way : {m : Node} → kind m ≡ 7 → Shape m → Heard m (receiver m)
unfolding receiver
a_one_way k (hears {x = x} q g) = rw (q, only_list g) (one_way q g)
a_one_way k (assigns q g) = absurd (omega arith)
a_one_way k (branches q g a b) = absurd (omega arith)
a_one_way k (repeats q g a) = absurd (omega arith)
a_one_way k (chooses q c pt) = absurd (omega arith)
a_one_way k (serves q t x y a) = absurd (omega arith)
a_one_way k (notifies q t y) = absurd (omega arith)
a_one_way k (solicits q t y x l) = absurd (omega arith)
a_one_way k (installs q t l) = absurd (omega arith)
a_one_way k (throws q t) = absurd (omega arith)
a_one_way k (compensates q t) = absurd (omega arith)

a_request : {m : Node} → kind m ≡ 8 → Shape m → Heard m (receiver m)
unfolding receiver
a_request k (serves {w = w} {x} {y} q t g b a) = rw (q, first_list g (variable_words y), behind_list g (variable_words y), only_list b) (request q g b a)
a_request k (hears q g) = absurd (omega arith)
a_request k (assigns q g) = absurd (omega arith)
a_request k (branches q g a b) = absurd (omega arith)
a_request k (repeats q g a) = absurd (omega arith)
a_request k (chooses q c pt) = absurd (omega arith)
a_request k (notifies q t y) = absurd (omega arith)
a_request k (solicits q t y x l) = absurd (omega arith)
a_request k (installs q t l) = absurd (omega arith)
a_request k (throws q t) = absurd (omega arith)
a_request k (compensates q t) = absurd (omega arith)

pub heard : (m : Node) → Fits (code false) anywhere m → Heard m (receiver m)
unfolding receiver
heard (node h f es b ps) g = by (eqb (kind_of h) 7) refl (eqb (kind_of h) 8) refl
  where
    by : (a : Bool) → eqb (kind_of h) 7 ≡ a → (c : Bool) → eqb (kind_of h) 8 ≡ c → Heard (node h f es b ps) (receiver (node h f es b ps))
    by true p c q = let k : kind_of h ≡ 7 = eqb-true (kind_of h) 7 p in a_one_way k (shape (rw k tt) g)
    by false p true q = let k : kind_of h ≡ 8 = eqb-true (kind_of h) 8 q in a_request k (shape (rw k tt) g)
    by false p false q = rw (p, q) (nothing_heard (eqb-false (kind_of h) 7 p) (eqb-false (kind_of h) 8 q))

-- ---- where the receiver m stands in r, and what follows it

pub data Stands (r : Run) (o : Offer) (m : Node) : Option Node → Type 0 where
  bare_stands :
      run_words r ≡ words m → depth m ≤ run_depth r →
      o.guard ≡ 0 → o.next ≡ 0 → o.upto ≡ length (words m) → o.end ≡ length (words m) →
      Stands r o m none
  branch_stands :
      {q : Node} (before behind : List ℕ) →
      run_words r ≡ before ++ (words m ++ (words q ++ behind)) → Fits (code false) anywhere q → depth m < run_depth r → depth q < run_depth r →
      o.guard ≡ length before → o.next ≡ length before + length (words m) → o.upto ≡ o.next + length (words q) →
      o.end ≡ o.upto + length behind →
      Stands r o m (some q)

pub data Offers (ws : List ℕ) (r : Run) (o : Offer) : Receiver → Option Node → Type 0 where
  silent : {next : Option Node} → ((h : ℕ) → fits_w ws o 7 h ≡ false) → ((h : ℕ) → fits_w ws o 8 h ≡ false) → Offers ws r o deaf next
  hearing :
      {g : ℕ} {x : List ℕ} {next : Option Node} → kind_of g ≡ 7 → o.some ≡ true → at ws o.guard ≡ g → Headed (second_of g) x →
      Stands r o (node g (variable_words x) [] absent no_parts) next →
      Offers ws r o (hears (name_of g) x) next
  serving :
      {g w : ℕ} {x y : List ℕ} {p : Node} {next : Option Node} →
      kind_of g ≡ 8 → o.some ≡ true → at ws o.guard ≡ g → Headed (second_of g) x → Headed (first_variable w) y → Fits (code false) anywhere p →
      Stands r o (node g (w ∷ variable_words x ++ variable_words y) [] absent (p & no_parts)) next →
      Offers ws r o (serves (name_of g) x y p) next

module _ (ws : List ℕ) (r : Run) (o : Offer) where
  pub not_kind : (k h : ℕ) → k < 19 → (kind_of (at ws o.guard) ≡ k → ⊥) → fits_w ws o k h ≡ false
  unfolding fits_w receives_w
  not_kind k h low never = rw (ne_eqb (counted_as (kind_of (at ws o.guard))) k (counted_not never low)) (by o.some)
    where
      by : (b : Bool) → cond b false false ≡ false
      by true = refl
      by false = refl

  offers_as : {m : Node} {v : Receiver} {next : Option Node} → o.some ≡ true → at ws o.guard ≡ head_word m → Stands r o m next →
      Heard m v → Offers ws r o v next
  offers_as s h p (nothing_heard a b) = silent (λ k. not_kind 7 k (omega arith) (rw h a)) (λ k. not_kind 8 k (omega arith) (rw h b))
  offers_as s h p (one_way k x) = hearing k s h x p
  offers_as s h p (request k x y f) = serving k s h x y f p

  nothing_offered : {next : Option Node} → o.some ≡ false → Offers ws r o deaf next
  unfolding fits_w
  nothing_offered e = silent (λ h. rw e) (λ h. rw e)

never_zero : (i : ℕ) → eqb (suc i) 0 ≡ false
never_zero i = ne_eqb (suc i) 0 λ e. omega arith

-- ---- the branches of a choice

-- the branch with j others in front, in the parts that begin at a place
pub record Branch (ws : List ℕ) (ps : Nodes) (j place : ℕ) : Type 0 where
  pub before : List ℕ
  pub behind : List ℕ
  pub whole : nodes_words ps ≡ before ++ (words (part_at ps (2 * j)) ++ (words (part_at ps (2 * j + 1)) ++ behind))
  pub stands : branch_at ws j place ≡ place + length before
  pub first_deep : depth (part_at ps (2 * j)) ≤ nodes_depth ps
  pub second_deep : depth (part_at ps (2 * j + 1)) ≤ nodes_depth ps

module _ (n issued : ℕ) (ws : List ℕ) (few : n ≤ 8) (small : issued < 65536) where
  ends_at : (i : ℕ) (m : Node) (more : List ℕ) → Fits (code false) anywhere m → depth m ≤ 64 → drop i ws ≡ words m ++ more →
      part_end ws i ≡ i + length (words m)
  ends_at i m more f deep e = code_end ws f 64 i deep more e

  -- what stands further on
  further : (i : ℕ) (a b : List ℕ) → drop i ws ≡ a ++ b → drop (i + length a) ws ≡ b
  further i a b e = sym (drop-drop (length a) i ws) ∙ (ap (drop (length a)) e ∙ drop-append_seam a b)

  -- one branch more in front
  passed :
      (p q : Node) (ps : Nodes) (j place : ℕ) →
      part_end ws place ≡ place + length (words p) →
      part_end ws (place + length (words p)) ≡ place + length (words p) + length (words q) →
      Branch ws ps j (place + length (words p) + length (words q)) →
      Branch ws (p & q & ps) (suc j) place
  unfolding nodes_words nodes_depth branch_at
  passed p q ps j place one two b =
      let x : 2 * suc j ≡ suc (suc (2 * j)) = omega arith in
      let y : 2 * suc j + 1 ≡ suc (suc (2 * j + 1)) = omega arith in
      let sum : length (words p ++ (words q ++ b.before)) ≡ length (words p) + (length (words q) + length b.before) =
      length-append (words p) (words q ++ b.before) ∙ ap (λ k. length (words p) + k) (length-append (words q) b.before) in
      record {
        before = words p ++ (words q ++ b.before);
        behind = b.behind;
        whole =
            rw (y, x)
            (ap (λ l. words p ++ (words q ++ l)) b.whole
            ∙ (ap (λ l. words p ++ l) (sym (append_assoc (words q) b.before _))
            ∙ sym (append_assoc (words p) (words q ++ b.before) _)));
        stands = rw (one, two) (omega (arith, sum));
        first_deep = rw x (omega arith);
        second_deep = rw y (omega arith);
      }

  branch :
      (j place : ℕ) (rest : List ℕ) {c : ℕ} {ps : Nodes} → FitsParts (code false) 6 c ps → 2 * j + 1 < c → nodes_depth ps ≤ 64 →
      drop place ws ≡ nodes_words ps ++ rest →
      Branch ws ps j place
  unfolding nodes_words nodes_depth branch_at
  branch zero place rest no_part h deep e = absurd (omega arith)
  branch zero place rest (one_part f no_part) h deep e = absurd (omega arith)
  branch zero place rest (one_part {p = p} f (one_part {p = q} {ps = ps} g fs)) h deep e =
      record {
        before = [];
        behind = nodes_words ps;
        whole = refl;
        stands = omega arith;
        first_deep = omega arith;
        second_deep = omega arith;
      }
  branch (suc j) place rest no_part h deep e = absurd (omega arith)
  branch (suc j) place rest (one_part f no_part) h deep e = absurd (omega arith)
  branch (suc j) place rest (one_part {p = p} f (one_part {p = q} {ps = ps} g fs)) h deep e =
      let all = one_part f (one_part g fs) in
      let at_p : drop place ws ≡ words p ++ (words q ++ (nodes_words ps ++ rest)) =
      e ∙ (append_assoc (words p) (words q ++ nodes_words ps) rest ∙ ap (λ l. words p ++ l) (append_assoc (words q) (nodes_words ps) rest)) in
      let at_q : drop (place + length (words p)) ws ≡ words q ++ (nodes_words ps ++ rest) = further place (words p) _ at_p in
      let at_ps : drop (place + length (words p) + length (words q)) ws ≡ nodes_words ps ++ rest =
      further (place + length (words p)) (words q) _ at_q in
      let one : part_end ws place ≡ place + length (words p) = ends_at place p _ (part_fits all 0) (omega arith) at_p in
      let two : part_end ws (place + length (words p)) ≡ place + length (words p) + length (words q) =
      ends_at (place + length (words p)) q _ (part_fits all 1) (omega arith) at_q in
      passed p q ps j place one two (branch j (place + length (words p) + length (words q)) rest fs (omega arith) (omega arith) at_ps)

  -- ---- what a process offers

  module _ (rest : List ℕ) where
    module _ (r : Run) (stands : ws ≡ run_words r ++ rest) where
      head_at : at ws 0 ≡ head_word (as_node r)
      unfolding run_words
      head_at = head_on ws 0 (as_node r) rest stands

      quiet : (i : ℕ) {next : Option Node} → (kind (as_node r) ≡ 6 → ⊥) → (kind (as_node r) ≡ 7 → ⊥) → (kind (as_node r) ≡ 8 → ⊥) →
          Offers ws r (offer_w ws i) deaf next
      unfolding offer_w bare_w
      quiet i {next} a b c = rw (ne_eqb (kind_of (at ws 0)) 6 (rw head_at a)) (by (eqb i 0))
        where
          by : (z : Bool) → Offers ws r (cond z (offering 0 0 (part_end ws 0) (part_end ws 0)) no_offer) deaf next
          by true =
              let o = offering 0 0 (part_end ws 0) (part_end ws 0) in
              silent (λ h. not_kind ws r o 7 h (omega arith) (rw head_at b)) (λ h. not_kind ws r o 8 h (omega arith) (rw head_at c))
          by false = nothing_offered ws r no_offer refl

    -- a process that is no choice
    bare_offers :
        (m : Node) → Fits (code false) anywhere m → (kind m ≡ 6 → ⊥) → depth m ≤ 64 → ws ≡ words m ++ rest →
        (i : ℕ) → Offers ws (act m) (offer_w ws i) (bare m i).receives (bare m i).next
    unfolding offer_w bare_w bare
    bare_offers m f other deep stands zero =
        let head : at ws 0 ≡ head_word m = head_on ws 0 m rest stands in
        let end : part_end ws 0 ≡ length (words m) = ends_at 0 m rest f deep stands
        ∙ (let z : 0 + length (words m) ≡ length (words m) = omega arith in z) in
        let d : depth m ≤ run_depth (act m) = omega (arith, depth_act m) in
        rw (ne_eqb (kind_of (at ws 0)) 6 (rw head other))
        (offers_as ws (act m) (offering 0 0 (part_end ws 0) (part_end ws 0)) refl head
        (bare_stands (words_act m) d refl refl end end) (heard m f))
    bare_offers m f other deep stands (suc i) =
        let head : at ws 0 ≡ head_word m = head_on ws 0 m rest stands in
        rw (ne_eqb (kind_of (at ws 0)) 6 (rw head other), never_zero i) (nothing_offered ws (act m) no_offer refl)

    module _ (h : ℕ) (ps : Nodes) (k : kind_of h ≡ 6) (pt : FitsParts (code false) 6 (count_of h * 2) ps)
        (f : Fits (code false) anywhere (node h [] [] absent ps))
        (deep : depth (node h [] [] absent ps) ≤ 64) (stands : ws ≡ words (node h [] [] absent ps) ++ rest) where
      abbrev whole : Node
      whole = node h [] [] absent ps

      choice_words : words whole ≡ h ∷ nodes_words ps
      unfolding words exprs_words
      choice_words = refl

      choice_head : at ws 0 ≡ h
      choice_head = head_on ws 0 whole rest stands

      choice_end : part_end ws 0 ≡ length (words whole)
      choice_end = ends_at 0 whole rest f deep stands ∙ (let z : 0 + length (words whole) ≡ length (words whole) = omega arith in z)

      parts_stand : drop 1 ws ≡ nodes_words ps ++ rest
      parts_stand = ap (drop 1) (stands ∙ ap (λ l. l ++ rest) choice_words)

      parted : (i : ℕ) → i < count_of h → Branch ws ps i 1
      unfolding depth
      parted i below = branch i 1 rest pt (omega arith) (omega arith) parts_stand

      branch_offers :
          (i : ℕ) → Branch ws ps i 1 →
          Offers ws (act whole) (chosen_w ws (branch_at ws i 1)) (receiver (part_at ps (2 * i))) (some (part_at ps (2 * i + 1)))
      unfolding chosen_w depth
      branch_offers i b =
          let m = part_at ps (2 * i) in
          let q = part_at ps (2 * i + 1) in
          let fm : Fits (code false) anywhere m = part_fits pt (2 * i) in
          let fq : Fits (code false) anywhere q = part_fits pt (2 * i + 1) in
          let shift : 1 + length b.before ≡ length (h ∷ b.before) = omega arith in
          let all : drop 1 ws ≡ b.before ++ (words m ++ (words q ++ (b.behind ++ rest))) =
          parts_stand
          ∙ (ap (λ l. l ++ rest) b.whole
          ∙ (append_assoc b.before _ rest
          ∙ ap (λ l. b.before ++ l) (append_assoc (words m) _ rest ∙ ap (λ l. words m ++ l) (append_assoc (words q) b.behind rest)))) in
          let guard_stands : drop (1 + length b.before) ws ≡ words m ++ (words q ++ (b.behind ++ rest)) = further 1 b.before _ all in
          let next_stands : drop (1 + length b.before + length (words m)) ws ≡ words q ++ (b.behind ++ rest) =
          further (1 + length b.before) (words m) _ guard_stands in
          let one : part_end ws (1 + length b.before) ≡ 1 + length b.before + length (words m) =
          ends_at (1 + length b.before) m _ fm (omega (arith, b.first_deep)) guard_stands in
          let two :
          part_end ws (1 + length b.before + length (words m)) ≡ 1 + length b.before + length (words m) + length (words q) =
          ends_at (1 + length b.before + length (words m)) q _ fq (omega (arith, b.second_deep)) next_stands in
          let head : at ws (1 + length b.before) ≡ head_word m = head_on ws (1 + length b.before) m _ guard_stands in
          let o = offering (1 + length b.before) (1 + length b.before + length (words m))
          (1 + length b.before + length (words m) + length (words q)) (length (words whole)) in
          let w : run_words (act whole) ≡ (h ∷ b.before) ++ (words m ++ (words q ++ b.behind)) = words_act whole
          ∙ (choice_words ∙ ap (λ l. h ∷ l) b.whole) in
          let long : length (words whole) ≡ 1 + length b.before + length (words m) + length (words q) + length b.behind =
          ap length (sym (words_act whole) ∙ w)
          ∙ (length-append (h ∷ b.before) _
          ∙ omega (arith, length-append (words m) (words q ++ b.behind), length-append (words q) b.behind)) in
          let s : Stands (act whole) o m (some q) =
          branch_stands (h ∷ b.before) b.behind w fq (omega (arith, depth_act whole, b.first_deep))
          (omega (arith, depth_act whole, b.second_deep)) shift (omega arith) refl long in
          rw (b.stands, one, two, choice_end) (offers_as ws (act whole) o refl head s (heard m fm))

      choice_offers : (i : ℕ) → Offers ws (act whole) (offer_w ws i) (chosen (count_of h) ps i).receives
          (chosen (count_of h) ps i).next
      unfolding offer_w choice_w chosen
      choice_offers zero = rw (choice_head, k) (nothing_offered ws (act whole) no_offer refl)
      choice_offers (suc i) = rw (choice_head, k, never_zero i) (by (ltb i (count_of h)) refl)
        where
          by :
              (a : Bool) → ltb i (count_of h) ≡ a →
              Offers ws (act whole) (cond (ltb (count_of h) (suc i)) no_offer (chosen_w ws (branch_at ws (suc i - 1) 1)))
              (chosen (count_of h) ps (suc i)).receives (chosen (count_of h) ps (suc i)).next
          by true e =
              let below : i < count_of h = ltb-true i (count_of h) e in
              let p : suc i - 1 ≡ i = omega arith in
              rw (e, le-ltb (count_of h) (suc i) (omega arith), p) (branch_offers i (parted i below))
          by false e =
              let above : count_of h ≤ i = ltb-false i (count_of h) e in
              rw (e, lt-ltb (count_of h) (suc i) (omega arith)) (nothing_offered ws (act whole) no_offer refl)

    act_offers :
        (m : Node) → Shape m → Fits (code false) anywhere m → depth m ≤ 64 → ws ≡ words m ++ rest →
        (i : ℕ) → Offers ws (act m) (offer_w ws i) (offered m i).receives (offered m i).next
    unfolding offered
    act_offers m (chooses {h} {ps} q c pt) f deep stands i = rw q (choice_offers h ps q pt f deep stands i)
    act_offers m (assigns {h} q g) f deep stands i = rw q (bare_offers m f (λ e. omega arith) deep stands i)
    act_offers m (branches {h} q g a b) f deep stands i = rw q (bare_offers m f (λ e. omega arith) deep stands i)
    act_offers m (repeats {h} q g a) f deep stands i = rw q (bare_offers m f (λ e. omega arith) deep stands i)
    act_offers m (hears {h} q g) f deep stands i = rw q (bare_offers m f (λ e. omega arith) deep stands i)
    act_offers m (serves {h} q t g b a) f deep stands i = rw q (bare_offers m f (λ e. omega arith) deep stands i)
    act_offers m (notifies {h} q t g) f deep stands i = rw q (bare_offers m f (λ e. omega arith) deep stands i)
    act_offers m (solicits {h} q t g b l) f deep stands i = rw q (bare_offers m f (λ e. omega arith) deep stands i)
    act_offers m (installs {h} q t l) f deep stands i = rw q (bare_offers m f (λ e. omega arith) deep stands i)
    act_offers m (throws {h} q t) f deep stands i = rw q (bare_offers m f (λ e. omega arith) deep stands i)
    act_offers m (compensates {h} q t) f deep stands i = rw q (bare_offers m f (λ e. omega arith) deep stands i)

    calm :
        (r : Run) → Sound n issued r → ws ≡ run_words r ++ rest → (i : ℕ) {next : Option Node} →
        (run_kind r ≡ 6 → ⊥) → (run_kind r ≡ 7 → ⊥) → (run_kind r ≡ 8 → ⊥) → Offers ws r (offer_w ws i) deaf next
    calm r s stands i a b c = let k = kind_as_node s in quiet r stands i (λ e. a (sym k ∙ e)) (λ e. b (sym k ∙ e)) (λ e. c (sym k ∙ e))

    -- what the process at the words offers a sender, by branch
    pub offers : (r : Run) → Sound n issued r → run_depth r ≤ 64 → ws ≡ run_words r ++ rest → (i : ℕ) →
        Offers ws r (offer_w ws i) (offer r i).receives (offer r i).next
    unfolding offer
    offers r nil_sound deep stands i = calm r nil_sound stands i (λ e. omega arith) (λ e. omega arith) (λ e. omega arith)
    offers r (seq_sound a d q) deep stands i = calm r (seq_sound a d q) stands i (λ e. omega arith) (λ e. omega arith) (λ e. omega arith)
    offers r (par_sound a d b t) deep stands i = calm r (par_sound a d b t) stands i (λ e. omega arith) (λ e. omega arith) (λ e. omega arith)
    offers r (scope_sound b m l a) deep stands i =
        calm r (scope_sound b m l a) stands i (λ e. omega arith) (λ e. omega arith) (λ e. omega arith)
    offers r (executor_sound b y t a) deep stands i =
        calm r (executor_sound b y t a) stands i (λ e. omega arith) (λ e. omega arith) (λ e. omega arith)
    offers r (waiter_sound b x t l) deep stands i =
        calm r (waiter_sound b x t l) stands i (λ e. omega arith) (λ e. omega arith) (λ e. omega arith)
    offers r (notice_sound b f t) deep stands i =
        calm r (notice_sound b f t) stands i (λ e. omega arith) (λ e. omega arith) (λ e. omega arith)
    offers r (act_sound {p = m} t f) deep stands i =
        act_offers m (shape t f) f (omega (arith, depth_act m)) (stands ∙ ap (λ l. l ++ rest) (words_act m)) i
