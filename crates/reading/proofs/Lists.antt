-- The position reader of lists is the definitions' reader, given that of processes one level down. It also tells whether a key wanted
-- stands in the list.
-- Assumes nothing.
use Prim.Native.Nat.{ℕ, zero, suc, ◌+◌, ◌≤◌, ◌<◌}
use native.Mathlib.Omega.{arith}
use native.Mathlib.Numerals.{add-one}
use mathlib.Core.Path.{◌≡◌, refl, sym, ap, ◌∙◌}
use mathlib.Core.Bool.{Bool, true, false, not, ◌&&◌, ◌||◌, cond}
use mathlib.Core.List.{List, [], ◌∷◌}
use lib.Dec.{T, leb, ltb, eqb, lt→ltb}
use lib.ListN.{length, drop}
use borrow.Author.Tests.{ne_eqb}
use Rattle.sock.specs.Kind
use Rattle.sock.specs.Kind.{row_of}
use Rattle.sock.specs.Words.{is_word, clear, kind_of, key_of}
use Rattle.sock.specs.Term.{Expr, Node, list, Entries, entry, head_word, is_nil, entries_of}
use Rattle.sock.specs.Reading.{Got, fail, got, and_then, check, Stratum, code, Place, anywhere, not_nil, allowed, placed, branched, head_fits, entry_fits, holds, entries, block, expr, process, node_by}
use Rattle.sock.proofs.Reading.{tests, Holds, nothing, something, holds_check}
use Rattle.reading.specs.Walk.{on, when, at, key_at, entry_context, entries_end, list_end, process_end}
use Rattle.reading.proofs.Contexts.{number_of}
use Rattle.reading.proofs.Combining.{then_check, then_assoc, check_then, check_made, then_got, check_and, check_as, check_fail, same_test, Words, at_next}
use Rattle.reading.proofs.Ending.{Ends, fails, reads, ends_then, ends_map, ends_check, ends_before}

-- ---- what is not nil

-- what holds of all that may follow
pub then_holds :
    {A B : Type 0} {R : B → List ℕ → Type 0} (g : Got A) {k : A → List ℕ → Got B} → ((a : A) (rest : List ℕ) → Holds R (k a rest)) → Holds R (and_then g k)
unfolding and_then
then_holds fail f = nothing
then_holds (got a rest) f = f a rest

node_head :
    (readExpr : List ℕ → Got Expr) (read : Stratum → Place → List ℕ → Got Node) (s : Stratum) (h : ℕ) (ws : List ℕ) →
    Holds (λ m rest. head_word m ≡ h) (node_by readExpr read s h ws)
unfolding node_by
node_head readExpr read s h ws =
    then_holds _ λ f w1. then_holds _ λ es w2. then_holds _ λ b w3. then_holds _ λ ps rest. holds_check _ λ t. something refl

heads_not_nil :
    (h : ℕ) {g : Got Node} → Holds (λ m rest. head_word m ≡ h) g →
    and_then g (λ m rest. check (not (is_nil m)) (got m rest)) ≡ check (not (eqb (kind_of h) Kind.nil)) g
unfolding and_then
heads_not_nil h nothing = sym (check_fail (not (eqb (kind_of h) Kind.nil)))
heads_not_nil h (something e) = rw e

-- where nil may not stand, what is read is what is read anywhere and is not nil
pub not_nil_lem :
    (d : ℕ) (s : Stratum) (ws : List ℕ) → process d s not_nil ws ≡ and_then (process d s anywhere ws) (λ m rest. check (not (is_nil m)) (got m rest))
unfolding process and_then head_fits placed
not_nil_lem zero s ws = refl
not_nil_lem (suc d) s [] = refl
not_nil_lem (suc d) s (h ∷ ws) =
    let g = node_by (expr d) (process d) s h ws in
    check_as g (order (allowed s (kind_of h)) (not (eqb (kind_of h) Kind.nil)) (clear (row_of (kind_of h)).spare h) (branched h))
    ∙ sym (check_and (head_fits s anywhere h) (not (eqb (kind_of h) Kind.nil)) g)
    ∙ ap (check (head_fits s anywhere h)) (sym (heads_not_nil h (node_head (expr d) (process d) s h ws)))
    ∙ sym (then_check (head_fits s anywhere h) g _)
  where
    order : (a n c b : Bool) → a && n && c && b ≡ a && true && c && b && n
    order true true true true = refl
    order true true true false = refl
    order true true false b = refl
    order true false true true = refl
    order true false true false = refl
    order true false false b = refl
    order false n c b = refl

-- ---- entries

-- the place of an entry under a key
entry_place : Bool → ℕ → Place
entry_place o key = cond (o && leb 64 key) not_nil anywhere

-- the place tells what an entry's test does
entry_reads :
    {B : Type 0} (d : ℕ) (s : Stratum) (o : Bool) (key : ℕ) (k : Node → List ℕ → Got B) (ws : List ℕ) →
    and_then (process d s anywhere ws) (λ m rest. check (entry_fits o key m) (k m rest)) ≡ and_then (process d s (entry_place o key) ws) k
unfolding entry_place entry_fits check
entry_reads d s o key k ws = go (o && leb 64 key)
  where
    go : (b : Bool) → and_then (process d s anywhere ws) (λ m rest. check (not (b && is_nil m)) (k m rest)) ≡ and_then (process d s (cond b not_nil anywhere) ws) k
    go true = check_then (process d s anywhere ws) (λ m. not (is_nil m)) k ∙ ap (λ g. and_then g k) (sym (not_nil_lem d s ws))
    go false = refl

entry_context_lem : (o : Bool) (key : ℕ) → entry_context (number_of (code (not o)) anywhere) key ≡ number_of (code (not o)) (entry_place o key)
unfolding entry_context number_of entry_place
entry_context_lem false key = refl
entry_context_lem true key = go (leb 64 key)
  where
    go : (b : Bool) → cond b 1 0 ≡ number_of (code false) (cond b not_nil anywhere)
    go true = refl
    go false = refl

-- the key at a position, and what is done with it
key_next :
    (ws : List ℕ) → Words ws → (i least : ℕ) (f : ℕ → ℕ) →
    cond (eqb (key_at ws i least) 128) 0 (f (key_at ws i least))
    ≡ when (ltb i (length ws) && clear 512 (at ws i) && leb least (key_of (at ws i))) (f (key_of (at ws i)))
unfolding key_at when
key_next ws ok i least f = go (ltb i (length ws) && clear 512 (at ws i) && leb least (key_of (at ws i)))
  where
    key : ℕ
    key = key_of (at ws i)

    go : (b : Bool) → cond (eqb (cond b key 128) 128) 0 (f (cond b key 128)) ≡ cond b (f key) 0
    go true = rw (ne_eqb key 128 (let h : at ws i < 65536 = ok i in omega arith))
    go false = refl

-- the key wanted, among one entry more
held_next : (met : Bool) (wanted key : ℕ) (m : Node) (l : Entries) → met || holds wanted (entry key m l) ≡ met || eqb key wanted || holds wanted l
unfolding holds
held_next true wanted key m l = refl
held_next false wanted key m l = ap (λ b. b || holds wanted l) (same_test (eqb wanted key) (eqb key wanted) (λ t. omega tests) λ t. omega tests)

-- entries at a position
entries_at :
    (ws : List ℕ) → Words ws → (d : ℕ) (s : Stratum) (o : Bool) (n least j : ℕ) →
    entries (process d s anywhere) o (suc n) least (drop j ws)
    ≡ check (ltb j (length ws) && clear 512 (at ws j) && leb least (key_of (at ws j)))
    (and_then (process d s (entry_place o (key_of (at ws j))) (drop (j + 1) ws)) λ m then.
    and_then (entries (process d s anywhere) o n (suc (key_of (at ws j))) then) λ l rest. got (entry (key_of (at ws j)) m l) rest)
unfolding entries
entries_at ws ok d s o n least j =
    let w : ℕ = at ws j in
    at_next (entries (process d s anywhere) o (suc n) least) refl ws j (j + 1) refl
    ∙ check_and (ltb j (length ws)) (is_word w && clear 512 w && leb least (key_of w)) _
    ∙ check_as _ (order (ltb j (length ws)) (is_word w) (clear 512 w) (leb least (key_of w)) (lt→ltb w 65536 (ok j)))
    ∙ ap (check (ltb j (length ws) && clear 512 w && leb least (key_of w))) (entry_reads d s o (key_of w) _ (drop (j + 1) ws))
  where
    order : (a b c d : Bool) → T b → a && (b && c && d) ≡ a && c && d
    order true true c d t = refl
    order true false c d t = absurd t
    order false b c d t = refl

-- the reader of code of depth d
abbrev pub BelowCode : List ℕ → ℕ → ℕ → Type 0
BelowCode ws bound d = (c : Bool) (p : Place) (i : ℕ) → Ends ws i (process d (code c) p (drop i ws)) (process_end d ws bound (number_of (code c) p) i)

module _
    (ws : List ℕ) (ok : Words ws) (bound d : ℕ) (below : BelowCode ws bound d) (o : Bool) (wanted : ℕ)
  where
    entries_end_lem :
        (n least : ℕ) (met : Bool) (i j : ℕ) → i < j → j ≤ length ws →
        Ends ws i (and_then (entries (process d (code (not o)) anywhere) o n least (drop j ws)) λ l rest. check (met || holds wanted l) (got l rest))
        (entries_end (process_end d ws bound) ws (number_of (code (not o)) anywhere) wanted n least met j)
    unfolding entries entries_end and_then check holds when
    entries_end_lem zero least true i j h q = reads h q
    entries_end_lem zero least false i j h q = fails
    entries_end_lem (suc n) least met i j h q =
        let w : ℕ = at ws j in
        let key : ℕ = key_of w in
        let s : Stratum = code (not o) in
        let c : ℕ = number_of s anywhere in
        let sub : ℕ → ℕ → ℕ = process_end d ws bound in
        let g = process d s (entry_place o key) (drop (j + 1) ws) in
        let test : Bool = ltb j (length ws) && clear 512 w && leb least key in
        rw (
          entries_at ws ok d s o n least j,
          key_next ws ok j least (λ key. on (sub (entry_context c key) (j + 1)) (entries_end sub ws c wanted n (key + 1) (met || eqb key wanted))),
          then_check test,
          then_assoc g,
          entry_context_lem o key,
          add-one key,
        )
        (ends_check test λ t.
        ends_then _ _ (ends_before {j = j + 1} (omega arith) (below (not o) (entry_place o key) (j + 1))) λ m p q.
        rw (check_made _ (entry key m) (λ l. met || holds wanted l) (λ l. met || eqb key wanted || holds wanted l) (held_next met wanted key m))
        (ends_map (entry key m) (entries_end_lem n (suc key) (met || eqb key wanted) i _ p q)))

    -- the key wanted stands in the list
    pub list_end_lem :
        (i j : ℕ) → i ≤ j →
        Ends ws i (and_then (block (process d (code (not o)) anywhere) o 1 (drop j ws)) λ b rest. check (leb 128 wanted || holds wanted (entries_of b)) (got b rest))
        (list_end (process_end d ws bound) ws (number_of (code (not o)) anywhere) wanted j)
    unfolding block list_end and_then
    list_end_lem i j h =
        let s : Stratum = code (not o) in
        let n : ℕ = at ws j in
        rw (at_next (block (process d s anywhere) o 1) refl ws j (j + 1) refl, then_check (ltb j (length ws)))
        (ends_check (ltb j (length ws)) λ t.
        rw (check_made _ list (λ b. leb 128 wanted || holds wanted (entries_of b)) (λ l. leb 128 wanted || holds wanted l) λ l. refl)
        (ends_map list (entries_end_lem n 0 (leb 128 wanted) i (j + 1) (omega arith) (omega tests))))

-- no key wanted
pub list_any :
    (ws : List ℕ) → Words ws → (bound d : ℕ) → BelowCode ws bound d → (o : Bool) (i j : ℕ) → i ≤ j →
    Ends ws i (block (process d (code (not o)) anywhere) o 1 (drop j ws)) (list_end (process_end d ws bound) ws (number_of (code (not o)) anywhere) 128 j)
unfolding check
list_any ws ok bound d below o i j h = rw (← then_got (block (process d (code (not o)) anywhere) o 1 (drop j ws))) (list_end_lem ws ok bound d below o 128 i j h)
