-- The look decides refusal 6: killing is refused exactly where it finds a pending process, and a climb exactly where a side that it meets before
-- it stops has one. And the search of a process by its parts.
-- Assumes nothing.
use Prim.Native.Nat.{ℕ, suc, ◌+◌, ◌≤◌}
use native.Mathlib.Omega.{arith}
use mathlib.Core.Path.{◌≡◌, refl, sym, ap, ◌∙◌}
use mathlib.Core.Bool.{Bool, true, false, not, ◌||◌, cond}
use mathlib.Core.Option.{Option, none, some}
use mathlib.Core.List.{List, [], ◌∷◌, ◌++◌}
use lib.Dec.{eqb}
use lib.ListN.{length, length-append}
use Rattle.sock.specs.Kind
use Rattle.sock.specs.Words.{fault_key}
use Rattle.sock.specs.Term.{kind}
use Rattle.sock.specs.Reading.{holds}
use Rattle.sock.specs.Running.{unmarked, own_name, Run, nil, seq, par, scope, executor, waiter, notice, act, size}
use Rattle.sock.specs.Configuration.{guarded}
use Rattle.sock.specs.Frames.{Frame, seq_frame, left_frame, right_frame, scope_frame, executor_frame, is_done, par_of}
use Rattle.sock.specs.Rules.{also, kill, climb}
use Rattle.sock.proofs.Measures.{size_seq, size_par, size_scope, size_executor}
use Rattle.sock.proofs.Located.{size_positive}
use Rattle.sock.specs.Pending.{enabled_in, is_pending, Search, counted, search_of, pending, sides_met, any_pending}

-- ---- the search of a process by its parts

-- one search, and another behind it
unfoldable pub and_then : Search → Search → Search
and_then a b = cond a.found a (record { found = b.found; count = a.count + b.count })

pub search_append : (xs ys : List Run) → search_of (xs ++ ys) ≡ and_then (search_of xs) (search_of ys)
unfolding search_of and_then counted
search_append [] ys = let z : 0 + (search_of ys).count ≡ (search_of ys).count = omega arith in rw z
search_append (x ∷ xs) ys = by (is_pending x) (search_append xs ys)
  where
    go : (a b : Search) → counted (and_then a b) ≡ and_then (counted a) b
    go a b = by' a.found refl
      where
        by' : (t : Bool) → a.found ≡ t →
            counted (cond a.found a (record { found = b.found; count = a.count + b.count }))
            ≡ cond a.found (counted a) (record { found = b.found; count = suc a.count + b.count })
        by' true e = rw e
        by' false e = let z : suc (a.count + b.count) ≡ suc a.count + b.count = omega arith in rw (e, z)

    by : (t : Bool) → search_of (xs ++ ys) ≡ and_then (search_of xs) (search_of ys) →
        cond t (record { found = true; count = 1 }) (counted (search_of (xs ++ ys)))
        ≡ and_then (cond t (record { found = true; count = 1 }) (counted (search_of xs))) (search_of ys)
    by true e = refl
    by false e = ap counted e ∙ go (search_of xs) (search_of ys)

pub pending_par : (p q : Run) → pending (par p q) ≡ counted (and_then (pending p) (pending q))
unfolding pending enabled_in search_of is_pending
pending_par p q = ap counted (search_append (enabled_in p) (enabled_in q))

-- ---- killing

-- whether there is nothing
abbrev pub is_none : {A : Type 0} → Option A → Bool
is_none none = true
is_none (some a) = false

none_made : (o : Option Run) (g : Run → Run) → is_none (also o λ a. some (g a)) ≡ is_none o
unfolding also
none_made none g = refl
none_made (some a) g = refl

none_both : (o w : Option Run) → is_none (also o λ a. also w λ b. some (par_of a b)) ≡ is_none o || is_none w
unfolding also
none_both none w = refl
none_both (some a) none = refl
none_both (some a) (some b) = refl

found_then : (a b : Search) → (and_then a b).found ≡ a.found || b.found
unfolding and_then
found_then a b = by a.found refl
  where
    by : (t : Bool) → a.found ≡ t → (cond a.found a (record { found = b.found; count = a.count + b.count })).found ≡ a.found || b.found
    by true e = rw e
    by false e = rw e

-- a process that is searched before its body
pub found_under : (t : Bool) (s : Search) → (cond t (record { found = true; count = 1 }) (counted s)).found ≡ t || s.found
unfolding counted
found_under true s = refl
found_under false s = refl

-- killing is refused exactly where a pending process is found
pub kill_refused : (f : ℕ) (r : Run) → is_none (kill f r) ≡ (pending r).found
unfolding kill pending enabled_in search_of is_pending counted guarded
kill_refused f nil = refl
kill_refused f (seq p q) = kill_refused f p
kill_refused f (par p q) =
    none_both (kill f p) (kill f q)
    ∙ (rw (kill_refused f p, kill_refused f q) (sym (found_then (pending p) (pending q))))
    ∙ sym (ap (λ (s : Search). s.found) (search_append (enabled_in p) (enabled_in q)))
kill_refused f (scope name mark true h p) = none_made (kill f p) (λ p'. scope name mark true h p) ∙ kill_refused f p
kill_refused f (scope name mark false h p) = by (is_done p) (kill_refused f p)
  where
    by : (t : Bool) → is_none (kill f p) ≡ (pending p).found →
        is_none (guarded (not t) (also (kill f p) λ p'. some (scope name own_name true h p')))
        ≡ (cond t (record { found = true; count = 1 }) (counted (search_of (enabled_in p)))).found
    by true e = refl
    by false e = none_made (kill f p) (λ p'. scope name own_name true h p') ∙ e
kill_refused f (executor o y client serial p) = none_made (kill f p) (λ p'. par_of p' (notice o f client serial)) ∙ kill_refused f p
kill_refused f (waiter o x dead server serial l) = refl
kill_refused f (notice o g client serial) = refl
kill_refused f (act p) = by (eqb (kind p) Kind.inst)
  where
    by : (t : Bool) →
        is_none (guarded (not t) (some nil)) ≡ (cond t (record { found = true; count = 1 }) (counted (record { found = false; count = 0 }))).found
    by true = refl
    by false = refl

-- ---- the climb

none_then : (o : Option Run) (k : Run → Option Run) (t : Bool) → ((a : Run) → is_none (k a) ≡ t) → is_none (also o k) ≡ is_none o || t
unfolding also
none_then none k t h = refl
none_then (some a) k t h = h a

-- a climb is refused exactly where a side that it meets before it stops has a pending process
pub climb_refused : (f : ℕ) (fs : List Frame) (p : Run) → is_none (climb f fs p) ≡ any_pending (sides_met f fs)
unfolding climb sides_met any_pending
climb_refused f [] p = refl
climb_refused f (seq_frame q ∷ fs) p = climb_refused f fs p
climb_refused f (left_frame q ∷ fs) p =
    none_then (kill f q) (λ q'. climb f fs (par_of p q')) (any_pending (sides_met f fs)) (λ q'. climb_refused f fs (par_of p q'))
    ∙ ap (λ t. t || any_pending (sides_met f fs)) (kill_refused f q)
climb_refused f (right_frame q ∷ fs) p =
    none_then (kill f q) (λ q'. climb f fs (par_of q' p)) (any_pending (sides_met f fs)) (λ q'. climb_refused f fs (par_of q' p))
    ∙ ap (λ t. t || any_pending (sides_met f fs)) (kill_refused f q)
climb_refused f (executor_frame o y client serial ∷ fs) p = climb_refused f fs (par_of p (notice o f client serial))
climb_refused f (scope_frame name mark zombie h ∷ fs) p = by (holds (fault_key f) h) zombie _ _ (climb_refused f fs (scope name unmarked true h p))
  where
    by : (b z : Bool) (x y : Run) → is_none (climb f fs (scope name unmarked true h p)) ≡ any_pending (sides_met f fs) →
        is_none (cond b (some x) (cond z (some y) (climb f fs (scope name unmarked true h p))))
        ≡ any_pending (cond (z || b) [] (sides_met f fs))
    by true true x y e = refl
    by true false x y e = refl
    by false true x y e = refl
    by false false x y e = e

-- ---- no more are counted than there are words

search_most : (ps : List Run) → (search_of ps).count ≤ length ps
unfolding search_of counted
search_most [] = omega arith
search_most (p ∷ ps) = let h = search_most ps in by (is_pending p) h
  where
    by : (t : Bool) → (search_of ps).count ≤ length ps → (cond t (record { found = true; count = 1 }) (counted (search_of ps))).count ≤ length (p ∷ ps)
    by true h = omega arith
    by false h = omega arith

enabled_few : (r : Run) → length (enabled_in r) ≤ size r
unfolding enabled_in
enabled_few nil = omega (arith, size_positive nil)
enabled_few (seq p q) = let h = enabled_few p in omega (arith, size_seq p q)
enabled_few (par p q) =
    let h = enabled_few p in
    let k = enabled_few q in
    omega (arith, size_par p q, length-append (enabled_in p) (enabled_in q))
enabled_few (scope name mark zombie h p) = let k = enabled_few p in omega (arith, size_scope name mark zombie h p)
enabled_few (executor o y client serial p) = let k = enabled_few p in omega (arith, size_executor o y client serial p)
enabled_few (waiter o x dead server serial l) = omega (arith, size_positive (waiter o x dead server serial l))
enabled_few (notice o f client serial) = omega (arith, size_positive (notice o f client serial))
enabled_few (act p) = omega (arith, size_positive (act p))

pub count_few : (r : Run) → (pending r).count ≤ size r
unfolding pending
count_few r = let h = search_most (enabled_in r) in let k = enabled_few r in omega arith
