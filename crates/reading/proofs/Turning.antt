-- A node whose last process is read in the next turn: where it ends is where that process ends, behind what stands before it.
-- Assumes nothing.
use Prim.Native.Nat.{ℕ, ◌+◌, ◌-◌, ◌≤◌, ◌<◌}
use native.Mathlib.Omega.{arith}
use mathlib.Core.Path.{◌≡◌, refl, sym, subst, ap, ◌∙◌}
use mathlib.Core.Bool.{Bool, true, false, not, ◌&&◌, ◌||◌, cond}
use mathlib.Core.List.{List}
use mathlib.Core.Logic.{◌⊎◌, inl, inr}
use Rattle.sock.proofs.Fields.{From, end, ◌then◌, fact_at}
use borrow.Author.Tests.{lt-leb, le-leb, ltb-true, ltb-false, ne_eqb, eqb-true, eqb-false}
use lib.Dec.{T, leb, ltb, eqb}
use lib.ListN.{length, get_or-eq_default}
use Rattle.std.specs.Prelude.{Some, None}
use Rattle.std.proofs.lemmas.Option.{none-some, same_Some}
use Rattle.sock.specs.Words.{kind_of, clear, count_of}
use Rattle.layout.specs.Contexts.{handlers}
use Rattle.layout.specs.Keys.{no_key}
use Rattle.layout.specs.Kinds.{kind_named, number_of as kind_number}
use Rattle.layout.specs.declared.kind.Kind.{Kind}
use Rattle.layout.specs.declared.kind.Kind.TheVariants as kinds
use Rattle.layout.proofs.Named.{Named, as_is, beyond, numbered}
use Rattle.reading.specs.declared.reader.Rest.TheVariants as rests
use Rattle.reading.specs.declared.context.Context.{Context}
use Rattle.reading.specs.Rests.{rest_end, RestOf}
use Rattle.reading.specs.Sets.{context_in, head_stands}
use Rattle.reading.specs.Walk.{end_as, at, on, when, context_of, rest_of, expr_end, two_end, branch_end, repeat_end, executor_own, executor_end, request_end, scope_end, resting_end, marked_end, node_end, process_end, stands_at, kind_at, one_word, rests as rests_at, headed_end, request_at, body_at, choice_end, one_way_end, notify_end, solicit_end, list_end, waiter_end, notice_end}
use Rattle.reading.proofs.Combining.{Words}
use Rattle.reading.proofs.Given.{none_end, some_end, as_none, as_some}
use Rattle.reading.proofs.Heads.{head_law}
use Rattle.reading.proofs.Sets.{Known}
use Rattle.reading.proofs.Walks.{process_step}

-- ---- what comes after something, and what was tested first

pub after : (n x : ℕ) (k : ℕ → ℕ) → Some x ≡ end_as n → on n k ≡ k x
unfolding on
after n x k e = let s = some_end x n e in rw (← s.0, ne_eqb x 0 s.1) refl

nowhere : (n : ℕ) (k : ℕ → ℕ) → None ≡ end_as n → on n k ≡ 0
unfolding on
nowhere n k e = rw (none_end n e) refl

when_both : (a b : Bool) (n : ℕ) → when (a && b) n ≡ when a (when b n)
unfolding when
when_both true b n = refl
when_both false b n = refl

when_true : (n : ℕ) → when true n ≡ n
unfolding when
when_true n = refl

when_zero : (b : Bool) → when b 0 ≡ 0
unfolding when
when_zero true = refl
when_zero false = refl

never : (a b : Bool) (n : ℕ) → (a && b) ≡ false → when a (when b n) ≡ 0
unfolding when
never true true n e = absurd (let z : T false = subst T e tt in z)
never true false n e = refl
never false b n e = refl

on_when : (b : Bool) (n : ℕ) (k : ℕ → ℕ) → on (when b n) k ≡ when b (on n k)
unfolding on when
on_when true n k = refl
on_when false n k = refl

on_on : (n : ℕ) (f k : ℕ → ℕ) → on (on n f) k ≡ on n λ x. on (f x) k
unfolding on
on_on n f k = by (eqb n 0)
  where
    by : (b : Bool) → on (cond b 0 (f n)) k ≡ cond b 0 (on (f n) k)
    by true = refl
    by false = refl

swap : (a l x y : Bool) (i : ℕ) (k : ℕ → ℕ) → when a (when l (when (x && y) (k (i + 3)))) ≡ on (when l (when (x && y && a) (i + 3))) k
unfolding on when
swap true true true true i k = rw (ne_eqb (i + 3) 0 (λ z. omega arith)) refl
swap true true true false i k = refl
swap true true false y i k = refl
swap true false x y i k = refl
swap false true true true i k = refl
swap false true true false i k = refl
swap false true false y i k = refl
swap false false x y i k = refl

-- ---- a kind, if it may stand there

pub kind_none : (d : ℕ) (ws : List ℕ) (kinds i : ℕ) → None ≡ kind_at d ws kinds i → stands_at d ws kinds i ≡ false
unfolding kind_at
kind_none d ws kinds i e = by (stands_at d ws kinds i) e
  where
    by : (b : Bool) → None ≡ cond b (Some (kind_named (kind_of (at ws i)))) None → b ≡ false
    by true e = absurd (none-some _ e)
    by false e = refl

pub kind_some : (d : ℕ) (ws : List ℕ) (kinds i : ℕ) (k : Kind) → Some k ≡ kind_at d ws kinds i → (stands_at d ws kinds i ≡ true) × (k ≡ kind_named (kind_of (at ws i)))
unfolding kind_at
kind_some d ws kinds i k e = by (stands_at d ws kinds i) e
  where
    by : (b : Bool) → Some k ≡ cond b (Some (kind_named (kind_of (at ws i)))) None → (b ≡ true) × (k ≡ kind_named (kind_of (at ws i)))
    by true e = (refl, same_Some _ _ e)
    by false e = absurd (none-some _ (sym e))

module _ (ws : List ℕ) (bound : ℕ) where
  abbrev pub headed : ℕ → ℕ → ℕ → ℕ → ℕ
  headed d c h i = headed_end (expr_end d ws) (process_end d ws bound) ws c bound h i

  -- what the loop keeps: `all` ends where the node at a does, whose kind is k, with d levels left below
  pub record Going (all depth a d c : ℕ) (k : Kind) : Type 0 where
    pub ends : headed d c (at ws a) a ≡ all
    pub kind : k ≡ kind_named (kind_of (at ws a))
    pub inside : a < length ws
    pub low : d ≤ depth

  -- ---- a head that stands there, and one that does not

  pub record Found (d c i : ℕ) : Type 0 where
    pub deep : d ≡ 0 → ⊥
    pub inside : i < length ws
    pub ends : process_end d ws bound c i ≡ headed (d - 1) c (at ws i) i

  module _ (ok : Words ws) (kinds : ℕ) (known : Known kinds) (d i : ℕ) where
    abbrev c : ℕ
    c = context_in kinds

    process_tested :
        (d ≡ 0 → ⊥) →
        process_end d ws bound c i ≡ when (ltb i (length ws)) (when (head_stands kinds (at ws i)) (headed (d - 1) c (at ws i) i))
    unfolding headed_end
    process_tested deep =
        process_step d ws bound c i deep
        ∙ rw (head_law kinds known (at ws i) (ok i), when_both (head_stands kinds (at ws i)) (rests_at c (at ws i))) refl

    pub head_found : stands_at d ws kinds i ≡ true → Found d c i
    unfolding stands_at when headed_end
    head_found e = by (eqb d 0) (ltb i (length ws)) (head_stands kinds (at ws i)) refl refl refl e
      where
        by : (x y z : Bool) → eqb d 0 ≡ x → ltb i (length ws) ≡ y → head_stands kinds (at ws i) ≡ z → (not x && y && z) ≡ true → Found d c i
        by true y z p q r e = absurd (let z : T true = tt in subst T (sym e) z)
        by false false z p q r e = absurd (let z : T true = tt in subst T (sym e) z)
        by false true false p q r e = absurd (let z : T true = tt in subst T (sym e) z)
        by false true true p q r e =
            let deep = eqb-false d 0 p in record { deep = deep; inside = ltb-true i (length ws) q; ends = process_tested deep ∙ rw (q, r) refl }

    pub head_missing : stands_at d ws kinds i ≡ false → process_end d ws bound c i ≡ 0
    unfolding stands_at process_end
    head_missing e = by (eqb d 0) (ltb i (length ws)) (head_stands kinds (at ws i)) refl refl refl e
      where
        none_left : d ≡ 0 → process_end d ws bound c i ≡ 0
        none_left z = rw z refl

        by : (x y z : Bool) → eqb d 0 ≡ x → ltb i (length ws) ≡ y → head_stands kinds (at ws i) ≡ z → (not x && y && z) ≡ false → process_end d ws bound c i ≡ 0
        by true y z p q r e = none_left (eqb-true d 0 p)
        by false y z p q r e = process_tested (eqb-false d 0 p) ∙ rw (q, r) (never y z _ e)

    pub kind_missing : None ≡ kind_at d ws kinds i → process_end d ws bound c i ≡ 0
    kind_missing e = head_missing (kind_none d ws kinds i e)

    pub kind_found : (k : Kind) → Some k ≡ kind_at d ws kinds i → Found d c i
    kind_found k e = head_found (kind_some d ws kinds i k e).0

  -- ---- a node by its kind, up to its last process

  module _ (d c h i : ℕ) where
    abbrev ex : ℕ → ℕ
    ex = expr_end d ws

    abbrev sub : ℕ → ℕ → ℕ
    sub = process_end d ws bound

    -- x and y are the contexts of the part before the last process, and of that
    module _ (x y : ℕ) where
      pub seq_headed : x ≡ context_of c + 1 → y ≡ rest_of c → kind_of h ≡ 2 → headed d c h i ≡ on (sub x (i + 1)) (sub y)
      unfolding headed_end rests_at node_end two_end when
      seq_headed p q e = rw (e, p, q) refl

      pub par_headed : x ≡ context_of c + 1 → kind_of h ≡ 3 → headed d c h i ≡ on (sub x (i + 1)) (sub x)
      unfolding headed_end rests_at node_end two_end when
      par_headed p e = rw (e, p) refl

      pub if_headed : y ≡ rest_of c → kind_of h ≡ 4 → headed d c h i ≡ on (ex (i + 1)) λ e. on (sub y e) (sub y)
      unfolding headed_end rests_at node_end branch_end two_end when
      if_headed q e = rw (e, q) refl

      pub while_headed : y ≡ rest_of c → kind_of h ≡ 5 → headed d c h i ≡ on (ex (i + 1)) (sub y)
      unfolding headed_end rests_at node_end repeat_end when
      while_headed q e = rw (e, q) refl

    pub request_headed : (y : ℕ) → y ≡ rest_of c → kind_of h ≡ 8 → headed d c h i ≡ on (request_at ws h i) (sub y)
    unfolding headed_end rests_at node_end request_end request_at
    request_headed y q e = rw (e, q) (when_true _ ∙ sym (on_when _ _ _ ∙ ap (when _) (on_on _ _ _)))

    pub scope_headed : (y : ℕ) → y ≡ context_of c → c < 12 → kind_of h ≡ 11 → headed d c h i ≡ on (body_at sub ws c h i) (sub y)
    unfolding headed_end rests_at node_end scope_end resting_end body_at
    scope_headed y p low e = rw (e, p) (by (ltb c 8) refl)
      where
        fault : Bool
        fault = eqb (at ws (i + 1)) 0 && eqb (at ws (i + 2)) 0

        by :
            (b : Bool) → ltb c 8 ≡ b →
            when (not b || clear 32 h) (when (leb 3 (length ws - i)) (cond b (when fault (sub (context_of c) (i + 3))) (on (marked_end sub ws h (at ws (i + 1)) (i + 2)) (sub 8))))
            ≡ on (when (leb 3 (length ws - i)) (cond (leb 8 c) (marked_end sub ws h (at ws (i + 1)) (i + 2)) (when (eqb (at ws (i + 1)) 0 && eqb (at ws (i + 2)) 0 && clear 32 h) (i + 3)))) (sub (context_of c))
        by true q = let under : leb 8 c ≡ false = lt-leb 8 c (ltb-true c 8 q) in rw under (swap (clear 32 h) (leb 3 (length ws - i)) (eqb (at ws (i + 1)) 0) (eqb (at ws (i + 2)) 0) i (sub (context_of c)))
        by false q =
            let over : leb 8 c ≡ true = le-leb 8 c (ltb-false c 8 q) in
            let eight : context_of c ≡ 8 = omega (arith, ltb-false c 8 q) in
            rw (over, eight) (when_true _ ∙ sym (on_when _ _ _))

    pub executor_headed : (y : ℕ) → y ≡ 8 → kind_of h ≡ 16 → headed d c h i ≡ on (executor_own ws bound i) (sub y)
    unfolding headed_end rests_at node_end executor_end when
    executor_headed y p e = rw (e, p) refl

    -- those with no other process at their end

    pub assign_headed : kind_of h ≡ 1 → headed d c h i ≡ ex (i + 1)
    unfolding headed_end rests_at node_end when
    assign_headed e = rw e refl

    pub choice_headed : (n : ℕ) → n ≡ count_of h → kind_of h ≡ 6 → headed d c h i ≡ choice_end sub (rest_of c) n (i + 1)
    unfolding headed_end rests_at node_end when
    choice_headed n q e = rw (e, q) refl

    pub one_way_headed : kind_of h ≡ 7 → headed d c h i ≡ one_way_end ws h i
    unfolding headed_end rests_at node_end when
    one_way_headed e = rw e refl

    pub notify_headed : kind_of h ≡ 9 → headed d c h i ≡ notify_end ws i
    unfolding headed_end rests_at node_end when
    notify_headed e = rw e refl

    pub solicit_headed : kind_of h ≡ 10 → headed d c h i ≡ solicit_end sub ws i
    unfolding headed_end rests_at node_end when
    solicit_headed e = rw e refl

    pub inst_headed : (l : ℕ) → l ≡ handlers → kind_of h ≡ 12 → headed d c h i ≡ list_end sub ws l no_key (i + 1)
    unfolding headed_end rests_at node_end when
    inst_headed l q e = rw (e, q) refl

    pub waiter_headed : kind_of h ≡ 17 → headed d c h i ≡ waiter_end sub ws h bound i
    unfolding headed_end rests_at node_end when
    waiter_headed e = rw e refl

    pub notice_headed : kind_of h ≡ 18 → headed d c h i ≡ notice_end ws bound i
    unfolding headed_end rests_at node_end when
    notice_headed e = rw e refl

    pub unused_headed : 19 ≤ kind_of h → headed d c h i ≡ 0
    unfolding headed_end node_end
    unused_headed far = simp get_or-eq_default (when_zero (rests_at c h))

  -- what was read before the last process; it does not fit; or there is none
  module _ (d c i : ℕ) where
    abbrev here : ℕ
    here = headed d c (at ws i) i

    pub goes : (n x : ℕ) (last : Context) → here ≡ on n (process_end d ws bound (context_in last.kinds)) → Some x ≡ end_as n → RestOf ws bound d c i (Some (rests.Process x last))
    unfolding rest_end
    goes n x last by_kind e = record { ends = by_kind ∙ after n x (process_end d ws bound (context_in last.kinds)) e; stands = tt }

    pub breaks : (n : ℕ) (k : ℕ → ℕ) → here ≡ on n k → None ≡ end_as n → RestOf ws bound d c i None
    unfolding rest_end
    breaks n k by_kind e = record { ends = by_kind ∙ nowhere n k e; stands = tt }

    pub ended : (n x : ℕ) → here ≡ n → Some x ≡ end_as n → RestOf ws bound d c i (Some (rests.Nothing x))
    unfolding rest_end
    ended n x by_kind e = let s = some_end x n e in record { ends = by_kind ∙ sym s.0; stands = s.1 }

    pub never_ends : (n : ℕ) → here ≡ n → None ≡ end_as n → RestOf ws bound d c i None
    unfolding rest_end
    never_ends n by_kind e = record { ends = by_kind ∙ none_end n e; stands = tt }

  -- ---- the turns of the loop

  module _ (all depth a d c : ℕ) (k : Kind) (g : Going all depth a d c k) where
    pub stops : RestOf ws bound d c a None → None ≡ end_as all
    unfolding rest_end
    stops r = as_none all (sym r.ends ∙ g.ends)

    pub comes_to : (x : ℕ) → RestOf ws bound d c a (Some (rests.Nothing x)) → Some x ≡ end_as all
    unfolding rest_end
    comes_to x r = as_some x all (sym r.ends ∙ g.ends) r.stands

    module _ (ok : Words ws) (x : ℕ) (last : Context) (r : RestOf ws bound d c a (Some (rests.Process x last))) where
      next_is : process_end d ws bound (context_in last.kinds) x ≡ all
      unfolding rest_end
      next_is = sym r.ends ∙ g.ends

      pub none_stands : None ≡ kind_at d ws last.kinds x → None ≡ end_as all
      none_stands e = as_none all (sym (kind_missing ok last.kinds last.known d x e) ∙ next_is)

      pub turn : (n : Kind) → Some n ≡ kind_at d ws last.kinds x → Going all depth x (d - 1) (context_in last.kinds) n
      turn n e =
          let f = kind_found ok last.kinds last.known d x n e in
          let low = g.low in
          record { ends = sym f.ends ∙ next_is; kind = (kind_some d ws last.kinds x n e).1; inside = f.inside; low = omega (arith, low) }

      pub falls : (n : Kind) → Some n ≡ kind_at d ws last.kinds x → 1 ≤ d
      falls n e = let deep = (kind_found ok last.kinds last.known d x n e).deep in omega (arith, deep)

  -- ---- a process of one word

  pub word_headed : (d c h i : ℕ) → T (one_word (kind_of h)) → headed d c h i ≡ i + 1
  unfolding headed_end rests_at node_end when
  word_headed d c h i t = by (eqb (kind_of h) 0) (eqb (kind_of h) 13) (eqb (kind_of h) 14) (eqb (kind_of h) 15) refl refl refl refl t
    where
      by :
          (p q r s : Bool) → eqb (kind_of h) 0 ≡ p → eqb (kind_of h) 13 ≡ q → eqb (kind_of h) 14 ≡ r → eqb (kind_of h) 15 ≡ s → T (p || q || r || s) →
          headed d c h i ≡ i + 1
      by true q r s e f j k t = rw (eqb-true (kind_of h) 0 e) refl
      by false true r s e f j k t = rw (eqb-true (kind_of h) 13 f) refl
      by false false true s e f j k t = rw (eqb-true (kind_of h) 14 j) refl
      by false false false true e f j k t = rw (eqb-true (kind_of h) 15 k) refl
      by false false false false e f j k t = absurd t

  pub word_ends : (d c i : ℕ) → Found d c i → T (one_word (kind_of (at ws i))) → Some (i + 1) ≡ end_as (process_end d ws bound c i)
  word_ends d c i f t = as_some (i + 1) _ (sym (f.ends ∙ word_headed (d - 1) c (at ws i) i t)) λ z. omega (arith, z)

-- ---- a kind by its name

pub word_named : (k : ℕ) → one_word (kind_number (kind_named k)) ≡ one_word k
word_named k = by (numbered k)
  where
    by : Named 19 k (kind_number (kind_named k)) → one_word (kind_number (kind_named k)) ≡ one_word k
    by (as_is q) = ap one_word q
    by (beyond q far) = rw (q, ne_eqb k 0 (λ z. omega arith), ne_eqb k 13 (λ z. omega arith), ne_eqb k 14 (λ z. omega arith), ne_eqb k 15 (λ z. omega arith)) refl

pub word_by_name : {r : Kind} (k : ℕ) → r ≡ kind_named k → (r ≡ kinds.Nil) ⊎ ((r ≡ kinds.Throw) ⊎ ((r ≡ kinds.Comp) ⊎ (r ≡ kinds.Ch))) → T (one_word k)
word_by_name {r} k e is = subst T (ap (λ x. one_word (kind_number x)) e ∙ word_named k) (by is)
  where
    by : (r ≡ kinds.Nil) ⊎ ((r ≡ kinds.Throw) ⊎ ((r ≡ kinds.Comp) ⊎ (r ≡ kinds.Ch))) → T (one_word (kind_number r))
    by (inl q) = rw q tt
    by (inr (inl q)) = rw q tt
    by (inr (inr (inl q))) = rw q tt
    by (inr (inr (inr q))) = rw q tt

pub unused_far : (k : ℕ) → kinds.Unused ≡ kind_named k → 19 ≤ k
unused_far k e = by (numbered k)
  where
    by : Named 19 k (kind_number (kind_named k)) → 19 ≤ k
    by (as_is q) = omega (arith, q, ap kind_number e)
    by (beyond q far) = far
