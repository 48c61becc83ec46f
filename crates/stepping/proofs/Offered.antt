-- Where nothing is offered to a sender, nothing fits: a reply wants a bare receiver and branch 0, and that is always offered.
-- Assumes nothing.
use Prim.Native.Nat.{ℕ}
use mathlib.Core.Path.{◌≡◌, refl, sym, subst}
use mathlib.Core.Bool.{Bool, true, false, cond}
use mathlib.Core.List.{List}
use lib.Dec.{T, eqb, eqb→eq}
use Rattle.sock.specs.Kind
use Rattle.sock.specs.Words.{kind_of, notices_client, executors_client}
use Rattle.rules.specs.Rewriting.{at}
use Rattle.rules.specs.Offering.{offer_w, bare_w, fits_w, receives_w, waits_w, awaits_w}
use Rattle.stepping.specs.Meeting.{addressed_w, replies_w, replied_w, takes_w, fit_w}

none_either : (b x : Bool) → x ≡ false → cond b x false ≡ false
none_either true x e = e
none_either false x e = refl

module _ (part values other : List ℕ) (branch sender receiver : ℕ) (none : (offer_w other branch).some ≡ false) where
  bare_none : eqb (kind_of (at other 0)) Kind.choice ≡ false → eqb branch 0 ≡ false
  unfolding offer_w bare_w
  bare_none e = by (eqb branch 0) refl
    where
      by : (z : Bool) → eqb branch 0 ≡ z → eqb branch 0 ≡ false
      by true q = let t : true ≡ false = rw (e, q) at none in absurd (subst T t tt)
      by false q = q

  waits_none : (h serial : ℕ) → eqb (kind_of (at other 0)) Kind.choice ≡ true → waits_w other h serial ≡ false
  unfolding waits_w receives_w
  waits_none h serial e = rw (eqb→eq (kind_of (at other 0)) Kind.choice (subst T (sym e) tt))

  replies_none : (client : ℕ) → replies_w part other client branch sender receiver ≡ false
  unfolding replies_w awaits_w
  replies_none client = by (eqb (kind_of (at other 0)) Kind.choice) refl
    where
      by : (z : Bool) → eqb (kind_of (at other 0)) Kind.choice ≡ z → replies_w part other client branch sender receiver ≡ false
      by false e = rw (bare_none e)
      by true e = none_either (eqb branch 0) _ (none_either (eqb client receiver) _ (none_either _ _ (waits_none (at part 0) (at part 2) e)))

  takes_none : (kind : ℕ) → takes_w part other (offer_w other branch) kind ≡ false
  unfolding takes_w fits_w
  takes_none kind = rw none

  pub fit_offered : (kind : ℕ) → fit_w part values other (offer_w other branch) kind branch sender receiver ≡ false
  unfolding fit_w replied_w
  fit_offered kind = by (eqb kind Kind.executor) (eqb kind Kind.notice)
    where
      by : (a b : Bool) →
          cond a (replied_w part other branch sender receiver)
          (cond b (replies_w part other (notices_client (at part 1)) branch sender receiver)
          (cond (addressed_w part values receiver) (takes_w part other (offer_w other branch) kind) false))
          ≡ false
      by true b = rw (replies_none (executors_client (at part 1)))
      by false true = replies_none (notices_client (at part 1))
      by false false = none_either (addressed_w part values receiver) _ (takes_none kind)
