-- Laws of lost positions: where every move loses, and so does the pass, the position is lost; so it is one move before the end where no reply is ready.
-- Assumes nothing.
use Prim.Native.Nat.{ℕ, suc, ◌<◌}
use native.Mathlib.Omega.{arith}
use native.Mathlib.Decide.{ℕ_discrete}
use mathlib.Core.Path.{◌≡◌, refl, sym, subst, ap, ◌∙◌}
use mathlib.Core.Bool.{Bool, true, false, not}
use mathlib.Core.List.{List}
use borrow.Author.Tests.{eq-eqb, ne_eqb}
use lib.Dec.{T, T_not, not_T, eqb, eqb→eq}
use lib.ListN.{length}
use Rattle.sock.specs.Calls.{Numbers, done, Stepped}
use Rattle.sock.specs.Configuration.{encode}
use Rattle.sock.proofs.Logic.{cond-case}
use Rattle.keeper.specs.Game.{Side, keeper, river, moved, any, fails, some_move, every_move, has_move, delivers, won, forces}
use Rattle.keeper.specs.Hopes.{ready_at, ready_w, lost_w, Hope}
use Rattle.keeper.proofs.Some.{found_none, move_here, move_there}
use Rattle.keeper.proofs.Forcing.{some_move_lem, move_of}
use Rattle.keeper.proofs.Replying.{reply_ready, was_read}

-- ---- every move loses

abbrev pub across : Side → Side
across keeper = river
across river = keeper

off : (b : Bool) → (T b → ⊥) → b ≡ false
off true f = absurd (f tt)
off false f = refl

module _ (engines : ℕ) (ws : List ℕ) (test : Stepped → Bool) (loses : (k : Numbers) (x : Stepped) → moved ws k ≡ done x → test x ≡ false) where
  none_passes : (side : Side) → some_move engines side ws test ≡ false
  none_passes side =
      off (some_move engines side ws test) λ t.
      let (k, u) = move_of engines side ws test t in
      let (x, s, d, v) = move_there engines side ws test k u in
      subst T (loses k x d) v

  not_every : (side : Side) → T (has_move engines side ws) → every_move engines side ws test ≡ false
  unfolding every_move has_move fails
  not_every side t =
      off (every_move engines side ws test) λ e.
      let (k, u) = move_of engines side ws any t in
      let (x, s, d, v) = move_there engines side ws any k u in
      T_not (some_move engines side ws (fails test)) e
      (some_move_lem engines side ws (fails test) k (move_here engines side ws (fails test) k x s d (not_T (test x) λ w. subst T (loses k x d) w)))

abbrev No : Bool → Type 0
No b = b ≡ false

pub lose :
    (engines serial n : ℕ) (side : Side) (ws : List ℕ) →
    ((k : Numbers) (x : Stepped) → moved ws k ≡ done x → won serial (forces engines serial n (across side)) x ≡ false) →
    forces engines serial n (across side) ws ≡ false → forces engines serial (suc n) side ws ≡ false
unfolding forces
lose engines serial n keeper ws loses stays =
    cond-case No (has_move engines keeper ws) (λ t. none_passes engines ws (won serial (forces engines serial n river)) loses keeper) (λ t. stays)
lose engines serial n river ws loses stays =
    cond-case No (has_move engines river ws) (λ t. not_every engines ws (won serial (forces engines serial n keeper)) loses river t) (λ t. stays)

-- ---- one move before the end

module _ (serial : ℕ) (ws : List ℕ) (none : (i : ℕ) → i < length ws → ready_at serial ws i ≡ false) where
  last_loses : (rest : List ℕ → Bool) → ((us : List ℕ) → rest us ≡ false) → (k : Numbers) (x : Stepped) → moved ws k ≡ done x → won serial rest x ≡ false
  unfolding won
  last_loses rest lost k x d =
      cond-case No (delivers serial x)
      (λ t. off (eqb x.fault 0) λ f. (let (c, reads) = was_read ws k x d in let r = reply_ready ws k x serial d t (eqb→eq x.fault 0 f) c reads in subst T (sym r.ready ∙ none _ r.inside) tt))
      (λ t. lost (encode x.config))

  nothing_left : (engines : ℕ) (side : Side) (us : List ℕ) → forces engines serial 0 side us ≡ false
  unfolding forces
  nothing_left engines side us = refl

  pub lost_last : (engines : ℕ) (side : Side) → forces engines serial 1 side ws ≡ false
  lost_last engines side =
      lose engines serial 0 side ws (λ k x d. last_loses (forces engines serial 0 (across side)) (nothing_left engines (across side)) k x d) (nothing_left engines (across side) ws)

-- ---- what the code says of a position

never_left : (engines serial left : ℕ) (side : Side) (ws : List ℕ) → left ≡ 0 → forces engines serial left side ws ≡ false
unfolding forces
never_left engines serial left side ws e = ap (λ (n : ℕ). forces engines serial n side ws) e

hope_end : (serial left : ℕ) (ws : List ℕ) → left ≡ 0 → Hope serial left ws true
hope_end serial left ws e = record { some = λ q. absurd (subst T q tt); none = λ q engines side. never_left engines serial left side ws e }

hope_last : (serial left : ℕ) (ws : List ℕ) (r : Bool) → left ≡ 1 → (r ≡ false → (i : ℕ) → i < length ws → ready_at serial ws i ≡ false) → Hope serial left ws (not r)
hope_last serial left ws true e f = record { some = λ q z. omega (arith, e, z); none = λ q. absurd (subst T (sym q) tt) }
hope_last serial left ws false e f =
    record { some = λ q. absurd (subst T q tt); none = λ q engines side. ap (λ (n : ℕ). forces engines serial n side ws) e ∙ lost_last serial ws (f refl) engines side }

hope_more : (serial left : ℕ) (ws : List ℕ) → (left ≡ 0 → ⊥) → Hope serial left ws false
hope_more serial left ws n = record { some = λ q z. n z; none = λ q. absurd (subst T (sym q) tt) }

unready : (serial : ℕ) (ws : List ℕ) → ready_w serial ws ≡ false → (i : ℕ) → i < length ws → ready_at serial ws i ≡ false
unfolding ready_w
unready serial ws e = found_none (length ws) (ready_at serial ws) e

-- What `lost_w` tells is so
pub lost_hope : (serial left : ℕ) (ws : List ℕ) → Hope serial left ws (lost_w serial left ws)
unfolding lost_w
lost_hope serial left ws = by (ℕ_discrete left 0) (ℕ_discrete left 1)
  where
    by : Dec (left ≡ 0) → Dec (left ≡ 1) → Hope serial left ws (lost_w serial left ws)
    by (yes z) d = rw (eq-eqb left 0 z) (hope_end serial left ws z)
    by (no n) (yes z) = rw (ne_eqb left 0 n, eq-eqb left 1 z) (hope_last serial left ws (ready_w serial ws) z (unready serial ws))
    by (no n) (no m) = rw (ne_eqb left 0 n, ne_eqb left 1 m) (hope_more serial left ws n)
