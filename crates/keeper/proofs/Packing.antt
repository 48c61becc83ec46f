-- The answer packed for C: the move shown fits its bits, and what is read alike is answered alike.
-- Assumes nothing.
use Prim.Native.Nat.{ℕ, zero, suc}
use native.Mathlib.Omega.{arith}
use native.Mathlib.Decide.{ℕ_discrete}
use mathlib.Core.Path.{◌≡◌, refl, sym, subst, ap, ◌∙◌}
use mathlib.Core.Bool.{Bool, true, false, cond}
use mathlib.Core.Option.{Option, none, some}
use mathlib.Core.List.{List}
use lib.Dec.{eqb}
use Rattle.sock.specs.Configuration.{standard, Config, read_config}
use Rattle.sock.specs.Calls.{Numbers, ◌>>=◌, ◌!◌, known}
use Rattle.sock.proofs.Configuration.{config_found}
use Rattle.keeper.specs.Game.{river, moved, won, forces}
use Rattle.keeper.specs.Calls.{after_known, keeper_number, outcome_of, keeper_outcome, no_numbers, Shown, Showing}
use Rattle.keeper.specs.Bytes.{config_in, packed_keeper, Narrow, ByteAnswer}
use Rattle.keeper.proofs.Some.{accepts_there}
use Rattle.keeper.proofs.Bounds.{Small, accepted_small}

-- ---- the move shown is narrow

no_outcome : (ws : List ℕ) (engines serial room : ℕ) → keeper_outcome ws engines serial 0 room ≡ 0
unfolding keeper_outcome outcome_of forces
no_outcome ws engines serial room = by (eqb (keeper_number ws serial 0 room) 0)
  where
    by : (b : Bool) → ◌≡◌ {A = ℕ} (cond b 0 0) 0
    by true = refl
    by false = refl

shown_narrow : (engines serial k : ℕ) (ws : List ℕ) (m : Numbers) (j : ℕ) → k ≡ suc j → Shown engines serial k ws m → Narrow m
shown_narrow engines serial k ws m j d s =
    let (x, e, t) = accepts_there (won serial (forces engines serial j river)) (moved ws m) (s.keeps j d) in
    let small : Small ws m = accepted_small ws m x e in
    let w = small.words in
    record {
      engine = small.first.engine;
      position = omega (arith, small.first.position);
      second = small.second;
      place = omega (arith, small.place);
      branch = omega (arith, small.branch);
    }

nothing_narrow : (m : Numbers) → m ≡ no_numbers → Narrow m
nothing_narrow m e = subst Narrow (sym e) (record { engine = omega arith; position = omega arith; second = omega arith; place = omega arith; branch = omega arith })

pub showing_narrow : (ws : List ℕ) (engines serial k room o : ℕ) (m : Numbers) → o ≡ keeper_outcome ws engines serial k room → Showing engines serial k ws o m → Narrow m
showing_narrow ws engines serial k room o m e s = by k refl (ℕ_discrete o 1)
  where
    by : (n : ℕ) → k ≡ n → Dec (o ≡ 1) → Narrow m
    by n d (no z) = nothing_narrow m (s.hidden z)
    by zero d (yes z) = absurd (omega (arith, z, e ∙ ap (λ (n : ℕ). keeper_outcome ws engines serial n room) d ∙ no_outcome ws engines serial room))
    by (suc j) d (yes z) = shown_narrow engines serial k ws m j d (s.shown z)

-- ---- words that are read alike

unread_number : (ws : List ℕ) (serial k room : ℕ) → read_config standard ws ≡ none → keeper_number ws serial k room ≡ 1
unfolding keeper_number after_known known ◌>>=◌ ◌!◌
unread_number ws serial k room e = rw e

unread_outcome : (ws : List ℕ) (engines serial k room : ℕ) → read_config standard ws ≡ none → keeper_outcome ws engines serial k room ≡ 0
unfolding keeper_outcome
unread_outcome ws engines serial k room e = rw (unread_number ws serial k room e)

pub record Alike (ws : List ℕ) (engines serial k room n o : ℕ) (m : Numbers) : Type 0 where
  pub number : n ≡ keeper_number ws serial k room
  pub outcome : o ≡ keeper_outcome ws engines serial k room
  pub showing : Showing engines serial k ws o m

pub read_alike : (ws us : List ℕ) (engines serial k room n o : ℕ) (m : Numbers) → read_config standard ws ≡ read_config standard us → Alike ws engines serial k room n o m → Alike us engines serial k room n o m
read_alike ws us engines serial k room n o m e a = by (read_config standard ws) refl
  where
    by : (c : Option Config) → read_config standard ws ≡ c → Alike us engines serial k room n o m
    by (some c) q =
        let same : ws ≡ us = sym (config_found standard ws c q).0 ∙ (config_found standard us c (sym e ∙ q)).0 in
        subst (λ (xs : List ℕ). Alike xs engines serial k room n o m) same a
    by none q =
        let z : o ≡ 0 = a.outcome ∙ unread_outcome ws engines serial k room q in
        record {
          number = a.number ∙ unread_number ws serial k room q ∙ sym (unread_number us serial k room (sym e ∙ q));
          outcome = z ∙ sym (unread_outcome us engines serial k room (sym e ∙ q));
          showing = record { shown = λ u. absurd (omega (arith, u, z)); hidden = a.showing.hidden };
        }

-- ---- packed

pub byte_answer :
    (bytes ws : List ℕ) (engines serial k room n o : ℕ) (m : Numbers) (r : ℕ) → read_config standard ws ≡ read_config standard (config_in bytes) → n ≡ keeper_number ws serial k room →
    o ≡ keeper_outcome ws engines serial k room → Showing engines serial k ws o m → r ≡ packed_keeper n o m →
    ByteAnswer bytes engines serial k room r
byte_answer bytes ws engines serial k room n o m r e said decided s q =
    let a : Alike (config_in bytes) engines serial k room n o m = read_alike ws (config_in bytes) engines serial k room n o m e (record { number = said; outcome = decided; showing = s }) in
    record {
      move = m;
      narrow = showing_narrow ws engines serial k room o m decided s;
      packed = q ∙ ap (λ (x : ℕ). packed_keeper x o m) a.number ∙ ap (λ (x : ℕ). packed_keeper (keeper_number (config_in bytes) serial k room) x m) a.outcome;
      shown = subst (λ (x : ℕ). Showing engines serial k (config_in bytes) x m) a.outcome a.showing;
    }
