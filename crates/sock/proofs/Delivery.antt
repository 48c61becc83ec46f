-- A working end with nothing left to run is delivered: the step that names it and the end that awaits it is accepted.
-- Assumes nothing.
use Prim.Native.Nat.{ℕ, suc, ◌≤◌}
use native.Mathlib.Omega.{arith}
use mathlib.Core.Path.{◌≡◌, refl, ap, ◌∙◌}
use mathlib.Core.Bool.{Bool, true, false, not, ◌&&◌, cond}
use mathlib.Core.Option.{Option, some}
use mathlib.Core.List.{List, [], ◌∷◌, append-nil}
use lib.Dec.{T, leb, eqb, eqb_refl, eqb→eq, not_T, le→leb}
use lib.ListN.{length, set, length-set}
use borrow.Author.Tests.{eq-eqb}
use Rattle.sock.specs.Variables.{values_at, set_all}
use Rattle.sock.specs.Term.{Entries, kind}
use Rattle.sock.specs.Layout.{exprs_words, words, entries_words, exprs_depth, depth}
use Rattle.sock.specs.Running.{Run, nil, executor, waiter, notice, act, as_node}
use Rattle.sock.specs.Configuration.{Limits, Engine, Config, encode, engines_depth, read_config}
use Rattle.sock.specs.Frames.{Frame, is_done, plug}
use Rattle.sock.specs.Rules.{also, Message, reply, failure, Move, sends, once_done, move_of, if_waits, awaited, inst_of, throw_of, Exchange, exchange}
use Rattle.sock.specs.Calls.{Refusal, Result, done, ◌>>=◌, ◌>>◌, ◌!◌, ◌unless◌, Numbers, Spot, engine_at, enabled_at, movable, partner, Effect, between, effect, Stepped, with_engine, carried_out, step}
use Rattle.sock.specs.Runs.{delivery}
use Rattle.sock.proofs.Logic.{and_both, true_test, cond-case, all_some_lem}
use Rattle.sock.proofs.Fits.{FitsConfig, Readable}
use Rattle.sock.proofs.Measures.{size_nil, size_executor, size_waiter, size_notice, size_act, depth_nil, depth_executor, depth_waiter, depth_notice, depth_act}
use Rattle.sock.proofs.Configuration.{passed, config_finds}
use Rattle.sock.proofs.Located.{Enabled, enabled_stands}
use Rattle.sock.proofs.Steps.{FitsSpot, enabled_fits}
use Rattle.sock.proofs.Shrinking.{NoLarger, plug_shrinks, Lighter, NoLargerAll, both_shrink}

-- which working end, with nothing left to run, meets which waiting end
pub data Meets (s e e' : ℕ) : Run → Run → Type 0 where
  reply_meets : {o : ℕ} {y x : List ℕ} {dead : Bool} {l : Entries} → length y ≡ length x → Meets s e e' (executor o y e' s nil) (waiter o x dead e s l)
  fault_meets : {o f : ℕ} {x : List ℕ} {dead : Bool} {l : Entries} → Meets s e e' (notice o f e' s) (waiter o x dead e s l)

-- ---- what the two become

nil_for_executor : (o : ℕ) (y : List ℕ) (e s : ℕ) → NoLarger nil (executor o y e s nil)
nil_for_executor o y e s =
    record { shorter = omega (arith, size_nil, size_executor o y e s nil); shallower = omega (arith, depth_nil, depth_executor o y e s nil) }

nil_for_notice : (o f e s : ℕ) → NoLarger nil (notice o f e s)
nil_for_notice o f e s =
    record { shorter = omega (arith, size_nil, size_notice o f e s); shallower = omega (arith, depth_nil, depth_notice o f e s) }

module _ (o : ℕ) (x : List ℕ) (dead : Bool) (e s : ℕ) (l : Entries) where
  inst_for_waiter : NoLarger (act (inst_of l)) (waiter o x dead e s l)
  unfolding words exprs_words depth exprs_depth
  inst_for_waiter =
      record {
        shorter = omega (arith, size_act (inst_of l), ap length (append-nil (entries_words l)), size_waiter o x dead e s l);
        shallower = omega (arith, depth_act (inst_of l), depth_waiter o x dead e s l);
      }

  throw_for_waiter : (f : ℕ) → NoLarger (act (throw_of f)) (waiter o x dead e s l)
  unfolding words exprs_words depth exprs_depth
  throw_for_waiter f =
      record {
        shorter = omega (arith, size_act (throw_of f), size_waiter o x dead e s l);
        shallower = omega (arith, depth_act (throw_of f), depth_waiter o x dead e s l);
      }

  nil_for_waiter : NoLarger nil (waiter o x dead e s l)
  nil_for_waiter =
      record { shorter = omega (arith, size_nil, size_waiter o x dead e s l); shallower = omega (arith, depth_nil, depth_waiter o x dead e s l) }

-- the first sends a message that the second takes, and neither grows
record Delivers (s e e' issued : ℕ) (vs vs' : List ℕ) (fs : List Frame) (r r' : Run) : Type 0 where
  message : Message
  sent : move_of vs fs r ≡ sends message
  exchanged : Exchange
  taken : exchange (record { issued = issued; sender = e; receiver = e'; values = vs'; process = r'; branch = 0 }) message ≡ some exchanged
  sender : NoLarger exchanged.sender r
  receiver : NoLarger exchanged.receiver r'
  counted : length exchanged.values ≡ length vs'
  kept : exchanged.issued ≡ issued
  serial : exchanged.serial ≡ s

-- the tests that the two ends pass
named : (e e' s o : ℕ) → T (eqb 0 0 && eqb s s && eqb o o && eqb e' e' && eqb e e)
named e e' s o =
    and_both (eqb s s && eqb o o && eqb e' e') (eqb e e)
    (and_both (eqb s s && eqb o o) (eqb e' e') (and_both (eqb s s) (eqb o o) (eqb_refl s) (eqb_refl o)) (eqb_refl e')) (eqb_refl e)

values_counted : (vs xs : List ℕ) → length (values_at vs xs) ≡ length xs
unfolding values_at
values_counted vs [] = refl
values_counted vs (x ∷ xs) = ap suc (values_counted vs xs)

pub set_counted : (vs xs us : List ℕ) → length (set_all vs xs us) ≡ length vs
unfolding set_all
set_counted vs [] us = refl
set_counted vs (x ∷ xs) [] = refl
set_counted vs (x ∷ xs) (u ∷ us) = set_counted (set vs x u) xs us ∙ length-set vs x u

delivers : {s e e' : ℕ} {r r' : Run} (issued : ℕ) (vs vs' : List ℕ) (fs : List Frame) → Meets s e e' r r' → Delivers s e e' issued vs vs' fs r r'
unfolding move_of once_done is_done exchange awaited if_waits
delivers {s} {e} {e'} issued vs vs' fs (reply_meets {o} {y} {x} {dead} {l} same) =
    record {
      message = reply o (values_at vs y) e' s;
      sent = refl;
      exchanged =
          record {
            sender = nil;
            receiver = act (inst_of l);
            values = set_all vs' x (values_at vs y);
            issued = issued;
            serial = s;
            fault = 0;
          };
      taken =
          passed _ (named e e' s o)
          ∙ passed _ (true_test (eq-eqb (length (values_at vs y)) (length x) (values_counted vs y ∙ same)));
      sender = nil_for_executor o y e' s;
      receiver = inst_for_waiter o x dead e s l;
      counted = set_counted vs' x (values_at vs y);
      kept = refl;
      serial = refl;
    }
delivers {s} {e} {e'} issued vs vs' fs (fault_meets {o} {f} {x} {dead} {l}) =
    record {
      message = failure o f e' s;
      sent = refl;
      exchanged =
          record { sender = nil; receiver = cond dead nil (act (throw_of f)); values = vs'; issued = issued; serial = s; fault = 1 };
      taken = passed _ (named e e' s o);
      sender = nil_for_notice o f e' s;
      receiver = cond-case (λ r. NoLarger r (waiter o x dead e s l)) dead (λ t. nil_for_waiter o x dead e s l) (λ t. throw_for_waiter o x dead e s l f);
      counted = refl;
      kept = refl;
      serial = refl;
    }

-- ---- an accepted step

pub given : {A B : Type 0} (r : Refusal) {o : Option A} {a : A} (k : A → Result B) → o ≡ some a → ((r ! o) >>= k) ≡ k a
unfolding ◌>>=◌ ◌!◌
given r k e = rw e

pub unless_true : {A : Type 0} (r : Refusal) (b : Bool) (k : Result A) → T b → (◌>>◌ (r unless b) k) ≡ k
unfolding ◌>>◌ ◌unless◌
unless_true r true k t = refl
unless_true r false k t = absurd t

module _ (limits : Limits) (ws : List ℕ) (k : Numbers) (room : ℕ) {c : Config} {a : Spot} {m : Move} {b : Spot} {x : Effect} {st : Stepped} where
  step_accepted :
      read_config limits ws ≡ some c →
      enabled_at c k.engine k.position ≡ some a →
      movable k (move_of a.values a.frames a.process) ≡ some m →
      partner c k a m ≡ some b →
      effect c k a b m ≡ some (some x) →
      carried_out c a b x ≡ some st →
      st.config.issued ≤ 65535 →
      engines_depth st.config.engines ≤ limits.deepest →
      length (encode st.config) ≤ limits.longest →
      length (encode st.config) ≤ room →
      step limits ws k room ≡ done st
  unfolding step
  step_accepted read at moves with-partner has-effect carried issued shallow short fits =
      given _ _ read
      ∙ given _ _ at
      ∙ given _ _ moves
      ∙ given _ _ with-partner
      ∙ given _ _ has-effect
      ∙ given _ _ refl
      ∙ given _ _ carried
      ∙ unless_true _ (leb st.config.issued 65535) _ (le→leb _ _ issued)
      ∙ unless_true _ (leb (engines_depth st.config.engines) limits.deepest) _ (le→leb _ _ shallow)
      ∙ unless_true _ (leb (length (encode st.config)) limits.longest) _ (le→leb _ _ short)
      ∙ unless_true _ (leb (length (encode st.config)) room) _ (le→leb _ _ fits)

-- what is put back where a process stood is lighter, if it is no larger than the process
pub spot_shrinks :
    (c : Config) (e p : ℕ) (a : Spot) →
    FitsConfig c →
    enabled_at c e p ≡ some a →
    (vs : List ℕ) (r : Run) →
    length vs ≡ length a.values →
    NoLarger r a.process →
    Lighter (record { values = vs; process = plug a.frames r }) (engine_at c e)
spot_shrinks c e p a f at vs r counted n =
    let x : Enabled c e p a = enabled_stands c e p a f at in
    let y : FitsSpot c a = all_some_lem (enabled_fits f e p) at in
    record { counted = counted ∙ ap length x.values; process = rw x.stands.wraps at (plug_shrinks y.frames n) }

module _ (limits : Limits) (c : Config) (r : Readable limits c) (s e p e' p' : ℕ) (a b : Spot) where
  pub delivery_accepted :
      enabled_at c e p ≡ some a →
      enabled_at c e' p' ≡ some b →
      (e ≡ e' → ⊥) →
      Meets s e e' a.process b.process →
      (room : ℕ) →
      length (encode c) ≤ room →
      (st : Stepped) × (step limits (encode c) (delivery e p e' p') room ≡ done st) × (st.serial ≡ s)
  unfolding movable partner effect also carried_out encode
  delivery_accepted at at' apart meets room fits =
      let f : FitsConfig c = r.fitting in
      let x : Enabled c e p a = enabled_stands c e p a f at in
      let y : Enabled c e' p' b = enabled_stands c e' p' b f at' in
      let d : Delivers s e e' c.issued a.values b.values a.frames a.process b.process =
      delivers c.issued a.values b.values a.frames meets in
      let g : Exchange = d.exchanged in
      let es : List Engine =
      with_engine e' g.values (plug b.frames g.receiver) (with_engine e a.values (plug a.frames g.sender) c.engines) in
      let small : NoLargerAll es c.engines =
      both_shrink c.engines e e' _ _ _ apart x.inside y.inside (spot_shrinks c e p a f at a.values g.sender refl d.sender)
      (spot_shrinks c e' p' b f at' g.values g.receiver d.counted d.receiver) in
      let different : T (not (eqb e e')) = not_T (eqb e e') λ t. apart (eqb→eq e e' t) in
      let k : Numbers = delivery e p e' p' in
      let st : Stepped = record { config = record { issued = g.issued; engines = es }; kind = kind (as_node a.process); serial = g.serial; fault = g.fault } in
      let made : effect c k a b (sends d.message) ≡ some (some (between g)) = rw (x.engine, y.engine, d.taken) (passed (not (eqb e e')) different) in
      let carried : carried_out c a b (between g) ≡ some st = rw (x.engine, y.engine) in
      let issued : g.issued ≤ 65535 = omega (arith, d.kept, f.word) in
      let shallow : engines_depth es ≤ limits.deepest = omega (arith, r.shallow) in
      let short : length (encode st.config) ≤ length (encode c) = omega (arith, small.shorter) in (
        st,
        step_accepted limits (encode c) k room (config_finds limits c r) at (ap (movable k) d.sent) at' made carried issued shallow (omega (arith, r.short))
            (omega arith),
        d.serial,
      )
