-- An act at smaller figures, by the act at larger ones: what is accepted there is accepted here, and hands on the same words. A step is so by
-- `InsideSteps`; a joining and a leaving because what they read is read here too, and what bounds the newcomer and the result is no less.
-- Assumes nothing.
use Prim.Native.Nat.{ℕ, suc}
use native.Mathlib.Omega.{arith}
use mathlib.Core.Path.{◌≡◌, sym, ap, subst, ◌∙◌}
use mathlib.Core.Bool.{true}
use mathlib.Core.Option.{some}
use mathlib.Core.List.{List}
use lib.Dec.{T, leb, ltb, eqb}
use lib.ListN.{length}
use borrow.Author.Tests.{lt-ltb, le-leb}
use Rattle.sock.specs.Configuration.{Limits, Engine, encode}
use Rattle.sock.specs.Calls.{Result, done, ◌>>=◌, ◌>>◌, ◌!◌, ◌unless◌}
use Rattle.sock.specs.Journal.{taken_of}
use Rattle.sock.specs.Engines.{newcomer, with_next, admitting, join, join_answer, join_output, without_last, may_leave, leave, leave_answer, leave_output}
use Rattle.sock.specs.Cabinets.{◌inside◌}
use Rattle.sock.specs.House.{Act, stepping, joining, leaving, accepts, words_after}
use Rattle.sock.proofs.Logic.{test_true}
use Rattle.sock.proofs.Steps.{sure_done_lem}
use Rattle.sock.proofs.Engines.{New, newcomer_finds, join_joins, leave_left}
use Rattle.sock.proofs.Events.{taken_number}
use Rattle.sock.proofs.Inside.{read_larger}
use Rattle.sock.proofs.InsideSteps.{accepted_larger, next_larger}

module _ (s l : Limits) (h : s inside l) where
  new_larger : {n : ℕ} {ws : List ℕ} {e : Engine} → New s n ws e → New l n ws e
  new_larger x = record { words = x.words; fitting = x.fitting; shallow = omega (arith, x.shallow, h.0); scoped = x.scoped; fresh = x.fresh }

  join_larger : (ws engine : List ℕ) (room : ℕ) {new : List ℕ} → join s ws engine room ≡ done new → join l ws engine room ≡ done new
  unfolding join admitting ◌>>=◌ ◌>>◌ ◌!◌ ◌unless◌
  join_larger ws engine room d =
      let x = sure_done_lem (join_joins s ws engine room) d in
      let size : ℕ = length (encode (with_next x.before x.comer)) in
      let few : ltb (length x.before.engines) 8 ≡ true = lt-ltb (length x.before.engines) 8 x.few in
      let found : newcomer l (suc (length x.before.engines)) engine ≡ some x.comer =
      newcomer_finds l (suc (length x.before.engines)) engine (omega (arith, x.few)) (new_larger x.new) in
      let fits : leb size l.longest ≡ true = le-leb size l.longest (omega (arith, x.calm.readable.short, h.1)) in
      let enough : leb size room ≡ true = le-leb size room x.enough in
      rw (read_larger s l h ws x.reads, few, found, fits, enough) (ap done (sym x.words))

  leave_larger : (ws : List ℕ) (room : ℕ) {new : List ℕ} → leave s ws room ≡ done new → leave l ws room ≡ done new
  unfolding leave ◌>>=◌ ◌>>◌ ◌!◌ ◌unless◌
  leave_larger ws room d =
      let x = sure_done_lem (leave_left s ws room) d in
      let size : ℕ = length (encode (without_last x.before)) in
      rw (read_larger s l h ws x.reads, test_true (may_leave x.before) x.may, le-leb size room x.enough) (ap done (sym x.words))

  -- ---- the same result where the smaller figures give one

  join_same : (ws engine out : List ℕ) → T (accepts s ws (joining engine out)) → join s ws engine (length out) ≡ join l ws engine (length out)
  unfolding accepts join_answer
  join_same ws engine out t =
      let (new, d) = taken_number (join s ws engine (length out)) (test_true _ t) in
      d ∙ sym (join_larger ws engine (length out) d)

  leave_same : (ws out : List ℕ) → T (accepts s ws (leaving out)) → leave s ws (length out) ≡ leave l ws (length out)
  unfolding accepts leave_answer
  leave_same ws out t =
      let (new, d) = taken_number (leave s ws (length out)) (test_true _ t) in
      d ∙ sym (leave_larger ws (length out) d)

  pub accepts_larger : (ws : List ℕ) (a : Act) → T (accepts s ws a) → T (accepts l ws a)
  unfolding accepts join_answer leave_answer
  accepts_larger ws (stepping k) t = accepted_larger s l h ws k t
  accepts_larger ws (joining engine out) t = subst (λ (r : Result (List ℕ)). T (eqb (taken_of r).number 0)) (join_same ws engine out t) t
  accepts_larger ws (leaving out) t = subst (λ (r : Result (List ℕ)). T (eqb (taken_of r).number 0)) (leave_same ws out t) t

  pub words_larger : (ws : List ℕ) (a : Act) → T (accepts s ws a) → words_after s ws a ≡ words_after l ws a
  unfolding words_after accepts join_answer join_output leave_answer leave_output
  words_larger ws (stepping k) t = next_larger s l h ws k t
  words_larger ws (joining engine out) t = rw (join_same ws engine out t)
  words_larger ws (leaving out) t = rw (leave_same ws out t)
