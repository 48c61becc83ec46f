-- `take_back_bytes` of `cabinet::journal_bytes` meets its contract: the part of the scratch is as long as the room.
use Prim.Native.Nat.{ℕ}
use native.Mathlib.Omega.{arith}
use mathlib.Core.Path.{refl, ap, ◌∙◌}
use borrow.Author.Rules.{rules}
use borrow.Author.Tests.{eqb-false}
use mathlib.Core.List.{List, ◌++◌}
use lib.ListN.{take, drop, length-append}
use Rattle.std.proofs.lemmas.List.{take-append-le}
use lib.Seq.{length-take-le}
use Rattle.sock.specs.Bytes.{bytes_of}
use Rattle.sock.specs.Calls.{over}
use Rattle.layout.proofs.Refusing.{never_zero}
use Rattle.cabinet.proofs.TakingBack.{taken_as_lem, taken_refused, fits_result, taken_done, back_answer, back_output, back_held}
use Rattle.cabinet.proofs.journal_bytes.take_back_bytes.Goals as goal

pub returns-in_err-length : goal.returns-in_err-length
returns-in_err-length c =
    let r = c.room_of-room.ensures in
    let ws = c.held-ws.ensures in
    let noted = c.held_part-noted.ensures in
    let part = take c.room_of-room.result c.args.res.now in
    let room = length-take-le _ c.args.res.now (omega (arith, r.1, c.told-res)) ∙ r.0 in
    let t = c.in_err-length.ensures in
    let a = back_answer _ _ ws _ _ c.args.out.now noted _ room _ (taken_as_lem _ _ part _ _ t.answered t.wrote c.args.out.now) in
    record {
      answered = search (rules, a);
      wrote =
          taken_refused _ _ part _ _ t.answered t.wrote c.args.out.now (eqb-false _ 0 (never_zero c.in_err-length.field-0.0))
          ∙ back_output _ _ ws _ _ c.args.out.now noted _ room;
      held = back_held _ _ ws _ _ c.args.out.now noted _ r.0 c.args.res.now _ (omega (arith, r.1, c.told-res)) t.wrote;
    }

pub slice_bounds-spread-end : goal.slice_bounds-spread-end
slice_bounds-spread-end c =
    let t = c.in_ok-length.ensures in
    let fits = fits_result _ _ (take c.room_of-room.result c.args.res.now) _ _ t.answered t.wrote c.args.out.now refl in
    omega (arith, c.from.ensures, fits, length-append c.take_back.new.out (drop c.room_of-room.result c.args.res.now))

pub shared_ref_as_front-spread : goal.shared_ref_as_front-spread
shared_ref_as_front-spread c =
    let r = c.room_of-room.ensures in
    let t = c.in_ok-length.ensures in
    let fits = fits_result _ _ (take c.room_of-room.result c.args.res.now) _ _ t.answered t.wrote c.args.out.now refl in
    let part = length-take-le c.room_of-room.result c.args.res.now (omega (arith, r.1, c.told-res)) in
    omega (arith, c.from.ensures, fits, r.1, part)

pub spread-requires : goal.spread-requires
spread-requires c =
    let r = c.room_of-room.ensures in
    let t = c.in_ok-length.ensures in
    let fits = fits_result _ _ (take c.room_of-room.result c.args.res.now) _ _ t.answered t.wrote c.args.out.now refl in
    let part = length-take-le c.room_of-room.result c.args.res.now (omega (arith, r.1, c.told-res)) in
    omega (arith, c.from.ensures, fits, r.2, part, c.take_back.auto.out, length-take-le c.from.result (c.take_back.new.out ++ drop c.room_of-room.result c.args.res.now) (omega (arith, c.from.ensures, fits, length-append c.take_back.new.out (drop c.room_of-room.result c.args.res.now))))

pub returns : goal.returns
returns c =
    let r = c.room_of-room.ensures in
    let ws = c.held-ws.ensures in
    let noted = c.held_part-noted.ensures in
    let part = take c.room_of-room.result c.args.res.now in
    let room = length-take-le _ c.args.res.now (omega (arith, r.1, c.told-res)) ∙ r.0 in
    let t = c.in_ok-length.ensures in
    let fits = fits_result _ _ part _ _ t.answered t.wrote c.args.out.now refl in
    let held = back_held _ _ ws _ _ c.args.out.now noted _ r.0 c.args.res.now _ (omega (arith, r.1, c.told-res)) t.wrote in
    record {
      answered = back_answer _ _ ws _ _ c.args.out.now noted _ room _ (taken_as_lem _ _ part _ _ t.answered t.wrote c.args.out.now);
      wrote =
          c.spread.ensures
          ∙ ap (λ (us : List ℕ). over (bytes_of us) c.args.out.now) (take-append-le c.from.result c.take_back.new.out _ (omega (arith, c.from.ensures, fits)))
          ∙ ap (λ (n : ℕ). over (bytes_of (take n c.take_back.new.out)) c.args.out.now) c.from.ensures
          ∙ taken_done _ _ part _ _ t.answered t.wrote c.args.out.now refl
          ∙ back_output _ _ ws _ _ c.args.out.now noted _ room;
      held = held;
    }
