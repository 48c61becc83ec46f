-- `translated` of `cabinet::planning_bytes` meets its contract: the part of the scratch is as long as the room.
use Prim.Native.Nat.{ℕ}
use native.Mathlib.Omega.{arith}
use mathlib.Core.Path.{ap, sym, ◌∙◌}
use borrow.Author.Rules.{rules}
use lib.ListN.{take}
use lib.Seq.{length-take-le}
use Rattle.std.specs.Prelude.{Ok, Err}
use Rattle.sock.specs.Bytes.{bytes_of}
use Rattle.sock.specs.Calls.{over}
use Rattle.sock.specs.Configuration.{standard}
use Rattle.planning.specs.Bytes.{translated_bytes}
use Rattle.planning.specs.Call.{translate, answer_of}
use Rattle.bytewise.proofs.Stepping.{part_fits}
use Rattle.cabinet.proofs.Planning.{number_is, translated_fits, translated_output}
use Rattle.cabinet.proofs.planning_bytes.translated.Goals as goal

pub returns-in_err-length : goal.returns-in_err-length
returns-in_err-length c =
    let r = c.room_of-room.ensures in
    let l = c.in_err-length.ensures in
    let part = take c.room_of-room.result c.args.res.now in
    let room = length-take-le _ c.args.res.now r.1 ∙ r.0 in
    let fits = part_fits _ c.args.res.now r.1 r.2 in
    let answer = number_is c.args.ws.now part _ c.args.out.now (Err c.in_err-length.field-0.0) l.answered l.written fits
    ∙ ap (λ (n : ℕ). answer_of (translate standard c.args.ws.now n)) room in
    record {
      answered = search (rules, answer);
      wrote =
          translated_output c.args.ws.now part _ c.args.out.now (Err c.in_err-length.field-0.0) l.answered l.written fits
          ∙ ap (λ (n : ℕ). translated_bytes (translate standard c.args.ws.now n) c.args.out.now) room;
    }

pub slice_bounds-spread-end : goal.slice_bounds-spread-end
slice_bounds-spread-end c =
    let r = c.room_of-room.ensures in
    let l = c.in_ok-length.ensures in
    let fits = translated_fits c.args.ws.now (take c.room_of-room.result c.args.res.now) _ c.args.out.now (Ok c.in_ok-length.length) l.answered l.written (part_fits _ c.args.res.now r.1 r.2) in
    sym (length-take-le _ _ (omega (arith, c.from.ensures, fits.0)))

pub spread-requires : goal.spread-requires
spread-requires c =
    let r = c.room_of-room.ensures in
    let l = c.in_ok-length.ensures in
    let fits = translated_fits c.args.ws.now (take c.room_of-room.result c.args.res.now) _ c.args.out.now (Ok c.in_ok-length.length) l.answered l.written (part_fits _ c.args.res.now r.1 r.2) in
    omega (arith, c.from.ensures, fits.1, length-take-le c.from.result c.translate.new.out (omega (arith, c.from.ensures, fits.0)))

pub returns : goal.returns
returns c =
    let r = c.room_of-room.ensures in
    let l = c.in_ok-length.ensures in
    let part = take c.room_of-room.result c.args.res.now in
    let room = length-take-le _ c.args.res.now r.1 ∙ r.0 in
    let fits = part_fits _ c.args.res.now r.1 r.2 in
    record {
      answered =
          number_is c.args.ws.now part _ c.args.out.now (Ok c.in_ok-length.length) l.answered l.written fits
          ∙ ap (λ (n : ℕ). answer_of (translate standard c.args.ws.now n)) room;
      wrote =
          c.spread.ensures
          ∙ ap (λ (n : ℕ). over (bytes_of (take n c.translate.new.out)) c.args.out.now) c.from.ensures
          ∙ translated_output c.args.ws.now part _ c.args.out.now (Ok c.in_ok-length.length) l.answered l.written fits
          ∙ ap (λ (n : ℕ). translated_bytes (translate standard c.args.ws.now n) c.args.out.now) room;
    }
