-- `let_in` of `cabinet::engines_bytes` meets its contract: the part of the scratch is as long as the room.
use Prim.Native.Nat.{ℕ}
use native.Mathlib.Omega.{arith}
use mathlib.Core.Path.{ap, sym, ◌∙◌}
use borrow.Author.Rules.{rules}
use lib.ListN.{take}
use lib.Seq.{length-take-le}
use Rattle.std.specs.Prelude.{Ok, Err}
use Rattle.sock.specs.Bytes.{bytes_of, packed_taken, restored_bytes}
use Rattle.sock.specs.Calls.{over}
use Rattle.sock.specs.Configuration.{standard}
use Rattle.sock.specs.Engines.{join}
use Rattle.sock.specs.Journal.{taken_of}
use Rattle.bytewise.proofs.Stepping.{part_fits}
use Rattle.cabinet.proofs.Engines.{let_in_fits, let_in_answer, let_in_output}
use Rattle.cabinet.proofs.engines_bytes.let_in.Goals as goal

pub returns-in_err-length : goal.returns-in_err-length
returns-in_err-length c =
    let r = c.room_of-room.ensures in
    let l = c.in_err-length.ensures in
    let part = take c.room_of-room.result c.args.res.now in
    let room = length-take-le _ c.args.res.now r.1 ∙ r.0 in
    let fits = part_fits _ c.args.res.now r.1 r.2 in
    let answer = let_in_answer c.args.ws.now c.args.engine.now part _ c.args.out.now (Err c.in_err-length.field-0.0) l.answered l.wrote fits
    ∙ ap (λ (n : ℕ). packed_taken (taken_of (join standard c.args.ws.now c.args.engine.now n))) room in
    record {
      answered = search (rules, answer);
      wrote =
          let_in_output c.args.ws.now c.args.engine.now part _ c.args.out.now (Err c.in_err-length.field-0.0) l.answered l.wrote fits
          ∙ ap (λ (n : ℕ). restored_bytes (join standard c.args.ws.now c.args.engine.now n) c.args.out.now) room;
    }

pub slice_bounds-spread-end : goal.slice_bounds-spread-end
slice_bounds-spread-end c =
    let r = c.room_of-room.ensures in
    let l = c.in_ok-length.ensures in
    let fits = let_in_fits c.args.ws.now c.args.engine.now (take c.room_of-room.result c.args.res.now) _ c.args.out.now (Ok c.in_ok-length.length) l.answered l.wrote (part_fits _ c.args.res.now r.1 r.2) in
    sym (length-take-le _ _ (omega (arith, c.from.ensures, fits.0)))

pub spread-requires : goal.spread-requires
spread-requires c =
    let r = c.room_of-room.ensures in
    let l = c.in_ok-length.ensures in
    let fits = let_in_fits c.args.ws.now c.args.engine.now (take c.room_of-room.result c.args.res.now) _ c.args.out.now (Ok c.in_ok-length.length) l.answered l.wrote (part_fits _ c.args.res.now r.1 r.2) in
    omega (arith, c.from.ensures, fits.1, length-take-le c.from.result c.join.new.out (omega (arith, c.from.ensures, fits.0)))

pub returns : goal.returns
returns c =
    let r = c.room_of-room.ensures in
    let l = c.in_ok-length.ensures in
    let part = take c.room_of-room.result c.args.res.now in
    let room = length-take-le _ c.args.res.now r.1 ∙ r.0 in
    let fits = part_fits _ c.args.res.now r.1 r.2 in
    record {
      answered =
          let_in_answer c.args.ws.now c.args.engine.now part _ c.args.out.now (Ok c.in_ok-length.length) l.answered l.wrote fits
          ∙ ap (λ (n : ℕ). packed_taken (taken_of (join standard c.args.ws.now c.args.engine.now n))) room;
      wrote =
          c.spread.ensures
          ∙ ap (λ (n : ℕ). over (bytes_of (take n c.join.new.out)) c.args.out.now) c.from.ensures
          ∙ let_in_output c.args.ws.now c.args.engine.now part _ c.args.out.now (Ok c.in_ok-length.length) l.answered l.wrote fits
          ∙ ap (λ (n : ℕ). restored_bytes (join standard c.args.ws.now c.args.engine.now n) c.args.out.now) room;
    }
