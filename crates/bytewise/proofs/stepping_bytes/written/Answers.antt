-- `written` of `bytewise::stepping_bytes` meets its contract: the part of the scratch is as long as the room.
use native.Mathlib.Omega.{arith}
use mathlib.Core.Path.{refl, sym, ap, ◌∙◌}
use Prim.Native.Nat.{ℕ}
use lib.ListN.{take}
use lib.Seq.{length-take-le}
use Rattle.sock.specs.Bytes.{bytes_of}
use Rattle.sock.specs.Calls.{over}
use Rattle.bytewise.proofs.Stepping.{law_refused, law_fits, law_done, sized_output}
use Rattle.stepping.proofs.Refused.{is_refused}
use Rattle.bytewise.proofs.stepping_bytes.written.Goals as goal

pub returns-in_err-a-clause-wrote : goal.returns-in_err-a-clause-wrote
returns-in_err-a-clause-wrote c =
    let room = c.room_of-room.ensures in
    law_refused _ c.args.ws.now _ (take c.room_of-room.result c.args.res.now) c.args.out.now _ (c.in_err-a.ensures {u = tt}).answered (is_refused _)
    ∙ sized_output _ refl _ (length-take-le _ c.args.res.now room.1 ∙ room.0) _

pub slice_bounds-spread-end : goal.slice_bounds-spread-end
slice_bounds-spread-end c =
    let f = law_fits _ c.args.ws.now _ (take c.room_of-room.result c.args.res.now) c.args.out.now _ (c.in_ok-a.ensures {u = tt}).answered refl in
    sym (length-take-le _ _ (omega (arith, f, c.step_at.auto.out, c.from.ensures)))

pub returns-clause-wrote : goal.returns-clause-wrote
returns-clause-wrote c =
    let s = c.in_ok-a.ensures {u = tt} in
    let room = c.room_of-room.ensures in
    c.spread.ensures
    ∙ ap (λ (n : ℕ). over (bytes_of (take n c.step_at.new.out)) c.args.out.now) c.from.ensures
    ∙ law_done _ c.args.ws.now _ (take c.room_of-room.result c.args.res.now) c.args.out.now _ s.answered refl _ s.written
    ∙ sized_output _ refl _ (length-take-le _ c.args.res.now room.1 ∙ room.0) _
