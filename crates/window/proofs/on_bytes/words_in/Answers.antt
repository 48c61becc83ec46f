-- `words_in` of `window::on_bytes` meets its contract.
use native.Mathlib.Omega.{arith}
use Prim.Native.Nat.{ℕ, ◌+◌, ◌*◌}
use mathlib.Core.Path.{◌≡◌}
use lib.ListN.{get_or}
use Rattle.std.proofs.Common.{rules}
use Rattle.window.proofs.FromFn.{from_calls}
use Rattle.window.proofs.Spelling.{words_read}
use Rattle.window.proofs.on_bytes.words_in.Goals as goal

pub returns : goal.returns
returns c =
    let bytes = c.args.bytes.now in
    words_read bytes c.from_fn.result (omega arith) c.from_fn.ensures.items.long
    (from_calls _ _ c.from_fn.result (λ (i word : ℕ). word ≡ get_or bytes (2 * i) 0 * 256 + get_or bytes (2 * i + 1) 0) (λ i word q k. search rules) 1089 c.from_fn.ensures.items)
